use Rattle.tipc_header.proofs.RoundTrip.{spelling-least, spelling-most}
use Rattle.tipc_header.proofs.Again.{length-spelling}
use Rattle.tipc_header.proofs.laws.length_of_spelling.Goals as goal

pub returns-clause-exact : goal.returns-clause-exact
returns-clause-exact c = length-spelling

pub returns-clause-least : goal.returns-clause-least
returns-clause-least c = spelling-least

pub returns-clause-most : goal.returns-clause-most
returns-clause-most c = spelling-most
