use Rattle.tipc_header.proofs.Again.{size_field}
use Rattle.tipc_header.proofs.laws.size_field_of_spelling.Goals as goal

pub returns : goal.returns
returns c = size_field
