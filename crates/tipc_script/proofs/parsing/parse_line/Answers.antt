use Rattle.tipc_script.proofs.Answering.{answer_found, answer_only}
use Rattle.tipc_script.proofs.parsing.parse_line.Goals as goal

pub returns-clause-found : goal.returns-clause-found
returns-clause-found c = answer_found c.args.line.now c.command_of.result c.command_of.ensures.fault c.command_of.ensures.exact

pub returns-clause-only : goal.returns-clause-only
returns-clause-only c = answer_only c.args.line.now c.command_of.result c.command_of.ensures.fault c.command_of.ensures.exact
