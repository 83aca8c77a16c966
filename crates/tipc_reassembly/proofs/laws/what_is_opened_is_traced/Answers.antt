use Rattle.tipc_reassembly.specs.Tracing.{IsAmong}
use Rattle.tipc_reassembly.proofs.TraceLaws.{begun_none, begun_then, opened_then}
use Rattle.tipc_reassembly.proofs.laws.what_is_opened_is_traced.Goals as goal

pub returns-clause-none : goal.returns-clause-none
returns-clause-none c = λ before. begun_none (IsAmong before)

pub returns-clause-begun : goal.returns-clause-begun
returns-clause-begun c = begun_then

pub returns-clause-opened : goal.returns-clause-opened
returns-clause-opened c = opened_then
