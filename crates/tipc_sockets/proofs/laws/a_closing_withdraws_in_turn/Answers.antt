use Rattle.tipc_sockets.proofs.Closing.{none_left_at, sockets_withdrawn_each, withdrawn_then_closed}
use Rattle.tipc_sockets.proofs.laws.a_closing_withdraws_in_turn.Goals as goal

pub returns-clause-sockets : goal.returns-clause-sockets
returns-clause-sockets c = sockets_withdrawn_each

pub returns-clause-bare : goal.returns-clause-bare
returns-clause-bare c = λ s port h. none_left_at s h port

pub returns-clause-same : goal.returns-clause-same
returns-clause-same c = λ s port h. withdrawn_then_closed s h port
