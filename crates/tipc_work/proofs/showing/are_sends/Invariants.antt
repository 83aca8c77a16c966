use Rattle.tipc_work.specs.Plans.{named_send}
use Rattle.tipc_work.proofs.ShowingLaws.{LeavesSends}
use Rattle.tipc_work.proofs.showing.are_sends.Given as goal

-- what is left are the tries of the messages that are left
abbrev pub invariant-loop-number : goal.invariant-loop-number
invariant-loop-number l = LeavesSends (named_send l.plan l.node l.caller l.port) l.plan.messages l.number l.made l.rest
