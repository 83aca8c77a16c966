use Rattle.std.proofs.Common.{◌∙◌, rules, sym}
use Rattle.tipc_replay.proofs.calls.Calls.{call_fits}
use Rattle.tipc_replay.proofs.members.Member.begin.Goals as goal

pub overflow_add-result : goal.overflow_add-result
overflow_add-result c =
    let fits = call_fits c.self.inside.node.journal c.self.inside.calls (sym c.has_room.ensures ∙ c.if-has_room.true) c.self.invariant in
    search rules
