use Rattle.std.proofs.Common.{◌≡◌, false, subst}
use Rattle.tipc_replay.specs.declared.events.WorldEvent.{WorldEvent}
use Rattle.tipc_replay.specs.Calls.{has_room_at, node_of}
use Rattle.tipc_live.proofs.Latest.{called_again}
use Rattle.tipc_live.proofs.again.call_again.Goals as goal
use Rattle.tipc_live.proofs.again.call_again.Goals.{in-Some, in-None}

pub returns : goal.returns
returns g c = elim c.match-branch-3.branch [
  | in-Some w ↦
      let step = rw w.in-Some.is at c.in_ok-happen.ensures in
      rw w.result-is
      (called_again (λ p. g.P.Pick.gives p.now) c.args.replay.now c.happen.new.replay c.args.n c.args.by c.args.call.now c.in_ok-event.event c.args.chooser.now c.happen.new.chooser w.in-Some.field-0
      c.in_ok-event.ensures step.0 step.1)
  | in-None w ↦
      let same = rw w.in-None.is at c.in_ok-happen.ensures in
      rw w.result-is (same.0, subst (λ (e : WorldEvent). has_room_at c.args.replay.now.members (node_of e) ≡ false) c.in_ok-event.ensures same.1)
]
