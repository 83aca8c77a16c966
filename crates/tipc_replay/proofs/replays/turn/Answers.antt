-- An event other than an arrival, put together from what its calls say.
use Rattle.std.proofs.Common.{◌≤◌, [], refl, subst, sym}
use Rattle.std.specs.Prelude.{All}
use Rattle.tipc_replay.specs.Air.{IsOut}
use Rattle.tipc_replay.specs.Calls.{node_of}
use Rattle.tipc_replay.proofs.Happening.{at_its_node, can_do, happens_before, there_settled}
use Rattle.tipc_outside.specs.Frames.{frames_leaving}
use Rattle.tipc_replay.proofs.pairs.Outward.{boxed_out, is_ready}
use Rattle.tipc_replay.proofs.replays.turn.Goals as goal

pub happen_at-requires : goal.happen_at-requires
happen_at-requires g c = record {
  can = can_do c.args.members.now.items c.args.event c.requires.other c.requires.can c.requires.next;
  there = at_its_node c.args.members.now.items c.args.event c.requires.other c.requires.can;
  settled = c.requires.settled;
}

pub emit-lost-requires : goal.emit-lost-requires
emit-lost-requires g c =
    let ms = c.args.members.now.items in
    let at = node_of c.args.event in
    record {
      number = subst (λ n. (1 ≤ n) × (n ≤ 32)) (sym c.node-node.ensures) (there_settled ms at c.requires.settled (at_its_node ms c.args.event c.requires.other c.requires.can));
      outward = subst (λ n. All (IsOut n) (frames_leaving c.happen_at.new.out)) (sym c.node-node.ensures)
          (boxed_out ms _ c.args.air.now _ c.args.event [] _ _ _ c.requires.steady (is_ready ms c.args.air.now c.args.event c.requires.other c.requires.next) c.new-out.ensures c.in_ok-answer.ensures.did);
    }

pub returns-clause-happens : goal.returns-clause-happens
returns-clause-happens g c =
    let met = c.in_ok-met.ensures in
    (happens_before _ _ _ _ _ _ _ _ _ _ _ _ _ _ c.requires.settled c.node-node.ensures c.deref-2.ensures.value met.each met.beyond c.deref-3.ensures.value c.new-out.ensures c.in_ok-answer.ensures.did c.emit-lost.ensures, refl)
