use Rattle.std.proofs.Common.{◌≡◌, ◌≤◌, inl, true, arith, length, refl, rules, ap, ◌∙◌}
use Rattle.tipc_node_lock.specs.Locked.{LockedState}
use Rattle.tipc_node_lock.specs.Moves.MessagesMove.{none_moved}
use Rattle.tipc_node_lock.proofs.Moving.{all_cleared, cleared_more, moves_then}
use Rattle.tipc_node_lock.proofs.locked.LockedNode.move_all.Goals as goal

pub loop-index-init : goal.loop-index-init
loop-index-init g c = (none_moved _ _, λ k less p there. absurd (omega (arith, less)), refl, refl, omega arith)

pub returns-then-not-move_at-clause-moves : goal.returns-then-not-move_at-clause-moves
returns-then-not-move_at-clause-moves g c =
    let i = c.loop-index.invariant in
    let at = c.move_at.ensures.moves in
    let before = i.4 in
    let here = at.few in
    let more = c.loop-index-test.true in
    let end = c.len-index-end.ensures in
    let len = c.self.inside.places.ok.0 in
    let few = c.self.invariant.0.inboxes.few in
    record {
      moves = moves_then _ _ _ _ _ _ i.0 at.moves;
      of_table = at.of_table ∙ i.3;
      few = omega (arith, before, here, more, end, len, few);
    }

pub loop-index-preserved : goal.loop-index-preserved
loop-index-preserved g c =
    let i = c.loop-index.invariant in
    let at = c.move_at.ensures.moves in
    let on : c.move_at.result ≡ true = search rules in
    let before = i.4 in
    let here = at.few in (
      moves_then _ _ _ _ _ _ i.0 at.moves,
      cleared_more c.loop-index.index c.loop-index.self c.move_at.new.self i.1 at.elsewhere (c.move_at.ensures.cleared on),
      at.places ∙ i.2,
      at.of_table ∙ i.3,
      omega (arith, before, here),
    )

pub returns-clause-rests : goal.returns-clause-rests
returns-clause-rests g c =
    let i = c.loop-index.invariant in
    let places = i.2 in
    let stop = c.loop-index-test.false in
    let end = c.len-index-end.ensures in
    let len = c.self.inside.places.ok.0 in
    let same = ap (λ (n : LockedState _). length n.places) c.self.view_is in
    let all : length c.loop-index.self.places ≤ c.loop-index.index = omega (arith, places, stop, end, len, same) in
    inl (all_cleared c.loop-index.index c.loop-index.self i.1 all)
