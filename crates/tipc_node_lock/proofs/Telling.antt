-- What a section tells of its pass: the call that it made, and that it stays the same caller's.
use Rattle.std.proofs.Common.{ℕ, arith, [], ◌∷◌, length, length-append, ◌∙◌, ap}
use Rattle.tipc_types.specs.declared.node_calls.Answer.{Answer}
use Rattle.tipc_types.specs.declared.node_calls.EventNote.{EventNote}
use Rattle.tipc_node_lock.specs.Advances.{MovesAll}
use Rattle.tipc_node_lock.specs.Locked.{LockedState}
use Rattle.tipc_node_lock.specs.Locks.{HasMade}
use Rattle.tipc_node_lock.specs.Moves.{HasMovedAll}
use Rattle.tipc_node_lock.specs.Passes.{IsOfSameCaller, PassState, having_moved}
use Rattle.tipc_node_lock.specs.Sections.{MovesBehind, RecordsOneCall}
use Rattle.tipc_node_lock.proofs.Moving.{MovedSo, moved_alone, moved_so}

-- ---- a call that was made

-- messages moved behind it
pub moves_behind : {P : Type 0} (n n' : LockedState P) (p p' : PassState) → MovesAll n n' p p' → HasMovedAll n' p' → MovesBehind n n' p p'
moves_behind n n' p p' all rests = record {
  moves = all.moves;
  rests = rests;
  alone = λ who from_one. moved_alone n n' p p' who from_one all.moves;
}

-- the pass knows which call it made, and under which stamp
pub made_told : {P : Type 0} (n m n' : LockedState P) (p q p' : PassState) (stamp : ℕ) (call : EventNote) (kept : Answer) → RecordsOneCall n m p q stamp call kept
    → MovesAll m n' q p' → HasMade p p' call kept
made_told n m n' p q p' stamp call kept records all = by (moved_so m n' q p' all.moves)
  where
    by : MovedSo q p' → HasMade p p' call kept
    by (stamps, short, is) = record {
      stamp = stamp;
      next = records.next;
      inbox = records.inbox;
      moved = stamps;
      short = short;
      made = is ∙ ap (λ r. having_moved r stamps short) records.made;
    }

-- it is the same caller's, and few stamps were drawn
pub made_same : {P : Type 0} (n m n' : LockedState P) (p q p' : PassState) (stamp : ℕ) (call : EventNote) (kept : Answer) → RecordsOneCall n m p q stamp call kept
    → MovesAll m n' q p' → IsOfSameCaller p p'
made_same n m n' p q p' stamp call kept records all = by (moved_so m n' q p' all.moves)
  where
    by : MovedSo q p' → IsOfSameCaller p p'
    by (stamps, short, is) = record {
      of_table = all.of_table ∙ ap (λ (r : PassState). r.seat.of_table) records.made;
      own = ap (λ (r : PassState). r.own) is ∙ ap (λ (r : PassState). r.own) records.made;
      caller = ap (λ (r : PassState). r.caller) is ∙ ap (λ (r : PassState). r.caller) records.made;
      few =
          let more = all.few in
          let drawn = ap (λ (r : PassState). length r.seat.drawn) records.made in
          let longer = length-append p.seat.drawn (stamp ∷ []) in
          omega (arith, more, drawn, longer);
    }
