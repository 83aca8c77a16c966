-- The choosers of a replay stand at the turns that its journals tell.
use Rattle.std.specs.Prelude.{Option, Some, None, option_map, slice_get, slice_index_or, slice_set, unwrap_or}
use Rattle.std.proofs.Common.{◌≡◌, ◌⊎◌, inl, inr, ℕ, zero, suc, ◌+◌, ◌%◌, ◌^◌, Bool, true, false, cond, arith, List, [], ◌∷◌, refl, sym, subst, ◌∙◌, ap, get_or-set_same, get_or-set_other}
use Rattle.std.proofs.lemmas.Bool.{cases_eq}
use Rattle.std.proofs.lemmas.List.{length-set}
use Rattle.tipc_pick.specs.Choosing.{Choosing}
use Rattle.tipc_journal.specs.Counting.{names_sent}
use Rattle.tipc_journal.specs.Steps.{IsWhole}
use Rattle.tipc_journal.proofs.CountLaws.{names_sent_step}
use Rattle.tipc_node_lock.specs.Locked.{LockedState}
use Rattle.tipc_replay.specs.Choices.{after_choice}
use Rattle.tipc_replay.specs.States.{MemberState, ReplayState, journal_now, member_at}
use Rattle.tipc_replay.proofs.LookUps.{place_within}
use Rattle.tipc_live.specs.declared.keeping.KeptStep.{KeptStep}
use Rattle.tipc_live.specs.Following.{AreTurned, IsKeptOf}
use Rattle.tipc_live.specs.Nodes.{can_audit, locked_number}
use Rattle.tipc_live.proofs.Followed.{one_place}
use Rattle.tipc_live.proofs.Stepping.{StepsSo}

-- ---- look-ups

-- the journal of a node that is there
pub journal_of : (members : List (Option MemberState)) (number : ℕ) (m : MemberState) → slice_index_or members number None ≡ Some m → journal_now members number ≡ m.node.journal
unfolding journal_now member_at
journal_of members number m there = ap (λ (o : Option MemberState). unwrap_or (option_map (λ (x : MemberState). x.node.journal) o) []) there

-- that of a node that stayed
journal_same : (members members' : List (Option MemberState)) (number : ℕ) → slice_index_or members' number None ≡ slice_index_or members number None
    → journal_now members' number ≡ journal_now members number
unfolding journal_now member_at
journal_same members members' number same = ap (λ (o : Option MemberState). unwrap_or (option_map (λ (x : MemberState). x.node.journal) o) []) same

-- a value that was put into a list, and the others
get_put : {A : Type 0} (xs : List A) (i : ℕ) (y x : A) → slice_get (slice_set xs i y) i ≡ Some x → y ≡ x
get_put [] i y x there = let none : None ≡ Some x = there in absurd cc
get_put (z ∷ zs) zero y x there = let one : Some y ≡ Some x = there in cc
get_put (z ∷ zs) (suc i) y x there = get_put zs i y x there

get_past : {A : Type 0} (xs : List A) (i j : ℕ) (y x : A) → (j ≡ i → ⊥) → slice_get (slice_set xs i y) j ≡ Some x → slice_get xs j ≡ Some x
get_past [] i j y x other there = there
get_past (z ∷ zs) zero zero y x other there = absurd (other refl)
get_past (z ∷ zs) zero (suc j) y x other there = there
get_past (z ∷ zs) (suc i) zero y x other there = there
get_past (z ∷ zs) (suc i) (suc j) y x other there = get_past zs i j y x (λ same. other (ap suc same)) there

-- ---- turns

-- a turn goes on where a message was sent by name
next_turn : (now turn next : ℕ) (sent : Bool) → now ≡ turn + cond sent 1 0 → next ≡ turn % 2 ^ 64 → cond sent ((next + 1) % 2 ^ 64) next ≡ now % 2 ^ 64
next_turn now turn next true is was = omega (arith, is, was)
next_turn now turn next false is was = omega (arith, is, was)

-- the chooser of the node at which a step was made went on, and the others stand where they stood
pub turned_next : {P Q : Type 0} (gives : P → ℕ → ℕ → ℕ → Type 0) (pick_of : Q → P) (nodes : List (LockedState P)) (old new : ReplayState) (cs : List (Choosing Q)) (k : KeptStep) (kept : IsKeptOf nodes k)
    (m : MemberState) (sent : Bool) (c : Choosing Q) → can_audit nodes ≡ true → AreTurned pick_of nodes old cs → slice_get cs k.node ≡ Some c → IsWhole m.node.journal
    → slice_index_or old.members (locked_number kept.node) None ≡ Some m
    → (s : StepsSo gives kept.node old new (locked_number kept.node) kept.placed.step.by kept.placed.step.event m sent)
    → AreTurned pick_of nodes new (slice_set cs k.node (after_choice c sent))
turned_next {P} {Q} gives pick_of nodes old new cs k kept m sent c can t there whole was s = record {
  count = length-set cs k.node (after_choice c sent) ∙ t.count;
  each = λ place n x at chosen. each place n x at chosen (cases_eq place k.node);
}
  where
    here : slice_index_or new.members (locked_number kept.node) None ≡ Some s.after
    here = ap (λ ms. slice_index_or ms (locked_number kept.node) None) s.members ∙ get_or-set_same old.members (locked_number kept.node) (Some s.after) None (place_within old.members (locked_number kept.node) m was)

    first : (pick_of c.pick ≡ kept.node.chooser.pick) × (c.turn ≡ names_sent (journal_now old.members (locked_number kept.node)) % 2 ^ 64)
    first = t.each k.node kept.node c kept.there there

    own : (pick_of (after_choice c sent).pick ≡ kept.node.chooser.pick) × ((after_choice c sent).turn ≡ names_sent (journal_now new.members (locked_number kept.node)) % 2 ^ 64)
    own = (
      first.0,
      next_turn (names_sent (journal_now new.members (locked_number kept.node))) (names_sent (journal_now old.members (locked_number kept.node))) c.turn sent
          (ap names_sent (journal_of new.members (locked_number kept.node) s.after here ∙ s.records.journal)
          ∙ names_sent_step m.node.journal s.step whole s.records.inside
          ∙ ap (λ b. names_sent m.node.journal + cond b 1 0) s.sent_is
          ∙ ap (λ J. names_sent J + cond sent 1 0) (sym (journal_of old.members (locked_number kept.node) m was)))
          first.1,
    )

    each : (place : ℕ) (n : LockedState P) (x : Choosing Q) → slice_get nodes place ≡ Some n → slice_get (slice_set cs k.node (after_choice c sent)) place ≡ Some x → (place ≡ k.node) ⊎ (place ≡ k.node → ⊥)
        → (pick_of x.pick ≡ n.chooser.pick) × (x.turn ≡ names_sent (journal_now new.members (locked_number n)) % 2 ^ 64)
    each place n x at chosen (inl is) =
        let both : Some kept.node ≡ Some n = sym kept.there ∙ ap (slice_get nodes) (sym is) ∙ at in
        let node : kept.node ≡ n = cc in
        let x_is = get_put cs k.node (after_choice c sent) x (ap (slice_get (slice_set cs k.node (after_choice c sent))) (sym is) ∙ chosen) in
        subst (λ (y : LockedState P). (pick_of x.pick ≡ y.chooser.pick) × (x.turn ≡ names_sent (journal_now new.members (locked_number y)) % 2 ^ 64)) node
        (subst (λ (z : Choosing Q). (pick_of z.pick ≡ kept.node.chooser.pick) × (z.turn ≡ names_sent (journal_now new.members (locked_number kept.node)) % 2 ^ 64)) x_is own)
    each place n x at chosen (inr other) =
        let before = t.each place n x at (get_past cs k.node place (after_choice c sent) x other chosen) in
        let number_other : locked_number n ≡ locked_number kept.node → ⊥ = λ is. other (one_place nodes place k.node n kept.node can at kept.there (sym is)) in
        let still = journal_same old.members new.members (locked_number n)
        (ap (λ ms. slice_index_or ms (locked_number n) None) s.members ∙ get_or-set_other old.members (locked_number kept.node) (locked_number n) (Some s.after) None number_other) in
        (before.0, before.1 ∙ ap (λ J. names_sent J % 2 ^ 64) (sym still))
