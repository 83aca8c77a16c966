-- Messages that move, one after the other: what that leaves as it was, and where it goes on.
use Rattle.std.specs.Prelude.{is_some, nat_lt, slice_get}
use Rattle.std.proofs.Common.{◌≡◌, ◌≢◌, inl, inr, ◌+◌, ◌<◌, ◌≤◌, ℕ, Bool, true, false, arith, List, [], ◌∷◌, ◌++◌, Option, Some, None, length, length-append, refl, sym, subst, ◌∙◌, ap, append-nil, append_assoc}
use Rattle.std.proofs.lemmas.Bool.Decides.{nat_tests}
use Rattle.std.proofs.lemmas.Option.{slice_get_within}
use Rattle.tipc_types.specs.declared.message_forms.Message.{Message}
use Rattle.tipc_types.specs.declared.node_calls.Answer.TheVariants as answer
use Rattle.tipc_types.specs.declared.node_calls.EventNote.TheVariants as note
use Rattle.tipc_journal.specs.Steps.{NodeStep}
use Rattle.tipc_node.specs.Nodes.{step_of}
use Rattle.tipc_node.specs.Sockets.{waiting_at}
use Rattle.tipc_node_lock.specs.Advances.{Advances}
use Rattle.tipc_node_lock.specs.Inboxes.{GaveBack, Offers, PlaceState}
use Rattle.tipc_node_lock.specs.Journals.{answers_to}
use Rattle.tipc_node_lock.specs.Locked.{IsWellKept, LockedState, by_of}
use Rattle.tipc_node_lock.specs.Moves.{IsCleared, IsClearedAt, MessagesMove, MovesMessage, MovesOnce, OffersAgain, RunsShort}
use Rattle.tipc_node_lock.specs.Moves.MessagesMove.{none_moved, one_more}
use Rattle.tipc_node_lock.specs.Passes.{PassState, having_moved, marked_short, with_drawn}
use Rattle.tipc_node_lock.proofs.Counted.{answers_others}
use Rattle.tipc_node_lock.proofs.Lists.{get_set_other, length_set}
use Rattle.tipc_node_lock.proofs.Placed.{place_there, places_apart, received_first, waits_still}

-- ---- one after the other

pub moves_then : {P : Type 0} (n m n' : LockedState P) (p q p' : PassState) → MessagesMove n m p q → MessagesMove m n' q p' → MessagesMove n n' p p'
moves_then n _ _ p _ _ first (none_moved m q) = first
moves_then n _ _ p _ _ first (one_more m k n' q r p' before once) = one_more n k n' p r p' (moves_then n m k p q r first before) once

pub moves_once : {P : Type 0} (n n' : LockedState P) (p p' : PassState) → MovesOnce n n' p p' → MessagesMove n n' p p'
moves_once n n' p p' once = one_more n n n' p p p' (none_moved n p) once

-- it answers no caller from 1 on
once_alone : {P : Type 0} (n n' : LockedState P) (p p' : PassState) (who : ℕ) → 1 ≤ who → MovesOnce n n' p p'
    → answers_to who n'.node.journal ≡ answers_to who n.node.journal
once_alone n n' p p' who from_one (inl (index, again, same)) = ap (λ (m : LockedState _). answers_to who m.node.journal) again.is
once_alone n n' p p' who from_one (inr (inl (index, moved))) =
    let t = moved.performed.turn in
    let s : NodeStep = step_of (by_of n 0 moved.stamp) (note.Receive moved.place.port) t.inside answer.Got in
    ap (answers_to who) t.turn.journal ∙ answers_others who n.node.journal s t.turn.inside (λ e. absurd (omega (arith, e, from_one)))
once_alone n n' p p' who from_one (inr (inr (same, short))) = ap (λ (m : LockedState _). answers_to who m.node.journal) same

pub moved_alone : {P : Type 0} (n n' : LockedState P) (p p' : PassState) (who : ℕ) → 1 ≤ who → MessagesMove n n' p p'
    → answers_to who n'.node.journal ≡ answers_to who n.node.journal
moved_alone _ _ _ _ who from_one (none_moved n p) = refl
moved_alone _ _ _ _ who from_one (one_more n m n' p q p' before once) = once_alone m n' q p' who from_one once ∙ moved_alone n m p q who from_one before

-- of the pass only stamps are drawn, and it may be short of memory then
abbrev pub MovedSo : PassState → PassState → Type 0
MovedSo p p' = (stamps : List ℕ) × (short : Bool) × (p' ≡ having_moved p stamps short)

-- the pass where its seat drew these numbers
abbrev drawn_so : PassState → List ℕ → Bool → PassState
drawn_so p drawn short = record p { seat = record { of_table = p.seat.of_table; drawn = drawn; seen = p.seat.seen }; short = short }

pass_still : (p : PassState) → MovedSo p p
pass_still p = ([], p.short, sym (ap (λ ds. drawn_so p ds p.short) (append-nil p.seat.drawn)))

more_drawn : (p : PassState) (stamps : List ℕ) (short : Bool) (stamp : ℕ) (then : Bool)
    → record (with_drawn (having_moved p stamps short) stamp) { short = then } ≡ having_moved p (stamps ++ stamp ∷ []) then
more_drawn p stamps short stamp then = ap (λ ds. drawn_so p ds then) (append_assoc p.seat.drawn stamps (stamp ∷ []))

once_so : {P : Type 0} (n n' : LockedState P) (p q p' : PassState) → MovedSo p q → MovesOnce n n' q p' → MovedSo p p'
once_so n n' p q p' (stamps, short, is) (inl (index, again, same)) = (stamps, short, same ∙ is)
once_so n n' p q p' (stamps, short, is) (inr (inl (index, moved))) =
    (stamps ++ moved.stamp ∷ [], short, moved.pass ∙ ap (λ r. with_drawn r moved.stamp) is ∙ more_drawn p stamps short moved.stamp short)
once_so n n' p q p' (stamps, short, is) (inr (inr (same, (stamp, next, run)))) =
    (stamps ++ stamp ∷ [], true, run ∙ ap (λ r. marked_short (with_drawn r stamp)) is ∙ more_drawn p stamps short stamp true)

pub moved_so : {P : Type 0} (n n' : LockedState P) (p p' : PassState) → MessagesMove n n' p p' → MovedSo p p'
moved_so _ _ _ _ (none_moved n p) = pass_still p
moved_so _ _ _ _ (one_more n m n' p q p' before once) = once_so m n' p q p' (moved_so n m p q before) once

-- ---- at one place

pub advances_none : {P : Type 0} (index stamps : ℕ) (n : LockedState P) (p : PassState) → Advances index stamps n n p p
advances_none index stamps n p = record { moves = none_moved n p; elsewhere = λ other apart cleared. cleared; places = refl; of_table = refl; few = omega arith }

pub advances_then : {P : Type 0} (index a b stamps : ℕ) (n m n' : LockedState P) (p q p' : PassState) → a + b ≤ stamps
    → Advances index a n m p q → Advances index b m n' q p' → Advances index stamps n n' p p'
advances_then index a b stamps n m n' p q p' fit first second = record {
  moves = moves_then n m n' p q p' first.moves second.moves;
  elsewhere = λ other apart cleared. second.elsewhere other apart (first.elsewhere other apart cleared);
  places = second.places ∙ first.places;
  of_table = second.of_table ∙ first.of_table;
  few = let one = first.few in let two = second.few in omega (arith, fit, one, two);
}

-- whether something stands by at a place
pub none_stands : (o : Option Message) → is_some o ≡ false → o ≡ None
none_stands None is = refl
none_stands (Some m) is = absurd cc

-- a message that stands by was given back
pub offered_back : (p p' : PlaceState) (m : Message) → Offers p m p' → is_some p'.standing ≡ true → (p'.standing ≢ None) × GaveBack p'.giver
offered_back p p' m (inl given) stands = absurd (lost (ap (λ (q : PlaceState). is_some q.standing) given) stands)
  where
    lost : {b : Bool} → b ≡ false → b ≡ true → ⊥
    lost none_is some_is = absurd cc
offered_back p p' m (inr back) stands =
    let some : p'.standing ≡ Some m = ap (λ (q : PlaceState). q.standing) back.0 in
    (λ none. absurd cc, subst (λ (q : PlaceState). GaveBack q.giver) (sym back.0) back.1)

-- the place of that number is this one
pub cleared_at : {P : Type 0} (n : LockedState P) (index : ℕ) (p : PlaceState) → slice_get n.places index ≡ Some p → IsCleared n p → IsClearedAt n index
cleared_at n index p at cleared q there =
    let same : p ≡ q = cc in
    subst (λ (r : PlaceState). IsCleared n r) same cleared

-- a message that stood by was offered again
pub advances_again : {P : Type 0} (index : ℕ) (n n' : LockedState P) (p : PassState) → OffersAgain index n n' → Advances index 0 n n' p p
advances_again index n n' p again = record {
  moves = moves_once n n' p p (inl (index, again, refl));
  elsewhere = λ other apart cleared q there.
      let same : slice_get n.places other ≡ Some q =
      sym (get_set_other n.places index other again.after apart) ∙ ap (λ (m : LockedState _). slice_get m.places other) (sym again.is) ∙ there in
      subst (λ (m : LockedState _). IsCleared m q) (sym again.is) (cleared q same);
  places = ap (λ (m : LockedState _). length m.places) again.is ∙ length_set n.places index again.after;
  of_table = refl;
  few = omega arith;
}

-- memory ran out
pub advances_short : {P : Type 0} (index : ℕ) (n : LockedState P) (p p' : PassState) → RunsShort p p' → Advances index 1 n n p p'
advances_short index n p p' (stamp, next, is) = record {
  moves = moves_once n n p p' (inr (inr (refl, (stamp, next, is))));
  elsewhere = λ other apart cleared. cleared;
  places = refl;
  of_table = ap (λ (q : PassState). q.seat.of_table) is;
  few =
      let drawn = ap (λ (q : PassState). length q.seat.drawn) is in
      let longer = length-append p.seat.drawn (stamp ∷ []) in
      omega (arith, drawn, longer);
}

-- a message was moved
pub advances_moved : {P : Type 0} (index : ℕ) (n n' : LockedState P) (p p' : PassState) → IsWellKept n → MovesMessage index n n' p p' → Advances index 1 n n' p p'
advances_moved index n n' p p' kept moved = record {
  moves = moves_once n n' p p' (inr (inl (index, moved)));
  elsewhere = λ other apart cleared q there. stays other apart q cleared (sym (get_set_other n.places index other moved.after apart) ∙ ap (λ ps. slice_get ps other) (sym moved.places) ∙ there);
  places = ap length moved.places ∙ length_set n.places index moved.after;
  of_table = ap (λ (q : PassState). q.seat.of_table) moved.pass;
  few =
      let drawn = ap (λ (q : PassState). length q.seat.drawn) moved.pass in
      let longer = length-append p.seat.drawn (moved.stamp ∷ []) in
      omega (arith, drawn, longer);
}
  where
    stays : (other : ℕ) → other ≢ index → (q : PlaceState) → IsClearedAt n other → slice_get n.places other ≡ Some q → IsCleared n' q
    stays other apart q cleared was = by (cleared q was)
      where
        by : IsCleared n q → IsCleared n' q
        by (inl (empty, free)) =
            let there = place_there n.node n.places index moved.place kept.told kept.inboxes moved.at in
            let sockets = (received_first n.node n'.node (by_of n 0 moved.stamp) moved.performed.frames moved.place.port (answer.Received moved.message) moved.performed.performs there).0 in
            inl (
              ap (λ s. waiting_at s q.port) sockets
                  ∙ waits_still n.node.sockets moved.place.port q.port (places_apart n.node n.places index other moved.place q kept.told kept.inboxes moved.at was apart)
                  ∙ empty,
              free,
            )
        by (inr back) = inr back

-- so many stamps more may have been drawn
pub advances_more : {P : Type 0} (index a b : ℕ) (n n' : LockedState P) (p p' : PassState) → a ≤ b → Advances index a n n' p p' → Advances index b n n' p p'
advances_more index a b n n' p p' fit moved = record {
  moves = moved.moves;
  elsewhere = moved.elsewhere;
  places = moved.places;
  of_table = moved.of_table;
  few = let few = moved.few in omega (arith, few, fit);
}

-- ---- from place to place

-- one place more is cleared
pub cleared_more : {P : Type 0} (index : ℕ) (n n' : LockedState P) → ((k : ℕ) → k < index → IsClearedAt n k)
    → ((other : ℕ) → other ≢ index → IsClearedAt n other → IsClearedAt n' other) → IsClearedAt n' index → (k : ℕ) → k < index + 1 → IsClearedAt n' k
cleared_more index n n' before elsewhere here k less = by (nat_lt k index) refl
  where
    by : (b : Bool) → nat_lt k index ≡ b → IsClearedAt n' k
    by true is = let below : k < index = grind (arith, nat_tests, is) in elsewhere k (λ e. absurd (omega (arith, below, e))) (before k below)
    by false is = let same : index ≡ k = grind (arith, nat_tests, is, less) in subst (λ (i : ℕ). IsClearedAt n' i) same here

-- where all places are, each number is
pub all_cleared : {P : Type 0} (end : ℕ) (n : LockedState P) → ((k : ℕ) → k < end → IsClearedAt n k) → length n.places ≤ end → (k : ℕ) → IsClearedAt n k
all_cleared end n before all k p there =
    let within = slice_get_within n.places k p there in
    before k (omega (arith, within, all)) p there
