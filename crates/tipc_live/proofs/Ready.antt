-- What is known before a step is made again, from what the types of the nodes keep.
use Rattle.std.specs.List.{All, Contains, cons_option, filter_map, range_with_len}
use Rattle.std.specs.Prelude.{Option, Some, None, slice_get}
use Rattle.std.proofs.Common.{◌≡◌, ℕ, zero, suc, ◌<◌, true, arith, List, [], ◌∷◌, length, refl, sym, subst, ◌∙◌, ap}
use Rattle.std.proofs.lemmas.List.FromFn.{get_or-range_with_len, length-range_with_len}
use Rattle.tipc_types.specs.declared.node_calls.EventNote.{EventNote}
use Rattle.tipc_types.specs.declared.node_calls.EventNote.TheVariants.{Arrive}
use Rattle.tipc_pick.specs.Choosing.{Choosing}
use Rattle.tipc_journal.specs.declared.entries.Entry.{Entry}
use Rattle.tipc_journal.specs.Steps.{PlacedStep, steps}
use Rattle.tipc_node_lock.specs.Journals.{CanBeMade, arrival_number, arrival_numbers}
use Rattle.tipc_node_lock.specs.Locked.{IsWellKept, LockedState}
use Rattle.tipc_replay.specs.States.{ReplayState}
use Rattle.tipc_replay.proofs.InLists.{all_at}
use Rattle.tipc_live.specs.declared.keeping.KeptStep.{KeptStep}
use Rattle.tipc_live.specs.Again.{CanBeAgain}
use Rattle.tipc_live.specs.Following.{AreTurned, HasFollowed, HasOwnStamp, IsKeptOf}
use Rattle.tipc_live.specs.Nodes.{can_audit}
use Rattle.tipc_live.proofs.Making.{IsReady}

-- ---- the number of an arrival

-- a value that is given by one of several stands among all that are given
given_among : {A : Type 0} (h : A → Option ℕ) (xs : List A) (i : ℕ) (x : A) (y : ℕ) → slice_get xs i ≡ Some x → h x ≡ Some y → Contains (filter_map h xs) y
given_among h [] i x y there gives = let none : None ≡ Some x = there in absurd cc
given_among h (z ∷ zs) zero x y there gives =
    let one : Some z ≡ Some x = there in
    let same : z ≡ x = cc in
    let first : h z ≡ Some y = ap h same ∙ gives in
    subst (λ o. Contains (cons_option o (filter_map h zs)) y) (sym first) (0, omega arith, refl)
given_among h (z ∷ zs) (suc i) x y there gives = behind (h z) (given_among h zs i x y there gives)
  where
    behind : (o : Option ℕ) → Contains (filter_map h zs) y → Contains (cons_option o (filter_map h zs)) y
    behind None among = among
    behind (Some w) (k, within, is) = (suc k, omega (arith, within), is)

-- a number among those from 0 on is below their count
below_count : (n x : ℕ) → Contains (range_with_len 0 n) x → x < n
below_count n x (k, within, is) =
    let size = length-range_with_len 0 n in
    let value = get_or-range_with_len 0 n k x (omega (arith, within, size)) in
    omega (arith, within, size, value, is)

-- ---- a call that can be made again

-- a call of a journal can be made again, with the frames that were heard
again_of : (heard : List (List ℕ)) (journal : List Entry) (i : ℕ) (p : PlacedStep) → arrival_numbers journal ≡ range_with_len 0 (length heard) → slice_get (steps journal) i ≡ Some p
    → (event : EventNote) → p.step.event ≡ event → CanBeMade event → CanBeAgain heard event
unfolding arrival_numbers
again_of heard journal i p numbers there (Arrive bearer number) is can =
    let among = given_among (λ (q : PlacedStep). arrival_number q.step.event) (steps journal) i p number there (ap arrival_number is) in
    (can, below_count (length heard) number (subst (λ w. Contains w number) numbers among))
again_of heard journal i p numbers there other is can = can

-- what is known of a step, its node and its chooser
pub ready : {P Q : Type 0} (gives : P → ℕ → ℕ → ℕ → Type 0) (pick_of : Q → P) (nodes : List (LockedState P)) (old : ReplayState) (cs : List (Choosing Q)) (k : KeptStep) (c : Choosing Q)
    → can_audit nodes ≡ true → All IsWellKept nodes → (kept : IsKeptOf nodes k) → HasOwnStamp nodes k → HasFollowed gives nodes old k.by.stamp → AreTurned pick_of nodes old cs
    → slice_get cs k.node ≡ Some c → IsReady gives pick_of nodes old cs k c
ready gives pick_of nodes old cs k c can all kept own followed turned chooser =
    let here = all_at IsWellKept nodes k.node kept.node all kept.there in
    record {
      can = can;
      kept = kept;
      own = own;
      followed = followed;
      turned = turned;
      chooser = chooser;
      well = λ place n there. (let w = all_at IsWellKept nodes place n all there in (w.told.whole, w.heard));
      again =
          again_of kept.node.heard kept.node.node.journal kept.index kept.placed here.heard kept.stands kept.placed.step.event refl
          (all_at (λ (q : PlacedStep). CanBeMade q.step.event) (steps kept.node.node.journal) kept.index kept.placed here.called kept.stands);
    }
