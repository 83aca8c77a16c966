-- What is known before the first step is made again, and what the answer behind the last one says.
use Rattle.std.specs.List.{All, count_by}
use Rattle.std.specs.List.Sorted.{IsNonDecreasingBy, IsPermutation}
use Rattle.std.specs.Prelude.{Some, None, option_map, replicate, slice_get, slice_index_or}
use Rattle.std.proofs.Common.{◌≡◌, ℕ, ◌%◌, ◌^◌, ◌<◌, ◌≤◌, Bool, arith, List, [], ◌∷◌, length, map, refl, sym, ◌∙◌, ap}
use Rattle.std.proofs.lemmas.List.{get_or-replicate, length-map, length-replicate}
use Rattle.std.proofs.lemmas.Option.{get_or_from_slice_get, slice_get-map, slice_get_within}
use Rattle.tipc_pick.specs.Choosing.{Choosing}
use Rattle.tipc_journal.specs.declared.entries.Entry.{Entry}
use Rattle.tipc_journal.specs.Counting.{names_sent, stamps}
use Rattle.tipc_journal.specs.Steps.{PlacedStep, steps}
use Rattle.tipc_node_lock.specs.Locked.{IsWellKept, LockedState}
use Rattle.tipc_replay.specs.States.{MemberState, ReplayState, journal_now}
use Rattle.tipc_replay.proofs.InLists.{all_at}
use Rattle.tipc_live.specs.declared.answers.Audit.{Audit}
use Rattle.tipc_live.specs.declared.answers.Audit.TheVariants.{Told, Twice, Yes}
use Rattle.tipc_live.specs.declared.keeping.KeptStep.{KeptStep}
use Rattle.tipc_live.specs.Auditing.{Audits, ShowsAnswer}
use Rattle.tipc_live.specs.Following.{AreTurned, HasFollowed, IsMadeBelow}
use Rattle.tipc_live.specs.Keeping.{stamp_of, uses_in}
use Rattle.tipc_live.specs.Nodes.{locked_number}
use Rattle.tipc_live.specs.Stamping.{kept_from}
use Rattle.tipc_live.specs.Telling.{AllTellTrue}
use Rattle.tipc_live.proofs.Course.{AreInOrder, IsOnCourse, course_ends}
use Rattle.tipc_live.proofs.Ordered.{rise_where_once}
use Rattle.tipc_live.proofs.Stamped.{once_in_all}
use Rattle.tipc_live.proofs.Turning.{journal_of}
use Rattle.tipc_live.proofs.Twins.{stamps_in_order}

-- ---- the choosers at their first turn

-- a journal of which no step has a stamp below 0 sent nothing by name
none_below : (p : PlacedStep → Bool) (ps : List PlacedStep) → All (λ s. s < 0) (map (λ (q : PlacedStep). q.step.by.stamp) ps) → count_by p ps ≡ 0
none_below p [] all = refl
none_below p (q ∷ qs) all = let low : q.step.by.stamp < 0 = all 0 0 (omega arith) in absurd (omega (arith, low))

names_none : (journal : List Entry) → All (λ s. s < 0) (stamps journal) → names_sent journal ≡ 0
unfolding names_sent stamps
names_none journal all = none_below _ (steps journal) all

-- two lists that are given by one value at each place
given_alike : {A B C : Type 0} (f : A → C) (g : B → C) (xs : List A) (ys : List B) (i : ℕ) (x : A) (y : B) → map f xs ≡ map g ys → slice_get xs i ≡ Some x → slice_get ys i ≡ Some y → f x ≡ g y
given_alike f g xs ys i x y same there there' =
    let both : Some (f x) ≡ Some (g y) =
    sym (slice_get-map f xs i ∙ ap (option_map f) there) ∙ ap (λ w. slice_get w i) same ∙ slice_get-map g ys i ∙ ap (option_map g) there' in
    cc

first_turn : {A : Type 0} (f : A → ℕ) (xs : List A) (n i : ℕ) (x : A) → map f xs ≡ replicate n 0 → slice_get xs i ≡ Some x → f x ≡ 0
first_turn f xs n i x zeros there =
    let given : slice_get (replicate n 0) i ≡ Some (f x) = ap (λ w. slice_get w i) (sym zeros) ∙ slice_get-map f xs i ∙ ap (option_map f) there in
    let within = slice_get_within (replicate n 0) i (f x) given in
    let size = length-replicate {A = ℕ} n 0 in
    sym (get_or_from_slice_get (replicate n 0) i (f x) 0 given) ∙ get_or-replicate n i 0 0 (omega (arith, within, size))

-- the choosers of nodes of which no step is made stand at their turns
pub turned_first : {P Q : Type 0} (gives : P → ℕ → ℕ → ℕ → Type 0) (pick_of : Q → P) (nodes : List (LockedState P)) (replay : ReplayState) (cs : List (Choosing Q)) → HasFollowed gives nodes replay 0
    → map (λ (c : Choosing Q). pick_of c.pick) cs ≡ map (λ (n : LockedState P). n.chooser.pick) nodes → map (λ (c : Choosing Q). c.turn) cs ≡ replicate (length nodes) 0 → AreTurned pick_of nodes replay cs
turned_first {P} {Q} gives pick_of nodes replay cs f picks turns = record {
  count = sym (length-map cs (λ (c : Choosing Q). pick_of c.pick)) ∙ ap length picks ∙ length-map nodes (λ (n : LockedState P). n.chooser.pick);
  each = λ place n c there chosen. (
    given_alike (λ (x : Choosing Q). pick_of x.pick) (λ (x : LockedState P). x.chooser.pick) cs nodes place c n picks chosen there,
    first_turn (λ (x : Choosing Q). x.turn) cs (length nodes) place c turns chosen ∙ sym (ap (λ x. x % 2 ^ 64) (nothing_sent n (f.each place n there))),
  );
}
  where
    nothing_sent : (n : LockedState P) → (m : MemberState) × (slice_index_or replay.members (locked_number n) None ≡ Some m) × IsMadeBelow gives replay.air 0 n m → names_sent (journal_now replay.members (locked_number n)) ≡ 0
    nothing_sent n (m, is, made) = ap names_sent (journal_of replay.members (locked_number n) m is) ∙ names_none m.node.journal made.front.below

-- ---- the steps in order of stamp

pub in_order : {P : Type 0} (nodes : List (LockedState P)) (ks : List KeptStep) → IsPermutation (kept_from 0 nodes) ks → IsNonDecreasingBy stamp_of ks
    → ((stamp : ℕ) → uses_in (map stamp_of ks) stamp ≤ 1) → AreInOrder nodes ks
in_order nodes ks all order once = record { all = all; rise = rise_where_once (map stamp_of ks) (stamps_in_order ks order) once }

-- behind the last step nothing of the other answers is so
pub course_shows : {P : Type 0} (gives : P → ℕ → ℕ → ℕ → Type 0) (nodes : List (LockedState P)) (ks : List KeptStep) (replay : ReplayState) (i : ℕ) → AreInOrder nodes ks → All IsWellKept nodes
    → IsOnCourse gives nodes ks replay i → length ks ≤ i → ShowsAnswer gives nodes replay Yes
course_shows gives nodes ks replay i o all c end =
    course_ends gives nodes ks replay i o (λ place n there. (let w = all_at IsWellKept nodes place n all there in (w.told.whole, w.heard))) c end

-- ---- the answer

-- where no stamp stands twice and all passes tell what is so, the answer is shown by what was made
pub audits_so : {P : Type 0} (gives : P → ℕ → ℕ → ℕ → Type 0) (nodes : List (LockedState P)) (ks : List KeptStep) (replay : ReplayState) (answer : Audit) → IsPermutation (kept_from 0 nodes) ks
    → ((stamp : ℕ) → uses_in (map stamp_of ks) stamp ≤ 1) → All AllTellTrue nodes → ShowsAnswer gives nodes replay answer → Audits gives nodes replay answer
audits_so gives nodes ks replay (Twice stamp) all once told wrong = absurd wrong
audits_so gives nodes ks replay (Told node caller call) all once told wrong = absurd wrong
audits_so gives nodes ks replay answer all once told shows = (record { once = once_in_all nodes ks all once; told = told }, shows)
