-- The calls of all nodes in order of their stamps are the steps of all journals.
use Rattle.std.proofs.Common.{◌≡◌, ◌≤◌, ◌<◌, ◌+◌, ◌==◌, ℕ, Bool, true, false, List, [], ◌∷◌, Option, Some, None, slice_get, slice_index_or, refl, sym, ap, ◌∙◌, subst, inl, inr, eqb-true, arith}
use Rattle.std.specs.Prelude.{if◌then◌else◌}
use Rattle.std.specs.List.{All, flat_map}
use Rattle.std.proofs.lemmas.Bool.{cases_lt}
use Rattle.std.proofs.lemmas.Bool.Decides.{nat_tests}
use Rattle.std.proofs.lemmas.Map.Keys.{below_from_sorted}
use Rattle.std.proofs.lemmas.Option.{get_or_from_slice_get, slice_get_within}
use Rattle.tipc_journal.specs.declared.entries.Entry.{Entry}
use Rattle.tipc_journal.specs.Counting.{stamps, StampsRise}
use Rattle.tipc_journal.specs.Steps.{steps, NodeStep, PlacedStep}
use Rattle.tipc_world.specs.Answered.{HasStamp}
use Rattle.tipc_replay.specs.States.{journal_at, journals_of, MemberState}
use Rattle.tipc_world.specs.Merged.{call_if, call_in, calls_at, calls_with, merged, node_numbers, AreMerged, HasStep, IsMade, Recorded}
use Rattle.tipc_world.specs.States.{WorldState}
use Rattle.tipc_replay.proofs.calls.Journals.{all_get, journal_at-is, journal_at-none}
use Rattle.tipc_replay.proofs.calls.Singles.{AreSingle, are_single, in_range, none_of, only_one, range_apart, read_at, read_of}

-- Nodes have their numbers. Stamps rise along each journal, each stands in one journal alone, and they are the numbers
-- below this one.
pub record AreStamped (members : List (Option MemberState)) (recorded : ℕ) : Type 0 where
  pub numbered : (n : ℕ) (m : MemberState) → slice_index_or members n None ≡ Some m → (1 ≤ n) × (n ≤ 32)
  pub rise : (n boot : ℕ) (journal : List Entry) → journal_at members n boot ≡ Some journal → StampsRise journal
  pub below : (n boot : ℕ) (journal : List Entry) → journal_at members n boot ≡ Some journal → All (λ stamp. stamp < recorded) (stamps journal)
  pub once : (n boot n' boot' stamp : ℕ) → HasStamp members n boot stamp → HasStamp members n' boot' stamp → (n ≡ n') × (boot ≡ boot')
  pub every : (stamp : ℕ) → stamp < recorded → (n : ℕ) × (boot : ℕ) × HasStamp members n boot stamp

-- ---- steps and stamps

stamp_at : (journal : List Entry) (k : ℕ) (p : PlacedStep) → slice_get (steps journal) k ≡ Some p → slice_get (stamps journal) k ≡ Some p.step.by.stamp
unfolding stamps
stamp_at journal k p there = read_at (λ (q : PlacedStep). q.step.by.stamp) (steps journal) k p there

step_at : (journal : List Entry) (k stamp : ℕ) → slice_get (stamps journal) k ≡ Some stamp → (p : PlacedStep) × (slice_get (steps journal) k ≡ Some p) × (p.step.by.stamp ≡ stamp)
unfolding stamps
step_at journal k stamp there = read_of (λ (q : PlacedStep). q.step.by.stamp) (steps journal) k stamp there

-- a step has its stamp, and a stamp is that of a step
pub stamp_of : (members : List (Option MemberState)) (n boot : ℕ) (s : NodeStep) → HasStep members n boot s → HasStamp members n boot s.by.stamp
stamp_of members n boot s h = record {
  journal = h.journal;
  there = h.there;
  place = h.place;
  stands = stamp_at h.journal h.place h.placed h.stands ∙ ap (λ (t : NodeStep). Some t.by.stamp) h.step_is;
}

pub step_with : (members : List (Option MemberState)) (n boot stamp : ℕ) → HasStamp members n boot stamp → (s : NodeStep) × HasStep members n boot s × (s.by.stamp ≡ stamp)
step_with members n boot stamp h =
    let found = step_at h.journal h.place stamp h.stands in
    (found.0.step, record { journal = h.journal; there = h.there; place = h.place; placed = found.0; stands = found.1; step_is = refl }, found.2)

-- a stamp stands at one place of a journal
same_place : (xs : List ℕ) (i j x : ℕ) → ((k l : ℕ) → k < l → slice_get xs k ≡ Some x → slice_get xs l ≡ Some x → ⊥) → slice_get xs i ≡ Some x → slice_get xs j ≡ Some x → i ≡ j
same_place xs i j x apart one other = elim (cases_lt i j) [
  | inl below ↦ absurd (apart i j below one other)
  | inr above ↦ elim (cases_lt j i) [
    | inl below ↦ absurd (apart j i below other one)
    | inr most ↦ omega (arith, above, most)
  ]
]

one_place : (journal : List Entry) (i j stamp : ℕ) → StampsRise journal → slice_get (stamps journal) i ≡ Some stamp → slice_get (stamps journal) j ≡ Some stamp → i ≡ j
one_place journal i j stamp rise one other = same_place (stamps journal) i j stamp apart one other
  where
    apart : (k l : ℕ) → k < l → slice_get (stamps journal) k ≡ Some stamp → slice_get (stamps journal) l ≡ Some stamp → ⊥
    apart k l below first second =
        let rises = below_from_sorted (stamps journal) k l 0 rise below (slice_get_within (stamps journal) l stamp second) in
        let here = get_or_from_slice_get (stamps journal) k stamp 0 first in
        let there = get_or_from_slice_get (stamps journal) l stamp 0 second in
        absurd (omega (arith, rises, here, there))

-- ---- the calls with one stamp

if_same : (n stamp : ℕ) (p : PlacedStep) → p.step.by.stamp ≡ stamp → call_if n stamp p ≡ call_in n p.step ∷ []
if_same n stamp p same =
    let is : (p.step.by.stamp == stamp) ≡ true = grind (arith, nat_tests, same) in
    ap (λ t. if t then call_in n p.step ∷ [] else []) is

if_other : (n stamp : ℕ) (p : PlacedStep) → (p.step.by.stamp ≡ stamp → ⊥) → call_if n stamp p ≡ []
if_other n stamp p other = by (p.step.by.stamp == stamp) refl
  where
    by : (t : Bool) → (p.step.by.stamp == stamp) ≡ t → (if t then call_in n p.step ∷ [] else []) ≡ []
    by true same = absurd (other (eqb-true p.step.by.stamp stamp same))
    by false is = refl

-- those of one journal: of the steps, this one has the stamp
in_journal : (n stamp k : ℕ) (journal : List Entry) (p : PlacedStep) → StampsRise journal → slice_get (steps journal) k ≡ Some p → p.step.by.stamp ≡ stamp → flat_map (call_if n stamp) (steps journal) ≡ call_in n p.step ∷ []
in_journal n stamp k journal p rise there same = only_one (call_if n stamp) (steps journal) k p (call_in n p.step) there (if_same n stamp p same)
    (λ j q apart at. if_other n stamp q (λ also.
    apart (one_place journal j k stamp rise (stamp_at journal j q at ∙ ap Some also) (stamp_at journal k p there ∙ ap Some same))))

-- a journal in which no step has the stamp has none
none_in : (members : List (Option MemberState)) (n boot stamp : ℕ) (journal : List Entry) → journal_at members n boot ≡ Some journal → (HasStamp members n boot stamp → ⊥) → flat_map (call_if n stamp) (steps journal) ≡ []
none_in members n boot stamp journal there none = none_of (call_if n stamp) (steps journal)
    (λ k p at. if_other n stamp p (λ same. none (record { journal = journal; there = there; place = k; stands = stamp_at journal k p at ∙ ap Some same })))

-- those of one node
in_boots : (members : List (Option MemberState)) (recorded n boot stamp : ℕ) (m : MemberState) (s : NodeStep) → AreStamped members recorded → slice_index_or members n None ≡ Some m → HasStep members n boot s → s.by.stamp ≡ stamp
    → calls_at n stamp (Some m) ≡ call_in n s ∷ []
in_boots members recorded n boot stamp m s h is stands same =
    let at_boot = sym (journal_at-is members n boot m is) ∙ stands.there in
    let has : HasStamp members n boot stamp = subst (HasStamp members n boot) same (stamp_of members n boot s stands) in
    let found = in_journal n stamp stands.place stands.journal stands.placed (h.rise n boot stands.journal stands.there) stands.stands (ap (λ (t : NodeStep). t.by.stamp) stands.step_is ∙ same) in
    only_one (λ journal. flat_map (call_if n stamp) (steps journal)) (journals_of m) boot stands.journal (call_in n s) at_boot (found ∙ ap (λ t. call_in n t ∷ []) stands.step_is)
    (λ b journal apart at. none_in members n b stamp journal (journal_at-is members n b m is ∙ at) (λ other. apart (h.once n b n boot stamp other has).1))

-- a node without the stamp has none
none_at : (members : List (Option MemberState)) (n stamp : ℕ) (o : Option MemberState) → slice_index_or members n None ≡ o → ((boot : ℕ) → HasStamp members n boot stamp → ⊥) → calls_at n stamp o ≡ []
none_at members n stamp None is none = refl
none_at members n stamp (Some m) is none = none_of (λ journal. flat_map (call_if n stamp) (steps journal)) (journals_of m)
    (λ boot journal at. none_in members n boot stamp journal (journal_at-is members n boot m is ∙ at) (none boot))

number_at : (n : ℕ) → 1 ≤ n → n ≤ 32 → (j : ℕ) × (slice_get node_numbers j ≡ Some n)
unfolding node_numbers
number_at n from to = in_range 1 32 n from (omega (arith, to))

number_apart : (i j n : ℕ) → slice_get node_numbers i ≡ Some n → slice_get node_numbers j ≡ Some n → i ≡ j
unfolding node_numbers
number_apart i j n one other = range_apart 1 32 i j n one other

-- a node has a step in its journals only where it is there
node_there : (members : List (Option MemberState)) (n boot : ℕ) (s : NodeStep) → HasStep members n boot s → (m : MemberState) × (slice_index_or members n None ≡ Some m)
node_there members n boot s h = by (slice_index_or members n None) refl
  where
    by : (o : Option MemberState) → slice_index_or members n None ≡ o → (m : MemberState) × (slice_index_or members n None ≡ Some m)
    by None is = absurd (let none = sym (journal_at-none members n boot is) ∙ h.there in let wrong : ⊥ = cc in wrong)
    by (Some m) is = (m, is)

-- those of all nodes: the call of the one step that has the stamp
pub with_stamp : (members : List (Option MemberState)) (recorded n boot stamp : ℕ) (s : NodeStep) → AreStamped members recorded → HasStep members n boot s → s.by.stamp ≡ stamp → calls_with members stamp ≡ call_in n s ∷ []
unfolding calls_with
with_stamp members recorded n boot stamp s h stands same =
    let m = node_there members n boot s stands in
    let number = h.numbered n m.0 m.1 in
    let place = number_at n number.0 number.1 in
    let has : HasStamp members n boot stamp = subst (HasStamp members n boot) same (stamp_of members n boot s stands) in
    only_one (λ k. calls_at k stamp (slice_index_or members k None)) node_numbers place.0 n (call_in n s) place.1
    (ap (calls_at n stamp) m.1 ∙ in_boots members recorded n boot stamp m.0 s h m.1 stands same)
    (λ j k apart at. none_at members k stamp (slice_index_or members k None) refl (λ b other.
    apart (number_apart j place.0 n (at ∙ ap Some (h.once k b n boot stamp other has).0) place.1)))

-- ---- all calls

pub are_merged : (w : WorldState) → AreStamped w.members w.stamps → AreMerged w.members w.stamps (merged w)
unfolding merged
are_merged w h = record {
  count = singles.count;
  stand = stand;
  made = λ stamp call there.
      let within : stamp < w.stamps = subst (λ n. stamp < n) singles.count (slice_get_within (merged w) stamp call there) in
      let one = step_of stamp within in
      let is : Some (call_in one.0 one.2) ≡ Some call = sym (subst (λ k. slice_get (merged w) k ≡ Some (call_in one.0 one.2)) one.4 (stand one.0 one.1 one.2 one.3)) ∙ there in
      made_by stamp call one.0 one.1 one.2 one.3 one.4 (let same : call_in one.0 one.2 ≡ call = cc in same);
}
  where
    step_of : (stamp : ℕ) → stamp < w.stamps → (n : ℕ) × (boot : ℕ) × (s : NodeStep) × HasStep w.members n boot s × (s.by.stamp ≡ stamp)
    step_of stamp below =
        let one = h.every stamp below in
        let step = step_with w.members one.0 one.1 stamp one.2 in
        (one.0, one.1, step.0, step.1, step.2)

    zero_first : (k : ℕ) → 0 + k ≡ k
    zero_first k = omega arith

    singles : AreSingle (calls_with w.members) 0 w.stamps
    singles = are_single (calls_with w.members) 0 w.stamps (λ k below. (let one = step_of k below in
        (call_in one.0 one.2, ap (calls_with w.members) (zero_first k) ∙ with_stamp w.members w.stamps one.0 one.1 k one.2 h one.3 one.4)))

    stand : (n boot : ℕ) (s : NodeStep) → HasStep w.members n boot s → slice_get (merged w) s.by.stamp ≡ Some (call_in n s)
    stand n boot s stands =
        let has = stamp_of w.members n boot s stands in
        let below : s.by.stamp < w.stamps = all_get (λ x. x < w.stamps) (stamps has.journal) has.place s.by.stamp (h.below n boot has.journal has.there) has.stands in
        singles.each s.by.stamp (call_in n s) below (ap (calls_with w.members) (zero_first s.by.stamp) ∙ with_stamp w.members w.stamps n boot s.by.stamp s h stands refl)

    made_by : (stamp : ℕ) (call : Recorded) (n boot : ℕ) (s : NodeStep) → HasStep w.members n boot s → s.by.stamp ≡ stamp → call_in n s ≡ call → IsMade w.members stamp call
    made_by stamp call n boot s stands same is = subst (IsMade w.members stamp) is (record { boot = boot; step = s; stands = stands; stamp_is = same; call_is = refl })
