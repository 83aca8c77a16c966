-- What a step adds to the calls in order of their stamps, where its journals keep what stood in them.
use Rattle.std.proofs.Common.{◌≡◌, ◌+◌, ℕ, zero, suc, List, [], ◌∷◌, ◌++◌, Option, Some, None, length, length-append, slice_get, slice_index_or, slice_set, refl, sym, ap, subst, ◌∙◌, inl, inr, get_or-set_same, get_or-set_other, arith}
use Rattle.std.specs.Prelude.{◌⊎◌}
use Rattle.std.proofs.lemmas.Bool.{cases_eq}
use Rattle.tipc_journal.specs.declared.entries.Entry.{Entry}
use Rattle.tipc_journal.specs.Steps.{steps, step_entries, IsInside, IsWhole, NodeStep, PlacedStep}
use Rattle.tipc_journal.proofs.StepLaws.{steps_more}
use Rattle.tipc_world.specs.Answered.{HasStamp}
use Rattle.tipc_replay.specs.States.{journal_at, journals_of, MemberState}
use Rattle.tipc_world.specs.Merged.{call_in, merged, AreMerged, HasStep, IsMade, Recorded}
use Rattle.tipc_world.specs.States.{WorldState}
use Rattle.tipc_replay.proofs.calls.Journals.{get_more, journal_at-is, journal_at-same, present_at}
use Rattle.tipc_world.proofs.calls.Merging.{stamp_of, step_with}
use Rattle.tipc_replay.proofs.calls.Singles.{same_list}
use Rattle.tipc_replay.proofs.journals.Kept.{get_last}
use Rattle.tipc_replay.proofs.LookUps.{place_within}
use Rattle.tipc_link.proofs.Directions.{slice_get-append as get_longer}

-- ---- at one node

-- each journal of a node stays at its place, and each step at its place there
pub record Stay (m m' : MemberState) : Type 0 where
  pub each : (boot : ℕ) (journal : List Entry) → slice_get (journals_of m) boot ≡ Some journal
      → (journal' : List Entry) × (slice_get (journals_of m') boot ≡ Some journal') × ((k : ℕ) (p : PlacedStep) → slice_get (steps journal) k ≡ Some p → slice_get (steps journal') k ≡ Some p)

-- where journals are those of before, and maybe more behind them
pub stay_longer : (m m' : MemberState) (more : List (List Entry)) → journals_of m' ≡ journals_of m ++ more → Stay m m'
stay_longer m m' more is = record {
  each = λ boot journal there. (journal, ap (λ js. slice_get js boot) is ∙ get_longer (journals_of m) more boot journal there, λ k p stands. stands);
}

-- the steps of a journal with one more
step_stays : (J J' : List Entry) (s : NodeStep) → IsWhole J → IsInside s.inside → J' ≡ J ++ step_entries s → (k : ℕ) (p : PlacedStep) → slice_get (steps J) k ≡ Some p → slice_get (steps J') k ≡ Some p
step_stays J J' s whole inside is k p there =
    let last : PlacedStep = record { before = J; step = s } in
    ap (λ j. slice_get (steps j) k) is ∙ ap (λ ps. slice_get ps k) (steps_more J s whole inside) ∙ get_longer (steps J) (last ∷ []) k p there

step_last : (J J' : List Entry) (s : NodeStep) → IsWhole J → IsInside s.inside → J' ≡ J ++ step_entries s → slice_get (steps J') (length (steps J)) ≡ Some (record { before = J; step = s })
step_last J J' s whole inside is =
    let last : PlacedStep = record { before = J; step = s } in
    ap (λ j. slice_get (steps j) (length (steps J))) is ∙ ap (λ ps. slice_get ps (length (steps J))) (steps_more J s whole inside) ∙ get_last (steps J) last

-- where one more step is recorded
pub stay_recorded : (m m' : MemberState) (s : NodeStep) → m'.past ≡ m.past → m'.node.journal ≡ m.node.journal ++ step_entries s → IsWhole m.node.journal → IsInside s.inside → Stay m m'
stay_recorded m m' s past journal whole inside = record { each = λ boot j there. by boot j (get_more m.past m.node.journal boot j there) }
  where
    by : (boot : ℕ) (j : List Entry) → (slice_get m.past boot ≡ Some j) ⊎ ((boot ≡ length m.past) × (m.node.journal ≡ j))
        → (j' : List Entry) × (slice_get (journals_of m') boot ≡ Some j') × ((k : ℕ) (p : PlacedStep) → slice_get (steps j) k ≡ Some p → slice_get (steps j') k ≡ Some p)
    by boot j (inl old) = (j, get_longer m'.past (m'.node.journal ∷ []) boot j (ap (λ js. slice_get js boot) past ∙ old), λ k p stands. stands)
    by boot j (inr last) =
        let at_end : boot ≡ length m'.past = last.0 ∙ ap length (sym past) in (
          m'.node.journal,
          ap (slice_get (journals_of m')) at_end ∙ get_last m'.past m'.node.journal,
          λ k p stands. step_stays m.node.journal m'.node.journal s whole inside journal k p (ap (λ i. slice_get (steps i) k) last.1 ∙ stands),
        )

-- ---- at all nodes

pub here : (old : List (Option MemberState)) (a : ℕ) (before after : MemberState) → slice_index_or old a None ≡ Some before → slice_index_or (slice_set old a (Some after)) a None ≡ Some after
here old a before after was = get_or-set_same old a (Some after) None (place_within old a before was)

-- a step that stands in a journal stays there
pub step_lasts : (old : List (Option MemberState)) (a n boot : ℕ) (before after : MemberState) (s : NodeStep) → slice_index_or old a None ≡ Some before → Stay before after → HasStep old n boot s → HasStep (slice_set old a (Some after)) n boot s
step_lasts old a n boot before after s was stay h = elim (cases_eq n a) [
  | inl same ↦ at_a same
  | inr apart ↦ record {
    journal = h.journal;
    there = journal_at-same old (slice_set old a (Some after)) n boot (get_or-set_other old a n (Some after) None apart) ∙ h.there;
    place = h.place;
    placed = h.placed;
    stands = h.stands;
    step_is = h.step_is;
  }
]
  where
    at_a : n ≡ a → HasStep (slice_set old a (Some after)) n boot s
    at_a same =
        let stood : slice_get (journals_of before) boot ≡ Some h.journal = sym (journal_at-is old a boot before was) ∙ ap (λ k. journal_at old k boot) (sym same) ∙ h.there in
        let now = stay.each boot h.journal stood in
        record {
          journal = now.0;
          there = ap (λ k. journal_at (slice_set old a (Some after)) k boot) same ∙ journal_at-is (slice_set old a (Some after)) a boot after (here old a before after was) ∙ now.1;
          place = h.place;
          placed = h.placed;
          stands = now.2 h.place h.placed h.stands;
          step_is = h.step_is;
        }

-- the step that is recorded stands last in the present journal
pub step_made : (old : List (Option MemberState)) (a : ℕ) (before after : MemberState) (s : NodeStep) → slice_index_or old a None ≡ Some before → after.node.journal ≡ before.node.journal ++ step_entries s
    → IsWhole before.node.journal → IsInside s.inside → HasStep (slice_set old a (Some after)) a (length after.past) s
step_made old a before after s was journal whole inside = record {
  journal = after.node.journal;
  there = present_at (slice_set old a (Some after)) a after (here old a before after was);
  place = length (steps before.node.journal);
  placed = record { before = before.node.journal; step = s };
  stands = step_last before.node.journal after.node.journal s whole inside journal;
  step_is = refl;
}

-- and its stamp with it
pub stamp_lasts : (old : List (Option MemberState)) (a n boot stamp : ℕ) (before after : MemberState) → slice_index_or old a None ≡ Some before → Stay before after → HasStamp old n boot stamp → HasStamp (slice_set old a (Some after)) n boot stamp
stamp_lasts old a n boot stamp before after was stay h =
    let s = step_with old n boot stamp h in
    let new = slice_set old a (Some after) in
    subst (HasStamp new n boot) s.2 (stamp_of new n boot s.0 (step_lasts old a n boot before after s.0 was stay s.1))

-- ---- the calls

-- what stands in two lists stands in the first one, or in the second one behind it
either_of : {A : Type 0} (xs ys : List A) (k : ℕ) (x : A) → slice_get (xs ++ ys) k ≡ Some x → (slice_get xs k ≡ Some x) ⊎ ((j : ℕ) × (k ≡ length xs + j) × (slice_get ys j ≡ Some x))
either_of [] ys k x there = inr (k, omega arith, there)
either_of (z ∷ zs) ys zero x there = inl there
either_of (z ∷ zs) ys (suc k) x there = elim (either_of zs ys k x there) [
  | inl first ↦ inl first
  | inr second ↦ inr (second.0, (let at = second.1 in omega (arith, at)), second.2)
]

-- what stood in the journals stays there, and these calls were made with the next stamps
pub record Extends (old new : List (Option MemberState)) (stamp : ℕ) (calls : List Recorded) : Type 0 where
  pub lasts : (n boot : ℕ) (s : NodeStep) → HasStep old n boot s → HasStep new n boot s
  pub more : (k : ℕ) (call : Recorded) → slice_get calls k ≡ Some call → IsMade new (stamp + k) call

-- what was made stands among the calls
stands_in : (members : List (Option MemberState)) (recorded stamp : ℕ) (calls : List Recorded) (call : Recorded) → AreMerged members recorded calls → IsMade members stamp call → slice_get calls stamp ≡ Some call
stands_in members recorded stamp calls call h made = ap (slice_get calls) (sym made.stamp_is) ∙ h.stand call.node made.boot made.step made.stands ∙ ap Some made.call_is

made_lasts : (old new : List (Option MemberState)) (stamp : ℕ) (call : Recorded) → ((n boot : ℕ) (s : NodeStep) → HasStep old n boot s → HasStep new n boot s) → IsMade old stamp call → IsMade new stamp call
made_lasts old new stamp call lasts made = record { boot = made.boot; step = made.step; stands = lasts call.node made.boot made.step made.stands; stamp_is = made.stamp_is; call_is = made.call_is }

-- a node that records nothing
pub extends_none : (old : List (Option MemberState)) (a stamp : ℕ) (before after : MemberState) → slice_index_or old a None ≡ Some before → Stay before after → Extends old (slice_set old a (Some after)) stamp []
extends_none old a stamp before after was stay = record {
  lasts = λ n boot s. step_lasts old a n boot before after s was stay;
  more = λ k call there. absurd cc;
}

-- a node that records one step
pub extends_one : (old : List (Option MemberState)) (a stamp : ℕ) (before after : MemberState) (s : NodeStep) (call : Recorded) → slice_index_or old a None ≡ Some before → after.past ≡ before.past
    → after.node.journal ≡ before.node.journal ++ step_entries s → IsWhole before.node.journal → IsInside s.inside → s.by.stamp ≡ stamp → call_in a s ≡ call → Extends old (slice_set old a (Some after)) stamp (call ∷ [])
extends_one old a stamp before after s call was past journal whole inside same is = record {
  lasts = λ n boot t. step_lasts old a n boot before after t was (stay_recorded before after s past journal whole inside);
  more = more;
}
  where
    new : List (Option MemberState)
    new = slice_set old a (Some after)

    more : (k : ℕ) (c : Recorded) → slice_get (call ∷ []) k ≡ Some c → IsMade new (stamp + k) c
    more (suc k) c there = absurd cc
    more zero c there =
        let this : call ≡ c = cc in
        subst (IsMade new (stamp + zero)) (is ∙ this) (record {
          boot = length after.past;
          step = s;
          stands = step_made old a before after s was journal whole inside;
          stamp_is = (let at : s.by.stamp ≡ stamp + 0 = omega (arith, same) in at);
          call_is = refl;
        })

pub merged_extends : (old new : WorldState) (calls : List Recorded) → AreMerged old.members old.stamps (merged old) → AreMerged new.members new.stamps (merged new) → Extends old.members new.members old.stamps calls
    → new.stamps ≡ old.stamps + length calls → merged new ≡ merged old ++ calls
merged_extends old new calls before after extends stamps =
    let both = length-append (merged old) calls in
    let was = before.count in
    let now = after.count in
    same_list (merged old ++ calls) (merged new) (omega (arith, both, was, now, stamps))
    (λ k call there. elim (either_of (merged old) calls k call there) [
      | inl stood ↦ stands_in new.members new.stamps k (merged new) call after (made_lasts old.members new.members k call extends.lasts (before.made k call stood))
      | inr next ↦
          let place : k ≡ old.stamps + next.0 = next.1 ∙ ap (λ n. n + next.0) before.count in
          ap (slice_get (merged new)) place ∙ stands_in new.members new.stamps (old.stamps + next.0) (merged new) call after (extends.more next.0 call next.2)
    ])
