-- The journals of all boots of all nodes.
use Rattle.std.proofs.Common.{◌≡◌, ◌⊎◌, ℕ, zero, suc, List, [], ◌∷◌, ◌++◌, Option, Some, None, length, slice_get, slice_index_or, refl, ap, subst, ◌∙◌, inl, inr}
use Rattle.std.specs.List.{All}
use Rattle.std.proofs.lemmas.List.Elements.{All-get_or}
use Rattle.std.proofs.lemmas.Option.{get_or_from_slice_get, slice_get_within}
use Rattle.tipc_journal.specs.declared.entries.Entry.{Entry}
use Rattle.tipc_replay.specs.Members.{IsRestarted}
use Rattle.tipc_replay.specs.States.{MemberState, journal_at, journal_in, journals_of}
use Rattle.tipc_replay.proofs.journals.Kept.{get_last}
use Rattle.tipc_link.proofs.Directions.{slice_get-append as get_longer}

-- ---- lists

-- what holds of all holds of the one at a place
pub all_get : {A : Type 0} (P : A → Type 0) (xs : List A) (k : ℕ) (x : A) → All P xs → slice_get xs k ≡ Some x → P x
all_get P xs k x all there = subst P (get_or_from_slice_get xs k x x there) (All-get_or P xs k x (slice_get_within xs k x there) all)

-- what stands in a list with one more behind it stands in the list, or is that one
pub get_more : {A : Type 0} (xs : List A) (y : A) (k : ℕ) (x : A) → slice_get (xs ++ y ∷ []) k ≡ Some x → (slice_get xs k ≡ Some x) ⊎ ((k ≡ length xs) × (y ≡ x))
get_more [] y zero x there = inr (refl, (let same : y ≡ x = cc in same))
get_more [] y (suc k) x there = absurd cc
get_more (z ∷ zs) y zero x there = inl there
get_more (z ∷ zs) y (suc k) x there = elim (get_more zs y k x there) [
  | inl old ↦ inl old
  | inr last ↦ inr (ap suc last.0, last.1)
]

-- ---- look-ups

pub journal_at-is : (members : List (Option MemberState)) (n boot : ℕ) (m : MemberState) → slice_index_or members n None ≡ Some m → journal_at members n boot ≡ slice_get (journals_of m) boot
unfolding journal_at
journal_at-is members n boot m is = ap (λ o. journal_in o boot) is

pub journal_at-none : (members : List (Option MemberState)) (n boot : ℕ) → slice_index_or members n None ≡ None → journal_at members n boot ≡ None
unfolding journal_at
journal_at-none members n boot none = ap (λ o. journal_in o boot) none

pub journal_at-same : (old new : List (Option MemberState)) (n boot : ℕ) → slice_index_or new n None ≡ slice_index_or old n None → journal_at new n boot ≡ journal_at old n boot
unfolding journal_at
journal_at-same old new n boot same = ap (λ o. journal_in o boot) same

-- the journal of the present boot
pub present_at : (members : List (Option MemberState)) (n : ℕ) (m : MemberState) → slice_index_or members n None ≡ Some m → journal_at members n (length m.past) ≡ Some m.node.journal
present_at members n m is = journal_at-is members n (length m.past) m is ∙ get_last m.past m.node.journal

-- that of a boot before
pub past_at : (members : List (Option MemberState)) (n boot : ℕ) (m : MemberState) (journal : List Entry) → slice_index_or members n None ≡ Some m → slice_get m.past boot ≡ Some journal → journal_at members n boot ≡ Some journal
past_at members n boot m journal is there = journal_at-is members n boot m is ∙ get_longer m.past (m.node.journal ∷ []) boot journal there

-- a node is restarted: its journals stay, and an empty one comes behind them
pub restart_journals : (m m' : MemberState) → IsRestarted m m' → journals_of m' ≡ journals_of m ++ [] ∷ []
restart_journals m m' r = ap (λ js. js ++ m'.node.journal ∷ []) r.past ∙ ap (λ j. (m.past ++ m.node.journal ∷ []) ++ j ∷ []) r.node.no_history
