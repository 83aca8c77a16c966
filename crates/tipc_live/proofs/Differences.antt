-- The first place at which two journals differ, as an answer tells it.
use Rattle.std.specs.Option.{option_copied}
use Rattle.std.specs.Prelude.{Option, Some, None, slice_get}
use Rattle.std.specs.Slice.{IsItemAt}
use Rattle.std.proofs.Common.{Bor, ◌≡◌, ◌≢◌, ℕ, ◌+◌, ◌-◌, ◌<◌, ◌≤◌, arith, List, length, refl, sym, subst, ◌∙◌}
use Rattle.std.proofs.lemmas.Option.{slice_get_past, slice_get_read}
use Rattle.tipc_journal.specs.declared.entries.Entry.{Entry}
use Rattle.tipc_live.specs.declared.answers.Audit.{Audit}
use Rattle.tipc_live.specs.declared.answers.Audit.TheVariants.{Differ}
use Rattle.tipc_live.specs.Differing.{DifferFirst, TellsDifference}

-- what `get` gives
pub item_at : {A : Type 0} (xs : List A) (i : ℕ) (found : Option (Bor A)) → IsItemAt xs i found → slice_get xs i ≡ option_copied found
item_at xs i None h = slice_get_past xs i h.3
item_at xs i (Some x) h = slice_get_read xs (length xs) i x.now refl h.3.0 h.1

pub tells_difference : (n : ℕ) (kept replayed : List Entry) (begin end place : ℕ) (entry : Entry) (other : Option Entry) (answer : Audit) → begin ≤ place → place ≤ end
    → ((k : ℕ) → begin ≤ k → k < place → slice_get replayed k ≡ slice_get kept k) → slice_get replayed place ≢ slice_get kept place
    → slice_get kept place ≡ Some entry → slice_get replayed place ≡ other → answer ≡ Differ n (place + 1) entry other
    → TellsDifference n kept replayed begin end answer
tells_difference n kept replayed begin end place entry other answer low high same differ entry_is other_is is =
    subst (TellsDifference n kept replayed begin end) (sym is) (refl, omega arith, subst (λ k. DifferFirst kept replayed begin end k entry other) here found)
  where
    here : place ≡ place + 1 - 1
    here = omega arith

    found : DifferFirst kept replayed begin end place entry other
    found = record {
      low = low;
      high = high;
      same = same;
      entry_is = entry_is;
      other_is = other_is;
      differ = λ e. differ (other_is ∙ sym e ∙ sym entry_is);
    }
