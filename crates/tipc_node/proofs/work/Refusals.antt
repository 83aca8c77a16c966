-- Why a send is refused, and what isn't changed then.
use Rattle.std.proofs.Common.{◌≡◌, ◌<◌, ℕ, Option, Some, None, Result, Ok, Err, refl, arith}
use Rattle.std.specs.Prelude.{OnErr}
use Rattle.std.proofs.lemmas.Bool.Decides.{nat_tests}
use Rattle.tipc_node.specs.Plans.{link_refusal}

-- there is a contact on whose link fewer packets than the limit wait
abbrev pub HasPlace : Option (ℕ × ℕ) → ℕ → Type 0
HasPlace load limit = (counts : ℕ × ℕ) × (load ≡ Some counts) × (counts.1 < limit)

pub place_at : (load : Option (ℕ × ℕ)) (limit : ℕ) → link_refusal load limit ≡ None → HasPlace load limit
place_at None limit none = absurd cc
place_at (Some s) limit none = (s, refl, grind (arith, nat_tests, none))

-- what holds in any case holds at an error
pub one_at_error : {T E P : Type 0} (r : Result T E) → P → OnErr r P
one_at_error (Ok x) one = tt
one_at_error (Err e) one = one
