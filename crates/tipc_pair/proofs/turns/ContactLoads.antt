-- There is a load on the active link to a peer exactly where there is contact with it.
use Rattle.std.proofs.Common.{◌≡◌, ◌≤◌, ◌||◌, ◌∙◌, ℕ, Bool, true, false, Option, Some, None, is_some, option_map, refl, sym, ap}
use Rattle.std.specs.Prelude.{if◌then◌else◌}
use Rattle.tipc_pair.specs.Facing.{PairEnds, active, contact_between, facing, in_contact, is_up_at}
use Rattle.tipc_pair.proofs.Facings.{facing_one}
use Rattle.tipc_pair.specs.LinkReadings.{active_load}
use Rattle.tipc_pair.proofs.turns.Moves.{contact_is_some}
use Rattle.tipc_pair.proofs.turns.PairPuts.{meets_facing}

mapped : {A B : Type 0} (f : A → B) (o : Option A) → is_some (option_map f o) ≡ is_some o
mapped f None = refl
mapped f (Some x) = refl

either_up : (first second : Bool) → is_some {T = ℕ} (if first then Some 0 else (if second then Some 1 else None)) ≡ (first || second)
either_up true second = refl
either_up false true = refl
either_up false false = refl

active_contact : (x : PairEnds) → x.bearer ≤ 1 → is_some (active x) ≡ in_contact x
active_contact x two =
    either_up (is_up_at (facing 0 x).near) (is_up_at (facing 1 x).near) ∙ ap (λ o. is_up_at (facing 0 x).near || is_up_at o) (facing_one x two) ∙ (let m = meets_facing 0 x in m.there)

pub load_there : (x : PairEnds) → x.bearer ≤ 1 → is_some (active_load x) ≡ in_contact x
load_there x two = mapped _ (active x) ∙ active_contact x two

pub load_contact : (x : PairEnds) → x.bearer ≤ 1 → is_some (active_load x) ≡ is_some (contact_between x)
load_contact x two = load_there x two ∙ sym (contact_is_some x)
