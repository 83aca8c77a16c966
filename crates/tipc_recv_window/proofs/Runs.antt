-- Packets that are taken one after another, up to the first that isn't held.
use Rattle.std.proofs.Common.{◌≡◌, List, [], ◌∷◌, length, drop, Option, Some, None, refl, ap}
use Rattle.std.specs.Prelude.{slice_index_or}
use Rattle.tipc_types.specs.declared.packet_lists.Taken.{Taken}
use Rattle.tipc_recv_window.specs.Receiving.{run_of}

-- behind the run nothing is held
pub run_leaves : (held : List (Option Taken)) → slice_index_or (drop (length (run_of held)) held) 0 None ≡ None
run_leaves [] = refl
run_leaves (None ∷ held) = refl
run_leaves (Some packet ∷ held) = run_leaves held

-- the first packet of a run is the wanted one
pub run_first : (held : List (Option Taken)) (packet : Taken) → slice_index_or held 0 None ≡ Some packet → run_of held ≡ packet ∷ run_of (drop 1 held)
run_first [] packet is = absurd (let none : ⊥ = cc in none)
run_first (None ∷ held) packet is = absurd (let none : ⊥ = cc in none)
run_first (Some first ∷ held) packet is = let same : first ≡ packet = cc in ap (λ p. p ∷ run_of held) same

pub run_none : (held : List (Option Taken)) → slice_index_or held 0 None ≡ None → run_of held ≡ []
run_none [] is = refl
run_none (None ∷ held) is = refl
run_none (Some first ∷ held) is = absurd (let none : ⊥ = cc in none)
