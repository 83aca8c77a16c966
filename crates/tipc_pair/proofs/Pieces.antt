-- The pieces of a message that is sent in fragments.
use Rattle.std.specs.Prelude.{All}
use Rattle.std.proofs.Common.{[], ◌<◌, ◌^◌, ◌∷◌, List, arith, length, suc, zero, ℕ}
use Rattle.tipc_fragments.specs.Cutting.{pieces_of}
use Rattle.tipc_fragments.proofs.CutLaws.{all_pieces, is_piece}
use Rattle.tipc_reassembly.specs.Slots.{IsCut}

-- what holds of one holds of each of a list of it
pub All-one : {A : Type 0} (P : A → Type 0) (x : A) → P x → All P (x ∷ [])
All-one P x h zero d within = h
All-one P x h (suc k) d within = absurd (omega arith)

-- each piece of a message has a number, and some of its bytes, as one that is cut has
pub pieces_cut : (m : List ℕ) → length m < 2 ^ 17 → All IsCut (pieces_of m)
pieces_cut m short = all_pieces IsCut m (λ before within. (let is = is_piece m before within in let number = is.number in record { first = omega arith; number = omega arith; some = is.some; most = is.most }))
