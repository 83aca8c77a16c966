-- What a pair holds and has begun came by arrivals.
use Rattle.std.specs.Prelude.{◌≡◌, ℕ, All, IfSome, List, Option, Some}
use Rattle.tipc_reassembly.specs.Tracing.{IsBegunBy}
use Rattle.tipc_link.specs.Links.{LinkEnd, record_of}
use Rattle.tipc_link.specs.Records.{Received}
use Rattle.tipc_pair.specs.Facing.{PairEnds}
use Rattle.tipc_pair.specs.Held.{CameBy}

-- each packet that a link end holds came by its arrival
abbrev pub HoldsBy : (ℕ → List ℕ → Type 0) → Option LinkEnd → Type 0
HoldsBy P end = IfSome end (λ e. (r : Received) → record_of e ≡ Some r → All (CameBy P) r.held)

-- and so did each fragment of the message that is begun
pub record KeepsBy (P : ℕ → List ℕ → Type 0) (x : PairEnds) : Type 0 where
  pub near : HoldsBy P x.near
  pub far : HoldsBy P x.far
  pub begun : IsBegunBy P x.begun
