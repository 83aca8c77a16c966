-- Slots: what stands at the places of a link's sessions, and the runs of tunnel packets that one link makes for the
-- other.
use Rattle.std.specs.Prelude.{ℕ, ◌+◌, Bool, true, false, List, [], ◌∷◌, Option, Some, None, drop, map}
use Prim.Native.Nat.{zero, suc}

-- A slot of a session: a plain packet, named by how many were put before it and itself; or a tunnel packet that
-- speaks of a place in a session of the other link. A full one holds the packet of that place; one that isn't full is
-- a placeholder: at that place stood a tunnel packet. Place 0 is no place: such a tunnel packet marks a run that is
-- empty.
pub data LinkSlot : Type 0 where
  Plain : (index : ℕ) → LinkSlot
  Tunnel : (session place : ℕ) (full : Bool) → LinkSlot

-- the slot at a place; places count from 1
unfoldable pub at : List LinkSlot → ℕ → Option LinkSlot
at [] p = None
at (z ∷ zs) zero = None
at (z ∷ zs) (suc zero) = Some z
at (z ∷ zs) (suc (suc p)) = at zs (suc p)

-- whether a slot is a plain packet
abbrev pub is_plain : LinkSlot → Bool
is_plain (Plain i) = true
is_plain (Tunnel f q full) = false

-- the plain packets among slots, in their order
unfoldable pub plains : List LinkSlot → List ℕ
plains [] = []
plains (Plain i ∷ zs) = i ∷ plains zs
plains (Tunnel f q full ∷ zs) = plains zs

-- the plain slots among slots, in their order
abbrev pub plain_slots : List LinkSlot → List LinkSlot
plain_slots zs = map Plain (plains zs)

-- the tunnel packets that stand before the first plain packet
unfoldable pub leading : List LinkSlot → List LinkSlot
leading [] = []
leading (Plain i ∷ zs) = []
leading (Tunnel f q full ∷ zs) = Tunnel f q full ∷ leading zs

-- the numbers of so many packets, from the one after the first `before`
unfoldable pub counted : (before count : ℕ) → List ℕ
counted before zero = []
counted before (suc count) = (before + 1) ∷ counted (before + 1) count

-- ---- runs

-- tunnel packets for the slots that follow the first `after` places of a session
unfoldable pub tunnelled : (fullness : LinkSlot → Bool) (session after : ℕ) → List LinkSlot → List LinkSlot
tunnelled fullness session after [] = []
tunnelled fullness session after (z ∷ zs) =
    Tunnel session (after + 1) (fullness z) ∷ tunnelled fullness session (after + 1) zs

-- an empty run has a marker, which tells the session alone
unfoldable pub or_marker : (session : ℕ) → List LinkSlot → List LinkSlot
or_marker session [] = Tunnel session 0 true ∷ []
or_marker session (z ∷ zs) = z ∷ zs

-- the run for what isn't acknowledged of a session's line
abbrev pub run : (fullness : LinkSlot → Bool) (session acked : ℕ) → List LinkSlot → List LinkSlot
run fullness session acked line = or_marker session (tunnelled fullness session acked (drop acked line))

-- a switch duplicates each packet whole
abbrev pub duplicates : (session acked : ℕ) → List LinkSlot → List LinkSlot
duplicates = run (λ z. true)

-- a failover sends each plain packet anew, and a placeholder for each tunnel packet
abbrev pub originals : (session acked : ℕ) → List LinkSlot → List LinkSlot
originals = run is_plain
