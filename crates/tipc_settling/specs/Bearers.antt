-- What leaves a node on the links leaves on mended bearers.
use Rattle.std.specs.Prelude.{◌≡◌, ℕ, Bool, true, All, List, Option}
use Rattle.tipc_outside.specs.declared.outgoing.Outgoing.{Outgoing}
use Rattle.tipc_node.specs.Ends.{BothStand}
use Rattle.tipc_node.specs.Nodes.{is_mended_on}
use Rattle.tipc_pair.specs.Facing.{PairEnds}
use Rattle.tipc_pair.specs.PairTurns.{IsOnOne, Opening, PairTurn, Reply}
use Rattle.tipc_pair.specs.PairTurns.Opening.{cuts, hears, makes, mends}
use Rattle.tipc_two_nodes.specs.Sights.{AreSeen, Sight, pair_seen}

-- no bearer is mended or cut, and what is heard, or makes an end, comes on a mended one
abbrev pub KeepsBearers : Bool × Bool → Opening → Type 0
KeepsBearers mended (mends bearer) = ⊥
KeepsBearers mended (cuts bearer) = ⊥
KeepsBearers mended (makes bearer is_mended) = is_mended_on mended bearer ≡ true
KeepsBearers mended (hears bearer es er p by shown) = is_mended_on mended bearer ≡ true
KeepsBearers mended other = Unit {0}

-- a turn sends on mended bearers alone
abbrev pub SendsOnMended : Type 0
SendsOnMended = (v w : Sight) (mended : Bool × Bool) (opening : Opening) (messages : List (List ℕ)) (reply : Option Reply)
    (x : PairEnds) (frames : List Outgoing) → AreSeen v w → BothStand mended (pair_seen v) → IsOnOne opening → KeepsBearers mended opening
    → PairTurn (pair_seen v) opening messages reply x frames → All (λ (o : Outgoing). is_mended_on mended o.bearer ≡ true) frames
