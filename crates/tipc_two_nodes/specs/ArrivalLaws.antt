-- The laws of two nodes when a frame of one arrives at the other, in a contact that lasts.
use Rattle.std.specs.Prelude.{ℕ}
use Rattle.tipc_header.specs.Spelling.{Fields}
use Rattle.tipc_fragments.specs.Joining.{Joining}
use Rattle.tipc_pair.specs.Facing.{turned}
use Rattle.tipc_changeover.specs.Links.{turned_state as turned_state}
use Rattle.tipc_two_nodes.specs.links.Acting.{AcknowledgesTaken}
use Rattle.tipc_two_nodes.specs.links.Arriving.{IsMadeFor}
use Rattle.tipc_two_nodes.specs.links.Traffic.{turned_traffic as turned_traffic}
use Rattle.tipc_paired.specs.Views.{View}
use Rattle.tipc_two_nodes.specs.deeds.Arriving.{Reaches}
use Rattle.tipc_two_nodes.specs.Carriages.{pair_of}
use Rattle.tipc_two_nodes.specs.Twins.{AreTwins, sends_in, takes_in}

-- ---- what arrives

-- where a packet of one link is a tunnel packet, the end on the other bearer is made
abbrev pub FarIsMade : Type 0
FarIsMade = (x y : View) (message : Joining) (h : AreTwins x y)
    → IsMadeFor (pair_of x message) (takes_in x y h).traffic

-- where a packet of the link of bearer 1 is a tunnel packet, the end on bearer 0 is made
abbrev pub NearIsMade : Type 0
NearIsMade = (x y : View) (message : Joining) (h : AreTwins x y)
    → IsMadeFor (turned (pair_of x message)) (turned_traffic (takes_in x y h).traffic)

-- ---- what was taken

-- so what x hears acknowledged was taken, on either bearer
abbrev pub FirstAcknowledges : Type 0
FirstAcknowledges = (x y : View) (message : Joining) (es er : ℕ) (p : Fields) (h : AreTwins x y)
    → Reaches x y 0 es er p → AcknowledgesTaken (pair_of x message) es er p (sends_in x y h).state

-- what x hears acknowledged on bearer 1 was taken
abbrev pub SecondAcknowledges : Type 0
SecondAcknowledges = (x y : View) (message : Joining) (es er : ℕ) (p : Fields) (h : AreTwins x y)
    → Reaches x y 1 es er p
    → AcknowledgesTaken (turned (pair_of x message)) es er p (turned_state (sends_in x y h).state)
