-- The laws of the calls of a pair, as what they keep of two nodes.
use Rattle.std.specs.Prelude.{◌≡◌, ℕ, List, Some, slice_get}
use Rattle.tipc_outside.specs.declared.outgoing.Outgoing.{Outgoing}
use Rattle.tipc_link.specs.Sessions.{moving}
use Rattle.tipc_pair.specs.Facing.{PairEnds}
use Rattle.tipc_pair.specs.PairCalls.{SendsWithin}
use Rattle.tipc_pair.specs.PairFacts.{IsPairOfEnds}
use Rattle.tipc_paired.specs.Paired.{IsPacket}
use Rattle.tipc_paired.specs.Views.{View}
use Rattle.tipc_two_nodes.specs.deeds.PairDeeds.{Did, IsOfPair, more_at, none_more}
use Rattle.tipc_two_nodes.specs.links.Acting.{put_in}
use Rattle.tipc_two_nodes.specs.links.Steps.{ArePlain}
use Rattle.tipc_two_nodes.specs.Carrying.{CarriesPut}
use Rattle.tipc_two_nodes.specs.Twins.{AreTwins, sends_in}

-- Packets are put on the active link, where all that waits then can be put: they are the last ones that were put in the
-- contact, or one joined the last one.
abbrev pub SendsKeep : Type 0
SendsKeep = (v y : View) (x x' : PairEnds) (pieces : List (List ℕ)) (limit : ℕ) (frames : List Outgoing)
    (h : AreTwins v y) → IsOfPair v x → IsPairOfEnds x → ArePlain pieces → (s : SendsWithin x pieces limit x' frames)
    → ((k : ℕ) (bytes : List ℕ) → slice_get s.puts.put.sending.waiting k ≡ Some bytes → IsPacket v.node.own bytes)
    → (after : View) × Did v y after frames (more_at s.bearer s.puts.session.epoch (moving s.puts.put)) none_more
    × IsOfPair after x' × (k : AreTwins after y)
    × CarriesPut v after y h k (put_in (sends_in v y h).traffic s.puts.is_put).put
