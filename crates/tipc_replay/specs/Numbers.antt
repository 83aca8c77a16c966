-- What a node has of a peer, by its boot and its pair with it, where it has one.
use Rattle.std.specs.Prelude.{ℕ, if◌then◌else◌, nat_le, Option, Some, None}
use Rattle.tipc_contact.specs.Sides.{first_number}
use Rattle.tipc_fragments.specs.Joining.{Joining, fresh}
use Rattle.tipc_link.specs.Links.{LinkEnd}
use Rattle.tipc_pair.specs.Facing.{PairEnds, facing}

-- its contact number for the peer: that of the pair, or the first of the boot
abbrev pub own_in : ℕ → Option PairEnds → ℕ
own_in boot None = first_number boot
own_in boot (Some x) = x.contact

-- the highest that the peer has shown
abbrev pub seen_in : Option PairEnds → ℕ
seen_in None = 0
seen_in (Some x) = x.seen

-- the message that is begun of the fragments of the peer
abbrev pub begun_of : Option PairEnds → Joining
begun_of None = fresh
begun_of (Some x) = x.begun

-- the link end on a bearer, of which there are two
abbrev pub end_on : ℕ → Option PairEnds → Option LinkEnd
end_on bearer None = None
end_on bearer (Some x) = if nat_le bearer 1 then (facing bearer x).near else None
