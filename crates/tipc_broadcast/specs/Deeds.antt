-- What happens at the broadcast link of a node, as a list of deeds: what it is after them, and the frames that leave.
use Rattle.std.specs.Prelude.{◌≡◌, ◌≤◌, ◌<◌, ℕ, ◌==◌, All, IfSome, length, Bool, true, false, List, [], ◌∷◌, ◌++◌, Option, Some, None, option_map, if◌then◌else◌}
use Rattle.std.specs.Option.{option_or}
use Rattle.tipc_types.specs.Address.{IsNodeWord}
use Rattle.tipc_types.specs.declared.link_words.BroadcastState.{BroadcastState}
use Rattle.tipc_types.specs.Limits.{most_packet_bytes, window_size}
use Rattle.tipc_outside.specs.declared.outgoing.Outgoing.{Outgoing}
use Rattle.tipc_header.specs.Grammar.{Fits}
use Rattle.tipc_header.specs.Spelling.{Fields}
use Rattle.tipc_broadcast.specs.declared.contacts.Contact.{Contact}
use Rattle.tipc_broadcast.specs.Contacts.{contact_with, has_joined}
use Rattle.tipc_broadcast.specs.Casting.{Casting, accepting, accepting_frames, arriving, joining, leaving, leaving_frames, stating, stating_frames, with_bearer}
use Rattle.tipc_broadcast.specs.Pieces.{IsCastPiece}

-- A peer in a boot joins, or leaves; a STATE of a peer is taken, which tells this of broadcast; a bearer is mended or cut; a broadcast packet
-- arrives, from a boot of its previous node, for these members and by the arrival of that number; or a message of these packets is accepted.
pub data CastDeed : Type 0 where
  joins : (peer boot : ℕ) → CastDeed
  leaves : (peer : ℕ) → CastDeed
  states : (peer : ℕ) (seen : BroadcastState) → CastDeed
  bears : (bearer : ℕ) (is_mended : Bool) → CastDeed
  hears : (boot members by : ℕ) (packet : Fields) → CastDeed
  sends : (pieces : List (List ℕ)) → CastDeed

-- the broadcast link after a deed
abbrev pub after_deed : CastDeed → Casting → Casting
after_deed (CastDeed.joins peer boot) v = joining v peer boot
after_deed (CastDeed.leaves peer) v = leaving v peer
after_deed (CastDeed.states peer seen) v = stating v peer seen
after_deed (CastDeed.bears bearer is_mended) v = with_bearer v bearer is_mended
after_deed (CastDeed.hears boot members by packet) v = arriving v boot members packet by
after_deed (CastDeed.sends pieces) v = accepting v pieces

-- the frames that leave by a deed
abbrev pub deed_frames : CastDeed → Casting → List Outgoing
deed_frames (CastDeed.leaves peer) v = leaving_frames v peer
deed_frames (CastDeed.states peer seen) v = stating_frames v peer seen
deed_frames (CastDeed.sends pieces) v = accepting_frames v pieces
deed_frames other v = []

-- the broadcast link after deeds, one behind the other
abbrev pub after_deeds : List CastDeed → Casting → Casting
after_deeds [] v = v
after_deeds (d ∷ ds) v = after_deeds ds (after_deed d v)

-- the frames that leave by deeds, each of the broadcast link as it is then
abbrev pub deeds_frames : List CastDeed → Casting → List Outgoing
deeds_frames [] v = []
deeds_frames (d ∷ ds) v = deed_frames d v ++ deeds_frames ds (after_deed d v)

-- ---- who is in contact

-- the boot of a peer that is in contact
abbrev pub boot_with : ℕ → Casting → Option ℕ
boot_with peer v = option_map (λ (c : Contact). c.boot) (contact_with peer v.contacts)

-- whether a peer joins by a deed, or leaves
abbrev pub is_contact_of : ℕ → CastDeed → Bool
is_contact_of peer (CastDeed.joins other boot) = other == peer
is_contact_of peer (CastDeed.leaves other) = other == peer
is_contact_of peer other = false

-- the boot of a peer that is in contact after a deed, where this was it before
abbrev pub boot_by : ℕ → Option ℕ → CastDeed → Option ℕ
boot_by peer before (CastDeed.joins other boot) = if other == peer then option_or before (Some boot) else before
boot_by peer before (CastDeed.leaves other) = if other == peer then None else before
boot_by peer before other = before

-- whether it is a deed of the pair to a peer: the peer joins by it, or leaves, or a STATE of the peer is taken
abbrev pub is_deed_with : ℕ → CastDeed → Bool
is_deed_with peer (CastDeed.joins other boot) = other == peer
is_deed_with peer (CastDeed.leaves other) = other == peer
is_deed_with peer (CastDeed.states other seen) = other == peer
is_deed_with peer other = false

-- whether a broadcast packet of a peer is heard by a deed
abbrev pub is_hearing_of : ℕ → CastDeed → Bool
is_hearing_of peer (CastDeed.hears boot members by packet) = packet.previous == peer
is_hearing_of peer other = false

-- whether no message is accepted by a deed
abbrev pub sends_nothing : CastDeed → Bool
sends_nothing (CastDeed.sends pieces) = false
sends_nothing other = true

-- ---- what may be done

-- a message of these packets may be accepted: there is room, and the node can cast each of them
pub record CanSend (v : Casting) (pieces : List (List ℕ)) : Type 0 where
  pub long : All (λ piece. 16 ≤ length piece) pieces
  pub short : All (λ piece. length piece ≤ most_packet_bytes) pieces
  pub cast : All (IsCastPiece v.own) pieces
  pub room : length v.sending.waiting < 200
  pub few : length pieces ≤ 47

-- A deed may be done: a node joins that isn't in contact, and one leaves or tells a STATE that is.
abbrev pub IsLawful : CastDeed → Casting → Type 0
IsLawful (CastDeed.joins peer boot) v = IsNodeWord peer × (has_joined peer v.contacts ≡ false)
IsLawful (CastDeed.leaves peer) v = has_joined peer v.contacts ≡ true
IsLawful (CastDeed.states peer seen) v = has_joined peer v.contacts ≡ true
IsLawful (CastDeed.bears bearer is_mended) v = bearer ≤ 1
IsLawful (CastDeed.hears boot members by packet) v = Fits packet
IsLawful (CastDeed.sends pieces) v = CanSend v pieces

-- so may these, one behind the other
abbrev pub AreLawful : List CastDeed → Casting → Type 0
AreLawful [] v = Unit {0}
AreLawful (d ∷ ds) v = IsLawful d v × AreLawful ds (after_deed d v)

-- ---- what is held of the peers

-- of a peer's broadcast no more is held than the window has
abbrev pub HasSmallWindow : Contact → Type 0
HasSmallWindow c = IfSome c.window (λ r. length r.held ≤ window_size)

-- so it is of each peer in contact
abbrev pub AreSmall : Casting → Type 0
AreSmall v = All HasSmallWindow v.contacts

-- ---- which bearers are mended

-- whether a deed leaves the bearers
abbrev pub leaves_bearers : CastDeed → Bool
leaves_bearers (CastDeed.bears bearer is_mended) = false
leaves_bearers other = true
