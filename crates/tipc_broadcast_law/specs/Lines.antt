-- What stands in the caster's lists: each frame is that of the packet at its place, with the set of the members for which that was
-- accepted. So each frame that leaves is one of a packet of the law, also one that is sent again.
use Rattle.std.specs.Prelude.{◌≡◌, ◌+◌, ◌^◌, ◌<◌, ◌≤◌, ℕ, All, List, [], ◌∷◌, ◌++◌, length, map, slice_get, Some, is_some}
use Rattle.tipc_types.specs.Address.{IsNodeWord}
use Rattle.tipc_types.specs.Position.{number_of}
use Rattle.tipc_types.specs.declared.identity.To.TheVariants as to
use Rattle.tipc_types.specs.declared.link_words.BroadcastState.{BroadcastState}
use Rattle.tipc_types.specs.Limits.{most_packet_bytes}
use Rattle.tipc_outside.specs.declared.outgoing.Outgoing.{Outgoing}
use Rattle.tipc_header.specs.Frames.{frame_of, stamped}
use Rattle.tipc_send_window.specs.Sending.{acked_of, IsSending}
use Rattle.tipc_broadcast.specs.Contacts.{is_member}
use Rattle.tipc_broadcast.specs.Frames.{accepted_frame}
use Rattle.tipc_broadcast.specs.Casting.{accepted, accepting, accepting_frames, Casting, IsCasting, joining, leaving, leaving_frames, stating, stating_frames, with_message}
use Rattle.tipc_broadcast_law.specs.Groups.{Accepted, Caster, Group}
use Rattle.tipc_broadcast_law.specs.Events.{accepting_entry as accepting_one}
use Rattle.tipc_broadcast_law.specs.Listening.{IsCastAt}
use Rattle.tipc_broadcast_law.specs.Steps.{Casts, line_of}

-- the frame of the packet at a place, before it has its number: the set has the bits of just the nodes for which it was accepted
pub record IsFrameAt (own boot : ℕ) (line : List Accepted) (x : ℕ) (frame : List ℕ) : Type 0 where
  pub entry : Accepted
  pub there : slice_get line x ≡ Some entry
  pub long : 16 ≤ length entry.packet
  pub set : ℕ
  pub set_fits : set < 2 ^ 32
  pub is : frame ≡ accepted_frame own boot set entry.packet
  pub members : (node : ℕ) → IsNodeWord node → is_member node set ≡ is_some (entry.members node)

-- frames of packets that stand side by side, from a place on
abbrev pub AreFramesAt : ℕ → ℕ → List Accepted → ℕ → List (List ℕ) → Type 0
AreFramesAt own boot line x [] = Unit {0}
AreFramesAt own boot line x (frame ∷ frames) = IsFrameAt own boot line x frame × AreFramesAt own boot line (x + 1) frames

-- what is unacknowledged and what waits, against what was accepted in the boot
pub record IsLined (line : List Accepted) (v : Casting) : Type 0 where
  pub unacked : AreFramesAt v.own v.boot line (acked_of v.sending) v.sending.unacked
  pub waiting : AreFramesAt v.own v.boot line v.sending.numbered v.sending.waiting

-- A broadcast frame: to every node, and the packet at a place under the number of that place. At most `stamp` were numbered after the event
-- that sent it.
pub record IsCastFrame (a : Caster) (own stamp : ℕ) (f : Outgoing) : Type 0 where
  pub to_all : f.to ≡ to.All
  pub boot : ℕ
  pub in_boot : boot ≤ a.boot
  pub place : ℕ
  pub set : ℕ
  pub set_fits : set < 2 ^ 32
  pub packet : List ℕ
  pub bytes : f.frame ≡ frame_of boot set (stamped 0 (number_of (place + 1)) own packet)
  pub cast : IsCastAt a boot place set stamp packet

-- ---- what calls make of it

-- After a call the lists stand so against this line, and these frames left, of packets that have their numbers then. What is accepted by then
-- may have got its number too before the event of the call is over.
pub record KeepsLines (own : ℕ) (line : List Accepted) (v : Casting) (frames : List Outgoing) : Type 0 where
  pub lined : IsLined line v
  pub sent : (a : Caster) → a.boot ≡ v.boot → a.line v.boot ≡ line → a.numbered v.boot ≡ v.sending.numbered
      → All (IsCastFrame a own (accepted v.sending)) frames

-- a message: its packets stand behind all others, for the members in contact
abbrev pub SendLines : Type 0
SendLines = (g : Group) (v : Casting) (pieces : List (List ℕ)) → Casts g v → IsSending (with_message v pieces).sending → IsCasting v.own v.sending v.contacts
    → All (λ piece. 16 ≤ length piece) pieces → All (λ piece. length piece ≤ most_packet_bytes) pieces → length v.sending.waiting < 200 → length pieces ≤ 47
    → IsLined (line_of g) v
    → KeepsLines v.own (line_of g ++ map (accepting_one g) pieces) (accepting v pieces) (accepting_frames v pieces)

-- a peer that joins
abbrev pub JoinLines : Type 0
JoinLines = (line : List Accepted) (v : Casting) (peer boot : ℕ) → IsLined line v → IsLined line (joining v peer boot)

-- a peer that leaves
abbrev pub LeaveLines : Type 0
LeaveLines = (line : List Accepted) (v : Casting) (peer : ℕ) → IsSending v.sending → IsCasting v.own v.sending v.contacts → IsLined line v
    → KeepsLines v.own line (leaving v peer) (leaving_frames v peer)

-- a STATE of a peer
abbrev pub StateLines : Type 0
StateLines = (line : List Accepted) (v : Casting) (peer : ℕ) (seen : BroadcastState) → IsSending v.sending → IsCasting v.own v.sending v.contacts → IsLined line v
    → KeepsLines v.own line (stating v peer seen) (stating_frames v peer seen)
