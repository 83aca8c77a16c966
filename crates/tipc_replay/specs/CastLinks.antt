-- The broadcast link of each node: it is that of the node and of its boot, and knows which bearers are mended. While no peer is in contact it keeps no
-- packet, no two contacts are with the same peer, and no more is held of a peer than the window has.
use Rattle.std.specs.Prelude.{◌≡◌, List, [], ◌∷◌, Option, None}
use Rattle.tipc_broadcast.specs.declared.contacts.Contact.{Contact}
use Rattle.tipc_broadcast.specs.Casting.{Casting}
use Rattle.tipc_broadcast.specs.Contacts.{contact_with}
use Rattle.tipc_broadcast.specs.Deeds.{AreSmall}
use Rattle.tipc_node.specs.Casting.{IsOfNode}
use Rattle.tipc_node.specs.Nodes.{NodeState}
use Rattle.tipc_replay.specs.Ends.{OfEach}
use Rattle.tipc_replay.specs.States.{MemberState}

-- while no peer is in contact, no packet is unacknowledged and none waits
abbrev pub KeepsNoneAlone : Casting → Type 0
KeepsNoneAlone v = v.contacts ≡ [] → (v.sending.unacked ≡ []) × (v.sending.waiting ≡ [])

-- no two contacts are with the same peer
abbrev pub AreWithOthers : List Contact → Type 0
AreWithOthers [] = Unit {0}
AreWithOthers (c ∷ contacts) = (contact_with c.peer.word contacts ≡ None) × AreWithOthers contacts

-- the broadcast link is that of its node and of the node's boot, and knows which bearers are mended there
abbrev pub IsOfItsNode : NodeState → Type 0
IsOfItsNode n = IsOfNode n.own n.boot n.mended n.casting

-- the broadcast link of a node is right: it is that of the node, keeps no packet while no peer is in contact, has with each
-- peer one contact at most, and holds no more of a peer than the window has
pub record HasRightCast (n : NodeState) : Type 0 where
  pub node : IsOfItsNode n
  pub alone : KeepsNoneAlone n.casting
  pub others : AreWithOthers n.casting.contacts
  pub small : AreSmall n.casting

-- each node has a right broadcast link
abbrev pub HaveRightCasts : List (Option MemberState) → Type 0
HaveRightCasts members = OfEach HasRightCast members
