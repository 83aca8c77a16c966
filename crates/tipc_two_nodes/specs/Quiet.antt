-- A node at whose links nothing is under way: all that it put in its contact was given.
use Rattle.std.specs.Prelude.{◌≡◌, true, [], Option, IfSome}
use Rattle.tipc_types.specs.LinkStates.{is_up}
use Rattle.tipc_link.specs.Links.{LinkEnd}
use Rattle.tipc_link.specs.Sessions.{SessionEnd}
use Rattle.tipc_two_nodes.specs.Sights.{AreSeen, Sight}

-- no packet of a session is unacknowledged, and none waits
abbrev pub IsEmptied : SessionEnd → Type 0
IsEmptied s = (s.sending.unacked ≡ []) × (s.sending.waiting ≡ [])

-- so it is at a link end that is up
abbrev pub HasNothingLeft : Option LinkEnd → Type 0
HasNothingLeft end = IfSome end (λ (e : LinkEnd). is_up e.fsm.state ≡ true → IfSome e.session IsEmptied)

-- Where neither link end of v to w has anything left, w was given all that v put in the contact whose numbers v has.
abbrev pub QuietIsGiven : Type 0
QuietIsGiven = (v w : Sight) → AreSeen v w → HasNothingLeft (v.ends 0) → HasNothingLeft (v.ends 1)
    → w.given v.node.seen v.node.contact ≡ v.put v.node.contact v.node.seen
