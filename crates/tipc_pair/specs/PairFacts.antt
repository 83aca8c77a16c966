-- What is true of every pair that has a link end on each bearer.
use Rattle.std.specs.Prelude.{◌≡◌, ◌≤◌, ◌<◌, ℕ, true, false, All, Option, IfSome, is_some, length}
use Rattle.tipc_types.specs.LinkStates.{is_up}
use Rattle.tipc_types.specs.Limits.{window_size}
use Rattle.tipc_link_fsm.specs.declared.changes.Change.{Change}
use Rattle.tipc_link_fsm.specs.declared.changes.Change.TheVariants.{Up}
use Rattle.tipc_link_fsm.specs.Table.{Fsm, is_held, is_last}
use Rattle.tipc_contact.specs.Sides.{boot_of}
use Rattle.tipc_link.specs.Links.{LinkEnd, is_down, tunnels_of}
use Rattle.tipc_link.specs.Sessions.{SessionEnd}
use Rattle.tipc_pair.specs.Facing.{PairEnds, is_up_at, other}
use Rattle.tipc_pair.specs.Runs.{IsListed}

-- the link states of an end under this contact number: the epoch is of the number's boot, and no lower; a link that is up isn't at the last
-- epoch of its boot
pub record AreStatesOf (contact : ℕ) (fsm : Fsm) : Type 0 where
  pub order : contact ≤ fsm.own
  pub boot : boot_of fsm.own ≡ boot_of contact
  pub going_on : is_up fsm.state ≡ true → is_last fsm.own ≡ false

-- a session on this bearer: its packets can be sent, and can travel on the other link
pub record IsSessionOn (bearer : ℕ) (s : SessionEnd) : Type 0 where
  pub bearer_is : s.bearer ≡ bearer
  pub few : length s.sending.unacked ≤ window_size
  pub waiting : All IsListed s.sending.waiting
  pub unacked : All IsListed s.sending.unacked

-- an end from this address to that one, on this bearer, under these contact numbers
pub record IsEndOf (own peer contact seen bearer : ℕ) (e : LinkEnd) : Type 0 where
  pub own_is : e.own ≡ own
  pub peer_is : e.peer ≡ peer
  pub bearer_is : e.bearer ≡ bearer
  pub contact_is : e.contact ≡ contact
  pub seen_is : e.peer_contact ≡ seen
  pub states : AreStatesOf contact e.fsm
  pub begun : is_up e.fsm.state ≡ true → is_some e.session ≡ true
  pub session : IfSome e.session (IsSessionOn bearer)

-- the near and the far end are from this node to this peer, each on its bearer, under the pair's contact numbers
pub record IsPairOfEnds (x : PairEnds) : Type 0 where
  pub two_bearers : x.bearer ≤ 1
  pub near : IfSome x.near (IsEndOf x.own x.peer x.contact x.seen x.bearer)
  pub far : IfSome x.far (IsEndOf x.own x.peer x.contact x.seen (other x.bearer))

-- The near link's states made this change: one that went up is up; one that went down is down, had a session, and the contact number isn't the
-- last of its boot.
pub record HasChanged (x : PairEnds) (change : Change) : Type 0 where
  pub up : change ≡ Up → is_up_at x.near ≡ true
  pub down : is_down change ≡ true → is_up_at x.near ≡ false
  pub session : is_down change ≡ true → IfSome x.near (λ (e : LinkEnd). is_some e.session ≡ true)
  pub going_on : is_down change ≡ true → is_last x.contact ≡ false

-- An end is held only where the other link is up, and has a tunnel packet that is unacknowledged or waits.
pub record HasCarrier (carrier : Option LinkEnd) (e : LinkEnd) : Type 0 where
  pub up : is_held e.fsm.state ≡ true → is_up_at carrier ≡ true
  pub tunnel : is_held e.fsm.state ≡ true → IfSome carrier (λ (c : LinkEnd). 0 < tunnels_of c.session)

-- either end is held only for the sake of the other link
pub record AreHeldRightly (x : PairEnds) : Type 0 where
  pub near : IfSome x.near (HasCarrier x.far)
  pub far : IfSome x.far (HasCarrier x.near)
