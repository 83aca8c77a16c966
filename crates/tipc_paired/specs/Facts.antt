-- What follows for two nodes that are paired: what an acknowledgement names, under which epochs a link goes up, which a tunnel packet can
-- name, and how a receiving record counts.
use Rattle.std.specs.Prelude.{◌≡◌, ◌<◌, ◌≤◌, ℕ, true, [], Some, None, length, take, drop}
use Rattle.tipc_types.specs.LinkStates.{is_up}
use Rattle.tipc_types.specs.declared.packet_lists.Taken.{Taken}
use Rattle.tipc_header.specs.Spelling.{Fields}
use Rattle.tipc_send_window.specs.Sending.{acked_of}
use Rattle.tipc_link.specs.Links.{LinkEnd, after, record_of, recorded}
use Rattle.tipc_link.specs.Records.{Received, advanced_by, freed, named}
use Rattle.tipc_link.specs.Sessions.{SessionEnd, after_acknowledgement}
use Rattle.tipc_link_fsm.specs.declared.changes.Change.TheVariants.{Up}
use Rattle.tipc_link_fsm.specs.Runs.{Call, outcome}
use Rattle.tipc_link_fsm.specs.Table.{is_held}
use Rattle.tipc_paired.specs.Deeds.{Counts, Hears, IsBeside, IsUp, MayCall}
use Rattle.tipc_paired.specs.Paired.{ArePaired, IsUnder}
use Rattle.tipc_paired.specs.Views.{Begun, View}

-- an acknowledgement that is heard names no more than what the peer took of the session
abbrev pub HeardWasTaken : Type 0
HeardWasTaken = (x y : View) (b : ℕ) (e : LinkEnd) (s : SessionEnd) (p : Fields) → ArePaired x y → IsUp (x.wires b) e s
    → Hears x y b s p → acked_of (after_acknowledgement s p.acknowledgement).sending ≤ length ((y.wires b).got s.epoch)

-- An epoch of the peer under which the link end of x on a bearer can be up: the peer told it under the contact number that x has seen, it is
-- the peer's present one there or a lower one, and lower where the peer's end is Held; and x has no record of a higher one.
pub record IsOfPeer (x y : View) (bearer epoch : ℕ) : Type 0 where
  pub told : IsUnder y.told bearer epoch x.node.seen
  pub no_higher : (d : LinkEnd) → (y.wires bearer).end ≡ Some d → epoch ≤ d.fsm.own
  pub lower : (d : LinkEnd) → (y.wires bearer).end ≡ Some d → is_held d.fsm.state ≡ true → epoch < d.fsm.own
  pub before : (y.wires bearer).end ≡ None → epoch < y.node.contact
  pub on_record : (e : LinkEnd) (r : Received) → (x.wires bearer).end ≡ Some e → record_of e ≡ Some r → r.epoch ≤ epoch

-- where a call takes a link up, the epoch of the peer is one under which it can be up
abbrev pub RisesAreOfPeer : Type 0
RisesAreOfPeer = (x y : View) (b : ℕ) (e : LinkEnd) (call : Call) → ArePaired x y → (x.wires b).end ≡ Some e
    → MayCall x y b call → (outcome e.fsm call).change ≡ Up
    → (epoch : ℕ) × ((after e (outcome e.fsm call)).fsm.peer ≡ Some epoch) × IsOfPeer x y b epoch

-- the receiving record of a link that is up is of the epoch under which it is up
abbrev pub UpIsOnRecord : Type 0
UpIsOnRecord = (x y : View) (b : ℕ) (e : LinkEnd) (s : SessionEnd) → ArePaired x y → IsUp (x.wires b) e s
    → (s.epoch ≡ e.fsm.own) × (e.fsm.peer ≡ Some s.peer_epoch) × (s.record_epoch ≡ s.peer_epoch)

-- A session of the peer that began in the present contact was named by the node before: its link end there is made, and took that epoch or a
-- higher one. So a tunnel packet, which is of such a session, names no epoch above the one that a link that is up knows.
pub record IsNamed (x : View) (bearer epoch : ℕ) : Type 0 where
  pub end : LinkEnd
  pub end_is : (x.wires bearer).end ≡ Some end
  pub highest : epoch ≤ end.fsm.highest
  pub known : (peer : ℕ) → end.fsm.peer ≡ Some peer → epoch ≤ peer

-- each session of the peer that began in the present contact was named so
abbrev pub BegunWasNamed : Type 0
BegunWasNamed = (x y : View) (b epoch : ℕ) (g : Begun) → ArePaired x y → (y.wires b).begun epoch ≡ Some g
    → g.peer_contact ≡ x.node.contact → IsNamed x b epoch

-- ---- a receiving record counts

-- A tunnel packet of a session of the peer, which began in the present contact, comes through the link that is up, and names the session on
-- the other bearer, where the node has no record of a later one; while the link there is up the session is the one with it.
pub record Names (x y : View) (bearer : ℕ) (e : LinkEnd) (epoch : ℕ) : Type 0 where
  pub end_is : (x.wires bearer).end ≡ Some e
  pub begun : Begun
  pub begun_is : (y.wires bearer).begun epoch ≡ Some begun
  pub contact_is : begun.peer_contact ≡ x.node.contact
  pub seen_is : begun.contact ≡ x.node.seen
  pub lasts : IsBeside x bearer
  pub no_lower : (old : Received) → record_of e ≡ Some old → old.epoch ≤ epoch
  pub up : is_up e.fsm.state ≡ true → e.fsm.peer ≡ Some epoch

-- then the record is of that session
abbrev pub NamesCount : Type 0
NamesCount = (x y : View) (b : ℕ) (e : LinkEnd) (epoch : ℕ) → ArePaired x y → Names x y b e epoch
    → Counts x y b e (named (record_of e) epoch) []

-- and where the wanted packet came, it counts that one and those behind it that are held
abbrev pub TunnelsCount : Type 0
TunnelsCount = (x y : View) (b : ℕ) (e : LinkEnd) (epoch : ℕ) (t : Taken) (r : Received) → ArePaired x y → Names x y b e epoch
    → named (record_of e) epoch ≡ r → r.taken < length ((y.wires b).line epoch)
    → Counts x y b e (advanced_by r t) (take (length (freed r t)) (drop r.taken ((y.wires b).line epoch)))

-- a record that stays as it was leaves the end as it was
abbrev pub SameRecordsStay : Type 0
SameRecordsStay = (e : LinkEnd) (r : Received) → record_of e ≡ Some r → recorded e r ≡ e
