-- What one of two nodes sends the other in one contact, over two links: how the sender's view stands to it, and the
-- receiver's.
use Rattle.std.specs.Prelude.{◌≡◌, ◌<◌, ◌≤◌, ◌⊎◌, ℕ, ◌+◌, ◌-◌, List, [], Some, length, slice_get, take}
use Rattle.tipc_fragments.specs.Joining.{Joining, fresh}
use Rattle.tipc_link.specs.Sessions.{SessionEnd}
use Rattle.tipc_pair.specs.Facing.{PairEnds}
use Rattle.tipc_paired.specs.Views.{Begun, Frame, IsApart, View, epoch_on, es_of, session_on}
use Rattle.tipc_changeover.specs.Links.{First, Held, Receiver, Sender, State, Up}
use Rattle.tipc_changeover.specs.Reached.{IsReached, begun}
use Rattle.tipc_two_nodes.specs.links.Laws.{TakesNone}
use Rattle.tipc_two_nodes.specs.links.Receiving.{AreLines, IsRecordFor, record_at}
use Rattle.tipc_two_nodes.specs.links.Sending.{SendingEnds, StandFor, ends_seen}
use Rattle.tipc_two_nodes.specs.links.Traffic.{Lines, Traffic}

-- the pair of a view, seen from the link of bearer 0
abbrev pub pair_of : View → Joining → PairEnds
pair_of x message = record {
  own = x.node.own;
  peer = x.node.peer;
  contact = x.node.contact;
  seen = x.node.seen;
  bearer = 0;
  near = (x.wires 0).end;
  far = (x.wires 1).end;
  begun = message;
}

-- its two link ends as senders
abbrev pub ends_in : View → SendingEnds
ends_in x = ends_seen (pair_of x fresh)

-- ---- contacts

-- a contact of the node in which no session began
abbrev pub IsAhead : View → ℕ → ℕ → Type 0
IsAhead x own theirs = (b epoch : ℕ) (g : Begun) → (x.wires b).begun epoch ≡ Some g → g.contact ≡ own
    → g.peer_contact ≡ theirs → ⊥

-- a session of a bearer began under this epoch in the contact
abbrev pub BeganIn : View → ℕ → ℕ → ℕ → ℕ → Type 0
BeganIn x bearer epoch own theirs = (g : Begun) × ((x.wires bearer).begun epoch ≡ Some g) × (g.contact ≡ own)
    × (g.peer_contact ≡ theirs)

-- a contact of the node, which lasts: a link is up
pub record IsPresent (x : View) (own theirs : ℕ) : Type 0 where
  pub bearer : ℕ
  pub session : SessionEnd
  pub session_is : session_on (x.wires bearer) ≡ Some session
  pub own_is : own ≡ x.node.contact
  pub theirs_is : theirs ≡ x.node.seen

-- ---- what is sent in a contact

-- what was put and numbered in the contact, and the state of the two links and their tunnels, both seen from the link
-- of bearer 0
pub record Carriage : Type 0 where
  pub traffic : Traffic
  pub state : State

-- what was taken in it, as it was put
abbrev pub taken_of : Carriage → List (List ℕ)
taken_of c = take (length c.state.delivered) c.traffic.put

-- a link of which nothing was numbered in the contact; its first session will have this epoch
abbrev pub unsent : ℕ → Lines
unsent first = record { first = first; line = λ session. [] }

-- nothing was put yet, and the links will begin with these epochs
abbrev pub outset : ℕ → ℕ → Carriage
outset first second = record { traffic = record { put = []; near = unsent first; far = unsent second }; state = begun }

-- ---- the sender

-- what the node has for the first epochs of its bearers under each of its contact numbers, and for the highest number
-- that the peer had shown under it
pub record Numbers : Type 0 where
  pub first : (bearer own : ℕ) → ℕ
  pub met : ℕ → ℕ

-- an epoch that was told is that of a session that began or may begin, and not the next one of an end that is held
pub record IsShownIn (l : Lines) (z : Sender) (epoch : ℕ) : Type 0 where
  pub no_lower : l.first ≤ epoch
  pub no_higher : epoch + 1 ≤ l.first + z.session
  pub held : z.state ≡ Held → epoch + 1 < l.first + z.session

-- the session of an epoch is over, or it is the present one of a link that is up
abbrev pub IsHad : Lines → Sender → ℕ → Type 0
IsHad l z epoch = (epoch + 1 < l.first + z.session) ⊎ ((l.first + z.session ≡ epoch + 1) × (z.state ≡ Up))

-- The sessions of one bearer that began in a contact have their packets in the lines, and those that the sender has had
-- began in it; and the epochs that were told in it are of the sender's sessions.
pub record AreSessions (x : View) (own theirs bearer : ℕ) (l : Lines) (z : Sender) : Type 0 where
  pub lines : (epoch : ℕ) (g : Begun) → (x.wires bearer).begun epoch ≡ Some g → g.contact ≡ own
      → g.peer_contact ≡ theirs
      → (l.first ≤ epoch) × (l.line (epoch + 1 - l.first) ≡ (x.wires bearer).line epoch)
  pub began : (epoch : ℕ) → l.first ≤ epoch → IsHad l z epoch → BeganIn x bearer epoch own theirs
  pub shown : (k : ℕ) (f : Frame) → slice_get x.told k ≡ Some f → f.bearer ≡ bearer → f.contact ≡ own
      → f.peer_contact ≡ theirs
      → IsShownIn l z (es_of f.bytes)

-- what x sent in the contact of these numbers, its own first
pub record IsSent (x : View) (n : Numbers) (own theirs : ℕ) (c : Carriage) : Type 0 where
  pub reached : IsReached c.state
  pub lines : AreLines 0 c.traffic c.state
  pub near_first : c.traffic.near.first ≡ n.first 0 own
  pub far_first : c.traffic.far.first ≡ n.first 1 own
  pub near : AreSessions x own theirs 0 c.traffic.near c.state.near
  pub far : AreSessions x own theirs 1 c.traffic.far c.state.far
  -- while the node has these numbers, its link ends stand for the senders
  pub now : x.node.contact ≡ own → x.node.seen ≡ theirs → StandFor First (ends_in x) c.traffic c.state
  -- and before that, where it may still get them without another contact, nothing happened
  pub ahead : x.node.contact ≡ own → IsApart x → x.node.seen < theirs
      → c ≡ outset (epoch_on x.node (x.wires 0)) (epoch_on x.node (x.wires 1))

-- ---- the receiver

-- The records of a node in a contact that lasts, its own number first, are those of what its peer sent; and where no
-- session began, it took nothing.
pub record IsTaken (y : View) (own theirs : ℕ) (c : Carriage) : Type 0 where
  pub near : IsPresent y own theirs → IsRecordFor c.traffic.near (record_at (y.wires 0).end) c.state.near_record
  pub far : IsPresent y own theirs → IsRecordFor c.traffic.far (record_at (y.wires 1).end) c.state.far_record
  pub none : IsAhead y own theirs → TakesNone begun c.state

-- ---- what was taken

-- where any packets of the session of an epoch were taken, a record is of a later session, or it is of this one and has
-- as many
abbrev pub HasTakenOf : Lines → Receiver → ℕ → ℕ → Type 0
HasTakenOf l r epoch count = 1 ≤ count
    → (epoch + 1 < l.first + r.session) ⊎ ((l.first + r.session ≡ epoch + 1) × (count ≤ r.taken))

-- the record of a bearer has what y took of the sessions that x began in a contact, its own number first
abbrev pub IsCounted : View → View → ℕ → ℕ → ℕ → Lines → Receiver → Type 0
IsCounted x y own theirs bearer l r = (epoch : ℕ) → BeganIn x bearer epoch own theirs
    → HasTakenOf l r epoch (length ((y.wires bearer).got epoch))

-- both records do, also once the contact is over
pub record AreCounted (x y : View) (own theirs : ℕ) (c : Carriage) : Type 0 where
  pub near : IsCounted x y own theirs 0 c.traffic.near c.state.near_record
  pub far : IsCounted x y own theirs 1 c.traffic.far c.state.far_record
