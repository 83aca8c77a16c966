-- What one step of a node does to its contacts: what it sends in them, what it takes, and its numbers.
use Rattle.std.specs.Prelude.{◌≡◌, ◌<◌, ◌≤◌, ◌⊎◌, nat_lt, ℕ, ◌+◌, ◌-◌, false, List, Some, if◌then◌else◌, length, slice_get}
use Rattle.tipc_link.specs.Records.{kept_for}
use Rattle.tipc_link_fsm.specs.Table.{is_last}
use Rattle.tipc_changeover.specs.Links.{First, Receiver, Reset, Sender, State}
use Rattle.tipc_two_nodes.specs.links.Following.{Become, ReceiverFollows}
use Rattle.tipc_two_nodes.specs.links.Receiving.{IsRecordFor, record_at}
use Rattle.tipc_two_nodes.specs.links.Traffic.{Lines, Traffic}
use Rattle.tipc_paired.specs.Views.{Begun, Frame, IsApart, View, epoch_on, es_of, put_at}
use Rattle.tipc_two_nodes.specs.Carriages.{BeganIn, Carriage, IsAhead, IsPresent, IsShownIn, Numbers, ends_in}
use Rattle.tipc_two_nodes.specs.Numbers.{IsToldIn}

-- what is kept by contact is this in one of them, and as it was in the others
pub record ChangedAt {A : Type 0} (f g : ℕ → ℕ → A) (own theirs : ℕ) (c : A) : Type 0 where
  pub here : g own theirs ≡ c
  pub others : (k l : ℕ) → (k ≡ own → l ≡ theirs → ⊥) → g k l ≡ f k l

-- ---- a node goes on to send

-- What a piece of a call does on one bearer: packets get numbers in the lines as on the wire, a session may begin in
-- the contact, and frames are told, each under an epoch of it.
pub record SendsOn (x x' : View) (b : ℕ) (l l' : Lines) (z' : Sender) : Type 0 where
  pub first : l'.first ≡ l.first
  pub stays : (session k : ℕ) (packet : List ℕ) → slice_get (l.line session) k ≡ Some packet
      → slice_get (l'.line session) k ≡ Some packet
  pub lines : (epoch : ℕ) → l.first ≤ epoch → l.line (epoch + 1 - l.first) ≡ (x.wires b).line epoch
      → l'.line (epoch + 1 - l.first) ≡ (x'.wires b).line epoch
  pub others : (epoch : ℕ) (g : Begun) → (x.wires b).begun epoch ≡ Some g
      → (g.contact ≡ x.node.contact → g.peer_contact ≡ x.node.seen → ⊥)
      → (x'.wires b).line epoch ≡ (x.wires b).line epoch
  pub began : (epoch : ℕ) (g : Begun) → (x'.wires b).begun epoch ≡ Some g
      → ((x.wires b).begun epoch ≡ Some g)
      ⊎ ((g.contact ≡ x.node.contact) × (g.peer_contact ≡ x.node.seen) × (l.first ≤ epoch)
      × (l.line (epoch + 1 - l.first) ≡ (x.wires b).line epoch))
  pub told : (k : ℕ) (f : Frame) → slice_get x'.told k ≡ Some f → f.bearer ≡ b
      → (slice_get x.told k ≡ Some f)
      ⊎ ((f.contact ≡ x.node.contact) × (f.peer_contact ≡ x.node.seen) × IsShownIn l' z' (es_of f.bytes))

-- A piece of a call, in which no contact ends: it changes what is sent in the contact to this traffic, by events of the
-- sender.
pub record IsSendingPiece (x x' : View) (c : Carriage) (t : Traffic) : Type 0 where
  pub node : x'.node ≡ x.node
  pub become : Become First (ends_in x') t c.state
  pub near : SendsOn x x' 0 c.traffic.near t.near become.state.near
  pub far : SendsOn x x' 1 c.traffic.far t.far become.state.far
  -- out of contact no epoch changes
  pub apart : IsApart x' → IsApart x × ((b : ℕ) → epoch_on x'.node (x'.wires b) ≡ epoch_on x.node (x.wires b))

-- ---- a node goes on to take

-- so many packets were taken of the session of an epoch, and a record of it counts them
pub record IsCountedBy (l : Lines) (r : Receiver) (epoch count : ℕ) : Type 0 where
  pub begun : 1 ≤ r.session
  pub epoch_is : l.first + r.session ≡ epoch + 1
  pub taken : count ≤ r.taken

-- on a bearer y takes packets of no session but the one of this record, which counts them
abbrev pub TakesFor : View → View → ℕ → Lines → Receiver → Type 0
TakesFor y y' b l r = (epoch : ℕ) → ((y'.wires b).got epoch ≡ (y.wires b).got epoch)
    ⊎ IsCountedBy l r epoch (length ((y'.wires b).got epoch))

-- What y does in its present contact, beside what was sent in it: it takes by events of the receiver, or nothing.
pub record Receives (y y' : View) (c : Carriage) : Type 0 where
  pub node : y'.node ≡ y.node
  pub begun : (b epoch : ℕ) (g : Begun) → (y.wires b).begun epoch ≡ Some g → (y'.wires b).begun epoch ≡ Some g
  pub present : IsPresent y' y.node.contact y.node.seen → IsPresent y y.node.contact y.node.seen
  pub state : State
  pub takes : ReceiverFollows First c.state state
  pub moved : (state ≡ c.state) ⊎ IsPresent y y.node.contact y.node.seen
  pub near : IsPresent y y.node.contact y.node.seen
      → IsRecordFor c.traffic.near (record_at (y'.wires 0).end) state.near_record
  pub far : IsPresent y y.node.contact y.node.seen
      → IsRecordFor c.traffic.far (record_at (y'.wires 1).end) state.far_record
  pub near_got : TakesFor y y' 0 c.traffic.near state.near_record
  pub far_got : TakesFor y y' 1 c.traffic.far state.far_record

-- What became of the record on a bearer of y when a contact began: it stayed, or it is kept for an epoch that x told in
-- the contact.
pub data RecordAfter (x y y' : View) (b : ℕ) : Type 0 where
  as_it_was : record_at (y'.wires b).end ≡ record_at (y.wires b).end → RecordAfter x y y' b
  is_kept : (epoch : ℕ) → IsToldIn x.told b epoch y.node.seen y.node.contact
      → record_at (y'.wires b).end ≡ Some (kept_for (record_at (y.wires b).end) epoch)
      → RecordAfter x y y' b

-- a contact of y begins, which becomes y', by a frame of x; nothing is taken in it yet
pub record Enters (x y y' : View) : Type 0 where
  pub apart : IsApart y
  pub node : y'.node ≡ y.node
  pub some : IsAhead y' y.node.contact y.node.seen → ⊥
  pub begun : (b epoch : ℕ) (g : Begun) → (y.wires b).begun epoch ≡ Some g → (y'.wires b).begun epoch ≡ Some g
  pub bearer : ℕ
  pub epoch : ℕ
  pub shown : IsToldIn x.told bearer epoch y.node.seen y.node.contact
  pub records : (b : ℕ) → RecordAfter x y y' b
  pub got : (b epoch : ℕ) → (y'.wires b).got epoch ≡ (y.wires b).got epoch

-- ---- a node gets another number

-- nothing was begun, numbered, taken or told, and both ends are reset
pub record Rests (x x' : View) : Type 0 where
  pub begun : (b epoch : ℕ) → (x'.wires b).begun epoch ≡ (x.wires b).begun epoch
  pub line : (b epoch : ℕ) → (x'.wires b).line epoch ≡ (x.wires b).line epoch
  pub got : (b epoch : ℕ) → (x'.wires b).got epoch ≡ (x.wires b).got epoch
  pub told : x'.told ≡ x.told
  pub near : (ends_in x').near.state ≡ Reset
  pub far : (ends_in x').far.state ≡ Reset

-- the node left its contact, or had none
pub record Leaves (x x' : View) : Type 0 where
  pub rests : Rests x x'
  pub later : x.node.contact < x'.node.contact

-- out of contact the peer showed a higher number
pub record Learns (x x' : View) : Type 0 where
  pub rests : Rests x x'
  pub own : x'.node.contact ≡ x.node.contact
  pub higher : x.node.seen < x'.node.seen
  pub apart : IsApart x
  pub epochs : (b : ℕ) → epoch_on x'.node (x'.wires b) ≡ epoch_on x.node (x.wires b)

-- the first epochs and highest numbers, with those that x' has for the numbers above that of x
abbrev pub numbers_with : Numbers → View → View → Numbers
numbers_with n x x' = record {
  first = λ b own. if nat_lt x.node.contact own then epoch_on x'.node (x'.wires b) else n.first b own;
  met = λ own. if nat_lt x.node.contact own then x'.node.seen else n.met own;
}

-- and with the higher number that x has seen
abbrev pub numbers_met : Numbers → View → Numbers
numbers_met n x = record { first = n.first; met = put_at n.met x.node.contact x.node.seen }

-- ---- numbers and epochs

-- the node told more, and its number didn't fall
pub record TellsMore (y y' : View) : Type 0 where
  pub told : (k : ℕ) (f : Frame) → slice_get y.told k ≡ Some f → slice_get y'.told k ≡ Some f
  pub contact : y.node.contact ≤ y'.node.contact

-- The node keeps its contact numbers: a session begins by a frame that the other node told in the contact, and frames
-- are told, of the first epoch, or in a contact whose number the other node has.
pub record Stays (x x' y : View) (n : Numbers) : Type 0 where
  pub node : x'.node ≡ x.node
  pub apart : IsApart x' → IsApart x × ((b : ℕ) → epoch_on x'.node (x'.wires b) ≡ epoch_on x.node (x.wires b))
  pub epochs : (b : ℕ) → (epoch_on x'.node (x'.wires b) ≡ epoch_on x.node (x.wires b))
      ⊎ ((epoch_on x.node (x.wires b) ≤ epoch_on x'.node (x'.wires b)) × (x.node.seen ≤ y.node.contact))
  pub present : IsPresent x x.node.contact x.node.seen → IsPresent x' x.node.contact x.node.seen
  pub begun : (b epoch : ℕ) (g : Begun) → (x.wires b).begun epoch ≡ Some g → (x'.wires b).begun epoch ≡ Some g
  -- a session began in the contact under each epoch that a bearer left behind
  pub each : (b epoch : ℕ) → epoch_on x.node (x.wires b) ≤ epoch → epoch < epoch_on x'.node (x'.wires b)
      → BeganIn x' b epoch x.node.contact x.node.seen
  pub began : (b epoch : ℕ) (g : Begun) → (x'.wires b).begun epoch ≡ Some g
      → ((x.wires b).begun epoch ≡ Some g)
      ⊎ ((g.contact ≡ x.node.contact) × (g.peer_contact ≡ x.node.seen) × IsPresent x' x.node.contact x.node.seen
      × IsToldIn y.told b g.peer_epoch x.node.seen x.node.contact)
  pub told : (k : ℕ) (f : Frame) → slice_get x'.told k ≡ Some f
      → (slice_get x.told k ≡ Some f)
      ⊎ ((f.contact ≡ x.node.contact) × (f.peer_contact ≡ x.node.seen)
      × (n.first f.bearer x.node.contact ≤ es_of f.bytes)
      × ((es_of f.bytes ≤ n.first f.bearer x.node.contact) ⊎ (x.node.seen ≤ y.node.contact)))

-- no frame shows an epoch above those that the ends get, or one of them, but the last one of a boot
pub record EpochsRise (x x' : View) : Type 0 where
  pub told : (k : ℕ) (f : Frame) → slice_get x.told k ≡ Some f → es_of f.bytes ≤ epoch_on x'.node (x'.wires f.bearer)
  pub below : (k : ℕ) (f : Frame) → slice_get x.told k ≡ Some f → is_last (es_of f.bytes) ≡ false
      → es_of f.bytes < epoch_on x'.node (x'.wires f.bearer)
