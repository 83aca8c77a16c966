-- The contact numbers and epochs of two nodes: in which contacts sessions began, frames were told, and what was taken
-- came.
use Rattle.std.specs.Prelude.{◌≡◌, ◌<◌, ◌≤◌, ◌⊎◌, ℕ, false, List, [], Some, slice_get}
use Rattle.tipc_link_fsm.specs.Table.{is_last}
use Rattle.tipc_link.specs.Records.{Received}
use Rattle.tipc_paired.specs.Views.{Begun, Frame, IsApart, View, epoch_on, es_of}
use Rattle.tipc_two_nodes.specs.links.Receiving.{record_at}
use Rattle.tipc_two_nodes.specs.Carriages.{BeganIn, IsPresent, Numbers}

-- a frame that was told on a bearer in a contact, and shows this epoch
pub record IsToldIn (told : List Frame) (bearer epoch own theirs : ℕ) : Type 0 where
  pub place : ℕ
  pub frame : Frame
  pub there : slice_get told place ≡ Some frame
  pub bearer_is : frame.bearer ≡ bearer
  pub epoch_is : es_of frame.bytes ≡ epoch
  pub own_is : frame.contact ≡ own
  pub theirs_is : frame.peer_contact ≡ theirs

-- or under this contact number or a lower one
pub record IsToldBy (told : List Frame) (bearer epoch own : ℕ) : Type 0 where
  pub place : ℕ
  pub frame : Frame
  pub there : slice_get told place ≡ Some frame
  pub bearer_is : frame.bearer ≡ bearer
  pub epoch_is : es_of frame.bytes ≡ epoch
  pub no_later : frame.contact ≤ own

-- ---- what a node began and told

-- a frame of a node whose first epochs and highest numbers are these, and which has this contact number now
pub record IsTimely (n : Numbers) (contact peer_contact : ℕ) (f : Frame) : Type 0 where
  pub own : f.contact ≤ contact
  pub theirs : f.peer_contact ≤ n.met f.contact
  -- it shows no epoch below the first one of its number, and none above that of a later number
  pub no_lower : n.first f.bearer f.contact ≤ es_of f.bytes
  pub no_higher : (own : ℕ) → f.contact < own → own ≤ contact → es_of f.bytes ≤ n.first f.bearer own
  -- an epoch belongs to one number, but for the last one of a boot
  pub lower : (own : ℕ) → f.contact < own → own ≤ contact → is_last (es_of f.bytes) ≡ false
      → es_of f.bytes < n.first f.bearer own
  -- a later epoch than the first one is shown in a contact alone, whose peer has shown its number
  pub alone : (es_of f.bytes ≤ n.first f.bearer f.contact)
      ⊎ ((f.peer_contact ≡ n.met f.contact) × (n.met f.contact ≤ peer_contact))

-- what is true of the contact numbers and epochs that x began and told, beside its peer y
pub record AreNumbers (x y : View) (n : Numbers) : Type 0 where
  pub now : n.met x.node.contact ≡ x.node.seen
  -- out of contact each bearer is at its first epoch
  pub apart : IsApart x → (b : ℕ) → epoch_on x.node (x.wires b) ≡ n.first b x.node.contact
  -- else it may be at a later one, in a contact whose peer has shown its number
  pub onward : (b : ℕ) → n.first b x.node.contact ≤ epoch_on x.node (x.wires b)
  pub alone : (b : ℕ) → (epoch_on x.node (x.wires b) ≤ n.first b x.node.contact) ⊎ (x.node.seen ≤ y.node.contact)
  -- a session began in the present contact under each epoch from the first one of its number up to the bearer's
  pub each : (b epoch : ℕ) → n.first b x.node.contact ≤ epoch → epoch < epoch_on x.node (x.wires b)
      → BeganIn x b epoch x.node.contact x.node.seen
  -- a session that began did so in an earlier contact, or in the one that lasts
  pub entered : (b epoch : ℕ) (g : Begun) → (x.wires b).begun epoch ≡ Some g
      → (g.contact < x.node.contact) ⊎ ((g.contact ≡ x.node.contact) × IsPresent x x.node.contact x.node.seen)
  -- under the highest number that the peer had shown, and a frame of the peer was told in the same contact
  pub highest : (b epoch : ℕ) (g : Begun) → (x.wires b).begun epoch ≡ Some g → g.peer_contact ≡ n.met g.contact
  pub heard : (b epoch : ℕ) (g : Begun) → (x.wires b).begun epoch ≡ Some g
      → IsToldIn y.told b g.peer_epoch g.peer_contact g.contact
  pub frames : (k : ℕ) (f : Frame) → slice_get x.told k ≡ Some f → IsTimely n x.node.contact y.node.contact f

-- ---- what a node took

-- nothing was taken or is held
pub record IsUnused (a : Received) : Type 0 where
  pub taken : a.taken ≡ 0
  pub held : a.held ≡ []

-- what was taken came in an earlier contact of the node, or in the one that lasts
abbrev pub IsTimelyFor : View → Begun → Type 0
IsTimelyFor y g = (g.peer_contact < y.node.contact)
    ⊎ ((g.peer_contact ≡ y.node.contact) × IsPresent y y.node.contact y.node.seen × (g.contact ≡ y.node.seen))

-- a record of y on a bearer is that of an epoch that x told under the present number or a lower one, and, where it is
-- used, of a session of x
pub record IsRecorded (y x : View) (b : ℕ) (a : Received) : Type 0 where
  pub told : IsToldBy x.told b a.epoch y.node.seen
  pub used : IsUnused a ⊎ ((g : Begun) × ((x.wires b).begun a.epoch ≡ Some g) × IsTimelyFor y g)

-- each receiving record of y, on either bearer, is of what x told and sent
abbrev pub AreRecorded : View → View → Type 0
AreRecorded y x = (b : ℕ) (a : Received) → record_at (y.wires b).end ≡ Some a → IsRecorded y x b a
