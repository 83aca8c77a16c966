-- What two nodes know of each other, as a world tells of them: of contact numbers and of epochs.
use Rattle.std.specs.Prelude.{◌≡◌, ◌<◌, ◌≤◌, ℕ, false, Some, None}
use Rattle.tipc_link.specs.Links.{LinkEnd}
use Rattle.tipc_link_fsm.specs.Table.{is_last}
use Rattle.tipc_pair.specs.Facing.{in_contact}
use Rattle.tipc_paired.specs.Views.{epoch_in}
use Rattle.tipc_two_nodes.specs.Sights.{AreSeen, Sight, pair_seen}

-- What v knows of w is no higher than what w has: the contact number, and on each bearer the highest epoch that its link end took, also where it
-- forgot that since. Where w has no link end there it is below the number under which one will be made.
pub record KnowsNoHigher (v w : Sight) : Type 0 where
  pub seen : v.node.seen ≤ w.node.contact
  pub highest : (bearer : ℕ) (e : LinkEnd) → v.ends bearer ≡ Some e → e.fsm.highest ≤ epoch_in w.node.contact (w.ends bearer)
  pub unmade : (bearer : ℕ) (e : LinkEnd) → v.ends bearer ≡ Some e → w.ends bearer ≡ None → e.fsm.highest < w.node.contact

-- so it is of two nodes that talk
abbrev pub NothingHigherIsKnown : Type 0
NothingHigherIsKnown = (v w : Sight) → AreSeen v w → KnowsNoHigher v w

-- A link end that knows the present epoch of the other one, but the last one of a boot, has seen the present contact number.
abbrev pub PresentTellsContact : Type 0
PresentTellsContact = (v w : Sight) (bearer : ℕ) (e d : LinkEnd) → AreSeen v w → v.ends bearer ≡ Some e → w.ends bearer ≡ Some d
    → e.fsm.peer ≡ Some d.fsm.own → is_last d.fsm.own ≡ false → v.node.seen ≡ w.node.contact

-- Of a node without contact, a link end that has seen its present contact number knows no epoch but the present one.
abbrev pub ContactTellsPresent : Type 0
ContactTellsPresent = (v w : Sight) (bearer epoch : ℕ) (e : LinkEnd) → AreSeen v w → in_contact (pair_seen w) ≡ false
    → v.node.seen ≡ w.node.contact → v.ends bearer ≡ Some e → e.fsm.peer ≡ Some epoch
    → (d : LinkEnd) × (w.ends bearer ≡ Some d) × (d.fsm.own ≡ epoch)
