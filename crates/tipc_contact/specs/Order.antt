-- The order of the contacts of two nodes: they never disagree which of two contacts is the older one.
use Rattle.std.specs.Prelude.{◌≡◌, ◌<◌, ◌≤◌, ℕ, List, Some, slice_get}
use Rattle.tipc_contact.specs.Sides.{Action, HigherShown, Notice, Side}

-- What a side says is of its present contact or an earlier one, and so is what it names of the peer: no number is above that which the
-- peer has.
pub record SaysNoHigher (said : List Notice) (own peer : ℕ) : Type 0 where
  pub own_number : (k : ℕ) (m : Notice) → slice_get said k ≡ Some m → m.contact ≤ own
  pub peer_number : (k : ℕ) (m : Notice) → slice_get said k ≡ Some m → m.peer_contact ≤ peer

-- Two sides, and everything that they have said. Of a notice of each: where the one has seen a higher number of the other than the other
-- shows, the other hasn't seen a higher number than the one shows. So of two contacts, one in which either side told something, none is
-- younger by the one number and older by the other.
pub record AreInOrder (a : Side) (said_a : List Notice) (b : Side) (said_b : List Notice) : Type 0 where
  pub a_seen : a.seen ≤ b.own
  pub b_seen : b.seen ≤ a.own
  pub a_says : SaysNoHigher said_a a.own b.own
  pub b_says : SaysNoHigher said_b b.own a.own
  pub crossed : (k l : ℕ) (f g : Notice) → slice_get said_a k ≡ Some f → slice_get said_b l ≡ Some g → g.contact < f.peer_contact → g.peer_contact ≤ f.contact

-- one of these notices shows this contact number
pub record IsContactShown (notices : List Notice) (contact : ℕ) : Type 0 where
  pub place : ℕ
  pub notice : Notice
  pub there : slice_get notices place ≡ Some notice
  pub contact_is : notice.contact ≡ contact

-- a higher contact number that a side takes from its peer was shown by it
abbrev pub WasShown : List Notice → Action → Type 0
WasShown heard (HigherShown number) = IsContactShown heard number
WasShown heard other = Unit {0}
