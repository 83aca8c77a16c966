-- The state of one direction between two nodes that have two links, on the first and on the second bearer.
use Rattle.std.specs.Prelude.{◌≡◌, ℕ, ◌<◌, ◌≤◌, ◌⊎◌, Bool, true, false, List, ◌++◌, Some}
use Rattle.tipc_changeover.specs.Slots.{at, leading, LinkSlot, Tunnel}

-- the two bearers; over the first one's link the flow goes where both links are up
pub data Bearer : Type 0 where
  First : Bearer
  Second : Bearer

-- the other bearer
abbrev pub other : Bearer → Bearer
other First = Second
other Second = First

-- The sender's end: it is reset and may go up, it is up, or it went down while the other link was up and may not go
-- up before the other link has brought what was lost.
pub data EndState : Type 0 where
  Reset : EndState
  Up : EndState
  Held : EndState

-- The sender's end of a link. Its sessions count from 1, and so do the places in a session.
pub record Sender : Type 0 where
  -- the present session
  pub session : ℕ
  pub state : EndState
  -- the slots that have a number, of each session in order
  pub line : ℕ → List LinkSlot
  -- the slots of the present session that wait for a number
  pub waiting : List LinkSlot
  -- how many places of the present session are acknowledged
  pub acked : ℕ

-- The receiver's record of a link: the session, 0 where there was none yet, and how many places of it were taken.
pub record Receiver : Type 0 where
  pub session : ℕ
  pub taken : ℕ

-- Both links, seen from one of them, which is the near one; how many plain packets were put, how many of them have a
-- number, and which were taken, in the order of taking.
pub record State : Type 0 where
  pub near : Sender
  pub near_record : Receiver
  pub far : Sender
  pub far_record : Receiver
  pub put : ℕ
  pub numbered : ℕ
  pub delivered : List ℕ

-- the same state, seen from the other link
abbrev pub turned_state : State → State
turned_state s = record s { near = s.far; near_record = s.far_record; far = s.near; far_record = s.near_record }

-- the state is kept as it is seen from the first bearer's link; this is how it is seen from a bearer's link, and back
abbrev pub seen : Bearer → State → State
seen First s = s
seen Second s = turned_state s

-- ---- what is read of a state

-- the slots of the present session: those that have a number, and those that wait
abbrev pub slots : Sender → List LinkSlot
slots x = x.line x.session ++ x.waiting

-- the flow goes over the first bearer's link where that is up, else over the second one's
abbrev pub leads : Bearer → EndState → EndState → Bool
leads First Up there = true
leads First Reset there = false
leads First Held there = false
leads Second Up Up = false
leads Second Up Reset = true
leads Second Up Held = true
leads Second Reset there = false
leads Second Held there = false

-- the slots that come before any plain packet that hasn't a number yet
abbrev pub front : Sender → List LinkSlot
front x = x.line x.session ++ leading x.waiting

-- A place of a session was taken, or a later session passed it wholly.
abbrev pub Past : Receiver → ℕ → ℕ → Type 0
Past r e q = (e < r.session) ⊎ ((r.session ≡ e) × (q ≤ r.taken))

-- one of the slots is a tunnel packet for a place of a session of the other link
pub record Tunnels (zs : List LinkSlot) (session place : ℕ) : Type 0 where
  pub where_it_stands : ℕ
  pub full : Bool
  pub there : at zs where_it_stands ≡ Some (Tunnel session place full)

-- it stands before a place
pub record TunnelsBefore (zs : List LinkSlot) (before session place : ℕ) : Type 0 where
  pub where_it_stands : ℕ
  pub full : Bool
  pub there : at zs where_it_stands ≡ Some (Tunnel session place full)
  pub earlier : where_it_stands < before

-- it isn't acknowledged
pub record TunnelsLive (x : Sender) (session place : ℕ) : Type 0 where
  pub where_it_stands : ℕ
  pub full : Bool
  pub there : at (slots x) where_it_stands ≡ Some (Tunnel session place full)
  pub unacknowledged : x.acked < where_it_stands
