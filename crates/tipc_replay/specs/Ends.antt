-- The link ends of all nodes, their numbers, how full their lists of packets are, and what their tunnel packets name.
use Rattle.std.specs.Prelude.{◌≡◌, ℕ, List, Option, Some, None, slice_index_or}
use Rattle.tipc_node.specs.Ends.{HasRightEnds}
use Rattle.tipc_node.specs.Nodes.{NodeState}
use Rattle.tipc_node.specs.Numbers.{AreLow, HasOwnNumbers, IsBounded}
use Rattle.tipc_node.specs.Originals.{NameEnded}
use Rattle.tipc_node.specs.Telling.{ArePacked}
use Rattle.tipc_replay.specs.States.{MemberState}

-- so is each node that is there
abbrev pub OfEach : (NodeState → Type 0) → List (Option MemberState) → Type 0
OfEach P members = (n : ℕ) (m : MemberState) → slice_index_or members n None ≡ Some m → P m.node

-- the link ends of each node are right
abbrev pub HaveRightEnds : List (Option MemberState) → Type 0
HaveRightEnds members = OfEach HasRightEnds members

-- each node is within its limits
abbrev pub AreBounded : List (Option MemberState) → Type 0
AreBounded members = OfEach IsBounded members

-- the contact numbers and the epochs of each node are of its boot
abbrev pub HaveOwnNumbers : List (Option MemberState) → Type 0
HaveOwnNumbers members = OfEach HasOwnNumbers members

-- and the counts in them are low
abbrev pub HaveLowNumbers : List (Option MemberState) → Type 0
HaveLowNumbers members = OfEach AreLow members

-- packets wait at each node only where as many are unacknowledged as may be
abbrev pub HavePackedLists : List (Option MemberState) → Type 0
HavePackedLists members = OfEach ArePacked members

-- original tunnel packets of each node name sessions that are over
abbrev pub AllNameEnded : List (Option MemberState) → Type 0
AllNameEnded members = OfEach NameEnded members
