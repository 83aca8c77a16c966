-- The nodes that the lines of a script make, and the faults of a line where some nodes are there.
use Rattle.std.specs.Prelude.{◌≡◌, ◌≤◌, ℕ, ◌==◌, Bool, true, false, not, if◌then◌else◌, List, Option, Some, None, find, take, slice_get}
use Rattle.std.specs.List.{list_any}
use Rattle.std.specs.Option.{option_or, option_map}
use Rattle.tipc_script.specs.declared.faults.LineWhy.TheVariants as why
use Rattle.tipc_script.specs.declared.lines.Line.{Line}
use Rattle.tipc_script.specs.declared.lines.Line.TheVariants.{Nothing, Node, Call, Repeat, BadRange, Restart, Link, Mark, Arrive, Drain, Pump, Burst, Settle, Air, Show, Links, Table, Flow}
use Rattle.tipc_script.specs.declared.lines.NodeToken.{NodeToken}
use Rattle.tipc_script.specs.Grammar.{asked, nodes_of}
use Rattle.tipc_script.specs.Faults.{Fault, fault_of}
use Rattle.tipc_script.specs.Spelling.{IsNode}
use Rattle.tipc_node.specs.Calls.{CanPerform}

-- whether a line makes a node
abbrev pub makes : Line → ℕ → Bool
makes (Node made) n = n == made
makes other n = false

-- the nodes that are there once these lines are done
unfoldable pub made_by : List (List ℕ) → ℕ → Bool
made_by lines n = list_any (λ line. makes (asked line) n) lines

-- a node that has to be there isn't, or one that mustn't be there is
abbrev pub is_misplaced : (ℕ → Bool) → NodeToken → Bool
is_misplaced there token = if token.there then not (there token.node) else there token.node

-- the first of these nodes, from the left, that is wrongly there or absent
abbrev pub node_fault : (ℕ → Bool) → List NodeToken → Option Fault
node_fault there tokens = option_map (λ token. (token.place, why.Node)) (find (is_misplaced there) tokens)

-- the first fault of a line where these nodes are there: its nodes are looked at only where it has no other
unfoldable pub fault_where : (ℕ → Bool) → List ℕ → Option Fault
fault_where there line = option_or (fault_of line) (node_fault there (nodes_of line))

-- each line is without fault where the nodes are there that the lines before it make
abbrev pub AreSound : List (List ℕ) → Type 0
AreSound lines = (i : ℕ) (line : List ℕ) → slice_get lines i ≡ Some line
    → fault_where (made_by (take i lines)) line ≡ None

-- the line behind the first i is the first that isn't without fault
pub record IsFirstBad (lines : List (List ℕ)) (i : ℕ) (fault : Fault) : Type 0 where
  pub before : AreSound (take i lines)
  pub line : List ℕ
  pub there : slice_get lines i ≡ Some line
  pub bad : fault_where (made_by (take i lines)) line ≡ Some fault

-- what a line asks for can be done where these nodes are there
abbrev pub CanBeDone : (ℕ → Bool) → Line → Type 0
CanBeDone there Nothing = Unit {0}
CanBeDone there (Node node) = IsNode node × (there node ≡ false)
CanBeDone there (Call node call) = (there node ≡ true) × CanPerform call
CanBeDone there (Repeat times node call) = (there node ≡ true) × CanPerform call × (1 ≤ times)
CanBeDone there (BadRange node) = there node ≡ true
CanBeDone there (Restart node) = there node ≡ true
CanBeDone there (Link first second bearer) = (there first ≡ true) × (there second ≡ true) × (bearer ≤ 1)
CanBeDone there Mark = Unit {0}
CanBeDone there (Arrive node bearer frame) = (there node ≡ true) × (bearer ≤ 1)
CanBeDone there (Drain node port) = there node ≡ true
CanBeDone there (Burst node port to_node to_port times body) = (there node ≡ true) × (there to_node ≡ true) × IsNode to_node
CanBeDone there (Pump bearer) = bearer ≤ 1
CanBeDone there (Settle rounds) = Unit {0}
CanBeDone there (Air bearer) = Unit {0}
CanBeDone there (Show bearer frame) = Unit {0}
CanBeDone there (Links node) = (there node ≡ true) × IsNode node
CanBeDone there (Table node) = (there node ≡ true) × IsNode node
CanBeDone there (Flow from to) = (there from ≡ true) × (there to ≡ true) × IsNode from × IsNode to
