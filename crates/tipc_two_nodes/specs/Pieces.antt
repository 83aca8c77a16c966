-- A piece of a call of a node, in which no contact begins or ends: what it does on each bearer.
use Rattle.std.specs.Prelude.{◌≡◌, ◌≢◌, ◌≤◌, ◌⊎◌, ℕ, List, ◌++◌, Some}
use Rattle.tipc_pair.specs.Facing.{PairEnds}
use Rattle.tipc_changeover.specs.Links.{turned_state, Bearer, First, Second, State}
use Rattle.tipc_two_nodes.specs.links.Receiving.{record_at}
use Rattle.tipc_two_nodes.specs.links.Traffic.{Traffic, turned_traffic as turned_traffic}
use Rattle.tipc_paired.specs.Paired.{ArePaired}
use Rattle.tipc_paired.specs.Views.{Begun, View, epoch_on}
use Rattle.tipc_two_nodes.specs.Carriages.{IsPresent, Numbers}
use Rattle.tipc_two_nodes.specs.Numbers.{AreRecorded}
use Rattle.tipc_two_nodes.specs.Steps.{Stays, TellsMore}

-- Packets get numbers under the epoch that the bearer has then, and a session begins under no lower one than it had.
pub record GrowsAt (x x' : View) (b : ℕ) : Type 0 where
  pub packets : List (List ℕ)
  pub line : (x'.wires b).line (epoch_on x'.node (x'.wires b))
      ≡ (x.wires b).line (epoch_on x'.node (x'.wires b)) ++ packets
  pub others : (epoch : ℕ) → epoch ≢ epoch_on x'.node (x'.wires b)
      → (x'.wires b).line epoch ≡ (x.wires b).line epoch
  pub began : (epoch : ℕ) (g : Begun) → (x'.wires b).begun epoch ≡ Some g
      → ((x.wires b).begun epoch ≡ Some g) ⊎ (epoch_on x.node (x.wires b) ≤ epoch)

-- the receiving records stayed as they were
pub record RecordsStay (x x' : View) : Type 0 where
  pub near : record_at (x'.wires 0).end ≡ record_at (x.wires 0).end
  pub far : record_at (x'.wires 1).end ≡ record_at (x.wires 1).end

-- A piece of a call of x, beside y, in which no contact begins or ends and nothing is taken.
pub record IsPiece (x x' y : View) (n : Numbers) : Type 0 where
  pub paired : ArePaired x' y
  pub tells : TellsMore x x'
  pub begun : (b epoch : ℕ) (g : Begun) → (x.wires b).begun epoch ≡ Some g → (x'.wires b).begun epoch ≡ Some g
  pub recorded : AreRecorded x' y
  pub stays : Stays x x' y n
  pub near : GrowsAt x x' 0
  pub far : GrowsAt x x' 1
  pub records : RecordsStay x x'
  pub got : (b epoch : ℕ) → (x'.wires b).got epoch ≡ (x.wires b).got epoch
  pub lasts : IsPresent x' x.node.contact x.node.seen → IsPresent x x.node.contact x.node.seen

-- ---- the pair of a node

-- what was sent, and its state, as they are seen from the link of a bearer
abbrev pub traffic_from : Bearer → Traffic → Traffic
traffic_from First t = t
traffic_from Second t = turned_traffic t

-- the state of two links, seen from the link of a bearer
abbrev pub state_from : Bearer → State → State
state_from First s = s
state_from Second s = turned_state s

-- the pair keeps its contact numbers, and is seen from the same link
pub record KeepsNumbers (p q : PairEnds) : Type 0 where
  pub own : q.own ≡ p.own
  pub peer : q.peer ≡ p.peer
  pub contact : q.contact ≡ p.contact
  pub seen : q.seen ≡ p.seen
  pub bearer : q.bearer ≡ p.bearer
