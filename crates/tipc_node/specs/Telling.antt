-- What a node's journal tells of the node: it is whole steps, each answered as it may be, in which each message has its fate; and contacts,
-- links that are up, sockets and names are what it says.
use Rattle.std.specs.Prelude.{◌≡◌, ◌≤◌, ◌<◌, IfSome, ℕ, Bool, true, false, List, [], Option, Some, None, option_and_then}
use Rattle.std.specs.List.{All, list_all}
use Rattle.tipc_types.specs.Address.{node_word}
use Rattle.tipc_types.specs.declared.identity.Addr.{Addr}
use Rattle.tipc_types.specs.declared.node_calls.Answer.{Answer}
use Rattle.tipc_types.specs.declared.node_calls.Answer.TheVariants as answer
use Rattle.tipc_types.specs.declared.node_calls.EventNote.{EventNote}
use Rattle.tipc_types.specs.declared.node_calls.EventNote.TheVariants.{Multicast, SendName, SendPort}
use Rattle.tipc_types.specs.declared.services.Publication.{Publication}
use Rattle.tipc_types.specs.Limits.{window_size}
use Rattle.tipc_broadcast.specs.Casting.{IsPackedCast}
use Rattle.tipc_journal.specs.declared.entries.Entry.{Entry}
use Rattle.tipc_journal.specs.Contacts.{contact, up_epochs}
use Rattle.tipc_journal.specs.Counting.{AllAnsweredToCallers}
use Rattle.tipc_journal.specs.Dues.{Due}
use Rattle.tipc_journal.specs.Fates.{AllHaveFates}
use Rattle.tipc_journal.specs.Licensed.{AllLicensed, is_reached}
use Rattle.tipc_journal.specs.Refusals.{is_among, sockets_made}
use Rattle.tipc_journal.specs.Steps.{IsWhole, steps}
use Rattle.tipc_pair.specs.Facing.{PairEnds, contact_between}
use Rattle.tipc_ports.specs.Numbers.{port_number}
use Rattle.tipc_sockets.specs.SocketTables.{AreSockets}
use Rattle.tipc_sockets.specs.Telling.{AreTold}
use Rattle.tipc_node.specs.declared.neighbours.Neighbour.{Neighbour}
use Rattle.tipc_node.specs.Messages.{limit_of}
use Rattle.tipc_node.specs.Nodes.{NodeState, neighbour_of}
use Rattle.tipc_node.specs.Works.{addr_of_word}
use Rattle.tipc_node.specs.Turns.{addr_of, pair_in}
use Rattle.tipc_pair.specs.LinkReadings.{epochs_on, AreAbreast, IsPackedPair}

-- a journal tells the contact with node p, and the epochs of each link to it that is up
pub record TellsOf (journal : List Entry) (p : ℕ) (pair : Option PairEnds) : Type 0 where
  pub contact_is : contact journal (addr_of p) ≡ option_and_then contact_between pair
  pub epochs_are : (bearer : ℕ) → up_epochs journal (addr_of p) bearer ≡ option_and_then (epochs_on bearer) pair
  pub abreast : IfSome pair AreAbreast

-- a publication is the node's own, or of a node in contact
abbrev pub is_in_reach : ℕ → List Entry → Publication → Bool
is_in_reach own journal p = is_reached (addr_of_word own) journal p.at.node

-- a journal tells what the node's sockets hold, whatever is due next; the sockets are of this node and boot, each name that they find is
-- the node's own, or of a node in contact, and no socket was made with a port above those of the sockets so far
pub record TellsSockets (n : NodeState) : Type 0 where
  pub told : (d : Due) → AreTold (addr_of_word n.own) n.journal d [] n.sockets
  pub sound : AreSockets n.sockets
  pub boot : n.sockets.ports.boot ≡ n.boot
  pub reached : list_all (is_in_reach n.own n.journal) n.sockets.names ≡ true
  pub unmade : (port : ℕ) → port_number n.sockets.ports.boot n.sockets.ports.made < port → is_among (sockets_made n.journal) port ≡ false

-- A send that was answered as congested told the truth: with 50 packets unacknowledged, at least as many waited as may before a message
-- of its importance.
abbrev pub IsFull : EventNote → Answer → Type 0
IsFull (SendName port kind instance importance body) (answer.Congested in_flight waiting) = (in_flight ≡ window_size) × (limit_of importance ≤ waiting)
IsFull (SendPort port to importance body) (answer.Congested in_flight waiting) = (in_flight ≡ window_size) × (limit_of importance ≤ waiting)
IsFull (Multicast port kind lower upper importance body) (answer.Congested in_flight waiting) = (in_flight ≡ window_size) × (limit_of importance ≤ waiting)
IsFull event answered = Unit {0}

-- so it was with each step of a journal
abbrev pub AllFull : List Entry → Type 0
AllFull entries = All (λ p. IsFull p.step.event p.step.answer) (steps entries)

-- so it is at the pair to each neighbour of a node, and at its broadcast link
abbrev pub ArePacked : NodeState → Type 0
ArePacked n = ((b : ℕ) (x : Neighbour) → neighbour_of n b ≡ Some x → IsPackedPair x.pair) × IsPackedCast n.casting.sending

-- A node's journal tells what the node is: its links and contacts, and what its sockets hold. What the journal tells
-- was lawful: each step was licensed and answered to its caller, and each message had its fate.
pub record IsTold (n : NodeState) : Type 0 where
  pub whole : IsWhole n.journal
  pub links : (p : ℕ) → TellsOf n.journal p (pair_in n p)
  -- no neighbour has the number 0; and there is no contact with the node itself, or with an address below those of the cluster
  pub nobody : neighbour_of n 0 ≡ None
  pub alone : contact n.journal (addr_of_word n.own) ≡ None
  pub below : (a : Addr) → a.word < node_word 0 → contact n.journal a ≡ None
  pub sockets : TellsSockets n
  -- each step is licensed, and answered to its caller; each message has its fate
  pub licensed : AllLicensed (addr_of_word n.own) n.journal
  pub answered : AllAnsweredToCallers n.journal
  pub fates : AllHaveFates (addr_of_word n.own) n.journal
  pub full : AllFull n.journal
