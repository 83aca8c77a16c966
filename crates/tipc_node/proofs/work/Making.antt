-- The node when a step is recorded, of its parts.
use Rattle.std.proofs.Common.{ℕ, List, Option}
use Rattle.tipc_journal.specs.declared.entries.Entry.{Entry}
use Rattle.tipc_sockets.specs.SocketTables.{SocketTable}
use Rattle.tipc_node.specs.declared.neighbours.Neighbour.{Neighbour}
use Rattle.tipc_node.specs.Nodes.{NodeState}

abbrev pub node_of : NodeState → List (Option Neighbour) → SocketTable → List Entry → ℕ → NodeState
node_of n neighbours sockets journal promised = record n { neighbours = neighbours; sockets = sockets; journal = journal; promised = promised }
