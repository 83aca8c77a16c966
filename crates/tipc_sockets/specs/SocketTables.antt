-- The sockets of one node: the publications that it knows, its ports, the messages that wait at each of them, and the
-- subscriptions.
use Rattle.std.specs.Prelude.{◌≡◌, ◌+◌, ℕ, Bool, List, [], ◌∷◌, ◌++◌, Option, is_some, nat_eq, drop, fold, filter, count_by, unwrap_or}
use Rattle.std.specs.Map.{keys_of, lookup, set_value}
use Rattle.tipc_types.specs.Address.{IsNodeWord}
use Rattle.tipc_types.specs.declared.message_forms.Message.{Message}
use Rattle.tipc_types.specs.declared.services.Publication.{Publication}
use Rattle.tipc_types.specs.Tables.{is_of, IsTable}
use Rattle.tipc_ports.specs.Numbers.{ArePresent, PortTable}
use Rattle.tipc_topology.specs.Changing.{no_watchers, Watchers}

-- a node's sockets: its address word; every publication that it knows, in order of node, port and key; its own ones,
-- in the order of publishing; its ports; each port with the messages that wait there; and its subscriptions
pub record SocketTable : Type 0 where
  pub own : ℕ
  pub names : List Publication
  pub live : List Publication
  pub ports : PortTable
  pub queues : List (ℕ × List Message)
  pub watchers : Watchers

-- the sockets of a node of this address and boot, before any is made
abbrev pub no_sockets : ℕ → ℕ → SocketTable
no_sockets own boot =
    record {
      own = own;
      names = [];
      live = [];
      ports = record { boot = boot; made = 0; present = [] };
      queues = [];
      watchers = no_watchers;
    }

-- the messages that wait at a port, or none of that where the port isn't there
abbrev pub queue_at : SocketTable → ℕ → Option (List Message)
queue_at s port = lookup (nat_eq port) s.queues

-- whether a port is there
abbrev pub has_port : SocketTable → ℕ → Bool
has_port s port = is_some (queue_at s port)

-- the same sockets with other queues
abbrev pub with_queues : SocketTable → List (ℕ × List Message) → SocketTable
with_queues s queues = record s { queues = queues }

-- the same sockets with other publications, and subscriptions that were told so
abbrev pub with_publications : SocketTable → List Publication → List Publication → Watchers → SocketTable
with_publications s names live watchers = record s { names = names; live = live; watchers = watchers }

-- the same sockets with other subscriptions
abbrev pub with_watchers : SocketTable → Watchers → SocketTable
with_watchers s watchers = with_publications s s.names s.live watchers

-- one socket more, at a port where nothing waits
abbrev pub with_socket : SocketTable → ℕ → SocketTable
with_socket s port =
    record {
      own = s.own;
      names = s.names;
      live = s.live;
      ports = record { boot = s.ports.boot; made = s.ports.made + 1; present = s.ports.present ++ port ∷ [] };
      queues = s.queues ++ (port, []) ∷ [];
      watchers = s.watchers;
    }

-- the queues where one more message waits at a port
abbrev pub queued : Message → List (ℕ × List Message) → ℕ → List (ℕ × List Message)
queued m queues port = set_value (nat_eq port) queues (unwrap_or (lookup (nat_eq port) queues) [] ++ m ∷ [])

-- the queues where one more message waits at each of these ports
abbrev pub queued_at_each : Message → List (ℕ × List Message) → List ℕ → List (ℕ × List Message)
queued_at_each m queues ports = fold (λ those port. queued m those port) queues ports

-- the queues where the first message at a port was taken
abbrev pub with_first_taken : List (ℕ × List Message) → ℕ → List (ℕ × List Message)
with_first_taken queues port = set_value (nat_eq port) queues (drop 1 (unwrap_or (lookup (nat_eq port) queues) []))

-- What always holds of a node's sockets: each port was made in this boot and has its queue; the names are in order;
-- and of the own ones among them as many pass any test as of the live ones, so these are the same publications.
pub record AreSockets (s : SocketTable) : Type 0 where
  pub node : IsNodeWord s.own
  pub present : ArePresent s.ports.boot s.ports.made s.ports.present
  pub queues : keys_of s.queues ≡ s.ports.present
  pub names : IsTable s.names
  pub live : (test : Publication → Bool) → count_by test (filter (is_of s.own) s.names) ≡ count_by test s.live
