-- Publications: when one is refused at an own port, and what a publication, a withdrawal and a closing change. Each is
-- told to the subscribers.
use Rattle.std.specs.Prelude.{ℕ, ◌==◌, ◌&&◌, Bool, not, nat_eq, nat_le, nat_lt, if◌then◌else◌, List, [], ◌∷◌, ◌++◌, Option, None, Some, filter, find, fold, length}
use Rattle.std.specs.List.{list_any}
use Rattle.std.specs.Map.{remove_entry}
use Rattle.tipc_types.specs.Span.{Span}
use Rattle.tipc_types.specs.declared.services.Publication.{Publication}
use Rattle.tipc_types.specs.declared.services.Scope.{Scope}
use Rattle.tipc_types.specs.Watching.{in_order}
use Rattle.tipc_types.specs.Tables.{is_named, is_of, put, without as without_named, without_node}
use Rattle.tipc_journal.specs.Refusals.{first_free_type, most_publications}
use Rattle.tipc_ports.specs.Numbers.{without_port}
use Rattle.tipc_sockets.specs.declared.publishing.PublishFault.{PublishFault}
use Rattle.tipc_sockets.specs.declared.publishing.PublishFault.TheVariants as refused
use Rattle.tipc_topology.specs.declared.changes.TableChange.TheVariants.{Added}
use Rattle.tipc_topology.specs.Changing.{changed, with_loss}
use Rattle.tipc_sockets.specs.SocketTables.{has_port, with_publications, SocketTable}

-- whether a publication is at a port
abbrev pub is_at : ℕ → Publication → Bool
is_at port p = p.at.port == port

-- whether a publication has a key
abbrev pub has_key : ℕ → Publication → Bool
has_key key p = p.key == key

-- whether a publication has the key of one that is live at a port
abbrev pub is_key_at : ℕ → List Publication → Publication → Bool
is_key_at port live p = list_any (λ q. is_at port q && has_key q.key p) live

-- the first reason for which an own publication is refused: no such port, a reserved service type, a key that is
-- live, or 1,024 that are live
abbrev pub publish_refusal : SocketTable → ℕ → ℕ → ℕ → Option PublishFault
publish_refusal s port kind key =
    if not (has_port s port) then Some refused.NoSocket
    else (if nat_lt kind first_free_type then Some refused.Reserved
    else (if list_any (has_key key) s.live then Some (refused.Duplicate key)
    else (if nat_le most_publications (length s.live) then Some refused.Full else None)))

-- the publication of a key that is live at a port
abbrev pub published_at : SocketTable → ℕ → ℕ → Option Publication
published_at s port key = find (λ p. is_at port p && has_key key p) s.live

-- the publication of a range at an own port
abbrev pub own_publication : ℕ → ℕ → Span → Scope → ℕ → Publication
own_publication own port range scope key =
    record { range = range; scope = scope; at = record { node = record { word = own }; port = port }; key = key }

-- one more publication is known, and subscribers are told so; an own one was published last
abbrev pub published : SocketTable → Publication → SocketTable
published s p =
    with_publications s (put p s.names) (if is_of s.own p then s.live ++ p ∷ [] else s.live) (changed (Added p) s.watchers)

-- the publication of a node and key is withdrawn, and subscribers are told so
abbrev pub withdrawn : SocketTable → ℕ → ℕ → SocketTable
withdrawn s node key =
    with_publications s (without_named node key s.names) (without_named node key s.live)
    (with_loss (filter (is_named node key) s.names) s.watchers)

-- these publications are withdrawn, one after the other
abbrev pub withdrawn_each : SocketTable → List Publication → SocketTable
withdrawn_each s ps = fold (λ those p. withdrawn those p.at.node.word p.key) s ps

-- all publications of a node are withdrawn; subscribers are told of them in the order of events
abbrev pub purged : SocketTable → ℕ → SocketTable
purged s node =
    with_publications s (without_node node s.names) (without_node node s.live)
    (with_loss (in_order (filter (is_of node) s.names)) s.watchers)

-- a port is closed: its own publications are withdrawn in the order of publishing, and subscribers are told so; the
-- messages that wait there are dropped
abbrev pub closed : SocketTable → ℕ → SocketTable
closed s port =
    record {
      own = s.own;
      names = filter (λ p. not (is_of s.own p && is_at port p)) s.names;
      live = filter (λ p. not (is_at port p)) s.live;
      ports = record { boot = s.ports.boot; made = s.ports.made; present = without_port port s.ports.present };
      queues = remove_entry (nat_eq port) s.queues;
      watchers = with_loss (filter (is_at port) s.live) s.watchers;
    }
