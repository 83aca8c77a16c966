-- Entries of a journal as the changes of the table that they tell of.
use Rattle.std.specs.Prelude.{◌==◌, List, [], Option, None, Some, filter}
use Rattle.tipc_types.specs.declared.node_calls.Event.{Event}
use Rattle.tipc_types.specs.declared.node_calls.Subscription.{Subscription}
use Rattle.tipc_types.specs.declared.services.Publication.{Publication}
use Rattle.tipc_journal.specs.declared.entries.Entry.{Entry}
use Rattle.tipc_journal.specs.declared.entries.Entry.TheVariants.{Published, Withdrawn, Learned, Forgot, ContactDown}
use Rattle.tipc_topology.specs.declared.changes.TableChange.{TableChange}
use Rattle.tipc_topology.specs.declared.changes.TableChange.TheVariants.{Added, Removed, Purged}
use Rattle.tipc_topology.specs.Transitions.{table_events}

-- the change that an entry tells of, where these publications are there
abbrev pub change_of : List Publication → Entry → Option TableChange
change_of there (Published p) = Some (Added p)
change_of there (Learned p) = Some (Added p)
change_of there (Withdrawn p) = Some (Removed p)
change_of there (Forgot p) = Some (Removed p)
change_of there (ContactDown peer numbers states shown) =
    Some (Purged (filter (λ p. p.at.node.word == peer.word) there))
change_of there _ = None

-- the events of a subscriber at a change, where there is one
abbrev pub events_where : Subscription → List Publication → Option TableChange → List Event
events_where s there None = []
events_where s there (Some c) = table_events s there c
