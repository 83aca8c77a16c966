use Rattle.std.proofs.Common.{◌++◌, [], List, sym, subst}
use Rattle.std.proofs.lemmas.List.{append-nil}
use Rattle.tipc_journal.specs.declared.entries.Entry.{Entry}
use Rattle.tipc_journal.specs.Licensed.{events_given}
use Rattle.tipc_topology.specs.Changing.{Watchers}
use Rattle.tipc_sockets.specs.Watched.{AreWatchersTold}
use Rattle.tipc_sockets.proofs.Subscribers.{count_told, next_told, there_told, timeouts_told}
use Rattle.tipc_sockets.proofs.laws.subscriptions_are_told.Goals as goal

-- behind no entry of a step the whole steps tell
whole_told : (J : List Entry) (t : Watchers) → AreWatchersTold (J ++ []) (events_given J) t → AreWatchersTold J (events_given J) t
whole_told J t h = subst (λ (es : List Entry). AreWatchersTold es (events_given J) t) (append-nil J) h

pub returns-clause-there : goal.returns-clause-there
returns-clause-there c = λ own J d s number h. there_told J (events_given J) s.watchers number (whole_told J s.watchers h.watchers)

pub returns-clause-counted : goal.returns-clause-counted
returns-clause-counted c = λ own J d s h.
    let told = whole_told J s.watchers h.watchers in
    (count_told J (events_given J) s.watchers told, sym told.made)

pub returns-clause-next : goal.returns-clause-next
returns-clause-next c = λ own J d s number h there. next_told J (events_given J) s.watchers number (whole_told J s.watchers h.watchers) there

pub returns-clause-due : goal.returns-clause-due
returns-clause-due c = λ own J d front s h none. timeouts_told J front (events_given J) s.watchers none h.watchers
