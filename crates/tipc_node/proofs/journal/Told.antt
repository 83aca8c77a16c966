-- The journal tells of a node after each call.
use Rattle.std.proofs.Common.{◌≡◌, List, [], ◌++◌, Option, None, Some, fold, refl, ap, ◌∙◌, subst}
use Rattle.tipc_types.specs.declared.node_calls.Answer.{Answer}
use Rattle.tipc_types.specs.declared.node_calls.By.{By}
use Rattle.tipc_types.specs.declared.node_calls.EventNote.{EventNote}
use Rattle.tipc_types.specs.declared.node_calls.EventNote.TheVariants as event
use Rattle.tipc_types.specs.declared.services.Publication.{Publication}
use Rattle.tipc_outside.specs.declared.outgoing.Outgoing.{Outgoing}
use Rattle.tipc_journal.specs.declared.entries.Entry.{Entry}
use Rattle.tipc_journal.specs.Steps.{IsInside, step_entries}
use Rattle.tipc_sockets.specs.SocketTables.{AreSockets, SocketTable}
use Rattle.tipc_sockets.specs.Telling.{after_entry}
use Rattle.tipc_node.specs.declared.neighbours.Upkeep.TheVariants as upkeep
use Rattle.tipc_node.specs.Calls.{IsChosen, Performs, plan_of, upkeep_work}
use Rattle.tipc_node.specs.Nodes.{NodeState, step_of}
use Rattle.tipc_node.specs.Plans.{CarriesOut, Does, DoesUnless, Plan, Dispatch, frames_alone, on_its_way, to_all, to_peers}
use Rattle.tipc_node.specs.Sockets.{cancelled_work, closed_work, kept_answer, published_work, subscribed_work, withdrawn_work}
use Rattle.tipc_node.specs.Telling.{ArePacked, IsTold}
use Rattle.tipc_node.specs.Turns.{NodeTurn}
use Rattle.tipc_node.specs.Works.{Work, begun}
use Rattle.tipc_node.proofs.journal.Calling.{EndsWell, IsLawful, IsWell, receive_call, socket_call, tables_lawful}
use Rattle.tipc_node.proofs.journal.Concluding.{call_told, same_turn}
use Rattle.tipc_node.proofs.journal.Happening.{upkeep_call}
use Rattle.tipc_node.proofs.journal.MulticastsTold.{multicast_lawful}
use Rattle.tipc_node.proofs.journal.NameCalls.{name_lawful}
use Rattle.tipc_node.proofs.journal.Naming.{close_call, publish_call, published_there, withdraw_call}
use Rattle.tipc_node.proofs.journal.PortCalls.{port_lawful}
use Rattle.tipc_node.proofs.journal.Refusing.{number_refused, port_refused, publication_refused, socket_refused, subscription_refused, withdrawal_refused}
use Rattle.tipc_node.proofs.journal.Subscribing.{cancel_call, next_call, subscribe_call}
use Rattle.tipc_node.proofs.journal.Ticking.{before_pass, tick_call}
use Rattle.tipc_node.proofs.journal.TellsTold.{names_lawful}

-- ---- a plan that is carried out

abbrev JournalIn : NodeState → List Entry
JournalIn n = n.journal

abbrev SocketsIn : NodeState → SocketTable
SocketsIn n = n.sockets

carried_told : (n n' : NodeState) (by : By) (call : EventNote) (p : Plan) (frames : List Outgoing) (answered : Answer) (inside : List Entry) → IsTold n → NodeTurn n n' [] (step_of by call inside (kept_answer answered)) frames → AreSockets n'.sockets
    → IsLawful n by call p → CarriesOut n by call p n' frames answered → IsTold n'
carried_told n n' by call p frames answered inside h t sound lawful carried = unless p.refusal refl carried
  where
    -- the step that was recorded
    recorded_as : (last : Work) (given : Answer) → n'.journal ≡ n.journal ++ step_entries (step_of by call last.inside given) → n'.sockets ≡ last.sockets → (IsInside last.inside → IsWell n by call given last) → IsTold n'
    recorded_as last given journal same well =
        let c = well (same_turn n n' [] by call inside last.inside (kept_answer answered) given frames t journal).inside in
        call_told n n' [] by call inside (kept_answer answered) given frames c.0 last.sockets h t (journal ∙ ap (λ es. n.journal ++ step_entries (step_of by call es given)) c.1) same sound (λ inner. c.2)

    does : (s : Dispatch) → EndsWell s n by call p → Does s n by call p n' frames answered → IsTold n'
    does (frames_alone given) well d = recorded_as p.work (kept_answer p.answered) (ap JournalIn d.0) (ap SocketsIn d.0) well
    does (to_peers told) well d = recorded_as d.0 (kept_answer p.answered) (ap JournalIn d.2) (ap SocketsIn d.2) (well d.0 frames d.1 (subst AreSockets (ap SocketsIn d.2) sound))
    does (to_all m given) well d = recorded_as p.work (kept_answer p.answered) (ap JournalIn d.1) (ap SocketsIn d.1) well
    does (on_its_way m) well d = recorded_as d.0 (kept_answer p.answered) (ap JournalIn d.2) (ap SocketsIn d.2) (well d.0 frames d.1)

    unless : (o : Option Answer) → p.refusal ≡ o → DoesUnless o n by call p n' frames answered → IsTold n'
    unless (Some reason) some d = recorded_as (begun n) reason (ap JournalIn d.0) (ap SocketsIn d.0) (λ inner. (begun n, refl, lawful.refused reason some))
    unless None none d = does p.dispatch (lawful.done none) d

-- ---- each call

-- what happens to all neighbours isn't refused
never_refused : {X : Type 0} (reason : Answer) → None ≡ Some reason → X
never_refused reason is = absurd cc

plan_lawful : (n : NodeState) (by : By) (call : EventNote) (chosen : Option Publication) → IsTold n → ArePacked n → IsChosen n call chosen → IsLawful n by call (plan_of n call chosen)
plan_lawful n by event.Socket chosen h packed choice = tables_lawful n by event.Socket (begun n) h refl (socket_refused n h) (tt, tt) (λ reason. tt) refl (socket_call n by h)
plan_lawful n by (event.Close port) chosen h packed choice =
    names_lawful n by (event.Close port) (fold after_entry n.sockets (closed_work n port).inside) h refl (port_refused n port h) (tt, tt) (λ reason. tt) (λ peer waiting. refl)
    (λ last frames none tells after inner. close_call n by port last frames h none tells inner)
plan_lawful n by (event.Publish port range scope key) chosen h packed choice =
    let is = publication_refused n port range scope key h in
    names_lawful n by (event.Publish port range scope key) (published_work n port range scope key).sockets h refl is (tt, (tt, (tt, (tt, tt)))) (λ reason. tt) (λ peer waiting. refl)
    (λ last frames none tells after inner. publish_call n by port range scope key last frames h none (published_there n port range.kind key (is ∙ none)) after tells inner)
plan_lawful n by (event.Withdraw port key) chosen h packed choice =
    names_lawful n by (event.Withdraw port key) (withdrawn_work n port key).sockets h refl (withdrawal_refused n port key h) (tt, (tt, tt)) (λ reason. tt) (λ peer waiting. refl)
    (λ last frames none tells after inner. withdraw_call n by port key last frames h none tells inner)
plan_lawful n by (event.SendName port kind instance importance body) chosen h packed choice = name_lawful n by port kind instance importance body chosen h packed choice
plan_lawful n by (event.SendPort port to importance body) chosen h packed choice = port_lawful n by port to importance body h packed
plan_lawful n by (event.Receive port) chosen h packed choice = tables_lawful n by (event.Receive port) (begun n) h refl (port_refused n port h) (tt, tt) (λ reason. tt) refl (receive_call n by port h)
plan_lawful n by (event.Subscribe asked) chosen h packed choice =
    tables_lawful n by (event.Subscribe asked) (subscribed_work n asked) h refl (subscription_refused n asked h) (tt, (tt, (tt, tt))) (λ reason. tt) refl (subscribe_call n by asked h)
plan_lawful n by (event.Cancel number) chosen h packed choice =
    tables_lawful n by (event.Cancel number) (cancelled_work n number) h refl (number_refused n number h) (tt, tt) (λ reason. tt) refl (cancel_call n by number h)
plan_lawful n by (event.NextEvent number) chosen h packed choice = tables_lawful n by (event.NextEvent number) (begun n) h refl (number_refused n number h) (tt, tt) (λ reason. tt) refl (next_call n by number h)
plan_lawful n by event.Tick chosen h packed choice = record { refused = λ reason. never_refused reason; done = λ none inner. (before_pass n, refl, tick_call n by h inner) }
plan_lawful n by (event.Cut bearer) chosen h packed choice =
    record { refused = λ reason. never_refused reason; done = λ none inner. (upkeep_work (upkeep.Cut bearer) n, refl, upkeep_call n by (upkeep.Cut bearer) h tt inner) }
plan_lawful n by (event.Mend bearer) chosen h packed choice =
    record { refused = λ reason. never_refused reason; done = λ none inner. (upkeep_work (upkeep.Mend bearer) n, refl, upkeep_call n by (upkeep.Mend bearer) h tt inner) }
plan_lawful n by (event.Multicast port kind lower upper importance body) chosen h packed choice = multicast_lawful n by port kind lower upper importance body h packed.1
plan_lawful n by (event.Arrive bearer number) chosen h packed choice = absurd choice

pub performs_told : (n n' : NodeState) (by : By) (call : EventNote) (frames : List Outgoing) (answered : Answer) → IsTold n → ArePacked n → Performs n by call n' frames answered → (inside : List Entry)
    → NodeTurn n n' [] (step_of by call inside (kept_answer answered)) frames → AreSockets n'.sockets → IsTold n'
performs_told n n' by call frames answered h packed performs inside t sound =
    carried_told n n' by call (plan_of n call performs.chosen) frames answered inside h t sound (plan_lawful n by call performs.chosen h packed performs.choice) performs.carried
