-- What peers are told: messages that are put for one peer, one behind the other, or for each of several. A node's work on a step tells of it.
use Rattle.std.proofs.Common.{◌≡◌, ℕ, Bool, List, [], refl, sym, ap, ◌∙◌, subst}
use Rattle.std.specs.List.{All}
use Rattle.std.proofs.lemmas.List.Elements.{All-head, All-tail}
use Rattle.tipc_types.specs.Address.{node_word}
use Rattle.tipc_types.specs.declared.message_forms.Flow.TheVariants.{Zero}
use Rattle.tipc_types.specs.declared.message_forms.Message.{Message}
use Rattle.tipc_types.specs.declared.message_forms.Message.TheVariants.{Items, Payload}
use Rattle.tipc_types.specs.declared.services.Publication.{Publication}
use Rattle.tipc_outside.specs.declared.outgoing.Outgoing.{Outgoing}
use Rattle.tipc_journal.specs.declared.entries.Entry.{Entry}
use Rattle.tipc_journal.specs.declared.entries.Entry.TheVariants as entry
use Rattle.tipc_journal.specs.Dues.{Due, NothingDue}
use Rattle.tipc_name_dist.specs.Items.{telling, tellings}
use Rattle.tipc_sockets.specs.SocketTables.{SocketTable}
use Rattle.tipc_node.specs.Nodes.{NodeState, shown_contact}
use Rattle.tipc_node.specs.Works.{Puts, PutsEach, TellsEach, Work, addr_of_word, work_of}
use Rattle.tipc_node.specs.Works.PutsEach.{none_left, one_more}
use Rattle.tipc_node.specs.Works.TellsEach.{all_told, one_told}
use Rattle.tipc_node.proofs.journal.Fating.{IsLinked}
use Rattle.tipc_node.proofs.turns.MessageRuns.{idle_run, put_run}
use Rattle.tipc_node.proofs.journal.Noting.{IsWorked, sent_by, worked_on}
use Rattle.tipc_node.proofs.journal.Putting.{put_next, puts_linked}
use Rattle.tipc_node.proofs.turns.Runs.{IsRun, StandFor, run_then}
use Rattle.tipc_node.proofs.work.Tellings.{all_tellings, each_telling}

-- ---- the run of it

pub puts_each_run : (n : NodeState) (peer : ℕ) (w : Work) (ms : List Message) (w' : Work) (frames : List Outgoing) → StandFor n w.neighbours → PutsEach n.own peer w ms w' frames → IsRun n w [] frames w'
puts_each_run n peer _ _ _ _ stand (none_left w) = idle_run n w w stand refl refl
puts_each_run n peer _ _ _ _ stand (one_more w between last m ms first rest one more) =
    let here = put_run n w between peer m first stand one in
    run_then n w between last [] [] first rest here (puts_each_run n peer between ms last rest here.runs.stand more)

pub tells_each_run : (n : NodeState) (ms : List Message) (w : Work) (peers : List ℕ) (w' : Work) (frames : List Outgoing) → StandFor n w.neighbours → TellsEach n.own ms w peers w' frames → IsRun n w [] frames w'
tells_each_run n ms _ _ _ _ stand (all_told w) = idle_run n w w stand refl refl
tells_each_run n ms _ _ _ _ stand (one_told w between last peer peers first rest one more) =
    let here = puts_each_run n peer w ms between first stand one in
    run_then n w between last [] [] first rest here (tells_each_run n ms between peers last rest here.runs.stand more)

-- ---- contacts

pub puts_each_linked : (n : NodeState) (peer : ℕ) (w : Work) (ms : List Message) (w' : Work) (frames : List Outgoing) → IsLinked n w → PutsEach n.own peer w ms w' frames → IsLinked n w'
puts_each_linked n peer _ _ _ _ h (none_left w) = h
puts_each_linked n peer _ _ _ _ h (one_more w between last m ms first rest one more) = puts_each_linked n peer between ms last rest (puts_linked n w peer m between first h one) more

-- ---- sockets

-- what is put changes no sockets
pub puts_each_sockets : (own peer : ℕ) (w : Work) (ms : List Message) (w' : Work) (frames : List Outgoing) → PutsEach own peer w ms w' frames → w'.sockets ≡ w.sockets
puts_each_sockets own peer _ _ _ _ (none_left w) = refl
puts_each_sockets own peer _ _ _ _ (one_more w between last m ms first rest one more) =
    puts_each_sockets own peer between ms last rest more ∙ ap (λ (u : Work). u.sockets) one.after

pub tells_each_sockets : (own : ℕ) (ms : List Message) (w : Work) (peers : List ℕ) (w' : Work) (frames : List Outgoing) → TellsEach own ms w peers w' frames → w'.sockets ≡ w.sockets
tells_each_sockets own ms _ _ _ _ (all_told w) = refl
tells_each_sockets own ms _ _ _ _ (one_told w between last peer peers first rest one more) =
    tells_each_sockets own ms between peers last rest more ∙ puts_each_sockets own peer w ms between first one

-- ---- item messages

-- a message of name items: no user sends it, and it has no fate
abbrev pub AreItems : Message → Type 0
AreItems (Items withdrawal items) = Unit {0}
AreItems (Payload importance form from to kind lower upper code droppable body) = ⊥

pub telling_items : (withdrawal : Bool) (p : Publication) → All AreItems (telling withdrawal p)
telling_items withdrawal p = each_telling AreItems withdrawal (λ q. tt) p

pub tellings_items : (withdrawal : Bool) (ps : List Publication) → All AreItems (tellings withdrawal ps)
tellings_items withdrawal ps = all_tellings AreItems withdrawal (λ q. tt) ps

items_unsent : (peer : ℕ) (numbers : ℕ × ℕ) (m : Message) → AreItems m → sent_by NothingDue (entry.Accepted (addr_of_word (node_word peer)) numbers Zero m) ≡ []
items_unsent peer numbers (Items withdrawal items) are = refl
items_unsent peer numbers (Payload importance form from to kind lower upper code droppable body) are = absurd are

-- one is put, beside any sockets of which the entries tell
items_worked : (n : NodeState) (d : Due) (sends asked : List Entry) (s : SocketTable) (w : Work) (peer : ℕ) (m : Message) (w' : Work) (frames : List Outgoing) → IsWorked n d NothingDue sends asked (work_of w.neighbours s w.inside) → AreItems m
    → Puts n.own w peer m w' frames → IsWorked n d NothingDue sends asked (work_of w'.neighbours s w'.inside)
items_worked n d sends asked s w peer m w' frames h are p =
    let numbers = shown_contact p.neighbour.pair in
    let a = addr_of_word (node_word peer) in
    let e = entry.Accepted a numbers Zero m in
    let was = work_of w.neighbours s w.inside in
    subst (λ (u : Work). IsWorked n d NothingDue sends asked (work_of u.neighbours s u.inside)) (sym p.after)
    (worked_on n d NothingDue NothingDue sends asked was e s _ h (put_next n d NothingDue sends asked was a numbers m h tt) refl (items_unsent peer numbers m are) refl)

-- several are, one behind the other
pub items_each_worked : (n : NodeState) (d : Due) (sends asked : List Entry) (s : SocketTable) (peer : ℕ) (w : Work) (ms : List Message) (w' : Work) (frames : List Outgoing)
    → IsWorked n d NothingDue sends asked (work_of w.neighbours s w.inside) → All AreItems ms → PutsEach n.own peer w ms w' frames → IsWorked n d NothingDue sends asked (work_of w'.neighbours s w'.inside)
items_each_worked n d sends asked s peer _ _ _ _ h are (none_left w) = h
items_each_worked n d sends asked s peer _ _ _ _ h are (one_more w between last m ms first rest one more) =
    items_each_worked n d sends asked s peer between ms last rest (items_worked n d sends asked s w peer m between first h (All-head AreItems m ms are) one) (All-tail AreItems m ms are) more

pub puts_each_worked : (n : NodeState) (d : Due) (sends asked : List Entry) (w : Work) (peer : ℕ) (ms : List Message) (w' : Work) (frames : List Outgoing) → IsWorked n d NothingDue sends asked w → All AreItems ms
    → PutsEach n.own peer w ms w' frames → IsWorked n d NothingDue sends asked w'
puts_each_worked n d sends asked w peer ms w' frames h are puts =
    subst (λ s. IsWorked n d NothingDue sends asked (work_of w'.neighbours s w'.inside)) (sym (puts_each_sockets n.own peer w ms w' frames puts))
    (items_each_worked n d sends asked w.sockets peer w ms w' frames h are puts)

-- each of several peers is told by them
pub tells_each_worked : (n : NodeState) (d : Due) (sends asked : List Entry) (s : SocketTable) (ms : List Message) (w : Work) (peers : List ℕ) (w' : Work) (frames : List Outgoing)
    → IsWorked n d NothingDue sends asked (work_of w.neighbours s w.inside) → All AreItems ms → TellsEach n.own ms w peers w' frames → IsWorked n d NothingDue sends asked (work_of w'.neighbours s w'.inside)
tells_each_worked n d sends asked s ms _ _ _ _ h are (all_told w) = h
tells_each_worked n d sends asked s ms _ _ _ _ h are (one_told w between last peer peers first rest one more) =
    tells_each_worked n d sends asked s ms between peers last rest (items_each_worked n d sends asked s peer w ms between first h are one) are more
