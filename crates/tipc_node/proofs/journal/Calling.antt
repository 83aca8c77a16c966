-- Calls that send nothing: the journal tells of the node after each, whether it was refused or not.
use Rattle.std.proofs.Common.{◌≡◌, ◌<◌, ◌==◌, ◌||◌, ℕ, Bool, true, false, List, [], ◌∷◌, ◌++◌, Option, Some, None, is_some, length, inr, refl, sym, ap, ◌∙◌, subst, arith}
use Rattle.std.specs.Prelude.{if◌then◌else◌, drop, nat_eq, unwrap_or}
use Rattle.std.specs.Map.{set_value}
use Rattle.std.proofs.lemmas.Bool.Decides.{nat_tests}
use Rattle.std.proofs.lemmas.List.Folds.{list_any-append}
use Rattle.std.proofs.lemmas.Map.Steps.{set_value_same}
use Rattle.tipc_types.specs.declared.identity.Addr.{Addr}
use Rattle.tipc_types.specs.declared.message_forms.Message.{Message}
use Rattle.tipc_types.specs.declared.node_calls.Answer.{Answer}
use Rattle.tipc_types.specs.declared.node_calls.Answer.TheVariants as answer
use Rattle.tipc_types.specs.declared.node_calls.By.{By}
use Rattle.tipc_types.specs.declared.node_calls.EventNote.{EventNote}
use Rattle.tipc_types.specs.declared.node_calls.EventNote.TheVariants as event
use Rattle.tipc_outside.specs.declared.outgoing.Outgoing.{Outgoing}
use Rattle.tipc_journal.specs.declared.entries.Entry.{Entry}
use Rattle.tipc_journal.specs.Dues.{NothingDue, first_due, sent_message}
use Rattle.tipc_journal.specs.Licensed.{IsAnswered, IsDone, accepted_of, asked, event_given, received}
use Rattle.tipc_journal.specs.Queues.{is_taking, queue, sockets_after}
use Rattle.tipc_journal.specs.Refusals.{first_holding, is_among, made_by, refusal, refusals, sockets_made}
use Rattle.tipc_journal.specs.Steps.{IsInside}
use Rattle.tipc_journal.proofs.CountLaws.{sockets_made_step}
use Rattle.tipc_journal.proofs.DueLaws.{queue_inside_nil}
use Rattle.tipc_sockets.specs.SocketTables.{AreSockets, SocketTable, has_port, queue_at, with_first_taken, with_queues, with_socket}
use Rattle.tipc_sockets.specs.Telling.{is_tick}
use Rattle.tipc_sockets.proofs.StepsTold.{told_made, told_taken}
use Rattle.tipc_node.specs.Nodes.{NodeState, step_of}
use Rattle.tipc_node.specs.Plans.{GoesItsWay, Plan, Dispatch, frames_alone, on_its_way, tables_plan, to_all, to_peers}
use Rattle.tipc_node.specs.Sockets.{first_answer, kept_answer, next_port, waiting_at}
use Rattle.tipc_node.specs.Telling.{IsFull, IsTold}
use Rattle.tipc_node.specs.Works.{TellsPeers, Work, addr_of_word, begun}
use Rattle.tipc_node.proofs.journal.Concluding.{IsCall, IsKeptBy, IsOther, others_kept, same_made}
use Rattle.tipc_node.proofs.journal.Noting.{IsWorked, begun_worked}
use Rattle.tipc_node.proofs.journal.Refusing.{port_refused}

-- ---- a call that is refused

-- an answer that refuses a call
abbrev pub IsRefusal : Answer → Type 0
IsRefusal answer.NoSocket = Unit {0}
IsRefusal (answer.TooLong bytes) = Unit {0}
IsRefusal answer.NoName = Unit {0}
IsRefusal answer.NoNode = Unit {0}
IsRefusal (answer.Congested in_flight waiting) = Unit {0}
IsRefusal (answer.NamesCongested peer waiting) = Unit {0}
IsRefusal answer.Reserved = Unit {0}
IsRefusal (answer.Duplicate key) = Unit {0}
IsRefusal (answer.Full limit) = Unit {0}
IsRefusal answer.Unknown = Unit {0}
IsRefusal answer.BadRange = Unit {0}
IsRefusal answer.BadFilter = Unit {0}
IsRefusal other = ⊥

-- with this answer a call sends nothing, asks for nothing, and changes no socket
pub record IsNothing (own : Addr) (journal : List Entry) (note : EventNote) (given : Answer) : Type 0 where
  pub due : first_due own note given ≡ NothingDue
  pub sends : accepted_of own journal (sent_message own note given) ≡ []
  pub asks : asked own journal note given ≡ []
  pub other : IsOther note given

nothing : (own : Addr) (journal : List Entry) (note : EventNote) (given : Answer) → first_due own note given ≡ NothingDue → accepted_of own journal (sent_message own note given) ≡ []
    → asked own journal note given ≡ [] → ((ports : List ℕ) → sockets_after ports note given ≡ ports) → made_by note given ≡ None → ((port : ℕ) → is_taking port note given ≡ false) → is_tick note ≡ false
    → ((number : ℕ) → event_given number note given ≡ None) → IsNothing own journal note given
nothing own journal note given due sends asks stays none quiet still unsaid =
    record { due = due; sends = sends; asks = asks; other = record { stays = stays; none = none; quiet = quiet; still = still; nothing = unsaid } }

pub nothing_done : (own : Addr) (journal : List Entry) (note : EventNote) (given : Answer) → IsRefusal given → is_tick note ≡ false → IsNothing own journal note given
nothing_done own journal event.Socket answer.NoSocket h still = nothing own journal event.Socket answer.NoSocket refl refl refl (λ ports. refl) refl (λ port. refl) still (λ number. refl)
nothing_done own journal note answer.NoSocket h still = nothing own journal note answer.NoSocket refl refl refl (λ ports. refl) refl (λ port. refl) still (λ number. refl)
nothing_done own journal event.Socket (answer.TooLong bytes) h still = nothing own journal event.Socket (answer.TooLong bytes) refl refl refl (λ ports. refl) refl (λ port. refl) still (λ number. refl)
nothing_done own journal note (answer.TooLong bytes) h still = nothing own journal note (answer.TooLong bytes) refl refl refl (λ ports. refl) refl (λ port. refl) still (λ number. refl)
nothing_done own journal event.Socket answer.NoName h still = nothing own journal event.Socket answer.NoName refl refl refl (λ ports. refl) refl (λ port. refl) still (λ number. refl)
nothing_done own journal note answer.NoName h still = nothing own journal note answer.NoName refl refl refl (λ ports. refl) refl (λ port. refl) still (λ number. refl)
nothing_done own journal event.Socket answer.NoNode h still = nothing own journal event.Socket answer.NoNode refl refl refl (λ ports. refl) refl (λ port. refl) still (λ number. refl)
nothing_done own journal note answer.NoNode h still = nothing own journal note answer.NoNode refl refl refl (λ ports. refl) refl (λ port. refl) still (λ number. refl)
nothing_done own journal event.Socket (answer.Congested in_flight waiting) h still = nothing own journal event.Socket (answer.Congested in_flight waiting) refl refl refl (λ ports. refl) refl (λ port. refl) still (λ number. refl)
nothing_done own journal note (answer.Congested in_flight waiting) h still = nothing own journal note (answer.Congested in_flight waiting) refl refl refl (λ ports. refl) refl (λ port. refl) still (λ number. refl)
nothing_done own journal event.Socket (answer.NamesCongested peer waiting) h still = nothing own journal event.Socket (answer.NamesCongested peer waiting) refl refl refl (λ ports. refl) refl (λ port. refl) still (λ number. refl)
nothing_done own journal note (answer.NamesCongested peer waiting) h still = nothing own journal note (answer.NamesCongested peer waiting) refl refl refl (λ ports. refl) refl (λ port. refl) still (λ number. refl)
nothing_done own journal event.Socket answer.Reserved h still = nothing own journal event.Socket answer.Reserved refl refl refl (λ ports. refl) refl (λ port. refl) still (λ number. refl)
nothing_done own journal note answer.Reserved h still = nothing own journal note answer.Reserved refl refl refl (λ ports. refl) refl (λ port. refl) still (λ number. refl)
nothing_done own journal event.Socket (answer.Duplicate key) h still = nothing own journal event.Socket (answer.Duplicate key) refl refl refl (λ ports. refl) refl (λ port. refl) still (λ number. refl)
nothing_done own journal note (answer.Duplicate key) h still = nothing own journal note (answer.Duplicate key) refl refl refl (λ ports. refl) refl (λ port. refl) still (λ number. refl)
nothing_done own journal event.Socket (answer.Full limit) h still = nothing own journal event.Socket (answer.Full limit) refl refl refl (λ ports. refl) refl (λ port. refl) still (λ number. refl)
nothing_done own journal note (answer.Full limit) h still = nothing own journal note (answer.Full limit) refl refl refl (λ ports. refl) refl (λ port. refl) still (λ number. refl)
nothing_done own journal event.Socket answer.Unknown h still = nothing own journal event.Socket answer.Unknown refl refl refl (λ ports. refl) refl (λ port. refl) still (λ number. refl)
nothing_done own journal note answer.Unknown h still = nothing own journal note answer.Unknown refl refl refl (λ ports. refl) refl (λ port. refl) still (λ number. refl)
nothing_done own journal event.Socket answer.BadRange h still = nothing own journal event.Socket answer.BadRange refl refl refl (λ ports. refl) refl (λ port. refl) still (λ number. refl)
nothing_done own journal note answer.BadRange h still = nothing own journal note answer.BadRange refl refl refl (λ ports. refl) refl (λ port. refl) still (λ number. refl)
nothing_done own journal event.Socket answer.BadFilter h still = nothing own journal event.Socket answer.BadFilter refl refl refl (λ ports. refl) refl (λ port. refl) still (λ number. refl)
nothing_done own journal note answer.BadFilter h still = nothing own journal note answer.BadFilter refl refl refl (λ ports. refl) refl (λ port. refl) still (λ number. refl)
nothing_done own journal note given h still = absurd h

-- a call that was refused recorded a step that holds nothing
pub refused_call : (n : NodeState) (by : By) (note : EventNote) (reason : Answer) → IsTold n → is_tick note ≡ false → IsRefusal reason
    → IsAnswered (addr_of_word n.own) n.journal (step_of by note [] reason) (refusal (addr_of_word n.own) n.journal note) → IsFull note reason → IsCall n by note reason (begun n) n.sockets
refused_call n by note reason h still refuses answered full =
    let own = addr_of_word n.own in
    let d = first_due own note reason in
    let none = nothing_done own n.journal note reason refuses still in
    let one = subst (λ x. IsWorked n d x [] [] (begun n)) none.due (begun_worked n d h) in
    let two = subst (λ es. IsWorked n d NothingDue es [] (begun n)) (sym none.sends) one in
    let three = subst (λ es. IsWorked n d NothingDue (accepted_of own n.journal (sent_message own note reason)) es (begun n)) (sym none.asks) two in
    record { answered = answered; worked = three; kept = others_kept n by note reason NothingDue _ _ (begun n) h refl three none.other; full = full }

-- each refusal that is told refuses
abbrev pub AreRefusals : List (Bool × Answer) → Type 0
AreRefusals [] = Unit {0}
AreRefusals (r ∷ rs) = IsRefusal r.1 × AreRefusals rs

pub holding_refuses : (rs : List (Bool × Answer)) (reason : Answer) → AreRefusals rs → first_holding rs ≡ Some reason → IsRefusal reason
holding_refuses [] reason all is = absurd cc
holding_refuses (r ∷ rs) reason all is = by r.0 is (λ later. holding_refuses rs reason all.1 later)
  where
    by : (b : Bool) → (if b then Some r.1 else first_holding rs) ≡ Some reason → (first_holding rs ≡ Some reason → IsRefusal reason) → IsRefusal reason
    by true here others = (let same : r.1 ≡ reason = cc in subst IsRefusal same all.0)
    by false later others = others later

-- ---- a plan whose call is told

-- what is to be known of a call that was recorded with this work, whose entries may tell of other sockets than those in it
abbrev pub IsWell : NodeState → By → EventNote → Answer → Work → Type 0
IsWell n by note given last = (w : Work) × (last.inside ≡ w.inside) × IsCall n by note given w last.sockets

-- the same of whatever a plan's call is recorded with behind what it sends
abbrev pub EndsWell : Dispatch → NodeState → By → EventNote → Plan → Type 0
EndsWell (frames_alone given) n by note p = IsInside p.work.inside → IsWell n by note (kept_answer p.answered) p.work
EndsWell (to_peers told) n by note p = (last : Work) (frames : List Outgoing) → TellsPeers n.own p.work told last frames → AreSockets last.sockets → IsInside last.inside → IsWell n by note (kept_answer p.answered) last
EndsWell (to_all m given) n by note p = IsInside p.work.inside → IsWell n by note (kept_answer p.answered) p.work
EndsWell (on_its_way m) n by note p = (last : Work) (frames : List Outgoing) → GoesItsWay n.own p.work m last frames → IsInside last.inside → IsWell n by note (kept_answer p.answered) last

-- What is to be known of a plan whose call is told: the journal tells why it is refused, and what it does where nothing speaks against it.
pub record IsLawful (n : NodeState) (by : By) (note : EventNote) (p : Plan) : Type 0 where
  pub refused : (reason : Answer) → p.refusal ≡ Some reason → IsCall n by note reason (begun n) n.sockets
  pub done : p.refusal ≡ None → EndsWell p.dispatch n by note p

-- a reason that the journal tells
pub reason_told : (n : NodeState) (by : By) (note : EventNote) (reason : Answer) → IsTold n → is_tick note ≡ false → AreRefusals (refusals (addr_of_word n.own) n.journal note) → ((why : Answer) → IsFull note why)
    → refusal (addr_of_word n.own) n.journal note ≡ Some reason → IsCall n by note reason (begun n) n.sockets
reason_told n by note reason h still refuse full is =
    let own = addr_of_word n.own in
    refused_call n by note reason h still (holding_refuses (refusals own n.journal note) reason refuse is) (subst (IsAnswered own n.journal (step_of by note [] reason)) (sym is) (refl, refl)) (full reason)

-- a plan on the node's own tables
pub tables_lawful : {r : Option Answer} {w : Work} {given : Answer} (n : NodeState) (by : By) (note : EventNote) (w0 : Work) → IsTold n → is_tick note ≡ false → r ≡ refusal (addr_of_word n.own) n.journal note
    → AreRefusals (refusals (addr_of_word n.own) n.journal note) → ((reason : Answer) → IsFull note reason) → w.inside ≡ w0.inside
    → (refusal (addr_of_word n.own) n.journal note ≡ None → IsInside w0.inside → IsCall n by note (kept_answer given) w0 w.sockets) → IsLawful n by note (tables_plan n r w given)
tables_lawful n by note w0 h still is refuse full same done = record {
  refused = λ reason some. reason_told n by note reason h still refuse full (sym is ∙ some);
  done = λ none inner. (w0, same, done (sym is ∙ none) (subst IsInside same inner));
}

-- a call that isn't refused is done
pub done_answered : (own : Addr) (journal : List Entry) (by : By) (note : EventNote) (inside : List Entry) (given : Answer) → refusal own journal note ≡ None → IsDone own journal note given
    → IsAnswered own journal (step_of by note inside given) (refusal own journal note)
done_answered own journal by note inside given none done = subst (IsAnswered own journal (step_of by note inside given)) (sym none) (inr done)

-- ---- a socket is made

above_all : (ports : List ℕ) (port later : ℕ) → is_among ports later ≡ false → port < later → is_among (ports ++ port ∷ []) later ≡ false
above_all ports port later none above =
    let other : (port == later) ≡ false = grind (arith, nat_tests, above) in
    list_any-append (λ m. m == later) ports (port ∷ []) ∙ ap (λ b. b || ((port == later) || false)) none ∙ ap (λ b. b || false) other

pub socket_call : (n : NodeState) (by : By) → IsTold n → refusal (addr_of_word n.own) n.journal event.Socket ≡ None → IsInside []
    → IsCall n by event.Socket (answer.Socket (next_port n.sockets)) (begun n) (with_socket n.sockets (next_port n.sockets))
socket_call n by h none inner =
    let own = addr_of_word n.own in
    let port = next_port n.sockets in
    let st = step_of by event.Socket [] (answer.Socket port) in
    let worked = begun_worked n NothingDue h in
    record {
      answered = done_answered own n.journal by event.Socket [] (answer.Socket port) none (port, refl, h.sockets.unmade port (omega arith));
      worked = worked;
      kept = record {
        told = λ later. told_made own n.journal st n.sockets later h.whole inner worked.told port refl (λ ports. refl) refl (λ other. refl) refl (λ number. refl);
        boot = refl;
        reached = worked.reached;
        unmade = λ later above. ap (λ ps. is_among ps later) (sockets_made_step n.journal st h.whole inner) ∙ above_all (sockets_made n.journal) port later (h.sockets.unmade later (omega (arith, above))) above;
      };
      full = tt;
    }

-- ---- a message is received

there_is : (n : NodeState) (port : ℕ) → IsTold n → refusal (addr_of_word n.own) n.journal (event.Receive port) ≡ None → is_some (queue_at n.sockets port) ≡ true
there_is n port h none = by (has_port n.sockets port) (port_refused n port h ∙ none)
  where
    by : (b : Bool) → (if b then None else Some answer.NoSocket) ≡ None → b ≡ true
    by true is = refl
    by false is = absurd cc

-- what waits is the queue that the journal tells
waits_as : (n : NodeState) (port : ℕ) (waiting : List Message) → IsTold n → queue_at n.sockets port ≡ Some waiting → queue (addr_of_word n.own) n.journal port ≡ waiting
waits_as n port waiting h found = sym ((h.sockets.told NothingDue).queues port waiting found ∙ queue_inside_nil (addr_of_word n.own) n.journal NothingDue port)

received_as : (xs : List Message) → kept_answer (first_answer xs) ≡ received xs
received_as [] = refl
received_as (x ∷ xs) = refl

pub receive_call : (n : NodeState) (by : By) (port : ℕ) → IsTold n → refusal (addr_of_word n.own) n.journal (event.Receive port) ≡ None → IsInside []
    → IsCall n by (event.Receive port) (kept_answer (first_answer (waiting_at n.sockets port))) (begun n) (with_queues n.sockets (with_first_taken n.sockets.queues port))
receive_call n by port h none inner = of (queue_at n.sockets port) refl (there_is n port h none)
  where
    own : Addr
    own = addr_of_word n.own

    after : SocketTable
    after = with_queues n.sockets (with_first_taken n.sockets.queues port)

    goal : Answer → Type 0
    goal given = IsCall n by (event.Receive port) given (begun n) after

    answered : (waiting : List Message) → queue_at n.sockets port ≡ Some waiting → IsAnswered own n.journal (step_of by (event.Receive port) [] (received waiting)) (refusal own n.journal (event.Receive port))
    answered waiting found = done_answered own n.journal by (event.Receive port) [] (received waiting) none (ap received (sym (waits_as n port waiting h found)))

    with : (waiting : List Message) → queue_at n.sockets port ≡ Some waiting → goal (received waiting)
    with [] found =
        let same : n.sockets ≡ after =
        ap (with_queues n.sockets) (sym (ap (λ (o : Option (List Message)). set_value (nat_eq port) n.sockets.queues (drop 1 (unwrap_or o []))) found ∙ set_value_same (nat_eq port) n.sockets.queues [] found)) in
        let worked = begun_worked n NothingDue h in
        let kept = others_kept n by (event.Receive port) answer.Empty NothingDue [] [] (begun n) h inner worked (record { stays = λ ports. refl; none = refl; quiet = λ q. refl; still = refl; nothing = λ number. refl }) in
        record { answered = answered [] found; worked = worked; kept = subst (IsKeptBy n (step_of by (event.Receive port) [] answer.Empty)) same kept; full = tt }
    with (first ∷ rest) found =
        let worked = begun_worked n NothingDue h in
        let st = step_of by (event.Receive port) [] answer.Got in
        let some : 0 < length (waiting_at n.sockets port) = subst (λ (o : Option (List Message)). 0 < length (unwrap_or o [])) (sym found) (omega arith) in
        record {
          answered = answered (first ∷ rest) found;
          worked = worked;
          kept = record {
            told = λ later. told_taken own n.journal st n.sockets later h.whole inner worked.told port some (λ ports. refl) refl (λ other. refl) refl (λ number. refl);
            boot = refl;
            reached = worked.reached;
            unmade = λ later above. same_made n st n.sockets.ports.made n.sockets.ports.boot later h inner refl refl refl above;
          };
          full = tt;
        }

    of : (o : Option (List Message)) → queue_at n.sockets port ≡ o → is_some o ≡ true → goal (kept_answer (first_answer (waiting_at n.sockets port)))
    of None found there = absurd cc
    of (Some waiting) found there = subst goal (sym (ap (λ (o : Option (List Message)). kept_answer (first_answer (unwrap_or o []))) found ∙ received_as waiting)) (with waiting found)
