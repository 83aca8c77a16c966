-- Calls on subscriptions: the journal tells of the node after each that isn't refused.
use Rattle.std.specs.Prelude.{if◌then◌else◌, slice_get}
use Rattle.std.proofs.Common.{◌≡◌, ℕ, Bool, true, false, List, [], ◌∷◌, Option, Some, None, is_some, length, refl, sym, ap, ◌∙◌, subst}
use Rattle.tipc_types.specs.declared.identity.Addr.{Addr}
use Rattle.tipc_types.specs.declared.node_calls.Answer.TheVariants as answer
use Rattle.tipc_types.specs.declared.node_calls.By.{By}
use Rattle.tipc_types.specs.declared.node_calls.Event.{Event}
use Rattle.tipc_types.specs.declared.node_calls.EventNote.TheVariants as event
use Rattle.tipc_types.specs.declared.node_calls.Subscription.{Subscription}
use Rattle.tipc_journal.specs.declared.entries.Entry.TheVariants as entry
use Rattle.tipc_journal.specs.Dues.{NothingDue}
use Rattle.tipc_journal.specs.Licensed.{events_given, next_answer}
use Rattle.tipc_journal.specs.Refusals.{refusal}
use Rattle.tipc_journal.specs.Steps.{IsInside}
use Rattle.tipc_journal.specs.Subscriptions.{transitions}
use Rattle.tipc_topology.specs.Changing.{cancelled, of_number, subscribed, with_event_taken, with_kept}
use Rattle.tipc_topology.specs.Watchers.{Watcher}
use Rattle.tipc_sockets.specs.SocketTables.{with_watchers, SocketTable}
use Rattle.tipc_sockets.proofs.Entries.{told_entry}
use Rattle.tipc_sockets.proofs.Keeping.{other_watchers}
use Rattle.tipc_sockets.proofs.StepsTold.{told_event}
use Rattle.tipc_sockets.proofs.Subscribers.{none_taken}
use Rattle.tipc_node.specs.Nodes.{NodeState, step_of}
use Rattle.tipc_node.specs.Sockets.{cancelled_work, first_event, kept_answer, next_number, subscribed_work}
use Rattle.tipc_node.specs.Telling.{IsTold}
use Rattle.tipc_node.specs.Works.{addr_of_word, begun}
use Rattle.tipc_node.proofs.journal.Calling.{done_answered}
use Rattle.tipc_node.proofs.journal.Concluding.{IsCall, IsKeptBy, others_kept, same_made}
use Rattle.tipc_node.proofs.journal.Noting.{begun_worked, queues_none, reached_same, worked_more}
use Rattle.tipc_node.proofs.turns.Plain.{next_kept}
use Rattle.tipc_node.proofs.journal.Refusing.{made_is, next_is, number_refused}

-- ---- a subscription is made

pub subscribe_call : (n : NodeState) (by : By) (asked : Subscription) → IsTold n → refusal (addr_of_word n.own) n.journal (event.Subscribe asked) ≡ None → IsInside (subscribed_work n asked).inside
    → IsCall n by (event.Subscribe asked) (answer.Subscribed (next_number n.sockets)) (subscribed_work n asked) (subscribed_work n asked).sockets
subscribe_call n by asked h none inner =
    let own = addr_of_word n.own in
    let number = next_number n.sockets in
    let e = entry.Subscribed number asked in
    let was = begun_worked n NothingDue h in
    let t = subscribed asked n.sockets.names n.sockets.watchers in
    let worked = worked_more n NothingDue NothingDue [] [] (begun n) e (with_watchers n.sockets t) n.neighbours was (record {
      told = told_entry own n.journal NothingDue [] n.sockets was.told was.sound e refl (λ port. queues_none port _ e was.due) refl refl;
      sound = other_watchers n.sockets t was.sound;
      ports = refl;
      reached = reached_same n.own n.journal [] e n.sockets.names (λ a z. refl) was.reached;
      stands = tt;
      leaves = λ z. refl;
    }) in
    record {
      answered = done_answered own n.journal by (event.Subscribe asked) (e ∷ []) (answer.Subscribed number) none (ap answer.Subscribed (made_is n h));
      worked = worked;
      kept = others_kept n by (event.Subscribe asked) (answer.Subscribed number) NothingDue _ _ (subscribed_work n asked) h inner worked
          (record { stays = λ ports. refl; none = refl; quiet = λ q. refl; still = refl; nothing = λ k. refl });
      full = tt;
    }

-- ---- a subscription is cancelled

pub cancel_call : (n : NodeState) (by : By) (number : ℕ) → IsTold n → refusal (addr_of_word n.own) n.journal (event.Cancel number) ≡ None → IsInside (cancelled_work n number).inside
    → IsCall n by (event.Cancel number) answer.Done (cancelled_work n number) (cancelled_work n number).sockets
cancel_call n by number h none inner =
    let own = addr_of_word n.own in
    let e = entry.Cancelled number in
    let was = begun_worked n NothingDue h in
    let t = cancelled number n.sockets.watchers in
    let worked = worked_more n NothingDue NothingDue [] [] (begun n) e (with_watchers n.sockets t) n.neighbours was (record {
      told = told_entry own n.journal NothingDue [] n.sockets was.told was.sound e refl (λ port. queues_none port _ e was.due) refl tt;
      sound = other_watchers n.sockets t was.sound;
      ports = refl;
      reached = reached_same n.own n.journal [] e n.sockets.names (λ a z. refl) was.reached;
      stands = tt;
      leaves = λ z. refl;
    }) in
    record {
      answered = done_answered own n.journal by (event.Cancel number) (e ∷ []) answer.Done none refl;
      worked = worked;
      kept = others_kept n by (event.Cancel number) answer.Done NothingDue _ _ (cancelled_work n number) h inner worked
          (record { stays = λ ports. refl; none = refl; quiet = λ q. refl; still = refl; nothing = λ k. refl });
      full = tt;
    }

-- ---- an event is taken

-- the sockets where the first event of one is taken
abbrev taken_sockets : NodeState → ℕ → SocketTable
taken_sockets n number = with_watchers n.sockets (with_kept n.sockets.watchers (with_event_taken number n.sockets.watchers.kept))

unrefused : (n : NodeState) (number : ℕ) → IsTold n → refusal (addr_of_word n.own) n.journal (event.NextEvent number) ≡ None → is_some (of_number n.sockets.watchers number) ≡ true
unrefused n number h none = by (is_some (of_number n.sockets.watchers number)) (number_refused n number h ∙ none)
  where
    by : (b : Bool) → (if b then None else Some answer.Unknown) ≡ None → b ≡ true
    by true is = refl
    by false is = absurd cc

pub next_call : (n : NodeState) (by : By) (number : ℕ) → IsTold n → refusal (addr_of_word n.own) n.journal (event.NextEvent number) ≡ None → IsInside []
    → IsCall n by (event.NextEvent number) (kept_answer (next_answer (first_event n.sockets number))) (begun n) (taken_sockets n number)
next_call n by number h none inner =
    subst (λ given. IsCall n by (event.NextEvent number) given (begun n) (taken_sockets n number)) (sym (next_kept (first_event n.sockets number))) (of (first_event n.sockets number) refl)
  where
    own : Addr
    own = addr_of_word n.own

    answered : (o : Option Event) → first_event n.sockets number ≡ o → next_answer o ≡ next_answer (slice_get (transitions n.journal number) (length (events_given n.journal number)))
    answered o is = ap next_answer (sym is ∙ sym (next_is n number h (unrefused n number h none)))

    with : (o : Option Event) → first_event n.sockets number ≡ o → IsCall n by (event.NextEvent number) (next_answer o) (begun n) (taken_sockets n number)
    with None is =
        let worked = begun_worked n NothingDue h in
        let same : n.sockets ≡ taken_sockets n number = ap (λ (ws : List Watcher). with_watchers n.sockets (with_kept n.sockets.watchers ws)) (sym (none_taken number n.sockets.watchers.kept is)) in
        let kept = others_kept n by (event.NextEvent number) answer.NoEvent NothingDue [] [] (begun n) h inner worked
        (record { stays = λ ports. refl; none = refl; quiet = λ q. refl; still = refl; nothing = λ k. refl }) in
        record {
          answered = done_answered own n.journal by (event.NextEvent number) [] answer.NoEvent none (answered None is);
          worked = worked;
          kept = subst (IsKeptBy n (step_of by (event.NextEvent number) [] answer.NoEvent)) same kept;
          full = tt;
        }
    with (Some e) is =
        let worked = begun_worked n NothingDue h in
        let st = step_of by (event.NextEvent number) [] (answer.Next e) in
        record {
          answered = done_answered own n.journal by (event.NextEvent number) [] (answer.Next e) none (answered (Some e) is);
          worked = worked;
          kept = record {
            told = λ later. told_event own n.journal st n.sockets later h.whole inner worked.told number e (λ ports. refl) refl (λ other. refl) refl (λ k. refl) is;
            boot = refl;
            reached = worked.reached;
            unmade = λ later above. same_made n st n.sockets.ports.made n.sockets.ports.boot later h inner refl refl refl above;
          };
          full = tt;
        }

    of : (o : Option Event) → first_event n.sockets number ≡ o → IsCall n by (event.NextEvent number) (next_answer (first_event n.sockets number)) (begun n) (taken_sockets n number)
    of o is = subst (λ p. IsCall n by (event.NextEvent number) (next_answer p) (begun n) (taken_sockets n number)) (sym is) (with o is)
