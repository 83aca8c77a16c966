-- A node shares its names with its peers: a new one, and a node after each call.
use Rattle.std.proofs.Common.{◌≡◌, ℕ, Bool, false, true, List, [], ◌∷◌, ◌++◌, Option, Some, None, length, refl, sym, ap, ◌∙◌, subst, arith}
use Rattle.std.specs.Prelude.{option_map, option_to_list}
use Rattle.std.specs.List.{flat_map, list_all, range_with_len}
use Rattle.tipc_types.specs.Address.{node_word}
use Rattle.tipc_types.specs.Span.{Span}
use Rattle.tipc_types.specs.declared.message_forms.Flow.TheVariants.{Broadcast}
use Rattle.tipc_types.specs.declared.message_forms.Importance.{Importance}
use Rattle.tipc_types.specs.declared.message_forms.Message.{Message}
use Rattle.tipc_types.specs.declared.node_calls.Answer.{Answer}
use Rattle.tipc_types.specs.declared.node_calls.By.{By}
use Rattle.tipc_types.specs.declared.node_calls.EventNote.{EventNote}
use Rattle.tipc_types.specs.declared.node_calls.EventNote.TheVariants as event
use Rattle.tipc_types.specs.declared.services.Publication.{Publication}
use Rattle.tipc_outside.specs.declared.outgoing.Outgoing.{Outgoing}
use Rattle.tipc_name_dist.specs.Agreeing.{AreOwn}
use Rattle.tipc_journal.specs.declared.entries.Entry.{Entry}
use Rattle.tipc_journal.specs.declared.entries.Entry.TheVariants as entry
use Rattle.tipc_journal.specs.Contacts.{contact}
use Rattle.tipc_journal.specs.Names.{live}
use Rattle.tipc_journal.specs.Steps.{step_entries}
use Rattle.tipc_journal.proofs.ContactLaws.{contact_nil}
use Rattle.tipc_journal.proofs.NameLaws.{live_nil}
use Rattle.tipc_sockets.specs.Publishing.{own_publication}
use Rattle.tipc_sockets.specs.Telling.{fate_entry, is_payload}
use Rattle.tipc_topology.specs.Changing.{due}
use Rattle.tipc_name_dist.specs.Items.{telling}
use Rattle.tipc_node.specs.declared.neighbours.Neighbour.{Neighbour}
use Rattle.tipc_node.specs.declared.neighbours.Upkeep.TheVariants as upkeep
use Rattle.tipc_node.specs.Calls.{HasInstances, IsChosen, Performs, name_plan, plan_of}
use Rattle.tipc_node.specs.Messages.{multicast}
use Rattle.tipc_node.specs.Multicasts.{cast_entry, contact_kept, entries_where, goes_out, multicast_dispatch, multicast_work}
use Rattle.tipc_node.specs.Nodes.{NodeState, entries_all, parts_of, step_of}
use Rattle.tipc_node.specs.Plans.{CarriesOut, Does, DoesUnless, Plan, Dispatch, frames_alone, on_its_way, to_all, to_peers}
use Rattle.tipc_node.specs.Sharing.{SharesNames}
use Rattle.tipc_node.specs.Sockets.{crowd_refusal, kept_answer, publication_refusal, timeouts_of, told_withdrawal, withdrawal_refusal}
use Rattle.tipc_node.specs.Telling.{IsTold}
use Rattle.tipc_node.specs.Turns.{addr_of}
use Rattle.tipc_node.specs.Works.{Work, addr_of_word, begun, fate_of}
use Rattle.tipc_node.proofs.journal.Refusing.{none_first}
use Rattle.tipc_node.proofs.names.SharingCalls.{IsTurnOf, all_usual, is_usual, record_shares, timed_usual, usual_open}
use Rattle.tipc_node.proofs.names.SharingNaming.{IsNaming, closing_is, publishing_is, told_shares, withdrawal_is}
use Rattle.tipc_node.proofs.names.SharingSteps.{IsOwnCall}
use Rattle.tipc_node.proofs.names.SharingWork.{all_both, goes_adds}
use Rattle.tipc_node.proofs.names.SharingUnused.{new_unused}

-- ---- a node that knows nobody

none_own : (own : ℕ) → AreOwn own []
none_own own = record { own = refl; ranges = refl; keys = λ key. omega arith; few = omega arith }

pub new_shares : (n : NodeState) → n.journal ≡ [] → SharesNames n
new_shares n empty = record {
  own_names = subst (AreOwn n.own) (sym (ap live empty ∙ live_nil)) (none_own n.own);
  told = λ b numbers is. absurd (met b numbers is);
  holds = λ b numbers is. absurd (met b numbers is);
  unused = new_unused n empty;
}
  where
    met : (b : ℕ) (numbers : ℕ × ℕ) → contact n.journal (addr_of b) ≡ Some numbers → ⊥
    met b numbers is = let wrong : ◌≡◌ {A = Option (ℕ × ℕ)} None (Some numbers) = sym (ap (λ es. contact es (addr_of b)) empty ∙ contact_nil (addr_of b)) ∙ is in cc

-- ---- a plan that is carried out

-- What a plan notes changes no names, or it tells peers of what it changes; what goes its way is a user's message.
abbrev AreShared : Dispatch → NodeState → Work → Type 0
AreShared (frames_alone given) n w = list_all is_usual w.inside ≡ true
AreShared (to_peers told) n w = (w.neighbours ≡ n.neighbours) × IsNaming n.own (live n.journal) w.inside told
AreShared (to_all m given) n w = list_all is_usual w.inside ≡ true
AreShared (on_its_way m) n w = (list_all is_usual w.inside ≡ true) × (is_payload m ≡ true)

abbrev JournalOf : NodeState → List Entry
JournalOf n = n.journal

carried_shares : (n n' : NodeState) (by : By) (call : EventNote) (p : Plan) (frames : List Outgoing) (answered : Answer) (inside : List Entry) → IsTold n → IsTold n' → SharesNames n → IsTurnOf n n' by call inside frames answered → IsOwnCall call
    → length n'.neighbours ≡ 33 → (p.refusal ≡ None → AreShared p.dispatch n p.work) → CarriesOut n by call p n' frames answered → SharesNames n'
carried_shares n n' by call p frames answered inside h h' shares t own wide fit carried = unless p.refusal refl carried
  where
    kept : Answer
    kept = kept_answer p.answered

    usual : (es : List Entry) (given : Answer) → n'.journal ≡ n.journal ++ step_entries (step_of by call es given) → list_all is_usual es ≡ true → SharesNames n'
    usual es given is all = record_shares n n' by call inside es given frames answered h h' shares t own is all

    does : (s : Dispatch) → AreShared s n p.work → Does s n by call p n' frames answered → SharesNames n'
    does (frames_alone given) all d = usual p.work.inside kept (ap JournalOf d.0) all
    does (to_peers told) named d = told_shares n n' by call p.work d.0 told kept inside frames answered h h' shares t own wide named.0 named.1 d.1 (ap JournalOf d.2)
    does (to_all m given) all d = usual p.work.inside kept (ap JournalOf d.1) all
    does (on_its_way m) of d =
        let a = goes_adds is_usual n.own p.work m d.0 frames usual_open of.1 d.1 in
        usual d.0.inside kept (ap JournalOf d.2) (subst (λ es. list_all is_usual es ≡ true) (sym a.inside) (all_both is_usual p.work.inside a.entries of.0 a.all))

    unless : (o : Option Answer) → p.refusal ≡ o → DoesUnless o n by call p n' frames answered → SharesNames n'
    unless (Some reason) some d = usual [] reason (ap JournalOf d.0) refl
    unless None none d = does p.dispatch (fit none) d

-- ---- each call

name_shared : (n : NodeState) (port kind instance : ℕ) (importance : Importance) (body : List ℕ) (chosen : Option Publication)
    → AreShared (name_plan n port kind instance importance body chosen).dispatch n (name_plan n port kind instance importance body chosen).work
name_shared n port kind instance importance body None = refl
name_shared n port kind instance importance body (Some p) = (refl, refl)

-- what is told of a multicast changes no names
one_usual : (b : ℕ) (m : Message) (o : Option (ℕ × ℕ)) → is_payload m ≡ true → list_all is_usual (option_to_list (option_map (λ numbers. entry.Accepted (addr_of_word (node_word b)) numbers Broadcast m) o)) ≡ true
one_usual b m None user = refl
one_usual b m (Some numbers) user = rw user refl

all_cast_usual : (xs : List (Option Neighbour)) (m : Message) (bs : List ℕ) → is_payload m ≡ true → list_all is_usual (flat_map (cast_entry xs m) bs) ≡ true
all_cast_usual xs m [] user = refl
all_cast_usual xs m (b ∷ bs) user = all_both is_usual (cast_entry xs m b) (flat_map (cast_entry xs m) bs) (one_usual b m (contact_kept xs b) user) (all_cast_usual xs m bs user)

where_usual : (out : Bool) (xs : List (Option Neighbour)) (m : Message) → is_payload m ≡ true → list_all is_usual (entries_where out xs m) ≡ true
where_usual true xs m user = all_cast_usual xs m (range_with_len 1 32) user
where_usual false xs m user = refl

multicast_shared : (n : NodeState) (out : Bool) (m : Message) → is_payload m ≡ true → is_usual (fate_entry (fate_of (begun n) false m)) ≡ true → AreShared (multicast_dispatch out n m) n (multicast_work n out m)
multicast_shared n true m user fated = rw fated (where_usual true n.neighbours m user)
multicast_shared n false m user fated = rw fated refl

plan_shared : (n : NodeState) (call : EventNote) (chosen : Option Publication) → IsTold n → SharesNames n → HasInstances call → IsChosen n call chosen → (plan_of n call chosen).refusal ≡ None
    → AreShared (plan_of n call chosen).dispatch n (plan_of n call chosen).work
plan_shared n event.Socket chosen h shares ranges choice none = refl
plan_shared n (event.Close port) chosen h shares ranges choice none = (refl, closing_is n port h shares)
plan_shared n (event.Publish port range scope key) chosen h shares ranges choice none =
    let told = telling false (own_publication n.own port range scope key) in
    (refl, publishing_is n port range scope key h shares ranges (none_first (publication_refusal n.sockets port range.kind key) (crowd_refusal n.neighbours told) none))
plan_shared n (event.Withdraw port key) chosen h shares ranges choice none =
    (refl, withdrawal_is n port key h shares (none_first (withdrawal_refusal n.sockets port key) (crowd_refusal n.neighbours (told_withdrawal n.sockets port key)) none))
plan_shared n (event.SendName port kind instance importance body) chosen h shares ranges choice none = name_shared n port kind instance importance body chosen
plan_shared n (event.SendPort port to importance body) chosen h shares ranges choice none = (refl, refl)
plan_shared n (event.Receive port) chosen h shares ranges choice none = refl
plan_shared n (event.Subscribe asked) chosen h shares ranges choice none = refl
plan_shared n (event.Cancel number) chosen h shares ranges choice none = refl
plan_shared n (event.NextEvent number) chosen h shares ranges choice none = refl
plan_shared n event.Tick chosen h shares ranges choice none =
    all_both is_usual (entries_all 0 (parts_of upkeep.Tick n)) (timeouts_of n.sockets) (all_usual 0 (parts_of upkeep.Tick n)) (timed_usual (due n.sockets.watchers.kept))
plan_shared n (event.Cut bearer) chosen h shares ranges choice none = all_usual 0 (parts_of (upkeep.Cut bearer) n)
plan_shared n (event.Mend bearer) chosen h shares ranges choice none = all_usual 0 (parts_of (upkeep.Mend bearer) n)
plan_shared n (event.Multicast port kind lower upper importance body) chosen h shares ranges choice none =
    let range : Span = record { kind = kind; lower = lower; upper = upper } in
    multicast_shared n (goes_out n range) (multicast n.own port range importance body) refl refl
plan_shared n (event.Arrive bearer number) chosen h shares ranges choice none = absurd choice

-- an arrival isn't performed
own_call : (n : NodeState) (call : EventNote) (chosen : Option Publication) → IsChosen n call chosen → IsOwnCall call
own_call n (event.Arrive bearer number) chosen choice = choice
own_call n other chosen choice = tt

pub performs_shares : (n n' : NodeState) (by : By) (call : EventNote) (frames : List Outgoing) (answered : Answer) → IsTold n → SharesNames n → Performs n by call n' frames answered → (inside : List Entry)
    → IsTurnOf n n' by call inside frames answered → IsTold n' → HasInstances call → length n'.neighbours ≡ 33 → SharesNames n'
performs_shares n n' by call frames answered h shares performs inside t h' ranges wide =
    carried_shares n n' by call (plan_of n call performs.chosen) frames answered inside h h' shares t (own_call n call performs.chosen performs.choice) wide
    (plan_shared n call performs.chosen h shares ranges performs.choice) performs.carried
