-- The journal tells of the node after an arrival.
use Rattle.std.proofs.Common.{◌≡◌, ◌≤◌, ◌<◌, ◌==◌, ◌-◌, ℕ, true, false, List, [], ◌∷◌, ◌++◌, Option, Some, None, fold, is_some, inl, inr, refl, sym, ap, ◌∙◌, subst, arith}
use Rattle.std.specs.Prelude.{◌⊎◌, IfSome, if◌then◌else◌, map, option_and_then, option_map, slice_index_or, slice_set}
use Rattle.std.proofs.lemmas.Bool.{cases_eq, cases_lt}
use Rattle.std.proofs.lemmas.Bool.Decides.{nat_tests}
use Rattle.std.proofs.lemmas.List.{get_or-set_other}
use Rattle.tipc_types.specs.declared.message_forms.Flow.TheVariants.{Broadcast, Zero}
use Rattle.tipc_types.specs.Address.{node_word}
use Rattle.tipc_types.specs.declared.identity.Addr.{Addr}
use Rattle.tipc_types.specs.declared.link_words.BroadcastState.{BroadcastState}
use Rattle.tipc_types.specs.declared.node_calls.Answer.TheVariants as answer
use Rattle.tipc_types.specs.declared.packet_lists.Taken.{Taken}
use Rattle.tipc_broadcast.specs.declared.contacts.Contact.{Contact}
use Rattle.tipc_broadcast.specs.Casting.{Casting, hearing_outcome, shown}
use Rattle.tipc_broadcast.specs.Contacts.{carried, contact_with, has_joined}
use Rattle.tipc_fragments.specs.Joining.{Joining}
use Rattle.tipc_recv_window.specs.declared.outcomes.LinkOutcome.{LinkOutcome}
use Rattle.tipc_reassembly.specs.declared.opening.Opened.{Opened}
use Rattle.tipc_pair.specs.declared.changes.PairOutcome.{PairOutcome}
use Rattle.tipc_types.specs.declared.node_calls.Arrival.{Arrival}
use Rattle.tipc_types.specs.declared.node_calls.Arrival.TheVariants as arrival
use Rattle.tipc_types.specs.declared.node_calls.By.{By}
use Rattle.tipc_types.specs.declared.node_calls.EventNote.TheVariants as event
use Rattle.tipc_outside.specs.declared.outgoing.Outgoing.{Outgoing}
use Rattle.tipc_header.specs.Spelling.{Fields}
use Rattle.tipc_journal.specs.declared.entries.Entry.{Entry}
use Rattle.tipc_journal.specs.Contacts.{contact, contact_after}
use Rattle.tipc_journal.specs.Dues.{NothingDue}
use Rattle.tipc_journal.specs.Steps.{IsInside, step_entries}
use Rattle.tipc_journal.proofs.ContactLaws.{contact_append}
use Rattle.tipc_pair.specs.declared.transitions.Transition.{Transition}
use Rattle.tipc_pair.specs.declared.transitions.Transition.TheVariants.{ContactDown, ContactUp, LinkDown, LinkUp}
use Rattle.tipc_pair.specs.Facing.{contact_between}
use Rattle.tipc_pair.specs.PairTurns.{Outset}
use Rattle.tipc_pair.specs.PairTurns.Opening.{hears}
use Rattle.tipc_pair.specs.Messages.{OpensTo, opened_in}
use Rattle.tipc_pair.specs.Messages.OpensTo.{deferred, ignored, took}
use Rattle.tipc_sockets.specs.SocketTables.{AreSockets}
use Rattle.tipc_node.specs.declared.neighbours.Neighbour.{Neighbour}
use Rattle.tipc_node.specs.CastArrivals.{HearsCast, cast_answered, cast_work, members_in}
use Rattle.tipc_node.specs.Arrivals.{Arrives, Hears, answered_work, heard_casting, heard_work}
use Rattle.tipc_node.specs.Casting.{stated_in}
use Rattle.tipc_node.specs.Neighbours.{HearsAt, heard_neighbour, with_casts}
use Rattle.tipc_node.specs.Nodes.{NodeState, arrival_deliveries, change_entries, delivery_of, is_met, neighbour_of, shown_contact, step_of, stop_of}
use Rattle.tipc_node.specs.Telling.{IsTold}
use Rattle.tipc_pair.specs.LinkReadings.{AreAbreast}
use Rattle.tipc_node.specs.Turns.{HaveJoined, NodeTurn, addr_of}
use Rattle.tipc_node.specs.Works.{Work, addr_of_word, begun}
use Rattle.tipc_node.proofs.journal.Calling.{done_answered}
use Rattle.tipc_node.proofs.journal.Concluding.{IsCall, call_told, others_kept}
use Rattle.tipc_node.proofs.journal.Fating.{IsDone, IsLinked, contact_at}
use Rattle.tipc_node.proofs.work.Greeting.{greets_items}
use Rattle.tipc_node.proofs.journal.Happening.{changes_quiet}
use Rattle.tipc_pair.proofs.turns.Moves.{contact_is_some, contact_by}
use Rattle.tipc_node.proofs.journal.Noting.{IsWorked, all_noted, begun_worked, worked_beside}
use Rattle.tipc_pair.proofs.turns.PairEvents.{HappenedSo, happened_so}
use Rattle.tipc_pair.proofs.turns.PairTells.{Tells}
use Rattle.tipc_node.proofs.journal.PeersTold.{puts_each_linked, puts_each_worked}
use Rattle.tipc_node.proofs.Places.{set_either, set_there}
use Rattle.tipc_node.proofs.journal.Putting.{IsInContact, all_delivered, all_given, contact_set, not_nobody, still_in_contact}
use Rattle.tipc_node.proofs.work.Arriving.{by_arrival}
use Rattle.tipc_node.proofs.work.Casting.{joined_there}
use Rattle.tipc_node.proofs.work.Discovery.{discovered_same}
use Rattle.tipc_node.proofs.work.Senders.{isnt_own, sender_other}
use Rattle.tipc_node.proofs.journal.SendsTold.{begun_linked}
use Rattle.tipc_pair.proofs.turns.TurnMeans.{contact_by_story, on_bearers, told_by_story}
use Rattle.tipc_node.proofs.journal.Telling.{contact_goes}

-- ---- what was heard, before anything is delivered

-- what is told of one peer leaves the contacts with others
other_contact : (peer : ℕ) (a : Addr) (z : Option (ℕ × ℕ)) (cs : List Transition) → (node_word peer == a.word) ≡ false → fold (contact_after a) z (change_entries peer cs) ≡ z
other_contact peer a z [] other = refl
other_contact peer a z (LinkUp bearer mine theirs ∷ cs) other = other_contact peer a z cs other
other_contact peer a z (LinkDown bearer because shown ∷ cs) other = other_contact peer a z cs other
other_contact peer a z (ContactUp numbers ∷ cs) other = ap (λ b. fold (contact_after a) (if b then Some numbers else z) (change_entries peer cs)) other ∙ other_contact peer a z cs other
other_contact peer a z (ContactDown numbers states shown ∷ cs) other = ap (λ b. fold (contact_after a) (if b then None else z) (change_entries peer cs)) other ∙ other_contact peer a z cs other

apart_words : (peer k : ℕ) → (k ≡ peer → ⊥) → (node_word peer == node_word k) ≡ false
apart_words peer k other = grind (arith, nat_tests, other)

low_words : (peer low : ℕ) → low < node_word 0 → (node_word peer == low) ≡ false
low_words peer low below = grind (arith, nat_tests, below)

-- what the packet did to the pair is as its changes tell
abbrev HeardSo : Neighbour → (bearer first second number : ℕ) → Fields → BroadcastState → Outset → Type 0
HeardSo x bearer first second number p shown o = HappenedSo x.pair (hears bearer first second p number shown) o

heard_so : (n : NodeState) (bearer peer first second number : ℕ) (x : Neighbour) (p : Fields) (shown : BroadcastState) (o : Outset) → IsTold n → neighbour_of n peer ≡ Some x → HearsAt x bearer first second p number shown o
    → HeardSo x bearer first second number p shown o
heard_so n bearer peer first second number x p shown o h was heard =
    let abreast = subst (λ a. IfSome a AreAbreast) (ap (option_map (λ (y : Neighbour). y.pair)) was) (h.links peer).abreast in
    happened_so x.pair (hears bearer first second p number shown) o (on_bearers x.pair abreast) tt heard

heard_linked : (n : NodeState) (peer : ℕ) (x : Neighbour) (o : Outset) → IsTold n → neighbour_of n peer ≡ Some x → Tells x.pair o.course → IsLinked n (heard_work n peer x o)
heard_linked n peer x o h was tells = record { contacts = λ a. contacts a (cases_lt a.word (node_word 0)); two = λ b z there. two_at b z there (cases_eq b peer); nobody = nobody }
  where
    y : Neighbour
    y = heard_neighbour x o

    xs : List (Option Neighbour)
    xs = slice_set n.neighbours peer (Some y)

    cs : List Transition
    cs = o.course.changes

    es : List Entry
    es = change_entries peer cs

    of : Option Neighbour → Option (ℕ × ℕ)
    of a = option_and_then (λ (z : Neighbour). contact_between z.pair) a

    before : IsLinked n (begun n)
    before = begun_linked n h

    -- the contact with node k before
    was_in : (k : ℕ) → contact n.journal (addr_of k) ≡ option_and_then contact_between (option_map (λ (z : Neighbour). z.pair) (neighbour_of n k))
    was_in k = (h.links k).contact_is

    linked : (a : Option Neighbour) → option_and_then contact_between (option_map (λ (z : Neighbour). z.pair) a) ≡ of a
    linked None = refl
    linked (Some z) = refl

    -- and then
    now : fold contact_by (contact_between x.pair) cs ≡ contact_between o.course.pair
    now = contact_by_story (contact_between x.pair) cs tells.story tells.story_is ∙ told_by_story x.pair o.course.pair tells.story tells.means

    at : (k : ℕ) → (k ≡ peer) ⊎ (k ≡ peer → ⊥) → contact (n.journal ++ es) (addr_of k) ≡ of (slice_index_or xs k None)
    at k (inl here) =
        ap (λ j. contact (n.journal ++ es) (addr_of j)) here ∙ contact_append n.journal es (addr_of peer) ∙ contact_goes peer (contact n.journal (addr_of peer)) cs
        ∙ ap (λ z. fold contact_by z cs) (was_in peer ∙ linked (neighbour_of n peer) ∙ ap of was) ∙ now
        ∙ sym (ap of (set_there n.neighbours peer x y was)) ∙ ap (λ j. of (slice_index_or xs j None)) (sym here)
    at k (inr other) =
        contact_append n.journal es (addr_of k) ∙ other_contact peer (addr_of k) (contact n.journal (addr_of k)) cs (apart_words peer k other) ∙ was_in k ∙ linked (neighbour_of n k)
        ∙ ap of (sym (get_or-set_other n.neighbours peer k (Some y) None other))

    nobody : slice_index_or xs 0 None ≡ None
    nobody = get_or-set_other n.neighbours peer 0 (Some y) None (not_nobody n.neighbours peer x h.nobody was) ∙ h.nobody

    contacts : (a : Addr) → (a.word < node_word 0) ⊎ (node_word 0 ≤ a.word) → contact (n.journal ++ es) a ≡ contact_at xs a
    contacts a (inl low) =
        let none : a.word - node_word 0 ≡ 0 = omega (arith, low) in
        contact_append n.journal es a ∙ other_contact peer a (contact n.journal a) cs (low_words peer a.word low) ∙ h.below a low
        ∙ sym (ap (λ k. of (slice_index_or xs k None)) none ∙ ap of nobody)
    contacts a (inr high) =
        let is : a.word ≡ node_word (a.word - node_word 0) = omega (arith, high) in
        ap (λ k. contact (n.journal ++ es) (addr_of_word k)) is ∙ at (a.word - node_word 0) (cases_eq (a.word - node_word 0) peer)

    two_at : (b : ℕ) (z : Neighbour) → slice_index_or xs b None ≡ Some z → (b ≡ peer) ⊎ (b ≡ peer → ⊥) → z.pair.bearer ≤ 1
    two_at b z there (inl here) =
        let same : y ≡ z = set_either n.neighbours peer z y (ap (λ k. slice_index_or xs k None) (sym here) ∙ there) in
        let bearer = tells.bearer in
        let most = tells.two in
        subst (λ (v : Neighbour). v.pair.bearer ≤ 1) same (omega (arith, bearer, most))
    two_at b z there (inr other) = before.two b z (sym (get_or-set_other n.neighbours peer b (Some y) None other) ∙ there)

heard_worked : (n : NodeState) (peer : ℕ) (x : Neighbour) (o : Outset) → IsTold n → neighbour_of n peer ≡ Some x → (node_word peer == n.own) ≡ false → Tells x.pair o.course → IsDone n NothingDue [] [] (heard_work n peer x o)
heard_worked n peer x o h was other tells =
    let xs = slice_set n.neighbours peer (Some (heard_neighbour x o)) in
    let beside = worked_beside n NothingDue NothingDue [] [] (begun n) xs (begun_worked n NothingDue h) in (
      all_noted n NothingDue [] [] (record (begun n) { neighbours = xs }) (change_entries peer o.course.changes) beside (changes_quiet n.own peer o.course.changes other),
      heard_linked n peer x o h was tells,
    )

-- ---- where something is delivered there is contact

mapped_some : {A B : Type 0} (f : A → B) (xs : List A) (y : B) (ys : List B) → map f xs ≡ y ∷ ys → (x : A) × (rest : List A) × (xs ≡ x ∷ rest)
mapped_some f [] y ys is = absurd cc
mapped_some f (x ∷ xs) y ys is = (x, xs, refl)

peer_place : (xs : List (Option Neighbour)) (peer : ℕ) (x y : Neighbour) → slice_index_or xs peer None ≡ Some x → contact_at (slice_set xs peer (Some y)) (addr_of_word (node_word peer)) ≡ contact_between y.pair
peer_place xs peer x y was =
    let here : node_word peer - node_word 0 ≡ peer = omega arith in
    ap (λ k. option_and_then (λ (z : Neighbour). contact_between z.pair) (slice_index_or (slice_set xs peer (Some y)) k None)) here
    ∙ ap (option_and_then (λ (z : Neighbour). contact_between z.pair)) (set_there xs peer x y was)

heard_in_contact : (n n' : NodeState) (by : By) (bearer number : ℕ) (bytes : List ℕ) (frames : List Outgoing) (answered : Arrival) (heard : Hears n n' by bearer number bytes frames answered)
    → HeardSo heard.neighbour bearer heard.first heard.second number heard.packet (shown n.casting (node_word heard.peer)) heard.out
    → IsInContact heard.peer (heard_work n heard.peer heard.neighbour heard.out) (arrival_deliveries Zero heard.peer heard.neighbour.pair heard.out.given)
heard_in_contact n n' by bearer number bytes frames answered heard so d ds some =
    let y = heard_neighbour heard.neighbour heard.out in
    let opened = mapped_some (delivery_of Zero heard.peer (shown_contact heard.neighbour.pair)) (opened_in heard.out.given) d ds some in
    let lasts = so.lasts opened.0 opened.1 opened.2 in
    ap is_some (peer_place n.neighbours heard.peer heard.neighbour y heard.was) ∙ contact_is_some y.pair ∙ lasts.0

-- ---- an arrival

-- an arrival is answered, whatever it was
arrived_call : (n : NodeState) (by : By) (bearer number : ℕ) (answered : Arrival) (w : Work) → IsTold n → IsWorked n NothingDue NothingDue [] [] w → IsInside w.inside
    → IsCall n by (event.Arrive bearer number) (answer.Arrived answered) w w.sockets
arrived_call n by bearer number answered w h worked inner = record {
  answered = done_answered (addr_of_word n.own) n.journal by (event.Arrive bearer number) w.inside (answer.Arrived answered) refl (answered, refl);
  worked = worked;
  kept = others_kept n by (event.Arrive bearer number) (answer.Arrived answered) NothingDue [] [] w h inner worked (record { stays = λ ports. refl; none = refl; quiet = λ q. refl; still = refl; nothing = λ number. refl });
  full = tt;
}

heard_told : (n n' : NodeState) (by : By) (bearer number : ℕ) (bytes : List ℕ) (frames : List Outgoing) (answered : Arrival) (inside : List Entry) → IsTold n → stop_of n bearer bytes ≡ None → Hears n n' by bearer number bytes frames answered
    → NodeTurn n n' bytes (step_of by (event.Arrive bearer number) inside (answer.Arrived answered)) frames → AreSockets n'.sockets → IsTold n'
heard_told n n' by bearer number bytes frames answered inside h passes heard t sound =
    let x = heard.neighbour in
    let other = sender_other n bearer bytes heard.peer heard.first heard.second heard.packet heard.due passes in
    let so = heard_so n bearer heard.peer heard.first heard.second number x heard.packet (shown n.casting (node_word heard.peer)) heard.out h heard.was heard.hears in
    let first = heard_worked n heard.peer x heard.out h heard.was other so.tells in
    let given = all_given Zero heard.peer (shown_contact x.pair) (opened_in heard.out.given) in
    let ds = arrival_deliveries Zero heard.peer x.pair heard.out.given in
    let start = heard_work n heard.peer x heard.out in
    let told : IsDone n NothingDue [] [] heard.greeted = (
      puts_each_worked n NothingDue [] [] start heard.peer heard.greeting heard.greeted heard.greeting_frames first.0 (greets_items n.sockets.live heard.out.course.changes heard.greeting heard.greets) heard.greeting_put,
      puts_each_linked n heard.peer start heard.greeting heard.greeted heard.greeting_frames first.1 heard.greeting_put,
    ) in
    let up = still_in_contact n.own heard.peer start heard.greeting heard.greeted heard.greeting_frames ds heard.greeting_put (heard_in_contact n n' by bearer number bytes frames answered heard so) in
    let done = all_delivered n NothingDue [] [] heard.peer heard.greeted ds heard.work heard.returned other told given up heard.delivers in
    let w = answered_work heard.work heard.peer bearer (stated_in heard.packet.header heard.out.given) (heard_casting n heard.peer heard.packet heard.out) heard.then in
    let worked = worked_beside n NothingDue NothingDue [] [] heard.work w.neighbours done.0 in
    call_told n n' bytes by (event.Arrive bearer number) inside (answer.Arrived answered) (answer.Arrived answered) frames w w.sockets h t (ap (λ (k : NodeState). k.journal) heard.after) (ap (λ (k : NodeState). k.sockets) heard.after) sound
    (arrived_call n by bearer number answered w h worked)

-- ---- a broadcast packet

-- what is begun of a peer's broadcast leaves the contacts
cast_linked : (n : NodeState) (peer : ℕ) (x : Neighbour) (joining : Joining) → IsTold n → neighbour_of n peer ≡ Some x → IsLinked n (cast_work n peer x joining)
cast_linked n peer x joining h was = record {
  contacts = λ a. before.contacts a ∙ sym (contact_set n.neighbours peer x y was refl a);
  two = λ b z there. two b z there (cases_eq b peer);
  nobody = get_or-set_other n.neighbours peer 0 (Some y) None (not_nobody n.neighbours peer x h.nobody was) ∙ h.nobody;
}
  where
    y : Neighbour
    y = with_casts x joining

    before : IsLinked n (begun n)
    before = begun_linked n h

    two : (b : ℕ) (z : Neighbour) → slice_index_or (slice_set n.neighbours peer (Some y)) b None ≡ Some z → (b ≡ peer) ⊎ (b ≡ peer → ⊥) → z.pair.bearer ≤ 1
    two b z there (inl here) =
        let same : y ≡ z = set_either n.neighbours peer z y (ap (λ k. slice_index_or (slice_set n.neighbours peer (Some y)) k None) (sym here) ∙ there) in
        subst (λ (v : Neighbour). v.pair.bearer ≤ 1) same (before.two peer x was)
    two b z there (inr other) = before.two b z (sym (get_or-set_other n.neighbours peer b (Some y) None other) ∙ there)

-- what opens to something was taken
opens_took : (begun : Joining) (o : LinkOutcome) (given : PairOutcome) (last : Joining) (g : Opened) (gs : List Opened) → OpensTo begun o given last → opened_in given ≡ g ∷ gs → (taken : List Taken) × (o ≡ LinkOutcome.Took taken)
opens_took begun _ _ _ g gs (took all) is = (_, refl)
opens_took begun _ _ _ g gs deferred is = absurd cc
opens_took begun _ _ _ g gs ignored is = absurd cc

-- what is taken is of a peer that joined
took_joined : (v : Casting) (boot members : ℕ) (t : Taken) (o : Option Contact) (taken : List Taken) → hearing_outcome v boot members t o ≡ LinkOutcome.Took taken → is_some o ≡ true
took_joined v boot members t None taken is = absurd cc
took_joined v boot members t (Some c) taken is = refl

cast_in_contact : (n n' : NodeState) (by : By) (bearer number : ℕ) (bytes : List ℕ) (frames : List Outgoing) (answered : Arrival) → HaveJoined n → (cast : HearsCast n n' by bearer number bytes frames answered)
    → IsInContact cast.peer (cast_work n cast.peer cast.neighbour cast.joining) (arrival_deliveries Broadcast cast.peer cast.neighbour.pair cast.given)
cast_in_contact n n' by bearer number bytes frames answered joined cast d ds some =
    let x = cast.neighbour in
    let p = cast.packet in
    let opened = mapped_some (delivery_of Broadcast cast.peer (shown_contact x.pair)) (opened_in cast.given) d ds some in
    let took = opens_took x.casts cast.outcome cast.given cast.joining opened.0 opened.1 cast.opens opened.2 in
    let there = took_joined n.casting cast.first (members_in cast.second) (carried p number) (contact_with p.previous n.casting.contacts) took.0 (sym cast.outcome_is ∙ took.1) in
    let has : has_joined (node_word cast.peer) n.casting.contacts ≡ true = ap (λ word. has_joined word n.casting.contacts) (sym cast.brings.from.previous) ∙ there in
    ap is_some (peer_place n.neighbours cast.peer x (with_casts x cast.joining) cast.was) ∙ contact_is_some x.pair ∙ sym (ap is_met cast.was) ∙ sym (joined_there n cast.peer joined) ∙ has

cast_told : (n n' : NodeState) (by : By) (bearer number : ℕ) (bytes : List ℕ) (frames : List Outgoing) (answered : Arrival) (inside : List Entry) → IsTold n → HaveJoined n → HearsCast n n' by bearer number bytes frames answered
    → NodeTurn n n' bytes (step_of by (event.Arrive bearer number) inside (answer.Arrived answered)) frames → AreSockets n'.sockets → IsTold n'
cast_told n n' by bearer number bytes frames answered inside h joined cast t sound =
    let peer = cast.peer in
    let x = cast.neighbour in
    let start = cast_work n peer x cast.joining in
    let other = isnt_own n.own (node_word peer) cast.brings.other in
    let first : IsDone n NothingDue [] [] start = (worked_beside n NothingDue NothingDue [] [] (begun n) start.neighbours (begun_worked n NothingDue h), cast_linked n peer x cast.joining h cast.was) in
    let given = all_given Broadcast peer (shown_contact x.pair) (opened_in cast.given) in
    let ds = arrival_deliveries Broadcast peer x.pair cast.given in
    let done = all_delivered n NothingDue [] [] peer start ds cast.work cast.returned other first given (cast_in_contact n n' by bearer number bytes frames answered joined cast) cast.delivers in
    let w = cast_answered cast.outcome bearer peer cast.casting cast.work cast.then in
    let worked = worked_beside n NothingDue NothingDue [] [] cast.work w.neighbours done.0 in
    call_told n n' bytes by (event.Arrive bearer number) inside (answer.Arrived answered) (answer.Arrived answered) frames w w.sockets h t (ap (λ (k : NodeState). k.journal) cast.after) (ap (λ (k : NodeState). k.sockets) cast.after) sound
    (arrived_call n by bearer number answered w h worked)

-- ---- any frame

-- an arrival by which nothing is noted, and no socket changes
quiet_told : (n n' : NodeState) (by : By) (bearer number : ℕ) (bytes : List ℕ) (frames : List Outgoing) (answered given : Arrival) (inside : List Entry) → IsTold n
    → NodeTurn n n' bytes (step_of by (event.Arrive bearer number) inside (answer.Arrived answered)) frames → AreSockets n'.sockets
    → n'.journal ≡ n.journal ++ step_entries (step_of by (event.Arrive bearer number) [] (answer.Arrived given)) → n'.sockets ≡ n.sockets → IsTold n'
quiet_told n n' by bearer number bytes frames answered given inside h t sound journal sockets =
    call_told n n' bytes by (event.Arrive bearer number) inside (answer.Arrived answered) (answer.Arrived given) frames (begun n) n.sockets h t journal sockets sound
    (arrived_call n by bearer number given (begun n) h (begun_worked n NothingDue h))

pub arrives_told : (n n' : NodeState) (by : By) (bearer number : ℕ) (bytes : List ℕ) (frames : List Outgoing) (answered : Arrival) → IsTold n → HaveJoined n → Arrives n n' by bearer number bytes frames answered → (inside : List Entry)
    → NodeTurn n n' bytes (step_of by (event.Arrive bearer number) inside (answer.Arrived answered)) frames → AreSockets n'.sockets → IsTold n'
arrives_told n n' by bearer number bytes frames answered h joined arrives inside t sound =
    by_arrival (IsTold n') n n' by bearer number bytes frames answered arrives
    (λ reason after none is.
    quiet_told n n' by bearer number bytes frames answered (arrival.Ignored reason) inside h t sound (ap (λ (x : NodeState). x.journal) after) (ap (λ (x : NodeState). x.sockets) after))
    (λ passes heard. heard_told n n' by bearer number bytes frames answered inside h passes heard t sound)
    (λ found.
    let same = discovered_same n found.peer bearer in
    quiet_told n n' by bearer number bytes frames answered (arrival.Took 0) inside h t sound
    (ap (λ (x : NodeState). x.journal) found.after ∙ ap (λ es. es ++ step_entries (step_of by (event.Arrive bearer number) [] (answer.Arrived (arrival.Took 0)))) same.0) (ap (λ (x : NodeState). x.sockets) found.after ∙ same.1))
    (λ cast. cast_told n n' by bearer number bytes frames answered inside h joined cast t sound)
