-- A node shares its names with its peers after an arrival: a peer with which a contact begins was told of them all, and what a peer delivered was applied.
use Rattle.std.proofs.Common.{◌≡◌, ◌≢◌, ◌==◌, ◌||◌, ℕ, Bool, true, false, List, [], ◌∷◌, ◌++◌, Option, Some, None, filter, fold, if◌then◌else◌, is_some, refl, sym, ap, ◌∙◌, subst, append-nil, append_assoc, inl, inr, true≢false, eqb-true}
use Rattle.std.specs.List.{list_all}
use Rattle.std.proofs.lemmas.Bool.{and_parts, cases_eq}
use Rattle.std.proofs.lemmas.List.{append_cancel_left, same_from_push}
use Rattle.tipc_types.specs.Address.{node_word}
use Rattle.tipc_types.specs.declared.message_forms.Message.{Message}
use Rattle.tipc_types.specs.declared.node_calls.Answer.{Answer}
use Rattle.tipc_types.specs.declared.node_calls.Answer.TheVariants as answer
use Rattle.tipc_types.specs.declared.node_calls.Arrival.{Arrival}
use Rattle.tipc_types.specs.declared.node_calls.Arrival.TheVariants as arrival
use Rattle.tipc_types.specs.declared.node_calls.By.{By}
use Rattle.tipc_types.specs.declared.node_calls.EventNote.{EventNote}
use Rattle.tipc_types.specs.declared.node_calls.EventNote.TheVariants.{Arrive}
use Rattle.tipc_types.specs.declared.services.Publication.{Publication}
use Rattle.tipc_outside.specs.declared.outgoing.Outgoing.{Outgoing}
use Rattle.tipc_types.specs.Tables.{is_of}
use Rattle.tipc_name_dist.specs.Agreeing.{AreOwn}
use Rattle.tipc_name_dist.specs.Applying.{held_after}
use Rattle.tipc_name_dist.specs.Items.{IsBulk}
use Rattle.tipc_name_dist.proofs.Fronts.{held_append}
use Rattle.tipc_journal.specs.declared.entries.Entry.{Entry}
use Rattle.tipc_journal.specs.declared.entries.Entry.TheVariants as entry
use Rattle.tipc_journal.specs.Contacts.{contact}
use Rattle.tipc_journal.specs.Names.{live}
use Rattle.tipc_journal.specs.Steps.{NodeStep, step_entries}
use Rattle.tipc_journal.specs.Streams.{accepted, delivered}
use Rattle.tipc_journal.proofs.StreamLaws.{delivered_nil}
use Rattle.tipc_pair.specs.declared.transitions.Transition.{Transition}
use Rattle.tipc_pair.specs.declared.transitions.Transition.TheVariants.{ContactDown, ContactUp, LinkDown, LinkUp}
use Rattle.tipc_pair.specs.Facing.{PairEnds, contact_between, in_contact}
use Rattle.tipc_pair.specs.Messages.{opened_in}
use Rattle.tipc_sockets.specs.SocketTables.{SocketTable}
use Rattle.tipc_sockets.specs.Telling.{after_entry}
use Rattle.tipc_node.specs.declared.neighbours.Neighbour.{Neighbour}
use Rattle.tipc_node.specs.Arrivals.{Arrives, GreetsWhere, Hears}
use Rattle.tipc_node.specs.CastArrivals.{HearsCast, cast_work}
use Rattle.tipc_pair.specs.Contacts.{begins, is_of_contact}
use Rattle.tipc_node.specs.Nodes.{NodeState, change_entries, change_entry, neighbour_of, shown_contact, step_of}
use Rattle.tipc_node.specs.Sharing.{IsUnused, SharesNames, flow_with}
use Rattle.tipc_name_dist.specs.Told.{HasTold}
use Rattle.tipc_node.specs.Telling.{IsTold, is_in_reach}
use Rattle.tipc_node.specs.Turns.{NodeTurn, addr_of, is_change_of, is_delivered_from}
use Rattle.tipc_node.specs.Works.{addr_of_word}
use Rattle.tipc_node.proofs.work.Arriving.{by_arrival}
use Rattle.tipc_pair.proofs.turns.Moves.{contact_by, contact_gone}
use Rattle.tipc_node.proofs.work.Discovery.{discovered_same}
use Rattle.tipc_node.proofs.journal.Noting.{all_from}
use Rattle.tipc_node.proofs.names.SharingCasts.{cast_beside, cast_changes, cast_elsewhere, cast_lives, cast_plain_for, casts_add, is_of_cast}
use Rattle.tipc_node.proofs.names.SharingDelivered.{filter_apart, is_delivery_of}
use Rattle.tipc_pair.proofs.turns.PairTells.{Means, Story, began, contact_changes, ended, stays}
use Rattle.tipc_pair.proofs.turns.TurnMeans.{begins_by_story, contact_by_story}
use Rattle.tipc_node.proofs.names.SharingEntries.{is_beside, is_plain_for, keeps_live, live_then, names_stay, plain_accepted, same_live, sockets_live}
use Rattle.tipc_node.proofs.names.SharingFlows.{accepted_then, delivered_of_peer, delivered_then}
use Rattle.tipc_node.proofs.names.SharingHeard.{IsHeardAt, all_of_arrival, delivery_plain, heard_accepts, heard_at, heard_changes, heard_delivers, is_arrival_of, no_change, no_delivery, no_naming, none_learned, none_told}
use Rattle.tipc_node.proofs.names.SharingWork.{AddsOf}
use Rattle.tipc_node.proofs.names.SharingSteps.{SharesAt, contact_there, other_than, shares_from, shown_by}
use Rattle.tipc_node.proofs.pairs.Strangers.{pair_there}
use Rattle.tipc_sockets.proofs.ToldNames.{told_bulk, told_users}
use Rattle.tipc_node.proofs.journal.Telling.{contact_goes, contact_told}

-- ---- a peer beside the arrival

-- entries that leave the contact with node b, and its names and what it is told, as they are
pub record PassesBy (b : ℕ) (es : List Entry) : Type 0 where
  pub changes : filter (is_change_of b) es ≡ []
  pub none_delivered : filter (is_delivered_from b) es ≡ []
  pub beside : list_all (is_beside b) es ≡ true
  pub plain : list_all (is_plain_for b) es ≡ true
  pub lives : list_all keeps_live es ≡ true

nothing_passes : (b : ℕ) → PassesBy b []
nothing_passes b = record { changes = refl; none_delivered = refl; beside = refl; plain = refl; lives = refl }

arrival_passes : (b peer : ℕ) (es : List Entry) → peer ≢ b → list_all (is_arrival_of peer) es ≡ true → PassesBy b es
arrival_passes b peer es apart all = record {
  changes = filter_apart (is_arrival_of peer) (is_change_of b) (no_change b peer apart) es all;
  none_delivered = filter_apart (is_arrival_of peer) (is_delivered_from b) (no_delivery b peer apart) es all;
  beside = all_from (is_arrival_of peer) (is_beside b) (none_learned b peer apart) es all;
  plain = all_from (is_arrival_of peer) (is_plain_for b) (none_told b peer apart) es all;
  lives = all_from (is_arrival_of peer) keeps_live (no_naming peer) es all;
}

passed_at : (n n' : NodeState) (bytes : List ℕ) (s : NodeStep) (frames : List Outgoing) (b : ℕ) (numbers : ℕ × ℕ) → IsTold n → IsTold n' → SharesNames n → NodeTurn n n' bytes s frames → PassesBy b s.inside → contact n'.journal (addr_of b) ≡ Some numbers
    → SharesAt n' b numbers
passed_at n n' bytes s frames b numbers h h' shares t p is =
    let before : contact n.journal (addr_of b) ≡ Some numbers = sym (ap (λ es. contact es (addr_of b)) t.journal ∙ contact_told n.journal s b [] p.changes) ∙ is in
    let apart = other_than n b numbers h before in
    let lives : live n'.journal ≡ live n.journal = live_then n.journal n'.journal s t.journal ∙ same_live (live n.journal) s.inside p.lives in
    let told = told_users n.own (live n.journal) (accepted n.journal (flow_with b numbers)) (accepted s.inside (flow_with b numbers)) (shares.told b numbers before) (plain_accepted b numbers s.inside p.plain) in
    let more = accepted_then n.journal n'.journal s b numbers (accepted s.inside (flow_with b numbers)) t.journal refl in
    let none : delivered n'.journal (flow_with b numbers) ≡ delivered n.journal (flow_with b numbers) =
    delivered_then n.journal n'.journal s b numbers [] t.journal (delivered_of_peer b numbers s.inside [] [] p.none_delivered (delivered_nil (flow_with b numbers))) ∙ append-nil _ in
    record {
      told = subst (λ o. HasTold o (live n'.journal) (accepted n'.journal (flow_with b numbers))) (sym t.own)
          (subst (λ ps. HasTold n.own ps (accepted n'.journal (flow_with b numbers))) (sym lives) (subst (HasTold n.own (live n.journal)) (sym more) told));
      holds = names_stay n n' s b h h' t.own t.journal apart p.beside ∙ shares.holds b numbers before ∙ ap (held_after (node_word b) []) (sym none);
    }

-- ---- the peer itself

-- of a node without contact nothing is held
unreached : (own : ℕ) (journal : List Entry) (b : ℕ) (ps : List Publication) → contact journal (addr_of b) ≡ None → (node_word b == own) ≡ false → list_all (is_in_reach own journal) ps ≡ true → filter (is_of (node_word b)) ps ≡ []
unreached own journal b [] none apart reached = refl
unreached own journal b (p ∷ ps) none apart reached =
    let both = and_parts (is_in_reach own journal p) _ reached in by (is_of (node_word b) p) refl both.0 (unreached own journal b ps none apart both.1)
  where
    by : (t : Bool) → is_of (node_word b) p ≡ t → is_in_reach own journal p ≡ true → filter (is_of (node_word b)) ps ≡ [] → (if t then p ∷ filter (is_of (node_word b)) ps else filter (is_of (node_word b)) ps) ≡ []
    by false is here later = later
    by true is here later =
        let same : p.at.node.word ≡ node_word b = eqb-true _ _ is in
        let beyond : is_in_reach own journal p ≡ false =
        ap (λ w. (w == own) || is_some (contact journal (addr_of_word w))) same ∙ ap (λ t. t || is_some (contact journal (addr_of b))) apart ∙ ap is_some none in
        absurd (true≢false (sym here ∙ beyond))

none_held : (n : NodeState) (b : ℕ) → IsTold n → contact n.journal (addr_of b) ≡ None → (node_word b == n.own) ≡ false → filter (is_of (node_word b)) n.sockets.names ≡ []
none_held n b h none apart = unreached n.own n.journal b n.sockets.names none apart h.sockets.reached

-- ---- what was told and held before what was delivered

record IsGreeted (n : NodeState) (peer : ℕ) (numbers : ℕ × ℕ) (greeting : List Message) (s : SocketTable) : Type 0 where
  pub told : HasTold n.own (live n.journal) (accepted n.journal (flow_with peer numbers) ++ greeting)
  pub holds : filter (is_of (node_word peer)) s.names ≡ held_after (node_word peer) [] (delivered n.journal (flow_with peer numbers))

greeted_stay : (n : NodeState) (peer : ℕ) (numbers : ℕ × ℕ) (greeting : List Message) → SharesNames n → contact n.journal (addr_of peer) ≡ Some numbers → greeting ≡ [] → IsGreeted n peer numbers greeting n.sockets
greeted_stay n peer numbers greeting shares before none = record {
  told = subst (HasTold n.own (live n.journal)) (sym (ap (λ ms. accepted n.journal (flow_with peer numbers) ++ ms) none ∙ append-nil _)) (shares.told peer numbers before);
  holds = shares.holds peer numbers before;
}

greeted_anew : (n : NodeState) (peer : ℕ) (numbers : ℕ × ℕ) (greeting : List Message) (x : Neighbour) → IsTold n → SharesNames n → neighbour_of n peer ≡ Some x → in_contact x.pair ≡ false → numbers.0 ≡ x.pair.contact
    → (node_word peer == n.own) ≡ false → IsBulk n.sockets.live greeting → IsGreeted n peer numbers greeting n.sockets
greeted_anew n peer numbers greeting x h shares was down number apart bulk =
    let same = pair_there n peer x was in
    let unused = subst (IsUnused n.journal peer) (ap (λ (y : PairEnds). y.contact) same ∙ sym number) (shares.unused.next peer (ap in_contact same ∙ down)) numbers.1 in
    let alone : contact n.journal (addr_of peer) ≡ None = contact_there n peer x h was ∙ contact_gone x.pair down in
    record {
      told = subst (HasTold n.own (live n.journal)) (sym (ap (λ ms. ms ++ greeting) unused.0)) (told_bulk n.own (live n.journal) greeting shares.own_names (subst (λ ps. IsBulk ps greeting) (sockets_live n h) bulk));
      holds = none_held n peer h alone apart ∙ ap (held_after (node_word peer) []) (sym unused.1);
    }

-- ---- the peer after the arrival

heard_shares : (n n' : NodeState) (bytes : List ℕ) (s : NodeStep) (frames : List Outgoing) (peer : ℕ) → IsTold n → NodeTurn n n' bytes s frames → (a : IsHeardAt n n' s.inside peer)
    → IsGreeted n peer (shown_contact a.after) a.greeting (fold after_entry n.sockets (change_entries peer a.changes)) → SharesAt n' peer (shown_contact a.after)
heard_shares n n' bytes s frames peer h t a g =
    let c = shown_contact a.after in
    let before = accepted n.journal (flow_with peer c) in
    let more = accepted a.entries (flow_with peer c) in
    let lives : live n'.journal ≡ live n.journal =
    live_then n.journal n'.journal s t.journal ∙ same_live (live n.journal) s.inside (all_from (is_arrival_of peer) keeps_live (no_naming peer) s.inside (all_of_arrival n n' s.inside peer a)) in
    let accepts : accepted n'.journal (flow_with peer c) ≡ (before ++ a.greeting) ++ more =
    accepted_then n.journal n'.journal s peer c (a.greeting ++ more) t.journal (heard_accepts n n' s.inside peer a) ∙ sym (append_assoc before a.greeting more) in
    let delivers = delivered_then n.journal n'.journal s peer c a.messages t.journal (heard_delivers n n' s.inside peer a) in
    let told = told_users n.own (live n.journal) (before ++ a.greeting) more g.told (plain_accepted peer c a.entries (all_from (is_delivery_of peer) (is_plain_for peer) (delivery_plain peer peer) a.entries a.all)) in
    record {
      told = subst (λ o. HasTold o (live n'.journal) (accepted n'.journal (flow_with peer c))) (sym t.own)
          (subst (λ ps. HasTold n.own ps (accepted n'.journal (flow_with peer c))) (sym lives) (subst (HasTold n.own (live n.journal)) (sym accepts) told));
      holds =
          a.names ∙ ap (λ ps. held_after (node_word peer) ps a.messages) g.holds ∙ sym (held_append (node_word peer) [] (delivered n.journal (flow_with peer c)) a.messages)
          ∙ ap (held_after (node_word peer) []) (sym delivers);
    }

-- the changes of the contact alone change the sockets
changed_sockets : (s : SocketTable) (peer : ℕ) (cs : List Transition) → fold after_entry s (change_entries peer cs) ≡ fold after_entry s (change_entries peer (filter is_of_contact cs))
changed_sockets s peer [] = refl
changed_sockets s peer (LinkUp bearer own theirs ∷ cs) = changed_sockets s peer cs
changed_sockets s peer (LinkDown bearer because shown ∷ cs) = changed_sockets s peer cs
changed_sockets s peer (ContactUp numbers ∷ cs) = changed_sockets s peer cs
changed_sockets s peer (ContactDown numbers states shown ∷ cs) = changed_sockets (after_entry s (change_entry peer (ContactDown numbers states shown))) peer cs

peer_at : (n n' : NodeState) (bytes : List ℕ) (s : NodeStep) (frames : List Outgoing) (peer : ℕ) (numbers : ℕ × ℕ) → IsTold n → IsTold n' → SharesNames n → NodeTurn n n' bytes s frames → IsHeardAt n n' s.inside peer
    → contact n'.journal (addr_of peer) ≡ Some numbers → SharesAt n' peer numbers
peer_at n n' bytes s frames peer numbers h h' shares t a is = by a.story refl a.means greeted now
  where
    x : PairEnds
    x = a.neighbour.pair

    c : ℕ × ℕ
    c = shown_contact a.after

    before : contact n.journal (addr_of peer) ≡ contact_between x
    before = contact_there n peer a.neighbour h a.was

    now : fold contact_by (contact_between x) (contact_changes a.story) ≡ Some numbers
    now =
        sym (ap (λ es. contact es (addr_of peer)) t.journal ∙ contact_told n.journal s peer (change_entries peer a.changes) (heard_changes n n' s.inside peer a) ∙ contact_goes peer (contact n.journal (addr_of peer)) a.changes
        ∙ ap (λ z. fold contact_by z a.changes) before ∙ contact_by_story (contact_between x) a.changes a.story a.story_is) ∙ is

    greeted : GreetsWhere (begins (contact_changes a.story)) n.sockets.live a.greeting
    greeted = subst (λ b. GreetsWhere b n.sockets.live a.greeting) (begins_by_story a.changes a.story a.story_is) a.greets

    apart : (node_word peer == n.own) ≡ false
    apart = ap (λ o. node_word peer == o) (sym t.own) ∙ other_than n' peer numbers h' is

    -- the pair shows the numbers of the contact
    at_last : (story : Story) → a.story ≡ story → c ≡ numbers → IsGreeted n peer c a.greeting (fold after_entry n.sockets (change_entries peer (contact_changes story))) → SharesAt n' peer numbers
    at_last story same shown g =
        let sockets = changed_sockets n.sockets peer a.changes ∙ ap (λ cs. fold after_entry n.sockets (change_entries peer cs)) (a.story_is ∙ ap contact_changes same) in
        subst (SharesAt n' peer) shown (heard_shares n n' bytes s frames peer h t a (subst (IsGreeted n peer c a.greeting) (sym sockets) g))

    by : (story : Story) → a.story ≡ story → Means x a.after story → GreetsWhere (begins (contact_changes story)) n.sockets.live a.greeting → fold contact_by (contact_between x) (contact_changes story) ≡ Some numbers → SharesAt n' peer numbers
    by stays same means greets some =
        let was = shown_by x numbers some in
        let shown : c ≡ numbers = ap (λ k. (k, a.after.seen)) means.1 ∙ ap (λ k. (x.contact, k)) (means.2 was.0) ∙ was.1 in
        at_last stays same shown (greeted_stay n peer c a.greeting shares (before ∙ some ∙ ap Some (sym shown)) greets)
    by (began fresh) same means greets some =
        let here : fresh ≡ numbers = cc in
        at_last (began fresh) same (sym means.2 ∙ here) (greeted_anew n peer c a.greeting a.neighbour h shares a.was means.0 means.3 apart greets)
    by (ended gone states shown) same means greets some = absurd (let wrong : ◌≡◌ {A = Option (ℕ × ℕ)} None (Some numbers) = some in cc)

-- ---- an arrival

-- the step has these entries, whatever is noted of the call
same_inside : (journal : List Entry) (by : By) (note other : EventNote) (xs ys : List Entry) (a b : Answer) → journal ++ step_entries (step_of by note xs a) ≡ journal ++ step_entries (step_of by other ys b) → xs ≡ ys
same_inside journal by note other xs ys a b is =
    let one = append_cancel_left journal (step_entries (step_of by note xs a)) (step_entries (step_of by other ys b)) is in
    let two : xs ++ entry.Answered by.caller by.call a ∷ [] ≡ ys ++ entry.Answered by.caller by.call b ∷ [] = cc in
    (same_from_push xs ys (entry.Answered by.caller by.call a) (entry.Answered by.caller by.call b) two).0

-- no entry publishes or withdraws
arrival_own : (n n' : NodeState) (bytes : List ℕ) (s : NodeStep) (frames : List Outgoing) → SharesNames n → NodeTurn n n' bytes s frames → list_all keeps_live s.inside ≡ true → AreOwn n'.own (live n'.journal)
arrival_own n n' bytes s frames shares t all =
    subst (λ o. AreOwn o (live n'.journal)) (sym t.own) (subst (AreOwn n.own) (sym (live_then n.journal n'.journal s t.journal ∙ same_live (live n.journal) s.inside all)) shares.own_names)

hears_shares : (n n' : NodeState) (by : By) (bearer number : ℕ) (bytes : List ℕ) (frames : List Outgoing) (answered : Arrival) → IsTold n → IsTold n' → SharesNames n → Hears n n' by bearer number bytes frames answered → (inside : List Entry)
    → NodeTurn n n' bytes (step_of by (Arrive bearer number) inside (answer.Arrived answered)) frames → SharesNames n'
hears_shares n n' by bearer number bytes frames answered h h' shares hears inside t = shares_from n n' bytes s frames h shares t (arrival_own n n' bytes s frames shares t lives) at
  where
    s : NodeStep
    s = step_of by (Arrive bearer number) inside (answer.Arrived answered)

    peer : ℕ
    peer = hears.peer

    same : hears.work.inside ≡ inside
    same = same_inside n.journal by (Arrive bearer number) (Arrive bearer number) hears.work.inside inside (answer.Arrived answered) (answer.Arrived answered) (sym (ap (λ (k : NodeState). k.journal) hears.after) ∙ t.journal)

    heard : IsHeardAt n n' inside peer
    heard = subst (λ es. IsHeardAt n n' es peer) same (heard_at n n' by bearer number bytes frames answered h hears)

    lives : list_all keeps_live inside ≡ true
    lives = all_from (is_arrival_of peer) keeps_live (no_naming peer) inside (all_of_arrival n n' inside peer heard)

    at : (b : ℕ) (numbers : ℕ × ℕ) → contact n'.journal (addr_of b) ≡ Some numbers → SharesAt n' b numbers
    at b numbers is = elim (cases_eq peer b) [
      | inl here ↦ subst (λ k. SharesAt n' k numbers) here (peer_at n n' bytes s frames peer numbers h h' shares t heard (ap (λ k. contact n'.journal (addr_of k)) here ∙ is))
      | inr apart ↦ passed_at n n' bytes s frames b numbers h h' shares t (arrival_passes b peer inside apart (all_of_arrival n n' inside peer heard)) is
    ]

-- a broadcast packet, by which no names change
cast_passes : (b : ℕ) (es : List Entry) → list_all is_of_cast es ≡ true → PassesBy b es
cast_passes b es all = record {
  changes = filter_apart is_of_cast (is_change_of b) (cast_changes b) es all;
  none_delivered = filter_apart is_of_cast (is_delivered_from b) (cast_elsewhere b) es all;
  beside = all_from is_of_cast (is_beside b) (cast_beside b) es all;
  plain = all_from is_of_cast (is_plain_for b) (cast_plain_for b) es all;
  lives = all_from is_of_cast keeps_live cast_lives es all;
}

casts_shares : (n n' : NodeState) (by : By) (bearer number : ℕ) (bytes : List ℕ) (frames : List Outgoing) (answered : Arrival) → IsTold n → IsTold n' → SharesNames n → HearsCast n n' by bearer number bytes frames answered → (inside : List Entry)
    → NodeTurn n n' bytes (step_of by (Arrive bearer number) inside (answer.Arrived answered)) frames → SharesNames n'
casts_shares n n' by bearer number bytes frames answered h h' shares cast inside t =
    shares_from n n' bytes s frames h shares t (arrival_own n n' bytes s frames shares t (all_from is_of_cast keeps_live cast_lives inside all)) (λ b numbers is. passed_at n n' bytes s frames b numbers h h' shares t (cast_passes b inside all) is)
  where
    s : NodeStep
    s = step_of by (Arrive bearer number) inside (answer.Arrived answered)

    same : cast.work.inside ≡ inside
    same = same_inside n.journal by (Arrive bearer number) (Arrive bearer number) cast.work.inside inside (answer.Arrived answered) (answer.Arrived answered) (sym (ap (λ (k : NodeState). k.journal) cast.after) ∙ t.journal)

    adds : AddsOf is_of_cast (cast_work n cast.peer cast.neighbour cast.joining) cast.work
    adds = casts_add n.own cast.peer (shown_contact cast.neighbour.pair) (opened_in cast.given) (cast_work n cast.peer cast.neighbour cast.joining) cast.work cast.returned cast.delivers

    all : list_all is_of_cast inside ≡ true
    all = ap (list_all is_of_cast) (sym same ∙ adds.inside) ∙ adds.all

-- an arrival by which nothing is noted
quiet_shares : (n n' : NodeState) (by : By) (bearer number : ℕ) (bytes : List ℕ) (frames : List Outgoing) (answered : Arrival) → IsTold n → IsTold n' → SharesNames n → (inside : List Entry)
    → NodeTurn n n' bytes (step_of by (Arrive bearer number) inside (answer.Arrived answered)) frames → inside ≡ [] → SharesNames n'
quiet_shares n n' by bearer number bytes frames answered h h' shares inside t none =
    let s = step_of by (Arrive bearer number) inside (answer.Arrived answered) in
    shares_from n n' bytes s frames h shares t (arrival_own n n' bytes s frames shares t (ap (list_all keeps_live) none))
    (λ b numbers is. passed_at n n' bytes s frames b numbers h h' shares t (subst (PassesBy b) (sym none) (nothing_passes b)) is)

pub arrives_shares : (n n' : NodeState) (by : By) (bearer number : ℕ) (bytes : List ℕ) (frames : List Outgoing) (answered : Arrival) → IsTold n → SharesNames n → Arrives n n' by bearer number bytes frames answered → (inside : List Entry)
    → NodeTurn n n' bytes (step_of by (Arrive bearer number) inside (answer.Arrived answered)) frames → IsTold n' → SharesNames n'
arrives_shares n n' by bearer number bytes frames answered h shares arrives inside t h' =
    by_arrival (SharesNames n') n n' by bearer number bytes frames answered arrives
    (λ reason after none is. quiet (answer.Arrived (arrival.Ignored reason)) (ap (λ (k : NodeState). k.journal) after))
    (λ passes heard. hears_shares n n' by bearer number bytes frames answered h h' shares heard inside t)
    (λ found. quiet (answer.Arrived (arrival.Took 0)) (ap (λ (k : NodeState). k.journal) found.after ∙ ap (λ es. es ++ step_entries (step_of by (Arrive bearer number) [] (answer.Arrived (arrival.Took 0)))) (discovered_same n found.peer bearer).0))
    (λ cast. casts_shares n n' by bearer number bytes frames answered h h' shares cast inside t)
  where
    -- nothing is inside the step
    quiet : (a : Answer) → n'.journal ≡ n.journal ++ step_entries (step_of by (Arrive bearer number) [] a) → SharesNames n'
    quiet a is =
        quiet_shares n n' by bearer number bytes frames answered h h' shares inside t
        (same_inside n.journal by (Arrive bearer number) (Arrive bearer number) inside [] (answer.Arrived answered) a (sym t.journal ∙ is))
