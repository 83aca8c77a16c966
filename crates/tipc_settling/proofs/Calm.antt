-- An arrival that tells nothing of links and contact adds nothing to what is under way, by any count of send windows.
use Rattle.std.specs.Prelude.{cond, count_by, slice_index_or, sum_by, ◌-◌, if◌then◌else◌, false}
use Rattle.std.proofs.Common.{◌≡◌, ◌≤◌, ◌<◌, ◌∙◌, ◌+◌, ℕ, suc, true, List, [], ◌∷◌, ◌++◌, Option, Some, None, length, refl, sym, ap, subst, arith, append_assoc, append-nil}
use Rattle.std.proofs.lemmas.List.Sums.{sum_by-append, sum_by-cons}
use Rattle.tipc_types.specs.declared.link_words.BroadcastState.{BroadcastState}
use Rattle.tipc_types.specs.declared.link_words.Why.{Why}
use Rattle.tipc_types.specs.declared.message_forms.Flow.TheVariants.{Broadcast, Zero}
use Rattle.tipc_types.specs.declared.message_forms.Message.{Message}
use Rattle.tipc_types.specs.declared.node_calls.Answer.{Answer}
use Rattle.tipc_types.specs.declared.node_calls.Answer.TheVariants as answer
use Rattle.tipc_types.specs.declared.node_calls.Arrival.{Arrival}
use Rattle.tipc_types.specs.declared.node_calls.By.{By}
use Rattle.tipc_types.specs.declared.node_calls.EventNote.{EventNote}
use Rattle.tipc_types.specs.declared.node_calls.EventNote.TheVariants.{Arrive}
use Rattle.tipc_types.specs.declared.services.Publication.{Publication}
use Rattle.tipc_types.specs.Address.{node_word}
use Rattle.tipc_types.specs.LinkStates.{is_up}
use Rattle.tipc_outside.specs.declared.outgoing.Outgoing.{Outgoing}
use Rattle.tipc_header.specs.declared.frames.FrameKind.{FrameKind}
use Rattle.tipc_header.specs.declared.frames.FrameKind.TheVariants.{Casts, Finds, Links}
use Rattle.tipc_header.specs.Frames.{kind_in}
use Rattle.tipc_journal.specs.declared.entries.Entry.{Entry}
use Rattle.tipc_journal.specs.declared.entries.Entry.TheVariants as entry
use Rattle.tipc_journal.specs.Steps.{step_entries}
use Rattle.tipc_recv_window.specs.declared.outcomes.LinkOutcome.{LinkOutcome}
use Rattle.tipc_send_window.specs.Sending.{Sending, acked_of, room}
use Rattle.tipc_broadcast.specs.Contacts.{acked_by_all}
use Rattle.tipc_broadcast.specs.Casting.{Casting, credited, flushed, informed, settled, shown, stating}
use Rattle.tipc_broadcast.specs.Deeds.{after_deeds}
use Rattle.tipc_link.specs.Links.{LinkEnd}
use Rattle.tipc_link.specs.Sessions.{SessionEnd}
use Rattle.tipc_pair.specs.declared.transitions.Transition.{Transition}
use Rattle.tipc_pair.specs.declared.transitions.Transition.TheVariants.{ContactDown, ContactUp, LinkDown, LinkUp}
use Rattle.tipc_pair.specs.Contacts.{begins}
use Rattle.tipc_pair.specs.Facing.{PairEnds, facing}
use Rattle.tipc_pair.specs.PairCalls.{load_in, load_of}
use Rattle.tipc_pair.specs.Messages.{opened_in}
use Rattle.tipc_node.specs.declared.neighbours.Neighbour.{Neighbour}
use Rattle.tipc_node.specs.Arrivals.{Arrives, Greets, GreetsWhere, Hears, answered_work, asks_peer, heard_casting, heard_work, last_neighbour}
use Rattle.tipc_node.specs.Calls.{CallTurn}
use Rattle.tipc_node.specs.CastArrivals.{HearsCast, cast_answering, cast_work, taken_packets}
use Rattle.tipc_node.specs.Casting.{arrival_deeds, state_deeds, stated_in}
use Rattle.tipc_node.specs.Discovery.{discovered_node, found_neighbour, found_node, has_found}
use Rattle.tipc_node.specs.Neighbours.{heard_neighbour, with_casts, with_pair}
use Rattle.tipc_node.specs.Nodes.{NodeState, acquaintance, change_entries, change_entry, is_change, load_all, load_on, neighbour_of, pair_with, recorded, shown_contact, step_of, stop_of}
use Rattle.tipc_node.specs.Telling.{IsTold}
use Rattle.tipc_node.specs.Works.{PutsEach, Work}
use Rattle.tipc_node.specs.Works.PutsEach.{none_left, one_more}
use Rattle.tipc_node.proofs.pairs.Strangers.{kept_abreast, pair_there}
use Rattle.tipc_pair.proofs.acts.Walks.{tested}
use Rattle.tipc_settling.specs.Loads.{AddsNoneTo, AddsNothing, IsCalm, PutsNothing, accepts_weight, accepted_weight, delivers_weight, delivered_weight, link_sum, node_packets, node_sum, pair_sum, peer_sum, put_into, session_sum, end_sum, under_way}
use Rattle.tipc_settling.proofs.Packets.{CountsPackets, answer_adds, bearer_sums, heard_adds, made_adds, put_into_counts, room_within, under_way_counts}
use Rattle.tipc_settling.proofs.Working.{all_under, deliveries_tell, set_at, set_sum}

-- ---- the packets of a node

-- a pair that a node keeps is seen from bearer 0
pub seen_first : (n : NodeState) (b : ℕ) (x : Neighbour) → IsTold n → neighbour_of n b ≡ Some x → x.pair.bearer ≤ 1
seen_first n b x told is = (let first = ap (λ (y : PairEnds). y.bearer) (sym (pair_there n b x is)) ∙ (kept_abreast n b told).first in omega (arith, first))

-- so is each in a list
abbrev pub AreSeen : List (Option Neighbour) → Type 0
AreSeen xs = (k : ℕ) (x : Neighbour) → slice_index_or xs k None ≡ Some x → x.pair.bearer ≤ 1

-- what a link end's load is
session_load : (session : Option SessionEnd) → (load_in session).0 + (load_in session).1 ≡ session_sum under_way session
session_load None = refl
session_load (Some s) = refl

load_sum : (end : Option LinkEnd) → (load_of end).0 + (load_of end).1 ≡ end_sum under_way end
load_sum None = refl
load_sum (Some e) = elim (is_up e.fsm.state) as (λ b. (if b then load_in e.session else (0, 0)).0 + (if b then load_in e.session else (0, 0)).1 ≡ (if b then session_sum under_way e.session else 0)) [
  | true ↦ session_load e.session
  | false ↦ refl
]

one_place : (o : Option Neighbour) → ((x : Neighbour) → o ≡ Some x → x.pair.bearer ≤ 1) → ((load_on 0 o).0 + (load_on 1 o).0) + ((load_on 0 o).1 + (load_on 1 o).1) ≡ peer_sum under_way o
one_place None seen = refl
one_place (Some x) seen = (
    let both = bearer_sums under_way under_way_counts x.pair (seen x refl) in
    let first = load_sum (facing 0 x.pair).near in
    let second = load_sum (facing 1 x.pair).near in
    omega (arith, both, first, second))

all_places : (xs : List (Option Neighbour)) → AreSeen xs
    → sum_by (λ x. (load_on 0 x).0 + (load_on 1 x).0) xs + sum_by (λ x. (load_on 0 x).1 + (load_on 1 x).1) xs ≡ sum_by (peer_sum under_way) xs
all_places [] seen = refl
all_places (o ∷ xs) seen =
    let first = one_place o (seen 0) in
    let others = all_places xs (λ k. seen (suc k)) in
    let unacked = sum_by-cons (λ x. (load_on 0 x).0 + (load_on 1 x).0) o xs in
    let waiting = sum_by-cons (λ x. (load_on 0 x).1 + (load_on 1 x).1) o xs in
    let all = sum_by-cons (peer_sum under_way) o xs in
    omega (arith, first, others, unacked, waiting, all)

links_load : (xs : List (Option Neighbour)) → AreSeen xs → (load_all xs).0 + (load_all xs).1 ≡ link_sum under_way xs
unfolding load_all link_sum
links_load xs seen = all_places xs seen

pub packets_by_part : (n : NodeState) → IsTold n → node_packets n ≡ link_sum under_way n.neighbours + under_way n.casting.sending
packets_by_part n told = (let links = links_load n.neighbours (λ k x is. seen_first n k x told is) in omega (arith, links))

-- ---- the journal

-- what a step adds to a sum over the journal
step_sum : (f : Entry → ℕ) (journal : List Entry) (by : By) (event : EventNote) (inside : List Entry) (answered : Answer)
    → sum_by f (step_entries (step_of by event inside answered)) ≡ sum_by f inside → sum_by f (journal ++ step_entries (step_of by event inside answered)) ≡ sum_by f journal + sum_by f inside
step_sum f journal by event inside answered same = sum_by-append f journal (step_entries (step_of by event inside answered)) ∙ ap (λ k. sum_by f journal + k) same

-- its first and its last entry add nothing
around : (f : Entry → ℕ) (first last : Entry) (inside : List Entry) → f first ≡ 0 → f last ≡ 0 → sum_by f (first ∷ (inside ++ last ∷ [])) ≡ sum_by f inside
around f first last inside begin end =
    let front = sum_by-cons f first (inside ++ last ∷ []) in
    let all = sum_by-append f inside (last ∷ []) in
    omega (arith, front, all, begin, end)

-- a calm step tells nothing of links and contacts inside
pub calm_inside : (n n' : NodeState) (by : By) (event : EventNote) (inside : List Entry) (answered : Answer) → n'.journal ≡ n.journal ++ step_entries (step_of by event inside answered) → IsCalm n n' → count_by is_change inside ≡ 0
calm_inside n n' by event inside answered grew calm =
    let f : Entry → ℕ = λ e. cond (is_change e) 1 0 in
    let all = ap (sum_by f) grew ∙ step_sum f n.journal by event inside answered (around f (entry.Step by event) (entry.Answered by.caller by.call answered) inside refl refl) in
    omega (arith, all, calm)

-- ---- nothing is told

told_change : (peer : ℕ) (t : Transition) → is_change (change_entry peer t) ≡ true
told_change peer (LinkUp bearer own theirs) = refl
told_change peer (LinkDown bearer cause shown) = refl
told_change peer (ContactUp contact) = refl
told_change peer (ContactDown contact states shown) = refl

pub no_changes : (peer : ℕ) (changes : List Transition) (more : List Entry) → count_by is_change (change_entries peer changes ++ more) ≡ 0 → changes ≡ []
no_changes peer [] more none = refl
no_changes peer (t ∷ ts) more none =
    let f : Entry → ℕ = λ e. cond (is_change e) 1 0 in
    let first : f (change_entry peer t) ≡ 1 = ap (λ b. cond b 1 0) (told_change peer t) in
    let all = sum_by-cons f (change_entry peer t) (change_entries peer ts ++ more) in
    absurd (omega (arith, none, first, all))

-- what is put only adds entries
each_grows : (own peer : ℕ) (w w' : Work) (ms : List Message) (frames : List Outgoing) → PutsEach own peer w ms w' frames → (more : List Entry) × (w'.inside ≡ w.inside ++ more)
each_grows own peer w _ _ _ (none_left _) = ([], sym (append-nil w.inside))
each_grows own peer w w' _ _ (one_more _ between _ m ms first rest one all) =
    let others = each_grows own peer between w' ms rest all in
    let grew = ap (λ (v : Work). v.inside) one.after in
    (_, others.1 ∙ (ap (λ es. es ++ others.0) grew ∙ append_assoc w.inside (_ ∷ []) others.0))

none_put : (own peer : ℕ) (w w' : Work) (ms : List Message) (frames : List Outgoing) → PutsEach own peer w ms w' frames → ms ≡ [] → w' ≡ w
none_put own peer w _ _ _ (none_left _) none = refl
none_put own peer w w' _ _ (one_more _ between _ m ms first rest one all) none = absurd (let wrong : m ∷ ms ≡ [] = none in cc)

-- ---- a link packet

greets_none : (live : List Publication) (changes : List Transition) (ms : List Message) → changes ≡ [] → Greets live changes ms → ms ≡ []
greets_none live changes ms none greets = subst (λ cs. GreetsWhere (begins cs) live ms) none greets

-- what was heard in a calm arrival told nothing, and nobody was greeted
pub heard_none : (n n' : NodeState) (by : By) (bearer number : ℕ) (bytes : List ℕ) (frames : List Outgoing) (answered : Arrival) (h : Hears n n' by bearer number bytes frames answered) → IsCalm n n'
    → (h.out.course.changes ≡ []) × (h.greeted ≡ heard_work n h.peer h.neighbour h.out)
heard_none n n' by bearer number bytes frames answered h calm =
    let x = h.neighbour in
    let o = h.out in
    let start = heard_work n h.peer x o in
    let grew : n'.journal ≡ n.journal ++ step_entries (step_of by (Arrive bearer number) h.work.inside (answer.Arrived answered)) = ap (λ (m : NodeState). m.journal) h.after in
    let all = all_under under_way under_way_counts n.own h.peer h.greeted h.work _ h.returned (deliveries_tell Zero h.peer (shown_contact x.pair) (opened_in o.given)) h.delivers in
    let greeting = each_grows n.own h.peer start h.greeted h.greeting h.greeting_frames h.greeting_put in
    let behind : h.work.inside ≡ change_entries h.peer o.course.changes ++ (greeting.0 ++ all.more) =
    all.grows ∙ (ap (λ es. es ++ all.more) greeting.1 ∙ append_assoc (change_entries h.peer o.course.changes) greeting.0 all.more) in
    let none = no_changes h.peer o.course.changes (greeting.0 ++ all.more) (ap (count_by is_change) (sym behind) ∙ calm_inside n n' by (Arrive bearer number) h.work.inside (answer.Arrived answered) grew calm) in
    (none, none_put n.own h.peer start h.greeted h.greeting h.greeting_frames h.greeting_put (greets_none n.sockets.live o.course.changes h.greeting none h.greets))

-- ---- a discovery packet, and a frame that is stopped

found_casting : (n : NodeState) (peer bearer : ℕ) → (discovered_node n peer bearer).casting ≡ n.casting
found_casting n peer bearer = tested (λ (m : NodeState). m.casting ≡ n.casting) (has_found n bearer peer) n (found_node n peer bearer) (λ _. refl) (λ _. refl)

found_journal : (n : NodeState) (peer bearer : ℕ) → (discovered_node n peer bearer).journal ≡ n.journal
found_journal n peer bearer = tested (λ (m : NodeState). m.journal ≡ n.journal) (has_found n bearer peer) n (found_node n peer bearer) (λ _. refl) (λ _. refl)

-- ---- with any count of send windows

module _ (size : Sending → ℕ) (counts : CountsPackets size) (casts : Sending → ℕ) (cast_counts : CountsPackets casts) where
  -- ---- the journal

  pub concluded_adds : (n n' : NodeState) (by : By) (event : EventNote) (inside : List Entry) (answered : Answer) → n'.journal ≡ n.journal ++ step_entries (step_of by event inside answered)
      → node_sum size casts n' + accepted_weight inside ≤ node_sum size casts n + delivered_weight inside → AddsNoneTo size casts n n'
  concluded_adds n n' by event inside answered grew most =
      let accepted = ap (sum_by accepts_weight) grew ∙ step_sum accepts_weight n.journal by event inside answered (around accepts_weight (entry.Step by event) (entry.Answered by.caller by.call answered) inside refl refl) in
      let delivered = ap (sum_by delivers_weight) grew ∙ step_sum delivers_weight n.journal by event inside answered (around delivers_weight (entry.Step by event) (entry.Answered by.caller by.call answered) inside refl refl) in
      omega (arith, most, accepted, delivered)

  -- ---- the broadcast link

  -- a STATE that is taken releases packets, and lets others move up
  stating_fewer : (v : Casting) (peer : ℕ) (seen : BroadcastState) → casts (stating v peer seen).sending ≤ casts v.sending
  unfolding flushed settled
  stating_fewer v peer seen =
      let u = informed v peer seen.start seen.next in
      let c = credited u peer seen.acknowledged in
      let s = settled c in
      let released = cast_counts.releases c.sending (acked_by_all c.sending.numbered c.contacts - acked_of c.sending) in
      let moved = cast_counts.moves (room s.sending) s.sending (room_within s.sending) in
      tested (λ (w : Casting). casts w.sending ≤ casts v.sending) seen.in_step (flushed s) u (λ _. omega (arith, released, moved)) (λ _. omega arith)

  stated_fewer : (v : Casting) (peer : ℕ) (stated : Option BroadcastState) → casts (after_deeds (state_deeds peer stated) v).sending ≤ casts v.sending
  stated_fewer v peer None = omega arith
  stated_fewer v peer (Some seen) = stating_fewer v (node_word peer) seen

  told_fewer : (v : Casting) (peer : ℕ) (changes : List Transition) (stated : Option BroadcastState) → changes ≡ [] → casts (after_deeds (arrival_deeds peer changes stated) v).sending ≤ casts v.sending
  told_fewer v peer changes stated none = subst (λ cs. casts (after_deeds (arrival_deeds peer cs stated) v).sending ≤ casts v.sending) (sym none) (stated_fewer v peer stated)

  -- ---- a link packet

  hears_adds : (n n' : NodeState) (by : By) (bearer number : ℕ) (bytes : List ℕ) (frames : List Outgoing) (answered : Arrival) → IsTold n → IsTold n' → IsCalm n n' → Hears n n' by bearer number bytes frames answered → AddsNoneTo size casts n n'
  hears_adds n n' by bearer number bytes frames answered told told' calm h =
      let x = h.neighbour in
      let o = h.out in
      let start = heard_work n h.peer x o in
      let stated = stated_in h.packet.header o.given in
      let casting = heard_casting n h.peer h.packet o in
      let last = answered_work h.work h.peer bearer stated casting h.then in
      let grew : n'.journal ≡ n.journal ++ step_entries (step_of by (Arrive bearer number) h.work.inside (answer.Arrived answered)) = ap (λ (m : NodeState). m.journal) h.after in
      let all = all_under size counts n.own h.peer h.greeted h.work _ h.returned (deliveries_tell Zero h.peer (shown_contact x.pair) (opened_in o.given)) h.delivers in
      let calmly = heard_none n n' by bearer number bytes frames answered h calm in
      let none = calmly.0 in
      let same = calmly.1 in
      let inside : h.work.inside ≡ all.more = all.grows ∙ (ap (λ (w : Work). w.inside ++ all.more) same ∙ ap (λ cs. change_entries h.peer cs ++ all.more) none) in
      let first = set_sum size counts n.neighbours h.peer x (heard_neighbour x o) 0 h.was (let fewer = heard_adds size counts x.pair bearer h.first h.second h.packet number _ o (seen_first n h.peer x told h.was) h.hears none in omega (arith, fewer)) in
      let between = ap (λ (w : Work). link_sum size w.neighbours) same in
      let adds = all.adds in
      let final = set_sum size counts h.work.neighbours h.peer h.then (last_neighbour h.peer bearer stated casting h.then) 0 h.then_is
      (let fewer = answer_adds size counts bearer 0 (asks_peer h.peer stated casting) (shown casting (node_word h.peer)) h.then.pair in omega (arith, fewer)) in
      let neighbours = ap (λ (m : NodeState). link_sum size m.neighbours) h.after in
      let sending = ap (λ (m : NodeState). casts m.casting.sending) h.after in
      let casts = told_fewer n.casting h.peer o.course.changes stated none in
      let accepted = ap accepted_weight inside in
      let delivered = ap delivered_weight inside in
      concluded_adds n n' by (Arrive bearer number) h.work.inside (answer.Arrived answered) grew
      (omega (arith, first, between, adds, final, neighbours, sending, casts, accepted, delivered))

  -- ---- a broadcast packet

  answering_fewer : (o : LinkOutcome) (bearer word : ℕ) (v : Casting) (x : Neighbour) → pair_sum size (cast_answering o bearer word v x).pair ≤ pair_sum size x.pair
  answering_fewer (LinkOutcome.Ignored reason) bearer word v x = omega arith
  answering_fewer (LinkOutcome.Took taken) bearer word v x = answer_adds size counts bearer (taken_packets (LinkOutcome.Took taken)) _ _ x.pair
  answering_fewer LinkOutcome.Deferred bearer word v x = answer_adds size counts bearer 0 _ _ x.pair

  casts_adds : (n n' : NodeState) (by : By) (bearer number : ℕ) (bytes : List ℕ) (frames : List Outgoing) (answered : Arrival) → IsTold n → IsTold n' → HearsCast n n' by bearer number bytes frames answered → AddsNoneTo size casts n n'
  casts_adds n n' by bearer number bytes frames answered told told' h =
      let x = h.neighbour in
      let start = cast_work n h.peer x h.joining in
      let grew : n'.journal ≡ n.journal ++ step_entries (step_of by (Arrive bearer number) h.work.inside (answer.Arrived answered)) = ap (λ (m : NodeState). m.journal) h.after in
      let all = all_under size counts n.own h.peer start h.work _ h.returned (deliveries_tell Broadcast h.peer (shown_contact x.pair) (opened_in h.given)) h.delivers in
      let first = set_sum size counts n.neighbours h.peer x (with_casts x h.joining) 0 h.was (omega arith) in
      let adds = all.adds in
      let final = set_sum size counts h.work.neighbours h.peer h.then (with_pair h.then (cast_answering h.outcome bearer (node_word h.peer) h.casting h.then).pair) 0 h.then_is
      (let fewer = answering_fewer h.outcome bearer (node_word h.peer) h.casting h.then in omega (arith, fewer)) in
      let neighbours = ap (λ (m : NodeState). link_sum size m.neighbours) h.after in
      let sending = ap (λ (m : NodeState). casts m.casting.sending) h.after in
      let casting = ap (λ (v : Casting). casts v.sending) h.casting_is in
      let accepted = ap accepted_weight all.grows in
      let delivered = ap delivered_weight all.grows in
      concluded_adds n n' by (Arrive bearer number) h.work.inside (answer.Arrived answered) grew
      (omega (arith, first, adds, final, neighbours, sending, casting, accepted, delivered))

  -- ---- a discovery packet, and a frame that is stopped

  kept_sum : (n : NodeState) (b : ℕ) (o : Option Neighbour) → pair_sum size (acquaintance n b o).pair ≡ peer_sum size o
  kept_sum n b None = refl
  kept_sum n b (Some x) = refl

  found_fewer : (n : NodeState) (peer bearer : ℕ) → IsTold n → peer < length n.neighbours → link_sum size (discovered_node n peer bearer).neighbours ≤ link_sum size n.neighbours
  found_fewer n peer bearer told within =
      let two = (kept_abreast n peer told).first in
      let made = made_adds size counts (pair_with n peer) bearer (omega (arith, two)) in
      let there = kept_sum n peer (neighbour_of n peer) in
      let set = set_at size counts n.neighbours peer (found_neighbour n peer bearer) 0 within (omega (arith, made, there)) in
      tested (λ (m : NodeState). link_sum size m.neighbours ≤ link_sum size n.neighbours) (has_found n bearer peer) n (found_node n peer bearer) (λ _. omega arith) (λ _. omega (arith, set))

  -- a step with nothing inside, behind which the node has no more packets
  quiet_adds : (n m n' : NodeState) (by : By) (event : EventNote) (answered : Answer) → IsTold n → IsTold n' → n' ≡ recorded m by event [] answered → m.journal ≡ n.journal → m.casting ≡ n.casting
      → link_sum size m.neighbours ≤ link_sum size n.neighbours → AddsNoneTo size casts n n'
  quiet_adds n m n' by event answered told told' is journal casting fewer =
      let grew = ap (λ (k : NodeState). k.journal) is ∙ ap (λ es. es ++ step_entries (step_of by event [] answered)) journal in
      let neighbours = ap (λ (k : NodeState). link_sum size k.neighbours) is in
      let sending = ap (λ (k : NodeState). casts k.casting.sending) is ∙ ap (λ (v : Casting). casts v.sending) casting in
      concluded_adds n n' by event [] answered grew (omega (arith, neighbours, sending, fewer))

  -- ---- any frame

  pub arrival_adds : (n n' : NodeState) (by : By) (bearer number : ℕ) (bytes : List ℕ) (frames : List Outgoing) (answered : Arrival) → Arrives n n' by bearer number bytes frames answered
      → CallTurn n n' by (Arrive bearer number) bytes (answer.Arrived answered) frames → IsCalm n n' → AddsNoneTo size casts n n'
  arrival_adds n n' by bearer number bytes frames answered h turn calm = stopped (stop_of n bearer bytes) refl
    where
      of_kind : (k : FrameKind) → kind_in bytes ≡ k → stop_of n bearer bytes ≡ None → AddsNoneTo size casts n n'
      of_kind Links kind none = hears_adds n n' by bearer number bytes frames answered turn.told_before turn.told calm (h.heard none kind)
      of_kind Casts kind none = casts_adds n n' by bearer number bytes frames answered turn.told_before turn.told (h.cast none kind)
      of_kind Finds kind none =
          let d = h.discovered none kind in
          quiet_adds n (discovered_node n d.peer bearer) n' by (Arrive bearer number) (answer.Arrived _) turn.told_before turn.told d.after (found_journal n d.peer bearer) (found_casting n d.peer bearer)
          (found_fewer n d.peer bearer turn.told_before d.within)

      stopped : (o : Option Why) → stop_of n bearer bytes ≡ o → AddsNoneTo size casts n n'
      stopped (Some reason) is = quiet_adds n n n' by (Arrive bearer number) (answer.Arrived _) turn.told_before turn.told (h.stopped reason is).0 refl refl (omega arith)
      stopped None is = of_kind (kind_in bytes) refl is

-- ---- what is under way, and what was ever put

-- what grew by no more by parts didn't by the load
pub by_loads : (n n' : NodeState) → IsTold n → IsTold n' → AddsNoneTo under_way under_way n n' → AddsNothing n n'
by_loads n n' told told' adds =
    let before = packets_by_part n told in
    let after = packets_by_part n' told' in
    omega (arith, adds, before, after)

pub arrives_adds : (n n' : NodeState) (by : By) (bearer number : ℕ) (bytes : List ℕ) (frames : List Outgoing) (answered : Arrival) → Arrives n n' by bearer number bytes frames answered
    → CallTurn n n' by (Arrive bearer number) bytes (answer.Arrived answered) frames → IsCalm n n' → AddsNothing n n'
arrives_adds n n' by bearer number bytes frames answered h turn calm = by_loads n n' turn.told_before turn.told (arrival_adds under_way under_way_counts under_way under_way_counts n n' by bearer number bytes frames answered h turn calm)

pub arrives_puts : (n n' : NodeState) (by : By) (bearer number : ℕ) (bytes : List ℕ) (frames : List Outgoing) (answered : Arrival) → Arrives n n' by bearer number bytes frames answered
    → CallTurn n n' by (Arrive bearer number) bytes (answer.Arrived answered) frames → IsCalm n n' → PutsNothing n n'
arrives_puts = arrival_adds put_into put_into_counts under_way under_way_counts
