-- Each arrival is a turn of the node.
use Rattle.std.proofs.Common.{◌≡◌, ◌≢◌, ◌<◌, ◌^◌, ℕ, true, List, [], ◌∷◌, ◌++◌, Option, Some, None, drop, filter, is_some, inl, inr, refl, sym, ap, ◌∙◌, subst, append-nil, append_assoc, arith}
use Rattle.std.specs.Prelude.{slice_index_or, slice_set}
use Rattle.std.specs.List.{All, list_all}
use Rattle.std.proofs.lemmas.Bool.{cases_eq}
use Rattle.std.proofs.lemmas.List.{drop_at, get_or-set_other}
use Rattle.std.proofs.lemmas.List.Elements.{All-append, All-cons, All-head, All-nil, All-tail, filter-append}
use Rattle.tipc_types.specs.declared.message_forms.Flow.{Flow}
use Rattle.tipc_types.specs.declared.message_forms.Flow.TheVariants.{Broadcast, Zero}
use Rattle.tipc_types.specs.Address.{node_word}
use Rattle.tipc_types.specs.declared.node_calls.Answer.TheVariants as answer
use Rattle.tipc_types.specs.declared.node_calls.Arrival.{Arrival}
use Rattle.tipc_types.specs.declared.node_calls.Arrival.TheVariants as arrival
use Rattle.tipc_types.specs.declared.node_calls.By.{By}
use Rattle.tipc_types.specs.declared.node_calls.EventNote.TheVariants as event
use Rattle.tipc_outside.specs.declared.outgoing.Outgoing.{Outgoing}
use Rattle.tipc_header.specs.Frames.{envelope}
use Rattle.tipc_header.specs.Spelling.{Fields, spelling}
use Rattle.tipc_header.proofs.FrameWords.{length-envelope}
use Rattle.tipc_header.proofs.RoundTrip.{one_packet}
use Rattle.tipc_types.specs.declared.link_words.BroadcastState.{BroadcastState}
use Rattle.tipc_broadcast.specs.Casting.{shown}
use Rattle.tipc_broadcast.specs.Contacts.{has_joined}
use Rattle.tipc_broadcast.specs.Deeds.{AreLawful, CastDeed, deeds_frames, sends_nothing}
use Rattle.tipc_broadcast.specs.Pieces.{IsOfBroadcast}
use Rattle.tipc_broadcast.proofs.Deeds.{deeds_small}
use Rattle.tipc_journal.specs.declared.entries.Entry.{Entry}
use Rattle.tipc_journal.specs.Steps.{IsInside, NodeStep}
use Rattle.tipc_pair.specs.declared.changes.PairOutcome.{PairOutcome}
use Rattle.tipc_pair.specs.declared.transitions.Transition.{Transition}
use Rattle.tipc_pair.specs.Courses.{sent_in}
use Rattle.tipc_pair.specs.Facing.{in_contact}
use Rattle.tipc_pair.specs.LinkReadings.{AreAbreast}
use Rattle.tipc_pair.specs.Messages.{opened_in}
use Rattle.tipc_pair.specs.PairTurns.Opening.{hears}
use Rattle.tipc_node.specs.declared.frames.Delivery.{Delivery}
use Rattle.tipc_node.specs.declared.neighbours.Neighbour.{Neighbour}
use Rattle.tipc_node.specs.Arrivals.{Arrives, Hears, asks_peer, heard_casting, heard_deeds, heard_work, last_course, last_neighbour}
use Rattle.tipc_node.specs.Casting.{CanBeTold, contact_deeds, state_deeds, stated_in}
use Rattle.tipc_node.specs.Discovery.{AreFound}
use Rattle.tipc_node.specs.Neighbours.{casts_after, heard_neighbour}
use Rattle.tipc_node.specs.Nodes.{NodeState, arrival_answer, arrival_deliveries, change_entries, entries_in, is_met, kept, neighbour_of, shown_contact, step_of, stopped_node}
use Rattle.tipc_node.specs.Telling.{IsTold}
use Rattle.tipc_node.specs.Turns.HearsCasts.{hears_none}
use Rattle.tipc_node.specs.Turns.CastDoing.{meets}
use Rattle.tipc_node.specs.Turns.{AreCast, AreNamed, CastTurn, HaveJoined, IsFrom, IsPlaced, IsRouted, IsTakenIn, NodeTurn, PeerTurn, casts_in, frames_to, is_accepted_in, is_cast_for, is_cast_from, is_change_of, is_delivered_from, is_delivered_in, is_out_to}
use Rattle.tipc_pair.specs.PairTurns.{IsTakenBy, Outset}
use Rattle.tipc_pair.specs.Addressed.{Names}
use Rattle.tipc_node.specs.Works.{begun}
use Rattle.tipc_pair.proofs.turns.Addressing.{AreFor}
use Rattle.tipc_pair.proofs.turns.PairEvents.{happened_so}
use Rattle.tipc_node.proofs.turns.CastArrivals.{cast_turn}
use Rattle.tipc_node.proofs.turns.CastFrames.{casts_all, casts_both, casts_to_none, deeds_cast, links_uncast}
use Rattle.tipc_node.proofs.turns.Discovering.{discovers_turn}
use Rattle.tipc_node.proofs.turns.Entries.{casts_routed, changes_accept, changes_deliver, changes_inside, changes_other, changes_own, changes_placed, given_elsewhere, given_in, given_other, given_own, inside_both, routed_to}
use Rattle.tipc_node.proofs.turns.Lawful.{abreast_on, arrival_lawful, arrival_other, arrival_own, arrival_unheard}
use Rattle.tipc_node.proofs.turns.MessageRuns.{delivers_all_run, idle_run}
use Rattle.tipc_node.proofs.turns.Named.{IsNamed, first_named, replied_named}
use Rattle.tipc_node.proofs.pairs.Strangers.{kept_abreast, named_there, pair_there}
use Rattle.tipc_node.proofs.Places.{set_none, set_there}
use Rattle.tipc_node.proofs.work.Arriving.{by_arrival}
use Rattle.tipc_node.proofs.journal.PeersTold.{puts_each_run}
use Rattle.tipc_node.proofs.turns.Runs.{IsRun, RunAt, Runs, accepted_now, both_parts, run_then, stand_set}
use Rattle.tipc_node.proofs.turns.Shares.{frames_to-other, frames_to-own}
use Rattle.tipc_node.proofs.turns.Turning.{IsTurn, NeighbourTurn, cast_rests, casts_there, named_stand, node_turn, rests_turn, run_turn, shows_link, turn_as}
use Rattle.tipc_node.proofs.work.Casting.{change_fits, contacts_silent, joined_then, joined_there, silent_both, state_silent}
use Rattle.tipc_node.proofs.work.Neighbouring.{state_met}

-- ---- what a frame brings

-- a frame brings one packet, and so names one sender
one_sender : (b peer es er es' er' : ℕ) (bytes : List ℕ) (p q : Fields) → IsFrom b bytes es er p → IsFrom peer bytes es' er' q → peer ≡ b
one_sender b peer es er es' er' bytes p q from due =
    let same = sym from.frame_is ∙ due.frame_is in
    let packets : p ≡ q = one_packet p q from.fits due.fits (sym (drop_at (envelope es er) (spelling p) 16 (length-envelope es er)) ∙ ap (drop 16) same ∙ drop_at (envelope es' er') (spelling q) 16 (length-envelope es' er')) in
    let words : node_word peer ≡ node_word b = sym due.previous ∙ ap (λ (f : Fields). f.previous) (sym packets) ∙ from.previous in
    omega (arith, words)

-- what was given was taken
given_taken : (bearer es er : ℕ) (p : Fields) (by : ℕ) (shown : BroadcastState) (out : PairOutcome) (ds : List Delivery) → IsTakenIn (arrival_answer out ds) → IsTakenBy (hears bearer es er p by shown) out
given_taken bearer es er p by shown (PairOutcome.Took opened) ds taken = tt
given_taken bearer es er p by shown PairOutcome.Deferred ds taken = tt
given_taken bearer es er p by shown (PairOutcome.Ignored reason) ds taken = taken

-- ---- what a step tells, and which frames are for a node

-- behind the changes of the links a step tells of a node what a run of work noted
record TellsBehind (peer b : ℕ) (cs : List Transition) (es inside : List Entry) : Type 0 where
  pub changes : filter (is_change_of b) inside ≡ filter (is_change_of b) (change_entries peer cs) ++ filter (is_change_of b) es
  pub accepted : (flow : Flow) → filter (is_accepted_in flow b) inside ≡ filter (is_accepted_in flow b) es
  pub delivered : (flow : Flow) → filter (is_delivered_in flow b) inside ≡ filter (is_delivered_in flow b) es

tells_behind : (peer b : ℕ) (cs : List Transition) (es inside : List Entry) → inside ≡ change_entries peer cs ++ es → TellsBehind peer b cs es inside
tells_behind peer b cs es inside is = record {
  changes = ap (filter (is_change_of b)) is ∙ filter-append (is_change_of b) (change_entries peer cs) es;
  accepted = λ flow. ap (filter (is_accepted_in flow b)) is ∙ both_parts (is_accepted_in flow b) (change_entries peer cs) es [] (filter (is_accepted_in flow b) es) (changes_accept flow b peer cs) refl;
  delivered = λ flow. ap (filter (is_delivered_in flow b)) is ∙ both_parts (is_delivered_in flow b) (change_entries peer cs) es [] (filter (is_delivered_in flow b) es) (changes_deliver flow b peer cs) refl;
}

-- the frames for the sender are the first ones, those in the middle that are for it, and the last ones
sender_frames : (peer : ℕ) (first middle last : List Outgoing) → AreFor (node_word peer) first → AreFor (node_word peer) last → frames_to peer (first ++ (middle ++ last)) ≡ first ++ (frames_to peer middle ++ last)
sender_frames peer first middle last hf hl =
    filter-append (is_out_to peer) first (middle ++ last) ∙ ap (λ fs. fs ++ frames_to peer (middle ++ last)) (frames_to-own peer first hf)
    ∙ ap (λ fs. first ++ fs) (filter-append (is_out_to peer) middle last ∙ ap (λ fs. frames_to peer middle ++ fs) (frames_to-own peer last hl))

-- those for another node are in the middle
other_frames : (b peer : ℕ) (first middle last : List Outgoing) → peer ≢ b → AreFor (node_word peer) first → AreFor (node_word peer) last → frames_to b (first ++ (middle ++ last)) ≡ frames_to b middle
other_frames b peer first middle last apart hf hl =
    filter-append (is_out_to b) first (middle ++ last) ∙ ap (λ fs. fs ++ frames_to b (middle ++ last)) (frames_to-other b peer first apart hf)
    ∙ filter-append (is_out_to b) middle last ∙ ap (λ fs. frames_to b middle ++ fs) (frames_to-other b peer last apart hl) ∙ append-nil (frames_to b middle)

-- those of a broadcast in the middle are for nobody alone
without_casts : (boot b : ℕ) (greeting casts returned : List Outgoing) → All (IsOfBroadcast boot) casts → frames_to b (greeting ++ (casts ++ returned)) ≡ frames_to b (greeting ++ returned)
without_casts boot b greeting casts returned all =
    filter-append (is_out_to b) greeting (casts ++ returned)
    ∙ ap (λ fs. frames_to b greeting ++ fs) (filter-append (is_out_to b) casts returned ∙ ap (λ fs. fs ++ frames_to b returned) (casts_to_none boot b casts all))
    ∙ sym (filter-append (is_out_to b) greeting returned)

-- where nothing is before and behind
between_none : (xs ys zs : List Outgoing) → xs ++ zs ≡ [] → xs ++ (ys ++ zs) ≡ ys
between_none [] ys zs none = ap (λ fs. ys ++ fs) none ∙ append-nil ys
between_none (x ∷ xs) ys zs none = absurd (let wrong : x ∷ (xs ++ zs) ≡ [] = none in cc)

-- both parts of what is so of each
all_parts : (P : Outgoing → Type 0) (xs ys : List Outgoing) → All P (xs ++ ys) → All P xs × All P ys
all_parts P [] ys all = (All-nil P, all)
all_parts P (x ∷ xs) ys all = let rest = all_parts P xs ys (All-tail P x (xs ++ ys) all) in (All-cons P x xs (All-head P x (xs ++ ys) all) rest.0, rest.1)

-- ---- a packet that was heard

-- nothing is sent by it on the broadcast link
heard_silent : (peer : ℕ) (p : Fields) (o : Outset) → list_all sends_nothing (heard_deeds peer p o) ≡ true
heard_silent peer p o =
    silent_both (contact_deeds peer o.course.changes) (state_deeds peer (stated_in p.header o.given)) (contacts_silent peer o.course.changes) (state_silent peer (stated_in p.header o.given))

-- the frames between those of the packet itself and the STATE that was due: of the greeting, and of the returns
abbrev between : (n n' : NodeState) (by : By) (bearer number : ℕ) (bytes : List ℕ) (frames : List Outgoing) (answered : Arrival) → Hears n n' by bearer number bytes frames answered → List Outgoing
between n n' by bearer number bytes frames answered h = h.greeting_frames ++ h.returned

-- the frames of broadcast packets that leave
abbrev cast_frames : (n n' : NodeState) (by : By) (bearer number : ℕ) (bytes : List ℕ) (frames : List Outgoing) (answered : Arrival) → Hears n n' by bearer number bytes frames answered → List Outgoing
cast_frames n n' by bearer number bytes frames answered h = deeds_frames (heard_deeds h.peer h.packet h.out) n.casting

-- the STATE that is due
abbrev last_frames : (n n' : NodeState) (by : By) (bearer number : ℕ) (bytes : List ℕ) (frames : List Outgoing) (answered : Arrival) → Hears n n' by bearer number bytes frames answered → List Outgoing
last_frames n n' by bearer number bytes frames answered h = (last_course h.peer bearer (stated_in h.packet.header h.out.given) (heard_casting n h.peer h.packet h.out) h.then).states

frames_between : (n n' : NodeState) (by : By) (bearer number : ℕ) (bytes : List ℕ) (frames : List Outgoing) (answered : Arrival) (h : Hears n n' by bearer number bytes frames answered)
    → frames ≡ sent_in h.out.course ++ ((h.greeting_frames ++ (cast_frames n n' by bearer number bytes frames answered h ++ h.returned)) ++ last_frames n n' by bearer number bytes frames answered h)
frames_between n n' by bearer number bytes frames answered h =
    let casts = cast_frames n n' by bearer number bytes frames answered h in
    let last = last_frames n n' by bearer number bytes frames answered h in
    h.frames_are
    ∙ ap (λ fs. sent_in h.out.course ++ fs) (ap (λ fs. h.greeting_frames ++ fs) (sym (append_assoc casts h.returned last)) ∙ sym (append_assoc h.greeting_frames (casts ++ h.returned) last))

heard_from : (n n' : NodeState) (by : By) (bearer number : ℕ) (bytes : List ℕ) (frames : List Outgoing) (answered : Arrival) (h : Hears n n' by bearer number bytes frames answered) → IsFrom h.peer bytes h.first h.second h.packet
heard_from n n' by bearer number bytes frames answered h = record { es_fits = h.due.first_fits; er_fits = h.due.second_fits; fits = h.due.fits; frame_is = h.due.opened; previous = h.due.previous }

-- the run of work behind it, in which such entries were noted
abbrev RunsBehind : (n n' : NodeState) (by : By) (bearer number : ℕ) (bytes : List ℕ) (frames : List Outgoing) (answered : Arrival) → Hears n n' by bearer number bytes frames answered → List Entry → Type 0
RunsBehind n n' by bearer number bytes frames answered h told =
    Runs n (heard_work n h.peer h.neighbour h.out) told (entries_in (arrival_deliveries Zero h.peer h.neighbour.pair h.out.given)) (between n n' by bearer number bytes frames answered h) h.work

heard_names : (n n' : NodeState) (by : By) (bearer number : ℕ) (bytes : List ℕ) (frames : List Outgoing) (answered : Arrival) → AreNamed n → (h : Hears n n' by bearer number bytes frames answered)
    → IsNamed (node_word h.peer) h.out.course.pair (sent_in h.out.course)
heard_names n n' by bearer number bytes frames answered named h =
    first_named (node_word h.peer) h.neighbour.pair (hears bearer h.first h.second h.packet number (shown n.casting (node_word h.peer))) h.out (named_there n h.peer h.neighbour named h.was) h.hears

-- the STATE that is due is for the sender
answer_names : (n n' : NodeState) (by : By) (bearer number : ℕ) (bytes : List ℕ) (frames : List Outgoing) (answered : Arrival) (h : Hears n n' by bearer number bytes frames answered) → Names (node_word h.peer) h.then.pair
    → AreFor (node_word h.peer) (last_course h.peer bearer (stated_in h.packet.header h.out.given) (heard_casting n h.peer h.packet h.out) h.then).states
answer_names n n' by bearer number bytes frames answered h named =
    (replied_named (node_word h.peer) (Some (record { bearer = bearer; taken = 0; asks = asks_peer h.peer (stated_in h.packet.header h.out.given) (heard_casting n h.peer h.packet h.out); shown = shown (heard_casting n h.peer h.packet h.out) (node_word h.peer) })) h.then.pair named).frames_are

heard_run : (n n' : NodeState) (by : By) (bearer number : ℕ) (bytes : List ℕ) (frames : List Outgoing) (answered : Arrival) → AreNamed n → (h : Hears n n' by bearer number bytes frames answered)
    → IsRun n (heard_work n h.peer h.neighbour h.out) (entries_in (arrival_deliveries Zero h.peer h.neighbour.pair h.out.given)) (between n n' by bearer number bytes frames answered h) h.work
heard_run n n' by bearer number bytes frames answered named h =
    let there : is_some (neighbour_of n h.peer) ≡ true = ap is_some h.was in
    let y = heard_neighbour h.neighbour h.out in
    let heard = heard_work n h.peer h.neighbour h.out in
    let stand = stand_set n n.neighbours h.peer y (named_stand n named) (heard_names n n' by bearer number bytes frames answered named h).pair_is there in
    let greets = puts_each_run n h.peer heard h.greeting h.greeted h.greeting_frames stand h.greeting_put in
    run_then n heard h.greeted h.work [] (entries_in (arrival_deliveries Zero h.peer h.neighbour.pair h.out.given)) h.greeting_frames h.returned greets
    (delivers_all_run n h.greeted h.work Zero h.peer (shown_contact h.neighbour.pair) (opened_in h.out.given) h.returned tt there greets.runs.stand h.delivers)

-- ---- the turn at the sender

unfoldable sender_turn : (n n' : NodeState) (by : By) (bearer number : ℕ) (bytes : List ℕ) (frames : List Outgoing) (answered : Arrival) (cast : AreCast n) (h : Hears n n' by bearer number bytes frames answered) (told inside : List Entry)
    → RunAt n.own h.peer told (between n n' by bearer number bytes frames answered h) (heard_neighbour h.neighbour h.out) h.then → TellsBehind h.peer h.peer h.out.course.changes told inside
    → filter (is_delivered_from h.peer) told ≡ filter (is_delivered_from h.peer) (given_in Zero h.peer (shown_contact h.neighbour.pair) (opened_in h.out.given))
    → frames_to h.peer frames ≡ (sent_in h.out.course) ++ (frames_to h.peer (between n n' by bearer number bytes frames answered h) ++ (last_course h.peer bearer (stated_in h.packet.header h.out.given) (heard_casting n h.peer h.packet h.out) h.then).states)
    → PeerTurn n.own bytes (step_of by (event.Arrive bearer number) inside (answer.Arrived answered)) frames h.peer h.neighbour.pair (last_neighbour h.peer bearer (stated_in h.packet.header h.out.given) (heard_casting n h.peer h.packet h.out) h.then).pair
sender_turn n n' by bearer number bytes frames answered cast h told inside run tells delivered out = record {
  opening = hears bearer h.first h.second h.packet number (shown n.casting (node_word h.peer));
  suits = refl;
  on_one = h.due.on_one;
  anew = tt;
  brought = (heard_from n n' by bearer number bytes frames answered h, h.due.kind);
  shows = shows_link n.casting (node_word h.peer) cast.small;
  messages = run.messages;
  sendable = run.sendable;
  reply = Some (record { bearer = bearer; taken = 0; asks = asks_peer h.peer (stated_in h.packet.header h.out.given) (heard_casting n h.peer h.packet h.out); shown = shown (heard_casting n h.peer h.packet h.out) (node_word h.peer) });
  shows_last = shows_link (heard_casting n h.peer h.packet h.out) (node_word h.peer) (deeds_small (heard_deeds h.peer h.packet h.out) n.casting cast.small);
  own_frames = h.out.course.states ++ (h.out.course.numbered ++ (frames_to h.peer (between n n' by bearer number bytes frames answered h) ++ (last_course h.peer bearer (stated_in h.packet.header h.out.given) (heard_casting n h.peer h.packet h.out) h.then).states));
  turn = record {
    first = h.out;
    happened = h.hears;
    put_frames = frames_to h.peer (between n n' by bearer number bytes frames answered h);
    put = h.then.pair;
    puts = run.puts;
    after = refl;
    frames_are = refl;
  };
  frames_are = out ∙ append_assoc h.out.course.states h.out.course.numbered _;
  changes =
      tells.changes ∙ ap (λ zs. filter (is_change_of h.peer) (change_entries h.peer h.out.course.changes) ++ zs) run.changes
      ∙ append-nil (filter (is_change_of h.peer) (change_entries h.peer h.out.course.changes)) ∙ changes_own h.peer h.out.course.changes;
  accepted = tells.accepted Zero ∙ accepted_now n.own h.peer told (between n n' by bearer number bytes frames answered h) (heard_neighbour h.neighbour h.out) h.then run;
  delivered = tells.delivered Zero ∙ delivered ∙ given_own Zero h.peer (shown_contact h.neighbour.pair) (opened_in h.out.given);
  taken = λ a es er p is taken from link.
      given_taken bearer h.first h.second h.packet number (shown n.casting (node_word h.peer)) h.out.given (arrival_deliveries Zero h.peer h.neighbour.pair h.out.given)
      (subst IsTakenIn (let same : a ≡ answered = cc in same ∙ h.answer_is) taken);
}

-- ---- what the broadcast link is told

-- the contact begins or ends once at most, and a STATE is taken only in one
heard_told : (n n' : NodeState) (by : By) (bearer number : ℕ) (bytes : List ℕ) (frames : List Outgoing) (answered : Arrival) → IsTold n → HaveJoined n → (h : Hears n n' by bearer number bytes frames answered)
    → CanBeTold (has_joined (node_word h.peer) n.casting.contacts) h.out.course.changes (stated_in h.packet.header h.out.given)
heard_told n n' by bearer number bytes frames answered told joined h =
    let x = h.neighbour in
    let opening = hears bearer h.first h.second h.packet number (shown n.casting (node_word h.peer)) in
    let abreast : AreAbreast x.pair = subst AreAbreast (pair_there n h.peer x h.was) (kept_abreast n h.peer told) in
    let so = happened_so x.pair opening h.out (abreast_on x.pair abreast) tt h.hears in
    let met : has_joined (node_word h.peer) n.casting.contacts ≡ in_contact x.pair = joined_there n h.peer joined ∙ ap is_met h.was in
    subst (λ t. CanBeTold t h.out.course.changes (stated_in h.packet.header h.out.given)) (sym met) (record {
      contact = change_fits x.pair h.out.course so.tells;
      state = λ some.
          sym (joined_then x.pair h.out.course so.tells)
          ∙ state_met x bearer h.first h.second h.packet number (shown n.casting (node_word h.peer)) h.out (let first = abreast.first in omega (arith, first)) h.due.on_one h.hears h.packet.header h.out.given refl refl some;
    })

heard_lawful : (n n' : NodeState) (by : By) (bearer number : ℕ) (bytes : List ℕ) (frames : List Outgoing) (answered : Arrival) → IsTold n → HaveJoined n → (h : Hears n n' by bearer number bytes frames answered)
    → AreLawful (heard_deeds h.peer h.packet h.out) n.casting
heard_lawful n n' by bearer number bytes frames answered told joined h =
    arrival_lawful h.peer n.casting h.out.course.changes (stated_in h.packet.header h.out.given) (let range = h.due.range in (omega (arith, range.0), omega (arith, range.1)))
    (heard_told n n' by bearer number bytes frames answered told joined h)

-- ---- the turns at all neighbours

module _ (n n' : NodeState) (by : By) (bearer number : ℕ) (bytes : List ℕ) (frames : List Outgoing) (answered : Arrival) (told : IsTold n) (named : AreNamed n) (low : n.boot < 2 ^ 32) (cast : AreCast n)
    (h : Hears n n' by bearer number bytes frames answered) (es : List Entry) (r : RunsBehind n n' by bearer number bytes frames answered h es) where
  abbrev peer : ℕ
  peer = h.peer

  abbrev changes : List Transition
  changes = h.out.course.changes

  abbrev stated : Option BroadcastState
  stated = stated_in h.packet.header h.out.given

  abbrev deeds : List CastDeed
  deeds = heard_deeds peer h.packet h.out

  -- the neighbour when it has heard the packet, and when the answer has left
  abbrev heard : Neighbour
  heard = heard_neighbour h.neighbour h.out

  abbrev last : Neighbour
  last = last_neighbour peer bearer stated (heard_casting n peer h.packet h.out) h.then

  abbrev s : NodeStep
  s = step_of by (event.Arrive bearer number) h.work.inside (answer.Arrived answered)

  first_for : AreFor (node_word peer) (sent_in h.out.course)
  first_for = (heard_names n n' by bearer number bytes frames answered named h).frames_are

  last_for : AreFor (node_word peer) (last_frames n n' by bearer number bytes frames answered h)
  last_for = answer_names n n' by bearer number bytes frames answered h (r.stand.named peer h.then h.then_is)

  lawful : AreLawful deeds n.casting
  lawful = heard_lawful n n' by bearer number bytes frames answered told cast.joined h

  casts : All (IsOfBroadcast n.boot) (deeds_frames deeds n.casting)
  casts = deeds_cast n deeds low cast lawful

  tells : (b : ℕ) → TellsBehind peer b changes es h.work.inside
  tells b = tells_behind peer b changes es h.work.inside r.inside_is

  others : n'.neighbours ≡ slice_set h.work.neighbours peer (Some last)
  others = ap (λ (k : NodeState). k.neighbours) h.after

  sender_there : neighbour_of n' peer ≡ Some last
  sender_there = ap (λ xs. slice_index_or xs peer None) others ∙ set_there h.work.neighbours peer h.then last h.then_is

  -- of the broadcast it tells nothing
  uncast : (b : ℕ) → filter (is_cast_for b) s.inside ≡ []
  uncast b = (tells b).accepted Broadcast ∙ r.uncast b

  unheard : (b : ℕ) → filter (is_cast_from b) s.inside ≡ []
  unheard b = (tells b).delivered Broadcast ∙ r.heard b ∙ given_elsewhere Broadcast Zero b peer (shown_contact h.neighbour.pair) (opened_in h.out.given) refl

  -- what was begun of the sender's broadcast when the answer has left
  begun_there : h.then.casts ≡ heard.casts → (kept n' peer).casts ≡ casts_after (kept n peer).casts changes
  begun_there same = casts_there n' peer last sender_there ∙ same ∙ ap (λ begun. casts_after begun changes) (sym (casts_there n peer h.neighbour h.was))

  sender_cast : h.then.casts ≡ heard.casts
      → CastTurn n n' bytes s deeds None peer (hears bearer h.first h.second h.packet number (shown n.casting (node_word peer))) h.out
      (Some (record { bearer = bearer; taken = 0; asks = asks_peer peer stated (heard_casting n peer h.packet h.out); shown = shown (heard_casting n peer h.packet h.out) (node_word peer) }))
  sender_cast same = record {
    told = arrival_own peer changes stated;
    shows = refl;
    shows_last = ap (λ (k : NodeState). shown k.casting (node_word peer)) (sym h.after);
    accepted = uncast peer;
    heard = hears_none (record { unheard = arrival_unheard (node_word peer) peer changes stated; delivered = unheard peer; begun = begun_there same });
  }

  at_sender : NeighbourTurn n n' bytes s frames deeds None peer h.neighbour
  unfolding sender_turn
  at_sender =
      let at = r.at peer heard (set_there n.neighbours peer h.neighbour heard h.was) in
      let still : at.now ≡ h.then = (let both : Some at.now ≡ Some h.then = sym at.now_is ∙ h.then_is in cc) in
      let run = subst (RunAt n.own peer es (between n n' by bearer number bytes frames answered h) heard) still at.run in
      let middle = h.greeting_frames ++ (deeds_frames deeds n.casting ++ h.returned) in
      let out =
      ap (frames_to peer) (frames_between n n' by bearer number bytes frames answered h)
      ∙ sender_frames peer (sent_in h.out.course) middle (last_frames n n' by bearer number bytes frames answered h) first_for last_for
      ∙ ap (λ fs. sent_in h.out.course ++ (fs ++ last_frames n n' by bearer number bytes frames answered h)) (without_casts n.boot peer h.greeting_frames (deeds_frames deeds n.casting) h.returned casts) in
      record {
        after = last;
        after_is = sender_there;
        turns = (sender_turn n n' by bearer number bytes frames answered cast h es h.work.inside run (tells peer) (r.delivered peer) out, sender_cast run.casts);
      }

  at_other : (b : ℕ) (x : Neighbour) → neighbour_of n b ≡ Some x → (b ≡ peer → ⊥) → NeighbourTurn n n' bytes s frames deeds None b x
  unfolding rests_turn
  at_other b x there other =
      let apart : peer ≢ b = λ e. other (sym e) in
      let at = r.at b x (get_or-set_other n.neighbours peer b (Some heard) None other ∙ there) in
      let after : neighbour_of n' b ≡ Some at.now = ap (λ xs. slice_index_or xs b None) others ∙ get_or-set_other h.work.neighbours peer b (Some last) None other ∙ at.now_is in
      let middle = h.greeting_frames ++ (deeds_frames deeds n.casting ++ h.returned) in
      record {
        after = at.now;
        after_is = after;
        turns = (
          rests_turn n.own bytes s frames b es (between n n' by bearer number bytes frames answered h) x at.now (record {
            frames_are =
                ap (frames_to b) (frames_between n n' by bearer number bytes frames answered h)
                ∙ other_frames b peer (sent_in h.out.course) middle (last_frames n n' by bearer number bytes frames answered h) apart first_for last_for
                ∙ without_casts n.boot b h.greeting_frames (deeds_frames deeds n.casting) h.returned casts;
            changes = (tells b).changes ∙ ap (λ zs. zs ++ filter (is_change_of b) es) (changes_other b peer changes apart);
            accepted = (tells b).accepted Zero;
            delivered = (tells b).delivered Zero ∙ r.delivered b ∙ given_other Zero Zero b peer (shown_contact h.neighbour.pair) (opened_in h.out.given) apart;
            taken = λ a es' er q is taken from link. apart (one_sender b peer es' er h.first h.second bytes q h.packet from (heard_from n n' by bearer number bytes frames answered h));
          }) at.run,
          cast_rests n n' bytes s deeds None b x.pair (record {
            apart = arrival_other peer b changes stated other;
            unheard = arrival_unheard (node_word b) peer changes stated;
            delivered = unheard b;
            accepted = uncast b;
            begun = casts_there n' b at.now after ∙ at.run.casts ∙ sym (casts_there n b x there);
          }),
        );
      }

  at_each : (b : ℕ) (x : Neighbour) → neighbour_of n b ≡ Some x → NeighbourTurn n n' bytes s frames deeds None b x
  at_each b x there = elim (cases_eq b peer) [
    | inl here ↦
        let same : h.neighbour ≡ x = (let both : Some h.neighbour ≡ Some x = sym h.was ∙ subst (λ k. neighbour_of n k ≡ Some x) here there in cc) in
        subst (λ k. NeighbourTurn n n' bytes s frames deeds None k x) (sym here) (subst (NeighbourTurn n n' bytes s frames deeds None peer) same at_sender)
    | inr other ↦ at_other b x there other
  ]

  -- ---- the turn of the node

  -- a stranger isn't the sender
  stranger_other : (b : ℕ) → neighbour_of n b ≡ None → b ≡ peer → ⊥
  stranger_other b none here = (let wrong : Some h.neighbour ≡ None = sym h.was ∙ subst (λ k. neighbour_of n k ≡ None) here none in cc)

  -- the frames of the broadcast are those that left by the deeds
  casts_out : casts_in frames ≡ deeds_frames deeds n.casting
  casts_out =
      let ds = deeds_frames deeds n.casting in
      let lasts = last_frames n n' by bearer number bytes frames answered h in
      let run : casts_in h.greeting_frames ++ casts_in h.returned ≡ [] = sym (casts_both h.greeting_frames h.returned) ∙ r.unsent in
      let middle : casts_in (h.greeting_frames ++ (ds ++ h.returned)) ≡ ds =
      casts_both h.greeting_frames (ds ++ h.returned) ∙ ap (λ fs. casts_in h.greeting_frames ++ fs) (casts_both ds h.returned ∙ ap (λ fs. fs ++ casts_in h.returned) (casts_all n.boot ds casts))
      ∙ between_none (casts_in h.greeting_frames) ds (casts_in h.returned) run in
      ap casts_in (frames_between n n' by bearer number bytes frames answered h) ∙ casts_both (sent_in h.out.course) ((h.greeting_frames ++ (ds ++ h.returned)) ++ lasts)
      ∙ ap (λ fs. fs ++ casts_in ((h.greeting_frames ++ (ds ++ h.returned)) ++ lasts)) (links_uncast (node_word peer) (sent_in h.out.course) first_for)
      ∙ casts_both (h.greeting_frames ++ (ds ++ h.returned)) lasts ∙ ap (λ fs. fs ++ casts_in lasts) middle
      ∙ ap (λ fs. ds ++ fs) (links_uncast (node_word peer) lasts last_for) ∙ append-nil ds

  hears_turn : NodeTurn n n' bytes s frames
  hears_turn =
      let there : is_some (neighbour_of n peer) ≡ true = ap is_some h.was in
      let lasts = last_frames n n' by bearer number bytes frames answered h in
      let parts = all_parts (IsRouted n) h.greeting_frames h.returned r.routed in
      node_turn n n' bytes s frames (record {
        own = ap (λ (k : NodeState). k.own) h.after;
        boot = ap (λ (k : NodeState). k.boot) h.after;
        journal = ap (λ (k : NodeState). k.journal) h.after;
        inside = subst IsInside (sym r.inside_is) (inside_both (change_entries peer changes) es (changes_inside peer changes) r.inside);
        deeds = deeds;
        casting = ap (λ (k : NodeState). k.casting) h.after;
        lawful = lawful;
        cast_frames = casts_out;
        cast = None;
        sent = heard_silent peer h.packet h.out;
        doing = meets peer (arrival_own peer changes stated);
        turns = at_each;
        alone = λ b none. ap (λ (k : NodeState). neighbour_of k b) h.after ∙ set_none h.work.neighbours peer b h.then last h.then_is (r.alone b (set_none n.neighbours peer b h.neighbour heard h.was none));
        untaken = λ b none a es' er q is taken from link. stranger_other b none (sym (one_sender b peer es' er h.first h.second bytes q h.packet from (heard_from n n' by bearer number bytes frames answered h)));
        apart = λ b none. (arrival_other peer b changes stated (stranger_other b none), arrival_unheard (node_word b) peer changes stated);
        routed = subst (All (IsRouted n)) (sym (frames_between n n' by bearer number bytes frames answered h))
            (All-append (IsRouted n) (sent_in h.out.course) ((h.greeting_frames ++ (deeds_frames deeds n.casting ++ h.returned)) ++ lasts) (routed_to n peer (sent_in h.out.course) there first_for)
            (All-append (IsRouted n) (h.greeting_frames ++ (deeds_frames deeds n.casting ++ h.returned)) lasts
            (All-append (IsRouted n) h.greeting_frames (deeds_frames deeds n.casting ++ h.returned) parts.0
            (All-append (IsRouted n) (deeds_frames deeds n.casting) h.returned (casts_routed n (deeds_frames deeds n.casting) casts) parts.1))
            (routed_to n peer lasts there last_for)));
        placed = subst (All (IsPlaced n)) (sym r.inside_is) (All-append (IsPlaced n) (change_entries peer changes) es (changes_placed n peer changes there) r.placed);
      })

pub arrives_turn : (n n' : NodeState) (by : By) (bearer number : ℕ) (bytes : List ℕ) (frames : List Outgoing) (answered : Arrival) → IsTold n → AreNamed n → AreFound n → AreCast n → n.boot < 2 ^ 32
    → Arrives n n' by bearer number bytes frames answered
    → (inside : List Entry) × NodeTurn n n' bytes (step_of by (event.Arrive bearer number) inside (answer.Arrived answered)) frames
arrives_turn n n' by bearer number bytes frames answered told named found cast low h =
    by_arrival (IsTurn n n' by (event.Arrive bearer number) bytes frames (answer.Arrived answered)) n n' by bearer number bytes frames answered h
    (λ reason after none is.
    let note = event.Arrive bearer number in
    turn_as n n' (stopped_node n by bearer number reason) by note bytes frames [] (answer.Arrived answered) (answer.Arrived (arrival.Ignored reason)) after none (ap answer.Arrived is)
    (run_turn n by note bytes (answer.Arrived (arrival.Ignored reason)) (begun n) [] (λ taken. taken) (idle_run n (begun n) (begun n) (named_stand n named) refl refl)))
    (λ passes heard. let run = heard_run n n' by bearer number bytes frames answered named heard in (heard.work.inside, hears_turn n n' by bearer number bytes frames answered told named low cast heard run.noted run.runs))
    (λ discovers. ([], discovers_turn n n' by bearer number bytes frames answered named found cast.node low discovers))
    (λ heard. cast_turn n n' by bearer number bytes frames answered named low cast heard)
