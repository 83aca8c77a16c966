-- A broadcast packet that gives one multicast at most: it has its fate at once, and nothing goes back by it.
use Rattle.std.proofs.Common.{◌≡◌, ◌≤◌, ◌<◌, ◌-◌, ◌^◌, ◌%◌, ℕ, length, arith, Bool, true, List, [], ◌∷◌, ◌++◌, append-nil, append_assoc, Option, Some, None, refl, sym, ap, ◌∙◌, subst}
use Rattle.std.specs.Prelude.{slice_index_or, slice_set}
use Rattle.std.specs.List.{list_all}
use Rattle.tipc_types.specs.declared.message_forms.Flow.TheVariants.{Broadcast}
use Rattle.tipc_types.specs.declared.message_forms.Message.{Message}
use Rattle.tipc_types.specs.declared.node_calls.Answer.TheVariants.{Arrived}
use Rattle.tipc_types.specs.declared.node_calls.By.{By}
use Rattle.tipc_types.specs.declared.node_calls.EventNote.TheVariants.{Arrive}
use Rattle.tipc_outside.specs.declared.outgoing.Outgoing.{Outgoing}
use Rattle.tipc_outside.specs.Frames.{Adds, Out, no_frames}
use Rattle.tipc_outside.proofs.Adding.{adds_more, adds_none}
use Rattle.tipc_header.specs.Spelling.{view}
use Rattle.tipc_broadcast.specs.Casting.{CastComing, Casting, coming_at}
use Rattle.tipc_journal.specs.declared.entries.Entry.{Entry}
use Rattle.tipc_journal.specs.Room.{free_entries}
use Rattle.tipc_journal.specs.Steps.{step_entries}
use Rattle.tipc_fragments.specs.Joining.{Joining}
use Rattle.tipc_pair.specs.declared.changes.PairOutcome.{PairOutcome}
use Rattle.tipc_pair.specs.Messages.{OpensTo, opened_in}
use Rattle.tipc_journal.specs.declared.entries.Entry.TheVariants.{Queued as Waits}
use Rattle.tipc_sockets.specs.declared.fates.Fate.{Fate}
use Rattle.tipc_sockets.specs.declared.fates.Fate.TheVariants.{Queued}
use Rattle.tipc_sockets.specs.Fates.{Spread, after_fate, hearers_of, spread_of}
use Rattle.tipc_sockets.specs.SocketTables.{SocketTable}
use Rattle.tipc_sockets.specs.Telling.{origin_of}
use Rattle.tipc_node.specs.declared.casts.CastHearing.{CastHearing}
use Rattle.tipc_node.specs.declared.frames.Delivery.{Delivery}
use Rattle.tipc_node.specs.declared.frames.Due.{Due}
use Rattle.tipc_node.specs.declared.neighbours.Neighbour.{Neighbour}
use Rattle.tipc_node.specs.CastArrivals.{cast_answered, cast_deeds, cast_work}
use Rattle.tipc_node.specs.CastHearings.{CastsDue, IsCastPrepared, alone_after, alone_entries, answered_for, cast_course, cast_frames, cast_link, coming_for, is_alone, spread_after, spread_by, spread_entries, spread_in, with_joining}
use Rattle.tipc_node.specs.Casting.{IsOfNode}
use Rattle.tipc_node.specs.Drafts.{DraftState, IsIdle, own_of, with_sockets_in}
use Rattle.tipc_node.specs.Hearings.{is_plain, AllDelivered, Settled}
use Rattle.tipc_node.specs.Multicasts.{is_multicast}
use Rattle.tipc_node.specs.Neighbours.{with_casts, with_pair}
use Rattle.tipc_node.specs.Nodes.{NodeState, arrival_answer, deliveries_of, entries_in, neighbour_of, shown_contact, step_of}
use Rattle.tipc_node.specs.Works.{DeliversAll, Follows, Work, begun, concluded, waiting_to, work_of}
use Rattle.tipc_node.proofs.Places.{set_there}
use Rattle.tipc_node.proofs.work.Casting.{deeds_of_node}
use Rattle.tipc_node.proofs.work.Changes.{IsSameNode}
use Rattle.tipc_node.proofs.work.Delivering.{all_plain, delivered_first, delivered_none, delivered_some, nothing_delivered, took_user}
use Rattle.tipc_node.proofs.work.Drafting.{idle_work}
use Rattle.tipc_node.proofs.work.Multicasts.{many_fate, many_user}
use Rattle.tipc_node.proofs.work.Returning.{fate_same}
use Rattle.tipc_node.proofs.work.Stable.{all_stable, is_there, ports_stable, set_there as stays_there, there_stable}
use Rattle.tipc_pair.proofs.EndSteps.{up_part as and_left}

-- the work when that is told
abbrev pub alone_work : Work → List Delivery → Work
alone_work w ds = work_of w.neighbours (alone_after w.sockets ds) (w.inside ++ alone_entries w.sockets ds)

-- a multicast has its fate
many_settled : (own : ℕ) (w : Work) (m : Message) (box : Out) → is_multicast (Some m) ≡ true
    → Settled own w m (work_of w.neighbours (after_fate w.sockets m (Queued (hearers_of w.sockets true m))) (w.inside ++ Waits (hearers_of w.sockets true m) ∷ [])) box box
many_settled own w m box many = record {
  frames = [];
  settles = subst (λ (f : Fate). Follows own w m f (work_of w.neighbours (after_fate w.sockets m (Queued (hearers_of w.sockets true m))) (w.inside ++ Waits (hearers_of w.sockets true m) ∷ [])) [])
      (sym (many_fate w.sockets true (waiting_to w.neighbours (origin_of m)) m many)) (refl, refl);
  adds = adds_none box;
}

-- so it is delivered, or nothing is
one_delivered : (own peer : ℕ) (w : Work) (d : Delivery) (box : Out) (o : Option Message) → d.message ≡ o → is_multicast o ≡ true → is_plain d.entry ≡ true
    → AllDelivered own peer w (d ∷ []) (work_of w.neighbours (spread_after w.sockets o) (w.inside ++ d.entry ∷ spread_entries w.sockets o)) box box
one_delivered own peer w d box None is many plain =
    let told = work_of w.neighbours w.sockets (w.inside ++ d.entry ∷ []) in
    delivered_first own peer w told told d [] box box box (delivered_none own peer w d box plain is) (nothing_delivered own peer told box)
one_delivered own peer w d box (Some m) is many plain =
    let told = work_of w.neighbours w.sockets (w.inside ++ d.entry ∷ []) in
    let waits = Waits (hearers_of w.sockets true m) ∷ [] in
    let last = work_of w.neighbours (spread_after w.sockets (Some m)) ((w.inside ++ d.entry ∷ []) ++ waits) in
    let all = delivered_first own peer w last last d [] box box box (delivered_some own peer w d m last box box plain is (took_user own peer told m last box box (many_user m many) (many_settled own told m box many))) (nothing_delivered own peer last box) in
    subst (λ es. AllDelivered own peer w (d ∷ []) (work_of w.neighbours (spread_after w.sockets (Some m)) es) box box) (append_assoc w.inside (d.entry ∷ []) waits) all

pub alone_delivered : (own peer : ℕ) (w : Work) (ds : List Delivery) (box : Out) → is_alone ds ≡ true → list_all is_plain (entries_in ds) ≡ true → AllDelivered own peer w ds (alone_work w ds) box box
alone_delivered own peer w [] box alone plain =
    subst (λ es. AllDelivered own peer w [] (work_of w.neighbours w.sockets es) box box) (sym (append-nil w.inside)) (nothing_delivered own peer w box)
alone_delivered own peer w (d ∷ []) box alone plain = one_delivered own peer w d box d.message refl alone (and_left (is_plain d.entry) true plain)
alone_delivered own peer w (d ∷ e ∷ ds) box alone plain = absurd cc

-- what is told of it in two halves is what it makes of the sockets
pub spread_some : (s : SocketTable) (ds : List Delivery) (x : Spread) → spread_in s ds ≡ Some x → (m : Message) × (x ≡ spread_of s true m) × (alone_after s ds ≡ after_fate s m (Queued x.ports))
spread_some s [] x is = absurd cc
spread_some s (d ∷ ds) x is = by d.message is
  where
    by : (o : Option Message) → spread_by s o ≡ Some x → (m : Message) × (x ≡ spread_of s true m) × (spread_after s o ≡ after_fate s m (Queued x.ports))
    by None none = absurd cc
    by (Some m) some = let here : spread_of s true m ≡ x = cc in (m, sym here, ap (λ (y : Spread). after_fate s m (Queued y.ports)) here)

pub spread_none : (s : SocketTable) (ds : List Delivery) → spread_in s ds ≡ None → alone_after s ds ≡ s
spread_none s [] is = refl
spread_none s (d ∷ ds) is = by d.message is
  where
    by : (o : Option Message) → spread_by s o ≡ None → spread_after s o ≡ s
    by None none = refl
    by (Some m) some = absurd cc

-- ---- the node

-- What was prepared was done: what the packet gave was delivered, y is kept of the peer then, and it sent the STATE that is due.
pub record IsCastDone (n n' : NodeState) (by : By) (d : Due) (h : CastHearing) (a c : Out) : Type 0 where
  pub neighbour : Neighbour
  pub was : neighbour_of n d.peer ≡ Some neighbour
  pub prepared : IsCastPrepared n.casting neighbour d h
  pub work : Work
  pub between : Out
  pub delivered : AllDelivered n.own d.peer (cast_work n d.peer neighbour h.casts) h.deliveries.items work a between
  pub then : Neighbour
  pub then_is : slice_index_or work.neighbours d.peer None ≡ Some then
  pub after : n' ≡ record (concluded n by (Arrive d.bearer h.number) (cast_answered (coming_for n.casting d h.number).outcome d.bearer d.peer (cast_link n.casting d h.number) work then) (Arrived h.answer)) { casting = cast_link n.casting d h.number }
  pub adds : Adds between c (cast_frames n.casting d h.number then)

-- so the packet was heard
pub cast_heard : (n n' : NodeState) (by : By) (d : Due) (h : CastHearing) (a c : Out) → IsCastDone n n' by d h a c → CastsDue n n' by h.number d a c h.answer
cast_heard n n' by d h a c k bytes brings = (
  k.delivered.frames ++ cast_frames n.casting d h.number k.then,
  record {
    peer = d.peer;
    first = d.first;
    second = d.second;
    packet = view d.packet;
    brings = brings;
    neighbour = k.neighbour;
    was = k.was;
    outcome = (coming_for n.casting d h.number).outcome;
    outcome_is = refl;
    given = k.prepared.given;
    joining = h.casts;
    opens = subst (λ o. OpensTo k.neighbour.casts o k.prepared.given h.casts) (ap (λ (x : CastComing). x.outcome) k.prepared.arriving) k.prepared.opens;
    work = k.work;
    returned = k.delivered.frames;
    delivers = subst (λ ds. DeliversAll n.own d.peer (cast_work n d.peer k.neighbour h.casts) ds k.work k.delivered.frames) k.prepared.deliveries k.delivered.delivers;
    then = k.then;
    then_is = k.then_is;
    casting = cast_link n.casting d h.number;
    casting_is = refl;
    after = k.after;
    frames_are = refl;
    answer_is = k.prepared.answer ∙ ap (arrival_answer k.prepared.given) k.prepared.deliveries;
  },
  adds_more a k.between c k.delivered.frames (cast_frames n.casting d h.number k.then) k.delivered.adds k.adds,
)

-- what was prepared delivers messages and dropped parts alone
pub cast_plain : (v : Casting) (x : Neighbour) (d : Due) (h : CastHearing) → IsCastPrepared v x d h → list_all is_plain (entries_in h.deliveries.items) ≡ true
cast_plain v x d h prepared =
    ap (λ es. list_all is_plain (entries_in es)) prepared.deliveries ∙ all_plain Broadcast d.peer (shown_contact x.pair) (opened_in prepared.given)

-- ---- as the code made it of a node's parts: of its draft, of its broadcast link, of its journal and of the box

-- where one multicast at most was delivered
pub record IsCastAlone (k : NodeState) (by : By) (d : Due) (h : CastHearing) (start set last told : DraftState) (v : Casting) (journal : List Entry) (promised : ℕ) (a c : Out) : Type 0 where
  pub neighbours : start.work.neighbours ≡ k.neighbours
  pub sockets : start.work.sockets ≡ k.sockets
  pub neighbour : Neighbour
  pub was : neighbour_of k d.peer ≡ Some neighbour
  pub prepared : IsCastPrepared k.casting neighbour d h
  pub alone : is_alone h.deliveries.items ≡ true
  pub set_is : set ≡ record start { work = with_joining start.work d.peer neighbour h.casts }
  pub last_is : last ≡ record set { work = answered_for k.casting d h.number set.work (with_casts neighbour h.casts) }
  pub told_is : told ≡ with_sockets_in last (alone_after last.work.sockets h.deliveries.items)
  pub casting : v ≡ cast_link k.casting d h.number
  pub entries : List Entry
  pub entries_are : entries ≡ alone_entries k.sockets h.deliveries.items
  pub recorded : journal ≡ k.journal ++ step_entries (step_of by (Arrive d.bearer h.number) entries (Arrived h.answer))
  pub used : promised ≡ k.promised - 1
  pub adds : Adds a c (cast_frames k.casting d h.number (with_casts neighbour h.casts))

pub alone_done : (k : NodeState) (by : By) (d : Due) (h : CastHearing) (start set last told : DraftState) (v : Casting) (journal : List Entry) (promised : ℕ) (a c : Out) → IsCastAlone k by d h start set last told v journal promised a c
    → IsCastDone k (record k { neighbours = told.work.neighbours; sockets = told.work.sockets; journal = journal; casting = v; promised = promised }) by d h a c
alone_done k by d h start set last told v journal promised a c q = record {
  neighbour = x;
  was = q.was;
  prepared = q.prepared;
  work = alone_work (cast_work k d.peer x h.casts) ds;
  between = a;
  delivered = alone_delivered k.own d.peer (cast_work k d.peer x h.casts) ds a q.alone (cast_plain k.casting x d h q.prepared);
  then = y;
  then_is = set_there k.neighbours d.peer x y q.was;
  after = λ i. record k { neighbours = neighbours i; sockets = sockets i; journal = recorded i; casting = q.casting i; promised = q.used i };
  adds = q.adds;
}
  where
    x : Neighbour
    x = q.neighbour

    y : Neighbour
    y = with_casts x h.casts

    z : Neighbour
    z = with_pair y (cast_course k.casting d h.number y).pair

    ds : List Delivery
    ds = h.deliveries.items

    neighbours : told.work.neighbours ≡ slice_set (slice_set k.neighbours d.peer (Some y)) d.peer (Some z)
    neighbours =
        ap (λ (e : DraftState). e.work.neighbours) q.told_is
        ∙ ap (λ (e : DraftState). e.work.neighbours) q.last_is
        ∙ ap (λ (e : DraftState). slice_set e.work.neighbours d.peer (Some z)) q.set_is
        ∙ ap (λ xs. slice_set (slice_set xs d.peer (Some y)) d.peer (Some z)) q.neighbours

    sockets : told.work.sockets ≡ alone_after k.sockets ds
    sockets =
        ap (λ (e : DraftState). e.work.sockets) q.told_is
        ∙ ap (λ (e : DraftState). alone_after e.work.sockets ds) q.last_is
        ∙ ap (λ (e : DraftState). alone_after e.work.sockets ds) q.set_is
        ∙ ap (λ (s : SocketTable). alone_after s ds) q.sockets

    recorded : journal ≡ k.journal ++ step_entries (step_of by (Arrive d.bearer h.number) (alone_entries k.sockets ds) (Arrived h.answer))
    recorded = q.recorded ∙ ap (λ es. k.journal ++ step_entries (step_of by (Arrive d.bearer h.number) es (Arrived h.answer))) q.entries_are

-- the sockets are those of the node, and have the same ports
spread_same : (s : SocketTable) (ds : List Delivery) → IsSameNode s (alone_after s ds)
spread_same s [] = record { own = refl; ports = refl }
spread_same s (d ∷ ds) = by d.message
  where
    by : (o : Option Message) → IsSameNode s (spread_after s o)
    by None = record { own = refl; ports = refl }
    by (Some m) = let same = fate_same s m (Queued (hearers_of s true m)) in record { own = same.0; ports = same.1 }

pub alone_same : (v : Casting) (d : Due) (h : CastHearing) (x : Neighbour) (start set last told : DraftState) → set ≡ record start { work = with_joining start.work d.peer x h.casts }
    → last ≡ record set { work = answered_for v d h.number set.work (with_casts x h.casts) } → told ≡ with_sockets_in last (alone_after last.work.sockets h.deliveries.items) → IsSameNode start.work.sockets told.work.sockets
alone_same v d h x start set last told set_is last_is told_is =
    let ds = h.deliveries.items in
    let sockets : told.work.sockets ≡ alone_after start.work.sockets ds =
    ap (λ (e : DraftState). e.work.sockets) told_is ∙ ap (λ (e : DraftState). alone_after e.work.sockets ds) last_is ∙ ap (λ (e : DraftState). alone_after e.work.sockets ds) set_is in
    subst (IsSameNode start.work.sockets) (sym sockets) (spread_same start.work.sockets ds)

-- and nothing is drafted
pub idle_after : (v : Casting) (d : Due) (h : CastHearing) (x : Neighbour) (start set last told : DraftState) → set ≡ record start { work = with_joining start.work d.peer x h.casts }
    → last ≡ record set { work = answered_for v d h.number set.work (with_casts x h.casts) } → told ≡ with_sockets_in last (alone_after last.work.sockets h.deliveries.items) → IsIdle start → IsIdle told
idle_after v d h x start set last told set_is last_is told_is idle =
    idle_work last told (work_of last.work.neighbours (alone_after last.work.sockets h.deliveries.items) last.work.inside) told_is refl
    (idle_work set last (answered_for v d h.number set.work (with_casts x h.casts)) last_is refl
    (idle_work start set (with_joining start.work d.peer x h.casts) set_is refl idle))

-- the broadcast link is still that of the node
pub cast_of_node : (word boot : ℕ) (mended : Bool × Bool) (v : Casting) (d : Due) (number : ℕ) (v' : Casting) → v' ≡ cast_link v d number → IsOfNode word boot mended v → IsOfNode word boot mended v'
cast_of_node word boot mended v d number v' is was =
    subst (IsOfNode word boot mended) (sym is) (deeds_of_node word boot mended (cast_deeds d.first d.second (view d.packet) number) v refl was)

-- where more was delivered: as it was drafted, recorded, and then answered
pub record IsCastEach (k : NodeState) (by : By) (d : Due) (h : CastHearing) (start drafted idle last : DraftState) (v : Casting) (kept journal : List Entry) (promised : ℕ) (a b c : Out) : Type 0 where
  pub begun_is : start.work ≡ begun k
  pub own : own_of start ≡ k.own
  pub empty : start.out ≡ no_frames
  pub neighbour : Neighbour
  pub was : neighbour_of k d.peer ≡ Some neighbour
  pub prepared : IsCastPrepared k.casting neighbour d h
  pub delivered : AllDelivered (own_of start) d.peer (with_joining start.work d.peer neighbour h.casts) h.deliveries.items drafted.work start.out drafted.out
  pub left : (frames : List Outgoing) → Adds no_frames drafted.out frames → Adds a b frames
  pub neighbours : idle.work.neighbours ≡ drafted.work.neighbours
  pub sockets : idle.work.sockets ≡ drafted.work.sockets
  pub then : Neighbour
  pub then_is : slice_index_or idle.work.neighbours d.peer None ≡ Some then
  pub last_is : last ≡ record idle { work = answered_for k.casting d h.number idle.work then }
  pub casting : v ≡ cast_link k.casting d h.number
  pub kept_is : kept ≡ k.journal
  pub recorded : journal ≡ kept ++ step_entries (step_of by (Arrive d.bearer h.number) drafted.work.inside (Arrived h.answer))
  pub used : promised ≡ k.promised - 1
  pub adds : Adds b c (cast_frames k.casting d h.number then)

pub each_done : (k : NodeState) (by : By) (d : Due) (h : CastHearing) (start drafted idle last : DraftState) (v : Casting) (kept journal : List Entry) (promised : ℕ) (a b c : Out) → IsCastEach k by d h start drafted idle last v kept journal promised a b c
    → IsCastDone k (record k { neighbours = last.work.neighbours; sockets = last.work.sockets; journal = journal; casting = v; promised = promised }) by d h a c
each_done k by d h start drafted idle last v kept journal promised a b c q = record {
  neighbour = q.neighbour;
  was = q.was;
  prepared = q.prepared;
  work = drafted.work;
  between = b;
  delivered = record { frames = q.delivered.frames; delivers = delivers; adds = q.left q.delivered.frames (subst (λ box. Adds box drafted.out q.delivered.frames) q.empty q.delivered.adds) };
  then = q.then;
  then_is = ap (λ xs. slice_index_or xs d.peer None) (sym q.neighbours) ∙ q.then_is;
  after = λ i. record k { neighbours = neighbours i; sockets = sockets i; journal = recorded i; casting = q.casting i; promised = q.used i };
  adds = q.adds;
}
  where
    z : Neighbour
    z = with_pair q.then (cast_course k.casting d h.number q.then).pair

    delivers : DeliversAll k.own d.peer (cast_work k d.peer q.neighbour h.casts) h.deliveries.items drafted.work q.delivered.frames
    delivers =
        subst (λ (w : Work). DeliversAll k.own d.peer (with_joining w d.peer q.neighbour h.casts) h.deliveries.items drafted.work q.delivered.frames) q.begun_is
        (subst (λ own. DeliversAll own d.peer (with_joining start.work d.peer q.neighbour h.casts) h.deliveries.items drafted.work q.delivered.frames) q.own q.delivered.delivers)

    neighbours : last.work.neighbours ≡ slice_set drafted.work.neighbours d.peer (Some z)
    neighbours = ap (λ (e : DraftState). e.work.neighbours) q.last_is ∙ ap (λ xs. slice_set xs d.peer (Some z)) q.neighbours

    sockets : last.work.sockets ≡ drafted.work.sockets
    sockets = ap (λ (e : DraftState). e.work.sockets) q.last_is ∙ q.sockets

    recorded : journal ≡ k.journal ++ step_entries (step_of by (Arrive d.bearer h.number) drafted.work.inside (Arrived h.answer))
    recorded = q.recorded ∙ ap (λ es. es ++ step_entries (step_of by (Arrive d.bearer h.number) drafted.work.inside (Arrived h.answer))) q.kept_is

-- the neighbour stays one
pub cast_there : (own peer : ℕ) (w : Work) (x : Neighbour) (joining : Joining) (ds : List Delivery) (w' : Work) (box box' : Out) → AllDelivered own peer (with_joining w peer x joining) ds w' box box' → is_there peer w.neighbours ≡ true → is_there peer w'.neighbours ≡ true
cast_there own peer w x joining ds w' box box' h there =
    all_stable own peer (λ (u : Work). is_there peer u.neighbours ≡ true) (there_stable own peer) (with_joining w peer x joining) ds w' h.frames h.delivers (stays_there w.neighbours peer peer (with_casts x joining) there)

-- and the sockets are those of the node, and have the same ports
pub cast_same : (own peer : ℕ) (w : Work) (x : Neighbour) (joining : Joining) (ds : List Delivery) (w' : Work) (box box' : Out) → AllDelivered own peer (with_joining w peer x joining) ds w' box box' → IsSameNode w.sockets w'.sockets
cast_same own peer w x joining ds w' box box' h =
    all_stable own peer (λ (u : Work). IsSameNode w.sockets u.sockets) (ports_stable own w.sockets) (with_joining w peer x joining) ds w' h.frames h.delivers (record { own = refl; ports = refl })

-- ---- before anything is changed

-- what was prepared, as the code names the boot and the members
pub cast_prepared : (v : Casting) (x : Neighbour) (d : Due) (h : CastHearing) (boot members : ℕ) (given : PairOutcome) → d.first < 2 ^ 32 → boot ≡ d.first % 2 ^ 32 → members ≡ d.second % 2 ^ 32 → h.arriving ≡ coming_at v boot members (view d.packet) h.number
    → OpensTo x.casts h.arriving.outcome given h.casts → h.deliveries.items ≡ deliveries_of Broadcast d.peer (shown_contact x.pair) (opened_in given) → h.answer ≡ arrival_answer given h.deliveries.items → length h.deliveries.items ≤ free_entries - 4
    → IsCastPrepared v x d h
cast_prepared v x d h boot members given low first second told opens deliveries answer few =
    let boot_is : boot ≡ d.first = omega (arith, low, first) in record {
      arriving = told ∙ (λ i. coming_at v (boot_is i) (second i) (view d.packet) h.number);
      given = given;
      opens = opens;
      deliveries = deliveries;
      answer = answer;
      few = few;
    }
