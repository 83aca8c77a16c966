-- What an arrival makes of a node, where its link heard the packet.
use Rattle.std.proofs.Common.{◌-◌, ◌≡◌, ℕ, List, [], ◌++◌, Option, Some, refl, sym, ap, subst, ◌∙◌}
use Rattle.std.specs.Prelude.{fold, slice_set}
use Rattle.tipc_types.specs.declared.node_calls.Answer.TheVariants as answer
use Rattle.tipc_types.specs.declared.node_calls.Arrival.{Arrival}
use Rattle.tipc_types.specs.declared.node_calls.By.{By}
use Rattle.tipc_types.specs.declared.node_calls.EventNote.TheVariants.{Arrive}
use Rattle.tipc_outside.specs.Frames.{Adds, Out}
use Rattle.tipc_outside.proofs.Adding.{adds_more}
use Rattle.tipc_header.specs.Spelling.{view}
use Rattle.tipc_journal.specs.declared.entries.Entry.{Entry}
use Rattle.tipc_journal.specs.Steps.{step_entries}
use Rattle.tipc_pair.specs.declared.transitions.Transition.{Transition}
use Rattle.tipc_pair.specs.Courses.{sent_in}
use Rattle.tipc_sockets.specs.Telling.{after_entry}
use Rattle.tipc_node.specs.declared.frames.Delivery.{Delivery}
use Rattle.tipc_node.specs.declared.frames.Due.{Due}
use Rattle.tipc_node.specs.declared.packets.HeardPacket.{HeardPacket}
use Rattle.tipc_node.specs.declared.neighbours.Neighbour.{Neighbour}
use Rattle.tipc_types.specs.Address.{node_word}
use Rattle.tipc_types.specs.declared.link_words.BroadcastState.{BroadcastState}
use Rattle.tipc_outside.specs.declared.outgoing.Outgoing.{Outgoing}
use Rattle.tipc_broadcast.specs.Casting.{Casting, shown}
use Rattle.tipc_broadcast.specs.Deeds.{CastDeed, after_deeds, deeds_frames}
use Rattle.tipc_node.specs.Casting.{arrival_deeds, stated_in}
use Rattle.tipc_node.specs.Arrivals.{Greets, IsDue, answered_work, heard_deeds, heard_work, last_course}
use Rattle.tipc_node.specs.Hearings.{Followed, Greeted, HasHeard, IsHeard, Worked, heard_at}
use Rattle.tipc_node.specs.Nodes.{NodeState, arrival_answer, change_entries, neighbour_of, step_of}
use Rattle.tipc_node.specs.Works.{DeliversAll, PutsEach, Work, concluded, noted, work_of}
use Rattle.tipc_node.proofs.work.Greeting.{greets_before}

-- the work when the neighbour has heard it, as the node has it
work_then : (n : NodeState) (x y : Neighbour) (d : Due) (number : ℕ) (shown : BroadcastState) (given : HeardPacket) (a b : Out) (h : HasHeard x d number shown y given a b)
    → heard_at n.neighbours n.sockets d.peer y given.changes ≡ heard_work n d.peer x h.out
work_then n x y d number shown given a b h =
    ap (λ (z : Neighbour). noted (work_of (slice_set n.neighbours d.peer (Some z)) n.sockets []) (change_entries d.peer given.changes)) h.after
    ∙ ap (heard_at n.neighbours n.sockets d.peer _) h.changes

-- what was heard and what followed, put together
pub heard_worked : (n : NodeState) (v' : Casting) (by : By) (bytes : List ℕ) (x : Neighbour) (d : Due) (number : ℕ) (answered : Arrival) (w' : Work) (box box' : Out) → IsDue n bytes d.bearer d.peer d.first d.second (view d.packet)
    → neighbour_of n d.peer ≡ Some x → Worked n.own n.casting v' n.neighbours n.sockets x d number answered w' box box'
    → IsHeard n (concluded (record n { casting = v' }) by (Arrive d.bearer number) w' (answer.Arrived answered)) by d.bearer number bytes box box' answered
heard_worked n v' by bytes x d number answered w' box box' due was h = (
  sent ++ (g.frames ++ (deeds_frames deeds n.casting ++ (f.delivered.frames ++ (last_course d.peer d.bearer stated v f.then).states))),
  record {
    peer = d.peer;
    first = d.first;
    second = d.second;
    packet = view d.packet;
    due = due;
    neighbour = x;
    was = was;
    out = heard.out;
    hears = heard.hears;
    greeting = g.messages;
    greets = subst (λ (cs : List Transition). Greets n.sockets.live cs g.messages) heard.changes (greets_before n.sockets d.peer given.changes g.messages heard.once live);
    greeted = f.told;
    greeting_frames = g.frames;
    greeting_put = subst (λ (u : Work). PutsEach n.own d.peer u g.messages f.told g.frames) same g.puts;
    work = f.work;
    returned = f.delivered.frames;
    delivers = subst (λ (es : List Delivery). DeliversAll n.own d.peer f.told es f.work f.delivered.frames) heard.deliveries f.delivered.delivers;
    then = f.then;
    then_is = f.then_is;
    after = (λ i. concluded (record n { casting = casting_is i }) by (Arrive d.bearer number) (f_after i) (answer.Arrived answered));
    frames_are = refl;
    answer_is = h.answer ∙ heard.answer ∙ ap (arrival_answer heard.out.given) heard.deliveries;
  },
  adds_more box h.between box' sent _ heard.adds
      (adds_more h.between f.told_box box' g.frames _ g.adds
      (adds_more f.told_box f.cast_box box' (deeds_frames deeds n.casting) _ (subst (λ ds. Adds f.told_box f.cast_box (deeds_frames ds n.casting)) deeds_are f.cast.adds)
      (adds_more f.cast_box f.work_box box' f.delivered.frames _ f.delivered.adds
      (subst (λ (fs : List Outgoing). Adds f.work_box box' fs) (λ i. (last_course d.peer d.bearer (stated_are i) (casting_is i) f.then).states) f.adds)))),
)
  where
    given : HeardPacket
    given = h.given

    heard : HasHeard x d number (shown n.casting (node_word d.peer)) h.heard.after given box h.between
    heard = h.heard.heard

    f : Followed n.own d.peer d.bearer given.changes given.stated given.deliveries.items n.casting v' h.work w' h.between box'
    f = h.followed

    g : Greeted n.own d.peer given.changes h.work f.told h.between f.told_box
    g = f.greeted

    stated : Option BroadcastState
    stated = stated_in d.packet.header heard.out.given

    deeds : List CastDeed
    deeds = heard_deeds d.peer (view d.packet) heard.out

    v : Casting
    v = after_deeds deeds n.casting

    stated_are : given.stated ≡ stated
    stated_are = heard.stated

    deeds_are : arrival_deeds d.peer given.changes given.stated ≡ deeds
    deeds_are = (λ i. arrival_deeds d.peer (heard.changes i) (stated_are i))

    casting_is : v' ≡ v
    casting_is = f.cast.after ∙ ap (λ ds. after_deeds ds n.casting) deeds_are

    f_after : w' ≡ answered_work f.work d.peer d.bearer stated v f.then
    f_after = f.after ∙ (λ i. answered_work f.work d.peer d.bearer (stated_are i) (casting_is i) f.then)

    same : h.work ≡ heard_work n d.peer x heard.out
    same = h.heard.work ∙ work_then n x h.heard.after d number (shown n.casting (node_word d.peer)) given box h.between heard

    live : Greets (fold after_entry n.sockets (change_entries d.peer given.changes)).live given.changes g.messages
    live = subst (λ (u : Work). Greets u.sockets.live given.changes g.messages) h.heard.work g.greets

    sent : List Outgoing
    sent = sent_in heard.out.course

-- so it is in the node's journal
pub journal_heard : (n m : NodeState) (v : Casting) (by : By) (bytes : List ℕ) (bearer number : ℕ) (answered : Arrival) (w : Work) (es journal : List Entry) (promised : ℕ) (box box' : Out)
    → IsHeard n (concluded (record n { casting = v }) by (Arrive bearer number) w (answer.Arrived answered)) by bearer number bytes box box' answered
    → es ≡ journal ++ step_entries (step_of by (Arrive bearer number) w.inside (answer.Arrived answered)) → journal ≡ n.journal → promised ≡ n.promised - 1 → n ≡ m
    → IsHeard m (record n { neighbours = w.neighbours; sockets = w.sockets; journal = es; casting = v; promised = promised }) by bearer number bytes box box' answered
journal_heard n m v by bytes bearer number answered w es journal promised box box' h recorded kept used same =
    let steps = step_entries (step_of by (Arrive bearer number) w.inside (answer.Arrived answered)) in
    let there = recorded ∙ ap (λ js. js ++ steps) kept in
    let the_node : List Entry → ℕ → NodeState = λ js k. record n { neighbours = w.neighbours; sockets = w.sockets; journal = js; casting = v; promised = k } in
    subst (λ (k : NodeState). IsHeard k (the_node es promised) by bearer number bytes box box' answered) same
    (subst (λ (n' : NodeState). IsHeard n n' by bearer number bytes box box' answered) (λ i. the_node (sym there i) (sym used i)) h)
