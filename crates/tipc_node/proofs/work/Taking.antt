-- What the code of an arrival did to the parts of a node is what the arrival makes of it.
use Rattle.std.proofs.Common.{◌≡◌, ℕ, zero, suc, ◌<◌, Bool, true, List, [], ◌∷◌, ◌++◌, Option, Some, None, length, refl, sym, ap, subst, ◌∙◌}
use Rattle.std.specs.Prelude.{IfNone, IfSome, is_some, fold, slice_set, unwrap_or}
use Rattle.std.specs.List.{list_all}
use Rattle.std.proofs.lemmas.List.{get_or-set_same}
use Rattle.tipc_types.specs.declared.message_forms.Message.{Message}
use Rattle.tipc_types.specs.declared.node_calls.Answer.TheVariants as answer
use Rattle.tipc_types.specs.declared.node_calls.Arrival.{Arrival}
use Rattle.tipc_types.specs.declared.node_calls.By.{By}
use Rattle.tipc_types.specs.declared.node_calls.EventNote.TheVariants.{Arrive}
use Rattle.tipc_outside.specs.Frames.{Adds, Out}
use Rattle.tipc_header.specs.Spelling.{view}
use Rattle.tipc_journal.specs.declared.entries.Entry.{Entry}
use Rattle.tipc_pair.specs.declared.transitions.Transition.{Transition}
use Rattle.tipc_pair.specs.Messages.{opened_in}
use Rattle.tipc_sockets.specs.SocketTables.{SocketTable}
use Rattle.tipc_sockets.specs.Telling.{after_entry}
use Rattle.tipc_node.specs.declared.frames.Delivery.{Delivery}
use Rattle.tipc_node.specs.declared.frames.Due.{Due}
use Rattle.tipc_node.specs.declared.frames.Hearing.{Hearing}
use Rattle.tipc_node.specs.declared.packets.HeardPacket.{HeardPacket}
use Rattle.tipc_node.specs.declared.neighbours.Neighbour.{Neighbour}
use Rattle.tipc_types.specs.Address.{node_word}
use Rattle.tipc_types.specs.declared.link_words.BroadcastState.{BroadcastState}
use Rattle.tipc_broadcast.specs.Casting.{Casting, shown}
use Rattle.tipc_node.specs.Arrivals.{Greets, IsDue, answered_work, asks_peer, last_course, last_neighbour, with_answer}
use Rattle.tipc_node.specs.Casting.{IsOfNode, arrival_deeds}
use Rattle.tipc_node.specs.Neighbours.{answering}
use Rattle.tipc_node.proofs.work.Casting.{arrivals_bear, deeds_of_node}
use Rattle.tipc_node.specs.Hearings.{is_plain, AllDelivered, Followed, HasHeard, IsHeard, IsPrepared, ToldCasting, Worked, heard_at}
use Rattle.tipc_node.specs.Nodes.{NodeState, change_entries, entries_in, is_change, message_count, neighbour_of, shown_contact}
use Rattle.tipc_node.specs.Sure.{all_wait, messages_in, told_in, with_all_waiting}
use Rattle.tipc_node.specs.Works.{Work, concluded, work_of}
use Rattle.tipc_node.proofs.work.Changes.{IsSameNode, change_changes, same_folded}
use Rattle.tipc_types.specs.declared.message_forms.Flow.TheVariants.{Zero}
use Rattle.tipc_node.proofs.work.Delivering.{all_plain}
use Rattle.tipc_node.proofs.work.Greeting.{nobody_greeted}
use Rattle.tipc_node.proofs.work.Heard.{heard_worked}
use Rattle.tipc_node.proofs.work.Stable.{all_stable, ports_stable, puts_stable}
use Rattle.tipc_node.proofs.work.Surely.{same_sockets, sure_delivered}

-- ---- places

pub set_twice : (xs : List (Option Neighbour)) (i : ℕ) (a b : Option Neighbour) → slice_set (slice_set xs i a) i b ≡ slice_set xs i b
set_twice [] i a b = refl
set_twice (x ∷ xs) zero a b = refl
set_twice (x ∷ xs) (suc i) a b = ap (λ ys. x ∷ ys) (set_twice xs i a b)

pub some_place : (place : Option Neighbour) → is_some place ≡ true → (y : Neighbour) × (place ≡ Some y)
some_place None there = absurd cc
some_place (Some y) there = (y, refl)

-- ---- the STATE leaves behind the packet

-- a STATE was taken, and y sent as z the one that was due on a bearer
pub record HasAnswered (peer bearer : ℕ) (stated : Option BroadcastState) (v v' : Casting) (y z : Neighbour) (box between box' : Out) : Type 0 where
  pub cast : ToldCasting peer [] stated v v' box between
  pub answered : z ≡ last_neighbour peer bearer stated v' y
  pub state : Adds between box' (last_course peer bearer stated v' y).states

-- it is the one that was due, where it was asked for as the broadcast link says, and shows that
pub answered_last : (w w' : Work) (peer bearer : ℕ) (stated : Option BroadcastState) (v : Casting) (asks : Bool) (shows : BroadcastState) (y : Neighbour) (box box' : Out) → asks ≡ asks_peer peer stated v → shows ≡ shown v (node_word peer)
    → (w' ≡ with_answer w peer bearer asks shows y) × Adds box box' (answering bearer asks shows y).states → (w' ≡ answered_work w peer bearer stated v y) × Adds box box' (last_course peer bearer stated v y).states
answered_last w w' peer bearer stated v asks shows y box box' asked same h = (
  h.0 ∙ (λ i. with_answer w peer bearer (asked i) (same i) y),
  subst (Adds box box') (λ i. (answering bearer (asked i) (same i) y).states) h.1,
)

-- the neighbours after it
answered_place : (xs : List (Option Neighbour)) (peer : ℕ) (y z last : Neighbour) → z ≡ last → slice_set xs peer (Some z) ≡ slice_set (slice_set xs peer (Some y)) peer (Some last)
answered_place xs peer y z last is = ap (λ (w : Neighbour). slice_set xs peer (Some w)) is ∙ sym (set_twice xs peer (Some y) (Some last))

-- what followed where nobody is greeted, and the neighbours stay while something is delivered
quiet_followed : (own peer bearer : ℕ) (stated : Option BroadcastState) (v v' : Casting) (xs : List (Option Neighbour)) (s : SocketTable) (y z : Neighbour) (ds : List Delivery) (sockets : SocketTable) (inside : List Entry) (a b c : Out)
    → peer < length xs → Greets (fold after_entry s (change_entries peer [])).live [] [] → AllDelivered own peer (heard_at xs s peer y []) ds (work_of (slice_set xs peer (Some y)) sockets inside) b b
    → HasAnswered peer bearer stated v v' y z a b c
    → Followed own peer bearer [] stated ds v v' (heard_at xs s peer y []) (work_of (slice_set xs peer (Some z)) sockets inside) a c
quiet_followed own peer bearer stated v v' xs s y z ds sockets inside a b c within nobody delivered h = record {
  told = heard_at xs s peer y [];
  told_box = a;
  greeted = nobody_greeted own peer [] (heard_at xs s peer y []) a nobody;
  cast_box = b;
  cast = h.cast;
  work = work_of (slice_set xs peer (Some y)) sockets inside;
  work_box = b;
  delivered = delivered;
  then = y;
  then_is = get_or-set_same xs peer (Some y) None within;
  after = ap (λ ys. work_of ys sockets inside) (answered_place xs peer y z (last_neighbour peer bearer stated v' y) h.answered);
  adds = h.state;
}

-- ---- each message surely waits

-- what is told, where nothing becomes of the links and the contact: what was delivered
pub record IsAllTold (n : NodeState) (ds : List Delivery) (inside : List Entry) (messages : List Message) (sockets : SocketTable) : Type 0 where
  pub inside_is : inside ≡ told_in ds
  pub messages_are : messages ≡ messages_in ds
  pub sockets_are : sockets ≡ with_all_waiting n.sockets messages
  pub sure : all_wait n.sockets (message_count ds) ds ≡ true

pub taken_all : (n : NodeState) (v' : Casting) (by : By) (bytes : List ℕ) (x y z : Neighbour) (d : Due) (h : Hearing) (given : HeardPacket) (inside : List Entry) (messages : List Message) (sockets : SocketTable) (a b between c : Out)
    → IsDue n bytes d.bearer d.peer d.first d.second (view d.packet) → neighbour_of n d.peer ≡ Some x → d.peer < length n.neighbours → IsPrepared (neighbour_of n d.peer) d h → h.shown ≡ shown n.casting (node_word d.peer)
    → HasHeard x d h.number h.shown y given a b → given.changes ≡ [] → given.deliveries.items ≡ h.deliveries.items → given.answer ≡ h.answer → HasAnswered d.peer d.bearer given.stated n.casting v' y z b between c
    → IsAllTold n h.deliveries.items inside messages sockets
    → IsHeard n (concluded (record n { casting = v' }) by (Arrive d.bearer h.number) (work_of (slice_set n.neighbours d.peer (Some z)) sockets inside) (answer.Arrived h.answer)) by d.bearer h.number bytes a c h.answer
taken_all n v' by bytes x y z d h given inside messages sockets a b between c due was within prepared shows heard none same_deliveries same_answer answered k =
    let xs = n.neighbours in
    let s = n.sockets in
    let peer = d.peer in
    let ds = h.deliveries.items in
    let start = heard_at xs s peer y [] in
    let all_plain_ones = ap (λ es. list_all is_plain (entries_in es)) prepared.deliveries ∙ all_plain Zero peer (shown_contact prepared.neighbour.pair) (opened_in h.arriving.outcome) in
    let delivered = sure_delivered n.own peer start ds between k.sure all_plain_ones in
    let queued = with_all_waiting s (messages_in ds) in
    let followed = quiet_followed n.own peer d.bearer given.stated n.casting v' xs s y z ds queued (told_in ds) b between c within refl delivered answered in
    let last = work_of (slice_set xs peer (Some z)) sockets inside in
    let sockets_are : queued ≡ sockets = ap (with_all_waiting s) (sym k.messages_are) ∙ sym k.sockets_are in
    let same : work_of (slice_set xs peer (Some z)) queued (told_in ds) ≡ last =
    ap (λ (t : SocketTable). work_of (slice_set xs peer (Some z)) t (told_in ds)) sockets_are ∙ ap (work_of (slice_set xs peer (Some z)) sockets) (sym k.inside_is) in
    heard_worked n v' by bytes x d h.number h.answer last a c due was (record {
      given = given;
      work = start;
      between = b;
      heard = record { after = y; heard = subst (λ (t : BroadcastState). HasHeard x d h.number t y given a b) shows heard; work = ap (heard_at xs s peer y) (sym none) };
      answer = sym same_answer;
      followed = subst (λ cs. Followed n.own peer d.bearer cs given.stated given.deliveries.items n.casting v' start last b c) (sym none)
          (subst (λ es. Followed n.own peer d.bearer [] given.stated es n.casting v' start last b c) (sym same_deliveries) (subst (λ (u : Work). Followed n.own peer d.bearer [] given.stated ds n.casting v' start u b c) same followed));
    })

-- ---- what is true of every node

pub same_put : (s s' : SocketTable) (ms : List Message) → s' ≡ with_all_waiting s ms → (s'.own ≡ s.own) × (s'.ports ≡ s.ports)
same_put s s' ms is = subst (λ (t : SocketTable). (t.own ≡ s.own) × (t.ports ≡ s.ports)) (sym is) (same_sockets s ms)

-- ---- as the draft has it

-- what is told of what a neighbour heard
pub record IsToldOf (neighbours : List (Option Neighbour)) (sockets sockets' : SocketTable) (peer : ℕ) (y : Neighbour) (changes : List Transition) (empty empty' inside : List Entry) : Type 0 where
  pub none : empty ≡ []
  pub still : empty' ≡ empty
  pub told : inside ≡ empty' ++ change_entries peer changes
  pub purged : sockets' ≡ fold after_entry sockets inside

told_inside : (neighbours : List (Option Neighbour)) (sockets sockets' : SocketTable) (peer : ℕ) (y : Neighbour) (changes : List Transition) (empty empty' inside : List Entry) → IsToldOf neighbours sockets sockets' peer y changes empty empty' inside
    → inside ≡ change_entries peer changes
told_inside neighbours sockets sockets' peer y changes empty empty' inside h = h.told ∙ ap (λ es. es ++ change_entries peer changes) (h.still ∙ h.none)

pub told_changes : (peer : ℕ) (changes : List Transition) (empty empty' inside : List Entry) → empty ≡ [] → empty' ≡ empty → inside ≡ empty' ++ change_entries peer changes → list_all is_change inside ≡ true
told_changes peer changes empty empty' inside none still told =
    ap (λ es. list_all is_change es) (told ∙ ap (λ es. es ++ change_entries peer changes) (still ∙ none)) ∙ change_changes peer changes

pub told_work : (neighbours : List (Option Neighbour)) (sockets sockets' : SocketTable) (peer : ℕ) (y : Neighbour) (changes : List Transition) (empty empty' inside : List Entry) → IsToldOf neighbours sockets sockets' peer y changes empty empty' inside
    → work_of (slice_set neighbours peer (Some y)) sockets' inside ≡ heard_at neighbours sockets peer y changes
told_work neighbours sockets sockets' peer y changes empty empty' inside h =
    let entries = told_inside neighbours sockets sockets' peer y changes empty empty' inside h in
    ap (λ (s : SocketTable). work_of (slice_set neighbours peer (Some y)) s inside) (h.purged ∙ ap (fold after_entry sockets) entries)
    ∙ ap (work_of (slice_set neighbours peer (Some y)) (fold after_entry sockets (change_entries peer changes))) entries

-- what was given is plain
pub heard_plain : (x : Neighbour) (d : Due) (number : ℕ) (shown : BroadcastState) (y : Neighbour) (h : HeardPacket) (box box' : Out) → HasHeard x d number shown y h box box' → list_all is_plain (entries_in h.deliveries.items) ≡ true
heard_plain x d number shown y h box box' heard =
    ap (λ es. list_all is_plain (entries_in es)) heard.deliveries ∙ all_plain Zero d.peer (shown_contact x.pair) (opened_in heard.out.given)

-- the sockets are of the same node, and have the same ports
pub worked_same : (own : ℕ) (v v' : Casting) (xs : List (Option Neighbour)) (s : SocketTable) (x : Neighbour) (d : Due) (number : ℕ) (answered : Arrival) (w' : Work) (box box' : Out) → Worked own v v' xs s x d number answered w' box box'
    → IsSameNode s w'.sockets
worked_same own v v' xs s x d number answered w' box box' h =
    let f = h.followed in
    let stable = ports_stable own s in
    let first : IsSameNode s h.work.sockets = subst (λ (w : Work). IsSameNode s w.sockets) (sym h.heard.work) (same_folded s (change_entries d.peer h.given.changes)) in
    let told = puts_stable own d.peer (λ (w : Work). IsSameNode s w.sockets) stable h.work f.greeted.messages f.told f.greeted.frames f.greeted.puts first in
    let all = all_stable own d.peer (λ (w : Work). IsSameNode s w.sockets) stable f.told h.given.deliveries.items f.work f.delivered.frames f.delivered.delivers told in
    subst (λ (w : Work). IsSameNode s w.sockets) (sym f.after) all

-- the broadcast link is still that of the node
pub worked_of_node : (own : ℕ) (v v' : Casting) (xs : List (Option Neighbour)) (s : SocketTable) (x : Neighbour) (d : Due) (number : ℕ) (answered : Arrival) (w' : Work) (box box' : Out) (word boot : ℕ) (mended : Bool × Bool)
    → Worked own v v' xs s x d number answered w' box box' → IsOfNode word boot mended v → IsOfNode word boot mended v'
worked_of_node own v v' xs s x d number answered w' box box' word boot mended h was =
    subst (IsOfNode word boot mended) (sym h.followed.cast.after) (deeds_of_node word boot mended (arrival_deeds d.peer h.given.changes h.given.stated) v (arrivals_bear d.peer h.given.changes h.given.stated) was)

-- where memory runs out it is what it was: its copy is put back, or nothing changed it
pub put_back_same : (A B : Type 0) (v w w' : Casting) (kept : Option Casting) → w' ≡ unwrap_or kept w → IfSome kept (λ copy. copy ≡ v) → IfNone kept (A × B) → (A → B → w ≡ v) → w' ≡ v
put_back_same A B v w w' None is some none still = is ∙ still none.0 none.1
put_back_same A B v w w' (Some copy) is some none still = is ∙ some

-- a node whose parts are as they were
pub same_parts : (n m : NodeState) (xs : List (Option Neighbour)) (s : SocketTable) (es : List Entry) (v : Casting) (promised : ℕ) → xs ≡ n.neighbours → s ≡ n.sockets → es ≡ n.journal → v ≡ n.casting → promised ≡ n.promised → n ≡ m
    → record n { neighbours = xs; sockets = s; journal = es; casting = v; promised = promised } ≡ m
same_parts n m xs s es v promised one two three four five is = (λ i. record n { neighbours = one i; sockets = two i; journal = three i; casting = four i; promised = five i }) ∙ is
