-- What a section leaves behind the lock, and what it tells of its call, from what the node's own call tells.
use Rattle.std.specs.List.{range_with_len}
use Rattle.std.specs.Prelude.{slice_get, slice_index_or, slice_set}
use Rattle.std.proofs.Common.{◌≡◌, ◌≢◌, ℕ, ◌+◌, ◌%◌, ◌^◌, ◌<◌, ◌≤◌, Bool, true, false, arith, List, [], ◌∷◌, ◌++◌, Some, None, cond, length, length-append, map, refl, sym, subst, ◌∙◌, ap}
use Rattle.std.proofs.lemmas.Bool.Decides.{nat_tests}
use Rattle.std.proofs.lemmas.List.Sums.{fold-append}
use Rattle.atomic_table.specs.Seated.{TableId}
use Rattle.tipc_types.specs.declared.message_forms.Message.{Message}
use Rattle.tipc_types.specs.declared.node_calls.Answer.{Answer}
use Rattle.tipc_types.specs.declared.node_calls.Answer.TheVariants as answer
use Rattle.tipc_types.specs.declared.node_calls.Arrival.{Arrival}
use Rattle.tipc_types.specs.declared.node_calls.By.{By}
use Rattle.tipc_types.specs.declared.node_calls.EventNote.{EventNote}
use Rattle.tipc_types.specs.declared.node_calls.EventNote.TheVariants as note
use Rattle.tipc_outside.specs.declared.outgoing.Outgoing.{Outgoing}
use Rattle.tipc_pick.specs.Choosing.{Choosing}
use Rattle.tipc_journal.specs.declared.entries.Entry.{Entry}
use Rattle.tipc_journal.specs.Counting.{CallsCount, calls_of, is_sent_by_name, names_sent}
use Rattle.tipc_journal.specs.Licensed.{IsPicked}
use Rattle.tipc_journal.specs.Prefixes.{list_with}
use Rattle.tipc_journal.specs.Queues.{sockets_after}
use Rattle.tipc_journal.specs.Room.{has_journal_room}
use Rattle.tipc_journal.specs.Steps.{NodeStep, step_entries}
use Rattle.tipc_journal.proofs.CountLaws.{CallsCount_nil, CallsCount_step, names_sent_step}
use Rattle.tipc_node.specs.Arrivals.{Arrived}
use Rattle.tipc_node.specs.Calls.{CallTurn, CanPerform, Performed, Performs}
use Rattle.tipc_node.specs.Nodes.{NodeState, step_of}
use Rattle.tipc_node.specs.Sharing.{SharesNames}
use Rattle.tipc_node.specs.Sockets.{first_answer, kept_answer, waiting_at}
use Rattle.tipc_node.specs.Telling.{IsTold}
use Rattle.tipc_node.specs.Works.{addr_of_word}
use Rattle.tipc_stamp.specs.Seats.{SeatState, drew}
use Rattle.tipc_node_lock.specs.declared.passes.MadeCall.{MadeCall}
use Rattle.tipc_node_lock.specs.Inboxes.{Offers, PlaceState, PortTakerState, new_port_taker, places_after, takers_after}
use Rattle.tipc_node_lock.specs.Journals.{AreCalls, CanBeMade, answers_to, arrival_number, arrival_numbers}
use Rattle.tipc_node_lock.specs.Locked.{AreCounts, HaveInboxes, IsWellKept, LockedState, by_of, chooser_after}
use Rattle.tipc_node_lock.specs.Moves.{OffersAgain}
use Rattle.tipc_node_lock.specs.Passes.{HoldsTakers, IsNextStamp, PassState, having_made, ports_of}
use Rattle.tipc_node_lock.specs.Sections.{HearsOneFrame, MakesOneCall, RecordsOneCall, is_receive}
use Rattle.tipc_node_lock.proofs.Counted.{AreCalls_nil, AreCalls_step, AreCounts_step, answers_others, answers_own, arrival_numbers_nil, arrival_numbers_step, names_sent_nil, performed_is, performed_numbers, range_more}
use Rattle.tipc_node_lock.proofs.Lists.{kept_ports}
use Rattle.tipc_node_lock.proofs.Placed.{MadeFits, inboxes_after, inboxes_again, inboxes_moved, inboxes_new, place_there, queue_waits, received_first, socket_made}

-- an answer that is kept is one of a send by name just where it was given as one
named_alike : (call : EventNote) (answered : Answer) → is_sent_by_name call (kept_answer answered) ≡ is_sent_by_name call answered
named_alike (note.SendName port kind instance importance body) (answer.Received message) = refl
named_alike (note.SendName port kind instance importance body) other = refl
named_alike other answered = refl

-- a caller's next call, by its parts
pub by_is : {P : Type 0} (n : LockedState P) (by : By) (caller : ℕ) → by.caller ≡ caller → by.call ≡ length (calls_of n.node.journal caller) → by ≡ by_of n caller by.stamp
by_is n by caller whose number = λ i. record { stamp = by.stamp; caller = whose i; call = number i }

-- ---- what is kept

-- the turn of a chooser beside the journal's sends by name, one step later
next_turn : (sent turn now : ℕ) (named : Bool) → turn ≡ sent % 2 ^ 64 → now ≡ sent + cond named 1 0 → cond named ((turn + 1) % 2 ^ 64) turn ≡ now % 2 ^ 64
next_turn sent turn now true was is = omega (arith, was, is)
next_turn sent turn now false was is = omega (arith, was, is)

-- after a call of the node, as the caller's next one
kept_after : {P : Type 0} (n n' : LockedState P) (by : By) (call : EventNote) (bytes : List ℕ) (kept : Answer) (frames : List Outgoing)
    → IsWellKept n → by.call ≡ length (calls_of n.node.journal by.caller) → CallTurn n.node n'.node by call bytes kept frames → CanBeMade call
    → list_with (range_with_len 0 (length n.heard)) (arrival_number call) ≡ range_with_len 0 (length n'.heard)
    → n'.chooser.turn ≡ cond (is_sent_by_name call kept) ((n.chooser.turn + 1) % 2 ^ 64) n.chooser.turn
    → HaveInboxes n'.node n'.places → IsWellKept n'
kept_after n n' by call bytes kept frames k number t one heard turn inboxes =
    let J = n.node.journal in
    let s : NodeStep = step_of by call t.inside kept in
    let whole = t.told_before.whole in
    let clean = t.turn.inside in
    let grown : n'.node.journal ≡ J ++ step_entries s = t.turn.journal in
    record {
      told = t.told;
      shared = t.shared;
      counted = subst CallsCount (sym grown) (CallsCount_step J s whole clean k.counted number);
      called = subst AreCalls (sym grown) (AreCalls_step J s whole clean k.called one);
      heard = ap arrival_numbers grown ∙ arrival_numbers_step J s whole clean ∙ ap (λ xs. list_with xs (arrival_number call)) k.heard ∙ heard;
      turns =
          turn
          ∙ next_turn (names_sent J) n.chooser.turn (names_sent (J ++ step_entries s)) (is_sent_by_name call kept) k.turns (names_sent_step J s whole clean)
          ∙ ap (λ es. names_sent es % 2 ^ 64) (sym grown);
      inboxes = inboxes;
    }

-- where a call made a socket, its port is the next one
made_fits : (n n' : NodeState) (by : By) (call : EventNote) (frames : List Outgoing) (answered : Answer) → Performs n by call n' frames answered
    → MadeFits n call (kept_answer answered)
made_fits n n' by note.Socket frames (answer.Socket port) p = socket_made n n' by frames port p
made_fits n n' by note.Socket frames (answer.Received message) p = tt
made_fits n n' by note.Socket frames other p = tt
made_fits n n' by call frames answered p = tt

-- after a call that was performed, which receives nothing
pub kept_performing : {P : Type 0} (n n' : LockedState P) (by : By) (call : EventNote) (answered : Answer) (inbox : TableId)
    → IsWellKept n → by.call ≡ length (calls_of n.node.journal by.caller) → CanPerform call → is_receive call ≡ false
    → Performed n.node by call n'.node n.out n'.out answered
    → n'.chooser ≡ chooser_after n.chooser call answered → n'.heard ≡ n.heard → n'.places ≡ places_after n.places inbox call (kept_answer answered)
    → IsWellKept n'
kept_performing n n' by call answered inbox k number can other p chooser heard places =
    kept_after n n' by call [] (kept_answer answered) p.frames k number p.turn (performed_is call can)
    (ap (list_with (range_with_len 0 (length n.heard))) (performed_numbers call can) ∙ ap (λ (fs : List (List ℕ)). range_with_len 0 (length fs)) (sym heard))
    (ap (λ (c : Choosing _). c.turn) chooser ∙ ap (λ b. cond b ((n.chooser.turn + 1) % 2 ^ 64) n.chooser.turn) (sym (named_alike call answered)))
    (subst (λ (ps : List PlaceState). HaveInboxes n'.node ps) (sym places)
    (inboxes_after n.node n'.node by call [] (kept_answer answered) p.frames n.places inbox p.turn other
    (made_fits n.node n'.node by call p.frames answered p.performs) k.inboxes))

-- after a message that was moved
pub kept_moving : {P : Type 0} (n n' : LockedState P) (by : By) (index : ℕ) (p p' : PlaceState) (m : Message)
    → IsWellKept n → by.call ≡ length (calls_of n.node.journal by.caller) → slice_get n.places index ≡ Some p → p.standing ≡ None
    → Performed n.node by (note.Receive p.port) n'.node n.out n'.out (answer.Received m) → Offers p m p'
    → n'.chooser ≡ n.chooser → n'.heard ≡ n.heard → n'.places ≡ slice_set n.places index p' → IsWellKept n'
kept_moving n n' by index p p' m k number at free done offers chooser heard places =
    let there = place_there n.node n.places index p k.told k.inboxes at in
    let first = (received_first n.node n'.node by done.frames p.port (answer.Received m) done.performs there).1 in
    let waits = queue_waits n.node p.port k.told there in
    let head = first_of (waiting_at n.node.sockets p.port) m first in
    kept_after n n' by (note.Receive p.port) [] answer.Got done.frames k number done.turn tt
    (ap (λ (fs : List (List ℕ)). range_with_len 0 (length fs)) (sym heard))
    (ap (λ (c : Choosing _). c.turn) chooser)
    (subst (λ (ps : List PlaceState). HaveInboxes n'.node ps) (sym places)
    (inboxes_moved n.node n'.node by done.frames n.places index p p' m head.0 done.turn (waits ∙ head.1) at free offers k.inboxes))
  where
    first_of : (waiting : List Message) (m : Message) → answer.Received m ≡ first_answer waiting → (rest : List Message) × (waiting ≡ m ∷ rest)
    first_of [] m is = absurd cc
    first_of (x ∷ rest) m is = let same : x ≡ m = cc in (rest, ap (λ y. y ∷ rest) same)

-- after a message that stood by was offered again
pub kept_again : {P : Type 0} (n n' : LockedState P) (index : ℕ) → IsWellKept n → OffersAgain index n n' → IsWellKept n'
kept_again n n' index k again = subst (λ (m : LockedState _). IsWellKept m) (sym again.is) (record {
  told = k.told;
  shared = k.shared;
  counted = k.counted;
  called = k.called;
  heard = k.heard;
  turns = k.turns;
  inboxes = inboxes_again n.node n.places index again.place again.after again.message again.at again.stands again.offers k.inboxes;
})

-- after a frame that arrived
pub kept_hearing : {P : Type 0} (n n' : LockedState P) (by : By) (bearer number : ℕ) (frame : List ℕ) (arrived : Arrival) (no_inbox : TableId)
    → IsWellKept n → by.call ≡ length (calls_of n.node.journal by.caller) → bearer ≤ 1 → number ≡ length n.heard
    → Arrived n.node by bearer number frame n'.node n.out n'.out arrived
    → n'.chooser ≡ n.chooser → n'.heard ≡ n.heard ++ frame ∷ [] → n'.places ≡ n.places → IsWellKept n'
kept_hearing n n' by bearer number frame arrived no_inbox k next low is a chooser heard places =
    kept_after n n' by (note.Arrive bearer number) frame (answer.Arrived arrived) a.frames k next a.turn low
    (ap (λ i. range_with_len 0 (length n.heard) ++ i ∷ []) (omega (arith, is))
    ∙ sym (range_more 0 (length n.heard))
    ∙ ap (range_with_len 0) (sym (ap length heard ∙ length-append n.heard (frame ∷ []))))
    (ap (λ (c : Choosing _). c.turn) chooser)
    (subst (λ (ps : List PlaceState). HaveInboxes n'.node ps) (sym places)
    (inboxes_after n.node n'.node by (note.Arrive bearer number) frame (answer.Arrived arrived) a.frames n.places no_inbox a.turn refl tt k.inboxes))

-- the counts after a call of a caller, who had a place
pub counts_after : {n n' : NodeState} {by : By} {call : EventNote} {bytes : List ℕ} {kept : Answer} {frames : List Outgoing} (counts counts' : List ℕ)
    → CallTurn n n' by call bytes kept frames → AreCounts n.journal counts
    → slice_index_or counts' by.caller 0 ≡ slice_index_or counts by.caller 0 + 1
    → ((who : ℕ) → who ≢ by.caller → slice_index_or counts' who 0 ≡ slice_index_or counts who 0)
    → AreCounts n'.journal counts'
counts_after {n} {n'} {by} {call} {bytes} {kept} {frames} counts counts' t are one others =
    subst (λ (J : List Entry). AreCounts J counts') (sym t.turn.journal)
    (AreCounts_step n.journal (step_of by call t.inside kept) counts counts' t.told_before.whole t.turn.inside are one others)

-- the same counts in a list with more places
pub counts_same : (journal : List Entry) (counts counts' : List ℕ) → AreCounts journal counts
    → ((who : ℕ) → slice_index_or counts' who 0 ≡ slice_index_or counts who 0) → AreCounts journal counts'
counts_same journal counts counts' are same = record { each = λ who. same who ∙ are.each who; few = are.few }

-- a journal with room for a call is not at its limit
room_under : (journal : List Entry) → has_journal_room journal ≡ true → length journal ≤ 1048576
unfolding has_journal_room
room_under journal room = grind (arith, nat_tests, room)

-- where a journal has room, no caller's count is near its last value
pub few_calls : (journal : List Entry) (counts : List ℕ) (who : ℕ) → AreCounts journal counts → has_journal_room journal ≡ true
    → slice_index_or counts who 0 < 2 ^ 63
few_calls journal counts who are room =
    let each = are.each who in
    let few = are.few who in
    let under = room_under journal room in
    omega (arith, each, few, under)

-- ---- what is told

-- the call was recorded, and answered to its caller alone
records : {P : Type 0} (n n' : LockedState P) (p p' : PassState) (stamp : ℕ) (call : EventNote) (bytes : List ℕ) (kept : Answer) (frames : List Outgoing)
    → CallTurn n.node n'.node (by_of n p.caller stamp) call bytes kept frames → has_journal_room n.node.journal ≡ true → IsNextStamp stamp p.seat
    → (inbox : TableId) → p' ≡ having_made p stamp call kept inbox → n'.places ≡ places_after n.places inbox call kept → n'.passes ≡ n.passes
    → RecordsOneCall n n' p p' stamp call kept
records n n' p p' stamp call bytes kept frames t room next inbox made places passes =
    let s : NodeStep = step_of (by_of n p.caller stamp) call t.inside kept in
    record {
      room = room;
      next = next;
      inbox = inbox;
      made = made;
      places = places;
      answered = ap (answers_to p.caller) t.turn.journal ∙ answers_own n.node.journal s t.turn.inside;
      others = λ who from_one other. ap (answers_to who) t.turn.journal ∙ answers_others who n.node.journal s t.turn.inside other;
      passes = passes;
    }

-- a call was performed
pub makes_one_call : {P : Type 0} (gives : P → ℕ → ℕ → ℕ → Type 0) (n n' : LockedState P) (p p' : PassState) (by : By) (call : EventNote) (answered : Answer)
    → IsWellKept n → by.caller ≡ p.caller → by.call ≡ length (calls_of n.node.journal p.caller) → Performed n.node by call n'.node n.out n'.out answered
    → ((turn : ℕ) → turn % 2 ^ 64 ≡ n.chooser.turn → IsPicked (gives n.chooser.pick) turn (addr_of_word n.node.own) n.node.journal call answered)
    → n'.chooser ≡ chooser_after n.chooser call answered → n'.heard ≡ n.heard
    → has_journal_room n.node.journal ≡ true → IsNextStamp by.stamp p.seat
    → (inbox : TableId) → p' ≡ having_made p by.stamp call (kept_answer answered) inbox → n'.places ≡ places_after n.places inbox call (kept_answer answered)
    → n'.passes ≡ n.passes → MakesOneCall gives n n' p p' call answered
makes_one_call gives n n' p p' by call answered k whose number made_by picked chooser heard room next inbox made places passes =
    let stamp = by.stamp in
    let performed : Performed n.node (by_of n p.caller by.stamp) call n'.node n.out n'.out answered =
    subst (λ (b : By). Performed n.node b call n'.node n.out n'.out answered) (by_is n by p.caller whose number) made_by in
    record {
      stamp = stamp;
      performed = performed;
      picked = picked (names_sent n.node.journal) (sym k.turns);
      chooser = chooser;
      heard = heard;
      records = records n n' p p' stamp call [] (kept_answer answered) performed.frames performed.turn room next inbox made places passes;
    }

-- a frame arrived
pub hears_one_frame : {P : Type 0} (n n' : LockedState P) (p p' : PassState) (by : By) (bearer number : ℕ) (frame : List ℕ) (arrived : Arrival)
    → by.caller ≡ p.caller → by.call ≡ length (calls_of n.node.journal p.caller) → number ≡ length n.heard
    → Arrived n.node by bearer number frame n'.node n.out n'.out arrived
    → n'.chooser ≡ n.chooser → n'.heard ≡ n.heard ++ frame ∷ []
    → has_journal_room n.node.journal ≡ true → IsNextStamp by.stamp p.seat
    → (inbox : TableId) → p' ≡ having_made p by.stamp (note.Arrive bearer number) (answer.Arrived arrived) inbox → n'.places ≡ n.places → n'.passes ≡ n.passes
    → HearsOneFrame n n' p p' bearer frame arrived
hears_one_frame n n' p p' by bearer number frame arrived whose next_call is came chooser heard room next inbox noted places passes =
    let stamp = by.stamp in
    let met : Arrived n.node (by_of n p.caller by.stamp) bearer (length n.heard) frame n'.node n.out n'.out arrived =
    subst (λ (b : By). Arrived n.node b bearer (length n.heard) frame n'.node n.out n'.out arrived) (by_is n by p.caller whose next_call)
    (subst (λ (i : ℕ). Arrived n.node by bearer i frame n'.node n.out n'.out arrived) is came) in
    let made : p' ≡ having_made p by.stamp (note.Arrive bearer (length n.heard)) (answer.Arrived arrived) inbox =
    noted ∙ ap (λ (i : ℕ). having_made p by.stamp (note.Arrive bearer i) (answer.Arrived arrived) inbox) is in
    record {
      stamp = stamp;
      met = met;
      chooser = chooser;
      heard = heard;
      records = records n n' p p' stamp (note.Arrive bearer (length n.heard)) frame (answer.Arrived arrived) met.frames met.turn room next inbox made places passes;
    }

-- ---- a new node

-- what is kept of a node with an empty journal
pub kept_new : {P : Type 0} (n : LockedState P) → IsTold n.node → SharesNames n.node → n.node.journal ≡ [] → n.heard ≡ [] → n.chooser.turn ≡ 0 → n.places ≡ []
    → IsWellKept n
kept_new n told shared empty unheard turn none =
    record {
      told = told;
      shared = shared;
      counted = subst CallsCount (sym empty) CallsCount_nil;
      called = subst AreCalls (sym empty) AreCalls_nil;
      heard = ap arrival_numbers empty ∙ arrival_numbers_nil ∙ ap (λ (fs : List (List ℕ)). range_with_len 0 (length fs)) (sym unheard);
      turns = turn ∙ ap (λ k. k % 2 ^ 64) (sym (ap names_sent empty ∙ names_sent_nil));
      inboxes = inboxes_new n.node n.places empty none;
    }

-- ---- parts of a section

-- the pass, when its parts changed so
pub pass_made : (p : PassState) (seat : SeatState) (made : List MadeCall) (takers : List PortTakerState) (stamp : ℕ) (call : EventNote) (kept : Answer) (inbox : TableId)
    → seat ≡ drew p.seat stamp → made ≡ p.made ++ record { stamp = stamp; call = call; answer = kept } ∷ [] → takers ≡ takers_after p.takers inbox call kept
    → record p { seat = seat; made = made; takers = takers } ≡ having_made p stamp call kept inbox
pass_made p seat made takers stamp call kept inbox drawn more held = λ i. record p { seat = drawn i; made = more i; takers = held i }

-- what follows from equal parts is equal
pub follows_so : {A B : Type 0} (after : A → EventNote → Answer → B) {old base : A} {call call' : EventNote} {kept kept' : Answer}
    → old ≡ base → call' ≡ call → kept' ≡ kept → after old call' kept' ≡ after base call kept
follows_so after same called answered = λ i. after (same i) (called i) (answered i)

-- it holds the takers of just its sockets then
pub holds_more : (old new : List MadeCall) (takers takers' : List PortTakerState) (stamp : ℕ) (call : EventNote) (kept : Answer) (inbox : TableId)
    → HoldsTakers old takers → new ≡ old ++ record { stamp = stamp; call = call; answer = kept } ∷ [] → takers' ≡ takers_after takers inbox call kept
    → HoldsTakers new takers'
holds_more old new takers takers' stamp call kept inbox holds more held =
    ap (map (λ (t : PortTakerState). t.port)) held
    ∙ kept_ports (λ (t : PortTakerState). t.port) (new_port_taker inbox) (λ at. refl) takers call kept
    ∙ ap (λ ports. sockets_after ports call kept) holds
    ∙ sym (fold-append (λ ports (m : MadeCall). sockets_after ports m.call m.answer) [] old (record { stamp = stamp; call = call; answer = kept } ∷ []))
    ∙ ap ports_of (sym more)

-- one more item behind those that were there
pub made_more : (old new base : List MadeCall) (stamp : ℕ) (call call' : EventNote) (kept kept' : Answer)
    → new ≡ old ++ record { stamp = stamp; call = call'; answer = kept' } ∷ [] → old ≡ base → call' ≡ call → kept' ≡ kept
    → new ≡ base ++ record { stamp = stamp; call = call; answer = kept } ∷ []
made_more old new base stamp call call' kept kept' is same called answered =
    is ∙ (λ i. same i ++ record { stamp = stamp; call = called i; answer = answered i } ∷ [])

-- one more frame behind those that arrived before
pub heard_more : (old new base : List (List ℕ)) (kept frame : List ℕ) → new ≡ old ++ kept ∷ [] → old ≡ base → kept ≡ frame → new ≡ base ++ frame ∷ []
heard_more old new base kept frame is same copied = is ∙ (λ i. same i ++ copied i ∷ [])

-- the same section of a node and a pass that are those
pub call_of_same : {P : Type 0} {gives : P → ℕ → ℕ → ℕ → Type 0} {n m n' : LockedState P} {p q p' : PassState} {call : EventNote} {answered : Answer}
    → n ≡ m → p ≡ q → MakesOneCall gives n n' p p' call answered → MakesOneCall gives m n' q p' call answered
call_of_same {P} {gives} {n} {m} {n'} {p} {q} {p'} {call} {answered} node pass made =
    subst (λ (x : LockedState P). MakesOneCall gives x n' q p' call answered) node (subst (λ (x : PassState). MakesOneCall gives n n' x p' call answered) pass made)

pub frame_of_same : {P : Type 0} {n m n' : LockedState P} {p q p' : PassState} {bearer : ℕ} {frame : List ℕ} {arrived : Arrival}
    → n ≡ m → p ≡ q → HearsOneFrame n n' p p' bearer frame arrived → HearsOneFrame m n' q p' bearer frame arrived
frame_of_same {P} {n} {m} {n'} {p} {q} {p'} {bearer} {frame} {arrived} node pass heard =
    subst (λ (x : LockedState P). HearsOneFrame x n' q p' bearer frame arrived) node (subst (λ (x : PassState). HearsOneFrame n n' x p' bearer frame arrived) pass heard)
