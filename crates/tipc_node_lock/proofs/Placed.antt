-- The inboxes of a node's sockets behind one more call of the node, and behind a message that is moved.
use Rattle.std.specs.Prelude.{is_some, nat_eq, nat_le, option_map, option_to_list, slice_get, slice_index_or, slice_set, unwrap_or}
use Rattle.std.specs.List.{All, AllPairs}
use Rattle.std.specs.Map.{lookup}
use Rattle.std.proofs.Common.{◌≡◌, ◌≢◌, inl, inr, ◌==◌, ◌||◌, ◌+◌, ◌<◌, ◌≤◌, ℕ, zero, suc, Bool, true, false, cond, not, arith, List, [], ◌∷◌, ◌++◌, Option, Some, None, drop, filter, length, length-append, map, take, refl, sym, subst, ◌∙◌, ap, true≢false, eq-eqb}
use Rattle.std.proofs.lemmas.Bool.Decides.{nat_tests}
use Rattle.std.proofs.lemmas.List.{append-nil, length-map, take-append-le}
use Rattle.std.proofs.lemmas.List.Elements.{All-filter, All-push}
use Rattle.std.proofs.lemmas.Option.{slice_get-map}
use Rattle.atomic_table.specs.Seated.{TableId}
use Rattle.tipc_types.specs.declared.message_forms.Message.{Message}
use Rattle.tipc_types.specs.declared.node_calls.Answer.{Answer}
use Rattle.tipc_types.specs.declared.node_calls.Answer.TheVariants as answer
use Rattle.tipc_types.specs.declared.node_calls.By.{By}
use Rattle.tipc_types.specs.declared.node_calls.EventNote.{EventNote}
use Rattle.tipc_types.specs.declared.node_calls.EventNote.TheVariants as note
use Rattle.tipc_outside.specs.declared.outgoing.Outgoing.{Outgoing}
use Rattle.tipc_journal.specs.declared.entries.Entry.{Entry}
use Rattle.tipc_journal.specs.Dues.{NothingDue}
use Rattle.tipc_journal.specs.Prefixes.{list_with}
use Rattle.tipc_journal.specs.Queues.{IsFed, ever_queued, is_taking, queue, sockets, sockets_after, step_queued, taken_count}
use Rattle.tipc_journal.specs.Refusals.{is_among, made_by, most_sockets, most_sockets_made, sockets_made}
use Rattle.tipc_journal.specs.Steps.{IsInside, IsWhole, NodeStep, step_entries}
use Rattle.tipc_journal.proofs.CountLaws.{sockets_made_step}
use Rattle.tipc_journal.proofs.DueLaws.{queue_inside_nil}
use Rattle.tipc_journal.proofs.QueueLaws.{ever_queued_step, sockets_nil, sockets_step, taken_count_nil, taken_count_step}
use Rattle.tipc_ports.specs.Numbers.{port_number}
use Rattle.tipc_sockets.specs.SocketTables.{SocketTable, has_port, queue_at, with_first_taken, with_queues}
use Rattle.tipc_sockets.proofs.FatesTold.{lookup_here}
use Rattle.tipc_sockets.proofs.Keeping.{lookup_elsewhere}
use Rattle.tipc_node.specs.Calls.{CallTurn, Performs, plan_of}
use Rattle.tipc_node.specs.Nodes.{NodeState, step_of}
use Rattle.tipc_node.specs.Plans.{DoesUnless}
use Rattle.tipc_node.specs.Sockets.{first_answer, next_port, waiting_at}
use Rattle.tipc_node.specs.Telling.{IsTold}
use Rattle.tipc_node.specs.Works.{addr_of_word}
use Rattle.tipc_node.proofs.journal.Refusing.{told_port}
use Rattle.tipc_node.proofs.work.Answering.{port_there}
use Rattle.tipc_node_lock.specs.Inboxes.{Offers, PlaceState, new_place, places_after}
use Rattle.tipc_node_lock.specs.Locked.{HaveInboxes, IsOfferedInOrder}
use Rattle.tipc_node_lock.specs.Sections.{is_receive}
use Rattle.tipc_node_lock.proofs.Lists.{at_place, kept_ports, length_set, map_set, port_among, ports_apart, set_all}

-- ---- one place

-- as much was received from each port as was queued there, or less
fed_at : (n : NodeState) → IsTold n → (port : ℕ) → IsFed (addr_of_word n.own) n.journal port
fed_at n h port = (h.sockets.told NothingDue).fed port

-- a step that receives nothing from a place's port leaves it in order
order_step : (own : ℕ) (J : List Entry) (s : NodeStep) (p : PlaceState) → IsWhole J → IsInside s.inside → IsFed (addr_of_word own) J p.port
    → is_taking p.port s.event s.answer ≡ false → IsOfferedInOrder own J p → IsOfferedInOrder own (J ++ step_entries s) p
order_step own J s p whole clean fed none order =
    let a = addr_of_word own in
    let same : taken_count (J ++ step_entries s) p.port ≡ taken_count J p.port =
    let count = taken_count_step J s p.port whole clean ∙ ap (λ b. taken_count J p.port + cond b 1 0) none in omega (arith, count) in
    ap (λ k. take k (ever_queued a (J ++ step_entries s) p.port)) same
    ∙ ap (take (taken_count J p.port)) (ever_queued_step a J s p.port whole clean)
    ∙ take-append-le (taken_count J p.port) (ever_queued a J p.port) (step_queued a p.port s) fed
    ∙ order

-- the first of what is left, behind what was taken
take_next : {X : Type 0} (k : ℕ) (xs ys rest : List X) (x : X) → drop k xs ≡ x ∷ rest → take (suc k) (xs ++ ys) ≡ take k xs ++ x ∷ []
take_next zero [] ys rest x is = absurd cc
take_next zero (z ∷ zs) ys rest x is =
    let here : z ≡ x = cc in
    ap (λ w. w ∷ []) here
take_next (suc k) [] ys rest x is = absurd cc
take_next (suc k) (z ∷ zs) ys rest x is = ap (λ w. z ∷ w) (take_next k zs ys rest x is)

take_one_more : {X : Type 0} (k : ℕ) (xs ys rest : List X) (x : X) → drop k xs ≡ x ∷ rest → take (k + 1) (xs ++ ys) ≡ take k xs ++ x ∷ []
take_one_more k xs ys rest x is = ap (λ m. take m (xs ++ ys)) (one k) ∙ take_next k xs ys rest x is
  where
    one : (k : ℕ) → k + 1 ≡ suc k
    one k = omega arith

-- nothing is taken
take_none : {X : Type 0} (xs : List X) → take 0 xs ≡ []
take_none [] = refl
take_none (x ∷ xs) = refl

-- a step that receives the first message from a place's port, where nothing stands by: it comes behind what was offered
order_taking : (own : ℕ) (J : List Entry) (s : NodeStep) (p : PlaceState) (m : Message) (rest : List Message) → IsWhole J → IsInside s.inside
    → is_taking p.port s.event s.answer ≡ true → queue (addr_of_word own) J p.port ≡ m ∷ rest → p.standing ≡ None → IsOfferedInOrder own J p
    → take (taken_count (J ++ step_entries s) p.port) (ever_queued (addr_of_word own) (J ++ step_entries s) p.port) ≡ p.giver.offered ++ m ∷ []
unfolding queue
order_taking own J s p m rest whole clean taking waits free order =
    let a = addr_of_word own in
    ap (λ k. take k (ever_queued a (J ++ step_entries s) p.port)) (taken_count_step J s p.port whole clean ∙ ap (λ b. taken_count J p.port + cond b 1 0) taking)
    ∙ ap (take (taken_count J p.port + 1)) (ever_queued_step a J s p.port whole clean)
    ∙ take_one_more (taken_count J p.port) (ever_queued a J p.port) (step_queued a p.port s) rest m waits
    ∙ ap (λ w. w ++ m ∷ []) (order ∙ ap (λ o. p.giver.offered ++ option_to_list o) free ∙ append-nil p.giver.offered)

-- what was offered, and what stands by, when a message was offered behind the others
offered_more : (p p' : PlaceState) (m : Message) → Offers p m p' → p'.giver.offered ++ option_to_list p'.standing ≡ p.giver.offered ++ m ∷ []
offered_more p p' m (inl given) = ap (λ (q : PlaceState). q.giver.offered ++ option_to_list q.standing) given ∙ append-nil (p.giver.offered ++ m ∷ [])
offered_more p p' m (inr back) = ap (λ (q : PlaceState). q.giver.offered ++ option_to_list q.standing) back.0

-- it is the same port's
pub offered_port : (p p' : PlaceState) (m : Message) → Offers p m p' → p'.port ≡ p.port
offered_port p p' m (inl given) = ap (λ (q : PlaceState). q.port) given
offered_port p p' m (inr back) = ap (λ (q : PlaceState). q.port) back.0

-- ---- what a call tells

-- a socket that was made has the next port, and fewer were there than may be
pub socket_made : (n n' : NodeState) (by : By) (frames : List Outgoing) (port : ℕ) → Performs n by note.Socket n' frames (answer.Socket port)
    → (port ≡ next_port n.sockets) × (length n.sockets.ports.present < most_sockets)
socket_made n n' by frames port p = test (nat_le most_sockets (length n.sockets.ports.present)) (nat_le most_sockets_made n.sockets.ports.made) refl p.carried
  where
    test : (many made : Bool) → nat_le most_sockets (length n.sockets.ports.present) ≡ many
        → DoesUnless (cond (many || made) (Some (answer.Full most_sockets)) None) n by note.Socket (plan_of n note.Socket p.chosen) n' frames (answer.Socket port)
        → (port ≡ next_port n.sockets) × (length n.sockets.ports.present < most_sockets)
    test true made is c = let other : answer.Socket port ≡ answer.Full most_sockets = c.2 in absurd cc
    test false true is c = let other : answer.Socket port ≡ answer.Full most_sockets = c.2 in absurd cc
    test false false is c =
        let same : answer.Socket port ≡ answer.Socket (next_port n.sockets) = c.2 in
        (cc, grind (arith, nat_tests, is))

-- a receive from a port that is there takes the first message that waits there
pub received_first : (n n' : NodeState) (by : By) (frames : List Outgoing) (port : ℕ) (answered : Answer) → Performs n by (note.Receive port) n' frames answered
    → has_port n.sockets port ≡ true
    → (n'.sockets ≡ with_queues n.sockets (with_first_taken n.sockets.queues port)) × (answered ≡ first_answer (waiting_at n.sockets port))
received_first n n' by frames port answered p there =
    let c = subst (λ (refusal : Option Answer). DoesUnless refusal n by (note.Receive port) (plan_of n (note.Receive port) p.chosen) n' frames answered)
    (port_there n.sockets port there) p.carried in
    (ap (λ (m : NodeState). m.sockets) c.0, c.2)

-- what waits at a port that is there is its queue
pub queue_waits : (n : NodeState) (port : ℕ) → IsTold n → has_port n.sockets port ≡ true → queue (addr_of_word n.own) n.journal port ≡ waiting_at n.sockets port
queue_waits n port h there = by (queue_at n.sockets port) refl there
  where
    by : (found : Option (List Message)) → queue_at n.sockets port ≡ found → is_some found ≡ true → queue (addr_of_word n.own) n.journal port ≡ unwrap_or found []
    by None found some = absurd cc
    by (Some waiting) found some = sym ((h.sockets.told NothingDue).queues port waiting found ∙ queue_inside_nil (addr_of_word n.own) n.journal NothingDue port)

-- where the first message at a port was taken, the others wait there, and elsewhere nothing is changed
pub waits_less : (s : SocketTable) (port : ℕ) → waiting_at (with_queues s (with_first_taken s.queues port)) port ≡ drop 1 (waiting_at s port)
waits_less s port =
    let rest = drop 1 (waiting_at s port) in
    ap (λ (o : Option (List Message)). unwrap_or o []) (lookup_here port s.queues rest) ∙ by (lookup (nat_eq port) s.queues) refl
  where
    by : (found : Option (List Message)) → lookup (nat_eq port) s.queues ≡ found
        → unwrap_or (option_map (λ _. drop 1 (waiting_at s port)) found) [] ≡ drop 1 (waiting_at s port)
    by None is = sym (ap (λ (o : Option (List Message)). drop 1 (unwrap_or o [])) is)
    by (Some waiting) is = refl

pub waits_still : (s : SocketTable) (port other : ℕ) → other ≢ port → waiting_at (with_queues s (with_first_taken s.queues port)) other ≡ waiting_at s other
waits_still s port other apart =
    ap (λ (o : Option (List Message)). unwrap_or o []) (lookup_elsewhere port other s.queues (drop 1 (waiting_at s port)) apart)

-- ---- ports

-- the ports of the places are those that are there
present_are : (n : NodeState) (places : List PlaceState) → IsTold n → HaveInboxes n places → map (λ (p : PlaceState). p.port) places ≡ n.sockets.ports.present
present_are n places h i = i.ports ∙ sym (h.sockets.told NothingDue).ports

-- a place's port is there
pub place_there : (n : NodeState) (places : List PlaceState) (i : ℕ) (p : PlaceState) → IsTold n → HaveInboxes n places → slice_get places i ≡ Some p
    → has_port n.sockets p.port ≡ true
place_there n places i p h inboxes at =
    told_port n h p.port
    ∙ ap (λ (ps : List ℕ). is_among ps p.port) (sym inboxes.ports)
    ∙ port_among (λ (q : PlaceState). q.port) places i p at

-- it was made
place_below : (n : NodeState) (places : List PlaceState) (i : ℕ) (p : PlaceState) → IsTold n → HaveInboxes n places → slice_get places i ≡ Some p
    → p.port ≤ port_number n.sockets.ports.boot n.sockets.ports.made
place_below n places i p h inboxes at =
    let bound = port_number n.sockets.ports.boot n.sockets.ports.made in
    at_place (λ port. port ≤ bound) (map (λ (q : PlaceState). q.port) places) i p.port
    (subst (λ (ps : List ℕ). All (λ port. port ≤ bound) ps) (sym (present_are n places h inboxes)) h.sockets.sound.present.below)
    (slice_get-map (λ (q : PlaceState). q.port) places i ∙ ap (option_map (λ (q : PlaceState). q.port)) at)

-- and the ports of two places differ
pub places_apart : (n : NodeState) (places : List PlaceState) (i j : ℕ) (p q : PlaceState) → IsTold n → HaveInboxes n places
    → slice_get places i ≡ Some p → slice_get places j ≡ Some q → j ≢ i → q.port ≢ p.port
places_apart n places i j p q h inboxes at_i at_j other =
    ports_apart (λ (r : PlaceState). r.port) places i j p q
    (subst (λ (ps : List ℕ). AllPairs (λ a b. a < b) ps) (sym (present_are n places h inboxes)) h.sockets.sound.present.rising)
    at_i at_j other

-- ---- a port that isn't made yet

-- it wasn't made before a step either
unmade_before : (n n' : NodeState) (by : By) (call : EventNote) (bytes : List ℕ) (kept : Answer) (frames : List Outgoing) (port : ℕ)
    → CallTurn n n' by call bytes kept frames → port_number n'.sockets.ports.boot n'.sockets.ports.made < port
    → port_number n.sockets.ports.boot n.sockets.ports.made < port
unmade_before n n' by call bytes kept frames port t above =
    let s : NodeStep = step_of by call t.inside kept in
    let boot : n'.sockets.ports.boot ≡ n.sockets.ports.boot = t.told.sockets.boot ∙ t.turn.boot ∙ sym t.told_before.sockets.boot in
    let here = subst (λ b. port_number b n'.sockets.ports.made < port) boot above in
    let made = (t.told.sockets.told NothingDue).made in
    let before = (t.told_before.sockets.told NothingDue).made in
    let grown = ap (λ (es : List Entry). length (sockets_made es)) t.turn.journal ∙ ap length (sockets_made_step n.journal s t.told_before.whole t.turn.inside) in
    let more = more_by (sockets_made n.journal) (made_by call kept) in
    omega (arith, here, made, before, grown, more)
  where
    more_by : (xs : List ℕ) (o : Option ℕ) → length xs ≤ length (list_with xs o)
    more_by xs None = omega arith
    more_by xs (Some x) = let longer = length-append xs (x ∷ []) in omega (arith, longer)

-- nothing was received from it behind a step that receives from no such port
untaken_step : (J : List Entry) (s : NodeStep) (port : ℕ) → IsWhole J → IsInside s.inside → is_taking port s.event s.answer ≡ false → taken_count J port ≡ 0
    → taken_count (J ++ step_entries s) port ≡ 0
untaken_step J s port whole clean none was =
    let count = taken_count_step J s port whole clean ∙ ap (λ b. taken_count J port + cond b 1 0) none in
    omega (arith, count, was)

-- ---- behind a call that receives nothing

-- where a socket was made, its port is the next one, and fewer were there than may be
abbrev pub MadeFits : NodeState → EventNote → Answer → Type 0
MadeFits n note.Socket (answer.Socket port) = (port ≡ next_port n.sockets) × (length n.sockets.ports.present < most_sockets)
MadeFits n call kept = Unit {0}

-- such a call takes from no queue
not_taking : (call : EventNote) (kept : Answer) (port : ℕ) → is_receive call ≡ false → is_taking port call kept ≡ false
not_taking (note.Receive from) kept port e = absurd (true≢false e)
not_taking call kept port e = refl

one_few : {X : Type 0} (test : X → Bool) (x : X) (xs : List X) (b : Bool) → length (filter test xs) ≤ length xs
    → length (cond b (x ∷ filter test xs) (filter test xs)) ≤ length (x ∷ xs)
one_few test x xs true rest = omega (arith, rest)
one_few test x xs false rest = omega (arith, rest)

-- a filter keeps no more than there are
filter_few : {X : Type 0} (test : X → Bool) (xs : List X) → length (filter test xs) ≤ length xs
filter_few test [] = omega arith
filter_few test (x ∷ xs) = one_few test x xs (test x) (filter_few test xs)

-- there are no more places than there may be sockets
few_after : (n : NodeState) (places : List PlaceState) (inbox : TableId) (call : EventNote) (kept : Answer) → IsTold n → MadeFits n call kept → HaveInboxes n places
    → length (places_after places inbox call kept) ≤ most_sockets
few_after n places inbox note.Socket (answer.Socket port) h fits i =
    let longer = length-append places (new_place inbox port ∷ []) in
    let count = sym (length-map places (λ (p : PlaceState). p.port)) ∙ ap length (present_are n places h i) in
    let under = fits.1 in
    omega (arith, longer, count, under)
few_after n places inbox note.Socket other h fits i = i.few
few_after n places inbox (note.Close port) answer.Done h fits i =
    let less = filter_few (λ (p : PlaceState). not (p.port == port)) places in
    let few = i.few in
    omega (arith, less, few)
few_after n places inbox (note.Close port) other h fits i = i.few
few_after n places inbox call kept h fits i = i.few

-- a new place is in order where nothing was received from its port
order_new : (own : ℕ) (J : List Entry) (inbox : TableId) (port : ℕ) → taken_count J port ≡ 0 → IsOfferedInOrder own J (new_place inbox port)
order_new own J inbox port none = ap (λ k. take k (ever_queued (addr_of_word own) J port)) none ∙ take_none (ever_queued (addr_of_word own) J port)

-- each place is in order then, where those before are, and a new one is
order_after : (own : ℕ) (J : List Entry) (places : List PlaceState) (inbox : TableId) (call : EventNote) (kept : Answer)
    → All (IsOfferedInOrder own J) places → ((port : ℕ) → made_by call kept ≡ Some port → taken_count J port ≡ 0)
    → All (IsOfferedInOrder own J) (places_after places inbox call kept)
order_after own J places inbox note.Socket (answer.Socket port) all new = All-push (IsOfferedInOrder own J) places (new_place inbox port) all (order_new own J inbox port (new port refl))
order_after own J places inbox note.Socket other all new = all
order_after own J places inbox (note.Close port) answer.Done all new = All-filter (λ (p : PlaceState). not (p.port == port)) (IsOfferedInOrder own J) places all
order_after own J places inbox (note.Close port) other all new = all
order_after own J places inbox call kept all new = all

-- the port of a socket that was made was above those before
made_above : (n : NodeState) (call : EventNote) (kept : Answer) → MadeFits n call kept → (port : ℕ) → made_by call kept ≡ Some port
    → port_number n.sockets.ports.boot n.sockets.ports.made < port
made_above n note.Socket (answer.Socket made) fits port is =
    let next = fits.0 in
    let same : made ≡ port = cc in
    omega (arith, next, same)
made_above n note.Socket other fits port is = absurd cc
made_above n call kept fits port is = absurd cc

-- just the sockets have inboxes, behind a call that receives nothing
pub inboxes_after : (n n' : NodeState) (by : By) (call : EventNote) (bytes : List ℕ) (kept : Answer) (frames : List Outgoing) (places : List PlaceState) (inbox : TableId)
    → CallTurn n n' by call bytes kept frames → is_receive call ≡ false → MadeFits n call kept → HaveInboxes n places
    → HaveInboxes n' (places_after places inbox call kept)
inboxes_after n n' by call bytes kept frames places inbox t other fits i =
    let J = n.journal in
    let s : NodeStep = step_of by call t.inside kept in
    let whole = t.told_before.whole in
    let clean = t.turn.inside in
    let untaken : (port : ℕ) → port_number n.sockets.ports.boot n.sockets.ports.made < port → taken_count (J ++ step_entries s) port ≡ 0 =
    λ port above. untaken_step J s port whole clean (not_taking call kept port other) (i.unmade port above) in
    let order : All (IsOfferedInOrder n.own (J ++ step_entries s)) places =
    λ k d within. order_step n.own J s (slice_index_or places k d) whole clean (fed_at n t.told_before (slice_index_or places k d).port)
    (not_taking call kept (slice_index_or places k d).port other) (i.order k d within) in
    record {
      ports =
          kept_ports (λ (p : PlaceState). p.port) (new_place inbox) (λ at. refl) places call kept
          ∙ ap (λ ps. sockets_after ps call kept) i.ports
          ∙ sym (sockets_step J s whole clean)
          ∙ ap sockets (sym t.turn.journal);
      few = few_after n places inbox call kept t.told_before fits i;
      order =
          subst (λ (own : ℕ). All (IsOfferedInOrder own n'.journal) (places_after places inbox call kept)) (sym t.turn.own)
          (subst (λ (es : List Entry). All (IsOfferedInOrder n.own es) (places_after places inbox call kept)) (sym t.turn.journal)
          (order_after n.own (J ++ step_entries s) places inbox call kept order (λ port made. untaken port (made_above n call kept fits port made))));
      unmade = λ port above.
          ap (λ es. taken_count es port) t.turn.journal
          ∙ untaken port (unmade_before n n' by call bytes kept frames port t above);
    }

-- ---- behind a message that was moved

-- only the place that it was moved at is another one: what was received there was offered, or stands by
pub inboxes_moved : (n n' : NodeState) (by : By) (frames : List Outgoing) (places : List PlaceState) (index : ℕ) (p p' : PlaceState) (m : Message) (rest : List Message)
    → CallTurn n n' by (note.Receive p.port) [] answer.Got frames → queue (addr_of_word n.own) n.journal p.port ≡ m ∷ rest
    → slice_get places index ≡ Some p → p.standing ≡ None → Offers p m p' → HaveInboxes n places → HaveInboxes n' (slice_set places index p')
inboxes_moved n n' by frames places index p p' m rest t waits at free offers i =
    let J = n.journal in
    let call = note.Receive p.port in
    let s : NodeStep = step_of by call t.inside answer.Got in
    let whole = t.told_before.whole in
    let clean = t.turn.inside in
    let here : IsOfferedInOrder n.own (J ++ step_entries s) p' =
    subst (λ port. take (taken_count (J ++ step_entries s) port) (ever_queued (addr_of_word n.own) (J ++ step_entries s) port) ≡ p'.giver.offered ++ option_to_list p'.standing)
    (sym (offered_port p p' m offers))
    (order_taking n.own J s p m rest whole clean (eq-eqb p.port p.port refl) waits free (at_place (IsOfferedInOrder n.own J) places index p i.order at) ∙ sym (offered_more p p' m offers)) in
    let order : All (IsOfferedInOrder n.own (J ++ step_entries s)) (slice_set places index p') =
    set_all (IsOfferedInOrder n.own (J ++ step_entries s)) places index p'
    (λ j q other there. order_step n.own J s q whole clean (fed_at n t.told_before q.port)
    (apart_test p.port q.port (places_apart n places index j p q t.told_before i at there other)) (at_place (IsOfferedInOrder n.own J) places j q i.order there))
    here in
    record {
      ports =
          map_set (λ (q : PlaceState). q.port) places index p p' at (offered_port p p' m offers)
          ∙ i.ports
          ∙ sym (sockets_step J s whole clean)
          ∙ ap sockets (sym t.turn.journal);
      few = let same = length_set places index p' in let few = i.few in omega (arith, same, few);
      order =
          subst (λ (own : ℕ). All (IsOfferedInOrder own n'.journal) (slice_set places index p')) (sym t.turn.own)
          (subst (λ (es : List Entry). All (IsOfferedInOrder n.own es) (slice_set places index p')) (sym t.turn.journal) order);
      unmade = λ port above.
          let before = unmade_before n n' by call [] answer.Got frames port t above in
          let below = place_below n places index p t.told_before i at in
          ap (λ es. taken_count es port) t.turn.journal
          ∙ untaken_step J s port whole clean (apart_test p.port port (λ e. absurd (omega (arith, before, below, e)))) (i.unmade port before);
    }
  where
    apart_test : (a b : ℕ) → b ≢ a → (a == b) ≡ false
    apart_test a b other = grind (arith, nat_tests, other)

-- a message that stood by was offered again
pub inboxes_again : (n : NodeState) (places : List PlaceState) (index : ℕ) (p p' : PlaceState) (m : Message) → slice_get places index ≡ Some p → p.standing ≡ Some m
    → Offers (record p { standing = None }) m p' → HaveInboxes n places → HaveInboxes n (slice_set places index p')
inboxes_again n places index p p' m at stands offers i =
    let port : p'.port ≡ p.port = offered_port (record p { standing = None }) p' m offers in
    record {
      ports = map_set (λ (q : PlaceState). q.port) places index p p' at port ∙ i.ports;
      few = let same = length_set places index p' in let few = i.few in omega (arith, same, few);
      order = set_all (IsOfferedInOrder n.own n.journal) places index p' (λ j q other there. at_place (IsOfferedInOrder n.own n.journal) places j q i.order there)
          (subst (λ (at_port : ℕ). take (taken_count n.journal at_port) (ever_queued (addr_of_word n.own) n.journal at_port) ≡ p'.giver.offered ++ option_to_list p'.standing) (sym port)
          (at_place (IsOfferedInOrder n.own n.journal) places index p i.order at
          ∙ ap (λ (o : Option Message). p.giver.offered ++ option_to_list o) stands
          ∙ sym (offered_more (record p { standing = None }) p' m offers)));
      unmade = i.unmade;
    }

-- a new node has no sockets
pub inboxes_new : (n : NodeState) (places : List PlaceState) → n.journal ≡ [] → places ≡ [] → HaveInboxes n places
inboxes_new n places empty none =
    subst (λ (ps : List PlaceState). HaveInboxes n ps) (sym none)
    (record {
      ports = sym (ap sockets empty ∙ sockets_nil);
      few = omega arith;
      order = λ k d within. absurd (omega (arith, within));
      unmade = λ port above. ap (λ es. taken_count es port) empty ∙ taken_count_nil port;
    })
