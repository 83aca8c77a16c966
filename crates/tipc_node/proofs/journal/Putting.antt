-- A message that goes away, or back; and what is delivered, one after the other: a node's work on a step tells of it.
use Rattle.std.proofs.Common.{◌≡◌, ◌≤◌, ◌-◌, ◌==◌, ℕ, zero, suc, Bool, true, false, List, [], ◌∷◌, ◌++◌, Option, Some, None, is_some, inl, inr, refl, sym, ap, ◌∙◌, subst, arith}
use Rattle.std.specs.Prelude.{◌⊎◌, if◌then◌else◌, option_and_then, slice_index_or, slice_set}
use Rattle.std.proofs.lemmas.Bool.{cases_eq}
use Rattle.std.proofs.lemmas.List.{append-nil, get_or-set_other}
use Rattle.tipc_types.specs.Address.{node_word}
use Rattle.tipc_types.specs.declared.identity.Addr.{Addr}
use Rattle.tipc_types.specs.declared.message_forms.Flow.{Flow}
use Rattle.tipc_types.specs.declared.message_forms.Flow.TheVariants.{Zero}
use Rattle.tipc_types.specs.declared.message_forms.Message.{Message}
use Rattle.tipc_types.specs.declared.message_forms.Message.TheVariants.{Payload, Items}
use Rattle.tipc_outside.specs.declared.outgoing.Outgoing.{Outgoing}
use Rattle.tipc_journal.specs.declared.entries.Entry.{Entry}
use Rattle.tipc_journal.specs.declared.entries.Entry.TheVariants as entry
use Rattle.tipc_journal.specs.Contacts.{contact}
use Rattle.tipc_journal.specs.Dues.{Due, FateDue, NothingDue, ReturnDue, comes_home, due_after, due_of_delivered, due_of_returned}
use Rattle.tipc_journal.specs.Fates.{MayStand, scene_at}
use Rattle.tipc_journal.specs.Queues.{queued_by}
use Rattle.tipc_journal.proofs.Insides.{contact_inside}
use Rattle.tipc_pair.specs.Facing.{PairEnds, contact_between}
use Rattle.tipc_pair.specs.PairTurns.{PutsOne}
use Rattle.tipc_pair.specs.Messages.{pieces_for}
use Rattle.tipc_reassembly.specs.declared.opening.Opened.{Opened}
use Rattle.tipc_reassembly.specs.declared.opening.Opened.TheVariants.{Whole, Passed}
use Rattle.tipc_sockets.specs.declared.fates.Fate.{Fate}
use Rattle.tipc_sockets.specs.declared.fates.Fate.TheVariants.{Queued, Returned, ReturnDropped, Dropped}
use Rattle.tipc_sockets.specs.Fates.{after_fate}
use Rattle.tipc_sockets.specs.Telling.{fate_entry, is_for_one_there, is_payload, origin_of}
use Rattle.tipc_sockets.proofs.Entries.{told_entry}
use Rattle.tipc_node.specs.declared.frames.Delivery.{Delivery}
use Rattle.tipc_node.specs.declared.neighbours.Neighbour.{Neighbour}
use Rattle.tipc_node.specs.Messages.{bytes_of, destination_of, message_in_flow}
use Rattle.tipc_node.specs.Nodes.{NodeState, accepted_entry, deliveries_of, delivered_by, delivery_of, shown_contact}
use Rattle.tipc_node.specs.Works.{DeliversAll, DeliversTo, Follows, GoesAway, GoesBack, Puts, PutsEach, GivesFate, Work, addr_of_word, fate_of, fated, noted, waiting_to}
use Rattle.tipc_node.specs.Works.DeliversAll.{none_left, one_more}
use Rattle.tipc_node.proofs.journal.Fating.{IsDone, IsLinked, IsReturn, contact_at, fate_leaves, fated_worked, linked_more, returned_is}
use Rattle.tipc_node.proofs.journal.LearntTold.{IsPeer, dropped_done, with_items_done}
use Rattle.tipc_node.proofs.journal.Noting.{IsNext, IsWorked, delivered_worked, reached_same, sent_by, worked_more, worked_on}
use Rattle.tipc_pair.proofs.turns.Moves.{contact_there}
use Rattle.tipc_pair.proofs.turns.PairPuts.{active_there, meets_contact, put_meets}
use Rattle.tipc_node.proofs.Places.{set_either, set_there}
use Rattle.tipc_node.proofs.work.Stable.{IsStable, delivers_stable, puts_stable}
-- ---- what is put leaves each contact
use Rattle.tipc_pair.proofs.Facings.{facing_two}

pub contact_set : (xs : List (Option Neighbour)) (peer : ℕ) (x y : Neighbour) → slice_index_or xs peer None ≡ Some x → contact_between y.pair ≡ contact_between x.pair → (a : Addr)
    → contact_at (slice_set xs peer (Some y)) a ≡ contact_at xs a
contact_set xs peer x y was same a = by (cases_eq (a.word - node_word 0) peer)
  where
    of : Option Neighbour → Option (ℕ × ℕ)
    of o = option_and_then (λ (z : Neighbour). contact_between z.pair) o

    by : ((a.word - node_word 0) ≡ peer) ⊎ ((a.word - node_word 0) ≡ peer → ⊥) → contact_at (slice_set xs peer (Some y)) a ≡ contact_at xs a
    by (inl here) =
        ap (λ k. of (slice_index_or (slice_set xs peer (Some y)) k None)) here ∙ ap of (set_there xs peer x y was) ∙ same ∙ ap of (sym was) ∙ ap (λ k. of (slice_index_or xs k None)) (sym here)
    by (inr other) = ap of (get_or-set_other xs peer (a.word - node_word 0) (Some y) None other)

-- a neighbour that is there has no number 0
pub not_nobody : (xs : List (Option Neighbour)) (peer : ℕ) (x : Neighbour) → slice_index_or xs 0 None ≡ None → slice_index_or xs peer None ≡ Some x → 0 ≡ peer → ⊥
not_nobody xs peer x none was is = (let wrong : None ≡ Some x = sym none ∙ ap (λ k. slice_index_or xs k None) is ∙ was in cc)

put_two : (x : PairEnds) (pieces : List (List ℕ)) (y : PairEnds) (frames : List Outgoing) → PutsOne x pieces y frames → x.bearer ≤ 1 → y.bearer ≤ 1
put_two x pieces y frames h two =
    let near : h.near.bearer ≤ 1 = subst (λ (z : PairEnds). z.bearer ≤ 1) (sym (let p = h.puts in p.after)) (facing_two h.bearer x two) in
    subst (λ (z : PairEnds). z.bearer ≤ 1) (sym h.after) (facing_two x.bearer h.near near)

-- what is put leaves the contact
put_alike : (own : ℕ) (w : Work) (peer : ℕ) (m : Message) (w' : Work) (frames : List Outgoing) (p : Puts own w peer m w' frames) → contact_between p.then.pair ≡ contact_between p.neighbour.pair
put_alike own w peer m w' frames p = meets_contact p.neighbour.pair p.then.pair (put_meets p.neighbour.pair (pieces_for (bytes_of own m)) p.then.pair frames p.puts.puts)

pub puts_linked : (n : NodeState) (w : Work) (peer : ℕ) (m : Message) (w' : Work) (frames : List Outgoing) → IsLinked n w → Puts n.own w peer m w' frames → IsLinked n w'
puts_linked n w peer m w' frames h p = subst (IsLinked n) (sym p.after) (record { contacts = contacts; two = λ b x is. two b x is (cases_eq b peer); nobody = nobody })
  where
    y : Neighbour
    y = p.then

    xs : List (Option Neighbour)
    xs = slice_set w.neighbours peer (Some y)

    more : IsLinked n (record w { inside = w.inside ++ accepted_entry Zero peer p.neighbour.pair m ∷ [] })
    more = linked_more n w (accepted_entry Zero peer p.neighbour.pair m) w.sockets h (λ a z. refl)

    contacts : (a : Addr) → contact (n.journal ++ (w.inside ++ accepted_entry Zero peer p.neighbour.pair m ∷ [])) a ≡ contact_at xs a
    contacts a = more.contacts a ∙ sym (contact_set w.neighbours peer p.neighbour y p.was (put_alike n.own w peer m w' frames p) a)

    two : (b : ℕ) (x : Neighbour) → slice_index_or xs b None ≡ Some x → (b ≡ peer) ⊎ (b ≡ peer → ⊥) → x.pair.bearer ≤ 1
    two b x is (inl here) =
        let same : y ≡ x = set_either w.neighbours peer x y (ap (λ k. slice_index_or xs k None) (sym here) ∙ is) in
        subst (λ (z : Neighbour). z.pair.bearer ≤ 1) same (put_two p.neighbour.pair (pieces_for (bytes_of n.own m)) y.pair frames p.puts.puts (h.two peer p.neighbour p.was))
    two b x is (inr other) = h.two b x (sym (get_or-set_other w.neighbours peer b (Some y) None other) ∙ is)

    nobody : slice_index_or xs 0 None ≡ None
    nobody = get_or-set_other w.neighbours peer 0 (Some y) None (not_nobody w.neighbours peer p.neighbour h.nobody p.was) ∙ h.nobody

-- ---- what is put

-- there is contact with a peer for which something is put
put_there : (own : ℕ) (w : Work) (peer : ℕ) (m : Message) (w' : Work) (frames : List Outgoing) (p : Puts own w peer m w' frames) → contact_between p.neighbour.pair ≡ Some (shown_contact p.neighbour.pair)
put_there own w peer m w' frames p = let one = p.puts.puts in contact_there p.neighbour.pair (active_there p.neighbour.pair one.bearer one.active_is)

-- the node that a message is put for is in the contact that its entry names
pub put_contact : (n : NodeState) (w : Work) (m : Message) (w' : Work) (frames : List Outgoing) → IsLinked n w → (p : GoesAway n.own w m w' frames)
    → contact (n.journal ++ w.inside) (destination_of m) ≡ Some (shown_contact p.neighbour.pair)
put_contact n w m w' frames h p =
    h.contacts (destination_of m) ∙ ap (option_and_then (λ (z : Neighbour). contact_between z.pair)) p.was ∙ put_there n.own w ((destination_of m).word - node_word 0) m w' frames p

above_word : (k : ℕ) → (0 ≡ k - node_word 0 → ⊥) → node_word (k - node_word 0) ≡ k
above_word k above = by (k - node_word 0) refl above
  where
    by : (j : ℕ) → k - node_word 0 ≡ j → (0 ≡ j → ⊥) → node_word (k - node_word 0) ≡ k
    by zero is none = absurd (none refl)
    by (suc j) is none = omega (arith, is)

pub put_node : (n : NodeState) (w : Work) (m : Message) (w' : Work) (frames : List Outgoing) → IsLinked n w → GoesAway n.own w m w' frames
    → addr_of_word (node_word ((destination_of m).word - node_word 0)) ≡ destination_of m
put_node n w m w' frames h p =
    ap addr_of_word (above_word (destination_of m).word (not_nobody w.neighbours ((destination_of m).word - node_word 0) p.neighbour h.nobody p.was))

unqueued : (port : ℕ) (x : Due) (peer : Addr) (numbers : ℕ × ℕ) (flow : Flow) (m : Message) → queued_by port x (entry.Accepted peer numbers flow m) ≡ []
unqueued port NothingDue peer numbers flow m = refl
unqueued port (FateDue back arrived) peer numbers flow m = refl
unqueued port (ReturnDue back) peer numbers flow m = refl

-- a message is accepted in a flow
pub told_accepted : (n : NodeState) (d now : Due) (sends asked : List Entry) (w : Work) (peer : Addr) (numbers : ℕ × ℕ) (flow : Flow) (m : Message) → IsWorked n d now sends asked w
    → MayStand (scene_at (addr_of_word n.own) n.journal d w.inside) now (entry.Accepted peer numbers flow m) → IsNext n d now w (entry.Accepted peer numbers flow m) w.sockets
told_accepted n d now sends asked w peer numbers flow m h stands = record {
  told = told_entry (addr_of_word n.own) n.journal d w.inside w.sockets h.told h.sound (entry.Accepted peer numbers flow m) refl (λ port. unqueued port _ peer numbers flow m) refl tt;
  sound = h.sound;
  ports = refl;
  reached = reached_same n.own n.journal w.inside (entry.Accepted peer numbers flow m) w.sockets.names (λ a z. refl) h.reached;
  stands = stands;
  leaves = λ z. refl;
}

pub put_next : (n : NodeState) (d now : Due) (sends asked : List Entry) (w : Work) (peer : Addr) (numbers : ℕ × ℕ) (m : Message) → IsWorked n d now sends asked w
    → MayStand (scene_at (addr_of_word n.own) n.journal d w.inside) now (entry.Accepted peer numbers Zero m) → IsNext n d now w (entry.Accepted peer numbers Zero m) w.sockets
put_next n d now sends asked w peer numbers m h stands = told_accepted n d now sends asked w peer numbers Zero m h stands

sent_one : (peer : Addr) (numbers : ℕ × ℕ) (m : Message) → is_payload m ≡ true → sent_by NothingDue (entry.Accepted peer numbers Zero m) ≡ entry.Accepted peer numbers Zero m ∷ []
sent_one peer numbers (Payload importance form from to kind lower upper code droppable body) payload = refl
sent_one peer numbers (Items withdrawal items) payload = absurd cc

-- a message that the node sends
pub sent_worked : (n : NodeState) (d : Due) (asked : List Entry) (w : Work) (peer : ℕ) (m : Message) (w' : Work) (frames : List Outgoing) → IsWorked n d NothingDue [] asked w → is_payload m ≡ true
    → (p : Puts n.own w peer m w' frames) → IsWorked n d NothingDue (accepted_entry Zero peer p.neighbour.pair m ∷ []) asked w'
sent_worked n d asked w peer m w' frames h payload p =
    let numbers = shown_contact p.neighbour.pair in
    let e = entry.Accepted (addr_of_word (node_word peer)) numbers Zero m in
    let xs = slice_set w.neighbours peer (Some p.then) in
    let after : Work = record w { neighbours = xs; inside = w.inside ++ e ∷ [] } in
    let one = worked_more n d NothingDue [] asked w e w.sockets xs h (put_next n d NothingDue [] asked w (addr_of_word (node_word peer)) numbers m h tt) in
    let two = subst (λ es. IsWorked n d NothingDue es (asked ++ []) after) (sent_one (addr_of_word (node_word peer)) numbers m payload) one in
    subst (IsWorked n d NothingDue (e ∷ []) asked) (sym p.after) (subst (λ es. IsWorked n d NothingDue (e ∷ []) es after) (append-nil asked) two)

-- the return that is due goes to the peer that it is for
passed_stands : (n : NodeState) (d : Due) (w : Work) (m : Message) (numbers : ℕ × ℕ) (peer : Addr) → is_payload m ≡ true → contact (n.journal ++ w.inside) (destination_of m) ≡ Some numbers → peer ≡ destination_of m
    → MayStand (scene_at (addr_of_word n.own) n.journal d w.inside) (ReturnDue m) (entry.Accepted peer numbers Zero m)
passed_stands n d w (Payload importance form from to kind lower upper code droppable body) numbers peer payload there is =
    (numbers, there, ap (λ (a : Addr). entry.Accepted a numbers Zero (Payload importance form from to kind lower upper code droppable body)) is)
passed_stands n d w (Items withdrawal items) numbers peer payload there is = absurd cc

passed_worked : (n : NodeState) (d : Due) (sends asked : List Entry) (w : Work) (m : Message) (w' : Work) (frames : List Outgoing) → IsWorked n d (ReturnDue m) sends asked w → IsLinked n w → is_payload m ≡ true
    → GoesAway n.own w m w' frames → IsWorked n d NothingDue sends asked w'
passed_worked n d sends asked w m w' frames h linked payload p =
    let peer = (destination_of m).word - node_word 0 in
    let a = addr_of_word (node_word peer) in
    let numbers = shown_contact p.neighbour.pair in
    let e = entry.Accepted a numbers Zero m in
    let xs = slice_set w.neighbours peer (Some p.then) in
    let stands = passed_stands n d w m numbers a payload (put_contact n w m w' frames linked p) (put_node n w m w' frames linked p) in
    subst (IsWorked n d NothingDue sends asked) (sym p.after)
    (worked_on n d (ReturnDue m) NothingDue sends asked w e w.sockets xs h (put_next n d (ReturnDue m) sends asked w a numbers m h stands) refl refl refl)

-- ---- a message has its fate, and a return goes back

fated_linked : (n : NodeState) (w : Work) (m : Message) (f : Fate) → IsLinked n w → IsLinked n (fated w m f)
fated_linked n w m f h = linked_more n w (fate_entry f) (after_fate w.sockets m f) h (fate_leaves f)

goes_back : (n : NodeState) (d : Due) (sends asked : List Entry) (w : Work) (m : Message) (arrived : Bool) (back : Message) (w' : Work) (frames : List Outgoing)
    → IsWorked n d (due_of_returned (addr_of_word n.own) back) sends asked w → IsLinked n w → IsReturn (addr_of_word n.own) m arrived back → GoesBack n.own w back w' frames → IsDone n d sends asked w'
goes_back n d sends asked w m arrived back w' frames h linked r goes = by (comes_home (addr_of_word n.own) back) refl
  where
    due : (b : Bool) → comes_home (addr_of_word n.own) back ≡ b → due_of_returned (addr_of_word n.own) back ≡ (if b then FateDue back false else ReturnDue back)
    due b is = ap (λ (c : Bool). if c then FateDue back false else ReturnDue back) is

    by : (b : Bool) → comes_home (addr_of_word n.own) back ≡ b → IsDone n d sends asked w'
    by true is =
        let f = fate_of w false back in
        let now = subst (λ x. IsWorked n d x sends asked w) (due true is) h in
        let after = fated_worked n d NothingDue sends asked w back false now linked r.payload (λ _. r.there w.sockets) (r.once w.sockets (waiting_to w.neighbours (origin_of back))) in
        let same : fated w back f ≡ w' = sym (goes.home is).0 in
        (subst (IsWorked n d NothingDue sends asked) same after, subst (IsLinked n) same (fated_linked n w back f linked))
    by false is =
        let now = subst (λ x. IsWorked n d x sends asked w) (due false is) h in
        (passed_worked n d sends asked w back w' frames now linked r.payload (goes.away is), puts_linked n w _ back w' frames linked (goes.away is))

pub settles_worked : (n : NodeState) (d : Due) (sends asked : List Entry) (w : Work) (arrived : Bool) (m : Message) (w' : Work) (frames : List Outgoing) → IsWorked n d (FateDue m arrived) sends asked w → IsLinked n w
    → is_payload m ≡ true → (arrived ≡ false → is_for_one_there w.sockets m ≡ true) → GivesFate n.own w arrived m w' frames → IsDone n d sends asked w'
settles_worked n d sends asked w arrived m w' frames h linked payload there settles = by (fate_of w arrived m) refl settles
  where
    own : Addr
    own = addr_of_word n.own

    -- the work after a fate
    has : (f : Fate) (next : Due) → fate_of w arrived m ≡ f → due_after own (FateDue m arrived) (fate_entry f) ≡ next → IsWorked n d next sends asked (fated w m f)
    has f next is due =
        subst (λ g. IsWorked n d next sends asked (fated w m g)) is (fated_worked n d next sends asked w m arrived h linked payload there (ap (λ g. due_after own (FateDue m arrived) (fate_entry g)) is ∙ due))

    rests : (f : Fate) → fate_of w arrived m ≡ f → due_after own (FateDue m arrived) (fate_entry f) ≡ NothingDue → w' ≡ fated w m f → IsDone n d sends asked w'
    rests f is due after = (subst (IsWorked n d NothingDue sends asked) (sym after) (has f NothingDue is due), subst (IsLinked n) (sym after) (fated_linked n w m f linked))

    by : (f : Fate) → fate_of w arrived m ≡ f → Follows n.own w m f w' frames → IsDone n d sends asked w'
    by (Queued ports) is step = rests (Queued ports) is refl step.0
    by (ReturnDropped waiting) is step = rests (ReturnDropped waiting) is refl step.0
    by Dropped is step = rests Dropped is refl step.0
    by (Returned back) is step =
        let r = returned_is own w.sockets arrived (waiting_to w.neighbours (origin_of m)) m back is in
        goes_back n d sends asked (fated w m (Returned back)) m arrived back w' frames (has (Returned back) (due_of_returned own back) is r.due) (fated_linked n w m (Returned back) linked) r step

-- ---- what is delivered

-- what is given is a message that is delivered, or something that is dropped
abbrev IsGiven : Entry → Option Message → Type 0
IsGiven (entry.Dropped place) None = Unit {0}
IsGiven (entry.Delivered peer numbers flow m by) (Some x) = m ≡ x
IsGiven e o = ⊥

abbrev pub AreGiven : List Delivery → Type 0
AreGiven [] = Unit {0}
AreGiven (d ∷ ds) = IsGiven d.entry d.message × AreGiven ds

given_one : (flow : Flow) (peer : ℕ) (numbers : ℕ × ℕ) (o : Opened) → IsGiven (delivery_of flow peer numbers o).entry (delivery_of flow peer numbers o).message
given_one flow peer numbers (Whole packet by) = of (message_in_flow flow packet)
  where
    of : (x : Option Message) → IsGiven (delivered_by flow peer numbers x by) x
    of None = tt
    of (Some m) = refl
given_one flow peer numbers (Passed place) = tt

pub all_given : (flow : Flow) (peer : ℕ) (numbers : ℕ × ℕ) (opened : List Opened) → AreGiven (deliveries_of flow peer numbers opened)
all_given flow peer numbers [] = tt
all_given flow peer numbers (o ∷ opened) = (given_one flow peer numbers o, all_given flow peer numbers opened)

-- the contact with a node stays while messages are put
reached_stable : (own : ℕ) (a : Addr) → IsStable own (λ w. is_some (contact_at w.neighbours a) ≡ true)
reached_stable own a = record {
  put = λ w peer m w' frames h is.
      ap (λ (u : Work). is_some (contact_at u.neighbours a)) h.after ∙ ap is_some (contact_set w.neighbours peer h.neighbour h.then h.was (put_alike own w peer m w' frames h) a) ∙ is;
  fate = λ w m f is. is;
  note = λ w es is. is;
}

-- where something is delivered from a peer there is contact with it
abbrev pub IsInContact : ℕ → Work → List Delivery → Type 0
IsInContact peer w ds = (x : Delivery) (xs : List Delivery) → ds ≡ x ∷ xs → is_some (contact_at w.neighbours (addr_of_word (node_word peer))) ≡ true

pub still_in_contact : (own peer : ℕ) (w : Work) (ms : List Message) (w' : Work) (frames : List Outgoing) (ds : List Delivery) → PutsEach own peer w ms w' frames → IsInContact peer w ds → IsInContact peer w' ds
still_in_contact own peer w ms w' frames ds puts is x xs some =
    let a = addr_of_word (node_word peer) in
    puts_stable own peer (λ (u : Work). is_some (contact_at u.neighbours a) ≡ true) (reached_stable own a) w ms w' frames puts (is x xs some)

-- a user's message has its fate, and items are applied
taken_in : (n : NodeState) (d : Due) (sends asked : List Entry) (peer : ℕ) (w : Work) (m : Message) (w' : Work) (frames : List Outgoing) → IsWorked n d (due_of_delivered m) sends asked w → IsLinked n w
    → IsPeer n w.inside (node_word peer) → DeliversTo n.own peer w (Some m) w' frames → IsDone n d sends asked w'
taken_in n d sends asked peer w (Payload importance form from to kind lower upper code droppable body) w' frames h linked is step =
    settles_worked n d sends asked w true (Payload importance form from to kind lower upper code droppable body) w' frames h linked refl (λ wrong. absurd cc) step
taken_in n d sends asked peer w (Items withdrawal items) w' frames h linked is step =
    subst (IsDone n d sends asked) (sym step.0) (with_items_done n d sends asked peer withdrawal items w (h, linked) is)

one_delivered : (n : NodeState) (d : Due) (sends asked : List Entry) (peer : ℕ) (w : Work) (e : Entry) (o : Option Message) (w' : Work) (frames : List Outgoing) → IsDone n d sends asked w → IsGiven e o
    → IsPeer n w.inside (node_word peer) → DeliversTo n.own peer (noted w (e ∷ [])) o w' frames → IsDone n d sends asked w'
one_delivered n d sends asked peer w (entry.Dropped place) None w' frames h given is step = subst (IsDone n d sends asked) (sym step.0) (dropped_done n d sends asked w place h)
one_delivered n d sends asked peer w (entry.Delivered from numbers flow m by) (Some x) w' frames h given is step =
    let e = entry.Delivered from numbers flow m by in
    let after = noted w (e ∷ []) in
    let now = subst (λ y. IsWorked n d (due_of_delivered y) sends asked after) given (delivered_worked n d sends asked w from numbers flow m by h.0) in
    let still : IsPeer n after.inside (node_word peer) = record { other = is.other; contact = ap is_some (contact_inside n.journal w.inside e (addr_of_word (node_word peer))) ∙ is.contact } in
    taken_in n d sends asked peer after x w' frames now (linked_more n w e w.sockets h.1 (λ a z. refl)) still step
one_delivered n d sends asked peer w e o w' frames h given is step = absurd given

pub all_delivered : (n : NodeState) (d : Due) (sends asked : List Entry) (peer : ℕ) (w : Work) (ds : List Delivery) (w' : Work) (frames : List Outgoing) → (node_word peer == n.own) ≡ false → IsDone n d sends asked w → AreGiven ds
    → IsInContact peer w ds → DeliversAll n.own peer w ds w' frames → IsDone n d sends asked w'
all_delivered n d sends asked peer _ _ _ _ other h given is (none_left w) = h
all_delivered n d sends asked peer _ _ _ _ other h given is (one_more w between last x ds first rest one more) =
    let a = addr_of_word (node_word peer) in
    let some = is x ds refl in
    let here : IsPeer n w.inside (node_word peer) = record { other = other; contact = ap is_some (h.1.contacts a) ∙ some } in
    let later = delivers_stable n.own peer (λ (u : Work). is_some (contact_at u.neighbours a) ≡ true) (reached_stable n.own a) w x between first one some in
    all_delivered n d sends asked peer between ds last rest other (one_delivered n d sends asked peer w x.entry x.message between first h given.0 here one) given.1 (λ y ys same. later) more
