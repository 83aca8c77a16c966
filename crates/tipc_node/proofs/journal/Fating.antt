-- What a message's fate makes of a node's work on a step, and what a return is.
use Rattle.std.proofs.Common.{◌≡◌, ◌≤◌, ◌==◌, ◌&&◌, ◌||◌, ℕ, Bool, true, false, not, List, [], ◌∷◌, ◌++◌, Option, Some, None, filter, is_some, length, take, refl, sym, ap, ◌∙◌, subst}
use Rattle.std.specs.Prelude.{if◌then◌else◌, nat_le, nat_lt, option_and_then, option_map, slice_index_or}
use Rattle.std.specs.List.{list_all}
use Rattle.tipc_types.specs.declared.identity.Addr.{Addr}
use Rattle.tipc_types.specs.declared.identity.PortId.{PortId}
use Rattle.tipc_types.specs.declared.message_forms.Form.{Form}
use Rattle.tipc_types.specs.declared.message_forms.Form.TheVariants.{Connected, Multicast, Direct}
use Rattle.tipc_types.specs.declared.message_forms.Importance.{Importance}
use Rattle.tipc_types.specs.declared.message_forms.Message.{Message}
use Rattle.tipc_types.specs.declared.message_forms.Message.TheVariants.{Payload, Items}
use Rattle.tipc_journal.specs.declared.entries.Entry.{Entry}
use Rattle.tipc_journal.specs.Contacts.{contact, contact_after}
use Rattle.tipc_journal.specs.Dues.{Due, FateDue, NothingDue, due_after, due_of_returned, returned_message}
use Rattle.tipc_journal.specs.Licensed.{is_asked_for}
use Rattle.tipc_journal.proofs.Insides.{contact_inside}
use Rattle.tipc_pair.specs.Facing.{contact_between}
use Rattle.tipc_sockets.specs.declared.fates.Fate.{Fate}
use Rattle.tipc_sockets.specs.declared.fates.Fate.TheVariants.{Queued, Returned, ReturnDropped, Dropped}
use Rattle.tipc_sockets.specs.Fates.{after_fate, fate, is_by_name, is_offered, one_port_fate, refusal, return_fate, room_refusal, unqueued_fate}
use Rattle.tipc_sockets.specs.SocketTables.{AreSockets, SocketTable, queue_at, queued_at_each}
use Rattle.tipc_sockets.specs.Telling.{fate_entry, is_for_one_there, is_payload, origin_of}
use Rattle.tipc_sockets.proofs.FatesTold.{fate_may, fate_told}
use Rattle.tipc_sockets.proofs.Keeping.{keys-queued_at_each, other_queues}
use Rattle.tipc_node.specs.declared.neighbours.Neighbour.{Neighbour}
use Rattle.tipc_node.specs.Nodes.{NodeState, load_with}
use Rattle.tipc_node.specs.Telling.{is_in_reach}
use Rattle.tipc_node.specs.Works.{Work, addr_of_word, fate_of, fated, neighbour_at, waiting_to}
use Rattle.tipc_pair.proofs.turns.ContactLoads.{load_contact}
use Rattle.tipc_node.proofs.journal.Noting.{IsWorked, reached_same, sent_by, worked_on}

-- ---- contacts

-- the contact with the node of an address, by what is kept of it
abbrev pub contact_at : List (Option Neighbour) → Addr → Option (ℕ × ℕ)
contact_at neighbours a = option_and_then (λ (x : Neighbour). contact_between x.pair) (neighbour_at neighbours a)

-- The entries so far tell the contacts of the neighbours so far. Each pair is seen from one of its two links, and no neighbour has the number 0.
pub record IsLinked (n : NodeState) (w : Work) : Type 0 where
  pub contacts : (a : Addr) → contact (n.journal ++ w.inside) a ≡ contact_at w.neighbours a
  pub two : (b : ℕ) (x : Neighbour) → slice_index_or w.neighbours b None ≡ Some x → x.pair.bearer ≤ 1
  pub nobody : slice_index_or w.neighbours 0 None ≡ None

-- so it is where nothing is due
abbrev pub IsDone : NodeState → Due → List Entry → List Entry → Work → Type 0
IsDone n d sends asked w = IsWorked n d NothingDue sends asked w × IsLinked n w

-- an entry that tells of no contact
pub linked_more : (n : NodeState) (w : Work) (e : Entry) (s : SocketTable) → IsLinked n w → ((a : Addr) (z : Option (ℕ × ℕ)) → contact_after a z e ≡ z)
    → IsLinked n (record w { sockets = s; inside = w.inside ++ e ∷ [] })
linked_more n w e s h leaves = record {
  contacts = λ a. contact_inside n.journal w.inside e a ∙ leaves a (contact (n.journal ++ w.inside) a) ∙ h.contacts a;
  two = h.two;
  nobody = h.nobody;
}

-- there is a load exactly where there is contact
pub load_some : (o : Option Neighbour) → ((x : Neighbour) → o ≡ Some x → x.pair.bearer ≤ 1) → is_some (load_with o) ≡ is_some (option_and_then (λ (x : Neighbour). contact_between x.pair) o)
load_some None two = refl
load_some (Some x) two = load_contact x.pair (two x refl)

mapped : {A B : Type 0} (f : A → B) (o : Option A) → is_some (option_map f o) ≡ is_some o
mapped f None = refl
mapped f (Some x) = refl

-- how many packets wait is told exactly where there is contact
pub waits_with : (n : NodeState) (w : Work) (a : Addr) → IsLinked n w → is_some (waiting_to w.neighbours a) ≡ is_some (contact (n.journal ++ w.inside) a)
waits_with n w a h =
    mapped (λ (load : ℕ × ℕ). load.1) (load_with (neighbour_at w.neighbours a)) ∙ load_some (neighbour_at w.neighbours a) (λ x is. h.two _ x is) ∙ ap is_some (sym (h.contacts a))

-- ---- a fate

fate_sound : (s : SocketTable) (m : Message) (f : Fate) → AreSockets s → AreSockets (after_fate s m f)
fate_sound s m (Queued ports) h = other_queues s (queued_at_each m s.queues ports) h (keys-queued_at_each m s.queues ports)
fate_sound s m (Returned back) h = h
fate_sound s m (ReturnDropped waiting) h = h
fate_sound s m Dropped h = h

fate_ports : (s : SocketTable) (m : Message) (f : Fate) → (after_fate s m f).ports ≡ s.ports
fate_ports s m (Queued ports) = refl
fate_ports s m (Returned back) = refl
fate_ports s m (ReturnDropped waiting) = refl
fate_ports s m Dropped = refl

pub fate_names : (s : SocketTable) (m : Message) (f : Fate) → (after_fate s m f).names ≡ s.names
fate_names s m (Queued ports) = refl
fate_names s m (Returned back) = refl
fate_names s m (ReturnDropped waiting) = refl
fate_names s m Dropped = refl

pub fate_leaves : (f : Fate) (a : Addr) (z : Option (ℕ × ℕ)) → contact_after a z (fate_entry f) ≡ z
fate_leaves (Queued ports) a z = refl
fate_leaves (Returned (Payload importance form from to kind lower upper code droppable body)) a z = refl
fate_leaves (Returned (Items withdrawal items)) a z = refl
fate_leaves (ReturnDropped waiting) a z = refl
fate_leaves Dropped a z = refl

fate_unsent : (m : Message) (arrived : Bool) (f : Fate) → sent_by (FateDue m arrived) (fate_entry f) ≡ []
fate_unsent m arrived (Queued ports) = refl
fate_unsent m arrived (Returned (Payload importance form from to kind lower upper code droppable body)) = refl
fate_unsent m arrived (Returned (Items withdrawal items)) = refl
fate_unsent m arrived (ReturnDropped waiting) = refl
fate_unsent m arrived Dropped = refl

fate_unasked : (f : Fate) → filter is_asked_for (fate_entry f ∷ []) ≡ []
fate_unasked (Queued ports) = refl
fate_unasked (Returned (Payload importance form from to kind lower upper code droppable body)) = refl
fate_unasked (Returned (Items withdrawal items)) = refl
fate_unasked (ReturnDropped waiting) = refl
fate_unasked Dropped = refl

-- a message has the fate that is due
pub fated_worked : (n : NodeState) (d next : Due) (sends asked : List Entry) (w : Work) (m : Message) (arrived : Bool) → IsWorked n d (FateDue m arrived) sends asked w → IsLinked n w → is_payload m ≡ true
    → (arrived ≡ false → is_for_one_there w.sockets m ≡ true) → due_after (addr_of_word n.own) (FateDue m arrived) (fate_entry (fate_of w arrived m)) ≡ next
    → IsWorked n d next sends asked (fated w m (fate_of w arrived m))
fated_worked n d next sends asked w m arrived h linked payload there due =
    let own = addr_of_word n.own in
    let f = fate_of w arrived m in
    let waiting = waiting_to w.neighbours (origin_of m) in
    worked_on n d (FateDue m arrived) next sends asked w (fate_entry f) (after_fate w.sockets m f) w.neighbours h (record {
      told = fate_told own n.journal d w.inside w.sockets h.told h.sound m arrived waiting h.due;
      sound = fate_sound w.sockets m f h.sound;
      ports = fate_ports w.sockets m f;
      reached = reached_same n.own n.journal w.inside (fate_entry f) (after_fate w.sockets m f).names (fate_leaves f) (ap (λ ps. list_all (is_in_reach n.own (n.journal ++ w.inside)) ps) (fate_names w.sockets m f) ∙ h.reached);
      stands = fate_may own n.journal d w.inside w.sockets h.told h.sound m arrived waiting payload (waits_with n w (origin_of m) linked) there;
      leaves = λ z. fate_leaves f own z;
    }) due (fate_unsent m arrived f) (fate_unasked f)

-- ---- a return

-- What is returned is a payload message, for which its fate or its way is due; it finds no name, and isn't returned again.
pub record IsReturn (own : Addr) (m : Message) (arrived : Bool) (back : Message) : Type 0 where
  pub due : due_after own (FateDue m arrived) (fate_entry (Returned back)) ≡ due_of_returned own back
  pub payload : is_payload back ≡ true
  pub there : (s : SocketTable) → is_for_one_there s back ≡ true
  pub once : (s : SocketTable) (waiting : Option ℕ) → due_after own (FateDue back false) (fate_entry (fate s false waiting back)) ≡ NothingDue

-- the reasons have numbers that aren't 0
room_reason : (o : Option (List Message)) (why : ℕ) → room_refusal o ≡ Some why → (why == 0) ≡ false
room_reason None why is = (let here : 2 ≡ why = cc in ap (λ k. k == 0) (sym here))
room_reason (Some waiting) why is = by (nat_lt (length waiting) 128) is
  where
    by : (b : Bool) → ◌≡◌ {A = Option ℕ} (if b then None else Some 4) (Some why) → (why == 0) ≡ false
    by true none = absurd cc
    by false some = (let here : 4 ≡ why = cc in ap (λ k. k == 0) (sym here))

reason_counts : (s : SocketTable) (arrived : Bool) (form : Form) (port kind instance why : ℕ) → refusal s arrived form port kind instance ≡ Some why → (why == 0) ≡ false
reason_counts s arrived form port kind instance why is = by (arrived && (is_by_name form && not (is_offered s.live port kind instance))) is
  where
    by : (b : Bool) → (if b then Some 1 else room_refusal (queue_at s port)) ≡ Some why → (why == 0) ≡ false
    by true some = (let here : 1 ≡ why = cc in ap (λ k. k == 0) (sym here))
    by false some = room_reason (queue_at s port) why some

-- only what is returned is given back
gives_back : (own : ℕ) (waiting : Option ℕ) (b : Bool) (x back : Message) → return_fate b waiting x ≡ Returned back → x ≡ back
gives_back own waiting true x back is = cc
gives_back own None false x back is = absurd cc
gives_back own (Some waiting) false x back is = by (nat_le 200 waiting) is
  where
    by : (b : Bool) → (if b then ReturnDropped waiting else Returned x) ≡ Returned back → x ≡ back
    by true dropped = absurd cc
    by false returned = cc

-- a return that isn't queued is dropped
returns_once : (own : Addr) (s : SocketTable) (waiting : Option ℕ) (importance : Importance) (from to : PortId) (why : ℕ) (body : List ℕ) → (why == 0) ≡ false
    → due_after own (FateDue (Payload importance Direct from to 0 0 0 why false body) false) (fate_entry (fate s false waiting (Payload importance Direct from to 0 0 0 why false body))) ≡ NothingDue
returns_once own s waiting importance from to why body counts = by (refusal s false Direct to.port 0 0)
  where
    m : Message
    m = Payload importance Direct from to 0 0 0 why false body

    by : (r : Option ℕ) → due_after own (FateDue m false) (fate_entry (one_port_fate s.own waiting to.port r m)) ≡ NothingDue
    by None = refl
    by (Some again) = ap (λ (b : Bool). due_after own (FateDue m false) (fate_entry (if not b then Dropped else return_fate (from.node.word == s.own) waiting (returned_message again m)))) counts

return_is : (own : Addr) (m back : Message) (arrived : Bool) (why : ℕ) → is_payload m ≡ true → (why == 0) ≡ false → returned_message why m ≡ back → IsReturn own m arrived back
return_is own (Items withdrawal items) back arrived why payload counts is = absurd cc
return_is own (Payload importance form from to kind lower upper code droppable body) back arrived why payload counts is =
    subst (IsReturn own (Payload importance form from to kind lower upper code droppable body) arrived) is (record {
      due = refl;
      payload = refl;
      there = λ s. refl;
      once = λ s waiting. returns_once own s waiting importance to from why (take 1024 body) counts;
    })

-- a message for one port
unqueued_return : (own : Addr) (number : ℕ) (waiting : Option ℕ) (m back : Message) (arrived : Bool) (why : ℕ) → is_payload m ≡ true → (why == 0) ≡ false → unqueued_fate number waiting why m ≡ Returned back
    → IsReturn own m arrived back
unqueued_return own number waiting (Items withdrawal items) back arrived why payload counts is = absurd cc
unqueued_return own number waiting (Payload importance form from to kind lower upper code droppable body) back arrived why payload counts is = by (droppable || not (code == 0)) is
  where
    m : Message
    m = Payload importance form from to kind lower upper code droppable body

    by : (b : Bool) → (if b then Dropped else return_fate (from.node.word == number) waiting (returned_message why m)) ≡ Returned back → IsReturn own m arrived back
    by true dropped = absurd cc
    by false returned = return_is own m back arrived why refl counts (gives_back number waiting (from.node.word == number) (returned_message why m) back returned)

one_port_return : (own : Addr) (number port : ℕ) (waiting : Option ℕ) (m back : Message) (arrived : Bool) (r : Option ℕ) → is_payload m ≡ true → ((why : ℕ) → r ≡ Some why → (why == 0) ≡ false)
    → one_port_fate number waiting port r m ≡ Returned back → IsReturn own m arrived back
one_port_return own number port waiting m back arrived None payload counts is = absurd cc
one_port_return own number port waiting m back arrived (Some why) payload counts is = unqueued_return own number waiting m back arrived why payload (counts why refl) is

pub returned_is : (own : Addr) (s : SocketTable) (arrived : Bool) (waiting : Option ℕ) (m back : Message) → fate s arrived waiting m ≡ Returned back → IsReturn own m arrived back
returned_is own s arrived waiting (Items withdrawal items) back is = absurd cc
returned_is own s arrived waiting (Payload importance Connected from to kind lower upper code droppable body) back is = absurd cc
returned_is own s arrived waiting (Payload importance Multicast from to kind lower upper code droppable body) back is = absurd cc
returned_is own s arrived waiting (Payload importance form from to kind lower upper code droppable body) back is =
    one_port_return own s.own to.port waiting (Payload importance form from to kind lower upper code droppable body) back arrived (refusal s arrived form to.port kind lower) refl
    (λ why refused. reason_counts s arrived form to.port kind lower why refused) is
