-- What a broadcast packet delivers changes no names, and tells no peer of any: it has users' messages alone.
use Rattle.std.proofs.Common.{◌≡◌, ℕ, Bool, true, false, List, [], ◌∷◌, Option, Some, None, ◌&&◌, append-nil, refl, sym, ap, ◌∙◌}
use Rattle.tipc_types.specs.declared.message_forms.Flow.{Flow}
use Rattle.tipc_types.specs.declared.message_forms.Flow.TheVariants.{Zero, One, Broadcast}
use Rattle.tipc_types.specs.declared.message_forms.Message.{Message}
use Rattle.tipc_types.specs.declared.message_forms.Message.TheVariants.{Items, Payload}
use Rattle.tipc_outside.specs.declared.outgoing.Outgoing.{Outgoing}
use Rattle.tipc_journal.specs.declared.entries.Entry.{Entry}
use Rattle.tipc_journal.specs.declared.entries.Entry.TheVariants as entry
use Rattle.tipc_journal.specs.Streams.{flow_eq}
use Rattle.tipc_reassembly.specs.declared.opening.Opened.{Opened}
use Rattle.tipc_reassembly.specs.declared.opening.Opened.TheVariants.{Passed, Whole}
use Rattle.tipc_sockets.specs.declared.fates.Fate.{Fate}
use Rattle.tipc_sockets.specs.declared.fates.Fate.TheVariants.{Dropped, Queued, Returned, ReturnDropped}
use Rattle.tipc_sockets.specs.Telling.{fate_entry, is_payload}
use Rattle.tipc_node.specs.declared.frames.Delivery.{Delivery}
use Rattle.tipc_node.specs.Messages.{in_flow, message_in, message_in_flow}
use Rattle.tipc_node.specs.Nodes.{deliveries_of, delivered_by}
use Rattle.tipc_node.specs.Turns.{is_change_of, is_delivered_from}
use Rattle.tipc_node.specs.Works.{Delivers, DeliversAll, DeliversTo, Work, noted}
use Rattle.tipc_node.specs.Works.DeliversAll.{none_left, one_more}
use Rattle.tipc_node.proofs.names.SharingEntries.{is_beside, is_plain_for, keeps_live}
use Rattle.tipc_node.proofs.names.SharingWork.{AddsOf, IsOpen, adds_one, adds_then, settles_adds}

-- ---- entries

-- an entry of a broadcast arrival: users' messages alone are accepted, what is delivered was broadcast, and names and contacts stay
abbrev pub is_of_cast : Entry → Bool
is_of_cast (entry.Accepted c numbers flow message) = is_payload message
is_of_cast (entry.Delivered c numbers flow message by) = flow_eq flow Broadcast
is_of_cast (entry.Learned p) = false
is_of_cast (entry.Forgot p) = false
is_of_cast (entry.Published p) = false
is_of_cast (entry.Withdrawn p) = false
is_of_cast (entry.LinkUp c bearer own theirs) = false
is_of_cast (entry.LinkDown c bearer because shown) = false
is_of_cast (entry.ContactUp c numbers) = false
is_of_cast (entry.ContactDown c numbers states shown) = false
is_of_cast other = true

cast_open : IsOpen is_of_cast
cast_open = record { fates = fates; users = λ c numbers flow m user. user }
  where
    fates : (f : Fate) → is_of_cast (fate_entry f) ≡ true
    fates (Queued ports) = refl
    fates (Returned (Payload importance form from to kind lower upper code droppable body)) = refl
    fates (Returned (Items withdrawal items)) = refl
    fates (ReturnDropped waiting) = refl
    fates Dropped = refl

pub cast_changes : (b : ℕ) (e : Entry) → is_of_cast e ≡ true → is_change_of b e ≡ false
cast_changes b (entry.LinkUp c bearer own theirs) is = absurd cc
cast_changes b (entry.LinkDown c bearer because shown) is = absurd cc
cast_changes b (entry.ContactUp c numbers) is = absurd cc
cast_changes b (entry.ContactDown c numbers states shown) is = absurd cc
cast_changes b other is = refl

never : (b : Bool) → (b && false) ≡ false
never true = refl
never false = refl

pub cast_elsewhere : (b : ℕ) (e : Entry) → is_of_cast e ≡ true → is_delivered_from b e ≡ false
cast_elsewhere b (entry.Delivered c numbers flow message by) is = of flow is
  where
    of : (its : Flow) → flow_eq its Broadcast ≡ true → is_delivered_from b (entry.Delivered c numbers its message by) ≡ false
    of Zero wrong = absurd cc
    of One wrong = absurd cc
    of Broadcast right = never _
cast_elsewhere b other is = refl

pub cast_beside : (b : ℕ) (e : Entry) → is_of_cast e ≡ true → is_beside b e ≡ true
cast_beside b (entry.Learned p) is = absurd cc
cast_beside b (entry.Forgot p) is = absurd cc
cast_beside b (entry.ContactDown c numbers states shown) is = absurd cc
cast_beside b other is = refl

pub cast_plain_for : (b : ℕ) (e : Entry) → is_of_cast e ≡ true → is_plain_for b e ≡ true
cast_plain_for b (entry.Accepted c numbers flow message) is = rw is refl
cast_plain_for b other is = refl

pub cast_lives : (e : Entry) → is_of_cast e ≡ true → keeps_live e ≡ true
cast_lives (entry.Published p) is = absurd cc
cast_lives (entry.Withdrawn p) is = absurd cc
cast_lives other is = refl

-- ---- what is delivered

-- it is a user's message, where there is one
abbrev IsUsers : Delivery → Type 0
IsUsers d = (is_of_cast d.entry ≡ true) × ((m : Message) → d.message ≡ Some m → is_payload m ≡ true)

abbrev AreUsers : List Delivery → Type 0
AreUsers [] = Unit {0}
AreUsers (d ∷ ds) = IsUsers d × AreUsers ds

broadcast_users : (o : Option Message) (m : Message) → in_flow Broadcast o ≡ Some m → is_payload m ≡ true
broadcast_users None m is = absurd cc
broadcast_users (Some (Items withdrawal items)) m is = absurd cc
broadcast_users (Some (Payload importance form from to kind lower upper code droppable body)) m is =
    ap is_payload (let same : m ≡ Payload importance form from to kind lower upper code droppable body = cc in same)

one_users : (peer : ℕ) (contact : ℕ × ℕ) (packet by : List ℕ) (o : Option Message) → message_in_flow Broadcast packet ≡ o → IsUsers (record { entry = delivered_by Broadcast peer contact o by; message = o })
one_users peer contact packet by None is = (refl, λ m some. absurd cc)
one_users peer contact packet by (Some x) is = (refl, λ m some. broadcast_users (message_in packet) m (is ∙ some))

all_users : (peer : ℕ) (contact : ℕ × ℕ) (opened : List Opened) → AreUsers (deliveries_of Broadcast peer contact opened)
all_users peer contact [] = tt
all_users peer contact (Passed place ∷ opened) = ((refl, λ m some. absurd cc), all_users peer contact opened)
all_users peer contact (Whole packet by ∷ opened) = (one_users peer contact packet by (message_in_flow Broadcast packet) refl, all_users peer contact opened)

nothing_adds : (w w' : Work) → w' ≡ w → AddsOf is_of_cast w w'
nothing_adds w w' same = record { entries = []; inside = ap (λ (u : Work). u.inside) same ∙ sym (append-nil w.inside); all = refl }

message_adds : (own peer : ℕ) (w : Work) (o : Option Message) (w' : Work) (frames : List Outgoing) → ((m : Message) → o ≡ Some m → is_payload m ≡ true) → DeliversTo own peer w o w' frames → AddsOf is_of_cast w w'
message_adds own peer w None w' frames users h = nothing_adds w w' h.0
message_adds own peer w (Some (Items withdrawal items)) w' frames users h = absurd (let wrong : false ≡ true = users (Items withdrawal items) refl in cc)
message_adds own peer w (Some (Payload importance form from to kind lower upper code droppable body)) w' frames users h =
    settles_adds is_of_cast own w true (Payload importance form from to kind lower upper code droppable body) w' frames cast_open h

delivery_adds : (own peer : ℕ) (w : Work) (d : Delivery) (w' : Work) (frames : List Outgoing) → IsUsers d → Delivers own peer w d w' frames → AddsOf is_of_cast w w'
delivery_adds own peer w d w' frames users h =
    let v = noted w (d.entry ∷ []) in
    adds_then is_of_cast w v w' (adds_one is_of_cast w v d.entry refl users.0) (message_adds own peer v d.message w' frames users.1 h)

all_adds : (own peer : ℕ) (w : Work) (ds : List Delivery) (w' : Work) (frames : List Outgoing) → AreUsers ds → DeliversAll own peer w ds w' frames → AddsOf is_of_cast w w'
all_adds own peer _ _ _ _ users (none_left w) = nothing_adds w w refl
all_adds own peer _ _ _ _ users (one_more w between last d ds first rest one others) =
    adds_then is_of_cast w between last (delivery_adds own peer w d between first users.0 one) (all_adds own peer between ds last rest users.1 others)

pub casts_add : (own peer : ℕ) (contact : ℕ × ℕ) (opened : List Opened) (w w' : Work) (frames : List Outgoing) → DeliversAll own peer w (deliveries_of Broadcast peer contact opened) w' frames → AddsOf is_of_cast w w'
casts_add own peer contact opened w w' frames h = all_adds own peer w (deliveries_of Broadcast peer contact opened) w' frames (all_users peer contact opened) h
