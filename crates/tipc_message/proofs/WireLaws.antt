-- A message that is sent is the message that is read.
use Rattle.std.proofs.Common.{◌≡◌, ℕ, Some, List, refl, sym, ap, ◌∙◌, Bool}
use Rattle.tipc_types.specs.declared.identity.PortId.{PortId}
use Rattle.tipc_types.specs.declared.message_forms.Item.{Item}
use Rattle.tipc_types.specs.declared.message_forms.Form.{Form}
use Rattle.tipc_types.specs.declared.message_forms.Form.TheVariants as form
use Rattle.tipc_types.specs.declared.message_forms.Importance.{Importance}
use Rattle.tipc_types.specs.declared.message_forms.Importance.TheVariants.{Low, Medium, High, Critical}
use Rattle.tipc_types.specs.declared.message_forms.Message.{Message}
use Rattle.tipc_types.specs.declared.message_forms.Message.TheVariants.{Payload, Items}
use Rattle.tipc_header.specs.Grammar.{Fits}
use Rattle.tipc_header.specs.Spelling.{spelling, Fields}
use Rattle.tipc_message.specs.ItemWords.{AreInWords}
use Rattle.tipc_message.specs.Wire.{importance_number, importance_of, items_packet, message_of, packet_of, payload_of, payload_packet, port_at, IsPayload}
use Rattle.tipc_message.proofs.ItemLaws.{packet_again}

importance-again : (i : Importance) → importance_of (importance_number i) ≡ i
importance-again Low = refl
importance-again Medium = refl
importance-again High = refl
importance-again Critical = refl

-- the packet of a payload message, read again
payload-again : (own : ℕ) (i : Importance) (f : Form) (from to : PortId) (kind lower upper code : ℕ) (droppable : Bool) (body : List ℕ) → IsPayload (Payload i f from to kind lower upper code droppable body) → message_of (payload_packet own (payload_of i f from to kind lower upper code droppable) body) ≡ Some (Payload i f from to kind lower upper code droppable body)
unfolding message_of
payload-again own i form.Connected from to kind lower upper code droppable body h =
    let f = h.0 in
    let from_is : port_at 0 from.port ≡ from = ap (λ w. port_at w from.port) (sym f.0) in
    let to_is : port_at 0 to.port ≡ to = ap (λ w. port_at w to.port) (sym f.1) in
    rw (importance-again i) (cc (from_is, to_is))
payload-again own i form.Multicast from to kind lower upper code droppable body h = rw (importance-again i) refl
payload-again own i form.Named from to kind lower upper code droppable body h =
    let f = h.0 in
    let from_is : port_at from.node.word from.port ≡ from = refl in
    let to_is : port_at to.node.word to.port ≡ to = refl in
    rw (importance-again i) (cc (from_is, to_is))
payload-again own i form.Direct from to kind lower upper code droppable body h =
    let f = h.0 in
    let from_is : port_at from.node.word from.port ≡ from = refl in
    let to_is : port_at to.node.word to.port ≡ to = refl in
    rw (importance-again i) (cc (from_is, to_is))

-- a user's message
pub message_of-packet_of : (own : ℕ) (m : Message) (p : Fields) → IsPayload m → packet_of own m ≡ Some p → message_of p ≡ Some m
unfolding packet_of
message_of-packet_of own (Payload i f from to kind lower upper code droppable body) p h is =
    let same : payload_packet own (payload_of i f from to kind lower upper code droppable) body ≡ p = cc in
    ap message_of (sym same) ∙ payload-again own i f from to kind lower upper code droppable body h
message_of-packet_of own (Items withdrawal items) p h is = absurd h

-- items
pub items_of-packet_of : (own : ℕ) (withdrawal : Bool) (items : List Item) (p : Fields) → AreInWords items → packet_of own (Items withdrawal items) ≡ Some p → message_of p ≡ Some (Items withdrawal items)
unfolding packet_of
items_of-packet_of own withdrawal items p are is =
    let same : items_packet own withdrawal items ≡ p = cc in
    ap message_of (sym same) ∙ packet_again own withdrawal items are

-- what is sent of items, where the message is one of them
pub sent_items : (own : ℕ) (m : Message) (withdrawal : Bool) (items given : List Item) (bytes : List ℕ) → m ≡ Items withdrawal items → given ≡ items
    → Fits (items_packet own withdrawal given) × (bytes ≡ spelling (items_packet own withdrawal given)) × (message_of (items_packet own withdrawal given) ≡ Some (Items withdrawal given))
    → (p : Fields) × (packet_of own m ≡ Some p) × Fits p × (bytes ≡ spelling p) × (message_of p ≡ Some m)
unfolding packet_of
sent_items own m withdrawal items given bytes is same sent =
    let whole : Items withdrawal given ≡ m = ap (Items withdrawal) same ∙ sym is in
    (items_packet own withdrawal given, ap (packet_of own) (sym whole), sent.0, sent.1, sent.2 ∙ ap Some whole)
