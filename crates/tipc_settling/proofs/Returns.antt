-- A message that goes back: it was none that came back itself, and it goes in one packet.
use Rattle.std.specs.Prelude.{if◌then◌else◌, not, ◌==◌, ◌&&◌, ◌||◌, nat_le, nat_lt, take}
use Rattle.std.proofs.Common.{◌≡◌, ◌≤◌, ℕ, Bool, true, false, List, Option, Some, None, length, refl, ap, subst, arith}
use Rattle.std.proofs.lemmas.Bool.Decides.{nat_tests}
use Rattle.std.proofs.lemmas.List.{length-take}
use Rattle.tipc_types.specs.declared.message_forms.Form.{Form}
use Rattle.tipc_types.specs.declared.message_forms.Form.TheVariants.{Connected, Direct, Multicast, Named}
use Rattle.tipc_types.specs.declared.message_forms.Importance.{Importance}
use Rattle.tipc_types.specs.declared.message_forms.Message.{Message}
use Rattle.tipc_types.specs.declared.message_forms.Message.TheVariants.{Items, Payload}
use Rattle.tipc_types.specs.declared.identity.PortId.{PortId}
use Rattle.tipc_header.proofs.Again.{length-spelling}
use Rattle.tipc_message.specs.Wire.{packet_of, payload_of, payload_packet}
use Rattle.tipc_journal.specs.Dues.{returned_message}
use Rattle.tipc_pair.specs.Messages.{pieces_for}
use Rattle.tipc_sockets.specs.declared.fates.Fate.TheVariants.{Dropped, ReturnDropped, Returned}
use Rattle.tipc_sockets.specs.Fates.{fate, is_by_name, is_offered, one_port_fate, refusal, return_fate, room_refusal}
use Rattle.tipc_sockets.specs.SocketTables.{SocketTable, queue_at}
use Rattle.tipc_node.specs.Messages.{bytes_of}
use Rattle.tipc_settling.specs.Loads.{weight_of}

-- what goes back of a message: a return, in one packet; and the message was none
pub record IsReturnOf (own : ℕ) (m back : Message) : Type 0 where
  pub heavy : weight_of m ≡ 3
  pub light : weight_of back ≡ 1
  pub one : length (pieces_for (bytes_of own back)) ≡ 1

-- a short message goes in one packet
one_packet : (bytes : List ℕ) → length bytes ≤ 1452 → length (pieces_for bytes) ≡ 1
unfolding pieces_for
one_packet bytes short = let is : nat_le (length bytes) 1452 ≡ true = grind (arith, nat_tests, short) in rw is refl

returned_short : (own why : ℕ) (importance : Importance) (from to : PortId) (body : List ℕ) → length (bytes_of own (Payload importance Direct to from 0 0 0 why false (take 1024 body))) ≤ 1452
unfolding bytes_of packet_of
returned_short own why importance from to body =
    let p = payload_packet own (payload_of importance Direct to from 0 0 0 why false) (take 1024 body) in
    let long = length-spelling p in
    let few = length-take 1024 body in
    omega (arith, long, few)

-- there is a reason why it goes back, and it didn't before
abbrev IsReason : ℕ → Type 0
IsReason why = (why == 0) ≡ false

return_of : (own why : ℕ) (importance : Importance) (form : Form) (from to : PortId) (kind lower upper code : ℕ) (droppable : Bool) (body : List ℕ) → (code == 0) ≡ true → IsReason why
    → IsReturnOf own (Payload importance form from to kind lower upper code droppable body) (returned_message why (Payload importance form from to kind lower upper code droppable body))
return_of own why importance form from to kind lower upper code droppable body first reason = record {
  heavy = ap (λ b. if b then 3 else 1) first;
  light = ap (λ b. if b then 3 else 1) reason;
  one = one_packet _ (returned_short own why importance from to body);
}

room_reason : (o : Option (List Message)) (why : ℕ) → room_refusal o ≡ Some why → IsReason why
room_reason None why is = (let same : 2 ≡ why = cc in grind (arith, nat_tests, same))
room_reason (Some waiting) why is = by (nat_lt (length waiting) 128) is
  where
    by : (b : Bool) → (if b then None else Some 4) ≡ Some why → IsReason why
    by true there = absurd (let wrong : None ≡ Some why = there in cc)
    by false there = (let same : 4 ≡ why = cc in grind (arith, nat_tests, same))

refused : (b : Bool) (o : Option (List Message)) (why : ℕ) → (if b then Some 1 else room_refusal o) ≡ Some why → IsReason why
refused true o why is = (let same : 1 ≡ why = cc in grind (arith, nat_tests, same))
refused false o why is = room_reason o why is

-- what goes back is the return that was to go back
went : (home : Bool) (waiting : Option ℕ) (m back : Message) → return_fate home waiting m ≡ Returned back → m ≡ back
went true waiting m back is = cc
went false None m back is = absurd cc
went false (Some waiting) m back is = by (nat_le 200 waiting) is
  where
    by : (b : Bool) → (if b then ReturnDropped waiting else Returned m) ≡ Returned back → m ≡ back
    by true there = absurd (let wrong : ReturnDropped waiting ≡ Returned back = there in cc)
    by false there = cc

unqueued : (own : ℕ) (home : Bool) (waiting : Option ℕ) (why : ℕ) (importance : Importance) (form : Form) (from to : PortId) (kind lower upper code : ℕ) (droppable : Bool) (body : List ℕ) (back : Message) → IsReason why
    → (if droppable || not (code == 0) then Dropped else return_fate home waiting (returned_message why (Payload importance form from to kind lower upper code droppable body))) ≡ Returned back
    → IsReturnOf own (Payload importance form from to kind lower upper code droppable body) back
unqueued own home waiting why importance form from to kind lower upper code true body back reason is = absurd (let wrong : Dropped ≡ Returned back = is in cc)
unqueued own home waiting why importance form from to kind lower upper code false body back reason is = by (code == 0) refl is
  where
    m : Message
    m = Payload importance form from to kind lower upper code false body

    by : (b : Bool) → (code == 0) ≡ b → (if not b then Dropped else return_fate home waiting (returned_message why m)) ≡ Returned back → IsReturnOf own m back
    by false other there = absurd (let wrong : Dropped ≡ Returned back = there in cc)
    by true first there = subst (IsReturnOf own m) (went home waiting (returned_message why m) back there) (return_of own why importance form from to kind lower upper code false body first reason)

by_reason : (own at : ℕ) (waiting : Option ℕ) (port : ℕ) (reason : Option ℕ) (importance : Importance) (form : Form) (from to : PortId) (kind lower upper code : ℕ) (droppable : Bool) (body : List ℕ) (back : Message)
    → ((why : ℕ) → reason ≡ Some why → IsReason why) → one_port_fate at waiting port reason (Payload importance form from to kind lower upper code droppable body) ≡ Returned back
    → IsReturnOf own (Payload importance form from to kind lower upper code droppable body) back
by_reason own at waiting port None importance form from to kind lower upper code droppable body back reasons is = absurd cc
by_reason own at waiting port (Some why) importance form from to kind lower upper code droppable body back reasons is =
    unqueued own (from.node.word == at) waiting why importance form from to kind lower upper code droppable body back (reasons why refl) is

-- a message that goes back by its fate
pub returns : (own : ℕ) (s : SocketTable) (arrived : Bool) (waiting : Option ℕ) (m back : Message) → fate s arrived waiting m ≡ Returned back → IsReturnOf own m back
returns own s arrived waiting (Payload importance Connected from to kind lower upper code droppable body) back is = absurd cc
returns own s arrived waiting (Payload importance Multicast from to kind lower upper code droppable body) back is = absurd cc
returns own s arrived waiting (Payload importance Named from to kind lower upper code droppable body) back is =
    by_reason own s.own waiting to.port (refusal s arrived Named to.port kind lower) importance Named from to kind lower upper code droppable body back
    (λ why there. refused (arrived && (is_by_name Named && not (is_offered s.live to.port kind lower))) (queue_at s to.port) why there) is
returns own s arrived waiting (Payload importance Direct from to kind lower upper code droppable body) back is =
    by_reason own s.own waiting to.port (refusal s arrived Direct to.port kind lower) importance Direct from to kind lower upper code droppable body back
    (λ why there. refused (arrived && (is_by_name Direct && not (is_offered s.live to.port kind lower))) (queue_at s to.port) why there) is
returns own s arrived waiting (Items withdrawal items) back is = absurd cc
