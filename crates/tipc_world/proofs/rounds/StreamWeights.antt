-- How much of what entries accept for peers, and deliver from them, is of the contacts with these peers.
use Rattle.std.specs.Prelude.{◌-◌, ◌==◌, if◌then◌else◌}
use Rattle.std.specs.List.{cons_option}
use Rattle.std.proofs.Common.{◌≡◌, ◌≢◌, ◌≤◌, ◌+◌, ◌*◌, ◌∙◌, ℕ, suc, Bool, true, false, List, [], ◌∷◌, ◌++◌, Option, Some, None, length, sum_by, refl, sym, ap, subst, arith, eqb-true}
use Rattle.std.proofs.lemmas.List.{length-append}
use Rattle.std.proofs.lemmas.List.Sums.{sum_by-append, sum_by-cons}
use Rattle.tipc_types.specs.Address.{node_word}
use Rattle.tipc_types.specs.Prefixes.{IsPrefixOf}
use Rattle.tipc_types.specs.declared.identity.Addr.{Addr}
use Rattle.tipc_types.specs.declared.message_forms.Flow.{Flow}
use Rattle.tipc_types.specs.declared.message_forms.Flow.TheVariants.{Broadcast, One, Zero}
use Rattle.tipc_types.specs.declared.message_forms.Message.{Message}
use Rattle.tipc_types.specs.declared.message_forms.Message.TheVariants.{Items, Payload}
use Rattle.tipc_journal.specs.declared.entries.Entry.{Entry}
use Rattle.tipc_journal.specs.declared.entries.Entry.TheVariants as entry
use Rattle.tipc_journal.specs.Streams.{Stream, accepted, delivered, stream_eq}
use Rattle.tipc_journal.proofs.StreamLaws.{accepted_append, delivered_append, stream_eq_refl}
use Rattle.tipc_link.proofs.LinkLaw.{Each}
use Rattle.tipc_node.specs.Turns.{addr_of}
use Rattle.tipc_settling.specs.Loads.{accepted_weight, accepts_weight, delivered_weight, delivers_weight, weight_of}
use Rattle.tipc_replay.specs.Sound.{IsNumber}
use Rattle.tipc_replay.specs.States.{stream_of}
use Rattle.tipc_replay.proofs.streams.Histories.{flows_apart, other_peer}
use Rattle.tipc_world.specs.Answered.{sum_to}
use Rattle.tipc_world.proofs.rounds.NumberSums.{sum_has, sum_of_one, sums_none, sums_together}

-- the contact in which a node is with each other one
abbrev pub Contacts : Type 0
Contacts = ℕ → Option (ℕ × ℕ)

-- the weight of messages, and of those of all flows
abbrev pub weight_all : List Message → ℕ
weight_all messages = sum_by weight_of messages

abbrev in_flows : (Flow → List Message) → ℕ
in_flows messages = weight_all (messages Zero) + weight_all (messages One) + weight_all (messages Broadcast)

-- of what is accepted for a peer in a contact, where there is one
abbrev pub accepted_with : List Entry → ℕ → Option (ℕ × ℕ) → ℕ
accepted_with entries b None = 0
accepted_with entries b (Some contact) = in_flows (λ flow. accepted entries (stream_of b contact.0 contact.1 flow))

-- of what is delivered from it
abbrev pub delivered_with : List Entry → ℕ → Option (ℕ × ℕ) → ℕ
delivered_with entries b None = 0
delivered_with entries b (Some contact) = in_flows (λ flow. delivered entries (stream_of b contact.0 contact.1 flow))

-- an entry that delivers does so in the contact with another node
abbrev pub IsInContact : Contacts → Entry → Type 0
IsInContact contacts (entry.Delivered peer contact flow message by) = (b : ℕ) × IsNumber b × (peer ≡ addr_of b) × (contacts b ≡ Some contact)
IsInContact contacts other = Unit {0}

-- ---- one message

one_weight : (t : Bool) (m : Message) → weight_all (cons_option (if t then Some m else None) []) ≡ (if t then weight_of m else 0)
one_weight true m = (let one = sum_by-cons weight_of m [] in let none : weight_all [] ≡ 0 = refl in omega (arith, one, none))
one_weight false m = refl

most_if : (t : Bool) (k : ℕ) → (if t then k else 0) ≤ k
most_if true k = omega arith
most_if false k = omega arith

-- whether a message of a flow of a contact with a peer is of a stream
abbrev is_of : Addr → ℕ × ℕ → Flow → Stream → Bool
is_of peer contact flow s = stream_eq (record { peer = peer; contact = contact; flow = flow }) s

accepted_is : (s : Stream) (peer : Addr) (contact : ℕ × ℕ) (flow : Flow) (m : Message) → weight_all (accepted (entry.Accepted peer contact flow m ∷ []) s) ≡ (if is_of peer contact flow s then weight_of m else 0)
unfolding accepted
accepted_is s peer contact flow m = one_weight (is_of peer contact flow s) m

delivered_is : (s : Stream) (peer : Addr) (contact : ℕ × ℕ) (flow : Flow) (m : Message) (by : List ℕ) → weight_all (delivered (entry.Delivered peer contact flow m by ∷ []) s) ≡ (if is_of peer contact flow s then weight_of m else 0)
unfolding delivered
delivered_is s peer contact flow m by = one_weight (is_of peer contact flow s) m

-- ---- one entry that accepts

-- it is of one flow at most
one_accepted : (b : ℕ) (c : ℕ × ℕ) (peer : Addr) (contact : ℕ × ℕ) (flow : Flow) (m : Message) → accepted_with (entry.Accepted peer contact flow m ∷ []) b (Some c) ≤ weight_of m
one_accepted b c peer contact flow m = by flow (accepted_is (at Zero) peer contact flow m) (accepted_is (at One) peer contact flow m) (accepted_is (at Broadcast) peer contact flow m)
  where
    at : Flow → Stream
    at f = stream_of b c.0 c.1 f

    counts : Flow → Flow → ℕ
    counts flow f = if is_of peer contact flow (at f) then weight_of m else 0

    most : (flow f : Flow) → counts flow f ≤ weight_of m
    most flow f = most_if (is_of peer contact flow (at f)) (weight_of m)

    none : (flow f : Flow) → is_of peer contact flow (at f) ≡ false → counts flow f ≡ 0
    none flow f apart = ap (λ t. if t then weight_of m else 0) apart

    by : (flow : Flow) → weight_all (accepted (entry.Accepted peer contact flow m ∷ []) (at Zero)) ≡ counts flow Zero → weight_all (accepted (entry.Accepted peer contact flow m ∷ []) (at One)) ≡ counts flow One
        → weight_all (accepted (entry.Accepted peer contact flow m ∷ []) (at Broadcast)) ≡ counts flow Broadcast → accepted_with (entry.Accepted peer contact flow m ∷ []) b (Some c) ≤ weight_of m
    by Zero zero_is one_is cast_is =
        let here = most Zero Zero in
        let second = none Zero One (flows_apart peer.word (node_word b) contact (c.0, c.1) Zero One refl) in
        let third = none Zero Broadcast (flows_apart peer.word (node_word b) contact (c.0, c.1) Zero Broadcast refl) in
        omega (arith, zero_is, one_is, cast_is, here, second, third)
    by One zero_is one_is cast_is =
        let here = most One One in
        let first = none One Zero (flows_apart peer.word (node_word b) contact (c.0, c.1) One Zero refl) in
        let third = none One Broadcast (flows_apart peer.word (node_word b) contact (c.0, c.1) One Broadcast refl) in
        omega (arith, zero_is, one_is, cast_is, here, first, third)
    by Broadcast zero_is one_is cast_is =
        let here = most Broadcast Broadcast in
        let first = none Broadcast Zero (flows_apart peer.word (node_word b) contact (c.0, c.1) Broadcast Zero refl) in
        let second = none Broadcast One (flows_apart peer.word (node_word b) contact (c.0, c.1) Broadcast One refl) in
        omega (arith, zero_is, one_is, cast_is, here, first, second)

-- and of one peer
elsewhere : (b : ℕ) (o : Option (ℕ × ℕ)) (peer : Addr) (contact : ℕ × ℕ) (flow : Flow) (m : Message) → (peer.word == node_word b) ≡ false → accepted_with (entry.Accepted peer contact flow m ∷ []) b o ≡ 0
elsewhere b None peer contact flow m apart = refl
elsewhere b (Some c) peer contact flow m apart =
    let first = none Zero in
    let second = none One in
    let third = none Broadcast in
    omega (arith, first, second, third)
  where
    none : (f : Flow) → weight_all (accepted (entry.Accepted peer contact flow m ∷ []) (stream_of b c.0 c.1 f)) ≡ 0
    none f = accepted_is (stream_of b c.0 c.1 f) peer contact flow m ∙ ap (λ t. if t then weight_of m else 0) (other_peer peer.word (node_word b) contact (c.0, c.1) flow f apart)

differ : (x y : ℕ) → x ≢ y → (x == y) ≡ false
differ x y apart = by (x == y) refl
  where
    by : (t : Bool) → (x == y) ≡ t → (x == y) ≡ false
    by true same = absurd (apart (eqb-true x y same))
    by false is = is

entry_accepts : (contacts : Contacts) (e : Entry) → sum_to (λ b. accepted_with (e ∷ []) b (contacts b)) 32 ≤ accepts_weight e
unfolding accepted
entry_accepts contacts (entry.Accepted peer contact flow m) =
    let here = peer.word - node_word 0 in
    let all = sum_of_one (λ b. accepted_with (entry.Accepted peer contact flow m ∷ []) b (contacts b)) here 32
    (λ k apart. elsewhere k (contacts k) peer contact flow m (differ peer.word (node_word k) (λ same. apart (omega (arith, same))))) in
    let one = at here (contacts here) in
    omega (arith, all, one)
  where
    at : (b : ℕ) (o : Option (ℕ × ℕ)) → accepted_with (entry.Accepted peer contact flow m ∷ []) b o ≤ weight_of m
    at b None = omega arith
    at b (Some c) = one_accepted b c peer contact flow m
entry_accepts contacts other = (let none = sums_none (λ b. accepted_with (other ∷ []) b (contacts b)) 32 (λ b. nothing b (contacts b)) in omega (arith, none))
  where
    nothing : (b : ℕ) (o : Option (ℕ × ℕ)) → accepted_with (other ∷ []) b o ≡ 0
    nothing b None = refl
    nothing b (Some c) = refl

-- ---- all entries that accept

accepted_more : (e : Entry) (es : List Entry) (b : ℕ) (o : Option (ℕ × ℕ)) → accepted_with (e ∷ es) b o ≡ accepted_with (e ∷ []) b o + accepted_with es b o
accepted_more e es b None = refl
accepted_more e es b (Some c) =
    let first = one Zero in
    let second = one One in
    let third = one Broadcast in
    omega (arith, first, second, third)
  where
    one : (flow : Flow) → weight_all (accepted (e ∷ es) (stream_of b c.0 c.1 flow)) ≡ weight_all (accepted (e ∷ []) (stream_of b c.0 c.1 flow)) + weight_all (accepted es (stream_of b c.0 c.1 flow))
    one flow = (let s = stream_of b c.0 c.1 flow in ap weight_all (accepted_append (e ∷ []) es s) ∙ sum_by-append weight_of (accepted (e ∷ []) s) (accepted es s))

-- what is of contacts is no more than all that is accepted
pub accepted_in_all : (contacts : Contacts) (es : List Entry) → sum_to (λ b. accepted_with es b (contacts b)) 32 ≤ accepted_weight es
unfolding accepted
accepted_in_all contacts [] = (let none = sums_none (λ b. accepted_with [] b (contacts b)) 32 (λ b. nothing b (contacts b)) in omega (arith, none))
  where
    nothing : (b : ℕ) (o : Option (ℕ × ℕ)) → accepted_with [] b o ≡ 0
    nothing b None = refl
    nothing b (Some c) = refl
accepted_in_all contacts (e ∷ es) =
    let first = entry_accepts contacts e in
    let others = accepted_in_all contacts es in
    let both = sums_together (λ b. accepted_with (e ∷ []) b (contacts b)) (λ b. accepted_with es b (contacts b)) (λ b. accepted_with (e ∷ es) b (contacts b)) 32 (λ b. accepted_more e es b (contacts b)) in
    let all = sum_by-cons accepts_weight e es in
    omega (arith, first, others, both, all)

-- ---- entries that deliver

one_delivered : (b : ℕ) (contact : ℕ × ℕ) (flow : Flow) (m : Message) (by : List ℕ) → weight_of m ≤ delivered_with (entry.Delivered (addr_of b) contact flow m by ∷ []) b (Some contact)
one_delivered b contact flow m by = at flow (delivered_is (stream_of b contact.0 contact.1 flow) (addr_of b) contact flow m by ∙ ap (λ t. if t then weight_of m else 0) (stream_eq_refl (stream_of b contact.0 contact.1 flow)))
  where
    at : (f : Flow) → weight_all (delivered (entry.Delivered (addr_of b) contact flow m by ∷ []) (stream_of b contact.0 contact.1 f)) ≡ weight_of m
        → weight_of m ≤ delivered_with (entry.Delivered (addr_of b) contact flow m by ∷ []) b (Some contact)
    at Zero is = omega (arith, is)
    at One is = omega (arith, is)
    at Broadcast is = omega (arith, is)

entry_delivers : (contacts : Contacts) (e : Entry) → IsInContact contacts e → delivers_weight e ≤ sum_to (λ b. delivered_with (e ∷ []) b (contacts b)) 32
entry_delivers contacts (entry.Delivered peer contact flow m by) (b, number, peer_is, contact_is) =
    let has = sum_has (λ k. delivered_with (entry.Delivered peer contact flow m by ∷ []) k (contacts k)) b 32 number.0 number.1 in
    let one = subst (λ (p : Addr). weight_of m ≤ delivered_with (entry.Delivered p contact flow m by ∷ []) b (Some contact)) (sym peer_is) (one_delivered b contact flow m by) in
    let there = ap (λ o. delivered_with (entry.Delivered peer contact flow m by ∷ []) b o) contact_is in
    omega (arith, has, one, there)
entry_delivers contacts other in_contact = omega arith

delivered_more : (e : Entry) (es : List Entry) (b : ℕ) (o : Option (ℕ × ℕ)) → delivered_with (e ∷ es) b o ≡ delivered_with (e ∷ []) b o + delivered_with es b o
delivered_more e es b None = refl
delivered_more e es b (Some c) =
    let first = one Zero in
    let second = one One in
    let third = one Broadcast in
    omega (arith, first, second, third)
  where
    one : (flow : Flow) → weight_all (delivered (e ∷ es) (stream_of b c.0 c.1 flow)) ≡ weight_all (delivered (e ∷ []) (stream_of b c.0 c.1 flow)) + weight_all (delivered es (stream_of b c.0 c.1 flow))
    one flow = (let s = stream_of b c.0 c.1 flow in ap weight_all (delivered_append (e ∷ []) es s) ∙ sum_by-append weight_of (delivered (e ∷ []) s) (delivered es s))

-- all that is delivered is of contacts
pub delivered_in_contact : (contacts : Contacts) (es : List Entry) → Each (IsInContact contacts) es → delivered_weight es ≤ sum_to (λ b. delivered_with es b (contacts b)) 32
delivered_in_contact contacts [] each = omega arith
delivered_in_contact contacts (e ∷ es) each =
    let first = entry_delivers contacts e (each 0 e refl) in
    let others = delivered_in_contact contacts es (λ k. each (suc k)) in
    let both = sums_together (λ b. delivered_with (e ∷ []) b (contacts b)) (λ b. delivered_with es b (contacts b)) (λ b. delivered_with (e ∷ es) b (contacts b)) 32 (λ b. delivered_more e es b (contacts b)) in
    let all = sum_by-cons delivers_weight e es in
    omega (arith, first, others, both, all)

-- ---- what is left

weight_most : (m : Message) → weight_of m ≤ 3
weight_most (Payload importance form from to kind lower upper code droppable body) = elim (code == 0) as (λ t. (if t then 3 else 1) ≤ 3) [ true ↦ omega arith | false ↦ omega arith ]
weight_most (Items withdrawal items) = omega arith

all_most : (ms : List Message) → weight_all ms ≤ 3 * length ms
all_most [] = omega arith
all_most (m ∷ ms) =
    let first = weight_most m in
    let others = all_most ms in
    let all = sum_by-cons weight_of m ms in
    omega (arith, first, others, all)

-- Of what was delivered so far, a front of what was accepted so far, more is a front of more: then no more is new than
-- what is accepted anew and what was left before.
pub left_bounds : (given put more_given more_put : List Message) → IsPrefixOf given put → IsPrefixOf (given ++ more_given) (put ++ more_put) → weight_all more_given ≤ weight_all more_put + 3 * (length put - length given)
left_bounds given put more_given more_put (left, was) (rest, is) =
    let whole = ap weight_all is in
    let here = sum_by-append weight_of put more_put in
    let there = sum_by-append weight_of (given ++ more_given) rest in
    let two = sum_by-append weight_of given more_given in
    let before = ap weight_all was ∙ sum_by-append weight_of given left in
    let many = ap (λ (ms : List Message). length ms) was ∙ length-append given left in
    let most = all_most left in
    omega (arith, whole, here, there, two, before, many, most)
