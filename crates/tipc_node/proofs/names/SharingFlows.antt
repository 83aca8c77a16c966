-- What the entries of a step add to the flow of messages with a peer in one contact.
use Rattle.std.proofs.Common.{◌≡◌, ◌==◌, ◌&&◌, ℕ, Bool, true, false, List, [], ◌∷◌, ◌++◌, Option, Some, None, filter, map, if◌then◌else◌, refl, sym, ap, ◌∙◌}
use Rattle.std.specs.List.{cons_option, filter_map, flat_map}
use Rattle.std.proofs.lemmas.List.Elements.{filter_map-append}
use Rattle.tipc_types.specs.Address.{node_word}
use Rattle.tipc_types.specs.declared.message_forms.Flow.{Flow}
use Rattle.tipc_types.specs.declared.message_forms.Flow.TheVariants.{Zero}
use Rattle.tipc_types.specs.declared.message_forms.Message.{Message}
use Rattle.tipc_journal.specs.declared.entries.Entry.{Entry}
use Rattle.tipc_journal.specs.declared.entries.Entry.TheVariants as entry
use Rattle.tipc_journal.specs.Steps.{NodeStep, step_entries}
use Rattle.tipc_journal.specs.Streams.{Stream, accepted, accepted_message, delivered, delivered_message, flow_eq, stream_eq}
use Rattle.tipc_journal.proofs.StreamLaws.{accepted_step, delivered_step, stream_eq_false, stream_eq_refl}
use Rattle.tipc_reassembly.specs.declared.opening.Opened.{Opened}
use Rattle.tipc_reassembly.specs.declared.opening.Opened.TheVariants.{Whole, Passed}
use Rattle.tipc_pair.specs.Facing.{PairEnds}
use Rattle.tipc_pair.specs.declared.changes.PairOutcome.{PairOutcome}
use Rattle.tipc_pair.specs.Messages.{opened_in}
use Rattle.tipc_node.specs.Messages.{message_in}
use Rattle.tipc_node.specs.Nodes.{accepted_entry, shown_contact}
use Rattle.tipc_node.specs.Sharing.{flow_with}
use Rattle.tipc_node.specs.Turns.{addr_of, delivered_entries as given_message, delivered_of, given_entries, is_accepted_for, is_delivered_from}

-- ---- entries that concern a peer

-- what is taken of a list is of those alone for which something is taken
filter_map_filtered : {X Y : Type 0} (h : X → Option Y) (p : X → Bool) (xs : List X) → ((x : X) → p x ≡ false → h x ≡ None) → filter_map h (filter p xs) ≡ filter_map h xs
filter_map_filtered h p [] none = refl
filter_map_filtered {X} {Y} h p (x ∷ xs) none = case (filter_map_filtered h p xs none) (p x) refl
  where
    case : filter_map h (filter p xs) ≡ filter_map h xs → (b : Bool) → p x ≡ b → filter_map h (if b then x ∷ filter p xs else filter p xs) ≡ filter_map h (x ∷ xs)
    case rest true is = ap (λ ys. cons_option (h x) ys) rest
    case rest false is = rest ∙ ap (λ o. cons_option o (filter_map h xs)) (sym (none x is))

none_of : (a b c d : Bool) → (a && d) ≡ false → (a && (b && (c && d))) ≡ false
none_of false b c d is = refl
none_of true false c d is = refl
none_of true true false d is = refl
none_of true true true d is = is

other_stream : (word other : ℕ) (c d : ℕ × ℕ) (flow : Flow) → ((word == other) && flow_eq flow Zero) ≡ false
    → stream_eq (record { peer = record { word = word }; contact = c; flow = flow }) (record { peer = record { word = other }; contact = d; flow = Zero }) ≡ false
unfolding stream_eq
other_stream word other c d flow apart = none_of (word == other) (c.0 == d.0) (c.1 == d.1) (flow_eq flow Zero) apart

pub accepted_elsewhere : (b : ℕ) (numbers : ℕ × ℕ) (e : Entry) → is_accepted_for b e ≡ false → accepted_message (flow_with b numbers) e ≡ None
accepted_elsewhere b numbers (entry.Accepted peer c flow message) apart =
    ap (λ t. if t then Some message else None) (other_stream peer.word (node_word b) c numbers flow apart)
accepted_elsewhere b numbers other apart = refl

pub delivered_elsewhere : (b : ℕ) (numbers : ℕ × ℕ) (e : Entry) → is_delivered_from b e ≡ false → delivered_message (flow_with b numbers) e ≡ None
delivered_elsewhere b numbers (entry.Delivered peer c flow message by) apart =
    ap (λ t. if t then Some message else None) (other_stream peer.word (node_word b) c numbers flow apart)
delivered_elsewhere b numbers other apart = refl

accepted_here : (b : ℕ) (numbers : ℕ × ℕ) (entries : List Entry) → accepted (filter (is_accepted_for b) entries) (flow_with b numbers) ≡ accepted entries (flow_with b numbers)
unfolding accepted
accepted_here b numbers entries = filter_map_filtered (accepted_message (flow_with b numbers)) (is_accepted_for b) entries (accepted_elsewhere b numbers)

delivered_here : (b : ℕ) (numbers : ℕ × ℕ) (entries : List Entry) → delivered (filter (is_delivered_from b) entries) (flow_with b numbers) ≡ delivered entries (flow_with b numbers)
unfolding delivered
delivered_here b numbers entries = filter_map_filtered (delivered_message (flow_with b numbers)) (is_delivered_from b) entries (delivered_elsewhere b numbers)

-- of these entries alone is something accepted for the peer, or delivered from it
pub accepted_of : (b : ℕ) (numbers : ℕ × ℕ) (entries es : List Entry) (ms : List Message) → filter (is_accepted_for b) entries ≡ es → accepted es (flow_with b numbers) ≡ ms → accepted entries (flow_with b numbers) ≡ ms
accepted_of b numbers entries es ms of_peer is = sym (accepted_here b numbers entries) ∙ ap (λ l. accepted l (flow_with b numbers)) of_peer ∙ is

pub delivered_of_peer : (b : ℕ) (numbers : ℕ × ℕ) (entries es : List Entry) (ms : List Message) → filter (is_delivered_from b) entries ≡ es → delivered es (flow_with b numbers) ≡ ms → delivered entries (flow_with b numbers) ≡ ms
delivered_of_peer b numbers entries es ms of_peer is = sym (delivered_here b numbers entries) ∙ ap (λ l. delivered l (flow_with b numbers)) of_peer ∙ is

-- ---- messages that were put on the link to a peer

-- in the contact that the link shows, or in another one
unfoldable pub accepted_in : ℕ → ℕ × ℕ → Message → Entry
accepted_in b numbers m = entry.Accepted (addr_of b) numbers Zero m

pub puts_accepted : (b : ℕ) (numbers : ℕ × ℕ) (ms : List Message) → accepted (map (accepted_in b numbers) ms) (flow_with b numbers) ≡ ms
unfolding accepted accepted_in
puts_accepted b numbers [] = refl
puts_accepted b numbers (m ∷ ms) =
    ap (λ t. cons_option (if t then Some m else None) (accepted (map (accepted_in b numbers) ms) (flow_with b numbers))) (stream_eq_refl (flow_with b numbers))
    ∙ ap (λ xs. m ∷ xs) (puts_accepted b numbers ms)

apart_flows : (b c : ℕ) (numbers shown : ℕ × ℕ) → (shown.0 ≡ numbers.0 → ⊥) → stream_eq (flow_with c shown) (flow_with b numbers) ≡ false
apart_flows b c numbers shown apart = stream_eq_false (flow_with c shown) (flow_with b numbers) (λ same. apart (ap (λ (s : Stream). s.contact.0) same))

pub puts_elsewhere : (b : ℕ) (numbers shown : ℕ × ℕ) (ms : List Message) → (shown.0 ≡ numbers.0 → ⊥) → accepted (map (accepted_in b shown) ms) (flow_with b numbers) ≡ []
unfolding accepted accepted_in
puts_elsewhere b numbers shown [] apart = refl
puts_elsewhere b numbers shown (m ∷ ms) apart =
    ap (λ t. cons_option (if t then Some m else None) (accepted (map (accepted_in b shown) ms) (flow_with b numbers))) (apart_flows b b numbers shown apart)
    ∙ puts_elsewhere b numbers shown ms apart

-- for another peer
pub puts_to_other : (b c : ℕ) (numbers shown : ℕ × ℕ) (ms : List Message) → (node_word c == node_word b) ≡ false → accepted (map (accepted_in c shown) ms) (flow_with b numbers) ≡ []
unfolding accepted accepted_in
puts_to_other b c numbers shown [] apart = refl
puts_to_other b c numbers shown (m ∷ ms) apart =
    ap (λ o. cons_option o (accepted (map (accepted_in c shown) ms) (flow_with b numbers))) (accepted_elsewhere b numbers (entry.Accepted (addr_of c) shown Zero m) (ap (λ t. t && true) apart))
    ∙ puts_to_other b c numbers shown ms apart

-- as a turn tells of them
pub entries_in : (b : ℕ) (x : PairEnds) (ms : List Message) → map (accepted_entry Zero b x) ms ≡ map (accepted_in b (shown_contact x)) ms
unfolding accepted_in
entries_in b x ms = refl

-- ---- what a peer gave

message_elsewhere : (b : ℕ) (numbers shown : ℕ × ℕ) (o : Option Message) (by : List ℕ) → (shown.0 ≡ numbers.0 → ⊥) → filter_map (delivered_message (flow_with b numbers)) (given_message Zero b shown o by) ≡ []
message_elsewhere b numbers shown None by apart = refl
message_elsewhere b numbers shown (Some m) by apart = ap (λ t. cons_option (if t then Some m else None) []) (apart_flows b b numbers shown apart)

opened_elsewhere : (b : ℕ) (numbers shown : ℕ × ℕ) (o : Opened) → (shown.0 ≡ numbers.0 → ⊥) → filter_map (delivered_message (flow_with b numbers)) (delivered_of Zero b shown o) ≡ []
opened_elsewhere b numbers shown (Whole packet by) apart = message_elsewhere b numbers shown (message_in packet) by apart
opened_elsewhere b numbers shown (Passed place) apart = refl

all_elsewhere : (b : ℕ) (numbers shown : ℕ × ℕ) (opened : List Opened) → (shown.0 ≡ numbers.0 → ⊥) → filter_map (delivered_message (flow_with b numbers)) (flat_map (delivered_of Zero b shown) opened) ≡ []
all_elsewhere b numbers shown [] apart = refl
all_elsewhere b numbers shown (o ∷ os) apart =
    let h = delivered_message (flow_with b numbers) in
    filter_map-append h (delivered_of Zero b shown o) (flat_map (delivered_of Zero b shown) os)
    ∙ ap (λ xs. xs ++ filter_map h (flat_map (delivered_of Zero b shown) os)) (opened_elsewhere b numbers shown o apart)
    ∙ all_elsewhere b numbers shown os apart

-- in another contact
pub given_elsewhere : (b : ℕ) (numbers : ℕ × ℕ) (x : PairEnds) (given : PairOutcome) → (x.contact ≡ numbers.0 → ⊥) → delivered (given_entries Zero b x given) (flow_with b numbers) ≡ []
unfolding delivered
given_elsewhere b numbers x given apart = all_elsewhere b numbers (shown_contact x) (opened_in given) apart

-- nothing
pub given_nothing : (b : ℕ) (numbers : ℕ × ℕ) (x : PairEnds) (given : PairOutcome) → opened_in given ≡ [] → delivered (given_entries Zero b x given) (flow_with b numbers) ≡ []
unfolding delivered
given_nothing b numbers x given none = ap (λ os. filter_map (delivered_message (flow_with b numbers)) (flat_map (delivered_of Zero b (shown_contact x)) os)) none

-- ---- a step

pub accepted_then : (old new : List Entry) (s : NodeStep) (b : ℕ) (numbers : ℕ × ℕ) (ms : List Message) → new ≡ old ++ step_entries s → accepted s.inside (flow_with b numbers) ≡ ms
    → accepted new (flow_with b numbers) ≡ accepted old (flow_with b numbers) ++ ms
accepted_then old new s b numbers ms is more =
    ap (λ l. accepted l (flow_with b numbers)) is ∙ accepted_step old s (flow_with b numbers) ∙ ap (λ xs. accepted old (flow_with b numbers) ++ xs) more

pub delivered_then : (old new : List Entry) (s : NodeStep) (b : ℕ) (numbers : ℕ × ℕ) (ms : List Message) → new ≡ old ++ step_entries s → delivered s.inside (flow_with b numbers) ≡ ms
    → delivered new (flow_with b numbers) ≡ delivered old (flow_with b numbers) ++ ms
delivered_then old new s b numbers ms is more =
    ap (λ l. delivered l (flow_with b numbers)) is ∙ delivered_step old s (flow_with b numbers) ∙ ap (λ xs. delivered old (flow_with b numbers) ++ xs) more
