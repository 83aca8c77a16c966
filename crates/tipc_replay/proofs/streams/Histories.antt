-- The history of a node, and what a step adds to what was ever accepted and delivered at it.
use Rattle.std.specs.List.{All, cons_option, filter, filter_map, flat_map}
use Rattle.std.proofs.Common.{◌≡◌, ◌==◌, ◌&&◌, ℕ, Bool, true, false, if◌then◌else◌, List, [], ◌∷◌, ◌++◌, Option, Some, None, map, refl, sym, ap, ◌∙◌, append-nil, append_assoc, arith}
use Rattle.std.specs.Prelude.{option_to_list}
use Rattle.std.proofs.lemmas.Bool.Decides.{nat_tests}
use Rattle.std.proofs.lemmas.List.Concat.{flat_map-append}
use Rattle.std.proofs.lemmas.List.Elements.{All-head, All-tail, filter_map-append}
use Rattle.tipc_types.specs.Address.{node_word}
use Rattle.tipc_types.specs.declared.message_forms.Flow.{Flow}
use Rattle.tipc_types.specs.declared.message_forms.Flow.TheVariants.{Zero, One, Broadcast}
use Rattle.tipc_types.specs.declared.message_forms.Message.{Message}
use Rattle.tipc_journal.specs.declared.entries.Entry.{Entry}
use Rattle.tipc_journal.specs.declared.entries.Entry.TheVariants as entry
use Rattle.tipc_journal.specs.Steps.{NodeStep, step_entries}
use Rattle.tipc_journal.specs.Streams.{Stream, accepted, accepted_message, delivered, delivered_message, flow_eq, stream_eq}
use Rattle.tipc_journal.proofs.StreamLaws.{accepted_step, delivered_step}
use Rattle.tipc_reassembly.specs.declared.opening.Opened.{Opened}
use Rattle.tipc_reassembly.specs.declared.opening.Opened.TheVariants.{Whole, Passed}
use Rattle.tipc_pair.specs.declared.changes.PairOutcome.{PairOutcome}
use Rattle.tipc_pair.specs.Facing.{PairEnds}
use Rattle.tipc_pair.specs.Messages.{opened_in}
use Rattle.tipc_node.specs.Messages.{message_in, message_in_flow}
use Rattle.tipc_node.specs.Nodes.{accepted_entry, shown_contact}
use Rattle.tipc_node.specs.Turns.{delivered_entries as delivery_of, delivered_of, given_entries, is_accepted_for, is_delivered_from}
use Rattle.tipc_node.proofs.journal.Telling.{same_word}
use Rattle.tipc_replay.specs.Members.{IsRestarted}
use Rattle.tipc_replay.specs.States.{MemberState, history, stream_of}

-- ---- the history of a node

pub history_longer : (m m' : MemberState) (es : List Entry) → m'.past ≡ m.past → m'.node.journal ≡ m.node.journal ++ es → history m' ≡ history m ++ es
unfolding history
history_longer m m' es past journal =
    let before : MemberState → List Entry = λ n. flat_map (λ entries. entries) n.past in
    let one : history m' ≡ before m ++ m'.node.journal = ap (λ p. flat_map (λ entries. entries) p ++ m'.node.journal) past in
    one ∙ ap (λ j. before m ++ j) journal ∙ sym (append_assoc (before m) m.node.journal es)

-- a restart keeps the history
pub history_restarted : (m m' : MemberState) → IsRestarted m m' → history m' ≡ history m
unfolding history
history_restarted m m' r =
    let whole : List (List Entry) → List Entry = flat_map (λ entries. entries) in
    let one : history m' ≡ whole (m.past ++ m.node.journal ∷ []) ++ [] = ap (λ p. whole p ++ m'.node.journal) r.past ∙ ap (λ j. whole (m.past ++ m.node.journal ∷ []) ++ j) r.node.no_history in
    one ∙ append-nil (whole (m.past ++ m.node.journal ∷ [])) ∙ flat_map-append (λ entries. entries) m.past (m.node.journal ∷ []) ∙ ap (λ j. whole m.past ++ j) (append-nil m.node.journal)

-- ---- tests

same_test : (p q : Bool) → (p ≡ true → q ≡ true) → (q ≡ true → p ≡ true) → p ≡ q
same_test true q there back = sym (there refl)
same_test false true there back = back refl
same_test false false there back = refl

turned : (m n : ℕ) → (m == n) ≡ (n == m)
turned m n = same_test (m == n) (n == m) (λ e. grind (arith, nat_tests)) (λ e. grind (arith, nat_tests))

flows_turned : (flow : Flow) → flow_eq Zero flow ≡ flow_eq flow Zero
flows_turned Zero = refl
flows_turned One = refl
flows_turned Broadcast = refl

-- the messages that come to a stream of the contact (own, theirs): those of flow Zero
abbrev pub come_to : ℕ → ℕ → List Message → ℕ → ℕ → Flow → List Message
come_to own theirs messages own' theirs' flow = if flow_eq flow Zero && ((own' == own) && (theirs' == theirs)) then messages else []

-- the test of a stream of the peer itself, in the order in which come_to asks
order : (b c d : Bool) → (b && (c && d)) ≡ (d && (b && c))
order true true true = refl
order true true false = refl
order true false true = refl
order true false false = refl
order false c true = refl
order false c false = refl

stream_test : (peer own theirs own' theirs' : ℕ) (flow : Flow) → stream_eq (stream_of peer own theirs Zero) (stream_of peer own' theirs' flow) ≡ (flow_eq flow Zero && ((own' == own) && (theirs' == theirs)))
unfolding stream_eq
stream_test peer own theirs own' theirs' flow =
    ap (λ t. t && ((own == own') && ((theirs == theirs') && flow_eq Zero flow))) (same_word peer)
    ∙ order (own == own') (theirs == theirs') (flow_eq Zero flow)
    ∙ ap (λ t. t && ((own == own') && (theirs == theirs'))) (flows_turned flow)
    ∙ ap (λ t. flow_eq flow Zero && (t && (theirs == theirs'))) (turned own own')
    ∙ ap (λ t. flow_eq flow Zero && ((own' == own) && t)) (turned theirs theirs')

-- ---- entries that concern a peer

-- what is taken of a list is of those alone for which something is taken
filter_map_filtered : {X Y : Type 0} (h : X → Option Y) (p : X → Bool) (xs : List X) → ((x : X) → p x ≡ false → h x ≡ None) → filter_map h (filter p xs) ≡ filter_map h xs
filter_map_filtered h p [] none = refl
filter_map_filtered {X} {Y} h p (x ∷ xs) none = case (filter_map_filtered h p xs none) (p x) refl
  where
    case : filter_map h (filter p xs) ≡ filter_map h xs → (b : Bool) → p x ≡ b → filter_map h (if b then x ∷ filter p xs else filter p xs) ≡ filter_map h (x ∷ xs)
    case rest true is = ap (λ ys. cons_option (h x) ys) rest
    case rest false is = rest ∙ ap (λ o. cons_option o (filter_map h xs)) (sym (none x is))

none_of : (a b c d : Bool) → (a && d) ≡ false → (a && (b && (c && d))) ≡ false
none_of false b c d is = refl
none_of true false c d is = refl
none_of true true false d is = refl
none_of true true true d is = is

other_stream : (word other : ℕ) (c d : ℕ × ℕ) (flow : Flow) → ((word == other) && flow_eq flow Zero) ≡ false
    → stream_eq (record { peer = record { word = word }; contact = c; flow = flow }) (record { peer = record { word = other }; contact = d; flow = Zero }) ≡ false
unfolding stream_eq
other_stream word other c d flow apart = none_of (word == other) (c.0 == d.0) (c.1 == d.1) (flow_eq flow Zero) apart

pub other_peer : (word other : ℕ) (c d : ℕ × ℕ) (flow flow' : Flow) → (word == other) ≡ false
    → stream_eq (record { peer = record { word = word }; contact = c; flow = flow }) (record { peer = record { word = other }; contact = d; flow = flow' }) ≡ false
unfolding stream_eq
other_peer word other c d flow flow' apart = ap (λ t. t && ((c.0 == d.0) && ((c.1 == d.1) && flow_eq flow flow'))) apart

accepted_elsewhere : (b own theirs : ℕ) (e : Entry) → is_accepted_for b e ≡ false → accepted_message (stream_of b own theirs Zero) e ≡ None
accepted_elsewhere b own theirs (entry.Accepted peer numbers flow message) apart =
    ap (λ t. if t then Some message else None) (other_stream peer.word (node_word b) numbers (own, theirs) flow apart)
accepted_elsewhere b own theirs other apart = refl

delivered_elsewhere : (b own theirs : ℕ) (e : Entry) → is_delivered_from b e ≡ false → delivered_message (stream_of b own theirs Zero) e ≡ None
delivered_elsewhere b own theirs (entry.Delivered peer numbers flow message by) apart =
    ap (λ t. if t then Some message else None) (other_stream peer.word (node_word b) numbers (own, theirs) flow apart)
delivered_elsewhere b own theirs other apart = refl

accepted_here : (b own theirs : ℕ) (entries : List Entry) → accepted (filter (is_accepted_for b) entries) (stream_of b own theirs Zero) ≡ accepted entries (stream_of b own theirs Zero)
unfolding accepted
accepted_here b own theirs entries = filter_map_filtered (accepted_message (stream_of b own theirs Zero)) (is_accepted_for b) entries (accepted_elsewhere b own theirs)

delivered_here : (b own theirs : ℕ) (entries : List Entry) → delivered (filter (is_delivered_from b) entries) (stream_of b own theirs Zero) ≡ delivered entries (stream_of b own theirs Zero)
unfolding delivered
delivered_here b own theirs entries = filter_map_filtered (delivered_message (stream_of b own theirs Zero)) (is_delivered_from b) entries (delivered_elsewhere b own theirs)

-- ---- what a peer's entries hold

come_more : (t : Bool) (m : Message) (ms : List Message) → cons_option (if t then Some m else None) (if t then ms else []) ≡ (if t then m ∷ ms else [])
come_more true m ms = refl
come_more false m ms = refl

chosen : (t : Bool) (m : Message) → cons_option (if t then Some m else None) [] ≡ (if t then m ∷ [] else [])
chosen true m = refl
chosen false m = refl

either_way : (t : Bool) (ms : List Message) → (if t then ms else ms) ≡ ms
either_way true ms = refl
either_way false ms = refl

-- those of messages that were put on the link to a peer
pub accepted_holds : (b : ℕ) (x : PairEnds) (ms : List Message) (own theirs : ℕ) (flow : Flow) → accepted (map (accepted_entry Zero b x) ms) (stream_of b own theirs flow) ≡ come_to x.contact x.seen ms own theirs flow
unfolding accepted
accepted_holds b x [] own theirs flow = sym (either_way (flow_eq flow Zero && ((own == x.contact) && (theirs == x.seen))) [])
accepted_holds b x (m ∷ ms) own theirs flow =
    ap (λ xs. cons_option (accepted_message (stream_of b own theirs flow) (accepted_entry Zero b x m)) xs) (accepted_holds b x ms own theirs flow)
    ∙ ap (λ t. cons_option (if t then Some m else None) (come_to x.contact x.seen ms own theirs flow)) (stream_test b x.contact x.seen own theirs flow)
    ∙ come_more (flow_eq flow Zero && ((own == x.contact) && (theirs == x.seen))) m ms

-- the messages of what was given
abbrev pub message_given : Opened → Option Message
message_given (Whole packet by) = message_in packet
message_given (Passed place) = None

abbrev pub messages_given : List Opened → List Message
messages_given [] = []
messages_given (o ∷ os) = option_to_list (message_given o) ++ messages_given os

come_front : (t : Bool) (o : Option Message) (ms : List Message) → (if t then option_to_list o else []) ++ (if t then ms else []) ≡ (if t then option_to_list o ++ ms else [])
come_front true o ms = refl
come_front false o ms = refl

one_message : (b : ℕ) (x : PairEnds) (o : Option Message) (by : List ℕ) (own theirs : ℕ) (flow : Flow)
    → filter_map (delivered_message (stream_of b own theirs flow)) (delivery_of Zero b (shown_contact x) o by) ≡ come_to x.contact x.seen (option_to_list o) own theirs flow
one_message b x (Some m) by own theirs flow =
    ap (λ t. cons_option (if t then Some m else None) []) (stream_test b x.contact x.seen own theirs flow) ∙ chosen (flow_eq flow Zero && ((own == x.contact) && (theirs == x.seen))) m
one_message b x None by own theirs flow = sym (either_way (flow_eq flow Zero && ((own == x.contact) && (theirs == x.seen))) [])

one_given : (b : ℕ) (x : PairEnds) (o : Opened) (own theirs : ℕ) (flow : Flow)
    → filter_map (delivered_message (stream_of b own theirs flow)) (delivered_of Zero b (shown_contact x) o) ≡ come_to x.contact x.seen (option_to_list (message_given o)) own theirs flow
one_given b x (Whole packet by) own theirs flow = one_message b x (message_in packet) by own theirs flow
one_given b x (Passed place) own theirs flow = sym (either_way (flow_eq flow Zero && ((own == x.contact) && (theirs == x.seen))) [])

all_given : (b : ℕ) (x : PairEnds) (opened : List Opened) (own theirs : ℕ) (flow : Flow)
    → filter_map (delivered_message (stream_of b own theirs flow)) (flat_map (delivered_of Zero b (shown_contact x)) opened) ≡ come_to x.contact x.seen (messages_given opened) own theirs flow
all_given b x [] own theirs flow = sym (either_way (flow_eq flow Zero && ((own == x.contact) && (theirs == x.seen))) [])
all_given b x (o ∷ os) own theirs flow =
    let h = delivered_message (stream_of b own theirs flow) in
    filter_map-append h (delivered_of Zero b (shown_contact x) o) (flat_map (delivered_of Zero b (shown_contact x)) os)
    ∙ ap (λ xs. xs ++ filter_map h (flat_map (delivered_of Zero b (shown_contact x)) os)) (one_given b x o own theirs flow)
    ∙ ap (λ xs. come_to x.contact x.seen (option_to_list (message_given o)) own theirs flow ++ xs) (all_given b x os own theirs flow)
    ∙ come_front (flow_eq flow Zero && ((own == x.contact) && (theirs == x.seen))) (message_given o) (messages_given os)

-- those of what a peer gave
pub given_holds : (b : ℕ) (x : PairEnds) (given : PairOutcome) (own theirs : ℕ) (flow : Flow)
    → delivered (given_entries Zero b x given) (stream_of b own theirs flow) ≡ come_to x.contact x.seen (messages_given (opened_in given)) own theirs flow
unfolding delivered
given_holds b x given own theirs flow = all_given b x (opened_in given) own theirs flow

-- in another contact they hold nothing
contact_apart : (peer own theirs own' theirs' : ℕ) (flow flow' : Flow) → ((own' == own) && (theirs' == theirs)) ≡ false → stream_eq (stream_of peer own theirs flow) (stream_of peer own' theirs' flow') ≡ false
unfolding stream_eq
contact_apart peer own theirs own' theirs' flow flow' apart =
    ap (λ t. (node_word peer == node_word peer) && (t && ((theirs == theirs') && flow_eq flow flow'))) (turned own own')
    ∙ ap (λ t. (node_word peer == node_word peer) && ((own' == own) && (t && flow_eq flow flow'))) (turned theirs theirs')
    ∙ neither (node_word peer == node_word peer) (own' == own) (theirs' == theirs) (flow_eq flow flow') apart
  where
    neither : (p q r s : Bool) → (q && r) ≡ false → (p && (q && (r && s))) ≡ false
    neither false q r s low = refl
    neither true false r s low = refl
    neither true true false s low = refl
    neither true true true s low = absurd (let wrong : true ≡ false = low in cc)

one_apart : (flow flow' : Flow) (b : ℕ) (c : ℕ × ℕ) (o : Option Message) (by : List ℕ) (own theirs : ℕ) → ((own == c.0) && (theirs == c.1)) ≡ false → filter_map (delivered_message (stream_of b own theirs flow')) (delivery_of flow b c o by) ≡ []
one_apart flow flow' b c (Some m) by own theirs apart = ap (λ t. cons_option (if t then Some m else None) []) (contact_apart b c.0 c.1 own theirs flow flow' apart)
one_apart flow flow' b c None by own theirs apart = refl

opened_apart : (flow flow' : Flow) (b : ℕ) (c : ℕ × ℕ) (o : Opened) (own theirs : ℕ) → ((own == c.0) && (theirs == c.1)) ≡ false → filter_map (delivered_message (stream_of b own theirs flow')) (delivered_of flow b c o) ≡ []
opened_apart flow flow' b c (Whole packet by) own theirs apart = one_apart flow flow' b c (message_in_flow flow packet) by own theirs apart
opened_apart flow flow' b c (Passed place) own theirs apart = refl

all_apart : (flow flow' : Flow) (b : ℕ) (c : ℕ × ℕ) (opened : List Opened) (own theirs : ℕ) → ((own == c.0) && (theirs == c.1)) ≡ false
    → filter_map (delivered_message (stream_of b own theirs flow')) (flat_map (delivered_of flow b c) opened) ≡ []
all_apart flow flow' b c [] own theirs apart = refl
all_apart flow flow' b c (o ∷ os) own theirs apart =
    filter_map-append (delivered_message (stream_of b own theirs flow')) (delivered_of flow b c o) (flat_map (delivered_of flow b c) os)
    ∙ ap (λ ms. ms ++ filter_map (delivered_message (stream_of b own theirs flow')) (flat_map (delivered_of flow b c) os)) (opened_apart flow flow' b c o own theirs apart) ∙ all_apart flow flow' b c os own theirs apart

pub given_apart : (flow flow' : Flow) (b : ℕ) (x : PairEnds) (given : PairOutcome) (own theirs : ℕ) → ((own == x.contact) && (theirs == x.seen)) ≡ false → delivered (given_entries flow b x given) (stream_of b own theirs flow') ≡ []
unfolding delivered
given_apart flow flow' b x given own theirs apart = all_apart flow flow' b (shown_contact x) (opened_in given) own theirs apart

-- ---- a step

-- what a step adds to the streams of flow Zero of a peer, where these entries of it are of the peer
pub accepted_grows : (old new : List Entry) (s : NodeStep) (b : ℕ) (es : List Entry) (own theirs : ℕ) → new ≡ old ++ step_entries s → filter (is_accepted_for b) s.inside ≡ es
    → accepted new (stream_of b own theirs Zero) ≡ accepted old (stream_of b own theirs Zero) ++ accepted es (stream_of b own theirs Zero)
accepted_grows old new s b es own theirs is of_peer =
    let x = stream_of b own theirs Zero in
    ap (λ l. accepted l x) is ∙ accepted_step old s x ∙ ap (λ ms. accepted old x ++ ms) (sym (accepted_here b own theirs s.inside) ∙ ap (λ l. accepted l x) of_peer)

pub delivered_grows : (old new : List Entry) (s : NodeStep) (b : ℕ) (es : List Entry) (own theirs : ℕ) → new ≡ old ++ step_entries s → filter (is_delivered_from b) s.inside ≡ es
    → delivered new (stream_of b own theirs Zero) ≡ delivered old (stream_of b own theirs Zero) ++ delivered es (stream_of b own theirs Zero)
delivered_grows old new s b es own theirs is of_peer =
    let x = stream_of b own theirs Zero in
    ap (λ l. delivered l x) is ∙ delivered_step old s x ∙ ap (λ ms. delivered old x ++ ms) (sym (delivered_here b own theirs s.inside) ∙ ap (λ l. delivered l x) of_peer)

-- nothing is taken of a list of which nothing is taken of each
nothing_taken : {X Y : Type 0} (h : X → Option Y) (P : X → Type 0) (xs : List X) → ((x : X) → P x → h x ≡ None) → All P xs → filter_map h xs ≡ []
nothing_taken h P [] none all = refl
nothing_taken h P (x ∷ xs) none all = ap (λ o. cons_option o (filter_map h xs)) (none x (All-head P x xs all)) ∙ nothing_taken h P xs none (All-tail P x xs all)

-- a step adds nothing to a stream of which none of its entries is
pub accepted_stays : (old new : List Entry) (s : NodeStep) (x : Stream) (P : Entry → Type 0) → new ≡ old ++ step_entries s → ((e : Entry) → P e → accepted_message x e ≡ None) → All P s.inside → accepted new x ≡ accepted old x
unfolding accepted
accepted_stays old new s x P is none all =
    ap (λ l. accepted l x) is ∙ accepted_step old s x ∙ ap (λ ms. accepted old x ++ ms) (nothing_taken (accepted_message x) P s.inside none all) ∙ append-nil (accepted old x)

pub delivered_stays : (old new : List Entry) (s : NodeStep) (x : Stream) (P : Entry → Type 0) → new ≡ old ++ step_entries s → ((e : Entry) → P e → delivered_message x e ≡ None) → All P s.inside → delivered new x ≡ delivered old x
unfolding delivered
delivered_stays old new s x P is none all =
    ap (λ l. delivered l x) is ∙ delivered_step old s x ∙ ap (λ ms. delivered old x ++ ms) (nothing_taken (delivered_message x) P s.inside none all) ∙ append-nil (delivered old x)

-- a stream has no message of another flow
pub flows_apart : (word other : ℕ) (c d : ℕ × ℕ) (flow' flow : Flow) → flow_eq flow' flow ≡ false
    → stream_eq (record { peer = record { word = word }; contact = c; flow = flow' }) (record { peer = record { word = other }; contact = d; flow = flow }) ≡ false
unfolding stream_eq
flows_apart word other c d flow' flow apart =
    ap (λ t. (word == other) && ((c.0 == d.0) && ((c.1 == d.1) && t))) apart ∙ no_way (word == other) (c.0 == d.0) (c.1 == d.1)
  where
    no_way : (p q r : Bool) → (p && (q && (r && false))) ≡ false
    no_way false q r = refl
    no_way true false r = refl
    no_way true true false = refl
    no_way true true true = refl
