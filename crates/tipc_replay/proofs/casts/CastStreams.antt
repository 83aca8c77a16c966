-- What a step adds to the messages that were cast for a peer in a contact, and to those that were delivered of the peer's broadcast.
use Rattle.std.specs.Prelude.{option_map, option_to_list}
use Rattle.std.specs.List.{cons_option, filter, filter_map}
use Rattle.std.proofs.Common.{◌≡◌, ◌≢◌, ◌<◌, ◌^◌, ◌==◌, ◌&&◌, ◌∙◌, ℕ, Bool, true, false, if◌then◌else◌, List, [], ◌∷◌, ◌++◌, Option, Some, None, map, refl, sym, ap, subst, eqb-true, arith}
use Rattle.std.proofs.lemmas.Bool.Decides.{nat_tests}
use Rattle.tipc_types.specs.Address.{node_word}
use Rattle.tipc_types.specs.declared.message_forms.Flow.{Flow}
use Rattle.tipc_types.specs.declared.message_forms.Flow.TheVariants.{Broadcast}
use Rattle.tipc_types.specs.declared.message_forms.Message.{Message}
use Rattle.tipc_casters.specs.Sights.{contact_of}
use Rattle.tipc_casters.specs.ViewLaws.{put_one_more}
use Rattle.tipc_casters.specs.Views.{AreContactNumbers}
use Rattle.tipc_journal.specs.declared.entries.Entry.{Entry}
use Rattle.tipc_journal.specs.declared.entries.Entry.TheVariants as entry
use Rattle.tipc_journal.specs.Steps.{NodeStep, step_entries}
use Rattle.tipc_journal.specs.Streams.{accepted, accepted_message, delivered, delivered_message, flow_eq, stream_eq}
use Rattle.tipc_journal.proofs.StreamLaws.{accepted_nil, accepted_step, delivered_step}
use Rattle.tipc_pair.specs.Facing.{PairEnds, contact_between, in_contact}
use Rattle.tipc_node.specs.Turns.{addr_of, cast_told, is_cast_for, is_cast_from}
use Rattle.tipc_replay.specs.Casters.{cast_contact}
use Rattle.tipc_replay.specs.States.{stream_of}

-- ---- entries that concern a peer

filter_map_filtered : {X Y : Type 0} (h : X → Option Y) (p : X → Bool) (xs : List X) → ((x : X) → p x ≡ false → h x ≡ None) → filter_map h (filter p xs) ≡ filter_map h xs
filter_map_filtered h p [] none = refl
filter_map_filtered {X} {Y} h p (x ∷ xs) none = case (filter_map_filtered h p xs none) (p x) refl
  where
    case : filter_map h (filter p xs) ≡ filter_map h xs → (b : Bool) → p x ≡ b → filter_map h (if b then x ∷ filter p xs else filter p xs) ≡ filter_map h (x ∷ xs)
    case rest true is = ap (λ ys. cons_option (h x) ys) rest
    case rest false is = rest ∙ ap (λ o. cons_option o (filter_map h xs)) (sym (none x is))

none_of : (a b c d : Bool) → (a && d) ≡ false → (a && (b && (c && d))) ≡ false
none_of false b c d is = refl
none_of true false c d is = refl
none_of true true false d is = refl
none_of true true true d is = is

other_stream : (word other : ℕ) (c d : ℕ × ℕ) (flow : Flow) → ((word == other) && flow_eq flow Broadcast) ≡ false
    → stream_eq (record { peer = record { word = word }; contact = c; flow = flow }) (record { peer = record { word = other }; contact = d; flow = Broadcast }) ≡ false
unfolding stream_eq
other_stream word other c d flow apart = none_of (word == other) (c.0 == d.0) (c.1 == d.1) (flow_eq flow Broadcast) apart

cast_elsewhere : (b own theirs : ℕ) (e : Entry) → is_cast_for b e ≡ false → accepted_message (stream_of b own theirs Broadcast) e ≡ None
cast_elsewhere b own theirs (entry.Accepted peer numbers flow message) apart = ap (λ t. if t then Some message else None) (other_stream peer.word (node_word b) numbers (own, theirs) flow apart)
cast_elsewhere b own theirs other apart = refl

heard_elsewhere : (b own theirs : ℕ) (e : Entry) → is_cast_from b e ≡ false → delivered_message (stream_of b own theirs Broadcast) e ≡ None
heard_elsewhere b own theirs (entry.Delivered peer numbers flow message by) apart = ap (λ t. if t then Some message else None) (other_stream peer.word (node_word b) numbers (own, theirs) flow apart)
heard_elsewhere b own theirs other apart = refl

cast_here : (b own theirs : ℕ) (entries : List Entry) → accepted (filter (is_cast_for b) entries) (stream_of b own theirs Broadcast) ≡ accepted entries (stream_of b own theirs Broadcast)
unfolding accepted
cast_here b own theirs entries = filter_map_filtered (accepted_message (stream_of b own theirs Broadcast)) (is_cast_for b) entries (cast_elsewhere b own theirs)

heard_here : (b own theirs : ℕ) (entries : List Entry) → delivered (filter (is_cast_from b) entries) (stream_of b own theirs Broadcast) ≡ delivered entries (stream_of b own theirs Broadcast)
unfolding delivered
heard_here b own theirs entries = filter_map_filtered (delivered_message (stream_of b own theirs Broadcast)) (is_cast_from b) entries (heard_elsewhere b own theirs)

-- ---- a step

pub cast_then : (old new : List Entry) (s : NodeStep) (b own theirs : ℕ) (es : List Entry) → new ≡ old ++ step_entries s → filter (is_cast_for b) s.inside ≡ es
    → accepted new (stream_of b own theirs Broadcast) ≡ accepted old (stream_of b own theirs Broadcast) ++ accepted es (stream_of b own theirs Broadcast)
cast_then old new s b own theirs es is of_peer =
    ap (λ l. accepted l (stream_of b own theirs Broadcast)) is ∙ accepted_step old s (stream_of b own theirs Broadcast)
    ∙ ap (λ ms. accepted old (stream_of b own theirs Broadcast) ++ ms) (sym (cast_here b own theirs s.inside) ∙ ap (λ l. accepted l (stream_of b own theirs Broadcast)) of_peer)

pub heard_then : (old new : List Entry) (s : NodeStep) (b own theirs : ℕ) (es : List Entry) → new ≡ old ++ step_entries s → filter (is_cast_from b) s.inside ≡ es
    → delivered new (stream_of b own theirs Broadcast) ≡ delivered old (stream_of b own theirs Broadcast) ++ delivered es (stream_of b own theirs Broadcast)
heard_then old new s b own theirs es is of_peer =
    ap (λ l. delivered l (stream_of b own theirs Broadcast)) is ∙ delivered_step old s (stream_of b own theirs Broadcast)
    ∙ ap (λ ms. delivered old (stream_of b own theirs Broadcast) ++ ms) (sym (heard_here b own theirs s.inside) ∙ ap (λ l. delivered l (stream_of b own theirs Broadcast)) of_peer)

-- ---- the message that was cast

-- two contacts are the same number where they have the same two
pub contact_test : (c d own theirs : ℕ) → d < 2 ^ 64 → theirs < 2 ^ 64 → ((c == own) && (d == theirs)) ≡ (contact_of c d == contact_of own theirs)
contact_test c d own theirs one two = by (c == own) (d == theirs) (contact_of c d == contact_of own theirs) refl refl refl
  where
    by : (p q r : Bool) → (c == own) ≡ p → (d == theirs) ≡ q → (contact_of c d == contact_of own theirs) ≡ r → (p && q) ≡ r
    by true true true first second whole = refl
    by true true false first second whole =
        let a : c ≡ own = eqb-true c own first in
        let b : d ≡ theirs = eqb-true d theirs second in
        let same : contact_of c d ≡ contact_of own theirs = omega (arith, a, b) in
        absurd (let no : contact_of c d ≢ contact_of own theirs = grind (arith, nat_tests, whole) in no same)
    by true false true first second whole =
        let a : c ≡ own = eqb-true c own first in
        let same : contact_of c d ≡ contact_of own theirs = eqb-true (contact_of c d) (contact_of own theirs) whole in
        let b : d ≢ theirs = grind (arith, nat_tests, second) in
        absurd (b (omega (arith, a, same)))
    by true false false first second whole = refl
    by false q true first second whole =
        let same : contact_of c d ≡ contact_of own theirs = eqb-true (contact_of c d) (contact_of own theirs) whole in
        let a : c ≢ own = grind (arith, nat_tests, first) in
        absurd (a (omega (arith, same, one, two)))
    by false q false first second whole = refl

pub entry_told : (b own theirs : ℕ) (numbers : ℕ × ℕ) (m : Message) → accepted (entry.Accepted (addr_of b) numbers Broadcast m ∷ []) (stream_of b own theirs Broadcast) ≡ (if (numbers.0 == own) && (numbers.1 == theirs) then m ∷ [] else [])
unfolding accepted stream_eq
entry_told b own theirs numbers m =
    let itself : (node_word b == node_word b) ≡ true = grind (arith, nat_tests) in
    ap (λ t. cons_option (if t && ((numbers.0 == own) && ((numbers.1 == theirs) && true)) then Some m else None) []) itself ∙ by (numbers.0 == own) (numbers.1 == theirs)
  where
    by : (p q : Bool) → cons_option (if true && (p && (q && true)) then Some m else None) [] ≡ (if p && q then m ∷ [] else [])
    by true true = refl
    by true false = refl
    by false q = refl

-- its packet stands last among those of the contact in which the node is with the peer, whose numbers have 64 bits
pub cast_adds : (spelled : Message → List ℕ) (b own theirs : ℕ) (x : PairEnds) (m : Message) → AreContactNumbers own theirs → x.seen < 2 ^ 64
    → map spelled (accepted (cast_told b x (Some m)) (stream_of b own theirs Broadcast)) ≡ put_one_more (spelled m) (option_map cast_contact (contact_between x)) (contact_of own theirs)
cast_adds spelled b own theirs x m numbers fits = by (contact_between x) refl
  where
    none : map spelled (accepted [] (stream_of b own theirs Broadcast)) ≡ []
    none = ap (map spelled) (accepted_nil (stream_of b own theirs Broadcast))

    one : (p : Bool) → map spelled (if p then m ∷ [] else []) ≡ (if p then spelled m ∷ [] else [])
    one true = refl
    one false = refl

    seen : (c : ℕ × ℕ) → contact_between x ≡ Some c → c.1 < 2 ^ 64
    seen c is = within (in_contact x) is
      where
        within : (t : Bool) → (if t then Some (x.contact, x.seen) else None) ≡ Some c → c.1 < 2 ^ 64
        within true some = (let same : (x.contact, x.seen) ≡ c = cc in subst (λ (k : ℕ × ℕ). k.1 < 2 ^ 64) same fits)
        within false some = absurd (let wrong : None ≡ Some c = some in cc)

    by : (o : Option (ℕ × ℕ)) → contact_between x ≡ o → map spelled (accepted (option_to_list (option_map (λ c. entry.Accepted (addr_of b) c Broadcast m) o)) (stream_of b own theirs Broadcast)) ≡ put_one_more (spelled m) (option_map cast_contact o) (contact_of own theirs)
    by None is = none
    by (Some c) is =
        ap (map spelled) (entry_told b own theirs c m) ∙ one ((c.0 == own) && (c.1 == theirs)) ∙ ap (λ t. if t then spelled m ∷ [] else []) (contact_test c.0 c.1 own theirs (seen c is) numbers.1)
