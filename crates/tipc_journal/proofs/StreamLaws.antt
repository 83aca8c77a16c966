-- Streams behind one more entry, behind later ones, and behind one more step.
use Rattle.std.specs.Prelude.{◌==◌, count_by, is_some}
use Rattle.std.specs.List.{cons_option, filter_map}
use Rattle.std.proofs.Common.{◌≡◌, ◌⊎◌, inl, inr, ℕ, Bool, true, false, List, [], ◌∷◌, ◌++◌, Option, Some, None, cond, length, ◌+◌, refl, ◌∙◌, ap, eq-eqb, eqb-true, arith}
use Rattle.std.proofs.lemmas.Bool.{and_from, and_parts}
use Rattle.std.proofs.lemmas.List.{append-nil}
use Rattle.std.proofs.lemmas.List.Elements.{filter_map-append}
use Rattle.std.proofs.lemmas.List.Recursion.{is_count_by}
use Rattle.tipc_types.specs.declared.message_forms.Flow.{Flow}
use Rattle.tipc_types.specs.declared.message_forms.Flow.TheVariants.{Zero, One, Broadcast}
use Rattle.tipc_journal.specs.declared.entries.Entry.{Entry}
use Rattle.tipc_journal.specs.declared.entries.Entry.TheVariants.{Answered}
use Rattle.tipc_journal.specs.Prefixes.{list_with}
use Rattle.tipc_journal.specs.Steps.{NodeStep, step_entries}
use Rattle.tipc_journal.specs.Streams.{Stream, flow_eq, stream_eq, accepted_message, accepted, delivered_message, delivered}

-- a flow is the same as itself
pub flow_eq_refl : (f : Flow) → flow_eq f f ≡ true
flow_eq_refl Zero = refl
flow_eq_refl One = refl
flow_eq_refl Broadcast = refl

-- flows that test as the same are the same
pub flow_eq_true : (f g : Flow) → flow_eq f g ≡ true → f ≡ g
flow_eq_true Zero Zero same = refl
flow_eq_true One One same = refl
flow_eq_true Broadcast Broadcast same = refl
flow_eq_true Zero One same = cc
flow_eq_true Zero Broadcast same = cc
flow_eq_true One Zero same = cc
flow_eq_true One Broadcast same = cc
flow_eq_true Broadcast Zero same = cc
flow_eq_true Broadcast One same = cc

-- a stream is the same as itself
pub stream_eq_refl : (s : Stream) → stream_eq s s ≡ true
unfolding stream_eq
stream_eq_refl s =
    and_from _ _ (eq-eqb s.peer.word s.peer.word refl)
    (and_from _ _ (eq-eqb s.contact.0 s.contact.0 refl)
    (and_from _ _ (eq-eqb s.contact.1 s.contact.1 refl) (flow_eq_refl s.flow)))

-- streams that test as the same are the same
pub stream_eq_true : (s t : Stream) → stream_eq s t ≡ true → s ≡ t
unfolding stream_eq
stream_eq_true s t same =
    let made : ℕ → ℕ → ℕ → Flow → Stream = λ w a b f. record { peer = record { word = w }; contact = (a, b); flow = f } in
    let peers = and_parts (s.peer.word == t.peer.word) _ same in
    let owns = and_parts (s.contact.0 == t.contact.0) _ peers.1 in
    let theirs = and_parts (s.contact.1 == t.contact.1) _ owns.1 in
    ap (λ w. made w s.contact.0 s.contact.1 s.flow) (eqb-true s.peer.word t.peer.word peers.0)
    ∙ ap (λ a. made t.peer.word a s.contact.1 s.flow) (eqb-true s.contact.0 t.contact.0 owns.0)
    ∙ ap (λ b. made t.peer.word t.contact.0 b s.flow) (eqb-true s.contact.1 t.contact.1 theirs.0)
    ∙ ap (λ f. made t.peer.word t.contact.0 t.contact.1 f) (flow_eq_true s.flow t.flow theirs.1)

-- two streams are the same or not
pub stream_cases : (s t : Stream) → (s ≡ t) ⊎ (stream_eq s t ≡ false)
stream_cases s t =
    let P : Bool → Type 0 = λ b. (stream_eq s t ≡ b) → (s ≡ t) ⊎ (stream_eq s t ≡ false) in
    (elim (stream_eq s t) as P [ true ↦ λ e. inl (stream_eq_true s t e) | false ↦ λ e. inr e ]) refl

-- streams that aren't the same test so
pub stream_eq_false : (s t : Stream) → (s ≡ t → ⊥) → stream_eq s t ≡ false
stream_eq_false s t other =
    elim (stream_cases s t) as (λ _. stream_eq s t ≡ false) [ inl e ↦ absurd (other e) | inr e ↦ e ]

-- one more item of a list that is read for some of its entries
pub filter_map_more : {X Y : Type 0} (h : X → Option Y) (xs : List X) (x : X)
    → filter_map h (xs ++ x ∷ []) ≡ list_with (filter_map h xs) (h x)
filter_map_more {X} {Y} h xs x =
    let P : Option Y → Type 0 = λ o. filter_map h xs ++ cons_option o [] ≡ list_with (filter_map h xs) o in
    filter_map-append h xs (x ∷ []) ∙ (elim (h x) as P [ None ↦ append-nil (filter_map h xs) | Some y ↦ refl ])

-- an item before others, where there is one, makes a list longer by one
length_cons_option : {Y : Type 0} (o : Option Y) (ys : List Y) → length (cons_option o ys) ≡ cond (is_some o) (1 + length ys) (length ys)
length_cons_option None ys = refl
length_cons_option (Some y) ys = omega arith

-- a list that is read for some of its entries gives as many items as there are such entries
length_filter_map : {X Y : Type 0} (h : X → Option Y) (xs : List X) → length (filter_map h xs) ≡ count_by (λ x. is_some (h x)) xs
length_filter_map h xs =
    is_count_by (λ ys. length (filter_map h ys)) (λ x. is_some (h x)) refl (λ x ys. length_cons_option (h x) (filter_map h ys)) xs

-- an empty journal accepted nothing
pub accepted_nil : (s : Stream) → accepted [] s ≡ []
unfolding accepted
accepted_nil s = refl

-- what was accepted in two parts of a journal, one behind the other
pub accepted_append : (xs ys : List Entry) (s : Stream) → accepted (xs ++ ys) s ≡ accepted xs s ++ accepted ys s
unfolding accepted
accepted_append xs ys s = filter_map-append (accepted_message s) xs ys

-- one more entry adds its message where it is an Accepted of the stream; each other kind of entry adds nothing
pub accepted_more : (xs : List Entry) (e : Entry) (s : Stream) → accepted (xs ++ e ∷ []) s ≡ list_with (accepted xs s) (accepted_message s e)
unfolding accepted
accepted_more xs e s = filter_map_more (accepted_message s) xs e

-- as many messages were accepted as there are Accepted entries of the stream
pub length_accepted : (entries : List Entry) (s : Stream) → length (accepted entries s) ≡ count_by (λ e. is_some (accepted_message s e)) entries
unfolding accepted
length_accepted entries s = length_filter_map (accepted_message s) entries

-- an empty journal delivered nothing
pub delivered_nil : (s : Stream) → delivered [] s ≡ []
unfolding delivered
delivered_nil s = refl

-- what was delivered in two parts of a journal, one behind the other
pub delivered_append : (xs ys : List Entry) (s : Stream) → delivered (xs ++ ys) s ≡ delivered xs s ++ delivered ys s
unfolding delivered
delivered_append xs ys s = filter_map-append (delivered_message s) xs ys

-- one more entry adds its message where it is an Delivered of the stream; each other kind of entry adds nothing
pub delivered_more : (xs : List Entry) (e : Entry) (s : Stream) → delivered (xs ++ e ∷ []) s ≡ list_with (delivered xs s) (delivered_message s e)
unfolding delivered
delivered_more xs e s = filter_map_more (delivered_message s) xs e

-- as many messages were delivered as there are Delivered entries of the stream
pub length_delivered : (entries : List Entry) (s : Stream) → length (delivered entries s) ≡ count_by (λ e. is_some (delivered_message s e)) entries
unfolding delivered
length_delivered entries s = length_filter_map (delivered_message s) entries

-- a step adds the messages accepted in the entries that it made
pub accepted_step : (J : List Entry) (n : NodeStep) (s : Stream) → accepted (J ++ step_entries n) s ≡ accepted J s ++ accepted n.inside s
unfolding accepted
accepted_step J n s =
    filter_map-append (accepted_message s) J (step_entries n)
    ∙ ap (λ w. accepted J s ++ w)
    (filter_map-append (accepted_message s) n.inside (Answered n.caller n.call n.answer ∷ []) ∙ append-nil (accepted n.inside s))

-- a step adds the messages delivered in the entries that it made
pub delivered_step : (J : List Entry) (n : NodeStep) (s : Stream) → delivered (J ++ step_entries n) s ≡ delivered J s ++ delivered n.inside s
unfolding delivered
delivered_step J n s =
    filter_map-append (delivered_message s) J (step_entries n)
    ∙ ap (λ w. delivered J s ++ w)
    (filter_map-append (delivered_message s) n.inside (Answered n.caller n.call n.answer ∷ []) ∙ append-nil (delivered n.inside s))
