-- Where anything was delivered in a contact, both nodes entered it.
use Rattle.std.proofs.Common.{◌≡◌, ◌≢◌, ℕ, zero, suc, Bool, true, false, List, [], ◌∷◌, ◌++◌, Option, Some, None, if◌then◌else◌, slice_get, slice_index_or, option_map, unwrap_or, refl, sym, ap, ◌∙◌, subst, inl, inr, append-nil}
use Rattle.std.specs.Prelude.{◌⊎◌}
use Rattle.std.specs.List.{cons_option, filter_map, flat_map}
use Rattle.std.proofs.lemmas.List.Concat.{flat_map-append}
use Rattle.tipc_types.specs.Prefixes.{IsPrefixOf}
use Rattle.tipc_types.specs.declared.identity.Addr.{Addr}
use Rattle.tipc_types.specs.declared.message_forms.Flow.{Flow}
use Rattle.tipc_types.specs.declared.message_forms.Message.{Message}
use Rattle.tipc_journal.specs.declared.entries.Entry.{Entry}
use Rattle.tipc_journal.specs.declared.entries.Entry.TheVariants as entry
use Rattle.tipc_journal.specs.Streams.{Stream, accepted, accepted_message, delivered, delivered_message, stream_eq}
use Rattle.tipc_journal.proofs.StreamLaws.{stream_eq_true}
use Rattle.tipc_replay.specs.Skies.{AirState}
use Rattle.tipc_replay.specs.Lawful.{AreLawful, HasBegun, IsWithin}
use Rattle.tipc_replay.specs.States.{MemberState, accepted_at, delivered_at, history, history_at, member_at, stream_of}
use Rattle.tipc_node.specs.Turns.{addr_of}
use Rattle.tipc_replay.proofs.streams.Within.{of_either, of_later}
use Rattle.tipc_link.proofs.Directions.{slice_get-append as get_longer}

-- ---- the journals of all boots

-- an entry of the lists one after another is of one of them
entry_of : (js : List (List Entry)) (k : ℕ) (e : Entry) → slice_get (flat_map (λ entries. entries) js) k ≡ Some e → (i : ℕ) × (j : List Entry) × (n : ℕ) × (slice_get js i ≡ Some j) × (slice_get j n ≡ Some e)
entry_of [] k e there = absurd cc
entry_of (j ∷ js) k e there = by (λ n later. entry_of js n e later) (of_either j (flat_map (λ entries. entries) js) k e there)
  where
    by : ((n : ℕ) → slice_get (flat_map (λ entries. entries) js) n ≡ Some e → (i : ℕ) × (l : List Entry) × (m : ℕ) × (slice_get js i ≡ Some l) × (slice_get l m ≡ Some e)) → (slice_get j k ≡ Some e) ⊎ ((n : ℕ) × (slice_get (flat_map (λ entries. entries) js) n ≡ Some e)) → (i : ℕ) × (l : List Entry) × (n : ℕ) × (slice_get (j ∷ js) i ≡ Some l) × (slice_get l n ≡ Some e)
    by rest (inl here) = (zero, j, k, refl, here)
    by rest (inr later) = let found = rest later.0 later.1 in (suc found.0, found.1, found.2, found.3, found.4)

entry_in : (js : List (List Entry)) (i : ℕ) (j : List Entry) (n : ℕ) (e : Entry) → slice_get js i ≡ Some j → slice_get j n ≡ Some e → (k : ℕ) × (slice_get (flat_map (λ entries. entries) js) k ≡ Some e)
entry_in [] i j n e at there = absurd cc
entry_in (l ∷ ls) zero j n e at there =
    let same : l ≡ j = cc in
    (n, get_longer l (flat_map (λ entries. entries) ls) n e (subst (λ (m : List Entry). slice_get m n ≡ Some e) (sym same) there))
entry_in (l ∷ ls) (suc i) j n e at there =
    let found = entry_in ls i j n e at there in
    of_later l (flat_map (λ entries. entries) ls) found.0 e found.1

-- the history is the journals of all boots
history_is : (m : MemberState) → history m ≡ flat_map (λ entries. entries) (m.past ++ m.node.journal ∷ [])
unfolding history
history_is m = sym (flat_map-append (λ entries. entries) m.past (m.node.journal ∷ []) ∙ ap (λ j. flat_map (λ entries. entries) m.past ++ j) (append-nil m.node.journal))

-- each message of a history is within a contact that began in it
within_longer : (js : List (List Entry)) (i : ℕ) (j : List Entry) (e : Entry) → slice_get js i ≡ Some j → IsWithin j e → IsWithin (flat_map (λ entries. entries) js) e
within_longer js i j (entry.Accepted peer numbers flow message) at h = let found = entry_in js i j h.place (entry.ContactUp peer numbers) at h.entry_is in record { place = found.0; entry_is = found.1 }
within_longer js i j (entry.Delivered peer numbers flow message by) at h = let found = entry_in js i j h.place (entry.ContactUp peer numbers) at h.entry_is in record { place = found.0; entry_is = found.1 }
within_longer js i j other at h = tt

history_within : (air : AirState) (m : MemberState) → AreLawful air m → (k : ℕ) (e : Entry) → slice_get (history m) k ≡ Some e → IsWithin (history m) e
history_within air m lawful k e there =
    let js = m.past ++ m.node.journal ∷ [] in
    let found = entry_of js k e (subst (λ (es : List Entry). slice_get es k ≡ Some e) (history_is m) there) in
    subst (λ es. IsWithin es e) (sym (history_is m)) (within_longer js found.0 found.1 e found.3 ((lawful found.0 found.1 found.3).within found.2 e found.4))

-- ---- the entry of a message

entry_for : {Y : Type 0} (h : Entry → Option Y) (es : List Entry) (y : Y) (ys : List Y) → filter_map h es ≡ y ∷ ys → (k : ℕ) × (e : Entry) × (slice_get es k ≡ Some e) × (h e ≡ Some y)
entry_for {Y} h [] y ys is = absurd cc
entry_for {Y} h (e ∷ es) y ys is = case (λ found. entry_for h es y ys found) (h e) refl is
  where
    case : (filter_map h es ≡ y ∷ ys → (k : ℕ) × (e' : Entry) × (slice_get es k ≡ Some e') × (h e' ≡ Some y)) → (o : Option Y) → h e ≡ o → cons_option o (filter_map h es) ≡ y ∷ ys → (k : ℕ) × (e' : Entry) × (slice_get (e ∷ es) k ≡ Some e') × (h e' ≡ Some y)
    case rest None none is = let later = rest is in (suc later.0, later.1, later.2, later.3)
    case rest (Some x) some is = let same : x ≡ y = cc in (zero, e, refl, some ∙ ap Some same)

chosen : (b : Bool) (m message : Message) → (if b then Some m else None) ≡ Some message → b ≡ true
chosen true m message is = refl
chosen false m message is = absurd cc

begun_as : (entries : List Entry) (peer : Addr) (numbers : ℕ × ℕ) (flow : Flow) (s : Stream) → stream_eq (record { peer = peer; contact = numbers; flow = flow }) s ≡ true → HasBegun entries peer numbers → HasBegun entries s.peer s.contact
begun_as entries peer numbers flow s same h =
    let is = stream_eq_true (record { peer = peer; contact = numbers; flow = flow }) s same in
    subst (λ (t : Stream). HasBegun entries t.peer t.contact) is h

accepted_begun : (entries : List Entry) (s : Stream) (e : Entry) (message : Message) → accepted_message s e ≡ Some message → IsWithin entries e → HasBegun entries s.peer s.contact
accepted_begun entries s (entry.Accepted peer numbers flow m) message is h = begun_as entries peer numbers flow s (chosen _ m message is) h
accepted_begun entries s other message is h = absurd cc

delivered_begun : (entries : List Entry) (s : Stream) (e : Entry) (message : Message) → delivered_message s e ≡ Some message → IsWithin entries e → HasBegun entries s.peer s.contact
delivered_begun entries s (entry.Delivered peer numbers flow m by) message is h = begun_as entries peer numbers flow s (chosen _ m message is) h
delivered_begun entries s other message is h = absurd cc

accepted_within : (entries : List Entry) (s : Stream) (message : Message) (messages : List Message) → ((k : ℕ) (e : Entry) → slice_get entries k ≡ Some e → IsWithin entries e) → accepted entries s ≡ message ∷ messages → HasBegun entries s.peer s.contact
unfolding accepted
accepted_within entries s message messages all is = let found = entry_for (accepted_message s) entries message messages is in accepted_begun entries s found.1 message found.3 (all found.0 found.1 found.2)

delivered_within : (entries : List Entry) (s : Stream) (message : Message) (messages : List Message) → ((k : ℕ) (e : Entry) → slice_get entries k ≡ Some e → IsWithin entries e) → delivered entries s ≡ message ∷ messages → HasBegun entries s.peer s.contact
unfolding delivered
delivered_within entries s message messages all is = let found = entry_for (delivered_message s) entries message messages is in delivered_begun entries s found.1 message found.3 (all found.0 found.1 found.2)

-- ---- two nodes

all_within : (members : List (Option MemberState)) (air : AirState) (n : ℕ) → ((k : ℕ) (m : MemberState) → slice_index_or members k None ≡ Some m → AreLawful air m)
    → (k : ℕ) (e : Entry) → slice_get (history_at members n) k ≡ Some e → IsWithin (history_at members n) e
unfolding history_at member_at
all_within members air n lawful = case (slice_index_or members n None) refl
  where
    case : (o : Option MemberState) → slice_index_or members n None ≡ o → (k : ℕ) (e : Entry) → slice_get (unwrap_or (option_map history o) []) k ≡ Some e → IsWithin (unwrap_or (option_map history o) []) e
    case None is k e there = absurd cc
    case (Some m) is k e there = history_within air m (lawful n m is) k e there

pub both_entered : (members : List (Option MemberState)) (air : AirState) (a b a_number b_number : ℕ) (flow : Flow) → ((k : ℕ) (m : MemberState) → slice_index_or members k None ≡ Some m → AreLawful air m)
    → IsPrefixOf (delivered_at members b a b_number a_number flow) (accepted_at members a b a_number b_number flow) → delivered_at members b a b_number a_number flow ≢ []
    → HasBegun (history_at members a) (addr_of b) (a_number, b_number) × HasBegun (history_at members b) (addr_of a) (b_number, a_number)
unfolding delivered_at accepted_at
both_entered members air a b a_number b_number flow lawful prefix some = case (delivered (history_at members b) (stream_of a b_number a_number flow)) refl
  where
    case : (ds : List Message) → delivered (history_at members b) (stream_of a b_number a_number flow) ≡ ds → HasBegun (history_at members a) (addr_of b) (a_number, b_number) × HasBegun (history_at members b) (addr_of a) (b_number, a_number)
    case [] none = absurd (some none)
    case (d ∷ ds) is = (
      accepted_within (history_at members a) (stream_of b a_number b_number flow) d (ds ++ prefix.0) (all_within members air a lawful) (prefix.1 ∙ ap (λ ms. ms ++ prefix.0) is),
      delivered_within (history_at members b) (stream_of a b_number a_number flow) d ds (all_within members air b lawful) is,
    )
