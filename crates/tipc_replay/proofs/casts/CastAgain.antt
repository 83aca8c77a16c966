-- What was given of a broadcast is delivered: each packet is read again as the message that its caster sent.
use Rattle.std.specs.Prelude.{◌&&◌, map}
use Rattle.std.specs.List.{cons_option, flat_map}
use Rattle.std.proofs.Common.{◌≡◌, ◌<◌, ◌^◌, ◌==◌, ◌∙◌, ℕ, suc, Bool, true, false, if◌then◌else◌, List, [], ◌∷◌, ◌++◌, Some, None, refl, sym, ap, subst, eqb-true, arith}
use Rattle.std.proofs.lemmas.Bool.Decides.{nat_tests}
use Rattle.tipc_types.specs.Address.{node_word}
use Rattle.tipc_types.specs.declared.message_forms.Flow.TheVariants.{Broadcast}
use Rattle.tipc_types.specs.declared.message_forms.Message.{Message}
use Rattle.tipc_reassembly.specs.declared.opening.Opened.{Opened}
use Rattle.tipc_reassembly.specs.declared.opening.Opened.TheVariants.{Passed, Whole}
use Rattle.tipc_reassembly.specs.Slots.{packets_in}
use Rattle.tipc_casters.specs.Sights.{contact_of}
use Rattle.tipc_journal.specs.declared.entries.Entry.{Entry}
use Rattle.tipc_journal.specs.declared.entries.Entry.TheVariants as entry
use Rattle.tipc_journal.specs.Streams.{delivered, stream_eq}
use Rattle.tipc_journal.proofs.StreamLaws.{delivered_nil}
use Rattle.tipc_link.proofs.LinkLaw.{Each, Each-append, Each-none, Each-one}
use Rattle.tipc_node.specs.Messages.{IsSendable, bytes_of, in_flow, message_in_flow}
use Rattle.tipc_node.specs.Turns.{addr_of, delivered_entries, delivered_of}
use Rattle.tipc_replay.specs.Casters.{heard_contact}
use Rattle.tipc_replay.specs.States.{stream_of}
use Rattle.tipc_replay.proofs.LookUps.{either_way}
use Rattle.tipc_replay.proofs.casts.CastGiven.{IsCastBrought}
use Rattle.tipc_replay.proofs.casts.CastStreams.{contact_test}
use Rattle.tipc_replay.proofs.streams.TurnStreams.{message_is_in}

-- one that was delivered stands first, in the contact in which it came
one_delivered : (b own theirs : ℕ) (c : ℕ × ℕ) (x : Message) (number : List ℕ) (es : List Entry) → delivered (entry.Delivered (addr_of b) c Broadcast x number ∷ es) (stream_of b own theirs Broadcast)
    ≡ (if (c.0 == own) && (c.1 == theirs) then x ∷ [] else []) ++ delivered es (stream_of b own theirs Broadcast)
unfolding delivered stream_eq
one_delivered b own theirs c x number es =
    let itself : (node_word b == node_word b) ≡ true = grind (arith, nat_tests) in
    ap (λ t. cons_option (if t && ((c.0 == own) && ((c.1 == theirs) && true)) then Some x else None) (delivered es (stream_of b own theirs Broadcast))) itself ∙ by (c.0 == own) (c.1 == theirs) (delivered es (stream_of b own theirs Broadcast))
  where
    by : (p q : Bool) (rest : List Message) → cons_option (if true && (p && (q && true)) then Some x else None) rest ≡ (if p && q then x ∷ [] else []) ++ rest
    by true true rest = refl
    by true false rest = refl
    by false q rest = refl

-- what was opened is told again by the entries of it
pub told_again : (word b own theirs : ℕ) (c : ℕ × ℕ) (opened : List Opened) → Each (IsCastBrought word) (packets_in opened)
    → map (bytes_of word) (delivered (flat_map (delivered_of Broadcast b c) opened) (stream_of b own theirs Broadcast)) ≡ (if (c.0 == own) && (c.1 == theirs) then packets_in opened else [])
told_again word b own theirs c [] known = ap (map (bytes_of word)) (delivered_nil (stream_of b own theirs Broadcast)) ∙ sym (either_way ((c.0 == own) && (c.1 == theirs)) [])
told_again word b own theirs c (Passed place ∷ os) known = told_again word b own theirs c os known
told_again word b own theirs c (Whole packet number ∷ os) known =
    let read : message_in_flow Broadcast packet ≡ Some x = ap (in_flow Broadcast) (message_is_in word x packet first.1.sendable first.2) ∙ first.1.stays in
    ap (λ o. map (bytes_of word) (delivered (delivered_entries Broadcast b c o number ++ es) (stream_of b own theirs Broadcast))) read
    ∙ ap (map (bytes_of word)) (one_delivered b own theirs c x number es)
    ∙ join ((c.0 == own) && (c.1 == theirs)) (told_again word b own theirs c os (λ k p there. known (suc k) p there))
  where
    first : IsCastBrought word packet
    first = known 0 packet refl

    x : Message
    x = first.0

    es : List Entry
    es = flat_map (delivered_of Broadcast b c) os

    join : (t : Bool) → map (bytes_of word) (delivered es (stream_of b own theirs Broadcast)) ≡ (if t then packets_in os else [])
        → map (bytes_of word) ((if t then x ∷ [] else []) ++ delivered es (stream_of b own theirs Broadcast)) ≡ (if t then packet ∷ packets_in os else [])
    join true later = (λ i. first.2 i ∷ later i)
    join false later = later

-- and they are messages that the caster can send
pub again_sendable : (word b own theirs : ℕ) (c : ℕ × ℕ) (opened : List Opened) → Each (IsCastBrought word) (packets_in opened)
    → Each (IsSendable word) (delivered (flat_map (delivered_of Broadcast b c) opened) (stream_of b own theirs Broadcast))
again_sendable word b own theirs c [] known = subst (Each (IsSendable word)) (sym (delivered_nil (stream_of b own theirs Broadcast))) (Each-none (IsSendable word))
again_sendable word b own theirs c (Passed place ∷ os) known = again_sendable word b own theirs c os known
again_sendable word b own theirs c (Whole packet number ∷ os) known =
    let first = known 0 packet refl in
    let x = first.0 in
    let es = flat_map (delivered_of Broadcast b c) os in
    let read : message_in_flow Broadcast packet ≡ Some x = ap (in_flow Broadcast) (message_is_in word x packet first.1.sendable first.2) ∙ first.1.stays in
    subst (λ o. Each (IsSendable word) (delivered (delivered_entries Broadcast b c o number ++ es) (stream_of b own theirs Broadcast))) (sym read)
    (subst (Each (IsSendable word)) (sym (one_delivered b own theirs c x number es))
    (Each-append (IsSendable word) (if (c.0 == own) && (c.1 == theirs) then x ∷ [] else []) (delivered es (stream_of b own theirs Broadcast)) (chosen ((c.0 == own) && (c.1 == theirs)) x first.1.sendable)
    (again_sendable word b own theirs c os (λ k p there. known (suc k) p there))))
  where
    chosen : (t : Bool) (x : Message) → IsSendable word x → Each (IsSendable word) (if t then x ∷ [] else [])
    chosen true x h = Each-one (IsSendable word) x h
    chosen false x h = Each-none (IsSendable word)

-- ---- the contact

both_swapped : (p q : Bool) → (p && q) ≡ (q && p)
both_swapped true true = refl
both_swapped true false = refl
both_swapped false true = refl
both_swapped false false = refl

same_swapped : (a b : ℕ) → (a == b) ≡ (b == a)
same_swapped a b = by (a == b) (b == a) refl refl
  where
    by : (p q : Bool) → (a == b) ≡ p → (b == a) ≡ q → p ≡ q
    by true true first second = refl
    by true false first second = absurd (let same : a ≡ b = eqb-true a b first in let apart : b ≡ a → ⊥ = grind (arith, nat_tests, second) in apart (sym same))
    by false true first second = absurd (let same : b ≡ a = eqb-true b a second in let apart : a ≡ b → ⊥ = grind (arith, nat_tests, first) in apart (sym same))
    by false false first second = refl

-- two contacts of a member are one where their numbers are the same
pub contacts_test : (contact seen own theirs : ℕ) → contact < 2 ^ 64 → theirs < 2 ^ 64 → ((contact == theirs) && (seen == own)) ≡ (contact_of own theirs == heard_contact (contact, seen))
contacts_test contact seen own theirs one two =
    both_swapped (contact == theirs) (seen == own) ∙ contact_test seen contact own theirs one two ∙ same_swapped (contact_of seen contact) (contact_of own theirs)
