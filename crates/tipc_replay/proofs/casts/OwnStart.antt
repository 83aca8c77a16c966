-- The start that a caster shows a member as the contact begins is that which it has for it then.
use Rattle.std.specs.Prelude.{cond, option_map}
use Rattle.std.proofs.Common.{◌≡◌, ◌==◌, ◌+◌, ◌∙◌, ℕ, Bool, true, false, if◌then◌else◌, List, [], ◌∷◌, Option, Some, None, refl, sym, ap, arith}
use Rattle.std.specs.Option.{option_or}
use Rattle.std.proofs.lemmas.Bool.Decides.{nat_tests}
use Rattle.std.proofs.lemmas.List.Folds.{find-append}
use Rattle.tipc_types.specs.Position.{number_of}
use Rattle.tipc_types.specs.declared.link_words.BroadcastState.{BroadcastState}
use Rattle.tipc_recv_window.specs.Receiving.{Receiving, fresh}
use Rattle.tipc_broadcast.specs.declared.contacts.Contact.{Contact}
use Rattle.tipc_broadcast.specs.Casting.{Casting, answered, informed, joining, next_start, shown, stating}
use Rattle.tipc_broadcast.specs.Contacts.{acknowledging, contact_with, is_in_step, is_with, joined, noted_in, shown_in, shown_to, stepped, told, with_changed}
use Rattle.tipc_broadcast.specs.Deeds.{CastDeed, after_deeds}
use Rattle.tipc_broadcast.proofs.Deeds.{LeavesBoot, answered_alike, told_keeps}

-- ---- the start of the contact with a peer

-- that of its contact, where there is one
abbrev start_of : Option Contact → Option ℕ
start_of o = option_map (λ (c : Contact). c.start) o

abbrev start_with : ℕ → List Contact → Option ℕ
start_with peer cs = start_of (contact_with peer cs)

KeepsStart : (Contact → Contact) → Type 0
KeepsStart change = (c : Contact) → (change c).start ≡ c.start

changed_start : (w peer : ℕ) (change : Contact → Contact) (cs : List Contact) → LeavesBoot change → KeepsStart change → start_with w (with_changed peer change cs) ≡ start_with w cs
unfolding KeepsStart
changed_start w peer change [] keeps same = refl
changed_start w peer change (c ∷ cs) keeps same = by (changed_start w peer change cs keeps same) (is_with peer c) (is_with w c) refl
  where
    by : start_with w (with_changed peer change cs) ≡ start_with w cs → (p q : Bool) → is_with w c ≡ q → start_with w (if p then change c ∷ cs else c ∷ with_changed peer change cs) ≡ start_with w (c ∷ cs)
    by later true true is =
        let still : is_with w (change c) ≡ true = ap (λ a. a.word == w) (keeps c).1 ∙ is in
        ap (λ b. start_of (cond b (Some (change c)) (contact_with w cs))) still ∙ ap Some (same c) ∙ ap (λ b. start_of (cond b (Some c) (contact_with w cs))) (sym is)
    by later true false is =
        let still : is_with w (change c) ≡ false = ap (λ a. a.word == w) (keeps c).1 ∙ is in
        ap (λ b. start_of (cond b (Some (change c)) (contact_with w cs))) still ∙ ap (λ b. start_of (cond b (Some c) (contact_with w cs))) (sym is)
    by later false true is =
        ap (λ b. start_of (cond b (Some c) (contact_with w (with_changed peer change cs)))) is ∙ ap (λ b. start_of (cond b (Some c) (contact_with w cs))) (sym is)
    by later false false is =
        ap (λ b. start_of (cond b (Some c) (contact_with w (with_changed peer change cs)))) is ∙ later ∙ ap (λ b. start_of (cond b (Some c) (contact_with w cs))) (sym is)

told_start : (start next : ℕ) → KeepsStart (told start next)
unfolding KeepsStart
told_start start next c = noted_start (stepped start c) (stepped start c).window (step (is_in_step c))
  where
    step : (b : Bool) → (if b then c else record c { window = Some (fresh start); shown = start }).start ≡ c.start
    step true = refl
    step false = refl

    noted_start : (k : Contact) (o : Option Receiving) → k.start ≡ c.start → (noted_in next k o).start ≡ c.start
    noted_start k None same = same
    noted_start k (Some r) same = same

stating_start : (w : ℕ) (v : Casting) (peer : ℕ) (seen : BroadcastState) → start_with w (stating v peer seen).contacts ≡ start_with w v.contacts
unfolding KeepsStart
stating_start w v peer seen = by seen.in_step
  where
    u : Casting
    u = informed v peer seen.start seen.next

    first : start_with w u.contacts ≡ start_with w v.contacts
    first = changed_start w peer (told seen.start seen.next) v.contacts (told_keeps seen.start seen.next) (told_start seen.start seen.next)

    by : (b : Bool) → start_with w (if b then answered u peer seen.acknowledged else u).contacts ≡ start_with w v.contacts
    by true = ap (start_with w) (answered_alike u peer seen.acknowledged).contacts ∙ changed_start w peer (acknowledging u.sending.numbered seen.acknowledged) u.contacts (λ c. (refl, refl)) (λ c. refl) ∙ first
    by false = first

-- ---- what is shown of it

shown_start : (w : ℕ) (v : Casting) (s : ℕ) → start_with w v.contacts ≡ Some s → (shown v w).start ≡ number_of s
shown_start w v s is = by (contact_with w v.contacts) is
  where
    in_window : (next start last : ℕ) (o : Option Receiving) → (shown_in next start last o).start ≡ start
    in_window next start last None = refl
    in_window next start last (Some r) = refl

    by : (o : Option Contact) → start_of o ≡ Some s → (shown_to (number_of (v.sending.numbered + 1)) (number_of (next_start v)) o).start ≡ number_of s
    by None some = absurd (let wrong : None ≡ Some s = some in cc)
    by (Some c) some = (let same : c.start ≡ s = cc in in_window (number_of (v.sending.numbered + 1)) (number_of c.start) c.shown c.window ∙ ap number_of same)

out_start : (w : ℕ) (v : Casting) → contact_with w v.contacts ≡ None → (shown v w).start ≡ number_of (next_start v)
out_start w v none = ap (λ o. (shown_to (number_of (v.sending.numbered + 1)) (number_of (next_start v)) o).start) none

joined_start : (w boot : ℕ) (v : Casting) → contact_with w v.contacts ≡ None → start_with w (joining v w boot).contacts ≡ Some (next_start v)
joined_start w boot v none =
    let itself : (w == w) ≡ true = grind (arith, nat_tests) in
    ap start_of (find-append (is_with w) v.contacts (joined w boot (next_start v) ∷ []) ∙ ap (λ o. option_or o (contact_with w (joined w boot (next_start v) ∷ []))) none ∙ ap (λ b. cond b (Some (joined w boot (next_start v))) None) itself)

-- a contact begins, and a STATE may be taken behind it
pub began_start : (w boot : ℕ) (v : Casting) → contact_with w v.contacts ≡ None → (shown (after_deeds (CastDeed.joins w boot ∷ []) v) w).start ≡ (shown v w).start
began_start w boot v none = shown_start w (joining v w boot) (next_start v) (joined_start w boot v none) ∙ sym (out_start w v none)

pub began_told_start : (w boot : ℕ) (seen : BroadcastState) (v : Casting) → contact_with w v.contacts ≡ None → (shown (after_deeds (CastDeed.joins w boot ∷ CastDeed.states w seen ∷ []) v) w).start ≡ (shown v w).start
began_told_start w boot seen v none =
    shown_start w (stating (joining v w boot) w seen) (next_start v) (stating_start w (joining v w boot) w seen ∙ joined_start w boot v none) ∙ sym (out_start w v none)
