-- A caster on whose broadcast link nothing is under way: each member that is in contact was given all that was accepted
-- for it there.
use Rattle.std.proofs.Common.{◌≡◌, ◌≤◌, ◌<◌, ◌-◌, ◌==◌, ◌∙◌, ℕ, zero, suc, Bool, true, false, cond, List, [], ◌∷◌, Option, Some, None, drop, filter, length, map, refl, sym, ap, subst, length-drop, eqb-true, arith}
use Rattle.std.specs.Prelude.{All}
use Rattle.std.proofs.lemmas.Bool.Decides.{nat_tests}
use Rattle.std.proofs.lemmas.List.{drop_all, take_all}
use Rattle.std.proofs.lemmas.List.Elements.{All-head, All-tail}
use Rattle.std.proofs.lemmas.Option.{same_Some}
use Rattle.tipc_send_window.specs.Sending.{acked_of, Sending}
use Rattle.tipc_broadcast.specs.declared.contacts.Contact.{Contact}
use Rattle.tipc_broadcast.specs.Casting.{accepted, Casting}
use Rattle.tipc_broadcast.specs.Contacts.{contact_with, IsContact}
use Rattle.tipc_broadcast_law.specs.Groups.{Accepted, accepted_for, Caster, Group, is_contact, length_now, mark, Member, packets}
use Rattle.tipc_broadcast_law.specs.Law.{Keeps}
use Rattle.tipc_broadcast_law.specs.Steps.{IsSeen}
use Rattle.tipc_broadcast_law.proofs.Consequences.{is_for}
use Rattle.tipc_broadcast_law.proofs.MemberEvents.{place-begun, place-want}
use Rattle.tipc_casters.specs.Sights.{CasterSight, contact_of, IsCast, IsCaster, MemberSight}
use Rattle.tipc_casters.specs.Views.{AreCastSeen, AreContactNumbers, CasterView, IsOther, MemberView}
use Rattle.tipc_casters.proofs.Messages.{gives_messages}

-- nothing of a send window is under way
abbrev pub IsEmptyWindow : Sending → Type 0
IsEmptyWindow s = (s.unacked ≡ []) × (s.waiting ≡ [])

-- ---- what is for a member

not_its : (c : ℕ) (o : Option ℕ) → (o ≡ Some c → ⊥) → is_contact c o ≡ false
not_its c None never = refl
not_its c (Some d) never = by (d == c) refl
  where
    by : (t : Bool) → (d == c) ≡ t → (d == c) ≡ false
    by true same = absurd (never (ap Some (eqb-true d c same)))
    by false same = same

-- where that is all from a place on, and nothing before it
all_from : (line : List Accepted) (m c s : ℕ) → ((x : ℕ) → mark line m x ≡ Some c → s ≤ x) → ((x : ℕ) → s ≤ x → x < length line → mark line m x ≡ Some c)
    → accepted_for m c line ≡ map (λ (a : Accepted). a.packet) (drop s line)
unfolding accepted_for mark
all_from [] m c zero low own = refl
all_from [] m c (suc s) low own = refl
all_from (e ∷ line) m c zero low own =
    let its : (c == c) ≡ true = grind (arith, nat_tests) in
    let here : is_for m c e ≡ true = ap (is_contact c) (own 0 (omega arith) (omega arith)) ∙ its in
    let more = all_from line m c 0 (λ x is. omega arith) (λ x is within. own (suc x) (omega arith) (omega (arith, within))) in
    ap (λ b. map (λ (a : Accepted). a.packet) (cond b (e ∷ filter (is_for m c) line) (filter (is_for m c) line))) here ∙ ap (λ ps. e.packet ∷ ps) more
all_from (e ∷ line) m c (suc s) low own =
    let apart : is_for m c e ≡ false = not_its c (e.members m) (λ is. (let wrong : suc s ≤ 0 = low 0 is in omega (arith, wrong))) in
    let more = all_from line m c s (λ x is. (let from = low (suc x) is in omega (arith, from))) (λ x is within. own (suc x) (omega (arith, is)) (omega (arith, within))) in
    ap (λ b. map (λ (a : Accepted). a.packet) (cond b (e ∷ filter (is_for m c) line) (filter (is_for m c) line))) apart ∙ more

-- ---- by the law of broadcast

-- a member in contact that acknowledged all that was accepted took it
took_all : (a : Caster) (m : ℕ) (k : Member) (c : ℕ) → Keeps a m k → k.joined ≡ Some c → length_now a ≤ k.acked → k.out c ≡ accepted_for m c (a.line (k.boots c))
unfolding packets
took_all a m k c h here acked =
    let begun = h.joined_begun c here in
    let s = begun.0 in
    let now : k.boots c ≡ a.boot = h.joined_boot c here in
    let line = a.line (k.boots c) in
    let long : length line ≡ length_now a = ap (λ f. length (a.line f)) now in
    let place = h.acked_place c here in
    let from : (x : ℕ) → mark line m x ≡ Some c → s ≤ x = λ x e. (let at = h.mark_begun (k.boots c) c x e in subst (λ t. t ≤ x) (same_Some at.0 s (sym at.1 ∙ begun.1)) at.2) in
    let own : (x : ℕ) → s ≤ x → x < length line → mark line m x ≡ Some c =
    λ x low high. subst (λ f. mark (a.line f) m x ≡ Some c) (sym now) (h.all c s x here begun.1 low (omega (arith, high, long))) in
    let all = all_from line m c s from own in
    elim (k.want c) as (λ o. k.want c ≡ o → k.out c ≡ accepted_for m c line) [
      | None ↦ λ is.
          let at = place-begun k c s is begun.1 in
          let nothing : drop s line ≡ [] = drop_all s line (omega (arith, at, place, acked, long)) in
          h.took_none c is ∙ sym (all ∙ ap (map (λ (a : Accepted). a.packet)) nothing)
      | Some w ↦ λ is.
          let at = place-want k c w is in
          let left = length-drop s line in
          let whole = take_all (w - s) (drop s line) (omega (arith, at, place, acked, long, left)) in
          h.took c w s is begun.1 ∙ (ap (map (λ (a : Accepted). a.packet)) whole ∙ sym all)
    ] refl

-- what is true of all contacts is true of one
contact_right : (m : ℕ) (cs : List Contact) (P : Contact → Type 0) → All P cs → (c : Contact) → contact_with m cs ≡ Some c → P c
contact_right m [] P all c is = absurd (let wrong : None ≡ Some c = is in let no : ⊥ = cc in no)
contact_right m (d ∷ ds) P all c is = by (contact_right m ds P (All-tail P d ds all) c) (d.peer.word == m) is
  where
    by : (contact_with m ds ≡ Some c → P c) → (b : Bool) → cond b (Some d) (contact_with m ds) ≡ Some c → P c
    by rest true here = subst P (same_Some d c here) (All-head P d ds all)
    by rest false later = rest later

-- with nothing under way, each member in contact acknowledged all
all_acked : (g : Group) (a : CasterSight) (m c : ℕ) → IsCaster g a → (g.members m).joined ≡ Some c → IsEmptyWindow a.casting.sending → length_now g.caster ≤ (g.members m).acked
all_acked g a m c h here empty = by (contact_with m a.casting.contacts) refl
  where
    by : (o : Option Contact) → contact_with m a.casting.contacts ≡ o → length_now g.caster ≤ (g.members m).acked
    by None none =
        let away : (g.members m).joined ≡ None = subst (IsSeen (g.members m)) none (h.stands.members m) in
        absurd (let clash : None ≡ Some c = sym away ∙ here in cc)
    by (Some d) is =
        let seen = subst (IsSeen (g.members m)) is (h.stands.members m) in
        let sending = a.casting.sending in
        let from = (contact_right m a.casting.contacts (IsContact (acked_of sending) (accepted sending)) h.casting.contacts d is).after_release in
        let unacked = ap length empty.0 in
        let waiting = ap length empty.1 in
        let all = h.stands.accepted_all in
        let shown = seen.4 in
        omega (arith, from, unacked, waiting, all, shown)

-- so it was given all
pub cast_all : (a : CasterSight) (ms : ℕ → MemberSight) (m c : ℕ) → IsCast a ms → a.joined m ≡ Some c → IsEmptyWindow a.casting.sending → (ms m).given c ≡ a.put m c
cast_all a ms m c h here empty =
    let g = h.group in
    let k = g.members m in
    let is = h.members m in
    let joined : k.joined ≡ Some c = h.caster.joined m ∙ here in
    let took = took_all g.caster m k c (h.law.each m) joined (all_acked g a m c h.caster joined empty) in
    sym (is.given c) ∙ (took ∙ (ap (λ f. accepted_for m c (g.caster.line f)) (is.boots c) ∙ h.caster.put m c))

-- ---- in messages

pub cast_given : (v : CasterView) (ws : ℕ → MemberView) (m own theirs : ℕ) → AreCastSeen v ws → IsOther v m → AreContactNumbers own theirs → v.joined m ≡ Some (contact_of own theirs) → IsEmptyWindow v.casting.sending
    → (ws m).given own theirs ≡ v.put m own theirs
cast_given v ws m own theirs h other numbers here empty =
    let a = h.caster_sight in
    let c = contact_of own theirs in
    let given = (h.members m other).given own theirs numbers in
    let all = cast_all a h.member_sights m c h.cast (h.caster.joined m other ∙ here) (subst (λ (k : Casting). IsEmptyWindow k.sending) (sym h.caster.casting) empty) in
    let j = given.joined in
    let opens = gives_messages a h.member_sights h.cast m c (v.put m own theirs) j.taken j.opened given.last (h.caster.put m own theirs other numbers) j.packets_are j.brings in
    sym j.messages_are ∙ (opens.every all).0
