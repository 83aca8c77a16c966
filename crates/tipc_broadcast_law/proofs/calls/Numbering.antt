-- Packets of the link that move up are numbered in the law.
use Rattle.std.proofs.Common.{◌≡◌, ℕ, zero, suc, ◌+◌, ◌-◌, ◌<◌, ◌≤◌, true, false, cond, if◌then◌else◌, List, [], ◌∷◌, Option, Some, None, refl, sym, ap, ◌∙◌, subst, length-drop, ◌⊎◌, inl, inr, arith}
use Rattle.std.specs.Prelude.{All, nat_le}
use Rattle.std.specs.List.{find}
use Rattle.std.proofs.lemmas.Bool.Decides.{nat_tests}
use Rattle.std.proofs.lemmas.List.Elements.{All-head, All-tail}
use Rattle.std.proofs.lemmas.Option.{same_Some}
use Rattle.tipc_types.specs.Limits.{window_size}
use Rattle.tipc_types.specs.Position.{distance_of, number_of}
use Rattle.tipc_send_window.specs.Sending.{acked_of, IsSending, room}
use Rattle.tipc_broadcast.specs.declared.contacts.Contact.{Contact}
use Rattle.tipc_broadcast.specs.Contacts.{acknowledged_to, contact_with, is_with, IsContact}
use Rattle.tipc_broadcast.specs.Casting.{accepted, Casting, flushed, IsCasting, settled}
use Rattle.tipc_broadcast_law.specs.Groups.{Group, length_now, Member, numbered_now}
use Rattle.tipc_broadcast_law.specs.Events.{go_on, none, numbered_to, numbers, Runs}
use Rattle.tipc_broadcast_law.proofs.Places.{put_other, put_same, same_or_not}
use Rattle.tipc_broadcast_law.specs.Steps.{Becomes, Casts, IsSeen, Leads, line_of, TellsPlace}

-- n more packets were numbered, and nothing else changed
pub record Numbered (g : Group) (n : ℕ) : Type 0 where
  pub after : Group
  pub runs : Runs g after
  pub count : numbered_now after.caster ≡ numbered_now g.caster + n
  pub same : length_now after.caster ≡ length_now g.caster
  pub becomes : Becomes g (line_of g) g.members after

pub still : (g : Group) → Becomes g (line_of g) g.members g
still g = record { boot = refl; line_now = refl; lines = λ f other. refl; numbered = λ f other. refl; each = λ m. refl }

number_all : (n : ℕ) (g : Group) → numbered_now g.caster + n ≤ length_now g.caster → ((m c : ℕ) → (g.members m).joined ≡ Some c → numbered_now g.caster + n ≤ (g.members m).acked + window_size) → Numbered g n
number_all zero g within near = record { after = g; runs = none; count = omega arith; same = refl; becomes = still g }
number_all (suc n) g within near =
    let a = g.caster in
    let h : Group = record { caster = numbered_to a (numbered_now a + 1); members = g.members } in
    let now : numbered_now h.caster ≡ numbered_now a + 1 = put_same a.boot (numbered_now a + 1) a.numbered in
    let more = number_all n h (omega (arith, now, within)) (λ m c is. omega (arith, now, near m c is)) in
    let count = more.count in
    let b = more.becomes in
    record {
      after = more.after;
      runs = go_on (numbers (omega arith) (λ m c is. omega (arith, near m c is))) more.runs;
      count = omega (arith, now, count);
      same = more.same;
      becomes = record { boot = b.boot; line_now = b.line_now; lines = b.lines; numbered = λ f other. b.numbered f other ∙ put_other a.boot (numbered_now a + 1) a.numbered f other; each = b.each };
    }

find-All : (P : Contact → Type 0) (m : ℕ) (cs : List Contact) (c : Contact) → All P cs → contact_with m cs ≡ Some c → P c
find-All P m [] c all = λ e. let clash : None ≡ Some c = e in cc
find-All P m (d ∷ cs) c all =
    elim (is_with m d) as (λ b. cond b (Some d) (find (is_with m) cs) ≡ Some c → P c) [
      | true ↦ λ e. subst P (same_Some d c e) (All-head P d cs all)
      | false ↦ λ e. find-All P m cs c (All-tail P d cs all) e
    ]

-- what a joined member acknowledged isn't released past
seen-acked : (k : Member) (o : Option Contact) (low high j : ℕ) → IsSeen k o → ((c : Contact) → o ≡ Some c → IsContact low high c) → k.joined ≡ Some j → low ≤ k.acked
seen-acked k None low high j seen is joined = let clash : None ≡ Some j = sym seen ∙ joined in cc
seen-acked k (Some c) low high j seen is joined = let from = (is c refl).after_release in omega (arith, from, seen.4)

pub flush_runs : (g : Group) (v : Casting) → Casts g v → IsSending v.sending → IsCasting v.own v.sending v.contacts → Leads g (line_of g) g.members (flushed v)
unfolding flushed
flush_runs g v h window is =
    let s = v.sending in
    let n = room s in
    let fifty = window.window in
    let begun = window.numbered in
    let all = number_all n g (omega (arith, h.numbered, h.accepted_all)) (λ m c joined.
    let low = seen-acked (g.members m) (contact_with m v.contacts) (acked_of s) (accepted s) c (h.members m) (λ d e. find-All (IsContact (acked_of s) (accepted s)) m v.contacts d is.contacts e) joined in
    omega (arith, h.numbered, low)) in
    let count = all.count in
    let same = all.same in
    let stands : Casts all.after (flushed v) = record {
      numbered = omega (arith, count, h.numbered);
      accepted_all = omega (arith, same, h.accepted_all, length-drop n s.waiting);
      members = λ m. subst (λ k. IsSeen k (contact_with m v.contacts)) (sym (all.becomes.each m)) (h.members m);
    } in
    record { after = all.after; runs = all.runs; stands = stands; becomes = all.becomes }

pub release_is_silent : (g : Group) (v : Casting) → Casts g v → Casts g (settled v)
unfolding settled
release_is_silent g v h = record { numbered = h.numbered; accepted_all = h.accepted_all; members = h.members }

pub tells_place : (numbered acked place : ℕ) → numbered ≤ acked + 50 → (place ≤ numbered) ⊎ (place ≡ acked) → acked ≤ place + 60000 → TellsPlace numbered acked place
unfolding acknowledged_to distance_of number_of
tells_place numbered acked place near within far =
    let here : (p : ℕ) → p ≡ acked → acknowledged_to numbered acked (number_of p) ≡ acked = λ p is.
    let d : distance_of (number_of acked) (number_of p) ≡ 0 = omega arith in
    let t : nat_le 0 (numbered - acked) ≡ true = grind (arith, nat_tests) in
    ap (λ q. if nat_le q (numbered - acked) then acked + q else acked) d ∙ ap (λ b. if b then acked + 0 else acked) t ∙ omega arith in
    elim (same_or_not place acked) [
      | inl is ↦ record { later = λ le. here place is ∙ sym is; earlier = λ le. here place is }
      | inr other ↦
          let inside : place ≤ numbered = elim within [ inl low ↦ low | inr at ↦ absurd (other at) ] in
          record {
            later = λ le.
                let d : distance_of (number_of acked) (number_of place) ≡ place - acked = omega arith in
                let t : nat_le (place - acked) (numbered - acked) ≡ true = grind (arith, nat_tests) in
                ap (λ p. if nat_le p (numbered - acked) then acked + p else acked) d ∙ ap (λ b. if b then acked + (place - acked) else acked) t ∙ omega arith;
            earlier = λ le.
                let less : place < acked = omega (arith, other, le) in
                let d : distance_of (number_of acked) (number_of place) ≡ 65536 - (acked - place) = omega arith in
                let t : nat_le (65536 - (acked - place)) (numbered - acked) ≡ false = grind (arith, nat_tests) in
                ap (λ p. if nat_le p (numbered - acked) then acked + p else acked) d ∙ ap (λ b. if b then acked + (65536 - (acked - place)) else acked) t;
          }
    ]
