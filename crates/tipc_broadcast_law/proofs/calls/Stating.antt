-- A whole STATE at the broadcast link is a run of the law, and what STATEs show.
use Rattle.std.proofs.Common.{◌≡◌, ℕ, Option, Some, None, refl, sym, ap, ◌∙◌, ◌+◌, ◌-◌, ◌<◌, ◌≤◌, ◌⊎◌, inl, inr, subst, arith}
use Rattle.std.proofs.lemmas.Bool.{cases_lt}
use Rattle.std.proofs.lemmas.Option.{same_Some}
use Rattle.tipc_types.specs.Position.{number_of}
use Rattle.tipc_types.specs.declared.link_words.BroadcastState.{BroadcastState}
use Rattle.tipc_send_window.specs.Sending.{acked_of, IsSending}
use Rattle.tipc_recv_window.specs.Receiving.{Receiving}
use Rattle.tipc_broadcast.specs.declared.contacts.Contact.{Contact}
use Rattle.tipc_broadcast.specs.Contacts.{acknowledged_to, acknowledging, contact_with, IsContact, shown_in, shown_to, told}
use Rattle.tipc_broadcast.specs.Casting.{accepted, answered, Casting, credited, informed, IsCasting, next_start, shown, with_contacts}
use Rattle.tipc_broadcast.proofs.Finding.{unchanged}
use Rattle.tipc_broadcast.proofs.Keeping.{acknowledging-keeps, told-keeps, told-same}
use Rattle.tipc_broadcast_law.specs.Groups.{Group, Member, numbered_now, place as place_in, put}
use Rattle.tipc_broadcast_law.specs.Events.{acknowledged, none}
use Rattle.tipc_broadcast_law.specs.Law.{IsGroup}
use Rattle.tipc_broadcast_law.specs.Steps.{Casts, credited_member, IsSeen, Leads, line_of, Shows, StatesRun, ToldPlace}
use Rattle.tipc_broadcast_law.proofs.MemberEvents.{place-want}
use Rattle.tipc_broadcast_law.proofs.calls.Calls.{follow, settled_flush, stays}
use Rattle.tipc_broadcast_law.proofs.calls.Crediting.{acknowledgement_runs, changed-all, changed-here, stands_still}
use Rattle.tipc_broadcast_law.proofs.calls.Numbering.{still}

pub informed-casting : (own : ℕ) (v : Casting) (peer start next : ℕ) → IsCasting own v.sending v.contacts → IsCasting own v.sending (informed v peer start next).contacts
informed-casting own v peer start next is =
    let P = IsContact (acked_of v.sending) (accepted v.sending) in
    record { node = is.node; few = is.few; unacked = is.unacked; waiting = is.waiting; short_unacked = is.short_unacked; short_waiting = is.short_waiting; contacts = changed-all P (told start next) (told-keeps start next (acked_of v.sending) (accepted v.sending)) peer v.contacts is.contacts }

pub credited-casting : (own : ℕ) (v : Casting) (peer number : ℕ) → IsCasting own v.sending v.contacts → IsCasting own v.sending (credited v peer number).contacts
credited-casting own v peer number is =
    let P = IsContact (acked_of v.sending) (accepted v.sending) in
    record {
      node = is.node;
      few = is.few;
      unacked = is.unacked;
      waiting = is.waiting;
      short_unacked = is.short_unacked;
      short_waiting = is.short_waiting;
      contacts = changed-all P (acknowledging v.sending.numbered number) (acknowledging-keeps v.sending (acked_of v.sending) number) peer v.contacts is.contacts;
    }

informed-seen : (g : Group) (peer start next : ℕ) (c : Contact) → IsSeen (g.members peer) (Some c) → IsSeen (g.members peer) (Some (told start next c))
informed-seen g peer start next c seen =
    let same = told-same start next c in
    (seen.0, seen.1, seen.2 ∙ ap (λ n. Some (n - 1)) (sym same.start), subst (λ n. 1 ≤ n) (sym same.start) seen.3, seen.4 ∙ sym same.acked)

informed_stands : (g : Group) (v : Casting) (peer start next : ℕ) → Casts g v → Casts g (informed v peer start next)
informed_stands g v peer start next h =
    elim (contact_with peer v.contacts) as (λ o. contact_with peer v.contacts ≡ o → Casts g (informed v peer start next)) [
      | None ↦ λ away. subst (λ cs. Casts g (with_contacts v cs)) (sym (unchanged peer (told start next) v.contacts away)) h
      | Some c ↦ λ there.
          let seen : IsSeen (g.members peer) (Some c) = subst (IsSeen (g.members peer)) there (h.members peer) in
          stands_still g v peer (told start next) (λ d. (told-same start next d).peer) c h there (informed-seen g peer start next c seen)
    ] refl

-- what a number shows is the same after the peer told of its own broadcast
still_shows : (g : Group) (v : Casting) (peer start next number : ℕ) → Shows g v peer number → Shows g (informed v peer start next) peer number
still_shows g v peer start next number shows =
    let c = shows.contact in
    let same : (told start next c).acked ≡ c.acked = (told-same start next c).acked in
    record {
      contact = told start next c;
      there = changed-here (told start next) (λ d. (told-same start next d).peer) peer v.contacts c shows.there;
      contact_number = shows.contact_number;
      joined = shows.joined;
      wanted = shows.wanted;
      wants = shows.wants;
      place = shows.place;
      had = shows.had;
      is_numbered = subst (λ n. (shows.place ≤ v.sending.numbered) ⊎ (shows.place ≡ n)) (sym same) shows.is_numbered;
      in_window = subst (λ n. v.sending.numbered ≤ n + 50) (sym same) shows.in_window;
      recent = subst (λ n. n ≤ shows.place + 60000) (sym same) shows.recent;
      number_is = shows.number_is;
    }

-- an acknowledgement, the release, and what moves up
answer_runs : (g : Group) (v : Casting) (peer number : ℕ) → Casts g v → IsSending v.sending → IsCasting v.own v.sending v.contacts → (shows : Shows g v peer number)
    → Leads g (line_of g) (put peer (credited_member shows) g.members) (answered v peer number)
answer_runs g v peer number h window is shows =
    let one = acknowledgement_runs g v peer number h shows in
    let rest = settled_flush one.after (credited v peer number) one.stands window (credited-casting v.own v peer number is) in
    record { after = rest.after; runs = follow one.runs rest.runs; stands = rest.stands; becomes = stays one.becomes rest.becomes }

-- what the member acknowledges is the same after the peer told of its own broadcast
still_credits : (g : Group) (v : Casting) (peer start next number : ℕ) (shows : Shows g v peer number) → credited_member (still_shows g v peer start next number shows) ≡ credited_member shows
unfolding still_shows
still_credits g v peer start next number shows =
    ap (λ n. acknowledged (g.members peer) (acknowledged_to v.sending.numbered n number)) (told-same start next shows.contact).acked

pub states_run : (g : Group) (v : Casting) (peer : ℕ) (seen : BroadcastState) → Casts g v → IsSending v.sending → IsCasting v.own v.sending v.contacts → StatesRun g v peer seen
states_run g v peer seen h window is =
    let w = informed v peer seen.start seen.next in
    let stands : Casts g w = informed_stands g v peer seen.start seen.next h in
    record {
      apart = λ no. rw no (record { after = g; runs = none; stands = stands; becomes = still g });
      in_step = λ yes shows.
          let leads = answer_runs g w peer seen.acknowledged stands window (informed-casting v.own v peer seen.start seen.next is) (still_shows g v peer seen.start seen.next seen.acknowledged shows) in
          rw yes (subst (λ k. Leads g (line_of g) (put peer k g.members) (answered w peer seen.acknowledged)) (still_credits g v peer seen.start seen.next seen.acknowledged shows) leads);
    }

-- ---- what a STATE shows

shown-start : (next start shown : ℕ) (window : Option Receiving) → (shown_in next start shown window).start ≡ start
shown-start next start shown None = refl
shown-start next start shown (Some r) = refl

seen-start : (k : Member) (v : Casting) (c s : ℕ) (next start : ℕ) (o : Option Contact) → IsSeen k o → k.joined ≡ Some c → k.begun c ≡ Some s → (shown_to next start o).start ≡ number_of (s + 1)
seen-start k v c s next start None seen joined begun = let clash : None ≡ Some c = sym seen ∙ joined in cc
seen-start k v c s next start (Some d) seen joined begun =
    let same : seen.0 ≡ c = same_Some seen.0 c (sym seen.1 ∙ joined) in
    let at : d.start - 1 ≡ s = same_Some (d.start - 1) s (sym seen.2 ∙ ap k.begun same ∙ begun) in
    let from = seen.3 in
    let is : d.start ≡ s + 1 = omega arith in
    shown-start next (number_of d.start) d.shown d.window ∙ ap number_of is

pub starts_are_shown : (g : Group) (v : Casting) (m c s : ℕ) → Casts g v → (g.members m).joined ≡ Some c → (g.members m).begun c ≡ Some s → (shown v m).start ≡ number_of (s + 1)
starts_are_shown g v m c s h joined begun = seen-start (g.members m) v c s (number_of (v.sending.numbered + 1)) (number_of (next_start v)) (contact_with m v.contacts) (h.members m) joined begun

-- what the caster keeps of a member in contact
pub seen-contact : (k : Member) (c : ℕ) (o : Option Contact) → IsSeen k o → k.joined ≡ Some c → (d : Contact) × (o ≡ Some d) × (k.acked ≡ d.acked)
seen-contact k c None seen joined = let clash : None ≡ Some c = sym seen ∙ joined in absurd (let no : ⊥ = cc in no)
seen-contact k c (Some d) seen joined = (d, refl, seen.4)

pub told_places_show : (g : Group) (v : Casting) (m c place stamp : ℕ) → IsGroup g → Casts g v → (g.members m).joined ≡ Some c → ToldPlace g m c place stamp
    → numbered_now g.caster ≤ stamp + 30000 → Shows g v m (number_of place)
told_places_show g v m c place stamp group h joined told fresh =
    let k = g.members m in
    let keeps = group.each m in
    let found = seen-contact k c (contact_with m v.contacts) (h.members m) joined in
    let d = found.0 in
    let acked = found.2 in
    let w = told.wanted in
    let s = told.start in
    let had = told.had in
    let low = told.from_start in
    let window = told.in_window joined in
    let near = keeps.numbered_near c joined in
    let from = keeps.acked_from c s joined told.begun in
    let at : place_in k c ≡ w = place-want k c w told.wants in
    let to = keeps.acked_place c joined in
    let wanted_low = keeps.want_from c w s told.wants told.begun in
    let numbered = h.numbered in
    let reach : (s < w) → w ≤ numbered_now g.caster = λ less. subst (λ f. w ≤ g.caster.numbered f) (keeps.joined_boot c joined) (keeps.want_numbered c w s told.wants told.begun less) in
    elim (cases_lt s w) [
      | inl less ↦
          let reached = reach less in
          record {
            contact = d;
            there = found.1;
            contact_number = c;
            joined = joined;
            wanted = w;
            wants = told.wants;
            place = place;
            had = had;
            is_numbered = inl (omega arith);
            in_window = omega arith;
            recent = omega arith;
            number_is = refl;
          }
      | inr not ↦
          let same : place ≡ d.acked = omega arith in
          record {
            contact = d;
            there = found.1;
            contact_number = c;
            joined = joined;
            wanted = w;
            wants = told.wants;
            place = place;
            had = had;
            is_numbered = inr same;
            in_window = omega arith;
            recent = omega arith;
            number_is = refl;
          }
    ]
