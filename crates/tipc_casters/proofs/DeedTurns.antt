-- What each deed at its broadcast link makes of a caster keeps what is true of it and its members; and so do deeds one behind the other.
use Rattle.std.proofs.Common.{◌≡◌, ◌<◌, ◌≤◌, ◌+◌, ◌-◌, ◌^◌, ℕ, Bool, true, false, List, [], ◌∷◌, length, map, Option, Some, None, refl, sym, ap, subst, ◌∙◌, arith}
use Rattle.std.specs.Prelude.{is_some}
use Rattle.std.proofs.lemmas.List.{length-append, length-map}
use Rattle.tipc_types.specs.declared.link_words.BroadcastState.{BroadcastState}
use Rattle.tipc_types.specs.declared.link_words.Why.{Why}
use Rattle.tipc_types.specs.declared.packet_lists.Taken.{Taken}
use Rattle.tipc_header.specs.Grammar.{Fits}
use Rattle.tipc_header.specs.Spelling.{Fields}
use Rattle.tipc_send_window.specs.Sending.{IsSending}
use Rattle.tipc_recv_window.specs.Receiving.{Receiving}
use Rattle.tipc_broadcast.specs.declared.contacts.Contact.{Contact}
use Rattle.tipc_broadcast.specs.Casting.{accepted, accepting, Casting, flushed, hearing, kept_for, stating, with_contacts, with_message}
use Rattle.tipc_broadcast.specs.Contacts.{carried, contact_with, heard, member_set, refusal, taken_in}
use Rattle.tipc_broadcast.specs.Frames.{accepted_frame}
use Rattle.tipc_broadcast.specs.Deeds.{CastDeed, IsLawful, after_deed, after_deeds, sends_nothing}
use Rattle.tipc_broadcast.proofs.Apart.{accepted_flushed}
use Rattle.tipc_broadcast.proofs.Deeds.{deed_node}
use Rattle.tipc_broadcast.proofs.Finding.{unchanged}
use Rattle.tipc_broadcast.proofs.Keeping.{IsSame}
use Rattle.tipc_broadcast.proofs.Lawful.{deed_right}
use Rattle.tipc_broadcast_law.specs.Groups.{Group}
use Rattle.tipc_broadcast_law.specs.Steps.{Casts, IsSeen}
use Rattle.tipc_broadcast_law.proofs.calls.Crediting.{stands_still}
use Rattle.tipc_casters.specs.Deeds.{after_doing, DeedsDone, go_on, MayDo, none, StatesIn}
use Rattle.tipc_casters.specs.Sights.{CasterSight, IsCast, MemberSight}
use Rattle.tipc_casters.specs.Turns.{bears, hears_other, IsCall, states}
use Rattle.tipc_casters.proofs.CasterTurns.{cast_joins, cast_leaves, cast_sends, cast_states, cast_states_apart}

-- ---- what a call leaves

-- a deed leaves a broadcast link of the same node and boot
pub call_of : (a : CasterSight) (ms : ℕ → MemberSight) (d : CastDeed) → IsCast a ms → IsLawful d a.casting → (sends_nothing d ≡ false → accepted (after_deed d a.casting).sending ≤ 2 ^ 62) → IsCall a.casting (after_deed d a.casting)
call_of a ms d h lawful counted =
    let link = deed_right d a.casting lawful counted (record { window = h.caster.window; casting = h.caster.casting }) in
    let node = deed_node d a.casting in
    record {
      boot = node.boot;
      own = node.own;
      right = record { window = link.window; casting = link.casting; boot = subst (λ n. n < 2 ^ 32) (sym node.boot) h.caster.boot_fits };
    }

no_message : {n : ℕ} → true ≡ false → n ≤ 2 ^ 62
no_message is = absurd (let wrong : ⊥ = cc in wrong)

-- ---- its bearers, and what it hears of others

-- the caster with other bearers and contacts, in which the law sees the same
anew : (a : CasterSight) (ms : ℕ → MemberSight) (bearers : List Bool) (contacts : List Contact) (h : IsCast a ms) → IsCall a.casting (record a.casting { mended = bearers; contacts = contacts }) → Casts h.group (with_contacts a.casting contacts)
    → IsCast (record a { casting = record a.casting { mended = bearers; contacts = contacts } }) ms
anew a ms bearers contacts h call stands = record {
  group = h.group;
  law = h.law;
  caster = record {
    boot = h.caster.boot;
    numbered = h.caster.numbered;
    window = call.right.window;
    casting = call.right.casting;
    stands = record { numbered = stands.numbered; accepted_all = stands.accepted_all; members = stands.members };
    lined = record { unacked = h.caster.lined.unacked; waiting = h.caster.lined.waiting };
    joined = h.caster.joined;
    begun = h.caster.begun;
    put = h.caster.put;
    sent = h.caster.sent;
    spelled = h.caster.spelled;
    boot_fits = h.caster.boot_fits;
    ahead = h.caster.ahead;
  };
  members = h.members;
}

pub cast_bears : (a : CasterSight) (ms : ℕ → MemberSight) (bearer : ℕ) (is_mended : Bool) → IsCast a ms → bearer ≤ 1 → IsCast (bears a bearer is_mended) ms
cast_bears a ms bearer is_mended h one =
    let call = call_of a ms (CastDeed.bears bearer is_mended) h one (λ is. no_message is) in
    let is = h.caster.stands in
    anew a ms _ a.casting.contacts h call (record { numbered = is.numbered; accepted_all = is.accepted_all; members = is.members })

-- what is heard of a peer's broadcast leaves what this caster keeps of the peer
taken_same : (t : Taken) (c : Contact) (o : Option Receiving) → IsSame c (taken_in c t o)
taken_same t c None = record { peer = refl; start = refl; acked = refl }
taken_same t c (Some r) = record { peer = refl; start = refl; acked = refl }

heard_same : (t : Taken) (c : Contact) (o : Option Why) → IsSame c (heard t c o)
heard_same t c (Some why) = record { peer = refl; start = refl; acked = refl }
heard_same t c None = taken_same t c c.window

heard_stands : (g : Group) (v : Casting) (peer boot members : ℕ) (t : Taken) → Casts g v → Casts g (hearing v peer boot members t)
heard_stands g v peer boot members t h =
    let change : Contact → Contact = λ c. heard t c (refusal v.own boot members c) in
    elim (contact_with peer v.contacts) as (λ o. contact_with peer v.contacts ≡ o → Casts g (hearing v peer boot members t)) [
      | None ↦ λ away. subst (λ cs. Casts g (with_contacts v cs)) (sym (unchanged peer change v.contacts away)) h
      | Some c ↦ λ there.
          let seen : IsSeen (g.members peer) (Some c) = subst (IsSeen (g.members peer)) there (h.members peer) in
          let same = heard_same t c (refusal v.own boot members c) in
          stands_still g v peer change (λ d. (heard_same t d (refusal v.own boot members d)).peer) c h there
          (seen.0, seen.1, seen.2 ∙ ap (λ n. Some (n - 1)) (sym same.start), subst (λ n. 1 ≤ n) (sym same.start) seen.3, seen.4 ∙ sym same.acked)
    ] refl

pub cast_hears_other : (a : CasterSight) (ms : ℕ → MemberSight) (boot members by : ℕ) (packet : Fields) → IsCast a ms → Fits packet → IsCast (hears_other a packet.previous boot members (carried packet by)) ms
cast_hears_other a ms boot members by packet h fits =
    let call = call_of a ms (CastDeed.hears boot members by packet) h fits (λ is. no_message is) in
    anew a ms a.casting.mended _ h call (heard_stands h.group a.casting packet.previous boot members (carried packet by) h.caster.stands)

-- ---- any deed

nobody : (o : Option Contact) → is_some o ≡ false → o ≡ None
nobody None is = refl
nobody (Some c) is = absurd (let wrong : ⊥ = cc in wrong)

-- all that is accepted has a number or waits for one
accepted_kept : (cs : List Contact) (v : Casting) → accepted (kept_for cs v).sending ≡ accepted v.sending
accepted_kept [] v = omega arith
accepted_kept (c ∷ cs) v = refl

pub accepted_sent : (v : Casting) (pieces : List (List ℕ)) → accepted (accepting v pieces).sending ≡ accepted (with_message v pieces).sending
accepted_sent v pieces = accepted_kept v.contacts (flushed (with_message v pieces)) ∙ accepted_flushed (with_message v pieces)

pub accepted_with : (v : Casting) (pieces : List (List ℕ)) → accepted (with_message v pieces).sending ≡ accepted v.sending + length pieces
accepted_with v pieces =
    let frames = map (accepted_frame v.own v.boot (member_set v.contacts)) pieces in
    let all = length-append v.sending.waiting frames in
    let one = length-map pieces (accepted_frame v.own v.boot (member_set v.contacts)) in
    omega (arith, all, one)

sends_right : (a : CasterSight) (ms : ℕ → MemberSight) (pieces : List (List ℕ)) → IsCast a ms → accepted (accepting a.casting pieces).sending ≤ 2 ^ 62 → IsSending (with_message a.casting pieces).sending
sends_right a ms pieces h counted = record { window = h.caster.window.window; numbered = h.caster.window.numbered; counted = subst (λ n. n ≤ 2 ^ 62) (accepted_sent a.casting pieces) counted }

states_by : (a : CasterSight) (ms : ℕ → MemberSight) (m : ℕ) (seen : BroadcastState) → IsCast a ms → IsCall a.casting (stating a.casting m seen) → (b : Bool) → seen.in_step ≡ b → (seen.in_step ≡ true → StatesIn a (ms m) m seen) → IsCast (states a m seen) ms
states_by a ms m seen h call false step may = cast_states_apart a ms m seen h step call
states_by a ms m seen h call true step may =
    let s = may step in
    subst (λ x. IsCast (states a m x) ms) s.seen_is
    (cast_states a ms m s.told h s.there (ap (λ (x : BroadcastState). x.in_step) s.seen_is ∙ step) s.joined s.recent (subst (λ x. IsCall a.casting (stating a.casting m x)) (sym s.seen_is) call))

pub does_keeps : (a : CasterSight) (ms : ℕ → MemberSight) (d : CastDeed) → IsCast a ms → IsLawful d a.casting → (may : MayDo a ms d) → IsCast (after_doing a ms d may) ms
does_keeps a ms (CastDeed.joins m boot) h lawful may =
    cast_joins a ms m boot may.contact h (nobody (contact_with m a.casting.contacts) lawful.1) may.above may.era may.free (call_of a ms (CastDeed.joins m boot) h lawful (λ is. no_message is)).right
does_keeps a ms (CastDeed.leaves m) h lawful may = cast_leaves a ms m h (call_of a ms (CastDeed.leaves m) h lawful (λ is. no_message is))
does_keeps a ms (CastDeed.states m seen) h lawful may = states_by a ms m seen h (call_of a ms (CastDeed.states m seen) h lawful (λ is. no_message is)) seen.in_step refl may
does_keeps a ms (CastDeed.bears bearer is_mended) h lawful may = cast_bears a ms bearer is_mended h lawful
does_keeps a ms (CastDeed.hears boot members by packet) h lawful may = cast_hears_other a ms boot members by packet h lawful
does_keeps a ms (CastDeed.sends pieces) h lawful may =
    cast_sends a ms pieces h (sends_right a ms pieces h may) lawful.long lawful.short lawful.cast lawful.room lawful.few (call_of a ms (CastDeed.sends pieces) h lawful (λ is. may))

-- the broadcast link is that after the deed
pub does_casting : (a : CasterSight) (ms : ℕ → MemberSight) (d : CastDeed) (may : MayDo a ms d) → (after_doing a ms d may).casting ≡ after_deed d a.casting
does_casting a ms (CastDeed.joins m boot) may = refl
does_casting a ms (CastDeed.leaves m) may = refl
does_casting a ms (CastDeed.states m seen) may = refl
does_casting a ms (CastDeed.bears bearer is_mended) may = refl
does_casting a ms (CastDeed.hears boot members by packet) may = refl
does_casting a ms (CastDeed.sends pieces) may = refl

-- ---- deeds one behind the other

pub all_keep : (ms : ℕ → MemberSight) (a b : CasterSight) (ds : List CastDeed) → IsCast a ms → DeedsDone ms a ds b → IsCast b ms
all_keep ms a _ _ h none = h
all_keep ms a b _ h (go_on {d = d} {ds = ds} lawful quiet may more) = all_keep ms (after_doing a ms d may) b ds (does_keeps a ms d h lawful may) more

pub all_casting : (ms : ℕ → MemberSight) (a b : CasterSight) (ds : List CastDeed) → DeedsDone ms a ds b → b.casting ≡ after_deeds ds a.casting
all_casting ms a _ _ none = refl
all_casting ms a b _ (go_on {d = d} {ds = ds} lawful quiet may more) = all_casting ms (after_doing a ms d may) b ds more ∙ ap (after_deeds ds) (does_casting a ms d may)
