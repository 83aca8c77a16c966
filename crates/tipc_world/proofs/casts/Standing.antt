-- What stands of a broadcast packet stands on: at its sender, and at each member.
use Rattle.std.specs.Prelude.{is_some}
use Rattle.std.proofs.Common.{◌≡◌, ◌≤◌, ◌⊎◌, ◌+◌, ◌-◌, ◌∙◌, ℕ, None, slice_index_or, inl, inr, ap, arith}
use Rattle.std.proofs.lemmas.Bool.{cases_lt}
use Rattle.tipc_types.specs.Address.{node_word}
use Rattle.tipc_broadcast.specs.declared.contacts.Contact.{Contact}
use Rattle.tipc_broadcast.specs.Casting.{Casting}
use Rattle.tipc_broadcast.specs.Contacts.{contact_with}
use Rattle.tipc_world.specs.CastRows.{CastsAs, HasAcknowledged, HasTakenCast, IsCastAwaited, IsCastKnown, IsCastReleased, ReleasedByAll, MemberIs}
use Rattle.tipc_world.specs.Rows.{WasUp}
use Rattle.tipc_world.specs.States.{WorldState}
use Rattle.tipc_world.proofs.casts.Going.{KeepsLink, KeepsPair, contact_after, in_step_on}
use Rattle.tipc_world.proofs.rounds.Going.{Going}
use Rattle.tipc_world.proofs.rounds.UpLinks.{the_member}

-- ---- at the sender

pub casts_on : (start base w : WorldState) (P : Casting → Type 0) (a : ℕ) → KeepsLink P → Going start base w → CastsAs base P a → CastsAs w P a
casts_on start base w P a keeps r (m, there, so) =
    let now = the_member (slice_index_or w.members a None) (r.on.nodes a ∙ ap (λ o. is_some o) there) in
    (now.0, now.1, keeps m.node.casting now.0.node.casting (r.casts.links a m now.0 there now.1) so)

pub awaited_on : (position : ℕ) → KeepsLink (IsCastAwaited position)
awaited_on position v u goes h =
    let more = goes.numbered in
    let acked = goes.acked in
    let numbered = h.numbered in
    let first = h.first in
    record { numbered = omega (arith, more, numbered); first = omega (arith, acked, first) }

pub released_on : (position : ℕ) → KeepsLink (IsCastReleased position)
released_on position v u goes h = (let acked = goes.acked in omega (arith, acked, h))

pub acknowledged_on : (position b : ℕ) → KeepsLink (HasAcknowledged position b)
acknowledged_on position b v u goes h =
    let more = contact_after (contact_with (node_word b) v.contacts) (contact_with (node_word b) u.contacts) h.contact (goes.contacts (node_word b)) h.there in
    let low = h.acked in
    let high = more.2.acked in
    record { contact = more.0; there = more.1; acked = omega (arith, low, high) }

pub settled_on : (position : ℕ) → KeepsLink (ReleasedByAll position)
settled_on position v u goes h =
    let more = goes.numbered in
    let numbered = h.numbered in
    record { numbered = omega (arith, more, numbered); settles = goes.settles position h.numbered h.settles }

-- ---- at a member

pub member_on : (start base w : WorldState) (P : Casting → Contact → Type 0) (a b bearer : ℕ) → KeepsPair P → WasUp start a b bearer → Going start base w → MemberIs base P a b → MemberIs w P a b
member_on start base w P a b bearer keeps u r h =
    let caster = the_member (slice_index_or w.members a None) (r.on.nodes a ∙ ap (λ o. is_some o) h.caster_is) in
    let member = the_member (slice_index_or w.members b None) (r.on.nodes b ∙ ap (λ o. is_some o) h.member_is) in
    let goes = r.casts.links a h.caster caster.0 h.caster_is caster.1 in
    let heard = r.casts.links b h.member member.0 h.member_is member.1 in
    let more = contact_after (contact_with (node_word a) h.member.node.casting.contacts) (contact_with (node_word a) member.0.node.casting.contacts) h.kept (heard.contacts (node_word a)) h.kept_is in
    record {
      caster = caster.0;
      caster_is = caster.1;
      member = member.0;
      member_is = member.1;
      kept = more.0;
      kept_is = more.1;
      so = keeps h.caster.node.casting h.kept caster.0.node.casting more.0 goes (r.casts.pairs a b bearer u h.caster caster.0 h.member member.0 h.caster_is caster.1 h.member_is member.1 h.kept more.0 h.kept_is more.1) h.so;
    }

known_after : (position before after wanted next shown more : ℕ) → (position ≤ before) ⊎ (wanted + (position - before) ≤ shown) → after ≡ before + (next - wanted) → wanted ≤ next → shown ≤ more → (position ≤ after) ⊎ (next + (position - after) ≤ more)
known_after position before after wanted next shown more (inl taken) at low high = inl (omega (arith, taken, at))
known_after position before after wanted next shown more (inr known) at low high = elim (cases_lt after position) [
  | inl waits ↦ inr (omega (arith, known, at, low, high, waits))
  | inr taken ↦ inl taken
]

pub known_on : (position : ℕ) → KeepsPair (IsCastKnown position)
known_on position v k u l goes pair h =
    let more = in_step_on k l h.window pair.on h.in_step in
    let after = h.so_far + (more.0.wanted - h.window.wanted) in
    let same : after ≡ h.so_far + (more.0.wanted - h.window.wanted) = λ i. after in
    record {
      window = more.0;
      in_step = more.1;
      so_far = after;
      wants = pair.places h.window more.0 h.so_far h.in_step more.1 h.wants;
      known = known_after position h.so_far after h.window.wanted more.0.wanted k.shown l.shown h.known same more.2 more.3;
    }

pub taken_on : (position : ℕ) → KeepsPair (HasTakenCast position)
taken_on position v k u l goes pair h =
    let more = in_step_on k l h.window pair.on h.in_step in
    let taken = h.taken in
    record {
      window = more.0;
      in_step = more.1;
      so_far = h.so_far + (more.0.wanted - h.window.wanted);
      wants = pair.places h.window more.0 h.so_far h.in_step more.1 h.wants;
      taken = omega (arith, taken);
    }
