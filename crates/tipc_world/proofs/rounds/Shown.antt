-- What a node of a world shows of its broadcast link in a STATE fits its places.
use Rattle.std.proofs.Common.{◌≡◌, ◌≢◌, ◌≤◌, ◌<◌, ◌+◌, ◌==◌, ◌^◌, ◌∙◌, ℕ, true, false, Option, Some, None, if◌then◌else◌, is_some, position, slice_index_or, unwrap_or, refl, sym, ap, subst, arith}
use Rattle.std.specs.Prelude.{IfSome}
use Rattle.std.proofs.lemmas.Bool.Decides.{nat_tests}
use Rattle.std.proofs.lemmas.List.Quantifiers.{position-Some}
use Rattle.tipc_types.specs.Address.{node_word}
use Rattle.tipc_types.specs.Position.{number_of}
use Rattle.tipc_types.specs.declared.packet_lists.Taken.{Taken}
use Rattle.tipc_types.proofs.PositionLaws.{number_of-below}
use Rattle.tipc_recv_window.specs.Receiving.{Receiving, gap_of, gap_to, missing}
use Rattle.tipc_link.specs.Parts.{IsShowable}
use Rattle.tipc_broadcast.specs.declared.contacts.Contact.{Contact}
use Rattle.tipc_broadcast.specs.Casting.{next_start, shown}
use Rattle.tipc_broadcast.specs.Contacts.{contact_with, shown_in, shown_to}
use Rattle.tipc_broadcast_law.specs.Groups.{Group, place}
use Rattle.tipc_broadcast_law.specs.Law.{IsGroup}
use Rattle.tipc_broadcast_law.specs.Listening.{IsListening, IsWindow}
use Rattle.tipc_replay.specs.Sound.{IsNumber}
use Rattle.tipc_replay.specs.States.{MemberState}
use Rattle.tipc_replay.proofs.LookUps.{member_at-is}
use Rattle.tipc_replay.proofs.casts.MemberLooks.{is_member, member_looks}
use Rattle.tipc_world.specs.RoundParts.{IsKept}
use Rattle.tipc_world.specs.States.{WorldState}

-- ---- the gap

-- a packet that is held stands near the wanted place
held_near : (g : Group) (m : ℕ) (k : Contact) (r : Receiving) → IsGroup g → IsListening g m (Some k) → k.window ≡ Some r → (i : ℕ) (t : Taken) → slice_index_or r.held i None ≡ Some t → i < 296
unfolding place
held_near g m k r law listens window i t there =
    let c = listens.0 in
    let is = subst (IsWindow g m c) window listens.3 in
    let near : is.0 + i < place (g.members m) c + 50 + 246 = (law.each m).mark_near c (is.0 + i) (is.3 i t there).own in
    let want : place (g.members m) c ≡ is.0 = ap (λ o. unwrap_or o (unwrap_or ((g.members m).begun c) 0)) is.1 in
    omega (arith, near, want)

-- so the gap is small
first_near : (r : Receiving) → ((i : ℕ) (t : Taken) → slice_index_or r.held i None ≡ Some t → i < 296) → gap_of r < 2 ^ 16
first_near r near = by (position (λ t. is_some t) r.held) refl
  where
    at : (i : ℕ) (o : Option Taken) → slice_index_or r.held i None ≡ o → is_some o ≡ true → i < 2 ^ 16
    at i None is some = absurd cc
    at i (Some t) is some = let low = near i t is in omega (arith, low)

    by : (o : Option ℕ) → position (λ t. is_some t) r.held ≡ o → unwrap_or o 0 < 2 ^ 16
    by None none = omega arith
    by (Some i) is = let found = position-Some (λ t. is_some t) r.held i None is in at i (slice_index_or r.held i None) refl found.1

missing_within : (r : Receiving) (said : ℕ) → missing r said ≤ 50
missing_within r said = grind (arith, nat_tests)

gap_near : (r : Receiving) (said : ℕ) → gap_of r < 2 ^ 16 → gap_to r said < 2 ^ 16
unfolding gap_to
gap_near r said near =
    let none = missing_within r said in
    elim (gap_of r == 0) as (λ b. (if b then missing r said else gap_of r) < 2 ^ 16) [ true ↦ omega (arith, none) | false ↦ near ]

-- ---- what is shown

fits_in : (next start said : ℕ) (o : Option Receiving) → next < 2 ^ 16 → start < 2 ^ 16 → IfSome o (λ r. gap_to r said < 2 ^ 16) → IsShowable (shown_in next start said o)
fits_in next start said None high low small = record { acknowledged = omega arith; next = high; start = low; gap = omega arith }
fits_in next start said (Some r) high low small = record { acknowledged = number_of-below (r.wanted + 65535); next = high; start = low; gap = small }

-- a node that listens shows what fits
listening_fits : (g : Group) (m next start : ℕ) (o : Option Contact) → IsGroup g → IsListening g m o → next < 2 ^ 16 → start < 2 ^ 16 → IsShowable (shown_to next start o)
listening_fits g m next start None law listens high low = record { acknowledged = omega arith; next = high; start = low; gap = omega arith }
listening_fits g m next start (Some k) law listens high low = fits_in next (number_of k.start) k.shown k.window high (number_of-below k.start) (by k.window refl)
  where
    by : (o : Option Receiving) → k.window ≡ o → IfSome o (λ r. gap_to r k.shown < 2 ^ 16)
    by None none = tt
    by (Some r) window = gap_near r k.shown (first_near r (held_near g m k r law listens window))

-- what node b shows node n
pub shown_fits : (w : WorldState) (b n : ℕ) (m : MemberState) → IsKept w → slice_index_or w.members b None ≡ Some m → IsNumber b → IsNumber n → b ≢ n → IsShowable (shown m.node.casting (node_word n))
shown_fits w b n m kept there b_is n_is apart =
    let v = m.node.casting in
    let caster = kept.nodes.casts n n_is in
    let seen = caster.seen in
    let other = is_member w.members w.air n b caster.own b_is (λ same. apart (sym same)) in
    let look = member_looks w.members w.air n b m (member_at-is w.members b m there) in
    let heard = (seen.members (node_word b) other).heard ∙ look.heard in
    let listens : IsListening seen.cast.group (node_word b) (contact_with (node_word n) v.contacts) = subst (IsListening seen.cast.group (node_word b)) heard (seen.cast.members (node_word b)).listens in
    listening_fits seen.cast.group (node_word b) (number_of (v.sending.numbered + 1)) (number_of (next_start v)) (contact_with (node_word n) v.contacts) seen.cast.law listens (number_of-below (v.sending.numbered + 1)) (number_of-below (next_start v))
