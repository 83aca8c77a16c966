-- A node of a world as a caster, and another one that is in contact with it as its member, as they stand in the law of
-- broadcast.
use Rattle.std.specs.Prelude.{All, IfSome, cond, option_map}
use Rattle.std.specs.List.{Contains}
use Rattle.std.proofs.Common.{◌≡◌, ◌≢◌, ◌≤◌, ◌<◌, ◌+◌, ◌-◌, ◌^◌, ◌∙◌, ℕ, Bool, true, false, List, [], ◌∷◌, Option, Some, None, slice_index_or, refl, sym, ap, subst, arith}
use Rattle.std.proofs.lemmas.List.Elements.{All-contains, All-head, All-tail, All-weaker}
use Rattle.tipc_types.specs.Address.{node_word}
use Rattle.tipc_types.specs.Position.{number_of}
use Rattle.tipc_send_window.specs.Sending.{IsSending, acked_of}
use Rattle.tipc_recv_window.specs.Receiving.{Receiving}
use Rattle.tipc_broadcast.specs.declared.contacts.Contact.{Contact}
use Rattle.tipc_broadcast.specs.Casting.{Casting, IsCasting, accepted}
use Rattle.tipc_broadcast.specs.Contacts.{IsContact, IsFree, contact_with, is_with}
use Rattle.tipc_broadcast_law.specs.Groups.{Accepted, Group, place}
use Rattle.tipc_broadcast_law.specs.Law.{IsGroup}
use Rattle.tipc_broadcast_law.specs.Lines.{IsLined}
use Rattle.tipc_broadcast_law.specs.Listening.{IsListening, IsWindow}
use Rattle.tipc_broadcast_law.specs.Steps.{Casts, IsSeen, line_of}
use Rattle.tipc_broadcast_law.proofs.MemberEvents.{place-want}
use Rattle.tipc_broadcast_repair.specs.Laws.{IsMemberIn}
use Rattle.tipc_casters.specs.Sights.{IsMember, IsSentPiece, IsToldBy, IsToldTo, contact_of}
use Rattle.tipc_casters.specs.Views.{IsMemberSeen, IsOther}
use Rattle.tipc_casters.proofs.Consistent.{in_kept}
use Rattle.tipc_node.specs.Nodes.{pair_with}
use Rattle.tipc_pair.specs.Facing.{contact_between}
use Rattle.tipc_replay.specs.Casters.{cast_contact, caster_at, heard_contact, heard_of_caster, members_of, told_to_caster}
use Rattle.tipc_replay.specs.Skies.{AirState}
use Rattle.tipc_replay.specs.Sound.{IsNumber}
use Rattle.tipc_replay.specs.States.{MemberState, contact_at}
use Rattle.tipc_replay.proofs.LookUps.{member_at-is}
use Rattle.tipc_replay.proofs.casts.CasterLooks.{casting_at-is, contact_at-is}
use Rattle.tipc_replay.proofs.casts.MemberLooks.{IsMemberOf, casting_of, is_member, member_looks, word_is}
use Rattle.tipc_world.specs.CastRows.{Wants}
use Rattle.tipc_world.specs.RoundParts.{IsKept}
use Rattle.tipc_world.specs.States.{WorldState}

-- ---- the law

-- what the caster keeps of the member: what that acknowledged, and its start
pub record IsCredited (g : Group) (word contact : ℕ) (v : Casting) : Type 0 where
  pub credit : Contact
  pub there : contact_with word v.contacts ≡ Some credit
  pub begun : (g.members word).begun contact ≡ Some (credit.start - 1)
  pub some : 1 ≤ credit.start
  pub acked : (g.members word).acked ≡ credit.acked

-- Node a, of these broadcast link, and node b, of that one, in a contact: where a numbers it by `own`, and b by
-- `theirs`.
pub record CastPair (w : WorldState) (a b own theirs : ℕ) (v u : Casting) : Type 0 where
  pub group : Group
  pub law : IsGroup group
  pub stands : Casts group v
  pub lined : IsLined (line_of group) v
  pub sending : IsSending v.sending
  pub casting : IsCasting v.own v.sending v.contacts
  pub now : group.caster.boot ≡ v.boot
  pub boot : (group.members (node_word b)).boots (contact_of own theirs) ≡ v.boot
  pub boot_fits : v.boot < 2 ^ 32
  pub pieces : (f : ℕ) → All (λ (e : Accepted). IsSentPiece v.own e.packet) (group.caster.line f)
  pub kept : Contact
  pub heard : contact_with (node_word a) u.contacts ≡ Some kept
  pub member : IsMemberIn group (node_word b) (contact_of own theirs) kept
  pub credited : IsCredited group (node_word b) (contact_of own theirs) v
  pub told : All (IsToldBy group (node_word b)) (told_to_caster w.air b a)
  pub hears : All (IsToldTo group (node_word b)) (heard_of_caster w.air a b)

joined_at : (members : List (Option MemberState)) (air : AirState) (a b : ℕ) → (caster_at members air a).joined (node_word b) ≡ option_map cast_contact (contact_at members a b)
unfolding caster_at
joined_at members air a b = ap (λ k. option_map cast_contact (contact_at members a k)) (word_is b)

-- what is so of all that are listed is so of those among them
all_among : {A : Type 0} (P : A → Type 0) (xs ys : List A) → All P xs → All (Contains xs) ys → All P ys
all_among P xs ys all among = All-weaker (Contains xs) P (λ y there. All-contains P xs y all there) ys among

credited_in : (g : Group) (v : Casting) (word contact : ℕ) → Casts g v → (g.members word).joined ≡ Some contact → IsCredited g word contact v
credited_in g v word contact stands joined = by (contact_with word v.contacts) refl (stands.members word)
  where
    by : (o : Option Contact) → contact_with word v.contacts ≡ o → IsSeen (g.members word) o → IsCredited g word contact v
    by None there none = absurd (let wrong : None ≡ Some contact = sym none ∙ joined in cc)
    by (Some d) there (j, joined_is, begun, some, acked) =
        let same : j ≡ contact = (let both : Some j ≡ Some contact = sym joined_is ∙ joined in cc) in
        record { credit = d; there = there; begun = subst (λ c. (g.members word).begun c ≡ Some (d.start - 1)) same begun; some = some; acked = acked }

pub cast_pair : (w : WorldState) (a b own theirs : ℕ) (m k : MemberState) → IsKept w → IsNumber a → IsNumber b → a ≢ b → slice_index_or w.members a None ≡ Some m → slice_index_or w.members b None ≡ Some k → contact_at w.members a b ≡ Some (own, theirs)
    → contact_at w.members b a ≡ Some (theirs, own) → CastPair w a b own theirs m.node.casting k.node.casting
cast_pair w a b own theirs m k kept a_is b_is apart at_a at_b here there =
    let view = caster_at w.members w.air a in
    let ws = members_of w.members w.air a in
    let c = kept.nodes.casts a a_is in
    let seen = c.seen in
    let word = node_word b in
    let contact = contact_of own theirs in
    let is : seen.caster_sight.casting ≡ m.node.casting = seen.caster.casting ∙ (casting_of w.members w.air a ∙ casting_at-is w.members a m (member_at-is w.members a m at_a)) in
    let other : IsOther view word = is_member w.members w.air a b c.own b_is apart in
    let g = seen.cast.group in
    let law = seen.cast.law in
    let caster = seen.cast.caster in
    let member : IsMember g word (seen.member_sights word) = seen.cast.members word in
    let sight : IsMemberSeen (seen.member_sights word) (ws word) = seen.members word other in
    let looks : IsMemberOf (ws word) w.air a b k = member_looks w.members w.air a b k (member_at-is w.members b k at_b) in
    let joined : (g.members word).joined ≡ Some contact = caster.joined word ∙ (seen.caster.joined word other ∙ (joined_at w.members w.air a b ∙ ap (option_map cast_contact) here)) in
    let met : contact_between (pair_with k.node a) ≡ Some (theirs, own) = sym (contact_at-is w.members b a k (member_at-is w.members b k at_b)) ∙ there in
    let at_member : (ws word).at ≡ Some contact = looks.at ∙ ap (option_map heard_contact) met in
    let keeps = in_kept view ws word contact seen other at_member in
    let boots = (law.each word).joined_boot contact joined in
    let now : g.caster.boot ≡ m.node.casting.boot = caster.boot ∙ ap (λ (v : Casting). v.boot) is in
    let heard : (seen.member_sights word).heard ≡ Some keeps.0 = sight.heard ∙ keeps.1 in
    let stands : Casts g m.node.casting = subst (Casts g) is caster.stands in
    record {
      group = g;
      law = law;
      stands = stands;
      lined = subst (IsLined (line_of g)) is caster.lined;
      sending = subst (λ (v : Casting). IsSending v.sending) is caster.window;
      casting = subst (λ (v : Casting). IsCasting v.own v.sending v.contacts) is caster.casting;
      now = now;
      boot = boots ∙ now;
      boot_fits = subst (λ (v : Casting). v.boot < 2 ^ 32) is caster.boot_fits;
      pieces = λ f. subst (λ (v : Casting). All (λ (e : Accepted). IsSentPiece v.own e.packet) (g.caster.line f)) is (caster.spelled f);
      kept = keeps.0;
      heard = sym looks.heard ∙ keeps.1;
      member = record {
        law = law;
        joined = joined;
        at = member.at ∙ (sight.at ∙ at_member);
        listens = subst (IsListening g word) heard member.listens;
        free = subst (λ o. IfSome o (λ (d : Contact). IsFree d.window)) heard member.free;
      };
      credited = credited_in g m.node.casting word contact stands joined;
      told = subst (λ ts. All (IsToldBy g word) ts) looks.told (all_among (IsToldBy g word) (seen.member_sights word).told (ws word).told member.told sight.told);
      hears = subst (λ ts. All (IsToldTo g word) ts) looks.hears (all_among (IsToldTo g word) (seen.member_sights word).hears (ws word).hears member.hears sight.hears);
    }

-- ---- the place that the member wants

-- what is true of all contacts is true of that with a peer
pub contact_right : (word : ℕ) (cs : List Contact) (P : Contact → Type 0) → All P cs → (c : Contact) → contact_with word cs ≡ Some c → P c
contact_right word [] P all c is = absurd (let wrong : None ≡ Some c = is in let no : ⊥ = cc in no)
contact_right word (d ∷ ds) P all c is = by (contact_right word ds P (All-tail P d ds all) c) (is_with word d) is
  where
    by : (contact_with word ds ≡ Some c → P c) → (b : Bool) → cond b (Some d) (contact_with word ds) ≡ Some c → P c
    by rest true here = (let same : d ≡ c = cc in subst P same (All-head P d ds all))
    by rest false later = rest later

module _ {w : WorldState} {a b own theirs : ℕ} {v u : Casting} (h : CastPair w a b own theirs v u) where
  abbrev pub word : ℕ
  word = node_word b

  abbrev pub contact : ℕ
  contact = contact_of own theirs

  pub numbered_is : h.group.caster.numbered v.boot ≡ v.sending.numbered
  numbered_is = ap h.group.caster.numbered (sym h.now) ∙ sym h.stands.numbered

  -- what is kept of the caster in the contact
  pub window_is : IsWindow h.group word contact h.kept.window
  window_is =
      let l = h.member.listens in
      let same : l.0 ≡ contact = (let both : Some l.0 ≡ Some contact = sym l.1 ∙ h.member.at in cc) in
      subst (λ c. IsWindow h.group word c h.kept.window) same l.3

  -- it is of the caster's boot
  pub kept_boot : h.kept.boot ≡ v.boot
  kept_boot =
      let l = h.member.listens in
      let same : l.0 ≡ contact = (let both : Some l.0 ≡ Some contact = sym l.1 ∙ h.member.at in cc) in
      l.2 ∙ (ap (h.group.members word).boots same ∙ h.boot)

  -- what was released was acknowledged by the member
  pub released_acked : acked_of v.sending ≤ h.credited.credit.acked
  released_acked = (contact_right word v.contacts (IsContact (acked_of v.sending) (accepted v.sending)) h.casting.contacts h.credited.credit h.credited.there).after_release

  -- and that it has
  pub place_bounds : (h.credited.credit.acked ≤ place (h.group.members word) contact) × (place (h.group.members word) contact ≤ v.sending.numbered + 246)
  place_bounds =
      let keeps = h.law.each word in
      let acked = keeps.acked_place contact h.member.joined in
      let same = h.credited.acked in
      let near = keeps.place_near contact (h.credited.credit.start - 1) h.credited.begun in
      let numbered = ap h.group.caster.numbered h.boot ∙ numbered_is in
      (omega (arith, acked, same), omega (arith, near, numbered))

  -- in step it wants the packet of a place
  pub wants_place : (r : Receiving) → h.kept.window ≡ Some r → Wants v r (place (h.group.members word) contact) × ((h.group.members word).want contact ≡ Some (place (h.group.members word) contact))
  wants_place r is =
      let window : IsWindow h.group word contact (Some r) = subst (IsWindow h.group word contact) is window_is in
      let x = window.0 in
      let here : place (h.group.members word) contact ≡ x = place-want (h.group.members word) contact x window.1 in
      let bounds = place_bounds in
      let low = bounds.0 in
      let high = bounds.1 in
      let released = released_acked in (
        record { number = ap (λ k. number_of (k + 1)) here ∙ window.2; low = omega (arith, released, low); high = high },
        window.1 ∙ ap Some (sym here),
      )
