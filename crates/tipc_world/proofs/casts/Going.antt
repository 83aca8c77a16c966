-- From one moment of a call on the broadcast links of a calm world go on, and each member wants a place that lies
-- further by just what it took since.
use Rattle.std.specs.Prelude.{◌%◌, ◌-◌, All, is_some, option_map}
use Rattle.std.proofs.Common.{◌≡◌, ◌≢◌, ◌≤◌, ◌+◌, ◌∙◌, ℕ, List, Some, Option, None, length, slice_index_or, inl, inr, refl, sym, ap, subst, arith}
use Rattle.std.proofs.lemmas.Bool.{cases_eq}
use Rattle.tipc_types.specs.Address.{node_word}
use Rattle.tipc_types.specs.Position.{number_of}
use Rattle.tipc_types.specs.declared.node_calls.Answer.{Answer}
use Rattle.tipc_send_window.specs.Sending.{IsSending, acked_of}
use Rattle.tipc_recv_window.specs.Receiving.{Receiving}
use Rattle.tipc_broadcast.specs.declared.contacts.Contact.{Contact}
use Rattle.tipc_broadcast.specs.Casting.{Casting, accepted}
use Rattle.tipc_broadcast.specs.Contacts.{IsContact, contact_with}
use Rattle.tipc_broadcast.specs.Deeds.{HasSmallWindow}
use Rattle.tipc_broadcast_repair.specs.Laws.{StaysInStep}
use Rattle.tipc_replay.specs.declared.events.WorldEvent.{WorldEvent}
use Rattle.tipc_replay.specs.Calls.{node_of}
use Rattle.tipc_replay.specs.States.{MemberState}
use Rattle.tipc_replay.proofs.LookUps.{member_at-is}
use Rattle.tipc_replay.proofs.casts.CasterLooks.{casting_at-is}
use Rattle.tipc_replay.proofs.casts.MemberLooks.{casting_of}
use Rattle.tipc_world.specs.CastRows.{Wants}
use Rattle.tipc_world.specs.CalmWorlds.{IsCalmWorld}
use Rattle.tipc_world.specs.Poised.{IsPoised}
use Rattle.tipc_world.specs.RoundParts.{HappensWhole, IsKept, SettlesOn}
use Rattle.tipc_world.specs.Rows.{WasUp}
use Rattle.tipc_world.specs.States.{WorldState}
use Rattle.tipc_world.specs.StillWorlds.{footing_at}
use Rattle.tipc_world.proofs.casts.Law.{CastPair, cast_pair, contact_right, wants_place}
use Rattle.tipc_world.proofs.casts.Links.{CastEvent, ContactOn, ContactsGo, IsNear, LinkGoes, event_goes, link_same, link_then, none_step, on_same, on_then, word_change}
use Rattle.tipc_world.proofs.rounds.Contacts.{contact_of_up}
use Rattle.tipc_world.proofs.rounds.Keeping.{here_is, other_stays}
use Rattle.tipc_world.proofs.rounds.StillWorlds.{node_number}
use Rattle.tipc_world.proofs.rounds.UpLinks.{both_up, the_member}

-- ---- what is so of each node's broadcast link

-- few packets wait on it, and its send window is one
pub record IsGoodLink (v : Casting) : Type 0 where
  pub sending : IsSending v.sending
  pub few : length v.sending.waiting ≤ 246

pub good_link : (w : WorldState) (a : ℕ) (m : MemberState) → IsKept w → slice_index_or w.members a None ≡ Some m → IsGoodLink m.node.casting
good_link w a m kept there =
    let seen = (kept.nodes.casts a (node_number w a m kept there)).seen in
    let is : seen.caster_sight.casting ≡ m.node.casting = seen.caster.casting ∙ (casting_of w.members w.air a ∙ casting_at-is w.members a m (member_at-is w.members a m there)) in
    let caster = seen.cast.caster in
    record {
      sending = subst (λ (v : Casting). IsSending v.sending) is caster.window;
      few = subst (λ (v : Casting). length v.sending.waiting ≤ 246) is caster.casting.few;
    }

-- and so are its contacts
pub good_casting : (w : WorldState) (a : ℕ) (m : MemberState) → IsKept w → slice_index_or w.members a None ≡ Some m → All (IsContact (acked_of m.node.casting.sending) (accepted m.node.casting.sending)) m.node.casting.contacts
good_casting w a m kept there =
    let seen = (kept.nodes.casts a (node_number w a m kept there)).seen in
    let is : seen.caster_sight.casting ≡ m.node.casting = seen.caster.casting ∙ (casting_of w.members w.air a ∙ casting_at-is w.members a m (member_at-is w.members a m there)) in
    subst (λ (v : Casting). All (IsContact (acked_of v.sending) (accepted v.sending)) v.contacts) is seen.cast.caster.casting.contacts

-- two nodes between which a link was up when the call began stand in the law
pub pair_stands : (start w : WorldState) (a b bearer : ℕ) (m k : MemberState) → IsKept start → IsPoised start → IsCalmWorld start w → WasUp start a b bearer → slice_index_or w.members a None ≡ Some m → slice_index_or w.members b None ≡ Some k
    → CastPair w a b (footing_at start a b).contact (footing_at start b a).contact m.node.casting k.node.casting
pair_stands start w a b bearer m k kept_start poised calm u at_a at_b =
    let kept = calm.on.kept kept_start in
    let back : b ≢ a = λ same. u.apart (sym same) in
    let other = both_up start a b bearer kept_start poised u.apart u.on_one u.up in
    cast_pair w a b (footing_at start a b).contact (footing_at start b a).contact m k kept u.here u.there u.apart at_a at_b (contact_of_up start w a b bearer m kept calm at_a u.there u.apart u.on_one u.up)
    (contact_of_up start w b a bearer k kept calm at_b u.here back u.on_one other.0)

-- ---- the place that a member wants

-- the only one near what was released
near_place : (base x y r q : ℕ) → base ≤ x → x ≤ base + 296 → base ≤ y → y ≤ base + 542 → r ≤ q → q ≤ r + 51 → (x + 1) % 65536 ≡ r % 65536 → (y + 1) % 65536 ≡ q % 65536 → x + (q - r) ≡ y
near_place base x y r q x_from x_to y_from y_to more near one two = omega arith

pub same_place : (v u : Casting) (r q : Receiving) (x y : ℕ) → LinkGoes v u → IsGoodLink v → IsGoodLink u → r.wanted ≤ q.wanted → q.wanted ≤ r.wanted + 51 → Wants v r x → Wants u q y → x + (q.wanted - r.wanted) ≡ y
unfolding number_of
same_place v u r q x y goes good good' more near is now =
    let low = is.low in
    let high = is.high in
    let low' = now.low in
    let high' = now.high in
    let window = good.sending.window in
    let below = good.sending.numbered in
    let few = good.few in
    let accepted = goes.accepted_is in
    let acked = goes.acked in
    near_place (acked_of v.sending) x y r.wanted q.wanted low (omega (arith, high, window, below)) (omega (arith, acked, low')) (omega (arith, high', window, below, few, accepted)) more near is.number now.number

-- ---- a caster and a member

-- in step a contact stays so
pub in_step_on : (c d : Contact) (r : Receiving) → ContactOn c d → c.window ≡ Some r → (q : Receiving) × (d.window ≡ Some q) × (r.wanted ≤ q.wanted) × (c.shown ≤ d.shown)
in_step_on c d r on is = by d.window refl (subst (λ o. StaysInStep c.shown o d.shown d.window) is on.step)
  where
    by : (o : Option Receiving) → d.window ≡ o → StaysInStep c.shown (Some r) d.shown d.window → (q : Receiving) × (d.window ≡ Some q) × (r.wanted ≤ q.wanted) × (c.shown ≤ d.shown)
    by None none step = absurd (subst (λ o. StaysInStep c.shown (Some r) d.shown o) none step)
    by (Some q) there step = (let so = subst (λ o. StaysInStep c.shown (Some r) d.shown o) there step in (q, there, so.0, so.1))

-- the caster's link and the contact of the member with it, from one moment on
pub record PairGoes (v : Casting) (k : Contact) (u : Casting) (l : Contact) : Type 0 where
  pub on : ContactOn k l
  pub places : (r q : Receiving) (x : ℕ) → k.window ≡ Some r → l.window ≡ Some q → Wants v r x → Wants u q (x + (q.wanted - r.wanted))

-- the contact that it became
pub contact_after : (o p : Option Contact) (c : Contact) → ContactsGo o p → o ≡ Some c → (d : Contact) × (p ≡ Some d) × ContactOn c d
contact_after o p c go is = subst (λ x. ContactsGo x p) is go

pair_same : (v : Casting) (k : Contact) → PairGoes v k v k
pair_same v k = record {
  on = on_same k;
  places = λ r q x is now wants.
      let both : Some r ≡ Some q = sym is ∙ now in
      let same : r ≡ q = cc in
      let none : x ≡ x + (q.wanted - r.wanted) = (let wanted = ap (λ (p : Receiving). p.wanted) same in omega (arith, wanted)) in
      subst (Wants v q) none (subst (λ p. Wants v p x) same wants);
}

pair_then : (v : Casting) (k : Contact) (u : Casting) (l : Contact) (t : Casting) (m : Contact) → PairGoes v k u l → PairGoes u l t m → PairGoes v k t m
pair_then v k u l t m one two = record {
  on = on_then k l m one.on two.on;
  places = λ r q x is now wants.
      let between = in_step_on k l r one.on is in
      let p = between.0 in
      let after = in_step_on l m p two.on between.1 in
      let same : after.0 ≡ q = (let both : Some after.0 ≡ Some q = sym after.1 ∙ now in cc) in
      let low = between.2 in
      let high = after.2 in
      let wanted = ap (λ (s : Receiving). s.wanted) same in
      let all : x + (p.wanted - r.wanted) + (q.wanted - p.wanted) ≡ x + (q.wanted - r.wanted) = omega (arith, low, high, wanted) in
      subst (Wants t q) all (two.places p q (x + (p.wanted - r.wanted)) between.1 now (one.places r p x is between.1 wants));
}

-- ---- from one moment on

pub record CastsGo (start base w : WorldState) : Type 0 where
  pub links : (a : ℕ) (k m : MemberState) → slice_index_or base.members a None ≡ Some k → slice_index_or w.members a None ≡ Some m → LinkGoes k.node.casting m.node.casting
  pub pairs : (a b bearer : ℕ) → WasUp start a b bearer → (ka ma kb mb : MemberState) → slice_index_or base.members a None ≡ Some ka → slice_index_or w.members a None ≡ Some ma → slice_index_or base.members b None ≡ Some kb
      → slice_index_or w.members b None ≡ Some mb → (c d : Contact) → contact_with (node_word a) kb.node.casting.contacts ≡ Some c → contact_with (node_word a) mb.node.casting.contacts ≡ Some d
      → PairGoes ka.node.casting c ma.node.casting d

-- where no broadcast link changes
alike : (start base w : WorldState) → ((n : ℕ) (k m : MemberState) → slice_index_or base.members n None ≡ Some k → slice_index_or w.members n None ≡ Some m → m.node.casting ≡ k.node.casting) → CastsGo start base w
alike start base w same = record {
  links = λ a k m was is. subst (LinkGoes k.node.casting) (sym (same a k m was is)) (link_same k.node.casting);
  pairs = λ a b bearer u ka ma kb mb was_a is_a was_b is_b c d there now.
      let one : c ≡ d = (let both : Some c ≡ Some d = sym there ∙ (ap (λ (v : Casting). contact_with (node_word a) v.contacts) (sym (same b kb mb was_b is_b)) ∙ now) in cc) in
      subst (λ v. PairGoes ka.node.casting c v d) (sym (same a ka ma was_a is_a)) (subst (PairGoes ka.node.casting c ka.node.casting) one (pair_same ka.node.casting c));
}

one_member : (k m : MemberState) (o : Option MemberState) → o ≡ Some k → o ≡ Some m → m.node.casting ≡ k.node.casting
one_member k m o was is = (let both : Some m ≡ Some k = sym is ∙ was in let same : m ≡ k = cc in ap (λ (x : MemberState). x.node.casting) same)

pub casts_same : (start base : WorldState) → CastsGo start base base
casts_same start base = alike start base base (λ n k m was is. one_member k m (slice_index_or base.members n None) was is)

pub casts_then : (start base between w : WorldState) → SettlesOn base between → CastsGo start base between → CastsGo start between w → CastsGo start base w
casts_then start base between w on one two = record {
  links = λ a k m was is. (
      let p = the_member (slice_index_or between.members a None) (on.nodes a ∙ ap (λ o. is_some o) was) in
      link_then k.node.casting p.0.node.casting m.node.casting (one.links a k p.0 was p.1) (two.links a p.0 m p.1 is));
  pairs = λ a b bearer u ka ma kb mb was_a is_a was_b is_b c d there now.
      let pa = the_member (slice_index_or between.members a None) (on.nodes a ∙ ap (λ o. is_some o) was_a) in
      let pb = the_member (slice_index_or between.members b None) (on.nodes b ∙ ap (λ o. is_some o) was_b) in
      let e = contact_after (contact_with (node_word a) kb.node.casting.contacts) (contact_with (node_word a) pb.0.node.casting.contacts) c ((one.links b kb pb.0 was_b pb.1).contacts (node_word a)) there in
      pair_then ka.node.casting c pa.0.node.casting e.0 ma.node.casting d (one.pairs a b bearer u ka pa.0 kb pb.0 was_a pa.1 was_b pb.1 c e.0 there e.1)
      (two.pairs a b bearer u pa.0 ma pb.0 mb pa.1 is_a pb.1 is_b e.0 d e.1 now);
}

-- ---- an event

-- one that leaves the broadcast link of its node
pub rest_casts : (start old new : WorldState) (event : WorldEvent) (bytes : List ℕ) (answered : Answer) (h : HappensWhole old new event bytes answered) → h.after.node.casting ≡ h.before.node.casting → CastsGo start old new
rest_casts start old new event bytes answered h same = alike start old new (λ n k m was is. elim (cases_eq n (node_of event)) [
  | inl here ↦
      let before : k ≡ h.before = (let both : Some k ≡ Some h.before = sym was ∙ (ap (λ i. slice_index_or old.members i None) here ∙ h.was) in cc) in
      let after : m ≡ h.after = (let both : Some m ≡ Some h.after = sym is ∙ (ap (λ i. slice_index_or new.members i None) here ∙ here_is old new event bytes answered h) in cc) in
      ap (λ (x : MemberState). x.node.casting) after ∙ (same ∙ ap (λ (x : MemberState). x.node.casting) (sym before))
  | inr other ↦ one_member k m (slice_index_or old.members n None) was (sym (other_stays old new event bytes answered h n other) ∙ is)
])

-- what becomes of the contact of a node with another one
record StepsOn (c d : Contact) : Type 0 where
  on : ContactOn c d
  near : IsNear c d

module _ (start old new : WorldState) (event : WorldEvent) (bytes : List ℕ) (answered : Answer) (h : HappensWhole old new event bytes answered) (kept_start : IsKept start) (poised : IsPoised start) (calm : IsCalmWorld start old) (calm' : IsCalmWorld start new)
    (does : CastEvent h.before.node.casting h.after.node.casting) where
  kept_old : IsKept old
  kept_old = calm.on.kept kept_start

  link_goes : (a : ℕ) (k m : MemberState) → slice_index_or old.members a None ≡ Some k → slice_index_or new.members a None ≡ Some m → LinkGoes k.node.casting m.node.casting
  link_goes a k m was is = elim (cases_eq a (node_of event)) [
    | inl here ↦
        let before : h.before ≡ k = (let both : Some h.before ≡ Some k = sym (ap (λ i. slice_index_or old.members i None) here ∙ h.was) ∙ was in cc) in
        let after : h.after ≡ m = (let both : Some h.after ≡ Some m = sym (ap (λ i. slice_index_or new.members i None) here ∙ here_is old new event bytes answered h) ∙ is in cc) in
        subst (λ (x : MemberState). LinkGoes x.node.casting m.node.casting) before (subst (λ (x : MemberState). LinkGoes h.before.node.casting x.node.casting) after
        (event_goes h.before.node.casting h.after.node.casting (good_link old (node_of event) h.before kept_old h.was).sending does))
    | inr other ↦
        let same = one_member k m (slice_index_or old.members a None) was (sym (other_stays old new event bytes answered h a other) ∙ is) in
        subst (LinkGoes k.node.casting) (sym same) (link_same k.node.casting)
  ]

  steps_on : (word b : ℕ) (k m : MemberState) → slice_index_or old.members b None ≡ Some k → slice_index_or new.members b None ≡ Some m → (c d : Contact) → contact_with word k.node.casting.contacts ≡ Some c → contact_with word m.node.casting.contacts ≡ Some d → StepsOn c d
  steps_on word b k m was is c d there now =
      let small = contact_right word k.node.casting.contacts HasSmallWindow (kept_old.nodes.cast_links b k was).small c there in
      elim (cases_eq b (node_of event)) [
        | inl here ↦
            let before : h.before ≡ k = (let both : Some h.before ≡ Some k = sym (ap (λ i. slice_index_or old.members i None) here ∙ h.was) ∙ was in cc) in
            let after : h.after ≡ m = (let both : Some h.after ≡ Some m = sym (ap (λ i. slice_index_or new.members i None) here ∙ here_is old new event bytes answered h) ∙ is in cc) in
            let x = word_change h.before.node.casting h.after.node.casting does word in
            let changed : d ≡ x.change c = (
            let both : Some d ≡ Some (x.change c) = sym now ∙ (ap (λ (y : MemberState). contact_with word y.node.casting.contacts) (sym after) ∙ (x.is ∙ ap (option_map x.change) (ap (λ (y : MemberState). contact_with word y.node.casting.contacts) before ∙ there))) in cc) in
            subst (StepsOn c) (sym changed) (record { on = x.step.on c; near = x.step.near c small })
        | inr other ↦
            let same = one_member k m (slice_index_or old.members b None) was (sym (other_stays old new event bytes answered h b other) ∙ is) in
            let one : c ≡ d = (let both : Some c ≡ Some d = sym there ∙ (ap (λ (v : Casting). contact_with word v.contacts) (sym same) ∙ now) in cc) in
            subst (StepsOn c) one (record { on = none_step.on c; near = none_step.near c small })
      ]

  pub event_casts : CastsGo start old new
  event_casts = record {
    links = link_goes;
    pairs = λ a b bearer u ka ma kb mb was_a is_a was_b is_b c d there now.
        let step = steps_on (node_word a) b kb mb was_b is_b c d there now in
        let goes = link_goes a ka ma was_a is_a in
        record {
          on = step.on;
          places = λ r q x is now_in wants.
              let p = pair_stands start new a b bearer ma mb kept_start poised calm' u is_a is_b in
              let same : d ≡ p.kept = (let both : Some d ≡ Some p.kept = sym now ∙ p.heard in cc) in
              let stands = (wants_place p q (ap (λ (e : Contact). e.window) (sym same) ∙ now_in)).0 in
              let more = in_step_on c d r step.on is in
              let one : more.0 ≡ q = (let both : Some more.0 ≡ Some q = sym more.1 ∙ now_in in cc) in
              let wanted = ap (λ (e : Receiving). e.wanted) one in
              let further = more.2 in
              let at = same_place ka.node.casting ma.node.casting r q x _ goes (good_link old a ka kept_old was_a) (good_link new a ma (calm'.on.kept kept_start) is_a) (omega (arith, further, wanted)) (step.near r q is now_in) wants stands in
              subst (Wants ma.node.casting q) (sym at) stands;
        };
  }

-- ---- what is kept

-- what a caster's link keeps as it goes on
abbrev pub KeepsLink : (Casting → Type 0) → Type 0
KeepsLink P = (v u : Casting) → LinkGoes v u → P v → P u

-- and what it keeps with the contact of a member
abbrev pub KeepsPair : (Casting → Contact → Type 0) → Type 0
KeepsPair P = (v : Casting) (k : Contact) (u : Casting) (l : Contact) → LinkGoes v u → PairGoes v k u l → P v k → P u l
