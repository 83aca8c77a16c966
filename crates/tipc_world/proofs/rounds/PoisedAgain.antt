-- A world that went on calm from a poised one is poised again: the same links stand, and the same are cut.
use Rattle.std.specs.Prelude.{◌==◌, ◌⊎◌, if◌then◌else◌, option_and_then, OnOk}
use Rattle.std.proofs.Common.{◌≡◌, ◌≢◌, ◌≤◌, ◌∙◌, ℕ, zero, suc, true, false, Option, Some, None, Result, Ok, Err, slice_index_or, is_some, inl, inr, refl, sym, ap, subst, arith}
use Rattle.std.proofs.lemmas.Bool.{cases_eq, cases_lt}
use Rattle.std.proofs.lemmas.Bool.Decides.{nat_tests}
use Rattle.tipc_link.specs.Links.{LinkEnd}
use Rattle.tipc_pair.specs.Facing.{PairEnds, contact_between, facing, is_up_at}
use Rattle.tipc_pair.specs.LinkReadings.{silence_in}
use Rattle.tipc_pair.proofs.Facings.{facing_far, facing_near}
use Rattle.tipc_paired.specs.Views.{epoch_in}
use Rattle.tipc_settling.specs.Stillness.{AreHeard, IsStill}
use Rattle.tipc_node.specs.Nodes.{pair_with}
use Rattle.tipc_node.proofs.pairs.Strangers.{kept_abreast}
use Rattle.tipc_replay.specs.Numbers.{end_on}
use Rattle.tipc_replay.specs.Sound.{IsNumber}
use Rattle.tipc_replay.specs.States.{MemberState, contact_at, has_member, is_link_up_at, link_at, pair_at}
use Rattle.tipc_replay.specs.Views.{sight_at}
use Rattle.tipc_replay.proofs.SoundWorlds.{absent_pair}
use Rattle.tipc_replay.proofs.calls.Calls.{the_some}
use Rattle.tipc_world.specs.declared.faults.WorldFault.{WorldFault}
use Rattle.tipc_world.specs.declared.places.Places.{Places}
use Rattle.tipc_world.specs.declared.settling.Settled.{Settled}
use Rattle.tipc_world.specs.CalmWorlds.{IsCalmWorld}
use Rattle.tipc_world.specs.HeardWorlds.{StandsCalm}
use Rattle.tipc_world.specs.Poised.{IsPoised, IsUpTowards, LinkIsCut, LinkStands, StaysPoised}
use Rattle.tipc_world.specs.RoundParts.{IsKept}
use Rattle.tipc_world.specs.Settling.{Settles}
use Rattle.tipc_world.specs.States.{WorldState}
use Rattle.tipc_world.specs.StillWorlds.{footing_at}
use Rattle.tipc_world.proofs.Staying.{absent_at}
use Rattle.tipc_world.proofs.rounds.CalmWorlds.{call_begins_calm}
use Rattle.tipc_world.proofs.rounds.Contacts.{contact_with_footings}
use Rattle.tipc_world.proofs.rounds.HeardWorlds.{call_stays_calm, present_end, told_of}
use Rattle.tipc_world.proofs.rounds.StillWorlds.{sight_is}
use Rattle.tipc_world.proofs.rounds.UpLinks.{sight_near, still_knows, up_there}

-- ---- the pairs of a world

-- a number is that of another node, or no world has a pair there
abbrev PairedOrNone : ℕ → ℕ → Type 0
PairedOrNone a b = (IsNumber b × (a ≢ b)) ⊎ ((w : WorldState) → IsKept w → pair_at w.members a b ≡ None)

paired_or_none : (a b : ℕ) → PairedOrNone a b
paired_or_none a b = elim (cases_lt b 1) [
  | inl low ↦ inr (λ w kept. kept.nodes.sound.known a b (λ number. absurd (omega (arith, low, number.0))))
  | inr from_one ↦ elim (cases_lt b 33) [
    | inr high ↦ inr (λ w kept. kept.nodes.sound.known a b (λ number. absurd (omega (arith, high, number.1))))
    | inl to_32 ↦ elim (cases_eq b a) [
      | inl same ↦ inr (λ w kept. ap (λ k. pair_at w.members a k) same ∙ kept.nodes.sound.apart a)
      | inr other ↦ inl ((from_one, omega (arith, to_32)), λ same. other (sym same))
    ]
  ]
]

-- ---- where links are up

-- the link end of a node, as it is seen
pub link_seen : (w : WorldState) (a b bearer : ℕ) → (sight_at w.members w.air a b).ends bearer ≡ link_at w.members a b bearer
unfolding sight_at
link_seen w a b bearer = refl

-- it is the node's
pub end_is : (w : WorldState) (a b bearer : ℕ) (m : MemberState) → IsKept w → bearer ≤ 1 → slice_index_or w.members a None ≡ Some m → (facing bearer (pair_with m.node b)).near ≡ link_at w.members a b bearer
end_is w a b bearer m kept on_one there =
    ap (λ (x : PairEnds). (facing bearer x).near) (sym (sight_is w a b m kept there)) ∙ (sight_near (sight_at w.members w.air a b) bearer on_one ∙ link_seen w a b bearer)

foot_is : (w : WorldState) (a b bearer : ℕ) → bearer ≤ 1 → (footing_at w a b).up bearer ≡ is_link_up_at w.members a b bearer
foot_is w a b bearer on_one = ap is_up_at (sight_near (sight_at w.members w.air a b) bearer on_one ∙ link_seen w a b bearer)

-- no link is up where there is no pair
none_up : (start now : WorldState) (a b bearer : ℕ) → pair_at now.members a b ≡ None → pair_at start.members a b ≡ None → is_link_up_at now.members a b bearer ≡ is_link_up_at start.members a b bearer
none_up start now a b bearer none was = ap (λ o. is_up_at (end_on bearer o)) (none ∙ sym was)

-- a node that isn't there now wasn't there
was_absent : (start now : WorldState) (a : ℕ) → IsCalmWorld start now → slice_index_or now.members a None ≡ None → slice_index_or start.members a None ≡ None
was_absent start now a calm none = absent_at start a (sym (calm.on.nodes a) ∙ ap is_some none)

links_stay : (start now : WorldState) (a b bearer : ℕ) → IsKept start → IsCalmWorld start now → bearer ≤ 1 → is_link_up_at now.members a b bearer ≡ is_link_up_at start.members a b bearer
links_stay start now a b bearer kept calm on_one = elim (paired_or_none a b) [
  | inr none ↦ none_up start now a b bearer (none now (calm.on.kept kept)) (none start kept)
  | inl two ↦ by two.0 two.1 (slice_index_or now.members a None) refl
]
  where
    by : IsNumber b → a ≢ b → (o : Option MemberState) → slice_index_or now.members a None ≡ o → is_link_up_at now.members a b bearer ≡ is_link_up_at start.members a b bearer
    by number apart None none = none_up start now a b bearer (absent_pair now.members a b none) (absent_pair start.members a b (was_absent start now a calm none))
    by number apart (Some m) there =
        ap is_up_at (sym (end_is now a b bearer m (calm.on.kept kept) on_one there)) ∙ ((calm.nodes a m there b number apart).ups bearer on_one ∙ foot_is start a b bearer on_one)

-- ---- contacts

none_met : (start now : WorldState) (a b : ℕ) → pair_at now.members a b ≡ None → pair_at start.members a b ≡ None → contact_at now.members a b ≡ contact_at start.members a b
unfolding contact_at
none_met start now a b none was = ap (option_and_then contact_between) (none ∙ sym was)

pub contacts_stay : (start now : WorldState) (a b : ℕ) → IsKept start → IsPoised start → IsCalmWorld start now → contact_at now.members a b ≡ contact_at start.members a b
contacts_stay start now a b kept poised calm = elim (paired_or_none a b) [
  | inr none ↦ none_met start now a b (none now (calm.on.kept kept)) (none start kept)
  | inl two ↦ by two.0 two.1 (slice_index_or now.members a None) refl
]
  where
    by : IsNumber b → a ≢ b → (o : Option MemberState) → slice_index_or now.members a None ≡ o → contact_at now.members a b ≡ contact_at start.members a b
    by number apart None none = none_met start now a b (absent_pair now.members a b none) (absent_pair start.members a b (was_absent start now a calm none))
    by number apart (Some m) there =
        let was = the_some (slice_index_or start.members a None) (sym (calm.on.nodes a) ∙ ap is_some there) in
        contact_with_footings start now a b m (calm.on.kept kept) calm there number apart
        ∙ sym (contact_with_footings start start a b was.0 kept (call_begins_calm start kept poised calm.on.whole) was.1 number apart)

-- ---- links that stand

heard_on : (x : PairEnds) (bearer : ℕ) → x.bearer ≡ 0 → bearer ≤ 1 → AreHeard x → silence_in (facing bearer x).near ≤ 3
heard_on x zero first on_one heard = subst (λ (y : PairEnds). silence_in y.near ≤ 3) (sym (facing_near 0 x first)) heard.near
heard_on x (suc zero) first on_one heard = (let differs : (x.bearer == 1) ≡ false = grind (arith, nat_tests, first) in subst (λ (y : PairEnds). silence_in y.near ≤ 3) (sym (facing_far 1 x differs)) heard.far)
heard_on x (suc (suc more)) first on_one heard = absurd (omega (arith, on_one))

-- a link end that is up goes on towards that of the peer
towards : (start : WorldState) (places : Places) (now : WorldState) (a b bearer : ℕ) (e d : LinkEnd) → IsKept start → StandsCalm start places now → IsNumber a → IsNumber b → a ≢ b → bearer ≤ 1 → link_at now.members a b bearer ≡ Some e → link_at now.members b a bearer ≡ Some d
    → is_up_at (Some e) ≡ true → has_member now.members a ≡ true → has_member now.members b ≡ true → IsUpTowards e d
towards start places now a b bearer e d kept_start h a_is b_is apart on_one near far up here there =
    let kept = h.calm.on.kept kept_start in
    let m = the_some (slice_index_or now.members a None) here in
    let k = the_some (slice_index_or now.members b None) there in
    let own = footing_at start a b in
    let peer = footing_at start b a in
    let v = sight_at now.members now.air a b in
    let u = sight_at now.members now.air b a in
    let still = (h.calm.nodes a m.0 m.1 b b_is apart).still in
    let still_peer = (h.calm.nodes b k.0 k.1 a a_is (λ same. apart (sym same))).still in
    let knows = still_knows own peer v bearer e on_one (link_seen now a b bearer ∙ near) up (subst (IsStill own peer) (sym (sight_is now a b m.0 kept m.1)) still) in
    let present = sym (ap (epoch_in u.node.contact) (link_seen now b a bearer ∙ far)) ∙ present_end start now b a bearer k.0 kept on_one k.1 still_peer in
    let first = (kept_abreast m.0.node b (told_of now a m.0 kept m.1)).first in
    let low = subst (λ o. silence_in o ≤ 3) (end_is now a b bearer m.0 kept on_one m.1 ∙ near) (heard_on (pair_with m.0.node b) bearer first on_one (h.heard a m.0 m.1 b b_is apart)) in
    let silent : silence_in (Some e) ≡ e.fsm.silent = ap (λ t. if t then e.fsm.silent else 0) up in
    record { up = up; knows = knows ∙ ap Some (sym present); heard = λ four. omega (arith, low, silent, four) }

pub number_there : (w : WorldState) (a : ℕ) → IsKept w → has_member w.members a ≡ true → IsNumber a
number_there w a kept here = let m = the_some (slice_index_or w.members a None) here in (kept.nodes.sound.numbered a m.0 m.1).0

stands_on : (start : WorldState) (places : Places) (now : WorldState) (a b bearer : ℕ) → IsKept start → IsPoised start → StandsCalm start places now → has_member now.members a ≡ true → has_member now.members b ≡ true → a ≢ b → bearer ≤ 1 → LinkStands start.members a b bearer
    → LinkStands now.members a b bearer
stands_on start places now a b bearer kept poised h here there apart on_one stands =
    let kept_now = h.calm.on.kept kept in
    let e = up_there (link_at now.members a b bearer) (links_stay start now a b bearer kept h.calm on_one ∙ (ap is_up_at stands.near_is ∙ stands.near_up.up)) in
    let d = up_there (link_at now.members b a bearer) (links_stay start now b a bearer kept h.calm on_one ∙ (ap is_up_at stands.far_is ∙ stands.far_up.up)) in
    let a_is = number_there now a kept_now here in
    let b_is = number_there now b kept_now there in
    record {
      near = e.0;
      far = d.0;
      near_is = e.1;
      far_is = d.1;
      near_up = towards start places now a b bearer e.0 d.0 kept h a_is b_is apart on_one e.1 d.1 e.2 here there;
      far_up = towards start places now b a bearer d.0 e.0 kept h b_is a_is (λ same. apart (sym same)) on_one d.1 e.1 d.2 there here;
      contact = record {
        numbers = stands.contact.numbers;
        here = contacts_stay start now a b kept poised h.calm ∙ stands.contact.here;
        there = contacts_stay start now b a kept poised h.calm ∙ stands.contact.there;
      };
    }

cut_on : (start now : WorldState) (a b bearer : ℕ) → IsKept start → IsCalmWorld start now → bearer ≤ 1 → LinkIsCut start.members a b bearer → LinkIsCut now.members a b bearer
cut_on start now a b bearer kept calm on_one is_cut = record {
  near = links_stay start now a b bearer kept calm on_one ∙ is_cut.near;
  far = links_stay start now b a bearer kept calm on_one ∙ is_cut.far;
  cut = elim is_cut.cut [ inl one ↦ inl (calm.on.mended a bearer ∙ one) | inr other ↦ inr (calm.on.mended b bearer ∙ other) ];
}

poised_again : (start : WorldState) (places : Places) (now : WorldState) → IsKept start → IsPoised start → StandsCalm start places now → IsPoised now
poised_again start places now kept poised h a b bearer here there apart on_one = elim (poised a b bearer (sym (h.calm.on.nodes a) ∙ here) (sym (h.calm.on.nodes b) ∙ there) apart on_one) [
  | inl stands ↦ inl (stands_on start places now a b bearer kept poised h here there apart on_one stands)
  | inr is_cut ↦ inr (cut_on start now a b bearer kept h.calm on_one is_cut)
]

-- ---- the world

-- it stays poised
pub stays_poised : (start : WorldState) (places : Places) (now : WorldState) → IsKept start → IsPoised start → StandsCalm start places now → StaysPoised start now
stays_poised start places now kept poised h = record {
  poised = poised_again start places now kept poised h;
  links = λ a b bearer on_one. links_stay start now a b bearer kept h.calm on_one;
  contacts = λ a b. contacts_stay start now a b kept poised h.calm;
}

-- and so does one that answers whether packets are under way
pub settled_poised : (rounds : ℕ) (start : WorldState) (answered : Result Settled WorldFault) (now : WorldState) → IsKept start → Settles rounds start answered now → OnOk answered (IsPoised start → StaysPoised start now)
settled_poised rounds start (Ok settled) now kept h = λ poised. stays_poised start h.0.0 now kept poised (call_stays_calm start rounds h.0.0 now kept poised h.0.1 h.1)
settled_poised rounds start (Err stop) now kept h = tt
