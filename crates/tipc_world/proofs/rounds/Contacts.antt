-- The contact of two nodes of a calm world: as it was when the call began.
use Rattle.std.specs.Prelude.{◌==◌, ◌||◌, if◌then◌else◌}
use Rattle.std.proofs.Common.{◌≡◌, ◌≢◌, ◌∙◌, ◌≤◌, ℕ, zero, suc, Bool, true, false, Option, Some, None, slice_index_or, refl, sym, ap, arith}
use Rattle.std.proofs.lemmas.Bool.Decides.{nat_tests}
use Rattle.tipc_link.specs.Links.{LinkEnd}
use Rattle.tipc_pair.specs.Facing.{PairEnds, contact_between, is_up_at}
use Rattle.tipc_pair.proofs.Facings.{facing_far, facing_near}
use Rattle.tipc_paired.specs.Views.{fsm_in}
use Rattle.tipc_settling.specs.Stillness.{Footing, IsStillAt}
use Rattle.tipc_node.specs.Nodes.{pair_with}
use Rattle.tipc_node.proofs.pairs.Strangers.{kept_abreast}
use Rattle.tipc_replay.specs.Sound.{IsNumber}
use Rattle.tipc_replay.specs.States.{MemberState, contact_at}
use Rattle.tipc_replay.proofs.LookUps.{member_at-is}
use Rattle.tipc_replay.proofs.casts.CasterLooks.{contact_at-is}
use Rattle.tipc_world.specs.CalmWorlds.{IsCalmPair, IsCalmWorld}
use Rattle.tipc_world.specs.RoundParts.{IsKept}
use Rattle.tipc_world.specs.States.{WorldState}
use Rattle.tipc_world.specs.StillWorlds.{footing_at}

end_sees : (own peer : Footing) (seen bearer : ℕ) (o : Option LinkEnd) → IsStillAt own peer seen bearer (fsm_in o) → is_up_at o ≡ true → seen ≡ peer.contact
end_sees own peer seen bearer None still up = absurd cc
end_sees own peer seen bearer (Some e) still up = still.contact (still.up up)

-- a contact of these numbers
abbrev met : ℕ → ℕ → Option (ℕ × ℕ)
met own theirs = Some (own, theirs)

-- the contact of a calm pair is that of its footings
contact_stays : (own peer : Footing) (x : PairEnds) → x.bearer ≡ 0 → IsCalmPair own peer x → contact_between x ≡ (if own.up 0 || own.up 1 then met own.contact peer.contact else None)
contact_stays own peer x first calm =
    by (is_up_at x.near) (is_up_at x.far) refl refl ∙ ap (λ t. if t then met own.contact peer.contact else None) (ap (λ t. t || is_up_at x.far) near ∙ ap (λ t. own.up 0 || t) far)
  where
    near : is_up_at x.near ≡ own.up 0
    near = ap (λ (y : PairEnds). is_up_at y.near) (sym (facing_near 0 x first)) ∙ calm.ups 0 (omega arith)

    far : is_up_at x.far ≡ own.up 1
    far = (let differs : (x.bearer == 1) ≡ false = grind (arith, nat_tests, first) in ap (λ (y : PairEnds). is_up_at y.near) (sym (facing_far 1 x differs)) ∙ calm.ups 1 (omega arith))

    numbers : x.seen ≡ peer.contact → met x.contact x.seen ≡ met own.contact peer.contact
    numbers seen = ap (λ k. met k x.seen) calm.still.contact ∙ ap (met own.contact) seen

    by : (s t : Bool) → is_up_at x.near ≡ s → is_up_at x.far ≡ t → (if s || t then met x.contact x.seen else None) ≡ (if s || t then met own.contact peer.contact else None)
    by true true up up_too = numbers (end_sees own peer x.seen x.bearer x.near calm.still.near up)
    by true false up down = numbers (end_sees own peer x.seen x.bearer x.near calm.still.near up)
    by false true down up = numbers (end_sees own peer x.seen _ x.far calm.still.far up)
    by false false down down_too = refl

pub contact_with_footings : (start w : WorldState) (a b : ℕ) (m : MemberState) → IsKept w → IsCalmWorld start w → slice_index_or w.members a None ≡ Some m → IsNumber b → a ≢ b
    → contact_at w.members a b ≡ (if (footing_at start a b).up 0 || (footing_at start a b).up 1 then met (footing_at start a b).contact (footing_at start b a).contact else None)
contact_with_footings start w a b m kept calm there number apart =
    contact_at-is w.members a b m (member_at-is w.members a m there)
    ∙ contact_stays (footing_at start a b) (footing_at start b a) (pair_with m.node b) (kept_abreast m.node b (kept.nodes.shared a m there).told).first (calm.nodes a m there b number apart)

-- of two nodes between which a link was up, that of both their numbers
pub contact_of_up : (start w : WorldState) (a b bearer : ℕ) (m : MemberState) → IsKept w → IsCalmWorld start w → slice_index_or w.members a None ≡ Some m → IsNumber b → a ≢ b → bearer ≤ 1 → (footing_at start a b).up bearer ≡ true
    → contact_at w.members a b ≡ Some ((footing_at start a b).contact, (footing_at start b a).contact)
contact_of_up start w a b bearer m kept calm there number apart on_one up =
    contact_with_footings start w a b m kept calm there number apart ∙ ap (λ t. if t then met (footing_at start a b).contact (footing_at start b a).contact else None) (either bearer on_one up)
  where
    either : (k : ℕ) → k ≤ 1 → (footing_at start a b).up k ≡ true → ((footing_at start a b).up 0 || (footing_at start a b).up 1) ≡ true
    either zero one is = ap (λ t. t || (footing_at start a b).up 1) is
    either (suc zero) one is = elim ((footing_at start a b).up 0) as (λ t. (t || (footing_at start a b).up 1) ≡ true) [ true ↦ refl | false ↦ is ]
    either (suc (suc more)) one is = absurd (omega (arith, one))
