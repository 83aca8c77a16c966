-- Stillness may begin in a poised world, and in one in which no link is up: no contact number or epoch is a boot's
-- last.
use Rattle.std.specs.Prelude.{◌<◌, ◌==◌, if◌then◌else◌, nat_le, IfSome, option_map}
use Rattle.std.proofs.Common.{◌≡◌, ◌≢◌, ◌≤◌, ◌%◌, ◌∙◌, ℕ, Bool, true, false, Option, Some, None, slice_index_or, is_some, inl, inr, refl, sym, ap, subst, arith}
use Rattle.std.proofs.lemmas.Bool.{leb-true, ne_eqb, true≢false}
use Rattle.tipc_contact.specs.Sides.{first_number}
use Rattle.tipc_link_fsm.specs.Table.{is_last}
use Rattle.tipc_link.specs.Links.{LinkEnd}
use Rattle.tipc_pair.specs.Facing.{PairEnds, facing, is_up_at, turned}
use Rattle.tipc_node.specs.declared.neighbours.Neighbour.{Neighbour}
use Rattle.tipc_node.specs.Nodes.{NodeState, acquaintance, neighbour_of, pair_with}
use Rattle.tipc_node.specs.Numbers.{IsLow, lower_half}
use Rattle.tipc_node.specs.Turns.{pair_in}
use Rattle.tipc_node.proofs.pairs.Numbers.{numbers_low}
use Rattle.tipc_settling.specs.Beginnings.{AreUpWithPresent, HasMoreEpochs}
use Rattle.tipc_replay.specs.Numbers.{end_on, own_in}
use Rattle.tipc_replay.specs.States.{MemberState, boot_at, has_member, link_at, pair_at}
use Rattle.tipc_replay.specs.Views.{sight_at}
use Rattle.tipc_replay.proofs.LookUps.{member_at-is, pair_at-is}
use Rattle.tipc_replay.proofs.SoundWorlds.{absent_pair}
use Rattle.tipc_replay.proofs.calls.Outcomes.{some_is}
use Rattle.tipc_world.specs.Poised.{IsDownWorld, IsPoised, LinkStands}
use Rattle.tipc_world.specs.RoundParts.{IsKept}
use Rattle.tipc_world.specs.States.{WorldState}
use Rattle.tipc_world.specs.StillWorlds.{MayBeStill}

-- ---- counts that are low

low_goes_on : (number : ℕ) → lower_half number < 4000000000 → is_last number ≡ false
unfolding is_last
low_goes_on number low = ne_eqb (number % 4294967296) 4294967295 (λ same. omega (arith, low, same))

first_goes_on : (boot : ℕ) → is_last (first_number boot) ≡ false
first_goes_on boot = low_goes_on (first_number boot) (omega arith)

-- what holds of both ends of a pair holds of the one on a bearer
pub on_both : (P : LinkEnd → Type 0) (x : PairEnds) (bearer : ℕ) → IfSome x.near P → IfSome x.far P → IfSome (facing bearer x).near P
unfolding facing
on_both P x bearer near far = by (x.bearer == bearer)
  where
    by : (t : Bool) → IfSome (if t then x else turned x).near P
    by true = near
    by false = far

pub its_end : (P : LinkEnd → Type 0) (o : Option LinkEnd) (e : LinkEnd) → o ≡ Some e → IfSome o P → P e
its_end P o e is h = subst (λ k. IfSome k P) is h

-- an end that is found is one of a pair's
end_low : (bearer : ℕ) (o : Option PairEnds) (e : LinkEnd) → end_on bearer o ≡ Some e → ((x : PairEnds) → o ≡ Some x → IsLow x) → is_last e.fsm.own ≡ false
end_low bearer None e is low = absurd cc
end_low bearer (Some x) e is low = by (nat_le bearer 1) is
  where
    by : (t : Bool) → (if t then (facing bearer x).near else None) ≡ Some e → is_last e.fsm.own ≡ false
    by true is =
        let counts = low x refl in
        low_goes_on e.fsm.own (its_end (λ (k : LinkEnd). lower_half k.fsm.own < 4000000000) (facing bearer x).near e is (on_both (λ (k : LinkEnd). lower_half k.fsm.own < 4000000000) x bearer counts.near counts.far))
    by false is = absurd cc

-- the counts of each node are low
pub known_pair : (n : NodeState) (b : ℕ) (x : PairEnds) → pair_in n b ≡ Some x → pair_with n b ≡ x
known_pair n b x is = by (neighbour_of n b) is
  where
    by : (o : Option Neighbour) → option_map (λ (y : Neighbour). y.pair) o ≡ Some x → (acquaintance n b o).pair ≡ x
    by None none = absurd cc
    by (Some y) some = some_is y.pair x some

pair_low : (w : WorldState) (a b : ℕ) (x : PairEnds) → IsKept w → pair_at w.members a b ≡ Some x → IsLow x
pair_low w a b x kept is = by (slice_index_or w.members a None) refl
  where
    by : (o : Option MemberState) → slice_index_or w.members a None ≡ o → IsLow x
    by None none = absurd (let wrong : None ≡ Some x = sym (absent_pair w.members a b none) ∙ is in cc)
    by (Some m) there =
        let low = numbers_low m.node (kept.nodes.ends a m there) (kept.nodes.numbers a m there) (kept.nodes.bounded a m there) in
        subst IsLow (known_pair m.node b x (sym (pair_at-is w.members a b m (member_at-is w.members a m there)) ∙ is)) (low b)

-- so there are more epochs, and more contact numbers
pub more_epochs : (w : WorldState) (a b : ℕ) → IsKept w → HasMoreEpochs (sight_at w.members w.air a b)
unfolding sight_at
more_epochs w a b kept bearer e is = end_low bearer (pair_at w.members a b) e is (λ x there. pair_low w a b x kept there)

pub more_contacts : (w : WorldState) (a b : ℕ) → IsKept w → is_last (sight_at w.members w.air a b).node.contact ≡ false
unfolding sight_at
more_contacts w a b kept = by (pair_at w.members a b) refl
  where
    by : (o : Option PairEnds) → pair_at w.members a b ≡ o → is_last (own_in (boot_at w.members a) o) ≡ false
    by None none = first_goes_on (boot_at w.members a)
    by (Some x) is = low_goes_on x.contact (pair_low w a b x kept is).contact

-- ---- links that are up

-- there are two bearers
pub end_two : (bearer : ℕ) (o : Option PairEnds) (e : LinkEnd) → end_on bearer o ≡ Some e → bearer ≤ 1
end_two bearer None e is = absurd cc
end_two bearer (Some x) e is = by (nat_le bearer 1) refl is
  where
    by : (t : Bool) → nat_le bearer 1 ≡ t → (if t then (facing bearer x).near else None) ≡ Some e → bearer ≤ 1
    by true two is = leb-true bearer 1 two
    by false two is = absurd cc

-- a node that has a link end is there, and so is its peer
pub node_there : (w : WorldState) (a b bearer : ℕ) (e : LinkEnd) → link_at w.members a b bearer ≡ Some e → has_member w.members a ≡ true
node_there w a b bearer e is = by (slice_index_or w.members a None) refl
  where
    by : (o : Option MemberState) → slice_index_or w.members a None ≡ o → is_some (slice_index_or w.members a None) ≡ true
    by None none = absurd (let wrong : None ≡ Some e = sym (ap (end_on bearer) (absent_pair w.members a b none)) ∙ is in cc)
    by (Some m) there = ap is_some there

pub peer_there : (w : WorldState) (a b bearer : ℕ) (e : LinkEnd) → IsKept w → link_at w.members a b bearer ≡ Some e → has_member w.members b ≡ true
peer_there w a b bearer e kept is = by (slice_index_or w.members b None) refl
  where
    by : (o : Option MemberState) → slice_index_or w.members b None ≡ o → is_some (slice_index_or w.members b None) ≡ true
    by None none = absurd (let wrong : None ≡ Some e = sym (ap (end_on bearer) (kept.nodes.sound.known a b (λ number. none))) ∙ is in cc)
    by (Some m) there = ap is_some there

-- a link that is up and stands is up with what the peer has
stands_present : (w : WorldState) (a b bearer : ℕ) (e : LinkEnd) → link_at w.members a b bearer ≡ Some e → LinkStands w.members a b bearer → (d : LinkEnd) × (link_at w.members b a bearer ≡ Some d) × (e.fsm.peer ≡ Some d.fsm.own)
stands_present w a b bearer e is h =
    let same : h.near ≡ e = some_is h.near e (sym h.near_is ∙ is) in
    (h.far, h.far_is, subst (λ (k : LinkEnd). k.fsm.peer ≡ Some h.far.fsm.own) same h.near_up.knows)

poised_present : (w : WorldState) (a b : ℕ) → a ≢ b → IsKept w → IsPoised w → AreUpWithPresent (sight_at w.members w.air a b) (sight_at w.members w.air b a)
unfolding sight_at
poised_present w a b apart kept poised bearer e is up =
    elim (poised a b bearer (node_there w a b bearer e is) (peer_there w a b bearer e kept is) apart (end_two bearer (pair_at w.members a b) e is)) [
      | inl stands ↦ stands_present w a b bearer e is stands
      | inr cut ↦ absurd (true≢false (sym up ∙ (sym (ap is_up_at is) ∙ cut.near)))
    ]

-- ---- where it may begin

pub poised_may_be_still : (w : WorldState) → IsKept w → IsPoised w → MayBeStill w
poised_may_be_still w kept poised a b a_is b_is apart = poised_present w a b apart kept poised

down_present : (w : WorldState) (a b : ℕ) → IsDownWorld w → AreUpWithPresent (sight_at w.members w.air a b) (sight_at w.members w.air b a)
unfolding sight_at
down_present w a b down bearer e is up = absurd (true≢false (sym up ∙ (down a b bearer e is).down))

pub down_may_be_still : (w : WorldState) → IsDownWorld w → MayBeStill w
down_may_be_still w down a b a_is b_is apart = down_present w a b down
