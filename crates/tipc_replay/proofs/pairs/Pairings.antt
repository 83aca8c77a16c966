-- The pair of two nodes, as a world has it and as they see it.
use Rattle.std.specs.Prelude.{◌||◌, ◌==◌, if◌then◌else◌, nat_le, option_and_then, option_map, unwrap_or}
use Rattle.std.proofs.Common.{◌≡◌, ℕ, Bool, true, false, List, Option, Some, None, refl, sym, ap, ◌∙◌}
use Rattle.tipc_types.specs.Address.{node_word}
use Rattle.tipc_pair.specs.Facing.{PairEnds, alone, contact_between, facing, in_contact, is_up_at}
use Rattle.tipc_pair.proofs.Facings.{facing_far, facing_near}
use Rattle.tipc_paired.specs.Views.{Node}
use Rattle.tipc_two_nodes.specs.Sights.{pair_seen, told_in}
use Rattle.tipc_node.specs.declared.neighbours.Neighbour.{Neighbour}
use Rattle.tipc_node.specs.Nodes.{NodeState, acquaintance, neighbour_of, pair_with}
use Rattle.tipc_node.specs.Turns.{pair_in}
use Rattle.tipc_node.proofs.pairs.Strangers.{alone_near}
use Rattle.tipc_replay.specs.Numbers.{begun_of, end_on, own_in, seen_in}
use Rattle.tipc_replay.specs.Skies.{AirState}
use Rattle.tipc_replay.specs.Sound.{IsPairOf}
use Rattle.tipc_replay.specs.States.{MemberState, boot_at, contact_at, numbers_at, pair_at}
use Rattle.tipc_replay.specs.Views.{node_from, sight_at}

-- ---- the two ends of a pair that is seen from bearer 0's link

pub first_end : (x : PairEnds) → x.bearer ≡ 0 → (facing 0 x).near ≡ x.near
first_end x first = ap (λ (y : PairEnds). y.near) (facing_near 0 x first)

pub second_end : (x : PairEnds) → x.bearer ≡ 0 → (facing 1 x).near ≡ x.far
second_end x first = let apart : (x.bearer == 1) ≡ false = ap (λ n. n == 1) first in ap (λ (y : PairEnds). y.near) (facing_far 1 x apart)

-- ---- the pair that a node sees

-- what node a sees of its pair with node b
abbrev pub pair_from : ℕ → ℕ → ℕ → Option PairEnds → PairEnds
pair_from a b boot o = record {
  own = node_word a;
  peer = node_word b;
  contact = own_in boot o;
  seen = seen_in o;
  bearer = 0;
  near = end_on 0 o;
  far = end_on 1 o;
  begun = begun_of o;
}

seen_from : (a b boot : ℕ) (x : PairEnds) → IsPairOf a b x → pair_from a b boot (Some x) ≡ x
seen_from a b boot x is =
    let near = first_end x is.first in
    let far = second_end x is.first in
    λ i. record {
      own = sym is.own i;
      peer = sym is.peer i;
      contact = x.contact;
      seen = x.seen;
      bearer = sym is.first i;
      near = near i;
      far = far i;
      begun = x.begun;
    }

-- is the pair that it has, or that of a node that has no link to the peer yet
pub seen_is : (members : List (Option MemberState)) (air : AirState) (a b : ℕ) (x : PairEnds) → pair_at members a b ≡ Some x → IsPairOf a b x → pair_seen (sight_at members air a b) ≡ x
unfolding sight_at
seen_is members air a b x there is = ap (pair_from a b (boot_at members a)) there ∙ seen_from a b (boot_at members a) x is

pub seen_alone : (members : List (Option MemberState)) (air : AirState) (a b : ℕ) → pair_at members a b ≡ None → pair_seen (sight_at members air a b) ≡ alone (node_word a) (node_word b) (boot_at members a)
unfolding sight_at
seen_alone members air a b none = ap (pair_from a b (boot_at members a)) none

-- ---- what is read of a pair, where there may be none

-- of a stranger it is what a pair has on which nothing happened
pub own_read : (n : NodeState) (b : ℕ) → own_in n.boot (pair_in n b) ≡ (pair_with n b).contact
own_read n b = by (neighbour_of n b)
  where
    by : (o : Option Neighbour) → own_in n.boot (option_map (λ (x : Neighbour). x.pair) o) ≡ (acquaintance n b o).pair.contact
    by None = refl
    by (Some x) = refl

pub seen_read : (n : NodeState) (b : ℕ) → seen_in (pair_in n b) ≡ (pair_with n b).seen
seen_read n b = by (neighbour_of n b)
  where
    by : (o : Option Neighbour) → seen_in (option_map (λ (x : Neighbour). x.pair) o) ≡ (acquaintance n b o).pair.seen
    by None = refl
    by (Some x) = refl

pub begun_read : (n : NodeState) (b : ℕ) → begun_of (pair_in n b) ≡ (pair_with n b).begun
begun_read n b = by (neighbour_of n b)
  where
    by : (o : Option Neighbour) → begun_of (option_map (λ (x : Neighbour). x.pair) o) ≡ (acquaintance n b o).pair.begun
    by None = refl
    by (Some x) = refl

pub end_read : (n : NodeState) (b bearer : ℕ) → end_on bearer (pair_in n b) ≡ end_on bearer (Some (pair_with n b))
end_read n b bearer = by (neighbour_of n b)
  where
    by : (o : Option Neighbour) → end_on bearer (option_map (λ (x : Neighbour). x.pair) o) ≡ end_on bearer (Some (acquaintance n b o).pair)
    by None = elim (nat_le bearer 1) as (λ t. None ≡ (if t then (facing bearer (alone n.own (node_word b) n.boot)).near else None)) [ true ↦ sym (alone_near bearer n.own (node_word b) n.boot) | false ↦ refl ]
    by (Some x) = refl

pub contact_read : (n : NodeState) (b : ℕ) → option_and_then contact_between (pair_in n b) ≡ contact_between (pair_with n b)
contact_read n b = by (neighbour_of n b)
  where
    by : (o : Option Neighbour) → option_and_then contact_between (option_map (λ (x : Neighbour). x.pair) o) ≡ contact_between (acquaintance n b o).pair
    by None = refl
    by (Some x) = refl

-- a pair that there is is that one
pub with_in : (n : NodeState) (b : ℕ) (x : PairEnds) → pair_in n b ≡ Some x → pair_with n b ≡ x
with_in n b x = by (neighbour_of n b)
  where
    by : (o : Option Neighbour) → option_map (λ (y : Neighbour). y.pair) o ≡ Some x → (acquaintance n b o).pair ≡ x
    by None is = absurd cc
    by (Some y) is = cc

-- ---- the contact of a frame

-- the contact numbers of a node
abbrev pub numbers_of : Node → ℕ × ℕ
numbers_of n = (n.contact, n.seen)

told_from : (a b boot : ℕ) (n : Node) (o : Option PairEnds) → ((x : PairEnds) → o ≡ Some x → x.bearer ≡ 0)
    → unwrap_or (option_and_then contact_between o) (numbers_of n) ≡ numbers_of (if in_contact (pair_from a b boot o) then node_from a b boot o else n)
told_from a b boot n None first = refl
told_from a b boot n (Some x) first =
    let near = first_end x (first x refl) in
    let far = second_end x (first x refl) in
    by (in_contact x) ∙ ap (λ t. numbers_of (if t then node_from a b boot (Some x) else n)) (λ i. is_up_at (sym near i) || is_up_at (sym far i))
  where
    by : (t : Bool) → unwrap_or (if t then Some (x.contact, x.seen) else None) (numbers_of n) ≡ numbers_of (if t then node_from a b boot (Some x) else n)
    by true = refl
    by false = refl

-- it is the contact before the event, or else the numbers after it
pub told_as : (members members' : List (Option MemberState)) (air air' : AirState) (a b : ℕ) → ((x : PairEnds) → pair_at members a b ≡ Some x → x.bearer ≡ 0)
    → unwrap_or (contact_at members a b) (numbers_at members' a b)
    ≡ numbers_of (told_in (sight_at members air a b) (sight_at members' air' a b))
unfolding sight_at contact_at
told_as members members' air air' a b first = told_from a b (boot_at members a) (node_from a b (boot_at members' a) (pair_at members' a b)) (pair_at members a b) first
