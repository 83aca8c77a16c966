-- What a sound world says of a node and its neighbours.
use Rattle.std.proofs.Common.{◌⊎◌, ◌≡◌, ◌≢◌, ◌^◌, ℕ, true, false, List, refl, Option, Some, None, option_map, slice_index_or, sym, ap, ◌∙◌, subst, inl, inr, arith}
use Rattle.tipc_types.specs.Address.{node_word}
use Rattle.std.specs.Prelude.{◌<◌, ◌≤◌, ◌==◌, ◌&&◌, is_some, nat_le, nat_lt, not}
use Rattle.std.proofs.lemmas.Bool.{and_parts, cases_eq, cases_lt}
use Rattle.std.proofs.lemmas.Bool.Decides.{nat_tests}
use Rattle.tipc_paired.specs.Paired.{IsNode}
use Rattle.tipc_two_nodes.specs.Sights.{AreSeen, Sight, pair_seen}
use Rattle.tipc_node.specs.declared.neighbours.Neighbour.{Neighbour}
use Rattle.tipc_outside.specs.declared.outgoing.Outgoing.{Outgoing}
use Rattle.tipc_journal.specs.Steps.{NodeStep}
use Rattle.tipc_pair.specs.Facing.{alone}
use Rattle.tipc_node.specs.Nodes.{NodeState, acquaintance, is_other, neighbour_of, pair_with}
use Rattle.tipc_node.specs.Turns.{NodeTurn}
use Rattle.tipc_replay.specs.Skies.{AirState}
use Rattle.tipc_replay.specs.Sound.{IsNumber, IsPairOf, IsSound}
use Rattle.tipc_replay.specs.States.{MemberState, member_at, pair_at}
use Rattle.tipc_replay.specs.Steps.{Stage, stage}
use Rattle.tipc_replay.specs.Views.{sight_at}
use Rattle.tipc_replay.proofs.LookUps.{boot_at-is, member_at-is, pair_at-is}
use Rattle.tipc_replay.proofs.pairs.Pairings.{seen_alone, seen_is}
use Rattle.tipc_replay.proofs.pairs.Turning.{sight_in}

-- a number is of a node, or it isn't
pub number_cases : (n : ℕ) → IsNumber n ⊎ (IsNumber n → ⊥)
number_cases n = elim (cases_lt n 1) [
  | inl low ↦ inr (λ is. let from = is.0 in omega arith)
  | inr from ↦ elim (cases_lt 32 n) [
    | inl high ↦ inr (λ is. let to = is.1 in omega arith)
    | inr to ↦ inl (omega arith, omega arith)
  ]
]

-- ---- a pair

pub pair_is : (s : Stage) (a b : ℕ) (m : MemberState) (o : Option Neighbour) → member_at s.members a ≡ Some m → neighbour_of m.node b ≡ o → pair_at s.members a b ≡ option_map (λ x. x.pair) o
pair_is s a b m o was is = pair_at-is s.members a b m was ∙ ap (option_map (λ (y : Neighbour). y.pair)) is

-- the pair with a neighbour is of the two nodes, and what the node sees
pub pair_between : (s : Stage) (a b : ℕ) (m : MemberState) (x : Neighbour) → IsSound s.members s.air → member_at s.members a ≡ Some m → neighbour_of m.node b ≡ Some x → IsPairOf a b x.pair
pair_between s a b m x sound was is = sound.between a b x.pair (pair_is s a b m (Some x) was is)

pub pair_sight : (s : Stage) (a b : ℕ) (m : MemberState) (x : Neighbour) → IsSound s.members s.air → member_at s.members a ≡ Some m → neighbour_of m.node b ≡ Some x → pair_seen (sight_in s a b) ≡ x.pair
pair_sight s a b m x sound was is = seen_is s.members s.air a b x.pair (pair_is s a b m (Some x) was is) (pair_between s a b m x sound was is)

-- so is what the node sees of a stranger
pub kept_sight : (s : Stage) (a b : ℕ) (m : MemberState) → IsSound s.members s.air → member_at s.members a ≡ Some m → m.node.own ≡ node_word a → pair_seen (sight_in s a b) ≡ pair_with m.node b
kept_sight s a b m sound was own = case (neighbour_of m.node b) refl
  where
    case : (o : Option Neighbour) → neighbour_of m.node b ≡ o → pair_seen (sight_in s a b) ≡ (acquaintance m.node b o).pair
    case None is =
        let boot = boot_at-is s.members a m was in
        seen_alone s.members s.air a b (pair_is s a b m None was is) ∙ (λ i. alone (sym own i) (node_word b) (boot i))
    case (Some y) is = pair_sight s a b m y sound was is

-- each of two nodes that talk is a node
pub seen_node : (v w : Sight) → AreSeen v w → IsNode v.node
seen_node v w h = subst IsNode h.seen_here.node h.talking.twins.paired.here.node

-- there is another number
another : (a : ℕ) → (b : ℕ) × IsNumber b × (a ≢ b)
another a = elim (cases_eq a 1) [
  | inl one ↦ (2, (omega arith, omega arith), λ same. (let wrong : ⊥ = omega (arith, one, same) in wrong))
  | inr other ↦ (1, (omega arith, omega arith), other)
]

-- the number of a boot has 32 bits
pub boot_fits : (s : Stage) (a : ℕ) (m : MemberState) → IsSound s.members s.air → slice_index_or s.members a None ≡ Some m → m.node.boot < 2 ^ 32
unfolding sight_at
boot_fits s a m sound was =
    let b = another a in
    let seen = sound.pairs a b.0 (sound.numbered a m was).0 b.1 b.2 in
    subst (λ k. k < 2 ^ 32) (boot_at-is s.members a m (member_at-is s.members a m was)) (seen_node (sight_in s a b.0) (sight_in s b.0 a) seen).boot

-- ---- all pairs of a node

-- what a node knows are other nodes
pub record IsAcquainted (members : List (Option MemberState)) (a : ℕ) : Type 0 where
  pub number : IsNumber a
  pub apart : pair_at members a a ≡ None
  pub only : (b : ℕ) → (IsNumber b → ⊥) → pair_at members a b ≡ None

pub acquainted : (members : List (Option MemberState)) (air : AirState) (a : ℕ) (m : MemberState) → IsSound members air → slice_index_or members a None ≡ Some m → IsAcquainted members a
acquainted members air a m sound was = record { number = (sound.numbered a m was).0; apart = sound.apart a; only = λ b none. sound.known a b (λ is. absurd (none is)) }

-- each neighbour of a node is another one
pub neighbour_apart : (s : Stage) (a : ℕ) (m : MemberState) → IsAcquainted s.members a → member_at s.members a ≡ Some m → (k : ℕ) (x : Neighbour) → neighbour_of m.node k ≡ Some x → IsNumber k × (k ≢ a)
neighbour_apart s a m knows was k x is =
    let pair : pair_at s.members a k ≡ Some x.pair = pair_is s a k m (Some x) was is in
    elim (number_cases k) [
      | inl number ↦ (number, λ same. let none : pair_at s.members a k ≡ None = ap (pair_at s.members a) same ∙ knows.apart in let wrong : ⊥ = cc in wrong)
      | inr other ↦ absurd (let none = knows.only k other in let wrong : ⊥ = cc in wrong)
    ]

pub neighbour_number : (members : List (Option MemberState)) (air : AirState) (a b : ℕ) (m : MemberState) → IsSound members air → slice_index_or members a None ≡ Some m → is_some (neighbour_of m.node b) ≡ true → IsNumber b × (b ≢ a)
neighbour_number members air a b m sound was there = case (neighbour_of m.node b) refl
  where
    case : (o : Option Neighbour) → neighbour_of m.node b ≡ o → IsNumber b × (b ≢ a)
    case None alone = absurd (let wrong : true ≡ false = sym there ∙ ap is_some alone in cc)
    case (Some x) is = neighbour_apart (stage members air) a m (acquainted members air a m sound was) (member_at-is members a m was) b x is

-- one of the 32 nodes that isn't node a
pub other_number : (a b : ℕ) → is_other (node_word a) (node_word b) ≡ true → IsNumber b × (b ≢ a)
unfolding is_other
other_number a b is =
    let first = and_parts (nat_lt (node_word 0) (node_word b)) (nat_le (node_word b) (node_word 32) && not (node_word b == node_word a)) is in
    let second = and_parts (nat_le (node_word b) (node_word 32)) (not (node_word b == node_word a)) first.1 in
    let above : nat_lt (node_word 0) (node_word b) ≡ true = first.0 in
    let below : nat_le (node_word b) (node_word 32) ≡ true = second.0 in
    let low : node_word 0 < node_word b = grind (arith, nat_tests, above) in
    let high : node_word b ≤ node_word 32 = grind (arith, nat_tests, below) in
    ((omega (arith, low), omega (arith, high)), λ same. absurd (let wrong : not (node_word a == node_word a) ≡ true = ap (λ k. not (node_word k == node_word a)) (sym same) ∙ second.1 in isnt a wrong))
  where
    isnt : (k : ℕ) → not (node_word k == node_word k) ≡ true → ⊥
    isnt k wrong = (let itself : (node_word k == node_word k) ≡ true = grind (arith, nat_tests) in let no : false ≡ true = ap not (sym itself) ∙ wrong in cc)

-- also after a turn
pub after_number : (members : List (Option MemberState)) (air : AirState) (a b : ℕ) (m : MemberState) (n' : NodeState) (bytes : List ℕ) (s : NodeStep) (frames : List Outgoing) → IsSound members air → slice_index_or members a None ≡ Some m
    → NodeTurn m.node n' bytes s frames → is_some (neighbour_of n' b) ≡ true → IsNumber b × (b ≢ a)
after_number members air a b m n' bytes s frames sound was t there = case (neighbour_of m.node b) refl
  where
    case : (o : Option Neighbour) → neighbour_of m.node b ≡ o → IsNumber b × (b ≢ a)
    case None none = elim (t.stays b none) [
      | inl alone ↦ absurd (let wrong : true ≡ false = sym there ∙ ap is_some alone in cc)
      | inr made ↦ other_number a b (ap (λ own. is_other own (node_word b)) (sym (sound.numbered a m was).1) ∙ made.1)
    ]
    case (Some x) is = neighbour_number members air a b m sound was (ap is_some is)
