-- The calls of a pair at the link of a bearer, with all that follows.
use Rattle.std.proofs.Common.{◌≡◌, ◌≤◌, ◌⊎◌, ℕ, true, if◌then◌else◌, Option, Some, None, sym, ap, ◌∙◌, subst, inl, inr, arith}
use Rattle.std.proofs.lemmas.Bool.{cases_Bool}
use Rattle.tipc_link.specs.Links.{LinkEnd}
use Rattle.tipc_link.specs.Sessions.{moving}
use Rattle.tipc_pair.specs.Facing.{PairEnds, active, active_of, facing, is_up_at}
use Rattle.tipc_two_nodes.proofs.deeds.Calls.{puts_takes}
use Rattle.tipc_two_nodes.proofs.deeds.Pairs.{of_facing}
use Rattle.tipc_pair.proofs.turns.PairKept.{facing_bearer}
use Rattle.tipc_two_nodes.specs.deeds.Laws.{SendsAreDeeds}
use Rattle.tipc_two_nodes.specs.deeds.PairDeeds.{Did, IsOfPair, more_at, none_more}

-- the active link is up
active_up : (first second : Option LinkEnd) (b : ℕ) → active_of first second ≡ Some b → ((b ≡ 0) × (is_up_at first ≡ true)) ⊎ ((b ≡ 1) × (is_up_at second ≡ true))
active_up first second b is = elim (cases_Bool (is_up_at first)) [
  | inl up ↦ inl (same_number b 0 (sym is ∙ ap (λ t. if t then Some 0 else (if is_up_at second then Some 1 else None)) up), up)
  | inr down ↦ elim (cases_Bool (is_up_at second)) [
    | inl up ↦ inr (same_number b 1 (sym is ∙ ap (λ t. if t then Some 0 else (if is_up_at second then Some 1 else None)) down ∙ ap (λ t. if t then Some 1 else None) up), up)
    | inr none ↦ absurd (let wrong : ◌≡◌ {A = Option ℕ} (Some b) None = sym is ∙ ap (λ t. if t then Some 0 else (if is_up_at second then Some 1 else None)) down ∙ ap (λ t. if t then Some 1 else None) none in let never : ⊥ = cc in never)
  ]
]
  where
    same_number : (b c : ℕ) → ◌≡◌ {A = Option ℕ} (Some b) (Some c) → b ≡ c
    same_number b c is = cc

-- it has one of the two bearers
record IsActive (x : PairEnds) (b : ℕ) : Type 0 where
  two : b ≤ 1
  up : is_up_at (facing b x).near ≡ true

active_at : (x : PairEnds) (b : ℕ) → active x ≡ Some b → IsActive x b
active_at x b is = elim (active_up (facing 0 x).near (facing 1 x).near b is) [
  | inl first ↦ (let at = first.0 in record { two = omega arith; up = ap (λ k. is_up_at (facing k x).near) first.0 ∙ first.1 })
  | inr second ↦ (let at = second.0 in record { two = omega arith; up = ap (λ k. is_up_at (facing k x).near) second.0 ∙ second.1 })
]

pub sends : SendsAreDeeds
sends v y x x' pieces limit frames h pair s packets =
    let z = facing s.bearer x in
    let at = active_at x s.bearer s.active_is in
    let m = puts_takes v y z s.near pieces frames h (of_facing v s.bearer x pair) at.up s.puts packets in
    let bearer = facing_bearer s.bearer x at.two pair.two_bearers in (
      m.0,
      subst (λ b. Did v y m.0 frames (more_at b s.puts.session.epoch (moving s.puts.put)) none_more) bearer m.1,
      subst (IsOfPair m.0) (sym s.after) (of_facing m.0 x.bearer s.near m.2),
    )
