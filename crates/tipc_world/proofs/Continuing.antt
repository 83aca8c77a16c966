-- Worlds that grow and go on, one after the other.
use Rattle.std.proofs.Common.{◌≡◌, ℕ, ◌≤◌, length, refl, sym, subst, ◌∙◌, arith}
use Rattle.tipc_world.specs.declared.places.Places.{Places}
use Rattle.tipc_world.specs.Courses.{Continues}
use Rattle.tipc_world.specs.Ends.{ends_of, AreBefore}
use Rattle.tipc_world.specs.Growth.{Grows}
use Rattle.tipc_replay.specs.Skies.{air_on}
use Rattle.tipc_replay.specs.States.{history_at}
use Rattle.tipc_world.specs.States.{WorldState, WorldView}
use Rattle.tipc_paired.proofs.wires.Wires.{prefix_same, prefix_trans as prefix_more, prefix_long as prefix_longer}

pub grows_same : (w : WorldState) → Grows w w
grows_same w = record { air = λ bearer. prefix_same (air_on bearer w.air); histories = λ n. prefix_same (history_at w.members n) }

pub grows_equal : (old new : WorldState) → new ≡ old → Grows old new
grows_equal old new same = subst (λ w. Grows old w) (sym same) (grows_same old)

pub grows_more : (a b c : WorldState) → Grows a b → Grows b c → Grows a c
grows_more a b c p q = record {
  air = λ bearer. prefix_more (air_on bearer a.air) (air_on bearer b.air) (air_on bearer c.air) (p.air bearer) (q.air bearer);
  histories = λ n. prefix_more (history_at a.members n) (history_at b.members n) (history_at c.members n) (p.histories n) (q.histories n);
}

pub longer : (a b : WorldState) → Grows a b → (bearer : ℕ) → length (air_on bearer a.air) ≤ length (air_on bearer b.air)
longer a b p bearer = prefix_longer (air_on bearer a.air) (air_on bearer b.air) (p.air bearer)

-- places that aren't behind the ends of an air aren't behind those of a later one
pub before_longer : (places : Places) (a b : WorldState) → Grows a b → AreBefore places (ends_of a.air) → AreBefore places (ends_of b.air)
before_longer places a b grown before =
    let first : length a.air.first ≤ length b.air.first = longer a b grown 0 in
    let second : length a.air.second ≤ length b.air.second = longer a b grown 1 in
    (omega (arith, first, before.0), omega (arith, second, before.1))

pub continues_same : {P : Type 0} {gives : P → ℕ → ℕ → ℕ → Type 0} (w : WorldView P) → Continues gives w w
continues_same w = record { nodes = λ n. refl; grown = grows_same w.state; good = λ good. good }

pub continues_more : {P : Type 0} {gives : P → ℕ → ℕ → ℕ → Type 0} (a b c : WorldView P) → Continues gives a b → Continues gives b c → Continues gives a c
continues_more a b c p q = record {
  nodes = λ n. q.nodes n ∙ p.nodes n;
  grown = grows_more a.state b.state c.state p.grown q.grown;
  good = λ good. q.good (p.good good);
}
