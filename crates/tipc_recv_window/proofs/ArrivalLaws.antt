use Rattle.std.proofs.Common.{◌≡◌, ℕ, ◌+◌, ◌-◌, ◌<◌, ◌≤◌, ◌&&◌, Option, Some, None, is_some, refl, sym, ◌∙◌, ap, inl, inr, arith, nat_lt, not, nat_eq, if◌then◌else◌}
use Rattle.std.proofs.lemmas.Bool.{cases_lt}
use Rattle.std.proofs.lemmas.Bool.Decides.{nat_tests}
use Rattle.tipc_types.specs.Position.{number_of}
use Rattle.tipc_types.specs.declared.packet_lists.Taken.{Taken}
use Rattle.tipc_types.proofs.PositionLaws.{distance_of-ahead, distance_of-behind}
use Rattle.tipc_recv_window.specs.declared.outcomes.Place.{Place}
use Rattle.tipc_recv_window.specs.declared.outcomes.Place.TheVariants.{InOrder, Deferred, Old}
use Rattle.tipc_recv_window.specs.Receiving.{arrived_at, held_at, past_wanted, place_at, Receiving}
use Rattle.tipc_recv_window.specs.Laws.{AnswersByPosition, ArrivesByPosition}

-- how far a position ahead lies past the wanted one
pub past_wanted-ahead : (r : Receiving) (wanted position : ℕ)
    → number_of wanted ≡ number_of r.wanted → wanted ≤ position → position ≤ wanted + 32000
    → past_wanted r (number_of position) ≡ position - wanted
past_wanted-ahead r wanted position same from near = rw (← same) (distance_of-ahead wanted position from (omega arith))

-- a position behind the wanted one lies far ahead of it, going round
pub past_wanted-behind : (r : Receiving) (wanted position : ℕ)
    → number_of wanted ≡ number_of r.wanted → position < wanted → wanted ≤ position + 32000
    → 50 ≤ past_wanted r (number_of position)
past_wanted-behind r wanted position same before near =
    let far = distance_of-behind wanted position before (omega arith) in
    rw (← same) (omega arith)

-- what lies 50 or more past the wanted packet is old
pub place_at-far : (r : Receiving) (d : ℕ) → 50 ≤ d → place_at r d ≡ Old
place_at-far r d far = grind (arith, nat_tests)

pub arrived_at-far : (r : Receiving) (d : ℕ) (packet : Taken) → 50 ≤ d → arrived_at r d packet ≡ r
arrived_at-far r d packet far = grind (arith, nat_tests)

pub arrives : (r : Receiving) (wanted position : ℕ) (packet : Taken)
    → number_of wanted ≡ number_of r.wanted → position ≤ wanted + 32000 → wanted ≤ position + 32000
    → ArrivesByPosition r wanted position packet
arrives r wanted position packet same high low = record {
  place = λ from. ap (λ (d : ℕ). place_at r d) (past_wanted-ahead r wanted position same from high);
  after = λ from. ap (λ (d : ℕ). arrived_at r d packet) (past_wanted-ahead r wanted position same from high);
  behind = λ before. place_at-far r _ (past_wanted-behind r wanted position same before low);
  unchanged = λ before. arrived_at-far r _ packet (past_wanted-behind r wanted position same before low);
}

-- the receiving rule at a distance d, where o is held there
abbrev pub place_by : ℕ → Option Taken → Place
place_by d o = if nat_lt d 50 && not (is_some o) then (if nat_eq d 0 then InOrder else Deferred) else Old

pub in_order-distance : (d : ℕ) (o : Option Taken) → place_by d o ≡ InOrder → (d ≡ 0) × (o ≡ None)
in_order-distance d None is = (grind (arith, nat_tests), refl)
in_order-distance d (Some packet) is = absurd (grind (arith, nat_tests))

pub deferred-distance : (d : ℕ) (o : Option Taken) → place_by d o ≡ Deferred → (0 < d) × (d < 50) × (o ≡ None)
deferred-distance d None is = (grind (arith, nat_tests), grind (arith, nat_tests), refl)
deferred-distance d (Some packet) is = absurd (grind (arith, nat_tests))

-- a distance other than a whole round tells the position
pub past_wanted-position : (r : Receiving) (wanted position : ℕ)
    → number_of wanted ≡ number_of r.wanted → position ≤ wanted + 32000 → wanted ≤ position + 32000
    → past_wanted r (number_of position) < 50
    → (wanted ≤ position) × (past_wanted r (number_of position) ≡ position - wanted)
past_wanted-position r wanted position same high low near = elim (cases_lt position wanted) [
  | inl before ↦ let far = past_wanted-behind r wanted position same before low in absurd (omega arith)
  | inr from ↦ (from, past_wanted-ahead r wanted position same from high)
]

pub place_at-wanted : (r : Receiving) → held_at r 0 ≡ None → place_at r 0 ≡ InOrder
place_at-wanted r free = rw free refl

pub place_at-next : (r : Receiving) (d : ℕ) → 0 < d → d < 50 → held_at r d ≡ None → place_at r d ≡ Deferred
place_at-next r d past near free = rw free (grind (arith, nat_tests))

pub answers : (r : Receiving) (wanted position : ℕ)
    → number_of wanted ≡ number_of r.wanted → position ≤ wanted + 32000 → wanted ≤ position + 32000
    → AnswersByPosition r wanted position
answers r wanted position same high low =
    let d = past_wanted r (number_of position) in
    record {
      in_order = (
        λ is.
            let there = in_order-distance d (held_at r d) is in
            let tells = past_wanted-position r wanted position same high low (rw there.0 (omega arith)) in
            let near : position - wanted ≡ 0 = sym tells.1 ∙ there.0 in
            (omega (arith, tells.0, near), ap (λ (n : ℕ). held_at r n) (sym there.0) ∙ there.1),
        λ h.
            let past = past_wanted-ahead r wanted position same (omega (arith, h.0)) high in
            let none : position - wanted ≡ 0 = omega (arith, h.0) in
            ap (λ (n : ℕ). place_at r n) (past ∙ none) ∙ place_at-wanted r h.1,
      );
      deferred = (
        λ is.
            let there = deferred-distance d (held_at r d) is in
            let tells = past_wanted-position r wanted position same high low there.1 in
            let some : 0 < position - wanted = rw (← tells.1) there.0 in
            let near : position - wanted < 50 = rw (← tells.1) there.1 in
            (omega arith, omega (arith, tells.0), ap (λ (n : ℕ). held_at r n) (sym tells.1) ∙ there.2),
        λ h.
            let past = past_wanted-ahead r wanted position same (omega (arith, h.0)) high in
            ap (λ (n : ℕ). place_at r n) past
            ∙ place_at-next r (position - wanted) (omega (arith, h.0)) (omega (arith, h.0, h.1)) h.2,
      );
    }
