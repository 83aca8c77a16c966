-- A numbered packet of the peer arrives at the receive window of a session.
use Rattle.std.proofs.Common.{◌≡◌, ℕ, zero, suc, inl, inr, length-drop, ◌+◌, ◌-◌, ◌<◌, ◌≤◌, true, false, if◌then◌else◌, List, [], ◌∷◌, Option, Some, None, length, take, drop, slice_get, slice_index_or, refl, sym, ap, ◌∙◌, subst, arith}
use Rattle.std.proofs.lemmas.Bool.{cases_eq, cases_lt}
use Rattle.std.proofs.lemmas.Bool.Decides.{nat_tests}
use Rattle.std.proofs.lemmas.Option.{slice_get_within}
use Rattle.tipc_types.specs.declared.packet_lists.Taken.{Taken}
use Rattle.tipc_link.specs.Direction.{IsCarried, IsReceiver}
use Rattle.tipc_types.specs.Position.{number_of}
use Rattle.tipc_recv_window.specs.Receiving.{Receiving, arrived_at, filled, is_new, past_wanted, run_of}
use Rattle.tipc_recv_window.proofs.ArrivalLaws.{arrives}
use Rattle.tipc_recv_window.proofs.Holding.{filled-other, filled-same, length-filled}
use Rattle.tipc_link.specs.Sessions.{SessionEnd, due_with, receiving, took, window_with}
use Rattle.tipc_link.proofs.Standing.{arrived_early, standing_either}
use Rattle.tipc_link.specs.Parts.{packets_in}

-- what a session makes of a packet, against the packets that were numbered
pub record IsReceived (s : SessionEnd) (t : Taken) (line : List (List ℕ)) : Type 0 where
  pub receiver : IsReceiver (took s t).held (took s t).taken line
  pub front : take (length (due_with s t)) (drop s.taken line) ≡ packets_in (due_with s t)
  pub within : (took s t).taken ≤ length line

-- packets that are held, the first of them at a place of the line
abbrev Holds : List (Option Taken) → ℕ → List (List ℕ) → Type 0
Holds held from line = (d : ℕ) (t : Taken) → slice_index_or held d None ≡ Some t → slice_get line (from + d) ≡ Some t.packet

-- what stands at a place stands first behind those before it
stands_first : (line : List (List ℕ)) (n : ℕ) (x : List ℕ) → slice_get line n ≡ Some x → drop n line ≡ x ∷ drop (suc n) line
stands_first [] n x is = absurd (let none : ⊥ = cc in none)
stands_first (l ∷ line) zero x is = (let same : l ≡ x = cc in ap (λ y. y ∷ line) same)
stands_first (l ∷ line) (suc n) x is = stands_first line n x is

-- packets that are held one behind the other stand so in the line
pub record IsRun (held : List (Option Taken)) (from : ℕ) (line : List (List ℕ)) : Type 0 where
  pub front : take (length (run_of held)) (drop from line) ≡ packets_in (run_of held)
  pub within : from + length (run_of held) ≤ length line
  pub wants : slice_index_or (drop (length (run_of held)) held) 0 None ≡ None
  pub holds : Holds (drop (length (run_of held)) held) (from + length (run_of held)) line

run_in : (held : List (Option Taken)) (from : ℕ) (line : List (List ℕ)) → from ≤ length line → Holds held from line → IsRun held from line
run_in [] from line within h = record {
  front = refl;
  within = omega arith;
  wants = refl;
  holds = λ d t is. absurd (let none : ⊥ = cc in none);
}
run_in (None ∷ held) from line within h = record {
  front = refl;
  within = omega arith;
  wants = refl;
  holds = λ d t is. subst (λ n. slice_get line (n + d) ≡ Some t.packet) (let same : from ≡ from + 0 = omega arith in same) (h d t is);
}
run_in (Some packet ∷ held) from line within h =
    let first : slice_get line from ≡ Some packet.packet = subst (λ n. slice_get line n ≡ Some packet.packet) (let same : from + 0 ≡ from = omega arith in same) (h 0 packet refl) in
    let at = slice_get_within line from packet.packet first in
    let later : Holds held (suc from) line = λ d t is. subst (λ n. slice_get line n ≡ Some t.packet) (let same : from + suc d ≡ suc from + d = omega arith in same) (h (suc d) t is) in
    let rest = run_in held (suc from) line (omega arith) later in
    let more = rest.within in
    record {
      front = ap (λ xs. take (suc (length (run_of held))) xs) (stands_first line from packet.packet first) ∙ ap (λ xs. packet.packet ∷ xs) rest.front;
      within = omega arith;
      wants = rest.wants;
      holds = λ d t is. subst (λ n. slice_get line (n + d) ≡ Some t.packet) (let same : suc from + length (run_of held) ≡ from + suc (length (run_of held)) = omega arith in same) (rest.holds d t is);
    }

-- ---- the window with a packet at a distance

length-drop-most : {A : Type 0} (n : ℕ) (xs : List A) → length (drop n xs) ≤ length xs
length-drop-most {A} n xs = let long = length-drop n xs in omega arith

new_near : (r : Receiving) (d : ℕ) → is_new r d ≡ true → d < 50
new_near r d new = grind (arith, nat_tests)

filled_holds : (held : List (Option Taken)) (d from : ℕ) (t : Taken) (line : List (List ℕ)) → Holds held from line → slice_get line (from + d) ≡ Some t.packet → Holds (filled held d t) from line
filled_holds held d from t line h stands k u is =
    elim (cases_eq k d) [
      | inl same ↦
          let found : slice_index_or (filled held d t) k None ≡ Some t = ap (λ i. slice_index_or (filled held d t) i None) same ∙ filled-same held d t in
          let one : t ≡ u = cc in
          subst (λ (v : Taken). slice_get line (from + k) ≡ Some v.packet) one (ap (λ i. slice_get line (from + i)) same ∙ stands)
      | inr other ↦ h k u (sym (filled-other held d k t other) ∙ is)
    ]

-- it is held at its place, or was old
arrived_holds : (r : Receiving) (d from : ℕ) (t : Taken) (line : List (List ℕ)) → length r.held ≤ 50 → Holds r.held from line → slice_get line (from + d) ≡ Some t.packet → (length (arrived_at r d t).held ≤ 50) × Holds (arrived_at r d t).held from line
arrived_holds r d from t line window h stands =
    elim (is_new r d) as (λ b. is_new r d ≡ b → (length (if b then record { wanted = r.wanted; held = filled r.held d t } else r).held ≤ 50) × Holds (if b then record { wanted = r.wanted; held = filled r.held d t } else r).held from line) [
      | true ↦ λ new. (
          let long = length-filled r.held d t in
          let near : d < 50 = new_near r d new in
          (omega (arith, long, near, window), filled_holds r.held d from t line h stands))
      | false ↦ λ old. (window, h)
    ] refl

-- a packet that is old changes nothing; another is held, and what can be taken is taken
received_held : (s : SessionEnd) (t : Taken) (line : List (List ℕ)) (w : Receiving) → window_with s t ≡ w → s.taken ≤ length line → length w.held ≤ 50 → Holds w.held s.taken line → IsReceived s t line
unfolding due_with
received_held s t line w is within window h =
    let here : Holds (window_with s t).held s.taken line = subst (λ (r : Receiving). Holds r.held s.taken line) (sym is) h in
    let short : length (window_with s t).held ≤ 50 = subst (λ (r : Receiving). length r.held ≤ 50) (sym is) window in
    let run = run_in (window_with s t).held s.taken line within here in
    let less = length-drop-most (length (run_of (window_with s t).held)) (window_with s t).held in
    record {
      receiver = record { window = omega arith; wants = run.wants; holds = run.holds };
      front = run.front;
      within = run.within;
    }

pub received : (s : SessionEnd) (t : Taken) (line : List (List ℕ)) (numbered : ℕ) → IsReceiver s.held s.taken line → s.taken ≤ length line → (c : IsCarried line numbered t.number t.packet) → c.position ≤ s.taken + 32001 → s.taken + 1 ≤ c.position + 32000
    → IsReceived s t line
received s t line numbered h within c high low =
    let r = receiving s in
    let by = arrives r (s.taken + 1) c.position t refl (omega arith) (omega arith) in
    elim (standing_either r t) [
      | inl early ↦ received_held s t line r (arrived_early r t early) within h.window h.holds
      | inr plain ↦
          let number : window_with s t ≡ arrived_at r (past_wanted r (number_of c.position)) t = ap (λ d. arrived_at r d t) plain ∙ ap (λ n. arrived_at r (past_wanted r n) t) c.number_is in
          elim (cases_lt c.position (s.taken + 1)) [
            | inl before ↦ received_held s t line r (number ∙ by.unchanged before) within h.window h.holds
            | inr from ↦
                let place : s.taken + (c.position - (s.taken + 1)) ≡ c.position - 1 = omega arith in
                let stands : slice_get line (s.taken + (c.position - (s.taken + 1))) ≡ Some t.packet = ap (λ i. slice_get line i) place ∙ c.packet_is in
                let held = arrived_holds r (c.position - (s.taken + 1)) s.taken t line h.window h.holds stands in
                received_held s t line (arrived_at r (c.position - (s.taken + 1)) t) (number ∙ by.after from) within held.0 held.1
          ]
    ]

-- ---- packets that free none
