use Rattle.std.proofs.Common.{◌≡◌, ℕ, ◌+◌, ◌-◌, ◌<◌, ◌≤◌, ◌^◌, List, [], ◌∷◌, length, zero, suc, refl, ◌∙◌, ap, inl, inr, arith, slice_get, Some, add-zero}
use Rattle.std.proofs.lemmas.Bool.{cases_lt}
use Rattle.std.proofs.lemmas.Bool.Decides.{nat_tests}
use Rattle.tipc_types.specs.Position.{distance_of, number_of}
use Rattle.tipc_types.proofs.PositionLaws.{distance_of-ahead, distance_of-behind, distance_of-reaches}
use Rattle.tipc_send_window.specs.Sending.{acked_of, acknowledged, IsSending, kept_after, release_count, released, Sending}
use Rattle.tipc_send_window.proofs.Keeping.{kept_at}

-- the number of a position releases the packets up to that position
pub release_count-position : (s : Sending) (position : ℕ)
    → IsSending s → position ≤ s.numbered → s.numbered ≤ position + 32000
    → release_count s (number_of position) ≡ position - acked_of s
unfolding release_count
release_count-position s position h high low =
    let window = h.window in
    let begun = h.numbered in
    elim (cases_lt position (acked_of s)) [
      | inl before ↦
          let far = distance_of-behind (acked_of s) position before (omega arith) in
          grind (arith, nat_tests)
      | inr from ↦
          let near = distance_of-ahead (acked_of s) position from (omega arith) in
          rw near (grind (arith, nat_tests))
    ]

pub acknowledged-position : (s : Sending) (position : ℕ)
    → IsSending s → position ≤ s.numbered → s.numbered ≤ position + 32000
    → acknowledged s (number_of position) ≡ released s (position - acked_of s)
acknowledged-position s position h high low =
    ap (λ (n : ℕ). released s n) (release_count-position s position h high low)

-- a number that no unacknowledged packet has releases none
pub release_count-other : (s : Sending) (number : ℕ)
    → IsSending s → number < 2 ^ 16
    → ((position : ℕ) → acked_of s < position → position ≤ s.numbered → number_of position ≡ number → ⊥)
    → release_count s number ≡ 0
unfolding release_count
release_count-other s number h fits none =
    let begun = h.numbered in
    let past = distance_of (number_of (acked_of s)) number in
    let reaches : number_of (acked_of s + past) ≡ number = distance_of-reaches (acked_of s) number fits in
    elim (cases_lt 0 past) [
      | inr same ↦ grind (arith, nat_tests)
      | inl some ↦ elim (cases_lt (length s.unacked) past) [
        | inl far ↦ grind (arith, nat_tests)
        | inr near ↦ absurd (none (acked_of s + past) (omega arith) (omega arith) reaches)
      ]
    ]

pub acknowledged-other : (s : Sending) (number : ℕ)
    → IsSending s → number < 2 ^ 16
    → ((position : ℕ) → acked_of s < position → position ≤ s.numbered → number_of position ≡ number → ⊥)
    → acknowledged s number ≡ s
acknowledged-other s number h fits none = rw (release_count-other s number h fits none) refl

-- packets beside their numbers, one at a time
pub kept_after-at : (before : ℕ) (packets : List (List ℕ)) (i : ℕ) (packet : List ℕ)
    → slice_get packets i ≡ Some packet
    → slice_get (kept_after before packets) i ≡ Some (kept_at (before + i + 1) packet)
kept_after-at before [] i packet is = cc
kept_after-at before (first ∷ packets) zero packet is = rw add-zero (cc)
kept_after-at before (first ∷ packets) (suc i) packet is =
    let place : before + 1 + i + 1 ≡ before + suc i + 1 = omega arith in
    kept_after-at (before + 1) packets i packet is ∙ ap (λ (n : ℕ). Some (kept_at n packet)) place
