-- Fields of a word: the word is made of them.
use Rattle.std.proofs.Common.{◌≡◌, ℕ, ◌+◌, ◌*◌, ◌/◌, ◌%◌, ◌^◌, ◌<◌, Bool, true, false, refl, arith}
use Rattle.std.specs.Prelude.{◌==◌}
use Rattle.std.proofs.lemmas.Bool.Decides.{nat_tests}
use Rattle.tipc_header.specs.Spelling.{bit, from_bit}
use Rattle.tipc_header.specs.Reading.{bits}

pub word_0-joined : (w user words non_sequenced destination source size : ℕ) → w < 2 ^ 32
    → bits 31 29 w ≡ 2 → bits 28 25 w ≡ user → bits 24 21 w ≡ words → bits 20 20 w ≡ non_sequenced → bits 19 19 w ≡ destination → bits 18 18 w ≡ source → bits 17 17 w ≡ 0 → bits 16 0 w ≡ size
    → from_bit 29 2 + from_bit 25 user + from_bit 21 words + from_bit 20 non_sequenced + from_bit 19 destination + from_bit 18 source + size ≡ w
word_0-joined w user words non_sequenced destination source size lt e0 e1 e2 e3 e4 e5 e6 e7 = omega arith

pub payload-joined : (w t : ℕ) → w < 2 ^ 32 → bits 31 29 w ≡ t → bits 18 16 w ≡ 0
    → from_bit 29 t + (from_bit 25 (bits 28 25 w) + from_bit 21 (bits 24 21 w) + from_bit 19 (bits 20 19 w) + bits 15 0 w) ≡ w
payload-joined w t lt e0 e1 = omega arith

pub type-joined : (w t : ℕ) → w < 2 ^ 32 → bits 31 29 w ≡ t → bits 28 0 w ≡ 0 → from_bit 29 t + 0 ≡ w
type-joined w t lt e0 e1 = omega arith

pub short-joined : (w t : ℕ) → w < 2 ^ 32 → bits 31 29 w ≡ t → bits 28 16 w ≡ 0 → from_bit 29 t + bits 15 0 w ≡ w
short-joined w t lt e0 e1 = omega arith

pub gap-joined : (w t : ℕ) → w < 2 ^ 32 → bits 31 29 w ≡ t → from_bit 29 t + (from_bit 16 (bits 28 16 w) + bits 15 0 w) ≡ w
gap-joined w t lt e0 = omega arith

pub halves-joined : (w : ℕ) → w < 2 ^ 32 → from_bit 16 (bits 31 16 w) + bits 15 0 w ≡ w
halves-joined w lt = omega arith

pub high-joined : (w : ℕ) → w < 2 ^ 32 → bits 15 0 w ≡ 0 → from_bit 16 (bits 31 16 w) ≡ w
high-joined w lt e = omega arith

pub low-joined : (w : ℕ) → w < 2 ^ 32 → bits 31 16 w ≡ 0 → bits 15 0 w ≡ w
low-joined w lt e = omega arith

pub bit-joined : (w : ℕ) → w < 2 ^ 32 → bits 31 1 w ≡ 0 → bits 0 0 w ≡ w
bit-joined w lt e = omega arith

pub bit-flag : (n : ℕ) → n < 2 → bit (n == 1) ≡ n
bit-flag n lt = grind (arith, nat_tests)

pub flag-bit : (b : Bool) → (bit b == 1) ≡ b
flag-bit true = refl
flag-bit false = refl

pub priority-joined : (w : ℕ) → w < 2 ^ 32 → bits 31 7 w ≡ 0 → bits 1 0 w ≡ 0 → from_bit 2 (bits 6 2 w) ≡ w
priority-joined w lt e0 e1 = omega arith

about : (w in_step probe : ℕ) → w < 2 ^ 32 → bits 31 7 w ≡ 0 → in_step ≡ bits 1 1 w → probe ≡ bits 0 0 w → from_bit 2 (bits 6 2 w) + from_bit 1 in_step + probe ≡ w
about w in_step probe lt e0 e1 e2 = omega arith

pub about-joined : (w : ℕ) → w < 2 ^ 32 → bits 31 7 w ≡ 0 → from_bit 2 (bits 6 2 w) + from_bit 1 (bit (bits 1 1 w == 1)) + bit (bits 0 0 w == 1) ≡ w
about-joined w lt e = about w _ _ lt e (bit-flag (bits 1 1 w) (omega arith)) (bit-flag (bits 0 0 w) (omega arith))

pub long-high : (v w : ℕ) → w < 2 ^ 32 → (v * 2 ^ 32 + w) / 2 ^ 32 ≡ v
long-high v w lt = omega arith

pub long-low : (v w : ℕ) → w < 2 ^ 32 → (v * 2 ^ 32 + w) % 2 ^ 32 ≡ w
long-low v w lt = omega arith

pub long-joined : (n : ℕ) → n / 2 ^ 32 * 2 ^ 32 + n % 2 ^ 32 ≡ n
long-joined n = omega arith
