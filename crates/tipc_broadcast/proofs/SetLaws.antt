-- The bits of a member set.
use Rattle.std.proofs.Common.{◌≡◌, ℕ, ◌-◌, ◌^◌, ◌<◌, ◌==◌, Bool, true, false, cond, if◌then◌else◌, List, [], ◌∷◌, max, fold, Some, is_some, refl, sym, ap, ◌∙◌, eqb-true, arith}
use Rattle.std.specs.Prelude.{All}
use Rattle.std.specs.List.{find}
use Rattle.std.specs.Int.{bit_at}
use Rattle.std.specs.Int.Bits.{bit_or}
use Rattle.std.proofs.lemmas.Bool.Decides.{nat_tests}
use Rattle.std.proofs.lemmas.List.Elements.{All-head, All-tail}
use Rattle.std.proofs.lemmas.Nat.{or_of_32, pow_below}
use Rattle.std.proofs.lemmas.Nat.Bits.{bit_at-lt, bit_at-pow_other, bit_at-pow_same, bit_at-zero, bit_at_or}
use Rattle.tipc_types.specs.Address.{IsNodeWord}
use Rattle.tipc_broadcast.specs.declared.contacts.Contact.{Contact}
use Rattle.tipc_broadcast.specs.Contacts.{bit_of, has_joined, is_member, is_with, member_set}

abbrev as_bit : Bool → ℕ
as_bit b = if b then 1 else 0

abbrev joining : ℕ → List Contact → ℕ
joining set cs = fold (λ set c. bit_or set (bit_of c.peer.word)) set cs

-- the bit of one peer
bit-of : (node peer : ℕ) → IsNodeWord node → IsNodeWord peer → bit_at (bit_of peer) (node - 16781313) ≡ as_bit (peer == node)
bit-of node peer here there =
    elim (peer == node) as (λ b. (peer == node) ≡ b → bit_at (bit_of peer) (node - 16781313) ≡ as_bit b) [
      | true ↦ λ e. let same : peer ≡ node = eqb-true peer node e in ap (λ n. bit_at (bit_of peer) (n - 16781313)) (sym same) ∙ bit_at-pow_same (peer - 16781313)
      | false ↦ λ e.
          let low = here.0 in
          let from = there.0 in
          bit_at-pow_other (peer - 16781313) (node - 16781313) (λ i.
          let same : peer ≡ node = omega arith in
          let t : (peer == node) ≡ true = grind (arith, nat_tests) in
          let clash : true ≡ false = sym t ∙ e in
          cc)
    ] refl

bits_are : (node set : ℕ) (cs : List Contact) → IsNodeWord node → All (λ c. IsNodeWord c.peer.word) cs
    → bit_at (joining set cs) (node - 16781313) ≡ max (bit_at set (node - 16781313)) (as_bit (has_joined node cs))
bits_are node set [] here all = omega arith
bits_are node set (c ∷ cs) here all =
    let P : Contact → Type 0 = λ d. IsNodeWord d.peer.word in
    let i = node - 16781313 in
    let more = bits_are node (bit_or set (bit_of c.peer.word)) cs here (All-tail P c cs all) in
    let both = bit_at_or set (bit_of c.peer.word) i in
    let own = bit-of node c.peer.word here (All-head P c cs all) in
    let old = bit_at-lt set i in
    more ∙ ap (λ b. max b (as_bit (has_joined node cs))) (both ∙ ap (max (bit_at set i)) own)
    ∙ elim (is_with node c) as (λ b. max (max (bit_at set i) (as_bit b)) (as_bit (has_joined node cs)) ≡ max (bit_at set i) (as_bit (is_some (cond b (Some c) (find (is_with node) cs))))) [
      | true ↦
          elim (has_joined node cs) as (λ b. max (max (bit_at set i) 1) (as_bit b) ≡ max (bit_at set i) 1) [
            | true ↦ omega arith
            | false ↦ omega arith
          ]
      | false ↦ omega arith
    ]

-- a set has 32 bits
bit_below : (word : ℕ) → IsNodeWord word → bit_of word < 2 ^ 32
bit_below word is = pow_below (word - 16781313) 32 (let high = is.1 in omega arith)

joining_below : (set : ℕ) (cs : List Contact) → set < 2 ^ 32 → All (λ c. IsNodeWord c.peer.word) cs → joining set cs < 2 ^ 32
joining_below set [] low all = low
joining_below set (c ∷ cs) low all =
    let P : Contact → Type 0 = λ d. IsNodeWord d.peer.word in
    joining_below (bit_or set (bit_of c.peer.word)) cs (or_of_32 set (bit_of c.peer.word) low (bit_below c.peer.word (All-head P c cs all))) (All-tail P c cs all)

pub sets_have_32_bits : (cs : List Contact) → All (λ c. IsNodeWord c.peer.word) cs → member_set cs < 2 ^ 32
unfolding member_set
sets_have_32_bits cs all = joining_below 0 cs (omega arith) all

pub sets_tell_members : (cs : List Contact) (node : ℕ) → IsNodeWord node → All (λ c. IsNodeWord c.peer.word) cs → is_member node (member_set cs) ≡ has_joined node cs
unfolding member_set
sets_tell_members cs node here all =
    let zero-bit = bit_at-zero (node - 16781313) in
    let bit : bit_at (joining 0 cs) (node - 16781313) ≡ as_bit (has_joined node cs) = bits_are node 0 cs here all ∙ ap (λ b. max b (as_bit (has_joined node cs))) zero-bit ∙ omega arith in
    ap (λ b. b == 1) bit ∙ elim (has_joined node cs) as (λ b. (as_bit b == 1) ≡ b) [ true ↦ refl | false ↦ refl ]
