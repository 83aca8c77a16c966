-- What callers rest on: decoding and spelling undo each other.
use Rattle.std.proofs.Common.{◌≡◌, ℕ, ◌+◌, ◌<◌, ◌≤◌, ◌^◌, true, List, [], ◌∷◌, ◌++◌, length, take, drop, Some, None, refl, sym, ap, subst, ◌∙◌, append_assoc, arith}
use Rattle.std.specs.Prelude.{◌&&◌, ◌||◌, nat_le, nat_lt, ◌==◌}
use Rattle.std.proofs.lemmas.Bool.{leb-true, eqb-true}
use Rattle.std.proofs.lemmas.List.{take_at, drop_at, length-append}
use Rattle.std.proofs.lemmas.List.Concat.{flat_map-cons}
use Rattle.tipc_header.specs.declared.fault.HeaderFault.{HeaderFault}
use Rattle.tipc_header.specs.declared.packet.Header.{Header}
use Rattle.tipc_header.specs.declared.packet.Header.TheVariants as header
use Rattle.tipc_header.specs.declared.packet.Addressing.{Addressing}
use Rattle.tipc_header.specs.declared.packet.Addressing.TheVariants.{Connected, Multicast, Named, Direct}
use Rattle.tipc_header.specs.Users.{addressing_size, header_size}
use Rattle.tipc_header.specs.Spelling.{Fields, word, words, word_0, word_1, word_2, user_words, number_words, size_of, spelling, from_bit, renumbered}
use Rattle.tipc_header.specs.Grammar.{Fits}
use Rattle.tipc_header.specs.Reading.{word_at, field, user_at, type_at, header_at, rest_start, fields_at}
use Rattle.tipc_header.specs.Faults.{all_zero, HasFields, user_is_clean, reset_is_clean, changeover_is_clean, fault_of}
use Rattle.tipc_header.proofs.Words.{IsBytes, length-word}
use Rattle.tipc_header.proofs.Sound.{both, is_sound}
use Rattle.tipc_header.proofs.Cases.{low_size, high_size, reset_clean}
use Rattle.tipc_header.proofs.Takes.{takes}
use Rattle.tipc_header.proofs.Again.{again, no_fault, length-spelling}

reset_size : (b : List ℕ) → reset_is_clean b ≡ true → length b ≡ 56
unfolding reset_is_clean
reset_size b h =
    let unused : List ℕ = field 1 28 0 b ∷ word_at 2 b ∷ word_at 4 b ∷ word_at 5 b ∷ word_at 6 b ∷ field 8 31 7 b ∷ field 8 1 0 b ∷ word_at 9 b ∷ [] in
    eqb-true (length b) 56 (both (all_zero unused) (length b == 56) h).1

changeover_size : (b : List ℕ) (t : ℕ) → user_is_clean 10 t b ≡ true → 48 ≤ length b
unfolding user_is_clean changeover_is_clean
changeover_size b t h =
    let unused : List ℕ = field 1 28 16 b ∷ field 5 31 1 b ∷ word_at 6 b ∷ word_at 7 b ∷ word_at 8 b ∷ word_at 9 b ∷ [] in
    let outer = both (all_zero unused && nat_le 48 (length b)) (nat_lt 0 (field 4 31 16 b) || ((field 4 15 0 b == 0) && (length b == 48))) h in
    leb-true 48 (length b) (both (all_zero unused) (nat_le 48 (length b)) outer.0).1

-- bytes that break no rule have each field of their user and type
pub has_fields : (b : List ℕ) → fault_of b ≡ None → HasFields b
has_fields b none =
    let s = is_sound b none in
    let header = s.header in
    let words = s.size_of_type in
    record {
      short = s.short;
      payload = λ low. omega (arith, header, words, low_size (user_at b) (type_at b) low);
      long = λ high. omega (arith, header, words, high_size (user_at b) (type_at b) high);
      reset = λ user some. let e = reset_size b (sym (reset_clean b (type_at b) some) ∙ subst (λ (u : ℕ). user_is_clean u (type_at b) b ≡ true) user s.clean) in omega (arith, e);
      changeover = λ user. changeover_size b (type_at b) (subst (λ (u : ℕ). user_is_clean u (type_at b) b ≡ true) user s.clean);
    }

-- the rest begins within the bytes
pub rest_begins : (b : List ℕ) → IsBytes b → fault_of b ≡ None → rest_start (header_at (user_at b) (type_at b) b) ≤ length b
unfolding fields_at
rest_begins b h none =
    let t = takes b h none in
    let size : length b ≡ size_of (fields_at b) = ap length t.spelled ∙ length-spelling (fields_at b) in
    omega (arith, size)

-- ---- what decoding gives

pub spells : (b : List ℕ) (p : Fields) → IsBytes b → fault_of b ≡ None → p ≡ fields_at b → Fits p × (b ≡ spelling p)
spells b p h none e = let t = takes b h none in subst (λ (q : Fields). Fits q × (b ≡ spelling q)) (sym e) (t.fits, t.spelled)

pub reads : (b : List ℕ) (p q : Fields) → p ≡ fields_at b → Fits q → b ≡ spelling q → p ≡ q
reads b p q e f spelled = e ∙ ap fields_at spelled ∙ again q f

pub refuses : (b : List ℕ) (e : HeaderFault) (p : Fields) → Some e ≡ fault_of b → Fits p → b ≡ spelling p → ⊥
refuses b e p fault f spelled = let none : Some e ≡ None = fault ∙ ap fault_of spelled ∙ no_fault p f in absurd cc

-- ---- laws

whole-addressing : (a : Addressing) → 6 ≤ addressing_size a
whole-addressing Connected = omega arith
whole-addressing (Multicast o d k l u) = omega arith
whole-addressing (Named o d k i) = omega arith
whole-addressing (Direct o d) = omega arith

pub one_packet : (p q : Fields) → Fits p → Fits q → spelling p ≡ spelling q → p ≡ q
one_packet p q f g e = sym (again p f) ∙ ap fields_at e ∙ again q g

whole-header : (h : Header) → 6 ≤ header_size h
whole-header (header.Payload m) = whole-addressing m.addressing
whole-header (header.Bundler b) = omega arith
whole-header (header.State s) = omega arith
whole-header (header.Reset r) = omega arith
whole-header (header.Activate a) = omega arith
whole-header (header.Changeover c) = omega arith
whole-header (header.NameDistributor n) = omega arith
whole-header (header.Fragmenter f) = omega arith
whole-header (header.Discovery d) = omega arith

pub spelling-least : (p : Fields) → 24 ≤ length (spelling p)
spelling-least p = omega (arith, length-spelling p, whole-header p.header)

pub spelling-most : (p : Fields) → Fits p → length (spelling p) < 2 ^ 17
spelling-most p f = omega (arith, length-spelling p, f.size)

-- what follows word 2
tail : Fields → List ℕ
tail p = words (p.previous ∷ (user_words p.header ++ number_words p.header)) ++ p.rest

spelling-parts : (p : Fields) → spelling p ≡ (word (word_0 p) ++ word (word_1 p.header)) ++ (word (word_2 p) ++ tail p)
unfolding spelling tail
spelling-parts p = simp (flat_map-cons, append_assoc)

pub renumbered-spelling : (p : Fields) (acknowledgement sequence : ℕ) → spelling (renumbered p acknowledgement sequence) ≡ take 8 (spelling p) ++ word (from_bit 16 acknowledgement + sequence) ++ drop 12 (spelling p)
unfolding word_0 word_2 tail
renumbered-spelling p acknowledgement sequence =
    let front = word (word_0 p) ++ word (word_1 p.header) in
    let eight : length front ≡ 8 = omega (arith, length-append (word (word_0 p)) (word (word_1 p.header)), length-word (word_0 p), length-word (word_1 p.header)) in
    let first : take 8 (spelling p) ≡ front = ap (take 8) (spelling-parts p) ∙ take_at front _ 8 eight in
    let twelve : length (front ++ word (word_2 p)) ≡ 12 = omega (arith, length-append front (word (word_2 p)), eight, length-word (word_2 p)) in
    let last : drop 12 (spelling p) ≡ tail p = ap (drop 12) (spelling-parts p ∙ sym (append_assoc front (word (word_2 p)) (tail p))) ∙ drop_at (front ++ word (word_2 p)) (tail p) 12 twelve in
    spelling-parts (renumbered p acknowledgement sequence) ∙ sym (append_assoc front (word (from_bit 16 acknowledgement + sequence)) (tail p)) ∙ rw (first, last) refl
