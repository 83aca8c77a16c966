-- Bytes that break no rule are the spelling of the packet that is read from them, and it fits.
use Rattle.std.proofs.Common.{◌≡◌, ℕ, ◌+◌, ◌-◌, ◌*◌, ◌/◌, ◌%◌, ◌^◌, ◌<◌, ◌≤◌, Bool, true, List, [], ◌∷◌, ◌++◌, length, drop, None, refl, sym, ap, subst, ◌∙◌, arith}
use Rattle.std.specs.Prelude.{◌&&◌, ◌||◌, nat_le, nat_lt, ◌==◌, if◌then◌else◌}
use Rattle.std.proofs.lemmas.List.{length-drop}
use Rattle.std.proofs.lemmas.Bool.{eqb-true, leb-true}
use Rattle.std.proofs.lemmas.Bool.Decides.{nat_tests}
use Rattle.tipc_header.specs.declared.packet.Header.{Header}
use Rattle.tipc_header.specs.Spelling.{Fields, from_bit, bit, words, word_0, word_1, word_2, all_words, spelling}
use Rattle.tipc_header.specs.Grammar.{AddressingFits, ResetFits, HeaderFits, Fits}
use Rattle.tipc_header.specs.declared.packet.Header.TheVariants as header
use Rattle.tipc_header.specs.declared.packet.ChangeoverType.TheVariants.{Duplicate, Original}
use Rattle.tipc_header.specs.declared.packet.DistributionType.TheVariants.{Publication, Withdrawal}
use Rattle.tipc_header.specs.declared.packet.FragmentType.TheVariants.{First, Middle, Last}
use Rattle.tipc_header.specs.declared.packet.DiscoveryType.TheVariants.{Request, Response}
use Rattle.tipc_header.specs.Users.{changeover_type, distribution_type, fragment_type, discovery_type}
use Rattle.tipc_header.specs.Reading.{word_at, field, long_at, flag, user_at, size_in_words, type_at, addressing_at, payload_at, bundle_at, state_at, reset_at, changeover_at, distribution_at, fragment_at, discovery_at, header_at, fields_with, fields_at}
use Rattle.tipc_header.specs.Faults.{all_zero, non_sequenced, types_of, size_of_type, word_0_is_clean, user_is_clean, payload_is_clean, bundle_is_clean, state_is_clean, reset_is_clean, changeover_is_clean, distribution_is_clean, fragment_is_clean, discovery_is_clean, fault_of}
use Rattle.tipc_header.proofs.Words.{IsBytes, word_at-below, words_from, words_of_all}
use Rattle.tipc_header.proofs.Sound.{both, IsSound, is_sound}
use Rattle.tipc_header.proofs.Places.{word_0-joined, payload-joined, bit-flag, type-joined, short-joined, gap-joined, halves-joined, high-joined, low-joined, bit-joined, priority-joined, about-joined, long-high, long-low}
use Rattle.tipc_header.proofs.Cases.{are_zero, cons_same, each_type_2, each_type_3, each_type_4, each_user, low_types, low_size, low_sequenced, low_clean, low_header, high_size}

pub record Takes (b : List ℕ) (p : Fields) : Type 0 where
  pub fits : Fits p
  pub spelled : b ≡ spelling p

spelled_from : (n : ℕ) (b : List ℕ) (p : Fields) → IsBytes b → 4 * n ≤ length b → all_words p ≡ words_from 0 n b → p.rest ≡ drop (4 * n) b → b ≡ spelling p
unfolding spelling
spelled_from n b p h long front rest =
    words_of_all n b h long
    ∙ ap (λ (ns : List ℕ). words ns ++ drop (4 * n) b) (sym front)
    ∙ ap (λ (r : List ℕ). words (all_words p) ++ r) (sym rest)

-- ---- headers of 10 words

-- what is known of a user other than payload
pub record IsLong (b : List ℕ) (u n : ℕ) : Type 0 where
  pub long : 40 ≤ length b
  pub size : length b < 2 ^ 17
  pub type : type_at b < types_of u
  pub clean : user_is_clean u (type_at b) b ≡ true
  pub word_0 : from_bit 29 2 + from_bit 25 u + from_bit 21 10 + from_bit 20 n + from_bit 19 0 + from_bit 18 0 + length b ≡ word_at 0 b

not_low : (u : ℕ) (t : Bool) → 3 < u → (nat_le u 3 || t) ≡ true → t ≡ true
not_low u t high h = grind (arith, nat_tests)

pub is_long : (b : List ℕ) (u : ℕ) → IsBytes b → IsSound b → user_at b ≡ u → 3 < u → IsLong b u (non_sequenced u)
unfolding word_0_is_clean
is_long b u h s e high =
    let sound : IsSound b = s in
    let clean : word_0_is_clean u b ≡ true = subst (λ (v : ℕ). word_0_is_clean v b ≡ true) e s.word_0 in
    let outer = both ((field 0 17 17 b == 0) && (field 0 20 20 b == non_sequenced u)) (nat_le u 3 || all_zero (field 0 19 19 b ∷ field 0 18 18 b ∷ [])) clean in
    let inner = both (field 0 17 17 b == 0) (field 0 20 20 b == non_sequenced u) outer.0 in
    let droppable = are_zero (field 0 19 19 b ∷ field 0 18 18 b ∷ []) (not_low u _ high outer.1) in
    let ten : size_in_words b ≡ 10 = s.size_of_type ∙ ap (λ (v : ℕ). size_of_type v (type_at b)) e ∙ high_size u (type_at b) high in
    let header = s.header in
    let size = s.size in
    record {
      long = omega (arith, ten, header);
      size = omega (arith, size);
      type = subst (λ (v : ℕ). type_at b < types_of v) e s.type;
      clean = subst (λ (v : ℕ). user_is_clean v (type_at b) b ≡ true) e s.clean;
      word_0 = word_0-joined (word_at 0 b) u 10 _ 0 0 (length b) (word_at-below 0 b h) s.version e ten (eqb-true _ _ inner.1) droppable.0 droppable.1.0 (eqb-true _ _ inner.0) size;
    }

-- word 0, where k bytes of numbers follow the header
word_0-with : (b : List ℕ) (u n k : ℕ) → IsLong b u n → 40 + k ≤ length b
    → from_bit 29 2 + from_bit 25 u + from_bit 21 10 + from_bit 20 n + from_bit 19 0 + from_bit 18 0 + (40 + k + length (drop (40 + k) b)) ≡ word_at 0 b
word_0-with b u n k l long =
    ap (λ (size : ℕ). from_bit 29 2 + from_bit 25 u + from_bit 21 10 + from_bit 20 n + from_bit 19 0 + from_bit 18 0 + size) (omega (arith, length-drop (40 + k) b)) ∙ l.word_0

bundle_takes : (b : List ℕ) → IsBytes b → IsLong b 6 0 → Takes b (fields_with (bundle_at b) b)
unfolding word_0 word_1 word_2 bundle_at user_is_clean bundle_is_clean
bundle_takes b h l =
    let unused : List ℕ = field 1 28 16 b ∷ field 4 15 0 b ∷ word_at 5 b ∷ word_at 6 b ∷ word_at 7 b ∷ word_at 8 b ∷ word_at 9 b ∷ [] in
    let outer = both (all_zero unused && nat_le 2 (field 4 31 16 b)) ((length b - 40) % 4 == 0) l.clean in
    let inner = both (all_zero unused) (nat_le 2 (field 4 31 16 b)) outer.0 in
    let zero = are_zero unused inner.0 in
    let type : type_at b ≡ 0 = omega (arith, l.type) in
    let rest = length-drop 40 b in
    let long = l.long in
    record {
      fits = record {
        acknowledgement = omega arith;
        sequence = omega arith;
        previous = word_at-below 3 b h;
        header = (omega arith, leb-true _ _ inner.1, omega arith);
        numbering = tt;
        rest = ap (λ (n : ℕ). n % 4) rest ∙ eqb-true _ _ outer.1;
        size = omega (arith, l.size);
      };
      spelled = spelled_from 10 b (fields_with (bundle_at b) b) h long
          (cons_same (word_0-with b 6 0 0 l long)
          (cons_same (short-joined (word_at 1 b) 0 (word_at-below 1 b h) type zero.0)
          (cons_same (halves-joined (word_at 2 b) (word_at-below 2 b h))
          (cons_same refl
          (cons_same (high-joined (word_at 4 b) (word_at-below 4 b h) zero.1.0)
          (cons_same (sym zero.1.1.0)
          (cons_same (sym zero.1.1.1.0)
          (cons_same (sym zero.1.1.1.1.0)
          (cons_same (sym zero.1.1.1.1.1.0)
          (cons_same (sym zero.1.1.1.1.1.1.0)
          refl))))))))))
          refl;
    }

state_takes : (b : List ℕ) → IsBytes b → IsLong b 7 1 → type_at b ≡ 0 → Takes b (fields_with (state_at b) b)
unfolding word_0 word_1 word_2 state_at user_is_clean state_is_clean
state_takes b h l type =
    let unused : List ℕ = field 2 15 0 b ∷ word_at 6 b ∷ field 8 31 7 b ∷ word_at 9 b ∷ [] in
    let outer = both (all_zero unused) (length b == 40) (subst (λ (t : ℕ). user_is_clean 7 t b ≡ true) type l.clean) in
    let zero = are_zero unused outer.0 in
    let all : length b ≡ 40 = eqb-true _ _ outer.1 in
    let rest = length-drop 40 b in
    let long = l.long in
    record {
      fits = record {
        acknowledgement = omega arith;
        sequence = omega arith;
        previous = word_at-below 3 b h;
        header = record {
          gap = omega arith;
          broadcast_acknowledgement = omega arith;
          next = omega arith;
          broadcast_next = omega arith;
          broadcast_start = omega arith;
          broadcast_gap = omega arith;
          destination_node = word_at-below 7 b h;
          priority = omega arith;
        };
        numbering = zero.0;
        rest = omega arith;
        size = omega arith;
      };
      spelled = spelled_from 10 b (fields_with (state_at b) b) h long
          (cons_same (word_0-with b 7 1 0 l long)
          (cons_same (gap-joined (word_at 1 b) 0 (word_at-below 1 b h) type)
          (cons_same (halves-joined (word_at 2 b) (word_at-below 2 b h))
          (cons_same refl
          (cons_same (halves-joined (word_at 4 b) (word_at-below 4 b h))
          (cons_same (halves-joined (word_at 5 b) (word_at-below 5 b h))
          (cons_same (sym zero.1.0)
          (cons_same refl
          (cons_same (about-joined (word_at 8 b) (word_at-below 8 b h) zero.1.1.0)
          (cons_same (sym zero.1.1.1.0)
          refl))))))))))
          refl;
    }

-- RESET and ACTIVATE
record IsReset (b : List ℕ) : Type 0 where
  zero_1 : field 1 28 0 b ≡ 0
  zero_2 : word_at 2 b ≡ 0
  all : length b ≡ 56
  words : (0 ∷ 0 ∷ 0 ∷ word_at 7 b ∷ from_bit 2 (field 8 6 2 b) ∷ 0 ∷ (long_at 10 b / 2 ^ 32) ∷ (long_at 10 b % 2 ^ 32) ∷ (long_at 12 b / 2 ^ 32) ∷ (long_at 12 b % 2 ^ 32) ∷ []) ≡ words_from 4 10 b
  fits : ResetFits (reset_at b)

is_reset : (b : List ℕ) → IsBytes b → reset_is_clean b ≡ true → IsReset b
unfolding reset_is_clean reset_at
is_reset b h clean =
    let unused : List ℕ = field 1 28 0 b ∷ word_at 2 b ∷ word_at 4 b ∷ word_at 5 b ∷ word_at 6 b ∷ field 8 31 7 b ∷ field 8 1 0 b ∷ word_at 9 b ∷ [] in
    let outer = both (all_zero unused) (length b == 56) clean in
    let zero = are_zero unused outer.0 in
    let below = λ (i : ℕ). word_at-below i b h in
    record {
      zero_1 = zero.0;
      zero_2 = zero.1.0;
      all = eqb-true _ _ outer.1;
      words =
          cons_same (sym zero.1.1.0)
          (cons_same (sym zero.1.1.1.0)
          (cons_same (sym zero.1.1.1.1.0)
          (cons_same refl
          (cons_same (priority-joined (word_at 8 b) (below 8) zero.1.1.1.1.1.0 zero.1.1.1.1.1.1.0)
          (cons_same (sym zero.1.1.1.1.1.1.1.0)
          (cons_same (long-high (word_at 10 b) (word_at 11 b) (below 11))
          (cons_same (long-low (word_at 10 b) (word_at 11 b) (below 11))
          (cons_same (long-high (word_at 12 b) (word_at 13 b) (below 13))
          (cons_same (long-low (word_at 12 b) (word_at 13 b) (below 13))
          refl)))))))));
      fits = record {
        destination_node = below 7;
        priority = omega arith;
        contact = omega (arith, below 10, below 11);
        peer_contact = omega (arith, below 12, below 13);
      };
    }

reset_takes : (b : List ℕ) → IsBytes b → IsLong b 7 1 → type_at b ≡ 1 → Takes b (fields_with (header.Reset (reset_at b)) b)
unfolding word_0 word_1 word_2 reset_at user_is_clean
reset_takes b h l type =
    let r = is_reset b h (subst (λ (t : ℕ). user_is_clean 7 t b ≡ true) type l.clean) in
    let all = r.all in
    let zero_2 = r.zero_2 in
    let rest = length-drop 56 b in
    record {
      fits = record {
        acknowledgement = omega arith;
        sequence = omega arith;
        previous = word_at-below 3 b h;
        header = r.fits;
        numbering = (omega arith, omega arith);
        rest = omega arith;
        size = omega arith;
      };
      spelled = spelled_from 14 b (fields_with (header.Reset (reset_at b)) b) h (omega arith)
          (cons_same (word_0-with b 7 1 16 l (omega arith))
          (cons_same (type-joined (word_at 1 b) 1 (word_at-below 1 b h) type r.zero_1)
          (cons_same (halves-joined (word_at 2 b) (word_at-below 2 b h))
          (cons_same refl
          r.words))))
          refl;
    }

activate_takes : (b : List ℕ) → IsBytes b → IsLong b 7 1 → type_at b ≡ 2 → Takes b (fields_with (header.Activate (reset_at b)) b)
unfolding word_0 word_1 word_2 reset_at user_is_clean
activate_takes b h l type =
    let r = is_reset b h (subst (λ (t : ℕ). user_is_clean 7 t b ≡ true) type l.clean) in
    let all = r.all in
    let zero_2 = r.zero_2 in
    let rest = length-drop 56 b in
    record {
      fits = record {
        acknowledgement = omega arith;
        sequence = omega arith;
        previous = word_at-below 3 b h;
        header = r.fits;
        numbering = (omega arith, omega arith);
        rest = omega arith;
        size = omega arith;
      };
      spelled = spelled_from 14 b (fields_with (header.Activate (reset_at b)) b) h (omega arith)
          (cons_same (word_0-with b 7 1 16 l (omega arith))
          (cons_same (type-joined (word_at 1 b) 2 (word_at-below 1 b h) type r.zero_1)
          (cons_same (halves-joined (word_at 2 b) (word_at-below 2 b h))
          (cons_same refl
          r.words))))
          refl;
    }

changeover_type-is : (t : ℕ) → t < 2 → t ≡ changeover_type (if t == 0 then Duplicate else Original)
changeover_type-is t lt = each_type_2 (λ (v : ℕ). v ≡ changeover_type (if v == 0 then Duplicate else Original)) t lt refl refl

distribution_type-is : (t : ℕ) → t < 2 → t ≡ distribution_type (if t == 0 then Publication else Withdrawal)
distribution_type-is t lt = each_type_2 (λ (v : ℕ). v ≡ distribution_type (if v == 0 then Publication else Withdrawal)) t lt refl refl

fragment_type-is : (t : ℕ) → t < 3 → t ≡ fragment_type (if t == 0 then First else (if t == 1 then Middle else Last))
fragment_type-is t lt = each_type_3 (λ (v : ℕ). v ≡ fragment_type (if v == 0 then First else (if v == 1 then Middle else Last))) t lt refl refl refl

discovery_type-is : (t : ℕ) → t < 2 → t ≡ discovery_type (if t == 0 then Request else Response)
discovery_type-is t lt = each_type_2 (λ (v : ℕ). v ≡ discovery_type (if v == 0 then Request else Response)) t lt refl refl

-- a run of no packets has no inner packet
no_run : (count inner size : ℕ) → (nat_lt 0 count || ((inner == 0) && (size == 48))) ≡ true → count ≡ 0 → (inner ≡ 0) × (size ≡ 48)
no_run count inner size h none =
    let later = subst (λ (n : ℕ). (nat_lt 0 n || ((inner == 0) && (size == 48))) ≡ true) none h in
    let parts = both (inner == 0) (size == 48) later in
    (eqb-true _ _ parts.0, eqb-true _ _ parts.1)

changeover_takes : (b : List ℕ) → IsBytes b → IsLong b 10 0 → Takes b (fields_with (changeover_at (type_at b) b) b)
unfolding word_0 word_1 word_2 changeover_at user_is_clean changeover_is_clean
changeover_takes b h l =
    let unused : List ℕ = field 1 28 16 b ∷ field 5 31 1 b ∷ word_at 6 b ∷ word_at 7 b ∷ word_at 8 b ∷ word_at 9 b ∷ [] in
    let run : Bool = nat_lt 0 (field 4 31 16 b) || ((field 4 15 0 b == 0) && (length b == 48)) in
    let outer = both (all_zero unused && nat_le 48 (length b)) run l.clean in
    let inner = both (all_zero unused) (nat_le 48 (length b)) outer.0 in
    let zero = are_zero unused inner.0 in
    let type = changeover_type-is (type_at b) l.type in
    let long : 48 ≤ length b = leb-true _ _ inner.1 in
    let rest = length-drop 48 b in
    let below = λ (i : ℕ). word_at-below i b h in
    record {
      fits = record {
        acknowledgement = omega arith;
        sequence = omega arith;
        previous = below 3;
        header = record {
          broadcast_acknowledgement = omega arith;
          count = omega arith;
          inner_number = omega arith;
          old_bearer = omega arith;
          old_epoch = omega (arith, below 10, below 11);
        };
        numbering = tt;
        rest = λ none. let e = no_run (field 4 31 16 b) (field 4 15 0 b) (length b) outer.1 none in (e.0, rest ∙ ap (λ (n : ℕ). n - 48) e.1);
        size = omega (arith, l.size);
      };
      spelled = spelled_from 12 b (fields_with (changeover_at (type_at b) b) b) h long
          (cons_same (word_0-with b 10 0 8 l long)
          (cons_same (short-joined (word_at 1 b) _ (below 1) type zero.0)
          (cons_same (halves-joined (word_at 2 b) (below 2))
          (cons_same refl
          (cons_same (halves-joined (word_at 4 b) (below 4))
          (cons_same (bit-joined (word_at 5 b) (below 5) zero.1.0)
          (cons_same (sym zero.1.1.0)
          (cons_same (sym zero.1.1.1.0)
          (cons_same (sym zero.1.1.1.1.0)
          (cons_same (sym zero.1.1.1.1.1.0)
          (cons_same (long-high (word_at 10 b) (word_at 11 b) (below 11))
          (cons_same (long-low (word_at 10 b) (word_at 11 b) (below 11))
          refl))))))))))))
          refl;
    }

distribution_takes : (b : List ℕ) → IsBytes b → IsLong b 11 0 → Takes b (fields_with (distribution_at (type_at b) b) b)
unfolding word_0 word_1 word_2 distribution_at user_is_clean distribution_is_clean
distribution_takes b h l =
    let unused : List ℕ = field 1 28 16 b ∷ word_at 4 b ∷ word_at 5 b ∷ word_at 6 b ∷ word_at 7 b ∷ word_at 8 b ∷ word_at 9 b ∷ [] in
    let outer = both (all_zero unused && nat_le 20 (length b - 40) && nat_le (length b - 40) 1400) ((length b - 40) % 20 == 0) l.clean in
    let middle = both (all_zero unused && nat_le 20 (length b - 40)) (nat_le (length b - 40) 1400) outer.0 in
    let inner = both (all_zero unused) (nat_le 20 (length b - 40)) middle.0 in
    let zero = are_zero unused inner.0 in
    let type = distribution_type-is (type_at b) l.type in
    let rest = length-drop 40 b in
    let long = l.long in
    record {
      fits = record {
        acknowledgement = omega arith;
        sequence = omega arith;
        previous = word_at-below 3 b h;
        header = omega arith;
        numbering = tt;
        rest = (omega (arith, leb-true 20 (length b - 40) inner.1), omega (arith, leb-true (length b - 40) 1400 middle.1), ap (λ (n : ℕ). n % 20) rest ∙ eqb-true _ _ outer.1);
        size = omega (arith, l.size);
      };
      spelled = spelled_from 10 b (fields_with (distribution_at (type_at b) b) b) h long
          (cons_same (word_0-with b 11 0 0 l long)
          (cons_same (short-joined (word_at 1 b) _ (word_at-below 1 b h) type zero.0)
          (cons_same (halves-joined (word_at 2 b) (word_at-below 2 b h))
          (cons_same refl
          (cons_same (sym zero.1.0)
          (cons_same (sym zero.1.1.0)
          (cons_same (sym zero.1.1.1.0)
          (cons_same (sym zero.1.1.1.1.0)
          (cons_same (sym zero.1.1.1.1.1.0)
          (cons_same (sym zero.1.1.1.1.1.1.0)
          refl))))))))))
          refl;
    }

fragment_takes : (b : List ℕ) → IsBytes b → IsLong b 12 0 → Takes b (fields_with (fragment_at (type_at b) b) b)
unfolding word_0 word_1 word_2 fragment_at user_is_clean fragment_is_clean
fragment_takes b h l =
    let unused : List ℕ = field 1 28 16 b ∷ field 4 31 16 b ∷ word_at 5 b ∷ word_at 6 b ∷ word_at 7 b ∷ word_at 8 b ∷ word_at 9 b ∷ [] in
    let outer = both (all_zero unused && nat_le 1 (field 4 15 0 b) && nat_le 1 (length b - 40)) (nat_le (length b - 40) 1412) l.clean in
    let middle = both (all_zero unused && nat_le 1 (field 4 15 0 b)) (nat_le 1 (length b - 40)) outer.0 in
    let inner = both (all_zero unused) (nat_le 1 (field 4 15 0 b)) middle.0 in
    let zero = are_zero unused inner.0 in
    let type = fragment_type-is (type_at b) l.type in
    let rest = length-drop 40 b in
    let long = l.long in
    record {
      fits = record {
        acknowledgement = omega arith;
        sequence = omega arith;
        previous = word_at-below 3 b h;
        header = (omega arith, leb-true 1 (field 4 15 0 b) inner.1, omega arith);
        numbering = tt;
        rest = (omega (arith, leb-true 1 (length b - 40) middle.1), omega (arith, leb-true (length b - 40) 1412 outer.1));
        size = omega (arith, l.size);
      };
      spelled = spelled_from 10 b (fields_with (fragment_at (type_at b) b) b) h long
          (cons_same (word_0-with b 12 0 0 l long)
          (cons_same (short-joined (word_at 1 b) _ (word_at-below 1 b h) type zero.0)
          (cons_same (halves-joined (word_at 2 b) (word_at-below 2 b h))
          (cons_same refl
          (cons_same (low-joined (word_at 4 b) (word_at-below 4 b h) zero.1.0)
          (cons_same (sym zero.1.1.0)
          (cons_same (sym zero.1.1.1.0)
          (cons_same (sym zero.1.1.1.1.0)
          (cons_same (sym zero.1.1.1.1.1.0)
          (cons_same (sym zero.1.1.1.1.1.1.0)
          refl))))))))))
          refl;
    }

discovery_takes : (b : List ℕ) → IsBytes b → IsLong b 13 1 → Takes b (fields_with (discovery_at (type_at b) b) b)
unfolding word_0 word_1 word_2 discovery_at user_is_clean discovery_is_clean
discovery_takes b h l =
    let unused : List ℕ = field 1 28 0 b ∷ word_at 2 b ∷ word_at 5 b ∷ word_at 6 b ∷ word_at 7 b ∷ word_at 8 b ∷ word_at 9 b ∷ [] in
    let outer = both (all_zero unused) (length b == 40) l.clean in
    let zero = are_zero unused outer.0 in
    let none = zero.1.0 in
    let all : length b ≡ 40 = eqb-true _ _ outer.1 in
    let type = discovery_type-is (type_at b) l.type in
    let rest = length-drop 40 b in
    let long = l.long in
    record {
      fits = record {
        acknowledgement = omega arith;
        sequence = omega arith;
        previous = word_at-below 3 b h;
        header = word_at-below 4 b h;
        numbering = (omega arith, omega arith);
        rest = omega arith;
        size = omega arith;
      };
      spelled = spelled_from 10 b (fields_with (discovery_at (type_at b) b) b) h long
          (cons_same (word_0-with b 13 1 0 l long)
          (cons_same (type-joined (word_at 1 b) _ (word_at-below 1 b h) type zero.0)
          (cons_same (halves-joined (word_at 2 b) (word_at-below 2 b h))
          (cons_same refl
          (cons_same refl
          (cons_same (sym zero.1.1.0)
          (cons_same (sym zero.1.1.1.0)
          (cons_same (sym zero.1.1.1.1.0)
          (cons_same (sym zero.1.1.1.1.1.0)
          (cons_same (sym zero.1.1.1.1.1.1.0)
          refl))))))))))
          refl;
    }

-- ---- payload

-- what is known of payload of type t
record IsPayload (b : List ℕ) (t : ℕ) : Type 0 where
  low : user_at b ≤ 3
  type : type_at b ≡ t
  long : 4 * size_of_type 0 t ≤ length b
  size : length b < 2 ^ 17
  rest : length b - 4 * size_of_type 0 t ≤ 66000
  zero : field 1 18 16 b ≡ 0
  code : field 1 28 25 b ≤ 5
  word_0 : from_bit 29 2 + from_bit 25 (user_at b) + from_bit 21 (size_of_type 0 t) + from_bit 20 0 + from_bit 19 (bit (flag 0 19 b)) + from_bit 18 (bit (flag 0 18 b)) + length b ≡ word_at 0 b

is_payload : (b : List ℕ) (t : ℕ) → IsBytes b → IsSound b → user_at b ≤ 3 → type_at b ≡ t → IsPayload b t
unfolding word_0_is_clean payload_is_clean
is_payload b t h s low type =
    let u = user_at b in
    let sequenced : Bool = field 0 20 20 b == non_sequenced u in
    let outer = both ((field 0 17 17 b == 0) && sequenced) (nat_le u 3 || all_zero (field 0 19 19 b ∷ field 0 18 18 b ∷ [])) s.word_0 in
    let inner = both (field 0 17 17 b == 0) sequenced outer.0 in
    let clean = both (field 1 18 16 b == 0) (nat_le (field 1 28 25 b) 5) (sym (low_clean u (type_at b) b low) ∙ s.clean) in
    let words : size_in_words b ≡ size_of_type 0 t = s.size_of_type ∙ low_size u (type_at b) low ∙ ap (size_of_type 0) type in
    let size = s.size in
    record {
      low = low;
      type = type;
      long = subst (λ (n : ℕ). 4 * n ≤ length b) words s.header;
      size = omega (arith, size);
      rest = subst (λ (n : ℕ). length b - 4 * n ≤ 66000) words (s.payload low);
      zero = eqb-true _ _ clean.0;
      code = leb-true _ _ clean.1;
      word_0 = word_0-joined (word_at 0 b) u (size_of_type 0 t) 0 _ _ (length b) (word_at-below 0 b h) s.version refl words (eqb-true _ _ inner.1 ∙ low_sequenced u low) (sym (bit-flag (field 0 19 19 b) (omega arith))) (sym (bit-flag (field 0 18 18 b) (omega arith))) (eqb-true _ _ inner.0) size;
    }

payload_word_0 : (b : List ℕ) (t k : ℕ) → IsPayload b t → 4 * size_of_type 0 t ≡ k
    → from_bit 29 2 + from_bit 25 (user_at b) + from_bit 21 (size_of_type 0 t) + from_bit 20 0 + from_bit 19 (bit (flag 0 19 b)) + from_bit 18 (bit (flag 0 18 b)) + (k + length (drop k b)) ≡ word_at 0 b
payload_word_0 b t k p e =
    let long = p.long in
    ap (λ (size : ℕ). from_bit 29 2 + from_bit 25 (user_at b) + from_bit 21 (size_of_type 0 t) + from_bit 20 0 + from_bit 19 (bit (flag 0 19 b)) + from_bit 18 (bit (flag 0 18 b)) + size) (omega (arith, e, length-drop k b)) ∙ p.word_0

payload_fits : (b : List ℕ) (t : ℕ) → IsBytes b → IsPayload b t → AddressingFits (addressing_at t b) → HeaderFits (payload_at (user_at b) t b)
unfolding payload_at
payload_fits b t h p addressing = record {
  importance = p.low;
  error_code = p.code;
  reroute_count = omega arith;
  lookup_scope = omega arith;
  broadcast_acknowledgement = omega arith;
  origin_port = word_at-below 4 b h;
  destination_port = word_at-below 5 b h;
  addressing = addressing;
}

connected_takes : (b : List ℕ) → IsBytes b → IsPayload b 0 → Takes b (fields_with (payload_at (user_at b) 0 b) b)
unfolding word_0 word_1 word_2 payload_at addressing_at
connected_takes b h p =
    let rest = length-drop 24 b in
    record {
      fits = record {
        acknowledgement = omega arith;
        sequence = omega arith;
        previous = word_at-below 3 b h;
        header = payload_fits b 0 h p tt;
        numbering = tt;
        rest = omega (arith, p.rest);
        size = omega (arith, p.size, p.long);
      };
      spelled = spelled_from 6 b (fields_with (payload_at (user_at b) 0 b) b) h p.long
          (cons_same (payload_word_0 b 0 24 p refl)
          (cons_same (payload-joined (word_at 1 b) 0 (word_at-below 1 b h) p.type p.zero)
          (cons_same (halves-joined (word_at 2 b) (word_at-below 2 b h))
          refl)))
          refl;
    }

multicast_takes : (b : List ℕ) → IsBytes b → IsPayload b 1 → Takes b (fields_with (payload_at (user_at b) 1 b) b)
unfolding word_0 word_1 word_2 payload_at addressing_at
multicast_takes b h p =
    let rest = length-drop 44 b in
    let below = λ (i : ℕ). word_at-below i b h in
    record {
      fits = record {
        acknowledgement = omega arith;
        sequence = omega arith;
        previous = below 3;
        header = payload_fits b 1 h p (below 6, below 7, below 8, below 9, below 10);
        numbering = tt;
        rest = omega (arith, p.rest);
        size = omega (arith, p.size, p.long);
      };
      spelled = spelled_from 11 b (fields_with (payload_at (user_at b) 1 b) b) h p.long
          (cons_same (payload_word_0 b 1 44 p refl)
          (cons_same (payload-joined (word_at 1 b) 1 (below 1) p.type p.zero)
          (cons_same (halves-joined (word_at 2 b) (below 2))
          refl)))
          refl;
    }

named_takes : (b : List ℕ) → IsBytes b → IsPayload b 2 → Takes b (fields_with (payload_at (user_at b) 2 b) b)
unfolding word_0 word_1 word_2 payload_at addressing_at
named_takes b h p =
    let rest = length-drop 40 b in
    let below = λ (i : ℕ). word_at-below i b h in
    record {
      fits = record {
        acknowledgement = omega arith;
        sequence = omega arith;
        previous = below 3;
        header = payload_fits b 2 h p (below 6, below 7, below 8, below 9);
        numbering = tt;
        rest = omega (arith, p.rest);
        size = omega (arith, p.size, p.long);
      };
      spelled = spelled_from 10 b (fields_with (payload_at (user_at b) 2 b) b) h p.long
          (cons_same (payload_word_0 b 2 40 p refl)
          (cons_same (payload-joined (word_at 1 b) 2 (below 1) p.type p.zero)
          (cons_same (halves-joined (word_at 2 b) (below 2))
          refl)))
          refl;
    }

direct_takes : (b : List ℕ) → IsBytes b → IsPayload b 3 → Takes b (fields_with (payload_at (user_at b) 3 b) b)
unfolding word_0 word_1 word_2 payload_at addressing_at
direct_takes b h p =
    let rest = length-drop 32 b in
    let below = λ (i : ℕ). word_at-below i b h in
    record {
      fits = record {
        acknowledgement = omega arith;
        sequence = omega arith;
        previous = below 3;
        header = payload_fits b 3 h p (below 6, below 7);
        numbering = tt;
        rest = omega (arith, p.rest);
        size = omega (arith, p.size, p.long);
      };
      spelled = spelled_from 8 b (fields_with (payload_at (user_at b) 3 b) b) h p.long
          (cons_same (payload_word_0 b 3 32 p refl)
          (cons_same (payload-joined (word_at 1 b) 3 (below 1) p.type p.zero)
          (cons_same (halves-joined (word_at 2 b) (below 2))
          refl)))
          refl;
    }

payload_takes : (b : List ℕ) → IsBytes b → IsSound b → user_at b ≤ 3 → Takes b (fields_with (payload_at (user_at b) (type_at b) b) b)
payload_takes b h s low =
    each_type_4 (λ (t : ℕ). type_at b ≡ t → Takes b (fields_with (payload_at (user_at b) t b) b)) (type_at b) (subst (λ (n : ℕ). type_at b < n) (low_types (user_at b) low) s.type)
    (λ e. connected_takes b h (is_payload b 0 h s low e))
    (λ e. multicast_takes b h (is_payload b 1 h s low e))
    (λ e. named_takes b h (is_payload b 2 h s low e))
    (λ e. direct_takes b h (is_payload b 3 h s low e))
    refl

-- ---- every user

link_protocol_takes : (b : List ℕ) → IsBytes b → IsLong b 7 1 → Takes b (fields_with (header_at 7 (type_at b) b) b)
unfolding header_at
link_protocol_takes b h l =
    each_type_3 (λ (t : ℕ). type_at b ≡ t → Takes b (fields_with (header_at 7 t b) b)) (type_at b) l.type
    (state_takes b h l)
    (reset_takes b h l)
    (activate_takes b h l)
    refl

pub takes : (b : List ℕ) → IsBytes b → fault_of b ≡ None → Takes b (fields_at b)
unfolding fields_at header_at
takes b h none =
    let s = is_sound b none in
    each_user (λ (u : ℕ). user_at b ≡ u → Takes b (fields_with (header_at u (type_at b) b) b)) (user_at b) s.user
    (λ low e. subst (λ (x : Header). Takes b (fields_with x b)) (sym (low_header (user_at b) (type_at b) b low)) (payload_takes b h s low)) (
      (λ e. bundle_takes b h (is_long b 6 h s e (omega arith))),
      (
        (λ e. link_protocol_takes b h (is_long b 7 h s e (omega arith))),
        (
          (λ e. changeover_takes b h (is_long b 10 h s e (omega arith))),
          (
            (λ e. distribution_takes b h (is_long b 11 h s e (omega arith))),
            (
              (λ e. fragment_takes b h (is_long b 12 h s e (omega arith))),
              (
                (λ e. discovery_takes b h (is_long b 13 h s e (omega arith))),
                tt,
              ),
            ),
          ),
        ),
      ),
    )
    refl
