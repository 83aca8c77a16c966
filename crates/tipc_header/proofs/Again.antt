-- The spelling of a packet that fits breaks no rule, and that packet is read from it again.
use Rattle.std.proofs.Common.{◌≡◌, ℕ, zero, suc, ◌+◌, ◌-◌, ◌*◌, ◌%◌, ◌^◌, ◌<◌, ◌≤◌, Bool, true, false, cond, List, [], ◌∷◌, ◌++◌, length, drop, get_or, Option, Some, None, refl, sym, ap, subst, ◌∙◌, arith, rules, append_assoc}
use Rattle.std.specs.Prelude.{◌&&◌, ◌||◌, nat_le, nat_lt, ◌==◌, if◌then◌else◌}
use Rattle.std.proofs.lemmas.List.{length-append, append-nil, drop_at}
use Rattle.std.proofs.lemmas.Bool.{eq-eqb, le-leb, lt-ltb}
use Rattle.std.proofs.lemmas.Bool.Decides.{nat_tests}
use Rattle.tipc_header.specs.declared.fault.HeaderFault.{HeaderFault}
use Rattle.tipc_header.specs.declared.packet.Payload.{Payload}
use Rattle.tipc_header.specs.declared.packet.Bundle.{Bundle}
use Rattle.tipc_header.specs.declared.packet.State.{State}
use Rattle.tipc_header.specs.declared.packet.Reset.{Reset}
use Rattle.tipc_header.specs.declared.packet.Changeover.{Changeover}
use Rattle.tipc_header.specs.declared.packet.NameDistribution.{NameDistribution}
use Rattle.tipc_header.specs.declared.packet.Fragment.{Fragment}
use Rattle.tipc_header.specs.declared.packet.Discovery.{Discovery}
use Rattle.tipc_header.specs.declared.packet.Header.{Header}
use Rattle.tipc_header.specs.declared.packet.Header.TheVariants as header
use Rattle.tipc_header.specs.declared.packet.Addressing.{Addressing}
use Rattle.tipc_header.specs.declared.packet.Addressing.TheVariants.{Connected, Multicast, Named, Direct}
use Rattle.tipc_header.specs.declared.packet.ChangeoverType.{ChangeoverType}
use Rattle.tipc_header.specs.declared.packet.ChangeoverType.TheVariants.{Duplicate, Original}
use Rattle.tipc_header.specs.declared.packet.DistributionType.{DistributionType}
use Rattle.tipc_header.specs.declared.packet.DistributionType.TheVariants.{Publication, Withdrawal}
use Rattle.tipc_header.specs.declared.packet.FragmentType.{FragmentType}
use Rattle.tipc_header.specs.declared.packet.FragmentType.TheVariants.{First, Middle, Last}
use Rattle.tipc_header.specs.declared.packet.DiscoveryType.{DiscoveryType}
use Rattle.tipc_header.specs.declared.packet.DiscoveryType.TheVariants.{Request, Response}
use Rattle.tipc_header.specs.Users.{changeover_type, distribution_type, fragment_type, discovery_type, user_of, type_of, header_size, addressing_type, addressing_size, is_non_sequenced, is_destination_droppable, is_source_droppable}
use Rattle.tipc_header.specs.Spelling.{Fields, from_bit, bit, words, word_0, word_1, word_2, below_type, addressing_words, reset_words, two_words, user_words, number_words, all_words, numbers_size, size_of, spelling, renumbered}
use Rattle.tipc_header.specs.Grammar.{AddressingFits, PayloadFits, ResetFits, HeaderFits, NumberingFits, RestFits, Fits}
use Rattle.tipc_header.specs.Reading.{word_at, field, flag, long_at, bits, user_at, size_in_words, type_at, addressing_at, payload_at, bundle_at, state_at, reset_at, changeover_at, distribution_at, fragment_at, discovery_at, header_at, fields_with, fields_at}
use Rattle.tipc_header.specs.Faults.{is_one_of, all_zero, has_user, types_of, size_of_type, non_sequenced, word_0_is_clean, payload_is_clean, bundle_is_clean, state_is_clean, reset_is_clean, changeover_is_clean, distribution_is_clean, fragment_is_clean, discovery_is_clean, user_is_clean, has_start, has_version, has_header, has_size, has_type, is_clean, fault_of}
use Rattle.tipc_header.proofs.Words.{AreWords, length-words, word_at-words}
use Rattle.tipc_header.proofs.Places.{flag-bit}
use Rattle.tipc_header.proofs.Cases.{AreZero, both_true, all_zero-from, low_user, low_types, low_size, low_sequenced, low_clean, low_header}

-- ---- the words of a packet are words

addressing_are_words : (a : Addressing) → AddressingFits a → AreWords (addressing_words a)
addressing_are_words Connected f = tt
addressing_are_words (Multicast o d k l u) f = (f.0, (f.1, (f.2, (f.3, (f.4, tt)))))
addressing_are_words (Named o d k i) f = (f.0, (f.1, (f.2, (f.3, tt))))
addressing_are_words (Direct o d) f = (f.0, (f.1, tt))

bit-below : (b : Bool) → bit b < 2
bit-below true = omega arith
bit-below false = omega arith

later_are_words : (h : Header) → HeaderFits h → AreWords (user_words h ++ number_words h)
later_are_words (header.Payload m) f = (f.origin_port, (f.destination_port, subst AreWords (sym (append-nil (addressing_words m.addressing))) (addressing_are_words m.addressing f.addressing)))
later_are_words (header.Bundler b) f = search rules
later_are_words (header.State s) f = search (rules, bit-below s.in_step, bit-below s.probe)
later_are_words (header.Reset r) f = search rules
later_are_words (header.Activate r) f = search rules
later_are_words (header.Changeover c) f = search rules
later_are_words (header.NameDistributor n) f = search rules
later_are_words (header.Fragmenter g) f = search rules
later_are_words (header.Discovery d) f = search rules

-- ---- words 0 and 1

changeover_type-below : (t : ChangeoverType) → changeover_type t < 2
changeover_type-below Duplicate = omega arith
changeover_type-below Original = omega arith

distribution_type-below : (t : DistributionType) → distribution_type t < 2
distribution_type-below Publication = omega arith
distribution_type-below Withdrawal = omega arith

fragment_type-below : (t : FragmentType) → fragment_type t < 3
fragment_type-below First = omega arith
fragment_type-below Middle = omega arith
fragment_type-below Last = omega arith

discovery_type-below : (t : DiscoveryType) → discovery_type t < 2
discovery_type-below Request = omega arith
discovery_type-below Response = omega arith

-- numbers that a row of the table of users may have
record IsRow (h : Header) : Type 0 where
  user : user_of h < 16
  has_user : has_user (user_of h) ≡ true
  type : type_of h < types_of (user_of h)
  types : types_of (user_of h) ≤ 8
  size : header_size h < 16
  whole : 6 ≤ header_size h
  sizes : is_one_of (6 ∷ 8 ∷ 10 ∷ 11 ∷ []) (header_size h) ≡ true
  size_of_type : header_size h ≡ size_of_type (user_of h) (type_of h)
  sequenced : bit (is_non_sequenced h) ≡ non_sequenced (user_of h)
  below : below_type h < 2 ^ 29
  droppable : (nat_le (user_of h) 3 || all_zero (bit (is_destination_droppable h) ∷ bit (is_source_droppable h) ∷ [])) ≡ true

low_droppable : (u : ℕ) (t : Bool) → u ≤ 3 → (nat_le u 3 || t) ≡ true
low_droppable u t low = grind (arith, nat_tests)

record IsAddressingRow (a : Addressing) : Type 0 where
  type : addressing_type a < 4
  size : addressing_size a < 16
  whole : 6 ≤ addressing_size a
  sizes : is_one_of (6 ∷ 8 ∷ 10 ∷ 11 ∷ []) (addressing_size a) ≡ true
  size_of_type : addressing_size a ≡ size_of_type 0 (addressing_type a)

is_addressing_row : (a : Addressing) → IsAddressingRow a
is_addressing_row Connected = record { type = omega arith; size = omega arith; whole = omega arith; sizes = refl; size_of_type = refl }
is_addressing_row (Multicast o d k l u) = record { type = omega arith; size = omega arith; whole = omega arith; sizes = refl; size_of_type = refl }
is_addressing_row (Named o d k i) = record { type = omega arith; size = omega arith; whole = omega arith; sizes = refl; size_of_type = refl }
is_addressing_row (Direct o d) = record { type = omega arith; size = omega arith; whole = omega arith; sizes = refl; size_of_type = refl }

is_row : (h : Header) → HeaderFits h → IsRow h
is_row (header.Payload m) f =
    let a = is_addressing_row m.addressing in
    let low = f.importance in
    record {
      user = omega arith;
      has_user = low_user m.importance low;
      type = omega (arith, a.type, low_types m.importance low);
      types = omega (arith, low_types m.importance low);
      size = a.size;
      whole = a.whole;
      sizes = a.sizes;
      size_of_type = a.size_of_type ∙ sym (low_size m.importance (addressing_type m.addressing) low);
      sequenced = sym (low_sequenced m.importance low);
      below = omega (arith, f.error_code, f.reroute_count, f.lookup_scope, f.broadcast_acknowledgement);
      droppable = low_droppable m.importance _ low;
    }
is_row (header.Bundler b) f = record { user = omega arith; has_user = refl; type = omega arith; types = omega arith; size = omega arith; whole = omega arith; sizes = refl; size_of_type = refl; sequenced = refl; below = omega arith; droppable = refl }
is_row (header.State s) f = record { user = omega arith; has_user = refl; type = omega arith; types = omega arith; size = omega arith; whole = omega arith; sizes = refl; size_of_type = refl; sequenced = refl; below = omega (arith, f.gap, f.broadcast_acknowledgement); droppable = refl }
is_row (header.Reset r) f = record { user = omega arith; has_user = refl; type = omega arith; types = omega arith; size = omega arith; whole = omega arith; sizes = refl; size_of_type = refl; sequenced = refl; below = omega arith; droppable = refl }
is_row (header.Activate r) f = record { user = omega arith; has_user = refl; type = omega arith; types = omega arith; size = omega arith; whole = omega arith; sizes = refl; size_of_type = refl; sequenced = refl; below = omega arith; droppable = refl }
is_row (header.Changeover c) f = record { user = omega arith; has_user = refl; type = changeover_type-below c.changeover_type; types = omega arith; size = omega arith; whole = omega arith; sizes = refl; size_of_type = refl; sequenced = refl; below = omega (arith, f.broadcast_acknowledgement); droppable = refl }
is_row (header.NameDistributor n) f = record { user = omega arith; has_user = refl; type = distribution_type-below n.distribution_type; types = omega arith; size = omega arith; whole = omega arith; sizes = refl; size_of_type = refl; sequenced = refl; below = omega arith; droppable = refl }
is_row (header.Fragmenter g) f = record { user = omega arith; has_user = refl; type = fragment_type-below g.fragment_type; types = omega arith; size = omega arith; whole = omega arith; sizes = refl; size_of_type = refl; sequenced = refl; below = omega arith; droppable = refl }
is_row (header.Discovery d) f = record { user = omega arith; has_user = refl; type = discovery_type-below d.discovery_type; types = omega arith; size = omega arith; whole = omega arith; sizes = refl; size_of_type = refl; sequenced = refl; below = omega arith; droppable = refl }

-- the fields of word 0
record IsWord0 (w u h n d s k : ℕ) : Type 0 where
  below : w < 2 ^ 32
  version : bits 31 29 w ≡ 2
  user : bits 28 25 w ≡ u
  size_in_words : bits 24 21 w ≡ h
  non_sequenced : bits 20 20 w ≡ n
  destination : bits 19 19 w ≡ d
  source : bits 18 18 w ≡ s
  zero : bits 17 17 w ≡ 0
  size : bits 16 0 w ≡ k

is_word_0 : (u h n d s k : ℕ) → u < 16 → h < 16 → n < 2 → d < 2 → s < 2 → k < 2 ^ 17
    → IsWord0 (from_bit 29 2 + from_bit 25 u + from_bit 21 h + from_bit 20 n + from_bit 19 d + from_bit 18 s + k) u h n d s k
is_word_0 u h n d s k e0 e1 e2 e3 e4 e5 = record {
  below = omega arith;
  version = omega arith;
  user = omega arith;
  size_in_words = omega arith;
  non_sequenced = omega arith;
  destination = omega arith;
  source = omega arith;
  zero = omega arith;
  size = omega arith;
}

-- ---- each user: its bits are clean, and its header is read again

changeover_type-again : (t : ChangeoverType) → (if changeover_type t == 0 then Duplicate else Original) ≡ t
changeover_type-again Duplicate = refl
changeover_type-again Original = refl

distribution_type-again : (t : DistributionType) → (if distribution_type t == 0 then Publication else Withdrawal) ≡ t
distribution_type-again Publication = refl
distribution_type-again Withdrawal = refl

fragment_type-again : (t : FragmentType) → (if fragment_type t == 0 then First else (if fragment_type t == 1 then Middle else Last)) ≡ t
fragment_type-again First = refl
fragment_type-again Middle = refl
fragment_type-again Last = refl

discovery_type-again : (t : DiscoveryType) → (if discovery_type t == 0 then Request else Response) ≡ t
discovery_type-again Request = refl
discovery_type-again Response = refl

is_run : (count inner size : ℕ) → (count ≡ 0 → (inner ≡ 0) × (size ≡ 48)) → (nat_lt 0 count || ((inner == 0) && (size == 48))) ≡ true
is_run zero inner size h = let e = h refl in both_true (inner == 0) (size == 48) (eq-eqb inner 0 e.0) (eq-eqb size 48 e.1)
is_run (suc count) inner size h = grind (arith, nat_tests)

-- what is known of the bytes of a packet with this header, behind word 0
record IsSpelled (b : List ℕ) (acknowledgement sequence : ℕ) (h : Header) (n : ℕ) : Type 0 where
  word_1 : word_at 1 b ≡ word_1 h
  word_2 : word_at 2 b ≡ from_bit 16 acknowledgement + sequence
  later : (i : ℕ) → i < length (user_words h ++ number_words h) → word_at (4 + i) b ≡ get_or (user_words h ++ number_words h) i 0
  size : length b ≡ 4 * header_size h + numbers_size h + n

record IsAgain (b : List ℕ) (h : Header) : Type 0 where
  clean : user_is_clean (user_of h) (type_of h) b ≡ true
  header : header_at (user_of h) (type_of h) b ≡ h

bundle_again : (b : List ℕ) (a s n : ℕ) (x : Bundle) → HeaderFits (header.Bundler x) → RestFits (header.Bundler x) n → IsSpelled b a s (header.Bundler x) n → IsAgain b (header.Bundler x)
unfolding user_is_clean bundle_is_clean header_at bundle_at word_1
bundle_again b a s n x f r l =
    let w1 = l.word_1 in
    let w4 = l.later 0 (omega arith) in
    let size = l.size in
    let count : field 4 31 16 b ≡ x.count = omega arith in
    let broadcast : field 1 15 0 b ≡ x.broadcast_acknowledgement = omega arith in
    let unused : List ℕ = field 1 28 16 b ∷ field 4 15 0 b ∷ word_at 5 b ∷ word_at 6 b ∷ word_at 7 b ∷ word_at 8 b ∷ word_at 9 b ∷ [] in
    let zero : AreZero unused = (omega arith, (omega arith, (l.later 1 (omega arith), (l.later 2 (omega arith), (l.later 3 (omega arith), (l.later 4 (omega arith), (l.later 5 (omega arith), tt))))))) in
    let behind : length b - 40 ≡ n = omega arith in
    record {
      clean = both_true _ _ (both_true _ _ (all_zero-from unused zero) (le-leb 2 (field 4 31 16 b) (omega arith))) (eq-eqb ((length b - 40) % 4) 0 (ap (λ (k : ℕ). k % 4) behind ∙ r));
      header = rw (broadcast, count) refl;
    }

state_again : (b : List ℕ) (a s n : ℕ) (x : State) → HeaderFits (header.State x) → a < 2 ^ 16 → s ≡ 0 → n ≡ 0 → IsSpelled b a s (header.State x) n → IsAgain b (header.State x)
unfolding user_is_clean state_is_clean header_at state_at word_1
state_again b a s n x f acknowledgement sequence none l =
    let w1 = l.word_1 in
    let w2 = l.word_2 in
    let w4 = l.later 0 (omega arith) in
    let w5 = l.later 1 (omega arith) in
    let w7 = l.later 3 (omega arith) in
    let w8 = l.later 4 (omega arith) in
    let size = l.size in
    let probe-below = bit-below x.probe in
    let step-below = bit-below x.in_step in
    let gap : field 1 28 16 b ≡ x.gap = omega (arith, f.gap, f.broadcast_acknowledgement) in
    let broadcast : field 1 15 0 b ≡ x.broadcast_acknowledgement = omega (arith, f.gap, f.broadcast_acknowledgement) in
    let next : field 4 31 16 b ≡ x.next = omega (arith, f.next, f.broadcast_next) in
    let broadcast_next : field 4 15 0 b ≡ x.broadcast_next = omega (arith, f.next, f.broadcast_next) in
    let start : field 5 31 16 b ≡ x.broadcast_start = omega (arith, f.broadcast_start, f.broadcast_gap) in
    let broadcast_gap : field 5 15 0 b ≡ x.broadcast_gap = omega (arith, f.broadcast_start, f.broadcast_gap) in
    let priority : field 8 6 2 b ≡ x.priority = omega (arith, f.priority) in
    let in_step : flag 8 1 b ≡ x.in_step = let e : field 8 1 1 b ≡ bit x.in_step = omega (arith, f.priority) in ap (λ (k : ℕ). k == 1) e ∙ flag-bit x.in_step in
    let probe : flag 8 0 b ≡ x.probe = let e : field 8 0 0 b ≡ bit x.probe = omega (arith, f.priority) in ap (λ (k : ℕ). k == 1) e ∙ flag-bit x.probe in
    let unused : List ℕ = field 2 15 0 b ∷ word_at 6 b ∷ field 8 31 7 b ∷ word_at 9 b ∷ [] in
    let zero : AreZero unused = (omega arith, (l.later 2 (omega arith), (omega (arith, f.priority), (l.later 5 (omega arith), tt)))) in
    record {
      clean = both_true _ _ (all_zero-from unused zero) (eq-eqb (length b) 40 (omega arith));
      header = rw (gap, broadcast, next, broadcast_next, start, broadcast_gap, w7, probe, in_step, priority) refl;
    }

record IsResetAgain (b : List ℕ) (x : Reset) : Type 0 where
  clean : reset_is_clean b ≡ true
  reset : reset_at b ≡ x

-- of RESET and ACTIVATE
reset_again : (b : List ℕ) (t : ℕ) (x : Reset) → ResetFits x → word_at 1 b ≡ from_bit 29 t → word_at 2 b ≡ 0
    → ((i : ℕ) → i < 10 → word_at (4 + i) b ≡ get_or (reset_words x ++ (two_words x.contact ++ two_words x.peer_contact)) i 0) → length b ≡ 56 → IsResetAgain b x
unfolding reset_is_clean reset_at
reset_again b t x f w1 w2 later size =
    let w7 = later 3 (omega arith) in
    let w8 = later 4 (omega arith) in
    let w10 = later 6 (omega arith) in
    let w11 = later 7 (omega arith) in
    let w12 = later 8 (omega arith) in
    let w13 = later 9 (omega arith) in
    let priority : field 8 6 2 b ≡ x.priority = omega (arith, f.priority) in
    let contact : long_at 10 b ≡ x.contact = omega arith in
    let peer_contact : long_at 12 b ≡ x.peer_contact = omega arith in
    let unused : List ℕ = field 1 28 0 b ∷ word_at 2 b ∷ word_at 4 b ∷ word_at 5 b ∷ word_at 6 b ∷ field 8 31 7 b ∷ field 8 1 0 b ∷ word_at 9 b ∷ [] in
    let zero : AreZero unused =
    (omega arith, (w2, (later 0 (omega arith), (later 1 (omega arith), (later 2 (omega arith), (omega (arith, f.priority), (omega (arith, f.priority), (later 5 (omega arith), tt)))))))) in
    record {
      clean = both_true _ _ (all_zero-from unused zero) (eq-eqb (length b) 56 size);
      reset = rw (w7, priority, contact, peer_contact) refl;
    }

changeover_again : (b : List ℕ) (a s n : ℕ) (x : Changeover) → HeaderFits (header.Changeover x) → RestFits (header.Changeover x) n → IsSpelled b a s (header.Changeover x) n → IsAgain b (header.Changeover x)
unfolding user_is_clean changeover_is_clean header_at changeover_at word_1
changeover_again b a s n x f r l =
    let w1 = l.word_1 in
    let w4 = l.later 0 (omega arith) in
    let w5 = l.later 1 (omega arith) in
    let w10 = l.later 6 (omega arith) in
    let w11 = l.later 7 (omega arith) in
    let size = l.size in
    let broadcast : field 1 15 0 b ≡ x.broadcast_acknowledgement = omega (arith, f.broadcast_acknowledgement) in
    let count : field 4 31 16 b ≡ x.count = omega (arith, f.count, f.inner_number) in
    let inner : field 4 15 0 b ≡ x.inner_number = omega (arith, f.count, f.inner_number) in
    let bearer : field 5 0 0 b ≡ x.old_bearer = omega (arith, f.old_bearer) in
    let epoch : long_at 10 b ≡ x.old_epoch = omega arith in
    let unused : List ℕ = field 1 28 16 b ∷ field 5 31 1 b ∷ word_at 6 b ∷ word_at 7 b ∷ word_at 8 b ∷ word_at 9 b ∷ [] in
    let zero : AreZero unused =
    (omega (arith, f.broadcast_acknowledgement), (omega (arith, f.old_bearer), (l.later 2 (omega arith), (l.later 3 (omega arith), (l.later 4 (omega arith), (l.later 5 (omega arith), tt)))))) in
    let run : (nat_lt 0 (field 4 31 16 b) || ((field 4 15 0 b == 0) && (length b == 48))) ≡ true =
    is_run (field 4 31 16 b) (field 4 15 0 b) (length b) (λ none. let e = r (sym count ∙ none) in (inner ∙ e.0, omega (arith, size, e.1))) in
    record {
      clean = both_true _ _ (both_true _ _ (all_zero-from unused zero) (le-leb 48 (length b) (omega arith))) run;
      header = rw (broadcast, count, inner, bearer, epoch, changeover_type-again x.changeover_type) refl;
    }

distribution_again : (b : List ℕ) (a s n : ℕ) (x : NameDistribution) → HeaderFits (header.NameDistributor x) → RestFits (header.NameDistributor x) n → IsSpelled b a s (header.NameDistributor x) n → IsAgain b (header.NameDistributor x)
unfolding user_is_clean distribution_is_clean header_at distribution_at word_1
distribution_again b a s n x f r l =
    let w1 = l.word_1 in
    let size = l.size in
    let broadcast : field 1 15 0 b ≡ x.broadcast_acknowledgement = omega arith in
    let unused : List ℕ = field 1 28 16 b ∷ word_at 4 b ∷ word_at 5 b ∷ word_at 6 b ∷ word_at 7 b ∷ word_at 8 b ∷ word_at 9 b ∷ [] in
    let zero : AreZero unused =
    (omega arith, (l.later 0 (omega arith), (l.later 1 (omega arith), (l.later 2 (omega arith), (l.later 3 (omega arith), (l.later 4 (omega arith), (l.later 5 (omega arith), tt))))))) in
    let behind : length b - 40 ≡ n = omega arith in
    record {
      clean = both_true _ _ (both_true _ _ (both_true _ _ (all_zero-from unused zero) (le-leb 20 (length b - 40) (omega (arith, behind, r.0)))) (le-leb (length b - 40) 1400 (omega (arith, behind, r.1)))) (eq-eqb ((length b - 40) % 20) 0 (ap (λ (k : ℕ). k % 20) behind ∙ r.2));
      header = rw (broadcast, distribution_type-again x.distribution_type) refl;
    }

fragment_again : (b : List ℕ) (a s n : ℕ) (x : Fragment) → HeaderFits (header.Fragmenter x) → RestFits (header.Fragmenter x) n → IsSpelled b a s (header.Fragmenter x) n → IsAgain b (header.Fragmenter x)
unfolding user_is_clean fragment_is_clean header_at fragment_at word_1
fragment_again b a s n x f r l =
    let w1 = l.word_1 in
    let w4 = l.later 0 (omega arith) in
    let size = l.size in
    let broadcast : field 1 15 0 b ≡ x.broadcast_acknowledgement = omega arith in
    let number : field 4 15 0 b ≡ x.number = omega arith in
    let unused : List ℕ = field 1 28 16 b ∷ field 4 31 16 b ∷ word_at 5 b ∷ word_at 6 b ∷ word_at 7 b ∷ word_at 8 b ∷ word_at 9 b ∷ [] in
    let zero : AreZero unused =
    (omega arith, (omega arith, (l.later 1 (omega arith), (l.later 2 (omega arith), (l.later 3 (omega arith), (l.later 4 (omega arith), (l.later 5 (omega arith), tt))))))) in
    let behind : length b - 40 ≡ n = omega arith in
    record {
      clean = both_true _ _ (both_true _ _ (both_true _ _ (all_zero-from unused zero) (le-leb 1 (field 4 15 0 b) (omega (arith, number, f.1)))) (le-leb 1 (length b - 40) (omega (arith, behind, r.0)))) (le-leb (length b - 40) 1412 (omega (arith, behind, r.1)));
      header = rw (broadcast, number, fragment_type-again x.fragment_type) refl;
    }

discovery_again : (b : List ℕ) (a s n : ℕ) (x : Discovery) → a ≡ 0 → s ≡ 0 → n ≡ 0 → IsSpelled b a s (header.Discovery x) n → IsAgain b (header.Discovery x)
unfolding user_is_clean discovery_is_clean header_at discovery_at word_1
discovery_again b a s n x acknowledgement sequence none l =
    let w1 = l.word_1 in
    let w2 = l.word_2 in
    let w4 = l.later 0 (omega arith) in
    let size = l.size in
    let unused : List ℕ = field 1 28 0 b ∷ word_at 2 b ∷ word_at 5 b ∷ word_at 6 b ∷ word_at 7 b ∷ word_at 8 b ∷ word_at 9 b ∷ [] in
    let zero : AreZero unused =
    (omega arith, (omega arith, (l.later 1 (omega arith), (l.later 2 (omega arith), (l.later 3 (omega arith), (l.later 4 (omega arith), (l.later 5 (omega arith), tt))))))) in
    record {
      clean = both_true _ _ (all_zero-from unused zero) (eq-eqb (length b) 40 (omega arith));
      header = rw (w4, discovery_type-again x.discovery_type) refl;
    }

addressing_again : (b : List ℕ) (x : Addressing) → ((i : ℕ) → i < length (addressing_words x) → word_at (6 + i) b ≡ get_or (addressing_words x) i 0) → addressing_at (addressing_type x) b ≡ x
unfolding addressing_at
addressing_again b Connected later = refl
addressing_again b (Multicast o d k l u) later =
    let e0 = later 0 (omega arith) in
    let e1 = later 1 (omega arith) in
    let e2 = later 2 (omega arith) in
    let e3 = later 3 (omega arith) in
    let e4 = later 4 (omega arith) in
    rw (e0, e1, e2, e3, e4) refl
addressing_again b (Named o d k i) later =
    let e0 = later 0 (omega arith) in
    let e1 = later 1 (omega arith) in
    let e2 = later 2 (omega arith) in
    let e3 = later 3 (omega arith) in
    rw (e0, e1, e2, e3) refl
addressing_again b (Direct o d) later =
    let e0 = later 0 (omega arith) in
    let e1 = later 1 (omega arith) in
    rw (e0, e1) refl

get_or-third : (x y : ℕ) (ns : List ℕ) (i : ℕ) → get_or (x ∷ y ∷ ns) (2 + i) 0 ≡ get_or ns i 0
get_or-third x y ns i = let e : 2 + i ≡ suc (suc i) = omega arith in rw e refl

payload_again : (b : List ℕ) (a s n : ℕ) (x : Payload) → PayloadFits x → field 0 19 19 b ≡ bit x.destination_droppable → field 0 18 18 b ≡ bit x.source_droppable → IsSpelled b a s (header.Payload x) n → IsAgain b (header.Payload x)
unfolding payload_is_clean payload_at word_1
payload_again b a s n x f d19 d18 l =
    let w1 = l.word_1 in
    let w4 = l.later 0 (omega arith) in
    let w5 = l.later 1 (omega arith) in
    let row = is_addressing_row x.addressing in
    let type = row.type in
    let code : field 1 28 25 b ≡ x.error_code = omega (arith, f.error_code, f.reroute_count, f.lookup_scope, f.broadcast_acknowledgement) in
    let reroute : field 1 24 21 b ≡ x.reroute_count = omega (arith, f.error_code, f.reroute_count, f.lookup_scope, f.broadcast_acknowledgement) in
    let scope : field 1 20 19 b ≡ x.lookup_scope = omega (arith, f.error_code, f.reroute_count, f.lookup_scope, f.broadcast_acknowledgement) in
    let broadcast : field 1 15 0 b ≡ x.broadcast_acknowledgement = omega (arith, f.error_code, f.reroute_count, f.lookup_scope, f.broadcast_acknowledgement) in
    let zero : field 1 18 16 b ≡ 0 = omega (arith, f.error_code, f.reroute_count, f.lookup_scope, f.broadcast_acknowledgement) in
    let destination : flag 0 19 b ≡ x.destination_droppable = ap (λ (k : ℕ). k == 1) d19 ∙ flag-bit x.destination_droppable in
    let source : flag 0 18 b ≡ x.source_droppable = ap (λ (k : ℕ). k == 1) d18 ∙ flag-bit x.source_droppable in
    let none : addressing_words x.addressing ++ [] ≡ addressing_words x.addressing = append-nil (addressing_words x.addressing) in
    let behind : (i : ℕ) → i < length (addressing_words x.addressing) → word_at (6 + i) b ≡ get_or (addressing_words x.addressing) i 0 = λ i lt.
    ap (λ (k : ℕ). word_at k b) (omega arith)
    ∙ l.later (2 + i) (omega (arith, lt, ap length none))
    ∙ get_or-third x.origin_port x.destination_port (addressing_words x.addressing ++ []) i
    ∙ ap (λ (ns : List ℕ). get_or ns i 0) none in
    let addressing = addressing_again b x.addressing behind in
    record {
      clean = low_clean x.importance _ b f.importance ∙ (both_true _ _ (eq-eqb (field 1 18 16 b) 0 zero) (le-leb (field 1 28 25 b) 5 (omega (arith, code, f.error_code))));
      header = low_header x.importance _ b f.importance ∙ rw (destination, source, code, reroute, scope, broadcast, w4, w5, addressing) refl;
    }

-- ---- every packet

header_again : (b : List ℕ) (a s n : ℕ) (h : Header) → a < 2 ^ 16 → HeaderFits h → NumberingFits h a s → RestFits h n
    → field 0 19 19 b ≡ bit (is_destination_droppable h) → field 0 18 18 b ≡ bit (is_source_droppable h) → IsSpelled b a s h n → IsAgain b h
unfolding user_is_clean header_at word_1
header_again b a s n (header.Payload x) below f m r d19 d18 l = payload_again b a s n x f d19 d18 l
header_again b a s n (header.Bundler x) below f m r d19 d18 l = bundle_again b a s n x f r l
header_again b a s n (header.State x) below f m r d19 d18 l = state_again b a s n x f below m r l
header_again b a s n (header.Reset x) below f m r d19 d18 l =
    let w2 = l.word_2 in
    let size = l.size in
    let again = reset_again b 1 x f l.word_1 (omega (arith, m.0, m.1)) (λ i lt. l.later i lt) (omega (arith, r)) in
    record { clean = again.clean; header = ap header.Reset again.reset }
header_again b a s n (header.Activate x) below f m r d19 d18 l =
    let w2 = l.word_2 in
    let size = l.size in
    let again = reset_again b 2 x f l.word_1 (omega (arith, m.0, m.1)) (λ i lt. l.later i lt) (omega (arith, r)) in
    record { clean = again.clean; header = ap header.Activate again.reset }
header_again b a s n (header.Changeover x) below f m r d19 d18 l = changeover_again b a s n x f r l
header_again b a s n (header.NameDistributor x) below f m r d19 d18 l = distribution_again b a s n x f r l
header_again b a s n (header.Fragmenter x) below f m r d19 d18 l = fragment_again b a s n x f r l
header_again b a s n (header.Discovery x) below f m r d19 d18 l = discovery_again b a s n x m.0 m.1 r l

-- how many words the header and the numbers behind it have
length-addressing_words : (x : Addressing) → 4 * (6 + length (addressing_words x)) ≡ 4 * addressing_size x
length-addressing_words Connected = refl
length-addressing_words (Multicast o d k l u) = refl
length-addressing_words (Named o d k i) = refl
length-addressing_words (Direct o d) = refl

length-later : (h : Header) → 4 * (4 + length (user_words h ++ number_words h)) ≡ 4 * header_size h + numbers_size h
length-later (header.Payload x) = omega (arith, length-addressing_words x.addressing, ap length (append-nil (addressing_words x.addressing)))
length-later (header.Bundler x) = refl
length-later (header.State x) = refl
length-later (header.Reset x) = refl
length-later (header.Activate x) = refl
length-later (header.Changeover x) = refl
length-later (header.NameDistributor x) = refl
length-later (header.Fragmenter x) = refl
length-later (header.Discovery x) = refl

length-all_words : (p : Fields) → 4 * length (all_words p) ≡ 4 * header_size p.header + numbers_size p.header
length-all_words p = omega (arith, length-later p.header)

pub length-spelling : (p : Fields) → length (spelling p) ≡ size_of p
unfolding spelling
length-spelling p = omega (arith, length-append (words (all_words p)) p.rest, length-words (all_words p), length-all_words p)

drop-spelling : (p : Fields) → drop (4 * header_size p.header + numbers_size p.header) (spelling p) ≡ p.rest
unfolding spelling
drop-spelling p = drop_at (words (all_words p)) p.rest (4 * header_size p.header + numbers_size p.header) (length-words (all_words p) ∙ length-all_words p)

word_0-of : (p : Fields) → Fits p → IsWord0 (word_0 p) (user_of p.header) (header_size p.header) (bit (is_non_sequenced p.header)) (bit (is_destination_droppable p.header)) (bit (is_source_droppable p.header)) (size_of p)
unfolding word_0
word_0-of p f =
    let row = is_row p.header f.header in
    is_word_0 (user_of p.header) (header_size p.header) (bit (is_non_sequenced p.header)) (bit (is_destination_droppable p.header)) (bit (is_source_droppable p.header)) (size_of p)
    row.user row.size (bit-below (is_non_sequenced p.header)) (bit-below (is_destination_droppable p.header)) (bit-below (is_source_droppable p.header)) f.size

word_1-below : (h : Header) → HeaderFits h → (word_1 h < 2 ^ 32) × (bits 31 29 (word_1 h) ≡ type_of h)
unfolding word_1
word_1-below h f = let row = is_row h f in (omega (arith, row.type, row.types, row.below), omega (arith, row.type, row.types, row.below))

word_2-below : (p : Fields) → Fits p → word_2 p < 2 ^ 32
unfolding word_2
word_2-below p f = omega (arith, f.acknowledgement, f.sequence)

all_are_words : (p : Fields) → Fits p → AreWords (all_words p)
all_are_words p f = ((word_0-of p f).below, ((word_1-below p.header f.header).0, (word_2-below p f, (f.previous, later_are_words p.header f.header))))

word_at-spelling : (i : ℕ) (p : Fields) → Fits p → i < length (all_words p) → word_at i (spelling p) ≡ get_or (all_words p) i 0
unfolding spelling
word_at-spelling i p f lt = word_at-words i (all_words p) p.rest (all_are_words p f) lt

get_or-fifth : (x y z w : ℕ) (ns : List ℕ) (i : ℕ) → get_or (x ∷ y ∷ z ∷ w ∷ ns) (4 + i) 0 ≡ get_or ns i 0
get_or-fifth x y z w ns i = let e : 4 + i ≡ suc (suc (suc (suc i))) = omega arith in rw e refl

is_spelled : (p : Fields) → Fits p → IsSpelled (spelling p) p.acknowledgement p.sequence p.header (length p.rest)
unfolding word_2
is_spelled p f = record {
  word_1 = word_at-spelling 1 p f (omega arith);
  word_2 = word_at-spelling 2 p f (omega arith);
  later = λ i lt. word_at-spelling (4 + i) p f (omega (arith, lt)) ∙ get_or-fifth (word_0 p) (word_1 p.header) (word_2 p) p.previous (user_words p.header ++ number_words p.header) i;
  size = length-spelling p;
}

-- the fields of words 0 and 1 in the spelling
record IsFront (b : List ℕ) (p : Fields) : Type 0 where
  first : IsWord0 (word_at 0 b) (user_of p.header) (header_size p.header) (bit (is_non_sequenced p.header)) (bit (is_destination_droppable p.header)) (bit (is_source_droppable p.header)) (length b)
  type : type_at b ≡ type_of p.header

is_front : (p : Fields) → Fits p → IsFront (spelling p) p
is_front p f =
    let h = p.header in
    let w0 : word_0 p ≡ word_at 0 (spelling p) = sym (word_at-spelling 0 p f (omega arith)) in
    let w1 : word_at 1 (spelling p) ≡ word_1 h = word_at-spelling 1 p f (omega arith) in
    let sized = subst (λ (k : ℕ). IsWord0 (word_0 p) (user_of h) (header_size h) (bit (is_non_sequenced h)) (bit (is_destination_droppable h)) (bit (is_source_droppable h)) k) (sym (length-spelling p)) (word_0-of p f) in
    record {
      first = subst (λ (w : ℕ). IsWord0 w (user_of h) (header_size h) (bit (is_non_sequenced h)) (bit (is_destination_droppable h)) (bit (is_source_droppable h)) (length (spelling p))) w0 sized;
      type = ap (bits 31 29) w1 ∙ (word_1-below h f.header).1;
    }

-- a test that the bytes pass
passes : (t : Bool) (e : HeaderFault) (next : Option HeaderFault) → t ≡ true → next ≡ None → cond t next (Some e) ≡ None
passes t e next pass later = rw pass later

payload_is_short : (h : Header) (n : ℕ) → HeaderFits h → RestFits h n → (nat_lt 3 (user_of h) || nat_le n 66000) ≡ true
payload_is_short (header.Payload x) n f r = grind (arith, nat_tests)
payload_is_short (header.Bundler x) n f r = refl
payload_is_short (header.State x) n f r = refl
payload_is_short (header.Reset x) n f r = refl
payload_is_short (header.Activate x) n f r = refl
payload_is_short (header.Changeover x) n f r = refl
payload_is_short (header.NameDistributor x) n f r = refl
payload_is_short (header.Fragmenter x) n f r = refl
payload_is_short (header.Discovery x) n f r = refl

payload_rest : (h : Header) (n : ℕ) → (nat_lt 3 (user_of h) || nat_le (numbers_size h + n) 66000) ≡ (nat_lt 3 (user_of h) || nat_le n 66000)
payload_rest (header.Payload x) n = ap (λ (k : ℕ). nat_lt 3 x.importance || nat_le k 66000) (omega arith)
payload_rest (header.Bundler x) n = refl
payload_rest (header.State x) n = refl
payload_rest (header.Reset x) n = refl
payload_rest (header.Activate x) n = refl
payload_rest (header.Changeover x) n = refl
payload_rest (header.NameDistributor x) n = refl
payload_rest (header.Fragmenter x) n = refl
payload_rest (header.Discovery x) n = refl

is_word_0_clean : (b : List ℕ) (p : Fields) → Fits p → IsFront b p → word_0_is_clean (user_of p.header) b ≡ true
unfolding word_0_is_clean
is_word_0_clean b p f front =
    let w = front.first in
    let row = is_row p.header f.header in
    let droppable : (nat_le (user_of p.header) 3 || all_zero (field 0 19 19 b ∷ field 0 18 18 b ∷ [])) ≡ true =
    ap (λ (d : ℕ). nat_le (user_of p.header) 3 || all_zero (d ∷ field 0 18 18 b ∷ [])) w.destination
    ∙ ap (λ (s : ℕ). nat_le (user_of p.header) 3 || all_zero (bit (is_destination_droppable p.header) ∷ s ∷ [])) w.source
    ∙ row.droppable in
    both_true _ _ (both_true _ _ (eq-eqb (field 0 17 17 b) 0 w.zero) (eq-eqb (field 0 20 20 b) (non_sequenced (user_of p.header)) (w.non_sequenced ∙ row.sequenced))) droppable

again-of : (p : Fields) → Fits p → IsAgain (spelling p) p.header
again-of p f =
    let w = (is_front p f).first in
    header_again (spelling p) p.acknowledgement p.sequence (length p.rest) p.header f.acknowledgement f.header f.numbering f.rest w.destination w.source (is_spelled p f)

pub no_fault : (p : Fields) → Fits p → fault_of (spelling p) ≡ None
unfolding fault_of
no_fault p f =
    let b = spelling p in
    let h = p.header in
    let row = is_row h f.header in
    let front = is_front p f in
    let w = front.first in
    let size = length-spelling p in
    let whole = row.whole in
    let short : has_start b ≡ true = le-leb 24 (length b) (omega arith) in
    let sizes : is_one_of (6 ∷ 8 ∷ 10 ∷ 11 ∷ []) (size_in_words b) ≡ true = ap (is_one_of (6 ∷ 8 ∷ 10 ∷ 11 ∷ [])) w.size_in_words ∙ row.sizes in
    let header : has_header b ≡ true = both_true _ _ sizes (le-leb (4 * size_in_words b) (length b) (omega (arith, w.size_in_words))) in
    let behind : length b - 4 * size_in_words b ≡ numbers_size h + length p.rest = omega (arith, w.size_in_words) in
    let limit : (nat_lt 3 (user_at b) || nat_le (length b - 4 * size_in_words b) 66000) ≡ true =
    ap (λ (u : ℕ). nat_lt 3 u || nat_le (length b - 4 * size_in_words b) 66000) w.user
    ∙ ap (λ (k : ℕ). nat_lt 3 (user_of h) || nat_le k 66000) behind
    ∙ payload_rest h (length p.rest)
    ∙ payload_is_short h (length p.rest) f.header f.rest in
    let sized : has_size b ≡ true = both_true _ _ (eq-eqb (field 0 16 0 b) (length b) w.size) limit in
    let user : has_user (user_at b) ≡ true = ap has_user w.user ∙ row.has_user in
    let below : nat_lt (type_at b) (types_of (user_at b)) ≡ true = ap (λ (t : ℕ). nat_lt t (types_of (user_at b))) front.type ∙ ap (λ (u : ℕ). nat_lt (type_of h) (types_of u)) w.user ∙ lt-ltb (type_of h) (types_of (user_of h)) row.type in
    let of_type : size_in_words b ≡ size_of_type (user_at b) (type_at b) = w.size_in_words ∙ row.size_of_type ∙ ap (λ (u : ℕ). size_of_type u (type_of h)) (sym w.user) ∙ ap (size_of_type (user_at b)) (sym front.type) in
    let type : has_type b ≡ true = both_true _ _ below (eq-eqb (size_in_words b) (size_of_type (user_at b) (type_at b)) of_type) in
    let again = again-of p f in
    let word_0 : word_0_is_clean (user_at b) b ≡ true = ap (λ (u : ℕ). word_0_is_clean u b) w.user ∙ is_word_0_clean b p f front in
    let later : user_is_clean (user_at b) (type_at b) b ≡ true = ap (λ (u : ℕ). user_is_clean u (type_at b) b) w.user ∙ ap (λ (t : ℕ). user_is_clean (user_of h) t b) front.type ∙ again.clean in
    passes (has_start b) _ _ short
    (passes (has_version b) _ _ (eq-eqb (field 0 31 29 b) 2 w.version)
    (passes (has_header b) _ _ header
    (passes (has_size b) _ _ sized
    (passes (has_user (user_at b)) _ _ user
    (passes (has_type b) _ _ type
    (passes (is_clean b) _ _ (both_true _ _ word_0 later) refl))))))

pub again : (p : Fields) → Fits p → fields_at (spelling p) ≡ p
unfolding fields_at word_2
again p f =
    let b = spelling p in
    let h = p.header in
    let front = is_front p f in
    let l = is_spelled p f in
    let w2 = l.word_2 in
    let header : header_at (user_at b) (type_at b) b ≡ h =
    ap (λ (u : ℕ). header_at u (type_at b) b) front.first.user ∙ ap (λ (t : ℕ). header_at (user_of h) t b) front.type ∙ (again-of p f).header in
    let acknowledgement : field 2 31 16 b ≡ p.acknowledgement = omega (arith, f.acknowledgement, f.sequence) in
    let sequence : field 2 15 0 b ≡ p.sequence = omega (arith, f.acknowledgement, f.sequence) in
    let previous : word_at 3 b ≡ p.previous = word_at-spelling 3 p f (omega arith) in
    let rest : drop (4 * header_size h + numbers_size h) b ≡ p.rest = drop-spelling p in
    ap (λ (x : Header). fields_with x b) header ∙ rw (acknowledgement, sequence, previous, rest) refl

-- the size field tells where a packet ends, whatever follows
pub size_field : (p : Fields) (more : List ℕ) → Fits p → field 0 16 0 (spelling p ++ more) ≡ length (spelling p)
unfolding spelling
size_field p more f =
    let first : word_at 0 (spelling p ++ more) ≡ word_0 p =
    ap (word_at 0) (append_assoc (words (all_words p)) p.rest more) ∙ word_at-words 0 (all_words p) (p.rest ++ more) (all_are_words p f) (omega arith) in
    ap (bits 16 0) first ∙ (word_0-of p f).size ∙ sym (length-spelling p)

numbering : (h : Header) (acknowledgement sequence : ℕ) → is_non_sequenced h ≡ false → NumberingFits h acknowledgement sequence
numbering (header.Payload x) acknowledgement sequence e = tt
numbering (header.Bundler x) acknowledgement sequence e = tt
numbering (header.State x) acknowledgement sequence e = absurd cc
numbering (header.Reset x) acknowledgement sequence e = absurd cc
numbering (header.Activate x) acknowledgement sequence e = absurd cc
numbering (header.Changeover x) acknowledgement sequence e = tt
numbering (header.NameDistributor x) acknowledgement sequence e = tt
numbering (header.Fragmenter x) acknowledgement sequence e = tt
numbering (header.Discovery x) acknowledgement sequence e = absurd cc

-- a packet of a user that is sequenced may have any numbers
pub renumbered-fits : (p : Fields) (acknowledgement sequence : ℕ) → Fits p → is_non_sequenced p.header ≡ false → acknowledgement < 2 ^ 16 → sequence < 2 ^ 16 → Fits (renumbered p acknowledgement sequence)
renumbered-fits p acknowledgement sequence f sequenced low high = record {
  acknowledgement = low;
  sequence = high;
  previous = f.previous;
  header = f.header;
  numbering = numbering p.header acknowledgement sequence sequenced;
  rest = f.rest;
  size = f.size;
}
