-- How far a bundle was gone through: the steps, and the end.
use Rattle.std.proofs.Common.{◌≡◌, ◌≢◌, ℕ, ◌+◌, ◌-◌, ◌%◌, ◌<◌, ◌≤◌, inl, inr, List, [], ◌∷◌, ◌++◌, length, take, drop, get_or, refl, sym, ap, subst, ◌∙◌, append_assoc, arith}
use Rattle.std.specs.Prelude.{replicate}
use Rattle.std.specs.List.{All, AllByRecursion}
use Rattle.std.proofs.lemmas.List.{append-nil, drop-drop, drop_at, drop_more, get_or-replicate, get_or-take, get_or_default, length-append, length-drop, length-replicate, length-take, length-take-le, same_lists, take_rest, take-append-drop}
use Rattle.std.proofs.lemmas.List.Elements.{recursion_from_All, All-get_or, All-nil, All-push}
use Rattle.tipc_bundle.specs.Bundles.{in_a_row, padded, padded_size, IsInner}
use Rattle.tipc_bundle.specs.Splitting.{count_of, AreInside, BeginsBadly, BeginsWell, IsBadlyPadded, IsBundle, IsFirstBad}
use Rattle.tipc_bundle.proofs.InnerLaws.{length-padded, padded-append, padding_of}
use Rattle.tipc_bundle.proofs.Rows.{row_ends, row_whole, same_first}
use Rattle.tipc_bundle.proofs.Places.{bundle-whole}
use Rattle.tipc_bundle.proofs.Bundling.{row_more}

-- ---- the padding of the packet that begins bytes

zeros_are : (xs : List ℕ) (n : ℕ) → length xs ≡ n → ((k : ℕ) → k < n → get_or xs k 0 ≡ 0) → xs ≡ replicate n 0
zeros_are xs n size zero =
    same_lists xs (replicate n 0) (size ∙ sym (length-replicate {A = ℕ} n 0)) (λ k d lt. let within : k < n = omega (arith, lt, size) in get_or_default xs k d 0 lt ∙ zero k within ∙ sym (get_or-replicate n k 0 d within))

-- what follows a packet is its padding and the rest
after_packet : (bytes packet more : List ℕ) (m : ℕ) → bytes ≡ packet ++ more → bytes ≡ packet ++ (take m (drop (length packet) bytes) ++ drop m more)
after_packet bytes packet more m e =
    let rest : drop (length packet) bytes ≡ more = ap (drop (length packet)) e ∙ drop_at packet more (length packet) refl in
    e ∙ ap (λ (xs : List ℕ). packet ++ xs) (sym (take-append-drop m more) ∙ ap (λ (xs : List ℕ). take m xs ++ drop m more) (sym rest))

-- a byte of the padding isn't zero
pub badly_from : (bytes packet more : List ℕ) (end blank : ℕ) → IsInner packet → bytes ≡ packet ++ more → end ≡ padded_size (length packet)
    → let padding : List ℕ = take (end - length packet) (drop (length packet) bytes) in
    blank < length padding → get_or padding blank 0 ≢ 0 → ((k : ℕ) → k < blank → get_or padding k 0 ≡ 0) → IsBadlyPadded bytes (length packet + blank)
badly_from bytes packet more end blank inner e size within other zero =
    let m = end - length packet in
    let padding = take m (drop (length packet) bytes) in
    let front : take blank padding ≡ replicate blank 0 = zeros_are (take blank padding) blank (length-take-le blank padding (omega (arith, within))) (λ k lt. get_or-take blank padding k 0 lt ∙ zero k lt) in
    let byte = get_or padding blank 0 in
    let apart : padding ≡ replicate blank 0 ++ byte ∷ drop (blank + 1) padding =
    sym (take-append-drop blank padding) ∙ ap (λ (xs : List ℕ). xs ++ drop blank padding) front ∙ ap (λ (xs : List ℕ). replicate blank 0 ++ xs) (drop_more padding blank 0 within) in
    let short : length padding ≤ m = omega (arith, length-take m (drop (length packet) bytes)) in
    record {
      packet = packet;
      zeros = blank;
      byte = byte;
      more = drop (blank + 1) padding ++ drop m more;
      inner = inner;
      stands = after_packet bytes packet more m e ∙ ap (λ (xs : List ℕ). packet ++ (xs ++ drop m more)) apart ∙ ap (λ (xs : List ℕ). packet ++ xs) (append_assoc (replicate blank 0) (byte ∷ drop (blank + 1) padding) (drop m more));
      at = refl;
      within = omega (arith, within, short, size);
      other = other;
    }

-- each byte of the padding is zero
pub well_from : (bytes packet more : List ℕ) (end : ℕ) → IsInner packet → bytes ≡ packet ++ more → end ≡ padded_size (length packet) → length bytes % 4 ≡ 0
    → All (λ byte. byte ≡ 0) (take (end - length packet) (drop (length packet) bytes)) → BeginsWell bytes end
unfolding padding_of
well_from bytes packet more end inner e size whole zero =
    let n = length packet in
    let m = padded_size n - n in
    let same : end - n ≡ m = omega (arith, size) in
    let padding = take m (drop n bytes) in
    let long : m ≤ length (drop n bytes) = omega (arith, whole, ap length e, length-append packet more, length-drop n bytes) in
    let clean : All (λ byte. byte ≡ 0) padding = subst (λ (k : ℕ). All (λ byte. byte ≡ 0) (take k (drop n bytes))) same zero in
    let sized : length padding ≡ m = length-take-le m (drop n bytes) long in
    let blank : padding ≡ padding_of packet = zeros_are padding m sized (λ k lt. All-get_or (λ byte. byte ≡ 0) padding k 0 (omega (arith, lt, sized)) clean) in
    let stands : bytes ≡ padded packet ++ drop m more = after_packet bytes packet more m e ∙ ap (λ (xs : List ℕ). packet ++ (xs ++ drop m more)) blank ∙ sym (padded-append packet (drop m more)) in
    let rest : drop end bytes ≡ drop m more = ap (drop end) stands ∙ drop_at (padded packet) (drop m more) end (length-padded packet ∙ sym size) in
    record { packet = packet; inner = inner; taken = size ∙ sym (length-padded packet); stands = stands ∙ ap (λ (xs : List ℕ). padded packet ++ xs) (sym rest) }

-- ---- inner packets that stand before a place of a bundle

pub record StandBefore (before : List (List ℕ)) (bundle : List ℕ) (place : ℕ) : Type 0 where
  pub inner : All IsInner before
  pub rest : drop 40 bundle ≡ in_a_row before ++ drop place bundle
  pub at : place ≡ 40 + length (in_a_row before)
  pub within : place ≤ length bundle

pub none_before : (bundle : List ℕ) → 40 ≤ length bundle → StandBefore [] bundle 40
none_before bundle long = record { inner = All-nil IsInner; rest = refl; at = omega arith; within = long }

pub one_more : (before : List (List ℕ)) (bundle : List ℕ) (place size : ℕ) → StandBefore before bundle place → (h : BeginsWell (drop place bundle) size) → StandBefore (before ++ h.packet ∷ []) bundle (place + size)
one_more before bundle place size s h =
    let row : in_a_row (before ++ h.packet ∷ []) ≡ in_a_row before ++ padded h.packet = row_more before h.packet in
    let next : drop size (drop place bundle) ≡ drop (place + size) bundle = drop-drop size place bundle in
    let rest : drop 40 bundle ≡ in_a_row (before ++ h.packet ∷ []) ++ drop (place + size) bundle =
    s.rest ∙ ap (λ (xs : List ℕ). in_a_row before ++ xs) h.stands ∙ sym (append_assoc (in_a_row before) (padded h.packet) (drop size (drop place bundle)))
    ∙ ap (λ (xs : List ℕ). xs ++ drop size (drop place bundle)) (sym row) ∙ ap (λ (xs : List ℕ). in_a_row (before ++ h.packet ∷ []) ++ xs) next in
    record {
      inner = All-push IsInner before h.packet s.inner h.inner;
      rest = rest;
      at = omega (arith, s.at, h.taken, ap length row, length-append (in_a_row before) (padded h.packet));
      within = omega (arith, s.within, h.taken, ap length h.stands, length-append (padded h.packet) (drop size (drop place bundle)), length-drop place bundle);
    }

-- what is left is a multiple of 4 long
pub left_whole : (before : List (List ℕ)) (bundle : List ℕ) (place : ℕ) → IsBundle bundle → StandBefore before bundle place → length (drop place bundle) % 4 ≡ 0
left_whole before bundle place h s =
    omega (arith, bundle-whole bundle h, ap length s.rest, length-append (in_a_row before) (drop place bundle), row_whole before)

-- what follows is bad
pub bad_here : (before : List (List ℕ)) (bundle : List ℕ) (place offset : ℕ) → StandBefore before bundle place → length before < count_of bundle → BeginsBadly (drop place bundle) offset → IsFirstBad bundle (place + offset)
bad_here before bundle place offset s few bad =
    record { before = before; after = drop place bundle; offset = offset; inner = s.inner; counted = omega (arith, few); rest = s.rest; bad = inr (omega (arith, few), bad); at = omega (arith, s.at) }

-- bytes are left over
pub left_over : (before : List (List ℕ)) (bundle : List ℕ) (place : ℕ) → StandBefore before bundle place → length before ≡ count_of bundle → place < length bundle → IsFirstBad bundle place
left_over before bundle place s all more =
    let some : drop place bundle ≢ [] = λ none. omega (arith, more, ap length none, length-drop place bundle) in
    record { before = before; after = drop place bundle; offset = 0; inner = s.inner; counted = omega (arith, all); rest = s.rest; bad = inl (omega (arith, all), some, refl); at = omega (arith, s.at) }

-- ---- the next packet of a bundle in which all packets stand

next_in_row : (packets before : List (List ℕ)) (more : List ℕ) → AllByRecursion IsInner packets → AllByRecursion IsInner before → in_a_row packets ≡ in_a_row before ++ more → length before < length packets
    → (packet : List ℕ) × (others : List ℕ) × IsInner packet × (more ≡ padded packet ++ others)
next_in_row [] before more hp hb e few = absurd (omega (arith, few))
next_in_row (p ∷ ps) [] more hp hb e few = (p, in_a_row ps, hp.0, sym e)
next_in_row (p ∷ ps) (b ∷ bs) more hp hb e few =
    let first = same_first p b ps bs [] more hp.0 hb.0 (append-nil (in_a_row (p ∷ ps)) ∙ e) in
    next_in_row ps bs more hp.1 hb.1 (sym (append-nil (in_a_row ps)) ∙ first.1) (omega (arith, few))

abbrev well_at : (bytes packet others : List ℕ) → IsInner packet → bytes ≡ padded packet ++ others → BeginsWell bytes (length (padded packet))
well_at bytes packet others inner e =
    let size = length (padded packet) in
    let rest : drop size bytes ≡ others = ap (drop size) e ∙ drop_at (padded packet) others size refl in
    record { packet = packet; inner = inner; taken = refl; stands = e ∙ ap (λ (xs : List ℕ). padded packet ++ xs) (sym rest) }

-- the packet that follows those before a place
pub record IsNext (before : List (List ℕ)) (bundle : List ℕ) (place : ℕ) : Type 0 where
  pub packet : List ℕ
  pub more : List ℕ
  pub inner : IsInner packet
  pub leads : take (length bundle - place) (drop place bundle) ≡ packet ++ more
  pub after : StandBefore (before ++ packet ∷ []) bundle (place + padded_size (length packet))

next_is : (before : List (List ℕ)) (bundle : List ℕ) (place : ℕ) (packet others : List ℕ) → StandBefore before bundle place → IsInner packet → drop place bundle ≡ padded packet ++ others → IsNext before bundle place
next_is before bundle place packet others s inner e = record {
  packet = packet;
  more = padding_of packet ++ others;
  inner = inner;
  leads = take_rest bundle place ∙ e ∙ padded-append packet others;
  after = subst (λ (n : ℕ). StandBefore (before ++ packet ∷ []) bundle (place + n)) (length-padded packet) (one_more before bundle place (length (padded packet)) s (well_at (drop place bundle) packet others inner e));
}

pub next_stands : (packets before : List (List ℕ)) (bundle : List ℕ) (place : ℕ) → AreInside packets bundle → StandBefore before bundle place → length before < count_of bundle → IsNext before bundle place
next_stands packets before bundle place h s few =
    let next = next_in_row packets before (drop place bundle) (recursion_from_All IsInner packets h.inner) (recursion_from_All IsInner before s.inner) (sym h.rest ∙ s.rest) (omega (arith, few, h.count)) in
    next_is before bundle place next.0 next.1 s next.2 next.3

-- As many as are inside stand before the end.
pub all_inside : (packets before : List (List ℕ)) (bundle : List ℕ) (place : ℕ) → AreInside packets bundle → StandBefore before bundle place → length before ≡ count_of bundle → AreInside before bundle
all_inside packets before bundle place h s all =
    let end : drop place bundle ≡ [] = row_ends packets before (drop place bundle) (recursion_from_All IsInner packets h.inner) (recursion_from_All IsInner before s.inner) (sym h.rest ∙ s.rest) (sym h.count ∙ sym all) in
    record { inner = s.inner; count = sym all; rest = s.rest ∙ ap (λ (xs : List ℕ). in_a_row before ++ xs) end ∙ append-nil (in_a_row before) }
