-- What is put together: its bytes, and that it is a packet.
use Rattle.std.proofs.Common.{◌≡◌, ℕ, ◌+◌, ◌%◌, ◌^◌, ◌<◌, ◌≤◌, ◌⊎◌, inl, inr, List, [], ◌∷◌, ◌++◌, length, refl, sym, ap, subst, ◌∙◌, arith}
use Rattle.std.specs.List.{All, AllByRecursion, sum_by}
use Rattle.std.proofs.lemmas.List.{append-nil, length-append, length_push}
use Rattle.std.proofs.lemmas.List.Concat.{flat_map-append}
use Rattle.std.proofs.lemmas.List.Sums.{sum_by-cons}
use Rattle.std.proofs.lemmas.List.Elements.{recursion_from_All, All-cons, All-head, All-nil, All-push}
use Rattle.tipc_header.specs.declared.packet.Bundle.{Bundle}
use Rattle.tipc_header.specs.declared.packet.Header.TheVariants as header
use Rattle.tipc_header.specs.Spelling.{Fields, spelling}
use Rattle.tipc_header.specs.Frames.{sent_as, stamped}
use Rattle.tipc_header.specs.Grammar.{Fits}
use Rattle.tipc_header.proofs.Again.{length-spelling}
use Rattle.tipc_header.proofs.FrameWords.{stamped-spelling}
use Rattle.tipc_header.proofs.RoundTrip.{one_packet}
use Rattle.tipc_bundle.specs.Bundles.{bundle_of, bundle_with, in_a_row, joined, padded, padded_size, Carries, IsInner}
use Rattle.tipc_bundle.specs.Splitting.{AreInside, IsBundle}
use Rattle.tipc_bundle.proofs.InnerLaws.{inner-most, length-padded, not_bundler, padded_fixed}
use Rattle.tipc_bundle.proofs.Rows.{row_least, row_whole}
use Rattle.tipc_bundle.proofs.Places.{bundle-count, bundle-rest, inside_once, same_count}

-- a bundle with these bytes behind its header is a packet
pub bundle_fits : (count : ℕ) (rest : List ℕ) → 2 ≤ count → count < 2 ^ 16 → length rest % 4 ≡ 0 → 40 + length rest < 2 ^ 17 → Fits (bundle_with count rest)
bundle_fits count rest least most whole size = record {
  acknowledgement = omega arith;
  sequence = omega arith;
  previous = omega arith;
  header = (omega arith, least, most);
  numbering = tt;
  rest = whole;
  size = size;
}

pub length-bundle : (packets : List (List ℕ)) → length (spelling (bundle_of packets)) ≡ 40 + length (in_a_row packets)
length-bundle packets = length-spelling (bundle_of packets)

pub joined_several : (packets : List (List ℕ)) → 2 ≤ length packets → joined packets ≡ spelling (bundle_of packets)
unfolding joined
joined_several [] several = absurd (omega (arith, several))
joined_several (p ∷ []) several = absurd (omega (arith, several))
joined_several (p ∷ q ∷ ps) several = refl

-- the bundle of inner packets is a packet, where it has a size field
pub bundle_of-fits : (packets : List (List ℕ)) → AllByRecursion IsInner packets → 2 ≤ length packets → 40 + length (in_a_row packets) < 2 ^ 17 → Fits (bundle_of packets)
bundle_of-fits packets inner several size =
    bundle_fits (length packets) (in_a_row packets) several (omega (arith, row_least packets inner, size)) (row_whole packets) size

pub row_more : (packets : List (List ℕ)) (packet : List ℕ) → in_a_row (packets ++ packet ∷ []) ≡ in_a_row packets ++ padded packet
row_more packets packet = flat_map-append padded packets (packet ∷ []) ∙ ap (λ (xs : List ℕ). in_a_row packets ++ xs) (append-nil (padded packet))

-- ---- what waits is one packet or a bundle of several

pub one_or_several : (bytes : List ℕ) (packets : List (List ℕ)) → Carries bytes packets
    → (IsInner bytes × (packets ≡ bytes ∷ [])) ⊎ ((2 ≤ length packets) × Fits (bundle_of packets) × (bytes ≡ spelling (bundle_of packets)))
unfolding joined
one_or_several bytes [] h = absurd (omega (arith, h.some))
one_or_several bytes (p ∷ []) h = inl (subst IsInner (sym h.joined) (All-head IsInner p [] h.inner), ap (λ (x : List ℕ). x ∷ []) (sym h.joined))
one_or_several bytes (p ∷ q ∷ ps) h =
    let size : length bytes ≡ 40 + length (in_a_row (p ∷ q ∷ ps)) = ap length h.joined ∙ length-bundle (p ∷ q ∷ ps) in
    inr (omega arith, bundle_of-fits (p ∷ q ∷ ps) (recursion_from_All IsInner (p ∷ q ∷ ps) h.inner) (omega arith) (omega (arith, size, h.size)), h.joined)

-- what is read from bytes that carry packets, where it is a bundle
pub bundler_carries : (bytes : List ℕ) (packets : List (List ℕ)) (p : Fields) (x : Bundle) → Carries bytes packets → ((q : Fields) → Fits q → bytes ≡ spelling q → p ≡ q) → p.header ≡ header.Bundler x → (x.count ≡ length packets) × (padded p.rest ≡ in_a_row packets)
bundler_carries bytes packets p x h read is =
    elim (one_or_several bytes packets h) [
      | inl one ↦ absurd (not_bundler one.0.packet.header x one.0.inside (ap (λ (q : Fields). q.header) (sym (read one.0.packet one.0.fits one.0.spelled)) ∙ is))
      | inr several ↦ let same : p ≡ bundle_of packets = read (bundle_of packets) several.1 several.2 in
          (same_count x (record { broadcast_acknowledgement = 0; count = length packets }) (sym is ∙ ap (λ (q : Fields). q.header) same), ap (λ (q : Fields). padded q.rest) same ∙ padded_fixed (in_a_row packets) (row_whole packets))
    ]

-- and where it is none
pub other_carries : (bytes : List ℕ) (packets : List (List ℕ)) (p : Fields) → Carries bytes packets → ((q : Fields) → Fits q → bytes ≡ spelling q → p ≡ q) → ((x : Bundle) → p.header ≡ header.Bundler x → ⊥) → packets ≡ bytes ∷ []
other_carries bytes packets p h read none =
    elim (one_or_several bytes packets h) [
      | inl one ↦ one.1
      | inr several ↦ absurd (none _ (ap (λ (q : Fields). q.header) (read (bundle_of packets) several.1 several.2)))
    ]

-- ---- one packet more

pub more_is : (packets : List (List ℕ)) (packet waiting : List ℕ) (count : ℕ) → count ≡ length packets → padded waiting ≡ in_a_row packets → bundle_of (packets ++ packet ∷ []) ≡ bundle_with (count + 1) (padded waiting ++ padded packet)
more_is packets packet waiting count counted row =
    let many : length (packets ++ packet ∷ []) ≡ count + 1 = omega (arith, length_push packets packet, counted) in
    let rest : in_a_row (packets ++ packet ∷ []) ≡ padded waiting ++ padded packet = row_more packets packet ∙ ap (λ (xs : List ℕ). xs ++ padded packet) (sym row) in
    ap (λ (n : ℕ). bundle_with n (in_a_row (packets ++ packet ∷ []))) many ∙ ap (λ (xs : List ℕ). bundle_with (count + 1) xs) rest

pub joined_more : (packets : List (List ℕ)) (packet : List ℕ) → 0 < length packets → joined (packets ++ packet ∷ []) ≡ spelling (bundle_of (packets ++ packet ∷ []))
joined_more packets packet some = joined_several (packets ++ packet ∷ []) (omega (arith, length_push packets packet, some))

pub length-row_more : (packets : List (List ℕ)) (packet waiting : List ℕ) → padded waiting ≡ in_a_row packets → length (in_a_row (packets ++ packet ∷ [])) ≡ padded_size (length waiting) + padded_size (length packet)
length-row_more packets packet waiting row =
    omega (arith, ap length (row_more packets packet), length-append (in_a_row packets) (padded packet), ap length row, length-padded waiting, length-padded packet)

pub length-joined_more : (packets : List (List ℕ)) (packet waiting : List ℕ) → 0 < length packets → padded waiting ≡ in_a_row packets → length (joined (packets ++ packet ∷ [])) ≡ 40 + padded_size (length waiting) + padded_size (length packet)
length-joined_more packets packet waiting some row =
    omega (arith, ap length (joined_more packets packet some), length-bundle (packets ++ packet ∷ []), length-row_more packets packet waiting row)

pub more_fits : (packets : List (List ℕ)) (packet waiting : List ℕ) (count : ℕ) → All IsInner packets → IsInner packet → 0 < length packets → count ≡ length packets → padded waiting ≡ in_a_row packets
    → 40 + padded_size (length waiting) + padded_size (length packet) ≤ 1452 → Fits (bundle_with (count + 1) (padded waiting ++ padded packet))
more_fits packets packet waiting count inner one some counted row within =
    let all = recursion_from_All IsInner (packets ++ packet ∷ []) (All-push IsInner packets packet inner one) in
    subst Fits (more_is packets packet waiting count counted row)
    (bundle_of-fits (packets ++ packet ∷ []) all (omega (arith, length_push packets packet, some)) (omega (arith, length-row_more packets packet waiting row, within)))

pub carries_more : (packets : List (List ℕ)) (packet waiting bytes : List ℕ) (count : ℕ) (before : List ℕ) → Carries before packets → IsInner packet → count ≡ length packets → padded waiting ≡ in_a_row packets
    → 40 + padded_size (length waiting) + padded_size (length packet) ≤ 1452 → bytes ≡ spelling (bundle_with (count + 1) (padded waiting ++ padded packet)) → Carries bytes (packets ++ packet ∷ [])
carries_more packets packet waiting bytes count before h one counted row within spelled =
    let same : bytes ≡ joined (packets ++ packet ∷ []) = spelled ∙ sym (joined_more packets packet h.some ∙ ap spelling (more_is packets packet waiting count counted row)) in
    record {
      some = omega (arith, length_push packets packet);
      inner = All-push IsInner packets packet h.inner one;
      joined = same;
      size = omega (arith, ap length same, length-joined_more packets packet waiting h.some row, within);
    }

-- ---- laws

pub carries_itself : (packet : List ℕ) → IsInner packet → Carries packet (packet ∷ [])
unfolding joined
carries_itself packet h = record { some = omega arith; inner = All-cons IsInner packet [] h (All-nil IsInner); joined = refl; size = inner-most packet h }

length-row : (packets : List (List ℕ)) → length (in_a_row packets) ≡ sum_by (λ packet. padded_size (length packet)) packets
length-row [] = refl
length-row (p ∷ ps) =
    omega (arith, sum_by-cons (λ (packet : List ℕ). padded_size (length packet)) p ps, length-append (padded p) (in_a_row ps), length-padded p, length-row ps)

pub length-joined : (packets : List (List ℕ)) → 2 ≤ length packets → length (joined packets) ≡ 40 + sum_by (λ packet. padded_size (length packet)) packets
length-joined packets several = omega (arith, ap length (joined_several packets several), length-bundle packets, length-row packets)

-- several packets, joined, are a bundle
pub several_fit : (packets : List (List ℕ)) → All IsInner packets → 2 ≤ length packets → length (joined packets) < 2 ^ 17 → Fits (bundle_of packets)
several_fit packets inner several size =
    bundle_of-fits packets (recursion_from_All IsInner packets inner) several (omega (arith, size, ap length (joined_several packets several), length-bundle packets))

pub are_bundle : (packets : List (List ℕ)) → All IsInner packets → 2 ≤ length packets → length (joined packets) < 2 ^ 17 → IsBundle (joined packets)
are_bundle packets inner several size = record {
  packet = bundle_of packets;
  bundle = record { broadcast_acknowledgement = 0; count = length packets };
  fits = several_fit packets inner several size;
  spelled = joined_several packets several;
  user = refl;
}

pub are_inside : (packets : List (List ℕ)) → All IsInner packets → 2 ≤ length packets → length (joined packets) < 2 ^ 17 → AreInside packets (joined packets)
unfolding are_bundle
are_inside packets inner several size =
    let h = are_bundle packets inner several size in
    record { inner = inner; count = bundle-count (joined packets) h; rest = bundle-rest (joined packets) h }

-- the bundle as it is sent
sent_is : (packets : List (List ℕ)) (acknowledgement sequence previous : ℕ) → 2 ≤ length packets → stamped acknowledgement sequence previous (joined packets) ≡ spelling (sent_as acknowledgement sequence previous (bundle_of packets))
sent_is packets acknowledgement sequence previous several =
    ap (stamped acknowledgement sequence previous) (joined_several packets several) ∙ stamped-spelling (bundle_of packets) acknowledgement sequence previous

pub sent_are_bundle : (packets : List (List ℕ)) (acknowledgement sequence previous : ℕ) → All IsInner packets → 2 ≤ length packets → length (joined packets) < 2 ^ 17
    → acknowledgement < 2 ^ 16 → sequence < 2 ^ 16 → previous < 2 ^ 32 → IsBundle (stamped acknowledgement sequence previous (joined packets))
sent_are_bundle packets acknowledgement sequence previous inner several size low middle high =
    let f = several_fit packets inner several size in
    record {
      packet = sent_as acknowledgement sequence previous (bundle_of packets);
      bundle = record { broadcast_acknowledgement = 0; count = length packets };
      fits = record { acknowledgement = low; sequence = middle; previous = high; header = f.header; numbering = tt; rest = f.rest; size = f.size };
      spelled = sent_is packets acknowledgement sequence previous several;
      user = refl;
    }

pub sent_are_inside : (packets : List (List ℕ)) (acknowledgement sequence previous : ℕ) → All IsInner packets → 2 ≤ length packets → length (joined packets) < 2 ^ 17
    → acknowledgement < 2 ^ 16 → sequence < 2 ^ 16 → previous < 2 ^ 32 → AreInside packets (stamped acknowledgement sequence previous (joined packets))
unfolding sent_are_bundle
sent_are_inside packets acknowledgement sequence previous inner several size low middle high =
    let bundle = stamped acknowledgement sequence previous (joined packets) in
    let h = sent_are_bundle packets acknowledgement sequence previous inner several size low middle high in
    record { inner = inner; count = bundle-count bundle h; rest = bundle-rest bundle h }

inner_or_bundle : (bytes : List ℕ) (packets : List (List ℕ)) → IsInner bytes → Fits (bundle_of packets) → bytes ≡ spelling (bundle_of packets) → ⊥
inner_or_bundle bytes packets h fits spelled =
    let same : h.packet ≡ bundle_of packets = one_packet h.packet (bundle_of packets) h.fits fits (sym h.spelled ∙ spelled) in
    not_bundler h.packet.header _ h.inside (ap (λ (p : Fields). p.header) same)

inside_joined : (bytes : List ℕ) (packets : List (List ℕ)) → Carries bytes packets → 2 ≤ length packets → AreInside packets bytes
inside_joined bytes packets h several =
    let size = subst (λ (xs : List ℕ). length xs < 2 ^ 17) h.joined h.size in
    subst (λ (xs : List ℕ). AreInside packets xs) (sym h.joined) (are_inside packets h.inner several size)

once_by_case : (bytes : List ℕ) (xs ys : List (List ℕ))
    → (IsInner bytes × (xs ≡ bytes ∷ [])) ⊎ ((2 ≤ length xs) × Fits (bundle_of xs) × (bytes ≡ spelling (bundle_of xs)))
    → (IsInner bytes × (ys ≡ bytes ∷ [])) ⊎ ((2 ≤ length ys) × Fits (bundle_of ys) × (bytes ≡ spelling (bundle_of ys)))
    → Carries bytes xs → Carries bytes ys → xs ≡ ys
once_by_case bytes xs ys (inl a) (inl b) hx hy = a.1 ∙ sym b.1
once_by_case bytes xs ys (inl a) (inr b) hx hy = absurd (inner_or_bundle bytes ys a.0 b.1 b.2)
once_by_case bytes xs ys (inr a) (inl b) hx hy = absurd (inner_or_bundle bytes xs b.0 a.1 a.2)
once_by_case bytes xs ys (inr a) (inr b) hx hy = inside_once xs ys bytes (inside_joined bytes xs hx a.0) (inside_joined bytes ys hy b.0)

pub carried_once : (bytes : List ℕ) (xs ys : List (List ℕ)) → Carries bytes xs → Carries bytes ys → xs ≡ ys
carried_once bytes xs ys hx hy = once_by_case bytes xs ys (one_or_several bytes xs hx) (one_or_several bytes ys hy) hx hy
