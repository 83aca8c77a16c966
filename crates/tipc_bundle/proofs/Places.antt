-- Which packets stand in a bundle, and which place of it is bad first: one answer at most.
use Rattle.std.proofs.Common.{◌≡◌, ℕ, ◌+◌, ◌-◌, ◌*◌, ◌%◌, ◌^◌, ◌<◌, Bool, true, false, cond, List, length, drop, sym, ap, subst, ◌∙◌, arith}
use Rattle.std.specs.Prelude.{nat_le, ◌==◌}
use Rattle.std.proofs.lemmas.List.{length-append}
use Rattle.std.proofs.lemmas.List.Elements.{recursion_from_All}
use Rattle.tipc_header.specs.declared.packet.Bundle.{Bundle}
use Rattle.tipc_header.specs.declared.packet.Header.{Header}
use Rattle.tipc_header.specs.declared.packet.Header.TheVariants as header
use Rattle.tipc_header.specs.Users.{header_size}
use Rattle.tipc_header.specs.Spelling.{Fields, numbers_size}
use Rattle.tipc_header.specs.Grammar.{HeaderFits, RestFits}
use Rattle.tipc_header.specs.Reading.{field, header_at, user_at, type_at, rest_start, fields_at, payload_at, bundle_at, state_at, reset_at, changeover_at, distribution_at, fragment_at, discovery_at}
use Rattle.tipc_header.proofs.Again.{again, length-spelling}
use Rattle.tipc_bundle.specs.Bundles.{in_a_row, IsInner}
use Rattle.tipc_bundle.specs.Splitting.{count_of, rest_of, AreInside, IsBundle, IsFirstBad}
use Rattle.tipc_bundle.proofs.Rows.{bad_within, row_once, same_place, whole_or_bad}

-- ---- a bundle's count and rest

unfoldable pub bundler_count : Header → ℕ
bundler_count (header.Bundler b) = b.count
bundler_count _ = 0

-- Of the headers that words 0 and 1 choose from, the bundler's alone has a count.
chosen : (low six seven state reset ten eleven twelve : Bool) (u t n : ℕ) (b : List ℕ) → 0 < n
    → bundler_count (cond low (payload_at u t b) (cond six (bundle_at b) (cond seven (cond state (state_at b) (cond reset (header.Reset (reset_at b)) (header.Activate (reset_at b)))) (cond ten (changeover_at t b) (cond eleven (distribution_at t b) (cond twelve (fragment_at t b) (discovery_at t b))))))) ≡ n
    → field 4 31 16 b ≡ n
unfolding bundler_count payload_at bundle_at state_at changeover_at distribution_at fragment_at discovery_at
chosen true six seven state reset ten eleven twelve u t n b pos e = absurd (omega (arith, pos, e))
chosen false true seven state reset ten eleven twelve u t n b pos e = e
chosen false false true true reset ten eleven twelve u t n b pos e = absurd (omega (arith, pos, e))
chosen false false true false true ten eleven twelve u t n b pos e = absurd (omega (arith, pos, e))
chosen false false true false false ten eleven twelve u t n b pos e = absurd (omega (arith, pos, e))
chosen false false false state reset true eleven twelve u t n b pos e = absurd (omega (arith, pos, e))
chosen false false false state reset false true twelve u t n b pos e = absurd (omega (arith, pos, e))
chosen false false false state reset false false true u t n b pos e = absurd (omega (arith, pos, e))
chosen false false false state reset false false false u t n b pos e = absurd (omega (arith, pos, e))

counted : (u t n : ℕ) (b : List ℕ) → 0 < n → bundler_count (header_at u t b) ≡ n → field 4 31 16 b ≡ n
unfolding header_at
counted u t n b pos e = chosen (nat_le u 3) (u == 6) (u == 7) (t == 0) (t == 1) (u == 10) (u == 11) (u == 12) u t n b pos e

pub same_count : (x y : Bundle) → header.Bundler x ≡ header.Bundler y → x.count ≡ y.count
unfolding bundler_count
same_count x y e = ap bundler_count e

pub bundle-count : (b : List ℕ) (h : IsBundle b) → count_of b ≡ h.bundle.count
unfolding fields_at bundler_count
bundle-count b h =
    let fits = subst HeaderFits h.user h.fits.header in
    let read : header_at (user_at b) (type_at b) b ≡ header.Bundler h.bundle = ap (λ (x : List ℕ). header_at (user_at x) (type_at x) x) h.spelled ∙ ap (λ (p : Fields). p.header) (again h.packet h.fits) ∙ h.user in
    counted (user_at b) (type_at b) h.bundle.count b (omega (arith, fits.1)) (ap bundler_count read)

pub bundle-rest : (b : List ℕ) (h : IsBundle b) → rest_of b ≡ h.packet.rest
unfolding fields_at
bundle-rest b h =
    let read = again h.packet h.fits in
    let header : header_at (user_at b) (type_at b) b ≡ header.Bundler h.bundle = ap (λ (x : List ℕ). header_at (user_at x) (type_at x) x) h.spelled ∙ ap (λ (p : Fields). p.header) read ∙ h.user in
    ap (λ (x : Header). drop (rest_start x) b) (sym header) ∙ ap (λ (x : List ℕ). (fields_at x).rest) h.spelled ∙ ap (λ (p : Fields). p.rest) read

pub bundle-length : (b : List ℕ) (h : IsBundle b) → length b ≡ 40 + length (rest_of b)
bundle-length b h =
    let size : 4 * header_size h.packet.header + numbers_size h.packet.header ≡ 40 = ap (λ (x : Header). 4 * header_size x + numbers_size x) h.user in
    omega (arith, size, ap length h.spelled, length-spelling h.packet, ap length (bundle-rest b h))

pub bundle-whole : (b : List ℕ) (h : IsBundle b) → length (rest_of b) % 4 ≡ 0
bundle-whole b h = subst (λ (xs : List ℕ). length xs % 4 ≡ 0) (sym (bundle-rest b h)) (subst (λ (x : Header). RestFits x (length h.packet.rest)) h.user h.fits.rest)

pub bundle-most : (b : List ℕ) (h : IsBundle b) → length b < 2 ^ 17
bundle-most b h = omega (arith, ap length h.spelled, length-spelling h.packet, h.fits.size)

-- ---- one answer at most

pub inside_once : (xs ys : List (List ℕ)) (b : List ℕ) → AreInside xs b → AreInside ys b → xs ≡ ys
inside_once xs ys b hx hy =
    row_once xs ys (recursion_from_All IsInner xs hx.inner) (recursion_from_All IsInner ys hy.inner) (sym hx.rest ∙ hy.rest) (sym hx.count ∙ hy.count)

pub inside_or_bad : (xs : List (List ℕ)) (b : List ℕ) (place : ℕ) → AreInside xs b → IsFirstBad b place → ⊥
inside_or_bad xs b place h bad =
    whole_or_bad xs bad.before bad.after (count_of b - length bad.before) bad.offset (recursion_from_All IsInner xs h.inner) (recursion_from_All IsInner bad.before bad.inner) (sym h.rest ∙ bad.rest) (omega (arith, h.count, bad.counted)) bad.bad

pub bad_place_once : (b : List ℕ) (m n : ℕ) → IsFirstBad b m → IsFirstBad b n → m ≡ n
bad_place_once b m n g h =
    let same = same_place g.before h.before g.after h.after (count_of b - length g.before) (count_of b - length h.before) g.offset h.offset (recursion_from_All IsInner g.before g.inner) (recursion_from_All IsInner h.before h.inner) (sym g.rest ∙ h.rest) (omega (arith, g.counted, h.counted)) g.bad h.bad in
    omega (arith, same, g.at, h.at)

pub bad_place-most : (b : List ℕ) (place : ℕ) → IsBundle b → IsFirstBad b place → place < 2 ^ 17
bad_place-most b place h bad =
    let near = bad_within (count_of b - length bad.before) bad.after bad.offset bad.bad in
    omega (arith, near, bad.at, ap length bad.rest, length-append (in_a_row bad.before) bad.after, bundle-length b h, bundle-most b h)
