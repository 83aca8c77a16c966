-- Packets one behind the other: whether bytes begin well or badly, and that only one list of packets stands in them.
use Rattle.std.proofs.Common.{◌≡◌, ◌≢◌, ℕ, ◌+◌, ◌-◌, ◌*◌, ◌%◌, ◌<◌, ◌≤◌, inl, inr, List, [], ◌∷◌, ◌++◌, length, get_or, refl, sym, ap, subst, ◌∙◌, append_assoc, arith}
use Rattle.std.specs.Prelude.{replicate}
use Rattle.std.specs.List.{AllByRecursion}
use Rattle.std.proofs.lemmas.List.{append-nil, append_cancel_left, length-append, length-replicate, get_or-replicate, get_or_append_left, get_or_at}
use Rattle.std.proofs.lemmas.Bool.{cases_lt}
use Rattle.tipc_bundle.specs.Bundles.{in_a_row, padded, padded_size, IsInner}
use Rattle.tipc_bundle.specs.Splitting.{BeginsBadly, IsBad, IsBadlyPadded}
use Rattle.tipc_bundle.proofs.InnerLaws.{inner-least, inner_once, length-padded, padded-append, padded_once, padded_whole, padding_of}

pub row_whole : (packets : List (List ℕ)) → length (in_a_row packets) % 4 ≡ 0
row_whole [] = refl
row_whole (p ∷ ps) = omega (arith, length-append (padded p) (in_a_row ps), padded_whole p, row_whole ps)

pub row_least : (packets : List (List ℕ)) → AllByRecursion IsInner packets → 24 * length packets ≤ length (in_a_row packets)
row_least [] h = omega arith
row_least (p ∷ ps) h = omega (arith, length-append (padded p) (in_a_row ps), length-padded p, inner-least p h.0, row_least ps h.1)

-- ---- zeros and what follows them

zeros_within : (n z byte : ℕ) (more others : List ℕ) → z < n → replicate n 0 ++ more ≡ replicate z 0 ++ byte ∷ others → byte ≡ 0
zeros_within n z byte more others lt e =
    sym (get_or_at (replicate z 0) byte others 0 z (length-replicate {A = ℕ} z 0))
    ∙ ap (λ (xs : List ℕ). get_or xs z 0) (sym e)
    ∙ get_or_append_left (replicate n 0) more 0 z (omega (arith, lt, length-replicate {A = ℕ} n 0))
    ∙ get_or-replicate n z 0 0 lt

zeros_once : (m n a b : ℕ) (more others : List ℕ) → a ≢ 0 → b ≢ 0 → replicate m 0 ++ a ∷ more ≡ replicate n 0 ++ b ∷ others → m ≡ n
zeros_once m n a b more others ha hb e =
    elim (cases_lt m n) [
      | inl lt ↦ absurd (ha (zeros_within n m a (b ∷ others) more lt (sym e)))
      | inr le ↦ elim (cases_lt n m) [
        | inl lt ↦ absurd (hb (zeros_within m n b (a ∷ more) others lt e))
        | inr ge ↦ omega (arith, le, ge)
      ]
    ]

-- ---- where bytes begin badly

-- the packet of badly padded bytes is the one that begins them
badly_after : (bytes : List ℕ) (place : ℕ) (packet more : List ℕ) → IsBadlyPadded bytes place → IsInner packet → bytes ≡ packet ++ more → (byte : ℕ) × (others : List ℕ) × (byte ≢ 0) × (place < padded_size (length packet)) × (length packet ≤ place) × (more ≡ replicate (place - length packet) 0 ++ byte ∷ others)
badly_after bytes place packet more h inner e =
    let same : h.packet ≡ packet = inner_once h.packet packet (replicate h.zeros 0 ++ h.byte ∷ h.more) more h.inner inner (sym h.stands ∙ e) in
    let size : length h.packet ≡ length packet = ap length same in
    let stands : packet ++ (replicate h.zeros 0 ++ h.byte ∷ h.more) ≡ packet ++ more = ap (λ (p : List ℕ). p ++ (replicate h.zeros 0 ++ h.byte ∷ h.more)) (sym same) ∙ sym h.stands ∙ e in
    let rest : replicate h.zeros 0 ++ h.byte ∷ h.more ≡ more = append_cancel_left packet _ _ stands in
    let zeros : h.zeros ≡ place - length packet = omega (arith, size, h.at) in
    (h.byte, h.more, h.other, subst (λ (n : ℕ). place < padded_size n) size h.within, omega (arith, size, h.at), sym rest ∙ ap (λ (n : ℕ). replicate n 0 ++ h.byte ∷ h.more) zeros)

-- Bytes that begin with a padded inner packet don't begin badly.
pub well_or_badly : (packet bytes more : List ℕ) (place : ℕ) → IsInner packet → bytes ≡ padded packet ++ more → BeginsBadly bytes place → ⊥
unfolding padding_of
well_or_badly packet bytes more place inner e (inl h) = h.0 packet (padding_of packet ++ more) inner (e ∙ padded-append packet more)
well_or_badly packet bytes more place inner e (inr h) =
    let f = badly_after bytes place packet (padding_of packet ++ more) h inner (e ∙ padded-append packet more) in
    let at = place - length packet in
    let below : at < padded_size (length packet) - length packet = omega (arith, f.3, f.4) in
    f.2 (zeros_within (padded_size (length packet) - length packet) at f.0 more f.1 below f.5)

pub badly_once : (bytes : List ℕ) (m n : ℕ) → BeginsBadly bytes m → BeginsBadly bytes n → m ≡ n
badly_once bytes m n (inl g) (inl h) = g.1 ∙ sym h.1
badly_once bytes m n (inl g) (inr h) = absurd (g.0 h.packet _ h.inner h.stands)
badly_once bytes m n (inr g) (inl h) = absurd (h.0 g.packet _ g.inner g.stands)
badly_once bytes m n (inr g) (inr h) =
    let f = badly_after bytes n g.packet (replicate g.zeros 0 ++ g.byte ∷ g.more) h g.inner g.stands in
    let zeros : g.zeros ≡ n - length g.packet = zeros_once g.zeros (n - length g.packet) g.byte f.0 g.more f.1 g.other f.2 f.5 in
    omega (arith, zeros, g.at, f.4)

-- ---- bytes that are bad where so many more packets are to follow

bad_once : (left : ℕ) (bytes : List ℕ) (m n : ℕ) → IsBad left bytes m → IsBad left bytes n → m ≡ n
bad_once left bytes m n (inl g) (inl h) = g.2 ∙ sym h.2
bad_once left bytes m n (inl g) (inr h) = absurd (omega (arith, g.0, h.0))
bad_once left bytes m n (inr g) (inl h) = absurd (omega (arith, g.0, h.0))
bad_once left bytes m n (inr g) (inr h) = badly_once bytes m n g.1 h.1

bad_or_well : (left : ℕ) (packet bytes more : List ℕ) (place : ℕ) → 0 < left → IsInner packet → bytes ≡ padded packet ++ more → IsBad left bytes place → ⊥
bad_or_well left packet bytes more place pos inner e (inl g) = omega (arith, g.0, pos)
bad_or_well left packet bytes more place pos inner e (inr g) = well_or_badly packet bytes more place inner e g.1

-- A bad place lies within the bytes, or just behind them.
pub bad_within : (left : ℕ) (bytes : List ℕ) (place : ℕ) → IsBad left bytes place → place ≤ length bytes
bad_within left bytes place (inl g) = omega (arith, g.2)
bad_within left bytes place (inr (pos, inl g)) = omega (arith, g.1)
bad_within left bytes place (inr (pos, inr g)) =
    omega (arith, g.at, ap length g.stands, length-append g.packet (replicate g.zeros 0 ++ g.byte ∷ g.more), length-append (replicate g.zeros 0) (g.byte ∷ g.more), length-replicate {A = ℕ} g.zeros 0)

-- two readings of a row begin with the same packet
pub same_first : (x y : List ℕ) (xs ys : List (List ℕ)) (u v : List ℕ) → IsInner x → IsInner y → in_a_row (x ∷ xs) ++ u ≡ in_a_row (y ∷ ys) ++ v → (x ≡ y) × (in_a_row xs ++ u ≡ in_a_row ys ++ v)
same_first x y xs ys u v hx hy e =
    let apart : padded x ++ (in_a_row xs ++ u) ≡ padded y ++ (in_a_row ys ++ v) = sym (append_assoc (padded x) (in_a_row xs) u) ∙ e ∙ append_assoc (padded y) (in_a_row ys) v in
    let same : x ≡ y = padded_once x y (in_a_row xs ++ u) (in_a_row ys ++ v) hx hy apart in
    (same, append_cancel_left (padded x) _ _ (apart ∙ ap (λ (p : List ℕ). padded p ++ (in_a_row ys ++ v)) (sym same)))

-- Two rows that are followed by bad bytes, in the same bytes, are bad at one place.
pub same_place : (xs ys : List (List ℕ)) (u v : List ℕ) (i j m n : ℕ) → AllByRecursion IsInner xs → AllByRecursion IsInner ys → in_a_row xs ++ u ≡ in_a_row ys ++ v → i + length xs ≡ j + length ys → IsBad i u m → IsBad j v n → length (in_a_row xs) + m ≡ length (in_a_row ys) + n
same_place [] [] u v i j m n hx hy e c bu bv =
    let same : i ≡ j = omega (arith, c) in
    let once = bad_once j v m n (subst (λ (b : List ℕ). IsBad j b m) e (subst (λ (k : ℕ). IsBad k u m) same bu)) bv in
    omega (arith, once)
same_place [] (y ∷ ys) u v i j m n hx hy e c bu bv =
    absurd (bad_or_well i y u (in_a_row ys ++ v) m (omega (arith, c)) hy.0 (e ∙ append_assoc (padded y) (in_a_row ys) v) bu)
same_place (x ∷ xs) [] u v i j m n hx hy e c bu bv =
    absurd (bad_or_well j x v (in_a_row xs ++ u) n (omega (arith, c)) hx.0 (sym e ∙ append_assoc (padded x) (in_a_row xs) u) bv)
same_place (x ∷ xs) (y ∷ ys) u v i j m n hx hy e c bu bv =
    let first = same_first x y xs ys u v hx.0 hy.0 e in
    let later = same_place xs ys u v i j m n hx.1 hy.1 first.1 (omega (arith, c)) bu bv in
    omega (arith, later, ap (λ (p : List ℕ). length (padded p)) first.0, length-append (padded x) (in_a_row xs), length-append (padded y) (in_a_row ys))

-- A whole row isn't bad behind some of its packets.
pub whole_or_bad : (xs ys : List (List ℕ)) (v : List ℕ) (j n : ℕ) → AllByRecursion IsInner xs → AllByRecursion IsInner ys → in_a_row xs ≡ in_a_row ys ++ v → length xs ≡ j + length ys → IsBad j v n → ⊥
whole_or_bad [] [] v j n hx hy e c (inl g) = g.1 (sym e)
whole_or_bad [] [] v j n hx hy e c (inr g) = omega (arith, c, g.0)
whole_or_bad [] (y ∷ ys) v j n hx hy e c b = omega (arith, c)
whole_or_bad (x ∷ xs) [] v j n hx hy e c b = bad_or_well j x v (in_a_row xs) n (omega (arith, c)) hx.0 (sym e) b
whole_or_bad (x ∷ xs) (y ∷ ys) v j n hx hy e c b =
    let first = same_first x y xs ys [] v hx.0 hy.0 (append-nil (in_a_row (x ∷ xs)) ∙ e) in
    whole_or_bad xs ys v j n hx.1 hy.1 (sym (append-nil (in_a_row xs)) ∙ first.1) (omega (arith, c)) b

pub row_once : (xs ys : List (List ℕ)) → AllByRecursion IsInner xs → AllByRecursion IsInner ys → in_a_row xs ≡ in_a_row ys → length xs ≡ length ys → xs ≡ ys
row_once [] [] hx hy e c = refl
row_once [] (y ∷ ys) hx hy e c = absurd (omega (arith, c))
row_once (x ∷ xs) [] hx hy e c = absurd (omega (arith, c))
row_once (x ∷ xs) (y ∷ ys) hx hy e c =
    let first = same_first x y xs ys [] [] hx.0 hy.0 (append-nil (in_a_row (x ∷ xs)) ∙ e ∙ sym (append-nil (in_a_row (y ∷ ys)))) in
    let later = row_once xs ys hx.1 hy.1 (sym (append-nil (in_a_row xs)) ∙ first.1 ∙ append-nil (in_a_row ys)) (omega (arith, c)) in
    ap (λ (p : List ℕ). p ∷ xs) first.0 ∙ ap (λ (ps : List (List ℕ)). y ∷ ps) later

-- Nothing follows a whole row.
pub row_ends : (xs ys : List (List ℕ)) (v : List ℕ) → AllByRecursion IsInner xs → AllByRecursion IsInner ys → in_a_row xs ≡ in_a_row ys ++ v → length xs ≡ length ys → v ≡ []
row_ends [] [] v hx hy e c = sym e
row_ends [] (y ∷ ys) v hx hy e c = absurd (omega (arith, c))
row_ends (x ∷ xs) [] v hx hy e c = absurd (omega (arith, c))
row_ends (x ∷ xs) (y ∷ ys) v hx hy e c =
    let first = same_first x y xs ys [] v hx.0 hy.0 (append-nil (in_a_row (x ∷ xs)) ∙ e) in
    row_ends xs ys v hx.1 hy.1 (sym (append-nil (in_a_row xs)) ∙ first.1) (omega (arith, c))
