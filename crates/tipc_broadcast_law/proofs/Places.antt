-- Tables in which an entry changed, and the places of a list of accepted packets.
use Rattle.std.proofs.Common.{◌≡◌, ℕ, ◌+◌, ◌-◌, ◌<◌, ◌≤◌, ◌==◌, true, false, if◌then◌else◌, List, [], ◌∷◌, ◌++◌, length, take, drop, map, slice_get, Some, None, refl, sym, ap, ◌∙◌, subst, length-append, length-drop, inl, inr, ◌⊎◌, eqb-true, arith}
use Rattle.std.proofs.lemmas.Bool.{cases_lt}
use Rattle.std.proofs.lemmas.Bool.Decides.{nat_tests}
use Rattle.std.proofs.lemmas.List.{drop-append-le, drop-drop, get_or_append_left, map-append, take-append-le}
use Rattle.std.proofs.Math.Seq.{get_or-append_seam, take-add}
use Rattle.std.proofs.lemmas.Option.{slice_get-get_or, slice_get_within}
use Rattle.tipc_broadcast_law.specs.Groups.{Accepted, mark, mark_in, packets, put}

-- ---- tables

pub put_same : {A : Type 0} (k : ℕ) (x : A) (f : ℕ → A) → put k x f k ≡ x
put_same k x f = let e : (k == k) ≡ true = grind (arith, nat_tests) in ap (λ b. if b then x else f k) e

pub put_other : {A : Type 0} (k : ℕ) (x : A) (f : ℕ → A) (j : ℕ) → (j ≡ k → ⊥) → put k x f j ≡ f j
put_other k x f j other = let e : (j == k) ≡ false = grind (arith, nat_tests) in ap (λ b. if b then x else f j) e

-- an entry is the one that changed, or was there before
pub same_or_not : (j k : ℕ) → (j ≡ k) ⊎ (j ≡ k → ⊥)
same_or_not j k = elim (j == k) as (λ b. (j == k) ≡ b → (j ≡ k) ⊎ (j ≡ k → ⊥)) [
  | true ↦ λ e. inl (eqb-true j k e)
  | false ↦ λ e. inr (λ is. let t : (j == k) ≡ true = subst (λ i. (j == i) ≡ true) is (let r : (j == j) ≡ true = grind (arith, nat_tests) in r) in let no : true ≡ false = sym t ∙ e in cc)
] refl

pub put_cases : {A : Type 0} (k : ℕ) (x : A) (f : ℕ → A) (j : ℕ) (y : A) → put k x f j ≡ y → ((j ≡ k) × (x ≡ y)) ⊎ ((j ≡ k → ⊥) × (f j ≡ y))
put_cases k x f j y e = elim (same_or_not j k) [
  | inl is ↦ inl (is, sym (put_same k x f) ∙ subst (λ i. put k x f i ≡ y) is e)
  | inr other ↦ inr (other, sym (put_other k x f j other) ∙ e)
]

-- ---- marks

pub mark-within : (line : List Accepted) (m c x : ℕ) → mark line m x ≡ Some c → x < length line
unfolding mark
mark-within line m c x = elim (slice_get line x) as (λ o. slice_get line x ≡ o → mark_in m o ≡ Some c → x < length line) [
  | None ↦ λ is e. cc
  | Some a ↦ λ is e. slice_get_within line x a is
] refl

pub mark-none : (m c x : ℕ) → mark [] m x ≡ Some c → ⊥
mark-none m c x e = let no : x < 0 = mark-within [] m c x e in absurd (omega arith)

slice_get-append : (line : List Accepted) (a : Accepted) (x : ℕ) → x < length line → slice_get (line ++ a ∷ []) x ≡ slice_get line x
slice_get-append line a x within =
    let more : x < length (line ++ a ∷ []) = omega (arith, length-append line (a ∷ [])) in
    slice_get-get_or (line ++ a ∷ []) x a more ∙ ap Some (get_or_append_left line (a ∷ []) a x within) ∙ sym (slice_get-get_or line x a within)

pub mark-old : (line : List Accepted) (a : Accepted) (m x : ℕ) → x < length line → mark (line ++ a ∷ []) m x ≡ mark line m x
unfolding mark
mark-old line a m x within = ap (mark_in m) (slice_get-append line a x within)

pub mark-new : (line : List Accepted) (a : Accepted) (m : ℕ) → mark (line ++ a ∷ []) m (length line) ≡ a.members m
unfolding mark
mark-new line a m =
    let more : length line < length (line ++ a ∷ []) = omega (arith, length-append line (a ∷ [])) in
    ap (mark_in m) (slice_get-get_or (line ++ a ∷ []) (length line) a more ∙ ap Some (get_or-append_seam line a [] a))

-- a mark of the longer list is an old one, or that of the new packet
pub mark-cases : (line : List Accepted) (a : Accepted) (m c x : ℕ) → mark (line ++ a ∷ []) m x ≡ Some c → ((x < length line) × (mark line m x ≡ Some c)) ⊎ ((x ≡ length line) × (a.members m ≡ Some c))
mark-cases line a m c x e =
    let within = mark-within (line ++ a ∷ []) m c x e in
    elim (same_or_not x (length line)) [
      | inl is ↦ inr (is, sym (mark-new line a m) ∙ subst (λ i. mark (line ++ a ∷ []) m i ≡ Some c) is e)
      | inr other ↦
          let before : x < length line = omega (arith, within, other, length-append line (a ∷ [])) in
          inl (before, sym (mark-old line a m x before) ∙ e)
    ]

-- a mark that was there is there
pub mark-kept : (line : List Accepted) (a : Accepted) (m c x : ℕ) → mark line m x ≡ Some c → mark (line ++ a ∷ []) m x ≡ Some c
mark-kept line a m c x e = mark-old line a m x (mark-within line m c x e) ∙ e

-- ---- packets

pub packets-none : (s : ℕ) (line : List Accepted) → packets s s line ≡ []
unfolding packets
packets-none s line = let n : s - s ≡ 0 = omega arith in ap (λ k. map (λ a. a.packet) (take k (drop s line))) n

pub packets-more : (s w : ℕ) (line : List Accepted) → s ≤ w → packets s (w + 1) line ≡ packets s w line ++ packets w (w + 1) line
unfolding packets
packets-more s w line low =
    let parts : w + 1 - s ≡ (w - s) + 1 = omega arith in
    let one : w + 1 - w ≡ 1 = omega arith in
    let at : s + (w - s) ≡ w = omega arith in
    ap (λ n. map (λ a. a.packet) (take n (drop s line))) parts
    ∙ ap (map (λ a. a.packet)) (take-add (w - s) 1 (drop s line))
    ∙ map-append (λ a. a.packet) (take (w - s) (drop s line)) (take 1 (drop (w - s) (drop s line)))
    ∙ ap (λ xs. map (λ a. a.packet) (take (w - s) (drop s line)) ++ map (λ a. a.packet) (take 1 xs)) (drop-drop (w - s) s line ∙ ap (λ n. drop n line) at)
    ∙ ap (λ n. map (λ a. a.packet) (take (w - s) (drop s line)) ++ map (λ a. a.packet) (take n (drop w line))) (sym one)

-- packets within the list stay the same when it grows
pub packets-old : (s w : ℕ) (line more : List Accepted) → w ≤ length line → packets s w (line ++ more) ≡ packets s w line
unfolding packets
packets-old s w line more within =
    elim (cases_lt (length line) s) [
      | inr inside ↦
          let near : w - s ≤ length (drop s line) = omega (arith, length-drop s line) in
          ap (λ xs. map (λ a. a.packet) (take (w - s) xs)) (drop-append-le s line more inside) ∙ ap (map (λ a. a.packet)) (take-append-le (w - s) (drop s line) more near)
      | inl past ↦
          let none : w - s ≡ 0 = omega arith in
          ap (λ n. map (λ a. a.packet) (take n (drop s (line ++ more)))) none ∙ ap (λ n. map (λ a. a.packet) (take n (drop s line))) (sym none)
    ]
