-- What is told of the frames in the air, after an event: that of the frames before, and of those that left.
use Rattle.std.proofs.Common.{◌≡◌, ℕ, Bool, true, false, List, [], ◌∷◌, ◌++◌, Option, Some, None, map, take, zero, suc, if◌then◌else◌, refl, sym, ap, ◌∙◌, subst, inl, inr, append-nil, arith}
use Rattle.std.specs.Prelude.{◌⊎◌, All}
use Rattle.std.specs.List.{Contains, cons_option, filter, filter_map}
use Rattle.std.proofs.lemmas.List.Elements.{All-append, All-cons, All-contains_itself, All-head, All-nil, All-tail, All-weaker, Contains-append_cases, Contains-append_left, Contains-append_right, filter_map-append}
use Rattle.tipc_outside.specs.declared.outgoing.Outgoing.{Outgoing}
use Rattle.tipc_replay.specs.declared.air.Sent.{Sent}
use Rattle.tipc_replay.specs.Air.{Leaves, airborne, is_on, leaving_on}
use Rattle.tipc_replay.specs.Casters.{listed}
use Rattle.tipc_replay.specs.Skies.{AirState}
use Rattle.tipc_replay.specs.States.{MemberState}
use Rattle.tipc_replay.proofs.frames.Released.{came}

-- ---- of a list of frames

-- it is told of one of these frames, which left on this bearer
abbrev pub IsOfOne : {T : Type 0} → (ℕ → Sent → Option T) → (ℕ → Option (ℕ × ℕ)) → List (Option MemberState) → ℕ → List Outgoing → T → Type 0
IsOfOne told met members a frames t = (bearer : ℕ) × (o : Outgoing) × Contains frames o × (is_on bearer o ≡ true) × (told bearer (airborne met members a o) ≡ Some t)

front_there : {A : Type 0} (n : ℕ) (xs : List A) (x : A) → Contains (take n xs) x → Contains xs x
front_there zero xs x there = absurd (omega (arith, there.1))
front_there (suc n) [] x there = there
front_there (suc n) (y ∷ xs) x there = elim (Contains-append_cases (y ∷ []) (take n xs) x there) [
  | inl first ↦ Contains-append_left (y ∷ []) xs x first
  | inr later ↦ Contains-append_right (y ∷ []) xs x (front_there n xs x later)
]

module _ {T : Type 0} (told : ℕ → Sent → Option T) (met : ℕ → Option (ℕ × ℕ)) (members : List (Option MemberState)) (a : ℕ) where
  -- what is told of those that leave on a bearer
  left_told : (bearer : ℕ) (frames os : List Outgoing) → All (Contains frames) os → All (IsOfOne told met members a frames) (filter_map (told bearer) (leaving_on bearer met members a os))
  left_told bearer frames [] all = All-nil (IsOfOne told met members a frames)
  left_told bearer frames (o ∷ os) all = by (left_told bearer frames os (All-tail (Contains frames) o os all)) (is_on bearer o) refl
    where
      P : T → Type 0
      P = IsOfOne told met members a frames

      rest : List T
      rest = filter_map (told bearer) (leaving_on bearer met members a os)

      one : All P rest → is_on bearer o ≡ true → (t : Option T) → told bearer (airborne met members a o) ≡ t → All P (cons_option t rest)
      one later on None is = later
      one later on (Some t) is = All-cons P t rest (bearer, o, All-head (Contains frames) o os all, on, is) later

      by : All P rest → (b : Bool) → is_on bearer o ≡ b → All P (filter_map (told bearer) (map (airborne met members a) (if b then o ∷ filter (is_on bearer) os else filter (is_on bearer) os)))
      by later true on = one later on (told bearer (airborne met members a o)) refl
      by later false on = later

  -- nothing is told of them where it isn't of any
  left_untold : (bearer : ℕ) → ((o : Outgoing) → told bearer (airborne met members a o) ≡ None) → (os : List Outgoing) → filter_map (told bearer) (leaving_on bearer met members a os) ≡ []
  left_untold bearer none [] = refl
  left_untold bearer none (o ∷ os) = by (left_untold bearer none os) (is_on bearer o)
    where
      by : filter_map (told bearer) (leaving_on bearer met members a os) ≡ [] → (b : Bool) → filter_map (told bearer) (map (airborne met members a) (if b then o ∷ filter (is_on bearer) os else filter (is_on bearer) os)) ≡ []
      by later true = ap (λ t. cons_option t (filter_map (told bearer) (leaving_on bearer met members a os))) (none o) ∙ later
      by later false = later

-- ---- in the air

-- it was told of the air before, or is of one of the frames that left
abbrev pub IsListed : {T : Type 0} → (ℕ → Sent → Option T) → AirState → (ℕ → Option (ℕ × ℕ)) → List (Option MemberState) → ℕ → List Outgoing → T → Type 0
IsListed told old met members a frames t = Contains (listed told old) t ⊎ IsOfOne told met members a frames t

pub listed_after : {T : Type 0} (told : ℕ → Sent → Option T) (old new : AirState) (met : ℕ → Option (ℕ × ℕ)) (members : List (Option MemberState)) (a : ℕ) (frames : List Outgoing) (lost : Bool) → Leaves old new met members a frames lost
    → All (IsListed told old met members a frames) (listed told new)
listed_after {T = T} told old new met members a frames lost l =
    let front = came old new met members a frames lost l in
    let left : ℕ → List Sent = λ bearer. leaving_on bearer met members a (take front.0 frames) in
    let P : T → Type 0 = IsListed told old met members a frames in
    let among : All (Contains frames) (take front.0 frames) = All-weaker (Contains (take front.0 frames)) (Contains frames) (λ o there. front_there front.0 frames o there) (take front.0 frames) (All-contains_itself (take front.0 frames)) in
    let news : (bearer : ℕ) → All P (filter_map (told bearer) (left bearer)) = λ bearer.
    All-weaker (IsOfOne told met members a frames) P (λ t is. inr is) (filter_map (told bearer) (left bearer)) (left_told told met members a bearer frames (take front.0 frames) among) in
    let one : All P (filter_map (told 0) old.first) =
    All-weaker (Contains (filter_map (told 0) old.first)) P (λ t there. inl (Contains-append_left (filter_map (told 0) old.first) (filter_map (told 1) old.second) t there)) (filter_map (told 0) old.first) (All-contains_itself (filter_map (told 0) old.first)) in
    let two : All P (filter_map (told 1) old.second) =
    All-weaker (Contains (filter_map (told 1) old.second)) P (λ t there. inl (Contains-append_right (filter_map (told 0) old.first) (filter_map (told 1) old.second) t there)) (filter_map (told 1) old.second) (All-contains_itself (filter_map (told 1) old.second)) in
    let first : All P (filter_map (told 0) (old.first ++ left 0)) = subst (All P) (sym (filter_map-append (told 0) old.first (left 0))) (All-append P (filter_map (told 0) old.first) (filter_map (told 0) (left 0)) one (news 0)) in
    let second : All P (filter_map (told 1) (old.second ++ left 1)) = subst (All P) (sym (filter_map-append (told 1) old.second (left 1))) (All-append P (filter_map (told 1) old.second) (filter_map (told 1) (left 1)) two (news 1)) in
    subst (λ (air : AirState). All P (listed told air)) (sym front.1) (All-append P (filter_map (told 0) (old.first ++ left 0)) (filter_map (told 1) (old.second ++ left 1)) first second)

-- nothing new is listed that isn't told of any frame of the node
pub listed_still : {T : Type 0} (told : ℕ → Sent → Option T) (old new : AirState) (met : ℕ → Option (ℕ × ℕ)) (members : List (Option MemberState)) (a : ℕ) (frames : List Outgoing) (lost : Bool) → Leaves old new met members a frames lost
    → ((bearer : ℕ) (o : Outgoing) → told bearer (airborne met members a o) ≡ None) → listed told new ≡ listed told old
listed_still told old new met members a frames lost l none =
    let front = came old new met members a frames lost l in
    let left : ℕ → List Sent = λ bearer. leaving_on bearer met members a (take front.0 frames) in
    let first = filter_map-append (told 0) old.first (left 0) ∙ ap (λ ts. filter_map (told 0) old.first ++ ts) (left_untold told met members a 0 (none 0) (take front.0 frames)) ∙ append-nil (filter_map (told 0) old.first) in
    let second = filter_map-append (told 1) old.second (left 1) ∙ ap (λ ts. filter_map (told 1) old.second ++ ts) (left_untold told met members a 1 (none 1) (take front.0 frames)) ∙ append-nil (filter_map (told 1) old.second) in
    ap (λ (air : AirState). listed told air) front.1 ∙ ap (λ ts. ts ++ filter_map (told 1) (old.second ++ left 1)) first ∙ ap (λ ts. filter_map (told 0) old.first ++ ts) second
