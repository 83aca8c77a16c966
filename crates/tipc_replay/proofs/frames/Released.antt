-- Frames that come into the air one after another, each on its bearer.
use Rattle.std.proofs.Common.{◌≡◌, ℕ, ◌+◌, zero, suc, Bool, List, Option, [], ◌∷◌, ◌++◌, filter, length, map, take, drop, refl, sym, ap, ◌∙◌, append_assoc, append-nil}
use Rattle.std.specs.Prelude.{All, ◌||◌, nat_lt}
use Rattle.std.proofs.lemmas.List.{drop-drop, map-append}
use Rattle.std.proofs.lemmas.List.Elements.{All-rest, filter-append}
use Rattle.std.proofs.Math.Seq.{take-add}
use Rattle.tipc_outside.specs.declared.outgoing.Outgoing.{Outgoing}
use Rattle.tipc_outside.specs.Frames.{Out, is_lost, frames_leaving}
use Rattle.tipc_outside.proofs.Adding.{alone_leaving}
use Rattle.tipc_replay.specs.Air.{airborne, is_on, leaving_on, loose, with_leaving, Emits, IsOut, Leaves}
use Rattle.tipc_replay.specs.Skies.{AirState}
use Rattle.tipc_replay.specs.States.{MemberState}

-- what leaves on a bearer is what leaves of the first frames, and then of the others
leaving_more : (bearer : ℕ) (met : ℕ → Option (ℕ × ℕ)) (members : List (Option MemberState)) (a : ℕ) (xs ys : List Outgoing)
    → leaving_on bearer met members a (xs ++ ys) ≡ leaving_on bearer met members a xs ++ leaving_on bearer met members a ys
leaving_more bearer met members a xs ys =
    ap (map (airborne met members a)) (filter-append (is_on bearer) xs ys) ∙ map-append (airborne met members a) (filter (is_on bearer) xs) (filter (is_on bearer) ys)

-- what comes into the air at once comes there one part after the other
pub with_more : (air : AirState) (met : ℕ → Option (ℕ × ℕ)) (members : List (Option MemberState)) (a : ℕ) (xs ys : List Outgoing)
    → with_leaving (with_leaving air met members a xs) met members a ys ≡ with_leaving air met members a (xs ++ ys)
with_more air met members a xs ys =
    let one = append_assoc air.first (leaving_on 0 met members a xs) (leaving_on 0 met members a ys) ∙ ap (λ fs. air.first ++ fs) (sym (leaving_more 0 met members a xs ys)) in
    let two = append_assoc air.second (leaving_on 1 met members a xs) (leaving_on 1 met members a ys) ∙ ap (λ fs. air.second ++ fs) (sym (leaving_more 1 met members a xs ys)) in
    λ i. record { first = one i; second = two i }

-- nothing changes nothing
pub with_none : (air : AirState) (met : ℕ → Option (ℕ × ℕ)) (members : List (Option MemberState)) (a : ℕ) → with_leaving air met members a [] ≡ air
with_none air met members a = let one = append-nil air.first in let two = append-nil air.second in λ i. record { first = one i; second = two i }

-- ---- one after another

-- so many of the frames came into the air, and the others wait
pub record IsReleasing (old now : AirState) (met : ℕ → Option (ℕ × ℕ)) (members : List (Option MemberState)) (a : ℕ) (frames waiting : List Outgoing) : Type 0 where
  pub count : ℕ
  pub air : now ≡ with_leaving old met members a (take count frames)
  pub rest : drop count frames ≡ waiting
  pub out : All (IsOut a) waiting

-- all wait at the beginning
pub releasing-start : (old : AirState) (met : ℕ → Option (ℕ × ℕ)) (members : List (Option MemberState)) (a : ℕ) (frames waiting : List Outgoing) → waiting ≡ frames → All (IsOut a) waiting
    → IsReleasing old old met members a frames waiting
releasing-start old met members a frames waiting e out = record { count = 0; air = sym (with_none old met members a); rest = sym e; out = out }

-- the first of those that wait came into the air
pub releasing-step : (old now now' : AirState) (met : ℕ → Option (ℕ × ℕ)) (members : List (Option MemberState)) (a : ℕ) (frames waiting waiting' : List Outgoing) (o : Outgoing) → IsReleasing old now met members a frames waiting
    → waiting ≡ o ∷ waiting' → now' ≡ with_leaving now met members a (o ∷ []) → IsReleasing old now' met members a frames waiting'
releasing-step old now now' met members a frames waiting waiting' o h first pushed =
    let next : drop h.count frames ≡ o ∷ waiting' = h.rest ∙ first in
    let taken : take (h.count + 1) frames ≡ take h.count frames ++ o ∷ [] = take-add h.count 1 frames ∙ ap (λ xs. take h.count frames ++ take 1 xs) next in
    record {
      count = h.count + 1;
      air = pushed ∙ ap (λ (air : AirState). with_leaving air met members a (o ∷ [])) h.air ∙ with_more old met members a (take h.count frames) (o ∷ []) ∙ ap (with_leaving old met members a) (sym taken);
      rest = sym (drop-drop 1 h.count frames) ∙ ap (drop 1) next;
      out = All-rest (IsOut a) o waiting' waiting first h.out;
    }

-- ---- through a box

-- what a box lost is lost too
pub emits_boxed : (old new : AirState) (met : ℕ → Option (ℕ × ℕ)) (members : List (Option MemberState)) (a : ℕ) (box : Out) (frames : List Outgoing) (lost more : Bool) → frames ≡ frames_leaving box → lost ≡ is_lost box
    → Emits old new met members a (loose frames) more → Emits old new met members a box (lost || more)
emits_boxed old new met members a box frames lost more are is e = record {
  count = e.count;
  air = e.air ∙ ap (λ fs. with_leaving old met members a (take e.count fs)) are;
  lost_is = ap (λ t. lost || t) e.lost_is ∙ ap (λ t. t || nat_lt e.count (length frames)) is ∙ ap (λ fs. is_lost box || nat_lt e.count (length fs)) are;
}

-- a front of a front is a front
front_of_front : {A : Type 0} (k n : ℕ) (xs : List A) → (m : ℕ) × (take k (take n xs) ≡ take m xs)
front_of_front zero n xs = (0, refl)
front_of_front (suc k) zero xs = (0, refl)
front_of_front (suc k) (suc n) [] = (0, refl)
front_of_front (suc k) (suc n) (x ∷ xs) = let rest = front_of_front k n xs in (suc rest.0, ap (λ ys. x ∷ ys) rest.1)

-- the first so many of the frames that left came into the air
pub came : (old new : AirState) (met : ℕ → Option (ℕ × ℕ)) (members : List (Option MemberState)) (a : ℕ) (frames : List Outgoing) (lost : Bool) → Leaves old new met members a frames lost
    → (count : ℕ) × (new ≡ with_leaving old met members a (take count frames))
came old new met members a frames lost l =
    let front = front_of_front l.emits.count l.boxed.behind.count frames in
    (front.0, l.emits.air ∙ ap (with_leaving old met members a) (ap (take l.emits.count) (alone_leaving l.boxed) ∙ front.1))
