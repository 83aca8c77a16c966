-- Frames that are put into a box one after another.
use Rattle.std.proofs.Common.{◌≡◌, ◌≤◌, ◌<◌, ◌+◌, ◌||◌, ℕ, zero, suc, nat_lt, Bool, true, false, if◌then◌else◌, List, [], ◌++◌, length, take, refl, sym, ap, ◌∙◌, append_assoc, append-nil, length-append, subst, arith}
use Rattle.std.proofs.lemmas.List.{take-append-le, take_all}
use Rattle.std.proofs.lemmas.Bool.Decides.{nat_tests}
use Rattle.std.proofs.Math.Seq.{take-append-add}
use Rattle.tipc_outside.specs.Frames.{Adds, AddsFirst, Gains, FrameGroup, GroupGrows, Made, Out, frames_leaving, made_behind, made_first, no_frames}
use Rattle.tipc_outside.specs.declared.outgoing.Outgoing.{Outgoing}

-- a mark that is missing: neither reason holds
pub neither : (lost few : Bool) → (lost || few) ≡ false → (lost ≡ false) × (few ≡ false)
neither true few clear = absurd cc
neither false few clear = (refl, clear)

-- no fewer than all
no_fewer : (count all : ℕ) → nat_lt count all ≡ false → count ≤ all → count ≡ all
no_fewer count all clear within = grind (arith, nat_tests)

-- a group that isn't marked has all of them, and wasn't marked before
pub grows_all : {a b : FrameGroup} {xs : List Outgoing} → (h : GroupGrows a b xs) → b.lost ≡ false → (a.lost ≡ false) × (h.count ≡ length xs)
grows_all {a} {b} {xs} h kept =
    let parts = neither a.lost (nat_lt h.count (length xs)) (sym h.lost_is ∙ kept) in
    (parts.0, no_fewer h.count (length xs) parts.1 h.within)

-- a mark that is new: one is missing
is_fewer : (lost : Bool) (count all : ℕ) → lost ≡ false → true ≡ (lost || nat_lt count all) → count < all
is_fewer true count all kept is = absurd cc
is_fewer false count all kept is = grind (arith, nat_tests)

-- a box that is marked: it was so before, or one is missing
marked : (lost : Bool) (count all : ℕ) → (count < all) → true ≡ (lost || nat_lt count all)
marked true count all fewer = refl
marked false count all fewer = grind (arith, nat_tests)

-- fewer of some are fewer of more
fewer_of_more : (lost : Bool) (count all more : ℕ) → count ≤ all → all ≤ more → true ≡ (lost || nat_lt count all) → true ≡ (lost || nat_lt count more)
fewer_of_more true count all more within longer is = refl
fewer_of_more false count all more within longer is = grind (arith, nat_tests)

-- frames behind some that are all there
behind_all : (count all more : ℕ) → nat_lt count all ≡ nat_lt (more + count) (more + all)
behind_all count all more = grind (arith, nat_tests)

-- no reason more
or_false : (lost : Bool) → lost ≡ (lost || nat_lt 0 0)
or_false true = refl
or_false false = refl

-- nothing was added
pub grows_none : (o : FrameGroup) → GroupGrows o o []
grows_none o = record { count = 0; within = omega arith; front = sym (append-nil o.frames); lost_is = or_false o.lost; none = λ e. (e, refl) }

-- a group that wasn't marked and is: one is missing
pub grows_missing : {a b : FrameGroup} {xs : List Outgoing} → (h : GroupGrows a b xs) → a.lost ≡ false → b.lost ≡ true → h.count < length xs
grows_missing {a} {b} {xs} h kept lost = is_fewer a.lost h.count (length xs) kept (sym lost ∙ h.lost_is)

-- a frame is missing, and the group tells so
pub grows_fewer : (a b : FrameGroup) (xs : List Outgoing) (count : ℕ) → count < length xs → b.frames ≡ a.frames ++ take count xs → b.lost ≡ true
    → (a.lost ≡ true → b.frames ≡ a.frames) → GroupGrows a b xs
grows_fewer a b xs count fewer front lost same = record {
  count = count;
  within = omega arith;
  front = front;
  lost_is = lost ∙ marked a.lost count (length xs) fewer;
  none = λ was. (lost, same was);
}

-- what was added after some frames were, is added behind them
pub grows_more : (a b c : FrameGroup) (xs ys : List Outgoing) → GroupGrows a b xs → GroupGrows b c ys → GroupGrows a c (xs ++ ys)
grows_more a b c xs ys first second =
    elim b.lost as (λ l. b.lost ≡ l → GroupGrows a c (xs ++ ys)) [
      | false ↦ λ kept.
          let all = grows_all first kept in
          let whole : take first.count xs ≡ xs = take_all first.count xs (omega (arith, all.1)) in
          let within = second.within in
          record {
            count = length xs + second.count;
            within = omega (arith, length-append xs ys);
            front = second.front ∙ ap (λ fs. fs ++ take second.count ys) (first.front ∙ ap (λ fs. a.frames ++ fs) whole) ∙ append_assoc a.frames xs (take second.count ys) ∙ ap (λ fs. a.frames ++ fs) (sym (take-append-add xs ys second.count));
            lost_is = second.lost_is ∙ (ap (λ l. l || nat_lt second.count (length ys)) (kept ∙ sym all.0) ∙ ap (λ l. a.lost || l) (behind_all second.count (length ys) (length xs) ∙ ap (λ n. nat_lt (length xs + second.count) n) (sym (length-append xs ys))));
            none = λ e. let was = first.none e in let was_lost : b.lost ≡ true = was.0 in cc;
          }
      | true ↦ λ lost.
          let same = second.none lost in
          let within = first.within in
          record {
            count = first.count;
            within = omega (arith, length-append xs ys);
            front = same.1 ∙ first.front ∙ ap (λ fs. a.frames ++ fs) (sym (take-append-le first.count xs ys within));
            lost_is = same.0 ∙ fewer_of_more a.lost first.count (length xs) (length (xs ++ ys)) within (omega (arith, length-append xs ys)) (sym lost ∙ first.lost_is);
            none = λ e. (same.0, same.1 ∙ (first.none e).1);
          }
    ] refl

-- ---- boxes

-- nothing was put into it
pub gains_none : (o : Out) → Gains o o (record { first = []; behind = [] })
gains_none o = record { first = grows_none o.first; behind = grows_none o.behind }

-- what was put into it after some frames were, stands behind them, group by group
pub gains_more : (a b c : Out) (one two : Made) → Gains a b one → Gains b c two
    → Gains a c (record { first = one.first ++ two.first; behind = one.behind ++ two.behind })
gains_more a b c one two first second = record {
  first = grows_more a.first b.first c.first one.first two.first first.first second.first;
  behind = grows_more a.behind b.behind c.behind one.behind two.behind first.behind second.behind;
}

pub adds_none : (o : Out) → Adds o o []
adds_none o = gains_none o

pub adds_more : (a b c : Out) (xs ys : List Outgoing) → Adds a b xs → Adds b c ys → Adds a c (xs ++ ys)
adds_more a b c xs ys first second = gains_more a b c (made_behind xs) (made_behind ys) first second

pub first_more : (a b c : Out) (xs ys : List Outgoing) → AddsFirst a b xs → AddsFirst b c ys → AddsFirst a c (xs ++ ys)
first_more a b c xs ys first second = gains_more a b c (made_first xs) (made_first ys) first second

-- those that leave first were put into it, and then those behind them
pub first_and_behind : (a b c : Out) (xs ys : List Outgoing) → AddsFirst a b xs → Adds b c ys → Gains a c (record { first = xs; behind = ys })
first_and_behind a b c xs ys first second = record {
  first = subst (GroupGrows a.first c.first) (append-nil xs) (grows_more a.first b.first c.first xs [] first.first second.first);
  behind = grows_more a.behind b.behind c.behind [] ys first.behind second.behind;
}

-- a box that had none, and lost none
pub alone_all : (b : FrameGroup) (xs : List Outgoing) → (h : GroupGrows (record { frames = []; lost = false }) b xs) → b.lost ≡ false → b.frames ≡ xs
alone_all b xs h kept = h.front ∙ take_all h.count xs (omega (arith, (grows_all h kept).1))

-- a box that lost one
pub alone_fewer : (b : FrameGroup) (xs : List Outgoing) → (h : GroupGrows (record { frames = []; lost = false }) b xs) → b.lost ≡ true → h.count < length xs
alone_fewer b xs h lost = grows_missing h refl lost

-- ---- what leaves of a box

pub take-nil : (n : ℕ) → take {A = Outgoing} n [] ≡ []
take-nil zero = refl
take-nil (suc n) = refl

none_below : (n : ℕ) → nat_lt n 0 ≡ false
none_below n = grind (arith, nat_tests)

-- nothing was put into a group that had none
still_none : (b : FrameGroup) → (h : GroupGrows (record { frames = []; lost = false }) b []) → (b.frames ≡ []) × (b.lost ≡ false)
still_none b h = (h.front ∙ take-nil h.count, h.lost_is ∙ none_below h.count)

-- of frames that were put behind all others into a box that had none, the first so many leave
pub alone_leaving : {b : Out} {xs : List Outgoing} → (h : Adds no_frames b xs) → frames_leaving b ≡ take h.behind.count xs
alone_leaving {b} {xs} h =
    let none = still_none b.first h.first in
    ap (λ l. if l then b.first.frames else b.first.frames ++ b.behind.frames) none.1 ∙ (ap (λ fs. fs ++ b.behind.frames) none.0 ∙ h.behind.front)
