-- Steps of an event, one after the other.
use Rattle.std.proofs.Common.{◌≡◌, ◌++◌, ◌∙◌, Result, Ok, Err, OnOk, refl, sym, subst, ap, append_assoc}
use Rattle.tipc_outside.proofs.Adding.{gains_more}
use Rattle.tipc_pair.specs.Courses.{AddsCourse, Course, LeavingState, going_on, made_in}
use Rattle.tipc_pair.specs.Facing.{PairEnds}

-- what two steps told and sent
pub adds_course : (a b c : LeavingState) (first : Course) (step : PairEnds → Course) → AddsCourse a b first → AddsCourse b c (step first.pair) → AddsCourse a c (going_on first step)
unfolding going_on
adds_course a b c first step h k = record {
  changes = k.changes ∙ (ap (λ xs. xs ++ (step first.pair).changes) h.changes ∙ append_assoc a.changes first.changes (step first.pair).changes);
  made = gains_more a.out b.out c.out (made_in first) (made_in (step first.pair)) h.made k.made;
}

pub then_pair : (first : Course) (step : PairEnds → Course) → (going_on first step).pair ≡ (step first.pair).pair
unfolding going_on
then_pair first step = refl

-- the step behind another, where that left this pair
pub then_after : (x y : PairEnds) (first : Course) (step : PairEnds → Course) → x ≡ first.pair → y ≡ (step x).pair → y ≡ (going_on first step).pair
then_after x y first step is after = after ∙ (ap (λ z. (step z).pair) is ∙ sym (then_pair first step))

pub then_adds : (a b c : LeavingState) (x : PairEnds) (first : Course) (step : PairEnds → Course) → x ≡ first.pair → AddsCourse a b first → AddsCourse b c (step x) → AddsCourse a c (going_on first step)
then_adds a b c x first step is h k = adds_course a b c first step h (subst (λ z. AddsCourse b c (step z)) is k)

-- and where it found memory
pub then_after_ok : {T F : Type 0} (r : Result T F) (x y : PairEnds) (first : Course) (step : PairEnds → Course) → x ≡ first.pair → OnOk r (y ≡ (step x).pair) → OnOk r (y ≡ (going_on first step).pair)
then_after_ok (Ok done) x y first step is after = then_after x y first step is after
then_after_ok (Err fault) x y first step is after = after

pub then_adds_ok : {T F : Type 0} (r : Result T F) (a b c : LeavingState) (x : PairEnds) (first : Course) (step : PairEnds → Course) → x ≡ first.pair → AddsCourse a b first
    → OnOk r (AddsCourse b c (step x)) → OnOk r (AddsCourse a c (going_on first step))
then_adds_ok (Ok done) a b c x first step is h k = then_adds a b c x first step is h k
then_adds_ok (Err fault) a b c x first step is h k = k
