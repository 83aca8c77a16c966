-- What an event told and sent that began with nothing.
use Rattle.std.proofs.Common.{◌≡◌, [], ◌++◌, subst, ap, ◌∙◌}
use Rattle.tipc_outside.specs.Frames.{Gains, no_frames}
use Rattle.tipc_pair.specs.Courses.{AddsCourse, Course, IsToldOf, LeavingState, made_in}

all_changes : (a b : LeavingState) (course : Course) → a.changes ≡ [] → AddsCourse a b course → b.changes ≡ course.changes
all_changes a b course none told = told.changes ∙ ap (λ ts. ts ++ course.changes) none

pub told_alone : (a b : LeavingState) (course : Course) → a.changes ≡ [] → a.out ≡ no_frames → AddsCourse a b course → IsToldOf course b
told_alone a b course none out told = record { changes = all_changes a b course none told; made = subst (λ o. Gains o b.out (made_in course)) out told.made }

pub adds_alone : (b : LeavingState) (course : Course) → IsToldOf course b → AddsCourse (record { changes = []; out = no_frames }) b course
adds_alone b course told = record { changes = told.changes; made = told.made }
