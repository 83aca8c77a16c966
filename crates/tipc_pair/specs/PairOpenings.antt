-- What the packets that a link of a pair took bring, one call after the other: what the first of them carries for the far link, what that
-- frees, and what is opened.
use Rattle.std.specs.Prelude.{◌≡◌, ◌==◌, ◌&&◌, ℕ, Bool, true, not, nat_lt, List, ◌∷◌, length, Some, if◌then◌else◌}
use Rattle.std.specs.List.{list_all}
use Rattle.tipc_types.specs.declared.packet_lists.Taken.{Taken}
use Rattle.tipc_header.specs.declared.packet.Header.{Header}
use Rattle.tipc_header.specs.declared.contents.HeaderContent.{HeaderContent}
use Rattle.tipc_header.specs.declared.contents.HeaderContent.TheVariants as content
use Rattle.tipc_header.specs.declared.contents.Notice.TheVariants as notice
use Rattle.tipc_header.specs.Contents.{header_content}
use Rattle.tipc_header.specs.Spelling.{Fields}
use Rattle.tipc_tunnel.specs.Tunnels.{Tunnelled}
use Rattle.tipc_contact.specs.declared.contact.Standing.{Standing}
use Rattle.tipc_contact.specs.declared.contact.Standing.TheVariants.{Lower, Same, Higher}
use Rattle.tipc_link.specs.Hearings.{ArrivingState, IsArriving}
use Rattle.tipc_link.specs.Links.{LinkEnd, outcome_of}
use Rattle.tipc_link.specs.Records.{is_tunnel}
use Rattle.tipc_recv_window.specs.declared.outcomes.LinkOutcome.{LinkOutcome}
use Rattle.tipc_pair.specs.declared.changes.PairOutcome.{PairOutcome}
use Rattle.tipc_pair.specs.declared.link_arrivals.Carried.{Carried}
use Rattle.tipc_pair.specs.Courses.{AddsCourse, Course, LeavingState}
use Rattle.tipc_pair.specs.Facing.{PairEnds, is_up_at, other}
use Rattle.tipc_pair.specs.PairArrivals.{IsHeardAs, Heard, OpensInto, SpeaksOfFar, Unwraps, freed_at, taken_down, tunnelled_through, with_bytes}
use Rattle.tipc_link.specs.Parts.{is_quiet}

-- what a tunnel packet told and carried, where its old session was on this bearer
abbrev pub told_by : ℕ → Carried → Tunnelled
told_by bearer c = record { kind = c.kind; old = record { bearer = bearer; epoch = c.epoch }; count = c.count; number = c.number; inner = c.inner }

-- the first of these packets carries this for the far link
pub record IsCarriedIn (x : PairEnds) (taken : List Taken) (c : Carried) : Type 0 where
  pub first : Taken
  pub others : List Taken
  pub taken_is : taken ≡ first ∷ others
  pub speaks : SpeaksOfFar x first.packet (told_by (other x.bearer) c)
  pub by_is : c.by ≡ first.by

-- the first of these packets, if there is one, carries nothing for the far link
abbrev pub NoneCarriedIn : PairEnds → List Taken → Type 0
NoneCarriedIn x taken = (first : Taken) (others : List Taken) (t : Tunnelled) → taken ≡ first ∷ others → SpeaksOfFar x first.packet t → ⊥

-- what a tunnel packet frees in the far link's record, and the pair then
pub record Frees (x : PairEnds) (t : Tunnelled) (by : ℕ) (freed : List Taken) (after : PairEnds) (old new : LeavingState) : Type 0 where
  pub freed_is : freed ≡ freed_at t by (taken_down t.kind t.old.epoch x).pair.far
  pub pair : after ≡ (tunnelled_through x t by).pair
  pub told : AddsCourse old new (tunnelled_through x t by)

-- what is to be opened of the packets that the near link took
pub record Unwrapped (x : PairEnds) (taken opened : List Taken) (after : PairEnds) (old new : LeavingState) : Type 0 where
  pub course : Course
  pub carried : List Taken
  pub unwraps : Unwraps x taken course carried
  pub opened_is : opened ≡ with_bytes carried
  pub pair : after ≡ course.pair
  pub told : AddsCourse old new course

-- and what comes of it
pub record Opens (x : PairEnds) (outcome : LinkOutcome) (given : PairOutcome) (after : PairEnds) (old new : LeavingState) : Type 0 where
  pub course : Course
  pub opens : OpensInto x outcome course given
  pub pair : after ≡ course.pair
  pub told : AddsCourse old new course

-- ---- an arrival that copies nothing

-- how a contact number stands to the highest seen
abbrev pub standing_of : ℕ → ℕ → Standing
standing_of number seen = if nat_lt number seen then Lower else (if number == seen then Same else Higher)

-- and one that a packet shows which is this to its link; a packet that shows none stands as the highest
abbrev pub standing_as : PairEnds → HeaderContent → Standing
standing_as x (content.Notice (notice.Reset said)) = standing_of said.contact x.seen
standing_as x (content.Notice (notice.Activate said)) = standing_of said.contact x.seen
standing_as x other = Same

-- how the contact number that a packet shows stands to the highest seen
abbrev pub standing_with : PairEnds → Header → Standing
standing_with x h = standing_as x (header_content h)

-- a packet that was taken has bytes, and is no tunnel packet
abbrev pub is_plain : Taken → Bool
is_plain t = nat_lt 0 (length t.packet) && not (is_tunnel t.packet)

-- all that a link takes is plain
abbrev pub are_plain : LinkOutcome → Bool
are_plain (LinkOutcome.Took taken) = list_all is_plain taken
are_plain other = true

-- What a packet will make of the near link, told before: the link goes neither up nor down, and what it takes is plain.
pub record IsQuiet (x : PairEnds) (es er : ℕ) (p : Fields) (by : ℕ) (a : ArrivingState) : Type 0 where
  pub end : LinkEnd
  pub end_is : x.near ≡ Some end
  pub states : a.states ≡ outcome_of end.fsm p.header es er (is_up_at x.far)
  pub by_is : a.hearing.by ≡ by
  pub arriving : IsArriving end p a
  pub quiet : is_quiet a.states.change ≡ true
  pub plain : are_plain a.hearing.outcome ≡ true

-- the near link heard a packet, and what it took of that was opened
pub record HearsAndOpens (h : Heard) (given : PairOutcome) (after : PairEnds) (old new : LeavingState) : Type 0 where
  pub one : PairEnds
  pub outcome : LinkOutcome
  pub does : IsHeardAs h one old new outcome
  pub opens : Opens one outcome given after new new
