-- What each call makes of a pair that has a link end on each bearer, but for arrivals. The near link is that of the call.
use Rattle.std.specs.Prelude.{◌≡◌, ◌<◌, ℕ, Bool, List, [], Option, Some, None, length, option_map, if◌then◌else◌}
use Rattle.tipc_types.specs.LinkStates.{is_up}
use Rattle.tipc_types.specs.declared.link_words.BroadcastState.{BroadcastState}
use Rattle.tipc_outside.specs.declared.outgoing.Outgoing.{Outgoing}
use Rattle.tipc_link_fsm.specs.Table.{Outcome, on_cut, on_tick}
use Rattle.tipc_link.specs.Links.{LinkEnd, after, answered_with, count_of, cut_end, frames, frames_with, mend_frames, mended_end, with_session}
use Rattle.tipc_link.specs.Sessions.{IsPut, SessionEnd, flush_frames, flushed}
use Rattle.tipc_pair.specs.Changeovers.{following, released}
use Rattle.tipc_pair.specs.Courses.{Course, going_on, rests}
use Rattle.tipc_pair.specs.Facing.{PairEnds, active, facing, is_up_at, with_near}

-- a call at the link of a bearer, and the pair as it was seen before
abbrev pub at_bearer : ℕ → PairEnds → (PairEnds → Course) → Course
at_bearer bearer x call = record (call (facing bearer x)) { pair = facing x.bearer (call (facing bearer x)).pair }

-- ---- the bearer is mended or cut

-- the pair with its near bearer mended, where an end was made there
abbrev pub mended_near : PairEnds → Option LinkEnd → PairEnds
mended_near x None = x
mended_near x (Some e) = with_near x (mended_end e)

-- what that end says then
abbrev pub mended_frames : Option LinkEnd → List Outgoing
mended_frames None = []
mended_frames (Some e) = mend_frames e

-- the bearer of the near link is mended
abbrev pub mended : PairEnds → Course
mended x = record (rests (mended_near x x.near)) { states = mended_frames x.near }

-- a link that goes down is held where the other one is up; nothing is sent on the bearer
abbrev pub cut_link : PairEnds → LinkEnd → Course
cut_link x e = following (with_near x (cut_end e (is_up_at x.far))) (on_cut e.fsm (is_up_at x.far)).change 0

-- the near link's bearer is cut, where an end was made there
abbrev pub cut_at : PairEnds → Option LinkEnd → Course
cut_at x None = rests x
cut_at x (Some e) = cut_link x e

-- the bearer of the near link is cut, with all that follows; then ends may be released
abbrev pub cut_near : PairEnds → Course
cut_near x = going_on (cut_at x x.near) released

-- ---- a tick

-- the near link's end after an outcome of its link states, and what follows
abbrev pub stepped : PairEnds → LinkEnd → Outcome → ℕ → BroadcastState → Course
stepped x e o epoch shown =
    going_on (record (rests (with_near x (after e o))) { states = frames e o shown }) (λ y. following y o.change epoch)

-- a tick passes at the near end, where it was made; `shown` is what a STATE tells of the broadcast
abbrev pub tick_at : BroadcastState → PairEnds → Option LinkEnd → Course
tick_at shown x None = rests x
tick_at shown x (Some e) = stepped x e (on_tick e.fsm (is_up_at x.far)) 0 shown

-- a tick passes at the near link of this pair, with all that follows
abbrev pub tick_near : BroadcastState → PairEnds → Course
tick_near shown x = tick_at shown x x.near

-- bearer 0's link first, with all that follows, and then bearer 1's
abbrev pub ticked : BroadcastState → PairEnds → Course
ticked shown x = going_on (going_on (at_bearer 0 x (tick_near shown)) (λ y. at_bearer 1 y (tick_near shown))) released

-- ---- messages

-- Packets are put on the near link, which is up: they wait behind all others, or one joins the last that waits, and packets that wait
-- move up.
pub record Puts (x : PairEnds) (pieces : List (List ℕ)) (x' : PairEnds) (frames : List Outgoing) : Type 0 where
  pub end : LinkEnd
  pub end_is : x.near ≡ Some end
  pub session : SessionEnd
  pub session_is : end.session ≡ Some session
  pub put : SessionEnd
  pub is_put : IsPut session pieces put
  pub after : x' ≡ with_near x (with_session end (flushed put))
  pub frames_are : frames ≡ flush_frames put

-- the session of the active link
abbrev pub session_at : Option LinkEnd → Option SessionEnd
session_at None = None
session_at (Some e) = e.session

-- the session of the active link; that of bearer 1's end where no link is up
abbrev pub active_session : PairEnds → Option SessionEnd
active_session x = if is_up_at (facing 0 x).near then session_at (facing 0 x).near else session_at (facing 1 x).near

-- they are put on the active link, where fewer packets than the limit wait
pub record SendsWithin (x : PairEnds) (pieces : List (List ℕ)) (limit : ℕ) (x' : PairEnds) (frames : List Outgoing) : Type 0 where
  pub bearer : ℕ
  pub active_is : active x ≡ Some bearer
  pub near : PairEnds
  pub puts : Puts (facing bearer x) pieces near frames
  pub within : length puts.session.sending.waiting < limit
  pub after : x' ≡ facing x.bearer near

-- ---- readers

-- how many packets are unacknowledged and how many wait, where the link is up
abbrev pub load_in : Option SessionEnd → ℕ × ℕ
load_in None = (0, 0)
load_in (Some s) = (length s.sending.unacked, length s.sending.waiting)

-- how many packets are unacknowledged and how many wait at an end; none of either where its link isn't up
abbrev pub load_of : Option LinkEnd → ℕ × ℕ
load_of None = (0, 0)
load_of (Some e) = if is_up e.fsm.state then load_in e.session else (0, 0)

-- how many packets each direction numbered, in the present session or the last one
abbrev pub numbers_of : Option SessionEnd → Option (ℕ × ℕ)
numbers_of session = option_map (λ (s : SessionEnd). (s.sending.numbered, s.taken)) session

-- how many packets each direction numbered at an end; None where it had no session
abbrev pub numbered_of : Option LinkEnd → Option (ℕ × ℕ)
numbered_of None = None
numbered_of (Some e) = numbers_of e.session

-- the own epoch of the present session or the last one, and how many packets were numbered in it
abbrev pub last_count_of : Option LinkEnd → Option (ℕ × ℕ)
last_count_of None = None
last_count_of (Some e) = count_of e.session

-- ---- the answer

-- the answer of the near end to an arrival, where it was made
abbrev pub answered_at : PairEnds → Option LinkEnd → ℕ → Bool → BroadcastState → Course
answered_at x None taken asks shown = rests x
answered_at x (Some e) taken asks shown =
    record (rests (with_near x (answered_with e taken asks))) { states = frames_with e taken asks shown }

-- The STATE that is due after an arrival on the near link is sent. The arrival took so many broadcast packets, and may have asked for a
-- STATE by the broadcast.
abbrev pub answered_near : ℕ → Bool → BroadcastState → PairEnds → Course
answered_near taken asks shown x = answered_at x x.near taken asks shown
