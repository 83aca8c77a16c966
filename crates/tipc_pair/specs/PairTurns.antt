-- What a node does at a pair in one event: one thing happens there first, then messages are put, and last the STATE that is
-- due is sent. Each call of a node is such a turn at each of its pairs; at most of them nothing happens and no message is put.
use Rattle.std.specs.Prelude.{◌≡◌, ℕ, Bool, true, false, List, [], ◌∷◌, ◌++◌, Option, Some, None, ◌≤◌}
use Rattle.tipc_types.specs.declared.link_words.BroadcastState.{BroadcastState}
use Rattle.tipc_outside.specs.declared.outgoing.Outgoing.{Outgoing}
use Rattle.tipc_header.specs.Spelling.{Fields}
use Rattle.tipc_link.specs.Parts.{IsShowable}
use Rattle.tipc_pair.specs.declared.changes.PairOutcome.{PairOutcome}
use Rattle.tipc_pair.specs.Courses.{Course, going_on, rests as nothing}
use Rattle.tipc_pair.specs.Facing.{PairEnds, active, facing, with_made}
use Rattle.tipc_pair.specs.PairArrivals.{Arrives}
use Rattle.tipc_pair.specs.PairCalls.{Puts, answered_near, at_bearer, cut_near, mended, ticked}
use Rattle.tipc_pair.specs.Messages.{pieces_for}
use Rattle.tipc_types.specs.declared.node_calls.EventNote.{EventNote}
use Rattle.tipc_types.specs.declared.node_calls.EventNote.TheVariants as event
use Rattle.tipc_pair.specs.declared.changes.PairOutcome.TheVariants as outcome

-- ---- what happens first

-- Nothing happens; an end is made on a bearer, which is mended or not; a bearer is mended or cut; a tick passes; or a packet arrives on a bearer
-- under an envelope of these two epochs, by the arrival of that number.
pub data Opening : Type 0 where
  rests : Opening
  makes : (bearer : ℕ) (is_mended : Bool) → Opening
  mends : (bearer : ℕ) → Opening
  cuts : (bearer : ℕ) → Opening
  ticks : (shown : BroadcastState) → Opening
  hears : (bearer es er : ℕ) (packet : Fields) (by : ℕ) (shown : BroadcastState) → Opening

-- what came of it: the pair's course, and what is given
pub record Outset : Type 0 where
  pub course : Course
  pub given : PairOutcome

-- nothing came of any packet
abbrev pub nothing_given : PairOutcome
nothing_given = PairOutcome.Took []

-- an event by which nothing is given
abbrev pub quietly : Course → Outset
quietly c = record { course = c; given = nothing_given }

-- an end is made on the near bearer, and tells that it is mended
abbrev pub made_near : Bool → PairEnds → Course
made_near true x = going_on (nothing (with_made x)) mended
made_near false x = nothing (with_made x)

-- the course of an arrival on a bearer, with the pair as it was seen before
abbrev pub seen_as : PairEnds → Course → Course
seen_as x c = record c { pair = facing x.bearer c.pair }

-- this opening made this of the pair; `o` is its course and what it gave
abbrev pub Happened : PairEnds → Opening → Outset → Type 0
Happened x Opening.rests o = o ≡ quietly (nothing x)
Happened x (Opening.makes bearer is_mended) o = o ≡ quietly (at_bearer bearer x (made_near is_mended))
Happened x (Opening.mends bearer) o = o ≡ quietly (at_bearer bearer x mended)
Happened x (Opening.cuts bearer) o = o ≡ quietly (at_bearer bearer x cut_near)
Happened x (Opening.ticks shown) o = o ≡ quietly (ticked shown x)
Happened x (Opening.hears bearer es er p by shown) o = (c : Course) × (given : PairOutcome)
    × Arrives (facing bearer x) es er p by shown c given × (o ≡ record { course = seen_as x c; given = given })

-- ---- messages that are put

-- the packets of a message are put on the active link
pub record PutsOne (x : PairEnds) (pieces : List (List ℕ)) (x' : PairEnds) (frames : List Outgoing) : Type 0 where
  pub bearer : ℕ
  pub active_is : active x ≡ Some bearer
  pub near : PairEnds
  pub puts : Puts (facing bearer x) pieces near frames
  pub after : x' ≡ facing x.bearer near

-- Messages are put one after the other, each in the packets that it takes; these frames leave as waiting packets move up.
pub data PutsAll : PairEnds → List (List ℕ) → List Outgoing → PairEnds → Type 0 where
  none_put : (x : PairEnds) → PutsAll x [] [] x
  puts_one : (x between last : PairEnds) (m : List ℕ) (messages : List (List ℕ)) (first frames : List Outgoing)
      → PutsOne x (pieces_for m) between first → PutsAll between messages frames last
      → PutsAll x (m ∷ messages) (first ++ frames) last

-- ---- the answer

-- The STATE that is due on a bearer is sent, with these broadcast fields. The arrival before it took so many broadcast packets, and may have
-- asked for a STATE by the broadcast.
pub record Reply : Type 0 where
  pub bearer : ℕ
  pub taken : ℕ
  pub asks : Bool
  pub shown : BroadcastState

-- the course of the answer; no answer is nothing
abbrev pub replied : Option Reply → PairEnds → Course
replied None x = nothing x
replied (Some r) x = at_bearer r.bearer x (answered_near r.taken r.asks r.shown)

-- ---- the turn

-- This happens first, these messages are put, each as its packet, and the answer is given. The pair is x' then, and these frames left: those of
-- link states and repeated packets, those of newly numbered packets, and the STATE.
pub record PairTurn (x : PairEnds) (opening : Opening) (messages : List (List ℕ)) (reply : Option Reply) (x' : PairEnds)
    (frames : List Outgoing) : Type 0 where
  pub first : Outset
  pub happened : Happened x opening first
  pub put_frames : List Outgoing
  pub put : PairEnds
  pub puts : PutsAll first.course.pair messages put_frames put
  pub after : x' ≡ (replied reply put).pair
  pub frames_are : frames ≡ first.course.states ++ (first.course.numbered ++ (put_frames ++ (replied reply put).states))

-- what the turn shows of broadcast fits its places
abbrev pub ShowsIn : Opening → Type 0
ShowsIn (Opening.ticks shown) = IsShowable shown
ShowsIn (Opening.hears bearer es er p by shown) = IsShowable shown
ShowsIn other = Unit {0}

-- what the answer shows of broadcast fits its places
abbrev pub ShowsAtLast : Option Reply → Type 0
ShowsAtLast None = Unit {0}
ShowsAtLast (Some r) = IsShowable r.shown

-- What happened at the pair first is the event of the step. An end is made by an arrival on its bearer, which is mended.
abbrev pub Suits : EventNote → Opening → Type 0
Suits note rests = Unit {0}
Suits note (makes bearer is_mended) = (is_mended ≡ true) × ((by : ℕ) × (note ≡ event.Arrive bearer by))
Suits note (mends bearer) = note ≡ event.Mend bearer
Suits note (cuts bearer) = note ≡ event.Cut bearer
Suits note (ticks shown) = note ≡ event.Tick
Suits note (hears bearer es er p by shown) = note ≡ event.Arrive bearer by

-- it happened on one of the two bearers
abbrev pub IsOnOne : Opening → Type 0
IsOnOne (makes bearer is_mended) = bearer ≤ 1
IsOnOne (mends bearer) = bearer ≤ 1
IsOnOne (cuts bearer) = bearer ≤ 1
IsOnOne (hears bearer es er p by shown) = bearer ≤ 1
IsOnOne other = Unit {0}

-- an end is made only where there is none
abbrev pub MakesNew : PairEnds → Opening → Type 0
MakesNew x (makes bearer is_mended) = (facing bearer x).near ≡ None
MakesNew x other = Unit {0}

-- the pair heard what arrived, and didn't ignore it
abbrev pub IsTakenBy : Opening → PairOutcome → Type 0
IsTakenBy (hears bearer es er p by shown) (outcome.Took opened) = Unit {0}
IsTakenBy (hears bearer es er p by shown) outcome.Deferred = Unit {0}
IsTakenBy other given = ⊥
