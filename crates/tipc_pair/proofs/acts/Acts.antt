-- The acts of which each call of a pair is made: what a single act makes of the pair, and what it is that a course is a run of acts.
use Rattle.std.specs.Prelude.{◌≡◌, ℕ, Bool, true, List, [], ◌∷◌, ◌++◌, Some}
use Rattle.tipc_types.specs.declared.link_words.BroadcastState.{BroadcastState}
use Rattle.tipc_types.specs.declared.packet_lists.Taken.{Taken}
use Rattle.tipc_outside.specs.declared.outgoing.Outgoing.{Outgoing}
use Rattle.tipc_header.specs.Spelling.{Fields}
use Rattle.tipc_tunnel.specs.Tunnels.{Tunnelled}
use Rattle.tipc_fragments.specs.Joining.{Joining}
use Rattle.tipc_reassembly.specs.declared.opening.Opened.{Opened}
use Rattle.tipc_reassembly.specs.Opening.{BringsAll}
use Rattle.tipc_link_fsm.specs.declared.changes.Change.{Change}
use Rattle.tipc_link_fsm.specs.declared.changes.Change.TheVariants.{Down, Up}
use Rattle.tipc_link_fsm.specs.Table.{Outcome, on_cut, on_peer_tunnel, on_reset, on_tick}
use Rattle.tipc_link.specs.Links.{LinkEnd, after, answered_with, arrival_end, cut_end, frames, frames_with, known, mend_frames, mended_end, numbers_at, outcome_of, release_frames, repeats_at, tunnelled_down, with_session}
use Rattle.tipc_link.specs.Sessions.{IsPut, SessionEnd, flush_frames, flushed}
use Rattle.tipc_pair.specs.declared.transitions.Transition.{Transition}
use Rattle.tipc_pair.specs.declared.transitions.Transition.TheVariants.{LinkDown, LinkUp}
use Rattle.tipc_pair.specs.Changeovers.{following, gone_down, gone_up, is_clear, let_go, risen, shown_with}
use Rattle.tipc_pair.specs.Courses.{Course, going_on, rests}
use Rattle.tipc_pair.specs.Facing.{PairEnds, is_up_at, turned, with_made, with_near}
use Rattle.tipc_pair.specs.PairArrivals.{inner_taken}

-- What is done at the near link of a pair, with what it has from without:
--   an end is made; its bearer is mended, or cut; a tick passes there
--   a RESET under this epoch arrives; another packet arrives, under an envelope of these two epochs and by the arrival of that number
--   a tunnel packet on the other link names this epoch of the peer; the peer shows this contact number, a higher one than before
--   an end that is held is released; the packet inside a tunnel packet is counted
--   packets that were taken are opened, and this comes of them; packets are put; a STATE that is due is sent
pub data Act : Type 0 where
  makes : Act
  mends : Act
  cuts : Act
  ticks : (shown : BroadcastState) → Act
  resets : (es : ℕ) (shown : BroadcastState) → Act
  meets : (es er : ℕ) (packet : Fields) (by : ℕ) (shown : BroadcastState) → Act
  names : (epoch : ℕ) → Act
  counts : (number : ℕ) → Act
  lets_go : Act
  carries : (t : Tunnelled) (by : ℕ) → Act
  opens : (packets : List Taken) (given : List Opened) → Act
  puts : (pieces : List (List ℕ)) → Act
  answers : (taken : ℕ) (asks : Bool) (shown : BroadcastState) → Act

-- the course by which the near end becomes this one, and these frames leave
abbrev pub near_course : PairEnds → LinkEnd → List Outgoing → List Outgoing → Course
near_course x e states numbered = record (rests (with_near x e)) { states = states; numbered = numbered }

-- By this act the link states of the near end had this outcome: the end then, the frames that leave, and the epoch that was shown.
pub data Steps (x : PairEnds) (e : LinkEnd) : Act → Outcome → LinkEnd → List Outgoing → List Outgoing → ℕ → Type 0 where
  cut : Steps x e cuts (on_cut e.fsm (is_up_at x.far)) (cut_end e (is_up_at x.far)) [] [] 0
  tick : (shown : BroadcastState)
      → Steps x e (ticks shown) (on_tick e.fsm (is_up_at x.far)) (after e (on_tick e.fsm (is_up_at x.far)))
      (frames e (on_tick e.fsm (is_up_at x.far)) shown) [] 0
  reset : (es : ℕ) (held : Bool) (shown : BroadcastState)
      → Steps x e (resets es shown) (on_reset e.fsm es held) (after e (on_reset e.fsm es held)) (frames e (on_reset e.fsm es held) shown) [] es
  meet : (es er : ℕ) (p : Fields) (by : ℕ) (shown : BroadcastState)
      → Steps x e (meets es er p by shown) (outcome_of e.fsm p.header es er (is_up_at x.far))
      (arrival_end e (outcome_of e.fsm p.header es er (is_up_at x.far)) p by)
      (frames e (outcome_of e.fsm p.header es er (is_up_at x.far)) shown ++ repeats_at e (outcome_of e.fsm p.header es er (is_up_at x.far)) p)
      (numbers_at e (outcome_of e.fsm p.header es er (is_up_at x.far)) p by) es
  name : (epoch : ℕ) → Steps x e (names epoch) (on_peer_tunnel e.fsm epoch) (tunnelled_down e epoch) [] [] epoch

-- An act makes this of the pair. An end whose link states change is followed by all that is due then.
pub data Acts : PairEnds → Act → Course → Type 0 where
  made : (x : PairEnds) → Acts x makes (rests (with_made x))
  mended : (x : PairEnds) (e : LinkEnd) → x.near ≡ Some e → Acts x mends (near_course x (mended_end e) (mend_frames e) [])
  moved : (x : PairEnds) (a : Act) (e : LinkEnd) (o : Outcome) (e' : LinkEnd) (states numbered : List Outgoing) (epoch : ℕ)
      → x.near ≡ Some e → Steps x e a o e' states numbered epoch
      → Acts x a (going_on (near_course x e' states numbered) (λ y. following y o.change epoch))
  raised : (x : PairEnds) (number : ℕ) → Acts x (counts number) (risen x number)
  let_go_of : (x : PairEnds) (e : LinkEnd) → x.near ≡ Some e → is_clear x.far ≡ true → Acts x lets_go (near_course x (let_go e) (release_frames e) [])
  counted : (x : PairEnds) (e : LinkEnd) (t : Tunnelled) (by : ℕ) → x.near ≡ Some e → Acts x (carries t by) (near_course x (inner_taken t by e) [] [])
  opened : (x : PairEnds) (packets : List Taken) (given : List Opened) (last : Joining) → BringsAll x.begun packets given last
      → Acts x (opens packets given) (rests (record x { begun = last }))
  put : (x : PairEnds) (e : LinkEnd) (s : SessionEnd) (pieces : List (List ℕ)) (s' : SessionEnd)
      → x.near ≡ Some e → e.session ≡ Some s → IsPut s pieces s'
      → Acts x (puts pieces) (near_course x (with_session e (flushed s')) [] (flush_frames s'))
  answered : (x : PairEnds) (e : LinkEnd) (taken : ℕ) (asks : Bool) (shown : BroadcastState) → x.near ≡ Some e
      → Acts x (answers taken asks shown) (near_course x (answered_with e taken asks) (frames_with e taken asks shown) [])

-- the course of a pair that was seen from its other link
abbrev pub turned_back : Course → Course
turned_back c = record c { pair = turned c.pair }

-- This is the course of acts at either link, of each of which this is so, by the pair at which it is done.
pub data Ran (A : PairEnds → Act → Type 0) : PairEnds → Course → Type 0 where
  stays : (x : PairEnds) → Ran A x (rests x)
  acts : (x : PairEnds) (a : Act) (c : Course) → A x a → Acts x a c → Ran A x c
  goes_on : (x : PairEnds) (first : Course) (step : PairEnds → Course) → Ran A x first → Ran A first.pair (step first.pair)
      → Ran A x (going_on first step)
  turns : (x : PairEnds) (c : Course) → Ran A (turned x) c → Ran A x (turned_back c)

-- ---- an act taken apart: its step, and what follows

-- what is told of the near link where its states changed: the end then, and the epoch that was shown
abbrev pub told_by : PairEnds → LinkEnd → Change → ℕ → List Transition
told_by x e Up epoch = LinkUp x.bearer e.fsm.own (known e.fsm.peer) ∷ []
told_by x e (Down cause) epoch = LinkDown x.bearer cause (shown_with cause epoch) ∷ []
told_by x e other epoch = []

-- a course that tells this first
abbrev pub telling_of : List Transition → Course → Course
telling_of changes c = record c { changes = changes ++ c.changes }

-- what follows a change of the near link, but for what is told of that
abbrev pub gone : Change → PairEnds → Course
gone Up x = gone_up x
gone (Down cause) x = gone_down x
gone other x = rests x
