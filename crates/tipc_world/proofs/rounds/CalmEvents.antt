-- What a tick and an arrival are at one pair of a calm world: a turn by which nothing is told of its links, in which
-- only packets are heard that come out of the air and show the present.
use Rattle.std.proofs.Common.{◌≡◌, ◌≢◌, ◌≤◌, ◌∙◌, ℕ, false, List, [], Option, Some, None, length, refl, ap, subst, arith}
use Rattle.std.specs.Prelude.{if◌then◌else◌, nat_lt}
use Rattle.std.specs.List.{filter}
use Rattle.std.proofs.lemmas.Bool.Decides.{nat_tests}
use Rattle.tipc_types.specs.Limits.{most_age}
use Rattle.tipc_types.specs.declared.link_words.Why.{Why}
use Rattle.tipc_types.specs.declared.node_calls.Answer.{Answer}
use Rattle.tipc_types.specs.declared.node_calls.Answer.TheVariants as answer
use Rattle.tipc_types.specs.declared.node_calls.EventNote.TheVariants as note
use Rattle.tipc_outside.specs.declared.outgoing.Outgoing.{Outgoing}
use Rattle.tipc_header.specs.declared.frames.FrameKind.TheVariants.{Links}
use Rattle.tipc_header.specs.Frames.{kind_in}
use Rattle.tipc_header.specs.Spelling.{Fields}
use Rattle.tipc_journal.specs.Steps.{NodeStep}
use Rattle.tipc_two_nodes.specs.Sights.{Comes}
use Rattle.tipc_node.specs.Nodes.{NodeState, pair_with, step_of, stop_of}
use Rattle.tipc_node.specs.Sockets.{kept_answer}
use Rattle.tipc_node.specs.Telling.{IsTold}
use Rattle.tipc_node.specs.Turns.{IsFrom, NodeTurn, is_change_of}
use Rattle.tipc_settling.specs.Stillness.{ShowsPresent}
use Rattle.tipc_settling.proofs.Nodes.{events_tell_nothing}
use Rattle.tipc_replay.specs.declared.air.Sent.{Sent}
use Rattle.tipc_replay.specs.declared.events.WorldEvent.TheVariants.{Arrive, Call}
use Rattle.tipc_replay.specs.Due.{age_of, frame_for, stopped_by_age, unarrived}
use Rattle.tipc_replay.specs.Skies.{AirState}
use Rattle.tipc_replay.specs.Sound.{IsNumber}
use Rattle.tipc_replay.specs.States.{MemberState}
use Rattle.tipc_replay.specs.Steps.{stage}
use Rattle.tipc_replay.specs.Views.{sight_at}
use Rattle.tipc_replay.proofs.frames.Coming.{comes}
use Rattle.tipc_world.specs.declared.places.Places.{Places}
use Rattle.tipc_world.specs.CalmWorlds.{IsCalmWorld, IsFromMended}
use Rattle.tipc_world.specs.Ends.{ends_of}
use Rattle.tipc_world.specs.Poised.{IsPoised}
use Rattle.tipc_world.specs.RoundParts.{FrameArrives, HappensWhole, IsKept}
use Rattle.tipc_world.specs.States.{WorldState}
use Rattle.tipc_world.specs.StillWorlds.{HasHeardAll, IsUnderPresent, footing_at}
use Rattle.tipc_world.specs.Steps.{by_in}
use Rattle.tipc_world.proofs.rounds.CalmWorlds.{calm_is_still, comes_up}
use Rattle.tipc_world.proofs.rounds.StillWorlds.{shows_present}

-- a link packet of node b that is heard at node n shows what b has at present, and came out of the air
pub record HearsPresent (start old : WorldState) (n b bearer es er : ℕ) (p : Fields) : Type 0 where
  pub on_one : bearer ≤ 1
  pub shows : ShowsPresent (footing_at start b n) bearer es p
  pub comes : Comes (sight_at old.members old.air n b) (sight_at old.members old.air b n) bearer es er p

-- The node's turn in an event: it tells of no link to node b.
pub record CalmTurn (start old : WorldState) (n b : ℕ) (m m' : MemberState) (bytes : List ℕ) (s : NodeStep) (frames : List Outgoing) : Type 0 where
  pub turn : NodeTurn m.node m'.node bytes s frames
  pub told : IsTold m.node
  pub none : filter (is_change_of b) s.inside ≡ []
  pub hears : (bearer number es er : ℕ) (p : Fields) → s.event ≡ note.Arrive bearer number → IsFrom b bytes es er p → kind_in bytes ≡ Links → HearsPresent start old n b bearer es er p

-- ---- a tick

abbrev pub step_of_tick : (old new : WorldState) (node : ℕ) (answered : Answer) → HappensWhole old new (Call node note.Tick) [] answered → NodeStep
step_of_tick old new node answered h = step_of (by_in old.members old.stamps (Call node note.Tick)) note.Tick h.does.turn.inside (kept_answer answered)

pub tick_turn : (start : WorldState) (old new : WorldState) (node : ℕ) (answered : Answer) (h : HappensWhole old new (Call node note.Tick) [] answered) → IsCalmWorld start old → HasHeardAll node h.before → (b : ℕ) → IsNumber b → node ≢ b
    → CalmTurn start old node b h.before h.after [] (step_of_tick old new node answered h) h.frames
tick_turn start old new node answered h g heard b number apart =
    let t = h.does.turn in
    let s = step_of_tick old new node answered h in
    let calm = g.nodes node h.before h.was b number apart in
    record {
      turn = t.turn;
      told = t.told_before;
      none = events_tell_nothing (footing_at start node b) (footing_at start b node) h.before.node h.after.node [] s h.frames b t.told_before t.turn (heard b number apart) tt calm.still;
      hears = λ bearer place es er p is. absurd (let wrong : note.Tick ≡ note.Arrive bearer place = is in cc);
    }

-- ---- an arrival

not_too_old : (members : List (Option MemberState)) (n bearer : ℕ) (f : Sent) → age_of members f n bearer ≤ most_age → stopped_by_age members n bearer (Some f) ≡ None
not_too_old members n bearer f fresh =
    let young : nat_lt most_age (age_of members f n bearer) ≡ false = grind (arith, nat_tests, fresh) in
    ap (λ t. if t then Some (answer.TooOld (age_of members f n bearer)) else None) young

-- a frame that isn't too old arrives
pub may_arrive : (members : List (Option MemberState)) (air : AirState) (n bearer place : ℕ) (f : Sent) → frame_for air n bearer place ≡ Some f → age_of members f n bearer ≤ most_age → unarrived members air n bearer place ≡ None
unfolding unarrived
may_arrive members air n bearer place f found fresh = ap (stopped_by_age members n bearer) found ∙ not_too_old members n bearer f fresh

abbrev pub step_of_arrival : (start old new : WorldState) → FrameArrives (ends_of start.air) old new → NodeStep
step_of_arrival start old new a = step_of (by_in old.members old.stamps (Arrive a.node a.bearer a.place)) (note.Arrive a.bearer (length a.arrives.before.arrivals)) a.arrives.does.turn.inside (answer.Arrived a.arrives.does.arrived)

-- a link packet in a frame that arrives
pub hears_present : (start : WorldState) → IsKept start → IsPoised start → (old new : WorldState) (a : FrameArrives (ends_of start.air) old new) → IsCalmWorld start old → IsFromMended start a.bearer a.frame
    → (b es er : ℕ) (p : Fields) → IsFrom b a.frame.frame es er p → kind_in a.frame.frame ≡ Links → HearsPresent start old a.node b a.bearer es er p
hears_present start kept poised old new a g said b es er p brings kind_is =
    let kept_old = g.on.kept kept in
    let under : IsUnderPresent start a.bearer a.frame = λ sd d sd_is d_is two goes_to. (said sd d sd_is d_is two goes_to).present in
    record {
      on_one = a.on_one;
      shows = shows_present start kept old new a (calm_is_still start old g) under b es er p brings kind_is;
      comes = comes (stage old.members old.air) a.node a.bearer a.place a.frame b es er p kept_old.nodes.sound a.found (may_arrive old.members old.air a.node a.bearer a.place a.frame a.found a.fresh) brings kind_is;
    }

-- The arrival of a frame that nothing stops.
pub arrival_turn : (start : WorldState) → IsKept start → IsPoised start → (old new : WorldState) (a : FrameArrives (ends_of start.air) old new) → IsCalmWorld start old → IsFromMended start a.bearer a.frame
    → stop_of a.arrives.before.node a.bearer a.frame.frame ≡ None → (b : ℕ) → IsNumber b → a.node ≢ b
    → CalmTurn start old a.node b a.arrives.before a.arrives.after a.frame.frame (step_of_arrival start old new a) a.arrives.frames
arrival_turn start kept poised old new a g said free b number apart =
    let h = a.arrives in
    let t = h.does.turn in
    let s = step_of_arrival start old new a in
    let calm = g.nodes a.node h.before h.was b number apart in
    record {
      turn = t.turn;
      told = t.told_before;
      none = events_tell_nothing (footing_at start a.node b) (footing_at start b a.node) h.before.node h.after.node a.frame.frame s h.frames b t.told_before t.turn
          (λ es er p brings kind_is. (hears_present start kept poised old new a g said b es er p brings kind_is).shows) (comes_up start kept poised old new a g said free b apart (length h.before.arrivals)) calm.still;
      hears = λ bearer place es er p is brings kind_is. (
          let arrives : note.Arrive a.bearer (length h.before.arrivals) ≡ note.Arrive bearer place = is in
          let on : a.bearer ≡ bearer = cc in
          subst (λ k. HearsPresent start old a.node b k es er p) on (hears_present start kept poised old new a g said b es er p brings kind_is));
    }

-- One that is stopped leaves every pair as it was.
pub stopped_same : (from : Places) (old new : WorldState) (a : FrameArrives from old new) (reason : Why) → stop_of a.arrives.before.node a.bearer a.frame.frame ≡ Some reason → (b : ℕ) → pair_with a.arrives.after.node b ≡ pair_with a.arrives.before.node b
stopped_same from old new a reason stops b = ap (λ (m : NodeState). pair_with m b) (a.arrives.does.arrives.stopped reason stops).0

-- What is so of a pair that stays, and of each calm turn, is so of an arrival.
pub by_arrival : (start : WorldState) → IsKept start → IsPoised start → (old new : WorldState) (a : FrameArrives (ends_of start.air) old new) → IsCalmWorld start old → IsFromMended start a.bearer a.frame
    → (b : ℕ) → IsNumber b → a.node ≢ b → (P : Type 0) → (pair_with a.arrives.after.node b ≡ pair_with a.arrives.before.node b → P)
    → (CalmTurn start old a.node b a.arrives.before a.arrives.after a.frame.frame (step_of_arrival start old new a) a.arrives.frames → P) → P
by_arrival start kept poised old new a g said b number apart P same turns = by (stop_of a.arrives.before.node a.bearer a.frame.frame) refl
  where
    by : (o : Option Why) → stop_of a.arrives.before.node a.bearer a.frame.frame ≡ o → P
    by None free = turns (arrival_turn start kept poised old new a g said free b number apart)
    by (Some reason) stops = same (stopped_same (ends_of start.air) old new a reason stops b)
