-- Two nodes go on talking, whatever either one's pair does that brings nothing.
use Rattle.std.proofs.Common.{◌≡◌, ◌≤◌, ℕ, Bool, List, Option, Some, None, refl, ◌∙◌, arith}
use Rattle.tipc_types.specs.declared.link_words.BroadcastState.{BroadcastState}
use Rattle.tipc_link.specs.Links.{LinkEnd}
use Rattle.tipc_pair.specs.Courses.{Course, rests}
use Rattle.tipc_pair.specs.Facing.{PairEnds, facing, with_made}
use Rattle.tipc_pair.specs.PairCalls.{answered_at, answered_near, at_bearer, cut_near, mended, mended_near, ticked}
use Rattle.tipc_pair.specs.PairFacts.{AreHeldRightly, IsPairOfEnds}
use Rattle.tipc_pair.proofs.HeldLaws.{GoesQuietly, cut_goes, cut_held, facing_quietly, held_up, quietly_facing, rightly_facing, ticked_goes, ticked_held}
use Rattle.tipc_two_nodes.proofs.deeds.EndsKept.{ends_facing}
use Rattle.tipc_two_nodes.proofs.deeds.Pairs.{of_facing}
use Rattle.tipc_pair.proofs.turns.PairKept.{facing_bearer}
use Rattle.tipc_two_nodes.specs.deeds.PairDeeds.{none_more}
use Rattle.tipc_two_nodes.specs.Carrying.{KeepsCarried, none_taken}
use Rattle.tipc_two_nodes.specs.Talkers.{AnswersTalk, AreTalking, CutsTalk, GivenIsFront, MakesTalk, MendsTalk, Talker, TalksOn, TicksTalk, TurnedTalk}
use Rattle.tipc_two_nodes.proofs.links.receiver.BegunKept.{KeepsBegun, begun_same}
use Rattle.tipc_two_nodes.proofs.messages.Begun.{at_begun, cut_begun, still_begun, ticked_begun}
use Rattle.tipc_two_nodes.proofs.calls.CallCourses.{cut_carried, ticked_carried}
use Rattle.tipc_two_nodes.proofs.messages.Crossing.{sends_on_talks, takes_on_talks}
use Rattle.tipc_two_nodes.proofs.calls.QuietCourses.{answered_carried, carried_at, made_carried, mended_carried}
use Rattle.tipc_two_nodes.proofs.messages.Talks.{talks_front}
use Rattle.tipc_two_nodes.proofs.calls.TalkerPairs.{answered_ends, answered_quiet, at_ends, cut_ends, made_ends, made_quiet, mended_ends, mended_quiet, ticked_ends}
use Rattle.tipc_pair.proofs.HeldCalls.{answered_right, at_right, made_right, mended_right}
use Rattle.tipc_two_nodes.proofs.steps.TwinSteps.{twins_turned}

pub given_is_front : GivenIsFront
given_is_front x y h own theirs = talks_front x.view y.view h.twins.sends.carriage x.put y.given y.pair.begun h.sends own theirs

pub turned_talk : TurnedTalk
unfolding twins_turned
turned_talk x y h = record { twins = twins_turned x.view y.view h.twins; here = h.there; there = h.here; sends = h.receives; receives = h.sends }

-- ---- a call

-- what a course leaves of the pair: its ends, no link goes up, and the message that is begun
record KeepsPair (p : PairEnds) (c : Course) : Type 0 where
  ends : IsPairOfEnds c.pair
  held : AreHeldRightly c.pair
  first : c.pair.bearer ≡ 0
  quiet : GoesQuietly p c.pair
  begun : KeepsBegun p c.pair

talks_on : (x y : Talker) (h : AreTalking x y) (c : Course) (n : ℕ → ℕ → List (List ℕ)) → KeepsCarried x.view y.view h.twins c n → KeepsPair x.pair c → TalksOn x y c n
talks_on x y h c n m k = (
  m.0,
  m.1,
  record {
    twins = m.2;
    here = record { of = m.1.pair; ends = k.ends; held = k.held; first = k.first };
    there = h.there;
    sends = sends_on_talks x.view m.0 y.view h.twins m.2 none_taken x.put y.given y.pair.begun m.3 h.sends;
    receives = takes_on_talks x.view m.0 y.view h.twins m.2 y.put x.given x.pair.begun c.pair.begun m.3.receives
        (λ own theirs here. still_begun x.view m.0 y.view x.pair c.pair own theirs h.twins.paired h.here.of m.1.pair k.quiet k.begun here) h.receives;
  },
)

-- at the link of a bearer
at_first : (b : ℕ) (x : PairEnds) (call : PairEnds → Course) → x.bearer ≡ 0 → (call (facing b x)).pair.bearer ≤ 1 → (at_bearer b x call).pair.bearer ≡ 0
at_first b x call first low = facing_bearer x.bearer (call (facing b x)).pair (omega arith) low ∙ first

record KeepsNear (z : PairEnds) (c : Course) : Type 0 where
  ends : IsPairOfEnds c.pair
  held : AreHeldRightly c.pair
  quiet : GoesQuietly z c.pair
  begun : KeepsBegun z c.pair

at_pair : (b : ℕ) (x : PairEnds) (call : PairEnds → Course) → x.bearer ≡ 0 → KeepsNear (facing b x) (call (facing b x)) → KeepsPair x (at_bearer b x call)
at_pair b x call first k = record {
  ends = at_ends b x call k.ends;
  held = at_right b x call k.held;
  first = at_first b x call first k.ends.two_bearers;
  quiet = facing_quietly b x _ (quietly_facing x.bearer (facing b x) (call (facing b x)).pair k.quiet);
  begun = at_begun b x call k.begun;
}

-- ---- an end is made, a bearer is mended, and a STATE is sent

pub makes_talk : MakesTalk
makes_talk x y b h none =
    let p = h.here in
    let z = facing b x.pair in
    let call : PairEnds → Course = λ z. rests (with_made z) in
    talks_on x y h (at_bearer b x.pair call) none_more (carried_at x.view y.view h.twins b x.pair call none_more (made_carried x.view y.view z h.twins (of_facing x.view b x.pair p.of) none))
    (at_pair b x.pair call p.first (record {
      ends = made_ends z (ends_facing b x.pair p.ends);
      held = made_right z none (rightly_facing b x.pair p.held);
      quiet = made_quiet z none;
      begun = begun_same z (with_made z) refl refl;
    }))

mended_begun : (z : PairEnds) (o : Option LinkEnd) → KeepsBegun z (mended_near z o)
mended_begun z None = begun_same z z refl refl
mended_begun z (Some e) = begun_same z _ refl refl

pub mends_talk : MendsTalk
mends_talk x y b h =
    let p = h.here in
    let z = facing b x.pair in
    talks_on x y h (at_bearer b x.pair mended) none_more (mended_carried x.view y.view b x.pair h.twins p.of)
    (at_pair b x.pair mended p.first (record {
      ends = mended_ends z z.near refl (ends_facing b x.pair p.ends);
      held = mended_right z z.near refl (rightly_facing b x.pair p.held);
      quiet = mended_quiet z z.near refl;
      begun = mended_begun z z.near;
    }))

answered_begun : (z : PairEnds) (o : Option LinkEnd) (taken : ℕ) (asks : Bool) (shown : BroadcastState) → KeepsBegun z (answered_at z o taken asks shown).pair
answered_begun z None taken asks shown = begun_same z z refl refl
answered_begun z (Some e) taken asks shown = begun_same z _ refl refl

pub answers_talk : AnswersTalk
answers_talk x y b taken asks shown h showable =
    let p = h.here in
    let z = facing b x.pair in
    talks_on x y h (at_bearer b x.pair (answered_near taken asks shown)) none_more (answered_carried x.view y.view b x.pair taken asks shown h.twins p.of showable)
    (at_pair b x.pair (answered_near taken asks shown) p.first (record {
      ends = answered_ends z z.near taken asks shown refl (ends_facing b x.pair p.ends);
      held = answered_right z z.near taken asks shown refl (rightly_facing b x.pair p.held);
      quiet = answered_quiet z z.near taken asks shown refl;
      begun = answered_begun z z.near taken asks shown;
    }))

-- ---- a bearer is cut, and a tick

pub cuts_talk : CutsTalk
cuts_talk x y b h =
    let p = h.here in
    let z = facing b x.pair in
    talks_on x y h (at_bearer b x.pair cut_near) _ (cut_carried x.view y.view b x.pair h.twins p.of p.ends (held_up x.pair p.held))
    (at_pair b x.pair cut_near p.first (record {
      ends = cut_ends x.view y.view z h.twins.paired (of_facing x.view b x.pair p.of) (ends_facing b x.pair p.ends);
      held = cut_held z (held_up z (rightly_facing b x.pair p.held));
      quiet = cut_goes z;
      begun = cut_begun z;
    }))

pub ticks_talk : TicksTalk
ticks_talk x y shown h showable =
    let p = h.here in
    let up = held_up x.pair p.held in
    let ends = ticked_ends x.view y.view x.pair shown h.twins.paired p.of p.ends showable in
    talks_on x y h (ticked shown x.pair) _ (ticked_carried x.view y.view x.pair shown h.twins p.of p.ends up showable) (record {
      ends = ends.0;
      held = ticked_held shown x.pair up;
      first = ends.1 ∙ p.first;
      quiet = ticked_goes shown x.pair;
      begun = ticked_begun shown x.pair;
    })
