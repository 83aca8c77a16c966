-- Two nodes and their messages: what each call of either one's pair keeps of them.
use Rattle.std.specs.Prelude.{◌≡◌, ◌<◌, ◌≤◌, ◌^◌, ◌⊎◌, ℕ, Bool, All, List, ◌∷◌, [], ◌++◌, None, map}
use Rattle.tipc_types.specs.Prefixes.{IsPrefixOf}
use Rattle.tipc_types.specs.declared.link_words.BroadcastState.{BroadcastState}
use Rattle.tipc_types.specs.declared.packet_lists.Taken.{Taken}
use Rattle.tipc_outside.specs.declared.outgoing.Outgoing.{Outgoing}
use Rattle.tipc_header.specs.Spelling.{Fields}
use Rattle.tipc_fragments.specs.Joining.{Joining, fresh}
use Rattle.tipc_reassembly.specs.declared.opening.Opened.{Opened}
use Rattle.tipc_reassembly.specs.Opening.{BringsAll}
use Rattle.tipc_reassembly.specs.Slots.{IsWholePacket, packets_in}
use Rattle.tipc_link.specs.Parts.{IsShowable}
use Rattle.tipc_link.specs.Sessions.{moving}
use Rattle.tipc_pair.specs.declared.changes.PairOutcome.{PairOutcome}
use Rattle.tipc_pair.specs.Courses.{Course, rests}
use Rattle.tipc_pair.specs.Facing.{PairEnds, alone, facing, with_made}
use Rattle.tipc_pair.specs.PairArrivals.{Arrives}
use Rattle.tipc_pair.specs.PairCalls.{SendsWithin, answered_near, at_bearer, cut_near, mended, tick_near, ticked}
use Rattle.tipc_pair.specs.PairFacts.{AreHeldRightly, IsPairOfEnds}
use Rattle.tipc_pair.specs.Messages.{IsMessage, opened_in, pieces_for}
use Rattle.tipc_pair.specs.Runs.{IsListed}
use Rattle.tipc_paired.specs.Deeds.{restarted}
use Rattle.tipc_paired.specs.Paired.{IsNew}
use Rattle.tipc_paired.specs.Views.{View}
use Rattle.tipc_two_nodes.specs.deeds.Arriving.{Reaches, arrival_more, arrival_taken}
use Rattle.tipc_two_nodes.specs.deeds.PairDeeds.{Did, IsOfPair, Took, both_more, cut_at_more, more_at, none_more, tick_more}
use Rattle.tipc_two_nodes.specs.Carriages.{IsAhead, IsPresent}
use Rattle.tipc_two_nodes.specs.Carrying.{Carries, none_taken, taken_in_contact, with_in}
use Rattle.tipc_two_nodes.specs.Messages.{Talks}
use Rattle.tipc_two_nodes.specs.Twins.{AreTwins}

-- A node as one of the two: its view of the other one, its pair, and the messages that it put in each contact and those
-- that it was given, its own number first.
pub record Talker : Type 0 where
  pub view : View
  pub pair : PairEnds
  pub put : ℕ → ℕ → List (List ℕ)
  pub given : ℕ → ℕ → List (List ℕ)

-- The pair is that of the view, seen from the link of bearer 0, and it is as each pair is between calls.
pub record HasPair (x : Talker) : Type 0 where
  pub of : IsOfPair x.view x.pair
  pub ends : IsPairOfEnds x.pair
  pub held : AreHeldRightly x.pair
  pub first : x.pair.bearer ≡ 0

-- What holds of two nodes and their messages at every moment between calls.
pub record AreTalking (x y : Talker) : Type 0 where
  pub twins : AreTwins x.view y.view
  pub here : HasPair x
  pub there : HasPair y
  pub sends : Talks x.view y.view twins.sends.carriage x.put y.given y.pair.begun
  pub receives : Talks y.view x.view twins.receives.carriage y.put x.given x.pair.begun

-- ---- what it says

-- In each contact the messages that y was given are a front of those that x put, each whole, once and in order.
abbrev pub GivenIsFront : Type 0
GivenIsFront = (x y : Talker) → AreTalking x y → (own theirs : ℕ) → IsPrefixOf (y.given theirs own) (x.put own theirs)

-- and so it is the other way
abbrev pub TurnedTalk : Type 0
TurnedTalk = (x y : Talker) → AreTalking x y → AreTalking y x

-- ---- the beginning

-- a node that has just begun its boot, and no message was put or given
pub record IsNewTalker (x : Talker) : Type 0 where
  pub view : IsNew x.view
  pub pair : x.pair ≡ alone x.view.node.own x.view.node.peer x.view.node.boot
  pub put : (own theirs : ℕ) → x.put own theirs ≡ []
  pub given : (own theirs : ℕ) → x.given own theirs ≡ []

-- two nodes that know nothing of each other are talking
abbrev pub NewAreTalking : Type 0
NewAreTalking = (x y : Talker) → IsNewTalker x → IsNewTalker y → AreTalking x y

-- ---- a call

-- x goes on with another view and pair, and the same messages
abbrev pub went_on : Talker → View → PairEnds → Talker
went_on x view pair = record x { view = view; pair = pair }

-- By deeds of x, beside y, its pair took this course, in which these packets were numbered and none was taken; and the
-- two talk on with the same messages.
abbrev pub TalksOn : (x y : Talker) → Course → (ℕ → ℕ → List (List ℕ)) → Type 0
TalksOn x y c numbered = (after : View) × Took x.view y.view after c numbered none_more
    × AreTalking (went_on x after c.pair) y

-- an end is made on a bearer that has none; a bearer is mended; and the STATE that is due is sent
abbrev pub MakesTalk : Type 0
MakesTalk = (x y : Talker) (bearer : ℕ) → AreTalking x y → (facing bearer x.pair).near ≡ None
    → TalksOn x y (at_bearer bearer x.pair (λ z. rests (with_made z))) none_more

-- a bearer is mended
abbrev pub MendsTalk : Type 0
MendsTalk = (x y : Talker) (bearer : ℕ) → AreTalking x y → TalksOn x y (at_bearer bearer x.pair mended) none_more

-- the STATE that is due is sent
abbrev pub AnswersTalk : Type 0
AnswersTalk = (x y : Talker) (bearer taken : ℕ) (asks : Bool) (shown : BroadcastState) → AreTalking x y
    → IsShowable shown → TalksOn x y (at_bearer bearer x.pair (answered_near taken asks shown)) none_more

-- a bearer is cut
abbrev pub CutsTalk : Type 0
CutsTalk = (x y : Talker) (bearer : ℕ) → AreTalking x y
    → TalksOn x y (at_bearer bearer x.pair cut_near)
    (both_more (cut_at_more (facing bearer x.pair) (facing bearer x.pair).near) none_more)

-- a tick passes on bearer 0's link, then on bearer 1's
abbrev pub TicksTalk : Type 0
TicksTalk = (x y : Talker) (shown : BroadcastState) → AreTalking x y → IsShowable shown
    → TalksOn x y (ticked shown x.pair)
    (both_more
    (both_more (tick_more (facing 0 x.pair)) (tick_more (facing 1 (at_bearer 0 x.pair (tick_near shown)).pair)))
    none_more)

-- ---- a message

-- x put one more message in its present contact
abbrev pub put_more : Talker → List ℕ → ℕ → ℕ → List (List ℕ)
put_more x m = with_in x.put x.view.node.contact x.view.node.seen
    (x.put x.view.node.contact x.view.node.seen ++ m ∷ [])

-- x when it has put a message, with another view and pair
abbrev pub posted : Talker → List ℕ → View → PairEnds → Talker
posted x m view pair = record { view = view; pair = pair; put = put_more x m; given = x.given }

-- The packets of a message are put on the active link: by deeds these frames were told, and the two talk on with that
-- message more.
abbrev pub SendsTalk : Type 0
SendsTalk = (x y : Talker) (pair : PairEnds) (m : List ℕ) (limit : ℕ) (frames : List Outgoing) → AreTalking x y
    → IsMessage x.view.node.own m → All IsListed (pieces_for m) → (s : SendsWithin x.pair (pieces_for m) limit pair frames)
    → (after : View)
    × Did x.view y.view after frames (more_at s.bearer s.puts.session.epoch (moving s.puts.put)) none_more
    × AreTalking (posted x m after pair) y

-- ---- a restart

-- the node begins another boot, and keeps nothing of the peer
abbrev pub begun_again : Talker → ℕ → Talker
begun_again x boot = went_on x (restarted x.view boot) (alone x.view.node.own x.view.node.peer boot)

-- x is restarted, and the two talk on
abbrev pub RestartsTalk : Type 0
RestartsTalk = (x y : Talker) (boot : ℕ) → AreTalking x y → x.view.node.boot < boot → boot < 2 ^ 32
    → AreTalking (begun_again x boot) y

-- ---- an arrival

-- The message that is begun as an arrival goes on in a contact: that of before where the contact lasted, and none in a
-- contact that begins.
abbrev pub IsBegunIn : Talker → (own theirs : ℕ) → Joining → Type 0
IsBegunIn x own theirs begun = (IsPresent x.view own theirs × (begun ≡ x.pair.begun))
    ⊎ (IsAhead x.view own theirs × (begun ≡ fresh))

-- Where an arrival brings nothing, and a contact may begin or end with it, the two talk on with the same messages.
abbrev pub NoticesTalk : Type 0
NoticesTalk = (x y : Talker) (after : View) (pair : PairEnds) (h : AreTalking x y) (k : AreTwins after y.view)
    → Carries x.view after y.view h.twins k none_taken → HasPair (went_on x after pair)
    → ((own theirs : ℕ) → IsPresent after own theirs → IsBegunIn x own theirs pair.begun)
    → AreTalking (went_on x after pair) y

-- x was given these messages in its present contact
abbrev pub given_more : Talker → List Opened → ℕ → ℕ → List (List ℕ)
given_more x opened = with_in x.given x.view.node.contact x.view.node.seen
    (x.given x.view.node.contact x.view.node.seen ++ packets_in opened)

-- x when it was given messages, with another view and pair
abbrev pub given_on : Talker → List Opened → View → PairEnds → Talker
given_on x opened view pair = record { view = view; pair = pair; put = x.put; given = given_more x opened }

-- Where an arrival brings packets of the contact that lasts then, which are opened behind the message that is begun in
-- it, the two talk on with what these give; and all that is given is whole.
abbrev pub OpeningTalks : Type 0
OpeningTalks = (x y : Talker) (after : View) (pair : PairEnds) (brought : List Taken) (opened : List Opened)
    (begun : Joining) (h : AreTalking x y) (k : AreTwins after y.view)
    → Carries x.view after y.view h.twins k
    (taken_in_contact x.view.node.contact x.view.node.seen (map (λ (t : Taken). t.packet) brought))
    → HasPair (went_on x after pair) → IsPresent after x.view.node.contact x.view.node.seen
    → IsBegunIn x x.view.node.contact x.view.node.seen begun → BringsAll begun brought opened pair.begun
    → AreTalking (given_on x opened after pair) y × All IsWholePacket opened

-- A packet of y arrives on a bearer of x, whenever it was told and however often: as a whole call of the pair, in which
-- these packets were numbered and taken, it keeps the two talking, with the messages that are given; and all that is
-- given is whole.
abbrev pub ArrivalsTalk : Type 0
ArrivalsTalk = (x y : Talker) (bearer es er : ℕ) (p : Fields) (by : ℕ) (shown : BroadcastState) (c : Course)
    (given : PairOutcome) → AreTalking x y → bearer ≤ 1 → IsShowable shown → Reaches x.view y.view bearer es er p
    → (a : Arrives (facing bearer x.pair) es er p by shown c given)
    → (after : View)
    × Took x.view y.view after c (arrival_more (facing bearer x.pair) es er p by shown c given a)
    (arrival_taken y.view (facing bearer x.pair) es er p by shown c given a)
    × AreTalking (given_on x (opened_in given) after (facing 0 c.pair)) y × All IsWholePacket (opened_in given)
