-- How a link comes up between two nodes between which nothing goes down: what a RESET, an ACTIVATE and a STATE that show the present make of an end.
use Rattle.std.specs.Prelude.{◌≡◌, ◌⊎◌, ◌≤◌, ◌<◌, ◌^◌, ◌||◌, ℕ, true, false, All, Contains, List, [], ◌∷◌, ◌++◌, Option, None, Some, is_some}
use Rattle.tipc_types.specs.LinkStates.{is_up}
use Rattle.tipc_types.specs.declared.link_words.BroadcastState.{BroadcastState}
use Rattle.tipc_types.specs.declared.link_words.LinkState.{LinkState}
use Rattle.tipc_types.specs.declared.link_words.LinkState.TheVariants.{ResetReset}
use Rattle.tipc_types.specs.declared.node_calls.Answer.{Answer}
use Rattle.tipc_types.specs.declared.node_calls.Answer.TheVariants as answer
use Rattle.tipc_types.specs.declared.node_calls.Arrival.{Arrival}
use Rattle.tipc_types.specs.declared.node_calls.By.{By}
use Rattle.tipc_types.specs.declared.node_calls.EventNote.{EventNote}
use Rattle.tipc_types.specs.declared.node_calls.EventNote.TheVariants.{Arrive, Tick}
use Rattle.tipc_outside.specs.declared.outgoing.Outgoing.{Outgoing}
use Rattle.tipc_header.specs.declared.frames.FrameKind.TheVariants.{Links}
use Rattle.tipc_header.specs.declared.packet.Header.{Header}
use Rattle.tipc_header.specs.declared.packet.Header.TheVariants as header
use Rattle.tipc_header.specs.declared.packet.Reset.{Reset}
use Rattle.tipc_header.specs.declared.packet.State.{State}
use Rattle.tipc_header.specs.Frames.{frame_of, kind_in}
use Rattle.tipc_header.specs.Grammar.{Fits}
use Rattle.tipc_header.specs.Spelling.{Fields, spelling}
use Rattle.tipc_journal.specs.Steps.{NodeStep}
use Rattle.tipc_link_fsm.specs.Table.{is_held, is_in_reset, is_last, is_reset_reset}
use Rattle.tipc_link.specs.Links.{LinkEnd, is_traffic, notice, shown_by}
use Rattle.tipc_pair.specs.Facing.{PairEnds, facing, is_up_at}
use Rattle.tipc_pair.specs.LinkReadings.{AreAbreast}
use Rattle.tipc_pair.specs.PairTurns.{IsOnOne, MakesNew, Opening, PairTurn, Reply}
use Rattle.tipc_pair.specs.PairTurns.Opening.{hears, ticks}
use Rattle.tipc_two_nodes.specs.Sights.{AreSeen, Sight, pair_seen}
use Rattle.tipc_node.specs.Arrivals.{Arrives}
use Rattle.tipc_node.specs.Calls.{CallTurn, Performs}
use Rattle.tipc_node.specs.Nodes.{NodeState, end_with, neighbour_of, pair_with, stop_of}
use Rattle.tipc_node.specs.Sockets.{kept_answer}
use Rattle.tipc_node.specs.Telling.{IsTold}
use Rattle.tipc_node.specs.Turns.{IsFrom, NodeTurn, frames_to}
use Rattle.tipc_settling.specs.Loads.{IsCalm}
use Rattle.tipc_settling.specs.Stillness.{AnswersTo, AreHeard, Footing, IsStill, MayCome, MayComeTo, ShowsPresent}

-- an end may go up: it is there, isn't held, and isn't at the last epoch of its boot
pub record CanRise (o : Option LinkEnd) : Type 0 where
  pub end : LinkEnd
  pub there : o ≡ Some end
  pub free : is_held end.fsm.state ≡ false
  pub more : is_last end.fsm.own ≡ false

-- an end is there that answers this epoch of its peer
pub record AnswersAt (epoch : ℕ) (o : Option LinkEnd) : Type 0 where
  pub end : LinkEnd
  pub there : o ≡ Some end
  pub answers : AnswersTo epoch end.fsm

-- An end that may go up answers its peer once it has heard a RESET that shows the present.
abbrev pub ResetsMakeAnswer : Type 0
ResetsMakeAnswer = (own peer : Footing) (x x' : PairEnds) (bearer es er : ℕ) (p : Fields) (said : Reset) (by : ℕ) (shown : BroadcastState)
    (messages : List (List ℕ)) (reply : Option Reply) (frames : List Outgoing) → x.bearer ≡ 0 → bearer ≤ 1 → IsStill own peer x
    → ShowsPresent peer bearer es p → p.header ≡ header.Reset said → CanRise (facing bearer x).near
    → PairTurn x (hears bearer es er p by shown) messages reply x' frames → AnswersAt (peer.epoch bearer) (facing bearer x').near

-- It is up once it has heard an ACTIVATE that shows the present epochs of both nodes.
abbrev pub ActivatesTakeUp : Type 0
ActivatesTakeUp = (own peer : Footing) (x x' : PairEnds) (bearer es er : ℕ) (p : Fields) (said : Reset) (by : ℕ) (shown : BroadcastState)
    (messages : List (List ℕ)) (reply : Option Reply) (frames : List Outgoing) → x.bearer ≡ 0 → bearer ≤ 1 → IsStill own peer x
    → ShowsPresent peer bearer es p → p.header ≡ header.Activate said → er ≡ own.epoch bearer → CanRise (facing bearer x).near
    → PairTurn x (hears bearer es er p by shown) messages reply x' frames → is_up_at (facing bearer x').near ≡ true

-- And an end that answers is up once it has heard a STATE, or a numbered packet, under the present epochs.
abbrev pub StatesTakeUp : Type 0
StatesTakeUp = (own peer : Footing) (x x' : PairEnds) (bearer es er : ℕ) (p : Fields) (by : ℕ) (shown : BroadcastState)
    (messages : List (List ℕ)) (reply : Option Reply) (frames : List Outgoing) → x.bearer ≡ 0 → bearer ≤ 1 → IsStill own peer x
    → ShowsPresent peer bearer es p → is_traffic p.header ≡ true → er ≡ own.epoch bearer → CanRise (facing bearer x).near
    → AnswersAt (peer.epoch bearer) (facing bearer x).near
    → PairTurn x (hears bearer es er p by shown) messages reply x' frames → is_up_at (facing bearer x').near ≡ true

-- a RESET or an ACTIVATE
abbrev pub IsNotice : Header → Type 0
IsNotice (header.Reset said) = Unit {0}
IsNotice (header.Activate said) = Unit {0}
IsNotice other = ⊥

-- By either of these a pair has seen the contact number of its peer, whether or not its end is made.
abbrev pub NoticesTellContact : Type 0
NoticesTellContact = (own peer : Footing) (x x' : PairEnds) (bearer es er : ℕ) (p : Fields) (by : ℕ) (shown : BroadcastState)
    (messages : List (List ℕ)) (reply : Option Reply) (frames : List Outgoing) → x.bearer ≡ 0 → bearer ≤ 1 → IsStill own peer x
    → ShowsPresent peer bearer es p → IsNotice p.header → PairTurn x (hears bearer es er p by shown) messages reply x' frames
    → x'.seen ≡ peer.contact

-- An end that heard a reset of its peer answers, where the peer had no contact, and its contact number was seen since: it knows no other epoch.
abbrev pub HeardEndsAnswer : Type 0
HeardEndsAnswer = (own peer : Footing) (x : PairEnds) (bearer : ℕ) (e : LinkEnd) → bearer ≤ 1 → IsStill own peer x → AreAbreast x
    → peer.alone ≡ true → x.seen ≡ peer.contact → (facing bearer x).near ≡ Some e
    → (is_up e.fsm.state || is_reset_reset e.fsm.state) ≡ true → AnswersTo (peer.epoch bearer) e.fsm

-- what a tick says of an end that is in reset: ACTIVATE where it heard its peer's reset, and else RESET
abbrev pub notice_in : LinkState → LinkEnd → Outgoing
notice_in ResetReset e = notice e (header.Activate (shown_by e))
notice_in other e = notice e (header.Reset (shown_by e))

-- it is among these frames
pub record SaysNotice (e : LinkEnd) (frames : List Outgoing) : Type 0 where
  pub before : List Outgoing
  pub behind : List Outgoing
  pub frames_are : frames ≡ before ++ notice_in e.fsm.state e ∷ behind

-- At a tick an end of a still pair that is in reset, on a mended bearer, says so.
abbrev pub TicksSayNotice : Type 0
TicksSayNotice = (own peer : Footing) (shown : BroadcastState) (messages : List (List ℕ)) (reply : Option Reply) (x x' : PairEnds)
    (frames : List Outgoing) (bearer : ℕ) (e : LinkEnd) → x.bearer ≡ 0 → IsStill own peer x → AreHeard x → bearer ≤ 1
    → (facing bearer x).near ≡ Some e → e.mended ≡ true → is_in_reset e.fsm.state ≡ true
    → PairTurn x (ticks shown) messages reply x' frames → SaysNotice e frames

-- ---- by what a link goes up

-- This was heard on a bearer under the present epoch of the node's own end: an ACTIVATE, a STATE or a numbered packet.
abbrev pub HeardOn : Footing → ℕ → Opening → Type 0
HeardOn own bearer (hears on es er p by shown) =
    (on ≡ bearer) × (er ≡ own.epoch bearer) × (((said : Reset) × (p.header ≡ header.Activate said)) ⊎ (is_traffic p.header ≡ true))
HeardOn own bearer other = ⊥

-- Each link that is up behind a turn of a still pair was up before it, or its end heard so in it.
abbrev pub UpsWereHeard : Type 0
UpsWereHeard = (v w : Sight) (own peer : Footing) (opening : Opening) (messages : List (List ℕ)) (reply : Option Reply) (x : PairEnds)
    (frames : List Outgoing) (bearer : ℕ) → AreSeen v w → AreAbreast (pair_seen v) → IsStill own peer (pair_seen v) → IsOnOne opening
    → MakesNew (pair_seen v) opening → MayCome peer (pair_seen v) opening → PairTurn (pair_seen v) opening messages reply x frames → bearer ≤ 1
    → is_up_at (facing bearer x).near ≡ true → (is_up_at (facing bearer (pair_seen v)).near ≡ true) ⊎ HeardOn own bearer opening

-- ---- an ACTIVATE that leaves

-- Where this frame is an ACTIVATE that shows the peer's present epoch, the end on its bearer answers that epoch in this pair.
abbrev pub ShowsAnswering : Footing → PairEnds → Outgoing → Type 0
ShowsAnswering peer x o = (es er : ℕ) (p : Fields) (said : Reset) → es < 2 ^ 64 → er < 2 ^ 64 → Fits p → o.frame ≡ frame_of es er (spelling p)
    → p.header ≡ header.Activate said → er ≡ peer.epoch o.bearer → AnswersAt (peer.epoch o.bearer) (facing o.bearer x).near

-- So it is with each frame that leaves a still pair in a turn, and with the pair when the turn is over.
abbrev pub TurnsTellAnswer : Type 0
TurnsTellAnswer = (v w : Sight) (own peer : Footing) (opening : Opening) (messages : List (List ℕ)) (reply : Option Reply) (x : PairEnds)
    (frames : List Outgoing) → AreSeen v w → AreAbreast (pair_seen v) → IsStill own peer (pair_seen v) → IsOnOne opening
    → MakesNew (pair_seen v) opening → MayCome peer (pair_seen v) opening → PairTurn (pair_seen v) opening messages reply x frames
    → All (ShowsAnswering peer x) frames

-- ---- at a node

-- A RESET of node b that nothing stops makes an end answer that may go up.
abbrev pub ArrivalsMakeAnswer : Type 0
ArrivalsMakeAnswer = (own peer : Footing) (n n' : NodeState) (by : By) (bearer number : ℕ) (bytes : List ℕ) (frames : List Outgoing)
    (answered : Arrival) (b es er : ℕ) (p : Fields) (said : Reset) → IsTold n → Arrives n n' by bearer number bytes frames answered
    → stop_of n bearer bytes ≡ None → IsFrom b bytes es er p
    → kind_in bytes ≡ Links → IsStill own peer (pair_with n b) → MayComeTo peer b (pair_with n b) (Arrive bearer number) bytes
    → p.header ≡ header.Reset said → CanRise (facing bearer (pair_with n b)).near
    → AnswersAt (peer.epoch bearer) (facing bearer (pair_with n' b)).near

-- An ACTIVATE that shows the present epochs of both nodes takes it up.
abbrev pub ArrivalsTakeUp : Type 0
ArrivalsTakeUp = (own peer : Footing) (n n' : NodeState) (by : By) (bearer number : ℕ) (bytes : List ℕ) (frames : List Outgoing)
    (answered : Arrival) (b es er : ℕ) (p : Fields) (said : Reset) → IsTold n → Arrives n n' by bearer number bytes frames answered
    → stop_of n bearer bytes ≡ None → IsFrom b bytes es er p
    → kind_in bytes ≡ Links → IsStill own peer (pair_with n b) → MayComeTo peer b (pair_with n b) (Arrive bearer number) bytes
    → p.header ≡ header.Activate said → er ≡ own.epoch bearer → CanRise (facing bearer (pair_with n b)).near
    → is_up_at (facing bearer (pair_with n' b)).near ≡ true

-- And so does a STATE under them where the end answers.
abbrev pub ArrivalsTakeUpAnswering : Type 0
ArrivalsTakeUpAnswering = (own peer : Footing) (n n' : NodeState) (by : By) (bearer number : ℕ) (bytes : List ℕ) (frames : List Outgoing)
    (answered : Arrival) (b es er : ℕ) (p : Fields) (said : State) → IsTold n → Arrives n n' by bearer number bytes frames answered
    → stop_of n bearer bytes ≡ None → IsFrom b bytes es er p
    → kind_in bytes ≡ Links → IsStill own peer (pair_with n b) → MayComeTo peer b (pair_with n b) (Arrive bearer number) bytes
    → p.header ≡ header.State said → er ≡ own.epoch bearer → CanRise (facing bearer (pair_with n b)).near
    → AnswersAt (peer.epoch bearer) (facing bearer (pair_with n b)).near → is_up_at (facing bearer (pair_with n' b)).near ≡ true

-- A RESET or an ACTIVATE of node b tells its contact number.
abbrev pub ArrivalsTellContact : Type 0
ArrivalsTellContact = (own peer : Footing) (n n' : NodeState) (by : By) (bearer number : ℕ) (bytes : List ℕ) (frames : List Outgoing)
    (answered : Arrival) (b es er : ℕ) (p : Fields) → IsTold n → Arrives n n' by bearer number bytes frames answered
    → stop_of n bearer bytes ≡ None → IsFrom b bytes es er p
    → kind_in bytes ≡ Links → IsStill own peer (pair_with n b) → MayComeTo peer b (pair_with n b) (Arrive bearer number) bytes
    → IsNotice p.header → (pair_with n' b).seen ≡ peer.contact

-- At a tick that tells of no link and no contact, each end in reset says so, where its bearer is mended.
abbrev pub NodesSayNotice : Type 0
NodesSayNotice = (own peer : Footing) (n n' : NodeState) (by : By) (frames : List Outgoing) (answered : Answer) (b bearer : ℕ) (e : LinkEnd)
    → Performs n by Tick n' frames answered → CallTurn n n' by Tick [] (kept_answer answered) frames → IsCalm n n'
    → IsStill own peer (pair_with n b) → AreHeard (pair_with n b) → bearer ≤ 1 → end_with bearer (neighbour_of n b) ≡ Some e → e.mended ≡ true
    → is_in_reset e.fsm.state ≡ true → Contains frames (notice_in e.fsm.state e)

-- Each frame to node b that leaves in an event of a node is so.
abbrev pub EventsTellAnswer : Type 0
EventsTellAnswer = (v w : Sight) (own peer : Footing) (n n' : NodeState) (bytes : List ℕ) (s : NodeStep) (frames : List Outgoing) (b : ℕ)
    → IsTold n → NodeTurn n n' bytes s frames → AreSeen v w → pair_seen v ≡ pair_with n b → MayComeTo peer b (pair_with n b) s.event bytes
    → IsStill own peer (pair_with n b) → All (ShowsAnswering peer (pair_with n' b)) (frames_to b frames)

-- And each that leaves when a frame arrives, be it stopped or not.
abbrev pub ArrivalsTellAnswer : Type 0
ArrivalsTellAnswer = (v w : Sight) (own peer : Footing) (n n' : NodeState) (by : By) (bearer number : ℕ) (bytes : List ℕ)
    (frames : List Outgoing) (answered : Arrival) (b : ℕ) → Arrives n n' by bearer number bytes frames answered
    → CallTurn n n' by (Arrive bearer number) bytes (answer.Arrived answered) frames → AreSeen v w → pair_seen v ≡ pair_with n b
    → (stop_of n bearer bytes ≡ None → MayComeTo peer b (pair_with n b) (Arrive bearer number) bytes) → IsStill own peer (pair_with n b)
    → All (ShowsAnswering peer (pair_with n' b)) (frames_to b frames)

-- A link packet of node b that arrived on a bearer was heard so.
pub record HeardIn (own : Footing) (b bearer : ℕ) (event : EventNote) (bytes : List ℕ) : Type 0 where
  pub number : ℕ
  pub arrives : event ≡ Arrive bearer number
  pub es : ℕ
  pub er : ℕ
  pub packet : Fields
  pub from : IsFrom b bytes es er packet
  pub kind : kind_in bytes ≡ Links
  pub ours : er ≡ own.epoch bearer
  pub wakes : ((said : Reset) × (packet.header ≡ header.Activate said)) ⊎ (is_traffic packet.header ≡ true)

-- And each link to node b that is up behind an event of a node was up before it, or its end heard so in it.
abbrev pub EventsHearUps : Type 0
EventsHearUps = (v w : Sight) (own peer : Footing) (n n' : NodeState) (bytes : List ℕ) (s : NodeStep) (frames : List Outgoing) (b bearer : ℕ)
    → IsTold n → NodeTurn n n' bytes s frames → AreSeen v w → pair_seen v ≡ pair_with n b → MayComeTo peer b (pair_with n b) s.event bytes
    → IsStill own peer (pair_with n b) → bearer ≤ 1 → is_up_at (facing bearer (pair_with n' b)).near ≡ true
    → (is_up_at (facing bearer (pair_with n b)).near ≡ true) ⊎ HeardIn own b bearer s.event bytes

-- A link end to node b that was made is there after each event of a node.
abbrev pub EventsKeepEnds : Type 0
EventsKeepEnds = (n n' : NodeState) (bytes : List ℕ) (s : NodeStep) (frames : List Outgoing) (b bearer : ℕ) → IsTold n → NodeTurn n n' bytes s frames
    → is_some (facing bearer (pair_with n b)).near ≡ true → is_some (facing bearer (pair_with n' b)).near ≡ true
