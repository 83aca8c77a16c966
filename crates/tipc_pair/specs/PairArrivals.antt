-- What a packet that arrives on the near link makes of a pair that has a link end on each bearer: of its links and the contact, and what is given
-- of the packets that were taken.
use Rattle.std.specs.Prelude.{◌≡◌, ℕ, Bool, true, false, not, ◌&&◌, ◌==◌, nat_lt, List, [], ◌∷◌, ◌++◌, filter, length, Option, Some, None, is_none, is_some, if◌then◌else◌}
use Rattle.tipc_types.specs.declared.link_words.BroadcastState.{BroadcastState}
use Rattle.tipc_types.specs.declared.link_words.Why.{Why}
use Rattle.tipc_types.specs.declared.link_words.Why.TheVariants as why
use Rattle.tipc_types.specs.declared.packet_lists.Taken.{Taken}
use Rattle.tipc_header.specs.declared.packet.ChangeoverType.{ChangeoverType}
use Rattle.tipc_header.specs.declared.packet.ChangeoverType.TheVariants as kind
use Rattle.tipc_header.specs.declared.packet.Header.{Header}
use Rattle.tipc_header.specs.declared.contents.HeaderContent.{HeaderContent}
use Rattle.tipc_header.specs.declared.contents.HeaderContent.TheVariants as content
use Rattle.tipc_header.specs.declared.contents.Notice.TheVariants as notice
use Rattle.tipc_header.specs.Contents.{header_content}
use Rattle.tipc_header.specs.Faults.{fault_of}
use Rattle.tipc_header.specs.Grammar.{Fits}
use Rattle.tipc_header.specs.Reading.{fields_at}
use Rattle.tipc_header.specs.Spelling.{Fields, spelling}
use Rattle.tipc_fragments.specs.Joining.{Joining}
use Rattle.tipc_tunnel.specs.Tunnels.{Carries, Tunnelled}
use Rattle.tipc_reassembly.specs.declared.opening.Opened.{Opened}
use Rattle.tipc_reassembly.specs.Opening.{BringsAll}
use Rattle.tipc_recv_window.specs.declared.outcomes.LinkOutcome.{LinkOutcome}
use Rattle.tipc_link_fsm.specs.declared.changes.Change.{Change}
use Rattle.tipc_link_fsm.specs.declared.changes.Change.TheVariants.{Stay}
use Rattle.tipc_link_fsm.specs.Table.{Outcome, on_peer_tunnel, on_reset}
use Rattle.tipc_link.specs.Records.{named, tunnelled_outcome}
use Rattle.tipc_link.specs.Links.{LinkEnd, arrival_end, change_outcome, frames, is_down, link_outcome, named_end, numbers_at, outcome_of, record_of, repeats_at, tunnelled_down, tunnelled_end}
use Rattle.tipc_link.specs.Sessions.{as_waiting, brought}
use Rattle.tipc_pair.specs.declared.changes.PairOutcome.{PairOutcome}
use Rattle.tipc_pair.specs.Changeovers.{at_far, following, released, risen}
use Rattle.tipc_pair.specs.Courses.{AddsCourse, Course, LeavingState, going_on, rests}
use Rattle.tipc_pair.specs.Facing.{PairEnds, in_contact, is_up_at, other, with_far, with_near}
use Rattle.tipc_pair.specs.PairCalls.{stepped}

-- what an arrival made of the pair so far, and what the near link made of the packet
pub record Heard : Type 0 where
  pub course : Course
  pub outcome : LinkOutcome

-- the packet is ignored for this reason, and the pair stays as it is
abbrev pub passing : PairEnds → Why → Heard
passing x reason = record { course = rests x; outcome = LinkOutcome.Ignored reason }

-- first this course, and then an arrival at the pair that it left
abbrev pub behind : Course → (PairEnds → Heard) → Heard
behind c hear = record { course = going_on c (λ y. (hear y).course); outcome = (hear c.pair).outcome }

-- ---- a packet of a session

-- the near link does with the packet what it does
abbrev pub linked : PairEnds → LinkEnd → Outcome → Fields → ℕ → BroadcastState → Course
linked x e o p by shown = record (rests (with_near x (arrival_end e o p by))) {
  states = frames e o shown ++ repeats_at e o p;
  numbered = numbers_at e o p by;
}

-- and then follows what its change asks for
abbrev pub met : PairEnds → LinkEnd → Outcome → Fields → ℕ → ℕ → BroadcastState → Heard
met x e o p es by shown = record {
  course = going_on (linked x e o p by shown) (λ y. following y o.change es);
  outcome = link_outcome e o p by;
}

-- a packet under the epochs es and er meets the near end: it is ignored as unknown where that isn't made
abbrev pub met_at : ℕ → ℕ → Fields → ℕ → BroadcastState → PairEnds → Option LinkEnd → Heard
met_at es er p by shown x None = passing x why.Unknown
met_at es er p by shown x (Some e) = met x e (outcome_of e.fsm p.header es er (is_up_at x.far)) p es by shown

-- a packet under the epochs es and er meets the near end of this pair
abbrev pub met_near : ℕ → ℕ → Fields → ℕ → BroadcastState → PairEnds → Heard
met_near es er p by shown x = met_at es er p by shown x x.near

-- ---- RESET and ACTIVATE

-- a RESET is given to the near end
abbrev pub reset_given : ℕ → Bool → BroadcastState → PairEnds → Option LinkEnd → Heard
reset_given es held shown x None = passing x why.Unknown
reset_given es held shown x (Some e) = record {
  course = stepped x e (on_reset e.fsm es held) es shown;
  outcome = change_outcome (on_reset e.fsm es held).change;
}

-- the change that a RESET makes of the near end's link states; none where the end isn't made
abbrev pub reset_change : ℕ → Bool → Option LinkEnd → Change
reset_change es held None = Stay
reset_change es held (Some e) = (on_reset e.fsm es held).change

-- A RESET that took the last link down ended the contact: then it is given to the end again. One that took a link down which is
-- held now did no more.
abbrev pub reset_near : ℕ → BroadcastState → PairEnds → Heard
reset_near es shown x =
    if is_down (reset_change es (is_up_at x.far) x.near) && not (is_up_at x.far)
    then behind (reset_given es (is_up_at x.far) shown x x.near).course (λ y. reset_given es false shown y y.near)
    else reset_given es (is_up_at x.far) shown x x.near

-- By the contact number that it shows: below the highest seen it is ignored; one above is the highest from then on, and then a RESET
-- goes on, and an ACTIVATE where no contact ended.
abbrev pub by_number : PairEnds → ℕ → Heard → Heard → Heard
by_number x number same higher = if nat_lt number x.seen then passing x why.Contact else (if number == x.seen then same else higher)

-- a RESET that shows this contact number arrives on the near link
abbrev pub reset_shown : ℕ → ℕ → BroadcastState → PairEnds → Heard
reset_shown number es shown x = by_number x number (reset_near es shown x) (behind (risen x number) (reset_near es shown))

-- what becomes of an ACTIVATE with a higher contact number: where a contact ended it took nothing, and else it goes on
abbrev pub activates : Bool → Course → Heard → Heard
activates true risen others = record { course = risen; outcome = LinkOutcome.Took [] }
activates false risen others = others

-- an ACTIVATE, which shows this contact number
abbrev pub activate_higher : ℕ → (PairEnds → Heard) → PairEnds → Heard
activate_higher number meet x = activates (in_contact x) (risen x number) (behind (risen x number) meet)

-- an ACTIVATE that shows this contact number arrives on the near link; `meet` is how it meets the near end
abbrev pub activate_shown : ℕ → (PairEnds → Heard) → PairEnds → Heard
activate_shown number meet x = by_number x number (meet x) (activate_higher number meet x)

-- what the near link makes of a packet that is this to it, under the epochs es and er
abbrev pub hears_as : HeaderContent → ℕ → ℕ → Fields → ℕ → BroadcastState → PairEnds → Heard
hears_as (content.Notice (notice.Reset said)) es er p by shown x = reset_shown said.contact es shown x
hears_as (content.Notice (notice.Activate said)) es er p by shown x = activate_shown said.contact (met_near es er p by shown) x
hears_as other es er p by shown x = met_near es er p by shown x

-- what the near link makes of a packet of any kind
abbrev pub hears : Header → ℕ → ℕ → Fields → ℕ → BroadcastState → PairEnds → Heard
hears h es er p by shown x = hears_as (header_content h) es er p by shown x

-- the pair is as after this, and so is what was told and sent, and the outcome
pub record IsHeardAs (h : Heard) (after : PairEnds) (old new : LeavingState) (outcome : LinkOutcome) : Type 0 where
  pub pair : after ≡ h.course.pair
  pub told : AddsCourse old new h.course
  pub gives : outcome ≡ h.outcome

-- ---- tunnel packets

-- the bytes are a tunnel packet that carries this
pub record IsTunnelOf (bytes : List ℕ) (t : Tunnelled) : Type 0 where
  pub packet : Fields
  pub fits : Fits packet
  pub spelled : bytes ≡ spelling packet
  pub carries : Carries packet t

-- it was taken on the near link, and speaks of the far one, which has an end
pub record SpeaksOfFar (x : PairEnds) (bytes : List ℕ) (t : Tunnelled) : Type 0 where
  pub tunnel : IsTunnelOf bytes t
  pub bearer : t.old.bearer ≡ other x.bearer
  pub made : is_some x.far ≡ true

-- the original of a packet of the session in which the far link is up takes that link down first
abbrev pub tunnelled_at : ℕ → PairEnds → Option LinkEnd → Course
tunnelled_at epoch x None = rests x
tunnelled_at epoch x (Some e) = following (with_near x (tunnelled_down e epoch)) (on_peer_tunnel e.fsm epoch).change epoch

-- what a tunnel packet that names this epoch makes of the far link before it is opened: a duplicate makes nothing of it
abbrev pub taken_down : ChangeoverType → ℕ → PairEnds → Course
taken_down kind.Duplicate epoch x = rests x
taken_down kind.Original epoch x = at_far (λ y. tunnelled_at epoch y y.near) x

-- a packet as it waited to be sent on its own link; what is no packet stays as it is
unfoldable pub restored : List ℕ → List ℕ
restored packet = if is_none (fault_of packet) then spelling (as_waiting (fields_at packet)) else packet

-- the packet inside, which is taken as it waited, or a placeholder's nothing
abbrev pub inside_of : Tunnelled → ℕ → Taken
inside_of t by = brought t.number (restored t.inner) by

-- Then the inner packet is given to the record of the far link. An empty run only names the epoch.
abbrev pub inner_taken : Tunnelled → ℕ → LinkEnd → LinkEnd
inner_taken t by e = if t.count == 0 then named_end e t.old.epoch else tunnelled_end e t.old.epoch (inside_of t by)

-- the packets that an arrival took; none where it was deferred or ignored
abbrev pub taken_in : LinkOutcome → List Taken
taken_in (LinkOutcome.Took taken) = taken
taken_in other = []

-- what the far end can take by the packet inside: that one and those held behind it, where it is the wanted one
abbrev pub freed_by : Tunnelled → ℕ → LinkEnd → List Taken
freed_by t by e =
    if t.count == 0 then [] else taken_in (tunnelled_outcome (named (record_of e) t.old.epoch) t.old.epoch (inside_of t by))

-- the pair when the far end, where it was made, has counted the packet inside
abbrev pub inner_at : Tunnelled → ℕ → PairEnds → Option LinkEnd → Course
inner_at t by x None = rests x
inner_at t by x (Some e) = rests (with_far x (inner_taken t by e))

-- what the far end can take by it, where it was made
abbrev pub freed_at : Tunnelled → ℕ → Option LinkEnd → List Taken
freed_at t by None = []
freed_at t by (Some e) = freed_by t by e

-- what a tunnel packet that speaks of the far link makes of the pair
abbrev pub tunnelled_through : PairEnds → Tunnelled → ℕ → Course
tunnelled_through x t by = going_on (taken_down t.kind t.old.epoch x) (λ y. inner_at t by y y.far)

-- What of the packets that the near link took is to be opened, and what becomes of the pair. Only the first of them can be a tunnel packet,
-- since none is ever held: what it frees in the other link's record comes before the packets behind it. One that doesn't speak of the
-- other link stays as it is, and is passed over when it is opened.
pub data Unwraps (x : PairEnds) : List Taken → Course → List Taken → Type 0 where
  none_taken : Unwraps x [] (rests x) []
  as_it_is : (first : Taken) (others : List Taken) → ((t : Tunnelled) → SpeaksOfFar x first.packet t → ⊥)
      → Unwraps x (first ∷ others) (rests x) (first ∷ others)
  tunnel : (first : Taken) (others : List Taken) (t : Tunnelled) → SpeaksOfFar x first.packet t
      → Unwraps x (first ∷ others) (tunnelled_through x t first.by)
      (freed_at t first.by (taken_down t.kind t.old.epoch x).pair.far ++ others)

-- placeholders have no bytes, and nothing comes of them
abbrev pub with_bytes : List Taken → List Taken
with_bytes taken = filter (λ (t : Taken). nat_lt 0 (length t.packet)) taken

-- ---- what an arrival gives

-- the course after which this message is begun
abbrev pub with_begun : Course → Joining → Course
with_begun c begun = record c { pair = record c.pair { begun = begun } }

-- what comes of the packets that were taken, and what becomes of the pair
pub data OpensInto (x : PairEnds) : LinkOutcome → Course → PairOutcome → Type 0 where
  opens : {taken carried : List Taken} {c : Course} {given : List Opened} {last : Joining} → Unwraps x taken c carried
      → BringsAll c.pair.begun (with_bytes carried) given last
      → OpensInto x (LinkOutcome.Took taken) (with_begun c last) (PairOutcome.Took given)
  deferred : OpensInto x LinkOutcome.Deferred (rests x) PairOutcome.Deferred
  ignored : {reason : Why} → OpensInto x (LinkOutcome.Ignored reason) (rests x) (PairOutcome.Ignored reason)

-- This packet arrived on the near link, under an envelope of these two epochs, by this arrival: what it made of the pair, and what it gave.
pub record Arrives (x : PairEnds) (es er : ℕ) (p : Fields) (by : ℕ) (shown : BroadcastState) (c : Course) (given : PairOutcome) : Type 0 where
  pub opened : Course
  pub opens : OpensInto (hears p.header es er p by shown x).course.pair (hears p.header es er p by shown x).outcome opened given
  pub course : c ≡ going_on (going_on (hears p.header es er p by shown x).course (λ y. opened)) released
