-- What an arrival at a pair makes of its receiving records, and which packets come of it.
use Rattle.std.specs.Prelude.{◌≡◌, ◌<◌, ◌≤◌, ◌⊎◌, ℕ, ◌+◌, false, true, List, [], ◌++◌, Some, is_some, length, slice_get, take}
use Rattle.tipc_types.specs.Limits.{most_age, window_size}
use Rattle.tipc_types.specs.declared.link_words.BroadcastState.{BroadcastState}
use Rattle.tipc_types.specs.declared.link_words.Why.{Why}
use Rattle.tipc_header.specs.Spelling.{Fields}
use Rattle.tipc_types.specs.declared.packet_lists.Taken.{Taken}
use Rattle.tipc_reassembly.specs.declared.opening.Opened.{Opened}
use Rattle.tipc_reassembly.specs.Opening.{BringsAll}
use Rattle.tipc_fragments.specs.Joining.{Joining}
use Rattle.tipc_link.specs.Direction.{IsCarried}
use Rattle.tipc_link.specs.Outliving.{IsOf}
use Rattle.tipc_link.specs.Sessions.{Carries, Content, SessionEnd, due_with, receiving_record, took}
use Rattle.tipc_pair.specs.declared.changes.PairOutcome.{PairOutcome}
use Rattle.tipc_pair.specs.Facing.{PairEnds, in_contact}
use Rattle.tipc_pair.specs.PairArrivals.{hears, with_bytes}
use Rattle.tipc_changeover.specs.Links.{seen, Bearer, Held, Receiver, State}
use Rattle.tipc_changeover.specs.Reached.{IsReached}
use Rattle.tipc_link.specs.Records.{Received, is_tunnel}
use Rattle.tipc_changeover.specs.Distances.{Bounded}
use Rattle.tipc_changeover.specs.Sound.{Sound}
use Rattle.tipc_two_nodes.specs.links.Following.{ReceiverFollows}
use Rattle.tipc_two_nodes.specs.links.Receiving.{AreLines, AreNext, IsSessionRecord, IsRecordFor, ReceiveFor, bytes_in, record_at, records_of}
use Rattle.tipc_two_nodes.specs.links.Traffic.{Lines, Traffic, epoch_of}

-- ---- a packet that came directly

-- A packet of a session, under a number, as it came in a frame of the session's sender: it is one of the last 50 that
-- were numbered when the frame was sent, and no more than 30,000 have been numbered since; or 50 more, as the event
-- that sent it may have numbered them behind it.
pub record IsFramed (line : List (List ℕ)) (number : ℕ) (packet : List ℕ) : Type 0 where
  pub numbered : ℕ
  pub so_far : numbered ≤ length line
  pub fresh : length line ≤ numbered + (most_age + window_size)
  pub carried : IsCarried line numbered number packet
  pub bytes : 1 ≤ length packet

-- The record after such a packet: it is of the same session, and has taken the packets that are due, which are the
-- next ones.
pub record Came (l : Lines) (s : SessionEnd) (r : Receiver) (t : Taken) : Type 0 where
  pub next : AreNext (l.line r.session) r.taken (due_with s t)
  pub record_is : IsSessionRecord l (receiving_record (took s t))
      (record { session = r.session; taken = r.taken + length (due_with s t) })
  pub line : IsOf (receiving_record (took s t)) (l.line r.session)

-- ---- what is opened

-- What a pair gives of these packets is what they bring, behind the message that was begun, and this message is begun
-- then; or nothing, where none was taken.
pub data Gives (begun : Joining) : List Taken → PairOutcome → Joining → Type 0 where
  brings : {carried : List Taken} {items : List Opened} {last : Joining}
      → BringsAll begun (with_bytes carried) items last
      → Gives begun carried (PairOutcome.Took items) last
  waits : Gives begun [] PairOutcome.Deferred begun
  ignores : {reason : Why} → Gives begun [] (PairOutcome.Ignored reason) begun

-- By events of the receiver a state becomes one for whose records those of this pair stand, and more packets were
-- taken in the contact, which are given.
pub record Receives (b : Bearer) (bearer : ℕ) (t : Traffic) (s : State) (before : List (List ℕ)) (y : PairEnds)
    (carried : List Taken) : Type 0 where
  pub state : State
  pub takes : ReceiverFollows b s state
  pub lines : AreLines bearer t state
  pub receive : ReceiveFor (records_of y) t (before ++ bytes_in carried) state

-- the pair when it has heard a packet, before it opens what its near link took
abbrev pub heard_pair : PairEnds → ℕ → ℕ → Fields → ℕ → BroadcastState → PairEnds
heard_pair x es er p by shown = (hears p.header es er p by shown x).course.pair

-- The pair gave this, of packets that were taken, behind the message that was begun when it had heard the packet; or
-- the contact was over then.
pub record Opens (b : Bearer) (bearer : ℕ) (t : Traffic) (s : State) (before : List (List ℕ)) (heard y : PairEnds)
    (given : PairOutcome) : Type 0 where
  pub carried : List Taken
  pub begun : Joining
  pub begun_is : (begun ≡ heard.begun) ⊎ (heard.contact < y.contact)
  pub gives : Gives begun carried given y.begun
  pub receives : Receives b bearer t s before y carried

-- the far end is made, where a packet of the near link is a tunnel packet
abbrev pub IsMadeFor : PairEnds → Traffic → Type 0
IsMadeFor y t = (session k : ℕ) (packet : List ℕ) → slice_get (t.near.line session) k ≡ Some packet
    → is_tunnel packet ≡ true → is_some y.far ≡ true

-- The near link of a pair has taken these packets, the next ones of a session; its record says so, and the state
-- doesn't yet. Before that, these packets were taken in the contact.
pub record HasTaken (y : PairEnds) (b : Bearer) (t : Traffic) (s : State) (before : List (List ℕ))
    (taken : List Taken) : Type 0 where
  pub two_bearers : y.bearer ≤ 1
  pub made : IsMadeFor y t
  pub lines : AreLines y.bearer t s
  pub sound : Sound b s
  pub bounded : Bounded s
  pub near : IsRecordFor t.near (record_at y.near)
      (record { session = s.near_record.session; taken = s.near_record.taken + length taken })
  pub far : IsRecordFor t.far (record_at y.far) s.far_record
  pub first_ones : take (length s.delivered) t.put ≡ before
  pub next : AreNext (t.near.line s.near_record.session) s.near_record.taken taken

-- ---- a pair that receives

-- The records of a pair, which took these packets in the contact, stand for those of a state, which was reached by
-- events.
pub record Stands (y : PairEnds) (b : Bearer) (t : Traffic) (s : State) (before : List (List ℕ)) : Type 0 where
  pub two_bearers : y.bearer ≤ 1
  pub made : IsMadeFor y t
  pub lines : AreLines y.bearer t s
  pub reached : IsReached (seen b s)
  pub receive : ReceiveFor (records_of y) t before s

-- what a packet brings a record of the session with these packets: where it carries one, that came in a frame of the
-- session's sender
pub record IsHeardIn (line : List (List ℕ)) (r : Received) (c : Content) : Type 0 where
  pub line_is : IsOf r line
  pub framed : (number : ℕ) (packet : List ℕ) → c ≡ Carries number packet → IsFramed line number packet

-- a link of the receiver may go up under the epoch of this session of the sender's link: it began, it isn't the next
-- one of a link that is held, and no record is of a later one
pub record MayBegin (s : State) (session : ℕ) : Type 0 where
  pub counts : 1 ≤ session
  pub later : s.near_record.session ≤ session
  pub begun : session ≤ s.near.session
  pub held : s.near.state ≡ Held → session < s.near.session

-- a contact number is the highest that was seen, or it is a higher one, and the pair is out of contact
abbrev pub ShowsLatest : PairEnds → ℕ → Type 0
ShowsLatest x number = (number ≡ x.seen) ⊎ ((x.seen < number) × (in_contact x ≡ false))

-- or under this epoch
pub record MayBeginAt (t : Traffic) (s : State) (epoch : ℕ) : Type 0 where
  pub session : ℕ
  pub epoch_is : epoch ≡ epoch_of t.near.first session
  pub may : MayBegin s session
