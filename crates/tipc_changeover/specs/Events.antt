-- What may happen in one direction between two nodes with two links, and what it changes. Each event is at the near
-- link. Loss, repeats and late arrivals change nothing: a frame may arrive at any time and any number of times, and
-- only the one at the next place of its link's record is taken. A plain packet that comes early and is put by is
-- taken when it is the next one.
use Rattle.std.specs.Prelude.{◌≡◌, ◌≢◌, ℕ, ◌+◌, ◌<◌, ◌≤◌, ◌==◌, nat_lt, if◌then◌else◌, Bool, true, false, List, [], ◌∷◌, ◌++◌, Some, length}
use Rattle.tipc_changeover.specs.Slots.{at, duplicates, originals, plain_slots, Plain, LinkSlot, Tunnel}
use Rattle.tipc_changeover.specs.Links.{leads, seen, slots, Bearer, EndState, First, Held, Receiver, Reset, Sender, State, Up}

-- What becomes of the packet inside a tunnel packet, against the record of the link of which it speaks.
pub data Opening : Type 0 where
  -- the record is of a later session
  Late : Opening
  -- the place was taken before, or the run is empty
  Old : Opening
  -- the place is the next one, and a placeholder stands for it
  Passed : Opening
  -- the place is the next one, and this plain packet is taken
  Next : (index : ℕ) → Opening
  -- a place before it is missing
  Deferred : Opening

-- what may happen at the near link
pub data Event : Type 0 where
  -- a plain packet is put
  Put : Event
  -- the first slot that waits gets a number, and these go on to wait
  Number : (slot : LinkSlot) (rest : List LinkSlot) → Event
  -- this many places are acknowledged
  Acknowledge : (places : ℕ) → Event
  -- the end is held no longer
  Release : Event
  -- the receiver begins a record of this session
  Record : (session : ℕ) → Event
  -- the plain packet at the next place is taken
  TakePlain : (index : ℕ) → Event
  -- the tunnel packet at the next place is taken, and opened
  TakeTunnel : (session place : ℕ) (full : Bool) (opening : Opening) → Event
  -- the link goes up, and takes nothing over
  LinkUp : Event
  -- the first bearer's link goes up while the second one's is up: it takes the flow, and duplicates what isn't
  -- acknowledged
  Switch : Event
  -- the link goes down while the other is up: what isn't acknowledged goes over the other, and the end is held
  Failover : Event

-- how many packets may be sent and not acknowledged
abbrev pub window : ℕ
window = 50

-- ---- what an event changes

-- one more slot in the line of a session
unfoldable pub extended : (ℕ → List LinkSlot) → ℕ → LinkSlot → ℕ → List LinkSlot
extended line session slot e = if e == session then line e ++ slot ∷ [] else line e

-- how many plain packets a slot holds
abbrev pub plain_count : LinkSlot → ℕ
plain_count (Plain i) = 1
plain_count (Tunnel f q full) = 0

-- the record when the next place of its session was taken
abbrev pub after_next : Receiver → Receiver
after_next r = record { session = r.session; taken = r.taken + 1 }

-- a tunnel packet tells of its session: a record of an earlier one is begun anew
unfoldable pub session_told : Receiver → ℕ → Receiver
session_told t session = if nat_lt t.session session then record { session = session; taken = 0 } else t

-- the record of the far link when a tunnel packet that speaks of it was opened so
abbrev pub opened : Receiver → Opening → Receiver
opened t Late = t
opened t Old = t
opened t Passed = after_next t
opened t (Next i) = after_next t
opened t Deferred = t

-- the plain packets that are taken by such an opening
abbrev pub taken_out : Opening → List ℕ
taken_out Late = []
taken_out Old = []
taken_out Passed = []
taken_out (Next i) = i ∷ []
taken_out Deferred = []

-- the state with other senders' ends, of the near link and of the far one
abbrev pub with_ends : State → Sender → Sender → State
with_ends s x y = record s { near = x; far = y }

-- the state with other receiver's records, of the near link and of the far one, and with this list of packets that were
-- taken
abbrev pub with_records : State → Receiver → Receiver → List ℕ → State
with_records s r t delivered = record s { near_record = r; far_record = t; delivered = delivered }

-- the end with other slots that wait
abbrev pub with_waiting : Sender → List LinkSlot → Sender
with_waiting x waiting = record x { waiting = waiting }

-- the end in another state
abbrev pub with_state : Sender → EndState → Sender
with_state x state = record x { state = state }

-- the end with so many places of its present session acknowledged
abbrev pub with_acked : Sender → ℕ → Sender
with_acked x acked = record x { acked = acked }

-- the end when a slot has got the next number, and these go on to wait
abbrev pub with_number : Sender → LinkSlot → List LinkSlot → Sender
with_number x slot rest = record x { line = extended x.line x.session slot; waiting = rest }

-- the end when its link has gone up, with these slots to send
abbrev pub gone_up : Sender → List LinkSlot → Sender
gone_up x waiting = record x { state = Up; waiting = waiting }

-- the end when its link has gone down: it is held, and in its next session, of which nothing is sent yet
abbrev pub gone_down : Sender → Sender
gone_down x = record { session = x.session + 1; state = Held; line = x.line; waiting = []; acked = 0 }

-- what takes the flow over sends of the other link: duplicates of what isn't acknowledged, then what waited
abbrev pub switched_slots : Sender → List LinkSlot
switched_slots y = duplicates y.session y.acked (y.line y.session) ++ y.waiting

-- what the other link sends of one that goes down: originals of what isn't acknowledged, then the plain packets that
-- waited
abbrev pub lost_slots : Sender → List LinkSlot
lost_slots x = originals x.session x.acked (x.line x.session) ++ plain_slots x.waiting

-- the state after an event at the near link
abbrev pub acted : State → Event → State
acted s Put = record s { near = with_waiting s.near (s.near.waiting ++ Plain (s.put + 1) ∷ []); put = s.put + 1 }
acted s (Number slot rest) = record s { near = with_number s.near slot rest; numbered = s.numbered + plain_count slot }
acted s (Acknowledge places) = with_ends s (with_acked s.near places) s.far
acted s Release = with_ends s (with_state s.near Reset) s.far
acted s (Record session) = with_records s (record { session = session; taken = 0 }) s.far_record s.delivered
acted s (TakePlain index) = with_records s (after_next s.near_record) s.far_record (s.delivered ++ index ∷ [])
acted s (TakeTunnel session place full opening) =
    with_records s (after_next s.near_record) (opened (session_told s.far_record session) opening) (s.delivered ++ taken_out opening)
acted s LinkUp = with_ends s (gone_up s.near s.near.waiting) s.far
acted s Switch = with_ends s (gone_up s.near (switched_slots s.far)) (with_waiting s.far [])
acted s Failover = with_ends s (gone_down s.near) (with_waiting s.far (s.far.waiting ++ lost_slots s.near))

-- ---- when it may happen

-- the slot at the next place of the near record
abbrev pub IsNext : State → LinkSlot → Type 0
IsNext s slot = at (s.near.line s.near_record.session) (s.near_record.taken + 1) ≡ Some slot

-- what a tunnel packet for a place of a session meets in the record of that link
abbrev pub MayOpen : (ℕ → List LinkSlot) → Receiver → (session place : ℕ) → Bool → Opening → Type 0
MayOpen line t session place full Late = session < t.session
MayOpen line t session place full Old = (t.session ≤ session) × (place ≤ (session_told t session).taken)
MayOpen line t session place full Passed =
    (t.session ≤ session) × (place ≡ (session_told t session).taken + 1) × (full ≡ false)
MayOpen line t session place full (Next i) =
    (t.session ≤ session) × (place ≡ (session_told t session).taken + 1) × (full ≡ true) ×
    (at (line session) place ≡ Some (Plain i))
MayOpen line t session place full Deferred = (t.session ≤ session) × ((session_told t session).taken + 1 < place)

-- what may happen at the near link, which is on this bearer
abbrev pub MayAct : Bearer → State → Event → Type 0
MayAct b s Put = leads b s.near.state s.far.state ≡ true
MayAct b s (Number slot rest) =
    (s.near.state ≡ Up) × (s.near.waiting ≡ slot ∷ rest) ×
    (length (s.near.line s.near.session) < s.near.acked + window)
MayAct b s (Acknowledge places) =
    (s.near.state ≡ Up) × (s.near_record.session ≡ s.near.session) × (s.near.acked < places) ×
    (places ≤ s.near_record.taken)
MayAct b s Release =
    (s.near.state ≡ Held) ×
    ((p f q : ℕ) (full : Bool) → at (slots s.far) p ≡ Some (Tunnel f q full) → p ≤ s.far.acked)
MayAct b s (Record session) =
    (s.near_record.session < session) × (session ≤ s.near.session) ×
    (s.near.state ≡ Held → session < s.near.session)
MayAct b s (TakePlain index) = IsNext s (Plain index)
MayAct b s (TakeTunnel session place full opening) =
    IsNext s (Tunnel session place full) × MayOpen s.far.line s.far_record session place full opening
MayAct b s LinkUp = (s.near.state ≡ Reset) × (b ≡ First → s.far.state ≢ Up)
MayAct b s Switch = (s.near.state ≡ Reset) × (b ≡ First) × (s.far.state ≡ Up)
MayAct b s Failover = (s.near.state ≡ Up) × (s.far.state ≡ Up)

-- what happens at the link of a bearer, where the state is seen from the first bearer's link
abbrev pub happened : Bearer → State → Event → State
happened b s event = seen b (acted (seen b s) event)
