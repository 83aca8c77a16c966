-- One direction of a session, from the end that sends to the end that receives: how a packet that was lost comes after all.
use Rattle.std.specs.Prelude.{◌≡◌, ℕ, ◌+◌, ◌-◌, ◌<◌, ◌≤◌, Bool, List, [], Some, Contains, slice_get}
use Rattle.tipc_types.specs.Position.{number_of}
use Rattle.tipc_types.specs.declared.link_words.BroadcastState.{BroadcastState}
use Rattle.tipc_types.specs.declared.packet_lists.Kept.{Kept}
use Rattle.tipc_types.specs.declared.packet_lists.Taken.{Taken}
use Rattle.tipc_types.specs.Limits.{window_size}
use Rattle.tipc_header.specs.Spelling.{Fields}
use Rattle.tipc_send_window.specs.Sending.{acked_of}
use Rattle.tipc_link.specs.Records.{tunnelled}
use Rattle.tipc_link.specs.Sessions.{SessionEnd, Content, Carries, IsPut, Shows, answered, content_of, flushed, gap, heard, receiving_record, after_acknowledgement, repeated, state_fields, after_state, with_record}
use Rattle.tipc_link.specs.Direction.{IsDirection, IsReceiver}

-- the packets of the sender s were numbered in this line, the receiver r holds some of them behind those that it took, and was shown no
-- more than the next position
pub record SendsTo (s r : SessionEnd) (line : List (List ℕ)) : Type 0 where
  pub direction : IsDirection s.sending r.taken line
  pub receiver : IsReceiver r.held r.taken line
  pub shown : r.shown ≤ s.sending.numbered + 1

-- an end hears a packet that the other told
abbrev pub hears : SessionEnd → ℕ → Fields → SessionEnd
hears e by p = heard e by p.acknowledgement (content_of p)

-- the packets that an end sends again when it hears what a packet brings under this acknowledgement
abbrev pub repeated_at : SessionEnd → ℕ → Content → List Kept
repeated_at e acknowledgement (Shows next gap probe) = repeated (after_acknowledgement e acknowledgement) acknowledgement gap
repeated_at e acknowledgement other = []

-- ---- what an end does takes nothing back

-- what it numbered, what was acknowledged of that, what it took, and what it was shown are no less than before
pub record GoesOn (before after : SessionEnd) : Type 0 where
  pub numbered : before.sending.numbered ≤ after.sending.numbered
  pub acked : acked_of before.sending ≤ acked_of after.sending
  pub taken : before.taken ≤ after.taken
  pub shown : before.shown ≤ after.shown

-- so it is when it hears any packet
abbrev pub HearingsGoOn : Type 0
HearingsGoOn = (e : SessionEnd) (by acknowledgement : ℕ) (content : Content) → GoesOn e (heard e by acknowledgement content)

-- when waiting packets move up
abbrev pub FlushesGoOn : Type 0
FlushesGoOn = (e : SessionEnd) → GoesOn e (flushed e)

-- when packets are put
abbrev pub PutsGoOn : Type 0
PutsGoOn = (e after : SessionEnd) (pieces : List (List ℕ)) → IsPut e pieces after → GoesOn e after

-- when it sends a STATE
abbrev pub TellingsGoOn : Type 0
TellingsGoOn = (e : SessionEnd) → GoesOn e (after_state e)

-- or the STATE that is due
abbrev pub AnswersGoOn : Type 0
AnswersGoOn = (e : SessionEnd) → GoesOn e (answered e)

-- and when a packet of this epoch comes through the other link
abbrev pub RecordsGoOn : Type 0
RecordsGoOn = (e : SessionEnd) (epoch : ℕ) (t : Taken) → GoesOn e (with_record e (tunnelled (receiving_record e) epoch t))

-- ---- how a lost packet comes

-- the receiver hears a STATE of the sender: it was shown the next position
abbrev pub StatesShow : Type 0
StatesShow = (s r : SessionEnd) (line : List (List ℕ)) (broadcast : BroadcastState) (probe : Bool) (by : ℕ) → SendsTo s r line
    → (hears r by (state_fields s broadcast probe)).shown ≡ s.sending.numbered + 1

-- a receiver tells a gap of so many packets, which were numbered
pub record TellsGap (s r : SessionEnd) : Type 0 where
  pub some : 1 ≤ gap r
  pub most : gap r ≤ window_size
  pub numbered : r.taken + gap r ≤ s.sending.numbered

-- it does where it was shown that the packet behind those that it took was numbered
abbrev pub GapsAreTold : Type 0
GapsAreTold = (s r : SessionEnd) (line : List (List ℕ)) → SendsTo s r line → r.taken + 1 < r.shown → TellsGap s r

-- the sender hears the STATE: it sends the packet at each position of the gap again
abbrev pub GapsAreRepeated : Type 0
GapsAreRepeated = (s r : SessionEnd) (line : List (List ℕ)) (broadcast : BroadcastState) (probe : Bool) (position : ℕ) (packet : List ℕ)
    → SendsTo s r line → TellsGap s r → r.taken < position → position ≤ r.taken + gap r → slice_get line (position - 1) ≡ Some packet
    → Contains (repeated_at s (state_fields r broadcast probe).acknowledgement (content_of (state_fields r broadcast probe)))
    (record { number = number_of position; packet = packet })

-- the receiver hears the packet at a position, the wanted one or one before it: it took that one
abbrev pub RepeatsAreTaken : Type 0
RepeatsAreTaken = (s r : SessionEnd) (line : List (List ℕ)) (by acknowledgement position : ℕ) (packet : List ℕ) → SendsTo s r line
    → position ≤ r.taken + 1 → position ≤ (heard r by acknowledgement (Carries (number_of position) packet)).taken

-- the sender hears a STATE of the receiver: what the receiver took is acknowledged
abbrev pub StatesRelease : Type 0
StatesRelease = (s r : SessionEnd) (line : List (List ℕ)) (broadcast : BroadcastState) (probe : Bool) (by : ℕ) → SendsTo s r line
    → acked_of (hears s by (state_fields r broadcast probe)).sending ≡ r.taken

-- ---- what was told a while ago; `told` is an end as it was when it told its STATE

-- The receiver hears a STATE of the sender: it was shown the position behind those that were numbered then, where it hasn't taken that one.
abbrev pub EarlierStatesShow : Type 0
EarlierStatesShow = (told s r : SessionEnd) (line : List (List ℕ)) (broadcast : BroadcastState) (probe : Bool) (by : ℕ) → SendsTo s r line → GoesOn told s
    → r.taken ≤ told.sending.numbered → told.sending.numbered + 1 ≤ (hears r by (state_fields told broadcast probe)).shown

-- The sender hears a STATE of the receiver: at least what the receiver had taken is acknowledged.
abbrev pub EarlierStatesRelease : Type 0
EarlierStatesRelease = (s told r : SessionEnd) (line : List (List ℕ)) (broadcast : BroadcastState) (probe : Bool) (by : ℕ) → SendsTo s r line → GoesOn told r
    → told.taken ≤ acked_of (hears s by (state_fields told broadcast probe)).sending

-- The sender, of whose packets no more are acknowledged than the receiver had taken, hears a STATE that tells a gap: it sends the packet at each
-- position of the gap again.
abbrev pub EarlierGapsAreRepeated : Type 0
EarlierGapsAreRepeated = (s told r : SessionEnd) (line : List (List ℕ)) (broadcast : BroadcastState) (probe : Bool) (position : ℕ) (packet : List ℕ)
    → SendsTo s r line → GoesOn told r → acked_of s.sending ≤ told.taken → gap told ≤ window_size → told.taken < position → position ≤ told.taken + gap told
    → slice_get line (position - 1) ≡ Some packet
    → Contains (repeated_at s (state_fields told broadcast probe).acknowledgement (content_of (state_fields told broadcast probe)))
    (record { number = number_of position; packet = packet })
