-- Fragments that are joined, one after the other.
use Rattle.std.specs.Prelude.{◌≡◌, ℕ, ◌+◌, ◌==◌, ◌&&◌, Bool, true, false, List, [], ◌∷◌, ◌++◌, length, nat_le, not, if◌then◌else◌, Option, Some, None, Result, Ok, Err}
use Rattle.tipc_header.specs.declared.fault.HeaderFault.{HeaderFault}
use Rattle.tipc_header.specs.declared.packet.FragmentType.{FragmentType}
use Rattle.tipc_header.specs.Faults.{fault_of}
use Rattle.tipc_fragments.specs.declared.joining.Joined.{Joined}
use Rattle.tipc_fragments.specs.declared.joining.Joined.TheVariants.{More, Whole}
use Rattle.tipc_fragments.specs.declared.joining.JoinFault.{JoinFault}
use Rattle.tipc_fragments.specs.declared.joining.JoinFault.TheVariants.{NotInOrder, TooLong, BadMessage, NoMemory}
use Rattle.tipc_fragments.specs.Cutting.{is_last, may_follow, Piece}

-- The message that is begun: the bytes of its fragments so far, and the arrival numbers of these fragments. There
-- is no fragment where none is begun.
pub record Joining : Type 0 where
  pub bytes : List ℕ
  pub arrivals : List ℕ

-- no message is begun
abbrev pub fresh : Joining
fresh = record { bytes = []; arrivals = [] }

-- with one more fragment
abbrev pub grown : Joining → List ℕ → ℕ → Joining
grown s bytes by = record { bytes = s.bytes ++ bytes; arrivals = s.arrivals ++ by ∷ [] }

-- A fragment is the next one: a first one where none was before, and any other behind some; and numbers count from 1.
abbrev pub is_next : Joining → FragmentType → ℕ → Bool
is_next s kind number = may_follow kind (length s.arrivals) && (number == length s.arrivals + 1)

-- The message may have these bytes besides.
abbrev pub has_room : Joining → List ℕ → Bool
has_room s bytes = nat_le (length s.bytes + length bytes) 66044

-- what whole bytes give: the message, or the fault for which they are no packet
abbrev pub with_fault : Joining → Option HeaderFault → Result Joined JoinFault
with_fault s None = Ok (Whole s.bytes s.arrivals)
with_fault s (Some fault) = Err (BadMessage fault)

-- what the last fragment gives: the message, where its bytes are a packet
abbrev pub whole_of : Joining → Result Joined JoinFault
whole_of s = with_fault s (fault_of s.bytes)

-- what is answered to a fragment that came by this arrival
unfoldable pub answer_of : Joining → Piece → ℕ → Result Joined JoinFault
answer_of s p by =
    if not (is_next s p.kind p.number) then Err NotInOrder
    else (if not (has_room s p.bytes) then Err TooLong
    else (if is_last p.kind then whole_of (grown s p.bytes by)
    else Ok More))

-- whether the answer says that more fragments are to come
abbrev pub is_more : Result Joined JoinFault → Bool
is_more (Ok More) = true
is_more (Ok (Whole message arrivals)) = false
is_more (Err fault) = false

-- The message goes on where more is to come; else none is begun then.
unfoldable pub after : Joining → Piece → ℕ → Joining
after s p by = if is_more (answer_of s p by) then grown s p.bytes by else fresh

-- A fault is the answer, and drops the begun message; want of memory changes nothing.
abbrev pub IsFault : Joining → Joining → Result Joined JoinFault → JoinFault → Type 0
IsFault old new answer NotInOrder = (answer ≡ Err NotInOrder) × (new ≡ fresh)
IsFault old new answer TooLong = (answer ≡ Err TooLong) × (new ≡ fresh)
IsFault old new answer (BadMessage fault) = (answer ≡ Err (BadMessage fault)) × (new ≡ fresh)
IsFault old new answer NoMemory = new ≡ old
