-- What the laws of cutting and joining speak of.
use Rattle.std.specs.Prelude.{◌≡◌, ℕ, ◌+◌, ◌-◌, ◌*◌, ◌<◌, ◌≤◌, All, List, [], ◌∷◌, ◌++◌, length, take, drop, map, replicate, nat_le, if◌then◌else◌, Option, Some, None, Result, Ok, Err, IsOk}
use Rattle.std.specs.List.{filter_map, flat_map}
use Rattle.tipc_types.specs.Prefixes.{IsPrefixOf}
use Rattle.tipc_header.specs.Faults.{fault_of}
use Rattle.tipc_fragments.specs.declared.joining.Joined.{Joined}
use Rattle.tipc_fragments.specs.declared.joining.Joined.TheVariants.{More, Whole}
use Rattle.tipc_fragments.specs.declared.joining.JoinFault.{JoinFault}
use Rattle.tipc_fragments.specs.Cutting.{count_of, kind_of, Piece, pieces_of}
use Rattle.tipc_fragments.specs.Joining.{after, answer_of, fresh, Joining}

-- a fragment behind so many others, of so many in all
pub record IsPiece (count before : ℕ) (p : Piece) : Type 0 where
  pub number : p.number ≡ before + 1
  pub kind : p.kind ≡ kind_of count before
  pub some : 1 ≤ length p.bytes
  pub most : length p.bytes ≤ 1412
  pub full : before + 1 < count → length p.bytes ≡ 1412

-- a message that is cut, and whose bytes are a packet
pub record IsLong (message : List ℕ) : Type 0 where
  pub long : 1453 ≤ length message
  pub within : length message ≤ 66044
  pub packet : fault_of message ≡ None

-- a fragment that came, and the arrival number by which it came
abbrev pub Came : Type 0
Came = Piece × ℕ

-- the fragments that came
abbrev pub pieces_in : List Came → List Piece
pieces_in came = map (λ c. c.0) came

-- the arrival numbers by which they came
abbrev pub arrivals_in : List Came → List ℕ
arrivals_in came = map (λ c. c.1) came

-- ---- fragments that come one after the other

-- what is answered to each
abbrev pub answers : Joining → List Came → List (Result Joined JoinFault)
answers s [] = []
answers s (c ∷ came) = answer_of s c.0 c.1 ∷ answers (after s c.0 c.1) came

-- what is begun after them
abbrev pub after_all : Joining → List Came → Joining
after_all s [] = s
after_all s (c ∷ came) = after_all (after s c.0 c.1) came

-- begun by the first fragments of a message, which came by these arrivals
abbrev pub begun : List ℕ → List ℕ → Joining
begun message arrivals = record { bytes = take (1412 * length arrivals) message; arrivals = arrivals }

-- What is made of the first fragments of a message, not all of them: more is to come, and they are begun.
pub record IsBegun (message : List ℕ) (came : List Came) : Type 0 where
  pub answered : answers fresh came ≡ replicate (length came) (Ok More)
  pub left : after_all fresh came ≡ begun message (arrivals_in came)

-- What is made of all fragments of a message: the last gives it, and the joiner is as new.
pub record IsWhole (message : List ℕ) (came : List Came) : Type 0 where
  pub answered : answers fresh came ≡ replicate (count_of message - 1) (Ok More) ++ Ok (Whole message (arrivals_in came)) ∷ []
  pub left : after_all fresh came ≡ fresh

-- a message, and the arrival numbers of its fragments
abbrev pub Arrived : Type 0
Arrived = List ℕ × List ℕ

-- the message that an answer gives, if it gives one
abbrev pub arrived_in : Result Joined JoinFault → Option Arrived
arrived_in (Ok (Whole message arrivals)) = Some (message, arrivals)
arrived_in (Ok More) = None
arrived_in (Err fault) = None

-- the messages that were answered, in order
abbrev pub arrived : List (Result Joined JoinFault) → List Arrived
arrived results = filter_map arrived_in results

-- ---- Fragments of these messages, one message after the other from the first fragment on, came by these arrivals.

-- the messages of which every fragment came
abbrev pub joined_of : List (List ℕ) → List ℕ → List Arrived
joined_of [] arrivals = []
joined_of (m ∷ messages) arrivals =
    if nat_le (count_of m) (length arrivals)
    then (m, take (count_of m) arrivals) ∷ joined_of messages (drop (count_of m) arrivals)
    else []

-- what the fragments of the message behind them have begun
abbrev pub left_of : List (List ℕ) → List ℕ → Joining
left_of [] arrivals = fresh
left_of (m ∷ messages) arrivals =
    if nat_le (count_of m) (length arrivals)
    then left_of messages (drop (count_of m) arrivals)
    else begun m arrivals

-- What is made of a front of the fragments of these messages: no fragment is a fault, and a front of the messages is
-- answered, each with the arrival numbers of its own fragments, so many as it has; the other arrivals are those of
-- the begun message. Where every fragment came, every message is answered, and none is begun.
pub record JoinsFront (messages : List (List ℕ)) (came : List Came) : Type 0 where
  pub sound : All IsOk (answers fresh came)
  pub joined : arrived (answers fresh came) ≡ joined_of messages (arrivals_in came)
  pub left : after_all fresh came ≡ left_of messages (arrivals_in came)
  pub front : IsPrefixOf (map (λ a. a.0) (arrived (answers fresh came))) messages
  pub counts : All (λ a. length a.1 ≡ count_of a.0) (arrived (answers fresh came))
  pub arrivals : flat_map (λ a. a.1) (arrived (answers fresh came)) ++ (after_all fresh came).arrivals ≡ arrivals_in came
  pub every : length came ≡ length (flat_map pieces_of messages)
      → (map (λ a. a.0) (arrived (answers fresh came)) ≡ messages) × (after_all fresh came ≡ fresh)
