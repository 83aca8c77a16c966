-- What comes in one flow: messages in packets of their own, and fragments of longer ones between them.
use Rattle.std.specs.Prelude.{◌≡◌, ℕ, ◌≤◌, All, List, [], ◌∷◌, ◌++◌, length, map, nat_le, if◌then◌else◌, None, Result, Ok, IsOk}
use Rattle.std.specs.List.{flat_map}
use Rattle.tipc_types.specs.Prefixes.{IsPrefixOf}
use Rattle.tipc_types.specs.Limits.{most_packet_bytes}
use Rattle.tipc_header.specs.Faults.{fault_of}
use Rattle.tipc_fragments.specs.declared.joining.Joined.{Joined}
use Rattle.tipc_fragments.specs.declared.joining.Joined.TheVariants.{Whole}
use Rattle.tipc_fragments.specs.declared.joining.JoinFault.{JoinFault}
use Rattle.tipc_fragments.specs.Cutting.{Piece, pieces_of}
use Rattle.tipc_fragments.specs.Joining.{after, answer_of, fresh, Joining}
use Rattle.tipc_fragments.specs.Laws.{arrived}

-- what comes: a message in a packet of its own, or a fragment
pub data Item : Type 0 where
  Single : (message : List ℕ) → Item
  Part : (piece : Piece) → Item

-- a message whose bytes are a packet
pub record IsMessage (message : List ℕ) : Type 0 where
  pub within : length message ≤ 66044
  pub packet : fault_of message ≡ None

-- what is sent of a message: a packet where it fits one, else its fragments
abbrev pub items_of : List ℕ → List Item
items_of message = if nat_le (length message) most_packet_bytes then Single message ∷ [] else map Part (pieces_of message)

-- A message in a packet of its own is answered at once; it leaves the begun message as it is.
abbrev pub item_answer : Joining → Item → ℕ → Result Joined JoinFault
item_answer s (Single message) by = Ok (Whole message (by ∷ []))
item_answer s (Part piece) by = answer_of s piece by

-- the message that is begun after an item that came by this arrival
abbrev pub item_after : Joining → Item → ℕ → Joining
item_after s (Single message) by = s
item_after s (Part piece) by = after s piece by

-- an item that came, and the arrival number by which it came
abbrev pub CameItem : Type 0
CameItem = Item × ℕ

-- the items that came
abbrev pub items_in : List CameItem → List Item
items_in came = map (λ c. c.0) came

-- the arrival numbers by which they came
abbrev pub item_arrivals_in : List CameItem → List ℕ
item_arrivals_in came = map (λ c. c.1) came

-- what is answered to items that come one after the other, each with an arrival number
abbrev pub item_answers : Joining → List CameItem → List (Result Joined JoinFault)
item_answers s [] = []
item_answers s (c ∷ came) = item_answer s c.0 c.1 ∷ item_answers (item_after s c.0 c.1) came

-- what is begun after them
abbrev pub item_after_all : Joining → List CameItem → Joining
item_after_all s [] = s
item_after_all s (c ∷ came) = item_after_all (item_after s c.0 c.1) came

-- What is made of a front of what is sent of these messages: nothing is a fault, and a front of the messages is
-- answered, each with the arrival numbers of what was sent of it; the other arrivals are those of the begun message.
-- Where everything came, every message is answered, and none is begun.
pub record GivesFront (messages : List (List ℕ)) (came : List CameItem) : Type 0 where
  pub sound : All IsOk (item_answers fresh came)
  pub front : IsPrefixOf (map (λ a. a.0) (arrived (item_answers fresh came))) messages
  pub counts : All (λ a. length a.1 ≡ length (items_of a.0)) (arrived (item_answers fresh came))
  pub arrivals : flat_map (λ a. a.1) (arrived (item_answers fresh came)) ++ (item_after_all fresh came).arrivals ≡ item_arrivals_in came
  pub every : length came ≡ length (flat_map items_of messages)
      → (map (λ a. a.0) (arrived (item_answers fresh came)) ≡ messages) × (item_after_all fresh came ≡ fresh)
