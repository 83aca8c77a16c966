-- The plan of a live run, and what it has each caller call.
use Rattle.std.specs.Prelude.{◌≡◌, ◌+◌, ◌%◌, ◌<◌, ◌≤◌, ℕ, Bool, true, false, List, [], ◌∷◌, ◌++◌, length, map}
use Rattle.std.specs.List.{All}
use Rattle.std.specs.Int.{w64, to_be_bytes}
use Rattle.tipc_types.specs.declared.message_forms.Importance.TheVariants.{Low}
use Rattle.tipc_types.specs.declared.node_calls.Answer.{Answer}
use Rattle.tipc_types.specs.declared.node_calls.Answer.TheVariants as answer
use Rattle.tipc_types.specs.declared.node_calls.EventNote.{EventNote}
use Rattle.tipc_types.specs.declared.node_calls.EventNote.TheVariants.{Mend, Publish, SendName, Socket}
use Rattle.tipc_types.specs.declared.services.Scope.TheVariants.{Cluster}
use Rattle.tipc_work.specs.declared.plans.LivePlan.{LivePlan}

-- from 2 to 8 nodes, from 1 to 8 callers at each, and from 1 to 1,000 messages of each caller
pub record IsLivePlan (plan : LivePlan) : Type 0 where
  pub nodes : (2 ≤ plan.nodes) × (plan.nodes ≤ 8)
  pub callers : (1 ≤ plan.callers) × (plan.callers ≤ 8)
  pub messages : (1 ≤ plan.messages) × (plan.messages ≤ 1000)

-- the port that a caller works at, by the answer to its socket: 0 where none was made
abbrev pub port_made : Answer → ℕ
port_made (answer.Socket port) = port
port_made other = 0

-- a caller publishes its number as the instance, of the type that stands for its node
abbrev pub publishing : ℕ → ℕ → ℕ → EventNote
publishing node caller port = Publish port (record { kind = 2000 + node; lower = caller; upper = caller }) Cluster caller

-- it sends each message to the caller with its number at the next node, behind the last of which is the first: 8 bytes,
-- the message's number
abbrev pub named_send : LivePlan → ℕ → ℕ → ℕ → ℕ → EventNote
named_send plan node caller port number = SendName port (2000 + (node % plan.nodes + 1)) caller Low (to_be_bytes w64 number)

-- whether a message that was answered so is tried again: nobody has that name yet, or too many packets wait
abbrev pub is_again : Answer → Bool
is_again answer.NoName = true
is_again (answer.Congested in_flight waiting) = true
is_again other = false

-- The answers to the tries of one message, which are 1,000 at most: each but the last says to try again, and so does
-- the last only where there are 1,000.
pub record AreTries (answers : List Answer) : Type 0 where
  pub before : List Answer
  pub last : Answer
  pub is : answers ≡ before ++ last ∷ []
  pub again : All (λ a. is_again a ≡ true) before
  pub few : length before < 1000
  pub ends : is_again last ≡ true → length before ≡ 999

-- the calls that send the messages from a number on, each as often as it was tried, with their answers
abbrev pub sends_from : (ℕ → EventNote) → ℕ → List (List Answer) → List (EventNote × Answer)
sends_from call number [] = []
sends_from call number (answers ∷ tries) = map (λ a. (call number, a)) answers ++ sends_from call (number + 1) tries

-- The calls of a caller, with their answers, show its part of the plan: it makes a socket, publishes itself, and sends
-- its messages.
pub record ShowsCaller (plan : LivePlan) (node caller : ℕ) (calls : List (EventNote × Answer)) : Type 0 where
  pub made : Answer
  pub published : Answer
  pub tries : List (List Answer)
  pub messages : length tries ≡ plan.messages
  pub each : All AreTries tries
  pub is : calls ≡ (Socket, made) ∷ (publishing node caller (port_made made), published)
      ∷ sends_from (named_send plan node caller (port_made made)) 0 tries

-- The calls of a mover, with their answers, show its part: it first mends bearer 0 and then bearer 1.
pub record ShowsMover (calls : List (EventNote × Answer)) : Type 0 where
  pub first : Answer
  pub second : Answer
  pub behind : List (EventNote × Answer)
  pub is : calls ≡ (Mend 0, first) ∷ (Mend 1, second) ∷ behind
