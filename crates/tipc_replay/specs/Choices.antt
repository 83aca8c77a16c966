-- To which match a message by name goes, and what an event makes of the chooser.
use Rattle.std.specs.Prelude.{◌≡◌, ℕ, ◌+◌, ◌%◌, ◌^◌, Bool, false, List, Option, Some, None, slice_index_or, if◌then◌else◌}
use Rattle.tipc_types.specs.declared.node_calls.Answer.{Answer}
use Rattle.tipc_pick.specs.Choosing.{Choosing}
use Rattle.tipc_journal.specs.Counting.{is_sent_by_name}
use Rattle.tipc_journal.specs.Licensed.{IsPicked}
use Rattle.tipc_node.specs.Works.{addr_of_word}
use Rattle.tipc_replay.specs.declared.events.WorldEvent.{WorldEvent}
use Rattle.tipc_replay.specs.declared.events.WorldEvent.TheVariants.{Call}
use Rattle.tipc_replay.specs.Calls.{node_of}
use Rattle.tipc_replay.specs.States.{MemberState}

-- whether an event that was answered so sent a message by name
abbrev pub is_named_send : WorldEvent → Answer → Bool
is_named_send (Call node call) answered = is_sent_by_name call answered
is_named_send other answered = false

-- where an event sent a message by name, it went to the match that the pick gives for this turn
abbrev pub IsPickedIn : (ℕ → ℕ → ℕ → Type 0) → ℕ → MemberState → WorldEvent → Answer → Type 0
IsPickedIn gives turn m (Call node call) answered = IsPicked gives turn (addr_of_word m.node.own) m.node.journal call answered
IsPickedIn gives turn m other answered = Unit {0}

-- a chooser goes to its next turn where a message was sent by name
abbrev pub after_choice : {P : Type 0} → Choosing P → Bool → Choosing P
after_choice c sent = record { pick = c.pick; turn = if sent then (c.turn + 1) % 2 ^ 64 else c.turn }

-- what an event at a node made of the chooser, where it was answered so
pub record Chooses {P : Type 0} (gives : P → ℕ → ℕ → ℕ → Type 0) (m : MemberState) (event : WorldEvent) (answered : Answer) (old new : Choosing P) : Type 0 where
  pub picked : (turn : ℕ) → turn % 2 ^ 64 ≡ old.turn → IsPickedIn (gives old.pick) turn m event answered
  pub turns : new ≡ after_choice old (is_named_send event answered)

-- the same of the node at which it happened
abbrev pub ChoosesAt : {P : Type 0} → (P → ℕ → ℕ → ℕ → Type 0) → List (Option MemberState) → WorldEvent → Answer → Choosing P → Choosing P → Type 0
ChoosesAt gives members event answered old new = (m : MemberState) → slice_index_or members (node_of event) None ≡ Some m → Chooses gives m event answered old new
