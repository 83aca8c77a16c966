-- What is looked at to tell whether calls that were made show the plan of a live run.
use Rattle.std.specs.Prelude.{◌≡◌, ◌+◌, ◌<◌, ℕ, true, List, length, slice_index_or, take}
use Rattle.std.specs.List.{All}
use Rattle.tipc_types.specs.declared.node_calls.Answer.{Answer}
use Rattle.tipc_types.specs.declared.node_calls.EventNote.{EventNote}
use Rattle.tipc_node_lock.specs.declared.passes.MadeCall.{MadeCall}
use Rattle.tipc_work.specs.Plans.{AreTries, is_again, sends_from}

-- The first calls, so many of them, are all the tries of one message: each is that call, and each before the last was
-- answered so that the message is tried again. So was the last only where there are 1,000.
pub record BeginWithTries (call : EventNote) (made : List MadeCall) (count : ℕ) : Type 0 where
  pub before : ℕ
  pub is : count ≡ before + 1
  pub within : before < length made
  pub few : before < 1000
  pub calls : All (λ m. m.call ≡ call) (take count made)
  pub again : All (λ m. is_again m.answer ≡ true) (take before made)
  pub ends : (m : MadeCall) → is_again (slice_index_or made before m).answer ≡ true → before ≡ 999

-- the calls, with their answers, are the tries of so many messages, from the one of a number on
pub record AreSends (call : ℕ → EventNote) (number count : ℕ) (calls : List (EventNote × Answer)) : Type 0 where
  pub tries : List (List Answer)
  pub messages : length tries ≡ count
  pub each : All AreTries tries
  pub is : calls ≡ sends_from call number tries
