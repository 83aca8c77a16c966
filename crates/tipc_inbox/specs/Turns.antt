-- The rule of the queue between the two ends of an inbox.
use Rattle.std.specs.Prelude.{◌≡◌, ℕ, ◌≤◌, Bool, true, false, List, [], ◌++◌, length}
use mathlib.Core.Option.{some}
use lib.ListN.{get_elem?}
use Rattle.tipc_types.specs.declared.message_forms.Message.{Message}
use Rattle.tipc_inbox.specs.declared.rule.Log.{Log}

-- what an end knows: whether it gives, whether it takes, what it offered and took, and how many takings and offers it heard of
abbrev pub log : Bool → Bool → List Message → List Message → ℕ → ℕ → Log
log gives takes offered taken takings offers =
    record { gives = gives; takes = takes; offered = offered; taken = taken; takings = takings; offers = offers }

-- an end that neither gives nor takes
abbrev pub idle : Log
idle = log false false [] [] 0 0

-- where it gives, it is the giver, knows all that was offered, and heard of no more takings than there were
abbrev pub GivesInTurn : ℕ → List Message → List Message → ℕ → Log → Type 0
GivesInTurn giver offered taken end v = v.gives ≡ true → (end ≡ giver) × (v.offered ≡ offered) × (v.takings ≤ length taken)

-- where it takes, it is the taker, knows all that was taken, and heard of no more offers than there were
abbrev pub TakesInTurn : ℕ → List Message → List Message → ℕ → Log → Type 0
TakesInTurn taker offered taken end v = v.takes ≡ true → (end ≡ taker) × (v.taken ≡ taken) × (v.offers ≤ length offered)

-- The rule: what was offered is what was taken and then what is held, which is at most 128 messages; one end gives, and one
-- takes.
pub record InTurn (held : List Message) (views : List Log) : Type 0 where
  pub giver : ℕ
  pub taker : ℕ
  pub offered : List Message
  pub taken : List Message
  pub turn : offered ≡ taken ++ held
  pub few : length held ≤ 128
  pub gives : (end : ℕ) (v : Log) → get_elem? views end ≡ some v → GivesInTurn giver offered taken end v
  pub takes : (end : ℕ) (v : Log) → get_elem? views end ≡ some v → TakesInTurn taker offered taken end v
