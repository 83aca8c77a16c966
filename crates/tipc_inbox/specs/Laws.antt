-- What the rule of an inbox says of its ends.
use Rattle.std.specs.Prelude.{◌≡◌, ℕ, ◌≤◌, true, List, ◌++◌, length}
use mathlib.Core.Option.{some}
use lib.ListN.{get_elem?}
use Rattle.tipc_types.specs.declared.message_forms.Message.{Message}
use Rattle.tipc_inbox.specs.declared.rule.Log.{Log}
use Rattle.tipc_inbox.specs.Turns.{InTurn}

-- one end gives
abbrev pub OneGives : Type 0
OneGives = (held : List Message) (views : List Log) → InTurn held views → (i j : ℕ) (v w : Log)
    → get_elem? views i ≡ some v → get_elem? views j ≡ some w → v.gives ≡ true → w.gives ≡ true → i ≡ j

-- one end takes
abbrev pub OneTakes : Type 0
OneTakes = (held : List Message) (views : List Log) → InTurn held views → (i j : ℕ) (v w : Log)
    → get_elem? views i ≡ some v → get_elem? views j ≡ some w → v.takes ≡ true → w.takes ≡ true → i ≡ j

-- what the giver offered is what the taker took and then what is held, at most 128 messages
abbrev pub AreTakenInOrder : Type 0
AreTakenInOrder = (held : List Message) (views : List Log) → InTurn held views → (i j : ℕ) (v w : Log)
    → get_elem? views i ≡ some v → get_elem? views j ≡ some w → v.gives ≡ true → w.takes ≡ true
    → (v.offered ≡ w.taken ++ held) × (length held ≤ 128)
