-- What contracts see of the ends of an inbox.
use Rattle.std.specs.Prelude.{◌≡◌, ℕ, ◌≤◌, List, [], ◌∷◌, ◌++◌, length}
use Rattle.atomic_table.specs.Seated.{TableId}
use Rattle.tipc_types.specs.declared.message_forms.Message.{Message}

-- the queue that a giver is of, what it offered and wasn't given back, in order, and how many were taken as far as it heard
pub record GiverState : Type 0 where
  pub of_inbox : TableId
  pub offered : List Message
  pub takings : ℕ

-- the queue that a taker is of, what it took, in order, and how many were offered as far as it heard
pub record TakerState : Type 0 where
  pub of_inbox : TableId
  pub taken : List Message
  pub offers : ℕ

-- a giver that offered nothing, and a taker that took nothing
abbrev pub new_giver : TableId → GiverState
new_giver inbox = record { of_inbox = inbox; offered = []; takings = 0 }

abbrev pub new_taker : TableId → TakerState
new_taker inbox = record { of_inbox = inbox; taken = []; offers = 0 }

-- after it offered a message
abbrev pub gave : GiverState → Message → GiverState
gave giver message = record { of_inbox = giver.of_inbox; offered = giver.offered ++ message ∷ []; takings = giver.takings }

-- after it took a message
abbrev pub took : TakerState → Message → TakerState
took taker message = record { of_inbox = taker.of_inbox; taken = taker.taken ++ message ∷ []; offers = taker.offers }

-- after it heard how many were taken
abbrev pub heard_of : GiverState → ℕ → GiverState
heard_of giver takings = record { of_inbox = giver.of_inbox; offered = giver.offered; takings = takings }

-- after it heard how many were offered
abbrev pub heard_from : TakerState → ℕ → TakerState
heard_from taker offers = record { of_inbox = taker.of_inbox; taken = taker.taken; offers = offers }

-- what was taken is a front of what was offered, with at most 128 messages behind it
abbrev pub IsFront : List Message → List Message → Type 0
IsFront taken offered = (held : List Message) × (offered ≡ taken ++ held) × (length held ≤ 128)
