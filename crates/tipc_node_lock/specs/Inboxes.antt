-- Inboxes beside a node's lock: each socket has one. Behind the lock is the place that gives to it, and the pass that made the socket takes
-- from it.
use Rattle.std.specs.Prelude.{◌≡◌, ◌⊎◌, ◌==◌, ◌+◌, ◌≤◌, ℕ, not, List, [], ◌∷◌, ◌++◌, Option, Some, None, filter, length}
use Rattle.atomic_table.specs.Seated.{TableId}
use Rattle.tipc_types.specs.declared.message_forms.Message.{Message}
use Rattle.tipc_types.specs.declared.node_calls.Answer.{Answer}
use Rattle.tipc_types.specs.declared.node_calls.Answer.TheVariants.{Done, Socket as Made}
use Rattle.tipc_types.specs.declared.node_calls.EventNote.{EventNote}
use Rattle.tipc_types.specs.declared.node_calls.EventNote.TheVariants.{Close, Socket}
use Rattle.tipc_inbox.specs.Ends.{GiverState, TakerState, gave, new_giver, new_taker, took}

-- a port with the end of its inbox that gives, and a message that stands by since the inbox gave it back
pub record PlaceState : Type 0 where
  pub port : ℕ
  pub giver : GiverState
  pub standing : Option Message

-- a port with the end of its inbox that takes
pub record PortTakerState : Type 0 where
  pub port : ℕ
  pub taker : TakerState

-- the place and the taker of a port with a new inbox
abbrev pub new_place : TableId → ℕ → PlaceState
new_place inbox port = record { port = port; giver = new_giver inbox; standing = None }

abbrev pub new_port_taker : TableId → ℕ → PortTakerState
new_port_taker inbox port = record { port = port; taker = new_taker inbox }

-- What is kept for each port, after a call that was answered so: for a socket that was made one more, behind the others; for one that was
-- closed nothing.
abbrev pub kept_for_ports : {A : Type 0} → (A → ℕ) → (ℕ → A) → List A → EventNote → Answer → List A
kept_for_ports port new kept Socket (Made made) = kept ++ new made ∷ []
kept_for_ports port new kept (Close closed) Done = filter (λ one. not (port one == closed)) kept
kept_for_ports port new kept call answered = kept

-- the places after a call, where a socket that was made has this inbox; and the takers of the pass that made the call
abbrev pub places_after : List PlaceState → TableId → EventNote → Answer → List PlaceState
places_after places inbox call answered = kept_for_ports (λ p. p.port) (new_place inbox) places call answered

abbrev pub takers_after : List PortTakerState → TableId → EventNote → Answer → List PortTakerState
takers_after takers inbox call answered = kept_for_ports (λ t. t.port) (new_port_taker inbox) takers call answered

-- ---- offering

-- the inbox gave a message back: at least 128 more were offered than the giver heard that were taken
abbrev pub GaveBack : GiverState → Type 0
GaveBack giver = giver.takings + 128 ≤ length giver.offered

-- a message is offered at a place where nothing stands by: it is given, or it stands by since the inbox gave it back
abbrev pub Offers : PlaceState → Message → PlaceState → Type 0
Offers p m p' = (p' ≡ record p { giver = gave p.giver m; standing = None }) ⊎ ((p' ≡ record p { standing = Some m }) × GaveBack p.giver)

-- ---- taking

-- after it took a message
abbrev pub having_taken : PortTakerState → Message → PortTakerState
having_taken t m = record t { taker = took t.taker m }
