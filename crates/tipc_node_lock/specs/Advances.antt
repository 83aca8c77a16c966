-- How the moving of messages goes on at one place, and over all of them.
use Rattle.std.specs.Prelude.{◌≡◌, ◌≢◌, ◌+◌, ◌≤◌, ℕ, Some, None, length, slice_get}
use Rattle.tipc_node.specs.Sockets.{waiting_at}
use Rattle.tipc_node_lock.specs.declared.moves.Onward.{Onward}
use Rattle.tipc_node_lock.specs.declared.moves.Onward.TheVariants.{Here, Next, Stop}
use Rattle.tipc_node_lock.specs.Inboxes.{PlaceState}
use Rattle.tipc_node_lock.specs.Locked.{LockedState}
use Rattle.tipc_node_lock.specs.Moves.{IsClearedAt, MovingStops, MessagesMove}
use Rattle.tipc_node_lock.specs.Passes.{PassState}

-- nothing stands by at the place of that number, which is this port's
abbrev pub IsOpenAt : {P : Type 0} → ℕ → ℕ → LockedState P → Type 0
IsOpenAt index port n = (p : PlaceState) × (slice_get n.places index ≡ Some p) × (p.port ≡ port) × (p.standing ≡ None)

-- At the place of that number messages moved, under so many stamps at most: what was cleared elsewhere stays so.
pub record Advances {P : Type 0} (index stamps : ℕ) (n n' : LockedState P) (p p' : PassState) : Type 0 where
  pub moves : MessagesMove n n' p p'
  pub elsewhere : (other : ℕ) → other ≢ index → IsClearedAt n other → IsClearedAt n' other
  pub places : length n'.places ≡ length n.places
  pub of_table : p'.seat.of_table ≡ p.seat.of_table
  pub few : length p'.seat.drawn ≤ length p.seat.drawn + stamps

-- how it goes on behind one message: the place is open, and one message fewer waits at its port; or it is cleared, since the message stands by; or
-- no more is moved
abbrev pub MovesOn : {P : Type 0} → ℕ → ℕ → LockedState P → Onward → LockedState P → PassState → Type 0
MovesOn index port n Here n' p' =
    IsOpenAt index port n' × (length (waiting_at n'.node.sockets port) + 1 ≡ length (waiting_at n.node.sockets port))
MovesOn index port n Next n' p' = IsClearedAt n' index
MovesOn index port n Stop n' p' = MovingStops n' p'

-- over all places
pub record MovesAll {P : Type 0} (n n' : LockedState P) (p p' : PassState) : Type 0 where
  pub moves : MessagesMove n n' p p'
  pub of_table : p'.seat.of_table ≡ p.seat.of_table
  pub few : length p'.seat.drawn ≤ length p.seat.drawn + 32768
