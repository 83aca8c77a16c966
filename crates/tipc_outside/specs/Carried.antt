-- What a medium in memory carries, and a bearer over it.
use Rattle.std.specs.Prelude.{◌≡◌, ◌+◌, ◌-◌, ◌<◌, ◌==◌, ◌&&◌, ◌∷◌, ◌++◌, [], ℕ, Bool, not, List, length, if◌then◌else◌, nat_lt, slice_index_or}
use Rattle.tipc_outside.specs.Causes.{counted}
use Rattle.tipc_outside.specs.Memory.{is_failing}
use Rattle.tipc_types.specs.Address.{node_word}
use Rattle.tipc_types.specs.declared.identity.To.{To}
use Rattle.tipc_types.specs.declared.identity.To.TheVariants as to

-- a bearer over memory: its node's number from 1 on, which bearer it is, how often it was called, the numbers of the
-- calls that fail, and its counts of faults, of sends and of frames that it gave
pub record Carrying : Type 0 where
  pub node : ℕ
  pub bearer : ℕ
  pub calls : ℕ
  pub failing : List ℕ
  pub faults : ℕ
  pub tried : ℕ
  pub given : ℕ

-- a bearer after one more call, which counts a fault where it is one of those that fail
abbrev pub called : Carrying → Carrying
called b = record b { calls = counted b.calls; faults = if is_failing b.failing b.calls then counted b.faults else b.faults }

-- a bearer that was asked to send one more frame
abbrev pub asked : Carrying → Carrying
asked b = record b { tried = counted b.tried }

-- a bearer that gave one more frame
abbrev pub gave : Carrying → Carrying
gave b = record b { given = counted b.given }

-- the frames that wait for the node of this number
abbrev pub waiting_for : ℕ → List (List (List ℕ)) → List (List ℕ)
waiting_for node queues = slice_index_or queues (node - 1) []

-- frames that wait after one more came: it is lost where 4,096 wait already
abbrev pub with_frame : List (List ℕ) → List ℕ → List (List ℕ)
with_frame frames frame = if nat_lt (length frames) 4096 then frames ++ frame ∷ [] else frames

-- whether a frame from one node comes to another: one to all comes to each but its sender
abbrev pub is_for : ℕ → To → ℕ → Bool
is_for from (to.Node addr) node = addr.word == node_word node
is_for from to.All node = not (from == node)

-- the frames that wait for each node, in order of the nodes, after one from a node came to those of the first so many
-- that it is for; node 1 is at place 0
pub record Reaches (from : ℕ) (to : To) (frame : List ℕ) (count : ℕ) (old new : List (List (List ℕ))) : Type 0 where
  pub same : length new ≡ length old
  pub each : (place : ℕ) → place < length old → slice_index_or new place [] ≡
      (if nat_lt place count && is_for from to (place + 1) then with_frame (slice_index_or old place []) frame
      else slice_index_or old place [])
