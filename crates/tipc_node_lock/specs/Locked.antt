-- What is behind a node's lock, and what its type keeps of it.
use Rattle.std.specs.Prelude.{◌≡◌, ◌%◌, ◌^◌, ◌+◌, ◌<◌, ◌≤◌, ◌++◌, ℕ, List, length, map, option_to_list, slice_index_or, take, if◌then◌else◌}
use Rattle.std.specs.List.{All, range_with_len}
use Rattle.tipc_types.specs.declared.node_calls.Answer.{Answer}
use Rattle.tipc_types.specs.declared.node_calls.By.{By}
use Rattle.tipc_types.specs.declared.node_calls.EventNote.{EventNote}
use Rattle.tipc_outside.specs.Frames.{Out}
use Rattle.tipc_pick.specs.Choosing.{Choosing}
use Rattle.tipc_journal.specs.declared.entries.Entry.{Entry}
use Rattle.tipc_journal.specs.Counting.{CallsCount, calls_of, is_sent_by_name, names_sent}
use Rattle.tipc_journal.specs.Queues.{ever_queued, sockets, taken_count}
use Rattle.tipc_journal.specs.Refusals.{most_sockets}
use Rattle.tipc_ports.specs.Numbers.{port_number}
use Rattle.tipc_node.specs.Nodes.{NodeState}
use Rattle.tipc_node.specs.Sharing.{SharesNames}
use Rattle.tipc_node.specs.Telling.{IsTold}
use Rattle.tipc_node.specs.Works.{addr_of_word}
use Rattle.tipc_node_lock.specs.Inboxes.{PlaceState}
use Rattle.tipc_node_lock.specs.Journals.{AreCalls, arrival_numbers}
use Rattle.tipc_node_lock.specs.Passes.{PassState}

-- a node, its chooser, the frames that arrived by their numbers, the frames that nobody took yet, the places of its sockets' inboxes, and the
-- passes that came back to it
pub record LockedState (P : Type 0) : Type 0 where
  pub node : NodeState
  pub chooser : Choosing P
  pub heard : List (List ℕ)
  pub out : Out
  pub places : List PlaceState
  pub passes : List PassState

-- the next call of a caller, under a stamp: call numbers are counted from 0 by the journal's calls of that caller
abbrev pub by_of : {P : Type 0} → LockedState P → ℕ → ℕ → By
by_of n caller stamp = record { stamp = stamp; caller = caller; call = length (calls_of n.node.journal caller) }

-- a chooser turns where a message was sent by name
abbrev pub chooser_after : {P : Type 0} → Choosing P → EventNote → Answer → Choosing P
chooser_after c call answered = record { pick = c.pick; turn = if is_sent_by_name call answered then (c.turn + 1) % 2 ^ 64 else c.turn }

-- all that was received from a place's port was offered to its inbox, in that order, but for the message that stands by, which is the last
abbrev pub IsOfferedInOrder : ℕ → List Entry → PlaceState → Type 0
IsOfferedInOrder own journal p =
    take (taken_count journal p.port) (ever_queued (addr_of_word own) journal p.port) ≡ p.giver.offered ++ option_to_list p.standing

-- Just the sockets have an inbox, in their order, as many as may be there, and each is in order. Nothing was received from a port that isn't
-- made yet.
pub record HaveInboxes (n : NodeState) (places : List PlaceState) : Type 0 where
  pub ports : map (λ p. p.port) places ≡ sockets n.journal
  pub few : length places ≤ most_sockets
  pub order : All (IsOfferedInOrder n.own n.journal) places
  pub unmade : (port : ℕ) → port_number n.sockets.ports.boot n.sockets.ports.made < port → taken_count n.journal port ≡ 0

-- What the type keeps: the journal tells what the node is; each caller's calls are counted from 0; each step can be made again, of the
-- frame of its number where a frame arrived; the chooser turned once for each message that was sent by name; and each socket has its inbox.
pub record IsWellKept {P : Type 0} (n : LockedState P) : Type 0 where
  pub told : IsTold n.node
  pub shared : SharesNames n.node
  pub counted : CallsCount n.node.journal
  pub called : AreCalls n.node.journal
  pub heard : arrival_numbers n.node.journal ≡ range_with_len 0 (length n.heard)
  pub turns : n.chooser.turn ≡ names_sent n.node.journal % 2 ^ 64
  pub inboxes : HaveInboxes n.node n.places

-- the counts beside a journal are those of each caller's calls in it, which are no more than it has entries
pub record AreCounts (journal : List Entry) (counts : List ℕ) : Type 0 where
  pub each : (who : ℕ) → slice_index_or counts who 0 ≡ length (calls_of journal who)
  pub few : (who : ℕ) → length (calls_of journal who) ≤ length journal
