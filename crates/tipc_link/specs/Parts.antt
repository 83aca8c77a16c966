-- Parts of what a link end takes, does and says: the packets that were taken, changes that leave a link up or down, and what a STATE can show.
use Rattle.std.specs.Prelude.{◌<◌, ◌^◌, ℕ, Bool, true, false, List, map}
use Rattle.tipc_types.specs.declared.link_words.BroadcastState.{BroadcastState}
use Rattle.tipc_types.specs.declared.packet_lists.Taken.{Taken}
use Rattle.tipc_link_fsm.specs.declared.changes.Change.{Change}
use Rattle.tipc_link_fsm.specs.declared.changes.Change.TheVariants.{Up, Down}

-- the bytes of packets that were taken
abbrev pub packets_in : List Taken → List (List ℕ)
packets_in taken = map (λ t. t.packet) taken

-- a change after which no session begins, and no link ended
abbrev pub is_quiet : Change → Bool
is_quiet Up = false
is_quiet (Down cause) = false
is_quiet other = true

-- the broadcast fields of a STATE fit their places
pub record IsShowable (shown : BroadcastState) : Type 0 where
  pub acknowledged : shown.acknowledged < 2 ^ 16
  pub next : shown.next < 2 ^ 16
  pub start : shown.start < 2 ^ 16
  pub gap : shown.gap < 2 ^ 16
