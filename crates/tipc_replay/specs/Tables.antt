-- What is promised of the names of a world's nodes: a peer holds what a node has published.
use Rattle.std.specs.Prelude.{◌≡◌, ℕ, List, Option, Some, count_by}
use Rattle.tipc_types.specs.Address.{node_word}
use Rattle.tipc_types.specs.declared.message_forms.Flow.TheVariants.{Zero}
use Rattle.tipc_types.specs.declared.message_forms.Message.{Message}
use Rattle.tipc_journal.specs.Contacts.{contact}
use Rattle.tipc_journal.specs.Matches.{names}
use Rattle.tipc_journal.specs.Names.{live}
use Rattle.tipc_journal.specs.Streams.{is_items}
use Rattle.tipc_name_dist.specs.Agreeing.{Agrees}
use Rattle.tipc_node.specs.Turns.{addr_of}
use Rattle.tipc_replay.specs.States.{MemberState, accepted_at, delivered_at, journal_now}

-- how many messages of name items are among these
abbrev pub items_among : List Message → ℕ
items_among messages = count_by is_items messages

-- The names of node a are done at node b: the two are in one contact, and as many messages of name items were delivered at b from a in it
-- as a accepted for b in it.
pub record AreNamesDone (members : List (Option MemberState)) (a b : ℕ) : Type 0 where
  pub own : ℕ
  pub theirs : ℕ
  pub here : contact (journal_now members a) (addr_of b) ≡ Some (own, theirs)
  pub there : contact (journal_now members b) (addr_of a) ≡ Some (theirs, own)
  pub all : items_among (delivered_at members b a theirs own Zero) ≡ items_among (accepted_at members a b own theirs Zero)

-- Then node b's table has of node a what a's live publications are as far as they are seen in the cluster. So it is for all nodes.
abbrev pub AreTables : List (Option MemberState) → Type 0
AreTables members = (a b : ℕ) → AreNamesDone members a b
    → Agrees (node_word a) (live (journal_now members a)) (names (journal_now members b))
