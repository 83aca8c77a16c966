-- Two nodes of a world as two that talk.
use Rattle.std.specs.Prelude.{ℕ, List, Option, map}
use Rattle.tipc_types.specs.Address.{node_word}
use Rattle.tipc_types.specs.declared.message_forms.Flow.TheVariants.{Zero}
use Rattle.tipc_journal.specs.declared.entries.Entry.{Entry}
use Rattle.tipc_journal.specs.Streams.{accepted, delivered}
use Rattle.tipc_pair.specs.Facing.{PairEnds}
use Rattle.tipc_paired.specs.Views.{Frame, Node}
use Rattle.tipc_two_nodes.specs.Sights.{Sight}
use Rattle.tipc_node.specs.Messages.{bytes_of}
use Rattle.tipc_replay.specs.Air.{sent_between}
use Rattle.tipc_replay.specs.Numbers.{begun_of, end_on, own_in, seen_in}
use Rattle.tipc_replay.specs.Skies.{AirState}
use Rattle.tipc_replay.specs.States.{MemberState, boot_at, count_at, history_at, pair_at, stream_of}

-- The packets of the messages that a node with this address word accepted for node b in a contact. A packet is spelled for the node that
-- sends it.
abbrev pub put_in : ℕ → List Entry → ℕ → ℕ → ℕ → List (List ℕ)
put_in word entries b own theirs = map (bytes_of word) (accepted entries (stream_of b own theirs Zero))

-- the packets of the messages that were delivered from node b in a contact
abbrev pub given_in : List Entry → ℕ → ℕ → ℕ → List (List ℕ)
given_in entries b own theirs = map (bytes_of (node_word b)) (delivered entries (stream_of b own theirs Zero))

-- node a, and the contact numbers that it has for node b
abbrev pub node_from : ℕ → ℕ → ℕ → Option PairEnds → Node
node_from a b boot pair = record { own = node_word a; peer = node_word b; boot = boot; contact = own_in boot pair; seen = seen_in pair }

-- node a towards node b: its boot, its pair, the packets of the messages that it put and was given, how many packets it numbered by bearer
-- and epoch, and the frames that it sent
abbrev pub sight_from : ℕ → ℕ → ℕ → Option PairEnds → (ℕ → ℕ → List (List ℕ)) → (ℕ → ℕ → List (List ℕ))
    → (ℕ → ℕ → ℕ) → List Frame → Sight
sight_from a b boot pair put given counts sent = record {
  node = node_from a b boot pair;
  ends = λ bearer. end_on bearer pair;
  put = put;
  given = given;
  partial = begun_of pair;
  numbered = counts;
  sent = sent;
}

-- node a of a world towards node b
unfoldable pub sight_at : List (Option MemberState) → AirState → ℕ → ℕ → Sight
sight_at members air a b =
    sight_from a b (boot_at members a) (pair_at members a b) (put_in (node_word a) (history_at members a) b)
    (given_in (history_at members a) b) (count_at members a b) (sent_between air a b)
