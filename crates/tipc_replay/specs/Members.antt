-- What each event makes of the node at which it happens.
use Rattle.std.specs.Prelude.{◌≡◌, ◌<◌, ◌≤◌, ℕ, ◌+◌, false, List, [], ◌∷◌, ◌++◌, Option, None, Some, length, nat_eq, nat_le, option_and_then, option_map, if◌then◌else◌}
use Rattle.indexmap.specs.IndexMap.{insert_entry}
use Rattle.tipc_types.specs.Address.{node_word}
use Rattle.tipc_types.specs.LinkStates.{is_up}
use Rattle.tipc_header.specs.Reading.{word_at}
use Rattle.tipc_broadcast.specs.Casting.{booted}
use Rattle.tipc_link.specs.Links.{LinkEnd}
use Rattle.tipc_link.specs.Sessions.{SessionEnd}
use Rattle.tipc_sockets.specs.SocketTables.{no_sockets}
use Rattle.tipc_node.specs.Discovery.{nobody_heard}
use Rattle.tipc_node.specs.Nodes.{NodeState, neighbour_of}
use Rattle.tipc_node.specs.Numbers.{IsBounded}
use Rattle.tipc_node.specs.Sharing.{SharesNames}
use Rattle.tipc_node.specs.Telling.{IsTold}
use Rattle.tipc_replay.specs.Readers.{node_number}
use Rattle.tipc_replay.specs.States.{MemberState, count_in, count_of, count_with, journals_of, link_in, same_session}

-- the node recorded a call, which left it so
abbrev pub called : MemberState → NodeState → MemberState
called m n = record m { node = n; calls = m.calls + 1 }

-- ---- how many packets were numbered in sessions that are over

-- what is to be noted of a session with a peer on a bearer: by the peer, the bearer and its epoch, how many packets it has numbered
abbrev pub Tally : Type 0
Tally = (ℕ × ℕ × ℕ) × ℕ

-- of a session: how many packets it has numbered, under the peer, the bearer and its epoch
abbrev pub tally : ℕ → ℕ → SessionEnd → Tally
tally peer bearer s = ((peer, bearer, s.epoch), s.sending.numbered)

-- the last session of a link that is down is over
abbrev pub over_in : ℕ → ℕ → Option LinkEnd → Option Tally
over_in peer bearer None = None
over_in peer bearer (Some e) = if is_up e.fsm.state then None else option_map (tally peer bearer) e.session

-- that of the link with a peer, where one is named
abbrev pub over_with : MemberState → Option ℕ → ℕ → Option Tally
over_with m None bearer = None
over_with m (Some peer) bearer = over_in peer bearer (link_in m.node peer bearer)

-- the counts with one more noted, where there is one
abbrev pub noted : List Tally → Option Tally → List Tally
noted counts None = counts
noted counts (Some last) = insert_entry same_session counts last.0 last.1

-- the last session of a link, up or down
abbrev pub last_in : ℕ → ℕ → Option LinkEnd → Option Tally
last_in peer bearer link = option_and_then (λ e. option_map (tally peer bearer) e.session) link

-- those with a peer on both bearers are noted
abbrev pub noted_both : List Tally → NodeState → ℕ → List Tally
noted_both counts n peer = noted (noted counts (last_in peer 0 (link_in n peer 0))) (last_in peer 1 (link_in n peer 1))

-- of the peers below that number every session is noted, and nothing else is
pub record AreNoted (counts counts' : List Tally) (n : NodeState) (below : ℕ) : Type 0 where
  pub here : (peer bearer epoch : ℕ) → peer < below
      → count_in counts' peer bearer epoch ≡ count_with counts (link_in n peer bearer) peer bearer epoch
  pub else_ : (peer bearer epoch : ℕ) → below ≤ peer → count_in counts' peer bearer epoch ≡ count_in counts peer bearer epoch

-- ---- an arrival

-- the number of the node that a frame names as its sender, in word 3 of its packet, behind the four words of the
-- envelope
abbrev pub sender_of : List ℕ → Option ℕ
sender_of bytes = if nat_le 32 (length bytes) then node_number (word_at 7 bytes) else None

-- A frame arrived on a bearer, which left the node so. The last session with its sender on that bearer was noted before, since a new one
-- may begin in its place.
abbrev pub arrived_member : MemberState → NodeState → Option ℕ → ℕ → ℕ → MemberState
arrived_member m n sender bearer frame = record {
  node = n;
  past = m.past;
  calls = m.calls + 1;
  arrivals = m.arrivals ++ record { bearer = bearer; frame = frame } ∷ [];
  counts = noted m.counts (over_with m sender bearer);
  casts = m.casts;
}

-- ---- a node is restarted, or comes in

-- a node at the beginning of a boot: it heard and knows nobody, no tick has passed, it cast nothing, and it has no sockets and no history, which is
-- what its journal tells
pub record IsFresh (n : NodeState) (own boot : ℕ) : Type 0 where
  pub own_is : n.own ≡ own
  pub boot_is : n.boot ≡ boot
  pub cut : n.mended ≡ (false, false)
  pub unheard : n.found ≡ nobody_heard own
  pub unticked : n.ticks ≡ 0
  pub alone : (peer : ℕ) → neighbour_of n peer ≡ None
  pub casting : n.casting ≡ booted own boot
  pub sockets : n.sockets ≡ no_sockets own boot
  pub no_history : n.journal ≡ []
  pub told : IsTold n
  pub shares : SharesNames n
  pub bounded : IsBounded n

-- A node was restarted: its journal is kept, and it begins its next boot. How many packets it ever numbered stays
-- known, and how many numbers its broadcast link used is noted for the boot that is over.
pub record IsRestarted (m m' : MemberState) : Type 0 where
  pub node : IsFresh m'.node m.node.own (m.node.boot + 1)
  pub past : m'.past ≡ journals_of m
  pub calls : m'.calls ≡ 0
  pub arrivals : m'.arrivals ≡ m.arrivals
  pub counts : (peer bearer epoch : ℕ) → count_of m' peer bearer epoch ≡ count_of m peer bearer epoch
  pub casts : m'.casts ≡ insert_entry nat_eq m.casts m.node.boot m.node.casting.sending.numbered

-- a node that has just come in, in this boot
pub record IsNewcomer (m : MemberState) (n boot : ℕ) : Type 0 where
  pub node : IsFresh m.node (node_word n) boot
  pub past : m.past ≡ []
  pub calls : m.calls ≡ 0
  pub arrivals : m.arrivals ≡ []
  pub counts : m.counts ≡ []
  pub casts : m.casts ≡ []
