-- What a node's original tunnel packets name: sessions that are over.
use Rattle.std.specs.Prelude.{◌≡◌, ◌≤◌, ◌<◌, ℕ, false, List, All, IfSome}
use Rattle.tipc_types.specs.LinkStates.{is_up}
use Rattle.tipc_outside.specs.declared.outgoing.Outgoing.{Outgoing}
use Rattle.tipc_header.specs.declared.packet.ChangeoverType.TheVariants.{Original}
use Rattle.tipc_header.specs.Frames.{frame_of}
use Rattle.tipc_header.specs.Grammar.{Fits}
use Rattle.tipc_header.specs.Spelling.{Fields, spelling}
use Rattle.tipc_tunnel.specs.Tunnels.{Carries, IsTunnel, Tunnelled, tunnel_packet}
use Rattle.tipc_link_fsm.specs.Table.{Fsm}
use Rattle.tipc_link.specs.Links.{LinkEnd}
use Rattle.tipc_link.specs.Sessions.{SessionEnd}
use Rattle.tipc_pair.specs.Facing.{PairEnds, other}
use Rattle.tipc_pair.specs.PairFacts.{IsSessionOn}
use Rattle.tipc_node.specs.Nodes.{NodeState, pair_with}
use Rattle.tipc_node.specs.Numbers.{own_epoch_on}

-- Where the packet is an original tunnel packet, it names a session whose epoch is below this one of its bearer.
abbrev pub NamesEnded : (ℕ → ℕ) → List ℕ → Type 0
NamesEnded epochs packet =
    (t : Tunnelled) → IsTunnel t → packet ≡ spelling (tunnel_packet t) → t.kind ≡ Original → t.old.epoch < epochs t.old.bearer

-- A session of a link end on this bearer with these link states, present or over. Its epoch isn't above the end's, and is below it where the link is
-- down; and its originals name sessions that are over, where the own epochs by bearer are these.
pub record IsSessionOf (epochs : ℕ → ℕ) (bearer : ℕ) (fsm : Fsm) (s : SessionEnd) : Type 0 where
  pub on : IsSessionOn bearer s
  pub epoch : s.epoch ≤ fsm.own
  pub over : is_up fsm.state ≡ false → s.epoch < fsm.own
  pub waiting : All (NamesEnded epochs) s.sending.waiting
  pub unacked : All (NamesEnded epochs) s.sending.unacked

-- a link end on this bearer, and its session, where it has one
pub record HasSessionOf (epochs : ℕ → ℕ) (bearer : ℕ) (e : LinkEnd) : Type 0 where
  pub on : e.bearer ≡ bearer
  pub session : IfSome e.session (IsSessionOf epochs bearer e.fsm)

-- so are both link ends of a pair, each on its bearer
pub record HasSessions (x : PairEnds) : Type 0 where
  pub near : IfSome x.near (HasSessionOf (own_epoch_on x) x.bearer)
  pub far : IfSome x.far (HasSessionOf (own_epoch_on x) (other x.bearer))

-- Of each pair of a node, an original tunnel packet that waits or is unacknowledged names a session that is over: its epoch is below the own epoch
-- of the link end on the bearer that it names.
abbrev pub NameEnded : NodeState → Type 0
NameEnded n = (b : ℕ) → HasSessions (pair_with n b)

-- A frame that brings an original tunnel packet names a session whose epoch is below this one of its bearer.
abbrev pub BringsEnded : (ℕ → ℕ) → Outgoing → Type 0
BringsEnded epochs o =
    (es er : ℕ) (p : Fields) (t : Tunnelled) → Fits p → o.frame ≡ frame_of es er (spelling p) → Carries p t → t.kind ≡ Original → t.old.epoch < epochs t.old.bearer
