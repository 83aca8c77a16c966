-- What becomes, in a call that settles, of the packets that links and broadcast links had numbered before.
use Rattle.std.specs.Prelude.{◌≡◌, ◌≤◌, ℕ, true, List, None, Option, Some, slice_index_or}
use Rattle.tipc_types.specs.LinkStates.{is_up}
use Rattle.tipc_send_window.specs.Sending.{acked_of}
use Rattle.tipc_link.specs.Links.{LinkEnd}
use Rattle.tipc_link.specs.Sessions.{SessionEnd}
use Rattle.tipc_replay.specs.States.{MemberState, link_at}
use Rattle.tipc_world.specs.CastRows.{CastsAs, IsCastReleased}
use Rattle.tipc_world.specs.States.{WorldState}

-- The packet at a position of the session of this epoch was acknowledged: the link of node a to node b on a bearer is
-- up in that session, and what was acknowledged there goes as far.
pub record IsAcknowledged (members : List (Option MemberState)) (a b bearer epoch position : ℕ) : Type 0 where
  pub end : LinkEnd
  pub there : link_at members a b bearer ≡ Some end
  pub up : is_up end.fsm.state ≡ true
  pub session : SessionEnd
  pub has : end.session ≡ Some session
  pub same : session.epoch ≡ epoch
  pub so_far : position ≤ acked_of session.sending

-- Every packet that a link had numbered at the earlier moment, when it was up, is acknowledged at the later one.
abbrev pub AllIsAcknowledged : WorldState → WorldState → Type 0
AllIsAcknowledged old new = (a b bearer : ℕ) (e : LinkEnd) (s : SessionEnd) → link_at old.members a b bearer ≡ Some e → is_up e.fsm.state ≡ true
    → e.session ≡ Some s → IsAcknowledged new.members a b bearer s.epoch s.sending.numbered

-- Every broadcast packet that had its number at the earlier moment is released at the later one: all nodes in contact
-- acknowledged it.
abbrev pub AllCastsAreReleased : WorldState → WorldState → Type 0
AllCastsAreReleased old new = (a : ℕ) (m : MemberState) → slice_index_or old.members a None ≡ Some m → CastsAs new (IsCastReleased m.node.casting.sending.numbered) a
