-- A poised world in which each node hears all others, round by round.
use Rattle.std.specs.Prelude.{◌≡◌, ℕ, false}
use Rattle.tipc_outside.specs.declared.outgoing.Outgoing.{Outgoing}
use Rattle.tipc_header.specs.declared.frames.FrameKind.TheVariants.{Links}
use Rattle.tipc_header.specs.Frames.{kind_in}
use Rattle.tipc_header.specs.Spelling.{Fields}
use Rattle.tipc_node.specs.Turns.{IsFrom}
use Rattle.tipc_settling.specs.Silence.{IsSaidByTicks}
use Rattle.tipc_world.specs.declared.places.Places.{Places}
use Rattle.tipc_world.specs.CalmWorlds.{IsCalmWorld}
use Rattle.tipc_world.specs.Ends.{AreBefore, ends_of}
use Rattle.tipc_world.specs.Poised.{IsPoised}
use Rattle.tipc_world.specs.RoundParts.{EachNode, IsKept}
use Rattle.tipc_world.specs.States.{WorldState}
use Rattle.tipc_world.specs.StillWorlds.{HasHeardAll}
use Rattle.tipc_world.specs.YoungWorlds.{AreYoung}

-- a frame of node b under these two epochs brings what ticks say of a link that is up: a STATE, or an ACTIVATE
pub record SaysToPeer (b : ℕ) (o : Outgoing) (es er : ℕ) : Type 0 where
  pub packet : Fields
  pub from : IsFrom b o.frame es er packet
  pub kind : kind_in o.frame ≡ Links
  pub said : IsSaidByTicks packet.header

-- So far in a call, from some places on: nothing went up or down since it began, each node has heard all others, and
-- the frames that arrive next are young.
pub record StandsCalm (start : WorldState) (places : Places) (now : WorldState) : Type 0 where
  pub calm : IsCalmWorld start now
  pub heard : EachNode HasHeardAll now
  pub young : AreYoung start places now

-- A round begins so: the call began in a poised world, it is calm so far, and nothing is lost.
pub record BeginsRound (start : WorldState) (places : Places) (outset now : WorldState) : Type 0 where
  pub kept : IsKept start
  pub poised : IsPoised start
  pub behind : AreBefore (ends_of start.air) places
  pub within : AreBefore places (ends_of outset.air)
  pub so_far : StandsCalm start places outset
  pub whole : now.lost ≡ false
