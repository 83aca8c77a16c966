-- What nodes and the air between them always keep, all together.
use Rattle.std.specs.Prelude.{List, Option}
use Rattle.tipc_replay.specs.Aged.{AreAged}
use Rattle.tipc_replay.specs.Answered.{AllAnswered}
use Rattle.tipc_replay.specs.CastLinks.{HaveRightCasts}
use Rattle.tipc_replay.specs.Castings.{AreCasting}
use Rattle.tipc_replay.specs.Ends.{AllNameEnded, AreBounded, HaveOwnNumbers, HavePackedLists, HaveRightEnds}
use Rattle.tipc_replay.specs.Met.{AreMet}
use Rattle.tipc_replay.specs.Plain.{AllPlain}
use Rattle.tipc_replay.specs.Received.{AreReceived}
use Rattle.tipc_replay.specs.Shared.{AreShared}
use Rattle.tipc_replay.specs.Skies.{AirState}
use Rattle.tipc_replay.specs.Sound.{IsSound}
use Rattle.tipc_replay.specs.States.{MemberState}
use Rattle.tipc_replay.specs.Watched.{AreWatched}

-- nodes and the air between them keep all of this
pub record IsSteady (members : List (Option MemberState)) (air : AirState) : Type 0 where
  pub sound : IsSound members air
  pub watched : AreWatched members air
  pub shared : AreShared members
  pub answered : AllAnswered members
  pub received : AreReceived members air
  pub met : AreMet members air
  pub plain : AllPlain members
  pub aged : AreAged members air
  pub casts : AreCasting members air
  pub cast_links : HaveRightCasts members
  pub ends : HaveRightEnds members
  pub bounded : AreBounded members
  pub numbers : HaveOwnNumbers members
  pub packed : HavePackedLists members
  pub originals : AllNameEnded members
