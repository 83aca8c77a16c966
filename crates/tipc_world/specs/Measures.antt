-- What is under way in a world, by weight: each packet counts once, and what was accepted and isn't delivered yet by
-- what may come of it (tipc_settling specs/Loads).
use Rattle.std.specs.Prelude.{◌≡◌, ◌≤◌, ◌<◌, ◌+◌, ℕ, false, length}
use Rattle.tipc_broadcast.specs.Casting.{Casting}
use Rattle.tipc_link.specs.Sessions.{SessionEnd}
use Rattle.tipc_settling.specs.Loads.{accepted_weight, delivered_weight, node_packets, node_sum, put_into, under_way}
use Rattle.tipc_replay.specs.States.{MemberState}
use Rattle.tipc_world.specs.declared.places.Places.{Places}
use Rattle.tipc_world.specs.CastRows.{CastsAs}
use Rattle.tipc_world.specs.Directions.{StandsIn}
use Rattle.tipc_world.specs.Poised.{IsPoised}
use Rattle.tipc_world.specs.RoundParts.{GrowsNoMore, IsKept, MoreRounds, total_of}
use Rattle.tipc_world.specs.Rows.{WasUp}
use Rattle.tipc_world.specs.Settling.{Rounds}
use Rattle.tipc_world.specs.States.{WorldState}

-- the packets of a node in its present boot, and the weight of what it accepted
abbrev pub weight_put : MemberState → ℕ
weight_put m = node_packets m.node + accepted_weight m.node.journal

-- the weight of what was delivered there
abbrev pub weight_given : MemberState → ℕ
weight_given m = delivered_weight m.node.journal

-- No more is under way than at an earlier moment: of all nodes together the packets and what they accepted grew by no
-- more than what was delivered.
abbrev pub NoMoreIsUnderWay : WorldState → WorldState → Type 0
NoMoreIsUnderWay start now = GrowsNoMore weight_put weight_given start now

-- What was ever put on the links of a node that are up, the packets that are under way on its broadcast link, and the
-- weight of what it accepted.
abbrev pub weight_ever : MemberState → ℕ
weight_ever m = node_sum put_into under_way m.node + accepted_weight m.node.journal

-- no more was put than at an earlier moment, by what was delivered since
abbrev pub NoMoreWasPut : WorldState → WorldState → Type 0
NoMoreWasPut start now = GrowsNoMore weight_ever weight_given start now

-- Less is under way than at an earlier moment.
abbrev pub LessIsUnderWay : WorldState → WorldState → Type 0
LessIsUnderWay start now = total_of weight_put now + total_of weight_given start < total_of weight_put start + total_of weight_given now

-- A packet isn't acknowledged.
abbrev pub HasUnacknowledged : SessionEnd → Type 0
HasUnacknowledged s = 1 ≤ length s.sending.unacked

-- The packets that are under way on the links of a node that are up, what was ever put on its broadcast link, and the
-- weight of what it accepted.
abbrev pub weight_cast : MemberState → ℕ
weight_cast m = node_sum under_way put_into m.node + accepted_weight m.node.journal

-- no more was put on broadcast links than at an earlier moment, by what was delivered since
abbrev pub NoMoreWasCast : WorldState → WorldState → Type 0
NoMoreWasCast start now = GrowsNoMore weight_cast weight_given start now

-- Where a packet of a link isn't acknowledged, four rounds leave less under way.
abbrev pub FourRoundsBringLess : Type 0
FourRoundsBringLess = (start : WorldState) (done : ℕ) (places : Places) (outset : WorldState) (ends : Places) (now : WorldState) (a b bearer : ℕ)
    → IsKept start → IsPoised start → Rounds start done places outset → MoreRounds done places outset (done + 4) ends now → now.lost ≡ false
    → WasUp start a b bearer → StandsIn outset HasUnacknowledged a b bearer → LessIsUnderWay outset now

-- A broadcast packet isn't acknowledged by all.
abbrev pub HasUnacknowledgedCast : Casting → Type 0
HasUnacknowledgedCast v = 1 ≤ length v.sending.unacked

-- Where one isn't, four rounds leave less under way.
abbrev pub FourRoundsBringLessCast : Type 0
FourRoundsBringLessCast = (start : WorldState) (done : ℕ) (places : Places) (outset : WorldState) (ends : Places) (now : WorldState) (a : ℕ)
    → IsKept start → IsPoised start → Rounds start done places outset → MoreRounds done places outset (done + 4) ends now → now.lost ≡ false
    → CastsAs outset HasUnacknowledgedCast a → LessIsUnderWay outset now
