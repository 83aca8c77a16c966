-- Every event leaves it so that what stands in the lists of the links isn't of link protocol.
use Rattle.std.proofs.Common.{◌≡◌, ℕ, Bool, List, [], Option, None, map, sym, subst, arith}
use Rattle.tipc_types.specs.declared.node_calls.Answer.{Answer}
use Rattle.tipc_types.specs.declared.node_calls.By.{By}
use Rattle.tipc_outside.specs.declared.outgoing.Outgoing.{Outgoing}
use Rattle.tipc_journal.specs.Steps.{NodeStep}
use Rattle.tipc_pair.specs.Facing.{PairEnds}
use Rattle.tipc_pair.proofs.turns.PairKept.{Both}
use Rattle.tipc_node.specs.declared.neighbours.Neighbour.{Neighbour}
use Rattle.tipc_node.specs.Messages.{bytes_of}
use Rattle.tipc_node.specs.Nodes.{NodeState, acquaintance, neighbour_of, pair_with}
use Rattle.tipc_node.specs.Turns.{NodeTurn}
use Rattle.tipc_replay.specs.declared.events.WorldEvent.{WorldEvent}
use Rattle.tipc_replay.specs.declared.events.WorldEvent.TheVariants.{Arrive, Call, Restart}
use Rattle.tipc_replay.specs.Effects.{HasEffect}
use Rattle.tipc_replay.specs.Events.{JoinsAt}
use Rattle.tipc_replay.specs.Plain.{AllPlain, HasPlainPairs, IsPlainPair}
use Rattle.tipc_replay.specs.States.{MemberState}
use Rattle.tipc_replay.specs.Steps.{Becomes, Stage}
use Rattle.tipc_replay.proofs.frames.Messages.{messages_are}
use Rattle.tipc_replay.proofs.pairs.PairedEvents.{made_turn, met_turn}
use Rattle.tipc_replay.proofs.states.Each.{becomes_each, joined_each, none_each}
use Rattle.tipc_replay.proofs.states.Shown.{HasPlain}
use Rattle.tipc_replay.proofs.states.TurnSays.{states_shown}

-- ---- one pair

as_both : (x : PairEnds) → IsPlainPair x → Both HasPlain x
as_both x h = record { two = h.two; near = h.near; far = h.far }

pub of_both : (x : PairEnds) → Both HasPlain x → IsPlainPair x
of_both x h = record { two = h.two; near = h.near; far = h.far }

-- a node that knows nobody
alone_plain : (n : NodeState) → ((b : ℕ) → neighbour_of n b ≡ None) → HasPlainPairs n
alone_plain n alone b = subst (λ (o : Option Neighbour). IsPlainPair (acquaintance n b o).pair) (sym (alone b)) (record { two = omega arith; near = tt; far = tt })

-- ---- one event

turn_plain : (n n' : NodeState) (bytes : List ℕ) (s : NodeStep) (frames : List Outgoing) → NodeTurn n n' bytes s frames → HasPlainPairs n → HasPlainPairs n'
turn_plain n n' bytes s frames t h b =
    let p = t.turns b in
    of_both (pair_with n' b) (states_shown (pair_with n b) (pair_with n' b) p.opening (map (bytes_of n.own) p.messages) p.reply p.own_frames n.own (as_both (pair_with n b) (h b)) (messages_are n.own p.messages p.sendable) p.shows p.shows_last p.turn).0

does_plain : (by : By) (event : WorldEvent) (bytes : List ℕ) (m m' : MemberState) (frames : List Outgoing) (answered : Answer) → HasEffect by event bytes m m' frames answered → HasPlainPairs m.node → HasPlainPairs m'.node
does_plain by (Restart a) bytes m m' frames answered h plain = alone_plain m'.node h.0.node.alone
does_plain by (Call a call) bytes m m' frames answered h plain = turn_plain m.node m'.node [] _ frames (made_turn by call m m' frames answered h).turn plain
does_plain by (Arrive a bearer place) bytes m m' frames answered h plain = turn_plain m.node m'.node bytes _ frames (met_turn by bearer place bytes m m' frames answered h).turn plain

pub becomes_plain : (old new : Stage) (by : By) (event : WorldEvent) (answered : Answer) (lost : Bool) → Becomes old by event new answered lost → AllPlain old.members → AllPlain new.members
becomes_plain old new by event answered lost h all = becomes_each HasPlainPairs old new by event answered lost (does_plain by event) h all

-- ---- the begin

pub start_plain : AllPlain []
start_plain = none_each HasPlainPairs

pub joined_plain : (old new : List (Option MemberState)) (n first : ℕ) → JoinsAt old new n first → AllPlain old → AllPlain new
joined_plain old new n first j all = joined_each HasPlainPairs old new n first (λ fresh h. alone_plain fresh h.alone) j all
