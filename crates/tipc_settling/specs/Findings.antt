-- How nodes find one another while they settle: a node that has no link up on a bearer asks there at a tick, and one that is asked makes its end.
use Rattle.std.specs.Prelude.{◌≡◌, ◌≤◌, ℕ, true, false, Contains, List, None, is_some}
use Rattle.tipc_types.specs.declared.node_calls.Answer.{Answer}
use Rattle.tipc_types.specs.declared.node_calls.Answer.TheVariants as answer
use Rattle.tipc_types.specs.declared.node_calls.Arrival.{Arrival}
use Rattle.tipc_types.specs.declared.node_calls.By.{By}
use Rattle.tipc_types.specs.declared.node_calls.EventNote.TheVariants.{Arrive, Tick}
use Rattle.tipc_outside.specs.declared.outgoing.Outgoing.{Outgoing}
use Rattle.tipc_header.specs.declared.frames.FrameKind.TheVariants.{Finds}
use Rattle.tipc_header.specs.Frames.{kind_in}
use Rattle.tipc_header.specs.Spelling.{Fields}
use Rattle.tipc_discovery.specs.Hearing.{is_of_network}
use Rattle.tipc_pair.specs.Facing.{facing, is_up_at}
use Rattle.tipc_node.specs.Arrivals.{Arrives}
use Rattle.tipc_node.specs.Calls.{CallTurn, Performs}
use Rattle.tipc_node.specs.Discovery.{request_on}
use Rattle.tipc_node.specs.Nodes.{NodeState, end_with, is_mended_on, neighbour_of, pair_with, stop_of}
use Rattle.tipc_node.specs.Turns.{IsFrom}

-- At a tick a node asks who is there on each mended bearer on which no link of it is up when the tick has passed.
abbrev pub NodesAsk : Type 0
NodesAsk = (n n' : NodeState) (by : By) (frames : List Outgoing) (answered : Answer) (bearer : ℕ) → Performs n by Tick n' frames answered → bearer ≤ 1
    → is_mended_on n.mended bearer ≡ true → ((b : ℕ) → is_up_at (end_with bearer (neighbour_of n' b)) ≡ false) → Contains frames (request_on n bearer)

-- A discovery packet of node b that nothing stops leaves an end to node b on its bearer.
abbrev pub ArrivalsFind : Type 0
ArrivalsFind = (n n' : NodeState) (by : By) (bearer number : ℕ) (bytes : List ℕ) (frames : List Outgoing) (answered : Arrival) (b es er : ℕ) (p : Fields)
    → Arrives n n' by bearer number bytes frames answered → CallTurn n n' by (Arrive bearer number) bytes (answer.Arrived answered) frames
    → bearer ≤ 1 → stop_of n bearer bytes ≡ None → IsFrom b bytes es er p → kind_in bytes ≡ Finds
    → is_some (facing bearer (pair_with n' b)).near ≡ true
