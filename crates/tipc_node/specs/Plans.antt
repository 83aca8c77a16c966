-- A call as a plan: why it is refused, and else its work on the node's own tables, what it sends, and its answer; and what is made of a node
-- where a plan is carried out.
use Rattle.std.specs.Prelude.{◌≡◌, ◌==◌, ℕ, Bool, true, false, nat_le, if◌then◌else◌, List, [], Option, None, Some}
use Rattle.tipc_types.specs.declared.identity.Addr.{Addr}
use Rattle.tipc_types.specs.declared.message_forms.Message.{Message}
use Rattle.tipc_types.specs.declared.node_calls.Answer.{Answer}
use Rattle.tipc_types.specs.declared.node_calls.Answer.TheVariants as answer
use Rattle.tipc_types.specs.declared.node_calls.By.{By}
use Rattle.tipc_types.specs.declared.node_calls.EventNote.{EventNote}
use Rattle.tipc_outside.specs.declared.outgoing.Outgoing.{Outgoing}
use Rattle.tipc_journal.specs.Dues.{comes_home}
use Rattle.tipc_broadcast.specs.Casting.{Casting}
use Rattle.tipc_node.specs.Messages.{IsSendable, destination_of}
use Rattle.tipc_node.specs.Nodes.{NodeState, load_with, recorded}
use Rattle.tipc_node.specs.Sockets.{crowd_refusal, kept_answer}
use Rattle.tipc_node.specs.Works.{GivesFate, GoesAway, TellsPeers, Work, addr_of_word, begun, concluded, neighbour_at}

-- ---- the way of a message

-- there is no contact, or as many packets wait on the active link as may before a message of this importance
abbrev pub link_refusal : Option (ℕ × ℕ) → ℕ → Option Answer
link_refusal None limit = Some answer.NoNode
link_refusal (Some load) limit = if nat_le limit load.1 then Some (answer.Congested load.0 load.1) else None

-- a message for the own node needs no link
abbrev pub way_refusal : NodeState → Addr → ℕ → Option Answer
way_refusal n node limit = if node.word == n.own then None else link_refusal (load_with (neighbour_at n.neighbours node)) limit

-- A message of the node's goes its way: for the own node it has its fate here, and for another one it is accepted.
pub record GoesItsWay (own : ℕ) (w : Work) (m : Message) (w' : Work) (frames : List Outgoing) : Type 0 where
  pub home : comes_home (addr_of_word own) m ≡ true → GivesFate own w false m w' frames
  pub away : comes_home (addr_of_word own) m ≡ false → GoesAway own w m w' frames

-- ---- plans

-- What a call sends behind its work: these frames alone; or every peer in contact is told by these messages; or a message goes its way; or a
-- message is cast to all peers at once, in these frames.
pub data Dispatch : Type 0 where
  frames_alone : List Outgoing → Dispatch
  to_peers : List Message → Dispatch
  on_its_way : Message → Dispatch
  to_all : Message → List Outgoing → Dispatch

-- A call's plan. It is refused for this reason, where there is one. Else this is its work on the node's own tables, with what is noted of it, then
-- it sends this, and it is answered; the bearers that are mended, the ticks and the broadcast link are these ones then.
pub record Plan : Type 0 where
  pub refusal : Option Answer
  pub work : Work
  pub dispatch : Dispatch
  pub answered : Answer
  pub mended : Bool × Bool
  pub ticks : ℕ
  pub casting : Casting

-- the first of two reasons that there is
abbrev pub or_else : Option Answer → Option Answer → Option Answer
or_else None other = other
or_else (Some reason) other = Some reason

-- the node's own tables change, and nothing leaves
abbrev pub tables_plan : NodeState → Option Answer → Work → Answer → Plan
tables_plan n refusal w answered =
    record { refusal = refusal; work = w; dispatch = frames_alone []; answered = answered; mended = n.mended; ticks = n.ticks; casting = n.casting }

-- the own names change, and every peer in contact is told; last it is refused since too many packets wait for a peer that is to be told
abbrev pub names_plan : NodeState → Option Answer → Work → List Message → Plan
names_plan n refusal w told = record (tables_plan n (or_else refusal (crowd_refusal n.neighbours told)) w answer.Done) { dispatch = to_peers told }

-- a message goes its way; last it is refused for what speaks against its way
abbrev pub message_plan : NodeState → Option Answer → Message → ℕ → Answer → Plan
message_plan n refusal m limit sent =
    record (tables_plan n (or_else refusal (way_refusal n (destination_of m) limit)) (begun n) sent) { dispatch = on_its_way m }

-- ---- a plan is carried out

-- the node where the step of a call is recorded behind this work
abbrev pub concluded_by : NodeState → By → EventNote → Plan → Work → NodeState
concluded_by n by call p last = concluded (record n { mended = p.mended; ticks = p.ticks; casting = p.casting }) by call last (kept_answer p.answered)

-- nothing speaks against a call: what it sends leaves behind its work, and its step is recorded
abbrev pub Does : Dispatch → NodeState → By → EventNote → Plan → NodeState → List Outgoing → Answer → Type 0
Does (frames_alone given) n by call p n' frames answered = (n' ≡ concluded_by n by call p p.work) × (frames ≡ given) × (answered ≡ p.answered)
Does (to_peers told) n by call p n' frames answered =
    (last : Work) × TellsPeers n.own p.work told last frames × (n' ≡ concluded_by n by call p last) × (answered ≡ p.answered)
Does (on_its_way m) n by call p n' frames answered =
    (last : Work) × GoesItsWay n.own p.work m last frames × (n' ≡ concluded_by n by call p last) × (answered ≡ p.answered)
Does (to_all m given) n by call p n' frames answered = IsSendable n.own m × (n' ≡ concluded_by n by call p p.work) × (frames ≡ given) × (answered ≡ p.answered)

-- a call that is refused is recorded with the reason, and nothing else happens
abbrev pub DoesUnless : Option Answer → NodeState → By → EventNote → Plan → NodeState → List Outgoing → Answer → Type 0
DoesUnless (Some reason) n by call p n' frames answered = (n' ≡ recorded n by call [] reason) × (frames ≡ []) × (answered ≡ reason)
DoesUnless None n by call p n' frames answered = Does p.dispatch n by call p n' frames answered

-- The plan of a call was carried out: the node before it, who made the call, the call, its plan, the node after it, the frames that leave, and
-- the answer.
abbrev pub CarriesOut : NodeState → By → EventNote → Plan → NodeState → List Outgoing → Answer → Type 0
CarriesOut n by call p n' frames answered = DoesUnless p.refusal n by call p n' frames answered
