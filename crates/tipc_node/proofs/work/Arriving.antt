-- An arrival is stopped, or brings a link packet, or a discovery packet, or a broadcast packet.
use Rattle.std.proofs.Common.{◌≡◌, ℕ, List, [], Option, Some, None, refl}
use Rattle.tipc_types.specs.declared.link_words.Why.{Why}
use Rattle.tipc_types.specs.declared.node_calls.Arrival.{Arrival}
use Rattle.tipc_types.specs.declared.node_calls.Arrival.TheVariants as arrival
use Rattle.tipc_types.specs.declared.node_calls.By.{By}
use Rattle.tipc_outside.specs.declared.outgoing.Outgoing.{Outgoing}
use Rattle.tipc_header.specs.declared.frames.FrameKind.{FrameKind}
use Rattle.tipc_header.specs.declared.frames.FrameKind.TheVariants.{Casts, Finds, Links}
use Rattle.tipc_header.specs.Frames.{kind_in}
use Rattle.tipc_node.specs.Arrivals.{Arrives, Discovers, Hears}
use Rattle.tipc_node.specs.CastArrivals.{HearsCast}
use Rattle.tipc_node.specs.Nodes.{NodeState, stop_of, stopped_node}

-- what holds in each of the four cases, holds
pub by_arrival : (P : Type 0) (n n' : NodeState) (by : By) (bearer number : ℕ) (bytes : List ℕ) (frames : List Outgoing) (answered : Arrival) → Arrives n n' by bearer number bytes frames answered
    → ((reason : Why) → n' ≡ stopped_node n by bearer number reason → frames ≡ [] → answered ≡ arrival.Ignored reason → P)
    → (stop_of n bearer bytes ≡ None → Hears n n' by bearer number bytes frames answered → P) → (Discovers n n' by bearer number bytes frames answered → P)
    → (HearsCast n n' by bearer number bytes frames answered → P) → P
by_arrival P n n' by bearer number bytes frames answered arrives stopped heard discovered cast = case (stop_of n bearer bytes) refl
  where
    kinds : (kind : FrameKind) → kind_in bytes ≡ kind → stop_of n bearer bytes ≡ None → P
    kinds Links link none = heard none (arrives.heard none link)
    kinds Finds finds none = discovered (arrives.discovered none finds)
    kinds Casts casts none = cast (arrives.cast none casts)

    case : (o : Option Why) → stop_of n bearer bytes ≡ o → P
    case (Some reason) is = let s = arrives.stopped reason is in stopped reason s.0 s.1 s.2
    case None none = kinds (kind_in bytes) refl none
