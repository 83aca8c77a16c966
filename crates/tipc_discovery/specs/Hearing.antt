-- Who was heard on which bearer, and the packets of discovery.
use Rattle.std.specs.Prelude.{ℕ, ◌==◌, ◌&&◌, Bool, nat_le, false, if◌then◌else◌, List, []}
use Rattle.tipc_header.specs.declared.packet.DiscoveryType.{DiscoveryType}
use Rattle.tipc_header.specs.declared.packet.Header.{Header}
use Rattle.tipc_header.specs.declared.packet.Header.TheVariants as header
use Rattle.tipc_header.specs.Spelling.{Fields}

-- a node's address, and the address words of those that it heard on each bearer, in the order in which it first heard them
pub record Neighbourhood : Type 0 where
  pub own : ℕ
  pub on_bearer_0 : List ℕ
  pub on_bearer_1 : List ℕ

-- the address words of those that were heard on a bearer, 0 or 1
abbrev pub heard_on : ℕ → Neighbourhood → List ℕ
heard_on bearer n = if bearer == 0 then n.on_bearer_0 else n.on_bearer_1

-- whether an address word is that of one of the 32 nodes of the cluster
abbrev pub has_node : ℕ → Bool
has_node word = nat_le 16781313 word && nat_le word 16781344

-- whether a packet is a discovery packet of the network
abbrev pub is_of_network : Header → Bool
is_of_network (header.Discovery d) = d.network == 4711
is_of_network _ = false

-- the discovery packet of a node
abbrev pub discovery_packet : ℕ → DiscoveryType → Fields
discovery_packet own discovery_type = record {
  acknowledgement = 0;
  sequence = 0;
  previous = own;
  header = header.Discovery (record { discovery_type = discovery_type; network = 4711 });
  rest = [];
}
