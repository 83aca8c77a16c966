-- A bearer over UDP, as its callers see it: where it stands, and its counts.
use Rattle.std.specs.Prelude.{◌≡◌, ◌∷◌, [], ℕ}
use Rattle.std.specs.Net.Socket.{socket_ip, socket_port}
use Rattle.std.specs.declared.net.ip_addr.IpAddr.TheVariants as ip
use Rattle.std.specs.declared.net.socket_addr.SocketAddr.{SocketAddr}

-- a node's number, which of its bearers it is, the base of the ports, how many nodes there are, and the counts of faults,
-- of sends and of frames that it gave
pub record Bound : Type 0 where
  pub node : ℕ
  pub bearer : ℕ
  pub base : ℕ
  pub nodes : ℕ
  pub faults : ℕ
  pub tried : ℕ
  pub given : ℕ

-- the same bearer with other counts
abbrev pub counting : Bound → ℕ → ℕ → ℕ → Bound
counting b faults tried given = record b { faults = faults; tried = tried; given = given }

-- this port of 127.0.0.1
abbrev pub IsLoopback : SocketAddr → ℕ → Type 0
IsLoopback addr port = (socket_ip addr ≡ ip.V4 (record { octets = 127 ∷ 0 ∷ 0 ∷ 1 ∷ [] })) × (socket_port addr ≡ port)
