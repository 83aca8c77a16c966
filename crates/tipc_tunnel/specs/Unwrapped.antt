-- What was unwrapped, without where its bytes lie in memory.
use Rattle.tipc_tunnel.specs.declared.unwrapping.Tunnel.{Tunnel}
use Rattle.tipc_tunnel.specs.Tunnels.{Tunnelled}

-- what a tunnel packet carries, as contracts see it: the bytes of the packet inside as they are now
abbrev pub tunnelled : Tunnel → Tunnelled
tunnelled t = record { kind = t.kind; old = t.old; count = t.count; number = t.number; inner = t.inner.now }
