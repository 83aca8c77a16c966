use Rattle.std.proofs.Common.{arith}
use Rattle.tipc_tunnel.specs.Tunnels.{IsTunnel, Tunnelled, numbered}
use Rattle.tipc_pair.proofs.RunFacts.{made_packet, made_tunnel_is}
use Rattle.tipc_pair.proofs.runs.tunnel_of.Goals as goal

pub returns-clause-made : goal.returns-clause-made
returns-clause-made c =
    let t : Tunnelled = record {
      kind = c.args.kind;
      old = record { bearer = c.args.bearer; epoch = c.args.epoch };
      count = c.args.count;
      number = c.args.number;
      inner = numbered c.args.number c.args.inner.now;
    } in
    let is : IsTunnel t =
    made_tunnel_is c.args.kind c.args.bearer c.args.epoch c.args.count c.args.number c.args.inner.now c.requires.bearer (omega arith) (omega arith) (omega arith) c.requires.run c.requires.inner c.requires.size in
    made_packet c.wrap.result t is c.wrap.ensures.packet
