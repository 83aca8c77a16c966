use Rattle.std.proofs.Common.{◌∙◌, ap}
use Rattle.tipc_broadcast.specs.Casting.{booted}
use Rattle.tipc_sockets.specs.SocketTables.{no_sockets}
use Rattle.tipc_node.specs.Discovery.{nobody_heard}
use Rattle.tipc_replay.proofs.members.node_in.Goals as goal

pub returns : goal.returns
returns c =
    let made = c.in_ok-node.ensures in
    let own = c.node-address.ensures in
    record {
      own_is = made.own.0 ∙ own;
      boot_is = made.own.1;
      cut = made.own.2;
      unheard = made.unheard ∙ ap nobody_heard own;
      unticked = made.ticks;
      alone = made.alone;
      casting = made.casting ∙ ap (λ word. booted word c.args.boot) own;
      sockets = made.empty.0 ∙ ap (λ word. no_sockets word c.args.boot) own;
      no_history = made.empty.1;
      told = made.told;
      shares = made.shares;
      bounded = made.bounded;
    }
