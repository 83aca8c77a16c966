use Rattle.std.proofs.Common.{arith}
use Rattle.std.proofs.lemmas.List.{length-append}
use Rattle.tipc_bundle.specs.Bundles.{padded}
use Rattle.tipc_bundle.proofs.InnerLaws.{length-padded}
use Rattle.tipc_bundle.proofs.adding.bundle_with_packet.Goals as goal

pub put_padded-requires : goal.put_padded-requires
put_padded-requires c = omega (arith, c.requires.size, length-append (padded c.args.waiting.now) (padded c.args.packet.now), length-padded c.args.waiting.now)

pub put_padded-requires-2 : goal.put_padded-requires-2
put_padded-requires-2 c = omega (arith, c.requires.size, length-append (padded c.args.waiting.now) (padded c.args.packet.now), length-padded c.args.packet.now)
