use Rattle.std.proofs.Common.{[], ◌∷◌, subst}
use Rattle.tipc_bundle.specs.Bundles.{IsInner}
use Rattle.tipc_bundle.proofs.Bundling.{carries_itself}
use Rattle.tipc_packet_tests.proofs.bundle.joined.Goals as goal

pub loop-init : goal.loop-init
loop-init g c =
    let first = subst IsInner c.as_slice.ensures (c.may_be_bundled.ensures.0 c.if-not-may_be_bundled.false) in
    (c.args.last ∷ [], carries_itself c.args.last first, c.may_be_bundled-2.ensures.0 c.if-not-may_be_bundled-2.false)
