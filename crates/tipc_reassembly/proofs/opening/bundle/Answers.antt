use Rattle.std.proofs.Common.{Err, ap}
use Rattle.tipc_bundle.specs.declared.splitting.SplitFault.{SplitFault}
use Rattle.tipc_reassembly.specs.Opening.{bad_bundle, bundle}
use Rattle.tipc_reassembly.proofs.OnePacket.{always_brings, so_brings}
use Rattle.tipc_reassembly.proofs.opening.bundle.Goals as goal

pub returns-in-Ok : goal.returns-in-Ok
returns-in-Ok c = always_brings _ _ _ _ (λ s. bundle c.requires c.in-Ok.ensures.ok) c.messages.ensures

pub returns-in-Err-BadInner : goal.returns-in-Err-BadInner
returns-in-Err-BadInner c =
    let bad = (c.in-Err-BadInner.ensures.bad c.in-Err-BadInner.place).0 (ap (λ (f : SplitFault). Err f) c.in-Err-BadInner.field-0-is) in
    λ s. so_brings s s _ _ c.only.result _ (bad_bundle c.requires bad) c.only.ensures
