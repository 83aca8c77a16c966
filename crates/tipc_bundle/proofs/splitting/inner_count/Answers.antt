use Rattle.std.proofs.Common.{sym, ap, ◌∙◌}
use Rattle.tipc_header.specs.Spelling.{Fields}
use Rattle.tipc_bundle.proofs.Places.{bundle-count, same_count}
use Rattle.tipc_bundle.proofs.splitting.inner_count.Goals as goal

pub returns : goal.returns
returns c =
    let h = c.requires in
    let same = ap (λ (p : Fields). p.header) (c.in-Ok.ensures.only h.packet h.fits h.spelled) in
    same_count c.in-Bundler.bundle h.bundle (sym c.in-Bundler.is ∙ same ∙ h.user) ∙ sym (bundle-count c.args.bundle.now h)
