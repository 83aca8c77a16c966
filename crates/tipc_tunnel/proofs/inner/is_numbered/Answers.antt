use Rattle.std.proofs.Common.{sym, ap, ◌∙◌, eq-eqb, eqb-true}
use Rattle.tipc_header.specs.Spelling.{view, Fields}
use Rattle.tipc_tunnel.proofs.InnerLaws.{numbered_from}
use Rattle.tipc_tunnel.proofs.inner.is_numbered.Goals as goal

pub returns-then-may_stand_in_tunnel : goal.returns-then-may_stand_in_tunnel
returns-then-may_stand_in_tunnel c =
    let read = c.in-Ok.ensures.spells in (
      (λ same. numbered_from (view c.in-Ok.packet) c.args.bytes.now c.args.number read.0 read.1 (sym c.may_stand_in_tunnel.ensures ∙ c.if-may_stand_in_tunnel.true) (eqb-true _ _ same)),
      (λ h. eq-eqb _ _ (ap (λ (p : Fields). p.sequence) (c.in-Ok.ensures.only h.inner.packet h.inner.fits h.inner.spelled) ∙ h.sequence)),
    )
