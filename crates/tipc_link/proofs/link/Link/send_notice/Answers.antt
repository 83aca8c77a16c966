use Rattle.std.proofs.Common.{◌≡◌, true, [], ◌∷◌, ap, if◌then◌else◌, subst, sym, ◌∙◌}
use Rattle.tipc_outside.specs.Frames.{AddsFirst}
use Rattle.tipc_link.specs.Links.{LinkEnd, notice}
use Rattle.tipc_link.proofs.link.Link.send_notice.Goals as goal

pub returns-in-Err : goal.returns-in-Err
returns-in-Err c =
    let e = c.args.self.now in
    let on : e.mended ≡ true = sym (ap (λ (l : LinkEnd). l.mended) c.self.view_is) ∙ c.if-not-self.false in
    subst (λ m. AddsFirst c.args.out.now c.lose.new.self (if m then notice e c.args.header ∷ [] else [])) (sym on) (c.lose.ensures (notice e c.args.header))
