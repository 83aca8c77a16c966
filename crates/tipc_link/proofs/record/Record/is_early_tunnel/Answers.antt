use Rattle.std.proofs.Common.{◌≡◌, ◌==◌, ◌&&◌, true, false, not, ap, sym, ◌∙◌}
use Rattle.tipc_types.specs.Position.{number_of}
use Rattle.tipc_header.specs.Spelling.{view}
use Rattle.tipc_recv_window.specs.Receiving.{Receiving}
use Rattle.tipc_link.specs.Records.{is_changeover, window_of}
use Rattle.tipc_link.proofs.Standing.{early_is}
use Rattle.tipc_link.proofs.record.Record.is_early_tunnel.Goals as goal

pub returns-then-is_changeover : goal.returns-then-is_changeover
returns-then-is_changeover c =
    let p = view c.args.packet.now in
    let w = window_of c.args.self.now in
    let is : is_changeover p.header ≡ true = sym c.is_changeover.ensures ∙ c.if-is_changeover.true in
    let number : c.wanted.result ≡ number_of w.wanted = c.wanted.ensures.value ∙ ap (λ (v : Receiving). number_of v.wanted) c.window.ensures.value in
    ap (λ n. not (p.sequence == n)) number ∙ ap (λ b. b && not (p.sequence == number_of w.wanted)) (sym is) ∙ early_is w p c.args.by c.requires

pub returns-else-is_changeover : goal.returns-else-is_changeover
returns-else-is_changeover c =
    let p = view c.args.packet.now in
    let w = window_of c.args.self.now in
    let is : is_changeover p.header ≡ false = sym c.is_changeover.ensures ∙ c.if-is_changeover.false in
    c.if-is_changeover.false ∙ ap (λ b. b && not (p.sequence == number_of w.wanted)) (sym is) ∙ early_is w p c.args.by c.requires
