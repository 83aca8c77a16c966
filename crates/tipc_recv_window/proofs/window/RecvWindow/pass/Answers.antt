use Rattle.std.proofs.Common.{◌≡◌, ◌+◌, ◌≤◌, ◌^◌, drop, length, min, sym, ap, subst, ◌∙◌, rules}
use Rattle.std.proofs.lemmas.List.{drop_min}
use Rattle.tipc_recv_window.specs.Receiving.{Receiving}
use Rattle.tipc_recv_window.proofs.Comings.{IsReceiving-passed}
use Rattle.tipc_recv_window.proofs.window.RecvWindow.pass.Goals as goal

pub invariant_of-self : goal.invariant_of-self
invariant_of-self c =
    let before : Receiving = record { wanted = c.self.inside.wanted; held = c.self.inside.held.items } in
    let counted : before.wanted + 50 ≤ 2 ^ 62 = subst (λ (r : Receiving). r.wanted + 50 ≤ 2 ^ 62) (sym c.self.view_is) c.requires.counted in
    let long : c.len.result ≡ length before.held = (let len = c.len.ensures in search rules) in
    let short : drop c.min-held.result before.held ≡ drop c.args.count before.held = ap (λ n. drop n before.held) (c.min-held.ensures ∙ ap (min c.args.count) long) ∙ drop_min c.args.count before.held in
    IsReceiving-passed before c.args.count c.drop-drain.new.self.0.items (c.drop-drain.ensures.items ∙ c.drain.ensures.kept ∙ short) c.requires.few counted c.self.invariant
