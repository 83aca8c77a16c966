use Rattle.std.proofs.Common.{◌≡◌, None, sym, ap, subst, ◌∙◌}
use Rattle.std.specs.Prelude.{ℕ, find}
use Rattle.tipc_types.specs.Tables.{is_named}
use Rattle.tipc_sockets.specs.SocketTables.{AreSockets, SocketTable}
use Rattle.tipc_sockets.proofs.Keeping.{live_key_found}
use Rattle.tipc_sockets.proofs.sockets.Sockets.withdraw_at.Goals as goal

pub unreachable-requires : goal.unreachable-requires
unreachable-requires c =
    let s = c.args.self.now in
    let h = subst (λ (t : SocketTable). AreSockets t) c.withdraw.view_is c.withdraw.invariant.1 in
    let own = ap (λ (t : SocketTable). t.own) c.withdraw.view_is in
    live_key_found s c.args.port c.args.key c.in-Some.p h (sym c.published_at.ensures ∙ c.in-Some.is)
    (subst (λ (n : ℕ). find (is_named n c.args.key) s.names ≡ None) own c.in-Err.ensures.unknown)
