use Rattle.std.proofs.Common.{◌≡◌, ◌≤◌, true, ℕ, Err, sym, ap, subst, ◌∙◌, true≢false}
use Rattle.std.specs.Prelude.{count_by}
use Rattle.std.specs.List.{list_any}
use Rattle.tipc_types.specs.Tables.{is_named, is_of}
use Rattle.tipc_sockets.specs.SocketTables.{AreSockets, SocketTable}
use Rattle.tipc_sockets.proofs.Keeping.{no_live_key, not_refused, own_names_count, too_many}
use Rattle.tipc_sockets.proofs.sockets.Sockets.publish_at.Goals as goal

pub unreachable-requires : goal.unreachable-requires
unreachable-requires c =
    let s = c.args.self.now in
    let h = subst (λ (t : SocketTable). AreSockets t) c.self.view_is c.self.invariant.1 in
    let own = ap (λ (t : SocketTable). t.own) c.self.view_is in
    let free = not_refused s c.args.port c.kind.result c.args.key (sym c.publish_refusal.ensures ∙ c.in_default.is) in
    let held = c.publish.ensures.duplicate.0 (c.in-Err-Duplicate.is ∙ ap Err c.in-Err-Duplicate.field-0-is) in
    let here = subst (λ (n : ℕ). list_any (is_named n c.args.key) s.names ≡ true) own held in
    true≢false (sym here ∙ no_live_key s c.args.key h free.0)

pub unreachable-requires-in-Err-Full : goal.unreachable-requires-in-Err-Full
unreachable-requires-in-Err-Full c =
    let s = c.args.self.now in
    let h = subst (λ (t : SocketTable). AreSockets t) c.self.view_is c.self.invariant.1 in
    let own = ap (λ (t : SocketTable). t.own) c.self.view_is in
    let free = not_refused s c.args.port c.kind.result c.args.key (sym c.publish_refusal.ensures ∙ c.in_default.is) in
    let many = (c.publish.ensures.full.0 (c.in-Err-Full.is ∙ ap Err c.in-Err-Full.field-0-is)).1 in
    let here = subst (λ (n : ℕ). 1024 ≤ count_by (is_of n) s.names) own many in
    too_many _ free.1 (subst (λ (n : ℕ). 1024 ≤ n) (own_names_count s h) here)
