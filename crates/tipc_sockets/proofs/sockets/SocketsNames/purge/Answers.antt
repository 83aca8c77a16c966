use Rattle.std.proofs.Common.{◌≤◌, List, length, not, ap, subst, sym, arith}
use Rattle.tipc_types.specs.declared.services.Publication.{Publication}
use Rattle.tipc_types.specs.Tables.{is_of}
use Rattle.tipc_sockets.proofs.Keeping.{fewer_left, sockets_kept}
use Rattle.tipc_sockets.proofs.sockets.SocketsNames.purge.Goals as goal

pub tell-requires : goal.tell-requires
tell-requires c = subst (λ (ps : List Publication). length ps ≤ c.self.inside.leaving) (sym c.as_slice.ensures) c.self.invariant.2

pub invariant_of-self : goal.invariant_of-self
invariant_of-self c =
    let w = c.self.inside in
    let kept = c.tell.ensures.kept in
    let some = fewer_left (λ (p : Publication). not (is_of c.args.node.word p)) w.names w.leaving c.self.invariant.2 in
    let same = ap (λ (ps : List Publication). length ps) c.purge.ensures.others in
    (c.self.invariant.0, sockets_kept _ (λ (p : Publication). not (is_of c.args.node.word p)) _ _ _ c.self.invariant.1 c.purge.ensures.sound c.purge.ensures.others c.remove_node.ensures, omega (arith, kept, some, same))
