use Rattle.std.proofs.Common.{◌≡◌, true, false, [], ◌∷◌, if◌then◌else◌, rules, subst, sym}
use Rattle.std.specs.Prelude.{slice_index_or}
use Rattle.tipc_types.specs.declared.identity.To.TheVariants as to
use Rattle.tipc_outside.specs.Frames.{Adds}
use Rattle.tipc_outside.specs.declared.outgoing.Outgoing.{Outgoing}
use Rattle.tipc_broadcast.specs.Frames.{numbered_frame}
use Rattle.tipc_broadcast.proofs.broadcast.Broadcast.cast_on.Goals as goal

pub returns-in-Err : goal.returns-in-Err
returns-in-Err c =
    let frame : Outgoing = record { bearer = c.args.bearer; to = to.All; frame = numbered_frame c.args.number c.args.frame.now } in
    let on : slice_index_or c.args.self.now.mended c.args.bearer false ≡ true = search rules in
    subst (λ m. Adds c.args.out.now c.lose.new.self (if m then frame ∷ [] else [])) (sym on) (c.lose.ensures frame)
