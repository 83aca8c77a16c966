use Rattle.std.proofs.Common.{List, filter, is_some, refl, sym, ap, ◌∙◌}
use Rattle.tipc_types.specs.declared.services.Publication.{Publication}
use Rattle.tipc_topology.specs.Changing.{with_loss}
use Rattle.tipc_sockets.specs.Publishing.{is_at}
use Rattle.tipc_sockets.proofs.Closing.{left_at_last, names_left}
use Rattle.tipc_sockets.proofs.Keeping.{fewer_left, port_there, sockets_closed}
use Rattle.tipc_sockets.proofs.sockets.Sockets.close.Goals as goal

pub unreachable-requires : goal.unreachable-requires
unreachable-requires c = c.in-Err.ensures.unknown (port_there _ c.args.port c.self.invariant.1 (ap is_some (sym c.shift_remove.ensures.value) ∙ c.if-is_none.ensures))

pub invariant_of-self-2 : goal.invariant_of-self-2
invariant_of-self-2 c =
    let w = c.self.inside in
    let lost = c.lose_those_at.ensures ∙ ap (λ (ps : List Publication). with_loss (filter (is_at c.args.port) ps) w.topology) c.as_slice.ensures.value in
    let left = c.withdraw_those_at.ensures ∙ ap (λ (ps : List Publication). names_left w.own.word c.args.port ps w.names) c.as_slice-2.ensures.value ∙ left_at_last _ c.self.invariant.1 c.args.port in
    rw (c.in-Ok.ensures.ok, c.shift_remove.ensures.entries, lost, left, c.remove_at.ensures) (c.self.invariant.0, sockets_closed _ c.args.port c.self.invariant.1, fewer_left _ w.names _ c.self.invariant.2)

pub returns-clause-ok : goal.returns-clause-ok
returns-clause-ok c =
    let w = c.self.inside in
    let lost = c.lose_those_at.ensures ∙ ap (λ (ps : List Publication). with_loss (filter (is_at c.args.port) ps) w.topology) c.as_slice.ensures.value in
    let left = c.withdraw_those_at.ensures ∙ ap (λ (ps : List Publication). names_left w.own.word c.args.port ps w.names) c.as_slice-2.ensures.value ∙ left_at_last _ c.self.invariant.1 c.args.port in
    rw (← c.self.view_is) (rw (c.in-Ok.ensures.ok, c.shift_remove.ensures.entries, lost, left, c.remove_at.ensures) refl)
