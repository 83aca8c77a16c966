use Rattle.std.proofs.Common.{◌≡◌, ◌==◌, Some, None, refl, sym, ap, ◌∙◌}
use Rattle.std.specs.List.{position}
use Rattle.tipc_node_lock.specs.Inboxes.{PortTakerState}
use Rattle.tipc_node_lock.proofs.Lists.{map_set}
use Rattle.tipc_node_lock.proofs.Taking.{holds_none_in, taker_at, took_from_in, took_port}
use Rattle.tipc_node_lock.proofs.passes.Pass.receive.Goals as goal

pub invariant_of-self : goal.invariant_of-self
invariant_of-self g c =
    let found : position (λ (u : PortTakerState). u.port == c.args.port) c.self.inside.takers.items ≡ Some c.in-Some.place =
    ap (position (λ (u : PortTakerState). u.port == c.args.port)) (sym c.as_slice.ensures.value) ∙ sym c.taker_position.ensures ∙ c.in-Some.is in
    let at = taker_at c.self.inside.takers.items c.args.port c.in-Some.place c.index_mut.result.now found c.index_mut.ensures.value in (
      c.self.invariant.0,
      map_set (λ (t : PortTakerState). t.port) c.self.inside.takers.items c.in-Some.place c.index_mut.result.now c.take.new.self at.0
          (took_port c.take.result c.index_mut.result.now c.take.new.self c.take.ensures)
          ∙ c.self.invariant.1,
    )

pub returns-in-Some-clause-received : goal.returns-in-Some-clause-received
returns-in-Some-clause-received g c =
    let found : position (λ (u : PortTakerState). u.port == c.args.port) c.self.inside.takers.items ≡ Some c.in-Some.place =
    ap (position (λ (u : PortTakerState). u.port == c.args.port)) (sym c.as_slice.ensures.value) ∙ sym c.taker_position.ensures ∙ c.in-Some.is in
    took_from_in c.self.view_is c.args.port c.in-Some.place c.index_mut.result.now c.take.new.self c.take.result found c.index_mut.ensures.value c.take.ensures

pub returns-in-None-clause-received : goal.returns-in-None-clause-received
returns-in-None-clause-received g c =
    let found : position (λ (u : PortTakerState). u.port == c.args.port) c.self.inside.takers.items ≡ None =
    ap (position (λ (u : PortTakerState). u.port == c.args.port)) (sym c.as_slice.ensures.value) ∙ sym c.taker_position.ensures ∙ c.in-None.is in
    (holds_none_in c.self.view_is c.args.port found, refl)
