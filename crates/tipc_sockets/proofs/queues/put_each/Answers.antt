use Rattle.std.proofs.Common.{◌≡◌, ◌+◌, ◌∷◌, [], ℕ, List, length, get_or, sym, ap, subst, ◌∙◌, arith, length-append}
use Rattle.std.specs.Prelude.{nat_eq, All}
use Rattle.std.specs.Map.{lookup}
use Rattle.std.proofs.lemmas.List.{get_or_default, get_or-append-add}
use Rattle.std.proofs.lemmas.List.Elements.{All-take}
use Rattle.tipc_types.specs.declared.message_forms.Message.{Message}
use Rattle.tipc_sockets.specs.Fates.{may_wait}
use Rattle.tipc_sockets.specs.SocketTables.{queued}
use Rattle.tipc_sockets.proofs.Keeping.{lookup_elsewhere, queued_at_next}
use Rattle.tipc_sockets.proofs.queues.put_each.Goals as goal

pub loop-port-preserved : goal.loop-port-preserved
loop-port-preserved c =
    let ports = c.args.ports.now in
    let i = c.loop-port.port-index in
    let h = c.loop-port.invariant in
    let queues = c.loop-port.queues.entries in
    let port = get_or ports i 0 in
    let copy = c.in-Some.copy in
    let left = c.pop.new.self.items in
    let count : length c.loop-port.left.items ≡ length left + 1 = ap (λ (ms : List Message). length ms) c.in-Some.ensures.items ∙ length-append left (copy ∷ []) in
    let within = length-append left (copy ∷ []) in (
      omega (arith, count, h.0),
      (λ m same.
          let all = subst (λ (ms : List Message). All (λ x. x ≡ m) ms) c.in-Some.ensures.items (h.1 m same).0 in
          let copied : copy ≡ m = sym (get_or-append-add left (copy ∷ []) 0 m) ∙ all (length left + 0) m (omega (arith, within)) in
          let put : c.put.new.queues.entries ≡ queued m queues port = c.put.ensures ∙ ap (λ (x : Message). queued x queues port) copied in (
            subst (λ (ms : List Message). All (λ x. x ≡ m) ms) (sym c.in-Some.ensures.rest) (All-take (λ (x : Message). x ≡ m) _ c.loop-port.left.items (h.1 m same).0),
            put ∙ ap (λ (qs : List (ℕ × List Message)). queued m qs port) (h.1 m same).1 ∙ queued_at_next m c.args.queues.now.entries ports i 0 c.loop-port-test.true,
          )),
      (λ k d above within.
          let apart : get_or ports k d ≡ port → ⊥ = (λ e. omega (arith, e, get_or_default ports i d 0 c.loop-port-test.true, c.requires.rising i k d (omega (arith, above)) within)) in
          ap may_wait (ap (λ (qs : List (ℕ × List Message)). lookup (nat_eq (get_or ports k d)) qs) c.put.ensures ∙ lookup_elsewhere port (get_or ports k d) queues _ apart) ∙ h.2 k d (omega (arith, above)) within),
    )
