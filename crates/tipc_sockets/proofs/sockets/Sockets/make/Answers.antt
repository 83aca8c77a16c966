use Rattle.std.proofs.Common.{◌≡◌, ◌+◌, ◌++◌, ◌∷◌, [], ℕ, List, refl, ap, ◌∙◌}
use Rattle.std.specs.Prelude.{nat_eq}
use Rattle.std.specs.Map.{lookup}
use Rattle.indexmap.proofs.CallerLemmas.{insert_entry-new}
use Rattle.tipc_types.specs.declared.message_forms.Message.{Message}
use Rattle.tipc_sockets.proofs.Keeping.{new_port_absent, sockets_made}
use Rattle.tipc_sockets.proofs.sockets.Sockets.make.Goals as goal

pub invariant_of-self-2 : goal.invariant_of-self-2
invariant_of-self-2 c =
    let h = c.self.invariant.1 in
    let port = c.in_ok-port.port in
    let number = c.in_ok-port.ensures.number in
    let kept = c.in-Ok-reserve.ensures.entries in
    let absent = ap (λ (es : List (ℕ × List Message)). lookup (nat_eq port) es) kept ∙ new_port_absent _ port h number in
    let queue = c.in-Ok.ensures in
    let added : c.insert.new.self.entries ≡ c.self.inside.queues.entries ++ (port, []) ∷ [] = c.in-Ok-insert.ensures.entries ∙ insert_entry-new nat_eq c.reserve.new.self port _ absent ∙ (λ i. kept i ++ (port, queue i) ∷ []) in
    rw (c.in_ok-port.ensures.ok, added) (ap (λ (n : ℕ). n + 1) c.self.invariant.0, sockets_made _ port h number, c.self.invariant.2)

pub returns-clause-ok : goal.returns-clause-ok
returns-clause-ok c =
    let h = c.self.invariant.1 in
    let port = c.in_ok-port.port in
    let number = c.in_ok-port.ensures.number in
    let kept = c.in-Ok-reserve.ensures.entries in
    let absent = ap (λ (es : List (ℕ × List Message)). lookup (nat_eq port) es) kept ∙ new_port_absent _ port h number in
    let queue = c.in-Ok.ensures in
    let added : c.insert.new.self.entries ≡ c.self.inside.queues.entries ++ (port, []) ∷ [] = c.in-Ok-insert.ensures.entries ∙ insert_entry-new nat_eq c.reserve.new.self port _ absent ∙ (λ i. kept i ++ (port, queue i) ∷ []) in
    rw (← c.self.view_is) (rw (c.in_ok-port.ensures.ok, added) refl)
