use Rattle.std.proofs.Common.{List, ap, ◌∙◌, ◌++◌, ◌∷◌, []}
use Rattle.std.specs.Prelude.{ℕ, nat_eq, unwrap_or}
use Rattle.std.specs.Map.{keys_of, lookup}
use Rattle.std.proofs.lemmas.Map.{keys-set_value}
use Rattle.tipc_types.specs.declared.message_forms.Message.{Message}
use Rattle.tipc_sockets.proofs.Keeping.{other_queues}
use Rattle.tipc_sockets.proofs.sockets.Sockets.queue_to.Goals as goal

pub invariant_of-self : goal.invariant_of-self
invariant_of-self c =
    let queues = c.self.inside.queues.entries in
    let same = ap (λ (qs : List (ℕ × List Message)). keys_of qs) c.put.ensures ∙ keys-set_value (nat_eq c.args.port) queues (unwrap_or (lookup (nat_eq c.args.port) queues) [] ++ c.args.m ∷ []) in
    (c.self.invariant.0, other_queues _ c.put.new.queues.entries c.self.invariant.1 same, c.self.invariant.2)
