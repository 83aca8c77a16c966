use Rattle.std.proofs.Common.{not, sym}
use Rattle.std.proofs.Math.Path.{subst₃}
use Rattle.tipc_types.specs.declared.services.Publication.{Publication}
use Rattle.tipc_types.specs.Tables.{is_of}
use Rattle.tipc_name_index.specs.Ranges.{IsIndex}
use Rattle.tipc_name_index.proofs.Indexed.{index_kept}
use Rattle.tipc_name_index.proofs.index.NameIndexNames.purge.Goals as goal

pub invariant_of-self : goal.invariant_of-self
invariant_of-self c = subst₃ IsIndex (sym c.remove_node.ensures) (sym c.remove_node-2.ensures) (sym c.remove_node-3.ensures)
    (index_kept (λ (p : Publication). not (is_of c.args.node.word p)) c.self.inside.held.items c.self.inside.ranges.items c.self.inside.named.items c.self.invariant)

pub returns-clause-sound : goal.returns-clause-sound
returns-clause-sound c = (invariant_of-self c).table
