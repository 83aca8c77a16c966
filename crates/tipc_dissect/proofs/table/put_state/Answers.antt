use Rattle.tipc_dissect.proofs.table.put_state.Goals as goal

pub returns : goal.returns
returns c = rw (c.bit_of-probe.ensures, c.bit_of-in_step.ensures) at c.put_fields.ensures
