use Rattle.tipc_dissect.proofs.table.put_numbers.Goals as goal

pub returns-in-State : goal.returns-in-State
returns-in-State c = rw c.in-State.is c.put_fields.ensures
