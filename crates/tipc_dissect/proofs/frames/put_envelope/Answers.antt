use Rattle.tipc_dissect.proofs.frames.put_envelope.Goals as goal

pub returns : goal.returns
returns c = rw (c.long-first.ensures, c.long-second.ensures) at c.put_fields.ensures
