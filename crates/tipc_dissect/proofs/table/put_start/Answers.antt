use Rattle.tipc_dissect.proofs.table.put_start.Goals as goal

pub returns : goal.returns
returns c =
    rw (c.user.ensures, c.words.ensures, c.bit_of-non_sequenced.ensures, c.is_non_sequenced.ensures, c.bit_of-destination_droppable.ensures, c.is_destination_droppable.ensures, c.bit_of-source_droppable.ensures, c.is_source_droppable.ensures, c.size.ensures, c.message_type.ensures)
    at c.put_fields.ensures
