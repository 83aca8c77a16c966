use Rattle.tipc_dissect.proofs.Appending.{fields_put}
use Rattle.tipc_dissect.proofs.table.put_payload.Goals as goal

pub returns : goal.returns
returns c = fields_put _ _ _ _ _ _ _ c.in_ok-put_fields.ensures c.put_addressing.ensures
