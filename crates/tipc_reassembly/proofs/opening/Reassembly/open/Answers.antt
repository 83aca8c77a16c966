use Rattle.tipc_reassembly.proofs.Packets.{nothing_taken, one_taken}
use Rattle.tipc_reassembly.proofs.opening.Reassembly.open.Goals as goal

pub returns-in-empty-clause-ok : goal.returns-in-empty-clause-ok
returns-in-empty-clause-ok c = nothing_taken _ _ _ c.in-empty.len_below c.new.ensures

pub returns-in-len1-clause-ok : goal.returns-in-len1-clause-ok
returns-in-len1-clause-ok c = one_taken _ _ _ _ _ c.in-len1.len_at_least c.in-len1.len_below c.one-item.is c.open_one.ensures.ok
