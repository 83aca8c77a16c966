use Rattle.tipc_live.proofs.Variants.{told_by}
use Rattle.tipc_live.proofs.Alike.{entry_tells}
use Rattle.tipc_live.proofs.equal.is_entry.Goals as goal

pub returns : goal.returns
returns c = told_by entry_tells _ _ _ c.eq.ensures
