use Rattle.tipc_live.proofs.Variants.{told_by}
use Rattle.tipc_live.proofs.Alike.{answer_tells}
use Rattle.tipc_live.proofs.equal.is_answer.Goals as goal

pub returns : goal.returns
returns c = told_by answer_tells _ _ _ c.eq.ensures
