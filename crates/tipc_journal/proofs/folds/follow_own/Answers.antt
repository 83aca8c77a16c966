use Rattle.std.proofs.Common.{rules}
use Rattle.std.proofs.lemmas.Fn.{filter_same}
use Rattle.tipc_journal.proofs.folds.follow_own.Goals as goal

pub returns-in-Withdrawn : goal.returns-in-Withdrawn
returns-in-Withdrawn c = rw c.in-Withdrawn.is (filter_same _ _ _ (λ x b f' k. search rules) _ _ c.retain.ensures.filtered)
