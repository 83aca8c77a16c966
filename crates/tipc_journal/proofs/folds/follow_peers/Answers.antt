use Rattle.std.proofs.Common.{rules}
use Rattle.std.proofs.lemmas.Fn.{filter_same}
use Rattle.tipc_journal.proofs.folds.follow_peers.Goals as goal

pub returns-in-Forgot : goal.returns-in-Forgot
returns-in-Forgot c = rw c.in-Forgot.is (filter_same _ _ _ (λ x b f' k. search rules) _ _ c.retain.ensures.filtered)

pub returns-in-ContactDown : goal.returns-in-ContactDown
returns-in-ContactDown c =
    rw c.in-ContactDown.is (filter_same _ _ _ (λ x b f' k. search rules) _ _ c.retain-in-ContactDown.ensures.filtered)
