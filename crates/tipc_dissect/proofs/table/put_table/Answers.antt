use Rattle.tipc_dissect.proofs.Appending.{fields_put}
use Rattle.tipc_dissect.proofs.table.put_table.Goals as goal

pub returns : goal.returns
returns c =
    fields_put _ _ _ _ _ _ _ c.in_ok-put_start.ensures
    (fields_put _ _ _ _ _ _ _ c.in_ok-put_word_1.ensures (fields_put _ _ _ _ _ _ _ c.in_ok-put_numbers.ensures c.put_user.ensures))
