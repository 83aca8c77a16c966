use Rattle.tipc_reassembly.proofs.Outcomes.{one_outcome, one_outcome_of_all}
use Rattle.tipc_reassembly.proofs.laws.one_thing_comes_of_packets.Goals as goal

pub returns-clause-one : goal.returns-clause-one
returns-clause-one c = λ s bytes by opened more last after one two.
    let same = one_outcome s bytes by opened more last after one two in
    (same.opened_is, same.left)

pub returns-clause-all : goal.returns-clause-all
returns-clause-all c = λ s taken opened more last after one two.
    let same = one_outcome_of_all taken s opened more last after one two in
    (same.opened_is, same.left)
