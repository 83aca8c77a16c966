use Rattle.tipc_world.proofs.rounds.Rising.{rising_begins, round_rises, ups_begin_answered}
use Rattle.tipc_world.proofs.laws.links_that_come_up_are_answered.Goals as goal

pub returns-clause-begins : goal.returns-clause-begins
returns-clause-begins c = λ start kept down clear. (rising_begins start kept down clear, ups_begin_answered start kept down)

pub returns-clause-round : goal.returns-clause-round
returns-clause-round c = λ start most places outset ends now kept few behind r whole g ups.
    let k = round_rises start most places outset ends now kept few behind r whole g ups in
    let last = k.round in
    (last.guards, last.related)
