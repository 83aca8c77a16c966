use Rattle.std.proofs.Common.{subst, sym}
use Rattle.tipc_live.specs.Again.{IsOutcomeOfBytes}
use Rattle.tipc_live.proofs.Latest.{arrived_again}
use Rattle.tipc_live.proofs.again.arrive_again.Goals as goal

pub returns-in-Some-2 : goal.returns-in-Some-2
returns-in-Some-2 g c =
    let step = rw c.in-Some-2.is at c.in_ok-answer.ensures in
    subst (λ o. IsOutcomeOfBytes (λ p. g.P.Pick.gives p.now) c.args.replay.now c.happen.new.replay c.args.n c.args.by c.args.bearer c.args.bytes.now c.args.chooser.now c.happen.new.chooser o) (sym c.became.ensures)
    (arrived_again (λ p. g.P.Pick.gives p.now) c.args.replay.now c.happen.new.replay c.args.n c.args.by c.args.bearer c.args.bytes.now c.args.chooser.now c.happen.new.chooser c.in-Some.frame c.in-Some-2.answer
    c.requires.there c.in-Some.ensures step.0 step.1)
