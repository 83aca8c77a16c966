use Rattle.std.proofs.Common.{[], refl, subst, sym}
use Rattle.std.specs.Prelude.{IfOk}
use Rattle.tipc_replay.specs.Choices.{Chooses}
use Rattle.tipc_replay.specs.Effects.{Did}
use Rattle.tipc_replay.proofs.calls.Outcomes.{adds_none, if_ok}
use Rattle.tipc_replay.proofs.members.Member.happen.Goals as goal

pub returns-in-Restart-clause-did : goal.returns-in-Restart-clause-did
returns-in-Restart-clause-did g c =
    subst (λ e. IfOk c.restart.result (λ a. Did c.args.by e [] c.args.self.now c.restart.new.self c.args.out.now c.args.out.now a)) (sym c.in-Restart.is)
    (if_ok c.restart.result (λ a told. record { frames = []; does = (told.0, refl, told.1); adds = adds_none _ _ refl }) c.restart.ensures.ok)

pub returns-in-Call-clause-chose : goal.returns-in-Call-clause-chose
returns-in-Call-clause-chose g c =
    subst (λ e. IfOk c.perform.result (λ a. Chooses g.P.Pick.gives c.args.self.now e a c.args.chooser.now c.perform.new.chooser)) (sym c.in-Call.is)
    (if_ok c.perform.result (λ a told. told _) c.perform.ensures.chose)
