use Rattle.std.proofs.Common.{◌≡◌, ◌∙◌, length, ap, arith}
use Rattle.tipc_sim.specs.Lines.{lines_of}
use Rattle.tipc_sim.proofs.LineLaws.{lines_of-nil, emptied}
use Rattle.tipc_sim.proofs.scripts.line_count.Goals as goal

pub returns : goal.returns
returns c =
    let l = c.loop-rest in
    let none : length (lines_of l.rest.now) ≡ 0 = ap (λ r. length (lines_of r)) (emptied l.rest.now c.is_empty.result c.is_empty.ensures c.loop-rest-test.false) ∙ ap length lines_of-nil in
    omega (arith, none, l.invariant.counted)
