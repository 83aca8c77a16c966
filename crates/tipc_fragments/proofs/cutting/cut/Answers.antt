use Rattle.std.proofs.Common.{◌≡◌, ◌≤◌, ◌∙◌, sym, ap, subst, arith, length}
use Rattle.std.specs.Prelude.{All}
use Rattle.tipc_fragments.specs.Cutting.{count_of, packets_of}
use Rattle.tipc_fragments.proofs.CutLaws.{first_packets, first_packets-push, packets_are_short}
use Rattle.tipc_fragments.proofs.cutting.cut.Goals as goal

pub loop-before-preserved : goal.loop-before-preserved
loop-before-preserved c =
    first_packets-push _ c.loop-before.before _ _ _ c.in_ok-push.ensures.ok c.loop-before.invariant c.in_ok-fragment.ensures

pub returns-clause-sizes : goal.returns-clause-sizes
returns-clause-sizes c =
    let m = c.args.message.now in
    let all : c.loop-before.before ≡ count_of m = omega arith in
    let same : c.loop-before.packets ≡ packets_of m = c.loop-before.invariant ∙ ap (first_packets m) all in
    subst (All (λ packet. length packet ≤ 1452)) (sym same) (packets_are_short m)
