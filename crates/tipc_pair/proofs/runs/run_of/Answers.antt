use Rattle.std.proofs.Common.{◌≡◌, ◌<◌, ◌∙◌, map, take, length, ap, sym, arith}
use Rattle.std.proofs.lemmas.Bool.Decides.{nat_tests}
use Rattle.std.proofs.lemmas.List.{take_all}
use Rattle.tipc_pair.specs.Runs.{wrapped}
use Rattle.tipc_pair.proofs.Listed.{listed_at, run_of_some}
use Rattle.tipc_pair.proofs.runs.run_of.Goals as goal

pub wrapped-requires-clause-listed : goal.wrapped-requires-clause-listed
wrapped-requires-clause-listed c =
    listed_at c.args.kept.now c.loop-packet.packet-index c.packet-item.result c.requires.listed c.loop-packet-test.true c.packet-item.is

pub returns-clause-run : goal.returns-clause-run
returns-clause-run c =
    let kept = c.args.kept.now in
    let some : 0 < length kept = grind (arith, nat_tests) in
    let whole : take c.loop-packet.packet-index kept ≡ kept = take_all c.loop-packet.packet-index kept (omega (arith, c.loop-packet-test.false)) in
    c.loop-packet.invariant.0 ∙ (ap (map (wrapped c.args.kind c.args.old c.args.own _)) whole
    ∙ (ap (λ n. map (wrapped c.args.kind c.args.old c.args.own n) kept) c.loop-packet.invariant.1 ∙ sym (run_of_some c.args.kind c.args.old c.args.own kept some)))
