use Rattle.std.specs.Option.{option_copied}
use Rattle.tipc_live.proofs.Differences.{item_at, tells_difference}
use Rattle.tipc_live.proofs.differing.compare.Goals as goal

pub returns-in_ok-differ-in-Some : goal.returns-in_ok-differ-in-Some
returns-in_ok-differ-in-Some c =
    let found = c.in-Some.ensures in
    let told = c.in_ok-differ-in-Some.ensures in
    let other = item_at c.args.replayed.now c.in-Some.place c.get.result c.get.ensures.lookup in
    tells_difference c.args.n c.args.kept.now c.args.replayed.now c.args.begin c.args.end c.in-Some.place told.0 (option_copied c.get.result)
    c.in_ok-differ-in-Some.field-0 found.0 found.1 found.2 found.3 told.1 other told.2
