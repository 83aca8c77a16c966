use Rattle.std.proofs.Common.{rules, ◌≡◌, ◌+◌, ap, arith}
use Rattle.tipc_topology.specs.Watchers.{count_at, one_more, total, Counts}
use Rattle.tipc_topology.proofs.Counts.{total_more}
use Rattle.tipc_topology.proofs.watch.count_up.Goals as goal

pub returns-clause-total : goal.returns-clause-total
returns-clause-total c =
    let es = c.args.counts.now.entries in
    let same : c.insert.new.self.entries ≡ one_more c.args.counts.now.entries c.args.range = search rules in
    let more = total_more c.args.range (count_at es c.args.range + 1) es in
    let sum = ap (λ (xs : Counts). total xs) same in
    omega (arith, more, sum)
