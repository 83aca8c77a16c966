use Rattle.std.proofs.Common.{rules, ◌≡◌, ◌+◌, ◌-◌, ap, ◌∙◌}
use Rattle.tipc_topology.specs.Watchers.{one_fewer, total, Counts}
use Rattle.tipc_topology.proofs.Counts.{total_one_fewer}
use Rattle.tipc_topology.proofs.watch.count_down.Goals as goal

pub returns-then-count-le1-clause-total : goal.returns-then-count-le1-clause-total
returns-then-count-le1-clause-total c = λ some.
    let same : c.shift_remove.new.self.entries ≡ one_fewer c.args.counts.now.entries c.args.range = search rules in
    ap (λ (es : Counts). total es + 1) same ∙ total_one_fewer c.args.range c.args.counts.now.entries some

pub returns-clause-total : goal.returns-clause-total
returns-clause-total c = λ some.
    let same : (c.get_mut.follows.lender (c.count_at-count.result - 1)).entries ≡ one_fewer c.args.counts.now.entries c.args.range = search rules in
    ap (λ (es : Counts). total es + 1) same ∙ total_one_fewer c.args.range c.args.counts.now.entries some
