use Rattle.std.proofs.Common.{rules, tests}
use Rattle.std.proofs.lemmas.Iterator.{items_from_collect, YieldsList-from_slice, YieldsList-from_map}
use Rattle.std.proofs.lemmas.Iterator.Consumers.{YieldsList-from_filter}
use Rattle.tipc_topology.specs.Watchers.{is_due, Watcher}
use Rattle.tipc_topology.proofs.topology.due.Goals as goal

pub returns : goal.returns
returns c =
    items_from_collect _ c.collect.ensures.ran
    (YieldsList-from_map _ (λ (w : Watcher). w.number)
    (YieldsList-from_filter _ is_due (YieldsList-from_slice c.args.kept.now cc) c.filter.ensures.closure (λ x b q k. search (rules, tests)))
    c.map.ensures.closure (λ x b q k. search (rules, tests)))
