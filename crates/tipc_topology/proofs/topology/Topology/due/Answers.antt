use Rattle.std.proofs.Common.{◌<◌, ℕ, List, filter, length, arith, sym, ap, subst, ◌∙◌}
use Rattle.std.specs.List.{AllPairs}
use Rattle.std.proofs.lemmas.List.{length-map}
use Rattle.std.proofs.lemmas.List.Sums.{count_by-le-length, length-filter}
use Rattle.tipc_topology.specs.Watchers.{is_due, Watcher}
use Rattle.tipc_topology.specs.Changing.{due}
use Rattle.tipc_topology.proofs.Kept.{due_rising}
use Rattle.tipc_topology.proofs.topology.Topology.due.Goals as goal

pub returns-clause-rising : goal.returns-clause-rising
returns-clause-rising c =
    let numbers = c.from_vec.ensures ∙ c.in_ok-numbers.ensures ∙ ap (λ (ws : List Watcher). due ws) c.as_slice.ensures.value in
    subst (λ (ns : List ℕ). AllPairs (λ (n later : ℕ). n < later) ns) (sym numbers) (due_rising c.self.inside.kept.items c.self.invariant.0.rising)

pub returns-clause-few : goal.returns-clause-few
returns-clause-few c =
    let ws = c.self.inside.kept.items in
    let numbers = c.from_vec.ensures ∙ c.in_ok-numbers.ensures ∙ ap (λ (vs : List Watcher). due vs) c.as_slice.ensures.value in
    let count = ap (λ (ns : List ℕ). length ns) numbers ∙ length-map (filter is_due ws) (λ (w : Watcher). w.number) in
    let kept = length-filter is_due ws in
    let fewer = count_by-le-length is_due ws in
    let few = c.self.invariant.1 in
    omega (arith, count, kept, fewer, few)
