use Rattle.std.proofs.Common.{◌≡◌, [], ◌∷◌, List, ℕ, arith, length, ap, rules}
use Rattle.tipc_node_lock.proofs.Counted.{counts_new}
use Rattle.tipc_node_lock.proofs.Sectioned.{kept_new}
use Rattle.tipc_node_lock.proofs.locked.LockedNode.new.Goals as goal

pub invariant_of-result : goal.invariant_of-result
invariant_of-result g c =
    let node = c.in_ok-new.ensures in
    let zero_alone : List ℕ = 0 ∷ [] in
    let one : c.push.new.self.items ≡ zero_alone = search rules in
    let long = ap length one in (
      kept_new _ node.told node.shares node.empty.1 c.new-2.ensures.items c.requires.turn c.new-4.ensures.items,
      counts_new _ _ node.empty.1 one,
      omega (arith, long),
    )
