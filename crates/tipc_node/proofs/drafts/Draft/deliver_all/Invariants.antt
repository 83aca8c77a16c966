use Rattle.std.proofs.Common.{◌≡◌, length, true}
use Rattle.std.specs.List.{list_all}
use Rattle.tipc_node.specs.Drafts.{own_of, start_of}
use Rattle.tipc_node.specs.Hearings.{is_plain}
use Rattle.tipc_node.specs.Nodes.{entries_in}
use Rattle.tipc_node.proofs.work.Delivering.{IsPartDelivered}
use Rattle.tipc_node.proofs.drafts.Draft.deliver_all.Given as goal

-- with what is to come, all is delivered
abbrev pub invariant-loop-delivery : goal.invariant-loop-delivery
invariant-loop-delivery l =
    IsPartDelivered (own_of l.fn.self) l.peer l.fn.self.work l.fn.deliveries.items l.self.work l.waiting.items l.fn.self.out l.self.out
    × (start_of l.self ≡ start_of l.fn.self)
    × (list_all is_plain (entries_in l.waiting.items) ≡ true)

abbrev pub decreases-loop-delivery : goal.decreases-loop-delivery
decreases-loop-delivery l = length l.waiting.items
