use Rattle.std.proofs.Common.{◌≡◌}
use Rattle.tipc_node.specs.Drafts.{own_of, start_of}
use Rattle.tipc_node.proofs.work.Tellings.{IsTelling}
use Rattle.tipc_node.proofs.drafts.Draft.tell_peers.Given as goal

abbrev pub invariant-loop-peer : goal.invariant-loop-peer
invariant-loop-peer l =
    IsTelling (own_of l.fn.self) l.messages l.fn.self.work.neighbours l.self.work.neighbours l.fn.self.work.inside l.self.work.inside l.fn.self.out l.self.out l.peer
    × (l.self.work.sockets ≡ l.fn.self.work.sockets)
    × (start_of l.self ≡ start_of l.fn.self)
