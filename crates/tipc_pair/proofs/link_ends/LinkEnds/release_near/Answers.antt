use Rattle.std.proofs.Common.{option_map}
use Rattle.tipc_pair.specs.Changeovers.{let_go}
use Rattle.tipc_pair.proofs.EndFacts.{end_mapped, near_stepped, released_kept}
use Rattle.tipc_pair.proofs.link_ends.LinkEnds.release_near.Goals as goal

pub invariant_of-self : goal.invariant_of-self
invariant_of-self c =
    let x = c.self.inside in
    near_stepped _ _ (option_map let_go x.near) c.self.invariant c.let_go.ensures.after
    (end_mapped x.own.word x.peer.word x.numbers.own x.numbers.seen x.bearer let_go x.near released_kept c.self.invariant.near)
