use Rattle.tipc_pair.proofs.Followings.{on_bearer}
use Rattle.tipc_pair.proofs.link_ends.LinkEnds.tell_ended.Goals as goal

pub tell_end-requires : goal.tell_end-requires
tell_end-requires c = on_bearer _ _ _ _ _ c.self.inside.near c.self.invariant.near

pub tell_end-requires-2 : goal.tell_end-requires-2
tell_end-requires-2 c = on_bearer _ _ _ _ _ c.self.inside.far c.self.invariant.far
