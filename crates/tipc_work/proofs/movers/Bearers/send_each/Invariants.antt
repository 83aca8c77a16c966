use Rattle.tipc_work.specs.Moved.{CarriesFrames}
use Rattle.tipc_work.proofs.movers.Bearers.send_each.Given as goal

-- the frames before are sent
abbrev pub invariant-loop-frame : goal.invariant-loop-frame
invariant-loop-frame g l = CarriesFrames g.B.Bearer.tried g.B.Bearer.given g.B.Bearer.faults 0 l.frame-index l.fn.self l.self
