use Rattle.std.proofs.Common.{refl}
use Rattle.tipc_work.proofs.Carrying.{has_mended}
use Rattle.tipc_work.proofs.movers.Mover.mend.Goals as goal

pub returns-clause-mended : goal.returns-clause-mended
returns-clause-mended g c =
    has_mended _ _ c.perform.new.self _ _ c.requires.unused.made c.in_ok-perform.ensures.made c.in_ok-perform-2.ensures.made c.perform.ensures.same
    c.perform-2.ensures.same refl refl refl
