use Rattle.std.proofs.Common.{◌∙◌, refl, sym}
use Rattle.tipc_pair.proofs.Quietly.{facing_standing}
use Rattle.tipc_pair.proofs.link_ends.LinkEnds.prepare.Goals as goal

pub returns-in-Lower-clause-prepared : goal.returns-in-Lower-clause-prepared
returns-in-Lower-clause-prepared c = (facing_standing c.args.bearer c.args.self.now c.args.incoming.now.packet.header ∙ (sym c.standing_with.ensures ∙ c.in-Lower.is), refl)
