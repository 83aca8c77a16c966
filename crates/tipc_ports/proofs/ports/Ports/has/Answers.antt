use Rattle.std.proofs.Common.{Contains, sym, subst, ◌∙◌}
use Rattle.tipc_ports.specs.Numbers.{PortTable}
use Rattle.tipc_ports.proofs.PortLaws.{found_there, there_found}
use Rattle.tipc_ports.proofs.ports.Ports.has.Goals as goal

pub returns : goal.returns
returns c =
    let ports = c.self.inside.present.keys in (
      (λ found. subst (λ (t : PortTable). Contains t.present c.args.port) c.self.view_is (found_there c.args.port ports (sym c.contains.ensures ∙ found))),
      (λ here. c.contains.ensures ∙ there_found c.args.port ports (subst (λ (t : PortTable). Contains t.present c.args.port) (sym c.self.view_is) here)),
    )
