use Rattle.std.proofs.Common.{◌≡◌, ◌+◌, ◌++◌, ◌∷◌, [], ℕ, List, ap, subst, ◌∙◌}
use Rattle.tipc_ports.specs.Numbers.{PortTable}
use Rattle.tipc_ports.proofs.PortLaws.{new_port_last, table}
use Rattle.tipc_ports.proofs.ports.Ports.make.Goals as goal

pub returns-clause-ok : goal.returns-clause-ok
returns-clause-ok c =
    let i = c.self.inside in
    let added = c.in_ok-insert.ensures.keys ∙ new_port_last i.boot i.made c.port_number-port.result i.present.keys c.self.invariant.2 c.port_number-port.ensures in
    subst (λ (t : PortTable). table i.boot (i.made + 1) c.insert.new.self.keys ≡ table t.boot (t.made + 1) (t.present ++ c.port_number-port.result ∷ [])) c.self.view_is (ap (λ (xs : List ℕ). table i.boot (i.made + 1) xs) added)
