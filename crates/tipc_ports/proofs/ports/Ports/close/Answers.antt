use Rattle.std.proofs.Common.{◌≡◌, ℕ, List, Contains, sym, ap, subst, ◌∙◌}
use Rattle.tipc_ports.specs.Numbers.{without_port, ArePresent, PortTable}
use Rattle.tipc_ports.proofs.PortLaws.{found_there, port_removed, present_without, table}
use Rattle.tipc_ports.proofs.ports.Ports.close.Goals as goal

pub invariant_of-self-2 : goal.invariant_of-self-2
invariant_of-self-2 c =
    let i = c.self.inside in
    let h = c.self.invariant in
    let removed = c.shift_remove.ensures.keys ∙ port_removed i.boot i.made c.args.port i.present.keys h.2 in
    (h.0, h.1, subst (λ (xs : List ℕ). ArePresent i.boot i.made xs) (sym removed) (present_without i.boot i.made c.args.port i.present.keys h.2))

pub returns-clause-ok : goal.returns-clause-ok
returns-clause-ok c =
    let i = c.self.inside in
    let removed = c.shift_remove.ensures.keys ∙ port_removed i.boot i.made c.args.port i.present.keys c.self.invariant.2 in
    subst (λ (t : PortTable). table i.boot i.made c.shift_remove.new.self.keys ≡ table t.boot t.made (without_port c.args.port t.present)) c.self.view_is (ap (λ (xs : List ℕ). table i.boot i.made xs) removed)

pub returns-clause-there : goal.returns-clause-there
returns-clause-there c =
    let here = found_there c.args.port c.self.inside.present.keys (sym c.shift_remove.ensures.found ∙ c.if-not-shift_remove.false) in
    subst (λ (t : PortTable). Contains t.present c.args.port) c.self.view_is here
