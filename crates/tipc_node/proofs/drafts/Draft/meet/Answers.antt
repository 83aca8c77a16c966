use Rattle.std.proofs.Common.{ap, ◌∙◌}
use Rattle.tipc_node.specs.Drafts.{restored, start_of}
use Rattle.tipc_node.specs.Works.{fate_of, work_of}
use Rattle.tipc_node.proofs.work.Drafting.{back_here, met_here, met_own}
use Rattle.tipc_node.proofs.drafts.Draft.meet.Goals as goal

pub invariant_of-self : goal.invariant_of-self
invariant_of-self c =
    let w = c.self.inside in
    let f = fate_of (work_of c.as_slice.result.now w.sockets w.inside.items) c.args.arrived c.args.m in
    (met_own _ c.meet.result w.sockets c.meet.new.sockets c.args.m f c.meet.ensures.sockets c.meet.ensures.err ∙ c.self.invariant.0, c.self.invariant.1)

pub returns-clause-back : goal.returns-clause-back
returns-clause-back c =
    let w = c.self.inside in
    back_here c.meet.result c.args.self.now w.neighbours.items c.as_slice.result.now w.copies.items w.sockets w.inside.items w.out c.args.arrived c.args.m c.self.view_is c.as_slice.ensures.value c.meet.ensures.back

pub returns-clause-work : goal.returns-clause-work
returns-clause-work c =
    let w = c.self.inside in
    met_here c.meet.result c.args.self.now w.neighbours.items c.as_slice.result.now w.copies.items w.sockets c.meet.new.sockets w.inside.items c.meet.new.inside.items w.out c.args.arrived c.args.m c.self.view_is c.as_slice.ensures.value
    c.meet.ensures.sockets c.meet.ensures.entries

pub returns-clause-start : goal.returns-clause-start
returns-clause-start c =
    let w = c.self.inside in
    let f = fate_of (work_of c.as_slice.result.now w.sockets w.inside.items) c.args.arrived c.args.m in
    ap (λ word. (restored w.copies.items w.neighbours.items, word)) (met_own _ c.meet.result w.sockets c.meet.new.sockets c.args.m f c.meet.ensures.sockets c.meet.ensures.err) ∙ ap start_of c.self.view_is
