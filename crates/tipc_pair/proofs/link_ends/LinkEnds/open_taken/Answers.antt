use Rattle.std.proofs.Common.{subst, ap}
use Rattle.tipc_reassembly.specs.Opening.{BringsAll}
use Rattle.tipc_pair.specs.Facing.{PairEnds}
use Rattle.tipc_pair.proofs.Openings.{opens_so}
use Rattle.tipc_pair.proofs.link_ends.LinkEnds.open_taken.Goals as goal

pub returns : goal.returns
returns c =
    let one = c.unwrap.new.self in
    let last = c.open.new.self in
    let given = c.in_ok-given.given in
    opens_so c.args.self.now one _ c.args.taken c.in_ok-carried.carried given last c.args.event.now c.unwrap.new.event c.in_ok-carried.ensures
    (subst (λ ts. BringsAll one.begun ts given last) c.as_slice.ensures (subst (λ (v : PairEnds). BringsAll v.begun c.as_slice.result.now given last) c.self.view_is c.in_ok-given.ensures.ok))
    (ap (λ (v : PairEnds). record v { begun = last }) c.self.view_is)
