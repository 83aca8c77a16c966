use Rattle.std.proofs.Common.{◌<◌, ◌∙◌, ◌++◌, length, sym, subst, ap, arith}
use Rattle.tipc_pair.specs.PairArrivals.{with_bytes}
use Rattle.tipc_pair.proofs.Openings.{carried_unwrapped, rests_unwrapped}
use Rattle.tipc_pair.proofs.link_ends.LinkEnds.unwrap.Goals as goal

pub returns-in_default : goal.returns-in_default
returns-in_default c =
    rests_unwrapped c.args.self.now c.args.taken c.add_with_bytes.new.packets c.args.event.now (c.in_ok-carried.ensures.none c.in_default.is)
    (c.in_ok-add_with_bytes.ensures ∙ ap (λ xs. xs ++ with_bytes c.args.taken) c.new-opened.ensures)

pub without_first-requires : goal.without_first-requires
without_first-requires c = subst (λ ts. 0 < length ts) (sym (c.in_ok-carried.ensures.some c.in-Some.carried c.in-Some.is).taken_is) (omega arith)

pub returns : goal.returns
returns c =
    let freed = c.in_ok-freed.freed in
    carried_unwrapped c.args.self.now c.take_carried.new.self c.args.taken freed c.add_with_bytes-3.new.packets c.in-Some.carried c.args.event.now c.take_carried.new.event
    (c.in_ok-carried.ensures.some c.in-Some.carried c.in-Some.is) c.in_ok-freed.ensures
    (c.in_ok-add_with_bytes-3.ensures
    ∙ (ap (λ xs. xs ++ with_bytes c.without_first.result) (c.in_ok-add_with_bytes-2.ensures ∙ ap (λ xs. xs ++ with_bytes freed) c.new-opened.ensures)
    ∙ ap (λ ts. with_bytes freed ++ with_bytes ts) c.without_first.ensures))
