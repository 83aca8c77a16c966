use Rattle.std.proofs.Common.{◌≡◌, ◌∙◌, false, true, sym, subst}
use Rattle.tipc_link.specs.Links.{is_down}
use Rattle.tipc_pair.specs.Facing.{PairEnds}
use Rattle.tipc_pair.specs.PairArrivals.{IsHeardAs, Heard, reset_given}
use Rattle.tipc_pair.proofs.Arrivings.{does_behind, reset_again_is}
use Rattle.tipc_pair.proofs.link_ends.LinkEnds.take_reset.Goals as goal

pub returns-then-not-held : goal.returns-then-not-held
returns-then-not-held c =
    let x = c.args.self.now in
    let held = c.far_is_up-held.result in
    let one = c.give_reset.new.self in
    let last = c.give_reset-then-not-held.new.self in
    let a = c.args.event.now in
    let d = c.give_reset-then-not-held.new.event in
    let outcome = c.in_ok-give_reset.field-0.1 in
    let down : is_down c.in_ok-change.change ≡ true = sym c.is_down.ensures ∙ c.if-is_down.true in
    subst (λ (h : Heard). IsHeardAs h last a d outcome) (sym (reset_again_is c.args.sender_epoch c.args.shown x held c.in_ok-change.change c.far_is_up-held.ensures c.if-not-held.true c.in_ok-change.ensures.change down))
    (does_behind (reset_given c.args.sender_epoch held c.args.shown x x.near).course (λ (y : PairEnds). reset_given c.args.sender_epoch false c.args.shown y y.near) one last a c.give_reset.new.event d outcome
    c.in_ok-change.ensures.does.pair c.in_ok-change.ensures.does.told c.in_ok-give_reset.ensures.does)
