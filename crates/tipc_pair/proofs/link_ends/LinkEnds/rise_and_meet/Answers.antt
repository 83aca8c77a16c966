use Rattle.std.proofs.Common.{◌≡◌, ◌∙◌, false, sym, subst}
use Rattle.tipc_header.specs.Spelling.{view}
use Rattle.tipc_pair.specs.Changeovers.{risen}
use Rattle.tipc_pair.specs.Facing.{in_contact}
use Rattle.tipc_pair.specs.PairArrivals.{IsHeardAs, activate_higher, activates, behind, met_near}
use Rattle.tipc_pair.proofs.Arrivings.{does_behind, ok_weaker}
use Rattle.tipc_pair.proofs.link_ends.LinkEnds.rise_and_meet.Goals as goal

pub returns : goal.returns
returns c =
    let x = c.args.self.now in
    let hear = met_near c.args.incoming.now.sender_epoch c.args.incoming.now.receiver_epoch (view c.args.incoming.now.packet) c.args.incoming.now.by c.args.incoming.now.shown in
    let first = risen x c.args.number in
    let none : in_contact x ≡ false = sym c.in_contact-ended.ensures.value ∙ c.if-ended.false in
    ok_weaker c.meet.result (λ o. IsHeardAs (hear c.rise.new.self) c.meet.new.self c.rise.new.event c.meet.new.event o) (λ o. IsHeardAs (activate_higher c.args.number hear x) c.meet.new.self c.args.event.now c.meet.new.event o)
    (λ o h. subst (λ b. IsHeardAs (activates b first (behind first hear)) c.meet.new.self c.args.event.now c.meet.new.event o) (sym none)
    (does_behind first hear c.rise.new.self c.meet.new.self c.args.event.now c.rise.new.event c.meet.new.event o c.in_ok-rise.ensures.after c.in_ok-rise.ensures.adds h)) c.meet.ensures
