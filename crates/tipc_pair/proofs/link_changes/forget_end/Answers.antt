use Rattle.std.proofs.Common.{◌≡◌, ◌∙◌, false, subst, ap}
use Rattle.tipc_types.specs.LinkStates.{is_up}
use Rattle.tipc_outside.specs.Frames.{AddsFirst}
use Rattle.tipc_link.specs.Links.{LinkEnd}
use Rattle.tipc_pair.specs.Facing.{is_up_at}
use Rattle.tipc_pair.proofs.EndSteps.{forget_silent}
use Rattle.tipc_pair.proofs.link_changes.forget_end.Goals as goal

pub returns-in-Some-clause-frames : goal.returns-in-Some-clause-frames
returns-in-Some-clause-frames c =
    let down : is_up c.show_contact.new.self.fsm.state ≡ false = ap (λ (e : LinkEnd). is_up e.fsm.state) c.show_contact.ensures ∙ subst (λ o. is_up_at o ≡ false) c.in-Some.is c.requires.down in
    subst (AddsFirst c.args.out.now c.forget_peer.new.out) (forget_silent c.show_contact.new.self down) c.forget_peer.ensures.frames
