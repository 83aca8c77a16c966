use Rattle.std.proofs.Common.{ap, ◌∙◌}
use Rattle.tipc_link.specs.Sessions.{SessionEnd, after_acknowledgement}
use Rattle.tipc_link.specs.Hearings.{HearingState}
use Rattle.tipc_link.proofs.Takings.{took-released}
use Rattle.tipc_link.proofs.session.Session.hear_numbered.Goals as goal

pub take_or_pass-requires : goal.take_or_pass-requires
take_or_pass-requires c = (c.requires.0, ap (λ (h : HearingState). h.window) c.hearing.view_is ∙ c.requires.1)

pub returns-clause-after : goal.returns-clause-after
returns-clause-after c = λ t is.
    c.acknowledge.ensures ∙ ap (λ (e : SessionEnd). after_acknowledgement e c.args.acknowledgement) (c.take_or_pass.ensures t (ap (λ (h : HearingState). h.window) c.hearing.view_is ∙ is))
    ∙ took-released c.args.self.now c.args.acknowledgement t
