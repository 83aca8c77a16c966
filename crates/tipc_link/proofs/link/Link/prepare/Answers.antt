use Rattle.std.proofs.Common.{◌≡◌, ap, ◌∙◌}
use Rattle.tipc_link_fsm.specs.Table.{Fsm, Outcome}
use Rattle.tipc_link.specs.Links.{LinkEnd, outcome_of}
use Rattle.tipc_link.proofs.link.Link.prepare.Goals as goal

pub returns-clause-states : goal.returns-clause-states
returns-clause-states c =
    let o : Outcome = outcome_of c.in_ok-fsm.fsm c.args.packet.now.header c.args.sender_epoch c.args.receiver_epoch c.args.held in
    let told = c.in_ok-fsm.ensures in
    let copied : c.in_ok-fsm.fsm ≡ c.self.inside.fsm = cc in
    ap (λ (f : Fsm). record { after = f; change = c.change_of-change.result }) c.change_of-change.ensures.after
    ∙ ap (λ change. record { after = o.after; change = change }) c.change_of-change.ensures.change
    ∙ ap (λ (f : Fsm). outcome_of f c.args.packet.now.header c.args.sender_epoch c.args.receiver_epoch c.args.held) (copied ∙ ap (λ (e : LinkEnd). e.fsm) c.self.view_is)
