use Rattle.std.proofs.Common.{ap, ◌∙◌}
use Rattle.tipc_recv_window.specs.Receiving.{coming, run_of, with_packet}
use Rattle.tipc_link.proofs.Takings.{wanted_advanced, wanted_freed}
use Rattle.tipc_link.proofs.record.Record.take_wanted.Goals as goal

pub commit-requires : goal.commit-requires
commit-requires c = (c.args.packet, c.in_ok-arrival.ensures.arrival ∙ ap (λ w. coming w c.args.packet) c.window.ensures.value)

pub returns-clause-due : goal.returns-clause-due
returns-clause-due c =
    c.in_ok-arrival.ensures.due ∙ ap (λ w. run_of (with_packet w c.args.packet).held) c.window.ensures.value ∙ wanted_freed c.args.self.now c.args.packet c.commit.ensures.free c.requires

pub returns-clause-after : goal.returns-clause-after
returns-clause-after c =
    c.commit.ensures.after c.args.packet (c.in_ok-arrival.ensures.arrival ∙ ap (λ w. coming w c.args.packet) c.window.ensures.value) ∙ wanted_advanced c.args.self.now c.args.packet c.commit.ensures.free c.requires
