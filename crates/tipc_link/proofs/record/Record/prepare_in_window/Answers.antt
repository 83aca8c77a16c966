use Rattle.std.proofs.Common.{ap, ◌∙◌}
use Rattle.tipc_header.specs.Spelling.{spelling, view}
use Rattle.tipc_recv_window.specs.Receiving.{coming, run_of, with_packet}
use Rattle.tipc_link.specs.Records.{window_of}
use Rattle.tipc_link.specs.Sessions.{as_waiting, brought, placed}
use Rattle.tipc_link.proofs.Standing.{hearing_is}
use Rattle.tipc_link.proofs.record.Record.prepare_in_window.Goals as goal

pub returns : goal.returns
returns c =
    let t = brought c.args.packet.now.sequence (spelling (as_waiting (view c.args.packet.now))) c.args.by in
    let w = window_of c.args.self.now in
    hearing_is w t c.in_ok-arrival.arrival c.in_ok-waiting_bytes.field-0 c.in_ok-arrival.due c.at-outcome.result c.requires.waits c.in_ok-waiting_bytes.ensures
    (c.in_ok-arrival.ensures.arrival ∙ ap (λ v. coming v (record { number = t.number; packet = c.in_ok-waiting_bytes.field-0; by = t.by })) c.window.ensures.value)
    (c.in_ok-arrival.ensures.due ∙ ap (λ v. run_of (with_packet v (record { number = t.number; packet = c.in_ok-waiting_bytes.field-0; by = t.by })).held) c.window.ensures.value)
    (c.at-outcome.ensures ∙ ap (λ p. placed p c.in_ok-arrival.due) c.place.ensures)
