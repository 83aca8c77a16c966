use Rattle.std.proofs.Common.{◌≡◌, ap, inl, inr, subst, ◌∙◌, Err}
use Rattle.tipc_sim.specs.Dissections.{Dissects, IsDissectStatus}
use Rattle.tipc_sim.specs.Lines.{IsWithin}
use Rattle.tipc_sim.specs.Unread.{StopsReading, IsUnreadStatus}
use Rattle.tipc_sim.proofs.DissectionLaws.{not_read, told_all}
use Rattle.tipc_sim.proofs.OutputLaws.{known, unread_ends}
use Rattle.tipc_sim.proofs.dissecting.dissect_source.Goals as goal

-- what is read is what the source holds
pub returns-in-Ok-clause-report : goal.returns-in-Ok-clause-report
returns-in-Ok-clause-report g c =
    let d = c.dissect_lines.ensures in
    known (g.S.Source.left c.args.source.now) (λ bytes. c.in-Ok.frames.items ≡ bytes) _
    (λ bytes same. subst (λ bs. Dissects bs c.dissect_lines.result (g.K.Sink.contents c.args.sink.now) (g.K.Sink.contents c.dissect_lines.new.sink)) (c.as_slice.ensures.value ∙ same) d.report)
    c.in-Ok.ensures.all

pub returns-in-Ok-clause-complete : goal.returns-in-Ok-clause-complete
returns-in-Ok-clause-complete g c =
    let d = c.dissect_lines.ensures in
    known (g.S.Source.left c.args.source.now) (λ bytes. Dissects bytes c.dissect_lines.result (g.K.Sink.contents c.args.sink.now) (g.K.Sink.contents c.dissect_lines.new.sink)) _
    (λ bytes told within are read write stall. told_all bytes c.dissect_lines.result (g.K.Sink.contents c.args.sink.now) (g.K.Sink.contents c.dissect_lines.new.sink) d.status told are (λ is. elim (d.failed is) [ inl rose ↦ write rose | inr rose ↦ stall rose ]))
    (returns-in-Ok-clause-report g c)

pub returns-in-Err-clause-report : goal.returns-in-Err-clause-report
returns-in-Err-clause-report g c =
    known (g.S.Source.left c.args.source.now) (λ bytes. StopsReading c.in-Err.stop bytes) _
    (λ bytes stopped. not_read bytes (g.K.Sink.contents c.args.sink.now) (g.K.Sink.contents c.tell_stop.new.sink) c.tell_stop.result (c.tell_stop.ensures.told bytes stopped))
    c.in-Err.ensures.stopped

pub returns-in-Err-clause-read : goal.returns-in-Err-clause-read
returns-in-Err-clause-read g c =
    λ is.
    let stopped = c.tell_stop.ensures.read is in
    (c.in-Err.ensures.failed (ap (λ stop. Err stop) stopped.0), stopped.1)

pub returns-in-Err-clause-complete : goal.returns-in-Err-clause-complete
returns-in-Err-clause-complete g c =
    let told = c.tell_stop.ensures in
    known (g.S.Source.left c.args.source.now) (λ bytes. StopsReading c.in-Err.stop bytes) _
    (λ bytes stopped within are read write stall. inr (unread_ends c.tell_stop.result bytes (g.K.Sink.contents c.args.sink.now) (g.K.Sink.contents c.tell_stop.new.sink) told.status (told.told bytes stopped) within
    (λ is. read (returns-in-Err-clause-read g c is).0)
    (λ is. elim (told.failed is) [ inl rose ↦ write rose | inr rose ↦ stall rose ])))
    c.in-Err.ensures.stopped
