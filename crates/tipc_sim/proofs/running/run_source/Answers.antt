use Rattle.std.proofs.Common.{ap, subst, refl, inl, inr, Err}
use Rattle.tipc_world.specs.States.{is_there}
use Rattle.tipc_sim.specs.Unread.{StopsReading, IsUnreadStatus}
use Rattle.tipc_sim.proofs.OutputLaws.{known, unread_ends, unread_limit}
use Rattle.tipc_sim.proofs.RunLaws.{not_read}
use Rattle.tipc_sim.proofs.WorldLaws.{empty_good}
use Rattle.tipc_sim.proofs.running.run_source.Goals as goal

pub run_lines-requires-clause-empty : goal.run_lines-requires-clause-empty
run_lines-requires-clause-empty g c = λ n. ap (λ w. is_there w n) c.requires.empty

pub run_lines-requires-clause-good : goal.run_lines-requires-clause-good
run_lines-requires-clause-good g c = empty_good g.P.Pick.gives c.args.world.now c.requires.empty c.requires.start

pub returns-in-Err-clause-good : goal.returns-in-Err-clause-good
returns-in-Err-clause-good g c = empty_good g.P.Pick.gives c.args.world.now c.requires.empty c.requires.start

pub returns-in-Err-clause-report : goal.returns-in-Err-clause-report
returns-in-Err-clause-report g c =
    known (g.S.Source.left c.args.source.now) (λ bytes. StopsReading c.in-Err.stop bytes) _
    (λ bytes stopped. not_read bytes c.args.world.now.state (g.K.Sink.contents c.args.sink.now) (g.K.Sink.contents c.tell_stop.new.sink) c.tell_stop.result (c.tell_stop.ensures.told bytes stopped))
    c.in-Err.ensures.stopped

pub returns-in-Err-clause-used : goal.returns-in-Err-clause-used
returns-in-Err-clause-used g c = λ is. subst IsUnreadStatus is c.tell_stop.ensures.status

pub returns-in-Err-clause-read : goal.returns-in-Err-clause-read
returns-in-Err-clause-read g c =
    λ is.
    let stopped = c.tell_stop.ensures.read is in
    (c.in-Err.ensures.failed (ap (λ stop. Err stop) stopped.0), stopped.1, refl)

pub returns-in-Err-clause-limit : goal.returns-in-Err-clause-limit
returns-in-Err-clause-limit g c =
    λ is. known (g.S.Source.left c.args.source.now) (λ bytes. StopsReading c.in-Err.stop bytes) _
    (λ bytes stopped. inl (unread_limit c.tell_stop.result bytes (g.K.Sink.contents c.args.sink.now) (g.K.Sink.contents c.tell_stop.new.sink) is (c.tell_stop.ensures.told bytes stopped)))
    c.in-Err.ensures.stopped

pub returns-in-Err-clause-within : goal.returns-in-Err-clause-within
returns-in-Err-clause-within g c =
    λ ended. absurd (elim ended [ inl is ↦ subst IsUnreadStatus is c.tell_stop.ensures.status | inr is ↦ subst IsUnreadStatus is c.tell_stop.ensures.status ])

pub returns-in-Err-clause-bad : goal.returns-in-Err-clause-bad
returns-in-Err-clause-bad g c = λ is. absurd (subst IsUnreadStatus is c.tell_stop.ensures.status)

pub returns-in-Err-clause-sound : goal.returns-in-Err-clause-sound
returns-in-Err-clause-sound g c = λ is. absurd (subst IsUnreadStatus is c.tell_stop.ensures.status)

pub returns-in-Err-clause-end : goal.returns-in-Err-clause-end
returns-in-Err-clause-end g c = λ is. absurd (subst IsUnreadStatus is c.tell_stop.ensures.status)

pub returns-in-Err-clause-complete : goal.returns-in-Err-clause-complete
returns-in-Err-clause-complete g c =
    let told = c.tell_stop.ensures in
    known (g.S.Source.left c.args.source.now) (λ bytes. StopsReading c.in-Err.stop bytes) _
    (λ bytes stopped within sound read write stall. inr (inl (unread_ends c.tell_stop.result bytes (g.K.Sink.contents c.args.sink.now) (g.K.Sink.contents c.tell_stop.new.sink) told.status (told.told bytes stopped) within
    (λ is. read (returns-in-Err-clause-read g c is).0)
    (λ is. elim (told.failed is) [ inl rose ↦ write rose | inr rose ↦ stall rose ]))))
    c.in-Err.ensures.stopped
