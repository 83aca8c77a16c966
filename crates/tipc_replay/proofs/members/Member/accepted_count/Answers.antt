use Rattle.std.proofs.Common.{◌≡◌, List, length, map, refl, subst}
use Rattle.tipc_journal.specs.Room.{JournalState}
use Rattle.tipc_journal.specs.Streams.{accepted}
use Rattle.tipc_types.specs.declared.message_forms.Flow.TheVariants.{Zero}
use Rattle.tipc_replay.specs.States.{MemberState, counted, history, joined, stream_of}
use Rattle.tipc_replay.proofs.streams.Flows.{accepted_whole}
use Rattle.tipc_replay.proofs.members.Member.accepted_count.Goals as goal

pub returns : goal.returns
returns c =
    let w = c.self.inside in
    let m : MemberState = record { node = w.node; past = map (λ j. j.entries) w.past.items; calls = w.calls; arrivals = w.arrivals.items; counts = w.counts.entries; casts = w.casts.entries } in
    let s = stream_of c.args.peer c.args.contact.0 c.args.contact.1 Zero in
    let past = subst (λ (js : List JournalState). c.accepted_in.result ≡ counted (length (accepted (joined js) s))) c.as_slice.ensures.value c.accepted_in.ensures in
    subst (λ (m : MemberState). c.saturating_add.result ≡ counted (length (accepted (history m) s))) c.self.view_is (accepted_whole m w.past.items s _ _ _ refl past c.accepted_count.ensures c.saturating_add.ensures)
