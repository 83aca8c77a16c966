use Rattle.std.proofs.Common.{◌≡◌, List, length, map, refl, subst}
use Rattle.tipc_journal.specs.Room.{JournalState}
use Rattle.tipc_journal.specs.Streams.{delivered}
use Rattle.tipc_types.specs.declared.message_forms.Flow.TheVariants.{Zero}
use Rattle.tipc_replay.specs.States.{MemberState, counted, history, joined, stream_of}
use Rattle.tipc_replay.proofs.streams.Flows.{delivered_whole}
use Rattle.tipc_replay.proofs.members.Member.delivered_count.Goals as goal

pub returns : goal.returns
returns c =
    let w = c.self.inside in
    let m : MemberState = record { node = w.node; past = map (λ j. j.entries) w.past.items; calls = w.calls; arrivals = w.arrivals.items; counts = w.counts.entries; casts = w.casts.entries } in
    let s = stream_of c.args.peer c.args.contact.0 c.args.contact.1 Zero in
    let past = subst (λ (js : List JournalState). c.delivered_in.result ≡ counted (length (delivered (joined js) s))) c.as_slice.ensures.value c.delivered_in.ensures in
    subst (λ (m : MemberState). c.saturating_add.result ≡ counted (length (delivered (history m) s))) c.self.view_is (delivered_whole m w.past.items s _ _ _ refl past c.delivered_count.ensures c.saturating_add.ensures)
