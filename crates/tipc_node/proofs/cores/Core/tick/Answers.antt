use Rattle.std.proofs.Common.{◌-◌, ◌∙◌, ◌++◌, List, None, ap, arith, fold, length, length-append, map, refl, slice_index_or, subst, sym, take}
use Rattle.std.specs.List.{list_all}
use Rattle.tipc_types.specs.declared.node_calls.Answer.TheVariants as answer
use Rattle.tipc_types.specs.declared.node_calls.EventNote.TheVariants as event
use Rattle.tipc_outside.specs.declared.outgoing.Outgoing.{Outgoing}
use Rattle.tipc_outside.specs.Frames.{Adds, AddsFirst, made_behind, no_frames}
use Rattle.tipc_broadcast.specs.Deeds.{deeds_frames}
use Rattle.tipc_journal.specs.declared.entries.Entry.{Entry}
use Rattle.tipc_journal.specs.declared.entries.Entry.TheVariants as entry
use Rattle.tipc_journal.specs.Steps.{step_entries}
use Rattle.tipc_ports.specs.Numbers.{PortTable}
use Rattle.tipc_sockets.specs.SocketTables.{SocketTable}
use Rattle.tipc_sockets.specs.Telling.{after_entry}
use Rattle.tipc_topology.specs.Changing.{due}
use Rattle.tipc_node.specs.contracts.cores.Core.{the_view}
use Rattle.tipc_node.specs.declared.neighbours.Upkeep.TheVariants as upkeep
use Rattle.tipc_node.specs.Calls.{tick_plan}
use Rattle.tipc_node.specs.Discovery.{requests_by, upkeep_frames}
use Rattle.tipc_node.specs.Drafts.{DraftState}
use Rattle.tipc_node.specs.Nodes.{NodeState, after_all, is_change, numbered_all, parts_of, states_all, step_of, upkeep_deeds}
use Rattle.tipc_node.specs.Plans.{CarriesOut}
use Rattle.tipc_node.specs.Turns.{HaveJoined}
use Rattle.tipc_node.specs.Works.{work_of}
use Rattle.tipc_node.proofs.work.Casting.{upkeep_of_node}
use Rattle.tipc_node.proofs.work.Changes.{all_changes, same_folded}
use Rattle.tipc_node.proofs.work.Drafting.{idle_work}
use Rattle.tipc_node.proofs.turns.Parts.{asked_made, cast_behind, have_part, joined_all, parts_nobody, parts_wide}
use Rattle.tipc_node.proofs.journal.Ticking.{front_of, ticks_from}
use Rattle.tipc_node.proofs.cores.Core.tick.Goals as goal

pub part_of_all-requires-clause-joined : goal.part_of_all-requires-clause-joined
part_of_all-requires-clause-joined c = joined_all (the_view c.self.inside) c.neighbours.result.now c.neighbours.ensures.value (subst HaveJoined (sym c.self.view_is) c.requires.joined)

pub take_over-requires-clause-wide : goal.take_over-requires-clause-wide
take_over-requires-clause-wide c =
    let n = the_view c.self.inside in
    let h = have_part n upkeep.Tick c.neighbours.result.now c.in_ok-after.after.items c.new-event.result c.part_of_all.new.event c.neighbours.ensures.value c.new-event.ensures.out c.new-event.ensures.casts c.in_ok-after.ensures.parts in
    ap length h.after_is ∙ parts_wide n upkeep.Tick ∙ c.neighbours.ensures.wide

pub take_over-requires-clause-nobody : goal.take_over-requires-clause-nobody
take_over-requires-clause-nobody c =
    let n = the_view c.self.inside in
    let h = have_part n upkeep.Tick c.neighbours.result.now c.in_ok-after.after.items c.new-event.result c.part_of_all.new.event c.neighbours.ensures.value c.new-event.ensures.out c.new-event.ensures.casts c.in_ok-after.ensures.parts in
    ap (λ xs. slice_index_or xs 0 None) h.after_is ∙ parts_nobody n upkeep.Tick c.neighbours.ensures.nobody

pub take_over-requires-clause-within : goal.take_over-requires-clause-within
take_over-requires-clause-within c =
    let told = c.part_of_all.new.event.inside.items in
    let counted = c.len-changed.ensures ∙ c.part_of_all.new.event.inside.ok.0 in
    let noted_all = c.note_timeouts.ensures.entries ∙ ap (λ (es : List Entry). es ++ map entry.TimedOut c.as_slice-3.result.now) c.reserve.ensures.items in
    let given = ap (λ (es : List Entry). length es) (c.as_slice-4.ensures.value ∙ noted_all) ∙ length-append told (map entry.TimedOut c.as_slice-3.result.now) in
    omega (arith, counted, given)

pub take_over-requires-clause-changes : goal.take_over-requires-clause-changes
take_over-requires-clause-changes c =
    let told = c.part_of_all.new.event.inside.items in
    let n = the_view c.self.inside in
    let h = have_part n upkeep.Tick c.neighbours.result.now c.in_ok-after.after.items c.new-event.result c.part_of_all.new.event c.neighbours.ensures.value c.new-event.ensures.out c.new-event.ensures.casts c.in_ok-after.ensures.parts in
    let noted_all = c.note_timeouts.ensures.entries ∙ ap (λ (es : List Entry). es ++ map entry.TimedOut c.as_slice-3.result.now) c.reserve.ensures.items in
    ap (λ es. list_all is_change es) (front_of told (map entry.TimedOut c.as_slice-3.result.now) c.as_slice-4.result.now c.len-changed.result (c.as_slice-4.ensures.value ∙ noted_all) (c.len-changed.ensures ∙ c.part_of_all.new.event.inside.ok.0))
    ∙ ap (λ es. list_all is_change es) h.entries ∙ all_changes 0 (parts_of upkeep.Tick n)

pub invariant_of-self-2 : goal.invariant_of-self-2
invariant_of-self-2 c =
    let i = c.self.invariant in
    let d = c.self.inside.draft in
    let n = the_view c.self.inside in
    let between = c.take_over.new.self in
    let set = c.in_ok-take_over.ensures.after in
    let es = take c.len-changed.result c.as_slice-4.result.now in
    let same = same_folded d.work.sockets es in
    let h = have_part n upkeep.Tick c.neighbours.result.now c.in_ok-after.after.items c.new-event.result c.part_of_all.new.event c.neighbours.ensures.value c.new-event.ensures.out c.new-event.ensures.casts c.in_ok-after.ensures.parts in (
      idle_work between c.pass.new.self _ c.pass.ensures refl
          (idle_work d between (work_of c.in_ok-after.after.items (fold after_entry d.work.sockets es) d.work.inside) set refl i.0),
      i.1,
      ap (λ (z : DraftState). z.work.sockets.own) c.pass.ensures ∙ ap (λ (z : DraftState). z.work.sockets.own) set ∙ same.own ∙ i.2,
      ap (λ (z : DraftState). z.work.sockets.ports.boot) c.pass.ensures ∙ ap (λ (z : DraftState). z.work.sockets.ports.boot) set ∙ ap (λ (p : PortTable). p.boot) same.ports ∙ i.3,
      i.4,
      c.next_tick-self-inside.ensures.few,
      upkeep_of_node n upkeep.Tick c.take_broadcast.new.broadcast n.mended tt i.6 (c.take_broadcast.ensures ∙ h.casting) refl,
    )

pub returns-clause-ok : goal.returns-clause-ok
returns-clause-ok c =
    let w = c.self.inside in
    let n = the_view w in
    let between = c.take_over.new.self.work in
    let last = c.pass.new.self.work in
    let set = c.in_ok-take_over.ensures.after in
    let h = have_part n upkeep.Tick c.neighbours.result.now c.in_ok-after.after.items c.new-event.result c.part_of_all.new.event c.neighbours.ensures.value c.new-event.ensures.out c.new-event.ensures.casts c.in_ok-after.ensures.parts in
    let os = parts_of upkeep.Tick n in
    let noted_all = c.note_timeouts.ensures.entries ∙ ap (λ (es : List Entry). es ++ map entry.TimedOut c.as_slice-3.result.now) c.reserve.ensures.items in
    let front = front_of c.part_of_all.new.event.inside.items (map entry.TimedOut c.as_slice-3.result.now) c.as_slice-4.result.now c.len-changed.result (c.as_slice-4.ensures.value ∙ noted_all) (c.len-changed.ensures ∙ c.part_of_all.new.event.inside.ok.0) in
    let sockets = ap (λ (z : DraftState). z.work.sockets) set ∙ ap (λ (es : List Entry). fold after_entry n.sockets es) (front ∙ h.entries) in
    let numbers = c.as_slice-3.ensures ∙ c.in_ok-due.ensures.numbers ∙ ap (λ (s : SocketTable). due s.watchers.kept) c.sockets.ensures in
    let inside = noted_all ∙ (λ i. h.entries i ++ map entry.TimedOut (numbers i)) in
    let recorded_is =
    c.record.ensures.journal
    ∙ ap (λ (es : List Entry). es ++ step_entries (step_of c.args.by event.Tick c.note_timeouts.new.inside.items answer.Done)) c.take_over.ensures.journal
    ∙ ap (λ (es : List Entry). w.journal.entries ++ step_entries (step_of c.args.by event.Tick es answer.Done)) inside in
    let requests = subst (λ (m : NodeState). AddsFirst c.part_of_all.new.event.out c.ask.new.event (requests_by upkeep.Tick m)) (sym c.self.view_is) c.ask.ensures in
    let whole = asked_made os (requests_by upkeep.Tick n) no_frames c.part_of_all.new.event.out c.ask.new.event h.frames requests in
    let first = c.append.ensures (record { first = states_all os ++ requests_by upkeep.Tick n; behind = numbered_all os }) whole in
    let second = c.append-2.ensures (made_behind (deeds_frames (upkeep_deeds upkeep.Tick n) n.casting)) h.casts in
    let after = ticks_from n c.args.by c.next_tick-self-inside.result c.take_broadcast.new.broadcast last.neighbours between.sockets last.sockets c.record.new.journal.entries c.record.new.journal.kept c.next_tick-self-inside.ensures.value (c.take_broadcast.ensures ∙ h.casting)
    (ap (λ (z : DraftState). z.work.neighbours) c.pass.ensures ∙ ap (λ (z : DraftState). z.work.neighbours) set ∙ h.after_is)
    sockets (ap (λ (z : DraftState). z.work.sockets) c.pass.ensures) recorded_is (c.record.ensures.kept ∙ ap (λ k. k - 1) c.take_over.ensures.kept) in
    let n' : NodeState = record n { ticks = c.next_tick-self-inside.result; neighbours = last.neighbours; sockets = last.sockets; journal = c.record.new.journal.entries; casting = c.take_broadcast.new.broadcast; promised = c.record.new.journal.kept } in
    subst (λ (m : NodeState). (frames : List Outgoing) × CarriesOut m c.args.by event.Tick (tick_plan m) n' frames answer.Done × Adds c.args.out.now c.append-2.new.self frames) c.self.view_is (
      upkeep_frames upkeep.Tick n,
      (after, refl, refl),
      cast_behind c.args.out.now c.append.new.self c.append-2.new.self (states_all os ++ requests_by upkeep.Tick n) (numbered_all os) (deeds_frames (upkeep_deeds upkeep.Tick n) n.casting) first second,
    )

pub ask-requires : goal.ask-requires
ask-requires c =
    let n = the_view c.self.inside in
    let h = have_part n upkeep.Tick c.neighbours.result.now c.in_ok-after.after.items c.new-event.result c.part_of_all.new.event c.neighbours.ensures.value c.new-event.ensures.out c.new-event.ensures.casts c.in_ok-after.ensures.parts in
    c.as_slice.ensures.value ∙ h.after_is ∙ ap (λ (m : NodeState). after_all (parts_of upkeep.Tick m)) c.self.view_is
