use Rattle.std.proofs.Common.{◌-◌, ◌∙◌, ◌++◌, [], List, None, ap, append-nil, arith, fold, length, refl, slice_index_or, subst, sym, take}
use Rattle.std.specs.List.{list_all}
use Rattle.tipc_types.specs.declared.node_calls.Answer.TheVariants as answer
use Rattle.tipc_types.specs.declared.node_calls.EventNote.{EventNote}
use Rattle.tipc_outside.specs.declared.outgoing.Outgoing.{Outgoing}
use Rattle.tipc_outside.specs.Frames.{Adds, AddsFirst, made_behind, no_frames}
use Rattle.tipc_broadcast.specs.Deeds.{deeds_frames}
use Rattle.tipc_journal.specs.declared.entries.Entry.{Entry}
use Rattle.tipc_journal.specs.Steps.{step_entries}
use Rattle.tipc_ports.specs.Numbers.{PortTable}
use Rattle.tipc_sockets.specs.Telling.{after_entry}
use Rattle.tipc_node.specs.contracts.cores.Core.{the_view}
use Rattle.tipc_node.specs.Calls.{upkeep_plan}
use Rattle.tipc_node.specs.Discovery.{requests_by, upkeep_frames}
use Rattle.tipc_node.specs.Drafts.{DraftState}
use Rattle.tipc_node.specs.Nodes.{NodeState, after_all, is_change, numbered_all, parts_of, states_all, step_of, upkeep_deeds, upkeep_note}
use Rattle.tipc_node.specs.Plans.{CarriesOut}
use Rattle.tipc_node.specs.Turns.{HaveJoined}
use Rattle.tipc_node.specs.Works.{work_of}
use Rattle.tipc_node.proofs.work.Casting.{upkeep_of_node}
use Rattle.tipc_node.proofs.work.Changes.{all_changes, same_folded}
use Rattle.tipc_node.proofs.work.Drafting.{idle_work}
use Rattle.tipc_node.proofs.turns.Parts.{asked_made, cast_behind, have_part, joined_all, parts_nobody, parts_wide}
use Rattle.tipc_node.proofs.journal.Ticking.{front_of, takes_from}
use Rattle.tipc_node.proofs.cores.Core.take_part.Goals as goal

pub part_of_all-requires-clause-joined : goal.part_of_all-requires-clause-joined
part_of_all-requires-clause-joined c = joined_all (the_view c.self.inside) c.neighbours.result.now c.neighbours.ensures.value (subst HaveJoined (sym c.self.view_is) c.requires.joined)

pub take_over-requires-clause-wide : goal.take_over-requires-clause-wide
take_over-requires-clause-wide c =
    let n = the_view c.self.inside in
    let d = c.args.upkeep in
    let h = have_part n d c.neighbours.result.now c.in_ok-after.after.items c.new-event.result c.part_of_all.new.event c.neighbours.ensures.value c.new-event.ensures.out c.new-event.ensures.casts c.in_ok-after.ensures.parts in
    ap length h.after_is ∙ parts_wide n d ∙ c.neighbours.ensures.wide

pub take_over-requires-clause-nobody : goal.take_over-requires-clause-nobody
take_over-requires-clause-nobody c =
    let n = the_view c.self.inside in
    let d = c.args.upkeep in
    let h = have_part n d c.neighbours.result.now c.in_ok-after.after.items c.new-event.result c.part_of_all.new.event c.neighbours.ensures.value c.new-event.ensures.out c.new-event.ensures.casts c.in_ok-after.ensures.parts in
    ap (λ xs. slice_index_or xs 0 None) h.after_is ∙ parts_nobody n d c.neighbours.ensures.nobody

pub take_over-requires-clause-within : goal.take_over-requires-clause-within
take_over-requires-clause-within c =
    let counted = c.len-changed.ensures ∙ c.part_of_all.new.event.inside.ok.0 in
    let given = ap (λ (es : List Entry). length es) c.as_slice-2.ensures.value in
    omega (arith, counted, given)

pub take_over-requires-clause-changes : goal.take_over-requires-clause-changes
take_over-requires-clause-changes c =
    let told = c.part_of_all.new.event.inside.items in
    let n = the_view c.self.inside in
    let d = c.args.upkeep in
    let h = have_part n d c.neighbours.result.now c.in_ok-after.after.items c.new-event.result c.part_of_all.new.event c.neighbours.ensures.value c.new-event.ensures.out c.new-event.ensures.casts c.in_ok-after.ensures.parts in
    ap (λ es. list_all is_change es) (front_of told [] c.as_slice-2.result.now c.len-changed.result (c.as_slice-2.ensures.value ∙ sym (append-nil told)) (c.len-changed.ensures ∙ c.part_of_all.new.event.inside.ok.0))
    ∙ ap (λ es. list_all is_change es) h.entries ∙ all_changes 0 (parts_of d n)

pub invariant_of-self-2 : goal.invariant_of-self-2
invariant_of-self-2 c =
    let i = c.self.invariant in
    let d = c.self.inside.draft in
    let n = the_view c.self.inside in
    let set = c.in_ok-take_over.ensures.after in
    let es = take c.len-changed.result c.as_slice-2.result.now in
    let same = same_folded d.work.sockets es in
    let h = have_part n c.args.upkeep c.neighbours.result.now c.in_ok-after.after.items c.new-event.result c.part_of_all.new.event c.neighbours.ensures.value c.new-event.ensures.out c.new-event.ensures.casts c.in_ok-after.ensures.parts in (
      idle_work d c.take_over.new.self (work_of c.in_ok-after.after.items (fold after_entry d.work.sockets es) d.work.inside) set refl i.0,
      i.1,
      ap (λ (z : DraftState). z.work.sockets.own) set ∙ same.own ∙ i.2,
      ap (λ (z : DraftState). z.work.sockets.ports.boot) set ∙ ap (λ (p : PortTable). p.boot) same.ports ∙ i.3,
      i.4,
      i.5,
      upkeep_of_node n c.args.upkeep c.take_broadcast.new.broadcast c.mended_by-self-inside.result c.requires.upkeep i.6 (c.take_broadcast.ensures ∙ h.casting) c.mended_by-self-inside.ensures,
    )

pub returns-clause-ok : goal.returns-clause-ok
returns-clause-ok c =
    let w = c.self.inside in
    let d = c.args.upkeep in
    let n = the_view w in
    let last = c.take_over.new.self.work in
    let set = c.in_ok-take_over.ensures.after in
    let told = c.part_of_all.new.event.inside.items in
    let h = have_part n d c.neighbours.result.now c.in_ok-after.after.items c.new-event.result c.part_of_all.new.event c.neighbours.ensures.value c.new-event.ensures.out c.new-event.ensures.casts c.in_ok-after.ensures.parts in
    let os = parts_of d n in
    let front = front_of told [] c.as_slice-2.result.now c.len-changed.result (c.as_slice-2.ensures.value ∙ sym (append-nil told)) (c.len-changed.ensures ∙ c.part_of_all.new.event.inside.ok.0) in
    let sockets = ap (λ (z : DraftState). z.work.sockets) set ∙ ap (λ (es : List Entry). fold after_entry n.sockets es) (front ∙ h.entries) in
    let recorded_is =
    c.record.ensures.journal
    ∙ ap (λ (es : List Entry). es ++ step_entries (step_of c.args.by c.upkeep_note.result told answer.Done)) c.take_over.ensures.journal
    ∙ ap (λ (e : EventNote). w.journal.entries ++ step_entries (step_of c.args.by e told answer.Done)) c.upkeep_note.ensures
    ∙ ap (λ (es : List Entry). w.journal.entries ++ step_entries (step_of c.args.by (upkeep_note d) es answer.Done)) h.entries in
    let requests = subst (λ (m : NodeState). AddsFirst c.part_of_all.new.event.out c.ask.new.event (requests_by d m)) (sym c.self.view_is) c.ask.ensures in
    let whole = asked_made os (requests_by d n) no_frames c.part_of_all.new.event.out c.ask.new.event h.frames requests in
    let first = c.append.ensures (record { first = states_all os ++ requests_by d n; behind = numbered_all os }) whole in
    let second = c.append-2.ensures (made_behind (deeds_frames (upkeep_deeds d n) n.casting)) h.casts in
    let after = takes_from n c.args.by d c.mended_by-self-inside.result c.take_broadcast.new.broadcast last.neighbours last.sockets c.record.new.journal.entries c.record.new.journal.kept c.mended_by-self-inside.ensures (c.take_broadcast.ensures ∙ h.casting)
    (ap (λ (z : DraftState). z.work.neighbours) set ∙ h.after_is) sockets recorded_is (c.record.ensures.kept ∙ ap (λ k. k - 1) c.take_over.ensures.kept) in
    let n' : NodeState = record n { mended = c.mended_by-self-inside.result; neighbours = last.neighbours; sockets = last.sockets; journal = c.record.new.journal.entries; casting = c.take_broadcast.new.broadcast; promised = c.record.new.journal.kept } in
    subst (λ (m : NodeState). (frames : List Outgoing) × CarriesOut m c.args.by (upkeep_note d) (upkeep_plan m d) n' frames answer.Done × Adds c.args.out.now c.append-2.new.self frames) c.self.view_is (
      upkeep_frames d n,
      (after, refl, refl),
      cast_behind c.args.out.now c.append.new.self c.append-2.new.self (states_all os ++ requests_by d n) (numbered_all os) (deeds_frames (upkeep_deeds d n) n.casting) first second,
    )

pub ask-requires : goal.ask-requires
ask-requires c =
    let n = the_view c.self.inside in
    let d = c.args.upkeep in
    let h = have_part n d c.neighbours.result.now c.in_ok-after.after.items c.new-event.result c.part_of_all.new.event c.neighbours.ensures.value c.new-event.ensures.out c.new-event.ensures.casts c.in_ok-after.ensures.parts in
    c.as_slice.ensures.value ∙ h.after_is ∙ ap (λ (m : NodeState). after_all (parts_of d m)) c.self.view_is
