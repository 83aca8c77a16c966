use Rattle.std.proofs.Common.{◌++◌, List, None, ap, refl, sym, subst, ◌∙◌, ◌-◌}
use Rattle.std.specs.Prelude.{is_some, slice_index_or}
use Rattle.tipc_types.specs.declared.node_calls.Answer.TheVariants as answer
use Rattle.tipc_types.specs.declared.node_calls.EventNote.TheVariants.{Arrive}
use Rattle.tipc_journal.specs.declared.entries.Entry.{Entry}
use Rattle.tipc_journal.specs.Room.{JournalState}
use Rattle.tipc_journal.specs.Steps.{step_entries}
use Rattle.tipc_sockets.specs.SocketTables.{SocketTable}
use Rattle.tipc_node.specs.contracts.cores.Core.{the_view}
use Rattle.tipc_node.specs.CastHearings.{CastsDue, IsPreparedAt, alone_entries, coming_for, spread_in}
use Rattle.tipc_node.specs.Drafts.{DraftState}
use Rattle.tipc_node.specs.Neighbours.{with_casts}
use Rattle.tipc_node.specs.Nodes.{NodeState, neighbour_of, step_of}
use Rattle.tipc_node.proofs.Places.{set_there}
use Rattle.tipc_node.proofs.work.Casts.{alone_done, alone_same, cast_heard, cast_of_node, idle_after}
use Rattle.tipc_node.proofs.cores.Core.cast_alone.Goals as goal

pub set_casts-requires-clause-there : goal.set_casts-requires-clause-there
set_casts-requires-clause-there c = ap (λ (n : NodeState). is_some (neighbour_of n c.args.due.now.peer)) c.self.view_is ∙ c.requires.due.6

pub follow_cast-requires-clause-prepared : goal.follow_cast-requires-clause-prepared
follow_cast-requires-clause-prepared c =
    let d = c.args.due.now in
    let h = c.args.heard in
    (h.number, c.requires.prepared.2.arriving ∙ ap (λ (n : NodeState). coming_for n.casting d h.number) (sym c.self.view_is))

pub follow_cast-requires-clause-there : goal.follow_cast-requires-clause-there
follow_cast-requires-clause-there c =
    let d = c.args.due.now in
    let h = c.args.heard in
    let k = the_view c.self.inside in
    let p = subst (λ (z : NodeState). IsPreparedAt z.casting (neighbour_of z d.peer) d h) (sym c.self.view_is) c.requires.prepared in
    ap (λ (e : DraftState). is_some (slice_index_or e.work.neighbours d.peer None)) (c.set_casts.ensures p.0 p.1)
    ∙ ap is_some (set_there k.neighbours d.peer p.0 (with_casts p.0 h.casts) p.1)

pub spread_told-requires : goal.spread_told-requires
spread_told-requires c =
    let d = c.args.due.now in
    let h = c.args.heard in
    let k = the_view c.self.inside in
    let p = subst (λ (z : NodeState). IsPreparedAt z.casting (neighbour_of z d.peer) d h) (sym c.self.view_is) c.requires.prepared in
    let y = with_casts p.0 h.casts in
    let set = c.set_casts.ensures p.0 p.1 in
    let there = ap (λ (e : DraftState). slice_index_or e.work.neighbours d.peer None) set ∙ set_there k.neighbours d.peer p.0 y p.1 in
    let last = c.follow_cast.ensures.answered h.number y p.2.arriving there in
    let sockets = ap (λ (e : DraftState). e.work.sockets) last ∙ ap (λ (e : DraftState). e.work.sockets) set in
    (h.deliveries.items, c.in_ok-entries.ensures.spreading ∙ ap (λ (s : SocketTable). spread_in s h.deliveries.items) (c.sockets.ensures ∙ sym sockets))

pub invariant_of-self-2 : goal.invariant_of-self-2
invariant_of-self-2 c =
    let i = c.self.invariant in
    let w = c.self.inside in
    let d = c.args.due.now in
    let h = c.args.heard in
    let k = the_view w in
    let p = subst (λ (z : NodeState). IsPreparedAt z.casting (neighbour_of z d.peer) d h) (sym c.self.view_is) c.requires.prepared in
    let y = with_casts p.0 h.casts in
    let set = c.set_casts.ensures p.0 p.1 in
    let there = ap (λ (e : DraftState). slice_index_or e.work.neighbours d.peer None) set ∙ set_there k.neighbours d.peer p.0 y p.1 in
    let last = c.follow_cast.ensures.answered h.number y p.2.arriving there in
    let told = c.in_ok-entries.ensures.spreading ∙ ap (λ (s : SocketTable). spread_in s h.deliveries.items) (c.sockets.ensures ∙ sym (ap (λ (e : DraftState). e.work.sockets) last ∙ ap (λ (e : DraftState). e.work.sockets) set)) in
    let after = c.spread_told.ensures h.deliveries.items told in
    let same = alone_same k.casting d h p.0 w.draft c.set_casts.new.self c.follow_cast.new.self c.spread_told.new.self set last after in (
      idle_after k.casting d h p.0 w.draft c.set_casts.new.self c.follow_cast.new.self c.spread_told.new.self set last after i.0,
      i.1,
      same.own ∙ i.2,
      ap (λ ports. ports.boot) same.ports ∙ i.3,
      i.4,
      i.5,
      cast_of_node w.own.word w.boot w.mended w.broadcast d h.number c.follow_cast.new.broadcast (c.follow_cast.ensures.link h.number p.2.arriving) i.6,
    )

pub returns-clause-heard : goal.returns-clause-heard
returns-clause-heard c =
    let w = c.self.inside in
    let d = c.args.due.now in
    let h = c.args.heard in
    let by = c.args.by in
    let ds = h.deliveries.items in
    let k = the_view w in
    let p = subst (λ (z : NodeState). IsPreparedAt z.casting (neighbour_of z d.peer) d h) (sym c.self.view_is) c.requires.prepared in
    let y = with_casts p.0 h.casts in
    let set = c.set_casts.ensures p.0 p.1 in
    let there = ap (λ (e : DraftState). slice_index_or e.work.neighbours d.peer None) set ∙ set_there k.neighbours d.peer p.0 y p.1 in
    let last = c.follow_cast.ensures.answered h.number y p.2.arriving there in
    let told = c.in_ok-entries.ensures.spreading ∙ ap (λ (s : SocketTable). spread_in s ds) (c.sockets.ensures ∙ sym (ap (λ (e : DraftState). e.work.sockets) last ∙ ap (λ (e : DraftState). e.work.sockets) set)) in
    let journal = c.record.new.journal.entries in
    let done = alone_done k by d h w.draft c.set_casts.new.self c.follow_cast.new.self c.spread_told.new.self c.follow_cast.new.broadcast journal c.record.new.journal.kept c.args.out.now c.follow_cast.new.out (record {
      neighbours = refl;
      sockets = refl;
      neighbour = p.0;
      was = p.1;
      prepared = p.2;
      alone = c.requires.alone;
      set_is = set;
      last_is = last;
      told_is = c.spread_told.ensures ds told;
      casting = c.follow_cast.ensures.link h.number p.2.arriving;
      entries = c.in_ok-entries.field-0.entries.items;
      entries_are = c.in_ok-entries.ensures.entries ∙ ap (λ (s : SocketTable). alone_entries s ds) c.sockets.ensures;
      used = c.record.ensures.kept ∙ ap (λ (j : JournalState). j.kept - 1) c.in_ok-reserve.ensures.ok;
      recorded = c.record.ensures.journal ∙ ap (λ (es : List Entry). es ++ step_entries (step_of by (Arrive d.bearer h.number) c.in_ok-entries.field-0.entries.items (answer.Arrived h.answer))) (ap (λ (j : JournalState). j.entries) c.in_ok-reserve.ensures.ok);
      adds = c.follow_cast.ensures.frames h.number y p.2.arriving there;
    }) in
    subst (λ (z : NodeState). CastsDue z (record k { neighbours = c.spread_told.new.self.work.neighbours; sockets = c.spread_told.new.self.work.sockets; journal = journal; casting = c.follow_cast.new.broadcast; promised = c.record.new.journal.kept }) by h.number d c.args.out.now c.follow_cast.new.out h.answer) c.self.view_is
    (cast_heard k _ by d h c.args.out.now c.follow_cast.new.out done)
