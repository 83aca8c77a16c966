use Rattle.std.proofs.Common.{◌++◌, ◌<◌, Some, None, length, length-set, ap, sym, subst, ◌∙◌, arith}
use Rattle.std.specs.Prelude.{List, Option, fold, slice_index_or, slice_set}
use Rattle.std.specs.List.{list_all}
use Rattle.std.proofs.lemmas.List.{get_or-set_other}
use Rattle.tipc_journal.specs.declared.entries.Entry.{Entry}
use Rattle.tipc_sockets.specs.Telling.{after_entry}
use Rattle.tipc_node.specs.declared.neighbours.Neighbour.{Neighbour}
use Rattle.tipc_node.specs.Drafts.{DraftState, restored}
use Rattle.tipc_node.specs.Hearings.{HeardThere, IsPrepared}
use Rattle.tipc_node.specs.Casting.{CanBeTold}
use Rattle.tipc_node.specs.Nodes.{change_entries, is_change, is_met}
use Rattle.tipc_node.specs.Works.{work_of}
use Rattle.tipc_sockets.specs.SocketTables.{SocketTable}
use Rattle.tipc_node.proofs.work.Changes.{same_folded}
use Rattle.tipc_node.proofs.work.Drafting.{start_changed, start_kept}
use Rattle.tipc_node.proofs.work.Greeting.{contact_placed}
use Rattle.tipc_node.proofs.work.Hearings.{prepared_there, same_neighbour}
use Rattle.tipc_node.proofs.work.Taking.{heard_plain, told_changes, told_work}
use Rattle.tipc_node.proofs.work.Wayfaring.{read_at as place_is}
use Rattle.tipc_node.proofs.drafts.Draft.hear_there.Goals as goal

pub hear-given-requires : goal.hear-given-requires
hear-given-requires c =
    let xs = c.self.inside.neighbours.items in
    let d = c.args.due.now in
    let wide = c.self.invariant.1.wide in
    let peer = c.requires.peer in
    let within : d.peer < length xs = omega (arith, wide, peer) in
    let here = place_is xs d.peer c.index_mut.result.now c.in-Some.neighbour within c.index_mut.ensures.value c.in-Some.is in
    prepared_there (slice_index_or xs d.peer None) c.in-Some.neighbour d c.args.heard here (subst (λ (z : DraftState). IsPrepared (slice_index_or z.work.neighbours d.peer None) d c.args.heard) (sym c.self.view_is) c.requires.prepared)

pub purge_ended-requires : goal.purge_ended-requires
purge_ended-requires c =
    ap (λ (es : List Entry). list_all is_change es) c.as_slice-3.ensures.value
    ∙ told_changes c.args.due.now.peer c.hear-given.result.changes c.self.inside.inside.items c.reserve.new.self.items c.note_changes.new.inside.items (ap (λ (z : DraftState). z.work.inside) c.self.view_is ∙ c.requires.empty) c.in_ok-reserve.ensures.items (c.note_changes.ensures.entries ∙ ap (λ cs. c.reserve.new.self.items ++ change_entries c.args.due.now.peer cs) c.as_slice-2.ensures)

pub invariant_of-self-2 : goal.invariant_of-self-2
invariant_of-self-2 c =
    let w = c.self.inside in
    let t = c.self.invariant.1 in
    let peer = c.args.due.now.peer in
    let some = c.requires.peer in
    let same = same_folded w.sockets c.as_slice-3.result.now in (
      ap (λ (s : SocketTable). s.own) c.purge_ended.ensures ∙ same.own ∙ c.self.invariant.0,
      record {
        wide = length-set w.neighbours.items peer (Some c.hear-given.new.self) ∙ t.wide;
        copied = c.keep.ensures.wide ∙ t.copied;
        nobody = get_or-set_other w.neighbours.items peer 0 (Some c.hear-given.new.self) None (λ e. (let wrong : ⊥ = omega (arith, e, some) in wrong)) ∙ t.nobody;
        uncopied = c.keep.ensures.first ∙ t.uncopied;
      },
    )

pub returns-clause-heard : goal.returns-clause-heard
returns-clause-heard c = λ x was.
    let xs = c.self.inside.neighbours.items in
    let s = c.self.inside.sockets in
    let d = c.args.due.now in
    let wide = c.self.invariant.1.wide in
    let peer = c.requires.peer in
    let within : d.peer < length xs = omega (arith, wide, peer) in
    let y = c.in-Some.neighbour in
    let z = c.hear-given.new.self in
    let given = c.hear-given.result in
    let here = place_is xs d.peer c.index_mut.result.now y within c.index_mut.ensures.value c.in-Some.is in
    let was_here = ap (λ (k : DraftState). slice_index_or k.work.neighbours d.peer None) c.self.view_is ∙ was in
    let inside = c.note_changes.new.inside.items in
    let last = work_of (slice_set xs d.peer (Some z)) c.purge_ended.new.sockets inside in
    subst (λ (k : DraftState). HeardThere k.work.neighbours k.work.sockets x d c.args.heard.number c.args.heard.shown given last k.out c.hear-given.new.out) c.self.view_is
    (subst (λ (k : Neighbour). HeardThere xs s k d c.args.heard.number c.args.heard.shown given last c.self.inside.out c.hear-given.new.out) (same_neighbour y x (sym here ∙ was_here)) (record {
      after = z;
      heard = c.hear-given.ensures.heard;
      work = told_work xs s c.purge_ended.new.sockets d.peer z given.changes c.self.inside.inside.items c.reserve.new.self.items inside (record {
        none = ap (λ (k : DraftState). k.work.inside) c.self.view_is ∙ c.requires.empty;
        still = c.in_ok-reserve.ensures.items;
        told = c.note_changes.ensures.entries ∙ ap (λ cs. c.reserve.new.self.items ++ change_entries d.peer cs) c.as_slice-2.ensures;
        purged = c.purge_ended.ensures ∙ ap (λ (es : List Entry). fold after_entry s es) c.as_slice-3.ensures.value;
      });
    }))

pub returns-clause-contact : goal.returns-clause-contact
returns-clause-contact c =
    let xs = c.self.inside.neighbours.items in
    let d = c.args.due.now in
    let wide = c.self.invariant.1.wide in
    let peer = c.requires.peer in
    let within : d.peer < length xs = omega (arith, wide, peer) in
    contact_placed xs d.peer c.hear-given.new.self c.hear-given.result.changes within c.hear-given.ensures.contact

pub returns-clause-plain : goal.returns-clause-plain
returns-clause-plain c =
    heard_plain c.in-Some.neighbour c.args.due.now c.args.heard.number c.args.heard.shown c.hear-given.new.self c.hear-given.result c.self.inside.out c.hear-given.new.out c.hear-given.ensures.heard

pub returns-clause-start : goal.returns-clause-start
returns-clause-start c =
    let w = c.self.inside in
    let same = same_folded w.sockets c.as_slice-3.result.now in
    let own = ap (λ (s : SocketTable). s.own) c.purge_ended.ensures ∙ same.own in
    ap (λ word. (restored c.keep.new.copies.items (slice_set w.neighbours.items c.args.due.now.peer (Some c.hear-given.new.self)), word)) own
    ∙ start_changed c.args.self.now w.neighbours.items c.as_slice.result.now w.copies.items c.keep.new.copies.items w.sockets w.inside.items w.inside.items w.out w.out c.args.due.now.peer (Some c.hear-given.new.self)
    c.self.view_is c.as_slice.ensures.value c.in_ok-keep.ensures.kept c.keep.ensures.same

pub returns-in_err-keep-clause-start : goal.returns-in_err-keep-clause-start
returns-in_err-keep-clause-start c =
    let w = c.self.inside in
    start_kept c.args.self.now w.neighbours.items c.as_slice.result.now w.copies.items c.keep.new.copies.items w.sockets w.inside.items w.inside.items w.out w.out c.self.view_is c.as_slice.ensures.value c.keep.ensures.same

pub returns-in_err-reserve-clause-start : goal.returns-in_err-reserve-clause-start
returns-in_err-reserve-clause-start c =
    let w = c.self.inside in
    start_kept c.args.self.now w.neighbours.items c.as_slice.result.now w.copies.items c.keep.new.copies.items w.sockets w.inside.items c.reserve.new.self.items w.out w.out c.self.view_is c.as_slice.ensures.value c.keep.ensures.same

pub returns-clause-told : goal.returns-clause-told
returns-clause-told c =
    let xs = c.self.inside.neighbours.items in
    let d = c.args.due.now in
    let wide = c.self.invariant.1.wide in
    let peer = c.requires.peer in
    let within : d.peer < length xs = omega (arith, wide, peer) in
    let here = place_is xs d.peer c.index_mut.result.now c.in-Some.neighbour within c.index_mut.ensures.value c.in-Some.is in
    subst (λ (z : DraftState). CanBeTold (is_met (slice_index_or z.work.neighbours d.peer None)) c.hear-given.result.changes c.hear-given.result.stated) c.self.view_is
    (subst (λ (o : Option Neighbour). CanBeTold (is_met o) c.hear-given.result.changes c.hear-given.result.stated) (sym here) c.hear-given.ensures.told)
