use Rattle.std.proofs.Common.{◌-◌, ◌≡◌, ℕ, List, Option, None, ap, sym, subst, refl, ◌∙◌}
use Rattle.std.specs.Prelude.{is_some, slice_index_or}
use Rattle.tipc_types.specs.Address.{node_word}
use Rattle.tipc_header.specs.Spelling.{view}
use Rattle.tipc_outside.specs.Frames.{Adds}
use Rattle.tipc_broadcast.specs.Casting.{shown}
use Rattle.tipc_ports.specs.Numbers.{PortTable}
use Rattle.tipc_sockets.specs.SocketTables.{SocketTable}
use Rattle.tipc_node.specs.contracts.cores.Core.{the_view}
use Rattle.tipc_node.specs.declared.neighbours.Neighbour.{Neighbour}
use Rattle.tipc_node.specs.Arrivals.{IsDue}
use Rattle.tipc_node.specs.Casting.{IsOfNode}
use Rattle.tipc_node.specs.Drafts.{own_of}
use Rattle.tipc_node.specs.Hearings.{Worked}
use Rattle.tipc_node.specs.Nodes.{NodeState, end_with, neighbour_of}
use Rattle.tipc_node.specs.Turns.{HaveJoined}
use Rattle.tipc_node.specs.Works.{Work, work_of}
use Rattle.tipc_node.proofs.work.Casting.{joined_there}
use Rattle.tipc_node.proofs.work.Drafting.{start_idle}
use Rattle.tipc_node.proofs.work.Heard.{heard_worked, journal_heard}
use Rattle.tipc_node.proofs.work.Stops.{end_known}
use Rattle.tipc_node.proofs.work.Taking.{put_back_same, same_parts, some_place, worked_of_node, worked_same}
use Rattle.tipc_node.proofs.cores.Core.hear_each.Goals as goal

pub hear_in-requires-clause-shown : goal.hear_in-requires-clause-shown
hear_in-requires-clause-shown c = c.requires.shown ∙ ap (λ (n : NodeState). shown n.casting (node_word c.args.due.now.peer)) (sym c.self.view_is)

pub hear_in-requires-clause-joined : goal.hear_in-requires-clause-joined
hear_in-requires-clause-joined c = joined_there (the_view c.self.inside) c.args.due.now.peer (subst HaveJoined (sym c.self.view_is) c.requires.joined)

pub take_back-requires : goal.take_back-requires
take_back-requires c =
    ap (λ (s : SocketTable). s.own) (c.in_ok-before.ensures ∙ c.sockets.ensures) ∙ sym (ap (λ (start : List (Option Neighbour) × ℕ). start.1) c.hear_in.ensures.start)

pub invariant_of-self : goal.invariant_of-self
invariant_of-self c =
    let i = c.self.invariant in
    let v = c.self.inside.broadcast in
    let before = c.take_back.ensures.sockets ∙ c.in_ok-before.ensures ∙ c.sockets.ensures in
    let kept = c.in_ok-kept.ensures in
    let back = put_back_same _ _ c.args.self.now.casting c.hear_in.new.broadcast c.put_back.new.broadcast c.in_ok-kept.kept c.put_back.ensures kept.some kept.none
    (λ same none. c.hear_in.ensures.still same none ∙ ap (λ (n : NodeState). n.casting) c.self.view_is) in (
      c.take_back.ensures.idle,
      i.1,
      ap (λ (s : SocketTable). s.own) before ∙ i.2,
      ap (λ (s : SocketTable). s.ports.boot) before ∙ i.3,
      i.4,
      i.5,
      subst (IsOfNode c.self.inside.own.word c.self.inside.boot c.self.inside.mended) (sym (back ∙ sym (ap (λ (n : NodeState). n.casting) c.self.view_is))) i.6,
    )

pub returns-in_default-clause-err : goal.returns-in_default-clause-err
returns-in_default-clause-err c =
    let d = c.self.inside.draft in
    let back = ap (λ (start : List (Option Neighbour) × ℕ). start.0) (c.take_back.ensures.start ∙ c.hear_in.ensures.start ∙ start_idle d c.self.invariant.0.copies) in
    let last = c.take_back.new.self.work in
    let kept = c.in_ok-kept.ensures in
    let casting = put_back_same _ _ c.args.self.now.casting c.hear_in.new.broadcast c.put_back.new.broadcast c.in_ok-kept.kept c.put_back.ensures kept.some kept.none
    (λ same none. c.hear_in.ensures.still same none ∙ ap (λ (n : NodeState). n.casting) c.self.view_is) in (
      same_parts (the_view c.self.inside) c.args.self.now last.neighbours last.sockets c.hear_in.new.journal.entries c.put_back.new.broadcast c.hear_in.new.journal.kept back (c.take_back.ensures.sockets ∙ c.in_ok-before.ensures ∙ c.sockets.ensures) c.hear_in.ensures.journal
          (casting ∙ sym (ap (λ (n : NodeState). n.casting) c.self.view_is)) c.hear_in.ensures.kept c.self.view_is,
      refl,
    )

pub invariant_of-self-2 : goal.invariant_of-self-2
invariant_of-self-2 c =
    let i = c.self.invariant in
    let w = c.self.inside in
    let a = c.args.due.now in
    let d = w.draft in
    let x = some_place (slice_index_or d.work.neighbours a.peer None) (end_known a.bearer _ (ap (λ (n : NodeState). is_some (end_with a.bearer (neighbour_of n a.peer))) c.self.view_is ∙ c.requires.due.4)) in
    let worked = c.in-Ok.ensures.worked x.0 x.1 in
    let same = worked_same (own_of d) w.broadcast c.hear_in.new.broadcast d.work.neighbours d.work.sockets x.0 a c.args.heard.number c.in-Ok.answer _ _ _ worked in
    let sockets = c.conclude.ensures.sockets in (
      c.conclude.ensures.idle,
      i.1,
      ap (λ (s : SocketTable). s.own) sockets ∙ same.own ∙ i.2,
      ap (λ (s : SocketTable). s.ports.boot) sockets ∙ ap (λ (ports : PortTable). ports.boot) same.ports ∙ i.3,
      i.4,
      i.5,
      worked_of_node (own_of d) w.broadcast c.hear_in.new.broadcast d.work.neighbours d.work.sockets x.0 a c.args.heard.number c.in-Ok.answer _ _ _ w.own.word w.boot w.mended worked i.6,
    )

pub returns-clause-heard : goal.returns-clause-heard
returns-clause-heard c = λ bytes due.
    let n = the_view c.self.inside in
    let d = c.args.due.now in
    let number = c.args.heard.number in
    let drafted = c.hear_in.new.self in
    let v = c.hear_in.new.broadcast in
    let last = c.conclude.new.self.work in
    let due_here = subst (λ (k : NodeState). IsDue k bytes d.bearer d.peer d.first d.second (view d.packet)) (sym c.self.view_is) due in
    let x = some_place (neighbour_of n d.peer) (end_known d.bearer (neighbour_of n d.peer) due_here.there) in
    let w = work_of last.neighbours last.sockets drafted.work.inside in
    let box = c.self.inside.draft.out in
    let worked = subst (λ word. Worked word n.casting v n.neighbours n.sockets x.0 d number c.in-Ok.answer drafted.work box drafted.out) c.self.invariant.2 (c.in-Ok.ensures.worked x.0 x.1) in
    let same : drafted.work ≡ w = (λ i. work_of (sym c.conclude.ensures.neighbours i) (sym c.conclude.ensures.sockets i) drafted.work.inside) in
    let heard = heard_worked n v c.args.by bytes x.0 d number c.in-Ok.answer w box drafted.out due_here x.1 (subst (λ (u : Work). Worked n.own n.casting v n.neighbours n.sockets x.0 d number c.in-Ok.answer u box drafted.out) same worked) in
    let left = c.conclude.ensures.frames heard.0 (subst (λ b. Adds b drafted.out heard.0) c.self.invariant.0.out heard.2) in
    journal_heard n c.args.self.now v c.args.by bytes d.bearer number c.in-Ok.answer w c.conclude.new.journal.entries c.hear_in.new.journal.entries c.conclude.new.journal.kept c.args.out.now c.conclude.new.out (heard.0, heard.1, left)
    c.conclude.ensures.journal c.hear_in.ensures.journal (c.conclude.ensures.kept ∙ ap (λ k. k - 1) c.hear_in.ensures.kept) c.self.view_is
