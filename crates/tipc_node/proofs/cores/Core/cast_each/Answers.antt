use Rattle.std.proofs.Common.{◌≡◌, ℕ, List, Option, None, ap, refl, sym, subst, ◌∙◌, ◌-◌}
use Rattle.std.specs.Prelude.{is_some, slice_index_or}
use Rattle.tipc_ports.specs.Numbers.{PortTable}
use Rattle.tipc_sockets.specs.SocketTables.{SocketTable}
use Rattle.tipc_node.specs.contracts.cores.Core.{the_view}
use Rattle.tipc_node.specs.declared.neighbours.Neighbour.{Neighbour}
use Rattle.tipc_node.specs.CastHearings.{CastsDue, IsPreparedAt, answered_for, coming_for}
use Rattle.tipc_node.specs.Drafts.{DraftState, own_of}
use Rattle.tipc_node.specs.Nodes.{NodeState, neighbour_of}
use Rattle.tipc_node.specs.Works.{work_of}
use Rattle.tipc_node.proofs.work.Casts.{cast_heard, cast_of_node, cast_plain, cast_same, cast_there, each_done}
use Rattle.tipc_node.proofs.work.Drafting.{idle_work, start_idle}
use Rattle.tipc_node.proofs.work.Taking.{same_parts, some_place}
use Rattle.tipc_node.proofs.cores.Core.cast_each.Goals as goal

pub cast_in-requires-clause-there : goal.cast_in-requires-clause-there
cast_in-requires-clause-there c = ap (λ (n : NodeState). is_some (neighbour_of n c.args.due.now.peer)) c.self.view_is ∙ c.requires.due.6

pub cast_in-requires-clause-plain : goal.cast_in-requires-clause-plain
cast_in-requires-clause-plain c = cast_plain c.args.self.now.casting c.requires.prepared.0 c.args.due.now c.args.heard c.requires.prepared.2

pub take_back-requires : goal.take_back-requires
take_back-requires c =
    ap (λ (s : SocketTable). s.own) (c.in_ok-before.ensures ∙ c.sockets.ensures) ∙ sym (ap (λ (start : List (Option Neighbour) × ℕ). start.1) c.cast_in.ensures.start)

pub invariant_of-self : goal.invariant_of-self
invariant_of-self c =
    let i = c.self.invariant in
    let before = c.take_back.ensures.sockets ∙ c.in_ok-before.ensures ∙ c.sockets.ensures in (
      c.take_back.ensures.idle,
      i.1,
      ap (λ (s : SocketTable). s.own) before ∙ i.2,
      ap (λ (s : SocketTable). s.ports.boot) before ∙ i.3,
      i.4,
      i.5,
      i.6,
    )

pub returns-in_default-clause-err : goal.returns-in_default-clause-err
returns-in_default-clause-err c =
    let d = c.self.inside.draft in
    let back = ap (λ (start : List (Option Neighbour) × ℕ). start.0) (c.take_back.ensures.start ∙ c.cast_in.ensures.start ∙ start_idle d c.self.invariant.0.copies) in
    let last = c.take_back.new.self.work in (
      same_parts (the_view c.self.inside) c.args.self.now last.neighbours last.sockets c.cast_in.new.journal.entries c.self.inside.broadcast c.cast_in.new.journal.kept back (c.take_back.ensures.sockets ∙ c.in_ok-before.ensures ∙ c.sockets.ensures) c.cast_in.ensures.journal refl c.cast_in.ensures.kept c.self.view_is,
      refl,
    )

pub follow_cast-requires-clause-prepared : goal.follow_cast-requires-clause-prepared
follow_cast-requires-clause-prepared c =
    let d = c.args.due.now in
    let h = c.args.heard in
    (h.number, c.requires.prepared.2.arriving ∙ ap (λ (n : NodeState). coming_for n.casting d h.number) (sym c.self.view_is))

pub follow_cast-requires-clause-there : goal.follow_cast-requires-clause-there
follow_cast-requires-clause-there c =
    let w = c.self.inside in
    let d = c.args.due.now in
    let h = c.args.heard in
    let p = subst (λ (z : NodeState). IsPreparedAt z.casting (neighbour_of z d.peer) d h) (sym c.self.view_is) c.requires.prepared in
    ap (λ (xs : List (Option Neighbour)). is_some (slice_index_or xs d.peer None)) c.conclude.ensures.neighbours
    ∙ cast_there (own_of w.draft) d.peer w.draft.work p.0 h.casts h.deliveries.items c.cast_in.new.self.work w.draft.out c.cast_in.new.self.out (c.in-Ok.ensures.delivered p.0 p.1) (ap is_some p.1)

pub invariant_of-self-2 : goal.invariant_of-self-2
invariant_of-self-2 c =
    let i = c.self.invariant in
    let w = c.self.inside in
    let d = c.args.due.now in
    let h = c.args.heard in
    let p = subst (λ (z : NodeState). IsPreparedAt z.casting (neighbour_of z d.peer) d h) (sym c.self.view_is) c.requires.prepared in
    let idle = c.conclude.new.self in
    let delivered = c.in-Ok.ensures.delivered p.0 p.1 in
    let place = some_place (slice_index_or idle.work.neighbours d.peer None) (ap (λ (xs : List (Option Neighbour)). is_some (slice_index_or xs d.peer None)) c.conclude.ensures.neighbours ∙ cast_there (own_of w.draft) d.peer w.draft.work p.0 h.casts h.deliveries.items c.cast_in.new.self.work w.draft.out c.cast_in.new.self.out delivered (ap is_some p.1)) in
    let last = c.follow_cast.ensures.answered h.number place.0 p.2.arriving place.1 in
    let same = cast_same (own_of w.draft) d.peer w.draft.work p.0 h.casts h.deliveries.items c.cast_in.new.self.work w.draft.out c.cast_in.new.self.out delivered in
    let sockets : c.follow_cast.new.self.work.sockets ≡ c.cast_in.new.self.work.sockets = ap (λ (e : DraftState). e.work.sockets) last ∙ c.conclude.ensures.sockets in (
      idle_work idle c.follow_cast.new.self (answered_for w.broadcast d h.number idle.work place.0) last refl c.conclude.ensures.idle,
      i.1,
      ap (λ (s : SocketTable). s.own) sockets ∙ same.own ∙ i.2,
      ap (λ (s : SocketTable). s.ports.boot) sockets ∙ ap (λ (ports : PortTable). ports.boot) same.ports ∙ i.3,
      i.4,
      i.5,
      cast_of_node w.own.word w.boot w.mended w.broadcast d h.number c.follow_cast.new.broadcast (c.follow_cast.ensures.link h.number p.2.arriving) i.6,
    )

pub returns-clause-heard : goal.returns-clause-heard
returns-clause-heard c =
    let w = c.self.inside in
    let d = c.args.due.now in
    let h = c.args.heard in
    let by = c.args.by in
    let k = the_view w in
    let p = subst (λ (z : NodeState). IsPreparedAt z.casting (neighbour_of z d.peer) d h) (sym c.self.view_is) c.requires.prepared in
    let drafted = c.cast_in.new.self in
    let idle = c.conclude.new.self in
    let last = c.follow_cast.new.self in
    let v = c.follow_cast.new.broadcast in
    let journal = c.conclude.new.journal.entries in
    let delivered = c.in-Ok.ensures.delivered p.0 p.1 in
    let place = some_place (slice_index_or idle.work.neighbours d.peer None) (ap (λ (xs : List (Option Neighbour)). is_some (slice_index_or xs d.peer None)) c.conclude.ensures.neighbours ∙ cast_there (own_of w.draft) d.peer w.draft.work p.0 h.casts h.deliveries.items c.cast_in.new.self.work w.draft.out c.cast_in.new.self.out delivered (ap is_some p.1)) in
    let done = each_done k by d h w.draft drafted idle last v c.cast_in.new.journal.entries journal c.conclude.new.journal.kept c.args.out.now c.conclude.new.out c.follow_cast.new.out (record {
      begun_is = ap (work_of w.draft.work.neighbours w.draft.work.sockets) c.self.invariant.0.inside;
      own = c.self.invariant.2;
      empty = c.self.invariant.0.out;
      neighbour = p.0;
      was = p.1;
      prepared = p.2;
      delivered = delivered;
      left = c.conclude.ensures.frames;
      neighbours = c.conclude.ensures.neighbours;
      sockets = c.conclude.ensures.sockets;
      then = place.0;
      then_is = place.1;
      last_is = c.follow_cast.ensures.answered h.number place.0 p.2.arriving place.1;
      casting = c.follow_cast.ensures.link h.number p.2.arriving;
      kept_is = c.cast_in.ensures.journal;
      recorded = c.conclude.ensures.journal;
      used = c.conclude.ensures.kept ∙ ap (λ k. k - 1) c.cast_in.ensures.kept;
      adds = c.follow_cast.ensures.frames h.number place.0 p.2.arriving place.1;
    }) in
    subst (λ (z : NodeState). CastsDue z (record k { neighbours = last.work.neighbours; sockets = last.work.sockets; journal = journal; casting = v; promised = c.conclude.new.journal.kept }) by h.number d c.args.out.now c.follow_cast.new.out h.answer) c.self.view_is
    (cast_heard k _ by d h c.args.out.now c.follow_cast.new.out done)
