use Rattle.std.proofs.Common.{◌-◌, ◌≡◌, ◌<◌, ◌≤◌, length, length-set, ap, refl, ◌∙◌, sym, subst, arith}
use Rattle.std.specs.Prelude.{List, None, Some, is_some, slice_set}
use Rattle.std.proofs.lemmas.List.{get_or-set_other}
use Rattle.tipc_header.specs.Spelling.{view}
use Rattle.tipc_types.specs.Address.{node_word}
use Rattle.tipc_broadcast.specs.Casting.{shown}
use Rattle.tipc_pair.specs.declared.transitions.Transition.{Transition}
use Rattle.tipc_pair.specs.Facing.{in_contact}
use Rattle.tipc_node.specs.Casting.{CanBeTold, IsOfNode, state_deeds, stated_in}
use Rattle.tipc_node.specs.Neighbours.{answered_neighbour}
use Rattle.tipc_node.specs.Turns.{HaveJoined}
use Rattle.tipc_node.proofs.work.Casting.{deeds_of_node, joined_there, states_bear}
use Rattle.tipc_journal.specs.Room.{JournalState}
use Rattle.tipc_ports.specs.Numbers.{PortTable}
use Rattle.tipc_node.specs.contracts.cores.Core.{the_view}
use Rattle.tipc_node.specs.declared.cores.Core.TheInside.{Inside}
use Rattle.tipc_node.specs.declared.packets.HeardPacket.{HeardPacket}
use Rattle.tipc_node.specs.Arrivals.{IsDue, with_answer}
use Rattle.tipc_node.specs.Drafts.{IsIdle}
use Rattle.tipc_node.specs.Hearings.{IsPrepared}
use Rattle.tipc_node.specs.Nodes.{NodeState, is_met, message_count, neighbour_of}
use Rattle.tipc_node.specs.Sure.{all_wait, messages_in, told_in}
use Rattle.tipc_node.specs.Works.{begun, work_of}
use Rattle.tipc_node.proofs.work.Drafting.{core_of, draft_of}
use Rattle.tipc_node.proofs.work.Heard.{journal_heard}
use Rattle.tipc_node.proofs.work.Hearings.{prepared_there, taken_heard, told_there}
use Rattle.tipc_node.proofs.work.Surely.{each_sure}
use Rattle.tipc_node.proofs.work.Taking.{answered_last, same_put, taken_all}
use Rattle.tipc_node.proofs.work.Wayfaring.{read_at as place_is}
use Rattle.tipc_node.proofs.cores.Core.take_all.Goals as goal

pub take-requires : goal.take-requires
take-requires c =
    let g = c.self-inside.inside.0 in
    let dd = g.1.1.1.0 in
    let n = core_of g.0.word g.1.0 g.1.1.0 g.1.1.1.1.1.0 g.1.1.1.1.1.1.0 g.1.1.1.1.1.1.1.0 (draft_of dd.neighbours.items dd.sockets dd.inside.items dd.copies.items dd.out) g.1.1.1.1.0.entries g.1.1.1.1.0.kept in
    let whole = ap (λ (k : Inside). the_view k) c.self-inside.view_is ∙ c.self.view_is in
    let d = c.args.due.now in
    let h = c.args.heard in
    let wide = c.self-inside.invariant.1.wide in
    let peer = c.requires.due in
    let within : d.peer < length n.neighbours = omega (arith, wide, peer) in
    let was = place_is n.neighbours d.peer c.index_mut.result.now c.in-Some-index_mut.neighbour within c.index_mut.ensures.value c.in-Some-index_mut.is in
    let prepared = subst (λ (k : NodeState). IsPrepared (neighbour_of k d.peer) d h) (sym whole) c.requires.heard in
    (d.first, d.second, h.number, told_there (neighbour_of n d.peer) c.in-Some-index_mut.neighbour d h was prepared)

pub conclude_waiting-requires-clause-sure : goal.conclude_waiting-requires-clause-sure
conclude_waiting-requires-clause-sure c =
    let ds = c.args.heard.deliveries.items in
    let s = c.self-inside.inside.0.1.1.1.0.sockets in
    let whole = ap (λ (k : Inside). the_view k) c.self-inside.view_is ∙ c.self.view_is in
    let sure = ap (λ (n : NodeState). all_wait n.sockets (message_count ds) ds) whole ∙ c.requires.sure in
    each_sure s ds sure

pub conclude_waiting-requires-clause-few : goal.conclude_waiting-requires-clause-few
conclude_waiting-requires-clause-few c =
    let size = c.in-Some.ensures.size ∙ ap (λ ds. length (told_in ds)) c.as_slice.ensures.value in
    let few = c.in-Some.ensures.few in
    omega (arith, size, few)

pub conclude_waiting-requires-clause-spare : goal.conclude_waiting-requires-clause-spare
conclude_waiting-requires-clause-spare c =
    let size = c.in-Some.ensures.size ∙ ap (λ ds. length (told_in ds)) c.as_slice.ensures.value in
    let spare = ap (λ (j : JournalState). j.spare) c.in_ok-reserve.ensures.ok in
    omega (arith, size, spare)

pub invariant_of-self-inside-2 : goal.invariant_of-self-inside-2
invariant_of-self-inside-2 c =
    let dd = c.self-inside.inside.0.1.1.1.0 in
    let e = c.self-inside.invariant in
    let t = e.1 in
    let d = c.args.due.now in
    let peer = c.requires.due in
    let same = same_put dd.sockets c.conclude_waiting.new.sockets (messages_in c.args.heard.deliveries.items) c.conclude_waiting.ensures.sockets in (
      same.0 ∙ e.0,
      record {
        wide = length-set dd.neighbours.items d.peer (Some c.answer.new.self) ∙ t.wide;
        copied = t.copied;
        nobody = get_or-set_other dd.neighbours.items d.peer 0 (Some c.answer.new.self) None (λ none. (let wrong : ⊥ = omega (arith, none, peer) in wrong)) ∙ t.nobody;
        uncopied = t.uncopied;
      },
    )

pub invariant_of-self-2 : goal.invariant_of-self-2
invariant_of-self-2 c =
    let i = subst (λ (k : Inside). IsIdle k.draft × (1 ≤ k.boot) × (k.draft.work.sockets.own ≡ k.own.word) × (k.draft.work.sockets.ports.boot ≡ k.boot) × (k.found.own ≡ k.own.word) × (k.ticks < 8) × IsOfNode k.own.word k.boot k.mended k.broadcast) (sym c.self-inside.view_is) c.self.invariant in
    let g = c.self-inside.inside.0 in
    let d = c.args.due.now in
    let same = same_put c.self-inside.inside.0.1.1.1.0.sockets c.conclude_waiting.new.sockets (messages_in c.args.heard.deliveries.items) c.conclude_waiting.ensures.sockets in (
      record { inside = i.0.inside; copies = i.0.copies; out = i.0.out },
      i.1,
      same.0 ∙ i.2,
      ap (λ (ports : PortTable). ports.boot) same.1 ∙ i.3,
      i.4,
      i.5,
      subst (IsOfNode g.0.word g.1.0 g.1.1.0) (sym c.take_state-asks.ensures.after) (deeds_of_node g.0.word g.1.0 g.1.1.0 (state_deeds d.peer c.args.heard.stated) g.1.1.1.1.1.1.1.0 (states_bear d.peer c.args.heard.stated) i.6),
    )

pub returns-clause-heard : goal.returns-clause-heard
returns-clause-heard c = λ bytes due.
    let g = c.self-inside.inside.0 in
    let dd = g.1.1.1.0 in
    let n = core_of g.0.word g.1.0 g.1.1.0 g.1.1.1.1.1.0 g.1.1.1.1.1.1.0 g.1.1.1.1.1.1.1.0 (draft_of dd.neighbours.items dd.sockets dd.inside.items dd.copies.items dd.out) g.1.1.1.1.0.entries g.1.1.1.1.0.kept in
    let whole = ap (λ (k : Inside). the_view k) c.self-inside.view_is ∙ c.self.view_is in
    let d = c.args.due.now in
    let h = c.args.heard in
    let ds = h.deliveries.items in
    let x = c.in-Some-index_mut.neighbour in
    let y = c.take.new.self in
    let z = c.answer.new.self in
    let wide = c.self-inside.invariant.1.wide in
    let peer = c.requires.due in
    let within : d.peer < length n.neighbours = omega (arith, wide, peer) in
    let was = place_is n.neighbours d.peer c.index_mut.result.now x within c.index_mut.ensures.value c.in-Some-index_mut.is in
    let due_here = subst (λ (k : NodeState). IsDue k bytes d.bearer d.peer d.first d.second (view d.packet)) (sym whole) due in
    let prepared = subst (λ (k : NodeState). IsPrepared (neighbour_of k d.peer) d h) (sym whole) c.requires.heard in
    let sure = ap (λ (k : NodeState). all_wait k.sockets (message_count ds) ds) whole ∙ c.requires.sure in
    let told = told_there (neighbour_of n d.peer) x d h was prepared in
    let given : HeardPacket = record { changes = c.take.result; stated = h.stated; deliveries = h.deliveries; answer = h.answer } in
    let took = c.take.ensures in
    let heard = taken_heard x d h y given c.args.out.now c.take.new.out (prepared_there (neighbour_of n d.peer) x d h was prepared) (took.takes d.first d.second h.number told) refl refl refl took.once in
    let inside = told_in ds in
    let sockets = c.conclude_waiting.new.sockets in
    let v = c.take_state-asks.new.broadcast in
    let shows = c.requires.shown ∙ ap (λ (k : NodeState). shown k.casting (node_word d.peer)) (sym whole) in
    let shown_is = c.shown-shown.ensures ∙ ap (shown v) c.node.ensures in
    let last = answered_last (begun n) (with_answer (begun n) d.peer d.bearer c.take_state-asks.result c.shown-shown.result y) d.peer d.bearer h.stated v c.take_state-asks.result c.shown-shown.result y c.take_state-asks.new.out c.answer.new.out c.take_state-asks.ensures.asks shown_is (refl, c.answer.ensures.frames) in
    journal_heard n c.args.self.now v c.args.by bytes d.bearer h.number h.answer (work_of (slice_set n.neighbours d.peer (Some z)) sockets inside) c.conclude_waiting.new.journal.entries c.reserve.new.self.entries c.conclude_waiting.new.journal.kept c.args.out.now c.answer.new.out
    (taken_all n v c.args.by bytes x y z d h given inside (messages_in c.args.heard.deliveries.items) sockets c.args.out.now c.take.new.out c.take_state-asks.new.out c.answer.new.out due_here was within prepared shows heard (took.changes ∙ c.requires.still) refl refl
    (record {
      cast = record { after = c.take_state-asks.ensures.after; adds = c.take_state-asks.ensures.frames };
      answered = c.answer.ensures.after ∙ (λ i. answered_neighbour d.bearer (c.take_state-asks.ensures.asks i) (shown_is i) y);
      state = last.1;
    })
    (record { inside_is = refl; messages_are = refl; sockets_are = c.conclude_waiting.ensures.sockets; sure = sure }))
    c.conclude_waiting.ensures.journal (ap (λ (j : JournalState). j.entries) c.in_ok-reserve.ensures.ok)
    (c.conclude_waiting.ensures.kept ∙ ap (λ (j : JournalState). j.kept - 1) c.in_ok-reserve.ensures.ok) whole

-- a STATE is taken in a contact that stays, so that the peer has joined
pub take_state-asks-requires-clause-joined : goal.take_state-asks-requires-clause-joined
take_state-asks-requires-clause-joined c = λ some.
    let g = c.self-inside.inside.0 in
    let dd = g.1.1.1.0 in
    let n = core_of g.0.word g.1.0 g.1.1.0 g.1.1.1.1.1.0 g.1.1.1.1.1.1.0 g.1.1.1.1.1.1.1.0 (draft_of dd.neighbours.items dd.sockets dd.inside.items dd.copies.items dd.out) g.1.1.1.1.0.entries g.1.1.1.1.0.kept in
    let whole = ap (λ (k : Inside). the_view k) c.self-inside.view_is ∙ c.self.view_is in
    let d = c.args.due.now in
    let h = c.args.heard in
    let wide = c.self-inside.invariant.1.wide in
    let peer = c.requires.due in
    let within : d.peer < length n.neighbours = omega (arith, wide, peer) in
    let was = place_is n.neighbours d.peer c.index_mut.result.now c.in-Some-index_mut.neighbour within c.index_mut.ensures.value c.in-Some-index_mut.is in
    let prepared = subst (λ (k : NodeState). IsPrepared (neighbour_of k d.peer) d h) (sym whole) c.requires.heard in
    let took = c.take.ensures in
    let told = subst (λ (cs : List Transition). CanBeTold (in_contact c.in-Some-index_mut.neighbour.pair) cs (stated_in d.packet.header h.arriving.outcome)) (took.changes ∙ c.requires.still) took.told in
    joined_there n d.peer (subst HaveJoined (sym whole) c.requires.joined) ∙ ap is_met was ∙ told.state (ap is_some (sym prepared.stated) ∙ some)
