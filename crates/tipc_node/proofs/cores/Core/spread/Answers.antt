use Rattle.std.proofs.Common.{◌∷◌, ◌++◌, ℕ, List, false, ap, sym, ◌∙◌, length, arith, subst, sum_by, ◌-◌}
use Rattle.tipc_types.specs.declared.node_calls.Answer.TheVariants as answer
use Rattle.tipc_journal.specs.declared.entries.Entry.{Entry}
use Rattle.tipc_journal.specs.declared.entries.Entry.TheVariants as entry
use Rattle.tipc_journal.specs.Room.{JournalState, entry_bytes}
use Rattle.tipc_journal.specs.Steps.{step_entries}
use Rattle.tipc_sockets.specs.Fates.{Spread, spread_of}
use Rattle.tipc_sockets.specs.SocketTables.{SocketTable}
use Rattle.tipc_node.specs.contracts.cores.Core.{the_view}
use Rattle.tipc_node.specs.Casting.{IsOfNode}
use Rattle.tipc_node.specs.Drafts.{DraftState}
use Rattle.tipc_node.specs.Nodes.{NodeState, step_of}
use Rattle.tipc_node.specs.Multicasts.{entries_where, multicast_deeds}
use Rattle.tipc_node.proofs.work.Casting.{deeds_of_node}
use Rattle.tipc_node.proofs.work.Multicasts.{drafted_idle, leaves_all, spread_done, told_size}
use Rattle.tipc_node.proofs.cores.Core.spread.Goals as goal

pub record-requires-clause-spare : goal.record-requires-clause-spare
record-requires-clause-spare c =
    let size = told_size c.args.goes_out c.args.self.now.neighbours c.args.m c.ports.result.now c.requires.small in
    let few = size.0 in
    let long = ap (λ (es : List Entry). length es) c.in_ok-inside.ensures in
    let kept = ap (λ (j : JournalState). j.spare) c.in_ok-reserve.ensures.ok in
    omega (arith, few, long, kept)

pub record-requires-clause-few : goal.record-requires-clause-few
record-requires-clause-few c =
    let size = told_size c.args.goes_out c.args.self.now.neighbours c.args.m c.ports.result.now c.requires.small in
    let few = size.0 in
    let long = ap (λ (es : List Entry). length es) c.in_ok-inside.ensures in
    omega (arith, few, long)

pub record-requires-clause-bytes : goal.record-requires-clause-bytes
record-requires-clause-bytes c =
    let size = told_size c.args.goes_out c.args.self.now.neighbours c.args.m c.ports.result.now c.requires.small in
    let light = size.1 in
    let heavy = ap (λ (es : List Entry). sum_by entry_bytes es) c.in_ok-inside.ensures in
    omega (arith, light, heavy)

pub invariant_of-self-2 : goal.invariant_of-self-2
invariant_of-self-2 c =
    let i = c.self.invariant in
    let s = c.self.inside.draft.work.sockets in
    let told = c.in_ok-spreading.ensures ∙ ap (λ (t : SocketTable). spread_of t false c.args.m) c.sockets.ensures in
    let k = drafted_idle c.self.inside.draft c.spread.new.self c.args.m c.in_ok-spreading.spreading.ports (c.spread.ensures false c.args.m told) i.0 in (
      k.0,
      i.1,
      k.1 ∙ i.2,
      k.2 ∙ i.3,
      i.4,
      i.5,
      subst (IsOfNode c.self.inside.own.word c.self.inside.boot c.self.inside.mended) (sym c.in_ok-cast.ensures.after) (deeds_of_node c.self.inside.own.word c.self.inside.boot c.self.inside.mended (multicast_deeds c.args.goes_out c.self.inside.own.word c.args.m) c.self.inside.broadcast (leaves_all c.args.goes_out c.self.inside.own.word c.args.m) i.6),
    )

pub returns-clause-ok : goal.returns-clause-ok
returns-clause-ok c =
    let a = c.args in
    let n = a.self.now in
    let k = the_view c.self.inside in
    let d = c.self.inside.draft in
    let ports = c.in_ok-spreading.spreading.ports in
    let told = c.in_ok-spreading.ensures ∙ ap (λ (t : SocketTable). spread_of t false a.m) c.sockets.ensures in
    let drafted = c.spread.ensures false a.m told in
    spread_done n k a.by a.note a.m a.goes_out c.spread.new.self.work.neighbours c.spread.new.self.work.sockets c.cast.new.broadcast c.record.new.journal.entries c.record.new.journal.kept a.out.now c.cast.new.out c.self.view_is
    (ap (λ (e : DraftState). e.work.neighbours) drafted)
    (record {
      many = c.requires.many;
      ports = ports;
      hear = ap (λ (x : Spread). x.ports) told;
      told = c.in_ok-inside.inside.items;
      told_is = c.in_ok-inside.ensures ∙ ap (λ (ps : List ℕ). entry.Queued ps ∷ entries_where a.goes_out n.neighbours a.m) c.ports.ensures ∙ ap (λ (z : NodeState). entry.Queued ports ∷ entries_where a.goes_out z.neighbours a.m) (sym c.self.view_is);
      sockets = ap (λ (e : DraftState). e.work.sockets) drafted;
      casting = c.in_ok-cast.ensures.after;
      used = c.record.ensures.kept ∙ ap (λ (j : JournalState). j.kept - 1) c.in_ok-reserve.ensures.ok;
      recorded = c.record.ensures.journal ∙ ap (λ (es : List Entry). es ++ step_entries (step_of a.by a.note c.in_ok-inside.inside.items answer.Sent)) (ap (λ (j : JournalState). j.entries) c.in_ok-reserve.ensures.ok);
      adds = c.in_ok-cast.ensures.frames;
      sendable = λ goes. c.in_ok-cast.ensures.sendable goes;
    })
