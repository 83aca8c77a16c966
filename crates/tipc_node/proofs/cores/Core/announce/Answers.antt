use Rattle.std.proofs.Common.{◌≡◌, ◌++◌, ◌-◌, None, Some, refl, sym, ap, ◌∙◌, subst}
use Rattle.tipc_types.specs.declared.node_calls.Answer.TheVariants as answer
use Rattle.tipc_journal.specs.Steps.{step_entries}
use Rattle.tipc_sockets.specs.SocketTables.{SocketTable}
use Rattle.tipc_node.specs.contracts.cores.Core.{the_view}
use Rattle.tipc_node.specs.Drafts.{DraftState}
use Rattle.tipc_node.specs.Nodes.{NodeState, step_of}
use Rattle.tipc_node.specs.Plans.{names_plan}
use Rattle.tipc_node.specs.Sockets.{crowd_refusal, with_names_changed}
use Rattle.tipc_node.specs.Works.{work_of}
use Rattle.tipc_node.proofs.work.Announcing.{IsAnnounced, announced, shared_drafted}
use Rattle.tipc_node.proofs.work.Making.{node_of}
use Rattle.tipc_node.proofs.work.Planned.{refused_by}
use Rattle.tipc_node.proofs.cores.Core.announce.Goals as goal

pub returns-in-Some-clause-ok : goal.returns-in-Some-clause-ok
returns-in-Some-clause-ok c =
    let n = c.args.self.now in
    let a = c.args in
    let crowd : crowd_refusal n.neighbours a.told.now ≡ Some c.in-Some.why =
    ap (λ (z : NodeState). crowd_refusal z.neighbours a.told.now) (sym c.self.view_is) ∙ ap (λ xs. crowd_refusal xs a.told.now) (sym c.neighbours.ensures.value) ∙ sym c.crowd_refusal.ensures ∙ c.in-Some.is in
    refused_by c.refuse.result n c.refuse.new.self a.by a.note (names_plan n None (work_of n.neighbours (with_names_changed n.sockets a.change) a.inside.items) a.told.now) a.out.now c.in-Some.why crowd c.refuse.ensures.ok

pub returns-clause-ok : goal.returns-clause-ok
returns-clause-ok c =
    let k = the_view c.self.inside in
    let a = c.args in
    let told = a.told.now in
    let es = a.inside.items in
    let e = c.change_names.new.self in
    let last = c.conclude.new.self.work in
    let journal = c.conclude.new.journal.entries in
    let clear : crowd_refusal k.neighbours told ≡ None = ap (λ xs. crowd_refusal xs told) (sym c.neighbours.ensures.value) ∙ sym c.crowd_refusal.ensures ∙ c.in_default.is in
    let changed = ap (λ (z : DraftState). z.work.sockets) c.in-Ok.ensures.ok ∙ ap (λ (t : SocketTable). with_names_changed t a.change) c.share.ensures.sockets in
    subst (λ (z : NodeState). IsAnnounced z (node_of k last.neighbours last.sockets journal c.conclude.new.journal.kept) a.by a.note None (work_of z.neighbours (with_names_changed z.sockets a.change) es) told a.out.now c.conclude.new.out answer.Done) c.self.view_is
    (announced k a.by a.note (work_of k.neighbours (with_names_changed k.sockets a.change) es) es told told last.neighbours last.sockets e.work.inside journal c.conclude.new.journal.kept e.out a.out.now c.conclude.new.out clear refl refl refl
    (c.conclude.ensures.sockets ∙ changed)
    (shared_drafted k a.by a.note c.self.inside.draft c.share.new.self e es told last.neighbours journal c.conclude.new.journal.kept a.out.now c.conclude.new.out (record {
      own = c.self.invariant.2;
      same = refl;
      tells = c.in_ok-share.ensures.told;
      changed = with_names_changed c.share.new.self.work.sockets a.change;
      is = c.in-Ok.ensures.ok;
      left = c.conclude.ensures.neighbours;
      leaves = λ frames adds. c.conclude.ensures.frames frames adds;
      recorded_is = c.conclude.ensures.journal ∙ ap (λ fs. fs ++ step_entries (step_of a.by a.note e.work.inside answer.Done)) c.share.ensures.journal;
      used = c.conclude.ensures.kept ∙ ap (λ k. k - 1) c.share.ensures.kept;
    })))
