use Rattle.std.proofs.Common.{ap, take, ◌∙◌}
use Rattle.std.specs.Prelude.{fold}
use Rattle.tipc_sockets.specs.SocketTables.{SocketTable}
use Rattle.tipc_sockets.specs.Telling.{after_entry}
use Rattle.tipc_node.specs.Drafts.{DraftState}
use Rattle.tipc_node.specs.Works.{work_of}
use Rattle.tipc_node.proofs.work.Changes.{same_folded}
use Rattle.tipc_node.proofs.work.Drafting.{draft_of}
use Rattle.tipc_node.proofs.drafts.Draft.take_over.Goals as goal

pub invariant_of-self : goal.invariant_of-self
invariant_of-self c =
    let w = c.self.inside in
    let t = c.self.invariant.1 in
    let same = same_folded w.sockets (take c.args.changed c.args.inside.now) in (
      ap (λ (s : SocketTable). s.own) c.purge_ended.ensures ∙ same.own ∙ c.self.invariant.0,
      record { wide = c.requires.wide; copied = t.copied; nobody = c.requires.nobody; uncopied = t.uncopied },
    )

pub returns-clause-after : goal.returns-clause-after
returns-clause-after c =
    let w = c.self.inside in
    let xs = c.args.after.items in
    let es = take c.args.changed c.args.inside.now in
    ap (λ (s : SocketTable). draft_of xs s w.inside.items w.copies.items w.out) c.purge_ended.ensures
    ∙ ap (λ (z : DraftState). record z { work = work_of xs (fold after_entry z.work.sockets es) z.work.inside }) c.self.view_is
