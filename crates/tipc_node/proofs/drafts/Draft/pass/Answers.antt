use Rattle.std.proofs.Common.{ap, ◌∙◌}
use Rattle.std.specs.Prelude.{fold}
use Rattle.tipc_sockets.specs.SocketTables.{SocketTable, with_watchers}
use Rattle.tipc_topology.specs.Changing.{due, ended_at, passed}
use Rattle.tipc_node.specs.Drafts.{DraftState, with_sockets_in}
use Rattle.tipc_node.proofs.work.Drafting.{draft_of}
use Rattle.tipc_node.proofs.drafts.Draft.pass.Goals as goal

pub invariant_of-self : goal.invariant_of-self
invariant_of-self c = (ap (λ (s : SocketTable). s.own) c.pass.ensures.parts ∙ c.self.invariant.0, c.self.invariant.1)

pub returns : goal.returns
returns c =
    let w = c.self.inside in
    let after : SocketTable → SocketTable = λ s. with_watchers s (passed (fold (λ t number. ended_at number t) s.watchers (due s.watchers.kept))) in
    ap (λ (s : SocketTable). draft_of w.neighbours.items s w.inside.items w.copies.items w.out) c.pass.ensures.parts ∙ ap (λ (z : DraftState). with_sockets_in z (after z.work.sockets)) c.self.view_is
