use Rattle.std.proofs.Common.{◌≡◌, ◌∙◌, List, None, Option, Some, ap, arith, filter, length, map, refl, sum_by, sym, true}
use Rattle.std.proofs.lemmas.List.{length-map}
use Rattle.tipc_types.specs.declared.message_forms.Message.{Message}
use Rattle.tipc_types.specs.declared.node_calls.Answer.{Answer}
use Rattle.tipc_types.specs.declared.node_calls.Answer.TheVariants as answer
use Rattle.tipc_types.specs.declared.node_calls.EventNote.TheVariants.{Close}
use Rattle.tipc_types.specs.declared.services.Publication.{Publication}
use Rattle.tipc_journal.specs.declared.entries.Entry.{Entry}
use Rattle.tipc_journal.specs.declared.entries.Entry.TheVariants.{Withdrawn}
use Rattle.tipc_journal.specs.Room.{counted_bytes, entry_bytes}
use Rattle.tipc_name_dist.specs.Items.{tellings}
use Rattle.tipc_sockets.specs.Publishing.{closed, is_at}
use Rattle.tipc_sockets.specs.SocketTables.{SocketTable, has_port}
use Rattle.tipc_node.specs.Nodes.{NodeState}
use Rattle.tipc_node.specs.Plans.{or_else}
use Rattle.tipc_node.specs.Sockets.{closed_work, crowd_refusal, port_refusal, told_closing}
use Rattle.tipc_node.specs.Works.{work_of}
use Rattle.tipc_node.proofs.work.Announcing.{announced_as}
use Rattle.tipc_node.proofs.work.Answering.{at_few, port_gone, port_there, withdrawals_light}
use Rattle.tipc_node.proofs.work.Planned.{performed, performs_refused}
use Rattle.tipc_node.proofs.cores.Core.close.Goals as goal

pub returns-then-not-has-clause-ok : goal.returns-then-not-has-clause-ok
returns-then-not-has-clause-ok c =
    let n = c.args.self.now in
    let a = c.args in
    let gone : port_refusal n.sockets a.port ≡ Some answer.NoSocket = ap (λ (z : NodeState). port_refusal z.sockets a.port) (sym c.self.view_is) ∙ port_gone c.self.inside.draft.work.sockets a.port (ap (λ (t : SocketTable). has_port t a.port) (sym c.sockets.ensures) ∙ sym c.has.ensures ∙ c.if-not-has.true) in
    performs_refused c.refuse.result n c.refuse.new.self a.by (Close a.port) (Close a.port) None a.out.now answer.NoSocket refl (ap (λ (o : Option Answer). or_else o (crowd_refusal n.neighbours (told_closing n.sockets a.port))) gone) refl c.refuse.ensures.ok

pub announce-requires-clause-can : goal.announce-requires-clause-can
announce-requires-clause-can c =
    ap (λ (z : NodeState). has_port z.sockets c.args.port) (sym c.self.view_is) ∙ ap (λ (t : SocketTable). has_port t c.args.port) (sym c.sockets.ensures) ∙ sym c.has.ensures ∙ c.if-not-has.false

pub announce-requires-clause-few : goal.announce-requires-clause-few
announce-requires-clause-few c =
    let few = at_few c.args.self.now.sockets c.args.port c.sound.ensures.sockets in
    let live = c.in_ok-those.ensures ∙ ap (λ (t : SocketTable). filter (is_at c.args.port) t.live) c.sockets-2.ensures ∙ ap (λ (z : NodeState). filter (is_at c.args.port) z.sockets.live) c.self.view_is in
    let those = ap (λ (ps : List Publication). length ps) (c.as_slice.ensures ∙ live) in
    let told = c.in_ok-told.ensures.few in
    let given = ap (λ (ms : List Message). length ms) c.as_slice-3.ensures.value in
    let withdrawn = ap (λ (ps : List Publication). length ps) (c.as_slice-2.ensures ∙ live) in
    let noted = ap (λ (es : List Entry). length es) c.in_ok-inside.ensures ∙ length-map c.as_slice-2.result.now Withdrawn in
    (omega (arith, few, those, told, given), omega (arith, few, withdrawn, noted))

pub announce-requires-clause-light : goal.announce-requires-clause-light
announce-requires-clause-light c =
    let few = at_few c.args.self.now.sockets c.args.port c.sound.ensures.sockets in
    let live = c.in_ok-those.ensures ∙ ap (λ (t : SocketTable). filter (is_at c.args.port) t.live) c.sockets-2.ensures ∙ ap (λ (z : NodeState). filter (is_at c.args.port) z.sockets.live) c.self.view_is in
    let those = ap (λ (ps : List Publication). length ps) (c.as_slice.ensures ∙ live) in
    let light = c.in_ok-told.ensures.light in
    let given = ap (sum_by counted_bytes) c.as_slice-3.ensures.value in
    (omega (arith, few, those, light, given), ap (sum_by entry_bytes) c.in_ok-inside.ensures ∙ withdrawals_light c.as_slice-2.result.now)

pub returns-clause-ok : goal.returns-clause-ok
returns-clause-ok c =
    let n = c.args.self.now in
    let a = c.args in
    let none : port_refusal n.sockets a.port ≡ None = ap (λ (z : NodeState). port_refusal z.sockets a.port) (sym c.self.view_is) ∙ port_there c.self.inside.draft.work.sockets a.port (ap (λ (t : SocketTable). has_port t a.port) (sym c.sockets.ensures) ∙ sym c.has.ensures ∙ c.if-not-has.false) in
    let live = c.in_ok-those.ensures ∙ ap (λ (t : SocketTable). filter (is_at a.port) t.live) c.sockets-2.ensures ∙ ap (λ (z : NodeState). filter (is_at a.port) z.sockets.live) c.self.view_is in
    performed c.announce.result n c.announce.new.self a.by (Close a.port) None a.out.now c.announce.new.out refl
    (announced_as c.announce.result n c.announce.new.self a.by (Close a.port) (port_refusal n.sockets a.port) (work_of n.neighbours (closed n.sockets a.port) c.in_ok-inside.inside.items) (closed_work n a.port)
    c.as_slice-3.result.now (told_closing n.sockets a.port) a.out.now c.announce.new.out none
    (ap (work_of n.neighbours (closed n.sockets a.port)) (c.in_ok-inside.ensures ∙ ap (map Withdrawn) (c.as_slice-2.ensures ∙ live)))
    (c.as_slice-3.ensures.value ∙ c.in_ok-told.ensures.value ∙ ap (tellings true) (c.as_slice.ensures ∙ live))
    c.announce.ensures.ok)
