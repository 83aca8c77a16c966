use Rattle.std.proofs.Common.{◌≡◌, ◌∙◌, None, Option, Some, ap, false, refl, sym, true}
use Rattle.std.specs.Prelude.{is_some}
use Rattle.tipc_types.specs.declared.services.Publication.{Publication}
use Rattle.tipc_types.specs.declared.node_calls.Answer.{Answer}
use Rattle.tipc_types.specs.declared.node_calls.Answer.TheVariants as answer
use Rattle.tipc_types.specs.declared.node_calls.EventNote.TheVariants.{Withdraw}
use Rattle.tipc_sockets.specs.Publishing.{published_at, withdrawn}
use Rattle.tipc_sockets.specs.SocketTables.{SocketTable, has_port}
use Rattle.tipc_node.specs.Nodes.{NodeState}
use Rattle.tipc_node.specs.Plans.{or_else}
use Rattle.tipc_node.specs.Sockets.{crowd_refusal, told_withdrawal, withdrawal_refusal, withdrawn_work}
use Rattle.tipc_node.specs.Works.{work_of}
use Rattle.tipc_journal.specs.Names.{is_clusterwide}
use Rattle.tipc_node.proofs.work.Announcing.{announced_as, telling_alone}
use Rattle.tipc_node.proofs.work.Withdrawing.{withdrawn_here}
use Rattle.tipc_node.proofs.work.Answering.{withdrawal_free, withdrawal_gone, withdrawal_unknown, withdrawn_inside, withdrawn_sockets, withdrawn_told}
use Rattle.tipc_node.proofs.work.Planned.{performed, performs_refused}
use Rattle.tipc_node.proofs.cores.Core.withdraw.Goals as goal

pub returns-then-not-has-clause-ok : goal.returns-then-not-has-clause-ok
returns-then-not-has-clause-ok c =
    let n = c.args.self.now in
    let a = c.args in
    let gone : withdrawal_refusal n.sockets a.port a.key ≡ Some answer.NoSocket =
    ap (λ (z : NodeState). withdrawal_refusal z.sockets a.port a.key) (sym c.self.view_is) ∙ withdrawal_gone c.self.inside.draft.work.sockets a.port a.key (ap (λ (t : SocketTable). has_port t a.port) (sym c.sockets.ensures) ∙ sym c.has.ensures ∙ c.if-not-has.true) in
    performs_refused c.refuse_ready.result n c.refuse_ready.new.self a.by (Withdraw a.port a.key) (Withdraw a.port a.key) None a.out.now answer.NoSocket refl (ap (λ (o : Option Answer). or_else o (crowd_refusal n.neighbours (told_withdrawal n.sockets a.port a.key))) gone)
    refl c.refuse_ready.ensures.ok

pub returns-in_default-clause-ok : goal.returns-in_default-clause-ok
returns-in_default-clause-ok c =
    let n = c.args.self.now in
    let a = c.args in
    let unknown : withdrawal_refusal n.sockets a.port a.key ≡ Some answer.Unknown =
    ap (λ (z : NodeState). withdrawal_refusal z.sockets a.port a.key) (sym c.self.view_is)
    ∙ withdrawal_unknown c.self.inside.draft.work.sockets a.port a.key (ap (λ (t : SocketTable). has_port t a.port) (sym c.sockets.ensures) ∙ sym c.has.ensures ∙ c.if-not-has.false) (ap (λ (t : SocketTable). published_at t a.port a.key) (sym c.sockets-2.ensures) ∙ sym c.published_at.ensures ∙ c.in_default.is) in
    performs_refused c.refuse_ready-in_default.result n c.refuse_ready-in_default.new.self a.by (Withdraw a.port a.key) (Withdraw a.port a.key) None a.out.now answer.Unknown refl
    (ap (λ (o : Option Answer). or_else o (crowd_refusal n.neighbours (told_withdrawal n.sockets a.port a.key))) unknown) refl c.refuse_ready-in_default.ensures.ok

pub returns-then-not-is_clusterwide-clause-ok : goal.returns-then-not-is_clusterwide-clause-ok
returns-then-not-is_clusterwide-clause-ok c =
    let n = c.args.self.now in
    let a = c.args in
    let p = c.in-Some.publication in
    let there = ap (λ (z : NodeState). has_port z.sockets a.port) (sym c.self.view_is) ∙ ap (λ (t : SocketTable). has_port t a.port) (sym c.sockets.ensures) ∙ sym c.has.ensures ∙ c.if-not-has.false in
    let found = ap (λ (z : NodeState). published_at z.sockets a.port a.key) (sym c.self.view_is) ∙ ap (λ (t : SocketTable). published_at t a.port a.key) (sym c.sockets-2.ensures) ∙ sym c.published_at.ensures ∙ c.in-Some.is in
    let local : is_clusterwide p.scope ≡ false = sym c.is_clusterwide.ensures ∙ c.if-not-is_clusterwide.true in
    withdrawn_here c.withdraw_here.result n c.withdraw_here.new.self a.by a.port a.key p a.out.now c.sound.ensures.sockets there found local c.withdraw_here.ensures.ok

pub announce-requires-clause-can : goal.announce-requires-clause-can
announce-requires-clause-can c =
    let there = ap (λ (z : NodeState). has_port z.sockets c.args.port) (sym c.self.view_is) ∙ ap (λ (t : SocketTable). has_port t c.args.port) (sym c.sockets.ensures) ∙ sym c.has.ensures ∙ c.if-not-has.false in
    let found = ap (λ (z : NodeState). published_at z.sockets c.args.port c.args.key) (sym c.self.view_is) ∙ ap (λ (t : SocketTable). published_at t c.args.port c.args.key) (sym c.sockets-2.ensures) ∙ sym c.published_at.ensures ∙ c.in-Some.is in
    (there, ap (λ (o : Option Publication). is_some o) found)

pub returns-clause-ok : goal.returns-clause-ok
returns-clause-ok c =
    let n = c.args.self.now in
    let a = c.args in
    let p = c.in-Some.publication in
    let there = ap (λ (z : NodeState). has_port z.sockets a.port) (sym c.self.view_is) ∙ ap (λ (t : SocketTable). has_port t a.port) (sym c.sockets.ensures) ∙ sym c.has.ensures ∙ c.if-not-has.false in
    let found = ap (λ (z : NodeState). published_at z.sockets a.port a.key) (sym c.self.view_is) ∙ ap (λ (t : SocketTable). published_at t a.port a.key) (sym c.sockets-2.ensures) ∙ sym c.published_at.ensures ∙ c.in-Some.is in
    let changed = withdrawn n.sockets n.sockets.own a.key in
    performed c.announce.result n c.announce.new.self a.by (Withdraw a.port a.key) None a.out.now c.announce.new.out refl
    (announced_as c.announce.result n c.announce.new.self a.by (Withdraw a.port a.key) (withdrawal_refusal n.sockets a.port a.key) (work_of n.neighbours changed c.in_ok-inside.inside.items) (withdrawn_work n a.port a.key)
    c.as_slice.result.now (told_withdrawal n.sockets a.port a.key) a.out.now c.announce.new.out (withdrawal_free n.sockets a.port a.key p there found)
    (ap (work_of n.neighbours changed) (c.in_ok-inside.ensures ∙ withdrawn_inside n a.port a.key p found)
    ∙ ap (λ (t : SocketTable). work_of n.neighbours t (withdrawn_work n a.port a.key).inside) (withdrawn_sockets n a.port a.key p changed c.sound.ensures.sockets found refl))
    (c.as_slice.ensures.value ∙ c.in_ok-told.ensures.value ∙ sym (telling_alone true p) ∙ withdrawn_told n a.port a.key p found)
    c.announce.ensures.ok)
