use Rattle.std.proofs.Common.{◌≡◌, ap, sym, subst, ◌∙◌}
use Rattle.std.specs.Prelude.{OnOk}
use Rattle.tipc_node.specs.declared.calls.NameChange.{NameChange}
use Rattle.tipc_node.specs.Drafts.{with_sockets_in}
use Rattle.tipc_node.specs.Sockets.{CanChangeNames, with_names_changed}
use Rattle.tipc_node.proofs.drafts.Draft.change_names.Goals as goal

pub close-requires : goal.close-requires
close-requires c = subst (CanChangeNames c.args.self.now.work.sockets) c.in-Close.is c.requires

pub publish-requires : goal.publish-requires
publish-requires c = subst (CanChangeNames c.args.self.now.work.sockets) c.in-Publish.is c.requires

pub withdraw-requires-clause-there : goal.withdraw-requires-clause-there
withdraw-requires-clause-there c = (subst (CanChangeNames c.args.self.now.work.sockets) c.in-Withdraw.is c.requires).0

pub withdraw-requires-clause-live : goal.withdraw-requires-clause-live
withdraw-requires-clause-live c = (subst (CanChangeNames c.args.self.now.work.sockets) c.in-Withdraw.is c.requires).1

pub returns-in-Close-clause-ok : goal.returns-in-Close-clause-ok
returns-in-Close-clause-ok c =
    let d = c.args.self.now in
    c.close.ensures ∙ ap (λ (change : NameChange). with_sockets_in d (with_names_changed d.work.sockets change)) (sym c.in-Close.is)

pub returns-in-Publish-clause-ok : goal.returns-in-Publish-clause-ok
returns-in-Publish-clause-ok c =
    let d = c.args.self.now in
    subst (λ (change : NameChange). OnOk c.publish.result (c.publish.new.self ≡ with_sockets_in d (with_names_changed d.work.sockets change))) (sym c.in-Publish.is) c.publish.ensures.ok

pub returns-in-Withdraw-clause-ok : goal.returns-in-Withdraw-clause-ok
returns-in-Withdraw-clause-ok c =
    let d = c.args.self.now in
    c.withdraw.ensures ∙ ap (λ (change : NameChange). with_sockets_in d (with_names_changed d.work.sockets change)) (sym c.in-Withdraw.is)
