use Rattle.std.proofs.Common.{sym, subst, ap, ◌∙◌}
use Rattle.std.specs.List.{All}
use Rattle.tipc_message.specs.Wire.{IsCarried}
use Rattle.tipc_name_dist.specs.Items.{IsBulk}
use Rattle.tipc_sockets.specs.SocketTables.{SocketTable}
use Rattle.tipc_node.specs.Drafts.{PutEach, own_of}
use Rattle.tipc_node.specs.Sockets.{with_sockets_of}
use Rattle.tipc_node.proofs.work.Greeting.{bulk_carried}
use Rattle.tipc_node.proofs.work.Returning.{on_ok}
use Rattle.tipc_node.proofs.drafts.Draft.tell_live.Goals as goal

pub put_each-requires-clause-carried : goal.put_each-requires-clause-carried
put_each-requires-clause-carried c = subst (All IsCarried) (sym c.as_slice.ensures.value) (bulk_carried c.live.result.now c.in_ok-messages.messages.items c.in_ok-messages.ensures)

pub returns-clause-told : goal.returns-clause-told
returns-clause-told c =
    let d = c.args.self.now in
    let last = c.put_each.new.self in
    let ms = c.in_ok-messages.messages.items in
    let live = c.live.ensures.live ∙ ap (λ (t : SocketTable). t.live) c.sockets.ensures in
    on_ok c.put_each.result (λ puts. (
      ms,
      subst (λ ps. IsBulk ps ms) live c.in_ok-messages.ensures,
      subst (λ (t : SocketTable). PutEach (own_of d) d.work c.args.peer ms (with_sockets_of last.work t) d.out last.out) (sym c.put_each.ensures.sockets)
          (subst (λ ns. PutEach (own_of d) d.work c.args.peer ns (with_sockets_of last.work d.work.sockets) d.out last.out) c.as_slice.ensures.value (puts d.work.sockets)),
    )) c.put_each.ensures.puts
