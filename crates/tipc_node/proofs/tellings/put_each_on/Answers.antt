use Rattle.std.proofs.Common.{◌≡◌, subst, rules}
use Rattle.tipc_types.specs.declared.message_forms.Message.{Message}
use Rattle.tipc_node.specs.Works.{PutsOn}
use Rattle.tipc_node.proofs.work.Tellings.{putting_first, putting_next}
use Rattle.tipc_node.proofs.tellings.put_each_on.Goals as goal

pub loop-m-init : goal.loop-m-init
loop-m-init c = putting_first c.args.own.word c.args.peer c.args.messages.now c.args.neighbour.now c.args.inside.now.items c.args.out.now c.requires.contact

pub loop-m-preserved : goal.loop-m-preserved
loop-m-preserved c =
    let own = c.args.own.word in
    let now = c.loop-m.neighbour in
    let next = c.put_on.new.neighbour in
    let inside = c.loop-m.inside.items in
    let inside' = c.put_on.new.inside.items in
    let same : c.in_ok-clone.field-0 ≡ c.m-item.result = search rules in
    let put = subst (λ (m : Message). PutsOn own now next c.args.peer m inside inside' c.loop-m.out c.put_on.new.out) same c.in_ok-put_on.ensures.put in
    putting_next own c.args.peer c.args.messages.now c.args.neighbour.now now next c.args.inside.now.items inside inside' c.args.out.now c.loop-m.out c.put_on.new.out c.loop-m.m-index c.m-item.result c.loop-m.invariant c.loop-m-test.true c.m-item.is put
