use Rattle.std.proofs.Common.{◌≡◌, ◌<◌, true, ℕ, List, length, sym, ap, subst, ◌∙◌}
use Rattle.std.specs.Prelude.{replicate, All}
use Rattle.std.specs.List.{AllPairs}
use Rattle.std.specs.Map.{keys_of}
use Rattle.std.proofs.lemmas.List.{length-replicate}
use Rattle.tipc_types.specs.declared.message_forms.Message.{Message}
use Rattle.tipc_sockets.specs.Fates.{hearers_of, may_wait, Spread}
use Rattle.tipc_sockets.specs.SocketTables.{queue_at, queued_at_each, with_queues, AreSockets, SocketTable}
use Rattle.tipc_sockets.proofs.Hearers.{hearers_have_room, hearers_rise}
use Rattle.tipc_sockets.proofs.Keeping.{keys-queued_at_each, other_queues}
use Rattle.tipc_sockets.proofs.sockets.Sockets.spread.Goals as goal

pub put_each-requires-clause-rising : goal.put_each-requires-clause-rising
put_each-requires-clause-rising c =
    let told = c.requires in
    let h = subst (λ (t : SocketTable). AreSockets t) c.self.view_is c.self.invariant.1 in
    let same = c.as_slice.ensures ∙ ap (λ (x : Spread). x.ports) (c.spreading.view_is ∙ told.2) in
    subst (λ (ps : List ℕ). AllPairs (λ port later. port < later) ps) (sym same) (hearers_rise c.args.self.now told.0 told.1 h)

pub put_each-requires-clause-room : goal.put_each-requires-clause-room
put_each-requires-clause-room c =
    let told = c.requires in
    let same = c.as_slice.ensures ∙ ap (λ (x : Spread). x.ports) (c.spreading.view_is ∙ told.2) in
    let all = subst (λ (ps : List ℕ). All (λ port. may_wait (queue_at c.args.self.now port) ≡ true) ps) (sym same) (hearers_have_room c.args.self.now told.0 told.1) in
    subst (λ (t : SocketTable). All (λ port. may_wait (queue_at t port) ≡ true) c.as_slice.result.now) (sym c.self.view_is) all

pub put_each-requires-clause-count : goal.put_each-requires-clause-count
put_each-requires-clause-count c =
    let told = c.requires in
    let view = c.spreading.view_is ∙ told.2 in
    let many = hearers_of c.args.self.now told.0 told.1 in
    ap (λ (x : Spread). length x.copies) view ∙ length-replicate (length many) told.1 ∙ sym (ap (λ (ps : List ℕ). length ps) (c.as_slice.ensures ∙ ap (λ (x : Spread). x.ports) view))

pub invariant_of-self : goal.invariant_of-self
invariant_of-self c =
    let told = c.requires in
    let view = c.spreading.view_is ∙ told.2 in
    let ports = c.as_slice.ensures ∙ ap (λ (x : Spread). x.ports) view in
    let copies = ap (λ (x : Spread). x.copies) view ∙ ap (λ (ps : List ℕ). replicate (length ps) told.1) (sym ports) in
    let queues = c.self.inside.queues.entries in
    let same = ap (λ (qs : List (ℕ × List Message)). keys_of qs) (c.put_each.ensures told.1 copies) ∙ keys-queued_at_each told.1 queues c.as_slice.result.now in
    (c.self.invariant.0, other_queues _ c.put_each.new.queues.entries c.self.invariant.1 same, c.self.invariant.2)

pub returns-clause-after : goal.returns-clause-after
returns-clause-after c = λ arrived m is.
    let w = c.self.inside in
    let table : SocketTable = record { own = w.own.word; names = w.names; live = w.live.items; ports = w.ports; queues = w.queues.entries; watchers = w.topology } in
    let view = c.spreading.view_is ∙ is in
    let ports = c.as_slice.ensures ∙ ap (λ (x : Spread). x.ports) view in
    let shown = c.as_slice.ensures ∙ ap (λ (x : Spread). x.ports) c.spreading.view_is in
    let copies = ap (λ (x : Spread). x.copies) view ∙ ap (λ (ps : List ℕ). replicate (length ps) m) (sym ports) in
    let entries = c.put_each.ensures m copies ∙ ap (λ (ps : List ℕ). queued_at_each m w.queues.entries ps) shown in
    ap (λ (qs : List (ℕ × List Message)). with_queues table qs) entries ∙ ap (λ (t : SocketTable). with_queues t (queued_at_each m t.queues c.args.spreading.ports)) c.self.view_is
