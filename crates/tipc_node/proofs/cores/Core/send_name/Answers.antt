use Rattle.std.proofs.Common.{ℕ, List, filter, length, slice_index_or, ap, sym, ◌∙◌, rules, arith}
use Rattle.std.specs.Prelude.{slice_get, unwrap_or}
use Rattle.std.proofs.lemmas.Option.{slice_get-get_or}
use Rattle.tipc_types.specs.declared.node_calls.Answer.TheVariants.{SentTo}
use Rattle.tipc_types.specs.declared.services.Publication.{Publication}
use Rattle.tipc_types.specs.Matching.{closest, covers}
use Rattle.tipc_sockets.specs.SocketTables.{SocketTable}
use Rattle.tipc_node.specs.contracts.cores.Core.{the_view}
use Rattle.tipc_node.specs.Messages.{named}
use Rattle.tipc_node.specs.Nodes.{NodeState}
use Rattle.tipc_node.specs.Sockets.{found_at}
use Rattle.tipc_node.proofs.work.Posted.{found_is, name_answered, name_refused_by, name_unfound_by, nothing, picked_at, refused_unpicked, something}
use Rattle.tipc_node.proofs.cores.Core.send_name.Goals as goal

-- what the sockets find
abbrev found_in : ℕ → ℕ → SocketTable → List Publication
found_in kind instance t = closest t.own (filter (covers kind instance) t.names)

pub returns-in-Some-clause-ok : goal.returns-in-Some-clause-ok
returns-in-Some-clause-ok g c =
    name_refused_by c.refuse.result c.args.self.now c.refuse.new.self c.args.by c.args.port c.args.kind c.args.instance c.args.importance c.args.body c.args.out.now c.in-Some.why _ (sym c.sender_refusal.ensures ∙ c.in-Some.is) c.name_note-note.ensures c.refuse.ensures.ok

pub returns-in-Some-clause-picked : goal.returns-in-Some-clause-picked
returns-in-Some-clause-picked g c =
    refused_unpicked (g.P.Pick.gives c.args.chooser.now.pick) c.refuse.result c.args.self.now c.args.port c.args.body (found_at c.args.self.now c.args.kind c.args.instance) c.in-Some.why _ (sym c.sender_refusal.ensures ∙ c.in-Some.is)
    c.refuse.ensures.ok c.args.chooser.now.turn

pub returns-then-is_empty-clause-ok : goal.returns-then-is_empty-clause-ok
returns-then-is_empty-clause-ok g c =
    let is = found_is c.args.self.now (the_view c.self.inside) c.args.kind c.args.instance c.in_ok-found.found c.self.view_is c.self.invariant.2 (c.in_ok-found.ensures.found ∙ ap (found_in c.args.kind c.args.instance) c.sockets.ensures) in
    name_unfound_by c.refuse-then-is_empty.result c.args.self.now c.refuse-then-is_empty.new.self c.args.by c.args.port c.args.kind c.args.instance c.args.importance c.args.body c.args.out.now _ (sym c.sender_refusal.ensures ∙ c.in_default.is)
    (sym is ∙ nothing c.in_ok-found.found (sym c.is_empty.ensures ∙ c.if-is_empty.true)) c.name_note-note-then-is_empty.ensures c.refuse-then-is_empty.ensures.ok

pub choose-requires : goal.choose-requires
choose-requires g c =
    let some = something c.in_ok-found.found (sym c.is_empty.ensures ∙ c.if-is_empty.false) in
    let few = c.in_ok-found.ensures.few in
    let long = c.len.ensures in
    (omega (arith, some, long), omega (arith, few, long))

pub returns-in-Some-refused-clause-ok : goal.returns-in-Some-refused-clause-ok
returns-in-Some-refused-clause-ok g c =
    let n = c.args.self.now in
    let k = c.choose.result in
    let d = c.index-as_slice-choose.result in
    let ps = c.as_slice.result.now in
    let is = c.as_slice.ensures ∙ found_is n (the_view c.self.inside) c.args.kind c.args.instance c.in_ok-found.found c.self.view_is c.self.invariant.2 (c.in_ok-found.ensures.found ∙ ap (found_in c.args.kind c.args.instance) c.sockets.ensures) in
    let p = slice_index_or ps k d in
    let there = ap (λ (qs : List Publication). slice_get qs k) (sym is) ∙ slice_get-get_or ps k d (search rules) in
    name_answered n c.send_to.new.self c.args.by c.args.port c.args.kind c.args.instance c.args.importance c.args.body c.args.out.now c.send_to.new.out k p _ _ _ c.in_ok-refused.refused c.in-Some-refused.why (sym c.sender_refusal.ensures ∙ c.in_default.is) there
    (search rules) (c.named-m.ensures.value ∙ ap (λ (z : NodeState). named z.own c.args.port p.at c.args.kind c.args.instance c.args.importance c.args.body) c.self.view_is) c.limit-most.ensures c.in_ok-refused.ensures.sends
    (ap (λ w. unwrap_or w (SentTo p.at)) c.in-Some-refused.is)

pub returns-clause-ok : goal.returns-clause-ok
returns-clause-ok g c =
    let n = c.args.self.now in
    let k = c.choose.result in
    let d = c.index-as_slice-choose.result in
    let ps = c.as_slice.result.now in
    let is = c.as_slice.ensures ∙ found_is n (the_view c.self.inside) c.args.kind c.args.instance c.in_ok-found.found c.self.view_is c.self.invariant.2 (c.in_ok-found.ensures.found ∙ ap (found_in c.args.kind c.args.instance) c.sockets.ensures) in
    let p = slice_index_or ps k d in
    let there = ap (λ (qs : List Publication). slice_get qs k) (sym is) ∙ slice_get-get_or ps k d (search rules) in
    name_answered n c.send_to.new.self c.args.by c.args.port c.args.kind c.args.instance c.args.importance c.args.body c.args.out.now c.send_to.new.out k p _ _ _ c.in_ok-refused.refused (SentTo p.at) (sym c.sender_refusal.ensures ∙ c.in_default.is) there
    (search rules) (c.named-m.ensures.value ∙ ap (λ (z : NodeState). named z.own c.args.port p.at c.args.kind c.args.instance c.args.importance c.args.body) c.self.view_is) c.limit-most.ensures c.in_ok-refused.ensures.sends
    (ap (λ w. unwrap_or w (SentTo p.at)) c.in_default-refused.is)

pub returns-clause-picked : goal.returns-clause-picked
returns-clause-picked g c =
    let n = c.args.self.now in
    let k = c.choose.result in
    let d = c.index-as_slice-choose.result in
    let ps = c.as_slice.result.now in
    let found = found_is n (the_view c.self.inside) c.args.kind c.args.instance c.in_ok-found.found c.self.view_is c.self.invariant.2 (c.in_ok-found.ensures.found ∙ ap (found_in c.args.kind c.args.instance) c.sockets.ensures) in
    let is = c.as_slice.ensures ∙ found in
    let there = ap (λ (qs : List Publication). slice_get qs k) (sym is) ∙ slice_get-get_or ps k d (search rules) in
    picked_at (g.P.Pick.gives c.args.chooser.now.pick) c.args.chooser.now.turn c.len.result k (found_at n c.args.kind c.args.instance) (slice_index_or ps k d) c.choose.ensures.gives (c.len.ensures ∙ ap length found) there
