use Rattle.std.proofs.Common.{ℕ, None, ap, length, sym, subst, ◌∙◌}
use Rattle.std.specs.Prelude.{option_map, slice_index_or}
use Rattle.tipc_types.specs.Address.{IsNodeWord}
use Rattle.tipc_types.specs.declared.identity.Addr.{Addr}
use Rattle.tipc_journal.specs.Dues.{comes_home}
use Rattle.tipc_node.specs.Messages.{destination_of}
use Rattle.tipc_node.specs.Nodes.{NodeState}
use Rattle.tipc_node.specs.Plans.{message_plan, way_refusal}
use Rattle.tipc_node.specs.Works.{addr_of_word}
use Rattle.tipc_node.proofs.work.Returning.{waiting_node}
use Rattle.tipc_node.proofs.work.Planned.{refused_as}
use Rattle.tipc_node.proofs.work.Wayfaring.{sent_away, sent_home, way_met, way_place}
use Rattle.tipc_node.proofs.cores.Core.send_to.Goals as goal

pub returns-in-Some-clause-sends : goal.returns-in-Some-clause-sends
returns-in-Some-clause-sends c =
    let n = c.args.self.now in
    refused_as n c.refuse.new.self c.args.by c.args.note (message_plan n None c.args.m c.args.limit c.args.sent) c.args.out.now c.in-Some.why c.in_ok-refused.refused
    (ap (λ (a : Addr). way_refusal n a c.args.limit) (sym c.destination-to.ensures) ∙ sym c.way_refusal.ensures ∙ c.in-Some.is) c.in_ok-refused.ensures.ok

pub returns-then-comes_home-clause-sends : goal.returns-then-comes_home-clause-sends
returns-then-comes_home-clause-sends c =
    let n = c.args.self.now in
    sent_home n c.send_home.new.self c.args.by c.args.note c.args.m c.args.limit c.args.sent c.args.out.now c.requires.kept
    (ap (λ (a : Addr). way_refusal n a c.args.limit) (sym c.destination-to.ensures) ∙ sym c.way_refusal.ensures ∙ c.in_default.is)
    (ap (λ (k : NodeState). comes_home (addr_of_word k.own) c.args.m) (sym c.self.view_is) ∙ sym c.comes_home.ensures ∙ c.if-comes_home.true) c.in_ok-send_home.ensures.sent

pub unreachable-requires : goal.unreachable-requires
unreachable-requires c =
    let n = c.args.self.now in
    let there = way_place n c.args.m c.args.limit c.requires.payload
    (ap (λ (k : NodeState). comes_home (addr_of_word k.own) c.args.m) (sym c.self.view_is) ∙ sym c.comes_home.ensures ∙ c.if-comes_home.false)
    (ap (λ (a : Addr). way_refusal n a c.args.limit) (sym c.destination-to.ensures) ∙ sym c.way_refusal.ensures ∙ c.in_default.is) in
    let wide = ap (λ (k : NodeState). length k.neighbours) (sym c.self.view_is) ∙ c.neighbours.ensures.wide in
    let nobody = ap (λ (k : NodeState). slice_index_or k.neighbours 0 None) (sym c.self.view_is) ∙ c.neighbours.ensures.nobody in
    let node = waiting_node n.neighbours (destination_of c.args.m) there.0.1 wide nobody (ap (λ o. option_map (λ (load : ℕ × ℕ). load.1) o) there.1) in
    c.in_default-number.ensures.none (subst (λ (a : Addr). IsNodeWord a.word) (sym c.destination-to.ensures) node)

pub send_away-requires-clause-contact : goal.send_away-requires-clause-contact
send_away-requires-clause-contact c =
    let n = c.args.self.now in
    way_met n c.args.m c.args.limit c.in-Some-number.peer c.requires.payload
    (ap (λ (k : NodeState). comes_home (addr_of_word k.own) c.args.m) (sym c.self.view_is) ∙ sym c.comes_home.ensures ∙ c.if-comes_home.false)
    (ap (λ (a : Addr). way_refusal n a c.args.limit) (sym c.destination-to.ensures) ∙ sym c.way_refusal.ensures ∙ c.in_default.is)
    (ap (λ (a : Addr). a.word) (sym c.destination-to.ensures) ∙ c.in-Some-number.ensures.some.2)

pub returns-clause-sends : goal.returns-clause-sends
returns-clause-sends c =
    let n = c.args.self.now in
    sent_away n c.send_away.new.self c.args.by c.args.note c.args.m c.args.limit c.in-Some-number.peer c.args.sent c.args.out.now c.send_away.new.out c.requires.kept
    (ap (λ (a : Addr). way_refusal n a c.args.limit) (sym c.destination-to.ensures) ∙ sym c.way_refusal.ensures ∙ c.in_default.is)
    (ap (λ (k : NodeState). comes_home (addr_of_word k.own) c.args.m) (sym c.self.view_is) ∙ sym c.comes_home.ensures ∙ c.if-comes_home.false)
    (ap (λ (a : Addr). a.word) (sym c.destination-to.ensures) ∙ c.in-Some-number.ensures.some.2)
    c.in_ok-send_away.ensures.sent
