use Rattle.std.specs.Prelude.{false, Some}
use Rattle.std.proofs.Common.{◌≡◌, ◌≤◌, sym, subst, ◌∙◌, ap}
use Rattle.std.proofs.lemmas.Option.{slice_get-get_or}
use Rattle.tipc_replay.specs.States.{has_member}
use Rattle.tipc_replay.specs.Steps.{IsReplayJoined}
use Rattle.tipc_live.proofs.Apart.{boot_of, cluster_at}
use Rattle.tipc_live.proofs.Joining.{all_joined, joined_next, nobody_yet, none_joined}
use Rattle.tipc_live.proofs.nodes.add_nodes.Goals as goal

pub loop-locked-init : goal.loop-locked-init
loop-locked-init g c = none_joined g.P.Pick.gives c.args.nodes.now c.args.replay.now c.requires.empty

pub locked_number-requires : goal.locked_number-requires
locked_number-requires g c =
    let n = c.locked-item.result in
    let there = slice_get-get_or c.args.nodes.now c.loop-locked.locked-index n c.loop-locked-test.true ∙ ap Some (sym c.locked-item.is) in
    cluster_at c.args.nodes.now c.loop-locked.locked-index n c.requires.can there

pub add_node-requires-clause-boot : goal.add_node-requires-clause-boot
add_node-requires-clause-boot g c =
    let n = c.locked-item.result in
    let there = slice_get-get_or c.args.nodes.now c.loop-locked.locked-index n c.loop-locked-test.true ∙ ap Some (sym c.locked-item.is) in
    subst (λ b. 1 ≤ b) (sym (c.boot.ensures ∙ ap (λ x. x.boot) c.node.ensures))
    (boot_of n (cluster_at c.args.nodes.now c.loop-locked.locked-index n c.requires.can there))

pub add_node-requires-clause-absent : goal.add_node-requires-clause-absent
add_node-requires-clause-absent g c =
    let n = c.locked-item.result in
    let there = slice_get-get_or c.args.nodes.now c.loop-locked.locked-index n c.loop-locked-test.true ∙ ap Some (sym c.locked-item.is) in
    subst (λ k. has_member c.loop-locked.replay.members k ≡ false) (sym c.locked_number.ensures.number)
    (nobody_yet g.P.Pick.gives c.args.nodes.now c.loop-locked.replay c.loop-locked.locked-index n c.requires.can c.loop-locked.invariant there)

pub loop-locked-preserved : goal.loop-locked-preserved
loop-locked-preserved g c =
    let n = c.locked-item.result in
    let there = slice_get-get_or c.args.nodes.now c.loop-locked.locked-index n c.loop-locked-test.true ∙ ap Some (sym c.locked-item.is) in
    joined_next g.P.Pick.gives c.args.nodes.now c.loop-locked.replay c.add_node.new.self c.loop-locked.locked-index n c.requires.can c.loop-locked.invariant there
    c.told.ensures.told.whole
    (subst (λ k. IsReplayJoined c.loop-locked.replay c.add_node.new.self k n.node.boot) c.locked_number.ensures.number
    (subst (λ b. IsReplayJoined c.loop-locked.replay c.add_node.new.self c.locked_number.result b) (c.boot.ensures ∙ ap (λ x. x.boot) c.node.ensures)
    c.in_ok-add_node.ensures.joins))

pub returns : goal.returns
returns g c = all_joined g.P.Pick.gives c.args.nodes.now c.loop-locked.replay c.loop-locked.locked-index c.loop-locked.invariant c.loop-locked-test.false
