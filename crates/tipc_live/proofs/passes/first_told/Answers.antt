use Rattle.std.specs.List.{All}
use Rattle.std.specs.Prelude.{MatchOption, Some}
use Rattle.std.proofs.Common.{sym, subst, ◌∙◌, ap}
use Rattle.std.proofs.lemmas.List.{take_all}
use Rattle.std.proofs.lemmas.List.Elements.{All-more}
use Rattle.std.proofs.lemmas.Option.{slice_get-get_or}
use Rattle.tipc_live.specs.Telling.{AllTellTrue, IsFirst}
use Rattle.tipc_live.proofs.Apart.{cluster_at}
use Rattle.tipc_live.proofs.passes.first_told.Goals as goal

pub locked_number-requires : goal.locked_number-requires
locked_number-requires g c =
    let n = c.index-nodes-node.result in
    let there = slice_get-get_or c.args.nodes.now c.loop-node.node n c.loop-node-test.true ∙ ap Some (sym c.index-nodes-node.is) in
    cluster_at c.args.nodes.now c.loop-node.node n c.requires there

pub returns-in-Some : goal.returns-in-Some
returns-in-Some g c =
    let n = c.index-nodes-node.result in
    record {
      place = c.loop-node.node;
      node = n;
      there = slice_get-get_or c.args.nodes.now c.loop-node.node n c.loop-node-test.true ∙ ap Some (sym c.index-nodes-node.is);
      number_is = sym c.locked_number.ensures.number;
      told = subst (λ told. MatchOption told (AllTellTrue n) (λ f. IsFirst n.node.journal n.passes f.caller f.call)) c.in-Some.is c.in_ok-call.ensures;
      before = c.loop-node.invariant;
    }

pub loop-node-preserved : goal.loop-node-preserved
loop-node-preserved g c =
    let n = c.index-nodes-node.result in
    All-more AllTellTrue c.args.nodes.now c.loop-node.node c.index-nodes-node.result c.loop-node-test.true c.loop-node.invariant
    (subst AllTellTrue c.index-nodes-node.is
    (subst (λ told. MatchOption told (AllTellTrue n) (λ f. IsFirst n.node.journal n.passes f.caller f.call)) c.in_default.is c.in_ok-call.ensures))

pub returns : goal.returns
returns g c = subst (All AllTellTrue) (take_all c.loop-node.node c.args.nodes.now c.loop-node-test.false) c.loop-node.invariant
