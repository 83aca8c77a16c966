use Rattle.std.specs.List.Sorted.{IsPermutation}
use Rattle.std.proofs.Common.{ℕ, ◌≤◌, ◌∙◌, List, map, subst, sym}
use Rattle.std.proofs.lemmas.Result.{IfOk-weaker}
use Rattle.tipc_live.specs.declared.keeping.KeptStep.{KeptStep}
use Rattle.tipc_live.specs.Keeping.{stamp_of, uses_in}
use Rattle.tipc_live.specs.Stamping.{kept_from}
use Rattle.tipc_live.proofs.Stamped.{once_in_all, twice_in_all}
use Rattle.tipc_live.proofs.Starting.{audits_so, turned_first}
use Rattle.tipc_live.proofs.audits.audit.Goals as goal

pub returns-in-Some : goal.returns-in-Some
returns-in-Some g c =
    let all = subst (λ (ks : List KeptStep). IsPermutation (kept_from 0 c.args.nodes.now) ks) (sym c.as_slice.ensures.value) c.in_ok-steps.ensures.all in
    (twice_in_all c.args.nodes.now c.as_slice.result.now c.in-Some.stamp all c.in-Some.ensures.twice, c.requires.empty)

pub returns-in-Some-2 : goal.returns-in-Some-2
returns-in-Some-2 g c =
    let all = subst (λ (ks : List KeptStep). IsPermutation (kept_from 0 c.args.nodes.now) ks) (sym c.as_slice.ensures.value) c.in_ok-steps.ensures.all in
    let told = rw c.in-Some-2.is at c.in_ok-node.ensures in
    (once_in_all c.args.nodes.now c.as_slice.result.now all c.in_default.ensures.once, told, c.requires.empty)

pub follow_all-requires-clause-once : goal.follow_all-requires-clause-once
follow_all-requires-clause-once g c =
    subst (λ (ks : List KeptStep). (stamp : ℕ) → uses_in (map stamp_of ks) stamp ≤ 1) (c.as_slice.ensures.value ∙ sym c.as_slice-2.ensures.value) c.in_default.ensures.once

pub follow_all-requires-clause-turned : goal.follow_all-requires-clause-turned
follow_all-requires-clause-turned g c =
    rw c.as_mut_slice.ensures.value
    (turned_first g.P.Pick.gives (λ p. p.now) c.args.nodes.now c.add_nodes.new.replay c.in_ok-choosers.choosers.items c.in_ok-add_nodes.ensures c.in_ok-choosers.ensures.picks c.in_ok-choosers.ensures.first)

pub returns : goal.returns
returns g c =
    let all = subst (λ (ks : List KeptStep). IsPermutation (kept_from 0 c.args.nodes.now) ks) (sym c.as_slice.ensures.value) c.in_ok-steps.ensures.all in
    let told = rw c.in_default-2.is at c.in_ok-node.ensures in
    IfOk-weaker c.follow_all.result _ _ (λ a shows. audits_so g.P.Pick.gives c.args.nodes.now c.as_slice.result.now c.follow_all.new.replay a all c.in_default.ensures.once told shows) c.follow_all.ensures
