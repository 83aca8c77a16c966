use Rattle.std.proofs.Common.{◌≡◌, ◌∙◌, ℕ, List, Option, Some, None, slice_index_or, subst, sym}
use Rattle.std.proofs.lemmas.Result.{IfOk-weaker}
use Rattle.tipc_types.specs.declared.node_calls.Answer.{Answer}
use Rattle.tipc_pick.specs.Choosing.{Choosing}
use Rattle.tipc_replay.specs.declared.events.WorldEvent.{WorldEvent}
use Rattle.tipc_replay.specs.Calls.{node_of}
use Rattle.tipc_replay.specs.Choices.{Chooses, ChoosesAt}
use Rattle.tipc_replay.specs.States.{MemberState}
use Rattle.tipc_replay.proofs.Happening.{stands_at}
use Rattle.tipc_replay.proofs.replays.happen_at.Goals as goal

-- the node is the one that stands there
chooses_there : {P : Type 0} (gives : P → ℕ → ℕ → ℕ → Type 0) (members : List (Option MemberState)) (event : WorldEvent) (answered : Answer) (old new : Choosing P) (m : MemberState) → slice_index_or members (node_of event) None ≡ Some m
    → Chooses gives m event answered old new → ChoosesAt gives members event answered old new
chooses_there gives members event answered old new m is chose k there =
    let same : m ≡ k = (let both : Some m ≡ Some k = sym is ∙ there in cc) in subst (λ (x : MemberState). Chooses gives x event answered old new) same chose

pub happen-requires-clause-settled : goal.happen-requires-clause-settled
happen-requires-clause-settled g c =
    let here = stands_at c.args.members.now.items c.node.result (node_of c.args.event) c.index_mut.result.now c.node.ensures c.requires.there c.index_mut.ensures.value in
    (node_of c.args.event, c.requires.settled (node_of c.args.event) c.in-Some.member (here ∙ c.in-Some.is))

pub returns-clause-chose : goal.returns-clause-chose
returns-clause-chose g c =
    let here = stands_at c.args.members.now.items c.node.result (node_of c.args.event) c.index_mut.result.now c.node.ensures c.requires.there c.index_mut.ensures.value in
    IfOk-weaker c.happen.result _ _ (λ a chose. chooses_there _ _ _ _ _ _ c.in-Some.member (here ∙ c.in-Some.is) chose) c.happen.ensures.chose
