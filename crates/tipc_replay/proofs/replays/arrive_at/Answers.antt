-- An arrival at its node, put together from what the node says.
use Rattle.std.proofs.Common.{◌∙◌, refl}
use Rattle.std.proofs.lemmas.Result.{IfOk-weaker}
use Rattle.tipc_replay.proofs.Happening.{stands_at}
use Rattle.tipc_replay.proofs.replays.arrive_at.Goals as goal

pub returns-clause-did : goal.returns-clause-did
returns-clause-did c =
    let was = stands_at c.args.members.now.items c.args.node c.args.node c.index_mut.result.now refl c.requires.there c.index_mut.ensures.value ∙ c.in-Some.is in
    IfOk-weaker c.arrive.result _ _ (λ a did. record { before = c.in-Some.member; after = c.arrive.new.self; was = was; new_is = search; did = did c.args.node }) c.arrive.ensures.did
