use Rattle.std.proofs.Common.{◌∙◌, sym, subst, ap}
use Rattle.tipc_pair.specs.Facing.{PairEnds}
use Rattle.tipc_pair.specs.Messages.{OpensTo}
use Rattle.tipc_pair.proofs.Facings.{facing_begun}
use Rattle.tipc_pair.proofs.Quietly.{facing_standing}
use Rattle.tipc_pair.proofs.link_ends.LinkEnds.prepare_same.Goals as goal

pub returns : goal.returns
returns c =
    let x = c.args.self.now in
    let given = c.in_ok-given.given in
    let begun = c.opened.new.reassembly in (
      c.in_ok-arriving.ensures c.in-Some.arriving c.in-Some.is,
      facing_standing c.args.bearer x c.args.incoming.now.packet.header ∙ c.requires.same,
      subst (λ b. OpensTo b c.in-Some.arriving.hearing.outcome given begun) (c.in_ok-reassembly.ensures ∙ (ap (λ (v : PairEnds). v.begun) c.self.view_is ∙ sym (facing_begun c.args.bearer x)))
          (subst (λ o. OpensTo c.in_ok-reassembly.reassembly o given begun) c.outcome.ensures c.in_ok-given.ensures.ok),
    )
