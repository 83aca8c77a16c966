use Rattle.std.proofs.Common.{[], ◌∷◌, refl}
use Rattle.tipc_bundle.proofs.Bundling.{carries_itself}
use Rattle.tipc_link.proofs.JoinLaws.{other_waits_for_none}
use Rattle.tipc_link.proofs.joining.may_be_joined.Goals as goal

pub returns-then-may_be_bundled-clause-yes : goal.returns-then-may_be_bundled-clause-yes
returns-then-may_be_bundled-clause-yes c = λ _. (c.args.last.now ∷ [], carries_itself c.args.last.now (c.if-may_be_bundled.ensures.0 refl))

pub returns-else-may_be_bundled-clause-no : goal.returns-else-may_be_bundled-clause-no
returns-else-may_be_bundled-clause-no c = λ no packets h.
    other_waits_for_none c.args.last.now packets (λ inner. let yes = c.if-may_be_bundled.ensures.1 inner in absurd cc) (λ is. let yes = c.is_bundle.ensures.1 is in absurd cc) h
