use Rattle.std.proofs.Common.{sym, subst}
use Rattle.std.specs.Prelude.{IfSome}
use Rattle.tipc_link.specs.Sessions.{IsPut}
use Rattle.tipc_link.specs.Hearings.{IsJoined}
use Rattle.tipc_link.proofs.JoinLaws.{joined_is_put, joined_waits, none_given, waiting_is_put}
use Rattle.tipc_link.proofs.session.Session.put.Goals as goal

pub join-requires-clause-bundle : goal.join-requires-clause-bundle
join-requires-clause-bundle c =
    let some = subst (λ o. IfSome o (λ bundle. IsJoined c.args.self.now c.args.pieces bundle)) c.in-Some.is c.in_ok-bundle.ensures.some in
    joined_waits _ _ _ some

pub returns-in-Some-clause-ok : goal.returns-in-Some-clause-ok
returns-in-Some-clause-ok c =
    let some = subst (λ o. IfSome o (λ bundle. IsJoined c.args.self.now c.args.pieces bundle)) c.in-Some.is c.in_ok-bundle.ensures.some in
    subst (IsPut c.args.self.now c.args.pieces) (sym c.join.ensures) (joined_is_put _ _ _ some)

pub returns-clause-ok : goal.returns-clause-ok
returns-clause-ok c = waiting_is_put _ _ _ _ (none_given _ _ c.in_default.not-Some c.in_ok-bundle.ensures.none) c.wait.ensures.ok
