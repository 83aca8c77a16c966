use Rattle.std.proofs.Common.{◌-◌, ◌≡◌, Some, length, slice_get, refl, subst}
use Rattle.std.proofs.lemmas.Option.{IfSome_then}
use Rattle.std.proofs.lemmas.Result.{IfOk-weaker}
use Rattle.tipc_link.specs.Sessions.{SessionEnd}
use Rattle.tipc_link.proofs.JoinLaws.{joins_last}
use Rattle.tipc_link.proofs.session.Session.bundle_with.Goals as goal

pub returns-clause-some : goal.returns-clause-some
returns-clause-some c =
    let given = c.if-not-may_be_joined.ensures.yes refl in
    let inner = c.if-not-may_be_bundled.ensures.0 refl in
    let last = subst (λ (e : SessionEnd). slice_get e.sending.waiting (length e.sending.waiting - 1) ≡ Some c.in-Some-Some.last.now) c.self.view_is c.in-Some-Some.ensures'.some in
    IfOk-weaker c.joined_with.result _ _ (λ o some. IfSome_then o some (λ bundle h. joins_last c.args.self.now c.args.pieces.now c.in-Some-Some.packet.now c.in-Some-Some.last.now bundle given.0 c.in-Some-Some.ensures.some last given.1 inner (h.1 given.0 given.1) h.0)) c.joined_with.ensures.some
