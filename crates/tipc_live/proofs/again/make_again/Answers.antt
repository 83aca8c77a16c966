use Rattle.std.specs.Prelude.{Some, slice_get}
use Rattle.std.proofs.Common.{◌≡◌, ◌∙◌, ap, sym}
use Rattle.std.proofs.lemmas.Option.{slice_get-get_or}
use Rattle.std.proofs.lemmas.Result.{IfOk-weaker}
use Rattle.tipc_live.specs.Again.{IsOutcomeOfBytes, IsOutcomeOfCall}
use Rattle.tipc_live.proofs.Latest.{other_outcome}
use Rattle.tipc_live.proofs.again.make_again.Goals as goal

pub returns-in-Arrive : goal.returns-in-Arrive
returns-in-Arrive g c =
    let can = rw c.in-Arrive.is at c.requires.can in
    let there : slice_get c.args.heard.now c.in-Arrive.number ≡ Some c.as_slice-bytes.result.now =
    slice_get-get_or c.args.heard.now c.in-Arrive.number c.index-heard-number.result can.1 ∙ ap Some (sym c.index-heard-number.is ∙ sym c.as_slice-bytes.ensures) in
    rw c.in-Arrive.is (IfOk-weaker c.arrive_again.result (IsOutcomeOfBytes (λ p. g.P.Pick.gives p.now) c.args.replay.now c.arrive_again.new.replay c.args.n c.args.by c.in-Arrive.bearer c.as_slice-bytes.result.now c.args.chooser.now c.arrive_again.new.chooser) _ (λ o h. (c.as_slice-bytes.result.now, there, h)) c.arrive_again.ensures)

pub returns-in_default : goal.returns-in_default
returns-in_default g c =
    IfOk-weaker c.call_again.result
    (IsOutcomeOfCall (λ p. g.P.Pick.gives p.now) c.args.replay.now c.call_again.new.replay c.args.n c.args.by c.args.call.now c.args.chooser.now c.call_again.new.chooser) _
    (λ o h. other_outcome (λ p. g.P.Pick.gives p.now) c.args.replay.now c.call_again.new.replay c.args.heard.now c.args.n c.args.by c.args.call.now c.args.chooser.now c.call_again.new.chooser o c.in_default.not-Arrive h)
    c.call_again.ensures
