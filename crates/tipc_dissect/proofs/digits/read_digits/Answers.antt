use Rattle.std.proofs.Common.{List, ℕ, ◌+◌, ◌*◌, ◌++◌, ◌∙◌, ap, drop, arith}
use Rattle.tipc_dissect.specs.Digits.{spelled_frame}
use Rattle.tipc_dissect.proofs.Spelled.{all_read, byte_read}
use Rattle.tipc_dissect.proofs.digits.read_digits.Goals as goal

pub loop-index-preserved : goal.loop-index-preserved
loop-index-preserved c =
    let line = c.args.line.now in
    let index = c.loop-index.index in
    ap (λ (t : List ℕ). t ++ spelled_frame (drop (2 * (index + 1)) line)) c.in_ok-push.ensures.items
    ∙ byte_read line c.loop-index.frame.items index c.byte_of.result (omega arith) c.loop-index.invariant c.byte_of.ensures

pub returns : goal.returns
returns c = all_read c.args.line.now c.loop-index.frame.items c.loop-index.index (omega arith) c.loop-index.invariant
