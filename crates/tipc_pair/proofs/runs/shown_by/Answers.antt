use Rattle.std.proofs.Common.{List, ℕ, ◌++◌, sym, ap, ◌∙◌}
use Rattle.tipc_header.specs.Frames.{sent_as}
use Rattle.tipc_header.specs.Spelling.{spelling, view}
use Rattle.tipc_pair.specs.Runs.{as_sent, shown_by}
use Rattle.tipc_pair.proofs.Shown.{shown_spelled}
use Rattle.tipc_pair.proofs.runs.shown_by.Goals as goal

pub returns : goal.returns
returns c =
    let read = c.in-Ok.ensures.spells in
    let p = view c.in-Ok.packet in
    c.in_ok-encode.ensures.ok
    ∙ (ap (λ (previous : ℕ). c.new-bytes.result.items ++ spelling (sent_as p.acknowledgement p.sequence previous p)) c.previous_sent.ensures
    ∙ (ap (λ (xs : List ℕ). xs ++ spelling (as_sent c.args.own p)) c.new-bytes.ensures.items
    ∙ sym (ap (shown_by c.args.own) read.1 ∙ shown_spelled c.args.own p read.0)))
