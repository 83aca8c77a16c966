use Rattle.std.specs.Prelude.{codes}
use Rattle.std.proofs.Common.{[], ◌∷◌, ◌∙◌, ap}
use Rattle.std.specs.Fmt.{decimal}
use Rattle.tipc_report.specs.Closing.{spaced}
use Rattle.tipc_report.proofs.Spacing.{two_four_two}
use Rattle.tipc_report.proofs.live.counts_text.Goals as goal

pub returns : goal.returns
returns c =
    two_four_two (codes "node") (decimal c.args.node) (codes "accepted") (decimal c.args.accepted) (codes "delivered") (decimal c.args.delivered) (codes "calls") (decimal c.args.calls)
    _ _ _ _ _ _ _ _ _ (c.in_ok-text.ensures ∙ ap (λ n. spaced (codes "node" ∷ decimal n ∷ [])) c.from.ensures) c.in_ok-messages.ensures c.in_ok-answered.ensures c.in_ok-push.ensures.items c.as_slice.ensures.value
    c.in_ok-extend_from_slice.ensures.items c.in_ok-push-2.ensures.items c.as_slice-2.ensures.value c.in_ok-extend_from_slice-2.ensures.items
