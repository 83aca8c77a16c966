use Rattle.std.proofs.Common.{◌≡◌, ◌∙◌, Some, ap}
use Rattle.tipc_pair.proofs.link_changes.kept_of.Goals as goal

pub returns : goal.returns
returns c = λ s is.
    let same : c.cut.new.self.session ≡ Some s = ap (λ e. e.session) c.cut.ensures.after ∙ (ap (λ e. e.session) c.in_ok-copy.ensures ∙ is) in
    let handed = c.hand_over.ensures.handed s same in
    (handed.0, handed.2, handed.3, handed.4)
