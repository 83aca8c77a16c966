-- What an arrival asks of the two nodes: the far end is made where a tunnel packet comes, and what is acknowledged was taken.
use Rattle.std.proofs.Common.{◌≡◌, ℕ, sym, ap, ◌∙◌, subst, is_some}
use Rattle.tipc_header.specs.Spelling.{Fields}
use Rattle.tipc_fragments.specs.Joining.{fresh}
use Rattle.tipc_pair.specs.Facing.{PairEnds}
use Rattle.tipc_changeover.specs.Links.{Bearer, First, Second}
use Rattle.tipc_two_nodes.specs.links.Acting.{AcknowledgesTaken}
use Rattle.tipc_two_nodes.specs.links.Arriving.{IsMadeFor}
use Rattle.tipc_two_nodes.specs.links.Sending.{number_as}
use Rattle.tipc_paired.specs.Views.{View}
use Rattle.tipc_two_nodes.specs.deeds.Arriving.{Reaches}
use Rattle.tipc_two_nodes.specs.deeds.PairDeeds.{IsOfPair}
use Rattle.tipc_two_nodes.specs.Pieces.{state_from, traffic_from}
use Rattle.tipc_two_nodes.specs.Twins.{AreTwins, sends_in, takes_in}
use Rattle.tipc_two_nodes.proofs.arrivals.Landing.{first_acknowledges, second_acknowledges}
use Rattle.tipc_two_nodes.proofs.arrivals.Making.{far_made, near_made}
use Rattle.tipc_two_nodes.proofs.calls.PairViews.{end_first, end_second}

pub made_from : (b : Bearer) (v y : View) (x : PairEnds) (h : AreTwins v y) → IsOfPair v x → x.bearer ≡ number_as b → IsMadeFor x (traffic_from b (takes_in v y h).traffic)
made_from First v y x h pair is session k packet there tunnel = ap is_some (sym (end_first v x pair is).1) ∙ far_made v y fresh h session k packet there tunnel
made_from Second v y x h pair is session k packet there tunnel = ap is_some (sym (end_second v x pair is).1) ∙ near_made v y fresh h session k packet there tunnel

pub acknowledges_from : (b : Bearer) (v y : View) (x : PairEnds) (es er : ℕ) (p : Fields) (h : AreTwins v y) → IsOfPair v x → x.bearer ≡ number_as b → Reaches v y x.bearer es er p → AcknowledgesTaken x es er p (state_from b (sends_in v y h).state)
acknowledges_from First v y x es er p h pair is r e s near = first_acknowledges v y fresh es er p h (subst (λ n. Reaches v y n es er p) is r) e s ((end_first v x pair is).0 ∙ near)
acknowledges_from Second v y x es er p h pair is r e s near = second_acknowledges v y fresh es er p h (subst (λ n. Reaches v y n es er p) is r) e s ((end_second v x pair is).0 ∙ near)
