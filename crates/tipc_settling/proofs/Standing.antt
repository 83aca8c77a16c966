-- A still pair is still on the footing of now.
use Rattle.std.specs.Prelude.{◌==◌, if◌then◌else◌}
use Rattle.std.proofs.Common.{◌≡◌, ◌≤◌, ◌∙◌, ℕ, false, Option, Some, None, sym, ap, arith, eqb-true}
use Rattle.std.proofs.lemmas.Bool.Decides.{nat_tests}
use Rattle.tipc_link_fsm.specs.Table.{is_held}
use Rattle.tipc_link.specs.Links.{LinkEnd}
use Rattle.tipc_pair.specs.Facing.{PairEnds, facing, is_up_at, other, turned}
use Rattle.tipc_paired.specs.Views.{fsm_in}
use Rattle.tipc_settling.specs.Beginnings.{StandsAnew, is_answering, is_free_at, standing}
use Rattle.tipc_settling.specs.Stillness.{Footing, IsStillAt}
use Rattle.tipc_settling.proofs.Beginnings.{not_held}
use Rattle.tipc_settling.proofs.Rising.{answering_so, same_number}

stands_at : (own peer : Footing) (x : PairEnds) (bearer : ℕ) (o : Option LinkEnd) → (facing bearer x).near ≡ o → IsStillAt own peer x.seen bearer (fsm_in o) → IsStillAt (standing own peer x) peer x.seen bearer (fsm_in o)
stands_at own peer x bearer None near h = record { epoch = h.epoch; down = ap is_up_at near; unanswered = ap (is_answering (peer.epoch bearer)) near }
stands_at own peer x bearer (Some e) near h = record {
  epoch = h.epoch;
  lasts = λ was. sym (ap is_up_at near) ∙ was;
  answers = λ was. answering_so (peer.epoch bearer) e (sym (ap (is_answering (peer.epoch bearer)) near) ∙ was);
  free = λ was. not_held (is_held e.fsm.state) (sym (ap is_free_at near) ∙ was);
  no_higher = h.no_higher;
  up = h.up;
  contact = h.contact;
  present = h.present;
}

pub here : (x : PairEnds) → facing x.bearer x ≡ x
unfolding facing
here x = ap (λ b. if b then x else turned x) (same_number x.bearer)

apart : (b : ℕ) → b ≤ 1 → (b == other b) ≡ false
apart b two = grind (arith, nat_tests, two)

pub there : (x : PairEnds) → x.bearer ≤ 1 → facing (other x.bearer) x ≡ turned x
unfolding facing
there x two = ap (λ b. if b then x else turned x) (apart x.bearer two)

pub stands_anew : StandsAnew
stands_anew own peer x h = record {
  two = h.two;
  contact = h.contact;
  seen = h.seen;
  sees = λ was. eqb-true x.seen peer.contact was;
  near = stands_at own peer x x.bearer x.near (ap (λ (y : PairEnds). y.near) (here x)) h.near;
  far = stands_at own peer x (other x.bearer) x.far (ap (λ (y : PairEnds). y.near) (there x h.two)) h.far;
}
