-- What was acknowledged was numbered, and so is what frames in the air acknowledge.
use Rattle.std.specs.Prelude.{IfSome}
use Rattle.std.proofs.Common.{◌≡◌, ◌∙◌, ℕ, Option, Some, None, length, refl, sym, ap, arith}
use Rattle.tipc_link.specs.Links.{LinkEnd}
use Rattle.tipc_link.specs.Sessions.{SessionEnd}
use Rattle.tipc_paired.specs.Deeds.{IsUp}
use Rattle.tipc_paired.specs.Views.{epoch_in}
use Rattle.tipc_paired.proofs.sessions.SessionDeeds.{of_session}
use Rattle.tipc_paired.proofs.wires.Wires.{prefix_long, same_some, session_of_up}
use Rattle.tipc_two_nodes.specs.Sights.{AreSeen, Sight}
use Rattle.tipc_two_nodes.proofs.sights.Sights.{ends}
use Rattle.tipc_settling.specs.Freshness.{AckedIsNumbered, AirAcknowledgesNumbered, IsAckedEnd}

acked_at : (v w : Sight) (bearer : ℕ) → AreSeen v w → (o : Option LinkEnd) → v.ends bearer ≡ o → IfSome o (IsAckedEnd (v.numbered bearer (epoch_in v.node.contact (v.ends bearer))))
acked_at v w bearer h None is = tt
acked_at v w bearer h (Some e) is = λ up s has.
    let x = h.here.view in
    let there : IsUp (x.wires bearer) e s = record { end_is = h.seen_here.ends bearer ∙ is; up = up; session_is = has } in
    let g = (h.talking.twins.paired.here.wires bearer).going s (session_of_up (x.wires bearer) e s there) in
    let sends = g.sends in
    let window = sends.window in
    let below = sends.below in
    let going = (ends v w bearer e h is).going up in
    let same : going.0 ≡ s = same_some going.0 s e.session going.1 has in
    let epoch : s.epoch ≡ e.fsm.own = ap (λ (t : SessionEnd). t.epoch) (sym same) ∙ going.2 in
    let count : v.numbered bearer (epoch_in v.node.contact (v.ends bearer)) ≡ s.sending.numbered =
    ap (λ o. v.numbered bearer (epoch_in v.node.contact o)) is ∙ ap (v.numbered bearer) (sym epoch) ∙ h.seen_here.counts bearer e s is has in
    record { window = window; below = below; acked = omega (arith, count) }

pub acked_is_numbered : AckedIsNumbered
acked_is_numbered v w h = record { near = acked_at v w 0 h (v.ends 0) refl; far = acked_at v w 1 h (v.ends 1) refl }

pub air_acknowledges_numbered : AirAcknowledgesNumbered
air_acknowledges_numbered v w place f es er p h there es_fits er_fits fits bytes traffic =
    let t = h.seen_there.sent place f there in
    let x = h.here.view in
    let y = h.there.view in
    let b = t.frame.bearer in
    let half = h.talking.twins.paired.there in
    let k = of_session y.node.own (y.wires b) (x.wires b) t.frame es er p (half.frames t.place t.frame t.there) es_fits er_fits fits (t.bytes ∙ bytes) traffic in
    let taken = k.told_taken in
    let recent = k.told_recent in
    let shorter = prefix_long ((y.wires b).got er) ((x.wires b).line er) ((half.wires b).prefix er) in
    let count : v.numbered f.bearer er ≡ length ((x.wires b).line er) = h.seen_here.numbered f.bearer er ∙ ap (λ c. length ((x.wires c).line er)) (sym t.bearer_is) in
    let stood = t.peer_numbered in
    (k.told, k.told_is, omega (arith, taken, shorter, count), omega (arith, recent, stood))
