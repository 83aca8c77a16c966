-- A STATE or a numbered packet in the air under the present epoch of its sender was sent by a link that is up.
use Rattle.std.specs.Prelude.{slice_get}
use Rattle.std.proofs.Common.{◌≡◌, ◌<◌, ◌≤◌, ◌^◌, ◌∙◌, ℕ, Bool, true, false, Some, None, refl, sym, ap, arith}
use Rattle.tipc_types.specs.LinkStates.{is_up}
use Rattle.tipc_header.specs.Frames.{frame_of}
use Rattle.tipc_header.specs.Grammar.{Fits}
use Rattle.tipc_header.specs.Spelling.{Fields, spelling}
use Rattle.tipc_link.specs.Links.{LinkEnd, is_traffic}
use Rattle.tipc_paired.specs.Paired.{ArePaired}
use Rattle.tipc_paired.specs.Views.{Frame, View, epoch_on, es_of, session_on}
use Rattle.tipc_paired.proofs.wires.Frames.{es_of-frame, same_packet}
use Rattle.tipc_paired.proofs.wires.Wires.{epoch_of_end, none_some, session_of_down}
use Rattle.tipc_settling.specs.Beginnings.{TrafficTellsUp}

-- the frame is this packet under these two epochs
record IsOf (f : Frame) (es er : ℕ) (p : Fields) : Type 0 where
  es_fits : es < 2 ^ 64
  er_fits : er < 2 ^ 64
  fits : Fits p
  bytes : f.bytes ≡ frame_of es er (spelling p)

-- where no link is up, nothing of a session was told under the present epoch
told_up : (x y : View) (e : LinkEnd) (place : ℕ) (f : Frame) (es er : ℕ) (p : Fields) → ArePaired x y → slice_get x.told place ≡ Some f → (x.wires f.bearer).end ≡ Some e → IsOf f es er p → es ≡ e.fsm.own → is_traffic p.header ≡ true
    → is_up e.fsm.state ≡ true
told_up x y e place f es er p h there end told own traffic = by (is_up e.fsm.state) refl
  where
    by : (u : Bool) → is_up e.fsm.state ≡ u → is_up e.fsm.state ≡ true
    by true up = up
    by false down =
        let half = h.here in
        let frame = half.frames place f there in
        let bytes : frame_of frame.es frame.er (spelling frame.packet) ≡ frame_of es er (spelling p) = sym frame.bytes ∙ told.bytes in
        let packet : frame.packet ≡ p = same_packet frame.es frame.er es er frame.packet p frame.fits told.fits bytes in
        let under : frame.es ≡ es = sym (es_of-frame frame.es frame.er (spelling frame.packet) frame.es_fits frame.er_fits) ∙ ap es_of bytes ∙ es_of-frame es er (spelling p) told.es_fits told.er_fits in
        let session = frame.session (ap (λ (q : Fields). is_traffic q.header) packet ∙ traffic) in
        let w = x.wires f.bearer in
        let epochs = half.epochs f.bearer in
        let now = epoch_of_end x.node w e end in
        let low : epoch_on x.node w ≤ frame.es = omega (arith, now, under, own) in
        let none : session_on w ≡ None = session_of_down w e end down in
        absurd (none_some session.begun _ (epochs.unborn frame.es (low, λ s on. absurd (none_some s _ none on))) session.begun_is)

pub traffic_tells_up : TrafficTellsUp
traffic_tells_up v w place f e es er p h there is es_fits er_fits fits bytes own traffic =
    let t = h.seen_here.sent place f there in
    let x = h.here.view in
    let end : (x.wires t.frame.bearer).end ≡ Some e = ap (λ b. (x.wires b).end) t.bearer_is ∙ h.seen_here.ends f.bearer ∙ is in
    told_up x h.there.view e t.place t.frame es er p h.talking.twins.paired t.there end (record { es_fits = es_fits; er_fits = er_fits; fits = fits; bytes = t.bytes ∙ bytes }) own traffic
