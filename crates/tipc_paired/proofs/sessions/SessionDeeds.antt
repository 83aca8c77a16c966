-- What happens to a session: it reads an acknowledgement, takes packets, and numbers those that wait.
use Rattle.std.proofs.Common.{◌≡◌, ◌+◌, ◌⊎◌, ℕ, ◌≤◌, ◌<◌, ◌^◌, true, List, Option, Some, length, refl, sym, ap, ◌∙◌, subst, inl, inr, arith}
use Rattle.tipc_header.specs.Frames.{frame_of}
use Rattle.tipc_header.specs.Spelling.{Fields, spelling}
use Rattle.tipc_link.specs.Direction.{IsDirection, IsReceiver}
use Rattle.tipc_link.specs.Links.{LinkEnd, is_traffic, record_in, record_of, with_session}
use Rattle.tipc_link.specs.Records.{Received}
use Rattle.tipc_link.specs.Sessions.{SessionEnd, Unanswered, receiving_record, after_acknowledgement}
use Rattle.tipc_link.proofs.Directions.{releases as direction_releases}
use Rattle.tipc_link.proofs.LinkLaw.{Each}
use Rattle.tipc_link.proofs.Ends.{Alike}
use Rattle.tipc_paired.proofs.wires.Frames.{er_of-frame, es_of-frame, same_packet}
use Rattle.tipc_paired.proofs.wires.Ends.{still_end}
use Rattle.tipc_paired.proofs.wires.EpochsKept.{epochs_steady, reached_on, session_is, steady_session, still_session}
use Rattle.tipc_paired.proofs.wires.Growing.{Grows}
use Rattle.tipc_paired.proofs.wires.Sides.{peers_still}
use Rattle.tipc_paired.proofs.wires.WireDeeds.{high_still, wire_deed}
use Rattle.tipc_paired.proofs.wires.Wires.{prefix_same, same_some, session_of_up}
use Rattle.tipc_paired.specs.Deeds.{Hears, IsUp, with_going}
use Rattle.tipc_paired.specs.Paired.{ArePaired, IsEnd, IsFrame, IsGoing, IsOfSession, IsPacket, IsReached, IsRecordOf, IsRecords, IsWire, on_record}
use Rattle.tipc_paired.specs.Views.{Frame, Node, View, Wire, er_of, es_of, fsm_in, with_wire}
use Rattle.std.specs.Prelude.{Bool}
use Rattle.tipc_contact.specs.Sides.{boot_of}
use Rattle.tipc_header.specs.Grammar.{Fits}

alike_same : (s s' : SessionEnd) → s'.own ≡ s.own → s'.peer ≡ s.peer → s'.bearer ≡ s.bearer → s'.epoch ≡ s.epoch → s'.peer_epoch ≡ s.peer_epoch → Alike s s'
alike_same s s' own peer bearer epoch peer_epoch = record { own = own; peer = peer; bearer = bearer; epoch = epoch; peer_epoch = peer_epoch }

-- ---- a step of a session

-- it goes on with its record, in which the peer's epoch stays
records_going : (n : Node) (w v : Wire) (e : LinkEnd) (s s' : SessionEnd) (line got : ℕ → List (List ℕ)) → IsRecords n w v → IsUp w e s → s'.record_epoch ≡ s.record_epoch
    → ((epoch : ℕ) → (got epoch ≡ w.got epoch) ⊎ (epoch ≡ s.record_epoch)) → IsRecords n (record { end = Some (with_session e s'); begun = w.begun; line = line; got = got }) v
records_going n w v e s s' line got h up same which = record {
  reached = λ epoch. of epoch (which epoch);
  below = λ d r is has. (
      let one = same_some (with_session e s') d w'.end refl is in
      let now = same_some (receiving_record s') r (record_of d) (ap record_of (sym one)) has in
      let few = h.below e (receiving_record s) up.end_is was in
      let top : e.fsm.highest ≡ d.fsm.highest = ap (λ (k : LinkEnd). k.fsm.highest) one in
      let at : s'.record_epoch ≡ r.epoch = ap (λ (k : Received). k.epoch) now in
      omega arith);
}
  where
    w' : Wire
    w' = record { end = Some (with_session e s'); begun = w.begun; line = line; got = got }

    was : record_of e ≡ Some (receiving_record s)
    was = ap (λ o. record_in o e.early) up.session_is

    of : (epoch : ℕ) → (got epoch ≡ w.got epoch) ⊎ (epoch ≡ s.record_epoch) → IsReached n.boot w' v epoch
    of epoch (inl still) = reached_on n.boot w w' v epoch (h.reached epoch) still (λ d r is has. (
        let one = same_some e d w.end up.end_is is in
        let now = same_some (receiving_record s) r (record_of d) (ap record_of (sym one) ∙ was) has in
        let at : s.record_epoch ≡ r.epoch = ap (λ (k : Received). k.epoch) now in
        (with_session e s', receiving_record s', refl, refl, (let low : r.epoch ≤ s'.record_epoch = omega arith in low))))
    of epoch (inr its) = on_record (with_session e s') (receiving_record s') refl refl (let low : epoch ≤ s'.record_epoch = omega arith in low)

-- the session of wire b became s', with these packets numbered and taken
pub session_step : (x y : View) (b : ℕ) (e : LinkEnd) (s s' : SessionEnd) (line got : ℕ → List (List ℕ)) → ArePaired x y → IsUp (x.wires b) e s → Alike s s' → s'.record_epoch ≡ s.record_epoch
    → ((epoch : ℕ) → (got epoch ≡ (x.wires b).got epoch) ⊎ (epoch ≡ s.record_epoch))
    → Grows (x.wires b) (record { end = Some (with_session e s'); begun = (x.wires b).begun; line = line; got = got })
    → IsWire x.node.own (record { end = Some (with_session e s'); begun = (x.wires b).begun; line = line; got = got }) (y.wires b)
    → ArePaired (with_wire x b (record { end = Some (with_session e s'); begun = (x.wires b).begun; line = line; got = got })) y
session_step x y b e s s' line got h up alike same which grows wire =
    let w' : Wire = record { end = Some (with_session e s'); begun = (x.wires b).begun; line = line; got = got } in
    let end : (d : LinkEnd) → w'.end ≡ Some d → IsEnd x.node b d = λ d is. (
    let same : with_session e s' ≡ d = cc in
    subst (IsEnd x.node b) same (still_end x.node b e (with_session e s') (h.here.ends b e up.end_is) (still_session e s s' up.session_is alike))) in
    wire_deed x y b w' h (record {
      grows = grows;
      end = end;
      wire = wire;
      records = records_going x.node (x.wires b) (y.wires b) e s s' line got (h.here.records b) up same which;
      highest = high_still x y b e (with_session e s') h up.end_is refl;
      epochs = epochs_steady x.node b x.told y.told (x.wires b) w' (y.wires b) (h.here.epochs b) (steady_session x.node (x.wires b) e s s' line got up alike);
      peers = peers_still x y b w' h (sym (ap (λ (o : Option LinkEnd). fsm_in o) up.end_is));
    })

-- a session tells of its record
record_going : (own : ℕ) (w v : Wire) (s : SessionEnd) → IsGoing own w v s → IsRecordOf w v (receiving_record s)
record_going own w v s g = record {
  takes = ap (λ n. length (w.got n)) g.record_is ∙ g.takes;
  holds = subst (λ n. IsReceiver s.held s.taken (v.line n)) (sym g.record_is) g.holds;
  shown = subst (λ n. s.shown ≤ length (v.line n) + 1) (sym g.record_is) g.shown;
}

-- the record of the end whose session this is
pub kept_going : (own : ℕ) (w v : Wire) (e : LinkEnd) (s : SessionEnd) → w.end ≡ Some (with_session e s) → IsGoing own w v s → (d : LinkEnd) (r : Received) → w.end ≡ Some d → record_of d ≡ Some r → IsRecordOf w v r
kept_going own w v e s end g d r is has =
    let one : with_session e s ≡ d = same_some (with_session e s) d w.end end is in
    let same : receiving_record s ≡ r = same_some (receiving_record s) r (record_of (with_session e s)) refl (ap record_of one ∙ has) in
    subst (IsRecordOf w v) same (record_going own w v s g)

wire_quiet : (own : ℕ) (w v : Wire) (e : LinkEnd) (s s' : SessionEnd) → IsWire own w v → IsUp w e s → IsGoing own (with_going w e s') v s' → IsWire own (with_going w e s') v
wire_quiet own w v e s s' h up going = record {
  unborn = h.unborn;
  packets = h.packets;
  window = h.window;
  prefix = h.prefix;
  going = λ t is. subst (IsGoing own (with_going w e s') v) (same_some s' t _ (session_is e s s' w.begun w.line w.got up.up) is) going;
  kept = kept_going own (with_going w e s') v e s' refl going;
}

grows_going : (w : Wire) (e : LinkEnd) (s' : SessionEnd) → Grows w (with_going w e s')
grows_going w e s' = record { line = λ epoch. prefix_same (w.line epoch); got = λ epoch. prefix_same (w.got epoch); begun = λ epoch g is. is }

going_of : (x y : View) (b : ℕ) (e : LinkEnd) (s : SessionEnd) → ArePaired x y → IsUp (x.wires b) e s → IsGoing x.node.own (x.wires b) (y.wires b) s
going_of x y b e s h up = (h.here.wires b).going s (session_of_up (x.wires b) e s up)

-- ---- something is kept for the answers, and packets wait

pub notes_paired : (x y : View) (b : ℕ) (e : LinkEnd) (s : SessionEnd) (shown : ℕ) (unanswered : Unanswered) (owes : Bool) → ArePaired x y → IsUp (x.wires b) e s
    → shown ≤ length ((y.wires b).line s.peer_epoch) + 1 → ArePaired (with_wire x b (with_going (x.wires b) e (record s { shown = shown; unanswered = unanswered; owes = owes }))) y
notes_paired x y b e s shown unanswered owes h up most =
    let w = x.wires b in
    let s' : SessionEnd = record s { shown = shown; unanswered = unanswered; owes = owes } in
    let g = going_of x y b e s h up in
    session_step x y b e s s' w.line w.got h up (alike_same s s' refl refl refl refl refl) refl (λ epoch. inl refl) (grows_going w e s')
    (wire_quiet x.node.own w (y.wires b) e s s' (h.here.wires b) up (record {
      begun = g.begun;
      begun_is = g.begun_is;
      peer_is = g.peer_is;
      waiting = g.waiting;
      sends = g.sends;
      takes = g.takes;
      holds = g.holds;
      shown = most;
      record_is = g.record_is;
    }))

pub puts_paired : (x y : View) (b : ℕ) (e : LinkEnd) (s : SessionEnd) (waiting : List (List ℕ)) → ArePaired x y → IsUp (x.wires b) e s → Each (IsPacket x.node.own) waiting
    → ArePaired (with_wire x b (with_going (x.wires b) e (record s { sending = record s.sending { waiting = waiting } }))) y
puts_paired x y b e s waiting h up packets =
    let w = x.wires b in
    let s' : SessionEnd = record s { sending = record s.sending { waiting = waiting } } in
    let g = going_of x y b e s h up in
    let d = g.sends in
    session_step x y b e s s' w.line w.got h up (alike_same s s' refl refl refl refl refl) refl (λ epoch. inl refl) (grows_going w e s')
    (wire_quiet x.node.own w (y.wires b) e s s' (h.here.wires b) up (record {
      begun = g.begun;
      begun_is = g.begun_is;
      peer_is = g.peer_is;
      waiting = packets;
      sends = record { window = d.window; below = d.below; count = d.count; kept = d.kept; acked_taken = d.acked_taken; taken_numbered = d.taken_numbered };
      takes = g.takes;
      holds = g.holds;
      shown = g.shown;
      record_is = g.record_is;
    }))

-- ---- a frame of the peer

-- what was read of a frame is what was written
pub of_session : (own : ℕ) (v w : Wire) (f : Frame) (es er : ℕ) (p : Fields) → IsFrame own v w f → es < 2 ^ 64 → er < 2 ^ 64 → Fits p → f.bytes ≡ frame_of es er (spelling p) → is_traffic p.header ≡ true → IsOfSession v w f es er p
of_session own v w f es er p h es_fits er_fits fits bytes traffic =
    let same_es : h.es ≡ es = sym (es_of-frame h.es h.er (spelling h.packet) h.es_fits h.er_fits) ∙ ap es_of (sym h.bytes ∙ bytes) ∙ es_of-frame es er (spelling p) es_fits er_fits in
    let same_er : h.er ≡ er = sym (er_of-frame h.es h.er (spelling h.packet) h.es_fits h.er_fits) ∙ ap er_of (sym h.bytes ∙ bytes) ∙ er_of-frame es er (spelling p) es_fits er_fits in
    let same : h.packet ≡ p = same_packet h.es h.er es er h.packet p h.fits fits (sym h.bytes ∙ bytes) in
    let session = h.session (ap (λ (q : Fields). is_traffic q.header) same ∙ traffic) in
    subst (λ q. IsOfSession v w f es er q) same (subst (λ n. IsOfSession v w f es n h.packet) same_er (subst (λ n. IsOfSession v w f n h.er h.packet) same_es session))

-- the epochs of a session have 64 bits
pub epoch_small : (epoch boot : ℕ) → boot_of epoch ≡ boot → boot < 2 ^ 32 → epoch < 2 ^ 64
epoch_small epoch boot is fits = omega arith

pub record FitsEpochs (s : SessionEnd) : Type 0 where
  pub epoch : s.epoch < 2 ^ 64
  pub peer_epoch : s.peer_epoch < 2 ^ 64

pub epochs_fit : (x y : View) (b : ℕ) (e : LinkEnd) (s : SessionEnd) → ArePaired x y → IsUp (x.wires b) e s → FitsEpochs s
epochs_fit x y b e s h up =
    let end = h.here.ends b e up.end_is in
    let going = end.going up.up in
    let same : going.0 ≡ s = same_some going.0 s e.session going.1 up.session_is in
    let epoch : s.epoch ≡ e.fsm.own = ap (λ (t : SessionEnd). t.epoch) (sym same) ∙ going.2 in
    let peer : e.fsm.peer ≡ Some s.peer_epoch = going.3 ∙ ap (λ (t : SessionEnd). Some t.peer_epoch) same in
    record {
      epoch = subst (λ n. n < 2 ^ 64) (sym epoch) (epoch_small e.fsm.own x.node.boot end.boot h.here.node.boot);
      peer_epoch = (end.peer_fits s.peer_epoch peer).0;
    }

pub hears_session : (x y : View) (b : ℕ) (e : LinkEnd) (s : SessionEnd) (p : Fields) → ArePaired x y → IsUp (x.wires b) e s → (a : Hears x y b s p) → IsOfSession (y.wires b) (x.wires b) a.frame s.peer_epoch s.epoch p
hears_session x y b e s p h up a =
    let fit = epochs_fit x y b e s h up in
    let frame = subst (λ c. IsFrame y.node.own (y.wires c) (x.wires c) a.frame) a.bearer_is (h.there.frames a.place a.frame a.there) in
    of_session y.node.own (y.wires b) (x.wires b) a.frame s.peer_epoch s.epoch p frame fit.peer_epoch fit.epoch a.fits a.bytes a.traffic

-- it reads an acknowledgement
pub releases_paired : (x y : View) (b : ℕ) (e : LinkEnd) (s : SessionEnd) (p : Fields) → ArePaired x y → IsUp (x.wires b) e s → Hears x y b s p → ArePaired (with_wire x b (with_going (x.wires b) e (after_acknowledgement s p.acknowledgement))) y
releases_paired x y b e s p h up a =
    let w = x.wires b in
    let s' = after_acknowledgement s p.acknowledgement in
    let g = going_of x y b e s h up in
    let o = hears_session x y b e s p h up a in
    let count = g.sends.count in
    let fresh = a.own_fresh in
    let near = o.told_recent in
    let d = direction_releases s.sending (length ((y.wires b).got s.epoch)) (w.line s.epoch) o.told g.sends o.told_taken (omega arith) in
    session_step x y b e s s' w.line w.got h up (alike_same s s' refl refl refl refl refl) refl (λ epoch. inl refl) (grows_going w e s')
    (wire_quiet x.node.own w (y.wires b) e s s' (h.here.wires b) up (record {
      begun = g.begun;
      begun_is = g.begun_is;
      peer_is = g.peer_is;
      waiting = g.waiting;
      sends = subst (λ n. IsDirection (after_acknowledgement s n).sending (length ((y.wires b).got s.epoch)) (w.line s.epoch)) (sym o.told_is) d;
      takes = g.takes;
      holds = g.holds;
      shown = g.shown;
      record_is = g.record_is;
    }))
