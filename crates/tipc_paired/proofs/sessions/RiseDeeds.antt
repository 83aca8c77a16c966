-- A link goes up, and a session begins.
use Rattle.std.proofs.Common.{◌≡◌, ◌+◌, ◌==◌, ◌⊎◌, ◌<◌, ◌≤◌, ◌^◌, ℕ, if◌then◌else◌, true, false, List, [], Option, Some, None, length, refl, sym, ap, ◌∙◌, subst, inl, inr, arith}
use Rattle.std.specs.Prelude.{slice_get}
use Rattle.std.proofs.lemmas.Bool.{true≢false}
use Rattle.tipc_contact.specs.Peers.{ArePeers}
use Rattle.tipc_contact.specs.Sides.{IsNoticed}
use Rattle.tipc_send_window.specs.Sending.{fresh as none_sent}
use Rattle.tipc_link.specs.Direction.{IsDirection, IsReceiver}
use Rattle.tipc_link.specs.Links.{LinkEnd, after, known, record_in, record_of, session_of}
use Rattle.tipc_link.specs.Records.{Received, kept_for, unheard}
use Rattle.tipc_link.specs.Sessions.{SessionEnd, receiving_record}
use Rattle.tipc_link.proofs.KeptRecords.{kept_epoch}
use Rattle.tipc_link.proofs.Outliving.{own_keeps}
use Rattle.tipc_link.proofs.Directions.{holds_none}
use Rattle.tipc_link_fsm.specs.declared.changes.Change.TheVariants.{Up}
use Rattle.tipc_link_fsm.specs.Runs.{Call, ActivateArrives, BearerIsCut, ContactEnds, ForgetsPeer, Releases, ResetArrives, TickPasses, TrafficArrives, TunnelNames, outcome}
use Rattle.tipc_link_fsm.specs.Table.{Fsm, is_held, is_last}
use Rattle.tipc_link.proofs.Ends.{IsRaised, after-is, rises_raised}
use Rattle.tipc_link.proofs.EndsTurns.{Turn, fall, learn, rise, stay}
use Rattle.tipc_link.specs.Parts.{is_quiet}
use Rattle.tipc_paired.proofs.sessions.CallDeeds.{call_named, shown_fits}
use Rattle.tipc_paired.proofs.wires.Ends.{raised_end}
use Rattle.tipc_paired.proofs.wires.Sides.{peers_called}
use Rattle.tipc_paired.proofs.wires.Turns.{call_turns, shown_to, up_unheld}
use Rattle.tipc_paired.proofs.wires.EpochsKept.{reached_on}
use Rattle.tipc_paired.proofs.contacts.Mutual.{named_own, told_under, under_shown}
use Rattle.tipc_paired.proofs.wires.WireDeeds.{wire_deed}
use Rattle.tipc_paired.proofs.wires.Wires.{epoch_of_end, map_at, none_some, on_put, on_put_else, prefix_of_none, prefix_same, put_other, put_same, same_some, session_of_down, session_of_up}
use Rattle.tipc_paired.specs.Deeds.{MayCall, begun_by, with_begun}
use Rattle.tipc_paired.specs.Paired.{ArePaired, IsEnd, IsEpochs, IsGoing, IsReached, IsRecordOf, IsRecords, IsShown, IsUnder, IsWire, long_ago, on_record, untaken}
use Rattle.tipc_paired.specs.Views.{Begun, Frame, View, Wire, epoch_on, er_of, es_of, fsm_in, notice_of, put_at, said_by, session_on, side_of, with_wire}

-- A link end e of wire b went up and is e', under the peer's epoch es, which the peer told beside the end's own one, in the contact.
pub record Went (x y : View) (b : ℕ) (e e' : LinkEnd) (es : ℕ) : Type 0 where
  pub end_is : (x.wires b).end ≡ Some e
  pub raised : IsRaised e e'
  pub peer_is : e'.fsm.peer ≡ Some es
  pub fits : es < 2 ^ 64
  pub highest : e'.fsm.highest ≡ es
  pub no_lower : e.fsm.highest ≤ es
  pub seen : e'.peer_contact ≡ x.node.seen
  pub shown : IsShown y.told b es e.fsm.own x.node.seen
  pub peers : ArePeers (side_of (with_wire x b (with_begun x.node (x.wires b) e'))) (said_by x) (side_of y) (said_by y)

known_is : (p : Option ℕ) (es : ℕ) → p ≡ Some es → known p ≡ es
known_is p es is = ap known is

-- nothing was numbered or taken under the epoch before, and nothing was taken of the peer's session
fresh_epoch : (x y : View) (b : ℕ) (e e' : LinkEnd) (es : ℕ) → ArePaired x y → Went x y b e e' es → (x.wires b).begun e.fsm.own ≡ None
fresh_epoch x y b e e' es h m =
    let down : session_on (x.wires b) ≡ None = session_of_down (x.wires b) e m.end_is m.raised.was in
    (h.here.epochs b).unborn e.fsm.own ((let now = epoch_of_end x.node (x.wires b) e m.end_is in omega arith), λ s on. absurd (none_some s _ down on))

new_direction : (taken : ℕ) (line got : List (List ℕ)) → line ≡ [] → got ≡ [] → IsDirection none_sent (length got) line
new_direction taken line got no_line no_got = subst (λ xs. IsDirection none_sent (length got) xs) (sym no_line)
    (subst (λ (xs : List (List ℕ)). IsDirection none_sent (length xs) []) (sym no_got)
    (record { window = omega arith; below = omega arith; count = refl; kept = refl; acked_taken = omega arith; taken_numbered = omega arith }))

-- where nothing is begun now nothing was before
none_before : (w : Wire) (own : ℕ) (g : Begun) (epoch : ℕ) → put_at w.begun own (Some g) epoch ≡ None → w.begun epoch ≡ None
none_before w own g epoch = on_put w.begun own (Some g) (λ epoch o. o ≡ None → w.begun epoch ≡ None) (λ is. absurd (let wrong : ⊥ = cc in wrong)) (λ c is. is) epoch

pub begun_stays : (w : Wire) (own : ℕ) (g : Begun) → w.begun own ≡ None → (epoch : ℕ) (k : Begun) → w.begun epoch ≡ Some k → put_at w.begun own (Some g) epoch ≡ Some k
begun_stays w own g none epoch = on_put w.begun own (Some g) (λ epoch o. (k : Begun) → w.begun epoch ≡ Some k → o ≡ Some k) (λ k is. absurd (none_some k _ none is)) (λ c k is. is) epoch

-- the record with which it goes up, where nothing was taken of the peer's session
new_record : (own : ℕ) (w v : Wire) (e : LinkEnd) (es : ℕ) → IsWire own w v → w.end ≡ Some e → w.got es ≡ [] → IsRecordOf w v (kept_for (record_of e) es)
new_record own w v e es h is none = of (record_of e) (λ r has. h.kept e r is has)
  where
    new : IsRecordOf w v (unheard es)
    new = record { takes = ap (λ (xs : List (List ℕ)). length xs) none; holds = holds_none _; shown = omega arith }

    of : (o : Option Received) → ((r : Received) → o ≡ Some r → IsRecordOf w v r) → IsRecordOf w v (kept_for o es)
    of None kept = new
    of (Some r) kept = elim (r.epoch == es) as (λ b. IsRecordOf w v (if b then r else unheard es)) [
      | true ↦ kept r refl
      | false ↦ new
    ]

-- it has what was taken of the peer's session: that is nothing, or the record of before is of that session
pub risen_record : (x y : View) (b : ℕ) (e e' : LinkEnd) (es : ℕ) → ArePaired x y → Went x y b e e' es → IsRecordOf (x.wires b) (y.wires b) (kept_for (record_of e) es)
risen_record x y b e e' es h m = of ((h.here.records b).reached es) where
  of : IsReached x.node.boot (x.wires b) (y.wires b) es → IsRecordOf (x.wires b) (y.wires b) (kept_for (record_of e) es)
  of (untaken none) = new_record x.node.own (x.wires b) (y.wires b) e es (h.here.wires b) m.end_is none
  of (on_record d r is has low) =
      let one : d ≡ e = same_some d e _ is m.end_is in
      let had : record_of e ≡ Some r = ap record_of (sym one) ∙ has in
      let few = (h.here.records b).below e r m.end_is had in
      let high = m.no_lower in
      let same : r.epoch ≡ es = omega arith in
      let kept : kept_for (record_of e) es ≡ r = ap (λ o. kept_for o es) had ∙ ap (kept_for (Some r)) (sym same) ∙ own_keeps r in
      subst (IsRecordOf (x.wires b) (y.wires b)) (sym kept) ((h.here.wires b).kept e r m.end_is had)
  of (long_ago k is before) =
      let t = m.shown in
      let named : er_of t.frame.bytes ≤ k.peer_epoch = (h.there.epochs b).bounded t.place t.frame k t.there t.bearer_is (ap (y.wires b).begun t.es_is ∙ is) in
      let er = t.er_is in
      let boot = (h.here.ends b e m.end_is).boot in
      absurd (let wrong : ⊥ = omega arith in wrong)

pub went_wire : (x y : View) (b : ℕ) (e e' : LinkEnd) (es : ℕ) → ArePaired x y → Went x y b e e' es → IsWire x.node.own (with_begun x.node (x.wires b) e') (y.wires b)
went_wire x y b e e' es h m =
    let w = x.wires b in
    let v = y.wires b in
    let w' = with_begun x.node w e' in
    let wire = h.here.wires b in
    let own : e'.fsm.own ≡ e.fsm.own = m.raised.epoch in
    let s = session_of e' in
    let g = begun_by x.node e' in
    let peer : known e'.fsm.peer ≡ es = known_is e'.fsm.peer es m.peer_is in
    let fresh : w.begun e'.fsm.own ≡ None = ap w.begun own ∙ fresh_epoch x y b e e' es h m in
    let no_line : w.line e'.fsm.own ≡ [] = wire.unborn e'.fsm.own fresh in
    let no_got : v.got e'.fsm.own ≡ [] = prefix_of_none (v.got e'.fsm.own) (w.line e'.fsm.own) ((h.there.wires b).prefix e'.fsm.own) no_line in
    let same_epoch : m.raised.peer_epoch ≡ es = same_some m.raised.peer_epoch es e'.fsm.peer m.raised.peer_is m.peer_is in
    let kept : receiving_record s ≡ kept_for (record_of e) es = m.raised.kept ∙ ap (kept_for (record_of e)) same_epoch in
    let record_is : s.record_epoch ≡ s.peer_epoch = ap (λ (r : Received). r.epoch) kept ∙ kept_epoch (record_of e) es ∙ sym peer in
    let kept_record : IsRecordOf w v (receiving_record s) = subst (IsRecordOf w v) (sym kept) (risen_record x y b e e' es h m) in
    let now : w'.begun e'.fsm.own ≡ Some g = put_same w.begun e'.fsm.own (Some g) in
    record {
      unborn = λ epoch is. wire.unborn epoch (none_before w e'.fsm.own g epoch is);
      packets = wire.packets;
      window = wire.window;
      prefix = wire.prefix;
      going = λ r on. subst (IsGoing x.node.own w' v) (same_some s r _ (session_of_up w' e' s (record { end_is = refl; up = m.raised.up; session_is = m.raised.session })) on) (record {
        begun = g;
        begun_is = now;
        peer_is = refl;
        waiting = λ k bytes is. absurd (let wrong : ⊥ = cc in wrong);
        sends = new_direction 0 _ _ no_line no_got;
        takes = ap (λ n. length (w.got n)) (sym record_is) ∙ kept_record.takes;
        holds = subst (λ n. IsReceiver s.held s.taken (v.line n)) record_is kept_record.holds;
        shown = subst (λ n. s.shown ≤ length (v.line n) + 1) record_is kept_record.shown;
        record_is = record_is;
      });
      kept = λ d r end has. (
          let one : e' ≡ d = cc in
          let is : record_in e'.session e'.early ≡ Some (receiving_record s) = ap (λ o. record_in o e'.early) m.raised.session in
          let same : receiving_record s ≡ r = same_some (receiving_record s) r (record_of e') is (ap record_of one ∙ has) in
          let k = subst (IsRecordOf w v) same kept_record in
          record { takes = k.takes; holds = k.holds; shown = k.shown });
    }

-- its record is of the epoch under which it goes up
went_records : (x y : View) (b : ℕ) (e e' : LinkEnd) (es : ℕ) → ArePaired x y → Went x y b e e' es → IsRecords x.node (with_begun x.node (x.wires b) e') (y.wires b)
went_records x y b e e' es h m = record {
  reached = λ epoch. reached_on x.node.boot (x.wires b) w' (y.wires b) epoch ((h.here.records b).reached epoch) refl (λ d r is had. (
      let one : d ≡ e = same_some d e _ is m.end_is in
      let few = (h.here.records b).below e r m.end_is (ap record_of (sym one) ∙ had) in
      let high = m.no_lower in
      let at = of_epoch in
      (e', receiving_record s, refl, has, (let low : r.epoch ≤ s.record_epoch = omega arith in low))));
  below = λ d r is had. (
      let one : e' ≡ d = cc in
      let same : receiving_record s ≡ r = same_some (receiving_record s) r (record_of e') has (ap record_of one ∙ had) in
      let at : s.record_epoch ≡ r.epoch = ap (λ (k : Received). k.epoch) same in
      let es_is = of_epoch in
      let top = m.highest in
      let last = ap (λ (u : LinkEnd). u.fsm.highest) one in
      omega arith);
}
  where
    w' : Wire
    w' = with_begun x.node (x.wires b) e'

    s : SessionEnd
    s = session_of e'

    has : record_of e' ≡ Some (receiving_record s)
    has = ap (λ o. record_in o e'.early) m.raised.session

    of_epoch : s.record_epoch ≡ es
    of_epoch = ap (λ (r : Received). r.epoch) m.raised.kept ∙ kept_epoch (record_of e) m.raised.peer_epoch ∙ same_some m.raised.peer_epoch es e'.fsm.peer m.raised.peer_is m.peer_is

-- ---- the contact of the session

-- a frame of the epoch was told under the present contact number
told_now : (x y : View) (b : ℕ) (e e' : LinkEnd) (es k : ℕ) (f : Frame) → ArePaired x y → Went x y b e e' es → slice_get x.told k ≡ Some f → f.bearer ≡ b → es_of f.bytes ≡ e.fsm.own → f.contact ≡ x.node.contact
told_now x y b e e' es k f h m there bearer own =
    let speaks = h.peers.a_speaks in
    let goes_on : is_last (es_of f.bytes) ≡ false = ap is_last own ∙ m.raised.goes_on in
    let end : fsm_in (x.wires b).end ≡ Some e.fsm = ap fsm_in m.end_is in
    sym (speaks.shown k (notice_of f) (map_at notice_of x.told k f there) goes_on)
    ∙ ap (λ c. speaks.contact_of c (es_of f.bytes)) bearer ∙ ap (speaks.contact_of b) own ∙ speaks.now b e.fsm end m.raised.goes_on

-- the peer's session that is with it began in the same contact
pub went_agrees : (x y : View) (b : ℕ) (e e' : LinkEnd) (es : ℕ) → ArePaired x y → Went x y b e e' es → (k : Begun) → (y.wires b).begun (known e'.fsm.peer) ≡ Some k → k.peer_epoch ≡ e'.fsm.own → (x.node.contact ≡ k.peer_contact) × (x.node.seen ≡ k.contact)
went_agrees x y b e e' es h m k is back =
    let epochs = h.there.epochs b in
    let there : (y.wires b).begun es ≡ Some k = ap (y.wires b).begun (sym (known_is e'.fsm.peer es m.peer_is)) ∙ is in
    let t = m.shown in
    let told : t.frame.contact ≡ k.contact = epochs.told_in t.place t.frame k t.there t.bearer_is (ap (y.wires b).begun t.es_is ∙ there) in
    let own : k.peer_epoch ≡ e.fsm.own = back ∙ m.raised.epoch in
    let heard = epochs.shown es k there in
    let number : heard.frame.contact ≡ x.node.contact = told_now x y b e e' es heard.place heard.frame h m heard.there heard.bearer_is (heard.es_is ∙ own) in
    (sym number ∙ heard.contact_is, sym t.contact_is ∙ told)

-- the peer told its epoch under the present contact number
pub peer_under : (x y : View) (b : ℕ) (e e' : LinkEnd) (es : ℕ) → Went x y b e e' es → IsUnder y.told b es x.node.seen
peer_under x y b e e' es m =
    let t = m.shown in
    record { place = t.place; frame = t.frame; there = t.there; bearer_is = t.bearer_is; es_is = t.es_is; contact_is = t.contact_is }

pub went_epochs : (x y : View) (b : ℕ) (e e' : LinkEnd) (es : ℕ) → ArePaired x y → Went x y b e e' es → IsEpochs x.node b x.told y.told (with_begun x.node (x.wires b) e') (y.wires b)
went_epochs x y b e e' es h m =
    let w = x.wires b in
    let v = y.wires b in
    let w' = with_begun x.node w e' in
    let old = h.here.epochs b in
    let own : e'.fsm.own ≡ e.fsm.own = m.raised.epoch in
    let g = begun_by x.node e' in
    let peer : known e'.fsm.peer ≡ es = known_is e'.fsm.peer es m.peer_is in
    let s = session_of e' in
    let down : session_on w ≡ None = session_of_down w e m.end_is m.raised.was in
    let was = epoch_of_end x.node w e m.end_is in
    let is = epoch_of_end x.node w' e' refl in
    let on : session_on w' ≡ Some s = session_of_up w' e' s (record { end_is = refl; up = m.raised.up; session_is = m.raised.session }) in
    let now : w'.begun e'.fsm.own ≡ Some g = put_same w.begun e'.fsm.own (Some g) in
    let least : 1 ≤ e'.fsm.own = (let some = h.peers.a_speaks.some in let order = h.peers.a_speaks.order b e.fsm (ap fsm_in m.end_is) in omega arith) in
    let high = m.no_lower in
    record {
      unborn = λ epoch none. (
          let other = none.1 s on in
          let least = none.0 in
          put_other w.begun e'.fsm.own (Some g) epoch (λ same. other (sym same)) ∙ old.unborn epoch ((let low : epoch_on x.node w ≤ epoch = omega arith in low), λ r there. absurd (none_some r _ down there)));
      some = λ epoch. on_put w.begun e'.fsm.own (Some g) (λ epoch o. (k : Begun) → o ≡ Some k → 1 ≤ epoch) (λ k there. least) old.some epoch;
      lasts = λ epoch. on_put w.begun e'.fsm.own (Some g) (λ epoch o. (k : Begun) → o ≡ Some k → is_last epoch ≡ false) (λ k there. ap is_last own ∙ m.raised.goes_on) old.lasts epoch;
      now = λ r k there begun_is. (
          let same = same_some s r (session_on w') on there in
          let one : g ≡ k = same_some g k (w'.begun e'.fsm.own) now (ap (λ (u : SessionEnd). w'.begun u.epoch) same ∙ begun_is) in
          (ap (λ (u : Begun). u.contact) (sym one), ap (λ (u : Begun). u.peer_contact) (sym one)));
      shown = on_put w.begun e'.fsm.own (Some g) (λ epoch o. (k : Begun) → o ≡ Some k → IsShown y.told b k.peer_epoch epoch k.peer_contact)
          (λ k some. (
          let one : g ≡ k = cc in
          subst (λ (u : Begun). IsShown y.told b u.peer_epoch e'.fsm.own u.peer_contact) one
          (subst (λ n. IsShown y.told b n e'.fsm.own x.node.seen) (sym peer) (subst (λ n. IsShown y.told b es n x.node.seen) (sym own) m.shown))))
          old.shown;
      named = λ k f there bearer boot. (
          let few = old.named k f there bearer boot in
          let one : few.end ≡ e = same_some few.end e _ few.end_is m.end_is in
          let was = ap (λ (u : LinkEnd). u.fsm.highest) one in
          let low = few.highest in
          let top = m.highest in
          record { end = e'; end_is = refl; highest = omega arith });
      bounded = λ k f g' there bearer. on_put_else w.begun e'.fsm.own (Some g) (λ epoch o. epoch ≡ es_of f.bytes → (u : Begun) → o ≡ Some u → er_of f.bytes ≤ u.peer_epoch)
          (λ same u some. (
          let one : g ≡ u = cc in
          let few = named_own x y b k f e h there bearer m.end_is (sym same ∙ own) in
          let to : g.peer_epoch ≡ u.peer_epoch = ap (λ (z : Begun). z.peer_epoch) one in
          omega arith))
          (λ epoch other same u some. old.bounded k f u there bearer (ap w.begun (sym same) ∙ some)) (es_of f.bytes) refl g';
      told_in = λ k f g' there bearer. on_put_else w.begun e'.fsm.own (Some g) (λ epoch o. epoch ≡ es_of f.bytes → (u : Begun) → o ≡ Some u → f.contact ≡ u.contact)
          (λ same u some. (
          let one : g ≡ u = cc in
          told_now x y b e e' es k f h m there bearer (sym same ∙ own) ∙ ap (λ (z : Begun). z.contact) one))
          (λ epoch other same u some. old.told_in k f u there bearer (ap w.begun (sym same) ∙ some)) (es_of f.bytes) refl g';
      unheld = λ k f d there bearer end same. (
          let one : e' ≡ d = cc in
          ap (λ (u : LinkEnd). is_held u.fsm.state) (sym one) ∙ up_unheld e'.fsm.state m.raised.up);
      agree = on_put_else w.begun e'.fsm.own (Some g) (λ epoch o. (u k : Begun) → o ≡ Some u → v.begun u.peer_epoch ≡ Some k → k.peer_epoch ≡ epoch → (u.contact ≡ k.peer_contact) × (u.peer_contact ≡ k.contact))
          (λ u k some there back. (
          let one : g ≡ u = cc in
          let both = went_agrees x y b e e' es h m k (ap (λ (z : Begun). v.begun z.peer_epoch) one ∙ there) back in
          (sym (ap (λ (z : Begun). z.contact) one) ∙ both.0, sym (ap (λ (z : Begun). z.peer_contact) one) ∙ both.1)))
          (λ epoch other. old.agree epoch);
      entered = on_put w.begun e'.fsm.own (Some g) (λ epoch o. (k : Begun) → o ≡ Some k → (i : ℕ) (f : Frame) → slice_get y.told i ≡ Some f → f.contact < k.peer_contact → f.peer_contact ≤ k.contact)
          (λ k some i f there before. (
          let one : g ≡ k = cc in
          let contact : x.node.contact ≡ k.contact = ap (λ (z : Begun). z.contact) one in
          let low = h.order.b_says.peer_number i (notice_of f) (map_at notice_of y.told i f there) in
          omega arith))
          old.entered;
    }

-- ---- the deed

went_paired : (x y : View) (b : ℕ) (e e' : LinkEnd) (es : ℕ) → ArePaired x y → Went x y b e e' es → ArePaired (with_wire x b (with_begun x.node (x.wires b) e')) y
went_paired x y b e e' es h m =
    let w = x.wires b in
    let w' = with_begun x.node w e' in
    let own : e'.fsm.own ≡ e.fsm.own = m.raised.epoch in
    let fresh : w.begun e'.fsm.own ≡ None = ap w.begun own ∙ fresh_epoch x y b e e' es h m in
    let end : IsEnd x.node b e' = raised_end x.node b e e' (h.here.ends b e m.end_is) m.raised m.seen (λ epoch known. (
    let here = m.peer_is in let same : es ≡ epoch = cc in (subst (λ n. n < 2 ^ 64) same m.fits, sym same ∙ sym m.highest))) in
    wire_deed x y b w' h (record {
      grows = record {
        line = λ epoch. prefix_same (w.line epoch);
        got = λ epoch. prefix_same (w.got epoch);
        begun = begun_stays w e'.fsm.own (begun_by x.node e') fresh;
      };
      end = λ d is. (let same : e' ≡ d = cc in subst (IsEnd x.node b) same end);
      wire = went_wire x y b e e' es h m;
      records = went_records x y b e e' es h m;
      highest = λ d is. (let same : e' ≡ d = cc in inr (x.node.seen, subst (λ (k : LinkEnd). IsUnder y.told b k.fsm.highest x.node.seen) same (subst (λ n. IsUnder y.told b n x.node.seen) (sym m.highest) (under_shown y.told b es e.fsm.own x.node.seen m.shown))));
      epochs = went_epochs x y b e e' es h m;
      peers = m.peers;
    })

first_pair : {A B : Type 0} (p q : A × B) → ◌≡◌ {A = Option (A × B)} (Some p) (Some q) → p ≡ q
first_pair p q is = cc

-- a session that the peer began under an epoch that it told under a contact number began under that number
told_contact : (x y : View) (b es contact : ℕ) (k : Begun) → ArePaired x y → (y.wires b).begun es ≡ Some k → IsNoticed (said_by y) b es contact → k.contact ≡ contact
told_contact x y b es contact k h is told =
    let t = told_under y b es contact told in
    sym ((h.there.epochs b).told_in t.place t.frame k t.there t.bearer_is (ap (y.wires b).begun t.es_is ∙ is)) ∙ t.contact_is

shown_same : (y : View) (b contact : ℕ) (a c : ℕ × ℕ) → a ≡ c → IsShown y.told b a.0 a.1 contact → IsShown y.told b c.0 c.1 contact
shown_same y b contact a c same t = subst (λ (p : ℕ × ℕ). IsShown y.told b p.0 p.1 contact) same t

-- what a call that takes the link up shows was told beside the end's own epoch, in the contact
rise_shown : (x y : View) (b : ℕ) (call : Call) (es er : ℕ) → ArePaired x y → MayCall x y b call → shown_to call ≡ Some (es, er) → 1 ≤ er → IsNoticed (said_by y) b es x.node.seen → IsShown y.told b es er x.node.seen
rise_shown x y b (ResetArrives k held) es er h may is some told = absurd (let second : 0 ≡ er = ap (λ (p : ℕ × ℕ). p.1) (first_pair (k, 0) (es, er) is) in let wrong : ⊥ = omega arith in wrong)
rise_shown x y b (ActivateArrives k n) es er h may is some told = shown_same y b x.node.seen (k, n) (es, er) (first_pair (k, n) (es, er) is) may
rise_shown x y b (TrafficArrives k n) es er h may is some told =
    let same = first_pair (k, n) (es, er) is in
    let begun = ap (y.wires b).begun (ap (λ (p : ℕ × ℕ). p.0) (sym same)) ∙ may.begun_is in
    shown_same y b x.node.seen (k, n) (es, er) same (subst (IsShown y.told b k n) (told_contact x y b es x.node.seen may.begun h begun told) may.shown)
rise_shown x y b (TickPasses held) es er h may is some told = absurd (let wrong : ⊥ = cc in wrong)
rise_shown x y b (BearerIsCut held) es er h may is some told = absurd (let wrong : ⊥ = cc in wrong)
rise_shown x y b (TunnelNames epoch) es er h may is some told = absurd (let wrong : ⊥ = cc in wrong)
rise_shown x y b Releases es er h may is some told = absurd (let wrong : ⊥ = cc in wrong)
rise_shown x y b ForgetsPeer es er h may is some told = absurd may
rise_shown x y b ContactEnds es er h may is some told = absurd may

-- the highest epoch of the peer when the link went up
rise_highest : (f after : Fsm) (es : ℕ) → ((epoch : ℕ) → f.peer ≡ Some epoch → (epoch < 2 ^ 64) × (epoch ≡ f.highest)) → ((after.highest ≡ es) × (f.highest ≤ es)) ⊎ ((f.peer ≡ Some es) × (after.highest ≡ f.highest))
    → (after.highest ≡ es) × (f.highest ≤ es)
rise_highest f after es fits (inl high) = high
rise_highest f after es fits (inr known) = let same = (fits es known.0).1 in (known.1 ∙ sym same, omega arith)

went_turn : (x y : View) (b : ℕ) (e : LinkEnd) (call : Call) → ArePaired x y → (x.wires b).end ≡ Some e → MayCall x y b call → (outcome e.fsm call).change ≡ Up → Turn e.fsm (shown_to call) (outcome e.fsm call)
    → (es : ℕ) × Went x y b e (after e (outcome e.fsm call)) es
went_turn x y b e call h is may up (stay m) = absurd (true≢false (sym m.quiet ∙ ap is_quiet up))
went_turn x y b e call h is may up (learn m) = absurd (let one = m.change in let wrong : ⊥ = cc in wrong)
went_turn x y b e call h is may up (fall m) = absurd (let one = m.change in let wrong : ⊥ = cc in wrong)
went_turn x y b e call h is may up (rise m) =
    let o = outcome e.fsm call in
    let e' = after e o in
    let end = h.here.ends b e is in
    let some = h.peers.a_speaks.some in
    let order = end.order in
    let fsm : e'.fsm ≡ o.after = ap (λ (d : LinkEnd). d.fsm) (after-is e o) in
    let w' = with_begun x.node (x.wires b) e' in
    let peer : e'.fsm.peer ≡ Some m.es = ap (λ (f : Fsm). f.peer) fsm ∙ m.peer in
    let peers = peers_called x y b w' e call h is may (ap (λ (f : Fsm). Some f) fsm) in
    let told = peers.a_knows.told b m.es e'.fsm (ap (λ (w : Wire). fsm_in w.end) (put_same x.wires b w')) peer in
    let high = rise_highest e.fsm o.after m.es end.peer_fits m.highest in (
      m.es,
      record {
        end_is = is;
        raised = rises_raised e (shown_to call) o m;
        peer_is = peer;
        fits = shown_fits x y b call m.es e.fsm.own h may m.shown_is;
        highest = ap (λ (f : Fsm). f.highest) fsm ∙ high.0;
        no_lower = high.1;
        seen = ap (λ (d : LinkEnd). d.peer_contact) (after-is e o) ∙ end.seen;
        shown = rise_shown x y b call m.es e.fsm.own h may m.shown_is (omega arith) told;
        peers = peers;
      },
    )

-- a call took the link up
pub went : (x y : View) (b : ℕ) (e : LinkEnd) (call : Call) → ArePaired x y → (x.wires b).end ≡ Some e → MayCall x y b call → (outcome e.fsm call).change ≡ Up → (es : ℕ) × Went x y b e (after e (outcome e.fsm call)) es
went x y b e call h is may up = let named = call_named x y b call may in went_turn x y b e call h is may up (call_turns e.fsm call named.0 named.1)

pub rises_paired : (x y : View) (b : ℕ) (e : LinkEnd) (call : Call) → ArePaired x y → (x.wires b).end ≡ Some e → MayCall x y b call → (outcome e.fsm call).change ≡ Up
    → ArePaired (with_wire x b (with_begun x.node (x.wires b) (after e (outcome e.fsm call)))) y
rises_paired x y b e call h is may up = let m = went x y b e call h is may up in went_paired x y b e (after e (outcome e.fsm call)) m.0 h m.1
