-- The sessions of a node, where its link end keeps its epochs.
use Rattle.std.proofs.Common.{◌≡◌, ◌≤◌, ℕ, true, false, List, Option, Some, refl, sym, ap, ◌∙◌, subst, arith}
use Rattle.tipc_types.specs.LinkStates.{is_up}
use Rattle.tipc_link.specs.Links.{LinkEnd, record_of, with_session}
use Rattle.tipc_link.specs.Records.{Received}
use Rattle.tipc_link.specs.Sessions.{SessionEnd}
use Rattle.tipc_link_fsm.specs.Table.{is_held}
use Rattle.tipc_link.proofs.Ends.{Alike, AreLike, IsStill}
use Rattle.tipc_paired.proofs.wires.Wires.{epoch_of_end, same_some, session_of_up}
use Rattle.tipc_paired.specs.Deeds.{IsUp}
use Rattle.tipc_paired.specs.Paired.{IsEpochs, IsReached, IsRecords, long_ago, on_record, untaken}
use Rattle.tipc_paired.specs.Views.{Begun, Frame, Node, Wire, epoch_on, es_of, session_on}

-- the wire keeps its epochs, and its session where it has one
pub record IsSteady (n : Node) (w w' : Wire) : Type 0 where
  pub begun : (epoch : ℕ) → w'.begun epoch ≡ w.begun epoch
  pub epoch : epoch_on n w' ≡ epoch_on n w
  pub onward : (s : SessionEnd) → session_on w ≡ Some s → (s' : SessionEnd) × (session_on w' ≡ Some s') × (s'.epoch ≡ s.epoch)
  pub back : (s' : SessionEnd) → session_on w' ≡ Some s' → (s : SessionEnd) × (session_on w ≡ Some s) × (s'.epoch ≡ s.epoch) × (s'.peer_epoch ≡ s.peer_epoch)
  -- it keeps its link end, whose epoch stays, and the highest of the peer's never falls; none that wasn't is Held
  pub end : (e' : LinkEnd) → w'.end ≡ Some e' → (e : LinkEnd) × (w.end ≡ Some e) × (e'.fsm.own ≡ e.fsm.own) × (is_held e.fsm.state ≡ false → is_held e'.fsm.state ≡ false)
  pub end_on : (e : LinkEnd) → w.end ≡ Some e → (e' : LinkEnd) × (w'.end ≡ Some e') × (e.fsm.highest ≤ e'.fsm.highest)

pub epochs_steady : (n : Node) (b : ℕ) (told heard : List Frame) (w w' v : Wire) → IsEpochs n b told heard w v → IsSteady n w w' → IsEpochs n b told heard w' v
epochs_steady n b told heard w w' v h m = record {
  unborn = λ epoch is.
      let least = is.0 in
      let now = m.epoch in
      m.begun epoch ∙ h.unborn epoch (omega arith, λ s on same. (let next = m.onward s on in is.1 next.0 next.1 (next.2 ∙ same)));
  some = λ epoch g is. h.some epoch g (sym (m.begun epoch) ∙ is);
  lasts = λ epoch g is. h.lasts epoch g (sym (m.begun epoch) ∙ is);
  now = λ s' g on is. (let old = m.back s' on in h.now old.0 g old.1 (ap w.begun (sym old.2) ∙ sym (m.begun s'.epoch) ∙ is));
  shown = λ epoch g is. h.shown epoch g (sym (m.begun epoch) ∙ is);
  named = λ k f there bearer boot. (
      let old = h.named k f there bearer boot in
      let new = m.end_on old.end old.end_is in
      let high = new.2 in
      let few = old.highest in
      record { end = new.0; end_is = new.1; highest = omega arith });
  bounded = λ k f g there bearer is. h.bounded k f g there bearer (sym (m.begun (es_of f.bytes)) ∙ is);
  told_in = λ k f g there bearer is. h.told_in k f g there bearer (sym (m.begun (es_of f.bytes)) ∙ is);
  unheld = λ k f e' there bearer is own. (let old = m.end e' is in old.3 (h.unheld k f old.0 there bearer old.1 (own ∙ old.2)));
  agree = λ epoch g k g_is k_is back. h.agree epoch g k (sym (m.begun epoch) ∙ g_is) k_is back;
  entered = λ epoch g is. h.entered epoch g (sym (m.begun epoch) ∙ is);
}

-- ---- receiving records

-- a record of this epoch or a later one
pub reached_on : (boot : ℕ) (w w' v : Wire) (epoch : ℕ) → IsReached boot w v epoch → w'.got epoch ≡ w.got epoch
    → ((e : LinkEnd) (r : Received) → w.end ≡ Some e → record_of e ≡ Some r → (e' : LinkEnd) × (r' : Received) × (w'.end ≡ Some e') × (record_of e' ≡ Some r') × (r.epoch ≤ r'.epoch)) → IsReached boot w' v epoch
reached_on boot w w' v epoch (untaken none) got rises = untaken (got ∙ none)
reached_on boot w w' v epoch (on_record e r is has low) got rises = (let new = rises e r is has in let high = new.4 in on_record new.0 new.1 new.2 new.3 (omega arith))
reached_on boot w w' v epoch (long_ago there is before) got rises = long_ago there is before

-- the records of a wire whose end has the same record as before, and took no lower epoch
pub records_on : (n : Node) (w w' v : Wire) (e e' : LinkEnd) → IsRecords n w v → w.end ≡ Some e → w'.end ≡ Some e' → ((epoch : ℕ) → w'.got epoch ≡ w.got epoch) → record_of e' ≡ record_of e → e.fsm.highest ≤ e'.fsm.highest → IsRecords n w' v
records_on n w w' v e e' h is is' got same high = record {
  reached = λ epoch. reached_on n.boot w w' v epoch (h.reached epoch) (got epoch) (λ d r end has. (
      let one = same_some e d w.end is end in
      (e', r, is', same ∙ ap record_of one ∙ has, (let low : r.epoch ≤ r.epoch = omega arith in low))));
  below = λ d r end has. (
      let one = same_some e' d w'.end is' end in
      let few = h.below e r is (sym same ∙ ap record_of one ∙ has) in
      let top : e'.fsm.highest ≡ d.fsm.highest = ap (λ (k : LinkEnd). k.fsm.highest) one in
      omega arith);
}

-- ---- a session that goes on

pub like_two : (s s' : SessionEnd) (a : Option SessionEnd) → a ≡ Some s → Alike s s' → AreLike a (Some s')
like_two s s' a is alike = record {
  onward = λ t there. (s', refl, subst (λ u. Alike u s') (same_some s t a is there) alike);
  back = λ t there. (let same : s' ≡ t = cc in (s, is, subst (Alike s) same alike));
}

pub still_session : (e : LinkEnd) (s s' : SessionEnd) → e.session ≡ Some s → Alike s s' → IsStill e (with_session e s')
still_session e s s' is alike = record {
  own = refl;
  peer = refl;
  bearer = refl;
  contact = refl;
  seen = refl;
  epoch = refl;
  peer_epoch = refl;
  highest = refl;
  up = refl;
  sessions = like_two s s' e.session is alike;
}

-- the session that a wire with this end has
pub session_is : (e : LinkEnd) (s s' : SessionEnd) (begun : ℕ → Option Begun) (line got : ℕ → List (List ℕ)) → is_up e.fsm.state ≡ true → session_on (record { end = Some (with_session e s'); begun = begun; line = line; got = got }) ≡ Some s'
session_is e s s' begun line got up = session_of_up _ (with_session e s') s' (record { end_is = refl; up = up; session_is = refl })

pub steady_session : (n : Node) (w : Wire) (e : LinkEnd) (s s' : SessionEnd) (line got : ℕ → List (List ℕ)) → IsUp w e s → Alike s s' → IsSteady n w (record { end = Some (with_session e s'); begun = w.begun; line = line; got = got })
steady_session n w e s s' line got h alike =
    let w' : Wire = record { end = Some (with_session e s'); begun = w.begun; line = line; got = got } in
    let now : session_on w' ≡ Some s' = session_is e s s' w.begun line got h.up in
    let was : session_on w ≡ Some s = session_of_up w e s h in
    record {
      begun = λ epoch. refl;
      epoch = epoch_of_end n w' (with_session e s') refl ∙ sym (epoch_of_end n w e h.end_is);
      onward = λ t on. (let same = same_some s t (session_on w) was on in (s', now, alike.epoch ∙ ap (λ (u : SessionEnd). u.epoch) same));
      back = λ t on. (let same = same_some s' t (session_on w') now on in (s, was, ap (λ (u : SessionEnd). u.epoch) (sym same) ∙ alike.epoch, ap (λ (u : SessionEnd). u.peer_epoch) (sym same) ∙ alike.peer_epoch));
      end = λ e' is. (let same : with_session e s' ≡ e' = cc in (e, h.end_is, ap (λ (d : LinkEnd). d.fsm.own) (sym same), λ was. ap (λ (d : LinkEnd). is_held d.fsm.state) (sym same) ∙ was));
      end_on = λ d is. (let same = same_some e d w.end h.end_is is in (with_session e s', refl, (let high = ap (λ (d : LinkEnd). d.fsm.highest) same in omega arith)));
    }
