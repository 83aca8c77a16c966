-- A link end's bearer is mended or cut, and the end is called: it stays up or down, or goes up.
use Rattle.std.proofs.Common.{◌≡◌, ◌⊎◌, ◌<◌, ◌≤◌, ◌^◌, ℕ, Bool, true, false, Option, Some, None, option_map, length, inl, inr, refl, sym, ap, ◌∙◌, subst, arith}
use Rattle.std.specs.Prelude.{slice_get}
use Rattle.std.proofs.lemmas.Bool.{true≢false}
use Rattle.tipc_types.specs.LinkStates.{is_up}
use Rattle.tipc_contact.specs.Sides.{IsNoticed, Notice}
use Rattle.tipc_header.specs.Spelling.{spelling}
use Rattle.tipc_paired.proofs.wires.Frames.{es_of-frame}
use Rattle.tipc_link.specs.Links.{LinkEnd, after, record_of, with_fsm}
use Rattle.tipc_link.specs.Sessions.{SessionEnd, after_state}
use Rattle.tipc_link_fsm.specs.declared.changes.Change.{Change}
use Rattle.tipc_link_fsm.specs.declared.changes.Change.TheVariants.{Up, Answer}
use Rattle.tipc_link_fsm.specs.Runs.{Call, ActivateArrives, BearerIsCut, ContactEnds, ForgetsPeer, Releases, ResetArrives, TickPasses, TrafficArrives, TunnelNames, outcome}
use Rattle.tipc_link_fsm.specs.Table.{Outcome, is_held}
use Rattle.tipc_types.specs.declared.link_words.Reply.TheVariants as reply
use Rattle.tipc_link.proofs.Ends.{Alike, IsStill, after-is, alike-same, followed_early, followed_session, learns_taught, like-same, quiet_record, stays_still}
use Rattle.tipc_link.proofs.EndsTurns.{Turn, fall, learn, rise, stay}
use Rattle.tipc_link.specs.Parts.{is_quiet}
use Rattle.tipc_paired.proofs.contacts.Mutual.{told_under, under_shown}
use Rattle.tipc_paired.proofs.wires.Ends.{still_end, taught_end}
use Rattle.tipc_paired.proofs.wires.EpochsKept.{IsSteady, epochs_steady, records_on}
use Rattle.tipc_paired.proofs.wires.Growing.{Grows}
use Rattle.tipc_paired.proofs.wires.Sides.{peers_called, peers_still}
use Rattle.tipc_paired.proofs.wires.Turns.{call_turns, shown_to, stays_unheld}
use Rattle.tipc_paired.proofs.wires.WireDeeds.{high_still, wire_deed}
use Rattle.tipc_paired.proofs.wires.Wires.{epoch_of_end, is_up_of, mapped_at, prefix_same, same_some, session_of_up}
use Rattle.tipc_paired.specs.Deeds.{MayCall}
use Rattle.tipc_paired.specs.Paired.{ArePaired, IsEnd, IsFrame, IsGoing, IsRecords, IsShown, IsUnder, IsWire, IsHeardEpoch}
use Rattle.tipc_paired.specs.Views.{Frame, Node, View, Wire, es_of, fsm_in, notice_of, said_by, session_on, with_end, with_wire}
use Rattle.tipc_link.specs.Direction.{IsDirection, IsReceiver}
use Rattle.tipc_send_window.specs.Sending.{Sending}

-- ---- a link end that goes on as it was

-- sessions that differ in what is kept for answers alone
pub record AreSame (s s' : SessionEnd) : Type 0 where
  pub alike : Alike s s'
  pub sending : s'.sending ≡ s.sending
  pub taken : s'.taken ≡ s.taken
  pub held : s'.held ≡ s.held
  pub shown : s'.shown ≡ s.shown
  pub record_epoch : s'.record_epoch ≡ s.record_epoch

pub record HaveSame (a b : Option SessionEnd) : Type 0 where
  pub onward : (s : SessionEnd) → a ≡ Some s → (s' : SessionEnd) × (b ≡ Some s') × AreSame s s'
  pub back : (s' : SessionEnd) → b ≡ Some s' → (s : SessionEnd) × (a ≡ Some s) × AreSame s s'

same_same : (s : SessionEnd) → AreSame s s
same_same s = record { alike = alike-same s; sending = refl; taken = refl; held = refl; shown = refl; record_epoch = refl }

have_same : (a b : Option SessionEnd) → b ≡ a → HaveSame a b
have_same a b same = record { onward = λ s is. (s, same ∙ is, same_same s); back = λ s is. (s, sym same ∙ is, same_same s) }

told_same : (s : SessionEnd) → AreSame s (after_state s)
told_same s = record { alike = record { own = refl; peer = refl; bearer = refl; epoch = refl; peer_epoch = refl }; sending = refl; taken = refl; held = refl; shown = refl; record_epoch = refl }

have_told : (a : Option SessionEnd) → HaveSame a (option_map after_state a)
have_told None = record { onward = λ s is. absurd (let wrong : ⊥ = cc in wrong); back = λ s is. absurd (let wrong : ⊥ = cc in wrong) }
have_told (Some t) = record {
  onward = λ s is. (let same : t ≡ s = cc in (after_state s, ap (λ u. Some (after_state u)) same, told_same s));
  back = λ s' is. (let same : after_state t ≡ s' = cc in (t, refl, subst (AreSame t) same (told_same t)));
}

quiet_same : (e : LinkEnd) (change : Change) → is_quiet change ≡ true → HaveSame e.session (followed_session e change)
quiet_same e Up quiet = absurd (let wrong : ⊥ = cc in wrong)
quiet_same e (Answer (reply.State probe)) quiet = have_told e.session
quiet_same e other quiet = have_same e.session e.session refl

-- wire w' has the end e' in place of e, which is up or down as before under the same epoch, with the same session
pub record GoesOn (w : Wire) (e e' : LinkEnd) : Type 0 where
  pub end_is : w.end ≡ Some e
  pub own : e'.fsm.own ≡ e.fsm.own
  pub highest : e.fsm.highest ≤ e'.fsm.highest
  pub up : is_up e'.fsm.state ≡ is_up e.fsm.state
  pub sessions : HaveSame e.session e'.session
  pub record_is : record_of e' ≡ record_of e
  pub unheld : is_held e.fsm.state ≡ false → is_held e'.fsm.state ≡ false

pub session_onward : (w : Wire) (e e' : LinkEnd) → GoesOn w e e' → (s : SessionEnd) → session_on w ≡ Some s → (s' : SessionEnd) × (session_on (with_end w e') ≡ Some s') × AreSame s s'
session_onward w e e' m s on =
    let is = is_up_of w s on in
    let same : is.0 ≡ e = same_some is.0 e w.end is.1.end_is m.end_is in
    let up : is_up e.fsm.state ≡ true = ap (λ (d : LinkEnd). is_up d.fsm.state) (sym same) ∙ is.1.up in
    let next = m.sessions.onward s (ap (λ (d : LinkEnd). d.session) (sym same) ∙ is.1.session_is) in
    (next.0, session_of_up (with_end w e') e' next.0 (record { end_is = refl; up = m.up ∙ up; session_is = next.1 }), next.2)

pub session_back : (w : Wire) (e e' : LinkEnd) → GoesOn w e e' → (s' : SessionEnd) → session_on (with_end w e') ≡ Some s' → (s : SessionEnd) × (session_on w ≡ Some s) × AreSame s s'
session_back w e e' m s' on =
    let is = is_up_of (with_end w e') s' on in
    let same : e' ≡ is.0 = (let there = is.1.end_is in cc) in
    let up : is_up e'.fsm.state ≡ true = ap (λ (d : LinkEnd). is_up d.fsm.state) same ∙ is.1.up in
    let old = m.sessions.back s' (ap (λ (d : LinkEnd). d.session) same ∙ is.1.session_is) in
    (old.0, session_of_up w e old.0 (record { end_is = m.end_is; up = sym m.up ∙ up; session_is = old.1 }), old.2)

steady_on : (n : Node) (w : Wire) (e e' : LinkEnd) → GoesOn w e e' → IsSteady n w (with_end w e')
steady_on n w e e' m = record {
  begun = λ epoch. refl;
  epoch = epoch_of_end n (with_end w e') e' refl ∙ m.own ∙ sym (epoch_of_end n w e m.end_is);
  onward = λ s on. (let next = session_onward w e e' m s on in (next.0, next.1, next.2.alike.epoch));
  back = λ s' on. (let old = session_back w e e' m s' on in (old.0, old.1, old.2.alike.epoch, old.2.alike.peer_epoch));
  end = λ d is. (let same : e' ≡ d = cc in (e, m.end_is, ap (λ (d : LinkEnd). d.fsm.own) (sym same) ∙ m.own, λ was. ap (λ (d : LinkEnd). is_held d.fsm.state) (sym same) ∙ m.unheld was));
  end_on = λ d is. (let same = same_some e d w.end m.end_is is in (e', refl, (let high = m.highest in let there = ap (λ (d : LinkEnd). d.fsm.highest) same in omega arith)));
}

going_same : (own : ℕ) (w v : Wire) (e' : LinkEnd) (s s' : SessionEnd) → IsGoing own w v s → AreSame s s' → IsGoing own (with_end w e') v s'
going_same own w v e' s s' g m = record {
  begun = g.begun;
  begun_is = ap w.begun m.alike.epoch ∙ g.begun_is;
  peer_is = g.peer_is ∙ sym m.alike.peer_epoch;
  waiting = λ k bytes is. g.waiting k bytes (ap (λ (z : Sending). slice_get z.waiting k) (sym m.sending) ∙ is);
  sends = subst (λ z. IsDirection z (length (v.got s'.epoch)) (w.line s'.epoch)) (sym m.sending)
      (subst (λ n. IsDirection s.sending (length (v.got n)) (w.line n)) (sym m.alike.epoch) g.sends);
  takes = ap (λ n. length (w.got n)) m.alike.peer_epoch ∙ g.takes ∙ sym m.taken;
  holds = subst (λ z. IsReceiver z s'.taken (v.line s'.peer_epoch)) (sym m.held)
      (subst (λ n. IsReceiver s.held n (v.line s'.peer_epoch)) (sym m.taken)
      (subst (λ n. IsReceiver s.held s.taken (v.line n)) (sym m.alike.peer_epoch) g.holds));
  shown = (let low = g.shown in let same = m.shown in let line = ap (λ n. length (v.line n)) m.alike.peer_epoch in omega (arith, low, same, line));
  record_is = m.record_epoch ∙ g.record_is ∙ sym m.alike.peer_epoch;
}

wire_on : (own : ℕ) (w v : Wire) (e e' : LinkEnd) → IsWire own w v → GoesOn w e e' → IsWire own (with_end w e') v
wire_on own w v e e' h m = record {
  unborn = h.unborn;
  packets = h.packets;
  window = h.window;
  prefix = h.prefix;
  going = λ s' on. (let old = session_back w e e' m s' on in going_same own w v e' old.0 s' (h.going old.0 old.1) old.2);
  kept = λ d r is has. (let same : e' ≡ d = cc in let k = h.kept e r m.end_is (sym m.record_is ∙ ap record_of same ∙ has) in record { takes = k.takes; holds = k.holds; shown = k.shown });
}

records_end : (n : Node) (w v : Wire) (e e' : LinkEnd) → IsRecords n w v → GoesOn w e e' → IsRecords n (with_end w e') v
records_end n w v e e' h m = records_on n w (with_end w e') v e e' h m.end_is refl (λ epoch. refl) m.record_is m.highest

grows_end : (w : Wire) (e' : LinkEnd) → Grows w (with_end w e')
grows_end w e' = record { line = λ epoch. prefix_same (w.line epoch); got = λ epoch. prefix_same (w.got epoch); begun = λ epoch g is. is }

-- its bearer is mended or cut
pub turns_paired : (x y : View) (b : ℕ) (e : LinkEnd) (mended : Bool) → ArePaired x y → (x.wires b).end ≡ Some e → ArePaired (with_wire x b (with_end (x.wires b) (record e { mended = mended }))) y
turns_paired x y b e mended h is =
    let w = x.wires b in
    let e' : LinkEnd = record e { mended = mended } in
    let on : GoesOn w e e' = record { end_is = is; own = refl; highest = omega arith; up = refl; sessions = have_same e.session e.session refl; record_is = refl; unheld = λ was. was } in
    let still : IsStill e e' = record {
      own = refl;
      peer = refl;
      bearer = refl;
      contact = refl;
      seen = refl;
      epoch = refl;
      peer_epoch = refl;
      highest = refl;
      up = refl;
      sessions = like-same e.session e.session refl;
    } in
    wire_deed x y b (with_end w e') h (record {
      grows = grows_end w e';
      end = λ d there. (let same : e' ≡ d = cc in subst (IsEnd x.node b) same (still_end x.node b e e' (h.here.ends b e is) still));
      wire = wire_on x.node.own w (y.wires b) e e' (h.here.wires b) on;
      records = records_end x.node w (y.wires b) e e' (h.here.records b) on;
      highest = high_still x y b e e' h is refl;
      epochs = epochs_steady x.node b x.told y.told w (with_end w e') (y.wires b) (h.here.epochs b) (steady_on x.node w e e' on);
      peers = peers_still x y b (with_end w e') h (sym (ap (λ (o : Option LinkEnd). fsm_in o) is));
    })

-- ---- what a call shows was told

pub frame_fits : (own : ℕ) (w v : Wire) (f : Frame) → IsFrame own w v f → es_of f.bytes < 2 ^ 64
frame_fits own w v f h = subst (λ n. n < 2 ^ 64) (sym (ap es_of h.bytes ∙ es_of-frame h.es h.er (spelling h.packet) h.es_fits h.er_fits)) h.es_fits

-- an epoch that was told has 64 bits
pub told_fits : (x y : View) (b es contact : ℕ) → ArePaired x y → IsNoticed (said_by y) b es contact → es < 2 ^ 64
told_fits x y b es contact h t =
    let at = mapped_at notice_of y.told t.place t.notice t.there in
    let same : es_of at.0.bytes ≡ es = ap (λ (m : Notice). m.es) at.2 ∙ t.epoch_is in
    subst (λ n. n < 2 ^ 64) same (frame_fits y.node.own _ _ at.0 (h.there.frames t.place at.0 at.1))

pub shown_small : (x y : View) (b es er contact : ℕ) → ArePaired x y → IsShown y.told b es er contact → es < 2 ^ 64
shown_small x y b es er contact h t = subst (λ n. n < 2 ^ 64) t.es_is (frame_fits y.node.own _ _ t.frame (h.there.frames t.place t.frame t.there))

pub call_named : (x y : View) (b : ℕ) (call : Call) → MayCall x y b call → (call ≡ ForgetsPeer → ⊥) × (call ≡ ContactEnds → ⊥)
call_named x y b call may = (λ is. subst (λ c. MayCall x y b c) is may, λ is. subst (λ c. MayCall x y b c) is may)

-- the same call of a node that did something else, with the same contact numbers
pub may_later : (x v y : View) (b : ℕ) (call : Call) → v.node ≡ x.node → MayCall x y b call → MayCall v y b call
may_later x v y b (ResetArrives es held) same may = subst (λ (n : Node). IsNoticed (said_by y) b es n.seen) (sym same) may
may_later x v y b (ActivateArrives es er) same may = subst (λ (n : Node). IsShown y.told b es er n.seen) (sym same) may
may_later x v y b (TrafficArrives es er) same may = may
may_later x v y b (TickPasses held) same may = tt
may_later x v y b (BearerIsCut held) same may = tt
may_later x v y b (TunnelNames epoch) same may = tt
may_later x v y b Releases same may = tt
may_later x v y b ForgetsPeer same may = may
may_later x v y b ContactEnds same may = may

first_of : {A B : Type 0} (a c : A) (b d : B) → ◌≡◌ {A = Option (A × B)} (Some (a, b)) (Some (c, d)) → a ≡ c
first_of {A} {B} a c b d is = let same : ◌≡◌ {A = A × B} (a, b) (c, d) = cc in ap (λ (p : A × B). p.0) same

-- the epoch of the peer that a call shows has 64 bits
pub shown_fits : (x y : View) (b : ℕ) (call : Call) (es er : ℕ) → ArePaired x y → MayCall x y b call → shown_to call ≡ Some (es, er) → es < 2 ^ 64
shown_fits x y b (ResetArrives k held) es er h may is = (let same : k ≡ es = first_of _ _ _ _ is in subst (λ n. n < 2 ^ 64) same (told_fits x y b k x.node.seen h may))
shown_fits x y b (ActivateArrives k m) es er h may is = (let same : k ≡ es = first_of _ _ _ _ is in subst (λ n. n < 2 ^ 64) same (shown_small x y b k m x.node.seen h may))
shown_fits x y b (TrafficArrives k m) es er h may is = (let same : k ≡ es = first_of _ _ _ _ is in subst (λ n. n < 2 ^ 64) same (shown_small x y b k m may.begun.contact h may.shown))
shown_fits x y b (TickPasses held) es er h may is = absurd (let wrong : ⊥ = cc in wrong)
shown_fits x y b (BearerIsCut held) es er h may is = absurd (let wrong : ⊥ = cc in wrong)
shown_fits x y b (TunnelNames epoch) es er h may is = absurd (let wrong : ⊥ = cc in wrong)
shown_fits x y b Releases es er h may is = absurd (let wrong : ⊥ = cc in wrong)
shown_fits x y b ForgetsPeer es er h may is = absurd may
shown_fits x y b ContactEnds es er h may is = absurd may

-- it was told
shown_was_told : (x y : View) (b : ℕ) (call : Call) (es er : ℕ) → MayCall x y b call → shown_to call ≡ Some (es, er) → IsHeardEpoch y.told b es
shown_was_told x y b (ResetArrives k held) es er may is = (let same : k ≡ es = first_of _ _ _ _ is in inr (x.node.seen, subst (λ n. IsUnder y.told b n x.node.seen) same (told_under y b k x.node.seen may)))
shown_was_told x y b (ActivateArrives k m) es er may is = (let same : k ≡ es = first_of _ _ _ _ is in inr (x.node.seen, subst (λ n. IsUnder y.told b n x.node.seen) same (under_shown y.told b k m x.node.seen may)))
shown_was_told x y b (TrafficArrives k m) es er may is =
    (let same : k ≡ es = first_of _ _ _ _ is in inr (may.begun.contact, subst (λ n. IsUnder y.told b n may.begun.contact) same (under_shown y.told b k m may.begun.contact may.shown)))
shown_was_told x y b (TickPasses held) es er may is = absurd (let wrong : ⊥ = cc in wrong)
shown_was_told x y b (BearerIsCut held) es er may is = absurd (let wrong : ⊥ = cc in wrong)
shown_was_told x y b (TunnelNames epoch) es er may is = absurd (let wrong : ⊥ = cc in wrong)
shown_was_told x y b Releases es er may is = absurd (let wrong : ⊥ = cc in wrong)
shown_was_told x y b ForgetsPeer es er may is = absurd may
shown_was_told x y b ContactEnds es er may is = absurd may

-- so is the highest epoch that an end took, whatever call is made of it
pub high_called : (x y : View) (b : ℕ) (e : LinkEnd) (call : Call) → ArePaired x y → (x.wires b).end ≡ Some e → MayCall x y b call → IsHeardEpoch y.told b (outcome e.fsm call).after.highest
high_called x y b e call h is may = (let named = call_named x y b call may in by (call_turns e.fsm call named.0 named.1))
  where
    told : ℕ → Type 0
    told epoch = IsHeardEpoch y.told b epoch

    rising : (es : ℕ) → shown_to call ≡ Some (es, e.fsm.own) → (((outcome e.fsm call).after.highest ≡ es) × (e.fsm.highest ≤ es)) ⊎ ((e.fsm.peer ≡ Some es) × ((outcome e.fsm call).after.highest ≡ e.fsm.highest))
        → told (outcome e.fsm call).after.highest
    rising es shown (inl high) = subst told (sym high.0) (shown_was_told x y b call es e.fsm.own may shown)
    rising es shown (inr same) = subst told (sym same.1) (h.here.highest b e is)

    by : Turn e.fsm (shown_to call) (outcome e.fsm call) → told (outcome e.fsm call).after.highest
    by (stay m) = subst told (sym m.highest) (h.here.highest b e is)
    by (learn m) = subst told (sym m.highest) (shown_was_told x y b call m.es m.er may m.shown_is)
    by (rise m) = rising m.es m.shown_is m.highest
    by (fall m) = subst told (sym m.highest) (h.here.highest b e is)

-- ---- a call that leaves the end up or down as before

-- the end after a call, written out
abbrev called : LinkEnd → Outcome → LinkEnd
called e o = record e { fsm = o.after; session = followed_session (with_fsm e o.after) o.change; early = followed_early (with_fsm e o.after) o.change }

on_paired : (x y : View) (b : ℕ) (e : LinkEnd) (call : Call) → ArePaired x y → (x.wires b).end ≡ Some e → MayCall x y b call → GoesOn (x.wires b) e (called e (outcome e.fsm call)) → IsEnd x.node b (after e (outcome e.fsm call))
    → ArePaired (with_wire x b (with_end (x.wires b) (after e (outcome e.fsm call)))) y
on_paired x y b e call h is may on end =
    let w = x.wires b in
    let o = outcome e.fsm call in
    let e' = called e o in
    let same : e' ≡ after e o = sym (after-is e o) in
    let kept : IsEnd x.node b e' = subst (IsEnd x.node b) (sym same) end in
    subst (λ (d : LinkEnd). ArePaired (with_wire x b (with_end w d)) y) same (wire_deed x y b (with_end w e') h (record {
      grows = grows_end w e';
      end = λ d there. (let one : e' ≡ d = cc in subst (IsEnd x.node b) one kept);
      wire = wire_on x.node.own w (y.wires b) e e' (h.here.wires b) on;
      records = records_end x.node w (y.wires b) e e' (h.here.records b) on;
      highest = λ d there. (let one : e' ≡ d = cc in subst (λ (k : LinkEnd). IsHeardEpoch y.told b k.fsm.highest) one (high_called x y b e call h is may));
      epochs = epochs_steady x.node b x.told y.told w (with_end w e') (y.wires b) (h.here.epochs b) (steady_on x.node w e e' on);
      peers = peers_called x y b (with_end w e') e call h is may refl;
    }))

learned_session : (e : LinkEnd) (change : Change) → change ≡ Answer reply.Activate → HaveSame e.session (followed_session e change)
learned_session e change is = subst (λ c. HaveSame e.session (followed_session e c)) (sym is) (have_same e.session e.session refl)

calls_turn : (x y : View) (b : ℕ) (e : LinkEnd) (call : Call) → ArePaired x y → (x.wires b).end ≡ Some e → MayCall x y b call → is_quiet (outcome e.fsm call).change ≡ true → Turn e.fsm (shown_to call) (outcome e.fsm call)
    → ArePaired (with_wire x b (with_end (x.wires b) (after e (outcome e.fsm call)))) y
calls_turn x y b e call h is may quiet (stay m) =
    on_paired x y b e call h is may (record {
      end_is = is;
      own = m.own;
      highest = (let high = m.highest in omega arith);
      up = m.up;
      sessions = quiet_same (with_fsm e (outcome e.fsm call).after) (outcome e.fsm call).change quiet;
      record_is = quiet_record (with_fsm e (outcome e.fsm call).after) (outcome e.fsm call).change quiet;
      unheld = stays_unheld e.fsm call quiet;
    }) (still_end x.node b e (after e (outcome e.fsm call)) (h.here.ends b e is) (stays_still e (outcome e.fsm call) m))
calls_turn x y b e call h is may quiet (learn m) =
    let o = outcome e.fsm call in
    let end = h.here.ends b e is in
    let fits = shown_fits x y b call m.es m.er h may m.shown_is in
    let fsm : (after e o).fsm ≡ o.after = ap (λ (d : LinkEnd). d.fsm) (after-is e o) in
    let seen : (after e o).peer_contact ≡ e.peer_contact = ap (λ (d : LinkEnd). d.peer_contact) (after-is e o) in
    let peer : (after e o).fsm.peer ≡ Some m.es = ap (λ f. f.peer) fsm ∙ m.peer in
    let high : (after e o).fsm.highest ≡ m.es = ap (λ f. f.highest) fsm ∙ m.highest in
    on_paired x y b e call h is may (record {
      end_is = is;
      own = m.own;
      highest = (let low = m.no_lower in let to = m.highest in omega arith);
      up = m.down ∙ sym m.was;
      sessions = learned_session (with_fsm e o.after) o.change m.change;
      record_is = quiet_record (with_fsm e o.after) o.change quiet;
      unheld = stays_unheld e.fsm call quiet;
    }) (taught_end x.node b e (after e o) end (learns_taught e (shown_to call) o m) (seen ∙ end.seen)
    (λ epoch known. (let same : m.es ≡ epoch = (let here = peer in cc) in (subst (λ n. n < 2 ^ 64) same fits, sym same ∙ sym high))))
calls_turn x y b e call h is may quiet (rise m) = absurd (true≢false (sym quiet ∙ ap is_quiet m.change))
calls_turn x y b e call h is may quiet (fall m) = absurd (true≢false (sym quiet ∙ ap is_quiet m.change))

pub calls_paired : (x y : View) (b : ℕ) (e : LinkEnd) (call : Call) → ArePaired x y → (x.wires b).end ≡ Some e → MayCall x y b call → is_quiet (outcome e.fsm call).change ≡ true
    → ArePaired (with_wire x b (with_end (x.wires b) (after e (outcome e.fsm call)))) y
calls_paired x y b e call h is may quiet =
    let named = call_named x y b call may in
    calls_turn x y b e call h is may quiet (call_turns e.fsm call named.0 named.1)

-- ---- an end that goes on, as it is called

pub turns_on : (w : Wire) (e : LinkEnd) (mended : Bool) → w.end ≡ Some e → GoesOn w e (record e { mended = mended })
turns_on w e mended is = record { end_is = is; own = refl; highest = omega arith; up = refl; sessions = have_same e.session e.session refl; record_is = refl; unheld = λ was. was }

turn_on : (w : Wire) (e : LinkEnd) (call : Call) → w.end ≡ Some e → is_quiet (outcome e.fsm call).change ≡ true → Turn e.fsm (shown_to call) (outcome e.fsm call) → GoesOn w e (called e (outcome e.fsm call))
turn_on w e call is quiet (stay m) = record { end_is = is; own = m.own; highest = (let high = m.highest in omega arith); up = m.up; sessions = quiet_same (with_fsm e (outcome e.fsm call).after) (outcome e.fsm call).change quiet; record_is = quiet_record (with_fsm e (outcome e.fsm call).after) (outcome e.fsm call).change quiet; unheld = stays_unheld e.fsm call quiet }
turn_on w e call is quiet (learn m) = record {
  end_is = is;
  own = m.own;
  highest = (let low = m.no_lower in let to = m.highest in omega arith);
  up = m.down ∙ sym m.was;
  sessions = learned_session (with_fsm e (outcome e.fsm call).after) (outcome e.fsm call).change m.change;
  record_is = quiet_record (with_fsm e (outcome e.fsm call).after) (outcome e.fsm call).change quiet;
  unheld = stays_unheld e.fsm call quiet;
}
turn_on w e call is quiet (rise m) = absurd (true≢false (sym quiet ∙ ap is_quiet m.change))
turn_on w e call is quiet (fall m) = absurd (true≢false (sym quiet ∙ ap is_quiet m.change))

pub calls_on : (x y : View) (b : ℕ) (e : LinkEnd) (call : Call) → (x.wires b).end ≡ Some e → MayCall x y b call → is_quiet (outcome e.fsm call).change ≡ true → GoesOn (x.wires b) e (after e (outcome e.fsm call))
calls_on x y b e call is may quiet =
    let named = call_named x y b call may in
    subst (GoesOn (x.wires b) e) (sym (after-is e (outcome e.fsm call))) (turn_on (x.wires b) e call is quiet (call_turns e.fsm call named.0 named.1))
