-- One of two links of a node goes up or down beside the other, hands over, or counts what came through the other.
use Rattle.std.proofs.Common.{◌≡◌, ◌<◌, ◌≤◌, ◌+◌, ◌⊎◌, ℕ, true, false, if◌then◌else◌, List, Some, refl, sym, ap, ◌∙◌, subst, inl, inr, arith}
use Rattle.std.proofs.lemmas.Bool.{true≢false}
use Rattle.tipc_types.specs.LinkStates.{is_up}
use Rattle.tipc_link.specs.Links.{LinkEnd, after, handed_over, recorded}
use Rattle.tipc_link.specs.Records.{Received}
use Rattle.tipc_link.proofs.Ends.{after-is}
use Rattle.tipc_link.proofs.EndsTurns.{Falls}
use Rattle.tipc_link_fsm.specs.Runs.{outcome}
use Rattle.tipc_link_fsm.specs.Table.{Outcome, is_last, next_epoch}
use Rattle.tipc_two_nodes.specs.links.Receiving.{record_at}
use Rattle.tipc_paired.proofs.sessions.BesideDeeds.{counted_steady, handed_record, recorded_is}
use Rattle.tipc_paired.proofs.wires.Ends.{next_no_lower}
use Rattle.tipc_paired.proofs.contacts.Mutual.{told_under}
use Rattle.tipc_paired.proofs.sessions.RiseDeeds.{went}
use Rattle.tipc_paired.proofs.wires.Wires.{epoch_of_end, map_at, none_some, on_put, put_other, same_some, session_of_down, session_of_up}
use Rattle.tipc_paired.specs.Deeds.{Besides, Counts, IsBeside, counts, falls_beside, hands_over, rises_beside, with_counted}
use Rattle.tipc_paired.specs.Paired.{ArePaired}
use Rattle.tipc_paired.specs.Views.{Begun, View, Wire, epoch_on, er_of, notice_of, session_on, with_end, with_wire}
use Rattle.tipc_two_nodes.specs.Carriages.{BeganIn, IsPresent, Numbers}
use Rattle.tipc_two_nodes.specs.Numbers.{AreNumbers, AreRecorded, IsRecorded, IsToldBy}
use Rattle.tipc_two_nodes.specs.Steps.{Stays}
use Rattle.tipc_two_nodes.proofs.calls.HadSessions.{session_began}
use Rattle.tipc_two_nodes.proofs.contacts.Recorded.{recorded_on}
use Rattle.tipc_two_nodes.proofs.steps.RiseSteps.{rises_recorded, went_told}
use Rattle.tipc_two_nodes.proofs.steps.WireSteps.{KeepsOn, fallen_record, recorded_wire, timely_on}

-- ---- the other link

-- the contact lasts with the link that is up
pub beside_present : (x y : View) (b : ℕ) → ArePaired x y → IsBeside x b → IsPresent x x.node.contact x.node.seen
beside_present x y b h i =
    let going = (h.here.ends i.other i.end i.end_is).going i.up in
    record {
      bearer = i.other;
      session = going.0;
      session_is = session_of_up (x.wires i.other) i.end going.0 (record { end_is = i.end_is; up = i.up; session_is = going.1 });
      own_is = refl;
      theirs_is = refl;
    }

-- and beside what becomes of this one
pub still_present : (x y : View) (b : ℕ) (w' : Wire) → ArePaired x y → IsBeside x b → IsPresent (with_wire x b w') x.node.contact x.node.seen
still_present x y b w' h i =
    let going = (h.here.ends i.other i.end i.end_is).going i.up in
    record {
      bearer = i.other;
      session = going.0;
      session_is = ap session_on (put_other x.wires b w' i.other i.elsewhere)
          ∙ session_of_up (x.wires i.other) i.end going.0 (record { end_is = i.end_is; up = i.up; session_is = going.1 });
      own_is = refl;
      theirs_is = refl;
    }

-- a contact that lasts has a number that the peer has
pub present_known : (x y : View) (n m : Numbers) → ArePaired x y → AreNumbers x y n → AreNumbers y x m → IsPresent x x.node.contact x.node.seen → x.node.seen ≤ y.node.contact
present_known x y n m h numbers back here =
    let b = here.bearer in
    let s = here.session in
    let g = (h.here.wires b).going s here.session_is in
    let now = (h.here.epochs b).now s g.begun here.session_is g.begun_is in
    let t = numbers.heard b s.epoch g.begun g.begun_is in
    let own = (back.frames t.place t.frame t.there).own in
    let same = t.own_is in
    let seen = now.1 in
    omega arith

-- ---- a link goes down

pub fell_higher : (e : LinkEnd) (o : Outcome) → Falls e.fsm o → e.fsm.own ≤ (after e o).fsm.own
fell_higher e o m =
    let own : (after e o).fsm.own ≡ o.after.own = ap (λ (d : LinkEnd). d.fsm.own) (after-is e o) in
    let next = m.own in
    let high = next_no_lower e.fsm.own in
    omega arith

-- by one epoch at most
pub fell_next : (e : LinkEnd) (o : Outcome) → Falls e.fsm o → (after e o).fsm.own ≤ e.fsm.own + 1
fell_next e o m =
    let own : (after e o).fsm.own ≡ o.after.own = ap (λ (d : LinkEnd). d.fsm.own) (after-is e o) in
    let next = m.own in
    let few : next_epoch e.fsm.own ≤ e.fsm.own + 1 = elim (is_last e.fsm.own) as (λ t. (if t then e.fsm.own else e.fsm.own + 1) ≤ e.fsm.own + 1) [ true ↦ omega arith | false ↦ omega arith ] in
    omega arith

-- the session of a link that is up began in the contact
end_began : (x y : View) (b : ℕ) (e : LinkEnd) → ArePaired x y → (x.wires b).end ≡ Some e → is_up e.fsm.state ≡ true → BeganIn x b e.fsm.own x.node.contact x.node.seen
end_began x y b e h is up =
    let going = (h.here.ends b e is).going up in
    let on = session_of_up (x.wires b) e going.0 (record { end_is = is; up = up; session_is = going.1 }) in
    subst (λ epoch. BeganIn x b epoch x.node.contact x.node.seen) going.2 (session_began x y b going.0 h on)

pub fell_stays : (x y : View) (n m : Numbers) (b : ℕ) (e e' : LinkEnd) → ArePaired x y → AreNumbers x y n → AreNumbers y x m → (x.wires b).end ≡ Some e → is_up e.fsm.state ≡ true → e.fsm.own ≤ e'.fsm.own → e'.fsm.own ≤ e.fsm.own + 1 → IsBeside x b
    → Stays x (with_wire x b (with_end (x.wires b) e')) y n
fell_stays x y n m b e e' h numbers back is was high few i =
    let w' = with_end (x.wires b) e' in
    let x' = with_wire x b w' in
    let here = still_present x y b w' h i in
    let known = present_known x y n m h numbers back (beside_present x y b h i) in
    let keeps = λ (c epoch : ℕ) (g : Begun) (there : (x.wires c).begun epoch ≡ Some g). on_put x.wires b w' (λ c (w : Wire). (x.wires c).begun epoch ≡ Some g → w.begun epoch ≡ Some g) (λ there. there) (λ c there. there) c there in
    let rises : epoch_on x.node (x.wires b) ≤ epoch_on x.node w' = (let was = epoch_of_end x.node (x.wires b) e is in let now = epoch_of_end x.node w' e' refl in omega arith) in
    record {
      node = refl;
      apart = λ apart. absurd (
          let down = apart i.other i.end (ap (λ (w : Wire). w.end) (put_other x.wires b w' i.other i.elsewhere) ∙ i.end_is) in
          true≢false (sym i.up ∙ down));
      epochs = on_put x.wires b w' (λ c (w : Wire). (epoch_on x.node w ≡ epoch_on x.node (x.wires c)) ⊎ ((epoch_on x.node (x.wires c) ≤ epoch_on x.node w) × (x.node.seen ≤ y.node.contact))) (inr (rises, known)) (λ c. inl refl);
      present = λ was. here;
      begun = keeps;
      each = on_put x.wires b w' (λ c (w : Wire). (epoch : ℕ) → epoch_on x.node (x.wires c) ≤ epoch → epoch < epoch_on x.node w → BeganIn x' c epoch x.node.contact x.node.seen)
          (λ epoch low before. (
          let same : e.fsm.own ≡ epoch = (let one = epoch_of_end x.node (x.wires b) e is in let two = epoch_of_end x.node w' e' refl in omega arith) in
          let k = end_began x y b e h is was in
          subst (λ i. BeganIn x' b i x.node.contact x.node.seen) same (k.0, keeps b e.fsm.own k.0 k.1, k.2, k.3)))
          (λ c epoch low before. absurd (let wrong : ⊥ = omega arith in wrong));
      began = λ c epoch g there. inl (on_put x.wires b w' (λ c (w : Wire). w.begun epoch ≡ Some g → (x.wires c).begun epoch ≡ Some g) (λ there. there) (λ c there. there) c there);
      told = λ k f there. inl there;
    }

-- it keeps its record
fell_recorded : (x y : View) (b : ℕ) (e e' : LinkEnd) → ArePaired x y → (x.wires b).end ≡ Some e → record_at (Some e') ≡ record_at (Some e) → IsBeside x b → AreRecorded x y → AreRecorded (with_wire x b (with_end (x.wires b) e')) y
fell_recorded x y b e e' h is same i recorded =
    let w' = with_end (x.wires b) e' in
    let x' = with_wire x b w' in
    let seen : x.node.seen ≤ x.node.seen = omega arith in
    let was = on_put x.wires b w' (λ c (w : Wire). (a : Received) → record_at w.end ≡ Some a → record_at (x.wires c).end ≡ Some a) (λ a there. ap record_at is ∙ (sym same ∙ there)) (λ c a there. there) in
    recorded_on x x' y recorded (λ g. timely_on x x' g refl (λ _. still_present x y b w' h i)) (λ c a there. inl (was c a there, seen))

-- ---- it hands over

pub hands_keeps : (x : View) (b : ℕ) (e : LinkEnd) → (x.wires b).end ≡ Some e → is_up e.fsm.state ≡ false → KeepsOn x.node (x.wires b) (with_end (x.wires b) (handed_over e))
hands_keeps x b e is down = record {
  begun = λ epoch. refl;
  epoch = epoch_of_end x.node (with_end (x.wires b) (handed_over e)) (handed_over e) refl ∙ sym (epoch_of_end x.node (x.wires b) e is);
  onward = λ s on. absurd (none_some s _ (session_of_down (x.wires b) e is down) on);
  down = λ _ d there. (let same : e ≡ d = same_some e d _ is there in subst (λ (d : LinkEnd). is_up d.fsm.state ≡ false) same down);
}

hands_recorded : (x y : View) (b : ℕ) (e : LinkEnd) → (x.wires b).end ≡ Some e → is_up e.fsm.state ≡ false → AreRecorded x y → AreRecorded (with_wire x b (with_end (x.wires b) (handed_over e))) y
hands_recorded x y b e is down recorded =
    recorded_wire x y b (with_end (x.wires b) (handed_over e)) recorded (hands_keeps x b e is down) (λ a there. inl (ap record_at is ∙ (sym (handed_record e) ∙ there)))

-- ---- a record counts

pub counts_keeps : (x y : View) (b : ℕ) (e : LinkEnd) (r : Received) (more : List (List ℕ)) → Counts x y b e r more → KeepsOn x.node (x.wires b) (with_counted (x.wires b) e r more)
counts_keeps x y b e r more m =
    let steady = counted_steady x.node (x.wires b) e r more m.end_is in
    record {
      begun = λ epoch. refl;
      epoch = steady.epoch;
      onward = λ s on. (let next = steady.onward s on in (next.0, next.1));
      down = λ down d there. (let same : e ≡ d = same_some e d _ m.end_is there in subst (λ (d : LinkEnd). is_up d.fsm.state ≡ false) same (down (recorded e r) refl));
    }

-- a session of the peer began under an epoch that the peer had told in the contact
began_told : (x y : View) (b epoch : ℕ) (k : Begun) → ArePaired x y → (y.wires b).begun epoch ≡ Some k → k.contact ≡ x.node.seen → IsToldBy y.told b epoch x.node.seen
began_told x y b epoch k h is seen =
    let t = (h.there.epochs b).shown epoch k is in
    let some = (h.there.epochs b).some epoch k is in
    let er = t.er_is in
    let n = h.peers.a_knows.named t.place (notice_of t.frame) (map_at notice_of x.told t.place t.frame t.there) (λ none. (let wrong : ⊥ = omega arith in wrong)) in
    let u = told_under y t.frame.bearer (er_of t.frame.bytes) t.frame.peer_contact n in
    let es = u.es_is ∙ t.er_is in
    let number = (h.there.epochs b).told_in u.place u.frame k u.there (u.bearer_is ∙ t.bearer_is) (ap (y.wires b).begun es ∙ is) in
    record {
      place = u.place;
      frame = u.frame;
      there = u.there;
      bearer_is = u.bearer_is ∙ t.bearer_is;
      epoch_is = es;
      no_later = omega arith;
    }

counts_recorded : (x y : View) (b : ℕ) (e : LinkEnd) (r : Received) (more : List (List ℕ)) → ArePaired x y → Counts x y b e r more → AreRecorded x y → AreRecorded (with_wire x b (with_counted (x.wires b) e r more)) y
counts_recorded x y b e r more h m recorded =
    let w' = with_counted (x.wires b) e r more in
    let x' = with_wire x b w' in
    let k = recorded_is e r in
    recorded_wire x y b w' recorded (counts_keeps x y b e r more m) (λ a there. (
    let same : k.kept ≡ a = same_some k.kept a _ k.kept_is there in
    inr (subst (IsRecorded x' y b) same (record {
      told = subst (λ n. IsToldBy y.told b n x.node.seen) (sym k.epoch) (began_told x y b r.epoch m.begun h m.begun_is m.seen_is);
      used = inr (m.begun, ap (y.wires b).begun k.epoch ∙ m.begun_is, inr (m.contact_is, still_present x y b w' h m.lasts, m.seen_is));
    }))))

-- ---- the deeds

pub besides_recorded : (x y x' : View) → ArePaired x y → AreRecorded x y → Besides x y x' → AreRecorded x' y
besides_recorded x y _ h recorded (rises_beside b e call is may up i) =
    let k = went x y b e call h is may up in
    rises_recorded x y b e (after e (outcome e.fsm call)) k.0 k.1 (went_told x y b e (after e (outcome e.fsm call)) k.0 h k.1) recorded
besides_recorded x y _ h recorded (falls_beside b e call cause is may down i) = fell_recorded x y b e (after e (outcome e.fsm call)) h is (fallen_record e (outcome e.fsm call) cause down) i recorded
besides_recorded x y _ h recorded (hands_over b e is down) = hands_recorded x y b e is down recorded
besides_recorded x y _ h recorded (counts b e r more c) = counts_recorded x y b e r more h c recorded
