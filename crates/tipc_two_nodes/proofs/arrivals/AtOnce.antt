-- A node takes packets of its contact with a whole call, with which the contact may begin, from a state for which its records stand.
use Rattle.std.proofs.Common.{◌≡◌, ◌<◌, ◌≤◌, ◌⊎◌, ◌+◌, ◌++◌, ℕ, List, [], Some, length, refl, sym, ap, ◌∙◌, subst, inl, inr, append-nil, arith}
use Rattle.std.proofs.lemmas.Bool.{cases_lt}
use Rattle.tipc_changeover.specs.Links.{First, Receiver, Sender, State}
use Rattle.tipc_changeover.proofs.Staying.{reached_sound}
use Rattle.tipc_two_nodes.specs.links.Following.{ReceiverFollows}
use Rattle.tipc_two_nodes.specs.links.Receiving.{IsRecordFor, record_at}
use Rattle.tipc_two_nodes.specs.links.Traffic.{Lines, Traffic}
use Rattle.tipc_paired.proofs.sessions.BesideDeeds.{begun_boot}
use Rattle.tipc_paired.proofs.wires.Wires.{same_some}
use Rattle.tipc_paired.specs.Paired.{ArePaired, IsReached, long_ago, on_record, untaken}
use Rattle.tipc_paired.specs.Views.{Begun, IsApart, Node, View}
use Rattle.tipc_two_nodes.specs.Carriages.{AreCounted, AreSessions, BeganIn, Carriage, HasTakenOf, IsAhead, IsCounted, IsPresent, IsSent, IsTaken, Numbers, taken_of}
use Rattle.tipc_two_nodes.specs.Carrying.{Carries, TakesOn, taken_in_contact}
use Rattle.tipc_two_nodes.specs.Numbers.{AreNumbers, AreRecorded, IsToldIn}
use Rattle.tipc_two_nodes.specs.Steps.{ChangedAt, IsSendingPiece, Stays}
use Rattle.tipc_two_nodes.specs.Twins.{AreTwins, Crosses, GoesOn, sends_in, takes_in}
use Rattle.tipc_two_nodes.proofs.steps.Carrying.{taken_changed, takes_none, takes_same}
use Rattle.tipc_two_nodes.proofs.contacts.Choosing.{on_changed, on_one, one_changed, with_one}
use Rattle.tipc_two_nodes.proofs.contacts.Entering.{new_ahead, shown_known}
use Rattle.tipc_two_nodes.proofs.contacts.Lasting.{sent_taken}
use Rattle.tipc_two_nodes.proofs.contacts.Numbered.{numbers_beside, numbers_stay}
use Rattle.tipc_two_nodes.proofs.contacts.Outset.{reached_late}
use Rattle.tipc_two_nodes.proofs.contacts.Recorded.{recorded_beside}
use Rattle.tipc_two_nodes.proofs.contacts.Sending.{sends_changed, sends_crosses, sends_none}
use Rattle.tipc_two_nodes.proofs.contacts.Stale.{record_stands}
use Rattle.tipc_two_nodes.proofs.contacts.Standing.{StandsBoth, stands_both}
use Rattle.tipc_two_nodes.proofs.steps.TwinSteps.{keeps_begun}

-- ---- out of contact

-- the records stand for those of a state, where the peer told a frame in the contact that is to begin
pub apart_both : (x y : View) (n m : Numbers) (c : Carriage) (bearer epoch : ℕ) → ArePaired x y → AreNumbers x y n → AreNumbers y x m → AreRecorded y x → IsApart y → IsToldIn x.told bearer epoch y.node.seen y.node.contact → IsSent x n y.node.seen y.node.contact c
    → IsTaken y y.node.contact y.node.seen c → StandsBoth c.traffic c.state (record_at (y.wires 0).end) (record_at (y.wires 1).end)
apart_both x y n m c bearer epoch h numbers back recorded apart shown S T =
    let sound = reached_sound c.state S.reached in
    let late = reached_late c.state S.reached in
    let none = T.none (new_ahead y x m back apart) in
    stands_both c.traffic c.state (record_at (y.wires 0).end) (record_at (y.wires 1).end) S.lines (ap (λ r. r.session) none.near) (ap (λ r. r.session) none.far)
    (λ a is. record_stands x y n 0 bearer epoch c.traffic.near c.state.near a h.here numbers apart shown (recorded 0 a is) S.near_first S.near sound.near.ends.session_begun late.near)
    (λ a is. record_stands x y n 1 bearer epoch c.traffic.far c.state.far a h.here numbers apart shown (recorded 1 a is) S.far_first S.far sound.far.ends.session_begun late.far)

-- ---- what it takes

-- The records of a node in its contact have what it took of it.
pub present_counts : (x y : View) (b : ℕ) (l : Lines) (z : Sender) (r : Receiver) → ArePaired y x → AreSessions x y.node.seen y.node.contact b l z → IsRecordFor l (record_at (y.wires b).end) r → IsCounted x y y.node.seen y.node.contact b l r
present_counts x y b l z r h S stands epoch began some = of ((h.here.records b).reached epoch) where
  low : l.first ≤ epoch
  low = (S.lines epoch began.0 began.1 began.2 began.3).0

  of : IsReached y.node.boot (y.wires b) (x.wires b) epoch → (epoch + 1 < l.first + r.session) ⊎ ((l.first + r.session ≡ epoch + 1) × (length ((y.wires b).got epoch) ≤ r.taken))
  of (untaken none) = absurd (let zero : length ((y.wires b).got epoch) ≡ 0 = ap (λ (ps : List (List ℕ)). length ps) none in let wrong : ⊥ = omega arith in wrong)
  of (on_record d a is has least) =
      let takes = ((h.here.wires b).kept d a is has).takes in
      elim (subst (λ o. IsRecordFor l o r) (ap record_at is ∙ has) stands) [
        | inl old ↦ absurd (let before = old.0 in let first = low in let wrong : ⊥ = omega arith in wrong)
        | inr now ↦ (
            let place = now.epoch in
            let count = now.taken in
            elim (cases_lt epoch a.epoch) [
              | inl later ↦ inl (omega arith)
              | inr late ↦
                  let same : a.epoch ≡ epoch = omega arith in
                  let long : length ((y.wires b).got a.epoch) ≡ length ((y.wires b).got epoch) = ap (λ n. length ((y.wires b).got n)) same in
                  inr (omega arith, omega arith)
            ])
      ]
  of (long_ago k is before) = absurd (
      let one : k ≡ began.0 = same_some k began.0 ((x.wires b).begun epoch) is began.1 in
      let boot = begun_boot y x b epoch k h is (ap (λ (u : Begun). u.peer_contact) one ∙ began.3) in
      let wrong : ⊥ = omega arith in
      wrong)

-- y becomes y' in its contact, of which a session of x began, by a frame of x: what was sent in it was taken by events of
-- the receiver, and of no session of another contact anything was taken.
pub record TakesAt (x y y' : View) (c : Carriage) : Type 0 where
  pub node : y'.node ≡ y.node
  pub some : IsAhead y' y.node.contact y.node.seen → ⊥
  pub begun : (b epoch : ℕ) (g : Begun) → (y.wires b).begun epoch ≡ Some g → (y'.wires b).begun epoch ≡ Some g
  pub bearer : ℕ
  pub epoch : ℕ
  pub shown : IsToldIn x.told bearer epoch y.node.seen y.node.contact
  pub state : State
  pub takes : ReceiverFollows First c.state state
  pub near : IsRecordFor c.traffic.near (record_at (y'.wires 0).end) state.near_record
  pub far : IsRecordFor c.traffic.far (record_at (y'.wires 1).end) state.far_record
  pub counted : AreCounted x y' y.node.seen y.node.contact (record { traffic = c.traffic; state = state })
  pub got : (b epoch : ℕ) → ((y'.wires b).got epoch ≡ (y.wires b).got epoch) ⊎ BeganIn x b epoch y.node.seen y.node.contact

-- the other contacts are as they were
other_at_once : (x y y' : View) (own theirs : ℕ) (c d : Carriage) → TakesAt x y y' d → (theirs ≡ y.node.contact → own ≡ y.node.seen → ⊥) → IsTaken y theirs own c → IsTaken y' theirs own c
other_at_once x y y' own theirs c d m differ h =
    let none = λ (here : IsPresent y' theirs own). differ (here.own_is ∙ ap (λ (n : Node). n.contact) m.node) (here.theirs_is ∙ ap (λ (n : Node). n.seen) m.node) in
    record {
      near = λ here. absurd (none here);
      far = λ here. absurd (none here);
      none = λ ahead. h.none (λ b epoch g is. ahead b epoch g (m.begun b epoch g is));
    }

other_counted : (x y y' : View) (b i j : ℕ) (m : Lines) (q : Receiver) → (i ≡ y.node.seen → j ≡ y.node.contact → ⊥) → ((epoch : ℕ) → ((y'.wires b).got epoch ≡ (y.wires b).got epoch) ⊎ BeganIn x b epoch y.node.seen y.node.contact) → IsCounted x y i j b m q
    → IsCounted x y' i j b m q
other_counted x y y' b i j m q differ got k epoch began = elim (got epoch) [
  | inl same ↦ subst (HasTakenOf m q epoch) (sym (ap (λ (ps : List (List ℕ)). length ps) same)) (k epoch began)
  | inr here ↦ λ some. absurd (
      let same : here.0 ≡ began.0 = same_some here.0 began.0 ((x.wires b).begun epoch) here.1 began.1 in
      differ (sym began.2 ∙ (ap (λ (u : Begun). u.contact) (sym same) ∙ here.2)) (sym began.3 ∙ (ap (λ (u : Begun). u.peer_contact) (sym same) ∙ here.3)))
]

others_counted : (x y y' : View) (i j : ℕ) (c d : Carriage) → TakesAt x y y' d → (i ≡ y.node.seen → j ≡ y.node.contact → ⊥) → AreCounted x y i j c → AreCounted x y' i j c
others_counted x y y' i j c d m differ k = record {
  near = other_counted x y y' 0 i j c.traffic.near c.state.near_record differ (m.got 0) k.near;
  far = other_counted x y y' 1 i j c.traffic.far c.state.far_record differ (m.got 1) k.far;
}

at_once_crosses : (x y y' : View) (n : Numbers) → AreNumbers x y n → (k : Crosses x y n) → TakesAt x y y' (k.carriage y.node.seen y.node.contact) → Crosses x y' n
at_once_crosses x y y' n numbers k m =
    let own = y.node.seen in
    let theirs = y.node.contact in
    let c = k.carriage own theirs in
    let c' : Carriage = record { traffic = c.traffic; state = m.state } in
    record {
      carriage = with_one k.carriage own theirs c';
      sent = on_one k.carriage own theirs c' (λ i j d. IsSent x n i j d) (sent_taken x n own theirs c m.state (k.sent own theirs) m.takes (shown_known x y n m.bearer m.epoch own theirs numbers m.shown)) (λ i j differ. k.sent i j);
      taken = on_one k.carriage own theirs c' (λ i j d. IsTaken y' j i d) (record { near = λ here. m.near; far = λ here. m.far; none = λ ahead. absurd (m.some ahead) })
          (λ i j differ. other_at_once x y y' i j (k.carriage i j) c m (λ theirs own. differ own theirs) (k.taken i j));
      counted = on_one k.carriage own theirs c' (λ i j d. AreCounted x y' i j d) m.counted (λ i j differ. others_counted x y y' i j (k.carriage i j) c m differ (k.counted i j));
    }

at_once_changed : (x y y' : View) (n : Numbers) (numbers : AreNumbers x y n) (k : Crosses x y n) (m : TakesAt x y y' (k.carriage y.node.seen y.node.contact))
    → ChangedAt k.carriage (at_once_crosses x y y' n numbers k m).carriage y.node.seen y.node.contact (record { traffic = (k.carriage y.node.seen y.node.contact).traffic; state = m.state })
unfolding at_once_crosses
at_once_changed x y y' n numbers k m = one_changed k.carriage y.node.seen y.node.contact (record { traffic = (k.carriage y.node.seen y.node.contact).traffic; state = m.state })

-- ---- the call

pub at_once_twins : (x x' y : View) (t : Traffic) (h : AreTwins x y) → GoesOn x x' y → Stays x x' y h.here → IsSendingPiece x x' (sends_in x y h) t → TakesAt y x x' (takes_in x y h) → AreTwins x' y
at_once_twins x x' y t h m stays sends begins = record {
  paired = m.paired;
  here = h.here;
  there = h.there;
  numbers_here = numbers_stay x x' y h.here h.numbers_here stays;
  numbers_there = numbers_beside y x x' h.there h.numbers_there m.tells;
  recorded_here = m.recorded;
  recorded_there = recorded_beside y x x' h.recorded_there m.tells m.begun;
  sends = sends_crosses x x' y h.here t h.sends (keeps_begun x x' y h m stays) sends;
  receives = at_once_crosses y x x' h.there h.numbers_there h.receives begins;
}

-- what crosses stays so, but for what was taken
pub at_once_carries : (x x' y : View) (t : Traffic) (h : AreTwins x y) (m : GoesOn x x' y) (stays : Stays x x' y h.here) (sends : IsSendingPiece x x' (sends_in x y h) t) (begins : TakesAt y x x' (takes_in x y h)) (packets : List (List ℕ)) → t.put ≡ (sends_in x y h).traffic.put
    → taken_of (record { traffic = (takes_in x y h).traffic; state = begins.state }) ≡ taken_of (takes_in x y h) ++ packets → Carries x x' y h (at_once_twins x x' y t h m stays sends begins) (taken_in_contact x.node.contact x.node.seen packets)
unfolding at_once_twins
at_once_carries x x' y t h m stays sends begins packets put longer =
    let f = h.sends.carriage in
    let j = h.receives.carriage in
    let taken = taken_changed x.node.contact x.node.seen packets in
    record {
      later = m.tells.contact;
      sends = λ own theirs. inl (on_changed f _ x.node.contact x.node.seen _ (λ i k d. TakesOn (f i k) d []) (sends_changed x x' y h.here t h.sends (keeps_begun x x' y h m stays) sends) (takes_none _ _ put (sends_none x x' (sends_in x y h) t sends)) (λ i k differ. takes_same _ _ refl) own theirs);
      receives = λ own theirs. on_changed j _ x.node.seen x.node.contact _ (λ i k d. TakesOn (j i k) d (taken_in_contact x.node.contact x.node.seen packets k i)) (at_once_changed y x x' h.there h.numbers_there h.receives begins)
          (record { put = refl; longer = longer ∙ ap (λ ps. taken_of (takes_in x y h) ++ ps) (sym taken.here) })
          (λ i k differ. record { put = refl; longer = sym (append-nil (taken_of (j i k))) ∙ ap (λ ps. taken_of (j i k) ++ ps) (sym (taken.others k i (λ one two. differ two one))) })
          theirs own;
    }
