-- A contact begins at the receiver: its records stand for what the peer sent in it.
use Rattle.std.proofs.Common.{◌≡◌, ◌<◌, ◌≤◌, ℕ, Some, sym, ap, ◌∙◌, subst, inl, inr, arith}
use Rattle.tipc_link.specs.Records.{Received, kept_for}
use Rattle.tipc_changeover.specs.Links.{Held, Sender, State}
use Rattle.tipc_changeover.proofs.Staying.{reached_sound}
use Rattle.tipc_two_nodes.specs.links.Receiving.{record_at}
use Rattle.tipc_two_nodes.specs.links.Traffic.{Lines}
use Rattle.tipc_paired.specs.Paired.{ArePaired}
use Rattle.tipc_paired.specs.Views.{IsApart, Node, View}
use Rattle.tipc_two_nodes.specs.Carriages.{AreCounted, AreSessions, Carriage, IsAhead, IsPresent, IsSent, IsShownIn, IsTaken, Numbers}
use Rattle.tipc_two_nodes.specs.Numbers.{AreNumbers, AreRecorded, IsToldIn}
use Rattle.tipc_two_nodes.specs.Steps.{ChangedAt, Enters, RecordAfter, as_it_was, is_kept}
use Rattle.tipc_two_nodes.specs.Twins.{Crosses}
use Rattle.tipc_two_nodes.proofs.contacts.Choosing.{on_one, one_changed, with_one}
use Rattle.tipc_two_nodes.proofs.contacts.Counting.{counted_apart, counted_fresh}
use Rattle.tipc_two_nodes.proofs.contacts.Lasting.{sent_taken}
use Rattle.tipc_two_nodes.proofs.contacts.Outset.{reached_late}
use Rattle.tipc_two_nodes.proofs.contacts.Stale.{apart_absent, record_stands}
use Rattle.tipc_two_nodes.proofs.contacts.Standing.{MayStand, StandsBoth, kept_stands, stands_both}

-- a contact that begins is a new one
pub new_ahead : (y x : View) (m : Numbers) → AreNumbers y x m → IsApart y → IsAhead y y.node.contact y.node.seen
new_ahead y x m h apart b epoch g is own theirs = elim (h.entered b epoch g is) [
  | inl before ↦ (let wrong : ⊥ = omega arith in wrong)
  | inr now ↦ apart_absent y y.node.contact y.node.seen apart now.1
]

-- the peer's number is no higher than the highest that x had seen
pub shown_known : (x y : View) (n : Numbers) (b epoch own theirs : ℕ) → AreNumbers x y n → IsToldIn x.told b epoch own theirs → x.node.contact ≡ own → x.node.seen < theirs → ⊥
shown_known x y n b epoch own theirs h t same higher =
    let F = h.frames t.place t.frame t.there in
    let most = F.theirs in
    let met : n.met t.frame.contact ≡ n.met x.node.contact = ap n.met (t.own_is ∙ sym same) in
    let now = h.now in
    let said = t.theirs_is in
    omega arith

-- the record on a bearer may stand
after_stands : (x y y' : View) (n : Numbers) (b : ℕ) (l : Lines) (z : Sender) (a : Received) → ArePaired x y → AreNumbers x y n → AreRecorded y x → Enters x y y' → l.first ≡ n.first b y.node.seen → AreSessions x y.node.seen y.node.contact b l z → 1 ≤ z.session
    → (z.state ≡ Held → 2 ≤ z.session) → RecordAfter x y y' b → record_at (y'.wires b).end ≡ Some a → MayStand l z a
after_stands x y y' n b l z a h numbers recorded enters first S some late after is =
    let before = λ (r : Received) (there : record_at (y.wires b).end ≡ Some r). record_stands x y n b enters.bearer enters.epoch l z r h.here numbers enters.apart enters.shown (recorded b r there) first S some late in
    elim after [
      | as_it_was same ↦ before a (sym same ∙ is)
      | is_kept epoch t kept ↦
          let shown = subst (IsShownIn l z) t.epoch_is (S.shown t.place t.frame t.there t.bearer_is t.own_is t.theirs_is) in
          kept_stands l z (record_at (y.wires b).end) epoch a before shown (let one : Some (kept_for (record_at (y.wires b).end) epoch) ≡ Some a = sym kept ∙ is in let two : kept_for (record_at (y.wires b).end) epoch ≡ a = cc in two)
    ]

begun_both : (x y y' : View) (n m : Numbers) (c : Carriage) → ArePaired x y → AreNumbers x y n → AreNumbers y x m → AreRecorded y x → Enters x y y' → IsSent x n y.node.seen y.node.contact c → IsTaken y y.node.contact y.node.seen c
    → StandsBoth c.traffic c.state (record_at (y'.wires 0).end) (record_at (y'.wires 1).end)
begun_both x y y' n m c h numbers back recorded enters S T =
    let sound = reached_sound c.state S.reached in
    let late = reached_late c.state S.reached in
    let none = T.none (new_ahead y x m back enters.apart) in
    stands_both c.traffic c.state (record_at (y'.wires 0).end) (record_at (y'.wires 1).end) S.lines (ap (λ r. r.session) none.near) (ap (λ r. r.session) none.far)
    (λ a is. after_stands x y y' n 0 c.traffic.near c.state.near a h numbers recorded enters S.near_first S.near sound.near.ends.session_begun late.near (enters.records 0) is)
    (λ a is. after_stands x y y' n 1 c.traffic.far c.state.far a h numbers recorded enters S.far_first S.far sound.far.ends.session_begun late.far (enters.records 1) is)

-- the other contacts are as they were
pub other_taken : (x y y' : View) (own theirs : ℕ) (c : Carriage) → Enters x y y' → (theirs ≡ y.node.contact → own ≡ y.node.seen → ⊥) → IsTaken y theirs own c → IsTaken y' theirs own c
other_taken x y y' own theirs c enters differ h =
    let none = λ (here : IsPresent y' theirs own). differ (here.own_is ∙ ap (λ (n : Node). n.contact) enters.node) (here.theirs_is ∙ ap (λ (n : Node). n.seen) enters.node) in
    record {
      near = λ here. absurd (none here);
      far = λ here. absurd (none here);
      none = λ ahead. h.none (λ b epoch g is. ahead b epoch g (enters.begun b epoch g is));
    }

-- nothing was taken in the contact yet, whatever the records are of
new_counted : (x y y' : View) (n m : Numbers) (c : Carriage) (s' : State) → AreNumbers y x m → Enters x y y' → IsSent x n y.node.seen y.node.contact c → IsTaken y y.node.contact y.node.seen c → AreCounted x y y.node.seen y.node.contact c
    → AreCounted x y' y.node.seen y.node.contact (record { traffic = c.traffic; state = s' })
new_counted x y y' n m c s' back enters S T k =
    let none = T.none (new_ahead y x m back enters.apart) in
    record {
      near = counted_fresh x y y' 0 y.node.seen y.node.contact c.traffic.near c.state.near c.state.near_record s'.near_record enters.got S.near (ap (λ r. r.session) none.near) k.near;
      far = counted_fresh x y y' 1 y.node.seen y.node.contact c.traffic.far c.state.far c.state.far_record s'.far_record enters.got S.far (ap (λ r. r.session) none.far) k.far;
    }

-- what was put and taken in the contact stays so
pub record EntersInto {x y y' : View} {n : Numbers} (k : Crosses x y n) (k' : Crosses x y' n) : Type 0 where
  pub state : State
  pub changed : ChangedAt k.carriage k'.carriage y.node.seen y.node.contact (record { traffic = (k.carriage y.node.seen y.node.contact).traffic; state = state })
  pub delivered : state.delivered ≡ (k.carriage y.node.seen y.node.contact).state.delivered

pub enters_taken : (x y y' : View) (n m : Numbers) → ArePaired x y → AreNumbers x y n → AreNumbers y x m → AreRecorded y x → Enters x y y' → Crosses x y n → Crosses x y' n
enters_taken x y y' n m h numbers back recorded enters k =
    let own = y.node.seen in
    let theirs = y.node.contact in
    let c = k.carriage own theirs in
    let B = begun_both x y y' n m c h numbers back recorded enters (k.sent own theirs) (k.taken own theirs) in
    let c' : Carriage = record { traffic = c.traffic; state = B.state } in
    record {
      carriage = with_one k.carriage own theirs c';
      sent = on_one k.carriage own theirs c' (λ i j d. IsSent x n i j d) (sent_taken x n own theirs c B.state (k.sent own theirs) B.takes (shown_known x y n enters.bearer enters.epoch own theirs numbers enters.shown)) (λ i j differ. k.sent i j);
      taken = on_one k.carriage own theirs c' (λ i j d. IsTaken y' j i d) (record { near = λ here. B.near; far = λ here. B.far; none = λ ahead. absurd (enters.some ahead) })
          (λ i j differ. other_taken x y y' i j (k.carriage i j) enters (λ theirs own. differ own theirs) (k.taken i j));
      counted = on_one k.carriage own theirs c' (λ i j d. AreCounted x y' i j d) (new_counted x y y' n m c B.state back enters (k.sent own theirs) (k.taken own theirs) (k.counted own theirs))
          (λ i j differ. counted_apart x y y' i j (k.carriage i j) enters.got (k.counted i j));
    }

-- and in no other contact anything changed
pub enters_changed : (x y y' : View) (n m : Numbers) (h : ArePaired x y) (numbers : AreNumbers x y n) (back : AreNumbers y x m) (recorded : AreRecorded y x) (enters : Enters x y y') (k : Crosses x y n)
    → EntersInto k (enters_taken x y y' n m h numbers back recorded enters k)
unfolding enters_taken
enters_changed x y y' n m h numbers back recorded enters k =
    let c = k.carriage y.node.seen y.node.contact in
    let B = begun_both x y y' n m c h numbers back recorded enters (k.sent y.node.seen y.node.contact) (k.taken y.node.seen y.node.contact) in
    record {
      state = B.state;
      changed = one_changed k.carriage y.node.seen y.node.contact (record { traffic = c.traffic; state = B.state });
      delivered = B.delivered;
    }
