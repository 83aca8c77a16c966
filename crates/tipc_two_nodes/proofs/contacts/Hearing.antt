-- What a receiver does in a contact that lasts, and out of contact, beside what the other node sent.
use Rattle.std.proofs.Common.{◌≡◌, ◌≤◌, ℕ, Some, refl, sym, ap, ◌∙◌, subst, inl, inr, arith}
use Rattle.tipc_changeover.specs.Links.{First}
use Rattle.tipc_changeover.specs.Reached.{begun}
use Rattle.tipc_changeover.proofs.Staying.{reached_sound}
use Rattle.tipc_two_nodes.specs.links.Laws.{TakesNone}
use Rattle.tipc_paired.specs.Paired.{ArePaired}
use Rattle.tipc_paired.specs.Views.{Begun, IsApart, Node, View}
use Rattle.tipc_two_nodes.specs.Carriages.{AreCounted, Carriage, IsAhead, IsPresent, IsSent, IsTaken, Numbers}
use Rattle.tipc_two_nodes.specs.Numbers.{AreNumbers, IsToldIn}
use Rattle.tipc_two_nodes.specs.Steps.{ChangedAt, Receives}
use Rattle.tipc_two_nodes.specs.Twins.{Crosses}
use Rattle.tipc_two_nodes.proofs.contacts.Choosing.{on_one, one_changed, with_one}
use Rattle.tipc_two_nodes.proofs.contacts.Counting.{TakesNoMore, counted_apart, counted_else, counted_taken, takes_rise}
use Rattle.tipc_two_nodes.proofs.contacts.Entering.{shown_known}
use Rattle.tipc_two_nodes.proofs.contacts.Lasting.{sent_taken}
use Rattle.tipc_two_nodes.proofs.contacts.Stale.{apart_absent}

-- ---- a contact that lasts

-- a session of it, and the frame of the other node under which that began
pub record IsHeld (x y : View) (own theirs : ℕ) : Type 0 where
  pub bearer : ℕ
  pub epoch : ℕ
  pub session : Begun
  pub begun : (y.wires bearer).begun epoch ≡ Some session
  pub own_is : session.contact ≡ own
  pub theirs_is : session.peer_contact ≡ theirs
  pub shown : IsToldIn x.told bearer session.peer_epoch theirs own

pub present_held : (x y : View) (m : Numbers) (own theirs : ℕ) → ArePaired x y → AreNumbers y x m → IsPresent y own theirs → IsHeld x y own theirs
present_held x y m own theirs h back here =
    let going = (h.there.wires here.bearer).going here.session here.session_is in
    let g = going.begun in
    let now = (h.there.epochs here.bearer).now here.session g here.session_is going.begun_is in
    let own_is = now.0 ∙ sym here.own_is in
    let theirs_is = now.1 ∙ sym here.theirs_is in
    record {
      bearer = here.bearer;
      epoch = here.session.epoch;
      session = g;
      begun = going.begun_is;
      own_is = own_is;
      theirs_is = theirs_is;
      shown = subst (λ k. IsToldIn x.told here.bearer g.peer_epoch theirs k) own_is (subst (λ k. IsToldIn x.told here.bearer g.peer_epoch k g.contact) theirs_is (back.heard here.bearer here.session.epoch g going.begun_is));
    }

-- its number was told
pub present_known : (x y : View) (n m : Numbers) → ArePaired x y → AreNumbers x y n → AreNumbers y x m → (own theirs : ℕ) → IsPresent y theirs own → own ≤ x.node.contact
present_known x y n m h numbers back own theirs here =
    let t = (present_held x y m theirs own h back here).shown in
    let few = (numbers.frames t.place t.frame t.there).own in
    let same = t.own_is in
    omega arith

-- ---- packets are taken

-- a contact that lasts isn't ahead
present_begun : (x y y' : View) (m : Numbers) (own theirs : ℕ) → ArePaired x y → AreNumbers y x m → ((b epoch : ℕ) (g : Begun) → (y.wires b).begun epoch ≡ Some g → (y'.wires b).begun epoch ≡ Some g) → IsPresent y own theirs → IsAhead y' own theirs → ⊥
present_begun x y y' m own theirs h back begun here ahead =
    let k = present_held x y m own theirs h back here in
    ahead k.bearer k.epoch k.session (begun k.bearer k.epoch k.session k.begun) k.own_is k.theirs_is

taken_here : (x y y' : View) (m : Numbers) (c : Carriage) → ArePaired x y → AreNumbers y x m → (r : Receives y y' c) → IsTaken y y.node.contact y.node.seen c → IsTaken y' y.node.contact y.node.seen (record { traffic = c.traffic; state = r.state })
taken_here x y y' m c h back r t = record {
  near = λ here. r.near (r.present here);
  far = λ here. r.far (r.present here);
  none = λ ahead. elim r.moved [
    | inl same ↦ subst (TakesNone begun) (sym same) (t.none (λ b epoch g is. ahead b epoch g (r.begun b epoch g is)))
    | inr here ↦ absurd (present_begun x y y' m y.node.contact y.node.seen h back r.begun here ahead)
  ];
}

sent_here : (x y y' : View) (n m : Numbers) (c : Carriage) → ArePaired x y → AreNumbers x y n → AreNumbers y x m → (r : Receives y y' c) → IsSent x n y.node.seen y.node.contact c → IsSent x n y.node.seen y.node.contact (record { traffic = c.traffic; state = r.state })
sent_here x y y' n m c h numbers back r s = elim r.moved [
  | inl same ↦ subst (λ z. IsSent x n y.node.seen y.node.contact (record { traffic = c.traffic; state = z })) (sym same) s
  | inr here ↦
      let k = present_held x y m y.node.contact y.node.seen h back here in
      sent_taken x n y.node.seen y.node.contact c r.state s r.takes (shown_known x y n k.bearer k.session.peer_epoch y.node.seen y.node.contact numbers k.shown)
]

taken_else : (y y' : View) (own theirs : ℕ) (c d : Carriage) → (theirs ≡ y.node.contact → own ≡ y.node.seen → ⊥) → Receives y y' d → IsTaken y theirs own c → IsTaken y' theirs own c
taken_else y y' own theirs c d differ r h =
    let none = λ (here : IsPresent y' theirs own). differ (here.own_is ∙ ap (λ (k : Node). k.contact) r.node) (here.theirs_is ∙ ap (λ (k : Node). k.seen) r.node) in
    record {
      near = λ here. absurd (none here);
      far = λ here. absurd (none here);
      none = λ ahead. h.none (λ b epoch g is. ahead b epoch g (r.begun b epoch g is));
    }

-- what was taken is counted in the contact, and in no other one
counted_here : (x y y' : View) (own theirs : ℕ) (c : Carriage) → (r : Receives y y' c) → AreCounted x y own theirs c → AreCounted x y' own theirs (record { traffic = c.traffic; state = r.state })
counted_here x y y' own theirs c r k =
    let rise = takes_rise First c.state r.state r.takes in
    record {
      near = counted_taken x y y' 0 own theirs c.traffic.near c.state.near_record r.state.near_record r.near_got rise.near k.near;
      far = counted_taken x y y' 1 own theirs c.traffic.far c.state.far_record r.state.far_record r.far_got rise.far k.far;
    }

counted_in_other : (x y y' : View) (n : Numbers) (i j : ℕ) (c d : Carriage) → (i ≡ y.node.seen → j ≡ y.node.contact → ⊥) → (r : Receives y y' c) → IsSent x n y.node.seen y.node.contact (record { traffic = c.traffic; state = r.state }) → AreCounted x y i j d
    → AreCounted x y' i j d
counted_in_other x y y' n i j c d differ r s k =
    let sound = reached_sound r.state s.reached in
    record {
      near = counted_else x y y' 0 y.node.seen y.node.contact i j c.traffic.near d.traffic.near r.state.near r.state.near_record d.state.near_record differ r.near_got sound.near.ends s.near k.near;
      far = counted_else x y y' 1 y.node.seen y.node.contact i j c.traffic.far d.traffic.far r.state.far r.state.far_record d.state.far_record differ r.far_got sound.far.ends s.far k.far;
    }

pub receives_crosses : (x y y' : View) (n m : Numbers) → ArePaired x y → AreNumbers x y n → AreNumbers y x m → (k : Crosses x y n) → Receives y y' (k.carriage y.node.seen y.node.contact) → Crosses x y' n
receives_crosses x y y' n m h numbers back k r =
    let own = y.node.seen in
    let theirs = y.node.contact in
    let c = k.carriage own theirs in
    let c' : Carriage = record { traffic = c.traffic; state = r.state } in
    record {
      carriage = with_one k.carriage own theirs c';
      sent = on_one k.carriage own theirs c' (λ i j d. IsSent x n i j d) (sent_here x y y' n m c h numbers back r (k.sent own theirs)) (λ i j differ. k.sent i j);
      taken = on_one k.carriage own theirs c' (λ i j d. IsTaken y' j i d) (taken_here x y y' m c h back r (k.taken own theirs))
          (λ i j differ. taken_else y y' i j (k.carriage i j) c (λ theirs own. differ own theirs) r (k.taken i j));
      counted = on_one k.carriage own theirs c' (λ i j d. AreCounted x y' i j d) (counted_here x y y' own theirs c r (k.counted own theirs))
          (λ i j differ. counted_in_other x y y' n i j c (k.carriage i j) differ r (sent_here x y y' n m c h numbers back r (k.sent own theirs)) (k.counted i j));
    }

-- no other contact changed
pub receives_changed : (x y y' : View) (n m : Numbers) (h : ArePaired x y) (numbers : AreNumbers x y n) (back : AreNumbers y x m) (k : Crosses x y n) (r : Receives y y' (k.carriage y.node.seen y.node.contact))
    → ChangedAt k.carriage (receives_crosses x y y' n m h numbers back k r).carriage y.node.seen y.node.contact (record { traffic = (k.carriage y.node.seen y.node.contact).traffic; state = r.state })
unfolding receives_crosses
receives_changed x y y' n m h numbers back k r = one_changed k.carriage y.node.seen y.node.contact (record { traffic = (k.carriage y.node.seen y.node.contact).traffic; state = r.state })

-- ---- out of contact

-- where no link is up then, the receiver left its contact or had none
pub apart_crosses : (x y y' : View) (n : Numbers) → IsApart y' → ((b epoch : ℕ) (g : Begun) → (y.wires b).begun epoch ≡ Some g → (y'.wires b).begun epoch ≡ Some g) → TakesNoMore y y' → Crosses x y n → Crosses x y' n
apart_crosses x y y' n apart begun got k = record {
  carriage = k.carriage;
  sent = k.sent;
  counted = λ own theirs. counted_apart x y y' own theirs (k.carriage own theirs) got (k.counted own theirs);
  taken = λ own theirs. record {
    near = λ here. absurd (apart_absent y' theirs own apart here);
    far = λ here. absurd (apart_absent y' theirs own apart here);
    none = λ ahead. (k.taken own theirs).none (λ b epoch g is. ahead b epoch g (begun b epoch g is));
  };
}

pub apart_same : (x y y' : View) (n : Numbers) (apart : IsApart y') (begun : (b epoch : ℕ) (g : Begun) → (y.wires b).begun epoch ≡ Some g → (y'.wires b).begun epoch ≡ Some g) (got : TakesNoMore y y') (k : Crosses x y n) → (apart_crosses x y y' n apart begun got k).carriage ≡ k.carriage
unfolding apart_crosses
apart_same x y y' n apart begins got k = refl
