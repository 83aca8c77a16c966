-- What a node took of the sessions of a contact is counted by the records of it, also once the contact is over.
use Rattle.std.proofs.Common.{◌≡◌, ◌<◌, ◌≤◌, ◌⊎◌, nat_lt, ℕ, ◌+◌, true, false, List, Option, Some, None, length, refl, sym, ap, ◌∙◌, subst, inl, inr, arith}
use Rattle.std.proofs.lemmas.Bool.{cases_lt}
use Rattle.std.proofs.lemmas.Bool.Decides.{nat_tests}
use Rattle.tipc_changeover.specs.Links.{other, turned_state, Bearer, Receiver, Sender, State}
use Rattle.tipc_changeover.specs.Events.{acted, opened, session_told, Acknowledge, Deferred, Event, Failover, Late, LinkUp, MayAct, Next, Number, Old, Opening, Passed, Put, Record, Release, Switch, TakePlain, TakeTunnel}
use Rattle.tipc_changeover.specs.Parts.{Ends}
use Rattle.tipc_two_nodes.specs.links.Following.{far, is_received, near, stays, ReceiverFollows}
use Rattle.tipc_two_nodes.specs.links.Traffic.{Lines}
use Rattle.tipc_paired.proofs.wires.Wires.{prefix_long, same_some}
use Rattle.tipc_paired.specs.Paired.{ArePaired}
use Rattle.tipc_paired.specs.Views.{Begun, View}
use Rattle.tipc_two_nodes.specs.Carriages.{AreCounted, AreSessions, BeganIn, Carriage, HasTakenOf, IsCounted, IsHad, Numbers}
use Rattle.tipc_two_nodes.specs.Numbers.{AreNumbers}
use Rattle.tipc_two_nodes.specs.Steps.{IsCountedBy, Rests, TakesFor}
use Rattle.tipc_two_nodes.proofs.contacts.Outset.{cases_up}

-- ---- records rise

-- a record goes on in its session, or to a later one
abbrev pub Rises : Receiver → Receiver → Type 0
Rises r r' = (r.session < r'.session) ⊎ ((r'.session ≡ r.session) × (r.taken ≤ r'.taken))

same_rises : (r : Receiver) → Rises r r
same_rises r = inr (refl, omega arith)

rises_then : (r r' r'' : Receiver) → Rises r r' → Rises r' r'' → Rises r r''
rises_then r r' r'' (inl more) (inl again) = inl (omega arith)
rises_then r r' r'' (inl more) (inr still) = inl (let same = still.0 in omega arith)
rises_then r r' r'' (inr still) (inl more) = inl (let same = still.0 in omega arith)
rises_then r r' r'' (inr still) (inr again) = inr (again.0 ∙ still.0, (let one = still.1 in let two = again.1 in omega arith))

told_rises : (t : Receiver) (session : ℕ) → Rises t (session_told t session)
unfolding session_told
told_rises t session = elim (cases_lt t.session session) [
  | inl later ↦ (let test : nat_lt t.session session ≡ true = grind (arith, nat_tests) in rw test (inl later))
  | inr low ↦ (let test : nat_lt t.session session ≡ false = grind (arith, nat_tests) in rw test (same_rises t))
]

opened_rises : (t : Receiver) (opening : Opening) → Rises t (opened t opening)
opened_rises t Late = same_rises t
opened_rises t Old = same_rises t
opened_rises t Passed = inr (refl, omega arith)
opened_rises t (Next i) = inr (refl, omega arith)
opened_rises t Deferred = same_rises t

pub record BothRise (s s' : State) : Type 0 where
  pub near : Rises s.near_record s'.near_record
  pub far : Rises s.far_record s'.far_record

rise_one : (b : Bearer) (s : State) (event : Event) → MayAct b s event → is_received event ≡ true → BothRise s (acted s event)
rise_one b s Put may is = absurd (let wrong : ⊥ = cc in wrong)
rise_one b s (Number slot rest) may is = absurd (let wrong : ⊥ = cc in wrong)
rise_one b s (Acknowledge places) may is = absurd (let wrong : ⊥ = cc in wrong)
rise_one b s Release may is = absurd (let wrong : ⊥ = cc in wrong)
rise_one b s (Record session) may is = record { near = inl may.0; far = same_rises s.far_record }
rise_one b s (TakePlain index) may is = record { near = inr (refl, omega arith); far = same_rises s.far_record }
rise_one b s (TakeTunnel session place full opening) may is = record {
  near = inr (refl, omega arith);
  far = rises_then s.far_record (session_told s.far_record session) _ (told_rises s.far_record session) (opened_rises (session_told s.far_record session) opening);
}
rise_one b s LinkUp may is = absurd (let wrong : ⊥ = cc in wrong)
rise_one b s Switch may is = absurd (let wrong : ⊥ = cc in wrong)
rise_one b s Failover may is = absurd (let wrong : ⊥ = cc in wrong)

rise_then : (s s' s'' : State) → BothRise s s' → BothRise s' s'' → BothRise s s''
rise_then s s' s'' f g = record { near = rises_then s.near_record s'.near_record s''.near_record f.near g.near; far = rises_then s.far_record s'.far_record s''.far_record f.far g.far }

rise_turned : (s s' : State) → BothRise (turned_state s) (turned_state s') → BothRise s s'
rise_turned s s' h = record { near = h.far; far = h.near }

pub takes_rise : (b : Bearer) (s s' : State) → ReceiverFollows b s s' → BothRise s s'
takes_rise b s s' stays = record { near = same_rises s.near_record; far = same_rises s.far_record }
takes_rise b s s' (near next event f may is) = rise_then s next _ (takes_rise b s next f) (rise_one b next event may is)
takes_rise b s s' (far next event f may is) = rise_then s next _ (takes_rise b s next f) (rise_turned next (turned_state (acted (turned_state next) event)) (rise_one (other b) (turned_state next) event may is))

-- what was counted is counted by a record that goes on
pub counted_on : (l : Lines) (r r' : Receiver) (epoch count : ℕ) → Rises r r' → HasTakenOf l r epoch count → HasTakenOf l r' epoch count
counted_on l r r' epoch count (inl more) h some = elim (h some) [
  | inl later ↦ inl (omega arith)
  | inr now ↦ inl (let same = now.0 in omega arith)
]
counted_on l r r' epoch count (inr still) h some = elim (h some) [
  | inl later ↦ inl (let same = still.0 in omega arith)
  | inr now ↦ inr ((let same = still.0 in let place = now.0 in omega arith), (let more = still.1 in let few = now.1 in omega arith))
]

-- ---- the sender goes on

-- a session of which packets were taken had begun before
taken_began : (x x' y : View) (b epoch own theirs : ℕ) → ArePaired x y → ((b epoch : ℕ) (g : Begun) → (x.wires b).begun epoch ≡ Some g → (x'.wires b).begun epoch ≡ Some g) → 1 ≤ length ((y.wires b).got epoch) → BeganIn x' b epoch own theirs → BeganIn x b epoch own theirs
taken_began x x' y b epoch own theirs h begun some k = of ((x.wires b).begun epoch) refl where
  of : (o : Option Begun) → (x.wires b).begun epoch ≡ o → BeganIn x b epoch own theirs
  of None none = absurd (
      let line : length ((x.wires b).line epoch) ≡ 0 = ap (λ (ps : List (List ℕ)). length ps) ((h.here.wires b).unborn epoch none) in
      let front = prefix_long ((y.wires b).got epoch) ((x.wires b).line epoch) ((h.there.wires b).prefix epoch) in
      let wrong : ⊥ = omega arith in
      wrong)
  of (Some g) is = (
      let same : g ≡ k.0 = same_some g k.0 ((x'.wires b).begun epoch) (begun b epoch g is) k.1 in
      (g, is, ap (λ (u : Begun). u.contact) same ∙ k.2, ap (λ (u : Begun). u.peer_contact) same ∙ k.3))

pub counted_sent : (x x' y : View) (b own theirs : ℕ) (l l' : Lines) (r r' : Receiver) → ArePaired x y → ((b epoch : ℕ) (g : Begun) → (x.wires b).begun epoch ≡ Some g → (x'.wires b).begun epoch ≡ Some g) → l'.first ≡ l.first → r' ≡ r → IsCounted x y own theirs b l r
    → IsCounted x' y own theirs b l' r'
counted_sent x x' y b own theirs l l' r r' h begun first same k epoch began some =
    let session : r'.session ≡ r.session = ap (λ (q : Receiver). q.session) same in
    let taken : r'.taken ≡ r.taken = ap (λ (q : Receiver). q.taken) same in
    elim (k epoch (taken_began x x' y b epoch own theirs h begun some began) some) [
      | inl later ↦ inl (omega arith)
      | inr now ↦ inr ((let place = now.0 in omega arith), (let few = now.1 in omega arith))
    ]

began_rests : (x x' : View) (b epoch own theirs : ℕ) → Rests x x' → BeganIn x' b epoch own theirs → BeganIn x b epoch own theirs
began_rests x x' b epoch own theirs q k = (k.0, sym (q.begun b epoch) ∙ k.1, k.2, k.3)

pub counted_rests : (x x' y : View) (own theirs : ℕ) (c : Carriage) → Rests x x' → AreCounted x y own theirs c → AreCounted x' y own theirs c
counted_rests x x' y own theirs c q k = record {
  near = λ epoch began. k.near epoch (began_rests x x' 0 epoch own theirs q began);
  far = λ epoch began. k.far epoch (began_rests x x' 1 epoch own theirs q began);
}

-- no session began under a number that the node didn't have
none_began : (x y : View) (n : Numbers) (b epoch own theirs : ℕ) → AreNumbers x y n → x.node.contact < own → BeganIn x b epoch own theirs → ⊥
none_began x y n b epoch own theirs h later k =
    let is = k.2 in
    elim (h.entered b epoch k.0 k.1) [
      | inl before ↦ (let wrong : ⊥ = omega arith in wrong)
      | inr now ↦ (let same = now.0 in let wrong : ⊥ = omega arith in wrong)
    ]

pub counted_new : (x x' y : View) (n : Numbers) (own theirs : ℕ) (c : Carriage) → AreNumbers x y n → Rests x x' → x.node.contact < own → AreCounted x' y own theirs c
counted_new x x' y n own theirs c h q later = record {
  near = λ epoch began. absurd (none_began x y n 0 epoch own theirs h later (began_rests x x' 0 epoch own theirs q began));
  far = λ epoch began. absurd (none_began x y n 1 epoch own theirs h later (began_rests x x' 1 epoch own theirs q began));
}

-- ---- the receiver goes on

-- nothing is taken
abbrev pub TakesNoMore : View → View → Type 0
TakesNoMore y y' = (b epoch : ℕ) → (y'.wires b).got epoch ≡ (y.wires b).got epoch

got_long : (y y' : View) (b epoch : ℕ) → (y'.wires b).got epoch ≡ (y.wires b).got epoch → length ((y'.wires b).got epoch) ≡ length ((y.wires b).got epoch)
got_long y y' b epoch same = ap (λ (ps : List (List ℕ)). length ps) same

still_counted : (x y y' : View) (b own theirs : ℕ) (l : Lines) (r : Receiver) (epoch : ℕ) → (y'.wires b).got epoch ≡ (y.wires b).got epoch → IsCounted x y own theirs b l r → BeganIn x b epoch own theirs → HasTakenOf l r epoch (length ((y'.wires b).got epoch))
still_counted x y y' b own theirs l r epoch same k began = subst (HasTakenOf l r epoch) (sym (got_long y y' b epoch same)) (k epoch began)

pub counted_apart : (x y y' : View) (own theirs : ℕ) (c : Carriage) → TakesNoMore y y' → AreCounted x y own theirs c → AreCounted x y' own theirs c
counted_apart x y y' own theirs c same k = record {
  near = λ epoch began. still_counted x y y' 0 own theirs c.traffic.near c.state.near_record epoch (same 0 epoch) k.near began;
  far = λ epoch began. still_counted x y y' 1 own theirs c.traffic.far c.state.far_record epoch (same 1 epoch) k.far began;
}

-- a contact begins, so nothing had been taken in it
pub counted_fresh : (x y y' : View) (b own theirs : ℕ) (l : Lines) (z : Sender) (r r' : Receiver) → TakesNoMore y y' → AreSessions x own theirs b l z → r.session ≡ 0 → IsCounted x y own theirs b l r → IsCounted x y' own theirs b l r'
counted_fresh x y y' b own theirs l z r r' same S none k epoch began some = absurd (
    let long = got_long y y' b epoch (same b epoch) in
    let line = S.lines epoch began.0 began.1 began.2 began.3 in
    let low = line.0 in
    elim (k epoch began (omega arith)) [
      | inl later ↦ (let wrong : ⊥ = omega arith in wrong)
      | inr now ↦ (let place = now.0 in let wrong : ⊥ = omega arith in wrong)
    ])

-- packets of one session are taken, which its record counts
pub counted_taken : (x y y' : View) (b own theirs : ℕ) (l : Lines) (r r' : Receiver) → TakesFor y y' b l r' → Rises r r' → IsCounted x y own theirs b l r → IsCounted x y' own theirs b l r'
counted_taken x y y' b own theirs l r r' takes rises k epoch began = elim (takes epoch) [
  | inl same ↦ counted_on l r r' epoch (length ((y'.wires b).got epoch)) rises (still_counted x y y' b own theirs l r epoch same k began)
  | inr by ↦ λ some. inr (by.epoch_is, by.taken)
]

-- ---- sessions that the sender has had

-- it has had each session in which anything has a number
pub line_had : (l : Lines) (z : Sender) (r : Receiver) (session epoch : ℕ) → Ends z r → l.first + session ≡ epoch + 1 → 1 ≤ length (z.line session) → IsHad l z epoch
line_had l z r session epoch ends place some = elim (cases_lt session z.session) [
  | inl before ↦ inl (omega arith)
  | inr late ↦ elim (cases_lt z.session session) [
    | inl later ↦ absurd (let none : length (z.line session) ≡ 0 = ap length (ends.later session later) in let wrong : ⊥ = omega arith in wrong)
    | inr early ↦
        let same : session ≡ z.session = omega arith in
        inr (
          omega arith,
          elim (cases_up z.state) [
            | inl up ↦ up
            | inr down ↦ absurd (let none : length (z.line session) ≡ 0 = ap (λ n. length (z.line n)) same ∙ ap length (ends.down down).0 in let wrong : ⊥ = omega arith in wrong)
          ],
        )
  ]
]

-- and each of which packets were taken
taken_had : (l : Lines) (z : Sender) (r : Receiver) (epoch count : ℕ) → Ends z r → IsCountedBy l r epoch count → 1 ≤ count → IsHad l z epoch
taken_had l z r epoch count ends by some = (let few = by.taken in let within = ends.taken in line_had l z r r.session epoch ends by.epoch_is (omega arith))

-- so what is taken is of no session of another contact
pub counted_else : (x y y' : View) (b own theirs i j : ℕ) (l m : Lines) (z : Sender) (r q : Receiver) → (i ≡ own → j ≡ theirs → ⊥) → TakesFor y y' b l r → Ends z r → AreSessions x own theirs b l z → IsCounted x y i j b m q → IsCounted x y' i j b m q
counted_else x y y' b own theirs i j l m z r q differ takes ends S k epoch began = elim (takes epoch) [
  | inl same ↦ still_counted x y y' b i j m q epoch same k began
  | inr by ↦ λ some. absurd (
      let begun = by.begun in
      let place = by.epoch_is in
      let here = S.began epoch (omega arith) (taken_had l z r epoch _ ends by some) in
      let same : here.0 ≡ began.0 = same_some here.0 began.0 ((x.wires b).begun epoch) here.1 began.1 in
      differ (sym began.2 ∙ (ap (λ (u : Begun). u.contact) (sym same) ∙ here.2)) (sym began.3 ∙ (ap (λ (u : Begun). u.peer_contact) (sym same) ∙ here.3)))
]
