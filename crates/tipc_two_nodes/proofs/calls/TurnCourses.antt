-- A call of a pair that takes no link up, where the contact goes on, keeps two nodes what they are: one of two links may go down, and then the
-- other one numbers what it left.
use Rattle.std.proofs.Common.{◌≡◌, ◌≢◌, ◌==◌, ℕ, true, false, if◌then◌else◌, List, [], Option, Some, None, refl, sym, ap, ◌∙◌, subst, arith}
use Rattle.tipc_link.specs.Links.{LinkEnd, is_down}
use Rattle.tipc_link.specs.Sessions.{SessionEnd}
use Rattle.tipc_link_fsm.specs.declared.changes.Change.{Change}
use Rattle.tipc_link_fsm.specs.declared.changes.Change.TheVariants.{Down, Up}
use Rattle.tipc_link_fsm.proofs.Moves.{is_going_up}
use Rattle.tipc_pair.specs.Changeovers.{contact_begins, contact_ends, fail_over, fail_over_to, failing, following, switch, switch_from, switching}
use Rattle.tipc_pair.specs.Courses.{Course, rests}
use Rattle.tipc_pair.specs.Facing.{PairEnds, in_contact, is_up_at, other}
use Rattle.tipc_pair.specs.PairCalls.{session_at}
use Rattle.tipc_changeover.specs.Links.{Bearer, State}
use Rattle.tipc_two_nodes.specs.links.Acting.{Acted}
use Rattle.tipc_two_nodes.specs.links.Receiving.{records_of}
use Rattle.tipc_two_nodes.specs.links.Sending.{SendingEnds, end_seen, ends_seen, number_as}
use Rattle.tipc_two_nodes.specs.links.Traffic.{Traffic}
use Rattle.tipc_two_nodes.proofs.links.calls.Reacting.{Turned, fell, last, rose, still}
use Rattle.tipc_paired.proofs.wires.Wires.{epoch_of_end, on_put, put_other, same_some}
use Rattle.tipc_paired.specs.Paired.{ArePaired}
use Rattle.tipc_paired.specs.Views.{View, epoch_on, put_at}
use Rattle.tipc_two_nodes.proofs.deeds.Pairs.{up_end}
use Rattle.tipc_two_nodes.specs.deeds.PairDeeds.{IsOfPair, TakesCourse, failing_more, followed_more, more_at, none_more}
use Rattle.tipc_two_nodes.specs.Carrying.{KeepsCarried}
use Rattle.tipc_two_nodes.specs.Pieces.{KeepsNumbers, state_from, traffic_from}
use Rattle.tipc_two_nodes.specs.Twins.{AreTwins, sends_in}
use Rattle.tipc_two_nodes.proofs.calls.Chaining.{AreNow}
use Rattle.tipc_two_nodes.proofs.contacts.Leaving.{epoch_seen}
use Rattle.tipc_two_nodes.proofs.calls.PairViews.{course_carried, with_carried}
use Rattle.tipc_two_nodes.proofs.calls.QuietCourses.{numbers_same}

-- ---- what follows keeps the contact numbers, where the contact goes on

failing_numbers : (z : PairEnds) (near far : LinkEnd) (lost s : Option SessionEnd) → KeepsNumbers z (failing z near far lost s).pair
failing_numbers z near far None s = numbers_same z
failing_numbers z near far (Some l) None = numbers_same z
failing_numbers z near far (Some l) (Some s) = record { own = refl; peer = refl; contact = refl; seen = refl; bearer = refl }

fail_numbers : (z : PairEnds) (near far : Option LinkEnd) → KeepsNumbers z (fail_over_to z near far).pair
fail_numbers z None far = numbers_same z
fail_numbers z (Some e) None = numbers_same z
fail_numbers z (Some e) (Some f) = failing_numbers z e f e.session f.session

switching_numbers : (z : PairEnds) (near far : LinkEnd) (s old : Option SessionEnd) → KeepsNumbers z (switching z near far s old).pair
switching_numbers z near far None old = numbers_same z
switching_numbers z near far (Some s) None = numbers_same z
switching_numbers z near far (Some s) (Some old) = record { own = refl; peer = refl; contact = refl; seen = refl; bearer = refl }

switch_numbers : (z : PairEnds) (near far : Option LinkEnd) → KeepsNumbers z (switch_from z near far).pair
switch_numbers z None far = numbers_same z
switch_numbers z (Some e) None = numbers_same z
switch_numbers z (Some e) (Some f) = switching_numbers z e f e.session f.session

pub following_numbers : (z : PairEnds) (k : Change) (epoch : ℕ) → (is_down k ≡ true → is_up_at z.far ≡ true) → KeepsNumbers z (following z k epoch).pair
following_numbers z Up epoch far = elim (is_up_at z.far) as (λ t. KeepsNumbers z (if t then (if z.bearer == 0 then switch z else rests z) else contact_begins z).pair) [
  | true ↦ elim (z.bearer == 0) as (λ t. KeepsNumbers z (if t then switch z else rests z).pair) [ true ↦ switch_numbers z z.near z.far | false ↦ numbers_same z ]
  | false ↦ record { own = refl; peer = refl; contact = refl; seen = refl; bearer = refl }
]
following_numbers z (Down cause) epoch far =
    subst (λ t. KeepsNumbers z (if t then fail_over z else contact_ends z (z.contact, z.seen) 0).pair) (sym (far refl)) (fail_numbers z z.near z.far)
following_numbers z other epoch far = numbers_same z

-- ---- the packets get numbers in the present session of the far link

pub more_now : (v : View) (c epoch n : ℕ) (packets : List (List ℕ)) → epoch ≡ epoch_on v.node (v.wires c) → AreNow v (more_at c epoch packets) n
more_now v c epoch n packets is =
    on_put none_more c (put_at (none_more c) epoch packets) (λ n (f : ℕ → List (List ℕ)). (i : ℕ) → i ≢ epoch_on v.node (v.wires n) → f i ≡ [])
    (λ i differ. put_other (none_more c) epoch packets i (λ same. differ (same ∙ is))) (λ n i differ. refl) n

failing_now : (v : View) (c n : ℕ) (lost s : Option SessionEnd) → ((u : SessionEnd) → s ≡ Some u → u.epoch ≡ epoch_on v.node (v.wires c)) → AreNow v (failing_more c lost s) n
failing_now v c n None s at = λ i differ. refl
failing_now v c n (Some l) None at = λ i differ. refl
failing_now v c n (Some l) (Some u) at = more_now v c u.epoch n _ (at u refl)

pub followed_now : (v : View) (z : PairEnds) (k : Change) (n : ℕ) → is_going_up k ≡ false → ((u : SessionEnd) → is_up_at z.far ≡ true → session_at z.far ≡ Some u → u.epoch ≡ epoch_on v.node (v.wires (other z.bearer))) → AreNow v (followed_more z k) n
followed_now v z Up n quiet at = absurd (let wrong : ⊥ = cc in wrong)
followed_now v z (Down cause) n quiet at =
    elim (is_up_at z.far) as (λ t. is_up_at z.far ≡ t → AreNow v (if t then failing_more (other z.bearer) (session_at z.near) (session_at z.far) else none_more) n) [
      | true ↦ λ up. failing_now v (other z.bearer) n (session_at z.near) (session_at z.far) (λ u is. at u up is)
      | false ↦ λ down i differ. refl
    ] refl
followed_now v z other n quiet at = λ i differ. refl

-- the far link's epoch, by the view and by the pair
far_epoch : (v : View) (p : PairEnds) → IsOfPair v p → epoch_on v.node (v.wires (other p.bearer)) ≡ (ends_seen p).far.epoch
far_epoch v p h = sym (epoch_seen v (other p.bearer)) ∙ (ap (λ o. (end_seen v.node.contact o).epoch) h.far ∙ ap (λ c. (end_seen c p.far).epoch) h.contact)

far_session : (v y : View) (p : PairEnds) (u : SessionEnd) → ArePaired v y → IsOfPair v p → is_up_at p.far ≡ true → session_at p.far ≡ Some u → u.epoch ≡ epoch_on v.node (v.wires (other p.bearer))
far_session v y p u h pair up is =
    let at = up_end p.far up in
    let end = pair.far ∙ at.1 in
    let going = (h.here.ends (other p.bearer) at.0 end).going at.2 in
    let same : going.0 ≡ u = same_some going.0 u _ going.1 (ap session_at (sym at.1) ∙ is) in
    ap (λ (s : SessionEnd). s.epoch) (sym same) ∙ (going.2 ∙ sym (epoch_of_end v.node (v.wires (other p.bearer)) at.0 end))

-- ---- the course

-- what became of a pair of which no link went up, and whose contact goes on
record GoesOnSo (b : Bearer) (p q : PairEnds) (t : Traffic) (s : State) : Type 0 where
  acted : Acted b (ends_seen p) (ends_seen q) t s
  far : (ends_seen q).far.epoch ≡ (ends_seen p).far.epoch

turned_on : (b : Bearer) (p q : PairEnds) (t : Traffic) (s : State) → q.contact ≡ p.contact → Turned b p q false t s → GoesOnSo b p q t s
turned_on b p q t s same (still walk ends) = record { acted = walk.acted; far = ap (λ (e : SendingEnds). e.far.epoch) ends }
turned_on b p q t s same (fell walk falls up down) = record { acted = walk.acted; far = falls.epoch }
turned_on b p q t s same (rose walk so) = absurd (let wrong : ⊥ = cc in wrong)
turned_on b p q t s same (last over) = absurd (let next = over.next in let wrong : ⊥ = omega arith in wrong)

pub turn_carried : (b : Bearer) (v y : View) (h : AreTwins v y) (p z : PairEnds) (k : Change) (c : Course) → IsOfPair v p → p.bearer ≡ number_as b → z.bearer ≡ p.bearer → z.far ≡ p.far → TakesCourse v y c (followed_more z k) none_more → is_going_up k ≡ false
    → KeepsNumbers p c.pair → records_of c.pair ≡ records_of p → (in_contact c.pair ≡ true → in_contact p ≡ true) → Turned b p c.pair false (traffic_from b (sends_in v y h).traffic) (state_from b (sends_in v y h).state) → KeepsCarried v y h c (followed_more z k)
turn_carried b v y h p z k c pair is bearer far t quiet numbers records before turned =
    let v' = t.0 in
    let on = turned_on b p c.pair _ _ numbers.contact turned in
    let there : epoch_on v'.node (v'.wires (other p.bearer)) ≡ epoch_on v.node (v.wires (other p.bearer)) =
    ap (λ n. epoch_on v'.node (v'.wires (other n))) (sym numbers.bearer) ∙ (far_epoch v' c.pair t.1.pair ∙ (on.far ∙ sym (far_epoch v p pair))) in
    let at : (u : SessionEnd) → is_up_at z.far ≡ true → session_at z.far ≡ Some u → u.epoch ≡ epoch_on v'.node (v'.wires (other z.bearer)) = λ u up session.
    far_session v y p u h.paired pair (ap is_up_at (sym far) ∙ up) (ap session_at (sym far) ∙ session) ∙ (sym there ∙ ap (λ n. epoch_on v'.node (v'.wires (other n))) (sym bearer)) in
    with_carried v y h c (followed_more z k) t (course_carried b v y h p c (followed_more z k) pair is t.0 t.1 (record { numbers = numbers; records = records; before = before; acted = on.acted }) (followed_now v' z k 0 quiet at) (followed_now v' z k 1 quiet at))
