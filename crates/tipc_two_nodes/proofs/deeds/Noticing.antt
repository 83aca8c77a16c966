-- A RESET arrives on the near link, or a packet that shows a higher contact number.
use Rattle.std.proofs.Common.{◌≡◌, ◌<◌, ◌+◌, ◌^◌, ◌&&◌, ◌||◌, ℕ, Bool, true, false, if◌then◌else◌, List, [], ◌++◌, Option, Some, None, option_map, refl, sym, ap, ◌∙◌, subst, inl, inr, append-nil}
use Rattle.std.specs.Prelude.{not}
use Rattle.std.specs.List.{flat_map}
use Rattle.std.proofs.lemmas.Bool.{and_parts, cases_Bool, true≢false}
use Rattle.tipc_types.specs.LinkStates.{is_up}
use Rattle.tipc_types.specs.declared.link_words.BroadcastState.{BroadcastState}
use Rattle.tipc_contact.specs.Order.{IsContactShown}
use Rattle.tipc_contact.specs.Sides.{IsNoticed, Notice}
use Rattle.tipc_link.specs.Links.{LinkEnd, after, is_down, reset_frames}
use Rattle.tipc_link.specs.Parts.{IsShowable}
use Rattle.tipc_link.proofs.LinkLaw.{Each}
use Rattle.tipc_link.proofs.Ends.{forgotten-is}
use Rattle.tipc_link_fsm.specs.declared.changes.Change.{Change}
use Rattle.tipc_link_fsm.specs.declared.changes.Change.TheVariants.{Down, Up}
use Rattle.tipc_link_fsm.specs.Runs.{ResetArrives}
use Rattle.tipc_link_fsm.specs.Table.{Fsm, is_held, on_reset}
use Rattle.tipc_pair.specs.Changeovers.{contact_ends, following, forgetting, forgotten, parted as parted_pair, risen}
use Rattle.tipc_pair.specs.Courses.{Course, going_on, rests}
use Rattle.tipc_pair.specs.Facing.{PairEnds, ends_of, in_contact, is_up_at, other, with_near}
use Rattle.tipc_pair.specs.PairArrivals.{Heard, behind, reset_change, reset_given, reset_near}
use Rattle.tipc_paired.proofs.contacts.ContactDeeds.{ended_down, mapped_end}
use Rattle.tipc_paired.proofs.PairedLaw.{does_paired}
use Rattle.tipc_paired.specs.Deeds.{DoesDeed, changes, ended_with, forgot_with, parted_view, parts, risen_view as risen_view, shows, works}
use Rattle.tipc_paired.specs.Paired.{ArePaired}
use Rattle.tipc_paired.specs.Views.{View, said_by}
use Rattle.tipc_two_nodes.proofs.deeds.Chains.{did_as, did_quietly, did_then}
use Rattle.tipc_two_nodes.proofs.deeds.Ending.{all_told}
use Rattle.tipc_two_nodes.proofs.deeds.Pairs.{apart_of, takes_as, takes_rest, takes_then, up_end}
use Rattle.tipc_two_nodes.proofs.deeds.Stepping.{CanHand, down_alone, stepped_takes}
use Rattle.tipc_two_nodes.specs.deeds.PairDeeds.{IsOfPair, TakesCourse, both_more, called_more, followed_more, none_more}
-- ---- no link is up
use Rattle.tipc_two_nodes.proofs.calls.PairViews.{or_false as apart_both}
use Rattle.tipc_pair.proofs.HeldLaws.{parted_down}
use Rattle.tipc_two_nodes.proofs.arrivals.Numbering.{mapped_as}
use Rattle.tipc_two_nodes.proofs.calls.CallCourses.{down_cause as is_some_down}

-- then none has anything to hand over, and nothing is numbered by what follows
pub hand_none : (v : View) (x : PairEnds) → IsOfPair v x → is_up_at x.near ≡ false → is_up_at x.far ≡ false → CanHand v x
hand_none v x pair near far = record {
  near = λ e s up. absurd (true≢false (sym (ap is_up_at (sym pair.near ∙ up.end_is) ∙ up.up) ∙ near));
  far = λ e s up. absurd (true≢false (sym (ap is_up_at (sym pair.far ∙ up.end_is) ∙ up.up) ∙ far));
}

pub followed_alone : (z : PairEnds) (c : Change) → is_up_at z.far ≡ false → followed_more z c ≡ none_more
followed_alone z Up down = rw down refl
followed_alone z (Down cause) down = rw down refl
followed_alone z other down = refl

pub called_alone : (x : PairEnds) (o : Option LinkEnd) (es : ℕ) (held : Bool) → is_up_at x.far ≡ false → called_more x o (ResetArrives es held) ≡ none_more
called_alone x None es held down = refl
called_alone x (Some e) es held down = followed_alone (with_near x (after e (on_reset e.fsm es held))) (on_reset e.fsm es held).change down

-- ---- a RESET is given to the near end

pub reset_given_takes : (v y : View) (x : PairEnds) (o : Option LinkEnd) (es : ℕ) (held : Bool) (shown : BroadcastState) → ArePaired v y → IsOfPair v x → x.near ≡ o → IsNoticed (said_by y) x.bearer es v.node.seen → CanHand v x → IsShowable shown
    → TakesCourse v y (reset_given es held shown x o).course (called_more x o (ResetArrives es held)) none_more
reset_given_takes v y x None es held shown h pair is told can showable = takes_rest v y x pair
reset_given_takes v y x (Some e) es held shown h pair is told can showable = stepped_takes v y x e (ResetArrives es held) es shown h pair is told can showable

-- A pair no link of which is up, seen from this bearer, where this is the highest contact number of the peer.
pub record IsAlone (seen bearer : ℕ) (q : PairEnds) : Type 0 where
  pub near : is_up_at q.near ≡ false
  pub far : is_up_at q.far ≡ false
  pub seen_is : q.seen ≡ seen
  pub bearer_is : q.bearer ≡ bearer

-- a RESET at such a pair
pub alone_reset_takes : (v y : View) (q : PairEnds) (seen bearer es : ℕ) (held : Bool) (shown : BroadcastState) → ArePaired v y → IsOfPair v q → IsAlone seen bearer q → IsNoticed (said_by y) bearer es seen → IsShowable shown
    → TakesCourse v y (reset_given es held shown q q.near).course none_more none_more
alone_reset_takes v y q seen bearer es held shown h pair alone told showable =
    let told' : IsNoticed (said_by y) q.bearer es v.node.seen = subst (λ b. IsNoticed (said_by y) b es v.node.seen) (sym alone.bearer_is) (subst (IsNoticed (said_by y) bearer es) (sym (pair.seen ∙ alone.seen_is)) told) in
    subst (λ n. TakesCourse v y (reset_given es held shown q q.near).course n none_more) (called_alone q q.near es held alone.far)
    (reset_given_takes v y q q.near es held shown h pair refl told' (hand_none v q pair alone.near alone.far) showable)

-- ---- a RESET that takes the last link down is given to the end again

pub reset_alone : (x : PairEnds) (o : Option LinkEnd) (es : ℕ) (held : Bool) (shown : BroadcastState) → is_down (reset_change es held o) ≡ true → is_up_at x.far ≡ false → IsAlone x.seen x.bearer (reset_given es held shown x o).course.pair
unfolding going_on
reset_alone x None es held shown down far = absurd (let wrong : ⊥ = cc in wrong)
reset_alone x (Some e) es held shown down far =
    let o = on_reset e.fsm es held in
    let z = with_near x (after e o) in
    let at = is_some_down o.change down in
    let pair : (reset_given es held shown x (Some e)).course.pair ≡ parted_pair z = ap (λ c. (following z c es).pair) at.1 ∙ ap (λ (c : Course). c.pair) (down_alone z at.0 es far) in
    subst (IsAlone x.seen x.bearer) (sym pair) (record { near = parted_down (z.contact + 1) z.seen z.near; far = parted_down (z.contact + 1) z.seen z.far; seen_is = refl; bearer_is = refl })

pub not_up : (held : Bool) → not held ≡ true → held ≡ false
not_up true is = absurd (let wrong : ⊥ = cc in wrong)
not_up false is = refl

pub reset_near_takes : (v y : View) (x : PairEnds) (es : ℕ) (shown : BroadcastState) → ArePaired v y → IsOfPair v x → IsNoticed (said_by y) x.bearer es x.seen → CanHand v x → IsShowable shown
    → TakesCourse v y (reset_near es shown x).course (called_more x x.near (ResetArrives es (is_up_at x.far))) none_more
reset_near_takes v y x es shown h pair told can showable =
    let held = is_up_at x.far in
    let more = called_more x x.near (ResetArrives es held) in
    let first = reset_given es held shown x x.near in
    let again : PairEnds → Heard = λ q. reset_given es false shown q q.near in
    let once = reset_given_takes v y x x.near es held shown h pair refl (subst (IsNoticed (said_by y) x.bearer es) (sym pair.seen) told) can showable in
    elim (is_down (reset_change es held x.near) && not held) as (λ t. (is_down (reset_change es held x.near) && not held) ≡ t → TakesCourse v y (if t then behind first.course again else first).course more none_more) [
      | true ↦ λ ended.
          let both = and_parts (is_down (reset_change es held x.near)) (not held) ended in
          let alone = reset_alone x x.near es held shown both.0 (not_up held both.1) in
          takes_as v y (behind first.course again).course (both_more more none_more) more (both_more none_more none_more) none_more
          (takes_then v y first.course (λ q. (again q).course) more none_more none_more none_more h once
          (λ mid paired took. alone_reset_takes mid y first.course.pair x.seen x.bearer es false shown paired took.pair alone told showable)) (λ i k. append-nil (more i k)) (λ i k. refl)
      | false ↦ λ _. once
    ] refl

-- ---- a higher contact number

-- a notice of an epoch shows its contact number
pub contact_shown : (notices : List Notice) (bearer epoch contact : ℕ) → IsNoticed notices bearer epoch contact → IsContactShown notices contact
contact_shown notices bearer epoch contact h = record { place = h.place; notice = h.notice; there = h.there; contact_is = h.contact_is }

-- an end of the node is up
record HasUp (v : View) : Type 0 where
  bearer : ℕ
  end : LinkEnd
  end_is : (v.wires bearer).end ≡ Some end
  up : is_up end.fsm.state ≡ true

has_up : (v : View) (x : PairEnds) → IsOfPair v x → in_contact x ≡ true → HasUp v
has_up v x pair contact = elim (cases_Bool (is_up_at x.near)) [
  | inl up ↦ (let at = up_end x.near up in record { bearer = x.bearer; end = at.0; end_is = pair.near ∙ at.1; up = at.2 })
  | inr down ↦ (let at = up_end x.far (ap (λ t. t || is_up_at x.far) (sym down) ∙ contact) in record { bearer = other x.bearer; end = at.0; end_is = pair.far ∙ at.1; up = at.2 })
]

ended_risen_takes : (v y : View) (x : PairEnds) (number : ℕ) → ArePaired v y → IsOfPair v x → x.seen < number → number < 2 ^ 64 → IsContactShown (said_by y) number → in_contact x ≡ true → TakesCourse v y (contact_ends (record x { seen = number }) (x.contact, x.seen) number) none_more none_more
ended_risen_takes v y x number h pair higher fits named contact =
    let at = has_up v x pair contact in
    let next = v.node.contact + 1 in
    let v1 = parted_view v in
    let one : DoesDeed v y v1 = changes v1 (parts at.bearer at.end at.end_is at.up) in
    let h1 = does_paired v y v1 h one in
    let apart1 : (b : ℕ) (e : LinkEnd) → (v1.wires b).end ≡ Some e → is_up e.fsm.state ≡ false = λ b e is. (let from = mapped_end (ended_with next) (v.wires b).end e is in ap (λ (k : LinkEnd). is_up k.fsm.state) (sym from.2) ∙ ended_down next from.0) in
    let v2 = risen_view v1 number in
    let two : DoesDeed v1 y v2 = works v2 (shows number (subst (λ n. n < number) (sym pair.seen) higher) fits apart1 named) in
    let h2 = does_paired v1 y v2 h1 two in
    let q = parted_pair (record x { seen = number }) in
    let same : next ≡ x.contact + 1 = ap (λ n. n + 1) pair.contact in
    let pair2 : IsOfPair v2 q = record {
      own = pair.own;
      peer = pair.peer;
      contact = same;
      seen = refl;
      two_bearers = pair.two_bearers;
      near = mapped_as next (x.contact + 1) number (v.wires x.bearer).end x.near pair.near same;
      far = mapped_as next (x.contact + 1) number (v.wires (other x.bearer)).end x.far pair.far same;
      alone = λ b more. ap (λ k. option_map (forgot_with number) (option_map (ended_with next) k)) (pair.alone b more);
    } in
    let unheld : (b : ℕ) (e : LinkEnd) → (v2.wires b).end ≡ Some e → is_held e.fsm.state ≡ false = λ b e is. (
    let from = mapped_end (forgot_with number) (v1.wires b).end e is in
    let down = apart1 b from.0 from.1 in
    ap (λ (k : LinkEnd). is_held k.fsm.state) (sym from.2) ∙ ap (λ (f : Fsm). is_held f.state) (forgotten-is from.0.fsm down)) in
    let told = all_told v2 y q h2 pair2 unheld in
    let said = flat_map reset_frames (ends_of q) in
    let fell = did_quietly v y v1 one refl (λ b k. refl) (λ b k. refl) in
    let rose = did_quietly v1 y v2 two refl (λ b k. refl) (λ b k. refl) in (
      told.0,
      record {
        did = did_as v y told.0 ([] ++ ([] ++ said)) (said ++ []) none_more none_more none_more none_more (did_then v y v1 told.0 [] ([] ++ said) none_more none_more none_more none_more fell (did_then v1 y v2 told.0 [] said none_more none_more none_more none_more rose told.1))
            (λ P each. subst (Each P) (sym (append-nil said)) each) (λ b k. refl) (λ b k. refl);
        pair = told.2;
      },
    )

-- without contact each end forgets the peer's epoch
forgotten_takes : (v y : View) (x : PairEnds) (number : ℕ) → IsOfPair v x → x.seen < number → number < 2 ^ 64 → IsContactShown (said_by y) number → is_up_at x.near ≡ false → is_up_at x.far ≡ false → TakesCourse v y (rests (forgotten x number)) none_more none_more
forgotten_takes v y x number pair higher fits named near far =
    let v1 = risen_view v number in
    let one : DoesDeed v y v1 = works v1 (shows number (subst (λ n. n < number) (sym pair.seen) higher) fits (apart_of v x pair near far) named) in (
      v1,
      record {
        did = did_quietly v y v1 one refl (λ b k. refl) (λ b k. refl);
        pair = record {
          own = pair.own;
          peer = pair.peer;
          contact = pair.contact;
          seen = refl;
          two_bearers = pair.two_bearers;
          near = ap (option_map (forgot_with number)) pair.near;
          far = ap (option_map (forgot_with number)) pair.far;
          alone = λ b more. ap (option_map (forgot_with number)) (pair.alone b more);
        };
      },
    )

pub risen_takes : (v y : View) (x : PairEnds) (number : ℕ) → ArePaired v y → IsOfPair v x → x.seen < number → number < 2 ^ 64 → IsContactShown (said_by y) number → TakesCourse v y (risen x number) none_more none_more
risen_takes v y x number h pair higher fits named = elim (in_contact x) as (λ t. in_contact x ≡ t → TakesCourse v y (if t then contact_ends (record x { seen = number }) (x.contact, x.seen) number else rests (forgotten x number)) none_more none_more) [
  | true ↦ λ contact. ended_risen_takes v y x number h pair higher fits named contact
  | false ↦ λ none. (let both = apart_both (is_up_at x.near) (is_up_at x.far) none in forgotten_takes v y x number pair higher fits named both.0 both.1)
] refl

-- no link is up then
pub forgot_down : (seen : ℕ) (o : Option LinkEnd) → is_up_at o ≡ false → is_up_at (option_map (forgetting seen) o) ≡ false
forgot_down seen None down = refl
forgot_down seen (Some e) down = ap (λ (f : Fsm). is_up f.state) (forgotten-is e.fsm down)

pub risen_alone : (x : PairEnds) (number : ℕ) → IsAlone number x.bearer (risen x number).pair
risen_alone x number = elim (in_contact x) as (λ t. in_contact x ≡ t → IsAlone number x.bearer (if t then contact_ends (record x { seen = number }) (x.contact, x.seen) number else rests (forgotten x number)).pair) [
  | true ↦ λ _. record { near = parted_down (x.contact + 1) number x.near; far = parted_down (x.contact + 1) number x.far; seen_is = refl; bearer_is = refl }
  | false ↦ λ none. (let both = apart_both (is_up_at x.near) (is_up_at x.far) none in record { near = forgot_down number x.near both.0; far = forgot_down number x.far both.1; seen_is = refl; bearer_is = refl })
] refl

-- and a RESET goes on
pub risen_reset_takes : (v y : View) (x : PairEnds) (number es : ℕ) (shown : BroadcastState) → ArePaired v y → IsOfPair v x → x.seen < number → number < 2 ^ 64 → IsNoticed (said_by y) x.bearer es number → IsShowable shown
    → TakesCourse v y (behind (risen x number) (reset_near es shown)).course none_more none_more
risen_reset_takes v y x number es shown h pair higher fits told showable =
    let q = (risen x number).pair in
    let alone = risen_alone x number in
    takes_then v y (risen x number) (λ z. (reset_near es shown z).course) none_more none_more none_more none_more h (risen_takes v y x number h pair higher fits (contact_shown (said_by y) x.bearer es number told))
    (λ mid paired took. subst (λ n. TakesCourse mid y (reset_near es shown q).course n none_more) (called_alone q q.near es (is_up_at q.far) alone.far)
    (reset_near_takes mid y q es shown paired took.pair (subst (λ b. IsNoticed (said_by y) b es q.seen) (sym alone.bearer_is) (subst (IsNoticed (said_by y) x.bearer es) (sym alone.seen_is) told)) (hand_none mid q took.pair alone.near alone.far) showable))
