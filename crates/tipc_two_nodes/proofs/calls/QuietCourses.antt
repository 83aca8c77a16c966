-- Courses of a pair that its links don't show to a sender keep two nodes what they are: an end is made, a bearer is mended, a STATE is sent,
-- and ends that were held are released.
use Rattle.std.proofs.Common.{◌≡◌, ◌≤◌, ◌||◌, ◌==◌, ℕ, Bool, true, false, if◌then◌else◌, List, Option, Some, None, option_map, refl, sym, ap, ◌∙◌, subst, inl, inr, arith}
use Rattle.std.proofs.lemmas.Bool.{cases_Bool}
use Rattle.std.proofs.lemmas.Bool.Decides.{nat_tests}
use Rattle.tipc_types.specs.LinkStates.{is_up}
use Rattle.tipc_types.specs.declared.link_words.BroadcastState.{BroadcastState}
use Rattle.tipc_types.specs.declared.link_words.LinkState.{LinkState}
use Rattle.tipc_types.specs.declared.link_words.LinkState.TheVariants.{ResetUnknown, ResetReset, WorkingWorking, WorkingUnknown}
use Rattle.tipc_types.specs.declared.link_words.LinkState.TheVariants as link
use Rattle.tipc_link.specs.Links.{LinkEnd}
use Rattle.tipc_link.specs.Parts.{IsShowable}
use Rattle.tipc_pair.specs.Changeovers.{is_clear, let_go, let_go_frames, release_near, released}
use Rattle.tipc_pair.specs.Courses.{Course, going_on, rests}
use Rattle.tipc_pair.specs.Facing.{PairEnds, facing, in_contact, is_up_at, turned, with_made}
use Rattle.tipc_pair.specs.PairCalls.{answered_at, answered_near, at_bearer, mended, mended_near}
use Rattle.tipc_pair.proofs.HeldLaws.{HeldUp, released_goes}
use Rattle.tipc_changeover.specs.Links.{Bearer, EndState, First, Held, Reset, Second, State, Up}
use Rattle.tipc_two_nodes.specs.links.Acting.{Acted, Acts, acts, ends}
use Rattle.tipc_two_nodes.specs.links.Receiving.{records_of}
use Rattle.tipc_two_nodes.specs.links.Sending.{SendingEnds, StandFor, end_seen, ends_seen, number_as, state_as}
use Rattle.tipc_two_nodes.specs.links.Traffic.{Traffic}
use Rattle.tipc_two_nodes.proofs.links.calls.Ending.{goes, released_acts}
use Rattle.tipc_two_nodes.proofs.links.calls.Freeing.{AreUp}
use Rattle.tipc_two_nodes.proofs.links.calls.Leaving.{answers_same, made_same, mends_same}
use Rattle.tipc_two_nodes.proofs.links.receiver.Preserving.{answer_records, made_records, mend_records}
use Rattle.tipc_two_nodes.proofs.links.receiver.Remaining.{released_records}
use Rattle.tipc_two_nodes.proofs.links.calls.Reacting.{nothing_acted}
use Rattle.tipc_paired.specs.Views.{View}
use Rattle.tipc_two_nodes.proofs.deeds.Calling.{made_takes, mended_takes, released_takes}
use Rattle.tipc_two_nodes.proofs.deeds.Calls.{answer_takes}
use Rattle.tipc_two_nodes.proofs.deeds.Pairs.{of_facing, took_then}
use Rattle.tipc_two_nodes.specs.deeds.PairDeeds.{IsOfPair, TakesCourse, Took, both_more, none_more}
use Rattle.tipc_two_nodes.specs.Carrying.{Carries, KeepsCarried, none_taken}
use Rattle.tipc_two_nodes.specs.Pieces.{KeepsNumbers, state_from, traffic_from}
use Rattle.tipc_two_nodes.specs.Twins.{AreTwins, sends_in}
use Rattle.tipc_two_nodes.proofs.steps.Carrying.{carries_then}
use Rattle.tipc_two_nodes.proofs.calls.PairViews.{course_carried, stand_from, with_carried}

-- ---- one course and then another

pub carried_then : (v y : View) (h : AreTwins v y) (c : Course) (step : PairEnds → Course) (n m : ℕ → ℕ → List (List ℕ)) → KeepsCarried v y h c n → ((mid : View) (k : AreTwins mid y) → IsOfPair mid c.pair → KeepsCarried mid y k (step c.pair) m)
    → KeepsCarried v y h (going_on c step) (both_more n m)
carried_then v y h c step n m first next =
    let last = next first.0 first.2 first.1.pair in
    (last.0, took_then v y first.0 last.0 c step n m none_more none_more first.1 last.1, last.2, carries_then v first.0 last.0 y h first.2 last.2 none_taken none_taken first.3 last.3)

pub carried_at : (v y : View) (h : AreTwins v y) (b : ℕ) (x : PairEnds) (call : PairEnds → Course) (n : ℕ → ℕ → List (List ℕ)) → KeepsCarried v y h (call (facing b x)) n → KeepsCarried v y h (at_bearer b x call) n
carried_at v y h b x call n m = (m.0, record { did = m.1.did; pair = of_facing m.0 x.bearer (call (facing b x)).pair m.1.pair }, m.2, m.3)

pub bearer_of : (n : ℕ) → n ≤ 1 → (b : Bearer) × (n ≡ number_as b)
bearer_of n two = elim (cases_Bool (n == 0)) [
  | inl zero ↦ (First, (let is : n ≡ 0 = grind (arith, nat_tests, zero) in is))
  | inr other ↦ (Second, (let is : n ≡ 1 = grind (arith, nat_tests, other, two) in is))
]

-- ---- the ends as they were

abbrev up_state : EndState → Bool
up_state Up = true
up_state Reset = false
up_state Held = false

state_up : (s : LinkState) → up_state (state_as s) ≡ is_up s
state_up ResetUnknown = refl
state_up ResetReset = refl
state_up WorkingWorking = refl
state_up WorkingUnknown = refl
state_up link.Held = refl

end_up : (contact : ℕ) (o : Option LinkEnd) → up_state (end_seen contact o).state ≡ is_up_at o
end_up contact None = refl
end_up contact (Some e) = state_up e.fsm.state

contact_seen : (p : PairEnds) → in_contact p ≡ (up_state (ends_seen p).near.state || up_state (ends_seen p).far.state)
contact_seen p = ap (λ a. a || is_up_at p.far) (sym (end_up p.contact p.near)) ∙ ap (λ a. up_state (ends_seen p).near.state || a) (sym (end_up p.contact p.far))

contact_same : (p q : PairEnds) → ends_seen q ≡ ends_seen p → in_contact q ≡ in_contact p
contact_same p q same = contact_seen q ∙ (ap (λ (e : SendingEnds). up_state e.near.state || up_state e.far.state) same ∙ sym (contact_seen p))

pub stand_at : (b : Bearer) (v y : View) (h : AreTwins v y) (p : PairEnds) → IsOfPair v p → p.bearer ≡ number_as b → StandFor b (ends_seen p) (traffic_from b (sends_in v y h).traffic) (state_from b (sends_in v y h).state)
stand_at b v y h p pair is = stand_from b v p (sends_in v y h).traffic (sends_in v y h).state pair is ((h.sends.sent v.node.contact v.node.seen).now refl refl)

pub quiet_both : (v y : View) (p : PairEnds) (c : Course) (h : AreTwins v y) → IsOfPair v p → (v' : View) → Took v y v' c none_more none_more → KeepsNumbers p c.pair → ends_seen c.pair ≡ ends_seen p → records_of c.pair ≡ records_of p
    → (k : AreTwins v' y) × Carries v v' y h k none_taken
quiet_both v y p c h pair v' took numbers seen records =
    let at = bearer_of p.bearer pair.two_bearers in
    let b = at.0 in
    let traffic = traffic_from b (sends_in v y h).traffic in
    let state = state_from b (sends_in v y h).state in
    course_carried b v y h p c none_more pair at.1 v' took (record {
      numbers = numbers;
      records = records;
      before = λ up. sym (contact_same p c.pair seen) ∙ up;
      acted = subst (λ e. Acted b (ends_seen p) e traffic state) (sym seen) (nothing_acted b p traffic state (stand_at b v y h p pair at.1));
    }) (λ epoch differ. refl) (λ epoch differ. refl)

pub quiet_carried : (v y : View) (p : PairEnds) (c : Course) (h : AreTwins v y) → IsOfPair v p → TakesCourse v y c none_more none_more → KeepsNumbers p c.pair → ends_seen c.pair ≡ ends_seen p → records_of c.pair ≡ records_of p → KeepsCarried v y h c none_more
quiet_carried v y p c h pair t numbers seen records = with_carried v y h c none_more t (quiet_both v y p c h pair t.0 t.1 numbers seen records)

-- ---- an end is made, its bearer is mended, and a STATE is sent

pub numbers_same : (p : PairEnds) → KeepsNumbers p p
numbers_same p = record { own = refl; peer = refl; contact = refl; seen = refl; bearer = refl }

pub near_numbers : (p : PairEnds) (o : Option LinkEnd) → KeepsNumbers p (record p { near = o })
near_numbers p o = record { own = refl; peer = refl; contact = refl; seen = refl; bearer = refl }

pub made_carried : (v y : View) (p : PairEnds) (h : AreTwins v y) → IsOfPair v p → p.near ≡ None → KeepsCarried v y h (rests (with_made p)) none_more
made_carried v y p h pair none = quiet_carried v y p (rests (with_made p)) h pair (made_takes v y p h.paired pair none) (near_numbers p _) (made_same p none) (made_records p none)

mended_numbers : (p : PairEnds) (o : Option LinkEnd) → KeepsNumbers p (mended_near p o)
mended_numbers p None = numbers_same p
mended_numbers p (Some e) = near_numbers p _

mends_near : (v y : View) (p : PairEnds) (h : AreTwins v y) → IsOfPair v p → KeepsCarried v y h (mended p) none_more
mends_near v y p h pair = quiet_carried v y p (mended p) h pair (mended_takes v y p h.paired pair) (mended_numbers p p.near) (mends_same p) (mend_records p)

pub mended_carried : (v y : View) (b : ℕ) (p : PairEnds) (h : AreTwins v y) → IsOfPair v p → KeepsCarried v y h (at_bearer b p mended) none_more
mended_carried v y b p h pair = carried_at v y h b p mended none_more (mends_near v y (facing b p) h (of_facing v b p pair))

answered_numbers : (p : PairEnds) (o : Option LinkEnd) (taken : ℕ) (asks : Bool) (shown : BroadcastState) → KeepsNumbers p (answered_at p o taken asks shown).pair
answered_numbers p None taken asks shown = numbers_same p
answered_numbers p (Some e) taken asks shown = near_numbers p _

answers_near : (v y : View) (p : PairEnds) (taken : ℕ) (asks : Bool) (shown : BroadcastState) (h : AreTwins v y) → IsOfPair v p → IsShowable shown → KeepsCarried v y h (answered_near taken asks shown p) none_more
answers_near v y p taken asks shown h pair showable =
    quiet_carried v y p (answered_near taken asks shown p) h pair (answer_takes v y p taken asks shown h.paired pair showable) (answered_numbers p p.near taken asks shown) (answers_same p taken asks shown) (answer_records p taken asks shown)

pub answered_carried : (v y : View) (b : ℕ) (p : PairEnds) (taken : ℕ) (asks : Bool) (shown : BroadcastState) (h : AreTwins v y) → IsOfPair v p → IsShowable shown → KeepsCarried v y h (at_bearer b p (answered_near taken asks shown)) none_more
answered_carried v y b p taken asks shown h pair showable = carried_at v y h b p (answered_near taken asks shown) none_more (answers_near v y (facing b p) taken asks shown h (of_facing v b p pair) showable)

-- ---- a course that keeps the contact

pub acted_of : (b : Bearer) (p q : PairEnds) (t : Traffic) (z : State) → q.contact ≡ p.contact → Acts b p q t z → Acted b (ends_seen p) (ends_seen q) t z
acted_of b p q t z same (acts contact a) = a
acted_of b p q t z same (ends w contact a over) = absurd (let next = over.next in let wrong : ⊥ = omega arith in wrong)

-- ---- ends are released

pub numbers_then : (p q r : PairEnds) → KeepsNumbers p q → KeepsNumbers q r → KeepsNumbers p r
numbers_then p q r f s = record { own = s.own ∙ f.own; peer = s.peer ∙ f.peer; contact = s.contact ∙ f.contact; seen = s.seen ∙ f.seen; bearer = s.bearer ∙ f.bearer }

release_numbers : (p : PairEnds) → KeepsNumbers p (release_near p).pair
release_numbers p = elim (is_clear p.far) as (λ t. KeepsNumbers p (if t then record (rests (record p { near = option_map let_go p.near })) { states = let_go_frames p.near } else rests p).pair) [
  | true ↦ near_numbers p _
  | false ↦ numbers_same p
]

pub released_numbers : (p : PairEnds) → p.bearer ≤ 1 → KeepsNumbers p (released p).pair
unfolding released going_on
released_numbers p two =
    let one = release_numbers p in
    let next = release_numbers (turned (release_near p).pair) in
    let first = one.bearer in
    let second = next.bearer in
    record { own = next.own ∙ one.own; peer = next.peer ∙ one.peer; contact = next.contact ∙ one.contact; seen = next.seen ∙ one.seen; bearer = omega arith }

pub released_carried : (v y : View) (p : PairEnds) (h : AreTwins v y) → IsOfPair v p → AreUp p → HeldUp p → KeepsCarried v y h (released p) none_more
released_carried v y p h pair up held =
    let at = bearer_of p.bearer pair.two_bearers in
    let b = at.0 in
    let traffic = traffic_from b (sends_in v y h).traffic in
    let state = state_from b (sends_in v y h).state in
    let numbers = released_numbers p pair.two_bearers in
    let acts = released_acts b p p traffic state (goes (record { contact = refl; acted = nothing_acted b p traffic state (stand_at b v y h p pair at.1); up = up })) held in
    let t = released_takes v y p h.paired pair in
    with_carried v y h (released p) none_more t (
    course_carried b v y h p (released p) none_more pair at.1 t.0 t.1 (record {
      numbers = numbers;
      records = released_records p;
      before = (released_goes p).stays;
      acted = acted_of b p (released p).pair traffic state numbers.contact acts;
    }) (λ epoch differ. refl) (λ epoch differ. refl))
