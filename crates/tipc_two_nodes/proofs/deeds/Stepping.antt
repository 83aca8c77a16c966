-- What a call makes of the near link of a pair, and what follows for the other link and the contact.
use Rattle.std.proofs.Common.{◌≡◌, ◌==◌, ℕ, Bool, true, false, if◌then◌else◌, List, [], ◌∷◌, ◌++◌, Option, Some, None, ◌⊎◌, refl, sym, ap, ◌∙◌, subst, inl, inr, append-nil}
use Rattle.std.specs.List.{flat_map}
use Rattle.std.proofs.lemmas.Bool.{cases_Bool, true≢false}
use Rattle.tipc_types.specs.LinkStates.{is_up}
use Rattle.tipc_types.specs.declared.link_words.BroadcastState.{BroadcastState}
use Rattle.tipc_types.specs.declared.link_words.Cause.{Cause}
use Rattle.tipc_types.specs.declared.link_words.Reply.TheVariants as reply
use Rattle.tipc_outside.specs.declared.outgoing.Outgoing.{Outgoing}
use Rattle.tipc_link.specs.Links.{LinkEnd, after, follow_frames, followed, is_taken, reset_frames, session_of, with_fsm}
use Rattle.tipc_link.specs.Parts.{IsShowable, is_quiet}
use Rattle.tipc_link.specs.Sessions.{SessionEnd, state_frame}
use Rattle.tipc_link.proofs.Ends.{after-is}
use Rattle.tipc_link.proofs.EndsTurns.{Falls, Rises, Turn, fall, learn, rise, stay}
use Rattle.tipc_link.proofs.LinkLaw.{Each, Each-one}
use Rattle.tipc_link_fsm.specs.declared.changes.Change.{Change}
use Rattle.tipc_link_fsm.specs.declared.changes.Change.TheVariants.{Answer, Down, Up}
use Rattle.tipc_link_fsm.specs.Runs.{Call, outcome}
use Rattle.tipc_pair.specs.declared.transitions.Transition.{Transition}
use Rattle.tipc_pair.specs.declared.transitions.Transition.TheVariants.{LinkDown}
use Rattle.tipc_pair.specs.Changeovers.{contact_begins, contact_ends, fail_over, fail_over_to, failing, following, parted, shown_with, switch, switch_from, switching, up_told}
use Rattle.tipc_pair.specs.Courses.{Course, going_on, rests, telling}
use Rattle.tipc_pair.specs.Facing.{PairEnds, ends_of, is_up_at, other, with_near}
use Rattle.tipc_pair.specs.PairCalls.{session_at, stepped}
use Rattle.tipc_pair.specs.Runs.{left_by, taken_over}
use Rattle.tipc_paired.proofs.sessions.CallDeeds.{call_named}
use Rattle.tipc_paired.proofs.wires.Turns.{call_turns, shown_to}
use Rattle.tipc_paired.proofs.wires.Wires.{put_same, session_of_up}
use Rattle.tipc_paired.specs.Deeds.{DoesDeed, IsUp, MayCall, MayTell, besides, changes, falls_beside, rises, rises_beside, states, with_begun}
use Rattle.tipc_paired.specs.Paired.{ArePaired, IsPacket}
use Rattle.tipc_paired.specs.Views.{View, Wire, with_end, with_wire}
use Rattle.tipc_two_nodes.proofs.deeds.Calling.{quiet_takes, takes_tell}
use Rattle.tipc_two_nodes.proofs.deeds.Chains.{did_as, did_nothing, did_on}
use Rattle.tipc_two_nodes.proofs.deeds.Changing.{failing_takes, switching_takes}
use Rattle.tipc_two_nodes.proofs.deeds.Ending.{ended_takes}
use Rattle.tipc_two_nodes.proofs.deeds.Pairs.{apart_of, beside_of, of_near, takes_rest, takes_then, up_end}
use Rattle.tipc_two_nodes.specs.deeds.PairDeeds.{Did, IsOfPair, TakesCourse, Took, failing_more, followed_more, none_more, switching_more}

-- What one link has can be put on the other: what the near one leaves, and what the far one hands to the near one.
pub record CanHand (v : View) (x : PairEnds) : Type 0 where
  pub near : (e : LinkEnd) (s : SessionEnd) → IsUp (v.wires x.bearer) e s → Each (IsPacket v.node.own) (left_by s)
  pub far : (e : LinkEnd) (s : SessionEnd) → IsUp (v.wires (other x.bearer)) e s → Each (IsPacket v.node.own) (taken_over s)

-- ---- nothing follows

pub following_quiet : (x : PairEnds) (c : Change) (epoch : ℕ) → is_quiet c ≡ true → following x c epoch ≡ rests x
following_quiet x Up epoch quiet = absurd (let wrong : ⊥ = cc in wrong)
following_quiet x (Down cause) epoch quiet = absurd (let wrong : ⊥ = cc in wrong)
following_quiet x other epoch quiet = refl

pub followed_quiet : (x : PairEnds) (c : Change) → is_quiet c ≡ true → followed_more x c ≡ none_more
followed_quiet x Up quiet = absurd (let wrong : ⊥ = cc in wrong)
followed_quiet x (Down cause) quiet = absurd (let wrong : ⊥ = cc in wrong)
followed_quiet x other quiet = refl

-- a course that also tells a change
takes_telling : (v y : View) (c : Course) (told : Transition) (n t : ℕ → ℕ → List (List ℕ)) → TakesCourse v y c n t → TakesCourse v y (telling told c) n t
takes_telling v y c told n t m = (m.0, record { did = m.1.did; pair = m.1.pair })

-- what the near end does first, where its change is this one
abbrev pub First : PairEnds → LinkEnd → Call → Change → BroadcastState → Course
First x e call c shown = record (rests (with_near x (after e (outcome e.fsm call)))) { states = follow_frames (with_fsm e (outcome e.fsm call).after) c shown }

abbrev Steps : View → View → PairEnds → LinkEnd → Call → Change → ℕ → BroadcastState → Type 0
Steps v y x e call c epoch shown = TakesCourse v y (going_on (First x e call c shown) (λ z. following z c epoch)) (followed_more (with_near x (after e (outcome e.fsm call))) c) none_more

quiet_steps : (v y : View) (x : PairEnds) (e : LinkEnd) (call : Call) (epoch : ℕ) (shown : BroadcastState) → ArePaired v y → IsOfPair v x → x.near ≡ Some e → MayCall v y x.bearer call → is_quiet (outcome e.fsm call).change ≡ true
    → ((probe : Bool) → (outcome e.fsm call).change ≡ Answer (reply.State probe) → is_up e.fsm.state ≡ true) → IsShowable shown → Steps v y x e call (outcome e.fsm call).change epoch shown
quiet_steps v y x e call epoch shown h pair near may quiet says showable =
    let c = (outcome e.fsm call).change in
    let z = with_near x (after e (outcome e.fsm call)) in
    takes_then v y (First x e call c shown) (λ z. following z c epoch) none_more (followed_more z c) none_more none_more h
    (quiet_takes v y x e call shown c h pair near may refl quiet says showable)
    (λ mid paired took. subst (λ d. TakesCourse mid y d (followed_more z c) none_more) (sym (following_quiet z c epoch quiet)) (subst (λ n. TakesCourse mid y (rests z) n none_more) (sym (followed_quiet z c quiet)) (takes_rest mid y z took.pair)))

same_own : (v mid : View) (x z : PairEnds) → IsOfPair v x → IsOfPair mid z → z.own ≡ x.own → v.node.own ≡ mid.node.own
same_own v mid x z h k same = h.own ∙ sym same ∙ sym k.own

-- ---- the near link goes down

pub fell_session : (e : LinkEnd) (call : Call) (cause : Cause) → (outcome e.fsm call).change ≡ Down cause → (after e (outcome e.fsm call)).session ≡ e.session
fell_session e call cause down = ap (λ (d : LinkEnd). d.session) (ap (followed (with_fsm e (outcome e.fsm call).after)) down)

pub called_fsm : (e : LinkEnd) (call : Call) → (after e (outcome e.fsm call)).fsm ≡ (outcome e.fsm call).after
called_fsm e call = ap (λ (d : LinkEnd). d.fsm) (after-is e (outcome e.fsm call))

down_beside : (z : PairEnds) (d f : LinkEnd) (cause : Cause) (epoch : ℕ) → z.near ≡ Some d → z.far ≡ Some f → is_up f.fsm.state ≡ true → following z (Down cause) epoch ≡ telling (LinkDown z.bearer cause (shown_with cause epoch)) (failing z d f d.session f.session)
down_beside z d f cause epoch near far up = ap (telling (LinkDown z.bearer cause (shown_with cause epoch)))
    (ap (λ t. if t then fail_over z else contact_ends z (z.contact, z.seen) 0) (ap is_up_at far ∙ up) ∙ ap (λ o. fail_over_to z o z.far) near ∙ ap (fail_over_to z (Some d)) far)

more_down : (z : PairEnds) (d f : LinkEnd) (cause : Cause) → z.near ≡ Some d → z.far ≡ Some f → is_up f.fsm.state ≡ true → followed_more z (Down cause) ≡ failing_more (other z.bearer) d.session f.session
more_down z d f cause near far up =
    ap (λ t. if t then failing_more (other z.bearer) (session_at z.near) (session_at z.far) else none_more) (ap is_up_at far ∙ up)
    ∙ ap (λ o. failing_more (other z.bearer) (session_at o) (session_at z.far)) near ∙ ap (λ o. failing_more (other z.bearer) d.session (session_at o)) far

-- beside another one, which gets what it leaves
beside_falls : (v y : View) (x : PairEnds) (e f : LinkEnd) (call : Call) (epoch : ℕ) (shown : BroadcastState) → ArePaired v y → IsOfPair v x → x.near ≡ Some e → x.far ≡ Some f → is_up f.fsm.state ≡ true → MayCall v y x.bearer call → CanHand v x
    → (m : Falls e.fsm (outcome e.fsm call)) → Steps v y x e call (Down m.cause) epoch shown
beside_falls v y x e f call epoch shown h pair near far far_up may can m =
    let b = x.bearer in
    let d = after e (outcome e.fsm call) in
    let z = with_near x d in
    let w' = with_end (v.wires b) d in
    let v1 = with_wire v b w' in
    let up : is_up_at x.far ≡ true = ap is_up_at far ∙ far_up in
    let one : DoesDeed v y v1 = besides v1 (falls_beside b e call m.cause (pair.near ∙ near) may m.change (beside_of v x pair up)) in
    let first : TakesCourse v y (First x e call (Down m.cause) shown) none_more none_more = (v1, record { did = did_on v y b w' one (λ k. refl) (λ k. refl); pair = of_near v x w' d pair refl }) in
    let told = LinkDown z.bearer m.cause (shown_with m.cause epoch) in
    let failed = failing z d f d.session f.session in
    let more = failing_more (other z.bearer) d.session f.session in
    takes_then v y (First x e call (Down m.cause) shown) (λ z. following z (Down m.cause) epoch) none_more (followed_more z (Down m.cause)) none_more none_more h first
    (λ mid paired took. (
    let own = same_own v mid x z pair took.pair refl in
    let hand : (l : SessionEnd) → d.session ≡ Some l → Each (IsPacket mid.node.own) (left_by l) = λ l has.
    subst (λ n. Each (IsPacket n) (left_by l)) own (can.near e l (record { end_is = pair.near ∙ near; up = m.was; session_is = sym (fell_session e call m.cause m.change) ∙ has })) in
    let took_over = failing_takes mid y z d f d.session f.session paired took.pair refl far refl (ap (λ k. is_up k.state) (called_fsm e call) ∙ m.down) far_up hand in
    subst (λ k. TakesCourse mid y k (followed_more z (Down m.cause)) none_more) (sym (down_beside z d f m.cause epoch refl far far_up))
    (subst (λ n. TakesCourse mid y (telling told failed) n none_more) (sym (more_down z d f m.cause refl far far_up)) (takes_telling mid y failed told more none_more took_over))))

-- or as the last one, and the contact ends
pub down_alone : (z : PairEnds) (cause : Cause) (epoch : ℕ) → is_up_at z.far ≡ false → following z (Down cause) epoch ≡ telling (LinkDown z.bearer cause (shown_with cause epoch)) (contact_ends z (z.contact, z.seen) 0)
down_alone z cause epoch down = ap (λ t. telling (LinkDown z.bearer cause (shown_with cause epoch)) (if t then fail_over z else contact_ends z (z.contact, z.seen) 0)) down

pub last_took : (v y last : View) (x : PairEnds) (e : LinkEnd) (call : Call) (cause : Cause) (epoch : ℕ) (shown : BroadcastState) → is_up_at x.far ≡ false
    → Did v y last (flat_map reset_frames (ends_of (parted (with_near x (after e (outcome e.fsm call)))))) none_more none_more → IsOfPair last (parted (with_near x (after e (outcome e.fsm call))))
    → Took v y last (going_on (First x e call (Down cause) shown) (λ z. following z (Down cause) epoch)) (followed_more (with_near x (after e (outcome e.fsm call))) (Down cause)) none_more
unfolding going_on
last_took v y last x e call cause epoch shown down did pair =
    let z = with_near x (after e (outcome e.fsm call)) in
    let c = First x e call (Down cause) shown in
    let ends = telling (LinkDown z.bearer cause (shown_with cause epoch)) (contact_ends z (z.contact, z.seen) 0) in
    let said = flat_map reset_frames (ends_of (parted z)) in
    let none : followed_more z (Down cause) ≡ none_more = ap (λ t. if t then failing_more (other z.bearer) (session_at z.near) (session_at z.far) else none_more) down in
    let G : Course → (ℕ → ℕ → List (List ℕ)) → Type 0 = λ k n. Took v y last (record { pair = k.pair; changes = c.changes ++ k.changes; states = c.states ++ k.states; numbered = c.numbered ++ k.numbered }) n none_more in
    let done : G ends none_more = record {
      did = did_as v y last said (said ++ []) none_more none_more none_more none_more did (λ P each. subst (Each P) (sym (append-nil said)) each) (λ i k. refl) (λ i k. refl);
      pair = pair;
    } in
    subst (λ k. G k (followed_more z (Down cause))) (sym (down_alone z cause epoch down)) (subst (λ n. G ends n) (sym none) done)

last_falls : (v y : View) (x : PairEnds) (e : LinkEnd) (call : Call) (epoch : ℕ) (shown : BroadcastState) → ArePaired v y → IsOfPair v x → x.near ≡ Some e → is_up_at x.far ≡ false → MayCall v y x.bearer call
    → (m : Falls e.fsm (outcome e.fsm call)) → Steps v y x e call (Down m.cause) epoch shown
last_falls v y x e call epoch shown h pair near down may m =
    let ended = ended_takes v y x e call m.cause h pair near may m.change in
    (ended.0, last_took v y ended.0 x e call m.cause epoch shown down ended.1 ended.2)

-- ---- the near link goes up

up_beside : (z : PairEnds) (d f : LinkEnd) (epoch : ℕ) → z.near ≡ Some d → z.far ≡ Some f → is_up f.fsm.state ≡ true → following z Up epoch ≡ telling (up_told z.bearer z.near) (if z.bearer == 0 then switching z d f d.session f.session else rests z)
up_beside z d f epoch near far up = ap (telling (up_told z.bearer z.near))
    (ap (λ t. if t then (if z.bearer == 0 then switch z else rests z) else contact_begins z) (ap is_up_at far ∙ up)
    ∙ ap (λ (c : Course). if z.bearer == 0 then c else rests z) (ap (λ o. switch_from z o z.far) near ∙ ap (switch_from z (Some d)) far))

more_up : (z : PairEnds) (d f : LinkEnd) → z.near ≡ Some d → z.far ≡ Some f → is_up f.fsm.state ≡ true → followed_more z Up ≡ (if z.bearer == 0 then switching_more z.bearer d.session f.session else none_more)
more_up z d f near far up =
    ap (λ t. if t then (if z.bearer == 0 then switching_more z.bearer (session_at z.near) (session_at z.far) else none_more) else none_more) (ap is_up_at far ∙ up)
    ∙ ap (λ o. if z.bearer == 0 then switching_more z.bearer (session_at o) (session_at z.far) else none_more) near
    ∙ ap (λ o. if z.bearer == 0 then switching_more z.bearer d.session (session_at o) else none_more) far

up_alone : (z : PairEnds) (epoch : ℕ) → is_up_at z.far ≡ false → following z Up epoch ≡ telling (up_told z.bearer z.near) (contact_begins z)
up_alone z epoch down = ap (λ t. telling (up_told z.bearer z.near) (if t then (if z.bearer == 0 then switch z else rests z) else contact_begins z)) down

-- the link that went up, and the STATE that it says
risen_first : (v y : View) (x : PairEnds) (e : LinkEnd) (call : Call) (shown : BroadcastState) → ArePaired v y → IsOfPair v x → x.near ≡ Some e → Rises e.fsm (shown_to call) (outcome e.fsm call) → IsShowable shown
    → DoesDeed v y (with_wire v x.bearer (with_begun v.node (v.wires x.bearer) (after e (outcome e.fsm call)))) → TakesCourse v y (First x e call Up shown) none_more none_more
risen_first v y x e call shown h pair near m showable one =
    let b = x.bearer in
    let o = outcome e.fsm call in
    let d = after e o in
    let s = session_of (with_fsm e o.after) in
    let w' = with_begun v.node (v.wires b) d in
    let v1 = with_wire v b w' in
    let first : TakesCourse v y (rests (with_near x d)) none_more none_more = (v1, record { did = did_on v y b w' one (λ k. refl) (λ k. refl); pair = of_near v x w' d pair refl }) in
    let same : d ≡ record (with_fsm e o.after) { session = Some s; early = None } = ap (followed (with_fsm e o.after)) m.change in
    let end_is : (v1.wires b).end ≡ Some d = ap (λ (w : Wire). w.end) (put_same v.wires b w') in
    let on = session_of_up (v1.wires b) d s (record { end_is = end_is; up = ap (λ (k : LinkEnd). is_up k.fsm.state) same ∙ m.up; session_is = ap (λ (k : LinkEnd). k.session) same }) in
    takes_tell v y (with_near x d) b (state_frame s shown false ∷ []) none_more none_more first (Each-one (MayTell (v1.wires b)) (state_frame s shown false) (states s shown false on showable))
    (Each-one (λ (q : Outgoing). q.bearer ≡ b) (state_frame s shown false) (h.here.ends b e (pair.near ∙ near)).bearer_is)

-- beside another one, or as the first one
far_end : (o : Option LinkEnd) → (is_up_at o ≡ false) ⊎ ((f : LinkEnd) × (o ≡ Some f) × (is_up f.fsm.state ≡ true))
far_end o = elim (cases_Bool (is_up_at o)) [ inl up ↦ inr (up_end o up) | inr down ↦ inl down ]

pub rises_takes : (v y : View) (x : PairEnds) (e : LinkEnd) (call : Call) (shown : BroadcastState) → ArePaired v y → IsOfPair v x → x.near ≡ Some e → MayCall v y x.bearer call → IsShowable shown → Rises e.fsm (shown_to call) (outcome e.fsm call)
    → TakesCourse v y (First x e call Up shown) none_more none_more
rises_takes v y x e call shown h pair near may showable m =
    let b = x.bearer in
    let at = pair.near ∙ near in
    risen_first v y x e call shown h pair near m showable (elim (far_end x.far) [
      | inl down ↦ changes _ (rises b e call at may m.change (apart_of v x pair (ap is_up_at near ∙ m.was) down))
      | inr far ↦ besides _ (rises_beside b e call at may m.change (beside_of v x pair (ap is_up_at far.1 ∙ far.2)))
    ])

-- a contact begins
begins_takes : (v y : View) (x : PairEnds) → IsOfPair v x → TakesCourse v y (contact_begins x) none_more none_more
begins_takes v y x h = (
  v,
  record {
    did = did_nothing v y;
    pair = record { own = h.own; peer = h.peer; contact = h.contact; seen = h.seen; two_bearers = h.two_bearers; near = h.near; far = h.far; alone = h.alone };
  },
)

-- what the far link hands over, in whatever the near one did
pub hand_far : (v mid : View) (x z : PairEnds) → IsOfPair v x → IsOfPair mid z → z.own ≡ x.own → z.bearer ≡ x.bearer → z.far ≡ x.far → CanHand v x → (f : LinkEnd) (l : SessionEnd) → IsUp (mid.wires (other z.bearer)) f l → Each (IsPacket mid.node.own) (taken_over l)
hand_far v mid x z pair later own bearer far can f l up =
    subst (λ n. Each (IsPacket n) (taken_over l)) (same_own v mid x z pair later own) (can.far f l (record { end_is = pair.far ∙ sym far ∙ sym later.far ∙ up.end_is; up = up.up; session_is = up.session_is }))

-- the near link went up: it may take over from the other one, or a contact begins
pub up_takes : (v y : View) (z : PairEnds) (d : LinkEnd) (epoch : ℕ) → ArePaired v y → IsOfPair v z → z.near ≡ Some d → is_up d.fsm.state ≡ true → ((f : LinkEnd) (l : SessionEnd) → IsUp (v.wires (other z.bearer)) f l → Each (IsPacket v.node.own) (taken_over l))
    → TakesCourse v y (following z Up epoch) (followed_more z Up) none_more
up_takes v y z d epoch h pair near up can = elim (far_end z.far) [
  | inl down ↦
      let none : followed_more z Up ≡ none_more = ap (λ t. if t then (if z.bearer == 0 then switching_more z.bearer (session_at z.near) (session_at z.far) else none_more) else none_more) down in
      subst (λ k. TakesCourse v y k (followed_more z Up) none_more) (sym (up_alone z epoch down))
      (subst (λ n. TakesCourse v y (telling (up_told z.bearer z.near) (contact_begins z)) n none_more) (sym none) (takes_telling v y (contact_begins z) (up_told z.bearer z.near) none_more none_more (begins_takes v y z pair)))
  | inr far ↦ beside_up v y z d far.0 epoch h pair near far.1 up far.2 (λ l is. can far.0 l (record { end_is = pair.far ∙ far.1; up = far.2; session_is = is }))
]
  where
    beside_up : (v y : View) (z : PairEnds) (d f : LinkEnd) (epoch : ℕ) → ArePaired v y → IsOfPair v z → z.near ≡ Some d → z.far ≡ Some f → is_up d.fsm.state ≡ true → is_up f.fsm.state ≡ true → ((l : SessionEnd) → f.session ≡ Some l → Each (IsPacket v.node.own) (taken_over l))
        → TakesCourse v y (following z Up epoch) (followed_more z Up) none_more
    beside_up v y z d f epoch h pair near far up far_up can =
        let told = up_told z.bearer z.near in
        subst (λ k. TakesCourse v y k (followed_more z Up) none_more) (sym (up_beside z d f epoch near far far_up)) (subst (λ n. TakesCourse v y (telling told (if z.bearer == 0 then switching z d f d.session f.session else rests z)) n none_more) (sym (more_up z d f near far far_up))
        (elim (z.bearer == 0) as (λ t. TakesCourse v y (telling told (if t then switching z d f d.session f.session else rests z)) (if t then switching_more z.bearer d.session f.session else none_more) none_more) [
          | true ↦ takes_telling v y (switching z d f d.session f.session) told (switching_more z.bearer d.session f.session) none_more (switching_takes v y z d f d.session f.session h pair near far refl refl up far_up can)
          | false ↦ takes_telling v y (rests z) told none_more none_more (takes_rest v y z pair)
        ]))

rises_step : (v y : View) (x : PairEnds) (e : LinkEnd) (call : Call) (epoch : ℕ) (shown : BroadcastState) → ArePaired v y → IsOfPair v x → x.near ≡ Some e → MayCall v y x.bearer call → CanHand v x → IsShowable shown → Rises e.fsm (shown_to call) (outcome e.fsm call)
    → Steps v y x e call Up epoch shown
rises_step v y x e call epoch shown h pair near may can showable m =
    let d = after e (outcome e.fsm call) in
    let z = with_near x d in
    takes_then v y (First x e call Up shown) (λ z. following z Up epoch) none_more (followed_more z Up) none_more none_more h (rises_takes v y x e call shown h pair near may showable m)
    (λ mid paired took. up_takes mid y z d epoch paired took.pair refl (ap (λ k. is_up k.state) (called_fsm e call) ∙ m.up) (hand_far v mid x z pair took.pair refl refl refl can))

-- ---- a call

turn_steps : (v y : View) (x : PairEnds) (e : LinkEnd) (call : Call) (epoch : ℕ) (shown : BroadcastState) → ArePaired v y → IsOfPair v x → x.near ≡ Some e → MayCall v y x.bearer call → CanHand v x → IsShowable shown → Turn e.fsm (shown_to call) (outcome e.fsm call)
    → Steps v y x e call (outcome e.fsm call).change epoch shown
turn_steps v y x e call epoch shown h pair near may can showable (stay m) = quiet_steps v y x e call epoch shown h pair near may m.quiet m.says showable
turn_steps v y x e call epoch shown h pair near may can showable (learn m) =
    quiet_steps v y x e call epoch shown h pair near may (ap is_quiet m.change) (λ probe is. absurd (let one = m.change in let wrong : ⊥ = cc in wrong)) showable
turn_steps v y x e call epoch shown h pair near may can showable (fall m) = subst (λ c. Steps v y x e call c epoch shown) (sym m.change) (elim (far_end x.far) [
  | inl down ↦ last_falls v y x e call epoch shown h pair near down may m
  | inr up ↦ beside_falls v y x e up.0 call epoch shown h pair near up.1 up.2 may can m
])
turn_steps v y x e call epoch shown h pair near may can showable (rise m) = subst (λ c. Steps v y x e call c epoch shown) (sym m.change) (rises_step v y x e call epoch shown h pair near may can showable m)

-- a packet that the near end takes leaves it up, or takes it up
pub first_takes : (v y : View) (x : PairEnds) (e : LinkEnd) (call : Call) (shown : BroadcastState) → ArePaired v y → IsOfPair v x → x.near ≡ Some e → MayCall v y x.bearer call → IsShowable shown → is_taken (outcome e.fsm call).change ≡ true
    → TakesCourse v y (First x e call (outcome e.fsm call).change shown) none_more none_more
first_takes v y x e call shown h pair near may showable taken = (let named = call_named v y x.bearer call may in of (call_turns e.fsm call named.0 named.1)) where
  of : Turn e.fsm (shown_to call) (outcome e.fsm call) → TakesCourse v y (First x e call (outcome e.fsm call).change shown) none_more none_more
  of (stay m) = quiet_takes v y x e call shown (outcome e.fsm call).change h pair near may refl m.quiet m.says showable
  of (learn m) = absurd (true≢false (sym taken ∙ ap is_taken m.change))
  of (fall m) = absurd (true≢false (sym taken ∙ ap is_taken m.change))
  of (rise m) = subst (λ c. TakesCourse v y (First x e call c shown) none_more none_more) (sym m.change) (rises_takes v y x e call shown h pair near may showable m)

-- the near end after a call, and what follows
pub stepped_takes : (v y : View) (x : PairEnds) (e : LinkEnd) (call : Call) (epoch : ℕ) (shown : BroadcastState) → ArePaired v y → IsOfPair v x → x.near ≡ Some e → MayCall v y x.bearer call → CanHand v x → IsShowable shown
    → TakesCourse v y (stepped x e (outcome e.fsm call) epoch shown) (followed_more (with_near x (after e (outcome e.fsm call))) (outcome e.fsm call).change) none_more
stepped_takes v y x e call epoch shown h pair near may can showable =
    let named = call_named v y x.bearer call may in
    turn_steps v y x e call epoch shown h pair near may can showable (call_turns e.fsm call named.0 named.1)
