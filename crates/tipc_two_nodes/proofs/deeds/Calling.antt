-- A link end of a pair is made, its bearer is mended, and it is called without going up or down.
use Rattle.std.proofs.Common.{◌≡◌, ℕ, Bool, true, false, if◌then◌else◌, List, [], ◌∷◌, ◌++◌, Option, Some, None, option_map, refl, sym, ap, ◌∙◌, ◌⊎◌, subst, inl, inr, append-nil}
use Rattle.std.proofs.lemmas.Bool.{true≢false}
use Rattle.tipc_types.specs.LinkStates.{is_up}
use Rattle.tipc_types.specs.declared.link_words.BroadcastState.{BroadcastState}
use Rattle.tipc_types.specs.declared.link_words.LinkState.{LinkState}
use Rattle.tipc_types.specs.declared.link_words.LinkState.TheVariants.{ResetUnknown}
use Rattle.tipc_types.specs.declared.link_words.Reply.TheVariants as reply
use Rattle.tipc_outside.specs.declared.outgoing.Outgoing.{Outgoing}
use Rattle.tipc_header.specs.declared.packet.Header.TheVariants as header
use Rattle.tipc_link.specs.Links.{LinkEnd, after, follow_frames, followed, frames, is_answer, is_reset_unknown, made, mend_frames, mended_end, notice, on_bearer, release_frames, reset_frames, shown_by, state_frames, with_fsm}
use Rattle.tipc_link.specs.Parts.{IsShowable, is_quiet}
use Rattle.tipc_link.specs.Sessions.{state_frame}
use Rattle.tipc_link.proofs.LinkLaw.{Each, Each-none, Each-one}
use Rattle.tipc_link_fsm.specs.declared.changes.Change.{Change}
use Rattle.tipc_link_fsm.specs.declared.changes.Change.TheVariants.{Answer, Down, Ignore, Stay, Up}
use Rattle.tipc_link_fsm.specs.Runs.{Call, Releases, outcome}
use Rattle.tipc_link_fsm.specs.Table.{is_held, release}
use Rattle.tipc_link_fsm.proofs.Moves.{cases_on}
use Rattle.tipc_pair.specs.Changeovers.{at_far, is_clear, let_go, let_go_frames, release_near, released}
use Rattle.tipc_pair.specs.Courses.{rests}
use Rattle.tipc_pair.specs.Facing.{PairEnds, turned, with_made, with_near}
use Rattle.tipc_pair.specs.PairCalls.{mended, mended_frames, mended_near}
use Rattle.tipc_paired.proofs.sessions.CallDeeds.{may_later}
use Rattle.tipc_paired.proofs.wires.Turns.{notices_unheld, says_notice}
use Rattle.tipc_paired.proofs.wires.Wires.{put_same, session_of_up}
use Rattle.tipc_paired.specs.Deeds.{MayCall, MayTell, activates, calls, made_on, makes, resets, states, turns, works}
use Rattle.tipc_paired.specs.Paired.{ArePaired}
use Rattle.tipc_paired.specs.Views.{View, Wire, with_end, with_wire}
use Rattle.tipc_two_nodes.proofs.deeds.Chains.{did_as, did_nothing, did_on, did_tell, did_then, told_all}
use Rattle.tipc_two_nodes.proofs.deeds.Pairs.{of_near, takes_far, takes_rest, takes_then, of_turned}
use Rattle.tipc_two_nodes.specs.deeds.PairDeeds.{IsOfPair, TakesCourse, both_more, none_more}

-- ---- frames are told

pub of_told : (v : View) (x : PairEnds) (y : View) (b : ℕ) (frames : List Outgoing) → IsOfPair v x → IsOfPair (told_all v y b frames) x
of_told v x y b frames h = record {
  own = h.own;
  peer = h.peer;
  contact = h.contact;
  seen = h.seen;
  two_bearers = h.two_bearers;
  near = h.near;
  far = h.far;
  alone = h.alone;
}

-- frames of link states, behind deeds that told none
pub takes_tell : (v y : View) (x : PairEnds) (b : ℕ) (said : List Outgoing) (n t : ℕ → ℕ → List (List ℕ)) → (first : TakesCourse v y (rests x) n t) → Each (MayTell (first.0.wires b)) said → Each (λ (o : Outgoing). o.bearer ≡ b) said
    → TakesCourse v y (record (rests x) { states = said }) n t
takes_tell v y x b said n t first may on =
    let mid = first.0 in
    let last = told_all mid y b said in (
      last,
      record {
        did = did_as v y last ([] ++ said) (said ++ []) (both_more n none_more) n (both_more t none_more) t (did_then v y mid last [] said n none_more t none_more first.1.did (did_tell mid y b said may on))
            (λ P each. subst (Each P) (sym (append-nil said)) each) (λ c k. append-nil (n c k)) (λ c k. append-nil (t c k));
        pair = of_told mid x y b said first.1.pair;
      },
    )

pub on_bearer_each : (P : Outgoing → Type 0) (e : LinkEnd) (o : Outgoing) → P o → Each P (on_bearer e o)
on_bearer_each P e o is = elim e.mended as (λ t. Each P (if t then o ∷ [] else [])) [ true ↦ Each-one P o is | false ↦ Each-none P ]

-- a RESET of the end on a bearer, which isn't held
pub resets_may : (v y : View) (b : ℕ) (e : LinkEnd) → (v.wires b).end ≡ Some e → is_held e.fsm.state ≡ false → Each (MayTell (v.wires b)) (reset_frames e)
resets_may v y b e is unheld = on_bearer_each (MayTell (v.wires b)) e _ (resets e is unheld)

pub resets_on : (b : ℕ) (e : LinkEnd) → e.bearer ≡ b → Each (λ (o : Outgoing). o.bearer ≡ b) (reset_frames e)
resets_on b e on = on_bearer_each (λ (o : Outgoing). o.bearer ≡ b) e _ on

-- ---- an end is made

pub made_takes : (v y : View) (x : PairEnds) → ArePaired v y → IsOfPair v x → x.near ≡ None → TakesCourse v y (rests (with_made x)) none_more none_more
made_takes v y x h pair none =
    let b = x.bearer in
    let end_is = pair.near ∙ none in
    let e = made_on v.node b in
    let w' = with_end (v.wires b) e in
    let same : e ≡ record (made x.own x.peer b x.contact) { peer_contact = x.seen } =
    ap (λ n. record (made n v.node.peer b v.node.contact) { peer_contact = v.node.seen }) pair.own ∙ ap (λ n. record (made x.own n b v.node.contact) { peer_contact = v.node.seen }) pair.peer
    ∙ ap (λ n. record (made x.own x.peer b n) { peer_contact = v.node.seen }) pair.contact ∙ ap (λ n. record (made x.own x.peer b x.contact) { peer_contact = n }) pair.seen in (
      with_wire v b w',
      record { did = did_on v y b w' (works (with_wire v b w') (makes b end_is)) (λ k. refl) (λ k. refl); pair = of_near v x w' _ pair (ap Some same) },
    )

-- ---- its bearer is mended

reset_unheld : (st : LinkState) → is_reset_unknown st ≡ true → is_held st ≡ false
reset_unheld ResetUnknown reset = refl
reset_unheld other reset = absurd (let wrong : ⊥ = cc in wrong)

pub turned_takes : (v y : View) (x : PairEnds) (e : LinkEnd) (mended : Bool) → IsOfPair v x → x.near ≡ Some e → (m : TakesCourse v y (rests (with_near x (record e { mended = mended }))) none_more none_more) × ((m.0.wires x.bearer).end ≡ Some (record e { mended = mended }))
turned_takes v y x e mended pair is =
    let w' = with_end (v.wires x.bearer) (record e { mended = mended }) in
    let v' = with_wire v x.bearer w' in (
      (v', record { did = did_on v y x.bearer w' (works v' (turns x.bearer e mended (pair.near ∙ is))) (λ k. refl) (λ k. refl); pair = of_near v x w' _ pair refl }),
      ap (λ (w : Wire). w.end) (put_same v.wires x.bearer w'),
    )

mended_takes_at : (v y : View) (x : PairEnds) (o : Option LinkEnd) → ArePaired v y → IsOfPair v x → x.near ≡ o → TakesCourse v y (record (rests (mended_near x o)) { states = mended_frames o }) none_more none_more
mended_takes_at v y x None h pair is = takes_rest v y x pair
mended_takes_at v y x (Some e) h pair is =
    let m = turned_takes v y x e true pair is in
    let end = h.here.ends x.bearer e (pair.near ∙ is) in
    let P = MayTell (m.0.0.wires x.bearer) in
    let Q : Outgoing → Type 0 = λ o. o.bearer ≡ x.bearer in
    let each : (R : Outgoing → Type 0) → (is_held e.fsm.state ≡ false → Each R (reset_frames (mended_end e))) → Each R (mend_frames e) = λ R may.
    elim (is_reset_unknown e.fsm.state) as (λ t. is_reset_unknown e.fsm.state ≡ t → Each R (if t then reset_frames (mended_end e) else [])) [
      | true ↦ λ reset. may (reset_unheld e.fsm.state reset)
      | false ↦ λ _. Each-none R
    ] refl in
    takes_tell v y (with_near x (mended_end e)) x.bearer (mend_frames e) none_more none_more m.0 (each P (λ unheld. resets_may m.0.0 y x.bearer (mended_end e) m.1 unheld)) (each Q (λ unheld. resets_on x.bearer (mended_end e) end.bearer_is))

pub mended_takes : (v y : View) (x : PairEnds) → ArePaired v y → IsOfPair v x → TakesCourse v y (mended x) none_more none_more
mended_takes v y x h pair = mended_takes_at v y x x.near h pair refl

-- ---- it is called, and goes neither up nor down

pub called_takes : (v y : View) (x : PairEnds) (e : LinkEnd) (call : Call) → IsOfPair v x → x.near ≡ Some e → MayCall v y x.bearer call → is_quiet (outcome e.fsm call).change ≡ true
    → (m : TakesCourse v y (rests (with_near x (after e (outcome e.fsm call)))) none_more none_more) × ((m.0.wires x.bearer).end ≡ Some (after e (outcome e.fsm call)))
called_takes v y x e call pair is may quiet =
    let w' = with_end (v.wires x.bearer) (after e (outcome e.fsm call)) in
    let v' = with_wire v x.bearer w' in (
      (v', record { did = did_on v y x.bearer w' (works v' (calls x.bearer e call (pair.near ∙ is) may quiet)) (λ k. refl) (λ k. refl); pair = of_near v x w' _ pair refl }),
      ap (λ (w : Wire). w.end) (put_same v.wires x.bearer w'),
    )

-- and says what its change asks for
pub quiet_takes : (v y : View) (x : PairEnds) (e : LinkEnd) (call : Call) (shown : BroadcastState) (c : Change) → ArePaired v y → IsOfPair v x → x.near ≡ Some e → MayCall v y x.bearer call → (outcome e.fsm call).change ≡ c → is_quiet c ≡ true
    → ((probe : Bool) → c ≡ Answer (reply.State probe) → is_up e.fsm.state ≡ true) → IsShowable shown
    → TakesCourse v y (record (rests (with_near x (after e (outcome e.fsm call)))) { states = follow_frames (with_fsm e (outcome e.fsm call).after) c shown }) none_more none_more
quiet_takes v y x e call shown Up h pair near may is quiet says showable = absurd (let wrong : ⊥ = cc in wrong)
quiet_takes v y x e call shown (Down cause) h pair near may is quiet says showable = absurd (let wrong : ⊥ = cc in wrong)
quiet_takes v y x e call shown Stay h pair near may is quiet says showable = (called_takes v y x e call pair near may (ap is_quiet is ∙ quiet)).0
quiet_takes v y x e call shown (Ignore why) h pair near may is quiet says showable = (called_takes v y x e call pair near may (ap is_quiet is ∙ quiet)).0
quiet_takes v y x e call shown (Answer reply.Reset) h pair near may is quiet says showable =
    let o = outcome e.fsm call in
    let m = called_takes v y x e call pair near may (ap is_quiet is ∙ quiet) in
    let same : after e o ≡ with_fsm e o.after = ap (followed (with_fsm e o.after)) is in
    let end = h.here.ends x.bearer e (pair.near ∙ near) in
    takes_tell v y (with_near x (after e o)) x.bearer (reset_frames (with_fsm e o.after)) none_more none_more m.0
    (resets_may m.0.0 y x.bearer (with_fsm e o.after) (m.1 ∙ ap Some same) (notices_unheld e.fsm call (ap says_notice is))) (resets_on x.bearer (with_fsm e o.after) end.bearer_is)
quiet_takes v y x e call shown (Answer reply.Activate) h pair near may is quiet says showable =
    let o = outcome e.fsm call in
    let m = called_takes v y x e call pair near may (ap is_quiet is ∙ quiet) in
    let same : after e o ≡ with_fsm e o.after = ap (followed (with_fsm e o.after)) is in
    let end = h.here.ends x.bearer e (pair.near ∙ near) in
    takes_tell v y (with_near x (after e o)) x.bearer (on_bearer (with_fsm e o.after) (notice (with_fsm e o.after) (header.Activate (shown_by (with_fsm e o.after))))) none_more none_more m.0
    (on_bearer_each (MayTell (m.0.0.wires x.bearer)) (with_fsm e o.after) _ (activates (with_fsm e o.after) (m.1 ∙ ap Some same) (notices_unheld e.fsm call (ap says_notice is))))
    (on_bearer_each (λ (q : Outgoing). q.bearer ≡ x.bearer) (with_fsm e o.after) _ end.bearer_is)
quiet_takes v y x e call shown (Answer (reply.State probe)) h pair near may is quiet says showable =
    let b = x.bearer in
    let o = outcome e.fsm call in
    let end = h.here.ends b e (pair.near ∙ near) in
    let up = says probe refl in
    let going = end.going up in
    let s = going.0 in
    let on = session_of_up (v.wires b) e s (record { end_is = pair.near ∙ near; up = up; session_is = going.1 }) in
    let said = state_frame s shown probe ∷ [] in
    let mid = told_all v y b said in
    let first = did_tell v y b said (Each-one (MayTell (v.wires b)) (state_frame s shown probe) (states s shown probe on showable)) (Each-one (λ (q : Outgoing). q.bearer ≡ b) (state_frame s shown probe) (end.session s going.1).2) in
    let m = called_takes mid y x e call (of_told v x y b said pair) near (may_later v mid y b call refl may) (ap is_quiet is ∙ quiet) in
    let frames_are : state_frames e.session shown probe ≡ said = ap (λ k. state_frames k shown probe) going.1 in (
      m.0.0,
      record {
        did = did_as v y m.0.0 (said ++ []) (state_frames e.session shown probe ++ []) none_more none_more none_more none_more (did_then v y mid m.0.0 said [] none_more none_more none_more none_more first m.0.1.did)
            (λ P each. subst (λ (fs : List Outgoing). Each P (fs ++ [])) (sym frames_are) each) (λ c k. refl) (λ c k. refl);
        pair = m.0.1.pair;
      },
    )

-- ---- an end that is held is released

-- what a release makes of an end: it says RESET where it was held, and stays as it was elsewhere
record LetsGo (e : LinkEnd) : Type 0 where
  quiet : is_quiet (release e.fsm).change ≡ true
  end : after e (release e.fsm) ≡ let_go e
  said : is_answer (release e.fsm).change ≡ true → says_notice (release e.fsm).change ≡ true

release_change : (e : LinkEnd) → ((release e.fsm).change ≡ Answer reply.Reset) ⊎ ((release e.fsm).change ≡ Stay)
unfolding release
release_change e = cases_on (λ o. (o.change ≡ Answer reply.Reset) ⊎ (o.change ≡ Stay)) (is_held e.fsm.state) _ _ (λ _. inl refl) (λ _. inr refl)

lets_go : (e : LinkEnd) → LetsGo e
lets_go e = of (release_change e) where
  of : ((release e.fsm).change ≡ Answer reply.Reset) ⊎ ((release e.fsm).change ≡ Stay) → LetsGo e
  of (inl reset) = record { quiet = ap is_quiet reset; end = ap (followed (let_go e)) reset; said = λ _. ap says_notice reset }
  of (inr stay) = record { quiet = ap is_quiet stay; end = ap (followed (let_go e)) stay; said = λ answer. absurd (true≢false (sym answer ∙ ap is_answer stay)) }

release_at : (v y : View) (x : PairEnds) (o : Option LinkEnd) → ArePaired v y → IsOfPair v x → x.near ≡ o → TakesCourse v y (record (rests (record x { near = option_map let_go o })) { states = let_go_frames o }) none_more none_more
release_at v y x None h pair is = (
  v,
  record {
    did = did_nothing v y;
    pair = record { own = pair.own; peer = pair.peer; contact = pair.contact; seen = pair.seen; two_bearers = pair.two_bearers; near = pair.near ∙ is; far = pair.far; alone = pair.alone };
  },
)
release_at v y x (Some e) h pair is =
    let m = called_takes v y x e Releases pair is tt (lets_go e).quiet in
    let end = h.here.ends x.bearer e (pair.near ∙ is) in
    let same = (lets_go e).end in
    let each : (R : Outgoing → Type 0) → (is_held (let_go e).fsm.state ≡ false → Each R (reset_frames (let_go e))) → Each R (release_frames e) = λ R may.
    elim (is_answer (release e.fsm).change) as (λ t. is_answer (release e.fsm).change ≡ t → Each R (if t then reset_frames (let_go e) else [])) [
      | true ↦ λ answer. may (notices_unheld e.fsm Releases ((lets_go e).said answer))
      | false ↦ λ _. Each-none R
    ] refl in
    let first : TakesCourse v y (rests (with_near x (let_go e))) none_more none_more = (m.0.0, record { did = m.0.1.did; pair = subst (λ (d : LinkEnd). IsOfPair m.0.0 (with_near x d)) same m.0.1.pair }) in
    takes_tell v y (with_near x (let_go e)) x.bearer (release_frames e) none_more none_more first
    (each (MayTell (m.0.0.wires x.bearer)) (λ unheld. resets_may m.0.0 y x.bearer (let_go e) (m.1 ∙ ap Some same) unheld)) (each (λ (q : Outgoing). q.bearer ≡ x.bearer) (λ unheld. resets_on x.bearer (let_go e) end.bearer_is))

pub release_takes : (v y : View) (x : PairEnds) → ArePaired v y → IsOfPair v x → TakesCourse v y (release_near x) none_more none_more
release_takes v y x h pair = elim (is_clear x.far) as (λ t. TakesCourse v y (if t then record (rests (record x { near = option_map let_go x.near })) { states = let_go_frames x.near } else rests x) none_more none_more) [
  | true ↦ release_at v y x x.near h pair refl
  | false ↦ takes_rest v y x pair
]

-- at the end of a call
pub released_takes : (v y : View) (x : PairEnds) → ArePaired v y → IsOfPair v x → TakesCourse v y (released x) none_more none_more
unfolding released
released_takes v y x h pair = takes_then v y (release_near x) (at_far release_near) none_more none_more none_more none_more h (release_takes v y x h pair)
    (λ mid paired took. takes_far mid y (release_near x).pair release_near none_more none_more (release_takes mid y (turned (release_near x).pair) paired (of_turned mid (release_near x).pair took.pair)))
