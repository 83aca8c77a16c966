-- What is true of each act is true of a whole run of them.
use Rattle.std.specs.Prelude.{◌==◌, if◌then◌else◌}
use Rattle.std.proofs.Common.{◌∙◌, ap, sym, ◌≡◌, ℕ, Bool, true, false, List, [], Option, Some, None, refl, subst}
use Rattle.tipc_types.specs.LinkStates.{is_up}
use Rattle.tipc_types.specs.declared.link_words.BroadcastState.{BroadcastState}
use Rattle.tipc_types.specs.declared.packet_lists.Taken.{Taken}
use Rattle.tipc_outside.specs.declared.outgoing.Outgoing.{Outgoing}
use Rattle.tipc_header.specs.declared.packet.Header.{Header}
use Rattle.tipc_header.specs.declared.packet.Header.TheVariants as header
use Rattle.tipc_tunnel.specs.Tunnels.{Tunnelled}
use Rattle.tipc_fragments.specs.Joining.{Joining}
use Rattle.tipc_reassembly.specs.declared.opening.Opened.{Opened}
use Rattle.tipc_reassembly.specs.Opening.{BringsAll}
use Rattle.tipc_link_fsm.specs.declared.changes.Change.{Change}
use Rattle.tipc_link_fsm.specs.declared.changes.Change.TheVariants.{Answer, Down, Ignore, Stay, Up}
use Rattle.tipc_link_fsm.specs.Table.{Fsm, Outcome}
use Rattle.tipc_link_fsm.proofs.Moves.{Moves, falls, is_going_up, on_activate_moves, on_cut_moves, on_peer_tunnel_moves, on_reset_moves, on_tick_moves, on_traffic_moves, rises, stays as still}
use Rattle.tipc_link.specs.Links.{LinkEnd, answered_with, frames_with, mend_frames, mended_end, outcome_of, release_frames, with_session}
use Rattle.tipc_link.specs.Sessions.{IsPut, SessionEnd, flush_frames, flushed}
use Rattle.tipc_pair.specs.Changeovers.{contact_begins, contact_ends, fail_over, fail_over_to, failing, following, forgotten, is_clear, let_go, risen, switch, switch_from, switching}
use Rattle.tipc_pair.specs.Courses.{Course, going_on, rests as nothing}
use Rattle.tipc_pair.specs.Facing.{PairEnds, in_contact, is_up_at, turned, with_made}
use Rattle.tipc_pair.specs.PairArrivals.{inner_taken}
use Rattle.tipc_pair.proofs.EndSteps.{fsm_after, fsm_arrived}
use Rattle.tipc_pair.proofs.acts.Acts.{Act, Acts, Ran, Steps, gone, near_course, telling_of, told_by, turned_back}
use Rattle.tipc_pair.proofs.acts.Acts.Act.{answers as answering, carries as carrying, counts as counting, lets_go as letting, makes as making, opens as opening, puts as putting}
use Rattle.tipc_pair.proofs.acts.Acts.Acts.{answered, counted, let_go_of, made, mended, moved, opened, put, raised}
use Rattle.tipc_pair.proofs.acts.Acts.Ran.{acts, stays, goes_on as going, turns as turning}
use Rattle.tipc_pair.proofs.acts.Acts.Steps.{cut, meet, name, reset, tick}

-- by cases of a test, each of which knows how it came out
pub tested : {T : Type 0} (P : T → Type 0) (b : Bool) (x y : T) → (b ≡ true → P x) → (b ≡ false → P y) → P (if b then x else y)
tested P true x y one two = one refl
tested P false x y one two = two refl

-- ---- act by act

-- What is true of courses: of one by which nothing happens, of one behind another, of one that is seen from the other link, and of each act
-- of which A is so, with all that follows it.
pub record Walk (A : PairEnds → Act → Type 0) (R : PairEnds → Course → Type 0) : Type 0 where
  pub rests : (x : PairEnds) → R x (nothing x)
  pub goes_on : (x : PairEnds) (first : Course) (step : PairEnds → Course) → R x first → R first.pair (step first.pair) → R x (going_on first step)
  pub turns : (x : PairEnds) (c : Course) → R (turned x) c → R x (turned_back c)
  pub acts : (x : PairEnds) (a : Act) (c : Course) → A x a → Acts x a c → R x c

pub walks : (A : PairEnds → Act → Type 0) (R : PairEnds → Course → Type 0) → Walk A R → (x : PairEnds) (c : Course) → Ran A x c → R x c
walks A R w _ _ (stays x) = w.rests x
walks A R w _ _ (acts x a c may does) = w.acts x a c may does
walks A R w _ _ (going x first step one two) = w.goes_on x first step (walks A R w x first one) (walks A R w first.pair (step first.pair) two)
walks A R w _ _ (turning x c run) = w.turns x c (walks A R w (turned x) c run)

-- ---- part by part

-- The same, where each act is taken apart: the step of the near end, with what is told of it; and behind it what follows, which is that the
-- contact begins or ends, or that one link hands over to the other or takes over from it.
pub record Parts (A : PairEnds → Act → Type 0) (R : PairEnds → Course → Type 0) : Type 0 where
  pub rests : (x : PairEnds) → R x (nothing x)
  pub goes_on : (x : PairEnds) (first : Course) (step : PairEnds → Course) → R x first → R first.pair (step first.pair) → R x (going_on first step)
  pub turns : (x : PairEnds) (c : Course) → R (turned x) c → R x (turned_back c)
  pub makes : (x : PairEnds) → A x making → R x (nothing (with_made x))
  pub mends : (x : PairEnds) (e : LinkEnd) → x.near ≡ Some e → R x (near_course x (mended_end e) (mend_frames e) [])
  pub steps : (x : PairEnds) (a : Act) (e : LinkEnd) (o : Outcome) (e' : LinkEnd) (states numbered : List Outgoing) (epoch : ℕ)
      → x.near ≡ Some e → A x a → Steps x e a o e' states numbered epoch → R x (telling_of (told_by x e' o.change epoch) (near_course x e' states numbered))
  pub begins : (x : PairEnds) → is_up_at x.near ≡ true → is_up_at x.far ≡ false → R x (contact_begins x)
  pub ends : (x : PairEnds) (contact : ℕ × ℕ) (shown : ℕ) → R x (contact_ends x contact shown)
  pub counts : (x : PairEnds) (number : ℕ) → A x (counting number) → R x (nothing (record x { seen = number }))
  pub forgets : (x : PairEnds) (number : ℕ) → A x (counting number) → R x (nothing (forgotten x number))
  pub hands_over : (x : PairEnds) (near far : LinkEnd) (lost s : SessionEnd) → x.near ≡ Some near → x.far ≡ Some far → near.session ≡ Some lost → far.session ≡ Some s
      → is_up_at x.far ≡ true → R x (failing x near far (Some lost) (Some s))
  pub takes_over : (x : PairEnds) (near far : LinkEnd) (s old : SessionEnd) → x.near ≡ Some near → x.far ≡ Some far → near.session ≡ Some s → far.session ≡ Some old
      → is_up_at x.near ≡ true → is_up_at x.far ≡ true → R x (switching x near far (Some s) (Some old))
  pub lets_go : (x : PairEnds) (e : LinkEnd) → x.near ≡ Some e → A x letting → is_clear x.far ≡ true → R x (near_course x (let_go e) (release_frames e) [])
  pub carries : (x : PairEnds) (e : LinkEnd) (t : Tunnelled) (by : ℕ) → x.near ≡ Some e → A x (carrying t by) → R x (near_course x (inner_taken t by e) [] [])
  pub opens : (x : PairEnds) (packets : List Taken) (given : List Opened) (last : Joining) → A x (opening packets given) → BringsAll x.begun packets given last
      → R x (nothing (record x { begun = last }))
  pub puts : (x : PairEnds) (e : LinkEnd) (s : SessionEnd) (pieces : List (List ℕ)) (s' : SessionEnd) → x.near ≡ Some e → A x (putting pieces) → e.session ≡ Some s → IsPut s pieces s'
      → R x (near_course x (with_session e (flushed s')) [] (flush_frames s'))
  pub answers : (x : PairEnds) (e : LinkEnd) (taken : ℕ) (asks : Bool) (shown : BroadcastState) → x.near ≡ Some e → A x (answering taken asks shown)
      → R x (near_course x (answered_with e taken asks) (frames_with e taken asks shown) [])

-- ---- the step of an end

-- The link states of an end moved as a call moves them, and the end has them.
pub record IsMove (e : LinkEnd) (o : Outcome) (e' : LinkEnd) : Type 0 where
  pub shown : Option (ℕ × ℕ)
  pub moves : Moves e.fsm shown o
  pub fsm : e'.fsm ≡ o.after

pub outcome_moves : (f : Fsm) (h : Header) (es er : ℕ) (held : Bool) → Moves f (Some (es, er)) (outcome_of f h es er held)
outcome_moves f (header.Reset r) es er held = on_reset_moves f es held (Some (es, er))
outcome_moves f (header.Activate a) es er held = on_activate_moves f es er
outcome_moves f (header.Discovery d) es er held = still refl refl refl
outcome_moves f other es er held = on_traffic_moves f es er

pub step_moves : (x : PairEnds) (a : Act) (e : LinkEnd) (o : Outcome) (e' : LinkEnd) (states numbered : List Outgoing) (epoch : ℕ) → Steps x e a o e' states numbered epoch → IsMove e o e'
step_moves x _ e _ _ _ _ _ cut = record { shown = None; moves = on_cut_moves e.fsm (is_up_at x.far) None; fsm = refl }
step_moves x _ e _ _ _ _ _ (tick shown) = record { shown = None; moves = on_tick_moves e.fsm (is_up_at x.far) None; fsm = fsm_after e _ }
step_moves x _ e _ _ _ _ _ (reset es held shown) = record { shown = None; moves = on_reset_moves e.fsm es held None; fsm = fsm_after e _ }
step_moves x _ e _ _ _ _ _ (meet es er p by shown) = record { shown = Some (es, er); moves = outcome_moves e.fsm p.header es er (is_up_at x.far); fsm = fsm_arrived e _ p by }
step_moves x _ e _ _ _ _ _ (name epoch) = record { shown = None; moves = on_peer_tunnel_moves e.fsm epoch None; fsm = refl }

-- a link that went up is up
moves_up : (f : Fsm) (shown : Option (ℕ × ℕ)) (o : Outcome) → Moves f shown o → o.change ≡ Up → is_up o.after.state ≡ true
moves_up f shown o (still own up quiet) is = absurd (let wrong : false ≡ true = sym quiet ∙ ap is_going_up is in cc)
moves_up f shown o (rises es own was up last told peer rising) is = up
moves_up f shown o (falls own down quiet) is = absurd (let wrong : false ≡ true = sym quiet ∙ ap is_going_up is in cc)

-- what is told of a step stands with the step
told_first : (x : PairEnds) (e : LinkEnd) (states numbered : List Outgoing) (change : Change) (epoch : ℕ)
    → going_on (telling_of (told_by x e change epoch) (near_course x e states numbered)) (gone change) ≡ going_on (near_course x e states numbered) (λ y. following y change epoch)
unfolding going_on
told_first x e states numbered Up epoch = refl
told_first x e states numbered (Down cause) epoch = refl
told_first x e states numbered Stay epoch = refl
told_first x e states numbered (Answer reply) epoch = refl
told_first x e states numbered (Ignore reason) epoch = refl

-- a course behind nothing but another pair
behind_nothing : (y : PairEnds) (step : PairEnds → Course) → going_on (nothing y) step ≡ step y
unfolding going_on
behind_nothing y step = refl

module _ (A : PairEnds → Act → Type 0) (R : PairEnds → Course → Type 0) (p : Parts A R) where
  failing_so : (x : PairEnds) (near far : LinkEnd) (a b : Option SessionEnd) → x.near ≡ Some near → x.far ≡ Some far → near.session ≡ a → far.session ≡ b → is_up_at x.far ≡ true → R x (failing x near far a b)
  failing_so x near far (Some lost) (Some s) one two first second up = p.hands_over x near far lost s one two first second up
  failing_so x near far (Some lost) None one two first second up = p.rests x
  failing_so x near far None b one two first second up = p.rests x

  fail_over_so : (x : PairEnds) (o o' : Option LinkEnd) → x.near ≡ o → x.far ≡ o' → is_up_at x.far ≡ true → R x (fail_over_to x o o')
  fail_over_so x (Some near) (Some far) one two up = failing_so x near far near.session far.session one two refl refl up
  fail_over_so x (Some near) None one two up = p.rests x
  fail_over_so x None o' one two up = p.rests x

  switching_so : (x : PairEnds) (near far : LinkEnd) (a b : Option SessionEnd) → x.near ≡ Some near → x.far ≡ Some far → near.session ≡ a → far.session ≡ b → is_up_at x.near ≡ true → is_up_at x.far ≡ true → R x (switching x near far a b)
  switching_so x near far (Some s) (Some old) one two first second here up = p.takes_over x near far s old one two first second here up
  switching_so x near far (Some s) None one two first second here up = p.rests x
  switching_so x near far None b one two first second here up = p.rests x

  switch_so : (x : PairEnds) (o o' : Option LinkEnd) → x.near ≡ o → x.far ≡ o' → is_up_at x.near ≡ true → is_up_at x.far ≡ true → R x (switch_from x o o')
  switch_so x (Some near) (Some far) one two here up = switching_so x near far near.session far.session one two refl refl here up
  switch_so x (Some near) None one two here up = p.rests x
  switch_so x None o' one two here up = p.rests x

  -- what follows a change of the near link, which is up where it went up
  pub goes : (change : Change) (x : PairEnds) → (change ≡ Up → is_up_at x.near ≡ true) → R x (gone change x)
  goes Up x here = tested (R x) (is_up_at x.far) _ (contact_begins x)
      (λ up. tested (R x) (x.bearer == 0) (switch x) (nothing x) (λ first. switch_so x x.near x.far refl refl (here refl) up) (λ second. p.rests x)) (λ down. p.begins x (here refl) down)
  goes (Down cause) x here = tested (R x) (is_up_at x.far) (fail_over x) (contact_ends x (x.contact, x.seen) 0) (λ up. fail_over_so x x.near x.far refl refl up) (λ down. p.ends x (x.contact, x.seen) 0)
  goes Stay x here = p.rests x
  goes (Answer reply) x here = p.rests x
  goes (Ignore reason) x here = p.rests x

  -- the peer shows a higher contact number
  rises_so : (x : PairEnds) (number : ℕ) → A x (counting number) → R x (risen x number)
  rises_so x number may = tested (R x) (in_contact x) (contact_ends (record x { seen = number }) (x.contact, x.seen) number) (nothing (forgotten x number))
      (λ there. subst (R x) (behind_nothing (record x { seen = number }) (λ y. contact_ends y (x.contact, x.seen) number))
      (p.goes_on x (nothing (record x { seen = number })) (λ y. contact_ends y (x.contact, x.seen) number) (p.counts x number may) (p.ends (record x { seen = number }) (x.contact, x.seen) number)))
      (λ none. p.forgets x number may)

  does : (x : PairEnds) (a : Act) (c : Course) → A x a → Acts x a c → R x c
  does _ _ _ may (made x) = p.makes x may
  does _ _ _ may (mended x e near) = p.mends x e near
  does _ _ _ may (moved x a e o e' states numbered epoch near step) =
      let first = telling_of (told_by x e' o.change epoch) (near_course x e' states numbered) in
      subst (R x) (told_first x e' states numbered o.change epoch) (p.goes_on x first (gone o.change) (p.steps x a e o e' states numbered epoch near may step) (goes o.change first.pair (λ up. (let m = step_moves x a e o e' states numbered epoch step in ap (λ (f : Fsm). is_up f.state) m.fsm ∙ moves_up e.fsm m.shown o m.moves up))))
  does _ _ _ may (raised x number) = rises_so x number may
  does _ _ _ may (let_go_of x e near clear) = p.lets_go x e near may clear
  does _ _ _ may (counted x e t by near) = p.carries x e t by near may
  does _ _ _ may (opened x packets given last brings) = p.opens x packets given last may brings
  does _ _ _ may (put x e s pieces s' near has is) = p.puts x e s pieces s' near may has is
  does _ _ _ may (answered x e taken asks shown near) = p.answers x e taken asks shown near may

  -- so it is with each act, and so with a run of them
  pub walks_by_parts : (x : PairEnds) (c : Course) → Ran A x c → R x c
  walks_by_parts x c run = walks A R (record { rests = p.rests; goes_on = p.goes_on; turns = p.turns; acts = does }) x c run
