-- The packets of a pair by any count of send windows: what happens there adds none, where nothing is told of links and contact, and messages add those
-- in which they are put.
use Rattle.std.specs.Prelude.{if◌then◌else◌, ◌==◌, ◌-◌, min}
use Rattle.std.proofs.Common.{◌≡◌, ◌≤◌, ◌∙◌, ◌+◌, ℕ, Bool, true, false, List, [], ◌∷◌, ◌++◌, Option, Some, None, length, drop, take, option_map, refl, sym, ap, subst, arith, length-append, length-drop}
use Rattle.std.proofs.lemmas.List.{length-take}
use Rattle.tipc_types.specs.LinkStates.{is_up}
use Rattle.tipc_types.specs.Limits.{window_size}
use Rattle.tipc_types.specs.declared.link_words.Reply.TheVariants as reply
use Rattle.tipc_types.specs.declared.link_words.BroadcastState.{BroadcastState}
use Rattle.tipc_outside.specs.declared.outgoing.Outgoing.{Outgoing}
use Rattle.tipc_link_fsm.specs.declared.changes.Change.{Change}
use Rattle.tipc_link_fsm.specs.declared.changes.Change.TheVariants.{Answer, Down, Ignore, Stay, Up}
use Rattle.tipc_link_fsm.specs.Table.{Fsm, Outcome, forget_peer, release}
use Rattle.tipc_link_fsm.proofs.Moves.{Moves, falls, forget_peer_moves, is_going_up, release_moves, rises, stays as still}
use Rattle.tipc_types.specs.declared.packet_lists.Kept.{Kept}
use Rattle.tipc_bundle.specs.Bundles.{joined}
use Rattle.tipc_send_window.specs.Sending.{Sending, release_count, released, advanced, room}
use Rattle.tipc_header.specs.Spelling.{Fields}
use Rattle.tipc_tunnel.specs.Tunnels.{Tunnelled}
use Rattle.tipc_link.specs.Links.{LinkEnd, after, answered_with, followed, heard_end, is_heard, mended_end, named_end, tunnelled_end, with_fsm, with_session}
use Rattle.tipc_link.specs.Sessions.{Carries, Content, IsPut, Nothing, SessionEnd, Shows, after_acknowledgement, answered as answered_now, arrived, content_of, flushed, heard, joins, repeated, spoke, waits, with_broadcast}
use Rattle.tipc_pair.specs.Changeovers.{contact_ends, following, forgetting, forgotten, let_go, risen}
use Rattle.tipc_pair.specs.Courses.{Course, going_on, rests as nothing}
use Rattle.tipc_pair.specs.Facing.{PairEnds, facing, in_contact, turned, with_near}
use Rattle.tipc_pair.specs.PairArrivals.{hears as heard_by, inner_taken, inside_of}
use Rattle.tipc_pair.specs.PairCalls.{answered_at, at_bearer, answered_near, ticked}
use Rattle.tipc_pair.specs.PairTurns.{Happened, Outset, PutsOne, made_near, quietly}
use Rattle.tipc_pair.specs.PairTurns.Opening.{hears, makes}
use Rattle.tipc_pair.proofs.Facings.{facing_one}
use Rattle.tipc_pair.proofs.acts.Acts.{Act, Acts, Ran, Steps, near_course}
use Rattle.tipc_pair.proofs.acts.Acts.Act.{puts as putting}
use Rattle.tipc_pair.proofs.acts.Acts.Acts.{answered, counted, let_go_of, made, mended, moved, opened, put as put_one, raised}
use Rattle.tipc_pair.proofs.acts.Acts.Steps.{cut, meet, name, reset, tick}
use Rattle.tipc_pair.proofs.acts.Acting.{MayArrive, happened_ran, hears_may, opens_may, ticked_ran}
use Rattle.tipc_pair.proofs.acts.Walks.{Walk, step_moves, tested, walks}
use Rattle.tipc_settling.specs.Loads.{end_sum, pair_sum, put_into, session_sum, under_way}

-- ---- counts of send windows

-- A count of a send window that neither a release nor moving up makes more, and putting by no more than what is put.
pub record CountsPackets (size : Sending → ℕ) : Type 0 where
  pub releases : (s : Sending) (n : ℕ) → size (released s n) ≤ size s
  pub moves : (n : ℕ) (s : Sending) → n ≤ length s.waiting → size (advanced n s) ≤ size s
  pub puts : (s t : SessionEnd) (pieces : List (List ℕ)) → IsPut s pieces t → size t.sending ≤ size s.sending + length pieces

-- no more move up than wait
pub room_within : (s : Sending) → room s ≤ length s.waiting
room_within s = min_within (window_size - length s.unacked) (length s.waiting)
  where
    min_within : (a b : ℕ) → min a b ≤ b
    min_within a b = omega arith

-- packets are put where others wait
put_waits : (s t : SessionEnd) (pieces : List (List ℕ)) → IsPut s pieces t → length t.sending.waiting ≤ length s.sending.waiting + length pieces
put_waits s t pieces (joins packets packet may) =
    let waits_one = may.waits in
    let front = length-take (length s.sending.waiting - 1) s.sending.waiting in
    let all = length-append (take (length s.sending.waiting - 1) s.sending.waiting) (joined (packets ++ packet ∷ []) ∷ []) in
    omega (arith, waits_one, front, all)
put_waits s t pieces (waits others alone) = (let all = length-append s.sending.waiting pieces in omega (arith, all))

-- nothing else of the window is changed
put_numbers : (s t : SessionEnd) (pieces : List (List ℕ)) → IsPut s pieces t → (t.sending.numbered ≡ s.sending.numbered) × (t.sending.unacked ≡ s.sending.unacked)
put_numbers s t pieces (joins packets packet may) = (refl, refl)
put_numbers s t pieces (waits others alone) = (refl, refl)

-- so are the packets under way
pub under_way_counts : CountsPackets under_way
under_way_counts = record {
  releases = λ s n. (let fewer = length-drop n s.unacked in omega (arith, fewer));
  moves = λ n s within. (
      let all = length-append s.unacked (take n s.waiting) in
      let taken = length-take n s.waiting in
      let left = length-drop n s.waiting in
      omega (arith, all, taken, left));
  puts = λ s t pieces is. (
      let waiting = put_waits s t pieces is in
      let unacked = ap length (put_numbers s t pieces is).1 in
      omega (arith, waiting, unacked));
}

-- and those that were ever put
take_all : (n : ℕ) (xs : List (List ℕ)) → n ≤ length xs → length (take n xs) ≡ n
take_all n xs within = (let taken = length-take n xs in omega (arith, within, taken))

drop_all : (n : ℕ) (xs : List (List ℕ)) → n ≤ length xs → n + length (drop n xs) ≡ length xs
drop_all n xs within = (let left = length-drop n xs in omega (arith, within, left))

released_put : (numbered unacked left waiting : ℕ) → left ≤ unacked → numbered - left + (left + waiting) ≤ numbered - unacked + (unacked + waiting)
released_put numbered unacked left waiting fewer = omega (arith, fewer)

moved_put : (numbered unacked n waiting more left : ℕ) → more ≡ unacked + n → n + left ≡ waiting → numbered + n - more + (more + left) ≤ numbered - unacked + (unacked + waiting)
moved_put numbered unacked n waiting more left all rest = omega (arith, all, rest)

more_put : (numbered unacked waiting later pieces : ℕ) → later ≤ waiting + pieces → numbered - unacked + (unacked + later) ≤ numbered - unacked + (unacked + waiting) + pieces
more_put numbered unacked waiting later pieces most = omega (arith, most)

put_more : (s t : SessionEnd) (pieces : List (List ℕ)) → IsPut s pieces t → put_into t.sending ≤ put_into s.sending + length pieces
put_more s t pieces is =
    let most = more_put s.sending.numbered (length s.sending.unacked) (length s.sending.waiting) (length t.sending.waiting) (length pieces) (put_waits s t pieces is) in
    let same = put_numbers s t pieces is in
    subst (λ (k : ℕ). k - length t.sending.unacked + (length t.sending.unacked + length t.sending.waiting) ≤ put_into s.sending + length pieces) (sym same.0)
    (subst (λ (xs : List (List ℕ)). s.sending.numbered - length xs + (length xs + length t.sending.waiting) ≤ put_into s.sending + length pieces) (sym same.1) most)

pub put_into_counts : CountsPackets put_into
put_into_counts = record {
  releases = λ s n. released_put s.numbered (length s.unacked) (length (drop n s.unacked)) (length s.waiting) (let fewer = length-drop n s.unacked in omega (arith, fewer));
  moves = λ n s within. (
      let all : length (s.unacked ++ take n s.waiting) ≡ length s.unacked + n = length-append s.unacked (take n s.waiting) ∙ ap (λ k. length s.unacked + k) (take_all n s.waiting within) in
      moved_put s.numbered (length s.unacked) n (length s.waiting) (length (s.unacked ++ take n s.waiting)) (length (drop n s.waiting)) all (drop_all n s.waiting within));
  puts = put_more;
}

-- ---- sessions

spoke_sending : {A : Type 0} (e : SessionEnd) (xs : List A) → (spoke e xs).sending ≡ e.sending
spoke_sending e [] = refl
spoke_sending e (x ∷ xs) = refl

-- ---- link ends

-- a move of the link states by which the link doesn't go up
pub moved_down : (f : Fsm) (shown : Option (ℕ × ℕ)) (o : Outcome) → Moves f shown o → is_going_up o.change ≡ false → is_up o.after.state ≡ true → is_up f.state ≡ true
moved_down f shown o (still own up quiet) none now = sym up ∙ now
moved_down f shown o (rises es own was up last told peer rising) none now = absurd (let wrong : true ≡ false = sym rising ∙ none in cc)
moved_down f shown o (falls own down quiet) none now = absurd (let wrong : false ≡ true = sym down ∙ now in cc)

-- ---- acts

-- an act by which no packets are put
abbrev pub PutsNone : PairEnds → Act → Type 0
PutsNone x (putting pieces) = ⊥
PutsNone x other = Unit {0}

pub none_in_front : {A : Type 0} (xs ys : List A) → xs ++ ys ≡ [] → xs ≡ []
none_in_front [] ys none = refl
none_in_front (x ∷ xs) ys none = absurd cc

pub none_behind : {A : Type 0} (xs ys : List A) → xs ++ ys ≡ [] → ys ≡ []
none_behind [] ys none = none
none_behind (x ∷ xs) ys none = absurd cc

pub one_told : {A : Type 0} (xs : List A) (y : A) → xs ++ y ∷ [] ≡ [] → ⊥
one_told [] y none = cc
one_told (x ∷ xs) y none = cc

-- the peer shows a higher contact number
pub forget_stays : (f : Fsm) → is_up (forget_peer f).after.state ≡ true → is_up f.state ≡ true
forget_stays f up = stays_by (forget_peer_moves f None)
  where
    stays_by : Moves f None (forget_peer f) → is_up f.state ≡ true
    stays_by (still own same quiet) = sym same ∙ up
    stays_by (rises es own was now last told peer rising) = absurd (let wrong : None ≡ Some (es, f.own) = told in cc)
    stays_by (falls own down quiet) = absurd (let wrong : false ≡ true = sym down ∙ up in cc)

-- an end that is released
pub release_stays : (f : Fsm) → is_up (release f).after.state ≡ true → is_up f.state ≡ true
release_stays f up = stays_by (release_moves f None)
  where
    stays_by : Moves f None (release f) → is_up f.state ≡ true
    stays_by (still own same quiet) = sym same ∙ up
    stays_by (rises es own was now last told peer rising) = absurd (let wrong : None ≡ Some (es, f.own) = told in cc)
    stays_by (falls own down quiet) = absurd (let wrong : false ≡ true = sym down ∙ up in cc)

-- ---- an opening

-- whatever arrives, and when time passes, nothing is put
pub hears_none : (x : PairEnds) (es er : ℕ) (p : Fields) (by : ℕ) (shown : BroadcastState) → MayArrive PutsNone x es er p by shown
hears_none x es er p by shown = record {
  hears = hears_may PutsNone p.header es er p by shown x (λ number. tt) (λ y. tt) (λ y. tt);
  opens = opens_may PutsNone (heard_by p.header es er p by shown x).course.pair (heard_by p.header es er p by shown x).outcome (λ y epoch. tt) (λ y t number. tt) (λ y packets given. tt);
}

-- ---- with any count of send windows

module _ (size : Sending → ℕ) (counts : CountsPackets size) where
  -- ---- sessions

  -- a session becomes another one with no more of them
  abbrev Fewer : SessionEnd → SessionEnd → Type 0
  Fewer s t = size t.sending ≤ size s.sending

  heard_fewer : (s : SessionEnd) (by acknowledgement : ℕ) (c : Content) → Fewer s (heard s by acknowledgement c)
  heard_fewer s by acknowledgement (Shows next gap probe) =
      let a = after_acknowledgement s acknowledgement in
      subst (λ sending. size sending ≤ size s.sending) (sym (spoke_sending {A = Kept} a (repeated a acknowledgement gap))) (counts.releases s.sending (release_count s.sending acknowledgement))
  heard_fewer s by acknowledgement (Carries number packet) = counts.releases s.sending (release_count s.sending acknowledgement)
  heard_fewer s by acknowledgement Nothing = omega arith

  flushed_fewer : (s : SessionEnd) → Fewer s (flushed s)
  unfolding flushed
  flushed_fewer s = counts.moves (room s.sending) s.sending (room_within s.sending)

  then_fewer : (s t u : SessionEnd) → Fewer s t → Fewer t u → Fewer s u
  then_fewer s t u one two = omega (arith, one, two)

  arrived_fewer : (s : SessionEnd) (by acknowledgement : ℕ) (c : Content) → Fewer s (arrived s by acknowledgement c)
  arrived_fewer s by acknowledgement (Shows next gap probe) =
      let t = heard s by acknowledgement (Shows next gap probe) in then_fewer s t (flushed t) (heard_fewer s by acknowledgement (Shows next gap probe)) (flushed_fewer t)
  arrived_fewer s by acknowledgement (Carries number packet) =
      let t = heard s by acknowledgement (Carries number packet) in then_fewer s t (flushed t) (heard_fewer s by acknowledgement (Carries number packet)) (flushed_fewer t)
  arrived_fewer s by acknowledgement Nothing = omega arith

  mapped_fewer : (f : SessionEnd → SessionEnd) (o : Option SessionEnd) → ((s : SessionEnd) → Fewer s (f s)) → session_sum size (option_map f o) ≤ session_sum size o
  mapped_fewer f None each = omega arith
  mapped_fewer f (Some s) each = each s

  -- ---- link ends

  -- those of an end whose link is up or isn't
  abbrev counted_where : Bool → Option SessionEnd → ℕ
  counted_where up session = if up then session_sum size session else 0

  where_fewer : (before now : Bool) (session after : Option SessionEnd) → (now ≡ true → before ≡ true) → session_sum size after ≤ session_sum size session → counted_where now after ≤ counted_where before session
  where_fewer before false session after up fewer = omega arith
  where_fewer true true session after up fewer = fewer
  where_fewer false true session after up fewer = absurd (let wrong : false ≡ true = up refl in cc)

  -- an end whose link didn't go up, with no more packets in its session
  end_fewer : (e e' : LinkEnd) → (is_up e'.fsm.state ≡ true → is_up e.fsm.state ≡ true) → session_sum size e'.session ≤ session_sum size e.session → end_sum size (Some e') ≤ end_sum size (Some e)
  end_fewer e e' up fewer = where_fewer (is_up e.fsm.state) (is_up e'.fsm.state) e.session e'.session up fewer

  same_states : (e e' : LinkEnd) → e'.fsm ≡ e.fsm → session_sum size e'.session ≤ session_sum size e.session → end_sum size (Some e') ≤ end_sum size (Some e)
  same_states e e' same fewer = end_fewer e e' (λ up. ap (λ (f : Fsm). is_up f.state) (sym same) ∙ up) fewer

  followed_fewer : (e : LinkEnd) (change : Change) → is_going_up change ≡ false → session_sum size (followed e change).session ≤ session_sum size e.session
  followed_fewer e Up none = absurd (let wrong : true ≡ false = none in cc)
  followed_fewer e Stay none = omega arith
  followed_fewer e (Down cause) none = omega arith
  followed_fewer e (Ignore reason) none = omega arith
  followed_fewer e (Answer (reply.State probe)) none = mapped_fewer _ e.session (λ s. omega arith)
  followed_fewer e (Answer reply.Reset) none = omega arith
  followed_fewer e (Answer reply.Activate) none = omega arith

  after_fewer : (e : LinkEnd) (o : Outcome) → is_going_up o.change ≡ false → session_sum size (after e o).session ≤ session_sum size e.session
  after_fewer e o none = followed_fewer (with_fsm e o.after) o.change none

  heard_end_fewer : (e : LinkEnd) (by acknowledgement : ℕ) (c : Content) → session_sum size (heard_end e by acknowledgement c).session ≤ session_sum size e.session
  heard_end_fewer e by acknowledgement c = mapped_fewer _ e.session (λ s. arrived_fewer s by acknowledgement c)

  -- the step of an end by which its link doesn't go up
  step_fewer : (x : PairEnds) (a : Act) (e : LinkEnd) (o : Outcome) (e' : LinkEnd) (states numbered : List Outgoing) (epoch : ℕ) → is_going_up o.change ≡ false → Steps x e a o e' states numbered epoch
      → session_sum size e'.session ≤ session_sum size e.session
  step_fewer x _ e _ _ _ _ _ none cut = omega arith
  step_fewer x _ e _ _ _ _ _ none (tick shown) = after_fewer e _ none
  step_fewer x _ e _ _ _ _ _ none (reset es held shown) = after_fewer e _ none
  step_fewer x _ e o _ _ _ _ none (meet es er p by shown) =
      let first = after_fewer e o none in
      let more = heard_end_fewer (after e o) by p.acknowledgement (content_of p) in
      tested (λ (f : LinkEnd). session_sum size f.session ≤ session_sum size e.session) (is_heard p.header o.change) (heard_end (after e o) by p.acknowledgement (content_of p)) (after e o)
      (λ _. omega (arith, first, more)) (λ _. first)
  step_fewer x _ e _ _ _ _ _ none (name epoch) = omega arith

  stepped_fewer : (x : PairEnds) (a : Act) (e : LinkEnd) (o : Outcome) (e' : LinkEnd) (states numbered : List Outgoing) (epoch : ℕ) → is_going_up o.change ≡ false → Steps x e a o e' states numbered epoch
      → end_sum size (Some e') ≤ end_sum size (Some e)
  stepped_fewer x a e o e' states numbered epoch none step =
      let m = step_moves x a e o e' states numbered epoch step in
      end_fewer e e' (λ up. moved_down e.fsm m.shown o m.moves none (ap (λ (f : Fsm). is_up f.state) (sym m.fsm) ∙ up)) (step_fewer x a e o e' states numbered epoch none step)

  -- ---- acts

  -- a course that tells nothing of links and contact adds none
  abbrev AddsNone : PairEnds → Course → Type 0
  AddsNone x c = c.changes ≡ [] → pair_sum size c.pair ≤ pair_sum size x

  -- by another near end
  near_adds : (x : PairEnds) (e e' : LinkEnd) → x.near ≡ Some e → end_sum size (Some e') ≤ end_sum size (Some e) → pair_sum size (with_near x e') ≤ pair_sum size x
  near_adds x e e' near fewer = (let same = ap (end_sum size) near in omega (arith, same, fewer))

  -- a step of the near end, and what follows
  moved_adds : (x : PairEnds) (a : Act) (e : LinkEnd) (o : Outcome) (e' : LinkEnd) (states numbered : List Outgoing) (epoch : ℕ) → x.near ≡ Some e → Steps x e a o e' states numbered epoch
      → (change : Change) → o.change ≡ change → AddsNone x (going_on (near_course x e' states numbered) (λ y. following y change epoch))
  unfolding going_on
  moved_adds x a e o e' states numbered epoch near step Up is none = absurd cc
  moved_adds x a e o e' states numbered epoch near step (Down cause) is none = absurd cc
  moved_adds x a e o e' states numbered epoch near step Stay is none = near_adds x e e' near (stepped_fewer x a e o e' states numbered epoch (ap is_going_up is) step)
  moved_adds x a e o e' states numbered epoch near step (Answer back) is none = near_adds x e e' near (stepped_fewer x a e o e' states numbered epoch (ap is_going_up is) step)
  moved_adds x a e o e' states numbered epoch near step (Ignore reason) is none = near_adds x e e' near (stepped_fewer x a e o e' states numbered epoch (ap is_going_up is) step)

  forgets_fewer : (seen : ℕ) (o : Option LinkEnd) → end_sum size (option_map (forgetting seen) o) ≤ end_sum size o
  forgets_fewer seen None = omega arith
  forgets_fewer seen (Some e) = end_fewer e (forgetting seen e) (λ up. forget_stays e.fsm up) (omega arith)

  rises_none : (x : PairEnds) (number : ℕ) → AddsNone x (risen x number)
  rises_none x number =
      tested (AddsNone x) (in_contact x) (contact_ends (record x { seen = number }) (x.contact, x.seen) number) (nothing (forgotten x number))
      (λ _ none. absurd (one_told _ _ none))
      (λ _ none. (let near = forgets_fewer number x.near in let far = forgets_fewer number x.far in omega (arith, near, far)))

  -- an end that answers
  answer_fewer : (e : LinkEnd) (taken : ℕ) (asks : Bool) → end_sum size (Some (answered_with e taken asks)) ≤ end_sum size (Some e)
  answer_fewer e taken asks = tested (λ (f : LinkEnd). end_sum size (Some f) ≤ end_sum size (Some e)) (is_up e.fsm.state) (record e { session = option_map (λ s. answered_now (with_broadcast s taken asks)) e.session }) e
      (λ _. same_states e (record e { session = option_map (λ s. answered_now (with_broadcast s taken asks)) e.session }) refl (mapped_fewer (λ s. answered_now (with_broadcast s taken asks)) e.session (λ s. omega arith)))
      (λ _. omega arith)

  -- what a tunnel packet carries for an end is counted in its record alone
  inner_fewer : (t : Tunnelled) (by : ℕ) (e : LinkEnd) → end_sum size (Some (inner_taken t by e)) ≤ end_sum size (Some e)
  inner_fewer t by e = tested (λ (f : LinkEnd). end_sum size (Some f) ≤ end_sum size (Some e)) (t.count == 0) (named_end e t.old.epoch) (tunnelled_end e t.old.epoch (inside_of t by))
      (λ _. same_states e (named_end e t.old.epoch) refl (mapped_fewer _ e.session (λ s. omega arith)))
      (λ _. same_states e (tunnelled_end e t.old.epoch (inside_of t by)) refl (mapped_fewer _ e.session (λ s. omega arith)))

  act_adds : (x : PairEnds) (a : Act) (c : Course) → PutsNone x a → Acts x a c → AddsNone x c
  act_adds _ _ _ may (made x) none = omega arith
  act_adds _ _ _ may (mended x e near) none = near_adds x e (mended_end e) near (omega arith)
  act_adds _ _ _ may (moved x a e o e' states numbered epoch near step) none = moved_adds x a e o e' states numbered epoch near step o.change refl none
  act_adds _ _ _ may (raised x number) none = rises_none x number none
  act_adds _ _ _ may (let_go_of x e near clear) none = near_adds x e (let_go e) near (end_fewer e (let_go e) (release_stays e.fsm) (omega arith))
  act_adds _ _ _ may (counted x e t by near) none = near_adds x e (inner_taken t by e) near (inner_fewer t by e)
  act_adds _ _ _ may (opened x packets given last brings) none = omega arith
  act_adds _ _ _ may (put_one x e s pieces s' near has is) none = absurd may
  act_adds _ _ _ may (answered x e taken asks shown near) none = near_adds x e (answered_with e taken asks) near (answer_fewer e taken asks)

  calm_walk : Walk PutsNone AddsNone
  unfolding going_on
  calm_walk = record {
    rests = λ x none. omega arith;
    goes_on = λ x first step one two none.
        (let there = one (none_in_front first.changes (step first.pair).changes none) in
        let more = two (none_behind first.changes (step first.pair).changes none) in
        omega (arith, there, more));
    turns = λ x c h none. (let there = h none in omega (arith, there));
    acts = act_adds;
  }

  -- what happens first at a pair, where nothing is told of links and contact
  pub ran_adds : (x : PairEnds) (c : Course) → Ran PutsNone x c → c.changes ≡ [] → pair_sum size c.pair ≤ pair_sum size x
  ran_adds x c run none = walks PutsNone AddsNone calm_walk x c run none

  -- ---- a pair that is seen from either link

  pub facing_sums : (bearer : ℕ) (x : PairEnds) → pair_sum size (facing bearer x) ≡ pair_sum size x
  unfolding facing
  facing_sums bearer x = elim (x.bearer == bearer) as (λ b. pair_sum size (if b then x else turned x) ≡ pair_sum size x) [ true ↦ refl | false ↦ omega arith ]

  -- by both bearers a pair has the packets that it has
  pub bearer_sums : (x : PairEnds) → x.bearer ≤ 1 → end_sum size (facing 0 x).near + end_sum size (facing 1 x).near ≡ pair_sum size x
  bearer_sums x two =
      let second = ap (end_sum size) (facing_one x two) in
      let whole = facing_sums 0 x in
      omega (arith, second, whole)

  -- ---- an opening

  pub heard_adds : (x : PairEnds) (bearer es er : ℕ) (p : Fields) (by : ℕ) (shown : BroadcastState) (o : Outset) → x.bearer ≤ 1 → Happened x (hears bearer es er p by shown) o → o.course.changes ≡ []
      → pair_sum size o.course.pair ≤ pair_sum size x
  heard_adds x bearer es er p by shown o two h none =
      ran_adds x o.course (happened_ran PutsNone (λ y. tt) x (hears bearer es er p by shown) o two (hears_none (facing bearer x) es er p by shown) h) none

  -- a link end is made
  pub made_adds : (x : PairEnds) (bearer : ℕ) → x.bearer ≤ 1 → pair_sum size (at_bearer bearer x (made_near true)).pair ≤ pair_sum size x
  unfolding going_on
  made_adds x bearer two =
      let c = at_bearer bearer x (made_near true) in
      ran_adds x c (happened_ran PutsNone (λ y. tt) x (makes bearer true) (quietly c) two (tt, tt) refl) refl

  pub ticked_adds : (x : PairEnds) (shown : BroadcastState) → x.bearer ≤ 1 → (ticked shown x).changes ≡ [] → pair_sum size (ticked shown x).pair ≤ pair_sum size x
  ticked_adds x shown two none = ran_adds x (ticked shown x) (ticked_ran PutsNone (λ y. tt) shown x two (λ y. tt)) none

  -- ---- messages, and the answer

  put_end_more : (e : LinkEnd) (s t : SessionEnd) (pieces : List (List ℕ)) → e.session ≡ Some s → IsPut s pieces t → end_sum size (Some (with_session e (flushed t))) ≤ end_sum size (Some e) + length pieces
  put_end_more e s t pieces is puts =
      let more = counts.puts s t pieces puts in
      let moved = flushed_fewer t in
      let same = ap (session_sum size) is in
      elim (is_up e.fsm.state) as (λ up. counted_where up (Some (flushed t)) ≤ counted_where up e.session + length pieces) [
        | true ↦ omega (arith, more, moved, same)
        | false ↦ omega arith
      ]

  near_more : (x : PairEnds) (e e' : LinkEnd) (more : ℕ) → x.near ≡ Some e → end_sum size (Some e') ≤ end_sum size (Some e) + more → pair_sum size (with_near x e') ≤ pair_sum size x + more
  near_more x e e' more near most = (let same = ap (end_sum size) near in omega (arith, same, most))

  pub puts_more : (x x' : PairEnds) (pieces : List (List ℕ)) (frames : List Outgoing) → PutsOne x pieces x' frames → pair_sum size x' ≤ pair_sum size x + length pieces
  puts_more x x' pieces frames h =
      let p = h.puts in
      let y = facing h.bearer x in
      let there = ap (pair_sum size) p.after in
      let most = near_more y p.end (with_session p.end (flushed p.put)) (length pieces) p.end_is (put_end_more p.end p.session p.put pieces p.session_is p.is_put) in
      let here = facing_sums h.bearer x in
      let back = facing_sums x.bearer h.near in
      let after_all = ap (pair_sum size) h.after in
      omega (arith, there, most, here, back, after_all)

  answered_none : (x : PairEnds) (o : Option LinkEnd) (taken : ℕ) (asks : Bool) (shown : BroadcastState) → x.near ≡ o → pair_sum size (answered_at x o taken asks shown).pair ≤ pair_sum size x
  answered_none x None taken asks shown near = omega arith
  answered_none x (Some e) taken asks shown near = near_adds x e (answered_with e taken asks) near (answer_fewer e taken asks)

  pub answer_adds : (bearer taken : ℕ) (asks : Bool) (shown : BroadcastState) (x : PairEnds) → pair_sum size (at_bearer bearer x (answered_near taken asks shown)).pair ≤ pair_sum size x
  answer_adds bearer taken asks shown x =
      let y = facing bearer x in
      let none = answered_none y y.near taken asks shown refl in
      let here = facing_sums bearer x in
      let back = facing_sums x.bearer (answered_near taken asks shown y).pair in
      omega (arith, none, here, back)
