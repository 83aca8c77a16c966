-- While frames arrive that were sent before, a link acknowledges no more than what was numbered before.
use Rattle.std.specs.Prelude.{IfSome, ◌==◌, ◌&&◌, ◌||◌, ◌-◌, if◌then◌else◌, nat_lt, not}
use Rattle.std.proofs.Common.{◌≡◌, ◌≤◌, ◌+◌, ◌⊎◌, ◌∙◌, ℕ, Bool, true, false, List, [], ◌∷◌, Option, Some, None, inl, inr, length, length-append, length-drop, option_map, refl, sym, ap, subst, take, arith}
use Rattle.std.proofs.lemmas.Bool.{and_parts, cases_lt, true≢false}
use Rattle.std.proofs.lemmas.Bool.Decides.{nat_tests}
use Rattle.std.proofs.lemmas.List.{length-take}
use Rattle.tipc_types.specs.LinkStates.{is_up}
use Rattle.tipc_types.specs.Position.{number_of}
use Rattle.tipc_types.proofs.PositionLaws.{distance_of-ahead, distance_of-behind}
use Rattle.tipc_types.specs.declared.link_words.BroadcastState.{BroadcastState}
use Rattle.tipc_types.specs.declared.link_words.Reply.TheVariants as reply
use Rattle.tipc_outside.specs.declared.outgoing.Outgoing.{Outgoing}
use Rattle.tipc_header.specs.declared.packet.Header.{Header}
use Rattle.tipc_header.specs.declared.packet.Header.TheVariants as header
use Rattle.tipc_header.specs.Spelling.{Fields}
use Rattle.tipc_link_fsm.specs.declared.changes.Change.{Change}
use Rattle.tipc_link_fsm.specs.declared.changes.Change.TheVariants.{Answer, Down, Ignore, Stay, Up}
use Rattle.tipc_types.specs.declared.link_words.LinkState.{LinkState}
use Rattle.tipc_types.specs.declared.link_words.LinkState.TheVariants.{Held, ResetReset, ResetUnknown, WorkingUnknown, WorkingWorking}
use Rattle.tipc_link_fsm.specs.Table.{Fsm, Outcome, forget_peer, is_held, is_in_reset, is_last, is_peer, is_reset_reset, is_session, lowered, on_activate, on_cut, on_peer_tunnel, on_reset, on_tick, on_traffic, release, tick_in}
use Rattle.tipc_link_fsm.proofs.Moves.{Moves, cases_on, forget_peer_moves, is_going_up, on_cut_moves, on_peer_tunnel_moves, on_reset_moves, on_tick_moves, release_moves}
use Rattle.tipc_link.specs.Links.{LinkEnd, after, cut_end, followed, handed_over, heard_end, is_down, is_heard, is_taken, is_traffic, mended_end, named_end, record_of, recorded, outcome_of, session_of, tunnelled_down, tunnelled_end, with_fsm, with_session, without_waiting}
use Rattle.tipc_link.specs.Records.{Received, named, tunnelled}
use Rattle.tipc_link.specs.Sessions.{Carries, Content, IsPut, Nothing, SessionEnd, Shows, after_acknowledgement, after_state, answered as said, arrived, content_of, flushed, heard, put as putting, repeated, spoke, waiting_given, with_broadcast, with_record}
use Rattle.tipc_send_window.specs.Sending.{room, Sending, acked_of, acknowledged, release_count, released as let_out}
use Rattle.tipc_link.specs.Sessions.IsPut.{joins, waits}
use Rattle.tipc_link.proofs.Ends.{ended-is}
use Rattle.tipc_pair.specs.Changeovers.{contact_begins, contact_ends, fail_over, fail_over_to, failing, following, forgetting, forgotten, let_go, loaded, parted, parted_end, switch, switch_from, switching}
use Rattle.tipc_pair.specs.Courses.{Course, going_on, rests as nothing}
use Rattle.tipc_pair.specs.Facing.{PairEnds, facing, in_contact, is_up_at, other, with_near}
use Rattle.tipc_pair.specs.PairArrivals.{inside_of}
use Rattle.tipc_pair.specs.PairTurns.{IsOnOne, Opening}
use Rattle.tipc_pair.specs.PairTurns.Opening.{cuts, hears, makes, mends, rests, ticks}
use Rattle.tipc_pair.specs.Runs.{left_by, taken_over}
use Rattle.tipc_pair.proofs.EndSteps.{fsm_after}
use Rattle.tipc_pair.proofs.acts.Acting.{MayHappen, MayHear, MayTurn, opens_may, turn_course, turn_pair, turn_ran}
use Rattle.tipc_pair.proofs.acts.Acts.{Act, Acts, Steps}
use Rattle.tipc_pair.proofs.acts.Acts.Act.{meets as meeting}
use Rattle.tipc_pair.proofs.acts.Acts.Acts.{answered, counted, let_go_of, made, mended, moved, opened, put, raised}
use Rattle.tipc_pair.proofs.acts.Acts.Steps.{cut, meet, name, reset, tick}
use Rattle.tipc_pair.proofs.acts.Walks.{Walk, outcome_moves, step_moves, tested, walks}
use Rattle.tipc_pair.proofs.turns.EndEpochs.{forget_quiet, release_quiet}
use Rattle.tipc_pair.proofs.turns.PairKept.{Both, both_turned, facing_bearer}
use Rattle.tipc_settling.specs.Freshness.{AcknowledgesTo, FewAreNumbered, IsAckedEnd, IsAckedTo, MayAcknowledge, TurnsAcknowledgeNoMore}
use Rattle.tipc_settling.proofs.Bearers.{back_up}
use Rattle.tipc_settling.proofs.Rows.{shown_quiet}

-- ---- a send window

-- the number of a position that isn't too old releases the packets up to that position
release_of : (w : Sending) (position : ℕ) → length w.unacked ≤ 50 → length w.unacked ≤ w.numbered → position ≤ w.numbered → w.numbered ≤ position + 32000 → release_count w (number_of position) ≡ position - acked_of w
unfolding release_count
release_of w position window below high low =
    elim (cases_lt position (acked_of w)) [
      | inl before ↦
          let far = distance_of-behind (acked_of w) position before (omega arith) in
          grind (arith, nat_tests)
      | inr from ↦
          let near = distance_of-ahead (acked_of w) position from (omega arith) in
          rw near (grind (arith, nat_tests))
    ]

-- a window with no packet releases none
none_left : (most k : ℕ) (w : Sending) → length w.unacked ≡ 0 → IsAckedTo most w → IsAckedTo most (let_out w k)
none_left most k w none h =
    let fewer = length-drop k w.unacked in
    let acked = h.acked in
    record { window = omega (arith, fewer, none); below = omega (arith, fewer, none); acked = omega (arith, fewer, none, acked) }

-- an acknowledgement of a position that is no more
acks_to : (most told : ℕ) (w : Sending) → told ≤ most → told ≤ w.numbered → w.numbered ≤ told + 32000 → IsAckedTo most w → IsAckedTo most (acknowledged w (number_of told))
acks_to most told w no_more high low h =
    let window = h.window in
    let below = h.below in
    let acked = h.acked in
    let count = release_of w told window below high low in
    let fewer = length-drop (release_count w (number_of told)) w.unacked in
    record { window = omega (arith, fewer, window); below = omega (arith, fewer, below); acked = omega (arith, count, fewer, window, below, acked, no_more, high) }

-- packets move up
moves_to : (most : ℕ) (s : SessionEnd) → IsAckedTo most s.sending → IsAckedTo most (flushed s).sending
unfolding flushed
moves_to most s h =
    let n = room s.sending in
    let window = h.window in
    let below = h.below in
    let acked = h.acked in
    let all = length-append s.sending.unacked (take n s.sending.waiting) in
    let few = length-take n s.sending.waiting in
    record { window = omega (arith, all, few, window); below = omega (arith, all, few, below); acked = omega (arith, all, few, below, acked) }

-- the same window but for what waits
same_to : (most : ℕ) (w w' : Sending) → w'.numbered ≡ w.numbered → w'.unacked ≡ w.unacked → IsAckedTo most w → IsAckedTo most w'
same_to most w w' numbered unacked h =
    let window = h.window in
    let below = h.below in
    let acked = h.acked in
    let long : length w'.unacked ≡ length w.unacked = ap (λ (xs : List (List ℕ)). length xs) unacked in
    record { window = omega (arith, long, window); below = omega (arith, long, below, numbered); acked = omega (arith, long, numbered, acked) }

put_to : (most : ℕ) (s : SessionEnd) (pieces : List (List ℕ)) (s' : SessionEnd) → IsPut s pieces s' → IsAckedTo most s.sending → IsAckedTo most s'.sending
put_to most s _ _ (joins packets packet may) h = same_to most s.sending _ refl refl h
put_to most s _ _ (waits pieces apart) h = same_to most s.sending _ refl refl h

-- ---- a session that hears a packet

-- what is acknowledged is no more; a session that has just begun has no packet
abbrev AckNoMore : ℕ → SessionEnd → ℕ → Type 0
AckNoMore most s acknowledgement = (length s.sending.unacked ≡ 0)
    ⊎ ((told : ℕ) × (acknowledgement ≡ number_of told) × (told ≤ most) × (told ≤ s.sending.numbered) × (s.sending.numbered ≤ told + 32000))

after_to : (most : ℕ) (s : SessionEnd) (acknowledgement : ℕ) → AckNoMore most s acknowledgement → IsAckedTo most s.sending → IsAckedTo most (after_acknowledgement s acknowledgement).sending
after_to most s acknowledgement (inl none) h = none_left most (release_count s.sending acknowledgement) s.sending none h
after_to most s acknowledgement (inr t) h = subst (λ n. IsAckedTo most (acknowledged s.sending n)) (sym t.1) (acks_to most t.0 s.sending t.2 t.3 t.4 h)

spoke_sending : {A : Type 0} (s : SessionEnd) (xs : List A) → (spoke s xs).sending ≡ s.sending
spoke_sending s [] = refl
spoke_sending s (x ∷ xs) = refl

heard_to : (most : ℕ) (s : SessionEnd) (by acknowledgement : ℕ) (c : Content) → AckNoMore most s acknowledgement → IsAckedTo most s.sending → IsAckedTo most (heard s by acknowledgement c).sending
heard_to most s by acknowledgement (Shows next gap probe) no_more h =
    let t = after_acknowledgement s acknowledgement in
    subst (IsAckedTo most) (sym (spoke_sending t (repeated t acknowledgement gap))) (after_to most s acknowledgement no_more h)
heard_to most s by acknowledgement (Carries number packet) no_more h = after_to most s acknowledgement no_more h
heard_to most s by acknowledgement Nothing no_more h = h

arrived_to : (most : ℕ) (s : SessionEnd) (by acknowledgement : ℕ) (c : Content) → AckNoMore most s acknowledgement → IsAckedTo most s.sending → IsAckedTo most (arrived s by acknowledgement c).sending
arrived_to most s by acknowledgement (Shows next gap probe) no_more h = moves_to most (heard s by acknowledgement (Shows next gap probe)) (heard_to most s by acknowledgement (Shows next gap probe) no_more h)
arrived_to most s by acknowledgement (Carries number packet) no_more h = moves_to most (heard s by acknowledgement (Carries number packet)) (heard_to most s by acknowledgement (Carries number packet) no_more h)
arrived_to most s by acknowledgement Nothing no_more h = h

-- ---- a link that goes down is down

abbrev Lowers : Outcome → Type 0
Lowers o = is_down o.change ≡ true → is_up o.after.state ≡ false

low_down : (f : Fsm) (held : Bool) → is_up (lowered f held).state ≡ false
low_down f true = refl
low_down f false = refl

not_down : (o : Outcome) → is_down o.change ≡ false → Lowers o
not_down o up down = absurd (true≢false (sym down ∙ up))

cut_lowers : (f : Fsm) (held : Bool) → Lowers (on_cut f held)
unfolding on_cut
cut_lowers f held = cases_on Lowers (is_up f.state) _ _ (λ up down. low_down f held) (λ apart down. absurd (true≢false (sym down)))

reset_lowers : (f : Fsm) (es : ℕ) (held : Bool) → Lowers (on_reset f es held)
unfolding on_reset
reset_lowers f es held =
    cases_on Lowers (is_held f.state) _ _ (λ h down. absurd (true≢false (sym down))) (λ h.
    cases_on Lowers (nat_lt es f.highest || (is_up f.state && is_peer f.peer es)) _ _ (λ h down. absurd (true≢false (sym down))) (λ h.
    cases_on Lowers (is_up f.state) _ _ (λ up down. low_down f held) (λ apart down. absurd (true≢false (sym down)))))

tick_in_lowers : (st : LinkState) (f : Fsm) (held : Bool) → Lowers (tick_in st f held)
tick_in_lowers ResetUnknown f held = not_down (tick_in ResetUnknown f held) refl
tick_in_lowers ResetReset f held = not_down (tick_in ResetReset f held) refl
tick_in_lowers Held f held = not_down (tick_in Held f held) refl
tick_in_lowers WorkingWorking f held = cases_on Lowers (f.silent == 4) _ _ (λ four down. low_down f held) (λ fewer down. absurd (true≢false (sym down)))
tick_in_lowers WorkingUnknown f held = cases_on Lowers (f.silent == 4) _ _ (λ four down. low_down f held) (λ fewer down. absurd (true≢false (sym down)))

tick_lowers : (f : Fsm) (held : Bool) → Lowers (on_tick f held)
unfolding on_tick
tick_lowers f held = tick_in_lowers f.state f held

tunnel_lowers : (f : Fsm) (epoch : ℕ) → Lowers (on_peer_tunnel f epoch)
unfolding on_peer_tunnel
tunnel_lowers f epoch = cases_on Lowers (is_up f.state && is_peer f.peer epoch) _ _ (λ here down. refl) (λ apart down. absurd (true≢false (sym down)))

activate_lowers : (f : Fsm) (es er : ℕ) → Lowers (on_activate f es er)
unfolding on_activate
activate_lowers f es er =
    cases_on Lowers (is_held f.state) _ _ (λ h down. absurd (true≢false (sym down))) (λ h.
    cases_on Lowers ((is_in_reset f.state && not (is_last f.own)) && ((er == f.own) && not (nat_lt es f.highest))) _ _ (λ h down. absurd (true≢false (sym down))) (λ h.
    cases_on Lowers (is_up f.state && is_session f es er) _ _ (λ h down. absurd (true≢false (sym down))) (λ h down. absurd (true≢false (sym down)))))

traffic_lowers : (f : Fsm) (es er : ℕ) → Lowers (on_traffic f es er)
unfolding on_traffic
traffic_lowers f es er =
    cases_on Lowers (is_session f es er && (is_reset_reset f.state && not (is_last f.own))) _ _ (λ h down. absurd (true≢false (sym down))) (λ h.
    cases_on Lowers (is_session f es er && is_up f.state) _ _ (λ h down. absurd (true≢false (sym down))) (λ h down. absurd (true≢false (sym down))))

outcome_lowers : (f : Fsm) (h : Header) (es er : ℕ) (held : Bool) → Lowers (outcome_of f h es er held)
outcome_lowers f (header.Reset said) es er held = reset_lowers f es held
outcome_lowers f (header.Activate said) es er held = activate_lowers f es er
outcome_lowers f (header.Discovery said) es er held = λ down. absurd (true≢false (sym down))
outcome_lowers f other es er held = traffic_lowers f es er

step_lowers : (x : PairEnds) (a : Act) (e : LinkEnd) (o : Outcome) (e' : LinkEnd) (states numbered : List Outgoing) (epoch : ℕ) → Steps x e a o e' states numbered epoch → Lowers o
step_lowers x _ e _ _ _ _ _ cut = cut_lowers e.fsm (is_up_at x.far)
step_lowers x _ e _ _ _ _ _ (tick shown) = tick_lowers e.fsm (is_up_at x.far)
step_lowers x _ e _ _ _ _ _ (reset es held shown) = reset_lowers e.fsm es held
step_lowers x _ e _ _ _ _ _ (name epoch) = tunnel_lowers e.fsm epoch
step_lowers x _ e _ _ _ _ _ (meet es er p by shown) = outcome_lowers e.fsm p.header es er (is_up_at x.far)

-- ---- a link end

module _ (most : ℕ → ℕ) where
  abbrev pub To : ℕ → LinkEnd → Type 0
  To b e = IsAckedEnd (most b) e

  -- another session, where there was one that was so
  mapped_to : (b : ℕ) (e e' : LinkEnd) (g : SessionEnd → SessionEnd) → (is_up e'.fsm.state ≡ true → is_up e.fsm.state ≡ true) → e'.session ≡ option_map g e.session
      → ((s : SessionEnd) → IsAckedTo (most b) s.sending → IsAckedTo (most b) (g s).sending) → To b e → To b e'
  mapped_to b e e' g up is keeps h now s has = by e.session refl (sym is ∙ has)
    where
      by : (o : Option SessionEnd) → e.session ≡ o → option_map g o ≡ Some s → IsAckedTo (most b) s.sending
      by None at same = absurd (let wrong : ⊥ = cc in wrong)
      by (Some t) at same = (let there : g t ≡ s = cc in subst (λ (q : SessionEnd). IsAckedTo (most b) q.sending) there (keeps t (h (up now) t at)))

  -- the same session
  same_session : (b : ℕ) (e e' : LinkEnd) → (is_up e'.fsm.state ≡ true → is_up e.fsm.state ≡ true) → e'.session ≡ e.session → To b e → To b e'
  same_session b e e' up is h now s has = h (up now) s (sym is ∙ has)

  down_to : (b : ℕ) (e : LinkEnd) → is_up e.fsm.state ≡ false → To b e
  down_to b e down up s has = absurd (true≢false (sym up ∙ down))

  -- a session that has just begun
  begun_to : (b : ℕ) (e : LinkEnd) → IsAckedTo (most b) (session_of e).sending
  begun_to b e = record { window = omega arith; below = omega arith; acked = omega arith }

  followed_to : (b : ℕ) (e : LinkEnd) (f : Fsm) (change : Change) → (is_up f.state ≡ true → is_going_up change ≡ false → is_up e.fsm.state ≡ true) → To b e → To b (followed (with_fsm e f) change)
  followed_to b e f Up up h = λ now s has.
      (let same : session_of (with_fsm e f) ≡ s = cc in subst (λ (q : SessionEnd). IsAckedTo (most b) q.sending) same (begun_to b (with_fsm e f)))
  followed_to b e f (Answer (reply.State probe)) up h = mapped_to b e (followed (with_fsm e f) (Answer (reply.State probe))) after_state (λ now. up now refl) refl (λ s k. k) h
  followed_to b e f (Answer reply.Reset) up h = same_session b e (followed (with_fsm e f) (Answer reply.Reset)) (λ now. up now refl) refl h
  followed_to b e f (Answer reply.Activate) up h = same_session b e (followed (with_fsm e f) (Answer reply.Activate)) (λ now. up now refl) refl h
  followed_to b e f Stay up h = same_session b e (followed (with_fsm e f) Stay) (λ now. up now refl) refl h
  followed_to b e f (Down because) up h = same_session b e (followed (with_fsm e f) (Down because)) (λ now. up now refl) refl h
  followed_to b e f (Ignore reason) up h = same_session b e (followed (with_fsm e f) (Ignore reason)) (λ now. up now refl) refl h

  hears_to : (b : ℕ) (e : LinkEnd) (by acknowledgement : ℕ) (c : Content) → ((s : SessionEnd) → e.session ≡ Some s → is_up e.fsm.state ≡ true → AckNoMore (most b) s acknowledgement) → To b e → To b (heard_end e by acknowledgement c)
  hears_to b e by acknowledgement c no_more h up s has = at e.session refl has
    where
      at : (o : Option SessionEnd) → e.session ≡ o → option_map (λ t. arrived t by acknowledgement c) o ≡ Some s → IsAckedTo (most b) s.sending
      at None is same = absurd (let wrong : ⊥ = cc in wrong)
      at (Some t) is same =
          (let there : arrived t by acknowledgement c ≡ s = cc in
          subst (λ (q : SessionEnd). IsAckedTo (most b) q.sending) there (arrived_to (most b) t by acknowledgement c (no_more t is up) (h up t is)))

  -- ---- a pair

  near_to : (x : PairEnds) (e : LinkEnd) → x.near ≡ Some e → Both To x → To x.bearer e
  near_to x e is h = subst (λ o. IfSome o (To x.bearer)) is h.near

  far_to : (x : PairEnds) (e : LinkEnd) → x.far ≡ Some e → Both To x → To (other x.bearer) e
  far_to x e is h = subst (λ o. IfSome o (To (other x.bearer))) is h.far

  put_on : (b : ℕ) (e : LinkEnd) (s : SessionEnd) (packets : List (List ℕ)) → e.session ≡ Some s → To b e → To b (loaded e s packets)
  put_on b e s packets has h up t same =
      (let there : flushed (putting s packets) ≡ t = cc in
      subst (λ (q : SessionEnd). IsAckedTo (most b) q.sending) there (moves_to (most b) (putting s packets) (same_to (most b) s.sending _ refl refl (h up s has))))

  failing_to : (x : PairEnds) (near far : LinkEnd) (a b : Option SessionEnd) → x.near ≡ Some near → x.far ≡ Some far → far.session ≡ b → is_up_at x.near ≡ false → Both To x → Both To (failing x near far a b).pair
  failing_to x near far (Some lost) (Some s) one two has down h = record {
    two = h.two;
    near = down_to x.bearer (handed_over near) (ap is_up_at (sym one) ∙ down);
    far = put_on (other x.bearer) far s (left_by lost) has (far_to x far two h);
  }
  failing_to x near far (Some lost) None one two has down h = h
  failing_to x near far None b one two has down h = h

  fail_to : (x : PairEnds) (o p : Option LinkEnd) → x.near ≡ o → x.far ≡ p → is_up_at x.near ≡ false → Both To x → Both To (fail_over_to x o p).pair
  fail_to x (Some near) (Some far) one two down h = failing_to x near far near.session far.session one two refl down h
  fail_to x (Some near) None one two down h = h
  fail_to x None p one two down h = h

  switching_to : (x : PairEnds) (near far : LinkEnd) (a b : Option SessionEnd) → x.near ≡ Some near → x.far ≡ Some far → near.session ≡ a → Both To x → Both To (switching x near far a b).pair
  switching_to x near far (Some s) (Some old) one two has h = record {
    two = h.two;
    near = put_on x.bearer near s (taken_over old) has (near_to x near one h);
    far = mapped_to (other x.bearer) far (without_waiting far) waiting_given (λ up. up) refl (λ t k. same_to (most (other x.bearer)) t.sending _ refl refl k) (far_to x far two h);
  }
  switching_to x near far (Some s) None one two has h = h
  switching_to x near far None b one two has h = h

  switch_to : (x : PairEnds) (o p : Option LinkEnd) → x.near ≡ o → x.far ≡ p → Both To x → Both To (switch_from x o p).pair
  switch_to x (Some near) (Some far) one two h = switching_to x near far near.session far.session one two refl h
  switch_to x (Some near) None one two h = h
  switch_to x None p one two h = h

  parted_to : (b contact seen : ℕ) (o : Option LinkEnd) → IfSome (option_map (parted_end contact seen) o) (To b)
  parted_to b contact seen None = tt
  parted_to b contact seen (Some e) = down_to b (parted_end contact seen e) (ap (λ (f : Fsm). is_up f.state) (ended-is e.fsm))

  parted_both : (x : PairEnds) → x.bearer ≤ 1 → Both To (parted x)
  parted_both x two = record { two = two; near = parted_to x.bearer (x.contact + 1) x.seen x.near; far = parted_to (other x.bearer) (x.contact + 1) x.seen x.far }

  following_to : (x : PairEnds) (change : Change) (epoch : ℕ) → (is_down change ≡ true → is_up_at x.near ≡ false) → Both To x → Both To (following x change epoch).pair
  following_to x Up epoch down h =
      tested (λ (c : Course). Both To c.pair) (is_up_at x.far) (if x.bearer == 0 then switch x else nothing x) (contact_begins x)
      (λ _. tested (λ (c : Course). Both To c.pair) (x.bearer == 0) (switch x) (nothing x) (λ _. switch_to x x.near x.far refl refl h) (λ _. h))
      (λ _. record { two = h.two; near = h.near; far = h.far })
  following_to x (Down because) epoch down h =
      tested (λ (c : Course). Both To c.pair) (is_up_at x.far) (fail_over x) (contact_ends x (x.contact, x.seen) 0) (λ _. fail_to x x.near x.far refl refl (down refl) h) (λ _. parted_both x h.two)
  following_to x Stay epoch down h = h
  following_to x (Answer back) epoch down h = h
  following_to x (Ignore reason) epoch down h = h

  -- ---- the acts

  -- what is heard acknowledges no more
  abbrev pub MayAck : PairEnds → Act → Type 0
  MayAck x (meeting es er p by shown) = is_traffic p.header ≡ true → AcknowledgesTo (most x.bearer) x.near p.acknowledgement
  MayAck x other = Unit {0}

  -- a session that is heard acknowledges no more, be it the one that was up or one that has just begun
  heard_ack : (x : PairEnds) (e : LinkEnd) (o : Outcome) (acknowledgement : ℕ) (change : Change) → x.near ≡ Some e → AcknowledgesTo (most x.bearer) x.near acknowledgement → is_taken change ≡ true
      → (is_up o.after.state ≡ true → is_going_up change ≡ false → is_up e.fsm.state ≡ true)
      → (s : SessionEnd) → (followed (with_fsm e o.after) change).session ≡ Some s → is_up o.after.state ≡ true → AckNoMore (most x.bearer) s acknowledgement
  heard_ack x e o acknowledgement Up near k taken back s has up =
      (let same : session_of (with_fsm e o.after) ≡ s = cc in inl (ap (λ (q : SessionEnd). length q.sending.unacked) (sym same)))
  heard_ack x e o acknowledgement Stay near k taken back s has up = (let late = k.lately e s near (back up refl) has in inr (k.told, k.told_is, k.no_more, late.0, late.1))
  heard_ack x e o acknowledgement (Down because) near k taken back s has up = absurd (true≢false (sym taken))
  heard_ack x e o acknowledgement (Answer said) near k taken back s has up = absurd (true≢false (sym taken))
  heard_ack x e o acknowledgement (Ignore reason) near k taken back s has up = absurd (true≢false (sym taken))

  after_end : (b : ℕ) (e : LinkEnd) (shown : Option (ℕ × ℕ)) (o : Outcome) → Moves e.fsm shown o → To b e → To b (after e o)
  after_end b e shown o m h = followed_to b e o.after o.change (λ now quiet. back_up e.fsm shown o m quiet now) h

  step_to : (x : PairEnds) (a : Act) (e : LinkEnd) (o : Outcome) (e' : LinkEnd) (states numbered : List Outgoing) (epoch : ℕ) → MayAck x a → x.near ≡ Some e → To x.bearer e → Steps x e a o e' states numbered epoch → To x.bearer e'
  step_to x _ e _ _ _ _ _ may near h cut =
      let o = on_cut e.fsm (is_up_at x.far) in
      let m = on_cut_moves e.fsm (is_up_at x.far) None in
      same_session x.bearer e (cut_end e (is_up_at x.far)) (λ now. back_up e.fsm None o m (shown_quiet e.fsm o m) now) refl h
  step_to x _ e _ _ _ _ _ may near h (tick shown) = after_end x.bearer e None (on_tick e.fsm (is_up_at x.far)) (on_tick_moves e.fsm (is_up_at x.far) None) h
  step_to x _ e _ _ _ _ _ may near h (reset es held shown) = after_end x.bearer e None (on_reset e.fsm es held) (on_reset_moves e.fsm es held None) h
  step_to x _ e _ _ _ _ _ may near h (name epoch) =
      let o = on_peer_tunnel e.fsm epoch in
      let m = on_peer_tunnel_moves e.fsm epoch None in
      same_session x.bearer e (tunnelled_down e epoch) (λ now. back_up e.fsm None o m (shown_quiet e.fsm o m) now) refl h
  step_to x _ e _ _ _ _ _ may near h (meet es er p by shown) =
      let held = is_up_at x.far in
      let o = outcome_of e.fsm p.header es er held in
      let m = outcome_moves e.fsm p.header es er held in
      let next = after_end x.bearer e (Some (es, er)) o m h in
      tested (To x.bearer) (is_heard p.header o.change) (heard_end (after e o) by p.acknowledgement (content_of p)) (after e o)
      (λ here.
      let parts = and_parts (is_traffic p.header) (is_taken o.change) here in
      hears_to x.bearer (after e o) by p.acknowledgement (content_of p)
      (λ s has up. heard_ack x e o p.acknowledgement o.change near (may parts.0) parts.1 (λ now quiet. back_up e.fsm (Some (es, er)) o m quiet now) s has (ap (λ (f : Fsm). is_up f.state) (sym (fsm_after e o)) ∙ up)) next)
      (λ _. next)

  forgot_to : (b number : ℕ) (o : Option LinkEnd) → IfSome o (To b) → IfSome (option_map (forgetting number) o) (To b)
  forgot_to b number None h = tt
  forgot_to b number (Some e) h = same_session b e (forgetting number e) (λ now. back_up e.fsm None (forget_peer e.fsm) (forget_peer_moves e.fsm None) (forget_quiet e.fsm) now) refl h

  with_end : (x : PairEnds) (e : LinkEnd) → To x.bearer e → Both To x → Both To (with_near x e)
  with_end x e k h = record { two = h.two; near = k; far = h.far }

  act_to : (x : PairEnds) (a : Act) (c : Course) → MayAck x a → Acts x a c → Both To x → Both To c.pair
  unfolding going_on
  act_to _ _ _ may (made x) h = record { two = h.two; near = λ up s has. absurd (let wrong : ⊥ = cc in wrong); far = h.far }
  act_to _ _ _ may (mended x e near) h = with_end x (mended_end e) (near_to x e near h) h
  act_to _ _ _ may (moved x a e o e' states numbered epoch near step) h =
      let m = step_moves x a e o e' states numbered epoch step in
      following_to (with_near x e') o.change epoch (λ down. ap (λ (f : Fsm). is_up f.state) m.fsm ∙ step_lowers x a e o e' states numbered epoch step down)
      (with_end x e' (step_to x a e o e' states numbered epoch may near (near_to x e near h) step) h)
  act_to _ _ _ may (raised x number) h =
      tested (λ (c : Course). Both To c.pair) (in_contact x) (contact_ends (record x { seen = number }) (x.contact, x.seen) number) (nothing (forgotten x number))
      (λ _. parted_both (record x { seen = number }) h.two)
      (λ _. record { two = h.two; near = forgot_to x.bearer number x.near h.near; far = forgot_to (other x.bearer) number x.far h.far })
  act_to _ _ _ may (let_go_of x e near clear) h =
      with_end x (let_go e) (same_session x.bearer e (let_go e) (λ now. back_up e.fsm None (release e.fsm) (release_moves e.fsm None) (release_quiet e.fsm) now) refl (near_to x e near h)) h
  act_to _ _ _ may (counted x e t by near) h =
      let k = near_to x e near h in
      let over : (r : Received) → To x.bearer (recorded e r) = λ r. mapped_to x.bearer e (recorded e r) (λ s. with_record s r) (λ up. up) refl (λ s q. q) k in
      tested (λ (d : LinkEnd). Both To (with_near x d)) (t.count == 0) (named_end e t.old.epoch) (tunnelled_end e t.old.epoch (inside_of t by)) (λ _. with_end x (named_end e t.old.epoch) (over (named (record_of e) t.old.epoch)) h)
      (λ _. with_end x (tunnelled_end e t.old.epoch (inside_of t by)) (over (tunnelled (named (record_of e) t.old.epoch) t.old.epoch (inside_of t by))) h)
  act_to _ _ _ may (opened x packets given last brings) h = record { two = h.two; near = h.near; far = h.far }
  act_to _ _ _ may (put x e s pieces s' near has is) h =
      let k = near_to x e near h in
      with_end x (with_session e (flushed s'))
      (λ up t same. (let there : flushed s' ≡ t = cc in subst (λ (q : SessionEnd). IsAckedTo (most x.bearer) q.sending) there (moves_to (most x.bearer) s' (put_to (most x.bearer) s pieces s' is (k up s has))))) h
  act_to _ _ _ may (answered x e taken asks shown near) h =
      let k = near_to x e near h in
      let read : SessionEnd → SessionEnd = λ s. said (with_broadcast s taken asks) in
      tested (λ (d : LinkEnd). Both To (with_near x d)) (is_up e.fsm.state) (record e { session = option_map read e.session }) e
      (λ _. with_end x (record e { session = option_map read e.session }) (mapped_to x.bearer e (record e { session = option_map read e.session }) read (λ up. up) refl (λ s q. q) k) h) (λ _. with_end x e k h)

  acking : Walk MayAck (λ x c. Both To x → Both To c.pair)
  unfolding going_on
  acking = record {
    rests = λ x h. h;
    goes_on = λ x first step one two h. two (one h);
    turns = λ x c there h. both_turned To c.pair (there (both_turned To x h));
    acts = λ x a c may does h. act_to x a c may does h;
  }

  -- ---- a turn

  hear_ack : (h : Header) (es er : ℕ) (p : Fields) (by : ℕ) (shown : BroadcastState) (x : PairEnds) → p.header ≡ h → (is_traffic p.header ≡ true → AcknowledgesTo (most x.bearer) x.near p.acknowledgement) → MayHear MayAck h es er p by shown x
  hear_ack (header.Reset said) es er p by shown x is may = record { counts = λ higher. tt; resets = λ y bearer seen. tt }
  hear_ack (header.Activate said) es er p by shown x is may = record { counts = λ higher. tt; meets = λ y bearer seen traffic. absurd (true≢false (sym traffic ∙ ap is_traffic is)) }
  hear_ack other es er p by shown x is may = may

  happens_ack : (x : PairEnds) (opening : Opening) → x.bearer ≤ 1 → IsOnOne opening → MayAcknowledge most x opening → MayHappen MayAck x opening
  happens_ack x rests two one may = tt
  happens_ack x (ticks shown) two one may = λ y. tt
  happens_ack x (mends bearer) two one may = tt
  happens_ack x (cuts bearer) two one may = tt
  happens_ack x (makes bearer is_mended) two one may = (tt, tt)
  happens_ack x (hears bearer es er p by shown) two one may = record {
    hears = hear_ack p.header es er p by shown (facing bearer x) refl (subst (λ b. is_traffic p.header ≡ true → AcknowledgesTo (most b) (facing bearer x).near p.acknowledgement) (sym (facing_bearer bearer x one two)) may);
    opens = opens_may MayAck _ _ (λ y epoch. tt) (λ y t by. tt) (λ y packets given. tt);
  }

pub turns_acknowledge_no_more : TurnsAcknowledgeNoMore
turns_acknowledge_no_more most x x' opening messages reply fs two one may t h =
    let all : MayTurn (MayAck most) x opening messages reply = record { happens = happens_ack most x opening two one may; puts = λ i d within z up. tt; answers = λ r is z. tt } in
    let both : Both (To most) x = record { two = two; near = h.near; far = h.far } in
    let k = walks (MayAck most) (λ z c. Both (To most) z → Both (To most) c.pair) (acking most) x (turn_course t) (turn_ran (MayAck most) (λ z. tt) x x' opening messages reply fs two all t) both in
    let now = subst (Both (To most)) (sym (turn_pair x x' opening messages reply fs t)) k in
    record { near = now.near; far = now.far }

-- at most a window's packets more were numbered
pub few_are_numbered : FewAreNumbered
few_are_numbered most w h =
    let window = h.window in
    let below = h.below in
    let acked = h.acked in
    omega (arith, window, below, acked)
