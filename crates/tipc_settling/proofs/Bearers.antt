-- Each frame of the links that leaves a pair leaves on a mended bearer.
use Rattle.std.specs.Prelude.{All, IfSome, ◌==◌, if◌then◌else◌}
use Rattle.std.specs.List.{flat_map}
use Rattle.std.proofs.Common.{◌≡◌, ◌≤◌, ◌+◌, ◌∙◌, ℕ, Bool, true, false, List, [], Option, Some, None, option_map, refl, sym, ap, subst, arith}
use Rattle.std.proofs.lemmas.Bool.{true≢false}
use Rattle.std.proofs.lemmas.Grind.{flat_map-append}
use Rattle.std.proofs.lemmas.List.Elements.{All-append, All-cons, All-nil, All-weaker}
use Rattle.tipc_types.specs.LinkStates.{is_up}
use Rattle.tipc_types.specs.declared.link_words.BroadcastState.{BroadcastState}
use Rattle.tipc_types.specs.declared.link_words.Reply.TheVariants as reply
use Rattle.tipc_outside.specs.declared.outgoing.Outgoing.{Outgoing}
use Rattle.tipc_header.specs.declared.packet.Header.{Header}
use Rattle.tipc_header.specs.declared.packet.Header.TheVariants as header
use Rattle.tipc_header.specs.Spelling.{Fields}
use Rattle.tipc_link_fsm.specs.declared.changes.Change.{Change}
use Rattle.tipc_link_fsm.specs.declared.changes.Change.TheVariants.{Answer, Down, Ignore, Stay, Up}
use Rattle.tipc_link_fsm.specs.Table.{Fsm, Outcome, forget_peer, on_peer_tunnel, on_reset, on_tick, release}
use Rattle.tipc_link_fsm.proofs.Moves.{Moves, falls, forget_peer_moves, is_going_up, on_peer_tunnel_moves, on_reset_moves, on_tick_moves, release_moves, rises, stays as still_moves}
use Rattle.tipc_link.specs.Links.{LinkEnd, after, follow_frames, followed, frames, frames_with, is_answer, is_reset_unknown, mend_frames, mended_end, named_end, outcome_of, recorded, release_frames, repeats_at, reset_frames, state_frames, tunnelled_down, tunnelled_end, with_fsm, with_session}
use Rattle.tipc_link.specs.Records.{Received}
use Rattle.tipc_link.specs.Sessions.{SessionEnd, answered as said, flush_frames, flushed, given_up, put as putting, waiting_given, with_broadcast, with_record}
use Rattle.tipc_link.proofs.Ends.{ended-is}
use Rattle.tipc_pair.specs.Changeovers.{contact_begins, contact_ends, fail_over, fail_over_to, failing, following, forgetting, forgotten, gone_down, gone_up, let_go, parted, parted_end, switch, switch_from, switching}
use Rattle.tipc_pair.specs.Courses.{Course, going_on, rests as nothing}
use Rattle.tipc_pair.specs.Facing.{PairEnds, facing, in_contact, is_up_at, made_of, other, with_near}
use Rattle.tipc_pair.specs.PairArrivals.{inside_of}
use Rattle.tipc_pair.specs.PairTurns.{IsOnOne, Opening, PairTurn, Reply}
use Rattle.tipc_pair.specs.PairTurns.Opening.{cuts, hears, makes, mends, rests, ticks}
use Rattle.tipc_pair.specs.Runs.{left_by, taken_over}
use Rattle.tipc_pair.proofs.EndSteps.{fsm_after, tunnel_quiet}
use Rattle.tipc_pair.proofs.Facings.{facing_two}
use Rattle.tipc_pair.proofs.HeldLaws.{tick_quiet}
use Rattle.tipc_pair.proofs.acts.Acting.{MayHappen, MayHear, MayTurn, opens_may, turn_course, turn_frames, turn_ran}
use Rattle.tipc_pair.proofs.acts.Acts.{Act, Acts, Steps, near_course}
use Rattle.tipc_pair.proofs.acts.Acts.Act.{cuts as cutting, meets as meeting, mends as mending, puts as putting_on}
use Rattle.tipc_pair.proofs.acts.Acts.Acts.{answered, counted, let_go_of, made, mended, moved, opened, put, raised}
use Rattle.tipc_pair.proofs.acts.Acts.Steps.{cut, meet, name, reset, tick}
use Rattle.tipc_pair.proofs.acts.Walks.{Walk, outcome_moves, tested, walks}
use Rattle.tipc_pair.proofs.turns.EndEpochs.{after_at, arrival_at, forget_quiet, heard_up, moved_at, outcome_says, parted_at, release_quiet, reset_says, tick_says}
use Rattle.tipc_pair.proofs.turns.FrameKinds.{IsEndAt, IsSameSession, MadeOf, answers_at, flush_made, flushed_same, mapped_at, mends_made, put_same, same_at, some_at}
use Rattle.tipc_pair.proofs.turns.PairKept.{Both, both_facing, both_turned, facing_bearer}
use Rattle.tipc_two_nodes.specs.Sights.{AreSeen, Sight, pair_seen}
use Rattle.tipc_node.specs.Ends.{StandsOn}
use Rattle.tipc_node.specs.Nodes.{is_mended_on}
use Rattle.tipc_settling.specs.Bearers.{KeepsBearers, SendsOnMended}
use Rattle.tipc_settling.proofs.Rows.{shown_quiet}
use Rattle.tipc_settling.proofs.Sending.{framed_at}

-- whatever a STATE shows of the broadcast
abbrev pub same : BroadcastState → BroadcastState
same shown = shown

-- what was up after a move by which it didn't go up was up before
pub back_up : (f : Fsm) (shown : Option (ℕ × ℕ)) (o : Outcome) → Moves f shown o → is_going_up o.change ≡ false → is_up o.after.state ≡ true → is_up f.state ≡ true
back_up f shown o (still_moves own up quiet) low is = sym up ∙ is
back_up f shown o (rises es own was up last it peer rising) low is = absurd (true≢false (sym rising ∙ low))
back_up f shown o (falls own down quiet) low is = absurd (true≢false (sym is ∙ down))

followed_mended : (e : LinkEnd) (change : Change) → (followed e change).mended ≡ e.mended
followed_mended e Up = refl
followed_mended e (Answer (reply.State probe)) = refl
followed_mended e (Answer reply.Reset) = refl
followed_mended e (Answer reply.Activate) = refl
followed_mended e Stay = refl
followed_mended e (Down cause) = refl
followed_mended e (Ignore reason) = refl

-- an end on its bearer, which tells that this is mended, and is up, only where it is
pub record IsOn (M : ℕ → Bool) (b : ℕ) (e : LinkEnd) : Type 0 where
  pub end : IsEndAt b e
  pub mended : e.mended ≡ true → M b ≡ true
  pub up : is_up e.fsm.state ≡ true → M b ≡ true

-- what a course leaves of that, and its frames
pub record Sends (M : ℕ → Bool) (c : Course) : Type 0 where
  pub both : Both (IsOn M) c.pair
  pub states : All (λ (o : Outgoing). M o.bearer ≡ true) c.states
  pub numbered : All (λ (o : Outgoing). M o.bearer ≡ true) c.numbered

-- what a step leaves of it
pub record StepsOn (M : ℕ → Bool) (bearer : ℕ) (change : Change) (e : LinkEnd) (states numbered : List Outgoing) : Type 0 where
  pub on : IsOn M bearer e
  pub states_on : All (λ (o : Outgoing). M o.bearer ≡ true) states
  pub numbered_on : All (λ (o : Outgoing). M o.bearer ≡ true) numbered
  pub up : change ≡ Up → M bearer ≡ true

module _ (M : ℕ → Bool) where
  abbrev pub On : ℕ → LinkEnd → Type 0
  On b e = IsOn M b e

  abbrev pub F : Outgoing → Type 0
  F o = M o.bearer ≡ true

  abbrev pub Sent : Course → Type 0
  Sent c = Sends M c

  -- frames that were made on a mended bearer
  by_made : (b own : ℕ) (fs : List Outgoing) → M b ≡ true → All (MadeOf BroadcastState same b own) fs → All F fs
  by_made b own fs on them = All-weaker (MadeOf BroadcastState same b own) F (λ o m. ap M m.bearer ∙ on) fs them

  -- the RESET of an end
  resets_on : (b : ℕ) (e : LinkEnd) → e.bearer ≡ b → (e.mended ≡ true → M b ≡ true) → All F (reset_frames e)
  resets_on b e at on = tested (All F) e.mended _ [] (λ is. All-cons F _ [] (ap M at ∙ on is) (All-nil F)) (λ _. All-nil F)

  near_on : (x : PairEnds) (e : LinkEnd) → x.near ≡ Some e → Both On x → On x.bearer e
  near_on x e is h = subst (λ o. IfSome o (On x.bearer)) is h.near

  far_on : (x : PairEnds) (e : LinkEnd) → x.far ≡ Some e → Both On x → On (other x.bearer) e
  far_on x e is h = subst (λ o. IfSome o (On (other x.bearer))) is h.far

  near_sends : (x : PairEnds) (e : LinkEnd) (states numbered : List Outgoing) → On x.bearer e → Both On x → All F states → All F numbered → Sent (near_course x e states numbered)
  near_sends x e states numbered on h one two = record { both = record { two = h.two; near = on; far = h.far }; states = one; numbered = two }

  alone : (x : PairEnds) → Both On x → Sent (nothing x)
  alone x h = record { both = h; states = All-nil F; numbered = All-nil F }

  -- ---- the sessions of an end

  recorded_at : (b : ℕ) (e : LinkEnd) (r : Received) → IsEndAt b e → IsEndAt b (recorded e r)
  recorded_at b e r h = record { on = h.on; session = mapped_at b (is_up e.fsm.state) e.fsm.own (λ s. with_record s r) e.session (λ s. record { bearer = refl; epoch = refl }) h.session }

  session_mapped : (b : ℕ) (e : LinkEnd) (g : SessionEnd → SessionEnd) → ((s : SessionEnd) → IsSameSession s (g s)) → IsEndAt b e → IsEndAt b (record e { session = option_map g e.session })
  session_mapped b e g alike h = record { on = h.on; session = mapped_at b (is_up e.fsm.state) e.fsm.own g e.session alike h.session }

  session_put : (b : ℕ) (e : LinkEnd) (s s' : SessionEnd) → e.session ≡ Some s → IsSameSession s s' → IsEndAt b e → IsEndAt b (with_session e (flushed s'))
  session_put b e s s' is alike h = record { on = h.on; session = some_at b (is_up e.fsm.state) e.fsm.own (flushed s') (same_at b (is_up e.fsm.state) e.fsm.own s (flushed s') (flushed_same s s' alike) (h.session s is)) }

  -- the packets that the session of an end numbers, on a mended bearer
  flush_on : (b : ℕ) (e : LinkEnd) (s s' : SessionEnd) → e.session ≡ Some s → IsSameSession s s' → IsEndAt b e → M b ≡ true → All F (flush_frames s')
  flush_on b e s s' has alike h on = by_made s'.bearer s'.epoch (flush_frames s') (ap M (alike.bearer ∙ (h.session s has).0) ∙ on) (flush_made BroadcastState same s')

  -- ---- what follows a change of the near link

  parted_on : (b contact seen : ℕ) (o : Option LinkEnd) → IfSome o (On b) → IfSome (option_map (parted_end contact seen) o) (On b)
  parted_on b contact seen None h = tt
  parted_on b contact seen (Some e) h = record {
    end = parted_at b e contact seen h.end;
    mended = h.mended;
    up = λ up. absurd (true≢false (sym up ∙ ap (λ (f : Fsm). is_up f.state) (ended-is e.fsm)));
  }

  parted_both : (x : PairEnds) → Both On x → Both On (parted x)
  parted_both x h = record { two = h.two; near = parted_on x.bearer (x.contact + 1) x.seen x.near h.near; far = parted_on (other x.bearer) (x.contact + 1) x.seen x.far h.far }

  made_resets : (b : ℕ) (o : Option LinkEnd) → IfSome o (On b) → All F (flat_map reset_frames (made_of o))
  made_resets b None h = All-nil F
  made_resets b (Some e) h = All-append F (reset_frames e) [] (resets_on b e (let end = h.end in end.on) h.mended) (All-nil F)

  ends_send : (x : PairEnds) (contact : ℕ × ℕ) (shown : ℕ) → Both On x → Sent (contact_ends x contact shown)
  ends_send x contact shown h =
      let y = parted x in
      let hy = parted_both x h in
      let zero_end = both_facing On 0 y hy in
      let one_end = both_facing On 1 y hy in
      record {
        both = hy;
        states = subst (All F) (sym (flat_map-append reset_frames (made_of (facing 0 y).near) (made_of (facing 1 y).near)))
            (All-append F (flat_map reset_frames (made_of (facing 0 y).near)) (flat_map reset_frames (made_of (facing 1 y).near))
            (made_resets (facing 0 y).bearer (facing 0 y).near zero_end.near) (made_resets (facing 1 y).bearer (facing 1 y).near one_end.near));
        numbered = All-nil F;
      }

  failing_sends : (x : PairEnds) (near far : LinkEnd) (a b : Option SessionEnd) → x.near ≡ Some near → x.far ≡ Some far → far.session ≡ b → is_up_at x.far ≡ true → Both On x → Sent (failing x near far a b)
  failing_sends x near far (Some lost) (Some s) one two has up h =
      let p = near_on x near one h in
      let q = far_on x far two h in
      let alike : IsSameSession s (putting s (left_by lost)) = record { bearer = refl; epoch = refl } in
      record {
        both = record {
          two = h.two;
          near = record { end = session_mapped x.bearer near given_up (λ t. record { bearer = refl; epoch = refl }) p.end; mended = p.mended; up = p.up };
          far = record { end = session_put (other x.bearer) far s (putting s (left_by lost)) has alike q.end; mended = q.mended; up = q.up };
        };
        states = All-nil F;
        numbered = flush_on (other x.bearer) far s (putting s (left_by lost)) has alike q.end (q.up (ap is_up_at (sym two) ∙ up));
      }
  failing_sends x near far (Some lost) None one two has up h = alone x h
  failing_sends x near far None b one two has up h = alone x h

  fail_sends : (x : PairEnds) (o p : Option LinkEnd) → x.near ≡ o → x.far ≡ p → is_up_at x.far ≡ true → Both On x → Sent (fail_over_to x o p)
  fail_sends x (Some near) (Some far) one two up h = failing_sends x near far near.session far.session one two refl up h
  fail_sends x (Some near) None one two up h = alone x h
  fail_sends x None p one two up h = alone x h

  switching_sends : (x : PairEnds) (near far : LinkEnd) (a b : Option SessionEnd) → x.near ≡ Some near → x.far ≡ Some far → near.session ≡ a → M x.bearer ≡ true → Both On x → Sent (switching x near far a b)
  switching_sends x near far (Some s) (Some old) one two has on h =
      let p = near_on x near one h in
      let q = far_on x far two h in
      let alike : IsSameSession s (putting s (taken_over old)) = record { bearer = refl; epoch = refl } in
      record {
        both = record {
          two = h.two;
          near = record { end = session_put x.bearer near s (putting s (taken_over old)) has alike p.end; mended = p.mended; up = p.up };
          far = record { end = session_mapped (other x.bearer) far waiting_given (λ t. record { bearer = refl; epoch = refl }) q.end; mended = q.mended; up = q.up };
        };
        states = All-nil F;
        numbered = flush_on x.bearer near s (putting s (taken_over old)) has alike p.end on;
      }
  switching_sends x near far (Some s) None one two has on h = alone x h
  switching_sends x near far None b one two has on h = alone x h

  switch_sends : (x : PairEnds) (o p : Option LinkEnd) → x.near ≡ o → x.far ≡ p → M x.bearer ≡ true → Both On x → Sent (switch_from x o p)
  switch_sends x (Some near) (Some far) one two on h = switching_sends x near far near.session far.session one two refl on h
  switch_sends x (Some near) None one two on h = alone x h
  switch_sends x None p one two on h = alone x h

  following_sends : (x : PairEnds) (change : Change) (epoch : ℕ) → (change ≡ Up → M x.bearer ≡ true) → Both On x → Sent (following x change epoch)
  following_sends x Up epoch on h =
      let k : Sent (gone_up x) =
      tested Sent (is_up_at x.far) (if x.bearer == 0 then switch x else nothing x) (contact_begins x)
      (λ _. tested Sent (x.bearer == 0) (switch x) (nothing x) (λ _. switch_sends x x.near x.far refl refl (on refl) h) (λ _. alone x h))
      (λ _. record { both = record { two = h.two; near = h.near; far = h.far }; states = All-nil F; numbered = All-nil F }) in
      record { both = k.both; states = k.states; numbered = k.numbered }
  following_sends x (Down because) epoch on h =
      let k : Sent (gone_down x) =
      tested Sent (is_up_at x.far) (fail_over x) (contact_ends x (x.contact, x.seen) 0) (λ up. fail_sends x x.near x.far refl refl up h) (λ _. ends_send x (x.contact, x.seen) 0 h) in
      record { both = k.both; states = k.states; numbered = k.numbered }
  following_sends x Stay epoch on h = alone x h
  following_sends x (Answer back) epoch on h = alone x h
  following_sends x (Ignore reason) epoch on h = alone x h

  -- ---- the acts

  -- what may be done here: no bearer is cut, one that is mended is told so, and a packet comes on a mended bearer; packets are put on a link that is up
  abbrev pub MayOn : PairEnds → Act → Type 0
  MayOn x cutting = ⊥
  MayOn x mending = M x.bearer ≡ true
  MayOn x (meeting es er p by shown) = M x.bearer ≡ true
  MayOn x (putting_on pieces) = is_up_at x.near ≡ true
  MayOn x other = Unit {0}

  sessions_on : (b : ℕ) (session : Option SessionEnd) (shown : BroadcastState) (probe : Bool) → ((s : SessionEnd) → session ≡ Some s → s.bearer ≡ b) → M b ≡ true → All F (state_frames session shown probe)
  sessions_on b None shown probe at on = All-nil F
  sessions_on b (Some s) shown probe at on = All-cons F _ [] (ap M (at s refl) ∙ on) (All-nil F)

  -- what an end says by a change of its link states
  says_on : (b : ℕ) (e : LinkEnd) (f : Fsm) (change : Change) (shown : BroadcastState) → On b e → (change ≡ Up → M b ≡ true) → ((probe : Bool) → change ≡ Answer (reply.State probe) → M b ≡ true) → All F (follow_frames (with_fsm e f) change shown)
  says_on b e f Up shown h up states = All-cons F _ [] (ap M (let end = h.end in end.on) ∙ up refl) (All-nil F)
  says_on b e f (Answer reply.Reset) shown h up states = resets_on b (with_fsm e f) (let end = h.end in end.on) h.mended
  says_on b e f (Answer reply.Activate) shown h up states =
      tested (All F) e.mended _ [] (λ is. All-cons F _ [] (ap M (let end = h.end in end.on) ∙ h.mended is) (All-nil F)) (λ _. All-nil F)
  says_on b e f (Answer (reply.State probe)) shown h up states = sessions_on b e.session shown probe (λ s has. (let end = h.end in (end.session s has).0)) (states probe refl)
  says_on b e f Stay shown h up states = All-nil F
  says_on b e f (Down because) shown h up states = All-nil F
  says_on b e f (Ignore reason) shown h up states = All-nil F

  -- a step by which no link goes up
  quiet_on : (b : ℕ) (e : LinkEnd) (o : Outcome) (shown : BroadcastState) → On b e → Moves e.fsm None o → is_going_up o.change ≡ false → ((probe : Bool) → o.change ≡ Answer (reply.State probe) → is_up o.after.state ≡ true)
      → On b (after e o) × All F (frames e o shown)
  quiet_on b e o shown h m quiet says =
      let k = after_at BroadcastState same b e None o shown (shown, refl) h.end m says in (
        record {
          end = k.0;
          mended = λ is. h.mended (sym (followed_mended (with_fsm e o.after) o.change) ∙ is);
          up = λ is. h.up (back_up e.fsm None o m quiet (ap (λ (f : Fsm). is_up f.state) (sym (fsm_after e o)) ∙ is));
        },
        says_on b e o.after o.change shown h (λ up. absurd (true≢false (sym (ap is_going_up up) ∙ quiet))) (λ probe is. h.up (back_up e.fsm None o m quiet (says probe is))),
      )

  pub step_on : (x : PairEnds) (a : Act) (e : LinkEnd) (o : Outcome) (e' : LinkEnd) (states numbered : List Outgoing) (epoch : ℕ) → MayOn x a → On x.bearer e → Steps x e a o e' states numbered epoch → StepsOn M x.bearer o.change e' states numbered
  step_on x _ e _ _ _ _ _ may h cut = absurd may
  step_on x _ e _ _ _ _ _ may h (tick shown) =
      let held = is_up_at x.far in
      let quiet = tick_quiet e.fsm held in
      let k = quiet_on x.bearer e (on_tick e.fsm held) shown h (on_tick_moves e.fsm held None) quiet (tick_says e.fsm held) in
      record { on = k.0; states_on = k.1; numbered_on = All-nil F; up = λ up. absurd (true≢false (sym (ap is_going_up up) ∙ quiet)) }
  step_on x _ e _ _ _ _ _ may h (reset es held shown) =
      let o = on_reset e.fsm es held in
      let m = on_reset_moves e.fsm es held None in
      let quiet = shown_quiet e.fsm o m in
      let k = quiet_on x.bearer e o shown h m quiet (reset_says e.fsm es held) in
      record { on = k.0; states_on = k.1; numbered_on = All-nil F; up = λ up. absurd (true≢false (sym (ap is_going_up up) ∙ quiet)) }
  step_on x _ e _ _ _ _ _ may h (name epoch) =
      let o = on_peer_tunnel e.fsm epoch in
      let m = on_peer_tunnel_moves e.fsm epoch None in
      let quiet = tunnel_quiet e.fsm epoch in
      record {
        on = record { end = moved_at x.bearer e (tunnelled_down e epoch) None o h.end m quiet refl refl refl; mended = h.mended; up = λ is. h.up (back_up e.fsm None o m quiet is) };
        states_on = All-nil F;
        numbered_on = All-nil F;
        up = λ up. absurd (true≢false (sym (ap is_going_up up) ∙ quiet));
      }
  step_on x _ e _ _ _ _ _ may h (meet es er p by shown) =
      let held = is_up_at x.far in
      let o = outcome_of e.fsm p.header es er held in
      let k = after_at BroadcastState same x.bearer e (Some (es, er)) o shown (shown, refl) h.end (outcome_moves e.fsm p.header es er held) (outcome_says e.fsm p.header es er held) in
      let r = arrival_at BroadcastState same x.bearer e o p by (heard_up e.fsm p.header es er held) k.0 in
      record {
        on = record { end = r.0; mended = λ is. may; up = λ is. may };
        states_on = All-append F (frames e o shown) (repeats_at e o p) (by_made x.bearer o.after.own (frames e o shown) may k.1) (by_made x.bearer o.after.own (repeats_at e o p) may r.1);
        numbered_on = by_made x.bearer o.after.own _ may r.2;
        up = λ up. may;
      }

  forgot_on : (b number : ℕ) (o : Option LinkEnd) → IfSome o (On b) → IfSome (option_map (forgetting number) o) (On b)
  forgot_on b number None h = tt
  forgot_on b number (Some e) h = record {
    end = moved_at b e (forgetting number e) None (forget_peer e.fsm) h.end (forget_peer_moves e.fsm None) (forget_quiet e.fsm) refl refl refl;
    mended = h.mended;
    up = λ is. h.up (back_up e.fsm None (forget_peer e.fsm) (forget_peer_moves e.fsm None) (forget_quiet e.fsm) is);
  }

  released_on : (x : PairEnds) (e : LinkEnd) → On x.bearer e → Both On x → Sent (near_course x (let_go e) (release_frames e) [])
  released_on x e k h =
      let o = release e.fsm in
      let m = release_moves e.fsm None in
      let quiet = release_quiet e.fsm in
      near_sends x (let_go e) (release_frames e) []
      (record { end = moved_at x.bearer e (let_go e) None o k.end m quiet refl refl refl; mended = k.mended; up = λ is. k.up (back_up e.fsm None o m quiet is) }) h
      (tested (All F) (is_answer o.change) (reset_frames (with_fsm e o.after)) [] (λ _. resets_on x.bearer (with_fsm e o.after) (let end = k.end in end.on) k.mended) (λ _. All-nil F)) (All-nil F)

  pub act_sends : (x : PairEnds) (a : Act) (c : Course) → MayOn x a → Acts x a c → Both On x → Sent c
  unfolding going_on
  act_sends _ _ _ may (made x) h = record {
    both = record {
      two = h.two;
      near = record { end = record { on = refl; session = λ s has. absurd (let wrong : ⊥ = cc in wrong) }; mended = λ is. absurd (let wrong : ⊥ = cc in wrong); up = λ is. absurd (let wrong : ⊥ = cc in wrong) };
      far = h.far;
    };
    states = All-nil F;
    numbered = All-nil F;
  }
  act_sends _ _ _ may (mended x e near) h =
      let k = near_on x e near h in
      let end = k.end in
      near_sends x (mended_end e) (mend_frames e) [] (record { end = record { on = end.on; session = end.session }; mended = λ is. may; up = λ is. may }) h
      (by_made e.bearer e.fsm.own (mend_frames e) (ap M end.on ∙ may) (mends_made BroadcastState same e (is_reset_unknown e.fsm.state))) (All-nil F)
  act_sends _ _ _ may (moved x a e o e' states numbered epoch near step) h =
      let k = step_on x a e o e' states numbered epoch may (near_on x e near h) step in
      let y = with_near x e' in
      let f = following_sends y o.change epoch k.up (record { two = h.two; near = k.on; far = h.far }) in
      record {
        both = f.both;
        states = All-append F states (following y o.change epoch).states k.states_on f.states;
        numbered = All-append F numbered (following y o.change epoch).numbered k.numbered_on f.numbered;
      }
  act_sends _ _ _ may (raised x number) h =
      tested Sent (in_contact x) (contact_ends (record x { seen = number }) (x.contact, x.seen) number) (nothing (forgotten x number))
      (λ _. ends_send (record x { seen = number }) (x.contact, x.seen) number (record { two = h.two; near = h.near; far = h.far }))
      (λ _. alone (forgotten x number) (record { two = h.two; near = forgot_on x.bearer number x.near h.near; far = forgot_on (other x.bearer) number x.far h.far }))
  act_sends _ _ _ may (let_go_of x e near clear) h = released_on x e (near_on x e near h) h
  act_sends _ _ _ may (counted x e t by near) h =
      let k = near_on x e near h in
      tested (λ (d : LinkEnd). Sent (near_course x d [] [])) (t.count == 0) (named_end e t.old.epoch) (tunnelled_end e t.old.epoch (inside_of t by))
      (λ _. near_sends x (named_end e t.old.epoch) [] [] (record { end = recorded_at x.bearer e _ k.end; mended = k.mended; up = k.up }) h (All-nil F) (All-nil F))
      (λ _. near_sends x (tunnelled_end e t.old.epoch (inside_of t by)) [] [] (record { end = recorded_at x.bearer e _ k.end; mended = k.mended; up = k.up }) h (All-nil F) (All-nil F))
  act_sends _ _ _ may (opened x packets given last brings) h = alone (record x { begun = last }) (record { two = h.two; near = h.near; far = h.far })
  act_sends _ _ _ may (put x e s pieces s' near has is) h =
      let k = near_on x e near h in
      let alike = put_same s pieces s' is in
      near_sends x (with_session e (flushed s')) [] (flush_frames s') (record { end = session_put x.bearer e s s' has alike k.end; mended = k.mended; up = k.up }) h (All-nil F)
      (flush_on x.bearer e s s' has alike k.end (k.up (ap is_up_at (sym near) ∙ may)))
  act_sends _ _ _ may (answered x e taken asks shown near) h =
      let k = near_on x e near h in
      let read : SessionEnd → SessionEnd = λ s. said (with_broadcast s taken asks) in
      let says = answers_at BroadcastState same x.bearer e.fsm.own e taken asks shown k.end refl in
      tested (λ (d : LinkEnd). Sent (near_course x d (frames_with e taken asks shown) [])) (is_up e.fsm.state) (record e { session = option_map read e.session }) e
      (λ up. near_sends x (record e { session = option_map read e.session }) (frames_with e taken asks shown) [] (record { end = session_mapped x.bearer e read (λ s. record { bearer = refl; epoch = refl }) k.end; mended = k.mended; up = k.up }) h
      (by_made x.bearer e.fsm.own (frames_with e taken asks shown) (k.up up) says) (All-nil F))
      (λ down. near_sends x e (frames_with e taken asks shown) [] k h (tested (All F) (is_up e.fsm.state) _ [] (λ up. absurd (true≢false (sym up ∙ down))) (λ _. All-nil F)) (All-nil F))

  sending : Walk MayOn (λ x c. Both On x → Sent c)
  unfolding going_on
  sending = record {
    rests = λ x h. alone x h;
    goes_on = λ x first step one two h.
        let a = one h in
        let b = two a.both in
        record { both = b.both; states = All-append F first.states (step first.pair).states a.states b.states; numbered = All-append F first.numbered (step first.pair).numbered a.numbered b.numbered };
    turns = λ x c there h. (let a = there (both_turned On x h) in record { both = both_turned On c.pair a.both; states = a.states; numbered = a.numbered });
    acts = λ x a c may does h. act_sends x a c may does h;
  }

  -- ---- a turn

  -- what is heard, or makes an end, comes on a mended bearer
  abbrev pub ComesOn : Opening → Type 0
  ComesOn (mends bearer) = ⊥
  ComesOn (cuts bearer) = ⊥
  ComesOn (makes bearer is_mended) = M bearer ≡ true
  ComesOn (hears bearer es er p by shown) = M bearer ≡ true
  ComesOn other = Unit {0}

  hear_on : (h : Header) (es er : ℕ) (p : Fields) (by : ℕ) (shown : BroadcastState) (x : PairEnds) → x.bearer ≤ 1 → M x.bearer ≡ true → MayHear MayOn h es er p by shown x
  hear_on (header.Reset said) es er p by shown x two on = record { counts = λ higher. tt; resets = λ y bearer seen. tt }
  hear_on (header.Activate said) es er p by shown x two on = record { counts = λ higher. tt; meets = λ y bearer seen. ap M (bearer two) ∙ on }
  hear_on other es er p by shown x two on = on

  happens_on : (x : PairEnds) (opening : Opening) → x.bearer ≤ 1 → IsOnOne opening → ComesOn opening → MayHappen MayOn x opening
  happens_on x rests two one on = tt
  happens_on x (ticks shown) two one on = λ y. tt
  happens_on x (mends bearer) two one on = absurd on
  happens_on x (cuts bearer) two one on = absurd on
  happens_on x (makes bearer is_mended) two one on = (tt, ap M (facing_bearer bearer x one two) ∙ on)
  happens_on x (hears bearer es er p by shown) two one on = record {
    hears = hear_on p.header es er p by shown (facing bearer x) (facing_two bearer x two) (ap M (facing_bearer bearer x one two) ∙ on);
    opens = opens_may MayOn _ _ (λ y epoch. tt) (λ y t by. tt) (λ y packets given. tt);
  }

  pub turn_sends : (x y : PairEnds) (opening : Opening) (messages : List (List ℕ)) (reply : Option Reply) (fs : List Outgoing) → IsOnOne opening → ComesOn opening → Both On x → PairTurn x opening messages reply y fs → All F fs
  turn_sends x y opening messages reply fs one on h t =
      let may : MayTurn MayOn x opening messages reply = record { happens = happens_on x opening h.two one on; puts = λ i d within z up. up; answers = λ r is z. tt } in
      let k = walks MayOn (λ z c. Both On z → Sent c) sending x (turn_course t) (turn_ran MayOn (λ z. tt) x y opening messages reply fs h.two may t) h in
      turn_frames F x y opening messages reply fs t k.states k.numbered

-- ---- nodes that talk

stands_on : (v w : Sight) (m : Bool) (bearer : ℕ) (M : ℕ → Bool) → M bearer ≡ m → AreSeen v w → (o : Option LinkEnd) → v.ends bearer ≡ o → IfSome o (StandsOn m) → IfSome o (IsOn M bearer)
stands_on v w m bearer M is h None at k = tt
stands_on v w m bearer M is h (Some e) at k =
    record { end = (framed_at v w bearer h (Some e) at).0; mended = λ on. is ∙ sym k.same ∙ on; up = λ up. is ∙ k.up up }

comes_on : (pair : Bool × Bool) (opening : Opening) → KeepsBearers pair opening → ComesOn (is_mended_on pair) opening
comes_on pair rests on = tt
comes_on pair (ticks shown) on = tt
comes_on pair (mends bearer) on = on
comes_on pair (cuts bearer) on = on
comes_on pair (makes bearer is_mended) on = on
comes_on pair (hears bearer es er p by shown) on = on

pub sends_on_mended : SendsOnMended
sends_on_mended v w pair opening messages reply x fs h stand one on t =
    let M = is_mended_on pair in
    let both : Both (IsOn M) (pair_seen v) = record {
      two = omega arith;
      near = stands_on v w (M 0) 0 M refl h (v.ends 0) refl stand.near;
      far = stands_on v w (M 1) 1 M refl h (v.ends 1) refl stand.far;
    } in
    turn_sends M (pair_seen v) x opening messages reply fs one (comes_on pair opening on) both t
