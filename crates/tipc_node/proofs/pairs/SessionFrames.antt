-- Each frame that leaves a pair in a turn names a session that is over, where it brings an original tunnel packet.
use Rattle.std.specs.Prelude.{All, IfSome, ◌==◌, if◌then◌else◌}
use Rattle.std.specs.List.{flat_map}
use Rattle.std.proofs.Common.{◌≡◌, ◌≤◌, ◌<◌, ◌^◌, ◌∙◌, ℕ, Bool, true, false, List, [], ◌∷◌, Option, Some, None, map, option_map, refl, sym, ap, subst, arith}
use Rattle.std.proofs.lemmas.Grind.{flat_map-append}
use Rattle.std.proofs.lemmas.List.Elements.{All-append, All-cons, All-drop, All-nil}
use Rattle.tipc_types.specs.LinkStates.{is_up}
use Rattle.tipc_types.specs.declared.link_words.BroadcastState.{BroadcastState}
use Rattle.tipc_types.specs.declared.link_words.Reply.TheVariants as reply
use Rattle.tipc_types.specs.declared.message_forms.Message.{Message}
use Rattle.tipc_outside.specs.declared.outgoing.Outgoing.{Outgoing}
use Rattle.tipc_header.specs.declared.packet.Header.TheVariants as header
use Rattle.tipc_header.specs.Spelling.{spelling}
use Rattle.tipc_link_fsm.specs.declared.changes.Change.{Change}
use Rattle.tipc_link_fsm.specs.declared.changes.Change.TheVariants.{Answer, Down, Up}
use Rattle.tipc_link_fsm.specs.Table.{Fsm, Outcome, on_reset, on_tick, release}
use Rattle.tipc_send_window.specs.Sending.{Sending, release_count}
use Rattle.tipc_link.specs.Links.{LinkEnd, activate_frames, after, follow_frames, frames, frames_with, is_answer, is_down, is_heard, is_reset_unknown, known, mend_frames, mended_end, newly_numbered, notice, notice_fields, outcome_of, release_frames, repeats_at, reset_frames, sent_again, session_answer, session_of, shown_by, state_frames, with_fsm}
use Rattle.tipc_link.specs.Sessions.{Carries, Content, Nothing, SessionEnd, Shows, after_acknowledgement, again_frames, content_of, flush_frames, heard, is_due, moved_frames, put, repeated, spoke, state_frame, with_broadcast}
use Rattle.tipc_pair.specs.Addressed.{HasEpochs}
use Rattle.tipc_pair.specs.Changeovers.{contact_begins, contact_ends, fail_over, fail_over_to, failing, following, forgotten, gone_down, gone_up, parted, switch, switch_from, switching}
use Rattle.tipc_pair.specs.Courses.{Course, going_on, rests as nothing}
use Rattle.tipc_pair.specs.Facing.{PairEnds, ends_of, facing, in_contact, is_up_at, made_of, other, with_near}
use Rattle.tipc_pair.specs.PairTurns.{MakesNew, Opening, PairTurn, Reply}
use Rattle.tipc_pair.specs.Runs.{left_by, taken_over}
use Rattle.tipc_pair.proofs.EndSteps.{outcome_moves}
use Rattle.tipc_pair.proofs.acts.Acts.{Act, Acts, Steps, gone}
use Rattle.tipc_pair.proofs.acts.Acts.Acts.{answered, counted, let_go_of, made, mended, moved, opened, put as posts, raised}
use Rattle.tipc_pair.proofs.acts.Acts.Steps.{cut, meet, name, reset, tick}
use Rattle.tipc_pair.proofs.acts.Acting.{MayTurn, turn_course, turn_frames, turn_pair, turn_ran}
use Rattle.tipc_pair.proofs.acts.Walks.{Walk, goes, step_moves, tested, walks}
use Rattle.tipc_pair.proofs.turns.PairKept.{both_turned}
use Rattle.tipc_node.specs.Messages.{IsSendable, bytes_of}
use Rattle.tipc_node.specs.Numbers.{NeverFalls, own_epoch_on}
use Rattle.tipc_node.specs.Originals.{BringsEnded, HasSessions, IsSessionOf}
use Rattle.tipc_node.proofs.pairs.Bringing.{IsStanding, activate_plain, each_standing, flush_brings, notice_brings, repeat_brings, reset_plain, state_brings}
use Rattle.tipc_node.proofs.pairs.Originals.{IsHandedOver}
use Rattle.tipc_node.proofs.pairs.Sessions.{AreUnder, IsOwn, MayAct, Ours, Stays, after_own, before_own, down_then, epochs_fit, far_own, followed_pair, left_handed, may_first, may_put, near_now, near_own, over_handed, posted_before, rises_so, session_at, staying, step_falls, step_own, under_before, under_itself, under_turned, up_after}
use Rattle.tipc_node.proofs.pairs.Rising.{Rises}

-- ---- a session

one_brings : (F : ℕ → ℕ) (o : Outgoing) → BringsEnded F o → All (BringsEnded F) (o ∷ [])
one_brings F o h = All-cons (BringsEnded F) o [] h (All-nil (BringsEnded F))

none_brings : (F : ℕ → ℕ) → All (BringsEnded F) []
none_brings F = All-nil (BringsEnded F)

waiting_standing : (F : ℕ → ℕ) (b : ℕ) (f : Fsm) (s : SessionEnd) → IsSessionOf F b f s → All (IsStanding F) s.sending.waiting
waiting_standing F b f s h = each_standing F s.sending.waiting h.on.waiting h.waiting

unacked_standing : (F : ℕ → ℕ) (b : ℕ) (f : Fsm) (s : SessionEnd) → IsSessionOf F b f s → All (IsStanding F) s.sending.unacked
unacked_standing F b f s h = each_standing F s.sending.unacked h.on.unacked h.unacked

again_brings : (F : ℕ → ℕ) (b : ℕ) (f : Fsm) (s : SessionEnd) (acknowledgement : ℕ) (c : Content) → IsSessionOf F b f s → All (BringsEnded F) (again_frames s acknowledgement c)
again_brings F b f s acknowledgement (Shows next gap probe) h =
    repeat_brings F (after_acknowledgement s acknowledgement) acknowledgement gap (All-drop (IsStanding F) (release_count s.sending acknowledgement) s.sending.unacked (unacked_standing F b f s h))
again_brings F b f s acknowledgement (Carries number packet) h = none_brings F
again_brings F b f s acknowledgement Nothing h = none_brings F

spoke_sending : {A : Type 0} (s : SessionEnd) (xs : List A) → (spoke s xs).sending ≡ s.sending
spoke_sending s [] = refl
spoke_sending s (x ∷ xs) = refl

heard_waiting : (s : SessionEnd) (by acknowledgement : ℕ) (c : Content) → (heard s by acknowledgement c).sending.waiting ≡ s.sending.waiting
heard_waiting s by acknowledgement (Shows next gap probe) =
    ap (λ (w : Sending). w.waiting) (spoke_sending (after_acknowledgement s acknowledgement) (repeated (after_acknowledgement s acknowledgement) acknowledgement gap))
heard_waiting s by acknowledgement (Carries number packet) = refl
heard_waiting s by acknowledgement Nothing = refl

moved_brings : (F : ℕ → ℕ) (s : SessionEnd) (c : Content) → All (IsStanding F) s.sending.waiting → All (BringsEnded F) (moved_frames c s)
moved_brings F s (Shows next gap probe) h = flush_brings F s h
moved_brings F s (Carries number packet) h = flush_brings F s h
moved_brings F s Nothing h = none_brings F

-- of an end, where it has one
again_at : (F : ℕ → ℕ) (b : ℕ) (f : Fsm) (session : Option SessionEnd) (acknowledgement : ℕ) (c : Content) → IfSome session (IsSessionOf F b f) → All (BringsEnded F) (sent_again session acknowledgement c)
again_at F b f None acknowledgement c h = none_brings F
again_at F b f (Some s) acknowledgement c h = again_brings F b f s acknowledgement c h

newly_at : (F : ℕ → ℕ) (b : ℕ) (f : Fsm) (session : Option SessionEnd) (by acknowledgement : ℕ) (c : Content) → IfSome session (IsSessionOf F b f) → All (BringsEnded F) (newly_numbered session by acknowledgement c)
newly_at F b f None by acknowledgement c h = none_brings F
newly_at F b f (Some s) by acknowledgement c h =
    moved_brings F (heard s by acknowledgement c) c (subst (All (IsStanding F)) (sym (heard_waiting s by acknowledgement c)) (waiting_standing F b f s h))

states_bring : (F : ℕ → ℕ) (session : Option SessionEnd) (shown : BroadcastState) (probe : Bool) → All (BringsEnded F) (state_frames session shown probe)
states_bring F None shown probe = none_brings F
states_bring F (Some s) shown probe = one_brings F (state_frame s shown probe) (state_brings F s shown probe)

answer_brings : (F : ℕ → ℕ) (session : Option SessionEnd) (shown : BroadcastState) → All (BringsEnded F) (session_answer session shown)
answer_brings F None shown = none_brings F
answer_brings F (Some s) shown = tested (All (BringsEnded F)) (is_due s) (state_frame s shown false ∷ []) [] (λ _. one_brings F (state_frame s shown false) (state_brings F s shown false)) (λ _. none_brings F)

-- packets that are put move up
put_brings : (F : ℕ → ℕ) (b : ℕ) (f : Fsm) (s : SessionEnd) (packets : List (List ℕ)) → IsHandedOver F packets → IsSessionOf F b f s → All (BringsEnded F) (flush_frames (put s packets))
put_brings F b f s packets handed h =
    flush_brings F (put s packets) (All-append (IsStanding F) s.sending.waiting packets (waiting_standing F b f s h) (each_standing F packets handed.listed handed.named))

-- ---- link states

resets_bring : (F : ℕ → ℕ) (e : LinkEnd) → All (BringsEnded F) (reset_frames e)
resets_bring F e =
    let said = notice e (header.Reset (shown_by e)) in
    tested (All (BringsEnded F)) e.mended (said ∷ []) []
    (λ _. one_brings F said (notice_brings F said e.fsm.own (known e.fsm.peer) (spelling (notice_fields e (header.Reset (shown_by e)))) refl (reset_plain e (shown_by e)))) (λ _. none_brings F)

activates_bring : (F : ℕ → ℕ) (e : LinkEnd) → All (BringsEnded F) (activate_frames e)
activates_bring F e =
    let said = notice e (header.Activate (shown_by e)) in
    tested (All (BringsEnded F)) e.mended (said ∷ []) []
    (λ _. one_brings F said (notice_brings F said e.fsm.own (known e.fsm.peer) (spelling (notice_fields e (header.Activate (shown_by e)))) refl (activate_plain e (shown_by e)))) (λ _. none_brings F)

follow_brings : (F : ℕ → ℕ) (e : LinkEnd) (change : Change) (shown : BroadcastState) → All (BringsEnded F) (follow_frames e change shown)
follow_brings F e Up shown = one_brings F (state_frame (session_of e) shown false) (state_brings F (session_of e) shown false)
follow_brings F e (Answer reply.Reset) shown = resets_bring F e
follow_brings F e (Answer reply.Activate) shown = activates_bring F e
follow_brings F e (Answer (reply.State probe)) shown = states_bring F e.session shown probe
follow_brings F e other shown = none_brings F

mends_bring : (F : ℕ → ℕ) (e : LinkEnd) → All (BringsEnded F) (mend_frames e)
mends_bring F e = tested (All (BringsEnded F)) (is_reset_unknown e.fsm.state) (reset_frames (mended_end e)) [] (λ _. resets_bring F (mended_end e)) (λ _. none_brings F)

releases_bring : (F : ℕ → ℕ) (e : LinkEnd) → All (BringsEnded F) (release_frames e)
releases_bring F e =
    tested (All (BringsEnded F)) (is_answer (release e.fsm).change) (reset_frames (with_fsm e (release e.fsm).after)) [] (λ _. resets_bring F (with_fsm e (release e.fsm).after)) (λ _. none_brings F)

answers_bring : (F : ℕ → ℕ) (e : LinkEnd) (taken : ℕ) (asks : Bool) (shown : BroadcastState) → All (BringsEnded F) (frames_with e taken asks shown)
answers_bring F e taken asks shown =
    tested (All (BringsEnded F)) (is_up e.fsm.state) (session_answer (option_map (λ s. with_broadcast s taken asks) e.session) shown) []
    (λ _. answer_brings F (option_map (λ s. with_broadcast s taken asks) e.session) shown) (λ _. none_brings F)

made_bring : (F : ℕ → ℕ) (o : Option LinkEnd) → All (BringsEnded F) (flat_map reset_frames (made_of o))
made_bring F None = none_brings F
made_bring F (Some e) = All-append (BringsEnded F) (reset_frames e) [] (resets_bring F e) (none_brings F)

ends_bring : (F : ℕ → ℕ) (x : PairEnds) → All (BringsEnded F) (flat_map reset_frames (ends_of x))
ends_bring F x =
    subst (All (BringsEnded F)) (sym (flat_map-append reset_frames (made_of (facing 0 x).near) (made_of (facing 1 x).near)))
    (All-append (BringsEnded F) (flat_map reset_frames (made_of (facing 0 x).near)) (flat_map reset_frames (made_of (facing 1 x).near)) (made_bring F (facing 0 x).near) (made_bring F (facing 1 x).near))

-- ---- a course

-- so are the frames of a course
record Brings (F : ℕ → ℕ) (c : Course) : Type 0 where
  states : All (BringsEnded F) c.states
  numbered : All (BringsEnded F) c.numbered

-- a course without frames
no_frames : (F : ℕ → ℕ) (c : Course) → c.states ≡ [] → c.numbered ≡ [] → Brings F c
no_frames F c states numbered = record { states = subst (All (BringsEnded F)) (sym states) (none_brings F); numbered = subst (All (BringsEnded F)) (sym numbered) (none_brings F) }

-- the frames of the step of an end
record StepBrings (F : ℕ → ℕ) (states numbered : List Outgoing) : Type 0 where
  first : All (BringsEnded F) states
  behind : All (BringsEnded F) numbered

step_brings : (F : ℕ → ℕ) (b : ℕ) (x : PairEnds) (a : Act) (e : LinkEnd) (o : Outcome) (e' : LinkEnd) (states numbered : List Outgoing) (epoch : ℕ) → Steps x e a o e' states numbered epoch → IsOwn F b e → StepBrings F states numbered
step_brings F b x _ e _ _ _ _ _ cut h = record { first = none_brings F; behind = none_brings F }
step_brings F b x _ e _ _ _ _ _ (tick shown) h = record { first = follow_brings F (with_fsm e (on_tick e.fsm (is_up_at x.far)).after) (on_tick e.fsm (is_up_at x.far)).change shown; behind = none_brings F }
step_brings F b x _ e _ _ _ _ _ (reset es held shown) h = record { first = follow_brings F (with_fsm e (on_reset e.fsm es held).after) (on_reset e.fsm es held).change shown; behind = none_brings F }
step_brings F b x _ e _ _ _ _ _ (meet es er p by shown) h =
    let o = outcome_of e.fsm p.header es er (is_up_at x.far) in
    let c = content_of p in
    let now = after_own F b e (Some (es, er)) o h (outcome_moves e.fsm p.header es er (is_up_at x.far)) in
    let d = after e o in
    record {
      first = All-append (BringsEnded F) (frames e o shown) (repeats_at e o p) (follow_brings F (with_fsm e o.after) o.change shown)
          (tested (All (BringsEnded F)) (is_heard p.header o.change) (sent_again d.session p.acknowledgement c) [] (λ _. again_at F b d.fsm d.session p.acknowledgement c now.session) (λ _. none_brings F));
      behind = tested (All (BringsEnded F)) (is_heard p.header o.change) (newly_numbered d.session by p.acknowledgement c) [] (λ _. newly_at F b d.fsm d.session by p.acknowledgement c now.session) (λ _. none_brings F);
    }
step_brings F b x _ e _ _ _ _ _ (name epoch) h = record { first = none_brings F; behind = none_brings F }

module _ (F : ℕ → ℕ) (fits : (b : ℕ) → b ≤ 1 → F b < 2 ^ 64) where
  failing_brings : (x : PairEnds) (near far : LinkEnd) (lost s : Option SessionEnd) → x.near ≡ Some near → x.far ≡ Some far → near.session ≡ lost → far.session ≡ s → is_up near.fsm.state ≡ false → AreUnder F x → Ours F x
      → Brings F (failing x near far lost s)
  failing_brings x near far (Some lost) (Some s) one two first second down under h = record {
    states = none_brings F;
    numbered = put_brings F (other x.bearer) far.fsm s (left_by lost) (left_handed F fits x near lost one first down under h) (session_at F (other x.bearer) far s (far_own F fits x far two h) second);
  }
  failing_brings x near far (Some lost) None one two first second down under h = no_frames F (nothing x) refl refl
  failing_brings x near far None s one two first second down under h = no_frames F (nothing x) refl refl

  fail_over_brings : (x : PairEnds) (o p : Option LinkEnd) → x.near ≡ o → x.far ≡ p → is_up_at o ≡ false → AreUnder F x → Ours F x → Brings F (fail_over_to x o p)
  fail_over_brings x (Some near) (Some far) one two down under h = failing_brings x near far near.session far.session one two refl refl down under h
  fail_over_brings x (Some near) None one two down under h = no_frames F (nothing x) refl refl
  fail_over_brings x None p one two down under h = no_frames F (nothing x) refl refl

  switching_brings : (x : PairEnds) (near far : LinkEnd) (s old : Option SessionEnd) → x.near ≡ Some near → x.far ≡ Some far → near.session ≡ s → far.session ≡ old → AreUnder F x → Ours F x → Brings F (switching x near far s old)
  switching_brings x near far (Some s) (Some old) one two first second under h = record {
    states = none_brings F;
    numbered = put_brings F x.bearer near.fsm s (taken_over old) (over_handed F fits x far old two second under h) (session_at F x.bearer near s (near_own F fits x near one h) first);
  }
  switching_brings x near far (Some s) None one two first second under h = no_frames F (nothing x) refl refl
  switching_brings x near far None old one two first second under h = no_frames F (nothing x) refl refl

  switch_brings : (x : PairEnds) (o p : Option LinkEnd) → x.near ≡ o → x.far ≡ p → AreUnder F x → Ours F x → Brings F (switch_from x o p)
  switch_brings x (Some near) (Some far) one two under h = switching_brings x near far near.session far.session one two refl refl under h
  switch_brings x (Some near) None one two under h = no_frames F (nothing x) refl refl
  switch_brings x None p one two under h = no_frames F (nothing x) refl refl

  up_brings : (x : PairEnds) → AreUnder F x → Ours F x → Brings F (gone_up x)
  up_brings x under h = tested (Brings F) (is_up_at x.far) (if x.bearer == 0 then switch x else nothing x) (contact_begins x)
      (λ _. tested (Brings F) (x.bearer == 0) (switch x) (nothing x) (λ _. switch_brings x x.near x.far refl refl under h) (λ _. no_frames F (nothing x) refl refl)) (λ _. no_frames F (contact_begins x) refl refl)

  contact_brings : (x : PairEnds) (contact : ℕ × ℕ) (shown : ℕ) → Brings F (contact_ends x contact shown)
  contact_brings x contact shown = record { states = ends_bring F (parted x); numbered = none_brings F }

  down_brings : (x : PairEnds) → is_up_at x.near ≡ false → AreUnder F x → Ours F x → Brings F (gone_down x)
  down_brings x down under h =
      tested (Brings F) (is_up_at x.far) (fail_over x) (contact_ends x (x.contact, x.seen) 0) (λ _. fail_over_brings x x.near x.far refl refl down under h) (λ _. contact_brings x (x.contact, x.seen) 0)

  following_brings : (x : PairEnds) (change : Change) (epoch : ℕ) → (is_down change ≡ true → is_up_at x.near ≡ false) → AreUnder F x → Ours F x → Brings F (following x change epoch)
  following_brings x Up epoch down under h = let k = up_brings x under h in record { states = k.states; numbered = k.numbered }
  following_brings x (Down cause) epoch down under h = let k = down_brings x (down refl) under h in record { states = k.states; numbered = k.numbered }
  following_brings x other epoch down under h = no_frames F (nothing x) refl refl

  act_brings : (x : PairEnds) (a : Act) (c : Course) → MayAct x a → Acts x a c → AreUnder F c.pair → Ours F x → Brings F c
  unfolding going_on
  act_brings _ _ _ may (made x) under h = no_frames F _ refl refl
  act_brings _ _ _ may (mended x e near) under h = record { states = mends_bring F e; numbered = none_brings F }
  act_brings _ _ _ may (moved x a e o e' states numbered epoch near step) under h =
      let was = near_own F fits x e near h in
      let m = step_moves x a e o e' states numbered epoch step in
      let y = with_near x e' in
      let up : o.change ≡ Up → is_up e'.fsm.state ≡ true = λ is. ap (λ (f : Fsm). is_up f.state) m.fsm ∙ up_after e.fsm m.shown o m.moves is in
      let down : is_down o.change ≡ true → is_up e'.fsm.state ≡ false = λ is. ap (λ (f : Fsm). is_up f.state) m.fsm
      ∙ down_then e.fsm m.shown o was.going m.moves (step_falls x a e o e' states numbered epoch step) is in
      let rose = goes MayAct Rises rises_so o.change y up in
      let before = under_before F fits y (gone o.change y) h.two rose (subst (AreUnder F) (followed_pair F fits y o.change epoch) under) in
      let first = step_brings F x.bearer x a e o e' states numbered epoch step was in
      let rest = following_brings y o.change epoch down before (near_now F fits x e' (step_own F x.bearer x a e o e' states numbered epoch step was) h) in
      record {
        states = All-append (BringsEnded F) states (following y o.change epoch).states first.first rest.states;
        numbered = All-append (BringsEnded F) numbered (following y o.change epoch).numbered first.behind rest.numbered;
      }
  act_brings _ _ _ may (raised x number) under h =
      tested (Brings F) (in_contact x) (contact_ends (record x { seen = number }) (x.contact, x.seen) number) (nothing (forgotten x number))
      (λ _. contact_brings (record x { seen = number }) (x.contact, x.seen) number) (λ _. no_frames F (nothing (forgotten x number)) refl refl)
  act_brings _ _ _ may (let_go_of x e near clear) under h = record { states = releases_bring F e; numbered = none_brings F }
  act_brings _ _ _ may (counted x e t by near) under h = no_frames F _ refl refl
  act_brings _ _ _ may (opened x packets given last brings) under h = no_frames F _ refl refl
  act_brings _ _ _ may (posts x e s pieces s' near has is) under h =
      let was = session_at F x.bearer e s (near_own F fits x e near h) has in
      let rest = posted_before F x.bearer e.fsm s s' pieces may.0 may.1 is was in
      record { states = none_brings F; numbered = flush_brings F s' (waiting_standing F x.bearer e.fsm s' rest) }
  act_brings _ _ _ may (answered x e taken asks shown near) under h = record { states = answers_bring F e taken asks shown; numbered = none_brings F }

-- the frames of a course bring what is over, where it ends under these epochs and its ends were own
record Says (F : ℕ → ℕ) (x : PairEnds) (c : Course) : Type 0 where
  stays : Stays F x c
  brings : AreUnder F c.pair → Ours F x → Brings F c

module _ (F : ℕ → ℕ) (fits : (b : ℕ) → b ≤ 1 → F b < 2 ^ 64) where
  saying : Walk MayAct (Says F)
  unfolding going_on
  saying = record {
    rests = λ x. record { stays = (staying F fits).rests x; brings = λ under h. no_frames F (nothing x) refl refl };
    goes_on = λ x first step one two. record {
      stays = (staying F fits).goes_on x first step one.stays two.stays;
      brings = λ under h. (
          let on = one.stays.rises.bearer h.two in
          let here = h.two in
          let before = under_before F fits first.pair (step first.pair) (omega (arith, on, here)) two.stays.rises under in
          let a = one.brings before h in
          let b = two.brings under (one.stays.own before h) in
          record { states = All-append (BringsEnded F) first.states (step first.pair).states a.states b.states; numbered = All-append (BringsEnded F) first.numbered (step first.pair).numbered a.numbered b.numbered });
    };
    turns = λ x c there. record {
      stays = (staying F fits).turns x c there.stays;
      brings = λ under h. (
          let k = there.brings (under_turned F fits x c there.stays.rises under) (both_turned (IsOwn F) x h) in
          record { states = k.states; numbered = k.numbered });
    };
    acts = λ x a c may does. record { stays = (staying F fits).acts x a c may does; brings = act_brings F fits x a c may does };
  }

pub turn_brings : (own : ℕ) (x y : PairEnds) (opening : Opening) (ms : List Message) (reply : Option Reply) (frames : List Outgoing) → x.bearer ≡ 0 → y.bearer ≡ 0 → HasEpochs x → HasEpochs y → NeverFalls x y → MakesNew x opening
    → All (IsSendable own) ms → PairTurn x opening (map (bytes_of own) ms) reply y frames → HasSessions x → All (BringsEnded (own_epoch_on y)) frames
turn_brings own x y opening ms reply frames first again epochs after rose new sendable t h =
    let F = own_epoch_on y in
    let fits = epochs_fit y again after in
    let may : MayTurn MayAct x opening (map (bytes_of own) ms) reply = record { happens = may_first x opening new; puts = may_put own ms sendable; answers = λ r is z. tt } in
    let two : x.bearer ≤ 1 = omega (arith, first) in
    let run = turn_ran MayAct (λ z. tt) x y opening (map (bytes_of own) ms) reply frames two may t in
    let all = walks MayAct (Says F) (saying F fits) x (turn_course t) run in
    let k = all.brings (subst (AreUnder F) (turn_pair x y opening (map (bytes_of own) ms) reply frames t) (under_itself y again)) (before_own F x epochs rose.epochs two h) in
    turn_frames (BringsEnded F) x y opening (map (bytes_of own) ms) reply frames t k.states k.numbered
