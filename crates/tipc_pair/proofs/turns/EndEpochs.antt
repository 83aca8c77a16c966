-- Each step of a link end leaves its sessions on its bearer, and under its own epoch while the link is up; and its frames are under the epoch that it
-- has then, which is no lower than before.
use Rattle.std.specs.Prelude.{All, ◌==◌, ◌&&◌, ◌||◌, nat_le, nat_lt, not, if◌then◌else◌}
use Rattle.std.proofs.Common.{◌≡◌, ◌≤◌, ◌+◌, ◌∙◌, ℕ, Bool, true, false, [], Option, refl, sym, subst, ap, arith, inl, inr}
use Rattle.std.proofs.lemmas.List.Elements.{All-nil}
use Rattle.tipc_types.specs.LinkStates.{is_up}
use Rattle.tipc_types.specs.declared.link_words.BroadcastState.{BroadcastState}
use Rattle.tipc_types.specs.declared.link_words.LinkState.{LinkState}
use Rattle.tipc_types.specs.declared.link_words.LinkState.TheVariants.{Held, ResetReset, ResetUnknown, WorkingUnknown, WorkingWorking}
use Rattle.tipc_types.specs.declared.link_words.Reply.TheVariants as reply
use Rattle.tipc_header.specs.declared.packet.Header.{Header}
use Rattle.tipc_header.specs.declared.packet.Header.TheVariants as header
use Rattle.tipc_header.specs.Spelling.{Fields}
use Rattle.tipc_link_fsm.specs.declared.changes.Change.{Change}
use Rattle.tipc_link_fsm.specs.declared.changes.Change.TheVariants.{Answer, Up}
use Rattle.tipc_link_fsm.specs.Table.{Fsm, Outcome, forget_peer, is_held, is_in_reset, is_last, is_peer, is_reset_reset, is_session, next_epoch, on_activate, on_reset, on_tick, on_traffic, release, tick_in, up_tick}
use Rattle.tipc_link_fsm.proofs.Moves.{Moves, cases_on, falls, is_going_up, rises, stays as still}
use Rattle.tipc_link.specs.Links.{LinkEnd, after, arrival_end, followed, frames, heard_end, is_heard, is_taken, newly_numbered, numbers_at, outcome_of, repeats_at, sent_again, session_of, with_fsm}
use Rattle.tipc_link.specs.Sessions.{SessionEnd, arrived, content_of, after_state}
use Rattle.tipc_link.proofs.Ends.{ended-is}
use Rattle.tipc_pair.specs.Changeovers.{parted_end}
use Rattle.tipc_pair.proofs.EndSteps.{fsm_after}
use Rattle.tipc_pair.proofs.acts.Walks.{tested}
use Rattle.tipc_pair.proofs.turns.FrameKinds.{AreSessionsAt, IsEndAt, MadeOf, again_at, arrived_same, follow_at, mapped_at, newly_at, some_at}
use Rattle.tipc_pair.proofs.turns.PairKept.{IsShown}
use Rattle.tipc_pair.proofs.turns.StatesHeard.{traffic}

-- ---- the link states

next_higher : (own : ℕ) → own ≤ next_epoch own
next_higher own = elim (is_last own) as (λ b. own ≤ (if b then own else own + 1)) [ true ↦ omega arith | false ↦ omega arith ]

-- the own epoch rises
pub moves_rise : (f : Fsm) (shown : Option (ℕ × ℕ)) (o : Outcome) → Moves f shown o → f.own ≤ o.after.own
moves_rise f shown o (still own up quiet) = omega (arith, own)
moves_rise f shown o (rises es own was up last it peer rising) = omega (arith, own)
moves_rise f shown o (falls own down quiet) = let higher = next_higher f.own in omega (arith, own, higher)

-- a link that is up then, and didn't go up, was up under the same epoch
moves_back : (f : Fsm) (shown : Option (ℕ × ℕ)) (o : Outcome) → Moves f shown o → is_going_up o.change ≡ false → is_up o.after.state ≡ true → (is_up f.state ≡ true) × (f.own ≡ o.after.own)
moves_back f shown o (still own up quiet) low is = (sym up ∙ is, sym own)
moves_back f shown o (rises es own was up last it peer rising) low is = absurd (let wrong : false ≡ true = sym low ∙ rising in cc)
moves_back f shown o (falls own down quiet) low is = absurd (let wrong : false ≡ true = sym down ∙ is in cc)

pub forget_quiet : (f : Fsm) → is_going_up (forget_peer f).change ≡ false
unfolding forget_peer
forget_quiet f = cases_on (λ o. is_going_up o.change ≡ false) (is_up f.state) _ _ (λ _. refl) (λ _. refl)

pub release_quiet : (f : Fsm) → is_going_up (release f).change ≡ false
unfolding release
release_quiet f = cases_on (λ o. is_going_up o.change ≡ false) (is_held f.state) _ _ (λ _. refl) (λ _. refl)

-- a STATE is said by a link that is up
abbrev SaysUp : Outcome → Type 0
SaysUp o = (probe : Bool) → o.change ≡ Answer (reply.State probe) → is_up o.after.state ≡ true

up_says : (f : Fsm) (held : Bool) → SaysUp (up_tick f held)
up_says f held = cases_on SaysUp (f.silent == 4) _ _ (λ _ probe is. absurd cc)
    (λ _ probe is. tested (λ st. is_up st ≡ true) (nat_le 1 f.silent) WorkingUnknown WorkingWorking (λ _. refl) (λ _. refl))

tick_in_says : (st : LinkState) (f : Fsm) (held : Bool) → SaysUp (tick_in st f held)
tick_in_says ResetUnknown f held = λ probe is. absurd cc
tick_in_says ResetReset f held = λ probe is. absurd cc
tick_in_says Held f held = λ probe is. absurd cc
tick_in_says WorkingWorking f held = up_says f held
tick_in_says WorkingUnknown f held = up_says f held

pub tick_says : (f : Fsm) (held : Bool) → SaysUp (on_tick f held)
unfolding on_tick
tick_says f held = tick_in_says f.state f held

pub reset_says : (f : Fsm) (es : ℕ) (held : Bool) → SaysUp (on_reset f es held)
unfolding on_reset
reset_says f es held =
    cases_on SaysUp (is_held f.state) _ _ (λ _ probe is. absurd cc) (λ _.
    cases_on SaysUp (nat_lt es f.highest || (is_up f.state && is_peer f.peer es)) _ _ (λ _ probe is. absurd cc) (λ _.
    cases_on SaysUp (is_up f.state) _ _ (λ _ probe is. absurd cc) (λ _ probe is. absurd cc)))

activate_says : (f : Fsm) (es er : ℕ) → SaysUp (on_activate f es er)
unfolding on_activate
activate_says f es er =
    cases_on SaysUp (is_held f.state) _ _ (λ _ probe is. absurd cc) (λ _.
    cases_on SaysUp ((is_in_reset f.state && not (is_last f.own)) && ((er == f.own) && not (nat_lt es f.highest))) _ _ (λ _ probe is. absurd cc) (λ _.
    cases_on SaysUp (is_up f.state && is_session f es er) _ _ (λ _ probe is. absurd cc) (λ _ probe is. absurd cc)))

traffic_says : (f : Fsm) (es er : ℕ) → SaysUp (on_traffic f es er)
unfolding on_traffic
traffic_says f es er =
    cases_on SaysUp (is_session f es er && (is_reset_reset f.state && not (is_last f.own))) _ _ (λ _ probe is. absurd cc) (λ _.
    cases_on SaysUp (is_session f es er && is_up f.state) _ _ (λ _ probe is. absurd cc) (λ _ probe is. absurd cc))

pub outcome_says : (f : Fsm) (h : Header) (es er : ℕ) (held : Bool) → SaysUp (outcome_of f h es er held)
outcome_says f (header.Reset r) es er held = reset_says f es held
outcome_says f (header.Activate a) es er held = activate_says f es er
outcome_says f (header.Discovery d) es er held = λ probe is. absurd cc
outcome_says f other es er held = traffic_says f es er

-- and a packet is heard by one
traffic_up : (f : Fsm) (es er : ℕ) → is_taken (on_traffic f es er).change ≡ true → is_up (on_traffic f es er).after.state ≡ true
traffic_up f es er taken = elim (traffic f es er) [ inl t ↦ t.up | inr apart ↦ absurd (let wrong : false ≡ true = sym (ap is_taken apart) ∙ taken in cc) ]

pub heard_up : (f : Fsm) (h : Header) (es er : ℕ) (held : Bool) → is_heard h (outcome_of f h es er held).change ≡ true → is_up (outcome_of f h es er held).after.state ≡ true
heard_up f (header.Reset r) es er held is = absurd cc
heard_up f (header.Activate a) es er held is = absurd cc
heard_up f (header.Discovery d) es er held is = absurd cc
heard_up f other es er held is = traffic_up f es er is

-- ---- a step of an end

weaker_at : (b : ℕ) (up up' : Bool) (own own' : ℕ) (session : Option SessionEnd) → (up' ≡ true → (up ≡ true) × (own ≡ own')) → AreSessionsAt b up own session → AreSessionsAt b up' own' session
weaker_at b up up' own own' session back h s has = ((h s has).0, λ is. (h s has).1 (back is).0 ∙ (back is).1)

-- with other link states, by which it didn't go up
pub moved_at : (b : ℕ) (e e' : LinkEnd) (shown : Option (ℕ × ℕ)) (o : Outcome) → IsEndAt b e → Moves e.fsm shown o → is_going_up o.change ≡ false → e'.fsm ≡ o.after → e'.bearer ≡ e.bearer → e'.session ≡ e.session → IsEndAt b e'
moved_at b e e' shown o h m quiet fsm on session = record {
  on = on ∙ h.on;
  session = subst (λ (f : Fsm). AreSessionsAt b (is_up f.state) f.own e'.session) (sym fsm)
      (subst (AreSessionsAt b (is_up o.after.state) o.after.own) (sym session) (weaker_at b _ _ _ _ e.session (λ is. moves_back e.fsm shown o m quiet is) h.session));
}

followed_at : (b : ℕ) (e : LinkEnd) (f : Fsm) (change : Change) → e.bearer ≡ b → (is_going_up change ≡ false → AreSessionsAt b (is_up f.state) f.own e.session) → IsEndAt b (followed (with_fsm e f) change)
followed_at b e f Up on h = record { on = on; session = some_at b (is_up f.state) f.own (session_of (with_fsm e f)) (on, λ _. refl) }
followed_at b e f (Answer (reply.State probe)) on h = record { on = on; session = mapped_at b (is_up f.state) f.own after_state e.session (λ s. record { bearer = refl; epoch = refl }) (h refl) }
followed_at b e f other on h = record { on = on; session = h refl }

pub parted_at : (b : ℕ) (e : LinkEnd) (contact seen : ℕ) → IsEndAt b e → IsEndAt b (parted_end contact seen e)
parted_at b e contact seen h = record {
  on = h.on;
  session = λ s has. ((h.session s has).0, λ is. absurd (let wrong : false ≡ true = sym (ap (λ (f : Fsm). is_up f.state) (ended-is e.fsm)) ∙ is in cc));
}

module _ (S : Type 0) (show : S → BroadcastState) (b : ℕ) where
  -- by an outcome of its link states
  pub after_at : (e : LinkEnd) (shown : Option (ℕ × ℕ)) (o : Outcome) (said : BroadcastState) → IsShown S show said → IsEndAt b e → Moves e.fsm shown o → SaysUp o → IsEndAt b (after e o) × All (MadeOf S show b o.after.own) (frames e o said)
  after_at e shown o said s h m says =
      let kept : is_going_up o.change ≡ false → AreSessionsAt b (is_up o.after.state) o.after.own e.session = λ quiet. weaker_at b _ _ _ _ e.session (λ is. moves_back e.fsm shown o m quiet is) h.session in
      let made = follow_at S show b o.after.own (with_fsm e o.after) o.change s.0 h.on refl
      (λ probe is t has. (let k = kept (ap is_going_up is) t has in (k.0, λ _. k.1 (says probe is)))) in
      (followed_at b e o.after o.change h.on kept, subst (λ k. All (MadeOf S show b o.after.own) (frames e o k)) s.1 made)

  -- and where a packet arrives
  pub arrival_at : (e : LinkEnd) (o : Outcome) (p : Fields) (by : ℕ) → (is_heard p.header o.change ≡ true → is_up o.after.state ≡ true) → IsEndAt b (after e o)
      → IsEndAt b (arrival_end e o p by) × All (MadeOf S show b o.after.own) (repeats_at e o p) × All (MadeOf S show b o.after.own) (numbers_at e o p by)
  arrival_at e o p by up k =
      let c = content_of p in
      let F = MadeOf S show b o.after.own in
      let sessions : is_heard p.header o.change ≡ true → AreSessionsAt b true o.after.own (after e o).session = λ is s has.
      (let at = k.session s has in (at.0, λ _. at.1 (ap (λ (f : Fsm). is_up f.state) (fsm_after e o) ∙ up is) ∙ ap (λ (f : Fsm). f.own) (fsm_after e o))) in (
        tested (IsEndAt b) (is_heard p.header o.change) (heard_end (after e o) by p.acknowledgement c) (after e o)
            (λ _. record { on = k.on; session = mapped_at b _ _ (λ s. arrived s by p.acknowledgement c) (after e o).session (λ s. arrived_same s by p.acknowledgement c) k.session }) (λ _. k),
        tested (All F) (is_heard p.header o.change) (sent_again (after e o).session p.acknowledgement c) [] (λ is. again_at S show b o.after.own (after e o).session p.acknowledgement c (sessions is)) (λ _. All-nil F),
        tested (All F) (is_heard p.header o.change) (newly_numbered (after e o).session by p.acknowledgement c) [] (λ is. newly_at S show b o.after.own (after e o).session by p.acknowledgement c (sessions is)) (λ _. All-nil F),
      )
