-- What a call makes of a link end: it stays as it was, takes an epoch, goes up, or goes down.
use Rattle.std.proofs.Common.{◌∙◌, ◌≡◌, None, Option, Some, ap, false, option_map, refl, subst, sym, true, ℕ}
use Rattle.std.proofs.lemmas.Bool.{true≢false}
use Rattle.tipc_types.specs.LinkStates.{is_up}
use Rattle.tipc_types.specs.declared.link_words.Reply.TheVariants as reply
use Rattle.tipc_link_fsm.specs.Table.{Fsm, Outcome, apart, contact_ended, forget_peer, forgot_peer, is_last}
use Rattle.tipc_link_fsm.specs.declared.changes.Change.{Change}
use Rattle.tipc_link_fsm.specs.declared.changes.Change.TheVariants.{Answer, Up}
use Rattle.tipc_link_fsm.proofs.Moves.{cases_on}
use Rattle.tipc_link.specs.Links.{LinkEnd, after, followed, known, record_in, record_of, session_of, with_fsm}
use Rattle.tipc_link.specs.Records.{Early, kept_for}
use Rattle.tipc_link.specs.Sessions.{SessionEnd, receiving_record, after_state}
use Rattle.tipc_link.proofs.KeptRecords.{session_again}
use Rattle.tipc_link.specs.Parts.{is_quiet}
use Rattle.tipc_link.proofs.EndsTurns.{Learns, Rises, Stays}

-- ---- sessions of the same epochs

pub record Alike (s s' : SessionEnd) : Type 0 where
  pub own : s'.own ≡ s.own
  pub peer : s'.peer ≡ s.peer
  pub bearer : s'.bearer ≡ s.bearer
  pub epoch : s'.epoch ≡ s.epoch
  pub peer_epoch : s'.peer_epoch ≡ s.peer_epoch

pub alike-same : (s : SessionEnd) → Alike s s
alike-same s = record { own = refl; peer = refl; bearer = refl; epoch = refl; peer_epoch = refl }

-- two sessions of the same epochs, or none
pub record AreLike (a b : Option SessionEnd) : Type 0 where
  pub onward : (s : SessionEnd) → a ≡ Some s → (s' : SessionEnd) × (b ≡ Some s') × Alike s s'
  pub back : (s' : SessionEnd) → b ≡ Some s' → (s : SessionEnd) × (a ≡ Some s) × Alike s s'

pub like-same : (a b : Option SessionEnd) → b ≡ a → AreLike a b
like-same a b same = record {
  onward = λ s is. (s, same ∙ is, alike-same s);
  back = λ s is. (s, sym same ∙ is, alike-same s);
}

pub like-map : (g : SessionEnd → SessionEnd) (a : Option SessionEnd) → ((s : SessionEnd) → Alike s (g s)) → AreLike a (option_map g a)
like-map g None alike = record {
  onward = λ s is. absurd (let wrong : ⊥ = cc in wrong);
  back = λ s is. absurd (let wrong : ⊥ = cc in wrong);
}
like-map g (Some t) alike = record {
  onward = λ s is. (let same : t ≡ s = cc in (g s, ap (λ u. Some (g u)) same, alike s));
  back = λ s' is. (let same : g t ≡ s' = cc in (t, refl, subst (Alike t) same (alike t)));
}

-- ---- an end after an outcome

-- its session then
abbrev pub followed_session : LinkEnd → Change → Option SessionEnd
followed_session e Up = Some (session_of e)
followed_session e (Answer (reply.State probe)) = option_map after_state e.session
followed_session e other = e.session

-- a session that begins takes the record of before with it
abbrev pub followed_early : LinkEnd → Change → Option Early
followed_early e Up = None
followed_early e other = e.early

pub followed-is : (e : LinkEnd) (change : Change) → followed e change ≡ record e { session = followed_session e change; early = followed_early e change }
followed-is e Up = refl
followed-is e (Answer (reply.State probe)) = refl
followed-is e other = refl

pub after-is : (e : LinkEnd) (o : Outcome) → after e o ≡ record e { fsm = o.after; session = followed_session (with_fsm e o.after) o.change; early = followed_early (with_fsm e o.after) o.change }
after-is e o = followed-is (with_fsm e o.after) o.change

pub seen_after : (e : LinkEnd) (o : Outcome) → (after e o).peer_contact ≡ e.peer_contact
seen_after e o = ap (λ (d : LinkEnd). d.peer_contact) (after-is e o)

quiet_session : (e : LinkEnd) (change : Change) → is_quiet change ≡ true → AreLike e.session (followed_session e change)
quiet_session e Up quiet = absurd (let wrong : ⊥ = cc in wrong)
quiet_session e (Answer (reply.State probe)) quiet = like-map after_state e.session (λ s. record { own = refl; peer = refl; bearer = refl; epoch = refl; peer_epoch = refl })
quiet_session e other quiet = like-same e.session e.session refl

told_record : (o : Option SessionEnd) (early : Option Early) → record_in (option_map after_state o) early ≡ record_in o early
told_record None early = refl
told_record (Some s) early = refl

-- and its receiving record
pub quiet_record : (e : LinkEnd) (change : Change) → is_quiet change ≡ true → record_in (followed_session e change) (followed_early e change) ≡ record_of e
quiet_record e Up quiet = absurd (let wrong : ⊥ = cc in wrong)
quiet_record e (Answer (reply.State probe)) quiet = told_record e.session e.early
quiet_record e other quiet = refl

-- ---- an end that stays as it was, but for silence and what a session has done

pub record IsStill (e e' : LinkEnd) : Type 0 where
  pub own : e'.own ≡ e.own
  pub peer : e'.peer ≡ e.peer
  pub bearer : e'.bearer ≡ e.bearer
  pub contact : e'.contact ≡ e.contact
  pub seen : e'.peer_contact ≡ e.peer_contact
  pub epoch : e'.fsm.own ≡ e.fsm.own
  pub peer_epoch : e'.fsm.peer ≡ e.fsm.peer
  pub highest : e'.fsm.highest ≡ e.fsm.highest
  pub up : is_up e'.fsm.state ≡ is_up e.fsm.state
  pub sessions : AreLike e.session e'.session

pub stays_still : (e : LinkEnd) (o : Outcome) → Stays e.fsm o → IsStill e (after e o)
stays_still e o m = subst (IsStill e) (sym (after-is e o)) (record {
  own = refl;
  peer = refl;
  bearer = refl;
  contact = refl;
  seen = refl;
  epoch = m.own;
  peer_epoch = m.peer;
  highest = m.highest;
  up = m.up;
  sessions = quiet_session (with_fsm e o.after) o.change m.quiet;
})

-- ---- an end that is down takes an epoch

pub record IsTaught (e e' : LinkEnd) : Type 0 where
  pub own : e'.own ≡ e.own
  pub peer : e'.peer ≡ e.peer
  pub bearer : e'.bearer ≡ e.bearer
  pub contact : e'.contact ≡ e.contact
  pub epoch : e'.fsm.own ≡ e.fsm.own
  pub was : is_up e.fsm.state ≡ false
  pub down : is_up e'.fsm.state ≡ false
  pub session : e'.session ≡ e.session

pub learns_taught : (e : LinkEnd) (shown : Option (ℕ × ℕ)) (o : Outcome) → Learns e.fsm shown o → IsTaught e (after e o)
learns_taught e shown o m = subst (IsTaught e) (sym (ap (followed (with_fsm e o.after)) m.change)) (record {
  own = refl;
  peer = refl;
  bearer = refl;
  contact = refl;
  epoch = m.own;
  was = m.was;
  down = m.down;
  session = refl;
})

-- ---- an end that goes up

pub record IsRaised (e e' : LinkEnd) : Type 0 where
  pub own : e'.own ≡ e.own
  pub peer : e'.peer ≡ e.peer
  pub bearer : e'.bearer ≡ e.bearer
  pub contact : e'.contact ≡ e.contact
  pub epoch : e'.fsm.own ≡ e.fsm.own
  pub goes_on : is_last e.fsm.own ≡ false
  pub was : is_up e.fsm.state ≡ false
  pub up : is_up e'.fsm.state ≡ true
  pub peer_epoch : ℕ
  pub peer_is : e'.fsm.peer ≡ Some peer_epoch
  pub session : e'.session ≡ Some (session_of e')
  -- with the record of the peer's epoch, or a new one
  pub kept : receiving_record (session_of e') ≡ kept_for (record_of e) peer_epoch

pub rises_raised : (e : LinkEnd) (shown : Option (ℕ × ℕ)) (o : Outcome) → Rises e.fsm shown o → IsRaised e (after e o)
rises_raised e shown o m = subst (IsRaised e) (sym (ap (followed (with_fsm e o.after)) m.change)) (record {
  own = refl;
  peer = refl;
  bearer = refl;
  contact = refl;
  epoch = m.own;
  goes_on = m.goes_on;
  was = m.was;
  up = m.up;
  peer_epoch = m.es;
  peer_is = m.peer;
  session = ap Some (session_again (with_fsm e o.after));
  kept = ap receiving_record (sym (session_again (with_fsm e o.after))) ∙ ap (λ p. kept_for (record_of e) (known p)) m.peer;
})

-- ---- an end that goes down, and its contact ends

pub ended-is : (f : Fsm) → (contact_ended f).after ≡ apart f
unfolding contact_ended
ended-is f = cases_on (λ o. o.after ≡ apart f) (is_up f.state) _ _ (λ _. refl) (λ _. refl)

pub forgotten-is : (f : Fsm) → is_up f.state ≡ false → (forget_peer f).after ≡ forgot_peer f
unfolding forget_peer
forgotten-is f down = cases_on (λ o. o.after ≡ forgot_peer f) (is_up f.state) _ _ (λ up. absurd (true≢false (sym up ∙ down))) (λ _. refl)
