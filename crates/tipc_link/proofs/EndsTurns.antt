-- What a call makes of the link states of an end: all that it may do to the epochs, and whether the link is up.
use Rattle.std.specs.Prelude.{◌&&◌, ◌==◌, nat_lt, not}
use Rattle.std.proofs.Common.{◌≡◌, ◌≤◌, ◌⊎◌, Bool, None, Option, Some, ap, eqb-true, false, inl, inr, refl, sym, true, ℕ}
use Rattle.std.proofs.lemmas.Bool.{and_parts, ltb-false}
use Rattle.tipc_types.specs.LinkStates.{is_up}
use Rattle.tipc_types.specs.declared.link_words.Cause.{Cause}
use Rattle.tipc_types.specs.declared.link_words.LinkState.{LinkState}
use Rattle.tipc_types.specs.declared.link_words.LinkState.TheVariants.{Held, ResetReset, ResetUnknown, WorkingUnknown, WorkingWorking}
use Rattle.tipc_types.specs.declared.link_words.Reply.TheVariants as reply
use Rattle.tipc_link_fsm.specs.Table.{Fsm, Outcome, is_held, is_in_reset, is_last, is_peer, is_reset_reset, is_session, next_epoch, on_activate, on_traffic}
use Rattle.tipc_link_fsm.specs.declared.changes.Change.TheVariants.{Answer, Down, Stay, Up}
use Rattle.tipc_link_fsm.proofs.Moves.{cases_on, is_up_in_reset, not_true}
use Rattle.tipc_link.specs.Parts.{is_quiet}

-- both epochs stay, and the link is up or down as before; a STATE is said only by a link that is up
pub record Stays (f : Fsm) (o : Outcome) : Type 0 where
  pub own : o.after.own ≡ f.own
  pub peer : o.after.peer ≡ f.peer
  pub highest : o.after.highest ≡ f.highest
  pub up : is_up o.after.state ≡ is_up f.state
  pub quiet : is_quiet o.change ≡ true
  pub says : (probe : Bool) → o.change ≡ Answer (reply.State probe) → is_up f.state ≡ true

-- a link that is down takes the epoch that is shown
pub record Learns (f : Fsm) (shown : Option (ℕ × ℕ)) (o : Outcome) : Type 0 where
  pub es : ℕ
  pub er : ℕ
  pub shown_is : shown ≡ Some (es, er)
  pub own : o.after.own ≡ f.own
  pub peer : o.after.peer ≡ Some es
  pub highest : o.after.highest ≡ es
  pub no_lower : f.highest ≤ es
  pub was : is_up f.state ≡ false
  pub down : is_up o.after.state ≡ false
  pub change : o.change ≡ Answer reply.Activate

-- the link goes up, with the epoch that is shown
pub record Rises (f : Fsm) (shown : Option (ℕ × ℕ)) (o : Outcome) : Type 0 where
  pub es : ℕ
  pub shown_is : shown ≡ Some (es, f.own)
  pub own : o.after.own ≡ f.own
  pub peer : o.after.peer ≡ Some es
  pub highest : ((o.after.highest ≡ es) × (f.highest ≤ es)) ⊎ ((f.peer ≡ Some es) × (o.after.highest ≡ f.highest))
  pub goes_on : is_last f.own ≡ false
  pub was : is_up f.state ≡ false
  pub up : is_up o.after.state ≡ true
  pub change : o.change ≡ Up

-- the link goes down
pub record Falls (f : Fsm) (o : Outcome) : Type 0 where
  pub cause : Cause
  pub own : o.after.own ≡ next_epoch f.own
  pub peer : o.after.peer ≡ f.peer
  pub highest : o.after.highest ≡ f.highest
  pub was : is_up f.state ≡ true
  pub down : is_up o.after.state ≡ false
  pub change : o.change ≡ Down cause

pub data Turn (f : Fsm) (shown : Option (ℕ × ℕ)) (o : Outcome) : Type 0 where
  stay : Stays f o → Turn f shown o
  learn : Learns f shown o → Turn f shown o
  rise : Rises f shown o → Turn f shown o
  fall : Falls f o → Turn f shown o

-- nothing but what was heard is new
pub ignored : (f : Fsm) (shown : Option (ℕ × ℕ)) (o : Outcome) → o.after ≡ f → is_quiet o.change ≡ true → ((probe : Bool) → o.change ≡ Answer (reply.State probe) → is_up f.state ≡ true) → Turn f shown o
ignored f shown o same quiet says = stay (record {
  own = ap (λ (e : Fsm). e.own) same;
  peer = ap (λ (e : Fsm). e.peer) same;
  highest = ap (λ (e : Fsm). e.highest) same;
  up = ap (λ (e : Fsm). is_up e.state) same;
  quiet = quiet;
  says = says;
})

heard_reset : (st : LinkState) → is_reset_reset st ≡ true → is_up st ≡ false
heard_reset ResetReset here = refl
heard_reset ResetUnknown here = refl
heard_reset WorkingWorking here = absurd (let wrong : ⊥ = cc in wrong)
heard_reset WorkingUnknown here = absurd (let wrong : ⊥ = cc in wrong)
heard_reset Held here = refl

pub peer_is : (peer : Option ℕ) (es : ℕ) → is_peer peer es ≡ true → peer ≡ Some es
peer_is None es same = absurd (let wrong : ⊥ = cc in wrong)
peer_is (Some p) es same = ap Some (eqb-true p es same)

-- an end that hears its peer
hears : (f : Fsm) (shown : Option (ℕ × ℕ)) → is_up f.state ≡ true → Turn f shown (record { after = record { own = f.own; peer = f.peer; highest = f.highest; state = WorkingWorking; silent = 0 }; change = Stay })
hears f shown up = stay (record { own = refl; peer = refl; highest = refl; up = sym up; quiet = refl; says = λ probe is. up })

pub on_activate_turns : (f : Fsm) (es er : ℕ) → Turn f (Some (es, er)) (on_activate f es er)
unfolding on_activate
on_activate_turns f es er =
    let T : Outcome → Type 0 = Turn f (Some (es, er)) in
    cases_on T (is_held f.state) _ _ (λ _. ignored f _ _ refl refl (λ probe is. absurd (let wrong : ⊥ = cc in wrong)))
    (λ _. cases_on T ((is_in_reset f.state && not (is_last f.own)) && ((er == f.own) && not (nat_lt es f.highest))) _ _
    (λ fits.
    let all = and_parts (is_in_reset f.state && not (is_last f.own)) _ fits in
    let may = and_parts (is_in_reset f.state) _ all.0 in
    let ours = and_parts (er == f.own) _ all.1 in
    rise (record {
      es = es;
      shown_is = ap (λ n. Some (es, n)) (eqb-true er f.own ours.0);
      own = refl;
      peer = refl;
      highest = inl (refl, ltb-false es f.highest (not_true (nat_lt es f.highest) ours.1));
      goes_on = not_true (is_last f.own) may.1;
      was = is_up_in_reset f.state may.0;
      up = refl;
      change = refl;
    }))
    (λ _. cases_on T (is_up f.state && is_session f es er) _ _ (λ fits. hears f _ (and_parts (is_up f.state) _ fits).0)
    (λ _. ignored f _ _ refl refl (λ probe is. absurd (let wrong : ⊥ = cc in wrong)))))

pub on_traffic_turns : (f : Fsm) (es er : ℕ) → Turn f (Some (es, er)) (on_traffic f es er)
unfolding on_traffic
on_traffic_turns f es er =
    let T : Outcome → Type 0 = Turn f (Some (es, er)) in
    cases_on T (is_session f es er && (is_reset_reset f.state && not (is_last f.own))) _ _
    (λ fits.
    let all = and_parts (is_session f es er) _ fits in
    let session = and_parts (is_peer f.peer es) _ all.0 in
    let may = and_parts (is_reset_reset f.state) _ all.1 in
    let known = peer_is f.peer es session.0 in
    rise (record {
      es = es;
      shown_is = ap (λ n. Some (es, n)) (eqb-true er f.own session.1);
      own = refl;
      peer = known;
      highest = inr (known, refl);
      goes_on = not_true (is_last f.own) may.1;
      was = heard_reset f.state may.0;
      up = refl;
      change = refl;
    }))
    (λ _. cases_on T (is_session f es er && is_up f.state) _ _ (λ fits. hears f _ (and_parts (is_session f es er) _ fits).1)
    (λ _. ignored f _ _ refl refl (λ probe is. absurd (let wrong : ⊥ = cc in wrong))))
