use Rattle.std.proofs.Common.{◌≡◌, ℕ, Bool, true, false, ◌&&◌, ◌||◌, ◌==◌, nat_lt, nat_le, not, cond, Option, Some, None, refl, sym, ◌∙◌, ap, eqb-true}
use Rattle.std.proofs.lemmas.Bool.{and_parts}
use Rattle.tipc_types.specs.LinkStates.{is_up}
use Rattle.tipc_types.specs.declared.link_words.LinkState.{LinkState}
use Rattle.tipc_types.specs.declared.link_words.LinkState.TheVariants.{ResetUnknown, ResetReset, WorkingWorking, WorkingUnknown, Held}
use Rattle.tipc_link_fsm.specs.declared.changes.Change.{Change}
use Rattle.tipc_link_fsm.specs.declared.changes.Change.TheVariants.{Up}
use Rattle.tipc_link_fsm.specs.Table.{Fsm, Outcome, is_in_reset, is_reset_reset, is_held, is_peer, is_session, is_last, next_epoch, lowered, unheard, tick_in, on_reset, on_activate, on_traffic, on_tick, on_cut, on_peer_tunnel, release, forget_peer, contact_ended}
use Rattle.tipc_link_fsm.specs.Runs.{Call, ResetArrives, ActivateArrives, TrafficArrives, TickPasses, BearerIsCut, TunnelNames, Releases, ForgetsPeer, ContactEnds, outcome, shown_epochs}

-- whether a change says that the link went up
abbrev pub is_going_up : Change → Bool
is_going_up Up = true
is_going_up _ = false

-- what a call may do to an end's own epoch and to whether it is up: leave both; take it up under its own epoch, with the
-- epoch of the peer that its frame shows; or leave it down under the next epoch
pub data Moves (s : Fsm) (shown : Option (ℕ × ℕ)) (o : Outcome) : Type 0 where
  stays : o.after.own ≡ s.own → is_up o.after.state ≡ is_up s.state → is_going_up o.change ≡ false → Moves s shown o
  rises : (es : ℕ) → o.after.own ≡ s.own → is_in_reset s.state ≡ true → is_up o.after.state ≡ true → is_last s.own ≡ false
      → shown ≡ Some (es, s.own) → o.after.peer ≡ Some es → is_going_up o.change ≡ true → Moves s shown o
  falls : o.after.own ≡ next_epoch s.own → is_up o.after.state ≡ false → is_going_up o.change ≡ false → Moves s shown o

-- a fact of either outcome, each where its test says so
pub cases_on : (P : Outcome → Type 0) (b : Bool) (x y : Outcome) → (b ≡ true → P x) → (b ≡ false → P y) → P (cond b x y)
cases_on P true x y yes_case no_case = yes_case refl
cases_on P false x y yes_case no_case = no_case refl

-- an end that went down isn't up
is_up_lowered : (s : Fsm) (held : Bool) → is_up (lowered s held).state ≡ false
is_up_lowered s true = refl
is_up_lowered s false = refl

-- an end in reset isn't up
pub is_up_in_reset : (st : LinkState) → is_in_reset st ≡ true → is_up st ≡ false
is_up_in_reset ResetUnknown here = refl
is_up_in_reset ResetReset here = refl
is_up_in_reset WorkingWorking here = cc
is_up_in_reset WorkingUnknown here = cc
is_up_in_reset Held here = cc

-- an end in RESET_RESET is in reset
is_in_reset_reset_reset : (st : LinkState) → is_reset_reset st ≡ true → is_in_reset st ≡ true
is_in_reset_reset_reset ResetReset here = refl
is_in_reset_reset_reset ResetUnknown here = refl
is_in_reset_reset_reset WorkingWorking here = cc
is_in_reset_reset_reset WorkingUnknown here = cc
is_in_reset_reset_reset Held here = cc

-- an end that is held isn't up
pub is_up_held : (st : LinkState) → is_held st ≡ true → is_up st ≡ false
is_up_held Held here = refl
is_up_held ResetReset here = cc
is_up_held ResetUnknown here = cc
is_up_held WorkingWorking here = cc
is_up_held WorkingUnknown here = cc

-- a test of the peer's epoch names it
is_peer_true : (peer : Option ℕ) (es : ℕ) → is_peer peer es ≡ true → peer ≡ Some es
is_peer_true None es same = cc
is_peer_true (Some p) es same = ap Some (eqb-true p es same)

-- a test that doesn't hold
pub not_true : (b : Bool) → not b ≡ true → b ≡ false
not_true true e = cc
not_true false e = refl

pub on_reset_moves : (s : Fsm) (es : ℕ) (held : Bool) (shown : Option (ℕ × ℕ)) → Moves s shown (on_reset s es held)
unfolding on_reset
on_reset_moves s es held shown =
    cases_on (Moves s shown) (is_held s.state) _ _ (λ h. stays refl refl refl) (λ h.
    cases_on (Moves s shown) (nat_lt es s.highest || (is_up s.state && is_peer s.peer es)) _ _ (λ h. stays refl refl refl) (λ h.
    cases_on (Moves s shown) (is_up s.state) _ _ (λ up. falls refl (is_up_lowered s held) refl) (λ down. stays refl (sym down) refl)))

pub on_activate_moves : (s : Fsm) (es er : ℕ) → Moves s (Some (es, er)) (on_activate s es er)
unfolding on_activate
on_activate_moves s es er =
    let M : Outcome → Type 0 = Moves s (Some (es, er)) in
    cases_on M (is_held s.state) _ _ (λ h. stays refl refl refl) (λ h.
    cases_on M ((is_in_reset s.state && not (is_last s.own)) && ((er == s.own) && not (nat_lt es s.highest))) _ _
    (λ fits.
    let all = and_parts (is_in_reset s.state && not (is_last s.own)) _ fits in
    let may = and_parts (is_in_reset s.state) _ all.0 in
    let ours = and_parts (er == s.own) _ all.1 in
    rises es refl may.0 refl (not_true (is_last s.own) may.1)
    (ap (λ e. Some (es, e)) (eqb-true er s.own ours.0)) refl refl)
    (λ h. cases_on M (is_up s.state && is_session s es er) _ _
    (λ fits. stays refl (sym ((and_parts (is_up s.state) _ fits).0)) refl) (λ h. stays refl refl refl)))

pub on_traffic_moves : (s : Fsm) (es er : ℕ) → Moves s (Some (es, er)) (on_traffic s es er)
unfolding on_traffic
on_traffic_moves s es er =
    let M : Outcome → Type 0 = Moves s (Some (es, er)) in
    cases_on M (is_session s es er && (is_reset_reset s.state && not (is_last s.own))) _ _
    (λ fits.
    let all = and_parts (is_session s es er) _ fits in
    let session = and_parts (is_peer s.peer es) _ all.0 in
    let may = and_parts (is_reset_reset s.state) _ all.1 in
    rises es refl (is_in_reset_reset_reset s.state may.0) refl (not_true (is_last s.own) may.1)
    (ap (λ e. Some (es, e)) (eqb-true er s.own session.1)) (is_peer_true s.peer es session.0) refl)
    (λ h. cases_on M (is_session s es er && is_up s.state) _ _
    (λ fits. stays refl (sym ((and_parts (is_session s es er) _ fits).1)) refl) (λ h. stays refl refl refl))

-- an up end that wasn't heard stays up
is_up_unheard : (s : Fsm) → is_up (unheard s).state ≡ true
is_up_unheard s =
    elim (nat_le 1 s.silent) as (λ b. is_up (cond b WorkingUnknown WorkingWorking) ≡ true) [ true ↦ refl | false ↦ refl ]

tick_in_moves : (st : LinkState) (s : Fsm) (held : Bool) (shown : Option (ℕ × ℕ)) → s.state ≡ st → Moves s shown (tick_in st s held)
tick_in_moves ResetUnknown s held shown is = stays refl refl refl
tick_in_moves ResetReset s held shown is = stays refl refl refl
tick_in_moves Held s held shown is = stays refl refl refl
tick_in_moves WorkingWorking s held shown is =
    cases_on (Moves s shown) (s.silent == 4) _ _ (λ h. falls refl (is_up_lowered s held) refl)
    (λ h. stays refl (is_up_unheard s ∙ sym (ap is_up is)) refl)
tick_in_moves WorkingUnknown s held shown is =
    cases_on (Moves s shown) (s.silent == 4) _ _ (λ h. falls refl (is_up_lowered s held) refl)
    (λ h. stays refl (is_up_unheard s ∙ sym (ap is_up is)) refl)

pub on_tick_moves : (s : Fsm) (held : Bool) (shown : Option (ℕ × ℕ)) → Moves s shown (on_tick s held)
unfolding on_tick
on_tick_moves s held shown = tick_in_moves s.state s held shown refl

pub on_cut_moves : (s : Fsm) (held : Bool) (shown : Option (ℕ × ℕ)) → Moves s shown (on_cut s held)
unfolding on_cut
on_cut_moves s held shown =
    cases_on (Moves s shown) (is_up s.state) _ _ (λ h. falls refl (is_up_lowered s held) refl) (λ h. stays refl refl refl)

pub on_peer_tunnel_moves : (s : Fsm) (epoch : ℕ) (shown : Option (ℕ × ℕ)) → Moves s shown (on_peer_tunnel s epoch)
unfolding on_peer_tunnel
on_peer_tunnel_moves s epoch shown =
    cases_on (Moves s shown) (is_up s.state && is_peer s.peer epoch) _ _ (λ h. falls refl refl refl) (λ h. stays refl refl refl)

pub release_moves : (s : Fsm) (shown : Option (ℕ × ℕ)) → Moves s shown (release s)
unfolding release
release_moves s shown =
    cases_on (Moves s shown) (is_held s.state) _ _ (λ h. stays refl (sym (is_up_held s.state h)) refl) (λ h. stays refl refl refl)

pub contact_ended_moves : (s : Fsm) (shown : Option (ℕ × ℕ)) → Moves s shown (contact_ended s)
unfolding contact_ended
contact_ended_moves s shown =
    cases_on (Moves s shown) (is_up s.state) _ _ (λ h. falls refl refl refl) (λ h. falls refl refl refl)

pub forget_peer_moves : (s : Fsm) (shown : Option (ℕ × ℕ)) → Moves s shown (forget_peer s)
unfolding forget_peer
forget_peer_moves s shown =
    cases_on (Moves s shown) (is_up s.state) _ _ (λ h. falls refl refl refl) (λ down. stays refl (sym down) refl)

-- what each call may do
pub moves : (s : Fsm) (c : Call) → Moves s (shown_epochs c) (outcome s c)
moves s (ResetArrives es held) = on_reset_moves s es held None
moves s (ActivateArrives es er) = on_activate_moves s es er
moves s (TrafficArrives es er) = on_traffic_moves s es er
moves s (TickPasses held) = on_tick_moves s held None
moves s (BearerIsCut held) = on_cut_moves s held None
moves s (TunnelNames epoch) = on_peer_tunnel_moves s epoch None
moves s Releases = release_moves s None
moves s ForgetsPeer = forget_peer_moves s None
moves s ContactEnds = contact_ended_moves s None
