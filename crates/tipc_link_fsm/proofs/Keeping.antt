use Rattle.std.proofs.Common.{◌≡◌, ◌+◌, ◌≤◌, ◌↔◌, arith, Bool, true, false, ◌&&◌, ◌||◌, ◌==◌, nat_lt, nat_le, not, cond, None, refl, sym, ◌∙◌, ap}
use Rattle.std.proofs.lemmas.Bool.{and_parts, true≢false, ltb-false, leb-true, leb-false, eqb-false}
use Rattle.tipc_types.specs.LinkStates.{is_up}
use Rattle.tipc_types.specs.declared.link_words.LinkState.{LinkState}
use Rattle.tipc_types.specs.declared.link_words.LinkState.TheVariants.{ResetUnknown, ResetReset, WorkingWorking, WorkingUnknown, Held}
use Rattle.tipc_link_fsm.specs.Ends.{IsSound}
use Rattle.tipc_link_fsm.specs.Table.{Fsm, Outcome, is_in_reset, is_reset_reset, is_held, is_peer, is_session, is_last, lowered, heard, took_epoch, apart, unheard, on_reset, on_activate, on_traffic, on_tick, tick_in, on_cut, on_peer_tunnel, release, forget_peer, contact_ended}
use Rattle.tipc_link_fsm.specs.Runs.{Call, ResetArrives, ActivateArrives, TrafficArrives, TickPasses, BearerIsCut, TunnelNames, Releases, ForgetsPeer, ContactEnds, outcome}
use Rattle.tipc_link_fsm.proofs.Moves.{cases_on, not_true, is_up_held, moves, stays, rises, falls}

-- neither of two tests holds where one of them doesn't
or_parts : (a b : Bool) → (a || b) ≡ false → (a ≡ false) × (b ≡ false)
or_parts true b neither = absurd (true≢false neither)
or_parts false b neither = (refl, neither)

-- what a call keeps of the highest epoch of the peer
Raises : Fsm → Outcome → Type 0
Raises s o = s.highest ≤ o.after.highest

tick_in_raises : (st : LinkState) (s : Fsm) (held : Bool) → Raises s (tick_in st s held)
unfolding Raises
tick_in_raises ResetUnknown s held = omega arith
tick_in_raises ResetReset s held = omega arith
tick_in_raises Held s held = omega arith
tick_in_raises WorkingWorking s held = cases_on (Raises s) (s.silent == 4) _ _ (λ h. omega arith) (λ h. omega arith)
tick_in_raises WorkingUnknown s held = cases_on (Raises s) (s.silent == 4) _ _ (λ h. omega arith) (λ h. omega arith)

-- no call lowers the highest epoch of the peer that an end took
pub highest_rises : (s : Fsm) (c : Call) → s.highest ≤ (outcome s c).after.highest
unfolding Raises on_reset on_activate on_traffic on_tick on_cut on_peer_tunnel release forget_peer contact_ended
highest_rises s (ResetArrives es held) =
    let known = is_up s.state && is_peer s.peer es in
    cases_on (Raises s) (is_held s.state) _ _ (λ h. omega arith) (λ h.
    cases_on (Raises s) (nat_lt es s.highest || known) _ _ (λ h. omega arith) (λ neither.
    cases_on (Raises s) (is_up s.state) _ _ (λ h. omega arith) (λ h. ltb-false es s.highest ((or_parts (nat_lt es s.highest) known neither).0))))
highest_rises s (ActivateArrives es er) =
    cases_on (Raises s) (is_held s.state) _ _ (λ h. omega arith) (λ h.
    cases_on (Raises s) ((is_in_reset s.state && not (is_last s.own)) && ((er == s.own) && not (nat_lt es s.highest))) _ _
    (λ fits.
    let all = and_parts (is_in_reset s.state && not (is_last s.own)) _ fits in
    ltb-false es s.highest (not_true (nat_lt es s.highest) ((and_parts (er == s.own) _ all.1).1)))
    (λ h. cases_on (Raises s) (is_up s.state && is_session s es er) _ _ (λ h. omega arith) (λ h. omega arith)))
highest_rises s (TrafficArrives es er) =
    cases_on (Raises s) (is_session s es er && (is_reset_reset s.state && not (is_last s.own))) _ _ (λ h. omega arith) (λ h.
    cases_on (Raises s) (is_session s es er && is_up s.state) _ _ (λ h. omega arith) (λ h. omega arith))
highest_rises s (TickPasses held) = tick_in_raises s.state s held
highest_rises s (BearerIsCut held) = cases_on (Raises s) (is_up s.state) _ _ (λ h. omega arith) (λ h. omega arith)
highest_rises s (TunnelNames epoch) =
    cases_on (Raises s) (is_up s.state && is_peer s.peer epoch) _ _ (λ h. omega arith) (λ h. omega arith)
highest_rises s Releases = cases_on (Raises s) (is_held s.state) _ _ (λ h. omega arith) (λ h. omega arith)
highest_rises s ForgetsPeer = cases_on (Raises s) (is_up s.state) _ _ (λ h. omega arith) (λ h. omega arith)
highest_rises s ContactEnds = cases_on (Raises s) (is_up s.state) _ _ (λ h. omega arith) (λ h. omega arith)

-- whether a link in this state wasn't heard for two ticks
is_unknown : LinkState → Bool
is_unknown WorkingUnknown = true
is_unknown _ = false

-- what an end keeps of its silent count
record IsCounted (s : Fsm) : Type 0 where
  few : s.silent ≤ 4
  quiet : is_up s.state ≡ false → s.silent ≡ 0
  unknown : (s.state ≡ WorkingUnknown) ↔ (2 ≤ s.silent)

-- an end that was just heard, or is down
at_rest : (s : Fsm) → s.silent ≡ 0 → is_unknown s.state ≡ false → IsCounted s
unfolding is_unknown
at_rest s zero_is other =
    record {
      few = omega (arith, zero_is);
      quiet = λ h. zero_is;
      unknown = (λ is. absurd (true≢false (sym (ap is_unknown is) ∙ other)), λ two. absurd (omega (arith, zero_is, two)));
    }

-- an end that goes down is at rest
lowered_counted : (s : Fsm) (held : Bool) → IsCounted (lowered s held)
unfolding is_unknown
lowered_counted s true = at_rest (lowered s true) refl refl
lowered_counted s false = at_rest (lowered s false) refl refl

-- an up end counts one more tick
unheard_counted : (s : Fsm) → s.silent ≤ 4 → (s.silent ≡ 4 → ⊥) → IsCounted (unheard s)
unfolding is_unknown
unheard_counted s few other =
    let state : Bool → LinkState = λ b. cond b WorkingUnknown WorkingWorking in
    let next : Bool → Fsm = λ b.
    record { own = s.own; peer = s.peer; highest = s.highest; state = state b; silent = s.silent + 1 } in
    let less : s.silent ≤ 3 = omega (arith, few, other) in
    let P : Bool → Type 0 = λ b. nat_le 1 s.silent ≡ b → IsCounted (next b) in
    (elim (nat_le 1 s.silent) as P [
      | true ↦ λ one. record {
        few = omega (arith, less);
        quiet = λ down. absurd (true≢false down);
        unknown = (λ is. let more = leb-true 1 s.silent one in omega (arith, more), λ two. refl);
      }
      | false ↦ λ one. record {
        few = omega (arith, less);
        quiet = λ down. absurd (true≢false down);
        unknown = (λ is. absurd (true≢false (sym (ap is_unknown is))), λ two. let less_one = leb-false 1 s.silent one in absurd (omega (arith, two, less_one)));
      }
    ]) refl

tick_in_counted : (st : LinkState) (s : Fsm) (held : Bool) → IsCounted s → IsCounted (tick_in st s held).after
tick_in_counted ResetUnknown s held counted = counted
tick_in_counted ResetReset s held counted = counted
tick_in_counted Held s held counted = counted
tick_in_counted WorkingWorking s held counted =
    cases_on (λ o. IsCounted o.after) (s.silent == 4) _ _ (λ h. lowered_counted s held)
    (λ other. unheard_counted s counted.few (eqb-false s.silent 4 other))
tick_in_counted WorkingUnknown s held counted =
    cases_on (λ o. IsCounted o.after) (s.silent == 4) _ _ (λ h. lowered_counted s held)
    (λ other. unheard_counted s counted.few (eqb-false s.silent 4 other))

-- each call keeps the silent count
counted_after : (s : Fsm) (c : Call) → IsCounted s → IsCounted (outcome s c).after
unfolding is_unknown on_reset on_activate on_traffic on_tick on_cut on_peer_tunnel release forget_peer contact_ended
counted_after s (ResetArrives es held) counted =
    let P : Outcome → Type 0 = λ o. IsCounted o.after in
    cases_on P (is_held s.state) _ _ (λ h. counted) (λ h.
    cases_on P (nat_lt es s.highest || (is_up s.state && is_peer s.peer es)) _ _ (λ h. counted) (λ h.
    cases_on P (is_up s.state) _ _ (λ h. lowered_counted s held) (λ h. at_rest (took_epoch s es ResetReset) refl refl)))
counted_after s (ActivateArrives es er) counted =
    let P : Outcome → Type 0 = λ o. IsCounted o.after in
    cases_on P (is_held s.state) _ _ (λ h. counted) (λ h.
    cases_on P ((is_in_reset s.state && not (is_last s.own)) && ((er == s.own) && not (nat_lt es s.highest))) _ _
    (λ h. at_rest (took_epoch s es WorkingWorking) refl refl)
    (λ h. cases_on P (is_up s.state && is_session s es er) _ _ (λ h. at_rest (heard s) refl refl) (λ h. counted)))
counted_after s (TrafficArrives es er) counted =
    let P : Outcome → Type 0 = λ o. IsCounted o.after in
    cases_on P (is_session s es er && (is_reset_reset s.state && not (is_last s.own))) _ _ (λ h. at_rest (heard s) refl refl) (λ h.
    cases_on P (is_session s es er && is_up s.state) _ _ (λ h. at_rest (heard s) refl refl) (λ h. counted))
counted_after s (TickPasses held) counted = tick_in_counted s.state s held counted
counted_after s (BearerIsCut held) counted =
    cases_on (λ o. IsCounted o.after) (is_up s.state) _ _ (λ h. lowered_counted s held) (λ h. counted)
counted_after s (TunnelNames epoch) counted =
    cases_on (λ o. IsCounted o.after) (is_up s.state && is_peer s.peer epoch) _ _ (λ h. lowered_counted s true) (λ h. counted)
counted_after s Releases counted =
    cases_on (λ o. IsCounted o.after) (is_held s.state) _ _
    (λ held. at_rest (record { own = s.own; peer = s.peer; highest = s.highest; state = ResetUnknown; silent = s.silent }) (counted.quiet (is_up_held s.state held)) refl) (λ h. counted)
counted_after s ForgetsPeer counted =
    cases_on (λ o. IsCounted o.after) (is_up s.state) _ _ (λ h. at_rest (apart s) refl refl)
    (λ down. at_rest (record { own = s.own; peer = None; highest = s.highest; state = ResetUnknown; silent = s.silent }) (counted.quiet down) refl)
counted_after s ContactEnds counted =
    cases_on (λ o. IsCounted o.after) (is_up s.state) _ _ (λ h. at_rest (apart s) refl refl) (λ h. at_rest (apart s) refl refl)

-- what a link end keeps, it keeps over each call
pub sound_after : (s : Fsm) (c : Call) → IsSound s → IsSound (outcome s c).after
sound_after s c sound =
    let before : IsCounted s = record { few = sound.few; quiet = sound.quiet; unknown = sound.unknown } in
    let now = counted_after s c before in
    let next = (outcome s c).after in
    record {
      few = now.few;
      quiet = now.quiet;
      unknown = now.unknown;
      going_on = elim (moves s c) as (λ _. is_up next.state ≡ true → is_last next.own ≡ false) [
        | stays own up other ↦ λ is. ap is_last own ∙ sound.going_on (sym up ∙ is)
        | rises es own down up last shown peer going ↦ λ is. ap is_last own ∙ last
        | falls own down other ↦ λ is. absurd (true≢false (sym is ∙ down))
      ];
    }
