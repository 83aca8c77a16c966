-- What each call makes of the table of link states, as the pair's other link sees it.
use Rattle.std.proofs.Common.{◌≡◌, ◌==◌, ◌&&◌, ◌||◌, not, ℕ, Bool, true, false, nat_lt, nat_le, if◌then◌else◌, refl, sym, ap, ◌∙◌}
use Rattle.std.proofs.lemmas.Bool.{and_parts}
use Rattle.tipc_types.specs.LinkStates.{is_up}
use Rattle.tipc_types.specs.declared.link_words.Cause.TheVariants as cause
use Rattle.tipc_types.specs.declared.link_words.LinkState.{LinkState}
use Rattle.tipc_types.specs.declared.link_words.LinkState.TheVariants.{ResetUnknown, ResetReset, WorkingWorking, WorkingUnknown}
use Rattle.tipc_types.specs.declared.link_words.LinkState.TheVariants as state
use Rattle.tipc_link_fsm.specs.Table.{Fsm, is_held, is_in_reset, is_last, is_peer, is_reset_reset, is_session, on_activate, on_cut, on_peer_tunnel, on_reset, on_tick, on_traffic, tick_in, unheard}
use Rattle.tipc_link_fsm.proofs.Moves.{cases_on}
use Rattle.tipc_changeover.specs.Links.{Reset, Up}
use Rattle.tipc_two_nodes.specs.links.Sending.{state_as}
use Rattle.tipc_two_nodes.specs.links.Turning.{TurnsEnd, goes_down, goes_up, stays_so}

pub as_up : (s : LinkState) → is_up s ≡ true → state_as s ≡ Up
as_up s up = rw up refl

as_reset : (s : LinkState) → is_in_reset s ≡ true → state_as s ≡ Reset
as_reset ResetUnknown so = refl
as_reset ResetReset so = refl
as_reset WorkingWorking so = absurd (let wrong : ⊥ = cc in wrong)
as_reset WorkingUnknown so = absurd (let wrong : ⊥ = cc in wrong)
as_reset state.Held so = absurd (let wrong : ⊥ = cc in wrong)

reset_heard : (s : LinkState) → is_reset_reset s ≡ true → state_as s ≡ Reset
reset_heard ResetReset so = refl
reset_heard ResetUnknown so = refl
reset_heard WorkingWorking so = absurd (let wrong : ⊥ = cc in wrong)
reset_heard WorkingUnknown so = absurd (let wrong : ⊥ = cc in wrong)
reset_heard state.Held so = absurd (let wrong : ⊥ = cc in wrong)

pub as_down : (s : LinkState) → is_up s ≡ false → is_held s ≡ false → state_as s ≡ Reset
as_down s down other = rw (down, other) refl

pub cut_turns : (fsm : Fsm) (held : Bool) → TurnsEnd held fsm (on_cut fsm held)
unfolding on_cut
cut_turns fsm held = cases_on (TurnsEnd held fsm) (is_up fsm.state) _ _ (λ up. goes_down cause.Cut refl up refl) (λ down. stays_so refl refl refl refl)

silent_up : (fsm : Fsm) → state_as (unheard fsm).state ≡ Up
silent_up fsm = elim (nat_le 1 fsm.silent) as (λ b. state_as (if b then WorkingUnknown else WorkingWorking) ≡ Up) [ true ↦ refl | false ↦ refl ]

ticked : (s : LinkState) (fsm : Fsm) (held : Bool) → fsm.state ≡ s → TurnsEnd held fsm (tick_in s fsm held)
ticked ResetUnknown fsm held is = stays_so refl refl refl refl
ticked ResetReset fsm held is = stays_so refl refl refl refl
ticked state.Held fsm held is = stays_so refl refl refl refl
ticked WorkingWorking fsm held is = cases_on (TurnsEnd held fsm) (fsm.silent == 4) _ _ (λ so. goes_down cause.Silent refl (ap is_up is) refl) (λ so. stays_so refl refl refl (silent_up fsm ∙ sym (ap state_as is)))
ticked WorkingUnknown fsm held is = cases_on (TurnsEnd held fsm) (fsm.silent == 4) _ _ (λ so. goes_down cause.Silent refl (ap is_up is) refl) (λ so. stays_so refl refl refl (silent_up fsm ∙ sym (ap state_as is)))

pub tick_turns : (fsm : Fsm) (held : Bool) → TurnsEnd held fsm (on_tick fsm held)
unfolding on_tick
tick_turns fsm held = ticked fsm.state fsm held refl

pub reset_turns : (fsm : Fsm) (es : ℕ) (held : Bool) → TurnsEnd held fsm (on_reset fsm es held)
unfolding on_reset
reset_turns fsm es held =
    cases_on (TurnsEnd held fsm) (is_held fsm.state) _ _ (λ so. stays_so refl refl refl refl) (λ other.
    cases_on (TurnsEnd held fsm) (nat_lt es fsm.highest || (is_up fsm.state && is_peer fsm.peer es)) _ _ (λ so. stays_so refl refl refl refl) (λ so.
    cases_on (TurnsEnd held fsm) (is_up fsm.state) _ _ (λ up. goes_down cause.PeerReset refl up refl) (λ down. stays_so refl refl refl (sym (as_down fsm.state down other)))))

pub activate_turns : (fsm : Fsm) (es er : ℕ) (held : Bool) → TurnsEnd held fsm (on_activate fsm es er)
unfolding on_activate
activate_turns fsm es er held =
    cases_on (TurnsEnd held fsm) (is_held fsm.state) _ _ (λ so. stays_so refl refl refl refl) (λ other.
    cases_on (TurnsEnd held fsm) ((is_in_reset fsm.state && not (is_last fsm.own)) && ((er == fsm.own) && not (nat_lt es fsm.highest))) _ _
    (λ fits.
    let all = and_parts (is_in_reset fsm.state && not (is_last fsm.own)) _ fits in
    let may = and_parts (is_in_reset fsm.state) _ all.0 in
    goes_up refl (as_reset fsm.state may.0) refl refl)
    (λ so. cases_on (TurnsEnd held fsm) (is_up fsm.state && is_session fsm es er) _ _ (λ fits. stays_so refl refl refl (sym (as_up fsm.state (and_parts (is_up fsm.state) _ fits).0))) (λ so. stays_so refl refl refl refl)))

pub traffic_turns : (fsm : Fsm) (es er : ℕ) (held : Bool) → TurnsEnd held fsm (on_traffic fsm es er)
unfolding on_traffic
traffic_turns fsm es er held =
    cases_on (TurnsEnd held fsm) (is_session fsm es er && (is_reset_reset fsm.state && not (is_last fsm.own))) _ _
    (λ fits.
    let all = and_parts (is_session fsm es er) _ fits in
    let may = and_parts (is_reset_reset fsm.state) _ all.1 in
    goes_up refl (reset_heard fsm.state may.0) refl refl)
    (λ so. cases_on (TurnsEnd held fsm) (is_session fsm es er && is_up fsm.state) _ _ (λ fits. stays_so refl refl refl (sym (as_up fsm.state (and_parts (is_session fsm es er) _ fits).1))) (λ so. stays_so refl refl refl refl))

pub tunnel_turns : (fsm : Fsm) (epoch : ℕ) → TurnsEnd true fsm (on_peer_tunnel fsm epoch)
unfolding on_peer_tunnel
tunnel_turns fsm epoch =
    cases_on (TurnsEnd true fsm) (is_up fsm.state && is_peer fsm.peer epoch) _ _ (λ fits. goes_down cause.PeerTunnel refl (and_parts (is_up fsm.state) _ fits).0 refl) (λ so. stays_so refl refl refl refl)
