-- A change of link states that takes a link down: it was up, and takes the next epoch.
use Rattle.std.proofs.Common.{◌≡◌, ◌==◌, nat_lt, ◌||◌, ◌&&◌, Bool, true, ℕ, refl, ap}
use Rattle.tipc_types.specs.LinkStates.{is_up}
use Rattle.tipc_types.specs.declared.link_words.LinkState.{LinkState}
use Rattle.tipc_types.specs.declared.link_words.LinkState.TheVariants.{ResetUnknown, ResetReset, WorkingWorking, WorkingUnknown, Held}
use Rattle.tipc_link_fsm.specs.Table.{Fsm, Outcome, is_held, is_peer, next_epoch, on_cut, on_reset, on_tick, tick_in}
use Rattle.tipc_link_fsm.proofs.Moves.{cases_on}
use Rattle.tipc_link.specs.Links.{is_down}

abbrev pub Falls : Fsm → Outcome → Type 0
Falls s o = is_down o.change ≡ true → (is_up s.state ≡ true) × (o.after.own ≡ next_epoch s.own)

pub on_reset_falls : (s : Fsm) (es : ℕ) (held : Bool) → Falls s (on_reset s es held)
unfolding on_reset
on_reset_falls s es held =
    cases_on (Falls s) (is_held s.state) _ _ (λ h e. cc) (λ h.
    cases_on (Falls s) (nat_lt es s.highest || (is_up s.state && is_peer s.peer es)) _ _ (λ h e. cc) (λ h.
    cases_on (Falls s) (is_up s.state) _ _ (λ up e. (up, refl)) (λ down e. cc)))

pub on_cut_falls : (s : Fsm) (held : Bool) → Falls s (on_cut s held)
unfolding on_cut
on_cut_falls s held = cases_on (Falls s) (is_up s.state) _ _ (λ up e. (up, refl)) (λ down e. cc)

tick_in_falls : (st : LinkState) (s : Fsm) (held : Bool) → s.state ≡ st → Falls s (tick_in st s held)
tick_in_falls ResetUnknown s held is = λ e. cc
tick_in_falls ResetReset s held is = λ e. cc
tick_in_falls Held s held is = λ e. cc
tick_in_falls WorkingWorking s held is = cases_on (Falls s) (s.silent == 4) _ _ (λ h e. (ap is_up is, refl)) (λ h e. cc)
tick_in_falls WorkingUnknown s held is = cases_on (Falls s) (s.silent == 4) _ _ (λ h e. (ap is_up is, refl)) (λ h e. cc)

pub on_tick_falls : (s : Fsm) (held : Bool) → Falls s (on_tick s held)
unfolding on_tick
on_tick_falls s held = tick_in_falls s.state s held refl
