-- What a call of a link end makes of the epochs that it keeps.
use Rattle.std.proofs.Common.{◌≡◌, ◌≢◌, ◌≤◌, ◌⊎◌, ℕ, ◌+◌, ◌%◌, Bool, true, false, Option, Some, None, refl, sym, ap, ◌∙◌, inl, inr, arith}
use Rattle.std.specs.Prelude.{◌&&◌, ◌||◌, ◌==◌, nat_lt, not}
use Rattle.std.proofs.lemmas.Bool.{cases_Bool, true≢false}
use Rattle.std.proofs.lemmas.Bool.Decides.{nat_tests}
use Rattle.tipc_types.specs.LinkStates.{is_up}
use Rattle.tipc_types.specs.declared.link_words.LinkState.{LinkState}
use Rattle.tipc_types.specs.declared.link_words.LinkState.TheVariants.{ResetUnknown, ResetReset, WorkingWorking, WorkingUnknown, Held}
use Rattle.tipc_link_fsm.specs.Table.{Fsm, Outcome, is_in_reset, is_reset_reset, is_held, is_last, is_peer, is_session, next_epoch, tick_in, up_tick, on_reset, on_activate, on_traffic, on_tick, on_cut, on_peer_tunnel, release, forget_peer, contact_ended}
use Rattle.tipc_link_fsm.specs.Runs.{Call, ResetArrives, ActivateArrives, TrafficArrives, TickPasses, BearerIsCut, TunnelNames, Releases, ForgetsPeer, ContactEnds, outcome}
use Rattle.tipc_link_fsm.proofs.Moves.{cases_on, stays, rises, falls, moves}
use Rattle.tipc_contact.specs.Sides.{boot_of}

-- ---- the epoch of the peer

-- what a call may do to it: leave it, forget it, or take the one that a RESET or an ACTIVATE shows
pub data Learns (e : Fsm) (shown : Option ℕ) (o : Outcome) : Type 0 where
  keeps : o.after.peer ≡ e.peer → Learns e shown o
  forgets : o.after.peer ≡ None → Learns e shown o
  takes : (es : ℕ) → shown ≡ Some es → o.after.peer ≡ Some es → Learns e shown o

abbrev pub shown_by : Call → Option ℕ
shown_by (ResetArrives es held) = Some es
shown_by (ActivateArrives es er) = Some es
shown_by _ = None

on_reset_learns : (e : Fsm) (es : ℕ) (held : Bool) → Learns e (Some es) (on_reset e es held)
unfolding on_reset
on_reset_learns e es held =
    let L : Outcome → Type 0 = Learns e (Some es) in
    cases_on L (is_held e.state) _ _ (λ _. keeps refl)
    (λ _. cases_on L (nat_lt es e.highest || (is_up e.state && is_peer e.peer es)) _ _ (λ _. keeps refl)
    (λ _. cases_on L (is_up e.state) _ _ (λ _. keeps refl) (λ _. takes es refl refl)))

on_activate_learns : (e : Fsm) (es er : ℕ) → Learns e (Some es) (on_activate e es er)
unfolding on_activate
on_activate_learns e es er =
    let L : Outcome → Type 0 = Learns e (Some es) in
    cases_on L (is_held e.state) _ _ (λ _. keeps refl)
    (λ _. cases_on L ((is_in_reset e.state && not (is_last e.own)) && ((er == e.own) && not (nat_lt es e.highest))) _ _ (λ _. takes es refl refl)
    (λ _. cases_on L (is_up e.state && is_session e es er) _ _ (λ _. keeps refl) (λ _. keeps refl)))

on_traffic_learns : (e : Fsm) (es er : ℕ) → Learns e None (on_traffic e es er)
unfolding on_traffic
on_traffic_learns e es er =
    let L : Outcome → Type 0 = Learns e None in
    cases_on L (is_session e es er && (is_reset_reset e.state && not (is_last e.own))) _ _ (λ _. keeps refl)
    (λ _. cases_on L (is_session e es er && is_up e.state) _ _ (λ _. keeps refl) (λ _. keeps refl))

up_tick_learns : (e : Fsm) (held : Bool) → Learns e None (up_tick e held)
up_tick_learns e held = cases_on (Learns e None) (e.silent == 4) _ _ (λ _. keeps refl) (λ _. keeps refl)

tick_in_learns : (st : LinkState) (e : Fsm) (held : Bool) → Learns e None (tick_in st e held)
tick_in_learns ResetUnknown e held = keeps refl
tick_in_learns ResetReset e held = keeps refl
tick_in_learns Held e held = keeps refl
tick_in_learns WorkingWorking e held = up_tick_learns e held
tick_in_learns WorkingUnknown e held = up_tick_learns e held

on_tick_learns : (e : Fsm) (held : Bool) → Learns e None (on_tick e held)
unfolding on_tick
on_tick_learns e held = tick_in_learns e.state e held

on_cut_learns : (e : Fsm) (held : Bool) → Learns e None (on_cut e held)
unfolding on_cut
on_cut_learns e held = cases_on (Learns e None) (is_up e.state) _ _ (λ _. keeps refl) (λ _. keeps refl)

on_peer_tunnel_learns : (e : Fsm) (epoch : ℕ) → Learns e None (on_peer_tunnel e epoch)
unfolding on_peer_tunnel
on_peer_tunnel_learns e epoch = cases_on (Learns e None) (is_up e.state && is_peer e.peer epoch) _ _ (λ _. keeps refl) (λ _. keeps refl)

release_learns : (e : Fsm) → Learns e None (release e)
unfolding release
release_learns e = cases_on (Learns e None) (is_held e.state) _ _ (λ _. keeps refl) (λ _. keeps refl)

forget_learns : (e : Fsm) → Learns e None (forget_peer e)
unfolding forget_peer
forget_learns e = cases_on (Learns e None) (is_up e.state) _ _ (λ _. forgets refl) (λ _. forgets refl)

contact_learns : (e : Fsm) → Learns e None (contact_ended e)
unfolding contact_ended
contact_learns e = cases_on (Learns e None) (is_up e.state) _ _ (λ _. forgets refl) (λ _. forgets refl)

pub learns : (e : Fsm) (c : Call) → Learns e (shown_by c) (outcome e c)
learns e (ResetArrives es held) = on_reset_learns e es held
learns e (ActivateArrives es er) = on_activate_learns e es er
learns e (TrafficArrives es er) = on_traffic_learns e es er
learns e (TickPasses held) = on_tick_learns e held
learns e (BearerIsCut held) = on_cut_learns e held
learns e (TunnelNames epoch) = on_peer_tunnel_learns e epoch
learns e Releases = release_learns e
learns e ForgetsPeer = forget_learns e
learns e ContactEnds = contact_learns e

-- an end that forgets the peer, and one whose contact ended, knows none
abbrev HasNone : Outcome → Type 0
HasNone o = o.after.peer ≡ None

pub forgotten_peer : (e : Fsm) → (outcome e ForgetsPeer).after.peer ≡ None
unfolding forget_peer
forgotten_peer e = cases_on HasNone (is_up e.state) _ _ (λ _. refl) (λ _. refl)

pub ended_peer : (e : Fsm) → (outcome e ContactEnds).after.peer ≡ None
unfolding contact_ended
ended_peer e = cases_on HasNone (is_up e.state) _ _ (λ _. refl) (λ _. refl)

-- ---- the own epoch

-- a call leaves it, or the end takes the next one
pub own_after : (e : Fsm) (c : Call) → ((outcome e c).after.own ≡ e.own) ⊎ ((outcome e c).after.own ≡ next_epoch e.own)
own_after e c =
    elim (moves e c) as (λ _. ((outcome e c).after.own ≡ e.own) ⊎ ((outcome e c).after.own ≡ next_epoch e.own)) [
      | stays own up change ↦ inl own
      | rises es own rest up last shown peer going ↦ inl own
      | falls own up change ↦ inr own
    ]

-- an end that is down and forgets the peer keeps it
pub forgotten_own : (e : Fsm) → is_up e.state ≡ false → (outcome e ForgetsPeer).after.own ≡ e.own
unfolding forget_peer
forgotten_own e down = cases_on (λ o. o.after.own ≡ e.own) (is_up e.state) _ _ (λ up. absurd (true≢false (sym up ∙ down))) (λ _. refl)

pub ended_own : (e : Fsm) → (outcome e ContactEnds).after.own ≡ next_epoch e.own
unfolding contact_ended
ended_own e = cases_on (λ o. o.after.own ≡ next_epoch e.own) (is_up e.state) _ _ (λ _. refl) (λ _. refl)

pub next_of_last : (epoch : ℕ) → is_last epoch ≡ true → next_epoch epoch ≡ epoch
next_of_last epoch last = rw last refl

pub next_of_other : (epoch : ℕ) → is_last epoch ≡ false → next_epoch epoch ≡ epoch + 1
next_of_other epoch goes_on = rw goes_on refl

-- the next number but the last is of the same boot
pub same_boot : (number : ℕ) → is_last number ≡ false → boot_of (number + 1) ≡ boot_of number
unfolding is_last
same_boot number goes_on =
    let other : number % 4294967296 ≢ 4294967295 = λ same. (let wrong : ⊥ = grind (arith, nat_tests, goes_on, same) in wrong) in
    omega (arith, other)

pub next_boot : (epoch : ℕ) → boot_of (next_epoch epoch) ≡ boot_of epoch
next_boot epoch = elim (cases_Bool (is_last epoch)) [
  | inl last ↦ ap boot_of (next_of_last epoch last)
  | inr goes_on ↦ ap boot_of (next_of_other epoch goes_on) ∙ same_boot epoch goes_on
]

-- a number that isn't above an epoch of its boot isn't the last of it where that isn't
pub not_last : (number epoch : ℕ) → number ≤ epoch → boot_of number ≡ boot_of epoch → is_last epoch ≡ false → is_last number ≡ false
unfolding is_last
not_last number epoch order boot goes_on =
    let other : epoch % 4294967296 ≢ 4294967295 = λ same. (let wrong : ⊥ = grind (arith, nat_tests, goes_on, same) in wrong) in
    let below : number % 4294967296 ≢ 4294967295 = λ same. (let wrong : ⊥ = omega (arith, other) in wrong) in
    grind (arith, nat_tests, below)
