-- What follows where a link of a pair goes up or down, as events of the sender.
use Rattle.std.proofs.Common.{◌≡◌, ◌≢◌, ◌==◌, ℕ, ◌+◌, ◌≤◌, true, false, if◌then◌else◌, Option, Some, None, option_map, refl, sym, ap, ◌∙◌, subst, arith}
use Rattle.std.proofs.lemmas.Bool.{eqb-true}
use Rattle.std.proofs.lemmas.Bool.Decides.{nat_tests}
use Rattle.tipc_types.specs.LinkStates.{is_up}
use Rattle.tipc_types.specs.declared.link_words.Cause.{Cause}
use Rattle.tipc_types.specs.declared.link_words.LinkState.{LinkState}
use Rattle.tipc_types.specs.declared.link_words.Reply.TheVariants as reply
use Rattle.tipc_header.specs.declared.packet.ChangeoverType.{ChangeoverType}
use Rattle.tipc_link_fsm.specs.declared.changes.Change.{Change}
use Rattle.tipc_link_fsm.specs.declared.changes.Change.TheVariants.{Answer, Down, Up as GoesUp}
use Rattle.tipc_link_fsm.specs.Table.{Fsm, Outcome, is_held, is_last, lowered, next_epoch}
use Rattle.tipc_link.specs.Links.{LinkEnd, after, followed, is_down, session_of, with_fsm}
use Rattle.tipc_link.specs.Sessions.{SessionEnd, after_state}
use Rattle.tipc_pair.specs.Changeovers.{following}
use Rattle.tipc_pair.specs.Facing.{PairEnds, is_up_at}
use Rattle.tipc_pair.specs.Runs.{old_of}
use Rattle.tipc_changeover.specs.Links.{Bearer, First, Held, Reset, Second, Up}
use Rattle.tipc_two_nodes.specs.links.Sending.{end_seen, number_as, state_as, window_in}
use Rattle.tipc_two_nodes.specs.links.Steps.{CanTravel}
use Rattle.tipc_two_nodes.specs.links.Ends.{IsFallen, IsRisen}
use Rattle.tipc_two_nodes.specs.links.Turning.{IsRunning, is_rise}
use Rattle.tipc_two_nodes.proofs.links.sender.Wrapping.{can_travel}

-- ---- what is seen of an end that stays

-- the session that an end has after a change keeps its window, unless the link goes up
pub followed_window : (e : LinkEnd) (k : Change) → is_rise k ≡ false → window_in (followed e k).session ≡ window_in e.session
followed_window e GoesUp other = absurd (let wrong : ⊥ = cc in wrong)
followed_window e (Answer (reply.State probe)) other = told_window e.session
  where
    told_window : (o : Option SessionEnd) → window_in (option_map after_state o) ≡ window_in o
    told_window None = refl
    told_window (Some s) = refl
followed_window e k other = refl

followed_fsm : (e : LinkEnd) (k : Change) → (followed e k).fsm ≡ e.fsm
followed_fsm e GoesUp = refl
followed_fsm e (Answer (reply.State probe)) = refl
followed_fsm e k = refl

pub still_seen : (contact : ℕ) (e : LinkEnd) (o : Outcome) → is_rise o.change ≡ false → o.after.own ≡ e.fsm.own → state_as o.after.state ≡ state_as e.fsm.state → end_seen contact (Some (after e o)) ≡ end_seen contact (Some e)
still_seen contact e o other own state =
    let window = followed_window (with_fsm e o.after) o.change other in
    ap (λ (f : Fsm). record { epoch = f.own; state = state_as f.state; window = window_in (after e o).session }) (followed_fsm (with_fsm e o.after) o.change)
    ∙ (ap (λ w. record { epoch = o.after.own; state = state_as o.after.state; window = w }) window
    ∙ (ap (λ n. record { epoch = n; state = state_as o.after.state; window = window_in e.session }) own ∙ ap (λ q. record { epoch = e.fsm.own; state = q; window = window_in e.session }) state))

pub rest_follows : (y : PairEnds) (k : Change) (epoch : ℕ) → is_rise k ≡ false → is_down k ≡ false → (following y k epoch).pair ≡ y
rest_follows y GoesUp epoch other so = absurd (let wrong : ⊥ = cc in wrong)
rest_follows y (Down cause) epoch other so = absurd (let wrong : ⊥ = cc in wrong)
rest_follows y k epoch other so = refl

-- ---- a link that goes down

pub falls_so : (e : LinkEnd) (o : Outcome) (cause : Cause) → o.change ≡ Down cause → o.after ≡ lowered e.fsm true → is_last e.fsm.own ≡ false → IsFallen e (after e o)
falls_so e o cause down low going =
    let next : next_epoch e.fsm.own ≡ e.fsm.own + 1 = ap (λ b. if b then e.fsm.own else e.fsm.own + 1) going in
    let end : after e o ≡ with_fsm e (lowered e.fsm true) = ap (λ k. followed (with_fsm e o.after) k) down ∙ ap (with_fsm e) low in
    subst (λ d. IsFallen e d) (sym end) (record { own = next; held = refl; session = refl })

pub can_go : (kind : ChangeoverType) (bearer : ℕ) (o : Option LinkEnd) (e : LinkEnd) → bearer ≤ 1 → (r : IsRunning bearer o e) → CanTravel kind (old_of r.session) r.session.sending.unacked
can_go kind bearer o e two r =
    let few = r.up_at.few in
    can_travel kind (old_of r.session) r.session.sending.unacked r.listed (subst (λ n. n ≤ 1) (sym r.up_at.bearer_is) two) r.epoch (omega arith)

-- ---- a link that goes up

pub rises_so : (e : LinkEnd) (o : Outcome) → o.change ≡ GoesUp → state_as e.fsm.state ≡ Reset → o.after.own ≡ e.fsm.own → state_as o.after.state ≡ Up → IsRisen e (after e o) (session_of (with_fsm e o.after))
rises_so e o up reset own state =
    let end : after e o ≡ followed (with_fsm e o.after) GoesUp = ap (λ k. followed (with_fsm e o.after) k) up in
    subst (λ d. IsRisen e d (session_of (with_fsm e o.after))) (sym end) (record { reset = reset; own = own; up = state; session_is = refl; fresh_is = refl })

pub held_or_reset : (s : LinkState) → is_up s ≡ false → state_as s ≢ Up
held_or_reset s down same = elim (is_held s) as (λ h. (if h then Held else Reset) ≡ Up → ⊥) [ true ↦ (λ wrong. cc) | false ↦ (λ wrong. cc) ] (let now : (if is_held s then Held else Reset) ≡ Up = sym (ap (λ b. if b then Up else (if is_held s then Held else Reset)) down) ∙ same in now)

pub far_not_up : (contact : ℕ) (o : Option LinkEnd) → is_up_at o ≡ false → (end_seen contact o).state ≢ Up
far_not_up contact None down same = cc
far_not_up contact (Some f) down same = held_or_reset f.fsm.state down same

pub first_bearer : (b : Bearer) (bearer : ℕ) → bearer ≡ number_as b → (bearer == 0) ≡ true → b ≡ First
first_bearer First bearer is zero = refl
first_bearer Second bearer is zero = absurd (let none = eqb-true bearer 0 zero in let wrong : ⊥ = omega arith in wrong)

pub not_first : (b : Bearer) (bearer : ℕ) → bearer ≡ number_as b → (bearer == 0) ≡ false → b ≡ First → ⊥
not_first First bearer is other same = (let zero : (bearer == 0) ≡ true = grind (arith, nat_tests) in let wrong : true ≡ false = sym zero ∙ other in let no : ⊥ = cc in no)
not_first Second bearer is other same = cc

-- ---- a step, and a tick
