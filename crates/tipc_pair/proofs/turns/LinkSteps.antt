-- What the link states do at each event: whether the link is up before and after, and which epochs it has.
use Rattle.std.specs.Prelude.{◌&&◌, ◌||◌, ◌==◌, nat_lt, not}
use Rattle.std.proofs.Common.{◌≡◌, ◌∙◌, ℕ, Bool, true, false, Some, refl, sym, ap}
use Rattle.std.proofs.lemmas.Bool.{and_parts}
use Rattle.tipc_types.specs.LinkStates.{is_up}
use Rattle.tipc_types.specs.declared.link_words.LinkState.{LinkState}
use Rattle.tipc_types.specs.declared.link_words.LinkState.TheVariants.{Held, ResetReset, ResetUnknown, WorkingUnknown, WorkingWorking}
use Rattle.tipc_header.specs.declared.packet.Header.{Header}
use Rattle.tipc_header.specs.declared.packet.Header.TheVariants as header
use Rattle.tipc_link_fsm.specs.declared.changes.Change.{Change}
use Rattle.tipc_link_fsm.specs.declared.changes.Change.TheVariants.{Answer, Down, Ignore, Stay, Up}
use Rattle.tipc_link_fsm.specs.Table.{Fsm, Outcome, gives, is_held, is_in_reset, is_last, is_peer, is_reset_reset, is_session, lowered, on_activate, on_cut, on_peer_tunnel, on_reset, on_tick, on_traffic, release, tick_in, took_epoch, up_tick}
use Rattle.tipc_link_fsm.proofs.Moves.{cases_on, is_up_in_reset}
use Rattle.tipc_link.specs.Links.{is_down, outcome_of}
use Rattle.tipc_pair.proofs.turns.LinkMoves.{reset_down as reset_reset_down, unheard_up}
use Rattle.tipc_pair.proofs.turns.Causes.{lowered_down}
use Rattle.tipc_pair.proofs.turns.Moves.{either_true as or_right}

-- a link that is up stays in its session
pub record StaysUp (f g : Fsm) : Type 0 where
  pub up : is_up g.state ≡ is_up f.state
  pub own : is_up f.state ≡ true → g.own ≡ f.own
  pub peer : is_up f.state ≡ true → g.peer ≡ f.peer

-- what a change says of the link states before and after
abbrev pub StepOf : Fsm → Fsm → Change → Type 0
StepOf f g Up = (is_up f.state ≡ false) × (is_up g.state ≡ true)
StepOf f g (Down cause) = (is_up f.state ≡ true) × (is_up g.state ≡ false)
StepOf f g Stay = StaysUp f g
StepOf f g (Answer reply) = StaysUp f g
StepOf f g (Ignore reason) = StaysUp f g

-- an end that is up, or heard its peer's reset, knows the highest epoch of its peer
abbrev pub KnowsHighest : Fsm → Type 0
KnowsHighest f = (is_up f.state || is_reset_reset f.state) ≡ true → f.peer ≡ Some f.highest

pub record Steps (f : Fsm) (o : Outcome) : Type 0 where
  pub step : StepOf f o.after o.change
  pub knows : KnowsHighest f → KnowsHighest o.after

same_steps : (f : Fsm) → StaysUp f f
same_steps f = record { up = refl; own = λ up. refl; peer = λ up. refl }

ignores : (f : Fsm) (c : Change) → StepOf f f c → Steps f (gives f c)
ignores f c step = record { step = step; knows = λ k. k }

not_known : (f : Fsm) → (is_up f.state || is_reset_reset f.state) ≡ false → KnowsHighest f
not_known f low is = absurd (let wrong : ⊥ = cc in wrong)

lowered_low : (f : Fsm) (held : Bool) → (is_up (lowered f held).state || is_reset_reset (lowered f held).state) ≡ false
lowered_low f true = refl
lowered_low f false = refl

lowers : (f : Fsm) (held : Bool) (c : Change) → is_up f.state ≡ true → is_down c ≡ true → Steps f (gives (lowered f held) c)
lowers f held (Down cause) up down = record { step = (up, lowered_down f held); knows = λ k. not_known (lowered f held) (lowered_low f held) }
lowers f held Up up down = absurd (let wrong : ⊥ = cc in wrong)
lowers f held Stay up down = absurd (let wrong : ⊥ = cc in wrong)
lowers f held (Answer reply) up down = absurd (let wrong : ⊥ = cc in wrong)
lowers f held (Ignore reason) up down = absurd (let wrong : ⊥ = cc in wrong)

pub cut_steps : (f : Fsm) (held : Bool) → Steps f (on_cut f held)
unfolding on_cut
cut_steps f held = cases_on (Steps f) (is_up f.state) _ _ (λ up. lowers f held _ up refl) (λ down. ignores f Stay (same_steps f))

pub tunnel_steps : (f : Fsm) (epoch : ℕ) → Steps f (on_peer_tunnel f epoch)
unfolding on_peer_tunnel
tunnel_steps f epoch = cases_on (Steps f) (is_up f.state && is_peer f.peer epoch) _ _ (λ both. lowers f true _ (and_parts (is_up f.state) (is_peer f.peer epoch) both).0 refl) (λ down. ignores f Stay (same_steps f))

in_reset_down : (f g : Fsm) → is_up f.state ≡ false → is_up g.state ≡ false → StaysUp f g
in_reset_down f g low down = record { up = down ∙ sym low; own = λ up. absurd (let wrong : ⊥ = cc in wrong); peer = λ up. absurd (let wrong : ⊥ = cc in wrong) }

pub reset_steps : (f : Fsm) (es : ℕ) (held : Bool) → Steps f (on_reset f es held)
unfolding on_reset
reset_steps f es held =
    cases_on (Steps f) (is_held f.state) _ _ (λ h. ignores f _ (same_steps f)) (λ h.
    cases_on (Steps f) (nat_lt es f.highest || (is_up f.state && is_peer f.peer es)) _ _ (λ h. ignores f _ (same_steps f)) (λ h.
    cases_on (Steps f) (is_up f.state) _ _ (λ up. lowers f held _ up refl)
    (λ down. record { step = in_reset_down f (took_epoch f es ResetReset) down refl; knows = λ k is. refl })))

or_left : (a b : Bool) → a ≡ true → (a || b) ≡ true
or_left true b is = refl
or_left false b is = cc

up_tick_steps : (f : Fsm) (held : Bool) → is_up f.state ≡ true → Steps f (up_tick f held)
up_tick_steps f held up =
    cases_on (Steps f) (f.silent == 4) _ _ (λ four. lowers f held _ up refl)
    (λ fewer. record { step = record { up = unheard_up f ∙ sym up; own = λ is. refl; peer = λ is. refl }; knows = λ k is. k (or_left (is_up f.state) (is_reset_reset f.state) up) })

tick_in_steps : (st : LinkState) (f : Fsm) (held : Bool) → f.state ≡ st → Steps f (tick_in st f held)
tick_in_steps ResetUnknown f held is = ignores f _ (same_steps f)
tick_in_steps ResetReset f held is = ignores f _ (same_steps f)
tick_in_steps Held f held is = ignores f _ (same_steps f)
tick_in_steps WorkingWorking f held is = up_tick_steps f held (ap is_up is)
tick_in_steps WorkingUnknown f held is = up_tick_steps f held (ap is_up is)

pub tick_steps : (f : Fsm) (held : Bool) → Steps f (on_tick f held)
unfolding on_tick
tick_steps f held = tick_in_steps f.state f held refl

activate_steps : (f : Fsm) (es er : ℕ) → Steps f (on_activate f es er)
unfolding on_activate
activate_steps f es er =
    cases_on (Steps f) (is_held f.state) _ _ (λ h. ignores f _ (same_steps f)) (λ h.
    cases_on (Steps f) ((is_in_reset f.state && not (is_last f.own)) && ((er == f.own) && not (nat_lt es f.highest))) _ _
    (λ all. record { step = (is_up_in_reset f.state (and_parts (is_in_reset f.state) _ (and_parts (is_in_reset f.state && not (is_last f.own)) _ all).0).0, refl); knows = λ k is. refl }) (λ h.
    cases_on (Steps f) (is_up f.state && is_session f es er) _ _
    (λ both. let up = (and_parts (is_up f.state) (is_session f es er) both).0 in
    record { step = record { up = sym up; own = λ is. refl; peer = λ is. refl }; knows = λ k is. k (or_left (is_up f.state) (is_reset_reset f.state) up) }) (λ h. ignores f _ (same_steps f))))

traffic_steps : (f : Fsm) (es er : ℕ) → Steps f (on_traffic f es er)
unfolding on_traffic
traffic_steps f es er =
    cases_on (Steps f) (is_session f es er && (is_reset_reset f.state && not (is_last f.own))) _ _
    (λ all. let reset = (and_parts (is_reset_reset f.state) (not (is_last f.own)) (and_parts (is_session f es er) _ all).1).0 in
    record { step = (reset_reset_down f.state reset, refl); knows = λ k is. k (or_right (is_up f.state) (is_reset_reset f.state) reset) }) (λ h.
    cases_on (Steps f) (is_session f es er && is_up f.state) _ _
    (λ both. let up = (and_parts (is_session f es er) (is_up f.state) both).1 in
    record { step = record { up = sym up; own = λ is. refl; peer = λ is. refl }; knows = λ k is. k (or_left (is_up f.state) (is_reset_reset f.state) up) }) (λ h. ignores f _ (same_steps f)))

pub outcome_steps : (f : Fsm) (h : Header) (es er : ℕ) (held : Bool) → Steps f (outcome_of f h es er held)
outcome_steps f (header.Reset r) es er held = reset_steps f es held
outcome_steps f (header.Activate a) es er held = activate_steps f es er
outcome_steps f (header.Discovery d) es er held = ignores f _ (same_steps f)
outcome_steps f other es er held = traffic_steps f es er

-- ---- release, and the end of a contact

pub release_stays : (f : Fsm) → StaysUp f (release f).after
unfolding release
release_stays f = cases_on (λ o. StaysUp f o.after) (is_held f.state) _ _ (λ held. held_stays f.state refl held) (λ free. same_steps f)
  where
    held_stays : (st : LinkState) → f.state ≡ st → is_held st ≡ true → StaysUp f (record { own = f.own; peer = f.peer; highest = f.highest; state = ResetUnknown; silent = f.silent })
    held_stays Held is held = record { up = sym (ap is_up is); own = λ up. refl; peer = λ up. refl }
    held_stays ResetUnknown is held = cc
    held_stays ResetReset is held = cc
    held_stays WorkingWorking is held = cc
    held_stays WorkingUnknown is held = cc
