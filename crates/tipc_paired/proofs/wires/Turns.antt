-- What each call of a link end makes of its epochs, and whether the link is up.
use Rattle.std.proofs.Common.{◌≡◌, ℕ, Bool, true, false, Option, Some, None, refl, sym, ap, ◌∙◌}
use Rattle.std.specs.Prelude.{◌&&◌, ◌||◌, ◌==◌, nat_lt, nat_le, not, if◌then◌else◌}
use Rattle.std.proofs.lemmas.Bool.{and_parts, ltb-false, true≢false}
use Rattle.tipc_types.specs.LinkStates.{is_up}
use Rattle.tipc_types.specs.declared.link_words.Reply.TheVariants as reply
use Rattle.tipc_link_fsm.specs.declared.changes.Change.{Change}
use Rattle.tipc_link_fsm.specs.declared.changes.Change.TheVariants.{Answer}
use Rattle.tipc_types.specs.declared.link_words.LinkState.{LinkState}
use Rattle.tipc_types.specs.declared.link_words.LinkState.TheVariants.{ResetUnknown, ResetReset, WorkingWorking, WorkingUnknown, Held}
use Rattle.tipc_link_fsm.specs.Runs.{Call, ActivateArrives, BearerIsCut, ContactEnds, ForgetsPeer, Releases, ResetArrives, TickPasses, TrafficArrives, TunnelNames, outcome}
use Rattle.tipc_link_fsm.specs.Table.{Fsm, Outcome, contact_ended, forget_peer, is_held, is_in_reset, is_last, is_peer, is_reset_reset, is_session, lowered, on_activate, on_cut, on_peer_tunnel, on_reset, on_tick, on_traffic, release, tick_in, up_tick, unheard}
use Rattle.tipc_link_fsm.proofs.Moves.{cases_on, is_up_held}
use Rattle.tipc_link.specs.Parts.{is_quiet}
use Rattle.tipc_link.proofs.EndsTurns.{Turn, fall, ignored, learn, on_activate_turns, on_traffic_turns, stay}

-- the two epochs that a call's frame shows, where a link end reads them
abbrev pub shown_to : Call → Option (ℕ × ℕ)
shown_to (ResetArrives es held) = Some (es, 0)
shown_to (ActivateArrives es er) = Some (es, er)
shown_to (TrafficArrives es er) = Some (es, er)
shown_to other = None

lowered_down : (f : Fsm) (held : Bool) → is_up (lowered f held).state ≡ false
lowered_down f true = refl
lowered_down f false = refl

reset_turns : (f : Fsm) (es : ℕ) (held : Bool) → Turn f (Some (es, 0)) (on_reset f es held)
unfolding on_reset
reset_turns f es held =
    let T : Outcome → Type 0 = Turn f (Some (es, 0)) in
    cases_on T (is_held f.state) _ _ (λ _. ignored f _ _ refl refl (λ probe is. absurd (let wrong : ⊥ = cc in wrong)))
    (λ _. cases_on T (nat_lt es f.highest || (is_up f.state && is_peer f.peer es)) _ _ (λ _. ignored f _ _ refl refl (λ probe is. absurd (let wrong : ⊥ = cc in wrong)))
    (λ high. cases_on T (is_up f.state) _ _
    (λ up. fall (record { cause = _; own = refl; peer = refl; highest = refl; was = up; down = lowered_down f held; change = refl }))
    (λ down. learn (record {
      es = es;
      er = 0;
      shown_is = refl;
      own = refl;
      peer = refl;
      highest = refl;
      no_lower = ltb-false es f.highest (or_false (nat_lt es f.highest) _ high);
      was = down;
      down = refl;
      change = refl;
    }))))
  where
    or_false : (a b : Bool) → (a || b) ≡ false → a ≡ false
    or_false true b neither = absurd (let wrong : ⊥ = cc in wrong)
    or_false false b neither = refl

cut_turns : (f : Fsm) (held : Bool) (shown : Option (ℕ × ℕ)) → Turn f shown (on_cut f held)
unfolding on_cut
cut_turns f held shown =
    cases_on (Turn f shown) (is_up f.state) _ _
    (λ up. fall (record { cause = _; own = refl; peer = refl; highest = refl; was = up; down = lowered_down f held; change = refl }))
    (λ _. ignored f _ _ refl refl (λ probe is. absurd (let wrong : ⊥ = cc in wrong)))

tunnel_turns : (f : Fsm) (epoch : ℕ) (shown : Option (ℕ × ℕ)) → Turn f shown (on_peer_tunnel f epoch)
unfolding on_peer_tunnel
tunnel_turns f epoch shown =
    cases_on (Turn f shown) (is_up f.state && is_peer f.peer epoch) _ _
    (λ both. fall (record { cause = _; own = refl; peer = refl; highest = refl; was = (and_parts (is_up f.state) _ both).0; down = refl; change = refl }))
    (λ _. ignored f _ _ refl refl (λ probe is. absurd (let wrong : ⊥ = cc in wrong)))

release_turns : (f : Fsm) (shown : Option (ℕ × ℕ)) → Turn f shown (release f)
unfolding release
release_turns f shown =
    cases_on (Turn f shown) (is_held f.state) _ _
    (λ held. stay (record { own = refl; peer = refl; highest = refl; up = sym (is_up_held f.state held); quiet = refl; says = λ probe is. absurd (let wrong : ⊥ = cc in wrong) }))
    (λ _. ignored f _ _ refl refl (λ probe is. absurd (let wrong : ⊥ = cc in wrong)))

still_up : (f : Fsm) → is_up (unheard f).state ≡ true
still_up f = elim (nat_le 1 f.silent) as (λ b. is_up (if b then WorkingUnknown else WorkingWorking) ≡ true) [ true ↦ refl | false ↦ refl ]

up_tick_turns : (f : Fsm) (held : Bool) (shown : Option (ℕ × ℕ)) → is_up f.state ≡ true → Turn f shown (up_tick f held)
up_tick_turns f held shown up =
    cases_on (Turn f shown) (f.silent == 4) _ _
    (λ _. fall (record { cause = _; own = refl; peer = refl; highest = refl; was = up; down = lowered_down f held; change = refl }))
    (λ _. stay (record { own = refl; peer = refl; highest = refl; up = still_up f ∙ sym up; quiet = refl; says = λ probe is. up }))

tick_in_turns : (st : LinkState) (f : Fsm) (held : Bool) (shown : Option (ℕ × ℕ)) → f.state ≡ st → Turn f shown (tick_in st f held)
tick_in_turns ResetUnknown f held shown is = ignored f _ _ refl refl (λ probe says. absurd (let wrong : ⊥ = cc in wrong))
tick_in_turns ResetReset f held shown is = ignored f _ _ refl refl (λ probe says. absurd (let wrong : ⊥ = cc in wrong))
tick_in_turns Held f held shown is = ignored f _ _ refl refl (λ probe says. absurd (let wrong : ⊥ = cc in wrong))
tick_in_turns WorkingWorking f held shown is = up_tick_turns f held shown (ap is_up is)
tick_in_turns WorkingUnknown f held shown is = up_tick_turns f held shown (ap is_up is)

tick_turns : (f : Fsm) (held : Bool) (shown : Option (ℕ × ℕ)) → Turn f shown (on_tick f held)
unfolding on_tick
tick_turns f held shown = tick_in_turns f.state f held shown refl

-- each call that is made of a single link end
pub call_turns : (f : Fsm) (call : Call) → (call ≡ ForgetsPeer → ⊥) → (call ≡ ContactEnds → ⊥) → Turn f (shown_to call) (outcome f call)
call_turns f (ResetArrives es held) _ _ = reset_turns f es held
call_turns f (ActivateArrives es er) _ _ = on_activate_turns f es er
call_turns f (TrafficArrives es er) _ _ = on_traffic_turns f es er
call_turns f (TickPasses held) _ _ = tick_turns f held None
call_turns f (BearerIsCut held) _ _ = cut_turns f held None
call_turns f (TunnelNames epoch) _ _ = tunnel_turns f epoch None
call_turns f Releases _ _ = release_turns f None
call_turns f ForgetsPeer other _ = absurd (other refl)
call_turns f ContactEnds _ other = absurd (other refl)

-- ---- a link end that isn't held

pub up_unheld : (st : LinkState) → is_up st ≡ true → is_held st ≡ false
up_unheld ResetUnknown up = refl
up_unheld ResetReset up = refl
up_unheld WorkingWorking up = refl
up_unheld WorkingUnknown up = refl
up_unheld Held up = absurd (let wrong : ⊥ = cc in wrong)

-- where no link goes up or down, an end that isn't held stays so
abbrev Unheld : Outcome → Type 0
Unheld o = is_quiet o.change ≡ true → is_held o.after.state ≡ false

up_tick_unheld : (f : Fsm) (held : Bool) → is_up f.state ≡ true → Unheld (up_tick f held)
up_tick_unheld f held up = cases_on Unheld (f.silent == 4) _ _ (λ _ quiet. absurd (let wrong : ⊥ = cc in wrong)) (λ _ quiet. up_unheld (unheard f).state (still_up f))

tick_in_unheld : (st : LinkState) (f : Fsm) (held : Bool) → f.state ≡ st → is_held f.state ≡ false → Unheld (tick_in st f held)
tick_in_unheld ResetUnknown f held is was quiet = was
tick_in_unheld ResetReset f held is was quiet = was
tick_in_unheld Held f held is was quiet = was
tick_in_unheld WorkingWorking f held is was quiet = up_tick_unheld f held (ap is_up is) quiet
tick_in_unheld WorkingUnknown f held is was quiet = up_tick_unheld f held (ap is_up is) quiet

pub stays_unheld : (f : Fsm) (call : Call) → is_quiet (outcome f call).change ≡ true → is_held f.state ≡ false → is_held (outcome f call).after.state ≡ false
unfolding on_reset on_activate on_traffic on_tick on_cut on_peer_tunnel release forget_peer contact_ended
stays_unheld f (ResetArrives es held) quiet was = cases_on Unheld (is_held f.state) _ _ (λ _ _. was)
    (λ _. cases_on Unheld (nat_lt es f.highest || (is_up f.state && is_peer f.peer es)) _ _ (λ _ _. was)
    (λ _. cases_on Unheld (is_up f.state) _ _ (λ _ still. absurd (let wrong : ⊥ = cc in wrong)) (λ _ _. refl))) quiet
stays_unheld f (ActivateArrives es er) quiet was = cases_on Unheld (is_held f.state) _ _ (λ _ _. was)
    (λ _. cases_on Unheld ((is_in_reset f.state && not (is_last f.own)) && ((er == f.own) && not (nat_lt es f.highest))) _ _ (λ _ _. refl)
    (λ _. cases_on Unheld (is_up f.state && is_session f es er) _ _ (λ _ _. refl) (λ _ _. was))) quiet
stays_unheld f (TrafficArrives es er) quiet was = cases_on Unheld (is_session f es er && (is_reset_reset f.state && not (is_last f.own))) _ _ (λ _ _. refl)
    (λ _. cases_on Unheld (is_session f es er && is_up f.state) _ _ (λ _ _. refl) (λ _ _. was)) quiet
stays_unheld f (TickPasses held) quiet was = tick_in_unheld f.state f held refl was quiet
stays_unheld f (BearerIsCut held) quiet was = cases_on Unheld (is_up f.state) _ _ (λ _ still. absurd (let wrong : ⊥ = cc in wrong)) (λ _ _. was) quiet
stays_unheld f (TunnelNames epoch) quiet was = cases_on Unheld (is_up f.state && is_peer f.peer epoch) _ _ (λ _ still. absurd (let wrong : ⊥ = cc in wrong)) (λ _ _. was) quiet
stays_unheld f Releases quiet was = cases_on Unheld (is_held f.state) _ _ (λ _ _. refl) (λ _ _. was) quiet
stays_unheld f ForgetsPeer quiet was = cases_on Unheld (is_up f.state) _ _ (λ _ _. refl) (λ _ _. refl) quiet
stays_unheld f ContactEnds quiet was = cases_on Unheld (is_up f.state) _ _ (λ _ _. refl) (λ _ _. refl) quiet

-- whether a RESET or an ACTIVATE is sent then
abbrev pub says_notice : Change → Bool
says_notice (Answer reply.Reset) = true
says_notice (Answer reply.Activate) = true
says_notice other = false

-- an end that sends one isn't held
abbrev Noticed : Outcome → Type 0
Noticed o = says_notice o.change ≡ true → is_held o.after.state ≡ false

no_notice : {A : Type 0} → false ≡ true → A
no_notice {A} says = absurd (true≢false (sym says))

up_tick_noticed : (f : Fsm) (held : Bool) → Noticed (up_tick f held)
up_tick_noticed f held = cases_on Noticed (f.silent == 4) _ _ (λ _ none. no_notice none) (λ _ none. no_notice none)

tick_in_noticed : (st : LinkState) (f : Fsm) (held : Bool) → f.state ≡ st → Noticed (tick_in st f held)
tick_in_noticed ResetUnknown f held is says = ap is_held is
tick_in_noticed ResetReset f held is says = ap is_held is
tick_in_noticed Held f held is says = no_notice says
tick_in_noticed WorkingWorking f held is says = up_tick_noticed f held says
tick_in_noticed WorkingUnknown f held is says = up_tick_noticed f held says

pub notices_unheld : (f : Fsm) (call : Call) → says_notice (outcome f call).change ≡ true → is_held (outcome f call).after.state ≡ false
unfolding on_reset on_activate on_traffic on_tick on_cut on_peer_tunnel release forget_peer contact_ended
notices_unheld f (ResetArrives es held) says = cases_on Noticed (is_held f.state) _ _ (λ _ none. no_notice none)
    (λ _. cases_on Noticed (nat_lt es f.highest || (is_up f.state && is_peer f.peer es)) _ _ (λ _ none. no_notice none)
    (λ _. cases_on Noticed (is_up f.state) _ _ (λ _ none. no_notice none) (λ _ _. refl))) says
notices_unheld f (ActivateArrives es er) says = cases_on Noticed (is_held f.state) _ _ (λ _ none. no_notice none)
    (λ _. cases_on Noticed ((is_in_reset f.state && not (is_last f.own)) && ((er == f.own) && not (nat_lt es f.highest))) _ _ (λ _ none. no_notice none)
    (λ _. cases_on Noticed (is_up f.state && is_session f es er) _ _ (λ _ none. no_notice none) (λ _ none. no_notice none))) says
notices_unheld f (TrafficArrives es er) says = cases_on Noticed (is_session f es er && (is_reset_reset f.state && not (is_last f.own))) _ _ (λ _ none. no_notice none)
    (λ _. cases_on Noticed (is_session f es er && is_up f.state) _ _ (λ _ none. no_notice none) (λ _ none. no_notice none)) says
notices_unheld f (TickPasses held) says = tick_in_noticed f.state f held refl says
notices_unheld f (BearerIsCut held) says = cases_on Noticed (is_up f.state) _ _ (λ _ none. no_notice none) (λ _ none. no_notice none) says
notices_unheld f (TunnelNames epoch) says = cases_on Noticed (is_up f.state && is_peer f.peer epoch) _ _ (λ _ none. no_notice none) (λ _ none. no_notice none) says
notices_unheld f Releases says = cases_on Noticed (is_held f.state) _ _ (λ _ _. refl) (λ _ none. no_notice none) says
notices_unheld f ForgetsPeer says = cases_on Noticed (is_up f.state) _ _ (λ _ _. refl) (λ _ _. refl) says
notices_unheld f ContactEnds says = cases_on Noticed (is_up f.state) _ _ (λ _ _. refl) (λ _ _. refl) says
