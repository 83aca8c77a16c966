-- What comes to a link end while its peer has one epoch and one contact number doesn't take it down.
use Rattle.std.specs.Prelude.{◌==◌, ◌&&◌, ◌||◌, nat_le, nat_lt, not, if◌then◌else◌}
use Rattle.std.proofs.Common.{◌≡◌, ◌≢◌, ◌≤◌, ◌∙◌, ℕ, Bool, true, false, Option, Some, None, refl, sym, ap, subst, arith, eqb-true}
use Rattle.std.proofs.lemmas.Bool.{and_parts, true≢false}
use Rattle.std.proofs.lemmas.Bool.Decides.{nat_tests}
use Rattle.tipc_types.specs.LinkStates.{is_up}
use Rattle.tipc_types.specs.declared.link_words.LinkState.{LinkState}
use Rattle.tipc_types.specs.declared.link_words.LinkState.TheVariants.{Held, ResetReset, ResetUnknown, WorkingUnknown, WorkingWorking}
use Rattle.tipc_link_fsm.specs.Table.{Fsm, Outcome, is_held, is_in_reset, is_last, is_peer, is_reset_reset, is_session, on_activate, on_peer_tunnel, on_reset, on_tick, on_traffic, release, forget_peer, tick_in, unheard, up_tick}
use Rattle.tipc_link_fsm.proofs.Moves.{Moves, cases_on, falls, is_going_up, is_up_held, rises, stays as still_moves}
use Rattle.tipc_pair.proofs.turns.Moves.{either_true}
use Rattle.tipc_settling.specs.Laws.{ActivatesAreHarmless, NumbersAreHarmless, ReleasesAreHarmless, ResetsAreHarmless, StaysStill, TicksAreHarmless, TrafficIsHarmless, TunnelsAreHarmless}
use Rattle.tipc_settling.specs.Stillness.{Footing, IsStillEnd}

-- a test of the peer's epoch names it
pub peer_named : (peer : Option ℕ) (es : ℕ) → is_peer peer es ≡ true → peer ≡ Some es
peer_named None es same = absurd cc
peer_named (Some p) es same = ap Some (eqb-true p es same)

-- and it holds of the epoch that is known
pub peer_known : (peer : Option ℕ) (es : ℕ) → peer ≡ Some es → is_peer peer es ≡ true
peer_known peer es is = ap (λ o. is_peer o es) is ∙ (let same : (es == es) ≡ true = grind (arith, nat_tests) in same)

-- an end that is held neither is up nor heard a reset
held_deaf : (st : LinkState) → is_held st ≡ true → (is_up st || is_reset_reset st) ≡ false
held_deaf Held is = refl
held_deaf ResetReset is = absurd cc
held_deaf ResetUnknown is = absurd cc
held_deaf WorkingWorking is = absurd cc
held_deaf WorkingUnknown is = absurd cc

-- an up end that wasn't heard stays up
unheard_up : (f : Fsm) → is_up (unheard f).state ≡ true
unheard_up f = elim (nat_le 1 f.silent) as (λ b. is_up (if b then WorkingUnknown else WorkingWorking) ≡ true) [ true ↦ refl | false ↦ refl ]

-- an end that is up isn't held
up_free : (st : LinkState) → is_up st ≡ true → is_held st ≡ false
up_free WorkingWorking up = refl
up_free WorkingUnknown up = refl
up_free ResetUnknown up = absurd cc
up_free ResetReset up = absurd cc
up_free Held up = absurd cc

-- by a call whose frame shows no epochs no link goes up
pub shown_quiet : (f : Fsm) (o : Outcome) → Moves f None o → is_going_up o.change ≡ false
shown_quiet f o (still_moves own same quiet) = quiet
shown_quiet f o (rises es own was now last it peer rising) = absurd (let wrong : ⊥ = cc in wrong)
shown_quiet f o (falls own down quiet) = quiet

module _ (own peer : Footing) (seen bearer : ℕ) where
  abbrev pub Still : Fsm → Type 0
  Still f = IsStillEnd own peer seen bearer f

  abbrev pub Stays : Outcome → Type 0
  Stays o = StaysStill own peer seen bearer o

  -- a link that is down wasn't up at the begin
  not_up : {A : Type 0} (f : Fsm) → Still f → is_up f.state ≡ false → own.up bearer ≡ true → A
  not_up f h down was = absurd (true≢false (sym (h.lasts was) ∙ down))

  -- an up end that heard its peer, under whatever state
  heard_still : (f g : Fsm) → Still f → is_up f.state ≡ true → is_up g.state ≡ true → g.own ≡ f.own → g.peer ≡ f.peer → g.highest ≡ f.highest → Still g
  heard_still f g h was up same knows highest = record {
    epoch = same ∙ h.epoch;
    lasts = λ is. up;
    answers = λ is. record { knows = knows ∙ (h.answers is).knows; heard = ap (λ b. b || is_reset_reset g.state) up };
    free = λ is. up_free g.state up;
    no_higher = subst (λ n. n ≤ peer.epoch bearer) (sym highest) h.no_higher;
    up = λ is. knows ∙ h.up was;
    contact = λ is. h.contact (sym knows ∙ is);
    present = λ alone sees epoch is. h.present alone sees epoch (sym knows ∙ is);
  }

  pub reset_still : (es : ℕ) (held : Bool) (f : Fsm) → Still f → es ≡ peer.epoch bearer → seen ≡ peer.contact → Stays (on_reset f es held)
  unfolding on_reset
  reset_still es held f h same sees =
      cases_on Stays (is_held f.state) _ _ (λ _. record { still = h; up = refl }) (λ _.
      cases_on Stays (nat_lt es f.highest || (is_up f.state && is_peer f.peer es)) _ _ (λ _. record { still = h; up = refl }) (λ apart.
      cases_on Stays (is_up f.state) _ _
      (λ up.
      let here : (is_up f.state && is_peer f.peer es) ≡ true = ap (λ b. b && is_peer f.peer es) up ∙ peer_known f.peer es (h.up up ∙ ap Some (sym same)) in
      absurd (true≢false (sym (either_true (nat_lt es f.highest) (is_up f.state && is_peer f.peer es) here) ∙ apart)))
      (λ down. record {
        still = record {
          epoch = h.epoch;
          lasts = λ was. not_up f h down was;
          answers = λ is. record { knows = ap Some same; heard = refl };
          free = λ is. refl;
          no_higher = omega (arith, same);
          up = λ is. absurd (let wrong : ⊥ = cc in wrong);
          contact = λ is. sees;
          present = λ alone met epoch is. (let last : es ≡ epoch = cc in sym last ∙ same);
        };
        up = refl;
      })))

  pub activate_still : (es er : ℕ) (f : Fsm) → Still f → es ≡ peer.epoch bearer → seen ≡ peer.contact → Stays (on_activate f es er)
  unfolding on_activate
  activate_still es er f h same sees =
      cases_on Stays (is_held f.state) _ _ (λ _. record { still = h; up = refl }) (λ _.
      cases_on Stays ((is_in_reset f.state && not (is_last f.own)) && ((er == f.own) && not (nat_lt es f.highest))) _ _
      (λ fits. record {
        still = record {
          epoch = h.epoch;
          lasts = λ was. refl;
          answers = λ is. record { knows = ap Some same; heard = refl };
          free = λ is. refl;
          no_higher = omega (arith, same);
          up = λ is. ap Some same;
          contact = λ is. sees;
          present = λ alone met epoch is. (let last : es ≡ epoch = cc in sym last ∙ same);
        };
        up = refl;
      })
      (λ _. cases_on Stays (is_up f.state && is_session f es er) _ _
      (λ here. record { still = heard_still f _ h (and_parts (is_up f.state) _ here).0 refl refl refl refl; up = refl }) (λ _. record { still = h; up = refl })))

  pub traffic_still : (es er : ℕ) (f : Fsm) → Still f → es ≡ peer.epoch bearer → Stays (on_traffic f es er)
  unfolding on_traffic
  traffic_still es er f h same =
      cases_on Stays (is_session f es er && (is_reset_reset f.state && not (is_last f.own))) _ _
      (λ fits.
      let named = peer_named f.peer es (and_parts (is_peer f.peer es) _ (and_parts (is_session f es er) _ fits).0).0 in
      let knows = named ∙ ap Some same in
      record {
        still = record {
          epoch = h.epoch;
          lasts = λ was. refl;
          answers = λ is. record { knows = knows; heard = refl };
          free = λ is. refl;
          no_higher = h.no_higher;
          up = λ is. knows;
          contact = h.contact;
          present = h.present;
        };
        up = refl;
      })
      (λ _. cases_on Stays (is_session f es er && is_up f.state) _ _
      (λ here. record { still = heard_still f _ h (and_parts (is_session f es er) _ here).1 refl refl refl refl; up = refl }) (λ _. record { still = h; up = refl }))

  up_tick_still : (held : Bool) (f : Fsm) → Still f → is_up f.state ≡ true → f.silent ≤ 3 → Stays (up_tick f held)
  up_tick_still held f h up few =
      cases_on Stays (f.silent == 4) _ _ (λ four. let is : f.silent ≡ 4 = grind (arith, nat_tests, four) in absurd (omega (arith, is, few)))
      (λ _. record { still = heard_still f (unheard f) h up (unheard_up f) refl refl refl; up = refl })

  tick_in_still : (st : LinkState) (held : Bool) (f : Fsm) → f.state ≡ st → Still f → (is_up f.state ≡ true → f.silent ≤ 3) → Stays (tick_in st f held)
  tick_in_still ResetUnknown held f is h few = record { still = h; up = refl }
  tick_in_still ResetReset held f is h few = record { still = h; up = refl }
  tick_in_still Held held f is h few = record { still = h; up = refl }
  tick_in_still WorkingWorking held f is h few = let up = ap is_up is in up_tick_still held f h up (few up)
  tick_in_still WorkingUnknown held f is h few = let up = ap is_up is in up_tick_still held f h up (few up)

  pub tick_still : (held : Bool) (f : Fsm) → Still f → (is_up f.state ≡ true → f.silent ≤ 3) → Stays (on_tick f held)
  unfolding on_tick
  tick_still held f h few = tick_in_still f.state held f refl h few

  pub tunnel_still : (epoch : ℕ) (f : Fsm) → Still f → epoch ≢ peer.epoch bearer → Stays (on_peer_tunnel f epoch)
  unfolding on_peer_tunnel
  tunnel_still epoch f h ended =
      cases_on Stays (is_up f.state && is_peer f.peer epoch) _ _
      (λ here.
      let parts = and_parts (is_up f.state) (is_peer f.peer epoch) here in
      let both : Some epoch ≡ Some (peer.epoch bearer) = sym (peer_named f.peer epoch parts.1) ∙ h.up parts.0 in
      absurd (ended cc))
      (λ _. record { still = h; up = refl })

  pub release_still : (f : Fsm) → Still f → Stays (release f)
  unfolding release
  release_still f h =
      cases_on Stays (is_held f.state) _ _
      (λ held. record {
        still = record {
          epoch = h.epoch;
          lasts = λ was. not_up f h (is_up_held f.state held) was;
          answers = λ was. absurd (true≢false (sym ((h.answers was).heard) ∙ held_deaf f.state held));
          free = λ is. refl;
          no_higher = h.no_higher;
          up = λ is. absurd (let wrong : ⊥ = cc in wrong);
          contact = h.contact;
          present = h.present;
        };
        up = refl;
      })
      (λ _. record { still = h; up = refl })

  pub forget_still : (f : Fsm) → Still f → (seen ≡ peer.contact → ⊥) → StaysStill own peer peer.contact bearer (forget_peer f)
  unfolding forget_peer
  forget_still f h unseen =
      cases_on (StaysStill own peer peer.contact bearer) (is_up f.state) _ _ (λ up. absurd (unseen (h.contact (h.up up))))
      (λ down. record {
        still = record {
          epoch = h.epoch;
          lasts = λ was. not_up f h down was;
          answers = λ was. absurd (unseen (h.contact (h.answers was).knows));
          free = λ is. refl;
          no_higher = h.no_higher;
          up = λ is. absurd (let wrong : ⊥ = cc in wrong);
          contact = λ is. refl;
          present = λ alone met epoch is. absurd (let wrong : ⊥ = cc in wrong);
        };
        up = refl;
      })

-- ---- the rows as laws

pub resets : ResetsAreHarmless
resets own peer seen bearer es held f h same sees = reset_still own peer seen bearer es held f h same sees

pub activates : ActivatesAreHarmless
activates own peer seen bearer es er f h same sees = activate_still own peer seen bearer es er f h same sees

pub traffic : TrafficIsHarmless
traffic own peer seen bearer es er f h same = traffic_still own peer seen bearer es er f h same

pub passing_ticks : TicksAreHarmless
passing_ticks own peer seen bearer held f h few = tick_still own peer seen bearer held f h few

pub tunnels : TunnelsAreHarmless
tunnels own peer seen bearer epoch f h ended = tunnel_still own peer seen bearer epoch f h ended

pub releases : ReleasesAreHarmless
releases own peer seen bearer f h = release_still own peer seen bearer f h

pub numbers : NumbersAreHarmless
numbers own peer seen bearer f h unseen = forget_still own peer seen bearer f h unseen
