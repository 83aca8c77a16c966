-- What every step leaves true of a pair: an end is held only where the other link is up, and the contact ends only where no link is up.
use Rattle.std.specs.Prelude.{IfSome, ◌||◌, ◌&&◌, ◌==◌, nat_le, nat_lt, not, if◌then◌else◌}
use Rattle.std.proofs.Common.{◌≡◌, ◌<◌, ◌+◌, ◌∙◌, ℕ, Bool, true, false, Option, Some, None, option_map, refl, sym, subst, ap, arith}
use Rattle.std.proofs.lemmas.Bool.{and_parts}
use Rattle.std.proofs.lemmas.Bool.Decides.{nat_tests}
use Rattle.tipc_types.specs.LinkStates.{is_up}
use Rattle.tipc_types.specs.declared.link_words.BroadcastState.{BroadcastState}
use Rattle.tipc_types.specs.declared.link_words.LinkState.{LinkState}
use Rattle.tipc_types.specs.declared.link_words.LinkState.TheVariants.{Held, ResetReset, ResetUnknown, WorkingUnknown, WorkingWorking}
use Rattle.tipc_header.specs.declared.packet.Header.{Header}
use Rattle.tipc_header.specs.declared.packet.Header.TheVariants as header
use Rattle.tipc_link_fsm.specs.declared.changes.Change.{Change}
use Rattle.tipc_link_fsm.specs.declared.changes.Change.TheVariants.{Answer, Down, Ignore, Stay, Up}
use Rattle.tipc_link_fsm.specs.Table.{Fsm, Outcome, gives, is_held, is_in_reset, is_last, is_peer, is_reset_reset, is_session, lowered, on_activate, on_cut, on_peer_tunnel, on_reset, on_tick, on_traffic, release, tick_in}
use Rattle.tipc_link_fsm.proofs.Moves.{cases_on, is_going_up, is_up_held}
use Rattle.tipc_link.specs.Links.{LinkEnd, after, cut_end, is_down, outcome_of, tunnels_of}
use Rattle.tipc_link.specs.Sessions.{SessionEnd}
use Rattle.tipc_pair.specs.Changeovers.{contact_begins, contact_ends, fail_over, fail_over_to, failing, following, gone_down, gone_up, is_clear, let_go, let_go_frames, parted, parted_end, release_near, released, switch, switch_from, switching}
use Rattle.tipc_pair.specs.Courses.{Course, going_on, rests}
use Rattle.tipc_pair.specs.Facing.{PairEnds, facing, in_contact, is_held_at, is_up_at, turned, with_near}
use Rattle.tipc_pair.specs.PairCalls.{at_bearer, cut_at, cut_near, stepped, tick_at, tick_near, ticked}
use Rattle.tipc_pair.specs.PairFacts.{AreHeldRightly, HasCarrier}
use Rattle.tipc_pair.proofs.CourseLaws.{then_pair}
use Rattle.tipc_pair.proofs.EndSteps.{cut_quiet, fsm_after}
use Rattle.tipc_link.proofs.Ends.{ended-is}
use Rattle.tipc_pair.proofs.Steppings.{stepped_first}

-- ---- the link states

-- An outcome that doesn't take the link down holds none that wasn't held, and leaves a link up that is; and a link is up that was, or went up.
pub record Holds (f : Fsm) (o : Outcome) : Type 0 where
  pub steady : is_down o.change ≡ false → (is_held o.after.state ≡ true → is_held f.state ≡ true) × (is_up f.state ≡ true → is_up o.after.state ≡ true)
  pub quiet : is_going_up o.change ≡ false → is_up o.after.state ≡ true → is_up f.state ≡ true

same_holds : (f : Fsm) (change : Change) → Holds f (gives f change)
same_holds f change = record { steady = λ other. (λ held. held, λ up. up); quiet = λ quiet up. up }

low_not_up : {A : Type 0} (f : Fsm) (held : Bool) → is_up (lowered f held).state ≡ true → A
low_not_up f true up = cc
low_not_up f false up = cc

low_holds : (f : Fsm) (held : Bool) (change : Change) → is_down change ≡ true → Holds f (gives (lowered f held) change)
low_holds f held change down = record { steady = λ other. absurd (let none : ⊥ = cc in none); quiet = λ quiet up. low_not_up f held up }

-- a link that hears its peer, which is up or goes up
up_holds : (f after : Fsm) (change : Change) → is_held after.state ≡ false → is_up after.state ≡ true → (is_going_up change ≡ false → is_up f.state ≡ true) → Holds f (gives after change)
up_holds f after change held up was = record { steady = λ other. (λ is. absurd (let none : ⊥ = cc in none), λ now. up); quiet = λ quiet now. was quiet }

pub cut_holds : (f : Fsm) (held : Bool) → Holds f (on_cut f held)
unfolding on_cut
cut_holds f held = cases_on (Holds f) (is_up f.state) _ _ (λ up. low_holds f held _ refl) (λ down. same_holds f Stay)

pub tunnel_holds : (f : Fsm) (epoch : ℕ) → Holds f (on_peer_tunnel f epoch)
unfolding on_peer_tunnel
tunnel_holds f epoch = cases_on (Holds f) (is_up f.state && is_peer f.peer epoch) _ _ (λ up. low_holds f true _ refl) (λ down. same_holds f Stay)

pub reset_holds : (f : Fsm) (es : ℕ) (held : Bool) → Holds f (on_reset f es held)
unfolding on_reset
reset_holds f es held =
    cases_on (Holds f) (is_held f.state) _ _ (λ h. same_holds f _) (λ h.
    cases_on (Holds f) (nat_lt es f.highest || (is_up f.state && is_peer f.peer es)) _ _ (λ h. same_holds f _) (λ h.
    cases_on (Holds f) (is_up f.state) _ _ (λ up. low_holds f held _ refl)
    (λ down. record { steady = λ other. (λ is. absurd (let none : ⊥ = cc in none), λ up. absurd (let none : ⊥ = cc in none)); quiet = λ quiet up. absurd (let none : ⊥ = cc in none) })))

ticked_holds : (f after : Fsm) (b : Bool) (change : Change) → after.state ≡ (if b then WorkingUnknown else WorkingWorking) → is_up f.state ≡ true → Holds f (gives after change)
ticked_holds f after true change is up = up_holds f after change (ap is_held is) (ap is_up is) (λ quiet. up)
ticked_holds f after false change is up = up_holds f after change (ap is_held is) (ap is_up is) (λ quiet. up)

tick_in_holds : (st : LinkState) (f : Fsm) (held : Bool) → f.state ≡ st → Holds f (tick_in st f held)
tick_in_holds ResetUnknown f held is = same_holds f _
tick_in_holds ResetReset f held is = same_holds f _
tick_in_holds Held f held is = same_holds f _
tick_in_holds WorkingWorking f held is = cases_on (Holds f) (f.silent == 4) _ _ (λ h. low_holds f held _ refl) (λ h. ticked_holds f _ (nat_le 1 f.silent) _ refl (ap is_up is))
tick_in_holds WorkingUnknown f held is = cases_on (Holds f) (f.silent == 4) _ _ (λ h. low_holds f held _ refl) (λ h. ticked_holds f _ (nat_le 1 f.silent) _ refl (ap is_up is))

pub tick_holds : (f : Fsm) (held : Bool) → Holds f (on_tick f held)
unfolding on_tick
tick_holds f held = tick_in_holds f.state f held refl

activate_holds : (f : Fsm) (es er : ℕ) → Holds f (on_activate f es er)
unfolding on_activate
activate_holds f es er =
    cases_on (Holds f) (is_held f.state) _ _ (λ h. same_holds f _) (λ h.
    cases_on (Holds f) ((is_in_reset f.state && not (is_last f.own)) && ((er == f.own) && not (nat_lt es f.highest))) _ _ (λ h. up_holds f _ Up refl refl (λ quiet. cc)) (λ h.
    cases_on (Holds f) (is_up f.state && is_session f es er) _ _ (λ up. up_holds f _ Stay refl refl (λ quiet. (and_parts (is_up f.state) (is_session f es er) up).0)) (λ h. same_holds f _)))

traffic_holds : (f : Fsm) (es er : ℕ) → Holds f (on_traffic f es er)
unfolding on_traffic
traffic_holds f es er =
    cases_on (Holds f) (is_session f es er && (is_reset_reset f.state && not (is_last f.own))) _ _ (λ h. up_holds f _ Up refl refl (λ quiet. cc)) (λ h.
    cases_on (Holds f) (is_session f es er && is_up f.state) _ _ (λ up. up_holds f _ Stay refl refl (λ quiet. (and_parts (is_session f es er) (is_up f.state) up).1)) (λ h. same_holds f _))

pub outcome_holds : (f : Fsm) (h : Header) (es er : ℕ) (held : Bool) → Holds f (outcome_of f h es er held)
outcome_holds f (header.Reset r) es er held = reset_holds f es held
outcome_holds f (header.Activate a) es er held = activate_holds f es er
outcome_holds f (header.Discovery d) es er held = same_holds f _
outcome_holds f other es er held = traffic_holds f es er

-- which calls never take a link up
pub reset_quiet : (f : Fsm) (es : ℕ) (held : Bool) → is_going_up (on_reset f es held).change ≡ false
unfolding on_reset
reset_quiet f es held =
    let P : Outcome → Type 0 = λ o. is_going_up o.change ≡ false in
    cases_on P (is_held f.state) _ _ (λ h. refl) (λ h. cases_on P (nat_lt es f.highest || (is_up f.state && is_peer f.peer es)) _ _ (λ h. refl) (λ h. cases_on P (is_up f.state) _ _ (λ h. refl) (λ h. refl)))

tick_in_quiet : (st : LinkState) (f : Fsm) (held : Bool) → is_going_up (tick_in st f held).change ≡ false
tick_in_quiet ResetUnknown f held = refl
tick_in_quiet ResetReset f held = refl
tick_in_quiet Held f held = refl
tick_in_quiet WorkingWorking f held = cases_on (λ o. is_going_up o.change ≡ false) (f.silent == 4) _ _ (λ h. refl) (λ h. refl)
tick_in_quiet WorkingUnknown f held = cases_on (λ o. is_going_up o.change ≡ false) (f.silent == 4) _ _ (λ h. refl) (λ h. refl)

pub tick_quiet : (f : Fsm) (held : Bool) → is_going_up (on_tick f held).change ≡ false
unfolding on_tick
tick_quiet f held = tick_in_quiet f.state f held

-- ---- a pair

-- an end is held only where the other link is up
pub record HeldUp (x : PairEnds) : Type 0 where
  pub near : is_held_at x.near ≡ true → is_up_at x.far ≡ true
  pub far : is_held_at x.far ≡ true → is_up_at x.near ≡ true

-- this goes on to hold, and a contact that is there then is the one of before
pub record GoesOn (x y : PairEnds) : Type 0 where
  pub held : HeldUp x → HeldUp y
  pub seen : y.seen ≡ x.seen
  pub contact : in_contact y ≡ true → y.contact ≡ x.contact

-- and it was there before
pub record GoesQuietly (x y : PairEnds) : Type 0 where
  pub goes : GoesOn x y
  pub stays : in_contact y ≡ true → in_contact x ≡ true

pub goes_then : (x y z : PairEnds) → GoesOn x y → GoesQuietly y z → GoesOn x z
goes_then x y z h k = record {
  held = λ up. k.goes.held (h.held up);
  seen = k.goes.seen ∙ h.seen;
  contact = λ there. k.goes.contact there ∙ h.contact (k.stays there);
}

pub quietly_then : (x y z : PairEnds) → GoesQuietly x y → GoesQuietly y z → GoesQuietly x z
quietly_then x y z h k = record { goes = goes_then x y z h.goes k; stays = λ there. h.stays (k.stays there) }

pub quietly_same : (x y : PairEnds) → y ≡ x → GoesQuietly x y
quietly_same x y same = subst (GoesQuietly x) (sym same) (record { goes = record { held = λ h. h; seen = refl; contact = λ there. refl }; stays = λ there. there })

pub or_true : (a : Bool) → (a || true) ≡ true
or_true true = refl
or_true false = refl

pub or_turns : (a b : Bool) → (a || b) ≡ (b || a)
or_turns true true = refl
or_turns true false = refl
or_turns false true = refl
or_turns false false = refl

pub held_turned : (x : PairEnds) → HeldUp x → HeldUp (turned x)
held_turned x h = record { near = h.far; far = h.near }

-- the same from the other link
pub quietly_turned : (x y : PairEnds) → GoesQuietly (turned x) y → GoesQuietly x (turned y)
quietly_turned x y h = record {
  goes = record {
    held = λ up. held_turned y (h.goes.held (held_turned x up));
    seen = h.goes.seen;
    contact = λ there. h.goes.contact (or_turns (is_up_at y.near) (is_up_at y.far) ∙ there);
  };
  stays = λ there. or_turns (is_up_at x.near) (is_up_at x.far) ∙ h.stays (or_turns (is_up_at y.near) (is_up_at y.far) ∙ there);
}

-- ---- the same shape: each end is up or held as before

pub record Shape (x y : PairEnds) : Type 0 where
  pub near_up : is_up_at y.near ≡ is_up_at x.near
  pub far_up : is_up_at y.far ≡ is_up_at x.far
  pub near_held : is_held_at y.near ≡ is_held_at x.near
  pub far_held : is_held_at y.far ≡ is_held_at x.far
  pub contact : y.contact ≡ x.contact
  pub seen : y.seen ≡ x.seen

pub same_shape : (x : PairEnds) → Shape x x
same_shape x = record { near_up = refl; far_up = refl; near_held = refl; far_held = refl; contact = refl; seen = refl }

pub shape_contact : (x y : PairEnds) → Shape x y → in_contact y ≡ in_contact x
shape_contact x y h = ap (λ b. b || is_up_at y.far) h.near_up ∙ ap (λ b. is_up_at x.near || b) h.far_up

pub shape_held : (x y : PairEnds) → Shape x y → HeldUp x → HeldUp y
shape_held x y h up = record {
  near = λ is. h.far_up ∙ up.near (sym h.near_held ∙ is);
  far = λ is. h.near_up ∙ up.far (sym h.far_held ∙ is);
}

failing_shape : (x : PairEnds) (n f : LinkEnd) (a b : Option SessionEnd) → x.near ≡ Some n → x.far ≡ Some f → Shape x (failing x n f a b).pair
failing_shape x n f (Some lost) (Some s) near far = record {
  near_up = sym (ap is_up_at near);
  far_up = sym (ap is_up_at far);
  near_held = sym (ap is_held_at near);
  far_held = sym (ap is_held_at far);
  contact = refl;
  seen = refl;
}
failing_shape x n f (Some lost) None near far = same_shape x
failing_shape x n f None b near far = same_shape x

fail_over_shape : (x : PairEnds) (o p : Option LinkEnd) → x.near ≡ o → x.far ≡ p → Shape x (fail_over_to x o p).pair
fail_over_shape x (Some n) (Some f) near far = failing_shape x n f n.session f.session near far
fail_over_shape x (Some n) None near far = same_shape x
fail_over_shape x None p near far = same_shape x

switching_shape : (x : PairEnds) (n f : LinkEnd) (a b : Option SessionEnd) → x.near ≡ Some n → x.far ≡ Some f → Shape x (switching x n f a b).pair
switching_shape x n f (Some s) (Some old) near far = record {
  near_up = sym (ap is_up_at near);
  far_up = sym (ap is_up_at far);
  near_held = sym (ap is_held_at near);
  far_held = sym (ap is_held_at far);
  contact = refl;
  seen = refl;
}
switching_shape x n f (Some s) None near far = same_shape x
switching_shape x n f None b near far = same_shape x

switch_shape : (x : PairEnds) (o p : Option LinkEnd) → x.near ≡ o → x.far ≡ p → Shape x (switch_from x o p).pair
switch_shape x (Some n) (Some f) near far = switching_shape x n f n.session f.session near far
switch_shape x (Some n) None near far = same_shape x
switch_shape x None p near far = same_shape x

pub gone_up_shape : (x : PairEnds) → Shape x (gone_up x).pair
gone_up_shape x = elim (is_up_at x.far) as (λ b. Shape x (if b then (if x.bearer == 0 then switch x else rests x) else contact_begins x).pair) [
  | true ↦ elim (x.bearer == 0) as (λ b. Shape x (if b then switch x else rests x).pair) [ true ↦ switch_shape x x.near x.far refl refl | false ↦ same_shape x ]
  | false ↦ record { near_up = refl; far_up = refl; near_held = refl; far_held = refl; contact = refl; seen = refl }
]

-- ---- the end of a contact

pub parted_down : (contact seen : ℕ) (end : Option LinkEnd) → is_up_at (option_map (parted_end contact seen) end) ≡ false
parted_down contact seen None = refl
parted_down contact seen (Some e) = ap (λ (f : Fsm). is_up f.state) (ended-is e.fsm)

parted_free : (contact seen : ℕ) (end : Option LinkEnd) → is_held_at (option_map (parted_end contact seen) end) ≡ false
parted_free contact seen None = refl
parted_free contact seen (Some e) = ap (λ (f : Fsm). is_held f.state) (ended-is e.fsm)

pub not_in : (x : PairEnds) → in_contact (parted x) ≡ false
not_in x = ap (λ b. b || is_up_at (parted x).far) (parted_down (x.contact + 1) x.seen x.near) ∙ parted_down (x.contact + 1) x.seen x.far

no_contact : {A : Type 0} (x : PairEnds) → in_contact (parted x) ≡ true → A
no_contact x there = let none : in_contact (parted x) ≡ false = not_in x in cc

pub parted_held : (x : PairEnds) → HeldUp (parted x)
parted_held x = record {
  near = λ is. (let none : is_held_at (parted x).near ≡ false = parted_free (x.contact + 1) x.seen x.near in cc);
  far = λ is. (let none : is_held_at (parted x).far ≡ false = parted_free (x.contact + 1) x.seen x.far in cc);
}

-- ---- what follows a change of the near link

up_not_held : (st : LinkState) → is_up st ≡ true → is_held st ≡ false
up_not_held WorkingWorking up = refl
up_not_held WorkingUnknown up = refl
up_not_held ResetUnknown up = refl
up_not_held ResetReset up = refl
up_not_held Held up = cc

not_both : {A : Type 0} (end : Option LinkEnd) → is_up_at end ≡ true → is_held_at end ≡ true → A
not_both None up held = cc
not_both (Some e) up held = let none : is_held e.fsm.state ≡ false = up_not_held e.fsm.state up in cc

gone_down_goes : (x w : PairEnds) → w.far ≡ x.far → w.seen ≡ x.seen → w.contact ≡ x.contact → GoesQuietly x (gone_down w).pair
gone_down_goes x w far seen contact = elim (is_up_at w.far) as (λ b. is_up_at w.far ≡ b → GoesQuietly x (if b then fail_over w else contact_ends w (w.contact, w.seen) 0).pair) [
  | true ↦ λ up.
      let shape = fail_over_shape w w.near w.far refl refl in
      let y = (fail_over w).pair in
      let far_up : is_up_at y.far ≡ true = shape.far_up ∙ up in
      record {
        goes = record {
          held = λ was. record { near = λ is. far_up; far = λ is. not_both y.far far_up is };
          seen = shape.seen ∙ seen;
          contact = λ there. shape.contact ∙ contact;
        };
        stays = λ there. ap (λ b. is_up_at x.near || b) (sym (ap is_up_at far) ∙ up) ∙ or_true (is_up_at x.near);
      }
  | false ↦ λ down. record {
    goes = record { held = λ was. parted_held w; seen = seen; contact = λ there. no_contact w there };
    stays = λ there. no_contact w there;
  }
] refl

-- The near end changed by an outcome of its link states, and what follows is done: this goes on to hold.
near_before : (x : PairEnds) (e new : LinkEnd) (o : Outcome) → x.near ≡ Some e → new.fsm ≡ o.after → Holds e.fsm o → is_down o.change ≡ false → HeldUp x → HeldUp (with_near x new)
near_before x e new o near fsm holds other up = record {
  near = λ is. up.near (ap is_held_at near ∙ (holds.steady other).0 (ap (λ (f : Fsm). is_held f.state) (sym fsm) ∙ is));
  far = λ is. ap (λ (f : Fsm). is_up f.state) fsm ∙ (holds.steady other).1 (sym (ap is_up_at near) ∙ up.far is);
}

near_contact : (x : PairEnds) (e new : LinkEnd) (o : Outcome) → x.near ≡ Some e → new.fsm ≡ o.after → Holds e.fsm o → is_going_up o.change ≡ false → in_contact (with_near x new) ≡ true → in_contact x ≡ true
near_contact x e new o near fsm holds quiet there = elim (is_up new.fsm.state) as (λ b. is_up new.fsm.state ≡ b → (b || is_up_at x.far) ≡ true → in_contact x ≡ true) [
  | true ↦ λ up in_one. ap (λ b. b || is_up_at x.far) (ap is_up_at near ∙ holds.quiet quiet (ap (λ (f : Fsm). is_up f.state) (sym fsm) ∙ up))
  | false ↦ λ down far_up. ap (λ b. is_up_at x.near || b) far_up ∙ or_true (is_up_at x.near)
] refl there

following_goes : (x : PairEnds) (e new : LinkEnd) (f : Outcome) (change : Change) (epoch : ℕ) → x.near ≡ Some e → new.fsm ≡ f.after → Holds e.fsm f → f.change ≡ change → GoesOn x (following (with_near x new) change epoch).pair
following_goes x e new f Up epoch near fsm holds is =
    let w = with_near x new in
    let shape = gone_up_shape w in
    record {
      held = λ up. shape_held w (gone_up w).pair shape (near_before x e new f near fsm holds (ap is_down is) up);
      seen = shape.seen;
      contact = λ there. shape.contact;
    }
following_goes x e new f (Down cause) epoch near fsm holds is = (gone_down_goes x (with_near x new) refl refl refl).goes
following_goes x e new f Stay epoch near fsm holds is = record { held = λ up. near_before x e new f near fsm holds (ap is_down is) up; seen = refl; contact = λ there. refl }
following_goes x e new f (Answer reply) epoch near fsm holds is = record { held = λ up. near_before x e new f near fsm holds (ap is_down is) up; seen = refl; contact = λ there. refl }
following_goes x e new f (Ignore why) epoch near fsm holds is = record { held = λ up. near_before x e new f near fsm holds (ap is_down is) up; seen = refl; contact = λ there. refl }

following_stays : (x : PairEnds) (e new : LinkEnd) (f : Outcome) (change : Change) (epoch : ℕ) → x.near ≡ Some e → new.fsm ≡ f.after → Holds e.fsm f → f.change ≡ change → is_going_up change ≡ false
    → in_contact (following (with_near x new) change epoch).pair ≡ true → in_contact x ≡ true
following_stays x e new f Up epoch near fsm holds is quiet there = cc
following_stays x e new f (Down cause) epoch near fsm holds is quiet there = (gone_down_goes x (with_near x new) refl refl refl).stays there
following_stays x e new f Stay epoch near fsm holds is quiet there = near_contact x e new f near fsm holds (ap is_going_up is) there
following_stays x e new f (Answer reply) epoch near fsm holds is quiet there = near_contact x e new f near fsm holds (ap is_going_up is) there
following_stays x e new f (Ignore why) epoch near fsm holds is quiet there = near_contact x e new f near fsm holds (ap is_going_up is) there

pub near_goes : (x : PairEnds) (e new : LinkEnd) (o : Outcome) (epoch : ℕ) → x.near ≡ Some e → new.fsm ≡ o.after → Holds e.fsm o → GoesOn x (following (with_near x new) o.change epoch).pair
near_goes x e new o epoch near fsm holds = following_goes x e new o o.change epoch near fsm holds refl

pub near_quietly : (x : PairEnds) (e new : LinkEnd) (o : Outcome) (epoch : ℕ) → x.near ≡ Some e → new.fsm ≡ o.after → Holds e.fsm o → is_going_up o.change ≡ false
    → GoesQuietly x (following (with_near x new) o.change epoch).pair
near_quietly x e new o epoch near fsm holds quiet = record {
  goes = near_goes x e new o epoch near fsm holds;
  stays = λ there. following_stays x e new o o.change epoch near fsm holds refl quiet there;
}

-- ---- either end may be released

pub let_go_up : (end : Option LinkEnd) → is_up_at (option_map let_go end) ≡ is_up_at end
unfolding release
let_go_up None = refl
let_go_up (Some e) = cases_on (λ o. is_up o.after.state ≡ is_up e.fsm.state) (is_held e.fsm.state) _ _ (λ held. sym (is_up_held e.fsm.state held)) (λ other. refl)

let_go_free : (end : Option LinkEnd) → is_held_at (option_map let_go end) ≡ false
unfolding release
let_go_free None = refl
let_go_free (Some e) = cases_on (λ o. is_held o.after.state ≡ false) (is_held e.fsm.state) _ _ (λ held. refl) (λ other. other)

release_goes : (x : PairEnds) → GoesQuietly x (release_near x).pair
release_goes x = elim (is_clear x.far) as (λ b. GoesQuietly x (if b then record (rests (record x { near = option_map let_go x.near })) { states = let_go_frames x.near } else rests x).pair) [
  | true ↦ record {
    goes = record {
      held = λ up. record {
        near = λ is. (let none : is_held_at (option_map let_go x.near) ≡ false = let_go_free x.near in cc);
        far = λ is. let_go_up x.near ∙ up.far is;
      };
      seen = refl;
      contact = λ there. refl;
    };
    stays = λ there. ap (λ b. b || is_up_at x.far) (sym (let_go_up x.near)) ∙ there;
  }
  | false ↦ quietly_same x x refl
]

pub released_goes : (x : PairEnds) → GoesQuietly x (released x).pair
unfolding released going_on
released_goes x =
    let one = (release_near x).pair in quietly_then x one (turned (release_near (turned one)).pair) (release_goes x) (quietly_turned one (release_near (turned one)).pair (release_goes (turned one)))

-- and then an end that is still held has a carrier
pub far_stays : (x : PairEnds) → (release_near x).pair.far ≡ x.far
far_stays x = elim (is_clear x.far) as (λ b. (if b then record (rests (record x { near = option_map let_go x.near })) { states = let_go_frames x.near } else rests x).pair.far ≡ x.far) [ true ↦ refl | false ↦ refl ]

held_unclear : (x : PairEnds) → is_held_at (release_near x).pair.near ≡ true → (is_clear x.far ≡ false) × (is_held_at x.near ≡ true)
held_unclear x = elim (is_clear x.far) as (λ b. is_held_at (if b then record (rests (record x { near = option_map let_go x.near })) { states = let_go_frames x.near } else rests x).pair.near ≡ true
    → (b ≡ false) × (is_held_at x.near ≡ true)) [
      | true ↦ λ is. (let none : is_held_at (option_map let_go x.near) ≡ false = let_go_free x.near in cc)
      | false ↦ λ is. (refl, is)
    ]

abbrev HasTunnels : Option LinkEnd → Type 0
HasTunnels end = IfSome end (λ (c : LinkEnd). 0 < tunnels_of c.session)

go_with_tunnels : (end : Option LinkEnd) → HasTunnels end → HasTunnels (option_map let_go end)
go_with_tunnels None h = h
go_with_tunnels (Some e) h = h

near_tunnels : (x : PairEnds) → HasTunnels x.near → HasTunnels (release_near x).pair.near
near_tunnels x h = elim (is_clear x.far) as (λ b. HasTunnels (if b then record (rests (record x { near = option_map let_go x.near })) { states = let_go_frames x.near } else rests x).pair.near) [
  | true ↦ go_with_tunnels x.near h
  | false ↦ h
]

unclear_tunnels : (end : Option LinkEnd) → is_clear end ≡ false → is_up_at end ≡ true → HasTunnels end
unclear_tunnels None unclear up = cc
unclear_tunnels (Some e) unclear up = let some : 0 < tunnels_of e.session = grind (arith, nat_tests) in some

has_carrier : (end carrier : Option LinkEnd) → (is_held_at end ≡ true → is_up_at carrier ≡ true) → (is_held_at end ≡ true → HasTunnels carrier) → IfSome end (HasCarrier carrier)
has_carrier None carrier up tunnels = tt
has_carrier (Some e) carrier up tunnels = record { up = up; tunnel = tunnels }

pub released_held : (x : PairEnds) → HeldUp x → AreHeldRightly (released x).pair
unfolding released going_on
released_held x up =
    let one = (release_near x).pair in
    let two = (release_near (turned one)).pair in
    let last : HeldUp (turned two) = (quietly_turned one two (release_goes (turned one))).goes.held ((release_goes x).goes.held up) in
    let stays : two.far ≡ one.near = far_stays (turned one) in
    record {
      near = has_carrier two.far two.near last.near (λ is.
          let was = held_unclear x (ap is_held_at (sym stays) ∙ is) in
          near_tunnels (turned one) (subst HasTunnels (sym (far_stays x)) (unclear_tunnels x.far was.0 (up.near was.1))));
      far = has_carrier two.near two.far last.far (λ is. unclear_tunnels two.far (ap is_clear stays ∙ (held_unclear (turned one) is).0) (last.far is));
    }

end_held_up : (end carrier : Option LinkEnd) → IfSome end (HasCarrier carrier) → is_held_at end ≡ true → is_up_at carrier ≡ true
end_held_up None carrier h is = cc
end_held_up (Some e) carrier h is = h.up is

pub held_up : (x : PairEnds) → AreHeldRightly x → HeldUp x
held_up x h = record { near = end_held_up x.near x.far h.near; far = end_held_up x.far x.near h.far }

-- ---- seen from either link

pub rightly_facing : (bearer : ℕ) (x : PairEnds) → AreHeldRightly x → AreHeldRightly (facing bearer x)
unfolding facing
rightly_facing bearer x h = elim (x.bearer == bearer) as (λ b. AreHeldRightly (if b then x else turned x)) [ true ↦ h | false ↦ record { near = h.far; far = h.near } ]

pub held_facing : (bearer : ℕ) (x : PairEnds) → HeldUp x → HeldUp (facing bearer x)
unfolding facing
held_facing bearer x h = elim (x.bearer == bearer) as (λ b. HeldUp (if b then x else turned x)) [ true ↦ h | false ↦ held_turned x h ]

pub quietly_facing : (bearer : ℕ) (x y : PairEnds) → GoesQuietly x y → GoesQuietly x (facing bearer y)
unfolding facing
quietly_facing bearer x y h = elim (y.bearer == bearer) as (λ b. GoesQuietly x (if b then y else turned y)) [
  | true ↦ h
  | false ↦ record {
    goes = record {
      held = λ up. held_turned y (h.goes.held up);
      seen = h.goes.seen;
      contact = λ there. h.goes.contact (or_turns (is_up_at y.near) (is_up_at y.far) ∙ there);
    };
    stays = λ there. h.stays (or_turns (is_up_at y.near) (is_up_at y.far) ∙ there);
  }
]

pub facing_quietly : (bearer : ℕ) (x y : PairEnds) → GoesQuietly (facing bearer x) y → GoesQuietly x y
unfolding facing
facing_quietly bearer x y = elim (x.bearer == bearer) as (λ b. GoesQuietly (if b then x else turned x) y → GoesQuietly x y) [
  | true ↦ λ h. h
  | false ↦ λ h. record {
    goes = record { held = λ up. h.goes.held (held_turned x up); seen = h.goes.seen; contact = h.goes.contact };
    stays = λ there. or_turns (is_up_at x.near) (is_up_at x.far) ∙ h.stays there;
  }
]

at_bearer_goes : (bearer : ℕ) (x : PairEnds) (call : PairEnds → Course) → ((y : PairEnds) → GoesQuietly y (call y).pair) → GoesQuietly x (at_bearer bearer x call).pair
at_bearer_goes bearer x call goes = facing_quietly bearer x _ (quietly_facing x.bearer (facing bearer x) (call (facing bearer x)).pair (goes (facing bearer x)))

-- ---- cut and tick

pub cut_at_goes : (x : PairEnds) (end : Option LinkEnd) → x.near ≡ end → GoesQuietly x (cut_at x end).pair
cut_at_goes x None near = quietly_same x x refl
cut_at_goes x (Some e) near =
    let held = is_up_at x.far in near_quietly x e (cut_end e held) (on_cut e.fsm held) 0 near refl (cut_holds e.fsm held) (cut_quiet e.fsm held)

pub cut_goes : (x : PairEnds) → GoesQuietly x (cut_near x).pair
cut_goes x =
    let one = (cut_at x x.near).pair in
    subst (GoesQuietly x) (sym (then_pair (cut_at x x.near) released)) (quietly_then x one (released one).pair (cut_at_goes x x.near refl) (released_goes one))

pub cut_held : (x : PairEnds) → HeldUp x → AreHeldRightly (cut_near x).pair
cut_held x up = subst AreHeldRightly (sym (then_pair (cut_at x x.near) released)) (released_held (cut_at x x.near).pair ((cut_at_goes x x.near refl).goes.held up))

pub stepped_goes : (x : PairEnds) (e : LinkEnd) (o : Outcome) (epoch : ℕ) (shown : BroadcastState) → x.near ≡ Some e → Holds e.fsm o → is_going_up o.change ≡ false → GoesQuietly x (stepped x e o epoch shown).pair
stepped_goes x e o epoch shown near holds quiet =
    subst (GoesQuietly x) (sym (then_pair (stepped_first x e o shown) (λ y. following y o.change epoch))) (near_quietly x e (after e o) o epoch near (fsm_after e o) holds quiet)

tick_at_goes : (shown : BroadcastState) (x : PairEnds) (end : Option LinkEnd) → x.near ≡ end → GoesQuietly x (tick_at shown x end).pair
tick_at_goes shown x None near = quietly_same x x refl
tick_at_goes shown x (Some e) near = let held = is_up_at x.far in stepped_goes x e (on_tick e.fsm held) 0 shown near (tick_holds e.fsm held) (tick_quiet e.fsm held)

pub both_goes : (shown : BroadcastState) (x : PairEnds) → GoesQuietly x (going_on (at_bearer 0 x (tick_near shown)) (λ y. at_bearer 1 y (tick_near shown))).pair
both_goes shown x =
    let call = tick_near shown in
    let one = (at_bearer 0 x call).pair in
    let each = λ (y : PairEnds). tick_at_goes shown y y.near refl in
    subst (GoesQuietly x) (sym (then_pair (at_bearer 0 x call) (λ y. at_bearer 1 y call)))
    (quietly_then x one (at_bearer 1 one call).pair (at_bearer_goes 0 x call each) (at_bearer_goes 1 one call each))

pub ticked_goes : (shown : BroadcastState) (x : PairEnds) → GoesQuietly x (ticked shown x).pair
ticked_goes shown x =
    let first = going_on (at_bearer 0 x (tick_near shown)) (λ y. at_bearer 1 y (tick_near shown)) in
    subst (GoesQuietly x) (sym (then_pair first released)) (quietly_then x first.pair (released first.pair).pair (both_goes shown x) (released_goes first.pair))

pub ticked_held : (shown : BroadcastState) (x : PairEnds) → HeldUp x → AreHeldRightly (ticked shown x).pair
ticked_held shown x up =
    let first = going_on (at_bearer 0 x (tick_near shown)) (λ y. at_bearer 1 y (tick_near shown)) in
    subst AreHeldRightly (sym (then_pair first released)) (released_held first.pair ((both_goes shown x).goes.held up))
