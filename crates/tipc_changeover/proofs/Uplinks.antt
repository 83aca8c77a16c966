-- A link goes up: where the other is down or is the first one it takes nothing over; else it takes the flow.
use Rattle.std.proofs.Common.{◌≡◌, ◌≢◌, ℕ, ◌+◌, ◌-◌, ◌<◌, ◌≤◌, true, false, List, [], ◌++◌, Some, length, refl, sym, ap, ◌∙◌, subst, inl, inr, arith}
use Rattle.std.proofs.lemmas.Bool.{cases_eq, cases_lt, true≢false}
use Rattle.std.proofs.lemmas.List.{append-nil}
use Rattle.tipc_changeover.specs.Slots.{at, counted, duplicates, leading, plains, Plain, LinkSlot, Tunnel}
use Rattle.tipc_changeover.specs.Links.{front, leads, other, slots, Bearer, EndState, First, Held, Past, Receiver, Reset, Second, Sender, State, Up}
use Rattle.tipc_changeover.specs.Events.{acted, gone_up, with_waiting, LinkUp, MayAct, Switch}
use Rattle.tipc_changeover.specs.Parts.{Cover, Ends, HoldsPlain, InnerIn, IsTarget, RunsIn, TargetIn}
use Rattle.tipc_changeover.specs.Sound.{Sound}
use Rattle.tipc_changeover.proofs.Lists.{at_back, at_either, at_front, at_none, at_within, leading-none, plains-append, plains-nil}
use Rattle.tipc_changeover.proofs.Numbers.{counted-none}
use Rattle.tipc_changeover.proofs.Runs.{in_run, inner_append, marks, of_run, plains-run, retarget, runs_append, runs_of_none, runs_of_run, stands, target_append, target_of_none, target_of_run, HasNone}
use Rattle.tipc_changeover.proofs.Keeping.{all_kept, leads_beside, not_up}

-- ---- ended sessions, seen from an end that isn't held

pub not_held : {st su : EndState} → st ≡ su → su ≢ Held → st ≢ Held
not_held same free = λ held. free (sym same ∙ held)

-- each place of an ended session is past
pub ended_past : (x y : Sender) (r : Receiver) (f q : ℕ) (z : LinkSlot) → Cover x y r → x.state ≢ Held → f < x.session → at (x.line f) q ≡ Some z → Past r f q
ended_past x y r f q z h free ended there = elim (h.covered f q ended (at_within (x.line f) q z there).0 (at_within (x.line f) q z there).1) [
  | inl past ↦ past
  | inr w ↦ absurd (free w.1)
]

-- what stands in a session that isn't the present one stands in an ended one
pub is_ended : (x : Sender) (r : Receiver) (f q : ℕ) (z : LinkSlot) → Ends x r → x.session ≢ f → at (x.line f) q ≡ Some z → f < x.session
is_ended x r f q z h differ there = elim (cases_lt f x.session) [
  | inl ended ↦ ended
  | inr later ↦ absurd (at_none q z (ap (λ zs. at zs q) (sym (h.later f (omega arith))) ∙ there))
]

-- where an end is down, what stands in its lines stands in an ended session
pub down_is_ended : (x : Sender) (r : Receiver) (f q : ℕ) (z : LinkSlot) → Ends x r → x.state ≢ Up → at (x.line f) q ≡ Some z → f < x.session
down_is_ended x r f q z h down there = elim (cases_eq x.session f) [
  | inl same ↦ absurd (at_none q z (ap (λ zs. at zs q) (sym (h.down down).0) ∙ (ap (λ n. at (x.line n) q) same ∙ there)))
  | inr differ ↦ is_ended x r f q z h differ there
]

pub no_slots : (x : Sender) (r : Receiver) → Ends x r → x.state ≢ Up → slots x ≡ []
no_slots x r h down = ap (λ zs. zs ++ x.waiting) (h.down down).0 ∙ (h.down down).1

pub reset_free : Reset ≢ Held
reset_free e = cc

pub reset_down : Reset ≢ Up
reset_down e = cc

pub up_free : Up ≢ Held
up_free e = cc

-- an end that goes up from reset
up_ends : (x : Sender) (r : Receiver) (waiting : List LinkSlot) → Ends x r → x.state ≡ Reset → Ends (gone_up x waiting) r
up_ends x r waiting h reset = record {
  session_begun = h.session_begun;
  record_shown = h.record_shown;
  held = λ held. absurd (up_free held);
  taken = h.taken;
  down = λ down. absurd (down refl);
  later = h.later;
  acked = h.acked;
  acked_past = h.acked_past;
}

up_target : (x : Sender) (waiting : List LinkSlot) (f q : ℕ) → IsTarget x f q → IsTarget (gone_up x waiting) f q
up_target x waiting f q w = record { begun = w.begun; shown = w.shown; up = λ _. refl; numbered = w.numbered }

up_cover : (x y y' : Sender) (r : Receiver) (waiting : List LinkSlot) → Cover x y r → x.state ≡ Reset → Cover (gone_up x waiting) y' r
up_cover x y y' r waiting h reset = record {
  covered = λ e q ended low high. elim (h.covered e q ended low high) [
    | inl past ↦ inl past
    | inr w ↦ absurd (not_held reset reset_free w.1)
  ];
}

-- ---- nothing is taken over

-- the other link isn't up where this one gets the flow
flow_alone : (b : Bearer) (su : EndState) → (b ≡ First → su ≢ Up) → leads b Up su ≡ true → su ≢ Up
flow_alone First su may leading = may refl
flow_alone Second Up may leading = absurd (let wrong : ⊥ = cc in wrong)
flow_alone Second Reset may leading = reset_down
flow_alone Second Held may leading = λ (e : Held ≡ Up). (let wrong : ⊥ = cc in wrong)

-- nor where the other link hasn't the flow
no_flow : (b : Bearer) (su : EndState) → (b ≡ First → su ≢ Up) → leads (other b) su Up ≡ false → su ≢ Up
no_flow First su may not_leading = may refl
no_flow Second su may not_leading = λ up. true≢false (ap (λ z. leads First z Up) (sym up) ∙ not_leading)

pub link_up : (b : Bearer) (s : State) → Sound b s → MayAct b s LinkUp → Sound b (acted s LinkUp)
link_up b s h may =
    let x = s.near in
    let y = s.far in
    let down : x.state ≢ Up = not_up may.0 reset_down in
    let empty = h.near.ends.down down in
    let none : slots x ≡ [] = no_slots x s.near_record h.near.ends down in
    all_kept b s (gone_up x x.waiting) y s.put h (record {
      ends = up_ends x s.near_record x.waiting h.near.ends may.0;
      waits = λ leading. (
          let all : s.numbered ≡ s.put = h.idle down (flow_alone b y.state may.1 leading) in
          let zero_more : 0 ≡ s.put - s.numbered = omega arith in
          ap plains empty.1 ∙ (plains-nil ∙ (sym (counted-none s.numbered) ∙ ap (λ c. counted s.numbered c) zero_more)));
      none_waits = λ _. ap plains empty.1 ∙ plains-nil;
      ready = record {
        same_link = λ leading f q i there differ. ended_past x y s.near_record f q (Plain i) h.near.cover (not_held may.0 reset_free) (is_ended x s.near_record f q (Plain i) h.near.ends differ there) there;
        other_link = λ leading f q i there. (
            let real = at_within (y.line f) q (Plain i) there in
            inl (elim (h.far.cover.covered f q (down_is_ended y s.far_record f q (Plain i) h.far.ends (flow_alone b y.state may.1 leading) there) real.0 real.1) [
              | inl past ↦ past
              | inr w ↦ absurd (at_none w.2.where_it_stands (Tunnel f q w.2.full) (ap (λ zs. at zs w.2.where_it_stands) (sym none) ∙ w.2.there))
            ]));
      };
      runs = h.near.runs.now;
      target_lines = h.near.target.lines;
      target = h.near.target.now;
      inner = h.near.inner.now;
      carrier = record { none = h.near.carrier.none; present = h.near.carrier.present };
      cover = up_cover x y y s.near_record x.waiting h.near.cover may.0;
    }) (record {
      ends = h.far.ends;
      waits = λ leading. h.far.homes.waits (leads_beside (other b) y.state x.state leading);
      none_waits = λ not_leading. ap plains (h.far.ends.down (no_flow b y.state may.1 not_leading)).1 ∙ plains-nil;
      ready = record {
        same_link = λ leading. h.far.ready.same_link (leads_beside (other b) y.state x.state leading);
        other_link = λ leading. h.far.ready.other_link (leads_beside (other b) y.state x.state leading);
      };
      runs = h.far.runs.now;
      target_lines = λ e. retarget (y.line e) x (gone_up x x.waiting) (h.far.target.lines e) (up_target x x.waiting);
      target = retarget (slots y) x (gone_up x x.waiting) h.far.target.now (up_target x x.waiting);
      inner = h.far.inner.now;
      carrier = record {
        none = λ reset. absurd (reset_down (sym reset));
        present = λ up p f q full there live. absurd (let acknowledged = h.far.carrier.none may.0 p f q full there in omega arith);
      };
      cover = record {
        covered = λ e q ended low high. elim (h.far.cover.covered e q ended low high) [
          | inl past ↦ inl past
          | inr w ↦ (let live = w.2 in inr (w.0, w.1, record { where_it_stands = live.where_it_stands; full = live.full; there = live.there; unacknowledged = live.unacknowledged }))
        ];
      };
    }) h.numbers (λ x_down. absurd (x_down refl))

-- ---- the flow is taken over

no_flow_beside : (su : EndState) → leads Second su Up ≡ true → ⊥
no_flow_beside Up e = cc
no_flow_beside Reset e = cc
no_flow_beside Held e = cc

switch_first : (s : State) → Sound First s → MayAct First s Switch → Sound First (acted s Switch)
switch_first s h may =
    let x = s.near in
    let y = s.far in
    let e = y.session in
    let xs = y.line y.session in
    let acked = y.acked in
    let dup = duplicates y.session y.acked (y.line y.session) in
    let y_up : y.state ≡ Up = may.2 in
    let down : x.state ≢ Up = not_up may.0 reset_down in
    let empty = h.near.ends.down down in
    let moved : slots (gone_up x (dup ++ y.waiting)) ≡ dup ++ y.waiting = ap (λ zs. zs ++ (dup ++ y.waiting)) empty.0 in
    let fronted : front (gone_up x (dup ++ y.waiting)) ≡ dup ++ leading y.waiting =
    ap (λ zs. zs ++ leading (dup ++ y.waiting)) empty.0 ∙ leading-none dup y.waiting (plains-run (λ z. true) y.session y.acked (y.line y.session)) in
    let no_waiting : HasNone y.waiting = (λ p f q full there. (
    let some = (at_within y.waiting p (Tunnel f q full) there).0 in
    let acknowledged = h.far.carrier.none may.0 (length xs + p) f q full (at_back xs y.waiting p (Tunnel f q full) there) in
    let within = h.far.ends.acked in
    omega arith)) in
    let stays : slots (with_waiting y []) ≡ y.line y.session = append-nil (y.line y.session) in
    let live_plain : (p : ℕ) (w : LinkSlot) → at xs (acked + p) ≡ Some w → 1 ≤ p → HoldsPlain y.line e (acked + p) = (λ p w there low. live_is_plain p w there low) in
    all_kept First s (gone_up x (dup ++ y.waiting)) (with_waiting y []) s.put h (record {
      ends = up_ends x s.near_record (dup ++ y.waiting) h.near.ends may.0;
      waits = λ _. plains-append dup y.waiting ∙ (ap (λ is. is ++ plains y.waiting) (plains-run (λ z. true) y.session y.acked (y.line y.session)) ∙ h.far.homes.waits (ap (λ z. leads Second z x.state) y_up ∙ ap (λ z. leads Second Up z) may.0));
      none_waits = λ not_leading. absurd (true≢false not_leading);
      ready = record {
        same_link = λ _ f q i there differ. ended_past x y s.near_record f q (Plain i) h.near.cover (not_held may.0 reset_free) (is_ended x s.near_record f q (Plain i) h.near.ends differ there) there;
        other_link = λ _ f q i there. elim (cases_eq y.session f) [
          | inl same ↦ elim (cases_lt y.acked q) [
            | inl live ↦ (
                let there' : at (y.line y.session) q ≡ Some (Plain i) = ap (λ n. at (y.line n) q) same ∙ there in
                let spoken : at dup (q - y.acked) ≡ Some (Tunnel y.session q true) = in_run (λ z. true) y.session y.acked (y.line y.session) q (Plain i) there' live in
                inr (record {
                  where_it_stands = q - y.acked;
                  full = true;
                  there = ap (λ zs. at zs (q - y.acked)) fronted ∙ (at_front dup (leading y.waiting) (q - y.acked) (Tunnel y.session q true) spoken ∙ ap (λ n. Some (Tunnel n q true)) same);
                }))
            | inr acknowledged ↦ inl (subst (λ n. Past s.far_record n q) same (h.far.ends.acked_past q (at_within (y.line f) q (Plain i) there).0 acknowledged))
          ]
          | inr differ ↦ inl (ended_past y x s.far_record f q (Plain i) h.far.cover (not_held y_up up_free) (is_ended y s.far_record f q (Plain i) h.far.ends differ there) there)
        ];
      };
      runs = subst (λ zs. RunsIn zs s.far_record) (sym moved) (runs_append dup y.waiting s.far_record (runs_of_run (λ z. true) y.session y.acked (y.line y.session) s.far_record h.far.ends.acked_past) (runs_of_none y.waiting s.far_record no_waiting));
      target_lines = λ e. retarget (x.line e) y (with_waiting y []) (h.near.target.lines e) (λ f q w. record { begun = w.begun; shown = w.shown; up = w.up; numbered = w.numbered });
      target = subst (λ zs. TargetIn zs (with_waiting y [])) (sym moved) (target_append dup y.waiting (with_waiting y [])
          (target_of_run (λ z. true) y.session y.acked (y.line y.session) (with_waiting y []) (λ q within. record { begun = h.far.ends.session_begun; shown = omega arith; up = λ _. y_up; numbered = within }))
          (target_of_none y.waiting (with_waiting y []) no_waiting));
      inner = subst (λ zs. InnerIn zs x.session y.line) (sym moved) (inner_append dup y.waiting x.session y.line (record {
        full = λ p f q there low. elim (of_run (λ z. true) y.session y.acked (y.line y.session) p (Tunnel f q true) there) [
          | marks is ↦ absurd (let none : q ≡ 0 = cc in omega arith)
          | stands w at_line is ↦ (
              let session : y.session ≡ f = cc in
              let place : y.acked + p ≡ q = cc in
              subst (λ n. HoldsPlain y.line n q) session (subst (λ n. HoldsPlain y.line y.session n) place (live_plain p w at_line (at_within dup p (Tunnel f q true) there).0)))
        ];
        placeholder = λ p f q there. absurd (elim (of_run (λ z. true) y.session y.acked (y.line y.session) p (Tunnel f q false) there) [
          | marks is ↦ (let wrong : ⊥ = cc in wrong)
          | stands w at_line is ↦ (let wrong : ⊥ = cc in wrong)
        ]);
      }) (record {
        full = λ p f q there low. absurd (no_waiting p f q true there);
        placeholder = λ p f q there. absurd (no_waiting p f q false there);
      }));
      carrier = record {
        none = λ reset. absurd (reset_down (sym reset ∙ y_up));
        present = λ _ p f q full there live. elim (at_either dup y.waiting p (Tunnel f q full) (ap (λ zs. at zs p) (sym moved) ∙ there)) [
          | inl here ↦ elim (of_run (λ z. true) y.session y.acked (y.line y.session) p (Tunnel f q full) here) [
            | marks is ↦ (let session : f ≡ y.session = cc in (session, refl))
            | stands w at_line is ↦ (let session : f ≡ y.session = cc in (session, refl))
          ]
          | inr behind ↦ absurd (no_waiting behind.place f q full behind.there)
        ];
      };
      cover = up_cover x y (with_waiting y []) s.near_record (dup ++ y.waiting) h.near.cover may.0;
    }) (record {
      ends = record {
        session_begun = h.far.ends.session_begun;
        record_shown = h.far.ends.record_shown;
        held = h.far.ends.held;
        taken = h.far.ends.taken;
        down = λ y_down. absurd (y_down y_up);
        later = h.far.ends.later;
        acked = h.far.ends.acked;
        acked_past = h.far.ends.acked_past;
      };
      waits = λ leading. absurd (no_flow_beside y.state leading);
      none_waits = λ _. plains-nil;
      ready = record { same_link = λ leading. absurd (no_flow_beside y.state leading); other_link = λ leading. absurd (no_flow_beside y.state leading) };
      runs = subst (λ zs. RunsIn zs s.near_record) (sym stays) (h.far.runs.lines y.session);
      target_lines = λ e. retarget (y.line e) x (gone_up x (dup ++ y.waiting)) (h.far.target.lines e) (up_target x (dup ++ y.waiting));
      target = subst (λ zs. TargetIn zs (gone_up x (dup ++ y.waiting))) (sym stays) (retarget (y.line y.session) x (gone_up x (dup ++ y.waiting)) (h.far.target.lines y.session) (up_target x (dup ++ y.waiting)));
      inner = subst (λ zs. InnerIn zs y.session x.line) (sym stays) (h.far.inner.lines y.session);
      carrier = record {
        none = λ reset. absurd (reset_down (sym reset));
        present = λ _ p f q full there live. absurd (
            let acknowledged = h.far.carrier.none may.0 p f q full (at_front xs y.waiting p (Tunnel f q full) (ap (λ zs. at zs p) (sym stays) ∙ there)) in omega arith);
      };
      cover = record {
        covered = λ e q ended low high. elim (h.far.cover.covered e q ended low high) [
          | inl past ↦ inl past
          | inr w ↦ absurd (not_held y_up up_free w.1)
        ];
      };
    }) h.numbers (λ x_down. absurd (x_down refl))
  where
    plain_or : (w : LinkSlot) (q : ℕ) → at (s.far.line s.far.session) q ≡ Some w → s.far.acked < q → HoldsPlain s.far.line s.far.session q
    plain_or (Plain i) q there low = record { index = i; there = there }
    plain_or (Tunnel f place full) q there low = absurd (
        let acknowledged = h.far.carrier.none may.0 q f place full (at_front (s.far.line s.far.session) s.far.waiting q (Tunnel f place full) there) in omega arith)

    live_is_plain : (p : ℕ) (w : LinkSlot) → at (s.far.line s.far.session) (s.far.acked + p) ≡ Some w → 1 ≤ p → HoldsPlain s.far.line s.far.session (s.far.acked + p)
    live_is_plain p w there low = plain_or w (s.far.acked + p) there (omega arith)

pub switch : (b : Bearer) (s : State) → Sound b s → MayAct b s Switch → Sound b (acted s Switch)
switch First s h may = switch_first s h may
switch Second s h may = absurd (let is = may.1 in let wrong : ⊥ = cc in wrong)
