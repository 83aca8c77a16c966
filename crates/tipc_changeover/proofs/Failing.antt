-- A link goes down while the other is up: what isn't acknowledged goes over the other.
use Rattle.std.proofs.Common.{◌≡◌, ◌≢◌, ◌⊎◌, ℕ, ◌+◌, ◌-◌, ◌<◌, ◌≤◌, true, false, List, [], ◌++◌, Some, length, refl, sym, ap, ◌∙◌, subst, inl, inr, arith, append_assoc}
use Rattle.std.proofs.lemmas.Bool.{cases_eq, cases_lt, true≢false}
use Rattle.std.proofs.lemmas.List.{append-nil, length-append}
use Rattle.tipc_changeover.specs.Slots.{at, counted, is_plain, leading, originals, plain_slots, plains, Plain, LinkSlot, Tunnel}
use Rattle.tipc_changeover.specs.Links.{front, leads, other, slots, Bearer, First, Held, Past, Receiver, Reset, Second, Sender, State, Tunnels, Up}
use Rattle.tipc_changeover.specs.Events.{lost_slots, acted, gone_down, with_waiting, Failover, MayAct}
use Rattle.tipc_changeover.specs.Parts.{HoldsPlain, HoldsTunnel, Homes, InnerIn, IsTarget, RunsIn, TargetIn}
use Rattle.tipc_changeover.specs.Sound.{Sound}
use Rattle.tipc_changeover.proofs.Lists.{at_back, at_either, at_front, at_none, at_there, at_within, leading-more, leading-none, plain_slots-plain, plains-append, plains-nil, plains-plain_slots}
use Rattle.tipc_changeover.proofs.Runs.{in_run, inner_append, inner_of_none, marks, of_run, plains-run, retarget, runs_append, runs_of_none, runs_of_run, stands, target_append, target_of_none, target_of_run, HasNone, InnerBehind}
use Rattle.tipc_changeover.proofs.Keeping.{all_kept, leads_alone, leads_up}
use Rattle.tipc_changeover.proofs.Uplinks.{ended_past, is_ended, not_held, up_free}

held_down : Held ≢ Up
held_down e = cc

-- ---- what the other link gets

-- the run for what wasn't acknowledged
abbrev pub lost_run : Sender → List LinkSlot
lost_run x = originals x.session x.acked (x.line x.session)

abbrev pub taking : Sender → Sender → Sender
taking x y = with_waiting y (y.waiting ++ lost_slots x)

-- the slots of the other link, with what it gets behind them
pub taken_slots : (x y : Sender) → slots y ++ lost_slots x ≡ slots (taking x y)
taken_slots x y = append_assoc (y.line y.session) y.waiting (lost_slots x)

pub plain_none : (x : Sender) → HasNone (plain_slots x.waiting)
plain_none x p f q full there = plain_slots-plain (plains x.waiting) p f q full there

-- the plain packets of both, which wait on the link over which the flow went
waits_joined : (b : Bearer) (x y : Sender) (m n : ℕ) → x.state ≡ Up → y.state ≡ Up → Homes b x y m n → Homes (other b) y x m n → plains y.waiting ++ plains x.waiting ≡ counted m (n - m)
waits_joined First x y m n x_up y_up h other_h =
    ap (λ is. is ++ plains x.waiting) (other_h.none_waits (ap (λ z. leads Second z x.state) y_up ∙ ap (λ z. leads Second Up z) x_up)) ∙ h.waits (ap (λ z. leads First z y.state) x_up)
waits_joined Second x y m n x_up y_up h other_h =
    ap (λ is. plains y.waiting ++ is) (h.none_waits (ap (λ z. leads Second z y.state) x_up ∙ ap (λ z. leads Second Up z) y_up)) ∙ (append-nil (plains y.waiting) ∙ other_h.waits (ap (λ z. leads First z x.state) y_up))

taken_plains : (x y : Sender) → plains (y.waiting ++ lost_slots x) ≡ plains y.waiting ++ plains x.waiting
taken_plains x y = plains-append y.waiting (lost_slots x) ∙ ap (λ is. plains y.waiting ++ is)
    (plains-append (lost_run x) (plain_slots x.waiting) ∙ (ap (λ is. is ++ plains (plain_slots x.waiting)) (plains-run is_plain x.session x.acked (x.line x.session)) ∙ plains-plain_slots (plains x.waiting)))

-- a place that isn't acknowledged is spoken of in the run
pub spoken : (x : Sender) (q : ℕ) (z : LinkSlot) → at (x.line x.session) q ≡ Some z → x.acked < q → at (lost_run x) (q - x.acked) ≡ Some (Tunnel x.session q (is_plain z))
spoken x q z there live = in_run is_plain x.session x.acked (x.line x.session) q z there live

-- what stands in the run
run_inner : (b : Bearer) (s : State) → Sound b s → MayAct b s Failover → InnerBehind (length (slots s.far)) (lost_run s.near) s.far.session s.near.line
run_inner b s h may = record {
  full = λ p f q there low. elim (of_run is_plain s.near.session s.near.acked (s.near.line s.near.session) p (Tunnel f q true) there) [
    | marks is ↦ absurd (let none : q ≡ 0 = cc in omega arith)
    | stands w at_line is ↦ (
        let session : s.near.session ≡ f = cc in
        let place : s.near.acked + p ≡ q = cc in
        let fullness : true ≡ is_plain w = cc in
        subst (λ n. HoldsPlain s.near.line n q) session (subst (λ n. HoldsPlain s.near.line s.near.session n) place (full_plain w (s.near.acked + p) at_line fullness)))
  ];
  placeholder = λ p f q there. elim (of_run is_plain s.near.session s.near.acked (s.near.line s.near.session) p (Tunnel f q false) there) [
    | marks is ↦ absurd (let wrong : ⊥ = cc in wrong)
    | stands w at_line is ↦ (
        let session : s.near.session ≡ f = cc in
        let place : s.near.acked + p ≡ q = cc in
        let fullness : false ≡ is_plain w = cc in
        let some = (at_within (lost_run s.near) p (Tunnel f q false) there).0 in
        let low : 1 ≤ q = omega arith in (
          low,
          subst (λ n. HoldsTunnel s.near.line n q s.far.session (length (slots s.far) + p)) session
              (subst (λ n. HoldsTunnel s.near.line s.near.session n s.far.session (length (slots s.far) + p)) place
              (placeholder_tunnel w (s.near.acked + p) p at_line fullness (omega arith) some)),
        ))
  ];
}
  where
    full_plain : (w : LinkSlot) (q : ℕ) → at (s.near.line s.near.session) q ≡ Some w → true ≡ is_plain w → HoldsPlain s.near.line s.near.session q
    full_plain (Plain i) q there is = record { index = i; there = there }
    full_plain (Tunnel f place full) q there is = absurd (let wrong : ⊥ = cc in wrong)

    placeholder_tunnel : (w : LinkSlot) (q p : ℕ) → at (s.near.line s.near.session) q ≡ Some w → false ≡ is_plain w → s.near.acked < q → 1 ≤ p → HoldsTunnel s.near.line s.near.session q s.far.session (length (slots s.far) + p)
    placeholder_tunnel (Plain i) q p there is live some = absurd (let wrong : ⊥ = cc in wrong)
    placeholder_tunnel (Tunnel f place full) q p there is live some =
        let present : f ≡ s.far.session = (h.near.carrier.present may.1 q f place full (at_front (s.near.line s.near.session) s.near.waiting q (Tunnel f place full) there) live).0 in
        let target : place ≤ length (s.far.line s.far.session) = subst (λ n. place ≤ length (s.far.line n)) present (h.near.target.lines s.near.session q f place full there).numbered in
        let longer : length (slots s.far) ≡ length (s.far.line s.far.session) + length s.far.waiting = length-append (s.far.line s.far.session) s.far.waiting in
        record { place = place; full = full; there = there ∙ ap (λ n. Some (Tunnel n place full)) present; earlier = omega arith }

-- what the other link's front gets
front_lost : (x y : Sender) (p : ℕ) (z : LinkSlot) → plains y.waiting ≡ [] → at (lost_run x) p ≡ Some z → at (front (taking x y)) (length (slots y) + p) ≡ Some z
front_lost x y p z none there =
    let ahead : leading (y.waiting ++ lost_slots x) ≡ y.waiting ++ (lost_run x ++ leading (plain_slots x.waiting)) =
    leading-none y.waiting (lost_slots x) none ∙ ap (λ zs. y.waiting ++ zs) (leading-none (lost_run x) (plain_slots x.waiting) (plains-run is_plain x.session x.acked (x.line x.session))) in
    let whole : slots y ++ (lost_run x ++ leading (plain_slots x.waiting)) ≡ front (taking x y) =
    append_assoc (y.line y.session) y.waiting (lost_run x ++ leading (plain_slots x.waiting)) ∙ ap (λ zs. y.line y.session ++ zs) (sym ahead) in
    ap (λ zs. at zs (length (slots y) + p)) (sym whole) ∙ at_back (slots y) (lost_run x ++ leading (plain_slots x.waiting)) p z (at_front (lost_run x) (leading (plain_slots x.waiting)) p z there)

front_kept : (x y : Sender) (p : ℕ) (z : LinkSlot) → at (front y) p ≡ Some z → at (front (taking x y)) p ≡ Some z
front_kept x y p z there = elim (at_either (y.line y.session) (leading y.waiting) p z there) [
  | inl here ↦ at_front (y.line y.session) (leading (y.waiting ++ lost_slots x)) p z here
  | inr behind ↦ ap (λ n. at (front (taking x y)) n) behind.is ∙ at_back (y.line y.session) (leading (y.waiting ++ lost_slots x)) behind.place z (leading-more y.waiting (lost_slots x) behind.place z behind.there)
]

-- each plain packet of the link that went down is past, or the other link speaks of it before what waits there
ready_for : (b : Bearer) (s : State) → Sound b s → MayAct b s Failover → (f q i : ℕ) → at (s.near.line f) q ≡ Some (Plain i) → Past s.near_record f q ⊎ Tunnels (front (taking s.near s.far)) f q
ready_for First s h may f q i there =
    let x = s.near in
    let y = s.far in
    elim (cases_eq x.session f) [
      | inl same ↦ elim (cases_lt x.acked q) [
        | inl live ↦ (
            let there' : at (x.line x.session) q ≡ Some (Plain i) = ap (λ n. at (x.line n) q) same ∙ there in
            let none : plains y.waiting ≡ [] = h.far.homes.none_waits (ap (λ z. leads Second z x.state) may.1 ∙ ap (λ z. leads Second Up z) may.0) in
            inr (record {
              where_it_stands = length (slots y) + (q - x.acked);
              full = true;
              there = front_lost x y (q - x.acked) (Tunnel x.session q true) none (spoken x q (Plain i) there' live) ∙ ap (λ n. Some (Tunnel n q true)) same;
            }))
        | inr acknowledged ↦ inl (subst (λ n. Past s.near_record n q) same (h.near.ends.acked_past q (at_within (x.line f) q (Plain i) there).0 acknowledged))
      ]
      | inr differ ↦ inl (ended_past x y s.near_record f q (Plain i) h.near.cover (not_held may.0 up_free) (is_ended x s.near_record f q (Plain i) h.near.ends differ there) there)
    ]
ready_for Second s h may f q i there = elim (h.far.ready.other_link (ap (λ z. leads First z s.near.state) may.1) f q i there) [
  | inl past ↦ inl past
  | inr w ↦ inr (record { where_it_stands = w.where_it_stands; full = w.full; there = front_kept s.near s.far w.where_it_stands (Tunnel f q w.full) w.there })
]

down_target : (x y : Sender) (r : Receiver) (f q : ℕ) → IsTarget x f q → IsTarget (gone_down x) f q
down_target x y r f q w = record { begun = w.begun; shown = (let shown = w.shown in omega arith); up = λ same. absurd (let shown = w.shown in omega arith); numbered = w.numbered }

-- the run and the plain packets behind it
behind_lost : (b : Bearer) (s : State) → Sound b s → MayAct b s Failover → InnerBehind (length (slots s.far)) (lost_slots s.near) s.far.session s.near.line
behind_lost b s h may =
    let run_part = run_inner b s h may in
    record {
      full = λ p f q there low. elim (at_either (lost_run s.near) (plain_slots s.near.waiting) p (Tunnel f q true) there) [
        | inl here ↦ run_part.full p f q here low
        | inr behind ↦ absurd (plain_none s.near behind.place f q true behind.there)
      ];
      placeholder = λ p f q there. elim (at_either (lost_run s.near) (plain_slots s.near.waiting) p (Tunnel f q false) there) [
        | inl here ↦ run_part.placeholder p f q here
        | inr behind ↦ absurd (plain_none s.near behind.place f q false behind.there)
      ];
    }

pub failover : (b : Bearer) (s : State) → Sound b s → MayAct b s Failover → Sound b (acted s Failover)
failover b s h may =
    let x = s.near in
    let y = s.far in
    let r = s.near_record in
    let t = s.far_record in
    let x_up : x.state ≡ Up = may.0 in
    let y_up : y.state ≡ Up = may.1 in
    let next_empty : x.line (x.session + 1) ≡ [] = h.near.ends.later (x.session + 1) (omega arith) in
    let none : slots (gone_down x) ≡ [] = ap (λ zs. zs ++ []) next_empty in
    all_kept b s (gone_down x) (taking x y) s.put h (record {
      ends = record {
        session_begun = omega arith;
        record_shown = (let shown = h.near.ends.record_shown in omega arith);
        held = λ _. (let shown = h.near.ends.record_shown in omega arith);
        taken = h.near.ends.taken;
        down = λ _. (next_empty, refl, refl);
        later = λ e later. h.near.ends.later e (omega arith);
        acked = omega arith;
        acked_past = λ p low high. absurd (omega arith);
      };
      waits = λ leading. absurd (held_down (leads_up b Held y.state leading));
      none_waits = λ _. plains-nil;
      ready = record {
        same_link = λ leading. absurd (held_down (leads_up b Held y.state leading));
        other_link = λ leading. absurd (held_down (leads_up b Held y.state leading));
      };
      runs = subst (λ zs. RunsIn zs t) (sym none) (runs_of_none [] t (λ p f q full there. at_none p (Tunnel f q full) there));
      target_lines = λ e. retarget (x.line e) y (taking x y) (h.near.target.lines e) (λ f q w. record { begun = w.begun; shown = w.shown; up = w.up; numbered = w.numbered });
      target = subst (λ zs. TargetIn zs (taking x y)) (sym none) (target_of_none [] (taking x y) (λ p f q full there. at_none p (Tunnel f q full) there));
      inner = subst (λ zs. InnerIn zs (x.session + 1) y.line) (sym none) (inner_of_none [] (x.session + 1) y.line (λ p f q full there. at_none p (Tunnel f q full) there));
      carrier = record {
        none = λ _ p f q full there. absurd (at_none p (Tunnel f q full) (ap (λ zs. at zs p) (sym none) ∙ there));
        present = λ _ p f q full there live. absurd (at_none p (Tunnel f q full) (ap (λ zs. at zs p) (sym none) ∙ there));
      };
      cover = record {
        covered = λ e q ended low high. elim (cases_eq x.session e) [
          | inl same ↦ elim (cases_lt x.acked q) [
            | inl live ↦ (
                let high' : q ≤ length (x.line x.session) = subst (λ n. q ≤ length (x.line n)) (sym same) high in
                let slot = at_there (x.line x.session) q low high' in
                let acked = h.far.ends.acked in
                let longer : length (slots y) ≡ length (y.line y.session) + length y.waiting = length-append (y.line y.session) y.waiting in
                inr (
                  ap (λ n. n + 1) same,
                  refl,
                  record {
                    where_it_stands = length (slots y) + (q - x.acked);
                    full = is_plain slot.0;
                    there = ap (λ zs. at zs (length (slots y) + (q - x.acked))) (sym (taken_slots x y)) ∙
                        (at_back (slots y) (lost_slots x) (q - x.acked) (Tunnel x.session q (is_plain slot.0))
                        (at_front (lost_run x) (plain_slots x.waiting) (q - x.acked) (Tunnel x.session q (is_plain slot.0)) (spoken x q slot.0 slot.1 live)) ∙
                        ap (λ n. Some (Tunnel n q (is_plain slot.0))) same);
                    unacknowledged = omega arith;
                  },
                ))
            | inr acknowledged ↦ inl (subst (λ n. Past r n q) same (h.near.ends.acked_past q low acknowledged))
          ]
          | inr differ ↦ elim (h.near.cover.covered e q (omega arith) low high) [
            | inl past ↦ inl past
            | inr w ↦ absurd (not_held x_up up_free w.1)
          ]
        ];
      };
    }) (record {
      ends = record {
        session_begun = h.far.ends.session_begun;
        record_shown = h.far.ends.record_shown;
        held = h.far.ends.held;
        taken = h.far.ends.taken;
        down = λ y_down. absurd (y_down y_up);
        later = h.far.ends.later;
        acked = h.far.ends.acked;
        acked_past = h.far.ends.acked_past;
      };
      waits = λ _. taken_plains x y ∙ waits_joined b x y s.numbered s.put x_up y_up h.near.homes h.far.homes;
      none_waits = λ not_leading. absurd (true≢false (sym (leads_alone (other b) y.state y_up) ∙ not_leading));
      ready = record {
        same_link = λ _ f q i there differ. ended_past y x t f q (Plain i) h.far.cover (not_held y_up up_free) (is_ended y t f q (Plain i) h.far.ends differ there) there;
        other_link = λ _ f q i there. ready_for b s h may f q i there;
      };
      runs = subst (λ zs. RunsIn zs r) (taken_slots x y) (runs_append (slots y) (lost_slots x) r h.far.runs.now
          (runs_append (lost_run x) (plain_slots x.waiting) r (runs_of_run is_plain x.session x.acked (x.line x.session) r h.near.ends.acked_past) (runs_of_none (plain_slots x.waiting) r (plain_none x))));
      target_lines = λ e. retarget (y.line e) x (gone_down x) (h.far.target.lines e) (down_target x y r);
      target = subst (λ zs. TargetIn zs (gone_down x)) (taken_slots x y) (target_append (slots y) (lost_slots x) (gone_down x) (retarget (slots y) x (gone_down x) h.far.target.now (down_target x y r))
          (target_append (lost_run x) (plain_slots x.waiting) (gone_down x)
          (target_of_run is_plain x.session x.acked (x.line x.session) (gone_down x) (λ q within. record { begun = h.near.ends.session_begun; shown = omega arith; up = λ same. absurd (omega arith); numbered = within }))
          (target_of_none (plain_slots x.waiting) (gone_down x) (plain_none x))));
      inner = subst (λ zs. InnerIn zs y.session x.line) (taken_slots x y) (inner_append (slots y) (lost_slots x) y.session x.line h.far.inner.now (behind_lost b s h may));
      carrier = record {
        none = λ (is : Held ≡ Reset). absurd (let wrong : ⊥ = cc in wrong);
        present = λ up. absurd (held_down up);
      };
      cover = record {
        covered = λ e q ended low high. elim (h.far.cover.covered e q ended low high) [
          | inl past ↦ inl past
          | inr w ↦ absurd (not_held y_up up_free w.1)
        ];
      };
    }) h.numbers (λ _ y_down. absurd (y_down y_up))
