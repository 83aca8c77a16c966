-- Places stay near to one another through a number and a failover.
use Rattle.std.proofs.Common.{◌≡◌, ◌≢◌, ◌⊎◌, ℕ, ◌+◌, ◌-◌, ◌<◌, ◌≤◌, Bool, false, List, [], ◌∷◌, ◌++◌, Some, length, refl, sym, ap, ◌∙◌, subst, inl, inr, arith}
use Rattle.std.proofs.lemmas.Bool.{cases_eq, cases_lt}
use Rattle.std.proofs.lemmas.List.{length-append, length_push}
use Rattle.tipc_changeover.specs.Slots.{at, is_plain, plain_slots, Plain, LinkSlot, Tunnel}
use Rattle.tipc_changeover.specs.Links.{leads, other, slots, turned_state, Bearer, EndState, First, Held, Past, Receiver, Reset, Second, Sender, State, Up}
use Rattle.tipc_changeover.specs.Events.{acted, extended, lost_slots, gone_down, window, with_number, Failover, MayAct, Number}
use Rattle.tipc_changeover.specs.Parts.{Ends}
use Rattle.tipc_changeover.specs.Sound.{Sound}
use Rattle.tipc_changeover.specs.Distances.{Bounded, HasPlaceholder}
use Rattle.tipc_changeover.proofs.Lists.{at_back, at_either, at_front, at_none, at_one, at_there, at_within, plains-none}
use Rattle.tipc_changeover.proofs.Records.{other_other, turn}
use Rattle.tipc_changeover.proofs.Runs.{marks, of_run, stands}
use Rattle.tipc_changeover.proofs.Numbering.{other_session, same_session, same_slots}
use Rattle.tipc_changeover.proofs.Uplinks.{ended_past, no_slots, not_held, up_free}
use Rattle.tipc_changeover.proofs.Failing.{lost_run, plain_none, spoken, taken_slots, taking}

-- ---- nothing waits on the second link while both are up

up_or_not : (st : EndState) → (st ≡ Up) ⊎ (st ≢ Up)
up_or_not Up = inl refl
up_or_not Reset = inr (λ (e : Reset ≡ Up). (let wrong : ⊥ = cc in wrong))
up_or_not Held = inr (λ (e : Held ≡ Up). (let wrong : ⊥ = cc in wrong))

not_leading : (b : Bearer) (st su : EndState) → st ≡ Up → su ≡ Up → other b ≡ First → leads b st su ≡ false
not_leading First st su up beside is = absurd (let wrong : ⊥ = cc in wrong)
not_leading Second st su up beside is = ap (λ z. leads Second z su) up ∙ ap (λ z. leads Second Up z) beside

not_both_first : (b : Bearer) → other b ≡ First → b ≡ First → ⊥
not_both_first First is e = cc
not_both_first Second is e = cc

nothing_waits : (b : Bearer) (s : State) → Sound b s → s.near.state ≡ Up → s.far.state ≡ Up → other b ≡ First → (p : ℕ) (z : LinkSlot) → at s.near.waiting p ≡ Some z → ⊥
nothing_waits b s h up beside is p (Plain i) there = plains-none s.near.waiting p i (h.near.homes.none_waits (not_leading b s.near.state s.far.state up beside is)) there
nothing_waits b s h up beside is p (Tunnel f q full) there =
    let some = (at_within s.near.waiting p (Tunnel f q full) there).0 in
    let acked = h.near.ends.acked in
    not_both_first b is (h.near.carrier.present beside (length (s.near.line s.near.session) + p) f q full (at_back (s.near.line s.near.session) s.near.waiting p (Tunnel f q full) there) (omega arith)).1

no_length : (zs : List LinkSlot) → ((p : ℕ) (z : LinkSlot) → at zs p ≡ Some z → ⊥) → length zs ≡ 0
no_length zs none = elim (cases_lt 0 (length zs)) [
  | inl some ↦ absurd (let slot = at_there zs 1 (omega arith) (omega arith) in none 1 slot.0 slot.1)
  | inr no_more ↦ omega arith
]

-- ---- a slot gets a number

-- what is acknowledged was taken
acked_taken : (x : Sender) (r : Receiver) → Ends x r → r.session ≡ x.session → x.acked ≤ r.taken
acked_taken x r h same = elim (cases_lt 0 x.acked) [
  | inl some ↦ elim (h.acked_past x.acked (omega arith) (omega arith)) [
    | inl later ↦ absurd (omega arith)
    | inr here ↦ here.1
  ]
  | inr none ↦ omega arith
]

acked_none : (x : Sender) (r : Receiver) → Ends x r → r.session < x.session → x.acked ≡ 0
acked_none x r h less = elim (cases_lt 0 x.acked) [
  | inl some ↦ elim (h.acked_past x.acked (omega arith) (omega arith)) [
    | inl later ↦ absurd (omega arith)
    | inr here ↦ absurd (let same = here.0 in omega arith)
  ]
  | inr none ↦ omega arith
]

pub number_bounded : (b : Bearer) (s : State) (z : LinkSlot) (rest : List LinkSlot) → Sound b s → Bounded s → MayAct b s (Number z rest) → Bounded (acted s (Number z rest))
number_bounded b s z rest h w may =
    let x = s.near in
    let y = s.far in
    let r = s.near_record in
    let t = s.far_record in
    let room = may.2 in
    let longer : length (extended x.line x.session z x.session) ≡ length (x.line x.session) + 1 = ap length (same_session x.line x.session z) ∙ length_push (x.line x.session) z in
    let same : slots (with_number x z rest) ≡ slots x = same_slots x z rest may.1 in
    record {
      near = record {
        window_kept = record { in_flight = λ _. omega arith };
        near = record {
          recorded = elim (cases_eq r.session x.session) [
            | inl present ↦ (
                let taken = acked_taken x r h.near.ends present in
                subst (λ n. length (extended x.line x.session z n) ≤ r.taken + window) (sym present) (omega arith))
            | inr ended ↦ subst (λ zs. length zs ≤ r.taken + window) (sym (other_session x.line x.session z r.session ended)) w.near.near.recorded
          ];
          unrecorded = λ e later shown. elim (cases_eq e x.session) [
            | inl present ↦ (
                let none : x.acked ≡ 0 = acked_none x r h.near.ends (omega arith) in
                subst (λ n. length (extended x.line x.session z n) ≤ window) (sym present) (omega arith))
            | inr ended ↦ subst (λ zs. length zs ≤ window) (sym (other_session x.line x.session z e ended)) (w.near.near.unrecorded e later shown)
          ];
        };
        close = record {
          both_present = λ p f q full there low open_still is. w.near.close.both_present p f q full (ap (λ zs. at zs p) (sym same) ∙ there) low open_still is;
          target_ended = λ p f q full there low open_still ended. w.near.close.target_ended p f q full (ap (λ zs. at zs p) (sym same) ∙ there) low open_still ended;
          own_ended = λ e p f q full own there low open_still is. w.near.close.own_ended e p f q full own (ap (λ zs. at zs p) (sym (other_session x.line x.session z e (λ at_end. omega arith))) ∙ there) low open_still is;
          both_ended = λ e p f q full own there low open_still ended. w.near.close.both_ended e p f q full own (ap (λ zs. at zs p) (sym (other_session x.line x.session z e (λ at_end. omega arith))) ∙ there) low open_still ended;
        };
      };
      far = record {
        window_kept = w.far.window_kept;
        near = w.far.near;
        close = record {
          both_present = λ p f q full there low open_still is. absurd (elim (up_or_not y.state) [
            | inr down ↦ at_none p (Tunnel f q full) (ap (λ zs. at zs p) (sym (no_slots y t h.far.ends down)) ∙ there)
            | inl up ↦ elim (cases_lt y.acked p) [
              | inr acknowledged ↦ open_still (h.far.ends.acked_past p (at_within (slots y) p (Tunnel f q full) there).0 acknowledged)
              | inl live ↦ nothing_waits b s h may.0 up (h.far.carrier.present may.0 p f q full there live).1 1 z (ap (λ zs. at zs 1) may.1 ∙ at_front (z ∷ []) rest 1 z (at_one z))
            ]
          ]);
          target_ended = λ p f q full there low open_still ended. subst (λ zs. length zs < q + window) (sym (other_session x.line x.session z f (λ at_end. omega arith))) (w.far.close.target_ended p f q full there low open_still ended);
          own_ended = λ e p f q full own there low open_still is. (
              let stood = w.far.close.own_ended e p f q full own there low open_still is in
              record { where_it_stands = stood.where_it_stands; there = ap (λ zs. at zs stood.where_it_stands) same ∙ stood.there; no_further = stood.no_further });
          both_ended = λ e p f q full own there low open_still ended. subst (λ zs. length zs < q + window) (sym (other_session x.line x.session z f (λ at_end. omega arith))) (w.far.close.both_ended e p f q full own there low open_still ended);
        };
      };
    }

-- ---- a link goes down

-- the placeholder for an unacknowledged tunnel packet of the link that goes down
new_placeholder : (b : Bearer) (s : State) (p f q : ℕ) (full : Bool) → Sound b s → Bounded s → MayAct b s Failover → at (s.near.line s.near.session) p ≡ Some (Tunnel f q full) → 1 ≤ q →
    (Past s.near_record s.near.session p → ⊥) → f ≡ s.far.session → HasPlaceholder (slots (taking s.near s.far)) s.near.session p (q + window)
new_placeholder b s p f q full h w may there low open_still is =
    let x = s.near in
    let y = s.far in
    let some = (at_within (x.line x.session) p (Tunnel f q full) there).0 in
    let live : x.acked < p = elim (cases_lt x.acked p) [
      | inl live ↦ live
      | inr acknowledged ↦ absurd (open_still (h.near.ends.acked_past p some acknowledged))
    ] in
    let in_slots : at (slots x) p ≡ Some (Tunnel f q full) = at_front (x.line x.session) x.waiting p (Tunnel f q full) there in
    let first : b ≡ First = (h.near.carrier.present may.1 p f q full in_slots live).1 in
    let close : length (y.line f) + p ≤ q + window = w.near.close.both_present p f q full in_slots low open_still is in
    let close' : length (y.line y.session) + p ≤ q + window = subst (λ n. length (y.line n) + p ≤ q + window) is close in
    let none : length y.waiting ≡ 0 = no_length y.waiting (nothing_waits (other b) (turned_state s) (turn b s h) may.1 may.0 (other_other b ∙ first)) in
    let whole : length (slots y) ≡ length (y.line y.session) + length y.waiting = length-append (y.line y.session) y.waiting in
    record {
      where_it_stands = length (slots y) + (p - x.acked);
      there = ap (λ zs. at zs (length (slots y) + (p - x.acked))) (sym (taken_slots x y)) ∙
          at_back (slots y) (lost_slots x) (p - x.acked) (Tunnel x.session p false) (at_front (lost_run x) (plain_slots x.waiting) (p - x.acked) (Tunnel x.session p false) (spoken x p (Tunnel f q full) there live));
      no_further = omega arith;
    }

pub failover_bounded : (b : Bearer) (s : State) → Sound b s → Bounded s → MayAct b s Failover → Bounded (acted s Failover)
failover_bounded b s h w may =
    let x = s.near in
    let y = s.far in
    let r = s.near_record in
    let t = s.far_record in
    let next_empty : x.line (x.session + 1) ≡ [] = h.near.ends.later (x.session + 1) (omega arith) in
    let none : slots (gone_down x) ≡ [] = ap (λ zs. zs ++ []) next_empty in
    let in_flight : length (x.line x.session) ≤ x.acked + window = w.near.window_kept.in_flight may.0 in
    record {
      near = record {
        window_kept = record { in_flight = λ (up : Held ≡ Up). absurd (let wrong : ⊥ = cc in wrong) };
        near = record {
          recorded = w.near.near.recorded;
          unrecorded = λ e later shown. elim (cases_lt x.session e) [
            | inl more ↦ (let nothing : length (x.line e) ≡ 0 = ap length (h.near.ends.later e more) in omega arith)
            | inr old ↦ w.near.near.unrecorded e later old
          ];
        };
        close = record {
          both_present = λ p f q full there low open_still is. absurd (at_none p (Tunnel f q full) (ap (λ zs. at zs p) (sym none) ∙ there));
          target_ended = λ p f q full there low open_still ended. absurd (at_none p (Tunnel f q full) (ap (λ zs. at zs p) (sym none) ∙ there));
          own_ended = λ e p f q full own there low open_still is. elim (cases_eq x.session e) [
            | inl same ↦ subst (λ n. HasPlaceholder (slots (taking x y)) n p (q + window)) same
                (new_placeholder b s p f q full h w may (ap (λ n. at (x.line n) p) same ∙ there) low (λ past. open_still (subst (λ n. Past r n p) same past)) is)
            | inr differ ↦ (
                let stood = w.near.close.own_ended e p f q full (omega arith) there low open_still is in
                record {
                  where_it_stands = stood.where_it_stands;
                  there = ap (λ zs. at zs stood.where_it_stands) (sym (taken_slots x y)) ∙ at_front (slots y) (lost_slots x) stood.where_it_stands (Tunnel e p false) stood.there;
                  no_further = stood.no_further;
                })
          ];
          both_ended = λ e p f q full own there low open_still ended. elim (cases_eq x.session e) [
            | inl same ↦ w.near.close.target_ended p f q full (at_front (x.line x.session) x.waiting p (Tunnel f q full) (ap (λ n. at (x.line n) p) same ∙ there)) low (λ past. open_still (subst (λ n. Past r n p) same past)) ended
            | inr differ ↦ w.near.close.both_ended e p f q full (omega arith) there low open_still ended
          ];
        };
      };
      far = record {
        window_kept = record { in_flight = w.far.window_kept.in_flight };
        near = record { recorded = w.far.near.recorded; unrecorded = w.far.near.unrecorded };
        close = record {
          both_present = λ p f q full there low open_still is. absurd (elim (at_either (slots y) (lost_slots x) p (Tunnel f q full) (ap (λ zs. at zs p) (taken_slots x y) ∙ there)) [
            | inl here ↦ (let shown = (h.far.target.now p f q full here).shown in omega arith)
            | inr behind ↦ elim (at_either (lost_run x) (plain_slots x.waiting) behind.place (Tunnel f q full) behind.there) [
              | inl in_run ↦ elim (of_run is_plain x.session x.acked (x.line x.session) behind.place (Tunnel f q full) in_run) [
                | marks mark ↦ (let session : f ≡ x.session = cc in omega arith)
                | stands slot at_line spoken_of ↦ (let session : f ≡ x.session = cc in omega arith)
              ]
              | inr plain ↦ plain_none x plain.place f q full plain.there
            ]
          ]);
          target_ended = λ p f q full there low open_still ended. elim (at_either (slots y) (lost_slots x) p (Tunnel f q full) (ap (λ zs. at zs p) (taken_slots x y) ∙ there)) [
            | inl here ↦ elim (cases_eq f x.session) [
              | inl same ↦ (
                  let some = (at_within (slots y) p (Tunnel f q full) here).0 in
                  let close = w.far.close.both_present p f q full here low open_still same in
                  omega arith)
              | inr differ ↦ w.far.close.target_ended p f q full here low open_still (omega arith)
            ]
            | inr behind ↦ elim (at_either (lost_run x) (plain_slots x.waiting) behind.place (Tunnel f q full) behind.there) [
              | inl in_run ↦ elim (of_run is_plain x.session x.acked (x.line x.session) behind.place (Tunnel f q full) in_run) [
                | marks mark ↦ absurd (let nothing : q ≡ 0 = cc in omega arith)
                | stands slot at_line spoken_of ↦ (
                    let session : x.session ≡ f = cc in
                    let place : q ≡ x.acked + behind.place = cc in
                    let some = (at_within (lost_run x) behind.place (Tunnel f q full) in_run).0 in
                    subst (λ n. length (x.line n) < q + window) session (omega arith))
              ]
              | inr plain ↦ absurd (plain_none x plain.place f q full plain.there)
            ]
          ];
          own_ended = λ e p f q full own there low open_still is. absurd (let shown = (h.far.target.lines e p f q full there).shown in omega arith);
          both_ended = λ e p f q full own there low open_still ended. absurd (open_still (ended_past y x t e p (Tunnel f q full) h.far.cover (not_held may.1 up_free) own there));
        };
      };
    }
