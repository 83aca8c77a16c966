-- What the sender does with its ends as they are: it puts a packet, hears an acknowledgement, and holds an end no
-- longer.
use Rattle.std.proofs.Common.{◌≡◌, ◌≢◌, ℕ, ◌+◌, ◌-◌, ◌<◌, ◌≤◌, Bool, true, false, [], ◌∷◌, ◌++◌, Some, length, sym, ap, ◌∙◌, subst, inl, inr, arith, append_assoc}
use Rattle.std.proofs.lemmas.Bool.{cases_lt, true≢false}
use Rattle.tipc_changeover.specs.Slots.{at, counted, plains, Plain, LinkSlot, Tunnel}
use Rattle.tipc_changeover.specs.Links.{leads, other, slots, Bearer, Held, Reset, Sender, State, Up}
use Rattle.tipc_changeover.specs.Events.{acted, with_acked, with_state, with_waiting, Acknowledge, MayAct, Put, Release}
use Rattle.tipc_changeover.specs.Parts.{InnerIn, RunsIn, TargetIn}
use Rattle.tipc_changeover.specs.Sound.{Sound}
use Rattle.tipc_changeover.proofs.Lists.{at_either, at_front, at_only, at_within, leading-plain, plains-append, plains-nil, plains_of_plain}
use Rattle.tipc_changeover.proofs.Numbers.{counted-more}
use Rattle.tipc_changeover.proofs.Runs.{inner_append, retarget, runs_append, runs_of_none, target_append, target_of_none, HasNone}
use Rattle.tipc_changeover.proofs.Keeping.{all_kept, leads_one, leads_same, leads_up, not_up}

-- ---- a packet is put

one_plain : (i : ℕ) → HasNone (Plain i ∷ [])
one_plain i p f q full there = let is = (at_only (Plain i) p (Tunnel f q full) there).1 in let wrong : ⊥ = cc in wrong

-- the slots, with one that is put behind them
pub put_slots : (x : Sender) (z : LinkSlot) → slots x ++ z ∷ [] ≡ slots (with_waiting x (x.waiting ++ z ∷ []))
put_slots x z = append_assoc (x.line x.session) x.waiting (z ∷ [])

-- the tunnel packets are the ones there were
pub put_tunnels : (x : Sender) (i p f q : ℕ) (full : Bool) → at (slots (with_waiting x (x.waiting ++ Plain i ∷ []))) p ≡ Some (Tunnel f q full) → at (slots x) p ≡ Some (Tunnel f q full)
put_tunnels x i p f q full there = elim (at_either (slots x) (Plain i ∷ []) p (Tunnel f q full) (ap (λ zs. at zs p) (put_slots x (Plain i)) ∙ there)) [
  | inl here ↦ here
  | inr behind ↦ absurd (one_plain i behind.place f q full behind.there)
]

pub put : (b : Bearer) (s : State) → Sound b s → MayAct b s Put → Sound b (acted s Put)
put b s h may =
    let x = s.near in
    let y = s.far in
    let z = Plain (s.put + 1) in
    let up : x.state ≡ Up = leads_up b x.state y.state may in
    let numbers = h.numbers in
    let count : s.put + 1 - s.numbered ≡ s.put - s.numbered + 1 = omega arith in
    let last : s.put + 1 ≡ s.numbered + (s.put - s.numbered) + 1 = omega arith in
    all_kept b s (with_waiting x (x.waiting ++ z ∷ [])) y (s.put + 1) h (record {
      ends = record {
        session_begun = h.near.ends.session_begun;
        record_shown = h.near.ends.record_shown;
        held = h.near.ends.held;
        taken = h.near.ends.taken;
        down = λ down. absurd (down up);
        later = h.near.ends.later;
        acked = h.near.ends.acked;
        acked_past = h.near.ends.acked_past;
      };
      waits = λ leading. plains-append x.waiting (z ∷ []) ∙ (ap (λ is. is ++ plains (z ∷ [])) (h.near.homes.waits may) ∙
          (ap (λ is. counted s.numbered (s.put - s.numbered) ++ is) (plains_of_plain (s.put + 1) ∙ ap (λ n. n ∷ []) last) ∙
          (sym (counted-more s.numbered (s.put - s.numbered)) ∙ ap (λ n. counted s.numbered n) (sym count))));
      none_waits = λ not_leading. absurd (true≢false (sym may ∙ not_leading));
      ready = record {
        same_link = h.near.ready.same_link;
        other_link = λ leads f q i there. elim (h.near.ready.other_link leads f q i there) [
          | inl past ↦ inl past
          | inr w ↦ inr (record { where_it_stands = w.where_it_stands; full = w.full; there = ap (λ zs. at (x.line x.session ++ zs) w.where_it_stands) (leading-plain x.waiting (s.put + 1)) ∙ w.there })
        ];
      };
      runs = subst (λ zs. RunsIn zs s.far_record) (put_slots x z) (runs_append (slots x) (z ∷ []) s.far_record h.near.runs.now (runs_of_none (z ∷ []) s.far_record (one_plain (s.put + 1))));
      target_lines = h.near.target.lines;
      target = subst (λ zs. TargetIn zs y) (put_slots x z) (target_append (slots x) (z ∷ []) y h.near.target.now (target_of_none (z ∷ []) y (one_plain (s.put + 1))));
      inner = subst (λ zs. InnerIn zs x.session y.line) (put_slots x z) (inner_append (slots x) (z ∷ []) x.session y.line h.near.inner.now (record {
        full = λ p f q there low. absurd (one_plain (s.put + 1) p f q true there);
        placeholder = λ p f q there. absurd (one_plain (s.put + 1) p f q false there);
      }));
      carrier = record {
        none = λ reset p f q full there. h.near.carrier.none reset p f q full (put_tunnels x (s.put + 1) p f q full there);
        present = λ other_up p f q full there live. h.near.carrier.present other_up p f q full (put_tunnels x (s.put + 1) p f q full there) live;
      };
      cover = record { covered = h.near.cover.covered };
    }) (record {
      ends = h.far.ends;
      waits = λ leading. absurd (true≢false (sym leading ∙ leads_one b x.state y.state may));
      none_waits = h.far.homes.none_waits;
      ready = record { same_link = h.far.ready.same_link; other_link = h.far.ready.other_link };
      runs = h.far.runs.now;
      target_lines = λ e. retarget (y.line e) x (with_waiting x (x.waiting ++ z ∷ [])) (h.far.target.lines e) (λ f q w. record { begun = w.begun; shown = w.shown; up = w.up; numbered = w.numbered });
      target = retarget (slots y) x (with_waiting x (x.waiting ++ z ∷ [])) h.far.target.now (λ f q w. record { begun = w.begun; shown = w.shown; up = w.up; numbered = w.numbered });
      inner = h.far.inner.now;
      carrier = record { none = h.far.carrier.none; present = h.far.carrier.present };
      cover = record {
        covered = λ e q ended low high. elim (h.far.cover.covered e q ended low high) [
          | inl past ↦ inl past
          | inr w ↦ (let live = w.2 in inr (
            w.0,
            w.1,
            record {
              where_it_stands = live.where_it_stands;
              full = live.full;
              there = ap (λ zs. at zs live.where_it_stands) (sym (put_slots x z)) ∙ at_front (slots x) (z ∷ []) live.where_it_stands (Tunnel e q live.full) live.there;
              unacknowledged = live.unacknowledged;
            },
          ))
        ];
      };
    }) (omega arith) (λ down. absurd (down up))

-- ---- places are acknowledged

pub acknowledge : (b : Bearer) (s : State) (places : ℕ) → Sound b s → MayAct b s (Acknowledge places) → Sound b (acted s (Acknowledge places))
acknowledge b s places h may =
    let x = s.near in
    let y = s.far in
    let r = s.near_record in
    let more : x.acked < places = may.2 in
    let taken : places ≤ r.taken = may.3 in
    let real : r.taken ≤ length (x.line x.session) = subst (λ e. r.taken ≤ length (x.line e)) may.1 h.near.ends.taken in
    all_kept b s (with_acked x places) y s.put h (record {
      ends = record {
        session_begun = h.near.ends.session_begun;
        record_shown = h.near.ends.record_shown;
        held = h.near.ends.held;
        taken = h.near.ends.taken;
        down = λ down. absurd (down may.0);
        later = h.near.ends.later;
        acked = omega arith;
        acked_past = λ p low high. inr (may.1, omega arith);
      };
      waits = h.near.homes.waits;
      none_waits = h.near.homes.none_waits;
      ready = record { same_link = h.near.ready.same_link; other_link = h.near.ready.other_link };
      runs = h.near.runs.now;
      target_lines = h.near.target.lines;
      target = h.near.target.now;
      inner = h.near.inner.now;
      carrier = record {
        none = λ reset p f q full there. (let old = h.near.carrier.none reset p f q full there in omega arith);
        present = λ other_up p f q full there live. h.near.carrier.present other_up p f q full there (omega arith);
      };
      cover = record { covered = h.near.cover.covered };
    }) (record {
      ends = h.far.ends;
      waits = h.far.homes.waits;
      none_waits = h.far.homes.none_waits;
      ready = record { same_link = h.far.ready.same_link; other_link = h.far.ready.other_link };
      runs = h.far.runs.now;
      target_lines = λ e. retarget (y.line e) x (with_acked x places) (h.far.target.lines e) (λ f q w. record { begun = w.begun; shown = w.shown; up = w.up; numbered = w.numbered });
      target = retarget (slots y) x (with_acked x places) h.far.target.now (λ f q w. record { begun = w.begun; shown = w.shown; up = w.up; numbered = w.numbered });
      inner = h.far.inner.now;
      carrier = record { none = h.far.carrier.none; present = h.far.carrier.present };
      cover = record {
        covered = λ e q ended low high. elim (h.far.cover.covered e q ended low high) [
          | inl past ↦ inl past
          | inr w ↦ (let live = w.2 in elim (cases_lt places live.where_it_stands) [
            | inl unacknowledged ↦ inr (w.0, w.1, record { where_it_stands = live.where_it_stands; full = live.full; there = live.there; unacknowledged = unacknowledged })
            | inr acknowledged ↦ elim (at_either (x.line x.session) x.waiting live.where_it_stands (Tunnel e q live.full) live.there) [
              | inl numbered ↦ inl (h.near.effect.done x.session live.where_it_stands e q live.full numbered low (inr (may.1, omega arith)))
              | inr waits ↦ absurd (
                  let is = waits.is in
                  let some = (at_within x.waiting waits.place (Tunnel e q live.full) waits.there).0 in
                  omega arith)
            ]
          ])
        ];
      };
    }) h.numbers (λ down. absurd (down may.0))

-- ---- an end is held no longer

pub release : (b : Bearer) (s : State) → Sound b s → MayAct b s Release → Sound b (acted s Release)
release b s h may =
    let x = s.near in
    let y = s.far in
    let held : x.state ≡ Held = may.0 in
    let held_down : Held ≢ Up = (λ (e : Held ≡ Up). (let wrong : ⊥ = cc in wrong)) in
    let reset_down : Reset ≢ Up = (λ (e : Reset ≡ Up). (let wrong : ⊥ = cc in wrong)) in
    let down : x.state ≢ Up = not_up held held_down in
    let empty = h.near.ends.down down in
    let beside : leads (other b) y.state x.state ≡ leads (other b) y.state Reset = leads_same (other b) y.state x.state down in
    all_kept b s (with_state x Reset) y s.put h (record {
      ends = record {
        session_begun = h.near.ends.session_begun;
        record_shown = h.near.ends.record_shown;
        held = λ is. absurd (let wrong : ⊥ = cc in wrong);
        taken = h.near.ends.taken;
        down = λ _. empty;
        later = h.near.ends.later;
        acked = h.near.ends.acked;
        acked_past = h.near.ends.acked_past;
      };
      waits = λ leading. absurd (reset_down (leads_up b Reset y.state leading));
      none_waits = λ _. ap plains empty.1 ∙ plains-nil;
      ready = record {
        same_link = λ leading. absurd (reset_down (leads_up b Reset y.state leading));
        other_link = λ leading. absurd (reset_down (leads_up b Reset y.state leading));
      };
      runs = h.near.runs.now;
      target_lines = h.near.target.lines;
      target = h.near.target.now;
      inner = h.near.inner.now;
      carrier = record { none = h.near.carrier.none; present = h.near.carrier.present };
      cover = record {
        covered = λ e q ended low high. elim (h.near.cover.covered e q ended low high) [
          | inl past ↦ inl past
          | inr w ↦ absurd (
              let live = w.2 in
              let unacknowledged = live.unacknowledged in
              let acknowledged = may.1 live.where_it_stands e q live.full live.there in
              omega arith)
        ];
      };
    }) (record {
      ends = h.far.ends;
      waits = λ leading. h.far.homes.waits (beside ∙ leading);
      none_waits = λ not_leading. h.far.homes.none_waits (beside ∙ not_leading);
      ready = record { same_link = λ leading. h.far.ready.same_link (beside ∙ leading); other_link = λ leading. h.far.ready.other_link (beside ∙ leading) };
      runs = h.far.runs.now;
      target_lines = λ e. retarget (y.line e) x (with_state x Reset) (h.far.target.lines e) (λ f q w. record { begun = w.begun; shown = w.shown; up = λ same. absurd (down (w.up same)); numbered = w.numbered });
      target = retarget (slots y) x (with_state x Reset) h.far.target.now (λ f q w. record { begun = w.begun; shown = w.shown; up = λ same. absurd (down (w.up same)); numbered = w.numbered });
      inner = h.far.inner.now;
      carrier = record {
        none = λ reset p f q full there. may.1 p f q full there;
        present = λ up. absurd (reset_down up);
      };
      cover = record {
        covered = λ e q ended low high. elim (h.far.cover.covered e q ended low high) [
          | inl past ↦ inl past
          | inr w ↦ (let live = w.2 in inr (w.0, w.1, record { where_it_stands = live.where_it_stands; full = live.full; there = live.there; unacknowledged = live.unacknowledged }))
        ];
      };
    }) h.numbers (λ _ far_down. h.idle down far_down)
