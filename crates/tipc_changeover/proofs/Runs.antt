-- Runs of tunnel packets: what stands in them, and the parts over lists of slots that are put together.
use Rattle.std.proofs.Common.{◌≡◌, ◌⊎◌, ℕ, zero, suc, ◌+◌, ◌-◌, ◌<◌, ◌≤◌, Bool, true, false, List, [], ◌∷◌, ◌++◌, Some, length, drop, refl, sym, ap, ◌∙◌, subst, inl, inr, arith}
use Rattle.std.proofs.lemmas.Bool.{cases_lt}
use Rattle.tipc_changeover.specs.Slots.{at, or_marker, plains, run, tunnelled, LinkSlot, Tunnel}
use Rattle.tipc_changeover.specs.Links.{Past, Receiver, Sender}
use Rattle.tipc_changeover.specs.Parts.{HoldsPlain, HoldsTunnel, InnerIn, IsTarget, RunsIn, TargetIn}
use Rattle.tipc_changeover.proofs.Lists.{at_back, at_drop, at_dropped, at_either, at_front, at_none, at_only, at_there, at_within, plains-nil, plains-tunnel, some_same}

-- ---- what stands in a run

at_tunnelled : (fullness : LinkSlot → Bool) (e acked : ℕ) (zs : List LinkSlot) (p : ℕ) (z : LinkSlot) → at (tunnelled fullness e acked zs) p ≡ Some z → (w : LinkSlot) × (at zs p ≡ Some w) × (z ≡ Tunnel e (acked + p) (fullness w))
unfolding tunnelled at
at_tunnelled fullness e acked [] p z there = absurd (let wrong : ⊥ = cc in wrong)
at_tunnelled fullness e acked (w ∷ zs) zero z there = absurd (let wrong : ⊥ = cc in wrong)
at_tunnelled fullness e acked (w ∷ zs) (suc zero) z there = (w, refl, some_same (sym there))
at_tunnelled fullness e acked (w ∷ zs) (suc (suc p)) z there =
    let more = at_tunnelled fullness e (acked + 1) zs (suc p) z there in
    let place : acked + 1 + suc p ≡ acked + suc (suc p) = omega arith in
    (more.0, more.1, more.2 ∙ ap (λ n. Tunnel e n (fullness more.0)) place)

tunnelled_at : (fullness : LinkSlot → Bool) (e acked : ℕ) (zs : List LinkSlot) (p : ℕ) (w : LinkSlot) → at zs p ≡ Some w → at (tunnelled fullness e acked zs) p ≡ Some (Tunnel e (acked + p) (fullness w))
unfolding tunnelled at
tunnelled_at fullness e acked [] p w there = absurd (let wrong : ⊥ = cc in wrong)
tunnelled_at fullness e acked (v ∷ zs) zero w there = absurd (let wrong : ⊥ = cc in wrong)
tunnelled_at fullness e acked (v ∷ zs) (suc zero) w there = ap (λ z. Some (Tunnel e (acked + 1) (fullness z))) (some_same there)
tunnelled_at fullness e acked (v ∷ zs) (suc (suc p)) w there =
    let place : acked + 1 + suc p ≡ acked + suc (suc p) = omega arith in
    tunnelled_at fullness e (acked + 1) zs (suc p) w there ∙ ap (λ n. Some (Tunnel e n (fullness w))) place

or_marker-at : (e : ℕ) (zs : List LinkSlot) (p : ℕ) (z : LinkSlot) → at (or_marker e zs) p ≡ Some z → (at zs p ≡ Some z) ⊎ (z ≡ Tunnel e 0 true)
unfolding or_marker
or_marker-at e [] p z there = inr (at_only (Tunnel e 0 true) p z there).1
or_marker-at e (w ∷ zs) p z there = inl there

at_or_marker : (e : ℕ) (zs : List LinkSlot) (p : ℕ) (z : LinkSlot) → at zs p ≡ Some z → at (or_marker e zs) p ≡ Some z
unfolding or_marker
at_or_marker e [] p z there = absurd (at_none p z there)
at_or_marker e (w ∷ zs) p z there = there

plains-tunnelled : (fullness : LinkSlot → Bool) (e acked : ℕ) (zs : List LinkSlot) → plains (tunnelled fullness e acked zs) ≡ []
unfolding tunnelled plains
plains-tunnelled fullness e acked [] = refl
plains-tunnelled fullness e acked (z ∷ zs) = plains-tunnelled fullness e (acked + 1) zs

plains-or_marker : (e : ℕ) (zs : List LinkSlot) → plains zs ≡ [] → plains (or_marker e zs) ≡ []
unfolding or_marker
plains-or_marker e [] none = plains-tunnel e 0 true [] ∙ plains-nil
plains-or_marker e (z ∷ zs) none = none

pub plains-run : (fullness : LinkSlot → Bool) (e acked : ℕ) (line : List LinkSlot) → plains (run fullness e acked line) ≡ []
plains-run fullness e acked line = plains-or_marker e (tunnelled fullness e acked (drop acked line)) (plains-tunnelled fullness e acked (drop acked line))

-- a slot of a run is the marker, or stands for the slot so far behind the acknowledged ones
pub data OfRun (fullness : LinkSlot → Bool) (e acked : ℕ) (line : List LinkSlot) (p : ℕ) (z : LinkSlot) : Type 0 where
  marks : z ≡ Tunnel e 0 true → OfRun fullness e acked line p z
  stands : (w : LinkSlot) → at line (acked + p) ≡ Some w → z ≡ Tunnel e (acked + p) (fullness w) → OfRun fullness e acked line p z

pub of_run : (fullness : LinkSlot → Bool) (e acked : ℕ) (line : List LinkSlot) (p : ℕ) (z : LinkSlot) → at (run fullness e acked line) p ≡ Some z → OfRun fullness e acked line p z
of_run fullness e acked line p z there = elim (or_marker-at e (tunnelled fullness e acked (drop acked line)) p z there) [
  | inl within ↦ (let slot = at_tunnelled fullness e acked (drop acked line) p z within in stands slot.0 (at_dropped acked line p slot.0 slot.1) slot.2)
  | inr marker ↦ marks marker
]

pub in_run : (fullness : LinkSlot → Bool) (e acked : ℕ) (line : List LinkSlot) (q : ℕ) (w : LinkSlot) → at line q ≡ Some w → acked < q → at (run fullness e acked line) (q - acked) ≡ Some (Tunnel e q (fullness w))
in_run fullness e acked line q w there more =
    let place : acked + (q - acked) ≡ q = omega arith in
    let dropped : at (drop acked line) (q - acked) ≡ Some w = at_drop acked line (q - acked) w (ap (λ n. at line n) place ∙ there) (omega arith) in
    at_or_marker e (tunnelled fullness e acked (drop acked line)) (q - acked) (Tunnel e q (fullness w)) (tunnelled_at fullness e acked (drop acked line) (q - acked) w dropped ∙ ap (λ n. Some (Tunnel e n (fullness w))) place)

-- ---- lists put together

-- no slot of a list is a tunnel packet
abbrev pub HasNone : List LinkSlot → Type 0
HasNone zs = (p f q : ℕ) (full : Bool) → at zs p ≡ Some (Tunnel f q full) → ⊥

pub runs_of_none : (zs : List LinkSlot) (t : Receiver) → HasNone zs → RunsIn zs t
runs_of_none zs t none = λ p f q full q' there low less. absurd (none p f q full there)

pub runs_append : (zs ws : List LinkSlot) (t : Receiver) → RunsIn zs t → RunsIn ws t → RunsIn (zs ++ ws) t
runs_append zs ws t left right = λ p f q full q' there low less. elim (at_either zs ws p (Tunnel f q full) there) [
  | inl here ↦ elim (left p f q full q' here low less) [
    | inl past ↦ inl past
    | inr w ↦ inr (record { where_it_stands = w.where_it_stands; full = w.full; there = at_front zs ws w.where_it_stands (Tunnel f q' w.full) w.there; earlier = w.earlier })
  ]
  | inr behind ↦ elim (right behind.place f q full q' behind.there low less) [
    | inl past ↦ inl past
    | inr w ↦ inr (record { where_it_stands = length zs + w.where_it_stands; full = w.full; there = at_back zs ws w.where_it_stands (Tunnel f q' w.full) w.there; earlier = (let is = behind.is in let earlier = w.earlier in omega arith) })
  ]
]

pub runs_front : (zs ws : List LinkSlot) (t : Receiver) → RunsIn (zs ++ ws) t → RunsIn zs t
runs_front zs ws t h = λ p f q full q' there low less. elim (h p f q full q' (at_front zs ws p (Tunnel f q full) there) low less) [
  | inl past ↦ inl past
  | inr w ↦ elim (at_either zs ws w.where_it_stands (Tunnel f q' w.full) w.there) [
    | inl here ↦ inr (record { where_it_stands = w.where_it_stands; full = w.full; there = here; earlier = w.earlier })
    | inr behind ↦ absurd (
        let most = (at_within zs p (Tunnel f q full) there).1 in
        let is = behind.is in
        let earlier = w.earlier in
        omega arith)
  ]
]

pub runs_of_run : (fullness : LinkSlot → Bool) (e acked : ℕ) (line : List LinkSlot) (t : Receiver) → ((q : ℕ) → 1 ≤ q → q ≤ acked → Past t e q) → RunsIn (run fullness e acked line) t
runs_of_run fullness e acked line t past = λ p f q full q' there low less. elim (of_run fullness e acked line p (Tunnel f q full) there) [
  | marks is ↦ absurd (let none : q ≡ 0 = cc in omega arith)
  | stands w at_line is ↦ (
      let session : e ≡ f = cc in
      let place : q ≡ acked + p = cc in
      let most = (at_within line (acked + p) w at_line).1 in
      elim (cases_lt acked q') [
        | inl unacked ↦ (
            let slot = at_there line q' low (omega arith) in
            inr (record {
              where_it_stands = q' - acked;
              full = fullness slot.0;
              there = in_run fullness e acked line q' slot.0 slot.1 unacked ∙ ap (λ n. Some (Tunnel n q' (fullness slot.0))) session;
              earlier = omega arith;
            }))
        | inr within ↦ inl (subst (λ n. Past t n q') session (past q' low within))
      ])
]

pub target_of_none : (zs : List LinkSlot) (y : Sender) → HasNone zs → TargetIn zs y
target_of_none zs y none = λ p f q full there. absurd (none p f q full there)

pub target_append : (zs ws : List LinkSlot) (y : Sender) → TargetIn zs y → TargetIn ws y → TargetIn (zs ++ ws) y
target_append zs ws y left right = λ p f q full there. elim (at_either zs ws p (Tunnel f q full) there) [
  | inl here ↦ left p f q full here
  | inr behind ↦ right behind.place f q full behind.there
]

pub target_front : (zs ws : List LinkSlot) (y : Sender) → TargetIn (zs ++ ws) y → TargetIn zs y
target_front zs ws y h = λ p f q full there. h p f q full (at_front zs ws p (Tunnel f q full) there)

pub retarget : (zs : List LinkSlot) (y y' : Sender) → TargetIn zs y → ((f q : ℕ) → IsTarget y f q → IsTarget y' f q) → TargetIn zs y'
retarget zs y y' h moves = λ p f q full there. moves f q (h p f q full there)

-- a run speaks of places of its session
pub target_of_run : (fullness : LinkSlot → Bool) (e acked : ℕ) (line : List LinkSlot) (y : Sender) → ((q : ℕ) → q ≤ length line → IsTarget y e q) → TargetIn (run fullness e acked line) y
target_of_run fullness e acked line y targets = λ p f q full there. elim (of_run fullness e acked line p (Tunnel f q full) there) [
  | marks is ↦ (
      let session : e ≡ f = cc in
      let none : 0 ≡ q = cc in
      subst (λ n. IsTarget y n q) session (subst (λ n. IsTarget y e n) none (targets 0 (omega arith))))
  | stands w at_line is ↦ (
      let session : e ≡ f = cc in
      let place : acked + p ≡ q = cc in
      subst (λ n. IsTarget y n q) session (subst (λ n. IsTarget y e n) place (targets (acked + p) (at_within line (acked + p) w at_line).1)))
]

pub inner_of_none : (zs : List LinkSlot) (e : ℕ) (line : ℕ → List LinkSlot) → HasNone zs → InnerIn zs e line
inner_of_none zs e line none = record {
  full = λ p f q there low. absurd (none p f q true there);
  placeholder = λ p f q there. absurd (none p f q false there);
}

-- what stands behind so many slots
pub record InnerBehind (count : ℕ) (ws : List LinkSlot) (e : ℕ) (line : ℕ → List LinkSlot) : Type 0 where
  pub full : (p f q : ℕ) → at ws p ≡ Some (Tunnel f q true) → 1 ≤ q → HoldsPlain line f q
  pub placeholder : (p f q : ℕ) → at ws p ≡ Some (Tunnel f q false) → (1 ≤ q) × HoldsTunnel line f q e (count + p)

pub inner_append : (zs ws : List LinkSlot) (e : ℕ) (line : ℕ → List LinkSlot) → InnerIn zs e line → InnerBehind (length zs) ws e line → InnerIn (zs ++ ws) e line
inner_append zs ws e line left right = record {
  full = λ p f q there low. elim (at_either zs ws p (Tunnel f q true) there) [
    | inl here ↦ left.full p f q here low
    | inr behind ↦ right.full behind.place f q behind.there low
  ];
  placeholder = λ p f q there. elim (at_either zs ws p (Tunnel f q false) there) [
    | inl here ↦ left.placeholder p f q here
    | inr behind ↦ (let w = right.placeholder behind.place f q behind.there in (w.0, subst (λ n. HoldsTunnel line f q e n) (sym behind.is) w.1))
  ];
}

pub inner_front : (zs ws : List LinkSlot) (e : ℕ) (line : ℕ → List LinkSlot) → InnerIn (zs ++ ws) e line → InnerIn zs e line
inner_front zs ws e line h = record {
  full = λ p f q there low. h.full p f q (at_front zs ws p (Tunnel f q true) there) low;
  placeholder = λ p f q there. h.placeholder p f q (at_front zs ws p (Tunnel f q false) there);
}
