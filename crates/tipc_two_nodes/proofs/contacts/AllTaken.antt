-- Two links of which no end that is up has anything left: all that was put was taken.
use Rattle.std.proofs.Common.{◌≡◌, ◌≢◌, ◌≤◌, ◌-◌, ◌⊎◌, ◌∙◌, ℕ, zero, suc, true, List, [], Some, length, refl, sym, ap, subst, inl, inr, length-append, arith}
use Rattle.std.proofs.lemmas.Bool.{cases_lt}
use Rattle.tipc_changeover.specs.Slots.{at, counted, plains, LinkSlot}
use Rattle.tipc_changeover.specs.Links.{EndState, First, Held, Past, Receiver, Reset, Second, Sender, State, TunnelsLive, Up, leads, slots}
use Rattle.tipc_changeover.specs.Parts.{Cover, Ends}
use Rattle.tipc_changeover.specs.Sound.{Sound}
use Rattle.tipc_changeover.proofs.Lists.{at_none, at_within}

-- nothing is left of what an end sends, where it is up: nothing waits, and all that has a number is acknowledged
pub record IsCleared (x : Sender) : Type 0 where
  pub waiting : x.state ≡ Up → x.waiting ≡ []
  pub acked : x.state ≡ Up → x.acked ≡ length (x.line x.session)

up_or : (state : EndState) → (state ≡ Up) ⊎ (state ≢ Up)
up_or Up = inl refl
up_or Reset = inr (λ is. absurd (let wrong : ⊥ = cc in wrong))
up_or Held = inr (λ is. absurd (let wrong : ⊥ = cc in wrong))

no_slots : (zs : List LinkSlot) → zs ≡ [] → length zs ≡ 0
no_slots zs is = ap (λ (ws : List LinkSlot). length ws) is

-- ---- each place was taken

-- no tunnel packet is unacknowledged
none_lives : (y : Sender) (t : Receiver) (e q : ℕ) → Ends y t → IsCleared y → TunnelsLive y e q → ⊥
none_lives y t e q ends clear l = by (up_or y.state)
  where
    by : (y.state ≡ Up) ⊎ (y.state ≢ Up) → ⊥
    by (inl up) =
        let within = (at_within (slots y) l.where_it_stands _ l.there).1 in
        let long = length-append (y.line y.session) y.waiting in
        let none = no_slots y.waiting (clear.waiting up) in
        let all = clear.acked up in
        let live = l.unacknowledged in
        omega (arith, within, long, none, all, live)
    by (inr down) =
        let within = (at_within (slots y) l.where_it_stands _ l.there).1 in
        let long = length-append (y.line y.session) y.waiting in
        let rest = ends.down down in
        let line = no_slots (y.line y.session) rest.0 in
        let none = no_slots y.waiting rest.1 in
        let live = l.unacknowledged in
        omega (arith, within, long, none, line, live)

past : (x y : Sender) (r t : Receiver) (e p : ℕ) (z : LinkSlot) → Ends x r → Ends y t → Cover x y r → IsCleared x → IsCleared y → at (x.line e) p ≡ Some z → Past r e p
past x y r t e p z ends there cover clear other is = elim (cases_lt e x.session) [
  | inl before ↦ elim (cover.covered e p before within.0 within.1) [
    | inl taken ↦ taken
    | inr held ↦ absurd (none_lives y t e p there other held.2)
  ]
  | inr from ↦ elim (cases_lt x.session e) [
    | inl later ↦ absurd (at_none p z (subst (λ (zs : List LinkSlot). at zs p ≡ Some z) (ends.later e later) is))
    | inr least ↦ now (omega (arith, from, least)) (up_or x.state)
  ]
]
  where
    within : (1 ≤ p) × (p ≤ length (x.line e))
    within = at_within (x.line e) p z is

    now : e ≡ x.session → (x.state ≡ Up) ⊎ (x.state ≢ Up) → Past r e p
    now same (inl up) =
        let all = clear.acked up in
        let long = ap (λ n. length (x.line n)) same in
        let most = within.1 in
        subst (λ n. Past r n p) (sym same) (ends.acked_past p within.0 (omega (arith, all, long, most)))
    now same (inr down) =
        absurd (at_none p z (subst (λ (zs : List LinkSlot). at zs p ≡ Some z) (ap x.line same ∙ (ends.down down).0) is))

-- ---- each packet has a number

counted_none : (before n : ℕ) → counted before n ≡ [] → n ≡ 0
unfolding counted
counted_none before zero is = refl
counted_none before (suc n) is = absurd (let wrong : ⊥ = cc in wrong)

plains_none : (zs : List LinkSlot) → zs ≡ [] → plains zs ≡ []
unfolding plains
plains_none zs is = ap plains is

none_waits : (zs : List LinkSlot) (numbered put : ℕ) → zs ≡ [] → plains zs ≡ counted numbered (put - numbered) → put ≤ numbered
none_waits zs numbered put none waits =
    let left = counted_none numbered (put - numbered) (sym waits ∙ plains_none zs none) in
    omega (arith, left)

leads_alone : (state : EndState) → state ≢ Up → leads Second Up state ≡ true
leads_alone Up down = absurd (down refl)
leads_alone Reset down = refl
leads_alone Held down = refl

all_numbered : (s : State) → Sound First s → IsCleared s.near → IsCleared s.far → s.put ≤ s.numbered
all_numbered s h near far = by (up_or s.near.state) (up_or s.far.state)
  where
    by : (s.near.state ≡ Up) ⊎ (s.near.state ≢ Up) → (s.far.state ≡ Up) ⊎ (s.far.state ≢ Up) → s.put ≤ s.numbered
    by (inl up) other =
        let homes = (h.near).homes in
        none_waits s.near.waiting s.numbered s.put (near.waiting up) (homes.waits (ap (λ st. leads First st s.far.state) up))
    by (inr down) (inl up) =
        let homes = (h.far).homes in
        none_waits s.far.waiting s.numbered s.put (far.waiting up) (homes.waits (ap (λ st. leads Second st s.near.state) up ∙ leads_alone s.near.state down))
    by (inr down) (inr low) = let same = h.idle down low in omega (arith, same)

-- ---- all of them were taken

pub all_taken : (s : State) → Sound First s → IsCleared s.near → IsCleared s.far → s.delivered ≡ counted 0 s.put
all_taken s h near far =
    let least = all_numbered s h near far in
    let most = h.numbers in
    let within = h.within in
    let taken = last s.numbered (omega arith) in
    let same : h.count ≡ s.put = omega (arith, least, most, within, taken) in
    h.taken ∙ ap (counted 0) same
  where
    last : (i : ℕ) → i ≤ s.numbered → i ≤ h.count
    last zero low = omega arith
    last (suc i) low = elim (h.found (suc i) (omega arith) low) [
      | inl stands ↦ let holds = h.near in (holds.delivered).only stands.session stands.place (suc i) stands.there
          (past s.near s.far s.near_record s.far_record stands.session stands.place _ holds.ends ((h.far).ends) holds.cover near far stands.there)
      | inr stands ↦ let holds = h.far in (holds.delivered).only stands.session stands.place (suc i) stands.there
          (past s.far s.near s.far_record s.near_record stands.session stands.place _ holds.ends ((h.near).ends) holds.cover far near stands.there)
    ]
