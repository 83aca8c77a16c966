-- What is past, and what a change of the two records keeps.
use Rattle.std.proofs.Common.{◌≡◌, ◌⊎◌, ℕ, ◌+◌, ◌<◌, ◌≤◌, List, Some, length, refl, sym, ap, ◌∙◌, subst, inl, inr, arith}
use Rattle.std.proofs.lemmas.Bool.{cases_eq, cases_lt}
use Rattle.tipc_changeover.specs.Slots.{at, counted, Plain, LinkSlot, Tunnel}
use Rattle.tipc_changeover.specs.Links.{other, turned_state, slots, Bearer, First, Past, Receiver, Second, Sender, State}
use Rattle.tipc_changeover.specs.Events.{after_next, with_records}
use Rattle.tipc_changeover.specs.Parts.{Delivered, Effect, Ends, Order, RunsIn, TargetIn}
use Rattle.tipc_changeover.specs.Sound.{Holds, Sound}
use Rattle.tipc_changeover.proofs.Lists.{at_within}

-- ---- the state seen from the other link

pub swap : {A B : Type 0} → A ⊎ B → B ⊎ A
swap (inl a) = inr a
swap (inr b) = inl b

pub other_other : (b : Bearer) → other (other b) ≡ b
other_other First = refl
other_other Second = refl

abbrev pub turn : (b : Bearer) (s : State) → Sound b s → Sound (other b) (turned_state s)
turn b s h = record {
  count = h.count;
  taken = h.taken;
  within = h.within;
  numbers = h.numbers;
  found = λ i low high. swap (h.found i low high);
  idle = λ far near. h.idle near far;
  near = h.far;
  far = subst (λ c. Holds c s.near s.far s.near_record s.far_record s.numbered s.put h.count) (sym (other_other b)) h.near;
}

pub turn_back : (b : Bearer) (s : State) → Sound (other b) s → Sound b (turned_state s)
turn_back First s h = turn Second s h
turn_back Second s h = turn First s h

-- ---- the next place is taken

pub past_next : (r : Receiver) (e q : ℕ) → Past r e q → Past (after_next r) e q
past_next r e q (inl later) = inl later
past_next r e q (inr here) = inr (here.0, (let taken = here.1 in omega arith))

pub next_past : (r : Receiver) (e q : ℕ) → Past (after_next r) e q → Past r e q ⊎ ((e ≡ r.session) × (q ≡ r.taken + 1))
next_past r e q (inl later) = inl (inl later)
next_past r e q (inr here) = elim (cases_eq q (r.taken + 1)) [
  | inl same ↦ inr (sym here.0, same)
  | inr differ ↦ inl (inr (here.0, (let taken = here.1 in omega arith)))
]

pub next_is_past : (r : Receiver) → Past (after_next r) r.session (r.taken + 1)
next_is_past r = inr (refl, omega arith)

pub next_not_past : (r : Receiver) → Past r r.session (r.taken + 1) → ⊥
next_not_past r (inl later) = omega arith
next_not_past r (inr here) = let taken = here.1 in omega arith

pub before_next : (r : Receiver) (q : ℕ) → q < r.taken + 1 → Past r r.session q
before_next r q less = inr (refl, omega arith)

pub ends_next : (x : Sender) (r : Receiver) (z : LinkSlot) → Ends x r → at (x.line r.session) (r.taken + 1) ≡ Some z → Ends x (after_next r)
ends_next x r z h there = record {
  session_begun = h.session_begun;
  record_shown = h.record_shown;
  held = h.held;
  taken = (at_within (x.line r.session) (r.taken + 1) z there).1;
  down = h.down;
  later = h.later;
  acked = h.acked;
  acked_past = λ p low high. past_next r x.session p (h.acked_past p low high);
}

-- ---- a change of the records

-- what was past of real places goes on to be
abbrev pub Grows : (ℕ → List LinkSlot) → Receiver → Receiver → Type 0
Grows line r r' = (e q : ℕ) → 1 ≤ q → q ≤ length (line e) → Past r e q → Past r' e q

pub grows_next : (line : ℕ → List LinkSlot) (r : Receiver) → Grows line r (after_next r)
grows_next line r = λ e q low high past. past_next r e q past

pub grows_same : (line : ℕ → List LinkSlot) (r : Receiver) → Grows line r r
grows_same line r = λ e q low high past. past

grown : (line : ℕ → List LinkSlot) (r r' : Receiver) (e q : ℕ) (z : LinkSlot) → Grows line r r' → at (line e) q ≡ Some z → Past r e q → Past r' e q
grown line r r' e q z grows there past = let real = at_within (line e) q z there in grows e q real.0 real.1 past

runs_grown : (zs : List LinkSlot) (x y : Sender) (t t' : Receiver) → RunsIn zs t → TargetIn zs y → Grows y.line t t' → RunsIn zs t'
runs_grown zs x y t t' runs target grows = λ p f q full q' there low less. elim (runs p f q full q' there low less) [
  | inl past ↦ inl (let most = (target p f q full there).numbered in grows f q' low (omega arith) past)
  | inr before ↦ inr before
]

pub changed : (b : Bearer) (x y : Sender) (r t r' t' : Receiver) (m n k k' : ℕ) → Holds b x y r t m n k → Grows x.line r r' → Grows y.line t t' → Ends x r' → Effect x.line r' t' → Delivered x.line r' k' → Holds b x y r' t' m n k'
changed b x y r t r' t' m n k k' h near far ends effect delivered = record {
  ends = ends;
  homes = h.homes;
  order = h.order;
  barrier = record {
    same_link = λ e p f q i j here there less differ. grown x.line r r' f q (Plain i) near there (h.barrier.same_link e p f q i j here there less differ);
    other_link = λ e p f q i j here there less. elim (h.barrier.other_link e p f q i j here there less) [
      | inl past ↦ inl (grown y.line t t' f q (Plain i) far there past)
      | inr before ↦ inr before
    ];
  };
  ready = record {
    same_link = λ leading f q i there differ. grown x.line r r' f q (Plain i) near there (h.ready.same_link leading f q i there differ);
    other_link = λ leading f q i there. elim (h.ready.other_link leading f q i there) [
      | inl past ↦ inl (grown y.line t t' f q (Plain i) far there past)
      | inr in_front ↦ inr in_front
    ];
  };
  runs = record {
    lines = λ e. runs_grown (x.line e) x y t t' (h.runs.lines e) (h.target.lines e) far;
    now = runs_grown (slots x) x y t t' h.runs.now h.target.now far;
  };
  target = h.target;
  inner = h.inner;
  effect = effect;
  carrier = h.carrier;
  cover = record {
    covered = λ e q ended low high. elim (h.cover.covered e q ended low high) [
      | inl past ↦ inl (near e q low high past)
      | inr live ↦ inr live
    ];
  };
  delivered = delivered;
}

-- what a change of the records has to show
pub record Moves (s : State) (r' t' : Receiver) (count : ℕ) : Type 0 where
  pub near_grows : Grows s.near.line s.near_record r'
  pub far_grows : Grows s.far.line s.far_record t'
  pub near_ends : Ends s.near r'
  pub far_ends : Ends s.far t'
  pub near_effect : Effect s.near.line r' t'
  pub far_effect : Effect s.far.line t' r'
  pub near_delivered : Delivered s.near.line r' count
  pub far_delivered : Delivered s.far.line t' count

pub moved : (b : Bearer) (s : State) (r' t' : Receiver) (delivered : List ℕ) (count : ℕ) → Sound b s → Moves s r' t' count → delivered ≡ counted 0 count → count ≤ s.numbered → Sound b (with_records s r' t' delivered)
moved b s r' t' delivered count h w taken within = record {
  count = count;
  taken = taken;
  within = within;
  numbers = h.numbers;
  found = h.found;
  idle = h.idle;
  near = changed b s.near s.far s.near_record s.far_record r' t' s.numbered s.put h.count count h.near w.near_grows w.far_grows w.near_ends w.near_effect w.near_delivered;
  far = changed (other b) s.far s.near s.far_record s.near_record t' r' s.numbered s.put h.count count h.far w.far_grows w.near_grows w.far_ends w.far_effect w.far_delivered;
}

-- ---- a plain packet whose turn it is

in_order : (line : ℕ → List LinkSlot) (e p q i j : ℕ) → Order line → at (line e) p ≡ Some (Plain j) → at (line e) q ≡ Some (Plain i) → i < j → q < p
in_order line e p q i j h here there less = elim (cases_lt q p) [
  | inl before ↦ before
  | inr behind ↦ elim (cases_eq p q) [
    | inl same ↦ absurd (
        let both : Some (Plain i) ≡ Some (Plain j) = sym there ∙ (ap (λ place. at (line e) place) (sym same) ∙ here) in
        let equal : i ≡ j = cc in omega arith)
    | inr differ ↦ absurd (let wrong = h.rise e p q j i here there (omega arith) in omega arith)
  ]
]

-- where all places before a plain packet of the near line are past, all earlier packets are
pub earlier_near : (b : Bearer) (s : State) (e p j : ℕ) → Sound b s → at (s.near.line e) p ≡ Some (Plain j) → ((q : ℕ) → 1 ≤ q → q < p → Past s.near_record e q) →
    (f q i : ℕ) → at (s.near.line f) q ≡ Some (Plain i) → i < j → Past s.near_record f q
earlier_near b s e p j h here before f q i there less = elim (cases_eq e f) [
  | inl same ↦ (
      let there' : at (s.near.line e) q ≡ Some (Plain i) = ap (λ z. at (s.near.line z) q) same ∙ there in
      subst (λ z. Past s.near_record z q) same (before q (at_within (s.near.line e) q (Plain i) there').0 (in_order s.near.line e p q i j h.near.order here there' less)))
  | inr differ ↦ h.near.barrier.same_link e p f q i j here there less differ
]

pub earlier_far : (b : Bearer) (s : State) (e p j : ℕ) → Sound b s → at (s.near.line e) p ≡ Some (Plain j) → ((q : ℕ) → 1 ≤ q → q < p → Past s.near_record e q) →
    (f q i : ℕ) → at (s.far.line f) q ≡ Some (Plain i) → i < j → Past s.far_record f q
earlier_far b s e p j h here before f q i there less = elim (h.near.barrier.other_link e p f q i j here there less) [
  | inl past ↦ past
  | inr w ↦ h.near.effect.done e w.where_it_stands f q w.full w.there (at_within (s.far.line f) q (Plain i) there).0
      (before w.where_it_stands (at_within (s.near.line e) w.where_it_stands (Tunnel f q w.full) w.there).0 w.earlier)
]

-- and it is the next packet
pub next_number : (b : Bearer) (s : State) (e p j : ℕ) (h : Sound b s) → at (s.near.line e) p ≡ Some (Plain j) → ((q : ℕ) → 1 ≤ q → q < p → Past s.near_record e q) → (Past s.near_record e p → ⊥) → j ≡ h.count + 1
next_number b s e p j h here before not_past =
    let high : j ≤ s.numbered = (h.near.homes.within e p j here).1 in
    let more : h.count < j = elim (cases_lt h.count j) [
      | inl less ↦ less
      | inr no_more ↦ absurd (not_past (h.near.delivered.all e p j here no_more))
    ] in
    elim (cases_lt (h.count + 1) j) [
      | inl later ↦ absurd (elim (h.found (h.count + 1) (omega arith) (omega arith)) [
        | inl near ↦ (let wrong = h.near.delivered.only near.session near.place (h.count + 1) near.there (earlier_near b s e p j h here before near.session near.place (h.count + 1) near.there later) in omega arith)
        | inr far ↦ (let wrong = h.far.delivered.only far.session far.place (h.count + 1) far.there (earlier_far b s e p j h here before far.session far.place (h.count + 1) far.there later) in omega arith)
      ])
      | inr next ↦ omega arith
    ]
