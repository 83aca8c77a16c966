-- The first slot that waits gets a number: the one event that makes a line longer.
use Rattle.std.proofs.Common.{◌≡◌, ◌≢◌, ◌⊎◌, ℕ, ◌+◌, ◌-◌, ◌<◌, ◌≤◌, ◌==◌, Bool, true, false, List, [], ◌∷◌, ◌++◌, Some, length, refl, sym, ap, ◌∙◌, subst, inl, inr, arith, append_assoc}
use Rattle.std.proofs.lemmas.Bool.{cases_Bool, cases_eq, cases_lt, true≢false}
use Rattle.std.proofs.lemmas.Bool.Decides.{nat_tests}
use Rattle.std.proofs.lemmas.List.{append-nil, length_push}
use Rattle.tipc_changeover.specs.Slots.{at, counted, leading, plains, Plain, LinkSlot, Tunnel}
use Rattle.tipc_changeover.specs.Links.{front, leads, other, slots, Bearer, Past, Receiver, Sender, State, Up}
use Rattle.tipc_changeover.specs.Events.{acted, extended, plain_count, with_number, MayAct, Number}
use Rattle.tipc_changeover.specs.Parts.{Barrier, Carrier, Cover, Delivered, Effect, Ends, Homes, Inner, InnerIn, IsTarget, Order, Ready, Runs, RunsIn, Target, TargetIn}
use Rattle.tipc_changeover.specs.Sound.{Holds, Sound}
use Rattle.tipc_changeover.proofs.Lists.{at_back, at_either, at_front, at_one, at_only, at_within, leading-plain_first, leading-tunnel, plains-plain, plains-tunnel}
use Rattle.tipc_changeover.proofs.Numbers.{counted-cons}
use Rattle.tipc_changeover.proofs.Runs.{inner_front, retarget, runs_front, target_front}
use Rattle.tipc_changeover.proofs.Keeping.{leads_one}

-- ---- a longer line

pub same_session : (line : ℕ → List LinkSlot) (e : ℕ) (z : LinkSlot) → extended line e z e ≡ line e ++ z ∷ []
unfolding extended
same_session line e z = let test : (e == e) ≡ true = grind (arith, nat_tests) in rw test refl

pub other_session : (line : ℕ → List LinkSlot) (e : ℕ) (z : LinkSlot) (f : ℕ) → f ≢ e → extended line e z f ≡ line f
unfolding extended
other_session line e z f differ = let test : (f == e) ≡ false = grind (arith, nat_tests, differ) in rw test refl

-- what stands in it stood in it before, or is new
record IsNew (line : ℕ → List LinkSlot) (e : ℕ) (z : LinkSlot) (f p : ℕ) (w : LinkSlot) : Type 0 where
  session : f ≡ e
  place : p ≡ length (line e) + 1
  slot : w ≡ z

old_or_new : (line : ℕ → List LinkSlot) (e : ℕ) (z : LinkSlot) (f p : ℕ) (w : LinkSlot) → at (extended line e z f) p ≡ Some w → (at (line f) p ≡ Some w) ⊎ IsNew line e z f p w
old_or_new line e z f p w there = elim (cases_eq f e) [
  | inl same ↦ (
      let there' : at (line e ++ z ∷ []) p ≡ Some w = ap (λ zs. at zs p) (sym (same_session line e z)) ∙ (ap (λ n. at (extended line e z n) p) (sym same) ∙ there) in
      elim (at_either (line e) (z ∷ []) p w there') [
        | inl here ↦ inl (ap (λ n. at (line n) p) same ∙ here)
        | inr behind ↦ (
            let only = at_only z behind.place w behind.there in
            let is = behind.is in
            let first = only.0 in
            inr (record { session = same; place = omega arith; slot = only.1 }))
      ])
  | inr differ ↦ inl (ap (λ zs. at zs p) (sym (other_session line e z f differ)) ∙ there)
]

still : (line : ℕ → List LinkSlot) (e : ℕ) (z : LinkSlot) (f p : ℕ) (w : LinkSlot) → at (line f) p ≡ Some w → at (extended line e z f) p ≡ Some w
still line e z f p w there = elim (cases_eq f e) [
  | inl same ↦ (
      let there' : at (line e) p ≡ Some w = ap (λ n. at (line n) p) (sym same) ∙ there in
      ap (λ n. at (extended line e z n) p) same ∙ (ap (λ zs. at zs p) (same_session line e z) ∙ at_front (line e) (z ∷ []) p w there'))
  | inr differ ↦ ap (λ zs. at zs p) (other_session line e z f differ) ∙ there
]

new_there : (line : ℕ → List LinkSlot) (e : ℕ) (z : LinkSlot) → at (extended line e z e) (length (line e) + 1) ≡ Some z
new_there line e z = ap (λ zs. at zs (length (line e) + 1)) (same_session line e z) ∙ at_back (line e) (z ∷ []) 1 z (at_one z)

no_shorter : (line : ℕ → List LinkSlot) (e : ℕ) (z : LinkSlot) (f : ℕ) → length (line f) ≤ length (extended line e z f)
no_shorter line e z f = elim (cases_eq f e) [
  | inl same ↦ (
      let longer : length (extended line e z e) ≡ length (line e) + 1 = ap length (same_session line e z) ∙ length_push (line e) z in
      subst (λ n. length (line n) ≤ length (extended line e z n)) (sym same) (omega arith))
  | inr differ ↦ (let same = ap length (other_session line e z f differ) in omega arith)
]

-- the slots that have a number and those that wait are the same, taken together
pub same_slots : (x : Sender) (z : LinkSlot) (rest : List LinkSlot) → x.waiting ≡ z ∷ rest → slots (with_number x z rest) ≡ slots x
same_slots x z rest waits = ap (λ zs. zs ++ rest) (same_session x.line x.session z) ∙ (append_assoc (x.line x.session) (z ∷ []) rest ∙ ap (λ zs. x.line x.session ++ zs) (sym waits))

-- ---- what the new slot is

-- a plain packet is the next to be numbered, and no tunnel packet waits before it
record IsNumbered (b : Bearer) (x y : Sender) (z : LinkSlot) (rest : List LinkSlot) (m n m' : ℕ) : Type 0 where
  grows : m ≤ m'
  fits : m' ≤ n
  number : (i : ℕ) → z ≡ Plain i → (i ≡ m + 1) × (m' ≡ m + 1)
  leading : (i : ℕ) → z ≡ Plain i → leads b x.state y.state ≡ true
  front_is : (i : ℕ) → z ≡ Plain i → front x ≡ x.line x.session
  front_more : (p f q : ℕ) (full : Bool) → at (front x) p ≡ Some (Tunnel f q full) → at (front (with_number x z rest)) p ≡ Some (Tunnel f q full)
  waits : leads b x.state y.state ≡ true → plains rest ≡ counted m' (n - m')
  none_waits : leads b x.state y.state ≡ false → plains rest ≡ []
  other_waits : leads (other b) y.state x.state ≡ true → m' ≡ m
  more : (i : ℕ) → i ≤ m' → m < i → z ≡ Plain i

number_is : (b : Bearer) (x y : Sender) (z : LinkSlot) (rest : List LinkSlot) (m n : ℕ) → Homes b x y m n → x.waiting ≡ z ∷ rest → m ≤ n → IsNumbered b x y z rest m n (m + plain_count z)
number_is b x y (Plain j) rest m n h waits fits =
    let has_flow : leads b x.state y.state ≡ true = elim (cases_Bool (leads b x.state y.state)) [
      | inl is ↦ is
      | inr not_leading ↦ absurd (
          let none : j ∷ plains rest ≡ [] = sym (plains-plain j rest) ∙ (ap plains (sym waits) ∙ h.none_waits not_leading) in
          let wrong : ⊥ = cc in wrong)
    ] in
    let first = counted-cons m (n - m) j (plains rest) (sym (plains-plain j rest) ∙ (ap plains (sym waits) ∙ h.waits has_flow)) in
    let some = first.some in
    let number : j ≡ m + 1 = first.number in
    let front_is : front x ≡ x.line x.session = ap (λ zs. x.line x.session ++ zs) (ap (λ zs. leading zs) waits ∙ leading-plain_first j rest) ∙ append-nil (x.line x.session) in
    record {
      grows = omega arith;
      fits = omega arith;
      number = λ i is. (let same : i ≡ j = cc in (omega arith, refl));
      leading = λ i is. has_flow;
      front_is = λ i is. front_is;
      front_more = λ p f q full there. at_front (extended x.line x.session (Plain j) x.session) (leading rest) p (Tunnel f q full)
          (still x.line x.session (Plain j) x.session p (Tunnel f q full) (ap (λ zs. at zs p) (sym front_is) ∙ there));
      waits = λ _. first.follow ∙ ap (λ k. counted (m + 1) k) (let same : n - m - 1 ≡ n - (m + 1) = omega arith in same);
      none_waits = λ not_leading. absurd (true≢false (sym has_flow ∙ not_leading));
      other_waits = λ other_leading. absurd (true≢false (sym other_leading ∙ leads_one b x.state y.state has_flow));
      more = λ i low high. ap Plain (let same : j ≡ i = omega arith in same);
    }
number_is b x y (Tunnel g k whole) rest m n h waits fits =
    let same : m + 0 ≡ m = omega arith in
    let rest_plains : plains rest ≡ plains x.waiting = sym (plains-tunnel g k whole rest) ∙ ap plains (sym waits) in
    let front_same : front x ≡ front (with_number x (Tunnel g k whole) rest) =
    ap (λ zs. x.line x.session ++ zs) (ap (λ zs. leading zs) waits ∙ leading-tunnel g k whole rest) ∙
    (sym (append_assoc (x.line x.session) (Tunnel g k whole ∷ []) (leading rest)) ∙ ap (λ zs. zs ++ leading rest) (sym (same_session x.line x.session (Tunnel g k whole)))) in
    record {
      grows = omega arith;
      fits = omega arith;
      number = λ i is. absurd (let wrong : ⊥ = cc in wrong);
      leading = λ i is. absurd (let wrong : ⊥ = cc in wrong);
      front_is = λ i is. absurd (let wrong : ⊥ = cc in wrong);
      front_more = λ p f q full there. ap (λ zs. at zs p) (sym front_same) ∙ there;
      waits = λ is. rest_plains ∙ (h.waits is ∙ ap (λ a. counted a (n - a)) (sym same));
      none_waits = λ not_leading. rest_plains ∙ h.none_waits not_leading;
      other_waits = λ _. same;
      more = λ i low high. absurd (omega arith);
    }

-- ---- each part

-- the new place isn't past
new_not_past : (x : Sender) (r : Receiver) → Ends x r → Past r x.session (length (x.line x.session) + 1) → ⊥
new_not_past x r h (inl later) = let shown = h.record_shown in omega arith
new_not_past x r h (inr here) =
    let same = here.0 in
    let taken : r.taken ≤ length (x.line x.session) = subst (λ e. r.taken ≤ length (x.line e)) here.0 h.taken in
    let more = here.1 in
    omega arith

-- what is past of the longer line was past before
past_at_new : (x : Sender) (r : Receiver) (z : LinkSlot) (f p : ℕ) (w : LinkSlot) → Ends x r → IsNew x.line x.session z f p w → Past r f p → ⊥
past_at_new x r z f p w h new past = new_not_past x r h (subst (λ e. Past r e (length (x.line x.session) + 1)) new.session (subst (λ q. Past r f q) new.place past))

number_ends : (x : Sender) (r : Receiver) (z : LinkSlot) (rest : List LinkSlot) → Ends x r → x.state ≡ Up → Ends (with_number x z rest) r
number_ends x r z rest h up = record {
  session_begun = h.session_begun;
  record_shown = h.record_shown;
  held = h.held;
  taken = (let old = h.taken in let longer = no_shorter x.line x.session z r.session in omega arith);
  down = λ down. absurd (down up);
  later = λ e later. other_session x.line x.session z e (λ same. omega arith) ∙ h.later e later;
  acked = (let old = h.acked in let longer = no_shorter x.line x.session z x.session in omega arith);
  acked_past = h.acked_past;
}

number_homes : (b : Bearer) (x y : Sender) (z : LinkSlot) (rest : List LinkSlot) (m n m' : ℕ) → Homes b x y m n → Homes (other b) y x m n → IsNumbered b x y z rest m n m' → Homes b (with_number x z rest) y m' n
number_homes b x y z rest m n m' h other_h new = record {
  within = λ e p i there. elim (old_or_new x.line x.session z e p (Plain i) there) [
    | inl old ↦ (let w = h.within e p i old in let low = w.0 in let high = w.1 in let grows = new.grows in (omega arith, omega arith))
    | inr is ↦ (let number = new.number i (sym is.slot) in let i_is = number.0 in let m_is = number.1 in (omega arith, omega arith))
  ];
  once = λ e p f q i here there. elim (old_or_new x.line x.session z e p (Plain i) here) [
    | inl old ↦ elim (old_or_new x.line x.session z f q (Plain i) there) [
      | inl old' ↦ h.once e p f q i old old'
      | inr is ↦ absurd (let i_is = (new.number i (sym is.slot)).0 in let high = (h.within e p i old).1 in omega arith)
    ]
    | inr is ↦ elim (old_or_new x.line x.session z f q (Plain i) there) [
      | inl old ↦ absurd (let i_is = (new.number i (sym is.slot)).0 in let high = (h.within f q i old).1 in omega arith)
      | inr is' ↦ (is.session ∙ sym is'.session, is.place ∙ sym is'.place)
    ]
  ];
  apart = λ e p f q i here there. elim (old_or_new x.line x.session z e p (Plain i) here) [
    | inl old ↦ h.apart e p f q i old there
    | inr is ↦ (let i_is = (new.number i (sym is.slot)).0 in let high = (other_h.within f q i there).1 in omega arith)
  ];
  waits = new.waits;
  none_waits = new.none_waits;
}

number_order : (b : Bearer) (x y : Sender) (z : LinkSlot) (rest : List LinkSlot) (m n m' : ℕ) → Homes b x y m n → Order x.line → IsNumbered b x y z rest m n m' → Order (extended x.line x.session z)
number_order b x y z rest m n m' h order new = record {
  rise = λ e p q i j here there less. elim (old_or_new x.line x.session z e p (Plain i) here) [
    | inl old ↦ elim (old_or_new x.line x.session z e q (Plain j) there) [
      | inl old' ↦ order.rise e p q i j old old' less
      | inr is ↦ (let j_is = (new.number j (sym is.slot)).0 in let high = (h.within e p i old).1 in omega arith)
    ]
    | inr is ↦ elim (old_or_new x.line x.session z e q (Plain j) there) [
      | inl old ↦ absurd (
          let here' : at (x.line x.session) q ≡ Some (Plain j) = ap (λ n. at (x.line n) q) (sym is.session) ∙ old in
          let high = (at_within (x.line x.session) q (Plain j) here').1 in
          let place = is.place in omega arith)
      | inr is' ↦ absurd (let place = is.place in let place' = is'.place in omega arith)
    ]
  ];
}

number_barrier : (b : Bearer) (x y : Sender) (r t : Receiver) (z : LinkSlot) (rest : List LinkSlot) (m n m' k : ℕ) → Holds b x y r t m n k → IsNumbered b x y z rest m n m' → Barrier (extended x.line x.session z) y.line r t
number_barrier b x y r t z rest m n m' k h new = record {
  same_link = λ e p f q i j here there less differ. elim (old_or_new x.line x.session z f q (Plain i) there) [
    | inl old ↦ elim (old_or_new x.line x.session z e p (Plain j) here) [
      | inl old' ↦ h.barrier.same_link e p f q i j old' old less differ
      | inr is ↦ h.ready.same_link (new.leading j (sym is.slot)) f q i old (λ same. differ (is.session ∙ same))
    ]
    | inr is ↦ elim (old_or_new x.line x.session z e p (Plain j) here) [
      | inl old ↦ absurd (let i_is = (new.number i (sym is.slot)).0 in let high = (h.homes.within e p j old).1 in omega arith)
      | inr is' ↦ absurd (differ (is'.session ∙ sym is.session))
    ]
  ];
  other_link = λ e p f q i j here there less. elim (old_or_new x.line x.session z e p (Plain j) here) [
    | inl old ↦ elim (h.barrier.other_link e p f q i j old there less) [
      | inl past ↦ inl past
      | inr w ↦ inr (record { where_it_stands = w.where_it_stands; full = w.full; there = still x.line x.session z e w.where_it_stands (Tunnel f q w.full) w.there; earlier = w.earlier })
    ]
    | inr is ↦ elim (h.ready.other_link (new.leading j (sym is.slot)) f q i there) [
      | inl past ↦ inl past
      | inr w ↦ (
          let stood : at (x.line x.session) w.where_it_stands ≡ Some (Tunnel f q w.full) = ap (λ zs. at zs w.where_it_stands) (sym (new.front_is j (sym is.slot))) ∙ w.there in
          let high = (at_within (x.line x.session) w.where_it_stands (Tunnel f q w.full) stood).1 in
          let place = is.place in
          inr (record {
            where_it_stands = w.where_it_stands;
            full = w.full;
            there = still x.line x.session z e w.where_it_stands (Tunnel f q w.full) (ap (λ n. at (x.line n) w.where_it_stands) is.session ∙ stood);
            earlier = omega arith;
          }))
    ]
  ];
}

number_ready : (b : Bearer) (x y : Sender) (r t : Receiver) (z : LinkSlot) (rest : List LinkSlot) (m n m' k : ℕ) → Holds b x y r t m n k → IsNumbered b x y z rest m n m' → Ready b (with_number x z rest) y r t
number_ready b x y r t z rest m n m' k h new = record {
  same_link = λ leading f q i there differ. elim (old_or_new x.line x.session z f q (Plain i) there) [
    | inl old ↦ h.ready.same_link leading f q i old differ
    | inr is ↦ absurd (differ (sym is.session))
  ];
  other_link = λ leading f q i there. elim (h.ready.other_link leading f q i there) [
    | inl past ↦ inl past
    | inr w ↦ inr (record { where_it_stands = w.where_it_stands; full = w.full; there = new.front_more w.where_it_stands f q w.full w.there })
  ];
}

number_runs : (x : Sender) (t : Receiver) (z : LinkSlot) (rest : List LinkSlot) → Runs x t → x.waiting ≡ z ∷ rest → Runs (with_number x z rest) t
number_runs x t z rest h waits = record {
  lines = λ e. elim (cases_eq e x.session) [
    | inl same ↦ subst (λ n. RunsIn (extended x.line x.session z n) t) (sym same) (runs_front (extended x.line x.session z x.session) rest t (subst (λ zs. RunsIn zs t) (sym (same_slots x z rest waits)) h.now))
    | inr differ ↦ subst (λ zs. RunsIn zs t) (sym (other_session x.line x.session z e differ)) (h.lines e)
  ];
  now = subst (λ zs. RunsIn zs t) (sym (same_slots x z rest waits)) h.now;
}

number_target : (x y : Sender) (z : LinkSlot) (rest : List LinkSlot) → Target x y → x.waiting ≡ z ∷ rest → Target (with_number x z rest) y
number_target x y z rest h waits = record {
  lines = λ e. elim (cases_eq e x.session) [
    | inl same ↦ subst (λ n. TargetIn (extended x.line x.session z n) y) (sym same) (target_front (extended x.line x.session z x.session) rest y (subst (λ zs. TargetIn zs y) (sym (same_slots x z rest waits)) h.now))
    | inr differ ↦ subst (λ zs. TargetIn zs y) (sym (other_session x.line x.session z e differ)) (h.lines e)
  ];
  now = subst (λ zs. TargetIn zs y) (sym (same_slots x z rest waits)) h.now;
}

number_inner : (x : Sender) (line : ℕ → List LinkSlot) (z : LinkSlot) (rest : List LinkSlot) → Inner x line → x.waiting ≡ z ∷ rest → Inner (with_number x z rest) line
number_inner x line z rest h waits = record {
  lines = λ e. elim (cases_eq e x.session) [
    | inl same ↦ subst (λ n. InnerIn (extended x.line x.session z n) n line) (sym same) (inner_front (extended x.line x.session z x.session) rest x.session line (subst (λ zs. InnerIn zs x.session line) (sym (same_slots x z rest waits)) h.now))
    | inr differ ↦ subst (λ zs. InnerIn zs e line) (sym (other_session x.line x.session z e differ)) (h.lines e)
  ];
  now = subst (λ zs. InnerIn zs x.session line) (sym (same_slots x z rest waits)) h.now;
}

number_effect : (x : Sender) (r t : Receiver) (z : LinkSlot) → Ends x r → Effect x.line r t → Effect (extended x.line x.session z) r t
number_effect x r t z ends h = record {
  done = λ e p f q full there low past. elim (old_or_new x.line x.session z e p (Tunnel f q full) there) [
    | inl old ↦ h.done e p f q full old low past
    | inr is ↦ absurd (past_at_new x r z e p (Tunnel f q full) ends is past)
  ];
}

number_carrier : (b : Bearer) (x y : Sender) (z : LinkSlot) (rest : List LinkSlot) → Carrier b x y → x.waiting ≡ z ∷ rest → Carrier b (with_number x z rest) y
number_carrier b x y z rest h waits = record {
  none = λ reset p f q full there. h.none reset p f q full (ap (λ zs. at zs p) (sym (same_slots x z rest waits)) ∙ there);
  present = λ up p f q full there live. h.present up p f q full (ap (λ zs. at zs p) (sym (same_slots x z rest waits)) ∙ there) live;
}

number_cover : (x y : Sender) (r : Receiver) (z : LinkSlot) (rest : List LinkSlot) → Cover x y r → Cover (with_number x z rest) y r
number_cover x y r z rest h = record {
  covered = λ e q ended low high. h.covered e q ended low (subst (λ zs. q ≤ length zs) (other_session x.line x.session z e (λ same. omega arith)) high);
}

number_delivered : (b : Bearer) (x y : Sender) (r : Receiver) (z : LinkSlot) (rest : List LinkSlot) (m n m' k : ℕ) → Ends x r → Delivered x.line r k → k ≤ m → IsNumbered b x y z rest m n m' → Delivered (extended x.line x.session z) r k
number_delivered b x y r z rest m n m' k ends h within new = record {
  all = λ e p i there low. elim (old_or_new x.line x.session z e p (Plain i) there) [
    | inl old ↦ h.all e p i old low
    | inr is ↦ absurd (let i_is = (new.number i (sym is.slot)).0 in omega arith)
  ];
  only = λ e p i there past. elim (old_or_new x.line x.session z e p (Plain i) there) [
    | inl old ↦ h.only e p i old past
    | inr is ↦ absurd (past_at_new x r z e p (Plain i) ends is past)
  ];
}

-- of the other link

other_homes : (b : Bearer) (x y : Sender) (z : LinkSlot) (rest : List LinkSlot) (m n m' : ℕ) → Homes (other b) y x m n → IsNumbered b x y z rest m n m' → Homes (other b) y (with_number x z rest) m' n
other_homes b x y z rest m n m' h new = record {
  within = λ e p i there. (let w = h.within e p i there in let low = w.0 in let high = w.1 in let grows = new.grows in (omega arith, omega arith));
  once = h.once;
  apart = λ e p f q i here there. elim (old_or_new x.line x.session z f q (Plain i) there) [
    | inl old ↦ h.apart e p f q i here old
    | inr is ↦ (let i_is = (new.number i (sym is.slot)).0 in let high = (h.within e p i here).1 in omega arith)
  ];
  waits = λ leading. h.waits leading ∙ ap (λ a. counted a (n - a)) (sym (new.other_waits leading));
  none_waits = h.none_waits;
}

other_barrier : (b : Bearer) (x y : Sender) (r t : Receiver) (z : LinkSlot) (rest : List LinkSlot) (m n m' k : ℕ) → Holds (other b) y x t r m n k → IsNumbered b x y z rest m n m' → Barrier y.line (extended x.line x.session z) t r
other_barrier b x y r t z rest m n m' k h new = record {
  same_link = h.barrier.same_link;
  other_link = λ e p f q i j here there less. elim (old_or_new x.line x.session z f q (Plain i) there) [
    | inl old ↦ h.barrier.other_link e p f q i j here old less
    | inr is ↦ absurd (let i_is = (new.number i (sym is.slot)).0 in let high = (h.homes.within e p j here).1 in omega arith)
  ];
}

other_ready : (b : Bearer) (x y : Sender) (r t : Receiver) (z : LinkSlot) (rest : List LinkSlot) (m n m' : ℕ) → Ready (other b) y x t r → IsNumbered b x y z rest m n m' → Ready (other b) y (with_number x z rest) t r
other_ready b x y r t z rest m n m' h new = record {
  same_link = h.same_link;
  other_link = λ leading f q i there. elim (old_or_new x.line x.session z f q (Plain i) there) [
    | inl old ↦ h.other_link leading f q i old
    | inr is ↦ absurd (true≢false (sym leading ∙ leads_one b x.state y.state (new.leading i (sym is.slot))))
  ];
}

still_target : (x : Sender) (z : LinkSlot) (rest : List LinkSlot) (f q : ℕ) → IsTarget x f q → IsTarget (with_number x z rest) f q
still_target x z rest f q w = record { begun = w.begun; shown = w.shown; up = w.up; numbered = (let old = w.numbered in let longer = no_shorter x.line x.session z f in omega arith) }

still_inner : (zs : List LinkSlot) (e : ℕ) (x : Sender) (z : LinkSlot) → InnerIn zs e x.line → InnerIn zs e (extended x.line x.session z)
still_inner zs e x z h = record {
  full = λ p f q there low. (let w = h.full p f q there low in record { index = w.index; there = still x.line x.session z f q (Plain w.index) w.there });
  placeholder = λ p f q there. (let w = h.placeholder p f q there in (w.0, record { place = w.1.place; full = w.1.full; there = still x.line x.session z f q (Tunnel e w.1.place w.1.full) w.1.there; earlier = w.1.earlier }));
}

-- ---- the event

pub number : (b : Bearer) (s : State) (z : LinkSlot) (rest : List LinkSlot) → Sound b s → MayAct b s (Number z rest) → Sound b (acted s (Number z rest))
number b s z rest h may =
    let x = s.near in
    let y = s.far in
    let r = s.near_record in
    let t = s.far_record in
    let m = s.numbered in
    let n = s.put in
    let m' = s.numbered + plain_count z in
    let k = h.count in
    let waits : x.waiting ≡ z ∷ rest = may.1 in
    let new : IsNumbered b x y z rest m n m' = number_is b x y z rest m n h.near.homes waits h.numbers in
    record {
      count = k;
      taken = h.taken;
      within = (let old = h.within in let grows = new.grows in omega arith);
      numbers = new.fits;
      found = λ i low high. elim (cases_lt m i) [
        | inl more ↦ inl (record { session = x.session; place = length (x.line x.session) + 1; there = new_there x.line x.session z ∙ ap (λ (w : LinkSlot). Some w) (new.more i high more) })
        | inr old ↦ elim (h.found i low old) [
          | inl near ↦ inl (record { session = near.session; place = near.place; there = still x.line x.session z near.session near.place (Plain i) near.there })
          | inr far ↦ inr far
        ]
      ];
      idle = λ down. absurd (down may.0);
      near = record {
        ends = number_ends x r z rest h.near.ends may.0;
        homes = number_homes b x y z rest m n m' h.near.homes h.far.homes new;
        order = number_order b x y z rest m n m' h.near.homes h.near.order new;
        barrier = number_barrier b x y r t z rest m n m' k h.near new;
        ready = number_ready b x y r t z rest m n m' k h.near new;
        runs = number_runs x t z rest h.near.runs waits;
        target = number_target x y z rest h.near.target waits;
        inner = number_inner x y.line z rest h.near.inner waits;
        effect = number_effect x r t z h.near.ends h.near.effect;
        carrier = number_carrier b x y z rest h.near.carrier waits;
        cover = number_cover x y r z rest h.near.cover;
        delivered = number_delivered b x y r z rest m n m' k h.near.ends h.near.delivered h.within new;
      };
      far = record {
        ends = h.far.ends;
        homes = other_homes b x y z rest m n m' h.far.homes new;
        order = h.far.order;
        barrier = other_barrier b x y r t z rest m n m' k h.far new;
        ready = other_ready b x y r t z rest m n m' h.far.ready new;
        runs = record { lines = h.far.runs.lines; now = h.far.runs.now };
        target = record {
          lines = λ e. retarget (y.line e) x (with_number x z rest) (h.far.target.lines e) (still_target x z rest);
          now = retarget (slots y) x (with_number x z rest) h.far.target.now (still_target x z rest);
        };
        inner = record { lines = λ e. still_inner (y.line e) e x z (h.far.inner.lines e); now = still_inner (slots y) y.session x z h.far.inner.now };
        effect = h.far.effect;
        carrier = record { none = h.far.carrier.none; present = h.far.carrier.present };
        cover = record {
          covered = λ e q ended low high. elim (h.far.cover.covered e q ended low high) [
            | inl past ↦ inl past
            | inr w ↦ (let live = w.2 in inr (
              w.0,
              w.1,
              record {
                where_it_stands = live.where_it_stands;
                full = live.full;
                there = ap (λ zs. at zs live.where_it_stands) (same_slots x z rest waits) ∙ live.there;
                unacknowledged = live.unacknowledged;
              },
            ))
          ];
        };
        delivered = h.far.delivered;
      };
    }
