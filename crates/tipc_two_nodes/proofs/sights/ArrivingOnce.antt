-- A packet that arrives at a pair takes it out of one contact at most, and into none behind it.
use Rattle.std.proofs.Common.{◌≡◌, ◌≤◌, ◌==◌, ℕ, true, false, nat_lt, if◌then◌else◌, Option, Some, None, refl, sym, ap, ◌∙◌, inl, inr, arith}
use Rattle.tipc_types.specs.declared.link_words.BroadcastState.{BroadcastState}
use Rattle.tipc_types.specs.declared.link_words.Why.TheVariants as why
use Rattle.tipc_header.specs.declared.packet.Header.{Header}
use Rattle.tipc_header.specs.declared.packet.Header.TheVariants as header
use Rattle.tipc_header.specs.Spelling.{Fields}
use Rattle.tipc_link.specs.Links.{LinkEnd, arrival_end, outcome_of}
use Rattle.tipc_pair.specs.declared.changes.PairOutcome.{PairOutcome}
use Rattle.tipc_pair.specs.Changeovers.{risen}
use Rattle.tipc_pair.specs.Courses.{Course, going_on}
use Rattle.tipc_pair.specs.Facing.{PairEnds, in_contact, is_up_at, with_near}
use Rattle.tipc_pair.specs.PairArrivals.{Arrives, Heard, activate_higher, activates, behind, by_number, hears, met_at, met_near, passing, reset_near}
use Rattle.tipc_pair.specs.PairFacts.{IsPairOfEnds}
use Rattle.tipc_pair.proofs.HeldLaws.{GoesQuietly}
use Rattle.tipc_paired.specs.Paired.{ArePaired}
use Rattle.tipc_paired.specs.Views.{View}
use Rattle.tipc_two_nodes.proofs.deeds.Placing.{hears_some}
use Rattle.tipc_two_nodes.specs.deeds.PairDeeds.{IsOfPair}
use Rattle.tipc_two_nodes.proofs.arrivals.BegunArrivals.{begins, hears_so, lasts, opened_quietly, out, risen_contact}
use Rattle.tipc_two_nodes.proofs.sights.CallSessions.{hears_last}
use Rattle.tipc_two_nodes.proofs.sights.EndingOnce.{EndsOnce, both_tests, ends_then, not_true, reset_ends, risen_ends}
use Rattle.tipc_two_nodes.proofs.calls.QuietCourses.{released_numbers}
use Rattle.tipc_two_nodes.proofs.arrivals.Steady.{not_reset, opens_steady, outcome_quiet}
use Rattle.tipc_two_nodes.proofs.calls.TurnCourses.{following_numbers}

-- The pair left one contact at most; and where it is in one that it was in, it is the same.
pub record ContactSo (x q : PairEnds) : Type 0 where
  pub once : EndsOnce x q
  pub lasts : in_contact x ≡ true → in_contact q ≡ true → (q.contact ≡ x.contact) × (q.seen ≡ x.seen)

pub contact_quiet : (x q : PairEnds) → GoesQuietly x q → EndsOnce x q → ContactSo x q
contact_quiet x q h once = record { once = once; lasts = λ was there. (h.goes.contact there, h.goes.seen) }

-- what comes behind it keeps the numbers of the pair, and takes it into no contact
pub contact_then : (x y z : PairEnds) → ContactSo x y → z.contact ≡ y.contact → z.seen ≡ y.seen → (in_contact z ≡ true → in_contact y ≡ true) → ContactSo x z
contact_then x y z h contact seen stays = record {
  once = elim h.once [ inl same ↦ inl (contact ∙ same) | inr left ↦ inr (left.0, contact ∙ left.1, not_true (in_contact z) (in_contact y) stays left.2) ];
  lasts = λ was there. (let k = h.lasts was (stays there) in (contact ∙ k.0, seen ∙ k.1));
}

-- ---- what is heard

met_same : (x : PairEnds) (o : Option LinkEnd) (es er : ℕ) (p : Fields) (by : ℕ) (shown : BroadcastState) → not_reset p.header ≡ true → (met_at es er p by shown x o).course.pair.contact ≡ x.contact
unfolding going_on
met_same x None es er p by shown other = refl
met_same x (Some e) es er p by shown other =
    let o = outcome_of e.fsm p.header es er (is_up_at x.far) in
    let z = with_near x (arrival_end e o p by) in
    let quiet = outcome_quiet p.header e.fsm es er (is_up_at x.far) other in
    (following_numbers z o.change es (λ down. both_tests (sym down ∙ quiet))).contact

by_once : (x : PairEnds) (number : ℕ) (same higher : Heard) → EndsOnce x same.course.pair → EndsOnce x higher.course.pair → EndsOnce x (by_number x number same higher).course.pair
by_once x number same higher f g = elim (nat_lt number x.seen) as (λ t. EndsOnce x (if t then passing x why.Contact else (if number == x.seen then same else higher)).course.pair) [
  | true ↦ inl refl
  | false ↦ elim (number == x.seen) as (λ t. EndsOnce x (if t then same else higher).course.pair) [ true ↦ f | false ↦ g ]
]

higher_once : (x : PairEnds) (number es er : ℕ) (p : Fields) (by : ℕ) (shown : BroadcastState) → not_reset p.header ≡ true → EndsOnce x (activate_higher number (met_near es er p by shown) x).course.pair
unfolding going_on
higher_once x number es er p by shown other =
    let q = (risen x number).pair in
    elim (in_contact x) as (λ t. in_contact x ≡ t → EndsOnce x (activates t (risen x number) (behind (risen x number) (met_near es er p by shown))).course.pair) [
      | true ↦ λ _. (risen_ends x number).once
      | false ↦ λ none. inl (met_same q q.near es er p by shown other ∙ risen_contact x number none)
    ] refl

hears_once : (h : Header) (x : PairEnds) (es er : ℕ) (p : Fields) (by : ℕ) (shown : BroadcastState) → p.header ≡ h → EndsOnce x (hears h es er p by shown x).course.pair
unfolding going_on
hears_once (header.Reset said) x es er p by shown is =
    by_once x said.contact (reset_near es shown x) (behind (risen x said.contact) (reset_near es shown)) (reset_ends es shown x).once (ends_then x (risen x said.contact).pair _ (risen_ends x said.contact) (reset_ends es shown (risen x said.contact).pair)).once
hears_once (header.Activate said) x es er p by shown is =
    by_once x said.contact (met_near es er p by shown x) (activate_higher said.contact (met_near es er p by shown) x) (inl (met_same x x.near es er p by shown (ap not_reset is))) (higher_once x said.contact es er p by shown (ap not_reset is))
hears_once other x es er p by shown is = inl (met_same x x.near es er p by shown (ap not_reset is))

-- ---- the whole arrival

pub arrival_contact : (v y : View) (x : PairEnds) (es er : ℕ) (p : Fields) (by : ℕ) (shown : BroadcastState) (c : Course) (given : PairOutcome) → ArePaired v y → IsOfPair v x → IsPairOfEnds x → Arrives x es er p by shown c given → ContactSo x c.pair
unfolding going_on
arrival_contact v y x es er p by shown c given h pair ends a =
    let m = hears p.header es er p by shown x in
    let z = m.course.pair in
    let low : z.bearer ≤ 1 = (let is = (hears_last p.header x es er p by shown).bearer in let two = pair.two_bearers in omega arith) in
    let steady = opens_steady z m.outcome a.opened given low (λ first others is. (hears_some p.header v y x es er p by shown first others refl h pair ends is).goes.up) a.opens in
    let low' : a.opened.pair.bearer ≤ 1 = (let is = steady.bearer in omega arith) in
    let last = released_numbers a.opened.pair low' in
    let contact : c.pair.contact ≡ z.contact = ap (λ (d : Course). d.pair.contact) a.course ∙ (last.contact ∙ steady.contact) in
    let quiet = opened_quietly x es er p by shown c given a in
    record {
      once = elim (hears_once p.header x es er p by shown refl) [
        | inl same ↦ inl (contact ∙ same)
        | inr left ↦ inr (left.0, contact ∙ left.1, not_true (in_contact c.pair) (in_contact z) quiet.stays left.2)
      ];
      lasts = λ was there. elim (hears_so p.header es er p by shown x) [
        | out down ↦ both_tests (sym (quiet.stays there) ∙ down)
        | lasts before same seen message ↦ (quiet.goes.contact there ∙ same, quiet.goes.seen ∙ seen)
        | begins apart same message ↦ both_tests (sym was ∙ apart)
      ];
    }
