-- Tunnel packets at a receive window: where one stands that isn't the wanted one.
use Rattle.std.proofs.Common.{◌≡◌, ◌⊎◌, ℕ, ◌+◌, ◌-◌, ◌<◌, ◌^◌, ◌%◌, ◌&&◌, ◌==◌, true, false, not, nat_lt, List, Some, None, is_none, refl, sym, ap, ◌∙◌, inl, inr, arith}
use Rattle.std.proofs.lemmas.Bool.{cases_eq}
use Rattle.std.proofs.lemmas.Bool.Decides.{nat_tests}
use Rattle.tipc_types.specs.Position.{distance_of, number_of}
use Rattle.tipc_types.specs.declared.link_words.Why.TheVariants as why
use Rattle.tipc_types.specs.declared.packet_lists.Taken.{Taken}
use Rattle.tipc_header.specs.declared.packet.Header.{Header}
use Rattle.tipc_header.specs.declared.packet.Header.TheVariants as header
use Rattle.tipc_header.specs.Grammar.{Fits, NumberingFits}
use Rattle.tipc_header.specs.Reading.{fields_at}
use Rattle.tipc_header.specs.Spelling.{Fields, spelling}
use Rattle.tipc_header.proofs.Again.{again, no_fault}
use Rattle.tipc_recv_window.specs.declared.outcomes.LinkOutcome.{LinkOutcome}
use Rattle.tipc_recv_window.specs.declared.outcomes.Place.TheVariants.{Old}
use Rattle.tipc_recv_window.specs.Receiving.{Coming, Receiving, arrived_at, coming, past_wanted, place_at, run_of}
use Rattle.tipc_recv_window.proofs.ArrivalLaws.{arrived_at-far, place_at-far}
use Rattle.tipc_link.specs.Records.{is_changeover, is_early_tunnel, is_tunnel, standing}
use Rattle.tipc_link.specs.Sessions.{as_waiting, brought, placed, previous_waiting}
use Rattle.tipc_link.specs.Hearings.{coming_of, numbered_hearing, numbered_outcome}

-- ---- tunnel packets

waiting_numbering : (h : Header) (acknowledgement sequence : ℕ) → NumberingFits h acknowledgement sequence → NumberingFits h 0 0
waiting_numbering (header.State s) acknowledgement sequence is = refl
waiting_numbering (header.Reset r) acknowledgement sequence is = (refl, refl)
waiting_numbering (header.Activate a) acknowledgement sequence is = (refl, refl)
waiting_numbering (header.Discovery d) acknowledgement sequence is = (refl, refl)
waiting_numbering other acknowledgement sequence is = tt

previous_fits : (h : Header) (previous : ℕ) → previous < 2 ^ 32 → previous_waiting h previous < 2 ^ 32
previous_fits (header.Bundler b) previous fits = omega arith
previous_fits (header.Changeover c) previous fits = omega arith
previous_fits (header.Fragmenter f) previous fits = omega arith
previous_fits other previous fits = fits

-- a packet as it waited fits, too
pub waiting_fits : (p : Fields) → Fits p → Fits (as_waiting p)
waiting_fits p f = record {
  acknowledgement = omega arith;
  sequence = omega arith;
  previous = previous_fits p.header p.previous f.previous;
  header = f.header;
  numbering = waiting_numbering p.header p.acknowledgement p.sequence f.numbering;
  rest = f.rest;
  size = f.size;
}

-- the bytes of a packet as it waited tell whether it is a tunnel packet
pub tunnel_waiting : (p : Fields) → Fits p → is_tunnel (spelling (as_waiting p)) ≡ is_changeover p.header
unfolding is_tunnel
tunnel_waiting p f =
    let fits = waiting_fits p f in
    ap (λ o. is_none o && is_changeover (fields_at (spelling (as_waiting p))).header) (no_fault (as_waiting p) fits) ∙ ap (λ (q : Fields). is_changeover q.header) (again (as_waiting p) fits)

-- a number lies past another exactly where it is another one
past_is : (wanted number : ℕ) → number < 2 ^ 16 → nat_lt 0 (distance_of (number_of wanted) number) ≡ not (number == number_of wanted)
unfolding distance_of number_of
past_is wanted number fits = elim (cases_eq number (wanted % 65536)) [
  | inl same ↦
      let none : (number + 65536 - wanted % 65536) % 65536 ≡ 0 = omega arith in
      rw (none) (grind (arith, nat_tests))
  | inr other ↦
      let some : 0 < (number + 65536 - wanted % 65536) % 65536 = omega (arith, other, fits) in
      grind (arith, nat_tests)
]

-- by the header and the number
pub early_is : (w : Receiving) (p : Fields) (by : ℕ) → Fits p → (is_changeover p.header && not (p.sequence == number_of w.wanted)) ≡ is_early_tunnel w (brought p.sequence (spelling (as_waiting p)) by)
unfolding is_early_tunnel
early_is w p by f =
    ap (λ b. is_changeover p.header && b) (sym (past_is w.wanted p.sequence f.sequence))
    ∙ ap (λ b. b && nat_lt 0 (past_wanted w p.sequence)) (sym (tunnel_waiting p f))

-- ---- where a packet stands

pub standing_early : (w : Receiving) (t : Taken) → is_early_tunnel w t ≡ true → standing w t ≡ 50
unfolding standing
standing_early w t early = rw early refl

pub standing_plain : (w : Receiving) (t : Taken) → is_early_tunnel w t ≡ false → standing w t ≡ past_wanted w t.number
unfolding standing
standing_plain w t plain = rw plain refl

pub standing_either : (w : Receiving) (t : Taken) → (standing w t ≡ 50) ⊎ (standing w t ≡ past_wanted w t.number)
standing_either w t = elim (is_early_tunnel w t) as (λ b. is_early_tunnel w t ≡ b → (standing w t ≡ 50) ⊎ (standing w t ≡ past_wanted w t.number)) [
  | true ↦ λ early. inl (standing_early w t early)
  | false ↦ λ plain. inr (standing_plain w t plain)
] refl

-- ---- what a window makes of it

pub coming_plain : (w : Receiving) (t : Taken) → is_early_tunnel w t ≡ false → coming_of w t ≡ Some (coming w t)
coming_plain w t plain = rw plain refl

coming_early : (w : Receiving) (t : Taken) → is_early_tunnel w t ≡ true → coming_of w t ≡ None
coming_early w t early = rw early refl

-- what is told of the window tells whether the packet is an early tunnel packet
pub coming_none : (w : Receiving) (t : Taken) → coming_of w t ≡ None → is_early_tunnel w t ≡ true
coming_none w t none = elim (is_early_tunnel w t) as (λ b. is_early_tunnel w t ≡ b → is_early_tunnel w t ≡ true) [
  | true ↦ λ early. early
  | false ↦ λ plain. absurd (let wrong : Some (coming w t) ≡ None = sym (coming_plain w t plain) ∙ none in let no : ⊥ = cc in no)
] refl

pub coming_some : (w : Receiving) (t : Taken) (a : Coming) → coming_of w t ≡ Some a → (is_early_tunnel w t ≡ false) × (a ≡ coming w t)
coming_some w t a some = elim (is_early_tunnel w t) as (λ b. is_early_tunnel w t ≡ b → (is_early_tunnel w t ≡ false) × (a ≡ coming w t)) [
  | true ↦ λ early. absurd (let wrong : None ≡ Some a = sym (coming_early w t early) ∙ some in let no : ⊥ = cc in no)
  | false ↦ λ plain. (plain, let same : Some (coming w t) ≡ Some a = sym (coming_plain w t plain) ∙ some in let one : coming w t ≡ a = cc in sym one)
] refl

pub early_hearing : (w : Receiving) (t : Taken) → is_early_tunnel w t ≡ true → record { by = t.by; window = None; outcome = LinkOutcome.Ignored why.Old } ≡ numbered_hearing w t
early_hearing w t early =
    let far = standing_early w t early in
    let old : place_at w (standing w t) ≡ Old = ap (place_at w) far ∙ place_at-far w 50 (omega arith) in
    let outcome : LinkOutcome.Ignored why.Old ≡ numbered_outcome w t = ap (λ p. placed p (run_of (arrived_at w (standing w t) t).held)) (sym old) in
    ap (λ o. record { by = t.by; window = o; outcome = LinkOutcome.Ignored why.Old }) (sym (coming_early w t early))
    ∙ ap (λ o. record { by = t.by; window = coming_of w t; outcome = o }) outcome

-- what a window makes of the packet t, which is no early tunnel packet
pub hearing_is : (w : Receiving) (t : Taken) (a : Coming) (packet : List ℕ) (due : List Taken) (outcome : LinkOutcome) → is_early_tunnel w t ≡ false → packet ≡ t.packet
    → a ≡ coming w (record { number = t.number; packet = packet; by = t.by }) → due ≡ run_of (arrived_at w (past_wanted w t.number) (record { number = t.number; packet = packet; by = t.by })).held
    → outcome ≡ placed a.place due
    → record { by = t.by; window = Some a; outcome = outcome } ≡ numbered_hearing w t
hearing_is w t a packet due outcome plain same told run is =
    let packet_is : record { number = t.number; packet = packet; by = t.by } ≡ t = ap (λ q. record { number = t.number; packet = q; by = t.by }) same in
    let told_is : a ≡ coming w t = told ∙ ap (λ q. coming w q) packet_is in
    let due_is : due ≡ run_of (arrived_at w (past_wanted w t.number) t).held = run ∙ ap (λ q. run_of (arrived_at w (past_wanted w t.number) q).held) packet_is in
    let at : past_wanted w t.number ≡ standing w t = sym (standing_plain w t plain) in
    let outcome_is : outcome ≡ numbered_outcome w t =
    is ∙ ap (λ (x : Coming). placed x.place due) told_is ∙ ap (placed (place_at w (past_wanted w t.number))) due_is ∙ ap (λ d. placed (place_at w d) (run_of (arrived_at w d t).held)) at in
    ap (λ (x : Coming). record { by = t.by; window = Some x; outcome = outcome }) told_is
    ∙ ap (λ o. record { by = t.by; window = o; outcome = outcome }) (sym (coming_plain w t plain))
    ∙ ap (λ o. record { by = t.by; window = coming_of w t; outcome = o }) outcome_is

-- a packet that stands behind the window changes nothing
pub arrived_early : (w : Receiving) (t : Taken) → standing w t ≡ 50 → arrived_at w (standing w t) t ≡ w
arrived_early w t far = ap (λ d. arrived_at w d t) far ∙ arrived_at-far w 50 t (omega arith)
