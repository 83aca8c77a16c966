-- The steps of a journal, found one after the other.
use Rattle.std.specs.List.{flat_map, list_all, prefix_len}
use Rattle.std.specs.Prelude.{Some, None, slice_get}
use Rattle.std.proofs.Common.{◌≡◌, ℕ, ◌+◌, ◌≤◌, true, arith, List, [], ◌∷◌, ◌++◌, length, length-append, drop, map, refl, sym, ◌∙◌, ap, append_assoc}
use Rattle.std.proofs.lemmas.Bool.{and_parts}
use Rattle.std.proofs.lemmas.List.{append-nil, drop_at, map_push}
use Rattle.std.proofs.lemmas.Option.{slice_get_past}
use Rattle.tipc_types.specs.declared.node_calls.Answer.{Answer}
use Rattle.tipc_types.specs.declared.node_calls.By.{By}
use Rattle.tipc_journal.specs.declared.entries.Entry.{Entry}
use Rattle.tipc_journal.specs.declared.entries.Entry.TheVariants.{Answered, Step}
use Rattle.tipc_journal.specs.Steps.{IsInside, IsWhole, NodeStep, is_inner, step_entries, steps}
use Rattle.tipc_journal.proofs.StepLaws.{IsWhole_more, IsWhole_nil, steps_more, steps_nil}
use Rattle.tipc_live.specs.declared.keeping.KeptStep.{KeptStep}
use Rattle.tipc_live.specs.Keeping.{is_open, kept_in, kept_step, maker_of}

-- ---- steps of a journal

-- an empty journal has none
pub kept_in_nil : (node : ℕ) → kept_in node [] ≡ []
unfolding kept_in
kept_in_nil node = ap (map (kept_step node)) steps_nil

-- one whole step more is the last
pub kept_in_more : (node : ℕ) (J : List Entry) (s : NodeStep) → IsWhole J → IsInside s.inside
    → kept_in node (J ++ step_entries s) ≡ kept_in node J ++ kept_step node (record { before = J; step = s }) ∷ []
unfolding kept_in
kept_in_more node J s whole clean = ap (map (kept_step node)) (steps_more J s whole clean) ∙ map_push (kept_step node) (steps J) (record { before = J; step = s })

-- ---- where a step ends

-- a step goes on behind an entry inside it
open_inside : (e : Entry) → is_inner e ≡ true → is_open e ≡ true
open_inside (Answered caller call answer) inner = inner
open_inside _ inner = refl

-- it goes on up to the Answered behind those
open_up_to : (inside : List Entry) (caller call : ℕ) (answer : Answer) (rest : List Entry)
    → IsInside inside → prefix_len is_open (inside ++ Answered caller call answer ∷ rest) ≡ length inside
open_up_to [] caller call answer rest clean = refl
open_up_to (e ∷ es) caller call answer rest clean =
    let parts = and_parts (is_inner e) _ clean in
    let later = open_up_to es caller call answer rest parts.1 in
    let goes = open_inside e parts.0 in
    rw goes (omega (arith, later))

open_step : (s : NodeStep) (rest : List Entry) → IsInside s.inside → prefix_len is_open (step_entries s ++ rest) ≡ 1 + length s.inside
open_step s rest clean =
    let later : List Entry = s.inside ++ Answered s.caller s.call s.answer ∷ rest in
    let inner = open_up_to s.inside s.caller s.call s.answer rest clean in
    let joined : step_entries s ++ rest ≡ Step s.by s.event ∷ later = ap (λ w. Step s.by s.event ∷ w) (append_assoc s.inside (Answered s.caller s.call s.answer ∷ []) rest) in
    let first : prefix_len is_open (Step s.by s.event ∷ later) ≡ 1 + prefix_len is_open later = refl in
    ap (prefix_len is_open) joined ∙ first ∙ omega (arith, inner)

-- ---- one after the other

-- These steps were found up to this place, where the rest of the journal begins, which is whole steps too.
pub record AreFoundTo (node : ℕ) (entries : List Entry) (old items : List KeptStep) (begin : ℕ) : Type 0 where
  pub front : List Entry
  pub whole : IsWhole front
  pub todo : List NodeStep
  pub clean : list_all (λ s. list_all is_inner s.inside) todo ≡ true
  pub joined : entries ≡ front ++ flat_map step_entries todo
  pub begin_is : begin ≡ length front
  pub items_are : items ≡ old ++ kept_in node front

pub found_none : (node : ℕ) (entries : List Entry) (old : List KeptStep) → IsWhole entries → AreFoundTo node entries old old 0
found_none node entries old whole = record {
  front = [];
  whole = IsWhole_nil;
  todo = whole.made;
  clean = whole.clean;
  joined = whole.joined;
  begin_is = refl;
  items_are = sym (append-nil old) ∙ ap (λ w. old ++ w) (sym (kept_in_nil node));
}

pub found_within : (node : ℕ) (entries : List Entry) (old items : List KeptStep) (begin : ℕ) → AreFoundTo node entries old items begin → begin ≤ length entries
found_within node entries old items begin f =
    let all = ap length f.joined in
    let parts = length-append f.front (flat_map step_entries f.todo) in
    let here = f.begin_is in
    omega (arith, all, parts, here)

-- what stands behind a front
pub at_front : (xs ys : List Entry) → slice_get (xs ++ ys) (length xs) ≡ slice_get ys 0
at_front [] ys = refl
at_front (x ∷ xs) ys = at_front xs ys

-- behind the front is a step that someone made, or nothing
pub found_more : (node : ℕ) (entries : List Entry) (old items : List KeptStep) (begin : ℕ) (by : By) → AreFoundTo node entries old items begin
    → maker_of (slice_get entries begin) ≡ Some by
    → (end : ℕ) → end ≡ begin + prefix_len is_open (drop begin entries)
    → AreFoundTo node entries old (items ++ record { by = by; node = node; begin = begin; end = end } ∷ []) (end + 1)
found_more node entries old items begin by f maker end end_is = go f.todo f.clean f.joined
  where
    go : (todo : List NodeStep) → list_all (λ s. list_all is_inner s.inside) todo ≡ true → entries ≡ f.front ++ flat_map step_entries todo
        → AreFoundTo node entries old (items ++ record { by = by; node = node; begin = begin; end = end } ∷ []) (end + 1)
    go [] clean joined =
        let nothing : slice_get entries begin ≡ None =
        ap (λ es. slice_get es begin) (joined ∙ append-nil f.front) ∙ ap (slice_get f.front) f.begin_is ∙ slice_get_past f.front (length f.front) (omega arith) in
        let both : None ≡ Some by = sym (ap maker_of nothing) ∙ maker in
        absurd cc
    go (s ∷ ss) clean joined =
        let parts = and_parts (list_all is_inner s.inside) _ clean in
        let rest : List Entry = flat_map step_entries ss in
        let here : slice_get entries begin ≡ Some (Step s.by s.event) =
        ap (λ es. slice_get es begin) joined ∙ ap (slice_get (f.front ++ (step_entries s ++ rest))) f.begin_is ∙ at_front f.front (step_entries s ++ rest) in
        let named : Some s.by ≡ Some by = sym (ap maker_of here) ∙ maker in
        let by_is : s.by ≡ by = cc in
        let behind : drop begin entries ≡ step_entries s ++ rest =
        ap (drop begin) joined ∙ drop_at f.front (step_entries s ++ rest) begin (sym f.begin_is) in
        let goes = ap (prefix_len is_open) behind ∙ open_step s rest parts.0 in
        let begin_is = f.begin_is in
        let last : end ≡ length f.front + 1 + length s.inside = omega (arith, end_is, goes, begin_is) in
        let grown = length-append f.front (step_entries s) in
        let inner = length-append s.inside (Answered s.caller s.call s.answer ∷ []) in
        let size : length (step_entries s) ≡ 1 + length (s.inside ++ Answered s.caller s.call s.answer ∷ []) = omega arith in
        let one : KeptStep = kept_step node (record { before = f.front; step = s }) in
        let same : record { by = by; node = node; begin = begin; end = end } ≡ one =
        ap (λ b. record { by = b; node = node; begin = begin; end = end }) (sym by_is)
        ∙ ap (λ k. record { by = s.by; node = node; begin = k; end = end }) f.begin_is
        ∙ ap (λ k. record { by = s.by; node = node; begin = length f.front; end = k }) last in
        record {
          front = f.front ++ step_entries s;
          whole = IsWhole_more f.front s f.whole parts.0;
          todo = ss;
          clean = parts.1;
          joined = joined ∙ sym (append_assoc f.front (step_entries s) rest);
          begin_is = omega (arith, last, grown, inner, size);
          items_are =
              ap (λ w. w ++ record { by = by; node = node; begin = begin; end = end } ∷ []) f.items_are
              ∙ ap (λ k. (old ++ kept_in node f.front) ++ k ∷ []) same
              ∙ append_assoc old (kept_in node f.front) (one ∷ [])
              ∙ ap (λ w. old ++ w) (sym (kept_in_more node f.front s f.whole parts.0));
        }

-- where nobody made a step behind the front, all are found
pub found_all : (node : ℕ) (entries : List Entry) (old items : List KeptStep) (begin : ℕ) → AreFoundTo node entries old items begin
    → maker_of (slice_get entries begin) ≡ None → items ≡ old ++ kept_in node entries
found_all node entries old items begin f nobody = go f.todo f.joined
  where
    go : (todo : List NodeStep) → entries ≡ f.front ++ flat_map step_entries todo → items ≡ old ++ kept_in node entries
    go [] joined = f.items_are ∙ ap (λ es. old ++ kept_in node es) (sym (joined ∙ append-nil f.front))
    go (s ∷ ss) joined =
        let rest : List Entry = flat_map step_entries ss in
        let here : slice_get entries begin ≡ Some (Step s.by s.event) =
        ap (λ es. slice_get es begin) joined ∙ ap (slice_get (f.front ++ (step_entries s ++ rest))) f.begin_is ∙ at_front f.front (step_entries s ++ rest) in
        let both : Some s.by ≡ None = sym (ap maker_of here) ∙ nobody in
        absurd cc
