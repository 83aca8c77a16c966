-- Steps behind one more whole step.
use Rattle.std.specs.List.{flat_map, list_all, prefix_len}
use Rattle.std.proofs.Common.{◌≡◌, ℕ, arith, Bool, true, List, [], ◌∷◌, ◌++◌, length, take, drop, refl, sym, ◌∙◌, ap, append_assoc}
use Rattle.std.proofs.lemmas.Bool.{and_from, and_parts}
use Rattle.std.proofs.Math.Seq.{take-append_seam, drop-append_seam}
use Rattle.std.proofs.lemmas.List.{append-nil}
use Rattle.std.proofs.lemmas.List.Concat.{flat_map-append}
use Rattle.tipc_types.specs.declared.node_calls.Answer.{Answer}
use Rattle.tipc_journal.specs.declared.entries.Entry.{Entry}
use Rattle.tipc_journal.specs.declared.entries.Entry.TheVariants.{Step, Answered}
use Rattle.tipc_journal.specs.Steps.{NodeStep, PlacedStep, step_entries, is_inner, IsInside, ended, steps_behind, steps, IsWhole}

-- an entry inside a step begins no step
steps_behind_inner : (before : List Entry) (e : Entry) (rest : List Entry)
    → is_inner e ≡ true → steps_behind before (e ∷ rest) ≡ steps_behind (before ++ e ∷ []) rest
steps_behind_inner before (Step by event) rest inner = cc
steps_behind_inner before _ rest inner = refl

-- entries inside a step begin no step
steps_behind_inside : (before inside rest : List Entry)
    → IsInside inside → steps_behind before (inside ++ rest) ≡ steps_behind (before ++ inside) rest
steps_behind_inside before [] rest clean = ap (λ w. steps_behind w rest) (sym (append-nil before))
steps_behind_inside before (e ∷ es) rest clean =
    let parts = and_parts (is_inner e) _ clean in
    steps_behind_inner before e (es ++ rest) parts.0
    ∙ steps_behind_inside (before ++ e ∷ []) es rest parts.1
    ∙ ap (λ w. steps_behind w rest) (append_assoc before (e ∷ []) es)

-- entries inside a step reach up to the Answered behind them
prefix_len_inside : (inside : List Entry) (caller call : ℕ) (answer : Answer) (rest : List Entry)
    → IsInside inside → prefix_len is_inner (inside ++ Answered caller call answer ∷ rest) ≡ length inside
prefix_len_inside [] caller call answer rest clean = refl
prefix_len_inside (e ∷ es) caller call answer rest clean =
    let parts = and_parts (is_inner e) _ clean in
    let later = prefix_len_inside es caller call answer rest parts.1 in
    rw parts.0 (omega (arith, later))

-- a whole step is the first of the steps that begin with it
steps_behind_step : (before : List Entry) (s : NodeStep) (rest : List Entry) → IsInside s.inside
    → steps_behind before (step_entries s ++ rest)
    ≡ record { before = before; step = s } ∷ steps_behind (before ++ step_entries s) rest
steps_behind_step before s rest clean =
    let end : List Entry = Answered s.caller s.call s.answer ∷ [] in
    let later : List Entry = s.inside ++ Answered s.caller s.call s.answer ∷ rest in
    let begun : List Entry = before ++ Step s.by s.event ∷ [] in
    ap (λ w. ended before s.by s.event (take (prefix_len is_inner w) w) (drop (prefix_len is_inner w) w) ++ steps_behind begun w) (append_assoc s.inside end rest)
    ∙ ap (λ n. ended before s.by s.event (take n later) (drop n later) ++ steps_behind begun later) (prefix_len_inside s.inside s.caller s.call s.answer rest clean)
    ∙ ap (λ w. ended before s.by s.event w (drop (length s.inside) later) ++ steps_behind begun later) (take-append_seam s.inside (end ++ rest))
    ∙ ap (λ w. ended before s.by s.event s.inside w ++ steps_behind begun later) (drop-append_seam s.inside (end ++ rest))
    ∙ ap (λ w. record { before = before; step = s } ∷ w) (steps_behind_inside begun s.inside (end ++ rest) clean)
    ∙ ap (λ w. record { before = before; step = s } ∷ steps_behind w rest)
    (append_assoc begun s.inside end ∙ append_assoc before (Step s.by s.event ∷ []) (s.inside ++ end))

-- a test that holds of each element and of one more holds of all of them
list_all_more : {A : Type 0} (p : A → Bool) (xs : List A) (x : A)
    → list_all p xs ≡ true → p x ≡ true → list_all p (xs ++ x ∷ []) ≡ true
list_all_more p [] x all one = and_from _ _ one refl
list_all_more p (y ∷ ys) x all one =
    let parts = and_parts (p y) _ all in
    and_from _ _ parts.0 (list_all_more p ys x parts.1 one)

-- steps, each beside what stands before it
placed : List Entry → List NodeStep → List PlacedStep
placed before [] = []
placed before (s ∷ ss) = record { before = before; step = s } ∷ placed (before ++ step_entries s) ss

-- whole steps are the first of the steps that begin with them
steps_behind_made : (before : List Entry) (made : List NodeStep) (rest : List Entry)
    → list_all (λ s. list_all is_inner s.inside) made ≡ true
    → steps_behind before (flat_map step_entries made ++ rest)
    ≡ placed before made ++ steps_behind (before ++ flat_map step_entries made) rest
unfolding placed
steps_behind_made before [] rest clean = ap (λ w. steps_behind w rest) (sym (append-nil before))
steps_behind_made before (s ∷ ss) rest clean =
    let parts = and_parts (list_all is_inner s.inside) _ clean in
    let more : List Entry = flat_map step_entries ss in
    ap (λ w. steps_behind before w) (append_assoc (step_entries s) more rest)
    ∙ steps_behind_step before s (more ++ rest) parts.0
    ∙ ap (λ w. record { before = before; step = s } ∷ w) (steps_behind_made (before ++ step_entries s) ss rest parts.1)
    ∙ ap (λ w. record { before = before; step = s } ∷ (placed (before ++ step_entries s) ss ++ steps_behind w rest))
    (append_assoc before (step_entries s) more)

-- an empty journal has no steps
pub steps_nil : steps [] ≡ []
unfolding steps
steps_nil = refl

-- one more whole step behind whole steps is the last step
pub steps_more : (J : List Entry) (s : NodeStep) → IsWhole J → IsInside s.inside
    → steps (J ++ step_entries s) ≡ steps J ++ record { before = J; step = s } ∷ []
unfolding steps
steps_more J s whole clean =
    let made = whole.made in
    let front : List Entry = flat_map step_entries made in
    let one : List PlacedStep = record { before = J; step = s } ∷ [] in
    let whole_front : steps_behind [] J ≡ placed [] made =
    ap (steps_behind []) whole.joined
    ∙ ap (steps_behind []) (sym (append-nil front))
    ∙ steps_behind_made [] made [] whole.clean
    ∙ append-nil (placed [] made) in
    ap (λ w. steps_behind [] (w ++ step_entries s)) whole.joined
    ∙ steps_behind_made [] made (step_entries s) whole.clean
    ∙ ap (λ w. placed [] made ++ steps_behind w (step_entries s)) (sym whole.joined)
    ∙ ap (λ w. placed [] made ++ steps_behind J w) (sym (append-nil (step_entries s)))
    ∙ ap (λ w. placed [] made ++ w) (steps_behind_step J s [] clean)
    ∙ ap (λ w. w ++ one) (sym whole_front)

-- an empty journal is whole steps
pub IsWhole_nil : IsWhole []
IsWhole_nil = record { made = []; joined = refl; clean = refl }

-- one more whole step behind whole steps makes whole steps
pub IsWhole_more : (J : List Entry) (s : NodeStep) → IsWhole J → IsInside s.inside → IsWhole (J ++ step_entries s)
IsWhole_more J s whole clean =
    record {
      made = whole.made ++ s ∷ [];
      joined =
          ap (λ w. w ++ step_entries s) whole.joined
          ∙ ap (λ w. flat_map step_entries whole.made ++ w) (sym (append-nil (step_entries s)))
          ∙ sym (flat_map-append step_entries whole.made (s ∷ []));
      clean = list_all_more (λ t. list_all is_inner t.inside) whole.made s whole.clean clean;
    }
