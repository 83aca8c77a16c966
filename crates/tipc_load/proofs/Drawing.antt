-- What a draw makes of a state, the line of a drawn number, and the text of the drawn lines.
use Rattle.std.proofs.Common.{◌≡◌, ℕ, ◌+◌, ◌*◌, ◌/◌, ◌%◌, ◌<◌, ◌≤◌, suc, false, List, [], ◌∷◌, ◌++◌, refl, sym, ap, ◌∙◌, arith, append_assoc, append-nil, add-one}
use Rattle.std.specs.Prelude.{nat_le}
use Rattle.std.specs.List.{flat_map}
use Rattle.std.specs.Fmt.{decimal}
use Rattle.std.proofs.lemmas.Bool.{false_from_ne_true, le-leb, leb-true, ne_eqb}
use Rattle.std.proofs.lemmas.Fmt.{decimal_digit}
use Rattle.std.proofs.lemmas.Grind.{flat_map-append}
use Rattle.tipc_types.specs.declared.node_calls.EventNote.TheVariants as call
use Rattle.tipc_script.specs.declared.lines.Line.TheVariants as line
use Rattle.tipc_script.specs.Kinds.{pattern}
use Rattle.tipc_script.specs.Spelling.{body_word}
use Rattle.tipc_script.proofs.Bodies.{pattern_word}
use Rattle.tipc_load.specs.Load.{closing, drawn, drawn_line, drawn_lines, generated, line_text, next_state, opening, state_after}

-- a product and a sum that go round are one that goes round once
pub one_step : (state : ℕ) → ((state * 6364136223846793005) % 18446744073709551616 + 1442695040888963407) % 18446744073709551616 ≡ next_state state
one_step state = omega arith

-- a number of one digit, and the word of a body of the pattern
pub one_digit : decimal 1 ≡ 49 ∷ []
one_digit = decimal_digit 1 (omega arith)

pub star : (count : ℕ) → body_word (pattern count) ≡ 42 ∷ decimal count
star count = pattern_word count

-- what is less isn't at least as much
above : (a b : ℕ) → b < a → nat_le a b ≡ false
above a b lt = false_from_ne_true _ (λ e. omega (arith, leb-true a b e))

pub draws_receive : (v : ℕ) → 9 ≤ v % 16 → v % 16 ≤ 11 → drawn_line v ≡ line.Call (1 + v / 16 % 4) (call.Receive 1)
draws_receive v high low = rw (above (v % 16) 8 (omega arith), le-leb (v % 16) 11 low) refl

pub draws_settle : (v : ℕ) → 12 ≤ v % 16 → v % 16 ≤ 13 → drawn_line v ≡ line.Settle 1
draws_settle v high low = rw (above (v % 16) 8 (omega arith), above (v % 16) 11 (omega arith), le-leb (v % 16) 13 low) refl

pub draws_mend : (v : ℕ) → 14 < v % 16 → drawn_line v ≡ line.Call (1 + v / 16 % 4) (call.Mend (v / 2048 % 2))
draws_mend v high =
    rw (above (v % 16) 8 (omega arith), above (v % 16) 11 (omega arith), above (v % 16) 13 (omega arith), ne_eqb (v % 16) 14 (λ e. omega arith)) refl

-- nothing was drawn yet
pub drawn_none : (seed : ℕ) (front : List ℕ) → front ≡ front ++ flat_map line_text (drawn_lines 0 seed)
unfolding drawn_lines
drawn_none seed front = sym (append-nil front)

pub state_first : (seed : ℕ) → seed ≡ state_after 0 seed
unfolding state_after
state_first seed = refl

pub state_more : (count seed : ℕ) → next_state (state_after count seed) ≡ state_after (count + 1) seed
unfolding state_after
state_more count seed = ap (λ n. state_after n seed) (sym (add-one count))

-- the text of one drawn line more
pub drawn_more : (count seed : ℕ) (front text line : List ℕ) → text ≡ front ++ flat_map line_text (drawn_lines count seed) → line ≡ line_text (drawn_line (drawn (state_after (count + 1) seed)))
    → text ++ line ≡ front ++ flat_map line_text (drawn_lines (count + 1) seed)
unfolding drawn_lines
drawn_more count seed front text line before is =
    let next = drawn_line (drawn (state_after (suc count) seed)) in
    let more : flat_map line_text (drawn_lines (suc count) seed) ≡ flat_map line_text (drawn_lines count seed) ++ line_text next =
    flat_map-append line_text (drawn_lines count seed) (next ∷ []) ∙ ap (λ t. flat_map line_text (drawn_lines count seed) ++ t) (append-nil (line_text next)) in
    let last : line ≡ line_text next = is ∙ ap (λ n. line_text (drawn_line (drawn (state_after n seed)))) (add-one count) in
    ap (λ t. t ++ line) before ∙ append_assoc front (flat_map line_text (drawn_lines count seed)) line
    ∙ ap (λ t. front ++ (flat_map line_text (drawn_lines count seed) ++ t)) last ∙ ap (λ t. front ++ t) (sym more)
    ∙ ap (λ n. front ++ flat_map line_text (drawn_lines n seed)) (sym (add-one count))

-- the whole script
pub whole_script : (seed : ℕ) (text last : List ℕ) → text ≡ flat_map line_text opening ++ flat_map line_text (drawn_lines 1000 seed) → last ≡ flat_map line_text closing → text ++ last ≡ generated seed
unfolding generated
whole_script seed text last drawn-so is =
    let end = flat_map line_text (drawn_lines 1000 seed) in
    ap (λ t. t ++ last) drawn-so ∙ append_assoc (flat_map line_text opening) end last ∙ ap (λ t. flat_map line_text opening ++ (end ++ t)) is
    ∙ ap (λ t. flat_map line_text opening ++ t) (sym (flat_map-append line_text (drawn_lines 1000 seed) closing))
    ∙ sym (flat_map-append line_text opening (drawn_lines 1000 seed ++ closing))
