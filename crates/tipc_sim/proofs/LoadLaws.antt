-- A generated script is within the limits of a script, and no line of it has a fault.
use Rattle.std.proofs.Common.{◌≡◌, ℕ, zero, suc, ◌*◌, ◌<◌, ◌≤◌, Bool, true, false, None, Option, List, [], ◌∷◌, ◌++◌, length, drop, map, refl, sym, ap, subst, ◌∙◌, arith, append_assoc, append-nil}
use Rattle.std.specs.Fmt.{digits}
use Rattle.std.specs.List.{AllByRecursion, flat_map, onto_first, slice_split}
use Rattle.std.proofs.lemmas.Bool.{and_parts, not-true, or_right}
use Rattle.std.proofs.lemmas.List.{length-append, length-map}
use Rattle.std.proofs.lemmas.List.Elements.{recursion_from_All}
use Rattle.std.proofs.lemmas.List.Splits.{slice_split-cons_no}
use Rattle.tipc_script.specs.declared.lines.Line.{Line}
use Rattle.tipc_script.specs.declared.lines.Line.TheVariants as line
use Rattle.tipc_script.specs.declared.lines.NodeToken.{NodeToken}
use Rattle.tipc_script.specs.Kinds.{is_number}
use Rattle.tipc_script.specs.Grammar.{asked, nodes_of, row_of}
use Rattle.tipc_script.specs.Faults.{Fault, end_fault, fault_of, first_fault, row_fault}
use Rattle.tipc_load.specs.Clear.{AsksForOne, IsClear, IsOfFour, IsOneLine, has_no_newline}
use Rattle.tipc_load.specs.Load.{first_nodes, generated, generated_lines, line_text, opening}
use Rattle.tipc_load.specs.Spelling.{spelling_of}
use Rattle.tipc_load.proofs.LoadLines.{length-generated_lines}
use Rattle.tipc_load.proofs.Sound.{all_whole, clear_behind}
use Rattle.tipc_world.specs.States.{WorldState}
use Rattle.tipc_sim.specs.declared.status.Status.{Status}
use Rattle.tipc_sim.specs.declared.status.Status.TheVariants as status
use Rattle.tipc_sim.specs.Reports.{Reports}
use Rattle.tipc_sim.specs.Lines.{IsWithin, is_newline, lines_of, without_empty_end}
use Rattle.tipc_sim.specs.Nodes.{AreSound, IsFirstBad, fault_where, is_misplaced, made_by, makes, node_fault}
use Rattle.tipc_sim.proofs.LineLaws.{lines_of-nil}
use Rattle.tipc_sim.proofs.ReportLaws.{made_by_more, sound_more, sound_none}

-- ---- a script that is lines, each with its newline

-- the text before a newline is the first part
first_part : (text bytes : List ℕ) → has_no_newline text ≡ true → slice_split is_newline (text ++ 10 ∷ bytes) ≡ text ∷ slice_split is_newline bytes
first_part [] bytes none = refl
first_part (byte ∷ text) bytes none =
    let parts = and_parts _ _ none in
    slice_split-cons_no is_newline byte (text ++ 10 ∷ bytes) (not-true _ parts.0) ∙ ap (λ ps. onto_first byte ps) (first_part text bytes parts.1)

-- a part that isn't empty is a line, whatever follows
some_line : (text : List ℕ) (parts : List (List ℕ)) → 0 < length text → without_empty_end (text ∷ parts) ≡ text ∷ without_empty_end parts
some_line [] parts some = absurd (omega arith)
some_line (byte ∷ text) [] some = refl
some_line (byte ∷ text) (next ∷ parts) some = refl

-- a line and its newline are a line before the others
line_first : (text bytes : List ℕ) → IsOneLine text → lines_of ((text ++ 10 ∷ []) ++ bytes) ≡ text ∷ lines_of bytes
unfolding lines_of
line_first text bytes h =
    ap (λ bs. without_empty_end (slice_split is_newline bs)) (append_assoc text (10 ∷ []) bytes)
    ∙ ap without_empty_end (first_part text bytes h.whole) ∙ some_line text (slice_split is_newline bytes) h.some

-- how lines are spelled
abbrev spellings : List Line → List (List ℕ)
spellings lines = map (λ line. spelling_of line) lines

-- each is one line
abbrev AreOneLine : List Line → Type 0
AreOneLine lines = AllByRecursion (λ line. IsOneLine (spelling_of line)) lines

cut_again : (lines : List Line) → AreOneLine lines → lines_of (flat_map line_text lines) ≡ spellings lines
cut_again [] h = lines_of-nil
cut_again (line ∷ lines) h = line_first (spelling_of line) (flat_map line_text lines) h.0 ∙ ap (λ ls. spelling_of line ∷ ls) (cut_again lines h.1)

short_text : (lines : List Line) → AreOneLine lines → length (flat_map line_text lines) ≤ 129 * length lines
short_text [] h = omega arith
short_text (line ∷ lines) h =
    let first = length-append (spelling_of line) (10 ∷ []) in
    let whole = length-append (line_text line) (flat_map line_text lines) in
    omega (arith, h.0.short, first, whole, short_text lines h.1)

-- each generated line is one line
all_one_line : (seed : ℕ) → AreOneLine (generated_lines seed)
all_one_line seed = recursion_from_All (λ line. IsOneLine (spelling_of line)) (generated_lines seed) (all_whole seed)

lines_of_generated : (seed : ℕ) → lines_of (generated seed) ≡ spellings (generated_lines seed)
unfolding generated
lines_of_generated seed = cut_again (generated_lines seed) (all_one_line seed)

pub generated_within : (seed : ℕ) → IsWithin (generated seed)
unfolding generated
generated_within seed =
    let count = length-generated_lines seed in
    let lines : length (lines_of (generated seed)) ≡ 1060 = ap length (lines_of_generated seed) ∙ length-map (generated_lines seed) (λ line. spelling_of line) ∙ count in
    (omega (arith, short_text (generated_lines seed) (all_one_line seed), count), omega (arith, lines))

-- ---- its lines are without fault

-- nodes 1 to 4 are there
abbrev AreThere : (ℕ → Bool) → Type 0
AreThere there = (node : ℕ) → IsOfFour node → there node ≡ true

-- where they are there, no token is wrong that asks for one of them
none_misplaced : (there : ℕ → Bool) (tokens : List NodeToken) → AreThere there → AllByRecursion AsksForOne tokens → node_fault there tokens ≡ None
none_misplaced there [] four h = refl
none_misplaced there (token ∷ tokens) four h =
    let right : is_misplaced there token ≡ false = rw (h.0.0, four token.node h.0.1) refl in
    let more : node_fault there (token ∷ tokens) ≡ node_fault there tokens = rw right refl in
    more ∙ none_misplaced there tokens four h.1

-- a clear line is without fault there
no_fault : (there : ℕ → Bool) (text : List ℕ) → AreThere there → IsClear text → fault_where there text ≡ None
unfolding fault_where
no_fault there text four h =
    let nodes = none_misplaced there (nodes_of text) four (recursion_from_All AsksForOne (nodes_of text) h.nodes) in
    rw (h.fault, nodes) refl

-- the spellings of the first four lines
abbrev first_lines : List (List ℕ)
first_lines = spellings first_nodes

-- one line more leaves the nodes there
still_there : (lines : List (List ℕ)) (line : List ℕ) → AreThere (made_by lines) → AreThere (made_by (lines ++ line ∷ []))
still_there lines line four = λ node one. made_by_more lines line node ∙ or_right (makes (asked line) node) (made_by lines node) (four node one)

-- clear lines behind lines without fault
sound_behind : (front : List (List ℕ)) (lines : List Line) → AreSound front → AreThere (made_by front) → AllByRecursion (λ line. IsClear (spelling_of line)) lines → AreSound (front ++ spellings lines)
sound_behind front [] sound four h = subst AreSound (sym (append-nil front)) sound
sound_behind front (line ∷ lines) sound four h =
    let text = spelling_of line in
    subst AreSound (append_assoc front (text ∷ []) (spellings lines))
    (sound_behind (front ++ text ∷ []) lines (sound_more front text sound (no_fault (made_by front) text four h.0)) (still_there front text four) h.1)

-- the first four lines are without fault, and make nodes 1 to 4
first_sound : AreSound first_lines
unfolding fault_where made_by fault_of nodes_of asked row_of row_fault first_fault end_fault is_number digits
first_sound =
    let one = spelling_of (line.Node 1) in
    let two = spelling_of (line.Node 2) in
    let three = spelling_of (line.Node 3) in
    let four = spelling_of (line.Node 4) in
    sound_more (one ∷ two ∷ three ∷ []) four (sound_more (one ∷ two ∷ []) three (sound_more (one ∷ []) two (sound_more [] one sound_none refl) refl) refl) refl

first_there : AreThere (made_by first_lines)
unfolding made_by asked row_of digits
first_there zero h = absurd (omega (arith, h.0))
first_there (suc zero) h = refl
first_there (suc (suc zero)) h = refl
first_there (suc (suc (suc zero))) h = refl
first_there (suc (suc (suc (suc zero)))) h = refl
first_there (suc (suc (suc (suc (suc node))))) h = absurd (omega (arith, h.1))

pub generated_sound : (seed : ℕ) → AreSound (lines_of (generated seed))
unfolding opening
generated_sound seed =
    let behind = recursion_from_All (λ line. IsClear (spelling_of line)) (drop 4 (generated_lines seed)) (clear_behind seed) in
    subst AreSound (sym (lines_of_generated seed)) (sound_behind first_lines (drop 4 (generated_lines seed)) first_sound first_there behind)

-- so none of them is bad
never_bad : (seed i : ℕ) (fault : Fault) → IsFirstBad (lines_of (generated seed)) i fault → ⊥
never_bad seed i fault bad = let none = generated_sound seed i bad.line bad.there in let some = bad.bad in absurd cc

pub no_bad_line : {from : ℕ} (seed : ℕ) (s : Status) (start now : WorldState) (before after : Option (List ℕ)) → Reports [] from (generated seed) s start now before after → s ≡ status.BadLine → ⊥
no_bad_line {from} seed s start now before after reports is =
    let r = subst (λ t. Reports [] from (generated seed) t start now before after) is reports in
    never_bad seed r.done r.ends.0.0 r.ends.0.1
