-- What is shown of the lines of a generated script.
use Rattle.std.proofs.Common.{◌≡◌, ℕ, ◌≤◌, true, List, [], ◌∷◌, drop, take, refl, arith}
use Rattle.std.specs.List.{All, AllByRecursion}
use Rattle.std.specs.Prelude.{length, nat_le}
use Rattle.std.specs.Fmt.{decimal, digits}
use Rattle.std.proofs.lemmas.Bool.{leb-true}
use Rattle.std.proofs.lemmas.List.Elements.{All-from_recursion}
use Rattle.tipc_script.specs.declared.lines.Line.{Line}
use Rattle.tipc_script.specs.declared.lines.Line.TheVariants as line
use Rattle.tipc_script.specs.Grammar.{Asks, node_row, row_of}
use Rattle.tipc_script.specs.Grammar.Asks.{by_row}
use Rattle.tipc_load.specs.Clear.{IsClear, IsOneLine, has_no_newline}
use Rattle.tipc_load.specs.Load.{first_nodes, generated_lines, opening}
use Rattle.tipc_load.specs.Spelling.{spelling_of}
use Rattle.tipc_load.proofs.ClearLines.{IsSoundLine, sound_line}
use Rattle.tipc_load.proofs.LoadLines.{AreLoadLines, load_behind}

-- what holds of each sound line holds of these lines
each_sound : (P : Line → Type 0) → ((line : Line) → IsSoundLine line → P line) → (lines : List Line) → AreLoadLines lines → AllByRecursion P lines
each_sound P step [] h = tt
each_sound P step (line ∷ lines) h = (step line (sound_line line h.0), each_sound P step lines h.1)

-- what holds of the first four lines, and of each sound line, holds of all
whole : (P : Line → Type 0) → ((line : Line) → IsSoundLine line → P line) → P (line.Node 1) → P (line.Node 2) → P (line.Node 3) → P (line.Node 4) → (seed : ℕ) → All P (generated_lines seed)
unfolding opening
whole P step one two three four seed =
    All-from_recursion P (generated_lines seed) (one, (two, (three, (four, each_sound P step (drop 4 (generated_lines seed)) (load_behind seed)))))

-- a line that makes a node asks for it
node_asked : (node : ℕ) → 1 ≤ node → node ≤ 32 → Asks (spelling_of (line.Node node)) (line.Node node)
unfolding row_of
node_asked node low high = by_row node_row (decimal node ∷ []) (line.Node node) refl refl (node, [], (low, high), refl, (refl, refl))

pub all_asked : (seed : ℕ) → All (λ line. Asks (spelling_of line) line) (generated_lines seed)
all_asked seed =
    let one = node_asked 1 (omega arith) (omega arith) in
    let two = node_asked 2 (omega arith) (omega arith) in
    let three = node_asked 3 (omega arith) (omega arith) in
    let four = node_asked 4 (omega arith) (omega arith) in
    whole (λ line. Asks (spelling_of line) line) (λ line sound. sound.asked) one two three four seed

pub first_four : (seed : ℕ) → take 4 (generated_lines seed) ≡ first_nodes
unfolding opening
first_four seed = refl

pub clear_behind : (seed : ℕ) → All (λ line. IsClear (spelling_of line)) (drop 4 (generated_lines seed))
clear_behind seed =
    All-from_recursion (λ line. IsClear (spelling_of line)) (drop 4 (generated_lines seed)) (each_sound (λ line. IsClear (spelling_of line)) (λ line sound. sound.clear) (drop 4 (generated_lines seed)) (load_behind seed))

-- a text that is written out is one line
one_line : (text : List ℕ) → nat_le 1 (length text) ≡ true → nat_le (length text) 128 ≡ true → has_no_newline text ≡ true → IsOneLine text
one_line text some short plain = record { some = leb-true 1 (length text) some; short = leb-true (length text) 128 short; whole = plain }

pub all_whole : (seed : ℕ) → All (λ line. IsOneLine (spelling_of line)) (generated_lines seed)
unfolding digits
all_whole seed =
    whole (λ line. IsOneLine (spelling_of line)) (λ line sound. sound.whole) (one_line _ refl refl refl) (one_line _ refl refl refl) (one_line _ refl refl refl) (one_line _ refl refl refl) seed
