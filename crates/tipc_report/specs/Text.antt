-- The lines of a report.
use Rattle.std.specs.Prelude.{ℕ, List, [], ◌∷◌, ◌++◌, codes}
use Rattle.std.specs.Fmt.{decimal}
use Rattle.tipc_script.specs.declared.faults.LineWhy.{LineWhy}
use Rattle.tipc_report.specs.declared.limits.Which.{Which}
use Rattle.tipc_report.specs.declared.told.Told.{Told}
use Rattle.tipc_report.specs.Closing.{bad_text, limit_text, spaced}
use Rattle.tipc_report.specs.Telling.{told_text}

-- a line: the number of the script's line, a space, a text and a newline
abbrev pub line_of : ℕ → List ℕ → List ℕ
line_of number text = decimal number ++ (32 ∷ text) ++ (10 ∷ [])

-- the line of what is told of a script's line
unfoldable pub told_line : ℕ → Told → List ℕ
told_line number told = line_of number (told_text told)

-- the last line, where the script's line is refused
unfoldable pub bad_line : ℕ → ℕ → LineWhy → List ℕ
bad_line number place why = line_of number (bad_text place why)

-- the last line, where a limit is reached
unfoldable pub limit_line : ℕ → Which → List ℕ
limit_line number which = line_of number (limit_text which)

-- the first line of the report of a generated script, with the number that it was made from
unfoldable pub seed_line : ℕ → List ℕ
seed_line seed = spaced (codes "gen" ∷ decimal seed ∷ []) ++ (10 ∷ [])
