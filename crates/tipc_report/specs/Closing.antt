-- The words of the lines that end a report.
use Rattle.std.specs.Prelude.{ℕ, List, [], ◌∷◌, codes}
use Rattle.std.specs.List.{join_with_byte}
use Rattle.std.specs.Fmt.{decimal}
use Rattle.tipc_script.specs.declared.faults.LineWhy.{LineWhy}
use Rattle.tipc_script.specs.declared.faults.LineWhy.TheVariants as why
use Rattle.tipc_report.specs.declared.limits.Which.{Which}
use Rattle.tipc_report.specs.declared.limits.Which.TheVariants as limit

-- words with single spaces between them
abbrev pub spaced : List (List ℕ) → List ℕ
spaced words = join_with_byte 32 words

-- how the reason of a refused line is written
abbrev pub why_word : LineWhy → List ℕ
why_word why.Command = codes "command"
why_word why.Number = codes "number"
why_word why.Word = codes "word"
why_word why.Body = codes "body"
why_word why.End = codes "end"
why_word why.Node = codes "node"

-- what is written of a line that is refused
abbrev pub bad_text : ℕ → LineWhy → List ℕ
bad_text place reason = spaced (codes "bad" ∷ decimal place ∷ why_word reason ∷ [])

-- how a limit is written
abbrev pub limit_word : Which → List ℕ
limit_word limit.Bytes = codes "bytes"
limit_word limit.Lines = codes "lines"
limit_word limit.Events = codes "events"
limit_word limit.Frames = codes "frames"
limit_word limit.Journal = codes "journal"

-- how many there may be
abbrev pub limit_number : Which → ℕ
limit_number limit.Bytes = 16777216
limit_number limit.Lines = 65536
limit_number limit.Events = 300000
limit_number limit.Frames = 100000
limit_number limit.Journal = 1048576

-- what is written where a limit is reached
abbrev pub limit_text : Which → List ℕ
limit_text which = spaced (codes "limit" ∷ limit_word which ∷ decimal (limit_number which) ∷ [])
