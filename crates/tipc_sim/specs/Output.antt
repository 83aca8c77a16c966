-- What a sink holds after a part of a text was written, or a report with its closing line.
use Rattle.std.specs.Prelude.{ℕ, ◌≡◌, ◌⊎◌, ◌<◌, ◌≤◌, List, [], ◌++◌, Option, length, take}
use Rattle.std.specs.Io.KnownBytes.{Appends}
use Rattle.tipc_report.specs.Text.{limit_line}
use Rattle.tipc_report.specs.declared.limits.Which.TheVariants as which
use Rattle.tipc_sim.specs.declared.status.Status.{Status}
use Rattle.tipc_sim.specs.declared.status.Status.TheVariants as status
use Rattle.tipc_sim.specs.Lines.{lines_of}

-- a front of a text was written, and not all of it
abbrev pub AppendsPart : Option (List ℕ) → Option (List ℕ) → List ℕ → Type 0
AppendsPart before after text = (count : ℕ) × (count < length text) × Appends before after (take count text)

-- what was written of a report and its closing line: all at these statuses, a part at WriteFault, and at the others a
-- part, or all of a report that has no closing line
abbrev pub WritesReport : Status → Option (List ℕ) → Option (List ℕ) → List ℕ → List ℕ → Type 0
WritesReport status.Ok before after report closing = Appends before after (report ++ closing)
WritesReport status.BadLine before after report closing = Appends before after (report ++ closing)
WritesReport status.Limit before after report closing = Appends before after (report ++ closing)
WritesReport status.WriteFault before after report closing = AppendsPart before after (report ++ closing)
WritesReport other before after report closing = AppendsPart before after (report ++ closing)
    ⊎ ((closing ≡ []) × Appends before after report)

-- a script has too many bytes, or else too many lines; the closing line tells which, and nothing was done
abbrev pub EndsOver : List ℕ → ℕ → List ℕ → Type 0
EndsOver script done closing =
    (done ≡ 0)
    × (((16777216 < length script) × (closing ≡ limit_line 0 which.Bytes))
    ⊎ ((length script ≤ 16777216) × (65536 < length (lines_of script)) × (closing ≡ limit_line 0 which.Lines)))
