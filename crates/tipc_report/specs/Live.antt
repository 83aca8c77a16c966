-- The lines of the report of a live run.
use Rattle.std.specs.Prelude.{ℕ, List, [], ◌∷◌, ◌++◌, codes}
use Rattle.std.specs.Fmt.{decimal}
use Rattle.tipc_report.specs.declared.live.Verdict.{Verdict}
use Rattle.tipc_report.specs.declared.live.Verdict.TheVariants as verdict
use Rattle.tipc_report.specs.Closing.{spaced}

-- the first line: how many nodes, callers of each node, and messages of each caller
unfoldable pub plan_line : ℕ → ℕ → ℕ → List ℕ
plan_line nodes callers messages =
    spaced (codes "nodes" ∷ decimal nodes ∷ codes "callers" ∷ decimal callers ∷ codes "messages" ∷ decimal messages ∷ []) ++ 10 ∷ []

-- the words of a node: how many messages it accepted and delivered, and how many of its calls were answered
abbrev pub counts_words : ℕ → ℕ → ℕ → ℕ → List (List ℕ)
counts_words node accepted delivered calls =
    codes "node" ∷ decimal node ∷ codes "accepted" ∷ decimal accepted ∷ codes "delivered" ∷ decimal delivered ∷ codes "calls" ∷ decimal calls ∷ []

-- the line of a node
unfoldable pub counts_line : ℕ → ℕ → ℕ → ℕ → List ℕ
counts_line node accepted delivered calls = spaced (counts_words node accepted delivered calls) ++ 10 ∷ []

-- what the audit found
abbrev pub verdict_words : Verdict → List (List ℕ)
verdict_words verdict.Yes = codes "yes" ∷ []
verdict_words (verdict.Differ node place) = codes "differ" ∷ decimal node ∷ decimal place ∷ []
verdict_words (verdict.Twice stamp) = codes "twice" ∷ decimal stamp ∷ []
verdict_words (verdict.Told node caller call) = codes "told" ∷ decimal node ∷ decimal caller ∷ decimal call ∷ []
verdict_words (verdict.NoFrame node number) = codes "no-frame" ∷ decimal node ∷ decimal number ∷ []
verdict_words (verdict.TooOld node number count) = codes "too-old" ∷ decimal node ∷ decimal number ∷ decimal count ∷ []
verdict_words (verdict.Plan node) = codes "plan" ∷ decimal node ∷ []

-- the last line
unfoldable pub verdict_line : Verdict → List ℕ
verdict_line found = spaced (codes "audit" ∷ verdict_words found) ++ 10 ∷ []
