-- Standard input and output, and how often a call of theirs failed.
use Rattle.std.specs.Prelude.{ℕ, ◌+◌}
use Rattle.tipc_outside.specs.declared.standard.StdSink.{StdSink}
use Rattle.tipc_outside.specs.declared.standard.StdSource.{StdSource}

-- how many reads of a standard reader failed
abbrev pub failed_reads : {R : Type 0} → StdSource R → ℕ
failed_reads source = source.faults

-- how many writes to a standard writer failed, or took nothing of a piece that isn't empty
abbrev pub failed_writes : {W : Type 0} → StdSink W → ℕ
failed_writes sink = sink.faults + sink.stalls
