-- A source that isn't read to its end, or is over the limits of a script.
use Rattle.std.specs.Prelude.{ℕ, ◌≡◌, ◌⊎◌, ◌<◌, ◌≤◌, List, [], Option, length}
use Rattle.std.specs.Io.KnownBytes.{Appends}
use Rattle.tipc_sim.specs.declared.reading.ReadStop.{ReadStop}
use Rattle.tipc_sim.specs.declared.reading.ReadStop.TheVariants as stop
use Rattle.tipc_sim.specs.declared.status.Status.{Status}
use Rattle.tipc_sim.specs.declared.status.Status.TheVariants as status
use Rattle.tipc_sim.specs.Lines.{lines_of}
use Rattle.tipc_sim.specs.Output.{AppendsPart, EndsOver}

-- what is so of the bytes of a source where this stopped its reading
abbrev pub StopsReading : ReadStop → List ℕ → Type 0
StopsReading stop.TooLong bytes = 16777216 < length bytes
StopsReading stop.TooMany bytes = (length bytes ≤ 16777216) × (65536 < length (lines_of bytes))
StopsReading other bytes = Unit {0}

-- how a run may end whose source isn't read
abbrev pub IsUnreadStatus : Status → Type 0
IsUnreadStatus status.ReadFault = Unit {0}
IsUnreadStatus status.Limit = Unit {0}
IsUnreadStatus status.WriteFault = Unit {0}
IsUnreadStatus status.NoMemory = Unit {0}
IsUnreadStatus other = ⊥

-- the line of a limit was written in part
abbrev pub CutsLimit : List ℕ → Option (List ℕ) → Option (List ℕ) → Type 0
CutsLimit script before after = (closing : List ℕ) × EndsOver script 0 closing × AppendsPart before after closing

-- what is written then: at a limit its line, or a part of that where the sink or memory gives out, and else nothing
abbrev pub EndsUnread : Status → List ℕ → Option (List ℕ) → Option (List ℕ) → Type 0
EndsUnread status.ReadFault script before after = Appends before after []
EndsUnread status.Limit script before after = (closing : List ℕ) × EndsOver script 0 closing × Appends before after closing
EndsUnread status.WriteFault script before after = CutsLimit script before after
EndsUnread status.NoMemory script before after = Appends before after [] ⊎ CutsLimit script before after
EndsUnread other script before after = ⊥
