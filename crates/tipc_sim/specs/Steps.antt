-- What one line of a script comes to, and the lines up to one.
use Rattle.std.specs.Prelude.{◌≡◌, ◌⊎◌, ℕ, ◌≤◌, List, [], Option, Some, None, Result, Ok, Err, length, take, drop}
use Rattle.std.specs.Io.KnownBytes.{Appends}
use Rattle.tipc_script.specs.declared.lines.Line.{Line}
use Rattle.tipc_script.specs.Grammar.{asked}
use Rattle.tipc_script.specs.Faults.{Fault}
use Rattle.tipc_report.specs.Text.{bad_line, limit_line}
use Rattle.tipc_report.specs.declared.told.Told.{Told}
use Rattle.tipc_world.specs.declared.faults.Limit.{Limit}
use Rattle.tipc_world.specs.States.{is_there}
use Rattle.tipc_sim.specs.declared.status.Status.{Status}
use Rattle.tipc_sim.specs.declared.status.Status.TheVariants as status
use Rattle.tipc_sim.specs.Happenings.{Happens, IsBegun, IsLimited, Runs, Scene, which_of, written_line}
use Rattle.tipc_sim.specs.Lines.{lines_of}
use Rattle.tipc_sim.specs.Nodes.{AreSound, fault_where, made_by}
use Rattle.tipc_sim.specs.Output.{AppendsPart}

-- a line was done, and a text is what is written of it
pub record IsAnswered (from number : ℕ) (line : Line) (old new : Scene) (text : List ℕ) : Type 0 where
  pub given : Told
  pub happened : Happens line old new given
  pub spelled : text ≡ written_line from number given

-- a line without fault was done, and a text is what is written of it
abbrev pub TellsAnswer : ℕ → ℕ → List ℕ → Scene → Scene → List ℕ → Type 0
TellsAnswer from number line old new text = (fault_where (is_there old.world) line ≡ None)
    × IsAnswered from number (asked line) old new text

-- a line has a fault, nothing was done, and a text tells the fault
abbrev pub TellsFault : ℕ → List ℕ → Scene → Scene → List ℕ → Type 0
TellsFault number line old new text = (fault : Fault) × (fault_where (is_there old.world) line ≡ Some fault)
    × (text ≡ bad_line number fault.0 fault.1) × (new ≡ old)

-- a line without fault was begun, a limit stopped one of its events, and a text tells the limit
abbrev pub TellsLimit : ℕ → List ℕ → Scene → Scene → List ℕ → Type 0
TellsLimit number line old new text =
    (stop : Limit) × (fault_where (is_there old.world) line ≡ None) × IsLimited (asked line) old stop new.world
    × (text ≡ limit_line number (which_of stop))

-- a line without fault was done, and what is to be written of it was written
pub record IsDone (from number : ℕ) (line : List ℕ) (old new : Scene) (before after : Option (List ℕ)) : Type 0 where
  pub text : List ℕ
  pub told : TellsAnswer from number line old new text
  pub written : Appends before after text

-- a line has a fault, nothing was done, and the line that tells the fault was written
pub record IsRefused (number : ℕ) (line : List ℕ) (old new : Scene) (before after : Option (List ℕ)) : Type 0 where
  pub text : List ℕ
  pub told : TellsFault number line old new text
  pub written : Appends before after text

-- a limit stopped a line without fault, and the line that tells the limit was written
pub record IsHalted (number : ℕ) (line : List ℕ) (old new : Scene) (before after : Option (List ℕ)) : Type 0 where
  pub text : List ℕ
  pub told : TellsLimit number line old new text
  pub written : Appends before after text

-- what a line comes to was written in part
pub record IsCut (from number : ℕ) (line : List ℕ) (old new : Scene) (before after : Option (List ℕ)) : Type 0 where
  pub text : List ℕ
  pub told : TellsAnswer from number line old new text
      ⊎ (TellsFault number line old new text ⊎ TellsLimit number line old new text)
  pub written : AppendsPart before after text

-- nothing was written of it: nothing of it happened, or it is without fault and was begun
pub record IsUntold (line : List ℕ) (old new : Scene) (before after : Option (List ℕ)) : Type 0 where
  pub begun : (new.world ≡ old.world)
      ⊎ ((fault_where (is_there old.world) line ≡ None) × IsBegun (asked line) old new.world)
  pub written : Appends before after []

-- what a line comes to, by what its run answers
abbrev pub LineRuns : Result (Unit {0}) Status → ℕ → ℕ → List ℕ → Scene → Scene → Option (List ℕ) → Option (List ℕ)
    → Type 0
LineRuns (Ok done) from number line old new before after = IsDone from number line old new before after
LineRuns (Err status.BadLine) from number line old new before after = IsRefused number line old new before after
LineRuns (Err status.Limit) from number line old new before after = IsHalted number line old new before after
LineRuns (Err status.WriteFault) from number line old new before after = IsCut from number line old new before after
LineRuns (Err status.NoMemory) from number line old new before after = IsUntold line old new before after
    ⊎ IsCut from number line old new before after
LineRuns (Err other) from number line old new before after = ⊥

-- so many lines of a script were done, and these bytes are left of it
pub record IsUnderWay (from : ℕ) (script rest : List ℕ) (number : ℕ) (start now : Scene) (before after : Option (List ℕ)) : Type 0 where
  pub few : number ≤ length (lines_of script)
  pub left : lines_of rest ≡ drop number (lines_of script)
  pub sound : AreSound (take number (lines_of script))
  pub nodes : (n : ℕ) → is_there now.world n ≡ made_by (take number (lines_of script)) n
  pub report : List ℕ
  pub runs : Runs from start (take number (lines_of script)) now report
  pub written : Appends before after report

-- what writing may end with
abbrev pub IsWriteStatus : Status → Type 0
IsWriteStatus status.WriteFault = Unit {0}
IsWriteStatus status.NoMemory = Unit {0}
IsWriteStatus other = ⊥

-- what telling a bad line may end with
abbrev pub IsBadStatus : Status → Type 0
IsBadStatus status.BadLine = Unit {0}
IsBadStatus status.WriteFault = Unit {0}
IsBadStatus status.NoMemory = Unit {0}
IsBadStatus other = ⊥

-- what the lines of a script may end with
abbrev pub IsLinesStatus : Status → Type 0
IsLinesStatus status.Ok = Unit {0}
IsLinesStatus status.BadLine = Unit {0}
IsLinesStatus status.Limit = Unit {0}
IsLinesStatus status.WriteFault = Unit {0}
IsLinesStatus status.NoMemory = Unit {0}
IsLinesStatus other = ⊥

-- what telling that a limit is reached may end with
abbrev pub IsLimitStatus : Status → Type 0
IsLimitStatus status.Limit = Unit {0}
IsLimitStatus status.WriteFault = Unit {0}
IsLimitStatus status.NoMemory = Unit {0}
IsLimitStatus other = ⊥
