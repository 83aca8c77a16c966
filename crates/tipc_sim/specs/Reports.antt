-- What a run of a script writes.
use Rattle.std.specs.Prelude.{◌≡◌, ◌⊎◌, ℕ, ◌+◌, ◌≤◌, List, [], ◌++◌, Option, None, Some, length, slice_get, take}
use Rattle.tipc_script.specs.Faults.{Fault}
use Rattle.tipc_report.specs.Text.{bad_line, limit_line}
use Rattle.tipc_script.specs.Grammar.{asked}
use Rattle.tipc_world.specs.declared.faults.Limit.{Limit}
use Rattle.tipc_world.specs.Growth.{Grows}
use Rattle.tipc_world.specs.States.{WorldState}
use Rattle.tipc_sim.specs.declared.status.Status.{Status}
use Rattle.tipc_sim.specs.declared.status.Status.TheVariants as status
use Rattle.tipc_sim.specs.Happenings.{IsBegun, IsLimited, Runs, Scene, scene, which_of}
use Rattle.tipc_sim.specs.Lines.{lines_of}
use Rattle.tipc_sim.specs.Nodes.{AreSound, IsFirstBad, fault_where, made_by}
use Rattle.tipc_sim.specs.Noted.{no_notes}
use Rattle.tipc_sim.specs.Output.{EndsOver, WritesReport}

-- the closing line tells the first bad line, which follows the lines that were done
abbrev pub EndsBadly : List ℕ → ℕ → List ℕ → Type 0
EndsBadly script done closing = (fault : Fault) × IsFirstBad (lines_of script) done fault
    × (closing ≡ bad_line (done + 1) fault.0 fault.1)

-- a limit of the world stopped an event of the line that follows those that were done, which is without fault; the
-- closing line tells the limit
pub record EndsLimited (script : List ℕ) (done : ℕ) (left : Scene) (now : WorldState) (closing : List ℕ) : Type 0 where
  pub line : List ℕ
  pub there : slice_get (lines_of script) done ≡ Some line
  pub clear : fault_where (made_by (take done (lines_of script))) line ≡ None
  pub stop : Limit
  pub limited : IsLimited (asked line) left stop now
  pub told : closing ≡ limit_line (done + 1) (which_of stop)

-- the run ended early, with or without a closing line, and the world is the one that the lines left, but for the line
-- that met a limit
abbrev pub EndsEarly : List ℕ → ℕ → Scene → WorldState → List ℕ → Type 0
EndsEarly script done left now closing =
    ((closing ≡ []) × (now ≡ left.world))
    ⊎ ((EndsBadly script done closing × (now ≡ left.world)) ⊎ ((EndsOver script done closing × (now ≡ left.world)) ⊎ EndsLimited script done left now closing))

-- memory ran out at the line that follows those that were done, which is without fault: it was begun, and nothing is
-- told of it
pub record EndsUntold (script : List ℕ) (done : ℕ) (left : Scene) (now : WorldState) (closing : List ℕ) : Type 0 where
  pub line : List ℕ
  pub there : slice_get (lines_of script) done ≡ Some line
  pub clear : fault_where (made_by (take done (lines_of script))) line ≡ None
  pub begun : IsBegun (asked line) left now
  pub told : closing ≡ []

-- how the report of a script ends, behind the lines that were done, and what the world is then
abbrev pub Ends : Status → List ℕ → ℕ → Scene → WorldState → List ℕ → Type 0
Ends status.Ok script done left now closing = (done ≡ length (lines_of script)) × (closing ≡ []) × (now ≡ left.world)
Ends status.BadLine script done left now closing = EndsBadly script done closing × (now ≡ left.world)
Ends status.Limit script done left now closing = (EndsOver script done closing × (now ≡ left.world))
    ⊎ EndsLimited script done left now closing
Ends status.NoMemory script done left now closing = EndsUntold script done left now closing ⊎ EndsEarly script done left now closing
Ends other script done left now closing = EndsEarly script done left now closing

-- What a run of a script came to: its first lines were done, they are without fault, and what was written is a head,
-- their report from a number on, and a closing line. The world only grew after them.
pub record Reports (head : List ℕ) (from : ℕ) (script : List ℕ) (s : Status) (start now : WorldState) (before after : Option (List ℕ)) : Type 0 where
  pub done : ℕ
  pub few : done ≤ length (lines_of script)
  pub sound : AreSound (take done (lines_of script))
  pub left : Scene
  pub report : List ℕ
  pub runs : Runs from (scene start no_notes) (take done (lines_of script)) left report
  pub grown : Grows left.world now
  pub closing : List ℕ
  pub ends : Ends s script done left now closing
  pub written : WritesReport s before after (head ++ report) closing

-- a limit of the world stopped a line of a script
pub record ReachesLimit (from : ℕ) (script : List ℕ) (start now : WorldState) : Type 0 where
  pub done : ℕ
  pub left : Scene
  pub report : List ℕ
  pub runs : Runs from (scene start no_notes) (take done (lines_of script)) left report
  pub closing : List ℕ
  pub ends : EndsLimited script done left now closing
