-- What a run over frames writes: of each line the text of the frame that it spells.
use Rattle.std.specs.Prelude.{ℕ, ◌≡◌, ◌⊎◌, ◌+◌, ◌≤◌, All, if◌then◌else◌, List, [], ◌∷◌, ◌++◌, Option, None, Some, Result, Ok, Err, drop, length, slice_get, take}
use Rattle.std.specs.Io.KnownBytes.{Appends}
use Rattle.tipc_script.specs.declared.faults.LineWhy.TheVariants as why
use Rattle.tipc_script.specs.Kinds.{is_remark}
use Rattle.tipc_report.specs.declared.told.Told.TheVariants as told
use Rattle.tipc_report.specs.Text.{bad_line, told_line}
use Rattle.tipc_dissect.specs.Digits.{bad_place, spelled_frame}
use Rattle.tipc_dissect.specs.Frames.{text}
use Rattle.tipc_sim.specs.declared.status.Status.{Status}
use Rattle.tipc_sim.specs.declared.status.Status.TheVariants as status
use Rattle.tipc_sim.specs.Lines.{lines_of}
use Rattle.tipc_sim.specs.Output.{AppendsPart, EndsOver, WritesReport}

-- ---- one line

-- where a line isn't the spelling of a frame; an empty one and a remark aren't read as one
abbrev pub frame_fault : List ℕ → Option ℕ
frame_fault line = if is_remark line then None else bad_place line

-- what is told of a line without such a fault, under its number
abbrev pub dissected_line : ℕ → List ℕ → List ℕ
dissected_line number line = if is_remark line then told_line number told.Nothing else text number (spelled_frame line)

-- a line is a frame or a remark, and a text tells it
abbrev pub TellsFrame : ℕ → List ℕ → List ℕ → Type 0
TellsFrame number line told = (frame_fault line ≡ None) × (told ≡ dissected_line number line)

-- a line isn't, and a text tells where
abbrev pub TellsNone : ℕ → List ℕ → List ℕ → Type 0
TellsNone number line told = (place : ℕ) × (frame_fault line ≡ Some place) × (told ≡ bad_line number place why.Body)

-- what a line comes to, by what its run answers
abbrev pub LineDissects : Result (Unit {0}) Status → ℕ → List ℕ → Option (List ℕ) → Option (List ℕ) → Type 0
LineDissects (Ok done) number line before after = (told : List ℕ) × TellsFrame number line told × Appends before after told
LineDissects (Err status.BadLine) number line before after = (told : List ℕ) × TellsNone number line told × Appends before after told
LineDissects (Err status.WriteFault) number line before after =
    (told : List ℕ) × (TellsFrame number line told ⊎ TellsNone number line told) × AppendsPart before after told
LineDissects (Err status.NoMemory) number line before after =
    Appends before after [] ⊎ ((told : List ℕ) × (TellsFrame number line told ⊎ TellsNone number line told) × AppendsPart before after told)
LineDissects (Err other) number line before after = ⊥

-- ---- all lines

-- each of these lines is a frame or a remark
abbrev pub AreFrames : List (List ℕ) → Type 0
AreFrames lines = All (λ line. frame_fault line ≡ None) lines

-- what is told of lines, of which the first has this number
abbrev pub texts_from : ℕ → List (List ℕ) → List ℕ
texts_from number [] = []
texts_from number (line ∷ lines) = dissected_line number line ++ texts_from (number + 1) lines

-- so many lines of a source were told, and these bytes are left of it
pub record AreDissected (frames rest : List ℕ) (number : ℕ) (before after : Option (List ℕ)) : Type 0 where
  pub few : number ≤ length (lines_of frames)
  pub left : lines_of rest ≡ drop number (lines_of frames)
  pub clear : AreFrames (take number (lines_of frames))
  pub written : Appends before after (texts_from 1 (take number (lines_of frames)))

-- a line isn't a frame from this place on, and each before it is one or a remark
pub record IsFirstOther (lines : List (List ℕ)) (i place : ℕ) : Type 0 where
  pub before : AreFrames (take i lines)
  pub line : List ℕ
  pub there : slice_get lines i ≡ Some line
  pub bad : frame_fault line ≡ Some place

-- the closing line tells the first line that is no frame, which follows those that were told
abbrev pub EndsOther : List ℕ → ℕ → List ℕ → Type 0
EndsOther frames done closing = (place : ℕ) × IsFirstOther (lines_of frames) done place × (closing ≡ bad_line (done + 1) place why.Body)

-- how it ends, behind the lines that were told
abbrev pub DissectEnds : Status → List ℕ → ℕ → List ℕ → Type 0
DissectEnds status.Ok frames done closing = (done ≡ length (lines_of frames)) × (closing ≡ [])
DissectEnds status.BadLine frames done closing = EndsOther frames done closing
DissectEnds status.Limit frames done closing = EndsOver frames done closing
DissectEnds other frames done closing = (closing ≡ []) ⊎ (EndsOther frames done closing ⊎ EndsOver frames done closing)

-- What a run over frames came to: its first lines were told, each a frame or a remark, and what was written are their
-- texts, under their numbers, and a closing line.
pub record Dissects (frames : List ℕ) (s : Status) (before after : Option (List ℕ)) : Type 0 where
  pub done : ℕ
  pub few : done ≤ length (lines_of frames)
  pub clear : AreFrames (take done (lines_of frames))
  pub closing : List ℕ
  pub ends : DissectEnds s frames done closing
  pub written : WritesReport s before after (texts_from 1 (take done (lines_of frames))) closing

-- what the lines of a source may end with
abbrev pub IsDissectStatus : Status → Type 0
IsDissectStatus status.Ok = Unit {0}
IsDissectStatus status.BadLine = Unit {0}
IsDissectStatus status.WriteFault = Unit {0}
IsDissectStatus status.NoMemory = Unit {0}
IsDissectStatus other = ⊥
