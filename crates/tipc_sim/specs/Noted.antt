-- What a script keeps beside the world.
use Rattle.std.specs.Prelude.{ℕ}
use Rattle.tipc_world.specs.declared.places.Places.{Places}
use Rattle.tipc_world.specs.Ends.{first_frames, with_place}

-- the places in the air of both bearers that the script calls 0, and those of the next frames that are pumped
pub record NotesState : Type 0 where
  pub bases : Places
  pub places : Places

-- before the first line: frames count from the first one, and none is pumped
abbrev pub no_notes : NotesState
no_notes = record { bases = first_frames; places = first_frames }

-- frames are counted, and pumped, from these places on
abbrev pub marked : Places → NotesState
marked ends = record { bases = ends; places = ends }

-- the frames before these places were pumped
abbrev pub pumped_to : NotesState → Places → NotesState
pumped_to s places = record s { places = places }

-- the frames of a bearer before this place were pumped
abbrev pub pumped : NotesState → ℕ → ℕ → NotesState
pumped s bearer place = pumped_to s (with_place s.places bearer place)
