-- What the rounds of a call make of a packet that was numbered on a link that is up, whatever was lost before: it is
-- released after four of them.
use Rattle.std.specs.Prelude.{◌≡◌, ◌≢◌, ◌⊎◌, ◌≤◌, ◌+◌, ◌*◌, ℕ, true, false}
use Rattle.tipc_types.specs.Limits.{window_size}
use Rattle.tipc_replay.specs.Sound.{IsNumber}
use Rattle.tipc_world.specs.declared.places.Places.{Places}
use Rattle.tipc_world.specs.Directions.{IsAwaited, IsReleased, HasBeenShown, WasNumbered, WasTaken, IsOnItsWay, StandsIn}
use Rattle.tipc_world.specs.Poised.{IsPoised}
use Rattle.tipc_world.specs.RoundParts.{IsKept, MoreRounds}
use Rattle.tipc_world.specs.Settling.{Rounds}
use Rattle.tipc_world.specs.States.{WorldState}
use Rattle.tipc_world.specs.StillWorlds.{footing_at}
use Rattle.tipc_link.specs.Sessions.{SessionEnd}

-- the link of node a to another node b on a bearer was up when the call began
pub record WasUp (start : WorldState) (a b bearer : ℕ) : Type 0 where
  pub here : IsNumber a
  pub there : IsNumber b
  pub apart : a ≢ b
  pub on_one : bearer ≤ 1
  pub up : (footing_at start a b).up bearer ≡ true

-- the receiver took the packet at a position, or was shown that it was numbered
abbrev pub IsKnown : ℕ → SessionEnd → Type 0
IsKnown position r = WasTaken position r ⊎ HasBeenShown position r

-- What one round makes of the packet at a position of node a's session with node b on a bearer. The receiver is shown
-- that it was numbered; it asks for it, and the packet is released, or was taken, or is sent again; it is taken; and it
-- is released. None of this is undone in a later round.
pub record RoundBrings (start : WorldState) (places : Places) (outset : WorldState) (ends : Places) (now : WorldState) (a b bearer position : ℕ) : Type 0 where
  pub shows : StandsIn outset (IsAwaited position) a b bearer → StandsIn now (IsKnown position) b a bearer
  pub asks : StandsIn outset (IsAwaited position) a b bearer → StandsIn outset (IsKnown position) b a bearer
      → StandsIn now (IsReleased position) a b bearer ⊎ (StandsIn now (WasTaken position) b a bearer ⊎ IsOnItsWay start ends now a b bearer position)
  pub takes : StandsIn outset (IsAwaited position) a b bearer → StandsIn outset (WasTaken position) b a bearer ⊎ IsOnItsWay start places outset a b bearer position
      → StandsIn now (WasTaken position) b a bearer
  pub releases : StandsIn outset (WasTaken position) b a bearer → StandsIn now (IsReleased position) a b bearer
  pub lasts : StandsIn outset (IsReleased position) a b bearer → StandsIn now (IsReleased position) a b bearer
  pub due : StandsIn outset (IsAwaited position) a b bearer → StandsIn now (IsAwaited position) a b bearer

-- So four rounds release the first packet that isn't acknowledged, and each before it.
abbrev pub FourRoundsRelease : Type 0
FourRoundsRelease = (start : WorldState) (done : ℕ) (places : Places) (outset : WorldState) (ends : Places) (now : WorldState) (a b bearer position : ℕ)
    → IsKept start → IsPoised start → Rounds start done places outset → MoreRounds done places outset (done + 4) ends now → now.lost ≡ false
    → WasUp start a b bearer → StandsIn outset (IsAwaited position) a b bearer → StandsIn now (IsReleased position) a b bearer

-- So four rounds for each packet of a window release whatever was numbered.
abbrev pub WindowsAreReleased : Type 0
WindowsAreReleased = (start : WorldState) (done : ℕ) (places : Places) (outset : WorldState) (ends : Places) (now : WorldState) (a b bearer position : ℕ)
    → IsKept start → IsPoised start → Rounds start done places outset → MoreRounds done places outset (done + 4 * window_size) ends now
    → now.lost ≡ false → WasUp start a b bearer → StandsIn outset (WasNumbered position) a b bearer → StandsIn now (IsReleased position) a b bearer
