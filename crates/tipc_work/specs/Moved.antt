-- What a mover does with the frames of its node's two bearers, told by the numbers that its pass, the bearers and the
-- clock show.
use Rattle.std.specs.Prelude.{◌≡◌, ◌⊎◌, ◌+◌, ◌-◌, ◌^◌, ◌<◌, ◌≤◌, ◌++◌, ℕ, Bool, true, false, List, count_by, if◌then◌else◌}
use Rattle.tipc_types.specs.declared.node_calls.EventNote.{EventNote}
use Rattle.tipc_types.specs.declared.node_calls.EventNote.TheVariants.{Arrive, Tick}
use Rattle.tipc_outside.specs.Causes.{Rose, counted}
use Rattle.tipc_node_lock.specs.declared.passes.MadeCall.{MadeCall}
use Rattle.tipc_node_lock.specs.Locks.{LockState}
use Rattle.tipc_node_lock.specs.Passes.{PassState}
use Rattle.tipc_work.specs.declared.movers.Bearers.{Bearers}
use Rattle.tipc_work.specs.declared.movers.Mover.{Mover}
use Rattle.tipc_work.specs.Called.{IsSameCaller}
use Rattle.tipc_work.specs.Plans.{ShowsMover}
use Rattle.tipc_work.specs.Shown.{IsUsedPass, calls_made}

-- the last value of a count
abbrev pub last_count : ℕ
last_count = 2 ^ 64 - 1

-- whether a call is an arrival; and a tick
abbrev pub is_arrival : EventNote → Bool
is_arrival (Arrive bearer number) = true
is_arrival other = false

abbrev pub is_tick_call : EventNote → Bool
is_tick_call Tick = true
is_tick_call other = false

-- how many of a pass's calls are arrivals, and how many are ticks
abbrev pub arrivals_made : List MadeCall → ℕ
arrivals_made made = count_by (λ m. is_arrival m.call) made

abbrev pub ticks_made : List MadeCall → ℕ
ticks_made made = count_by (λ m. is_tick_call m.call) made

-- ---- behind a run

-- As many frames arrived by a mover's calls as the two bearers gave, but where its pass is marked full or a count
-- stands at its last value.
abbrev pub HearsAllGiven : {B : Type 0} → (B → ℕ) → B → B → PassState → B → B → Type 0
HearsAllGiven given first second p first' second' = p.full ≡ false → given first' < last_count → given second' < last_count
    → given first + given second + arrivals_made p.made ≡ given first' + given second'

-- As often was a bearer asked to send as the mover was handed a frame, but where a count stands at its last value.
abbrev pub SendsAllHanded : {B : Type 0} → (B → ℕ) → B → B → PassState → B → B → Type 0
SendsAllHanded tried first second p first' second' = p.handed < last_count → tried first' < last_count → tried second' < last_count
    → tried first + tried second + p.handed ≡ tried first' + tried second'

-- no count of faults fell; where a bearer was seen to fail, one of the two counts rose
pub record TellsFaults {B : Type 0} (faults : B → ℕ) (first second : B) (failed : Bool) (first' second' : B) : Type 0 where
  pub at_first : faults first ≤ faults first'
  pub at_second : faults second ≤ faults second'
  pub rose : failed ≡ true → Rose (faults first) (faults first') ⊎ Rose (faults second) (faults second')

-- A mover's pass and its node's two bearers behind a run: the pass shows that the bearers were mended first, or is
-- marked full.
pub record HasMoved {B : Type 0} (tried given faults : B → ℕ) (l : LockState) (caller : ℕ) (first second : B)
    (p : PassState) (failed : Bool) (first' second' : B) : Type 0 where
  pub used : IsUsedPass l caller p
  pub shows : (p.full ≡ true) ⊎ ShowsMover (calls_made p.made)
  pub heard : HearsAllGiven given first second p first' second'
  pub sent : SendsAllHanded tried first second p first' second'
  pub told : TellsFaults faults first second failed first' second'

-- ---- step by step

-- a count of a bearer that isn't at its last value wasn't there before
abbrev pub CountsOn : {B : Type 0} → (B → ℕ) → B → B → Type 0
CountsOn count b b' = count b' < last_count → count b < last_count

-- a look at a bearer, which gave a frame or not
pub record LooksAtBearer {B : Type 0} (tried given faults : B → ℕ) (b : B) (failed : Bool) (gave : Bool) (b' : B) (failed' : Bool) : Type 0 where
  pub sent : tried b' ≡ tried b
  pub heard : given b' ≡ (if gave then counted (given b) else given b)
  pub later : faults b ≤ faults b'
  pub rose : failed' ≡ true → (failed ≡ true) ⊎ Rose (faults b) (faults b')

-- a bearer was asked to send a frame
pub record AsksBearer {B : Type 0} (tried given faults : B → ℕ) (b : B) (failed : Bool) (b' : B) (failed' : Bool) : Type 0 where
  pub sent : tried b' ≡ counted (tried b)
  pub heard : given b' ≡ given b
  pub later : faults b ≤ faults b'
  pub rose : failed' ≡ true → (failed ≡ true) ⊎ Rose (faults b) (faults b')

-- The two bearers of a node gave so many frames and were asked to send so many, but where a count stands at its last
-- value.
pub record CarriesFrames {B : Type 0} (tried given faults : B → ℕ) (heard sent : ℕ) (b b' : Bearers B) : Type 0 where
  pub gave : given b'.first < last_count → given b'.second < last_count
      → given b.first + given b.second + heard ≡ given b'.first + given b'.second
  pub took : tried b'.first < last_count → tried b'.second < last_count
      → tried b.first + tried b.second + sent ≡ tried b'.first + tried b'.second
  pub gave_first : CountsOn given b.first b'.first
  pub gave_second : CountsOn given b.second b'.second
  pub took_first : CountsOn tried b.first b'.first
  pub took_second : CountsOn tried b.second b'.second
  pub at_first : faults b.first ≤ faults b'.first
  pub at_second : faults b.second ≤ faults b'.second
  pub rose : b'.failed ≡ true → (b.failed ≡ true) ⊎ (Rose (faults b.first) (faults b'.first) ⊎ Rose (faults b.second) (faults b'.second))

-- What a mover's steps make of it: its calls go on, and are as many arrivals as the bearers gave frames, but where its
-- pass is marked full; and the bearers were asked to send the frames that it was handed.
pub record CarriesOn {B C : Type 0} (tried given faults : B → ℕ) (m m' : Mover B C) : Type 0 where
  pub heard : ℕ
  pub sent : ℕ
  pub carries : CarriesFrames tried given faults heard sent m.bearers m'.bearers
  pub same : IsSameCaller m.pass m'.pass
  pub more : List MadeCall
  pub made : m'.pass.made ≡ m.pass.made ++ more
  pub arrived : m'.pass.full ≡ false → arrivals_made more ≡ heard
  pub handed : m'.pass.handed < last_count → m'.pass.handed ≡ m.pass.handed + sent

-- Time: the mover ticks once where its clock went on since it last looked, if the journal had room, and else not.
pub record TicksOnce {B C : Type 0} (last : C → ℕ) (m m' : Mover B C) : Type 0 where
  pub told : last m'.clock ≡ m'.time
  pub later : m.time ≤ m'.time
  pub still : m'.time ≡ m.time → ticks_made m'.pass.made ≡ ticks_made m.pass.made
  pub onward : m.time < m'.time → (m'.pass.full ≡ true) ⊎ (ticks_made m'.pass.made ≡ ticks_made m.pass.made + 1)

-- no tick passes, and the clock isn't read
pub record TicksNot {B C : Type 0} (m m' : Mover B C) : Type 0 where
  pub clock : m'.clock ≡ m.clock
  pub time : m'.time ≡ m.time
  pub ticks : ticks_made m'.pass.made ≡ ticks_made m.pass.made

-- a pass's calls go on, and none of them is an arrival
pub record CallsOn (p p' : PassState) : Type 0 where
  pub same : IsSameCaller p p'
  pub more : List MadeCall
  pub made : p'.made ≡ p.made ++ more
  pub none : arrivals_made more ≡ 0
  pub handed : p'.handed ≡ p.handed

-- the bearers aren't looked at, and the mover's calls go on, none of them an arrival
pub record CarriesNothing {B C : Type 0} (m m' : Mover B C) : Type 0 where
  pub bearers : m'.bearers ≡ m.bearers
  pub calls : CallsOn m.pass m'.pass

-- an unused mover mended bearer 0 and then bearer 1, or is marked full
pub record HasMended {B C : Type 0} (m m' : Mover B C) : Type 0 where
  pub carries : CarriesNothing m m'
  pub clock : (m'.clock ≡ m.clock) × (m'.time ≡ m.time)
  pub shows : (m'.pass.full ≡ true) ⊎ ShowsMover (calls_made m'.pass.made)
