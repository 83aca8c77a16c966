-- Courses of events, step by step.
use Rattle.std.proofs.Common.{◌≡◌, ℕ, ◌<◌, ◌≤◌, ◌+◌, zero, suc, Bool, true, false, None, Result, Ok, Err, refl, sym, subst, inl, inr, arith, if◌then◌else◌}
use Rattle.tipc_world.specs.declared.faults.WorldFault.{WorldFault}
use Rattle.tipc_world.specs.declared.places.Places.{Places}
use Rattle.tipc_world.specs.Courses.{Asks, Course, Goes, Halts, Maybe, Takes, TakesAll, TakesCounted, Then, begin, go_on}
use Rattle.tipc_world.specs.Ends.{ends_of}
use Rattle.tipc_world.specs.Settling.{Arrivals, Delivers, MakesRounds, Round, Rounds}
use Rattle.tipc_world.specs.States.{WorldState}

-- ---- numbers in order

-- whether one more event happened or not, counted behind others
counted_on : (made : Bool) (count more : ℕ) → (if made then count + more + 1 else count + more) ≡ count + (if made then more + 1 else more)
counted_on true count more = omega arith
counted_on false count more = refl

-- numbers were taken, and then those behind them
pub goes_joined : (asks : Asks) (first middle : ℕ) (start between : WorldState) (end count more : ℕ) (now : WorldState) → Goes asks first start middle count between → Goes asks middle between end more now
    → Goes asks first start end (count + more) now
goes_joined asks first middle start between end count more now front begin = subst (λ k. Goes asks first start middle k between) (omega arith) front
goes_joined asks first middle start between _ count _ _ front (go_on next more before made now goes taken) =
    subst (λ k. Goes asks first start (next + 1) k now) (counted_on made count more) (go_on next (count + more) before made now (goes_joined asks first middle start between next count more before front goes) taken)

-- likewise, and the next one was stopped
pub halts_joined : (asks : Asks) (first middle : ℕ) (start between : WorldState) (count : ℕ) (now : WorldState) (f : WorldFault) → Goes asks first start middle count between → Halts asks middle between f now → Halts asks first start f now
halts_joined asks first middle start between count now stop front halts = record {
  next = halts.next;
  count = count + halts.count;
  before = halts.before;
  goes = goes_joined asks first middle start between halts.next count halts.count halts.before front halts.goes;
  stopped = halts.stopped;
}

-- likewise, before an end
pub all_joined : (asks : Asks) (first middle near end : ℕ) (start between : WorldState) (count : ℕ) (now : WorldState) (f : WorldFault) → near ≤ end → Goes asks first start middle count between
    → TakesCounted asks middle near between (Err f) now → TakesAll asks first end start (Err f) now
all_joined asks first middle near end start between count now stop within front h = (
  record {
    next = h.0.next;
    count = count + h.0.count;
    before = h.0.before;
    goes = goes_joined asks first middle start between h.0.next count h.0.count h.0.before front h.0.goes;
    stopped = h.0.stopped;
  },
  omega (arith, h.1, within),
)

-- numbers that ask for nothing
pub goes_rest : (asks : Asks) (first : ℕ) (w : WorldState) (n : ℕ) → ((i : ℕ) → i < n → asks w (first + i) ≡ None) → Goes asks first w (first + n) 0 w
goes_rest asks first w zero rest = subst (λ k. Goes asks first w k 0 w) (omega arith) begin
goes_rest asks first w (suc n) rest =
    let front = goes_rest asks first w n (λ i below. rest i (omega (arith, below))) in
    let taken : Takes asks (first + n) w (Ok false) w = subst (λ o. Maybe o w (Ok false) w) (sym (rest n (omega arith))) (refl, refl) in
    subst (λ k. Goes asks first w k 0 w) (omega arith) (go_on (first + n) 0 w false w front taken)

-- the next number stopped
pub counted_halts : (asks : Asks) (first end : ℕ) (start : WorldState) (next count : ℕ) (before now : WorldState) (f : WorldFault) → next < end → Goes asks first start next count before → Takes asks next before (Err f) now
    → TakesCounted asks first end start (Err f) now
counted_halts asks first end start next count before now stop below goes stopped = (record { next = next; count = count; before = before; goes = goes; stopped = stopped }, below)

pub all_halts : (asks : Asks) (first end : ℕ) (start : WorldState) (next count : ℕ) (before now : WorldState) (f : WorldFault) → next < end → Goes asks first start next count before → Takes asks next before (Err f) now
    → TakesAll asks first end start (Err f) now
all_halts asks first end start next count before now stop below goes stopped = (record { next = next; count = count; before = before; goes = goes; stopped = stopped }, below)

-- ---- one course and then another

-- the first stopped
pub then_stopped : {A B : Type 0} (first : Course A) (second : Course B) (start now : WorldState) (f : WorldFault) → first start (Err f) now → Then first second start (Err f) now
then_stopped first second start now stop h = inl h

-- the first came to its end
pub then_came : {A B : Type 0} (first : Course A) (second : Course B) (start between now : WorldState) (a : A) (came : Result B WorldFault) → first start (Ok a) between → second between came now
    → Then first second start came now
then_came first second start between now a (Ok value) before after = (between, a, before, after)
then_came first second start between now a (Err stop) before after = inr (between, a, before, after)

-- ---- rounds

-- a frame of a round stopped
pub delivers_halt : (places ends : Places) (start now : WorldState) (f : WorldFault) → ends ≡ ends_of start.air → Arrivals places ends start (Err f) now → Delivers places start (Err f) now
delivers_halt places ends start now stop is came = subst (λ k. Arrivals places k start (Err stop) now) is came

-- a round stopped
pub settle_halts : (rounds : ℕ) (start : WorldState) (done : ℕ) (places : Places) (before now : WorldState) (f : WorldFault) → done < rounds → Rounds start done places before → Round places before (Err f) now
    → MakesRounds rounds start (Err f) now
settle_halts rounds start done places before now stop fewer made stopped = record { done = done; fewer = fewer; places = places; before = before; made = made; stopped = stopped }
