-- What becomes of an air by a course, and a link that is stopped.
use Rattle.std.proofs.Common.{◌≡◌, ℕ, ◌≤◌, max, Bool, Option, Some, None, Ok, Err, length, ap, subst, sym, ◌∙◌, arith, false}
use Rattle.tipc_types.specs.declared.node_calls.Answer.{Answer}
use Rattle.tipc_types.specs.declared.node_calls.EventNote.TheVariants as call
use Rattle.tipc_replay.specs.declared.events.WorldEvent.{WorldEvent}
use Rattle.tipc_replay.specs.declared.events.WorldEvent.TheVariants as event
use Rattle.tipc_world.specs.declared.faults.WorldFault.{WorldFault}
use Rattle.tipc_world.specs.Courses.{Asks, Goes, Maybe, Once, begin, go_on}
use Rattle.tipc_replay.specs.Skies.{air_on}
use Rattle.tipc_replay.specs.States.{is_mended_at}
use Rattle.tipc_world.specs.States.{WorldState}
use Rattle.tipc_sim.specs.Meanings.{Links, LinksFrom, MendsCut, MendsIf}
use Rattle.tipc_sim.proofs.WorldLaws.{answered_few}

-- ---- the air

maybe_few : (bearer : ℕ) (asked : Option WorldEvent) (before : WorldState) (made : Bool) (now : WorldState) → Maybe asked before (Ok made) now → length (air_on bearer now.air) ≤ max 100000 (length (air_on bearer before.air))
maybe_few bearer None before made now h = omega (arith, ap (λ w. length (air_on bearer w.air)) h.1)
maybe_few bearer (Some event) before made now h = answered_few bearer before event now h.1.0 h.1.1.answered

-- what numbers ask for leaves the air of a bearer within the limit, or as long as it was
pub goes_few : (bearer : ℕ) (asks : Asks) (first : ℕ) (start : WorldState) (next count : ℕ) (now : WorldState) → Goes asks first start next count now → length (air_on bearer now.air) ≤ max 100000 (length (air_on bearer start.air))
goes_few bearer asks first start next count now begin = omega arith
goes_few bearer asks first start _ _ _ (go_on next count before made now goes taken) =
    omega (arith, goes_few bearer asks first start next count before goes, maybe_few bearer (asks before next) before made now taken)

-- ---- a link

-- a cut bearer of a node was mended
pub mends_cut_comes : (node bearer : ℕ) (start now : WorldState) (answer : Answer) (mended : Bool) → mended ≡ is_mended_at start.members node bearer → mended ≡ false
    → Once (event.Call node (call.Mend bearer)) start (Ok answer) now → MendsCut node bearer start (Ok tt) now
mends_cut_comes node bearer start now answer mended is cut h = subst (λ b. MendsIf b node bearer start (Ok tt) now) (sym cut ∙ is) (answer, h)

-- the event was stopped by which a cut bearer of a node is mended
pub mends_cut_halts : (node bearer : ℕ) (start now : WorldState) (f : WorldFault) (mended : Bool) → mended ≡ is_mended_at start.members node bearer → mended ≡ false → Once (event.Call node (call.Mend bearer)) start (Err f) now
    → MendsCut node bearer start (Err f) now
mends_cut_halts node bearer start now stop mended is cut h = subst (λ b. MendsIf b node bearer start (Err stop) now) (sym cut ∙ is) h

-- an event of a link stopped
pub links_halt : (first second bearer place : ℕ) (start now : WorldState) (f : WorldFault) → place ≡ length (air_on bearer start.air)
    → LinksFrom place first second bearer start (Err f) now → Links first second bearer start (Err f) now
links_halt first second bearer place start now stop is came = subst (λ k. LinksFrom k first second bearer start (Err stop) now) is came
