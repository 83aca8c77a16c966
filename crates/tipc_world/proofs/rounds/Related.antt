-- Rounds whose events keep a relation of all nodes and of what is in the air, beside what they keep of each node and of
-- each frame.
use Rattle.std.proofs.Common.{◌≡◌, ◌≤◌, ◌*◌, ℕ, false, [], length, inl, inr, sym, subst, arith}
use Rattle.std.specs.Prelude.{◌/◌}
use Rattle.tipc_types.specs.declared.node_calls.Answer.{Answer}
use Rattle.tipc_types.specs.declared.node_calls.EventNote.TheVariants as call
use Rattle.tipc_replay.specs.declared.air.Sent.{Sent}
use Rattle.tipc_replay.specs.declared.events.WorldEvent.TheVariants.{Call}
use Rattle.tipc_replay.specs.States.{MemberState}
use Rattle.tipc_replay.proofs.frames.Reaching.{placed}
use Rattle.tipc_world.specs.declared.places.Places.{Places}
use Rattle.tipc_world.specs.declared.settling.Receivers.TheVariants.{Any}
use Rattle.tipc_world.specs.Courses.{Goes, numbers}
use Rattle.tipc_world.specs.Ends.{place_on, AreBefore}
use Rattle.tipc_world.specs.RoundParts.{EachNode, FrameArrives, Guards, HappensWhole, IsRound, SettlesOn}
use Rattle.tipc_world.specs.Settling.{arrival_asked, tick_asked}
use Rattle.tipc_world.specs.States.{WorldState}
use Rattle.tipc_world.proofs.rounds.Events.{arrive_either, tick_either}
use Rattle.tipc_world.proofs.rounds.Guarded.{ArrivalsGuarded, BeforeTick, TicksGuarded, no_tick, one_arrival, one_tick, place_there, same_guarded}
use Rattle.tipc_world.proofs.rounds.Keeping.{arrival_on, tick_on}
use Rattle.tipc_world.proofs.rounds.Parts.{goes_keep, goes_whole, takes_whole}

-- What a tick keeps where its node is ready for it, and what the arrival of a frame keeps that is so.
abbrev pub TicksRelate : WorldState → Places → (P ready : ℕ → MemberState → Type 0) → (ℕ → Sent → Type 0) → (WorldState → Type 0) → Type 0
TicksRelate start from P ready F R = (old new : WorldState) (node : ℕ) (answered : Answer) (h : HappensWhole old new (Call node call.Tick) [] answered) → Guards start from P F old → SettlesOn old new
    → ready node h.before → R old → R new

abbrev pub ArrivalsRelate : WorldState → Places → (ℕ → MemberState → Type 0) → (ℕ → Sent → Type 0) → (WorldState → Type 0) → Type 0
ArrivalsRelate start from P F R = (old new : WorldState) (a : FrameArrives from old new) → Guards start from P F old → SettlesOn old new → F a.bearer a.frame → R old → R new

-- all is guarded, and the relation holds
pub record Relates (start : WorldState) (from : Places) (P : ℕ → MemberState → Type 0) (F : ℕ → Sent → Type 0) (R : WorldState → Type 0) (w : WorldState) : Type 0 where
  pub guards : Guards start from P F w
  pub related : R w

-- before the tick of a number
record Before (start : WorldState) (from : Places) (P ready : ℕ → MemberState → Type 0) (F : ℕ → Sent → Type 0) (R : WorldState → Type 0) (number : ℕ) (w : WorldState) : Type 0 where
  ticks : BeforeTick start from P ready F number w
  related : R w

pub ticks_related : (start : WorldState) (from : Places) (P ready : ℕ → MemberState → Type 0) (F : ℕ → Sent → Type 0) (R : WorldState → Type 0) (outset : WorldState) (count : ℕ) (now : WorldState) → TicksGuarded start from P ready F
    → TicksRelate start from P ready F R → Goes tick_asked 1 outset numbers count now → now.lost ≡ false → Relates start from P F R outset → EachNode ready outset → Relates start from P F R now
ticks_related start from P ready F R outset count now each relates goes whole g all =
    let last = goes_keep tick_asked (Before start from P ready F R) 1 outset numbers count now
    (λ number before made after above below taken clear b.
    let was_clear = takes_whole tick_asked number before made after taken clear in
    let ready_now = b.ticks in
    elim (tick_either number before made after taken clear) [
      | inl same ↦ record { ticks = no_tick start from P ready F number before after same ready_now; related = subst R (sym same) b.related }
      | inr ticked ↦ record {
        ticks = one_tick start from P ready F number before after ticked.0 each was_clear ticked.1 ready_now;
        related = relates before after number ticked.0 ticked.1 ready_now.guards (tick_on before after number ticked.0 was_clear ticked.1) (ready_now.later number ticked.1.before (omega arith) ticked.1.was) b.related;
      }
    ])
    goes whole (record { ticks = record { guards = g.guards; later = λ n m above there. all n m there }; related = g.related }) in
    let ticks_done = last.ticks in
    record { guards = ticks_done.guards; related = last.related }

pub arrivals_related : (start : WorldState) (from : Places) (P : ℕ → MemberState → Type 0) (F : ℕ → Sent → Type 0) (R : WorldState → Type 0) (bearer first : ℕ) (outset : WorldState) (end count : ℕ) (now : WorldState) → bearer ≤ 1
    → place_on bearer from ≤ first / numbers → ArrivalsGuarded start from P F → ArrivalsRelate start from P F R → Goes (arrival_asked Any bearer) first outset end count now → now.lost ≡ false → Relates start from P F R outset
    → Relates start from P F R now
arrivals_related start from P F R bearer first outset end count now on_one behind each relates goes whole g = goes_keep (arrival_asked Any bearer) (λ number. Relates start from P F R) first outset end count now
    (λ number before made after above below taken clear h.
    let was_clear = takes_whole (arrival_asked Any bearer) number before made after taken clear in
    let at : first / numbers ≤ number / numbers = omega (arith, above) in
    let guards = h.guards in
    elim (arrive_either from bearer number before made after on_one (omega (arith, behind, at)) taken clear) [
      | inl same ↦ record { guards = same_guarded start from P F before after same guards; related = subst R (sym same) h.related }
      | inr arrived ↦ record {
        guards = one_arrival start from P F before after each was_clear arrived guards;
        related = relates before after arrived guards (arrival_on from before after was_clear arrived)
            (guards.frames arrived.bearer arrived.place arrived.frame arrived.on_one arrived.behind (placed before.air arrived.node arrived.bearer arrived.place arrived.frame arrived.found).0) h.related;
      }
    ]) goes whole g

-- after the ticks, between the arrivals, and after the round
pub record RoundRelates (start : WorldState) (from : Places) (P : ℕ → MemberState → Type 0) (F : ℕ → Sent → Type 0) (R : WorldState → Type 0) (ticked between now : WorldState) : Type 0 where
  pub ticks : Relates start from P F R ticked
  pub middle : Relates start from P F R between
  pub round : Relates start from P F R now

pub round_related : (start : WorldState) (from : Places) (P ready : ℕ → MemberState → Type 0) (F : ℕ → Sent → Type 0) (R : WorldState → Type 0) (places : Places) (outset : WorldState) (ends : Places) (now : WorldState)
    → TicksGuarded start from P ready F → ArrivalsGuarded start from P F → TicksRelate start from P ready F R → ArrivalsRelate start from P F R → AreBefore from places → (r : IsRound places outset ends now) → now.lost ≡ false
    → Relates start from P F R outset → EachNode ready outset → RoundRelates start from P F R r.ticked r.between now
round_related start from P ready F R places outset ends now ticks arrivals tick_relates arrival_relates behind r whole g all =
    let clear_between = goes_whole _ _ r.between _ _ now r.second_part whole in
    let clear_ticked = goes_whole _ _ r.ticked _ _ r.between r.first_part clear_between in
    let ticked = ticks_related start from P ready F R outset r.ticks r.ticked ticks tick_relates r.tick_part clear_ticked g all in
    let between = arrivals_related start from P F R 0 (numbers * places.first) r.ticked (numbers * length r.ticked.air.first) r.arrivals r.between (omega arith) (place_there places.first from.first behind.0) arrivals arrival_relates r.first_part
    clear_between ticked in
    record {
      ticks = ticked;
      middle = between;
      round = arrivals_related start from P F R 1 (numbers * places.second) r.between (numbers * length r.ticked.air.second) r.others now (omega arith) (place_there places.second from.second behind.1) arrivals arrival_relates r.second_part whole between;
    }
