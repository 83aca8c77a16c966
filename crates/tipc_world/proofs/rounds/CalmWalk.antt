-- What each tick and each arrival of a calm world keeps, a whole call keeps that began in a poised one.
use Rattle.std.proofs.Common.{◌≡◌, ◌≤◌, ◌+◌, ◌*◌, ◌∙◌, ℕ, false, [], Some, None, Ok, length, slice_index_or, inl, inr, sym, ap, subst, arith}
use Rattle.std.specs.Prelude.{◌/◌}
use Rattle.tipc_types.specs.declared.node_calls.Answer.{Answer}
use Rattle.tipc_types.specs.declared.node_calls.EventNote.TheVariants as note
use Rattle.tipc_replay.specs.declared.events.WorldEvent.TheVariants.{Arrive, Call}
use Rattle.tipc_replay.specs.States.{MemberState}
use Rattle.tipc_replay.proofs.frames.Reaching.{placed}
use Rattle.tipc_world.specs.declared.places.Places.{Places}
use Rattle.tipc_world.specs.declared.settling.Receivers.TheVariants.{Any}
use Rattle.tipc_world.specs.CalmWorlds.{IsCalmNode, IsCalmWorld, IsFromMended}
use Rattle.tipc_world.specs.Courses.{Goes, numbers}
use Rattle.tipc_world.specs.Ends.{ends_of, place_on}
use Rattle.tipc_world.specs.Poised.{IsPoised}
use Rattle.tipc_world.specs.RoundParts.{EachNode, FrameArrives, HappensWhole, IsKept}
use Rattle.tipc_world.specs.Settling.{Round, Rounds, arrival_asked, tick_asked}
use Rattle.tipc_world.specs.States.{WorldState}
use Rattle.tipc_world.specs.StillWorlds.{HasHeardAll}
use Rattle.tipc_world.proofs.rounds.CalmWorlds.{calm_arrival, calm_tick}
use Rattle.tipc_world.proofs.rounds.Events.{arrive_either, tick_either}
use Rattle.tipc_world.proofs.rounds.Guarded.{guarded_on, place_there}
use Rattle.tipc_world.proofs.rounds.HeardWorlds.{call_stays_calm}
use Rattle.tipc_world.proofs.rounds.Keeping.{arrival_on, other_stays, tick_on}
use Rattle.tipc_world.proofs.rounds.Parts.{goes_keep, goes_whole, takes_whole}
use Rattle.tipc_world.proofs.rounds.RoundParts.{round_parts, round_whole, rounds_keep}
use Rattle.tipc_world.proofs.rounds.Walking.{settling_goes_on}

-- ---- what is kept

-- in a calm world, by a tick of a node that has heard all others
abbrev pub CalmTicksKeep : WorldState → (WorldState → Type 0) → Type 0
CalmTicksKeep start K = (old new : WorldState) (node : ℕ) (answered : Answer) (h : HappensWhole old new (Call node note.Tick) [] answered) → IsCalmWorld start old → HasHeardAll node h.before → K old → K new

-- and by an arrival
abbrev pub CalmArrivalsKeep : WorldState → (WorldState → Type 0) → Type 0
CalmArrivalsKeep start K = (old new : WorldState) (a : FrameArrives (ends_of start.air) old new) → IsCalmWorld start old → IsFromMended start a.bearer a.frame → K old → K new

-- a calm world that has it
record Has (start : WorldState) (K : WorldState → Type 0) (w : WorldState) : Type 0 where
  calm : IsCalmWorld start w
  has : K w

-- ---- ticks

record BeforeTick (start : WorldState) (K : WorldState → Type 0) (number : ℕ) (w : WorldState) : Type 0 where
  so : Has start K w
  later : (n : ℕ) (m : MemberState) → number ≤ n → slice_index_or w.members n None ≡ Some m → HasHeardAll n m

one_tick : (start : WorldState) (K : WorldState → Type 0) (number : ℕ) (old new : WorldState) (answered : Answer) → IsKept start → CalmTicksKeep start K → old.lost ≡ false → HappensWhole old new (Call number note.Tick) [] answered → BeforeTick start K number old
    → BeforeTick start K (number + 1) new
one_tick start K number old new answered kept each clear h b =
    let next = tick_on old new number answered clear h in
    let ready = b.later number h.before (omega arith) h.was in
    let stays = calm_tick start kept old new number answered h b.so.calm next ready in
    record {
      so = record {
        calm = guarded_on start (ends_of start.air) (IsCalmNode start) (IsFromMended start) old new (Call number note.Tick) [] answered h b.so.calm next stays;
        has = each old new number answered h b.so.calm ready b.so.has;
      };
      later = λ n m above there. b.later n m (omega (arith, above)) (sym (other_stays old new (Call number note.Tick) [] answered h n (λ same. let wrong : ⊥ = omega (arith, above, same) in wrong)) ∙ there);
    }

no_tick : (start : WorldState) (K : WorldState → Type 0) (number : ℕ) (old new : WorldState) → new ≡ old → BeforeTick start K number old → BeforeTick start K (number + 1) new
no_tick start K number old new same b = record {
  so = subst (Has start K) (sym same) b.so;
  later = λ n m above there. b.later n m (omega (arith, above)) (sym (ap (λ (w : WorldState). slice_index_or w.members n None) same) ∙ there);
}

ticks_have : (start : WorldState) (K : WorldState → Type 0) (outset : WorldState) (count : ℕ) (now : WorldState) → IsKept start → CalmTicksKeep start K → Goes tick_asked 1 outset numbers count now → now.lost ≡ false → Has start K outset → EachNode HasHeardAll outset → Has start K now
ticks_have start K outset count now kept each goes whole so heard =
    let last = goes_keep tick_asked (BeforeTick start K) 1 outset numbers count now
    (λ number before made after above below taken clear b.
    let was_clear = takes_whole tick_asked number before made after taken clear in
    elim (tick_either number before made after taken clear) [
      | inl same ↦ no_tick start K number before after same b
      | inr ticked ↦ one_tick start K number before after ticked.0 kept each was_clear ticked.1 b
    ])
    goes whole (record { so = so; later = λ n m above there. heard n m there }) in
    last.so

-- ---- arrivals

one_arrival : (start : WorldState) (K : WorldState → Type 0) → IsKept start → IsPoised start → CalmArrivalsKeep start K → (old new : WorldState) → old.lost ≡ false → FrameArrives (ends_of start.air) old new → Has start K old → Has start K new
one_arrival start K kept poised each old new clear a so =
    let h = a.arrives in
    let next = arrival_on (ends_of start.air) old new clear a in
    let said = so.calm.frames a.bearer a.place a.frame a.on_one a.behind (placed old.air a.node a.bearer a.place a.frame a.found).0 in
    let stays = calm_arrival start kept poised old new a so.calm next said in
    record {
      calm = guarded_on start (ends_of start.air) (IsCalmNode start) (IsFromMended start) old new (Arrive a.node a.bearer a.place) a.frame.frame a.answered h so.calm next stays;
      has = each old new a so.calm said so.has;
    }

arrivals_have : (start : WorldState) (K : WorldState → Type 0) (bearer from : ℕ) (outset : WorldState) (end count : ℕ) (now : WorldState) → IsKept start → IsPoised start → CalmArrivalsKeep start K → bearer ≤ 1 → place_on bearer (ends_of start.air) ≤ from / numbers
    → Goes (arrival_asked Any bearer) from outset end count now → now.lost ≡ false → Has start K outset → Has start K now
arrivals_have start K bearer from outset end count now kept poised each on_one behind goes whole so = goes_keep (arrival_asked Any bearer) (λ number. Has start K) from outset end count now
    (λ number before made after above below taken clear h.
    let was_clear = takes_whole (arrival_asked Any bearer) number before made after taken clear in
    let at : from / numbers ≤ number / numbers = omega (arith, above) in
    elim (arrive_either (ends_of start.air) bearer number before made after on_one (omega (arith, behind, at)) taken clear) [
      | inl same ↦ subst (Has start K) (sym same) h
      | inr arrived ↦ one_arrival start K kept poised each before after was_clear arrived h
    ]) goes whole so

-- ---- a round, and a call

-- what each event of a round keeps of a call that began in a poised world
pub round_keeps : (start : WorldState) (K : WorldState → Type 0) (done : ℕ) (at : Places) (before : WorldState) (ends : Places) (after : WorldState) → IsKept start → IsPoised start → CalmTicksKeep start K → CalmArrivalsKeep start K → Rounds start done at before
    → Round at before (Ok ends) after → after.lost ≡ false → K before → K after
round_keeps start K done at before ends after kept poised ticks arrivals so_far round clear so =
    let r = round_parts at before ends after round in
    let clear_between = goes_whole _ _ r.between _ _ after r.second_part clear in
    let clear_ticked = goes_whole _ _ r.ticked _ _ r.between r.first_part clear_between in
    let was_clear = round_whole at before ends after r clear in
    let calm = call_stays_calm start done at before kept poised so_far was_clear in
    let goes = settling_goes_on start done at before so_far was_clear in
    let ticked = ticks_have start K before r.ticks r.ticked kept ticks r.tick_part clear_ticked (record { calm = calm.calm; has = so }) calm.heard in
    let between = arrivals_have start K 0 (numbers * at.first) r.ticked (numbers * length r.ticked.air.first) r.arrivals r.between kept poised arrivals (omega arith) (place_there at.first (ends_of start.air).first goes.behind.0) r.first_part clear_between ticked in
    let last = arrivals_have start K 1 (numbers * at.second) r.between (numbers * length r.ticked.air.second) r.others after kept poised arrivals (omega arith) (place_there at.second (ends_of start.air).second goes.behind.1) r.second_part clear between in
    last.has

-- and of the call
pub call_keeps : (start : WorldState) (K : WorldState → Type 0) (rounds : ℕ) (places : Places) (now : WorldState) → IsKept start → IsPoised start → CalmTicksKeep start K → CalmArrivalsKeep start K → Rounds start rounds places now → now.lost ≡ false → K start → K now
call_keeps start K rounds places now kept poised ticks arrivals made whole h = rounds_keep (λ done at w. K w) start rounds places now
    (λ done at before ends after fewer so_far round clear so. round_keeps start K done at before ends after kept poised ticks arrivals so_far round clear so) made whole h
