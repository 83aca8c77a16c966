-- Where a packet of a broadcast link isn't acknowledged, four rounds of a poised world leave less under way.
use Rattle.std.specs.Prelude.{is_some}
use Rattle.std.proofs.Common.{◌≡◌, ◌≤◌, ◌⊎◌, ◌+◌, ◌∙◌, ℕ, false, List, [], None, Option, Some, length, slice_index_or, inl, inr, refl, ap, arith}
use Rattle.tipc_send_window.specs.Sending.{acked_of}
use Rattle.tipc_broadcast.specs.Casting.{IsPackedCast}
use Rattle.tipc_settling.specs.Loads.{AddsNoneTo, put_into, under_way}
use Rattle.tipc_settling.proofs.Calm.{arrival_adds, packets_by_part}
use Rattle.tipc_settling.proofs.Packets.{put_into_counts, under_way_counts}
use Rattle.tipc_settling.proofs.Ticks.{turn_adds}
use Rattle.tipc_replay.specs.declared.events.WorldEvent.TheVariants.{Arrive, Call}
use Rattle.tipc_types.specs.declared.node_calls.EventNote.TheVariants as note
use Rattle.tipc_replay.specs.States.{MemberState}
use Rattle.tipc_world.specs.declared.places.Places.{Places}
use Rattle.tipc_world.specs.CastRows.{IsCastAwaited}
use Rattle.tipc_world.specs.Measures.{FourRoundsBringLessCast, HasUnacknowledgedCast, NoMoreWasCast, weight_cast, weight_given, weight_put}
use Rattle.tipc_world.specs.Poised.{IsPoised}
use Rattle.tipc_world.specs.RoundParts.{IsKept, MoreRounds, number_of_member, total_of}
use Rattle.tipc_world.specs.Settling.{Rounds}
use Rattle.tipc_world.specs.States.{WorldState}
use Rattle.tipc_world.proofs.casts.Going.{good_link}
use Rattle.tipc_world.proofs.casts.Releasing.{four_rounds_release_casts}
use Rattle.tipc_world.proofs.rounds.AnyPeer.{tick_is_calm}
use Rattle.tipc_world.proofs.rounds.CalmWalk.{CalmArrivalsKeep, CalmTicksKeep, round_keeps}
use Rattle.tipc_world.proofs.rounds.Falling.{many_going, sum_both, sum_more}
use Rattle.tipc_world.proofs.rounds.Going.{Going}
use Rattle.tipc_world.proofs.rounds.HeardWorlds.{call_stays_calm, told_of}
use Rattle.tipc_world.proofs.rounds.Measuring.{each_arrival_calm}
use Rattle.tipc_world.proofs.rounds.Releasing.{more_keep}
use Rattle.tipc_world.proofs.rounds.Totals.{totals_on}
use Rattle.tipc_world.proofs.rounds.UpLinks.{the_member}
use Rattle.tipc_world.proofs.rounds.Windows.{more_whole}

-- ---- nothing is put on broadcast links

ticks_cast_nothing : (start base : WorldState) → IsKept start → CalmTicksKeep start (NoMoreWasCast base)
ticks_cast_nothing start base kept old new node answered h g heard so =
    let calm = tick_is_calm start old new node answered h (g.on.kept kept) g heard in
    let puts : AddsNoneTo under_way put_into h.before.node h.after.node = turn_adds under_way under_way_counts put_into put_into_counts h.before.node h.after.node _ h.frames answered h.does.performs h.does.turn calm in
    totals_on weight_cast weight_given base old new (Call node note.Tick) [] answered h (omega (arith, puts)) so

arrivals_cast_nothing : (start base : WorldState) → IsKept start → IsPoised start → CalmArrivalsKeep start (NoMoreWasCast base)
arrivals_cast_nothing start base kept poised old new a g said so =
    let h = a.arrives in
    let puts : AddsNoneTo under_way put_into h.before.node h.after.node = arrival_adds under_way under_way_counts put_into put_into_counts h.before.node h.after.node _ a.bearer (length h.before.arrivals) a.frame.frame h.frames h.does.arrived h.does.arrives h.does.turn (each_arrival_calm start kept poised old new a g said) in
    totals_on weight_cast weight_given base old new (Arrive a.node a.bearer a.place) a.frame.frame a.answered h (omega (arith, puts)) so

many_cast : (start : WorldState) (done : ℕ) (places : Places) (outset : WorldState) (rounds : ℕ) (ends : Places) (now : WorldState) → IsKept start → IsPoised start → Rounds start done places outset → MoreRounds done places outset rounds ends now → now.lost ≡ false → NoMoreWasCast outset now
many_cast start done places outset rounds ends now kept poised front rest whole =
    (more_keep start (λ n at w. NoMoreWasCast outset w) done places outset rounds ends now front
    (λ n at before next after from so_far round still h. round_keeps start (NoMoreWasCast outset) n at before next after kept poised (ticks_cast_nothing start outset kept) (arrivals_cast_nothing start outset kept poised) so_far round still h)
    rest whole (omega arith)).1

-- ---- what is acknowledged of broadcasts

cast_acked : MemberState → ℕ
cast_acked m = acked_of m.node.casting.sending

-- what was put on a broadcast link is under way or acknowledged
node_cast : (w : WorldState) (n : ℕ) (m : MemberState) → IsKept w → slice_index_or w.members n None ≡ Some m → weight_cast m ≡ cast_acked m + weight_put m
unfolding cast_acked
node_cast w n m kept there = (let load = packets_by_part m.node (told_of w n m kept there) in omega (arith, load))

world_cast : (w : WorldState) → IsKept w → total_of weight_cast w ≡ total_of cast_acked w + total_of weight_put w
world_cast w kept = sum_both (number_of_member cast_acked) (number_of_member weight_put) (number_of_member weight_cast) w.members (λ n. at n (slice_index_or w.members n None) refl)
  where
    at : (n : ℕ) (o : Option MemberState) → slice_index_or w.members n None ≡ o → number_of_member weight_cast (slice_index_or w.members n None) ≡ number_of_member cast_acked (slice_index_or w.members n None) + number_of_member weight_put (slice_index_or w.members n None)
    at n None none =
        let ever = ap (number_of_member weight_cast) none in
        let acked = ap (number_of_member cast_acked) none in
        let put = ap (number_of_member weight_put) none in
        omega (arith, ever, acked, put)
    at n (Some m) there =
        let ever = ap (number_of_member weight_cast) there in
        let acked = ap (number_of_member cast_acked) there in
        let put = ap (number_of_member weight_put) there in
        let both = node_cast w n m kept there in
        omega (arith, ever, acked, put, both)

-- no acknowledgement is taken back by any node
member_acked : (start base w : WorldState) → Going start base w → (n : ℕ) → number_of_member cast_acked (slice_index_or base.members n None) ≤ number_of_member cast_acked (slice_index_or w.members n None)
unfolding cast_acked
member_acked start base w g n = at (slice_index_or base.members n None) refl
  where
    at : (o : Option MemberState) → slice_index_or base.members n None ≡ o → number_of_member cast_acked (slice_index_or base.members n None) ≤ number_of_member cast_acked (slice_index_or w.members n None)
    at None none = (let nothing = ap (number_of_member cast_acked) none in omega (arith, nothing))
    at (Some k) was =
        let m = the_member (slice_index_or w.members n None) (g.on.nodes n ∙ ap (λ o. is_some o) was) in
        let before = ap (number_of_member cast_acked) was in
        let after = ap (number_of_member cast_acked) m.1 in
        let more = (g.casts.links n k m.0 was m.1).acked in
        omega (arith, before, after, more)

-- ---- through four rounds

pub four_rounds_bring_less_cast : FourRoundsBringLessCast
unfolding cast_acked
four_rounds_bring_less_cast start done places outset ends now a kept poised front rest whole (m, there, some) =
    let clear = more_whole done places outset (done + 4) ends now rest whole in
    let calm = (call_stays_calm start done places outset kept poised front clear).calm in
    let below = (good_link outset a m (calm.on.kept kept) there).sending.numbered in
    let position = acked_of m.node.casting.sending + 1 in
    let awaited : IsCastAwaited position m.node.casting = record { numbered = omega (arith, below, some); first = omega arith } in
    let last = four_rounds_release_casts start done places outset ends now a position kept poised front rest whole (m, there, awaited) in
    let released = last.2 in
    let g = many_going start done places outset (done + 4) ends now kept poised front rest whole in
    let before = ap (number_of_member cast_acked) there in
    let after = ap (number_of_member cast_acked) last.1 in
    let acked = sum_more (number_of_member cast_acked) a 1 refl outset.members now.members (member_acked start outset now g) (omega (arith, before, after, released)) in
    let put = many_cast start done places outset (done + 4) ends now kept poised front rest whole in
    let was = world_cast outset (calm.on.kept kept) in
    let behind_all = world_cast now (g.calm.on.kept kept) in
    omega (arith, acked, put, was, behind_all)

-- where a packet waits on a broadcast link, one isn't acknowledged
pub cast_waits : (w : WorldState) (n : ℕ) (m : MemberState) → IsKept w → slice_index_or w.members n None ≡ Some m → 1 ≤ under_way m.node.casting.sending → HasUnacknowledgedCast m.node.casting
cast_waits w n m kept there some = (let packed : IsPackedCast m.node.casting.sending = (kept.nodes.packed n m there).1 in by packed.1)
  where
    by : (m.node.casting.sending.waiting ≡ []) ⊎ (length m.node.casting.sending.unacked ≡ 50) → HasUnacknowledgedCast m.node.casting
    by (inl none) = (let nothing = ap (λ (ps : List (List ℕ)). length ps) none in omega (arith, some, nothing))
    by (inr full) = omega (arith, full)
