-- Totals over all nodes through an event.
use Rattle.std.proofs.Common.{◌≡◌, ◌≤◌, ◌+◌, ℕ, List, Some, None, slice_index_or, slice_set, sum_by, ap, arith}
use Rattle.std.proofs.lemmas.List.Sums.{sum_by-set}
use Rattle.tipc_types.specs.declared.node_calls.Answer.{Answer}
use Rattle.tipc_replay.specs.declared.events.WorldEvent.{WorldEvent}
use Rattle.tipc_replay.specs.Calls.{node_of}
use Rattle.tipc_replay.specs.States.{MemberState}
use Rattle.tipc_replay.proofs.LookUps.{place_within}
use Rattle.tipc_world.specs.RoundParts.{GrowsNoMore, HappensWhole, number_of_member, total_of}
use Rattle.tipc_world.specs.States.{WorldState}

-- the total changes by the number of the node at which the event happened
event_total : (number : MemberState → ℕ) (old new : WorldState) (event : WorldEvent) (bytes : List ℕ) (answered : Answer) (h : HappensWhole old new event bytes answered)
    → total_of number new + number h.before ≡ total_of number old + number h.after
event_total number old new event bytes answered h =
    let a = node_of event in
    let count = number_of_member number in
    let put = sum_by-set count old.members a (Some h.after) None (place_within old.members a h.before h.was) in
    let was : count (slice_index_or old.members a None) ≡ number h.before = ap count h.was in
    let now : total_of number new ≡ sum_by count (slice_set old.members a (Some h.after)) = ap (sum_by count) h.members in
    omega (arith, put, was, now)

-- where the one number grew at that node by no more than the other, the totals did, from a begin on
pub totals_on : (number other : MemberState → ℕ) (start old new : WorldState) (event : WorldEvent) (bytes : List ℕ) (answered : Answer) (h : HappensWhole old new event bytes answered)
    → number h.after + other h.before ≤ number h.before + other h.after → GrowsNoMore number other start old → GrowsNoMore number other start new
totals_on number other start old new event bytes answered h no_more so_far =
    let one = event_total number old new event bytes answered h in
    let two = event_total other old new event bytes answered h in
    omega (arith, one, two, no_more, so_far)
