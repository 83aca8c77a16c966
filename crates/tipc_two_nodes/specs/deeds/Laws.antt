-- Each call of a pair is deeds, with the frames that it says: what it numbers, it numbers on one link, in its present session.
use Rattle.std.specs.Prelude.{◌≡◌, ℕ, List, Some, slice_get}
use Rattle.tipc_types.specs.declared.link_words.BroadcastState.{BroadcastState}
use Rattle.tipc_outside.specs.declared.outgoing.Outgoing.{Outgoing}
use Rattle.tipc_link.specs.Parts.{IsShowable}
use Rattle.tipc_link.specs.Sessions.{moving}
use Rattle.tipc_header.specs.Spelling.{Fields}
use Rattle.tipc_pair.specs.declared.changes.PairOutcome.{PairOutcome}
use Rattle.tipc_pair.specs.Courses.{Course}
use Rattle.tipc_pair.specs.Facing.{PairEnds}
use Rattle.tipc_pair.specs.PairArrivals.{Arrives, hears}
use Rattle.tipc_pair.specs.PairCalls.{SendsWithin}
use Rattle.tipc_pair.specs.PairFacts.{IsPairOfEnds}
use Rattle.tipc_paired.specs.Paired.{ArePaired, IsPacket}
use Rattle.tipc_paired.specs.Views.{View}
use Rattle.tipc_two_nodes.specs.deeds.Arriving.{MayOpen, Reaches, arrival_more, arrival_taken}
use Rattle.tipc_two_nodes.specs.deeds.PairDeeds.{Did, IsOfPair, TakesCourse, more_at, none_more}

-- packets are put on the active link, where all that waits then can be put
abbrev pub SendsAreDeeds : Type 0
SendsAreDeeds = (v y : View) (x x' : PairEnds) (pieces : List (List ℕ)) (limit : ℕ) (frames : List Outgoing) → ArePaired v y → IsOfPair v x
    → (s : SendsWithin x pieces limit x' frames)
    → ((k : ℕ) (bytes : List ℕ) → slice_get s.puts.put.sending.waiting k ≡ Some bytes → IsPacket v.node.own bytes)
    → (last : View) × Did v y last frames (more_at s.bearer s.puts.session.epoch (moving s.puts.put)) none_more × IsOfPair last x'

-- A packet of the peer arrives, with all that it does: it is heard, what the near link took is opened, and held ends are
-- released.
abbrev pub ArrivalsAreDeeds : Type 0
ArrivalsAreDeeds = (v y : View) (x : PairEnds) (es er : ℕ) (p : Fields) (by : ℕ) (shown : BroadcastState) (c : Course)
    (given : PairOutcome) → ArePaired v y → IsOfPair v x → IsPairOfEnds x → IsShowable shown
    → Reaches v y x.bearer es er p → (a : Arrives x es er p by shown c given)
    → MayOpen y x (hears p.header es er p by shown x)
    → TakesCourse v y c (arrival_more x es er p by shown c given a) (arrival_taken y x es er p by shown c given a)

-- and the pair is one of link ends again
abbrev pub ArrivalsKeepEnds : Type 0
ArrivalsKeepEnds = (v y : View) (x : PairEnds) (es er : ℕ) (p : Fields) (by : ℕ) (shown : BroadcastState) (c : Course)
    (given : PairOutcome) → ArePaired v y → IsOfPair v x → IsPairOfEnds x → IsShowable shown
    → Reaches v y x.bearer es er p → Arrives x es er p by shown c given → IsPairOfEnds c.pair
