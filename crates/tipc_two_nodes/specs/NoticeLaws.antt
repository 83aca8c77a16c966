-- The laws of two nodes when a RESET or an ACTIVATE of one arrives at the other.
use Rattle.std.specs.Prelude.{◌≡◌, ℕ, false, []}
use Rattle.tipc_types.specs.declared.link_words.BroadcastState.{BroadcastState}
use Rattle.tipc_header.specs.Spelling.{Fields}
use Rattle.tipc_link.specs.Links.{is_traffic}
use Rattle.tipc_link.specs.Parts.{IsShowable}
use Rattle.tipc_pair.specs.declared.changes.PairOutcome.{PairOutcome}
use Rattle.tipc_pair.specs.Courses.{Course}
use Rattle.tipc_pair.specs.Facing.{PairEnds}
use Rattle.tipc_pair.specs.PairArrivals.{Arrives, hears}
use Rattle.tipc_pair.specs.PairFacts.{AreHeldRightly, IsPairOfEnds}
use Rattle.tipc_two_nodes.specs.links.Arriving.{Gives, heard_pair}
use Rattle.tipc_paired.specs.Views.{View}
use Rattle.tipc_two_nodes.specs.deeds.Arriving.{Reaches, arrival_more, hears_more}
use Rattle.tipc_two_nodes.specs.deeds.PairDeeds.{IsOfPair}
use Rattle.tipc_two_nodes.specs.Carrying.{KeepsCarried}
use Rattle.tipc_two_nodes.specs.Twins.{AreTwins}

-- A packet that is no STATE and has no number arrives on the near link, and brings nothing: whatever contact number it
-- shows, what the links and the contact become by it keeps the two what they are.
abbrev pub NoticesKeep : Type 0
NoticesKeep = (v y : View) (x : PairEnds) (es er : ℕ) (p : Fields) (by : ℕ) (shown : BroadcastState)
    (h : AreTwins v y) → IsOfPair v x → IsPairOfEnds x → IsShowable shown → Reaches v y x.bearer es er p
    → is_traffic p.header ≡ false
    → KeepsCarried v y h (hears p.header es er p by shown x).course (hears_more p.header es er p by x)

-- and so does its whole arrival, which gives nothing
abbrev pub NoticesArrive : Type 0
NoticesArrive = (v y : View) (x : PairEnds) (es er : ℕ) (p : Fields) (by : ℕ) (shown : BroadcastState) (c : Course)
    (given : PairOutcome) (h : AreTwins v y) → IsOfPair v x → IsPairOfEnds x → AreHeldRightly x → IsShowable shown
    → Reaches v y x.bearer es er p → is_traffic p.header ≡ false → (a : Arrives x es er p by shown c given)
    → KeepsCarried v y h c (arrival_more x es er p by shown c given a)
    × Gives (heard_pair x es er p by shown).begun [] given c.pair.begun
