-- What a packet will make of a pair, told before anything is changed.
use Rattle.std.specs.Prelude.{◌≡◌, ◌≤◌, ℕ, List, []}
use Rattle.tipc_types.specs.declared.link_words.BroadcastState.{BroadcastState}
use Rattle.tipc_types.specs.declared.link_words.Why.TheVariants as why
use Rattle.tipc_header.specs.Spelling.{Fields}
use Rattle.tipc_contact.specs.declared.contact.Standing.TheVariants.{Lower, Same}
use Rattle.tipc_pair.specs.declared.changes.PairOutcome.{PairOutcome}
use Rattle.tipc_pair.specs.declared.transitions.Transition.{Transition}
use Rattle.tipc_pair.specs.declared.preparing.Way.{Way}
use Rattle.tipc_pair.specs.declared.preparing.Way.TheVariants as way
use Rattle.tipc_pair.specs.Courses.{Course, IsToldOf}
use Rattle.tipc_pair.specs.Facing.{PairEnds, facing}
use Rattle.tipc_pair.specs.PairArrivals.{Arrives}
use Rattle.tipc_pair.specs.PairOpenings.{IsQuiet, standing_with}
use Rattle.tipc_pair.specs.Messages.{OpensTo}

-- A packet that arrives on the near link, under an envelope of these two epochs and by the arrival of that number, will change the pair in this
-- way, and give this.
abbrev pub IsPrepared : (x : PairEnds) (es er : ℕ) (p : Fields) (by : ℕ) (shown : BroadcastState) → Way → PairOutcome → Type 0
IsPrepared x es er p by shown way.Passes given =
    (standing_with x p.header ≡ Lower) × (given ≡ PairOutcome.Ignored why.Contact)
IsPrepared x es er p by shown (way.Quiet arriving begun) given =
    IsQuiet x es er p by arriving × (standing_with x p.header ≡ Same) × OpensTo x.begun arriving.hearing.outcome given begun
IsPrepared x es er p by shown (way.Whole ends told) given =
    (c : Course) × Arrives x es er p by shown c given × (ends.value ≡ c.pair) × IsToldOf c told

-- what will be told of links and contact
abbrev pub changes_of : Way → List Transition
changes_of (way.Whole ends told) = told.changes
changes_of other = []

-- what is told of a packet before it is taken: its bearer, how it will change the pair, and what it will give
pub record Prepared : Type 0 where
  pub bearer : ℕ
  pub way : Way
  pub outcome : PairOutcome

-- it was told of this packet, and of this pair
pub record Prepares (x : PairEnds) (es er : ℕ) (p : Fields) (by : ℕ) (shown : BroadcastState) (a : Prepared) : Type 0 where
  pub bearer : a.bearer ≤ 1
  pub told : IsPrepared (facing a.bearer x) es er p by shown a.way a.outcome
