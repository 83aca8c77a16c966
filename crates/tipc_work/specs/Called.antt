-- What single calls make of a pass.
use Rattle.std.specs.Prelude.{◌≡◌, ◌+◌, ◌*◌, ◌<◌, ◌≤◌, ◌^◌, ◌++◌, ◌∷◌, [], ℕ, Bool, true, false, List, Option, Some, None, length, map}
use Rattle.std.specs.List.{All}
use Rattle.tipc_types.specs.declared.node_calls.Answer.{Answer}
use Rattle.tipc_types.specs.declared.node_calls.EventNote.{EventNote}
use Rattle.tipc_types.specs.declared.node_calls.EventNote.TheVariants.{Arrive}
use Rattle.tipc_node.specs.Sockets.{kept_answer}
use Rattle.tipc_node_lock.specs.Passes.{PassState}
use Rattle.tipc_work.specs.Plans.{AreTries, ShowsCaller, sends_from}
use Rattle.tipc_work.specs.declared.plans.LivePlan.{LivePlan}
use Rattle.tipc_work.specs.Shown.{calls_made}

-- it is the same caller's, of the same node and the same stamps, and it stays marked where it was told that the journal
-- is full
pub record IsSameCaller (p p' : PassState) : Type 0 where
  pub of_table : p'.seat.of_table ≡ p.seat.of_table
  pub own : p'.own ≡ p.own
  pub caller : p'.caller ≡ p.caller
  pub full : p.full ≡ true → p'.full ≡ true

-- so many calls were made at most: each draws 32,769 stamps at most
abbrev pub DrawsFor : ℕ → PassState → PassState → Type 0
DrawsFor calls p p' = length p'.seat.drawn ≤ length p.seat.drawn + calls * 32769

-- the seat may draw for so many calls
abbrev pub MayDrawFor : ℕ → PassState → Type 0
MayDrawFor calls p = length p.seat.drawn + calls * 32769 < 2 ^ 40

-- the pass has one call more, which was answered so
pub record MakesCall (p p' : PassState) (call : EventNote) (answered : Answer) : Type 0 where
  pub stamp : ℕ
  pub made : p'.made ≡ p.made ++ record { stamp = stamp; call = call; answer = answered } ∷ []
  pub full : p'.full ≡ p.full
  pub handed : p'.handed ≡ p.handed

-- the journal had no room for a call
pub record IsToldFull (p p' : PassState) : Type 0 where
  pub made : p'.made ≡ p.made
  pub full : p'.full ≡ true
  pub handed : p'.handed ≡ p.handed

-- the call was answered, or the journal had no room for it
abbrev pub IsAnsweredSo : PassState → PassState → EventNote → Option Answer → Type 0
IsAnsweredSo p p' call (Some answered) = MakesCall p p' call (kept_answer answered)
IsAnsweredSo p p' call None = IsToldFull p p'

-- a frame arrived on a bearer, or the journal had no room for it
abbrev pub ArrivesSo : PassState → PassState → ℕ → Bool → Type 0
ArrivesSo p p' bearer true = (number : ℕ) × (answered : Answer) × MakesCall p p' (Arrive bearer number) answered
ArrivesSo p p' bearer false = IsToldFull p p'

-- calls were made with the pass: these, in order
pub record MakesCalls (p p' : PassState) (calls : List (EventNote × Answer)) : Type 0 where
  pub is : calls_made p'.made ≡ calls_made p.made ++ calls

-- one message was tried to the end, or the journal had no room for that
abbrev pub SendsOne : EventNote → PassState → PassState → Bool → Type 0
SendsOne call p p' true = (answers : List Answer) × AreTries answers × MakesCalls p p' (map (λ a. (call, a)) answers)
SendsOne call p p' false = p'.full ≡ true

-- so many messages were, from number 0 on
abbrev pub SendsMany : (ℕ → EventNote) → ℕ → PassState → PassState → Bool → Type 0
SendsMany call count p p' true = (tries : List (List Answer)) × (length tries ≡ count) × All AreTries tries × MakesCalls p p' (sends_from call 0 tries)
SendsMany call count p p' false = p'.full ≡ true

-- the plan was followed to the end, or the journal had no room for that
abbrev pub FollowsPlan : LivePlan → ℕ → ℕ → PassState → Bool → Type 0
FollowsPlan plan node caller p' true = ShowsCaller plan node caller (calls_made p'.made)
FollowsPlan plan node caller p' false = p'.full ≡ true
