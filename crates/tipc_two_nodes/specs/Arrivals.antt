-- A packet of one of two nodes arrives at the other one, as a whole call: the two stay what they are, and what the pair
-- gives is what was put next.
use Rattle.std.specs.Prelude.{◌≡◌, ◌<◌, ◌⊎◌, ℕ, List, []}
use Rattle.tipc_types.specs.declared.link_words.BroadcastState.{BroadcastState}
use Rattle.tipc_types.specs.declared.packet_lists.Taken.{Taken}
use Rattle.tipc_header.specs.Spelling.{Fields}
use Rattle.tipc_fragments.specs.Joining.{Joining}
use Rattle.tipc_link.specs.Parts.{IsShowable}
use Rattle.tipc_pair.specs.declared.changes.PairOutcome.{PairOutcome}
use Rattle.tipc_pair.specs.Courses.{Course}
use Rattle.tipc_pair.specs.Facing.{PairEnds}
use Rattle.tipc_pair.specs.PairArrivals.{Arrives}
use Rattle.tipc_pair.specs.PairFacts.{AreHeldRightly, IsPairOfEnds}
use Rattle.tipc_two_nodes.specs.links.Arriving.{Gives, heard_pair}
use Rattle.tipc_two_nodes.specs.links.Receiving.{bytes_in}
use Rattle.tipc_paired.specs.Views.{View}
use Rattle.tipc_two_nodes.specs.deeds.Arriving.{Reaches, arrival_more, arrival_taken}
use Rattle.tipc_two_nodes.specs.deeds.PairDeeds.{IsOfPair, Took}
use Rattle.tipc_two_nodes.specs.Carriages.{IsPresent}
use Rattle.tipc_two_nodes.specs.Carrying.{Carries, taken_in_contact}
use Rattle.tipc_two_nodes.specs.Twins.{AreTwins}

-- The two are what they were to each other; and what v gave is what it took in its contact, behind all that it had
-- taken of it, and behind the message that was begun when its pair had heard the packet. What crossed between them
-- stays so.
pub record GivesNext (v y after : View) (h : AreTwins v y) (heard last : PairEnds) (given : PairOutcome) : Type 0 where
  pub twins : AreTwins after y
  pub carried : List Taken
  -- nothing was taken, or the contact lasts then
  pub lasts : (carried ≡ []) ⊎ IsPresent after v.node.contact v.node.seen
  pub begun : Joining
  pub begun_is : (begun ≡ heard.begun) ⊎ (heard.contact < last.contact)
  pub gives : Gives begun carried given last.begun
  pub carries : Carries v after y h twins (taken_in_contact v.node.contact v.node.seen (bytes_in carried))

-- By deeds of v, beside y, its pair, which is this one when it has heard a packet, took this course, in which these
-- packets were numbered and taken, and gave what is next.
abbrev pub KeepsGiving : (v y : View) → AreTwins v y → PairEnds → Course → (numbered taken : ℕ → ℕ → List (List ℕ))
    → PairOutcome → Type 0
KeepsGiving v y h heard c numbered taken given =
    (after : View) × Took v y after c numbered taken × GivesNext v y after h heard c.pair given

-- A packet of y arrives at a link of v, as a whole call of its pair.
abbrev pub ArrivalsKeep : Type 0
ArrivalsKeep = (v y : View) (x : PairEnds) (es er : ℕ) (p : Fields) (by : ℕ) (shown : BroadcastState) (c : Course)
    (given : PairOutcome) (h : AreTwins v y) → IsOfPair v x → IsPairOfEnds x → AreHeldRightly x → IsShowable shown
    → Reaches v y x.bearer es er p → (a : Arrives x es er p by shown c given)
    → KeepsGiving v y h (heard_pair x es er p by shown) c (arrival_more x es er p by shown c given a)
    (arrival_taken y x es er p by shown c given a) given
