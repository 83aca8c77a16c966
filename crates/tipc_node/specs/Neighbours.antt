-- What a node keeps of a peer, and what each call makes of it.
use Rattle.std.specs.Prelude.{◌≡◌, ◌≤◌, ℕ, Bool, true, List, if◌then◌else◌}
use Rattle.std.specs.List.{list_any}
use Rattle.tipc_types.specs.Address.{node_word}
use Rattle.tipc_types.specs.declared.link_words.BroadcastState.{BroadcastState}
use Rattle.tipc_outside.specs.declared.outgoing.Outgoing.{Outgoing}
use Rattle.tipc_header.specs.Spelling.{Fields}
use Rattle.tipc_pair.specs.declared.transitions.Transition.{Transition}
use Rattle.tipc_fragments.specs.Joining.{Joining, fresh}
use Rattle.tipc_pair.specs.Contacts.{is_of_contact}
use Rattle.tipc_pair.specs.Courses.{Course}
use Rattle.tipc_pair.specs.Facing.{PairEnds, alone}
use Rattle.tipc_pair.specs.PairCalls.{answered_near, at_bearer, cut_near, mended, ticked}
use Rattle.tipc_pair.specs.PairTurns.{Happened, Outset, PutsOne, made_near}
use Rattle.tipc_pair.specs.PairTurns.Opening.{hears}
use Rattle.tipc_node.specs.declared.neighbours.Neighbour.{Neighbour}
use Rattle.tipc_node.specs.declared.neighbours.Upkeep.{Upkeep}
use Rattle.tipc_node.specs.declared.neighbours.Upkeep.TheVariants as upkeep

-- a neighbour with another pair
abbrev pub with_pair : Neighbour → PairEnds → Neighbour
with_pair x pair = record x { pair = pair }

-- a neighbour of whose broadcast this is begun
abbrev pub with_casts : Neighbour → Joining → Neighbour
with_casts x joining = record x { casts = joining }

-- what is begun of a peer's broadcast after these changes: nothing, where a contact with it began or ended
abbrev pub casts_after : Joining → List Transition → Joining
casts_after joining changes = if list_any is_of_contact changes then fresh else joining

-- a peer of a node with this address word, in this boot, to which no link end is made yet
abbrev pub stranger : ℕ → ℕ → ℕ → Neighbour
stranger own peer boot = record { pair = alone own (node_word peer) boot; casts = fresh }

-- a link end is made on a bearer, which is mended
abbrev pub making : ℕ → Neighbour → Course
making bearer x = at_bearer bearer x.pair (made_near true)

-- ---- what happens to all neighbours alike

-- what is mended or cut is one of the two bearers
abbrev pub IsOnBearer : Upkeep → Type 0
IsOnBearer (upkeep.Mend bearer) = bearer ≤ 1
IsOnBearer (upkeep.Cut bearer) = bearer ≤ 1
IsOnBearer upkeep.Tick = Unit {0}

-- what a bearer that is mended or cut, or a tick, makes of the pair to a neighbour, and the frames that leave for it; a STATE shows this of the
-- broadcast link
abbrev pub course_of : Upkeep → BroadcastState → Neighbour → Course
course_of (upkeep.Mend bearer) shown x = at_bearer bearer x.pair mended
course_of (upkeep.Cut bearer) shown x = at_bearer bearer x.pair cut_near
course_of upkeep.Tick shown x = ticked shown x.pair

-- a neighbour after a call, the frames that leave for it, and what is told
pub record Done : Type 0 where
  pub after : Neighbour
  -- those of link states and of repeated packets, and those of packets that are numbered then
  pub states : List Outgoing
  pub numbered : List Outgoing
  pub changes : List Transition

-- the neighbour where that became of its pair
abbrev pub done_by : Neighbour → Course → Done
done_by x c = record { after = record { pair = c.pair; casts = casts_after x.casts c.changes }; states = c.states; numbered = c.numbered; changes = c.changes }

-- what a bearer that is mended or cut, or a tick, makes of a neighbour
abbrev pub done : Upkeep → BroadcastState → Neighbour → Done
done d shown x = done_by x (course_of d shown x)

-- ---- messages

-- the packets of a message are put on the active link, and nothing else changes
pub record PutsThere (x : Neighbour) (pieces : List (List ℕ)) (x' : Neighbour) (frames : List Outgoing) : Type 0 where
  pub puts : PutsOne x.pair pieces x'.pair frames
  pub casts : x'.casts ≡ x.casts

-- ---- an arrival

-- a packet arrives on a bearer from the peer, under an envelope of these two epochs and by the arrival of that number, where a STATE shows this
-- of the broadcast link: this came of it
abbrev pub HearsAt : Neighbour → (bearer es er : ℕ) → Fields → ℕ → BroadcastState → Outset → Type 0
HearsAt x bearer es er p number shown o = Happened x.pair (hears bearer es er p number shown) o

-- what an arrival makes of a neighbour before the STATE that is due leaves
abbrev pub heard_neighbour : Neighbour → Outset → Neighbour
heard_neighbour x o = record { pair = o.course.pair; casts = casts_after x.casts o.course.changes }

-- The STATE that is due on a bearer leaves, and shows this of the broadcast link. The arrival may have asked for it by the broadcast.
abbrev pub answering : ℕ → Bool → BroadcastState → Neighbour → Course
answering bearer asks shown x = at_bearer bearer x.pair (answered_near 0 asks shown)

-- the neighbour when that STATE has left
abbrev pub answered_neighbour : ℕ → Bool → BroadcastState → Neighbour → Neighbour
answered_neighbour bearer asks shown x = with_pair x (answering bearer asks shown x).pair
