-- What follows for a pair when one of its links went up or down: the contact begins or ends, the other link takes the traffic over, or this
-- one does; and when an end that is held is released.
use Rattle.std.specs.Prelude.{ℕ, ◌+◌, Bool, false, ◌==◌, List, [], ◌∷◌, ◌++◌, Option, Some, None, option_map, if◌then◌else◌}
use Rattle.std.specs.List.{flat_map}
use Rattle.tipc_types.specs.LinkStates.{is_up}
use Rattle.tipc_types.specs.declared.link_words.Cause.{Cause}
use Rattle.tipc_types.specs.declared.link_words.Cause.TheVariants as cause
use Rattle.tipc_outside.specs.declared.outgoing.Outgoing.{Outgoing}
use Rattle.tipc_fragments.specs.Joining.{fresh}
use Rattle.tipc_link_fsm.specs.declared.changes.Change.{Change}
use Rattle.tipc_link_fsm.specs.declared.changes.Change.TheVariants.{Up, Down}
use Rattle.tipc_link_fsm.specs.Table.{contact_ended, forget_peer, release}
use Rattle.tipc_link.specs.Links.{LinkEnd, handed_over, known, release_frames, reset_frames, tunnels_of, with_fsm, without_waiting}
use Rattle.tipc_link.specs.Sessions.{SessionEnd, flush_frames, flushed, put}
use Rattle.tipc_pair.specs.declared.transitions.Transition.{Transition}
use Rattle.tipc_pair.specs.declared.transitions.Transition.TheVariants.{ContactDown, ContactUp, LinkDown, LinkUp}
use Rattle.tipc_pair.specs.Courses.{Course, going_on, rests, telling}
use Rattle.tipc_pair.specs.Facing.{PairEnds, ends_of, in_contact, is_up_at, states_of, turned, with_far, with_near}
use Rattle.tipc_pair.specs.Runs.{left_by, taken_over}

-- ---- the contact

-- a contact begins: no message is begun
abbrev pub contact_begins : PairEnds → Course
contact_begins x = record (rests (record x { begun = fresh })) { changes = ContactUp (x.contact, x.seen) ∷ [] }

-- an end when the contact ended, which shows these contact numbers
abbrev pub parted_end : ℕ → ℕ → LinkEnd → LinkEnd
parted_end contact seen e = record e { fsm = (contact_ended e.fsm).after; contact = contact; peer_contact = seen }

-- the node takes the next contact number, each end the next epoch, and the begun message is dropped
abbrev pub parted : PairEnds → PairEnds
parted x = record x {
  contact = x.contact + 1;
  near = option_map (parted_end (x.contact + 1) x.seen) x.near;
  far = option_map (parted_end (x.contact + 1) x.seen) x.far;
  begun = fresh;
}

-- a link that is still up goes down with the contact
abbrev pub ended_with : LinkEnd → List Transition
ended_with e = if is_up e.fsm.state then LinkDown e.bearer cause.ContactEnded 0 ∷ [] else []

-- This contact ends. The number is the higher one that the peer showed, or 0. Each end says RESET.
abbrev pub contact_ends : PairEnds → ℕ × ℕ → ℕ → Course
contact_ends x contact shown = record {
  pair = parted x;
  changes = flat_map ended_with (ends_of x) ++ ContactDown contact (states_of (parted x)) shown ∷ [];
  states = flat_map reset_frames (ends_of (parted x));
  numbered = [];
}

-- The peer shows a contact number above the highest seen: a contact ends, and without contact each end forgets the peer's epoch.
abbrev pub forgetting : ℕ → LinkEnd → LinkEnd
forgetting seen e = record (with_fsm e (forget_peer e.fsm).after) { peer_contact = seen }

-- the pair without contact when the peer has shown this contact number
abbrev pub forgotten : PairEnds → ℕ → PairEnds
forgotten x seen = record x { seen = seen; near = option_map (forgetting seen) x.near; far = option_map (forgetting seen) x.far }

-- what the higher contact number of the peer makes of the pair
abbrev pub risen : PairEnds → ℕ → Course
risen x number =
    if in_contact x then contact_ends (record x { seen = number }) (x.contact, x.seen) number else rests (forgotten x number)

-- ---- changeover

-- packets are put behind all that a link has, and packets that wait move up
abbrev pub loaded : LinkEnd → SessionEnd → List (List ℕ) → LinkEnd
loaded e s packets = record e { session = Some (flushed (put s packets)) }

-- The near link went down while the far one is up: the far one gets what it leaves.
abbrev pub failing : PairEnds → LinkEnd → LinkEnd → Option SessionEnd → Option SessionEnd → Course
failing x near far (Some lost) (Some s) = record (rests (with_far (with_near x (handed_over near)) (loaded far s (left_by lost)))) {
  numbered = flush_frames (put s (left_by lost));
}
failing x near far other carrier = rests x

-- what the near end leaves to the far one, where both were made
abbrev pub fail_over_to : PairEnds → Option LinkEnd → Option LinkEnd → Course
fail_over_to x (Some near) (Some far) = failing x near far near.session far.session
fail_over_to x near far = rests x

-- the far link takes over from the near one, which went down
abbrev pub fail_over : PairEnds → Course
fail_over x = fail_over_to x x.near x.far

-- The near link went up, and becomes active in place of the far one: it takes over what that one has, and what waits there moves here.
abbrev pub switching : PairEnds → LinkEnd → LinkEnd → Option SessionEnd → Option SessionEnd → Course
switching x near far (Some s) (Some old) = record (rests (with_far (with_near x (loaded near s (taken_over old))) (without_waiting far))) {
  numbered = flush_frames (put s (taken_over old));
}
switching x near far other old = rests x

-- what the near end takes over from the far one, where both were made
abbrev pub switch_from : PairEnds → Option LinkEnd → Option LinkEnd → Course
switch_from x (Some near) (Some far) = switching x near far near.session far.session
switch_from x near far = rests x

-- the near link, which went up, takes over from the far one
abbrev pub switch : PairEnds → Course
switch x = switch_from x x.near x.far

-- ---- what follows a change of the near link

-- the first link that goes up begins the contact; a second one takes the traffic over where its priority is the higher one
abbrev pub gone_up : PairEnds → Course
gone_up x = if is_up_at x.far then (if x.bearer == 0 then switch x else rests x) else contact_begins x

-- with the last link that is up the contact ends
abbrev pub gone_down : PairEnds → Course
gone_down x = if is_up_at x.far then fail_over x else contact_ends x (x.contact, x.seen) 0

-- what is told of a link that went up: its bearer, and the two epochs of its session
abbrev pub up_told : ℕ → Option LinkEnd → Transition
up_told bearer None = LinkUp bearer 0 0
up_told bearer (Some e) = LinkUp bearer e.fsm.own (known e.fsm.peer)

-- the epoch that the frame of a peer showed, where that took the link down
abbrev pub shown_with : Cause → ℕ → ℕ
shown_with cause.PeerReset epoch = epoch
shown_with cause.PeerTunnel epoch = epoch
shown_with other epoch = 0

-- what follows, where the frame that did it showed this epoch
abbrev pub following : PairEnds → Change → ℕ → Course
following x Up epoch = telling (up_told x.bearer x.near) (gone_up x)
following x (Down cause) epoch = telling (LinkDown x.bearer cause (shown_with cause epoch)) (gone_down x)
following x other epoch = rests x

-- ---- release

-- a link has no tunnel packet, unacknowledged or waiting
abbrev pub is_clear : Option LinkEnd → Bool
is_clear None = false
is_clear (Some e) = tunnels_of e.session == 0

-- An end that is held is released; nothing is done to an end that isn't held.
abbrev pub let_go : LinkEnd → LinkEnd
let_go e = with_fsm e (release e.fsm).after

-- the RESET that a held end says when it is released; none of any other end
abbrev pub let_go_frames : Option LinkEnd → List Outgoing
let_go_frames None = []
let_go_frames (Some e) = release_frames e

-- the near end is released once the far link is clear
abbrev pub release_near : PairEnds → Course
release_near x =
    if is_clear x.far then record (rests (record x { near = option_map let_go x.near })) { states = let_go_frames x.near } else rests x

-- a step at the far link
abbrev pub at_far : (PairEnds → Course) → PairEnds → Course
at_far step x = record (step (turned x)) { pair = turned (step (turned x)).pair }

-- at the end of each call either end may be released
unfoldable pub released : PairEnds → Course
released x = going_on (release_near x) (at_far release_near)
