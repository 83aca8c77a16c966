-- What a node does in a call of a pair, as deeds one after the other: the pair then, the frames that it told, and what was
-- numbered and taken on each bearer, by the epoch of the sender.
use Rattle.std.specs.Prelude.{◌≡◌, ◌<◌, ◌≤◌, ◌==◌, ℕ, List, [], ◌++◌, Option, Some, None, length, slice_get, if◌then◌else◌}
use Rattle.tipc_outside.specs.declared.outgoing.Outgoing.{Outgoing}
use Rattle.tipc_link.specs.Links.{LinkEnd, after, cut_end}
use Rattle.tipc_link_fsm.specs.Runs.{Call, TickPasses, outcome}
use Rattle.tipc_link_fsm.specs.Table.{on_cut}
use Rattle.tipc_link.specs.Sessions.{SessionEnd, moving, put}
use Rattle.tipc_link_fsm.specs.declared.changes.Change.{Change}
use Rattle.tipc_link_fsm.specs.declared.changes.Change.TheVariants.{Down, Up}
use Rattle.tipc_pair.specs.Courses.{Course, sent_in}
use Rattle.tipc_pair.specs.Facing.{PairEnds, is_up_at, other, with_near}
use Rattle.tipc_pair.specs.PairCalls.{session_at}
use Rattle.tipc_pair.specs.Runs.{left_by, taken_over}
use Rattle.tipc_paired.specs.Deeds.{DoesAll}
use Rattle.tipc_paired.specs.Views.{Frame, View, put_at}

-- The node and its link ends are those of a pair: there are ends on the bearers 0 and 1 alone.
pub record IsOfPair (v : View) (x : PairEnds) : Type 0 where
  pub own : v.node.own ≡ x.own
  pub peer : v.node.peer ≡ x.peer
  pub contact : v.node.contact ≡ x.contact
  pub seen : v.node.seen ≡ x.seen
  pub two_bearers : x.bearer ≤ 1
  pub near : (v.wires x.bearer).end ≡ x.near
  pub far : (v.wires (other x.bearer)).end ≡ x.far
  pub alone : (bearer : ℕ) → 1 < bearer → (v.wires bearer).end ≡ None

-- this frame was told on its bearer, behind so many
pub record IsToldSince (since : ℕ) (v : View) (o : Outgoing) : Type 0 where
  pub place : ℕ
  pub recent : since ≤ place
  pub frame : Frame
  pub there : slice_get v.told place ≡ Some frame
  pub bearer_is : frame.bearer ≡ o.bearer
  pub bytes : frame.bytes ≡ o.frame

-- packets by bearer and epoch: none, these under one epoch, and two lists of them
abbrev pub none_more : ℕ → ℕ → List (List ℕ)
none_more bearer epoch = []

-- these packets on this bearer, under this epoch, and no others
abbrev pub more_at : ℕ → ℕ → List (List ℕ) → ℕ → ℕ → List (List ℕ)
more_at bearer epoch packets = put_at none_more bearer (put_at (none_more bearer) epoch packets)

-- on each bearer and under each epoch first the ones and then the others
abbrev pub both_more : (ℕ → ℕ → List (List ℕ)) → (ℕ → ℕ → List (List ℕ)) → ℕ → ℕ → List (List ℕ)
both_more first second b k = first b k ++ second b k

-- By deeds of v, beside y, these frames were told, and these packets were numbered and taken.
pub record Did (v y after : View) (frames : List Outgoing) (numbered taken : ℕ → ℕ → List (List ℕ)) : Type 0 where
  pub does : DoesAll v y after
  pub boot : after.node.boot ≡ v.node.boot
  pub told : (k : ℕ) (o : Outgoing) → slice_get frames k ≡ Some o → IsToldSince (length v.told) after o
  pub line : (b epoch : ℕ) → (after.wires b).line epoch ≡ (v.wires b).line epoch ++ numbered b epoch
  pub got : (b epoch : ℕ) → (after.wires b).got epoch ≡ (v.wires b).got epoch ++ taken b epoch

-- so the pair took this course
pub record Took (v y after : View) (c : Course) (numbered taken : ℕ → ℕ → List (List ℕ)) : Type 0 where
  pub did : Did v y after (sent_in c) numbered taken
  pub pair : IsOfPair after c.pair

-- by deeds of v, beside y, the pair takes this course, and these packets are numbered and taken
abbrev pub TakesCourse : View → View → Course → (ℕ → ℕ → List (List ℕ)) → (ℕ → ℕ → List (List ℕ)) → Type 0
TakesCourse v y c numbered taken = (after : View) × Took v y after c numbered taken

-- ---- what was numbered when one of two links went up or down

-- on the other link, which gets what a link leaves that went down
abbrev pub failing_more : ℕ → Option SessionEnd → Option SessionEnd → ℕ → ℕ → List (List ℕ)
failing_more bearer (Some lost) (Some s) = more_at bearer s.epoch (moving (put s (left_by lost)))
failing_more bearer lost s = none_more

-- and on a link that takes the traffic over
abbrev pub switching_more : ℕ → Option SessionEnd → Option SessionEnd → ℕ → ℕ → List (List ℕ)
switching_more bearer (Some s) (Some old) = more_at bearer s.epoch (moving (put s (taken_over old)))
switching_more bearer s old = none_more

-- by what follows a change of the near link
abbrev pub followed_more : PairEnds → Change → ℕ → ℕ → List (List ℕ)
followed_more x Up = if is_up_at x.far then (if x.bearer == 0 then switching_more x.bearer (session_at x.near) (session_at x.far) else none_more) else none_more
followed_more x (Down cause) = if is_up_at x.far then failing_more (other x.bearer) (session_at x.near) (session_at x.far) else none_more
followed_more x change = none_more

-- by a call at the near link: a tick; and where the bearer is cut
abbrev pub called_more : PairEnds → Option LinkEnd → Call → ℕ → ℕ → List (List ℕ)
called_more x None call = none_more
called_more x (Some e) call = followed_more (with_near x (after e (outcome e.fsm call))) (outcome e.fsm call).change

-- what is numbered by what follows a tick at the near link
abbrev pub tick_more : PairEnds → ℕ → ℕ → List (List ℕ)
tick_more x = called_more x x.near (TickPasses (is_up_at x.far))

-- what is numbered by what follows where the near link's bearer is cut; nothing where no end was made
abbrev pub cut_at_more : PairEnds → Option LinkEnd → ℕ → ℕ → List (List ℕ)
cut_at_more x None = none_more
cut_at_more x (Some e) = followed_more (with_near x (cut_end e (is_up_at x.far))) (on_cut e.fsm (is_up_at x.far)).change
