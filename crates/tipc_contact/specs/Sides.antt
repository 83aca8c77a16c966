-- The two sides of a pair of nodes: what each keeps of the other, what it may do, and what it says.
use Rattle.std.specs.Prelude.{◌≡◌, ◌<◌, ℕ, ◌+◌, ◌*◌, ◌/◌, ◌==◌, false, List, Option, Some, None, option_map, slice_get, if◌then◌else◌}
use Rattle.tipc_types.specs.LinkStates.{is_up}
use Rattle.tipc_link_fsm.specs.Table.{Fsm, fresh, is_last}
use Rattle.tipc_link_fsm.specs.Runs.{Call, ResetArrives, ActivateArrives, ForgetsPeer, ContactEnds, outcome}

-- A side: the node's contact number for the peer, the highest that the peer has shown (0 where it has shown none), and its
-- link ends to the peer by bearer.
pub record Side : Type 0 where
  pub own : ℕ
  pub seen : ℕ
  pub ends : ℕ → Option Fsm

-- contact numbers and epochs alike have the boot number in their upper 32 bits, and a count from 1 in the lower ones
abbrev pub boot_of : ℕ → ℕ
boot_of number = number / 4294967296

-- the first contact number of a boot; no link end has a lower epoch in it
abbrev pub first_number : ℕ → ℕ
first_number boot = boot * 4294967296 + 1

-- a node that knows nothing of the peer
abbrev pub alone : ℕ → Side
alone boot = record { own = first_number boot; seen = 0; ends = λ bearer. None }

-- ---- what a side says

-- A frame on a link: its bearer, the sender's epoch, and the receiver's as the sender knows it, or 0; and the contact numbers
-- that the sender had then, its own and the highest that the peer had shown. RESET and ACTIVATE show these two.
pub record Notice : Type 0 where
  pub bearer : ℕ
  pub es : ℕ
  pub er : ℕ
  pub contact : ℕ
  pub peer_contact : ℕ

-- an epoch of the peer as a frame shows it: 0 where it isn't known
abbrev pub known : Option ℕ → ℕ
known None = 0
known (Some epoch) = epoch

-- a side says how it stands
pub record IsSaid (s : Side) (m : Notice) : Type 0 where
  pub end : Fsm
  pub there : s.ends m.bearer ≡ Some end
  pub es : m.es ≡ end.own
  pub er : m.er ≡ known end.peer
  pub contact : m.contact ≡ s.own
  pub peer_contact : m.peer_contact ≡ s.seen

-- one of these notices shows the epoch on the bearer, under this contact number
pub record IsNoticed (notices : List Notice) (bearer epoch contact : ℕ) : Type 0 where
  pub place : ℕ
  pub notice : Notice
  pub there : slice_get notices place ≡ Some notice
  pub bearer_is : notice.bearer ≡ bearer
  pub epoch_is : notice.es ≡ epoch
  pub contact_is : notice.contact ≡ contact

-- ---- what a side does

-- what a side does, one action at a time
pub data Action : Type 0 where
  EndMade : (bearer : ℕ) → Action
  EndCalled : (bearer : ℕ) (call : Call) → Action
  HigherShown : (number : ℕ) → Action
  ContactEnded : Action
  Restarted : (boot : ℕ) → Action

-- the link states of an end after this call; none where there is no end
abbrev pub after_call : Call → Option Fsm → Option Fsm
after_call call end = option_map (λ e. (outcome e call).after) end

-- a link end is made under the node's present contact number; a call is made at one link end; the peer shows a higher
-- contact number; the contact ends; the node is restarted
abbrev pub acted : Side → Action → Side
acted s (EndMade bearer) = record { own = s.own; seen = s.seen; ends = λ x. if x == bearer then Some (fresh s.own) else s.ends x }
acted s (EndCalled bearer call) = record { own = s.own; seen = s.seen; ends = λ x. if x == bearer then after_call call (s.ends x) else s.ends x }
acted s (HigherShown number) = record { own = s.own; seen = number; ends = λ x. after_call ForgetsPeer (s.ends x) }
acted s ContactEnded = record { own = s.own + 1; seen = s.seen; ends = λ x. after_call ContactEnds (s.ends x) }
acted s (Restarted boot) = alone boot

-- no link is up
abbrev pub AreDown : (ℕ → Option Fsm) → Type 0
AreDown ends = (bearer : ℕ) (end : Fsm) → ends bearer ≡ Some end → is_up end.state ≡ false

-- A RESET or an ACTIVATE is given to a link end only while the contact number that it shows is the highest seen; the calls
-- that end a contact or forget the peer are made at all link ends.
abbrev pub MayBeGiven : Side → List Notice → ℕ → Call → Type 0
MayBeGiven s heard bearer (ResetArrives es held) = IsNoticed heard bearer es s.seen
MayBeGiven s heard bearer (ActivateArrives es er) = IsNoticed heard bearer es s.seen
MayBeGiven s heard bearer ForgetsPeer = ⊥
MayBeGiven s heard bearer ContactEnds = ⊥
MayBeGiven s heard bearer other = Unit {0}

-- what a side may do that has heard these notices of the peer
abbrev pub MayAct : Side → List Notice → Action → Type 0
MayAct s heard (EndMade bearer) = s.ends bearer ≡ None
MayAct s heard (EndCalled bearer call) = MayBeGiven s heard bearer call
MayAct s heard (HigherShown number) = (s.seen < number) × AreDown s.ends
MayAct s heard ContactEnded = is_last s.own ≡ false
MayAct s heard (Restarted boot) = boot_of s.own < boot
