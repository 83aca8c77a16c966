-- When a world is poised to settle and stays so, what is under way in it, and when it stands at the beginning of coming
-- up.
use Rattle.std.specs.Prelude.{◌≡◌, ◌≢◌, ◌⊎◌, ◌≤◌, ℕ, ◌+◌, ◌-◌, true, false, List, Option, None, Some, length, sum_by}
use Rattle.tipc_types.specs.LinkStates.{is_up}
use Rattle.tipc_types.specs.declared.message_forms.Flow.{Flow}
use Rattle.tipc_types.specs.declared.message_forms.Flow.TheVariants.{Broadcast, One, Zero}
use Rattle.tipc_link_fsm.specs.Table.{is_held}
use Rattle.tipc_link.specs.Links.{LinkEnd}
use Rattle.tipc_replay.specs.Readers.{unacked_in, waiting_in}
use Rattle.tipc_replay.specs.States.{MemberState, accepted_at, contact_at, delivered_at, has_member, is_link_up_at, is_mended_at, link_at}
use Rattle.tipc_world.specs.declared.settling.Settled.{Settled}
use Rattle.tipc_world.specs.declared.settling.Settled.TheVariants.{Quiet}
use Rattle.tipc_world.specs.Answered.{sum_to}
use Rattle.tipc_world.specs.States.{WorldState}

-- ---- links that stand, and links that are cut

-- a link end is up, knows the present epoch of its peer's end, and wasn't silent for 4 ticks
pub record IsUpTowards (e peer : LinkEnd) : Type 0 where
  pub up : is_up e.fsm.state ≡ true
  pub knows : e.fsm.peer ≡ Some peer.fsm.own
  pub heard : e.fsm.silent ≢ 4

-- two nodes are in the same contact: each one's own number is the other's of the peer
pub record ShareContact (members : List (Option MemberState)) (a b : ℕ) : Type 0 where
  pub numbers : ℕ × ℕ
  pub here : contact_at members a b ≡ Some numbers
  pub there : contact_at members b a ≡ Some (numbers.1, numbers.0)

-- The link between two nodes on a bearer stands: both its ends are up, each knows the other's present epoch, neither
-- was silent for 4 ticks, and the two nodes are in the same contact.
pub record LinkStands (members : List (Option MemberState)) (a b bearer : ℕ) : Type 0 where
  pub near : LinkEnd
  pub far : LinkEnd
  pub near_is : link_at members a b bearer ≡ Some near
  pub far_is : link_at members b a bearer ≡ Some far
  pub near_up : IsUpTowards near far
  pub far_up : IsUpTowards far near
  pub contact : ShareContact members a b

-- It is cut: each of its ends is down or wasn't made, and the bearer is cut at one of the two nodes. A held end is
-- down.
pub record LinkIsCut (members : List (Option MemberState)) (a b bearer : ℕ) : Type 0 where
  pub near : is_link_up_at members a b bearer ≡ false
  pub far : is_link_up_at members b a bearer ≡ false
  pub cut : (is_mended_at members a bearer ≡ false) ⊎ (is_mended_at members b bearer ≡ false)

-- A world is poised to settle: for each two nodes and each bearer, the link between them stands or is cut.
abbrev pub IsPoised : WorldState → Type 0
IsPoised w = (a b bearer : ℕ) → has_member w.members a ≡ true → has_member w.members b ≡ true → a ≢ b → bearer ≤ 1
    → LinkStands w.members a b bearer ⊎ LinkIsCut w.members a b bearer

-- From one moment to a later one a world stays poised: it is poised then too, each link end is up just where it was,
-- and each two nodes are in the contact in which they were.
pub record StaysPoised (old new : WorldState) : Type 0 where
  pub poised : IsPoised new
  pub links : (a b bearer : ℕ) → bearer ≤ 1 → is_link_up_at new.members a b bearer ≡ is_link_up_at old.members a b bearer
  pub contacts : (a b : ℕ) → contact_at new.members a b ≡ contact_at old.members a b

-- ---- what is under way

-- how many messages node a accepted for node b in a contact and a flow that weren't delivered yet
abbrev pub undelivered_in : List (Option MemberState) → ℕ → ℕ → ℕ × ℕ → Flow → ℕ
undelivered_in members a b contact flow =
    length (accepted_at members a b contact.0 contact.1 flow) - length (delivered_at members b a contact.1 contact.0 flow)

-- and in all flows of a contact, where there is one
abbrev pub undelivered_with : List (Option MemberState) → ℕ → ℕ → Option (ℕ × ℕ) → ℕ
undelivered_with members a b None = 0
undelivered_with members a b (Some contact) =
    undelivered_in members a b contact Zero + undelivered_in members a b contact One + undelivered_in members a b contact Broadcast

-- and in the contact in which node a is with node b
unfoldable pub undelivered : List (Option MemberState) → ℕ → ℕ → ℕ
undelivered members a b = undelivered_with members a b (contact_at members a b)

-- the packets that are unacknowledged and that wait, on all links that are up and on all broadcast links
abbrev pub packets_under_way : WorldState → ℕ
packets_under_way w = sum_by unacked_in w.members + sum_by waiting_in w.members

-- the messages that were accepted and aren't delivered yet, of each node for each other one with which it is in contact
abbrev pub messages_under_way : WorldState → ℕ
messages_under_way w = sum_to (λ a. sum_to (λ b. undelivered w.members a b) 32) 32

-- the load of a world: packets and messages that are under way
unfoldable pub load_under_way : WorldState → ℕ
load_under_way w = packets_under_way w + messages_under_way w

-- All is delivered: of each node, what it accepted for each other one with which it is in contact, in each flow.
abbrev pub IsAllDelivered : WorldState → Type 0
IsAllDelivered w = (a b own theirs : ℕ) (flow : Flow) → contact_at w.members a b ≡ Some (own, theirs)
    → delivered_at w.members b a theirs own flow ≡ accepted_at w.members a b own theirs flow

-- A call that settled came to rest: its answer is that no packet is under way, and all is delivered.
pub record ComesToRest (settled : Settled) (now : WorldState) : Type 0 where
  pub quiet : settled ≡ Quiet
  pub delivered : IsAllDelivered now

-- ---- before a cluster comes up

-- a link end is neither up nor held
pub record IsDownEnd (e : LinkEnd) : Type 0 where
  pub down : is_up e.fsm.state ≡ false
  pub free : is_held e.fsm.state ≡ false

-- no link end of any node is up or held
abbrev pub IsDownWorld : WorldState → Type 0
IsDownWorld w = (a b bearer : ℕ) (e : LinkEnd) → link_at w.members a b bearer ≡ Some e → IsDownEnd e
