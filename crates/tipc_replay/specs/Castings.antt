-- Every node of a world is a caster, and every other one its member: together they stand in the law of broadcast.
use Rattle.std.specs.Prelude.{◌≡◌, ◌≢◌, ℕ, List, Option, Some, slice_get}
use Rattle.tipc_types.specs.Address.{node_word}
use Rattle.tipc_types.specs.declared.message_forms.Flow.TheVariants.{Broadcast}
use Rattle.tipc_types.specs.declared.message_forms.Message.{Message}
use Rattle.tipc_casters.specs.Views.{AreCastSeen}
use Rattle.tipc_node.specs.Messages.{IsSendable}
use Rattle.tipc_replay.specs.Casters.{caster_at, casting_at, members_of}
use Rattle.tipc_replay.specs.Skies.{AirState}
use Rattle.tipc_replay.specs.Sound.{IsNumber}
use Rattle.tipc_replay.specs.States.{MemberState, boot_at, delivered_at}

-- node a: its broadcast link is that of its boot
pub record IsCaster (members : List (Option MemberState)) (air : AirState) (a : ℕ) : Type 0 where
  pub own : (casting_at members a).own ≡ node_word a
  pub boot : (casting_at members a).boot ≡ boot_at members a
  pub seen : AreCastSeen (caster_at members air a) (members_of members air a)
  -- what was delivered of its broadcast at another node are messages that it can send
  pub delivered : (m own theirs k : ℕ) (message : Message) → IsNumber m → m ≢ a
      → slice_get (delivered_at members m a own theirs Broadcast) k ≡ Some message → IsSendable (node_word a) message

abbrev pub AreCasting : List (Option MemberState) → AirState → Type 0
AreCasting members air = (a : ℕ) → IsNumber a → IsCaster members air a
