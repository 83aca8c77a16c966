-- The boots beside a frame in the air, and the broadcast numbers of its sender there. The receiver's boot is no earlier than that of the contact beside the
-- frame, and no later than its present one.
use Rattle.std.specs.Prelude.{◌≡◌, ◌≢◌, ◌≤◌, ℕ, true, List, Option, Some, None, slice_get, slice_index_or}
use Rattle.tipc_types.specs.Address.{node_word}
use Rattle.tipc_contact.specs.Sides.{boot_of}
use Rattle.tipc_node.specs.Turns.{is_to}
use Rattle.tipc_replay.specs.declared.air.Sent.{Sent}
use Rattle.tipc_replay.specs.Skies.{AirState, air_on}
use Rattle.tipc_replay.specs.Sound.{IsNumber}
use Rattle.tipc_replay.specs.States.{MemberState, boot_at, cast_count_at}

abbrev pub IsAged : List (Option MemberState) → Sent → Type 0
IsAged members f = (b : ℕ) → IsNumber b → is_to b f.to ≡ true → (boot_of f.contact.1 ≤ f.peer_boot) × (f.peer_boot ≤ boot_at members b)

-- The sender's boot in the contact beside the frame has begun, and in it the sender has used no fewer broadcast numbers than stand there.
abbrev pub HasCastsCounted : List (Option MemberState) → Sent → Type 0
HasCastsCounted members f = (a b : ℕ) → IsNumber a → IsNumber b → a ≢ b → f.from.word ≡ node_word a → is_to b f.to ≡ true
    → (boot_of f.contact.0 ≤ boot_at members a) × (f.casts ≤ cast_count_at members a (boot_of f.contact.0))

-- So it is with every frame; and each boot has a number from 1 on.
pub record AreAged (members : List (Option MemberState)) (air : AirState) : Type 0 where
  pub frames : (bearer k : ℕ) (f : Sent) → slice_get (air_on bearer air) k ≡ Some f → IsAged members f
  pub counted : (bearer k : ℕ) (f : Sent) → slice_get (air_on bearer air) k ≡ Some f → HasCastsCounted members f
  pub begun : (n : ℕ) (m : MemberState) → slice_index_or members n None ≡ Some m → 1 ≤ m.node.boot
