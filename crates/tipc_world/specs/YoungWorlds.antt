-- How old the frames of a round are: what was numbered since they were sent.
use Rattle.std.specs.Prelude.{◌≡◌, ◌≢◌, ◌≤◌, ◌+◌, ℕ, true, length}
use Rattle.tipc_types.specs.Address.{node_word}
use Rattle.tipc_types.specs.Limits.{most_age, window_size}
use Rattle.tipc_types.specs.declared.identity.To.TheVariants as to
use Rattle.tipc_header.specs.declared.frames.FrameKind.TheVariants.{Casts}
use Rattle.tipc_header.specs.Frames.{first_of, kind_in}
use Rattle.tipc_broadcast.specs.Casting.{accepted}
use Rattle.tipc_paired.specs.Views.{er_of}
use Rattle.tipc_node.specs.Turns.{is_to}
use Rattle.tipc_replay.specs.declared.air.Sent.{Sent}
use Rattle.tipc_replay.specs.Air.{goes}
use Rattle.tipc_replay.specs.Casters.{casting_at}
use Rattle.tipc_replay.specs.Due.{age_of}
use Rattle.tipc_replay.specs.Sound.{IsNumber}
use Rattle.tipc_replay.specs.States.{boot_at, count_at}
use Rattle.tipc_world.specs.declared.places.Places.{Places}
use Rattle.tipc_world.specs.RoundParts.{HasArrivedOnce, HoldsBehind, IsRound}
use Rattle.tipc_world.specs.States.{WorldState, is_there}
use Rattle.tipc_world.specs.StillWorlds.{footing_at}

-- ---- counts

-- how many packets node a numbered for node b on a bearer, in the session in which its link was up when the call began
abbrev pub link_count : WorldState → WorldState → ℕ → ℕ → ℕ → ℕ
link_count start w a b bearer = count_at w.members a b bearer ((footing_at start a b).epoch bearer)

-- how many packets the broadcast link of a node accepted in its present boot: those that have a number, and those that
-- wait
abbrev pub casts_at : WorldState → ℕ → ℕ
casts_at w n = accepted (casting_at w.members n).sending

-- Between two moments each link that was up when the call began numbered packets, at most so many.
pub record NumbersFew (start base w : WorldState) (most : ℕ) : Type 0 where
  pub more : (a b bearer : ℕ) → IsNumber a → IsNumber b → a ≢ b → bearer ≤ 1 → (footing_at start a b).up bearer ≡ true → link_count start base a b bearer ≤ link_count start w a b bearer
  pub few : (a b bearer : ℕ) → IsNumber a → IsNumber b → a ≢ b → bearer ≤ 1 → (footing_at start a b).up bearer ≡ true → link_count start w a b bearer ≤ link_count start base a b bearer + most

-- No broadcast link accepted anything since the call began.
abbrev pub CastsNothing : WorldState → WorldState → Type 0
CastsNothing start w = (n : ℕ) → is_there w n ≡ true → casts_at w n ≡ casts_at start n

-- ---- frames

-- what stands beside a frame of node a to node b is no less than what both had numbered at a moment
pub record IsCountedSince (start base : WorldState) (bearer : ℕ) (f : Sent) (a b : ℕ) : Type 0 where
  pub own : (footing_at start a b).up bearer ≡ true → link_count start base a b bearer ≤ f.numbered
  pub peer : er_of f.frame ≡ (footing_at start b a).epoch bearer → (footing_at start b a).up bearer ≡ true → link_count start base b a bearer ≤ f.peer_numbered

-- and what stands beside it of the broadcast of its sender, and of the node that it is for, is not far below what they
-- accepted; a waiting list holds at most 246 packets
pub record IsCastSince (start : WorldState) (f : Sent) : Type 0 where
  pub boot : (a : ℕ) → f.from.word ≡ node_word a → f.to ≡ to.All → kind_in f.frame ≡ Casts → first_of f.frame ≡ boot_at start.members a
  pub own : (a : ℕ) → f.from.word ≡ node_word a → casts_at start a ≤ f.casts + 246
  pub peer_boot : (b : ℕ) → is_to b f.to ≡ true → f.peer_boot ≡ boot_at start.members b
  pub peer : (b : ℕ) → is_there start b ≡ true → is_to b f.to ≡ true → casts_at start b ≤ f.peer_casts + 246

-- A frame was sent since a moment of a call.
pub record IsSince (start base : WorldState) (bearer : ℕ) (f : Sent) : Type 0 where
  pub links : (a b : ℕ) → bearer ≤ 1 → IsNumber a → IsNumber b → a ≢ b → goes a b f ≡ true → IsCountedSince start base bearer f a b
  pub casts : IsCastSince start f

-- ---- a round

-- The frames behind some places are young: since a moment after which they were sent no link numbered more than a
-- window's packets.
pub record AreYoung (start : WorldState) (places : Places) (w : WorldState) : Type 0 where
  pub base : WorldState
  pub numbers : NumbersFew start base w window_size
  pub casts : CastsNothing start w
  pub frames : HoldsBehind places (IsSince start base) w

-- no frame of a round is too old when it arrives
pub record ArriveYoung (places : Places) (start : WorldState) (ends : Places) (now : WorldState) (r : IsRound places start ends now) : Type 0 where
  pub first : (place n : ℕ) (f : Sent) → IsNumber n → (once : HasArrivedOnce 0 places.first (length r.ticked.air.first) r.ticked r.between place n f) → age_of once.before.members f n 0 ≤ most_age
  pub second : (place n : ℕ) (f : Sent) → IsNumber n → (once : HasArrivedOnce 1 places.second (length r.ticked.air.second) r.between now place n f) → age_of once.before.members f n 1 ≤ most_age
