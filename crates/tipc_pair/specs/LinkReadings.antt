-- What is read from the link ends of a pair: the epochs and the silence of a link that is up, its load, and what holds of each end.
use Rattle.std.specs.Prelude.{◌≡◌, ◌≤◌, ◌⊎◌, IfSome, nat_le, ℕ, ◌||◌, true, [], Option, Some, None, if◌then◌else◌, is_some, length, option_and_then, option_map}
use Rattle.tipc_types.specs.LinkStates.{is_up}
use Rattle.tipc_types.specs.Limits.{window_size}
use Rattle.tipc_link_fsm.specs.Table.{is_reset_reset}
use Rattle.tipc_link.specs.Links.{LinkEnd, known}
use Rattle.tipc_link.specs.Sessions.{SessionEnd}
use Rattle.tipc_pair.specs.Facing.{PairEnds, facing, active}
use Rattle.tipc_pair.specs.PairCalls.{load_of as link_load}

-- the two epochs of a link that is up
abbrev pub epochs_of : LinkEnd → Option (ℕ × ℕ)
epochs_of e = if is_up e.fsm.state then Some (e.fsm.own, known e.fsm.peer) else None

-- for how many ticks the peer wasn't heard while the link is up
abbrev pub silence_of : LinkEnd → ℕ
silence_of e = if is_up e.fsm.state then e.fsm.silent else 0

-- the same of a link end, where there is one
abbrev pub silence_in : Option LinkEnd → ℕ
silence_in None = 0
silence_in (Some e) = silence_of e

-- the two epochs of the link of a bearer to a peer, where it is up; there are two bearers
abbrev pub epochs_on : ℕ → PairEnds → Option (ℕ × ℕ)
epochs_on bearer x = if nat_le bearer 1 then option_and_then epochs_of (facing bearer x).near else None

-- an end that is up or heard its peer's reset has seen no epoch of the peer above the one that it knows; and one that is up has a session
pub record IsAbreast (e : LinkEnd) : Type 0 where
  pub peer_is : (is_up e.fsm.state || is_reset_reset e.fsm.state) ≡ true → e.fsm.peer ≡ Some e.fsm.highest
  pub begun : is_up e.fsm.state ≡ true → is_some e.session ≡ true

-- a pair, seen from bearer 0's link, whose ends are so, each on its bearer
pub record AreAbreast (x : PairEnds) : Type 0 where
  pub first : x.bearer ≡ 0
  pub near : IfSome x.near IsAbreast
  pub far : IfSome x.far IsAbreast
  pub near_on : IfSome x.near (λ (e : LinkEnd). e.bearer ≡ 0)
  pub far_on : IfSome x.far (λ (e : LinkEnd). e.bearer ≡ 1)

-- at a session 50 packets are unacknowledged at most, and as many are where packets wait
abbrev pub IsPacked : SessionEnd → Type 0
IsPacked s = (length s.sending.unacked ≤ window_size) × ((s.sending.waiting ≡ []) ⊎ (length s.sending.unacked ≡ window_size))

-- so it is at the session of a link end, where it has one
abbrev pub IsPackedEnd : LinkEnd → Type 0
IsPackedEnd e = IfSome e.session IsPacked

-- so it is at both link ends of a pair
pub record IsPackedPair (x : PairEnds) : Type 0 where
  pub near : IfSome x.near IsPackedEnd
  pub far : IfSome x.far IsPackedEnd

-- how many packets are unacknowledged and how many wait on the active link to a peer, where the node is in contact with it
abbrev pub active_load : PairEnds → Option (ℕ × ℕ)
active_load x = option_map (λ bearer. link_load (facing bearer x).near) (active x)
