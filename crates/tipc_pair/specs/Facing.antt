-- A pair with a link end on each bearer, or on one, or on none yet, as one of its two nodes keeps it. It is seen from one of its links, which
-- is the near one: so what is said of a link is said of the near one, once for both bearers.
use Rattle.std.specs.Prelude.{ℕ, Bool, false, ◌||◌, ◌-◌, ◌==◌, List, [], ◌∷◌, ◌++◌, Option, Some, None, option_map, if◌then◌else◌}
use Rattle.tipc_types.specs.LinkStates.{is_up}
use Rattle.tipc_types.specs.declared.link_words.LinkState.{LinkState}
use Rattle.tipc_fragments.specs.Joining.{Joining, fresh}
use Rattle.tipc_link_fsm.specs.Table.{is_held}
use Rattle.tipc_contact.specs.Sides.{first_number}
use Rattle.tipc_link.specs.Links.{LinkEnd, made}

-- a pair, as contracts see it
pub record PairEnds : Type 0 where
  -- address words
  pub own : ℕ
  pub peer : ℕ
  -- the contact numbers: the node's own, and the highest that the peer has shown
  pub contact : ℕ
  pub seen : ℕ
  -- the bearer of the near link, 0 or 1; and the ends that were made
  pub bearer : ℕ
  pub near : Option LinkEnd
  pub far : Option LinkEnd
  -- the message that is begun of what was taken on either link
  pub begun : Joining

-- the other bearer
abbrev pub other : ℕ → ℕ
other bearer = 1 - bearer

-- the same pair, seen from its other link, and from the link of a bearer
abbrev pub turned : PairEnds → PairEnds
turned x = record x { bearer = other x.bearer; near = x.far; far = x.near }

-- the same pair, seen from the link of this bearer
unfoldable pub facing : ℕ → PairEnds → PairEnds
facing bearer x = if x.bearer == bearer then x else turned x

-- the pair of a node that has just begun its boot: no end is made, and the peer has shown nothing
abbrev pub alone : ℕ → ℕ → ℕ → PairEnds
alone own peer boot = record {
  own = own;
  peer = peer;
  contact = first_number boot;
  seen = 0;
  bearer = 0;
  near = None;
  far = None;
  begun = fresh;
}

-- an end is made under the node's present contact number, on a bearer that counts as cut
abbrev pub with_made : PairEnds → PairEnds
with_made x = record x { near = Some (record (made x.own x.peer x.bearer x.contact) { peer_contact = x.seen }) }

-- the pair with another near end
abbrev pub with_near : PairEnds → LinkEnd → PairEnds
with_near x e = record x { near = Some e }

-- the pair with another far end
abbrev pub with_far : PairEnds → LinkEnd → PairEnds
with_far x e = record x { far = Some e }

-- ---- what is read of a pair

-- whether there is an end, and its link is up
abbrev pub is_up_at : Option LinkEnd → Bool
is_up_at None = false
is_up_at (Some e) = is_up e.fsm.state

-- whether there is an end, and it is held
abbrev pub is_held_at : Option LinkEnd → Bool
is_held_at None = false
is_held_at (Some e) = is_held e.fsm.state

-- the node is in contact with the peer while a link is up
abbrev pub in_contact : PairEnds → Bool
in_contact x = is_up_at x.near || is_up_at x.far

-- the contact of the node with the peer: its own number and the peer's; none while no link is up
abbrev pub contact_between : PairEnds → Option (ℕ × ℕ)
contact_between x = if in_contact x then Some (x.contact, x.seen) else None

-- the active link is the up link of the higher priority, which is bearer 0's
abbrev pub active_of : Option LinkEnd → Option LinkEnd → Option ℕ
active_of first second = if is_up_at first then Some 0 else (if is_up_at second then Some 1 else None)

-- the bearer of the active link; none while no link is up
abbrev pub active : PairEnds → Option ℕ
active x = active_of (facing 0 x).near (facing 1 x).near

-- the ends that there are, by bearer, and their states
abbrev pub made_of : Option LinkEnd → List LinkEnd
made_of None = []
made_of (Some e) = e ∷ []

-- the ends that were made, bearer 0's first
abbrev pub ends_of : PairEnds → List LinkEnd
ends_of x = made_of (facing 0 x).near ++ made_of (facing 1 x).near

-- the link state of an end, where it was made
abbrev pub state_of : Option LinkEnd → Option LinkState
state_of end = option_map (λ (e : LinkEnd). e.fsm.state) end

-- the link states of both ends, bearer 0's first
abbrev pub states_of : PairEnds → Option LinkState × Option LinkState
states_of x = (state_of (facing 0 x).near, state_of (facing 1 x).near)
