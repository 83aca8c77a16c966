-- A pair is for one peer, and its numbers are of one boot: so it is with each of its link ends, and each session.
use Rattle.std.specs.Prelude.{◌≡◌, ◌≤◌, ◌<◌, ◌^◌, ℕ, Some, IfSome}
use Rattle.tipc_link.specs.Links.{LinkEnd}
use Rattle.tipc_link.specs.Sessions.{SessionEnd}
use Rattle.tipc_pair.specs.Facing.{PairEnds}
use Rattle.tipc_pair.specs.PairFacts.{AreStatesOf}

-- a number can be an epoch or a contact number: its upper 32 bits are a boot number, from 1 on
abbrev pub IsEpoch : ℕ → Type 0
IsEpoch number = (4294967296 ≤ number) × (number < 2 ^ 64)

-- a session with the node with that address word, under an epoch
abbrev pub IsSessionWith : ℕ → SessionEnd → Type 0
IsSessionWith word s = (s.peer ≡ word) × IsEpoch s.epoch

-- a link end whose frames are for the node with that address word, each under an epoch
pub record IsEndTo (word : ℕ) (e : LinkEnd) : Type 0 where
  pub peer : e.peer ≡ word
  pub epoch : IsEpoch e.fsm.own
  pub session : (s : SessionEnd) → e.session ≡ Some s → IsSessionWith word s

-- the contact number of a pair is of a boot, and the link states of both ends are under it
pub record HasEpochs (x : PairEnds) : Type 0 where
  pub contact : IsEpoch x.contact
  pub near : IfSome x.near (λ (e : LinkEnd). AreStatesOf x.contact e.fsm)
  pub far : IfSome x.far (λ (e : LinkEnd). AreStatesOf x.contact e.fsm)

-- a pair, seen from bearer 0's link, whose frames are for it
pub record Names (word : ℕ) (x : PairEnds) : Type 0 where
  pub first : x.bearer ≡ 0
  pub peer : x.peer ≡ word
  pub epochs : HasEpochs x
  pub near : IfSome x.near (IsEndTo word)
  pub far : IfSome x.far (IsEndTo word)
