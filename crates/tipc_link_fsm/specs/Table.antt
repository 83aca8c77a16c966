-- The table of link states: what each event changes in each state.
use Rattle.std.specs.Prelude.{◌==◌, ◌&&◌, ◌||◌, ◌+◌, ◌%◌, if◌then◌else◌, nat_lt, nat_le, not, ℕ, Bool, true, false, Option, Some, None}
use Rattle.tipc_types.specs.LinkStates.{is_up}
use Rattle.tipc_types.specs.declared.link_words.LinkState.{LinkState}
use Rattle.tipc_types.specs.declared.link_words.LinkState.TheVariants.{ResetUnknown, ResetReset, WorkingWorking, WorkingUnknown, Held}
use Rattle.tipc_types.specs.declared.link_words.Cause.TheVariants as cause
use Rattle.tipc_types.specs.declared.link_words.Reply.TheVariants as reply
use Rattle.tipc_types.specs.declared.link_words.Why.TheVariants as why
use Rattle.tipc_link_fsm.specs.declared.changes.Change.{Change}
use Rattle.tipc_link_fsm.specs.declared.changes.Change.TheVariants.{Stay, Up, Down, Answer, Ignore}

-- a link end: its own epoch, the peer's where it is known, the highest epoch of the peer that was taken,
-- its state, and for how many ticks the peer wasn't heard
pub record Fsm : Type 0 where
  pub own : ℕ
  pub peer : Option ℕ
  pub highest : ℕ
  pub state : LinkState
  pub silent : ℕ

-- a link end after a call, and what the call did
pub record Outcome : Type 0 where
  pub after : Fsm
  pub change : Change

-- the outcome of a call: the link end after it, and what the call did
abbrev pub gives : Fsm → Change → Outcome
gives after change = record { after = after; change = change }

-- a new link end
abbrev pub fresh : ℕ → Fsm
fresh epoch = record { own = epoch; peer = None; highest = 0; state = ResetUnknown; silent = 0 }

-- whether it is down and not held
abbrev pub is_in_reset : LinkState → Bool
is_in_reset ResetUnknown = true
is_in_reset ResetReset = true
is_in_reset _ = false

-- whether its peer's reset was heard
abbrev pub is_reset_reset : LinkState → Bool
is_reset_reset ResetReset = true
is_reset_reset _ = false

-- whether it is held
abbrev pub is_held : LinkState → Bool
is_held Held = true
is_held _ = false

-- whether the peer's epoch is known and is this one
abbrev pub is_peer : Option ℕ → ℕ → Bool
is_peer None es = false
is_peer (Some p) es = p == es

-- whether the two epochs of a frame are those of the session
abbrev pub is_session : Fsm → ℕ → ℕ → Bool
is_session s es er = is_peer s.peer es && (er == s.own)

-- whether an epoch is the last of its boot: its count, the lower 32 bits, is at its greatest
unfoldable pub is_last : ℕ → Bool
is_last epoch = (epoch % 4294967296) == 4294967295

-- the epoch after this one; the last of a boot is kept
abbrev pub next_epoch : ℕ → ℕ
next_epoch epoch = if is_last epoch then epoch else epoch + 1

-- an end that goes down: it takes the next epoch, and is held where the pair's other link is up
abbrev pub lowered : Fsm → Bool → Fsm
lowered s held =
    record {
      own = next_epoch s.own;
      peer = s.peer;
      highest = s.highest;
      state = if held then Held else ResetUnknown;
      silent = 0;
    }

-- an up end that heard its peer
abbrev pub heard : Fsm → Fsm
heard s = record s { state = WorkingWorking; silent = 0 }

-- an end that took this epoch of its peer
abbrev pub took_epoch : Fsm → ℕ → LinkState → Fsm
took_epoch s es state = record s { peer = Some es; highest = es; state = state; silent = 0 }

-- a RESET arrives. The rows, the first that fits:
--   an end that is held ignores it
--   its epoch is below the highest seen, or is that of the link that is up: ignored
--   an end that is up goes down
--   an end in reset takes the epoch, is in RESET_RESET and sends ACTIVATE
unfoldable pub on_reset : Fsm → ℕ → Bool → Outcome
on_reset s es held =
    if is_held s.state then gives s (Ignore why.Held)
    else (if nat_lt es s.highest || (is_up s.state && is_peer s.peer es) then gives s (Ignore why.Epoch)
    else (if is_up s.state then gives (lowered s held) (Down cause.PeerReset)
    else gives (took_epoch s es ResetReset) (Answer reply.Activate)))

-- an ACTIVATE arrives. The rows, the first that fits:
--   an end that is held ignores it
--   an end in reset whose own epoch it shows, and that saw no higher epoch, takes the epoch and goes up;
--     not at the last epoch of a boot
--   an end that is up hears it where both epochs are those of the session
--   else it is ignored
unfoldable pub on_activate : Fsm → ℕ → ℕ → Outcome
on_activate s es er =
    if is_held s.state then gives s (Ignore why.Held)
    else (if (is_in_reset s.state && not (is_last s.own)) && ((er == s.own) && not (nat_lt es s.highest)) then gives (took_epoch s es WorkingWorking) Up
    else (if is_up s.state && is_session s es er then gives (heard s) Stay
    else gives s (Ignore why.Epoch)))

-- a STATE or a numbered packet arrives. The rows, the first that fits:
--   both epochs are those of the session and the end is in RESET_RESET: it goes up; not at the last epoch of a boot
--   both are, and the end is up: it is taken by the link
--   else it is ignored
unfoldable pub on_traffic : Fsm → ℕ → ℕ → Outcome
on_traffic s es er =
    if is_session s es er && (is_reset_reset s.state && not (is_last s.own)) then gives (heard s) Up
    else (if is_session s es er && is_up s.state then gives (heard s) Stay
    else gives s (Ignore why.Epoch))

-- an up end that wasn't heard for one more tick; from two on its state is WORKING_UNKNOWN
abbrev pub unheard : Fsm → Fsm
unheard s = record s { state = if nat_le 1 s.silent then WorkingUnknown else WorkingWorking; silent = s.silent + 1 }

-- a tick at an up end: at a silent count of 4 it goes down; else the count rises and it sends STATE,
-- which probes where the count was at least 1 before
abbrev pub up_tick : Fsm → Bool → Outcome
up_tick s held =
    if s.silent == 4 then gives (lowered s held) (Down cause.Silent)
    else gives (unheard s) (Answer (reply.State (nat_le 1 s.silent)))

-- a tick: an end in RESET_UNKNOWN sends RESET, one in RESET_RESET sends ACTIVATE
abbrev pub tick_in : LinkState → Fsm → Bool → Outcome
tick_in ResetUnknown s held = gives s (Answer reply.Reset)
tick_in ResetReset s held = gives s (Answer reply.Activate)
tick_in Held s held = gives s Stay
tick_in _ s held = up_tick s held

-- a tick passes at a link end; `held` tells whether it is held where that takes it down
unfoldable pub on_tick : Fsm → Bool → Outcome
on_tick s held = tick_in s.state s held

-- the bearer is cut: an up end goes down
unfoldable pub on_cut : Fsm → Bool → Outcome
on_cut s held = if is_up s.state then gives (lowered s held) (Down cause.Cut) else gives s Stay

-- an original tunnel packet names this link and an epoch of the peer: where that is the epoch of the link that is up,
-- it goes down and is held, since the packet came on the pair's other link
unfoldable pub on_peer_tunnel : Fsm → ℕ → Outcome
on_peer_tunnel s epoch =
    if is_up s.state && is_peer s.peer epoch then gives (lowered s true) (Down cause.PeerTunnel) else gives s Stay

-- the other link handed everything over: a held end is in RESET_UNKNOWN and sends RESET
unfoldable pub release : Fsm → Outcome
release s =
    if is_held s.state
    then gives (record s { state = ResetUnknown }) (Answer reply.Reset)
    else gives s Stay

-- an end whose contact ended: it takes a new epoch and forgets the peer's
abbrev pub apart : Fsm → Fsm
apart s = record { own = next_epoch s.own; peer = None; highest = s.highest; state = ResetUnknown; silent = 0 }

-- an end that forgets the peer's epoch
abbrev pub forgot_peer : Fsm → Fsm
forgot_peer s = record s { peer = None; state = ResetUnknown }

-- the contact ended: the end goes down or stays down, and a RESET is to be sent in either case
unfoldable pub contact_ended : Fsm → Outcome
contact_ended s = if is_up s.state then gives (apart s) (Down cause.ContactEnded) else gives (apart s) (Answer reply.Reset)

-- the peer showed a higher contact number while there was no contact: the end forgets the peer's epoch and is in
-- RESET_UNKNOWN. An end that is up has a contact, so this ends it
unfoldable pub forget_peer : Fsm → Outcome
forget_peer s =
    if is_up s.state then gives (apart s) (Down cause.ContactEnded) else gives (forgot_peer s) Stay
