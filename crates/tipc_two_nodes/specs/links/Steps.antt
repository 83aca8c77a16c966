-- What a node does with its two link ends as a sender, one step at a time. Each is at the near link.
use Rattle.std.specs.Prelude.{◌≡◌, ℕ, ◌+◌, ◌-◌, ◌≤◌, false, not, List, [], ◌∷◌, ◌++◌, filter, length, take}
use Rattle.tipc_types.specs.declared.link_words.OldSession.{OldSession}
use Rattle.tipc_header.specs.declared.packet.ChangeoverType.{ChangeoverType}
use Rattle.tipc_header.specs.declared.packet.ChangeoverType.TheVariants.{Duplicate, Original}
use Rattle.tipc_send_window.specs.Sending.{Sending, fresh, kept_of, offered, without_waiting}
use Rattle.tipc_link.specs.Records.{is_tunnel}
use Rattle.tipc_pair.specs.Runs.{run_of}
use Rattle.tipc_tunnel.specs.Tunnels.{IsTunnel}
use Rattle.tipc_two_nodes.specs.links.Packets.{MayBeIn, told_by_marker}
use Rattle.tipc_changeover.specs.Links.{Held, Reset, State, Up}
use Rattle.tipc_two_nodes.specs.links.Traffic.{Traffic, with_more}
use Rattle.tipc_two_nodes.specs.links.Sending.{SendingEnd, SendingEnds, beside}

-- ---- an end that stays up

-- the end with another window
abbrev pub with_window : SendingEnd → Sending → SendingEnd
with_window e w = record e { window = w }

-- the near link's window is another one
abbrev pub near_window : SendingEnds → Sending → SendingEnds
near_window x w = record x { near = with_window x.near w }

-- more packets were put, and more were numbered in a session of the near link
abbrev pub with_put : Traffic → List (List ℕ) → Traffic
with_put t packets = record t { put = t.put ++ packets }

-- more packets were numbered in a session of the near link
abbrev pub near_more : Traffic → ℕ → List (List ℕ) → Traffic
near_more t session packets = record t { near = with_more t.near session packets }

-- the last packet that was put is another one
abbrev pub with_last_put : Traffic → List ℕ → Traffic
with_last_put t packet = record t { put = take (length t.put - 1) t.put ++ packet ∷ [] }

-- none of them is a tunnel packet
abbrev pub ArePlain : List (List ℕ) → Type 0
ArePlain [] = Unit {0}
ArePlain (packet ∷ packets) = (is_tunnel packet ≡ false) × ArePlain packets

-- so many places behind the acknowledged ones were taken of the near link's present session
pub record AreTaken (s : State) (count : ℕ) : Type 0 where
  pub session : s.near_record.session ≡ s.near.session
  pub places : s.near.acked + count ≤ s.near_record.taken

-- ---- an end that goes up or down

-- the end when its link is up, with this window
abbrev pub with_up : SendingEnd → Sending → SendingEnd
with_up e w = record { epoch = e.epoch; state = Up; window = w }

-- the end when its link has gone down, with this window: it has the next epoch, and is held
abbrev pub with_down : SendingEnd → Sending → SendingEnd
with_down e w = record { epoch = e.epoch + 1; state = Held; window = w }

-- the end when it is held no longer, with this window
abbrev pub with_reset : SendingEnd → Sending → SendingEnd
with_reset e w = record { epoch = e.epoch; state = Reset; window = w }

-- it goes up, and takes nothing over
abbrev pub near_up : SendingEnds → SendingEnds
near_up x = record x { near = with_up x.near fresh }

-- it is held no longer
abbrev pub let_go : SendingEnds → Sending → SendingEnds
let_go x w = record x { near = with_reset x.near w }

-- the present sessions, as tunnel packets name them
abbrev pub near_session : SendingEnds → OldSession
near_session x = record { bearer = x.bearer; epoch = x.near.epoch }

-- the far link's present session, as tunnel packets name it
abbrev pub far_session : SendingEnds → OldSession
far_session x = record { bearer = beside x.bearer; epoch = x.far.epoch }

-- each of these packets may be in a run of so many
abbrev pub EachWraps : ChangeoverType → OldSession → ℕ → List (List ℕ) → Type 0
EachWraps kind old count [] = Unit {0}
EachWraps kind old count (packet ∷ packets) = MayBeIn kind old count packet × EachWraps kind old count packets

-- the packets of a session make a run of tunnel packets
pub record CanTravel (kind : ChangeoverType) (old : OldSession) (packets : List (List ℕ)) : Type 0 where
  pub mark : IsTunnel (told_by_marker kind old)
  pub each : EachWraps kind old (length packets) packets

-- It goes down while the far one is up, which gets what it leaves of the packets of this node.
abbrev pub left : OldSession → ℕ → Sending → List (List ℕ)
left old own w = run_of Original old own (kept_of w) ++ filter (λ packet. not (is_tunnel packet)) w.waiting

-- the ends when the near link went down while the far one was up, which got what was left; `w` is the near window then,
-- of which nothing is asked
abbrev pub failed : ℕ → SendingEnds → Sending → SendingEnds
failed own x w = record {
  bearer = x.bearer;
  near = with_down x.near w;
  far = with_window x.far (offered x.far.window (left (near_session x) own x.near.window));
}

-- it goes up in place of the far one, and takes over what that one has
abbrev pub taken_from : OldSession → ℕ → Sending → List (List ℕ)
taken_from old own w = run_of Duplicate old own (kept_of w) ++ w.waiting

-- the ends when the near link went up in place of the far one
abbrev pub switched : ℕ → SendingEnds → SendingEnds
switched own x = record {
  bearer = x.bearer;
  near = with_up x.near (offered fresh (taken_from (far_session x) own x.far.window));
  far = with_window x.far (without_waiting x.far.window);
}
