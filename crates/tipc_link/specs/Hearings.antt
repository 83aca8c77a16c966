-- What an arrival will make of a session and of a link, told before anything of them is changed; and what is true of every session.
use Rattle.std.specs.Prelude.{◌≡◌, ℕ, ◌+◌, ◌<◌, ◌≤◌, true, List, [], ◌∷◌, ◌++◌, Option, Some, None, All, if◌then◌else◌}
use Rattle.tipc_header.specs.Spelling.{Fields}
use Rattle.tipc_link_fsm.specs.Table.{Outcome}
use Rattle.tipc_recv_window.specs.declared.outcomes.LinkOutcome.{LinkOutcome}
use Rattle.tipc_recv_window.specs.Receiving.{Coming, Receiving, arrived_at, coming, next_of, place_at, run_of}
use Rattle.tipc_types.specs.declared.link_words.Why.TheVariants as why
use Rattle.tipc_types.specs.declared.packet_lists.Taken.{Taken}
use Rattle.tipc_bundle.specs.Bundles.{Carries as Waits}
use Rattle.tipc_send_window.specs.Sending.{IsSending, Sending}
use Rattle.tipc_link.specs.Records.{Received, is_early_tunnel, standing}
use Rattle.tipc_link.specs.Sessions.{SessionEnd, Content, Carries, Nothing, Shows, Unanswered, IsWaiting, brought, content_of, outcome, placed, receiving, MayJoin}
use Rattle.tipc_link.specs.Links.{LinkEnd, after, is_heard, link_outcome}

-- the arrival's number at the node, what it brings, and for a packet with a number what it will make of the receive window
pub record HearingState : Type 0 where
  pub by : ℕ
  pub window : Option Coming
  pub outcome : LinkOutcome

-- what a packet with a number makes of a receive window: nothing, where it is a tunnel packet that isn't wanted
abbrev pub coming_of : Receiving → Taken → Option Coming
coming_of w t = if is_early_tunnel w t then None else Some (coming w t)

-- what a packet makes of a receive window, by what it brings; only one with a number makes anything of it
abbrev pub window_by : Receiving → ℕ → Content → Option Coming
window_by w by (Carries number packet) = coming_of w (brought number packet by)
window_by w by other = None

-- of a packet with a number
abbrev pub numbered_outcome : Receiving → Taken → LinkOutcome
numbered_outcome w t = placed (place_at w (standing w t)) (run_of (arrived_at w (standing w t) t).held)

-- all that is told of a packet with a number
abbrev pub numbered_hearing : Receiving → Taken → HearingState
numbered_hearing w t = record { by = t.by; window = coming_of w t; outcome = numbered_outcome w t }

-- what the arrival of any packet answers, by what it brings
abbrev pub window_outcome : Receiving → ℕ → Content → LinkOutcome
window_outcome w by (Shows next gap probe) = LinkOutcome.Took []
window_outcome w by (Carries number packet) = numbered_outcome w (brought number packet by)
window_outcome w by Nothing = LinkOutcome.Ignored why.Epoch

-- it tells what this packet does to a receive window
pub record IsWindowHearing (w : Receiving) (p : Fields) (h : HearingState) : Type 0 where
  pub window : h.window ≡ window_by w h.by (content_of p)
  pub outcome : h.outcome ≡ window_outcome w h.by (content_of p)

-- and to a session
pub record IsHearing (e : SessionEnd) (p : Fields) (h : HearingState) : Type 0 where
  pub window : h.window ≡ window_by (receiving e) h.by (content_of p)
  pub outcome : h.outcome ≡ outcome e h.by (content_of p)

-- the link states after an arrival with their change, and what the session will make of it
pub record ArrivingState : Type 0 where
  pub states : Outcome
  pub hearing : HearingState

-- it tells what this packet does to the link
pub record IsArriving (e : LinkEnd) (p : Fields) (a : ArrivingState) : Type 0 where
  pub heard : (s : SessionEnd) → is_heard p.header a.states.change ≡ true → (after e a.states).session ≡ Some s → IsHearing s p a.hearing
  pub outcome : a.hearing.outcome ≡ link_outcome e a.states p a.hearing.by

-- what is true of every record: the wanted packet isn't held, and what was shown is near
pub record IsRecord (window : Receiving) (shown : ℕ) : Type 0 where
  pub wanted : 1 ≤ window.wanted
  pub wants : next_of window ≡ None
  pub near : shown ≤ window.wanted + 32767

-- what is true of every session: the counts are below 2^64, the window is one, and what was put may be sent
pub record IsSession (bearer : ℕ) (unanswered : Unanswered) (window : Sending) (r : Received) : Type 0 where
  pub two_bearers : bearer ≤ 1
  pub few : unanswered.packets ≤ r.taken
  pub answers : unanswered.broadcasts < 16
  pub sending : IsSending window
  pub waiting : All IsWaiting window.waiting
  pub unacked : All IsWaiting window.unacked

-- none is held of a record that was made before there was a session, and the peer has shown nothing
abbrev pub HoldsNone : Option Received → Type 0
HoldsNone None = Unit {0}
HoldsNone (Some r) = (r.held ≡ []) × (r.shown ≡ 1)

-- what is true of every link end
pub record IsLink (bearer : ℕ) (before : Option Received) : Type 0 where
  pub two_bearers : bearer ≤ 1
  pub early : HoldsNone before

-- this bundle is made of the last packet that waits and the only one of these
pub record IsJoined (e : SessionEnd) (pieces : List (List ℕ)) (bundle : List ℕ) : Type 0 where
  pub packets : List (List ℕ)
  pub packet : List ℕ
  pub alone : pieces ≡ packet ∷ []
  pub may_join : MayJoin e packets packet
  pub joined : Waits bundle (packets ++ packet ∷ [])
