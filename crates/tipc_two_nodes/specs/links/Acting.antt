-- What a call of a pair makes of what the node sends: the packets that get numbers, and the events of
-- the sender; or the contact is over.
use Rattle.std.specs.Prelude.{◌≡◌, ◌≤◌, ℕ, ◌+◌, false, true, List, [], ◌∷◌, ◌++◌, Option, Some, None, length}
use Rattle.tipc_header.specs.Spelling.{Fields}
use Rattle.tipc_bundle.specs.Bundles.{joined}
use Rattle.tipc_send_window.specs.Sending.{Sending, fresh, release_count}
use Rattle.tipc_link_fsm.specs.declared.changes.Change.TheVariants.{Stay}
use Rattle.tipc_link_fsm.specs.Table.{on_traffic}
use Rattle.tipc_link.specs.Links.{LinkEnd, is_traffic}
use Rattle.tipc_link.specs.Sessions.{IsPut, SessionEnd, joins, waits}
use Rattle.tipc_pair.specs.Facing.{PairEnds, in_contact}
use Rattle.tipc_changeover.specs.Links.{Bearer, EndState, Held, Reset, State, Up}
use Rattle.tipc_two_nodes.specs.links.Traffic.{Traffic, with_more}
use Rattle.tipc_two_nodes.specs.links.Sending.{SendingEnd, SendingEnds, ends_seen, window_in}
use Rattle.tipc_two_nodes.specs.links.Following.{Become}
use Rattle.tipc_two_nodes.specs.links.Steps.{AreTaken, with_last_put, with_put}
use Rattle.tipc_two_nodes.specs.links.Ends.{session_by}

-- ---- packets that get numbers

-- how many packets an end had numbered before, in the session which it has behind a call: none where that took it up
abbrev pub had : EndState → EndState → ℕ → ℕ
had Reset before count = count
had Held before count = count
had Up Up count = count
had Up Reset count = 0
had Up Held count = 0

-- A call numbered these packets on a link: they are the last ones that its end has unacknowledged, as many as its count
-- rose by.
pub record HasNumbered (before after : SendingEnd) (packets : List (List ℕ)) : Type 0 where
  pub count : after.window.numbered ≡ had after.state before.state before.window.numbered + length packets
  pub older : List (List ℕ)
  pub unacked : after.window.unacked ≡ older ++ packets

-- what was sent, with packets that the links with these ends numbered in their present sessions
abbrev pub sent_with : Traffic → SendingEnds → List (List ℕ) → List (List ℕ) → Traffic
sent_with t y near far = record {
  put = t.put;
  near = with_more t.near (session_by t.near y.near) near;
  far = with_more t.far (session_by t.far y.far) far;
}

-- By events of the sender two ends became these, and numbered packets on each link.
pub record Acted (b : Bearer) (x y : SendingEnds) (t : Traffic) (s : State) : Type 0 where
  pub near : List (List ℕ)
  pub far : List (List ℕ)
  pub near_is : HasNumbered x.near y.near near
  pub far_is : HasNumbered x.far y.far far
  pub become : Become b y (sent_with t y near far) s

-- ---- the contact

-- the send window of an end, in its present session or the last one
abbrev pub window_at : Option LinkEnd → Sending
window_at None = fresh
window_at (Some e) = window_in e.session

-- The contact in which a pair was is over: the node has the next contact number, in which no link is up yet, and keeps
-- the send windows as they were last.
pub record IsOver (x y : PairEnds) : Type 0 where
  pub was : in_contact x ≡ true
  pub out : in_contact y ≡ false
  pub next : y.contact ≡ x.contact + 1
  pub near : window_at y.near ≡ window_at x.near
  pub far : window_at y.far ≡ window_at x.far

-- What a call makes of a pair as a sender: it acts by events under the same contact number; or it does that, if
-- anything, and then the contact is over, with the last link that was up, or since the peer showed a higher contact
-- number.
pub data Acts (b : Bearer) (x y : PairEnds) (t : Traffic) (s : State) : Type 0 where
  acts : y.contact ≡ x.contact → Acted b (ends_seen x) (ends_seen y) t s → Acts b x y t s
  ends : (w : PairEnds) → w.contact ≡ x.contact → Acted b (ends_seen x) (ends_seen w) t s → IsOver w y → Acts b x y t s

-- ---- calls that bring nothing

-- ---- an arrival

-- Where the near link hears the packet, what that acknowledges was taken.
abbrev pub AcknowledgesTaken : PairEnds → ℕ → ℕ → Fields → State → Type 0
AcknowledgesTaken x es er p z = (e : LinkEnd) (s : SessionEnd) → x.near ≡ Some e → e.session ≡ Some s
    → is_traffic p.header ≡ true → (on_traffic e.fsm es er).change ≡ Stay
    → 1 ≤ release_count s.sending p.acknowledgement → AreTaken z (release_count s.sending p.acknowledgement)

-- ---- messages

-- What was put, once the packets of a message were: they are the last ones, or one joined the last one that waited.
abbrev pub put_in : {s put : SessionEnd} {pieces : List (List ℕ)} → Traffic → IsPut s pieces put → Traffic
put_in t (joins packets packet may) = with_last_put t (joined (packets ++ packet ∷ []))
put_in t (waits pieces alone) = with_put t pieces
