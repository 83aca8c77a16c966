-- A frame of the peer arrives at a link of a node: what it brings is of a session that the peer sent in the contact, and under the epoch of such
-- a session the link goes up with it.
use Rattle.std.proofs.Common.{◌≡◌, ◌≤◌, ◌+◌, ◌-◌, ℕ, List, Option, Some, None, length, refl, sym, ap, ◌∙◌, subst, inl, inr, arith}
use Rattle.tipc_header.proofs.RoundTrip.{spelling-least}
use Rattle.tipc_header.specs.Spelling.{Fields}
use Rattle.tipc_link.specs.Links.{LinkEnd, known, record_in, record_of}
use Rattle.tipc_link.specs.Outliving.{IsOf}
use Rattle.tipc_link.specs.Records.{Received, kept_for}
use Rattle.tipc_link.specs.Sessions.{Carries, SessionEnd, content_of, receiving_record}
use Rattle.tipc_link.proofs.KeptRecords.{kept_epoch}
use Rattle.tipc_changeover.specs.Links.{Receiver, Sender, State}
use Rattle.tipc_two_nodes.specs.links.Arriving.{IsFramed, IsHeardIn, MayBeginAt}
use Rattle.tipc_two_nodes.specs.links.Landing.{MayGoOn, MayRise}
use Rattle.tipc_two_nodes.specs.links.Receiving.{IsSessionRecord, IsRecordFor, record_at}
use Rattle.tipc_two_nodes.specs.links.Traffic.{Lines, Traffic}
use Rattle.tipc_paired.proofs.sessions.RiseDeeds.{Went, risen_record, went_agrees}
use Rattle.tipc_paired.proofs.sessions.SessionDeeds.{hears_session}
use Rattle.tipc_paired.proofs.wires.Wires.{prefix_long, session_of_up}
use Rattle.tipc_paired.specs.Deeds.{Hears, IsUp}
use Rattle.tipc_paired.specs.Paired.{ArePaired, IsPacket, IsRecordOf, IsOfSession as IsToldOf}
use Rattle.tipc_paired.specs.Views.{Frame, View, session_on}
use Rattle.tipc_two_nodes.specs.Carriages.{AreSessions, IsShownIn, Numbers}
use Rattle.tipc_two_nodes.specs.Numbers.{AreNumbers, IsToldIn}
use Rattle.tipc_two_nodes.proofs.steps.Deeds.{session_record}
use Rattle.tipc_two_nodes.proofs.steps.RiseSteps.{went_told}

-- the peer's sessions on a bearer in the present contact of x, which have their packets in these lines
abbrev pub ArePeerSessions : View → View → ℕ → Lines → Sender → Type 0
ArePeerSessions x y b l z = AreSessions y x.node.seen x.node.contact b l z

-- ---- records

-- the record of a link that is up is of a session of the contact
session_shown : (x y : View) (n : Numbers) (b : ℕ) (a : SessionEnd) (l : Lines) (z : Sender) → ArePaired x y → AreNumbers x y n → session_on (x.wires b) ≡ Some a → ArePeerSessions x y b l z → IsShownIn l z a.peer_epoch
session_shown x y n b a l z h numbers on sessions =
    let g = (h.here.wires b).going a on in
    let now = (h.here.epochs b).now a g.begun on g.begun_is in
    let t = numbers.heard b a.epoch g.begun g.begun_is in
    subst (IsShownIn l z) (t.epoch_is ∙ g.peer_is) (sessions.shown t.place t.frame t.there t.bearer_is (t.own_is ∙ now.1) (t.theirs_is ∙ now.0))

pub up_record : (x y : View) (n : Numbers) (b : ℕ) (e : LinkEnd) (a : SessionEnd) (l : Lines) (z : Sender) (r : Receiver) → ArePaired x y → AreNumbers x y n → IsUp (x.wires b) e a → ArePeerSessions x y b l z → IsRecordFor l (record_at (x.wires b).end) r
    → IsSessionRecord l (receiving_record a) r
up_record x y n b e a l z r h numbers up sessions stands =
    let on = session_of_up (x.wires b) e a up in
    let shown = session_shown x y n b a l z h numbers on sessions in
    let low = shown.no_lower in
    let same = ((h.here.wires b).going a on).record_is in
    elim (subst (λ o. IsRecordFor l o r) (session_record (x.wires b) e a up) stands) [
      | inl old ↦ absurd (let before = old.0 in let wrong : ⊥ = omega arith in wrong)
      | inr now ↦ now
    ]

-- what a record has of a session of the peer, against the packets that the peer numbered in it
record_line : (x y : View) (b : ℕ) (r : Received) → ArePaired x y → IsRecordOf (x.wires b) (y.wires b) r → IsOf r ((y.wires b).line r.epoch)
record_line x y b r h k =
    let takes = k.takes in
    let front = prefix_long ((x.wires b).got r.epoch) ((y.wires b).line r.epoch) ((h.here.wires b).prefix r.epoch) in
    let window = (h.there.wires b).window r.epoch in
    record { receiver = k.holds; within = omega arith; near = omega arith }

-- ---- packets

packet_long : (own : ℕ) (bytes : List ℕ) → IsPacket own bytes → 1 ≤ length bytes
packet_long own bytes p =
    let least = spelling-least p.packet in
    subst (λ (bs : List ℕ). 1 ≤ length bs) (sym p.spelled) (omega arith)

-- what a frame of a session carries came in a frame of the session's sender
framed_so : (x y : View) (b : ℕ) (f : Frame) (es er : ℕ) (p : Fields) → ArePaired x y → IsToldOf (y.wires b) (x.wires b) f es er p → length ((y.wires b).line es) ≤ f.numbered + 30050 → (number : ℕ) (packet : List ℕ) → content_of p ≡ Carries number packet
    → IsFramed ((y.wires b).line es) number packet
framed_so x y b f es er p h o fresh number packet is =
    let c = o.carried number packet is in
    record { numbered = f.numbered; so_far = o.so_far; fresh = fresh; carried = c; bytes = packet_long y.node.own packet ((h.there.wires b).packets es (c.position - 1) packet c.packet_is) }

-- what such a frame brings a record of the session
heard_so : (x y : View) (b : ℕ) (f : Frame) (es er : ℕ) (p : Fields) (r : Received) (line : List (List ℕ)) → ArePaired x y → IsToldOf (y.wires b) (x.wires b) f es er p → length ((y.wires b).line es) ≤ f.numbered + 30050 → IsRecordOf (x.wires b) (y.wires b) r → r.epoch ≡ es
    → line ≡ (y.wires b).line es → IsHeardIn line r (content_of p)
heard_so x y b f es er p r line h o fresh k epoch same = record {
  line_is = subst (IsOf r) (ap (y.wires b).line epoch ∙ sym same) (record_line x y b r h k);
  framed = λ number packet is. subst (λ ps. IsFramed ps number packet) (sym same) (framed_so x y b f es er p h o fresh number packet is);
}

-- ---- a link that is up hears a packet

pub heard_goes_on : (x y : View) (n : Numbers) (b : ℕ) (e : LinkEnd) (a : SessionEnd) (p : Fields) (t : Traffic) (s : State) → ArePaired x y → AreNumbers x y n → IsUp (x.wires b) e a → Hears x y b a p → ArePeerSessions x y b t.near s.near
    → IsRecordFor t.near (record_at (x.wires b).end) s.near_record → MayGoOn e a p t s
heard_goes_on x y n b e a p t s h numbers up heard sessions stands =
    let on = session_of_up (x.wires b) e a up in
    let own = up_record x y n b e a t.near s.near s.near_record h numbers up sessions stands in
    let g = (h.here.wires b).going a on in
    let now = (h.here.epochs b).now a g.begun on g.begun_is in
    let o = hears_session x y b e a p h up heard in
    let both = (h.here.epochs b).agree a.epoch g.begun o.begun g.begun_is (ap (y.wires b).begun g.peer_is ∙ o.begun_is) o.peer_is in
    let line = sessions.lines a.peer_epoch o.begun o.begun_is (sym both.1 ∙ now.1) (sym both.0 ∙ now.0) in
    let place = own.epoch in
    let record_is = g.record_is in
    let low = line.0 in
    let session : s.near_record.session ≡ a.peer_epoch + 1 - t.near.first = omega arith in
    let kept = (h.here.wires b).kept e (receiving_record a) up.end_is (ap (λ o. record_in o e.early) up.session_is) in
    record {
      record_is = own;
      heard = heard_so x y b heard.frame a.peer_epoch a.epoch p (receiving_record a) (t.near.line s.near_record.session) h o heard.peer_fresh kept record_is (ap t.near.line session ∙ line.1);
    }

-- ---- a link goes up

-- a record up to an epoch is of no later session
no_later : (l : Lines) (o : Option Received) (r : Receiver) (es : ℕ) → IsRecordFor l o r → l.first ≤ es → ((a : Received) → o ≡ Some a → a.epoch ≤ es) → r.session ≤ es + 1 - l.first
no_later l None r es h low few = omega arith
no_later l (Some a) r es (inl old) low few = (let none = old.1 in omega arith)
no_later l (Some a) r es (inr now) low few = (let least = few a refl in let place = now.epoch in omega arith)

-- An epoch that the peer told in a contact with the present number of x is that of a session under which a link may go up, where it is no lower than
-- the highest that the link took.
pub told_begins : (x y : View) (b : ℕ) (e : LinkEnd) (es number : ℕ) (t : Traffic) (s : State) → ArePaired x y → (x.wires b).end ≡ Some e → IsToldIn y.told b es number x.node.contact → e.fsm.highest ≤ es → AreSessions y number x.node.contact b t.near s.near
    → IsRecordFor t.near (record_at (x.wires b).end) s.near_record → MayBeginAt t s es
told_begins x y b e es number t s h is told most sessions stands =
    let shown = subst (IsShownIn t.near s.near) told.epoch_is (sessions.shown told.place told.frame told.there told.bearer_is told.own_is told.theirs_is) in
    let low = shown.no_lower in
    let high = shown.no_higher in
    record {
      session = es + 1 - t.near.first;
      epoch_is = omega arith;
      may = record {
        counts = omega arith;
        later = no_later t.near (record_of e) s.near_record es (subst (λ o. IsRecordFor t.near (record_at o) s.near_record) is stands) low (λ a has. (
            let few = (h.here.records b).below e a is has in
            omega arith));
        begun = omega arith;
        held = λ held. (let below = shown.held held in omega arith);
      };
    }

-- so it is when the link goes up
pub went_begins : (x y : View) (b : ℕ) (e e' : LinkEnd) (es : ℕ) (t : Traffic) (s : State) → ArePaired x y → Went x y b e e' es → ArePeerSessions x y b t.near s.near → IsRecordFor t.near (record_at (x.wires b).end) s.near_record → MayBeginAt t s es
went_begins x y b e e' es t s h m sessions stands = told_begins x y b e es x.node.seen t s h m.end_is (went_told x y b e e' es h m) m.no_lower sessions stands

-- and with a packet of that session
pub went_rises : (x y : View) (b : ℕ) (e e' : LinkEnd) (es : ℕ) (f : Frame) (p : Fields) (t : Traffic) (s : State) → ArePaired x y → Went x y b e e' es → IsToldOf (y.wires b) (x.wires b) f es e.fsm.own p → length ((y.wires b).line es) ≤ f.numbered + 30050
    → ArePeerSessions x y b t.near s.near → IsRecordFor t.near (record_at (x.wires b).end) s.near_record → MayRise e es p t s
went_rises x y b e e' es f p t s h m o fresh sessions stands =
    let begins = went_begins x y b e e' es t s h m sessions stands in
    let peer = ap (λ (k : Option ℕ). known k) m.peer_is in
    let both = went_agrees x y b e e' es h m o.begun (ap (y.wires b).begun peer ∙ o.begun_is) (o.peer_is ∙ sym m.raised.epoch) in
    let line = sessions.lines es o.begun o.begun_is (sym both.1) (sym both.0) in
    let low = line.0 in
    let place = begins.epoch_is in
    let counts = begins.may.counts in
    let session : begins.session ≡ es + 1 - t.near.first = omega arith in
    record {
      session = begins.session;
      epoch_is = begins.epoch_is;
      may = begins.may;
      heard = heard_so x y b f es e.fsm.own p (kept_for (record_of e) es) (t.near.line begins.session) h o fresh (risen_record x y b e e' es h m) (kept_epoch (record_of e) es) (ap t.near.line session ∙ line.1);
    }

-- ---- the pair stands
