-- The records of a node whose contact begins: each is of an older contact, or unused and of an epoch that the peer told
-- in this one.
use Rattle.std.proofs.Common.{◌≡◌, ◌<◌, ◌≤◌, ◌⊎◌, ℕ, false, Some, sym, ap, ◌∙◌, subst, inl, inr, arith}
use Rattle.std.proofs.lemmas.Bool.{cases_lt, true≢false}
use Rattle.tipc_link.specs.Records.{Received}
use Rattle.tipc_link_fsm.specs.Table.{is_last}
use Rattle.tipc_changeover.specs.Links.{Held, Sender}
use Rattle.tipc_two_nodes.specs.links.Traffic.{Lines}
use Rattle.tipc_paired.proofs.wires.Wires.{is_up_of}
use Rattle.tipc_paired.specs.Paired.{IsHalf}
use Rattle.tipc_paired.specs.Views.{Begun, IsApart, View, es_of}
use Rattle.tipc_two_nodes.specs.Carriages.{AreSessions, IsPresent, IsShownIn, Numbers}
use Rattle.tipc_two_nodes.specs.Numbers.{AreNumbers, IsRecorded, IsTimely, IsToldBy, IsToldIn}
use Rattle.tipc_two_nodes.proofs.contacts.Standing.{MayStand}

-- no contact lasts where no link is up
pub apart_absent : (y : View) (own theirs : ℕ) → IsApart y → IsPresent y own theirs → ⊥
apart_absent y own theirs apart here =
    let up = is_up_of (y.wires here.bearer) here.session here.session_is in
    true≢false (sym up.1.up ∙ apart here.bearer up.0 up.1.end_is)

-- an epoch up to the first one is of an older contact, or of the first session
at_first : (l : Lines) (z : Sender) (epoch : ℕ) → epoch ≤ l.first → 1 ≤ z.session → (z.state ≡ Held → 2 ≤ z.session) → (epoch < l.first) ⊎ IsShownIn l z epoch
at_first l z epoch low some late = elim (cases_lt epoch l.first) [
  | inl before ↦ inl before
  | inr same ↦ inr (record { no_lower = same; no_higher = omega arith; held = λ held. (let two = late held in omega arith) })
]

-- the frame that shows an epoch of a record, at its own bearer
timely : (x y : View) (n : Numbers) (b epoch own : ℕ) → AreNumbers x y n → (t : IsToldBy x.told b epoch own) → IsTimely n x.node.contact y.node.contact t.frame
timely x y n b epoch own h t = h.frames t.place t.frame t.there

-- what was taken in a session of an earlier contact of the receiver is of an earlier contact of the sender
used_before : (x y : View) (n : Numbers) (b shown_on shown : ℕ) (a : Received) (g : Begun) → IsHalf x y → AreNumbers x y n → IsToldIn x.told shown_on shown y.node.seen y.node.contact → IsToldBy x.told b a.epoch y.node.seen
    → (x.wires b).begun a.epoch ≡ Some g → g.peer_contact < y.node.contact → a.epoch < n.first b y.node.seen
used_before x y n b shown_on shown a g half h now t begun earlier =
    let f = t.frame in
    let F = timely x y n b a.epoch y.node.seen h t in
    let N = h.frames now.place now.frame now.there in
    let own = now.own_is in
    let theirs = now.theirs_is in
    let no_later = t.no_later in
    let number : f.contact ≡ g.contact = (half.epochs b).told_in t.place f g t.there t.bearer_is (ap (x.wires b).begun t.epoch_is ∙ begun) in
    let last : is_last (es_of f.bytes) ≡ false = ap is_last t.epoch_is ∙ (half.epochs b).lasts a.epoch g begun in
    let known = N.own in
    elim (cases_lt f.contact y.node.seen) [
      | inl before ↦
          let below = F.lower y.node.seen before (omega arith) last in
          let first : n.first f.bearer y.node.seen ≡ n.first b y.node.seen = ap (λ k. n.first k y.node.seen) t.bearer_is in
          let epoch = t.epoch_is in
          omega arith
      | inr here ↦ absurd (
          let same : f.contact ≡ y.node.seen = omega arith in
          let top : g.peer_contact ≡ n.met y.node.seen = h.highest b a.epoch g begun ∙ ap n.met (sym number ∙ same) in
          let high = N.theirs in
          let met : n.met now.frame.contact ≡ n.met y.node.seen = ap n.met own in
          let wrong : ⊥ = omega arith in
          wrong)
    ]

unused_stands : (x y : View) (n : Numbers) (b shown_on shown : ℕ) (l : Lines) (z : Sender) (a : Received) → AreNumbers x y n → IsToldIn x.told shown_on shown y.node.seen y.node.contact → IsToldBy x.told b a.epoch y.node.seen
    → l.first ≡ n.first b y.node.seen → AreSessions x y.node.seen y.node.contact b l z → 1 ≤ z.session → (z.state ≡ Held → 2 ≤ z.session) → (a.epoch < l.first) ⊎ IsShownIn l z a.epoch
unused_stands x y n b shown_on shown l z a h now t first S some late =
    let f = t.frame in
    let F = timely x y n b a.epoch y.node.seen h t in
    let N = h.frames now.place now.frame now.there in
    let own = now.own_is in
    let theirs = now.theirs_is in
    let no_later = t.no_later in
    let known = N.own in
    let epoch = t.epoch_is in
    elim (cases_lt f.contact y.node.seen) [
      | inl before ↦
          let low = F.no_higher y.node.seen before (omega arith) in
          let at : n.first f.bearer y.node.seen ≡ n.first b y.node.seen = ap (λ k. n.first k y.node.seen) t.bearer_is in
          at_first l z a.epoch (omega arith) some late
      | inr here ↦
          let same : f.contact ≡ y.node.seen = omega arith in
          let at : n.first f.bearer f.contact ≡ n.first b y.node.seen = ap (λ k. n.first k f.contact) t.bearer_is ∙ ap (n.first b) same in
          elim F.alone [
            | inl low ↦ at_first l z a.epoch (omega arith) some late
            | inr met ↦
                let high = N.theirs in
                let one : n.met now.frame.contact ≡ n.met f.contact = ap n.met (own ∙ sym same) in
                let top = met.0 in
                let few = met.1 in
                inr (subst (IsShownIn l z) epoch (S.shown t.place f t.there t.bearer_is same (omega arith)))
          ]
    ]

pub record_stands : (x y : View) (n : Numbers) (b shown_on shown : ℕ) (l : Lines) (z : Sender) (a : Received) → IsHalf x y → AreNumbers x y n → IsApart y → IsToldIn x.told shown_on shown y.node.seen y.node.contact → IsRecorded y x b a
    → l.first ≡ n.first b y.node.seen → AreSessions x y.node.seen y.node.contact b l z → 1 ≤ z.session → (z.state ≡ Held → 2 ≤ z.session) → MayStand l z a
record_stands x y n b shown_on shown l z a half h apart now r first S some late = elim r.used [
  | inl unused ↦ elim (unused_stands x y n b shown_on shown l z a h now r.told first S some late) [
    | inl old ↦ inl old
    | inr shown ↦ inr (unused, shown)
  ]
  | inr used ↦ elim used.2 [
    | inl earlier ↦ inl (let before = used_before x y n b shown_on shown a used.0 half h now r.told used.1 earlier in omega arith)
    | inr lasts ↦ absurd (apart_absent y y.node.contact y.node.seen apart lasts.1)
  ]
]
