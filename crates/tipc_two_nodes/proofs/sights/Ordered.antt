-- Two nodes agree on the order of their contacts: from the sessions that began in them and the frames that were told.
use Rattle.std.proofs.Common.{◌≡◌, ◌<◌, ◌≤◌, ◌⊎◌, ◌^◌, ℕ, true, Some, sym, ap, ◌∙◌, subst, inl, inr, arith}
use Rattle.std.proofs.lemmas.Bool.{cases_lt}
use Rattle.tipc_header.specs.Frames.{frame_of}
use Rattle.tipc_header.specs.Grammar.{Fits}
use Rattle.tipc_header.specs.Spelling.{Fields, spelling}
use Rattle.tipc_link.specs.Links.{LinkEnd, is_traffic}
use Rattle.tipc_pair.specs.Facing.{in_contact, is_up_at}
use Rattle.tipc_paired.proofs.PairedLaw.{turned as turned_pair}
use Rattle.tipc_paired.proofs.wires.Frames.{er_of-frame, es_of-frame, same_packet}
use Rattle.tipc_paired.proofs.wires.Wires.{map_at, same_some, session_of_up}
use Rattle.tipc_paired.specs.Paired.{ArePaired, IsOfSession}
use Rattle.tipc_paired.specs.Views.{Begun, Frame, Node, View, er_of, es_of, notice_of}
use Rattle.tipc_two_nodes.specs.Carriages.{IsPresent, Numbers}
use Rattle.tipc_two_nodes.specs.Numbers.{AreNumbers}
use Rattle.tipc_two_nodes.specs.Order.{BothInOne, EnteredNotYounger, EnteredPast, EnteredRise, SeenNoHigher, SessionInContact}
use Rattle.tipc_two_nodes.specs.Sights.{AreSeen, Sight, WasTold, pair_seen}
use Rattle.tipc_two_nodes.proofs.calls.PairViews.{in_contact_present, or_false}
use Rattle.tipc_two_nodes.proofs.contacts.Hearing.{present_held}
use Rattle.tipc_two_nodes.proofs.contacts.Stale.{apart_absent}
use Rattle.tipc_two_nodes.proofs.deeds.Pairs.{apart_of}

-- ---- two views

-- a node is in the contact of its numbers
abbrev IsIn : View → Type 0
IsIn x = IsPresent x x.node.contact x.node.seen

-- what is true of two nodes and their numbers
record Stand (x y : View) : Type 0 where
  paired : ArePaired x y
  here : Numbers
  there : Numbers
  numbers_here : AreNumbers x y here
  numbers_there : AreNumbers y x there

turned_stand : (x y : View) → Stand x y → Stand y x
turned_stand x y s = record { paired = turned_pair x y s.paired; here = s.there; there = s.here; numbers_here = s.numbers_there; numbers_there = s.numbers_here }

-- the peer has the highest number that a node in contact has seen of it, where it is in contact too
seen_own : (x y : View) → Stand x y → IsIn x → IsIn y → x.node.seen ≡ y.node.contact
seen_own x y s here there =
    let order = s.paired.order in
    let a = (present_held y x s.here x.node.contact x.node.seen (turned_pair x y s.paired) s.numbers_here here).shown in
    let b = (present_held x y s.there y.node.contact y.node.seen s.paired s.numbers_there there).shown in
    let a_at = map_at notice_of y.told a.place a.frame a.there in
    let b_at = map_at notice_of x.told b.place b.frame b.there in
    let a_own = a.own_is in
    let a_theirs = a.theirs_is in
    let b_own = b.own_is in
    let b_theirs = b.theirs_is in
    let few = order.b_says.own_number a.place (notice_of a.frame) a_at in
    let back = order.a_says.own_number b.place (notice_of b.frame) b_at in
    elim (cases_lt x.node.seen y.node.contact) [
      | inl less ↦
          let low = order.crossed b.place a.place (notice_of b.frame) (notice_of a.frame) b_at a_at (omega arith) in
          let same : b.frame.contact ≡ x.node.contact = omega arith in
          let met = ap s.here.met same in
          let now = s.numbers_here.now in
          let timely = (s.numbers_here.frames b.place b.frame b.there).theirs in
          absurd (let wrong : ⊥ = omega arith in wrong)
      | inr no_less ↦ omega arith
    ]

-- a session of the node began in its present contact, or in one that came before it by both numbers
began_before : (x y : View) (b epoch : ℕ) (g : Begun) → Stand x y → IsIn x → (x.wires b).begun epoch ≡ Some g
    → ((g.contact ≡ x.node.contact) × (g.peer_contact ≡ x.node.seen)) ⊎ ((g.contact < x.node.contact) × (g.peer_contact ≤ x.node.seen))
began_before x y b epoch g s here is = elim (s.numbers_here.entered b epoch g is) [
  | inr now ↦ inl (now.0, s.numbers_here.highest b epoch g is ∙ ap s.here.met now.0 ∙ s.numbers_here.now)
  | inl less ↦
      let a = (present_held y x s.here x.node.contact x.node.seen (turned_pair x y s.paired) s.numbers_here here).shown in
      let a_own = a.own_is in
      let a_theirs = a.theirs_is in
      elim (cases_lt x.node.seen g.peer_contact) [
        | inr low ↦ inr (less, low)
        | inl above ↦ absurd (
            let no_lower = (s.paired.here.epochs b).entered epoch g is a.place a.frame a.there (omega arith) in
            let wrong : ⊥ = omega arith in wrong)
      ]
]

-- and by neither number it is after the contact in which the peer is
began_no_later : (x y : View) (b epoch : ℕ) (g : Begun) → Stand x y → IsIn y → (x.wires b).begun epoch ≡ Some g → (g.contact ≤ y.node.seen) × (g.peer_contact ≤ y.node.contact)
began_no_later x y b epoch g s there is =
    let order = s.paired.order in
    let c = (present_held x y s.there y.node.contact y.node.seen s.paired s.numbers_there there).shown in
    let d = s.numbers_here.heard b epoch g is in
    let c_at = map_at notice_of x.told c.place c.frame c.there in
    let d_at = map_at notice_of y.told d.place d.frame d.there in
    let c_own = c.own_is in
    let c_theirs = c.theirs_is in
    let d_own = d.own_is in
    let d_theirs = d.theirs_is in
    let few = order.b_says.own_number d.place (notice_of d.frame) d_at in
    elim (cases_lt g.peer_contact y.node.contact) [
      | inl less ↦ (let low = order.crossed c.place d.place (notice_of c.frame) (notice_of d.frame) c_at d_at (omega arith) in (omega arith, omega arith))
      | inr no_less ↦
          let same : d.frame.contact ≡ y.node.contact = omega arith in
          let met = ap s.there.met same in
          let now = s.numbers_there.now in
          let timely = (s.numbers_there.frames d.place d.frame d.there).theirs in
          (omega arith, omega arith)
    ]

-- ---- as a world tells of them

stand : (v w : Sight) → (h : AreSeen v w) → Stand h.here.view h.there.view
stand v w h =
    let t = h.talking.twins in
    record { paired = t.paired; here = t.here; there = t.there; numbers_here = t.numbers_here; numbers_there = t.numbers_there }

is_in : (v w : Sight) → (h : AreSeen v w) → in_contact (pair_seen v) ≡ true → IsIn h.here.view
is_in v w h up = in_contact_present h.here.view h.there.view h.here.pair h.talking.twins.paired h.talking.here.of (ap in_contact h.seen_here.pair ∙ up)

is_in_there : (v w : Sight) → (h : AreSeen v w) → in_contact (pair_seen w) ≡ true → IsIn h.there.view
is_in_there v w h up = in_contact_present h.there.view h.here.view h.there.pair (turned_pair h.here.view h.there.view h.talking.twins.paired) h.talking.there.of (ap in_contact h.seen_there.pair ∙ up)

contact_here : (v w : Sight) → (h : AreSeen v w) → h.here.view.node.contact ≡ v.node.contact
contact_here v w h = ap (λ (n : Node). n.contact) h.seen_here.node

seen_here : (v w : Sight) → (h : AreSeen v w) → h.here.view.node.seen ≡ v.node.seen
seen_here v w h = ap (λ (n : Node). n.seen) h.seen_here.node

contact_there : (v w : Sight) → (h : AreSeen v w) → h.there.view.node.contact ≡ w.node.contact
contact_there v w h = ap (λ (n : Node). n.contact) h.seen_there.node

seen_there : (v w : Sight) → (h : AreSeen v w) → h.there.view.node.seen ≡ w.node.seen
seen_there v w h = ap (λ (n : Node). n.seen) h.seen_there.node

pub seen_no_higher : SeenNoHigher
seen_no_higher v w h =
    let few = h.talking.twins.paired.order.a_seen in
    let seen = seen_here v w h in
    let contact = contact_there v w h in
    omega arith

pub both_in_one : BothInOne
both_in_one v w h up up' =
    let x = h.here.view in
    let y = h.there.view in
    let here = is_in v w h up in
    let there = is_in_there v w h up' in (
      sym (contact_here v w h) ∙ (sym (seen_own y x (turned_stand x y (stand v w h)) there here) ∙ seen_there v w h),
      sym (seen_here v w h) ∙ (seen_own x y (stand v w h) here there ∙ contact_there v w h),
    )

pub entered_rise : EnteredRise
entered_rise v w here there k c met is up =
    let h = met.seen in
    let began = met.were_here k c is in
    let contact = contact_here v w h in
    let seen = seen_here v w h in
    elim (began_before h.here.view h.there.view began.0 began.1 began.2.0 (stand v w h) (is_in v w h up) began.2.1) [
      | inl now ↦ inl (λ i. record { own = (sym began.2.2 ∙ (now.0 ∙ contact)) i; theirs = (sym began.2.3 ∙ (now.1 ∙ seen)) i })
      | inr before ↦ inr (
        (let less = before.0 in let is_own = began.2.2 in omega arith),
        (let low = before.1 in let is_theirs = began.2.3 in omega arith),
      )
    ]

pub entered_past : EnteredPast
entered_past v w here there k c met is down =
    let h = met.seen in
    let x = h.here.view in
    let began = met.were_here k c is in
    let is_own = began.2.2 in
    let contact = contact_here v w h in
    let both = or_false (is_up_at h.here.pair.near) (is_up_at h.here.pair.far) (ap in_contact h.seen_here.pair ∙ down) in
    elim (h.talking.twins.numbers_here.entered began.0 began.1 began.2.0 began.2.1) [
      | inl less ↦ omega arith
      | inr now ↦ absurd (apart_absent x x.node.contact x.node.seen (apart_of x h.here.pair h.talking.here.of both.0 both.1) now.1)
    ]

pub entered_not_younger : EnteredNotYounger
entered_not_younger v w here there k c met is up =
    let h = met.seen in
    let began = met.were_here k c is in
    let is_own = began.2.2 in
    let is_theirs = began.2.3 in
    let contact = contact_there v w h in
    let seen = seen_there v w h in
    let low = began_no_later h.here.view h.there.view began.0 began.1 began.2.0 (stand v w h) (is_in_there v w h up) began.2.1 in
    let own = low.0 in
    let theirs = low.1 in
    (omega arith, omega arith)

-- ---- a frame of a session

-- a frame of the peer that is of the session in which a link is up was told in the contact in which the node is
told_in_session : (x y : View) (b : ℕ) (e : LinkEnd) (es er : ℕ) (p : Fields) → ArePaired x y → (x.wires b).end ≡ Some e → is_up_at (Some e) ≡ true → e.fsm.own ≡ er → e.fsm.peer ≡ Some es
    → (f : Frame) → IsOfSession (y.wires b) (x.wires b) f es er p → (f.contact ≡ x.node.seen) × (f.peer_contact ≡ x.node.contact)
told_in_session x y b e es er p h end up own peer f of =
    let going = (h.here.ends b e end).going up in
    let s = going.0 in
    let on = session_of_up (x.wires b) e s (record { end_is = end; up = up; session_is = going.1 }) in
    let g = (h.here.wires b).going s on in
    let now = (h.here.epochs b).now s g.begun on g.begun_is in
    let from : s.peer_epoch ≡ es = same_some s.peer_epoch es e.fsm.peer going.3 peer in
    let there : (y.wires b).begun g.begun.peer_epoch ≡ Some of.begun = ap (y.wires b).begun (g.peer_is ∙ from) ∙ of.begun_is in
    let agree = (h.here.epochs b).agree s.epoch g.begun of.begun g.begun_is there (of.peer_is ∙ (sym own ∙ sym going.2)) in
    (of.contact_is ∙ (sym agree.1 ∙ now.1), of.seen_is ∙ (sym agree.0 ∙ now.0))

-- likewise a frame in the air that the peer told
pub told_in_contact : (x y : View) (b : ℕ) (e : LinkEnd) (es er : ℕ) (p : Fields) (f : Frame) → ArePaired x y → (x.wires b).end ≡ Some e → is_up_at (Some e) ≡ true → e.fsm.own ≡ er → e.fsm.peer ≡ Some es
    → WasTold y f → f.bearer ≡ b → es < 2 ^ 64 → er < 2 ^ 64 → Fits p → f.bytes ≡ frame_of es er (spelling p) → is_traffic p.header ≡ true → (f.contact ≡ x.node.seen) × (f.peer_contact ≡ x.node.contact)
told_in_contact x y b e es er p f paired end up own peer t bearer es_fits er_fits fits spells traffic =
    let is = paired.there.frames t.place t.frame t.there in
    let bytes = t.bytes ∙ spells in
    let same : is.packet ≡ p = same_packet is.es is.er es er is.packet p is.fits fits (sym is.bytes ∙ bytes) in
    let es_is : is.es ≡ es = sym (es_of-frame is.es is.er _ is.es_fits is.er_fits) ∙ (ap es_of (sym is.bytes ∙ bytes) ∙ es_of-frame es er _ es_fits er_fits) in
    let er_is : is.er ≡ er = sym (er_of-frame is.es is.er _ is.es_fits is.er_fits) ∙ (ap er_of (sym is.bytes ∙ bytes) ∙ er_of-frame es er _ es_fits er_fits) in
    let on = t.bearer_is ∙ bearer in
    let of = subst (λ c. IsOfSession (y.wires c) (x.wires c) t.frame is.es is.er is.packet) on (is.session (ap (λ (q : Fields). is_traffic q.header) same ∙ traffic)) in
    let of_these = subst (λ k. IsOfSession (y.wires b) (x.wires b) t.frame k er is.packet) es_is (subst (λ k. IsOfSession (y.wires b) (x.wires b) t.frame is.es k is.packet) er_is of) in
    let told = told_in_session x y b e es er is.packet paired end up own peer t.frame of_these in
    let contact = t.contact es er p fits bytes traffic in
    (sym contact.0 ∙ told.0, sym contact.1 ∙ told.1)

pub session_in_contact : SessionInContact
session_in_contact v w b es er p f h air traffic up =
    let told = told_in_contact h.here.view h.there.view b up.end es er p f h.talking.twins.paired (h.seen_here.ends b ∙ up.end_is) up.up up.own_is up.peer_is (h.seen_there.sent air.place f air.there) air.bearer_is air.es_fits air.er_fits air.fits air.bytes traffic in
    (told.0 ∙ seen_here v w h, told.1 ∙ contact_here v w h)
