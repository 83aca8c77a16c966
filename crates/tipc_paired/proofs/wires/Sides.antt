-- A node as a side of its contacts, through its deeds.
use Rattle.std.proofs.Common.{◌==◌, ◌∙◌, ◌≡◌, List, Option, Some, ap, if◌then◌else◌, inl, inr, refl, subst, sym, ℕ}
use Rattle.std.proofs.Math.Path.{fun_ext}
use Rattle.tipc_link_fsm.specs.Runs.{ActivateArrives, BearerIsCut, Call, ContactEnds, ForgetsPeer, Releases, ResetArrives, TickPasses, TrafficArrives, TunnelNames, outcome}
use Rattle.tipc_link_fsm.specs.Table.{Fsm}
use Rattle.tipc_contact.specs.Order.{AreInOrder}
use Rattle.tipc_contact.specs.Peers.{ArePeers}
use Rattle.tipc_contact.specs.Sides.{EndCalled, IsNoticed, MayBeGiven as MayCallEnd, Notice, Side, acted, after_call}
use Rattle.tipc_contact.proofs.Sessions.{acts}
use Rattle.tipc_link.specs.Links.{LinkEnd}
use Rattle.tipc_paired.specs.Deeds.{MayCall}
use Rattle.tipc_paired.specs.Paired.{ArePaired, IsShown}
use Rattle.tipc_paired.specs.Views.{View, Wire, fsm_in, notice_of, put_at, said_by, side_of, with_wire}
use Rattle.tipc_paired.proofs.wires.Wires.{map_at, on_put, put_other, put_same}
use Rattle.std.proofs.lemmas.Bool.{cases_eq}
use Rattle.tipc_contact.proofs.Speaking.{at_other, at_same}

-- sides of one link end are the same where what they keep is
pub same_side : (own own' seen seen' : ℕ) (ends ends' : ℕ → Option Fsm) → own' ≡ own → seen' ≡ seen → ((x : ℕ) → ends x ≡ ends' x)
    → ◌≡◌ {A = Side} (record { own = own; seen = seen; ends = ends }) (record { own = own'; seen = seen'; ends = ends' })
same_side own own' seen seen' ends ends' same_own same_seen same_ends =
    ap (λ o. record { own = o; seen = seen; ends = ends }) (sym same_own)
    ∙ ap (λ n. record { own = own'; seen = n; ends = ends }) (sym same_seen)
    ∙ ap (λ es. record { own = own'; seen = seen'; ends = es }) (fun_ext same_ends)

-- the order of contacts speaks of contact numbers, and of no link ends
pub ordered_still : (a b : Side) (said_a said_b : List Notice) (ends : ℕ → Option Fsm) → AreInOrder a said_a b said_b → AreInOrder (record a { ends = ends }) said_a b said_b
ordered_still a b said_a said_b ends h = record { a_seen = h.a_seen; b_seen = h.b_seen; a_says = h.a_says; b_says = h.b_says; crossed = h.crossed }

-- a deed on one wire that leaves its link states as they were leaves the side as it was
pub side_still : (x : View) (b : ℕ) (w' : Wire) → fsm_in w'.end ≡ fsm_in (x.wires b).end → side_of (with_wire x b w') ≡ side_of x
side_still x b w' is =
    let at : (c : ℕ) → fsm_in (put_at x.wires b w' c).end ≡ fsm_in (x.wires c).end = on_put x.wires b w' (λ c (w : Wire). fsm_in w.end ≡ fsm_in (x.wires c).end) is (λ c. refl) in
    same_side x.node.contact x.node.contact x.node.seen x.node.seen _ _ refl refl at

pub peers_still : (x y : View) (b : ℕ) (w' : Wire) → ArePaired x y → fsm_in w'.end ≡ fsm_in (x.wires b).end → ArePeers (side_of (with_wire x b w')) (said_by x) (side_of y) (said_by y)
peers_still x y b w' h is = subst (λ s. ArePeers s (said_by x) (side_of y) (said_by y)) (sym (side_still x b w' is)) h.peers

-- a frame that shows an epoch says it
pub shown_told : (y : View) (b es er contact : ℕ) → IsShown y.told b es er contact → IsNoticed (said_by y) b es contact
shown_told y b es er contact t = record {
  place = t.place;
  notice = notice_of t.frame;
  there = map_at notice_of y.told t.place t.frame t.there;
  bearer_is = t.bearer_is;
  epoch_is = t.es_is;
  contact_is = t.contact_is;
}

may_call_end : (x y : View) (b : ℕ) (call : Call) → MayCall x y b call → MayCallEnd (side_of x) (said_by y) b call
may_call_end x y b (ResetArrives es held) may = may
may_call_end x y b (ActivateArrives es er) may = shown_told y b es er x.node.seen may
may_call_end x y b (TrafficArrives es er) may = tt
may_call_end x y b (TickPasses held) may = tt
may_call_end x y b (BearerIsCut held) may = tt
may_call_end x y b (TunnelNames epoch) may = tt
may_call_end x y b Releases may = tt
may_call_end x y b ForgetsPeer may = may
may_call_end x y b ContactEnds may = may

-- the side of a node whose link end on one bearer was called
pub side_called : (x : View) (b : ℕ) (w' : Wire) (e : LinkEnd) (call : Call) → (x.wires b).end ≡ Some e → fsm_in w'.end ≡ Some (outcome e.fsm call).after → acted (side_of x) (EndCalled b call) ≡ side_of (with_wire x b w')
side_called x b w' e call is after =
    let here : (c : ℕ) → c ≡ b → after_call call (fsm_in (x.wires c).end) ≡ fsm_in w'.end = λ c same. ap (λ k. after_call call (fsm_in (x.wires k).end)) same ∙ ap (λ o. after_call call (fsm_in o)) is ∙ sym after in
    let at : (c : ℕ) → (if c == b then after_call call (fsm_in (x.wires c).end) else fsm_in (x.wires c).end) ≡ fsm_in (put_at x.wires b w' c).end =
    λ c. elim (cases_eq c b) [
      | inl same ↦ at_same c b _ _ same ∙ here c same ∙ ap (λ (w : Wire). fsm_in w.end) (sym (ap (put_at x.wires b w') same ∙ put_same x.wires b w'))
      | inr other ↦ at_other c b _ _ other ∙ ap (λ (w : Wire). fsm_in w.end) (sym (put_other x.wires b w' c other))
    ] in
    same_side x.node.contact x.node.contact x.node.seen x.node.seen _ _ refl refl at

pub peers_called : (x y : View) (b : ℕ) (w' : Wire) (e : LinkEnd) (call : Call) → ArePaired x y → (x.wires b).end ≡ Some e → MayCall x y b call → fsm_in w'.end ≡ Some (outcome e.fsm call).after
    → ArePeers (side_of (with_wire x b w')) (said_by x) (side_of y) (said_by y)
peers_called x y b w' e call h is may after =
    subst (λ s. ArePeers s (said_by x) (side_of y) (said_by y)) (side_called x b w' e call is after) (acts (side_of x) (side_of y) (said_by x) (said_by y) (EndCalled b call) h.peers (may_call_end x y b call may))
