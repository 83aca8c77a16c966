-- What a node told lies behind it: with which session of a node the peer's session is that the present one is with.
use Rattle.std.proofs.Common.{◌≡◌, ◌⊎◌, ◌≤◌, ℕ, List, Option, Some, None, length, refl, sym, ap, ◌∙◌, inl, inr, arith}
use Rattle.std.specs.Prelude.{slice_get}
use Rattle.tipc_contact.specs.Sides.{IsNoticed, Notice, boot_of}
use Rattle.tipc_link.specs.Links.{LinkEnd}
use Rattle.tipc_link.specs.Sessions.{SessionEnd}
use Rattle.tipc_paired.proofs.wires.Wires.{is_up_of, map_at, mapped_at, prefix_of_none, same_some}
use Rattle.tipc_paired.specs.Paired.{ArePaired, IsShown, IsUnder, IsWith}
use Rattle.tipc_paired.specs.Views.{Begun, Frame, View, er_of, es_of, fsm_in, notice_of, said_by, session_on}

-- a frame was told under no higher epoch than the present one
pub told_past : (x y : View) (b k : ℕ) (f : Frame) (e : LinkEnd) → ArePaired x y → slice_get x.told k ≡ Some f → f.bearer ≡ b → (x.wires b).end ≡ Some e → es_of f.bytes ≤ e.fsm.own
told_past x y b k f e h there bearer is = h.peers.a_speaks.past k (notice_of f) e.fsm (map_at notice_of x.told k f there) (ap (λ c. fsm_in (x.wires c).end) bearer ∙ ap fsm_in is)

-- so no session of the peer began under a higher one
pub begun_past : (x y : View) (b epoch : ℕ) (k : Begun) (e : LinkEnd) → ArePaired x y → (y.wires b).begun epoch ≡ Some k → (x.wires b).end ≡ Some e → k.peer_epoch ≤ e.fsm.own
begun_past x y b epoch k e h is end =
    let t = (h.there.epochs b).shown epoch k is in
    let past = told_past x y b t.place t.frame e h t.there t.bearer_is end in
    let es = t.es_is in
    omega arith

-- the session of the peer that the present one is with began with no other
pub began_with : (x y : View) (b : ℕ) (s : SessionEnd) (k : Begun) → ArePaired x y → session_on (x.wires b) ≡ Some s → (y.wires b).begun s.peer_epoch ≡ Some k → k.peer_epoch ≡ s.epoch
began_with x y b s k h on is =
    let up = is_up_of (x.wires b) s on in
    let e = up.0 in
    let going = (h.here.ends b e up.1.end_is).going up.1.up in
    let own : s.epoch ≡ e.fsm.own = ap (λ (t : SessionEnd). t.epoch) (same_some s going.0 e.session up.1.session_is going.1) ∙ going.2 in
    let g = (h.here.wires b).going s on in
    let t = (h.here.epochs b).shown s.epoch g.begun g.begun_is in
    let named : er_of t.frame.bytes ≤ k.peer_epoch = (h.there.epochs b).bounded t.place t.frame k t.there t.bearer_is (ap (y.wires b).begun (t.es_is ∙ g.peer_is) ∙ is) in
    let er = t.er_is in
    let past = begun_past x y b s.peer_epoch k e h is up.1.end_is in
    omega arith

-- what a session took, it took of a session that is with it
pub taken_with : (x y : View) (b : ℕ) (s : SessionEnd) → ArePaired x y → session_on (x.wires b) ≡ Some s → (s.taken ≡ 0) ⊎ IsWith (y.wires b) s.peer_epoch s.epoch
taken_with x y b s h on = of ((y.wires b).begun s.peer_epoch) refl where
  of : (o : Option Begun) → (y.wires b).begun s.peer_epoch ≡ o → (s.taken ≡ 0) ⊎ IsWith (y.wires b) s.peer_epoch s.epoch
  of None is = inl (sym ((h.here.wires b).going s on).takes ∙ ap (λ (xs : List (List ℕ)). length xs) (prefix_of_none _ _ ((h.here.wires b).prefix s.peer_epoch) ((h.there.wires b).unborn s.peer_epoch is)))
  of (Some k) is = inr (k, is, began_with x y b s k h on is)

-- no frame of the present epoch names a higher epoch of the peer than the highest that was taken
pub named_own : (x y : View) (b k : ℕ) (f : Frame) (e : LinkEnd) → ArePaired x y → slice_get x.told k ≡ Some f → f.bearer ≡ b → (x.wires b).end ≡ Some e → es_of f.bytes ≡ e.fsm.own → er_of f.bytes ≤ e.fsm.highest
named_own x y b k f e h there bearer is own =
    let n = (h.here.epochs b).named k f there bearer (ap boot_of own ∙ (h.here.ends b e is).boot) in
    let one : n.end ≡ e = same_some n.end e _ n.end_is is in
    let top : n.end.fsm.highest ≡ e.fsm.highest = ap (λ (d : LinkEnd). d.fsm.highest) one in
    let few = n.highest in
    omega arith

-- a frame that shows both epochs under a contact number shows the first one under it
pub under_shown : (told : List Frame) (b es er contact : ℕ) → IsShown told b es er contact → IsUnder told b es contact
under_shown told b es er contact t = record { place = t.place; frame = t.frame; there = t.there; bearer_is = t.bearer_is; es_is = t.es_is; contact_is = t.contact_is }

-- a notice of an epoch under a contact number is a frame
pub told_under : (y : View) (b epoch contact : ℕ) → IsNoticed (said_by y) b epoch contact → IsUnder y.told b epoch contact
told_under y b epoch contact t =
    let at = mapped_at notice_of y.told t.place t.notice t.there in
    record {
      place = t.place;
      frame = at.0;
      there = at.1;
      bearer_is = ap (λ (m : Notice). m.bearer) at.2 ∙ t.bearer_is;
      es_is = ap (λ (m : Notice). m.es) at.2 ∙ t.epoch_is;
      contact_is = ap (λ (m : Notice). m.contact) at.2 ∙ t.contact_is;
    }
