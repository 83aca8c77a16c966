-- A link of a node goes up, and a contact begins, by a frame that its peer told in it.
use Rattle.std.proofs.Common.{◌≡◌, ◌≤◌, ◌⊎◌, ℕ, false, Some, None, refl, sym, ap, ◌∙◌, subst, inl, inr, arith}
use Rattle.tipc_link.specs.Links.{LinkEnd, known, record_of, session_of}
use Rattle.tipc_link.specs.Records.{Received, kept_for}
use Rattle.tipc_link.specs.Sessions.{SessionEnd, receiving_record}
use Rattle.tipc_link_fsm.specs.Table.{is_last}
use Rattle.tipc_two_nodes.specs.links.Receiving.{record_at}
use Rattle.tipc_paired.proofs.sessions.RiseDeeds.{Went, begun_stays}
use Rattle.tipc_paired.proofs.wires.Wires.{epoch_of_end, map_at, none_some, on_put, on_put_else, put_same, same_some, session_of_down, session_of_up}
use Rattle.tipc_paired.specs.Deeds.{begun_by, with_begun}
use Rattle.tipc_paired.specs.Paired.{ArePaired, IsShown}
use Rattle.tipc_paired.specs.Views.{Begun, View, Wire, epoch_on, fsm_in, notice_of, put_at, session_on, with_wire}
use Rattle.tipc_two_nodes.specs.Carriages.{IsPresent, Numbers}
use Rattle.tipc_two_nodes.specs.Numbers.{AreRecorded, IsRecorded, IsToldIn}
use Rattle.tipc_two_nodes.specs.Steps.{RecordAfter, Stays, as_it_was, is_kept}
use Rattle.tipc_two_nodes.proofs.contacts.Recorded.{kept_recorded}
use Rattle.tipc_two_nodes.proofs.contacts.Stale.{apart_absent}

abbrev pub risen_view : View → ℕ → LinkEnd → View
risen_view x b e' = with_wire x b (with_begun x.node (x.wires b) e')

-- A frame that names the epoch of a link end was told while the peer had seen the present number: a node names an epoch of another one under the
-- number that it showed with it.
pub shown_in : (x y : View) (b : ℕ) (e : LinkEnd) (es number : ℕ) → ArePaired x y → (x.wires b).end ≡ Some e → is_last e.fsm.own ≡ false → IsShown y.told b es e.fsm.own number → IsToldIn y.told b es number x.node.contact
shown_in x y b e es number h is goes_on t =
    let speaks = h.peers.a_speaks in
    let end : fsm_in (x.wires b).end ≡ Some e.fsm = ap fsm_in is in
    let order = speaks.order b e.fsm end in
    let some = speaks.some in
    let er = t.er_is in
    let n = h.peers.b_knows.named t.place (notice_of t.frame) (map_at notice_of y.told t.place t.frame t.there) (λ none. (let wrong : ⊥ = omega arith in wrong)) in
    let own : n.notice.es ≡ e.fsm.own = n.epoch_is ∙ er in
    let bearer : n.notice.bearer ≡ b = n.bearer_is ∙ t.bearer_is in
    let shown = speaks.shown n.place n.notice n.there (ap is_last own ∙ goes_on) in
    record {
      place = t.place;
      frame = t.frame;
      there = t.there;
      bearer_is = t.bearer_is;
      epoch_is = t.es_is;
      own_is = t.contact_is;
      theirs_is = sym n.contact_is ∙ (sym shown ∙ (ap (λ c. speaks.contact_of c n.notice.es) bearer ∙ (ap (speaks.contact_of b) own ∙ speaks.now b e.fsm end goes_on)));
    }

-- so was the one under which the link went up, and the peer had the number that x has seen
pub went_told : (x y : View) (b : ℕ) (e e' : LinkEnd) (es : ℕ) → ArePaired x y → Went x y b e e' es → IsToldIn y.told b es x.node.seen x.node.contact
went_told x y b e e' es h m = shown_in x y b e es x.node.seen h m.end_is m.raised.goes_on m.shown

-- ---- sessions

-- nothing had begun under the epoch
pub none_begun : (x y : View) (b : ℕ) (e e' : LinkEnd) (es : ℕ) → ArePaired x y → Went x y b e e' es → (x.wires b).begun e'.fsm.own ≡ None
none_begun x y b e e' es h m =
    let down : session_on (x.wires b) ≡ None = session_of_down (x.wires b) e m.end_is m.raised.was in
    let now = epoch_of_end x.node (x.wires b) e m.end_is in
    let own = m.raised.epoch in
    (h.here.epochs b).unborn e'.fsm.own ((let low : epoch_on x.node (x.wires b) ≤ e'.fsm.own = omega arith in low), λ s on. absurd (none_some s _ down on))

pub risen_begun : (x y : View) (b : ℕ) (e e' : LinkEnd) (es c epoch : ℕ) (g : Begun) → ArePaired x y → Went x y b e e' es → (x.wires c).begun epoch ≡ Some g → ((risen_view x b e').wires c).begun epoch ≡ Some g
risen_begun x y b e e' es c epoch g h m is =
    on_put x.wires b (with_begun x.node (x.wires b) e') (λ c (w : Wire). (x.wires c).begun epoch ≡ Some g → w.begun epoch ≡ Some g)
    (λ was. begun_stays (x.wires b) e'.fsm.own (begun_by x.node e') (none_begun x y b e e' es h m) epoch g was) (λ c was. was) c is

-- the session that begins
pub new_session : (x y : View) (b : ℕ) (e e' : LinkEnd) (es : ℕ) → Went x y b e e' es → session_on ((risen_view x b e').wires b) ≡ Some (session_of e')
new_session x y b e e' es m =
    ap session_on (put_same x.wires b (with_begun x.node (x.wires b) e'))
    ∙ session_of_up (with_begun x.node (x.wires b) e') e' (session_of e') (record { end_is = refl; up = m.raised.up; session_is = m.raised.session })

pub new_present : (x y : View) (b : ℕ) (e e' : LinkEnd) (es : ℕ) → Went x y b e e' es → IsPresent (risen_view x b e') x.node.contact x.node.seen
new_present x y b e e' es m = record { bearer = b; session = session_of e'; session_is = new_session x y b e e' es m; own_is = refl; theirs_is = refl }

peer_known : (x y : View) (b : ℕ) (e e' : LinkEnd) (es : ℕ) → Went x y b e e' es → known e'.fsm.peer ≡ es
peer_known x y b e e' es m = ap known m.peer_is

-- a session of then is the new one, or began before
pub began_then : (x y : View) (b : ℕ) (e e' : LinkEnd) (es c epoch : ℕ) (g : Begun) → Went x y b e e' es → ((risen_view x b e').wires c).begun epoch ≡ Some g
    → ((x.wires c).begun epoch ≡ Some g) ⊎ ((c ≡ b) × (g ≡ begun_by x.node e') × (epoch ≡ e'.fsm.own))
began_then x y b e e' es c epoch g m =
    on_put_else x.wires b (with_begun x.node (x.wires b) e') (λ c (w : Wire). w.begun epoch ≡ Some g → ((x.wires c).begun epoch ≡ Some g) ⊎ ((c ≡ b) × (g ≡ begun_by x.node e') × (epoch ≡ e'.fsm.own)))
    at_wire (λ c other is. inl is) c
  where
    at_wire : put_at (x.wires b).begun e'.fsm.own (Some (begun_by x.node e')) epoch ≡ Some g → ((x.wires b).begun epoch ≡ Some g) ⊎ ((b ≡ b) × (g ≡ begun_by x.node e') × (epoch ≡ e'.fsm.own))
    at_wire = on_put_else (x.wires b).begun e'.fsm.own (Some (begun_by x.node e')) (λ i o. (i ≡ epoch) → o ≡ Some g → ((x.wires b).begun epoch ≡ Some g) ⊎ ((b ≡ b) × (g ≡ begun_by x.node e') × (epoch ≡ e'.fsm.own)))
        (λ same is. inr (refl, (let one : begun_by x.node e' ≡ g = cc in sym one), sym same)) (λ i other same is. inl (ap (x.wires b).begun (sym same) ∙ is)) epoch refl

-- ---- the deed

pub rises_stays : (x y : View) (n : Numbers) (b : ℕ) (e e' : LinkEnd) (es : ℕ) → ArePaired x y → Went x y b e e' es → IsToldIn y.told b es x.node.seen x.node.contact → Stays x (risen_view x b e') y n
rises_stays x y n b e e' es h m t =
    let x' = risen_view x b e' in
    let here = new_present x y b e e' es m in
    let same : (c : ℕ) → epoch_on x.node (x'.wires c) ≡ epoch_on x.node (x.wires c) = on_put x.wires b (with_begun x.node (x.wires b) e') (λ c w. epoch_on x.node w ≡ epoch_on x.node (x.wires c))
    (epoch_of_end x.node (with_begun x.node (x.wires b) e') e' refl ∙ (m.raised.epoch ∙ sym (epoch_of_end x.node (x.wires b) e m.end_is))) (λ c. refl) in
    record {
      node = refl;
      apart = λ apart. absurd (apart_absent x' x.node.contact x.node.seen apart here);
      epochs = λ c. inl (same c);
      present = λ was. here;
      begun = λ c epoch g is. risen_begun x y b e e' es c epoch g h m is;
      each = λ c epoch low before. absurd (let still = same c in let wrong : ⊥ = omega arith in wrong);
      began = λ c epoch g is. elim (began_then x y b e e' es c epoch g m is) [
        | inl was ↦ inl was
        | inr new ↦ inr (
          ap (λ (k : Begun). k.contact) new.1,
          ap (λ (k : Begun). k.peer_contact) new.1,
          here,
          subst (λ i. IsToldIn y.told i g.peer_epoch x.node.seen x.node.contact) (sym new.0) (subst (λ i. IsToldIn y.told b i x.node.seen x.node.contact) (sym (ap (λ (k : Begun). k.peer_epoch) new.1 ∙ peer_known x y b e e' es m)) t),
        )
      ];
      told = λ k f there. inl there;
    }

-- the record with which the link goes up
risen_record : (x y : View) (b : ℕ) (e e' : LinkEnd) (es : ℕ) → Went x y b e e' es → record_of e' ≡ Some (kept_for (record_of e) es)
risen_record x y b e e' es m =
    let peer : m.raised.peer_epoch ≡ es = same_some m.raised.peer_epoch es e'.fsm.peer m.raised.peer_is m.peer_is in
    of e' (session_of e') m.raised.session ∙ ap Some (m.raised.kept ∙ ap (kept_for (record_of e)) peer)
  where
    of : (d : LinkEnd) (s : SessionEnd) → d.session ≡ Some s → record_of d ≡ Some (receiving_record s)
    of d s is = rw is refl

record_after : (x y : View) (b : ℕ) (e e' : LinkEnd) (es : ℕ) → Went x y b e e' es → IsToldIn y.told b es x.node.seen x.node.contact → (c : ℕ) → RecordAfter y x (risen_view x b e') c
record_after x y b e e' es m t c = after c (on_put_else x.wires b (with_begun x.node (x.wires b) e') (λ c (w : Wire). (record_at w.end ≡ record_at (x.wires c).end) ⊎ ((c ≡ b) × (record_at w.end ≡ Some (kept_for (record_at (x.wires c).end) es)))) (inr (refl, here)) (λ c other. inl refl) c)
  where
    here : record_at (Some e') ≡ Some (kept_for (record_at (x.wires b).end) es)
    here = risen_record x y b e e' es m ∙ ap (λ o. Some (kept_for (record_at o) es)) (sym m.end_is)

    after : (c : ℕ) → (record_at ((risen_view x b e').wires c).end ≡ record_at (x.wires c).end) ⊎ ((c ≡ b) × (record_at ((risen_view x b e').wires c).end ≡ Some (kept_for (record_at (x.wires c).end) es))) → RecordAfter y x (risen_view x b e') c
    after c (inl same) = as_it_was same
    after c (inr kept) = is_kept es (subst (λ i. IsToldIn y.told i es x.node.seen x.node.contact) (sym kept.0) t) kept.1

-- records of before stay, and the one of the link is kept or made for an epoch that was told
pub rises_recorded : (x y : View) (b : ℕ) (e e' : LinkEnd) (es : ℕ) → Went x y b e e' es → IsToldIn y.told b es x.node.seen x.node.contact → AreRecorded x y → AreRecorded (risen_view x b e') y
rises_recorded x y b e e' es m t h = λ c a is. record_then c a is (record_after x y b e e' es m t c)
  where
    still : (c : ℕ) (r : Received) → record_at (x.wires c).end ≡ Some r → IsRecorded (risen_view x b e') y c r
    still c r is = (
        let k = h c r is in
        record {
          told = k.told;
          used = elim k.used [
            | inl unused ↦ inl unused
            | inr used ↦ inr (used.0, used.1, elim used.2 [ inl before ↦ inl before | inr now ↦ inr (now.0, new_present x y b e e' es m, now.2) ])
          ];
        })

    record_then : (c : ℕ) (a : Received) → record_at ((risen_view x b e').wires c).end ≡ Some a → RecordAfter y x (risen_view x b e') c → IsRecorded (risen_view x b e') y c a
    record_then c a is (as_it_was same) = still c a (sym same ∙ is)
    record_then c a is (is_kept epoch told same) =
        let one : Some (kept_for (record_at (x.wires c).end) epoch) ≡ Some a = sym same ∙ is in
        kept_recorded x (risen_view x b e') y c epoch (record_at (x.wires c).end) a (still c) told (let two : kept_for (record_at (x.wires c).end) epoch ≡ a = cc in two)
