-- One of two links goes up or down beside the other, hands over, or counts what came through the other.
use Rattle.std.proofs.Common.{◌≡◌, ◌+◌, ◌≤◌, ℕ, true, false, List, ◌++◌, Option, Some, None, option_map, length, refl, sym, ap, ◌∙◌, subst, inl, inr, arith}
use Rattle.std.proofs.lemmas.Bool.{cases_eq}
use Rattle.tipc_types.specs.LinkStates.{is_up}
use Rattle.tipc_types.specs.Prefixes.{IsPrefixOf}
use Rattle.tipc_types.specs.declared.link_words.Cause.{Cause}
use Rattle.tipc_contact.specs.Sides.{boot_of}
use Rattle.tipc_header.specs.Spelling.{spelling}
use Rattle.tipc_link.specs.Direction.{IsReceiver}
use Rattle.tipc_link.specs.Links.{LinkEnd, after, early_with, handed_over, record_in, record_of, recorded}
use Rattle.tipc_link.specs.Records.{Early, Received, early_of, early_record}
use Rattle.tipc_link.specs.Sessions.{SessionEnd, given_up, with_record}
use Rattle.tipc_link.proofs.Ends.{Alike, IsStill, like-map}
use Rattle.tipc_link_fsm.specs.declared.changes.Change.TheVariants.{Down}
use Rattle.tipc_link_fsm.specs.Runs.{Call, outcome}
use Rattle.tipc_link_fsm.specs.Table.{is_held}
use Rattle.tipc_paired.proofs.contacts.ContactDeeds.{fallen, fell, none_wire}
use Rattle.tipc_paired.proofs.wires.Ends.{still_end}
use Rattle.tipc_paired.proofs.wires.EpochsKept.{IsSteady, epochs_steady, reached_on, records_on}
use Rattle.tipc_paired.proofs.wires.Frames.{es_of-frame}
use Rattle.tipc_paired.proofs.wires.Sides.{peers_still}
use Rattle.tipc_paired.proofs.wires.WireDeeds.{high_still, wire_deed}
use Rattle.tipc_paired.proofs.wires.Wires.{epoch_of_end, is_up_of, none_some, on_put, prefix_append, prefix_same, put_other, put_same, same_some, session_of_down, session_of_up}
use Rattle.tipc_paired.specs.Deeds.{Counts, MayCall, with_counted}
use Rattle.tipc_paired.specs.Paired.{ArePaired, IsEnd, IsGoing, IsNoHigher, IsRecordOf, IsRecords, IsWire, on_record}
use Rattle.tipc_paired.specs.Views.{Begun, Node, View, Wire, es_of, fsm_in, session_on, with_end, with_wire}

-- ---- a link goes down

pub falls_beside_paired : (x y : View) (b : ℕ) (e : LinkEnd) (call : Call) (cause : Cause) → ArePaired x y → (x.wires b).end ≡ Some e → MayCall x y b call → (outcome e.fsm call).change ≡ Down cause
    → ArePaired (with_wire x b (with_end (x.wires b) (after e (outcome e.fsm call)))) y
falls_beside_paired x y b e call cause h is may down = fell x y b e call h is may (fallen x y b e call cause may down)

-- ---- what a link that is down had to send is given up

pub handed_record : (e : LinkEnd) → record_of (handed_over e) ≡ record_of e
handed_record e = of e.session
  where
    of : (o : Option SessionEnd) → record_in (option_map given_up o) e.early ≡ record_in o e.early
    of None = refl
    of (Some s) = refl

-- a link end with another session of the same epochs
changed_still : (e : LinkEnd) (f : SessionEnd → SessionEnd) (early : Option Early) → ((s : SessionEnd) → Alike s (f s)) → IsStill e (record e { session = option_map f e.session; early = early })
changed_still e f early alike = record {
  own = refl;
  peer = refl;
  bearer = refl;
  contact = refl;
  seen = refl;
  epoch = refl;
  peer_epoch = refl;
  highest = refl;
  up = refl;
  sessions = like-map f e.session alike;
}

pub hands_over_paired : (x y : View) (b : ℕ) (e : LinkEnd) → ArePaired x y → (x.wires b).end ≡ Some e → is_up e.fsm.state ≡ false → ArePaired (with_wire x b (with_end (x.wires b) (handed_over e))) y
hands_over_paired x y b e h is down =
    let w = x.wires b in
    let d = handed_over e in
    let w' = with_end w d in
    let was : session_on w ≡ None = session_of_down w e is down in
    let now : session_on w' ≡ None = session_of_down w' d refl down in
    let still = changed_still e given_up e.early (λ s. record { own = refl; peer = refl; bearer = refl; epoch = refl; peer_epoch = refl }) in
    let steady : IsSteady x.node w w' = record {
      begun = λ epoch. refl;
      epoch = epoch_of_end x.node w' d refl ∙ sym (epoch_of_end x.node w e is);
      onward = λ s on. absurd (none_some s _ was on);
      back = λ s on. absurd (none_some s _ now on);
      end = λ k there. (let one : d ≡ k = cc in (e, is, ap (λ (u : LinkEnd). u.fsm.own) (sym one), λ unheld. ap (λ (u : LinkEnd). is_held u.fsm.state) (sym one) ∙ unheld));
      end_on = λ k there. (let one = same_some e k w.end is there in (d, refl, (let high = ap (λ (u : LinkEnd). u.fsm.highest) one in omega arith)));
    } in
    wire_deed x y b w' h (record {
      grows = record { line = λ epoch. prefix_same (w.line epoch); got = λ epoch. prefix_same (w.got epoch); begun = λ epoch g there. there };
      end = λ k there. (let one : d ≡ k = cc in subst (IsEnd x.node b) one (still_end x.node b e d (h.here.ends b e is) still));
      wire = none_wire x.node.own w (y.wires b) d (h.here.wires b) down (λ r has. (h.here.wires b).kept e r is (sym (handed_record e) ∙ has));
      records = records_on x.node w w' (y.wires b) e d (h.here.records b) is refl (λ epoch. refl) (handed_record e) (omega arith);
      highest = high_still x y b e d h is refl;
      epochs = epochs_steady x.node b x.told y.told w w' (y.wires b) (h.here.epochs b) steady;
      peers = peers_still x y b w' h (sym (ap fsm_in is));
    })

-- ---- a record counts what came through the other link

-- a session that began in the present contact of the peer began with an epoch of the peer's present boot
pub begun_boot : (x y : View) (b epoch : ℕ) (k : Begun) → ArePaired x y → (y.wires b).begun epoch ≡ Some k → k.peer_contact ≡ x.node.contact → boot_of k.peer_epoch ≡ x.node.boot
begun_boot x y b epoch k h is contact =
    let t = (h.there.epochs b).shown epoch k is in
    let f = h.here.frames t.place t.frame t.there in
    let es : es_of t.frame.bytes ≡ f.es = ap es_of f.bytes ∙ es_of-frame f.es f.er (spelling f.packet) f.es_fits f.er_fits in
    ap boot_of (sym t.es_is ∙ es) ∙ f.boot ∙ ap boot_of (t.contact_is ∙ contact) ∙ h.here.node.contact

-- and with one that the node named, by a frame of this boot: so its link end there took no lower epoch
pub named_began : (x y : View) (b epoch : ℕ) (k : Begun) → ArePaired x y → (y.wires b).begun epoch ≡ Some k → k.peer_contact ≡ x.node.contact → IsNoHigher (x.wires b) epoch
named_began x y b epoch k h is contact =
    let t = (h.there.epochs b).shown epoch k is in
    let n = (h.here.epochs b).named t.place t.frame t.there t.bearer_is (ap boot_of t.es_is ∙ begun_boot x y b epoch k h is contact) in
    let er = t.er_is in
    let low = n.highest in
    record { end = n.end; end_is = n.end_is; highest = omega arith }

-- the record of an end is another one: before there was a session its count is kept, and nothing is held
pub record IsRecorded (e : LinkEnd) (r : Received) : Type 0 where
  pub kept : Received
  pub kept_is : record_of (recorded e r) ≡ Some kept
  pub epoch : kept.epoch ≡ r.epoch
  pub taken : kept.taken ≡ r.taken
  pub holds : (line : List (List ℕ)) → IsReceiver r.held r.taken line → IsReceiver kept.held kept.taken line
  pub shown : (line : List (List ℕ)) → r.shown ≤ length line + 1 → kept.shown ≤ length line + 1

pub recorded_is : (e : LinkEnd) (r : Received) → IsRecorded e r
recorded_is e r = of e.session refl
  where
    of : (o : Option SessionEnd) → e.session ≡ o → IsRecorded e r
    of None is = record {
      kept = early_record (early_of r);
      kept_is = ap (λ o. record_in (option_map (λ s. with_record s r) o) (early_with o e.early r)) is;
      epoch = refl;
      taken = refl;
      holds = λ line h. record { window = omega arith; wants = refl; holds = λ d t has. absurd (let none : ⊥ = cc in none) };
      shown = λ line low. omega arith;
    }
    of (Some s) is = record {
      kept = r;
      kept_is = ap (λ o. record_in (option_map (λ s. with_record s r) o) (early_with o e.early r)) is;
      epoch = refl;
      taken = refl;
      holds = λ line h. h;
      shown = λ line low. low;
    }

-- the session then, which was the one before with another record
pub counted_back : (w : Wire) (e : LinkEnd) (r : Received) (more : List (List ℕ)) (s' : SessionEnd) → w.end ≡ Some e → session_on (with_counted w e r more) ≡ Some s' → (s : SessionEnd) × (session_on w ≡ Some s) × (with_record s r ≡ s')
counted_back w e r more s' is on =
    let w' = with_counted w e r more in
    let up = is_up_of w' s' on in
    let one : recorded e r ≡ up.0 = (let there = up.1.end_is in cc) in
    let on_end : is_up e.fsm.state ≡ true = ap (λ (u : LinkEnd). is_up u.fsm.state) one ∙ up.1.up in
    of e.session refl (ap (λ (u : LinkEnd). u.session) one ∙ up.1.session_is) on_end
  where
    of : (o : Option SessionEnd) → e.session ≡ o → option_map (λ s. with_record s r) e.session ≡ Some s' → is_up e.fsm.state ≡ true → (s : SessionEnd) × (session_on w ≡ Some s) × (with_record s r ≡ s')
    of None had has up = absurd (none_some s' _ (ap (option_map (λ s. with_record s r)) had) has)
    of (Some s) had has up =
        let same : with_record s r ≡ s' = same_some (with_record s r) s' _ (ap (option_map (λ s. with_record s r)) had) has in
        (s, session_of_up w e s (record { end_is = is; up = up; session_is = had }), same)

pub counted_steady : (n : Node) (w : Wire) (e : LinkEnd) (r : Received) (more : List (List ℕ)) → w.end ≡ Some e → IsSteady n w (with_counted w e r more)
counted_steady n w e r more is =
    let d = recorded e r in
    let w' = with_counted w e r more in
    record {
      begun = λ epoch. refl;
      epoch = epoch_of_end n w' d refl ∙ sym (epoch_of_end n w e is);
      onward = λ s on. (
          let up = is_up_of w s on in
          let one : up.0 ≡ e = same_some up.0 e w.end up.1.end_is is in
          let has : e.session ≡ Some s = ap (λ (u : LinkEnd). u.session) (sym one) ∙ up.1.session_is in
          (with_record s r, session_of_up w' d (with_record s r) (record { end_is = refl; up = ap (λ (u : LinkEnd). is_up u.fsm.state) (sym one) ∙ up.1.up; session_is = ap (option_map (λ s. with_record s r)) has }), refl));
      back = λ s' on. (let old = counted_back w e r more s' is on in (old.0, old.1, ap (λ (u : SessionEnd). u.epoch) (sym old.2), ap (λ (u : SessionEnd). u.peer_epoch) (sym old.2)));
      end = λ k there. (let one : d ≡ k = cc in (e, is, ap (λ (u : LinkEnd). u.fsm.own) (sym one), λ unheld. ap (λ (u : LinkEnd). is_held u.fsm.state) (sym one) ∙ unheld));
      end_on = λ k there. (let one = same_some e k w.end is there in (d, refl, (let high = ap (λ (u : LinkEnd). u.fsm.highest) one in omega arith)));
    }

-- a session that is up has what its record counts
counted_going : (own : ℕ) (w v : Wire) (e : LinkEnd) (r : Received) (more : List (List ℕ)) (s : SessionEnd) → IsGoing own w v s → s.peer_epoch ≡ r.epoch → length (w.got r.epoch ++ more) ≡ r.taken → IsReceiver r.held r.taken (v.line r.epoch)
    → r.shown ≤ length (v.line r.epoch) + 1 → IsGoing own (with_counted w e r more) v (with_record s r)
counted_going own w v e r more s g same takes holds shown = record {
  begun = g.begun;
  begun_is = g.begun_is;
  peer_is = g.peer_is;
  waiting = g.waiting;
  sends = g.sends;
  takes = ap (λ n. length ((with_counted w e r more).got n)) same ∙ ap (λ (xs : List (List ℕ)). length xs) (put_same w.got r.epoch (w.got r.epoch ++ more)) ∙ takes;
  holds = subst (λ n. IsReceiver r.held r.taken (v.line n)) (sym same) holds;
  shown = subst (λ n. r.shown ≤ length (v.line n) + 1) (sym same) shown;
  record_is = sym same;
}

-- while the link is up the record is of the peer's epoch
counted_epoch : (x y : View) (b : ℕ) (e : LinkEnd) (r : Received) (more : List (List ℕ)) (s : SessionEnd) → ArePaired x y → Counts x y b e r more → session_on (x.wires b) ≡ Some s → s.peer_epoch ≡ r.epoch
counted_epoch x y b e r more s h m on =
    let up = is_up_of (x.wires b) s on in
    let one : up.0 ≡ e = same_some up.0 e _ up.1.end_is m.end_is in
    let on_end : is_up e.fsm.state ≡ true = ap (λ (u : LinkEnd). is_up u.fsm.state) (sym one) ∙ up.1.up in
    let going = (h.here.ends b e m.end_is).going on_end in
    let same : going.0 ≡ s = same_some going.0 s e.session going.1 (ap (λ (u : LinkEnd). u.session) (sym one) ∙ up.1.session_is) in
    ap (λ (u : SessionEnd). u.peer_epoch) (sym same) ∙ same_some going.0.peer_epoch r.epoch e.fsm.peer going.3 (m.up on_end)

counted_wire : (x y : View) (b : ℕ) (e : LinkEnd) (r : Received) (more : List (List ℕ)) → ArePaired x y → Counts x y b e r more → IsWire x.node.own (with_counted (x.wires b) e r more) (y.wires b)
counted_wire x y b e r more h m =
    let w = x.wires b in
    let v = y.wires b in
    let w' = with_counted w e r more in
    let wire = h.here.wires b in
    let now : w'.got r.epoch ≡ w.got r.epoch ++ more = put_same w.got r.epoch (w.got r.epoch ++ more) in
    record {
      unborn = wire.unborn;
      packets = wire.packets;
      window = wire.window;
      prefix = on_put w.got r.epoch (w.got r.epoch ++ more) (λ epoch xs. IsPrefixOf xs (v.line epoch)) m.next wire.prefix;
      going = λ s' on. (
          let old = counted_back w e r more s' m.end_is on in
          subst (IsGoing x.node.own w' v) old.2 (counted_going x.node.own w v e r more old.0 (wire.going old.0 old.1) (counted_epoch x y b e r more old.0 h m old.1) m.takes m.holds m.shown));
      kept = λ d k is has. (
          let one : recorded e r ≡ d = cc in
          let t = recorded_is e r in
          let same : t.kept ≡ k = same_some t.kept k (record_of d) (ap record_of (sym one) ∙ t.kept_is) has in
          subst (IsRecordOf w' v) same (record {
            takes = ap (λ n. length (w'.got n)) t.epoch ∙ ap (λ (xs : List (List ℕ)). length xs) now ∙ m.takes ∙ sym t.taken;
            holds = subst (λ n. IsReceiver t.kept.held t.kept.taken (v.line n)) (sym t.epoch) (t.holds (v.line r.epoch) m.holds);
            shown = subst (λ n. t.kept.shown ≤ length (v.line n) + 1) (sym t.epoch) (t.shown (v.line r.epoch) m.shown);
          }));
    }

counted_records : (x y : View) (b : ℕ) (e : LinkEnd) (r : Received) (more : List (List ℕ)) → ArePaired x y → Counts x y b e r more → IsRecords x.node (with_counted (x.wires b) e r more) (y.wires b)
counted_records x y b e r more h m =
    let w = x.wires b in
    let v = y.wires b in
    let w' = with_counted w e r more in
    let t = recorded_is e r in
    let at = t.epoch in
    record {
      reached = λ epoch. elim (cases_eq epoch r.epoch) [
        | inl same ↦ on_record (recorded e r) t.kept refl t.kept_is (omega arith)
        | inr other ↦ reached_on x.node.boot w w' v epoch ((h.here.records b).reached epoch) (put_other w.got r.epoch (w.got r.epoch ++ more) epoch other) (λ d k is has. (
            let one = same_some e d w.end m.end_is is in
            let low = m.no_lower k (ap record_of one ∙ has) in
            (recorded e r, t.kept, refl, t.kept_is, (let rises : k.epoch ≤ t.kept.epoch = omega arith in rises))))
      ];
      below = λ d k is has. (
          let one : recorded e r ≡ d = cc in
          let same : t.kept ≡ k = same_some t.kept k (record_of d) (ap record_of (sym one) ∙ t.kept_is) has in
          let n = named_began x y b r.epoch m.begun h m.begun_is m.contact_is in
          let its : n.end ≡ e = same_some n.end e w.end n.end_is m.end_is in
          let top : n.end.fsm.highest ≡ e.fsm.highest = ap (λ (u : LinkEnd). u.fsm.highest) its in
          let last : e.fsm.highest ≡ d.fsm.highest = ap (λ (u : LinkEnd). u.fsm.highest) one in
          let few = n.highest in
          let of_kept : t.kept.epoch ≡ k.epoch = ap (λ (u : Received). u.epoch) same in
          omega arith);
    }

pub counts_paired : (x y : View) (b : ℕ) (e : LinkEnd) (r : Received) (more : List (List ℕ)) → ArePaired x y → Counts x y b e r more → ArePaired (with_wire x b (with_counted (x.wires b) e r more)) y
counts_paired x y b e r more h m =
    let w = x.wires b in
    let d = recorded e r in
    let w' = with_counted w e r more in
    let still = changed_still e (λ s. with_record s r) (early_with e.session e.early r) (λ s. record { own = refl; peer = refl; bearer = refl; epoch = refl; peer_epoch = refl }) in
    wire_deed x y b w' h (record {
      grows = record {
        line = λ epoch. prefix_same (w.line epoch);
        got = on_put w.got r.epoch (w.got r.epoch ++ more) (λ epoch xs. IsPrefixOf (w.got epoch) xs) (prefix_append (w.got r.epoch) more) (λ epoch. prefix_same (w.got epoch));
        begun = λ epoch g there. there;
      };
      end = λ k there. (let one : d ≡ k = cc in subst (IsEnd x.node b) one (still_end x.node b e d (h.here.ends b e m.end_is) still));
      wire = counted_wire x y b e r more h m;
      records = counted_records x y b e r more h m;
      highest = high_still x y b e d h m.end_is refl;
      epochs = epochs_steady x.node b x.told y.told w w' (y.wires b) (h.here.epochs b) (counted_steady x.node w e r more m.end_is);
      peers = peers_still x y b w' h (sym (ap fsm_in m.end_is));
    })
