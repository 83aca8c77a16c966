-- Two nodes that talk begin to be still, and what they have in the air shows what they have at present.
use Rattle.std.specs.Prelude.{◌||◌, not, slice_get}
use Rattle.std.proofs.Common.{◌≡◌, ◌∙◌, ℕ, Bool, true, false, Option, Some, None, refl, sym, ap, subst, arith, eqb-true}
use Rattle.std.proofs.lemmas.Bool.{and_parts, true≢false}
use Rattle.tipc_types.specs.LinkStates.{is_up}
use Rattle.tipc_header.specs.declared.packet.Header.{Header}
use Rattle.tipc_header.specs.declared.packet.Header.TheVariants as header
use Rattle.tipc_header.specs.Frames.{frame_of}
use Rattle.tipc_header.specs.Spelling.{Fields, spelling}
use Rattle.tipc_link_fsm.specs.Table.{is_held, is_last, is_peer, is_reset_reset}
use Rattle.tipc_link.specs.Links.{LinkEnd}
use Rattle.tipc_pair.specs.Facing.{facing, in_contact, is_up_at}
use Rattle.tipc_paired.specs.Paired.{ArePaired, ShowsContact}
use Rattle.tipc_paired.specs.Views.{Frame, Node, View, epoch_in, es_of, fsm_in, notice_of}
use Rattle.tipc_paired.proofs.wires.Frames.{es_of-frame, same_packet}
use Rattle.tipc_paired.proofs.wires.Wires.{map_at}
use Rattle.tipc_two_nodes.specs.Sights.{AreSeen, Sight, pair_seen}
use Rattle.tipc_two_nodes.proofs.sights.Known.{contact_tells_present, nothing_higher_is_known, present_tells_contact}
use Rattle.tipc_two_nodes.proofs.sights.Sights.{ends}
use Rattle.tipc_settling.specs.Beginnings.{AreUpWithPresent, BeginsStill, HasMoreEpochs, ShowsPresentContact, footing, is_answering, is_free_at}
use Rattle.tipc_settling.specs.Stillness.{Footing, IsStillAt, ShowsNumber}
use Rattle.tipc_settling.proofs.Rows.{peer_named}

-- ---- the begin

-- the two footings are those of the moment on this bearer
record AreOf (own peer : Footing) (v w : Sight) (bearer : ℕ) : Type 0 where
  contact : own.contact ≡ v.node.contact
  epoch : own.epoch bearer ≡ epoch_in v.node.contact (v.ends bearer)
  up : own.up bearer ≡ is_up_at (v.ends bearer)
  answers : own.answers bearer ≡ is_answering (peer.epoch bearer) (v.ends bearer)
  free : own.free bearer ≡ is_free_at (v.ends bearer)
  alone : peer.alone ≡ not (in_contact (pair_seen w))
  peer_contact : peer.contact ≡ w.node.contact
  peer_epoch : peer.epoch bearer ≡ epoch_in w.node.contact (w.ends bearer)

-- an end that knows the peer's present epoch has seen its contact number
knows_contact : (v w : Sight) (bearer : ℕ) (e : LinkEnd) → AreSeen v w → HasMoreEpochs w → v.ends bearer ≡ Some e → (o : Option LinkEnd) → w.ends bearer ≡ o → e.fsm.peer ≡ Some (epoch_in w.node.contact o) → v.node.seen ≡ w.node.contact
knows_contact v w bearer e h more is None none knows =
    let low = (nothing_higher_is_known v w h).unmade bearer e is none in
    let same = ((ends v w bearer e h is).peer_fits w.node.contact knows).1 in
    absurd (omega (arith, low, same))
knows_contact v w bearer e h more is (Some d) there knows = present_tells_contact v w bearer e d h is there knows (more bearer d there)

pub not_held : (b : Bool) → not b ≡ true → b ≡ false
not_held true is = absurd (true≢false (sym is))
not_held false is = refl

begun_at : (own peer : Footing) (v w : Sight) (bearer : ℕ) → AreSeen v w → AreUpWithPresent v w → HasMoreEpochs w → AreOf own peer v w bearer → (o : Option LinkEnd) → v.ends bearer ≡ o → IsStillAt own peer v.node.seen bearer (fsm_in o)
begun_at own peer v w bearer h with_it more of None none = record {
  epoch = of.epoch ∙ ap (epoch_in v.node.contact) none ∙ sym of.contact;
  down = of.up ∙ ap is_up_at none;
  unanswered = of.answers ∙ ap (is_answering (peer.epoch bearer)) none;
}
begun_at own peer v w bearer h with_it more of (Some e) is =
    let high = (nothing_higher_is_known v w h).highest bearer e is in
    let now = of.peer_epoch in
    record {
      epoch = sym (of.epoch ∙ ap (epoch_in v.node.contact) is);
      lasts = λ was. sym (of.up ∙ ap is_up_at is) ∙ was;
      answers = λ was.
          let both = and_parts (is_peer e.fsm.peer (peer.epoch bearer)) (is_up e.fsm.state || is_reset_reset e.fsm.state) (sym (of.answers ∙ ap (is_answering (peer.epoch bearer)) is) ∙ was) in
          record { knows = peer_named e.fsm.peer (peer.epoch bearer) both.0; heard = both.1 };
      free = λ was. not_held (is_held e.fsm.state) (sym (of.free ∙ ap is_free_at is) ∙ was);
      no_higher = omega (arith, high, now);
      up = λ up. (let d = with_it bearer e is up in d.2 ∙ ap (λ n. Some n) (sym (now ∙ ap (epoch_in w.node.contact) d.1)));
      contact = λ knows. knows_contact v w bearer e h more is (w.ends bearer) refl (knows ∙ ap (λ n. Some n) now) ∙ sym of.peer_contact;
      present = λ alone sees epoch knows.
          let d = contact_tells_present v w bearer epoch e h (not_held (in_contact (pair_seen w)) (sym of.alone ∙ alone)) (sees ∙ of.peer_contact) is knows in
          sym d.2 ∙ sym (now ∙ ap (epoch_in w.node.contact) d.1);
    }

pub begins_still : BeginsStill
unfolding facing
begins_still v w h with_it more =
    let own = footing (pair_seen v) (pair_seen w) in
    let peer = footing (pair_seen w) (pair_seen v) in
    record {
      two = omega arith;
      contact = refl;
      seen = (nothing_higher_is_known v w h).seen;
      sees = λ was. eqb-true v.node.seen w.node.contact was;
      near = begun_at own peer v w 0 h with_it more (record { contact = refl; epoch = refl; up = refl; answers = refl; free = refl; alone = refl; peer_contact = refl; peer_epoch = refl }) (v.ends 0) refl;
      far = begun_at own peer v w 1 h with_it more (record { contact = refl; epoch = refl; up = refl; answers = refl; free = refl; alone = refl; peer_contact = refl; peer_epoch = refl }) (v.ends 1) refl;
    }

-- ---- what is in the air

number_shown : (h : Header) (number theirs : ℕ) → ShowsContact h number theirs → ShowsNumber number h
number_shown (header.Reset said) number theirs shows = shows.0
number_shown (header.Activate said) number theirs shows = shows.0
number_shown other number theirs shows = tt

-- a frame under the present epoch of an end was told under the present contact number
told_now : (x y : View) (e : LinkEnd) (place : ℕ) (f : Frame) → ArePaired x y → slice_get x.told place ≡ Some f → (x.wires f.bearer).end ≡ Some e → es_of f.bytes ≡ e.fsm.own → is_last e.fsm.own ≡ false → f.contact ≡ x.node.contact
told_now x y e place f h there is own last =
    let speaks = h.peers.a_speaks in
    sym (speaks.shown place (notice_of f) (map_at notice_of x.told place f there) (ap is_last own ∙ last)) ∙ ap (speaks.contact_of f.bearer) own ∙ speaks.now f.bearer e.fsm (ap fsm_in is) last

pub shows_present_contact : ShowsPresentContact
shows_present_contact v w place f e es er p h there is last es_fits er_fits fits bytes own =
    let t = h.seen_here.sent place f there in
    let x = h.here.view in
    let told = h.talking.twins.paired.here.frames t.place t.frame t.there in
    let same : t.frame.bytes ≡ frame_of es er (spelling p) = t.bytes ∙ bytes in
    let packet : told.packet ≡ p = same_packet told.es told.er es er told.packet p told.fits fits (sym told.bytes ∙ same) in
    let under : es_of t.frame.bytes ≡ e.fsm.own = ap es_of same ∙ es_of-frame es er (spelling p) es_fits er_fits ∙ own in
    let end : (x.wires t.frame.bearer).end ≡ Some e = ap (λ b. (x.wires b).end) t.bearer_is ∙ h.seen_here.ends f.bearer ∙ is in
    let now : t.frame.contact ≡ v.node.contact = told_now x h.there.view e t.place t.frame h.talking.twins.paired t.there end under last ∙ ap (λ (n : Node). n.contact) h.seen_here.node in
    let shown : ShowsNumber t.frame.contact told.packet.header = number_shown told.packet.header t.frame.contact t.frame.peer_contact told.notice in
    subst (λ n. ShowsNumber n p.header) now (subst (λ (q : Fields). ShowsNumber t.frame.contact q.header) packet shown)
