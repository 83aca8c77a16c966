-- What a frame tells of its contact is so, at whatever time after it was told.
use Rattle.std.proofs.Common.{◌≡◌, ◌≤◌, ◌<◌, ◌+◌, ◌-◌, ℕ, zero, suc, true, List, [], Some, length, map, take, sym, ap, ◌∙◌, subst, inl, inr, arith}
use Rattle.std.specs.Prelude.{slice_get}
use Rattle.std.specs.List.{flat_map}
use Rattle.std.proofs.lemmas.List.{length-map}
use Rattle.std.proofs.lemmas.Option.{get_or_from_slice_get, slice_get_within}
use Rattle.tipc_types.specs.Position.{number_of}
use Rattle.tipc_header.specs.Frames.{frame_of}
use Rattle.tipc_header.specs.Grammar.{Fits}
use Rattle.tipc_header.specs.Spelling.{Fields, spelling}
use Rattle.tipc_fragments.specs.Streams.{items_of}
use Rattle.tipc_reassembly.specs.Slots.{HasOpened, Slot, slot_bytes, slot_items}
use Rattle.tipc_link.specs.Links.{is_traffic}
use Rattle.tipc_changeover.proofs.Staying.{reached_sound}
use Rattle.tipc_changeover.specs.Links.{First, Past, Receiver}
use Rattle.tipc_two_nodes.specs.links.Traffic.{Lines}
use Rattle.tipc_paired.proofs.wires.Frames.{er_of-frame, es_of-frame, same_packet}
use Rattle.tipc_paired.proofs.wires.Wires.{prefix_long}
use Rattle.tipc_paired.specs.Paired.{IsOfSession}
use Rattle.tipc_paired.specs.Views.{Begun, Frame, er_of, es_of}
use Rattle.tipc_two_nodes.specs.Carriages.{HasTakenOf}
use Rattle.tipc_two_nodes.specs.Sights.{IsSeen, Sight}
use Rattle.tipc_two_nodes.specs.Talkers.{AreTalking, Talker}
use Rattle.tipc_two_nodes.specs.Truth.{FramesFit, HasSent, HoldInOrder, IsNumbered, SpeaksTruth, SpeakTruly, TruthsSeen, none}
use Rattle.tipc_two_nodes.proofs.contacts.Fronts.{delivered_count, taken_within}
use Rattle.tipc_two_nodes.proofs.sights.Holding.{HoldsSession, session_holds}
use Rattle.tipc_two_nodes.proofs.sights.Sights.{frames}
use Rattle.tipc_two_nodes.proofs.sights.Sizes.{frame_size}
use Rattle.tipc_two_nodes.proofs.calls.Talkers.{turned_talk}

-- ---- the sessions of a node

-- what a record has of the session of an epoch is past
past_of : (l : Lines) (r : Receiver) (epoch count k : ℕ) → l.first ≤ epoch → HasTakenOf l r epoch count → k < count → Past r (epoch + 1 - l.first) (suc k)
past_of l r epoch count k low h few = elim (h (omega arith)) [
  | inl later ↦ inl (omega arith)
  | inr now ↦ (let session = now.0 in let taken = now.1 in inr (omega arith, omega arith))
]

-- the slots of what x put in a contact
abbrev slots_in : (x y : Talker) → AreTalking x y → (own theirs : ℕ) → List Slot
slots_in x y h own theirs = (h.sends.each own theirs).are.slots

-- how many of them y took
abbrev taken_in : (x y : Talker) → AreTalking x y → (own theirs : ℕ) → ℕ
taken_in x y h own theirs = length (h.twins.sends.carriage own theirs).state.delivered

-- the packets of x, by bearer and epoch
abbrev lines_of : Talker → ℕ → ℕ → List (List ℕ)
lines_of x b epoch = (x.view.wires b).line epoch

-- those of a session of the contact hold its slots, and what y got of it those that y took
session_of : (x y : Talker) (h : AreTalking x y) (b own theirs k : ℕ) (g : Begun) → b ≤ 1 → (x.view.wires b).begun k ≡ Some g → g.contact ≡ own → g.peer_contact ≡ theirs
    → HoldsSession (lines_of x b k) (slots_in x y h own theirs) (length ((y.view.wires b).got k)) (taken_in x y h own theirs)
session_of x y h zero own theirs k g low is own_is theirs_is =
    let c = h.twins.sends.carriage own theirs in
    let S = h.twins.sends.sent own theirs in
    let L = S.near.lines k g is own_is theirs_is in
    let session = k + 1 - c.traffic.near.first in
    let sound = reached_sound c.state S.reached in
    let slots = slots_in x y h own theirs in
    let got = length ((y.view.wires 0).got k) in
    let are = (h.sends.each own theirs).are in
    let held = session_holds c.traffic.put slots _ sound.count got c.traffic.far c.state.near.line c.state.near_record session (c.traffic.near.line session) are.bytes are.sound (S.lines.near session) sound.near.order sound.near.delivered
    (λ p few. past_of c.traffic.near c.state.near_record k got p L.0 ((h.twins.sends.counted own theirs).near k (g, is, own_is, theirs_is)) few) in
    subst (λ n. HoldsSession (lines_of x 0 k) slots got n) (sym (delivered_count First c.state sound)) (subst (λ ps. HoldsSession ps slots got sound.count) L.1 held)
session_of x y h (suc zero) own theirs k g low is own_is theirs_is =
    let c = h.twins.sends.carriage own theirs in
    let S = h.twins.sends.sent own theirs in
    let L = S.far.lines k g is own_is theirs_is in
    let session = k + 1 - c.traffic.far.first in
    let sound = reached_sound c.state S.reached in
    let slots = slots_in x y h own theirs in
    let got = length ((y.view.wires 1).got k) in
    let are = (h.sends.each own theirs).are in
    let held = session_holds c.traffic.put slots _ sound.count got c.traffic.near c.state.far.line c.state.far_record session (c.traffic.far.line session) are.bytes are.sound (S.lines.far session) sound.far.order sound.far.delivered
    (λ p few. past_of c.traffic.far c.state.far_record k got p L.0 ((h.twins.sends.counted own theirs).far k (g, is, own_is, theirs_is)) few) in
    subst (λ n. HoldsSession (lines_of x 1 k) slots got n) (sym (delivered_count First c.state sound)) (subst (λ ps. HoldsSession ps slots got sound.count) L.1 held)
session_of x y h (suc (suc b)) own theirs k g low is own_is theirs_is = absurd (let wrong : ⊥ = omega arith in wrong)

-- ---- what a frame tells

-- no packet holds no slot
none_hold : (slots : List Slot) → HoldInOrder [] slots
none_hold slots = record { plain = none (map slot_bytes slots); sizes = λ k d few. absurd (let wrong : ⊥ = omega arith in wrong) }

-- what x told is true: h tells of what x put, back of what x took
told_by : (x y : Talker) (h : AreTalking x y) (back : AreTalking y x) (f : Frame) (es er : ℕ) (p : Fields) → f.bearer ≤ 1 → IsOfSession (x.view.wires f.bearer) (y.view.wires f.bearer) f es er p
    → SpeaksTruth (slots_in x y h f.contact f.peer_contact) (take (taken_in y x back f.peer_contact f.contact) (slots_in y x back f.peer_contact f.contact)) (lines_of x f.bearer es) (lines_of y f.bearer er) p
told_by x y h back f es er p low s =
    let own = f.contact in
    let theirs = f.peer_contact in
    let b = f.bearer in
    let few = s.told_taken in
    let taken = prefix_long _ _ ((h.twins.paired.here.wires b).prefix er) in
    let slots = take (taken_in y x back theirs own) (slots_in y x back theirs own) in
    record {
      carried = λ number bytes is. (
          let c = s.carried number bytes is in
          let positive = c.positive in
          let at_place : c.position ≡ c.position - 1 + 1 = omega arith in
          record { position = c.position - 1; number_is = c.number_is ∙ ap number_of at_place; there = c.packet_is });
      holds = (session_of x y h b own theirs es s.begun low s.begun_is (sym s.contact_is) (sym s.seen_is)).whole;
      told = s.told;
      told_is = s.told_is;
      within = omega arith;
      acknowledged = elim s.told_met [
        | inl none_told ↦ subst (λ n. HoldInOrder (take n (lines_of y b er)) slots) (sym none_told) (none_hold slots)
        | inr m ↦ (
            let agree = (h.twins.paired.here.epochs b).agree es s.begun m.0 s.begun_is (ap (y.view.wires b).begun s.peer_is ∙ m.1) m.2 in
            (session_of y x back b theirs own er m.0 low m.1 (sym agree.1 ∙ sym s.seen_is) (sym agree.0 ∙ sym s.contact_is)).front s.told few)
      ];
    }

-- each STATE or numbered packet that was told is true
told_true : (x y : Talker) (h : AreTalking x y) (back : AreTalking y x) (place : ℕ) (f : Frame) (es er : ℕ) (p : Fields) → slice_get x.view.told place ≡ Some f → f.bearer ≤ 1 → Fits p → f.bytes ≡ frame_of es er (spelling p) → is_traffic p.header ≡ true
    → SpeaksTruth (slots_in x y h f.contact f.peer_contact) (take (taken_in y x back f.peer_contact f.contact) (slots_in y x back f.peer_contact f.contact)) (lines_of x f.bearer (es_of f.bytes)) (lines_of y f.bearer (er_of f.bytes)) p
told_true x y h back place f es er p there low fits bytes traffic =
    let is = h.twins.paired.here.frames place f there in
    let same : is.packet ≡ p = same_packet is.es is.er es er is.packet p is.fits fits (sym is.bytes ∙ bytes) in
    let told = told_by x y h back f is.es is.er is.packet low (is.session (ap (λ (q : Fields). is_traffic q.header) same ∙ traffic)) in
    let es_is : es_of f.bytes ≡ is.es = ap es_of is.bytes ∙ es_of-frame is.es is.er (spelling is.packet) is.es_fits is.er_fits in
    let er_is : er_of f.bytes ≡ is.er = ap er_of is.bytes ∙ er_of-frame is.es is.er (spelling is.packet) is.es_fits is.er_fits in
    let slots = slots_in x y h f.contact f.peer_contact in
    let taken = take (taken_in y x back f.peer_contact f.contact) (slots_in y x back f.peer_contact f.contact) in
    subst (λ k. SpeaksTruth slots taken (lines_of x f.bearer k) (lines_of y f.bearer (er_of f.bytes)) p) (sym es_is)
    (subst (λ k. SpeaksTruth slots taken (lines_of x f.bearer is.es) (lines_of y f.bearer k) p) (sym er_is)
    (subst (λ q. SpeaksTruth slots taken (lines_of x f.bearer is.es) (lines_of y f.bearer is.er) q) same told))

-- ---- as the world tells of it

-- what x sent y
sent_by : (v w : Sight) (x y : Talker) → AreTalking x y → IsSeen x v → IsSeen y w → HasSent v w
sent_by v w x y h here there = record {
  line = lines_of x;
  counts = λ b epoch. sym (here.numbered b epoch);
  crossing = λ own theirs. (
      let e = h.sends.each own theirs in
      let are = e.are in
      let put = ap (λ (ps : List (List ℕ)). length ps) are.bytes in
      let long = length-map are.slots slot_bytes in
      let within = taken_within x.view h.twins.here own theirs (h.twins.sends.carriage own theirs) (h.twins.sends.sent own theirs) in
      record {
        slots = slots_in x y h own theirs;
        sound = are.sound;
        whole = are.whole ∙ ap (flat_map items_of) (here.put own theirs);
        taken = taken_in x y h own theirs;
        within = omega arith;
        begun = e.last;
        gave = subst (λ ms. HasOpened (flat_map slot_items (take (taken_in x y h own theirs) (slots_in x y h own theirs))) ms e.last) (there.given theirs own) are.opened;
      });
}

-- each STATE or numbered packet in the air is true
speaks : (v w : Sight) (x y : Talker) (h : AreTalking x y) (back : AreTalking y x) (here : IsSeen x v) (there : IsSeen y w) → SpeakTruly v w (sent_by v w x y h here there) (sent_by w v y x back there here)
unfolding sent_by
speaks v w x y h back here there k f es er p is fits bytes traffic =
    let t = here.sent k f is in
    let g = t.frame in
    let low = t.two_bearers in
    let told = told_true x y h back t.place g es er p t.there (let same = t.bearer_is in omega arith) fits (t.bytes ∙ bytes) traffic in
    let contact = t.contact es er p fits (t.bytes ∙ bytes) traffic in
    let put = slots_in x y h g.contact g.peer_contact in
    let taken = λ (own theirs : ℕ). take (taken_in y x back theirs own) (slots_in y x back theirs own) in
    let in_lines = subst (λ b. SpeaksTruth put (taken g.contact g.peer_contact) (lines_of x b (es_of f.bytes)) (lines_of y b (er_of f.bytes)) p) t.bearer_is
    (subst (λ bs. SpeaksTruth put (taken g.contact g.peer_contact) (lines_of x g.bearer (es_of bs)) (lines_of y g.bearer (er_of bs)) p) t.bytes told) in
    let line = lines_of x f.bearer (es_of f.bytes) in
    let peer_line = lines_of y f.bearer (er_of f.bytes) in
    subst (λ n. SpeaksTruth (slots_in x y h n f.peer_contact) (taken n f.peer_contact) line peer_line p) contact.0
    (subst (λ n. SpeaksTruth (slots_in x y h g.contact n) (taken g.contact n) line peer_line p) contact.1 in_lines)

pub truths : TruthsSeen
truths v w h =
    let back = turned_talk h.here h.there h.talking in
    record {
      sent = sent_by v w h.here h.there h.talking h.seen_here h.seen_there;
      back = sent_by w v h.there h.here back h.seen_there h.seen_here;
      told = speaks v w h.here h.there h.talking back h.seen_here h.seen_there;
      told_there = speaks w v h.there h.here back h.talking h.seen_there h.seen_here;
    }

-- ---- how long a frame is

-- a packet of a line
packet_size : (line : List (List ℕ)) (slots : List Slot) (number : ℕ) (bytes : List ℕ) → HoldInOrder line slots → IsNumbered line number bytes → length bytes ≤ 1500
packet_size line slots number bytes h n = subst (λ (b : List ℕ). length b ≤ 1500) (get_or_from_slice_get line n.position bytes [] n.there) (h.sizes n.position [] (slice_get_within line n.position bytes n.there))

pub frames_fit : FramesFit
frames_fit v w k f h there =
    let is = frames v w k f h there in
    let told = (truths v w h).told k f is.es is.er is.packet there is.fits is.bytes in
    frame_size is.es is.er is.packet f.bytes is.fits is.bytes (λ traffic number bytes carries. packet_size _ _ number bytes (told traffic).holds ((told traffic).carried number bytes carries))
