-- A node tells its peer a frame.
use Rattle.std.proofs.Common.{◌≡◌, ◌+◌, ◌<◌, ◌≤◌, ◌-◌, ◌==◌, ◌^◌, ℕ, true, false, if◌then◌else◌, List, [], ◌∷◌, ◌++◌, Option, Some, None, length, refl, sym, ap, ◌∙◌, subst, inl, inr, arith}
use Rattle.std.proofs.lemmas.Bool.{cases_Bool, true≢false}
use Rattle.std.proofs.lemmas.List.{map-append}
use Rattle.tipc_types.specs.LinkStates.{is_up}
use Rattle.tipc_types.specs.Position.{number_of}
use Rattle.tipc_outside.specs.declared.outgoing.Outgoing.{Outgoing}
use Rattle.tipc_header.specs.declared.packet.Header.{Header}
use Rattle.tipc_header.specs.declared.packet.Header.TheVariants as header
use Rattle.tipc_header.specs.Grammar.{Fits, HeaderFits, NumberingFits, ResetFits, RestFits}
use Rattle.tipc_header.specs.Spelling.{size_of, spelling}
use Rattle.tipc_contact.specs.Order.{AreInOrder}
use Rattle.tipc_contact.specs.Peers.{ArePeers}
use Rattle.tipc_contact.specs.Sides.{boot_of, IsSaid as IsSaidNow}
use Rattle.tipc_contact.proofs.Ordering.{ordered_says}
use Rattle.tipc_contact.proofs.Sessions.{says}
use Rattle.tipc_link.specs.Direction.{IsCarried}
use Rattle.tipc_link.specs.Links.{LinkEnd, is_traffic, known, notice, notice_fields, shown_by}
use Rattle.tipc_link.specs.Sessions.{SessionEnd, packet_frame, state_frame}
use Rattle.tipc_link.proofs.Directions.{IsCarried-kept}
use Rattle.tipc_link.proofs.LinkLaw.{Each-append, Each-one}
use Rattle.tipc_link_fsm.specs.Table.{is_held}
use Rattle.tipc_paired.proofs.wires.Frames.{IsSaid, IsWorded, er_of-frame, es_of-frame, packet_said, packet_says, state_said, state_says, traffic_shows}
use Rattle.tipc_paired.proofs.wires.Growing.{half_back, ToldNow}
use Rattle.tipc_paired.proofs.contacts.Mutual.{taken_with}
use Rattle.tipc_paired.proofs.wires.Turns.{up_unheld}
use Rattle.tipc_paired.proofs.sessions.SessionDeeds.{epoch_small, epochs_fit}
use Rattle.tipc_paired.proofs.wires.WireDeeds.{agree_turned, grows_same}
use Rattle.tipc_paired.proofs.wires.Wires.{epoch_of_end, is_up_of, map_at, none_some, same_some, session_of_down, session_of_up}
use Rattle.tipc_paired.specs.Deeds.{IsUp, MayTell, activates, framed, resets, sends, states}
use Rattle.tipc_paired.specs.Paired.{ArePaired, IsEnd, IsEpochs, IsFrame, IsGoing, IsNoHigher, IsNode, ShowsContact}
use Rattle.tipc_paired.specs.Views.{Begun, Frame, Node, View, Wire, epoch_on, er_of, es_of, fsm_in, notice_of, said_by, session_on, side_of, with_told}

-- ---- what an end shows

known_where : (P : ℕ → Type 0) (peer : Option ℕ) → P 0 → ((epoch : ℕ) → peer ≡ Some epoch → P epoch) → P (known peer)
known_where P None zero_case some_case = zero_case
known_where P (Some epoch) zero_case some_case = some_case epoch refl

known_fits : (n : Node) (b : ℕ) (e : LinkEnd) → IsEnd n b e → known e.fsm.peer < 2 ^ 64
known_fits n b e h = known_where (λ n. n < 2 ^ 64) e.fsm.peer (omega arith) (λ epoch is. (h.peer_fits epoch is).0)

known_no_higher : (n : Node) (b : ℕ) (e : LinkEnd) → IsEnd n b e → known e.fsm.peer ≤ e.fsm.highest
known_no_higher n b e h = known_where (λ n. n ≤ e.fsm.highest) e.fsm.peer (omega arith) (λ epoch is. (let same = (h.peer_fits epoch is).1 in omega arith))

own_fits : (n : Node) (b : ℕ) (e : LinkEnd) → IsNode n → IsEnd n b e → e.fsm.own < 2 ^ 64
own_fits n b e node h = epoch_small e.fsm.own n.boot h.boot node.boot

-- A frame that x may tell on bearer b: it shows the two epochs of the link end there, and is a frame of x.
record Said (x y : View) (b : ℕ) (o : Outgoing) : Type 0 where
  end : LinkEnd
  end_is : (x.wires b).end ≡ Some end
  es : es_of o.frame ≡ end.fsm.own
  er : er_of o.frame ≡ known end.fsm.peer
  unheld : is_held end.fsm.state ≡ false
  frame : IsFrame x.node.own (x.wires b) (y.wires b) (framed x y b o)

-- ---- RESET and ACTIVATE

pub shown_fits : (n : Node) (b : ℕ) (e : LinkEnd) → IsNode n → IsEnd n b e → ResetFits (shown_by e)
shown_fits n b e node h = record {
  destination_node = (let peer = h.peer in let fits = node.peer in omega arith);
  priority = elim (e.bearer == 0) as (λ t. (if t then 11 else 10) < 2 ^ 5) [ true ↦ omega arith | false ↦ omega arith ];
  contact = (let same = h.contact in let fits : n.contact < 2 ^ 64 = epoch_small n.contact n.boot node.contact node.boot in omega arith);
  peer_contact = (let same = h.seen in let fits = node.seen in omega arith);
}

pub notice_fits : (n : Node) (b : ℕ) (e : LinkEnd) (h : Header) → IsNode n → IsEnd n b e → HeaderFits h → NumberingFits h 0 0 → RestFits h 0 → size_of (notice_fields e h) < 2 ^ 17 → Fits (notice_fields e h)
notice_fits n b e h node end fits numbering rest size = record {
  acknowledgement = omega arith;
  sequence = omega arith;
  previous = (let same = end.own in let low = node.own in omega arith);
  header = fits;
  numbering = numbering;
  rest = rest;
  size = size;
}

notice_said : (x y : View) (b : ℕ) (e : LinkEnd) (h : Header) → ArePaired x y → (x.wires b).end ≡ Some e → is_held e.fsm.state ≡ false → HeaderFits h → NumberingFits h 0 0 → RestFits h 0 → size_of (notice_fields e h) < 2 ^ 17 → is_traffic h ≡ false
    → ShowsContact h x.node.contact x.node.seen → Said x y b (notice e h)
notice_said x y b e h p is unheld fits numbering rest size quiet shows =
    let end = p.here.ends b e is in
    let own = own_fits x.node b e p.here.node end in
    let peer = known_fits x.node b e end in
    record {
      end = e;
      end_is = is;
      es = es_of-frame e.fsm.own (known e.fsm.peer) (spelling (notice_fields e h)) own peer;
      er = er_of-frame e.fsm.own (known e.fsm.peer) (spelling (notice_fields e h)) own peer;
      unheld = unheld;
      frame = record {
        es = e.fsm.own;
        er = known e.fsm.peer;
        es_fits = own;
        er_fits = peer;
        packet = notice_fields e h;
        fits = notice_fits x.node b e h p.here.node end fits numbering rest size;
        bytes = refl;
        previous = end.own;
        boot = end.boot ∙ sym p.here.node.contact;
        notice = shows;
        session = λ traffic. absurd (true≢false (sym traffic ∙ quiet));
      };
    }

-- ---- frames of a session

-- the present session with its link end
record IsPresent (x y : View) (b : ℕ) (s : SessionEnd) : Type 0 where
  end : LinkEnd
  up : IsUp (x.wires b) end s
  own : end.fsm.own ≡ s.epoch
  peer : end.fsm.peer ≡ Some s.peer_epoch
  epoch_fits : s.epoch < 2 ^ 64
  peer_fits : s.peer_epoch < 2 ^ 64
  words : IsWorded x.node.own s
  going : IsGoing x.node.own (x.wires b) (y.wires b) s

present : (x y : View) (b : ℕ) (s : SessionEnd) → ArePaired x y → session_on (x.wires b) ≡ Some s → IsPresent x y b s
present x y b s h on =
    let is = is_up_of (x.wires b) s on in
    let e = is.0 in
    let end = h.here.ends b e is.1.end_is in
    let going = end.going is.1.up in
    let same : going.0 ≡ s = same_some going.0 s e.session going.1 is.1.session_is in
    let fit = epochs_fit x y b e s h is.1 in
    let words = end.session s is.1.session_is in
    record {
      end = e;
      up = is.1;
      own = sym going.2 ∙ ap (λ (t : SessionEnd). t.epoch) same;
      peer = going.3 ∙ ap (λ (t : SessionEnd). Some t.peer_epoch) same;
      epoch_fits = fit.epoch;
      peer_fits = fit.peer_epoch;
      words = record { own = words.0; own_fits = (let own = words.0 in let low = h.here.node.own in omega arith); peer_fits = (let peer = words.1 in let low = h.here.node.peer in omega arith) };
      going = (h.here.wires b).going s on;
    }

-- a frame of the present session is a frame of the node
session_said : (x y : View) (b : ℕ) (s : SessionEnd) (o : Outgoing) → ArePaired x y → IsPresent x y b s → es_of o.frame ≡ s.epoch → er_of o.frame ≡ s.peer_epoch
    → IsSaid x.node.own s.epoch s.peer_epoch s.taken (length ((x.wires b).line s.epoch)) ((x.wires b).line s.epoch) o.frame → Said x y b o
session_said x y b s o h p es er said =
    let w = x.wires b in
    let v = y.wires b in
    let g = p.going in
    let on = session_of_up w p.end s p.up in
    let now = (h.here.epochs b).now s g.begun on g.begun_is in
    let takes = g.takes in
    let window = (h.there.wires b).window s.peer_epoch in
    let own_window = (h.here.wires b).window s.epoch in
    let line : length (w.line (es_of o.frame)) ≡ length (w.line s.epoch) = ap (λ n. length (w.line n)) es in
    let peer_line : length (v.line (er_of o.frame)) ≡ length (v.line s.peer_epoch) = ap (λ n. length (v.line n)) er in
    record {
      end = p.end;
      end_is = p.up.end_is;
      es = es ∙ sym p.own;
      er = er ∙ sym (ap known p.peer);
      unheld = up_unheld p.end.fsm.state p.up.up;
      frame = record {
        es = s.epoch;
        er = s.peer_epoch;
        es_fits = p.epoch_fits;
        er_fits = p.peer_fits;
        packet = said.packet;
        fits = said.fits;
        bytes = said.frame;
        previous = said.previous;
        boot = ap boot_of (sym p.own) ∙ (h.here.ends b p.end p.up.end_is).boot ∙ sym h.here.node.contact;
        notice = traffic_shows said.packet.header x.node.contact x.node.seen said.traffic;
        session = λ traffic. record {
          begun = g.begun;
          begun_is = g.begun_is;
          peer_is = g.peer_is;
          contact_is = sym now.0;
          seen_is = sym now.1;
          so_far = omega arith;
          told = s.taken;
          told_is = said.told_is;
          told_taken = omega arith;
          told_recent = omega arith;
          told_met = taken_with x y b s h on;
          carried = λ number bytes is. subst (λ n. IsCarried (w.line s.epoch) n number bytes) (sym line) (said.carried number bytes is);
          shows = λ next missed asks is. subst (λ n. next ≡ number_of (n + 1)) (sym line) (said.shows next missed asks is);
          recent = omega arith;
        };
      };
    }

may_tell_said : (x y : View) (b : ℕ) (o : Outgoing) → ArePaired x y → MayTell (x.wires b) o → Said x y b o
may_tell_said x y b _ h (resets e is unheld) =
    let end = h.here.ends b e is in
    notice_said x y b e (header.Reset (shown_by e)) h is unheld (shown_fits x.node b e h.here.node end) (refl, refl) refl (omega arith) refl (end.contact, end.seen)
may_tell_said x y b _ h (activates e is unheld) =
    let end = h.here.ends b e is in
    notice_said x y b e (header.Activate (shown_by e)) h is unheld (shown_fits x.node b e h.here.node end) (refl, refl) refl (omega arith) refl (end.contact, end.seen)
may_tell_said x y b _ h (states s shown probe on showable) =
    let p = present x y b s h on in
    let says = state_says s shown probe p.epoch_fits p.peer_fits in
    session_said x y b s (state_frame s shown probe) h p says.es says.er (state_said x.node.own _ s ((x.wires b).line s.epoch) shown probe p.words p.going.holds.window showable p.going.sends.count)
may_tell_said x y b _ h (sends s k packet on there) =
    let p = present x y b s h on in
    let line = (x.wires b).line s.epoch in
    let says = packet_says s packet.number packet.packet p.epoch_fits p.peer_fits in
    let d = p.going.sends in
    let carried = subst (λ n. IsCarried line n packet.number packet.packet) (sym d.count) (IsCarried-kept s.sending _ k line packet d there) in
    session_said x y b s (packet_frame s packet.number packet.packet) h p says.es says.er
    (packet_said x.node.own (length line) packet.number s line packet.packet p.words ((h.here.wires b).packets s.epoch (carried.position - 1) packet.packet carried.packet_is) carried)

-- ---- what is told of sessions

-- what a frame that is told has to be, where it is of this bearer
record IsTold (n : Node) (b : ℕ) (w : Wire) (f : Frame) : Type 0 where
  named : f.bearer ≡ b → boot_of (es_of f.bytes) ≡ n.boot → IsNoHigher w (er_of f.bytes)
  bounded : f.bearer ≡ b → (g : Begun) → w.begun (es_of f.bytes) ≡ Some g → er_of f.bytes ≤ g.peer_epoch
  told_in : f.bearer ≡ b → (g : Begun) → w.begun (es_of f.bytes) ≡ Some g → f.contact ≡ g.contact
  unheld : f.bearer ≡ b → (e : LinkEnd) → w.end ≡ Some e → es_of f.bytes ≡ e.fsm.own → is_held e.fsm.state ≡ false

epochs_told : (n : Node) (b : ℕ) (told heard : List Frame) (w v : Wire) (f : Frame) → IsEpochs n b told heard w v → IsTold n b w f → IsEpochs n b (told ++ f ∷ []) heard w v
epochs_told n b told heard w v f h t = record {
  unborn = h.unborn;
  some = h.some;
  lasts = h.lasts;
  now = h.now;
  shown = h.shown;
  named = λ k u there bearer boot. Each-append (λ (u : Frame). u.bearer ≡ b → boot_of (es_of u.bytes) ≡ n.boot → IsNoHigher w (er_of u.bytes)) told (f ∷ [])
      (λ i z at of_b same. h.named i z at of_b same) (Each-one _ f t.named) k u there bearer boot;
  bounded = λ k u g there bearer. Each-append (λ (u : Frame). u.bearer ≡ b → (g : Begun) → w.begun (es_of u.bytes) ≡ Some g → er_of u.bytes ≤ g.peer_epoch) told (f ∷ [])
      (λ i z at of_b g is. h.bounded i z g at of_b is) (Each-one _ f t.bounded) k u there bearer g;
  told_in = λ k u g there bearer. Each-append (λ (u : Frame). u.bearer ≡ b → (g : Begun) → w.begun (es_of u.bytes) ≡ Some g → u.contact ≡ g.contact) told (f ∷ [])
      (λ i z at of_b g is. h.told_in i z g at of_b is) (Each-one _ f t.told_in) k u there bearer g;
  unheld = λ k u e there bearer is own. Each-append (λ (u : Frame). u.bearer ≡ b → es_of u.bytes ≡ e.fsm.own → is_held e.fsm.state ≡ false) told (f ∷ [])
      (λ i z at of_b same. h.unheld i z e at of_b is same) (Each-one _ f (λ of_b same. t.unheld of_b e is same)) k u there bearer own;
  agree = h.agree;
  entered = h.entered;
}

-- a session began under the epoch of a link end: the link is up, and that is its session
record IsOfEnd (x y : View) (b : ℕ) (e : LinkEnd) (g : Begun) : Type 0 where
  peer : known e.fsm.peer ≡ g.peer_epoch
  contact : x.node.contact ≡ g.contact

of_end : (x y : View) (b : ℕ) (e : LinkEnd) (g : Begun) → ArePaired x y → (x.wires b).end ≡ Some e → (x.wires b).begun e.fsm.own ≡ Some g → IsOfEnd x y b e g
of_end x y b e g h is begun =
    let w = x.wires b in
    let end = h.here.ends b e is in
    let epochs = h.here.epochs b in
    elim (cases_Bool (is_up e.fsm.state)) [
      | inl up ↦
          let going = end.going up in
          let s = going.0 in
          let on = session_of_up w e s (record { end_is = is; up = up; session_is = going.1 }) in
          let k = (h.here.wires b).going s on in
          let there : w.begun s.epoch ≡ Some g = ap w.begun going.2 ∙ begun in
          let same : k.begun ≡ g = same_some k.begun g _ k.begun_is there in
          record {
            peer = ap known going.3 ∙ sym k.peer_is ∙ ap (λ (u : Begun). u.peer_epoch) same;
            contact = sym (epochs.now s g on there).0;
          }
      | inr down ↦
          let none = session_of_down w e is down in
          let now = epoch_of_end x.node w e is in
          absurd (none_some g _ (epochs.unborn e.fsm.own ((let low : epoch_on x.node w ≤ e.fsm.own = omega arith in low), λ s on. absurd (none_some s _ none on))) begun)
    ]

told_of : (x y : View) (b c : ℕ) (o : Outgoing) → ArePaired x y → Said x y b o → IsTold x.node c (x.wires c) (framed x y b o)
told_of x y b c o h t = record {
  named = λ same boot. (
      let high = known_no_higher x.node b t.end (h.here.ends b t.end t.end_is) in
      let er = t.er in
      record { end = t.end; end_is = ap (λ k. (x.wires k).end) (sym same) ∙ t.end_is; highest = omega arith });
  bounded = λ same g is. (
      let here : (x.wires b).begun t.end.fsm.own ≡ Some g = ap (x.wires b).begun (sym t.es) ∙ ap (λ k. (x.wires k).begun (es_of o.frame)) same ∙ is in
      let k = of_end x y b t.end g h t.end_is here in
      let peer = k.peer in
      let er = t.er in
      omega arith);
  told_in = λ same g is. (
      let here : (x.wires b).begun t.end.fsm.own ≡ Some g = ap (x.wires b).begun (sym t.es) ∙ ap (λ k. (x.wires k).begun (es_of o.frame)) same ∙ is in
      (of_end x y b t.end g h t.end_is here).contact);
  unheld = λ same e is own. (
      let here : (x.wires b).end ≡ Some e = ap (λ k. (x.wires k).end) same ∙ is in
      let one : t.end ≡ e = same_some t.end e _ t.end_is here in
      ap (λ (d : LinkEnd). is_held d.fsm.state) (sym one) ∙ t.unheld);
}

-- ---- the deed

-- it is told in no contact before that of a session that the peer began
told_now : (x y : View) (b c : ℕ) (o : Outgoing) → ArePaired x y → ToldNow (y.wires c) (framed x y b o ∷ [])
told_now x y b c o h epoch g is = (
    let t = (h.there.epochs c).shown epoch g is in
    let contact = t.contact_is in
    let low = h.order.a_says.own_number t.place (notice_of t.frame) (map_at notice_of x.told t.place t.frame t.there) in
    Each-one (λ (u : Frame). g.peer_contact ≤ u.contact) (framed x y b o) (omega arith))

said_paired : (x y : View) (b : ℕ) (o : Outgoing) → ArePaired x y → Said x y b o → ArePaired (with_told x (framed x y b o)) y
said_paired x y b o h t =
    let f = framed x y b o in
    let x' = with_told x f in
    let said : IsSaidNow (side_of x) (notice_of f) = record { end = t.end.fsm; there = ap fsm_in t.end_is; es = t.es; er = t.er; contact = refl; peer_contact = refl } in
    let more = sym (map-append notice_of x.told (f ∷ [])) in
    record {
      peers = subst (λ ns. ArePeers (side_of x) ns (side_of y) (said_by y)) more (says (side_of x) (side_of y) (said_by x) (said_by y) (notice_of f) h.peers said);
      order = subst (λ ns. AreInOrder (side_of x) ns (side_of y) (said_by y)) more (ordered_says (side_of x) (side_of y) (said_by x) (said_by y) (notice_of f) h.order said);
      here = record {
        node = h.here.node;
        ends = h.here.ends;
        wires = h.here.wires;
        records = h.here.records;
        highest = h.here.highest;
        epochs = λ c. epochs_told x.node c x.told y.told (x.wires c) (y.wires c) f (h.here.epochs c) (told_of x y b c o h t);
        frames = Each-append (λ (u : Frame). IsFrame x.node.own (x.wires u.bearer) (y.wires u.bearer) u) x.told (f ∷ []) h.here.frames (Each-one (λ (u : Frame). IsFrame x.node.own (x.wires u.bearer) (y.wires u.bearer) u) f t.frame);
      };
      there = half_back y x x' (f ∷ []) h.there (λ c. grows_same (x.wires c)) (λ c epoch. (h.here.wires c).prefix epoch) (λ c. agree_turned (x.wires c) (y.wires c) (h.here.epochs c).agree) (λ c. told_now x y b c o h) refl;
    }

pub tells_paired : (x y : View) (b : ℕ) (o : Outgoing) → ArePaired x y → MayTell (x.wires b) o → ArePaired (with_told x (framed x y b o)) y
tells_paired x y b o h may = said_paired x y b o h (may_tell_said x y b o h may)
