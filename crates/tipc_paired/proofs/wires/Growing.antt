-- What holds of a node stays when its peer goes on.
use Rattle.std.proofs.Common.{◌≡◌, ◌⊎◌, ℕ, ◌<◌, ◌≤◌, List, [], ◌++◌, Some, length, sym, subst, inl, inr, arith}
use Rattle.std.specs.Prelude.{slice_get}
use Rattle.tipc_types.specs.Prefixes.{IsPrefixOf}
use Rattle.tipc_link.specs.Direction.{IsDirection}
use Rattle.tipc_link.proofs.Directions.{IsCarried-stays, IsReceiver-stays, slice_get-append}
use Rattle.tipc_link.proofs.LinkLaw.{Each-append}
use Rattle.tipc_send_window.specs.Sending.{Sending}
use Rattle.tipc_paired.proofs.wires.Wires.{prefix_extends, prefix_long, prefix_trans}
use Rattle.tipc_paired.specs.Paired.{IsEpochs, IsFrame, IsHalf, IsReached, IsRecords, IsShown, IsUnder, IsWire, IsWith, IsHeardEpoch, long_ago, on_record, untaken}
use Rattle.tipc_paired.specs.Views.{Begun, Frame, Node, View, Wire}

-- what was numbered, taken and begun on a wire stays
pub record Grows (w w' : Wire) : Type 0 where
  pub line : (epoch : ℕ) → IsPrefixOf (w.line epoch) (w'.line epoch)
  pub got : (epoch : ℕ) → IsPrefixOf (w.got epoch) (w'.got epoch)
  pub begun : (epoch : ℕ) (g : Begun) → w.begun epoch ≡ Some g → w'.begun epoch ≡ Some g

-- more was taken of a direction
more_taken : (r : Sending) (taken taken' : ℕ) (line : List (List ℕ)) → taken ≤ taken' → taken' ≤ length line → IsDirection r taken line → IsDirection r taken' line
more_taken r taken taken' line more within h =
    let acked = h.acked_taken in
    let count = h.count in
    record { window = h.window; below = h.below; count = h.count; kept = h.kept; acked_taken = omega arith; taken_numbered = omega arith }

-- the peer's wire against the wire of a node that went on
pub wire_back : (own : ℕ) (v w w' : Wire) → IsWire own v w → Grows w w' → ((epoch : ℕ) → IsPrefixOf (w'.got epoch) (v.line epoch)) → IsWire own v w'
wire_back own v w w' h grows within = record {
  unborn = h.unborn;
  packets = h.packets;
  window = λ epoch. (let window = h.window epoch in let more = prefix_long _ _ (grows.got epoch) in omega arith);
  prefix = λ epoch. prefix_trans _ _ _ (h.prefix epoch) (grows.line epoch);
  going = λ s is. (let g = h.going s is in record {
    begun = g.begun;
    begun_is = g.begun_is;
    peer_is = g.peer_is;
    waiting = g.waiting;
    sends = more_taken s.sending _ _ (v.line s.epoch) (prefix_long _ _ (grows.got s.epoch)) (prefix_long _ _ (within s.epoch)) g.sends;
    takes = g.takes;
    holds = IsReceiver-stays s.held s.taken _ _ (prefix_extends _ _ (grows.line s.peer_epoch)) g.holds;
    shown = (let low = g.shown in let more = prefix_long _ _ (grows.line s.peer_epoch) in omega arith);
    record_is = g.record_is;
  });
  kept = λ e r is has. (let k = h.kept e r is has in record { takes = k.takes; holds = IsReceiver-stays r.held r.taken _ _ (prefix_extends _ _ (grows.line r.epoch)) k.holds; shown = (let low = k.shown in let more = prefix_long _ _ (grows.line r.epoch) in omega arith) });
}

-- and what it took of the sessions of that node
reached_back : (boot : ℕ) (v w w' : Wire) (epoch : ℕ) → Grows w w' → IsReached boot v w epoch → IsReached boot v w' epoch
reached_back boot v w w' epoch grows (untaken none) = untaken none
reached_back boot v w w' epoch grows (on_record e r is has low) = on_record e r is has low
reached_back boot v w w' epoch grows (long_ago there is before) = long_ago there (grows.begun epoch there is) before

records_back : (n : Node) (v w w' : Wire) → IsRecords n v w → Grows w w' → IsRecords n v w'
records_back n v w w' h grows = record { reached = λ epoch. reached_back n.boot v w w' epoch grows (h.reached epoch); below = h.below }

-- the session of a node that went on is with the peer's still
with_back : (w w' : Wire) (told er es : ℕ) → Grows w w' → (told ≡ 0) ⊎ IsWith w er es → (told ≡ 0) ⊎ IsWith w' er es
with_back w w' told er es grows (inl none) = inl none
with_back w w' told er es grows (inr m) = inr (m.0, grows.begun er m.0 m.1, m.2)

-- a frame of a node that went on, and one of its peer
pub frame_here : (own : ℕ) (w w' v : Wire) (f : Frame) → IsFrame own w v f → Grows w w' → IsFrame own w' v f
frame_here own w w' v f h grows = record {
  es = h.es;
  er = h.er;
  es_fits = h.es_fits;
  er_fits = h.er_fits;
  packet = h.packet;
  fits = h.fits;
  bytes = h.bytes;
  previous = h.previous;
  boot = h.boot;
  notice = h.notice;
  session = λ traffic.
      let s = h.session traffic in
      let so_far = s.so_far in
      let told = s.told_taken in
      let line = prefix_long _ _ (grows.line h.es) in
      let got = prefix_long _ _ (grows.got h.er) in
      record {
        begun = s.begun;
        begun_is = grows.begun h.es s.begun s.begun_is;
        peer_is = s.peer_is;
        contact_is = s.contact_is;
        seen_is = s.seen_is;
        so_far = omega arith;
        told = s.told;
        told_is = s.told_is;
        told_taken = omega arith;
        told_recent = s.told_recent;
        told_met = s.told_met;
        carried = λ number bytes is. IsCarried-stays _ _ _ number bytes (prefix_extends _ _ (grows.line h.es)) (s.carried number bytes is);
        recent = s.recent;
        shows = s.shows;
      };
}

pub frame_back : (own : ℕ) (v w w' : Wire) (f : Frame) → IsFrame own v w f → Grows w w' → IsFrame own v w' f
frame_back own v w w' f h grows = record {
  es = h.es;
  er = h.er;
  es_fits = h.es_fits;
  er_fits = h.er_fits;
  packet = h.packet;
  fits = h.fits;
  bytes = h.bytes;
  previous = h.previous;
  boot = h.boot;
  notice = h.notice;
  session = λ traffic.
      let s = h.session traffic in
      let recent = s.recent in
      let got = prefix_long _ _ (grows.got h.es) in
      record {
        begun = s.begun;
        begun_is = s.begun_is;
        peer_is = s.peer_is;
        contact_is = s.contact_is;
        seen_is = s.seen_is;
        so_far = s.so_far;
        told = s.told;
        told_is = s.told_is;
        told_taken = s.told_taken;
        told_recent = s.told_recent;
        told_met = with_back w w' s.told h.er h.es grows s.told_met;
        carried = s.carried;
        recent = omega arith;
        shows = s.shows;
      };
}

-- two sessions with one another are in one contact, as the one sees it
abbrev pub Agree : Wire → Wire → Type 0
Agree w v = (epoch : ℕ) (g h : Begun) → w.begun epoch ≡ Some g → v.begun g.peer_epoch ≡ Some h → h.peer_epoch ≡ epoch → (g.contact ≡ h.peer_contact) × (g.peer_contact ≡ h.contact)

shown_more : (told more : List Frame) (bearer es er contact : ℕ) → IsShown told bearer es er contact → IsShown (told ++ more) bearer es er contact
shown_more told more bearer es er contact h = record {
  place = h.place;
  frame = h.frame;
  there = slice_get-append told more h.place h.frame h.there;
  bearer_is = h.bearer_is;
  es_is = h.es_is;
  er_is = h.er_is;
  contact_is = h.contact_is;
}

under_more : (told more : List Frame) (bearer epoch contact : ℕ) → IsUnder told bearer epoch contact → IsUnder (told ++ more) bearer epoch contact
under_more told more bearer epoch contact h =
    record { place = h.place; frame = h.frame; there = slice_get-append told more h.place h.frame h.there; bearer_is = h.bearer_is; es_is = h.es_is; contact_is = h.contact_is }

told_more : (told more : List Frame) (bearer epoch : ℕ) → IsHeardEpoch told bearer epoch → IsHeardEpoch (told ++ more) bearer epoch
told_more told more bearer epoch (inl none) = inl none
told_more told more bearer epoch (inr t) = inr (t.0, under_more told more bearer epoch t.0 t.1)

-- what is told now isn't told before the contact of a session that the peer began
abbrev pub ToldNow : Wire → List Frame → Type 0
ToldNow v more = (epoch : ℕ) (g : Begun) → v.begun epoch ≡ Some g → (k : ℕ) (f : Frame) → slice_get more k ≡ Some f → g.peer_contact ≤ f.contact

pub told_none : (y : View) (b : ℕ) → ToldNow (y.wires b) []
told_none y b epoch g is k f there = absurd (let wrong : ⊥ = cc in wrong)

-- the sessions of the peer of a node that went on, and told more
pub epochs_back : (n : Node) (bearer : ℕ) (told heard more : List Frame) (v w w' : Wire) → IsEpochs n bearer told heard v w → Agree v w' → ToldNow v more → IsEpochs n bearer told (heard ++ more) v w'
epochs_back n bearer told heard more v w w' h agree now = record {
  unborn = h.unborn;
  some = h.some;
  lasts = h.lasts;
  now = h.now;
  shown = λ epoch g is. shown_more heard more bearer g.peer_epoch epoch g.peer_contact (h.shown epoch g is);
  named = h.named;
  bounded = h.bounded;
  told_in = h.told_in;
  unheld = h.unheld;
  agree = agree;
  entered = λ epoch g is k f there before. Each-append (λ (u : Frame). u.contact < g.peer_contact → u.peer_contact ≤ g.contact) heard more
      (λ i u at earlier. h.entered epoch g is i u at earlier)
      (λ i u at earlier. absurd (let no_lower = now epoch g is i u at in let wrong : ⊥ = omega arith in wrong)) k f there before;
}

-- the peer of a node that went on
pub half_back : (y x x' : View) (more : List Frame) → IsHalf y x → ((b : ℕ) → Grows (x.wires b) (x'.wires b)) → ((b epoch : ℕ) → IsPrefixOf ((x'.wires b).got epoch) ((y.wires b).line epoch))
    → ((b : ℕ) → Agree (y.wires b) (x'.wires b)) → ((b : ℕ) → ToldNow (y.wires b) more) → x'.told ≡ x.told ++ more → IsHalf y x'
half_back y x x' more h grows within agree now told = record {
  node = h.node;
  ends = h.ends;
  wires = λ b. wire_back y.node.own (y.wires b) (x.wires b) (x'.wires b) (h.wires b) (grows b) (within b);
  records = λ b. records_back y.node (y.wires b) (x.wires b) (x'.wires b) (h.records b) (grows b);
  highest = λ b e is. subst (λ fs. IsHeardEpoch fs b e.fsm.highest) (sym told) (told_more x.told more b e.fsm.highest (h.highest b e is));
  epochs = λ b. subst (λ fs. IsEpochs y.node b y.told fs (y.wires b) (x'.wires b)) (sym told) (epochs_back y.node b y.told x.told more (y.wires b) (x.wires b) (x'.wires b) (h.epochs b) (agree b) (now b));
  frames = λ k f there. frame_back y.node.own (y.wires f.bearer) (x.wires f.bearer) (x'.wires f.bearer) f (h.frames k f there) (grows f.bearer);
}
