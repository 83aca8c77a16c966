-- The STATE of a session in which a link is up is one that its receiver can read, and shows the epochs of its link end.
use Rattle.std.proofs.Common.{◌+◌, ◌<◌, ◌==◌, ◌^◌, ◌∙◌, ◌≡◌, ◌≤◌, Bool, List, None, Option, Some, ap, arith, false, if◌then◌else◌, is_some, length, position, refl, subst, sym, true, unwrap_or, ℕ}
use Rattle.std.proofs.lemmas.Bool.Decides.{nat_tests}
use Rattle.std.proofs.lemmas.List.{drop_at}
use Rattle.std.proofs.lemmas.List.Quantifiers.{position-Some}
use Rattle.tipc_types.specs.Address.{node_word}
use Rattle.tipc_types.specs.LinkStates.{is_up}
use Rattle.tipc_types.specs.declared.link_words.BroadcastState.{BroadcastState}
use Rattle.tipc_types.proofs.PositionLaws.{number_of-below}
use Rattle.tipc_header.specs.declared.frames.FrameKind.TheVariants.{Links}
use Rattle.tipc_header.specs.Frames.{envelope, first_of, frame_of, kind_in, kind_of}
use Rattle.tipc_header.specs.Grammar.{Fits}
use Rattle.tipc_header.specs.Reading.{fields_at}
use Rattle.tipc_header.specs.Spelling.{Fields, spelling}
use Rattle.tipc_header.proofs.Again.{again}
use Rattle.tipc_header.proofs.FrameWords.{length-envelope}
use Rattle.tipc_recv_window.specs.Receiving.{gap_of, gap_to, missing}
use Rattle.tipc_link.specs.Links.{LinkEnd, known}
use Rattle.tipc_link.specs.Parts.{IsShowable}
use Rattle.tipc_link.specs.Sessions.{SessionEnd, gap, receiving, state_fields, state_frame}
use Rattle.tipc_paired.specs.Paired.{IsNode}
use Rattle.tipc_paired.specs.Views.{session_in, session_on}
use Rattle.tipc_two_nodes.specs.Sights.{AreSeen, Sight}
use Rattle.tipc_node.specs.Turns.{IsFrom}
use Rattle.tipc_two_nodes.proofs.sights.Sights.{ends}
use Rattle.tipc_settling.specs.Silence.{IsSaidByTicks}
use Rattle.tipc_world.specs.HeardWorlds.{SaysToPeer}

-- a STATE is a link packet
pub state_kind : (es er : ℕ) (s : SessionEnd) (shown : BroadcastState) (probe : Bool) → Fits (state_fields s shown probe) → kind_in (frame_of es er (spelling (state_fields s shown probe))) ≡ Links
unfolding kind_in state_fields
state_kind es er s shown probe fits =
    let p = state_fields s shown probe in
    let first = first_of (frame_of es er (spelling p)) in
    ap (λ xs. kind_of first (fields_at xs).header) (drop_at (envelope es er) (spelling p) 16 (length-envelope es er))
    ∙ ap (λ (q : Fields). kind_of first q.header) (again p fits)

-- ticks say it
state_is_said : (s : SessionEnd) (shown : BroadcastState) (probe : Bool) → IsSaidByTicks (state_fields s shown probe).header
unfolding state_fields
state_is_said s shown probe = tt

pub state_by : (s : SessionEnd) (shown : BroadcastState) (probe : Bool) → (state_fields s shown probe).previous ≡ s.own
unfolding state_fields
state_by s shown probe = refl

-- the first place that passes is one of the list
first_within : {A : Type 0} (p : A → Bool) (xs : List A) (d : A) (o : Option ℕ) → position p xs ≡ o → unwrap_or o 0 ≤ length xs
first_within p xs d None is = omega arith
first_within p xs d (Some i) is = let at = position-Some p xs i d is in let within = at.0 in omega arith

missing_within : (s : SessionEnd) → missing (receiving s) s.shown ≤ 50
missing_within s = grind (arith, nat_tests)

gap_within : (s : SessionEnd) → length s.held ≤ 50 → gap s ≤ 50
unfolding gap_to
gap_within s window =
    let held = first_within (λ t. is_some t) s.held None (position (λ t. is_some t) s.held) refl in
    let none = missing_within s in
    elim (gap_of (receiving s) == 0) as (λ b. (if b then missing (receiving s) s.shown else gap_of (receiving s)) ≤ 50) [ true ↦ none | false ↦ omega (arith, held, window) ]

-- it fits its places
pub state_fit : (s : SessionEnd) (shown : BroadcastState) (probe : Bool) → s.own < 2 ^ 32 → s.peer < 2 ^ 32 → length s.held ≤ 50 → IsShowable shown → Fits (state_fields s shown probe)
unfolding state_fields
state_fit s shown probe here there window showable = record {
  acknowledgement = number_of-below s.taken;
  sequence = omega arith;
  previous = omega arith;
  header = record {
    gap = (let small = gap_within s window in omega arith);
    broadcast_acknowledgement = showable.acknowledged;
    next = number_of-below (s.sending.numbered + 1);
    broadcast_next = showable.next;
    broadcast_start = showable.start;
    broadcast_gap = showable.gap;
    destination_node = omega arith;
    priority = grind (arith, nat_tests);
  };
  numbering = refl;
  rest = refl;
  size = omega arith;
}

-- what is held of the peer in the session of a link that is up
pub few_held : (v u : Sight) (bearer : ℕ) (e : LinkEnd) (s : SessionEnd) → AreSeen v u → v.ends bearer ≡ Some e → is_up e.fsm.state ≡ true → e.session ≡ Some s → length s.held ≤ 50
unfolding session_on
few_held v u bearer e s h is up has =
    let x = h.here.view in
    let on : session_on (x.wires bearer) ≡ Some s = ap session_in (h.seen_here.ends bearer ∙ is) ∙ (ap (λ t. if t then e.session else None) up ∙ has) in
    let going = (h.talking.twins.paired.here.wires bearer).going s on in
    going.holds.window

-- the STATE of a link that is up is from its node, under the epochs of its link end
pub state_from : (v u : Sight) (b bearer : ℕ) (e : LinkEnd) (s : SessionEnd) (shown : BroadcastState) (probe : Bool) → AreSeen v u → v.node.own ≡ node_word b → v.ends bearer ≡ Some e → is_up e.fsm.state ≡ true → e.session ≡ Some s
    → s.epoch ≡ e.fsm.own → e.fsm.peer ≡ Some s.peer_epoch → IsShowable shown → IsFrom b (state_frame s shown probe).frame e.fsm.own (known e.fsm.peer) (state_fields s shown probe)
state_from v u b bearer e s shown probe h own_is is up has epoch peer showable =
    let node : IsNode v.node = subst IsNode h.seen_here.node h.talking.twins.paired.here.node in
    let end = ends v u bearer e h is in
    let words = end.session s has in
    let own_fits : s.own < 2 ^ 32 = (let one = words.0 in let two = node.own in omega (arith, one, two)) in
    let peer_fits : s.peer < 2 ^ 32 = (let one = words.1 in let two = node.peer in omega (arith, one, two)) in
    let p = state_fields s shown probe in
    let from_here : frame_of s.epoch s.peer_epoch (spelling p) ≡ frame_of e.fsm.own (known e.fsm.peer) (spelling p) =
    ap (λ k. frame_of k s.peer_epoch (spelling p)) epoch ∙ ap (λ k. frame_of e.fsm.own k (spelling p)) (sym (ap known peer)) in
    record {
      es_fits = (let one = end.boot in let two = node.boot in omega (arith, one, two));
      er_fits = (let one = (end.peer_fits s.peer_epoch peer).0 in let two = ap known peer in omega (arith, one, two));
      fits = state_fit s shown probe own_fits peer_fits (few_held v u bearer e s h is up has) showable;
      frame_is = from_here;
      previous = state_by s shown probe ∙ (words.0 ∙ own_is);
    }

-- and it is what ticks say
pub state_spelled : (v u : Sight) (b bearer : ℕ) (e : LinkEnd) (s : SessionEnd) (shown : BroadcastState) (probe : Bool) → AreSeen v u → v.node.own ≡ node_word b → v.ends bearer ≡ Some e → is_up e.fsm.state ≡ true → e.session ≡ Some s
    → s.epoch ≡ e.fsm.own → e.fsm.peer ≡ Some s.peer_epoch → IsShowable shown → SaysToPeer b (state_frame s shown probe) e.fsm.own (known e.fsm.peer)
state_spelled v u b bearer e s shown probe h own_is is up has epoch peer showable =
    let from = state_from v u b bearer e s shown probe h own_is is up has epoch peer showable in
    record { packet = state_fields s shown probe; from = from; kind = state_kind s.epoch s.peer_epoch s shown probe from.fits; said = state_is_said s shown probe }
