-- What a piece of a call numbered, by the lines on the wires and by the events of the sender: they are the same packets.
use Rattle.std.specs.Prelude.{slice_get}
use Rattle.std.proofs.Common.{◌≡◌, ◌≢◌, ◌<◌, ◌≤◌, ◌+◌, ◌-◌, ◌==◌, ◌⊎◌, ℕ, true, false, if◌then◌else◌, List, [], ◌++◌, Option, Some, None, length, drop, refl, sym, ap, ◌∙◌, inl, inr, arith, length-append}
use Rattle.std.proofs.Math.Seq.{drop-append_seam}
use Rattle.std.proofs.lemmas.Bool.{cases_eq}
use Rattle.std.proofs.lemmas.Bool.Decides.{nat_tests}
use Rattle.std.proofs.lemmas.List.{drop-drop, nil_from_length}
use Rattle.tipc_types.specs.LinkStates.{is_up}
use Rattle.tipc_types.specs.declared.link_words.LinkState.{LinkState}
use Rattle.tipc_types.specs.declared.link_words.LinkState.TheVariants.{ResetUnknown, ResetReset, WorkingWorking, WorkingUnknown}
use Rattle.tipc_types.specs.declared.link_words.LinkState.TheVariants as state
use Rattle.tipc_link.specs.Links.{LinkEnd}
use Rattle.tipc_link.specs.Sessions.{SessionEnd}
use Rattle.tipc_link_fsm.specs.Table.{is_held}
use Rattle.tipc_send_window.specs.Sending.{Sending, acked_of}
use Rattle.tipc_changeover.specs.Links.{Held, Sender, Up}
use Rattle.tipc_two_nodes.specs.links.Sending.{SendingEnd, end_seen, state_as, window_in}
use Rattle.tipc_two_nodes.specs.links.Traffic.{Lines, with_more}
use Rattle.tipc_two_nodes.proofs.links.sender.Grown.{more_grows, more_here as lines_then}
use Rattle.tipc_two_nodes.proofs.links.calls.States.{as_up}
use Rattle.tipc_two_nodes.proofs.links.calls.Stepping.{up_as}
use Rattle.tipc_paired.proofs.wires.Wires.{epoch_of_end, is_up_of, none_some, same_some, session_of_up}
use Rattle.tipc_paired.specs.Paired.{ArePaired}
use Rattle.tipc_paired.specs.Views.{Begun, Frame, View, epoch_on, es_of, session_on}
use Rattle.tipc_two_nodes.specs.Carriages.{AreSessions, IsShownIn, Numbers}
use Rattle.tipc_two_nodes.specs.Numbers.{AreNumbers}
use Rattle.tipc_two_nodes.specs.Pieces.{GrowsAt}
use Rattle.tipc_two_nodes.specs.Steps.{SendsOn, Stays}
use Rattle.tipc_two_nodes.proofs.steps.ContactSteps.{none_above}
use Rattle.tipc_two_nodes.proofs.contacts.Outset.{cases_up}

-- ---- the end of a bearer, as a sender sees it

abbrev pub seen_at : View → ℕ → SendingEnd
seen_at x b = end_seen x.node.contact (x.wires b).end

held_as : (s : LinkState) → state_as s ≡ Held → is_held s ≡ true
held_as ResetUnknown held = absurd (let wrong : ⊥ = cc in wrong)
held_as ResetReset held = absurd (let wrong : ⊥ = cc in wrong)
held_as WorkingWorking held = absurd (let wrong : ⊥ = cc in wrong)
held_as WorkingUnknown held = absurd (let wrong : ⊥ = cc in wrong)
held_as state.Held held = refl

held_seen : (contact : ℕ) (o : Option LinkEnd) → (end_seen contact o).state ≡ Held → (e : LinkEnd) × (o ≡ Some e) × (is_held e.fsm.state ≡ true)
held_seen contact None held = absurd (let wrong : ⊥ = cc in wrong)
held_seen contact (Some e) held = (e, refl, held_as e.fsm.state held)

up_seen : (contact : ℕ) (o : Option LinkEnd) → (end_seen contact o).state ≡ Up → (e : LinkEnd) × (o ≡ Some e) × (is_up e.fsm.state ≡ true)
up_seen contact None up = absurd (let wrong : ⊥ = cc in wrong)
up_seen contact (Some e) up = (e, refl, up_as e.fsm.state up)

-- an end that is up has a session under its epoch, whose window is the one that is seen
pub record HasSession (x : View) (b : ℕ) : Type 0 where
  pub session : SessionEnd
  pub on : session_on (x.wires b) ≡ Some session
  pub epoch : session.epoch ≡ epoch_on x.node (x.wires b)
  pub window : (seen_at x b).window ≡ session.sending

pub has_session : (x y : View) (b : ℕ) → ArePaired x y → (seen_at x b).state ≡ Up → HasSession x b
has_session x y b h up =
    let at = up_seen x.node.contact (x.wires b).end up in
    let e = at.0 in
    let going = (h.here.ends b e at.1).going at.2 in
    record {
      session = going.0;
      on = session_of_up (x.wires b) e going.0 (record { end_is = at.1; up = at.2; session_is = going.1 });
      epoch = going.2 ∙ sym (epoch_of_end x.node (x.wires b) e at.1);
      window = ap (λ o. (end_seen x.node.contact o).window) at.1 ∙ ap window_in going.1;
    }

-- ---- sessions that began at the present epoch, or a later one

unborn_at : (x y : View) (b epoch : ℕ) → ArePaired x y → epoch_on x.node (x.wires b) ≤ epoch → ((s : SessionEnd) → session_on (x.wires b) ≡ Some s → s.epoch ≢ epoch) → (x.wires b).begun epoch ≡ None
unborn_at x y b epoch h low other = (h.here.epochs b).unborn epoch (low, other)

-- it did so in the present contact
began_now : (x y : View) (b epoch : ℕ) (g : Begun) → ArePaired x y → epoch_on x.node (x.wires b) ≤ epoch → (x.wires b).begun epoch ≡ Some g → (g.contact ≡ x.node.contact) × (g.peer_contact ≡ x.node.seen)
began_now x y b epoch g h low is = by_session (session_on (x.wires b)) refl
  where
    by_session : (o : Option SessionEnd) → session_on (x.wires b) ≡ o → (g.contact ≡ x.node.contact) × (g.peer_contact ≡ x.node.seen)
    by_session None none = absurd (none_some g _ (unborn_at x y b epoch h low (λ s on. absurd (none_some s _ none on))) is)
    by_session (Some s) on = elim (cases_eq s.epoch epoch) [
      | inl same ↦ (h.here.epochs b).now s g on (ap (x.wires b).begun same ∙ is)
      | inr differ ↦ absurd (none_some g _ (unborn_at x y b epoch h low (λ t there. (let same : s ≡ t = same_some s t _ on there in λ now. differ (ap (λ (u : SessionEnd). u.epoch) same ∙ now)))) is)
    ]

-- A sender with its lines stands for the end of a bearer: nothing stands in a later session, or in that of an end which isn't up.
pub record StandsAt (x : View) (b : ℕ) (l : Lines) (z : Sender) : Type 0 where
  pub epoch : l.first + z.session ≡ epoch_on x.node (x.wires b) + 1
  pub state : z.state ≡ (seen_at x b).state
  pub later : (session : ℕ) → z.session < session → l.line session ≡ []
  pub down : z.state ≢ Up → l.line z.session ≡ []
  pub numbered : z.state ≡ Up → length (l.line z.session) ≡ (seen_at x b).window.numbered

-- the lines at the present epoch, and at later ones
line_now : (x y : View) (b epoch : ℕ) (l : Lines) (z : Sender) → ArePaired x y → AreSessions x x.node.contact x.node.seen b l z → StandsAt x b l z → epoch_on x.node (x.wires b) ≤ epoch → l.line (epoch + 1 - l.first) ≡ (x.wires b).line epoch
line_now x y b epoch l z h sessions stands low = by_begun ((x.wires b).begun epoch) refl
  where
    unused : (x.wires b).begun epoch ≡ None → l.line (epoch + 1 - l.first) ≡ []
    unused none = elim (cases_eq epoch (epoch_on x.node (x.wires b))) [
      | inl same ↦ (
          let at = stands.epoch in
          let session : epoch + 1 - l.first ≡ z.session = omega arith in
          let not_up : z.state ≢ Up = λ up. (
          let has = has_session x y b h (sym stands.state ∙ up) in
          let going = (h.here.wires b).going has.session has.on in
          none_some going.begun _ (ap (x.wires b).begun (has.epoch ∙ sym same) ∙ none) going.begun_is) in
          ap l.line session ∙ stands.down not_up)
      | inr differ ↦ (let at = stands.epoch in stands.later (epoch + 1 - l.first) (omega (arith, differ)))
    ]

    by_begun : (o : Option Begun) → (x.wires b).begun epoch ≡ o → l.line (epoch + 1 - l.first) ≡ (x.wires b).line epoch
    by_begun None none = unused none ∙ sym ((h.here.wires b).unborn epoch none)
    by_begun (Some g) is = (let now = began_now x y b epoch g h low is in (sessions.lines epoch g is now.0 now.1).1)

-- ---- the packets

-- behind the same line so many packets more, of which a window keeps the last ones: they are those at its end
last_same : (line more near older : List (List ℕ)) (k : ℕ) → length (line ++ more) ≡ length (line ++ near) → drop k (line ++ more) ≡ older ++ near → k + length (older ++ near) ≡ length (line ++ more) → more ≡ near
last_same line more near older k long kept count =
    let one = length-append line more in
    let two = length-append line near in
    let three = length-append older near in
    let place : k + length older ≡ length line = omega arith in
    sym (drop-append_seam line more) ∙ (ap (λ n. drop n (line ++ more)) (sym place) ∙ (sym (drop-drop (length older) k (line ++ more)) ∙ (ap (drop (length older)) kept ∙ drop-append_seam older near)))

-- what an end that is up numbered
up_packets : (x' y : View) (b : ℕ) (line more packets older : List (List ℕ)) → ArePaired x' y → (seen_at x' b).state ≡ Up → (x'.wires b).line (epoch_on x'.node (x'.wires b)) ≡ line ++ more → length (line ++ packets) ≡ (seen_at x' b).window.numbered
    → (seen_at x' b).window.unacked ≡ older ++ packets → more ≡ packets
up_packets x' y b line more packets older h up is numbered unacked =
    let has = has_session x' y b h up in
    let s = has.session in
    let d = ((h.here.wires b).going s has.on).sends in
    let at : (x'.wires b).line s.epoch ≡ line ++ more = ap (x'.wires b).line has.epoch ∙ is in
    let count : length (line ++ more) ≡ s.sending.numbered = ap length (sym at) ∙ d.count in
    let window = ap (λ (w : Sending). w.numbered) has.window in
    let kept : s.sending.unacked ≡ older ++ packets = ap (λ (w : Sending). w.unacked) (sym has.window) ∙ unacked in
    let below = d.below in
    let long : length s.sending.unacked ≡ length (older ++ packets) = ap length kept in
    last_same line more packets older (acked_of s.sending) (count ∙ (sym window ∙ sym numbered)) (ap (drop (acked_of s.sending)) (sym at) ∙ (d.kept ∙ kept)) (omega arith)

-- and one that isn't up: none
down_packets : (x' y : View) (b : ℕ) (line more : List (List ℕ)) → ArePaired x' y → ((seen_at x' b).state ≡ Up → ⊥) → (x'.wires b).line (epoch_on x'.node (x'.wires b)) ≡ line ++ more → more ≡ []
down_packets x' y b line more h down is =
    let E = epoch_on x'.node (x'.wires b) in
    let none = unborn_at x' y b E h (omega arith) (λ s on. absurd (down (up_on s on))) in
    let empty : length (line ++ more) ≡ 0 = ap length (sym is ∙ (h.here.wires b).unborn E none) in
    let long = length-append line more in
    nil_from_length more (omega arith)
  where
    up_on : (s : SessionEnd) → session_on (x'.wires b) ≡ Some s → (seen_at x' b).state ≡ Up
    up_on s on = (let at = is_up_of (x'.wires b) s on in ap (λ o. (end_seen x'.node.contact o).state) at.1.end_is ∙ as_up at.0.fsm.state at.1.up)

-- ---- one bearer

lines_other : (l : Lines) (session other : ℕ) (packets : List (List ℕ)) → other ≢ session → (with_more l session packets).line other ≡ l.line other
lines_other l session other packets differ = (let test : (other == session) ≡ false = grind (arith, nat_tests, differ) in ap (λ t. if t then l.line other ++ packets else l.line other) test)

-- What the events made of a sender on a bearer where a piece numbered packets: these, which are the last ones of its window.
pub record ActsAt (x' : View) (b : ℕ) (l : Lines) (z' : Sender) (packets : List (List ℕ)) : Type 0 where
  pub stands : StandsAt x' b (with_more l z'.session packets) z'
  pub older : List (List ℕ)
  pub unacked : (seen_at x' b).window.unacked ≡ older ++ packets

-- they are those that got numbers on the wire
same_packets : (x x' y : View) (b : ℕ) (l : Lines) (z z' : Sender) (packets : List (List ℕ)) → ArePaired x y → ArePaired x' y → AreSessions x x.node.contact x.node.seen b l z → StandsAt x b l z → (g : GrowsAt x x' b)
    → epoch_on x.node (x.wires b) ≤ epoch_on x'.node (x'.wires b) → ActsAt x' b l z' packets → g.packets ≡ packets
same_packets x x' y b l z z' packets h h' sessions stands g more a = by_state (cases_up z'.state)
  where
    E : ℕ
    E = epoch_on x'.node (x'.wires b)

    session : E + 1 - l.first ≡ z'.session
    session = (let at = a.stands.epoch in omega arith)

    line : l.line z'.session ≡ (x.wires b).line E
    line = ap l.line (sym session) ∙ line_now x y b E l z h sessions stands more

    whole : (with_more l z'.session packets).line z'.session ≡ (x.wires b).line E ++ packets
    whole = lines_then l z'.session packets ∙ ap (λ ps. ps ++ packets) line

    by_state : (z'.state ≡ Up) ⊎ (z'.state ≢ Up) → g.packets ≡ packets
    by_state (inl up) =
        up_packets x' y b ((x.wires b).line E) g.packets packets a.older h' (sym a.stands.state ∙ up) g.line (ap length (sym whole) ∙ a.stands.numbered up) a.unacked
    by_state (inr down) =
        let none = ap length (sym whole ∙ a.stands.down down) in
        let long = length-append ((x.wires b).line E) packets in
        down_packets x' y b ((x.wires b).line E) g.packets h' (λ up. down (a.stands.state ∙ up)) g.line ∙ sym (nil_from_length packets (omega arith))

-- so the piece goes on to send, on this bearer
pub sends_on : (x x' y : View) (n : Numbers) (b : ℕ) (l : Lines) (z z' : Sender) (packets : List (List ℕ)) → ArePaired x y → ArePaired x' y → AreNumbers x y n → Stays x x' y n → l.first ≡ n.first b x.node.contact
    → AreSessions x x.node.contact x.node.seen b l z → StandsAt x b l z → GrowsAt x x' b → ActsAt x' b l z' packets → SendsOn x x' b l (with_more l z'.session packets) z'
sends_on x x' y n b l z z' packets h h' are stays first sessions stands g a = record {
  first = refl;
  stays = (more_grows l z'.session packets).stays;
  lines = λ epoch low same. elim (cases_eq epoch E) [
    | inl now ↦ (
        let session : epoch + 1 - l.first ≡ z'.session = (let at = a.stands.epoch in omega arith) in
        ap l'.line session ∙ (lines_then l z'.session packets ∙ (ap (λ ps. ps ++ packets) (ap l.line (sym session) ∙ same ∙ ap (x.wires b).line now) ∙ (ap (λ ps. (x.wires b).line E ++ ps) (sym linked) ∙ (sym g.line ∙ ap (x'.wires b).line (sym now))))))
    | inr differ ↦ (
        let other : (epoch + 1 - l.first) ≢ z'.session = (let at = a.stands.epoch in λ is. differ (omega arith)) in
        lines_other l z'.session (epoch + 1 - l.first) packets other ∙ (same ∙ sym (g.others epoch differ)))
  ];
  others = λ epoch k is differ. elim (cases_eq epoch E) [
    | inl now ↦ (let here = began_now x y b epoch k h (omega arith) is in absurd (differ here.0 here.1))
    | inr other ↦ g.others epoch other
  ];
  began = λ epoch k is. elim (stays.began b epoch k is) [
    | inl was ↦ inl was
    | inr new ↦ elim (g.began epoch k is) [
      | inl was ↦ inl was
      | inr low ↦ inr (new.0, new.1, (let at = are.onward b in omega arith), line_now x y b epoch l z h sessions stands low)
    ]
  ];
  told = λ k f there bearer. elim (stays.told k f there) [
    | inl was ↦ inl was
    | inr new ↦ inr (new.0, new.1, shown k f there bearer (let low = new.2 in let at : n.first f.bearer x.node.contact ≡ l.first = ap (λ c. n.first c x.node.contact) bearer ∙ sym first in omega arith))
  ];
} where
  E : ℕ
  E = epoch_on x'.node (x'.wires b)

  l' : Lines
  l' = with_more l z'.session packets

  more : epoch_on x.node (x.wires b) ≤ E
  more = elim (stays.epochs b) [ inl same ↦ omega arith | inr rise ↦ rise.0 ]

  linked : g.packets ≡ packets
  linked = same_packets x x' y b l z z' packets h h' sessions stands g more a

  shown : (k : ℕ) (f : Frame) → slice_get x'.told k ≡ Some f → f.bearer ≡ b → l.first ≤ es_of f.bytes → IsShownIn l' z' (es_of f.bytes)
  shown k f there bearer low =
      let at = a.stands.epoch in
      let bearer_epoch : epoch_on x'.node (x'.wires f.bearer) ≡ E = ap (λ c. epoch_on x'.node (x'.wires c)) bearer in
      let few = none_above x' y h' k f there in
      record {
        no_lower = low;
        no_higher = omega arith;
        held = λ held. (
            let end = held_seen x'.node.contact (x'.wires b).end (sym a.stands.state ∙ held) in
            let own = epoch_of_end x'.node (x'.wires b) end.0 end.1 in
            let differ : es_of f.bytes ≢ E = λ same. (let wrong : true ≡ false = sym end.2 ∙ (h'.here.epochs b).unheld k f end.0 there bearer end.1 (same ∙ own) in let no : ⊥ = cc in no) in
            omega (arith, differ));
      }
