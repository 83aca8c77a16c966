-- A piece of a call keeps two nodes what they are, where it is events of the sender.
use Rattle.std.proofs.Common.{◌≡◌, ◌+◌, ℕ, List, refl, sym, ap, ◌∙◌, subst, inl, arith}
use Rattle.tipc_changeover.specs.Links.{First, Receiver, Sender}
use Rattle.tipc_changeover.specs.Parts.{Ends}
use Rattle.tipc_changeover.specs.Slots.{LinkSlot}
use Rattle.tipc_changeover.proofs.Staying.{reached_sound}
use Rattle.tipc_two_nodes.specs.links.Acting.{Acted, HasNumbered as NumbersIn, sent_with}
use Rattle.tipc_two_nodes.specs.links.Ends.{session_by}
use Rattle.tipc_two_nodes.specs.links.Following.{stays as no_event}
use Rattle.tipc_two_nodes.specs.links.Receiving.{IsRecordFor}
use Rattle.tipc_two_nodes.specs.links.Sending.{IsSender, SendingEnd}
use Rattle.tipc_two_nodes.specs.links.Traffic.{Lines, Traffic, with_more}
use Rattle.tipc_two_nodes.proofs.links.sender.Happening.{follows_reached}
use Rattle.tipc_paired.specs.Paired.{ArePaired}
use Rattle.tipc_paired.specs.Views.{View}
use Rattle.tipc_two_nodes.specs.Carriages.{AreSessions, Carriage, IsSent, IsTaken, Numbers, ends_in}
use Rattle.tipc_two_nodes.specs.Carrying.{Carries, CarriesPut, none_taken}
use Rattle.tipc_two_nodes.specs.Numbers.{AreNumbers}
use Rattle.tipc_two_nodes.specs.Pieces.{GrowsAt, IsPiece}
use Rattle.tipc_two_nodes.specs.Steps.{Receives, IsSendingPiece, SendsOn, Stays}
use Rattle.tipc_two_nodes.specs.Twins.{AreTwins, sends_in, takes_in}
use Rattle.tipc_two_nodes.proofs.steps.Carrying.{goes_on_puts, goes_on_same}
use Rattle.tipc_two_nodes.proofs.contacts.Leaving.{epoch_seen}
use Rattle.tipc_two_nodes.proofs.calls.Linking.{ActsAt, StandsAt, seen_at, sends_on}
use Rattle.tipc_two_nodes.proofs.steps.TwinSteps.{goes_on_twins}
-- ---- a sender, and the end of its bearer
use Rattle.tipc_two_nodes.proofs.links.sender.Calls.{empty_line as none_for}

stands_sender : (P : LinkSlot → List ℕ → Type 0) (x : View) (b : ℕ) (l : Lines) (z : Sender) (r : Receiver) → IsSender P l (seen_at x b) z → Ends z r → StandsAt x b l z
stands_sender P x b l z r h ends = record {
  epoch = h.epoch ∙ ap (λ n. n + 1) (epoch_seen x b);
  state = h.state;
  later = λ session more. none_for P (z.line session) (l.line session) (h.lines session) (ends.later session more);
  down = λ down. none_for P (z.line z.session) (l.line z.session) (h.lines z.session) (ends.down down).0;
  numbered = λ up. (h.queue (sym h.state ∙ up)).numbered;
}

-- and what events made of it, which numbered packets
same_session : (l : Lines) (e : SendingEnd) (session : ℕ) → l.first + session ≡ e.epoch + 1 → session_by l e ≡ session
same_session l e session is = omega arith

acts_at : (P : LinkSlot → List ℕ → Type 0) (x' : View) (b : ℕ) (l : Lines) (z' : Sender) (r : Receiver) (e : SendingEnd) (packets : List (List ℕ)) → IsSender P (with_more l (session_by l (seen_at x' b)) packets) (seen_at x' b) z' → Ends z' r → NumbersIn e (seen_at x' b) packets
    → ActsAt x' b l z' packets
acts_at P x' b l z' r e packets h ends numbers = record {
  stands = subst (λ n. StandsAt x' b (with_more l n packets) z') (same_session l (seen_at x' b) z'.session h.epoch) (stands_sender P x' b (with_more l (session_by l (seen_at x' b)) packets) z' r h ends);
  older = numbers.older;
  unacked = numbers.unacked;
}

-- so it goes on to send on this bearer
pub sends_at : (P Q : LinkSlot → List ℕ → Type 0) (x x' y : View) (n : Numbers) (b : ℕ) (l : Lines) (z z' : Sender) (r r' : Receiver) (e : SendingEnd) (packets : List (List ℕ)) → ArePaired x y → ArePaired x' y → AreNumbers x y n → Stays x x' y n → l.first ≡ n.first b x.node.contact
    → AreSessions x x.node.contact x.node.seen b l z → IsSender P l (seen_at x b) z → Ends z r → GrowsAt x x' b → IsSender Q (with_more l (session_by l (seen_at x' b)) packets) (seen_at x' b) z' → Ends z' r' → NumbersIn e (seen_at x' b) packets
    → SendsOn x x' b l (with_more l (session_by l (seen_at x' b)) packets) z'
sends_at P Q x x' y n b l z z' r r' e packets h h' are stays first sessions sender ends g after_it ends' numbers =
    subst (λ k. SendsOn x x' b l (with_more l k packets) z') (sym (same_session l (seen_at x' b) z'.session after_it.epoch))
    (sends_on x x' y n b l z z' packets h h' are stays first sessions (stands_sender P x b l z r sender ends) g (acts_at Q x' b l z' r' e packets after_it ends' numbers))

-- ---- both bearers

-- the same was numbered, and this was put
abbrev pub put_as : Traffic → List (List ℕ) → Traffic
put_as t put = record { put = put; near = t.near; far = t.far }

acted_sends : (x x' y : View) (n : Numbers) (c : Carriage) (put : List (List ℕ)) → ArePaired x y → AreNumbers x y n → IsSent x n x.node.contact x.node.seen c → IsPiece x x' y n → (a : Acted First (ends_in x) (ends_in x') (put_as c.traffic put) c.state)
    → IsSendingPiece x x' c (sent_with (put_as c.traffic put) (ends_in x') a.near a.far)
acted_sends x x' y n c put h are sent m a =
    let stand = sent.now refl refl in
    let sound = reached_sound c.state sent.reached in
    let B = a.become in
    let after_it = reached_sound B.state (follows_reached First c.state B.state sent.reached B.follows) in
    record {
      node = m.stays.node;
      become = B;
      near = sends_at _ _ x x' y n 0 c.traffic.near c.state.near B.state.near _ _ _ a.near h m.paired are m.stays sent.near_first sent.near stand.near sound.near.ends m.near B.stand.near after_it.near.ends a.near_is;
      far = sends_at _ _ x x' y n 1 c.traffic.far c.state.far B.state.far _ _ _ a.far h m.paired are m.stays sent.far_first sent.far stand.far sound.far.ends m.far B.stand.far after_it.far.ends a.far_is;
      apart = m.stays.apart;
    }

-- nothing is taken
takes_nothing : (x x' y : View) (n : Numbers) (c : Carriage) → IsPiece x x' y n → IsTaken x x.node.contact x.node.seen c → Receives x x' c
takes_nothing x x' y n c m t = record {
  node = m.stays.node;
  begun = m.begun;
  present = m.lasts;
  state = c.state;
  takes = no_event;
  moved = inl refl;
  near = λ here. subst (λ o. IsRecordFor c.traffic.near o c.state.near_record) (sym m.records.near) (t.near here);
  far = λ here. subst (λ o. IsRecordFor c.traffic.far o c.state.far_record) (sym m.records.far) (t.far here);
  near_got = λ epoch. inl (m.got 0 epoch);
  far_got = λ epoch. inl (m.got 1 epoch);
}

-- packets may be put, or one may join the last one that waits
pub puts_twins : (x x' y : View) (h : AreTwins x y) (put : List (List ℕ)) → IsPiece x x' y h.here → Acted First (ends_in x) (ends_in x') (put_as (sends_in x y h).traffic put) (sends_in x y h).state → AreTwins x' y
puts_twins x x' y h put m a =
    let c = sends_in x y h in
    goes_on_twins x x' y (sent_with (put_as c.traffic put) (ends_in x') a.near a.far) h (record { paired = m.paired; tells = m.tells; begun = m.begun; recorded = m.recorded }) m.stays
    (acted_sends x x' y h.here c put h.paired h.numbers_here (h.sends.sent x.node.contact x.node.seen) m a)
    (takes_nothing x x' y h.here (takes_in x y h) m (h.receives.taken x.node.seen x.node.contact))

pub pieces_twins : (x x' y : View) (h : AreTwins x y) → IsPiece x x' y h.here → Acted First (ends_in x) (ends_in x') (sends_in x y h).traffic (sends_in x y h).state → AreTwins x' y
pieces_twins x x' y h m a = puts_twins x x' y h (sends_in x y h).traffic.put m a

-- ---- what crosses

-- what was put is this then, and nothing was taken
pub puts_carry : (x x' y : View) (h : AreTwins x y) (put : List (List ℕ)) (m : IsPiece x x' y h.here) (a : Acted First (ends_in x) (ends_in x') (put_as (sends_in x y h).traffic put) (sends_in x y h).state) → CarriesPut x x' y h (puts_twins x x' y h put m a) put
unfolding puts_twins takes_nothing
puts_carry x x' y h put m a =
    let c = sends_in x y h in
    goes_on_puts x x' y (sent_with (put_as c.traffic put) (ends_in x') a.near a.far) h (record { paired = m.paired; tells = m.tells; begun = m.begun; recorded = m.recorded }) m.stays
    (acted_sends x x' y h.here c put h.paired h.numbers_here (h.sends.sent x.node.contact x.node.seen) m a)
    (takes_nothing x x' y h.here (takes_in x y h) m (h.receives.taken x.node.seen x.node.contact)) refl

-- where nothing was put, what crosses stays so
pub pieces_carry : (x x' y : View) (h : AreTwins x y) (m : IsPiece x x' y h.here) (a : Acted First (ends_in x) (ends_in x') (sends_in x y h).traffic (sends_in x y h).state) → Carries x x' y h (pieces_twins x x' y h m a) none_taken
unfolding pieces_twins puts_twins takes_nothing
pieces_carry x x' y h m a =
    let c = sends_in x y h in
    goes_on_same x x' y (sent_with c.traffic (ends_in x') a.near a.far) h (record { paired = m.paired; tells = m.tells; begun = m.begun; recorded = m.recorded }) m.stays
    (acted_sends x x' y h.here c c.traffic.put h.paired h.numbers_here (h.sends.sent x.node.contact x.node.seen) m a)
    (takes_nothing x x' y h.here (takes_in x y h) m (h.receives.taken x.node.seen x.node.contact)) refl refl
