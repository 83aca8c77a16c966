-- Two nodes begin to talk, send messages, and are restarted.
use Rattle.std.specs.Prelude.{slice_get}
use Rattle.std.proofs.Common.{◌≡◌, ℕ, List, [], ◌∷◌, ◌++◌, Some, refl, sym, ap, ◌∙◌, subst, arith}
use Rattle.tipc_outside.specs.declared.outgoing.Outgoing.{Outgoing}
use Rattle.tipc_fragments.specs.Joining.{fresh}
use Rattle.tipc_reassembly.specs.Slots.{packets_in}
use Rattle.tipc_pair.specs.Facing.{PairEnds, alone}
use Rattle.tipc_pair.specs.PairCalls.{SendsWithin}
use Rattle.tipc_pair.specs.PairFacts.{AreHeldRightly, IsPairOfEnds}
use Rattle.tipc_pair.specs.Messages.{IsMessage, pieces_for}
use Rattle.tipc_two_nodes.proofs.messages.Packets.{message_inner, more_packets}
use Rattle.tipc_paired.proofs.wires.Wires.{session_of_up}
use Rattle.tipc_paired.specs.Deeds.{restarted}
use Rattle.tipc_paired.specs.Paired.{ArePaired, IsPacket}
use Rattle.tipc_paired.specs.Views.{IsApart, View, Wire}
use Rattle.tipc_two_nodes.specs.deeds.PairDeeds.{IsOfPair}
use Rattle.tipc_two_nodes.specs.Talkers.{HasPair, IsNewTalker, NewAreTalking, NoticesTalk, OpeningTalks, RestartsTalk, SendsTalk, Talker, given_more, put_more}
use Rattle.tipc_two_nodes.proofs.messages.Begun.{still_begun}
use Rattle.tipc_two_nodes.proofs.steps.Carrying.{in_changed}
use Rattle.tipc_two_nodes.proofs.messages.Crossing.{begins_on_talks, brings_on_talks, new_talks, sends_on_talks, takes_on_talks}
use Rattle.tipc_two_nodes.proofs.calls.EndingTwins.{restarts_carry, restarts_twins}
use Rattle.tipc_two_nodes.proofs.messages.Posted.{sent_messages}
use Rattle.tipc_two_nodes.proofs.calls.SendTwins.{active_going, pieces_plain, send_numbers, sends_keep}
use Rattle.tipc_two_nodes.proofs.contacts.Stale.{apart_absent}
use Rattle.tipc_two_nodes.proofs.calls.TalkerPairs.{sent_begun, sent_ends, sent_quiet}
use Rattle.tipc_pair.proofs.HeldCalls.{sent_right}
use Rattle.tipc_two_nodes.proofs.messages.Talks.{talks_send}
use Rattle.tipc_two_nodes.proofs.steps.TwinSteps.{new_apart, start_empty, start_twins}

-- ---- the beginning

no_ends : (own peer boot : ℕ) (x : Talker) → IsOfPair x.view (alone own peer boot) → x.pair ≡ alone own peer boot → HasPair x
no_ends own peer boot x of is = record {
  of = subst (IsOfPair x.view) (sym is) of;
  ends = subst IsPairOfEnds (sym is) (record { two_bearers = omega arith; near = tt; far = tt });
  held = subst AreHeldRightly (sym is) (record { near = tt; far = tt });
  first = ap (λ (p : PairEnds). p.bearer) is;
}

new_pair : (x : Talker) → IsNewTalker x → HasPair x
new_pair x h =
    let none = λ (b : ℕ). ap (λ (w : Wire). w.end) (h.view.wires b) in
    no_ends x.view.node.own x.view.node.peer x.view.node.boot x (record {
      own = refl;
      peer = refl;
      contact = h.view.contact;
      seen = h.view.seen;
      two_bearers = omega arith;
      near = none 0;
      far = none 1;
      alone = λ b more. none b;
    }) h.pair

pub new_are_talking : NewAreTalking
new_are_talking x y h k = record {
  twins = start_twins x.view y.view h.view k.view;
  here = new_pair x h;
  there = new_pair y k;
  sends = new_talks x.view y.view _ x.put y.given y.pair.begun (λ own theirs. (start_empty x.view y.view h.view k.view own theirs).0) h.put k.given (new_apart y.view k.view);
  receives = new_talks y.view x.view _ y.put x.given x.pair.begun (λ own theirs. (start_empty x.view y.view h.view k.view own theirs).1) k.put h.given (new_apart x.view h.view);
}

-- ---- a message is sent

waiting_packets : (v y : View) (x x' : PairEnds) (m : List ℕ) (limit : ℕ) (frames : List Outgoing) → ArePaired v y → IsOfPair v x → IsMessage v.node.own m → (s : SendsWithin x (pieces_for m) limit x' frames)
    → (k : ℕ) (bytes : List ℕ) → slice_get s.puts.put.sending.waiting k ≡ Some bytes → IsPacket v.node.own bytes
waiting_packets v y x x' m limit frames h pair message s =
    let up = active_going v x x' (pieces_for m) limit frames pair s in
    let going = (h.here.wires s.bearer).going s.puts.session (session_of_up (v.wires s.bearer) s.puts.end s.puts.session up) in
    more_packets v.node.own m s.puts.session s.puts.put (pieces_for m) refl s.puts.is_put going.waiting message

pub sends_talk : SendsTalk
sends_talk x y pair m limit frames h message listed s =
    let v = x.view in
    let p = h.here in
    let own = v.node.contact in
    let theirs = v.node.seen in
    let inner = message_inner v.node.own m message in
    let d = sends_keep v y.view x.pair pair (pieces_for m) limit frames h.twins p.of p.ends (pieces_plain m inner) s (waiting_packets v y.view x.pair pair m limit frames h.twins.paired p.of message s) in
    let after = d.0 in
    let f = h.twins.sends.carriage in
    let g = d.3.sends.carriage in
    let e = h.sends.each own theirs in
    let new = sent_messages v y.view x.pair pair m limit frames h.twins (g own theirs) (x.put own theirs) (y.given theirs own) e.last p.of p.ends inner s d.4.put_is d.4.delivered e.are in (
      after,
      d.1,
      record {
        twins = d.3;
        here = record {
          of = d.2;
          ends = sent_ends x.pair pair (pieces_for m) limit frames p.ends listed s;
          held = sent_right x.pair pair (pieces_for m) limit frames s p.held;
          first = (send_numbers x.pair pair (pieces_for m) limit frames p.ends.two_bearers s).bearer ∙ p.first;
        };
        there = h.there;
        sends = talks_send v after y.view f g (g own theirs) x.put (put_more x m) y.given y.pair.begun (x.put own theirs ++ m ∷ []) d.4.node (record { here = refl; others = d.4.others }) (in_changed x.put own theirs (x.put own theirs ++ m ∷ [])) h.sends new;
        receives = takes_on_talks v after y.view h.twins d.3 y.put x.given x.pair.begun pair.begun d.4.receives
            (λ i j here. still_begun v after y.view x.pair pair i j h.twins.paired p.of d.2 (sent_quiet x.pair pair (pieces_for m) limit frames s) (sent_begun x.pair pair (pieces_for m) limit frames s) here) h.receives;
      },
    )

-- ---- a restart

restarted_apart : (x : View) (boot : ℕ) → IsApart (restarted x boot)
restarted_apart x boot b e is = absurd (let wrong : ⊥ = cc in wrong)

pub restarts_talk : RestartsTalk
restarts_talk x y boot h more fits =
    let v = x.view in
    let v' = restarted v boot in
    let k = restarts_twins v y.view boot h.twins more fits in
    let carries = restarts_carry v y.view boot h.twins more fits in
    let z : Talker = record { view = v'; pair = alone v.node.own v.node.peer boot; put = x.put; given = x.given } in
    record {
      twins = k;
      here = no_ends v.node.own v.node.peer boot z (record {
        own = refl;
        peer = refl;
        contact = refl;
        seen = refl;
        two_bearers = omega arith;
        near = refl;
        far = refl;
        alone = λ b later. refl;
      }) refl;
      there = h.there;
      sends = sends_on_talks v v' y.view h.twins k _ x.put y.given y.pair.begun carries h.sends;
      receives = takes_on_talks v v' y.view h.twins k y.put x.given x.pair.begun fresh carries.receives (λ own theirs here. absurd (apart_absent v' own theirs (restarted_apart v boot) here)) h.receives;
    }

-- ---- an arrival

pub notices_talk : NoticesTalk
notices_talk x y after pair h k carries has begins = record {
  twins = k;
  here = has;
  there = h.there;
  sends = sends_on_talks x.view after y.view h.twins k _ x.put y.given y.pair.begun carries h.sends;
  receives = begins_on_talks x.view after y.view h.twins k y.put x.given x.pair.begun pair.begun carries.receives begins h.receives;
}

pub opening_talks : OpeningTalks
opening_talks x y after pair brought opened begun h k carries has here start brings =
    let own = x.view.node.contact in
    let theirs = x.view.node.seen in
    let both = brings_on_talks x.view after y.view h.twins k y.put x.given (given_more x opened) own theirs x.pair.begun begun pair.begun brought opened carries.receives (in_changed x.given own theirs (x.given own theirs ++ packets_in opened)) here start brings h.receives in (
      record {
        twins = k;
        here = record { of = has.of; ends = has.ends; held = has.held; first = has.first };
        there = h.there;
        sends = sends_on_talks x.view after y.view h.twins k _ x.put y.given y.pair.begun carries h.sends;
        receives = both.0;
      },
      both.1,
    )
