-- Each frame that a node sends in a turn at a pair fits the air: were it to come there, the two nodes would talk on with it.
use Rattle.std.proofs.Common.{◌≡◌, ◌≤◌, ◌+◌, ℕ, true, List, Option, length, map, ap, ◌∙◌, inr, arith}
use Rattle.std.specs.Prelude.{All}
use Rattle.std.proofs.lemmas.Bool.Decides.{nat_tests}
use Rattle.std.proofs.lemmas.List.{length-append}
use Rattle.tipc_outside.specs.declared.outgoing.Outgoing.{Outgoing}
use Rattle.tipc_header.specs.Frames.{envelope, frame_of}
use Rattle.tipc_header.specs.Spelling.{Fields, spelling}
use Rattle.tipc_header.proofs.FrameWords.{length-envelope}
use Rattle.tipc_reassembly.specs.Slots.{packets_in}
use Rattle.tipc_pair.specs.Facing.{PairEnds}
use Rattle.tipc_pair.specs.Messages.{IsMessage, opened_in}
use Rattle.tipc_pair.specs.PairTurns.{Opening, PairTurn, Reply, ShowsAtLast, ShowsIn}
use Rattle.tipc_two_nodes.specs.Sights.{AreSeen, PairBecomes, MayHappen, Sight, pair_seen, sent_as}
use Rattle.tipc_two_nodes.proofs.sights.Sights.{frames as spoken, turns}
use Rattle.tipc_two_nodes.proofs.sights.Truth.{frames_fit}
use Rattle.tipc_node.specs.Nodes.{is_frame_size}
use Rattle.tipc_replay.proofs.InLists.{Stands, stands_map, stands_mapped}

-- a frame is on one of the two bearers, and has a frame's size
abbrev pub IsFit : Outgoing → Type 0
IsFit o = (o.bearer ≤ 1) × (is_frame_size (length o.frame) ≡ true)

-- each of these is so
abbrev pub AreFit : List Outgoing → Type 0
AreFit os = (o : Outgoing) → Stands os o → IsFit o

-- ---- a frame of a node that talks

-- an envelope alone has 16 bytes
has_envelope : (bytes : List ℕ) (es er : ℕ) (p : Fields) → bytes ≡ frame_of es er (spelling p) → 16 ≤ length bytes
has_envelope bytes es er p is =
    let whole : length bytes ≡ length (envelope es er) + length (spelling p) = ap length is ∙ length-append (envelope es er) (spelling p) in
    let head = length-envelope es er in
    omega (arith, whole, head)

-- between the least size and the most
of_size : (n : ℕ) → 16 ≤ n → n ≤ 1516 → is_frame_size n ≡ true
of_size n low high = grind (arith, nat_tests, low, high)

-- the node as it would be seen if just these frames were in the air, all that it told in an event
abbrev pub with_all : Sight → Sight → Sight → List Outgoing → Sight
with_all v v' w os = record v' { sent = map (sent_as v v' w) os }

-- it went there too, if it went to any sight that differs in its frames alone
all_sent : (v v' w : Sight) (x : PairEnds) (os : List Outgoing) (put given : List (List ℕ)) → PairBecomes v v' w x os put given → PairBecomes v (with_all v v' w os) w x os put given
all_sent v v' w x os put given g = record {
  node = g.node;
  first = g.first;
  second = g.second;
  alone = g.alone;
  put_is = g.put_is;
  given_is = g.given_is;
  partial_is = g.partial_is;
  numbered_now = g.numbered_now;
  numbered_else = g.numbered_else;
  sent = λ k f there. let found = stands_mapped (sent_as v v' w) os f (k, there) in inr (found.1.0, found.0, found.1.1, found.2);
}

-- the frames of two that talk fit
seen_fit : (v v' w : Sight) (os : List Outgoing) → AreSeen (with_all v v' w os) w → AreFit os
seen_fit v v' w os h o there =
    let f = sent_as v v' w o in
    let at = stands_map (sent_as v v' w) os o there in
    let told = h.seen_here.sent at.0 f at.1 in
    let is = spoken (with_all v v' w os) w at.0 f h at.1 in
    (told.two_bearers, of_size (length o.frame) (has_envelope o.frame is.es is.er is.packet is.bytes) (frames_fit (with_all v v' w os) w at.0 f h at.1))

-- so it is with each frame of a turn
pub turn_fits : (v v' w : Sight) (opening : Opening) (messages : List (List ℕ)) (reply : Option Reply) (x : PairEnds) (os : List Outgoing) → AreSeen v w → MayHappen v w opening → ShowsIn opening → ShowsAtLast reply
    → All (IsMessage v.node.own) messages → (t : PairTurn (pair_seen v) opening messages reply x os) → PairBecomes v v' w x os messages (packets_in (opened_in t.first.given)) → AreFit os
turn_fits v v' w opening messages reply x os h may shows shows_last all t g =
    seen_fit v v' w os (turns v (with_all v v' w os) w opening messages reply x os h may shows shows_last all t (all_sent v v' w x os messages (packets_in (opened_in t.first.given)) g))
