-- A frame that is heard was sent by the peer, and isn't too old.
use Rattle.std.proofs.Common.{◌≡◌, ◌≢◌, ◌≤◌, ◌+◌, ℕ, zero, suc, true, List, [], Some, None, refl, length, sym, ap, ◌∙◌, subst, arith}
use Rattle.std.specs.Prelude.{Bool, drop, false, if◌then◌else◌, slice_get}
use Rattle.std.proofs.lemmas.Bool.Decides.{nat_tests}
use Rattle.std.proofs.lemmas.List.{drop_at, length-append}
use Rattle.tipc_types.specs.Address.{node_word}
use Rattle.tipc_types.specs.declared.identity.Addr.{Addr}
use Rattle.tipc_types.specs.declared.identity.To.TheVariants as to
use Rattle.tipc_header.specs.Faults.{fault_of}
use Rattle.tipc_header.specs.declared.frames.FrameKind.TheVariants.{Casts, Finds, Links}
use Rattle.tipc_header.specs.declared.packet.Header.{Header}
use Rattle.tipc_header.specs.declared.packet.Header.TheVariants as header
use Rattle.tipc_header.specs.Frames.{envelope, first_of, is_epoch, is_of_link, kind_in, kind_of}
use Rattle.tipc_header.specs.Reading.{fields_at}
use Rattle.tipc_header.specs.Spelling.{Fields, spelling}
use Rattle.tipc_header.proofs.Again.{again, no_fault}
use Rattle.tipc_header.proofs.FrameWords.{length-envelope}
use Rattle.tipc_link.specs.Links.{is_traffic}
use Rattle.tipc_types.specs.declared.node_calls.EventNote.{EventNote}
use Rattle.tipc_types.specs.declared.node_calls.EventNote.TheVariants as event
use Rattle.tipc_pair.specs.Facing.{PairEnds, facing}
use Rattle.tipc_pair.specs.PairTurns.{MakesNew, Opening, IsOnOne, Suits}
use Rattle.tipc_pair.specs.PairTurns.Opening.{cuts, hears, makes, mends, rests, ticks}
use Rattle.tipc_paired.proofs.wires.Frames.{same_packet}
use Rattle.tipc_two_nodes.proofs.sights.Sights.{frames}
use Rattle.tipc_two_nodes.specs.Sights.{Comes, MayHappen, Sight, pair_seen}
use Rattle.tipc_node.specs.Nodes.{is_frame_size}
use Rattle.tipc_node.specs.Turns.{IsBrought, IsFrom, addr_of, is_to}
use Rattle.tipc_replay.specs.declared.air.Sent.{Sent}
use Rattle.tipc_replay.specs.Addressed.{IsAddressed, IsPacketOf, IsToOther, of_a_link, of_broadcast, of_discovery}
use Rattle.tipc_replay.specs.Air.{as_frame, sent_between}
use Rattle.tipc_replay.specs.Due.{frame_for, unarrived}
use Rattle.tipc_replay.specs.Sound.{IsAirborne, IsNumber, IsSound}
use Rattle.tipc_replay.specs.States.{has_member}
use Rattle.tipc_replay.specs.Steps.{Stage}
use Rattle.tipc_replay.specs.Views.{sight_at}
use Rattle.tipc_replay.proofs.frames.Reaching.{IsYoung, age_is, goes_there, placed, same_receiver, sent_at, young, young_session}
use Rattle.tipc_replay.proofs.pairs.Turning.{sight_in}

-- it was sent by the peer, on a bearer
pub record IsFromPeer (s : Stage) (a bearer : ℕ) (f : Sent) (peer : ℕ) : Type 0 where
  pub number : IsNumber peer
  pub apart : peer ≢ a
  pub from : f.from.word ≡ node_word peer
  pub two : bearer ≤ 1
  pub size : is_frame_size (length f.frame) ≡ true
  pub place : ℕ
  pub there : slice_get (sent_between s.air peer a) place ≡ Some (as_frame bearer f)

-- a frame of a link to node a stands among those that its sender sent
linked : (s : Stage) (a bearer place : ℕ) (f : Sent) (from : ℕ) → frame_for s.air a bearer place ≡ Some f → IsNumber from → f.from.word ≡ node_word from → is_frame_size (length f.frame) ≡ true → is_of_link f.frame ≡ true → IsToOther from f.to
    → IsNumber a × IsFromPeer s a bearer f from
linked s a bearer place f from found number is size link other =
    let at = placed s.air a bearer place f found in
    let to_it : is_to other.receiver f.to ≡ true = ap (is_to other.receiver) other.to_is ∙ grind (arith, nat_tests) in
    let here : other.receiver ≡ a = sym (same_receiver a other.receiver f.from f.to at.1 to_it) in
    let sent = sent_at s.air from a bearer place f at.0 (goes_there from a f is (subst (λ n. is_to n f.to ≡ true) here to_it) link) in
    (subst IsNumber here other.number, record { number = number; apart = λ e. other.apart (here ∙ sym e); from = is; two = sent.0; size = size; place = sent.1.0; there = sent.1.1 })

-- a frame for node a is a packet of the node that sent it, under an envelope
pub record IsSpokenTo (f : Sent) : Type 0 where
  pub sender : ℕ
  pub from : f.from.word ≡ node_word sender
  pub said : IsPacketOf sender f.frame

-- one of a link is
pub spoken_on : (s : Stage) (a bearer : ℕ) (f : Sent) (from : ℕ) → IsSound s.members s.air → IsNumber a → IsFromPeer s a bearer f from → IsPacketOf from f.frame
unfolding sight_at
spoken_on s a bearer f from sound number sent =
    let spoken = frames (sight_in s from a) (sight_in s a from) sent.place (as_frame bearer f) (sound.pairs from a sent.number number sent.apart) sent.there in
    record {
      es = spoken.es;
      er = spoken.er;
      packet = spoken.packet;
      is_from = record { es_fits = spoken.es_fits; er_fits = spoken.er_fits; fits = spoken.fits; frame_is = spoken.bytes; previous = spoken.previous };
    }

pub spoken_to : (s : Stage) (a bearer place : ℕ) (f : Sent) → IsSound s.members s.air → frame_for s.air a bearer place ≡ Some f → IsSpokenTo f
spoken_to s a bearer place f sound found = record { sender = flown.from; from = flown.from_is; said = by flown.addressed }
  where
    flown : IsAirborne f
    flown = sound.frames bearer place f (placed s.air a bearer place f found).0

    by : IsAddressed flown.from f.frame f.to → IsPacketOf flown.from f.frame
    by (of_a_link link other) = (let sent = linked s a bearer place f flown.from found flown.from_number flown.from_is flown.size link other in spoken_on s a bearer f flown.from sound sent.0 sent.1)
    by (of_discovery packet kind low receivers) = packet
    by (of_broadcast packet kind all) = packet

-- a packet of a frame names the node that sent it
pub same_sender : (b c : ℕ) (bytes : List ℕ) (es er es' er' : ℕ) (p q : Fields) → IsFrom b bytes es er p → IsFrom c bytes es' er' q → b ≡ c
same_sender b c bytes es er es' er' p q h k =
    let same : p ≡ q = same_packet es er es' er' p q h.fits k.fits (sym h.frame_is ∙ k.frame_is) in
    let words : node_word b ≡ node_word c = sym h.previous ∙ ap (λ (r : Fields). r.previous) same ∙ k.previous in
    omega (arith, words)

-- a link packet came in a frame for one node
pub one_receiver : (s : Stage) (a bearer place : ℕ) (f : Sent) → IsSound s.members s.air → frame_for s.air a bearer place ≡ Some f → kind_in f.frame ≡ Links → (address : Addr) × (f.to ≡ to.Node address)
one_receiver s a bearer place f sound found kind_is = by flown.addressed
  where
    flown : IsAirborne f
    flown = sound.frames bearer place f (placed s.air a bearer place f found).0

    by : IsAddressed flown.from f.frame f.to → (address : Addr) × (f.to ≡ to.Node address)
    by (of_a_link link other) = (addr_of other.receiver, other.to_is)
    by (of_discovery packet finds low receivers) = absurd (let wrong : Finds ≡ Links = sym finds ∙ kind_is in cc)
    by (of_broadcast packet casts all) = absurd (let wrong : Casts ≡ Links = sym casts ∙ kind_is in cc)

not_link : (first : ℕ) (t : Bool) → is_epoch first ≡ t → (if t then Links else Casts) ≡ Casts → is_epoch first ≡ false
not_link first false is kind = is
not_link first true is kind = absurd (let wrong : Links ≡ Casts = kind in cc)

-- a broadcast packet is under no epoch
casts_low : (first : ℕ) (h : Header) → kind_of first h ≡ Casts → is_epoch first ≡ false
casts_low first (header.Discovery discovery) is = absurd (let wrong : Finds ≡ Casts = is in cc)
casts_low first (header.Payload payload) is = not_link first (is_epoch first) refl is
casts_low first (header.Fragmenter fragment) is = not_link first (is_epoch first) refl is
casts_low first other is = absurd (let wrong : Links ≡ Casts = is in cc)

-- and came in a frame for all
pub to_all_nodes : (s : Stage) (a bearer place : ℕ) (f : Sent) → IsSound s.members s.air → frame_for s.air a bearer place ≡ Some f → kind_in f.frame ≡ Casts → f.to ≡ to.All
unfolding kind_in
to_all_nodes s a bearer place f sound found kind_is = by flown.addressed
  where
    flown : IsAirborne f
    flown = sound.frames bearer place f (placed s.air a bearer place f found).0

    by : IsAddressed flown.from f.frame f.to → f.to ≡ to.All
    by (of_a_link link other) = absurd (let wrong : true ≡ false = sym link ∙ casts_low (first_of f.frame) (fields_at (drop 16 f.frame)).header kind_is in cc)
    by (of_discovery packet finds low receivers) = absurd (let wrong : Finds ≡ Casts = sym finds ∙ kind_is in cc)
    by (of_broadcast packet casts all) = all

-- a link packet came in a frame of a link
pub from_peer : (s : Stage) (a bearer place : ℕ) (f : Sent) (peer es er : ℕ) (p : Fields) → IsSound s.members s.air → frame_for s.air a bearer place ≡ Some f → IsFrom peer f.frame es er p → kind_in f.frame ≡ Links → IsFromPeer s a bearer f peer
from_peer s a bearer place f peer es er p sound found b kind_is = by flown.addressed
  where
    flown : IsAirborne f
    flown = sound.frames bearer place f (placed s.air a bearer place f found).0

    by : IsAddressed flown.from f.frame f.to → IsFromPeer s a bearer f peer
    by (of_a_link link other) =
        let sent = linked s a bearer place f flown.from found flown.from_number flown.from_is flown.size link other in
        let said = spoken_on s a bearer f flown.from sound sent.0 sent.1 in
        subst (IsFromPeer s a bearer f) (same_sender flown.from peer f.frame said.es said.er es er said.packet p said.is_from b) sent.1
    by (of_discovery packet finds low receivers) = absurd (let wrong : Finds ≡ Links = sym finds ∙ kind_is in cc)
    by (of_broadcast packet casts all) = absurd (let wrong : Casts ≡ Links = sym casts ∙ kind_is in cc)

-- the sender of a frame is there
pub sender_there : (s : Stage) (a bearer place : ℕ) (f : Sent) (b es er : ℕ) (p : Fields) → IsSound s.members s.air → frame_for s.air a bearer place ≡ Some f → IsFrom b f.frame es er p → has_member s.members b ≡ true
sender_there s a bearer place f b es er p sound found from =
    let spoken = spoken_to s a bearer place f sound found in
    let said = spoken.said in
    let sender : spoken.sender ≡ b = same_sender spoken.sender b f.frame said.es said.er es er said.packet p said.is_from from in
    let by = sound.senders bearer place f (placed s.air a bearer place f found).0 in
    let words : node_word by.0 ≡ node_word b = sym by.1 ∙ spoken.from ∙ ap node_word sender in
    let same : by.0 ≡ b = omega (arith, words) in
    subst (λ n. has_member s.members n ≡ true) same by.2

-- the packet of that frame, for the pair of the two nodes
pub comes : (s : Stage) (a bearer place : ℕ) (f : Sent) (peer es er : ℕ) (p : Fields) → IsSound s.members s.air → frame_for s.air a bearer place ≡ Some f → unarrived s.members s.air a bearer place ≡ None → IsFrom peer f.frame es er p
    → kind_in f.frame ≡ Links → Comes (sight_in s a peer) (sight_in s peer a) bearer es er p
unfolding sight_at
comes s a bearer place f peer es er p sound there free b kind =
    let sent = from_peer s a bearer place f peer es er p sound there b kind in
    let packet : drop 16 f.frame ≡ spelling p = ap (drop 16) b.frame_is ∙ drop_at (envelope es er) (spelling p) 16 (length-envelope es er) in
    let age = young s.members s.air a bearer place f there free in
    let fresh : is_traffic p.header ≡ true → IsYoung s.members f a peer bearer es er = λ traffic.
    young_session s.members f a peer bearer es er (spelling p) sent.from b.es_fits b.er_fits b.frame_is
    (let within = age_is s.members f a bearer p sent.size (ap fault_of packet ∙ no_fault p b.fits) (ap fields_at packet ∙ again p b.fits) kind traffic in omega (arith, within, age)) in
    record {
      place = sent.place;
      frame = as_frame bearer f;
      there = sent.there;
      bearer_is = refl;
      es_fits = b.es_fits;
      er_fits = b.er_fits;
      fits = b.fits;
      bytes = b.frame_is;
      own_fresh = λ traffic. (fresh traffic).receiver;
      peer_fresh = λ traffic. (fresh traffic).sender;
    }

-- it is that frame which comes
pub comes_as : (s : Stage) (a bearer place : ℕ) (f : Sent) (peer es er : ℕ) (p : Fields) → IsSound s.members s.air → frame_for s.air a bearer place ≡ Some f → unarrived s.members s.air a bearer place ≡ None → IsFrom peer f.frame es er p
    → kind_in f.frame ≡ Links → (c : Comes (sight_in s a peer) (sight_in s peer a) bearer es er p) × (c.frame ≡ as_frame bearer f)
unfolding comes
comes_as s a bearer place f peer es er p sound there free b kind = (comes s a bearer place f peer es er p sound there free b kind, refl)

-- and it is for the node
pub for_node : (s : Stage) (a bearer place : ℕ) (f : Sent) → IsSound s.members s.air → frame_for s.air a bearer place ≡ Some f → kind_in f.frame ≡ Links → is_to a f.to ≡ true
for_node s a bearer place f sound found kind_is = by flown.addressed
  where
    flown : IsAirborne f
    flown = sound.frames bearer place f (placed s.air a bearer place f found).0

    by : IsAddressed flown.from f.frame f.to → is_to a f.to ≡ true
    by (of_a_link link other) =
        let to_it : is_to other.receiver f.to ≡ true = ap (is_to other.receiver) other.to_is ∙ grind (arith, nat_tests) in
        let here : other.receiver ≡ a = sym (same_receiver a other.receiver f.from f.to (placed s.air a bearer place f found).1 to_it) in
        subst (λ n. is_to n f.to ≡ true) here to_it
    by (of_discovery packet finds low receivers) = absurd (let wrong : Finds ≡ Links = sym finds ∙ kind_is in cc)
    by (of_broadcast packet casts all) = absurd (let wrong : Casts ≡ Links = sym casts ∙ kind_is in cc)

-- a link packet that arrives in a step at node a came out of the air of its bearer
abbrev pub ComesOut : Stage → ℕ → EventNote → List ℕ → Type 0
ComesOut s a note bytes = (bearer number b es er : ℕ) (p : Fields) → note ≡ event.Arrive bearer number → IsFrom b bytes es er p → kind_in bytes ≡ Links → Comes (sight_in s a b) (sight_in s b a) bearer es er p

no_end : (v : Sight) (bearer : ℕ) → bearer ≤ 1 → (facing bearer (pair_seen v)).near ≡ None → v.ends bearer ≡ None
unfolding facing
no_end v zero low none = none
no_end v (suc zero) low none = none
no_end v (suc (suc bearer)) low none = absurd (let wrong : ⊥ = omega arith in wrong)

-- so what happens first at a pair may happen there
pub may_happen : (v w : Sight) (b : ℕ) (note : EventNote) (bytes : List ℕ) (x : PairEnds) (opening : Opening) → pair_seen v ≡ x → MakesNew x opening → ((bearer number es er : ℕ) (p : Fields) → note ≡ event.Arrive bearer number → IsFrom b bytes es er p → kind_in bytes ≡ Links → Comes v w bearer es er p)
    → Suits note opening → IsOnOne opening → IsBrought b bytes opening → MayHappen v w opening
may_happen v w b note bytes x rests seen new out suits on brought = tt
may_happen v w b note bytes x (makes bearer mended) seen new out suits on brought = (on, no_end v bearer on (subst (λ (y : PairEnds). (facing bearer y).near ≡ None) (sym seen) new))
may_happen v w b note bytes x (mends bearer) seen new out suits on brought = on
may_happen v w b note bytes x (cuts bearer) seen new out suits on brought = on
may_happen v w b note bytes x (ticks shown) seen new out suits on brought = tt
may_happen v w b note bytes x (hears bearer es er p by shown) seen new out suits on brought = (on, out bearer by es er p suits brought.0 brought.1)

-- no bytes bring nothing
pub nothing_brought : (b es er : ℕ) (p : Fields) → IsFrom b [] es er p → ⊥
nothing_brought b es er p from = (let whole : 0 ≡ length (envelope es er) + length (spelling p) = ap length from.frame_is ∙ length-append (envelope es er) (spelling p) in let head = length-envelope es er in omega (arith, whole, head))

pub nothing_out : (s : Stage) (a : ℕ) (note : EventNote) → ComesOut s a note []
nothing_out s a note bearer number b es er p is from link = absurd (nothing_brought b es er p from)
