-- Every frame in the air of a sound world is true.
use Rattle.std.proofs.Common.{length, ◌≡◌, ◌≢◌, ◌≤◌, ◌∙◌, ℕ, true, List, Option, Some, ap, sym, arith}
use Rattle.std.specs.Prelude.{slice_get}
use Rattle.std.proofs.lemmas.Bool.Decides.{nat_tests}
use Rattle.tipc_types.specs.Address.{node_word}
use Rattle.tipc_header.specs.Frames.{is_of_link}
use Rattle.tipc_two_nodes.specs.Truth.{AreTrue}
use Rattle.tipc_two_nodes.proofs.sights.Sights.{frames}
use Rattle.tipc_two_nodes.proofs.sights.Truth.{truths}
use Rattle.tipc_node.specs.Nodes.{is_frame_size}
use Rattle.tipc_node.specs.Turns.{is_to}
use Rattle.tipc_replay.specs.declared.air.Sent.{Sent}
use Rattle.tipc_replay.specs.Addressed.{IsAddressed, IsPacketOf, IsToOther, of_a_link, of_broadcast, of_discovery}
use Rattle.tipc_replay.specs.Air.{as_frame}
use Rattle.tipc_replay.specs.Replayed.{IsTrue}
use Rattle.tipc_replay.specs.Skies.{AirState, air_on}
use Rattle.tipc_replay.specs.Sound.{IsAirborne, IsNumber, IsSound}
use Rattle.tipc_replay.specs.States.{MemberState}
use Rattle.tipc_replay.specs.Views.{sight_at}
use Rattle.tipc_replay.proofs.frames.Reaching.{goes_there, sent_at}

-- a frame's size is 1,516 bytes at most
most : (n : ℕ) → is_frame_size n ≡ true → n ≤ 1516
most n is = grind (arith, nat_tests, is)

-- ---- a frame

-- one of a link is a packet of its sender
said_on : (members : List (Option MemberState)) (air : AirState) (a bearer k : ℕ) (f : Sent) → IsSound members air → slice_get (air_on bearer air) k ≡ Some f → IsNumber a → f.from.word ≡ node_word a → is_of_link f.frame ≡ true → IsToOther a f.to
    → IsPacketOf a f.frame
unfolding sight_at
said_on members air a bearer k f sound there number from link other =
    let b = other.receiver in
    let apart : a ≢ b = λ e. other.apart (sym e) in
    let to_it : is_to b f.to ≡ true = ap (is_to b) other.to_is ∙ grind (arith, nat_tests) in
    let sent = sent_at air a b bearer k f there (goes_there a b f from to_it link) in
    let spoken = frames (sight_at members air a b) (sight_at members air b a) sent.1.0 (as_frame bearer f) (sound.pairs a b number other.number apart) sent.1.1 in
    record {
      es = spoken.es;
      er = spoken.er;
      packet = spoken.packet;
      is_from = record { es_fits = spoken.es_fits; er_fits = spoken.er_fits; fits = spoken.fits; frame_is = spoken.bytes; previous = spoken.previous };
    }

pub frame_is_true : (members : List (Option MemberState)) (air : AirState) → IsSound members air → (bearer k : ℕ) (f : Sent) → slice_get (air_on bearer air) k ≡ Some f → IsTrue f
frame_is_true members air sound bearer k f there = record {
  a = flown.from;
  number = flown.from_number;
  from_is = flown.from_is;
  addressed = flown.addressed;
  size = most (length f.frame) flown.size;
  said = by flown.addressed;
}
  where
    flown : IsAirborne f
    flown = sound.frames bearer k f there

    by : IsAddressed flown.from f.frame f.to → IsPacketOf flown.from f.frame
    by (of_a_link link other) = said_on members air flown.from bearer k f sound there flown.from_number flown.from_is link other
    by (of_discovery packet kind low receivers) = packet
    by (of_broadcast packet kind all) = packet

-- what is said in the air between two nodes is so
pub truth_is : (members : List (Option MemberState)) (air : AirState) → IsSound members air → (a b : ℕ) → IsNumber a → IsNumber b → a ≢ b → AreTrue (sight_at members air a b) (sight_at members air b a)
truth_is members air sound a b a_is b_is apart = truths (sight_at members air a b) (sight_at members air b a) (sound.pairs a b a_is b_is apart)
