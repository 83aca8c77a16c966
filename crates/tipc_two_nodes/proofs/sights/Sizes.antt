-- How many bytes the packets have that a node numbers, and the frames that carry them.
use Rattle.std.specs.Prelude.{All, option_map, slice_get, ◌*◌}
use Rattle.std.proofs.Common.{◌≡◌, ◌≤◌, ◌+◌, ℕ, zero, suc, true, Bool, List, [], ◌∷◌, Some, length, refl, ap, sym, subst, ◌∙◌, arith, length-append}
use Rattle.std.proofs.lemmas.List.Elements.{All-head, All-tail}
use Rattle.tipc_types.specs.declared.link_words.OldSession.{OldSession}
use Rattle.tipc_header.specs.declared.packet.Header.{Header}
use Rattle.tipc_header.specs.declared.packet.Header.TheVariants as header
use Rattle.tipc_header.specs.Frames.{envelope, frame_of}
use Rattle.tipc_header.specs.Grammar.{Fits, RestFits}
use Rattle.tipc_header.specs.Spelling.{Fields, numbers_size, spelling}
use Rattle.tipc_header.specs.Users.{header_size}
use Rattle.tipc_header.proofs.Again.{length-spelling}
use Rattle.tipc_header.proofs.FrameWords.{length-envelope}
use Rattle.tipc_fragments.specs.Cutting.{fragment_fields}
use Rattle.tipc_tunnel.specs.Tunnels.{IsTunnel, Tunnelled, tunnel_packet}
use Rattle.tipc_reassembly.specs.Slots.{Fragment, Group, IsSlot, Slot, slot_bytes}
use Rattle.tipc_link.specs.Links.{is_traffic}
use Rattle.tipc_link.specs.Sessions.{as_waiting, Carries, content_by, content_of}
use Rattle.tipc_two_nodes.specs.links.Packets.{IsCarrier, SpeaksOf, marks, wraps}
use Rattle.tipc_two_nodes.specs.links.Traffic.{Lines}

-- ---- packets

slot_size : (slot : Slot) → IsSlot slot → length (slot_bytes slot) ≤ 1452
slot_size (Group packets) h = h.within
slot_size (Fragment piece) h = let size = length-spelling (fragment_fields piece) in let most = h.most in omega (arith, size, most)

pub slot_at_size : (slots : List Slot) (k : ℕ) (bytes : List ℕ) → All IsSlot slots → option_map slot_bytes (slice_get slots k) ≡ Some bytes → length bytes ≤ 1452
slot_at_size [] k bytes h there = absurd cc
slot_at_size (slot ∷ slots) zero bytes h there = let same : slot_bytes slot ≡ bytes = cc in subst (λ b. length b ≤ 1452) same (slot_size slot (All-head IsSlot slot slots h))
slot_at_size (slot ∷ slots) (suc k) bytes h there = slot_at_size slots k bytes (All-tail IsSlot slot slots h) there

tunnel_size : (t : Tunnelled) → IsTunnel t → length (spelling (tunnel_packet t)) ≤ 1500
tunnel_size t h = let size = length-spelling (tunnel_packet t) in let inner = h.size in omega (arith, size, inner)

speaks_size : (old : OldSession) (line : List (List ℕ)) (packet : List ℕ) (place : ℕ) (full : Bool) → SpeaksOf old line packet place full → length packet ≤ 1500
speaks_size old line packet _ _ (marks kind h is) = subst (λ (bytes : List ℕ). length bytes ≤ 1500) (sym is) (tunnel_size _ h)
speaks_size old line packet _ _ (wraps kind own count place inner some there may is) = subst (λ (bytes : List ℕ). length bytes ≤ 1500) (sym is) (tunnel_size _ (may.made own place))

-- a tunnel packet
pub carrier_size : (bearer : ℕ) (other : Lines) (session place : ℕ) (full : Bool) (packet : List ℕ) → IsCarrier bearer other session place full packet → length packet ≤ 1500
carrier_size bearer other session place full packet c = speaks_size _ _ packet place full c.speaks

-- ---- frames

-- what isn't numbered has a short packet
packet_size : (h : Header) (n sequence : ℕ) (bytes : List ℕ) → RestFits h n → length bytes ≡ 4 * header_size h + numbers_size h + n
    → (is_traffic h ≡ true → (number : ℕ) (b : List ℕ) → content_by h sequence bytes ≡ Carries number b → length b ≤ 1500) → length bytes ≤ 1500
packet_size (header.State s) n sequence bytes rest size carried = omega (arith, size, rest)
packet_size (header.Reset r) n sequence bytes rest size carried = omega (arith, size, rest)
packet_size (header.Activate a) n sequence bytes rest size carried = omega (arith, size, rest)
packet_size (header.Discovery d) n sequence bytes rest size carried = omega (arith, size, rest)
packet_size other n sequence bytes rest size carried = carried refl sequence bytes refl

-- a frame whose packet carries no more than that
pub frame_size : (es er : ℕ) (p : Fields) (frame : List ℕ) → Fits p → frame ≡ frame_of es er (spelling p)
    → (is_traffic p.header ≡ true → (number : ℕ) (bytes : List ℕ) → content_of p ≡ Carries number bytes → length bytes ≤ 1500) → length frame ≤ 1516
unfolding content_of
frame_size es er p frame fits is carried =
    let waiting_size = length-spelling (as_waiting p) in
    let size = length-spelling p in
    let short : length (spelling (as_waiting p)) ≤ 1500 = packet_size p.header (length p.rest) p.sequence (spelling (as_waiting p)) fits.rest waiting_size carried in
    let whole : length frame ≡ length (envelope es er) + length (spelling p) = ap length is ∙ length-append (envelope es er) (spelling p) in
    let head = length-envelope es er in
    omega (arith, waiting_size, size, short, whole, head)
