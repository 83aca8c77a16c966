-- Why a frame is stopped.
use Rattle.std.proofs.Common.{◌≡◌, ◌⊎◌, ℕ, ◌-◌, ◌<◌, ◌≤◌, ◌==◌, ◌&&◌, ◌^◌, nat_le, Bool, true, false, List, Option, Some, None, length, drop, refl, sym, ap, ◌∙◌, subst, arith}
use Rattle.std.specs.Prelude.{if◌then◌else◌, is_some, slice_index_or}
use Rattle.std.proofs.lemmas.Bool.Decides.{nat_tests}
use Rattle.std.proofs.Math.Seq.{drop-append_seam}
use Rattle.tipc_types.specs.Address.{node_word}
use Rattle.tipc_types.specs.declared.link_words.Why.TheVariants as why
use Rattle.tipc_header.specs.declared.fault.HeaderFault.{HeaderFault}
use Rattle.tipc_header.specs.declared.frames.FrameKind.{FrameKind}
use Rattle.tipc_header.specs.declared.frames.FrameKind.TheVariants.{Casts, Links}
use Rattle.tipc_header.specs.declared.packet.Header.{Header}
use Rattle.tipc_header.specs.declared.packet.Header.TheVariants as header
use Rattle.tipc_header.specs.Faults.{fault_of, number_of}
use Rattle.tipc_header.specs.Frames.{envelope, first_of, frame_of, kind_in, kind_of}
use Rattle.tipc_header.specs.Reading.{fields_at, word_at}
use Rattle.tipc_header.specs.Spelling.{Fields}
use Rattle.tipc_header.proofs.FrameWords.{length-envelope}
use Rattle.tipc_node.specs.declared.neighbours.Neighbour.{Neighbour}
use Rattle.tipc_types.specs.Limits.{most_frame_bytes}
use Rattle.tipc_node.specs.Nodes.{end_with, is_frame_size, is_mended_on, is_other, stop_among, stop_by_fault, stop_by_kind, stop_by_sender}
use Rattle.tipc_node.proofs.work.Senders.{previous_at}

abbrev pub IsBadSize : ℕ → Type 0
IsBadSize n = (n < 16) ⊎ (most_frame_bytes < n)

good_size : (n : ℕ) → (IsBadSize n → ⊥) → is_frame_size n ≡ true
good_size n not_bad = grind (arith, nat_tests, not_bad)

-- the packet of a frame stands behind its envelope
packet_in : (first second : ℕ) (packet frame : List ℕ) → frame ≡ frame_of first second packet → drop 16 frame ≡ packet
packet_in first second packet frame is =
    ap (drop 16) is ∙ subst (λ k. drop k (frame_of first second packet) ≡ packet) (length-envelope first second) (drop-append_seam (envelope first second) packet)

-- a frame was opened, on a bearer that is mended
pub record IsOpened (mended : Bool × Bool) (bearer : ℕ) (bytes : List ℕ) (first second : ℕ) (packet : List ℕ) : Type 0 where
  pub open_bearer : is_mended_on mended bearer ≡ true
  pub size : IsBadSize (length bytes) → ⊥
  pub opened : bytes ≡ frame_of first second packet

-- it was, where opening it tells so
pub opened_at : (mended : Bool × Bool) (bearer : ℕ) (bytes : List ℕ) (first second : ℕ) (packet : List ℕ) → is_mended_on mended bearer ≡ true → (IsBadSize (length bytes) → true ≡ false) → bytes ≡ frame_of first second packet
    → IsOpened mended bearer bytes first second packet
opened_at mended bearer bytes first second packet is_mended good is =
    record { open_bearer = is_mended; size = λ bad. (let wrong : true ≡ false = good bad in let no_way : ⊥ = cc in no_way); opened = is }

by_fault : (own : ℕ) (mended : Bool × Bool) (xs : List (Option Neighbour)) (bearer : ℕ) (bytes : List ℕ) (first second : ℕ) (packet : List ℕ) → IsOpened mended bearer bytes first second packet
    → stop_among own mended xs bearer bytes ≡ stop_by_fault own xs bearer bytes (fault_of (drop 16 bytes))
unfolding stop_among
by_fault own mended xs bearer bytes first second packet o = ap (λ b. if b then (if is_frame_size (length bytes) then stop_by_fault own xs bearer bytes (fault_of (drop 16 bytes)) else Some why.Envelope) else Some why.Cut) o.open_bearer
    ∙ ap (λ b. if b then stop_by_fault own xs bearer bytes (fault_of (drop 16 bytes)) else Some why.Envelope) (good_size (length bytes) o.size)

-- the packet has a fault
pub stop_header : (own : ℕ) (mended : Bool × Bool) (xs : List (Option Neighbour)) (bearer : ℕ) (bytes : List ℕ) (first second : ℕ) (packet : List ℕ) (fault : HeaderFault) → IsOpened mended bearer bytes first second packet
    → fault_of packet ≡ Some fault → stop_among own mended xs bearer bytes ≡ Some (why.Header (number_of fault))
stop_header own mended xs bearer bytes first second packet fault o has =
    by_fault own mended xs bearer bytes first second packet o ∙ ap (stop_by_fault own xs bearer bytes) (ap fault_of (packet_in first second packet bytes o.opened) ∙ has)

-- the packet has no fault: by the sender that it names, and by its kind
pub by_sender : (own : ℕ) (mended : Bool × Bool) (xs : List (Option Neighbour)) (bearer : ℕ) (bytes : List ℕ) (first second : ℕ) (packet : List ℕ) (p : Fields) → IsOpened mended bearer bytes first second packet
    → fault_of packet ≡ None → p ≡ fields_at packet → stop_among own mended xs bearer bytes ≡ stop_by_sender own xs bearer p.previous (kind_in bytes) p.header
by_sender own mended xs bearer bytes first second packet p o none read =
    let whole = packet_in first second packet bytes o.opened in
    by_fault own mended xs bearer bytes first second packet o
    ∙ ap (stop_by_fault own xs bearer bytes) (ap fault_of whole ∙ none)
    ∙ ap (λ word. stop_by_sender own xs bearer word (kind_in bytes) (fields_at (drop 16 bytes)).header) (ap (word_at 3) whole ∙ sym (previous_at packet) ∙ ap (λ (q : Fields). q.previous) (sym read))
    ∙ ap (λ (q : Fields). stop_by_sender own xs bearer p.previous (kind_in bytes) q.header) (ap fields_at whole ∙ sym read)

-- it is no other node
pub sender_own : (own : ℕ) (xs : List (Option Neighbour)) (bearer word : ℕ) (kind : FrameKind) (said : Header) → is_other own word ≡ false → stop_by_sender own xs bearer word kind said ≡ Some why.Own
sender_own own xs bearer word kind said self = rw self refl

-- it is another one: by the kind of the packet
pub sender_kind : (own : ℕ) (xs : List (Option Neighbour)) (bearer peer word : ℕ) (kind : FrameKind) (said : Header) → is_other own word ≡ true → word ≡ node_word peer
    → stop_by_sender own xs bearer word kind said ≡ stop_by_kind kind said bearer (slice_index_or xs peer None)
sender_kind own xs bearer peer word kind said other is =
    let number : word - node_word 0 ≡ peer = omega (arith, is) in
    ap (λ b. if b then stop_by_kind kind said bearer (slice_index_or xs (word - node_word 0) None) else Some why.Own) other
    ∙ ap (λ k. stop_by_kind kind said bearer (slice_index_or xs k None)) number

-- the kind of a frame by its packet
pub kind_is : (mended : Bool × Bool) (bearer : ℕ) (bytes : List ℕ) (first second : ℕ) (packet : List ℕ) (p : Fields) → IsOpened mended bearer bytes first second packet → first ≡ first_of bytes → p ≡ fields_at packet
    → kind_in bytes ≡ kind_of first p.header
unfolding kind_in
kind_is mended bearer bytes first second packet p o number read =
    ap (λ k. kind_of k (fields_at (drop 16 bytes)).header) (sym number)
    ∙ ap (λ xs. kind_of first (fields_at xs).header) (packet_in first second packet bytes o.opened) ∙ ap (λ (q : Fields). kind_of first q.header) (sym read)

-- a packet without fault of another node: by its kind
pub looked_at : (own : ℕ) (mended : Bool × Bool) (xs : List (Option Neighbour)) (bearer : ℕ) (bytes : List ℕ) (first second : ℕ) (packet : List ℕ) (peer : ℕ) (p : Fields) → IsOpened mended bearer bytes first second packet
    → fault_of packet ≡ None → p ≡ fields_at packet → first ≡ first_of bytes → is_other own p.previous ≡ true → p.previous ≡ node_word peer
    → stop_among own mended xs bearer bytes ≡ stop_by_kind (kind_of first p.header) p.header bearer (slice_index_or xs peer None)
looked_at own mended xs bearer bytes first second packet peer p o none read number other is =
    by_sender own mended xs bearer bytes first second packet p o none read ∙ sender_kind own xs bearer peer p.previous (kind_in bytes) p.header other is
    ∙ ap (λ kind. stop_by_kind kind p.header bearer (slice_index_or xs peer None)) (kind_is mended bearer bytes first second packet p o number read)

-- a bearer that is mended is one of the two
pub mended_two : (mended : Bool × Bool) (bearer : ℕ) → is_mended_on mended bearer ≡ true → bearer ≤ 1
mended_two mended bearer is = by (bearer == 0) (bearer == 1) refl refl is
  where
    by : (first second : Bool) → (bearer == 0) ≡ first → (bearer == 1) ≡ second → (if first then mended.0 else (second && mended.1)) ≡ true → bearer ≤ 1
    by true second one two on = grind (arith, nat_tests, one)
    by false true one two on = grind (arith, nat_tests, two)
    by false false one two on = cc

-- a peer to which there is a link end is known
pub end_known : (bearer : ℕ) (place : Option Neighbour) → is_some (end_with bearer place) ≡ true → is_some place ≡ true
end_known bearer None there = there
end_known bearer (Some x) there = refl

-- a broadcast packet comes under a boot number
low_number : (first : ℕ) → (if nat_le 4294967296 first then Links else Casts) ≡ Casts → first < 2 ^ 32
low_number first is = by (nat_le 4294967296 first) refl is
  where
    by : (b : Bool) → nat_le 4294967296 first ≡ b → (if b then Links else Casts) ≡ Casts → first < 2 ^ 32
    by true high wrong = absurd cc
    by false low right = grind (arith, nat_tests, low)

pub cast_low : (first : ℕ) (h : Header) → kind_of first h ≡ Casts → first < 2 ^ 32
cast_low first (header.Payload x) is = low_number first is
cast_low first (header.Fragmenter x) is = low_number first is
cast_low first (header.Discovery x) is = absurd cc
cast_low first other is = absurd cc
