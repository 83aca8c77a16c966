-- A packet that shows its sender: it may stand where the packet may, is as long, and is the same packet as it waits.
use Rattle.std.proofs.Common.{◌≡◌, ◌∙◌, ◌+◌, ◌%◌, ◌/◌, ◌≤◌, ◌<◌, ◌^◌, ◌++◌, [], ℕ, List, false, length, refl, sym, ap, inr, take, drop, arith}
use Rattle.tipc_header.specs.declared.packet.Header.{Header}
use Rattle.tipc_header.specs.declared.packet.Header.TheVariants as header
use Rattle.tipc_header.specs.Frames.{sent_as, stamped}
use Rattle.tipc_header.specs.Grammar.{Fits}
use Rattle.tipc_header.specs.Spelling.{Fields, from_bit, spelling, word}
use Rattle.tipc_header.proofs.Again.{again, length-spelling}
use Rattle.tipc_header.proofs.FrameWords.{stamped-spelling}
use Rattle.tipc_link.specs.Records.{is_tunnel}
use Rattle.tipc_link.specs.Sessions.{previous_waiting}
use Rattle.tipc_tunnel.specs.Tunnels.{IsTunnellable, MayBeWrapped, numbered}
use Rattle.tipc_pair.specs.PairArrivals.{restored}
use Rattle.tipc_pair.specs.Runs.{IsListed, as_sent, previous_sent, shown_by}
use Rattle.tipc_pair.proofs.Listed.{listed_inner, listed_size}
use Rattle.tipc_pair.proofs.Restoring.{restored_numbered, restored_spelled}

pub shown_spelled : (own : ℕ) (p : Fields) → Fits p → shown_by own (spelling p) ≡ spelling (as_sent own p)
unfolding shown_by
shown_spelled own p fits = ap (λ (q : Fields). spelling (as_sent own q)) (again p fits)

-- ---- an address is spelled by its 32 bits

word_bits : (n : ℕ) → word (n % 2 ^ 32) ≡ word n
unfolding word
word_bits n =
    let a : n % 2 ^ 32 / 2 ^ 24 % 256 ≡ n / 2 ^ 24 % 256 = omega arith in
    let b : n % 2 ^ 32 / 2 ^ 16 % 256 ≡ n / 2 ^ 16 % 256 = omega arith in
    let c : n % 2 ^ 32 / 2 ^ 8 % 256 ≡ n / 2 ^ 8 % 256 = omega arith in
    let d : n % 2 ^ 32 % 256 ≡ n % 256 = omega arith in
    rw (a, b, c, d) refl

stamped_bits : (acknowledgement sequence previous : ℕ) (packet : List ℕ) → stamped acknowledgement sequence (previous % 2 ^ 32) packet ≡ stamped acknowledgement sequence previous packet
unfolding stamped
stamped_bits acknowledgement sequence previous packet =
    ap (λ xs. take 8 packet ++ ((word (from_bit 16 acknowledgement + sequence) ++ (xs ++ [])) ++ drop 16 packet)) (word_bits previous)

spelled_bits : (acknowledgement sequence previous : ℕ) (p : Fields) → spelling (sent_as acknowledgement sequence (previous % 2 ^ 32) p) ≡ spelling (sent_as acknowledgement sequence previous p)
spelled_bits acknowledgement sequence previous p =
    sym (stamped-spelling p acknowledgement sequence (previous % 2 ^ 32)) ∙ (stamped_bits acknowledgement sequence previous (spelling p) ∙ stamped-spelling p acknowledgement sequence previous)

-- so a packet that shows its sender is spelled as one that fits
abbrev short_sent : ℕ → Fields → Fields
short_sent own p = sent_as p.acknowledgement p.sequence (previous_sent own p.header p.previous % 2 ^ 32) p

short_fits : (own : ℕ) (p : Fields) → Fits p → Fits (short_sent own p)
short_fits own p h = record {
  acknowledgement = h.acknowledgement;
  sequence = h.sequence;
  previous = omega arith;
  header = h.header;
  numbering = h.numbering;
  rest = h.rest;
  size = h.size;
}

short_spelled : (own : ℕ) (p : Fields) → Fits p → shown_by own (spelling p) ≡ spelling (short_sent own p)
short_spelled own p fits = shown_spelled own p fits ∙ sym (spelled_bits p.acknowledgement p.sequence (previous_sent own p.header p.previous) p)

-- ---- what may stand inside

pub shown_inner : (own : ℕ) (packet : List ℕ) → IsTunnellable packet → IsTunnellable (shown_by own packet)
shown_inner own packet h = record {
  packet = short_sent own h.packet;
  fits = short_fits own h.packet h.fits;
  spelled = ap (shown_by own) h.spelled ∙ short_spelled own h.packet h.fits;
  inside = h.inside;
}

pub length-shown : (own : ℕ) (packet : List ℕ) → IsTunnellable packet → length (shown_by own packet) ≡ length packet
length-shown own packet h =
    ap (λ xs. length (shown_by own xs)) h.spelled
    ∙ (ap length (shown_spelled own h.packet h.fits)
    ∙ (length-spelling (as_sent own h.packet) ∙ (sym (length-spelling h.packet) ∙ ap length (sym h.spelled))))

-- what shows its sender may be wrapped where the packet is listed and no tunnel packet
pub shown_may : (own : ℕ) (packet : List ℕ) → IsListed packet → is_tunnel packet ≡ false → MayBeWrapped (shown_by own packet) × (length (shown_by own packet) ≤ 1452)
shown_may own packet listed other =
    let inner = listed_inner packet listed other in
    let size = listed_size packet listed other in
    (inr (shown_inner own packet inner), omega (arith, length-shown own packet inner))

-- ---- as it waits

-- the previous node that a packet shows while it waits is read from what it shows once it was sent
waits_bits : (h : Header) (previous : ℕ) → previous < 2 ^ 32 → (own : ℕ) → previous_waiting h (previous_sent own h previous % 2 ^ 32) ≡ previous_waiting h previous
waits_bits (header.Bundler b) previous small own = refl
waits_bits (header.Changeover c) previous small own = refl
waits_bits (header.Fragmenter f) previous small own = refl
waits_bits other previous small own = omega arith

-- taken as it waits, it is the packet
pub restored_shown : (own : ℕ) (packet : List ℕ) → IsTunnellable packet → restored (shown_by own packet) ≡ restored packet
restored_shown own packet h =
    let p = h.packet in
    ap (λ xs. restored (shown_by own xs)) h.spelled
    ∙ (ap restored (short_spelled own p h.fits)
    ∙ (restored_spelled (short_sent own p) (short_fits own p h.fits)
    ∙ (ap (λ n. spelling (sent_as 0 0 n p)) (waits_bits p.header p.previous h.fits.previous own)
    ∙ (sym (restored_spelled p h.fits) ∙ ap restored (sym h.spelled)))))

-- also under its own number, as it stands inside a tunnel packet
pub restored_inside : (own : ℕ) (packet : List ℕ) (number : ℕ) → IsTunnellable packet → number < 2 ^ 16 → restored (numbered number (shown_by own packet)) ≡ restored packet
restored_inside own packet number h below = restored_numbered (shown_by own packet) number (inr (shown_inner own packet h)) below ∙ restored_shown own packet h
