-- Packets of payload or name items: how long they are, and that a long one is payload.
use Rattle.std.proofs.Common.{◌≡◌, ℕ, ◌+◌, ◌*◌, ◌<◌, ◌≤◌, true, List, length, refl, sym, ap, subst, ◌∙◌, arith}
use Rattle.tipc_header.specs.declared.packet.Addressing.{Addressing}
use Rattle.tipc_header.specs.declared.packet.Addressing.TheVariants.{Connected, Multicast, Named, Direct}
use Rattle.tipc_header.specs.declared.packet.Header.{Header}
use Rattle.tipc_header.specs.declared.packet.Header.TheVariants as header
use Rattle.tipc_header.specs.Faults.{fault_of}
use Rattle.tipc_header.specs.Grammar.{RestFits}
use Rattle.tipc_header.specs.Reading.{fields_at}
use Rattle.tipc_header.specs.Spelling.{Fields, numbers_size}
use Rattle.tipc_header.specs.Users.{addressing_size, header_size}
use Rattle.tipc_header.proofs.Again.{again, length-spelling, no_fault}
use Rattle.tipc_fragments.specs.Streams.{IsMessage}
use Rattle.tipc_bundle.specs.Bundles.{IsInner, may_stand_inside}
use Rattle.tipc_reassembly.specs.Opening.{is_payload}

addressing-most : (a : Addressing) → addressing_size a ≤ 11
addressing-most Connected = omega arith
addressing-most (Multicast o d k l u) = omega arith
addressing-most (Named o d k i) = omega arith
addressing-most (Direct o d) = omega arith

-- how many bytes a packet has with this header, and so many behind it
abbrev sized : Header → ℕ → ℕ
sized h n = 4 * header_size h + numbers_size h + n

sized-most : (h : Header) (n : ℕ) → may_stand_inside h ≡ true → RestFits h n → sized h n ≤ 66044
sized-most (header.Payload m) n inside fits = omega (arith, addressing-most m.addressing)
sized-most (header.NameDistributor d) n inside fits = omega (arith, fits.1)
sized-most (header.Bundler b) n inside fits = absurd cc
sized-most (header.State s) n inside fits = absurd cc
sized-most (header.Reset r) n inside fits = absurd cc
sized-most (header.Activate r) n inside fits = absurd cc
sized-most (header.Changeover c) n inside fits = absurd cc
sized-most (header.Fragmenter f) n inside fits = absurd cc
sized-most (header.Discovery d) n inside fits = absurd cc

long_payload : (h : Header) (n : ℕ) → may_stand_inside h ≡ true → RestFits h n → 1452 < sized h n → is_payload h ≡ true
long_payload (header.Payload m) n inside fits long = refl
long_payload (header.NameDistributor d) n inside fits long = absurd (omega (arith, fits.1))
long_payload (header.Bundler b) n inside fits long = absurd cc
long_payload (header.State s) n inside fits long = absurd cc
long_payload (header.Reset r) n inside fits long = absurd cc
long_payload (header.Activate r) n inside fits long = absurd cc
long_payload (header.Changeover c) n inside fits long = absurd cc
long_payload (header.Fragmenter f) n inside fits long = absurd cc
long_payload (header.Discovery d) n inside fits long = absurd cc

inner-length : (packet : List ℕ) (is : IsInner packet) → length packet ≡ sized is.packet.header (length is.packet.rest)
inner-length packet is = ap length is.spelled ∙ length-spelling is.packet

-- a message that can be cut or sent as it is
pub inner_message : (packet : List ℕ) → IsInner packet → IsMessage packet
inner_message packet is = record {
  within = subst (λ (n : ℕ). n ≤ 66044) (sym (inner-length packet is)) (sized-most is.packet.header (length is.packet.rest) is.inside is.fits.rest);
  packet = ap fault_of is.spelled ∙ no_fault is.packet is.fits;
}

-- Name items are short, so what is longer than one packet is payload.
pub long_is_payload : (packet : List ℕ) → IsInner packet → 1452 < length packet → is_payload (fields_at packet).header ≡ true
long_is_payload packet is long =
    ap (λ (f : Fields). is_payload f.header) (ap fields_at is.spelled ∙ again is.packet is.fits)
    ∙ long_payload is.packet.header (length is.packet.rest) is.inside is.fits.rest (subst (λ (n : ℕ). 1452 < n) (inner-length packet is) long)
