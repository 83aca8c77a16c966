-- The packets that can be put on a link: a message's own, bundles and fragments; and so all that waits after a message was put.
use Rattle.std.specs.Prelude.{All}
use Rattle.std.proofs.Common.{[], ◌++◌, ◌-◌, ◌<◌, ◌∙◌, ◌∷◌, ◌≡◌, ◌≤◌, Bool, List, ap, arith, false, if◌then◌else◌, length, length-append, map, nat_le, refl, subst, suc, sym, take, true, zero, ℕ}
use Rattle.std.proofs.lemmas.Bool.Decides.{nat_tests}
use Rattle.std.proofs.lemmas.List.{length-map}
use Rattle.std.proofs.lemmas.List.Elements.{All-append, All-tail}
use Rattle.tipc_header.specs.Frames.{sent_as}
use Rattle.tipc_header.specs.Grammar.{Fits, NumberingFits}
use Rattle.tipc_header.specs.Spelling.{Fields, spelling}
use Rattle.tipc_header.specs.declared.packet.Header.{Header}
use Rattle.tipc_header.specs.declared.packet.Header.TheVariants as header
use Rattle.tipc_fragments.specs.Cutting.{Piece, fragment_fields, packets_of, pieces_of}
use Rattle.tipc_fragments.specs.Streams.{Single, items_of}
use Rattle.tipc_fragments.proofs.CutLaws.{length-pieces_of, sent_fits}
use Rattle.tipc_bundle.specs.Bundles.{IsInner, bundle_of, joined, may_stand_inside}
use Rattle.tipc_bundle.proofs.Bundling.{joined_several, several_fit}
use Rattle.tipc_bundle.proofs.InnerLaws.{inner-most}
use Rattle.tipc_reassembly.specs.Slots.{IsCut}
use Rattle.tipc_link.specs.Sessions.{Carries, IsPut, SessionEnd, as_waiting, content_by, content_of, joins, previous_waiting, waits}
use Rattle.tipc_link.proofs.LinkLaw.{Each, Each-append, Each-one}
use Rattle.tipc_pair.specs.Messages.{IsMessage, pieces_for}
use Rattle.tipc_pair.proofs.Pieces.{All-one, pieces_cut}
use Rattle.tipc_paired.specs.Paired.{IsPacket}
use Rattle.tipc_paired.proofs.wires.Fronts.{each_front}

-- ---- a packet that can be put on a link

-- a packet that has a number
abbrev is_numbered : Header → Bool
is_numbered (header.State s) = false
is_numbered (header.Reset r) = false
is_numbered (header.Activate a) = false
is_numbered (header.Discovery d) = false
is_numbered other = true

numbered_carries : (h : Header) (number : ℕ) (bytes : List ℕ) → is_numbered h ≡ true → content_by h number bytes ≡ Carries number bytes
numbered_carries (header.State s) number bytes is = absurd (let wrong : ⊥ = cc in wrong)
numbered_carries (header.Reset r) number bytes is = absurd (let wrong : ⊥ = cc in wrong)
numbered_carries (header.Activate a) number bytes is = absurd (let wrong : ⊥ = cc in wrong)
numbered_carries (header.Discovery d) number bytes is = absurd (let wrong : ⊥ = cc in wrong)
numbered_carries other number bytes is = refl

numbered_freely : (h : Header) (acknowledgement sequence : ℕ) → is_numbered h ≡ true → NumberingFits h acknowledgement sequence
numbered_freely (header.State s) acknowledgement sequence is = absurd (let wrong : ⊥ = cc in wrong)
numbered_freely (header.Reset r) acknowledgement sequence is = absurd (let wrong : ⊥ = cc in wrong)
numbered_freely (header.Activate a) acknowledgement sequence is = absurd (let wrong : ⊥ = cc in wrong)
numbered_freely (header.Discovery d) acknowledgement sequence is = absurd (let wrong : ⊥ = cc in wrong)
numbered_freely other acknowledgement sequence is = tt

numbered_content : (own : ℕ) (p : Fields) (acknowledgement number : ℕ) → is_numbered p.header ≡ true → p ≡ as_waiting (sent_as 0 0 own p) → content_of (sent_as acknowledgement number own p) ≡ Carries number (spelling p)
unfolding content_of
numbered_content own p acknowledgement number is waiting =
    numbered_carries p.header number (spelling (as_waiting (sent_as 0 0 own p))) is ∙ ap (λ (q : Fields). Carries number (spelling q)) (sym waiting)

can_be_put : (own : ℕ) (bytes : List ℕ) (p : Fields) → bytes ≡ spelling p → Fits p → p ≡ as_waiting (sent_as 0 0 own p) → is_numbered p.header ≡ true → IsPacket own bytes
can_be_put own bytes p spelled f waiting is = record {
  packet = p;
  spelled = spelled;
  fits = λ acknowledgement number a n m. record { acknowledgement = a; sequence = n; previous = m; header = f.header; numbering = numbered_freely p.header acknowledgement number is; rest = f.rest; size = f.size };
  carried = λ acknowledgement number. numbered_content own p acknowledgement number is waiting ∙ ap (Carries number) (sym spelled);
}

inside_numbered : (h : Header) → may_stand_inside h ≡ true → is_numbered h ≡ true
inside_numbered (header.State s) is = absurd (let wrong : ⊥ = cc in wrong)
inside_numbered (header.Reset r) is = absurd (let wrong : ⊥ = cc in wrong)
inside_numbered (header.Activate a) is = absurd (let wrong : ⊥ = cc in wrong)
inside_numbered (header.Discovery d) is = absurd (let wrong : ⊥ = cc in wrong)
inside_numbered other is = refl

-- a message names its node while it waits
inside_names : (h : Header) (own : ℕ) → may_stand_inside h ≡ true → previous_waiting h own ≡ own
inside_names (header.Payload m) own is = refl
inside_names (header.NameDistributor n) own is = refl
inside_names (header.Bundler b) own is = absurd (let wrong : ⊥ = cc in wrong)
inside_names (header.State s) own is = absurd (let wrong : ⊥ = cc in wrong)
inside_names (header.Reset r) own is = absurd (let wrong : ⊥ = cc in wrong)
inside_names (header.Activate a) own is = absurd (let wrong : ⊥ = cc in wrong)
inside_names (header.Changeover c) own is = absurd (let wrong : ⊥ = cc in wrong)
inside_names (header.Fragmenter f) own is = absurd (let wrong : ⊥ = cc in wrong)
inside_names (header.Discovery d) own is = absurd (let wrong : ⊥ = cc in wrong)

-- a message's own packet can be put on a link
message_packet : (own : ℕ) (m : List ℕ) → IsMessage own m → IsPacket own m
message_packet own m h =
    can_be_put own m h.packet h.spelled h.fits (h.waits ∙ ap (λ n. sent_as 0 0 n h.packet) (sym (inside_names h.packet.header own h.inside))) (inside_numbered h.packet.header h.inside)

-- a message may stand inside a bundle
pub message_inner : (own : ℕ) (m : List ℕ) → IsMessage own m → IsInner m
message_inner own m h = record { packet = h.packet; fits = h.fits; spelled = h.spelled; inside = h.inside }

bundle_packet : (own : ℕ) (packets : List (List ℕ)) → All IsInner packets → 2 ≤ length packets → length (joined packets) ≤ 1452 → IsPacket own (joined packets)
bundle_packet own packets inner several short = can_be_put own (joined packets) (bundle_of packets) (joined_several packets several) (several_fit packets inner several (omega arith)) refl refl

fragment_packet : (own : ℕ) (piece : Piece) → IsCut piece → IsPacket own (spelling (fragment_fields piece))
fragment_packet own piece h = can_be_put own (spelling (fragment_fields piece)) (fragment_fields piece) refl (sent_fits piece 0 0 0 h.first h.number h.some h.most (omega arith) (omega arith) (omega arith)) refl refl

each_cut : (own : ℕ) (pieces : List Piece) → All IsCut pieces → Each (IsPacket own) (map (λ p. spelling (fragment_fields p)) pieces)
each_cut own [] h k bytes is = absurd (let none : ⊥ = cc in none)
each_cut own (p ∷ pieces) h zero bytes is = let same : spelling (fragment_fields p) ≡ bytes = cc in subst (IsPacket own) same (fragment_packet own p (h 0 p (omega arith)))
each_cut own (p ∷ pieces) h (suc k) bytes is = each_cut own pieces (All-tail IsCut p pieces h) k bytes is

-- each packet of a message can be put on a link
pieces_packets : (own : ℕ) (m : List ℕ) → IsMessage own m → Each (IsPacket own) (pieces_for m)
unfolding pieces_for
pieces_packets own m h =
    elim (nat_le (length m) 1452) as (λ b. Each (IsPacket own) (if b then m ∷ [] else packets_of m)) [
      | true ↦ Each-one (IsPacket own) m (message_packet own m h)
      | false ↦ each_cut own (pieces_of m) (pieces_cut m (inner-most m (message_inner own m h)))
    ]

-- what waits behind other packets joined them
joined_packet : (own : ℕ) (packets : List (List ℕ)) (m : List ℕ) → 0 < length packets → All IsInner packets → IsMessage own m → length (joined (packets ++ m ∷ [])) ≤ 1452 → IsPacket own (joined (packets ++ m ∷ []))
joined_packet own packets m some inner h short =
    bundle_packet own (packets ++ m ∷ []) (All-append IsInner packets (m ∷ []) inner (All-one IsInner m (message_inner own m h))) (omega (arith, length-append packets (m ∷ []), some)) short

-- ---- what waits

-- a message in one packet is that packet
pub one_piece : (m packet : List ℕ) → pieces_for m ≡ packet ∷ [] → (m ≡ packet) × (items_of m ≡ Single m ∷ [])
unfolding pieces_for
one_piece m packet is =
    elim (nat_le (length m) 1452) as (λ b. nat_le (length m) 1452 ≡ b → (if b then m ∷ [] else packets_of m) ≡ packet ∷ [] → (m ≡ packet) × (items_of m ≡ Single m ∷ [])) [
      | true ↦ λ short same. (let one : m ≡ packet = cc in (one, rw short refl))
      | false ↦ λ long same. absurd (
          let many : length (packets_of m) ≡ 1 = ap (λ (xs : List (List ℕ)). length xs) same in
          let count = length-map (pieces_of m) (λ (p : Piece). spelling (fragment_fields p)) in
          let pieces = length-pieces_of m in
          let over : 1452 < length m = grind (arith, nat_tests, long) in
          omega arith)
    ] refl is

-- what waits then can be sent
pub more_packets : (own : ℕ) (m : List ℕ) (s s' : SessionEnd) (pieces : List (List ℕ)) → pieces ≡ pieces_for m → IsPut s pieces s' → Each (IsPacket own) s.sending.waiting → IsMessage own m → Each (IsPacket own) s'.sending.waiting
more_packets own m s _ _ is (joins packets packet may) before message =
    let one = one_piece m packet (sym is) in
    Each-append (IsPacket own) (take (length s.sending.waiting - 1) s.sending.waiting) (joined (packets ++ packet ∷ []) ∷ []) (each_front (length s.sending.waiting - 1) s.sending.waiting before)
    (Each-one (IsPacket own) (joined (packets ++ packet ∷ [])) (subst (λ p. IsPacket own (joined (packets ++ p ∷ []))) one.0 (joined_packet own packets m may.last.some may.last.inner message (subst (λ p. length (joined (packets ++ p ∷ [])) ≤ 1452) (sym one.0) may.fits))))
more_packets own m s _ _ is (waits pieces apart) before message =
    Each-append (IsPacket own) s.sending.waiting pieces before (subst (Each (IsPacket own)) (sym is) (pieces_packets own m message))
