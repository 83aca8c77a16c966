-- What the age of a frame is counted by, as the code reads it.
use Rattle.std.proofs.Common.{◌≡◌, ◌<◌, ◌⊎◌, ◌∙◌, ℕ, Bool, true, false, List, Some, None, length, inl, inr, refl, sym, ap, arith}
use Rattle.std.proofs.lemmas.Bool.Decides.{nat_tests}
use Rattle.std.specs.Prelude.{◌&&◌, if◌then◌else◌, drop, nat_le}
use Rattle.tipc_header.specs.declared.fault.HeaderFault.{HeaderFault}
use Rattle.tipc_header.specs.declared.frames.FrameKind.{FrameKind}
use Rattle.tipc_header.specs.Faults.{fault_of}
use Rattle.tipc_header.specs.Frames.{first_of, kind_in, kind_of}
use Rattle.tipc_header.specs.Reading.{fields_at}
use Rattle.tipc_header.specs.Spelling.{Fields}
use Rattle.tipc_node.specs.Nodes.{is_frame_size}
use Rattle.tipc_replay.specs.declared.flying.Aging.TheVariants as aging
use Rattle.tipc_replay.specs.Due.{aging_by_fault, aging_by_kind, aging_of}

unsized : (m : ℕ) → (m < 16) ⊎ (1516 < m) → is_frame_size m ≡ false
unsized m (inl few) = grind (arith, nat_tests, few)
unsized m (inr many) = grind (arith, nat_tests, many)

pub unsized_aging : (bytes : List ℕ) → (length bytes < 16) ⊎ (1516 < length bytes) → aging_of bytes ≡ aging.Never
unfolding aging_of
unsized_aging bytes size = ap (λ b. if b then aging_by_fault bytes (fault_of (drop 16 bytes)) else aging.Never) (unsized (length bytes) size)

pub frame_sized : (m : ℕ) → ((m < 16) ⊎ (1516 < m) → true ≡ false) → is_frame_size m ≡ true
frame_sized m fits = by (nat_le 16 m) refl (nat_le m 1516) refl
  where
    by : (p : Bool) → nat_le 16 m ≡ p → (q : Bool) → nat_le m 1516 ≡ q → (p && q) ≡ true
    by true low true high = refl
    by false low q high = absurd (let few : m < 16 = grind (arith, nat_tests, low) in let wrong : true ≡ false = fits (inl few) in cc)
    by true low false high = absurd (let many : 1516 < m = grind (arith, nat_tests, high) in let wrong : true ≡ false = fits (inr many) in cc)

pub faulty_aging : (bytes : List ℕ) (fault : HeaderFault) → is_frame_size (length bytes) ≡ true → fault_of (drop 16 bytes) ≡ Some fault → aging_of bytes ≡ aging.Never
unfolding aging_of
faulty_aging bytes fault size is = ap (λ b. if b then aging_by_fault bytes (fault_of (drop 16 bytes)) else aging.Never) size ∙ ap (aging_by_fault bytes) is

pub read_aging : (bytes packet : List ℕ) (first : ℕ) (p : Fields) (k : FrameKind) → is_frame_size (length bytes) ≡ true → first ≡ first_of bytes → packet ≡ drop 16 bytes → fault_of packet ≡ None → p ≡ fields_at packet → kind_of first p.header ≡ k
    → aging_of bytes ≡ aging_by_kind bytes k p.header
unfolding aging_of kind_in
read_aging bytes packet first p k size first_is packet_is clear read kind =
    let same : fields_at (drop 16 bytes) ≡ p = ap fields_at (sym packet_is) ∙ sym read in
    let its : kind_of (first_of bytes) (fields_at (drop 16 bytes)).header ≡ k =
    ap (λ n. kind_of n (fields_at (drop 16 bytes)).header) (sym first_is) ∙ ap (λ (q : Fields). kind_of first q.header) same ∙ kind in
    ap (λ b. if b then aging_by_fault bytes (fault_of (drop 16 bytes)) else aging.Never) size ∙ ap (aging_by_fault bytes) (ap fault_of (sym packet_is) ∙ clear)
    ∙ ap (λ j. aging_by_kind bytes j (fields_at (drop 16 bytes)).header) its ∙ ap (λ (q : Fields). aging_by_kind bytes k q.header) same
