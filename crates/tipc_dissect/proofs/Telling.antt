-- What the first line of a frame's text tells.
use Rattle.std.proofs.Common.{◌≡◌, ℕ, ◌^◌, ◌<◌, ◌≤◌, Option, Some, None, List, ◌++◌, length, get_or, drop, refl, sym, ap, ◌∙◌, append_assoc, arith, inl, inr}
use Rattle.std.specs.Prelude.{if◌then◌else◌, ◌==◌, codes, ◌↔◌}
use Rattle.std.specs.Fmt.{decimal}
use Rattle.std.proofs.lemmas.Bool.{cases_lt, lt-ltb, le-ltb}
use Rattle.std.proofs.lemmas.Fmt.{decimal_injective}
use Rattle.std.proofs.lemmas.List.{append_cancel_left}
use Rattle.tipc_header.specs.declared.fault.HeaderFault.{HeaderFault}
use Rattle.tipc_header.specs.declared.fault.HeaderFault.TheVariants.{Short, Version, HeaderSize, Size, User, «Type», Reserved}
use Rattle.tipc_header.specs.Faults.{fault_of, number_of}
use Rattle.tipc_dissect.specs.Frames.{envelope_line, fault_line, frame_text, IsDecodable, text, text_by}
use Rattle.tipc_dissect.proofs.Cutting.{cut_at, decimal_above}
use Rattle.tipc_dissect.proofs.Whole.{frame_tells}

text_short : (line : ℕ) (frame : List ℕ) → length frame < 16 → text line frame ≡ envelope_line line
unfolding text
text_short line frame short = rw (lt-ltb _ _ short) refl

text_long : (line : ℕ) (frame : List ℕ) → 16 ≤ length frame → text line frame ≡ text_by (fault_of (drop 16 frame)) line frame
unfolding text
text_long line frame long = rw (le-ltb _ _ long) refl

text_whole : (line : ℕ) (frame : List ℕ) → IsDecodable frame → text line frame ≡ frame_text line frame
text_whole line frame w = text_long line frame w.enveloped ∙ ap (λ (o : Option HeaderFault). text_by o line frame) w.packet

pub text_tells : (m n : ℕ) (f g : List ℕ) → m < 2 ^ 64 → n < 2 ^ 64 → IsDecodable f → IsDecodable g → text m f ≡ text n g → (m ≡ n) × (f ≡ g)
text_tells m n f g m_wide n_wide w v e = frame_tells m n f g m_wide n_wide w v (sym (text_whole m f w) ∙ e ∙ text_whole n g v)

-- ---- the first line: `envelope`, `fault` and `frame` differ in their first letter or their second

letter_behind : (line i : ℕ) (xs ys : List ℕ) → decimal line ++ xs ≡ decimal line ++ ys → get_or xs i 0 ≡ get_or ys i 0
letter_behind line i xs ys e = ap (λ (l : List ℕ). get_or l i 0) (append_cancel_left (decimal line) xs ys e)

frame_begins : (line : ℕ) (frame : List ℕ) → (more : List ℕ) × (frame_text line frame ≡ decimal line ++ (codes " fr" ++ more))
frame_begins line frame = (_, append_assoc (decimal line) _ _)

fault_or_envelope : (line : ℕ) (f : HeaderFault) → envelope_line line ≡ fault_line line f → ⊥
fault_or_envelope line f e = omega (arith, letter_behind line 1 _ _ e)

frame_or_fault : (line : ℕ) (frame : List ℕ) (f : HeaderFault) → frame_text line frame ≡ fault_line line f → ⊥
frame_or_fault line frame f e = omega (arith, letter_behind line 2 _ _ (sym (frame_begins line frame).1 ∙ e))

frame_or_envelope : (line : ℕ) (frame : List ℕ) → frame_text line frame ≡ envelope_line line → ⊥
frame_or_envelope line frame e = omega (arith, letter_behind line 1 _ _ (sym (frame_begins line frame).1 ∙ e))

-- ---- a fault's number tells it

fault_numbered : ℕ → HeaderFault
fault_numbered n = if n == 1 then Short else (if n == 2 then Version else (if n == 3 then HeaderSize else (if n == 4 then Size else (if n == 5 then User else (if n == 6 then «Type» else Reserved)))))

fault_back : (f : HeaderFault) → fault_numbered (number_of f) ≡ f
unfolding fault_numbered
fault_back Short = refl
fault_back Version = refl
fault_back HeaderSize = refl
fault_back Size = refl
fault_back User = refl
fault_back «Type» = refl
fault_back Reserved = refl

number_small : (f : HeaderFault) → number_of f < 8
number_small Short = omega arith
number_small Version = omega arith
number_small HeaderSize = omega arith
number_small Size = omega arith
number_small User = omega arith
number_small «Type» = omega arith
number_small Reserved = omega arith

fault_tells : (line : ℕ) (e f : HeaderFault) → fault_line line e ≡ fault_line line f → e ≡ f
fault_tells line e f told =
    let e_small = number_small e in
    let f_small = number_small f in
    let numbers = cut_at 32 (decimal (number_of e)) (decimal (number_of f)) _ _ (decimal_above 32 _ (omega arith) (omega (arith, e_small))) (decimal_above 32 _ (omega arith) (omega (arith, f_small)))
    (ap (drop 7) (append_cancel_left (decimal line) _ _ told)) in
    sym (fault_back e) ∙ ap fault_numbered (decimal_injective _ _ (omega (arith, e_small)) (omega (arith, f_small)) numbers.0) ∙ fault_back f

fault_from : (o : Option HeaderFault) (line : ℕ) (frame : List ℕ) (f : HeaderFault) → text_by o line frame ≡ fault_line line f → o ≡ Some f
fault_from None line frame f e = absurd (frame_or_fault line frame f e)
fault_from (Some g) line frame f e = ap Some (fault_tells line g f e)

no_envelope : (o : Option HeaderFault) (line : ℕ) (frame : List ℕ) → text_by o line frame ≡ envelope_line line → ⊥
no_envelope None line frame e = frame_or_envelope line frame e
no_envelope (Some g) line frame e = fault_or_envelope line g (sym e)

pub fault_is_told : (line : ℕ) (frame : List ℕ) (f : HeaderFault) → (text line frame ≡ fault_line line f) ↔ ((16 ≤ length frame) × (fault_of (drop 16 frame) ≡ Some f))
fault_is_told line frame f = (
  λ e. elim (cases_lt (length frame) 16) [
    | inl short ↦ absurd (fault_or_envelope line f (sym (text_short line frame short) ∙ e))
    | inr long ↦ (long, fault_from (fault_of (drop 16 frame)) line frame f (sym (text_long line frame long) ∙ e))
  ],
  λ h. text_long line frame h.0 ∙ ap (λ (o : Option HeaderFault). text_by o line frame) h.1,
)

pub envelope_is_told : (line : ℕ) (frame : List ℕ) → (text line frame ≡ envelope_line line) ↔ (length frame < 16)
envelope_is_told line frame = (
  λ e. elim (cases_lt (length frame) 16) [
    | inl short ↦ short
    | inr long ↦ absurd (no_envelope (fault_of (drop 16 frame)) line frame (sym (text_long line frame long) ∙ e))
  ],
  λ short. text_short line frame short,
)
