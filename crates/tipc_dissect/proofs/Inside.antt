-- What a tunnel packet carries: nothing, a packet under its number, or bytes that aren't one.
use Rattle.std.proofs.Common.{◌≡◌, ℕ, Bool, true, false, Option, Some, None, List, [], ◌∷◌, ◌++◌, ◌⊎◌, inl, inr, length, Result, Err, refl, sym, ap, ◌∙◌}
use Rattle.std.specs.Prelude.{if◌then◌else◌, ◌≢◌, is_none, codes}
use Rattle.std.specs.Fmt.{decimal}
use Rattle.std.proofs.lemmas.Bool.{and_parts, and_from, eq-eqb, eqb-true, false_from_ne_true}
use Rattle.tipc_header.specs.declared.fault.HeaderFault.{HeaderFault}
use Rattle.tipc_header.specs.Faults.{fault_of}
use Rattle.tipc_header.specs.Reading.{fields_at}
use Rattle.tipc_header.specs.Spelling.{Fields}
use Rattle.tipc_header.proofs.Words.{IsBytes}
use Rattle.tipc_header.proofs.Again.{again, no_fault}
use Rattle.tipc_header.proofs.Takes.{takes}
use Rattle.tipc_tunnel.specs.Tunnels.{Carries, IsNumbered, Tunnelled, inner_number, may_stand_in_tunnel}
use Rattle.tipc_tunnel.specs.declared.unwrapping.Tunnel.{Tunnel}
use Rattle.tipc_tunnel.specs.declared.unwrapping.TunnelFault.{TunnelFault}
use Rattle.tipc_tunnel.specs.declared.unwrapping.TunnelFault.TheVariants.{NotTunnel, BadInner}
use Rattle.tipc_tunnel.proofs.InnerLaws.{numbered_from}
use Rattle.tipc_dissect.specs.Lines.{bytes_text, shown_line}
use Rattle.tipc_dissect.specs.Packets.{carried_text, inner, inner_text, is_inner_packet, outer, packet_text}

none_is : (o : Option HeaderFault) → is_none o ≡ true → o ≡ None
none_is None e = refl
none_is (Some f) e = absurd (cc e)

-- what the test of an inner packet says of bytes that pass it
pub record IsTested (number : ℕ) (bytes : List ℕ) : Type 0 where
  pub clear : fault_of bytes ≡ None
  pub inside : may_stand_in_tunnel (fields_at bytes).header ≡ true
  pub sequence : (fields_at bytes).sequence ≡ number

pub tested : (number : ℕ) (bytes : List ℕ) → is_inner_packet number bytes ≡ true → IsTested number bytes
unfolding is_inner_packet
tested number bytes e =
    let all = and_parts _ _ e in
    let front = and_parts _ _ all.0 in
    record { clear = none_is (fault_of bytes) front.0; inside = front.1; sequence = eqb-true _ _ all.1 }

-- the test is passed by what may stand inside under this number
pub passes : (number : ℕ) (bytes : List ℕ) → IsNumbered number bytes → is_inner_packet number bytes ≡ true
unfolding is_inner_packet
passes number bytes h =
    let p = h.inner.packet in
    let clear : fault_of bytes ≡ None = ap fault_of h.inner.spelled ∙ no_fault p h.inner.fits in
    let read : fields_at bytes ≡ p = ap fields_at h.inner.spelled ∙ again p h.inner.fits in
    and_from _ _ (and_from _ _ (ap is_none clear) (ap (λ (q : Fields). may_stand_in_tunnel q.header) read ∙ h.inner.inside))
    (eq-eqb _ _ (ap (λ (q : Fields). q.sequence) read ∙ h.sequence))

-- and by nothing else
pub passes_only : (number : ℕ) (bytes : List ℕ) → IsBytes bytes → is_inner_packet number bytes ≡ true → IsNumbered number bytes
passes_only number bytes are e =
    let t = tested number bytes e in
    let read = takes bytes are t.clear in
    numbered_from (fields_at bytes) bytes number read.fits read.spelled t.inside t.sequence

-- ---- the lines of what is carried

-- the lines of some bytes, by the answer of the test
abbrev pub lines_by : Bool → List ℕ → List ℕ
lines_by true bytes = inner_text bytes
lines_by false bytes = shown_line outer (codes "inner bad") (bytes_text bytes)

pub carried_by : (number byte : ℕ) (bytes : List ℕ) → carried_text number (byte ∷ bytes) ≡ lines_by (is_inner_packet number (byte ∷ bytes)) (byte ∷ bytes)
carried_by number byte bytes = either (is_inner_packet number (byte ∷ bytes))
  where
    either : (b : Bool) → (if b then lines_by true (byte ∷ bytes) else lines_by false (byte ∷ bytes)) ≡ lines_by b (byte ∷ bytes)
    either true = refl
    either false = refl

carried_as : (number : ℕ) (rest : List ℕ) (answer : Bool) → rest ≢ [] → is_inner_packet number rest ≡ answer → carried_text number rest ≡ lines_by answer rest
carried_as number [] answer some e = absurd (some refl)
carried_as number (byte ∷ bytes) answer some e = carried_by number byte bytes ∙ ap (λ (b : Bool). lines_by b (byte ∷ bytes)) e

pub carried_bad : (number : ℕ) (rest : List ℕ) → IsBytes rest → rest ≢ [] → (IsNumbered number rest → ⊥) → carried_text number rest ≡ shown_line outer (codes "inner bad") (bytes_text rest)
carried_bad number rest are some other = carried_as number rest false some (false_from_ne_true _ (λ e. other (passes_only number rest are e)))

is_inside : (t : Tunnelled) → t.inner ≢ [] → (t.inner ≡ []) ⊎ IsNumbered t.number t.inner → IsNumbered t.number t.inner
is_inside t some (inl none) = absurd (some none)
is_inside t some (inr is) = is

number_told : (p : Fields) (t : Tunnelled) (c : Carries p t) → inner_number p.header ≡ t.number
number_told p t c = ap inner_number c.header

-- what a packet carries that was unwrapped, and whose inner packet was decoded
pub carried_packet : (p : Fields) (t : Tunnelled) (rest : List ℕ) (q : Fields) (size : ℕ) → Carries p t → rest ≡ p.rest → t.inner ≢ [] → q ≡ fields_at t.inner → size ≡ length t.inner
    → carried_text (inner_number p.header) rest ≡ shown_line outer (codes "inner") (decimal size) ++ packet_text inner q
carried_packet p t rest q size c same some read long =
    ap (λ (n : ℕ). carried_text n rest) (number_told p t c)
    ∙ ap (carried_text t.number) (same ∙ c.rest)
    ∙ carried_as t.number t.inner true some (passes t.number t.inner (is_inside t some c.inner))
    ∙ ap (λ (n : ℕ). shown_line outer (codes "inner") (decimal n) ++ packet_text inner (fields_at t.inner)) (sym long)
    ∙ ap (λ (r : Fields). shown_line outer (codes "inner") (decimal size) ++ packet_text inner r) (sym read)

-- ---- for the code

true_or_false : true ≡ false → ⊥
true_or_false e = cc e

pub not_both : (b : Bool) → b ≡ true → b ≡ false → ⊥
not_both b t f = true_or_false (sym t ∙ f)

-- a packet of changeover that isn't unwrapped carries bytes that aren't an inner packet
pub bad_inner : (r : Result Tunnel TunnelFault) (f : TunnelFault) → r ≡ Err f → (r ≡ Err NotTunnel → ⊥) → r ≡ Err BadInner
bad_inner r NotTunnel is tunnel = absurd (tunnel is)
bad_inner r BadInner is tunnel = is
