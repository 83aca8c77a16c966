-- The packet inside a tunnel packet, under its number.
use Rattle.std.proofs.Common.{◌≡◌, ℕ, ◌<◌, ◌^◌, true, false, List, [], ◌∷◌, length, refl, sym, ap, ◌∙◌, arith}
use Rattle.tipc_header.specs.declared.packet.Header.{Header}
use Rattle.tipc_header.specs.declared.packet.Header.TheVariants as header
use Rattle.tipc_header.specs.Users.{is_non_sequenced}
use Rattle.tipc_header.specs.Spelling.{Fields, renumbered, spelling}
use Rattle.tipc_header.specs.Reading.{fields_at}
use Rattle.tipc_header.specs.Grammar.{Fits}
use Rattle.tipc_header.proofs.Again.{again, length-spelling, renumbered-fits}
use Rattle.tipc_header.proofs.RoundTrip.{spelling-least}
use Rattle.tipc_tunnel.specs.Tunnels.{may_stand_in_tunnel, numbered, IsTunnellable, IsNumbered}

-- What may stand inside has a sequence number.
inside-sequenced : (h : Header) → may_stand_in_tunnel h ≡ true → is_non_sequenced h ≡ false
inside-sequenced (header.Payload m) e = refl
inside-sequenced (header.Bundler b) e = refl
inside-sequenced (header.State s) e = absurd cc
inside-sequenced (header.Reset r) e = absurd cc
inside-sequenced (header.Activate a) e = absurd cc
inside-sequenced (header.Changeover c) e = refl
inside-sequenced (header.NameDistributor n) e = refl
inside-sequenced (header.Fragmenter f) e = refl
inside-sequenced (header.Discovery d) e = absurd cc

numbered-some : (number : ℕ) (bytes : List ℕ) → 0 < length bytes → numbered number bytes ≡ spelling (renumbered (fields_at bytes) (fields_at bytes).acknowledgement number)
unfolding numbered
numbered-some number [] some = absurd (omega (arith, some))
numbered-some number (byte ∷ bytes) some = refl

pub numbered-none : (number : ℕ) → numbered number [] ≡ []
unfolding numbered
numbered-none number = refl

pub numbered_empty : (number : ℕ) (bytes : List ℕ) → length bytes ≡ 0 → numbered number bytes ≡ []
unfolding numbered
numbered_empty number [] none = refl
numbered_empty number (byte ∷ bytes) none = absurd (omega (arith, none))

pub numbered-spelling : (p : Fields) (number : ℕ) → Fits p → numbered number (spelling p) ≡ spelling (renumbered p p.acknowledgement number)
numbered-spelling p number fits =
    numbered-some number (spelling p) (omega (arith, spelling-least p)) ∙ ap (λ (q : Fields). spelling (renumbered q q.acknowledgement number)) (again p fits)

pub numbered-inner : (bytes : List ℕ) (number : ℕ) (h : IsTunnellable bytes) → numbered number bytes ≡ spelling (renumbered h.packet h.packet.acknowledgement number)
numbered-inner bytes number h = ap (λ (xs : List ℕ). numbered number xs) h.spelled ∙ numbered-spelling h.packet number h.fits

pub renumbered-inner-fits : (p : Fields) (number : ℕ) → Fits p → may_stand_in_tunnel p.header ≡ true → number < 2 ^ 16 → Fits (renumbered p p.acknowledgement number)
renumbered-inner-fits p number fits inside below =
    renumbered-fits p p.acknowledgement number fits (inside-sequenced p.header inside) fits.acknowledgement below

pub numbered_inside : (bytes : List ℕ) (number : ℕ) → IsTunnellable bytes → number < 2 ^ 16 → IsNumbered number (numbered number bytes)
numbered_inside bytes number h below = record {
  inner = record {
    packet = renumbered h.packet h.packet.acknowledgement number;
    fits = renumbered-inner-fits h.packet number h.fits h.inside below;
    spelled = numbered-inner bytes number h;
    inside = h.inside;
  };
  sequence = refl;
}

pub numbered_same : (bytes : List ℕ) (number : ℕ) → IsNumbered number bytes → numbered number bytes ≡ bytes
numbered_same bytes number h =
    let p = h.inner.packet in
    numbered-inner bytes number h.inner ∙ ap (λ (n : ℕ). spelling (renumbered p p.acknowledgement n)) (sym h.sequence) ∙ sym h.inner.spelled

pub length-numbered : (bytes : List ℕ) (number : ℕ) → IsTunnellable bytes → length (numbered number bytes) ≡ length bytes
length-numbered bytes number h =
    ap length (numbered-inner bytes number h) ∙ length-spelling (renumbered h.packet h.packet.acknowledgement number) ∙ sym (length-spelling h.packet) ∙ ap length (sym h.spelled)

pub numbered_from : (p : Fields) (bytes : List ℕ) (number : ℕ) → Fits p → bytes ≡ spelling p → may_stand_in_tunnel p.header ≡ true → p.sequence ≡ number → IsNumbered number bytes
numbered_from p bytes number fits spelled inside sequence = record { inner = record { packet = p; fits = fits; spelled = spelled; inside = inside }; sequence = sequence }
