-- What one packet brings, by its header.
use Rattle.std.proofs.Common.{◌≡◌, ◌⊎◌, inl, inr, ℕ, ◌∷◌, [], true, false, List, Result, Ok, Err, IfOk, refl, sym, ap, subst, ◌∙◌}
use Rattle.tipc_header.specs.declared.packet.Bundle.{Bundle}
use Rattle.tipc_header.specs.declared.packet.Fragment.{Fragment}
use Rattle.tipc_header.specs.declared.packet.Header.{Header}
use Rattle.tipc_header.specs.declared.packet.Header.TheVariants as header
use Rattle.tipc_header.specs.declared.packet.NameDistribution.{NameDistribution}
use Rattle.tipc_header.specs.declared.packet.Payload.{Payload}
use Rattle.tipc_header.specs.Grammar.{Fits}
use Rattle.tipc_header.specs.Spelling.{Fields, spelling}
use Rattle.tipc_header.proofs.RoundTrip.{one_packet}
use Rattle.tipc_fragments.specs.Cutting.{Piece, piece_of}
use Rattle.tipc_fragments.specs.Joining.{after, answer_of, Joining}
use Rattle.tipc_bundle.specs.Bundles.{IsInner, may_stand_inside}
use Rattle.tipc_bundle.specs.Splitting.{IsBundle}
use Rattle.tipc_reassembly.specs.declared.opening.Opened.{Opened}
use Rattle.tipc_reassembly.specs.declared.opening.Opened.TheVariants.{Passed}
use Rattle.tipc_reassembly.specs.Opening.{Brings, brought_by, fragment, IsFragment, joined_members, message, other}

-- ---- Bytes spell one packet.

-- This packet is spelled by the bytes, and has this header.
pub record Spells (bytes : List ℕ) (h : Header) : Type 0 where
  pub packet : Fields
  pub fits : Fits packet
  pub spelled : bytes ≡ spelling packet
  pub header_is : packet.header ≡ h

pub same_header : (bytes : List ℕ) (g h : Header) → Spells bytes g → Spells bytes h → g ≡ h
same_header bytes g h one two =
    sym one.header_is ∙ ap (λ (p : Fields). p.header) (one_packet one.packet two.packet one.fits two.fits (sym one.spelled ∙ two.spelled)) ∙ two.header_is

pub inner_spells : (bytes : List ℕ) → (is : IsInner bytes) → Spells bytes is.packet.header
inner_spells bytes is = record { packet = is.packet; fits = is.fits; spelled = is.spelled; header_is = refl }

pub bundle_spells : (bytes : List ℕ) → (is : IsBundle bytes) → Spells bytes (header.Bundler is.bundle)
bundle_spells bytes is = record { packet = is.packet; fits = is.fits; spelled = is.spelled; header_is = is.user }

pub fragment_spells : (bytes : List ℕ) (piece : Piece) → (is : IsFragment bytes piece) → Spells bytes (header.Fragmenter is.fragment)
fragment_spells bytes piece is = record { packet = is.packet; fits = is.fits; spelled = is.spelled; header_is = is.user }

-- A packet of payload or name items is neither a bundle nor a fragment.
pub inner_no_bundle : (bytes : List ℕ) → IsInner bytes → IsBundle bytes → ⊥
inner_no_bundle bytes inner bundled =
    let same : inner.packet.header ≡ header.Bundler bundled.bundle = same_header bytes _ _ (inner_spells bytes inner) (bundle_spells bytes bundled) in
    let no : false ≡ true = sym (ap may_stand_inside same) ∙ inner.inside in
    absurd cc

pub inner_no_fragment : (bytes : List ℕ) (piece : Piece) → IsInner bytes → IsFragment bytes piece → ⊥
inner_no_fragment bytes piece inner cut =
    let same : inner.packet.header ≡ header.Fragmenter cut.fragment = same_header bytes _ _ (inner_spells bytes inner) (fragment_spells bytes piece cut) in
    let no : false ≡ true = sym (ap may_stand_inside same) ∙ inner.inside in
    absurd cc

pub bundle_no_fragment : (bytes : List ℕ) (piece : Piece) → IsBundle bytes → IsFragment bytes piece → ⊥
bundle_no_fragment bytes piece bundled cut =
    let same : header.Bundler bundled.bundle ≡ header.Fragmenter cut.fragment = same_header bytes _ _ (bundle_spells bytes bundled) (fragment_spells bytes piece cut) in
    absurd cc

-- A fragment's packet says one thing.
pub one_piece : (bytes : List ℕ) (p q : Piece) → IsFragment bytes p → IsFragment bytes q → p ≡ q
one_piece bytes p q one two =
    let packet : one.packet ≡ two.packet = one_packet one.packet two.packet one.fits two.fits (sym one.spelled ∙ two.spelled) in
    let header : header.Fragmenter one.fragment ≡ header.Fragmenter two.fragment = sym one.user ∙ ap (λ (f : Fields). f.header) packet ∙ two.user in
    let fragment : one.fragment ≡ two.fragment = cc in
    one.piece_is
    ∙ ap (λ (f : Fragment). piece_of f.fragment_type f.number one.packet.rest) fragment
    ∙ ap (λ (f : Fields). piece_of two.fragment.fragment_type two.fragment.number f.rest) packet
    ∙ sym two.piece_is

-- ---- payload and name items

pub message_brings : (s : Joining) (bytes : List ℕ) (by : ℕ) (p : Fields) → Fits p → bytes ≡ spelling p
    → ((m : Payload) × (p.header ≡ header.Payload m)) ⊎ ((n : NameDistribution) × (p.header ≡ header.NameDistributor n))
    → Brings s bytes by (brought_by by bytes ∷ []) s
message_brings s bytes by p fits spelled (inl is) = message (record { packet = p; fits = fits; spelled = spelled; inside = ap may_stand_inside is.1 })
message_brings s bytes by p fits spelled (inr is) = message (record { packet = p; fits = fits; spelled = spelled; inside = ap may_stand_inside is.1 })

-- ---- a packet of another user

not_inner : (h : Header) → ((m : Payload) → h ≡ header.Payload m → ⊥) → ((n : NameDistribution) → h ≡ header.NameDistributor n → ⊥) → may_stand_inside h ≡ true → ⊥
not_inner (header.Payload m) payload items is = payload m refl
not_inner (header.NameDistributor n) payload items is = items n refl
not_inner (header.Bundler b) payload items is = absurd cc
not_inner (header.State s) payload items is = absurd cc
not_inner (header.Reset r) payload items is = absurd cc
not_inner (header.Activate r) payload items is = absurd cc
not_inner (header.Changeover c) payload items is = absurd cc
not_inner (header.Fragmenter f) payload items is = absurd cc
not_inner (header.Discovery d) payload items is = absurd cc

pub other_brings : (s : Joining) (bytes : List ℕ) (by : ℕ) (h : Header) → Spells bytes h
    → ((m : Payload) → h ≡ header.Payload m → ⊥) → ((n : NameDistribution) → h ≡ header.NameDistributor n → ⊥)
    → ((b : Bundle) → h ≡ header.Bundler b → ⊥) → ((f : Fragment) → h ≡ header.Fragmenter f → ⊥)
    → Brings s bytes by (Passed 0 ∷ []) s
other_brings s bytes by h spells payload items bundles fragments =
    other
    (λ inner. not_inner h payload items (ap may_stand_inside (same_header bytes _ _ spells (inner_spells bytes inner)) ∙ inner.inside))
    (λ bundled. bundles bundled.bundle (same_header bytes _ _ spells (bundle_spells bytes bundled)))
    (λ piece cut. fragments cut.fragment (same_header bytes _ _ spells (fragment_spells bytes piece cut)))

-- Bytes that are no packet are passed over.
pub none_brings : (s : Joining) (bytes : List ℕ) (by : ℕ) → ((p : Fields) → Fits p → bytes ≡ spelling p → ⊥) → Brings s bytes by (Passed 0 ∷ []) s
none_brings s bytes by refused =
    other
    (λ inner. refused inner.packet inner.fits inner.spelled)
    (λ bundled. refused bundled.packet bundled.fits bundled.spelled)
    (λ piece cut. refused cut.packet cut.fits cut.spelled)

-- ---- what the code answers

-- a list that is expected brings what it does
pub answer_brings : {E : Type 0} (s new : Joining) (bytes : List ℕ) (by : ℕ) (answer : Result (List Opened) E) (expected : List Opened)
    → Brings s bytes by expected new → IfOk answer (λ opened. opened ≡ expected) → IfOk answer (λ opened. Brings s bytes by opened new)
answer_brings s new bytes by (Ok opened) expected is same = subst (λ (x : List Opened). Brings s bytes by x new) (sym same) is
answer_brings s new bytes by (Err fault) expected is same = tt

-- what equals it
pub so_brings : (s new : Joining) (bytes : List ℕ) (by : ℕ) (opened expected : List Opened) → Brings s bytes by expected new → opened ≡ expected → Brings s bytes by opened new
so_brings s new bytes by opened expected is same = subst (λ (x : List Opened). Brings s bytes by x new) (sym same) is

-- whatever is begun
pub always_brings : {E : Type 0} (bytes : List ℕ) (by : ℕ) (answer : Result (List Opened) E) (expected : List Opened)
    → ((s : Joining) → Brings s bytes by expected s) → IfOk answer (λ opened. opened ≡ expected) → IfOk answer (λ opened. (s : Joining) → Brings s bytes by opened s)
always_brings bytes by (Ok opened) expected is same = λ s. subst (λ (x : List Opened). Brings s bytes by x s) (sym same) (is s)
always_brings bytes by (Err fault) expected is same = tt

-- what a fragment makes
pub fragment_brings : {E : Type 0} (s new : Joining) (bytes : List ℕ) (by : ℕ) (piece : Piece) (answer : Result (List Opened) E) → IsFragment bytes piece
    → IfOk answer (λ opened. (opened ≡ joined_members (answer_of s piece by)) × (new ≡ after s piece by)) → IfOk answer (λ opened. Brings s bytes by opened new)
fragment_brings s new bytes by piece (Ok opened) is made =
    subst (λ (x : Joining). Brings s bytes by opened x) (sym made.1) (subst (λ (x : List Opened). Brings s bytes by x (after s piece by)) (sym made.0) (fragment is))
fragment_brings s new bytes by piece (Err fault) is made = tt
