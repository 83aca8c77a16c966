-- A packet that may stand inside a bundle, and its padding.
use Rattle.std.proofs.Common.{◌≡◌, ℕ, ◌-◌, ◌%◌, ◌^◌, ◌<◌, ◌≤◌, true, false, List, ◌++◌, length, take, refl, sym, ap, subst, ◌∙◌, append_assoc, arith}
use Rattle.std.specs.Prelude.{replicate}
use Rattle.std.proofs.lemmas.List.{append-nil, length-append, length-replicate, take_at}
use Rattle.tipc_header.specs.declared.packet.Bundle.{Bundle}
use Rattle.tipc_header.specs.declared.packet.Header.{Header}
use Rattle.tipc_header.specs.declared.packet.Header.TheVariants as header
use Rattle.tipc_header.specs.Reading.{field}
use Rattle.tipc_header.proofs.Again.{size_field}
use Rattle.tipc_header.proofs.RoundTrip.{spelling-least, spelling-most}
use Rattle.tipc_bundle.specs.Bundles.{may_stand_inside, padded, padded_size, IsInner}

pub inner-least : (b : List ℕ) → IsInner b → 24 ≤ length b
inner-least b h = subst (λ (xs : List ℕ). 24 ≤ length xs) (sym h.spelled) (spelling-least h.packet)

pub inner-most : (b : List ℕ) → IsInner b → length b < 2 ^ 17
inner-most b h = subst (λ (xs : List ℕ). length xs < 2 ^ 17) (sym h.spelled) (spelling-most h.packet h.fits)

-- its size field is its length, whatever follows it
pub inner-size : (b more : List ℕ) → IsInner b → field 0 16 0 (b ++ more) ≡ length b
inner-size b more h = subst (λ (xs : List ℕ). field 0 16 0 (xs ++ more) ≡ length xs) (sym h.spelled) (size_field h.packet more h.fits)

-- what begins these bytes is as long as their size field says
pub begins-size : (bytes packet more : List ℕ) → IsInner packet → bytes ≡ packet ++ more → field 0 16 0 bytes ≡ length packet
begins-size bytes packet more h e = ap (λ (xs : List ℕ). field 0 16 0 xs) e ∙ inner-size packet more h

-- and so are the bytes that it tells of
pub begins_at : (bytes packet more : List ℕ) (n : ℕ) → IsInner packet → bytes ≡ packet ++ more → n ≡ field 0 16 0 bytes → take n bytes ≡ packet
begins_at bytes packet more n h e is = ap (take n) e ∙ take_at packet more n (sym (is ∙ begins-size bytes packet more h e))

-- One at most begins the same bytes.
pub inner_once : (a b more others : List ℕ) → IsInner a → IsInner b → a ++ more ≡ b ++ others → a ≡ b
inner_once a b more others ha hb e =
    let same : length b ≡ length a = sym (inner-size b others hb) ∙ ap (λ (xs : List ℕ). field 0 16 0 xs) (sym e) ∙ inner-size a more ha in
    sym (take_at a more (length a) refl) ∙ ap (take (length a)) e ∙ take_at b others (length a) same

pub length-padded : (packet : List ℕ) → length (padded packet) ≡ padded_size (length packet)
unfolding padded
length-padded packet =
    let zeros = padded_size (length packet) - length packet in
    omega (arith, length-append packet (replicate zeros 0), length-replicate {A = ℕ} zeros 0)

pub padded_whole : (packet : List ℕ) → length (padded packet) % 4 ≡ 0
padded_whole packet = omega (arith, length-padded packet)

-- Bytes that are a multiple of 4 long have no padding.
pub padded_fixed : (bytes : List ℕ) → length bytes % 4 ≡ 0 → padded bytes ≡ bytes
unfolding padded
padded_fixed bytes h =
    let none : padded_size (length bytes) - length bytes ≡ 0 = omega (arith, h) in
    ap (λ (n : ℕ). bytes ++ replicate n 0) none ∙ append-nil bytes

unfoldable pub padding_of : List ℕ → List ℕ
padding_of packet = replicate (padded_size (length packet) - length packet) 0

-- the padding and more behind a packet
pub padded-append : (packet more : List ℕ) → padded packet ++ more ≡ packet ++ (padding_of packet ++ more)
unfolding padded padding_of
padded-append packet more = append_assoc packet (replicate (padded_size (length packet) - length packet) 0) more

pub padded_once : (a b more others : List ℕ) → IsInner a → IsInner b → padded a ++ more ≡ padded b ++ others → a ≡ b
padded_once a b more others ha hb e =
    inner_once a b (padding_of a ++ more) (padding_of b ++ others) ha hb (sym (padded-append a more) ∙ e ∙ padded-append b others)

-- A bundler's packet may not stand inside a bundle.
pub not_bundler : (h : Header) (b : Bundle) → may_stand_inside h ≡ true → h ≡ header.Bundler b → ⊥
not_bundler h b inside is = let no : false ≡ true = sym (ap may_stand_inside is) ∙ inside in absurd cc
