-- Packets and frames that are shown alike are the same.
use Rattle.std.proofs.Common.{◌≡◌, ℕ, ◌+◌, ◌*◌, ◌^◌, ◌<◌, Bool, true, false, None, List, [], ◌∷◌, ◌++◌, length, get_or, drop, refl, sym, ap, ◌∙◌, append_assoc, append-nil, arith}
use Rattle.std.specs.Prelude.{if◌then◌else◌, codes}
use Rattle.std.specs.Fmt.{decimal}
use Rattle.std.specs.Str.Parse.{AllDigits}
use Rattle.std.proofs.lemmas.Fmt.{decimal_injective, decimal_is_IsNumeral}
use Rattle.std.proofs.lemmas.Str.Parse.{digit_from_value}
use Rattle.std.proofs.lemmas.List.{get_or-drop, length-drop}
use Rattle.tipc_header.specs.declared.packet.Header.{Header}
use Rattle.tipc_header.specs.declared.packet.Header.TheVariants as header
use Rattle.tipc_header.specs.Faults.{fault_of}
use Rattle.tipc_header.specs.Grammar.{Fits}
use Rattle.tipc_header.specs.Reading.{fields_at, long_at, word_at}
use Rattle.tipc_header.specs.Spelling.{Fields, numbers_size, size_of, spelling, words}
use Rattle.tipc_header.specs.Users.{header_size}
use Rattle.tipc_header.proofs.Words.{IsBytes, word_at-below, words_from, words_of_all}
use Rattle.tipc_header.proofs.Takes.{takes}
use Rattle.tipc_header.proofs.RoundTrip.{spelling-most}
use Rattle.tipc_tunnel.specs.Tunnels.{inner_number, is_tunnel, may_stand_in_tunnel}
use Rattle.tipc_dissect.specs.Lines.{bytes_text, fields_text, shown_line}
use Rattle.tipc_dissect.specs.Table.{fields_of}
use Rattle.tipc_dissect.specs.Packets.{carried_text, inner, inner_text, is_inner_packet, outer, packet_text, rest_text, whole_text}
use Rattle.tipc_dissect.specs.Frames.{envelope_fields, frame_text, IsDecodable}
use Rattle.tipc_dissect.proofs.Back.{value_at, with_rest}
use Rattle.tipc_dissect.proofs.Cutting.{cut_at, decimal_above}
use Rattle.tipc_dissect.proofs.Heads.{heads_tell}
use Rattle.tipc_dissect.proofs.Inside.{carried_by, lines_by, tested}
use Rattle.tipc_dissect.proofs.Rests.{bytes_tell, rests_tell, SameRest}
use Rattle.tipc_dissect.proofs.Shapes.{fields_tell, HaveBits, line_tells}

-- ---- a packet's own lines

-- what they tell of two packets
record IsAlike (p q : Fields) (xs ys : List ℕ) : Type 0 where
  shown : (rest : List ℕ) → with_rest p rest ≡ with_rest q rest
  long : length p.rest ≡ length q.rest
  rest : SameRest p.header p.rest q.rest
  behind : xs ≡ ys

packet_parts : (indent : List ℕ) (p : Fields) (xs : List ℕ) → packet_text indent p ++ xs ≡ fields_text indent (fields_of p) ++ (rest_text indent p.header p.rest ++ xs)
unfolding packet_text
packet_parts indent p xs = append_assoc (fields_text indent (fields_of p)) (rest_text indent p.header p.rest) xs

-- the bytes before the rest
front_size : Header → ℕ
front_size h = 4 * header_size h + numbers_size h

same_length : (p q : Fields) → p.header ≡ q.header → size_of p ≡ size_of q → length p.rest ≡ length q.rest
unfolding front_size
same_length p q same e = let front : front_size p.header ≡ front_size q.header = ap front_size same in omega (arith, front, e)

same_header : (p q : Fields) → ((rest : List ℕ) → with_rest p rest ≡ with_rest q rest) → p.header ≡ q.header
same_header p q shown = ap (λ (r : Fields). r.header) (shown [])

packet_tells : (indent : List ℕ) (p q : Fields) (xs ys : List ℕ) → Fits p → Fits q → IsBytes p.rest → IsBytes q.rest → packet_text indent p ++ xs ≡ packet_text indent q ++ ys → IsAlike p q xs ys
packet_tells indent p q xs ys f g a b e =
    let heads = heads_tell indent p q (rest_text indent p.header p.rest ++ xs) (rest_text indent q.header q.rest ++ ys) f g (sym (packet_parts indent p xs) ∙ e ∙ packet_parts indent q ys) in
    let header = same_header p q heads.0.shown in
    let long = same_length p q header heads.0.size in
    let rests = rests_tell indent p.header p.rest q.rest xs ys a b long f.rest (heads.1 ∙ ap (λ (h : Header). rest_text indent h q.rest ++ ys) (sym header)) in
    record { shown = heads.0.shown; long = long; rest = rests.0; behind = rests.1 }

same_packet : (p q : Fields) → ((rest : List ℕ) → with_rest p rest ≡ with_rest q rest) → p.rest ≡ q.rest → p ≡ q
same_packet p q shown e = shown p.rest ∙ ap (λ (rest : List ℕ). with_rest q rest) e

-- ---- what a tunnel packet carries

bytes-drop : (n : ℕ) (b : List ℕ) → IsBytes b → IsBytes (drop n b)
bytes-drop n b h i = rw get_or-drop (h (n + i))

rest_bytes : (b : List ℕ) → IsBytes b → IsBytes (fields_at b).rest
unfolding fields_at
rest_bytes b h = bytes-drop _ b h

-- bytes that are the same packet
same_bytes : (r s : List ℕ) → IsBytes r → IsBytes s → fault_of r ≡ None → fault_of s ≡ None → fields_at r ≡ fields_at s → r ≡ s
same_bytes r s p q f g e = (takes r p f).spelled ∙ ap spelling e ∙ sym (takes s q g).spelled

packet_small : (b : List ℕ) → IsBytes b → fault_of b ≡ None → length b < 2 ^ 17
packet_small b p clear = let t = takes b p clear in omega (arith, ap length t.spelled, spelling-most (fields_at b) t.fits)

-- What may stand inside is no tunnel packet.
no_tunnel : (h : Header) → may_stand_in_tunnel h ≡ true → is_tunnel h ≡ false
no_tunnel (header.Payload m) e = refl
no_tunnel (header.Bundler b) e = refl
no_tunnel (header.State s) e = absurd (cc e)
no_tunnel (header.Reset r) e = absurd (cc e)
no_tunnel (header.Activate a) e = absurd (cc e)
no_tunnel (header.Changeover c) e = absurd (cc e)
no_tunnel (header.NameDistributor n) e = refl
no_tunnel (header.Fragmenter f) e = refl
no_tunnel (header.Discovery d) e = absurd (cc e)

first_digit : (digits xs : List ℕ) → 0 < length digits → AllDigits 10 digits → get_or (digits ++ xs) 0 0 < 58
first_digit [] xs some are = absurd (omega (arith, some))
first_digit (c ∷ digits) xs some are = omega (arith, digit_from_value c are.0)

-- a size doesn't begin as `bad` does
size_or_bad : (n : ℕ) (bytes xs ys : List ℕ) → n < 2 ^ 64 → shown_line outer (codes "inner") (decimal n) ++ xs ≡ shown_line outer (codes "inner bad") (bytes_text bytes) ++ ys → ⊥
size_or_bad n bytes xs ys small e =
    let numeral = (decimal_is_IsNumeral n small).0 in
    let text : (decimal n ++ (10 ∷ [])) ++ xs ≡ 98 ∷ (codes "ad" ++ (32 ∷ (bytes_text bytes ++ (10 ∷ [])))) ++ ys = ap (drop 7) e in
    let low = first_digit (decimal n) ((10 ∷ []) ++ xs) numeral.0 numeral.1 in
    omega (arith, low, ap (λ (l : List ℕ). get_or l 0 0) (sym (append_assoc (decimal n) (10 ∷ []) xs) ∙ text))

-- a packet that stands inside
record IsPlain (bytes : List ℕ) : Type 0 where
  clear : fault_of bytes ≡ None
  fits : Fits (fields_at bytes)
  plain : is_tunnel (fields_at bytes).header ≡ false
  small : length bytes < 2 ^ 17

plain_inner : (number : ℕ) (bytes : List ℕ) → IsBytes bytes → is_inner_packet number bytes ≡ true → IsPlain bytes
plain_inner number bytes p e =
    let t = tested number bytes e in
    record { clear = t.clear; fits = (takes bytes p t.clear).fits; plain = no_tunnel (fields_at bytes).header t.inside; small = packet_small bytes p t.clear }

inner_tells : (r s : List ℕ) → IsBytes r → IsBytes s → IsPlain r → IsPlain s → inner_text r ≡ inner_text s → r ≡ s
unfolding SameRest
inner_tells r s p q r_is s_is e =
    let r_small = r_is.small in
    let s_small = s_is.small in
    let size = line_tells outer (codes "inner") (decimal (length r)) (decimal (length s)) _ _ (decimal_above 10 (length r) (omega arith) (omega (arith, r_small))) (decimal_above 10 (length s) (omega arith) (omega (arith, s_small))) e in
    let alike = packet_tells inner (fields_at r) (fields_at s) [] [] r_is.fits s_is.fits (rest_bytes r p) (rest_bytes s q) (append-nil (packet_text inner (fields_at r)) ∙ size.1 ∙ sym (append-nil (packet_text inner (fields_at s)))) in
    same_bytes r s p q r_is.clear s_is.clear (same_packet (fields_at r) (fields_at s) alike.shown (alike.rest r_is.plain))

lines_tell : (number : ℕ) (r s : List ℕ) (a b : Bool) → IsBytes r → IsBytes s → is_inner_packet number r ≡ a → is_inner_packet number s ≡ b → lines_by a r ≡ lines_by b s → r ≡ s
lines_tell number r s true true p q a b e = inner_tells r s p q (plain_inner number r p a) (plain_inner number s q b) e
lines_tell number r s false false p q a b e = (bytes_tell outer (codes "inner bad") r s [] [] p q (append-nil (lines_by false r) ∙ e ∙ sym (append-nil (lines_by false s)))).0
lines_tell number r s true false p q a b e =
    let small = (plain_inner number r p a).small in
    absurd (size_or_bad (length r) s (packet_text inner (fields_at r)) [] (omega (arith, small)) (e ∙ sym (append-nil (lines_by false s))))
lines_tell number r s false true p q a b e =
    let small = (plain_inner number s q b).small in
    absurd (size_or_bad (length s) r (packet_text inner (fields_at s)) [] (omega (arith, small)) (sym e ∙ sym (append-nil (lines_by false r))))

carried_tells : (number : ℕ) (r s : List ℕ) → IsBytes r → IsBytes s → length r ≡ length s → carried_text number r ≡ carried_text number s → r ≡ s
carried_tells number [] [] p q long e = refl
carried_tells number [] (y ∷ s) p q long e = absurd (omega (arith, long))
carried_tells number (x ∷ r) [] p q long e = absurd (omega (arith, long))
carried_tells number (x ∷ r) (y ∷ s) p q long e =
    lines_tell number (x ∷ r) (y ∷ s) (is_inner_packet number (x ∷ r)) (is_inner_packet number (y ∷ s)) p q refl refl (sym (carried_by number x r) ∙ e ∙ carried_by number y s)

-- ---- a packet with all that is in it

-- what stands behind its own lines, where it is a tunnel packet or isn't
abbrev carried_where : Bool → ℕ → List ℕ → List ℕ
carried_where true number rest = carried_text number rest
carried_where false number rest = []

whole_parts : (p : Fields) → whole_text p ≡ packet_text outer p ++ carried_where (is_tunnel p.header) (inner_number p.header) p.rest
unfolding whole_text
whole_parts p = ap (λ (t : List ℕ). packet_text outer p ++ t) (either (is_tunnel p.header))
  where
    either : (b : Bool) → (if b then carried_text (inner_number p.header) p.rest else []) ≡ carried_where b (inner_number p.header) p.rest
    either true = refl
    either false = refl

rest_same : (b : Bool) (h : Header) (r s : List ℕ) → is_tunnel h ≡ b → IsBytes r → IsBytes s → length r ≡ length s → SameRest h r s → carried_where b (inner_number h) r ≡ carried_where b (inner_number h) s → r ≡ s
unfolding SameRest
rest_same true h r s is p q long same e = carried_tells (inner_number h) r s p q long e
rest_same false h r s is p q long same e = same is

whole_tells : (p q : Fields) → Fits p → Fits q → IsBytes p.rest → IsBytes q.rest → whole_text p ≡ whole_text q → p ≡ q
whole_tells p q f g a b e =
    let alike = packet_tells outer p q _ _ f g a b (sym (whole_parts p) ∙ e ∙ whole_parts q) in
    let behind = alike.behind ∙ ap (λ (h : Header). carried_where (is_tunnel h) (inner_number h) q.rest) (sym (same_header p q alike.shown)) in
    same_packet p q alike.shown (rest_same (is_tunnel p.header) p.header p.rest q.rest refl a b alike.long alike.rest behind)

-- ---- a frame

packet_bytes : (f : List ℕ) → IsDecodable f → IsBytes (drop 16 f)
packet_bytes f w = bytes-drop 16 f w.bytes

frame_small : (f : List ℕ) → IsDecodable f → length f < 2 ^ 18
frame_small f w = let small = packet_small (drop 16 f) (packet_bytes f w) w.packet in omega (arith, length-drop 16 f, small)

size_first : (line : ℕ) (f more : List ℕ) → shown_line (decimal line) (codes " frame") (decimal (length f)) ++ more ≡ decimal line ++ (32 ∷ (codes "frame" ++ (32 ∷ (decimal (length f) ++ (10 ∷ more)))))
size_first line f more = simp append_assoc

-- a number of 64 bits tells both its words
halves_tell : (v w x y : ℕ) → v < 2 ^ 32 → w < 2 ^ 32 → x < 2 ^ 32 → y < 2 ^ 32 → v * 2 ^ 32 + w ≡ x * 2 ^ 32 + y → (v ≡ x) × (w ≡ y)
halves_tell v w x y a b c d e = (omega (arith, e), omega (arith, e))

four_same : (a b c d w x y z : ℕ) → a ≡ w → b ≡ x → c ≡ y → d ≡ z → ◌≡◌ {A = List ℕ} (a ∷ b ∷ c ∷ d ∷ []) (w ∷ x ∷ y ∷ z ∷ [])
four_same a b c d w x y z ea eb ec ed = cc

envelope_same : (f g : List ℕ) → IsBytes f → IsBytes g → long_at 0 f ≡ long_at 0 g → long_at 2 f ≡ long_at 2 g → words_from 0 4 f ≡ words_from 0 4 g
envelope_same f g p q first second =
    let f_word = λ (i : ℕ). word_at-below i f p in
    let g_word = λ (i : ℕ). word_at-below i g q in
    let one = halves_tell _ _ _ _ (f_word 0) (f_word 1) (g_word 0) (g_word 1) first in
    let two = halves_tell _ _ _ _ (f_word 2) (f_word 3) (g_word 2) (g_word 3) second in
    four_same (word_at 0 f) (word_at 1 f) (word_at 2 f) (word_at 3 f) (word_at 0 g) (word_at 1 g) (word_at 2 g) (word_at 3 g) one.0 one.1 two.0 two.1

long_small : (i : ℕ) (f : List ℕ) → IsBytes f → long_at i f < 2 ^ 64
long_small i f p = omega (arith, word_at-below i f p, word_at-below (i + 1) f p)

frame_same : (f g : List ℕ) → IsDecodable f → IsDecodable g → words_from 0 4 f ≡ words_from 0 4 g → drop 16 f ≡ drop 16 g → f ≡ g
frame_same f g w v front behind =
    words_of_all 4 f w.bytes w.enveloped
    ∙ ap (λ (ws : List ℕ). words ws ++ drop 16 f) front
    ∙ ap (λ (t : List ℕ). words (words_from 0 4 g) ++ t) behind
    ∙ sym (words_of_all 4 g v.bytes v.enveloped)

-- the lines behind the first
behind_size : (f g : List ℕ) → IsDecodable f → IsDecodable g → fields_text outer (envelope_fields f) ++ whole_text (fields_at (drop 16 f)) ≡ fields_text outer (envelope_fields g) ++ whole_text (fields_at (drop 16 g)) → f ≡ g
behind_size f g w v e =
    let f_longs : HaveBits (envelope_fields f) = (long_small 0 f w.bytes, (long_small 2 f w.bytes, tt)) in
    let g_longs : HaveBits (envelope_fields g) = (long_small 0 g v.bytes, (long_small 2 g v.bytes, tt)) in
    let envelopes = fields_tell outer (envelope_fields f) (envelope_fields g) _ _ refl f_longs g_longs e in
    let f_packet = packet_bytes f w in
    let g_packet = packet_bytes g v in
    let packets = whole_tells (fields_at (drop 16 f)) (fields_at (drop 16 g)) (takes (drop 16 f) f_packet w.packet).fits (takes (drop 16 g) g_packet v.packet).fits
    (rest_bytes (drop 16 f) f_packet) (rest_bytes (drop 16 g) g_packet) envelopes.1 in
    frame_same f g w v (envelope_same f g w.bytes v.bytes (ap (value_at 0) envelopes.0) (ap (value_at 1) envelopes.0))
    (same_bytes (drop 16 f) (drop 16 g) f_packet g_packet w.packet v.packet packets)

pub frame_tells : (m n : ℕ) (f g : List ℕ) → m < 2 ^ 64 → n < 2 ^ 64 → IsDecodable f → IsDecodable g → frame_text m f ≡ frame_text n g → (m ≡ n) × (f ≡ g)
frame_tells m n f g m_wide n_wide w v e =
    let f_small = frame_small f w in
    let g_small = frame_small g v in
    let numbers = cut_at 32 (decimal m) (decimal n) _ _ (decimal_above 32 m (omega arith) m_wide) (decimal_above 32 n (omega arith) n_wide) (sym (size_first m f _) ∙ e ∙ size_first n g _) in
    let sizes = cut_at 10 (decimal (length f)) (decimal (length g)) _ _ (decimal_above 10 (length f) (omega arith) (omega (arith, f_small))) (decimal_above 10 (length g) (omega arith) (omega (arith, g_small)))
    (ap (drop 6) numbers.1) in
    (decimal_injective m n m_wide n_wide numbers.0, behind_size f g w v sizes.1)
