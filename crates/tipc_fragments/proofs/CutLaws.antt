-- A message and its fragments.
use Rattle.std.proofs.Common.{◌≡◌, ℕ, zero, suc, ◌+◌, ◌-◌, ◌*◌, ◌^◌, ◌<◌, ◌≤◌, min, List, [], ◌∷◌, ◌++◌, length, take, drop, map, Some, refl, sym, ap, subst, ◌∙◌, arith}
use Rattle.std.specs.Prelude.{All, slice_get}
use Rattle.std.specs.List.{flat_map, range_with_len}
use Rattle.std.proofs.Math.Seq.{take-add}
use Rattle.std.proofs.lemmas.List.{drop-drop, length-drop, length-take, map-append, take_all, take_min}
use Rattle.std.proofs.lemmas.List.Elements.{All-map}
use Rattle.std.proofs.lemmas.List.FromFn.{get_or-map-range_with_len, length-map-range_with_len, map-range_with_len_more}
use Rattle.std.proofs.lemmas.Option.{slice_get-get_or}
use Rattle.tipc_header.specs.Frames.{sent_as}
use Rattle.tipc_header.specs.Grammar.{Fits}
use Rattle.tipc_header.specs.Spelling.{spelling}
use Rattle.tipc_header.proofs.Again.{length-spelling}
use Rattle.tipc_fragments.specs.Cutting.{count_of, fragment_fields, packets_of, Piece, piece_after, pieces_of}
use Rattle.tipc_fragments.specs.Laws.{IsPiece}

-- what is cut out of a message from a start to an end within it
pub take_within : (m : List ℕ) (start : ℕ) → start ≤ length m
    → take (min (length m) (start + 1412) - start) (drop start m) ≡ take 1412 (drop start m)
take_within m start h =
    let left : length (drop start m) ≡ length m - start = length-drop start m in
    let same : min (length m) (start + 1412) - start ≡ min 1412 (length (drop start m)) = omega arith in
    rw same (take_min 1412 (drop start m))

pub length-piece : (m : List ℕ) (before : ℕ) → length (take 1412 (drop (1412 * before) m)) ≡ min 1412 (length m - 1412 * before)
length-piece m before = simp (length-take, length-drop)

pub is_piece : (m : List ℕ) (before : ℕ) → before < count_of m → IsPiece (count_of m) before (piece_after m before)
is_piece m before h =
    let long = length-piece m before in
    record {
      number = refl;
      kind = refl;
      some = omega arith;
      most = omega arith;
      full = λ more. omega arith;
    }

-- so many fragments, the first behind `a` others
abbrev pub pieces_from : List ℕ → ℕ → ℕ → List Piece
pieces_from m a n = map (piece_after m) (range_with_len a n)

-- the packets of the first n fragments
abbrev pub first_packets : List ℕ → ℕ → List (List ℕ)
first_packets m n = map (λ p. spelling (fragment_fields p)) (pieces_from m 0 n)

first_packets-more : (m : List ℕ) (n : ℕ) → first_packets m (n + 1) ≡ first_packets m n ++ spelling (fragment_fields (piece_after m n)) ∷ []
first_packets-more m n =
    ap (map (λ (p : Piece). spelling (fragment_fields p))) (map-range_with_len_more (piece_after m) 0 n n (omega arith))
    ∙ map-append (λ (p : Piece). spelling (fragment_fields p)) (pieces_from m 0 n) (piece_after m n ∷ [])

-- one more packet
pub first_packets-push : (m : List ℕ) (n : ℕ) (old new : List (List ℕ)) (packet : List ℕ)
    → new ≡ old ++ packet ∷ [] → old ≡ first_packets m n → packet ≡ spelling (fragment_fields (piece_after m n))
    → new ≡ first_packets m (n + 1)
first_packets-push m n old new packet pushed so_far next =
    pushed
    ∙ ap (λ (ps : List (List ℕ)). ps ++ packet ∷ []) so_far
    ∙ ap (λ (p : List ℕ). first_packets m n ++ p ∷ []) next
    ∙ sym (first_packets-more m n)

-- the bytes of fragments, one behind the other
pub bytes-pieces_from : (m : List ℕ) (a n : ℕ) → flat_map (λ (p : Piece). p.bytes) (pieces_from m a n) ≡ take (1412 * n) (drop (1412 * a) m)
bytes-pieces_from m a zero = refl
bytes-pieces_from m a (suc n) =
    let more : 1412 * suc n ≡ 1412 + 1412 * n = omega arith in
    let next : 1412 * (a + 1) ≡ 1412 * a + 1412 = omega arith in
    let first = take 1412 (drop (1412 * a) m) in
    ap (λ (bs : List ℕ). first ++ bs) (
    bytes-pieces_from m (a + 1) n
    ∙ ap (λ (k : ℕ). take (1412 * n) (drop k m)) next
    ∙ ap (take (1412 * n)) (sym (drop-drop 1412 (1412 * a) m))
    )
    ∙ sym (take-add 1412 (1412 * n) (drop (1412 * a) m))
    ∙ ap (λ (k : ℕ). take k (drop (1412 * a) m)) (sym more)

-- the bytes of all fragments are the message
pub bytes-pieces_of : (m : List ℕ) → flat_map (λ (p : Piece). p.bytes) (pieces_of m) ≡ m
bytes-pieces_of m = bytes-pieces_from m 0 (count_of m) ∙ take_all (1412 * count_of m) m (omega arith)

pub length-pieces_of : (m : List ℕ) → length (pieces_of m) ≡ count_of m
length-pieces_of m = length-map-range_with_len (piece_after m) 0 (count_of m)

pub piece_at : (m : List ℕ) (before : ℕ) → before < count_of m → slice_get (pieces_of m) before ≡ Some (piece_after m before)
piece_at m before h =
    let d = piece_after m before in
    let long = length-pieces_of m in
    slice_get-get_or (pieces_of m) before d (omega arith)
    ∙ ap Some (get_or-map-range_with_len (piece_after m) 0 (count_of m) before before d h (omega arith))

-- what is true of each fragment by its place
pub all_pieces : (P : Piece → Type 0) (m : List ℕ)
    → ((before : ℕ) → before < count_of m → P (piece_after m before)) → All P (pieces_of m)
all_pieces P m each = λ k d h.
    let within : k < count_of m = omega (arith, length-pieces_of m) in
    subst P (sym (get_or-map-range_with_len (piece_after m) 0 (count_of m) k k d within (omega arith))) (each k within)

-- ---- the packets

pub length-packet : (p : Piece) → length (spelling (fragment_fields p)) ≡ 40 + length p.bytes
length-packet p = length-spelling (fragment_fields p) ∙ omega arith

pub sent_fits : (p : Piece) (acknowledgement sequence previous : ℕ)
    → 1 ≤ p.number → p.number < 2 ^ 16 → 1 ≤ length p.bytes → length p.bytes ≤ 1412
    → acknowledgement < 2 ^ 16 → sequence < 2 ^ 16 → previous < 2 ^ 32
    → Fits (sent_as acknowledgement sequence previous (fragment_fields p))
sent_fits p acknowledgement sequence previous one number some most low_a low_s low_p = record {
  acknowledgement = low_a;
  sequence = low_s;
  previous = low_p;
  header = (omega arith, one, number);
  numbering = tt;
  rest = (some, most);
  size = omega arith;
}

-- every fragment of a message fits as it is sent
pub all_fit : (m : List ℕ) (acknowledgement sequence previous : ℕ) → length m ≤ 66044
    → acknowledgement < 2 ^ 16 → sequence < 2 ^ 16 → previous < 2 ^ 32
    → All (λ p. Fits (sent_as acknowledgement sequence previous (fragment_fields p))) (pieces_of m)
all_fit m acknowledgement sequence previous within low_a low_s low_p =
    all_pieces (λ p. Fits (sent_as acknowledgement sequence previous (fragment_fields p))) m (λ before h.
    let is = is_piece m before h in
    sent_fits (piece_after m before) acknowledgement sequence previous (omega arith) (omega arith) is.some is.most low_a low_s low_p
    )

pub packets_are_short : (m : List ℕ) → All (λ packet. length packet ≤ 1452) (packets_of m)
packets_are_short m =
    All-map (λ packet. length packet ≤ 1452) (λ (p : Piece). spelling (fragment_fields p)) (pieces_of m)
    (all_pieces (λ p. length (spelling (fragment_fields p)) ≤ 1452) m (λ before h.
    let is = is_piece m before h in
    let most = is.most in
    omega (arith, length-packet (piece_after m before))
    ))
