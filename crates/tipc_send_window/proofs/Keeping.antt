use Rattle.std.proofs.Common.{◌≡◌, ℕ, ◌+◌, ◌-◌, ◌<◌, ◌≤◌, List, [], ◌∷◌, ◌++◌, length, drop, zero, suc, refl, sym, ◌∙◌, ap, subst, arith, add-zero, length-drop}
use Rattle.std.proofs.lemmas.List.{drop-append-le, drop-drop, drop-map, length-map, map_push}
use Rattle.tipc_types.specs.Position.{number_of}
use Rattle.tipc_types.specs.declared.packet_lists.Kept.{Kept}
use Rattle.tipc_send_window.specs.Sending.{IsStored, kept_after, packets_of}

-- a packet beside the number of its position
abbrev pub kept_at : ℕ → List ℕ → Kept
kept_at position packet = record { number = number_of position; packet = packet }

-- a packet behind others has the number behind theirs
pub kept_after-push : (before : ℕ) (packets : List (List ℕ)) (packet : List ℕ)
    → kept_after before (packets ++ packet ∷ []) ≡ kept_after before packets ++ kept_at (before + length packets + 1) packet ∷ []
kept_after-push before [] packet = rw add-zero refl
kept_after-push before (first ∷ packets) packet =
    let place : before + 1 + length packets ≡ before + suc (length packets) = omega arith in
    ap (λ (ks : List Kept). kept_at (before + 1) first ∷ ks) (
    kept_after-push (before + 1) packets packet
    ∙ ap (λ (n : ℕ). kept_after (before + 1) packets ++ kept_at (n + 1) packet ∷ []) place
    )

-- without the first n packets, the others keep their numbers
pub drop-kept_after : (n before : ℕ) (packets : List (List ℕ))
    → drop n (kept_after before packets) ≡ kept_after (before + n) (drop n packets)
drop-kept_after zero before packets = rw add-zero refl
drop-kept_after (suc n) before [] = refl
drop-kept_after (suc n) before (first ∷ packets) =
    let place : before + 1 + n ≡ before + suc n = omega arith in
    drop-kept_after n (before + 1) packets ∙ ap (λ (m : ℕ). kept_after m (drop n packets)) place

-- a packet with the next number behind numbered packets
pub numbers-push : (before position : ℕ) (live : List Kept) (packet : List ℕ)
    → before + length live + 1 ≡ position → live ≡ kept_after before (packets_of live)
    → live ++ kept_at position packet ∷ [] ≡ kept_after before (packets_of (live ++ kept_at position packet ∷ []))
numbers-push before position live packet place h =
    let packets = packets_of live in
    let place' : position ≡ before + length packets + 1 = rw length-map (sym place) in
    ap (λ (ks : List Kept). ks ++ kept_at position packet ∷ []) h
    ∙ ap (λ (n : ℕ). kept_after before packets ++ kept_at n packet ∷ []) place'
    ∙ sym (kept_after-push before packets packet)
    ∙ ap (λ (ps : List (List ℕ)). kept_after before ps) (sym (map_push (λ (k : Kept). k.packet) live (kept_at position packet)))

-- numbered packets without the first n of them
pub numbers-drop : (n before : ℕ) (live : List Kept) → live ≡ kept_after before (packets_of live)
    → drop n live ≡ kept_after (before + n) (packets_of (drop n live))
numbers-drop n before live h =
    ap (λ (ks : List Kept). drop n ks) h
    ∙ drop-kept_after n before (packets_of live)
    ∙ ap (λ (ps : List (List ℕ)). kept_after (before + n) ps) (drop-map (λ (k : Kept). k.packet) n live)

-- the first that waits is numbered and stored
pub IsStored-push : (numbered released count capacity waiting less : ℕ) (stored : List Kept) (packet : List ℕ)
    → length stored ≡ count → waiting ≡ less + 1 → count < released + 50
    → IsStored numbered released count capacity waiting stored
    → IsStored (numbered + 1) released (count + 1) capacity less (stored ++ kept_at (numbered + 1) packet ∷ [])
IsStored-push numbered released count capacity waiting less stored packet long one narrow h =
    let half = h.half in
    let begun = h.begun in
    let within : released ≤ length stored = omega arith in
    let acked = numbered + released - count in
    let long_live : length (drop released stored) ≡ count - released = length-drop released stored ∙ ap (λ (n : ℕ). n - released) long in
    let grown : drop released (stored ++ kept_at (numbered + 1) packet ∷ []) ≡ drop released stored ++ kept_at (numbered + 1) packet ∷ [] = drop-append-le released stored _ within in
    let same : numbered + 1 + released - (count + 1) ≡ acked = omega arith in
    record {
      half = omega arith;
      window = omega arith;
      begun = omega arith;
      bounded = omega (arith, h.bounded);
      few = omega (arith, h.few);
      room = λ some. h.room (omega arith);
      numbers = rw (grown, same) (numbers-push acked (numbered + 1) (drop released stored) packet (rw long_live (omega arith)) h.numbers);
    }

-- the packets without the first n unacknowledged ones, beside their numbers
pub numbers-release : (before released n : ℕ) (stored : List Kept)
    → drop released stored ≡ kept_after before (packets_of (drop released stored))
    → drop (released + n) stored ≡ kept_after (before + n) (packets_of (drop (released + n) stored))
numbers-release before released n stored h =
    let at : drop n (drop released stored) ≡ drop (released + n) stored = drop-drop n released stored in
    let P : List Kept → Type 0 = λ ks. ks ≡ kept_after (before + n) (packets_of ks) in
    subst P at (numbers-drop n before (drop released stored) h)

-- the packets without their numbers, likewise
pub packets_of-release : (released n : ℕ) (stored : List Kept)
    → packets_of (drop (released + n) stored) ≡ drop n (packets_of (drop released stored))
packets_of-release released n stored =
    ap packets_of (sym (drop-drop n released stored))
    ∙ sym (drop-map (λ (k : Kept). k.packet) n (drop released stored))

-- the first n unacknowledged packets are released, and stay stored for now
pub IsStored-skip : (numbered released count capacity waiting n : ℕ) (stored : List Kept)
    → released + n < count - (released + n)
    → IsStored numbered released count capacity waiting stored
    → IsStored numbered (released + n) count capacity waiting stored
IsStored-skip numbered released count capacity waiting n stored few h =
    let begun = h.begun in
    let window = h.window in
    let place : numbered + (released + n) - count ≡ numbered + released - count + n = omega arith in
    record {
      half = omega arith;
      window = omega arith;
      begun = omega arith;
      bounded = h.bounded;
      few = h.few;
      room = h.room;
      numbers = rw place (numbers-release (numbered + released - count) released n stored h.numbers);
    }

-- the first n unacknowledged packets are released, and all that are acknowledged are cleared
pub IsStored-clear : (numbered released count capacity waiting n left : ℕ) (stored rest : List Kept)
    → released + n ≤ count → left ≡ count - (released + n) → rest ≡ drop (released + n) stored
    → IsStored numbered released count capacity waiting stored
    → IsStored numbered 0 left capacity waiting rest
IsStored-clear numbered released count capacity waiting n left stored rest within short same h =
    let begun = h.begun in
    let window = h.window in
    let place : numbered + 0 - left ≡ numbered + released - count + n = omega arith in
    let P : List Kept → Type 0 = λ ks. ks ≡ kept_after (numbered + released - count + n) (packets_of ks) in
    record {
      half = omega arith;
      window = omega arith;
      begun = omega arith;
      bounded = h.bounded;
      few = h.few;
      room = h.room;
      numbers = rw place (subst P (sym same) (numbers-release (numbered + released - count) released n stored h.numbers));
    }

-- how many packets are unacknowledged
pub length-live : (released count : ℕ) (stored : List Kept) → length stored ≡ count
    → length (packets_of (drop released stored)) ≡ count - released
length-live released count stored long = rw (length-map, length-drop, long) refl
