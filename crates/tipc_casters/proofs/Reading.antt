-- A broadcast frame is read as it was written.
use Rattle.std.proofs.Common.{◌≡◌, ℕ, ◌+◌, ◌<◌, ◌≤◌, ◌^◌, List, [], ◌∷◌, ◌++◌, length, take, drop, get_or, refl, sym, ap, subst, ◌∙◌, length-append, length-drop, arith}
use Rattle.std.proofs.lemmas.List.{drop_at, length-take-le}
use Rattle.std.proofs.lemmas.List.Elements.{All-get_or, All-weaker}
use Rattle.std.proofs.lemmas.Option.{get_or_from_slice_get, slice_get_within}
use Rattle.tipc_types.specs.Position.{number_of}
use Rattle.tipc_types.proofs.PositionLaws.{number_of-below}
use Rattle.tipc_header.specs.Frames.{envelope, frame_of, sent_as, stamped}
use Rattle.tipc_header.specs.Grammar.{Fits}
use Rattle.tipc_header.specs.Reading.{long_at, word_at}
use Rattle.tipc_header.specs.Spelling.{Fields, from_bit, spelling, two_words, words}
use Rattle.tipc_header.proofs.FrameWords.{length-envelope, stamped-spelling}
use Rattle.tipc_header.proofs.Places.{long-joined}
use Rattle.tipc_header.proofs.RoundTrip.{one_packet}
use Rattle.tipc_header.proofs.Words.{AreWords, length-words, word_at-words}
use Rattle.tipc_broadcast.specs.Contacts.{as_accepted}
use Rattle.tipc_broadcast_law.specs.Groups.{Accepted}
use Rattle.tipc_broadcast.specs.Pieces.{IsCastPiece}
use Rattle.tipc_casters.specs.Reading.{FramesAreRead, FramesAreWritten, IsWritten}
use Rattle.tipc_casters.specs.Sights.{Aired, CasterSight, IsAired, IsCast, IsSentPiece, MemberSight}

-- ---- the envelope

are_words : (a b : ℕ) → a < 2 ^ 64 → b < 2 ^ 64 → AreWords (two_words a ++ two_words b)
are_words a b fit_a fit_b = (omega arith, (omega arith, (omega arith, (omega arith, tt))))

envelope_word : (i a b : ℕ) (rest : List ℕ) → a < 2 ^ 64 → b < 2 ^ 64 → i < 4 → word_at i (frame_of a b rest) ≡ get_or (two_words a ++ two_words b) i 0
unfolding envelope
envelope_word i a b rest fit_a fit_b low = word_at-words i (two_words a ++ two_words b) rest (are_words a b fit_a fit_b) low

first_read : (a b : ℕ) (rest : List ℕ) → a < 2 ^ 64 → b < 2 ^ 64 → long_at 0 (frame_of a b rest) ≡ a
first_read a b rest fit_a fit_b =
    let high = envelope_word 0 a b rest fit_a fit_b (omega arith) in
    let low = envelope_word 1 a b rest fit_a fit_b (omega arith) in
    rw (high, low) (long-joined a)

second_read : (a b : ℕ) (rest : List ℕ) → a < 2 ^ 64 → b < 2 ^ 64 → long_at 2 (frame_of a b rest) ≡ b
second_read a b rest fit_a fit_b =
    let high = envelope_word 2 a b rest fit_a fit_b (omega arith) in
    let low = envelope_word 3 a b rest fit_a fit_b (omega arith) in
    rw (high, low) (long-joined b)

-- ---- the packet

same_packet : (a b c d : ℕ) (p q : Fields) → Fits p → Fits q → frame_of a b (spelling p) ≡ frame_of c d (spelling q) → p ≡ q
same_packet a b c d p q p_fits q_fits same =
    one_packet p q p_fits q_fits (sym (drop_at (envelope a b) (spelling p) 16 (length-envelope a b)) ∙ ap (drop 16) same ∙ drop_at (envelope c d) (spelling q) 16 (length-envelope c d))

-- the packet of a frame is one that was accepted
piece_of : (a : CasterSight) (ms : ℕ → MemberSight) (h : IsCast a ms) (f : Aired) (c : IsAired h.group a.casting.own f) → IsSentPiece a.casting.own c.packet
piece_of a ms h f c =
    let own = a.casting.own in
    let line = h.group.caster.line c.boot in
    let IsOne : Accepted → Type 0 = λ e. IsSentPiece own e.packet in
    let e = c.cast.entry in
    let stands : IsOne e = subst IsOne (get_or_from_slice_get line c.place e e c.cast.there) (All-get_or IsOne line c.place e (slice_get_within line c.place e c.cast.there) (h.caster.spelled c.boot)) in
    subst (IsSentPiece own) (sym c.cast.packet_is) stands

pub frames_are_read : FramesAreRead
frames_are_read a ms h f boot members by p boot_fits members_fit fits bytes c =
    let own = a.casting.own in
    let piece : IsCastPiece own c.packet = (piece_of a ms h f c).piece in
    let small : c.boot < 2 ^ 64 = let rises = c.in_boot in let same = h.caster.boot in let low = h.caster.boot_fits in omega arith in
    let few : c.set < 2 ^ 64 = let low = c.set_fits in omega arith in
    let q = piece.fields in
    let number = number_of (c.place + 1) in
    let sent = sent_as 0 number own q in
    let same : frame_of boot members (spelling p) ≡ frame_of c.boot c.set (spelling sent) =
    sym bytes ∙ (c.bytes ∙ (ap (λ (b : List ℕ). frame_of c.boot c.set (stamped 0 number own b)) piece.spelled ∙ ap (λ (b : List ℕ). frame_of c.boot c.set b) (stamped-spelling q 0 number own))) in
    let packet : p ≡ sent = same_packet boot members c.boot c.set p sent fits (piece.fits number (number_of-below (c.place + 1))) same in (
      sym (first_read boot members (spelling p) boot_fits members_fit) ∙ (ap (long_at 0) same ∙ first_read c.boot c.set (spelling sent) small few),
      sym (second_read boot members (spelling p) boot_fits members_fit) ∙ (ap (long_at 2) same ∙ second_read c.boot c.set (spelling sent) small few),
      ap (λ (k : Fields). k.sequence) packet,
      ap (λ (k : Fields). spelling (as_accepted k)) packet ∙ (ap spelling (sym piece.as_it_waits) ∙ sym piece.spelled),
    )

-- ---- as it was written

length_written : (boot set number own : ℕ) (packet : List ℕ) → 16 ≤ length packet → length (frame_of boot set (stamped 0 number own packet)) ≡ length packet + 16
unfolding stamped
length_written boot set number own packet long =
    let two = words ((from_bit 16 0 + number) ∷ own ∷ []) in
    omega (
      arith,
      long,
      length-append (envelope boot set) (take 8 packet ++ (two ++ drop 16 packet)),
      length-envelope boot set,
      length-append (take 8 packet) (two ++ drop 16 packet),
      length-take-le 8 packet (omega (arith, long)),
      length-append two (drop 16 packet),
      length-words ((from_bit 16 0 + number) ∷ own ∷ []),
      length-drop 16 packet,
    )

written : (a : CasterSight) (ms : ℕ → MemberSight) (h : IsCast a ms) (f : Aired) → IsAired h.group a.casting.own f → IsWritten a.casting.own f.frame
written a ms h f c =
    let own = a.casting.own in
    let sent = piece_of a ms h f c in
    let q = sent.piece.fields in
    let number = number_of (c.place + 1) in
    let long = length_written c.boot c.set number own c.packet sent.long in
    let size = ap (λ (b : List ℕ). length b) c.bytes in
    let least = sent.long in
    let most = sent.short in
    record {
      to_all = c.to_all;
      boot = c.boot;
      boot_fits = (let rises = c.in_boot in let same = h.caster.boot in let low = h.caster.boot_fits in omega (arith, rises, same, low));
      set = c.set;
      set_fits = c.set_fits;
      packet = sent_as 0 number own q;
      fits = sent.piece.fits number (number_of-below (c.place + 1));
      previous = refl;
      kind = sent.piece.kind;
      bytes = c.bytes ∙ (ap (λ (b : List ℕ). frame_of c.boot c.set (stamped 0 number own b)) sent.piece.spelled ∙ ap (λ (b : List ℕ). frame_of c.boot c.set b) (stamped-spelling q 0 number own));
      whole = omega (arith, size, long, least);
      short = omega (arith, size, long, most);
    }

pub frames_are_written : FramesAreWritten
frames_are_written a ms h = All-weaker (IsAired h.group a.casting.own) (λ (f : Aired). IsWritten a.casting.own f.frame) (λ f c. written a ms h f c) a.sent h.caster.sent
