-- What stands in the lists of a broadcast link are frames of packets that the node can cast: so it is behind each lawful deed, and each frame
-- that leaves brings a broadcast packet of the boot.
use Rattle.std.proofs.Common.{◌≡◌, ◌<◌, ◌≤◌, ◌+◌, ◌-◌, ◌^◌, ℕ, Bool, true, false, if◌then◌else◌, List, [], ◌∷◌, take, drop, map, length, ap, ◌∙◌, refl, sym, subst, arith, zero, suc}
use Rattle.std.specs.Prelude.{All, slice_index_or}
use Rattle.std.proofs.lemmas.Bool.Decides.{nat_tests}
use Rattle.std.proofs.lemmas.List.{drop_at}
use Rattle.std.proofs.lemmas.List.Elements.{All-append, All-cons, All-drop, All-filter, All-head, All-nil, All-tail, All-take}
use Rattle.tipc_types.specs.Position.{number_of}
use Rattle.tipc_types.proofs.PositionLaws.{number_of-below}
use Rattle.tipc_types.specs.declared.identity.To.TheVariants as to
use Rattle.tipc_types.specs.declared.link_words.BroadcastState.{BroadcastState}
use Rattle.tipc_types.specs.declared.packet_lists.Kept.{Kept}
use Rattle.tipc_outside.specs.declared.outgoing.Outgoing.{Outgoing}
use Rattle.tipc_header.specs.declared.frames.FrameKind.TheVariants.{Casts, Links}
use Rattle.tipc_header.specs.declared.packet.Header.{Header}
use Rattle.tipc_header.specs.declared.packet.Header.TheVariants as header
use Rattle.tipc_header.specs.Frames.{envelope, first_of, frame_of, is_epoch, kind_in, kind_of, sent_as, stamped}
use Rattle.tipc_header.specs.Reading.{fields_at}
use Rattle.tipc_header.specs.Spelling.{Fields, spelling}
use Rattle.tipc_header.proofs.FrameWords.{first_of-frame, length-envelope, stamped-spelling}
use Rattle.tipc_header.proofs.Again.{again}
use Rattle.tipc_send_window.specs.Sending.{acked_of, kept_after, kept_of, room}
use Rattle.tipc_broadcast.specs.declared.contacts.Contact.{Contact}
use Rattle.tipc_broadcast.specs.Casting.{Casting, accepting, answered, answered_frames, credited, flush_frames, flushed, informed, is_behind, kept_for, left_frames, left_with, moved_up_frames, moved_up, repeat_frames, rounds_of_departure, settled, with_contacts, with_message}
use Rattle.tipc_broadcast.specs.Contacts.{acked_by_all, member_set, without}
use Rattle.tipc_broadcast.specs.Deeds.{AreLawful, CanSend, CastDeed, IsLawful, after_deed, after_deeds, deed_frames, deeds_frames}
use Rattle.tipc_broadcast.specs.Frames.{accepted_frame, cast, cast_again, cast_all, numbered_frame, on_bearer}
use Rattle.tipc_broadcast.specs.Pieces.{AreFramed, IsCastPiece, IsFramed, IsOfBroadcast}
use Rattle.tipc_broadcast.proofs.Deeds.{deed_node}
use Rattle.tipc_broadcast.proofs.FrameLaws.{frames_are_stamped}

-- ---- one frame

no_epoch : (boot : ℕ) → boot < 2 ^ 32 → is_epoch boot ≡ false
no_epoch boot low = grind (arith, nat_tests, low)

-- the kind is that of the header, under whatever boot number
cast_kind : (boot : ℕ) (h : Header) → boot < 2 ^ 32 → kind_of 0 h ≡ Casts → kind_of boot h ≡ Casts
cast_kind boot (header.Payload payload) low is = ap (λ b. if b then Links else Casts) (no_epoch boot low)
cast_kind boot (header.Fragmenter fragment) low is = ap (λ b. if b then Links else Casts) (no_epoch boot low)
cast_kind boot other low is = is

-- the frame of a packet under a number
numbered_as : (own boot number : ℕ) (frame : List ℕ) (h : IsFramed own boot frame) → numbered_frame number frame ≡ frame_of boot h.set (spelling (sent_as 0 number own h.piece.fields))
numbered_as own boot number frame h =
    ap (numbered_frame number) h.is ∙ frames_are_stamped own boot h.set number h.packet h.long
    ∙ ap (λ packet. frame_of boot h.set (stamped 0 number own packet)) h.piece.spelled
    ∙ ap (frame_of boot h.set) (stamped-spelling h.piece.fields 0 number own)

-- it is of that boot
numbered_first : (own boot number : ℕ) (frame : List ℕ) → boot < 2 ^ 32 → IsFramed own boot frame → first_of (numbered_frame number frame) ≡ boot
numbered_first own boot number frame low h =
    ap first_of (numbered_as own boot number frame h) ∙ first_of-frame boot h.set (spelling (sent_as 0 number own h.piece.fields)) (omega (arith, low))

-- and a broadcast packet
numbered_kind : (own boot number : ℕ) (frame : List ℕ) → boot < 2 ^ 32 → number < 2 ^ 16 → IsFramed own boot frame → kind_in (numbered_frame number frame) ≡ Casts
unfolding kind_in
numbered_kind own boot number frame low small h =
    let p = sent_as 0 number own h.piece.fields in
    ap (λ xs. kind_of (first_of xs) (fields_at (drop 16 xs)).header) (numbered_as own boot number frame h)
    ∙ ap (λ first. kind_of first (fields_at (drop 16 (frame_of boot h.set (spelling p)))).header) (first_of-frame boot h.set (spelling p) (omega (arith, low)))
    ∙ ap (λ xs. kind_of boot (fields_at xs).header) (drop_at (envelope boot h.set) (spelling p) 16 (length-envelope boot h.set))
    ∙ ap (λ (q : Fields). kind_of boot q.header) (again p (h.piece.fits number small))
    ∙ cast_kind boot h.piece.fields.header low h.piece.kind

-- ---- the frames that leave

on_bearer_cast : (boot : ℕ) (mended : List Bool) (bytes : List ℕ) (bearer : ℕ) → boot < 2 ^ 32 → bearer ≤ 1 → first_of bytes ≡ boot → kind_in bytes ≡ Casts → All (IsOfBroadcast boot) (on_bearer mended bytes bearer)
on_bearer_cast boot mended bytes bearer low one first kind =
    let o : Outgoing = record { bearer = bearer; to = to.All; frame = bytes } in
    let P : Outgoing → Type 0 = IsOfBroadcast boot in
    let is : P o = record { on_one = one; to_is = refl; first_is = first; low = ap is_epoch first ∙ no_epoch boot low; kind = kind } in
    elim (slice_index_or mended bearer false) as (λ b. All P (if b then o ∷ [] else [])) [
      | true ↦ All-cons P o [] is (All-nil P)
      | false ↦ All-nil P
    ]

cast_out : (own boot : ℕ) (mended : List Bool) (number : ℕ) (frame : List ℕ) → boot < 2 ^ 32 → number < 2 ^ 16 → IsFramed own boot frame → All (IsOfBroadcast boot) (cast mended number frame)
cast_out own boot mended number frame low small h =
    let bytes = numbered_frame number frame in
    let first = numbered_first own boot number frame low h in
    let kind = numbered_kind own boot number frame low small h in
    All-append (IsOfBroadcast boot) (on_bearer mended bytes 0) (on_bearer mended bytes 1) (on_bearer_cast boot mended bytes 0 low (omega arith) first kind)
    (on_bearer_cast boot mended bytes 1 low (omega arith) first kind)

casts_out : (own boot : ℕ) (mended : List Bool) (before : ℕ) (frames : List (List ℕ)) → boot < 2 ^ 32 → All (IsFramed own boot) frames → All (IsOfBroadcast boot) (cast_all mended before frames)
casts_out own boot mended before [] low h = All-nil (IsOfBroadcast boot)
casts_out own boot mended before (frame ∷ frames) low h =
    let number = number_of (before + 1) in
    let small : number < 2 ^ 16 = omega (arith, number_of-below (before + 1)) in
    All-append (IsOfBroadcast boot) (cast mended number frame) (cast_all mended (before + 1) frames)
    (cast_out own boot mended number frame low small (All-head (IsFramed own boot) frame frames h))
    (casts_out own boot mended (before + 1) frames low (All-tail (IsFramed own boot) frame frames h))

-- a packet that was numbered before
record IsKeptFrame (own boot : ℕ) (k : Kept) : Type 0 where
  pub small : k.number < 2 ^ 16
  pub framed : IsFramed own boot k.packet

again_out : (own boot : ℕ) (mended : List Bool) (ks : List Kept) → boot < 2 ^ 32 → All (IsKeptFrame own boot) ks → All (IsOfBroadcast boot) (cast_again mended ks)
again_out own boot mended [] low h = All-nil (IsOfBroadcast boot)
again_out own boot mended (k ∷ ks) low h =
    let first = All-head (IsKeptFrame own boot) k ks h in
    All-append (IsOfBroadcast boot) (cast mended k.number k.packet) (cast_again mended ks) (cast_out own boot mended k.number k.packet low first.small first.framed)
    (again_out own boot mended ks low (All-tail (IsKeptFrame own boot) k ks h))

kept_framed : (own boot before : ℕ) (frames : List (List ℕ)) → All (IsFramed own boot) frames → All (IsKeptFrame own boot) (kept_after before frames)
kept_framed own boot before [] h = All-nil (IsKeptFrame own boot)
kept_framed own boot before (frame ∷ frames) h =
    All-cons (IsKeptFrame own boot) _ _ (record { small = omega (arith, number_of-below (before + 1)); framed = All-head (IsFramed own boot) frame frames h })
    (kept_framed own boot (before + 1) frames (All-tail (IsFramed own boot) frame frames h))

-- ---- the parts of a deed

-- what is true of a broadcast link after a deed, and of the frames that leave by it
pub record StaysFramed (boot : ℕ) (v : Casting) (left : List Outgoing) : Type 0 where
  pub after : AreFramed v
  pub frames : All (IsOfBroadcast boot) left

flushed_framed : (v : Casting) → v.boot < 2 ^ 32 → AreFramed v → StaysFramed v.boot (flushed v) (flush_frames v)
unfolding flushed flush_frames
flushed_framed v low h =
    let P : List ℕ → Type 0 = IsFramed v.own v.boot in
    let moved = All-take P (room v.sending) v.sending.waiting h.waiting in
    record {
      after = record { unacked = All-append P v.sending.unacked (take (room v.sending) v.sending.waiting) h.unacked moved; waiting = All-drop P (room v.sending) v.sending.waiting h.waiting };
      frames = casts_out v.own v.boot v.mended v.sending.numbered (take (room v.sending) v.sending.waiting) low moved;
    }

settled_framed : (v : Casting) → AreFramed v → AreFramed (settled v)
unfolding settled
settled_framed v h = record { unacked = All-drop (IsFramed v.own v.boot) (acked_by_all v.sending.numbered v.contacts - acked_of v.sending) v.sending.unacked h.unacked; waiting = h.waiting }

settled_boot : (v : Casting) → (settled v).boot ≡ v.boot
unfolding settled
settled_boot v = refl

-- packets are released, and others move up
moved_framed : (v : Casting) → v.boot < 2 ^ 32 → AreFramed v → StaysFramed v.boot (flushed (settled v)) (flush_frames (settled v))
moved_framed v low h =
    let same = settled_boot v in
    let moved = flushed_framed (settled v) (subst (λ boot. boot < 2 ^ 32) (sym same) low) (settled_framed v h) in
    subst (λ boot. StaysFramed boot (flushed (settled v)) (flush_frames (settled v))) same moved

flushed_boot : (v : Casting) → (flushed v).boot ≡ v.boot
unfolding flushed
flushed_boot v = refl

moved_boot : (n : ℕ) (v : Casting) → (moved_up n v).boot ≡ v.boot
unfolding moved_up
moved_boot zero v = refl
moved_boot (suc n) v = flushed_boot (settled (moved_up n v)) ∙ (settled_boot (moved_up n v) ∙ moved_boot n v)

-- likewise, however often
moved_up_framed : (n : ℕ) (v : Casting) → v.boot < 2 ^ 32 → AreFramed v → StaysFramed v.boot (moved_up n v) (moved_up_frames n v)
unfolding moved_up moved_up_frames
moved_up_framed zero v low h = record { after = h; frames = All-nil (IsOfBroadcast v.boot) }
moved_up_framed (suc n) v low h =
    let before = moved_up_framed n v low h in
    let same = moved_boot n v in
    let one : StaysFramed v.boot (moved_up (suc n) v) (flush_frames (settled (moved_up n v))) =
    subst (λ boot. StaysFramed boot (moved_up (suc n) v) (flush_frames (settled (moved_up n v)))) same (moved_framed (moved_up n v) (subst (λ boot. boot < 2 ^ 32) (sym same) low) before.after) in
    record { after = one.after; frames = All-append (IsOfBroadcast v.boot) (moved_up_frames n v) (flush_frames (settled (moved_up n v))) before.frames one.frames }

left_framed : (contacts : List Contact) (v : Casting) → v.boot < 2 ^ 32 → AreFramed v → StaysFramed v.boot (left_with contacts v) (left_frames contacts v)
left_framed [] v low h = record { after = record { unacked = All-nil (IsFramed v.own v.boot); waiting = All-nil (IsFramed v.own v.boot) }; frames = All-nil (IsOfBroadcast v.boot) }
left_framed (c ∷ contacts) v low h = moved_up_framed rounds_of_departure v low h

kept_for_framed : (contacts : List Contact) (v : Casting) → AreFramed v → AreFramed (kept_for contacts v)
kept_for_framed [] v h = record { unacked = All-nil (IsFramed v.own v.boot); waiting = All-nil (IsFramed v.own v.boot) }
kept_for_framed (c ∷ contacts) v h = h

repeated_framed : (v : Casting) (acknowledgement gap : ℕ) → v.boot < 2 ^ 32 → AreFramed v → All (IsOfBroadcast v.boot) (repeat_frames v acknowledgement gap)
unfolding repeat_frames
repeated_framed v acknowledgement gap low h =
    again_out v.own v.boot v.mended _ low
    (All-filter (is_behind acknowledgement gap) (IsKeptFrame v.own v.boot) (kept_of v.sending) (kept_framed v.own v.boot (acked_of v.sending) v.sending.unacked h.unacked))

answered_framed : (v : Casting) (peer acknowledgement gap : ℕ) → v.boot < 2 ^ 32 → AreFramed v → StaysFramed v.boot (answered v peer acknowledgement) (answered_frames v peer acknowledgement gap)
answered_framed v peer acknowledgement gap low h =
    let u = credited v peer acknowledgement in
    let is : AreFramed u = record { unacked = h.unacked; waiting = h.waiting } in
    let moved = moved_framed u low is in
    let again : All (IsOfBroadcast v.boot) (repeat_frames (settled u) acknowledgement gap) =
    subst (λ boot. All (IsOfBroadcast boot) (repeat_frames (settled u) acknowledgement gap)) (settled_boot u)
    (repeated_framed (settled u) acknowledgement gap (subst (λ boot. boot < 2 ^ 32) (sym (settled_boot u)) low) (settled_framed u is)) in
    record { after = moved.after; frames = All-append (IsOfBroadcast v.boot) (repeat_frames (settled u) acknowledgement gap) (flush_frames (settled u)) again moved.frames }

stated_framed : (v : Casting) (peer : ℕ) (seen : BroadcastState) (b : Bool) → v.boot < 2 ^ 32 → AreFramed v
    → StaysFramed v.boot (if b then answered (informed v peer seen.start seen.next) peer seen.acknowledged else informed v peer seen.start seen.next)
    (if b then answered_frames (informed v peer seen.start seen.next) peer seen.acknowledged seen.gap else [])
stated_framed v peer seen true low h = answered_framed (informed v peer seen.start seen.next) peer seen.acknowledged seen.gap low (record { unacked = h.unacked; waiting = h.waiting })
stated_framed v peer seen false low h = record { after = record { unacked = h.unacked; waiting = h.waiting }; frames = All-nil (IsOfBroadcast v.boot) }

-- the frames of a message's packets
pieces_framed : (own boot set : ℕ) (pieces : List (List ℕ)) → All (λ piece. 16 ≤ length piece) pieces → All (IsCastPiece own) pieces → All (IsFramed own boot) (map (accepted_frame own boot set) pieces)
pieces_framed own boot set [] long cast = All-nil (IsFramed own boot)
pieces_framed own boot set (piece ∷ pieces) long cast =
    All-cons (IsFramed own boot) _ _
    (record { set = set; packet = piece; long = All-head (λ p. 16 ≤ length p) piece pieces long; piece = All-head (IsCastPiece own) piece pieces cast; is = refl })
    (pieces_framed own boot set pieces (All-tail (λ p. 16 ≤ length p) piece pieces long) (All-tail (IsCastPiece own) piece pieces cast))

sent_framed : (v : Casting) (pieces : List (List ℕ)) → v.boot < 2 ^ 32 → CanSend v pieces → AreFramed v → StaysFramed v.boot (accepting v pieces) (flush_frames (with_message v pieces))
sent_framed v pieces low can h =
    let P : List ℕ → Type 0 = IsFramed v.own v.boot in
    let w = with_message v pieces in
    let frames = map (accepted_frame v.own v.boot (member_set v.contacts)) pieces in
    let is : AreFramed w = record { unacked = h.unacked; waiting = All-append P v.sending.waiting frames h.waiting (pieces_framed v.own v.boot (member_set v.contacts) pieces can.long can.cast) } in
    let flushed_so = flushed_framed w low is in
    record { after = kept_for_framed v.contacts (flushed w) flushed_so.after; frames = flushed_so.frames }

-- ---- deeds

pub deed_framed : (d : CastDeed) (v : Casting) → v.boot < 2 ^ 32 → IsLawful d v → AreFramed v → StaysFramed v.boot (after_deed d v) (deed_frames d v)
deed_framed (CastDeed.joins peer boot) v low lawful h = record { after = record { unacked = h.unacked; waiting = h.waiting }; frames = All-nil (IsOfBroadcast v.boot) }
deed_framed (CastDeed.leaves peer) v low lawful h = left_framed (without peer v.contacts) (with_contacts v (without peer v.contacts)) low (record { unacked = h.unacked; waiting = h.waiting })
deed_framed (CastDeed.states peer seen) v low lawful h = stated_framed v peer seen seen.in_step low h
deed_framed (CastDeed.bears bearer is_mended) v low lawful h = record { after = record { unacked = h.unacked; waiting = h.waiting }; frames = All-nil (IsOfBroadcast v.boot) }
deed_framed (CastDeed.hears boot members by packet) v low lawful h = record { after = record { unacked = h.unacked; waiting = h.waiting }; frames = All-nil (IsOfBroadcast v.boot) }
deed_framed (CastDeed.sends pieces) v low lawful h = sent_framed v pieces low lawful h

pub deeds_framed : (ds : List CastDeed) (v : Casting) → v.boot < 2 ^ 32 → AreLawful ds v → AreFramed v → StaysFramed v.boot (after_deeds ds v) (deeds_frames ds v)
deeds_framed [] v low lawful h = record { after = h; frames = All-nil (IsOfBroadcast v.boot) }
deeds_framed (d ∷ ds) v low lawful h =
    let w = after_deed d v in
    let same = (deed_node d v).boot in
    let first = deed_framed d v low lawful.0 h in
    let rest = deeds_framed ds w (subst (λ boot. boot < 2 ^ 32) (sym same) low) lawful.1 first.after in
    record {
      after = rest.after;
      frames = All-append (IsOfBroadcast v.boot) (deed_frames d v) (deeds_frames ds w) first.frames (subst (λ boot. All (IsOfBroadcast boot) (deeds_frames ds w)) same rest.frames);
    }
