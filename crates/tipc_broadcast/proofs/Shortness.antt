-- Frames keep their length when they get their numbers, so none of those that leave is too long.
use Rattle.std.proofs.Common.{◌≡◌, ℕ, ◌+◌, ◌≤◌, Bool, true, false, if◌then◌else◌, List, [], ◌∷◌, ◌++◌, length, take, drop, ap, length-append, length-drop, arith}
use Rattle.std.proofs.lemmas.List.{length-take-le}
use Rattle.std.proofs.lemmas.List.Elements.{All-append, All-cons, All-filter, All-head, All-nil, All-tail, All-take}
use Rattle.std.specs.Prelude.{All, slice_index_or}
use Rattle.tipc_types.specs.Position.{number_of}
use Rattle.tipc_types.specs.declared.identity.To.TheVariants as to
use Rattle.tipc_types.specs.declared.packet_lists.Kept.{Kept}
use Rattle.tipc_outside.specs.declared.outgoing.Outgoing.{Outgoing}
use Rattle.tipc_header.specs.Spelling.{word}
use Rattle.tipc_header.proofs.Words.{length-word}
use Rattle.tipc_send_window.specs.Sending.{acked_of, kept_after, kept_of, room}
use Rattle.tipc_broadcast.specs.Frames.{cast, cast_again, cast_all, IsShort, numbered_frame, on_bearer}
use Rattle.tipc_broadcast.specs.Casting.{Casting, flush_frames, IsCasting, is_behind, repeat_frames}
use Rattle.tipc_broadcast.proofs.FrameLaws.{numbered_is}

-- a frame that has room for its number, and isn't too long
pub record MayLeave (frame : List ℕ) : Type 0 where
  pub long : 32 ≤ length frame
  pub short : length frame ≤ 1516

length-numbered : (number : ℕ) (frame : List ℕ) → 32 ≤ length frame → length (numbered_frame number frame) ≡ length frame
length-numbered number frame long =
    omega (
      arith,
      long,
      ap length (numbered_is number frame),
      length-append (take 24 frame) (word number ++ drop 28 frame),
      length-append (word number) (drop 28 frame),
      length-take-le 24 frame (omega (arith, long)),
      length-word number,
      length-drop 28 frame,
    )

on_bearer-short : (mended : List Bool) (frame : List ℕ) (bearer : ℕ) → length frame ≤ 1516 → All IsShort (on_bearer mended frame bearer)
on_bearer-short mended frame bearer short =
    let f : Outgoing = record { bearer = bearer; to = to.All; frame = frame } in
    elim (slice_index_or mended bearer false) as (λ b. All IsShort (if b then f ∷ [] else [])) [
      | true ↦ All-cons IsShort f [] short (All-nil IsShort)
      | false ↦ All-nil IsShort
    ]

cast-short : (mended : List Bool) (number : ℕ) (frame : List ℕ) → MayLeave frame → All IsShort (cast mended number frame)
cast-short mended number frame may =
    let numbered = numbered_frame number frame in
    let short : length numbered ≤ 1516 = omega (arith, length-numbered number frame may.long, may.short) in
    All-append IsShort (on_bearer mended numbered 0) (on_bearer mended numbered 1) (on_bearer-short mended numbered 0 short) (on_bearer-short mended numbered 1 short)

pub cast_all-short : (mended : List Bool) (before : ℕ) (frames : List (List ℕ)) → All MayLeave frames → All IsShort (cast_all mended before frames)
cast_all-short mended before [] may = All-nil IsShort
cast_all-short mended before (frame ∷ frames) may =
    All-append IsShort (cast mended (number_of (before + 1)) frame) (cast_all mended (before + 1) frames) (cast-short mended (number_of (before + 1)) frame (All-head MayLeave frame frames may))
    (cast_all-short mended (before + 1) frames (All-tail MayLeave frame frames may))

cast_again-short : (mended : List Bool) (ks : List Kept) → All (λ k. MayLeave k.packet) ks → All IsShort (cast_again mended ks)
cast_again-short mended [] may = All-nil IsShort
cast_again-short mended (k ∷ ks) may =
    All-append IsShort (cast mended k.number k.packet) (cast_again mended ks) (cast-short mended k.number k.packet (All-head (λ (l : Kept). MayLeave l.packet) k ks may))
    (cast_again-short mended ks (All-tail (λ (l : Kept). MayLeave l.packet) k ks may))

all_may : (frames : List (List ℕ)) → All (λ frame. 32 ≤ length frame) frames → All (λ frame. length frame ≤ 1516) frames → All MayLeave frames
all_may [] long short = All-nil MayLeave
all_may (frame ∷ frames) long short =
    All-cons MayLeave frame frames (record { long = All-head (λ f. 32 ≤ length f) frame frames long; short = All-head (λ f. length f ≤ 1516) frame frames short })
    (all_may frames (All-tail (λ f. 32 ≤ length f) frame frames long) (All-tail (λ f. length f ≤ 1516) frame frames short))

kept_may : (before : ℕ) (frames : List (List ℕ)) → All MayLeave frames → All (λ (k : Kept). MayLeave k.packet) (kept_after before frames)
kept_may before [] may = All-nil (λ (k : Kept). MayLeave k.packet)
kept_may before (frame ∷ frames) may =
    All-cons (λ (k : Kept). MayLeave k.packet) _ _ (All-head MayLeave frame frames may) (kept_may (before + 1) frames (All-tail MayLeave frame frames may))

-- what moves up
pub flush-short : (own : ℕ) (v : Casting) → IsCasting own v.sending v.contacts → All IsShort (flush_frames v)
unfolding flush_frames
flush-short own v h =
    cast_all-short v.mended v.sending.numbered _ (All-take MayLeave (room v.sending) v.sending.waiting (all_may v.sending.waiting h.waiting h.short_waiting))

-- and what is sent again
pub repeat-short : (own : ℕ) (v : Casting) (acknowledgement gap : ℕ) → IsCasting own v.sending v.contacts → All IsShort (repeat_frames v acknowledgement gap)
unfolding repeat_frames
repeat-short own v acknowledgement gap h =
    cast_again-short v.mended _ (All-filter (is_behind acknowledgement gap) (λ (k : Kept). MayLeave k.packet) (kept_of v.sending) (kept_may (acked_of v.sending) v.sending.unacked (all_may v.sending.unacked h.unacked h.short_unacked)))
