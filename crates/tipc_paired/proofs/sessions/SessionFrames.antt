-- The frames of a session that may be told: packets that are sent again, and those that move up.
use Rattle.std.proofs.Common.{◌≡◌, ℕ, zero, suc, ◌+◌, ◌≤◌, List, [], ◌∷◌, ◌++◌, Some, length, take, sym, ap, ◌∙◌, subst, length-append, arith}
use Rattle.std.specs.Prelude.{slice_get}
use Rattle.std.proofs.lemmas.List.{length-take-le}
use Rattle.tipc_types.specs.Position.{number_of}
use Rattle.tipc_types.specs.declared.packet_lists.Kept.{Kept}
use Rattle.tipc_send_window.specs.Sending.{Sending, acked_of, kept_after, kept_of, advanced, room}
use Rattle.tipc_link.specs.Direction.{IsDirection}
use Rattle.tipc_link.specs.Sessions.{SessionEnd, flush_frames, flushed, moving, packet_frame, repeat_frames, repeated}
use Rattle.tipc_link.proofs.Directions.{repeated_from, slice_get-behind}
use Rattle.tipc_link.proofs.LinkLaw.{Each}
use Rattle.tipc_paired.proofs.wires.Frames.{packet_frames-at}
use Rattle.tipc_paired.proofs.wires.Wires.{mapped_at}
use Rattle.tipc_paired.specs.Deeds.{MayTell, sends}
use Rattle.tipc_paired.specs.Views.{Wire, session_on}

-- packets that are sent again may be told
pub repeats_may : (w : Wire) (s : SessionEnd) (acknowledgement missed : ℕ) → session_on w ≡ Some s → Each (MayTell w) (repeat_frames s acknowledgement missed)
unfolding repeat_frames
repeats_may w s acknowledgement missed on k o is =
    let at = mapped_at (λ (t : Kept). packet_frame s t.number t.packet) (repeated s acknowledgement missed) k o is in
    let kept = repeated_from s acknowledgement missed k at.0 at.1 in
    subst (MayTell w) at.2 (sends s kept.0 at.0 on kept.1)

kept_behind : (before : ℕ) (unacked more : List (List ℕ)) → kept_after before (unacked ++ more) ≡ kept_after before unacked ++ kept_after (before + length unacked) more
kept_behind before [] more = ap (λ n. kept_after n more) (let same : before ≡ before + 0 = omega arith in same)
kept_behind before (x ∷ unacked) more =
    ap (λ (ks : List Kept). record { number = number_of (before + 1); packet = x } ∷ ks) (kept_behind (before + 1) unacked more ∙ ap (λ n. kept_after (before + 1) unacked ++ kept_after n more) (let same : before + 1 + length unacked ≡ before + suc (length unacked) = omega arith in same))

kept_one : (before : ℕ) (packets : List (List ℕ)) (k : ℕ) (q : List ℕ) → slice_get packets k ≡ Some q → slice_get (kept_after before packets) k ≡ Some (record { number = number_of (before + k + 1); packet = q })
kept_one before [] k q is = absurd (let none : ⊥ = cc in none)
kept_one before (x ∷ packets) zero q is = (let same : x ≡ q = cc in ap (λ n. Some (record { number = number_of n; packet = x })) (let sum : before + 1 ≡ before + 0 + 1 = omega arith in sum) ∙ ap (λ (y : List ℕ). Some (record { number = number_of (before + 0 + 1); packet = y })) same)
kept_one before (x ∷ packets) (suc k) q is = kept_one (before + 1) packets k q is ∙ ap (λ n. Some (record { number = number_of n; packet = q })) (let sum : before + 1 + k + 1 ≡ before + suc k + 1 = omega arith in sum)

-- what is kept when waiting packets were numbered
kept_flushed : (z : Sending) (n : ℕ) → n ≤ length z.waiting → length z.unacked ≤ z.numbered → kept_of (advanced n z) ≡ kept_after (acked_of z) z.unacked ++ kept_after (acked_of z + length z.unacked) (take n z.waiting)
kept_flushed z n few below =
    let short : length (take n z.waiting) ≡ n = length-take-le n z.waiting few in
    let long = length-append z.unacked (take n z.waiting) in
    let same : acked_of (advanced n z) ≡ acked_of z = omega arith in
    ap (λ a. kept_after a (z.unacked ++ take n z.waiting)) same ∙ kept_behind (acked_of z) z.unacked (take n z.waiting)

-- packets that move up may be told once they have their numbers
pub flush_may : (w : Wire) (s : SessionEnd) (taken : ℕ) (line : List (List ℕ)) → IsDirection s.sending taken line → session_on w ≡ Some (flushed s) → Each (MayTell w) (flush_frames s)
unfolding flush_frames flushed
flush_may w s taken line d on k o is =
    let at = packet_frames-at s s.sending.numbered (moving s) k o is in
    let below = d.below in
    let acked = acked_of s.sending in
    let unacked = s.sending.unacked in
    let place : acked + length unacked ≡ s.sending.numbered = omega arith in
    let one = kept_one (acked + length unacked) (moving s) k at.0 at.1 in
    let there = slice_get-behind (kept_after acked unacked) (kept_after (acked + length unacked) (moving s)) k _ one in
    let kept_now : kept_of (flushed s).sending ≡ kept_after acked unacked ++ kept_after (acked + length unacked) (moving s) = kept_flushed s.sending (room s.sending) (omega arith) below in
    let packet : Kept = record { number = number_of (acked + length unacked + k + 1); packet = at.0 } in
    subst (MayTell w) (ap (λ n. packet_frame s (number_of (n + k + 1)) at.0) place ∙ sym at.2) (sends (flushed s) _ packet on (ap (λ (ks : List Kept). slice_get ks (length (kept_after acked unacked) + k)) kept_now ∙ there))
