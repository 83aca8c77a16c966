-- What an end does in a session takes nothing back.
use Rattle.std.proofs.Common.{ℕ, ◌≤◌, Bool, true, false, if◌then◌else◌, List, [], ◌∷◌, take, length-append, length-drop, arith}
use Rattle.std.proofs.lemmas.List.{length-take}
use Rattle.tipc_send_window.specs.Sending.{Sending, acked_of, advanced, room}
use Rattle.tipc_send_window.specs.Sending as window
use Rattle.tipc_link.specs.Records.{advanced_by, is_next}
use Rattle.tipc_link.specs.Sessions.{SessionEnd, Carries, Nothing, Shows, flushed, highest, joins, noted, receiving_record, after_acknowledgement, spoke, waits, with_record}
use Rattle.tipc_repair.specs.Laws.{AnswersGoOn, FlushesGoOn, GoesOn, HearingsGoOn, PutsGoOn, RecordsGoOn, TellingsGoOn}

stays : (e : SessionEnd) → GoesOn e e
stays e = record { numbered = omega arith; acked = omega arith; taken = omega arith; shown = omega arith }

-- packets are released from the front
releases : (e : SessionEnd) (acknowledgement : ℕ) → GoesOn e (after_acknowledgement e acknowledgement)
releases e acknowledgement =
    let fewer = length-drop (window.release_count e.sending acknowledgement) e.sending.unacked in
    record { numbered = omega arith; acked = omega (arith, fewer); taken = omega arith; shown = omega arith }

shows_no_less : (e : SessionEnd) (number : ℕ) → e.shown ≤ highest e number
unfolding highest
shows_no_less e number = omega arith

shows_on : {A : Type 0} (e after : SessionEnd) (others : List A) (next : ℕ) (probe : Bool) → GoesOn e after → GoesOn e (noted (spoke after others) next probe)
shows_on e after [] next probe h =
    let shown = h.shown in
    let more = shows_no_less after next in
    record { numbered = h.numbered; acked = h.acked; taken = h.taken; shown = omega (arith, shown, more) }
shows_on e after (x ∷ xs) next probe h =
    let shown = h.shown in
    let more = shows_no_less (spoke after (x ∷ xs)) next in
    record { numbered = h.numbered; acked = h.acked; taken = h.taken; shown = omega (arith, shown, more) }

pub hearings : HearingsGoOn
hearings e by acknowledgement (Shows next gap probe) = shows_on e (after_acknowledgement e acknowledgement) _ next probe (releases e acknowledgement)
hearings e by acknowledgement (Carries number packet) =
    let h = releases e acknowledgement in
    record { numbered = h.numbered; acked = h.acked; taken = omega arith; shown = omega arith }
hearings e by acknowledgement Nothing = stays e

moves : (n : ℕ) (s : Sending) → acked_of s ≤ acked_of (advanced n s)
moves n s =
    let all = length-append s.unacked (take n s.waiting) in
    let few = length-take n s.waiting in
    omega (arith, all, few)

pub flushes : FlushesGoOn
unfolding flushed
flushes e = record { numbered = omega arith; acked = moves (room e.sending) e.sending; taken = omega arith; shown = omega arith }

pub puts : PutsGoOn
puts e after pieces (joins packets packet may) = record { numbered = omega arith; acked = omega arith; taken = omega arith; shown = omega arith }
puts e after pieces (waits others alone) = record { numbered = omega arith; acked = omega arith; taken = omega arith; shown = omega arith }

pub tellings : TellingsGoOn
tellings e = record { numbered = omega arith; acked = omega arith; taken = omega arith; shown = omega arith }

pub answers : AnswersGoOn
answers e = record { numbered = omega arith; acked = omega arith; taken = omega arith; shown = omega arith }

pub records : RecordsGoOn
records e epoch t =
    let r = receiving_record e in
    elim (is_next r epoch t) as (λ b. GoesOn e (with_record e (if b then advanced_by r t else r))) [
      | true ↦ record { numbered = omega arith; acked = omega arith; taken = omega arith; shown = omega arith }
      | false ↦ record { numbered = omega arith; acked = omega arith; taken = omega arith; shown = omega arith }
    ]
