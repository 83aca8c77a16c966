-- Where packets wait on a broadcast link, as many are unacknowledged as may: so it is behind whatever happens there.
use Rattle.std.proofs.Common.{◌≡◌, ◌≤◌, ◌<◌, ◌+◌, ◌-◌, ℕ, Bool, true, false, List, [], ◌∷◌, ◌++◌, inl, inr, refl, length, take, arith, length-append, zero, suc}
use Rattle.std.specs.Prelude.{◌⊎◌, min, if◌then◌else◌}
use Rattle.std.proofs.lemmas.Bool.{cases_lt}
use Rattle.std.proofs.lemmas.List.{length-drop, length-take, drop_all}
use Rattle.tipc_types.specs.declared.link_words.BroadcastState.{BroadcastState}
use Rattle.tipc_send_window.specs.Sending.{Sending, acked_of, passed_over, advanced, room}
use Rattle.tipc_broadcast.specs.declared.contacts.Contact.{Contact}
use Rattle.tipc_broadcast.specs.Casting.{Casting, IsPackedCast, answered, credited, flushed, informed, kept_for, left_with, moved_up, settled, stating, with_contacts, with_message, with_sending}
use Rattle.tipc_broadcast.specs.Contacts.{acked_by_all, without}
use Rattle.tipc_broadcast.specs.Deeds.{CastDeed, after_deed, after_deeds}

-- what moves up fills the window, or all of it does
up_to : (s : Sending) → length s.unacked ≤ 50 → IsPackedCast (advanced (room s) s)
up_to s within = by (cases_lt (50 - length s.unacked) (length s.waiting))
  where
    taken : length (take (room s) s.waiting) ≡ min (room s) (length s.waiting)
    taken = length-take (room s) s.waiting

    both : length (s.unacked ++ take (room s) s.waiting) ≡ length s.unacked + length (take (room s) s.waiting)
    both = length-append s.unacked (take (room s) s.waiting)

    by : ((50 - length s.unacked) < length s.waiting) ⊎ (length s.waiting ≤ 50 - length s.unacked) → IsPackedCast (advanced (room s) s)
    by (inl less) =
        let count : room s ≡ 50 - length s.unacked = omega (arith, less) in
        (omega (arith, count, taken, both, within, less), inr (omega (arith, count, taken, both, within, less)))
    by (inr all) =
        let count : room s ≡ length s.waiting = omega (arith, all) in
        (omega (arith, count, taken, both, within, all), inl (drop_all (room s) s.waiting (omega (arith, all))))

pub flushed_packed : (v : Casting) → length v.sending.unacked ≤ 50 → IsPackedCast (flushed v).sending
unfolding flushed
flushed_packed v within = up_to v.sending within

-- what is released leaves room
settled_few : (v : Casting) → length v.sending.unacked ≤ 50 → length (settled v).sending.unacked ≤ 50
unfolding settled
settled_few v within = omega (arith, length-drop (acked_by_all v.sending.numbered v.contacts - acked_of v.sending) v.sending.unacked, within)

-- where all is given up nothing waits
none_packed : (v : Casting) → IsPackedCast (with_sending v (passed_over v.sending)).sending
none_packed v = (omega arith, inl refl)

-- ---- whatever happens

-- however often packets are released and move up
moved_few : (n : ℕ) (v : Casting) → length v.sending.unacked ≤ 50 → length (moved_up n v).sending.unacked ≤ 50
unfolding moved_up
moved_few zero v within = within
moved_few (suc n) v within = (flushed_packed (settled (moved_up n v)) (settled_few (moved_up n v) (moved_few n v within))).0

moved_packed : (n : ℕ) (v : Casting) → length v.sending.unacked ≤ 50 → IsPackedCast (moved_up (suc n) v).sending
unfolding moved_up
moved_packed n v within = flushed_packed (settled (moved_up n v)) (settled_few (moved_up n v) (moved_few n v within))

left_packed : (peers : List Contact) (v : Casting) → length v.sending.unacked ≤ 50 → IsPackedCast (left_with peers v).sending
left_packed [] v within = none_packed v
left_packed (c ∷ peers) v within = moved_packed 5 v within

kept_packed : (peers : List Contact) (v : Casting) → IsPackedCast v.sending → IsPackedCast (kept_for peers v).sending
kept_packed [] v h = none_packed v
kept_packed (c ∷ peers) v h = h

answered_packed : (v : Casting) (peer number : ℕ) → length v.sending.unacked ≤ 50 → IsPackedCast (answered v peer number).sending
answered_packed v peer number within = flushed_packed (settled (credited v peer number)) (settled_few (credited v peer number) within)

stating_packed : (v : Casting) (peer : ℕ) (seen : BroadcastState) → IsPackedCast v.sending → IsPackedCast (stating v peer seen).sending
stating_packed v peer seen h = by seen.in_step
  where
    by : (b : Bool) → IsPackedCast (if b then answered (informed v peer seen.start seen.next) peer seen.acknowledged else informed v peer seen.start seen.next).sending
    by true = answered_packed (informed v peer seen.start seen.next) peer seen.acknowledged h.0
    by false = h

deed_packed : (d : CastDeed) (v : Casting) → IsPackedCast v.sending → IsPackedCast (after_deed d v).sending
deed_packed (CastDeed.joins peer boot) v h = h
deed_packed (CastDeed.leaves peer) v h = left_packed (without peer v.contacts) (with_contacts v (without peer v.contacts)) h.0
deed_packed (CastDeed.states peer seen) v h = stating_packed v peer seen h
deed_packed (CastDeed.bears bearer is_mended) v h = h
deed_packed (CastDeed.hears boot members by packet) v h = h
deed_packed (CastDeed.sends pieces) v h = kept_packed v.contacts (flushed (with_message v pieces)) (flushed_packed (with_message v pieces) h.0)

pub deeds_packed : (ds : List CastDeed) (v : Casting) → IsPackedCast v.sending → IsPackedCast (after_deeds ds v).sending
deeds_packed [] v h = h
deeds_packed (d ∷ ds) v h = deeds_packed ds (after_deed d v) (deed_packed d v h)
