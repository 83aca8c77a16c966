-- The frames in the caster's lists stay those of the packets at their places, and so are those that leave.
use Rattle.std.proofs.Common.{◌≡◌, ℕ, zero, suc, ◌+◌, ◌-◌, ◌^◌, ◌<◌, ◌≤◌, Bool, true, false, if◌then◌else◌, List, [], ◌∷◌, ◌++◌, length, take, drop, map, Option, Some, None, is_some, refl, sym, ap, ◌∙◌, subst, append_assoc, length-append, length-drop, arith}
use Rattle.std.specs.Prelude.{All, slice_get, slice_index_or}
use Rattle.std.proofs.lemmas.List.{get_or_append_left, length-take-le}
use Rattle.std.proofs.lemmas.List.Elements.{All-append, All-cons, All-filter, All-head, All-nil, All-tail, All-weaker}
use Rattle.std.proofs.lemmas.Option.{get_or_from_slice_get, slice_get-get_or, slice_get_within}
use Rattle.std.proofs.Math.Seq.{get_or-append_seam}
use Rattle.tipc_types.specs.Address.{IsNodeWord}
use Rattle.tipc_types.specs.Position.{number_of}
use Rattle.tipc_types.specs.declared.identity.To.TheVariants as to
use Rattle.tipc_types.specs.declared.link_words.BroadcastState.{BroadcastState}
use Rattle.tipc_types.specs.declared.packet_lists.Kept.{Kept}
use Rattle.tipc_outside.specs.declared.outgoing.Outgoing.{Outgoing}
use Rattle.tipc_header.specs.Frames.{frame_of, stamped}
use Rattle.tipc_send_window.specs.Sending.{acked_of, IsSending, kept_after, kept_of, passed_over, released, Sending, advanced, room}
use Rattle.tipc_broadcast.specs.declared.contacts.Contact.{Contact}
use Rattle.tipc_broadcast.specs.Contacts.{contact_with, is_member, IsContact, member_set, without}
use Rattle.tipc_broadcast.specs.Frames.{accepted_frame, cast, cast_again, cast_all, numbered_frame, on_bearer}
use Rattle.tipc_broadcast.specs.Casting.{accepted, accepting, accepting_frames, answered, answered_frames, Casting, credited, flush_frames, flushed, informed, is_behind, IsCasting, joining, kept_for, leaving, leaving_frames, left_frames, left_with, moved_up_frames, moved_up, repeat_frames, rounds_of_departure, settled, stating, stating_frames, with_contacts, with_message, with_sending}
use Rattle.tipc_broadcast.proofs.Apart.{accepted_flushed, accepted_settled}
use Rattle.tipc_broadcast.proofs.Deeds.{moved_up_alike}
use Rattle.tipc_broadcast.proofs.FrameLaws.{frames_are_stamped}
use Rattle.tipc_broadcast.proofs.Keeping.{acked_by_all-below, leave-keeps, offer-keeps, release-keeps, to_release}
use Rattle.tipc_broadcast.proofs.Lawful.{IsLink, moved_right, settled_right}
use Rattle.tipc_broadcast.proofs.SetLaws.{sets_have_32_bits, sets_tell_members}
use Rattle.tipc_broadcast_law.specs.Groups.{Accepted, Caster, Group, Member}
use Rattle.tipc_broadcast_law.specs.Events.{accepting_entry as accepting_one}
use Rattle.tipc_broadcast_law.specs.Lines.{AreFramesAt, IsCastFrame, IsFrameAt, IsLined, KeepsLines}
use Rattle.tipc_broadcast_law.specs.Steps.{Casts, IsSeen, line_of}
use Rattle.tipc_broadcast_law.proofs.calls.Calls.{released-sending}
use Rattle.tipc_broadcast_law.proofs.calls.Stating.{credited-casting, informed-casting}

-- ---- frames side by side

frames_from : (own boot : ℕ) (line : List Accepted) (x y : ℕ) (frames : List (List ℕ)) → x ≡ y → AreFramesAt own boot line x frames → AreFramesAt own boot line y frames
frames_from own boot line x y frames same h = subst (λ z. AreFramesAt own boot line z frames) same h

join_frames : (own boot : ℕ) (line : List Accepted) (x : ℕ) (fs gs : List (List ℕ)) → AreFramesAt own boot line x fs → AreFramesAt own boot line (x + length fs) gs → AreFramesAt own boot line x (fs ++ gs)
join_frames own boot line x [] gs one two = frames_from own boot line (x + 0) x gs (omega arith) two
join_frames own boot line x (f ∷ fs) gs one two =
    let past : x + length (f ∷ fs) ≡ x + 1 + length fs = omega arith in
    (one.0, join_frames own boot line (x + 1) fs gs one.1 (frames_from own boot line (x + length (f ∷ fs)) (x + 1 + length fs) gs past two))

take_frames : (own boot : ℕ) (line : List Accepted) (n x : ℕ) (fs : List (List ℕ)) → AreFramesAt own boot line x fs → AreFramesAt own boot line x (take n fs)
take_frames own boot line zero x fs h = tt
take_frames own boot line (suc n) x [] h = tt
take_frames own boot line (suc n) x (f ∷ fs) h = (h.0, take_frames own boot line n (x + 1) fs h.1)

drop_frames : (own boot : ℕ) (line : List Accepted) (n x : ℕ) (fs : List (List ℕ)) → AreFramesAt own boot line x fs → AreFramesAt own boot line (x + n) (drop n fs)
drop_frames own boot line zero x fs h = frames_from own boot line x (x + 0) fs (omega arith) h
drop_frames own boot line (suc n) x [] h = tt
drop_frames own boot line (suc n) x (f ∷ fs) h =
    let past : x + 1 + n ≡ x + suc n = omega arith in
    frames_from own boot line (x + 1 + n) (x + suc n) (drop n fs) past (drop_frames own boot line n (x + 1) fs h.1)

get_more : (line more : List Accepted) (x : ℕ) (e : Accepted) → slice_get line x ≡ Some e → slice_get (line ++ more) x ≡ Some e
get_more line more x e is =
    let within : x < length line = slice_get_within line x e is in
    let inside : x < length (line ++ more) = omega (arith, within, length-append line more) in
    slice_get-get_or (line ++ more) x e inside ∙ ap Some (get_or_append_left line more e x within ∙ get_or_from_slice_get line x e e is)

grow_frames : (own boot : ℕ) (line more : List Accepted) (x : ℕ) (fs : List (List ℕ)) → AreFramesAt own boot line x fs → AreFramesAt own boot (line ++ more) x fs
grow_frames own boot line more x [] h = tt
grow_frames own boot line more x (f ∷ fs) h =
    let one = h.0 in
    (record { entry = one.entry; there = get_more line more x one.entry one.there; long = one.long; set = one.set; set_fits = one.set_fits; is = one.is; members = one.members }, grow_frames own boot line more (x + 1) fs h.1)

-- the frames of a message, whose packets stand behind all others
message_frames : (g : Group) (own boot set : ℕ) (line : List Accepted) (pieces : List (List ℕ)) → set < 2 ^ 32 → All (λ piece. 16 ≤ length piece) pieces → ((node : ℕ) → IsNodeWord node → is_member node set ≡ is_some (g.members node).joined)
    → AreFramesAt own boot (line ++ map (accepting_one g) pieces) (length line) (map (accepted_frame own boot set) pieces)
message_frames g own boot set line [] fits long members = tt
message_frames g own boot set line (p ∷ ps) fits long members =
    let e = accepting_one g p in
    let rest = map (accepting_one g) ps in
    let within : length line < length (line ++ e ∷ rest) = omega (arith, length-append line (e ∷ rest)) in
    let there : slice_get (line ++ e ∷ rest) (length line) ≡ Some e = slice_get-get_or (line ++ e ∷ rest) (length line) e within ∙ ap Some (get_or-append_seam line e rest e) in
    let longer : length (line ++ e ∷ []) ≡ length line + 1 = length-append line (e ∷ []) in
    let more = message_frames g own boot set (line ++ e ∷ []) ps fits (All-tail (λ piece. 16 ≤ length piece) p ps long) members in (
      record { entry = e; there = there; long = All-head (λ piece. 16 ≤ length piece) p ps long; set = set; set_fits = fits; is = refl; members = members },
      subst (λ l. AreFramesAt own boot l (length line + 1) (map (accepted_frame own boot set) ps)) (append_assoc line (e ∷ []) rest) (frames_from own boot ((line ++ e ∷ []) ++ rest) (length (line ++ e ∷ [])) (length line + 1) (map (accepted_frame own boot set) ps) longer more),
    )

-- ---- frames that leave

-- so many are numbered in this boot, and its line is this one
record IsOfBoot (a : Caster) (boot : ℕ) (line : List Accepted) (n : ℕ) : Type 0 where
  boot_is : a.boot ≡ boot
  line_is : a.line boot ≡ line
  count : a.numbered boot ≡ n

cast_one : (a : Caster) (own boot : ℕ) (line : List Accepted) (n k x bearer number : ℕ) (mended : List Bool) (frame : List ℕ) → IsOfBoot a boot line n → IsFrameAt own boot line x frame → number ≡ number_of (x + 1) → x < n → k < x + 1 + 50 + 246
    → All (IsCastFrame a own k) (on_bearer mended (numbered_frame number frame) bearer)
cast_one a own boot line n k x bearer number mended frame h is at low high =
    let bytes = numbered_frame number frame in
    let f : Outgoing = record { bearer = bearer; to = to.All; frame = bytes } in
    let spelled : bytes ≡ frame_of boot is.set (stamped 0 (number_of (x + 1)) own is.entry.packet) =
    ap (numbered_frame number) is.is ∙ frames_are_stamped own boot is.set number is.entry.packet is.long ∙ ap (λ j. frame_of boot is.set (stamped 0 j own is.entry.packet)) at in
    let one : IsCastFrame a own k f = record {
      to_all = refl;
      boot = boot;
      in_boot = (let same = h.boot_is in omega arith);
      place = x;
      set = is.set;
      set_fits = is.set_fits;
      packet = is.entry.packet;
      bytes = spelled;
      cast = record {
        entry = is.entry;
        there = ap (λ l. slice_get l x) h.line_is ∙ is.there;
        packet_is = refl;
        numbered = subst (λ j. x < j) (sym h.count) low;
        members = is.members;
        stamped = high;
      };
    } in
    elim (slice_index_or mended bearer false) as (λ b. All (IsCastFrame a own k) (if b then f ∷ [] else [])) [
      | true ↦ All-cons (IsCastFrame a own k) f [] one (All-nil (IsCastFrame a own k))
      | false ↦ All-nil (IsCastFrame a own k)
    ]

cast_both : (a : Caster) (own boot : ℕ) (line : List Accepted) (n k x number : ℕ) (mended : List Bool) (frame : List ℕ) → IsOfBoot a boot line n → IsFrameAt own boot line x frame → number ≡ number_of (x + 1) → x < n → k < x + 1 + 50 + 246
    → All (IsCastFrame a own k) (cast mended number frame)
cast_both a own boot line n k x number mended frame h is at low high =
    All-append (IsCastFrame a own k) (on_bearer mended (numbered_frame number frame) 0) (on_bearer mended (numbered_frame number frame) 1) (cast_one a own boot line n k x 0 number mended frame h is at low high) (cast_one a own boot line n k x 1 number mended frame h is at low high)

-- what moves up
casts_all : (a : Caster) (own boot : ℕ) (line : List Accepted) (n k x : ℕ) (mended : List Bool) (fs : List (List ℕ)) → IsOfBoot a boot line n → AreFramesAt own boot line x fs → x + length fs ≤ n → k < x + 1 + 50 + 246
    → All (IsCastFrame a own k) (cast_all mended x fs)
casts_all a own boot line n k x mended [] h are low high = All-nil (IsCastFrame a own k)
casts_all a own boot line n k x mended (f ∷ fs) h are low high =
    All-append (IsCastFrame a own k) (cast mended (number_of (x + 1)) f) (cast_all mended (x + 1) fs) (cast_both a own boot line n k x (number_of (x + 1)) mended f h are.0 refl (omega arith) high)
    (casts_all a own boot line n k (x + 1) mended fs h are.1 (omega arith) (omega arith))

-- a packet beside its number, as it is sent again
abbrev IsKeptAt : ℕ → ℕ → List Accepted → ℕ → ℕ → Kept → Type 0
IsKeptAt own boot line n stamp k = (x : ℕ) × IsFrameAt own boot line x k.packet × (k.number ≡ number_of (x + 1)) × (x < n) × (stamp < x + 1 + 50 + 246)

kept_frames : (own boot : ℕ) (line : List Accepted) (n stamp x : ℕ) (fs : List (List ℕ)) → AreFramesAt own boot line x fs → x + length fs ≤ n → stamp < x + 1 + 50 + 246 → All (IsKeptAt own boot line n stamp) (kept_after x fs)
kept_frames own boot line n stamp x [] are low high = All-nil (IsKeptAt own boot line n stamp)
kept_frames own boot line n stamp x (f ∷ fs) are low high =
    All-cons (IsKeptAt own boot line n stamp) _ (kept_after (x + 1) fs) (x, are.0, refl, omega arith, high) (kept_frames own boot line n stamp (x + 1) fs are.1 (omega arith) (omega arith))

casts_again : (a : Caster) (own boot : ℕ) (line : List Accepted) (n stamp : ℕ) (mended : List Bool) (ks : List Kept) → IsOfBoot a boot line n → All (IsKeptAt own boot line n stamp) ks → All (IsCastFrame a own stamp) (cast_again mended ks)
casts_again a own boot line n stamp mended [] h all = All-nil (IsCastFrame a own stamp)
casts_again a own boot line n stamp mended (k ∷ ks) h all =
    let one = All-head (IsKeptAt own boot line n stamp) k ks all in
    All-append (IsCastFrame a own stamp) (cast mended k.number k.packet) (cast_again mended ks) (cast_both a own boot line n stamp one.0 k.number mended k.packet h one.1 one.2 one.3 one.4)
    (casts_again a own boot line n stamp mended ks h (All-tail (IsKeptAt own boot line n stamp) k ks all))

-- ---- the calls

room_within : (s : Sending) → room s ≤ length s.waiting
room_within s = omega arith

flush_lines : (line : List Accepted) (v : Casting) → IsSending v.sending → IsCasting v.own v.sending v.contacts → IsLined line v → KeepsLines v.own line (flushed v) (flush_frames v)
unfolding flushed flush_frames
flush_lines line v window is h =
    let s = v.sending in
    let n = room s in
    let begun = window.numbered in
    let fifty = window.window in
    let few = is.few in
    let short : n ≤ length s.waiting = room_within s in
    let front = take n s.waiting in
    let long : length front ≡ n = length-take-le n s.waiting short in
    let more = length-append s.unacked front in
    let same : acked_of s ≡ s.numbered + n - length (s.unacked ++ front) = omega (arith, more, long) in
    let end : s.numbered ≡ acked_of s + length s.unacked = omega arith in
    let first = take_frames v.own v.boot line n s.numbered s.waiting h.waiting in
    record {
      lined = record {
        unacked = frames_from v.own v.boot line (acked_of s) (s.numbered + n - length (s.unacked ++ front)) (s.unacked ++ front) same
            (join_frames v.own v.boot line (acked_of s) s.unacked front h.unacked (frames_from v.own v.boot line s.numbered (acked_of s + length s.unacked) front end first));
        waiting = drop_frames v.own v.boot line n s.numbered s.waiting h.waiting;
      };
      sent = λ a boot line_is count. casts_all a v.own v.boot line (s.numbered + n) (s.numbered + n + length (drop n s.waiting)) s.numbered v.mended front (record { boot_is = boot; line_is = line_is; count = count }) first (omega (arith, long)) (omega (arith, length-drop n s.waiting, short, few));
    }

-- what moves up, where more is passed over behind it
flush_sent : (line : List Accepted) (v : Casting) (n : ℕ) (a : Caster) → IsCasting v.own v.sending v.contacts → IsLined line v → n ≡ v.sending.numbered + length v.sending.waiting → IsOfBoot a v.boot line n → All (IsCastFrame a v.own n) (flush_frames v)
unfolding flush_frames
flush_sent line v n a is h end at =
    let s = v.sending in
    let few = is.few in
    let short : room s ≤ length s.waiting = room_within s in
    let long : length (take (room s) s.waiting) ≡ room s = length-take-le (room s) s.waiting short in
    casts_all a v.own v.boot line n n s.numbered v.mended (take (room s) s.waiting) at (take_frames v.own v.boot line (room s) s.numbered s.waiting h.waiting) (omega (arith, long)) (omega arith)

-- what is sent again
repeat_sent : (line : List Accepted) (v : Casting) (acknowledgement gap n stamp : ℕ) (a : Caster) → IsSending v.sending → IsLined line v → v.sending.numbered ≤ n → stamp ≤ v.sending.numbered + 246 → IsOfBoot a v.boot line n
    → All (IsCastFrame a v.own stamp) (repeat_frames v acknowledgement gap)
unfolding repeat_frames
repeat_sent line v acknowledgement gap n stamp a window h low high at =
    let s = v.sending in
    let begun = window.numbered in
    let fifty = window.window in
    casts_again a v.own v.boot line n stamp v.mended _ at
    (All-filter (is_behind acknowledgement gap) (IsKeptAt v.own v.boot line n stamp) (kept_of s) (kept_frames v.own v.boot line n stamp (acked_of s) s.unacked h.unacked (omega arith) (omega arith)))

settle_lines : (line : List Accepted) (v : Casting) → IsSending v.sending → IsCasting v.own v.sending v.contacts → IsLined line v → IsLined line (settled v)
unfolding settled
settle_lines line v window is h =
    let s = v.sending in
    let k = to_release s v.contacts in
    let below = acked_by_all-below s.numbered v.contacts in
    let begun = window.numbered in
    let left = length-drop k s.unacked in
    let same : acked_of s + k ≡ s.numbered - length (drop k s.unacked) = omega arith in
    record {
      unacked = frames_from v.own v.boot line (acked_of s + k) (s.numbered - length (drop k s.unacked)) (drop k s.unacked) same (drop_frames v.own v.boot line k (acked_of s) s.unacked h.unacked);
      waiting = h.waiting;
    }

-- a release, and what then moves up
settled_lines : (line : List Accepted) (v : Casting) → IsSending v.sending → IsCasting v.own v.sending v.contacts → IsLined line v → KeepsLines v.own line (flushed (settled v)) (flush_frames (settled v))
unfolding settled
settled_lines line v window is h =
    flush_lines line (with_sending v (released v.sending (to_release v.sending v.contacts))) (released-sending v.sending (to_release v.sending v.contacts) window) (release-keeps v.own v.sending v.contacts window is) (settle_lines line v window is h)

nothing_left : (line : List Accepted) (v : Casting) → IsLined line (with_sending v (passed_over v.sending))
nothing_left line v = record { unacked = tt; waiting = tt }

pub join_lines : (line : List Accepted) (v : Casting) (peer boot : ℕ) → IsLined line v → IsLined line (joining v peer boot)
join_lines line v peer boot h = record { unacked = h.unacked; waiting = h.waiting }

-- ---- packets that are released and move up, one round after another

-- The lists stand so, and these frames left, also where more have their numbers by then.
record MovesLines (own : ℕ) (line : List Accepted) (v : Casting) (frames : List Outgoing) : Type 0 where
  lined : IsLined line v
  sent : (a : Caster) (n : ℕ) → v.sending.numbered ≤ n → IsOfBoot a v.boot line n → All (IsCastFrame a own (accepted v.sending)) frames

settled_same : (v : Casting) → ((settled v).own ≡ v.own) × ((settled v).boot ≡ v.boot) × ((settled v).sending.numbered ≡ v.sending.numbered)
unfolding settled
settled_same v = (refl, refl, refl)

flushed_same : (v : Casting) → ((flushed v).boot ≡ v.boot) × ((flushed v).sending.numbered ≡ v.sending.numbered + room v.sending)
unfolding flushed
flushed_same v = (refl, refl)

flush_later : (line : List Accepted) (v : Casting) (n : ℕ) (a : Caster) → IsCasting v.own v.sending v.contacts → IsLined line v → v.sending.numbered + room v.sending ≤ n → IsOfBoot a v.boot line n → All (IsCastFrame a v.own (accepted v.sending)) (flush_frames v)
unfolding flush_frames
flush_later line v n a is h end at =
    let s = v.sending in
    let few = is.few in
    let short : room s ≤ length s.waiting = room_within s in
    let long : length (take (room s) s.waiting) ≡ room s = length-take-le (room s) s.waiting short in
    casts_all a v.own v.boot line n (accepted s) s.numbered v.mended (take (room s) s.waiting) at (take_frames v.own v.boot line (room s) s.numbered s.waiting h.waiting) (omega (arith, long, end)) (omega (arith, few))

-- one round more
moved_on : (own : ℕ) (line : List Accepted) (u : Casting) (frames : List Outgoing) → u.own ≡ own → IsLink u → MovesLines own line u frames → MovesLines own line (flushed (settled u)) (frames ++ flush_frames (settled u))
moved_on own line u frames same right h =
    let w = flushed (settled u) in
    let lined = settled_lines line u right.window right.casting h.lined in
    let alike = settled_same u in
    let more = flushed_same (settled u) in
    let whole : accepted w.sending ≡ accepted (settled u).sending = accepted_flushed (settled u) in
    let kept : accepted (settled u).sending ≡ accepted u.sending = accepted_settled u in
    let numbered : (settled u).sending.numbered ≡ u.sending.numbered = alike.2 in
    let end : w.sending.numbered ≡ (settled u).sending.numbered + room (settled u).sending = more.1 in
    record {
      lined = lined.lined;
      sent = λ a n up at.
          let between : IsOfBoot a (settled u).boot line n = subst (λ boot. IsOfBoot a boot line n) more.0 at in
          let first = h.sent a n (omega (arith, numbered, end, up)) (subst (λ boot. IsOfBoot a boot line n) alike.1 between) in
          let last = flush_later line (settled u) n a (settled_right u right).casting (settle_lines line u right.window right.casting h.lined) (omega (arith, end, up)) between in
          All-append (IsCastFrame a own (accepted w.sending)) frames (flush_frames (settled u))
          (subst (λ k. All (IsCastFrame a own k) frames) (sym (whole ∙ kept)) first)
          (subst (λ k. All (IsCastFrame a own k) (flush_frames (settled u))) (sym whole) (subst (λ o. All (IsCastFrame a o (accepted (settled u).sending)) (flush_frames (settled u))) (alike.0 ∙ same) last));
    }

moved_lines : (n : ℕ) (line : List Accepted) (v : Casting) → IsLink v → IsLined line v → MovesLines v.own line (moved_up n v) (moved_up_frames n v)
unfolding moved_up moved_up_frames
moved_lines zero line v right h = record { lined = h; sent = λ a n up at. All-nil (IsCastFrame a v.own (accepted v.sending)) }
moved_lines (suc n) line v right h = moved_on v.own line (moved_up n v) (moved_up_frames n v) (moved_up_alike n v).own (moved_right n v right) (moved_lines n line v right h)

left_lines : (line : List Accepted) (v : Casting) (cs : List Contact) → IsSending v.sending → IsCasting v.own v.sending v.contacts → IsLined line v → KeepsLines v.own line (left_with cs v) (left_frames cs v)
left_lines line v [] window is h = record { lined = nothing_left line v; sent = λ a boot line_is count. All-nil (IsCastFrame a v.own (accepted (passed_over v.sending))) }
left_lines line v (c ∷ cs) window is h =
    let moved = moved_lines rounds_of_departure line v (record { window = window; casting = is }) h in
    record { lined = moved.lined; sent = λ a boot line_is count. moved.sent a (moved_up rounds_of_departure v).sending.numbered (omega arith) (record { boot_is = boot; line_is = line_is; count = count }) }

pub leave_lines : (line : List Accepted) (v : Casting) (peer : ℕ) → IsSending v.sending → IsCasting v.own v.sending v.contacts → IsLined line v → KeepsLines v.own line (leaving v peer) (leaving_frames v peer)
leave_lines line v peer window is h =
    left_lines line (with_contacts v (without peer v.contacts)) (without peer v.contacts) window (leave-keeps v.own v.sending v.contacts peer is) (record { unacked = h.unacked; waiting = h.waiting })

-- ---- a message

-- who is in contact at the caster is in contact in the law
joined-is : (k : Member) (o : Option Contact) → IsSeen k o → is_some o ≡ is_some k.joined
joined-is k None seen = sym (ap is_some seen)
joined-is k (Some c) seen = sym (ap is_some seen.1)

words : (own : ℕ) (s : Sending) (cs : List Contact) → IsCasting own s cs → All (λ c. IsNodeWord c.peer.word) cs
words own s cs is = All-weaker (IsContact (acked_of s) (accepted s)) (λ c. IsNodeWord c.peer.word) (λ c h. h.node) cs is.contacts

offered_lines : (g : Group) (v : Casting) (pieces : List (List ℕ)) → Casts g v → IsCasting v.own v.sending v.contacts → All (λ piece. 16 ≤ length piece) pieces → IsLined (line_of g) v → IsLined (line_of g ++ map (accepting_one g) pieces) (with_message v pieces)
offered_lines g v pieces h is long lined =
    let s = v.sending in
    let line = line_of g in
    let more = map (accepting_one g) pieces in
    let set = member_set v.contacts in
    let members : (node : ℕ) → IsNodeWord node → is_member node set ≡ is_some (g.members node).joined = λ node word.
    sets_tell_members v.contacts node word (words v.own s v.contacts is) ∙ joined-is (g.members node) (contact_with node v.contacts) (h.members node) in
    let end : length line ≡ s.numbered + length s.waiting = sym h.accepted_all in
    record {
      unacked = grow_frames v.own v.boot line more (acked_of s) s.unacked lined.unacked;
      waiting = join_frames v.own v.boot (line ++ more) s.numbered s.waiting (map (accepted_frame v.own v.boot set) pieces) (grow_frames v.own v.boot line more s.numbered s.waiting lined.waiting)
          (frames_from v.own v.boot (line ++ more) (length line) (s.numbered + length s.waiting) (map (accepted_frame v.own v.boot set) pieces) end (message_frames g v.own v.boot set line pieces (sets_have_32_bits v.contacts (words v.own s v.contacts is)) long members));
    }

-- where all is passed over, as many were accepted as have numbers
past : (s : Sending) (n : ℕ) → accepted (passed_over (advanced n s)) ≡ s.numbered + n + length (drop n s.waiting)
past s n = omega arith

kept_lines : (line : List Accepted) (v : Casting) (cs : List Contact) → IsSending v.sending → IsCasting v.own v.sending v.contacts → IsLined line v → KeepsLines v.own line (kept_for cs (flushed v)) (flush_frames v)
unfolding flushed
kept_lines line v [] window is h =
    let s = v.sending in
    let n = room s in
    let short : n ≤ length s.waiting = room_within s in
    let end : s.numbered + n + length (drop n s.waiting) ≡ s.numbered + length s.waiting = omega (arith, length-drop n s.waiting, short) in
    record { lined = record { unacked = tt; waiting = tt }; sent = λ a boot line_is count. subst (λ k. All (IsCastFrame a v.own k) (flush_frames v)) (sym (past s n)) (flush_sent line v (s.numbered + n + length (drop n s.waiting)) a is h end (record { boot_is = boot; line_is = line_is; count = count })) }
kept_lines line v (c ∷ cs) window is h = flush_lines line v window is h

pub send_lines : (g : Group) (v : Casting) (pieces : List (List ℕ)) → Casts g v → IsSending (with_message v pieces).sending → IsCasting v.own v.sending v.contacts
    → All (λ piece. 16 ≤ length piece) pieces → All (λ piece. length piece ≤ 1452) pieces → length v.sending.waiting < 200 → length pieces ≤ 47 → IsLined (line_of g) v
    → KeepsLines v.own (line_of g ++ map (accepting_one g) pieces) (accepting v pieces) (accepting_frames v pieces)
send_lines g v pieces h window is long short few most lined =
    kept_lines (line_of g ++ map (accepting_one g) pieces) (with_message v pieces) v.contacts window (offer-keeps v.own v.boot (member_set v.contacts) v.sending v.contacts pieces long short few most is) (offered_lines g v pieces h is long lined)

-- ---- a STATE

answer_lines : (line : List Accepted) (v : Casting) (acknowledgement gap : ℕ) → IsSending v.sending → IsCasting v.own v.sending v.contacts → IsLined line v
    → KeepsLines v.own line (flushed (settled v)) (repeat_frames (settled v) acknowledgement gap ++ flush_frames (settled v))
unfolding flushed settled
answer_lines line v acknowledgement gap window is h =
    let k = to_release v.sending v.contacts in
    let w = with_sending v (released v.sending k) in
    let released_window = released-sending v.sending k window in
    let kept : KeepsLines v.own line (flushed w) (flush_frames w) = settled_lines line v window is h in
    let lined : IsLined line w = settle_lines line v window is h in
    let few = is.few in
    let short = room_within w.sending in
    record {
      lined = kept.lined;
      sent = λ a boot line_is count.
          All-append (IsCastFrame a v.own (accepted (flushed w).sending)) (repeat_frames w acknowledgement gap) (flush_frames w)
          (repeat_sent line w acknowledgement gap (flushed w).sending.numbered (accepted (flushed w).sending) a released_window lined (omega arith) (omega (arith, length-drop (room w.sending) w.sending.waiting, short, few)) (record { boot_is = boot; line_is = line_is; count = count })) (kept.sent a boot line_is count);
    }

pub state_lines : (line : List Accepted) (v : Casting) (peer : ℕ) (seen : BroadcastState) → IsSending v.sending → IsCasting v.own v.sending v.contacts → IsLined line v
    → KeepsLines v.own line (stating v peer seen) (stating_frames v peer seen)
state_lines line v peer seen window is h =
    let w = informed v peer seen.start seen.next in
    elim seen.in_step as (λ b. KeepsLines v.own line (if b then answered w peer seen.acknowledged else w) (if b then answered_frames w peer seen.acknowledged seen.gap else [])) [
      | true ↦ answer_lines line (credited w peer seen.acknowledged) seen.acknowledged seen.gap window (credited-casting v.own w peer seen.acknowledged (informed-casting v.own v peer seen.start seen.next is)) (record { unacked = h.unacked; waiting = h.waiting })
      | false ↦ record { lined = record { unacked = h.unacked; waiting = h.waiting }; sent = λ a boot line_is count. All-nil (IsCastFrame a v.own (accepted v.sending)) }
    ]
