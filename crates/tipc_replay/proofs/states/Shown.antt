-- Each STATE among the frames of a turn shows of broadcast what is given to be shown, and no other frame is read as a STATE.
use Rattle.std.specs.Prelude.{All, IfSome, ◌==◌, drop, if◌then◌else◌, map, take}
use Rattle.std.specs.List.{flat_map}
use Rattle.std.proofs.Common.{◌≡◌, ◌≤◌, ◌+◌, ◌-◌, ◌∙◌, ℕ, zero, suc, Bool, true, false, List, [], ◌∷◌, ◌++◌, Option, Some, None, length, option_map, refl, sym, subst, ap, length-append, length-take, length-drop, arith}
use Rattle.std.proofs.lemmas.Grind.{flat_map-append}
use Rattle.std.proofs.lemmas.List.{drop_at}
use Rattle.std.proofs.lemmas.List.Elements.{All-append, All-cons, All-head, All-nil, All-tail}
use Rattle.tipc_types.specs.declared.link_words.BroadcastState.{BroadcastState}
use Rattle.tipc_types.specs.declared.link_words.Reply.TheVariants as reply
use Rattle.tipc_types.specs.declared.packet_lists.Kept.{Kept}
use Rattle.tipc_outside.specs.declared.outgoing.Outgoing.{Outgoing}
use Rattle.tipc_header.specs.declared.frames.FrameKind.{FrameKind}
use Rattle.tipc_header.specs.declared.frames.FrameKind.TheVariants.{Casts, Finds, Links}
use Rattle.tipc_header.specs.declared.packet.Header.{Header}
use Rattle.tipc_header.specs.Frames.{envelope, frame_of, kind_in, stamped}
use Rattle.tipc_header.specs.Reading.{fields_at}
use Rattle.tipc_header.specs.Spelling.{from_bit, spelling, words}
use Rattle.tipc_header.proofs.FrameWords.{length-envelope}
use Rattle.tipc_header.proofs.Words.{length-words}
use Rattle.tipc_link_fsm.specs.declared.changes.Change.{Change}
use Rattle.tipc_link_fsm.specs.declared.changes.Change.TheVariants.{Answer, Up}
use Rattle.tipc_link_fsm.specs.Table.{Outcome, release}
use Rattle.tipc_link.specs.Links.{LinkEnd, activate_frames, after, answered_with, follow_frames, followed, frames, frames_with, is_answer, is_heard, is_reset_unknown, mend_frames, mended_end, named_end, newly_numbered, notice, notice_fields, recorded, release_frames, repeats_at, reset_frames, sent_again, session_answer, session_of, shown_by, state_frames, tunnelled_end, with_fsm, with_session}
use Rattle.tipc_link.specs.Parts.{IsShowable}
use Rattle.tipc_link.specs.Sessions.{Carries, Content, IsPut, Nothing, SessionEnd, Shows, after_acknowledgement, after_state, again_frames, answered, arrived, content_of, flush_frames, flushed, given_up, heard, is_behind, is_due, joins, moved_frames, moving, packet_frame, packet_frames, put, repeat_frames, repeated, spoke, state_fields, state_frame, waiting_given, waits, with_broadcast, with_record}
use Rattle.tipc_link.specs.Records.{Received}
use Rattle.tipc_send_window.specs.Sending.{acked_of, kept_after, kept_of}
use Rattle.tipc_pair.specs.Changeovers.{forgetting, let_go, parted, parted_end}
use Rattle.tipc_pair.specs.Courses.{Course, going_on, rests as nothing}
use Rattle.tipc_pair.specs.Facing.{PairEnds, ends_of, facing, made_of, other, with_made}
use Rattle.tipc_pair.specs.Messages.{IsMessage}
use Rattle.tipc_pair.specs.PairArrivals.{inside_of}
use Rattle.tipc_pair.specs.PairTurns.{Opening, PairTurn, Reply}
use Rattle.tipc_pair.specs.PairTurns.Opening.{hears, makes, ticks}
use Rattle.tipc_pair.specs.Runs.{left_by, taken_over}
use Rattle.tipc_pair.proofs.acts.Acts.{Act, Steps, near_course}
use Rattle.tipc_pair.proofs.acts.Acts.Act.{answers as answering, meets as meeting, puts as putting, resets as resetting, ticks as ticking}
use Rattle.tipc_pair.proofs.acts.Acts.Steps.{cut, meet, name, reset, tick}
use Rattle.tipc_pair.proofs.acts.Acting.{MayHappen, MayTurn, hears_may, opens_may, turn_course, turn_frames, turn_pair, turn_ran}
use Rattle.tipc_pair.proofs.acts.Walks.{Parts, tested, walks_by_parts}
use Rattle.tipc_pair.proofs.turns.PairKept.{Both, IsShown, IsShownAtLast, IsShownIn, both_turned}
use Rattle.tipc_replay.specs.Heard.{broadcast_of, state_in, state_of_kind}
use Rattle.tipc_replay.specs.Plain.{ArePlain, IsPlain, PlainIn}
use Rattle.tipc_replay.proofs.states.Plain.{all_filtered, plain_joined, plain_left, plain_pieces, plain_taken, stamped_user}
use Rattle.tipc_replay.proofs.states.Reading.{activate_silent, no_state, reset_silent, state_told}

-- ---- the lists of a session

-- of an end on whatever bearer
abbrev pub HasPlain : ℕ → LinkEnd → Type 0
HasPlain b e = PlainIn e.session

all_taken : {A : Type 0} (P : A → Type 0) (n : ℕ) (xs : List A) → All P xs → All P (take n xs)
all_taken P zero xs all = All-nil P
all_taken P (suc n) [] all = All-nil P
all_taken P (suc n) (x ∷ xs) all = All-cons P x (take n xs) (All-head P x xs all) (all_taken P n xs (All-tail P x xs all))

all_dropped : {A : Type 0} (P : A → Type 0) (n : ℕ) (xs : List A) → All P xs → All P (drop n xs)
all_dropped P zero xs all = all
all_dropped P (suc n) [] all = all
all_dropped P (suc n) (x ∷ xs) all = all_dropped P n xs (All-tail P x xs all)

-- with the same lists
same_plain : (s s' : SessionEnd) → s'.sending ≡ s.sending → ArePlain s → ArePlain s'
same_plain s s' same h = record { unacked = subst (λ q. All IsPlain q.unacked) (sym same) h.unacked; waiting = subst (λ q. All IsPlain q.waiting) (sym same) h.waiting }

flushed_plain : (s : SessionEnd) → ArePlain s → ArePlain (flushed s)
unfolding flushed
flushed_plain s h = record {
  unacked = All-append IsPlain s.sending.unacked (moving s) h.unacked (all_taken IsPlain _ s.sending.waiting h.waiting);
  waiting = all_dropped IsPlain _ s.sending.waiting h.waiting;
}

acknowledged_plain : (s : SessionEnd) (number : ℕ) → ArePlain s → ArePlain (after_acknowledgement s number)
acknowledged_plain s number h = record { unacked = all_dropped IsPlain _ s.sending.unacked h.unacked; waiting = h.waiting }

spoke_sending : {A : Type 0} (s : SessionEnd) (xs : List A) → (spoke s xs).sending ≡ s.sending
spoke_sending s [] = refl
spoke_sending s (x ∷ xs) = refl

heard_plain : (s : SessionEnd) (by acknowledgement : ℕ) (c : Content) → ArePlain s → ArePlain (heard s by acknowledgement c)
heard_plain s by acknowledgement (Shows next gap probe) h =
    same_plain (after_acknowledgement s acknowledgement) (heard s by acknowledgement (Shows next gap probe)) (spoke_sending (after_acknowledgement s acknowledgement) (repeated (after_acknowledgement s acknowledgement) acknowledgement gap)) (acknowledged_plain s acknowledgement h)
heard_plain s by acknowledgement (Carries number packet) h = same_plain (after_acknowledgement s acknowledgement) (heard s by acknowledgement (Carries number packet)) refl (acknowledged_plain s acknowledgement h)
heard_plain s by acknowledgement Nothing h = h

arrived_plain : (s : SessionEnd) (by acknowledgement : ℕ) (c : Content) → ArePlain s → ArePlain (arrived s by acknowledgement c)
arrived_plain s by acknowledgement (Shows next gap probe) h = flushed_plain (heard s by acknowledgement (Shows next gap probe)) (heard_plain s by acknowledgement (Shows next gap probe) h)
arrived_plain s by acknowledgement (Carries number packet) h = flushed_plain (heard s by acknowledgement (Carries number packet)) (heard_plain s by acknowledgement (Carries number packet) h)
arrived_plain s by acknowledgement Nothing h = h

put_plain : (s : SessionEnd) (packets : List (List ℕ)) → All IsPlain packets → ArePlain s → ArePlain (put s packets)
put_plain s packets all h = record { unacked = h.unacked; waiting = All-append IsPlain s.sending.waiting packets h.waiting all }

is_put_plain : (s : SessionEnd) (pieces : List (List ℕ)) (p : SessionEnd) → IsPut s pieces p → All IsPlain pieces → ArePlain s → ArePlain p
is_put_plain s _ _ (joins packets packet may) all h = record {
  unacked = h.unacked;
  waiting = All-append IsPlain (take (length s.sending.waiting - 1) s.sending.waiting) _ (all_taken IsPlain _ s.sending.waiting h.waiting)
      (All-cons IsPlain _ [] (plain_joined packets packet may.last.some) (All-nil IsPlain));
}
is_put_plain s _ _ (waits pieces apart) all h = put_plain s pieces all h

mapped_plain : (g : SessionEnd → SessionEnd) (session : Option SessionEnd) → ((s : SessionEnd) → ArePlain s → ArePlain (g s)) → PlainIn session → PlainIn (option_map g session)
mapped_plain g None keeps h s has = absurd (let wrong : None ≡ Some s = has in cc)
mapped_plain g (Some t) keeps h s has = (let there : g t ≡ s = cc in subst ArePlain there (keeps t (h t refl)))

some_plain : (s : SessionEnd) → ArePlain s → PlainIn (Some s)
some_plain s h t has = (let there : s ≡ t = cc in subst ArePlain there h)

followed_plain : (b : ℕ) (e : LinkEnd) (change : Change) → HasPlain b e → HasPlain b (followed e change)
followed_plain b e Up h = some_plain (session_of e) (record { unacked = All-nil IsPlain; waiting = All-nil IsPlain })
followed_plain b e (Answer (reply.State probe)) h = mapped_plain after_state e.session (λ s k. record { unacked = k.unacked; waiting = k.waiting }) h
followed_plain b e other h = h

-- ---- the frames

-- only a link packet is read as a STATE
pub links_only : (k : FrameKind) (bytes : List ℕ) (seen : BroadcastState) → state_of_kind k bytes ≡ Some seen → broadcast_of (fields_at (drop 16 bytes)).header ≡ Some seen
links_only Links bytes seen is = is
links_only Casts bytes seen is = absurd (let wrong : None ≡ Some seen = is in cc)
links_only Finds bytes seen is = absurd (let wrong : None ≡ Some seen = is in cc)

inner : (first second : ℕ) (packet : List ℕ) → drop 16 (frame_of first second packet) ≡ packet
inner first second packet = drop_at (envelope first second) packet 16 (length-envelope first second)

read_in : (first second : ℕ) (packet : List ℕ) (seen : BroadcastState) → state_in (frame_of first second packet) ≡ Some seen → broadcast_of (fields_at packet).header ≡ Some seen
read_in first second packet seen is = ap (λ bytes. broadcast_of (fields_at bytes).header) (sym (inner first second packet)) ∙ links_only (kind_in (frame_of first second packet)) (frame_of first second packet) seen is

module _ (S : Type 0) (show : S → BroadcastState) (showable : (x : S) → IsShowable (show x)) where
  -- where a frame that isn't too long is read as a STATE, it shows this
  abbrev pub IsSaid : Outgoing → Type 0
  IsSaid o = (seen : BroadcastState) → length o.frame ≤ 1516 → state_in o.frame ≡ Some seen → (x : S) × (show x ≡ seen)

  silent : (o : Outgoing) (first second : ℕ) (packet : List ℕ) → o.frame ≡ frame_of first second packet → broadcast_of (fields_at packet).header ≡ None → IsSaid o
  silent o first second packet is none seen short read =
      absurd (let wrong : None ≡ Some seen = sym none ∙ read_in first second packet seen (ap state_in (sym is) ∙ read) in let no : ⊥ = cc in no)

  said_state : (s : SessionEnd) (probe : Bool) (x : S) → IsSaid (state_frame s (show x) probe)
  said_state s probe x seen short read = (x, sym (state_told s (show x) seen probe (showable x) (read_in s.epoch s.peer_epoch (spelling (state_fields s (show x) probe)) seen read)))

  length_stamped : (acknowledgement sequence own : ℕ) (packet : List ℕ) → 16 ≤ length packet → length (stamped acknowledgement sequence own packet) ≡ length packet
  unfolding stamped
  length_stamped acknowledgement sequence own packet long =
      let two : List ℕ = words ((from_bit 16 acknowledgement + sequence) ∷ own ∷ []) in
      let behind = length-append two (drop 16 packet) in
      omega (arith, long, length-append (take 8 packet) (two ++ drop 16 packet), behind, length-take 8 packet, length-drop 16 packet, length-words ((from_bit 16 acknowledgement + sequence) ∷ own ∷ []))

  said_packet : (s : SessionEnd) (number : ℕ) (packet : List ℕ) → IsPlain packet → IsSaid (packet_frame s number packet)
  said_packet s number packet h seen short read =
      let bytes = stamped _ number s.own packet in
      let size : length bytes ≡ length packet = length_stamped _ number s.own packet h.long in
      let whole = length-append (envelope s.epoch s.peer_epoch) bytes in
      let head = length-envelope s.epoch s.peer_epoch in
      let few : length packet ≤ 1500 = omega (arith, short, whole, head, size) in
      silent (packet_frame s number packet) s.epoch s.peer_epoch bytes refl (no_state bytes (λ is. h.other few (sym (stamped_user _ number s.own packet h.long) ∙ is))) seen short read

  said_packets : (s : SessionEnd) (before : ℕ) (packets : List (List ℕ)) → All IsPlain packets → All IsSaid (packet_frames s before packets)
  said_packets s before [] all = All-nil IsSaid
  said_packets s before (packet ∷ packets) all = All-cons IsSaid _ _ (said_packet s _ packet (All-head IsPlain packet packets all)) (said_packets s (before + 1) packets (All-tail IsPlain packet packets all))

  said_flush : (s : SessionEnd) → ArePlain s → All IsSaid (flush_frames s)
  unfolding flush_frames
  said_flush s h = said_packets s _ _ (all_taken IsPlain _ s.sending.waiting h.waiting)

  kept_plain : (before : ℕ) (packets : List (List ℕ)) → All IsPlain packets → All (λ (k : Kept). IsPlain k.packet) (kept_after before packets)
  kept_plain before [] all = All-nil _
  kept_plain before (packet ∷ packets) all = All-cons (λ (k : Kept). IsPlain k.packet) _ _ (All-head IsPlain packet packets all) (kept_plain (before + 1) packets (All-tail IsPlain packet packets all))

  said_each : (s : SessionEnd) (ks : List Kept) → All (λ (k : Kept). IsPlain k.packet) ks → All IsSaid (map (λ k. packet_frame s k.number k.packet) ks)
  said_each s [] all = All-nil IsSaid
  said_each s (k ∷ ks) all = All-cons IsSaid _ _ (said_packet s k.number k.packet (All-head (λ (j : Kept). IsPlain j.packet) k ks all)) (said_each s ks (All-tail (λ (j : Kept). IsPlain j.packet) k ks all))

  said_repeats : (s : SessionEnd) (acknowledgement gap : ℕ) → ArePlain s → All IsSaid (repeat_frames s acknowledgement gap)
  unfolding repeat_frames repeated
  said_repeats s acknowledgement gap h = said_each s _ (all_filtered (λ (k : Kept). IsPlain k.packet) (is_behind acknowledgement gap) (kept_of s.sending) (kept_plain (acked_of s.sending) s.sending.unacked h.unacked))

  said_again : (s : SessionEnd) (acknowledgement : ℕ) (c : Content) → ArePlain s → All IsSaid (again_frames s acknowledgement c)
  said_again s acknowledgement (Shows next gap probe) h = said_repeats (after_acknowledgement s acknowledgement) acknowledgement gap (acknowledged_plain s acknowledgement h)
  said_again s acknowledgement (Carries number packet) h = All-nil IsSaid
  said_again s acknowledgement Nothing h = All-nil IsSaid

  said_moved : (s : SessionEnd) (c : Content) → ArePlain s → All IsSaid (moved_frames c s)
  said_moved s (Shows next gap probe) h = said_flush s h
  said_moved s (Carries number packet) h = said_flush s h
  said_moved s Nothing h = All-nil IsSaid

  -- ---- the frames of an end

  said_notice : (e : LinkEnd) (b : Bool) (h : Header) → broadcast_of (fields_at (spelling (notice_fields e h))).header ≡ None → All IsSaid (if b then notice e h ∷ [] else [])
  said_notice e true h none = All-cons IsSaid (notice e h) [] (silent (notice e h) _ _ (spelling (notice_fields e h)) refl none) (All-nil IsSaid)
  said_notice e false h none = All-nil IsSaid

  said_resets : (e : LinkEnd) → All IsSaid (reset_frames e)
  said_resets e = said_notice e e.mended _ (reset_silent e (shown_by e))

  said_activates : (e : LinkEnd) → All IsSaid (activate_frames e)
  said_activates e = said_notice e e.mended _ (activate_silent e (shown_by e))

  said_states : (session : Option SessionEnd) (x : S) (probe : Bool) → All IsSaid (state_frames session (show x) probe)
  said_states None x probe = All-nil IsSaid
  said_states (Some s) x probe = All-cons IsSaid _ [] (said_state s probe x) (All-nil IsSaid)

  said_follow : (e : LinkEnd) (change : Change) (x : S) → All IsSaid (follow_frames e change (show x))
  said_follow e Up x = All-cons IsSaid _ [] (said_state (session_of e) false x) (All-nil IsSaid)
  said_follow e (Answer reply.Reset) x = said_resets e
  said_follow e (Answer reply.Activate) x = said_activates e
  said_follow e (Answer (reply.State probe)) x = said_states e.session x probe
  said_follow e other x = All-nil IsSaid

  said_shown : (e : LinkEnd) (o : Outcome) (shown : BroadcastState) → IsShown S show shown → All IsSaid (frames e o shown)
  said_shown e o shown may = subst (λ k. All IsSaid (frames e o k)) may.1 (said_follow (with_fsm e o.after) o.change may.0)

  again_at : (session : Option SessionEnd) (acknowledgement : ℕ) (c : Content) → PlainIn session → All IsSaid (sent_again session acknowledgement c)
  again_at None acknowledgement c h = All-nil IsSaid
  again_at (Some s) acknowledgement c h = said_again s acknowledgement c (h s refl)

  newly_at : (session : Option SessionEnd) (by acknowledgement : ℕ) (c : Content) → PlainIn session → All IsSaid (newly_numbered session by acknowledgement c)
  newly_at None by acknowledgement c h = All-nil IsSaid
  newly_at (Some s) by acknowledgement c h = said_moved (heard s by acknowledgement c) c (heard_plain s by acknowledgement c (h s refl))

  answer_at : (session : Option SessionEnd) (x : S) → All IsSaid (session_answer session (show x))
  answer_at None x = All-nil IsSaid
  answer_at (Some s) x = tested (All IsSaid) (is_due s) (state_frame s (show x) false ∷ []) [] (λ _. All-cons IsSaid _ [] (said_state s false x) (All-nil IsSaid)) (λ _. All-nil IsSaid)

  answers_at : (e : LinkEnd) (taken : ℕ) (asks : Bool) (x : S) → All IsSaid (frames_with e taken asks (show x))
  answers_at e taken asks x = tested (All IsSaid) _ _ [] (λ _. answer_at (option_map (λ s. with_broadcast s taken asks) e.session) x) (λ _. All-nil IsSaid)

  -- ---- courses

  -- what is asked of an act: what is shown of the broadcast is given, and what is put isn't of link protocol
  abbrev May : PairEnds → Act → Type 0
  May x (ticking shown) = IsShown S show shown
  May x (resetting es shown) = IsShown S show shown
  May x (meeting es er p by shown) = IsShown S show shown
  May x (answering taken asks shown) = IsShown S show shown
  May x (putting pieces) = All IsPlain pieces
  May x other = Unit {0}

  record Keeps (c : Course) : Type 0 where
    both : Both HasPlain c.pair
    states : All IsSaid c.states
    numbered : All IsSaid c.numbered

  abbrev Keeping : PairEnds → Course → Type 0
  Keeping x c = Both HasPlain x → Keeps c

  near_so : (x : PairEnds) (e : LinkEnd) → x.near ≡ Some e → Both HasPlain x → HasPlain x.bearer e
  near_so x e is h = subst (λ o. IfSome o (HasPlain x.bearer)) is h.near

  far_so : (x : PairEnds) (e : LinkEnd) → x.far ≡ Some e → Both HasPlain x → HasPlain (other x.bearer) e
  far_so x e is h = subst (λ o. IfSome o (HasPlain (other x.bearer))) is h.far

  near_keeps : (x : PairEnds) (e : LinkEnd) (states numbered : List Outgoing) → Both HasPlain x → HasPlain x.bearer e → All IsSaid states → All IsSaid numbered → Keeps (near_course x e states numbered)
  near_keeps x e states numbered h q one two = record { both = record { two = h.two; near = q; far = h.far }; states = one; numbered = two }

  alone_keeps : (y : PairEnds) → Both HasPlain y → Keeps (nothing y)
  alone_keeps y h = record { both = h; states = All-nil IsSaid; numbered = All-nil IsSaid }

  -- ends with the same sessions
  same_ends : (g : LinkEnd → LinkEnd) (b : ℕ) (o : Option LinkEnd) → ((e : LinkEnd) → (g e).session ≡ e.session) → IfSome o (HasPlain b) → IfSome (option_map g o) (HasPlain b)
  same_ends g b None same q = q
  same_ends g b (Some e) same q = λ s has. q s (sym (same e) ∙ has)

  reset_one : (o : Option LinkEnd) → All IsSaid (flat_map reset_frames (made_of o))
  reset_one None = All-nil IsSaid
  reset_one (Some e) = All-append IsSaid (reset_frames e) [] (said_resets e) (All-nil IsSaid)

  reset_all : (x : PairEnds) → All IsSaid (flat_map reset_frames (ends_of x))
  reset_all x =
      subst (All IsSaid) (sym (flat_map-append reset_frames (made_of (facing 0 x).near) (made_of (facing 1 x).near)))
      (All-append IsSaid (flat_map reset_frames (made_of (facing 0 x).near)) (flat_map reset_frames (made_of (facing 1 x).near)) (reset_one (facing 0 x).near) (reset_one (facing 1 x).near))

  steps_keep : (x : PairEnds) (a : Act) (e : LinkEnd) (o : Outcome) (e' : LinkEnd) (states numbered : List Outgoing) (epoch : ℕ) → HasPlain x.bearer e → May x a → Steps x e a o e' states numbered epoch
      → HasPlain x.bearer e' × All IsSaid states × All IsSaid numbered
  steps_keep x _ e _ _ _ _ _ q may cut = (q, All-nil IsSaid, All-nil IsSaid)
  steps_keep x _ e _ _ _ _ _ q may (name epoch) = (q, All-nil IsSaid, All-nil IsSaid)
  steps_keep x _ e o _ _ _ _ q may (tick shown) = (followed_plain x.bearer (with_fsm e o.after) o.change q, said_shown e o shown may, All-nil IsSaid)
  steps_keep x _ e o _ _ _ _ q may (reset es held shown) = (followed_plain x.bearer (with_fsm e o.after) o.change q, said_shown e o shown may, All-nil IsSaid)
  steps_keep x _ e o _ _ _ _ q may (meet es er p by shown) =
      let next : HasPlain x.bearer (after e o) = followed_plain x.bearer (with_fsm e o.after) o.change q in
      let c = content_of p in (
        tested (HasPlain x.bearer) (is_heard p.header o.change) _ _ (λ _. mapped_plain (λ s. arrived s by p.acknowledgement c) (after e o).session (λ s k. arrived_plain s by p.acknowledgement c k) next) (λ _. next),
        All-append IsSaid (frames e o shown) (repeats_at e o p) (said_shown e o shown may)
            (tested (All IsSaid) (is_heard p.header o.change) _ [] (λ _. again_at (after e o).session p.acknowledgement c next) (λ _. All-nil IsSaid)),
        tested (All IsSaid) (is_heard p.header o.change) _ [] (λ _. newly_at (after e o).session by p.acknowledgement c next) (λ _. All-nil IsSaid),
      )

  recorded_plain : (b : ℕ) (e : LinkEnd) (r : Received) → HasPlain b e → HasPlain b (recorded e r)
  recorded_plain b e r h = mapped_plain (λ s. with_record s r) e.session (λ s k. record { unacked = k.unacked; waiting = k.waiting }) h

  keeping : Parts May Keeping
  unfolding going_on
  keeping = record {
    rests = λ x h. alone_keeps x h;
    goes_on = λ x first step one two h.
        let a = one h in
        let b = two a.both in
        record { both = b.both; states = All-append IsSaid first.states (step first.pair).states a.states b.states; numbered = All-append IsSaid first.numbered (step first.pair).numbered a.numbered b.numbered };
    turns = λ x c there h. let a = there (both_turned HasPlain x h) in record { both = both_turned HasPlain c.pair a.both; states = a.states; numbered = a.numbered };
    makes = λ x may h. alone_keeps (with_made x) (record { two = h.two; near = λ s has. absurd (let wrong : None ≡ Some s = has in cc); far = h.far });
    mends = λ x e near h.
        near_keeps x (mended_end e) (mend_frames e) [] h (near_so x e near h) (tested (All IsSaid) (is_reset_unknown e.fsm.state) (reset_frames (mended_end e)) [] (λ _. said_resets (mended_end e)) (λ _. All-nil IsSaid)) (All-nil IsSaid);
    steps = λ x a e o e' states numbered epoch near may step h.
        let s = steps_keep x a e o e' states numbered epoch (near_so x e near h) may step in record { both = record { two = h.two; near = s.0; far = h.far }; states = s.1; numbered = s.2 };
    begins = λ x here down h. record { both = record { two = h.two; near = h.near; far = h.far }; states = All-nil IsSaid; numbered = All-nil IsSaid };
    ends = λ x contact shown h. record {
      both = record { two = h.two; near = same_ends (parted_end (x.contact + 1) x.seen) x.bearer x.near (λ e. refl) h.near; far = same_ends (parted_end (x.contact + 1) x.seen) (other x.bearer) x.far (λ e. refl) h.far };
      states = reset_all (parted x);
      numbered = All-nil IsSaid;
    };
    counts = λ x number may h. alone_keeps (record x { seen = number }) (record { two = h.two; near = h.near; far = h.far });
    forgets = λ x number may h. alone_keeps _ (record { two = h.two; near = same_ends (forgetting number) x.bearer x.near (λ e. refl) h.near; far = same_ends (forgetting number) (other x.bearer) x.far (λ e. refl) h.far });
    hands_over = λ x near far lost s one two first second up h.
        let own = near_so x near one h lost first in
        let there = far_so x far two h s second in
        let loaded_plain = put_plain s (left_by lost) (plain_left lost own.waiting) there in
        record {
          both = record {
            two = h.two;
            near = mapped_plain given_up near.session (λ t k. record { unacked = All-nil IsPlain; waiting = All-nil IsPlain }) (near_so x near one h);
            far = some_plain (flushed (put s (left_by lost))) (flushed_plain (put s (left_by lost)) loaded_plain);
          };
          states = All-nil IsSaid;
          numbered = said_flush (put s (left_by lost)) loaded_plain;
        };
    takes_over = λ x near far s old one two first second here up h.
        let own = near_so x near one h s first in
        let there = far_so x far two h old second in
        let loaded_plain = put_plain s (taken_over old) (plain_taken old there.waiting) own in
        record {
          both = record {
            two = h.two;
            near = some_plain (flushed (put s (taken_over old))) (flushed_plain (put s (taken_over old)) loaded_plain);
            far = mapped_plain waiting_given far.session (λ t k. record { unacked = k.unacked; waiting = All-nil IsPlain }) (far_so x far two h);
          };
          states = All-nil IsSaid;
          numbered = said_flush (put s (taken_over old)) loaded_plain;
        };
    lets_go = λ x e near may clear h.
        near_keeps x (let_go e) (release_frames e) [] h (near_so x e near h)
        (tested (All IsSaid) (is_answer (release e.fsm).change) (reset_frames (with_fsm e (release e.fsm).after)) [] (λ _. said_resets (with_fsm e (release e.fsm).after)) (λ _. All-nil IsSaid)) (All-nil IsSaid);
    carries = λ x e t by near may h.
        let q = near_so x e near h in
        near_keeps x _ [] [] h
        (tested (HasPlain x.bearer) (t.count == 0) (named_end e t.old.epoch) (tunnelled_end e t.old.epoch (inside_of t by)) (λ _. recorded_plain x.bearer e _ q) (λ _. recorded_plain x.bearer e _ q)) (All-nil IsSaid) (All-nil IsSaid);
    opens = λ x packets given last may brings h. alone_keeps (record x { begun = last }) (record { two = h.two; near = h.near; far = h.far });
    puts = λ x e s pieces s' near may has is h.
        let p = is_put_plain s pieces s' is may (near_so x e near h s has) in
        near_keeps x (with_session e (flushed s')) [] (flush_frames s') h (some_plain (flushed s') (flushed_plain s' p)) (All-nil IsSaid) (said_flush s' p);
    answers = λ x e taken asks shown near may h.
        let q = near_so x e near h in
        let read : SessionEnd → SessionEnd = λ s. answered (with_broadcast s taken asks) in
        near_keeps x (answered_with e taken asks) (frames_with e taken asks shown) [] h
        (tested (HasPlain x.bearer) _ (record e { session = option_map read e.session }) e (λ _. mapped_plain read e.session (λ s k. record { unacked = k.unacked; waiting = k.waiting }) q) (λ _. q))
        (subst (λ k. All IsSaid (frames_with e taken asks k)) may.1 (answers_at e taken asks may.0)) (All-nil IsSaid);
  }

  -- ---- a turn

  may_happen : (x : PairEnds) (opening : Opening) → IsShownIn S show opening → MayHappen May x opening
  may_happen x (makes bearer is_mended) may = (tt, tt)
  may_happen x (ticks shown) may = λ y. may
  may_happen x (hears bearer es er p by shown) may = record {
    hears = hears_may May p.header es er p by shown (facing bearer x) (λ number. tt) (λ y. may) (λ y. may);
    opens = opens_may May _ _ (λ y epoch. tt) (λ y t by'. tt) (λ y packets given. tt);
  }
  may_happen x other may = tt

  -- the lists of both ends stay so, and each STATE among the frames shows what is given
  pub turn_says : (x y : PairEnds) (opening : Opening) (messages : List (List ℕ)) (reply : Option Reply) (fs : List Outgoing) (own : ℕ) → Both HasPlain x → All (IsMessage own) messages → IsShownIn S show opening → IsShownAtLast S show reply
      → PairTurn x opening messages reply y fs → Both HasPlain y × All IsSaid fs
  turn_says x y opening messages reply fs own h all first last t =
      let may : MayTurn May x opening messages reply = record {
        happens = may_happen x opening first;
        puts = λ i d within z up. plain_pieces own _ (all i d within);
        answers = λ r is z. subst (IsShownAtLast S show) is last;
      } in
      let c = turn_course t in
      let u = walks_by_parts May Keeping keeping x c (turn_ran May (λ z. tt) x y opening messages reply fs h.two may t) h in
      (subst (Both HasPlain) (sym (turn_pair x y opening messages reply fs t)) u.both, turn_frames IsSaid x y opening messages reply fs t u.states u.numbered)
