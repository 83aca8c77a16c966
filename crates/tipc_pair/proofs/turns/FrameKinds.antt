-- What the frames of a link end are: each is under an epoch of this end, and is a RESET or an ACTIVATE, a STATE, or a packet of a session. And the
-- sessions of an end stay on its bearer, and under its own epoch while the link is up.
use Rattle.std.specs.Prelude.{All, if◌then◌else◌}
use Rattle.std.proofs.Common.{◌≡◌, ◌+◌, ◌∙◌, ℕ, Bool, true, false, List, [], ◌∷◌, Option, Some, None, map, option_map, refl, subst}
use Rattle.std.proofs.lemmas.List.Elements.{All-cons, All-nil}
use Rattle.tipc_types.specs.LinkStates.{is_up}
use Rattle.tipc_types.specs.declared.link_words.BroadcastState.{BroadcastState}
use Rattle.tipc_types.specs.declared.link_words.Reply.TheVariants as reply
use Rattle.tipc_types.specs.declared.packet_lists.Kept.{Kept}
use Rattle.tipc_outside.specs.declared.outgoing.Outgoing.{Outgoing}
use Rattle.tipc_header.specs.declared.packet.Header.{Header}
use Rattle.tipc_header.specs.Frames.{frame_of, stamped}
use Rattle.tipc_header.specs.Spelling.{spelling}
use Rattle.tipc_link_fsm.specs.declared.changes.Change.{Change}
use Rattle.tipc_link_fsm.specs.declared.changes.Change.TheVariants.{Answer, Up}
use Rattle.tipc_link.specs.Links.{LinkEnd, activate_frames, follow_frames, frames_with, is_traffic, known, mended_end, newly_numbered, notice, notice_fields, reset_frames, sent_again, session_answer, session_of, state_frames}
use Rattle.tipc_link.specs.Sessions.{Carries, Content, IsPut, Nothing, SessionEnd, Shows, again_frames, arrived, flush_frames, flushed, heard, is_due, joins, moved_frames, packet_frame, packet_frames, after_acknowledgement, repeat_frames, repeated, spoke, state_fields, state_frame, waits, with_broadcast}
use Rattle.tipc_pair.proofs.acts.Walks.{tested}

-- ---- what a packet is

-- the bytes of a notice, a RESET or an ACTIVATE; of a STATE, which shows one of these of the broadcast; or of a packet of a session
pub data Kind (S : Type 0) (show : S → BroadcastState) : List ℕ → Type 0 where
  notices : (e : LinkEnd) (h : Header) → is_traffic h ≡ false → Kind S show (spelling (notice_fields e h))
  states : (s : SessionEnd) (probe : Bool) (shown : S) → Kind S show (spelling (state_fields s (show shown) probe))
  numbered : (acknowledgement sequence own : ℕ) (packet : List ℕ) → Kind S show (stamped acknowledgement sequence own packet)

-- the frame leaves on this bearer, under this epoch of its sender, and is of such a kind
pub record MadeOf (S : Type 0) (show : S → BroadcastState) (b epoch : ℕ) (o : Outgoing) : Type 0 where
  pub bearer : o.bearer ≡ b
  pub receiver : ℕ
  pub packet : List ℕ
  pub frame : o.frame ≡ frame_of epoch receiver packet
  pub kind : Kind S show packet

module _ (S : Type 0) (show : S → BroadcastState) where
  one_made : (b epoch : ℕ) (o : Outgoing) → MadeOf S show b epoch o → All (MadeOf S show b epoch) (o ∷ [])
  one_made b epoch o h = All-cons (MadeOf S show b epoch) o [] h (All-nil (MadeOf S show b epoch))

  none_made : (b epoch : ℕ) → All (MadeOf S show b epoch) []
  none_made b epoch = All-nil (MadeOf S show b epoch)

  notice_made : (e : LinkEnd) (h : Header) → is_traffic h ≡ false → MadeOf S show e.bearer e.fsm.own (notice e h)
  notice_made e h is = record { bearer = refl; receiver = known e.fsm.peer; packet = spelling (notice_fields e h); frame = refl; kind = notices e h is }

  pub resets_made : (e : LinkEnd) → All (MadeOf S show e.bearer e.fsm.own) (reset_frames e)
  resets_made e = tested (All (MadeOf S show e.bearer e.fsm.own)) e.mended _ [] (λ _. one_made e.bearer e.fsm.own _ (notice_made e _ refl)) (λ _. none_made e.bearer e.fsm.own)

  activates_made : (e : LinkEnd) → All (MadeOf S show e.bearer e.fsm.own) (activate_frames e)
  activates_made e = tested (All (MadeOf S show e.bearer e.fsm.own)) e.mended _ [] (λ _. one_made e.bearer e.fsm.own _ (notice_made e _ refl)) (λ _. none_made e.bearer e.fsm.own)

  pub mends_made : (e : LinkEnd) (b : Bool) → All (MadeOf S show e.bearer e.fsm.own) (if b then reset_frames (mended_end e) else [])
  mends_made e true = resets_made (mended_end e)
  mends_made e false = none_made e.bearer e.fsm.own

  state_made : (s : SessionEnd) (probe : Bool) (shown : S) → MadeOf S show s.bearer s.epoch (state_frame s (show shown) probe)
  state_made s probe shown = record { bearer = refl; receiver = s.peer_epoch; packet = spelling (state_fields s (show shown) probe); frame = refl; kind = states s probe shown }

  packet_made : (s : SessionEnd) (number : ℕ) (packet : List ℕ) → MadeOf S show s.bearer s.epoch (packet_frame s number packet)
  packet_made s number packet = record { bearer = refl; receiver = s.peer_epoch; packet = _; frame = refl; kind = numbered _ number s.own packet }

  packets_made : (s : SessionEnd) (before : ℕ) (packets : List (List ℕ)) → All (MadeOf S show s.bearer s.epoch) (packet_frames s before packets)
  packets_made s before [] = none_made s.bearer s.epoch
  packets_made s before (packet ∷ packets) = All-cons (MadeOf S show s.bearer s.epoch) _ _ (packet_made s _ packet) (packets_made s (before + 1) packets)

  pub flush_made : (s : SessionEnd) → All (MadeOf S show s.bearer s.epoch) (flush_frames s)
  unfolding flush_frames
  flush_made s = packets_made s _ _

  kept_made : (s : SessionEnd) (ks : List Kept) → All (MadeOf S show s.bearer s.epoch) (map (λ k. packet_frame s k.number k.packet) ks)
  kept_made s [] = none_made s.bearer s.epoch
  kept_made s (k ∷ ks) = All-cons (MadeOf S show s.bearer s.epoch) _ _ (packet_made s k.number k.packet) (kept_made s ks)

  repeats_made : (s : SessionEnd) (acknowledgement gap : ℕ) → All (MadeOf S show s.bearer s.epoch) (repeat_frames s acknowledgement gap)
  unfolding repeat_frames
  repeats_made s acknowledgement gap = kept_made s (repeated s acknowledgement gap)

  again_made : (s : SessionEnd) (acknowledgement : ℕ) (c : Content) → All (MadeOf S show s.bearer s.epoch) (again_frames s acknowledgement c)
  again_made s acknowledgement (Shows next gap probe) = repeats_made (after_acknowledgement s acknowledgement) acknowledgement gap
  again_made s acknowledgement (Carries number packet) = none_made s.bearer s.epoch
  again_made s acknowledgement Nothing = none_made s.bearer s.epoch

  moved_made : (s : SessionEnd) (c : Content) → All (MadeOf S show s.bearer s.epoch) (moved_frames c s)
  moved_made s (Shows next gap probe) = flush_made s
  moved_made s (Carries number packet) = flush_made s
  moved_made s Nothing = none_made s.bearer s.epoch

-- ---- the sessions of an end

-- a session on this bearer, and under this epoch where the link is up
abbrev pub IsSessionAt : ℕ → Bool → ℕ → SessionEnd → Type 0
IsSessionAt b up own s = (s.bearer ≡ b) × (up ≡ true → s.epoch ≡ own)

abbrev pub AreSessionsAt : ℕ → Bool → ℕ → Option SessionEnd → Type 0
AreSessionsAt b up own session = (s : SessionEnd) → session ≡ Some s → IsSessionAt b up own s

-- an end on this bearer, with its session
pub record IsEndAt (b : ℕ) (e : LinkEnd) : Type 0 where
  pub on : e.bearer ≡ b
  pub session : AreSessionsAt b (is_up e.fsm.state) e.fsm.own e.session

-- another state of the same session
pub record IsSameSession (s s' : SessionEnd) : Type 0 where
  pub bearer : s'.bearer ≡ s.bearer
  pub epoch : s'.epoch ≡ s.epoch

pub same_at : (b : ℕ) (up : Bool) (own : ℕ) (s s' : SessionEnd) → IsSameSession s s' → IsSessionAt b up own s → IsSessionAt b up own s'
same_at b up own s s' same h = (same.bearer ∙ h.0, λ is. same.epoch ∙ h.1 is)

pub mapped_at : (b : ℕ) (up : Bool) (own : ℕ) (g : SessionEnd → SessionEnd) (session : Option SessionEnd) → ((s : SessionEnd) → IsSameSession s (g s)) → AreSessionsAt b up own session → AreSessionsAt b up own (option_map g session)
mapped_at b up own g None keeps h s has = absurd (let wrong : ⊥ = cc in wrong)
mapped_at b up own g (Some t) keeps h s has = let there : g t ≡ s = cc in subst (IsSessionAt b up own) there (same_at b up own t (g t) (keeps t) (h t refl))

pub some_at : (b : ℕ) (up : Bool) (own : ℕ) (s : SessionEnd) → IsSessionAt b up own s → AreSessionsAt b up own (Some s)
some_at b up own s h t has = let there : s ≡ t = cc in subst (IsSessionAt b up own) there h

spoke_same : {A : Type 0} (s : SessionEnd) (xs : List A) → IsSameSession s (spoke s xs)
spoke_same s [] = record { bearer = refl; epoch = refl }
spoke_same s (x ∷ xs) = record { bearer = refl; epoch = refl }

pub heard_same : (s : SessionEnd) (by acknowledgement : ℕ) (c : Content) → IsSameSession s (heard s by acknowledgement c)
heard_same s by acknowledgement (Shows next gap probe) =
    let h = spoke_same (after_acknowledgement s acknowledgement) (repeated (after_acknowledgement s acknowledgement) acknowledgement gap) in record { bearer = h.bearer; epoch = h.epoch }
heard_same s by acknowledgement (Carries number packet) = record { bearer = refl; epoch = refl }
heard_same s by acknowledgement Nothing = record { bearer = refl; epoch = refl }

pub flushed_same : (s s' : SessionEnd) → IsSameSession s s' → IsSameSession s (flushed s')
unfolding flushed
flushed_same s s' h = record { bearer = h.bearer; epoch = h.epoch }

pub arrived_same : (s : SessionEnd) (by acknowledgement : ℕ) (c : Content) → IsSameSession s (arrived s by acknowledgement c)
arrived_same s by acknowledgement (Shows next gap probe) = flushed_same s _ (heard_same s by acknowledgement (Shows next gap probe))
arrived_same s by acknowledgement (Carries number packet) = flushed_same s _ (heard_same s by acknowledgement (Carries number packet))
arrived_same s by acknowledgement Nothing = record { bearer = refl; epoch = refl }

pub put_same : (s : SessionEnd) (pieces : List (List ℕ)) (s' : SessionEnd) → IsPut s pieces s' → IsSameSession s s'
put_same s _ _ (joins packets packet may) = record { bearer = refl; epoch = refl }
put_same s _ _ (waits pieces apart) = record { bearer = refl; epoch = refl }

-- ---- the frames of an end

module _ (S : Type 0) (show : S → BroadcastState) (b own : ℕ) where
  -- by a session under that epoch
  by_session : (s : SessionEnd) (fs : List Outgoing) → s.bearer ≡ b → s.epoch ≡ own → All (MadeOf S show s.bearer s.epoch) fs → All (MadeOf S show b own) fs
  by_session s fs on under h = subst (λ n. All (MadeOf S show n own) fs) on (subst (λ n. All (MadeOf S show s.bearer n) fs) under h)

  pub flush_at : (s s' : SessionEnd) → IsSessionAt b true own s → IsSameSession s s' → All (MadeOf S show b own) (flush_frames s')
  flush_at s s' h same = by_session s' (flush_frames s') (same.bearer ∙ h.0) (same.epoch ∙ h.1 refl) (flush_made S show s')

  pub again_at : (session : Option SessionEnd) (acknowledgement : ℕ) (c : Content) → AreSessionsAt b true own session → All (MadeOf S show b own) (sent_again session acknowledgement c)
  again_at None acknowledgement c h = none_made S show b own
  again_at (Some s) acknowledgement c h = let k = h s refl in by_session s (again_frames s acknowledgement c) k.0 (k.1 refl) (again_made S show s acknowledgement c)

  pub newly_at : (session : Option SessionEnd) (by acknowledgement : ℕ) (c : Content) → AreSessionsAt b true own session → All (MadeOf S show b own) (newly_numbered session by acknowledgement c)
  newly_at None by acknowledgement c h = none_made S show b own
  newly_at (Some s) by acknowledgement c h =
      let k = h s refl in
      let same = heard_same s by acknowledgement c in
      by_session (heard s by acknowledgement c) (moved_frames c (heard s by acknowledgement c)) (same.bearer ∙ k.0) (same.epoch ∙ k.1 refl) (moved_made S show (heard s by acknowledgement c) c)

  states_at : (session : Option SessionEnd) (shown : S) (probe : Bool) → AreSessionsAt b true own session → All (MadeOf S show b own) (state_frames session (show shown) probe)
  states_at None shown probe h = none_made S show b own
  states_at (Some s) shown probe h = let k = h s refl in by_session s (state_frame s (show shown) probe ∷ []) k.0 (k.1 refl) (one_made S show s.bearer s.epoch _ (state_made S show s probe shown))

  answer_at : (session : Option SessionEnd) (shown : S) → AreSessionsAt b true own session → All (MadeOf S show b own) (session_answer session (show shown))
  answer_at None shown h = none_made S show b own
  answer_at (Some s) shown h =
      let k = h s refl in
      tested (All (MadeOf S show b own)) (is_due s) (state_frame s (show shown) false ∷ []) [] (λ _. by_session s (state_frame s (show shown) false ∷ []) k.0 (k.1 refl) (one_made S show s.bearer s.epoch _ (state_made S show s false shown))) (λ _. none_made S show b own)

  -- by an end under that epoch
  pub at_end : (e : LinkEnd) (fs : List Outgoing) → e.bearer ≡ b → e.fsm.own ≡ own → All (MadeOf S show e.bearer e.fsm.own) fs → All (MadeOf S show b own) fs
  at_end e fs on under h = subst (λ n. All (MadeOf S show n own) fs) on (subst (λ n. All (MadeOf S show e.bearer n) fs) under h)

  -- the answer that is due
  pub answers_at : (e : LinkEnd) (taken : ℕ) (asks : Bool) (shown : S) → IsEndAt b e → e.fsm.own ≡ own → All (MadeOf S show b own) (frames_with e taken asks (show shown))
  answers_at e taken asks shown h under =
      tested (All (MadeOf S show b own)) (is_up e.fsm.state) _ []
      (λ up. answer_at (option_map (λ s. with_broadcast s taken asks) e.session) shown
      (mapped_at b true own (λ s. with_broadcast s taken asks) e.session (λ s. record { bearer = refl; epoch = refl }) (λ s has. ((h.session s has).0, λ _. (h.session s has).1 up ∙ under))))
      (λ _. none_made S show b own)

  -- what an end says by a change of its link states
  pub follow_at : (e : LinkEnd) (change : Change) (shown : S) → e.bearer ≡ b → e.fsm.own ≡ own → ((probe : Bool) → change ≡ Answer (reply.State probe) → AreSessionsAt b true own e.session)
      → All (MadeOf S show b own) (follow_frames e change (show shown))
  follow_at e Up shown on under up = at_end e (state_frame (session_of e) (show shown) false ∷ []) on under (one_made S show e.bearer e.fsm.own _ (state_made S show (session_of e) false shown))
  follow_at e (Answer reply.Reset) shown on under up = at_end e (reset_frames e) on under (resets_made S show e)
  follow_at e (Answer reply.Activate) shown on under up = at_end e (activate_frames e) on under (activates_made S show e)
  follow_at e (Answer (reply.State probe)) shown on under up = states_at e.session shown probe (up probe refl)
  follow_at e other shown on under up = none_made S show b own
