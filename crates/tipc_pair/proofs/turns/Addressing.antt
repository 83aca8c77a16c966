-- Each frame that a pair sends is for its peer and under an epoch, and each of its link ends stays one to that peer.
use Rattle.std.proofs.Common.{◌≡◌, ◌≢◌, ◌==◌, ℕ, ◌+◌, Bool, true, false, List, [], ◌∷◌, ◌++◌, Option, Some, None, option_map, if◌then◌else◌, refl, sym, ap, ◌∙◌, subst, arith}
use Rattle.std.specs.Prelude.{All, ◌%◌, map}
use Rattle.std.proofs.lemmas.Bool.Decides.{nat_tests}
use Rattle.std.proofs.lemmas.List.Elements.{All-cons, All-head, All-nil, All-tail}
use Rattle.tipc_types.specs.LinkStates.{is_up}
use Rattle.tipc_types.specs.declared.identity.To.TheVariants as to
use Rattle.tipc_types.specs.declared.link_words.BroadcastState.{BroadcastState}
use Rattle.tipc_types.specs.declared.link_words.Reply.TheVariants as reply
use Rattle.tipc_types.specs.declared.packet_lists.Kept.{Kept}
use Rattle.tipc_types.specs.Position.{number_of}
use Rattle.tipc_outside.specs.declared.outgoing.Outgoing.{Outgoing}
use Rattle.tipc_header.specs.declared.packet.Header.{Header}
use Rattle.tipc_header.specs.Frames.{frame_of, is_of_link, stamped}
use Rattle.tipc_header.specs.Spelling.{spelling}
use Rattle.tipc_header.proofs.FrameWords.{of_link}
use Rattle.tipc_link_fsm.specs.declared.changes.Change.{Change}
use Rattle.tipc_link_fsm.specs.declared.changes.Change.TheVariants.{Up, Answer}
use Rattle.tipc_link_fsm.specs.Table.{Fsm, Outcome, is_last, next_epoch, on_cut, on_peer_tunnel, forget_peer, contact_ended, release}
use Rattle.tipc_link_fsm.proofs.Moves.{Moves, contact_ended_moves, falls, forget_peer_moves, on_cut_moves, on_peer_tunnel_moves, on_reset_moves, on_tick_moves, release_moves, rises, stays}
use Rattle.tipc_link.specs.Links.{LinkEnd, answered_with, followed, follow_frames, frames, frames_with, is_answer, is_reset_unknown, known, mend_frames, mended_end, newly_numbered, notice, notice_fields, release_frames, reset_frames, sent_again, session_answer, session_of, state_frames, with_fsm, with_session}
use Rattle.tipc_link.specs.Sessions.{Content, IsPut, Shows, Carries, Nothing, SessionEnd, answered, arrived, flush_frames, flushed, given_up, heard, is_due, moved_frames, again_frames, packet_frame, packet_frames, put, after_acknowledgement, repeat_frames, repeated, spoke, after_state, state_fields, state_frame, waiting_given, with_broadcast, with_record}
use Rattle.tipc_link.specs.Sessions.IsPut.{joins, waits}
use Rattle.tipc_pair.specs.Addressed.{IsEndTo, IsEpoch, IsSessionWith}
use Rattle.tipc_pair.proofs.acts.Walks.{outcome_moves}
use Rattle.tipc_pair.proofs.turns.FrameKinds.{arrived_same, heard_same, put_same}
use Rattle.tipc_pair.proofs.turns.PairKept.{Closed, Made, by_packet, by_reset, by_tick}

-- a frame is for the node with that address word, and under an epoch; and so is each of these
abbrev pub IsFor : ℕ → Outgoing → Type 0
IsFor word o = (o.to ≡ to.Node (record { word = word })) × (is_of_link o.frame ≡ true)

abbrev pub AreFor : ℕ → List Outgoing → Type 0
AreFor word [] = Unit {0}
AreFor word (o ∷ os) = IsFor word o × AreFor word os

-- ---- lists of frames

-- what holds of both holds of the one that is chosen
pub either : {A : Type 0} (P : A → Type 0) (t : Bool) (x y : A) → P x → P y → P (if t then x else y)
either P true x y px py = px
either P false x y px py = py

pub for_both : (word : ℕ) (xs ys : List Outgoing) → AreFor word xs → AreFor word ys → AreFor word (xs ++ ys)
for_both word [] ys hx hy = hy
for_both word (x ∷ xs) ys hx hy = (hx.0, for_both word xs ys hx.1 hy)

pub all_for : (word : ℕ) (os : List Outgoing) → All (IsFor word) os → AreFor word os
all_for word [] all = tt
all_for word (o ∷ os) all = (All-head (IsFor word) o os all, all_for word os (All-tail (IsFor word) o os all))

pub for_all : (word : ℕ) (os : List Outgoing) → AreFor word os → All (IsFor word) os
for_all word [] all = All-nil (IsFor word)
for_all word (o ∷ os) all = All-cons (IsFor word) o os all.0 (for_all word os all.1)

pub to_same : (word peer : ℕ) → peer ≡ word → to.Node (record { word = peer }) ≡ to.Node (record { word = word })
to_same word peer is = ap (λ w. to.Node (record { word = w })) is

-- ---- epochs

-- the epoch after this one is of the same boot
next_is : (epoch : ℕ) → IsEpoch epoch → IsEpoch (next_epoch epoch)
unfolding is_last
next_is epoch is = by (epoch % 4294967296 == 4294967295) refl
  where
    by : (last : Bool) → (epoch % 4294967296 == 4294967295) ≡ last → IsEpoch (if last then epoch else epoch + 1)
    by true _ = is
    by false more =
        let least = is.0 in
        let fits = is.1 in
        let differs : epoch % 4294967296 ≢ 4294967295 = grind (arith, nat_tests, more) in
        (omega (arith, least), omega arith)

moved_is : (f : Fsm) (shown : Option (ℕ × ℕ)) (o : Outcome) → Moves f shown o → IsEpoch f.own → IsEpoch o.after.own
moved_is f shown o (stays own up quiet) is = subst IsEpoch (sym own) is
moved_is f shown o (rises es own was up last told peer rising) is = subst IsEpoch (sym own) is
moved_is f shown o (falls own down quiet) is = subst IsEpoch (sym own) (next_is f.own is)

made_is : (f : Fsm) (o : Outcome) → Made f o → IsEpoch f.own → IsEpoch o.after.own
made_is f _ (by_packet h es er held) is = moved_is f (Some (es, er)) _ (outcome_moves f h es er held) is
made_is f _ (by_reset es held) is = moved_is f None _ (on_reset_moves f es held None) is
made_is f _ (by_tick held) is = moved_is f None _ (on_tick_moves f held None) is

under : (first second : ℕ) (packet : List ℕ) → IsEpoch first → is_of_link (frame_of first second packet) ≡ true
under first second packet is = of_link first second packet is.0 is.1

-- ---- a session

packet_for : (word : ℕ) (s : SessionEnd) (number : ℕ) (packet : List ℕ) → IsSessionWith word s → IsFor word (packet_frame s number packet)
packet_for word s number packet is = (to_same word s.peer is.0, under s.epoch s.peer_epoch (stamped (number_of s.taken) number s.own packet) is.1)

state_for : (word : ℕ) (s : SessionEnd) (shown : BroadcastState) (probe : Bool) → IsSessionWith word s → IsFor word (state_frame s shown probe)
state_for word s shown probe is = (to_same word s.peer is.0, under s.epoch s.peer_epoch (spelling (state_fields s shown probe)) is.1)

packets_for : (word : ℕ) (s : SessionEnd) (before : ℕ) (packets : List (List ℕ)) → IsSessionWith word s → AreFor word (packet_frames s before packets)
packets_for word s before [] is = tt
packets_for word s before (packet ∷ packets) is = (packet_for word s (number_of (before + 1)) packet is, packets_for word s (before + 1) packets is)

flush_for : (word : ℕ) (s : SessionEnd) → IsSessionWith word s → AreFor word (flush_frames s)
unfolding flush_frames
flush_for word s is = packets_for word s _ _ is

-- another state of a session with that node
record Alike (s s' : SessionEnd) : Type 0 where
  peer : s'.peer ≡ s.peer
  epoch : s'.epoch ≡ s.epoch

still_with : (word : ℕ) (s s' : SessionEnd) → Alike s s' → IsSessionWith word s → IsSessionWith word s'
still_with word s s' same is = (same.peer ∙ is.0, subst IsEpoch (sym same.epoch) is.1)

spoke_peer : {A : Type 0} (s : SessionEnd) (xs : List A) → (spoke s xs).peer ≡ s.peer
spoke_peer s [] = refl
spoke_peer s (x ∷ xs) = refl

heard_peer : (s : SessionEnd) (by acknowledgement : ℕ) (c : Content) → (heard s by acknowledgement c).peer ≡ s.peer
heard_peer s by acknowledgement (Shows next gap probe) = spoke_peer (after_acknowledgement s acknowledgement) (repeated (after_acknowledgement s acknowledgement) acknowledgement gap)
heard_peer s by acknowledgement (Carries number packet) = refl
heard_peer s by acknowledgement Nothing = refl

heard_alike : (s : SessionEnd) (by acknowledgement : ℕ) (c : Content) → Alike s (heard s by acknowledgement c)
heard_alike s by acknowledgement c = record { peer = heard_peer s by acknowledgement c; epoch = (heard_same s by acknowledgement c).epoch }

flushed_alike : (s : SessionEnd) → Alike s (flushed s)
unfolding flushed
flushed_alike s = record { peer = refl; epoch = refl }

arrived_peer : (s : SessionEnd) (by acknowledgement : ℕ) (c : Content) → (arrived s by acknowledgement c).peer ≡ s.peer
arrived_peer s by acknowledgement (Shows next gap probe) = (flushed_alike _).peer ∙ heard_peer s by acknowledgement (Shows next gap probe)
arrived_peer s by acknowledgement (Carries number packet) = (flushed_alike _).peer ∙ heard_peer s by acknowledgement (Carries number packet)
arrived_peer s by acknowledgement Nothing = refl

arrived_alike : (s : SessionEnd) (by acknowledgement : ℕ) (c : Content) → Alike s (arrived s by acknowledgement c)
arrived_alike s by acknowledgement c = record { peer = arrived_peer s by acknowledgement c; epoch = (arrived_same s by acknowledgement c).epoch }

put_peer : (s : SessionEnd) (pieces : List (List ℕ)) (s' : SessionEnd) → IsPut s pieces s' → s'.peer ≡ s.peer
put_peer s _ _ (joins packets packet may) = refl
put_peer s _ _ (waits pieces apart) = refl

put_alike : (s : SessionEnd) (pieces : List (List ℕ)) (s' : SessionEnd) → IsPut s pieces s' → Alike s s'
put_alike s pieces s' is = record { peer = put_peer s pieces s' is; epoch = (put_same s pieces s' is).epoch }

again_each : (word : ℕ) (s : SessionEnd) (ks : List Kept) → IsSessionWith word s → AreFor word (map (λ k. packet_frame s k.number k.packet) ks)
again_each word s [] is = tt
again_each word s (k ∷ ks) is = (packet_for word s k.number k.packet is, again_each word s ks is)

repeat_for : (word : ℕ) (s : SessionEnd) (acknowledgement gap : ℕ) → IsSessionWith word s → AreFor word (repeat_frames s acknowledgement gap)
unfolding repeat_frames
repeat_for word s acknowledgement gap is = again_each word s (repeated s acknowledgement gap) is

again_for : (word : ℕ) (s : SessionEnd) (acknowledgement : ℕ) (c : Content) → IsSessionWith word s → AreFor word (again_frames s acknowledgement c)
again_for word s acknowledgement (Shows next gap probe) is = repeat_for word (after_acknowledgement s acknowledgement) acknowledgement gap is
again_for word s acknowledgement (Carries number packet) is = tt
again_for word s acknowledgement Nothing is = tt

moved_for : (word : ℕ) (s : SessionEnd) (c : Content) → IsSessionWith word s → AreFor word (moved_frames c s)
moved_for word s (Shows next gap probe) is = flush_for word s is
moved_for word s (Carries number packet) is = flush_for word s is
moved_for word s Nothing is = tt

-- ---- a link end

-- the sessions of an end, where it has one, are with that node
abbrev IsWith : ℕ → Option SessionEnd → Type 0
IsWith word session = (s : SessionEnd) → session ≡ Some s → IsSessionWith word s

end_fsm : (word : ℕ) (e : LinkEnd) (fsm : Fsm) → IsEpoch fsm.own → IsEndTo word e → IsEndTo word (with_fsm e fsm)
end_fsm word e fsm is n = record { peer = n.peer; epoch = is; session = n.session }

mapped_with : (word : ℕ) (f : SessionEnd → SessionEnd) (session : Option SessionEnd) → ((s : SessionEnd) → Alike s (f s)) → IsWith word session → IsWith word (option_map f session)
mapped_with word f None keeps is s has = absurd cc
mapped_with word f (Some t) keeps is s has = let same : f t ≡ s = cc in subst (IsSessionWith word) same (still_with word t (f t) (keeps t) (is t refl))

end_mapped : (word : ℕ) (e : LinkEnd) (f : SessionEnd → SessionEnd) → IsEndTo word e → ((s : SessionEnd) → Alike s (f s)) → IsEndTo word (record e { session = option_map f e.session })
end_mapped word e f n keeps = record { peer = n.peer; epoch = n.epoch; session = mapped_with word f e.session keeps n.session }

same_with : (word : ℕ) (s t : SessionEnd) → IsSessionWith word s → Some s ≡ Some t → IsSessionWith word t
same_with word s t with same = let is : s ≡ t = cc in subst (IsSessionWith word) is with

end_with : (word : ℕ) (e : LinkEnd) (s : SessionEnd) → IsEndTo word e → IsSessionWith word s → IsEndTo word (with_session e s)
end_with word e s n with = record { peer = n.peer; epoch = n.epoch; session = λ t has. same_with word s t with has }

end_followed : (word : ℕ) (e : LinkEnd) (change : Change) → IsEndTo word e → IsEndTo word (followed e change)
end_followed word e Up n = record { peer = n.peer; epoch = n.epoch; session = λ s has. same_with word (session_of e) s (n.peer, n.epoch) has }
end_followed word e (Answer (reply.State probe)) n = end_mapped word e after_state n (λ s. record { peer = refl; epoch = refl })
end_followed word e other n = n

notice_for : (word : ℕ) (e : LinkEnd) (h : Header) → IsEndTo word e → IsFor word (notice e h)
notice_for word e h n = (to_same word e.peer n.peer, under e.fsm.own (known e.fsm.peer) (spelling (notice_fields e h)) n.epoch)

reset_for : (word : ℕ) (e : LinkEnd) → IsEndTo word e → AreFor word (reset_frames e)
reset_for word e n = either (AreFor word) e.mended _ _ (notice_for word e _ n, tt) tt

states_for : (word : ℕ) (session : Option SessionEnd) (shown : BroadcastState) (probe : Bool) → IsWith word session → AreFor word (state_frames session shown probe)
states_for word None shown probe is = tt
states_for word (Some s) shown probe is = (state_for word s shown probe (is s refl), tt)

follow_for : (word : ℕ) (e : LinkEnd) (change : Change) (shown : BroadcastState) → IsEndTo word e → AreFor word (follow_frames e change shown)
follow_for word e Up shown n = (state_for word (session_of e) shown false (n.peer, n.epoch), tt)
follow_for word e (Answer reply.Reset) shown n = reset_for word e n
follow_for word e (Answer reply.Activate) shown n = either (AreFor word) e.mended _ _ (notice_for word e _ n, tt) tt
follow_for word e (Answer (reply.State probe)) shown n = states_for word e.session shown probe n.session
follow_for word e other shown n = tt

frames_for : (word : ℕ) (e : LinkEnd) (o : Outcome) (shown : BroadcastState) → IsEpoch o.after.own → IsEndTo word e → AreFor word (frames e o shown)
frames_for word e o shown is n = follow_for word (with_fsm e o.after) o.change shown (end_fsm word e o.after is n)

pub mend_for : (word : ℕ) (e : LinkEnd) → IsEndTo word e → AreFor word (mend_frames e)
mend_for word e n = either (AreFor word) (is_reset_unknown e.fsm.state) _ _ (reset_for word (mended_end e) (record { peer = n.peer; epoch = n.epoch; session = n.session })) tt

released_is : (e : LinkEnd) → IsEpoch e.fsm.own → IsEpoch (release e.fsm).after.own
released_is e is = moved_is e.fsm None (release e.fsm) (release_moves e.fsm None) is

release_for : (word : ℕ) (e : LinkEnd) → IsEndTo word e → AreFor word (release_frames e)
release_for word e n =
    either (AreFor word) (is_answer (release e.fsm).change) _ _ (reset_for word (with_fsm e (release e.fsm).after) (end_fsm word e (release e.fsm).after (released_is e n.epoch) n)) tt

again_at : (word : ℕ) (session : Option SessionEnd) (acknowledgement : ℕ) (c : Content) → IsWith word session → AreFor word (sent_again session acknowledgement c)
again_at word None acknowledgement c is = tt
again_at word (Some s) acknowledgement c is = again_for word s acknowledgement c (is s refl)

newly_at : (word : ℕ) (session : Option SessionEnd) (by acknowledgement : ℕ) (c : Content) → IsWith word session → AreFor word (newly_numbered session by acknowledgement c)
newly_at word None by acknowledgement c is = tt
newly_at word (Some s) by acknowledgement c is = moved_for word (heard s by acknowledgement c) c (still_with word s (heard s by acknowledgement c) (heard_alike s by acknowledgement c) (is s refl))

answer_for : (word : ℕ) (session : Option SessionEnd) (shown : BroadcastState) → IsWith word session → AreFor word (session_answer session shown)
answer_for word None shown is = tt
answer_for word (Some s) shown is = either (AreFor word) (is_due s) _ _ (state_for word s shown false (is s refl), tt) tt

answers_for : (word : ℕ) (e : LinkEnd) (taken : ℕ) (asks : Bool) (shown : BroadcastState) → IsEndTo word e → AreFor word (frames_with e taken asks shown)
answers_for word e taken asks shown n =
    either (AreFor word) (is_up e.fsm.state) _ _
    (answer_for word (option_map (λ s. with_broadcast s taken asks) e.session) shown (mapped_with word (λ s. with_broadcast s taken asks) e.session (λ s. record { peer = refl; epoch = refl }) n.session)) tt

answered_end : (word : ℕ) (e : LinkEnd) (taken : ℕ) (asks : Bool) → IsEndTo word e → IsEndTo word (answered_with e taken asks)
answered_end word e taken asks n = either (IsEndTo word) (is_up e.fsm.state) _ _ (end_mapped word e (λ s. answered (with_broadcast s taken asks)) n (λ s. record { peer = refl; epoch = refl })) n

loaded_with : (word : ℕ) (e : LinkEnd) (s : SessionEnd) (packets : List (List ℕ)) → e.session ≡ Some s → IsEndTo word e → IsSessionWith word (put s packets)
loaded_with word e s packets is n = still_with word s (put s packets) (record { peer = refl; epoch = refl }) (n.session s is)

put_with : (word : ℕ) (e : LinkEnd) (s : SessionEnd) (pieces : List (List ℕ)) (p : SessionEnd) → e.session ≡ Some s → IsPut s pieces p → IsEndTo word e → IsSessionWith word p
put_with word e s pieces p is is_put n = still_with word s p (put_alike s pieces p is_put) (n.session s is)

-- ---- whatever a pair does

-- each step of a link end leaves it one to that peer, and its frames are for it
pub keeps_to : (word : ℕ) → Closed (λ b e. IsEndTo word e) (IsFor word)
keeps_to word = record {
  steps = λ b e o made n. end_followed word (with_fsm e o.after) o.change (end_fsm word e o.after (made_is e.fsm o made n.epoch) n);
  step_frames = λ b e o shown made n. for_all word (frames e o shown) (frames_for word e o shown (made_is e.fsm o made n.epoch) n);
  hears = λ b e by acknowledgement c n. end_mapped word e (λ s. arrived s by acknowledgement c) n (λ s. arrived_alike s by acknowledgement c);
  again = λ b e acknowledgement c n. for_all word (sent_again e.session acknowledgement c) (again_at word e.session acknowledgement c n.session);
  newly = λ b e by acknowledgement c n. for_all word (newly_numbered e.session by acknowledgement c) (newly_at word e.session by acknowledgement c n.session);
  mends = λ b e n. record { peer = n.peer; epoch = n.epoch; session = n.session };
  mend_frames = λ b e n. for_all word (mend_frames e) (mend_for word e n);
  cuts = λ b e held n. record { peer = n.peer; epoch = moved_is e.fsm None (on_cut e.fsm held) (on_cut_moves e.fsm held None) n.epoch; session = n.session };
  tunnels = λ b e epoch n. record { peer = n.peer; epoch = moved_is e.fsm None (on_peer_tunnel e.fsm epoch) (on_peer_tunnel_moves e.fsm epoch None) n.epoch; session = n.session };
  parts = λ b e contact seen n. record { peer = n.peer; epoch = moved_is e.fsm None (contact_ended e.fsm) (contact_ended_moves e.fsm None) n.epoch; session = n.session };
  resets = λ b e n. for_all word (reset_frames e) (reset_for word e n);
  forgets = λ b e seen n. record { peer = n.peer; epoch = moved_is e.fsm None (forget_peer e.fsm) (forget_peer_moves e.fsm None) n.epoch; session = n.session };
  hands = λ b e n. end_mapped word e given_up n (λ s. record { peer = refl; epoch = refl });
  loads = λ b e s packets is n. end_with word e (flushed (put s packets)) n (still_with word (put s packets) (flushed (put s packets)) (flushed_alike (put s packets)) (loaded_with word e s packets is n));
  load_frames = λ b e s packets is n. for_all word (flush_frames (put s packets)) (flush_for word (put s packets) (loaded_with word e s packets is n));
  empties = λ b e n. end_mapped word e waiting_given n (λ s. record { peer = refl; epoch = refl });
  lets_go = λ b e n. record { peer = n.peer; epoch = released_is e n.epoch; session = n.session };
  go_frames = λ b e n. for_all word (release_frames e) (release_for word e n);
  records = λ b e r n. record { peer = n.peer; epoch = n.epoch; session = mapped_with word (λ s. with_record s r) e.session (λ s. record { peer = refl; epoch = refl }) n.session };
  puts = λ b e s pieces p is is_put n. end_with word e (flushed p) n (still_with word p (flushed p) (flushed_alike p) (put_with word e s pieces p is is_put n));
  put_frames = λ b e s pieces p is is_put n. for_all word (flush_frames p) (flush_for word p (put_with word e s pieces p is is_put n));
  answers = λ b e taken asks n. answered_end word e taken asks n;
  answer_frames = λ b e taken asks shown n. for_all word (frames_with e taken asks shown) (answers_for word e taken asks shown n);
}
