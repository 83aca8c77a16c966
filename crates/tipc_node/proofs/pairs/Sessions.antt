-- The sessions of a pair stay its own, whatever a turn does: each is on its bearer, under an epoch no higher than the end's, and its originals name
-- sessions that are over. The own epochs by bearer are those that the pair has when the turn is over: they are no lower before.
use Rattle.std.specs.Prelude.{All, IfSome, ◌==◌, if◌then◌else◌}
use Rattle.std.proofs.Common.{◌≡◌, ◌≤◌, ◌<◌, ◌+◌, ◌-◌, ◌^◌, ◌∙◌, ℕ, zero, suc, Bool, true, false, List, [], ◌∷◌, Option, Some, None, map, option_map, refl, sym, ap, subst, arith}
use Rattle.std.proofs.lemmas.Bool.{true≢false}
use Rattle.std.proofs.lemmas.List.Elements.{All-cons, All-head, All-nil, All-tail, All-weaker}
use Rattle.std.proofs.lemmas.Option.{IfSome_then}
use Rattle.tipc_types.specs.LinkStates.{is_up}
use Rattle.tipc_types.specs.declared.link_words.Reply.TheVariants as reply
use Rattle.tipc_types.specs.declared.message_forms.Message.{Message}
use Rattle.tipc_outside.specs.declared.outgoing.Outgoing.{Outgoing}
use Rattle.tipc_link_fsm.specs.declared.changes.Change.{Change}
use Rattle.tipc_link_fsm.specs.declared.changes.Change.TheVariants.{Answer, Down, Up}
use Rattle.tipc_link_fsm.specs.Table.{Fsm, Outcome, contact_ended, forget_peer, is_last, next_epoch, on_cut, on_peer_tunnel, on_reset, on_tick, release}
use Rattle.tipc_link_fsm.proofs.Moves.{Moves, falls, forget_peer_moves, is_going_up, on_cut_moves, on_peer_tunnel_moves, on_reset_moves, on_tick_moves, release_moves, rises, stays}
use Rattle.tipc_link.specs.Links.{LinkEnd, after, answered_with, heard_end, is_down, is_heard, known, mended_end, named_end, outcome_of, record_of, recorded, session_of, tunnelled_end, with_fsm, with_session}
use Rattle.tipc_link.specs.Records.{Received, is_tunnel, kept_for}
use Rattle.tipc_link.specs.Sessions.{Content, IsPut, SessionEnd, after_state, answered as said, arrived, content_of, flushed, given_up, put, waiting_given, with_broadcast, with_record}
use Rattle.tipc_link.proofs.Ends.{after-is, ended-is, followed_session}
use Rattle.tipc_pair.specs.Addressed.{HasEpochs}
use Rattle.tipc_pair.specs.Changeovers.{contact_begins, contact_ends, fail_over, fail_over_to, failing, following, forgetting, forgotten, gone_down, gone_up, let_go, parted, parted_end, switch, switch_from, switching}
use Rattle.tipc_pair.specs.Courses.{Course, going_on, rests as nothing}
use Rattle.tipc_pair.specs.Facing.{PairEnds, facing, in_contact, is_up_at, other, turned, with_near}
use Rattle.tipc_pair.specs.Messages.{pieces_for}
use Rattle.tipc_pair.specs.PairArrivals.{inside_of}
use Rattle.tipc_pair.specs.PairFacts.{AreStatesOf, IsSessionOn}
use Rattle.tipc_pair.specs.PairTurns.{MakesNew, Opening, PairTurn, Reply}
use Rattle.tipc_pair.specs.PairTurns.Opening.{hears, makes, ticks}
use Rattle.tipc_pair.specs.Runs.{IsListed, left_by, taken_over}
use Rattle.tipc_pair.proofs.EndSteps.{cut_quiet, outcome_falls, outcome_moves, peer_tunnel_falls, tunnel_quiet}
use Rattle.tipc_pair.proofs.Falls.{Falls, on_cut_falls, on_reset_falls, on_tick_falls}
use Rattle.tipc_pair.proofs.SessionFacts.{arrived_on, begun_on, flushed_on, given_up_on, put_listed, put_on, record_on, told_on, waiting_given_on}
use Rattle.tipc_pair.proofs.acts.Acts.{Act, Acts, Steps, gone}
use Rattle.tipc_pair.proofs.acts.Acts.Act.{makes as making, puts as putting}
use Rattle.tipc_pair.proofs.acts.Acts.Acts.{answered, counted, let_go_of, made, mended, moved, opened, put as posts, raised}
use Rattle.tipc_pair.proofs.acts.Acts.Ran.{acts}
use Rattle.tipc_pair.proofs.acts.Acts.Steps.{cut, meet, name, reset, tick}
use Rattle.tipc_pair.proofs.acts.Acting.{MayHappen, MayTurn, hears_may, opens_may, turn_course, turn_pair, turn_ran}
use Rattle.tipc_pair.proofs.acts.Walks.{Parts, Walk, goes, step_moves, tested, walks, walks_by_parts}
use Rattle.tipc_pair.proofs.turns.EndEpochs.{forget_quiet, release_quiet}
use Rattle.tipc_pair.proofs.turns.FrameKinds.{arrived_same, put_same}
use Rattle.tipc_pair.proofs.turns.PairKept.{Both, both_turned}
use Rattle.tipc_node.specs.Messages.{IsSendable, bytes_of}
use Rattle.tipc_node.specs.Numbers.{NeverFalls, own_epoch, own_epoch_on}
use Rattle.tipc_node.specs.Originals.{HasSessionOf, HasSessions, IsSessionOf, NamesEnded}
use Rattle.tipc_node.proofs.pairs.Originals.{AreAll, IsHandedOver, arrived_all, flushed_all, left_stands, more_all, names_later, over_stands, put_all, sent_listed, sent_plain}
use Rattle.tipc_node.proofs.pairs.Rising.{Rises, first_on, next_higher, rising, second_on}

-- ---- a session

pub lists_of : (F : ℕ → ℕ) (b : ℕ) (f : Fsm) (s : SessionEnd) → IsSessionOf F b f s → AreAll (NamesEnded F) s
lists_of F b f s h = record { waiting = h.waiting; unacked = h.unacked }

-- another state of it
same_session : (F : ℕ → ℕ) (b : ℕ) (f : Fsm) (s s' : SessionEnd) → s'.epoch ≡ s.epoch → IsSessionOn b s' → AreAll (NamesEnded F) s' → IsSessionOf F b f s → IsSessionOf F b f s'
same_session F b f s s' epoch on all h = record {
  on = on;
  epoch = (let low = h.epoch in omega (arith, epoch, low));
  over = λ down. (let low = h.over down in omega (arith, epoch, low));
  waiting = all.waiting;
  unacked = all.unacked;
}

told_session : (F : ℕ → ℕ) (b : ℕ) (f : Fsm) (s : SessionEnd) → IsSessionOf F b f s → IsSessionOf F b f (after_state s)
told_session F b f s h = same_session F b f s (after_state s) refl (told_on b s h.on) (record { waiting = h.waiting; unacked = h.unacked }) h

recorded_session : (F : ℕ → ℕ) (b : ℕ) (f : Fsm) (r : Received) (s : SessionEnd) → IsSessionOf F b f s → IsSessionOf F b f (with_record s r)
recorded_session F b f r s h = same_session F b f s (with_record s r) refl (record_on b r s h.on) (record { waiting = h.waiting; unacked = h.unacked }) h

answered_session : (F : ℕ → ℕ) (b : ℕ) (f : Fsm) (taken : ℕ) (asks : Bool) (s : SessionEnd) → IsSessionOf F b f s → IsSessionOf F b f (said (with_broadcast s taken asks))
answered_session F b f taken asks s h =
    same_session F b f s (said (with_broadcast s taken asks)) refl (record { bearer_is = h.on.bearer_is; few = h.on.few; waiting = h.on.waiting; unacked = h.on.unacked }) (record { waiting = h.waiting; unacked = h.unacked }) h

given_session : (F : ℕ → ℕ) (b : ℕ) (f : Fsm) (s : SessionEnd) → IsSessionOf F b f s → IsSessionOf F b f (given_up s)
given_session F b f s h = same_session F b f s (given_up s) refl (given_up_on b s h.on) (record { waiting = All-nil (NamesEnded F); unacked = All-nil (NamesEnded F) }) h

emptied_session : (F : ℕ → ℕ) (b : ℕ) (f : Fsm) (s : SessionEnd) → IsSessionOf F b f s → IsSessionOf F b f (waiting_given s)
emptied_session F b f s h = same_session F b f s (waiting_given s) refl (waiting_given_on b s h.on) (record { waiting = All-nil (NamesEnded F); unacked = h.unacked }) h

heard_session : (F : ℕ → ℕ) (b : ℕ) (f : Fsm) (by acknowledgement : ℕ) (c : Content) (s : SessionEnd) → IsSessionOf F b f s → IsSessionOf F b f (arrived s by acknowledgement c)
heard_session F b f by acknowledgement c s h =
    same_session F b f s (arrived s by acknowledgement c) (arrived_same s by acknowledgement c).epoch (arrived_on b s by acknowledgement c h.on) (arrived_all (NamesEnded F) s by acknowledgement c (lists_of F b f s h)) h

flushed_epoch : (s : SessionEnd) → (flushed s).epoch ≡ s.epoch
unfolding flushed
flushed_epoch s = refl

flushed_session : (F : ℕ → ℕ) (b : ℕ) (f : Fsm) (s : SessionEnd) → IsSessionOf F b f s → IsSessionOf F b f (flushed s)
flushed_session F b f s h = same_session F b f s (flushed s) (flushed_epoch s) (flushed_on b s h.on) (flushed_all (NamesEnded F) s (lists_of F b f s h)) h

-- packets of a message are put
pub posted_before : (F : ℕ → ℕ) (b : ℕ) (f : Fsm) (s s' : SessionEnd) (pieces : List (List ℕ)) → All IsListed pieces → All (λ packet. is_tunnel packet ≡ false) pieces → IsPut s pieces s' → IsSessionOf F b f s → IsSessionOf F b f s'
posted_before F b f s s' pieces listed plain is h =
    same_session F b f s s' (put_same s pieces s' is).epoch (put_on b s s' pieces h.on listed is) (put_all F s s' pieces plain is (lists_of F b f s h)) h

-- and those that wait move up
posted_session : (F : ℕ → ℕ) (b : ℕ) (f : Fsm) (s s' : SessionEnd) (pieces : List (List ℕ)) → All IsListed pieces → All (λ packet. is_tunnel packet ≡ false) pieces → IsPut s pieces s' → IsSessionOf F b f s
    → IsSessionOf F b f (flushed s')
posted_session F b f s s' pieces listed plain is h = flushed_session F b f s' (posted_before F b f s s' pieces listed plain is h)

-- what the other link leaves, or what is taken over from it
loaded_session : (F : ℕ → ℕ) (b : ℕ) (f : Fsm) (s : SessionEnd) (packets : List (List ℕ)) → IsHandedOver F packets → IsSessionOf F b f s → IsSessionOf F b f (flushed (put s packets))
loaded_session F b f s packets handed h =
    flushed_session F b f (put s packets)
    (same_session F b f s (put s packets) refl (put_listed b s packets h.on handed.listed) (more_all (NamesEnded F) s packets handed.named (lists_of F b f s h)) h)

-- ---- the link states

-- the link states of an end may become these, and it stays one of the same session
record Onward (F : ℕ → ℕ) (b : ℕ) (f f' : Fsm) : Type 0 where
  going : is_up f'.state ≡ true → is_last f'.own ≡ false
  session : (s : SessionEnd) → IsSessionOf F b f s → IsSessionOf F b f' s

-- where the epoch is no lower, and is above the session's where the link is down
onward : (F : ℕ → ℕ) (b : ℕ) (f f' : Fsm) → f.own ≤ f'.own → (is_up f'.state ≡ true → is_last f'.own ≡ false) → ((s : SessionEnd) → IsSessionOf F b f s → is_up f'.state ≡ false → s.epoch < f'.own) → Onward F b f f'
onward F b f f' higher going over = record {
  going = going;
  session = λ s h. record { on = h.on; epoch = (let low = h.epoch in omega (arith, low, higher)); over = over s h; waiting = h.waiting; unacked = h.unacked };
}

next_of : (own : ℕ) → is_last own ≡ false → next_epoch own ≡ own + 1
next_of own more = ap (λ (last : Bool). if last then own else own + 1) more

-- an end that goes down takes the next epoch, which is above that of the session; so does one that is down
below_next : (F : ℕ → ℕ) (b : ℕ) (f : Fsm) (s : SessionEnd) → (is_up f.state ≡ true → is_last f.own ≡ false) → IsSessionOf F b f s → s.epoch < next_epoch f.own
below_next F b f s going h = elim (is_up f.state) as (λ up. is_up f.state ≡ up → s.epoch < next_epoch f.own) [
  | true ↦ λ up. let next = next_of f.own (going up) in let low = h.epoch in omega (arith, next, low)
  | false ↦ λ down. let higher = next_higher f.own in let low = h.over down in omega (arith, higher, low)
] refl

fallen : (F : ℕ → ℕ) (b : ℕ) (f f' : Fsm) → (is_up f.state ≡ true → is_last f.own ≡ false) → f'.own ≡ next_epoch f.own → is_up f'.state ≡ false → Onward F b f f'
fallen F b f f' going own down =
    let higher = next_higher f.own in
    onward F b f f' (omega (arith, own, higher)) (λ up. absurd (true≢false (sym up ∙ down))) (λ s h is. (let low = below_next F b f s going h in omega (arith, own, low)))

-- whatever moves them, but for a session that begins
moved_on : (F : ℕ → ℕ) (b : ℕ) (f : Fsm) (shown : Option (ℕ × ℕ)) (o : Outcome) → (is_up f.state ≡ true → is_last f.own ≡ false) → Moves f shown o → is_going_up o.change ≡ false → Onward F b f o.after
moved_on F b f shown o going (stays own up quiet) low =
    onward F b f o.after (omega (arith, own)) (λ is. ap is_last own ∙ going (sym up ∙ is)) (λ s h down. (let over = h.over (sym up ∙ down) in omega (arith, own, over)))
moved_on F b f shown o going (rises es own was up last told peer rising) low = absurd (true≢false (sym rising ∙ low))
moved_on F b f shown o going (falls own down quiet) low = fallen F b f o.after going own down

moved_going : (f : Fsm) (shown : Option (ℕ × ℕ)) (o : Outcome) → (is_up f.state ≡ true → is_last f.own ≡ false) → Moves f shown o → is_up o.after.state ≡ true → is_last o.after.own ≡ false
moved_going f shown o going (stays own up quiet) is = ap is_last own ∙ going (sym up ∙ is)
moved_going f shown o going (rises es own was up last told peer rising) is = ap is_last own ∙ last
moved_going f shown o going (falls own down quiet) is = absurd (true≢false (sym is ∙ down))

-- one that went up is up
pub up_after : (f : Fsm) (shown : Option (ℕ × ℕ)) (o : Outcome) → Moves f shown o → o.change ≡ Up → is_up o.after.state ≡ true
up_after f shown o (stays own up quiet) is = absurd (true≢false (sym (ap is_going_up is) ∙ quiet))
up_after f shown o (rises es own was up last told peer rising) is = up
up_after f shown o (falls own down quiet) is = absurd (true≢false (sym (ap is_going_up is) ∙ quiet))

-- ---- a link end

-- a link end with its session, which isn't at the last epoch of its boot while its link is up
pub record IsOwn (F : ℕ → ℕ) (b : ℕ) (e : LinkEnd) : Type 0 where
  pub on : e.bearer ≡ b
  pub going : is_up e.fsm.state ≡ true → is_last e.fsm.own ≡ false
  pub session : IfSome e.session (IsSessionOf F b e.fsm)

pub session_at : (F : ℕ → ℕ) (b : ℕ) (e : LinkEnd) (s : SessionEnd) → IsOwn F b e → e.session ≡ Some s → IsSessionOf F b e.fsm s
session_at F b e s h is = subst (λ o. IfSome o (IsSessionOf F b e.fsm)) is h.session

mapped : (F : ℕ → ℕ) (b : ℕ) (f : Fsm) (g : SessionEnd → SessionEnd) (o : Option SessionEnd) → ((s : SessionEnd) → IsSessionOf F b f s → IsSessionOf F b f (g s)) → IfSome o (IsSessionOf F b f)
    → IfSome (option_map g o) (IsSessionOf F b f)
mapped F b f g None keeps h = h
mapped F b f g (Some s) keeps h = keeps s h

-- with another state of its session
kept_own : (F : ℕ → ℕ) (b : ℕ) (e : LinkEnd) (g : SessionEnd → SessionEnd) → ((s : SessionEnd) → IsSessionOf F b e.fsm s → IsSessionOf F b e.fsm (g s)) → IsOwn F b e → IsOwn F b (record e { session = option_map g e.session })
kept_own F b e g keeps h = record { on = h.on; going = h.going; session = mapped F b e.fsm g e.session keeps h.session }

session_own : (F : ℕ → ℕ) (b : ℕ) (e : LinkEnd) (s : SessionEnd) → IsOwn F b e → IsSessionOf F b e.fsm s → IsOwn F b (with_session e s)
session_own F b e s h is = record { on = h.on; going = h.going; session = is }

-- with other link states
onward_own : (F : ℕ → ℕ) (b : ℕ) (e e' : LinkEnd) → e'.bearer ≡ e.bearer → e'.session ≡ e.session → Onward F b e.fsm e'.fsm → IsOwn F b e → IsOwn F b e'
onward_own F b e e' on same k h = record {
  on = on ∙ h.on;
  going = k.going;
  session = subst (λ o. IfSome o (IsSessionOf F b e'.fsm)) (sym same) (IfSome_then e.session h.session k.session);
}

-- a session that begins
begun_session : (F : ℕ → ℕ) (b : ℕ) (e : LinkEnd) → e.bearer ≡ b → is_up e.fsm.state ≡ true → IsSessionOf F b e.fsm (session_of e)
begun_session F b e on up = record {
  on = begun_on b e.own e.peer e.bearer e.fsm.own (known e.fsm.peer) (kept_for (record_of e) (known e.fsm.peer)) on;
  epoch = omega arith;
  over = λ down. absurd (true≢false (sym up ∙ down));
  waiting = All-nil (NamesEnded F);
  unacked = All-nil (NamesEnded F);
}

-- after an outcome of its link states
pub after_own : (F : ℕ → ℕ) (b : ℕ) (e : LinkEnd) (shown : Option (ℕ × ℕ)) (o : Outcome) → IsOwn F b e → Moves e.fsm shown o → IsOwn F b (after e o)
after_own F b e shown o h m =
    subst (IsOwn F b) (sym (after-is e o)) (record { on = h.on; going = moved_going e.fsm shown o h.going m; session = by o.change refl })
  where
    quietly : is_going_up o.change ≡ false → IfSome e.session (IsSessionOf F b o.after)
    quietly low = (let k = moved_on F b e.fsm shown o h.going m low in IfSome_then e.session h.session k.session)

    by : (change : Change) → o.change ≡ change → IfSome (followed_session (with_fsm e o.after) change) (IsSessionOf F b o.after)
    by Up is = begun_session F b (with_fsm e o.after) h.on (up_after e.fsm shown o m is)
    by (Answer (reply.State probe)) is = mapped F b o.after after_state e.session (told_session F b o.after) (quietly (ap is_going_up is))
    by other is = quietly (ap is_going_up is)

-- the step of an end
pub step_own : (F : ℕ → ℕ) (b : ℕ) (x : PairEnds) (a : Act) (e : LinkEnd) (o : Outcome) (e' : LinkEnd) (states numbered : List Outgoing) (epoch : ℕ) → Steps x e a o e' states numbered epoch → IsOwn F b e → IsOwn F b e'
step_own F b x _ e _ _ _ _ _ cut h =
    onward_own F b e _ refl refl (moved_on F b e.fsm None (on_cut e.fsm (is_up_at x.far)) h.going (on_cut_moves e.fsm (is_up_at x.far) None) (cut_quiet e.fsm (is_up_at x.far))) h
step_own F b x _ e _ _ _ _ _ (tick shown) h = after_own F b e None (on_tick e.fsm (is_up_at x.far)) h (on_tick_moves e.fsm (is_up_at x.far) None)
step_own F b x _ e _ _ _ _ _ (reset es held shown) h = after_own F b e None (on_reset e.fsm es held) h (on_reset_moves e.fsm es held None)
step_own F b x _ e _ _ _ _ _ (meet es er p by shown) h =
    let o = outcome_of e.fsm p.header es er (is_up_at x.far) in
    let now = after_own F b e (Some (es, er)) o h (outcome_moves e.fsm p.header es er (is_up_at x.far)) in
    let c = content_of p in
    tested (IsOwn F b) (is_heard p.header o.change) (heard_end (after e o) by p.acknowledgement c) (after e o)
    (λ _. kept_own F b (after e o) (λ s. arrived s by p.acknowledgement c) (heard_session F b (after e o).fsm by p.acknowledgement c) now) (λ _. now)
step_own F b x _ e _ _ _ _ _ (name epoch) h =
    onward_own F b e _ refl refl (moved_on F b e.fsm None (on_peer_tunnel e.fsm epoch) h.going (on_peer_tunnel_moves e.fsm epoch None) (tunnel_quiet e.fsm epoch)) h

pub step_falls : (x : PairEnds) (a : Act) (e : LinkEnd) (o : Outcome) (e' : LinkEnd) (states numbered : List Outgoing) (epoch : ℕ) → Steps x e a o e' states numbered epoch → Falls e.fsm o
step_falls x _ e _ _ _ _ _ cut = on_cut_falls e.fsm (is_up_at x.far)
step_falls x _ e _ _ _ _ _ (tick shown) = on_tick_falls e.fsm (is_up_at x.far)
step_falls x _ e _ _ _ _ _ (reset es held shown) = on_reset_falls e.fsm es held
step_falls x _ e _ _ _ _ _ (meet es er p by shown) = outcome_falls e.fsm p.header es er (is_up_at x.far)
step_falls x _ e _ _ _ _ _ (name epoch) = peer_tunnel_falls e.fsm epoch

-- one that took the link down left it down
pub down_then : (f : Fsm) (shown : Option (ℕ × ℕ)) (o : Outcome) → (is_up f.state ≡ true → is_last f.own ≡ false) → Moves f shown o → Falls f o → is_down o.change ≡ true → is_up o.after.state ≡ false
down_then f shown o going (stays own up quiet) falling down = absurd (let next = next_of f.own (going (falling down).0) in let fell = (falling down).1 in omega (arith, own, next, fell))
down_then f shown o going (rises es own was up last told peer rising) falling down = absurd (let next = next_of f.own last in let fell = (falling down).1 in omega (arith, own, next, fell))
down_then f shown o going (falls own down_now quiet) falling down = down_now

parted_own : (F : ℕ → ℕ) (b contact seen : ℕ) (o : Option LinkEnd) → IfSome o (IsOwn F b) → IfSome (option_map (parted_end contact seen) o) (IsOwn F b)
parted_own F b contact seen None h = h
parted_own F b contact seen (Some e) h =
    let is = ended-is e.fsm in
    onward_own F b e (parted_end contact seen e) refl refl
    (fallen F b e.fsm (contact_ended e.fsm).after h.going (ap (λ (f : Fsm). f.own) is) (ap (λ (f : Fsm). is_up f.state) is)) h

forgets_own : (F : ℕ → ℕ) (b seen : ℕ) (o : Option LinkEnd) → IfSome o (IsOwn F b) → IfSome (option_map (forgetting seen) o) (IsOwn F b)
forgets_own F b seen None h = h
forgets_own F b seen (Some e) h = onward_own F b e (forgetting seen e) refl refl (moved_on F b e.fsm None (forget_peer e.fsm) h.going (forget_peer_moves e.fsm None) (forget_quiet e.fsm)) h

answered_own : (F : ℕ → ℕ) (b : ℕ) (e : LinkEnd) (taken : ℕ) (asks : Bool) → IsOwn F b e → IsOwn F b (answered_with e taken asks)
answered_own F b e taken asks h =
    tested (IsOwn F b) (is_up e.fsm.state) (record e { session = option_map (λ s. said (with_broadcast s taken asks)) e.session }) e
    (λ _. kept_own F b e (λ s. said (with_broadcast s taken asks)) (answered_session F b e.fsm taken asks) h) (λ _. h)

recorded_own : (F : ℕ → ℕ) (b : ℕ) (e : LinkEnd) (r : Received) → IsOwn F b e → IsOwn F b (recorded e r)
recorded_own F b e r h = record { on = h.on; going = h.going; session = mapped F b e.fsm (λ s. with_record s r) e.session (recorded_session F b e.fsm r) h.session }

-- ---- a pair

-- the own epochs of both ends are at most these, by bearer
pub record AreUnder (F : ℕ → ℕ) (x : PairEnds) : Type 0 where
  pub near : own_epoch x.near ≤ F x.bearer
  pub far : own_epoch x.far ≤ F (other x.bearer)

-- what is asked of an act: an end is made only where there is none, and the packets that are put may stand in the lists of a link and aren't tunnel
-- packets
abbrev pub MayAct : PairEnds → Act → Type 0
MayAct x making = x.near ≡ None
MayAct x (putting pieces) = All IsListed pieces × All (λ packet. is_tunnel packet ≡ false) pieces
MayAct x other = Unit {0}

pub rises_so : Parts MayAct Rises
rises_so = rising MayAct (λ x none. none)

-- both ends of a pair, each on its bearer
abbrev pub Ours : (ℕ → ℕ) → PairEnds → Type 0
Ours F x = Both (IsOwn F) x

abbrev pub OursIn : (ℕ → ℕ) → Course → Type 0
OursIn F c = Ours F c.pair

-- by a course no number falls, and where it ends under these epochs its ends are own where they were
pub record Stays (F : ℕ → ℕ) (x : PairEnds) (c : Course) : Type 0 where
  pub rises : Rises x c
  pub own : AreUnder F c.pair → Ours F x → Ours F c.pair

module _ (F : ℕ → ℕ) (fits : (b : ℕ) → b ≤ 1 → F b < 2 ^ 64) where
  pub near_own : (x : PairEnds) (e : LinkEnd) → x.near ≡ Some e → Ours F x → IsOwn F x.bearer e
  near_own x e is h = subst (λ o. IfSome o (IsOwn F x.bearer)) is h.near

  pub far_own : (x : PairEnds) (e : LinkEnd) → x.far ≡ Some e → Ours F x → IsOwn F (other x.bearer) e
  far_own x e is h = subst (λ o. IfSome o (IsOwn F (other x.bearer))) is h.far

  pub near_now : (x : PairEnds) (e : LinkEnd) → IsOwn F x.bearer e → Ours F x → Ours F (with_near x e)
  near_now x e k h = record { two = h.two; near = k; far = h.far }

  parts_now : (x : PairEnds) → Ours F x → Ours F (parted x)
  parts_now x h = record { two = h.two; near = parted_own F x.bearer (x.contact + 1) x.seen x.near h.near; far = parted_own F (other x.bearer) (x.contact + 1) x.seen x.far h.far }

  -- ---- what follows a change of the near link

  -- what the near link leaves, whose session is over
  pub left_handed : (x : PairEnds) (near : LinkEnd) (lost : SessionEnd) → x.near ≡ Some near → near.session ≡ Some lost → is_up near.fsm.state ≡ false → AreUnder F x → Ours F x → IsHandedOver F (left_by lost)
  left_handed x near lost one first down under h =
      let was = session_at F x.bearer near lost (near_own x near one h) first in
      let most : near.fsm.own ≤ F x.bearer = subst (λ o. own_epoch o ≤ F x.bearer) one under.near in
      let below = was.over down in
      let most_of = fits x.bearer h.two in
      left_stands F x.bearer lost h.two was.on (lists_of F x.bearer near.fsm lost was) (omega (arith, most, below, most_of)) (omega (arith, most, below))

  -- what is taken over from the far link
  pub over_handed : (x : PairEnds) (far : LinkEnd) (old : SessionEnd) → x.far ≡ Some far → far.session ≡ Some old → AreUnder F x → Ours F x → IsHandedOver F (taken_over old)
  over_handed x far old two second under h =
      let was = session_at F (other x.bearer) far old (far_own x far two h) second in
      let most : far.fsm.own ≤ F (other x.bearer) = subst (λ o. own_epoch o ≤ F (other x.bearer)) two under.far in
      let low = was.epoch in
      let most_of = fits (other x.bearer) (omega arith) in
      over_stands F (other x.bearer) old (omega arith) was.on (lists_of F (other x.bearer) far.fsm old was) (omega (arith, most, low, most_of))

  -- the far link gets what the near one leaves
  failing_own : (x : PairEnds) (near far : LinkEnd) (lost s : Option SessionEnd) → x.near ≡ Some near → x.far ≡ Some far → near.session ≡ lost → far.session ≡ s → is_up near.fsm.state ≡ false → AreUnder F x → Ours F x
      → Ours F (failing x near far lost s).pair
  failing_own x near far (Some lost) (Some s) one two first second down under h =
      let here = near_own x near one h in
      let there = far_own x far two h in
      let handed = left_handed x near lost one first down under h in
      record {
        two = h.two;
        near = kept_own F x.bearer near given_up (given_session F x.bearer near.fsm) here;
        far = session_own F (other x.bearer) far (flushed (put s (left_by lost))) there (loaded_session F (other x.bearer) far.fsm s (left_by lost) handed (session_at F (other x.bearer) far s there second));
      }
  failing_own x near far (Some lost) None one two first second down under h = h
  failing_own x near far None s one two first second down under h = h

  fail_over_own : (x : PairEnds) (o p : Option LinkEnd) → x.near ≡ o → x.far ≡ p → is_up_at o ≡ false → AreUnder F x → Ours F x → Ours F (fail_over_to x o p).pair
  fail_over_own x (Some near) (Some far) one two down under h = failing_own x near far near.session far.session one two refl refl down under h
  fail_over_own x (Some near) None one two down under h = h
  fail_over_own x None p one two down under h = h

  -- the near link takes over from the far one
  switching_own : (x : PairEnds) (near far : LinkEnd) (s old : Option SessionEnd) → x.near ≡ Some near → x.far ≡ Some far → near.session ≡ s → far.session ≡ old → AreUnder F x → Ours F x → Ours F (switching x near far s old).pair
  switching_own x near far (Some s) (Some old) one two first second under h =
      let here = near_own x near one h in
      let there = far_own x far two h in
      let handed = over_handed x far old two second under h in
      record {
        two = h.two;
        near = session_own F x.bearer near (flushed (put s (taken_over old))) here (loaded_session F x.bearer near.fsm s (taken_over old) handed (session_at F x.bearer near s here first));
        far = kept_own F (other x.bearer) far waiting_given (emptied_session F (other x.bearer) far.fsm) there;
      }
  switching_own x near far (Some s) None one two first second under h = h
  switching_own x near far None old one two first second under h = h

  switch_own : (x : PairEnds) (o p : Option LinkEnd) → x.near ≡ o → x.far ≡ p → AreUnder F x → Ours F x → Ours F (switch_from x o p).pair
  switch_own x (Some near) (Some far) one two under h = switching_own x near far near.session far.session one two refl refl under h
  switch_own x (Some near) None one two under h = h
  switch_own x None p one two under h = h

  up_own : (x : PairEnds) → AreUnder F x → Ours F x → OursIn F (gone_up x)
  up_own x under h = tested (OursIn F) (is_up_at x.far) (if x.bearer == 0 then switch x else nothing x) (contact_begins x)
      (λ _. tested (OursIn F) (x.bearer == 0) (switch x) (nothing x) (λ _. switch_own x x.near x.far refl refl under h) (λ _. h)) (λ _. record { two = h.two; near = h.near; far = h.far })

  down_own : (x : PairEnds) → is_up_at x.near ≡ false → AreUnder F x → Ours F x → OursIn F (gone_down x)
  down_own x down under h = tested (OursIn F) (is_up_at x.far) (fail_over x) (contact_ends x (x.contact, x.seen) 0) (λ _. fail_over_own x x.near x.far refl refl down under h) (λ _. parts_now x h)

  pub following_own : (x : PairEnds) (change : Change) (epoch : ℕ) → (is_down change ≡ true → is_up_at x.near ≡ false) → AreUnder F x → Ours F x → OursIn F (following x change epoch)
  following_own x Up epoch down under h = up_own x under h
  following_own x (Down cause) epoch down under h = down_own x (down refl) under h
  following_own x other epoch down under h = h

  -- no number falls in what follows
  pub under_before : (x : PairEnds) (c : Course) → x.bearer ≤ 1 → Rises x c → AreUnder F c.pair → AreUnder F x
  under_before x c two h k =
      let on = h.bearer two in
      let near = h.near in
      let far = h.far in
      let nears : own_epoch c.pair.near ≤ F x.bearer = subst (λ b. own_epoch c.pair.near ≤ F b) on k.near in
      let fars : own_epoch c.pair.far ≤ F (other x.bearer) = subst (λ b. own_epoch c.pair.far ≤ F (other b)) on k.far in
      record { near = omega (arith, near, nears); far = omega (arith, far, fars) }

  -- seen from the other link
  pub under_turned : (x : PairEnds) (c : Course) → Rises (turned x) c → AreUnder F (turned c.pair) → AreUnder F c.pair
  under_turned x c h under =
      let on = h.bearer (omega arith) in
      let back : 1 - (1 - c.pair.bearer) ≡ c.pair.bearer = omega (arith, on) in
      record { near = subst (λ b. own_epoch c.pair.near ≤ F b) back under.far; far = under.near }

  pub followed_pair : (x : PairEnds) (change : Change) (epoch : ℕ) → (following x change epoch).pair ≡ (gone change x).pair
  followed_pair x Up epoch = refl
  followed_pair x (Down cause) epoch = refl
  followed_pair x other epoch = refl

  -- ---- the acts

  pub act_own : (x : PairEnds) (a : Act) (c : Course) → MayAct x a → Acts x a c → AreUnder F c.pair → Ours F x → Ours F c.pair
  unfolding going_on
  act_own _ _ _ may (made x) under h = record { two = h.two; near = record { on = refl; going = λ up. absurd (let wrong : ⊥ = cc in wrong); session = tt }; far = h.far }
  act_own _ _ _ may (mended x e near) under h = (let k = near_own x e near h in near_now x (mended_end e) (record { on = k.on; going = k.going; session = k.session }) h)
  act_own _ _ _ may (moved x a e o e' states numbered epoch near step) under h =
      let was = near_own x e near h in
      let m = step_moves x a e o e' states numbered epoch step in
      let y = with_near x e' in
      let up : o.change ≡ Up → is_up e'.fsm.state ≡ true = λ is. ap (λ (f : Fsm). is_up f.state) m.fsm ∙ up_after e.fsm m.shown o m.moves is in
      let down : is_down o.change ≡ true → is_up e'.fsm.state ≡ false = λ is. ap (λ (f : Fsm). is_up f.state) m.fsm
      ∙ down_then e.fsm m.shown o was.going m.moves (step_falls x a e o e' states numbered epoch step) is in
      let rose = goes MayAct Rises rises_so o.change y up in
      let before = under_before y (gone o.change y) h.two rose (subst (AreUnder F) (followed_pair y o.change epoch) under) in
      following_own y o.change epoch down before (near_now x e' (step_own F x.bearer x a e o e' states numbered epoch step was) h)
  act_own _ _ _ may (raised x number) under h =
      tested (OursIn F) (in_contact x) (contact_ends (record x { seen = number }) (x.contact, x.seen) number) (nothing (forgotten x number))
      (λ _. parts_now (record x { seen = number }) (record { two = h.two; near = h.near; far = h.far }))
      (λ _. record { two = h.two; near = forgets_own F x.bearer number x.near h.near; far = forgets_own F (other x.bearer) number x.far h.far })
  act_own _ _ _ may (let_go_of x e near clear) under h =
      let k = near_own x e near h in
      near_now x (let_go e) (onward_own F x.bearer e (let_go e) refl refl (moved_on F x.bearer e.fsm None (release e.fsm) k.going (release_moves e.fsm None) (release_quiet e.fsm)) k) h
  act_own _ _ _ may (counted x e t by near) under h =
      let k = near_own x e near h in
      tested (λ d. Ours F (with_near x d)) (t.count == 0) (named_end e t.old.epoch) (tunnelled_end e t.old.epoch (inside_of t by))
      (λ _. near_now x (named_end e t.old.epoch) (recorded_own F x.bearer e _ k) h) (λ _. near_now x (tunnelled_end e t.old.epoch (inside_of t by)) (recorded_own F x.bearer e _ k) h)
  act_own _ _ _ may (opened x packets given last brings) under h = record { two = h.two; near = h.near; far = h.far }
  act_own _ _ _ may (posts x e s pieces s' near has is) under h =
      let k = near_own x e near h in
      near_now x (with_session e (flushed s')) (session_own F x.bearer e (flushed s') k (posted_session F x.bearer e.fsm s s' pieces may.0 may.1 is (session_at F x.bearer e s k has))) h
  act_own _ _ _ may (answered x e taken asks shown near) under h = near_now x (answered_with e taken asks) (answered_own F x.bearer e taken asks (near_own x e near h)) h

  -- ---- a turn

  pub staying : Walk MayAct (Stays F)
  unfolding going_on
  staying = record {
    rests = λ x. record { rises = rises_so.rests x; own = λ under h. h };
    goes_on = λ x first step one two. record {
      rises = rises_so.goes_on x first step one.rises two.rises;
      own = λ under h. (
          let on = one.rises.bearer h.two in
          let here = h.two in
          let before = under_before first.pair (step first.pair) (omega (arith, on, here)) two.rises under in
          two.own under (one.own before h));
    };
    turns = λ x c there. record {
      rises = rises_so.turns x c there.rises;
      own = λ under h. both_turned (IsOwn F) c.pair (there.own (under_turned x c there.rises under) (both_turned (IsOwn F) x h));
    };
    acts = λ x a c may does. record { rises = walks_by_parts MayAct Rises rises_so x c (acts x a c may does); own = act_own x a c may does };
  }

pub may_first : (x : PairEnds) (opening : Opening) → MakesNew x opening → MayHappen MayAct x opening
may_first x (makes bearer is_mended) new = (new, tt)
may_first x (ticks shown) new = λ y. tt
may_first x (hears bearer es er p by shown) new = record {
  hears = hears_may MayAct p.header es er p by shown (facing bearer x) (λ number. tt) (λ y. tt) (λ y. tt);
  opens = opens_may MayAct _ _ (λ y epoch. tt) (λ y t by'. tt) (λ y packets given. tt);
}
may_first x other new = tt

-- the packets of each message may be put
pub may_put : (own : ℕ) (ms : List Message) → All (IsSendable own) ms → All (λ message. (y : PairEnds) → is_up_at y.near ≡ true → MayAct y (putting (pieces_for message))) (map (bytes_of own) ms)
may_put own [] sendable = All-nil (λ message. (y : PairEnds) → is_up_at y.near ≡ true → MayAct y (putting (pieces_for message)))
may_put own (m ∷ ms) sendable =
    let one = All-head (IsSendable own) m ms sendable in
    All-cons (λ message. (y : PairEnds) → is_up_at y.near ≡ true → MayAct y (putting (pieces_for message))) (bytes_of own m) (map (bytes_of own) ms)
    (λ y up. (sent_listed own m one, sent_plain own m one)) (may_put own ms (All-tail (IsSendable own) m ms sendable))

-- ---- the own epochs of a pair, by bearer

epoch_fits : (contact : ℕ) (e : LinkEnd) → contact < 2 ^ 64 → AreStatesOf contact e.fsm → e.fsm.own < 2 ^ 64
epoch_fits contact e low h = let same = h.boot in omega (arith, low, same)

end_fits : (contact : ℕ) (o : Option LinkEnd) → contact < 2 ^ 64 → IfSome o (λ (e : LinkEnd). AreStatesOf contact e.fsm) → own_epoch o < 2 ^ 64
end_fits contact None low h = omega arith
end_fits contact (Some e) low h = epoch_fits contact e low h

-- they have 64 bits
pub epochs_fit : (x : PairEnds) → x.bearer ≡ 0 → HasEpochs x → (b : ℕ) → b ≤ 1 → own_epoch_on x b < 2 ^ 64
epochs_fit x first h zero one = let on = first_on x first in let low = end_fits x.contact x.near h.contact.1 h.near in omega (arith, on, low)
epochs_fit x first h (suc zero) one = let on = second_on x first in let low = end_fits x.contact x.far h.contact.1 h.far in omega (arith, on, low)
epochs_fit x first h (suc (suc k)) one = absurd (omega (arith, one))

-- each is that of its end
pub under_itself : (x : PairEnds) → x.bearer ≡ 0 → AreUnder (own_epoch_on x) x
under_itself x first =
    let near : own_epoch x.near ≤ own_epoch_on x 0 = (let on = first_on x first in omega (arith, on)) in
    let far : own_epoch x.far ≤ own_epoch_on x 1 = (let on = second_on x first in omega (arith, on)) in
    record { near = subst (λ b. own_epoch x.near ≤ own_epoch_on x b) (sym first) near; far = subst (λ b. own_epoch x.far ≤ own_epoch_on x (other b)) (sym first) far }

-- what was so by lower epochs is so by higher ones
own_later : (F G : ℕ → ℕ) (b contact : ℕ) (e : LinkEnd) → ((k : ℕ) → k ≤ 1 → F k ≤ G k) → AreStatesOf contact e.fsm → HasSessionOf F b e → IsOwn G b e
own_later F G b contact e rose states h = record {
  on = h.on;
  going = states.going_on;
  session = IfSome_then e.session h.session (λ s k. record {
    on = k.on;
    epoch = k.epoch;
    over = k.over;
    waiting = All-weaker (NamesEnded F) (NamesEnded G) (names_later F G rose) s.sending.waiting k.waiting;
    unacked = All-weaker (NamesEnded F) (NamesEnded G) (names_later F G rose) s.sending.unacked k.unacked;
  });
}

pub end_later : (F G : ℕ → ℕ) (b contact : ℕ) (o : Option LinkEnd) → ((k : ℕ) → k ≤ 1 → F k ≤ G k) → IfSome o (λ (e : LinkEnd). AreStatesOf contact e.fsm) → IfSome o (HasSessionOf F b) → IfSome o (IsOwn G b)
end_later F G b contact None rose states h = h
end_later F G b contact (Some e) rose states h = own_later F G b contact e rose states h

-- the ends before a turn, by the epochs after it
pub before_own : (F : ℕ → ℕ) (x : PairEnds) → HasEpochs x → ((k : ℕ) → k ≤ 1 → own_epoch_on x k ≤ F k) → x.bearer ≤ 1 → HasSessions x → Ours F x
before_own F x epochs rose two h = record {
  two = two;
  near = end_later (own_epoch_on x) F x.bearer x.contact x.near rose epochs.near h.near;
  far = end_later (own_epoch_on x) F (other x.bearer) x.contact x.far rose epochs.far h.far;
}

has_session : (F : ℕ → ℕ) (b : ℕ) (o : Option LinkEnd) → IfSome o (IsOwn F b) → IfSome o (HasSessionOf F b)
has_session F b None h = h
has_session F b (Some e) h = record { on = h.on; session = h.session }

pub turn_sessions : (own : ℕ) (x y : PairEnds) (opening : Opening) (ms : List Message) (reply : Option Reply) (frames : List Outgoing) → x.bearer ≡ 0 → y.bearer ≡ 0 → HasEpochs x → HasEpochs y → NeverFalls x y → MakesNew x opening
    → All (IsSendable own) ms → PairTurn x opening (map (bytes_of own) ms) reply y frames → HasSessions x → HasSessions y
turn_sessions own x y opening ms reply frames first again epochs after rose new sendable t h =
    let F = own_epoch_on y in
    let fits = epochs_fit y again after in
    let may : MayTurn MayAct x opening (map (bytes_of own) ms) reply = record { happens = may_first x opening new; puts = may_put own ms sendable; answers = λ r is z. tt } in
    let two : x.bearer ≤ 1 = omega (arith, first) in
    let run = turn_ran MayAct (λ z. tt) x y opening (map (bytes_of own) ms) reply frames two may t in
    let same = turn_pair x y opening (map (bytes_of own) ms) reply frames t in
    let all = walks MayAct (Stays F) (staying F fits) x (turn_course t) run in
    let before = before_own F x epochs rose.epochs two h in
    let ours : Both (IsOwn F) y = subst (Both (IsOwn F)) (sym same) (all.own (subst (AreUnder F) same (under_itself y again)) before) in
    record { near = has_session F y.bearer y.near ours.near; far = has_session F (other y.bearer) y.far ours.far }
