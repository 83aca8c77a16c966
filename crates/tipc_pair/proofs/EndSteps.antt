-- What is true of a link end of a pair stays so after an outcome of its link states, at an arrival, and at the end of a contact.
use Rattle.std.specs.Prelude.{All, IfSome, OnErr, OnOk}
use Rattle.std.proofs.Common.{◌≡◌, ◌≢◌, ◌⊎◌, ◌+◌, ◌%◌, ◌≤◌, ◌==◌, ◌&&◌, nat_lt, not, ◌∙◌, ℕ, Bool, true, false, List, [], Option, Some, None, Result, Ok, Err, inl, inr, refl, sym, subst, ap, arith, is_some, option_map, if◌then◌else◌}
use Rattle.std.proofs.lemmas.Bool.Decides.{nat_tests}
use Rattle.tipc_types.specs.LinkStates.{is_up}
use Rattle.tipc_types.specs.declared.link_words.Cause.TheVariants as cause
use Rattle.tipc_types.specs.declared.link_words.Reply.TheVariants as reply
use Rattle.tipc_header.specs.declared.packet.Header.{Header}
use Rattle.tipc_header.specs.declared.packet.Header.TheVariants as header
use Rattle.tipc_header.specs.Spelling.{Fields}
use Rattle.tipc_link_fsm.specs.declared.changes.Change.{Change}
use Rattle.tipc_link_fsm.specs.declared.changes.Change.TheVariants.{Answer, Down, Stay, Up}
use Rattle.tipc_link_fsm.specs.Table.{Fsm, Outcome, apart, contact_ended, forget_peer, forgot_peer, gives, is_held, is_in_reset, is_last, is_peer, is_reset_reset, is_session, next_epoch, on_activate, on_cut, on_peer_tunnel, on_traffic}
use Rattle.tipc_link_fsm.proofs.Moves.{Moves, cases_on, falls, is_going_up, on_activate_moves, on_cut_moves, on_peer_tunnel_moves, on_reset_moves, on_traffic_moves, rises, stays}
use Rattle.tipc_contact.specs.Sides.{boot_of}
use Rattle.tipc_link.specs.Links.{LinkEnd, after, arrival_end, cut_end, forget_frames, handed_over, heard_end, is_down, is_heard, known, outcome_of, record_of, reset_frames, tunnelled_down, with_fsm, with_session, without_waiting}
use Rattle.tipc_link.specs.Records.{kept_for}
use Rattle.tipc_link.specs.Sessions.{Content, SessionEnd, IsPut, arrived, content_of, flushed, given_up, put, after_state, waiting_given}
use Rattle.tipc_pair.specs.Changeovers.{forgetting, loaded, parted_end}
use Rattle.tipc_pair.specs.Facing.{PairEnds, other, with_near}
use Rattle.tipc_pair.specs.PairFacts.{AreStatesOf, HasChanged, IsEndOf, IsPairOfEnds, IsSessionOn}
use Rattle.tipc_pair.specs.Runs.{IsListed}
use Rattle.tipc_pair.proofs.EndFacts.{session_kept, session_mapped, some_mapped}
use Rattle.tipc_link.proofs.Ends.{after-is, ended-is, followed_session, forgotten-is}
use Rattle.tipc_contact.proofs.Calls.{not_last, same_boot as more_boot, next_boot}
use Rattle.tipc_pair.proofs.Falls.{Falls, on_reset_falls}
use Rattle.tipc_pair.proofs.SessionFacts.{arrived_on, begun_on, flushed_on, given_up_on, put_listed, put_on, told_on, waiting_given_on}

-- ---- epochs of a boot

next_above : (n : ℕ) → n ≤ next_epoch n
next_above n = elim (is_last n) as (λ b. n ≤ (if b then n else n + 1)) [ true ↦ omega arith | false ↦ omega arith ]

last_above : (n epoch : ℕ) → n ≤ epoch → is_last n ≡ false → is_last epoch ≡ true → n + 1 ≤ epoch
unfolding is_last
last_above n epoch order going last =
    let differs : n % 4294967296 ≢ 4294967295 = grind (arith, nat_tests, going) in
    let same : epoch % 4294967296 ≡ 4294967295 = grind (arith, nat_tests, last) in
    omega arith

-- an end's next epoch isn't below the next contact number
next_order : (n epoch : ℕ) → n ≤ epoch → is_last n ≡ false → n + 1 ≤ next_epoch epoch
next_order n epoch order going = elim (is_last epoch) as (λ b. is_last epoch ≡ b → n + 1 ≤ (if b then epoch else epoch + 1)) [
  | true ↦ λ last. last_above n epoch order going last
  | false ↦ λ more. omega arith
] refl

not_next : (n : ℕ) → is_last n ≡ false → n ≡ next_epoch n → ⊥
not_next n going same = let more : n ≡ n + 1 = same ∙ ap (λ b. if b then n else n + 1) going in omega arith

-- ---- the link states

pub states_moved : (contact : ℕ) (f : Fsm) (shown : Option (ℕ × ℕ)) (o : Outcome) → AreStatesOf contact f → Moves f shown o → AreStatesOf contact o.after
states_moved contact f shown o h (stays own up change) = record {
  order = subst (λ n. contact ≤ n) (sym own) h.order;
  boot = ap boot_of own ∙ h.boot;
  going_on = λ is. ap is_last own ∙ h.going_on (sym up ∙ is);
}
states_moved contact f shown o h (rises es own was up last told_it peer change) = record {
  order = subst (λ n. contact ≤ n) (sym own) h.order;
  boot = ap boot_of own ∙ h.boot;
  going_on = λ is. ap is_last own ∙ last;
}
states_moved contact f shown o h (falls own down change) =
    let order = h.order in
    let above = next_above f.own in
    record {
      order = subst (λ n. contact ≤ n) (sym own) (omega arith);
      boot = ap boot_of own ∙ (next_boot f.own ∙ h.boot);
      going_on = λ is. absurd (let none : ⊥ = cc in none);
    }

pub states_apart : (contact : ℕ) (f : Fsm) → AreStatesOf contact f → is_last contact ≡ false → AreStatesOf (contact + 1) (apart f)
states_apart contact f h going = record {
  order = next_order contact f.own h.order going;
  boot = next_boot f.own ∙ (h.boot ∙ sym (more_boot contact going));
  going_on = λ up. absurd (let none : ⊥ = cc in none);
}

-- what a packet makes of the link states
pub outcome_moves : (f : Fsm) (h : Header) (es er : ℕ) (held : Bool) → Moves f (Some (es, er)) (outcome_of f h es er held)
outcome_moves f (header.Reset r) es er held = on_reset_moves f es held _
outcome_moves f (header.Activate a) es er held = on_activate_moves f es er
outcome_moves f (header.Discovery d) es er held = stays refl refl refl
outcome_moves f other es er held = on_traffic_moves f es er

activate_falls : (f : Fsm) (es er : ℕ) → Falls f (on_activate f es er)
unfolding on_activate
activate_falls f es er =
    cases_on (Falls f) (is_held f.state) _ _ (λ h e. cc) (λ h.
    cases_on (Falls f) ((is_in_reset f.state && not (is_last f.own)) && ((er == f.own) && not (nat_lt es f.highest))) _ _ (λ h e. cc) (λ h.
    cases_on (Falls f) (is_up f.state && is_session f es er) _ _ (λ h e. cc) (λ h e. cc)))

traffic_falls : (f : Fsm) (es er : ℕ) → Falls f (on_traffic f es er)
unfolding on_traffic
traffic_falls f es er =
    cases_on (Falls f) (is_session f es er && (is_reset_reset f.state && not (is_last f.own))) _ _ (λ h e. cc) (λ h.
    cases_on (Falls f) (is_session f es er && is_up f.state) _ _ (λ h e. cc) (λ h e. cc))

pub outcome_falls : (f : Fsm) (h : Header) (es er : ℕ) (held : Bool) → Falls f (outcome_of f h es er held)
outcome_falls f (header.Reset r) es er held = on_reset_falls f es held
outcome_falls f (header.Activate a) es er held = activate_falls f es er
outcome_falls f (header.Discovery d) es er held = λ e. cc
outcome_falls f other es er held = traffic_falls f es er

pub up_part : (a b : Bool) → (a && b) ≡ true → a ≡ true
up_part true b h = refl
up_part false b h = cc

pub peer_tunnel_falls : (f : Fsm) (epoch : ℕ) → Falls f (on_peer_tunnel f epoch)
unfolding on_peer_tunnel
peer_tunnel_falls f epoch = cases_on (Falls f) (is_up f.state && is_peer f.peer epoch) _ _ (λ both e. (up_part (is_up f.state) (is_peer f.peer epoch) both, refl)) (λ h e. cc)

-- ---- an end

-- a session that has just begun
follows_on : (bearer : ℕ) (e : LinkEnd) (change : Change) → e.bearer ≡ bearer → IfSome e.session (IsSessionOn bearer) → IfSome (followed_session e change) (IsSessionOn bearer)
follows_on bearer e Up is h = begun_on bearer e.own e.peer e.bearer e.fsm.own (known e.fsm.peer) (kept_for (record_of e) (known e.fsm.peer)) is
follows_on bearer e (Answer (reply.State probe)) is h = session_mapped bearer after_state e.session (told_on bearer) h
follows_on bearer e quiet is h = h

follows_some : (e : LinkEnd) (change : Change) → (is_some e.session ≡ true) ⊎ (is_going_up change ≡ true) → is_some (followed_session e change) ≡ true
follows_some e Up has = refl
follows_some e (Answer (reply.State probe)) (inl is) = some_mapped after_state e.session is
follows_some e (Answer (reply.State probe)) (inr is) = cc
follows_some e quiet (inl is) = is
follows_some e quiet (inr is) = cc

begins : (f : Fsm) (shown : Option (ℕ × ℕ)) (o : Outcome) (some : Bool) → (is_up f.state ≡ true → some ≡ true) → Moves f shown o → is_up o.after.state ≡ true → (some ≡ true) ⊎ (is_going_up o.change ≡ true)
begins f shown o some begun (stays own up change) is = inl (begun (sym up ∙ is))
begins f shown o some begun (rises es own was up last told_it peer change) is = inr change
begins f shown o some begun (falls own down change) is = absurd (let none : ⊥ = cc in none)

pub end_after : (own peer contact seen bearer : ℕ) (e : LinkEnd) (shown : Option (ℕ × ℕ)) (o : Outcome) → IsEndOf own peer contact seen bearer e → Moves e.fsm shown o → IsEndOf own peer contact seen bearer (after e o)
end_after own peer contact seen bearer e shown o h moves = subst (IsEndOf own peer contact seen bearer) (sym (after-is e o)) (record {
  own_is = h.own_is;
  peer_is = h.peer_is;
  bearer_is = h.bearer_is;
  contact_is = h.contact_is;
  seen_is = h.seen_is;
  states = states_moved contact e.fsm shown o h.states moves;
  begun = λ up. follows_some (with_fsm e o.after) o.change (begins e.fsm shown o (is_some e.session) h.begun moves up);
  session = follows_on bearer (with_fsm e o.after) o.change h.bearer_is h.session;
})

-- without a session that begins
pub end_stepped : (own peer contact seen bearer : ℕ) (e : LinkEnd) (shown : Option (ℕ × ℕ)) (o : Outcome) → IsEndOf own peer contact seen bearer e → Moves e.fsm shown o → is_going_up o.change ≡ false
    → IsEndOf own peer contact seen bearer (with_fsm e o.after)
end_stepped own peer contact seen bearer e shown o h moves quiet = record {
  own_is = h.own_is;
  peer_is = h.peer_is;
  bearer_is = h.bearer_is;
  contact_is = h.contact_is;
  seen_is = h.seen_is;
  states = states_moved contact e.fsm shown o h.states moves;
  begun = λ up. elim (begins e.fsm shown o (is_some e.session) h.begun moves up) [ inl some ↦ some | inr going ↦ cc ];
  session = h.session;
}

pub cut_quiet : (f : Fsm) (held : Bool) → is_going_up (on_cut f held).change ≡ false
unfolding on_cut
cut_quiet f held = cases_on (λ o. is_going_up o.change ≡ false) (is_up f.state) _ _ (λ up. refl) (λ down. refl)

pub tunnel_quiet : (f : Fsm) (epoch : ℕ) → is_going_up (on_peer_tunnel f epoch).change ≡ false
unfolding on_peer_tunnel
tunnel_quiet f epoch = cases_on (λ o. is_going_up o.change ≡ false) (is_up f.state && is_peer f.peer epoch) _ _ (λ up. refl) (λ down. refl)

pub end_cut : (own peer contact seen bearer : ℕ) (e : LinkEnd) (held : Bool) → IsEndOf own peer contact seen bearer e → IsEndOf own peer contact seen bearer (cut_end e held)
end_cut own peer contact seen bearer e held h =
    let now = end_stepped own peer contact seen bearer e None (on_cut e.fsm held) h (on_cut_moves e.fsm held None) (cut_quiet e.fsm held) in
    record {
      own_is = now.own_is;
      peer_is = now.peer_is;
      bearer_is = now.bearer_is;
      contact_is = now.contact_is;
      seen_is = now.seen_is;
      states = now.states;
      begun = now.begun;
      session = now.session;
    }

pub end_tunnelled : (own peer contact seen bearer : ℕ) (e : LinkEnd) (epoch : ℕ) → IsEndOf own peer contact seen bearer e → IsEndOf own peer contact seen bearer (tunnelled_down e epoch)
end_tunnelled own peer contact seen bearer e epoch h =
    end_stepped own peer contact seen bearer e None (on_peer_tunnel e.fsm epoch) h (on_peer_tunnel_moves e.fsm epoch None) (tunnel_quiet e.fsm epoch)

pub end_heard : (own peer contact seen bearer : ℕ) (e : LinkEnd) (by acknowledgement : ℕ) (c : Content) → IsEndOf own peer contact seen bearer e → IsEndOf own peer contact seen bearer (heard_end e by acknowledgement c)
end_heard own peer contact seen bearer e by acknowledgement c h =
    let hear : SessionEnd → SessionEnd = λ s. arrived s by acknowledgement c in
    session_kept own peer contact seen bearer e (option_map hear e.session) h (some_mapped hear e.session) (session_mapped bearer hear e.session (λ s on. arrived_on bearer s by acknowledgement c on) h.session)

pub end_arrived : (own peer contact seen bearer : ℕ) (e : LinkEnd) (p : Fields) (es er : ℕ) (held : Bool) (by : ℕ) → IsEndOf own peer contact seen bearer e
    → IsEndOf own peer contact seen bearer (arrival_end e (outcome_of e.fsm p.header es er held) p by)
end_arrived own peer contact seen bearer e p es er held by h =
    let o = outcome_of e.fsm p.header es er held in
    let now = end_after own peer contact seen bearer e _ o h (outcome_moves e.fsm p.header es er held) in
    elim (is_heard p.header o.change) as (λ b. IsEndOf own peer contact seen bearer (if b then heard_end (after e o) by p.acknowledgement (content_of p) else after e o)) [
      | true ↦ end_heard own peer contact seen bearer (after e o) by p.acknowledgement (content_of p) now
      | false ↦ now
    ]

pub end_parted : (own peer contact seen more bearer : ℕ) (e : LinkEnd) → IsEndOf own peer contact seen bearer e → is_last contact ≡ false → IsEndOf own peer (contact + 1) more bearer (parted_end (contact + 1) more e)
end_parted own peer contact seen more bearer e h going =
    let states : AreStatesOf (contact + 1) (contact_ended e.fsm).after = subst (AreStatesOf (contact + 1)) (sym (ended-is e.fsm)) (states_apart contact e.fsm h.states going) in
    record {
      own_is = h.own_is;
      peer_is = h.peer_is;
      bearer_is = h.bearer_is;
      contact_is = refl;
      seen_is = refl;
      states = states;
      begun = λ up. absurd (let none : ⊥ = cc (ap (λ (f : Fsm). is_up f.state) (ended-is e.fsm)) in none);
      session = h.session;
    }

pub end_forgets : (own peer contact seen more bearer : ℕ) (e : LinkEnd) → IsEndOf own peer contact seen bearer e → is_up e.fsm.state ≡ false → IsEndOf own peer contact more bearer (forgetting more e)
end_forgets own peer contact seen more bearer e h down =
    let is : (forget_peer e.fsm).after ≡ forgot_peer e.fsm = forgotten-is e.fsm down in
    record {
      own_is = h.own_is;
      peer_is = h.peer_is;
      bearer_is = h.bearer_is;
      contact_is = h.contact_is;
      seen_is = refl;
      states = subst (AreStatesOf contact) (sym is) (record { order = h.states.order; boot = h.states.boot; going_on = λ up. absurd (let none : ⊥ = cc in none) });
      begun = λ up. absurd (let none : ⊥ = cc (ap (λ (f : Fsm). is_up f.state) is) in none);
      session = h.session;
    }

pub end_handed : (own peer contact seen bearer : ℕ) (e : LinkEnd) → IsEndOf own peer contact seen bearer e → IsEndOf own peer contact seen bearer (handed_over e)
end_handed own peer contact seen bearer e h =
    session_kept own peer contact seen bearer e (option_map given_up e.session) h (some_mapped given_up e.session) (session_mapped bearer given_up e.session (given_up_on bearer) h.session)

pub end_given : (own peer contact seen bearer : ℕ) (e : LinkEnd) → IsEndOf own peer contact seen bearer e → IsEndOf own peer contact seen bearer (without_waiting e)
end_given own peer contact seen bearer e h =
    session_kept own peer contact seen bearer e (option_map waiting_given e.session) h (some_mapped waiting_given e.session) (session_mapped bearer waiting_given e.session (waiting_given_on bearer) h.session)

-- ---- packets that are put on an end

some_value : {A : Type 0} (o : Option A) → is_some o ≡ true → (v : A) × (o ≡ Some v)
some_value (Some v) is = (v, refl)
some_value None is = cc

with_session_kept : (own peer contact seen bearer : ℕ) (e : LinkEnd) (s : SessionEnd) → IsEndOf own peer contact seen bearer e → IsSessionOn bearer s → IsEndOf own peer contact seen bearer (with_session e s)
with_session_kept own peer contact seen bearer e s h on = session_kept own peer contact seen bearer e (Some s) h (λ some. refl) on

pub session_is : (bearer : ℕ) (o : Option SessionEnd) (s : SessionEnd) → IfSome o (IsSessionOn bearer) → o ≡ Some s → IsSessionOn bearer s
session_is bearer o s h is = subst (λ x. IfSome x (IsSessionOn bearer)) is h

pub end_sent : {T F : Type 0} (A : Type 0) (B D : SessionEnd → Type 0) (own peer contact seen bearer : ℕ) (e new : LinkEnd) (pieces : List (List ℕ)) (r : Result T F)
    → IsEndOf own peer contact seen bearer e → is_up e.fsm.state ≡ true → All IsListed pieces
    → ((s : SessionEnd) → e.session ≡ Some s → OnOk r (B s × ((more : SessionEnd) × IsPut s pieces more × (new ≡ with_session e (flushed more)) × D more)))
    → OnErr r ((new ≡ e) × A) → IsEndOf own peer contact seen bearer new
end_sent A B D own peer contact seen bearer e new pieces (Err fault) h up listed ok err = subst (IsEndOf own peer contact seen bearer) (sym err.0) h
end_sent A B D own peer contact seen bearer e new pieces (Ok done) h up listed ok err =
    let there = some_value e.session (h.begun up) in
    let sent = ok there.0 there.1 in
    let more = sent.1.0 in
    let on : IsSessionOn bearer more = put_on bearer there.0 more pieces (session_is bearer e.session there.0 h.session there.1) listed sent.1.1 in
    subst (IsEndOf own peer contact seen bearer) (sym sent.1.2) (with_session_kept own peer contact seen bearer e (flushed more) h (flushed_on bearer more on))

pub end_loaded : {T F : Type 0} (own peer contact seen bearer : ℕ) (e new : LinkEnd) (pieces : List (List ℕ)) (r : Result T F)
    → IsEndOf own peer contact seen bearer e → is_up e.fsm.state ≡ true → All IsListed pieces
    → ((s : SessionEnd) → e.session ≡ Some s → OnOk r (new ≡ loaded e s pieces)) → OnErr r (new ≡ e) → IsEndOf own peer contact seen bearer new
end_loaded own peer contact seen bearer e new pieces (Err fault) h up listed ok err = subst (IsEndOf own peer contact seen bearer) (sym err) h
end_loaded own peer contact seen bearer e new pieces (Ok done) h up listed ok err =
    let there = some_value e.session (h.begun up) in
    let on : IsSessionOn bearer (put there.0 pieces) = put_listed bearer there.0 pieces (session_is bearer e.session there.0 h.session there.1) listed in
    subst (IsEndOf own peer contact seen bearer) (sym (ok there.0 there.1)) (with_session_kept own peer contact seen bearer e (flushed (put there.0 pieces)) h (flushed_on bearer (put there.0 pieces) on))

-- ---- a change of the near link

-- the near end, and the far one
pub near_of : (x : PairEnds) (e : LinkEnd) → IsPairOfEnds x → x.near ≡ Some e → IsEndOf x.own x.peer x.contact x.seen x.bearer e
near_of x e h is = subst (λ o. IfSome o (IsEndOf x.own x.peer x.contact x.seen x.bearer)) is h.near

pub far_of : (x : PairEnds) (e : LinkEnd) → IsPairOfEnds x → x.far ≡ Some e → IsEndOf x.own x.peer x.contact x.seen (other x.bearer) e
far_of x e h is = subst (λ o. IfSome o (IsEndOf x.own x.peer x.contact x.seen (other x.bearer))) is h.far

fallen : (f : Fsm) (shown : Option (ℕ × ℕ)) (o : Outcome) → (is_up f.state ≡ true → is_last f.own ≡ false) → Moves f shown o → Falls f o → is_down o.change ≡ true → is_up o.after.state ≡ false
fallen f shown o going (stays own up change) falling down = absurd (not_next f.own (going (falling down).0) (sym own ∙ (falling down).1))
fallen f shown o going (rises es own was up last told_it peer change) falling down = absurd (not_next f.own last (sym own ∙ (falling down).1))
fallen f shown o going (falls own down_now change) falling down = down_now

risen_up : (f : Fsm) (shown : Option (ℕ × ℕ)) (o : Outcome) → Moves f shown o → o.change ≡ Up → is_up o.after.state ≡ true
risen_up f shown o (stays own up change) is = absurd (let none : ⊥ = cc (ap is_going_up is) in none)
risen_up f shown o (rises es own was up last told_it peer change) is = up
risen_up f shown o (falls own down change) is = absurd (let none : ⊥ = cc (ap is_going_up is) in none)

-- The near end changed by an outcome of its link states, and has these states now.
pub has_changed : (x : PairEnds) (e new : LinkEnd) (shown : Option (ℕ × ℕ)) (o : Outcome) (change : Change) → IsPairOfEnds x → x.near ≡ Some e
    → Moves e.fsm shown o → Falls e.fsm o → change ≡ o.change → new.fsm ≡ o.after → (is_some e.session ≡ true → is_some new.session ≡ true) → HasChanged (with_near x new) change
has_changed x e new shown o change pair is moves falling change_is fsm some = let h = near_of x e pair is in record {
  up = λ is. ap (λ (f : Fsm). is_up f.state) fsm ∙ risen_up e.fsm shown o moves (sym change_is ∙ is);
  down = λ is. ap (λ (f : Fsm). is_up f.state) fsm ∙ fallen e.fsm shown o h.states.going_on moves falling (ap is_down (sym change_is) ∙ is);
  session = λ is. some (h.begun (falling (ap is_down (sym change_is) ∙ is)).0);
  going_on = λ is. not_last x.contact e.fsm.own h.states.order (sym h.states.boot) (h.states.going_on (falling (ap is_down (sym change_is) ∙ is)).0);
}

pub some_after : (e : LinkEnd) (o : Outcome) → is_some e.session ≡ true → is_some (after e o).session ≡ true
some_after e o some = ap (λ (d : LinkEnd). is_some d.session) (after-is e o) ∙ follows_some (with_fsm e o.after) o.change (inl some)

pub fsm_after : (e : LinkEnd) (o : Outcome) → (after e o).fsm ≡ o.after
fsm_after e o = ap (λ (d : LinkEnd). d.fsm) (after-is e o)

pub some_arrived : (e : LinkEnd) (o : Outcome) (p : Fields) (by : ℕ) → is_some e.session ≡ true → is_some (arrival_end e o p by).session ≡ true
some_arrived e o p by some =
    let hear : SessionEnd → SessionEnd = λ s. arrived s by p.acknowledgement (content_of p) in
    elim (is_heard p.header o.change) as (λ b. is_some (if b then heard_end (after e o) by p.acknowledgement (content_of p) else after e o).session ≡ true) [
      | true ↦ some_mapped hear (after e o).session (some_after e o some)
      | false ↦ some_after e o some
    ]

pub fsm_arrived : (e : LinkEnd) (o : Outcome) (p : Fields) (by : ℕ) → (arrival_end e o p by).fsm ≡ o.after
fsm_arrived e o p by = elim (is_heard p.header o.change) as (λ b. (if b then heard_end (after e o) by p.acknowledgement (content_of p) else after e o).fsm ≡ o.after) [
  | true ↦ fsm_after e o
  | false ↦ fsm_after e o
]

-- an end that isn't up forgets the peer without a word
forgets_quietly : (f : Fsm) → is_up f.state ≡ false → (forget_peer f).change ≡ Stay
unfolding forget_peer
forgets_quietly f down = ap (λ b. (if b then gives (apart f) (Down cause.ContactEnded) else gives (forgot_peer f) Stay).change) down

pub forget_silent : (e : LinkEnd) → is_up e.fsm.state ≡ false → forget_frames e ≡ []
forget_silent e down = ap (λ k. if is_down k then reset_frames (with_fsm e (forget_peer e.fsm).after) else []) (forgets_quietly e.fsm down)

-- both ends of a pair
pub both_kept : (x : PairEnds) (near far : LinkEnd) → IsPairOfEnds x → IsEndOf x.own x.peer x.contact x.seen x.bearer near → IsEndOf x.own x.peer x.contact x.seen (other x.bearer) far
    → IsPairOfEnds (record x { near = Some near; far = Some far })
both_kept x near far h one two = record { two_bearers = h.two_bearers; near = one; far = two }
