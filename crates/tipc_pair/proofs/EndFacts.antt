-- What is true of a link end of a pair stays so at what the pair does with it.
use Rattle.std.proofs.Common.{◌≡◌, ℕ, Bool, true, false, Option, Some, None, refl, sym, subst, arith, is_some, option_map, if◌then◌else◌}
use Rattle.std.specs.Prelude.{IfSome}
use Rattle.tipc_types.specs.LinkStates.{is_up}
use Rattle.tipc_types.specs.declared.link_words.LinkState.TheVariants.{ResetUnknown}
use Rattle.tipc_types.specs.declared.link_words.Reply.TheVariants as reply
use Rattle.tipc_link_fsm.specs.declared.changes.Change.TheVariants.{Answer, Stay}
use Rattle.tipc_link_fsm.specs.Table.{Fsm, gives, is_held, release}
use Rattle.tipc_link.specs.Links.{LinkEnd, answered_with, mended_end, with_fsm}
use Rattle.tipc_link.specs.Sessions.{SessionEnd, answered, with_broadcast}
use Rattle.tipc_pair.specs.Facing.{PairEnds, with_near}
use Rattle.tipc_pair.specs.PairFacts.{AreStatesOf, IsEndOf, IsPairOfEnds, IsSessionOn}

-- another near end, or another far end
pub near_kept : (x : PairEnds) (e : LinkEnd) → IsPairOfEnds x → IsEndOf x.own x.peer x.contact x.seen x.bearer e → IsPairOfEnds (with_near x e)
near_kept x e h k = record { two_bearers = h.two_bearers; near = k; far = h.far }

pub states_kept : (own peer contact seen bearer : ℕ) (e : LinkEnd) (fsm : Fsm) → IsEndOf own peer contact seen bearer e → AreStatesOf contact fsm
    → (is_up fsm.state ≡ true → is_some e.session ≡ true) → IsEndOf own peer contact seen bearer (with_fsm e fsm)
states_kept own peer contact seen bearer e fsm h states begun = record {
  own_is = h.own_is;
  peer_is = h.peer_is;
  bearer_is = h.bearer_is;
  contact_is = h.contact_is;
  seen_is = h.seen_is;
  states = states;
  begun = begun;
  session = h.session;
}

pub mended_kept : (own peer contact seen bearer : ℕ) (e : LinkEnd) → IsEndOf own peer contact seen bearer e → IsEndOf own peer contact seen bearer (mended_end e)
mended_kept own peer contact seen bearer e h = record {
  own_is = h.own_is;
  peer_is = h.peer_is;
  bearer_is = h.bearer_is;
  contact_is = h.contact_is;
  seen_is = h.seen_is;
  states = h.states;
  begun = h.begun;
  session = h.session;
}

pub session_kept : (own peer contact seen bearer : ℕ) (e : LinkEnd) (session : Option SessionEnd) → IsEndOf own peer contact seen bearer e
    → (is_some e.session ≡ true → is_some session ≡ true) → IfSome session (IsSessionOn bearer) → IsEndOf own peer contact seen bearer (record e { session = session })
session_kept own peer contact seen bearer e session h some on = record {
  own_is = h.own_is;
  peer_is = h.peer_is;
  bearer_is = h.bearer_is;
  contact_is = h.contact_is;
  seen_is = h.seen_is;
  states = h.states;
  begun = λ up. some (h.begun up);
  session = on;
}

-- ---- what the calls of a link end leave of it

-- for all addresses, numbers and bearers: what was true of this end is true of that one
abbrev pub Keeps : LinkEnd → LinkEnd → Type 0
Keeps e after = (own peer contact seen bearer : ℕ) → IsEndOf own peer contact seen bearer e → IsEndOf own peer contact seen bearer after

-- the near end changed so
pub near_changed : (x : PairEnds) (e new after : LinkEnd) → IsPairOfEnds x → x.near ≡ Some e → new ≡ after → Keeps e after → IsPairOfEnds (with_near x new)
near_changed x e new after h is same keeps =
    let was : IsEndOf x.own x.peer x.contact x.seen x.bearer e = subst (λ o. IfSome o (IsEndOf x.own x.peer x.contact x.seen x.bearer)) is h.near in
    near_kept x new h (subst (IsEndOf x.own x.peer x.contact x.seen x.bearer) (sym same) (keeps x.own x.peer x.contact x.seen x.bearer was))

pub session_mapped : (bearer : ℕ) (f : SessionEnd → SessionEnd) (o : Option SessionEnd) → ((s : SessionEnd) → IsSessionOn bearer s → IsSessionOn bearer (f s))
    → IfSome o (IsSessionOn bearer) → IfSome (option_map f o) (IsSessionOn bearer)
session_mapped bearer f None on h = h
session_mapped bearer f (Some s) on h = on s h

pub some_mapped : (f : SessionEnd → SessionEnd) (o : Option SessionEnd) → is_some o ≡ true → is_some (option_map f o) ≡ true
some_mapped f None h = h
some_mapped f (Some s) h = refl

either_kept : (b : Bool) (e one other : LinkEnd) → Keeps e one → Keeps e other → Keeps e (if b then one else other)
either_kept true e one other h k = h
either_kept false e one other h k = k

answered_session : (bearer taken : ℕ) (asks : Bool) (s : SessionEnd) → IsSessionOn bearer s → IsSessionOn bearer (answered (with_broadcast s taken asks))
answered_session bearer taken asks s h = record { bearer_is = h.bearer_is; few = h.few; waiting = h.waiting; unacked = h.unacked }

pub answered_kept : (e : LinkEnd) (taken : ℕ) (asks : Bool) → Keeps e (answered_with e taken asks)
answered_kept e taken asks =
    let read : SessionEnd → SessionEnd = λ s. answered (with_broadcast s taken asks) in
    either_kept (is_up e.fsm.state) e (record e { session = option_map read e.session }) e
    (λ own peer contact seen bearer h. session_kept own peer contact seen bearer e (option_map read e.session) h (some_mapped read e.session)
    (session_mapped bearer read e.session (answered_session bearer taken asks) h.session))
    (λ own peer contact seen bearer h. h)

-- an end that isn't up
none_up : {A : Type 0} → is_up ResetUnknown ≡ true → A
none_up up = grind arith

up_by : (b : Bool) (fsm : Fsm) → is_up (if b then gives (record { own = fsm.own; peer = fsm.peer; highest = fsm.highest; state = ResetUnknown; silent = fsm.silent }) (Answer reply.Reset) else gives fsm Stay).after.state ≡ true → is_up fsm.state ≡ true
up_by true fsm up = none_up up
up_by false fsm up = up

release_by : (b : Bool) (contact : ℕ) (fsm : Fsm) → AreStatesOf contact fsm → AreStatesOf contact (if b then gives (record { own = fsm.own; peer = fsm.peer; highest = fsm.highest; state = ResetUnknown; silent = fsm.silent }) (Answer reply.Reset) else gives fsm Stay).after
release_by true contact fsm h = record { order = h.order; boot = h.boot; going_on = λ up. none_up up }
release_by false contact fsm h = h

release_up : (fsm : Fsm) → is_up (release fsm).after.state ≡ true → is_up fsm.state ≡ true
unfolding release
release_up fsm up = up_by (is_held fsm.state) fsm up

release_states : (contact : ℕ) (fsm : Fsm) → AreStatesOf contact fsm → AreStatesOf contact (release fsm).after
unfolding release
release_states contact fsm h = release_by (is_held fsm.state) contact fsm h

pub released_kept : (e : LinkEnd) → Keeps e (with_fsm e (release e.fsm).after)
released_kept e own peer contact seen bearer h = states_kept own peer contact seen bearer e (release e.fsm).after h (release_states contact e.fsm h.states)
    (λ up. h.begun (release_up e.fsm up))

-- a step of an end, or of none
pub end_mapped : (own peer contact seen bearer : ℕ) (f : LinkEnd → LinkEnd) (end : Option LinkEnd) → ((e : LinkEnd) → Keeps e (f e))
    → IfSome end (IsEndOf own peer contact seen bearer) → IfSome (option_map f end) (IsEndOf own peer contact seen bearer)
end_mapped own peer contact seen bearer f None keeps h = h
end_mapped own peer contact seen bearer f (Some e) keeps h = keeps e own peer contact seen bearer h

-- the near end after a step
pub near_stepped : (x : PairEnds) (new after : Option LinkEnd) → IsPairOfEnds x → new ≡ after → IfSome after (IsEndOf x.own x.peer x.contact x.seen x.bearer)
    → IsPairOfEnds (record x { near = new })
near_stepped x new after h same near = record {
  two_bearers = h.two_bearers;
  near = subst (λ o. IfSome o (IsEndOf x.own x.peer x.contact x.seen x.bearer)) (sym same) near;
  far = h.far;
}
