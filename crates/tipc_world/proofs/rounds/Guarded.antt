-- Rounds whose events keep something of every node and of every frame behind the begin of the call, where a tick needs
-- something more of its node: what holds of each node as the round begins, since each node ticks once.
use Rattle.std.proofs.Common.{◌≡◌, ◌≤◌, ◌+◌, ◌*◌, ℕ, false, List, [], Some, None, length, slice_get, slice_index_or, inl, inr, sym, ap, subst, ◌∙◌, arith}
use Rattle.std.specs.Prelude.{◌/◌}
use Rattle.tipc_types.specs.declared.node_calls.Answer.{Answer}
use Rattle.tipc_types.specs.declared.node_calls.EventNote.TheVariants as call
use Rattle.tipc_outside.specs.declared.outgoing.Outgoing.{Outgoing}
use Rattle.tipc_replay.specs.declared.air.Sent.{Sent}
use Rattle.tipc_replay.specs.declared.events.WorldEvent.{WorldEvent}
use Rattle.tipc_replay.specs.declared.events.WorldEvent.TheVariants.{Arrive, Call}
use Rattle.tipc_replay.specs.Air.{airborne}
use Rattle.tipc_replay.specs.Calls.{node_of}
use Rattle.tipc_replay.specs.States.{MemberState, contact_at}
use Rattle.tipc_replay.proofs.frames.Reaching.{placed}
use Rattle.tipc_world.specs.declared.places.Places.{Places}
use Rattle.tipc_world.specs.declared.settling.Receivers.TheVariants.{Any}
use Rattle.tipc_world.specs.Courses.{Goes, numbers}
use Rattle.tipc_world.specs.Ends.{place_on, AreBefore}
use Rattle.tipc_world.specs.RoundParts.{EachNode, FrameArrives, Guards, HappensWhole, HasTickedOnce, IsRound, SettlesOn}
use Rattle.tipc_world.specs.Settling.{arrival_asked, tick_asked}
use Rattle.tipc_world.specs.States.{WorldState}
use Rattle.tipc_world.proofs.rounds.Events.{arrive_either, tick_either}
use Rattle.tipc_world.proofs.rounds.Flying.{more_behind}
use Rattle.tipc_world.proofs.rounds.Keeping.{arrival_on, nodes_keep, other_stays, settles_more, tick_on}
use Rattle.tipc_world.proofs.rounds.Parts.{goes_keep, goes_whole, takes_whole}

-- ---- what is carried

-- the node of an event is so after it, and so are all frames that left
pub record StaysGuarded (P : ℕ → MemberState → Type 0) (F : ℕ → Sent → Type 0) (old new : WorldState) (event : WorldEvent) (after : MemberState) (frames : List Outgoing) : Type 0 where
  pub node : P (node_of event) after
  pub sent : (k : ℕ) (o : Outgoing) → slice_get frames k ≡ Some o → F o.bearer (airborne (contact_at old.members (node_of event)) new.members (node_of event) o)

-- What a tick keeps at a node that is ready for it, and what the arrival of a frame keeps that is so.
abbrev pub TicksGuarded : WorldState → Places → (P ready : ℕ → MemberState → Type 0) → (ℕ → Sent → Type 0) → Type 0
TicksGuarded start from P ready F = (old new : WorldState) (node : ℕ) (answered : Answer) (h : HappensWhole old new (Call node call.Tick) [] answered) → Guards start from P F old → SettlesOn old new
    → ready node h.before → StaysGuarded P F old new (Call node call.Tick) h.after h.frames

abbrev pub ArrivalsGuarded : WorldState → Places → (ℕ → MemberState → Type 0) → (ℕ → Sent → Type 0) → Type 0
ArrivalsGuarded start from P F = (old new : WorldState) (a : FrameArrives from old new) → Guards start from P F old → SettlesOn old new
    → F a.bearer a.frame → StaysGuarded P F old new (Arrive a.node a.bearer a.place) a.arrives.after a.arrives.frames

-- ---- one event

pub guarded_on : (start : WorldState) (from : Places) (P : ℕ → MemberState → Type 0) (F : ℕ → Sent → Type 0) (old new : WorldState) (event : WorldEvent) (bytes : List ℕ) (answered : Answer) (h : HappensWhole old new event bytes answered)
    → Guards start from P F old → SettlesOn old new → StaysGuarded P F old new event h.after h.frames → Guards start from P F new
guarded_on start from P F old new event bytes answered h g next s = record {
  on = settles_more start old new g.on next;
  nodes = nodes_keep P old new event bytes answered h (λ before. s.node) g.nodes;
  frames = more_behind F from old new event bytes answered h g.frames s.sent;
}

pub same_guarded : (start : WorldState) (from : Places) (P : ℕ → MemberState → Type 0) (F : ℕ → Sent → Type 0) (old new : WorldState) → new ≡ old → Guards start from P F old → Guards start from P F new
same_guarded start from P F old new same g = subst (Guards start from P F) (sym same) g

-- ---- the ticks of a round

-- before the tick of a number: the nodes from there on are as they were when the round began, so ready
pub record BeforeTick (start : WorldState) (from : Places) (P ready : ℕ → MemberState → Type 0) (F : ℕ → Sent → Type 0) (number : ℕ) (w : WorldState) : Type 0 where
  pub guards : Guards start from P F w
  pub later : (n : ℕ) (m : MemberState) → number ≤ n → slice_index_or w.members n None ≡ Some m → ready n m

pub one_tick : (start : WorldState) (from : Places) (P ready : ℕ → MemberState → Type 0) (F : ℕ → Sent → Type 0) (number : ℕ) (old new : WorldState) (answered : Answer) → TicksGuarded start from P ready F → old.lost ≡ false
    → HappensWhole old new (Call number call.Tick) [] answered → BeforeTick start from P ready F number old → BeforeTick start from P ready F (number + 1) new
one_tick start from P ready F number old new answered each clear h b =
    let next = tick_on old new number answered clear h in record {
      guards = guarded_on start from P F old new (Call number call.Tick) [] answered h b.guards next (each old new number answered h b.guards next (b.later number h.before (omega arith) h.was));
      later = λ n m above there. b.later n m (omega (arith, above)) (sym (other_stays old new (Call number call.Tick) [] answered h n (λ same. let wrong : ⊥ = omega (arith, above, same) in wrong)) ∙ there);
    }

pub no_tick : (start : WorldState) (from : Places) (P ready : ℕ → MemberState → Type 0) (F : ℕ → Sent → Type 0) (number : ℕ) (old new : WorldState) → new ≡ old → BeforeTick start from P ready F number old → BeforeTick start from P ready F (number + 1) new
no_tick start from P ready F number old new same b = record {
  guards = same_guarded start from P F old new same b.guards;
  later = λ n m above there. b.later n m (omega (arith, above)) (sym (ap (λ (w : WorldState). slice_index_or w.members n None) same) ∙ there);
}

-- before the tick of each later number
pub ticks_before : (start : WorldState) (from : Places) (P ready : ℕ → MemberState → Type 0) (F : ℕ → Sent → Type 0) (outset : WorldState) (end count : ℕ) (now : WorldState) → TicksGuarded start from P ready F
    → Goes tick_asked 1 outset end count now → now.lost ≡ false → Guards start from P F outset → EachNode ready outset → BeforeTick start from P ready F end now
ticks_before start from P ready F outset end count now each goes whole g all = goes_keep tick_asked (BeforeTick start from P ready F) 1 outset end count now
    (λ number before made after above below taken clear b.
    let was_clear = takes_whole tick_asked number before made after taken clear in
    elim (tick_either number before made after taken clear) [
      | inl same ↦ no_tick start from P ready F number before after same b
      | inr ticked ↦ one_tick start from P ready F number before after ticked.0 each was_clear ticked.1 b
    ])
    goes whole (record { guards = g; later = λ n m above there. all n m there })

pub ticks_guarded : (start : WorldState) (from : Places) (P ready : ℕ → MemberState → Type 0) (F : ℕ → Sent → Type 0) (outset : WorldState) (count : ℕ) (now : WorldState) → TicksGuarded start from P ready F
    → Goes tick_asked 1 outset numbers count now → now.lost ≡ false → Guards start from P F outset → EachNode ready outset → Guards start from P F now
ticks_guarded start from P ready F outset count now each goes whole g all = (ticks_before start from P ready F outset numbers count now each goes whole g all).guards

-- behind the tick of a node
pub tick_guarded : (start : WorldState) (from : Places) (P ready : ℕ → MemberState → Type 0) (F : ℕ → Sent → Type 0) (outset now : WorldState) (n : ℕ) → TicksGuarded start from P ready F → (t : HasTickedOnce outset now n) → t.before.lost ≡ false
    → Guards start from P F outset → EachNode ready outset → Guards start from P F t.after
tick_guarded start from P ready F outset now n each t clear g all =
    let b = ticks_before start from P ready F outset n t.earlier t.before each t.front clear g all in
    (one_tick start from P ready F n t.before t.after t.answered each clear t.ticks b).guards

-- ---- the arrivals of a round

pub one_arrival : (start : WorldState) (from : Places) (P : ℕ → MemberState → Type 0) (F : ℕ → Sent → Type 0) (old new : WorldState) → ArrivalsGuarded start from P F → old.lost ≡ false → FrameArrives from old new
    → Guards start from P F old → Guards start from P F new
one_arrival start from P F old new each clear a g =
    let next = arrival_on from old new clear a in
    let so = g.frames a.bearer a.place a.frame a.on_one a.behind (placed old.air a.node a.bearer a.place a.frame a.found).0 in
    guarded_on start from P F old new (Arrive a.node a.bearer a.place) a.frame.frame a.answered a.arrives g next (each old new a g next so)

pub arrivals_guarded : (start : WorldState) (from : Places) (P : ℕ → MemberState → Type 0) (F : ℕ → Sent → Type 0) (bearer first : ℕ) (outset : WorldState) (end count : ℕ) (now : WorldState) → bearer ≤ 1
    → place_on bearer from ≤ first / numbers → ArrivalsGuarded start from P F → Goes (arrival_asked Any bearer) first outset end count now → now.lost ≡ false → Guards start from P F outset → Guards start from P F now
arrivals_guarded start from P F bearer first outset end count now on_one behind each goes whole g = goes_keep (arrival_asked Any bearer) (λ number. Guards start from P F) first outset end count now
    (λ number before made after above below taken clear h.
    let was_clear = takes_whole (arrival_asked Any bearer) number before made after taken clear in
    let at : first / numbers ≤ number / numbers = omega (arith, above) in
    elim (arrive_either from bearer number before made after on_one (omega (arith, behind, at)) taken clear) [
      | inl same ↦ same_guarded start from P F before after same h
      | inr arrived ↦ one_arrival start from P F before after each was_clear arrived h
    ]) goes whole g

-- the number of a place
pub place_there : (place at : ℕ) → at ≤ place → at ≤ numbers * place / numbers
place_there place at within = let is : numbers * place / numbers ≡ place = omega arith in omega (arith, is, within)

-- ---- a round

-- after the ticks, between the arrivals, and after the round
pub record RoundGuarded (start : WorldState) (from : Places) (P : ℕ → MemberState → Type 0) (F : ℕ → Sent → Type 0) (ticked between now : WorldState) : Type 0 where
  pub ticks : Guards start from P F ticked
  pub middle : Guards start from P F between
  pub round : Guards start from P F now

pub round_guarded : (start : WorldState) (from : Places) (P ready : ℕ → MemberState → Type 0) (F : ℕ → Sent → Type 0) (places : Places) (outset : WorldState) (ends : Places) (now : WorldState) → TicksGuarded start from P ready F
    → ArrivalsGuarded start from P F → AreBefore from places → (r : IsRound places outset ends now) → now.lost ≡ false → Guards start from P F outset → EachNode ready outset → RoundGuarded start from P F r.ticked r.between now
round_guarded start from P ready F places outset ends now ticks arrivals behind r whole g all =
    let clear_between = goes_whole _ _ r.between _ _ now r.second_part whole in
    let clear_ticked = goes_whole _ _ r.ticked _ _ r.between r.first_part clear_between in
    let ticked = ticks_guarded start from P ready F outset r.ticks r.ticked ticks r.tick_part clear_ticked g all in
    let between = arrivals_guarded start from P F 0 (numbers * places.first) r.ticked (numbers * length r.ticked.air.first) r.arrivals r.between (omega arith) (place_there places.first from.first behind.0) arrivals r.first_part clear_between ticked in
    record { ticks = ticked; middle = between; round = arrivals_guarded start from P F 1 (numbers * places.second) r.between (numbers * length r.ticked.air.second) r.others now (omega arith) (place_there places.second from.second behind.1) arrivals r.second_part whole between }
