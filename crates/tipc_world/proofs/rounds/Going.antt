-- From any moment of a round on a calm world stays calm, and the session of each link that is up goes on.
use Rattle.std.proofs.Common.{◌≡◌, ◌≢◌, ◌≤◌, ◌+◌, ◌∙◌, ℕ, false, List, [], Some, None, slice_index_or, inl, inr, sym, ap, subst, arith}
use Rattle.std.specs.Prelude.{◌/◌}
use Rattle.tipc_types.specs.declared.node_calls.Answer.{Answer}
use Rattle.tipc_types.specs.declared.node_calls.EventNote.TheVariants as note
use Rattle.tipc_link.specs.Sessions.{SessionEnd}
use Rattle.tipc_node.specs.Nodes.{pair_with}
use Rattle.tipc_settling.specs.Goings.{EndsGoOn, StaysOn}
use Rattle.tipc_settling.specs.Repairs.{session_with}
use Rattle.tipc_replay.specs.declared.events.WorldEvent.{WorldEvent}
use Rattle.tipc_replay.specs.declared.events.WorldEvent.TheVariants.{Arrive, Call}
use Rattle.tipc_replay.specs.Calls.{node_of}
use Rattle.tipc_replay.specs.Sound.{IsNumber}
use Rattle.tipc_replay.specs.States.{MemberState}
use Rattle.tipc_replay.proofs.frames.Reaching.{placed}
use Rattle.tipc_world.specs.declared.settling.Receivers.TheVariants.{Any}
use Rattle.tipc_world.specs.CalmWorlds.{IsCalmNode, IsCalmWorld, IsFromMended}
use Rattle.tipc_world.specs.Courses.{Goes, numbers}
use Rattle.tipc_world.specs.Ends.{ends_of, place_on}
use Rattle.tipc_world.specs.Poised.{IsPoised}
use Rattle.tipc_world.specs.RoundParts.{EachNode, FrameArrives, HappensWhole, IsKept, SettlesOn}
use Rattle.tipc_world.specs.Settling.{arrival_asked, tick_asked}
use Rattle.tipc_world.specs.States.{WorldState}
use Rattle.tipc_world.specs.StillWorlds.{HasHeardAll}
use Rattle.tipc_world.proofs.casts.Events.{arrival_cast, tick_cast}
use Rattle.tipc_world.proofs.casts.Going.{CastsGo, casts_same, casts_then, event_casts, rest_casts}
use Rattle.tipc_world.proofs.rounds.CalmEvents.{by_arrival, step_of_arrival, step_of_tick, tick_turn}
use Rattle.tipc_world.proofs.rounds.CalmWorlds.{calm_arrival, calm_tick}
use Rattle.tipc_world.proofs.rounds.Events.{arrive_either, tick_either}
use Rattle.tipc_world.proofs.rounds.Guarded.{guarded_on}
use Rattle.tipc_world.proofs.rounds.Keeping.{arrival_on, nodes_keep, other_stays, settles_more, settles_same, tick_on}
use Rattle.tipc_world.proofs.rounds.Lasting.{ends_then, lasts_on, same_lasts, turn_lasts}
use Rattle.tipc_world.proofs.rounds.Pacing.{pair_first}
use Rattle.tipc_world.proofs.rounds.Parts.{goes_keep, takes_whole}
use Rattle.tipc_world.proofs.rounds.UpLinks.{session_near}

-- the sessions of a node go on from what they were at a moment
abbrev pub GoesFrom : WorldState → ℕ → MemberState → Type 0
GoesFrom base n m = (k : MemberState) → slice_index_or base.members n None ≡ Some k → (b : ℕ) → IsNumber b → n ≢ b → EndsGoOn (pair_with k.node b) (pair_with m.node b)

-- a calm world goes on from a moment, and so do all sessions and all broadcast links
pub record Going (start base w : WorldState) : Type 0 where
  pub calm : IsCalmWorld start w
  pub on : SettlesOn base w
  pub goes : EachNode (GoesFrom base) w
  pub casts : CastsGo start base w

pub begins_going : (start base : WorldState) → base.lost ≡ false → IsCalmWorld start base → Going start base base
begins_going start base clear calm = record {
  calm = calm;
  on = settles_same base clear;
  goes = λ n m there k k_there b number apart. (let both : Some m ≡ Some k = sym there ∙ k_there in let same : m ≡ k = cc in same_lasts (pair_with k.node b) (pair_with m.node b) (ap (λ (q : MemberState). pair_with q.node b) same));
  casts = casts_same start base;
}

one_goes : (start base old new : WorldState) (event : WorldEvent) (bytes : List ℕ) (answered : Answer) (h : HappensWhole old new event bytes answered) → Going start base old → SettlesOn old new → CastsGo start old new → IsCalmWorld start new
    → ((b : ℕ) → IsNumber b → node_of event ≢ b → EndsGoOn (pair_with h.before.node b) (pair_with h.after.node b)) → Going start base new
one_goes start base old new event bytes answered h r next casts calm lasts = record {
  calm = calm;
  on = settles_more base old new r.on next;
  goes = nodes_keep (GoesFrom base) old new event bytes answered h
      (λ goes k there b number apart. ends_then (pair_with k.node b) (pair_with h.before.node b) (pair_with h.after.node b) (goes k there b number apart) (lasts b number apart)) r.goes;
  casts = casts_then start base old new r.on r.casts casts;
}

-- ---- ticks

record BeforeTick (start base : WorldState) (number : ℕ) (w : WorldState) : Type 0 where
  going : Going start base w
  later : (n : ℕ) (m : MemberState) → number ≤ n → slice_index_or w.members n None ≡ Some m → HasHeardAll n m

one_tick : (start base : WorldState) (number : ℕ) (old new : WorldState) (answered : Answer) → IsKept start → old.lost ≡ false → HappensWhole old new (Call number note.Tick) [] answered → BeforeTick start base number old → BeforeTick start base (number + 1) new
one_tick start base number old new answered kept clear h b =
    let next = tick_on old new number answered clear h in
    let calm = b.going.calm in
    let ready = b.later number h.before (omega arith) h.was in
    let stays = calm_tick start kept old new number answered h calm next ready in
    record {
      going = one_goes start base old new (Call number note.Tick) [] answered h b.going next (rest_casts start old new (Call number note.Tick) [] answered h (tick_cast start old new number answered h kept calm ready)) (guarded_on start (ends_of start.air) (IsCalmNode start) (IsFromMended start) old new (Call number note.Tick) [] answered h calm next stays)
          (λ c is apart. turn_lasts start old number c h.before h.after [] (step_of_tick old new number answered h) h.frames (calm.on.kept kept) h.was is apart (calm.nodes number h.before h.was c is apart) (tick_turn start old new number answered h calm ready c is apart));
      later = λ n m above there. b.later n m (omega (arith, above)) (sym (other_stays old new (Call number note.Tick) [] answered h n (λ same. let wrong : ⊥ = omega (arith, above, same) in wrong)) ∙ there);
    }

no_tick : (start base : WorldState) (number : ℕ) (old new : WorldState) → new ≡ old → BeforeTick start base number old → BeforeTick start base (number + 1) new
no_tick start base number old new same b = record {
  going = subst (Going start base) (sym same) b.going;
  later = λ n m above there. b.later n m (omega (arith, above)) (sym (ap (λ (w : WorldState). slice_index_or w.members n None) same) ∙ there);
}

pub ticks_going : (start base : WorldState) (end count : ℕ) (now : WorldState) → IsKept start → Goes tick_asked 1 base end count now → now.lost ≡ false → Going start base base → EachNode HasHeardAll base → Going start base now
ticks_going start base end count now kept goes whole going heard =
    let last = goes_keep tick_asked (BeforeTick start base) 1 base end count now
    (λ number before made after above below taken clear b.
    let was_clear = takes_whole tick_asked number before made after taken clear in
    elim (tick_either number before made after taken clear) [
      | inl same ↦ no_tick start base number before after same b
      | inr ticked ↦ one_tick start base number before after ticked.0 kept was_clear ticked.1 b
    ])
    goes whole (record { going = going; later = λ n m above there. heard n m there }) in
    last.going

-- ---- arrivals

pub one_arrives : (start base : WorldState) → IsKept start → IsPoised start → (old new : WorldState) → old.lost ≡ false → FrameArrives (ends_of start.air) old new → Going start base old → Going start base new
one_arrives start base kept poised old new clear a r =
    let h = a.arrives in
    let next = arrival_on (ends_of start.air) old new clear a in
    let said = r.calm.frames a.bearer a.place a.frame a.on_one a.behind (placed old.air a.node a.bearer a.place a.frame a.found).0 in
    let stays = calm_arrival start kept poised old new a r.calm next said in
    let event = Arrive a.node a.bearer a.place in
    let calm = guarded_on start (ends_of start.air) (IsCalmNode start) (IsFromMended start) old new event a.frame.frame a.answered h r.calm next stays in
    one_goes start base old new event a.frame.frame a.answered h r next (event_casts start old new event a.frame.frame a.answered h kept poised r.calm calm (arrival_cast start kept poised old new a r.calm said)) calm
    (λ b is apart. by_arrival start kept poised old new a r.calm said b is apart (EndsGoOn (pair_with h.before.node b) (pair_with h.after.node b)) (same_lasts (pair_with h.before.node b) (pair_with h.after.node b))
    (λ c. turn_lasts start old a.node b h.before h.after a.frame.frame (step_of_arrival start old new a) h.frames (r.calm.on.kept kept) h.was is apart (r.calm.nodes a.node h.before h.was b is apart) c))

pub arrivals_going : (start base : WorldState) (bearer from : ℕ) (outset : WorldState) (end count : ℕ) (now : WorldState) → IsKept start → IsPoised start → bearer ≤ 1 → place_on bearer (ends_of start.air) ≤ from / numbers
    → Goes (arrival_asked Any bearer) from outset end count now → now.lost ≡ false → Going start base outset → Going start base now
arrivals_going start base bearer from outset end count now kept poised on_one behind goes whole going = goes_keep (arrival_asked Any bearer) (λ number. Going start base) from outset end count now
    (λ number before made after above below taken clear r.
    let was_clear = takes_whole (arrival_asked Any bearer) number before made after taken clear in
    let at : from / numbers ≤ number / numbers = omega (arith, above) in
    elim (arrive_either (ends_of start.air) bearer number before made after on_one (omega (arith, behind, at)) taken clear) [
      | inl same ↦ subst (Going start base) (sym same) r
      | inr arrived ↦ one_arrives start base kept poised before after was_clear arrived r
    ]) goes whole going

-- ---- one session

-- the session on a bearer went on
pub session_went : (start base w : WorldState) (n b bearer : ℕ) (k m : MemberState) (s : SessionEnd) → IsKept start → IsCalmWorld start base → Going start base w → slice_index_or base.members n None ≡ Some k → slice_index_or w.members n None ≡ Some m
    → IsNumber b → n ≢ b → bearer ≤ 1 → session_with k.node b bearer ≡ Some s → (t : SessionEnd) × (session_with m.node b bearer ≡ Some t) × StaysOn s t
session_went start base w n b bearer k m s kept g_base r k_there there number apart on_one is =
    let first = pair_first base n b k (g_base.on.kept kept) k_there in
    let first' = pair_first w n b m (r.calm.on.kept kept) there in
    let went = lasts_on (pair_with k.node b) (pair_with m.node b) bearer first first' on_one (r.goes n m there k k_there b number apart) s (sym (session_near k.node b bearer) ∙ is) in
    (went.0, session_near m.node b bearer ∙ went.1, went.2)
