-- The link ends of a node stand on mended bearers: each call and each arrival keeps that.
use Rattle.std.proofs.Common.{◌≡◌, ◌≤◌, ◌∙◌, ℕ, zero, suc, Bool, true, false, List, [], ◌++◌, Option, Some, None, map, refl, sym, ap, subst, arith}
use Rattle.std.specs.Prelude.{if◌then◌else◌, drop, length, slice_index_or}
use Rattle.std.proofs.lemmas.Bool.{true≢false}
use Rattle.tipc_types.specs.Address.{node_word}
use Rattle.tipc_types.specs.declared.link_words.BroadcastState.{BroadcastState}
use Rattle.tipc_types.specs.declared.link_words.Why.{Why}
use Rattle.tipc_types.specs.declared.link_words.Why.TheVariants as why
use Rattle.tipc_types.specs.declared.node_calls.Answer.{Answer}
use Rattle.tipc_types.specs.declared.node_calls.Answer.TheVariants as answer
use Rattle.tipc_types.specs.declared.node_calls.Arrival.{Arrival}
use Rattle.tipc_types.specs.declared.node_calls.By.{By}
use Rattle.tipc_types.specs.declared.node_calls.EventNote.{EventNote}
use Rattle.tipc_types.specs.declared.node_calls.EventNote.TheVariants as event
use Rattle.tipc_types.specs.declared.services.Publication.{Publication}
use Rattle.tipc_outside.specs.declared.outgoing.Outgoing.{Outgoing}
use Rattle.tipc_header.specs.declared.frames.FrameKind.{FrameKind}
use Rattle.tipc_header.specs.declared.frames.FrameKind.TheVariants.{Casts, Finds, Links}
use Rattle.tipc_header.specs.Faults.{fault_of}
use Rattle.tipc_header.specs.Frames.{kind_in}
use Rattle.tipc_journal.specs.Steps.{NodeStep}
use Rattle.tipc_broadcast.specs.Casting.{shown}
use Rattle.tipc_pair.specs.Courses.{rests as nothing}
use Rattle.tipc_pair.specs.Facing.{PairEnds}
use Rattle.tipc_pair.specs.PairCalls.{at_bearer}
use Rattle.tipc_pair.specs.PairTurns.{IsOnOne, Opening, Outset, PairTurn, PutsAll, Reply, Suits, made_near, quietly, replied}
use Rattle.tipc_pair.specs.PairTurns.Opening.{cuts, hears, makes, mends, rests, ticks}
use Rattle.tipc_node.specs.declared.neighbours.Neighbour.{Neighbour}
use Rattle.tipc_node.specs.declared.neighbours.Upkeep.{Upkeep}
use Rattle.tipc_node.specs.declared.neighbours.Upkeep.TheVariants as upkeep
use Rattle.tipc_node.specs.Arrivals.{Arrives}
use Rattle.tipc_node.specs.Calls.{CallTurn, CanPerform, Performs, plan_of}
use Rattle.tipc_node.specs.Discovery.{found_node, has_found}
use Rattle.tipc_node.specs.Ends.{BothStand, HasRightEnds}
use Rattle.tipc_node.specs.Messages.{bytes_of}
use Rattle.tipc_node.specs.Neighbours.{Done, course_of}
use Rattle.tipc_node.specs.Nodes.{NodeState, after_all, after_one, is_frame_size, is_mended_on, mended_by, neighbour_of, pair_with, parts_of, step_of, stop_among, stop_by_fault, stop_of, with_mended_on}
use Rattle.tipc_node.specs.Plans.{CarriesOut, Dispatch, Does, DoesUnless, Plan, frames_alone, on_its_way, to_all, to_peers}
use Rattle.tipc_node.specs.Sockets.{kept_answer}
use Rattle.tipc_node.specs.Telling.{IsTold}
use Rattle.tipc_node.specs.Turns.{NodeTurn}
use Rattle.tipc_node.proofs.pairs.Mended.{Stand, Tells, cut_stands, make_stands, mend_stands, turn_stands}
use Rattle.tipc_node.proofs.pairs.RightEnds.{turn_right}
use Rattle.tipc_node.proofs.pairs.Strangers.{kept_abreast, kept_by, pair_there}
use Rattle.tipc_node.proofs.turns.Parts.{parts_from}
use Rattle.tipc_node.proofs.turns.Shares.{after_at}

-- ---- a turn in an event by which no bearer is mended or cut

-- a frame arrives on a mended bearer alone, and none is mended or cut
record Allows (M : ℕ → Bool) (note : EventNote) : Type 0 where
  arrives : (bearer by : ℕ) → note ≡ event.Arrive bearer by → M bearer ≡ true
  mends : (bearer : ℕ) → note ≡ event.Mend bearer → ⊥
  cuts : (bearer : ℕ) → note ≡ event.Cut bearer → ⊥

opening_stands : (M : ℕ → Bool) (note : EventNote) (x x' : PairEnds) (opening : Opening) (messages : List (List ℕ)) (reply : Option Reply) (frames : List Outgoing)
    → Allows M note → Suits note opening → IsOnOne opening → PairTurn x opening messages reply x' frames → Stand M x → Stand M x'
opening_stands M note x x' (makes bearer true) messages reply frames a suits one t h =
    let y = (at_bearer bearer x (made_near true)).pair in
    let puts = subst (λ (o : Outset). PutsAll o.course.pair messages t.put_frames t.put) t.happened t.puts in
    let rest : PairTurn y rests messages reply x' (t.put_frames ++ (replied reply t.put).states) =
    record { first = quietly (nothing y); happened = refl; put_frames = t.put_frames; put = t.put; puts = puts; after = t.after; frames_are = refl } in
    turn_stands M y x' rests messages reply (t.put_frames ++ (replied reply t.put).states) tt rest (make_stands M bearer x one (a.arrives bearer suits.1.0 suits.1.1) h)
opening_stands M note x x' (makes bearer false) messages reply frames a suits one t h = absurd (true≢false (sym suits.0))
opening_stands M note x x' (mends bearer) messages reply frames a suits one t h = absurd (a.mends bearer suits)
opening_stands M note x x' (cuts bearer) messages reply frames a suits one t h = absurd (a.cuts bearer suits)
opening_stands M note x x' (hears bearer es er p by shown) messages reply frames a suits one t h =
    turn_stands M x x' (hears bearer es er p by shown) messages reply frames (one, a.arrives bearer by suits) t h
opening_stands M note x x' (ticks shown) messages reply frames a suits one t h = turn_stands M x x' (ticks shown) messages reply frames tt t h
opening_stands M note x x' rests messages reply frames a suits one t h = turn_stands M x x' rests messages reply frames tt t h

-- the pair to each node stands so before it, a stranger's too
stood : (n : NodeState) (b : ℕ) → IsTold n → HasRightEnds n → Stand (is_mended_on n.mended) (pair_with n b)
stood n b told h =
    let both = kept_by (BothStand n.mended) n b (λ none. record { near = tt; far = tt }) (h.stand b) in
    let first = (kept_abreast n b told).first in
    record { two = omega (arith, first); near = both.near; far = both.far }

stands_then : (n n' : NodeState) (bytes : List ℕ) (s : NodeStep) (frames : List Outgoing) → IsTold n → NodeTurn n n' bytes s frames → n'.mended ≡ n.mended → Allows (is_mended_on n.mended) s.event → HasRightEnds n
    → (b : ℕ) (x : Neighbour) → neighbour_of n' b ≡ Some x → BothStand n'.mended x.pair
stands_then n n' bytes s frames told t same a h b x there =
    let at = t.turns b in
    let after = opening_stands (is_mended_on n.mended) s.event (pair_with n b) (pair_with n' b) at.opening (map (bytes_of n.own) at.messages) at.reply at.own_frames a at.suits at.on_one at.turn (stood n b told h) in
    subst (λ m. BothStand m x.pair) (sym same) (subst (BothStand n.mended) (pair_there n' b x there) (record { near = after.near; far = after.far }))

-- ---- a bearer is mended or cut

tells : (mended : Bool × Bool) (bearer : ℕ) (now : Bool) → bearer ≤ 1 → Tells (is_mended_on mended) (is_mended_on (with_mended_on mended bearer now)) bearer now
tells mended zero now one = record { here = refl; there = refl }
tells mended (suc zero) now one = record { here = refl; there = refl }
tells mended (suc (suc k)) now one = absurd (omega (arith, one))

-- what becomes of each neighbour then leaves its ends so
abbrev Moves : (M M' : ℕ → Bool) → Upkeep → Type 0
Moves M M' d = (seen : BroadcastState) (y : Neighbour) → Stand M y.pair → Stand M' (course_of d seen y).pair

upkeep_stands : (n n' : NodeState) (d : Upkeep) → IsTold n → HasRightEnds n → n'.mended ≡ mended_by d n.mended → n'.neighbours ≡ after_all (parts_of d n)
    → Moves (is_mended_on n.mended) (is_mended_on (mended_by d n.mended)) d → (b : ℕ) (x : Neighbour) → neighbour_of n' b ≡ Some x → BothStand n'.mended x.pair
upkeep_stands n n' d told h mended same moves b x there =
    by (slice_index_or (parts_of d n) b None) refl (sym (after_at (parts_of d n) b) ∙ ap (λ xs. slice_index_or xs b None) (sym same) ∙ there)
  where
    by : (o : Option Done) → slice_index_or (parts_of d n) b None ≡ o → after_one o ≡ Some x → BothStand n'.mended x.pair
    by None is after = absurd (let wrong : None ≡ Some x = after in cc)
    by (Some y) is after =
        let part = parts_from n d b y is in
        let seen = shown part.link (node_word b) in
        let before = subst (Stand (is_mended_on n.mended)) (pair_there n b part.neighbour part.there) (stood n b told h) in
        let stands = moves seen part.neighbour before in
        let one : y.after ≡ x = cc in
        let pair : (course_of d seen part.neighbour).pair ≡ x.pair = sym (ap (λ (z : Done). z.after.pair) part.is) ∙ ap (λ (z : Neighbour). z.pair) one in
        subst (λ m. BothStand m x.pair) (sym mended) (subst (BothStand (mended_by d n.mended)) pair (record { near = stands.near; far = stands.far }))

-- ---- calls

-- the bearers that are mended after a plan was carried out
carried_mended : (n n' : NodeState) (by : By) (call : EventNote) (p : Plan) (frames : List Outgoing) (answered : Answer) → p.mended ≡ n.mended → CarriesOut n by call p n' frames answered → n'.mended ≡ n.mended
carried_mended n n' by call p frames answered same done = on p.refusal done
  where
    sends : (k : Dispatch) → Does k n by call p n' frames answered → n'.mended ≡ n.mended
    sends (frames_alone given) d = ap (λ (m : NodeState). m.mended) d.0 ∙ same
    sends (to_peers told) d = ap (λ (m : NodeState). m.mended) d.2 ∙ same
    sends (on_its_way m) d = ap (λ (m : NodeState). m.mended) d.2 ∙ same
    sends (to_all m given) d = ap (λ (m : NodeState). m.mended) d.1 ∙ same

    on : (o : Option Answer) → DoesUnless o n by call p n' frames answered → n'.mended ≡ n.mended
    on (Some reason) d = ap (λ (m : NodeState). m.mended) d.0
    on None d = sends p.dispatch d

-- it is no call of a bearer, and no arrival
abbrev IsApart : EventNote → Type 0
IsApart (event.Mend bearer) = ⊥
IsApart (event.Cut bearer) = ⊥
IsApart (event.Arrive bearer number) = ⊥
IsApart other = Unit {0}

apart_allows : (M : ℕ → Bool) (note : EventNote) → IsApart note → Allows M note
apart_allows M note apart = record {
  arrives = λ bearer by is. absurd (subst IsApart is apart);
  mends = λ bearer is. subst IsApart is apart;
  cuts = λ bearer is. subst IsApart is apart;
}

plan_mended : (n : NodeState) (call : EventNote) (chosen : Option Publication) → IsApart call → (plan_of n call chosen).mended ≡ n.mended
plan_mended n (event.Mend bearer) chosen apart = absurd apart
plan_mended n (event.Cut bearer) chosen apart = absurd apart
plan_mended n (event.Arrive bearer number) chosen apart = absurd apart
plan_mended n (event.SendName port kind instance importance body) None apart = refl
plan_mended n (event.SendName port kind instance importance body) (Some p) apart = refl
plan_mended n other chosen apart = refl

-- a call, and all that came of it
record Made (n n' : NodeState) (by : By) (call : EventNote) (frames : List Outgoing) (answered : Answer) : Type 0 where
  performs : Performs n by call n' frames answered
  turn : CallTurn n n' by call [] (kept_answer answered) frames

calls_apart : (n n' : NodeState) (by : By) (call : EventNote) (frames : List Outgoing) (answered : Answer) → IsApart call → Made n n' by call frames answered → HasRightEnds n
    → (b : ℕ) (x : Neighbour) → neighbour_of n' b ≡ Some x → BothStand n'.mended x.pair
calls_apart n n' by call frames answered apart m h =
    let t = m.turn in
    stands_then n n' [] (step_of by call t.inside (kept_answer answered)) frames t.told_before t.turn
    (carried_mended n n' by call (plan_of n call m.performs.chosen) frames answered (plan_mended n call m.performs.chosen apart) m.performs.carried)
    (apart_allows (is_mended_on n.mended) call apart) h

calls_stand : (n n' : NodeState) (by : By) (call : EventNote) (frames : List Outgoing) (answered : Answer) → CanPerform call → Made n n' by call frames answered → HasRightEnds n
    → (b : ℕ) (x : Neighbour) → neighbour_of n' b ≡ Some x → BothStand n'.mended x.pair
calls_stand n n' by (event.Mend bearer) frames answered can m h =
    let done = m.performs.carried in
    upkeep_stands n n' (upkeep.Mend bearer) m.turn.told_before h (ap (λ (k : NodeState). k.mended) done.0) (ap (λ (k : NodeState). k.neighbours) done.0)
    (λ seen y before. mend_stands (is_mended_on n.mended) (is_mended_on (with_mended_on n.mended bearer true)) bearer y.pair can (tells n.mended bearer true can) before)
calls_stand n n' by (event.Cut bearer) frames answered can m h =
    let done = m.performs.carried in
    upkeep_stands n n' (upkeep.Cut bearer) m.turn.told_before h (ap (λ (k : NodeState). k.mended) done.0) (ap (λ (k : NodeState). k.neighbours) done.0)
    (λ seen y before. cut_stands (is_mended_on n.mended) (is_mended_on (with_mended_on n.mended bearer false)) bearer y.pair can (tells n.mended bearer false can) before)
calls_stand n n' by (event.Arrive bearer number) frames answered can m h = absurd can
calls_stand n n' by other frames answered can m h = calls_apart n n' by other frames answered tt m h

pub performed_right : (n n' : NodeState) (by : By) (call : EventNote) (frames : List Outgoing) (answered : Answer) → CanPerform call → Performs n by call n' frames answered
    → CallTurn n n' by call [] (kept_answer answered) frames → HasRightEnds n → HasRightEnds n'
performed_right n n' by call frames answered can p t h =
    turn_right n n' [] (step_of by call t.inside (kept_answer answered)) frames t.told_before t.turn (calls_stand n n' by call frames answered can (record { performs = p; turn = t }) h) h

-- ---- arrivals

-- a frame that nothing stops came on a mended bearer
open_bearer : (own : ℕ) (mended : Bool × Bool) (xs : List (Option Neighbour)) (bearer : ℕ) (bytes : List ℕ) → stop_among own mended xs bearer bytes ≡ None → is_mended_on mended bearer ≡ true
unfolding stop_among
open_bearer own mended xs bearer bytes is = by (is_mended_on mended bearer) refl is
  where
    by : (on : Bool) → is_mended_on mended bearer ≡ on
        → (if on then (if is_frame_size (length bytes) then stop_by_fault own xs bearer bytes (fault_of (drop 16 bytes)) else Some why.Envelope) else Some why.Cut) ≡ None → is_mended_on mended bearer ≡ true
    by true same passes = same
    by false same passes = absurd cc

-- the bearers that are mended then, where nothing stopped it
heard_mended : (n n' : NodeState) (by : By) (bearer number : ℕ) (bytes : List ℕ) (frames : List Outgoing) (answered : Arrival) → Arrives n n' by bearer number bytes frames answered
    → stop_of n bearer bytes ≡ None → n'.mended ≡ n.mended
heard_mended n n' by bearer number bytes frames answered a passes = on (kind_in bytes) refl
  where
    on : (kind : FrameKind) → kind_in bytes ≡ kind → n'.mended ≡ n.mended
    on Links is = ap (λ (m : NodeState). m.mended) (a.heard passes is).after
    on Finds is =
        let d = a.discovered passes is in
        ap (λ (m : NodeState). m.mended) d.after
        ∙ elim (has_found n bearer d.peer) as (λ b. (if b then n else found_node n d.peer bearer).mended ≡ n.mended) [ true ↦ refl | false ↦ refl ]
    on Casts is = ap (λ (m : NodeState). m.mended) (a.cast passes is).after

arrivals_stand : (n n' : NodeState) (by : By) (bearer number : ℕ) (bytes : List ℕ) (frames : List Outgoing) (answered : Arrival) → Arrives n n' by bearer number bytes frames answered
    → CallTurn n n' by (event.Arrive bearer number) bytes (answer.Arrived answered) frames → HasRightEnds n → (b : ℕ) (x : Neighbour) → neighbour_of n' b ≡ Some x → BothStand n'.mended x.pair
arrivals_stand n n' by bearer number bytes frames answered a t h b x there = on (stop_of n bearer bytes) refl
  where
    on : (o : Option Why) → stop_of n bearer bytes ≡ o → BothStand n'.mended x.pair
    on (Some reason) is =
        let same = (a.stopped reason is).0 in
        let before : neighbour_of n b ≡ Some x = sym (ap (λ (m : NodeState). neighbour_of m b) same) ∙ there in
        subst (λ m. BothStand m x.pair) (sym (ap (λ (m : NodeState). m.mended) same)) (h.stand b x before)
    on None is =
        let on_mended = open_bearer n.own n.mended n.neighbours bearer bytes is in
        stands_then n n' bytes (step_of by (event.Arrive bearer number) t.inside (answer.Arrived answered)) frames t.told_before t.turn
        (heard_mended n n' by bearer number bytes frames answered a is) (record {
          arrives = λ at k same. (let one : bearer ≡ at = cc in subst (λ z. is_mended_on n.mended z ≡ true) one on_mended);
          mends = λ at same. (let wrong : event.Arrive bearer number ≡ event.Mend at = same in let no_way : ⊥ = cc in no_way);
          cuts = λ at same. (let wrong : event.Arrive bearer number ≡ event.Cut at = same in let no_way : ⊥ = cc in no_way);
        }) h b x there

pub arrived_right : (n n' : NodeState) (by : By) (bearer number : ℕ) (bytes : List ℕ) (frames : List Outgoing) (answered : Arrival) → Arrives n n' by bearer number bytes frames answered
    → CallTurn n n' by (event.Arrive bearer number) bytes (answer.Arrived answered) frames → HasRightEnds n → HasRightEnds n'
arrived_right n n' by bearer number bytes frames answered a t h =
    turn_right n n' bytes (step_of by (event.Arrive bearer number) t.inside (answer.Arrived answered)) frames t.told_before t.turn
    (arrivals_stand n n' by bearer number bytes frames answered a t h) h
