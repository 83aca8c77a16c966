-- The passes of a live run's nodes are one for each caller, so each node comes out of its lock; and what the nodes,
-- taken out, show of the run.
use Rattle.std.specs.List.{All, count_by}
use Rattle.std.specs.Prelude.{nat_le, nat_lt, slice_index_or}
use Rattle.std.proofs.Common.{◌≡◌, ℕ, zero, suc, ◌+◌, ◌*◌, ◌<◌, ◌≤◌, ◌==◌, Bool, true, false, arith, List, [], ◌∷◌, ◌++◌, append-nil, append_assoc, drop, length, map, refl, sym, subst, take, ◌∙◌, ap, eq-eqb}
use Rattle.std.proofs.lemmas.Bool.{and_from}
use Rattle.std.proofs.lemmas.Bool.Decides.{nat_tests}
use Rattle.std.proofs.lemmas.List.{drop-drop, get_or-drop, get_or_at, length-drop, length-map, length_push, map_push, nil_from_length, take_all}
use Rattle.std.proofs.lemmas.List.Sums.{count_by_more_no, count_by_more_yes, list_all-from_AllPass}
use Rattle.tipc_types.specs.Address.{node_word}
use Rattle.tipc_node_lock.specs.Locked.{LockedState}
use Rattle.tipc_node_lock.specs.Locks.{LockState, has_one_pass, is_one_per_caller, is_sole_pass}
use Rattle.tipc_node_lock.specs.Passes.{PassState}
use Rattle.tipc_live.specs.Gathering.{GatheredState}
use Rattle.tipc_work.specs.declared.plans.LivePlan.{LivePlan}
use Rattle.tipc_work.specs.Worked.{CanWork, HasWorked, HaveWorked}
use Rattle.tipc_sim.specs.LiveRuns.{AreNodesInOrder, AreOnePerCaller, HasRun, IsLeftByRun}

-- ---- one pass for each caller

-- passes of a lock, in order of their callers, who count from 1
pub record AreInOrder (l : LockState) (passes : List PassState) : Type 0 where
  pub caller : (i : ℕ) (p : PassState) → i < length passes → (slice_index_or passes i p).caller ≡ i + 1
  pub own : (i : ℕ) (p : PassState) → i < length passes → (slice_index_or passes i p).own ≡ l.own

other : (n c : ℕ) → n < c → (n == c) ≡ false
other n c less = grind (arith, nat_tests)

above : (n c : ℕ) → c < n → (n == c) ≡ false
above n c less = grind (arith, nat_tests)

-- a caller has no pass before its place
none_before : (l : LockState) (passes : List PassState) (d : PassState) (c n : ℕ) → AreInOrder l passes → n ≤ length passes → n ≤ c
    → count_by (λ (p : PassState). p.caller == c + 1) (take n passes) ≡ 0
none_before l passes d c zero o few low = refl
none_before l passes d c (suc n) o few low =
    let e : suc n ≡ n + 1 = omega arith in
    let within : n < length passes = omega (arith, few) in
    let number = o.caller n d within in
    let before = none_before l passes d c n o (omega (arith, few)) (omega (arith, low)) in
    ap (λ m. count_by (λ (p : PassState). p.caller == c + 1) (take m passes)) e
    ∙ count_by_more_no (λ (p : PassState). p.caller == c + 1) passes n d within (other _ _ (omega (arith, number, low)))
    ∙ before

-- and one behind it
one_behind : (l : LockState) (passes : List PassState) (d : PassState) (c n : ℕ) → AreInOrder l passes → n ≤ length passes → c < n
    → count_by (λ (p : PassState). p.caller == c + 1) (take n passes) ≡ 1
one_behind l passes d c zero o few low = absurd (omega (arith, low))
one_behind l passes d c (suc n) o few low =
    ap (λ m. count_by (λ (p : PassState). p.caller == c + 1) (take m passes)) next
    ∙ (elim (nat_lt c n) as (λ b. nat_lt c n ≡ b → count_by (λ (p : PassState). p.caller == c + 1) (take (n + 1) passes) ≡ 1) [
      | true ↦ λ test.
          let below : c < n = grind (arith, nat_tests) in
          count_by_more_no (λ (p : PassState). p.caller == c + 1) passes n d within (above _ _ (omega (arith, number, below)))
          ∙ one_behind l passes d c n o (omega (arith, few)) below
      | false ↦ λ test.
          let up : n ≤ c = grind (arith, nat_tests) in
          let here : (slice_index_or passes n d).caller ≡ c + 1 = omega (arith, number, up, low) in
          let more = count_by_more_yes (λ (p : PassState). p.caller == c + 1) passes n d within (eq-eqb _ _ here) in
          let none = none_before l passes d c n o (omega (arith, few)) up in
          omega (arith, more, none)
    ]) refl
  where
    next : suc n ≡ n + 1
    next = omega arith

    within : n < length passes
    within = omega (arith, few)

    number : (slice_index_or passes n d).caller ≡ n + 1
    number = o.caller n d within

-- each is the only one of its caller
sole : (l : LockState) (callers : ℕ) (passes : List PassState) → length passes ≡ callers → AreInOrder l passes
    → (i : ℕ) (p : PassState) → i < length passes → is_sole_pass l.own callers passes (slice_index_or passes i p) ≡ true
sole l callers passes count o i p within =
    and_from _ _ (eq-eqb _ _ (o.own i p within)) (and_from _ _ few one)
  where
    number : (slice_index_or passes i p).caller ≡ i + 1
    number = o.caller i p within

    few : nat_le (slice_index_or passes i p).caller callers ≡ true
    few = let low : (slice_index_or passes i p).caller ≤ callers = omega (arith, number, within, count) in grind (arith, nat_tests)

    one : has_one_pass passes (slice_index_or passes i p).caller ≡ true
    one =
        subst (λ k. has_one_pass passes k ≡ true) (sym number)
        (eq-eqb _ _ (sym (ap (count_by (λ (q : PassState). q.caller == i + 1)) (take_all (length passes) passes (omega arith)))
        ∙ one_behind l passes p i (length passes) o (omega arith) within))

pub one_per_caller : (l : LockState) (passes : List PassState) → length passes ≡ l.callers → AreInOrder l passes → is_one_per_caller l.own l.callers passes ≡ true
unfolding is_one_per_caller
one_per_caller l passes count o =
    and_from _ _ (eq-eqb _ _ count) (list_all-from_AllPass (is_sole_pass l.own l.callers passes) passes (λ i p within. sole l l.callers passes count o i p within))

-- ---- behind a run

-- the passes of a node are in order behind it
passes_in_order : {B : Type 0} (tried given faults : B → ℕ) (plan : LivePlan) (node : ℕ) (l : LockState) (first second : B) (passes : List PassState) (failed : Bool) (first' second' : B)
    → HasWorked tried given faults plan node l first second passes failed first' second' → AreInOrder l passes
passes_in_order tried given faults plan node l first second passes failed first' second' w = record {
  caller = λ i p within. by i p within (λ k q. q.caller ≡ k + 1) (λ below. (w.called i p below).used.caller) (w.moved p).used.caller;
  own = λ i p within. by i p within (λ k q. q.own ≡ l.own) (λ below. (w.called i p below).used.pass.1) (w.moved p).used.pass.1;
}
  where
    by : (i : ℕ) (p : PassState) → i < length passes → (Q : ℕ → PassState → Type 0) → (i < plan.callers → Q i (slice_index_or passes i p))
        → Q plan.callers (slice_index_or passes plan.callers p) → Q i (slice_index_or passes i p)
    by i p less Q caller mover = elim (nat_lt i plan.callers) as (λ b. nat_lt i plan.callers ≡ b → Q i (slice_index_or passes i p)) [
      | true ↦ λ test. caller (grind (arith, nat_tests))
      | false ↦ λ test.
          let up : plan.callers ≤ i = grind (arith, nat_tests) in
          let count = w.count in
          let same : plan.callers ≡ i = omega (arith, up, less, count) in subst (λ k. Q k (slice_index_or passes k p)) same mover
    ] refl

-- so each node comes out of its lock with its passes
pub one_per_caller_of_run : {B : Type 0} (tried given faults : B → ℕ) (plan : LivePlan) (locks : List LockState) (bearers : List B) (passes : List (List PassState)) (failed : Bool) (bearers' : List B)
    → length locks ≡ plan.nodes → length bearers ≡ 2 * plan.nodes → All (λ (l : LockState). l.callers ≡ plan.callers + 1) locks
    → HaveWorked tried given faults plan locks bearers passes failed bearers' → AreOnePerCaller locks passes
one_per_caller_of_run {B} tried given faults plan locks bearers passes failed bearers' lock_count bearer_count callers w = record {
  count = w.pass_count ∙ sym lock_count;
  each = λ i l ps within. by bearers bearer_count w i l ps within;
}
  where
    by : (given_bearers : List B) → length given_bearers ≡ 2 * plan.nodes → HaveWorked tried given faults plan locks given_bearers passes failed bearers'
        → (i : ℕ) (l : LockState) (ps : List PassState) → i < length locks
        → is_one_per_caller (slice_index_or locks i l).own (slice_index_or locks i l).callers (slice_index_or passes i ps) ≡ true
    by [] none v i l ps within = absurd (omega (arith, none, within, lock_count))
    by (b ∷ bs) some v i l ps within =
        let one = v.each i l b ps (omega (arith, within, lock_count)) in
        let count = one.1.count in
        one_per_caller (slice_index_or locks i l) (slice_index_or passes i ps) (count ∙ sym (callers i l within))
        (passes_in_order tried given faults plan (i + 1) _ _ _ _ one.0 _ _ one.1)

-- one node more is taken out of its lock
pub taken_more : {P V : Type 0} (items : V → List PassState) (nodes nodes' : List (LockedState P)) (n : LockedState P) (waiting waiting' : List V) (v : V) (all : List (List PassState))
    → map (λ (m : LockedState P). m.passes) nodes ++ map items waiting ≡ all → waiting ≡ v ∷ waiting' → nodes' ≡ nodes ++ n ∷ [] → n.passes ≡ items v
    → map (λ (m : LockedState P). m.passes) nodes' ++ map items waiting' ≡ all
taken_more {P} items nodes nodes' n waiting waiting' v all before first more same =
    ap (λ ns. map (λ (m : LockedState P). m.passes) ns ++ map items waiting') more
    ∙ ap (λ ps. ps ++ map items waiting') (map_push (λ (m : LockedState P). m.passes) nodes n)
    ∙ append_assoc (map (λ (m : LockedState P). m.passes) nodes) (n.passes ∷ []) (map items waiting')
    ∙ ap (λ p. map (λ (m : LockedState P). m.passes) nodes ++ p ∷ map items waiting') same
    ∙ ap (λ vs. map (λ (m : LockedState P). m.passes) nodes ++ map items vs) (sym first)
    ∙ before

-- and as many locks fewer wait
pub locks_more : {P : Type 0} (locks : List LockState) (nodes nodes' : List (LockedState P)) (left left' : List LockState) (n : LockedState P) (l : LockState)
    → drop (length nodes) locks ≡ left → left ≡ l ∷ left' → nodes' ≡ nodes ++ n ∷ [] → drop (length nodes') locks ≡ left'
locks_more locks nodes nodes' left left' n l waits first more =
    ap (λ k. drop k locks) (ap length more ∙ length_push nodes n)
    ∙ sym (drop-drop 1 (length nodes) locks)
    ∙ ap (drop 1) (waits ∙ first)

-- the lock that comes next has one pass for each caller
pub comes_out : {P V : Type 0} (items : V → List PassState) (locks left left' : List LockState) (l : LockState) (nodes : List (LockedState P)) (waiting waiting' : List V) (v : V)
    (all : List (List PassState)) → AreOnePerCaller locks all → map (λ (m : LockedState P). m.passes) nodes ++ map items waiting ≡ all → waiting ≡ v ∷ waiting'
    → drop (length nodes) locks ≡ left → left ≡ l ∷ left' → is_one_per_caller l.own l.callers (items v) ≡ true
comes_out {P} items locks left left' l nodes waiting waiting' v all ones before first waits next =
    subst (λ (k : LockState). is_one_per_caller k.own k.callers (items v) ≡ true) lock
    (subst (λ ps. is_one_per_caller (slice_index_or locks (length nodes) l).own (slice_index_or locks (length nodes) l).callers ps ≡ true) passes
    (ones.each (length nodes) l (items v) within))
  where
    still : drop (length nodes) locks ≡ l ∷ left'
    still = waits ∙ next

    within : length nodes < length locks
    within = let count = length-drop (length nodes) locks in let some = ap length still in omega (arith, count, some)

    lock : slice_index_or locks (length nodes) l ≡ l
    lock =
        let at = get_or-drop (length nodes) locks 0 l in
        let same : length nodes + 0 ≡ length nodes = omega arith in
        sym (at ∙ ap (λ k. slice_index_or locks k l) same) ∙ ap (λ ks. slice_index_or ks 0 l) still

    passes : slice_index_or all (length nodes) (items v) ≡ items v
    passes =
        ap (λ ps. slice_index_or ps (length nodes) (items v)) (sym before ∙ ap (λ vs. map (λ (m : LockedState P). m.passes) nodes ++ map items vs) first)
        ∙ get_or_at (map (λ (m : LockedState P). m.passes) nodes) (items v) (map items waiting') (items v) (length nodes) (length-map nodes (λ (m : LockedState P). m.passes))

-- no pass waits any more
pub taken_all : {P V : Type 0} (items : V → List PassState) (nodes : List (LockedState P)) (waiting : List V) (all : List (List PassState))
    → map (λ (m : LockedState P). m.passes) nodes ++ map items waiting ≡ all → length waiting ≡ 0 → map (λ (m : LockedState P). m.passes) nodes ≡ all
taken_all {P} items nodes waiting all before none =
    sym (append-nil (map (λ (m : LockedState P). m.passes) nodes))
    ∙ ap (λ vs. map (λ (m : LockedState P). m.passes) nodes ++ map items vs) (sym (nil_from_length waiting none))
    ∙ before

-- what is left of a run whose passes stand in these nodes
pub left_by_run : {P B : Type 0} (tried given faults : B → ℕ) (plan : LivePlan) (locks : List LockState) (before : List (List PassState)) (count clocks : ℕ) (bearers : List B)
    (nodes : List (LockedState P)) (passes : List (List PassState)) (failed : Bool) (bearers' : List B) → CanWork plan locks before count clocks
    → HaveWorked tried given faults plan locks bearers passes failed bearers' → map (λ (n : LockedState P). n.passes) nodes ≡ passes
    → IsLeftByRun tried given faults plan bearers nodes failed bearers'
left_by_run tried given faults plan locks before count clocks bearers nodes passes failed bearers' can worked same = record {
  locks = locks;
  count = can.lock_count;
  own = can.own;
  worked = subst (λ ps. HaveWorked tried given faults plan locks bearers ps failed bearers') (sym same) worked;
}

-- what is gathered of it
pub has_run : {P B : Type 0} (tried given faults : B → ℕ) (plan : LivePlan) (bearers : List B) (g : GatheredState P B) (nodes : List (LockedState P)) (failed : Bool) (bearers' : List B)
    → IsLeftByRun tried given faults plan (take (2 * plan.nodes) bearers) nodes failed bearers' → AreNodesInOrder nodes
    → HasRun tried given faults plan bearers (record g { nodes = nodes; bearers = bearers' }) failed
has_run {P} tried given faults plan bearers g nodes failed bearers' left own = record {
  nodes = sym (length-map nodes (λ (n : LockedState P). n.passes)) ∙ left.worked.pass_count;
  own = own;
  left = left;
}

-- ---- node after node

-- the first nodes, so many of them, are nodes 1, 2 and so on
pub record AreFirstInOrder {P : Type 0} (nodes : List (LockedState P)) (count : ℕ) : Type 0 where
  pub each : (i : ℕ) (n : LockedState P) → i < count → (slice_index_or nodes i n).node.own ≡ node_word (i + 1)
