-- What the crews of the nodes do is what a run does: which passes and bearers are whose.
use Rattle.std.specs.List.{All, list_any, range_with_len}
use Rattle.std.proofs.Common.{◌≡◌, ◌⊎◌, inl, inr, ℕ, zero, suc, ◌+◌, ◌*◌, ◌<◌, ◌≤◌, Bool, true, false, ◌||◌, arith, List, [], ◌∷◌, ◌++◌, Ok, append_assoc, length, length-append, map, slice_index_or, refl, sym, subst, ◌∙◌, ap}
use Rattle.std.specs.Prelude.{Option, Some, Result, IfOk, option_to_list}
use Rattle.std.proofs.lemmas.List.{get_or-map, get_or_append_left, get_or_default, get_or_push, length-map, map-append}
use Rattle.std.proofs.lemmas.List.Folds.{list_any-append}
use Rattle.std.proofs.lemmas.List.FromFn.{get_or-range_with_len}
use Rattle.tipc_outside.specs.Causes.{Rose}
use Rattle.tipc_types.specs.declared.memory.NoMemory.{NoMemory}
use Rattle.tipc_node_lock.specs.Locks.{LockState}
use Rattle.tipc_node_lock.specs.Passes.{PassState}
use Rattle.tipc_work.specs.declared.plans.LivePlan.{LivePlan}
use Rattle.tipc_work.specs.Moved.{HasMoved}
use Rattle.tipc_work.specs.Shown.{HasCalled, IsUnusedPass}
use Rattle.tipc_work.specs.Plans.{IsLivePlan}
use Rattle.tipc_work.specs.Worked.{AreCallers, AreUnusedPasses, CanWork, CanWorkAt, HasWorked, HasWorkedAt, HaveCalled, HaveWorked, bearers_of}

-- ---- the bearers of several nodes

pub bearers_more : {B : Type 0} (ps : List (B × B)) (a b : B) → bearers_of (ps ++ (a, b) ∷ []) ≡ bearers_of ps ++ a ∷ b ∷ []
bearers_more [] a b = refl
bearers_more ((x, y) ∷ ps) a b = ap (λ bs. x ∷ y ∷ bs) (bearers_more ps a b)

pub length_bearers : {B : Type 0} (ps : List (B × B)) → length (bearers_of ps) ≡ 2 * length ps
length_bearers [] = refl
length_bearers ((x, y) ∷ ps) = let rest = length_bearers ps in omega (arith, rest)

-- bearer 0 of the node at a place
pub bearer_first : {B : Type 0} (ps : List (B × B)) (i : ℕ) (b : B) (d : B × B) → i < length ps → slice_index_or (bearers_of ps) (2 * i) b ≡ (slice_index_or ps i d).0
bearer_first [] i b d within = absurd (omega (arith, within))
bearer_first ((x, y) ∷ ps) zero b d within = refl
bearer_first ((x, y) ∷ ps) (suc i) b d within =
    let at : 2 * suc i ≡ suc (suc (2 * i)) = omega arith in
    ap (λ k. slice_index_or (x ∷ y ∷ bearers_of ps) k b) at ∙ bearer_first ps i b d (omega (arith, within))

-- and bearer 1
pub bearer_second : {B : Type 0} (ps : List (B × B)) (i : ℕ) (b : B) (d : B × B) → i < length ps → slice_index_or (bearers_of ps) (2 * i + 1) b ≡ (slice_index_or ps i d).1
bearer_second [] i b d within = absurd (omega (arith, within))
bearer_second ((x, y) ∷ ps) zero b d within = refl
bearer_second ((x, y) ∷ ps) (suc i) b d within =
    let at : 2 * suc i + 1 ≡ suc (suc (2 * i + 1)) = omega arith in
    ap (λ k. slice_index_or (x ∷ y ∷ bearers_of ps) k b) at ∙ bearer_second ps i b d (omega (arith, within))

-- ---- what stands at a place

-- a function keeps the number of things
map_count : {X Y : Type 0} (f : X → Y) (xs : List X) → length (map f xs) ≡ length xs
map_count f xs = length-map xs f

-- something stands at each place of a list
pick : {X : Type 0} (xs : List X) (i : ℕ) → i < length xs → (x : X) × (x ≡ slice_index_or xs i x)
pick [] i within = absurd (omega (arith, within))
pick (x ∷ xs) zero within = (x, refl)
pick (x ∷ xs) (suc i) within = pick xs i (omega (arith, within))

or_true : (a b : Bool) → (a || b) ≡ true → (a ≡ true) ⊎ (b ≡ true)
or_true true b is = inl refl
or_true false b is = inr is

-- where one passes, it stands at a place
any_found : {X : Type 0} (test : X → Bool) (xs : List X) → list_any test xs ≡ true
    → (i : ℕ) × (x : X) × (i < length xs) × (x ≡ slice_index_or xs i x) × (test x ≡ true)
any_found test [] is = absurd cc
any_found {X} test (x ∷ xs) is = by (or_true (test x) (list_any test xs) is) (λ there. any_found test xs there)
  where
    further : (i : ℕ) × (y : X) × (i < length xs) × (y ≡ slice_index_or xs i y) × (test y ≡ true)
        → (i : ℕ) × (y : X) × (i < length (x ∷ xs)) × (y ≡ slice_index_or (x ∷ xs) i y) × (test y ≡ true)
    further (i, y, within, at, passes) = (suc i, y, omega (arith, within), at, passes)

    by : (test x ≡ true) ⊎ (list_any test xs ≡ true)
        → (list_any test xs ≡ true → (i : ℕ) × (y : X) × (i < length xs) × (y ≡ slice_index_or xs i y) × (test y ≡ true))
        → (i : ℕ) × (y : X) × (i < length (x ∷ xs)) × (y ≡ slice_index_or (x ∷ xs) i y) × (test y ≡ true)
    by (inl here) others = (0, x, omega arith, refl, here)
    by (inr there) others = further (others there)

-- ---- before a run

-- the number of a crew is its place
place_is : {K : Type 0} (place : K → ℕ) (crews : List K) (nodes i : ℕ) (x : K) → map place crews ≡ range_with_len 0 nodes → length crews ≡ nodes → i < nodes
    → x ≡ slice_index_or crews i x → place x ≡ i
place_is place crews nodes i x places count within is =
    let at = get_or-map place crews i x 0 (omega (arith, within, count)) in
    let numbered = get_or-range_with_len 0 nodes i 0 within in
    let read = ap (λ ks. slice_index_or ks i 0) places in
    let same = ap place is in
    omega (arith, at, numbered, read, same)

-- each crew can work at its node
can_work_at : {K V : Type 0} (place : K → ℕ) (passes : K → V) (items : V → List PassState) (plan : LivePlan) (locks : List LockState) (all : List V)
    (crews : List K) (bearers clocks : ℕ) → CanWork plan locks (map items all) bearers clocks → map passes crews ≡ all
    → map place crews ≡ range_with_len 0 (length all) → (i : ℕ) (x : K) → i < length crews → x ≡ slice_index_or crews i x
    → CanWorkAt plan locks (place x) (items (passes x))
can_work_at place passes items plan locks all crews bearers clocks can whose places i x within is = record {
  live = can.live;
  among = let l = can.lock_count in let most = can.live.nodes.1 in (omega (arith, at, inside, l), omega (arith, at, inside, most));
  unused = λ l.
      subst (λ qs. AreUnusedPasses plan (slice_index_or locks (place x) l) qs) here
      (subst (λ k. AreUnusedPasses plan (slice_index_or locks k l) (slice_index_or (map items all) i (items (passes x)))) (sym at)
      (can.unused i l (items (passes x)) inside));
}
  where
    count : length crews ≡ length all
    count = sym (map_count passes crews) ∙ ap length whose

    inside : i < plan.nodes
    inside = let nodes = can.pass_count in let same = map_count items all in omega (arith, within, count, nodes, same)

    among : i < length all
    among = omega (arith, within, count)

    at : place x ≡ i
    at = place_is place crews (length all) i x places count among is

    here : slice_index_or (map items all) i (items (passes x)) ≡ items (passes x)
    here =
        get_or-map items all i (passes x) (items (passes x)) among
        ∙ ap items (ap (λ vs. slice_index_or vs i (passes x)) (sym whose) ∙ get_or-map passes crews i x (passes x) within ∙ ap passes (sym is))

pub crews_ready : {K V : Type 0} (place : K → ℕ) (passes : K → V) (items : V → List PassState) (plan : LivePlan) (locks : List LockState) (all : List V)
    (crews : List K) (bearers clocks : ℕ) → CanWork plan locks (map items all) bearers clocks → map passes crews ≡ all
    → map place crews ≡ range_with_len 0 (length all) → All (λ x. CanWorkAt plan locks (place x) (items (passes x))) crews
crews_ready place passes items plan locks all crews bearers clocks can whose places = λ i x within.
    can_work_at place passes items plan locks all crews bearers clocks can whose places i (slice_index_or crews i x) within
    (get_or_default crews i x (slice_index_or crews i x) within)

-- ---- behind a run

-- what each job gave, where memory ran out for none
pub jobs_done : {K D E : Type 0} (R : K → D → Type 0) (jobs : List K) (done : List D) (results : List (Result D E)) → map Ok done ≡ results
    → length results ≡ length jobs
    → ((i : ℕ) (r : Result D E) → i < length jobs → (x : K) × (((d : K) → slice_index_or jobs i d ≡ x)) × IfOk (slice_index_or results i r) (λ a. R x a))
    → (i : ℕ) (x : K) (a : D) → i < length jobs → R (slice_index_or jobs i x) (slice_index_or done i a)
jobs_done {K} {D} {E} R jobs done results ok len each i x a within = by (each i (Ok a) within)
  where
    count : length done ≡ length jobs
    count = sym (map_count Ok done) ∙ ap length ok ∙ len

    result : slice_index_or results i (Ok a) ≡ Ok (slice_index_or done i a)
    result = ap (λ rs. slice_index_or rs i (Ok a)) (sym ok) ∙ get_or-map Ok done i a (Ok a) (omega (arith, within, count))

    by : (y : K) × (((d : K) → slice_index_or jobs i d ≡ y)) × IfOk (slice_index_or results i (Ok a)) (λ b. R y b) → R (slice_index_or jobs i x) (slice_index_or done i a)
    by (y, at, h) =
        subst (λ k. R k (slice_index_or done i a)) (sym (at x)) (subst (λ (r : Result D E). IfOk r (λ b. R y b)) result h)

pub jobs_count : {D E : Type 0} (jobs : ℕ) (done : List D) (results : List (Result D E)) → map Ok done ≡ results → length results ≡ jobs → length done ≡ jobs
jobs_count jobs done results ok len = sym (map_count Ok done) ∙ ap length ok ∙ len

-- what the crews of all nodes did, each as it ought to, is the run
pub have_worked : {B K D V : Type 0} (tried given faults : B → ℕ) (place : K → ℕ) (passes : K → V) (first second : K → B) (passes' : D → V) (failed : D → Bool)
    (first' second' : D → B) (items : V → List PassState) (plan : LivePlan) (locks : List LockState) (all all' : List V) (bearers bearers' : List B)
    (crews : List K) (done : List D) (seen : Bool) (count clocks : ℕ)
    → CanWork plan locks (map items all) count clocks → map passes crews ≡ all
    → map place crews ≡ range_with_len 0 (length all) → bearers_of (map (λ c. (first c, second c)) crews) ≡ bearers
    → length done ≡ length crews
    → ((i : ℕ) (x : K) (a : D) → i < length crews → HasWorkedAt tried given faults plan locks (place (slice_index_or crews i x)) (first (slice_index_or crews i x))
    (second (slice_index_or crews i x)) (items (passes' (slice_index_or done i a))) (failed (slice_index_or done i a)) (first' (slice_index_or done i a)) (second' (slice_index_or done i a)))
    → all' ≡ map passes' done → bearers' ≡ bearers_of (map (λ c. (first' c, second' c)) done) → seen ≡ list_any failed done
    → HaveWorked tried given faults plan locks bearers (map items all') seen bearers'
have_worked {B} {K} {D} tried given faults place passes first second passes' failed first' second' items plan locks all all' bearers bearers' crews done seen count clocks
    can whose places pairs len each whose' pairs' seen_is = record {
      pass_count = map_count items all' ∙ ap length whose' ∙ map_count passes' done ∙ nodes';
      bearer_count = ap length pairs' ∙ length_bearers (map (λ c. (first' c, second' c)) done) ∙ ap (λ k. 2 * k) (map_count {Y = B × B} (λ c. (first' c, second' c)) done ∙ nodes');
      each = λ i l b ps inside. at i l b ps inside (pick crews i (omega (arith, inside, nodes))) (pick done i (omega (arith, inside, nodes')));
      rose = λ failing b. rises b (any_found failed done (sym seen_is ∙ failing));
    }
  where
    nodes : length crews ≡ plan.nodes
    nodes = sym (map_count passes crews) ∙ ap length whose ∙ sym (map_count items all) ∙ can.pass_count

    nodes' : length done ≡ plan.nodes
    nodes' = len ∙ nodes

    numbered : map place crews ≡ range_with_len 0 plan.nodes
    numbered = places ∙ ap (λ n. range_with_len 0 n) (sym (map_count items all) ∙ can.pass_count)

    worked : (i : ℕ) (x : K) (a : D) → i < plan.nodes → x ≡ slice_index_or crews i x → a ≡ slice_index_or done i a
        → HasWorkedAt tried given faults plan locks (place x) (first x) (second x) (items (passes' a)) (failed a) (first' a) (second' a)
    worked i x a inside is is' =
        subst (λ (t : K × D). HasWorkedAt tried given faults plan locks (place t.0) (first t.0) (second t.0) (items (passes' t.1)) (failed t.1) (first' t.1) (second' t.1))
        (λ j. (sym is j, sym is' j)) (each i x a (omega (arith, inside, nodes)))

    first_at : (i : ℕ) (b : B) (x : K) → i < plan.nodes → x ≡ slice_index_or crews i x → slice_index_or bearers (2 * i) b ≡ first x
    first_at i b x inside is =
        ap (λ bs. slice_index_or bs (2 * i) b) (sym pairs)
        ∙ bearer_first (map (λ c. (first c, second c)) crews) i b (b, b) (let same = map_count {Y = B × B} (λ c. (first c, second c)) crews in omega (arith, inside, nodes, same))
        ∙ ap (λ (t : B × B). t.0) (get_or-map (λ c. (first c, second c)) crews i x (b, b) (omega (arith, inside, nodes)) ∙ ap (λ c. (first c, second c)) (sym is))

    second_at : (i : ℕ) (b : B) (x : K) → i < plan.nodes → x ≡ slice_index_or crews i x → slice_index_or bearers (2 * i + 1) b ≡ second x
    second_at i b x inside is =
        ap (λ bs. slice_index_or bs (2 * i + 1) b) (sym pairs)
        ∙ bearer_second (map (λ c. (first c, second c)) crews) i b (b, b) (let same = map_count {Y = B × B} (λ c. (first c, second c)) crews in omega (arith, inside, nodes, same))
        ∙ ap (λ (t : B × B). t.1) (get_or-map (λ c. (first c, second c)) crews i x (b, b) (omega (arith, inside, nodes)) ∙ ap (λ c. (first c, second c)) (sym is))

    first_at' : (i : ℕ) (b : B) (a : D) → i < plan.nodes → a ≡ slice_index_or done i a → slice_index_or bearers' (2 * i) b ≡ first' a
    first_at' i b a inside is =
        ap (λ bs. slice_index_or bs (2 * i) b) pairs'
        ∙ bearer_first (map (λ c. (first' c, second' c)) done) i b (b, b) (let same = map_count {Y = B × B} (λ c. (first' c, second' c)) done in omega (arith, inside, nodes', same))
        ∙ ap (λ (t : B × B). t.0) (get_or-map (λ c. (first' c, second' c)) done i a (b, b) (omega (arith, inside, nodes')) ∙ ap (λ c. (first' c, second' c)) (sym is))

    second_at' : (i : ℕ) (b : B) (a : D) → i < plan.nodes → a ≡ slice_index_or done i a → slice_index_or bearers' (2 * i + 1) b ≡ second' a
    second_at' i b a inside is =
        ap (λ bs. slice_index_or bs (2 * i + 1) b) pairs'
        ∙ bearer_second (map (λ c. (first' c, second' c)) done) i b (b, b) (let same = map_count {Y = B × B} (λ c. (first' c, second' c)) done in omega (arith, inside, nodes', same))
        ∙ ap (λ (t : B × B). t.1) (get_or-map (λ c. (first' c, second' c)) done i a (b, b) (omega (arith, inside, nodes')) ∙ ap (λ c. (first' c, second' c)) (sym is))

    passes_at : (i : ℕ) (ps : List PassState) (a : D) → i < plan.nodes → a ≡ slice_index_or done i a → slice_index_or (map items all') i ps ≡ items (passes' a)
    passes_at i ps a inside is =
        ap (λ vs. slice_index_or (map items vs) i ps) whose'
        ∙ get_or-map items (map passes' done) i (passes' a) ps (let same = map_count passes' done in omega (arith, inside, nodes', same))
        ∙ ap items (get_or-map passes' done i a (passes' a) (omega (arith, inside, nodes')) ∙ ap passes' (sym is))

    at : (i : ℕ) (l : LockState) (b : B) (ps : List PassState) → i < plan.nodes → (x : K) × (x ≡ slice_index_or crews i x) → (a : D) × (a ≡ slice_index_or done i a)
        → (s : Bool) × HasWorked tried given faults plan (i + 1) (slice_index_or locks i l) (slice_index_or bearers (2 * i) b) (slice_index_or bearers (2 * i + 1) b)
        (slice_index_or (map items all') i ps) s (slice_index_or bearers' (2 * i) b) (slice_index_or bearers' (2 * i + 1) b)
    at i l b ps inside (x, is) (a, is') = (
      failed a,
      subst (λ (t : ℕ × B × B × List PassState × B × B). HasWorked tried given faults plan (t.0 + 1) (slice_index_or locks t.0 l) t.1 t.2 t.3 (failed a) t.4 t.5)
          (λ j. (
            place_is place crews plan.nodes i x numbered nodes inside is j,
            sym (first_at i b x inside is) j,
            sym (second_at i b x inside is) j,
            sym (passes_at i ps a inside is') j,
            sym (first_at' i b a inside is') j,
            sym (second_at' i b a inside is') j,
          ))
          (worked i x a inside is is' l),
    )

    rises : (b : B) → (i : ℕ) × (a : D) × (i < length done) × (a ≡ slice_index_or done i a) × (failed a ≡ true)
        → (k : ℕ) × (k < 2 * plan.nodes) × Rose (faults (slice_index_or bearers k b)) (faults (slice_index_or bearers' k b))
    rises b (i, a, within, is', failing) = from (pick crews i (omega (arith, inside, nodes)))
      where
        inside : i < plan.nodes
        inside = omega (arith, within, nodes')

        from : (x : K) × (x ≡ slice_index_or crews i x) → (k : ℕ) × (k < 2 * plan.nodes) × Rose (faults (slice_index_or bearers k b)) (faults (slice_index_or bearers' k b))
        from (x, is) = with_lock (pick locks i (let l = can.lock_count in omega (arith, inside, l)))
          where
            by : Rose (faults (first x)) (faults (first' a)) ⊎ Rose (faults (second x)) (faults (second' a))
                → (k : ℕ) × (k < 2 * plan.nodes) × Rose (faults (slice_index_or bearers k b)) (faults (slice_index_or bearers' k b))
            by (inl rose) = (
              2 * i,
              omega (arith, inside),
              subst (λ (t : B × B). Rose (faults t.0) (faults t.1)) (λ j. (sym (first_at i b x inside is) j, sym (first_at' i b a inside is') j)) rose,
            )
            by (inr rose) = (
              2 * i + 1,
              omega (arith, inside),
              subst (λ (t : B × B). Rose (faults t.0) (faults t.1)) (λ j. (sym (second_at i b x inside is) j, sym (second_at' i b a inside is') j)) rose,
            )

            with_pass : (l : LockState) → HasWorked tried given faults plan (place x + 1) l (first x) (second x) (items (passes' a)) (failed a) (first' a) (second' a)
                → (p : PassState) × (p ≡ slice_index_or (items (passes' a)) 0 p) → (k : ℕ) × (k < 2 * plan.nodes) × Rose (faults (slice_index_or bearers k b)) (faults (slice_index_or bearers' k b))
            with_pass l h (p, stands) = by ((h.moved p).told.rose failing)

            with_lock : (l : LockState) × (l ≡ slice_index_or locks i l) → (k : ℕ) × (k < 2 * plan.nodes) × Rose (faults (slice_index_or bearers k b)) (faults (slice_index_or bearers' k b))
            with_lock (l, stands) =
                let h = worked i x a inside is is' l in
                with_pass (slice_index_or locks (place x) l) h (pick (items (passes' a)) 0 (let many = h.count in omega (arith, many)))

-- ---- one node

-- the caller that a pass is unused of is its own
pub own_caller : (l : LockState) (k : ℕ) (p q : PassState) → IsUnusedPass l k q → p ≡ q → IsUnusedPass l p.caller p × (p.caller ≡ k)
own_caller l k p q unused is = by (subst (λ (x : PassState). IsUnusedPass l k x) (sym is) unused)
  where
    by : IsUnusedPass l k p → IsUnusedPass l p.caller p × (p.caller ≡ k)
    by u = (record { pass = u.pass; caller = refl; made = u.made; drawn = u.drawn; handed = u.handed }, u.caller)

-- each caller did its part, as the job that it was
pub all_called : (plan : LivePlan) (node : ℕ) (l : LockState) (passes after : List PassState) (called : List (Result PassState NoMemory)) → AreCallers l passes
    → ((i : ℕ) (r : Result PassState NoMemory) → i < length passes
    → (p : PassState) × (((d : PassState) → slice_index_or passes i d ≡ p)) × IfOk (slice_index_or called i r) (λ a. HasCalled plan node p.caller l a))
    → map Ok after ≡ called → length called ≡ length passes → HaveCalled plan node l (length passes) after
all_called plan node l passes after called unused each ok len = record {
  same = jobs_count (length passes) after called ok len;
  each = λ i d within.
      subst (λ k. HasCalled plan node k l (slice_index_or after i d)) ((unused i d within).caller)
      (jobs_done (λ (p a : PassState). HasCalled plan node p.caller l a) passes after called ok len each i d d within);
}

-- the callers of a node are ready for their calls
pub callers_ready : (l : LockState) (passes : List PassState) → AreCallers l passes → length passes ≤ 8
    → (i : ℕ) (x : PassState) → i < length passes → x ≡ slice_index_or passes i x → IsUnusedPass l x.caller x × (x.caller ≤ 8)
callers_ready l passes unused few i x within is = by (own_caller l (i + 1) x (slice_index_or passes i x) (unused i x within) is)
  where
    by : IsUnusedPass l x.caller x × (x.caller ≡ i + 1) → IsUnusedPass l x.caller x × (x.caller ≤ 8)
    by (own, number) = (own, omega (arith, number, within, few))

-- the callers' passes of a node, and its mover's
callers_unused : (plan : LivePlan) (l : LockState) (passes front : List PassState) (mover : PassState) → AreUnusedPasses plan l passes → passes ≡ front ++ mover ∷ []
    → (length front ≡ plan.callers) × AreCallers l front × IsUnusedPass l (plan.callers + 1) mover
callers_unused plan l passes front mover unused parts = (
  count,
  λ i p within.
      subst (λ q. IsUnusedPass l (i + 1) q) (ap (λ ps. slice_index_or ps i p) parts ∙ get_or_append_left front (mover ∷ []) p i within)
      (unused.each i p (omega (arith, within, whole))),
  subst (λ (t : ℕ × PassState). IsUnusedPass l (t.0 + 1) t.1) (λ j. (count j, at j)) (unused.each (length front) mover (omega (arith, whole))),
)
  where
    whole : length passes ≡ length front + 1
    whole = ap length parts ∙ length-append front (mover ∷ [])

    count : length front ≡ plan.callers
    count = let all = unused.count in omega (arith, whole, all)

    at : slice_index_or passes (length front) mover ≡ mover
    at = ap (λ ps. slice_index_or ps (length front) mover) parts ∙ get_or_push front mover mover (length front) refl

-- what a node's callers and mover did
has_worked : {B : Type 0} (tried given faults : B → ℕ) (plan : LivePlan) (node : ℕ) (l : LockState) (called after : List PassState) (mover pass : PassState)
    (first second first' second' : B) (failed : Bool) → HaveCalled plan node l plan.callers called → IsUnusedPass l (plan.callers + 1) mover
    → HasMoved tried given faults l mover.caller first second pass failed first' second' → after ≡ called ++ pass ∷ []
    → HasWorked tried given faults plan node l first second after failed first' second'
has_worked tried given faults plan node l called after mover pass first second first' second' failed h unused moved parts = record {
  count = ap length parts ∙ length-append called (pass ∷ []) ∙ ap (λ n. n + 1) h.same;
  called = λ i p within.
      subst (λ q. HasCalled plan node (i + 1) l q) (sym (ap (λ ps. slice_index_or ps i p) parts ∙ get_or_append_left called (pass ∷ []) p i (let same = h.same in omega (arith, within, same))))
      (h.each i p within);
  moved = λ p.
      subst (λ (t : ℕ × PassState). HasMoved tried given faults l t.0 first second t.1 failed first' second')
      (λ j. (unused.caller j, sym (ap (λ ps. slice_index_or ps plan.callers p) parts ∙ get_or_push called pass p plan.callers h.same) j)) moved;
}

-- the last pass of a node, which is its mover's, was taken away: the callers' can be called with, and the mover can
-- move
pub join_ready : (plan : LivePlan) (l : LockState) (passes front : List PassState) (last : Option PassState) (mover : PassState) → IsLivePlan plan → AreUnusedPasses plan l passes
    → passes ≡ front ++ option_to_list last → last ≡ Some mover → (AreCallers l front × (length front ≡ plan.callers) × (length front ≤ 8)) × IsUnusedPass l mover.caller mover
join_ready plan l passes front last mover live unused parts is =
    by (callers_unused plan l passes front mover unused (parts ∙ ap (λ (o : Option PassState). front ++ option_to_list o) is))
  where
    by : (length front ≡ plan.callers) × AreCallers l front × IsUnusedPass l (plan.callers + 1) mover
        → (AreCallers l front × (length front ≡ plan.callers) × (length front ≤ 8)) × IsUnusedPass l mover.caller mover
    by (count, callers, own) = ((callers, count, let most = live.callers.1 in omega (arith, count, most)), (own_caller l (plan.callers + 1) mover mover own refl).0)

pub work_done : {B : Type 0} (tried given faults : B → ℕ) (plan : LivePlan) (node : ℕ) (l : LockState) (passes front called after : List PassState) (last : Option PassState)
    (mover pass : PassState) (first second first' second' : B) (failed : Bool) → AreUnusedPasses plan l passes → passes ≡ front ++ option_to_list last → last ≡ Some mover
    → HaveCalled plan node l plan.callers called → HasMoved tried given faults l mover.caller first second pass failed first' second' → after ≡ called ++ pass ∷ []
    → HasWorked tried given faults plan node l first second after failed first' second'
work_done tried given faults plan node l passes front called after last mover pass first second first' second' failed unused parts is h moved whole =
    by (callers_unused plan l passes front mover unused (parts ∙ ap (λ (o : Option PassState). front ++ option_to_list o) is))
  where
    by : (length front ≡ plan.callers) × AreCallers l front × IsUnusedPass l (plan.callers + 1) mover → HasWorked tried given faults plan node l first second after failed first' second'
    by (count, callers, own) = has_worked tried given faults plan node l called after mover pass first second first' second' failed h own moved whole

-- the post of a crew is that of its place
pub post_ready : (plan plan' : LivePlan) (locks : List LockState) (place node : ℕ) (lock : LockState) (passes : List PassState) → CanWorkAt plan locks place passes
    → (plan' ≡ plan) × (node ≡ place + 1) → ((l : LockState) → lock ≡ slice_index_or locks place l) → AreUnusedPasses plan' lock passes
post_ready plan plan' locks place node lock passes can is at =
    subst (λ (t : LivePlan × LockState). AreUnusedPasses t.0 t.1 passes) (λ j. (sym is.0 j, sym (at lock) j)) (can.unused lock)

pub worked_at : {B : Type 0} (tried given faults : B → ℕ) (plan plan' : LivePlan) (locks : List LockState) (place node : ℕ) (lock : LockState)
    (first second first' second' : B) (passes : List PassState) (failed : Bool) → (plan' ≡ plan) × (node ≡ place + 1)
    → ((l : LockState) → lock ≡ slice_index_or locks place l) → HasWorked tried given faults plan' node lock first second passes failed first' second'
    → HasWorkedAt tried given faults plan locks place first second passes failed first' second'
worked_at tried given faults plan plan' locks place node lock first second first' second' passes failed is at worked l =
    subst (λ (t : LivePlan × ℕ × LockState). HasWorked tried given faults t.0 t.1 t.2 first second passes failed first' second') (λ j. (is.0 j, is.1 j, at l j)) worked

-- ---- one more, in loops

pub ok_more : {T E : Type 0} (xs : List T) (rs : List (Result T E)) (x : T) (r : Result T E) → map Ok xs ≡ rs → r ≡ Ok x → map Ok (xs ++ x ∷ []) ≡ rs ++ r ∷ []
ok_more xs rs x r is one = map-append Ok xs (x ∷ []) ∙ ap (λ zs. zs ++ Ok x ∷ []) is ∙ ap (λ q. rs ++ q ∷ []) (sym one)

pub map_push : {X Y : Type 0} (f : X → Y) (xs : List X) (ys : List Y) (x : X) → ys ≡ map f xs → ys ++ f x ∷ [] ≡ map f (xs ++ x ∷ [])
map_push f xs ys x is = ap (λ zs. zs ++ f x ∷ []) is ∙ sym (map-append f xs (x ∷ []))

pub bearers_push : {K B : Type 0} (first second : K → B) (xs : List K) (bs : List B) (x : K) → bs ≡ bearers_of (map (λ c. (first c, second c)) xs)
    → (bs ++ first x ∷ []) ++ second x ∷ [] ≡ bearers_of (map (λ c. (first c, second c)) (xs ++ x ∷ []))
bearers_push first second xs bs x is =
    append_assoc bs (first x ∷ []) (second x ∷ [])
    ∙ ap (λ zs. zs ++ first x ∷ second x ∷ []) is
    ∙ sym (bearers_more (map (λ c. (first c, second c)) xs) (first x) (second x))
    ∙ ap bearers_of (sym (map-append (λ c. (first c, second c)) xs (x ∷ [])))

any_push : {X : Type 0} (test : X → Bool) (xs : List X) (b : Bool) (x : X) → b ≡ list_any test xs → (b || test x) ≡ list_any test (xs ++ x ∷ [])
any_push test xs b x is = ap (λ (z : Bool). z || test x) is ∙ sym (list_any-append test xs (x ∷ []) ∙ ap (λ (z : Bool). list_any test xs || z) (or_false (test x)))
  where
    or_false : (z : Bool) → (z || false) ≡ z
    or_false true = refl
    or_false false = refl

-- what waits in front of the others is taken
front_more : {K V : Type 0} (f : K → V) (xs : List K) (x : K) (waiting waiting' all : List V) → map f xs ++ waiting ≡ all → waiting ≡ f x ∷ waiting'
    → map f (xs ++ x ∷ []) ++ waiting' ≡ all
front_more f xs x waiting waiting' all is front =
    ap (λ zs. zs ++ waiting') (map-append f xs (x ∷ [])) ∙ append_assoc (map f xs) (f x ∷ []) waiting' ∙ ap (λ zs. map f xs ++ zs) (sym front) ∙ is

bearers_front : {K B : Type 0} (first second : K → B) (xs : List K) (x : K) (bs cs ds all : List B) → bearers_of (map (λ c. (first c, second c)) xs) ++ bs ≡ all
    → bs ≡ first x ∷ cs → cs ≡ second x ∷ ds → bearers_of (map (λ c. (first c, second c)) (xs ++ x ∷ [])) ++ ds ≡ all
bearers_front first second xs x bs cs ds all is front next =
    ap (λ zs. zs ++ ds) (sym (bearers_push first second xs (bearers_of (map (λ c. (first c, second c)) xs)) x refl))
    ∙ append_assoc (bearers_of (map (λ c. (first c, second c)) xs) ++ first x ∷ []) (second x ∷ []) ds
    ∙ append_assoc (bearers_of (map (λ c. (first c, second c)) xs)) (first x ∷ []) (second x ∷ ds)
    ∙ ap (λ zs. bearers_of (map (λ c. (first c, second c)) xs) ++ zs) (sym (front ∙ ap (λ zs. first x ∷ zs) next))
    ∙ is

range_push : (a n : ℕ) → range_with_len a (n + 1) ≡ range_with_len a n ++ (a + n) ∷ []
range_push a zero = let at : a ≡ a + 0 = omega arith in ap (λ k. k ∷ []) at
range_push a (suc n) =
    let at : a + 1 + n ≡ a + suc n = omega arith in
    let more : suc n + 1 ≡ suc (n + 1) = omega arith in
    ap (λ m. range_with_len a m) more ∙ ap (λ ks. a ∷ ks) (range_push (a + 1) n) ∙ ap (λ k. (a ∷ range_with_len (a + 1) n) ++ k ∷ []) at

places_push : {K : Type 0} (place : K → ℕ) (xs : List K) (x : K) → map place xs ≡ range_with_len 0 (length xs) → place x ≡ length xs
    → map place (xs ++ x ∷ []) ≡ range_with_len 0 (length (xs ++ x ∷ []))
places_push place xs x is at =
    let one : length (xs ++ x ∷ []) ≡ length xs + 1 = length-append xs (x ∷ []) in
    let number : place x ≡ 0 + length xs = omega (arith, at) in
    map-append place xs (x ∷ [])
    ∙ ap (λ zs. zs ++ place x ∷ []) is
    ∙ ap (λ k. range_with_len 0 (length xs) ++ k ∷ []) number
    ∙ sym (range_push 0 (length xs))
    ∙ ap (λ n. range_with_len 0 n) (sym one)

-- a crew more, of what stands in front of the lists
pub crews_more : {K B V : Type 0} (passes : K → V) (first second : K → B) (place : K → ℕ) (crews crews' : List K) (crew : K) (waiting waiting' all : List V)
    (bs cs ds bearers : List B) → crews' ≡ crews ++ crew ∷ [] → map passes crews ++ waiting ≡ all → bearers_of (map (λ c. (first c, second c)) crews) ++ bs ≡ bearers
    → map place crews ≡ range_with_len 0 (length crews) → waiting ≡ passes crew ∷ waiting' → bs ≡ first crew ∷ cs → cs ≡ second crew ∷ ds → place crew ≡ length crews
    → (map passes crews' ++ waiting' ≡ all) × (bearers_of (map (λ c. (first c, second c)) crews') ++ ds ≡ bearers) × (map place crews' ≡ range_with_len 0 (length crews'))
crews_more passes first second place crews crews' crew waiting waiting' all bs cs ds bearers is whose pairs places front one two at = (
  ap (λ ks. map passes ks ++ waiting') is ∙ front_more passes crews crew waiting waiting' all whose front,
  ap (λ ks. bearers_of (map (λ c. (first c, second c)) ks) ++ ds) is ∙ bearers_front first second crews crew bs cs ds bearers pairs one two,
  ap (map place) is ∙ places_push place crews crew places at ∙ ap (λ ks. range_with_len 0 (length ks)) (sym is),
)

-- one that failed before, and one that fails now or not
pub any_kept : {X : Type 0} (test : X → Bool) (xs : List X) (b : Bool) (x : X) → b ≡ list_any test xs → b ≡ true → b ≡ list_any test (xs ++ x ∷ [])
any_kept test xs b x is on = on ∙ sym (ap (λ (z : Bool). z || test x) on) ∙ any_push test xs b x is

pub any_now : {X : Type 0} (test : X → Bool) (xs : List X) (b : Bool) (x : X) → b ≡ list_any test xs → b ≡ false → test x ≡ list_any test (xs ++ x ∷ [])
any_now test xs b x is off = sym (ap (λ (z : Bool). z || test x) off) ∙ any_push test xs b x is
