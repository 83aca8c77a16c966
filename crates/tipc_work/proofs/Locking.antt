-- The locks and passes that are made for a plan are those that a run asks for.
use Rattle.std.specs.List.{All, range_with_len}
use Rattle.std.specs.Prelude.{Option, Some, option_to_list}
use Rattle.std.proofs.Common.{◌≡◌, ℕ, zero, suc, ◌+◌, ◌*◌, ◌<◌, ◌≤◌, arith, List, [], ◌∷◌, ◌++◌, length, map, replicate, slice_index_or, refl, sym, subst, ◌∙◌, ap}
use Rattle.std.proofs.lemmas.List.{length-replicate, map-append, replicate_more}
use Rattle.std.proofs.lemmas.List.Elements.{All-head, All-map, All-replicate, All-same, All-tail}
use Rattle.std.proofs.lemmas.List.FromFn.{get_or-map-range_with_len, length-map-range_with_len, map-range_with_len_more}
use Rattle.std.proofs.lemmas.Nat.{mul-le}
use Rattle.atomic_table.specs.Seated.{TableId}
use Rattle.tipc_pick.specs.declared.chooser.Chooser.{Chooser}
use Rattle.tipc_stamp.specs.Seats.{SeatState, new_seat}
use Rattle.tipc_types.specs.Address.{node_word}
use Rattle.tipc_node_lock.specs.Locks.{LockState}
use Rattle.tipc_node_lock.specs.Passes.{PassState, new_pass, passes_from}
use Rattle.tipc_work.specs.declared.plans.LivePlan.{LivePlan}
use Rattle.tipc_work.specs.Plans.{IsLivePlan}
use Rattle.tipc_work.specs.Shown.{IsUnusedPass}
use Rattle.tipc_work.specs.Worked.{AreUnusedPasses, CanWork}

-- the lock of the node at a place, and its passes
abbrev pub lock_at : LivePlan → TableId → ℕ → LockState
lock_at plan table i = record { own = node_word (i + 1); of_table = table; callers = plan.callers + 1 }

abbrev pub passes_at : LivePlan → TableId → ℕ → List PassState
passes_at plan table i = passes_from (node_word (i + 1)) 1 (replicate (plan.callers + 1) (new_seat table))

-- what stands among the passes of several seats
pass_from : (own caller n i : ℕ) (seat : SeatState) (p : PassState) → i < n → slice_index_or (passes_from own caller (replicate n seat)) i p ≡ new_pass own (caller + i) seat
pass_from own caller zero i seat p within = absurd (omega (arith, within))
pass_from own caller (suc n) zero seat p within = let at : caller ≡ caller + 0 = omega arith in ap (λ k. new_pass own k seat) at
pass_from own caller (suc n) (suc i) seat p within =
    let at : caller + 1 + i ≡ caller + suc i = omega arith in
    pass_from own (caller + 1) n i seat p (omega (arith, within)) ∙ ap (λ k. new_pass own k seat) at

length_from : (own caller n : ℕ) (seat : SeatState) → length (passes_from own caller (replicate n seat)) ≡ n
length_from own caller zero seat = refl
length_from own caller (suc n) seat = ap suc (length_from own (caller + 1) n seat)

-- none of them was used
new_unused : (l : LockState) (table : TableId) (caller : ℕ) (p : PassState) → l.of_table ≡ table → p ≡ new_pass l.own caller (new_seat table) → IsUnusedPass l caller p
new_unused l table caller p same is = record {
  pass = (ap (λ (q : PassState). q.seat.of_table) is ∙ sym same, ap (λ (q : PassState). q.own) is);
  caller = ap (λ (q : PassState). q.caller) is;
  made = ap (λ (q : PassState). q.made) is;
  drawn = ap (λ (q : PassState). q.seat.drawn) is;
  handed = ap (λ (q : PassState). q.handed) is;
}

at_unused : (plan : LivePlan) (table : TableId) (k : ℕ) → AreUnusedPasses plan (lock_at plan table k) (passes_at plan table k)
at_unused plan table k = record {
  count = length_from (node_word (k + 1)) 1 (plan.callers + 1) (new_seat table);
  each = λ i p within.
      let all = length_from (node_word (k + 1)) 1 (plan.callers + 1) (new_seat table) in
      let at : 1 + i ≡ i + 1 = omega arith in
      new_unused (lock_at plan table k) table (i + 1) (slice_index_or (passes_at plan table k) i p) refl
      (pass_from (node_word (k + 1)) 1 (plan.callers + 1) i (new_seat table) p (omega (arith, within, all)) ∙ ap (λ c. new_pass (node_word (k + 1)) c (new_seat table)) at);
}

-- the locks and passes of all nodes of a plan
can_work : (plan : LivePlan) (table : TableId) (locks : List LockState) (passes : List (List PassState)) → IsLivePlan plan
    → locks ≡ map (lock_at plan table) (range_with_len 0 plan.nodes) → passes ≡ map (passes_at plan table) (range_with_len 0 plan.nodes)
    → CanWork plan locks passes (2 * plan.nodes) plan.nodes
can_work plan table locks passes live locks_are passes_are = record {
  live = live;
  lock_count = ap length locks_are ∙ length-map-range_with_len (lock_at plan table) 0 plan.nodes;
  pass_count = ap length passes_are ∙ length-map-range_with_len (passes_at plan table) 0 plan.nodes;
  bearer_count = refl;
  clock_count = refl;
  own = λ i l within. ap (λ (k : LockState). k.own) (at_lock i l within);
  unused = λ i l ps within.
      subst (λ (t : LockState × List PassState). AreUnusedPasses plan t.0 t.1) (λ j. (sym (at_lock i l within) j, sym (at_passes i ps within) j)) (at_unused plan table i);
}
  where
    at_lock : (i : ℕ) (l : LockState) → i < plan.nodes → slice_index_or locks i l ≡ lock_at plan table i
    at_lock i l within = ap (λ ls. slice_index_or ls i l) locks_are ∙ get_or-map-range_with_len (lock_at plan table) 0 plan.nodes i i l within (omega arith)

    at_passes : (i : ℕ) (ps : List PassState) → i < plan.nodes → slice_index_or passes i ps ≡ passes_at plan table i
    at_passes i ps within = ap (λ ls. slice_index_or ls i ps) passes_are ∙ get_or-map-range_with_len (passes_at plan table) 0 plan.nodes i i ps within (omega arith)

-- ---- seat by seat

-- what stands in front of the seats that wait, which are all alike
front_is : (seats others : List SeatState) (seat one : SeatState) → seats ≡ replicate (length seats) one → seats ≡ seat ∷ others
    → (seat ≡ one) × (others ≡ replicate (length others) one)
front_is seats others seat one all parts =
    by (sym parts ∙ all ∙ ap (λ (xs : List SeatState). replicate (length xs) one) parts)
  where
    first : List SeatState → SeatState
    first [] = one
    first (x ∷ xs) = x

    rest : List SeatState → List SeatState
    rest [] = []
    rest (x ∷ xs) = xs

    by : seat ∷ others ≡ one ∷ replicate (length others) one → (seat ≡ one) × (others ≡ replicate (length others) one)
    by is = (ap first is, ap rest is)

-- a seat that is taken in front is one of them, and so are the others
pub seat_is : (seats others : List SeatState) (taken : Option SeatState) (seat one : SeatState) → seats ≡ replicate (length seats) one
    → seats ≡ option_to_list taken ++ others → taken ≡ Some seat → seat ≡ one
seat_is seats others taken seat one all parts is =
    (front_is seats others seat one all (parts ∙ ap (λ (o : Option SeatState). option_to_list o ++ others) is)).0

pub others_are : (seats others : List SeatState) (taken : Option SeatState) (seat one : SeatState) → seats ≡ replicate (length seats) one
    → seats ≡ option_to_list taken ++ others → taken ≡ Some seat → others ≡ replicate (length others) one
others_are seats others taken seat one all parts is =
    (front_is seats others seat one all (parts ∙ ap (λ (o : Option SeatState). option_to_list o ++ others) is)).1

pub seats_more : (seats : List SeatState) (count : ℕ) (seat one : SeatState) → seats ≡ replicate count one → seat ≡ one
    → seats ++ seat ∷ [] ≡ replicate (count + 1) one
seats_more seats count seat one are is =
    ap (λ (xs : List SeatState). xs ++ seat ∷ []) are ∙ ap (λ (x : SeatState). replicate count one ++ x ∷ []) is ∙ replicate_more count one

-- the seats of one node fit it
pub seats_fit : (seats : List SeatState) (count : ℕ) (table : TableId) → seats ≡ replicate count (new_seat table) → All (λ (s : SeatState). s.of_table ≡ table) seats
seats_fit seats count table are =
    subst (λ (xs : List SeatState). All (λ (s : SeatState). s.of_table ≡ table) xs) (sym are) (All-replicate (λ (s : SeatState). s.of_table ≡ table) count (new_seat table) refl)

pub seats_count : (seats : List SeatState) (count : ℕ) (one : SeatState) → seats ≡ replicate count one → length seats ≡ count
seats_count seats count one are = ap length are ∙ length-replicate count one

-- while a node is left, enough seats wait for it
pub seats_wait : (waiting node nodes each : ℕ) → waiting + node * each ≡ nodes * each → node < nodes → each ≤ waiting
seats_wait waiting node nodes each all more = let room = mul-le (node + 1) each nodes each (omega (arith, more)) (omega arith) in omega (arith, all, room)

-- a chooser that is taken in front is at turn 0, and so are the others
pub turn_is : {P : Type 0} (choosers others : List (Chooser P)) (taken : Option (Chooser P)) (one : Chooser P) → All (λ (c : Chooser P). c.turn ≡ 0) choosers
    → choosers ≡ option_to_list taken ++ others → taken ≡ Some one → one.turn ≡ 0
turn_is {P} choosers others taken one all parts is =
    All-head (λ (c : Chooser P). c.turn ≡ 0) one others
    (All-same (λ (c : Chooser P). c.turn ≡ 0) (one ∷ others) choosers (sym (parts ∙ ap (λ (o : Option (Chooser P)). option_to_list o ++ others) is)) all)

pub turns_are : {P : Type 0} (choosers others : List (Chooser P)) (taken : Option (Chooser P)) (one : Chooser P) → All (λ (c : Chooser P). c.turn ≡ 0) choosers
    → choosers ≡ option_to_list taken ++ others → taken ≡ Some one → All (λ (c : Chooser P). c.turn ≡ 0) others
turns_are {P} choosers others taken one all parts is =
    All-tail (λ (c : Chooser P). c.turn ≡ 0) one others
    (All-same (λ (c : Chooser P). c.turn ≡ 0) (one ∷ others) choosers (sym (parts ∙ ap (λ (o : Option (Chooser P)). option_to_list o ++ others) is)) all)

-- ---- node by node

-- one node more
pub locks_more : (plan : LivePlan) (table : TableId) (locks : List LockState) (lock : LockState) (node : ℕ) → locks ≡ map (lock_at plan table) (range_with_len 0 node)
    → lock ≡ lock_at plan table node → locks ++ lock ∷ [] ≡ map (lock_at plan table) (range_with_len 0 (node + 1))
locks_more plan table locks lock node are is =
    ap (λ (ls : List LockState). ls ++ lock ∷ []) are ∙ ap (λ (l : LockState). map (lock_at plan table) (range_with_len 0 node) ++ l ∷ []) is
    ∙ sym (map-range_with_len_more (lock_at plan table) 0 node node (omega arith))

-- the lock that was made is that of its node
pub lock_is : (plan : LivePlan) (table : TableId) (node own callers : ℕ) (lock : LockState) → lock ≡ record { own = own; of_table = table; callers = callers }
    → own ≡ node_word (node + 1) → callers ≡ plan.callers + 1 → lock ≡ lock_at plan table node
lock_is plan table node own callers lock is address number = is ∙ (λ j. record { own = address j; of_table = table; callers = number j })

pub passes_more : {V : Type 0} (items : V → List PassState) (plan : LivePlan) (table : TableId) (passes : List V) (its : V) (seats : List SeatState) (own node count : ℕ)
    → map items passes ≡ map (passes_at plan table) (range_with_len 0 node) → items its ≡ passes_from own 1 seats → own ≡ node_word (node + 1)
    → seats ≡ replicate count (new_seat table) → count ≡ plan.callers + 1
    → map items (passes ++ its ∷ []) ≡ map (passes_at plan table) (range_with_len 0 (node + 1))
passes_more items plan table passes its seats own node count are is address new number =
    map-append items passes (its ∷ [])
    ∙ ap (λ (ps : List (List PassState)). ps ++ items its ∷ []) are
    ∙ ap (λ (ps : List PassState). map (passes_at plan table) (range_with_len 0 node) ++ ps ∷ []) here
    ∙ sym (map-range_with_len_more (passes_at plan table) 0 node node (omega arith))
  where
    here : items its ≡ passes_at plan table node
    here =
        is
        ∙ ap (λ (word : ℕ). passes_from word 1 seats) address
        ∙ ap (λ (ss : List SeatState). passes_from (node_word (node + 1)) 1 ss) (new ∙ ap (λ (n : ℕ). replicate n (new_seat table)) number)

-- all of them
pub nodes_done : (plan : LivePlan) (table : TableId) (locks : List LockState) (passes : List (List PassState)) (node : ℕ) → IsLivePlan plan
    → locks ≡ map (lock_at plan table) (range_with_len 0 node) → passes ≡ map (passes_at plan table) (range_with_len 0 node) → node ≡ plan.nodes
    → CanWork plan locks passes (2 * plan.nodes) plan.nodes
nodes_done plan table locks passes node live locks_are passes_are all =
    can_work plan table locks passes live
    (locks_are ∙ ap (λ (n : ℕ). map (lock_at plan table) (range_with_len 0 n)) all)
    (passes_are ∙ ap (λ (n : ℕ). map (passes_at plan table) (range_with_len 0 n)) all)

pub callers_all : (plan : LivePlan) (table : TableId) (locks : List LockState) (node : ℕ) → locks ≡ map (lock_at plan table) (range_with_len 0 node)
    → All (λ (l : LockState). l.callers ≡ plan.callers + 1) locks
callers_all plan table locks node are =
    All-same (λ (l : LockState). l.callers ≡ plan.callers + 1) locks (map (lock_at plan table) (range_with_len 0 node)) are
    (All-map (λ (l : LockState). l.callers ≡ plan.callers + 1) (lock_at plan table) (range_with_len 0 node) (λ k d within. refl))
