-- A step that compares well: the replay has followed all journals up to the next stamp.
use Rattle.std.specs.List.{All, filter_map, flat_map, range_with_len}
use Rattle.std.specs.Prelude.{Some, None, nat_lt, option_to_list, slice_get, slice_index_or}
use Rattle.std.proofs.Common.{◌≡◌, ◌⊎◌, inl, inr, ℕ, zero, suc, ◌+◌, ◌-◌, ◌<◌, ◌≤◌, Bool, true, arith, List, [], ◌∷◌, ◌++◌, length, length-append, refl, sym, subst, ◌∙◌, ap, append_assoc, get_or-set_same, get_or-set_other}
use Rattle.std.proofs.lemmas.Bool.{and_parts, cases_eq, cases_lt}
use Rattle.std.proofs.lemmas.Bool.Decides.{nat_tests}
use Rattle.std.proofs.lemmas.List.{append-nil}
use Rattle.std.proofs.lemmas.List.Elements.{filter_map-append}
use Rattle.std.proofs.lemmas.List.FromFn.{get_or-range_with_len, length-range_with_len}
use Rattle.std.proofs.lemmas.Option.{get_or_from_slice_get, slice_get_within}
use Rattle.tipc_types.specs.Address.{node_word}
use Rattle.tipc_types.specs.declared.node_calls.EventNote.{EventNote}
use Rattle.tipc_types.specs.declared.node_calls.EventNote.TheVariants.{Arrive}
use Rattle.tipc_journal.specs.declared.entries.Entry.{Entry}
use Rattle.tipc_journal.specs.declared.entries.Entry.TheVariants.{Answered}
use Rattle.tipc_journal.specs.Counting.{stamps}
use Rattle.tipc_journal.specs.Prefixes.{list_with}
use Rattle.tipc_journal.specs.Steps.{IsWhole, NodeStep, PlacedStep, step_entries, steps}
use Rattle.tipc_node_lock.specs.Journals.{arrival_number, arrival_numbers}
use Rattle.tipc_node_lock.specs.Locked.{LockedState}
use Rattle.tipc_node_lock.proofs.Counted.{arrival_numbers_step}
use Rattle.tipc_replay.specs.declared.air.Arrived.{Arrived}
use Rattle.tipc_replay.specs.States.{MemberState, ReplayState}
use Rattle.tipc_replay.proofs.LookUps.{place_within}
use Rattle.tipc_live.specs.declared.keeping.KeptStep.{KeptStep}
use Rattle.tipc_live.specs.Differing.{AreSameIn}
use Rattle.tipc_live.specs.Following.{HasFollowed, HasOwnStamp, HaveBytes, IsKeptOf, IsMadeBelow, IsRunOf, arrived_bytes, called_again, heard_in}
use Rattle.tipc_live.specs.Fronts.{IsFrontBelow}
use Rattle.tipc_live.specs.Nodes.{can_audit, is_of_cluster, locked_number}
use Rattle.tipc_live.proofs.Apart.{apart, cluster_at}
use Rattle.tipc_live.proofs.Comparing.{Stands, stands_there}
use Rattle.tipc_live.proofs.Fronts.{IsAmong, behind_front, compares_well, placed}
use Rattle.tipc_live.proofs.Nexts.{behind_below, front_grows, front_stays, steps_fronted}
use Rattle.tipc_live.proofs.Running.{run_more}
use Rattle.tipc_live.proofs.Stepping.{StepsSo, have_still, made_still}

-- ---- numbers of arrivals

-- those of a front are the first of a journal's
numbers_front : (stamp : ℕ) (J F : List Entry) → IsFrontBelow stamp J F → IsWhole F → (more : List ℕ) × (arrival_numbers J ≡ arrival_numbers F ++ more)
unfolding arrival_numbers
numbers_front stamp J F f whole = (
  filter_map (λ p. arrival_number p.step.event) (placed F f.rest),
  ap (filter_map (λ p. arrival_number p.step.event)) (steps_fronted stamp J F f whole) ∙ filter_map-append (λ p. arrival_number p.step.event) (steps F) (placed F f.rest),
)

-- behind a list
get_at : (xs ys : List ℕ) (k : ℕ) → slice_get (xs ++ ys) (length xs + k) ≡ slice_get ys k
get_at [] ys k = let e : 0 + k ≡ k = omega arith in ap (slice_get ys) e
get_at (x ∷ xs) ys k = let e : length (x ∷ xs) + k ≡ suc (length xs + k) = omega arith in ap (slice_get (x ∷ (xs ++ ys))) e ∙ get_at xs ys k

-- a number among those from 0 on is its place
number_at : (n k x : ℕ) (front more : List ℕ) → range_with_len 0 n ≡ front ++ more → k ≡ length front → slice_get more 0 ≡ Some x → x ≡ k
number_at n k x front more all count there =
    let here : slice_get (front ++ more) (length front + 0) ≡ Some x = get_at front more 0 ∙ there in
    let e : length front + 0 ≡ k = omega (arith, count) in
    let stands : slice_get (range_with_len 0 n) k ≡ Some x = ap (λ w. slice_get w k) all ∙ ap (slice_get (front ++ more)) (sym e) ∙ here in
    let within = slice_get_within (range_with_len 0 n) k x stands in
    let size = length-range_with_len 0 n in
    let value = get_or-range_with_len 0 n k 0 (omega (arith, within, size)) in
    let same = get_or_from_slice_get (range_with_len 0 n) k x 0 stands in
    omega (arith, value, same)

-- ---- look-ups

-- what stands in the first of two lists
get_first : (xs ys : List Entry) (k : ℕ) → k < length xs → slice_get (xs ++ ys) k ≡ slice_get xs k
get_first [] ys k less = absurd (omega (arith, less))
get_first (x ∷ xs) ys zero less = refl
get_first (x ∷ xs) ys (suc k) less = get_first xs ys k (omega (arith, less))

-- a step's entries at their places
entry_at : (J : List Entry) (p : PlacedStep) (k : ℕ) → Stands J p → k < length (step_entries p.step) → slice_get J (length p.before + k) ≡ slice_get (step_entries p.step) k
entry_at J p k s less =
    ap (λ es. slice_get es (length p.before + k)) s.joined
    ∙ behind_front p.before (step_entries p.step ++ s.rest) k
    ∙ get_first (step_entries p.step) s.rest k less

-- how many entries a step has
step_size : (s : NodeStep) → length (step_entries s) ≡ length s.inside + 2
step_size s = let inner = length-append s.inside (Answered s.caller s.call s.answer ∷ []) in let one : length (step_entries s) ≡ suc (length (s.inside ++ Answered s.caller s.call s.answer ∷ [])) = refl in omega (arith, inner, one)

-- ---- the node of the step

-- Where the replay made the next step of a node, and each of its entries is what the journal keeps, it has made that
-- too.
pub made_next : {P : Type 0} (gives : P → ℕ → ℕ → ℕ → Type 0) (n : LockedState P) (old new : ReplayState) (number stamp i : ℕ) (p : PlacedStep) (m : MemberState) (sent : Bool)
    → IsWhole n.node.journal → arrival_numbers n.node.journal ≡ range_with_len 0 (length n.heard)
    → IsMadeBelow gives old.air stamp n m → slice_get (steps n.node.journal) i ≡ Some p → p.step.by.stamp ≡ stamp
    → ((j : ℕ) (q : PlacedStep) → slice_get (steps n.node.journal) j ≡ Some q → q.step.by.stamp ≡ stamp → length q.before ≡ length p.before)
    → (s : StepsSo gives n old new number p.step.by p.step.event m sent)
    → AreSameIn n.node.journal s.after.node.journal (length p.before) (length p.before + 1 + length p.step.inside)
    → IsMadeBelow gives new.air (stamp + 1) n s.after
made_next {P} gives n old new number stamp i p m sent whole numbers h stands stamp_is own s same = record { run = run; heard = heard; front = front }
  where
    J : List Entry
    J = n.node.journal

    F : List Entry
    F = m.node.journal

    among : IsAmong F h.front.rest p
    among = behind_below stamp n.node.journal m.node.journal h.front i p h.run.whole stands (omega (arith, stamp_is))

    place : Stands n.node.journal p
    place = stands_there n.node.journal whole i p stands

    well : (among.front ≡ []) × (step_entries s.step ≡ step_entries p.step)
    well = compares_well m.node.journal among.front p.step s.step place.clean s.records.inside at
      where
        at : (k : ℕ) → k < length (step_entries p.step) → slice_get (m.node.journal ++ step_entries s.step) (length (m.node.journal ++ flat_map step_entries among.front) + k) ≡ slice_get (step_entries p.step) k
        at k less =
            let size = step_size p.step in
            ap (λ es. slice_get es (length (m.node.journal ++ flat_map step_entries among.front) + k)) (sym s.records.journal)
            ∙ ap (λ es. slice_get s.after.node.journal (length es + k)) (sym among.before_is)
            ∙ same (length p.before + k) (omega arith) (omega (arith, less, size))
            ∙ entry_at n.node.journal p k place less

    rest_is : h.front.rest ≡ p.step ∷ among.back
    rest_is = among.all ∙ ap (λ w. w ++ p.step ∷ among.back) well.0

    before_is : p.before ≡ m.node.journal
    before_is = among.before_is ∙ ap (λ w. m.node.journal ++ flat_map step_entries w) well.0 ∙ append-nil m.node.journal

    kept_front : IsFrontBelow (stamp + 1) n.node.journal (m.node.journal ++ step_entries p.step)
    kept_front = front_grows stamp n.node.journal m.node.journal h.front p.step among.back h.run.whole rest_is stamp_is (λ j q there is. own j q there is ∙ ap length before_is)

    journal_is : s.after.node.journal ≡ m.node.journal ++ step_entries p.step
    journal_is = s.records.journal ∙ ap (λ w. m.node.journal ++ w) well.1

    front : IsFrontBelow (stamp + 1) n.node.journal s.after.node.journal
    front = subst (IsFrontBelow (stamp + 1) n.node.journal) (sym journal_is) kept_front

    run : IsRunOf gives n s.after
    run =
        run_more gives n m s.after s.step h.run s.records
        (subst (λ t. All (λ x. x < t) (stamps m.node.journal)) (sym (ap (λ b. b.stamp) s.by_is ∙ stamp_is)) h.front.below) s.picked

    -- no more arrived than was heard
    few : length s.after.arrivals ≤ length n.heard
    few =
        let front_of = numbers_front (stamp + 1) n.node.journal s.after.node.journal front run.whole in
        let all = ap length front_of.1 ∙ length-append (arrival_numbers s.after.node.journal) front_of.0 in
        let total = ap length numbers ∙ length-range_with_len 0 (length n.heard) in
        let arrived = run.arrived in
        omega (arith, all, total, arrived)

    -- the last arrival has its number
    last : (k : ℕ) (a : Arrived) → k ≡ length m.arrivals → slice_get s.after.arrivals k ≡ Some a → (event : EventNote) → p.step.event ≡ event → arrived_bytes new.air a ≡ slice_get n.heard k
    last k a here is (Arrive bearer x) event_is =
        let numbers_to = arrival_numbers_step m.node.journal p.step h.run.whole place.clean in
        let with_it : arrival_numbers (m.node.journal ++ step_entries p.step) ≡ arrival_numbers m.node.journal ++ x ∷ [] =
        numbers_to ∙ ap (λ e. list_with (arrival_numbers m.node.journal) (arrival_number e)) event_is in
        let grown = subst IsWhole journal_is run.whole in
        let front_of = numbers_front (stamp + 1) n.node.journal (m.node.journal ++ step_entries p.step) kept_front grown in
        let all : range_with_len 0 (length n.heard) ≡ arrival_numbers m.node.journal ++ (x ∷ front_of.0) =
        sym numbers ∙ front_of.1 ∙ ap (λ w. w ++ front_of.0) with_it ∙ append_assoc (arrival_numbers m.node.journal) (x ∷ []) front_of.0 in
        let is_place = number_at (length n.heard) k x (arrival_numbers m.node.journal) (x ∷ front_of.0) all (here ∙ h.run.arrived) refl in
        s.last a (subst (λ j. slice_get s.after.arrivals j ≡ Some a) here is) ∙ ap (heard_in n.heard) event_is ∙ ap (slice_get n.heard) is_place
    last k a here is other event_is =
        let none : length (option_to_list (arrival_number (called_again (length m.arrivals) other))) ≡ 0 = refl in
        let event = ap (λ e. length (option_to_list (arrival_number e))) (s.event_is ∙ ap (called_again (length m.arrivals)) event_is) in
        let count = s.records.arrived in
        let within = slice_get_within s.after.arrivals k a is in
        absurd (omega (arith, none, event, count, within, here))

    heard : HaveBytes new.air s.after.arrivals n.heard
    heard = record { few = few; each = λ k a is. by k a is (cases_lt k (length m.arrivals)) }
      where
        by : (k : ℕ) (a : Arrived) → slice_get s.after.arrivals k ≡ Some a → (k < length m.arrivals) ⊎ (length m.arrivals ≤ k) → arrived_bytes new.air a ≡ slice_get n.heard k
        by k a is (inl less) = (have_still old.air new.air m.arrivals n.heard s.grows h.heard).each k a (sym (s.before k less) ∙ is)
        by k a is (inr more) =
            let within = slice_get_within s.after.arrivals k a is in
            let most = s.few in
            last k a (omega (arith, more, within, most)) is p.step.event refl

-- ---- all nodes

-- a node's number tells its address
pub own_of : {P : Type 0} (n : LockedState P) → is_of_cluster n ≡ true → n.node.own ≡ locked_number n + node_word 0
own_of n is =
    let low = (and_parts (nat_lt (node_word 0) n.node.own) _ is).0 in
    above n.node.own low
  where
    above : (own : ℕ) → nat_lt (node_word 0) own ≡ true → own ≡ own - node_word 0 + node_word 0
    above own low = grind (arith, nat_tests)

-- two places of one number are one
pub one_place : {P : Type 0} (nodes : List (LockedState P)) (i j : ℕ) (n m : LockedState P) → can_audit nodes ≡ true → slice_get nodes i ≡ Some n → slice_get nodes j ≡ Some m
    → locked_number m ≡ locked_number n → i ≡ j
one_place nodes i j n m can there there' same =
    apart nodes i j n m can there there' (own_of m (cluster_at nodes j m can there') ∙ ap (λ x. x + node_word 0) same ∙ sym (own_of n (cluster_at nodes i n can there)))

-- The replay has followed all journals up to the next stamp.
pub followed_next : {P : Type 0} (gives : P → ℕ → ℕ → ℕ → Type 0) (nodes : List (LockedState P)) (old new : ReplayState) (k : KeptStep) (kept : IsKeptOf nodes k) (m : MemberState) (sent : Bool)
    → can_audit nodes ≡ true → HasOwnStamp nodes k → (f : HasFollowed gives nodes old k.by.stamp)
    → ((place : ℕ) (n : LockedState P) → slice_get nodes place ≡ Some n → IsWhole n.node.journal × (arrival_numbers n.node.journal ≡ range_with_len 0 (length n.heard)))
    → slice_index_or old.members (locked_number kept.node) None ≡ Some m → IsMadeBelow gives old.air k.by.stamp kept.node m
    → (s : StepsSo gives kept.node old new (locked_number kept.node) kept.placed.step.by kept.placed.step.event m sent)
    → AreSameIn kept.node.node.journal s.after.node.journal (length kept.placed.before) (length kept.placed.before + 1 + length kept.placed.step.inside)
    → HasFollowed gives nodes new (k.by.stamp + 1)
followed_next {P} gives nodes old new k kept m sent can own f well was made s same = record { each = λ place n there. each place n there (cases_eq place k.node); alone = alone }
  where
    number : ℕ
    number = locked_number kept.node

    by_is : k.by ≡ kept.placed.step.by
    by_is = ap (λ (x : KeptStep). x.by) kept.is

    stamp_is : kept.placed.step.by.stamp ≡ k.by.stamp
    stamp_is = sym (ap (λ b. b.stamp) by_is)

    own_place : (j : ℕ) (q : PlacedStep) → slice_get (steps kept.node.node.journal) j ≡ Some q → q.step.by.stamp ≡ k.by.stamp → length q.before ≡ length kept.placed.before
    own_place j q there is =
        ap (λ (x : KeptStep). x.begin) (own k.node kept.node j q kept.there there is) ∙ ap (λ (x : KeptStep). x.begin) kept.is

    here : slice_index_or new.members (locked_number kept.node) None ≡ Some s.after
    here = ap (λ ms. slice_index_or ms (locked_number kept.node) None) s.members ∙ get_or-set_same old.members (locked_number kept.node) (Some s.after) None (place_within old.members (locked_number kept.node) m was)

    elsewhere : (x : ℕ) → (x ≡ locked_number kept.node → ⊥) → slice_index_or new.members x None ≡ slice_index_or old.members x None
    elsewhere x other = ap (λ ms. slice_index_or ms x None) s.members ∙ get_or-set_other old.members (locked_number kept.node) x (Some s.after) None other

    each : (place : ℕ) (n : LockedState P) → slice_get nodes place ≡ Some n → (place ≡ k.node) ⊎ (place ≡ k.node → ⊥)
        → (x : MemberState) × (slice_index_or new.members (locked_number n) None ≡ Some x) × IsMadeBelow gives new.air (k.by.stamp + 1) n x
    each place n there (inl is) =
        let both : Some kept.node ≡ Some n = sym kept.there ∙ ap (slice_get nodes) (sym is) ∙ there in
        let same_node : kept.node ≡ n = cc in
        subst (λ (y : LockedState P). (x : MemberState) × (slice_index_or new.members (locked_number y) None ≡ Some x) × IsMadeBelow gives new.air (k.by.stamp + 1) y x) same_node
        (s.after, here, made_next gives kept.node old new (locked_number kept.node) k.by.stamp kept.index kept.placed m sent (well k.node kept.node kept.there).0 (well k.node kept.node kept.there).1 made kept.stands stamp_is own_place s same)
    each place n there (inr other) =
        let was_made = f.each place n there in
        let still = made_still gives old.air new.air k.by.stamp n was_made.0 s.grows was_made.2 in (
          was_made.0,
          elsewhere (locked_number n) (λ is. other (one_place nodes place k.node n kept.node can there kept.there (sym is))) ∙ was_made.1,
          record {
            run = still.run;
            heard = still.heard;
            front = front_stays k.by.stamp n.node.journal was_made.0.node.journal still.front still.run.whole (λ i q stands is. other (ap (λ (x : KeptStep). x.node) (own place n i q there stands is)));
          },
        )

    alone : (x : ℕ) (y : MemberState) → slice_index_or new.members x None ≡ Some y → (place : ℕ) × (n : LockedState P) × (slice_get nodes place ≡ Some n) × (locked_number n ≡ x)
    alone x y there = by (cases_eq x (locked_number kept.node))
      where
        by : (x ≡ locked_number kept.node) ⊎ (x ≡ locked_number kept.node → ⊥) → (place : ℕ) × (n : LockedState P) × (slice_get nodes place ≡ Some n) × (locked_number n ≡ x)
        by (inl is) = (k.node, kept.node, kept.there, sym is)
        by (inr other) = f.alone x y (sym (elsewhere x other) ∙ there)
