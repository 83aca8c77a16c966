-- The steps are made one after the other, in order of stamp, up to the last.
use Rattle.std.specs.List.{range_with_len}
use Rattle.std.specs.List.Sorted.{IsPermutation}
use Rattle.std.specs.Prelude.{Some, None, slice_get, slice_index_or}
use Rattle.std.proofs.Common.{◌≡◌, ◌⊎◌, inl, inr, ℕ, ◌+◌, ◌<◌, ◌≤◌, arith, List, length, map, sym, ◌∙◌, ap}
use Rattle.std.proofs.lemmas.Bool.{cases_eq, cases_lt}
use Rattle.std.proofs.lemmas.List.{get_or-map, length-map}
use Rattle.std.proofs.lemmas.List.FromFn.{length-range_with_len}
use Rattle.std.proofs.lemmas.Option.{get_or_from_slice_get, slice_get_within}
use Rattle.tipc_journal.specs.Steps.{IsWhole, NodeStep, PlacedStep, steps}
use Rattle.tipc_node_lock.specs.Journals.{arrival_numbers}
use Rattle.tipc_node_lock.specs.Locked.{LockedState}
use Rattle.tipc_replay.specs.States.{MemberState, ReplayState}
use Rattle.tipc_replay.proofs.InLists.{all_at}
use Rattle.tipc_live.specs.declared.keeping.KeptStep.{KeptStep}
use Rattle.tipc_live.specs.Auditing.{AreReplayed, IsWholeRun}
use Rattle.tipc_live.specs.Following.{HasFollowed, HasOwnStamp, IsMadeBelow}
use Rattle.tipc_live.specs.Keeping.{kept_step, stamp_of}
use Rattle.tipc_live.specs.Nodes.{locked_number}
use Rattle.tipc_live.specs.Stamping.{kept_from}
use Rattle.tipc_live.proofs.Fronts.{front_later}
use Rattle.tipc_live.proofs.Nexts.{all_from, front_all, rest_stands}
use Rattle.tipc_live.proofs.Ordered.{among_all}
use Rattle.tipc_live.proofs.Twins.{RiseTo}

-- The steps of all nodes in order of stamp, of which no two have one stamp.
pub record AreInOrder {P : Type 0} (nodes : List (LockedState P)) (ks : List KeptStep) : Type 0 where
  pub all : IsPermutation (kept_from 0 nodes) ks
  pub rise : RiseTo (map stamp_of ks) (length (map stamp_of ks))

-- the stamps of two of them
rise_at : {P : Type 0} (nodes : List (LockedState P)) (ks : List KeptStep) (i j : ℕ) (a b : KeptStep) → AreInOrder nodes ks → i < j → slice_get ks i ≡ Some a → slice_get ks j ≡ Some b
    → a.by.stamp < b.by.stamp
rise_at nodes ks i j a b o less there there' =
    let within = slice_get_within ks j b there' in
    let size = length-map ks stamp_of in
    let up = o.rise i j less (omega (arith, within, size)) in
    let first = get_or-map stamp_of ks i a 0 (omega (arith, within, less)) in
    let second = get_or-map stamp_of ks j b 0 within in
    let one = ap stamp_of (get_or_from_slice_get ks i a a there) in
    let other = ap stamp_of (get_or_from_slice_get ks j b b there') in
    omega (arith, up, first, second, one, other)

-- no other step has the stamp of one of them
pub own_stamp : {P : Type 0} (nodes : List (LockedState P)) (ks : List KeptStep) (i : ℕ) (k : KeptStep) → AreInOrder nodes ks → slice_get ks i ≡ Some k → HasOwnStamp nodes k
own_stamp nodes ks i k o there place n index p at stands same = by (among_all nodes ks place index n p o.all at stands)
  where
    by : (j : ℕ) × (slice_get ks j ≡ Some (kept_step place p)) → kept_step place p ≡ k
    by (j, is) = case (cases_lt i j)
      where
        found : j ≡ i → kept_step place p ≡ k
        found e = let both : Some (kept_step place p) ≡ Some k = sym is ∙ ap (slice_get ks) e ∙ there in cc

        case : (i < j) ⊎ (j ≤ i) → kept_step place p ≡ k
        case (inl less) = let up = rise_at nodes ks i j k (kept_step place p) o less there is in absurd (omega (arith, up, same))
        case (inr more) = last (cases_eq j i)
          where
            last : (j ≡ i) ⊎ (j ≡ i → ⊥) → kept_step place p ≡ k
            last (inl e) = found e
            last (inr apart) = let up = rise_at nodes ks j i (kept_step place p) k o (omega (arith, more, apart)) is there in absurd (omega (arith, up, same))

-- The steps before a place are made, and those from it on aren't.
pub record IsOnCourse {P : Type 0} (gives : P → ℕ → ℕ → ℕ → Type 0) (nodes : List (LockedState P)) (ks : List KeptStep) (replay : ReplayState) (i : ℕ) : Type 0 where
  pub stamp : ℕ
  pub followed : HasFollowed gives nodes replay stamp
  pub before : (j : ℕ) (k : KeptStep) → j < i → slice_get ks j ≡ Some k → k.by.stamp < stamp
  pub behind : (j : ℕ) (k : KeptStep) → i ≤ j → slice_get ks j ≡ Some k → stamp ≤ k.by.stamp

pub course_begins : {P : Type 0} (gives : P → ℕ → ℕ → ℕ → Type 0) (nodes : List (LockedState P)) (ks : List KeptStep) (replay : ReplayState) → HasFollowed gives nodes replay 0
    → IsOnCourse gives nodes ks replay 0
course_begins gives nodes ks replay f = record {
  stamp = 0;
  followed = f;
  before = λ j k less there. absurd (omega (arith, less));
  behind = λ j k more there. omega arith;
}

-- the replay has followed up to the stamp of the next step
pub course_at : {P : Type 0} (gives : P → ℕ → ℕ → ℕ → Type 0) (nodes : List (LockedState P)) (ks : List KeptStep) (replay : ReplayState) (i : ℕ) (k : KeptStep) → AreInOrder nodes ks
    → (c : IsOnCourse gives nodes ks replay i) → slice_get ks i ≡ Some k → HasFollowed gives nodes replay k.by.stamp
course_at {P} gives nodes ks replay i k o c there = record { each = each; alone = c.followed.alone }
  where
    low : c.stamp ≤ k.by.stamp
    low = c.behind i k (omega arith) there

    each : (place : ℕ) (n : LockedState P) → slice_get nodes place ≡ Some n
        → (m : MemberState) × (slice_index_or replay.members (locked_number n) None ≡ Some m) × IsMadeBelow gives replay.air k.by.stamp n m
    each place n at = by (c.followed.each place n at)
      where
        by : (m : MemberState) × (slice_index_or replay.members (locked_number n) None ≡ Some m) × IsMadeBelow gives replay.air c.stamp n m
            → (m : MemberState) × (slice_index_or replay.members (locked_number n) None ≡ Some m) × IsMadeBelow gives replay.air k.by.stamp n m
        by (m, is, made) = (
          m,
          is,
          record {
            run = made.run;
            heard = made.heard;
            front = front_later c.stamp k.by.stamp n.node.journal m.node.journal made.front low (all_from (λ u. k.by.stamp ≤ u.by.stamp) made.front.rest later);
          },
        )
          where
            later : (j : ℕ) (u : NodeStep) → slice_get made.front.rest j ≡ Some u → k.by.stamp ≤ u.by.stamp
            later j u in_rest = among (rest_stands c.stamp n.node.journal m.node.journal made.front j u made.run.whole in_rest)
              where
                not_below : c.stamp ≤ u.by.stamp
                not_below = all_at (λ x. c.stamp ≤ x.by.stamp) made.front.rest j u made.front.not_below in_rest

                among : (index : ℕ) × (q : PlacedStep) × (slice_get (steps n.node.journal) index ≡ Some q) × (q.step ≡ u) → k.by.stamp ≤ u.by.stamp
                among (index, q, stands, q_is) = placed (among_all nodes ks place index n q o.all at stands)
                  where
                    stamp_is : q.step.by.stamp ≡ u.by.stamp
                    stamp_is = ap (λ (x : NodeStep). x.by.stamp) q_is

                    placed : (x : ℕ) × (slice_get ks x ≡ Some (kept_step place q)) → k.by.stamp ≤ u.by.stamp
                    placed (x, x_is) = case (cases_lt i x)
                      where
                        case : (i < x) ⊎ (x ≤ i) → k.by.stamp ≤ u.by.stamp
                        case (inl less) = let up = rise_at nodes ks i x k (kept_step place q) o less there x_is in omega (arith, up, stamp_is)
                        case (inr more) = last (cases_eq x i)
                          where
                            last : (x ≡ i) ⊎ (x ≡ i → ⊥) → k.by.stamp ≤ u.by.stamp
                            last (inl e) =
                                let both : Some (kept_step place q) ≡ Some k = sym x_is ∙ ap (slice_get ks) e ∙ there in
                                let same : kept_step place q ≡ k = cc in
                                let stamps_are = ap stamp_of same in
                                omega (arith, stamps_are, stamp_is)
                            last (inr apart) =
                                let below = c.before x (kept_step place q) (omega (arith, more, apart)) x_is in
                                absurd (omega (arith, below, stamp_is, not_below))

-- one step more is made
pub course_next : {P : Type 0} (gives : P → ℕ → ℕ → ℕ → Type 0) (nodes : List (LockedState P)) (ks : List KeptStep) (replay : ReplayState) (i : ℕ) (k : KeptStep) → AreInOrder nodes ks
    → slice_get ks i ≡ Some k → HasFollowed gives nodes replay (k.by.stamp + 1) → IsOnCourse gives nodes ks replay (i + 1)
course_next gives nodes ks replay i k o there f = record { stamp = k.by.stamp + 1; followed = f; before = before; behind = behind }
  where
    before : (j : ℕ) (x : KeptStep) → j < i + 1 → slice_get ks j ≡ Some x → x.by.stamp < k.by.stamp + 1
    before j x less is = by (cases_eq j i)
      where
        by : (j ≡ i) ⊎ (j ≡ i → ⊥) → x.by.stamp < k.by.stamp + 1
        by (inl e) =
            let both : Some x ≡ Some k = sym is ∙ ap (slice_get ks) e ∙ there in
            let same : x ≡ k = cc in
            let stamps_are = ap stamp_of same in
            omega (arith, stamps_are)
        by (inr apart) = let up = rise_at nodes ks j i x k o (omega (arith, less, apart)) is there in omega (arith, up)

    behind : (j : ℕ) (x : KeptStep) → i + 1 ≤ j → slice_get ks j ≡ Some x → k.by.stamp + 1 ≤ x.by.stamp
    behind j x more is = let up = rise_at nodes ks i j k x o (omega (arith, more)) there is in omega (arith, up)

-- all are made: the replay is of the very journals
pub course_ends : {P : Type 0} (gives : P → ℕ → ℕ → ℕ → Type 0) (nodes : List (LockedState P)) (ks : List KeptStep) (replay : ReplayState) (i : ℕ) → AreInOrder nodes ks
    → ((place : ℕ) (n : LockedState P) → slice_get nodes place ≡ Some n → IsWhole n.node.journal × (arrival_numbers n.node.journal ≡ range_with_len 0 (length n.heard)))
    → (c : IsOnCourse gives nodes ks replay i) → length ks ≤ i → AreReplayed gives nodes replay
course_ends {P} gives nodes ks replay i o well c end = record { each = each; alone = c.followed.alone }
  where
    each : (place : ℕ) (n : LockedState P) → slice_get nodes place ≡ Some n
        → (m : MemberState) × (slice_index_or replay.members (locked_number n) None ≡ Some m) × IsWholeRun gives replay n m
    each place n at = by (c.followed.each place n at)
      where
        below : (index : ℕ) (q : PlacedStep) → slice_get (steps n.node.journal) index ≡ Some q → q.step.by.stamp < c.stamp
        below index q stands = placed (among_all nodes ks place index n q o.all at stands)
          where
            placed : (x : ℕ) × (slice_get ks x ≡ Some (kept_step place q)) → q.step.by.stamp < c.stamp
            placed (x, x_is) = let within = slice_get_within ks x (kept_step place q) x_is in c.before x (kept_step place q) (omega (arith, within, end)) x_is

        by : (m : MemberState) × (slice_index_or replay.members (locked_number n) None ≡ Some m) × IsMadeBelow gives replay.air c.stamp n m
            → (m : MemberState) × (slice_index_or replay.members (locked_number n) None ≡ Some m) × IsWholeRun gives replay n m
        by (m, is, made) =
            let journal = front_all c.stamp n.node.journal m.node.journal made.front made.run.whole below in
            let numbers = ap length (ap arrival_numbers journal ∙ (well place n at).1) in
            let size = length-range_with_len 0 (length n.heard) in
            let arrived = made.run.arrived in (
              m,
              is,
              record { run = made.run; journal = journal; arrivals = omega (arith, numbers, size, arrived); heard = made.heard },
            )
