-- The nodes come into the replay one after the other, each with none of its steps.
use Rattle.std.specs.List.{All, flat_map}
use Rattle.std.specs.Prelude.{Option, Some, None, is_some, slice_get, slice_index_or}
use Rattle.std.proofs.Common.{◌≡◌, ◌⊎◌, inl, inr, ℕ, ◌+◌, ◌<◌, ◌≤◌, true, false, arith, List, [], ◌++◌, length, map, refl, sym, subst, ◌∙◌, ap}
use Rattle.std.proofs.lemmas.Bool.{cases_eq}
use Rattle.std.proofs.lemmas.Option.{slice_get_within}
use Rattle.tipc_types.specs.Address.{node_word}
use Rattle.tipc_journal.specs.declared.entries.Entry.{Entry}
use Rattle.tipc_journal.specs.Counting.{StampsRise, names_sent_before, stamps}
use Rattle.tipc_journal.specs.Licensed.{AllPicked, IsPicked}
use Rattle.tipc_journal.specs.Steps.{IsWhole, PlacedStep, step_entries}
use Rattle.tipc_journal.proofs.CountLaws.{StampsRise_nil}
use Rattle.tipc_journal.proofs.StepLaws.{IsWhole_nil, steps_nil}
use Rattle.tipc_node.specs.Works.{addr_of_word}
use Rattle.tipc_node_lock.specs.Journals.{arrival_numbers}
use Rattle.tipc_node_lock.specs.Locked.{LockedState}
use Rattle.tipc_node_lock.proofs.Counted.{arrival_numbers_nil}
use Rattle.tipc_replay.specs.declared.air.Arrived.{Arrived}
use Rattle.tipc_replay.specs.Members.{IsNewcomer}
use Rattle.tipc_replay.specs.Skies.{AirState}
use Rattle.tipc_replay.specs.States.{MemberState, ReplayState, empty_replay, has_member}
use Rattle.tipc_replay.specs.Steps.{IsReplayJoined}
use Rattle.tipc_live.specs.Following.{HasFollowed, IsMadeBelow, arrived_bytes}
use Rattle.tipc_live.specs.Fronts.{IsFrontBelow}
use Rattle.tipc_live.specs.Nodes.{can_audit, locked_number}
use Rattle.tipc_live.proofs.Apart.{cluster_at}
use Rattle.tipc_live.proofs.Followed.{one_place, own_of}

-- ---- one node

-- no steps
picked_none : (gives : ℕ → ℕ → ℕ → Type 0) (own : ℕ) → AllPicked gives (names_sent_before []) (addr_of_word own) []
picked_none gives own =
    subst (λ (ps : List PlacedStep). All (λ p. IsPicked gives (names_sent_before [] p.step.by.stamp) (addr_of_word own) p.before p.step.event p.step.answer) ps)
    (sym steps_nil) (λ k d less. absurd (omega (arith, less)))

front_none : (J F : List Entry) → IsWhole J → F ≡ [] → IsFrontBelow 0 J F
unfolding stamps
front_none J F whole empty = record {
  rest = whole.made;
  clean = whole.clean;
  joined = whole.joined ∙ ap (λ w. w ++ flat_map step_entries whole.made) (sym empty);
  below = subst (λ w. All (λ s. s < 0) (stamps w)) (sym empty) (subst (λ w. All (λ s. s < 0) w) (sym none) (λ k d less. absurd (omega (arith, less))));
  not_below = λ k d within. omega arith;
}
  where
    none : stamps [] ≡ []
    none = ap (λ (ps : List PlacedStep). map (λ p. p.step.by.stamp) ps) steps_nil

-- a node that has just come in
made_none : {P : Type 0} (gives : P → ℕ → ℕ → ℕ → Type 0) (air : AirState) (n : LockedState P) (m : MemberState) (number : ℕ) → IsWhole n.node.journal
    → n.node.own ≡ number + node_word 0 → IsNewcomer m number n.node.boot → IsMadeBelow gives air 0 n m
made_none gives air n m number whole own f = record {
  run = record {
    own = f.node.own_is ∙ word_is;
    boot = f.node.boot_is;
    past = f.past;
    whole = subst IsWhole (sym f.node.no_history) IsWhole_nil;
    rise = subst StampsRise (sym f.node.no_history) StampsRise_nil;
    picked = subst (λ J. AllPicked (gives n.chooser.pick) (names_sent_before J) (addr_of_word n.node.own) J) (sym f.node.no_history) (picked_none (gives n.chooser.pick) n.node.own);
    arrived = ap length f.arrivals ∙ sym (ap length (ap arrival_numbers f.node.no_history ∙ arrival_numbers_nil));
  };
  heard = record { few = few; each = each };
  front = front_none n.node.journal m.node.journal whole f.node.no_history;
}
  where
    word_is : node_word number ≡ n.node.own
    word_is = omega (arith, own)

    few : length m.arrivals ≤ length n.heard
    few = let size = ap length f.arrivals in omega (arith, size)

    each : (k : ℕ) (a : Arrived) → slice_get m.arrivals k ≡ Some a → arrived_bytes air a ≡ slice_get n.heard k
    each k a there = let none : None ≡ Some a = sym (ap (λ came. slice_get came k) f.arrivals) ∙ there in absurd cc

-- ---- all nodes

-- The nodes before a place are in the replay, with none of their steps, and no others.
pub record HaveJoined {P : Type 0} (gives : P → ℕ → ℕ → ℕ → Type 0) (nodes : List (LockedState P)) (replay : ReplayState) (count : ℕ) : Type 0 where
  pub each : (place : ℕ) (n : LockedState P) → place < count → slice_get nodes place ≡ Some n
      → (m : MemberState) × (slice_index_or replay.members (locked_number n) None ≡ Some m) × IsMadeBelow gives replay.air 0 n m
  pub alone : (number : ℕ) (m : MemberState) → slice_index_or replay.members number None ≡ Some m
      → (place : ℕ) × (n : LockedState P) × (place < count) × (slice_get nodes place ≡ Some n) × (locked_number n ≡ number)

pub none_joined : {P : Type 0} (gives : P → ℕ → ℕ → ℕ → Type 0) (nodes : List (LockedState P)) (replay : ReplayState) → replay ≡ empty_replay → HaveJoined gives nodes replay 0
none_joined gives nodes replay empty = record {
  each = λ place n less there. absurd (omega (arith, less));
  alone = λ number m there. let none : None ≡ Some m = sym (ap (λ (r : ReplayState). slice_index_or r.members number None) empty) ∙ there in absurd cc;
}

-- the next node isn't there yet
pub nobody_yet : {P : Type 0} (gives : P → ℕ → ℕ → ℕ → Type 0) (nodes : List (LockedState P)) (replay : ReplayState) (i : ℕ) (n : LockedState P) → can_audit nodes ≡ true
    → HaveJoined gives nodes replay i → slice_get nodes i ≡ Some n → has_member replay.members (locked_number n) ≡ false
nobody_yet {P} gives nodes replay i n can h there = by (slice_index_or replay.members (locked_number n) None) refl
  where
    by : (found : Option MemberState) → slice_index_or replay.members (locked_number n) None ≡ found → has_member replay.members (locked_number n) ≡ false
    by None is = ap is_some is
    by (Some m) is =
        let other = h.alone (locked_number n) m is in
        let same = one_place nodes i other.0 n other.1 can there other.3 other.4 in
        let before = other.2 in
        absurd (omega (arith, same, before))

-- one node more
pub joined_next : {P : Type 0} (gives : P → ℕ → ℕ → ℕ → Type 0) (nodes : List (LockedState P)) (old new : ReplayState) (i : ℕ) (n : LockedState P) → can_audit nodes ≡ true
    → HaveJoined gives nodes old i → slice_get nodes i ≡ Some n → IsWhole n.node.journal → IsReplayJoined old new (locked_number n) n.node.boot
    → HaveJoined gives nodes new (i + 1)
joined_next {P} gives nodes old new i n can h there whole j = record { each = each; alone = alone }
  where
    IsThere : LockedState P → Type 0
    IsThere x = (m : MemberState) × (slice_index_or new.members (locked_number x) None ≡ Some m) × IsMadeBelow gives new.air 0 x m

    each : (place : ℕ) (x : LockedState P) → place < i + 1 → slice_get nodes place ≡ Some x → IsThere x
    each place x less at = by (cases_eq place i)
      where
        by : (place ≡ i) ⊎ (place ≡ i → ⊥) → IsThere x
        by (inl is) =
            let both : Some x ≡ Some n = sym at ∙ ap (slice_get nodes) is ∙ there in
            let same : n ≡ x = cc in
            subst IsThere same (j.joins.newcomer, j.joins.here, made_none gives new.air n j.joins.newcomer (locked_number n) whole (own_of n (cluster_at nodes i n can there)) j.joins.fresh)
        by (inr other) =
            let was = h.each place x (omega (arith, less, other)) at in (
              was.0,
              j.joins.others (locked_number x) (λ is. other (one_place nodes place i x n can at there (sym is))) ∙ was.1,
              subst (λ air. IsMadeBelow gives air 0 x was.0) (sym j.air) was.2,
            )

    alone : (number : ℕ) (m : MemberState) → slice_index_or new.members number None ≡ Some m
        → (place : ℕ) × (x : LockedState P) × (place < i + 1) × (slice_get nodes place ≡ Some x) × (locked_number x ≡ number)
    alone number m is = by (cases_eq number (locked_number n))
      where
        by : (number ≡ locked_number n) ⊎ (number ≡ locked_number n → ⊥)
            → (place : ℕ) × (x : LockedState P) × (place < i + 1) × (slice_get nodes place ≡ Some x) × (locked_number x ≡ number)
        by (inl same) = (i, n, omega arith, there, sym same)
        by (inr other) =
            let was = h.alone number m (sym (j.joins.others number other) ∙ is) in
            let before = was.2 in
            (was.0, was.1, omega (arith, before), was.3, was.4)

-- all are there
pub all_joined : {P : Type 0} (gives : P → ℕ → ℕ → ℕ → Type 0) (nodes : List (LockedState P)) (replay : ReplayState) (count : ℕ) → HaveJoined gives nodes replay count
    → length nodes ≤ count → HasFollowed gives nodes replay 0
all_joined gives nodes replay count h all = record {
  each = λ place n there. h.each place n (let within = slice_get_within nodes place n there in omega (arith, within, all)) there;
  alone = λ number m is. let was = h.alone number m is in (was.0, was.1, was.3, was.4);
}
