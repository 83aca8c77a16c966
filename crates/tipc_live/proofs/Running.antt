-- One step more at a node of the replay.
use Rattle.std.specs.List.{All}
use Rattle.std.specs.Prelude.{Option, Some, None, option_to_list}
use Rattle.std.proofs.Common.{◌≡◌, ℕ, ◌+◌, ◌<◌, ◌&&◌, false, cond, nat_lt, arith, List, [], ◌∷◌, ◌++◌, length, length-append, sym, subst, ◌∙◌, ap}
use Rattle.std.proofs.lemmas.Bool.Decides.{nat_tests}
use Rattle.tipc_journal.specs.declared.entries.Entry.{Entry}
use Rattle.tipc_journal.specs.Counting.{StampsRise, is_sent_by_name, names_sent, names_sent_before, stamps}
use Rattle.tipc_journal.specs.Licensed.{AllPicked, IsPicked}
use Rattle.tipc_journal.specs.Prefixes.{list_with}
use Rattle.tipc_journal.specs.Steps.{IsInside, IsWhole, NodeStep, step_entries}
use Rattle.tipc_journal.proofs.CountLaws.{StampsRise_step, names_sent_before_all, names_sent_before_step}
use Rattle.tipc_journal.proofs.LicenceLaws.{AllPicked_same, AllPicked_step}
use Rattle.tipc_journal.proofs.StepLaws.{IsWhole_more}
use Rattle.tipc_node.specs.Works.{addr_of_word}
use Rattle.tipc_node_lock.specs.Journals.{arrival_number, arrival_numbers}
use Rattle.tipc_node_lock.specs.Locked.{LockedState}
use Rattle.tipc_node_lock.proofs.Counted.{arrival_numbers_step}
use Rattle.tipc_replay.specs.States.{MemberState}
use Rattle.tipc_live.specs.Following.{IsRunOf}

-- What a recorded step made of a node of the replay.
pub record RecordsStep (m m' : MemberState) (s : NodeStep) : Type 0 where
  pub own : m'.node.own ≡ m.node.own
  pub boot : m'.node.boot ≡ m.node.boot
  pub past : m'.past ≡ m.past
  pub inside : IsInside s.inside
  pub journal : m'.node.journal ≡ m.node.journal ++ step_entries s
  pub arrived : length m'.arrivals ≡ length m.arrivals + length (option_to_list (arrival_number s.event))

-- ---- turns

-- up to a stamp a step behind it adds no turn
turn_until : (J : List Entry) (s : NodeStep) (x : ℕ) → IsWhole J → IsInside s.inside → (s.by.stamp < x → ⊥)
    → names_sent_before (J ++ step_entries s) x ≡ names_sent_before J x
turn_until J s x whole clean not =
    let later : nat_lt s.by.stamp x ≡ false = grind (arith, nat_tests) in
    let step = names_sent_before_step J s x whole clean in
    let none : ◌≡◌ {A = ℕ} (cond (nat_lt s.by.stamp x && is_sent_by_name s.event s.answer) 1 0) 0 = ap (λ b. cond (b && is_sent_by_name s.event s.answer) 1 0) later in
    omega (arith, step, none)

-- each message by name went to the match that the pick gives, with one step more
picked_more : (gives : ℕ → ℕ → ℕ → Type 0) (own : ℕ) (J : List Entry) (s : NodeStep) → IsWhole J → IsInside s.inside → All (λ x. x < s.by.stamp) (stamps J)
    → AllPicked gives (names_sent_before J) (addr_of_word own) J → IsPicked gives (names_sent J) (addr_of_word own) J s.event s.answer
    → AllPicked gives (names_sent_before (J ++ step_entries s)) (addr_of_word own) (J ++ step_entries s)
picked_more gives own J s whole clean below all one =
    AllPicked_step gives (names_sent_before (J ++ step_entries s)) (addr_of_word own) J s whole clean
    (AllPicked_same gives (names_sent_before J) (names_sent_before (J ++ step_entries s)) (addr_of_word own) J s.by.stamp below
    (λ x less. sym (turn_until J s x whole clean (λ more. absurd (omega (arith, less, more))))) all)
    (subst (λ t. IsPicked gives t (addr_of_word own) J s.event s.answer) turn one)
  where
    turn : names_sent J ≡ names_sent_before (J ++ step_entries s) s.by.stamp
    turn = sym (turn_until J s s.by.stamp whole clean (λ more. absurd (omega (arith, more))) ∙ names_sent_before_all J s.by.stamp below)

-- ---- arrivals

-- a list with one more, where there is one
longer : (xs : List ℕ) (more : Option ℕ) → length (list_with xs more) ≡ length xs + length (option_to_list more)
longer xs None = omega arith
longer xs (Some x) = length-append xs (x ∷ [])

-- ---- the run

pub run_more : {P : Type 0} (gives : P → ℕ → ℕ → ℕ → Type 0) (n : LockedState P) (m m' : MemberState) (s : NodeStep) → IsRunOf gives n m → RecordsStep m m' s
    → All (λ x. x < s.by.stamp) (stamps m.node.journal)
    → IsPicked (gives n.chooser.pick) (names_sent m.node.journal) (addr_of_word n.node.own) m.node.journal s.event s.answer → IsRunOf gives n m'
run_more gives n m m' s r h below picked = record {
  own = h.own ∙ r.own;
  boot = h.boot ∙ r.boot;
  past = h.past ∙ r.past;
  whole = subst IsWhole (sym h.journal) (IsWhole_more m.node.journal s r.whole h.inside);
  rise = subst StampsRise (sym h.journal) (StampsRise_step m.node.journal s r.whole h.inside r.rise below);
  picked =
      subst (λ J. AllPicked (gives n.chooser.pick) (names_sent_before J) (addr_of_word n.node.own) J) (sym h.journal)
      (picked_more (gives n.chooser.pick) n.node.own m.node.journal s r.whole h.inside below r.picked picked);
  arrived =
      let numbers = ap length (ap arrival_numbers h.journal ∙ arrival_numbers_step m.node.journal s r.whole h.inside) in
      let size = longer (arrival_numbers m.node.journal) (arrival_number s.event) in
      let more = h.arrived in
      let so_far = r.arrived in
      omega (arith, numbers, size, more, so_far);
}
