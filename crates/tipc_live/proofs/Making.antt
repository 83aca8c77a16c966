-- What becomes of a step that is to be made again, and what that shows.
use Rattle.std.specs.List.{range_with_len}
use Rattle.std.specs.Prelude.{Option, Some, None, option_map, slice_get, slice_index_or, slice_set, unwrap_or}
use Rattle.std.proofs.Common.{◌≡◌, ℕ, ◌+◌, ◌-◌, ◌%◌, ◌^◌, ◌≤◌, true, false, arith, List, length, sym, subst, ◌∙◌, ap, get_or-set_same}
use Rattle.tipc_types.specs.declared.node_calls.EventNote.TheVariants.{Arrive}
use Rattle.tipc_pick.specs.Choosing.{Choosing}
use Rattle.tipc_journal.specs.declared.entries.Entry.{Entry}
use Rattle.tipc_journal.specs.Counting.{names_sent}
use Rattle.tipc_journal.specs.Room.{has_journal_room}
use Rattle.tipc_journal.specs.Steps.{IsWhole}
use Rattle.tipc_node_lock.specs.Journals.{arrival_numbers}
use Rattle.tipc_node_lock.specs.Locked.{LockedState}
use Rattle.tipc_replay.specs.Calls.{has_room_at}
use Rattle.tipc_replay.specs.States.{MemberState, ReplayState, journal_now}
use Rattle.tipc_replay.proofs.LookUps.{place_within}
use Rattle.tipc_live.specs.declared.again.Again.TheVariants.{Made}
use Rattle.tipc_live.specs.declared.answers.Audit.TheVariants.{Differ, NoFrame, TooOld}
use Rattle.tipc_live.specs.declared.keeping.KeptStep.{KeptStep}
use Rattle.tipc_live.specs.Again.{CanBeAgain, HasNoFrame, IsOutcomeOf, IsTooOld}
use Rattle.tipc_live.specs.Auditing.{DiffersAt, ShowsAnswer}
use Rattle.tipc_live.specs.Differing.{AreSameIn, DifferFirst}
use Rattle.tipc_live.specs.Following.{AreTurned, HasFollowed, HasOwnStamp, IsKeptOf, IsMadeBelow}
use Rattle.tipc_live.specs.Nodes.{can_audit, locked_number}
use Rattle.tipc_live.proofs.Followed.{followed_next}
use Rattle.tipc_live.proofs.Outcomes.{StepsAgain, made_again}
use Rattle.tipc_live.proofs.Showing.{shows_difference, shows_full, stops_at}
use Rattle.tipc_live.proofs.Turning.{journal_of, turned_next}

-- What is known before a step is made again: the nodes, the step, how far the replay is, and the chooser of its node.
pub record IsReady {P Q : Type 0} (gives : P → ℕ → ℕ → ℕ → Type 0) (pick_of : Q → P) (nodes : List (LockedState P)) (old : ReplayState) (cs : List (Choosing Q)) (k : KeptStep) (c : Choosing Q) : Type 0 where
  pub can : can_audit nodes ≡ true
  pub kept : IsKeptOf nodes k
  pub own : HasOwnStamp nodes k
  pub followed : HasFollowed gives nodes old k.by.stamp
  pub turned : AreTurned pick_of nodes old cs
  pub chooser : slice_get cs k.node ≡ Some c
  pub well : (place : ℕ) (n : LockedState P) → slice_get nodes place ≡ Some n → IsWhole n.node.journal × (arrival_numbers n.node.journal ≡ range_with_len 0 (length n.heard))
  pub again : CanBeAgain kept.node.heard kept.placed.step.event

-- ---- a step that was made

-- it is a step of its node
steps_again : {P Q : Type 0} (gives : P → ℕ → ℕ → ℕ → Type 0) (pick_of : Q → P) (nodes : List (LockedState P)) (old new : ReplayState) (cs : List (Choosing Q)) (k : KeptStep) (c c' : Choosing Q)
    (r : IsReady gives pick_of nodes old cs k c) (m : MemberState) → slice_index_or old.members (locked_number r.kept.node) None ≡ Some m → IsMadeBelow gives old.air k.by.stamp r.kept.node m
    → IsOutcomeOf (λ q. gives (pick_of q)) old new r.kept.node.heard (locked_number r.kept.node) r.kept.placed.step.by r.kept.placed.step.event c c' Made
    → StepsAgain gives r.kept.node old new (locked_number r.kept.node) r.kept.placed.step.by r.kept.placed.step.event m c c'
steps_again gives pick_of nodes old new cs k c c' r m was made outcome =
    let chooser = r.turned.each k.node r.kept.node c r.kept.there r.chooser in
    made_again gives pick_of r.kept.node old new (locked_number r.kept.node) r.kept.placed.step.by r.kept.placed.step.event m c c' was made.run.own chooser.0
    (chooser.1 ∙ ap (λ J. names_sent J % 2 ^ 64) (journal_of old.members (locked_number r.kept.node) m was)) r.again outcome

-- the journal of the replay then
journal_after : {P Q : Type 0} (gives : P → ℕ → ℕ → ℕ → Type 0) (n : LockedState P) (old new : ReplayState) (number : ℕ) (m : MemberState) (c c' : Choosing Q)
    → slice_index_or old.members number None ≡ Some m → (after : MemberState) → new.members ≡ slice_set old.members number (Some after) → journal_now new.members number ≡ after.node.journal
journal_after gives n old new number m c c' was after members =
    journal_of new.members number after (ap (λ ms. slice_index_or ms number None) members ∙ get_or-set_same old.members number (Some after) None (place_within old.members number m was))

-- all of it is what the journal keeps
pub goes_on : {P Q : Type 0} (gives : P → ℕ → ℕ → ℕ → Type 0) (pick_of : Q → P) (nodes : List (LockedState P)) (old new : ReplayState) (cs : List (Choosing Q)) (k : KeptStep) (c c' : Choosing Q)
    (r : IsReady gives pick_of nodes old cs k c)
    → IsOutcomeOf (λ q. gives (pick_of q)) old new r.kept.node.heard (locked_number r.kept.node) r.kept.placed.step.by r.kept.placed.step.event c c' Made
    → AreSameIn r.kept.node.node.journal (journal_now new.members (locked_number r.kept.node)) k.begin k.end
    → HasFollowed gives nodes new (k.by.stamp + 1) × AreTurned pick_of nodes new (slice_set cs k.node c')
goes_on {P} {Q} gives pick_of nodes old new cs k c c' r outcome same = by (r.followed.each k.node r.kept.node r.kept.there)
  where
    by : (m : MemberState) × (slice_index_or old.members (locked_number r.kept.node) None ≡ Some m) × IsMadeBelow gives old.air k.by.stamp r.kept.node m
        → HasFollowed gives nodes new (k.by.stamp + 1) × AreTurned pick_of nodes new (slice_set cs k.node c')
    by (m, was, made) =
        let s = steps_again gives pick_of nodes old new cs k c c' r m was made outcome in
        let journal = journal_after gives r.kept.node old new (locked_number r.kept.node) m c c' was s.steps.after s.steps.members in
        let begin = ap (λ (x : KeptStep). x.begin) r.kept.is in
        let end = ap (λ (x : KeptStep). x.end) r.kept.is in
        let all : AreSameIn r.kept.node.node.journal s.steps.after.node.journal (length r.kept.placed.before) (length r.kept.placed.before + 1 + length r.kept.placed.step.inside) =
        λ j low high. ap (λ es. slice_get es j) (sym journal) ∙ same j (omega (arith, begin, low)) (omega (arith, end, high)) in (
          followed_next gives nodes old new k r.kept m s.sent r.can r.own r.followed r.well was made s.steps all,
          subst (λ x. AreTurned pick_of nodes new (slice_set cs k.node x)) (sym s.chooser)
              (turned_next gives pick_of nodes old new cs k r.kept m s.sent c r.can r.turned r.chooser made.run.whole was s.steps),
        )

-- an entry of it isn't
pub shows_differ : {P Q : Type 0} (gives : P → ℕ → ℕ → ℕ → Type 0) (pick_of : Q → P) (nodes : List (LockedState P)) (old new : ReplayState) (cs : List (Choosing Q)) (k : KeptStep) (c c' : Choosing Q)
    (r : IsReady gives pick_of nodes old cs k c)
    → IsOutcomeOf (λ q. gives (pick_of q)) old new r.kept.node.heard (locked_number r.kept.node) r.kept.placed.step.by r.kept.placed.step.event c c' Made
    → (place : ℕ) (entry : Entry) (other : Option Entry) → 1 ≤ place
    → DifferFirst r.kept.node.node.journal (journal_now new.members (locked_number r.kept.node)) k.begin k.end (place - 1) entry other
    → ShowsAnswer gives nodes new (Differ (locked_number r.kept.node) place entry other)
shows_differ {P} {Q} gives pick_of nodes old new cs k c c' r outcome place entry other from_one d = (from_one, by (r.followed.each k.node r.kept.node r.kept.there))
  where
    by : (m : MemberState) × (slice_index_or old.members (locked_number r.kept.node) None ≡ Some m) × IsMadeBelow gives old.air k.by.stamp r.kept.node m
        → DiffersAt gives nodes new (locked_number r.kept.node) (place - 1) entry other
    by (m, was, made) =
        let s = steps_again gives pick_of nodes old new cs k c c' r m was made outcome in
        let journal = journal_after gives r.kept.node old new (locked_number r.kept.node) m c c' was s.steps.after s.steps.members in
        let begin = ap (λ (x : KeptStep). x.begin) r.kept.is in
        let end = ap (λ (x : KeptStep). x.end) r.kept.is in
        shows_difference gives nodes old new k r.kept m s.sent (place - 1) entry other r.can r.followed was made s.steps
        (subst (λ J. DifferFirst r.kept.node.node.journal J (length r.kept.placed.before) (length r.kept.placed.before + 1 + length r.kept.placed.step.inside) (place - 1) entry other) journal
        (subst (λ b. DifferFirst r.kept.node.node.journal (journal_now new.members (locked_number r.kept.node)) b (length r.kept.placed.before + 1 + length r.kept.placed.step.inside) (place - 1) entry other) begin
        (subst (λ e. DifferFirst r.kept.node.node.journal (journal_now new.members (locked_number r.kept.node)) k.begin e (place - 1) entry other) end d)))

-- ---- a step that wasn't made

-- the journal of the replay has no room for it
pub shows_no_room : {P Q : Type 0} (gives : P → ℕ → ℕ → ℕ → Type 0) (pick_of : Q → P) (nodes : List (LockedState P)) (replay : ReplayState) (cs : List (Choosing Q)) (k : KeptStep) (c : Choosing Q)
    (r : IsReady gives pick_of nodes replay cs k c) (entry : Entry) → has_room_at replay.members (locked_number r.kept.node) ≡ false → slice_get r.kept.node.node.journal k.begin ≡ Some entry
    → ShowsAnswer gives nodes replay (Differ (locked_number r.kept.node) (k.begin + 1) entry None)
shows_no_room {P} {Q} gives pick_of nodes replay cs k c r entry full is = (omega arith, by (r.followed.each k.node r.kept.node r.kept.there))
  where
    by : (m : MemberState) × (slice_index_or replay.members (locked_number r.kept.node) None ≡ Some m) × IsMadeBelow gives replay.air k.by.stamp r.kept.node m
        → DiffersAt gives nodes replay (locked_number r.kept.node) (k.begin + 1 - 1) entry None
    by (m, was, made) =
        let begin = ap (λ (x : KeptStep). x.begin) r.kept.is in
        let place : length r.kept.placed.before ≡ k.begin + 1 - 1 = omega (arith, begin) in
        let no_room : has_journal_room m.node.journal ≡ false = sym (ap (λ (o : Option MemberState). unwrap_or (option_map (λ (x : MemberState). has_journal_room x.node.journal) o) true) was) ∙ full in
        subst (λ p. DiffersAt gives nodes replay (locked_number r.kept.node) p entry None) place
        (shows_full gives nodes replay k r.kept m entry r.followed was made no_room (ap (slice_get r.kept.node.node.journal) (sym begin) ∙ is))

-- no frame could arrive
pub shows_no_frame : {P Q : Type 0} (gives : P → ℕ → ℕ → ℕ → Type 0) (pick_of : Q → P) (nodes : List (LockedState P)) (replay : ReplayState) (cs : List (Choosing Q)) (k : KeptStep) (c : Choosing Q)
    (r : IsReady gives pick_of nodes replay cs k c) (bearer number : ℕ) (bytes : List ℕ) → r.kept.placed.step.event ≡ Arrive bearer number → slice_get r.kept.node.heard number ≡ Some bytes
    → HasNoFrame replay.air (locked_number r.kept.node) bearer bytes → ShowsAnswer gives nodes replay (NoFrame (locked_number r.kept.node) number)
shows_no_frame gives pick_of nodes replay cs k c r bearer number bytes event heard none = (bearer, bytes, stops_at gives nodes replay k r.kept bearer number bytes r.followed event heard, none)

-- the frame that could arrive is too old
pub shows_too_old : {P Q : Type 0} (gives : P → ℕ → ℕ → ℕ → Type 0) (pick_of : Q → P) (nodes : List (LockedState P)) (replay : ReplayState) (cs : List (Choosing Q)) (k : KeptStep) (c : Choosing Q)
    (r : IsReady gives pick_of nodes replay cs k c) (bearer number count : ℕ) (bytes : List ℕ) → r.kept.placed.step.event ≡ Arrive bearer number → slice_get r.kept.node.heard number ≡ Some bytes
    → IsTooOld replay (locked_number r.kept.node) bearer bytes count → ShowsAnswer gives nodes replay (TooOld (locked_number r.kept.node) number count)
shows_too_old gives pick_of nodes replay cs k c r bearer number count bytes event heard old = (bearer, bytes, stops_at gives nodes replay k r.kept bearer number bytes r.followed event heard, old)
