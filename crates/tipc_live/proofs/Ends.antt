-- What is known at a step before it is made again, and what shows each of its ends, as the code has its parts.
use Rattle.std.specs.List.{All}
use Rattle.std.specs.Prelude.{Option, Some, None, MatchOption, is_some, slice_get, slice_index_or, slice_set}
use Rattle.std.proofs.Common.{◌≡◌, ℕ, ◌+◌, ◌<◌, true, false, arith, get_or, List, length, refl, sym, subst, ◌∙◌, ap}
use Rattle.std.proofs.lemmas.Option.{get_or_from_slice_get, slice_get-get_or, slice_get_within}
use Rattle.tipc_types.specs.declared.node_calls.EventNote.{EventNote}
use Rattle.tipc_types.specs.declared.node_calls.EventNote.TheVariants as note
use Rattle.tipc_pick.specs.Choosing.{Choosing}
use Rattle.tipc_journal.specs.declared.entries.Entry.{Entry}
use Rattle.tipc_node_lock.specs.Locked.{IsWellKept, LockedState}
use Rattle.tipc_replay.specs.Calls.{has_room_at}
use Rattle.tipc_replay.specs.States.{MemberState, ReplayState, has_member, journal_now}
use Rattle.tipc_replay.proofs.InLists.{all_at}
use Rattle.tipc_live.specs.declared.again.Again.{Again}
use Rattle.tipc_live.specs.declared.again.Again.TheVariants as again
use Rattle.tipc_live.specs.declared.answers.Audit.{Audit}
use Rattle.tipc_live.specs.declared.answers.Audit.TheVariants.{Differ, NoFrame, TooOld}
use Rattle.tipc_live.specs.declared.keeping.KeptStep.{KeptStep}
use Rattle.tipc_live.specs.Again.{CanBeAgain, IsOutcomeOf}
use Rattle.tipc_live.specs.Auditing.{ShowsAnswer}
use Rattle.tipc_live.specs.Calls.{begun_call}
use Rattle.tipc_live.specs.Differing.{AreSameIn, TellsDifference}
use Rattle.tipc_live.specs.Following.{AreTurned, HasFollowed, HasOwnStamp, IsKeptOf, IsMadeBelow, number_in}
use Rattle.tipc_live.specs.Nodes.{can_audit, is_of_cluster, locked_number}
use Rattle.tipc_live.proofs.Apart.{cluster_at}
use Rattle.tipc_live.proofs.Comparing.{first_entry, last_entry, stands_there}
use Rattle.tipc_live.proofs.Making.{IsReady, goes_on, shows_differ, shows_no_frame, shows_no_room, shows_too_old}
use Rattle.tipc_live.proofs.Ready.{ready}

-- ---- the node of a step

-- the node that stands at the place of a step
pub node_within : {P : Type 0} (nodes : List (LockedState P)) (k : KeptStep) → IsKeptOf nodes k → k.node < length nodes
node_within nodes k kept = slice_get_within nodes k.node kept.node kept.there

pub node_of : {P : Type 0} (nodes : List (LockedState P)) (k : KeptStep) (n : LockedState P) (kept : IsKeptOf nodes k) → n ≡ get_or nodes k.node n → n ≡ kept.node
node_of nodes k n kept is = is ∙ get_or_from_slice_get nodes k.node kept.node n kept.there

pub node_fits : {P : Type 0} (nodes : List (LockedState P)) (k : KeptStep) (n : LockedState P) → can_audit nodes ≡ true → IsKeptOf nodes k → n ≡ get_or nodes k.node n → is_of_cluster n ≡ true
node_fits nodes k n can kept is = cluster_at nodes k.node n can (kept.there ∙ ap Some (sym (node_of nodes k n kept is)))

-- its journal has the step's first entry and its last
first_of : {P : Type 0} (nodes : List (LockedState P)) (k : KeptStep) (kept : IsKeptOf nodes k) → All IsWellKept nodes → begun_call (slice_get kept.node.node.journal k.begin) ≡ Some kept.placed.step.event
first_of nodes k kept all =
    let w = all_at IsWellKept nodes k.node kept.node all kept.there in
    let begin = ap (λ (x : KeptStep). x.begin) kept.is in
    ap (λ i. begun_call (slice_get kept.node.node.journal i)) begin
    ∙ ap begun_call (first_entry kept.node.node.journal kept.placed (stands_there kept.node.node.journal w.told.whole kept.index kept.placed kept.stands))

last_within : {P : Type 0} (nodes : List (LockedState P)) (k : KeptStep) (kept : IsKeptOf nodes k) → All IsWellKept nodes → k.end < length kept.node.node.journal
last_within nodes k kept all =
    let w = all_at IsWellKept nodes k.node kept.node all kept.there in
    let end = ap (λ (x : KeptStep). x.end) kept.is in
    let last = last_entry kept.node.node.journal kept.placed (stands_there kept.node.node.journal w.told.whole kept.index kept.placed kept.stands) in
    let within = slice_get_within kept.node.node.journal _ _ last in
    omega (arith, end, within)

first_before : {P : Type 0} (nodes : List (LockedState P)) (k : KeptStep) → IsKeptOf nodes k → k.begin < k.end
first_before nodes k kept =
    let begin = ap (λ (x : KeptStep). x.begin) kept.is in
    let end = ap (λ (x : KeptStep). x.end) kept.is in
    omega (arith, begin, end)

-- a step begins there, and ends within the journal
pub begins_there : {P : Type 0} (nodes : List (LockedState P)) (k : KeptStep) (n : LockedState P) (journal : List Entry) → All IsWellKept nodes → (kept : IsKeptOf nodes k) → n ≡ get_or nodes k.node n
    → journal ≡ n.node.journal → begun_call (slice_get journal k.begin) ≡ Some kept.placed.step.event
begins_there {P} nodes k n journal all kept is same =
    ap (λ es. begun_call (slice_get es k.begin)) (same ∙ ap (λ (x : LockedState P). x.node.journal) (node_of nodes k n kept is)) ∙ first_of nodes k kept all

pub ends_within : {P : Type 0} (nodes : List (LockedState P)) (k : KeptStep) (n : LockedState P) (journal : List Entry) → All IsWellKept nodes → IsKeptOf nodes k → n ≡ get_or nodes k.node n
    → journal ≡ n.node.journal → (k.begin < length journal) × (k.end < length journal)
ends_within {P} nodes k n journal all kept is same =
    let size = ap length (same ∙ ap (λ (x : LockedState P). x.node.journal) (node_of nodes k n kept is)) in
    let last = last_within nodes k kept all in
    let first = first_before nodes k kept in
    (omega (arith, size, last, first), omega (arith, size, last))

-- ---- what became of a call

-- where there is no room, nothing is changed
no_room_of : {Q : Type 0} (gives : Q → ℕ → ℕ → ℕ → Type 0) (old new : ReplayState) (heard : List (List ℕ)) (n : ℕ) (k : KeptStep) (call : EventNote) (c c' : Choosing Q)
    → IsOutcomeOf gives old new heard n k.by call c c' again.Full → (new ≡ old) × (has_room_at old.members n ≡ false)
no_room_of gives old new heard n k (note.Arrive bearer number) c c' (bytes, heard_is, (same, full)) = (same.0, full)
no_room_of gives old new heard n k call c c' unmade = (unmade.0.0, unmade.1)

-- ---- the ends of a step

-- What shows each end of a step of the node with that number, of which this is the journal, these are the frames that
-- were heard, and this is the call.
pub record Ends {P Q : Type 0} (gives : P → ℕ → ℕ → ℕ → Type 0) (pick_of : Q → P) (nodes : List (LockedState P)) (old : ReplayState) (cs : List (Choosing Q)) (k : KeptStep) (c : Choosing Q)
    (number : ℕ) (journal : List Entry) (heard : List (List ℕ)) (call : EventNote) : Type 0 where
  pub there : has_member old.members number ≡ true
  pub can : CanBeAgain heard call
  pub compared : (new : ReplayState) (c' : Choosing Q) (replayed : List Entry) (found : Option Audit) → IsOutcomeOf (λ q. gives (pick_of q)) old new heard number k.by call c c' again.Made
      → replayed ≡ journal_now new.members number → MatchOption found (AreSameIn journal replayed k.begin k.end) (TellsDifference number journal replayed k.begin k.end)
      → MatchOption found (HasFollowed gives nodes new (k.by.stamp + 1) × AreTurned pick_of nodes new (slice_set cs k.node c')) (ShowsAnswer gives nodes new)
  pub full : (new : ReplayState) (c' : Choosing Q) (entry : Entry) → IsOutcomeOf (λ q. gives (pick_of q)) old new heard number k.by call c c' again.Full → slice_get journal k.begin ≡ Some entry
      → ShowsAnswer gives nodes new (Differ number (k.begin + 1) entry None)
  pub no_frame : (new : ReplayState) (c' : Choosing Q) → IsOutcomeOf (λ q. gives (pick_of q)) old new heard number k.by call c c' again.NoFrame → ShowsAnswer gives nodes new (NoFrame number (number_in call))
  pub too_old : (new : ReplayState) (c' : Choosing Q) (count : ℕ) → IsOutcomeOf (λ q. gives (pick_of q)) old new heard number k.by call c c' (again.TooOld count)
      → ShowsAnswer gives nodes new (TooOld number (number_in call) count)

-- so it is at the node of a step that is ready
at_its_node : {P Q : Type 0} (gives : P → ℕ → ℕ → ℕ → Type 0) (pick_of : Q → P) (nodes : List (LockedState P)) (old : ReplayState) (cs : List (Choosing Q)) (k : KeptStep) (c : Choosing Q)
    (r : IsReady gives pick_of nodes old cs k c) → Ends gives pick_of nodes old cs k c (locked_number r.kept.node) r.kept.node.node.journal r.kept.node.heard r.kept.placed.step.event
at_its_node {P} {Q} gives pick_of nodes old cs k c r = record {
  there = there (r.followed.each k.node r.kept.node r.kept.there);
  can = r.again;
  compared = λ new c' replayed found outcome replayed_is told. compared new c' found (outcome_at new c' again.Made outcome) (subst (λ es. MatchOption found (AreSameIn r.kept.node.node.journal es k.begin k.end) (TellsDifference (locked_number r.kept.node) r.kept.node.node.journal es k.begin k.end)) replayed_is told);
  full = λ new c' entry outcome is.
      let stays = no_room_of (λ q. gives (pick_of q)) old new r.kept.node.heard (locked_number r.kept.node) k r.kept.placed.step.event c c' outcome in
      subst (λ x. ShowsAnswer gives nodes x (Differ (locked_number r.kept.node) (k.begin + 1) entry None)) (sym stays.0) (shows_no_room gives pick_of nodes old cs k c r entry stays.1 is);
  no_frame = λ new c' outcome. no_frame new c' r.kept.placed.step.event refl outcome;
  too_old = λ new c' count outcome. too_old new c' count r.kept.placed.step.event refl outcome;
}
  where
    there : (m : MemberState) × (slice_index_or old.members (locked_number r.kept.node) None ≡ Some m) × IsMadeBelow gives old.air k.by.stamp r.kept.node m → has_member old.members (locked_number r.kept.node) ≡ true
    there (m, was, made) = ap (λ (o : Option MemberState). is_some o) was

    outcome_at : (new : ReplayState) (c' : Choosing Q) (o : Again) → IsOutcomeOf (λ q. gives (pick_of q)) old new r.kept.node.heard (locked_number r.kept.node) k.by r.kept.placed.step.event c c' o
        → IsOutcomeOf (λ q. gives (pick_of q)) old new r.kept.node.heard (locked_number r.kept.node) r.kept.placed.step.by r.kept.placed.step.event c c' o
    outcome_at new c' o is =
        subst (λ b. IsOutcomeOf (λ q. gives (pick_of q)) old new r.kept.node.heard (locked_number r.kept.node) b r.kept.placed.step.event c c' o) (ap (λ (x : KeptStep). x.by) r.kept.is) is

    compared : (new : ReplayState) (c' : Choosing Q) (found : Option Audit)
        → IsOutcomeOf (λ q. gives (pick_of q)) old new r.kept.node.heard (locked_number r.kept.node) r.kept.placed.step.by r.kept.placed.step.event c c' again.Made
        → MatchOption found (AreSameIn r.kept.node.node.journal (journal_now new.members (locked_number r.kept.node)) k.begin k.end)
        (TellsDifference (locked_number r.kept.node) r.kept.node.node.journal (journal_now new.members (locked_number r.kept.node)) k.begin k.end)
        → MatchOption found (HasFollowed gives nodes new (k.by.stamp + 1) × AreTurned pick_of nodes new (slice_set cs k.node c')) (ShowsAnswer gives nodes new)
    compared new c' None outcome same = goes_on gives pick_of nodes old new cs k c c' r outcome same
    compared new c' (Some (Differ node place entry other)) outcome (node_is, from_one, first) =
        subst (λ x. ShowsAnswer gives nodes new (Differ x place entry other)) (sym node_is) (shows_differ gives pick_of nodes old new cs k c c' r outcome place entry other from_one first)
    compared new c' (Some answer) outcome wrong = absurd wrong

    no_frame : (new : ReplayState) (c' : Choosing Q) (call : EventNote) → r.kept.placed.step.event ≡ call
        → IsOutcomeOf (λ q. gives (pick_of q)) old new r.kept.node.heard (locked_number r.kept.node) k.by call c c' again.NoFrame → ShowsAnswer gives nodes new (NoFrame (locked_number r.kept.node) (number_in call))
    no_frame new c' (note.Arrive bearer number) is (bytes, heard_is, (same, none)) =
        subst (λ x. ShowsAnswer gives nodes x (NoFrame (locked_number r.kept.node) number)) (sym same.0) (shows_no_frame gives pick_of nodes old cs k c r bearer number bytes is heard_is none)
    no_frame new c' call is wrong = absurd wrong

    too_old : (new : ReplayState) (c' : Choosing Q) (count : ℕ) (call : EventNote) → r.kept.placed.step.event ≡ call
        → IsOutcomeOf (λ q. gives (pick_of q)) old new r.kept.node.heard (locked_number r.kept.node) k.by call c c' (again.TooOld count)
        → ShowsAnswer gives nodes new (TooOld (locked_number r.kept.node) (number_in call) count)
    too_old new c' count (note.Arrive bearer number) is (bytes, heard_is, (same, old_one)) =
        subst (λ x. ShowsAnswer gives nodes x (TooOld (locked_number r.kept.node) number count)) (sym same.0) (shows_too_old gives pick_of nodes old cs k c r bearer number count bytes is heard_is old_one)
    too_old new c' count call is wrong = absurd wrong

-- What shows the ends of a step: the node and the chooser stand at its place, and these are their parts.
pub ends_at : {P Q : Type 0} (gives : P → ℕ → ℕ → ℕ → Type 0) (pick_of : Q → P) (nodes : List (LockedState P)) (old : ReplayState) (cs : List (Choosing Q)) (k : KeptStep) (n : LockedState P) (c : Choosing Q)
    (number : ℕ) (journal : List Entry) (heard : List (List ℕ)) (call : EventNote) → can_audit nodes ≡ true → All IsWellKept nodes → IsKeptOf nodes k → HasOwnStamp nodes k → HasFollowed gives nodes old k.by.stamp
    → AreTurned pick_of nodes old cs → n ≡ get_or nodes k.node n → c ≡ get_or cs k.node c → number ≡ locked_number n → journal ≡ n.node.journal → heard ≡ n.heard
    → Some call ≡ begun_call (slice_get journal k.begin) → Ends gives pick_of nodes old cs k c number journal heard call
ends_at {P} {Q} gives pick_of nodes old cs k n c number journal heard call can all kept own followed turned n_is c_is number_is journal_is heard_is call_is =
    let size = turned.count in
    let within = node_within nodes k kept in
    let chooser : slice_get cs k.node ≡ Some c = slice_get-get_or cs k.node c (omega (arith, size, within)) ∙ ap Some (sym c_is) in
    let r = ready gives pick_of nodes old cs k c can all kept own followed turned chooser in
    let node : n ≡ r.kept.node = node_of nodes k n r.kept n_is in
    let both : Some call ≡ Some r.kept.placed.step.event = call_is ∙ begins_there nodes k n journal all r.kept n_is journal_is in
    let named : call ≡ r.kept.placed.step.event = cc in
    subst (λ x. Ends gives pick_of nodes old cs k c x journal heard call) (sym (number_is ∙ ap (λ (x : LockedState P). locked_number x) node))
    (subst (λ x. Ends gives pick_of nodes old cs k c (locked_number r.kept.node) x heard call) (sym (journal_is ∙ ap (λ (x : LockedState P). x.node.journal) node))
    (subst (λ x. Ends gives pick_of nodes old cs k c (locked_number r.kept.node) r.kept.node.node.journal x call) (sym (heard_is ∙ ap (λ (x : LockedState P). x.heard) node))
    (subst (λ x. Ends gives pick_of nodes old cs k c (locked_number r.kept.node) r.kept.node.node.journal r.kept.node.heard x) (sym named) (at_its_node gives pick_of nodes old cs k c r))))
