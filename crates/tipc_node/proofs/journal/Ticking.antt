-- A tick: it happens to all neighbours, then subscriptions time out, and it passes for the others. The journal tells of the node after it.
use Rattle.std.specs.Prelude.{◌==◌, nat_le, not}
use Rattle.std.specs.List.{list_all, list_any}
use Rattle.std.proofs.Common.{◌-◌, ◌≡◌, ◌&&◌, ◌||◌, ℕ, Bool, true, false, List, [], ◌∷◌, ◌++◌, Option, cond, filter, fold, length, map, refl, sym, ap, ◌∙◌, subst, take}
use Rattle.std.proofs.Math.Seq.{take-append_seam}
use Rattle.std.proofs.lemmas.Bool.{and_parts}
use Rattle.std.proofs.lemmas.List.Folds.{list_any-append}
use Rattle.tipc_types.specs.declared.node_calls.Answer.TheVariants as answer
use Rattle.tipc_types.specs.declared.node_calls.By.{By}
use Rattle.tipc_types.specs.declared.node_calls.EventNote.TheVariants as event
use Rattle.tipc_types.specs.Watching.{in_order}
use Rattle.tipc_types.specs.Tables.{is_of}
use Rattle.tipc_journal.specs.declared.entries.Entry.{Entry}
use Rattle.tipc_journal.specs.declared.entries.Entry.TheVariants as entry
use Rattle.tipc_journal.specs.Dues.{NothingDue}
use Rattle.tipc_journal.specs.Licensed.{events_given}
use Rattle.tipc_journal.specs.Refusals.{is_subscribed}
use Rattle.tipc_journal.specs.Steps.{IsInside, step_entries}
use Rattle.tipc_journal.specs.Subscriptions.{timeouts}
use Rattle.tipc_topology.specs.Changing.{due, ended_at, passed}
use Rattle.tipc_topology.specs.Watchers.{is_due, removed, Watcher}
use Rattle.tipc_topology.proofs.Keeping.{all_removed_leave, none_due, Leaves}
use Rattle.tipc_sockets.specs.SocketTables.{with_watchers, SocketTable}
use Rattle.tipc_sockets.specs.Telling.{after_entry}
use Rattle.tipc_sockets.proofs.StepsTold.{told_passed}
use Rattle.tipc_sockets.proofs.Subscribers.{timeouts_told}
use Rattle.tipc_node.specs.declared.neighbours.Upkeep.{Upkeep}
use Rattle.tipc_node.specs.declared.neighbours.Upkeep.TheVariants as upkeep
use Rattle.tipc_node.specs.Calls.{tick_plan, tick_work, upkeep_plan, upkeep_work}
use Rattle.tipc_node.specs.declared.neighbours.Neighbour.{Neighbour}
use Rattle.tipc_node.specs.Discovery.{next_tick}
use Rattle.tipc_broadcast.specs.Casting.{Casting}
use Rattle.tipc_broadcast.specs.Deeds.{after_deeds}
use Rattle.tipc_node.specs.Nodes.{NodeState, after_all, upkeep_note, entries_all, is_change, mended_by, parts_of, step_of, upkeep_deeds}
use Rattle.tipc_node.specs.Plans.{concluded_by}
use Rattle.tipc_node.specs.Sockets.{timeouts_of}
use Rattle.tipc_node.specs.Telling.{IsTold}
use Rattle.tipc_node.specs.Works.{Work, addr_of_word, noted}
use Rattle.tipc_node.proofs.journal.Calling.{done_answered}
use Rattle.tipc_node.proofs.work.Changes.{all_changes}
use Rattle.tipc_node.proofs.journal.Concluding.{IsCall, same_made}
use Rattle.tipc_node.proofs.journal.Happening.{upkeep_worked}
use Rattle.tipc_node.proofs.journal.Noting.{AreQuiet, IsQuiet, IsWorked, all_timed_out}

-- ---- which are due

due_same : (w v : Watcher) → Leaves w v → is_due v ≡ is_due w
due_same w v same = (λ i. not (same.ended i) && (not ((same.asked i).timeout == 4294967295) && nat_le (same.left i) 1))

due_left : (f : Watcher → Watcher) (ws : List Watcher) → ((w : Watcher) → Leaves w (f w)) → due (map f ws) ≡ due ws
due_left f [] same = refl
due_left f (w ∷ ws) same =
    ap (λ b. map (λ (v : Watcher). v.number) (cond b (f w ∷ filter is_due (map f ws)) (filter is_due (map f ws)))) (due_same w (f w) (same w))
    ∙ by (is_due w) (due_left f ws same)
  where
    by : (b : Bool) → due (map f ws) ≡ due ws
        → map (λ (v : Watcher). v.number) (cond b (f w ∷ filter is_due (map f ws)) (filter is_due (map f ws))) ≡ map (λ (v : Watcher). v.number) (cond b (w ∷ filter is_due ws) (filter is_due ws))
    by true later = (λ i. (same w).number i ∷ later i)
    by false later = later

-- a change of a link or a contact leaves those that are due
due_after : (s : SocketTable) (e : Entry) → is_change e ≡ true → due (after_entry s e).watchers.kept ≡ due s.watchers.kept
due_after s (entry.LinkUp peer bearer own theirs) is = refl
due_after s (entry.LinkDown peer bearer because shown) is = refl
due_after s (entry.ContactUp peer numbers) is = refl
due_after s (entry.ContactDown peer numbers states shown) is =
    due_left (λ w. fold removed w (in_order (filter (is_of peer.word) s.names))) s.watchers.kept (λ w. all_removed_leave w (in_order (filter (is_of peer.word) s.names)))
due_after s e is = absurd cc

pub due_changes : (s : SocketTable) (es : List Entry) → list_all is_change es ≡ true → due (fold after_entry s es).watchers.kept ≡ due s.watchers.kept
due_changes s [] all = refl
due_changes s (e ∷ es) all =
    let both = and_parts (is_change e) (list_all is_change es) all in
    due_changes (after_entry s e) es both.1 ∙ due_after s e both.0

-- ---- subscriptions end one after another

pub ends_each : (s : SocketTable) (numbers : List ℕ) → fold after_entry s (map entry.TimedOut numbers) ≡ with_watchers s (fold (λ t number. ended_at number t) s.watchers numbers)
ends_each s [] = refl
ends_each s (number ∷ numbers) = ends_each (with_watchers s (ended_at number s.watchers)) numbers

-- none of them begins a subscription
one_unmade : (own : ℕ) (e : Entry) → IsQuiet own e → is_subscribed e ≡ false
one_unmade own (entry.LinkUp peer bearer mine theirs) quiet = refl
one_unmade own (entry.LinkDown peer bearer because shown) quiet = refl
one_unmade own (entry.Dropped reason) quiet = refl
one_unmade own (entry.ContactUp peer numbers) quiet = refl
one_unmade own (entry.ContactDown peer numbers states shown) quiet = refl
one_unmade own e quiet = absurd quiet

all_unmade : (own : ℕ) (es : List Entry) → AreQuiet own es → list_any is_subscribed es ≡ false
all_unmade own [] quiet = refl
all_unmade own (e ∷ es) quiet = ap (λ b. b || list_any is_subscribed es) (one_unmade own e quiet.0) ∙ all_unmade own es quiet.1

timeouts_unmade : (numbers : List ℕ) → list_any is_subscribed (map entry.TimedOut numbers) ≡ false
timeouts_unmade [] = refl
timeouts_unmade (number ∷ numbers) = timeouts_unmade numbers

-- ---- the call

-- the work before the tick passes for the subscriptions
abbrev pub before_pass : NodeState → Work
before_pass n = noted (upkeep_work upkeep.Tick n) (timeouts_of n.sockets)

pub tick_call : (n : NodeState) (by : By) → IsTold n → IsInside (tick_work n).inside → IsCall n by event.Tick answer.Done (before_pass n) (tick_work n).sockets
tick_call n by h inner =
    let own = addr_of_word n.own in
    let es = entries_all 0 (parts_of upkeep.Tick n) in
    let numbers = due n.sockets.watchers.kept in
    let first = upkeep_worked n upkeep.Tick h in
    let s = (upkeep_work upkeep.Tick n).sockets in
    let ends = all_timed_out n NothingDue [] [] (upkeep_work upkeep.Tick n) numbers first.0 in
    let asked : timeouts_of n.sockets ≡ map entry.TimedOut (timeouts n.journal) =
    ap (λ (ns : List ℕ). map entry.TimedOut ns) (timeouts_told n.journal [] (events_given n.journal) n.sockets.watchers refl (h.sockets.told NothingDue).watchers) in
    let worked = subst (λ es. IsWorked n NothingDue NothingDue [] es (before_pass n)) asked ends in
    let st = step_of by event.Tick (before_pass n).inside answer.Done in
    let changes : list_all is_change es ≡ true = all_changes 0 (parts_of upkeep.Tick n) in
    let same : due s.watchers.kept ≡ numbers = due_changes n.sockets es changes in
    let ended : (before_pass n).sockets ≡ with_watchers s (fold (λ t number. ended_at number t) s.watchers (due s.watchers.kept)) =
    ends_each s numbers ∙ ap (λ (ns : List ℕ). with_watchers s (fold (λ t number. ended_at number t) s.watchers ns)) (sym same) in
    let over : due (before_pass n).sockets.watchers.kept ≡ [] = ap (λ (x : SocketTable). due x.watchers.kept) ended ∙ none_due s.watchers first.0.told.watchers.kept in
    let unmade : list_any is_subscribed (before_pass n).inside ≡ false =
    list_any-append is_subscribed es (timeouts_of n.sockets)
    ∙ ap (λ b. b || list_any is_subscribed (timeouts_of n.sockets)) (all_unmade n.own es first.1)
    ∙ timeouts_unmade numbers in
    record {
      answered = done_answered own n.journal by event.Tick (before_pass n).inside answer.Done refl refl;
      worked = worked;
      kept = record {
        told = λ later. told_passed own n.journal st (before_pass n).sockets later h.whole inner worked.told (λ ports. refl) refl (λ q. refl) refl (λ k. refl) unmade over;
        boot = ap (λ p. p.boot) worked.ports;
        reached = worked.reached;
        unmade = λ port above. same_made n st (before_pass n).sockets.ports.made (before_pass n).sockets.ports.boot port h inner refl (ap (λ p. p.boot) worked.ports) (ap (λ p. p.made) worked.ports) above;
      };
      full = tt;
    }

-- ---- the node after it

-- the parts of the node are those of the work on a tick
pub ticks_from : (n : NodeState) (by : By) (ticks : ℕ) (v : Casting) (xs : List (Option Neighbour)) (mid s : SocketTable) (journal : List Entry) (promised : ℕ) → ticks ≡ next_tick n.ticks → v ≡ after_deeds (upkeep_deeds upkeep.Tick n) n.casting → xs ≡ after_all (parts_of upkeep.Tick n)
    → mid ≡ fold after_entry n.sockets (entries_all 0 (parts_of upkeep.Tick n))
    → s ≡ with_watchers mid (passed (fold (λ t number. ended_at number t) mid.watchers (due mid.watchers.kept)))
    → journal ≡ n.journal ++ step_entries (step_of by event.Tick (entries_all 0 (parts_of upkeep.Tick n) ++ timeouts_of n.sockets) answer.Done) → promised ≡ n.promised - 1
    → record n { ticks = ticks; neighbours = xs; sockets = s; journal = journal; casting = v; promised = promised } ≡ concluded_by n by event.Tick (tick_plan n) (tick_work n)
ticks_from n by ticks v xs mid s journal promised counted cast neighbours between passes told used =
    (λ i. record n { ticks = counted i; neighbours = neighbours i; sockets = sockets i; journal = told i; casting = cast i; promised = used i })
  where
    first : SocketTable
    first = fold after_entry n.sockets (entries_all 0 (parts_of upkeep.Tick n))

    numbers : List ℕ
    numbers = due n.sockets.watchers.kept

    sockets : s ≡ (tick_work n).sockets
    sockets =
        passes
        ∙ ap (λ (x : SocketTable). with_watchers x (passed (fold (λ t number. ended_at number t) x.watchers (due x.watchers.kept)))) between
        ∙ ap (λ (ns : List ℕ). with_watchers first (passed (fold (λ t number. ended_at number t) first.watchers ns)))
        (due_changes n.sockets (entries_all 0 (parts_of upkeep.Tick n)) (all_changes 0 (parts_of upkeep.Tick n)))
        ∙ sym (ap (λ (x : SocketTable). with_watchers x (passed x.watchers)) (ends_each first numbers))

-- what stands in front of what was added behind it
pub front_of : (told more all : List Entry) (count : ℕ) → all ≡ told ++ more → count ≡ length told → take count all ≡ told
front_of told more all count is counted = (λ i. take (counted i) (is i)) ∙ take-append_seam told more

-- the parts of the node are those of the work on all neighbours
pub takes_from : (n : NodeState) (by : By) (d : Upkeep) (mended : Bool × Bool) (v : Casting) (xs : List (Option Neighbour)) (s : SocketTable) (journal : List Entry) (promised : ℕ) → mended ≡ mended_by d n.mended → v ≡ after_deeds (upkeep_deeds d n) n.casting → xs ≡ after_all (parts_of d n)
    → s ≡ fold after_entry n.sockets (entries_all 0 (parts_of d n))
    → journal ≡ n.journal ++ step_entries (step_of by (upkeep_note d) (entries_all 0 (parts_of d n)) answer.Done) → promised ≡ n.promised - 1
    → record n { mended = mended; neighbours = xs; sockets = s; journal = journal; casting = v; promised = promised } ≡ concluded_by n by (upkeep_note d) (upkeep_plan n d) (upkeep_work d n)
takes_from n by d mended v xs s journal promised repaired cast neighbours sockets told used =
    (λ i. record n { mended = repaired i; neighbours = neighbours i; sockets = sockets i; journal = told i; casting = cast i; promised = used i })
