-- A tick that tells nothing of links and contacts adds nothing to what is under way.
use Rattle.std.specs.Prelude.{cond, count_by, map}
use Rattle.std.proofs.Common.{◌≡◌, ◌≤◌, ◌∙◌, ◌+◌, ℕ, suc, List, [], ◌∷◌, ◌++◌, Option, Some, None, refl, ap, arith}
use Rattle.std.proofs.lemmas.List.Sums.{sum_by-append, sum_by-cons}
use Rattle.tipc_types.specs.Address.{node_word}
use Rattle.tipc_types.specs.declared.node_calls.Answer.{Answer}
use Rattle.tipc_types.specs.declared.node_calls.Answer.TheVariants as answer
use Rattle.tipc_types.specs.declared.node_calls.By.{By}
use Rattle.tipc_types.specs.declared.node_calls.EventNote.TheVariants.{Tick}
use Rattle.tipc_outside.specs.declared.outgoing.Outgoing.{Outgoing}
use Rattle.tipc_journal.specs.declared.entries.Entry.TheVariants.{TimedOut}
use Rattle.tipc_journal.specs.Steps.{step_entries}
use Rattle.tipc_send_window.specs.Sending.{Sending}
use Rattle.tipc_broadcast.specs.Casting.{Casting, shown}
use Rattle.tipc_broadcast.specs.Deeds.{after_deeds}
use Rattle.tipc_topology.specs.Changing.{due}
use Rattle.tipc_node.specs.declared.neighbours.Neighbour.{Neighbour}
use Rattle.tipc_node.specs.declared.neighbours.Upkeep.TheVariants as upkeep
use Rattle.tipc_node.specs.Calls.{CallTurn, Performs}
use Rattle.tipc_node.specs.Casting.{contact_deeds}
use Rattle.tipc_node.specs.Neighbours.{Done}
use Rattle.tipc_node.specs.Nodes.{NodeState, after_all, after_one, change_entries, changes_at, deeds_all, entries_all, is_change, part_all, part_at, parts_of, step_of}
use Rattle.tipc_node.specs.Sockets.{kept_answer, timeouts_of}
use Rattle.tipc_node.specs.Telling.{IsTold}
use Rattle.tipc_settling.specs.Loads.{AddsNoneTo, AddsNothing, IsCalm, PutsNothing, accepts_weight, accepted_weight, link_sum, peer_sum, put_into, under_way}
use Rattle.tipc_settling.proofs.Packets.{CountsPackets, put_into_counts, ticked_adds, under_way_counts}
use Rattle.tipc_settling.proofs.Calm.{AreSeen, calm_inside, concluded_adds, no_changes, by_loads, seen_first}

-- ---- the tick

timeouts_quiet : (numbers : List ℕ) → accepted_weight (map TimedOut numbers) ≡ 0
timeouts_quiet [] = refl
timeouts_quiet (number ∷ numbers) =
    let all = sum_by-cons accepts_weight (TimedOut number) (map TimedOut numbers) in
    let others = timeouts_quiet numbers in
    omega (arith, all, others)

-- a calm tick tells nothing of any neighbour
pub tick_entries : (n n' : NodeState) (by : By) (frames : List Outgoing) (answered : Answer) → Performs n by Tick n' frames answered → IsCalm n n' → count_by is_change (entries_all 0 (parts_of upkeep.Tick n)) ≡ 0
tick_entries n n' by frames answered h calm =
    let entries = entries_all 0 (parts_of upkeep.Tick n) in
    let timed = timeouts_of n.sockets in
    let both = sum_by-append (λ e. cond (is_change e) 1 0) entries timed in
    let all = calm_inside n n' by Tick (entries ++ timed) (kept_answer answer.Done) (ap (λ (m : NodeState). m.journal) h.carried.0) calm in
    omega (arith, both, all)

-- ---- with any count of send windows

module _ (size : Sending → ℕ) (counts : CountsPackets size) (casts : Sending → ℕ) (cast_counts : CountsPackets casts) where
  -- ---- one neighbour after the other

  one_fewer : (number : ℕ) (v : Casting) (o : Option Neighbour) → ((x : Neighbour) → o ≡ Some x → x.pair.bearer ≤ 1) → changes_at (part_at upkeep.Tick number v o) ≡ []
      → peer_sum size (after_one (part_at upkeep.Tick number v o)) ≤ peer_sum size o
  one_fewer number v None seen none = omega arith
  one_fewer number v (Some x) seen none = ticked_adds size counts x.pair (shown v (node_word number)) (seen x refl) none

  -- where nothing is told of any, none has more packets, and the broadcast link isn't told anything
  record AreCalm (number : ℕ) (xs : List (Option Neighbour)) (parts : List (Option Done)) : Type 0 where
    entries : entries_all number parts ≡ []
    deeds : deeds_all number parts ≡ []
    fewer : link_sum size (after_all parts) ≤ link_sum size xs

  all_calm : (number : ℕ) (v : Casting) (xs : List (Option Neighbour)) → AreSeen xs → count_by is_change (entries_all number (part_all upkeep.Tick number v xs)) ≡ 0
      → AreCalm number xs (part_all upkeep.Tick number v xs)
  unfolding part_all entries_all deeds_all after_all link_sum
  all_calm number v [] seen none = record { entries = refl; deeds = refl; fewer = omega arith }
  all_calm number v (o ∷ xs) seen none =
      let p = part_at upkeep.Tick number v o in
      let w = after_deeds (contact_deeds number (changes_at p)) v in
      let rest = part_all upkeep.Tick (number + 1) w xs in
      let parts = sum_by-append (λ e. cond (is_change e) 1 0) (change_entries number (changes_at p)) (entries_all (number + 1) rest) in
      let quiet = no_changes number (changes_at p) (entries_all (number + 1) rest) none in
      let others = all_calm (number + 1) w xs (λ k. seen (suc k)) (omega (arith, none, parts)) in
      let fewer = others.fewer in
      let first = one_fewer number v o (seen 0) quiet in
      let before = sum_by-cons (peer_sum size) o xs in
      let after = sum_by-cons (peer_sum size) (after_one p) (after_all rest) in
      record {
        entries = ap (λ cs. change_entries number cs ++ entries_all (number + 1) rest) quiet ∙ others.entries;
        deeds = ap (λ cs. contact_deeds number cs ++ deeds_all (number + 1) rest) quiet ∙ others.deeds;
        fewer = omega (arith, fewer, first, before, after);
      }

  -- ---- the tick

  parts_calm : (n : NodeState) → IsTold n → count_by is_change (entries_all 0 (parts_of upkeep.Tick n)) ≡ 0 → AreCalm 0 n.neighbours (parts_of upkeep.Tick n)
  unfolding parts_of
  parts_calm n told none = all_calm 0 n.casting n.neighbours (λ k x is. seen_first n k x told is) none

  pub turn_adds : (n n' : NodeState) (by : By) (frames : List Outgoing) (answered : Answer) → Performs n by Tick n' frames answered → CallTurn n n' by Tick [] (kept_answer answered) frames → IsCalm n n' → AddsNoneTo size casts n n'
  turn_adds n n' by frames answered h turn calm =
      let is = h.carried.0 in
      let told = turn.told_before in
      let entries = entries_all 0 (parts_of upkeep.Tick n) in
      let timed = timeouts_of n.sockets in
      let grew : n'.journal ≡ n.journal ++ step_entries (step_of by Tick (entries ++ timed) (kept_answer answer.Done)) = ap (λ (m : NodeState). m.journal) is in
      let both = sum_by-append (λ e. cond (is_change e) 1 0) entries timed in
      let all = calm_inside n n' by Tick (entries ++ timed) (kept_answer answer.Done) grew calm in
      let parts = parts_calm n told (omega (arith, both, all)) in
      let fewer = parts.fewer in
      let neighbours = ap (λ (m : NodeState). link_sum size m.neighbours) is in
      let casting : n'.casting ≡ n.casting = ap (λ (m : NodeState). m.casting) is ∙ ap (λ deeds. after_deeds deeds n.casting) parts.deeds in
      let sending = ap (λ (v : Casting). casts v.sending) casting in
      let accepted = ap (λ es. accepted_weight (es ++ timed)) parts.entries ∙ timeouts_quiet (due n.sockets.watchers.kept) in
      concluded_adds size counts casts cast_counts n n' by Tick (entries ++ timed) (kept_answer answer.Done) grew (omega (arith, fewer, neighbours, sending, accepted))

-- ---- what is under way, and what was ever put

pub tick_adds : (n n' : NodeState) (by : By) (frames : List Outgoing) (answered : Answer) → Performs n by Tick n' frames answered → CallTurn n n' by Tick [] (kept_answer answered) frames → IsCalm n n' → AddsNothing n n'
tick_adds n n' by frames answered h turn calm = by_loads n n' turn.told_before turn.told (turn_adds under_way under_way_counts under_way under_way_counts n n' by frames answered h turn calm)

pub tick_puts : (n n' : NodeState) (by : By) (frames : List Outgoing) (answered : Answer) → Performs n by Tick n' frames answered → CallTurn n n' by Tick [] (kept_answer answered) frames → IsCalm n n' → PutsNothing n n'
tick_puts = turn_adds put_into put_into_counts under_way under_way_counts
