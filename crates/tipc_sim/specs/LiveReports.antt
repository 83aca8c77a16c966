-- What a live run writes.
use Rattle.std.specs.Prelude.{ℕ, ◌%◌, List, ◌++◌}
use Rattle.std.specs.List.{flat_map}
use Rattle.tipc_node_lock.specs.Locked.{LockedState}
use Rattle.tipc_report.specs.declared.live.Verdict.{Verdict}
use Rattle.tipc_report.specs.Live.{counts_line, plan_line, verdict_line}
use Rattle.tipc_work.specs.declared.plans.LivePlan.{LivePlan}
use Rattle.tipc_sim.specs.LiveCounts.{accepted_in, answered_in, delivered_in}

-- the line of a node, with what its journal counts; its address has its number in the low 12 bits
abbrev pub node_line : {P : Type 0} → LockedState P → List ℕ
node_line n = counts_line (n.node.own % 4096) (accepted_in n.node.journal) (delivered_in n.node.journal) (answered_in n.node.journal)

-- what is told of a run before the audit: its plan, and the line of each node
abbrev pub counts_report : {P : Type 0} → LivePlan → List (LockedState P) → List ℕ
counts_report plan nodes = plan_line plan.nodes plan.callers plan.messages ++ flat_map node_line nodes

-- the report: that, and what was found
abbrev pub live_report : {P : Type 0} → LivePlan → List (LockedState P) → Verdict → List ℕ
live_report plan nodes verdict = counts_report plan nodes ++ verdict_line verdict
