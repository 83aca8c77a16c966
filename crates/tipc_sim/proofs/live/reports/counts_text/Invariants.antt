use Rattle.std.proofs.Common.{◌≡◌, take}
use Rattle.tipc_sim.specs.LiveReports.{counts_report}
use Rattle.tipc_sim.proofs.live.reports.counts_text.Given as goal

-- the lines of the nodes before
abbrev pub invariant-loop-locked : goal.invariant-loop-locked
invariant-loop-locked g l = l.text.items ≡ counts_report l.plan (take l.locked-index l.nodes)
