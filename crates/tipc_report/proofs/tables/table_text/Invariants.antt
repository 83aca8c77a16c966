use Rattle.std.proofs.Common.{◌≡◌, take}
use Rattle.tipc_report.specs.Telling.{table_text}
use Rattle.tipc_report.proofs.tables.table_text.Given as goal

abbrev pub invariant-loop-p : goal.invariant-loop-p
invariant-loop-p l = l.text.items ≡ table_text (take l.p-index l.publications)
