use Rattle.std.proofs.Common.{◌≡◌, take}
use Rattle.tipc_report.specs.Telling.{links_text}
use Rattle.tipc_report.proofs.links.links_text.Given as goal

abbrev pub invariant-loop-links : goal.invariant-loop-links
invariant-loop-links l = l.text.items ≡ links_text (take l.links-index l.peers)
