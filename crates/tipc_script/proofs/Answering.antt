-- What an answer with the right fault and the right line says of the grammar.
use Rattle.std.proofs.Common.{◌≡◌, List, ℕ, Result, Ok, Err, sym, subst, ◌∙◌}
use Rattle.std.specs.Prelude.{IfOk}
use Rattle.tipc_script.specs.declared.lines.Line.{Line}
use Rattle.tipc_script.specs.declared.lines.Command.{Command}
use Rattle.tipc_script.specs.declared.faults.LineFault.{LineFault}
use Rattle.tipc_script.specs.declared.faults.LineFault.TheVariants as faults
use Rattle.tipc_script.specs.Grammar.{Asks, asked}
use Rattle.tipc_script.specs.Faults.{fault_of, Tells, Reads}
use Rattle.tipc_script.proofs.Found.{asks_found}
use Rattle.tipc_script.proofs.Accepted.{asks_accepted}

pub answer_found : (text : List ℕ) (answer : Result Command LineFault) → Tells answer (fault_of text) → IfOk answer (λ c. c.line ≡ asked text) → IfOk answer (λ c. Asks text c.line)
answer_found text (Ok command) told line = subst (λ l. Asks text l) (sym line) (asks_found text told)
answer_found text (Err fault) told line = line

pub answer_only : (text : List ℕ) (answer : Result Command LineFault) → Tells answer (fault_of text) → IfOk answer (λ c. c.line ≡ asked text) → (wanted : Line) → Asks text wanted → Reads answer wanted
answer_only text (Ok command) told line wanted asks = line ∙ (asks_accepted text wanted asks).asked
answer_only text (Err (faults.BadLine place reason)) told line wanted asks = let none = (asks_accepted text wanted asks).fault in absurd cc
answer_only text (Err faults.NoMemory) told line wanted asks = tt
