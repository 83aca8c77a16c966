use Rattle.std.proofs.Common.{◌+◌, ◌-◌, take, drop, length, ◌∷◌, ◌∙◌, ap, sym, arith}
use Rattle.std.proofs.lemmas.List.{take_all, length-drop, drop_all}
use Rattle.tipc_sim.specs.Lines.{lines_of}
use Rattle.tipc_sim.proofs.LineLaws.{one_line, line_and_rest}
use Rattle.tipc_sim.proofs.scripts.first_line.Goals as goal

pub returns-in_default-clause-lines : goal.returns-in_default-clause-lines
returns-in_default-clause-lines c =
    let bytes = c.args.bytes.now in
    one_line bytes c.requires (sym c.in_default.ensures) ∙ ap (λ rest. bytes ∷ lines_of rest) (sym (take_all (length bytes - length bytes) (drop (length bytes) bytes) (omega (arith, length-drop (length bytes) bytes)) ∙ drop_all (length bytes) bytes (omega arith)))

pub returns-clause-lines : goal.returns-clause-lines
returns-clause-lines c =
    let bytes = c.args.bytes.now in
    let len = c.in-Some.len in
    let rest = take_all (length bytes - (len + 1)) (drop (len + 1) bytes) (omega (arith, length-drop (len + 1) bytes)) in
    line_and_rest bytes len (sym c.in-Some.ensures) ∙ ap (λ bs. take len bytes ∷ lines_of bs) (sym rest)
