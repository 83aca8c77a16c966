use Rattle.std.proofs.Common.{◌≡◌, ◌++◌, map, take}
use Rattle.tipc_dissect.specs.Lines.{fields_text}
use Rattle.tipc_dissect.proofs.lines.put_fields.Given as goal

abbrev pub invariant-loop-name : goal.invariant-loop-name
invariant-loop-name l = l.into.items ≡ l.fn.into.items ++ fields_text l.indent (map (λ field. (field.0.now, field.1)) (take l.name-index l.fields))
