use Rattle.std.proofs.Common.{◌+◌, ◌-◌, take, drop, length, ◌∷◌, ◌∙◌, ap, sym, arith}
use Rattle.std.proofs.lemmas.List.{take_all, length-drop}
use Rattle.tipc_script.specs.Splitting.{tokens_of}
use Rattle.tipc_script.proofs.Cutting.{one_token, first_and_rest}
use Rattle.tipc_script.proofs.tokens.token_at_front.Goals as goal

pub returns-in_default-clause-tokens : goal.returns-in_default-clause-tokens
returns-in_default-clause-tokens c = one_token c.args.bytes.now (sym c.in_default.ensures)

pub returns-clause-tokens : goal.returns-clause-tokens
returns-clause-tokens c =
    let bytes = c.args.bytes.now in
    let len = c.in-Some.len in
    let rest = take_all (length bytes - (len + 1)) (drop (len + 1) bytes) (omega (arith, length-drop (len + 1) bytes)) in
    first_and_rest bytes len (sym c.in-Some.ensures) ∙ ap (λ bs. take len bytes ∷ tokens_of bs) (sym rest)
