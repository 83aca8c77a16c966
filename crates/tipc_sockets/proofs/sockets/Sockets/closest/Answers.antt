use Rattle.std.proofs.Common.{◌∙◌, List, length, filter, ap, arith}
use Rattle.std.proofs.lemmas.List.Sums.{count_by-le-length, length-filter}
use Rattle.tipc_types.specs.declared.services.Publication.{Publication}
use Rattle.tipc_types.specs.Tables.{is_of}
use Rattle.tipc_sockets.proofs.sockets.Sockets.closest.Goals as goal

pub returns-clause-few : goal.returns-clause-few
returns-clause-few c =
    let all = c.in_ok-all.all in
    let test = is_of c.self.inside.own.word in
    let few = c.in_ok-all.ensures.few in
    let long = ap length (c.from_vec.ensures ∙ c.in_ok-own.ensures ∙ ap (λ (ps : List Publication). filter test ps) c.as_slice.ensures) ∙ length-filter test all in
    let some = count_by-le-length test all in
    omega (arith, few, long, some)
