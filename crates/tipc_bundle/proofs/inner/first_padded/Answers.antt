use Rattle.std.proofs.Common.{inr, arith}
use Rattle.tipc_bundle.proofs.InnerLaws.{inner-most}
use Rattle.tipc_bundle.proofs.Walks.{badly_from, well_from}
use Rattle.tipc_bundle.proofs.inner.first_padded.Goals as goal

pub padded_size-end-requires : goal.padded_size-end-requires
padded_size-end-requires c = omega (arith, inner-most c.in-Some.packet.now c.in-Some.ensures.some.0)

pub returns-in-Some-first_nonzero-clause-err : goal.returns-in-Some-first_nonzero-clause-err
returns-in-Some-first_nonzero-clause-err c =
    let i = c.in-Some.ensures.some in
    let f = c.in-Some-first_nonzero.ensures.some in
    inr (badly_from c.args.bytes.now c.in-Some.packet.now i.1 c.padded_size-end.result c.in-Some-first_nonzero.zeros i.0 i.2 c.padded_size-end.ensures.value f.0 f.1 f.2)

pub returns-in-None-clause-ok : goal.returns-in-None-clause-ok
returns-in-None-clause-ok c =
    let i = c.in-Some.ensures.some in
    well_from c.args.bytes.now c.in-Some.packet.now i.1 c.padded_size-end.result i.0 i.2 c.padded_size-end.ensures.value c.requires c.in-None.ensures.none
