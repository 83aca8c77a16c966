use Rattle.std.proofs.Common.{sym, arith}
use Rattle.tipc_header.proofs.RoundTrip.{has_fields, rest_begins, spells, reads, refuses}
use Rattle.tipc_header.proofs.decoding.decode.Goals as goal

pub packet-requires-clause-fields : goal.packet-requires-clause-fields
packet-requires-clause-fields c = has_fields c.args.bytes.now (sym c.in-None.ensures)

pub packet-requires-clause-rest : goal.packet-requires-clause-rest
packet-requires-clause-rest c = rest_begins c.args.bytes.now (λ i. omega (arith, c.type_inv.bytes i)) (sym c.in-None.ensures)

pub returns-in-None-clause-spells : goal.returns-in-None-clause-spells
returns-in-None-clause-spells c = spells c.args.bytes.now _ (λ i. omega (arith, c.type_inv.bytes i)) (sym c.in-None.ensures) c.packet.ensures

pub returns-in-None-clause-only : goal.returns-in-None-clause-only
returns-in-None-clause-only c = λ p fits e. reads c.args.bytes.now _ p c.packet.ensures fits e

pub returns-in-Some-clause-only : goal.returns-in-Some-clause-only
returns-in-Some-clause-only c = λ p fits e. refuses c.args.bytes.now _ p c.in-Some.ensures fits e
