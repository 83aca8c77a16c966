use Rattle.std.proofs.Common.{ap, ◌∙◌, ◌++◌, ◌∷◌, [], arith}
use Rattle.tipc_node.proofs.work.Sendings.{many_cast, many_listed, many_pieces, many_sendable, one_cast, one_listed, one_piece, sendable_by, spelled_most}
use Rattle.tipc_node.proofs.messages.pieces.Goals as goal

pub cut-requires-clause-within : goal.cut-requires-clause-within
cut-requires-clause-within c = spelled_most c.args.own.word c.args.message.now c.in_ok-packet.packet c.as_slice.result.now c.in_ok-packet.ensures.spelled c.as_slice.ensures

pub returns-then-len-ge-LEAST_CUT-clause-sendable : goal.returns-then-len-ge-LEAST_CUT-clause-sendable
returns-then-len-ge-LEAST_CUT-clause-sendable c = many_sendable c.args.own.word c.args.message.now c.in_ok-packet.packet c.cut.result c.in_ok-packet.ensures.spelled

pub returns-then-len-ge-LEAST_CUT-clause-value : goal.returns-then-len-ge-LEAST_CUT-clause-value
returns-then-len-ge-LEAST_CUT-clause-value c =
    let long = c.if-len-ge-LEAST_CUT.true in
    let len = c.len.ensures in
    many_pieces c.args.own.word c.args.message.now c.in_ok-packet.packet c.as_slice.result.now c.cut.result c.in_ok-packet.ensures.spelled c.as_slice.ensures (omega (arith, long, len)) c.cut.ensures.packets

pub returns-then-len-ge-LEAST_CUT-clause-listed : goal.returns-then-len-ge-LEAST_CUT-clause-listed
returns-then-len-ge-LEAST_CUT-clause-listed c = many_listed c.args.own.word c.args.message.now c.in_ok-packet.packet c.as_slice.result.now c.cut.result c.in_ok-packet.ensures.spelled c.as_slice.ensures c.cut.ensures.packets

pub returns-clause-sendable : goal.returns-clause-sendable
returns-clause-sendable c = sendable_by c.args.own.word c.args.message.now c.in_ok-packet.packet c.in_ok-packet.ensures.spelled

pub returns-clause-value : goal.returns-clause-value
returns-clause-value c =
    let short = c.if-len-ge-LEAST_CUT.false in
    let len = c.len.ensures in
    one_piece c.args.own.word c.args.message.now c.in_ok-packet.packet c.push.new.self c.in_ok-packet.ensures.spelled (omega (arith, short, len)) (c.in_ok-push.ensures.ok ∙ ap (λ ps. ps ++ c.in_ok-packet.packet ∷ []) c.new-pieces.ensures)

pub returns-clause-listed : goal.returns-clause-listed
returns-clause-listed c =
    let short = c.if-len-ge-LEAST_CUT.false in
    let len = c.len.ensures in
    one_listed c.args.own.word c.args.message.now c.in_ok-packet.packet c.push.new.self c.in_ok-packet.ensures.spelled (omega (arith, short, len)) (c.in_ok-push.ensures.ok ∙ ap (λ ps. ps ++ c.in_ok-packet.packet ∷ []) c.new-pieces.ensures)

pub returns-then-len-ge-LEAST_CUT-clause-cast : goal.returns-then-len-ge-LEAST_CUT-clause-cast
returns-then-len-ge-LEAST_CUT-clause-cast c = many_cast c.args.own.word c.args.message.now c.in_ok-packet.packet c.as_slice.result.now c.cut.result c.in_ok-packet.ensures.spelled c.as_slice.ensures c.cut.ensures.packets

pub returns-clause-cast : goal.returns-clause-cast
returns-clause-cast c =
    let short = c.if-len-ge-LEAST_CUT.false in
    let len = c.len.ensures in
    one_cast c.in_ok-packet.packet c.push.new.self c.in_ok-packet.ensures.long (omega (arith, short, len)) (c.in_ok-push.ensures.ok ∙ ap (λ ps. ps ++ c.in_ok-packet.packet ∷ []) c.new-pieces.ensures)
