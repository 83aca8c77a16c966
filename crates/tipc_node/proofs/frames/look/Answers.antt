use Rattle.std.proofs.Common.{None, Some, ap, sym, ◌∙◌}
use Rattle.std.specs.Prelude.{slice_index_or}
use Rattle.tipc_types.specs.declared.link_words.Why.TheVariants as why
use Rattle.tipc_header.specs.Spelling.{view}
use Rattle.tipc_node.specs.Nodes.{stop_by_kind}
use Rattle.tipc_node.proofs.work.Stops.{by_sender, cast_low, kind_is, looked_at, mended_two, opened_at, sender_own, stop_header}
use Rattle.tipc_node.proofs.frames.look.Goals as goal

pub returns-in-Err-clause-stopped : goal.returns-in-Err-clause-stopped
returns-in-Err-clause-stopped c =
    let f = c.in-Some.opened in
    let o = opened_at c.args.mended c.args.bearer c.args.frame.now f.first f.second f.packet.now (sym c.is_mended_on.ensures ∙ c.if-not-is_mended_on.false) c.in-Some.ensures.none.1 c.in-Some.ensures.some in
    stop_header c.args.own.word _ c.args.neighbours.now _ _ _ _ _ c.in-Err.fault o c.in-Err.ensures.fault ∙ ap (λ k. Some (why.Header k)) (sym c.number.ensures)

pub returns-in_default-sender_of-clause-stopped : goal.returns-in_default-sender_of-clause-stopped
returns-in_default-sender_of-clause-stopped c =
    let f = c.in-Some.opened in
    let o = opened_at c.args.mended c.args.bearer c.args.frame.now f.first f.second f.packet.now (sym c.is_mended_on.ensures ∙ c.if-not-is_mended_on.false) c.in-Some.ensures.none.1 c.in-Some.ensures.some in
    let p = view c.in-Ok.packet in
    by_sender c.args.own.word _ c.args.neighbours.now _ _ _ _ _ p o c.in-Ok.ensures.fault c.in-Ok.ensures.read ∙ sender_own c.args.own.word c.args.neighbours.now c.args.bearer p.previous _ p.header c.in_default-sender_of.ensures.own

pub returns-in-Some-stop_by_kind-clause-stopped : goal.returns-in-Some-stop_by_kind-clause-stopped
returns-in-Some-stop_by_kind-clause-stopped c =
    let f = c.in-Some.opened in
    let o = opened_at c.args.mended c.args.bearer c.args.frame.now f.first f.second f.packet.now (sym c.is_mended_on.ensures ∙ c.if-not-is_mended_on.false) c.in-Some.ensures.none.1 c.in-Some.ensures.some in
    let p = view c.in-Ok.packet in
    let s = c.in-Some-sender_of.ensures.other in
    looked_at c.args.own.word c.args.mended c.args.neighbours.now c.args.bearer c.args.frame.now f.first f.second f.packet.now c.in-Some-sender_of.peer p o c.in-Ok.ensures.fault c.in-Ok.ensures.read c.in-Some.ensures.places.0 s.3 s.2
    ∙ ap (λ k. stop_by_kind k p.header c.args.bearer (slice_index_or c.args.neighbours.now c.in-Some-sender_of.peer None)) (sym c.kind_of-kind.ensures) ∙ sym c.stop_by_kind.ensures ∙ c.in-Some-stop_by_kind.is

pub returns-clause-passes : goal.returns-clause-passes
returns-clause-passes c = sym c.stop_by_kind.ensures ∙ c.in_default-stop_by_kind.is

pub returns-clause-clear : goal.returns-clause-clear
returns-clause-clear c =
    let f = c.in-Some.opened in
    let o = opened_at c.args.mended c.args.bearer c.args.frame.now f.first f.second f.packet.now (sym c.is_mended_on.ensures ∙ c.if-not-is_mended_on.false) c.in-Some.ensures.none.1 c.in-Some.ensures.some in
    let p = view c.in-Ok.packet in
    let s = c.in-Some-sender_of.ensures.other in
    looked_at c.args.own.word c.args.mended c.args.neighbours.now c.args.bearer c.args.frame.now f.first f.second f.packet.now c.in-Some-sender_of.peer p o c.in-Ok.ensures.fault c.in-Ok.ensures.read c.in-Some.ensures.places.0 s.3 s.2
    ∙ ap (λ k. stop_by_kind k p.header c.args.bearer (slice_index_or c.args.neighbours.now c.in-Some-sender_of.peer None)) (sym c.kind_of-kind.ensures) ∙ sym c.stop_by_kind.ensures ∙ c.in_default-stop_by_kind.is

pub returns-clause-kind : goal.returns-clause-kind
returns-clause-kind c =
    let f = c.in-Some.opened in
    let o = opened_at c.args.mended c.args.bearer c.args.frame.now f.first f.second f.packet.now (sym c.is_mended_on.ensures ∙ c.if-not-is_mended_on.false) c.in-Some.ensures.none.1 c.in-Some.ensures.some in
    kind_is c.args.mended c.args.bearer c.args.frame.now f.first f.second f.packet.now (view c.in-Ok.packet) o c.in-Some.ensures.places.0 c.in-Ok.ensures.read ∙ sym c.kind_of-kind.ensures

pub stop_by_kind-requires : goal.stop_by_kind-requires
stop_by_kind-requires c = mended_two c.args.mended c.args.bearer (sym c.is_mended_on.ensures ∙ c.if-not-is_mended_on.false)

pub returns-clause-boot : goal.returns-clause-boot
returns-clause-boot c = λ casts. cast_low c.in-Some.opened.first c.in-Ok.packet.header (sym c.kind_of-kind.ensures ∙ casts)
