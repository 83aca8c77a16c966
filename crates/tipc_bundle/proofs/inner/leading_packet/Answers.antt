use Rattle.std.proofs.Common.{length, sym, ap, ◌∙◌, arith}
use Rattle.std.proofs.lemmas.List.{length-append}
use Rattle.tipc_bundle.proofs.InnerLaws.{begins-size, begins_at, inner-least}
use Rattle.tipc_bundle.proofs.inner.leading_packet.Goals as goal

pub message_size-requires : goal.message_size-requires
message_size-requires c = let r = c.requires in omega (arith, ap length r.3, length-append r.0 r.1, inner-least r.0 r.2)

pub slice_bounds-result-end : goal.slice_bounds-result-end
slice_bounds-result-end c =
    let r = c.requires in
    c.message_size.ensures ∙ begins-size c.args.bytes.now r.0 r.1 r.2 r.3 ∙ sym (ap length (begins_at c.args.bytes.now r.0 r.1 c.message_size.result r.2 r.3 c.message_size.ensures))

pub returns : goal.returns
returns c = λ packet more h e. begins_at c.args.bytes.now packet more c.message_size.result h e c.message_size.ensures
