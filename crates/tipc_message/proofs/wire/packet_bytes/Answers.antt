use Rattle.std.proofs.Common.{sym, subst}
use Rattle.std.proofs.lemmas.Result.{IfOk-weaker}
use Rattle.tipc_message.specs.Wire.{IsCarried, IsPayload}
use Rattle.tipc_message.proofs.WireLaws.{message_of-packet_of, sent_items}
use Rattle.tipc_message.proofs.wire.packet_bytes.Goals as goal

pub returns-in-Payload-clause-spelled : goal.returns-in-Payload-clause-spelled
returns-in-Payload-clause-spelled c =
    let payload = subst IsPayload (sym c.in-Payload.is) (subst IsCarried c.in-Payload.is c.requires) in
    IfOk-weaker c.payload_bytes.result _ _ (λ bytes h. (h.0, h.1, h.2, h.3, message_of-packet_of c.args.own.word c.args.message.now h.0 payload h.1)) c.payload_bytes.ensures.spelled

pub returns-in-Items-clause-spelled : goal.returns-in-Items-clause-spelled
returns-in-Items-clause-spelled c =
    IfOk-weaker c.distribution_bytes.result _ _ (λ bytes h. sent_items c.args.own.word c.args.message.now c.in-Items.withdrawal c.in-Items.items c.as_slice.result.now bytes c.in-Items.is c.as_slice.ensures h) c.distribution_bytes.ensures.spelled
