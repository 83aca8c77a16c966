use Rattle.std.proofs.Common.{◌∙◌, ap, arith, subst, sym}
use Rattle.std.proofs.lemmas.Result.{IfOk-weaker}
use Rattle.tipc_header.specs.Grammar.{Fits}
use Rattle.tipc_header.specs.Spelling.{spelling}
use Rattle.tipc_message.proofs.ItemLaws.{items_fit, packet_again, packet_is}
use Rattle.tipc_message.proofs.distribution.distribution_bytes.Goals as goal

pub encoded-requires : goal.encoded-requires
encoded-requires c =
    let is = packet_is c.args.own.word c.distribution_type.result c.args.withdrawal c.args.items.now c.as_slice.result.now c.distribution_type.ensures (c.as_slice.ensures.value ∙ c.in_ok-rest.ensures.bytes) in
    subst Fits (sym is) (items_fit c.args.own.word c.args.withdrawal c.args.items.now (omega arith) c.requires.0 c.requires.1)

pub returns-clause-spelled : goal.returns-clause-spelled
returns-clause-spelled c =
    let is = packet_is c.args.own.word c.distribution_type.result c.args.withdrawal c.args.items.now c.as_slice.result.now c.distribution_type.ensures (c.as_slice.ensures.value ∙ c.in_ok-rest.ensures.bytes) in
    let fits = items_fit c.args.own.word c.args.withdrawal c.args.items.now (omega arith) c.requires.0 c.requires.1 in
    let again = packet_again c.args.own.word c.args.withdrawal c.args.items.now c.in_ok-rest.ensures.words in
    IfOk-weaker c.encoded.result _ _ (λ bytes h. (fits, h ∙ ap spelling is, again)) c.encoded.ensures.spelled
