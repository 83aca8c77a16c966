use Rattle.std.proofs.Common.{◌≡◌, ◌≤◌, ◌++◌, length, sym, ap, ◌∙◌, subst}
use Rattle.tipc_header.specs.Spelling.{spelling}
use Rattle.tipc_header.proofs.RoundTrip.{spelling-least}
use Rattle.tipc_message.specs.Wire.{waiting_packet}
use Rattle.tipc_message.proofs.encoding.encoded.Goals as goal

pub returns-clause-long : goal.returns-clause-long
returns-clause-long c =
    let p = waiting_packet c.args.own.word c.args.header c.args.rest.now in
    let is : c.from_vec.result ≡ spelling p = c.from_vec.ensures ∙ c.in_ok-encode.ensures.ok ∙ ap (λ xs. xs ++ spelling p) c.new-bytes.ensures.items in
    subst (λ xs. 24 ≤ length xs) (sym is) (spelling-least p)
