use Rattle.std.proofs.Common.{◌≡◌, Some, option_map, subst}
use Rattle.std.specs.Prelude.{OnOk}
use Rattle.tipc_link.specs.Records.{bytes_of, early_of}
use Rattle.tipc_link.specs.Links.{LinkEnd, tunnelled_end}
use Rattle.tipc_link.proofs.KeptRecords.{session_tunnelled}
use Rattle.tipc_link.proofs.link.Link.take_tunnelled.Goals as goal

pub returns-in-Some-clause-after : goal.returns-in-Some-clause-after
returns-in-Some-clause-after c =
    let i = c.self.inside in
    let e : LinkEnd = record { own = i.own.word; peer = i.peer.word; bearer = i.bearer; mended = i.mended; fsm = i.fsm; contact = i.contact; peer_contact = i.peer_contact; session = i.session; early = option_map early_of i.early } in
    let r = c.take_tunnelled.result in
    let new : LinkEnd = record e { session = Some c.take_tunnelled.new.self } in
    let told : OnOk r (new ≡ tunnelled_end e c.args.epoch (record { number = c.args.number; packet = c.bytes_or_none.result; by = c.args.by })) =
    session_tunnelled r e c.in-Some.session c.take_tunnelled.new.self c.args.epoch _ c.in-Some.is c.take_tunnelled.ensures.after in
    subst (λ (v : LinkEnd). OnOk r (new ≡ tunnelled_end v c.args.epoch (record { number = c.args.number; packet = bytes_of c.args.inner; by = c.args.by }))) c.self.view_is
    (subst (λ b. OnOk r (new ≡ tunnelled_end e c.args.epoch (record { number = c.args.number; packet = b; by = c.args.by }))) c.bytes_or_none.ensures told)
