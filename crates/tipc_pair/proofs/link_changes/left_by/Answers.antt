use Rattle.std.proofs.Common.{◌<◌, ◌∙◌, length, sym, subst, ap, arith}
use Rattle.std.specs.Prelude.{All}
use Rattle.tipc_types.specs.declared.packet_lists.Kept.{Kept}
use Rattle.tipc_header.specs.declared.packet.ChangeoverType.TheVariants.{Original}
use Rattle.tipc_send_window.specs.Sending.{acked_of}
use Rattle.tipc_pair.specs.Runs.{BeginsWithTunnel, IsListed}
use Rattle.tipc_pair.proofs.EndSteps.{session_is}
use Rattle.tipc_pair.proofs.Followings.{some_there}
use Rattle.tipc_pair.proofs.RunFacts.{begins_with_tunnel, kept_listed, plain_listed, run_listed, run_some}
use Rattle.tipc_link.proofs.Repeating.{kept_count as kept_length}
use Rattle.tipc_pair.proofs.link_changes.left_by.Goals as goal

pub run_of-requires-clause-few : goal.run_of-requires-clause-few
run_of-requires-clause-few c =
    let there = some_there c.args.link.now.session c.requires.session in
    let s = there.0 in
    let few = (session_is c.args.link.now.bearer c.args.link.now.session s c.requires.on there.1).few in
    omega (arith, ap length (c.as_slice.ensures ∙ (c.hand_over-left.ensures.handed s there.1).0), kept_length (acked_of s.sending) s.sending.unacked)

pub run_of-requires-clause-listed : goal.run_of-requires-clause-listed
run_of-requires-clause-listed c =
    let there = some_there c.args.link.now.session c.requires.session in
    let s = there.0 in
    let on = session_is c.args.link.now.bearer c.args.link.now.session s c.requires.on there.1 in
    subst (All (λ (k : Kept). IsListed k.packet)) (sym (c.as_slice.ensures ∙ (c.hand_over-left.ensures.handed s there.1).0)) (kept_listed (acked_of s.sending) s.sending.unacked on.unacked)

pub returns-clause-listed : goal.returns-clause-listed
returns-clause-listed c =
    let there = some_there c.args.link.now.session c.requires.session in
    let on = session_is c.args.link.now.bearer c.args.link.now.session there.0 c.requires.on there.1 in
    let waiting = c.hand_over-left.result.waiting in
    subst (All IsListed) (sym c.in_ok-add_plain.ensures)
    (run_listed c.in_ok-pieces.pieces _ c.in_ok-pieces.ensures.made (plain_listed waiting (subst (All IsListed) (sym (c.hand_over-left.ensures.handed there.0 there.1).1) on.waiting)))

pub returns-clause-run : goal.returns-clause-run
returns-clause-run c =
    subst BeginsWithTunnel (sym c.in_ok-add_plain.ensures) (begins_with_tunnel c.in_ok-pieces.pieces _ c.in_ok-pieces.ensures.made
    (subst (λ xs. 0 < length xs) (sym c.in_ok-pieces.ensures.run) (run_some Original c.hand_over-left.result.old c.hand_over-left.result.own.word c.as_slice.result.now)))
