use Rattle.std.proofs.Common.{◌≤◌, ◌<◌, ◌∙◌, ◌++◌, length, option_map, sym, subst, ap, arith}
use Rattle.std.specs.Prelude.{All}
use Rattle.tipc_types.specs.declared.packet_lists.Kept.{Kept}
use Rattle.tipc_header.specs.declared.packet.ChangeoverType.TheVariants.{Duplicate}
use Rattle.tipc_send_window.specs.Sending.{acked_of, kept_of}
use Rattle.tipc_link.specs.Links.{LinkEnd, waiting_of}
use Rattle.tipc_link.specs.Sessions.{waiting_given}
use Rattle.tipc_pair.specs.Runs.{BeginsWithTunnel, IsListed, old_of, run_of}
use Rattle.tipc_pair.proofs.EndSteps.{session_is}
use Rattle.tipc_pair.proofs.Followings.{some_there}
use Rattle.tipc_pair.proofs.RunFacts.{begins_with_tunnel, kept_listed, old_is, run_listed, run_some}
use Rattle.tipc_link.proofs.Repeating.{kept_count as kept_length}
use Rattle.tipc_pair.proofs.link_changes.taken_over.Goals as goal

pub run_of-requires-clause-bearer : goal.run_of-requires-clause-bearer
run_of-requires-clause-bearer c =
    let there = some_there c.args.link.now.session c.requires.session in
    let on = session_is c.args.link.now.bearer c.args.link.now.session there.0 c.requires.on there.1 in
    let kept = c.in_ok-kept.ensures (waiting_given there.0) (ap (λ (e : LinkEnd). e.session) c.take_waiting-waiting.ensures.after ∙ ap (λ o. option_map waiting_given o) there.1) in
    subst (λ n. n ≤ 1) (sym (kept.1 ∙ on.bearer_is)) c.requires.bearer

pub run_of-requires-clause-few : goal.run_of-requires-clause-few
run_of-requires-clause-few c =
    let there = some_there c.args.link.now.session c.requires.session in
    let s = there.0 in
    let few = (session_is c.args.link.now.bearer c.args.link.now.session s c.requires.on there.1).few in
    let kept = c.in_ok-kept.ensures (waiting_given s) (ap (λ (e : LinkEnd). e.session) c.take_waiting-waiting.ensures.after ∙ ap (λ o. option_map waiting_given o) there.1) in
    omega (arith, ap length (c.as_slice.ensures ∙ kept.0), kept_length (acked_of s.sending) s.sending.unacked)

pub run_of-requires-clause-listed : goal.run_of-requires-clause-listed
run_of-requires-clause-listed c =
    let there = some_there c.args.link.now.session c.requires.session in
    let s = there.0 in
    let on = session_is c.args.link.now.bearer c.args.link.now.session s c.requires.on there.1 in
    let kept = c.in_ok-kept.ensures (waiting_given s) (ap (λ (e : LinkEnd). e.session) c.take_waiting-waiting.ensures.after ∙ ap (λ o. option_map waiting_given o) there.1) in
    subst (All (λ (k : Kept). IsListed k.packet)) (sym (c.as_slice.ensures ∙ kept.0)) (kept_listed (acked_of s.sending) s.sending.unacked on.unacked)

pub returns-clause-pieces : goal.returns-clause-pieces
returns-clause-pieces c = λ s is.
    let kept = c.in_ok-kept.ensures (waiting_given s) (ap (λ (e : LinkEnd). e.session) c.take_waiting-waiting.ensures.after ∙ ap (λ o. option_map waiting_given o) is) in
    let old = c.in_ok-kept.kept.old in
    let waiting = c.take_waiting-waiting.result in
    c.in_ok-add_all.ensures ∙ (ap (λ run. run ++ waiting) (c.in_ok-pieces.ensures.run
    ∙ (ap (run_of Duplicate old c.in_ok-kept.kept.own.word) (c.as_slice.ensures ∙ kept.0) ∙ (ap (λ o. run_of Duplicate o c.in_ok-kept.kept.own.word (kept_of s.sending)) (old_is old s.bearer s.epoch kept.1 kept.2)
    ∙ ap (λ own. run_of Duplicate (old_of s) own (kept_of s.sending)) kept.3)))
    ∙ ap (λ others. run_of Duplicate (old_of s) s.own (kept_of s.sending) ++ others) (c.take_waiting-waiting.ensures.given ∙ ap waiting_of is))

pub returns-clause-listed : goal.returns-clause-listed
returns-clause-listed c =
    let there = some_there c.args.link.now.session c.requires.session in
    let on = session_is c.args.link.now.bearer c.args.link.now.session there.0 c.requires.on there.1 in
    subst (All IsListed) (sym c.in_ok-add_all.ensures)
    (run_listed c.in_ok-pieces.pieces _ c.in_ok-pieces.ensures.made (subst (All IsListed) (sym (c.take_waiting-waiting.ensures.given ∙ ap waiting_of there.1)) on.waiting))

pub returns-clause-run : goal.returns-clause-run
returns-clause-run c =
    subst BeginsWithTunnel (sym c.in_ok-add_all.ensures) (begins_with_tunnel c.in_ok-pieces.pieces _ c.in_ok-pieces.ensures.made
    (subst (λ xs. 0 < length xs) (sym c.in_ok-pieces.ensures.run) (run_some Duplicate c.in_ok-kept.kept.old c.in_ok-kept.kept.own.word c.as_slice.result.now)))
