use Rattle.std.proofs.Common.{◌<◌, ◌∷◌, [], List, Some, ap, length, sum_by, sym, subst, arith}
use Rattle.std.specs.Prelude.{IfOk, slice_set}
use Rattle.std.proofs.lemmas.List.Sums.{sum_by_push}
use Rattle.tipc_types.specs.declared.message_forms.Flow.TheVariants.{Zero}
use Rattle.tipc_outside.specs.declared.outgoing.Outgoing.{Outgoing}
use Rattle.tipc_outside.specs.Frames.{Adds}
use Rattle.tipc_node.specs.Drafts.{DraftState, own_of}
use Rattle.tipc_journal.specs.Room.{entry_bytes}
use Rattle.tipc_node.specs.Nodes.{accepted_entry}
use Rattle.tipc_node.specs.Works.{Puts, PutsOn, work_of}
use Rattle.tipc_node.proofs.work.Returning.{if_ok, payload_carried}
use Rattle.tipc_node.proofs.work.Wayfaring.{puts_by, read_at}
use Rattle.tipc_node.proofs.drafts.Draft.put_alone.Goals as goal

pub accept-requires-clause-carried : goal.accept-requires-clause-carried
accept-requires-clause-carried c = payload_carried c.args.m c.requires.payload

pub returns-clause-puts : goal.returns-clause-puts
returns-clause-puts c =
    let w = c.self.inside in
    let xs = w.neighbours.items in
    let peer = c.requires.peer in
    let wide = c.self.invariant.1.wide in
    let within : c.args.peer < length xs = omega (arith, peer, wide) in
    let x = c.in-Some.neighbour in
    let y = c.accept.new.neighbour in
    let was = read_at xs c.args.peer c.index_mut.result.now x within c.index_mut.ensures.value c.in-Some.is in
    subst (λ (z : DraftState). IfOk c.accept.result (λ e. (frames : List Outgoing) × Puts (own_of z) (work_of z.work.neighbours z.work.sockets []) c.args.peer c.args.m (work_of (slice_set xs c.args.peer (Some y)) z.work.sockets (e ∷ [])) frames
    × Adds c.args.out.now c.accept.new.out frames)) c.self.view_is
    (if_ok c.accept.result (λ e put. (
    let one = subst (λ word. PutsOn word x y c.args.peer c.args.m [] (e ∷ []) c.args.out.now c.accept.new.out) (sym c.self.invariant.0) put in
    (one.frames, puts_by w.sockets.own c.args.peer xs w.sockets [] (e ∷ []) x y c.args.m c.args.out.now c.accept.new.out was one, one.adds))) c.accept.ensures.put)

pub returns-clause-light : goal.returns-clause-light
returns-clause-light c =
    if_ok c.accept.result (λ e put. (let one = sum_by_push entry_bytes [] (accepted_entry Zero c.args.peer c.in-Some.neighbour.pair c.args.m) in
    let told = ap (sum_by entry_bytes) put.told in
    let alone = sum_by_push entry_bytes [] e in
    omega (arith, one, told, alone))) c.accept.ensures.put

pub returns-clause-rest : goal.returns-clause-rest
returns-clause-rest c =
    let last = slice_set c.self.inside.neighbours.items c.args.peer (Some c.accept.new.neighbour) in
    ap (λ (z : DraftState). record z { work = record z.work { neighbours = last } }) c.self.view_is
