use Rattle.std.proofs.Common.{ap, subst, sym, ◌∙◌}
use Rattle.tipc_header.specs.Spelling.{view}
use Rattle.tipc_outside.specs.Frames.{Gains}
use Rattle.tipc_pair.specs.Courses.{made_in}
use Rattle.tipc_node.specs.declared.neighbours.Neighbour.{Neighbour}
use Rattle.tipc_node.proofs.work.Neighbouring.{HasTaken, moved, taken_contact, taken_once, taken_told, takes}
use Rattle.tipc_node.proofs.neighbours.Neighbour.take.Goals as goal

pub returns-clause-takes : goal.returns-clause-takes
returns-clause-takes c = λ es er by told.
    let x = c.args.self.now in
    let a = c.args.arriving in
    let came = c.commit-arrival.ensures.arrives es er by told in
    let left = c.append.ensures (made_in came.0) (subst (λ b. Gains b c.commit-arrival.new.out (made_in came.0)) c.new-event.ensures came.4) in
    let final = c.begin_anew.ensures ∙ ap (moved x c.commit-arrival.new.self) c.as_slice.ensures in
    subst (λ (y : Neighbour). HasTaken x a.bearer es er (view c.args.packet.now) by c.args.shown a.outcome c.commit-arrival.result.changes y c.args.out.now c.append.new.self) (sym final)
    (takes x a.bearer es er (view c.args.packet.now) by c.args.shown c.commit-arrival.result.outcome a.outcome c.commit-arrival.result.changes c.commit-arrival.new.self c.args.out.now c.append.new.self
    c.sound.ensures.first c.commit-arrival.ensures.outcome (came.0, came.1, came.2, came.3, left))

pub returns-clause-contact : goal.returns-clause-contact
returns-clause-contact c = λ is.
    let q = c.requires in
    taken_contact c.args.self.now c.args.arriving.bearer q.0 q.1 (view c.args.packet.now) q.2 c.args.shown c.args.arriving.outcome c.commit-arrival.result.changes
    c.begin_anew.new.self c.args.out.now c.append.new.self c.sound.ensures.pair (returns-clause-takes c q.0 q.1 q.2 q.3) is

pub returns-clause-once : goal.returns-clause-once
returns-clause-once c = λ is.
    let q = c.requires in
    taken_once c.args.self.now c.args.arriving.bearer q.0 q.1 (view c.args.packet.now) q.2 c.args.shown c.args.arriving.outcome c.commit-arrival.result.changes
    c.begin_anew.new.self c.args.out.now c.append.new.self c.sound.ensures.pair (returns-clause-takes c q.0 q.1 q.2 q.3) is

pub returns-clause-told : goal.returns-clause-told
returns-clause-told c =
    let q = c.requires in
    let prepared = q.3 in
    taken_told c.args.self.now c.args.arriving.bearer q.0 q.1 (view c.args.packet.now) q.2 c.args.shown c.args.arriving.outcome c.commit-arrival.result.changes
    c.begin_anew.new.self c.args.out.now c.append.new.self c.sound.ensures.pair c.sound.ensures.first prepared.bearer (returns-clause-takes c q.0 q.1 q.2 q.3)
