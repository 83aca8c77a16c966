use Rattle.std.proofs.Common.{[], ◌∷◌, ◌++◌, ◌+◌, Option, None, ap, sym, subst, arith, ◌∙◌}
use Rattle.std.proofs.lemmas.List.{get_or_default}
use Rattle.tipc_broadcast.specs.Casting.{Casting}
use Rattle.tipc_broadcast.specs.Deeds.{after_deeds}
use Rattle.tipc_node.specs.Casting.{bearer_deeds, casting_in}
use Rattle.tipc_node.specs.Nodes.{is_met}
use Rattle.tipc_node.proofs.turns.Parts.{IsPartway, all_joined, part_first, part_last, part_next}
use Rattle.tipc_node.proofs.neighbours.part_of_all.Goals as goal

pub loop-number-init : goal.loop-number-init
loop-number-init c =
    let d = c.args.upkeep in
    let event = c.args.event.now in
    let old = c.args.neighbours.now in
    let v = after_deeds (bearer_deeds d) c.args.broadcast.now in
    subst (λ (o : Option Casting). IsPartway d v old c.push.new.self.items (casting_in d c.args.broadcast.now o) event event 1) (sym c.requires.same)
    (subst (λ xs. IsPartway d v old xs v event event 1) (sym c.in_ok-push.ensures.items)
    (subst (λ xs. IsPartway d v old (xs ++ None ∷ []) v event event 1) (sym c.new-after.ensures.items)
    (part_first d v old event c.requires.wide c.requires.nobody c.requires.empty (all_joined d c.args.broadcast.now old c.requires.joined))))

pub part_of-requires-clause-joined : goal.part_of-requires-clause-joined
part_of-requires-clause-joined c =
    let wide = c.requires.wide in
    let below = c.loop-number-test.true in
    let number = c.loop-number.number in
    let old = c.args.neighbours.now in
    let h = c.loop-number.invariant in
    h.joined number (omega arith) (omega (arith, below)) ∙ ap is_met (get_or_default old number None c.index-neighbours-number.result (omega (arith, wide, below)) ∙ sym c.index-neighbours-number.is)

pub loop-number-preserved : goal.loop-number-preserved
loop-number-preserved c =
    let d = c.args.upkeep in
    let event = c.args.event.now in
    let old = c.args.neighbours.now in
    let v = after_deeds (bearer_deeds d) c.args.broadcast.now in
    let now = c.loop-number.event in
    let next = c.part_of.new.event in
    let wide = c.requires.wide in
    let below = c.loop-number-test.true in
    subst (λ xs. IsPartway d v old xs (casting_in d c.args.broadcast.now next.broadcast) event next (c.loop-number.number + 1)) (sym c.in_ok-push-2.ensures.items)
    (part_next d v (casting_in d c.args.broadcast.now now.broadcast) (casting_in d c.args.broadcast.now next.broadcast) old c.loop-number.after.items event now next
    c.loop-number.number c.index-neighbours-number.result _ c.loop-number.invariant (omega (arith, wide, below)) c.index-neighbours-number.is c.in_ok-part_of.ensures.part)

pub returns : goal.returns
returns c =
    let d = c.args.upkeep in
    let wide = c.requires.wide in
    let past = c.loop-number-test.false in
    record {
      parts = part_last d (after_deeds (bearer_deeds d) c.args.broadcast.now) c.args.neighbours.now c.loop-number.after.items (casting_in d c.args.broadcast.now c.loop-number.event.broadcast) c.args.event.now c.loop-number.event c.loop-number.number
          c.loop-number.invariant (omega (arith, wide, past));
    }
