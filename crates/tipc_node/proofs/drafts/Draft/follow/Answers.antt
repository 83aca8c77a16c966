use Rattle.std.proofs.Common.{◌≡◌, ◌∙◌, ℕ, List, Option, ap, subst}
use Rattle.std.specs.Prelude.{slice_index_or, None}
use Rattle.tipc_broadcast.specs.Casting.{shown}
use Rattle.tipc_node.specs.declared.neighbours.Neighbour.{Neighbour}
use Rattle.tipc_node.specs.Drafts.{own_of}
use Rattle.tipc_node.specs.Hearings.{AllDelivered}
use Rattle.tipc_node.specs.Works.{Work}
use Rattle.tipc_node.proofs.work.Casting.{quiet_arrival}
use Rattle.tipc_node.proofs.work.Returning.{on_ok}
use Rattle.tipc_node.proofs.work.Stable.{still_there}
use Rattle.tipc_node.proofs.work.Taking.{answered_last, some_place}
use Rattle.tipc_node.proofs.drafts.Draft.follow.Goals as goal

pub answer-requires-clause-there : goal.answer-requires-clause-there
answer-requires-clause-there c =
    let peer = c.args.due.now.peer in
    let own : own_of c.cast.new.self ≡ own_of c.args.self.now =
    ap (λ (start : List (Option Neighbour) × ℕ). start.1) c.cast.ensures.start ∙ ap (λ (start : List (Option Neighbour) × ℕ). start.1) c.greet.ensures.start in
    let g = c.in_ok-greet.ensures.greeted in
    let h = subst (λ (w : Work). AllDelivered (own_of c.args.self.now) peer w c.args.deliveries.items c.deliver_all.new.self.work c.cast.new.self.out c.deliver_all.new.self.out) c.cast.ensures.work
    (subst (λ word. AllDelivered word peer c.cast.new.self.work c.args.deliveries.items c.deliver_all.new.self.work c.cast.new.self.out c.deliver_all.new.self.out) own c.in_ok-deliver_all.ensures.delivered) in
    still_there (own_of c.args.self.now) peer _ _ _ g.messages c.args.deliveries.items g.frames h.frames c.requires.there g.puts h.delivers

pub returns-clause-followed : goal.returns-clause-followed
returns-clause-followed c =
    let d = c.args.self.now in
    let told = c.greet.new.self in
    let cast = c.cast.new.self in
    let work = c.deliver_all.new.self in
    let peer = c.args.due.now.peer in
    let own : own_of cast ≡ own_of d =
    ap (λ (start : List (Option Neighbour) × ℕ). start.1) c.cast.ensures.start ∙ ap (λ (start : List (Option Neighbour) × ℕ). start.1) c.greet.ensures.start in
    let g = c.in_ok-greet.ensures.greeted in
    let h = subst (λ (w : Work). AllDelivered (own_of d) peer w c.args.deliveries.items work.work cast.out work.out) c.cast.ensures.work
    (subst (λ word. AllDelivered word peer cast.work c.args.deliveries.items work.work cast.out work.out) own c.in_ok-deliver_all.ensures.delivered) in
    let there = still_there (own_of d) peer _ _ _ g.messages c.args.deliveries.items g.frames h.frames c.requires.there g.puts h.delivers in
    let last = some_place (slice_index_or work.work.neighbours peer None) there in
    on_ok c.answer.result (λ answered. record {
      told = told.work;
      told_box = told.out;
      greeted = g;
      cast_box = cast.out;
      cast = c.in_ok-asks.ensures.told;
      work = work.work;
      work_box = work.out;
      delivered = h;
      then = last.0;
      then_is = last.1;
      after = (answered_last work.work c.answer.new.self.work peer c.args.due.now.bearer c.args.stated c.cast.new.broadcast c.in_ok-asks.asks c.shown-shown.result last.0 work.out c.answer.new.self.out c.in_ok-asks.ensures.asks (c.shown-shown.ensures ∙ ap (shown c.cast.new.broadcast) c.node.ensures) answered).0;
      adds = (answered_last work.work c.answer.new.self.work peer c.args.due.now.bearer c.args.stated c.cast.new.broadcast c.in_ok-asks.asks c.shown-shown.result last.0 work.out c.answer.new.self.out c.in_ok-asks.ensures.asks (c.shown-shown.ensures ∙ ap (shown c.cast.new.broadcast) c.node.ensures) answered).1;
    }) (c.answer.ensures.answered last.0 last.1)

pub returns-clause-still : goal.returns-clause-still
returns-clause-still c = λ same none. quiet_arrival c.args.due.now.peer c.args.changes.now c.args.stated c.args.broadcast.now c.cast.new.broadcast c.in_ok-asks.ensures.told.after same none

pub returns-in_err-deliver_all-clause-still : goal.returns-in_err-deliver_all-clause-still
returns-in_err-deliver_all-clause-still c = λ same none. quiet_arrival c.args.due.now.peer c.args.changes.now c.args.stated c.args.broadcast.now c.cast.new.broadcast c.in_ok-asks.ensures.told.after same none
