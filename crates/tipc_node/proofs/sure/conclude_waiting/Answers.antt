use Rattle.std.proofs.Common.{◌≡◌, ◌+◌, [], ◌∷◌, ◌++◌, refl, sym, ap, ◌∙◌, append_assoc, rules}
use Rattle.tipc_journal.specs.declared.entries.Entry.TheVariants.{Step, Answered, Queued}
use Rattle.tipc_journal.proofs.StepRooms.{first_room, last_room, next_room}
use Rattle.tipc_sockets.specs.Fates.{port_of}
use Rattle.tipc_node.specs.Sure.{are_sure, messages_in, told_in, waiting_entries}
use Rattle.tipc_node.proofs.work.Telling.{sure_behind}
use Rattle.tipc_node.proofs.sure.conclude_waiting.Goals as goal

pub commit-requires-clause-room : goal.commit-requires-clause-room
commit-requires-clause-room c =
    let r = c.requires in
    first_room c.args.journal.now.entries (told_in c.args.deliveries.items) (Step c.args.by c.args.note) (record { room = r.room; few = r.few; bytes = r.bytes }) refl

pub tell-requires-clause-room : goal.tell-requires-clause-room
tell-requires-clause-room c =
    let r = c.requires in
    let now = c.loop-delivery.journal.entries in
    let d = c.in-Some.delivery in
    next_room now (waiting_entries d.message ++ told_in c.pop_front.new.self.items) c.args.journal.now.entries (Step c.args.by c.args.note) d.entry (told_in c.args.deliveries.items) (record { room = r.room; few = r.few; bytes = r.bytes }) refl
    (ap (λ ds. now ++ told_in ds) (sym c.in-Some.ensures.items) ∙ c.loop-delivery.invariant.0)

pub tell-requires-clause-behind : goal.tell-requires-clause-behind
tell-requires-clause-behind c = λ m is.
    let r = c.requires in
    let now = c.loop-delivery.journal.entries in
    let d = c.in-Some.delivery in
    let rest = told_in c.pop_front.new.self.items in
    next_room (now ++ d.entry ∷ []) rest c.args.journal.now.entries (Step c.args.by c.args.note) (Queued (port_of m ∷ [])) (told_in c.args.deliveries.items) (record { room = r.room; few = r.few; bytes = r.bytes }) refl
    (append_assoc now (d.entry ∷ []) (Queued (port_of m ∷ []) ∷ rest)
    ∙ (ap (λ o. now ++ d.entry ∷ (waiting_entries o ++ rest)) (sym is) ∙ (ap (λ ds. now ++ told_in ds) (sym c.in-Some.ensures.items) ∙ c.loop-delivery.invariant.0)))

pub tell-requires-clause-sure : goal.tell-requires-clause-sure
tell-requires-clause-sure c =
    (sure_behind c.loop-delivery.sockets c.in-Some.delivery c.pop_front.new.self.items
    (ap (λ ds. are_sure c.loop-delivery.sockets (messages_in ds)) (sym c.in-Some.ensures.items) ∙ c.loop-delivery.invariant.4)).0

pub commit-requires-2-clause-room : goal.commit-requires-2-clause-room
commit-requires-2-clause-room c =
    let r = c.requires in
    let now = c.loop-delivery.journal.entries in
    let empty : c.loop-delivery.waiting.items ≡ [] = search rules in
    last_room now c.args.journal.now.entries (Step c.args.by c.args.note) (Answered c.args.by.caller c.args.by.call c.args.answer) (told_in c.args.deliveries.items) (record { room = r.room; few = r.few; bytes = r.bytes }) refl refl
    (ap (λ ds. now ++ told_in ds) (sym empty) ∙ c.loop-delivery.invariant.0)
