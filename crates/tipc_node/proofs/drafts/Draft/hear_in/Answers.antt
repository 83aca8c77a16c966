use Rattle.std.proofs.Common.{◌≡◌, ℕ, List, Option, ap, refl, subst, sym}
use Rattle.tipc_types.specs.Address.{node_word}
use Rattle.tipc_types.specs.declared.link_words.BroadcastState.{BroadcastState}
use Rattle.tipc_broadcast.specs.Contacts.{has_joined}
use Rattle.tipc_node.specs.declared.neighbours.Neighbour.{Neighbour}
use Rattle.tipc_node.specs.Casting.{CanBeTold}
use Rattle.tipc_node.specs.Drafts.{own_of}
use Rattle.tipc_node.specs.Hearings.{Followed, HeardThere}
use Rattle.tipc_node.proofs.drafts.Draft.hear_in.Goals as goal

pub follow-requires-clause-told : goal.follow-requires-clause-told
follow-requires-clause-told c =
    let given = c.in_ok-given.given in
    subst (λ cs. CanBeTold (has_joined (node_word c.args.due.now.peer) c.args.broadcast.now.contacts) cs given.stated) (sym c.as_slice.ensures)
    (subst (λ b. CanBeTold b given.changes given.stated) (sym c.requires.joined) c.in_ok-given.ensures.told)

pub returns-clause-worked : goal.returns-clause-worked
returns-clause-worked c = λ x was.
    let d = c.args.self.now in
    let between = c.hear_there.new.self in
    let last = c.follow.new.self in
    let given = c.in_ok-given.given in
    let v = c.args.broadcast.now in
    let v' = c.follow.new.broadcast in
    let own : own_of between ≡ own_of d = ap (λ (start : List (Option Neighbour) × ℕ). start.1) c.hear_there.ensures.start in record {
      given = given;
      work = between.work;
      between = between.out;
      heard = subst (λ (t : BroadcastState). HeardThere d.work.neighbours d.work.sockets x c.args.due.now c.args.heard.number t given between.work d.out between.out) c.requires.shown (c.in_ok-given.ensures.heard x was);
      answer = refl;
      followed = subst (λ cs. Followed (own_of d) c.args.due.now.peer c.args.due.now.bearer cs given.stated given.deliveries.items v v' between.work last.work between.out last.out) c.as_slice.ensures
          (subst (λ word. Followed word c.args.due.now.peer c.args.due.now.bearer c.as_slice.result.now given.stated given.deliveries.items v v' between.work last.work between.out last.out) own c.in_ok-follow.ensures.followed);
    }
