use Rattle.std.proofs.Common.{◌≡◌, List, Option, false, true, sym, ap, ◌∙◌}
use Rattle.tipc_node.specs.declared.neighbours.Neighbour.{Neighbour}
use Rattle.tipc_node.specs.Drafts.{own_of}
use Rattle.tipc_node.specs.Sockets.{with_sockets_of}
use Rattle.tipc_node.specs.Works.{is_in_contact}
use Rattle.tipc_node.proofs.work.Returning.{on_ok}
use Rattle.tipc_node.proofs.work.Tellings.{peer_told, peer_untold}
use Rattle.tipc_node.proofs.drafts.Draft.tell_peer.Goals as goal

pub returns-then-not-is_in_contact-clause-told : goal.returns-then-not-is_in_contact-clause-told
returns-then-not-is_in_contact-clause-told c = λ s.
    let d = c.args.self.now in
    let none : is_in_contact d.work.neighbours c.args.peer ≡ false = ap (λ (ys : List (Option Neighbour)). is_in_contact ys c.args.peer) (sym c.neighbours.ensures.value) ∙ sym c.is_in_contact.ensures ∙ c.if-not-is_in_contact.true in
    peer_untold (own_of d) d.work.neighbours (with_sockets_of d.work s) c.args.peer c.args.messages.now d.out none

pub put_each-requires-clause-contact : goal.put_each-requires-clause-contact
put_each-requires-clause-contact c = ap (λ (ys : List (Option Neighbour)). is_in_contact ys c.args.peer) (sym c.neighbours.ensures.value) ∙ sym c.is_in_contact.ensures ∙ c.if-not-is_in_contact.false

pub returns-clause-told : goal.returns-clause-told
returns-clause-told c =
    let d = c.args.self.now in
    let last = c.put_each.new.self in
    let some : is_in_contact d.work.neighbours c.args.peer ≡ true = ap (λ (ys : List (Option Neighbour)). is_in_contact ys c.args.peer) (sym c.neighbours.ensures.value) ∙ sym c.is_in_contact.ensures ∙ c.if-not-is_in_contact.false in
    on_ok c.put_each.result
    (λ puts s. peer_told (own_of d) d.work.neighbours (with_sockets_of d.work s) c.args.peer c.args.messages.now (with_sockets_of last.work s) d.out last.out some (puts s)) c.put_each.ensures.puts
