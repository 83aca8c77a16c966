use Rattle.std.proofs.Common.{◌≡◌, ℕ, List, Option, refl, sym, ap, subst, ◌∙◌}
use Rattle.tipc_sockets.specs.SocketTables.{SocketTable}
use Rattle.tipc_node.specs.declared.neighbours.Neighbour.{Neighbour}
use Rattle.tipc_node.specs.Drafts.{ToldEach, own_of, peer_in_contact}
use Rattle.tipc_node.specs.Sockets.{with_sockets_of}
use Rattle.tipc_node.specs.Works.{peers_in_contact}
use Rattle.tipc_node.proofs.work.Tellings.{no_messages, telling_first, telling_last, telling_next, told_nothing}
use Rattle.tipc_node.proofs.drafts.Draft.tell_peers.Goals as goal

pub returns-then-is_empty-clause-told : goal.returns-then-is_empty-clause-told
returns-then-is_empty-clause-told c = λ s.
    let d = c.args.self.now in
    let none = no_messages c.args.messages.now (sym c.is_empty.ensures ∙ c.if-is_empty.true) in
    told_nothing (own_of d) (with_sockets_of d.work s) c.args.messages.now (peers_in_contact d.work.neighbours) d.out none

pub loop-peer-init : goal.loop-peer-init
loop-peer-init c =
    let d = c.args.self.now in
    (telling_first (own_of d) c.args.messages.now d.work.neighbours d.work.inside d.out, refl, refl)

pub loop-peer-preserved : goal.loop-peer-preserved
loop-peer-preserved c =
    let i = c.loop-peer.invariant in
    let d = c.args.self.now in
    let now = c.loop-peer.self in
    let next = c.tell_peer.new.self in
    let number = c.loop-peer.peer in
    let own : own_of now ≡ own_of d = ap (λ (start : List (Option Neighbour) × ℕ). start.1) i.2 in
    let told = c.in_ok-tell_peer.ensures in (
      telling_next (own_of d) c.args.messages.now d.work.neighbours now.work.neighbours next.work.neighbours d.work.inside now.work.inside next.work.inside d.out now.out next.out number i.0 c.loop-peer-test.true c.requires.few c.requires.light
          (record {
            told = λ (s : SocketTable). subst (λ word. ToldEach word (with_sockets_of now.work s) c.args.messages.now (peer_in_contact now.work.neighbours number) (with_sockets_of next.work s) now.out next.out) own (told.told s);
            contact = told.contact;
            few = told.few;
            light = told.light;
          }),
      c.tell_peer.ensures.sockets ∙ i.1,
      c.tell_peer.ensures.start ∙ i.2,
    )

pub returns-clause-told : goal.returns-clause-told
returns-clause-told c = λ s.
    let d = c.args.self.now in
    let now = c.loop-peer.self in
    telling_last (own_of d) c.args.messages.now d.work.neighbours now.work.neighbours d.work.inside now.work.inside d.out now.out c.loop-peer.peer c.loop-peer.invariant.0 c.loop-peer-test.false s
