use Rattle.std.proofs.Common.{ap, ◌∙◌}
use Rattle.tipc_broadcast.specs.Contacts.{has_joined, told}
use Rattle.tipc_broadcast.specs.Casting.{Casting}
use Rattle.tipc_broadcast.proofs.Finding.{joined_still, told-peer}
use Rattle.tipc_broadcast.proofs.broadcast.Broadcast.state.Goals as goal

pub answer-requires : goal.answer-requires
answer-requires c =
    ap (λ (v : Casting). has_joined c.args.peer.word v.contacts) c.inform.ensures
    ∙ joined_still c.args.peer.word c.args.peer.word (told c.args.seen.start c.args.seen.next) (told-peer c.args.seen.start c.args.seen.next) c.args.self.now.contacts
    ∙ c.requires
