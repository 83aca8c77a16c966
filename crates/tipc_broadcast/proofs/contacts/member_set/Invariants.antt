use Rattle.std.proofs.Common.{◌≡◌, take}
use Rattle.tipc_broadcast.specs.Contacts.{member_set}
use Rattle.tipc_broadcast.proofs.contacts.member_set.Given as goal

abbrev pub invariant-loop-contact : goal.invariant-loop-contact
invariant-loop-contact l = l.members ≡ member_set (take l.contact-index l.contacts)
