use Rattle.std.proofs.Common.{◌≡◌, take}
use Rattle.tipc_broadcast.proofs.contacts.copies.Given as goal

abbrev pub invariant-loop-contact : goal.invariant-loop-contact
invariant-loop-contact l = l.copies.items ≡ take l.contact-index l.contacts
