use Rattle.std.proofs.Common.{◌≡◌, ◌∙◌, true, false, Option, Some, None, ap, refl, sym}
use Rattle.std.specs.Prelude.{is_some, not}
use Rattle.std.specs.List.{list_any}
use Rattle.tipc_types.specs.declared.link_words.BroadcastState.{BroadcastState}
use Rattle.tipc_pair.specs.Contacts.{is_of_contact}
use Rattle.tipc_node.specs.Hearings.{told_changes}
use Rattle.tipc_node.proofs.work.Casting.{unchanged_filtered}
use Rattle.tipc_node.proofs.cores.Core.broadcast_before.Goals as goal

none_there : (o : Option BroadcastState) → is_some o ≡ false → o ≡ None
none_there None none = refl
none_there (Some seen) none = absurd (let wrong : true ≡ false = none in cc)

pub returns-then-is_none-clause-none : goal.returns-then-is_none-clause-none
returns-then-is_none-clause-none c = (
  unchanged_filtered (told_changes c.args.heard.now) (sym (c.changes_contact.ensures ∙ ap (list_any is_of_contact) c.changes.ensures) ∙ c.if-not-changes_contact.true),
  none_there c.args.heard.now.stated (c.is_none.ensures ∙ ap not c.if-is_none.true),
)
