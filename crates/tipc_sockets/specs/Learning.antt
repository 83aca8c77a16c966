-- What one item of a peer's message comes to.
use Rattle.std.specs.Prelude.{ℕ, Bool, true, false, List, Option, Some, None, if◌then◌else◌}
use Rattle.tipc_types.specs.declared.message_forms.Item.{Item}
use Rattle.tipc_types.specs.declared.services.Publication.{Publication}
use Rattle.tipc_journal.specs.declared.entries.Entry.{Entry}
use Rattle.tipc_journal.specs.declared.entries.Entry.TheVariants.{Forgot, Learned}
use Rattle.tipc_name_dist.specs.Applying.{held_as, is_new, told_by}

-- the publication that is learned or, by a withdrawal, forgotten, where the item fits
abbrev pub fitting : ℕ → Bool → List Publication → Item → Option Publication
fitting from false table item = if is_new from table item then Some (told_by from item) else None
fitting from true table item = held_as from table item

-- how it is told
abbrev pub learnt_by : Bool → Publication → Entry
learnt_by false p = Learned p
learnt_by true p = Forgot p
