-- What the items of a peer make of a name table: they are applied one after the other, up to the first that doesn't
-- fit.
use Rattle.std.specs.Prelude.{ℕ, ◌+◌, ◌&&◌, Bool, true, false, not, nat_le, nat_lt, List, [], ◌∷◌, ◌++◌, Option, Some, None, count_by, find, fold, if◌then◌else◌, is_none, map, option_map}
use Rattle.std.specs.List.{list_any}
use Rattle.tipc_types.specs.declared.message_forms.Item.{Item}
use Rattle.tipc_types.specs.declared.message_forms.Message.{Message}
use Rattle.tipc_types.specs.declared.message_forms.Message.TheVariants.{Items, Payload}
use Rattle.tipc_types.specs.declared.services.Publication.{Publication}
use Rattle.tipc_types.specs.declared.services.Scope.TheVariants.{Cluster}
use Rattle.tipc_types.specs.Tables.{is_named, is_of, put, without}
use Rattle.tipc_journal.specs.declared.entries.Entry.{Entry}
use Rattle.tipc_journal.specs.declared.entries.Entry.TheVariants as entry
use Rattle.tipc_name_dist.specs.declared.applying.Learnt.{Learnt}
use Rattle.tipc_name_dist.specs.declared.applying.Learnt.TheVariants.{Forgot, Learned}

-- the publication of which a peer's item tells: at a port of the peer, and seen in the cluster
abbrev pub told_by : ℕ → Item → Publication
told_by from item = record {
  range = record { kind = item.kind; lower = item.lower; upper = item.upper };
  scope = Cluster;
  at = record { node = record { word = from }; port = item.port };
  key = item.key;
}

-- whether an item's lower bound is at most its upper one
abbrev pub is_ordered : Item → Bool
is_ordered item = nat_le item.lower item.upper

-- whether a table has room for a publication: its node and key aren't held, and fewer than 1,024 of that node are
abbrev pub can_be_put : List Publication → Publication → Bool
can_be_put table p =
    not (list_any (is_named p.at.node.word p.key) table) && nat_lt (count_by (is_of p.at.node.word) table) 1024

-- whether a peer's publication can be learned: its range is in order, and there is room for it
abbrev pub is_new : ℕ → List Publication → Item → Bool
is_new from table item = is_ordered item && can_be_put table (told_by from item)

-- the publication that a peer's withdrawal names, where its range is in order and the key is held
abbrev pub held_as : ℕ → List Publication → Item → Option Publication
held_as from table item = if is_ordered item then find (is_named from item.key) table else None

-- a table after some items, the publications that were learned or forgotten, and the place of the item that didn't
-- fit, from 0
pub record Applied : Type 0 where
  pub table : List Publication
  pub publications : List Publication
  pub bad : Option ℕ

-- a table of which nothing is learned or forgotten; `bad` is the place of an item that doesn't fit, if one doesn't
abbrev pub nothing_applied : List Publication → Option ℕ → Applied
nothing_applied table bad = record { table = table; publications = []; bad = bad }

-- one publication before what comes of the items behind it
abbrev pub behind : Publication → Applied → Applied
behind p a =
    record { table = a.table; publications = p ∷ a.publications; bad = option_map (λ place. place + 1) a.bad }

-- publications are learned
abbrev pub learned_from : ℕ → List Publication → List Item → Applied
learned_from from table [] = nothing_applied table None
learned_from from table (item ∷ items) =
    if is_new from table item
    then behind (told_by from item) (learned_from from (put (told_by from item) table) items)
    else nothing_applied table (Some 0)

-- publications are forgotten
abbrev pub forgotten_if : Option Publication → List Publication → Applied → Applied
forgotten_if None table later = nothing_applied table (Some 0)
forgotten_if (Some p) table later = behind p later

-- the publications of a peer that these withdrawals name are forgotten, one after the other, up to the first that names
-- none
abbrev pub forgotten_from : ℕ → List Publication → List Item → Applied
forgotten_from from table [] = nothing_applied table None
forgotten_from from table (item ∷ items) =
    forgotten_if (held_as from table item) table (forgotten_from from (without from item.key table) items)

-- what a message makes of a table; a user's message has no items
abbrev pub applied : ℕ → List Publication → Message → Applied
applied from table (Items false items) = learned_from from table items
applied from table (Items true items) = forgotten_from from table items
applied from table (Payload importance form at to kind lower upper code droppable body) = nothing_applied table None

-- what was learned or forgotten, by the message
abbrev pub learnt_of : Message → List Publication → Learnt
learnt_of (Items true items) publications = Forgot publications
learnt_of other publications = Learned publications

-- a table from which what was learned is taken back, the last first
abbrev pub undone : ℕ → List Publication → List Publication → List Publication
undone from [] table = table
undone from (p ∷ ps) table = without from p.key (undone from ps table)

-- what a message made of a table, then what those behind it make of it: they aren't applied where an item didn't fit
abbrev pub after_first : Applied → Applied → Applied
after_first first rest =
    if is_none first.bad
    then record { table = rest.table; publications = first.publications ++ rest.publications; bad = rest.bad }
    else first

-- what messages one after the other make of a table, up to the first item that doesn't fit
abbrev pub applied_each : ℕ → List Publication → List Message → Applied
applied_each from table [] = nothing_applied table None
applied_each from table (m ∷ messages) =
    after_first (applied from table m) (applied_each from (applied from table m).table messages)

-- what is held of a peer after each of its messages, also where an item of one doesn't fit
abbrev pub held_after : ℕ → List Publication → List Message → List Publication
held_after from table messages = fold (λ ps m. (applied from ps m).table) table messages

-- ---- what a journal keeps of it

-- a publication that was learned or forgotten by a message
abbrev pub learnt_entry : Message → Publication → Entry
learnt_entry (Items true items) p = entry.Forgot p
learnt_entry other p = entry.Learned p

-- an item that doesn't fit is dropped, at its place
abbrev pub misfit_entries : Option ℕ → List Entry
misfit_entries None = []
misfit_entries (Some place) = entry.Dropped place ∷ []

-- what is learned or forgotten by a peer's message, in the order of its items, up to the first that doesn't fit
abbrev pub learnt_entries : ℕ → List Publication → Message → List Entry
learnt_entries from table m = map (learnt_entry m) (applied from table m).publications ++ misfit_entries (applied from table m).bad
