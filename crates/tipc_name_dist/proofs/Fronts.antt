-- Messages one after the other, taken apart: a front of them, those behind it, and the part of the table that is their sender's.
use Rattle.std.proofs.Common.{◌≡◌, ◌≢◌, ℕ, ◌&&◌, ◌||◌, ◌==◌, Bool, true, false, not, List, [], ◌∷◌, ◌++◌, Option, Some, None, filter, find, length, if◌then◌else◌, refl, sym, ap, ◌∙◌, true≢false, append_assoc}
use Rattle.std.specs.Prelude.{count_by, is_none, nat_lt}
use Rattle.std.specs.List.{flat_map, list_any}
use Rattle.std.proofs.lemmas.Bool.{and_parts, ltb-true}
use Rattle.std.proofs.lemmas.List.{append-nil}
use Rattle.std.proofs.lemmas.List.Sums.{length-filter}
use Rattle.tipc_types.specs.declared.message_forms.Item.{Item}
use Rattle.tipc_types.specs.declared.message_forms.Message.{Message}
use Rattle.tipc_types.specs.declared.message_forms.Message.TheVariants.{Items, Payload}
use Rattle.tipc_types.specs.declared.services.Publication.{Publication}
use Rattle.tipc_types.specs.Tables.{is_named, is_of, put, without, IsTable}
use Rattle.tipc_types.proofs.Places.{filter-put}
use Rattle.tipc_name_table.proofs.TableLaws.{filters_commute, table_kept, table_put}
use Rattle.tipc_name_dist.specs.Applying.{after_first, applied, applied_each, behind, can_be_put, forgotten_from, forgotten_if, held_after, held_as, is_new, is_ordered, learned_from, nothing_applied, told_by, Applied}
use Rattle.tipc_name_dist.specs.Items.{items_in}
use Rattle.tipc_name_dist.proofs.Applied.{same_number}

-- ---- two after one another

-- what comes of messages that fit, and of those behind them
abbrev pub joined : Applied → Applied → Applied
joined first rest = record { table = rest.table; publications = first.publications ++ rest.publications; bad = rest.bad }

pub after_fitting : (first rest : Applied) → first.bad ≡ None → after_first first rest ≡ joined first rest
after_fitting first rest fits = ap (λ (o : Option ℕ). if is_none o then joined first rest else first) fits

-- where what comes of both fits, what comes of each fits
both_fit : (first rest : Applied) → (after_first first rest).bad ≡ None → (first.bad ≡ None) × (rest.bad ≡ None) × ((after_first first rest).table ≡ rest.table)
both_fit first rest fits = by first.bad refl fits
  where
    by : (o : Option ℕ) → first.bad ≡ o → (if is_none o then joined first rest else first).bad ≡ None
        → (o ≡ None) × (rest.bad ≡ None) × ((if is_none o then joined first rest else first).table ≡ rest.table)
    by None is fits = (refl, fits, refl)
    by (Some n) is fits = absurd (let wrong : Some n ≡ None = sym is ∙ fits in cc)

after_both : (a x : Applied) (next : List Publication → Applied) → after_first a (after_first x (next x.table)) ≡ after_first (after_first a x) (next (after_first a x).table)
after_both a x next = by a.bad x.bad
  where
    with_bad : Applied → Option ℕ → Applied
    with_bad y o = record { table = y.table; publications = y.publications; bad = o }

    by : (o p : Option ℕ) → after_first (with_bad a o) (after_first (with_bad x p) (next x.table))
        ≡ after_first (after_first (with_bad a o) (with_bad x p)) (next (after_first (with_bad a o) (with_bad x p)).table)
    by None None = ap (λ (ps : List Publication). record { table = (next x.table).table; publications = ps; bad = (next x.table).bad }) (sym (append_assoc a.publications x.publications (next x.table).publications))
    by None (Some n) = refl
    by (Some m) p = refl

-- ---- a front of messages, and those behind it

-- where all fit, what is held after the messages is the table that they make
pub held_by_front : (from : ℕ) (table : List Publication) (ms : List Message) → (applied_each from table ms).bad ≡ None → held_after from table ms ≡ (applied_each from table ms).table
held_by_front from table [] fits = refl
held_by_front from table (m ∷ ms) fits =
    let now = (applied from table m).table in
    let h = both_fit (applied from table m) (applied_each from now ms) fits in
    held_by_front from now ms h.1 ∙ sym h.2

pub applied_append : (from : ℕ) (table : List Publication) (xs ys : List Message)
    → applied_each from table (xs ++ ys) ≡ after_first (applied_each from table xs) (applied_each from (applied_each from table xs).table ys)
applied_append from table [] ys = refl
applied_append from table (m ∷ xs) ys =
    let first = applied from table m in
    ap (after_first first) (applied_append from first.table xs ys) ∙ after_both first (applied_each from first.table xs) (λ now. applied_each from now ys)

-- behind a front that fits, the others are applied to the table that it made
pub applied_behind : (from : ℕ) (table : List Publication) (xs ys : List Message) → (applied_each from table xs).bad ≡ None
    → ((applied_each from table (xs ++ ys)).bad ≡ (applied_each from (applied_each from table xs).table ys).bad)
    × ((applied_each from table (xs ++ ys)).table ≡ (applied_each from (applied_each from table xs).table ys).table)
applied_behind from table xs ys fits =
    let first = applied_each from table xs in
    let whole = applied_append from table xs ys ∙ after_fitting first (applied_each from first.table ys) fits in
    (ap (λ (a : Applied). a.bad) whole, ap (λ (a : Applied). a.table) whole)

applied_alone : (from : ℕ) (table : List Publication) (m : Message) → ((applied_each from table (m ∷ [])).bad ≡ (applied from table m).bad) × ((applied_each from table (m ∷ [])).table ≡ (applied from table m).table)
applied_alone from table m = by (applied from table m).bad
  where
    first : Option ℕ → Applied
    first o = record { table = (applied from table m).table; publications = (applied from table m).publications; bad = o }

    last : Applied
    last = nothing_applied (applied from table m).table None

    by : (o : Option ℕ) → ((after_first (first o) last).bad ≡ o) × ((after_first (first o) last).table ≡ (applied from table m).table)
    by None = (refl, refl)
    by (Some n) = (refl, refl)

-- one message behind them
pub applied_last : (from : ℕ) (table : List Publication) (xs : List Message) (m : Message) → (applied_each from table xs).bad ≡ None
    → ((applied_each from table (xs ++ m ∷ [])).bad ≡ (applied from (applied_each from table xs).table m).bad)
    × ((applied_each from table (xs ++ m ∷ [])).table ≡ (applied from (applied_each from table xs).table m).table)
applied_last from table xs m fits =
    let both = applied_behind from table xs (m ∷ []) fits in
    let alone = applied_alone from (applied_each from table xs).table m in
    (both.0 ∙ alone.0, both.1 ∙ alone.1)

pub held_append : (from : ℕ) (table : List Publication) (xs ys : List Message) → held_after from table (xs ++ ys) ≡ held_after from (held_after from table xs) ys
held_append from table [] ys = refl
held_append from table (m ∷ xs) ys = held_append from (applied from table m).table xs ys

-- ---- messages without items

-- a message without items, as a user's is, changes nothing
pub payload_applied : (from : ℕ) (table : List Publication) (m : Message) → items_in m ≡ [] → applied from table m ≡ nothing_applied table None
payload_applied from table (Items true items) none = ap (forgotten_from from table) none
payload_applied from table (Items false items) none = ap (learned_from from table) none
payload_applied from table (Payload importance form at to kind lower upper code droppable body) none = refl

none_in : (m : Message) (ms : List Message) → flat_map items_in (m ∷ ms) ≡ [] → (items_in m ≡ []) × (flat_map items_in ms ≡ [])
none_in m ms none = by (items_in m) none
  where
    by : (items : List Item) → items ++ flat_map items_in ms ≡ [] → (items ≡ []) × (flat_map items_in ms ≡ [])
    by [] none = (refl, none)
    by (item ∷ items) none = absurd cc

pub payloads_applied : (from : ℕ) (table : List Publication) (ms : List Message) → flat_map items_in ms ≡ [] → applied_each from table ms ≡ nothing_applied table None
payloads_applied from table [] none = refl
payloads_applied from table (m ∷ ms) none =
    let h = none_in m ms none in
    ap (λ (a : Applied). after_first a (applied_each from a.table ms)) (payload_applied from table m h.0) ∙ payloads_applied from table ms h.1

nothing_behind : (a : Applied) → after_first a (nothing_applied a.table None) ≡ a
nothing_behind a = by a.bad
  where
    by : (o : Option ℕ) → after_first (record { table = a.table; publications = a.publications; bad = o }) (nothing_applied a.table None) ≡ record { table = a.table; publications = a.publications; bad = o }
    by None = ap (λ (ps : List Publication). record { table = a.table; publications = ps; bad = None }) (append-nil a.publications)
    by (Some n) = refl

-- behind others they change nothing
pub payloads_behind : (from : ℕ) (table : List Publication) (ms rest : List Message) → flat_map items_in rest ≡ [] → applied_each from table (ms ++ rest) ≡ applied_each from table ms
payloads_behind from table ms rest none =
    let first = applied_each from table ms in
    applied_append from table ms rest ∙ ap (after_first first) (payloads_applied from first.table rest none) ∙ nothing_behind first

-- ---- a table is kept one

put_kept : (table : List Publication) (p : Publication) → IsTable table → can_be_put table p ≡ true → IsTable (put p table)
put_kept table p sound room =
    let h = and_parts _ _ room in
    table_put p table sound (not_true (list_any (is_named p.at.node.word p.key) table) h.0) (ltb-true _ _ h.1)
  where
    not_true : (b : Bool) → not b ≡ true → b ≡ false
    not_true true is = absurd (true≢false (sym is))
    not_true false is = refl

learned_table : (from : ℕ) (table : List Publication) (items : List Item) → IsTable table → IsTable (learned_from from table items).table
learned_table from table [] sound = sound
learned_table from table (item ∷ items) sound =
    by (is_new from table item) (λ new. learned_table from (put p table) items (put_kept table p sound (and_parts _ _ new).1))
  where
    p : Publication
    p = told_by from item

    by : (b : Bool) → (b ≡ true → IsTable (learned_from from (put p table) items).table)
        → IsTable (if b then behind p (learned_from from (put p table) items) else nothing_applied table (Some 0)).table
    by true later = later refl
    by false later = sound

forgotten_table : (from : ℕ) (table : List Publication) (items : List Item) → IsTable table → IsTable (forgotten_from from table items).table
forgotten_table from table [] sound = sound
forgotten_table from table (item ∷ items) sound =
    by (held_as from table item) (forgotten_table from rest items (table_kept (λ q. not (is_named from item.key q)) table sound))
  where
    rest : List Publication
    rest = without from item.key table

    by : (o : Option Publication) → IsTable (forgotten_from from rest items).table → IsTable (forgotten_if o table (forgotten_from from rest items)).table
    by None later = sound
    by (Some p) later = later

pub applied_table : (from : ℕ) (table : List Publication) (m : Message) → IsTable table → IsTable (applied from table m).table
applied_table from table (Items true items) sound = forgotten_table from table items sound
applied_table from table (Items false items) sound = learned_table from table items sound
applied_table from table (Payload importance form at to kind lower upper code droppable body) sound = sound

pub each_table : (from : ℕ) (table : List Publication) (ms : List Message) → IsTable table → IsTable (applied_each from table ms).table
each_table from table [] sound = sound
each_table from table (m ∷ ms) sound = by first.bad (applied_table from table m sound) (each_table from first.table ms (applied_table from table m sound))
  where
    first : Applied
    first = applied from table m

    by : (o : Option ℕ) → IsTable first.table → IsTable (applied_each from first.table ms).table
        → IsTable (if is_none o then joined first (applied_each from first.table ms) else first).table
    by None now later = later
    by (Some n) now later = now

-- ---- the sender's part of a table

kept_twice : (test : Publication → Bool) (ps : List Publication) → filter test (filter test ps) ≡ filter test ps
kept_twice test [] = refl
kept_twice test (p ∷ ps) = by (test p) refl (kept_twice test ps)
  where
    by : (b : Bool) → test p ≡ b → filter test (filter test ps) ≡ filter test ps
        → filter test (if b then p ∷ filter test ps else filter test ps) ≡ (if b then p ∷ filter test ps else filter test ps)
    by true is later = ap (λ (b : Bool). if b then p ∷ filter test (filter test ps) else filter test (filter test ps)) is ∙ ap (λ (those : List Publication). p ∷ those) later
    by false is later = later

part_any : (from key : ℕ) (ps : List Publication) → list_any (is_named from key) (filter (is_of from) ps) ≡ list_any (is_named from key) ps
part_any from key [] = refl
part_any from key (p ∷ ps) = by (is_of from p) refl (part_any from key ps)
  where
    by : (b : Bool) → is_of from p ≡ b → list_any (is_named from key) (filter (is_of from) ps) ≡ list_any (is_named from key) ps
        → list_any (is_named from key) (if b then p ∷ filter (is_of from) ps else filter (is_of from) ps) ≡ (is_of from p && (p.key == key)) || list_any (is_named from key) ps
    by true is later = ap (λ (b : Bool). is_named from key p || b) later
    by false is later = later ∙ ap (λ (b : Bool). (b && (p.key == key)) || list_any (is_named from key) ps) (sym is)

part_found : (from key : ℕ) (ps : List Publication) → find (is_named from key) (filter (is_of from) ps) ≡ find (is_named from key) ps
part_found from key [] = refl
part_found from key (p ∷ ps) = by (is_of from p) refl (part_found from key ps)
  where
    by : (b : Bool) → is_of from p ≡ b → find (is_named from key) (filter (is_of from) ps) ≡ find (is_named from key) ps
        → find (is_named from key) (if b then p ∷ filter (is_of from) ps else filter (is_of from) ps) ≡ (if is_of from p && (p.key == key) then Some p else find (is_named from key) ps)
    by true is later = ap (λ (o : Option Publication). if is_named from key p then Some p else o) later
    by false is later = later ∙ ap (λ (b : Bool). if b && (p.key == key) then Some p else find (is_named from key) ps) (sym is)

part_count : (from : ℕ) (ps : List Publication) → count_by (is_of from) (filter (is_of from) ps) ≡ count_by (is_of from) ps
part_count from ps =
    sym (length-filter (is_of from) (filter (is_of from) ps)) ∙ ap length (kept_twice (is_of from) ps) ∙ length-filter (is_of from) ps

-- the same of a table of which only one node's publications are kept
abbrev pub only_of : ℕ → Applied → Applied
only_of from a = record { table = filter (is_of from) a.table; publications = a.publications; bad = a.bad }

part_room : (from : ℕ) (table : List Publication) (item : Item) → is_new from (filter (is_of from) table) item ≡ is_new from table item
part_room from table item =
    ap (λ (b : Bool). is_ordered item && (not b && nat_lt (count_by (is_of from) (filter (is_of from) table)) 1024)) (part_any from item.key table)
    ∙ ap (λ (n : ℕ). is_ordered item && (not (list_any (is_named from item.key) table) && nat_lt n 1024)) (part_count from table)

part_put : (from : ℕ) (table : List Publication) (item : Item) → IsTable table → put (told_by from item) (filter (is_of from) table) ≡ filter (is_of from) (put (told_by from item) table)
part_put from table item sound =
    let p = told_by from item in
    sym (filter-put (is_of from) p table sound.ordered ∙ ap (λ (b : Bool). if b then put p (filter (is_of from) table) else filter (is_of from) table) (same_number from))

learned_part : (from : ℕ) (table : List Publication) (items : List Item) → IsTable table → learned_from from (filter (is_of from) table) items ≡ only_of from (learned_from from table items)
learned_part from table [] sound = refl
learned_part from table (item ∷ items) sound =
    ap (λ (b : Bool). if b then behind p (learned_from from (put p part) items) else nothing_applied part (Some 0)) (part_room from table item)
    ∙ by (is_new from table item) (λ new. learned_part from (put p table) items (put_kept table p sound (and_parts _ _ new).1))
  where
    p : Publication
    p = told_by from item

    part : List Publication
    part = filter (is_of from) table

    by : (b : Bool) → (b ≡ true → learned_from from (filter (is_of from) (put p table)) items ≡ only_of from (learned_from from (put p table) items))
        → (if b then behind p (learned_from from (put p part) items) else nothing_applied part (Some 0)) ≡ only_of from (if b then behind p (learned_from from (put p table) items) else nothing_applied table (Some 0))
    by true later = ap (λ (ps : List Publication). behind p (learned_from from ps items)) (part_put from table item sound) ∙ ap (behind p) (later refl)
    by false later = refl

part_held : (from : ℕ) (table : List Publication) (item : Item) → held_as from (filter (is_of from) table) item ≡ held_as from table item
part_held from table item = ap (λ (o : Option Publication). if is_ordered item then o else None) (part_found from item.key table)

forgotten_part : (from : ℕ) (table : List Publication) (items : List Item) → forgotten_from from (filter (is_of from) table) items ≡ only_of from (forgotten_from from table items)
forgotten_part from table [] = refl
forgotten_part from table (item ∷ items) =
    ap (λ (o : Option Publication). forgotten_if o part (forgotten_from from (without from item.key part) items)) (part_held from table item)
    ∙ ap (λ (ps : List Publication). forgotten_if (held_as from table item) part (forgotten_from from ps items)) (sym (filters_commute (is_of from) (λ q. not (is_named from item.key q)) table))
    ∙ by (held_as from table item) (forgotten_part from rest items)
  where
    part : List Publication
    part = filter (is_of from) table

    rest : List Publication
    rest = without from item.key table

    by : (o : Option Publication) → forgotten_from from (filter (is_of from) rest) items ≡ only_of from (forgotten_from from rest items)
        → forgotten_if o part (forgotten_from from (filter (is_of from) rest) items) ≡ only_of from (forgotten_if o table (forgotten_from from rest items))
    by None later = refl
    by (Some p) later = ap (behind p) later

-- what a message makes of the sender's part alone is that part of what it makes of the table: the same fits, and the same is learned
pub part_applied : (from : ℕ) (table : List Publication) (m : Message) → IsTable table → applied from (filter (is_of from) table) m ≡ only_of from (applied from table m)
part_applied from table (Items true items) sound = forgotten_part from table items
part_applied from table (Items false items) sound = learned_part from table items sound
part_applied from table (Payload importance form at to kind lower upper code droppable body) sound = refl

pub applied_of_part : (from : ℕ) (table : List Publication) (m : Message) → IsTable table → filter (is_of from) (applied from table m).table ≡ (applied from (filter (is_of from) table) m).table
applied_of_part from table m sound = ap (λ (a : Applied). a.table) (sym (part_applied from table m sound))

-- ---- the others' parts
