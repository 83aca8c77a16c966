-- What a peer's items make of the names that the sockets hold: the entries that are noted make the same of them, and are of the peer.
use Rattle.std.proofs.Common.{◌≡◌, ℕ, Bool, true, false, List, [], ◌∷◌, ◌++◌, Option, Some, None, find, fold, map, if◌then◌else◌, refl, ap, ◌∙◌, eqb-true}
use Rattle.std.specs.List.{list_all}
use Rattle.std.proofs.lemmas.Bool.{and_from, and_parts}
use Rattle.std.proofs.lemmas.List.Sums.{fold-append}
use Rattle.tipc_types.specs.declared.message_forms.Item.{Item}
use Rattle.tipc_types.specs.declared.message_forms.Message.{Message}
use Rattle.tipc_types.specs.declared.message_forms.Message.TheVariants.{Items, Payload}
use Rattle.tipc_types.specs.declared.services.Publication.{Publication}
use Rattle.tipc_types.specs.Tables.{is_named, is_of, put, without}
use Rattle.tipc_journal.specs.declared.entries.Entry.{Entry}
use Rattle.tipc_name_dist.specs.Applying.{applied, behind, forgotten_from, forgotten_if, held_as, is_new, is_ordered, learned_from, learnt_entries, learnt_entry, misfit_entries, nothing_applied, told_by}
use Rattle.tipc_name_dist.proofs.Applied.{same_number}
use Rattle.tipc_sockets.specs.SocketTables.{SocketTable}
use Rattle.tipc_sockets.specs.Publishing.{published, withdrawn}
use Rattle.tipc_sockets.specs.Telling.{after_entry}
-- ---- what is learned and forgotten is of the peer
use Rattle.tipc_sockets.proofs.Learning.{found_hit}

named_of : (from key : ℕ) (p : Publication) → is_named from key p ≡ true → is_of from p ≡ true
named_of from key p is = (and_parts (is_of from p) _ is).0

learned_of : (from : ℕ) (table : List Publication) (items : List Item) → list_all (is_of from) (learned_from from table items).publications ≡ true
learned_of from table [] = refl
learned_of from table (item ∷ items) = by (is_new from table item) (learned_of from (put p table) items)
  where
    p : Publication
    p = told_by from item

    by : (b : Bool) → list_all (is_of from) (learned_from from (put p table) items).publications ≡ true
        → list_all (is_of from) (if b then behind p (learned_from from (put p table) items) else nothing_applied table (Some 0)).publications ≡ true
    by true later = and_from _ _ (same_number from) later
    by false later = refl

held_passes : (from : ℕ) (table : List Publication) (item : Item) (p : Publication) → held_as from table item ≡ Some p → is_named from item.key p ≡ true
held_passes from table item p is = by (is_ordered item) is
  where
    by : (b : Bool) → (if b then find (is_named from item.key) table else None) ≡ Some p → is_named from item.key p ≡ true
    by true found = found_hit (is_named from item.key) table p found
    by false found = absurd (let wrong : None ≡ Some p = found in cc)

forgotten_of : (from : ℕ) (table : List Publication) (items : List Item) → list_all (is_of from) (forgotten_from from table items).publications ≡ true
forgotten_of from table [] = refl
forgotten_of from table (item ∷ items) = by (held_as from table item) refl (forgotten_of from (without from item.key table) items)
  where
    by : (o : Option Publication) → held_as from table item ≡ o → list_all (is_of from) (forgotten_from from (without from item.key table) items).publications ≡ true
        → list_all (is_of from) (forgotten_if o table (forgotten_from from (without from item.key table) items)).publications ≡ true
    by None is later = refl
    by (Some p) is later = and_from _ _ (named_of from item.key p (held_passes from table item p is)) later

pub applied_of : (from : ℕ) (table : List Publication) (m : Message) → list_all (is_of from) (applied from table m).publications ≡ true
applied_of from table (Items false items) = learned_of from table items
applied_of from table (Items true items) = forgotten_of from table items
applied_of from table (Payload importance form at to kind lower upper code droppable body) = refl

-- ---- what is noted of it makes the same of the sockets' names

misfit_same : (s : SocketTable) (bad : Option ℕ) → fold after_entry s (misfit_entries bad) ≡ s
misfit_same s None = refl
misfit_same s (Some place) = refl

learned_names : (from : ℕ) (s : SocketTable) (table : List Publication) (items all : List Item) → s.names ≡ table
    → (fold after_entry s (map (learnt_entry (Items false all)) (learned_from from table items).publications)).names ≡ (learned_from from table items).table
learned_names from s table [] all is = is
learned_names from s table (item ∷ items) all is = by (is_new from table item) (learned_names from (published s p) (put p table) items all (ap (put p) is))
  where
    p : Publication
    p = told_by from item

    by : (b : Bool) → (fold after_entry (published s p) (map (learnt_entry (Items false all)) (learned_from from (put p table) items).publications)).names ≡ (learned_from from (put p table) items).table
        → (fold after_entry s (map (learnt_entry (Items false all)) (if b then behind p (learned_from from (put p table) items) else nothing_applied table (Some 0)).publications)).names
        ≡ (if b then behind p (learned_from from (put p table) items) else nothing_applied table (Some 0)).table
    by true later = later
    by false later = is

forgotten_names : (from : ℕ) (s : SocketTable) (table : List Publication) (items all : List Item) → s.names ≡ table
    → (fold after_entry s (map (learnt_entry (Items true all)) (forgotten_from from table items).publications)).names ≡ (forgotten_from from table items).table
forgotten_names from s table [] all is = is
forgotten_names from s table (item ∷ items) all is = by (held_as from table item) refl (λ t same. forgotten_names from t (without from item.key table) items all same)
  where
    by : (o : Option Publication) → held_as from table item ≡ o
        → ((t : SocketTable) → t.names ≡ without from item.key table → (fold after_entry t (map (learnt_entry (Items true all)) (forgotten_from from (without from item.key table) items).publications)).names ≡ (forgotten_from from (without from item.key table) items).table)
        → (fold after_entry s (map (learnt_entry (Items true all)) (forgotten_if o table (forgotten_from from (without from item.key table) items)).publications)).names
        ≡ (forgotten_if o table (forgotten_from from (without from item.key table) items)).table
    by None held later = is
    by (Some p) held later =
        let named = and_parts (is_of from p) _ (held_passes from table item p held) in
        let node : p.at.node.word ≡ from = eqb-true _ _ named.0 in
        let key : p.key ≡ item.key = eqb-true _ _ named.1 in
        later (withdrawn s p.at.node.word p.key) (ap (without p.at.node.word p.key) is ∙ ap (λ w. without w p.key table) node ∙ ap (λ k. without from k table) key)

-- the entries of what fits, then one for what doesn't
noted_names : (s : SocketTable) (es : List Entry) (bad : Option ℕ) (table : List Publication) → (fold after_entry s es).names ≡ table → (fold after_entry s (es ++ misfit_entries bad)).names ≡ table
noted_names s es bad table is = ap (λ (t : SocketTable). t.names) (fold-append after_entry s es (misfit_entries bad) ∙ misfit_same (fold after_entry s es) bad) ∙ is

pub learnt_names : (from : ℕ) (s : SocketTable) (m : Message) → (fold after_entry s (learnt_entries from s.names m)).names ≡ (applied from s.names m).table
learnt_names from s (Items false items) =
    let a = learned_from from s.names items in noted_names s (map (learnt_entry (Items false items)) a.publications) a.bad a.table (learned_names from s s.names items items refl)
learnt_names from s (Items true items) =
    let a = forgotten_from from s.names items in noted_names s (map (learnt_entry (Items true items)) a.publications) a.bad a.table (forgotten_names from s s.names items items refl)
learnt_names from s (Payload importance form at to kind lower upper code droppable body) = refl
