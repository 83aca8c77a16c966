-- A peer's table agrees with what a node has published, and goes on so with each message.
use Rattle.std.proofs.Common.{◌≡◌, ℕ, ◌+◌, ◌&&◌, Bool, true, false, not, List, [], ◌∷◌, ◌++◌, Option, Some, None, filter, find, map, if◌then◌else◌, refl, suc, sym, ap, ◌∙◌, subst, true≢false}
use Rattle.std.specs.Prelude.{option_map, slice_get}
use Rattle.std.specs.List.{flat_map, list_all, list_any}
use Rattle.std.proofs.lemmas.Bool.{and_parts}
use Rattle.std.proofs.lemmas.List.Elements.{filter-append}
use Rattle.tipc_types.specs.declared.message_forms.Item.{Item}
use Rattle.tipc_types.specs.declared.message_forms.Message.{Message}
use Rattle.tipc_types.specs.declared.message_forms.Message.TheVariants.{Items, Payload}
use Rattle.tipc_types.specs.declared.services.Publication.{Publication}
use Rattle.tipc_types.specs.Tables.{is_named, is_of, put, without, IsTable}
use Rattle.tipc_name_table.proofs.TableLaws.{filters_commute}
use Rattle.tipc_journal.specs.Matches.{arranged}
use Rattle.tipc_journal.specs.Names.{cluster_part, is_clusterwide}
use Rattle.tipc_journal.proofs.MatchLaws.{arranged_nil, filter_arranged, list_any_arranged}
use Rattle.tipc_name_dist.specs.Agreeing.{as_learned, has_instances, has_key, without_key, Agrees, AreOwn}
use Rattle.tipc_name_dist.specs.Applying.{applied, applied_each, after_first, behind, forgotten_from, forgotten_if, held_as, is_new, learned_from, nothing_applied, told_by, Applied}
use Rattle.tipc_name_dist.specs.Items.{item_of, items_in, IsBulk, IsTelling}
use Rattle.tipc_name_dist.proofs.Applied.{none_hit}
use Rattle.tipc_name_dist.proofs.Agreeing.{all_held, found, found_kept, found_lost, found_passes, learned_any, named_any, own_kept}

-- ---- messages one after the other

-- where all of several items fit, the first ones do, and the others behind them
learned_both : (from : ℕ) (table : List Publication) (xs ys : List Item) → (learned_from from table (xs ++ ys)).bad ≡ None
    → ((learned_from from table xs).bad ≡ None) × ((learned_from from (learned_from from table xs).table ys).bad ≡ None)
    × ((learned_from from table (xs ++ ys)).table ≡ (learned_from from (learned_from from table xs).table ys).table)
learned_both from table [] ys fits = (refl, fits, refl)
learned_both from table (x ∷ xs) ys fits = by (is_new from table x) fits (learned_both from (put p table) xs ys)
  where
    p : Publication
    p = told_by from x

    none_before : (o : Option ℕ) → option_map (λ n. n + 1) o ≡ None → o ≡ None
    none_before None is = refl
    none_before (Some n) is = absurd (let wrong : Some (n + 1) ≡ None = is in cc)

    step : Bool → List Item → Applied
    step b is = if b then behind p (learned_from from (put p table) is) else nothing_applied table (Some 0)

    by : (b : Bool) → (step b (xs ++ ys)).bad ≡ None
        → ((learned_from from (put p table) (xs ++ ys)).bad ≡ None → ((learned_from from (put p table) xs).bad ≡ None) × ((learned_from from (learned_from from (put p table) xs).table ys).bad ≡ None)
        × ((learned_from from (put p table) (xs ++ ys)).table ≡ (learned_from from (learned_from from (put p table) xs).table ys).table))
        → ((step b xs).bad ≡ None) × ((learned_from from (step b xs).table ys).bad ≡ None) × ((step b (xs ++ ys)).table ≡ (learned_from from (step b xs).table ys).table)
    by true fits later =
        let h = later (none_before _ fits) in
        (ap (option_map (λ n. n + 1)) h.0, h.1, h.2)
    by false fits later = absurd (let wrong : Some 0 ≡ None = fits in cc)

-- where all items of several messages fit, the messages are applied whole
each_learned : (from : ℕ) (table : List Publication) (messages : List Message) → ((k : ℕ) (m : Message) → slice_get messages k ≡ Some m → IsTelling m)
    → (learned_from from table (flat_map items_in messages)).bad ≡ None
    → ((applied_each from table messages).bad ≡ None) × ((applied_each from table messages).table ≡ (learned_from from table (flat_map items_in messages)).table)
each_learned from table [] telling fits = (refl, refl)
each_learned from table (Payload importance form at to kind lower upper code droppable body ∷ messages) telling fits = absurd (telling 0 _ refl)
each_learned from table (Items true items ∷ messages) telling fits = absurd (let wrong : true ≡ false = (telling 0 _ refl).0 in cc)
each_learned from table (Items false items ∷ messages) telling fits =
    let both = learned_both from table items (flat_map items_in messages) fits in
    let first = learned_from from table items in
    let later = each_learned from first.table messages (λ k m is. telling (suc k) m is) both.1 in
    subst (λ (o : Option ℕ). ((after_first (record { table = first.table; publications = first.publications; bad = o }) (applied_each from first.table messages)).bad ≡ None)
    × ((after_first (record { table = first.table; publications = first.publications; bad = o }) (applied_each from first.table messages)).table ≡ (learned_from from table (items ++ flat_map items_in messages)).table))
    (sym both.0) (later.0, later.1 ∙ sym both.2)

-- ---- the laws

-- a table that holds nothing of the node
pub begins : (node : ℕ) (live table : List Publication) (messages : List Message) → AreOwn node live → IsTable table → filter (is_of node) table ≡ [] → IsBulk live messages
    → ((applied_each node table messages).bad ≡ None) × Agrees node live (applied_each node table messages).table
begins node live table messages own sound none bulk =
    let fit = all_held node [] (cluster_part live) table (record { sound = sound; those = none ∙ sym arranged_nil }) (own_kept (λ p. is_clusterwide p.scope) node live own) in
    let whole = bulk.whole in
    let each = each_learned node table messages bulk.each (ap (λ is. (learned_from node table is).bad) whole ∙ fit.0) in
    (each.0, ap (filter (is_of node)) (each.1 ∙ ap (λ is. (learned_from node table is).table) whole) ∙ (let held = fit.1 in held.those))

-- one more is seen in the cluster, or it isn't
part_more : (live : List Publication) (p : Publication) → cluster_part (live ++ p ∷ []) ≡ cluster_part live ++ cluster_part (p ∷ [])
part_more live p = filter-append (λ q. is_clusterwide q.scope) live (p ∷ [])

one_shown : (b : Bool) (live : List Publication) (p : Publication) → b ≡ true → live ++ (if b then p ∷ [] else []) ≡ live ++ p ∷ []
one_shown true live p is = refl
one_shown false live p is = absurd (true≢false (sym is))

pub goes_on : (node : ℕ) (live table : List Publication) (p : Publication) → AreOwn node (live ++ p ∷ []) → IsTable table → Agrees node live table → is_clusterwide p.scope ≡ true
    → ((applied node table (Items false (item_of p ∷ []))).bad ≡ None) × Agrees node (live ++ p ∷ []) (applied node table (Items false (item_of p ∷ []))).table
goes_on node live table p own sound agrees shown =
    let part = part_more live p ∙ one_shown (is_clusterwide p.scope) (cluster_part live) p shown in
    let all = subst (AreOwn node) part (own_kept (λ q. is_clusterwide q.scope) node (live ++ p ∷ []) own) in
    let fit = all_held node (cluster_part live) (p ∷ []) table (record { sound = sound; those = agrees }) all in
    (fit.0, (let held = fit.1 in held.those) ∙ ap (λ ps. arranged (map as_learned ps)) (sym part))

-- ---- withdrawals

-- of a node's publications, as they are learned, one is taken out by node and key as it is by key
key_out : (node key : ℕ) (ps : List Publication) → list_all (is_of node) ps ≡ true → without node key (map as_learned ps) ≡ map as_learned (without_key key ps)
key_out node key [] own = refl
key_out node key (p ∷ ps) own = let h = and_parts _ _ own in by (is_of node p) (has_key key p) h.0 (key_out node key ps h.1)
  where
    by : (b c : Bool) → b ≡ true → without node key (map as_learned ps) ≡ map as_learned (without_key key ps)
        → (if not (b && c) then as_learned p ∷ without node key (map as_learned ps) else without node key (map as_learned ps)) ≡ map as_learned (if not c then p ∷ without_key key ps else without_key key ps)
    by true true is later = later
    by true false is later = ap (λ those. as_learned p ∷ those) later
    by false c is later = absurd (true≢false (sym is))

taken_out : (node key : ℕ) (live table : List Publication) → AreOwn node live → Agrees node live table → Agrees node (without_key key live) (without node key table)
taken_out node key live table own agrees =
    let part = own_kept (λ q. is_clusterwide q.scope) node live own in
    filters_commute (is_of node) (λ q. not (is_named node key q)) table ∙ ap (without node key) agrees
    ∙ filter_arranged (λ q. not (is_named node key q)) (map as_learned (cluster_part live))
    ∙ ap arranged (key_out node key (cluster_part live) part.own)
    ∙ ap (λ ps. arranged (map as_learned ps)) (filters_commute (λ q. not (has_key key q)) (λ q. is_clusterwide q.scope) live)

-- the one that is withdrawn is held
one_named : (node : ℕ) (live table : List Publication) (p : Publication) → Agrees node live table → find (has_key p.key) live ≡ Some p → is_clusterwide p.scope ≡ true → list_any (is_named node p.key) table ≡ true
one_named node live table p agrees is shown =
    named_any node p.key table ∙ ap (list_any (has_key p.key)) agrees ∙ list_any_arranged (has_key p.key) (map as_learned (cluster_part live))
    ∙ learned_any p.key (cluster_part live) ∙ found_kept (has_key p.key) (λ q. is_clusterwide q.scope) live p is shown

pub ends : (node : ℕ) (live table : List Publication) (p : Publication) → AreOwn node live → IsTable table → Agrees node live table → find (has_key p.key) live ≡ Some p → is_clusterwide p.scope ≡ true
    → ((applied node table (Items true (item_of p ∷ []))).bad ≡ None) × Agrees node (without_key p.key live) (applied node table (Items true (item_of p ∷ []))).table
ends node live table p own sound agrees is shown =
    let q = found (is_named node p.key) table (one_named node live table p agrees is shown) in
    let ordered = found_passes (has_key p.key) has_instances live p is own.ranges in
    let held : held_as node table (item_of p) ≡ Some q.0 = ap (λ (b : Bool). if b then find (is_named node p.key) table else None) ordered ∙ q.1 in
    let rest = forgotten_from node (without node p.key table) [] in
    subst (λ (o : Option Publication). ((forgotten_if o table rest).bad ≡ None) × Agrees node (without_key p.key live) (forgotten_if o table rest).table)
    (sym held) (refl, taken_out node p.key live table own agrees)

-- one that isn't seen in the cluster
pub goes_unseen : (node : ℕ) (live table : List Publication) (p : Publication) → AreOwn node live → Agrees node live table → find (has_key p.key) live ≡ Some p → is_clusterwide p.scope ≡ false
    → Agrees node (without_key p.key live) table
goes_unseen node live table p own agrees is unseen =
    let none = found_lost (has_key p.key) (λ q. is_clusterwide q.scope) live p is unseen (own.keys p.key) in
    agrees ∙ ap (λ ps. arranged (map as_learned ps)) (sym (none_hit (has_key p.key) (cluster_part live) none) ∙ filters_commute (λ q. not (has_key p.key q)) (λ q. is_clusterwide q.scope) live)
