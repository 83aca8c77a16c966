-- A node's items at a peer: each fits, and the peer's table agrees with what the node has published.
use Rattle.std.proofs.Common.{◌≡◌, ◌≤◌, ◌<◌, ℕ, ◌+◌, ◌&&◌, ◌||◌, Bool, true, false, not, cond, List, [], ◌∷◌, ◌++◌, Some, None, filter, find, fold, length, map, if◌then◌else◌, refl, sym, ap, ◌∙◌, subst, true≢false, eqb-true, arith, append_assoc}
use Rattle.std.specs.Prelude.{count_by, nat_lt, option_map}
use Rattle.std.specs.List.{list_all, list_any}
use Rattle.std.proofs.lemmas.Bool.{and_from, and_parts}
use Rattle.std.proofs.lemmas.Bool.Decides.{nat_tests}
use Rattle.std.proofs.lemmas.List.{append-nil, length-append, map-append}
use Rattle.std.proofs.lemmas.List.Folds.{list_all-append}
use Rattle.std.proofs.lemmas.List.Sums.{count_by-le-length, length-filter, sum_by-append, sum_by-cons}
use Rattle.tipc_types.specs.declared.services.Publication.{Publication}
use Rattle.tipc_types.specs.declared.services.Scope.TheVariants.{Cluster}
use Rattle.tipc_types.specs.Tables.{is_named, is_of, put, stands_before, IsTable}
use Rattle.tipc_types.proofs.Places.{count_by-kept, filter-put}
use Rattle.tipc_name_table.proofs.TableLaws.{table_put}
use Rattle.tipc_journal.specs.Matches.{arranged}
use Rattle.tipc_journal.proofs.MatchLaws.{arranged_more, list_any_arranged}
use Rattle.tipc_name_dist.specs.Agreeing.{as_learned, has_instances, has_key, AreOwn}
use Rattle.tipc_name_dist.specs.Applying.{behind, is_new, learned_from, nothing_applied, told_by, Applied}
use Rattle.tipc_name_dist.specs.Items.{item_of}
use Rattle.tipc_name_dist.proofs.Applied.{same_number}

-- ---- lists of publications

-- what is found is counted
any_counted : (test : Publication → Bool) (ps : List Publication) → list_any test ps ≡ true → 1 ≤ count_by test ps
any_counted test [] found = absurd (true≢false (sym found))
any_counted test (p ∷ ps) found = by (test p) refl found (any_counted test ps)
  where
    by : (b : Bool) → test p ≡ b → b || list_any test ps ≡ true → (list_any test ps ≡ true → 1 ≤ count_by test ps) → 1 ≤ count_by test (p ∷ ps)
    by true is found later =
        let here : ◌≡◌ {A = ℕ} (cond (test p) 1 0) 1 = ap (λ (b : Bool). cond b 1 0) is in
        omega (arith, here, sum_by-cons (λ (x : Publication). cond (test x) 1 0) p ps)
    by false is found later = omega (arith, later found, sum_by-cons (λ (x : Publication). cond (test x) 1 0) p ps)

pub none_any : (test : Publication → Bool) (ps : List Publication) → count_by test ps ≡ 0 → list_any test ps ≡ false
none_any test ps none = by (list_any test ps) (any_counted test ps)
  where
    by : (b : Bool) → (b ≡ true → 1 ≤ count_by test ps) → b ≡ false
    by true some = absurd (let one = some refl in omega (arith, one, none))
    by false some = refl

count_by-append : (test : Publication → Bool) (ps qs : List Publication) → count_by test (ps ++ qs) ≡ count_by test ps + count_by test qs
count_by-append test ps qs = sum_by-append (λ (x : Publication). cond (test x) 1 0) ps qs

-- what passes one test for all passes it for those that are kept
all_kept : (test kept : Publication → Bool) (ps : List Publication) → list_all test ps ≡ true → list_all test (filter kept ps) ≡ true
all_kept test kept [] all = refl
all_kept test kept (p ∷ ps) all = by (kept p) (and_parts _ _ all) (all_kept test kept ps)
  where
    by : (b : Bool) → (test p ≡ true) × (list_all test ps ≡ true) → (list_all test ps ≡ true → list_all test (filter kept ps) ≡ true) → list_all test (if b then p ∷ filter kept ps else filter kept ps) ≡ true
    by true h later = and_from _ _ h.0 (later h.1)
    by false h later = later h.1

-- one is found where some passes
pub found : (test : Publication → Bool) (ps : List Publication) → list_any test ps ≡ true → (q : Publication) × (find test ps ≡ Some q)
found test [] some = absurd (true≢false (sym some))
found test (p ∷ ps) some = by (test p) some (found test ps)
  where
    by : (b : Bool) → b || list_any test ps ≡ true → (list_any test ps ≡ true → (q : Publication) × (find test ps ≡ Some q)) → (q : Publication) × ((if b then Some p else find test ps) ≡ Some q)
    by true some later = (p, refl)
    by false some later = later some

-- what is found passes what all pass
pub found_passes : (test all : Publication → Bool) (ps : List Publication) (p : Publication) → find test ps ≡ Some p → list_all all ps ≡ true → all p ≡ true
found_passes test all [] p is pass = absurd (let wrong : None ≡ Some p = is in cc)
found_passes test all (q ∷ qs) p is pass = let h = and_parts _ _ pass in by (test q) is h.0 (λ e. found_passes test all qs p e h.1)
  where
    by : (b : Bool) → (if b then Some q else find test qs) ≡ Some p → all q ≡ true → (find test qs ≡ Some p → all p ≡ true) → all p ≡ true
    by true is here later = let same : q ≡ p = cc in ap all (sym same) ∙ here
    by false is here later = later is

-- what is found and kept is found among those that are kept
pub found_kept : (test kept : Publication → Bool) (ps : List Publication) (p : Publication) → find test ps ≡ Some p → kept p ≡ true → list_any test (filter kept ps) ≡ true
found_kept test kept [] p is keeps = absurd (let wrong : None ≡ Some p = is in cc)
found_kept test kept (q ∷ qs) p is keeps = by (test q) (kept q) refl refl is (λ e. found_kept test kept qs p e keeps)
  where
    by : (b c : Bool) → test q ≡ b → kept q ≡ c → (if b then Some q else find test qs) ≡ Some p → (find test qs ≡ Some p → list_any test (filter kept qs) ≡ true)
        → list_any test (if c then q ∷ filter kept qs else filter kept qs) ≡ true
    by true true hit k is later = ap (λ b. b || list_any test (filter kept qs)) hit
    by true false hit k is later = absurd (let same : q ≡ p = cc in true≢false (sym keeps ∙ ap kept (sym same) ∙ k))
    by false true hit k is later = ap (λ b. b || list_any test (filter kept qs)) hit ∙ later is
    by false false hit k is later = later is

-- where the one that passes isn't kept, none that is kept passes
pub found_lost : (test kept : Publication → Bool) (ps : List Publication) (p : Publication) → find test ps ≡ Some p → kept p ≡ false → count_by test ps ≤ 1 → list_any test (filter kept ps) ≡ false
found_lost test kept [] p is lost most = refl
found_lost test kept (q ∷ qs) p is lost most = by (test q) (kept q) refl refl is (λ e. found_lost test kept qs p e lost less)
  where
    less : count_by test qs ≤ 1
    less = omega (arith, most, sum_by-cons (λ (x : Publication). cond (test x) 1 0) q qs)

    rest : test q ≡ true → list_any test (filter kept qs) ≡ false
    rest hit =
        let here : ◌≡◌ {A = ℕ} (cond (test q) 1 0) 1 = ap (λ (b : Bool). cond b 1 0) hit in
        none_any test (filter kept qs) (omega (arith, here, most, sum_by-cons (λ (x : Publication). cond (test x) 1 0) q qs, count_by-kept test kept qs))

    by : (b c : Bool) → test q ≡ b → kept q ≡ c → (if b then Some q else find test qs) ≡ Some p → (find test qs ≡ Some p → list_any test (filter kept qs) ≡ false)
        → list_any test (if c then q ∷ filter kept qs else filter kept qs) ≡ false
    by true true hit k is later = absurd (let same : q ≡ p = cc in true≢false (sym k ∙ ap kept same ∙ lost))
    by true false hit k is later = rest hit
    by false true hit k is later = ap (λ b. b || list_any test (filter kept qs)) hit ∙ later is
    by false false hit k is later = later is

-- a publication is looked up by node and key as it is by its key among those of the node
pub named_any : (node key : ℕ) (ps : List Publication) → list_any (is_named node key) ps ≡ list_any (has_key key) (filter (is_of node) ps)
named_any node key [] = refl
named_any node key (p ∷ ps) = by (is_of node p) (named_any node key ps)
  where
    by : (b : Bool) → list_any (is_named node key) ps ≡ list_any (has_key key) (filter (is_of node) ps) → (b && has_key key p) || list_any (is_named node key) ps ≡ list_any (has_key key) (if b then p ∷ filter (is_of node) ps else filter (is_of node) ps)
    by true later = ap (λ b. has_key key p || b) later
    by false later = later

-- a publication keeps its key where it is learned
pub learned_any : (key : ℕ) (ps : List Publication) → list_any (has_key key) (map as_learned ps) ≡ list_any (has_key key) ps
learned_any key [] = refl
learned_any key (p ∷ ps) = ap (λ b. has_key key p || b) (learned_any key ps)

-- so many are in order as there are
put_length : (p : Publication) (ps : List Publication) → length (put p ps) ≡ length ps + 1
put_length p [] = refl
put_length p (q ∷ qs) = by (stands_before q p) (put_length p qs)
  where
    by : (b : Bool) → length (put p qs) ≡ length qs + 1 → length (if b then q ∷ put p qs else p ∷ q ∷ qs) ≡ length (q ∷ qs) + 1
    by true later = omega (arith, later)
    by false later = omega arith

fold_length : (acc ps : List Publication) → length (fold (λ sorted p. put p sorted) acc ps) ≡ length acc + length ps
fold_length acc [] = omega arith
fold_length acc (p ∷ ps) = omega (arith, fold_length (put p acc) ps, put_length p acc)

arranged_length : (ps : List Publication) → length (arranged ps) ≡ length ps
unfolding arranged
arranged_length ps = omega (arith, fold_length [] ps)

map_length : (ps : List Publication) → length (map as_learned ps) ≡ length ps
map_length [] = refl
map_length (p ∷ ps) = omega (arith, map_length ps)

-- ---- a node's own publications

pub own_kept : (kept : Publication → Bool) (node : ℕ) (live : List Publication) → AreOwn node live → AreOwn node (filter kept live)
own_kept kept node live h =
    let few = h.few in
    record {
      own = all_kept (is_of node) kept live h.own;
      ranges = all_kept has_instances kept live h.ranges;
      keys = λ key. omega (arith, h.keys key, count_by-kept (has_key key) kept live);
      few = omega (arith, few, length-filter kept live, count_by-le-length kept live);
    }

own_front : (node : ℕ) (ps qs : List Publication) → AreOwn node (ps ++ qs) → AreOwn node ps
own_front node ps qs h =
    let few = h.few in
    record {
      own = (and_parts _ _ (sym (list_all-append (is_of node) ps qs) ∙ h.own)).0;
      ranges = (and_parts _ _ (sym (list_all-append has_instances ps qs) ∙ h.ranges)).0;
      keys = λ key. omega (arith, h.keys key, count_by-append (has_key key) ps qs);
      few = omega (arith, few, length-append ps qs);
    }

-- the last one has a key of its own
last_key : (node : ℕ) (ps : List Publication) (p : Publication) → AreOwn node (ps ++ p ∷ []) → list_any (has_key p.key) ps ≡ false
last_key node ps p h =
    let most = h.keys p.key in
    let one : ◌≡◌ {A = ℕ} (cond (has_key p.key p) 1 0) 1 = ap (λ (b : Bool). cond b 1 0) (same_number p.key) in
    none_any (has_key p.key) ps (omega (arith, most, one, count_by-append (has_key p.key) ps (p ∷ []), sum_by-cons (λ (x : Publication). cond (has_key p.key x) 1 0) p []))

-- the last one is of the node, and its range has instances
last_passes : (test : Publication → Bool) (ps : List Publication) (p : Publication) → list_all test (ps ++ p ∷ []) ≡ true → test p ≡ true
last_passes test ps p all = (and_parts _ _ ((and_parts _ _ (sym (list_all-append test ps (p ∷ [])) ∙ all)).1)).0

-- what a peer learns of a publication of the node
told_of : (node : ℕ) (p : Publication) → is_of node p ≡ true → told_by node (item_of p) ≡ as_learned p
told_of node p own =
    let is : p.at.node.word ≡ node = eqb-true _ _ own in
    ap (λ (n : ℕ). record { range = p.range; scope = Cluster; at = record { node = record { word = n }; port = p.at.port }; key = p.key }) (sym is)

-- ---- items that are learned

-- a table holds these of a node
pub record Holds (node : ℕ) (ps table : List Publication) : Type 0 where
  pub sound : IsTable table
  pub those : filter (is_of node) table ≡ arranged (map as_learned ps)

-- there is room for one more: its key isn't held
key_free : (node : ℕ) (ps table : List Publication) (p : Publication) → Holds node ps table → AreOwn node (ps ++ p ∷ []) → list_any (is_named node p.key) table ≡ false
key_free node ps table p h own =
    named_any node p.key table ∙ ap (λ qs. list_any (has_key p.key) qs) h.those ∙ list_any_arranged (has_key p.key) (map as_learned ps) ∙ learned_any p.key ps ∙ last_key node ps p own

-- and fewer than 1,024 of the node are
room_left : (node : ℕ) (ps table : List Publication) (p : Publication) → Holds node ps table → AreOwn node (ps ++ p ∷ []) → count_by (is_of node) table < 1024
room_left node ps table p h own =
    let few = own.few in
    let count : length (filter (is_of node) table) ≡ length ps = ap length h.those ∙ arranged_length (map as_learned ps) ∙ map_length ps in
    omega (arith, few, count, length-filter (is_of node) table, length-append ps (p ∷ []))

one_new : (node : ℕ) (ps table : List Publication) (p : Publication) → Holds node ps table → AreOwn node (ps ++ p ∷ []) → is_new node table (item_of p) ≡ true
one_new node ps table p h own =
    let room = room_left node ps table p h own in
    let less : nat_lt (count_by (is_of node) table) 1024 ≡ true = grind (arith, nat_tests, room) in
    and_from _ _ (last_passes has_instances ps p own.ranges) (and_from _ _ (ap not (key_free node ps table p h own)) less)

one_held : (node : ℕ) (ps table : List Publication) (p : Publication) → Holds node ps table → AreOwn node (ps ++ p ∷ []) → Holds node (ps ++ p ∷ []) (put (told_by node (item_of p)) table)
one_held node ps table p h own =
    let q = told_by node (item_of p) in
    let ordered = (let s = h.sound in s.ordered) in
    record {
      sound = table_put q table h.sound (key_free node ps table p h own) (room_left node ps table p h own);
      those = filter-put (is_of node) q table ordered
          ∙ ap (λ (b : Bool). if b then put q (filter (is_of node) table) else filter (is_of node) table) (same_number node)
          ∙ ap (put q) h.those ∙ sym (arranged_more (map as_learned ps) q)
          ∙ ap (λ x. arranged (map as_learned ps ++ x ∷ [])) (told_of node p (last_passes (is_of node) ps p own.own))
          ∙ ap arranged (sym (map-append as_learned ps (p ∷ [])));
    }

-- the items of the others fit one after the other
pub all_held : (node : ℕ) (ps qs table : List Publication) → Holds node ps table → AreOwn node (ps ++ qs)
    → ((learned_from node table (map item_of qs)).bad ≡ None) × Holds node (ps ++ qs) (learned_from node table (map item_of qs)).table
all_held node ps [] table h own = (refl, subst (λ those. Holds node those table) (sym (append-nil ps)) h)
all_held node ps (q ∷ qs) table h own =
    let moved : (ps ++ q ∷ []) ++ qs ≡ ps ++ q ∷ qs = append_assoc ps (q ∷ []) qs in
    let all = subst (AreOwn node) (sym moved) own in
    let front = own_front node (ps ++ q ∷ []) qs all in
    let x = told_by node (item_of q) in
    let rest = learned_from node (put x table) (map item_of qs) in
    let later = all_held node (ps ++ q ∷ []) qs (put x table) (one_held node ps table q h front) all in
    subst (λ (a : Applied). (a.bad ≡ None) × Holds node (ps ++ q ∷ qs) a.table)
    (sym (ap (λ (b : Bool). if b then behind x rest else nothing_applied table (Some 0)) (one_new node ps table q h front)))
    (ap (option_map (λ n. n + 1)) later.0, subst (λ those. Holds node those rest.table) moved later.1)
