-- What items one after the other come to, and how what was learned is taken back.
use Rattle.std.proofs.Common.{◌≡◌, ℕ, ◌+◌, ◌≤◌, ◌<◌, ◌&&◌, ◌||◌, ◌==◌, Bool, true, false, not, List, [], ◌∷◌, ◌++◌, Option, Some, None, filter, find, length, if◌then◌else◌, refl, ap, ◌∙◌, sym, subst, drop, arith, Err, Ok, Result}
use Rattle.std.specs.List.{list_any}
use Rattle.std.specs.Result.{OnErr, OnOk}
use Rattle.std.proofs.Math.ListN.{get_or}
use Rattle.std.proofs.lemmas.List.{drop_all, drop_more, length-append}
use Rattle.tipc_types.specs.declared.message_forms.Item.{Item}
use Rattle.tipc_types.specs.declared.services.Publication.{Publication}
use Rattle.tipc_types.specs.Tables.{is_named, put, stands_before, without}
use Rattle.tipc_name_dist.specs.Applying.{Applied, behind, can_be_put, forgotten_from, forgotten_if, held_as, is_new, is_ordered, learned_from, nothing_applied, told_by, undone}

-- publications before what comes of the items behind them
abbrev pub behind_all : List Publication → Applied → Applied
behind_all [] a = a
behind_all (p ∷ ps) a = behind p (behind_all ps a)

pub behind_last : (ps : List Publication) (p : Publication) (a : Applied) → behind_all (ps ++ p ∷ []) a ≡ behind_all ps (behind p a)
behind_last [] p a = refl
behind_last (q ∷ ps) p a = ap (behind q) (behind_last ps p a)

-- all items fit
pub behind_none : (ps : List Publication) (table : List Publication) → behind_all ps (nothing_applied table None) ≡ record { table = table; publications = ps; bad = None }
behind_none [] table = refl
behind_none (p ∷ ps) table = ap (behind p) (behind_none ps table)

-- the next one doesn't
pub bad_behind : (ps : List Publication) (table : List Publication) → behind_all ps (nothing_applied table (Some 0)) ≡ record { table = table; publications = ps; bad = Some (length ps) }
bad_behind [] table = refl
bad_behind (p ∷ ps) table =
    let one : length ps + 1 ≡ length (p ∷ ps) = omega arith in
    ap (behind p) (bad_behind ps table) ∙ ap (λ (n : ℕ). record { table = table; publications = p ∷ ps; bad = Some n }) one

-- ---- taking back

out_of : (test : Publication → Bool) (p q : Publication) (qs rest : List Publication) (b : Bool) → test p ≡ false → filter test rest ≡ filter test qs → filter test (if b then q ∷ rest else p ∷ q ∷ qs) ≡ filter test (q ∷ qs)
out_of test p q qs rest true fails same = ap (λ those. if test q then q ∷ those else those) same
out_of test p q qs rest false fails same = ap (λ b. if b then p ∷ filter test (q ∷ qs) else filter test (q ∷ qs)) fails

-- what passes a test that one publication doesn't is as it was before that was put
pub put_out : (test : Publication → Bool) (p : Publication) (ps : List Publication) → test p ≡ false → filter test (put p ps) ≡ filter test ps
put_out test p [] fails = ap (λ b. if b then p ∷ [] else []) fails
put_out test p (q ∷ qs) fails = out_of test p q qs (put p qs) (stands_before q p) fails (put_out test p qs fails)

none_of : (hit : Publication → Bool) (p : Publication) (ps rest : List Publication) (b found : Bool) → (if b then true else found) ≡ false → (found ≡ false → rest ≡ ps) → (if not b then p ∷ rest else rest) ≡ p ∷ ps
none_of hit p ps rest true found none later = absurd (let wrong : true ≡ false = none in cc)
none_of hit p ps rest false found none later = ap (λ those. p ∷ those) (later none)

-- where none is hit, all the others are all
pub none_hit : (hit : Publication → Bool) (ps : List Publication) → list_any hit ps ≡ false → filter (λ q. not (hit q)) ps ≡ ps
none_hit hit [] none = refl
none_hit hit (p ∷ ps) none = none_of hit p ps (filter (λ q. not (hit q)) ps) (hit p) (list_any hit ps) (either_way (hit p) (list_any hit ps) none) (none_hit hit ps)
  where
    either_way : (a b : Bool) → (a || b) ≡ false → (if a then true else b) ≡ false
    either_way true b h = h
    either_way false b h = h

pub same_number : (n : ℕ) → (n == n) ≡ true
same_number n = grind (arith)

named_itself : (p : Publication) → is_named p.at.node.word p.key p ≡ true
named_itself p = ap (λ b. b && (p.key == p.key)) (same_number p.at.node.word) ∙ same_number p.key

both_first : (a b : Bool) → (a && b) ≡ true → a ≡ true
both_first true b h = refl
both_first false b h = absurd (let wrong : false ≡ true = h in cc)

not_true : (a : Bool) → not a ≡ true → a ≡ false
not_true true h = absurd (let wrong : false ≡ true = h in cc)
not_true false h = refl

-- a publication that is put where there is room, and withdrawn, leaves what was
pub put_back : (p : Publication) (table : List Publication) → can_be_put table p ≡ true → without p.at.node.word p.key (put p table) ≡ table
put_back p table room =
    let hit = is_named p.at.node.word p.key in
    put_out (λ q. not (hit q)) p table (ap not (named_itself p)) ∙ none_hit hit table (not_true (list_any hit table) (both_first (not (list_any hit table)) _ room))

pub undone_last : (from : ℕ) (ps : List Publication) (p : Publication) (table : List Publication) → undone from (ps ++ p ∷ []) table ≡ undone from ps (without from p.key table)
undone_last from [] p table = refl
undone_last from (q ∷ ps) p table = ap (without from q.key) (undone_last from ps p table)

-- ---- loops

-- After so many items: these were forgotten, and what comes of the items behind them comes behind these.
pub record IsForgetting (from : ℕ) (start : List Publication) (items : List Item) (table ps : List Publication) (room place : ℕ) : Type 0 where
  pub so_far : forgotten_from from start items ≡ behind_all ps (forgotten_from from table (drop place items))
  pub count : length ps ≡ place
  pub room_is : length items ≤ room

-- the same of what was learned, which can be taken back
pub record IsLearning (from : ℕ) (start : List Publication) (items : List Item) (table ps : List Publication) (room place : ℕ) : Type 0 where
  pub so_far : learned_from from start items ≡ behind_all ps (learned_from from table (drop place items))
  pub count : length ps ≡ place
  pub room_is : length items ≤ room
  pub back : undone from ps table ≡ start

-- the next one fits
pub learning_more : (from : ℕ) (start : List Publication) (items : List Item) (table ps : List Publication) (room place : ℕ) (item : Item) → IsLearning from start items table ps room place
    → drop place items ≡ item ∷ drop (place + 1) items → is_ordered item ≡ true → can_be_put table (told_by from item) ≡ true
    → IsLearning from start items (put (told_by from item) table) (ps ++ told_by from item ∷ []) room (place + 1)
learning_more from start items table ps room place item h next ordered fits =
    let p = told_by from item in
    let new : is_new from table item ≡ true = ap (λ b. b && can_be_put table p) ordered ∙ fits in
    let rest = learned_from from (put p table) (drop (place + 1) items) in
    record {
      so_far = h.so_far ∙ ap (λ those. behind_all ps (learned_from from table those)) next
          ∙ ap (λ b. behind_all ps (if b then behind p rest else nothing_applied table (Some 0))) new ∙ sym (behind_last ps p rest);
      count = length-append ps (p ∷ []) ∙ ap (λ n. n + 1) h.count;
      room_is = h.room_is;
      back = undone_last from ps p (put p table) ∙ ap (undone from ps) (put_back p table fits) ∙ h.back;
    }

-- the next one doesn't: its place is told, and what was learned before it stays
pub learning_bad : (from : ℕ) (start : List Publication) (items : List Item) (table ps : List Publication) (room place : ℕ) (item : Item) → IsLearning from start items table ps room place
    → drop place items ≡ item ∷ drop (place + 1) items → is_new from table item ≡ false
    → learned_from from start items ≡ record { table = table; publications = ps; bad = Some place }
learning_bad from start items table ps room place item h next old =
    let p = told_by from item in
    h.so_far ∙ ap (λ those. behind_all ps (learned_from from table those)) next ∙ ap (λ b. behind_all ps (if b then behind p (learned_from from (put p table) (drop (place + 1) items)) else nothing_applied table (Some 0))) old
    ∙ bad_behind ps table ∙ ap (λ (n : ℕ). record { table = table; publications = ps; bad = Some n }) h.count

-- none is left
pub learning_done : (from : ℕ) (start : List Publication) (items : List Item) (table ps : List Publication) (room place : ℕ) → IsLearning from start items table ps room place → length items ≤ place
    → learned_from from start items ≡ record { table = table; publications = ps; bad = None }
learning_done from start items table ps room place h past =
    h.so_far ∙ ap (λ those. behind_all ps (learned_from from table those)) (drop_all place items past) ∙ behind_none ps table

pub forgetting_more : (from : ℕ) (start : List Publication) (items : List Item) (table ps : List Publication) (room place : ℕ) (item : Item) (p : Publication) → IsForgetting from start items table ps room place
    → drop place items ≡ item ∷ drop (place + 1) items → held_as from table item ≡ Some p
    → IsForgetting from start items (without from item.key table) (ps ++ p ∷ []) room (place + 1)
forgetting_more from start items table ps room place item p h next held =
    let rest = forgotten_from from (without from item.key table) (drop (place + 1) items) in
    record {
      so_far = h.so_far ∙ ap (λ those. behind_all ps (forgotten_from from table those)) next
          ∙ ap (λ o. behind_all ps (forgotten_if o table rest)) held ∙ sym (behind_last ps p rest);
      count = length-append ps (p ∷ []) ∙ ap (λ n. n + 1) h.count;
      room_is = h.room_is;
    }

pub forgetting_bad : (from : ℕ) (start : List Publication) (items : List Item) (table ps : List Publication) (room place : ℕ) (item : Item) → IsForgetting from start items table ps room place
    → drop place items ≡ item ∷ drop (place + 1) items → held_as from table item ≡ None
    → forgotten_from from start items ≡ record { table = table; publications = ps; bad = Some place }
forgetting_bad from start items table ps room place item h next none =
    let rest = forgotten_from from (without from item.key table) (drop (place + 1) items) in
    h.so_far ∙ ap (λ those. behind_all ps (forgotten_from from table those)) next ∙ ap (λ o. behind_all ps (forgotten_if o table rest)) none
    ∙ bad_behind ps table ∙ ap (λ (n : ℕ). record { table = table; publications = ps; bad = Some n }) h.count

pub forgetting_done : (from : ℕ) (start : List Publication) (items : List Item) (table ps : List Publication) (room place : ℕ) → IsForgetting from start items table ps room place → length items ≤ place
    → forgotten_from from start items ≡ record { table = table; publications = ps; bad = None }
forgetting_done from start items table ps room place h past =
    h.so_far ∙ ap (λ those. behind_all ps (forgotten_from from table those)) (drop_all place items past) ∙ behind_none ps table

-- ---- one item

abbrev pub some_item : Item
some_item = record { kind = 0; lower = 0; upper = 0; port = 0; key = 0 }

-- what is told where a range is in order, and where it isn't
pub told_none : (b : Bool) (p : Publication) (o : Option Publication) → o ≡ (if b then Some p else None) → o ≡ None → b ≡ false
told_none true p o is none = absurd (let wrong : Some p ≡ None = sym is ∙ none in cc)
told_none false p o is none = refl

pub told_some : (b : Bool) (p q : Publication) → Some q ≡ (if b then Some p else None) → (b ≡ true) × (q ≡ p)
told_some true p q is = (refl, cc)
told_some false p q is = absurd cc

old_by_order : (from : ℕ) (table : List Publication) (item : Item) → is_ordered item ≡ false → is_new from table item ≡ false
old_by_order from table item not_so = ap (λ b. b && can_be_put table (told_by from item)) not_so

both_none : (a : Bool) → (a && false) ≡ false
both_none true = refl
both_none false = refl

old_by_room : (from : ℕ) (table : List Publication) (item : Item) → can_be_put table (told_by from item) ≡ false → is_new from table item ≡ false
old_by_room from table item none = ap (λ b. is_ordered item && b) none ∙ both_none (is_ordered item)

-- an item whose range isn't in order
pub learning_misplaced : (from : ℕ) (start : List Publication) (items : List Item) (table ps : List Publication) (room place : ℕ) (o : Option Publication) → IsLearning from start items table ps room place
    → place < length items → o ≡ (if is_ordered (get_or items place some_item) then Some (told_by from (get_or items place some_item)) else None) → o ≡ None
    → learned_from from start items ≡ record { table = table; publications = ps; bad = Some place }
learning_misplaced from start items table ps room place o h within told none =
    let item = get_or items place some_item in
    learning_bad from start items table ps room place item h (drop_more items place some_item within) (old_by_order from table item (told_none (is_ordered item) (told_by from item) o told none))

-- one for which there is no room
pub learning_full : (from : ℕ) (start : List Publication) (items : List Item) (table new ps : List Publication) (room place : ℕ) (p : Publication) → IsLearning from start items table ps room place
    → place < length items → Some p ≡ (if is_ordered (get_or items place some_item) then Some (told_by from (get_or items place some_item)) else None) → can_be_put table p ≡ false → new ≡ table
    → learned_from from start items ≡ record { table = new; publications = ps; bad = Some place }
learning_full from start items table new ps room place p h within told none same =
    let item = get_or items place some_item in
    let is = told_some (is_ordered item) (told_by from item) p told in
    learning_bad from start items table ps room place item h (drop_more items place some_item within) (old_by_room from table item (ap (can_be_put table) (sym is.1) ∙ none))
    ∙ ap (λ (now : List Publication). record { table = now; publications = ps; bad = Some place }) (sym same)

-- one that is learned
pub learning_next : (from : ℕ) (start : List Publication) (items : List Item) (table new ps more : List Publication) (room now place : ℕ) (p : Publication) → IsLearning from start items table ps room place
    → place < length items → Some p ≡ (if is_ordered (get_or items place some_item) then Some (told_by from (get_or items place some_item)) else None) → can_be_put table p ≡ true
    → new ≡ put p table → more ≡ ps ++ p ∷ [] → now ≡ room → IsLearning from start items new more now (place + 1)
learning_next from start items table new ps more room now place p h within told fits after pushed same =
    let item = get_or items place some_item in
    let is = told_some (is_ordered item) (told_by from item) p told in
    let next = learning_more from start items table ps room place item h (drop_more items place some_item within) is.0 (ap (can_be_put table) (sym is.1) ∙ fits) in
    subst (λ t. IsLearning from start items t more now (place + 1)) (sym (after ∙ ap (λ q. put q table) is.1))
    (subst (λ qs. IsLearning from start items (put (told_by from item) table) qs now (place + 1)) (sym (pushed ∙ ap (λ q. ps ++ q ∷ []) is.1))
    (subst (λ n. IsLearning from start items (put (told_by from item) table) (ps ++ told_by from item ∷ []) n (place + 1)) (sym same) next))

pub forgetting_next : (from : ℕ) (start : List Publication) (items : List Item) (table new ps more : List Publication) (room now place : ℕ) (p : Publication) → IsForgetting from start items table ps room place
    → place < length items → Some p ≡ held_as from table (get_or items place some_item) → new ≡ without from (get_or items place some_item).key table → more ≡ ps ++ p ∷ [] → now ≡ room
    → IsForgetting from start items new more now (place + 1)
forgetting_next from start items table new ps more room now place p h within held after pushed same =
    let item = get_or items place some_item in
    let next = forgetting_more from start items table ps room place item p h (drop_more items place some_item within) (sym held) in
    subst (λ t. IsForgetting from start items t more now (place + 1)) (sym after)
    (subst (λ qs. IsForgetting from start items (without from item.key table) qs now (place + 1)) (sym pushed)
    (subst (λ n. IsForgetting from start items (without from item.key table) (ps ++ p ∷ []) n (place + 1)) (sym same) next))

pub forgetting_none : (from : ℕ) (start : List Publication) (items : List Item) (table new ps : List Publication) (room place : ℕ) → IsForgetting from start items table ps room place
    → place < length items → None ≡ held_as from table (get_or items place some_item) → new ≡ table
    → forgotten_from from start items ≡ record { table = new; publications = ps; bad = Some place }
forgetting_none from start items table new ps room place h within none same =
    let item = get_or items place some_item in
    forgetting_bad from start items table ps room place item h (drop_more items place some_item within) (sym none)
    ∙ ap (λ (now : List Publication). record { table = now; publications = ps; bad = Some place }) (sym same)

-- what is given of it tells it
pub given : (a : Applied) (new those ps : List Publication) (o bad : Option ℕ) → a ≡ record { table = new; publications = those; bad = o } → ps ≡ those → bad ≡ o → a ≡ record { table = new; publications = ps; bad = bad }
given a new those ps o bad is same at = is ∙ ap (λ (qs : List Publication). record { table = new; publications = qs; bad = o }) (sym same) ∙ ap (λ (b : Option ℕ). record { table = new; publications = ps; bad = b }) (sym at)

-- ---- taking one back

missing : (hit : Publication → Bool) (p : Publication) (ps rest : List Publication) (b : Bool) (found : Option Publication) → (if b then Some p else found) ≡ None → (found ≡ None → rest ≡ ps) → (if not b then p ∷ rest else rest) ≡ p ∷ ps
missing hit p ps rest true found none later = absurd (let wrong : Some p ≡ None = none in cc)
missing hit p ps rest false found none later = ap (λ those. p ∷ those) (later none)

pub none_found : (hit : Publication → Bool) (ps : List Publication) → find hit ps ≡ None → filter (λ q. not (hit q)) ps ≡ ps
none_found hit [] none = refl
none_found hit (p ∷ ps) none = missing hit p ps (filter (λ q. not (hit q)) ps) (hit p) (find hit ps) none (none_found hit ps)

-- a withdrawal leaves the others, also where there was nothing to withdraw
pub left_by : {A E : Type 0} (from key : ℕ) (table new : List Publication) (r : Result A E) → OnOk r (new ≡ without from key table) → OnErr r (find (is_named from key) table ≡ None) → OnErr r (new ≡ table) → new ≡ without from key table
left_by from key table new (Ok a) after none same = after
left_by from key table new (Err e) after none same = same ∙ sym (none_found (is_named from key) table none)

pub taken_back : (from : ℕ) (table new start : List Publication) (before rest : List Publication) (p : Publication) → undone from before table ≡ start → before ≡ rest ++ p ∷ [] → new ≡ without from p.key table → undone from rest new ≡ start
taken_back from table new start before rest p back was after = ap (undone from rest) after ∙ sym (undone_last from rest p table) ∙ ap (λ ps. undone from ps table) (sym was) ∙ back
