-- What a node learns of a peer's items, one item after the other.
use Rattle.std.proofs.Common.{◌≡◌, ◌+◌, ◌<◌, ◌&&◌, ℕ, Bool, true, false, List, [], ◌∷◌, ◌++◌, Option, Some, None, drop, find, fold, length, map, option_map, if◌then◌else◌, append_assoc, eqb-true, refl, sym, ap, subst, ◌∙◌, arith}
use Rattle.std.specs.Prelude.{option_to_list}
use Rattle.std.proofs.Math.ListN.{get_or}
use Rattle.std.proofs.lemmas.Bool.{and_parts}
use Rattle.std.proofs.lemmas.List.{drop_more}
use Rattle.std.proofs.lemmas.List.Sums.{fold-append}
use Rattle.tipc_types.specs.declared.message_forms.Item.{Item}
use Rattle.tipc_types.specs.declared.message_forms.Message.TheVariants.{Items}
use Rattle.tipc_types.specs.declared.services.Publication.{Publication}
use Rattle.tipc_types.specs.Tables.{is_named, put, without}
use Rattle.tipc_journal.specs.declared.entries.Entry.{Entry}
use Rattle.tipc_journal.specs.declared.entries.Entry.TheVariants.{Dropped, Forgot, Learned}
use Rattle.tipc_name_dist.specs.Applying.{Applied, applied, behind, can_be_put, forgotten_from, forgotten_if, held_as, is_new, is_ordered, learned_from, learnt_entries, learnt_entry, misfit_entries, nothing_applied, told_by}
use Rattle.tipc_name_dist.proofs.Applied.{some_item, told_some}
use Rattle.tipc_sockets.specs.Publishing.{withdrawn}
use Rattle.tipc_sockets.specs.SocketTables.{SocketTable}
use Rattle.tipc_sockets.specs.Telling.{after_entry}
use Rattle.tipc_sockets.specs.Learning.{fitting, learnt_by}

-- ---- look-ups

pub found_hit : (hit : Publication → Bool) (ps : List Publication) (p : Publication) → find hit ps ≡ Some p → hit p ≡ true
found_hit hit [] p is = absurd cc
found_hit hit (q ∷ qs) p is = by (hit q) refl is (found_hit hit qs p)
  where
    by : (b : Bool) → hit q ≡ b → (if b then Some q else find hit qs) ≡ Some p → (find hit qs ≡ Some p → hit p ≡ true) → hit p ≡ true
    by true here same later = let q_is : q ≡ p = cc in ap hit (sym q_is) ∙ here
    by false here same later = later same

-- what is found by node and key has them
pub found_named : (from key : ℕ) (table : List Publication) (p : Publication) → find (is_named from key) table ≡ Some p → (p.at.node.word ≡ from) × (p.key ≡ key)
found_named from key table p is =
    let both = and_parts _ _ (found_hit (is_named from key) table p is) in
    (eqb-true p.at.node.word from both.0, eqb-true p.key key both.1)

-- what a withdrawal finds
pub held_found : (from : ℕ) (table : List Publication) (item : Item) (p : Publication) → held_as from table item ≡ Some p → find (is_named from item.key) table ≡ Some p
held_found from table item p is = by _ is
  where
    by : (b : Bool) → (if b then find (is_named from item.key) table else None) ≡ Some p → find (is_named from item.key) table ≡ Some p
    by true same = same
    by false same = absurd cc

-- ---- one item

-- one that is learned, in an order that its range has
pub learn_fits : (from : ℕ) (w : Bool) (table : List Publication) (item : Item) (p : Publication) → w ≡ false → Some p ≡ (if is_ordered item then Some (told_by from item) else None)
    → (if can_be_put table p then Some (Learned p) else None) ≡ option_map (learnt_by w) (fitting from w table item)
learn_fits from w table item p is told =
    let so = told_some (is_ordered item) (told_by from item) p told in
    subst (λ b. (if can_be_put table p then Some (Learned p) else None) ≡ option_map (learnt_by b) (fitting from b table item)) (sym is)
    (by (can_be_put table p) ∙ ap (λ q. option_map (learnt_by false) (if can_be_put table q then Some q else None)) so.1
    ∙ ap (λ b. option_map (learnt_by false) (if b && can_be_put table (told_by from item) then Some (told_by from item) else None)) (sym so.0))
  where
    by : (b : Bool) → (if b then Some (Learned p) else None) ≡ option_map (learnt_by false) (if b then Some p else None)
    by true = refl
    by false = refl

-- what is withdrawn is forgotten as its entry tells
pub forgot_is : (from key : ℕ) (s s' : SocketTable) (p : Publication) → find (is_named from key) s.names ≡ Some p → s' ≡ withdrawn s from key → s' ≡ withdrawn s p.at.node.word p.key
forgot_is from key s s' p found is =
    let named = found_named from key s.names p found in
    is ∙ ap (λ k. withdrawn s k key) (sym named.0) ∙ ap (withdrawn s p.at.node.word) (sym named.1)

-- ---- items one after the other

-- the names after one of them
abbrev pub names_with : Bool → Publication → List Publication → List Publication
names_with false p table = put p table
names_with true p table = without p.at.node.word p.key table

pub names_after : (w : Bool) (p : Publication) (s : SocketTable) → (after_entry s (learnt_by w p)).names ≡ names_with w p s.names
names_after false p s = refl
names_after true p s = refl

-- what is told of items of which the first has this place
abbrev pub told_from : Bool → ℕ → Applied → List Entry
told_from w place a = map (learnt_by w) a.publications ++ misfit_entries (option_map (λ k. place + k) a.bad)

places_on : (place : ℕ) (bad : Option ℕ) → option_map (λ k. place + k) (option_map (λ k. k + 1) bad) ≡ option_map (λ k. (place + 1) + k) bad
places_on place None = refl
places_on place (Some k) = let same : place + (k + 1) ≡ (place + 1) + k = omega arith in ap Some same

behind_told : (w : Bool) (place : ℕ) (p : Publication) (a : Applied) → told_from w place (behind p a) ≡ learnt_by w p ∷ told_from w (place + 1) a
behind_told w place p a = ap (λ bad. learnt_by w p ∷ (map (learnt_by w) a.publications ++ misfit_entries bad)) (places_on place a.bad)

-- the first one fits
pub fits_next : (from : ℕ) (w : Bool) (table : List Publication) (item : Item) (items : List Item) (p : Publication) (place : ℕ) → fitting from w table item ≡ Some p
    → told_from w place (applied from table (Items w (item ∷ items))) ≡ learnt_by w p ∷ told_from w (place + 1) (applied from (names_with w p table) (Items w items))
fits_next from false table item items p place is = by (is_new from table item) is
  where
    rest : Applied
    rest = learned_from from (put (told_by from item) table) items

    by : (b : Bool) → (if b then Some (told_by from item) else None) ≡ Some p
        → told_from false place (if b then behind (told_by from item) rest else nothing_applied table (Some 0)) ≡ Learned p ∷ told_from false (place + 1) (learned_from from (put p table) items)
    by true same =
        let p_is : told_by from item ≡ p = cc in
        behind_told false place (told_by from item) rest ∙ ap (λ q. Learned q ∷ told_from false (place + 1) (learned_from from (put q table) items)) p_is
    by false same = absurd cc
fits_next from true table item items p place is =
    let rest = forgotten_from from (without from item.key table) items in
    let named = found_named from item.key table p (held_found from table item p is) in
    ap (λ o. told_from true place (forgotten_if o table rest)) is ∙ behind_told true place p rest
    ∙ ap (λ k. Forgot p ∷ told_from true (place + 1) (forgotten_from from (without k item.key table) items)) (sym named.0)
    ∙ ap (λ k. Forgot p ∷ told_from true (place + 1) (forgotten_from from (without p.at.node.word k table) items)) (sym named.1)

-- it doesn't
pub fits_not : (from : ℕ) (w : Bool) (table : List Publication) (item : Item) (items : List Item) (place : ℕ) → fitting from w table item ≡ None
    → told_from w place (applied from table (Items w (item ∷ items))) ≡ Dropped place ∷ []
fits_not from false table item items place is = by (is_new from table item) is
  where
    by : (b : Bool) → (if b then Some (told_by from item) else None) ≡ None
        → told_from false place (if b then behind (told_by from item) (learned_from from (put (told_by from item) table) items) else nothing_applied table (Some 0)) ≡ Dropped place ∷ []
    by true same = absurd cc
    by false same = let there : place + 0 ≡ place = omega arith in ap (λ k. Dropped k ∷ []) there
fits_not from true table item items place is =
    let there : place + 0 ≡ place = omega arith in
    ap (λ o. told_from true place (forgotten_if o table (forgotten_from from (without from item.key table) items))) is ∙ ap (λ k. Dropped k ∷ []) there

-- at the first place all is told
from_first : (bad : Option ℕ) → option_map (λ k. 0 + k) bad ≡ bad
from_first None = refl
from_first (Some k) = let same : 0 + k ≡ k = omega arith in ap Some same

learnt_each : (w : Bool) (items : List Item) (ps : List Publication) → map (learnt_entry (Items w items)) ps ≡ map (learnt_by w) ps
learnt_each w items [] = refl
learnt_each false items (p ∷ ps) = ap (λ es. Learned p ∷ es) (learnt_each false items ps)
learnt_each true items (p ∷ ps) = ap (λ es. Forgot p ∷ es) (learnt_each true items ps)

pub all_told : (from : ℕ) (w : Bool) (table : List Publication) (items : List Item) → learnt_entries from table (Items w items) ≡ told_from w 0 (applied from table (Items w items))
all_told from w table items =
    let a = applied from table (Items w items) in
    ap (λ es. es ++ misfit_entries a.bad) (learnt_each w items a.publications) ∙ ap (λ bad. map (learnt_by w) a.publications ++ misfit_entries bad) (sym (from_first a.bad))

pub none_told : (from : ℕ) (w : Bool) (table : List Publication) (place : ℕ) → told_from w place (applied from table (Items w [])) ≡ []
none_told from false table place = refl
none_told from true table place = refl

-- ---- the loop

-- Of a peer's items those before a place are applied, and told.
pub record IsApplying (from : ℕ) (w : Bool) (items : List Item) (before now : SocketTable) (inside inside' : List Entry) (place : ℕ) : Type 0 where
  pub told : List Entry
  pub inside_is : inside' ≡ inside ++ told
  pub sockets_are : now ≡ fold after_entry before told
  pub all : learnt_entries from before.names (Items w items) ≡ told ++ told_from w place (applied from now.names (Items w (drop place items)))

-- what is told of an item that fits
some_fitting : (w : Bool) (o : Option Publication) (e : Entry) → Some e ≡ option_map (learnt_by w) o → (p : Publication) × (o ≡ Some p) × (e ≡ learnt_by w p)
some_fitting w None e is = absurd cc
some_fitting w (Some p) e is = (p, refl, cc)

pub applying_next : (from : ℕ) (w : Bool) (items : List Item) (s now next : SocketTable) (inside inside' more : List Entry) (place : ℕ) (e : Entry) → IsApplying from w items s now inside inside' place → place < length items
    → Some e ≡ option_map (learnt_by w) (fitting from w now.names (get_or items place some_item)) → next ≡ fold after_entry now (option_to_list (Some e)) → more ≡ inside' ++ e ∷ []
    → IsApplying from w items s next inside more (place + 1)
applying_next from w items s now next inside inside' more place e h within told after pushed =
    let item = get_or items place some_item in
    let rest = drop (place + 1) items in
    let fits = some_fitting w (fitting from w now.names item) e told in
    let p = fits.0 in
    let names : next.names ≡ names_with w p now.names = ap (λ (t : SocketTable). t.names) after ∙ ap (λ x. (after_entry now x).names) fits.2 ∙ names_after w p now in
    record {
      told = h.told ++ e ∷ [];
      inside_is = pushed ∙ ap (λ es. es ++ e ∷ []) h.inside_is ∙ append_assoc inside h.told (e ∷ []);
      sockets_are = after ∙ ap (λ t. after_entry t e) h.sockets_are ∙ sym (fold-append after_entry s h.told (e ∷ []));
      all = h.all ∙ ap (λ xs. h.told ++ told_from w place (applied from now.names (Items w xs))) (drop_more items place some_item within)
          ∙ ap (λ es. h.told ++ es) (fits_next from w now.names item rest p place fits.1)
          ∙ ap (λ x. h.told ++ (x ∷ told_from w (place + 1) (applied from (names_with w p now.names) (Items w rest)))) (sym fits.2)
          ∙ ap (λ ns. h.told ++ (e ∷ told_from w (place + 1) (applied from ns (Items w rest)))) (sym names)
          ∙ sym (append_assoc h.told (e ∷ []) (told_from w (place + 1) (applied from next.names (Items w rest))));
    }
