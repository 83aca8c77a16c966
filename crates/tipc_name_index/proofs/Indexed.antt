-- What an index holds stays an index, and what a look-up in it finds.
use Rattle.std.proofs.Common.{◌≡◌, ◌≢◌, ℕ, ◌<◌, Bool, true, false, ◌&&◌, List, [], ◌∷◌, ◌++◌, filter, not, refl, sym, ap, subst, ◌∙◌, true≢false, arith, IsPermutation, IsSortedBy}
use Rattle.std.specs.Prelude.{count_by, nat_eq, ◌==◌}
use Rattle.std.specs.Cmp.{unsigned_ties}
use Rattle.std.specs.Cmp.Lexicographic.{lists_ties}
use Rattle.std.specs.List.{list_any, AllByRecursion}
use Rattle.std.specs.List.Sorted.{IsStrictlySortedBy}
use Rattle.std.specs.Ordering.{is_eq, nat_cmp}
use Rattle.std.specs.declared.cmp.Ordering.TheVariants.{Equal}
use Rattle.std.proofs.lemmas.Bool.Decides.{nat_tests}
use Rattle.std.proofs.lemmas.Cmp.{nat_list_cmp_total}
use Rattle.std.proofs.lemmas.List.Kept.{IsStrictlySortedBy-filter}
use Rattle.std.proofs.lemmas.List.Sorted.{ranks_by, sorted_far}
use Rattle.tipc_types.specs.Address.{IsNodeWord}
use Rattle.tipc_types.specs.declared.services.Publication.{Publication}
use Rattle.tipc_types.specs.Span.{Span}
use Rattle.tipc_types.specs.Matching.{covers, overlaps}
use Rattle.tipc_types.specs.Tables.{is_named, is_of, place_of, put, stands_before}
use Rattle.tipc_types.proofs.Places.{all_kept, all_put, kept_in_order, none_counted as none_of, none_passes}
use Rattle.tipc_name_table.proofs.TableLaws.{table_kept, table_none, table_put}
use Rattle.tipc_name_index.specs.Ranges.{begins_before, may_reach, name_before, name_cmp, range_cmp, range_of, IsIndex}
use Rattle.tipc_name_index.proofs.Names.{tie_of_name}
use Rattle.tipc_name_index.proofs.Order.{filters_join, none_counted, sorted_with_one}
use Rattle.tipc_name_index.proofs.Places.{names_total, ranges_total}
use Rattle.tipc_name_index.proofs.Same.{and_true, both_true, in_order_is, same_kept, same_moved, same_with_one}

pub index_none : IsIndex [] [] []
unfolding IsStrictlySortedBy
index_none = record { table = table_none; cluster = tt; same = λ test. refl; ordered = tt; alike = λ test. refl; named = tt }

pub index_kept : (kept : Publication → Bool) (ps qs ns : List Publication) → IsIndex ps qs ns → IsIndex (filter kept ps) (filter kept qs) (filter kept ns)
index_kept kept ps qs ns h = record {
  table = table_kept kept ps h.table;
  cluster = all_kept (λ p. IsNodeWord p.at.node.word) kept ps h.cluster;
  same = same_kept kept ps qs h.same;
  ordered = IsStrictlySortedBy-filter range_cmp kept qs h.ordered;
  alike = same_kept kept ps ns h.alike;
  named = IsStrictlySortedBy-filter name_cmp kept ns h.named;
}

-- ---- one more

-- what ties in the order of ranges is of one node and key
tie_named : (p q : Publication) → range_cmp q p ≡ Equal → is_named p.at.node.word p.key q ≡ true
tie_named p q e =
    let all = lists_ties {E = nat_eq} nat_cmp unsigned_ties (range_of q) (range_of p) ∙ ap is_eq e in
    let upper = both_true (q.range.upper == p.range.upper) _ (both_true (q.range.lower == p.range.lower) _ (both_true (q.range.kind == p.range.kind) _ all).1).1 in
    let node = both_true (q.at.node.word == p.at.node.word) _ upper.1 in
    let port = both_true (q.at.port == p.at.port) _ node.1 in
    let key = both_true (q.key == p.key) true port.1 in
    and_true (q.at.node.word == p.at.node.word) (q.key == p.key) node.0 key.0

none_ties : (p : Publication) (qs : List Publication) → AllByRecursion (λ q. is_named p.at.node.word p.key q ≡ false) qs → AllByRecursion (λ q. range_cmp q p ≢ Equal) qs
none_ties p [] h = tt
none_ties p (q ∷ qs) h = ((λ e. true≢false (sym (tie_named p q e) ∙ h.0)), none_ties p qs h.1)

none_named : (p : Publication) (qs : List Publication) → AllByRecursion (λ q. is_named p.at.node.word p.key q ≡ false) qs → AllByRecursion (λ q. name_cmp q p ≢ Equal) qs
none_named p [] h = tt
none_named p (q ∷ qs) h = ((λ e. true≢false (sym (tie_of_name p q e) ∙ h.0)), none_named p qs h.1)

pub index_put : (p : Publication) (ps qs ns : List Publication) → IsIndex ps qs ns → IsNodeWord p.at.node.word → list_any (is_named p.at.node.word p.key) ps ≡ false
    → count_by (is_of p.at.node.word) ps < 1024
    → IsIndex (put p ps) (filter (λ q. begins_before q p) qs ++ p ∷ filter (λ q. not (begins_before q p)) qs)
    (filter (name_before p.at.node.word p.key) ns ++ p ∷ filter (λ q. not (name_before p.at.node.word p.key q)) ns)
index_put p ps qs ns h node unheld room =
    let test = is_named p.at.node.word p.key in
    let none = none_of test ps (none_passes test ps unheld) in
    record {
      table = table_put p ps h.table unheld room;
      cluster = all_put (λ q. IsNodeWord q.at.node.word) p ps node h.cluster;
      same = same_with_one (λ q. begins_before q p) p ps qs h.same;
      ordered = sorted_with_one range_cmp ranges_total p qs h.ordered (none_ties p qs (none_counted test qs (sym (h.same test) ∙ none)));
      alike = same_with_one (name_before p.at.node.word p.key) p ps ns h.alike;
      named = sorted_with_one name_cmp names_total p ns h.named (none_named p ns (none_counted test ns (sym (h.alike test) ∙ none)));
    }

-- ---- a look-up

-- what passes among those that may, in order of node, port and key, is what passes in the table
pub looked_up : (test near : Publication → Bool) → ((p : Publication) → test p ≡ (near p && test p)) → (ps qs ns found : List Publication) → IsIndex ps qs ns
    → IsPermutation (filter test (filter near qs)) found → IsSortedBy stands_before found → found ≡ filter test ps
looked_up test near only ps qs ns found h moved sorted =
    let all = subst (λ (rs : List Publication). IsPermutation rs found) (filters_join near test test only qs) moved in
    in_order_is (filter test ps) found (kept_in_order test ps h.table.ordered)
    (λ i j d below within. sorted_far stands_before (ranks_by nat_list_cmp_total place_of) found sorted i j d (omega arith) within)
    (λ t. same_kept test ps qs h.same t ∙ same_moved (filter test qs) found all t)

-- what covers an instance, and what overlaps a range, may reach it
pub covers_near : (kind instance : ℕ) (p : Publication) → covers kind instance p ≡ (may_reach kind instance p && covers kind instance p)
covers_near kind instance p = grind (arith, nat_tests)

pub overlaps_near : (range : Span) (p : Publication) → overlaps range p ≡ (may_reach range.kind range.upper p && overlaps range p)
overlaps_near range p = grind (arith, nat_tests)
