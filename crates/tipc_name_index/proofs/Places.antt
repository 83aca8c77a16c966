-- The order of node, port and key, and the order of ranges: where publications of a node, and those of a service type, stand.
use Rattle.std.proofs.Common.{◌≡◌, ℕ, ◌<◌, ◌≤◌, Bool, true, false, cond, ◌&&◌, ◌||◌, not, List, [], ◌∷◌, ◌++◌, if◌then◌else◌, filter, refl, ap, ap₂, arith}
use Rattle.std.specs.Prelude.{◌==◌, nat_le, nat_lt}
use Rattle.std.specs.Cmp.{IsTotalOrder}
use Rattle.std.specs.List.Sorted.{IsStrictlySortedBy}
use Rattle.std.specs.Ordering.{nat_cmp, ordering_then, MatchOrdering}
use Rattle.std.specs.declared.cmp.Ordering.{Ordering}
use Rattle.std.specs.declared.cmp.Ordering.TheVariants.{Less, Equal, Greater}
use Rattle.std.proofs.lemmas.Bool.Decides.{nat_tests}
use Rattle.std.proofs.lemmas.Cmp.{nat_list_cmp_total, on_total, ranked}
use Rattle.tipc_types.specs.declared.services.Publication.{Publication}
use Rattle.tipc_types.specs.Tables.{is_of, place_cmp, place_of, put, stands_before, IsInOrder}
use Rattle.tipc_name_index.specs.Ranges.{may_reach, name_cmp, name_of, range_cmp, range_of}
use Rattle.tipc_name_index.proofs.Order.{filter_none, filter_whole, all_negated, none_before}

pub places_total : IsTotalOrder place_cmp
places_total = on_total place_of nat_list_cmp_total

pub ranges_total : IsTotalOrder range_cmp
ranges_total = on_total range_of nat_list_cmp_total

pub names_total : IsTotalOrder name_cmp
names_total = on_total name_of nat_list_cmp_total

-- what comes first in an order doesn't fall
first_rises : (a b : ℕ) (o : Ordering) → ordering_then (nat_cmp a b) o ≡ Less → a ≤ b
first_rises a b o e = by (nat_cmp a b) (ranked a b (nat_cmp a b) refl) e
  where
    by : (r : Ordering) → MatchOrdering r (a < b) (a ≡ b) (b < a) → ordering_then r o ≡ Less → a ≤ b
    by Less k e = omega (arith, k)
    by Equal k e = omega (arith, k)
    by Greater k e = absurd (cc e)

-- what comes second doesn't fall where the first stays
second_rises : (a b c d : ℕ) (o : Ordering) → ordering_then (nat_cmp a b) (ordering_then (nat_cmp c d) o) ≡ Less → a ≡ b → c ≤ d
second_rises a b c d o e same = by (nat_cmp a b) (ranked a b (nat_cmp a b) refl) e
  where
    by : (r : Ordering) → MatchOrdering r (a < b) (a ≡ b) (b < a) → ordering_then r (ordering_then (nat_cmp c d) o) ≡ Less → c ≤ d
    by Less k e = absurd (omega (arith, k, same))
    by Equal k e = first_rises c d o e
    by Greater k e = absurd (cc e)

-- ---- the publications of a node

pub node_rises : (p q : Publication) → place_cmp p q ≡ Less → p.at.node.word ≤ q.at.node.word
node_rises p q e = first_rises p.at.node.word q.at.node.word _ e

pub below_node : (node : ℕ) (p q : Publication) → place_cmp p q ≡ Less → nat_lt q.at.node.word node ≡ true → nat_lt p.at.node.word node ≡ true
below_node node p q e h = let rises = node_rises p q e in grind (arith, nat_tests, rises, h)

pub upto_node : (node : ℕ) (p q : Publication) → place_cmp p q ≡ Less → nat_le q.at.node.word node ≡ true → nat_le p.at.node.word node ≡ true
upto_node node p q e h = let rises = node_rises p q e in grind (arith, nat_tests, rises, h)

pub node_between : (node : ℕ) (p : Publication) → is_of node p ≡ (not (nat_lt p.at.node.word node) && nat_le p.at.node.word node)
node_between node p = grind (arith, nat_tests)

-- ---- the publications of a service type

pub kind_rises : (p q : Publication) → range_cmp p q ≡ Less → p.range.kind ≤ q.range.kind
kind_rises p q e = first_rises p.range.kind q.range.kind _ e

pub lower_rises : (p q : Publication) → range_cmp p q ≡ Less → p.range.kind ≡ q.range.kind → p.range.lower ≤ q.range.lower
lower_rises p q e same = second_rises p.range.kind q.range.kind p.range.lower q.range.lower _ e same

pub below_kind : (kind : ℕ) (p q : Publication) → range_cmp p q ≡ Less → nat_lt q.range.kind kind ≡ true → nat_lt p.range.kind kind ≡ true
below_kind kind p q e h = let rises = kind_rises p q e in grind (arith, nat_tests, rises, h)

-- whether a publication is of an earlier service type, or of this one and begins no later than at an instance
abbrev pub upto : ℕ → ℕ → Publication → Bool
upto kind instance p = nat_lt p.range.kind kind || ((p.range.kind == kind) && nat_le p.range.lower instance)

upto_from : (a b c d kind instance : ℕ) → a ≤ b → (a ≡ b → c ≤ d) → nat_lt b kind || ((b == kind) && nat_le d instance) ≡ true → nat_lt a kind || ((a == kind) && nat_le c instance) ≡ true
upto_from a b c d kind instance rises second h = grind (arith, nat_tests, rises, second, h)

pub upto_lower : (kind instance : ℕ) (p q : Publication) → range_cmp p q ≡ Less → upto kind instance q ≡ true → upto kind instance p ≡ true
upto_lower kind instance p q e h = upto_from p.range.kind q.range.kind p.range.lower q.range.lower kind instance (kind_rises p q e) (lower_rises p q e) h

pub reach_between : (kind instance : ℕ) (p : Publication) → may_reach kind instance p ≡ (not (nat_lt p.range.kind kind) && upto kind instance p)
reach_between kind instance p = grind (arith, nat_tests)

-- ---- one more

-- what is put behind those that stand before it is put in its place
pub put_is : (p : Publication) (ps : List Publication) → IsInOrder ps → filter (λ q. stands_before q p) ps ++ p ∷ filter (λ q. not (stands_before q p)) ps ≡ put p ps
unfolding IsStrictlySortedBy
put_is p [] h = refl
put_is p (q ∷ qs) h = by (stands_before q p) refl (put_is p qs h.1)
  where
    before : Publication → Bool
    before r = stands_before r p

    behind : Publication → Bool
    behind r = not (stands_before r p)

    by : (b : Bool) → before q ≡ b → filter before qs ++ p ∷ filter behind qs ≡ put p qs
        → cond b (q ∷ filter before qs) (filter before qs) ++ p ∷ cond (not b) (q ∷ filter behind qs) (filter behind qs) ≡ (if b then q ∷ put p qs else p ∷ q ∷ qs)
    by true e rest = ap (λ rs. q ∷ rs) rest
    by false e rest =
        let none = none_before place_cmp places_total p q qs e h.0 in
        ap₂ (λ rs ts. rs ++ p ∷ q ∷ ts) (filter_none before qs none) (filter_whole behind qs (all_negated before qs none))
