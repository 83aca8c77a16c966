-- Publications in order of the ranges that they offer, and in order of node and key, by which they are named; and the same
-- publications in order of node, port and key.
use Rattle.std.specs.Prelude.{ℕ, ◌≡◌, ◌==◌, ◌&&◌, Bool, nat_le, List, [], ◌∷◌, count_by}
use Rattle.std.specs.List.Sorted.{IsStrictlySortedBy}
use Rattle.std.specs.Ordering.{is_lt, nat_cmp}
use Rattle.std.specs.declared.cmp.Ordering.{Ordering}
use Rattle.std.specs.Cmp.Lexicographic.{slice_cmp}
use Rattle.tipc_types.specs.declared.services.Publication.{Publication}
use Rattle.tipc_types.specs.Tables.{place_of, AreOfCluster, IsTable}

-- what publications stand in the order of ranges by: service type, lower and upper bound, node, port and key
abbrev pub range_of : Publication → List ℕ
range_of p = p.range.kind ∷ p.range.lower ∷ p.range.upper ∷ place_of p

-- how two publications stand to each other in the order of ranges
abbrev pub range_cmp : Publication → Publication → Ordering
range_cmp p q = slice_cmp nat_cmp (range_of p) (range_of q)

-- whether p stands before q in the order of ranges
abbrev pub begins_before : Publication → Publication → Bool
begins_before p q = is_lt (range_cmp p q)

-- whether a publication is of a service type and begins no later than at an instance: only such a one can have the instance
abbrev pub may_reach : ℕ → ℕ → Publication → Bool
may_reach kind instance p = (p.range.kind == kind) && nat_le p.range.lower instance

-- what publications stand in the order of names by: node and key
abbrev pub name_of : Publication → List ℕ
name_of p = p.at.node.word ∷ p.key ∷ []

-- how two publications stand to each other in the order of names
abbrev pub name_cmp : Publication → Publication → Ordering
name_cmp p q = slice_cmp nat_cmp (name_of p) (name_of q)

-- whether a publication stands before the name of a node and key
abbrev pub name_before : ℕ → ℕ → Publication → Bool
name_before node key p = is_lt (slice_cmp nat_cmp (name_of p) (node ∷ key ∷ []))

-- The same publications, in whatever order: of the ones as many pass each test as of the others.
abbrev pub AreSame : List Publication → List Publication → Type 0
AreSame ps qs = (test : Publication → Bool) → count_by test ps ≡ count_by test qs

-- what an index holds: a table, the same publications in the order of ranges, and the same in the order of names
pub record IsIndex (held ranges names : List Publication) : Type 0 where
  pub table : IsTable held
  pub cluster : AreOfCluster held
  pub same : AreSame held ranges
  pub ordered : IsStrictlySortedBy range_cmp ranges
  pub alike : AreSame held names
  pub named : IsStrictlySortedBy name_cmp names
