-- Which publications a name is looked up to.
use Rattle.std.specs.Prelude.{ℕ, ◌==◌, ◌&&◌, Bool, nat_le, List, [], ◌∷◌, filter}
use Rattle.tipc_types.specs.Span.{Span}
use Rattle.tipc_types.specs.declared.services.Publication.{Publication}
use Rattle.tipc_types.specs.Tables.{is_of}

-- whether a publication covers an instance of a service type: the instance lies in its range
abbrev pub covers : ℕ → ℕ → Publication → Bool
covers kind instance p = (p.range.kind == kind) && (nat_le p.range.lower instance && nat_le instance p.range.upper)

-- whether a publication shares an instance with a range of its service type
abbrev pub overlaps : Span → Publication → Bool
overlaps range p = (p.range.kind == range.kind) && (nat_le p.range.lower range.upper && nat_le range.lower p.range.upper)

-- these where there are some, and those where there are none
abbrev pub preferred : List Publication → List Publication → List Publication
preferred [] those = those
preferred (p ∷ ps) those = p ∷ ps

-- Closest first: the node's own alone where it has some, and all where it has none.
abbrev pub closest : ℕ → List Publication → List Publication
closest own ps = preferred (filter (is_of own) ps) ps
