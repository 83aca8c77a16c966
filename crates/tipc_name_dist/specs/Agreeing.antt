-- When a node's table agrees with what a peer has published.
use Rattle.std.specs.Prelude.{◌≡◌, ◌≤◌, ℕ, ◌==◌, Bool, true, nat_le, not, List, filter, length, map, count_by}
use Rattle.std.specs.List.{list_all}
use Rattle.tipc_types.specs.declared.services.Publication.{Publication}
use Rattle.tipc_types.specs.declared.services.Scope.TheVariants.{Cluster}
use Rattle.tipc_types.specs.Tables.{is_of}
use Rattle.tipc_journal.specs.Matches.{arranged}
use Rattle.tipc_journal.specs.Names.{cluster_part}

-- a publication as a peer learns it: one of zone scope is treated as one of cluster scope
abbrev pub as_learned : Publication → Publication
as_learned p = record p { scope = Cluster }

-- what a peer holds of a node's publications, in order of node, port and key
abbrev pub shared : List Publication → List Publication
shared live = arranged (map as_learned (cluster_part live))

-- whether a publication has a key
abbrev pub has_key : ℕ → Publication → Bool
has_key key p = p.key == key

-- whether the range of a publication has instances
abbrev pub has_instances : Publication → Bool
has_instances p = nat_le p.range.lower p.range.upper

-- a node's own publications: each at one of its ports, of a range that has instances, under a key of its own, and
-- 1,024 at most
pub record AreOwn (node : ℕ) (live : List Publication) : Type 0 where
  pub own : list_all (is_of node) live ≡ true
  pub ranges : list_all has_instances live ≡ true
  pub keys : (key : ℕ) → count_by (has_key key) live ≤ 1
  pub few : length live ≤ 1024

-- of a node's publications a table holds those that are seen in the cluster
abbrev pub Agrees : ℕ → List Publication → List Publication → Type 0
Agrees node live table = filter (is_of node) table ≡ shared live

-- the others where that of a key is withdrawn
abbrev pub without_key : ℕ → List Publication → List Publication
without_key key live = filter (λ p. not (has_key key p)) live
