-- Addresses of the cluster's nodes.
use Rattle.std.specs.Prelude.{◌+◌, ◌≤◌, ℕ}

-- the address word of node <1.1.n>: zone 1 in bits 31-24, cluster 1 in bits 23-12, n in bits 11-0
abbrev pub node_word : ℕ → ℕ
node_word n = 16781312 + n

-- the address of one of the 32 nodes of the cluster
abbrev pub IsNodeWord : ℕ → Type 0
IsNodeWord word = (16781313 ≤ word) × (word ≤ 16781344)
