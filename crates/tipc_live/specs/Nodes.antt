-- The nodes of an audit.
use Rattle.std.specs.Prelude.{◌==◌, ◌&&◌, ◌-◌, ℕ, Bool, List, count_by, nat_le, nat_lt}
use Rattle.std.specs.List.{list_all}
use Rattle.tipc_types.specs.Address.{node_word}
use Rattle.tipc_node_lock.specs.Locked.{LockedState}

-- the number of a node of the cluster: that of its address
abbrev pub locked_number : {P : Type 0} → LockedState P → ℕ
locked_number n = n.node.own - node_word 0

-- whether a node is one of the cluster's 32, in a boot from 1 on
abbrev pub is_of_cluster : {P : Type 0} → LockedState P → Bool
is_of_cluster n = nat_lt (node_word 0) n.node.own && (nat_le n.node.own (node_word 32) && nat_le 1 n.node.boot)

-- whether just one of these nodes has this address
abbrev pub has_one_address : {P : Type 0} → List (LockedState P) → ℕ → Bool
has_one_address nodes word = count_by (λ n. n.node.own == word) nodes == 1

-- whether a node is one of the cluster's, and no other of these has its address
abbrev pub is_fit : {P : Type 0} → List (LockedState P) → LockedState P → Bool
is_fit nodes n = is_of_cluster n && has_one_address nodes n.node.own

-- whether nodes can be audited together: each is one of the cluster's, and no two have one address
unfoldable pub can_audit : {P : Type 0} → List (LockedState P) → Bool
can_audit nodes = list_all (is_fit nodes) nodes
