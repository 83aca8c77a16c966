-- What the calls on names make of the sockets.
use Rattle.std.proofs.Common.{◌≡◌, ◌≤◌, ℕ, Bool, true, false, cond, ◌+◌, List, [], ◌∷◌, Option, None, Some, length, map, filter, refl, sym, ap, subst, ◌∙◌, true≢false, eqb-true, sum_by, arith}
use Rattle.std.specs.Prelude.{◌&&◌, ◌||◌, count_by, find, fold, if◌then◌else◌, not, option_to_list}
use Rattle.std.specs.List.{list_any}
use Rattle.tipc_types.specs.declared.node_calls.Answer.{Answer}
use Rattle.tipc_types.specs.declared.node_calls.Answer.TheVariants as answer
use Rattle.tipc_types.specs.declared.services.Publication.{Publication}
use Rattle.tipc_journal.specs.declared.entries.Entry.TheVariants.{Withdrawn}
use Rattle.tipc_journal.specs.Room.{entry_bytes}
use Rattle.tipc_name_dist.specs.Items.{tellings}
use Rattle.tipc_types.specs.Tables.{is_of}
use Rattle.tipc_sockets.specs.Publishing.{has_key, is_at, published_at, withdrawn}
use Rattle.tipc_sockets.specs.SocketTables.{AreSockets, SocketTable, has_port}
use Rattle.tipc_sockets.specs.Telling.{after_entry}
use Rattle.tipc_sockets.proofs.Counting.{count_by-filter, counted, counts_none}
use Rattle.tipc_sockets.proofs.Keeping.{own_names_count, and_right as both_true, fewer_kept as filter_few}
use Rattle.tipc_node.specs.Nodes.{NodeState}
use Rattle.tipc_node.specs.Sockets.{key_refusal, port_refusal, told_withdrawal, withdrawal_refusal, withdrawn_entries, withdrawn_work}

-- ---- names

abbrev withdrawal_by : ℕ → SocketTable → ℕ → Bool → Option Answer
withdrawal_by key s port there = if there then key_refusal (published_at s port key) else Some answer.NoSocket

-- a port that isn't there refuses, as does a key that isn't live at one that is
pub port_gone : (s : SocketTable) (port : ℕ) → has_port s port ≡ false → port_refusal s port ≡ Some answer.NoSocket
port_gone s port gone = ap (λ (b : Bool). if b then None else Some answer.NoSocket) gone

pub port_there : (s : SocketTable) (port : ℕ) → has_port s port ≡ true → port_refusal s port ≡ None
port_there s port there = ap (λ (b : Bool). if b then None else Some answer.NoSocket) there

pub withdrawal_gone : (s : SocketTable) (port key : ℕ) → has_port s port ≡ false → withdrawal_refusal s port key ≡ Some answer.NoSocket
withdrawal_gone s port key gone = ap (withdrawal_by key s port) gone

pub withdrawal_unknown : (s : SocketTable) (port key : ℕ) → has_port s port ≡ true → published_at s port key ≡ None → withdrawal_refusal s port key ≡ Some answer.Unknown
withdrawal_unknown s port key there none = ap (withdrawal_by key s port) there ∙ ap key_refusal none

pub withdrawal_free : (s : SocketTable) (port key : ℕ) (p : Publication) → has_port s port ≡ true → published_at s port key ≡ Some p → withdrawal_refusal s port key ≡ None
withdrawal_free s port key p there some = ap (withdrawal_by key s port) there ∙ ap key_refusal some

-- ---- what is live

pub live_few : (s : SocketTable) → AreSockets s → length s.live ≤ 1024
live_few s h = let few = h.names.few s.own in let same = own_names_count s h in omega (arith, few, same)

no_others : (own : ℕ) (ps : List Publication) → count_by (λ p. is_of own p && not (is_of own p)) ps ≡ 0
no_others own [] = refl
no_others own (p ∷ ps) = counted (λ q. is_of own q && not (is_of own q)) p ps ∙ by (is_of own p) (no_others own ps)
  where
    by : (b : Bool) → count_by (λ q. is_of own q && not (is_of own q)) ps ≡ 0 → cond (b && not b) 1 0 + count_by (λ q. is_of own q && not (is_of own q)) ps ≡ 0
    by true rest = omega (arith, rest)
    by false rest = omega (arith, rest)

others_none : (s : SocketTable) → AreSockets s → list_any (λ p. not (is_of s.own p)) s.live ≡ false
others_none s h = counts_none (λ p. not (is_of s.own p)) s.live (sym (h.live (λ p. not (is_of s.own p))) ∙ count_by-filter (λ p. not (is_of s.own p)) (is_of s.own) s.names ∙ no_others s.own s.names)

-- what was found passes the test, and isn't one of those of which there is none
record IsFoundBy (test other : Publication → Bool) (p : Publication) : Type 0 where
  passes : test p ≡ true
  apart : other p ≡ false

found_by : (test other : Publication → Bool) (p : Publication) (ps : List Publication) → list_any other ps ≡ false → find test ps ≡ Some p → IsFoundBy test other p
found_by test other p [] none found = absurd cc
found_by test other p (q ∷ qs) none found = by (test q) (other q) refl refl none found (found_by test other p qs)
  where
    by : (b c : Bool) → test q ≡ b → other q ≡ c → c || list_any other qs ≡ false → (if b then Some q else find test qs) ≡ Some p → (list_any other qs ≡ false → find test qs ≡ Some p → IsFoundBy test other p)
        → IsFoundBy test other p
    by true true t o n f rest = absurd cc
    by true false t o n f rest = let same : q ≡ p = cc in subst (IsFoundBy test other) same (record { passes = t; apart = o })
    by false true t o n f rest = absurd cc
    by false false t o n f rest = rest n f

not_false : (b : Bool) → not b ≡ false → b ≡ true
not_false true e = refl
not_false false e = absurd (true≢false e)

-- a publication that was found at a port is the node's own, and of that key
pub published_own : (s : SocketTable) (port key : ℕ) (p : Publication) → AreSockets s → published_at s port key ≡ Some p → (p.at.node.word ≡ s.own) × (p.key ≡ key)
published_own s port key p h found =
    let f = found_by (λ q. is_at port q && has_key key q) (λ q. not (is_of s.own q)) p s.live (others_none s h) found in
    (eqb-true _ _ (not_false (is_of s.own p) f.apart), eqb-true _ _ (both_true (is_at port p) (has_key key p) f.passes))

-- as many are at a port
pub at_few : (s : SocketTable) (port : ℕ) → AreSockets s → length (filter (is_at port) s.live) ≤ 1024
at_few s port h =
    let all = live_few s h in
    let some = filter_few (is_at port) s.live in
    omega (arith, all, some)

-- withdrawals count for nothing
pub withdrawals_light : (ps : List Publication) → sum_by entry_bytes (map Withdrawn ps) ≡ 0
withdrawals_light [] = refl
withdrawals_light (p ∷ ps) = withdrawals_light ps

-- ---- a withdrawal that is made

-- the sockets where what was found at a port is withdrawn
pub withdrawn_sockets : (n : NodeState) (port key : ℕ) (p : Publication) (s : SocketTable) → AreSockets n.sockets → published_at n.sockets port key ≡ Some p → s ≡ withdrawn n.sockets n.sockets.own key → s ≡ (withdrawn_work n port key).sockets
withdrawn_sockets n port key p s sound found after =
    let own = published_own n.sockets port key p sound found in
    after ∙ ap (λ (word : ℕ). withdrawn n.sockets word key) (sym own.0) ∙ ap (withdrawn n.sockets p.at.node.word) (sym own.1) ∙ ap (λ o. fold after_entry n.sockets (withdrawn_entries o)) (sym found)

-- and what is told of it
pub withdrawn_inside : (n : NodeState) (port key : ℕ) (p : Publication) → published_at n.sockets port key ≡ Some p → Withdrawn p ∷ [] ≡ (withdrawn_work n port key).inside
withdrawn_inside n port key p found = ap withdrawn_entries (sym found)

pub withdrawn_told : (n : NodeState) (port key : ℕ) (p : Publication) → published_at n.sockets port key ≡ Some p → tellings true (p ∷ []) ≡ told_withdrawal n.sockets port key
withdrawn_told n port key p found = ap (λ (o : Option Publication). tellings true (option_to_list o)) (sym found)
