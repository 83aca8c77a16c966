-- What always holds of a node's sockets stays so.
use Rattle.std.proofs.lemmas.Bool.{leb-false}
use Rattle.std.proofs.lemmas.Bool.Decides.{eqb_tells}
use Rattle.std.proofs.Common.{◌≡◌, inl, inr, ℕ, ◌+◌, ◌≤◌, ◌<◌, Bool, true, false, not, cond, ◌&&◌, ◌||◌, List, [], ◌∷◌, ◌++◌, length, take, get_or, Option, None, Some, is_some, Contains, filter, if◌then◌else◌, refl, sym, ap, subst, ◌∙◌, true≢false, eqb-true, arith}
use Rattle.std.specs.Prelude.{count_by, find, nat_eq, nat_le, nat_lt, unwrap_or, is_ok, Err, Ok, Result, OnErr, OnOk}
use Rattle.std.specs.List.{list_any, All, AllByRecursion}
use Rattle.std.specs.Map.{keys_of, lookup, set_value}
use Rattle.std.proofs.lemmas.List.{map-append, take_more}
use Rattle.std.proofs.lemmas.List.Sums.{fold-append}
use Rattle.std.proofs.lemmas.List.Elements.{recursion_from_All}
use Rattle.std.proofs.lemmas.Map.{keys-set_value, lookup-none}
use Rattle.indexmap.specs.IndexSet.{remove_key}
use Rattle.indexmap.proofs.CallerLemmas.{keys-shift_remove_entry}
use Rattle.tipc_types.specs.declared.message_forms.Message.{Message}
use Rattle.tipc_types.specs.declared.services.Publication.{Publication}
use Rattle.tipc_types.specs.Tables.{is_named, is_of, put, without, IsTable}
use Rattle.tipc_types.proofs.Places.{count_by-put, filter-put}
use Rattle.tipc_name_table.proofs.TableLaws.{table_kept}
use Rattle.tipc_ports.specs.Numbers.{port_number}
use Rattle.tipc_ports.proofs.PortLaws.{found_there, port_removed, present_new, present_without}
use Rattle.tipc_topology.specs.Changing.{Watchers}
use Rattle.tipc_sockets.specs.Publishing.{closed, has_key, is_at, publish_refusal, published_at}
use Rattle.tipc_sockets.specs.declared.publishing.PublishFault.TheVariants as refused
use Rattle.tipc_sockets.specs.SocketTables.{has_port, queued, queued_at_each, with_publications, with_queues, with_socket, with_watchers, AreSockets, SocketTable}
use Rattle.tipc_sockets.proofs.Counting.{count_by-agree, count_by-all, count_by-append, count_by-filter, count_by-one, counts_none, filter_none, found_none, none_counts, some_counts}

-- ---- queues

-- other queues at the same ports
pub other_queues : (s : SocketTable) (queues : List (ℕ × List Message)) → AreSockets s → keys_of queues ≡ keys_of s.queues → AreSockets (with_queues s queues)
other_queues s queues h same = record { node = h.node; present = h.present; queues = same ∙ h.queues; names = h.names; live = h.live }

pub keys-queued : (m : Message) (queues : List (ℕ × List Message)) (port : ℕ) → keys_of (queued m queues port) ≡ keys_of queues
keys-queued m queues port = keys-set_value (nat_eq port) queues (unwrap_or (lookup (nat_eq port) queues) [] ++ m ∷ [])

pub keys-queued_at_each : (m : Message) (queues : List (ℕ × List Message)) (ports : List ℕ) → keys_of (queued_at_each m queues ports) ≡ keys_of queues
keys-queued_at_each m queues [] = refl
keys-queued_at_each m queues (port ∷ ports) = keys-queued_at_each m (queued m queues port) ports ∙ keys-queued m queues port

pub queued_at_next : (m : Message) (queues : List (ℕ × List Message)) (ports : List ℕ) (i d : ℕ) → i < length ports
    → queued m (queued_at_each m queues (take i ports)) (get_or ports i d) ≡ queued_at_each m queues (take (i + 1) ports)
queued_at_next m queues ports i d within =
    sym (ap (λ (ps : List ℕ). queued_at_each m queues ps) (take_more ports i d within) ∙ fold-append (λ those port. queued m those port) queues (take i ports) (get_or ports i d ∷ []))

-- what waits elsewhere stays
pub lookup_elsewhere : (port other : ℕ) (queues : List (ℕ × List Message)) (waiting : List Message) → (other ≡ port → ⊥)
    → lookup (nat_eq other) (set_value (nat_eq port) queues waiting) ≡ lookup (nat_eq other) queues
lookup_elsewhere port other [] waiting apart = refl
lookup_elsewhere port other (q ∷ qs) waiting apart = by (nat_eq port q.0) refl (lookup_elsewhere port other qs waiting apart)
  where
    by : (b : Bool) → nat_eq port q.0 ≡ b → lookup (nat_eq other) (set_value (nat_eq port) qs waiting) ≡ lookup (nat_eq other) qs
        → lookup (nat_eq other) (cond b ((q.0, waiting) ∷ qs) (q ∷ set_value (nat_eq port) qs waiting)) ≡ cond (nat_eq other q.0) (Some q.1) (lookup (nat_eq other) qs)
    by true here later =
        let passed : nat_eq other q.0 ≡ false = elim (eqb_tells other q.0) as (λ _. nat_eq other q.0 ≡ false) [ inl p ↦ absurd (apart (p.1 ∙ sym (eqb-true _ _ here))) | inr p ↦ p.0 ] in
        rw passed refl
    by false here later = ap (λ (found : Option (List Message)). cond (nat_eq other q.0) (Some q.1) found) later

-- ---- publications

-- the own ones among the names that pass a test are counted by two tests in one
pub own_count : (own : ℕ) (test : Publication → Bool) (names : List Publication) → count_by test (filter (is_of own) names) ≡ count_by (λ p. is_of own p && test p) names
own_count own test names = count_by-filter test (is_of own) names

and_swapped : (a b c : Bool) → a && (b && c) ≡ b && (a && c)
and_swapped true b c = refl
and_swapped false true c = refl
and_swapped false false c = refl

-- the names and the live ones that pass a test
pub kept_live : (own : ℕ) (kept : Publication → Bool) (names live : List Publication)
    → ((test : Publication → Bool) → count_by test (filter (is_of own) names) ≡ count_by test live)
    → (test : Publication → Bool) → count_by test (filter (is_of own) (filter kept names)) ≡ count_by test (filter kept live)
kept_live own kept names live h test =
    own_count own test (filter kept names)
    ∙ count_by-filter (λ p. is_of own p && test p) kept names
    ∙ count_by-agree (λ p. kept p && (is_of own p && test p)) (λ p. is_of own p && (kept p && test p)) (λ p. and_swapped (kept p) (is_of own p) (test p)) names
    ∙ sym (own_count own (λ p. kept p && test p) names)
    ∙ h (λ p. kept p && test p)
    ∙ sym (count_by-filter test kept live)

at_port_kept : (a b c : Bool) → not (a && b) && (a && c) ≡ a && (not b && c)
at_port_kept true b c = refl
at_port_kept false b c = refl

-- the names that aren't own ones at a port, and the live ones that aren't at it
pub port_live : (own port : ℕ) (names live : List Publication)
    → ((test : Publication → Bool) → count_by test (filter (is_of own) names) ≡ count_by test live)
    → (test : Publication → Bool) → count_by test (filter (is_of own) (filter (λ p. not (is_of own p && is_at port p)) names)) ≡ count_by test (filter (λ p. not (is_at port p)) live)
port_live own port names live h test =
    own_count own test (filter (λ p. not (is_of own p && is_at port p)) names)
    ∙ count_by-filter (λ p. is_of own p && test p) (λ p. not (is_of own p && is_at port p)) names
    ∙ count_by-agree (λ p. not (is_of own p && is_at port p) && (is_of own p && test p)) (λ p. is_of own p && (not (is_at port p) && test p)) (λ p. at_port_kept (is_of own p) (is_at port p) (test p)) names
    ∙ sym (own_count own (λ p. not (is_at port p) && test p) names)
    ∙ h (λ p. not (is_at port p) && test p)
    ∙ sym (count_by-filter test (λ p. not (is_at port p)) live)

-- one more name, and one more that is live where it is an own one
pub put_live : (own : ℕ) (p : Publication) (names live : List Publication)
    → ((test : Publication → Bool) → count_by test (filter (is_of own) names) ≡ count_by test live)
    → (test : Publication → Bool) → count_by test (filter (is_of own) (put p names)) ≡ count_by test (if is_of own p then live ++ p ∷ [] else live)
put_live own p names live h test =
    own_count own test (put p names)
    ∙ count_by-put (λ q. is_of own q && test q) p names
    ∙ ap (λ (n : ℕ). cond (is_of own p && test p) 1 0 + n) (sym (own_count own test names) ∙ h test)
    ∙ by (is_of own p)
  where
    by : (b : Bool) → cond (b && test p) 1 0 + count_by test live ≡ count_by test (if b then live ++ p ∷ [] else live)
    by true = omega (arith, count_by-append test live (p ∷ []), count_by-one test p)
    by false = omega arith

-- ---- what calls change

-- other publications, where the own names and the live ones are still the same
pub other_publications : (s : SocketTable) (names live : List Publication) (watchers : Watchers) → AreSockets s → IsTable names
    → ((test : Publication → Bool) → count_by test (filter (is_of s.own) names) ≡ count_by test live) → AreSockets (with_publications s names live watchers)
other_publications s names live watchers h table same = record { node = h.node; present = h.present; queues = h.queues; names = table; live = same }

pub sockets_published : (s : SocketTable) (p : Publication) (names live : List Publication) (watchers : Watchers) → AreSockets s → IsTable names
    → names ≡ put p s.names → live ≡ (if is_of s.own p then s.live ++ p ∷ [] else s.live) → AreSockets (with_publications s names live watchers)
sockets_published s p names live watchers h table named lived =
    other_publications s names live watchers h table (λ test. ap (λ (ps : List Publication). count_by test (filter (is_of s.own) ps)) named ∙ put_live s.own p s.names s.live h.live test ∙ ap (λ (ps : List Publication). count_by test ps) (sym lived))

-- no more are kept than there were
pub fewer_kept : {A : Type 0} (kept : A → Bool) (xs : List A) → length (filter kept xs) ≤ length xs
fewer_kept kept [] = omega arith
fewer_kept kept (x ∷ xs) = by (kept x) (fewer_kept kept xs)
  where
    by : (b : Bool) → length (filter kept xs) ≤ length xs → length (cond b (x ∷ filter kept xs) (filter kept xs)) ≤ length (x ∷ xs)
    by true later = omega (arith, later)
    by false later = omega (arith, later)

-- so many places are enough for those that are kept
pub fewer_left : (kept : Publication → Bool) (names : List Publication) (places : ℕ) → length names ≤ places → length (filter kept names) ≤ places
fewer_left kept names places enough = let fewer = fewer_kept kept names in omega (arith, fewer, enough)

pub sockets_kept : (s : SocketTable) (kept : Publication → Bool) (names live : List Publication) (watchers : Watchers) → AreSockets s → IsTable names
    → names ≡ filter kept s.names → live ≡ filter kept s.live → AreSockets (with_publications s names live watchers)
sockets_kept s kept names live watchers h table named lived =
    other_publications s names live watchers h table (λ test. ap (λ (ps : List Publication). count_by test (filter (is_of s.own) ps)) named ∙ kept_live s.own kept s.names s.live h.live test ∙ ap (λ (ps : List Publication). count_by test ps) (sym lived))

pub same_publications : (s : SocketTable) (names live : List Publication) (watchers : Watchers) → AreSockets s → IsTable names
    → names ≡ s.names → live ≡ s.live → AreSockets (with_publications s names live watchers)
same_publications s names live watchers h table named lived =
    other_publications s names live watchers h table (λ test. ap (λ (ps : List Publication). count_by test (filter (is_of s.own) ps)) named ∙ h.live test ∙ ap (λ (ps : List Publication). count_by test ps) (sym lived))

-- other subscriptions
pub other_watchers : (s : SocketTable) (watchers : Watchers) → AreSockets s → AreSockets (with_watchers s watchers)
other_watchers s watchers h = record { node = h.node; present = h.present; queues = h.queues; names = h.names; live = h.live }

-- ---- a socket more

others_apart : (port most : ℕ) (queues : List (ℕ × List Message)) → AllByRecursion (λ k. k ≤ most) (keys_of queues) → most < port → AllByRecursion (λ q. nat_eq port q.0 ≡ false) queues
others_apart port most [] h above = tt
others_apart port most (q ∷ qs) h above =
    let other : nat_eq port q.0 ≡ false = elim (eqb_tells port q.0) as (λ _. nat_eq port q.0 ≡ false) [ inl p ↦ absurd (omega (arith, p.1, h.0, above)) | inr p ↦ p.0 ] in
    (other, others_apart port most qs h.1 above)

-- a port that is made has no queue yet
pub new_port_absent : (s : SocketTable) (port : ℕ) → AreSockets s → port ≡ port_number s.ports.boot (s.ports.made + 1) → lookup (nat_eq port) s.queues ≡ None
new_port_absent s port h is =
    lookup-none (nat_eq port) s.queues
    (others_apart port (port_number s.ports.boot s.ports.made) s.queues (recursion_from_All _ (keys_of s.queues) (subst (λ (ks : List ℕ). All (λ k. k ≤ port_number s.ports.boot s.ports.made) ks) (sym h.queues) h.present.below)) (omega (arith, is)))

pub sockets_made : (s : SocketTable) (port : ℕ) → AreSockets s → port ≡ port_number s.ports.boot (s.ports.made + 1) → AreSockets (with_socket s port)
sockets_made s port h is = record {
  node = h.node;
  present = present_new s.ports.boot s.ports.made port s.ports.present h.present is;
  queues = map-append (λ (q : ℕ × List Message). q.0) s.queues ((port, []) ∷ []) ∙ ap (λ (ks : List ℕ). ks ++ port ∷ []) h.queues;
  names = h.names;
  live = h.live;
}

-- ---- a socket less

-- a port with a queue is there
pub queue_there : (port : ℕ) (queues : List (ℕ × List Message)) → is_some (lookup (nat_eq port) queues) ≡ list_any (nat_eq port) (keys_of queues)
queue_there port [] = refl
queue_there port (q ∷ qs) = by (nat_eq port q.0) (queue_there port qs)
  where
    by : (b : Bool) → is_some (lookup (nat_eq port) qs) ≡ list_any (nat_eq port) (keys_of qs) → is_some (cond b (Some q.1) (lookup (nat_eq port) qs)) ≡ (b || list_any (nat_eq port) (keys_of qs))
    by true later = refl
    by false later = later

pub port_there : (s : SocketTable) (port : ℕ) → AreSockets s → is_some (lookup (nat_eq port) s.queues) ≡ true → Contains s.ports.present port
port_there s port h e = subst (λ (ks : List ℕ). Contains ks port) h.queues (found_there port (keys_of s.queues) (sym (queue_there port s.queues) ∙ e))

pub sockets_closed : (s : SocketTable) (port : ℕ) → AreSockets s → AreSockets (closed s port)
sockets_closed s port h = record {
  node = h.node;
  present = present_without s.ports.boot s.ports.made port s.ports.present h.present;
  queues = keys-shift_remove_entry (nat_eq port) s.queues ∙ ap (λ (ks : List ℕ). remove_key (nat_eq port) ks) h.queues ∙ port_removed s.ports.boot s.ports.made port s.ports.present h.present;
  names = table_kept (λ p. not (is_of s.own p && is_at port p)) s.names h.names;
  live = port_live s.own port s.names s.live h.live;
}

-- ---- names that are taken out, whether one was found or not

pub taken_out : (node key : ℕ) {E : Type 0} (r : Result Publication E) (old new : List Publication)
    → OnOk r (new ≡ without node key old) → OnErr r (find (is_named node key) old ≡ None) → OnErr r (new ≡ old) → new ≡ without node key old
taken_out node key (Ok p) old new after none same = after
taken_out node key (Err e) old new after none same = same ∙ sym (filter_none (is_named node key) old (found_none (is_named node key) old none))

pub eq_itself : (n : ℕ) → nat_eq n n ≡ true
eq_itself n = elim (eqb_tells n n) as (λ _. nat_eq n n ≡ true) [ inl p ↦ p.0 | inr p ↦ absurd (p.1 refl) ]

-- a name that was put in and is taken out again leaves the others
pub put_back : (p : Publication) (names : List Publication) → IsTable names → list_any (is_named p.at.node.word p.key) names ≡ false → without p.at.node.word p.key (put p names) ≡ names
put_back p names h none =
    let itself : is_named p.at.node.word p.key p ≡ true = rw (eq_itself p.at.node.word) (eq_itself p.key) in
    filter-put (λ q. not (is_named p.at.node.word p.key q)) p names h.ordered
    ∙ ap (λ (b : Bool). if not b then put p (without p.at.node.word p.key names) else without p.at.node.word p.key names) itself
    ∙ filter_none (is_named p.at.node.word p.key) names none

-- ---- the live ones tell what the names hold

pub no_live_key : (s : SocketTable) (key : ℕ) → AreSockets s → list_any (has_key key) s.live ≡ false → list_any (is_named s.own key) s.names ≡ false
no_live_key s key h none =
    counts_none (is_named s.own key) s.names
    (sym (own_count s.own (has_key key) s.names) ∙ h.live (has_key key) ∙ none_counts (has_key key) s.live none)

pub and_right : (a b : Bool) → a && b ≡ true → b ≡ true
and_right true b e = e
and_right false b e = absurd (true≢false (sym e))

pub too_many : (n : ℕ) → nat_le 1024 n ≡ false → 1024 ≤ n → ⊥
too_many n few many = omega (arith, leb-false 1024 n few, many)

pub not_true : (b : Bool) → (b ≡ true → ⊥) → b ≡ false
not_true true e = absurd (e refl)
not_true false e = refl

pub ok_is_no_err : {A E : Type 0} (x : A) (e : E) → ◌≡◌ {A = Result A E} (Ok x) (Err e) → ⊥
ok_is_no_err x e same = true≢false (ap is_ok same)

-- what isn't refused has a new key, and there is room
pub not_refused : (s : SocketTable) (port kind key : ℕ) → publish_refusal s port kind key ≡ None → (list_any (has_key key) s.live ≡ false) × (nat_le 1024 (length s.live) ≡ false)
not_refused s port kind key e = by (has_port s port) (nat_lt kind 64) (list_any (has_key key) s.live) (nat_le 1024 (length s.live)) e
  where
    by : (there low held full : Bool) → (if not there then Some refused.NoSocket else (if low then Some refused.Reserved else (if held then Some (refused.Duplicate key) else (if full then Some refused.Full else None)))) ≡ None → (held ≡ false) × (full ≡ false)
    by false low held full e = absurd cc
    by true true held full e = absurd cc
    by true false true full e = absurd cc
    by true false false true e = absurd cc
    by true false false false e = (refl, refl)

pub and_true : (b : Bool) → b && true ≡ b
and_true true = refl
and_true false = refl

pub own_names_count : (s : SocketTable) → AreSockets s → count_by (is_of s.own) s.names ≡ length s.live
own_names_count s h =
    count_by-agree (is_of s.own) (λ p. is_of s.own p && true) (λ p. sym (and_true (is_of s.own p))) s.names
    ∙ sym (own_count s.own (λ p. true) s.names) ∙ h.live (λ p. true) ∙ count_by-all s.live

-- a key that is live is that of an own name
pub live_key_named : (s : SocketTable) (key : ℕ) → AreSockets s → list_any (has_key key) s.live ≡ true → list_any (is_named s.own key) s.names ≡ true
live_key_named s key h some = by (list_any (is_named s.own key) s.names) refl
  where
    by : (b : Bool) → list_any (is_named s.own key) s.names ≡ b → list_any (is_named s.own key) s.names ≡ true
    by true e = e
    by false none =
        let counts = own_count s.own (has_key key) s.names in
        let same = h.live (has_key key) in
        let zero = none_counts (is_named s.own key) s.names none in
        let one = some_counts (has_key key) s.live some in
        absurd (omega (arith, counts, same, zero, one))

-- a publication that is live is found among the names by its key
pub live_key_found : (s : SocketTable) (port key : ℕ) (p : Publication) → AreSockets s → published_at s port key ≡ Some p → find (is_named s.own key) s.names ≡ None → ⊥
live_key_found s port key p h live none =
    true≢false (sym (live_key_named s key h (some_key s.live live)) ∙ found_none (is_named s.own key) s.names none)
  where
    some_key : (ps : List Publication) → find (λ q. is_at port q && has_key key q) ps ≡ Some p → list_any (has_key key) ps ≡ true
    some_key [] e = absurd cc
    some_key (q ∷ qs) e = by (is_at port q) (has_key key q) e (some_key qs)
      where
        by : (a b : Bool) → cond (a && b) (Some q) (find (λ r. is_at port r && has_key key r) qs) ≡ Some p
            → (find (λ r. is_at port r && has_key key r) qs ≡ Some p → list_any (has_key key) qs ≡ true) → b || list_any (has_key key) qs ≡ true
        by a true e later = refl
        by true false e later = later e
        by false false e later = later e
