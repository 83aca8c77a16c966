-- A port is closed: what is withdrawn by the keys that are live there is what is of the node and at the port.
use Rattle.std.proofs.Common.{◌≡◌, inl, inr, ℕ, ◌+◌, ◌≤◌, Bool, true, false, not, cond, ◌&&◌, ◌||◌, List, [], ◌∷◌, ◌++◌, Option, None, Some, append_assoc, filter, fold, map, refl, sym, ap, subst, ◌∙◌, true≢false, eqb-true, arith}
use Rattle.std.specs.Prelude.{count_by, find, nat_eq, option_to_list}
use Rattle.std.specs.List.{list_any}
use Rattle.std.proofs.lemmas.Bool.Decides.{eqb_tells}
use Rattle.std.proofs.lemmas.List.{append-nil}
use Rattle.std.proofs.lemmas.List.Elements.{filter-append, filter_agree}
use Rattle.std.proofs.lemmas.List.Folds.{list_any-append}
use Rattle.std.proofs.lemmas.List.Sums.{fold-append}
use Rattle.std.proofs.lemmas.Map.Views.{any-filter_same}
use Rattle.tipc_types.specs.declared.services.Publication.{Publication}
use Rattle.tipc_types.specs.Watching.{is_same_name}
use Rattle.tipc_types.specs.Tables.{is_named, is_of, without, IsTable}
use Rattle.tipc_topology.specs.Changing.{with_kept, with_loss, Watchers}
use Rattle.tipc_topology.specs.Transitions.{left_by, AreRemovable}
use Rattle.tipc_topology.specs.Watchers.{removed, Watcher}
use Rattle.tipc_topology.proofs.Removable.{part_removable, AreNamed, IsPart}
use Rattle.tipc_sockets.specs.Publishing.{closed, has_key, is_at, is_key_at, published_at, withdrawn, withdrawn_each}
use Rattle.tipc_sockets.specs.SocketTables.{with_publications, AreSockets, SocketTable}
use Rattle.tipc_sockets.proofs.Counting.{count_by-agree, count_by-append, count_by-filter, counted, counts_none, filter-filter, filter_all, none_counts, some_counts}
use Rattle.tipc_name_table.proofs.TableLaws.{table_kept}
use Rattle.tipc_sockets.proofs.Keeping.{and_true, eq_itself, own_count, sockets_kept}

-- ---- key by key

-- the names without the own ones that have the key of one of these at the port
abbrev pub names_left : ℕ → ℕ → List Publication → List Publication → List Publication
names_left own port live names = filter (λ p. not (is_of own p && is_key_at port live p)) names

pub and_false : (a : Bool) → a && false ≡ false
and_false true = refl
and_false false = refl

pub left_first : (own port : ℕ) (names : List Publication) → names_left own port [] names ≡ names
left_first own port names = filter_agree (λ p. not (is_of own p && false)) (λ p. true) (λ p. ap not (and_false (is_of own p))) names ∙ filter_all names

or_last : (a b : Bool) → (a || (b || false)) ≡ (a || b)
or_last true b = refl
or_last false true = refl
or_last false false = refl

one_key_more : (port : ℕ) (q : Publication) (live : List Publication) (p : Publication) → is_key_at port (live ++ q ∷ []) p ≡ (is_key_at port live p || (is_at port q && has_key q.key p))
one_key_more port q live p =
    list_any-append (λ r. is_at port r && has_key r.key p) live (q ∷ []) ∙ or_last (is_key_at port live p) (is_at port q && has_key q.key p)

left_here : (a b c : Bool) → not (a && b) && not (a && c) ≡ not (a && (b || c))
left_here true true c = refl
left_here true false c = refl
left_here false b c = refl

pub or_false : (a : Bool) → (a || false) ≡ a
or_false true = refl
or_false false = refl

-- one at the port: the own name of its key is withdrawn
pub left_at_port : (own port : ℕ) (q : Publication) (live names : List Publication) → is_at port q ≡ true
    → without own q.key (names_left own port live names) ≡ names_left own port (live ++ q ∷ []) names
left_at_port own port q live names here =
    filter-filter (λ p. not (is_of own p && is_key_at port live p)) (λ p. not (is_named own q.key p)) names
    ∙ filter_agree _ _
    (λ p. left_here (is_of own p) (is_key_at port live p) (has_key q.key p)
    ∙ ap (λ (b : Bool). not (is_of own p && (is_key_at port live p || (b && has_key q.key p)))) (sym here)
    ∙ ap (λ (b : Bool). not (is_of own p && b)) (sym (one_key_more port q live p))) names

-- one at another port: nothing is
pub left_elsewhere : (own port : ℕ) (q : Publication) (live names : List Publication) → is_at port q ≡ false
    → names_left own port live names ≡ names_left own port (live ++ q ∷ []) names
left_elsewhere own port q live names other =
    filter_agree _ _
    (λ p. ap (λ (b : Bool). not (is_of own p && b)) (sym (or_false (is_key_at port live p)))
    ∙ ap (λ (b : Bool). not (is_of own p && (is_key_at port live p || (b && has_key q.key p)))) (sym other)
    ∙ ap (λ (b : Bool). not (is_of own p && b)) (sym (one_key_more port q live p))) names

pub at_the_port : (port : ℕ) (q : Publication) → q.at.port ≡ port → is_at port q ≡ true
at_the_port port q e = ap (λ (n : ℕ). nat_eq n port) e ∙ eq_itself port

pub at_another : (port : ℕ) (q : Publication) → (q.at.port ≡ port → ⊥) → is_at port q ≡ false
at_another port q apart = elim (eqb_tells q.at.port port) as (λ _. is_at port q ≡ false) [ inl p ↦ absurd (apart p.1) | inr p ↦ p.0 ]

-- ---- all keys

-- two tests that agree at each place keep the same
agree_behind : (f g : Publication → Bool) (before after : List Publication)
    → ((front rest : List Publication) (p : Publication) → before ++ after ≡ front ++ p ∷ rest → f p ≡ g p) → filter f after ≡ filter g after
agree_behind f g before [] same = refl
agree_behind f g before (p ∷ rest) same =
    let here : f p ≡ g p = same before rest p refl in
    let later = agree_behind f g (before ++ p ∷ []) rest (λ front behind q e. same front behind q (sym (append_assoc before (p ∷ []) rest) ∙ e)) in
    (λ i. cond (here i) (p ∷ later i) (later i))

count_two : (f g h : Publication → Bool) → ((p : Publication) → cond (f p) 1 0 + cond (g p) 1 0 ≤ cond {A = ℕ} (h p) 1 0) → (ps : List Publication) → count_by f ps + count_by g ps ≤ count_by h ps
count_two f g h each [] = omega arith
count_two f g h each (p ∷ ps) = omega (arith, counted f p ps, counted g p ps, counted h p ps, each p, count_two f g h each ps)

count_here : (test : Publication → Bool) (front rest : List Publication) (p : Publication) → test p ≡ true → 1 ≤ count_by test (front ++ p ∷ rest)
count_here test front rest p e =
    let one : cond {A = ℕ} (test p) 1 0 ≡ 1 = ap (λ (b : Bool). cond {A = ℕ} b 1 0) e in
    omega (arith, count_by-append test front (p ∷ rest), counted test p rest, one)

apart_or_not : (own at key : Bool) → cond (own && (at && key)) 1 0 + cond (own && (key && not at)) 1 0 ≤ cond {A = ℕ} (own && key) 1 0
apart_or_not false at key = omega arith
apart_or_not true true true = omega arith
apart_or_not true true false = omega arith
apart_or_not true false true = omega arith
apart_or_not true false false = omega arith

pub eq_turned : (a b : ℕ) → nat_eq a b ≡ nat_eq b a
eq_turned a b = elim (eqb_tells a b) as (λ _. nat_eq a b ≡ nat_eq b a) [ inl p ↦ ap (λ (n : ℕ). nat_eq a n) (sym p.1) ∙ ap (λ (n : ℕ). nat_eq n a) p.1 | inr p ↦ p.0 ∙ other (nat_eq b a) refl p.1 ]
  where
    other : (r : Bool) → nat_eq b a ≡ r → (a ≡ b → ⊥) → false ≡ nat_eq b a
    other true e apart = absurd (apart (sym (eqb-true b a e)))
    other false e apart = sym e

module _ (own port : ℕ) (names live : List Publication) (same : (test : Publication → Bool) → count_by test (filter (is_of own) names) ≡ count_by test live)
    (once : (key : ℕ) → count_by (is_named own key) names ≤ 1) where
  -- the own names that have a key and are at the port are as many as the live ones
  key_count : (key : ℕ) → count_by (λ q. is_of own q && (is_at port q && nat_eq key q.key)) names ≡ count_by (λ q. is_at port q && nat_eq key q.key) live
  key_count key = sym (own_count own (λ q. is_at port q && nat_eq key q.key) names) ∙ same (λ q. is_at port q && nat_eq key q.key)

  -- an own name at the port has its key among the live ones there
  key_live : (front rest : List Publication) (p : Publication) → names ≡ front ++ p ∷ rest → is_of own p ≡ true → is_at port p ≡ true → is_key_at port live p ≡ false → ⊥
  key_live front rest p e mine here found =
      let passes : is_of own p && (is_at port p && nat_eq p.key p.key) ≡ true = rw (mine, here) (eq_itself p.key) in
      let some = count_here (λ q. is_of own q && (is_at port q && nat_eq p.key q.key)) front rest p passes in
      let all = ap (λ (ps : List Publication). count_by (λ q. is_of own q && (is_at port q && nat_eq p.key q.key)) ps) e in
      omega (arith, some, all, key_count p.key, none_counts (λ q. is_at port q && nat_eq p.key q.key) live found)

  -- an own name elsewhere hasn't: no second own name has its key
  key_apart : (front rest : List Publication) (p : Publication) → names ≡ front ++ p ∷ rest → is_of own p ≡ true → is_at port p ≡ false → is_key_at port live p ≡ true → ⊥
  key_apart front rest p e mine here found =
      let passes : is_of own p && (nat_eq p.key p.key && not (is_at port p)) ≡ true = rw (mine, here, eq_itself p.key) refl in
      let some = count_here (λ q. is_of own q && (nat_eq p.key q.key && not (is_at port q))) front rest p passes in
      let all = ap (λ (ps : List Publication). count_by (λ q. is_of own q && (nat_eq p.key q.key && not (is_at port q))) ps) e in
      let two = count_two (λ q. is_of own q && (is_at port q && nat_eq p.key q.key)) (λ q. is_of own q && (nat_eq p.key q.key && not (is_at port q))) (is_named own p.key) (λ q. subst (λ (b : Bool). cond (is_of own q && (is_at port q && nat_eq p.key q.key)) 1 0 + cond (is_of own q && (nat_eq p.key q.key && not (is_at port q))) 1 0 ≤ cond {A = ℕ} (is_of own q && b) 1 0) (eq_turned p.key q.key) (apart_or_not (is_of own q) (is_at port q) (nat_eq p.key q.key))) names in
      omega (arith, some, all, two, once p.key, key_count p.key, some_counts (λ q. is_at port q && nat_eq p.key q.key) live found)

  key_tells : (front rest : List Publication) (p : Publication) → names ≡ front ++ p ∷ rest → is_of own p ≡ true → is_key_at port live p ≡ is_at port p
  key_tells front rest p e mine = by (is_at port p) refl (is_key_at port live p) refl
    where
      by : (here : Bool) → is_at port p ≡ here → (found : Bool) → is_key_at port live p ≡ found → found ≡ here
      by true here true found = refl
      by false here false found = refl
      by true here false found = absurd (key_live front rest p e mine here found)
      by false here true found = absurd (key_apart front rest p e mine here found)

  left_by_key : names_left own port live names ≡ filter (λ p. not (is_of own p && is_at port p)) names
  left_by_key = agree_behind _ _ [] names (λ front rest p e. by front rest p e (is_of own p) refl)
    where
      by : (front rest : List Publication) (p : Publication) → names ≡ front ++ p ∷ rest → (mine : Bool) → is_of own p ≡ mine → not (mine && is_key_at port live p) ≡ not (mine && is_at port p)
      by front rest p e true mine = ap not (key_tells front rest p e mine)
      by front rest p e false mine = refl

pub left_at_last : (s : SocketTable) → AreSockets s → (port : ℕ) → names_left s.own port s.live s.names ≡ filter (λ p. not (is_of s.own p && is_at port p)) s.names
left_at_last s h port = left_by_key s.own port s.names s.live h.live (h.names.named s.own)

-- ---- one withdrawal after the other

twice_own : (a b : Bool) → a && (a && b) ≡ a && b
twice_own true b = refl
twice_own false b = refl

-- the live publications are own ones
live_count : (s : SocketTable) → AreSockets s → (test : Publication → Bool) → count_by test (filter (is_of s.own) s.live) ≡ count_by test s.live
live_count s h test =
    own_count s.own test s.live
    ∙ sym (h.live (λ p. is_of s.own p && test p))
    ∙ own_count s.own (λ p. is_of s.own p && test p) s.names
    ∙ count_by-agree (λ p. is_of s.own p && (is_of s.own p && test p)) (λ p. is_of s.own p && test p) (λ p. twice_own (is_of s.own p) (test p)) s.names
    ∙ sym (own_count s.own test s.names)
    ∙ h.live test

live_once : (s : SocketTable) → AreSockets s → (key : ℕ) → count_by (is_named s.own key) s.live ≤ 1
live_once s h key =
    omega (arith, h.names.named s.own key, own_count s.own (has_key key) s.live, live_count s h (has_key key), h.live (has_key key), own_count s.own (has_key key) s.names)

apart_from_own : (a b : Bool) → a && not a ≡ b && false
apart_from_own true b = sym (and_false b)
apart_from_own false b = sym (and_false b)

-- none of them is of another node
live_of_own : (s : SocketTable) → AreSockets s → list_any (λ p. not (is_of s.own p)) s.live ≡ false
live_of_own s h =
    counts_none (λ p. not (is_of s.own p)) s.live
    (sym (h.live (λ p. not (is_of s.own p))) ∙ own_count s.own (λ p. not (is_of s.own p)) s.names ∙ none_counts _ s.names (none_both s.own s.names))
  where
    none_both : (own : ℕ) (ps : List Publication) → list_any (λ p. is_of own p && not (is_of own p)) ps ≡ false
    none_both own [] = refl
    none_both own (p ∷ ps) = ap (λ (b : Bool). b || list_any (λ q. is_of own q && not (is_of own q)) ps) (apart_from_own (is_of own p) true) ∙ none_both own ps

filter_of_own : (own : ℕ) (test : Publication → Bool) (ps : List Publication) → list_any (λ p. not (is_of own p)) ps ≡ false → filter (λ p. not (is_of own p && test p)) ps ≡ filter (λ p. not (test p)) ps
filter_of_own own test [] all = refl
filter_of_own own test (p ∷ ps) all = by (is_of own p) all (filter_of_own own test ps)
  where
    by : (mine : Bool) → not mine || list_any (λ q. not (is_of own q)) ps ≡ false → (list_any (λ q. not (is_of own q)) ps ≡ false → filter (λ q. not (is_of own q && test q)) ps ≡ filter (λ q. not (test q)) ps)
        → cond (not (mine && test p)) (p ∷ filter (λ q. not (is_of own q && test q)) ps) (filter (λ q. not (is_of own q && test q)) ps) ≡ cond (not (test p)) (p ∷ filter (λ q. not (test q)) ps) (filter (λ q. not (test q)) ps)
    by true rest later = ap (λ (qs : List Publication). cond (not (test p)) (p ∷ qs) qs) (later rest)
    by false rest later = absurd (true≢false rest)

pub and_turned : (a b : Bool) → a && b ≡ b && a
and_turned true true = refl
and_turned true false = refl
and_turned false true = refl
and_turned false false = refl

pub list_any_filtered : {X : Type 0} (test kept : X → Bool) (xs : List X) → list_any test (filter kept xs) ≡ list_any (λ x. test x && kept x) xs
list_any_filtered test kept [] = refl
list_any_filtered test kept (x ∷ xs) = by (kept x) (list_any_filtered test kept xs)
  where
    by : (b : Bool) → list_any test (filter kept xs) ≡ list_any (λ y. test y && kept y) xs → list_any test (cond b (x ∷ filter kept xs) (filter kept xs)) ≡ ((test x && b) || list_any (λ y. test y && kept y) xs)
    by true later = (λ i. sym (and_true (test x)) i || later i)
    by false later = later ∙ ap (λ (b : Bool). b || list_any (λ y. test y && kept y) xs) (sym (and_false (test x)))

pub or_parts : (a b : Bool) → a || b ≡ false → (a ≡ false) × (b ≡ false)
or_parts true b e = absurd (true≢false e)
or_parts false b e = (refl, e)

-- those that have the key of none of these
abbrev pub left_of : ℕ → List Publication → List Publication → List Publication
left_of own ps qs = filter (λ q. not (is_of own q && list_any (λ p. has_key p.key q) ps)) qs

left_more : (own : ℕ) (p : Publication) (ps qs : List Publication) → is_of own p ≡ true → left_of own ps (without p.at.node.word p.key qs) ≡ left_of own (p ∷ ps) qs
left_more own p ps qs mine =
    ap (λ (n : ℕ). left_of own ps (without n p.key qs)) (eqb-true p.at.node.word own mine)
    ∙ filter-filter (λ q. not (is_named own p.key q)) (λ q. not (is_of own q && list_any (λ r. has_key r.key q) ps)) qs
    ∙ filter_agree _ _ (λ q. left_here (is_of own q) (has_key p.key q) (list_any (λ r. has_key r.key q) ps)) qs

withdrawn_all : (s : SocketTable) (ps : List Publication) → list_any (λ p. not (is_of s.own p)) ps ≡ false
    → withdrawn_each s ps ≡ with_publications s (left_of s.own ps s.names) (left_of s.own ps s.live) (withdrawn_each s ps).watchers
withdrawn_all s [] all = (λ i. with_publications s (sym (none s.names) i) (sym (none s.live) i) s.watchers)
  where
    none : (qs : List Publication) → left_of s.own [] qs ≡ qs
    none qs = filter_agree (λ q. not (is_of s.own q && false)) (λ q. true) (λ q. ap not (and_false (is_of s.own q))) qs ∙ filter_all qs
withdrawn_all s (p ∷ ps) all = by (is_of s.own p) refl all (withdrawn_all (withdrawn s p.at.node.word p.key) ps)
  where
    by : (mine : Bool) → is_of s.own p ≡ mine → not mine || list_any (λ q. not (is_of s.own q)) ps ≡ false
        → (list_any (λ q. not (is_of s.own q)) ps ≡ false → withdrawn_each (withdrawn s p.at.node.word p.key) ps ≡ with_publications s (left_of s.own ps (without p.at.node.word p.key s.names)) (left_of s.own ps (without p.at.node.word p.key s.live)) (withdrawn_each s (p ∷ ps)).watchers)
        → withdrawn_each (withdrawn s p.at.node.word p.key) ps ≡ with_publications s (left_of s.own (p ∷ ps) s.names) (left_of s.own (p ∷ ps) s.live) (withdrawn_each s (p ∷ ps)).watchers
    by true mine rest later =
        later rest
        ∙ (λ i. with_publications s (left_more s.own p ps s.names mine i) (left_more s.own p ps s.live mine i) (withdrawn_each s (p ∷ ps)).watchers)
    by false mine rest later = absurd (true≢false rest)

none_filtered : (test kept : Publication → Bool) (ps : List Publication) → list_any test ps ≡ false → list_any test (filter kept ps) ≡ false
none_filtered test kept [] none = refl
none_filtered test kept (p ∷ ps) none =
    let parts = or_parts (test p) (list_any test ps) none in
    by (kept p) parts.0 (none_filtered test kept ps parts.1)
  where
    by : (k : Bool) → test p ≡ false → list_any test (filter kept ps) ≡ false → list_any test (cond k (p ∷ filter kept ps) (filter kept ps)) ≡ false
    by true here later = ap (λ (b : Bool). b || list_any test (filter kept ps)) here ∙ later
    by false here later = later

and_itself : (a : Bool) → a && a ≡ a
and_itself true = refl
and_itself false = refl

-- ---- what subscribers are told

pub no_loss : (t : Watchers) → with_loss [] t ≡ t
no_loss t = ap (λ (ws : List Watcher). with_kept t ws) (same t.kept)
  where
    same : (ws : List Watcher) → map (λ (w : Watcher). w) ws ≡ ws
    same [] = refl
    same (w ∷ ws) = ap (λ (vs : List Watcher). w ∷ vs) (same ws)

-- what is lost in two parts is lost at once
pub loss_parts : (ps qs : List Publication) (t : Watchers) → with_loss qs (with_loss ps t) ≡ with_loss (ps ++ qs) t
loss_parts ps qs t = ap (λ (ws : List Watcher). with_kept t ws) (joined t.kept)
  where
    joined : (ws : List Watcher) → map (λ (w : Watcher). fold removed w qs) (map (λ (w : Watcher). fold removed w ps) ws) ≡ map (λ (w : Watcher). fold removed w (ps ++ qs)) ws
    joined [] = refl
    joined (w ∷ ws) = (λ i. sym (fold-append removed w ps qs) i ∷ joined ws i)

-- one more that is lost where it is at the port
pub loss_here : (port : ℕ) (q : Publication) (ps : List Publication) (t : Watchers) → is_at port q ≡ true
    → with_loss (q ∷ []) (with_loss (filter (is_at port) ps) t) ≡ with_loss (filter (is_at port) (ps ++ q ∷ [])) t
loss_here port q ps t here =
    loss_parts (filter (is_at port) ps) (q ∷ []) t
    ∙ ap (λ (rs : List Publication). with_loss rs t)
    (sym (filter-append (is_at port) ps (q ∷ []) ∙ ap (λ (b : Bool). filter (is_at port) ps ++ cond b (q ∷ []) []) here))

-- and one that isn't
pub loss_elsewhere : (port : ℕ) (q : Publication) (ps : List Publication) (t : Watchers) → is_at port q ≡ false
    → with_loss (filter (is_at port) ps) t ≡ with_loss (filter (is_at port) (ps ++ q ∷ [])) t
loss_elsewhere port q ps t other =
    ap (λ (rs : List Publication). with_loss rs t)
    (sym (filter-append (is_at port) ps (q ∷ []) ∙ ap (λ (b : Bool). filter (is_at port) ps ++ cond b (q ∷ []) []) other ∙ append-nil (filter (is_at port) ps)))

same_name : (p q : Publication) → is_same_name p q ≡ is_named p.at.node.word p.key q
same_name p q = (λ i. eq_turned p.at.node.word q.at.node.word i && eq_turned p.key q.key i)

pub only_named : (p : Publication) (ps : List Publication) → filter (is_same_name p) ps ≡ filter (is_named p.at.node.word p.key) ps
only_named p ps = filter_agree (is_same_name p) (is_named p.at.node.word p.key) (same_name p) ps

pub left_named : (p : Publication) (ps : List Publication) → left_by ps p ≡ without p.at.node.word p.key ps
left_named p ps = filter_agree (λ q. not (is_same_name p q)) (λ q. not (is_named p.at.node.word p.key q)) (λ q. ap not (same_name p q)) ps

-- node and key name one of a table
pub names_once : (ps : List Publication) → IsTable ps → AreNamed ps
names_once ps h p = subst (λ (n : ℕ). n ≤ 1) (sym (count_by-agree (is_same_name p) (is_named p.at.node.word p.key) (same_name p) ps)) (h.named p.at.node.word p.key)

-- where each is there, they are lost one after another
withdrawn_told : (s : SocketTable) (ps : List Publication) → AreRemovable s.names ps → (withdrawn_each s ps).watchers ≡ with_loss ps s.watchers
withdrawn_told s [] may = sym (no_loss s.watchers)
withdrawn_told s (p ∷ ps) may =
    let one : (withdrawn s p.at.node.word p.key).watchers ≡ with_loss (p ∷ []) s.watchers =
    ap (λ (qs : List Publication). with_loss qs s.watchers) (sym (only_named p s.names) ∙ may.0) in
    withdrawn_told (withdrawn s p.at.node.word p.key) ps (subst (λ (qs : List Publication). AreRemovable qs ps) (left_named p s.names) may.1)
    ∙ ap (λ (t : Watchers). with_loss ps t) one
    ∙ loss_parts (p ∷ []) ps s.watchers

-- the live ones at a port are some of the names
port_part : (s : SocketTable) → AreSockets s → (port : ℕ) → IsPart (filter (is_at port) s.live) s.names
port_part s h port test =
    let live = count_by-filter test (is_at port) s.live in
    let same = h.live (λ p. is_at port p && test p) in
    let own = own_count s.own (λ p. is_at port p && test p) s.names in
    let fewer = passing s.names in
    omega (arith, live, same, own, fewer)
  where
    each : (a b c : Bool) → cond {A = ℕ} (a && (b && c)) 1 0 ≤ cond {A = ℕ} c 1 0
    each true true c = omega arith
    each true false c = omega arith
    each false b c = omega arith

    passing : (ps : List Publication) → count_by (λ p. is_of s.own p && (is_at port p && test p)) ps ≤ count_by test ps
    passing [] = omega arith
    passing (p ∷ ps) = omega (arith, counted (λ q. is_of s.own q && (is_at port q && test q)) p ps, counted test p ps, each (is_of s.own p) (is_at port p) (test p), passing ps)

-- ---- which can be withdrawn one after another

only_found : {A : Type 0} (test : A → Bool) (xs : List A) (x : A) → filter test xs ≡ x ∷ [] → find test xs ≡ Some x
only_found test [] x only = absurd cc
only_found {A} test (y ∷ ys) x only = by (test y) only (only_found test ys x)
  where
    by : (b : Bool) → cond b (y ∷ filter test ys) (filter test ys) ≡ x ∷ [] → (filter test ys ≡ x ∷ [] → find test ys ≡ Some x) → cond b (Some y) (find test ys) ≡ Some x
    by true is later = (let same : y ≡ x = cc in ap (λ (z : A). Some z) same)
    by false is later = later is

-- the first that can be withdrawn is found by its key, and then the others can be
pub removable_found : (p : Publication) (ps there : List Publication) → AreRemovable there (p ∷ ps) → find (is_named p.at.node.word p.key) there ≡ Some p
removable_found p ps there may = only_found (is_named p.at.node.word p.key) there p (sym (only_named p there) ∙ may.0)

pub removable_rest : (p : Publication) (ps there : List Publication) → AreRemovable there (p ∷ ps) → AreRemovable (without p.at.node.word p.key there) ps
removable_rest p ps there may = subst (λ (qs : List Publication). AreRemovable qs ps) (left_named p there) may.1

-- those at a port can be
pub closing_removable : (s : SocketTable) → AreSockets s → (port : ℕ) → AreRemovable s.names (filter (is_at port) s.live)
closing_removable s h port = part_removable (filter (is_at port) s.live) s.names (port_part s h port) (names_once s.names h.names)

found_part : (test : Publication → Bool) (p : Publication) (ps : List Publication) → find test ps ≡ Some p → (other : Publication → Bool) → count_by other (p ∷ []) ≤ count_by other ps
found_part test p [] found other = absurd cc
found_part test p (q ∷ qs) found other = by (test q) found (λ e. found_part test p qs e other)
  where
    by : (b : Bool) → cond b (Some q) (find test qs) ≡ Some p → (find test qs ≡ Some p → count_by other (p ∷ []) ≤ count_by other qs) → count_by other (p ∷ []) ≤ count_by other (q ∷ qs)
    by true is later =
        (let same : q ≡ p = cc in
        let one = counted other p [] in
        let all = counted other q qs in
        let alike = ap (λ (r : Publication). cond {A = ℕ} (other r) 1 0) same in
        omega (arith, one, all, alike))
    by false is later = let rest = later is in let all = counted other q qs in omega (arith, rest, all)

-- the publication of a key at a port can be
pub offer_removable : (s : SocketTable) → AreSockets s → (port key : ℕ) → AreRemovable s.names (option_to_list (published_at s port key))
offer_removable s h port key = by (published_at s port key) refl
  where
    live_part : (test : Publication → Bool) → count_by test s.live ≤ count_by test s.names
    live_part test = let same = h.live test in let own = own_count s.own test s.names in let fewer = passing test s.names in omega (arith, same, own, fewer)
      where
        each : (a b : Bool) → cond {A = ℕ} (a && b) 1 0 ≤ cond {A = ℕ} b 1 0
        each true b = omega arith
        each false b = omega arith

        passing : (other : Publication → Bool) (ps : List Publication) → count_by (λ p. is_of s.own p && other p) ps ≤ count_by other ps
        passing other [] = omega arith
        passing other (p ∷ ps) = omega (arith, counted (λ q. is_of s.own q && other q) p ps, counted other p ps, each (is_of s.own p) (other p), passing other ps)

    by : (o : Option Publication) → published_at s port key ≡ o → AreRemovable s.names (option_to_list o)
    by None is = tt
    by (Some p) is =
        part_removable (p ∷ []) s.names
        (λ test. let one = found_part (λ q. is_at port q && has_key key q) p s.live is test in let all = live_part test in omega (arith, one, all))
        (names_once s.names h.names)

module _ (s : SocketTable) (h : AreSockets s) (port : ℕ) where
  at_port : List Publication
  at_port = filter (is_at port) s.live

  left_at : (qs : List Publication) → left_of s.own at_port qs ≡ names_left s.own port s.live qs
  unfolding at_port
  left_at qs = filter_agree _ _ (λ q. ap (λ (b : Bool). not (is_of s.own q && b)) (list_any_filtered (λ p. has_key p.key q) (is_at port) s.live ∙ swapped q s.live)) qs
    where
      swapped : (q : Publication) (ps : List Publication) → list_any (λ p. has_key p.key q && is_at port p) ps ≡ is_key_at port ps q
      swapped q [] = refl
      swapped q (p ∷ ps) = (λ i. and_turned (has_key p.key q) (is_at port p) i || swapped q ps i)

  -- when those at the port are withdrawn, what is left is what closing it leaves
  withdrawn_at : withdrawn_each s (filter (is_at port) s.live) ≡ with_publications s (closed s port).names (closed s port).live (closed s port).watchers
  unfolding at_port
  withdrawn_at =
      withdrawn_all s at_port (none_filtered (λ p. not (is_of s.own p)) (is_at port) s.live (live_of_own s h))
      ∙ (λ i. with_publications s (named i) (lived i) (watched i))
    where
      watched : (withdrawn_each s at_port).watchers ≡ (closed s port).watchers
      watched = withdrawn_told s at_port (part_removable at_port s.names (port_part s h port) (names_once s.names h.names))

      named : left_of s.own at_port s.names ≡ (closed s port).names
      named = left_at s.names ∙ left_at_last s h port

      lived : left_of s.own at_port s.live ≡ (closed s port).live
      lived = left_at s.live ∙ left_by_key s.own port s.live s.live (live_count s h) (live_once s h) ∙ filter_of_own s.own (is_at port) s.live (live_of_own s h)

  pub withdrawn_then_closed : closed (withdrawn_each s (filter (is_at port) s.live)) port ≡ closed s port
  withdrawn_then_closed =
      ap (λ (t : SocketTable). closed t port) withdrawn_at
      ∙ (λ i. record {
        own = s.own;
        names = again (λ p. not (is_of s.own p && is_at port p)) s.names i;
        live = again (λ p. not (is_at port p)) s.live i;
        ports = (closed s port).ports;
        queues = (closed s port).queues;
        watchers = quiet i;
      })
    where
      quiet : with_loss (filter (is_at port) (filter (λ p. not (is_at port p)) s.live)) (closed s port).watchers ≡ (closed s port).watchers
      quiet = ap (λ (ps : List Publication). with_loss ps (closed s port).watchers) (none_again s.live) ∙ no_loss (closed s port).watchers
        where
          none_again : (ps : List Publication) → filter (is_at port) (filter (λ p. not (is_at port p)) ps) ≡ []
          none_again [] = refl
          none_again (p ∷ ps) = by (is_at port p) refl (none_again ps)
            where
              by : (b : Bool) → is_at port p ≡ b → filter (is_at port) (filter (λ q. not (is_at port q)) ps) ≡ []
                  → filter (is_at port) (cond (not b) (p ∷ filter (λ q. not (is_at port q)) ps) (filter (λ q. not (is_at port q)) ps)) ≡ []
              by true e later = later
              by false e later = ap (λ (b : Bool). cond b (p ∷ filter (is_at port) (filter (λ q. not (is_at port q)) ps)) (filter (is_at port) (filter (λ q. not (is_at port q)) ps))) e ∙ later

      again : (test : Publication → Bool) (ps : List Publication) → filter test (filter test ps) ≡ filter test ps
      again test ps = filter-filter test test ps ∙ filter_agree _ test (λ p. and_itself (test p)) ps

  pub none_left_at : list_any (is_at port) (withdrawn_each s (filter (is_at port) s.live)).live ≡ false
  none_left_at =
      ap (λ (t : SocketTable). list_any (is_at port) t.live) withdrawn_at ∙ any-filter_same (is_at port) (λ p. not (is_at port p)) false (λ p e. ap not e) s.live

pub sockets_withdrawn_each : (s : SocketTable) (ps : List Publication) → AreSockets s → AreSockets (withdrawn_each s ps)
sockets_withdrawn_each s [] h = h
sockets_withdrawn_each s (p ∷ ps) h =
    sockets_withdrawn_each (withdrawn s p.at.node.word p.key) ps
    (sockets_kept s (λ q. not (is_named p.at.node.word p.key q)) _ _ _ h (table_kept (λ q. not (is_named p.at.node.word p.key q)) s.names h.names) refl refl)
