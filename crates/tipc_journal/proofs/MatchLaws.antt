-- The table in order, behind one more entry; and look-ups in it.
use Rattle.std.specs.List.{AllByRecursion, cons_option, list_all, list_any}
use Rattle.std.specs.Prelude.{option_to_list, ◌||◌, ◌&&◌, ◌==◌, not, nat_eq}
use Rattle.std.specs.Cmp.{nat_cmp_total, unsigned_ties, IsTotalOrder}
use Rattle.std.specs.Cmp.Lexicographic.{lists_ties, lists_total, slice_cmp}
use Rattle.std.specs.Ordering.{is_eq, is_gt, is_lt, nat_cmp, ordering_reverse}
use Rattle.std.specs.declared.cmp.Ordering.{Ordering}
use Rattle.std.specs.declared.cmp.Ordering.TheVariants.{Less, Equal, Greater}
use Rattle.std.proofs.Common.{◌≡◌, ℕ, Bool, true, false, cond, List, [], ◌∷◌, ◌++◌, Option, Some, None, filter, fold, refl, sym, ◌∙◌, ap, true≢false, eqb-true, eq-eqb, arith, append_assoc, subst}
use Rattle.std.proofs.lemmas.Bool.{and_from, and_parts}
use Rattle.std.proofs.lemmas.Bool.Decides.{nat_tests}
use Rattle.std.proofs.lemmas.Cmp.{upto}
use Rattle.std.proofs.lemmas.List.Elements.{filter-append}
use Rattle.std.proofs.lemmas.List.Folds.{list_all-append}
use Rattle.std.proofs.lemmas.List.Sums.{fold-append}
use Rattle.tipc_types.specs.declared.services.Publication.{Publication}
use Rattle.tipc_types.specs.Tables.{is_named, is_of, place_cmp, place_of, put, stands_before, without, without_node}
use Rattle.tipc_types.proofs.Places.{all_kept, all_put}
use Rattle.tipc_types.specs.declared.identity.Addr.{Addr}
use Rattle.tipc_journal.specs.declared.entries.Entry.{Entry}
use Rattle.tipc_journal.specs.declared.entries.Entry.TheVariants.{Published, Withdrawn, Learned, Forgot, ContactDown}
use Rattle.tipc_journal.specs.Matches.{arranged, names, names_after}
use Rattle.tipc_journal.specs.Names.{standing, unless_removed, published, withdraws, learned_in, forgets, live, learned, is_at_home, AreAtHome}
use Rattle.tipc_journal.proofs.NameLaws.{live_more, live_nil, learned_more, learned_nil}

total : IsTotalOrder (slice_cmp nat_cmp)
total = lists_total nat_cmp_total

-- of two that are compared the other way round
not_greater : (o : Ordering) → is_lt o ≡ false → is_gt (ordering_reverse o) ≡ false
not_greater Less e = absurd (true≢false e)
not_greater Equal e = refl
not_greater Greater e = refl

not_less : (o : Ordering) → is_gt o ≡ false → is_lt (ordering_reverse o) ≡ false
not_less Less e = refl
not_less Equal e = refl
not_less Greater e = absurd (true≢false e)

-- a publication that doesn't stand before q, which doesn't stand before p, doesn't stand before p
behind_both : (r q p : Publication) → stands_before r q ≡ false → stands_before q p ≡ false → stands_before r p ≡ false
behind_both r q p first second =
    let pq : is_gt (place_cmp p q) ≡ false = ap is_gt (total.antisymm (place_of p) (place_of q)) ∙ not_greater (place_cmp q p) second in
    let qr : is_gt (place_cmp q r) ≡ false = ap is_gt (total.antisymm (place_of q) (place_of r)) ∙ not_greater (place_cmp r q) first in
    ap is_lt (total.antisymm (place_of r) (place_of p)) ∙ not_less (place_cmp p r) (upto total (place_of p) (place_of q) (place_of r) pq qr)

lt_turned : (o : Ordering) → is_lt o ≡ true → is_lt (ordering_reverse o) ≡ false
lt_turned Less e = refl
lt_turned Equal e = refl
lt_turned Greater e = absurd (true≢false (sym e))

-- a publication that stands before another one doesn't stand behind it
before_one_way : (p q : Publication) → stands_before q p ≡ true → stands_before p q ≡ false
before_one_way p q e = ap is_lt (total.antisymm (place_of p) (place_of q)) ∙ lt_turned (place_cmp q p) e

-- no publication stands before one that it is behind
AreArranged : List Publication → Type 0
AreArranged [] = Unit {0}
AreArranged (q ∷ qs) = AllByRecursion (λ r. stands_before r q ≡ false) qs × AreArranged qs

all_mapped : (P Q : Publication → Type 0) (ps : List Publication) → ((p : Publication) → P p → Q p) → AllByRecursion P ps → AllByRecursion Q ps
all_mapped P Q [] f h = tt
all_mapped P Q (p ∷ ps) f h = (f p h.0, all_mapped P Q ps f h.1)

none_before : (p q : Publication) (qs : List Publication) → stands_before q p ≡ false → AreArranged (q ∷ qs)
    → AllByRecursion (λ r. stands_before r p ≡ false) (q ∷ qs)
unfolding AreArranged
none_before p q qs e h = (e, all_mapped (λ r. stands_before r q ≡ false) (λ r. stands_before r p ≡ false) qs (λ r k. behind_both r q p k e) h.0)

put_arranged : (p : Publication) (ps : List Publication) → AreArranged ps → AreArranged (put p ps)
unfolding AreArranged
put_arranged p [] h = (tt, tt)
put_arranged p (q ∷ qs) h = by (stands_before q p) refl (put_arranged p qs h.1)
  where
    by : (b : Bool) → stands_before q p ≡ b → AreArranged (put p qs) → AreArranged (cond b (q ∷ put p qs) (p ∷ q ∷ qs))
    by true e later = (all_put (λ r. stands_before r q ≡ false) p qs (before_one_way p q e) h.0, later)
    by false e later = (none_before p q qs e h, h)

-- ---- one more, and a look-up

put_first : (p : Publication) (ps : List Publication) → AllByRecursion (λ q. stands_before q p ≡ false) ps → put p ps ≡ p ∷ ps
put_first p [] h = refl
put_first p (q ∷ qs) h = ap (λ (b : Bool). cond b (q ∷ put p qs) (p ∷ q ∷ qs)) h.0

put_passing : (b c : Bool) (p q : Publication) (kept put_kept : List Publication) → stands_before q p ≡ true → put_kept ≡ cond c (put p kept) kept
    → cond b (q ∷ put_kept) put_kept ≡ cond c (put p (cond b (q ∷ kept) kept)) (cond b (q ∷ kept) kept)
put_passing true true p q kept put_kept before e = ap (λ (xs : List Publication). q ∷ xs) e ∙ sym (ap (λ (b : Bool). cond b (q ∷ put p kept) (p ∷ q ∷ kept)) before)
put_passing true false p q kept put_kept before e = ap (λ (xs : List Publication). q ∷ xs) e
put_passing false c p q kept put_kept before e = e

put_leading : (c : Bool) (p : Publication) (kept : List Publication) → put p kept ≡ p ∷ kept → cond c (p ∷ kept) kept ≡ cond c (put p kept) kept
put_leading true p kept e = sym e
put_leading false p kept e = refl

filter_put : (test : Publication → Bool) (p : Publication) (ps : List Publication) → AreArranged ps
    → filter test (put p ps) ≡ cond (test p) (put p (filter test ps)) (filter test ps)
unfolding AreArranged
filter_put test p [] h = refl
filter_put test p (q ∷ qs) h = by (stands_before q p) refl (filter_put test p qs h.1)
  where
    by : (b : Bool) → stands_before q p ≡ b → filter test (put p qs) ≡ cond (test p) (put p (filter test qs)) (filter test qs)
        → filter test (cond b (q ∷ put p qs) (p ∷ q ∷ qs)) ≡ cond (test p) (put p (filter test (q ∷ qs))) (filter test (q ∷ qs))
    by true before later = put_passing (test q) (test p) p q (filter test qs) (filter test (put p qs)) before later
    by false before later =
        put_leading (test p) p (filter test (q ∷ qs)) (put_first p (filter test (q ∷ qs)) (all_kept (λ r. stands_before r p ≡ false) test (q ∷ qs) (none_before p q qs before h)))

filter_folded : (test : Publication → Bool) (acc ps : List Publication) → AreArranged acc
    → filter test (fold (λ sorted p. put p sorted) acc ps) ≡ fold (λ sorted p. put p sorted) (filter test acc) (filter test ps)
filter_folded test acc [] h = refl
filter_folded test acc (p ∷ ps) h =
    filter_folded test (put p acc) ps (put_arranged p acc h)
    ∙ ap (λ (w : List Publication). fold (λ sorted q. put q sorted) w (filter test ps)) (filter_put test p acc h)
    ∙ by (test p)
  where
    by : (b : Bool) → fold (λ sorted q. put q sorted) (cond b (put p (filter test acc)) (filter test acc)) (filter test ps)
        ≡ fold (λ sorted q. put q sorted) (filter test acc) (cond b (p ∷ filter test ps) (filter test ps))
    by true = refl
    by false = refl

-- no publications are arranged as none
pub arranged_nil : arranged [] ≡ []
unfolding arranged
arranged_nil = refl

-- one more publication behind the others is put in its place
pub arranged_more : (ps : List Publication) (p : Publication) → arranged (ps ++ p ∷ []) ≡ put p (arranged ps)
unfolding arranged
arranged_more ps p = fold-append (λ sorted q. put q sorted) [] ps (p ∷ [])

-- what is looked up in publications in order is in order what is looked up
pub filter_arranged : (test : Publication → Bool) (ps : List Publication) → filter test (arranged ps) ≡ arranged (filter test ps)
unfolding arranged AreArranged
filter_arranged test ps = filter_folded test [] ps tt

list_any_put : (test : Publication → Bool) (p : Publication) (ps : List Publication) → list_any test (put p ps) ≡ test p || list_any test ps
list_any_put test p [] = refl
list_any_put test p (q ∷ qs) = by (stands_before q p) (test p) (test q) refl refl (list_any_put test p qs)
  where
    by : (b c d : Bool) → test p ≡ c → test q ≡ d → list_any test (put p qs) ≡ test p || list_any test qs
        → list_any test (cond b (q ∷ put p qs) (p ∷ q ∷ qs)) ≡ test p || (test q || list_any test qs)
    by false c d e k later = refl
    by true true true e k later = rw (e, k) refl
    by true true false e k later = rw k (later ∙ rw e refl)
    by true false true e k later = rw (e, k) refl
    by true false false e k later = rw (e, k) (later ∙ rw e refl)

list_any_folded : (test : Publication → Bool) (acc ps : List Publication)
    → list_any test (fold (λ sorted p. put p sorted) acc ps) ≡ list_any test acc || list_any test ps
list_any_folded test acc [] = by (list_any test acc)
  where
    by : (b : Bool) → b ≡ b || false
    by true = refl
    by false = refl
list_any_folded test acc (p ∷ ps) =
    list_any_folded test (put p acc) ps
    ∙ ap (λ b. b || list_any test ps) (list_any_put test p acc)
    ∙ by (test p) (list_any test acc)
  where
    by : (b c : Bool) → (b || c) || list_any test ps ≡ c || (b || list_any test ps)
    by true true = refl
    by true false = refl
    by false true = refl
    by false false = refl

-- something is found in publications in order exactly where it is found in them
pub list_any_arranged : (test : Publication → Bool) (ps : List Publication) → list_any test (arranged ps) ≡ list_any test ps
unfolding arranged
list_any_arranged test ps = list_any_folded test [] ps

-- ---- two that are put, in either order

not_equal : (o : Ordering) → is_eq o ≡ false → is_lt (ordering_reverse o) ≡ not (is_lt o)
not_equal Less e = refl
not_equal Equal e = absurd (true≢false e)
not_equal Greater e = refl

-- of two publications of different nodes one stands before the other
other_node : (p q : Publication) → (q.at.node.word == p.at.node.word) ≡ false → stands_before p q ≡ not (stands_before q p)
other_node p q e =
    ap is_lt (total.antisymm (place_of p) (place_of q))
    ∙ not_equal (place_cmp q p) (sym (lists_ties {E = nat_eq} nat_cmp unsigned_ties (place_of q) (place_of p)) ∙ ap (λ b. b && ((q.at.port == p.at.port) && ((q.key == p.key) && true))) e)

-- two of different nodes stand the same, whichever is put first
put_put : (p q : Publication) (xs : List Publication) → stands_before p q ≡ not (stands_before q p) → put p (put q xs) ≡ put q (put p xs)
put_put p q [] apart = by (stands_before q p) (stands_before p q) refl apart
  where
    by : (b c : Bool) → stands_before q p ≡ b → c ≡ not (stands_before q p) → cond b (q ∷ p ∷ []) (p ∷ q ∷ []) ≡ cond c (p ∷ q ∷ []) (q ∷ p ∷ [])
    by true true e k = absurd (true≢false (k ∙ ap not e))
    by true false e k = refl
    by false true e k = refl
    by false false e k = absurd (true≢false (sym (k ∙ ap not e)))
put_put p q (r ∷ rs) apart = by (stands_before r p) (stands_before r q) (stands_before q p) refl refl refl (put_put p q rs apart)
  where
    by : (a b c : Bool) → stands_before r p ≡ a → stands_before r q ≡ b → stands_before q p ≡ c → put p (put q rs) ≡ put q (put p rs)
        → put p (cond b (r ∷ put q rs) (q ∷ r ∷ rs)) ≡ put q (cond a (r ∷ put p rs) (p ∷ r ∷ rs))
    by true true c ea eb ec later = rw (ea, eb) (ap (λ (w : List Publication). r ∷ w) later)
    by true false true ea eb ec later = rw (ec, ea, eb) refl
    by true false false ea eb ec later = absurd (true≢false (sym ea ∙ behind_both r q p eb ec))
    by false true true ea eb ec later = absurd (true≢false (sym eb ∙ behind_both r p q ea (apart ∙ ap not ec)))
    by false true false ea eb ec later = rw (ea, apart, ec, eb) refl
    by false false true ea eb ec later = rw (apart, ec, ea) refl
    by false false false ea eb ec later = rw (apart, ec, eb) refl

-- one that is put before those of other nodes may as well be put behind them
pub put_past : (p : Publication) (acc qs : List Publication) → list_all (λ q. not (q.at.node.word == p.at.node.word)) qs ≡ true
    → fold (λ sorted q. put q sorted) (put p acc) qs ≡ put p (fold (λ sorted q. put q sorted) acc qs)
put_past p acc [] others = refl
put_past p acc (q ∷ qs) others =
    let parts = and_parts (not (q.at.node.word == p.at.node.word)) _ others in
    ap (λ (w : List Publication). fold (λ sorted r. put r sorted) w qs) (sym (put_put p q acc (other_node p q (not_true (q.at.node.word == p.at.node.word) parts.0))))
    ∙ put_past p (put q acc) qs parts.1
  where
    not_true : (b : Bool) → not b ≡ true → b ≡ false
    not_true true e = absurd (true≢false (sym e))
    not_true false e = refl

-- ---- the table in order

-- publications that entries of one kind add have what each of these entries has
standing_all : (adds : Entry → Option Publication) (removes : Publication → Entry → Bool) (home : Entry → Bool) (test : Publication → Bool) (J : List Entry)
    → ((e : Entry) → home e ≡ true → list_all test (option_to_list (adds e)) ≡ true)
    → list_all home J ≡ true → list_all test (standing adds removes J) ≡ true
standing_all adds removes home test [] each h = refl
standing_all adds removes home test (e ∷ later) each h =
    let parts = and_parts (home e) _ h in
    let rest = standing_all adds removes home test later each parts.1 in
    by (adds e) (each e parts.0) rest
  where
    by : (o : Option Publication) → list_all test (option_to_list o) ≡ true → list_all test (standing adds removes later) ≡ true
        → list_all test (cons_option (unless_removed removes o later) (standing adds removes later)) ≡ true
    by None here rest = rest
    by (Some p) here rest = gone (list_any (removes p) later)
      where
        gone : (b : Bool) → list_all test (cons_option (cond b None (Some p)) (standing adds removes later)) ≡ true
        gone true = rest
        gone false = and_from _ _ (and_parts (test p) _ here).0 rest

-- an own publication
own_added : (own : Addr) (e : Entry) → is_at_home own e ≡ true → list_all (is_of own.word) (option_to_list (published e)) ≡ true
own_added own (Published p) h = and_from _ _ h refl
own_added own e h = refl

-- a publication of a peer
peer_added : (own : Addr) (e : Entry) → is_at_home own e ≡ true → list_all (λ p. not (is_of own.word p)) (option_to_list (learned_in e)) ≡ true
peer_added own (Learned p) h = and_from _ _ h refl
peer_added own e h = refl

-- the live publications are of this node
pub live_at_home : (own : Addr) (J : List Entry) → AreAtHome own J → list_all (is_of own.word) (live J) ≡ true
unfolding live
live_at_home own J h = standing_all published withdraws (is_at_home own) (is_of own.word) J (own_added own) h

-- those learned are of peers
pub learned_at_home : (own : Addr) (J : List Entry) → AreAtHome own J → list_all (λ p. not (is_of own.word p)) (learned J) ≡ true
unfolding learned
learned_at_home own J h = standing_all learned_in forgets (is_at_home own) (λ p. not (is_of own.word p)) J (peer_added own) h

-- two filters that agree where a test holds of all
filter_agrees : (f g test : Publication → Bool) (ps : List Publication) → list_all test ps ≡ true
    → ((p : Publication) → test p ≡ true → f p ≡ g p) → filter f ps ≡ filter g ps
filter_agrees f g test [] h same = refl
filter_agrees f g test (p ∷ ps) h same =
    let parts = and_parts (test p) _ h in
    ap (λ (b : Bool). cond b (p ∷ filter f ps) (filter f ps)) (same p parts.0)
    ∙ ap (λ (w : List Publication). cond (g p) (p ∷ w) w) (filter_agrees f g test ps parts.1 same)

filter_true : (ps : List Publication) → filter (λ p. true) ps ≡ ps
filter_true [] = refl
filter_true (p ∷ ps) = ap (λ (w : List Publication). p ∷ w) (filter_true ps)

not_true : (b : Bool) → not b ≡ true → b ≡ false
not_true true e = absurd (true≢false (sym e))
not_true false e = refl

eqb_sym : (a b : ℕ) → (a == b) ≡ (b == a)
eqb_sym a b = grind (arith, nat_tests)

-- the table in order, with own publications and those of peers filtered alike
names_filtered : (f g h : Publication → Bool) (own : Addr) (J : List Entry)
    → AreAtHome own J
    → ((p : Publication) → is_of own.word p ≡ true → f p ≡ g p)
    → ((p : Publication) → not (is_of own.word p) ≡ true → f p ≡ h p)
    → arranged (filter g (live J) ++ filter h (learned J)) ≡ filter f (names J)
names_filtered f g h own J home first second =
    ap (λ (w : List Publication). arranged (w ++ filter h (learned J))) (sym (filter_agrees f g (is_of own.word) (live J) (live_at_home own J home) first))
    ∙ ap (λ (w : List Publication). arranged (filter f (live J) ++ w)) (sym (filter_agrees f h (λ p. not (is_of own.word p)) (learned J) (learned_at_home own J home) second))
    ∙ ap arranged (sym (filter-append f (live J) (learned J)))
    ∙ sym (filter_arranged f (live J ++ learned J))

-- one more own publication, put in front of those of peers
own_in_place : (p : Publication) (ps qs : List Publication) → list_all (λ q. not (q.at.node.word == p.at.node.word)) qs ≡ true
    → arranged ((ps ++ p ∷ []) ++ qs) ≡ put p (arranged (ps ++ qs))
unfolding arranged
own_in_place p ps qs others =
    let f : List Publication → Publication → List Publication = λ sorted q. put q sorted in
    fold-append f [] (ps ++ p ∷ []) qs
    ∙ ap (λ (w : List Publication). fold f w qs) (fold-append f [] ps (p ∷ []))
    ∙ put_past p (fold f [] ps) qs others
    ∙ ap (put p) (sym (fold-append f [] ps qs))

-- what is said of a node and key, where the node is another one
other_named : (node key : ℕ) (p : Publication) → (p.at.node.word == node) ≡ false → not (is_named node key p) ≡ true
other_named node key p e = ap (λ b. not (b && (p.key == key))) e

-- what is said of an own publication and its key
own_named : (node key : ℕ) (p : Publication) → (p.at.node.word == node) ≡ true → not (is_named node key p) ≡ not (key == p.key)
own_named node key p e = ap (λ b. not (b && (p.key == key))) e ∙ ap not (eqb_sym p.key key)

names_withdrawn : (own : Addr) (J : List Entry) (q : Publication) → AreAtHome own J → (q.at.node.word == own.word) ≡ true
    → arranged (filter (λ p. not (q.key == p.key)) (live J) ++ learned J) ≡ without q.at.node.word q.key (names J)
names_withdrawn own J q home here =
    let is : q.at.node.word ≡ own.word = eqb-true _ _ here in
    ap (λ (w : List Publication). arranged (filter (λ p. not (q.key == p.key)) (live J) ++ w)) (sym (filter_true (learned J)))
    ∙ names_filtered (λ p. not (is_named q.at.node.word q.key p)) (λ p. not (q.key == p.key)) (λ p. true) own J home
    (λ p own_one. own_named q.at.node.word q.key p (eq-eqb p.at.node.word q.at.node.word (eqb-true _ _ own_one ∙ sym is)))
    (λ p other. other_named q.at.node.word q.key p (ap (λ w. p.at.node.word == w) is ∙ not_true (p.at.node.word == own.word) other))

names_forgot : (own : Addr) (J : List Entry) (q : Publication) → AreAtHome own J → not (q.at.node.word == own.word) ≡ true
    → arranged (live J ++ filter (λ p. not ((q.at.node.word == p.at.node.word) && (q.key == p.key))) (learned J)) ≡ without q.at.node.word q.key (names J)
names_forgot own J q home there =
    let h : Publication → Bool = λ p. not ((q.at.node.word == p.at.node.word) && (q.key == p.key)) in
    ap (λ (w : List Publication). arranged (w ++ filter h (learned J))) (sym (filter_true (live J)))
    ∙ names_filtered (λ p. not (is_named q.at.node.word q.key p)) (λ p. true) h own J home
    (λ p own_one. other_named q.at.node.word q.key p (ap (λ w. w == q.at.node.word) (eqb-true _ _ own_one) ∙ eqb_sym own.word q.at.node.word ∙ not_true (q.at.node.word == own.word) there))
    (λ p other.
    ap (λ b. not (b && (p.key == q.key))) (eqb_sym p.at.node.word q.at.node.word)
    ∙ ap (λ b. not ((q.at.node.word == p.at.node.word) && b)) (eqb_sym p.key q.key))

names_purged : (own peer : Addr) (J : List Entry) → AreAtHome own J → not (peer.word == own.word) ≡ true
    → arranged (live J ++ filter (λ p. not (peer.word == p.at.node.word)) (learned J)) ≡ without_node peer.word (names J)
names_purged own peer J home there =
    let h : Publication → Bool = λ p. not (peer.word == p.at.node.word) in
    ap (λ (w : List Publication). arranged (w ++ filter h (learned J))) (sym (filter_true (live J)))
    ∙ names_filtered (λ p. not (is_of peer.word p)) (λ p. true) h own J home
    (λ p own_one. ap not (ap (λ w. w == peer.word) (eqb-true _ _ own_one) ∙ eqb_sym own.word peer.word ∙ not_true (peer.word == own.word) there))
    (λ p other. ap not (eqb_sym p.at.node.word peer.word))

-- the table in order, from what is live and what is learned
names_of : (J : List Entry) (ls qs : List Publication) → live J ≡ ls → learned J ≡ qs → names J ≡ arranged (ls ++ qs)
names_of J ls qs own theirs = ap (λ (w : List Publication). arranged (w ++ learned J)) own ∙ ap (λ (w : List Publication). arranged (ls ++ w)) theirs

-- an empty journal has no table
pub names_nil : names [] ≡ []
names_nil = names_of [] [] [] live_nil learned_nil ∙ arranged_nil

-- one more entry of this node puts a publication into the table, takes some out of it, or leaves it, by its kind
pub names_more : (own : Addr) (J : List Entry) (e : Entry) → AreAtHome own J → is_at_home own e ≡ true
    → names (J ++ e ∷ []) ≡ names_after (names J) e
names_more own J (Published p) home here =
    let is : p.at.node.word ≡ own.word = eqb-true _ _ here in
    names_of _ _ _ (live_more J (Published p)) (learned_more J (Published p))
    ∙ own_in_place p (live J) (learned J) (subst (λ w. list_all (λ q. not (q.at.node.word == w)) (learned J) ≡ true) (sym is) (learned_at_home own J home))
names_more own J (Withdrawn q) home here =
    names_of _ _ _ (live_more J (Withdrawn q)) (learned_more J (Withdrawn q)) ∙ names_withdrawn own J q home here
names_more own J (Learned p) home here =
    names_of _ _ _ (live_more J (Learned p)) (learned_more J (Learned p))
    ∙ ap arranged (sym (append_assoc (live J) (learned J) (p ∷ [])))
    ∙ arranged_more (live J ++ learned J) p
names_more own J (Forgot q) home here =
    names_of _ _ _ (live_more J (Forgot q)) (learned_more J (Forgot q)) ∙ names_forgot own J q home here
names_more own J (ContactDown peer numbers states shown) home here =
    names_of _ _ _ (live_more J (ContactDown peer numbers states shown)) (learned_more J (ContactDown peer numbers states shown))
    ∙ names_purged own peer J home here
names_more own J e home here = names_of _ _ _ (live_more J e) (learned_more J e)

-- one more entry of this node
pub AreAtHome_more : (own : Addr) (J : List Entry) (e : Entry) → AreAtHome own J → is_at_home own e ≡ true → AreAtHome own (J ++ e ∷ [])
AreAtHome_more own J e home here = list_all-append (is_at_home own) J (e ∷ []) ∙ ap (λ b. b && (is_at_home own e && true)) home ∙ ap (λ b. b && true) here
