-- Publications behind one more entry, and behind later ones.
use Rattle.std.specs.List.{cons_option, list_any}
use Rattle.std.proofs.Common.{◌≡◌, Bool, true, false, ◌||◌, not, cond, List, [], ◌∷◌, ◌++◌, Option, Some, None, filter, fold, refl, sym, ◌∙◌, ap}
use Rattle.std.proofs.lemmas.List.Folds.{list_any-append}
use Rattle.tipc_types.specs.declared.services.Publication.{Publication}
use Rattle.tipc_journal.specs.declared.entries.Entry.{Entry}
use Rattle.tipc_journal.specs.declared.entries.Entry.TheVariants.{Published, Withdrawn, Learned, Forgot, ContactDown}
use Rattle.tipc_journal.specs.Prefixes.{list_with}
use Rattle.tipc_journal.proofs.Following.{followed_all}
use Rattle.tipc_journal.specs.Names.{unless_removed, standing, published, withdraws, live, learned_in, forgets, learned, live_after, learned_after}

-- an item in front stays in front
list_with_cons : {A : Type 0} (x : A) (xs : List A) (o : Option A) → list_with (x ∷ xs) o ≡ x ∷ list_with xs o
list_with_cons x xs None = refl
list_with_cons x xs (Some y) = refl

-- a filter that lets all through
filter_all : {A : Type 0} (xs : List A) → filter (λ x. true) xs ≡ xs
filter_all [] = refl
filter_all (x ∷ xs) = ap (λ w. x ∷ w) (filter_all xs)

-- what stands before an entry, without what the entry removes, and what it adds
standing_after : (removes : Publication → Entry → Bool) (e : Entry) → List Publication → Option Publication → List Publication
standing_after removes e ps o = list_with (filter (λ p. not (removes p e)) ps) o

-- one more publication in front
standing_front : (removes : Publication → Entry → Bool) (e : Entry) (p : Publication) (gone now : Bool)
    (ps qs : List Publication) (o : Option Publication)
    → qs ≡ standing_after removes e ps o → removes p e ≡ now
    → cons_option (cond (gone || (now || false)) None (Some p)) qs
    ≡ standing_after removes e (cons_option (cond gone None (Some p)) ps) o
unfolding standing_after
standing_front removes e p true now ps qs o later is = later
standing_front removes e p false true ps qs o later is = rw is later
standing_front removes e p false false ps qs o later is =
    rw is (ap (λ w. p ∷ w) later ∙ sym (list_with_cons p (filter (λ q. not (removes q e)) ps) o))

-- one more entry removes publications and adds one
standing_more : (adds : Entry → Option Publication) (removes : Publication → Entry → Bool) (xs : List Entry) (e : Entry)
    → standing adds removes (xs ++ e ∷ []) ≡ standing_after removes e (standing adds removes xs) (adds e)
unfolding standing_after
standing_more adds removes [] e =
    elim (adds e) as (λ o. cons_option (unless_removed removes o []) [] ≡ list_with [] o) [ None ↦ refl | Some p ↦ refl ]
standing_more adds removes (x ∷ xs) e =
    let later = standing_more adds removes xs e in
    let P : Option Publication → Type 0 = λ o.
    cons_option (unless_removed removes o (xs ++ e ∷ [])) (standing adds removes (xs ++ e ∷ []))
    ≡ standing_after removes e (cons_option (unless_removed removes o xs) (standing adds removes xs)) (adds e) in
    elim (adds x) as P [
      | None ↦ later
      | Some p ↦
          ap (λ b. cons_option (cond b None (Some p)) (standing adds removes (xs ++ e ∷ []))) (list_any-append (removes p) xs (e ∷ []))
          ∙ standing_front removes e p (list_any (removes p) xs) (removes p e) (standing adds removes xs) _ (adds e) later refl
    ]

-- an empty journal has no live publication
pub live_nil : live [] ≡ []
unfolding live
live_nil = refl

-- one more entry: a Published adds, a Withdrawn removes, each other kind changes nothing
pub live_more : (xs : List Entry) (e : Entry) → live (xs ++ e ∷ []) ≡ live_after (live xs) e
unfolding live standing_after
live_more xs (Published p) = standing_more published withdraws xs (Published p) ∙ ap (λ w. w ++ p ∷ []) (filter_all (live xs))
live_more xs (Withdrawn q) = standing_more published withdraws xs (Withdrawn q)
live_more xs e = standing_more published withdraws xs e ∙ filter_all (live xs)

-- an empty journal has no publication of a peer
pub learned_nil : learned [] ≡ []
unfolding learned
learned_nil = refl

-- one more entry: a Learned adds, a Forgot and a ContactDown remove, each other kind changes nothing
pub learned_more : (xs : List Entry) (e : Entry) → learned (xs ++ e ∷ []) ≡ learned_after (learned xs) e
unfolding learned standing_after
learned_more xs (Learned p) = standing_more learned_in forgets xs (Learned p) ∙ ap (λ w. w ++ p ∷ []) (filter_all (learned xs))
learned_more xs (Forgot q) = standing_more learned_in forgets xs (Forgot q)
learned_more xs (ContactDown peer numbers states shown) = standing_more learned_in forgets xs (ContactDown peer numbers states shown)
learned_more xs e = standing_more learned_in forgets xs e ∙ filter_all (learned xs)

-- the node's live publications after later entries
pub live_append : (xs ys : List Entry) → live (xs ++ ys) ≡ fold live_after (live xs) ys
live_append xs ys = followed_all live live_after live_more xs ys

-- the peers' publications after later entries
pub learned_append : (xs ys : List Entry) → learned (xs ++ ys) ≡ fold learned_after (learned xs) ys
learned_append xs ys = followed_all learned learned_after learned_more xs ys
