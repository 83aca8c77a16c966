-- Lists of things that are kept by number, or by port.
use Rattle.std.specs.Prelude.{slice_get, slice_set, is_some}
use Rattle.std.specs.List.{All, AllPairs, list_any, position, position_from}
use Rattle.std.proofs.Common.{◌≡◌, ◌≢◌, ◌==◌, ◌||◌, ◌+◌, ◌<◌, ℕ, zero, suc, Bool, true, false, cond, not, arith, List, [], ◌∷◌, ◌++◌, Some, filter, length, map, slice_index_or, refl, sym, subst, ◌∙◌, ap, eq-eqb}
use Rattle.std.proofs.lemmas.Iterator.Adapters.{position_from-zero}
use Rattle.std.proofs.lemmas.List.{map-append}
use Rattle.std.proofs.lemmas.List.Quantifiers.{position-Some}
use Rattle.std.proofs.lemmas.Option.{slice_get-get_or}
use Rattle.tipc_types.specs.declared.node_calls.Answer.{Answer}
use Rattle.tipc_types.specs.declared.node_calls.Answer.TheVariants.{Done, Socket as Made}
use Rattle.tipc_types.specs.declared.node_calls.EventNote.{EventNote}
use Rattle.tipc_types.specs.declared.node_calls.EventNote.TheVariants.{Close, Socket}
use Rattle.tipc_journal.specs.Queues.{sockets_after}
use Rattle.tipc_node_lock.specs.Inboxes.{kept_for_ports}

-- what is put at a place is there
pub get_set : {X : Type 0} (xs : List X) (i : ℕ) (x y : X) → slice_get xs i ≡ Some x → slice_get (slice_set xs i y) i ≡ Some y
get_set [] i x y there = absurd cc
get_set (z ∷ zs) zero x y there = refl
get_set (z ∷ zs) (suc i) x y there = get_set zs i x y there

-- and nothing else is changed
pub get_set_other : {X : Type 0} (xs : List X) (i j : ℕ) (y : X) → j ≢ i → slice_get (slice_set xs i y) j ≡ slice_get xs j
get_set_other [] i j y other = refl
get_set_other (z ∷ zs) zero zero y other = absurd (other refl)
get_set_other (z ∷ zs) zero (suc j) y other = refl
get_set_other (z ∷ zs) (suc i) zero y other = refl
get_set_other (z ∷ zs) (suc i) (suc j) y other = get_set_other zs i j y (λ e. other (ap suc e))

-- what f can't tell from what was there
pub map_set : {X Y : Type 0} (f : X → Y) (xs : List X) (i : ℕ) (x y : X) → slice_get xs i ≡ Some x → f y ≡ f x → map f (slice_set xs i y) ≡ map f xs
map_set f [] i x y there same = refl
map_set f (z ∷ zs) zero x y there same =
    let here : z ≡ x = cc in
    ap (λ w. w ∷ map f zs) (same ∙ ap f (sym here))
map_set f (z ∷ zs) (suc i) x y there same = ap (λ w. f z ∷ w) (map_set f zs i x y there same)

pub length_set : {X : Type 0} (xs : List X) (i : ℕ) (y : X) → length (slice_set xs i y) ≡ length xs
length_set [] i y = refl
length_set (z ∷ zs) zero y = refl
length_set (z ∷ zs) (suc i) y = ap suc (length_set zs i y)

-- what holds of each holds of the one at a place
pub at_place : {X : Type 0} (P : X → Type 0) (xs : List X) (i : ℕ) (x : X) → All P xs → slice_get xs i ≡ Some x → P x
at_place P [] i x all there = absurd cc
at_place P (z ∷ zs) zero x all there =
    let here : z ≡ x = cc in
    subst P here (all 0 z (omega arith))
at_place P (z ∷ zs) (suc i) x all there = at_place P zs i x (λ k d within. all (suc k) d (omega (arith, within))) there

-- what holds at each place
each_all : {X : Type 0} (P : X → Type 0) (xs : List X) → ((j : ℕ) (x : X) → slice_get xs j ≡ Some x → P x) → All P xs
each_all P [] each k d within = absurd (omega (arith, within))
each_all P (x ∷ xs) each zero d within = each zero x refl
each_all P (x ∷ xs) each (suc k) d within = each_all P xs (λ j y there. each (suc j) y there) k d (omega (arith, within))

-- what holds of each but the one at a place, and of what is put there, holds of each then
pub set_all : {X : Type 0} (P : X → Type 0) (xs : List X) (i : ℕ) (y : X) → ((j : ℕ) (x : X) → j ≢ i → slice_get xs j ≡ Some x → P x) → P y
    → All P (slice_set xs i y)
set_all P [] i y others here k d within = absurd (omega (arith, within))
set_all P (z ∷ zs) zero y others here zero d within = here
set_all P (z ∷ zs) zero y others here (suc k) d within = each_all P zs (λ j x there. others (suc j) x (λ e. absurd (omega (arith, e))) there) k d (omega (arith, within))
set_all P (z ∷ zs) (suc i) y others here zero d within = others zero z (λ e. absurd (omega (arith, e))) refl
set_all P (z ∷ zs) (suc i) y others here (suc k) d within =
    set_all P zs i y (λ j x other there. others (suc j) x (λ e. other (omega (arith, e))) there) here k d (omega (arith, within))

-- one of the ports at a place is among them
pub port_among : {X : Type 0} (port : X → ℕ) (xs : List X) (i : ℕ) (x : X) → slice_get xs i ≡ Some x → list_any (λ q. q == port x) (map port xs) ≡ true
port_among port [] i x there = absurd cc
port_among port (z ∷ zs) zero x there =
    let here : z ≡ x = cc in
    ap (λ (w : Bool). w || list_any (λ q. q == port x) (map port zs)) (eq-eqb (port z) (port x) (ap port here))
port_among port (z ∷ zs) (suc i) x there =
    ap (λ (w : Bool). (port z == port x) || w) (port_among port zs i x there) ∙ or_true (port z == port x)
  where
    or_true : (b : Bool) → (b || true) ≡ true
    or_true true = refl
    or_true false = refl

-- a port that is below all of them is below each
all_behind : {X : Type 0} (port : X → ℕ) (z : X) (ys : List X) (j : ℕ) (y : X) → slice_get ys j ≡ Some y → All (λ b. port z < b) (map port ys) → port z < port y
all_behind port z [] j y there all = absurd cc
all_behind port z (w ∷ ws) zero y there all =
    let here : w ≡ y = cc in
    subst (λ v. port z < port v) here (all 0 0 (omega arith))
all_behind port z (w ∷ ws) (suc j) y there all = all_behind port z ws j y there (λ k d within. all (suc k) d (omega (arith, within)))

-- where ports rise, those behind the first are above it
above : {X : Type 0} (port : X → ℕ) (z : X) (zs : List X) → AllPairs (λ a b. a < b) (map port (z ∷ zs)) → (j : ℕ) (y : X) → slice_get zs j ≡ Some y
    → port z < port y
above port z zs rise j y there = all_behind port z zs j y there (λ k d within. rise 0 (suc k) d (omega arith) (omega (arith, within)))

-- the ports at two places differ where they rise
pub ports_apart : {X : Type 0} (port : X → ℕ) (xs : List X) (i j : ℕ) (x y : X) → AllPairs (λ a b. a < b) (map port xs)
    → slice_get xs i ≡ Some x → slice_get xs j ≡ Some y → j ≢ i → port y ≢ port x
ports_apart port [] i j x y rise at_i at_j other same = absurd cc
ports_apart port (z ∷ zs) zero zero x y rise at_i at_j other same = other refl
ports_apart port (z ∷ zs) zero (suc j) x y rise at_i at_j other same =
    let here : z ≡ x = cc in
    let below = above port z zs rise j y at_j in
    let is = ap port here in
    absurd (omega (arith, below, is, same))
ports_apart port (z ∷ zs) (suc i) zero x y rise at_i at_j other same =
    let here : z ≡ y = cc in
    let below = above port z zs rise i x at_i in
    let is = ap port here in
    absurd (omega (arith, below, is, same))
ports_apart port (z ∷ zs) (suc i) (suc j) x y rise at_i at_j other same =
    ports_apart port zs i j x y (λ a b d less within. rise (suc a) (suc b) d (omega (arith, less)) (omega (arith, within))) at_i at_j (λ e. other (ap suc e)) same

-- ---- what is kept for each port

-- the same of one more, by its test
one_port : {X : Type 0} (port : X → ℕ) (test : ℕ → Bool) (x : X) (xs : List X) (b : Bool) → map port (filter (λ y. test (port y)) xs) ≡ filter test (map port xs)
    → map port (cond b (x ∷ filter (λ y. test (port y)) xs) (filter (λ y. test (port y)) xs)) ≡ cond b (port x ∷ filter test (map port xs)) (filter test (map port xs))
one_port port test x xs true rest = ap (λ w. port x ∷ w) rest
one_port port test x xs false rest = rest

-- the ports of those that pass a test on their port
filter_ports : {X : Type 0} (port : X → ℕ) (test : ℕ → Bool) (xs : List X) → map port (filter (λ x. test (port x)) xs) ≡ filter test (map port xs)
filter_ports port test [] = refl
filter_ports port test (x ∷ xs) = one_port port test x xs (test (port x)) (filter_ports port test xs)

-- the ports of what is kept after a call are those of the sockets then
pub kept_ports : {X : Type 0} (port : X → ℕ) (new : ℕ → X) → ((at : ℕ) → port (new at) ≡ at) → (xs : List X) (call : EventNote) (answered : Answer)
    → map port (kept_for_ports port new xs call answered) ≡ sockets_after (map port xs) call answered
kept_ports port new fits xs Socket (Made at) = map-append port xs (new at ∷ []) ∙ ap (λ w. map port xs ++ w ∷ []) (fits at)
kept_ports port new fits xs Socket other = refl
kept_ports port new fits xs (Close closed) Done = filter_ports port (λ q. not (q == closed)) xs
kept_ports port new fits xs (Close closed) other = refl
kept_ports port new fits xs call answered = refl

-- ---- the first that passes a test

one_found : {X : Type 0} (test : X → Bool) (i : ℕ) (x : X) (xs : List X) (b : Bool) → is_some (position_from test (i + 1) xs) ≡ list_any test xs
    → is_some (cond b (Some i) (position_from test (i + 1) xs)) ≡ (b || list_any test xs)
one_found test i x xs true rest = refl
one_found test i x xs false rest = rest

found_from : {X : Type 0} (test : X → Bool) (i : ℕ) (xs : List X) → is_some (position_from test i xs) ≡ list_any test xs
found_from test i [] = refl
found_from test i (x ∷ xs) = one_found test i x xs (test x) (found_from test (i + 1) xs)

-- one is found just where one passes
pub found_any : {X : Type 0} (test : X → Bool) (xs : List X) → is_some (position test xs) ≡ list_any test xs
found_any test xs = ap is_some (position_from-zero test xs) ∙ found_from test 0 xs

-- what stands there passes
pub found_passes : {X : Type 0} (test : X → Bool) (xs : List X) (i : ℕ) (d : X) → position test xs ≡ Some i
    → (slice_get xs i ≡ Some (slice_index_or xs i d)) × (test (slice_index_or xs i d) ≡ true)
found_passes test xs i d is =
    let found = position-Some test xs i d is in
    (slice_get-get_or xs i d found.0, found.1)
