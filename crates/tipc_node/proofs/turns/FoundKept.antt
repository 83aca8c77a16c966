-- A peer was heard on a bearer exactly where there is a link end to it: so it stays after each call and each arrival.
use Rattle.std.specs.Prelude.{if◌then◌else◌}
use Rattle.std.specs.List.{list_any}
use Rattle.std.proofs.Common.{◌≡◌, ◌≢◌, ◌⊎◌, ◌≤◌, ◌<◌, ◌==◌, ◌||◌, ◌∙◌, ℕ, zero, suc, Bool, true, false, List, [], ◌∷◌, Option, Some, None, inl, inr, is_some, length, refl, sym, ap, subst, arith, eq-eqb}
use Rattle.std.proofs.lemmas.Bool.{cases_eq}
use Rattle.std.proofs.lemmas.Bool.Decides.{nat_tests}
use Rattle.std.proofs.lemmas.List.Folds.{list_any-append}
use Rattle.tipc_types.specs.Address.{node_word}
use Rattle.tipc_types.specs.declared.node_calls.Answer.{Answer}
use Rattle.tipc_types.specs.declared.node_calls.Answer.TheVariants as answer
use Rattle.tipc_types.specs.declared.node_calls.Arrival.{Arrival}
use Rattle.tipc_types.specs.declared.node_calls.By.{By}
use Rattle.tipc_types.specs.declared.node_calls.EventNote.{EventNote}
use Rattle.tipc_types.specs.declared.node_calls.EventNote.TheVariants as event
use Rattle.tipc_outside.specs.declared.outgoing.Outgoing.{Outgoing}
use Rattle.tipc_header.specs.declared.frames.FrameKind.TheVariants.{Casts, Finds, Links}
use Rattle.tipc_header.specs.Frames.{kind_in}
use Rattle.tipc_journal.specs.declared.entries.Entry.{Entry}
use Rattle.tipc_journal.specs.Steps.{NodeStep}
use Rattle.tipc_discovery.specs.Hearing.{Neighbourhood, heard_on}
use Rattle.tipc_pair.specs.Facing.{PairEnds, facing}
use Rattle.tipc_pair.specs.PairTurns.{Opening, Suits}
use Rattle.tipc_pair.specs.PairTurns.Opening.{makes}
use Rattle.tipc_node.specs.declared.neighbours.Neighbour.{Neighbour}
use Rattle.tipc_node.specs.Arrivals.{Arrives, Discovers, Hears}
use Rattle.tipc_node.specs.Calls.{CanPerform, Performs, plan_of}
use Rattle.tipc_node.specs.CastArrivals.{HearsCast}
use Rattle.tipc_node.specs.Discovery.{AreFound, found_node, has_found, nobody_heard, with_found}
use Rattle.tipc_node.specs.Nodes.{NodeState, acquaintance, end_with, kept, neighbour_of, pair_with, step_of}
use Rattle.tipc_node.specs.Plans.{CarriesOut, Does, DoesUnless, Plan, Dispatch, frames_alone, on_its_way, to_all, to_peers}
use Rattle.tipc_node.specs.Turns.{AreNamed, IsBrought, IsMaking, NodeTurn}
use Rattle.tipc_node.proofs.pairs.EndsStay.{made_other, made_there, turn_ends_stay}
use Rattle.tipc_node.proofs.pairs.Strangers.{alone_near}
use Rattle.tipc_node.proofs.turns.Discovering.{new_there, others_there}
use Rattle.tipc_node.proofs.work.Arriving.{by_arrival}

-- ---- a turn

-- there is an end to a peer where its pair has one; a stranger's has none
ends_by_pair : (n : NodeState) (b bearer : ℕ) → is_some (end_with bearer (neighbour_of n b)) ≡ is_some (facing bearer (pair_with n b)).near
ends_by_pair n b bearer = by (neighbour_of n b)
  where
    by : (o : Option Neighbour) → is_some (end_with bearer o) ≡ is_some (facing bearer (acquaintance n b o).pair).near
    by None = sym (ap is_some (alone_near bearer n.own (node_word b) n.boot))
    by (Some x) = refl

-- whether a peer was found on a bearer, by who was heard
abbrev among_heard : Neighbourhood → ℕ → ℕ → Bool
among_heard found bearer b = list_any (λ word. node_word b == word) (heard_on bearer found)

-- a turn in which no end is made, and nobody else was heard
turn_found : (n n' : NodeState) (bytes : List ℕ) (s : NodeStep) (frames : List Outgoing) → AreNamed n → (t : NodeTurn n n' bytes s frames) → ((b : ℕ) → IsMaking (t.turns b).opening → ⊥) → n'.found ≡ n.found → AreFound n → AreFound n'
turn_found n n' bytes s frames named t none same are b bearer one =
    let at = t.turns b in
    let first = (named b).first in
    ends_by_pair n' b bearer
    ∙ turn_ends_stay bearer (pair_with n b) (pair_with n' b) at.opening _ at.reply at.own_frames (omega (arith, first)) (none b) at.turn
    ∙ sym (ends_by_pair n b bearer) ∙ are b bearer one ∙ ap (λ found. among_heard found bearer b) (sym same)

-- ---- a call

-- by which no end is made
calls_none : (call : EventNote) (opening : Opening) → CanPerform call → Suits call opening → IsMaking opening → ⊥
calls_none call (makes bearer is_mended) can suits making = subst CanPerform suits.1.1 can
calls_none call other can suits making = making

-- nobody else was heard by it
carried_same : (n n' : NodeState) (by : By) (call : EventNote) (p : Plan) (frames : List Outgoing) (answered : Answer) → CarriesOut n by call p n' frames answered → n'.found ≡ n.found
carried_same n n' by call p frames answered carried = unless p.refusal carried
  where
    does : (s : Dispatch) → Does s n by call p n' frames answered → n'.found ≡ n.found
    does (frames_alone given) d = ap (λ (k : NodeState). k.found) d.0
    does (to_peers told) d = ap (λ (k : NodeState). k.found) d.2
    does (on_its_way m) d = ap (λ (k : NodeState). k.found) d.2
    does (to_all m given) d = ap (λ (k : NodeState). k.found) d.1

    unless : (o : Option Answer) → DoesUnless o n by call p n' frames answered → n'.found ≡ n.found
    unless (Some reason) d = ap (λ (k : NodeState). k.found) d.0
    unless None d = does p.dispatch d

pub performs_found : (n n' : NodeState) (by : By) (call : EventNote) (frames : List Outgoing) (answered : Answer) → AreNamed n → AreFound n → CanPerform call → Performs n by call n' frames answered → (inside : List Entry) (kept : Answer)
    → NodeTurn n n' [] (step_of by call inside kept) frames → AreFound n'
performs_found n n' by call frames answered named are can performs inside kept t =
    turn_found n n' [] (step_of by call inside kept) frames named t (λ b making. calls_none call (t.turns b).opening can (t.turns b).suits making)
    (carried_same n n' by call (plan_of n call performs.chosen) frames answered performs.carried) are

-- ---- an arrival

-- by a link packet no end is made
link_none : (b : ℕ) (bytes : List ℕ) (opening : Opening) → kind_in bytes ≡ Links → IsBrought b bytes opening → IsMaking opening → ⊥
link_none b bytes (makes bearer is_mended) link brought making = (let wrong : Finds ≡ Links = sym brought.4 ∙ link in cc)
link_none b bytes other link brought making = making

-- nor by a broadcast packet
cast_none : (b : ℕ) (bytes : List ℕ) (opening : Opening) → kind_in bytes ≡ Casts → IsBrought b bytes opening → IsMaking opening → ⊥
cast_none b bytes (makes bearer is_mended) casts brought making = (let wrong : Finds ≡ Casts = sym brought.4 ∙ casts in cc)
cast_none b bytes other casts brought making = making

cast_found : (n n' : NodeState) (by : By) (bearer number : ℕ) (bytes : List ℕ) (frames : List Outgoing) (answered : Arrival) (inside : List Entry) → AreNamed n → AreFound n → HearsCast n n' by bearer number bytes frames answered
    → NodeTurn n n' bytes (step_of by (event.Arrive bearer number) inside (answer.Arrived answered)) frames → AreFound n'
cast_found n n' by bearer number bytes frames answered inside named are h t =
    turn_found n n' bytes (step_of by (event.Arrive bearer number) inside (answer.Arrived answered)) frames named t (λ b making. cast_none b bytes (t.turns b).opening h.brings.kind (t.turns b).brought making)
    (ap (λ (k : NodeState). k.found) h.after) are

hears_found : (n n' : NodeState) (by : By) (bearer number : ℕ) (bytes : List ℕ) (frames : List Outgoing) (answered : Arrival) (inside : List Entry) → AreNamed n → AreFound n → Hears n n' by bearer number bytes frames answered
    → NodeTurn n n' bytes (step_of by (event.Arrive bearer number) inside (answer.Arrived answered)) frames → AreFound n'
hears_found n n' by bearer number bytes frames answered inside named are h t =
    turn_found n n' bytes (step_of by (event.Arrive bearer number) inside (answer.Arrived answered)) frames named t (λ b making. link_none b bytes (t.turns b).opening h.due.kind (t.turns b).brought making) (ap (λ (k : NodeState). k.found) h.after) are

or_true : (t : Bool) → (t || true) ≡ true
or_true true = refl
or_true false = refl

or_nothing : (t : Bool) → (t || false) ≡ t
or_nothing true = refl
or_nothing false = refl

-- a word that was added behind others
among_more : (found : Neighbourhood) (bearer word b : ℕ) → bearer ≤ 1 → among_heard (with_found found bearer word) bearer b ≡ (among_heard found bearer b || (node_word b == word))
among_more found zero word b one = list_any-append (λ w. node_word b == w) found.on_bearer_0 (word ∷ []) ∙ ap (λ t. list_any (λ w. node_word b == w) found.on_bearer_0 || t) (or_nothing (node_word b == word))
among_more found (suc zero) word b one = list_any-append (λ w. node_word b == w) found.on_bearer_1 (word ∷ []) ∙ ap (λ t. list_any (λ w. node_word b == w) found.on_bearer_1 || t) (or_nothing (node_word b == word))
among_more found (suc (suc bearer)) word b one = absurd (omega (arith, one))

-- those on the other bearer are as they were
among_other : (found : Neighbourhood) (bearer k word b : ℕ) → bearer ≤ 1 → k ≤ 1 → k ≢ bearer → among_heard (with_found found bearer word) k b ≡ among_heard found k b
among_other found zero zero word b one two apart = absurd (apart refl)
among_other found zero (suc zero) word b one two apart = refl
among_other found zero (suc (suc k)) word b one two apart = absurd (omega (arith, two))
among_other found (suc zero) zero word b one two apart = refl
among_other found (suc zero) (suc zero) word b one two apart = absurd (apart refl)
among_other found (suc zero) (suc (suc k)) word b one two apart = absurd (omega (arith, two))
among_other found (suc (suc bearer)) k word b one two apart = absurd (omega (arith, one))

-- a peer that is found has its end there, and all others are as they were
new_found : (n : NodeState) (peer bearer : ℕ) → AreNamed n → AreFound n → bearer ≤ 1 → peer < length n.neighbours → AreFound (found_node n peer bearer)
new_found n peer bearer named are one within b k two = elim (cases_eq b peer) [
  | inl here ↦ subst (λ c. is_some (end_with k (neighbour_of m c)) ≡ has_found m k c) (sym here) (at_peer (cases_eq k bearer))
  | inr apart ↦ ap (λ o. is_some (end_with k o)) (others_there n peer bearer b apart) ∙ are b k two ∙ sym (elsewhere apart (cases_eq k bearer))
]
  where
    m : NodeState
    m = found_node n peer bearer

    x : PairEnds
    x = pair_with n peer

    first : x.bearer ≡ 0
    first = (named peer).first

    at_peer : (k ≡ bearer) ⊎ (k ≡ bearer → ⊥) → is_some (end_with k (neighbour_of m peer)) ≡ has_found m k peer
    at_peer (inl on) = subst (λ j. is_some (end_with j (neighbour_of m peer)) ≡ has_found m j peer) (sym on)
        (ap (λ o. is_some (end_with bearer o)) (new_there n peer bearer within) ∙ made_there bearer x first one
        ∙ sym (among_more n.found bearer (node_word peer) peer one ∙ ap (λ t. among_heard n.found bearer peer || t) (eq-eqb (node_word peer) (node_word peer) refl) ∙ or_true (among_heard n.found bearer peer)))
    at_peer (inr off) =
        ap (λ o. is_some (end_with k o)) (new_there n peer bearer within) ∙ ap is_some (made_other bearer k x first one two off) ∙ sym (ends_by_pair n peer k) ∙ are peer k two
        ∙ sym (among_other n.found bearer k (node_word peer) peer one two off)

    words_apart : (b ≡ peer → ⊥) → (node_word b == node_word peer) ≡ false
    words_apart apart = grind (arith, nat_tests, apart)

    elsewhere : (b ≡ peer → ⊥) → (k ≡ bearer) ⊎ (k ≡ bearer → ⊥) → has_found m k b ≡ has_found n k b
    elsewhere apart (inl on) = subst (λ j. has_found m j b ≡ has_found n j b) (sym on)
        (among_more n.found bearer (node_word peer) b one ∙ ap (λ t. among_heard n.found bearer b || t) (words_apart apart) ∙ or_nothing (among_heard n.found bearer b))
    elsewhere apart (inr off) = among_other n.found bearer k (node_word peer) b one two off

discovers_found : (n n' : NodeState) (by : By) (bearer number : ℕ) (bytes : List ℕ) (frames : List Outgoing) (answered : Arrival) → AreNamed n → AreFound n → Discovers n n' by bearer number bytes frames answered → AreFound n'
discovers_found n n' by bearer number bytes frames answered named are h = subst AreFound (sym h.after) (case (has_found n bearer h.peer))
  where
    case : (heard : Bool) → AreFound (if heard then n else found_node n h.peer bearer)
    case true = are
    case false = new_found n h.peer bearer named are h.brings.on_one h.within

pub arrives_found : (n n' : NodeState) (by : By) (bearer number : ℕ) (bytes : List ℕ) (frames : List Outgoing) (answered : Arrival) (inside : List Entry) → AreNamed n → AreFound n → Arrives n n' by bearer number bytes frames answered
    → NodeTurn n n' bytes (step_of by (event.Arrive bearer number) inside (answer.Arrived answered)) frames → AreFound n'
arrives_found n n' by bearer number bytes frames answered inside named are arrives t =
    by_arrival (AreFound n') n n' by bearer number bytes frames answered arrives
    (λ reason after none is. subst AreFound (sym after) are)
    (λ passes heard. hears_found n n' by bearer number bytes frames answered inside named are heard t)
    (discovers_found n n' by bearer number bytes frames answered named are)
    (λ heard. cast_found n n' by bearer number bytes frames answered inside named are heard t)

-- ---- a node that knows nobody

pub new_are_found : (n : NodeState) → ((peer : ℕ) → neighbour_of n peer ≡ None) → n.found ≡ nobody_heard n.own → AreFound n
new_are_found n nobody none b bearer one = ap (λ o. is_some (end_with bearer o)) (nobody b) ∙ sym (ap (λ found. among_heard found bearer b) none ∙ unheard bearer one)
  where
    unheard : (k : ℕ) → k ≤ 1 → among_heard (nobody_heard n.own) k b ≡ false
    unheard zero low = refl
    unheard (suc zero) low = refl
    unheard (suc (suc k)) low = absurd (omega (arith, low))
