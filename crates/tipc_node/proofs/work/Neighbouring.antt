-- What a node makes of a neighbour by the calls of its pair.
use Rattle.std.specs.Prelude.{◌||◌, filter, is_some}
use Rattle.std.proofs.Common.{◌≡◌, ◌≤◌, ◌∙◌, ℕ, true, false, List, Option, Some, None, option_map, refl, sym, subst, ap, arith}
use Rattle.tipc_types.specs.declared.link_words.BroadcastState.{BroadcastState}
use Rattle.tipc_outside.specs.Frames.{Adds, AddsFirst, Gains, Out}
use Rattle.tipc_header.specs.Spelling.{Fields}
use Rattle.tipc_pair.specs.declared.changes.PairOutcome.{PairOutcome}
use Rattle.tipc_pair.specs.declared.transitions.Transition.{Transition}
use Rattle.tipc_pair.specs.Courses.{Course, going_on, made_in, sent_in}
use Rattle.tipc_pair.specs.Facing.{PairEnds, active, facing, in_contact, is_up_at, with_made}
use Rattle.tipc_pair.specs.PairCalls.{at_bearer, load_of, mended}
use Rattle.tipc_pair.specs.PairArrivals.{Arrives}
use Rattle.tipc_pair.specs.PairFacts.{IsPairOfEnds}
use Rattle.tipc_pair.specs.PairTurns.{Outset, made_near, quietly, seen_as}
use Rattle.tipc_pair.specs.PairTurns.Opening.{hears}
use Rattle.tipc_pair.proofs.Facings.{facing_back}
use Rattle.tipc_node.specs.declared.neighbours.Neighbour.{Neighbour}
use Rattle.tipc_node.specs.Neighbours.{HearsAt, casts_after, course_of, heard_neighbour, making}
use Rattle.tipc_header.specs.declared.packet.Header.{Header}
use Rattle.tipc_header.specs.declared.packet.Header.TheVariants as header
use Rattle.tipc_node.specs.declared.neighbours.Upkeep.{Upkeep}
use Rattle.tipc_node.specs.Casting.{CanBeTold, IsContactChange, is_joined_by, stated_in}
use Rattle.tipc_node.proofs.pairs.Calm.{opening_of, upkeep_happens}
use Rattle.tipc_node.proofs.work.Casting.{change_fits, joined_then}
use Rattle.tipc_pair.specs.Contacts.{begins, ends, is_of_contact}
use Rattle.tipc_pair.specs.LinkReadings.{active_load}
use Rattle.tipc_pair.proofs.turns.PairEvents.{begins_once, begins_there, happened_so, pair_on}
use Rattle.tipc_pair.proofs.turns.PairKept.{facing_bearer}
use Rattle.tipc_pair.proofs.turns.PairPuts.{active_there, meets_facing}
use Rattle.tipc_pair.proofs.turns.StatesHeard.{state_heard_first}

-- ---- an end is made

-- where it is made, and then said that its bearer is mended
made_at : (bearer : ℕ) (x : PairEnds) → bearer ≤ 1 → x.bearer ≡ 0 → (at_bearer bearer (facing 0 (with_made (facing bearer x))) mended) ≡ (at_bearer bearer x (made_near true))
unfolding going_on
made_at bearer x one first =
    let y = with_made (facing bearer x) in
    let zero_is = first in
    let on : y.bearer ≡ bearer = facing_bearer bearer x one (omega (arith, zero_is)) in
    let two : y.bearer ≤ 1 = omega (arith, on, one) in
    let back : facing bearer (facing 0 y) ≡ y = subst (λ b. facing b (facing 0 y) ≡ y) on (facing_back 0 y (omega arith) two) in
    let home : (facing 0 y).bearer ≡ x.bearer = facing_bearer 0 y (omega arith) two ∙ sym first in
    ap (λ z. record (mended z) { pair = facing (facing 0 y).bearer (mended z).pair }) back ∙ ap (λ b. record (mended y) { pair = facing b (mended y).pair }) home

pub made_mended : (bearer : ℕ) (x : Neighbour) (made now : PairEnds) → bearer ≤ 1 → x.pair.bearer ≡ 0 → made ≡ facing 0 (with_made (facing bearer x.pair)) → now ≡ (at_bearer bearer made mended).pair
    → now ≡ (making bearer x).pair
made_mended bearer x made now one first is after = after ∙ (ap (λ y. (at_bearer bearer y mended).pair) is ∙ ap (λ (c : Course). c.pair) (made_at bearer x.pair one first))

pub made_sent : (bearer : ℕ) (x : Neighbour) (made : PairEnds) (box box' : Out) → bearer ≤ 1 → x.pair.bearer ≡ 0 → made ≡ facing 0 (with_made (facing bearer x.pair)) → Gains box box' (made_in (at_bearer bearer made mended))
    → AddsFirst box box' (making bearer x).states
made_sent bearer x made box box' one first is gains =
    subst (AddsFirst box box') (ap (λ y. (at_bearer bearer y mended).states) is ∙ ap (λ (c : Course). c.states) (made_at bearer x.pair one first)) gains

-- ---- the load of the active link

some_mapped : {A B : Type 0} (f : A → B) (o : Option A) → is_some (option_map f o) ≡ is_some o
some_mapped f None = refl
some_mapped f (Some a) = refl

-- there is contact exactly where a link is active
pub active_is : (x : PairEnds) → is_some (active_load x) ≡ true → in_contact x ≡ true
active_is x is = by (active x) refl (sym (some_mapped (λ bearer. load_of (facing bearer x).near) (active x)) ∙ is)
  where
    by : (o : Option ℕ) → active x ≡ o → is_some o ≡ true → in_contact x ≡ true
    by None none some = absurd cc
    by (Some bearer) there some = active_there x bearer there

-- ---- an arrival

-- what a pair made of a packet, as it told of it before
abbrev pub HasCommitted : Neighbour → (bearer es er : ℕ) → Fields → ℕ → BroadcastState → PairOutcome → List Transition → PairEnds → Out → Out → Type 0
HasCommitted x bearer es er p by shown outcome changes now box box' =
    (c : Course) × Arrives (facing bearer x.pair) es er p by shown c outcome × (now ≡ facing 0 c.pair) × (changes ≡ c.changes) × Adds box box' (sent_in c)

-- is what a neighbour makes of it
abbrev pub HasTaken : Neighbour → (bearer es er : ℕ) → Fields → ℕ → BroadcastState → PairOutcome → List Transition → Neighbour → Out → Out → Type 0
HasTaken x bearer es er p by shown given changes y box box' =
    (o : Outset) × HearsAt x bearer es er p by shown o × (o.given ≡ given) × (o.course.changes ≡ changes) × (y ≡ heard_neighbour x o) × Adds box box' (sent_in o.course)

-- the neighbour where that became of its pair
abbrev pub moved : Neighbour → PairEnds → List Transition → Neighbour
moved x pair changes = record { pair = pair; casts = casts_after x.casts changes }

pub takes : (x : Neighbour) (bearer es er : ℕ) (p : Fields) (by : ℕ) (shown : BroadcastState) (outcome given : PairOutcome) (changes : List Transition) (now : PairEnds) (box box' : Out)
    → x.pair.bearer ≡ 0 → outcome ≡ given → HasCommitted x bearer es er p by shown outcome changes now box box' → HasTaken x bearer es er p by shown given changes (moved x now changes) box box'
takes x bearer es er p by shown outcome given changes now box box' first same h =
    let c = h.0 in
    let arrives : Arrives (facing bearer x.pair) es er p by shown c given = subst (λ g. Arrives (facing bearer x.pair) es er p by shown c g) same h.1 in
    let pair : now ≡ facing x.pair.bearer c.pair = h.2 ∙ ap (λ b. facing b c.pair) (sym first) in (
      record { course = seen_as x.pair c; given = given },
      (c, given, arrives, refl),
      refl,
      sym h.3,
      (λ i. moved x (pair i) (h.3 i)),
      h.4,
    )

-- where a contact begins there is one
pub taken_contact : (x : Neighbour) (bearer es er : ℕ) (p : Fields) (by : ℕ) (shown : BroadcastState) (given : PairOutcome) (changes : List Transition) (y : Neighbour) (box box' : Out) → IsPairOfEnds x.pair
    → HasTaken x bearer es er p by shown given changes y box box' → begins changes ≡ true → in_contact y.pair ≡ true
taken_contact x bearer es er p by shown given changes y box box' sound h is =
    let o = h.0 in
    let so = happened_so x.pair (hears bearer es er p by shown) o (pair_on x.pair sound) tt h.1 in
    ap (λ (z : Neighbour). in_contact z.pair) h.4 ∙ begins_there x.pair o.course so.tells (ap begins h.3 ∙ is)

-- and none ends
pub taken_once : (x : Neighbour) (bearer es er : ℕ) (p : Fields) (by : ℕ) (shown : BroadcastState) (given : PairOutcome) (changes : List Transition) (y : Neighbour) (box box' : Out) → IsPairOfEnds x.pair
    → HasTaken x bearer es er p by shown given changes y box box' → begins changes ≡ true → ends changes ≡ false
taken_once x bearer es er p by shown given changes y box box' sound h is =
    let o = h.0 in
    let so = happened_so x.pair (hears bearer es er p by shown) o (pair_on x.pair sound) tt h.1 in
    ap ends (sym h.3) ∙ begins_once x.pair o.course so.tells (ap begins h.3 ∙ is)

-- ---- what the broadcast link is told

-- a STATE is taken only where there is contact then
pub state_met : (x : Neighbour) (bearer es er : ℕ) (p : Fields) (by : ℕ) (shown : BroadcastState) (o : Outset) → x.pair.bearer ≤ 1 → bearer ≤ 1 → HearsAt x bearer es er p by shown o
    → (said : Header) (given : PairOutcome) → p.header ≡ said → o.given ≡ given → is_some (stated_in said given) ≡ true → in_contact o.course.pair ≡ true
state_met x bearer es er p by shown o two one heard (header.State said) (PairOutcome.Took opened) is took some =
    let first = state_heard_first x.pair bearer es er p by shown o opened said two one is heard took in
    sym (let m = meets_facing bearer o.course.pair in m.there) ∙ ap (λ b. b || is_up_at (facing bearer o.course.pair).far) first.up
state_met x bearer es er p by shown o two one heard (header.State said) PairOutcome.Deferred is took some = absurd (let wrong : false ≡ true = some in cc)
state_met x bearer es er p by shown o two one heard (header.State said) (PairOutcome.Ignored reason) is took some = absurd (let wrong : false ≡ true = some in cc)
state_met x bearer es er p by shown o two one heard other given is took some = absurd (let wrong : false ≡ true = some in cc)

-- the contact begins or ends once at most, and a STATE is taken only in one
pub taken_told : (x : Neighbour) (bearer es er : ℕ) (p : Fields) (by : ℕ) (shown : BroadcastState) (given : PairOutcome) (changes : List Transition) (y : Neighbour) (box box' : Out) → IsPairOfEnds x.pair → x.pair.bearer ≡ 0 → bearer ≤ 1
    → HasTaken x bearer es er p by shown given changes y box box' → CanBeTold (in_contact x.pair) changes (stated_in p.header given)
taken_told x bearer es er p by shown given changes y box box' sound first one h =
    let o = h.0 in
    let so = happened_so x.pair (hears bearer es er p by shown) o (pair_on x.pair sound) tt h.1 in
    record {
      contact = subst (λ (cs : List Transition). IsContactChange (in_contact x.pair) (filter is_of_contact cs)) h.3 (change_fits x.pair o.course so.tells);
      state = λ some.
          ap (λ (cs : List Transition). is_joined_by (in_contact x.pair) (filter is_of_contact cs)) (sym h.3) ∙ sym (joined_then x.pair o.course so.tells)
          ∙ state_met x bearer es er p by shown o (omega (arith, first)) one h.1 p.header given refl h.2 some;
    }

-- so it is where something happens to all neighbours alike
pub part_told : (d : Upkeep) (shown : BroadcastState) (x : Neighbour) → IsPairOfEnds x.pair → IsContactChange (in_contact x.pair) (filter is_of_contact (course_of d shown x).changes)
part_told d shown x sound =
    change_fits x.pair (course_of d shown x)
    (happened_so x.pair (opening_of d shown x) (quietly (course_of d shown x)) (pair_on x.pair sound) (upkeep_happens d shown x).2 (upkeep_happens d shown x).0).tells
