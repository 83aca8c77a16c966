-- What is no arrival begins no contact: a bearer that is mended or cut, or a tick.
use Rattle.std.proofs.Common.{◌≡◌, ◌||◌, ℕ, false, List, [], ◌∷◌, ◌++◌, Option, Some, None, refl, ap, ◌∙◌}
use Rattle.std.specs.List.{flat_map}
use Rattle.std.proofs.lemmas.List.Folds.{list_any-append}
use Rattle.tipc_types.specs.LinkStates.{is_up}
use Rattle.tipc_types.specs.declared.link_words.BroadcastState.{BroadcastState}
use Rattle.tipc_link_fsm.specs.declared.changes.Change.{Change}
use Rattle.tipc_link_fsm.specs.declared.changes.Change.TheVariants.{Stay, Up, Down, Answer, Ignore}
use Rattle.tipc_link_fsm.specs.Table.{Fsm, Outcome, on_cut, on_tick}
use Rattle.tipc_link_fsm.proofs.Moves.{Moves, falls, is_going_up, on_tick_moves, rises, stays}
use Rattle.tipc_link.specs.Links.{LinkEnd}
use Rattle.tipc_link.specs.Sessions.{SessionEnd}
use Rattle.tipc_pair.specs.declared.transitions.Transition.{Transition}
use Rattle.tipc_pair.specs.declared.transitions.Transition.TheVariants.{ContactDown}
use Rattle.tipc_pair.specs.Changeovers.{at_far, contact_ends, ended_with, fail_over, fail_over_to, failing, following, gone_down, is_clear, parted, release_near, released}
use Rattle.tipc_pair.specs.Courses.{Course, going_on}
use Rattle.tipc_pair.specs.Facing.{PairEnds, ends_of, facing, is_up_at, states_of, turned}
use Rattle.tipc_pair.specs.PairCalls.{at_bearer, cut_at, cut_near, stepped, tick_at, tick_near, ticked}
use Rattle.tipc_pair.specs.Messages.{opened_in}
use Rattle.tipc_pair.specs.PairTurns.{Happened, MakesNew, Opening, Outset, quietly}
use Rattle.tipc_pair.specs.PairTurns.Opening.{cuts, hears, makes, mends, rests, ticks}
use Rattle.tipc_pair.proofs.EndSteps.{cut_quiet}
use Rattle.tipc_node.specs.declared.neighbours.Upkeep.{Upkeep}
use Rattle.tipc_node.specs.declared.neighbours.Upkeep.TheVariants as upkeep
use Rattle.tipc_node.specs.declared.neighbours.Neighbour.{Neighbour}
use Rattle.tipc_node.specs.Neighbours.{course_of}
use Rattle.tipc_pair.specs.Contacts.{begins, is_beginning}
use Rattle.tipc_pair.proofs.acts.Walks.{tested}

-- a course by which no contact begins
abbrev pub IsCalm : Course → Type 0
IsCalm c = begins c.changes ≡ false

calm_on : (c : Course) (step : PairEnds → Course) → IsCalm c → IsCalm (step c.pair) → IsCalm (going_on c step)
unfolding going_on
calm_on c step first later = list_any-append is_beginning c.changes (step c.pair).changes ∙ ap (λ b. b || begins (step c.pair).changes) first ∙ later

-- ---- a link that goes down

ended_calm : (es : List LinkEnd) (last : List Transition) → begins last ≡ false → begins (flat_map ended_with es ++ last) ≡ false
ended_calm [] last calm = calm
ended_calm (e ∷ es) last calm = tested (λ xs. begins ((xs ++ flat_map ended_with es) ++ last) ≡ false) (is_up e.fsm.state) _ _ (λ up. ended_calm es last calm) (λ down. ended_calm es last calm)

failing_calm : (x : PairEnds) (near far : LinkEnd) (lost s : Option SessionEnd) → IsCalm (failing x near far lost s)
failing_calm x near far (Some lost) (Some s) = refl
failing_calm x near far (Some lost) None = refl
failing_calm x near far None s = refl

fail_over_calm : (x : PairEnds) (near far : Option LinkEnd) → IsCalm (fail_over_to x near far)
fail_over_calm x (Some near) (Some far) = failing_calm x near far near.session far.session
fail_over_calm x (Some near) None = refl
fail_over_calm x None far = refl

down_calm : (x : PairEnds) → IsCalm (gone_down x)
down_calm x = tested IsCalm (is_up_at x.far) (fail_over x) (contact_ends x (x.contact, x.seen) 0) (λ _. fail_over_calm x x.near x.far) (λ _. ended_calm (ends_of x) (ContactDown (x.contact, x.seen) (states_of (parted x)) 0 ∷ []) refl)

follows_calm : (x : PairEnds) (change : Change) (epoch : ℕ) → is_going_up change ≡ false → IsCalm (following x change epoch)
follows_calm x Up epoch low = absurd cc
follows_calm x (Down because) epoch low = down_calm x
follows_calm x Stay epoch low = refl
follows_calm x (Answer back) epoch low = refl
follows_calm x (Ignore reason) epoch low = refl

release_calm : (x : PairEnds) → IsCalm (release_near x)
release_calm x = tested IsCalm (is_clear x.far) _ _ (λ _. refl) (λ _. refl)

released_calm : (x : PairEnds) → IsCalm (released x)
unfolding released
released_calm x = calm_on (release_near x) (at_far release_near) (release_calm x) (release_calm (turned (release_near x).pair))

-- ---- the bearer is mended or cut

cut_there : (x : PairEnds) (near : Option LinkEnd) → IsCalm (cut_at x near)
cut_there x None = refl
cut_there x (Some e) = follows_calm _ (on_cut e.fsm (is_up_at x.far)).change 0 (cut_quiet e.fsm (is_up_at x.far))

cut_calm : (x : PairEnds) → IsCalm (cut_near x)
cut_calm x = calm_on (cut_at x x.near) released (cut_there x x.near) (released_calm (cut_at x x.near).pair)

-- ---- a tick

tick_falls : (f : Fsm) (o : Outcome) → Moves f None o → is_going_up o.change ≡ false
tick_falls f o (stays own up change) = change
tick_falls f o (rises es own was up last told_it peer change) = absurd cc
tick_falls f o (falls own down change) = change

stepped_calm : (x : PairEnds) (e : LinkEnd) (o : Outcome) (epoch : ℕ) (shown : BroadcastState) → is_going_up o.change ≡ false → IsCalm (stepped x e o epoch shown)
stepped_calm x e o epoch shown low = calm_on _ (λ y. following y o.change epoch) refl (follows_calm _ o.change epoch low)

tick_there : (x : PairEnds) (near : Option LinkEnd) (shown : BroadcastState) → IsCalm (tick_at shown x near)
tick_there x None shown = refl
tick_there x (Some e) shown = let o = on_tick e.fsm (is_up_at x.far) in stepped_calm x e o 0 shown (tick_falls e.fsm o (on_tick_moves e.fsm (is_up_at x.far) None))

ticked_calm : (x : PairEnds) (shown : BroadcastState) → IsCalm (ticked shown x)
ticked_calm x shown =
    let one = at_bearer 0 x (tick_near shown) in
    let two : PairEnds → Course = λ y. at_bearer 1 y (tick_near shown) in
    let first = tick_there (facing 0 x) (facing 0 x).near shown in
    let second = tick_there (facing 1 one.pair) (facing 1 one.pair).near shown in
    calm_on (going_on one two) released (calm_on one two first second) (released_calm (going_on one two).pair)

-- ---- what happens first

-- nothing arrives, and no end is made
abbrev pub IsOwn : Opening → Type 0
IsOwn (hears bearer es er p by shown) = ⊥
IsOwn (makes bearer is_mended) = ⊥
IsOwn other = Unit {0}

pub own_calm : (x : PairEnds) (opening : Opening) (o : Outset) → IsOwn opening → Happened x opening o → IsCalm o.course × (opened_in o.given ≡ [])
own_calm x rests o own is = (ap (λ (u : Outset). begins u.course.changes) is, ap (λ (u : Outset). opened_in u.given) is)
own_calm x (makes bearer is_mended) o own is = absurd own
own_calm x (mends bearer) o own is = (ap (λ (u : Outset). begins u.course.changes) is, ap (λ (u : Outset). opened_in u.given) is)
own_calm x (cuts bearer) o own is = (ap (λ (u : Outset). begins u.course.changes) is ∙ cut_calm (facing bearer x), ap (λ (u : Outset). opened_in u.given) is)
own_calm x (ticks shown) o own is = (ap (λ (u : Outset). begins u.course.changes) is ∙ ticked_calm x shown, ap (λ (u : Outset). opened_in u.given) is)
own_calm x (hears bearer es er p by shown) o own is = absurd own

-- ---- what happens to all neighbours alike

abbrev pub opening_of : Upkeep → BroadcastState → Neighbour → Opening
opening_of (upkeep.Mend bearer) shown x = mends bearer
opening_of (upkeep.Cut bearer) shown x = cuts bearer
opening_of upkeep.Tick shown x = ticks shown

-- it happens first at the pair to a neighbour
pub upkeep_happens : (d : Upkeep) (shown : BroadcastState) (x : Neighbour) → Happened x.pair (opening_of d shown x) (quietly (course_of d shown x)) × IsOwn (opening_of d shown x) × MakesNew x.pair (opening_of d shown x)
upkeep_happens (upkeep.Mend bearer) shown x = (refl, tt, tt)
upkeep_happens (upkeep.Cut bearer) shown x = (refl, tt, tt)
upkeep_happens upkeep.Tick shown x = (refl, tt, tt)
