-- By a calm tick each link end that is up tells the STATE of its session as it stood.
use Rattle.std.specs.Prelude.{◌==◌, cond, count_by, nat_le, slice_index_or}
use Rattle.std.specs.List.{Contains, flat_map}
use Rattle.std.proofs.Common.{◌≡◌, ◌≤◌, ◌∙◌, ◌+◌, ℕ, zero, suc, Bool, true, false, List, [], ◌∷◌, ◌++◌, Option, Some, None, option_map, refl, sym, ap, subst, arith, add-zero, zero-add}
use Rattle.std.proofs.lemmas.Bool.Decides.{nat_tests}
use Rattle.std.proofs.lemmas.List.Elements.{Contains-append_left, Contains-append_right}
use Rattle.std.proofs.lemmas.List.Sums.{sum_by-append}
use Rattle.tipc_types.specs.LinkStates.{is_up}
use Rattle.tipc_types.specs.Address.{node_word}
use Rattle.tipc_types.specs.declared.link_words.BroadcastState.{BroadcastState}
use Rattle.tipc_types.specs.declared.link_words.LinkState.{LinkState}
use Rattle.tipc_types.specs.declared.link_words.LinkState.TheVariants.{Held, ResetReset, ResetUnknown, WorkingUnknown, WorkingWorking}
use Rattle.tipc_types.specs.declared.link_words.Cause.TheVariants as cause
use Rattle.tipc_types.specs.declared.link_words.Reply.TheVariants as reply
use Rattle.tipc_types.specs.declared.node_calls.Answer.{Answer}
use Rattle.tipc_types.specs.declared.node_calls.By.{By}
use Rattle.tipc_types.specs.declared.node_calls.EventNote.TheVariants.{Tick}
use Rattle.tipc_outside.specs.declared.outgoing.Outgoing.{Outgoing}
use Rattle.tipc_link_fsm.specs.declared.changes.Change.TheVariants.{Answer as Answering, Down}
use Rattle.tipc_link_fsm.specs.Table.{Outcome, gives, lowered, on_tick, tick_in, unheard, up_tick}
use Rattle.tipc_link.specs.Links.{LinkEnd, after, state_frames}
use Rattle.tipc_link.specs.Sessions.{SessionEnd, after_state, state_frame}
use Rattle.tipc_broadcast.specs.Casting.{Casting, shown as shown_of}
use Rattle.tipc_broadcast.specs.Deeds.{after_deeds, deeds_frames}
use Rattle.tipc_pair.specs.Changeovers.{is_clear, let_go, let_go_frames, release_near, released}
use Rattle.tipc_pair.specs.Courses.{Course, going_on, rests as nothing}
use Rattle.tipc_pair.specs.Facing.{PairEnds, facing, is_up_at, turned}
use Rattle.tipc_pair.specs.PairCalls.{at_bearer, stepped, tick_at, tick_near, ticked}
use Rattle.tipc_pair.proofs.Facings.{facing_far, facing_near}
use Rattle.tipc_pair.proofs.acts.Acts.{turned_back}
use Rattle.tipc_pair.proofs.acts.Walks.{tested}
use Rattle.tipc_node.proofs.pairs.Strangers.{kept_abreast, pair_there}
use Rattle.tipc_node.specs.declared.neighbours.Neighbour.{Neighbour}
use Rattle.tipc_node.specs.declared.neighbours.Upkeep.TheVariants as upkeep
use Rattle.tipc_node.specs.Calls.{CallTurn, Performs}
use Rattle.tipc_node.specs.Casting.{contact_deeds}
use Rattle.tipc_node.specs.Discovery.{requests_by}
use Rattle.tipc_node.specs.Neighbours.{Done, done}
use Rattle.tipc_node.specs.Nodes.{NodeState, after_one, change_entries, changes_at, end_with, entries_all, is_change, neighbour_of, numbered_all, part_all, part_at, parts_of, states_all, states_one, upkeep_deeds}
use Rattle.tipc_node.specs.Sockets.{kept_answer}
use Rattle.tipc_node.proofs.turns.Shares.{after_at}
use Rattle.tipc_settling.specs.Goings.{up_session}
use Rattle.tipc_settling.specs.Loads.{IsCalm}
use Rattle.tipc_settling.specs.Repairs.{EndTells, SaysStateTo}
use Rattle.tipc_settling.proofs.Calm.{no_changes}
use Rattle.tipc_settling.proofs.Packets.{none_behind, none_in_front}
use Rattle.tipc_settling.proofs.SessionsGoing.{release_lasts, unheard_up, up_now, up_then}
use Rattle.tipc_settling.proofs.Ticks.{tick_entries}

-- ---- one end

-- what a tick makes of the near end, where it tells nothing
record OneTells (shown : BroadcastState) (x : PairEnds) (c : Course) : Type 0 where
  tells : EndTells shown c.states x.near c.pair.near
  far : c.pair.far ≡ x.far
  bearer : c.pair.bearer ≡ x.bearer

first_of : {A : Type 0} (x : A) (xs : List A) → Contains (x ∷ xs) x
first_of x xs = (0, omega arith, refl)

-- an end that isn't up tells nothing
still_tells : (shown : BroadcastState) (x : PairEnds) (e : LinkEnd) (c : Course) → x.near ≡ Some e → is_up e.fsm.state ≡ false → c.pair.far ≡ x.far → c.pair.bearer ≡ x.bearer → OneTells shown x c
still_tells shown x e c near down far bearer = record {
  tells = λ s is. (let now = up_now e s (sym (ap up_session near) ∙ is) in absurd (let wrong : false ≡ true = sym down ∙ now.0 in cc));
  far = far;
  bearer = bearer;
}

-- an end that is up does
up_tells : (shown : BroadcastState) (x : PairEnds) (e : LinkEnd) (probe : Bool) → x.near ≡ Some e → OneTells shown x (stepped x e (gives (unheard e.fsm) (Answering (reply.State probe))) 0 shown)
unfolding going_on
up_tells shown x e probe near = record {
  tells = λ s is.
      (let now = up_now e s (sym (ap up_session near) ∙ is) in
      let o = gives (unheard e.fsm) (Answering (reply.State probe)) in
      let frames : state_frames e.session shown probe ++ [] ≡ state_frame s shown probe ∷ [] = ap (λ o. state_frames o shown probe ++ []) now.1 in (
        probe,
        subst (λ fs. Contains fs (state_frame s shown probe)) (sym frames) (first_of (state_frame s shown probe) []),
        up_then (after e o) (after_state s) (unheard_up e.fsm) (ap (option_map after_state) now.1),
      ));
  far = refl;
  bearer = refl;
}

up_tick_tells : (shown : BroadcastState) (x : PairEnds) (e : LinkEnd) (held : Bool) → x.near ≡ Some e → (stepped x e (up_tick e.fsm held) 0 shown).changes ≡ [] → OneTells shown x (stepped x e (up_tick e.fsm held) 0 shown)
unfolding going_on
up_tick_tells shown x e held near =
    tested (λ (o : Outcome). (stepped x e o 0 shown).changes ≡ [] → OneTells shown x (stepped x e o 0 shown)) (e.fsm.silent == 4)
    (gives (lowered e.fsm held) (Down cause.Silent)) (gives (unheard e.fsm) (Answering (reply.State (nat_le 1 e.fsm.silent))))
    (λ four none. absurd cc) (λ fewer none. up_tells shown x e (nat_le 1 e.fsm.silent) near)

tick_in_tells : (st : LinkState) (shown : BroadcastState) (x : PairEnds) (e : LinkEnd) (held : Bool) → x.near ≡ Some e → e.fsm.state ≡ st
    → (stepped x e (tick_in st e.fsm held) 0 shown).changes ≡ [] → OneTells shown x (stepped x e (tick_in st e.fsm held) 0 shown)
unfolding going_on
tick_in_tells ResetUnknown shown x e held near is none = still_tells shown x e _ near (ap is_up is) refl refl
tick_in_tells ResetReset shown x e held near is none = still_tells shown x e _ near (ap is_up is) refl refl
tick_in_tells Held shown x e held near is none = still_tells shown x e _ near (ap is_up is) refl refl
tick_in_tells WorkingWorking shown x e held near is none = up_tick_tells shown x e held near none
tick_in_tells WorkingUnknown shown x e held near is none = up_tick_tells shown x e held near none

tick_at_tells : (shown : BroadcastState) (x : PairEnds) (o : Option LinkEnd) → x.near ≡ o → (tick_at shown x o).changes ≡ [] → OneTells shown x (tick_at shown x o)
unfolding on_tick
tick_at_tells shown x None near none = record { tells = λ s is. absurd (let wrong : None ≡ Some s = sym (ap up_session near) ∙ is in cc); far = refl; bearer = refl }
tick_at_tells shown x (Some e) near none = tick_in_tells e.fsm.state shown x e (is_up_at x.far) near refl none

-- ---- both ends

-- both ends of a pair that is seen from bearer 0
record BothTell (shown : BroadcastState) (x : PairEnds) (c : Course) : Type 0 where
  near : EndTells shown c.states x.near c.pair.near
  far : EndTells shown c.states x.far c.pair.far
  bearer : c.pair.bearer ≡ x.bearer

at_zero : (x : PairEnds) (call : PairEnds → Course) → x.bearer ≡ 0 → (call x).pair.bearer ≡ 0 → at_bearer 0 x call ≡ call x
at_zero x call here there =
    let same = facing_near 0 x here in
    let back : facing x.bearer (call x).pair ≡ (call x).pair = facing_near x.bearer (call x).pair (there ∙ sym here) in
    ap (λ y. record (call y) { pair = facing x.bearer (call y).pair }) same ∙ ap (λ y. record (call x) { pair = y }) back

at_one : (x : PairEnds) (call : PairEnds → Course) → x.bearer ≡ 0 → (call (turned x)).pair.bearer ≡ 1 → at_bearer 1 x call ≡ turned_back (call (turned x))
at_one x call here there =
    let apart : (x.bearer == 1) ≡ false = grind (arith, nat_tests, here) in
    let other_one : ((call (turned x)).pair.bearer == x.bearer) ≡ false = grind (arith, nat_tests, here, there) in
    let same = facing_far 1 x apart in
    let back : facing x.bearer (call (turned x)).pair ≡ turned (call (turned x)).pair = facing_far x.bearer (call (turned x)).pair other_one in
    ap (λ y. record (call y) { pair = facing x.bearer (call y).pair }) same ∙ ap (λ y. record (call (turned x)) { pair = y }) back

-- what is told is told in more
more_behind : (shown : BroadcastState) (xs ys : List Outgoing) (o p : Option LinkEnd) → EndTells shown xs o p → EndTells shown (xs ++ ys) o p
more_behind shown xs ys o p h s is = (let told = h s is in (told.0, Contains-append_left xs ys (state_frame s shown told.0) told.1, told.2))

more_before : (shown : BroadcastState) (xs ys : List Outgoing) (o p : Option LinkEnd) → EndTells shown ys o p → EndTells shown (xs ++ ys) o p
more_before shown xs ys o p h s is = (let told = h s is in (told.0, Contains-append_right xs ys (state_frame s shown told.0) told.1, told.2))

-- an end that goes on being up, in its session
abbrev Keeps : Option LinkEnd → Option LinkEnd → Type 0
Keeps o p = (s : SessionEnd) → up_session o ≡ Some s → up_session p ≡ Some s

kept_tells : (shown : BroadcastState) (frames : List Outgoing) (o p q : Option LinkEnd) → EndTells shown frames o p → Keeps p q → EndTells shown frames o q
kept_tells shown frames o p q h keep s is = (let told = h s is in (told.0, told.1, keep (after_state s) told.2))

lets_go_keep : (o : Option LinkEnd) → Keeps o (option_map let_go o)
lets_go_keep None s is = absurd (let wrong : None ≡ Some s = is in cc)
lets_go_keep (Some e) s is = (let now = up_now e s is in up_then (let_go e) s (release_lasts e.fsm now.0) now.1)

-- at the end of a call either end may be released, which is none that is up
record KeepsBoth (x : PairEnds) (c : Course) : Type 0 where
  near : Keeps x.near c.pair.near
  far : Keeps x.far c.pair.far
  bearer : c.pair.bearer ≡ x.bearer

release_keeps : (x : PairEnds) → KeepsBoth x (release_near x)
release_keeps x = tested (KeepsBoth x) (is_clear x.far) (record (nothing (record x { near = option_map let_go x.near })) { states = let_go_frames x.near }) (nothing x)
    (λ _. record { near = lets_go_keep x.near; far = λ s is. is; bearer = refl }) (λ _. record { near = λ s is. is; far = λ s is. is; bearer = refl })

released_keeps : (x : PairEnds) → x.bearer ≤ 1 → KeepsBoth x (released x)
unfolding released going_on
released_keeps x two =
    let first = release_keeps x in
    let y = (release_near x).pair in
    let second = release_keeps (turned y) in
    let there = first.bearer in
    let back = second.bearer in
    record {
      near = λ s is. second.far s (first.near s is);
      far = λ s is. second.near s (first.far s is);
      bearer = omega (arith, two, there, back);
    }

first_tells : (shown : BroadcastState) (x : PairEnds) → x.bearer ≡ 0 → (at_bearer 0 x (tick_near shown)).changes ≡ [] → OneTells shown x (at_bearer 0 x (tick_near shown))
first_tells shown x here none =
    let call = tick_near shown in
    let quiet : (call x).changes ≡ [] = ap (λ y. (call y).changes) (sym (facing_near 0 x here)) ∙ none in
    let h = tick_at_tells shown x x.near refl quiet in
    subst (OneTells shown x) (sym (at_zero x call here (h.bearer ∙ here))) h

-- what a tick at the far end makes of it, where it tells nothing
record FarTells (shown : BroadcastState) (x : PairEnds) (c : Course) : Type 0 where
  tells : EndTells shown c.states x.far c.pair.far
  near : c.pair.near ≡ x.near
  bearer : c.pair.bearer ≡ x.bearer

second_tells : (shown : BroadcastState) (x : PairEnds) → x.bearer ≡ 0 → (at_bearer 1 x (tick_near shown)).changes ≡ [] → FarTells shown x (at_bearer 1 x (tick_near shown))
second_tells shown x here none =
    let call = tick_near shown in
    let y = turned x in
    let apart : (x.bearer == 1) ≡ false = grind (arith, nat_tests, here) in
    let quiet : (call y).changes ≡ [] = ap (λ z. (call z).changes) (sym (facing_far 1 x apart)) ∙ none in
    let h = tick_at_tells shown y y.near refl quiet in
    let bearer = h.bearer in
    let there : (call y).pair.bearer ≡ 1 = omega (arith, bearer, here) in
    subst (FarTells shown x) (sym (at_one x call here there)) (record { tells = h.tells; near = h.far; bearer = omega (arith, there, here) })

ticked_tells : (shown : BroadcastState) (x : PairEnds) → x.bearer ≡ 0 → (ticked shown x).changes ≡ [] → BothTell shown x (ticked shown x)
unfolding going_on
ticked_tells shown x zero_is none =
    let call = tick_near shown in
    let first = at_bearer 0 x call in
    let both = going_on first (λ y. at_bearer 1 y call) in
    let second = at_bearer 1 first.pair call in
    let quiet_both = none_in_front both.changes (released both.pair).changes none in
    let quiet_first = none_in_front first.changes second.changes quiet_both in
    let quiet_second = none_behind first.changes second.changes quiet_both in
    let one = first_tells shown x zero_is quiet_first in
    let two = second_tells shown first.pair (one.bearer ∙ zero_is) quiet_second in
    let bearer_one = one.bearer in
    let bearer_two = two.bearer in
    let keeps = released_keeps both.pair (omega (arith, zero_is, bearer_one, bearer_two)) in
    let last_bearer = keeps.bearer in
    record {
      near = more_behind shown both.states (released both.pair).states x.near (released both.pair).pair.near
          (kept_tells shown both.states x.near both.pair.near (released both.pair).pair.near (more_behind shown first.states second.states x.near second.pair.near (kept_tells shown first.states x.near first.pair.near second.pair.near one.tells (λ s is. ap up_session two.near ∙ is))) keeps.near);
      far = more_behind shown both.states (released both.pair).states x.far (released both.pair).pair.far
          (kept_tells shown both.states x.far both.pair.far (released both.pair).pair.far (more_before shown first.states second.states x.far second.pair.far (subst (λ o. EndTells shown second.states o second.pair.far) one.far two.tells)) keeps.far);
      bearer = last_bearer ∙ (two.bearer ∙ one.bearer);
    }

-- ---- a node

-- by bearer
pair_tells : (shown : BroadcastState) (frames : List Outgoing) (x y : PairEnds) → x.bearer ≡ 0 → y.bearer ≡ 0 → EndTells shown frames x.near y.near → EndTells shown frames x.far y.far → (bearer : ℕ) → bearer ≤ 1
    → EndTells shown frames (facing bearer x).near (facing bearer y).near
pair_tells shown frames x y here there near far zero one =
    subst (λ z. EndTells shown frames (facing 0 x).near z.near) (sym (facing_near 0 y there)) (subst (λ z. EndTells shown frames z.near y.near) (sym (facing_near 0 x here)) near)
pair_tells shown frames x y here there near far (suc zero) one =
    let apart : (x.bearer == 1) ≡ false = grind (arith, nat_tests, here) in
    let apart_then : (y.bearer == 1) ≡ false = grind (arith, nat_tests, there) in
    subst (λ z. EndTells shown frames (facing 1 x).near z.near) (sym (facing_far 1 y apart_then)) (subst (λ z. EndTells shown frames z.near y.far) (sym (facing_far 1 x apart)) far)
pair_tells shown frames x y here there near far (suc (suc b)) one = absurd (omega (arith, one))

-- where nothing is told of any neighbour, each one's part is made with the broadcast link as it was
calm_part : (number : ℕ) (v : Casting) (xs : List (Option Neighbour)) → count_by is_change (entries_all number (part_all upkeep.Tick number v xs)) ≡ 0 → (k : ℕ)
    → (slice_index_or (part_all upkeep.Tick number v xs) k None ≡ part_at upkeep.Tick (number + k) v (slice_index_or xs k None)) × (changes_at (slice_index_or (part_all upkeep.Tick number v xs) k None) ≡ [])
unfolding part_all entries_all
calm_part number v [] none k = (refl, refl)
calm_part number v (o ∷ xs) none zero =
    let p = part_at upkeep.Tick number v o in
    let w = after_deeds (contact_deeds number (changes_at p)) v in
    (ap (λ j. part_at upkeep.Tick j v o) (sym (add-zero number)), no_changes number (changes_at p) (entries_all (number + 1) (part_all upkeep.Tick (number + 1) w xs)) none)
calm_part number v (o ∷ xs) none (suc k) =
    let p = part_at upkeep.Tick number v o in
    let w = after_deeds (contact_deeds number (changes_at p)) v in
    let rest = part_all upkeep.Tick (number + 1) w xs in
    let parts = sum_by-append (λ e. cond (is_change e) 1 0) (change_entries number (changes_at p)) (entries_all (number + 1) rest) in
    let quiet = no_changes number (changes_at p) (entries_all (number + 1) rest) none in
    let same : w ≡ v = ap (λ cs. after_deeds (contact_deeds number cs) v) quiet in
    let later = calm_part (number + 1) w xs (omega (arith, none, parts)) k in
    let place : number + 1 + k ≡ number + suc k = omega arith in
    (later.0 ∙ (ap (λ u. part_at upkeep.Tick (number + 1 + k) u (slice_index_or xs k None)) same ∙ ap (λ j. part_at upkeep.Tick j v (slice_index_or xs k None)) place), later.1)

-- what one neighbour's part sends is sent
in_all : (parts : List (Option Done)) (k : ℕ) (d : Done) (o : Outgoing) → slice_index_or parts k None ≡ Some d → Contains d.states o → Contains (flat_map states_one parts) o
in_all [] k d o is there = absurd cc
in_all (p ∷ ps) zero d o is there = Contains-append_left (states_one p) (flat_map states_one ps) o (subst (λ q. Contains (states_one q) o) (sym is) there)
in_all (p ∷ ps) (suc k) d o is there = Contains-append_right (states_one p) (flat_map states_one ps) o (in_all ps k d o is there)

in_states : (parts : List (Option Done)) (k : ℕ) (d : Done) (o : Outgoing) → slice_index_or parts k None ≡ Some d → Contains d.states o → Contains (states_all parts) o
unfolding states_all
in_states parts k d o is there = in_all parts k d o is there

-- the part of a neighbour in a calm tick
pub record OwnPart (n n' : NodeState) (frames : List Outgoing) (peer : ℕ) (x : Neighbour) : Type 0 where
  pub quiet : (ticked (shown_of n.casting (node_word peer)) x.pair).changes ≡ []
  pub then_is : neighbour_of n' peer ≡ Some (done upkeep.Tick (shown_of n.casting (node_word peer)) x).after
  pub sent : (o : Outgoing) → Contains (done upkeep.Tick (shown_of n.casting (node_word peer)) x).states o → Contains frames o

parts_at : (n : NodeState) → count_by is_change (entries_all 0 (parts_of upkeep.Tick n)) ≡ 0 → (peer : ℕ) (x : Neighbour) → neighbour_of n peer ≡ Some x
    → (slice_index_or (parts_of upkeep.Tick n) peer None ≡ Some (done upkeep.Tick (shown_of n.casting (node_word peer)) x)) × (changes_at (slice_index_or (parts_of upkeep.Tick n) peer None) ≡ [])
unfolding parts_of
parts_at n none peer x is =
    let part = calm_part 0 n.casting n.neighbours none peer in
    (part.0 ∙ (ap (λ k. part_at upkeep.Tick k n.casting (neighbour_of n peer)) (zero-add peer) ∙ ap (part_at upkeep.Tick peer n.casting) is), part.1)

pub own_part : (n n' : NodeState) (by : By) (frames : List Outgoing) (answered : Answer) → Performs n by Tick n' frames answered → CallTurn n n' by Tick [] (kept_answer answered) frames → IsCalm n n'
    → (peer : ℕ) (x : Neighbour) → neighbour_of n peer ≡ Some x → OwnPart n n' frames peer x
own_part n n' by frames answered h turn calm peer x is =
    let parts = parts_of upkeep.Tick n in
    let d = done upkeep.Tick (shown_of n.casting (node_word peer)) x in
    let part = parts_at n (tick_entries n n' by frames answered h calm) peer x is in
    let carried = h.carried in
    record {
      quiet = sym (ap changes_at part.0) ∙ part.1;
      then_is = ap (λ (m : NodeState). neighbour_of m peer) carried.0 ∙ (after_at parts peer ∙ ap after_one part.0);
      sent = λ o there. subst (λ fs. Contains fs o) (sym carried.1)
          (Contains-append_left (states_all parts ++ requests_by upkeep.Tick n) (numbered_all parts ++ deeds_frames (upkeep_deeds upkeep.Tick n) n.casting) o
          (Contains-append_left (states_all parts) (requests_by upkeep.Tick n) o (in_states parts peer d o part.0 there)));
    }

pub tick_tells : (n n' : NodeState) (by : By) (frames : List Outgoing) (answered : Answer) → Performs n by Tick n' frames answered → CallTurn n n' by Tick [] (kept_answer answered) frames → IsCalm n n'
    → (peer bearer : ℕ) → bearer ≤ 1 → SaysStateTo n n' frames peer bearer
tick_tells n n' by frames answered h turn calm peer bearer one = at (neighbour_of n peer) refl
  where
    at : (o : Option Neighbour) → neighbour_of n peer ≡ o → EndTells (shown_of n.casting (node_word peer)) frames (end_with bearer (neighbour_of n peer)) (end_with bearer (neighbour_of n' peer))
    at None is = λ s up. absurd (let wrong : None ≡ Some s = sym (ap (λ o. up_session (end_with bearer o)) is) ∙ up in cc)
    at (Some x) is =
        let part = own_part n n' by frames answered h turn calm peer x is in
        let shown = shown_of n.casting (node_word peer) in
        let d = done upkeep.Tick shown x in
        let zero_is = (kept_abreast n peer turn.told_before).first in
        let here : x.pair.bearer ≡ 0 = ap (λ (y : PairEnds). y.bearer) (sym (pair_there n peer x is)) ∙ zero_is in
        let both = ticked_tells shown x.pair here part.quiet in
        let told = pair_tells shown d.states x.pair d.after.pair here (both.bearer ∙ here) both.near both.far bearer one in
        let later : end_with bearer (neighbour_of n' peer) ≡ (facing bearer d.after.pair).near = ap (end_with bearer) part.then_is in
        (λ s up. (let tell = told s (sym (ap (λ o. up_session (end_with bearer o)) is) ∙ up) in
        (tell.0, part.sent (state_frame s shown tell.0) tell.1, ap up_session later ∙ tell.2)))
