-- The entries of a step by the peers of which they tell: of changes, of what was given, and of what happens to all neighbours.
use Rattle.std.proofs.Common.{◌≡◌, ◌≢◌, ◌+◌, ◌<◌, ◌^◌, ◌==◌, ◌&&◌, ℕ, zero, suc, Bool, true, false, List, [], ◌∷◌, ◌++◌, Option, Some, None, filter, is_some, map, slice_index_or, if◌then◌else◌, refl, sym, ap, ◌∙◌, subst, append-nil, arith}
use Rattle.std.specs.Prelude.{All}
use Rattle.std.specs.List.{flat_map, list_all}
use Rattle.std.proofs.lemmas.Bool.Decides.{nat_tests}
use Rattle.std.proofs.lemmas.List.Elements.{All-append, All-cons, All-nil, All-weaker, filter-append}
use Rattle.std.proofs.lemmas.List.Folds.{list_all-append}
use Rattle.tipc_types.specs.declared.message_forms.Flow.{Flow}
use Rattle.tipc_types.specs.declared.message_forms.Flow.TheVariants.{Broadcast, One, Zero}
use Rattle.tipc_types.specs.declared.message_forms.Message.{Message}
use Rattle.tipc_types.specs.Address.{node_word}
use Rattle.tipc_outside.specs.declared.outgoing.Outgoing.{Outgoing}
use Rattle.tipc_journal.specs.declared.entries.Entry.{Entry}
use Rattle.tipc_journal.specs.Steps.{IsInside, is_inner}
use Rattle.tipc_journal.specs.Streams.{flow_eq}
use Rattle.tipc_reassembly.specs.declared.opening.Opened.{Opened}
use Rattle.tipc_reassembly.specs.declared.opening.Opened.TheVariants.{Passed, Whole}
use Rattle.tipc_pair.specs.declared.transitions.Transition.{Transition}
use Rattle.tipc_pair.specs.declared.transitions.Transition.TheVariants.{ContactDown, ContactUp, LinkDown, LinkUp}
use Rattle.tipc_node.specs.declared.neighbours.Upkeep.{Upkeep}
use Rattle.tipc_node.specs.Neighbours.{Done, IsOnBearer}
use Rattle.tipc_node.specs.Messages.{message_in_flow}
use Rattle.tipc_node.specs.Nodes.{NodeState, change_entries, change_entry, delivered_by, deliveries_of, entries_all, entries_in, entries_one, deeds_all, deeds_one, neighbour_of, numbered_all, numbered_one, parts_of, states_all, states_one, upkeep_deeds}
use Rattle.tipc_node.specs.Discovery.{requests_by, upkeep_frames}
use Rattle.tipc_node.specs.Turns.IsRouted.{of_broadcast, on_link}
use Rattle.tipc_node.specs.Turns.{IsOfNeighbour, IsPlaced, IsRouted, addr_of, delivered_entries, delivered_of, is_accepted_in, is_change_of, is_delivered_in}
use Rattle.tipc_pair.proofs.turns.Addressing.{AreFor}
use Rattle.tipc_node.proofs.journal.Telling.{same_word as own_word}
use Rattle.tipc_broadcast.specs.Deeds.{deeds_frames, is_deed_with, is_hearing_of, sends_nothing}
use Rattle.tipc_broadcast.specs.Pieces.{IsOfBroadcast}
use Rattle.tipc_node.proofs.turns.Discovery.{requests_routed}
use Rattle.tipc_node.proofs.turns.Parts.{parts_from}
use Rattle.tipc_node.proofs.turns.Lawful.{contacts_unheard, with_other, with_own}
use Rattle.tipc_node.proofs.work.Casting.{contacts_silent, silent_both}

flat_map_same : {A B : Type 0} (f g : A → List B) (xs : List A) → ((x : A) → f x ≡ g x) → flat_map f xs ≡ flat_map g xs
flat_map_same f g [] same = refl
flat_map_same f g (x ∷ xs) same = ap (λ ys. ys ++ flat_map f xs) (same x) ∙ ap (λ ys. g x ++ ys) (flat_map_same f g xs same)

pub other_word : (b c : ℕ) → c ≢ b → (node_word c == node_word b) ≡ false
other_word b c apart = grind (arith, nat_tests, apart)

-- ---- the entries of changes

-- what each of several becomes passes a test, or none does
each_passes : {A B : Type 0} (test : B → Bool) (f : A → B) → ((x : A) → test (f x) ≡ true) → (xs : List A) → filter test (map f xs) ≡ map f xs
each_passes test f passes [] = refl
each_passes test f passes (x ∷ xs) = ap (λ b. if b then f x ∷ filter test (map f xs) else filter test (map f xs)) (passes x) ∙ ap (λ ys. f x ∷ ys) (each_passes test f passes xs)

none_passes : {A B : Type 0} (test : B → Bool) (f : A → B) → ((x : A) → test (f x) ≡ false) → (xs : List A) → filter test (map f xs) ≡ []
none_passes test f fails [] = refl
none_passes test f fails (x ∷ xs) = ap (λ b. if b then f x ∷ filter test (map f xs) else filter test (map f xs)) (fails x) ∙ none_passes test f fails xs

one_is_own : (b : ℕ) (t : Transition) → is_change_of b (change_entry b t) ≡ true
one_is_own b (LinkUp bearer own theirs) = own_word b
one_is_own b (LinkDown bearer because shown) = own_word b
one_is_own b (ContactUp numbers) = own_word b
one_is_own b (ContactDown numbers states shown) = own_word b

one_is_other : (b peer : ℕ) → peer ≢ b → (t : Transition) → is_change_of b (change_entry peer t) ≡ false
one_is_other b peer apart (LinkUp bearer own theirs) = other_word b peer apart
one_is_other b peer apart (LinkDown bearer because shown) = other_word b peer apart
one_is_other b peer apart (ContactUp numbers) = other_word b peer apart
one_is_other b peer apart (ContactDown numbers states shown) = other_word b peer apart

one_accepts : (flow : Flow) (b peer : ℕ) (t : Transition) → is_accepted_in flow b (change_entry peer t) ≡ false
one_accepts flow b peer (LinkUp bearer own theirs) = refl
one_accepts flow b peer (LinkDown bearer because shown) = refl
one_accepts flow b peer (ContactUp numbers) = refl
one_accepts flow b peer (ContactDown numbers states shown) = refl

one_delivers : (flow : Flow) (b peer : ℕ) (t : Transition) → is_delivered_in flow b (change_entry peer t) ≡ false
one_delivers flow b peer (LinkUp bearer own theirs) = refl
one_delivers flow b peer (LinkDown bearer because shown) = refl
one_delivers flow b peer (ContactUp numbers) = refl
one_delivers flow b peer (ContactDown numbers states shown) = refl

one_is_inner : (peer : ℕ) (t : Transition) → is_inner (change_entry peer t) ≡ true
one_is_inner peer (LinkUp bearer own theirs) = refl
one_is_inner peer (LinkDown bearer because shown) = refl
one_is_inner peer (ContactUp numbers) = refl
one_is_inner peer (ContactDown numbers states shown) = refl

change_placed : (n : NodeState) (peer : ℕ) (t : Transition) → IsOfNeighbour n (addr_of peer) → IsPlaced n (change_entry peer t)
change_placed n peer (LinkUp bearer own theirs) of = of
change_placed n peer (LinkDown bearer because shown) of = of
change_placed n peer (ContactUp numbers) of = of
change_placed n peer (ContactDown numbers states shown) of = of

pub changes_own : (b : ℕ) (cs : List Transition) → filter (is_change_of b) (change_entries b cs) ≡ change_entries b cs
changes_own b cs = each_passes (is_change_of b) (change_entry b) (one_is_own b) cs

pub changes_other : (b peer : ℕ) (cs : List Transition) → peer ≢ b → filter (is_change_of b) (change_entries peer cs) ≡ []
changes_other b peer cs apart = none_passes (is_change_of b) (change_entry peer) (one_is_other b peer apart) cs

pub changes_accept : (flow : Flow) (b peer : ℕ) (cs : List Transition) → filter (is_accepted_in flow b) (change_entries peer cs) ≡ []
changes_accept flow b peer cs = none_passes (is_accepted_in flow b) (change_entry peer) (one_accepts flow b peer) cs

pub changes_deliver : (flow : Flow) (b peer : ℕ) (cs : List Transition) → filter (is_delivered_in flow b) (change_entries peer cs) ≡ []
changes_deliver flow b peer cs = none_passes (is_delivered_in flow b) (change_entry peer) (one_delivers flow b peer) cs

pub changes_inside : (peer : ℕ) (cs : List Transition) → IsInside (change_entries peer cs)
changes_inside peer [] = refl
changes_inside peer (t ∷ cs) = ap (λ b. b && list_all is_inner (change_entries peer cs)) (one_is_inner peer t) ∙ changes_inside peer cs

pub inside_both : (xs ys : List Entry) → IsInside xs → IsInside ys → IsInside (xs ++ ys)
inside_both xs ys hx hy = list_all-append is_inner xs ys ∙ ap (λ b. b && list_all is_inner ys) hx ∙ hy

pub changes_placed : (n : NodeState) (peer : ℕ) (cs : List Transition) → is_some (neighbour_of n peer) ≡ true → All (IsPlaced n) (change_entries peer cs)
changes_placed n peer [] there = All-nil (IsPlaced n)
changes_placed n peer (t ∷ cs) there = All-cons (IsPlaced n) (change_entry peer t) (change_entries peer cs) (change_placed n peer t (peer, there, refl)) (changes_placed n peer cs there)

-- ---- the entries of what was given

abbrev pub given_in : Flow → ℕ → ℕ × ℕ → List Opened → List Entry
given_in flow peer contact opened = entries_in (deliveries_of flow peer contact opened)

same_flow : (flow : Flow) → flow_eq flow flow ≡ true
same_flow Zero = refl
same_flow One = refl
same_flow Broadcast = refl

-- of a message that was delivered
one_given : (flow : Flow) (b : ℕ) (contact : ℕ × ℕ) (o : Option Message) (by : List ℕ) (rest more : List Entry) → filter (is_delivered_in flow b) rest ≡ more
    → filter (is_delivered_in flow b) (delivered_by flow b contact o by ∷ rest) ≡ delivered_entries flow b contact o by ++ more
one_given flow b contact None by rest more is = is
one_given flow b contact (Some m) by rest more is =
    let e = delivered_by flow b contact (Some m) by in
    ap (λ t. if t && flow_eq flow flow then e ∷ filter (is_delivered_in flow b) rest else filter (is_delivered_in flow b) rest) (own_word b)
    ∙ ap (λ t. if t then e ∷ filter (is_delivered_in flow b) rest else filter (is_delivered_in flow b) rest) (same_flow flow)
    ∙ ap (λ es. e ∷ es) is

pub given_own : (flow : Flow) (b : ℕ) (contact : ℕ × ℕ) (opened : List Opened) → filter (is_delivered_in flow b) (given_in flow b contact opened) ≡ flat_map (delivered_of flow b contact) opened
given_own flow b contact [] = refl
given_own flow b contact (Passed place ∷ opened) = given_own flow b contact opened
given_own flow b contact (Whole packet by ∷ opened) = one_given flow b contact (message_in_flow flow packet) by (given_in flow b contact opened) _ (given_own flow b contact opened)

-- of one that was delivered from another node, or in another flow
none_given : (flow its : Flow) (b peer : ℕ) (contact : ℕ × ℕ) (o : Option Message) (by : List ℕ) (rest : List Entry) → ((node_word peer == node_word b) && flow_eq its flow) ≡ false → filter (is_delivered_in flow b) rest ≡ []
    → filter (is_delivered_in flow b) (delivered_by its peer contact o by ∷ rest) ≡ []
none_given flow its b peer contact None by rest apart is = is
none_given flow its b peer contact (Some m) by rest apart is =
    ap (λ t. if t then delivered_by its peer contact (Some m) by ∷ filter (is_delivered_in flow b) rest else filter (is_delivered_in flow b) rest) apart ∙ is

all_ungiven : (flow its : Flow) (b peer : ℕ) (contact : ℕ × ℕ) (opened : List Opened) → ((node_word peer == node_word b) && flow_eq its flow) ≡ false → filter (is_delivered_in flow b) (given_in its peer contact opened) ≡ []
all_ungiven flow its b peer contact [] apart = refl
all_ungiven flow its b peer contact (Passed place ∷ opened) apart = all_ungiven flow its b peer contact opened apart
all_ungiven flow its b peer contact (Whole packet by ∷ opened) apart = none_given flow its b peer contact (message_in_flow its packet) by (given_in its peer contact opened) apart (all_ungiven flow its b peer contact opened apart)

pub given_other : (flow its : Flow) (b peer : ℕ) (contact : ℕ × ℕ) (opened : List Opened) → peer ≢ b → filter (is_delivered_in flow b) (given_in its peer contact opened) ≡ []
given_other flow its b peer contact opened apart = all_ungiven flow its b peer contact opened (ap (λ t. t && flow_eq its flow) (other_word b peer apart))

pub given_elsewhere : (flow its : Flow) (b peer : ℕ) (contact : ℕ × ℕ) (opened : List Opened) → flow_eq its flow ≡ false → filter (is_delivered_in flow b) (given_in its peer contact opened) ≡ []
given_elsewhere flow its b peer contact opened apart = all_ungiven flow its b peer contact opened (ap (λ t. (node_word peer == node_word b) && t) apart ∙ and_false (node_word peer == node_word b))
  where
    and_false : (t : Bool) → (t && false) ≡ false
    and_false true = refl
    and_false false = refl

-- ---- the entries of what happens to all neighbours; the first of them has that number

one_own : (b : ℕ) (x : Option Done) → filter (is_change_of b) (entries_one b x) ≡ entries_one b x
one_own b None = refl
one_own b (Some x) = changes_own b x.changes

one_other : (b c : ℕ) (x : Option Done) → c ≢ b → filter (is_change_of b) (entries_one c x) ≡ []
one_other b c None apart = refl
one_other b c (Some x) apart = changes_other b c x.changes apart

none_below : (first : ℕ) (xs : List (Option Done)) (b : ℕ) → b < first → filter (is_change_of b) (entries_all first xs) ≡ []
unfolding entries_all
none_below first [] b below = refl
none_below first (x ∷ xs) b below =
    filter-append (is_change_of b) (entries_one first x) (entries_all (first + 1) xs)
    ∙ ap (λ es. es ++ filter (is_change_of b) (entries_all (first + 1) xs)) (one_other b first x (λ e. omega (arith, below, e)))
    ∙ none_below (first + 1) xs b (omega (arith, below))

one_of : (first k : ℕ) (xs : List (Option Done)) (b : ℕ) → first + k ≡ b → filter (is_change_of b) (entries_all first xs) ≡ entries_one b (slice_index_or xs k None)
unfolding entries_all
one_of first k [] b is = refl
one_of first zero (x ∷ xs) b is =
    let here : first ≡ b = omega (arith, is) in
    filter-append (is_change_of b) (entries_one first x) (entries_all (first + 1) xs)
    ∙ ap (λ es. filter (is_change_of b) (entries_one first x) ++ es) (none_below (first + 1) xs b (omega (arith, here))) ∙ append-nil _
    ∙ ap (λ c. filter (is_change_of b) (entries_one c x)) here ∙ one_own b x
one_of first (suc k) (x ∷ xs) b is =
    filter-append (is_change_of b) (entries_one first x) (entries_all (first + 1) xs)
    ∙ ap (λ es. es ++ filter (is_change_of b) (entries_all (first + 1) xs)) (one_other b first x (λ e. omega (arith, is, e)))
    ∙ one_of (first + 1) k xs b (omega (arith, is))

pub all_changes : (xs : List (Option Done)) (b : ℕ) → filter (is_change_of b) (entries_all 0 xs) ≡ entries_one b (slice_index_or xs b None)
all_changes xs b = one_of 0 b xs b (omega arith)

one_accept : (flow : Flow) (b c : ℕ) (x : Option Done) → filter (is_accepted_in flow b) (entries_one c x) ≡ []
one_accept flow b c None = refl
one_accept flow b c (Some x) = changes_accept flow b c x.changes

pub all_accept : (flow : Flow) (b first : ℕ) (xs : List (Option Done)) → filter (is_accepted_in flow b) (entries_all first xs) ≡ []
unfolding entries_all
all_accept flow b first [] = refl
all_accept flow b first (x ∷ xs) =
    filter-append (is_accepted_in flow b) (entries_one first x) (entries_all (first + 1) xs)
    ∙ ap (λ es. es ++ filter (is_accepted_in flow b) (entries_all (first + 1) xs)) (one_accept flow b first x) ∙ all_accept flow b (first + 1) xs

one_deliver : (flow : Flow) (b c : ℕ) (x : Option Done) → filter (is_delivered_in flow b) (entries_one c x) ≡ []
one_deliver flow b c None = refl
one_deliver flow b c (Some x) = changes_deliver flow b c x.changes

pub all_deliver : (flow : Flow) (b first : ℕ) (xs : List (Option Done)) → filter (is_delivered_in flow b) (entries_all first xs) ≡ []
unfolding entries_all
all_deliver flow b first [] = refl
all_deliver flow b first (x ∷ xs) =
    filter-append (is_delivered_in flow b) (entries_one first x) (entries_all (first + 1) xs)
    ∙ ap (λ es. es ++ filter (is_delivered_in flow b) (entries_all (first + 1) xs)) (one_deliver flow b first x) ∙ all_deliver flow b (first + 1) xs

one_inside : (c : ℕ) (x : Option Done) → IsInside (entries_one c x)
one_inside c None = refl
one_inside c (Some x) = changes_inside c x.changes

pub all_inside : (first : ℕ) (xs : List (Option Done)) → IsInside (entries_all first xs)
unfolding entries_all
all_inside first [] = refl
all_inside first (x ∷ xs) = inside_both (entries_one first x) (entries_all (first + 1) xs) (one_inside first x) (all_inside (first + 1) xs)

-- ---- the deeds of all neighbours

silent_one : (c : ℕ) (x : Option Done) → list_all sends_nothing (deeds_one c x) ≡ true
silent_one c None = refl
silent_one c (Some x) = contacts_silent c x.changes

pub all_silent : (first : ℕ) (xs : List (Option Done)) → list_all sends_nothing (deeds_all first xs) ≡ true
unfolding deeds_all
all_silent first [] = refl
all_silent first (x ∷ xs) = silent_both (deeds_one first x) (deeds_all (first + 1) xs) (silent_one first x) (all_silent (first + 1) xs)

deeds_own_one : (b : ℕ) (x : Option Done) → filter (is_deed_with (node_word b)) (deeds_one b x) ≡ deeds_one b x
deeds_own_one b None = refl
deeds_own_one b (Some x) = with_own b x.changes

deeds_other_one : (b c : ℕ) (x : Option Done) → c ≢ b → filter (is_deed_with (node_word b)) (deeds_one c x) ≡ []
deeds_other_one b c None apart = refl
deeds_other_one b c (Some x) apart = with_other c b x.changes (λ e. apart (sym e))

deeds_below : (first : ℕ) (xs : List (Option Done)) (b : ℕ) → b < first → filter (is_deed_with (node_word b)) (deeds_all first xs) ≡ []
unfolding deeds_all
deeds_below first [] b below = refl
deeds_below first (x ∷ xs) b below =
    filter-append (is_deed_with (node_word b)) (deeds_one first x) (deeds_all (first + 1) xs)
    ∙ ap (λ ds. ds ++ filter (is_deed_with (node_word b)) (deeds_all (first + 1) xs)) (deeds_other_one b first x (λ e. omega (arith, below, e)))
    ∙ deeds_below (first + 1) xs b (omega (arith, below))

deeds_of_one : (first k : ℕ) (xs : List (Option Done)) (b : ℕ) → first + k ≡ b → filter (is_deed_with (node_word b)) (deeds_all first xs) ≡ deeds_one b (slice_index_or xs k None)
unfolding deeds_all
deeds_of_one first k [] b is = refl
deeds_of_one first zero (x ∷ xs) b is =
    let here : first ≡ b = omega (arith, is) in
    filter-append (is_deed_with (node_word b)) (deeds_one first x) (deeds_all (first + 1) xs)
    ∙ ap (λ ds. filter (is_deed_with (node_word b)) (deeds_one first x) ++ ds) (deeds_below (first + 1) xs b (omega (arith, here))) ∙ append-nil _
    ∙ ap (λ c. filter (is_deed_with (node_word b)) (deeds_one c x)) here ∙ deeds_own_one b x
deeds_of_one first (suc k) (x ∷ xs) b is =
    filter-append (is_deed_with (node_word b)) (deeds_one first x) (deeds_all (first + 1) xs)
    ∙ ap (λ ds. ds ++ filter (is_deed_with (node_word b)) (deeds_all (first + 1) xs)) (deeds_other_one b first x (λ e. omega (arith, is, e)))
    ∙ deeds_of_one (first + 1) k xs b (omega (arith, is))

pub all_deeds : (xs : List (Option Done)) (b : ℕ) → filter (is_deed_with (node_word b)) (deeds_all 0 xs) ≡ deeds_one b (slice_index_or xs b None)
all_deeds xs b = deeds_of_one 0 b xs b (omega arith)

unheard_one : (w c : ℕ) (x : Option Done) → filter (is_hearing_of w) (deeds_one c x) ≡ []
unheard_one w c None = refl
unheard_one w c (Some x) = contacts_unheard w c x.changes

pub all_unheard : (w first : ℕ) (xs : List (Option Done)) → filter (is_hearing_of w) (deeds_all first xs) ≡ []
unfolding deeds_all
all_unheard w first [] = refl
all_unheard w first (x ∷ xs) =
    filter-append (is_hearing_of w) (deeds_one first x) (deeds_all (first + 1) xs)
    ∙ ap (λ ds. ds ++ filter (is_hearing_of w) (deeds_all (first + 1) xs)) (unheard_one w first x) ∙ all_unheard w (first + 1) xs

-- ---- of whom they tell

-- the parts from a number on came of neighbours of the node
abbrev AreOf : NodeState → ℕ → List (Option Done) → Type 0
AreOf n first xs = (k : ℕ) (x : Done) → slice_index_or xs k None ≡ Some x → is_some (neighbour_of n (first + k)) ≡ true

first_of : (n : NodeState) (first : ℕ) (x : Done) (xs : List (Option Done)) → AreOf n first (Some x ∷ xs) → is_some (neighbour_of n first) ≡ true
first_of n first x xs all = subst (λ k. is_some (neighbour_of n k) ≡ true) (omega arith) (all 0 x refl)

later_of : (n : NodeState) (first : ℕ) (x : Option Done) (xs : List (Option Done)) → AreOf n first (x ∷ xs) → AreOf n (first + 1) xs
later_of n first x xs all k y is = subst (λ j. is_some (neighbour_of n j) ≡ true) (omega arith) (all (suc k) y is)

one_placed : (n : NodeState) (first : ℕ) (x : Option Done) (xs : List (Option Done)) → AreOf n first (x ∷ xs) → All (IsPlaced n) (entries_one first x)
one_placed n first None xs all = All-nil (IsPlaced n)
one_placed n first (Some x) xs all = changes_placed n first x.changes (first_of n first x xs all)

placed_from : (n : NodeState) (first : ℕ) (xs : List (Option Done)) → AreOf n first xs → All (IsPlaced n) (entries_all first xs)
unfolding entries_all
placed_from n first [] all = All-nil (IsPlaced n)
placed_from n first (x ∷ xs) all =
    All-append (IsPlaced n) (entries_one first x) (entries_all (first + 1) xs) (one_placed n first x xs all) (placed_from n (first + 1) xs (later_of n first x xs all))

all_of : (n : NodeState) (d : Upkeep) → AreOf n 0 (parts_of d n)
all_of n d k x is = subst (λ j. is_some (neighbour_of n j) ≡ true) (omega arith) (ap is_some (parts_from n d k x is).there)

pub all_placed : (n : NodeState) (d : Upkeep) → All (IsPlaced n) (entries_all 0 (parts_of d n))
all_placed n d = placed_from n 0 (parts_of d n) (all_of n d)

-- ---- frames are for neighbours

pub routed_to : (n : NodeState) (b : ℕ) (frames : List Outgoing) → is_some (neighbour_of n b) ≡ true → AreFor (node_word b) frames → All (IsRouted n) frames
routed_to n b [] there all = All-nil (IsRouted n)
routed_to n b (o ∷ os) there all = All-cons (IsRouted n) o os (on_link (record { peer = b; there = there; to_is = all.0.0; link = all.0.1 })) (routed_to n b os there all.1)

-- each neighbour's frames are for it: those of one part of what it sends
abbrev AreEach : (Done → List Outgoing) → ℕ → List (Option Done) → Type 0
AreEach part first xs = (k : ℕ) (x : Done) → slice_index_or xs k None ≡ Some x → AreFor (node_word (first + k)) (part x)

-- that part of the frames, where there is a neighbour
abbrev pub part_of : (Done → List Outgoing) → Option Done → List Outgoing
part_of part None = []
part_of part (Some x) = part x

one_routed : (n : NodeState) (part : Done → List Outgoing) (first : ℕ) (x : Option Done) (xs : List (Option Done)) → AreOf n first (x ∷ xs) → AreEach part first (x ∷ xs) → All (IsRouted n) (part_of part x)
one_routed n part first None xs all each = All-nil (IsRouted n)
one_routed n part first (Some x) xs all each = routed_to n first (part x) (first_of n first x xs all) (subst (λ k. AreFor (node_word k) (part x)) (omega arith) (each 0 x refl))

routed_from : (n : NodeState) (part : Done → List Outgoing) (first : ℕ) (xs : List (Option Done)) → AreOf n first xs → AreEach part first xs → All (IsRouted n) (flat_map (part_of part) xs)
routed_from n part first [] all each = All-nil (IsRouted n)
routed_from n part first (x ∷ xs) all each =
    All-append (IsRouted n) (part_of part x) (flat_map (part_of part) xs) (one_routed n part first x xs all each)
    (routed_from n part (first + 1) xs (later_of n first x xs all) (λ k y is. subst (λ j. AreFor (node_word j) (part y)) (omega arith) (each (suc k) y is)))

-- what each neighbour sends is for it
abbrev pub AreForEach : List (Option Done) → Type 0
AreForEach os = (b : ℕ) (y : Done) → slice_index_or os b None ≡ Some y → AreFor (node_word b) y.states × AreFor (node_word b) y.numbered

part_routed : (n : NodeState) (d : Upkeep) (part : Done → List Outgoing) → ((b : ℕ) (x : Done) → slice_index_or (parts_of d n) b None ≡ Some x → AreFor (node_word b) (part x)) → All (IsRouted n) (flat_map (part_of part) (parts_of d n))
part_routed n d part each = routed_from n part 0 (parts_of d n) (all_of n d) (λ k x is. subst (λ j. AreFor (node_word j) (part x)) (omega arith) (each k x is))

pub states_are : (xs : List (Option Done)) → states_all xs ≡ flat_map (part_of (λ x. x.states)) xs
unfolding states_all
states_are xs = flat_map_same states_one (part_of (λ x. x.states)) xs (λ o. elim o as (λ (p : Option Done). states_one p ≡ part_of (λ x. x.states) p) [ None ↦ refl | Some x ↦ refl ])

pub numbered_are : (xs : List (Option Done)) → numbered_all xs ≡ flat_map (part_of (λ x. x.numbered)) xs
unfolding numbered_all
numbered_are xs = flat_map_same numbered_one (part_of (λ x. x.numbered)) xs (λ o. elim o as (λ (p : Option Done). numbered_one p ≡ part_of (λ x. x.numbered) p) [ None ↦ refl | Some x ↦ refl ])

-- those of the broadcast link are of the node's broadcast
pub casts_routed : (n : NodeState) (frames : List Outgoing) → All (IsOfBroadcast n.boot) frames → All (IsRouted n) frames
casts_routed n frames all = All-weaker (IsOfBroadcast n.boot) (IsRouted n) (λ o is. of_broadcast is) frames all

pub all_routed : (n : NodeState) (d : Upkeep) → IsOnBearer d → n.boot < 2 ^ 32 → All (IsOfBroadcast n.boot) (deeds_frames (upkeep_deeds d n) n.casting) → AreForEach (parts_of d n) → All (IsRouted n) (upkeep_frames d n)
all_routed n d one low casts each =
    let os = parts_of d n in
    All-append (IsRouted n) (states_all os ++ requests_by d n) (numbered_all os ++ deeds_frames (upkeep_deeds d n) n.casting)
    (All-append (IsRouted n) (states_all os) (requests_by d n)
    (subst (All (IsRouted n)) (sym (states_are os)) (part_routed n d (λ x. x.states) (λ b x is. (each b x is).0))) (requests_routed d n one low))
    (All-append (IsRouted n) (numbered_all os) (deeds_frames (upkeep_deeds d n) n.casting)
    (subst (All (IsRouted n)) (sym (numbered_are os)) (part_routed n d (λ x. x.numbered) (λ b x is. (each b x is).1))) (casts_routed n (deeds_frames (upkeep_deeds d n) n.casting) casts))
