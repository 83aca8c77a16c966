-- What contacts make of the broadcast link, and of who is in contact there.
use Rattle.std.specs.Prelude.{◌&&◌, ◌==◌, filter, fold, is_some, option_map, slice_set, if◌then◌else◌}
use Rattle.std.specs.Option.{option_or}
use Rattle.std.specs.List.{find, list_all, list_any}
use Rattle.std.proofs.Common.{◌≡◌, ◌≢◌, ◌∙◌, ℕ, Bool, true, false, List, [], ◌∷◌, ◌++◌, Option, Some, None, zero, suc, ◌+◌, ◌≤◌, refl, sym, ap, subst, arith, append-nil}
use Rattle.std.proofs.lemmas.Bool.Decides.{nat_tests}
use Rattle.std.proofs.lemmas.List.Elements.{filter-append}
use Rattle.std.proofs.lemmas.List.Folds.{list_all-append}
use Rattle.std.proofs.lemmas.Option.{same_Some}
use Rattle.tipc_types.specs.Address.{node_word}
use Rattle.tipc_types.specs.declared.link_words.BroadcastState.{BroadcastState}
use Rattle.tipc_outside.specs.Frames.{Adds, Out}
use Rattle.tipc_outside.proofs.Adding.{gains_none}
use Rattle.tipc_broadcast.specs.declared.contacts.Contact.{Contact}
use Rattle.tipc_broadcast.specs.Casting.{Casting}
use Rattle.tipc_broadcast.specs.Contacts.{contact_with, has_joined}
use Rattle.tipc_broadcast.specs.Deeds.{CastDeed, after_deeds, boot_by, boot_with, deeds_frames, is_contact_of, leaves_bearers, sends_nothing}
use Rattle.tipc_broadcast.specs.Deeds.CastDeed.{joins, leaves}
use Rattle.tipc_broadcast.proofs.Deeds.{after_more, deeds_boots, deeds_mended, deeds_node}
use Rattle.tipc_pair.specs.declared.transitions.Transition.{Transition}
use Rattle.tipc_pair.specs.declared.transitions.Transition.TheVariants.{ContactDown, ContactUp, LinkDown, LinkUp}
use Rattle.tipc_pair.specs.Contacts.{is_of_contact}
use Rattle.tipc_pair.specs.Courses.{Course}
use Rattle.tipc_pair.specs.Facing.{PairEnds, contact_between, in_contact}
use Rattle.tipc_pair.proofs.turns.PairTells.{Means, Story, Tells, began, contact_changes, ended, stays}
use Rattle.tipc_node.specs.declared.neighbours.Upkeep.{Upkeep}
use Rattle.tipc_node.specs.declared.neighbours.Upkeep.TheVariants as upkeep
use Rattle.tipc_pair.proofs.turns.Moves.{AreSo, IsSo, contact_by, contact_is_some}
use Rattle.tipc_node.specs.Casting.{CanBeTold, IsContactChange, IsOfNode, arrival_deeds, bearer_deeds, boot_of_contact, contact_deeds, deed_of, is_joined_by, state_deeds}
use Rattle.tipc_node.specs.declared.neighbours.Neighbour.{Neighbour}
use Rattle.tipc_node.specs.Neighbours.{Done, IsOnBearer}
use Rattle.tipc_node.specs.Nodes.{NodeState, acquaintance, deeds_all, deeds_one, is_met, mended_by, neighbour_of, pair_with, parts_of, upkeep_deeds, with_mended_on}
use Rattle.tipc_node.specs.Turns.{HaveJoined}

-- ---- a peer has joined where there is a boot of it

some_mapped : {A B : Type 0} (f : A → B) (o : Option A) → is_some (option_map f o) ≡ is_some o
some_mapped f None = refl
some_mapped f (Some a) = refl

pub joined_is : (w : ℕ) (v : Casting) → has_joined w v.contacts ≡ is_some (boot_with w v)
joined_is w v = sym (some_mapped (λ (c : Contact). c.boot) (contact_with w v.contacts))

-- ---- which of the deeds are of a peer

own_word : (b : ℕ) → (node_word b == node_word b) ≡ true
own_word b = grind (arith, nat_tests)

apart_word : (a b : ℕ) → b ≢ a → (node_word a == node_word b) ≡ false
apart_word a b apart = grind (arith, nat_tests, apart)

one_own : (b : ℕ) (change : Transition) → filter (is_contact_of (node_word b)) (deed_of b change) ≡ deed_of b change
one_own b (LinkUp bearer own theirs) = refl
one_own b (LinkDown bearer cause shown) = refl
one_own b (ContactUp contact) = ap (λ t. if t then joins (node_word b) (boot_of_contact contact.1) ∷ [] else []) (own_word b)
one_own b (ContactDown contact states shown) = ap (λ t. if t then leaves (node_word b) ∷ [] else []) (own_word b)

pub deeds_own : (b : ℕ) (changes : List Transition) → filter (is_contact_of (node_word b)) (contact_deeds b changes) ≡ contact_deeds b changes
deeds_own b [] = refl
deeds_own b (change ∷ changes) =
    filter-append (is_contact_of (node_word b)) (deed_of b change) (contact_deeds b changes)
    ∙ (λ i. one_own b change i ++ deeds_own b changes i)

one_other : (a b : ℕ) (change : Transition) → b ≢ a → filter (is_contact_of (node_word b)) (deed_of a change) ≡ []
one_other a b (LinkUp bearer own theirs) apart = refl
one_other a b (LinkDown bearer cause shown) apart = refl
one_other a b (ContactUp contact) apart = ap (λ t. if t then joins (node_word a) (boot_of_contact contact.1) ∷ [] else []) (apart_word a b apart)
one_other a b (ContactDown contact states shown) apart = ap (λ t. if t then leaves (node_word a) ∷ [] else []) (apart_word a b apart)

pub deeds_other : (a b : ℕ) (changes : List Transition) → b ≢ a → filter (is_contact_of (node_word b)) (contact_deeds a changes) ≡ []
deeds_other a b [] apart = refl
deeds_other a b (change ∷ changes) apart =
    filter-append (is_contact_of (node_word b)) (deed_of a change) (contact_deeds a changes)
    ∙ (λ i. one_other a b change apart i ++ deeds_other a b changes apart i)

-- what becomes of one peer's contact leaves that of another
pub other_joined : (a b : ℕ) (changes : List Transition) (v : Casting) → b ≢ a → has_joined (node_word b) (after_deeds (contact_deeds a changes) v).contacts ≡ has_joined (node_word b) v.contacts
other_joined a b changes v apart =
    joined_is (node_word b) (after_deeds (contact_deeds a changes) v)
    ∙ ap is_some (deeds_boots (node_word b) (contact_deeds a changes) v ∙ ap (fold (boot_by (node_word b)) (boot_with (node_word b) v)) (deeds_other a b changes apart))
    ∙ sym (joined_is (node_word b) v)

-- a STATE is of no contact's begin or end
pub state_apart : (a b : ℕ) (stated : Option BroadcastState) → filter (is_contact_of (node_word b)) (state_deeds a stated) ≡ []
state_apart a b None = refl
state_apart a b (Some seen) = refl

-- ---- nothing is sent

one_silent : (b : ℕ) (change : Transition) → list_all sends_nothing (deed_of b change) ≡ true
one_silent b (LinkUp bearer own theirs) = refl
one_silent b (LinkDown bearer cause shown) = refl
one_silent b (ContactUp contact) = refl
one_silent b (ContactDown contact states shown) = refl

both_silent : (ds es : List CastDeed) → list_all sends_nothing ds ≡ true → list_all sends_nothing es ≡ true → list_all sends_nothing (ds ++ es) ≡ true
both_silent [] es first second = second
both_silent (d ∷ ds) es first second = ap (λ t. sends_nothing d && t) (both_silent ds es (silent_rest (sends_nothing d) (list_all sends_nothing ds) first).1 second) ∙ ap (λ t. t && true) (silent_rest (sends_nothing d) (list_all sends_nothing ds) first).0
  where
    silent_rest : (a t : Bool) → (a && t) ≡ true → (a ≡ true) × (t ≡ true)
    silent_rest true true is = (refl, refl)
    silent_rest true false is = absurd (let wrong : false ≡ true = is in cc)
    silent_rest false t is = absurd (let wrong : false ≡ true = is in cc)

pub silent_both : (ds es : List CastDeed) → list_all sends_nothing ds ≡ true → list_all sends_nothing es ≡ true → list_all sends_nothing (ds ++ es) ≡ true
silent_both = both_silent

pub contacts_silent : (b : ℕ) (changes : List Transition) → list_all sends_nothing (contact_deeds b changes) ≡ true
contacts_silent b [] = refl
contacts_silent b (change ∷ changes) = both_silent (deed_of b change) (contact_deeds b changes) (one_silent b change) (contacts_silent b changes)

pub state_silent : (b : ℕ) (stated : Option BroadcastState) → list_all sends_nothing (state_deeds b stated) ≡ true
state_silent b None = refl
state_silent b (Some seen) = refl

pub bearers_silent : (d : Upkeep) → list_all sends_nothing (bearer_deeds d) ≡ true
bearers_silent (upkeep.Mend bearer) = refl
bearers_silent (upkeep.Cut bearer) = refl
bearers_silent upkeep.Tick = refl

-- ---- the bearers stay

set_bearer : (mended : Bool × Bool) (bearer : ℕ) (now : Bool) → bearer ≤ 1 → slice_set (mended.0 ∷ mended.1 ∷ []) bearer now ≡ (with_mended_on mended bearer now).0 ∷ (with_mended_on mended bearer now).1 ∷ []
set_bearer mended zero now one = refl
set_bearer mended (suc zero) now one = refl
set_bearer mended (suc (suc bearer)) now one = absurd (omega (arith, one))

one_bears : (b : ℕ) (change : Transition) → list_all leaves_bearers (deed_of b change) ≡ true
one_bears b (LinkUp bearer own theirs) = refl
one_bears b (LinkDown bearer cause shown) = refl
one_bears b (ContactUp contact) = refl
one_bears b (ContactDown contact states shown) = refl

pub bears_both : (ds es : List CastDeed) → list_all leaves_bearers ds ≡ true → list_all leaves_bearers es ≡ true → list_all leaves_bearers (ds ++ es) ≡ true
bears_both ds es first second = list_all-append leaves_bearers ds es ∙ ap (λ t. t && list_all leaves_bearers es) first ∙ second

pub contacts_bear : (b : ℕ) (changes : List Transition) → list_all leaves_bearers (contact_deeds b changes) ≡ true
contacts_bear b [] = refl
contacts_bear b (change ∷ changes) = bears_both (deed_of b change) (contact_deeds b changes) (one_bears b change) (contacts_bear b changes)

pub states_bear : (b : ℕ) (stated : Option BroadcastState) → list_all leaves_bearers (state_deeds b stated) ≡ true
states_bear b None = refl
states_bear b (Some seen) = refl

pub arrivals_bear : (b : ℕ) (changes : List Transition) (stated : Option BroadcastState) → list_all leaves_bearers (arrival_deeds b changes stated) ≡ true
arrivals_bear b changes stated = bears_both (contact_deeds b changes) (state_deeds b stated) (contacts_bear b changes) (states_bear b stated)

one_part_bears : (number : ℕ) (o : Option Done) → list_all leaves_bearers (deeds_one number o) ≡ true
one_part_bears number None = refl
one_part_bears number (Some x) = contacts_bear number x.changes

all_bear : (number : ℕ) (os : List (Option Done)) → list_all leaves_bearers (deeds_all number os) ≡ true
unfolding deeds_all
all_bear number [] = refl
all_bear number (o ∷ os) = bears_both (deeds_one number o) (deeds_all (number + 1) os) (one_part_bears number o) (all_bear (number + 1) os)

-- it is still the broadcast link of that node
pub deeds_of_node : (own boot : ℕ) (mended : Bool × Bool) (ds : List CastDeed) (v : Casting) → list_all leaves_bearers ds ≡ true → IsOfNode own boot mended v → IsOfNode own boot mended (after_deeds ds v)
deeds_of_node own boot mended ds v bear h =
    let kept = deeds_node ds v in
    record { own = kept.own ∙ h.own; boot = kept.boot ∙ h.boot; mended = deeds_mended ds v bear ∙ h.mended }

-- and so where a bearer was mended or cut
pub borne_of_node : (own boot : ℕ) (mended : Bool × Bool) (d : Upkeep) (v : Casting) → IsOnBearer d → IsOfNode own boot mended v → IsOfNode own boot (mended_by d mended) (after_deeds (bearer_deeds d) v)
borne_of_node own boot mended (upkeep.Mend bearer) v one h = record { own = h.own; boot = h.boot; mended = ap (λ xs. slice_set xs bearer true) h.mended ∙ set_bearer mended bearer true one }
borne_of_node own boot mended (upkeep.Cut bearer) v one h = record { own = h.own; boot = h.boot; mended = ap (λ xs. slice_set xs bearer false) h.mended ∙ set_bearer mended bearer false one }
borne_of_node own boot mended upkeep.Tick v one h = h

-- and after what happens to all neighbours
pub upkeep_of_node : (n : NodeState) (d : Upkeep) (w : Casting) (mended : Bool × Bool) → IsOnBearer d → IsOfNode n.own n.boot n.mended n.casting → w ≡ after_deeds (upkeep_deeds d n) n.casting → mended ≡ mended_by d n.mended
    → IsOfNode n.own n.boot mended w
upkeep_of_node n d w mended one h is bearers =
    subst (λ (u : Casting). IsOfNode n.own n.boot mended u) (sym is)
    (subst (λ (ms : Bool × Bool). IsOfNode n.own n.boot ms (after_deeds (upkeep_deeds d n) n.casting)) (sym bearers)
    (subst (IsOfNode n.own n.boot (mended_by d n.mended)) (sym (after_more (bearer_deeds d) (deeds_all 0 (parts_of d n)) n.casting))
    (deeds_of_node n.own n.boot (mended_by d n.mended) (deeds_all 0 (parts_of d n)) (after_deeds (bearer_deeds d) n.casting) (all_bear 0 (parts_of d n)) (borne_of_node n.own n.boot n.mended d n.casting one h))))

-- ---- who is in contact with the node

is_of_boots : (z : Option (ℕ × ℕ)) → is_some (option_map (λ (contact : ℕ × ℕ). boot_of_contact contact.1) z) ≡ is_some z
is_of_boots None = refl
is_of_boots (Some contact) = refl

-- a peer has joined exactly where there is contact with it
pub joined_there : (n : NodeState) (b : ℕ) → HaveJoined n → has_joined (node_word b) n.casting.contacts ≡ is_met (neighbour_of n b)
joined_there n b joined = joined_is (node_word b) n.casting ∙ ap is_some (joined b) ∙ is_of_boots (contact_between (pair_with n b)) ∙ by (neighbour_of n b)
  where
    by : (o : Option Neighbour) → is_some (contact_between (acquaintance n b o).pair) ≡ is_met o
    by None = refl
    by (Some x) = contact_is_some x.pair

-- ---- what a pair tells of the contact

-- it begins or ends once at most
pub change_fits : (x : PairEnds) (c : Course) → Tells x c → IsContactChange (in_contact x) (filter is_of_contact c.changes)
change_fits x c t = subst (IsContactChange (in_contact x)) (sym t.story_is) (by t.story t.means)
  where
    by : (s : Story) → Means x c.pair s → IsContactChange (in_contact x) (contact_changes s)
    by stays means = tt
    by (began numbers) means = means.0
    by (ended numbers states shown) means = means.0

-- and then there is contact or not
pub joined_then : (x : PairEnds) (c : Course) → Tells x c → in_contact c.pair ≡ is_joined_by (in_contact x) (filter is_of_contact c.changes)
joined_then x c t = by t.story t.means ∙ ap (is_joined_by (in_contact x)) (sym t.story_is)
  where
    by : (s : Story) → Means x c.pair s → in_contact c.pair ≡ is_joined_by (in_contact x) (contact_changes s)
    by stays means = means.0
    by (began numbers) means = means.1
    by (ended numbers states shown) means = means.2

-- the contact's changes alone matter
one_change : (b : ℕ) (change : Transition) → is_of_contact change ≡ false → deed_of b change ≡ []
one_change b (LinkUp bearer own theirs) apart = refl
one_change b (LinkDown bearer cause shown) apart = refl
one_change b (ContactUp contact) apart = absurd (let wrong : true ≡ false = apart in cc)
one_change b (ContactDown contact states shown) apart = absurd (let wrong : true ≡ false = apart in cc)

pub deeds_filtered : (b : ℕ) (changes : List Transition) → contact_deeds b changes ≡ contact_deeds b (filter is_of_contact changes)
deeds_filtered b [] = refl
deeds_filtered b (change ∷ changes) = by (deeds_filtered b changes) (is_of_contact change) refl
  where
    by : contact_deeds b changes ≡ contact_deeds b (filter is_of_contact changes) → (t : Bool) → is_of_contact change ≡ t
        → contact_deeds b (change ∷ changes) ≡ contact_deeds b (if t then change ∷ filter is_of_contact changes else filter is_of_contact changes)
    by later true is = ap (λ ds. deed_of b change ++ ds) later
    by later false is = (λ i. one_change b change is i ++ later i)

-- ---- who is in contact

abbrev boots_of : Option (ℕ × ℕ) → Option ℕ
boots_of z = option_map (λ (contact : ℕ × ℕ). boot_of_contact contact.1) z

by_own : (b : ℕ) (z : Option (ℕ × ℕ)) (change : Transition) → IsSo z change → fold (boot_by (node_word b)) (boots_of z) (deed_of b change) ≡ boots_of (contact_by z change)
by_own b z (LinkUp bearer own theirs) so = refl
by_own b z (LinkDown bearer cause shown) so = refl
by_own b z (ContactUp contact) so =
    ap (λ t. if t then option_or (boots_of z) (Some (boot_of_contact contact.1)) else boots_of z) (own_word b) ∙ ap (λ o. option_or (boots_of o) (Some (boot_of_contact contact.1))) so
by_own b z (ContactDown contact states shown) so = ap (λ t. if t then None else boots_of z) (own_word b)

fold_more : (w : ℕ) (ds es : List CastDeed) (o : Option ℕ) → fold (boot_by w) o (ds ++ es) ≡ fold (boot_by w) (fold (boot_by w) o ds) es
fold_more w [] es o = refl
fold_more w (d ∷ ds) es o = fold_more w ds es (boot_by w o d)

-- what the contact's changes make of a peer's boot at the broadcast link, they make of it by the contact
pub boots_follow : (b : ℕ) (z : Option (ℕ × ℕ)) (changes : List Transition) → AreSo z changes → fold (boot_by (node_word b)) (boots_of z) (contact_deeds b changes) ≡ boots_of (fold contact_by z changes)
boots_follow b z [] so = refl
boots_follow b z (change ∷ changes) so =
    fold_more (node_word b) (deed_of b change) (contact_deeds b changes) (boots_of z)
    ∙ ap (λ o. fold (boot_by (node_word b)) o (contact_deeds b changes)) (by_own b z change so.0)
    ∙ boots_follow b (contact_by z change) changes so.1

-- ---- the code

-- the contact's changes are the first one, where there is one
one_found : (joined : Bool) (changes : List Transition) (change : Transition) → IsContactChange joined (filter is_of_contact changes) → find is_of_contact changes ≡ Some change → filter is_of_contact changes ≡ change ∷ []
one_found joined [] change fits is = absurd (let wrong : None ≡ Some change = is in cc)
one_found joined (LinkUp bearer own theirs ∷ changes) change fits is = one_found joined changes change fits is
one_found joined (LinkDown bearer cause shown ∷ changes) change fits is = one_found joined changes change fits is
one_found joined (ContactUp contact ∷ changes) change fits is = by (filter is_of_contact changes) fits
  where
    by : (rest : List Transition) → IsContactChange joined (ContactUp contact ∷ rest) → ContactUp contact ∷ rest ≡ change ∷ []
    by [] so = ap (λ c. c ∷ []) (same_Some (ContactUp contact) change is)
    by (next ∷ rest) so = absurd so
one_found joined (ContactDown contact states shown ∷ changes) change fits is = by (filter is_of_contact changes) fits
  where
    by : (rest : List Transition) → IsContactChange joined (ContactDown contact states shown ∷ rest) → ContactDown contact states shown ∷ rest ≡ change ∷ []
    by [] so = ap (λ c. c ∷ []) (same_Some (ContactDown contact states shown) change is)
    by (next ∷ rest) so = absurd so

none_found : (changes : List Transition) → find is_of_contact changes ≡ None → filter is_of_contact changes ≡ []
none_found [] is = refl
none_found (LinkUp bearer own theirs ∷ changes) is = none_found changes is
none_found (LinkDown bearer cause shown ∷ changes) is = none_found changes is
none_found (ContactUp contact ∷ changes) is = absurd (let wrong : Some (ContactUp contact) ≡ None = is in cc)
none_found (ContactDown contact states shown ∷ changes) is = absurd (let wrong : Some (ContactDown contact states shown) ≡ None = is in cc)

-- so it alone is told
pub found_deeds : (joined : Bool) (b : ℕ) (changes : List Transition) (change : Transition) → IsContactChange joined (filter is_of_contact changes) → Some change ≡ find is_of_contact changes
    → (deed_of b change ≡ contact_deeds b changes) × IsContactChange joined (change ∷ [])
found_deeds joined b changes change fits is =
    let one = one_found joined changes change fits (sym is) in (
      sym (append-nil (deed_of b change)) ∙ ap (contact_deeds b) (sym one) ∙ sym (deeds_filtered b changes),
      subst (IsContactChange joined) one fits,
    )

-- and nothing where it doesn't change
pub none_deeds : (b : ℕ) (changes : List Transition) → None ≡ find is_of_contact changes → contact_deeds b changes ≡ []
none_deeds b changes is = deeds_filtered b changes ∙ ap (contact_deeds b) (none_found changes (sym is))

pub unchanged_deeds : (b : ℕ) (changes : List Transition) → list_any is_of_contact changes ≡ false → contact_deeds b changes ≡ []
unchanged_deeds b [] none = refl
unchanged_deeds b (LinkUp bearer own theirs ∷ changes) none = unchanged_deeds b changes none
unchanged_deeds b (LinkDown bearer cause shown ∷ changes) none = unchanged_deeds b changes none
unchanged_deeds b (ContactUp contact ∷ changes) none = absurd (let wrong : true ≡ false = none in cc)
unchanged_deeds b (ContactDown contact states shown ∷ changes) none = absurd (let wrong : true ≡ false = none in cc)

-- where the contact doesn't change the broadcast link stays
pub unchanged_link : (b : ℕ) (changes : List Transition) (t : Bool) (v : Casting) → t ≡ list_any is_of_contact changes → t ≡ false → v ≡ after_deeds (contact_deeds b changes) v
unchanged_link b changes t v is none = ap (λ ds. after_deeds ds v) (sym (unchanged_deeds b changes (sym is ∙ none)))

pub unchanged_frames : (b : ℕ) (changes : List Transition) (t : Bool) (v : Casting) (box : Out) → t ≡ list_any is_of_contact changes → t ≡ false → Adds box box (deeds_frames (contact_deeds b changes) v)
unchanged_frames b changes t v box is none = subst (λ ds. Adds box box (deeds_frames ds v)) (sym (unchanged_deeds b changes (sym is ∙ none))) (gains_none box)

pub unchanged_filtered : (changes : List Transition) → list_any is_of_contact changes ≡ false → filter is_of_contact changes ≡ []
unchanged_filtered [] none = refl
unchanged_filtered (LinkUp bearer own theirs ∷ changes) none = unchanged_filtered changes none
unchanged_filtered (LinkDown bearer cause shown ∷ changes) none = unchanged_filtered changes none
unchanged_filtered (ContactUp contact ∷ changes) none = absurd (let wrong : true ≡ false = none in cc)
unchanged_filtered (ContactDown contact states shown ∷ changes) none = absurd (let wrong : true ≡ false = none in cc)

-- nor does it change where no STATE was taken besides
filtered_unchanged : (changes : List Transition) → filter is_of_contact changes ≡ [] → list_any is_of_contact changes ≡ false
filtered_unchanged [] none = refl
filtered_unchanged (LinkUp bearer own theirs ∷ changes) none = filtered_unchanged changes none
filtered_unchanged (LinkDown bearer cause shown ∷ changes) none = filtered_unchanged changes none
filtered_unchanged (ContactUp contact ∷ changes) none = absurd (let wrong : ContactUp contact ∷ filter is_of_contact changes ≡ [] = none in cc)
filtered_unchanged (ContactDown contact states shown ∷ changes) none = absurd (let wrong : ContactDown contact states shown ∷ filter is_of_contact changes ≡ [] = none in cc)

pub quiet_arrival : (b : ℕ) (changes : List Transition) (stated : Option BroadcastState) (v v' : Casting) → v' ≡ after_deeds (arrival_deeds b changes stated) v → filter is_of_contact changes ≡ [] → stated ≡ None → v' ≡ v
quiet_arrival b changes stated v v' after same none =
    after ∙ ap (λ (o : Option BroadcastState). after_deeds (arrival_deeds b changes o) v) none
    ∙ ap (λ (ds : List CastDeed). after_deeds (ds ++ []) v) (unchanged_deeds b changes (filtered_unchanged changes same))

-- what a peer shows then: there is contact with it at the broadcast link as it is told
pub joined_after : (b : ℕ) (v : Casting) (cs : List Transition) → IsContactChange (has_joined (node_word b) v.contacts) cs
    → has_joined (node_word b) (after_deeds (contact_deeds b cs) v).contacts ≡ is_joined_by (has_joined (node_word b) v.contacts) cs
joined_after b v [] fits = refl
joined_after b v (ContactUp contact ∷ []) fits =
    joined_is (node_word b) (after_deeds (deed_of b (ContactUp contact)) v) ∙ ap is_some (deeds_boots (node_word b) (deed_of b (ContactUp contact)) v
    ∙ ap (fold (boot_by (node_word b)) (boot_with (node_word b) v)) (one_own b (ContactUp contact))
    ∙ ap (λ t. if t then option_or (boot_with (node_word b) v) (Some (boot_of_contact contact.1)) else boot_with (node_word b) v) (own_word b)) ∙ some_or (boot_with (node_word b) v) (boot_of_contact contact.1)
  where
    some_or : (o : Option ℕ) (boot : ℕ) → is_some (option_or o (Some boot)) ≡ true
    some_or None boot = refl
    some_or (Some other) boot = refl
joined_after b v (ContactDown contact states shown ∷ []) fits =
    joined_is (node_word b) (after_deeds (deed_of b (ContactDown contact states shown)) v) ∙ ap is_some (deeds_boots (node_word b) (deed_of b (ContactDown contact states shown)) v
    ∙ ap (fold (boot_by (node_word b)) (boot_with (node_word b) v)) (one_own b (ContactDown contact states shown))
    ∙ ap (λ t. if t then None else boot_with (node_word b) v) (own_word b))
joined_after b v (LinkUp bearer own theirs ∷ cs) fits = absurd fits
joined_after b v (LinkDown bearer cause shown ∷ cs) fits = absurd fits
joined_after b v (ContactUp contact ∷ (next ∷ cs)) fits = absurd fits
joined_after b v (ContactDown contact states shown ∷ (next ∷ cs)) fits = absurd fits

-- so a STATE that may be told is of a peer that has joined
pub told_joined : (b : ℕ) (v w : Casting) (changes : List Transition) (stated : Option BroadcastState) → CanBeTold (has_joined (node_word b) v.contacts) changes stated → w ≡ after_deeds (contact_deeds b changes) v
    → is_some stated ≡ true → has_joined (node_word b) w.contacts ≡ true
told_joined b v w changes stated told is some =
    ap (λ (u : Casting). has_joined (node_word b) u.contacts) (is ∙ ap (λ ds. after_deeds ds v) (deeds_filtered b changes)) ∙ joined_after b v (filter is_of_contact changes) told.contact ∙ told.state some
