-- What a tick, or a bearer that is mended or cut, does at the broadcast link is lawful: peers leave with which the contact ends.
use Rattle.std.proofs.Common.{◌≡◌, ◌≢◌, ◌∙◌, ◌+◌, ℕ, suc, true, List, [], ◌∷◌, Option, Some, None, refl, sym, ap, subst, add-zero, arith}
use Rattle.std.specs.Prelude.{◌&&◌, false, filter, slice_index_or}
use Rattle.std.specs.List.{list_all}
use Rattle.std.proofs.lemmas.List.Folds.{list_all-append}
use Rattle.tipc_types.specs.Address.{node_word}
use Rattle.tipc_broadcast.specs.Casting.{Casting, shown}
use Rattle.tipc_broadcast.specs.Contacts.{has_joined}
use Rattle.tipc_broadcast.specs.Deeds.{AreLawful, after_deeds}
use Rattle.tipc_pair.specs.declared.transitions.Transition.{Transition}
use Rattle.tipc_pair.specs.declared.transitions.Transition.TheVariants.{ContactDown, ContactUp, LinkDown, LinkUp}
use Rattle.tipc_pair.specs.PairTurns.{quietly}
use Rattle.tipc_pair.specs.Contacts.{begins, is_of_contact}
use Rattle.tipc_pair.specs.LinkReadings.{AreAbreast}
use Rattle.tipc_pair.proofs.turns.PairEvents.{happened_so}
use Rattle.tipc_node.specs.declared.neighbours.Neighbour.{Neighbour}
use Rattle.tipc_node.specs.declared.neighbours.Upkeep.{Upkeep}
use Rattle.tipc_node.specs.declared.neighbours.Upkeep.TheVariants as upkeep
use Rattle.tipc_node.specs.Casting.{IsContactChange, bearer_deeds, contact_deeds, is_parting}
use Rattle.tipc_node.specs.Neighbours.{IsOnBearer, course_of}
use Rattle.tipc_node.specs.Nodes.{NodeState, changes_at, deeds_all, deeds_one, is_met, part_all, part_at, parts_of, upkeep_deeds}
use Rattle.tipc_node.specs.Telling.{IsTold}
use Rattle.tipc_node.specs.Turns.{HaveJoined}
use Rattle.tipc_node.proofs.pairs.Calm.{opening_of, own_calm, upkeep_happens}
use Rattle.tipc_node.proofs.pairs.Strangers.{kept_abreast, pair_there}
use Rattle.tipc_node.proofs.turns.Lawful.{abreast_on, begins_filtered, contacts_lawful, lawful_both}
use Rattle.tipc_node.proofs.work.Casting.{change_fits, joined_there, other_joined}

-- at one neighbour, where there is one
one_lawful : (d : Upkeep) (b : ℕ) (v : Casting) (o : Option Neighbour) → ((x : Neighbour) → o ≡ Some x → AreAbreast x.pair) → has_joined (node_word b) v.contacts ≡ is_met o → AreLawful (deeds_one b (part_at d b v o)) v
one_lawful d b v None abreast joined = tt
one_lawful d b v (Some x) abreast joined =
    let shows = shown v (node_word b) in
    let c = course_of d shows x in
    let happens = upkeep_happens d shows x in
    let calm = (own_calm x.pair (opening_of d shows x) (quietly c) happens.1 happens.0).0 in
    let so = happened_so x.pair (opening_of d shows x) (quietly c) (abreast_on x.pair (abreast x refl)) happens.2 happens.0 in
    contacts_lawful b v c.changes (λ begun. absurd (let wrong : false ≡ true = sym calm ∙ sym (begins_filtered c.changes) ∙ begun in cc))
    (subst (λ t. IsContactChange t (filter is_of_contact c.changes)) (sym joined) (change_fits x.pair c so.tells))

-- at all from a number on
parts_lawful : (d : Upkeep) (first : ℕ) (v : Casting) (xs : List (Option Neighbour)) → ((k : ℕ) (x : Neighbour) → slice_index_or xs k None ≡ Some x → AreAbreast x.pair)
    → ((k : ℕ) → has_joined (node_word (first + k)) v.contacts ≡ is_met (slice_index_or xs k None)) → AreLawful (deeds_all first (part_all d first v xs)) v
unfolding part_all deeds_all
parts_lawful d first v [] abreast joined = tt
parts_lawful d first v (x ∷ xs) abreast joined =
    let p = part_at d first v x in
    let w = after_deeds (deeds_one first p) v in
    lawful_both (deeds_one first p) (deeds_all (first + 1) (part_all d (first + 1) w xs)) v
    (one_lawful d first v x (λ y is. abreast 0 y is) (ap (λ b. has_joined (node_word b) v.contacts) (sym (add-zero first)) ∙ joined 0))
    (parts_lawful d (first + 1) w xs (λ k y is. abreast (suc k) y is) (λ k.
    let apart : first + 1 + k ≢ first = (λ same. omega (arith, same)) in
    let place : first + 1 + k ≡ first + suc k = omega arith in
    other_joined first (first + 1 + k) (changes_at p) v apart ∙ ap (λ b. has_joined (node_word b) v.contacts) place ∙ joined (suc k)))

-- the bearers come first
bearers_lawful : (d : Upkeep) (v : Casting) → IsOnBearer d → AreLawful (bearer_deeds d) v
bearers_lawful (upkeep.Mend bearer) v one = (one, tt)
bearers_lawful (upkeep.Cut bearer) v one = (one, tt)
bearers_lawful upkeep.Tick v one = tt

bearers_leave : (d : Upkeep) (v : Casting) (w : ℕ) → has_joined w (after_deeds (bearer_deeds d) v).contacts ≡ has_joined w v.contacts
bearers_leave (upkeep.Mend bearer) v w = refl
bearers_leave (upkeep.Cut bearer) v w = refl
bearers_leave upkeep.Tick v w = refl

pub upkeep_lawful : (n : NodeState) (d : Upkeep) → IsTold n → HaveJoined n → IsOnBearer d → AreLawful (upkeep_deeds d n) n.casting
unfolding parts_of
upkeep_lawful n d told joined one =
    let v = after_deeds (bearer_deeds d) n.casting in
    lawful_both (bearer_deeds d) (deeds_all 0 (parts_of d n)) n.casting (bearers_lawful d n.casting one)
    (parts_lawful d 0 v n.neighbours (λ k x is. subst AreAbreast (pair_there n k x is) (kept_abreast n k told))
    (λ k. ap (λ b. has_joined (node_word b) v.contacts) (omega arith) ∙ bearers_leave d n.casting (node_word k) ∙ joined_there n k joined))

-- ---- no peer joins

-- by what begins no contact
calm_parts : (b : ℕ) (changes : List Transition) → begins changes ≡ false → list_all is_parting (contact_deeds b changes) ≡ true
calm_parts b [] calm = refl
calm_parts b (LinkUp bearer own theirs ∷ changes) calm = calm_parts b changes calm
calm_parts b (LinkDown bearer cause shown ∷ changes) calm = calm_parts b changes calm
calm_parts b (ContactUp contact ∷ changes) calm = absurd (let wrong : true ≡ false = calm in cc)
calm_parts b (ContactDown contact states shown ∷ changes) calm = calm_parts b changes calm

one_parts : (d : Upkeep) (b : ℕ) (v : Casting) (o : Option Neighbour) → list_all is_parting (deeds_one b (part_at d b v o)) ≡ true
one_parts d b v None = refl
one_parts d b v (Some x) =
    let shows = shown v (node_word b) in
    let c = course_of d shows x in
    let happens = upkeep_happens d shows x in
    calm_parts b c.changes (own_calm x.pair (opening_of d shows x) (quietly c) happens.1 happens.0).0

all_parts : (d : Upkeep) (first : ℕ) (v : Casting) (xs : List (Option Neighbour)) → list_all is_parting (deeds_all first (part_all d first v xs)) ≡ true
unfolding part_all deeds_all
all_parts d first v [] = refl
all_parts d first v (x ∷ xs) =
    let p = part_at d first v x in
    let w = after_deeds (deeds_one first p) v in
    list_all-append is_parting (deeds_one first p) (deeds_all (first + 1) (part_all d (first + 1) w xs)) ∙ (λ i. one_parts d first v x i && all_parts d (first + 1) w xs i)

bearers_part : (d : Upkeep) → list_all is_parting (bearer_deeds d) ≡ true
bearers_part (upkeep.Mend bearer) = refl
bearers_part (upkeep.Cut bearer) = refl
bearers_part upkeep.Tick = refl

pub upkeep_parts : (n : NodeState) (d : Upkeep) → list_all is_parting (upkeep_deeds d n) ≡ true
unfolding parts_of
upkeep_parts n d =
    let rest = all_parts d 0 (after_deeds (bearer_deeds d) n.casting) n.neighbours in
    list_all-append is_parting (bearer_deeds d) (deeds_all 0 (parts_of d n)) ∙ (λ i. bearers_part d i && rest i)
