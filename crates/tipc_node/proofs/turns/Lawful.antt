-- What a node does at its broadcast link is lawful: one joins that isn't in contact, and one leaves or tells a STATE that is. Of one peer it
-- says what the deeds of that peer do.
use Rattle.std.proofs.Common.{◌≡◌, ◌≢◌, ◌∙◌, ℕ, true, false, List, [], ◌∷◌, ◌++◌, Option, Some, None, refl, sym, ap, subst, arith}
use Rattle.std.specs.Prelude.{◌==◌, ◌&&◌, ◌||◌, IfSome, filter, is_some, not, if◌then◌else◌}
use Rattle.std.specs.List.{list_all}
use Rattle.std.proofs.lemmas.Bool.Decides.{nat_tests}
use Rattle.std.proofs.lemmas.List.Elements.{filter-append}
use Rattle.std.proofs.lemmas.List.Folds.{list_all-append}
use Rattle.tipc_types.specs.Address.{IsNodeWord, node_word}
use Rattle.tipc_types.specs.declared.link_words.BroadcastState.{BroadcastState}
use Rattle.tipc_broadcast.specs.Casting.{Casting}
use Rattle.tipc_broadcast.specs.Contacts.{has_joined}
use Rattle.tipc_broadcast.specs.Deeds.{AreLawful, CastDeed, after_deed, after_deeds, is_deed_with, is_hearing_of}
use Rattle.tipc_broadcast.specs.Deeds.CastDeed.{joins, leaves, states}
use Rattle.tipc_broadcast.proofs.Apart.{is_apart}
use Rattle.tipc_pair.specs.declared.transitions.Transition.{Transition}
use Rattle.tipc_pair.specs.declared.transitions.Transition.TheVariants.{ContactDown, ContactUp, LinkDown, LinkUp}
use Rattle.tipc_pair.specs.Contacts.{begins, is_of_contact}
use Rattle.tipc_link.specs.Links.{LinkEnd}
use Rattle.tipc_pair.specs.Facing.{PairEnds, other}
use Rattle.tipc_pair.specs.LinkReadings.{AreAbreast}
use Rattle.tipc_pair.proofs.turns.PairEvents.{On, OnBearer}
use Rattle.tipc_node.specs.declared.neighbours.Upkeep.{Upkeep}
use Rattle.tipc_node.specs.declared.neighbours.Upkeep.TheVariants as upkeep
use Rattle.tipc_node.specs.Casting.{CanBeTold, IsContactChange, arrival_deeds, bearer_deeds, boot_of_contact, contact_deeds, deed_of, is_joined_by, state_deeds}
use Rattle.tipc_node.proofs.work.Casting.{deeds_filtered, joined_after}

-- ---- one list behind another

pub lawful_both : (ds es : List CastDeed) (v : Casting) → AreLawful ds v → AreLawful es (after_deeds ds v) → AreLawful (ds ++ es) v
lawful_both [] es v first later = later
lawful_both (d ∷ ds) es v first later = (first.0, lawful_both ds es (after_deed d v) first.1 later)

-- ---- the contact with a peer begins or ends

-- only where it begins has the peer to be a node
pub contacts_lawful : (b : ℕ) (v : Casting) (changes : List Transition) → (begins (filter is_of_contact changes) ≡ true → IsNodeWord (node_word b)) → IsContactChange (has_joined (node_word b) v.contacts) (filter is_of_contact changes)
    → AreLawful (contact_deeds b changes) v
contacts_lawful b v changes node fits = subst (λ ds. AreLawful ds v) (sym (deeds_filtered b changes)) (by (filter is_of_contact changes) node fits)
  where
    by : (cs : List Transition) → (begins cs ≡ true → IsNodeWord (node_word b)) → IsContactChange (has_joined (node_word b) v.contacts) cs → AreLawful (contact_deeds b cs) v
    by [] node fits = tt
    by (ContactUp contact ∷ []) node fits = ((node refl, fits), tt)
    by (ContactDown contact gone number ∷ []) node fits = (fits, tt)
    by (LinkUp bearer own theirs ∷ cs) node fits = absurd fits
    by (LinkDown bearer cause number ∷ cs) node fits = absurd fits
    by (ContactUp contact ∷ (next ∷ cs)) node fits = absurd fits
    by (ContactDown contact gone number ∷ (next ∷ cs)) node fits = absurd fits

-- the contact's changes alone begin it
pub begins_filtered : (changes : List Transition) → begins (filter is_of_contact changes) ≡ begins changes
begins_filtered [] = refl
begins_filtered (LinkUp bearer own theirs ∷ changes) = begins_filtered changes
begins_filtered (LinkDown bearer cause number ∷ changes) = begins_filtered changes
begins_filtered (ContactUp contact ∷ changes) = refl
begins_filtered (ContactDown contact gone number ∷ changes) = begins_filtered changes

-- and a STATE is taken where there is contact then
pub arrival_lawful : (b : ℕ) (v : Casting) (changes : List Transition) (stated : Option BroadcastState) → IsNodeWord (node_word b) → CanBeTold (has_joined (node_word b) v.contacts) changes stated
    → AreLawful (arrival_deeds b changes stated) v
arrival_lawful b v changes stated node told = lawful_both (contact_deeds b changes) (state_deeds b stated) v (contacts_lawful b v changes (λ begun. node) told.contact) (by stated told.state)
  where
    by : (o : Option BroadcastState) → (is_some o ≡ true → is_joined_by (has_joined (node_word b) v.contacts) (filter is_of_contact changes) ≡ true) → AreLawful (state_deeds b o) (after_deeds (contact_deeds b changes) v)
    by None state = tt
    by (Some seen) state = (
      ap (λ ds. has_joined (node_word b) (after_deeds ds v).contacts) (deeds_filtered b changes) ∙ joined_after b v (filter is_of_contact changes) told.contact ∙ state refl,
      tt,
    )

-- ---- which of the deeds are with a peer

own_word : (b : ℕ) → (node_word b == node_word b) ≡ true
own_word b = grind (arith, nat_tests)

apart_word : (a b : ℕ) → b ≢ a → (node_word a == node_word b) ≡ false
apart_word a b apart = grind (arith, nat_tests, apart)

one_own : (b : ℕ) (change : Transition) → filter (is_deed_with (node_word b)) (deed_of b change) ≡ deed_of b change
one_own b (LinkUp bearer own theirs) = refl
one_own b (LinkDown bearer cause number) = refl
one_own b (ContactUp contact) = ap (λ t. if t then joins (node_word b) (boot_of_contact contact.1) ∷ [] else []) (own_word b)
one_own b (ContactDown contact gone number) = ap (λ t. if t then leaves (node_word b) ∷ [] else []) (own_word b)

one_other : (a b : ℕ) (change : Transition) → b ≢ a → filter (is_deed_with (node_word b)) (deed_of a change) ≡ []
one_other a b (LinkUp bearer own theirs) apart = refl
one_other a b (LinkDown bearer cause number) apart = refl
one_other a b (ContactUp contact) apart = ap (λ t. if t then joins (node_word a) (boot_of_contact contact.1) ∷ [] else []) (apart_word a b apart)
one_other a b (ContactDown contact gone number) apart = ap (λ t. if t then leaves (node_word a) ∷ [] else []) (apart_word a b apart)

pub with_own : (b : ℕ) (changes : List Transition) → filter (is_deed_with (node_word b)) (contact_deeds b changes) ≡ contact_deeds b changes
with_own b [] = refl
with_own b (change ∷ changes) = filter-append (is_deed_with (node_word b)) (deed_of b change) (contact_deeds b changes) ∙ (λ i. one_own b change i ++ with_own b changes i)

pub with_other : (a b : ℕ) (changes : List Transition) → b ≢ a → filter (is_deed_with (node_word b)) (contact_deeds a changes) ≡ []
with_other a b [] apart = refl
with_other a b (change ∷ changes) apart =
    filter-append (is_deed_with (node_word b)) (deed_of a change) (contact_deeds a changes) ∙ (λ i. one_other a b change apart i ++ with_other a b changes apart i)

state_own : (b : ℕ) (stated : Option BroadcastState) → filter (is_deed_with (node_word b)) (state_deeds b stated) ≡ state_deeds b stated
state_own b None = refl
state_own b (Some seen) = ap (λ t. if t then states (node_word b) seen ∷ [] else []) (own_word b)

state_other : (a b : ℕ) (stated : Option BroadcastState) → b ≢ a → filter (is_deed_with (node_word b)) (state_deeds a stated) ≡ []
state_other a b None apart = refl
state_other a b (Some seen) apart = ap (λ t. if t then states (node_word a) seen ∷ [] else []) (apart_word a b apart)

pub arrival_own : (b : ℕ) (changes : List Transition) (stated : Option BroadcastState) → filter (is_deed_with (node_word b)) (arrival_deeds b changes stated) ≡ arrival_deeds b changes stated
arrival_own b changes stated = filter-append (is_deed_with (node_word b)) (contact_deeds b changes) (state_deeds b stated) ∙ (λ i. with_own b changes i ++ state_own b stated i)

pub arrival_other : (a b : ℕ) (changes : List Transition) (stated : Option BroadcastState) → b ≢ a → filter (is_deed_with (node_word b)) (arrival_deeds a changes stated) ≡ []
arrival_other a b changes stated apart =
    filter-append (is_deed_with (node_word b)) (contact_deeds a changes) (state_deeds a stated) ∙ (λ i. with_other a b changes apart i ++ state_other a b stated apart i)

-- none hears a broadcast packet
one_unheard : (w a : ℕ) (change : Transition) → filter (is_hearing_of w) (deed_of a change) ≡ []
one_unheard w a (LinkUp bearer own theirs) = refl
one_unheard w a (LinkDown bearer cause number) = refl
one_unheard w a (ContactUp contact) = refl
one_unheard w a (ContactDown contact gone number) = refl

pub contacts_unheard : (w a : ℕ) (changes : List Transition) → filter (is_hearing_of w) (contact_deeds a changes) ≡ []
contacts_unheard w a [] = refl
contacts_unheard w a (change ∷ changes) = filter-append (is_hearing_of w) (deed_of a change) (contact_deeds a changes) ∙ (λ i. one_unheard w a change i ++ contacts_unheard w a changes i)

state_unheard : (w a : ℕ) (stated : Option BroadcastState) → filter (is_hearing_of w) (state_deeds a stated) ≡ []
state_unheard w a None = refl
state_unheard w a (Some seen) = refl

pub arrival_unheard : (w a : ℕ) (changes : List Transition) (stated : Option BroadcastState) → filter (is_hearing_of w) (arrival_deeds a changes stated) ≡ []
arrival_unheard w a changes stated = filter-append (is_hearing_of w) (contact_deeds a changes) (state_deeds a stated) ∙ (λ i. contacts_unheard w a changes i ++ state_unheard w a stated i)

-- nor is any of a bearer, or with a peer
pub bearers_without : (w : ℕ) (d : Upkeep) → filter (is_deed_with w) (bearer_deeds d) ≡ []
bearers_without w (upkeep.Mend bearer) = refl
bearers_without w (upkeep.Cut bearer) = refl
bearers_without w upkeep.Tick = refl

pub bearers_unheard : (w : ℕ) (d : Upkeep) → filter (is_hearing_of w) (bearer_deeds d) ≡ []
bearers_unheard w (upkeep.Mend bearer) = refl
bearers_unheard w (upkeep.Cut bearer) = refl
bearers_unheard w upkeep.Tick = refl

-- those with another peer leave the contact with this one
one_apart : (a b : ℕ) (change : Transition) → b ≢ a → list_all (is_apart (node_word b)) (deed_of a change) ≡ true
one_apart a b (LinkUp bearer own theirs) apart = refl
one_apart a b (LinkDown bearer cause number) apart = refl
one_apart a b (ContactUp contact) apart = ap (λ t. not (t || false) && true) (apart_word a b apart)
one_apart a b (ContactDown contact gone number) apart = ap (λ t. not (t || false) && true) (apart_word a b apart)

pub contacts_apart : (a b : ℕ) (changes : List Transition) → b ≢ a → list_all (is_apart (node_word b)) (contact_deeds a changes) ≡ true
contacts_apart a b [] apart = refl
contacts_apart a b (change ∷ changes) apart =
    list_all-append (is_apart (node_word b)) (deed_of a change) (contact_deeds a changes) ∙ (λ i. one_apart a b change apart i && contacts_apart a b changes apart i)

-- ---- the ends of a pair are on their bearers

pub abreast_on : (x : PairEnds) → AreAbreast x → On x
abreast_on x h = record { two = (let first = h.first in omega (arith, first)); near = near x.near h.near_on; far = far x.far h.far_on }
  where
    near : (o : Option LinkEnd) → IfSome o (λ (e : LinkEnd). e.bearer ≡ 0) → IfSome o (OnBearer x.bearer)
    near None on = tt
    near (Some e) on = on ∙ sym h.first

    far : (o : Option LinkEnd) → IfSome o (λ (e : LinkEnd). e.bearer ≡ 1) → IfSome o (OnBearer (other x.bearer))
    far None on = tt
    far (Some e) on = on ∙ ap other (sym h.first)
