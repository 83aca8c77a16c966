-- A contact that begins at a node may be entered at the broadcast of its peer, and joined at its own.
use Rattle.std.specs.Prelude.{All, option_map}
use Rattle.std.proofs.Common.{◌≡◌, ◌≤◌, ◌<◌, ℕ, true, false, List, [], ◌∷◌, Option, Some, None, map, refl, sym, ap, ◌∙◌, subst, arith}
use Rattle.std.proofs.lemmas.List.Elements.{All-cons, All-nil}
use Rattle.tipc_contact.specs.Sides.{boot_of}
use Rattle.tipc_casters.specs.Sights.{contact_of}
use Rattle.tipc_casters.specs.ViewLaws.{MayBeJoined, MayEnter}
use Rattle.tipc_pair.specs.Facing.{in_contact}
use Rattle.tipc_two_nodes.specs.Order.{HaveMet}
use Rattle.tipc_two_nodes.specs.Sights.{AreSeen, pair_seen, Sight}
use Rattle.tipc_node.specs.Turns.{addr_of}
use Rattle.tipc_replay.specs.Air.{number_of_node}
use Rattle.tipc_replay.specs.Casters.{cast_contact, caster_at, casting_at, heard_contact, member_of_caster}
use Rattle.tipc_replay.specs.Met.{as_contact, contacts_entered, contacts_met}
use Rattle.tipc_replay.specs.Skies.{AirState}
use Rattle.tipc_replay.specs.States.{MemberState, contact_at, history_at}
use Rattle.tipc_replay.specs.Views.{sight_at}
use Rattle.tipc_replay.proofs.InLists.{Stands, stands_later, stands_map}
use Rattle.tipc_replay.proofs.casts.Guards.{no_later_boot, none_older, none_younger, older_entered, older_joined, own_boot}
use Rattle.tipc_replay.proofs.pairs.Standing.{seen_node}

all_mapped : {A B : Type 0} (P : B → Type 0) (f : A → B) (xs : List A) → ((x : A) → Stands xs x → P (f x)) → All P (map f xs)
all_mapped P f [] each = All-nil P
all_mapped P f (x ∷ xs) each = All-cons P (f x) (map f xs) (each x (0, refl)) (all_mapped P f xs (λ y there. each y (stands_later x xs y there)))

-- a number of a contact isn't 0 where boots begin at 1
some_contact : (v w : Sight) → AreSeen v w → 1 ≤ v.node.boot → (theirs : ℕ) → 0 < contact_of theirs v.node.contact
some_contact v w h from theirs = (let boot = (seen_node v w h).contact in omega (arith, boot, from))

-- at the broadcast of node a: node n, which is v' to it then, enters
pub may_enter : (members : List (Option MemberState)) (air : AirState) (a n word : ℕ) (v' : Sight) → HaveMet (sight_at members air n a) (sight_at members air a n) (contacts_met members n a) (contacts_met members a n)
    → HaveMet v' (sight_at members air a n) (contacts_met members n a) (contacts_met members a n) → in_contact (pair_seen (sight_at members air n a)) ≡ false → in_contact (pair_seen v') ≡ true → (sight_at members air n a).node.contact ≤ v'.node.contact
    → 1 ≤ v'.node.boot → boot_of (sight_at members air a n).node.contact ≡ (casting_at members a).boot → contact_at members n a ≡ None → number_of_node word ≡ n
    → MayEnter (caster_at members air a) (member_of_caster members air a n) word (contact_of v'.node.seen v'.node.contact)
unfolding caster_at member_of_caster contacts_met
may_enter members air a n word v' met met' away now rises from boot none number = record {
  away = ap (option_map heard_contact) none;
  some = some_contact v' (sight_at members air a n) met'.seen from v'.node.seen;
  above = all_mapped (λ d. d < contact_of v'.node.seen v'.node.contact) heard_contact (contacts_entered (history_at members n) (addr_of a)) (λ c there. (
      let place = stands_map as_contact (contacts_entered (history_at members n) (addr_of a)) c there in
      older_entered (sight_at members air n a) v' (sight_at members air a n) (contacts_met members n a) (contacts_met members a n) place.0 (as_contact c) met met' place.1 away now rises));
  era = (let low = no_later_boot v' (sight_at members air a n) met'.seen in omega (arith, low, boot));
  newest = subst (λ k. All (λ d. d ≤ contact_of v'.node.seen v'.node.contact) (map cast_contact (contacts_entered (history_at members a) (addr_of k)))) (sym number)
      (all_mapped (λ d. d ≤ contact_of v'.node.seen v'.node.contact) cast_contact (contacts_entered (history_at members a) (addr_of n)) (λ c there. (
      let place = stands_map as_contact (contacts_entered (history_at members a) (addr_of n)) c there in
      none_younger v' (sight_at members air a n) (contacts_met members n a) (contacts_met members a n) place.0 (as_contact c) met' place.1 now)));
}

-- at the broadcast of node n itself, which is v' to node b then: b joins
pub may_join : (members : List (Option MemberState)) (air : AirState) (n b word : ℕ) (v' : Sight) → HaveMet (sight_at members air n b) (sight_at members air b n) (contacts_met members n b) (contacts_met members b n)
    → HaveMet v' (sight_at members air b n) (contacts_met members n b) (contacts_met members b n) → in_contact (pair_seen (sight_at members air n b)) ≡ false → in_contact (pair_seen v') ≡ true → (sight_at members air n b).node.contact ≤ v'.node.contact
    → v'.node.boot ≡ (casting_at members n).boot → ((numbers : ℕ × ℕ) → contact_at members b n ≡ Some numbers → (in_contact (pair_seen (sight_at members air b n)) ≡ true) × (numbers ≡ ((sight_at members air b n).node.contact, (sight_at members air b n).node.seen)))
    → number_of_node word ≡ b → MayBeJoined (caster_at members air n) (member_of_caster members air n b) word (contact_of v'.node.contact v'.node.seen)
unfolding caster_at member_of_caster contacts_met
may_join members air n b word v' met met' away now rises boot there number = record {
  above = subst (λ k. All (λ d. d < contact_of v'.node.contact v'.node.seen) (map cast_contact (contacts_entered (history_at members n) (addr_of k)))) (sym number)
      (all_mapped (λ d. d < contact_of v'.node.contact v'.node.seen) cast_contact (contacts_entered (history_at members n) (addr_of b)) (λ c here. (
      let place = stands_map as_contact (contacts_entered (history_at members n) (addr_of b)) c here in
      older_joined (sight_at members air n b) v' (sight_at members air b n) (contacts_met members n b) (contacts_met members b n) place.0 (as_contact c) met met' place.1 away now rises)));
  era = own_boot v' (sight_at members air b n) met'.seen ∙ boot;
  free = λ d at. by (contact_at members b n) refl d at;
}
  where
    w : Sight
    w = sight_at members air b n

    by : (o : Option (ℕ × ℕ)) → contact_at members b n ≡ o → (d : ℕ) → option_map heard_contact o ≡ Some d → contact_of v'.node.contact v'.node.seen ≤ d
    by None is d at = absurd (let wrong : None ≡ Some d = at in cc)
    by (Some numbers) is d at =
        let in_it = there numbers is in
        let same : heard_contact numbers ≡ d = cc in
        let low = none_older v' w met'.seen now in_it.0 in
        let number_is = ap heard_contact in_it.1 in
        omega (arith, low, same, number_is)
