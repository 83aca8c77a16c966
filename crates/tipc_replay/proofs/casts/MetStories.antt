-- Which contacts a node enters in a step: that of the turn at the peer's pair, where one begins there.
use Rattle.std.proofs.Common.{◌≡◌, ◌==◌, ℕ, Bool, true, false, List, [], ◌∷◌, ◌++◌, Option, Some, None, filter, map, if◌then◌else◌, refl, sym, ap, ◌∙◌, subst, arith}
use Rattle.std.specs.List.{cons_option, filter_map}
use Rattle.std.proofs.lemmas.Bool.Decides.{nat_tests}
use Rattle.std.proofs.lemmas.List.{append-nil}
use Rattle.std.proofs.lemmas.List.Elements.{filter_map-append}
use Rattle.tipc_types.specs.Address.{node_word}
use Rattle.tipc_types.specs.declared.identity.Addr.{Addr}
use Rattle.tipc_outside.specs.declared.outgoing.Outgoing.{Outgoing}
use Rattle.tipc_journal.specs.declared.entries.Entry.{Entry}
use Rattle.tipc_journal.specs.declared.entries.Entry.TheVariants as entry
use Rattle.tipc_journal.specs.Steps.{step_entries, NodeStep}
use Rattle.tipc_pair.specs.declared.transitions.Transition.{Transition}
use Rattle.tipc_pair.specs.declared.transitions.Transition.TheVariants.{ContactDown, ContactUp, LinkDown, LinkUp}
use Rattle.tipc_pair.specs.Contacts.{is_of_contact}
use Rattle.tipc_pair.specs.Facing.{PairEnds, in_contact}
use Rattle.tipc_pair.proofs.turns.PairTells.{Means, Story, began, contact_changes, ended, stays}
use Rattle.tipc_two_nodes.specs.Order.{Contact, HaveMet, present_contact}
use Rattle.tipc_two_nodes.specs.Reaching.{Steps}
use Rattle.tipc_two_nodes.specs.Sights.{pair_seen, Sight}
use Rattle.tipc_two_nodes.proofs.sights.Meeting.{enters_met, steps_met}
use Rattle.tipc_node.specs.Nodes.{change_entries}
use Rattle.tipc_node.specs.Turns.{PeerTurn, addr_of, is_change_of}
use Rattle.tipc_replay.specs.Met.{as_contact, contact_begun, contacts_entered}

-- the contact that begins in a story
abbrev pub numbers_begun : Story → List (ℕ × ℕ)
numbers_begun stays = []
numbers_begun (began numbers) = numbers ∷ []
numbers_begun (ended numbers states shown) = []

-- ---- the entries of a step

-- an entry that tells nothing of node b begins no contact with it
begins_none : (b : ℕ) (e : Entry) → is_change_of b e ≡ false → contact_begun (addr_of b) e ≡ None
begins_none b (entry.ContactUp peer numbers) other = ap (λ t. if t then Some numbers else None) other
begins_none b other is = refl

-- so only what it tells of node b counts
begun_only : (b : ℕ) (es : List Entry) → filter_map (contact_begun (addr_of b)) es ≡ filter_map (contact_begun (addr_of b)) (filter (is_change_of b) es)
begun_only b [] = refl
begun_only b (e ∷ es) = by (begun_only b es) (is_change_of b e) refl
  where
    by : filter_map (contact_begun (addr_of b)) es ≡ filter_map (contact_begun (addr_of b)) (filter (is_change_of b) es) → (t : Bool) → is_change_of b e ≡ t
        → cons_option (contact_begun (addr_of b) e) (filter_map (contact_begun (addr_of b)) es) ≡ filter_map (contact_begun (addr_of b)) (if t then e ∷ filter (is_change_of b) es else filter (is_change_of b) es)
    by later true is = ap (cons_option (contact_begun (addr_of b) e)) later
    by later false is = ap (λ o. cons_option o (filter_map (contact_begun (addr_of b)) es)) (begins_none b e is) ∙ later

-- the contact that begins with a change
abbrev change_begins : Transition → Option (ℕ × ℕ)
change_begins (ContactUp numbers) = Some numbers
change_begins other = None

changes_begin : (b : ℕ) (cs : List Transition) → filter_map (contact_begun (addr_of b)) (change_entries b cs) ≡ filter_map change_begins (filter is_of_contact cs)
changes_begin b [] = refl
changes_begin b (LinkUp bearer own theirs ∷ cs) = changes_begin b cs
changes_begin b (LinkDown bearer because shown ∷ cs) = changes_begin b cs
changes_begin b (ContactDown numbers states shown ∷ cs) = changes_begin b cs
changes_begin b (ContactUp numbers ∷ cs) =
    let same : (node_word b == node_word b) ≡ true = grind (arith, nat_tests) in
    ap (λ t. cons_option (if t then Some numbers else None) (filter_map (contact_begun (addr_of b)) (change_entries b cs))) same ∙ ap (λ ns. numbers ∷ ns) (changes_begin b cs)

story_begins : (s : Story) → filter_map change_begins (contact_changes s) ≡ numbers_begun s
story_begins stays = refl
story_begins (began numbers) = refl
story_begins (ended numbers states shown) = refl

-- what is inside a step, and the step
pub turn_begins : (own : ℕ) (bytes : List ℕ) (s : NodeStep) (frames : List Outgoing) (b : ℕ) (x x' : PairEnds) (story : Story) (t : PeerTurn own bytes s frames b x x') → filter is_of_contact t.turn.first.course.changes ≡ contact_changes story
    → filter_map (contact_begun (addr_of b)) s.inside ≡ numbers_begun story
turn_begins own bytes s frames b x x' story t is =
    begun_only b s.inside ∙ ap (filter_map (contact_begun (addr_of b))) t.changes ∙ changes_begin b t.turn.first.course.changes ∙ ap (filter_map change_begins) is ∙ story_begins story

pub step_enters : (J : List Entry) (s : NodeStep) (p : Addr) → contacts_entered (J ++ step_entries s) p ≡ contacts_entered J p ++ filter_map (contact_begun p) s.inside
unfolding contacts_entered
step_enters J s p =
    filter_map-append (contact_begun p) J (step_entries s)
    ∙ ap (λ w. filter_map (contact_begun p) J ++ w) (filter_map-append (contact_begun p) s.inside (entry.Answered s.caller s.call s.answer ∷ []) ∙ append-nil (filter_map (contact_begun p) s.inside))

-- ---- two nodes after it

-- After a step of v they met in those contacts, and in the one that began.
pub met_then : (v v' w : Sight) (here there : List Contact) (x y : PairEnds) (s : Story) → HaveMet v w here there → Steps v w v' → Means x y s → pair_seen v' ≡ y → HaveMet v' w (here ++ map as_contact (numbers_begun s)) there
met_then v v' w here there x y stays h steps means seen = subst (λ cs. HaveMet v' w cs there) (sym (append-nil here)) (steps_met v v' w here there h steps)
met_then v v' w here there x y (ended numbers states shown) h steps means seen = subst (λ cs. HaveMet v' w cs there) (sym (append-nil here)) (steps_met v v' w here there h steps)
met_then v v' w here there x y (began numbers) h steps means seen =
    let now : HaveMet v' w (here ++ present_contact v' ∷ []) there = enters_met v' w here there (steps_met v v' w here there h steps) (ap in_contact seen ∙ means.1) in
    let contact : v'.node.contact ≡ y.contact = ap (λ (z : PairEnds). z.contact) seen in
    let met : v'.node.seen ≡ y.seen = ap (λ (z : PairEnds). z.seen) seen in
    let same : present_contact v' ≡ as_contact numbers = (λ i. record { own = contact i; theirs = met i }) ∙ ap as_contact (sym means.2) in
    subst (λ c. HaveMet v' w (here ++ c ∷ []) there) same now
