-- A peer with which a contact begins is told of the live publications.
use Rattle.std.proofs.Common.{◌≡◌, ◌<◌, ◌||◌, ℕ, Bool, true, false, List, [], ◌∷◌, Option, Some, None, fold, length, refl, sym, subst, ◌∙◌}
use Rattle.std.specs.Prelude.{slice_index_or, slice_set}
use Rattle.std.specs.List.{All}
use Rattle.std.proofs.Math.ListN.{get_or}
use Rattle.std.proofs.lemmas.List.{get_or-set_same}
use Rattle.std.proofs.lemmas.List.Elements.{All-nil}
use Rattle.std.proofs.lemmas.Option.{slice_get-get_or}
use Rattle.tipc_types.specs.declared.message_forms.Message.{Message}
use Rattle.tipc_types.specs.declared.message_forms.Message.TheVariants.{Items, Payload}
use Rattle.tipc_types.specs.declared.services.Publication.{Publication}
use Rattle.tipc_outside.specs.Frames.{Out}
use Rattle.tipc_outside.proofs.Adding.{adds_none}
use Rattle.tipc_message.specs.Wire.{IsCarried}
use Rattle.tipc_name_dist.specs.Items.{IsBulk, IsTelling}
use Rattle.tipc_pair.specs.declared.transitions.Transition.{Transition}
use Rattle.tipc_pair.specs.declared.transitions.Transition.TheVariants.{ContactDown, ContactUp, LinkDown, LinkUp}
use Rattle.tipc_sockets.specs.SocketTables.{SocketTable}
use Rattle.tipc_sockets.specs.Telling.{after_entry}
use Rattle.tipc_node.specs.declared.neighbours.Neighbour.{Neighbour}
use Rattle.tipc_node.specs.Arrivals.{Greets, GreetsWhere}
use Rattle.tipc_node.specs.Hearings.{Greeted, HasContact}
use Rattle.tipc_pair.specs.Contacts.{begins, ends, is_ending}
use Rattle.tipc_node.specs.Nodes.{change_entries, change_entry}
use Rattle.tipc_node.specs.Works.{Work}
use Rattle.tipc_node.specs.Works.PutsEach.{none_left}
use Rattle.tipc_node.proofs.journal.PeersTold.{AreItems}

-- ---- the messages

telling_carried : (m : Message) → IsTelling m → IsCarried m
telling_carried (Items withdrawal items) is = (is.1, is.2)
telling_carried (Payload importance form from to kind lower upper code droppable body) is = absurd is

telling_items : (m : Message) → IsTelling m → AreItems m
telling_items (Items withdrawal items) is = tt
telling_items (Payload importance form from to kind lower upper code droppable body) is = absurd is

-- a packet carries each of them
pub bulk_carried : (live : List Publication) (ms : List Message) → IsBulk live ms → All IsCarried ms
bulk_carried live ms bulk k d within = telling_carried (get_or ms k d) (bulk.each k (get_or ms k d) (slice_get-get_or ms k d within))

pub greets_items : (live : List Publication) (changes : List Transition) (ms : List Message) → Greets live changes ms → All AreItems ms
greets_items live changes ms greets = by (begins changes) greets
  where
    by : (b : Bool) → GreetsWhere b live ms → All AreItems ms
    by true bulk = λ k d within. telling_items (get_or ms k d) (bulk.each k (get_or ms k d) (slice_get-get_or ms k d within))
    by false none = subst (All AreItems) (sym none) (All-nil AreItems)

-- ---- nothing is told

-- so it was told nothing
pub nobody_greeted : (own peer : ℕ) (changes : List Transition) (w : Work) (box : Out) → Greets w.sockets.live changes [] → Greeted own peer changes w w box box
nobody_greeted own peer changes w box none = record { messages = []; greets = none; frames = []; puts = none_left w; adds = adds_none box }

-- ---- the sockets

either_live : (s : SocketTable) (peer : ℕ) (t : Transition) (rest : Bool) → (is_ending t || rest) ≡ false → ((after_entry s (change_entry peer t)).live ≡ s.live) × (rest ≡ false)
either_live s peer (LinkUp bearer own theirs) rest none = (refl, none)
either_live s peer (LinkDown bearer cause shown) rest none = (refl, none)
either_live s peer (ContactUp contact) rest none = (refl, none)
either_live s peer (ContactDown contact states shown) rest none = absurd (let wrong : true ≡ false = none in cc)

-- changes by which no contact ends make none of the live publications another
pub changed_live : (s : SocketTable) (peer : ℕ) (changes : List Transition) → ends changes ≡ false → (fold after_entry s (change_entries peer changes)).live ≡ s.live
changed_live s peer [] none = refl
changed_live s peer (t ∷ changes) none = let both = either_live s peer t (ends changes) none in changed_live (after_entry s (change_entry peer t)) peer changes both.1 ∙ both.0

pub greets_before : (s : SocketTable) (peer : ℕ) (changes : List Transition) (ms : List Message) → (begins changes ≡ true → ends changes ≡ false) → Greets (fold after_entry s (change_entries peer changes)).live changes ms → Greets s.live changes ms
greets_before s peer changes ms once greets = by (begins changes) refl greets
  where
    by : (b : Bool) → begins changes ≡ b → GreetsWhere b (fold after_entry s (change_entries peer changes)).live ms → GreetsWhere b s.live ms
    by true is bulk = subst (λ ps. IsBulk ps ms) (changed_live s peer changes (once is)) bulk
    by false is none = none

-- ---- the contact

-- where it began there is contact at the neighbour's place
pub contact_placed : (xs : List (Option Neighbour)) (peer : ℕ) (y : Neighbour) (changes : List Transition) → peer < length xs → HasContact changes (Some y) → HasContact changes (slice_index_or (slice_set xs peer (Some y)) peer None)
contact_placed xs peer y changes within has = subst (HasContact changes) (sym (get_or-set_same xs peer (Some y) None within)) has
