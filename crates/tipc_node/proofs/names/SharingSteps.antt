-- A node shares its names with its peers after a step, where it does with each peer that is in contact then.
use Rattle.std.proofs.Common.{◌≡◌, ◌==◌, ℕ, Bool, true, false, List, [], Option, Some, None, filter, refl, sym, ap, ◌∙◌, subst, true≢false, eqb-true}
use Rattle.std.specs.Prelude.{if◌then◌else◌, option_and_then, option_map}
use Rattle.tipc_types.specs.Address.{node_word}
use Rattle.tipc_types.specs.declared.node_calls.EventNote.{EventNote}
use Rattle.tipc_types.specs.declared.node_calls.EventNote.TheVariants as event
use Rattle.tipc_outside.specs.declared.outgoing.Outgoing.{Outgoing}
use Rattle.tipc_types.specs.Tables.{is_of}
use Rattle.tipc_name_dist.specs.Agreeing.{AreOwn}
use Rattle.tipc_name_dist.specs.Applying.{held_after}
use Rattle.tipc_journal.specs.Contacts.{contact}
use Rattle.tipc_journal.specs.Names.{live}
use Rattle.tipc_journal.specs.Steps.{NodeStep}
use Rattle.tipc_journal.specs.Streams.{accepted, delivered}
use Rattle.tipc_pair.specs.Facing.{PairEnds, contact_between, in_contact}
use Rattle.tipc_pair.specs.Messages.{opened_in}
use Rattle.tipc_pair.specs.PairTurns.{Happened, Opening, Outset, Suits}
use Rattle.tipc_pair.specs.PairTurns.Opening.{cuts, hears, makes, mends, rests, ticks}
use Rattle.tipc_node.specs.declared.neighbours.Neighbour.{Neighbour}
use Rattle.tipc_pair.specs.Contacts.{is_of_contact}
use Rattle.tipc_node.specs.Nodes.{NodeState, neighbour_of, pair_with, shown_contact}
use Rattle.tipc_node.specs.Sharing.{SharesNames, flow_with}
use Rattle.tipc_name_dist.specs.Told.{HasTold}
use Rattle.tipc_node.specs.Telling.{IsTold}
use Rattle.tipc_node.specs.Turns.{NodeTurn, PeerTurn, addr_of}
use Rattle.tipc_node.specs.Works.{addr_of_word}
use Rattle.tipc_pair.proofs.turns.Moves.{same_contact}
use Rattle.tipc_pair.proofs.turns.PairEvents.{is_arrival}
use Rattle.tipc_pair.proofs.turns.PairTells.{IsFall, Means, Story, began, contact_changes, ended, stays}
use Rattle.tipc_node.proofs.names.SharingEntries.{is_end_of, none_ends}
use Rattle.tipc_node.proofs.names.SharingFlows.{delivered_of_peer, given_nothing}
use Rattle.tipc_node.proofs.names.SharingUnused.{peer_means, turn_unused}
use Rattle.tipc_node.proofs.pairs.Strangers.{kept_tells, pair_there}

-- ---- a contact

-- the pair to a peer in contact shows the numbers of the contact
pub record IsLinkedBy (n : NodeState) (b : ℕ) (numbers : ℕ × ℕ) : Type 0 where
  pub neighbour : Neighbour
  pub there : neighbour_of n b ≡ Some neighbour
  pub up : in_contact neighbour.pair ≡ true
  pub shown : shown_contact neighbour.pair ≡ numbers

pub shown_by : (x : PairEnds) (numbers : ℕ × ℕ) → contact_between x ≡ Some numbers → (in_contact x ≡ true) × (shown_contact x ≡ numbers)
shown_by x numbers is = by (in_contact x) refl is
  where
    by : (b : Bool) → in_contact x ≡ b → (if b then Some (x.contact, x.seen) else None) ≡ Some numbers → (in_contact x ≡ true) × (shown_contact x ≡ numbers)
    by true up some = (up, cc)
    by false down none = absurd cc

pub linked_by : (n : NodeState) (b : ℕ) (numbers : ℕ × ℕ) → IsTold n → contact n.journal (addr_of b) ≡ Some numbers → IsLinkedBy n b numbers
linked_by n b numbers h is = by (neighbour_of n b) refl
  where
    by : (o : Option Neighbour) → neighbour_of n b ≡ o → IsLinkedBy n b numbers
    by None none =
        let alone : contact n.journal (addr_of b) ≡ None = (h.links b).contact_is ∙ ap (λ (o : Option Neighbour). option_and_then contact_between (option_map (λ (x : Neighbour). x.pair) o)) none in
        absurd (let wrong : ◌≡◌ {A = Option (ℕ × ℕ)} (Some numbers) None = sym is ∙ alone in cc)
    by (Some x) there =
        let met : contact_between x.pair ≡ Some numbers = ap (λ (o : Option Neighbour). option_and_then contact_between (option_map (λ (y : Neighbour). y.pair) o)) (sym there) ∙ sym (h.links b).contact_is ∙ is in
        let both = shown_by x.pair numbers met in
        record { neighbour = x; there = there; up = both.0; shown = both.1 }

-- the contact with a neighbour is that of its pair
pub contact_there : (n : NodeState) (b : ℕ) (x : Neighbour) → IsTold n → neighbour_of n b ≡ Some x → contact n.journal (addr_of b) ≡ contact_between x.pair
contact_there n b x h there = (h.links b).contact_is ∙ ap (λ (o : Option Neighbour). option_and_then contact_between (option_map (λ (y : Neighbour). y.pair) o)) there

-- a node isn't in contact with itself
pub other_than : (n : NodeState) (b : ℕ) (numbers : ℕ × ℕ) → IsTold n → contact n.journal (addr_of b) ≡ Some numbers → (node_word b == n.own) ≡ false
other_than n b numbers h is = by (node_word b == n.own) refl
  where
    by : (t : Bool) → (node_word b == n.own) ≡ t → t ≡ false
    by false apart = refl
    by true mine =
        let same : node_word b ≡ n.own = eqb-true _ _ mine in
        absurd (let wrong : ◌≡◌ {A = Option (ℕ × ℕ)} (Some numbers) None = sym is ∙ ap (λ w. contact n.journal (addr_of_word w)) same ∙ h.alone in cc)

-- ---- a peer in contact

pub record SharesAt (n : NodeState) (b : ℕ) (numbers : ℕ × ℕ) : Type 0 where
  pub told : HasTold n.own (live n.journal) (accepted n.journal (flow_with b numbers))
  pub holds : filter (is_of (node_word b)) n.sockets.names ≡ held_after (node_word b) [] (delivered n.journal (flow_with b numbers))

pub shares_from : (n n' : NodeState) (bytes : List ℕ) (s : NodeStep) (frames : List Outgoing) → IsTold n → SharesNames n → NodeTurn n n' bytes s frames → AreOwn n'.own (live n'.journal)
    → ((b : ℕ) (numbers : ℕ × ℕ) → contact n'.journal (addr_of b) ≡ Some numbers → SharesAt n' b numbers) → SharesNames n'
shares_from n n' bytes s frames h shares t own at = record {
  own_names = own;
  told = λ b numbers is. (let a = at b numbers is in a.told);
  holds = λ b numbers is. (let a = at b numbers is in a.holds);
  unused = turn_unused n n' bytes s frames h t shares.unused;
}

-- ---- a call

-- a call of the node's own, not an arrival
abbrev pub IsOwnCall : EventNote → Type 0
IsOwnCall (event.Arrive bearer number) = ⊥
IsOwnCall other = Unit {0}

-- then nothing is given at any pair
calm : (note : EventNote) (x : PairEnds) (opening : Opening) (o : Outset) → IsOwnCall note → Suits note opening → Happened x opening o → (is_arrival opening ≡ false) × (opened_in o.given ≡ [])
calm note x rests o own suits is = (refl, ap (λ (p : Outset). opened_in p.given) is)
calm note x (makes bearer is_mended) o own suits is = absurd (subst IsOwnCall suits.1.1 own)
calm note x (mends bearer) o own suits is = (refl, ap (λ (p : Outset). opened_in p.given) is)
calm note x (cuts bearer) o own suits is = (refl, ap (λ (p : Outset). opened_in p.given) is)
calm note x (ticks shown) o own suits is = (refl, ap (λ (p : Outset). opened_in p.given) is)
calm note x (hears bearer es er p by shown) o own suits is = absurd (subst IsOwnCall suits own)

-- a contact that there is after a step was there before it; the step doesn't tell of its end, and nothing was delivered in it
pub record IsSteady (n : NodeState) (s : NodeStep) (b : ℕ) (numbers : ℕ × ℕ) : Type 0 where
  pub before : contact n.journal (addr_of b) ≡ Some numbers
  pub no_end : filter (is_end_of b) s.inside ≡ []
  pub none_delivered : delivered s.inside (flow_with b numbers) ≡ []

steady_at : (n : NodeState) (bytes : List ℕ) (s : NodeStep) (frames : List Outgoing) (b : ℕ) (numbers : ℕ × ℕ) (y : PairEnds) → IsTold n → PeerTurn n.own bytes s frames b (pair_with n b) y → IsOwnCall s.event
    → in_contact y ≡ true → contact_between y ≡ Some numbers → IsSteady n s b numbers
steady_at n bytes s frames b numbers y h p own up met =
    let first = p.turn.first in
    let x = pair_with n b in
    let was = kept_tells n b h in
    let m = peer_means n.own bytes s frames b x y was.abreast p in
    let quiet = calm s.event x p.opening first own p.suits p.turn.happened in
    by m.story m.story_is m.means (m.falls quiet.0) quiet.1
  where
    by : (story : Story) → filter is_of_contact p.turn.first.course.changes ≡ contact_changes story → Means (pair_with n b) y story → IsFall story → opened_in p.turn.first.given ≡ [] → IsSteady n s b numbers
    by stays is means fall nothing = record {
      before = (kept_tells n b h).contact_is ∙ sym (same_contact (pair_with n b) y means.0 means.1 (means.2 (sym means.0 ∙ up))) ∙ met;
      no_end = none_ends b s.inside p.turn.first.course.changes p.changes is;
      none_delivered = delivered_of_peer b numbers s.inside _ [] p.delivered (given_nothing b numbers (pair_with n b) p.turn.first.given nothing);
    }
    by (began fresh) is means fall nothing = absurd fall
    by (ended gone states shown) is means fall nothing = absurd (true≢false (sym up ∙ means.2))

pub call_steady : (n n' : NodeState) (bytes : List ℕ) (s : NodeStep) (frames : List Outgoing) (b : ℕ) (numbers : ℕ × ℕ) → IsTold n → IsTold n' → NodeTurn n n' bytes s frames → IsOwnCall s.event → contact n'.journal (addr_of b) ≡ Some numbers
    → IsSteady n s b numbers
call_steady n n' bytes s frames b numbers h h' t own is =
    let now = linked_by n' b numbers h' is in
    steady_at n bytes s frames b numbers (pair_with n' b) h (t.turns b) own (ap in_contact (pair_there n' b now.neighbour now.there) ∙ now.up) (sym (kept_tells n' b h').contact_is ∙ is)
