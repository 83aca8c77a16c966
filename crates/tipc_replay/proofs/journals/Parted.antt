-- Where a journal tells that a contact ends, no link to its peer is up.
use Rattle.std.specs.Prelude.{◌==◌, ◌&&◌, filter, fold, if◌then◌else◌}
use Rattle.std.proofs.Common.{◌≡◌, ◌++◌, ◌∙◌, ℕ, zero, suc, Bool, true, false, List, [], ◌∷◌, Option, Some, None, append_assoc, drop, map, slice_get, take, refl, sym, ap, subst}
use Rattle.std.proofs.lemmas.List.Sums.{fold-append}
use Rattle.tipc_types.specs.declared.identity.Addr.{Addr}
use Rattle.tipc_types.specs.declared.link_words.LinkState.{LinkState}
use Rattle.tipc_outside.specs.declared.outgoing.Outgoing.{Outgoing}
use Rattle.tipc_journal.specs.declared.entries.Entry.{Entry}
use Rattle.tipc_journal.specs.declared.entries.Entry.TheVariants as entry
use Rattle.tipc_journal.specs.Contacts.{epochs_after, up_epochs}
use Rattle.tipc_journal.specs.Steps.{step_entries, NodeStep, PlacedStep}
use Rattle.tipc_pair.specs.declared.transitions.Transition.{Transition}
use Rattle.tipc_pair.specs.declared.transitions.Transition.TheVariants.{ContactDown, ContactUp, LinkDown, LinkUp}
use Rattle.tipc_pair.specs.Facing.{PairEnds}
use Rattle.tipc_node.specs.Nodes.{NodeState, change_entry, pair_with}
use Rattle.tipc_node.proofs.pairs.Strangers.{kept_abreast}
use Rattle.tipc_node.specs.Telling.{IsTold}
use Rattle.tipc_pair.specs.LinkReadings.{AreAbreast}
use Rattle.tipc_node.specs.Turns.{IsOfNeighbour, IsPlaced, NodeTurn, PeerTurn, addr_of, is_change_of}
use Rattle.tipc_node.proofs.journal.Telling.{same_word}
use Rattle.tipc_replay.specs.Lawful.{up_to}
use Rattle.tipc_replay.proofs.InLists.{all_at}
use Rattle.tipc_pair.proofs.turns.EndsLast.{IsLastOf, first_last, is_over}

-- whether an entry is the end of a contact
abbrev is_end : Entry → Bool
is_end (entry.ContactDown peer numbers states shown) = true
is_end other = false

-- ---- lists

-- the last stays the last under a map
mapped_last : {A B : Type 0} (f : A → B) (p : A → Bool) (q : B → Bool) (xs : List A) → ((x : A) → q (f x) ≡ p x) → IsLastOf p xs → IsLastOf q (map f xs)
mapped_last f p q [] same last = tt
mapped_last f p q (x ∷ xs) same last = ((λ is. ap (map f) (last.0 (sym (same x) ∙ is))), mapped_last f p q xs same last.1)

-- behind one that is the last of those of its kind stands none of the kind
none_behind : {A : Type 0} (p q : A → Bool) (xs : List A) (k : ℕ) (x : A) → IsLastOf q (filter p xs) → slice_get xs k ≡ Some x → p x ≡ true → q x ≡ true → filter p (drop (suc k) xs) ≡ []
none_behind p q [] k x last there is is_last = absurd cc
none_behind {A} p q (y ∷ ys) zero x last there is is_last =
    let same : y ≡ x = cc in
    let passes : p y ≡ true = ap p same ∙ is in
    let here : IsLastOf q (y ∷ filter p ys) = subst (λ (b : Bool). IsLastOf q (if b then y ∷ filter p ys else filter p ys)) passes last in
    here.0 (ap q same ∙ is_last)
none_behind {A} p q (y ∷ ys) (suc k) x last there is is_last = none_behind p q ys k x (case (p y) last) there is is_last
  where
    case : (b : Bool) → IsLastOf q (if b then y ∷ filter p ys else filter p ys) → IsLastOf q (filter p ys)
    case true h = h.1
    case false h = h

-- a list by one of its places
split_at : {A : Type 0} (xs : List A) (k : ℕ) (x : A) → slice_get xs k ≡ Some x → xs ≡ take k xs ++ x ∷ drop (suc k) xs
split_at [] k x there = absurd cc
split_at (y ∷ ys) zero x there = let same : y ≡ x = cc in ap (λ z. z ∷ ys) same
split_at (y ∷ ys) (suc k) x there = ap (λ zs. y ∷ zs) (split_at ys k x there)

-- ---- entries that tell nothing of a peer's links

-- no link to node b goes up or down by an entry that tells of no change there
still_one : (b bearer : ℕ) (z : Option (ℕ × ℕ)) (e : Entry) → is_change_of b e ≡ false → epochs_after (addr_of b) bearer z e ≡ z
still_one b bearer z (entry.LinkUp peer on own theirs) other = ap (λ t. if t && (on == bearer) then Some (own, theirs) else z) other
still_one b bearer z (entry.LinkDown peer on cause shown) other = ap (λ t. if t && (on == bearer) then None else z) other
still_one b bearer z e other = refl

-- nor by entries of which none does
still_all : (b bearer : ℕ) (z : Option (ℕ × ℕ)) (es : List Entry) → filter (is_change_of b) es ≡ [] → fold (epochs_after (addr_of b) bearer) z es ≡ z
still_all b bearer z [] none = refl
still_all b bearer z (e ∷ es) none = case (still_all b bearer z es) (is_change_of b e) refl none
  where
    case : (filter (is_change_of b) es ≡ [] → fold (epochs_after (addr_of b) bearer) z es ≡ z) → (t : Bool) → is_change_of b e ≡ t
        → (if t then e ∷ filter (is_change_of b) es else filter (is_change_of b) es) ≡ [] → fold (epochs_after (addr_of b) bearer) z (e ∷ es) ≡ z
    case later true is some = absurd cc
    case later false is rest = ap (λ o. fold (epochs_after (addr_of b) bearer) o es) (still_one b bearer z e is) ∙ later rest

-- where the contact ends, the links are as they are after the step
ended_as : (journal : List Entry) (s : NodeStep) (b bearer place : ℕ) (numbers : ℕ × ℕ) (states : Option LinkState × Option LinkState) (shown : ℕ) → slice_get s.inside place ≡ Some (entry.ContactDown (addr_of b) numbers states shown)
    → filter (is_change_of b) (drop (suc place) s.inside) ≡ [] → up_epochs (journal ++ step_entries s) (addr_of b) bearer ≡ up_epochs (up_to (record { before = journal; step = s }) place) (addr_of b) bearer
unfolding up_epochs
ended_as journal s b bearer place numbers states shown there none =
    let by = epochs_after (addr_of b) bearer in
    let begin = entry.Step s.by s.event in
    let answered = entry.Answered s.caller s.call s.answer ∷ [] in
    let e = entry.ContactDown (addr_of b) numbers states shown in
    let front = journal ++ begin ∷ take place s.inside in
    let later = drop (suc place) s.inside in
    let inside : s.inside ++ answered ≡ take place s.inside ++ (e ∷ later ++ answered) =
    ap (λ es. es ++ answered) (split_at s.inside place e there) ∙ append_assoc (take place s.inside) (e ∷ later) answered in
    let all : journal ++ step_entries s ≡ front ++ (e ∷ later ++ answered) =
    ap (λ es. journal ++ begin ∷ es) inside ∙ sym (append_assoc journal (begin ∷ take place s.inside) (e ∷ later ++ answered)) in
    ap (fold by None) all ∙ fold-append by None front (e ∷ later ++ answered) ∙ fold-append by (fold by None front) later answered ∙ still_all b bearer (fold by None front) later none

-- ---- the turn

-- the entry of a contact's end is one
over_same : (b : ℕ) (t : Transition) → is_end (change_entry b t) ≡ is_over t
over_same b (LinkUp bearer own theirs) = refl
over_same b (LinkDown bearer because shown) = refl
over_same b (ContactUp numbers) = refl
over_same b (ContactDown numbers states shown) = refl

-- the end of a contact stands behind all else that the step tells of links to that peer
peer_parted : (journal : List Entry) (own : ℕ) (bytes : List ℕ) (s : NodeStep) (frames : List Outgoing) (b : ℕ) (x x' : PairEnds) (t : PeerTurn own bytes s frames b x x') → AreAbreast x
    → ((bearer : ℕ) → up_epochs (journal ++ step_entries s) (addr_of b) bearer ≡ None) → (place : ℕ) (numbers : ℕ × ℕ) (states : Option LinkState × Option LinkState) (shown : ℕ)
    → slice_get s.inside place ≡ Some (entry.ContactDown (addr_of b) numbers states shown) → (bearer : ℕ) → up_epochs (up_to (record { before = journal; step = s }) place) (addr_of b) bearer ≡ None
peer_parted journal own bytes s frames b x x' t abreast none place numbers states shown there bearer =
    let last = first_last x t.opening t.turn.first abreast t.turn.happened in
    let entries_last : IsLastOf is_end (filter (is_change_of b) s.inside) = subst (IsLastOf is_end) (sym t.changes) (mapped_last (change_entry b) is_over is_end t.turn.first.course.changes (over_same b) last) in
    let behind = none_behind (is_change_of b) is_end s.inside place (entry.ContactDown (addr_of b) numbers states shown) entries_last there (same_word b) refl in
    sym (ended_as journal s b bearer place numbers states shown there behind) ∙ none bearer

-- where a step tells that a contact ends, no link to its peer is up
abbrev pub AreParted : PlacedStep → Type 0
AreParted s = (place : ℕ) (peer : Addr) (numbers : ℕ × ℕ) (states : Option LinkState × Option LinkState) (number : ℕ) → slice_get s.step.inside place ≡ Some (entry.ContactDown peer numbers states number)
    → (bearer : ℕ) → up_epochs (up_to s place) peer bearer ≡ None

-- so it is in a step after which none is up
pub turn_parted : (n n' : NodeState) (bytes : List ℕ) (s : NodeStep) (frames : List Outgoing) → NodeTurn n n' bytes s frames → IsTold n
    → ((place : ℕ) (peer : Addr) (numbers : ℕ × ℕ) (states : Option LinkState × Option LinkState) (number : ℕ) → slice_get s.inside place ≡ Some (entry.ContactDown peer numbers states number)
    → (bearer : ℕ) → up_epochs (n.journal ++ step_entries s) peer bearer ≡ None) → AreParted (record { before = n.journal; step = s })
turn_parted n n' bytes s frames t told none place peer numbers states number there bearer =
    subst (λ p. up_epochs (up_to (record { before = n.journal; step = s }) place) p bearer ≡ None) (sym at.2)
    (peer_parted n.journal n.own bytes s frames at.0 (pair_with n at.0) (pair_with n' at.0) (t.turns at.0) (kept_abreast n at.0 told) (none place (addr_of at.0) numbers states number here) place numbers states number here bearer)
  where
    at : IsOfNeighbour n peer
    at = all_at (IsPlaced n) s.inside place (entry.ContactDown peer numbers states number) t.placed there

    here : slice_get s.inside place ≡ Some (entry.ContactDown (addr_of at.0) numbers states number)
    here = there ∙ ap (λ p. Some (entry.ContactDown p numbers states number)) at.2
