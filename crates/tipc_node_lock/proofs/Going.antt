-- How the moving of messages goes on at a place: what stands by is offered again, or one message is moved.
use Rattle.std.specs.Prelude.{is_some, slice_get, slice_index_or, slice_set, MatchOption}
use Rattle.std.proofs.Common.{◌≡◌, ◌≢◌, ◌⊎◌, inl, inr, ◌+◌, ◌<◌, ◌≤◌, ℕ, zero, suc, Bool, true, false, arith, List, [], ◌∷◌, Option, Some, None, drop, length, not, refl, sym, subst, ◌∙◌, ap}
use Rattle.std.proofs.lemmas.Option.{get_or_from_slice_get, slice_get-get_or, slice_get_within}
use Rattle.tipc_types.specs.declared.message_forms.Message.{Message}
use Rattle.tipc_types.specs.declared.node_calls.Answer.{Answer}
use Rattle.tipc_types.specs.declared.node_calls.Answer.TheVariants as answer
use Rattle.tipc_types.specs.declared.node_calls.By.{By}
use Rattle.tipc_types.specs.declared.node_calls.EventNote.TheVariants as note
use Rattle.tipc_pick.specs.Choosing.{Choosing}
use Rattle.tipc_journal.specs.Counting.{calls_of}
use Rattle.tipc_journal.specs.Room.{has_journal_room}
use Rattle.tipc_outside.specs.Frames.{Out}
use Rattle.tipc_sockets.specs.SocketTables.{has_port}
use Rattle.tipc_stamp.specs.Seats.{SeatState, drew}
use Rattle.tipc_node.specs.Calls.{Performed}
use Rattle.tipc_node.specs.Nodes.{NodeState}
use Rattle.tipc_node.specs.Sockets.{first_answer, waiting_at}
use Rattle.tipc_node_lock.specs.Advances.{Advances, IsOpenAt}
use Rattle.tipc_node_lock.specs.Inboxes.{Offers, PlaceState}
use Rattle.tipc_node_lock.specs.Locked.{AreCounts, IsWellKept, LockedState, by_of}
use Rattle.tipc_node_lock.specs.Moves.{IsCleared, IsClearedAt, MovesMessage, OffersAgain}
use Rattle.tipc_node_lock.specs.Passes.{IsNextStamp, PassState, marked_short, with_drawn}
use Rattle.tipc_node_lock.proofs.Lists.{get_set}
use Rattle.tipc_node_lock.proofs.Moving.{advances_again, advances_moved, advances_none, advances_short, cleared_at, none_stands, offered_back}
use Rattle.tipc_node_lock.proofs.Placed.{offered_port, place_there, received_first, waits_less}
use Rattle.tipc_node_lock.proofs.Sectioned.{by_is, counts_after, kept_again, kept_moving}

-- ---- what stands by

-- the same list, where what is put at a place was there
pub set_same : {X : Type 0} (xs : List X) (i : ℕ) (x : X) → slice_get xs i ≡ Some x → slice_set xs i x ≡ xs
set_same [] i x at = refl
set_same (z ∷ zs) zero x at =
    let here : z ≡ x = cc in
    ap (λ w. w ∷ zs) (sym here)
set_same (z ∷ zs) (suc i) x at = ap (λ w. z ∷ w) (set_same zs i x at)

-- what stands by at a place was offered once more, or nothing stands by
abbrev pub TriesAgain : {P : Type 0} → ℕ → LockedState P → LockedState P → Type 0
TriesAgain index n n' = (n' ≡ n) ⊎ OffersAgain index n n'

pub tries_again : {P : Type 0} (index : ℕ) (n : LockedState P) (p p' : PlaceState) → slice_get n.places index ≡ Some p
    → MatchOption p.standing (p' ≡ p) (λ m. Offers (record p { standing = None }) m p')
    → TriesAgain index n (record n { places = slice_set n.places index p' })
tries_again index n p p' at told = by p.standing refl told
  where
    by : (o : Option Message) → p.standing ≡ o → MatchOption o (p' ≡ p) (λ m. Offers (record p { standing = None }) m p')
        → TriesAgain index n (record n { places = slice_set n.places index p' })
    by None none same =
        inl (ap (λ ps. record n { places = ps }) (ap (slice_set n.places index) same ∙ set_same n.places index p at))
    by (Some m) stands offers = inr (record { place = p; after = p'; message = m; at = at; stands = stands; offers = offers; is = refl })

pub kept_trying : {P : Type 0} (index : ℕ) (n n' : LockedState P) → IsWellKept n → TriesAgain index n n' → IsWellKept n'
kept_trying index n n' k (inl same) = subst (λ (m : LockedState _). IsWellKept m) (sym same) k
kept_trying index n n' k (inr again) = kept_again n n' index k again

pub advances_trying : {P : Type 0} (index : ℕ) (n n' : LockedState P) (p : PassState) → TriesAgain index n n' → Advances index 0 n n' p p
advances_trying index n n' p (inl same) = subst (λ (m : LockedState _). Advances index 0 n m p p) (sym same) (advances_none index 0 n p)
advances_trying index n n' p (inr again) = advances_again index n n' p again

-- something stands by then: the inbox gave it back
pub cleared_trying : {P : Type 0} (index : ℕ) (n : LockedState P) (p p' : PlaceState) → slice_get n.places index ≡ Some p
    → MatchOption p.standing (p' ≡ p) (λ m. Offers (record p { standing = None }) m p') → is_some p'.standing ≡ true
    → IsClearedAt (record n { places = slice_set n.places index p' }) index
cleared_trying index n p p' at told stands =
    cleared_at (record n { places = slice_set n.places index p' }) index p' (get_set n.places index p p' at) (by p.standing refl told)
  where
    by : (o : Option Message) → p.standing ≡ o → MatchOption o (p' ≡ p) (λ m. Offers (record p { standing = None }) m p')
        → IsCleared (record n { places = slice_set n.places index p' }) p'
    by None none same = let lost = sym (ap (λ (q : PlaceState). is_some q.standing) same ∙ ap is_some none) ∙ stands in absurd cc
    by (Some m) some offers = inr (offered_back (record p { standing = None }) p' m offers stands)

-- nothing does: the place is open, and its port is the one before
pub open_trying : {P : Type 0} (index : ℕ) (n : LockedState P) (p p' : PlaceState) → slice_get n.places index ≡ Some p → is_some p'.standing ≡ false
    → IsOpenAt index p'.port (record n { places = slice_set n.places index p' })
open_trying index n p p' at free = (p', get_set n.places index p p' at, refl, none_stands p'.standing free)

-- ---- one message

-- a call of caller 0 moved a message
abbrev pub moves_message : {P : Type 0} (index port : ℕ) (n n' : LockedState P) (p p' : PassState) (by : By) (place after : PlaceState) (m : Message)
    → by.caller ≡ 0 → by.call ≡ length (calls_of n.node.journal 0) → slice_get n.places index ≡ Some place → place.port ≡ port → place.standing ≡ None
    → has_journal_room n.node.journal ≡ true → IsNextStamp by.stamp p.seat
    → Performed n.node by (note.Receive port) n'.node n.out n'.out (answer.Received m) → Offers place m after
    → n'.places ≡ slice_set n.places index after → n'.chooser ≡ n.chooser → n'.heard ≡ n.heard → n'.passes ≡ n.passes → p' ≡ with_drawn p by.stamp
    → MovesMessage index n n' p p'
moves_message index port n n' p p' by place after m whose number at here free room next done offers places chooser heard passes pass =
    let from_place : Performed n.node by (note.Receive place.port) n'.node n.out n'.out (answer.Received m) =
    subst (λ (q : ℕ). Performed n.node by (note.Receive q) n'.node n.out n'.out (answer.Received m)) (sym here) done in
    let performed : Performed n.node (by_of n 0 by.stamp) (note.Receive place.port) n'.node n.out n'.out (answer.Received m) =
    subst (λ (b : By). Performed n.node b (note.Receive place.port) n'.node n.out n'.out (answer.Received m)) (by_is n by 0 whose number) from_place in
    record {
      place = place;
      after = after;
      message = m;
      stamp = by.stamp;
      at = at;
      free = free;
      room = room;
      next = next;
      performed = performed;
      offers = offers;
      places = places;
      chooser = chooser;
      heard = heard;
      passes = passes;
      pass = pass;
    }

-- where messages wait at a port that is there, a receive gives one
pub gives_one : (n n' : NodeState) (port : ℕ) (by : By) (box box' : Out) (answered : Answer) → has_port n.sockets port ≡ true → 0 < length (waiting_at n.sockets port)
    → Performed n by (note.Receive port) n' box box' answered → (m : Message) × (answered ≡ answer.Received m)
gives_one n n' port by box box' answered there waits done =
    head (waiting_at n.sockets port) waits (received_first n n' by done.frames port answered done.performs there).1
  where
    head : (waiting : List Message) → 0 < length waiting → answered ≡ first_answer waiting → (m : Message) × (answered ≡ answer.Received m)
    head [] some is = absurd (omega (arith, some))
    head (x ∷ rest) some is = (x, is)

-- the port of a place that is open is there
pub open_there : {P : Type 0} (index port : ℕ) (n : LockedState P) → IsWellKept n → IsOpenAt index port n → has_port n.node.sockets port ≡ true
open_there index port n k (place, at, here, free) =
    subst (λ (q : ℕ). has_port n.node.sockets q ≡ true) here (place_there n.node n.places index place k.told k.inboxes at)

-- the place is open again where nothing stands by, and one message fewer waits
pub goes_on_here : {P : Type 0} (index port : ℕ) (n n' : LockedState P) (p p' : PassState) → IsWellKept n → (moved : MovesMessage index n n' p p')
    → moved.place.port ≡ port → is_some moved.after.standing ≡ false
    → IsOpenAt index port n' × (length (waiting_at n'.node.sockets port) + 1 ≡ length (waiting_at n.node.sockets port))
goes_on_here index port n n' p p' k moved here free =
    let there = place_there n.node n.places index moved.place k.told k.inboxes moved.at in
    let told = received_first n.node n'.node (by_of n 0 moved.stamp) moved.performed.frames moved.place.port (answer.Received moved.message) moved.performed.performs there in
    let left = ap (λ s. waiting_at s moved.place.port) told.0 ∙ waits_less n.node.sockets moved.place.port in (
      (
        moved.after,
        ap (λ ps. slice_get ps index) moved.places ∙ get_set n.places index moved.place moved.after moved.at,
        offered_port moved.place moved.after moved.message moved.offers ∙ here,
        none_stands moved.after.standing free,
      ),
      subst (λ (q : ℕ). length (waiting_at n'.node.sockets q) + 1 ≡ length (waiting_at n.node.sockets q)) here
          (less (waiting_at n.node.sockets moved.place.port) (waiting_at n'.node.sockets moved.place.port) told.1 left),
    )
  where
    less : (waiting left : List Message) → answer.Received moved.message ≡ first_answer waiting → left ≡ drop 1 waiting → length left + 1 ≡ length waiting
    less [] left is rest = absurd cc
    less (x ∷ xs) left is rest = let same = ap length rest in omega (arith, same)

-- it is cleared where the message stands by
pub goes_on_next : {P : Type 0} (index : ℕ) (n n' : LockedState P) (p p' : PassState) → (moved : MovesMessage index n n' p p')
    → is_some moved.after.standing ≡ true → IsClearedAt n' index
goes_on_next index n n' p p' moved stands =
    cleared_at n' index moved.after (ap (λ ps. slice_get ps index) moved.places ∙ get_set n.places index moved.place moved.after moved.at)
    (inr (offered_back moved.place moved.after moved.message moved.offers stands))

-- ---- a call of caller 0 behind which a message is offered

-- the place of that number, as it was read
pub open_place : {P : Type 0} (index port : ℕ) (n : LockedState P) (x : PlaceState) → IsOpenAt index port n → x ≡ slice_index_or n.places index x
    → (slice_get n.places index ≡ Some x) × (x.port ≡ port) × (x.standing ≡ None)
open_place index port n x (place, at, here, free) is =
    let same : place ≡ x = sym (is ∙ get_or_from_slice_get n.places index place x at) in
    subst (λ (q : PlaceState). (slice_get n.places index ≡ Some q) × (q.port ≡ port) × (q.standing ≡ None)) same (at, here, free)

-- a number is that of a place where one is open there
pub open_within : {P : Type 0} (index port : ℕ) (n : LockedState P) → IsOpenAt index port n → index < length n.places
open_within index port n (place, at, here, free) = slice_get_within n.places index place at

-- what is behind the lock then
abbrev pub moved_state : {P : Type 0} → LockedState P → NodeState → Choosing P → Out → ℕ → PlaceState → LockedState P
moved_state n node chooser out index after = record n { node = node; chooser = chooser; out = out; places = slice_set n.places index after }

-- the message was moved, and what the type keeps holds then
pub record OneMoved {P : Type 0} (index port : ℕ) (n n' : LockedState P) (p p' : PassState) (after : PlaceState) (counts : List ℕ) : Type 0 where
  pub before : IsWellKept n
  pub moved : MovesMessage index n n' p p'
  pub here : moved.place.port ≡ port
  pub after_is : moved.after ≡ after
  pub kept : IsWellKept n'
  pub counted : AreCounts n'.node.journal counts
  pub least : 1 ≤ length counts

pub one_moved : {P : Type 0} (index port : ℕ) (n : LockedState P) (node : NodeState) (chooser : Choosing P) (out : Out) (counts counts' : List ℕ) (p : PassState) (seat : SeatState)
    (by : By) (x after : PlaceState) (m : Message)
    → IsWellKept n → AreCounts n.node.journal counts → 1 ≤ length counts → IsOpenAt index port n → has_journal_room n.node.journal ≡ true
    → by.caller ≡ 0 → by.call ≡ slice_index_or counts 0 0 → IsNextStamp by.stamp p.seat → seat ≡ drew p.seat by.stamp
    → Performed n.node by (note.Receive port) node n.out out (answer.Received m) → chooser ≡ n.chooser
    → slice_index_or counts' 0 0 ≡ slice_index_or counts 0 0 + 1 → length counts' ≡ length counts
    → ((who : ℕ) → who ≢ 0 → slice_index_or counts' who 0 ≡ slice_index_or counts who 0)
    → x ≡ slice_index_or n.places index x → Offers x m after
    → OneMoved index port n (moved_state n node chooser out index after) p (record p { seat = seat }) after counts'
one_moved index port n node chooser out counts counts' p seat by x after m k are least is_open room whose call next drawn done same one length_is others is offers =
    let at = open_place index port n x is_open is in
    let number : by.call ≡ length (calls_of n.node.journal 0) = call ∙ are.each 0 in
    let by_caller : by.call ≡ length (calls_of n.node.journal by.caller) = number ∙ ap (λ (i : ℕ). length (calls_of n.node.journal i)) (sym whose) in
    let there : Performed n.node by (note.Receive x.port) node n.out out (answer.Received m) =
    subst (λ (q : ℕ). Performed n.node by (note.Receive q) node n.out out (answer.Received m)) (sym at.1) done in
    let n' = moved_state n node chooser out index after in
    record {
      before = k;
      moved = moves_message index port n n' p (record p { seat = seat }) by x after m whose number at.0 at.1 at.2 room next done offers refl same refl refl
          (ap (λ (s : SeatState). record p { seat = s }) drawn);
      here = at.1;
      after_is = refl;
      kept = kept_moving n n' by index x after m k by_caller at.0 at.2 there offers same refl refl;
      counted = counts_after counts counts' done.turn are
          (subst (λ (i : ℕ). slice_index_or counts' i 0 ≡ slice_index_or counts i 0 + 1) (sym whose) one)
          (λ who apart. others who (λ e. apart (e ∙ sym whose)));
      least = omega (arith, least, length_is);
    }

-- the pass and the place where one of them moved
pub one_here : {P : Type 0} (index port : ℕ) (n n' : LockedState P) (p p' : PassState) (after : PlaceState) (counts : List ℕ) → OneMoved index port n n' p p' after counts
    → is_some after.standing ≡ false → IsOpenAt index port n' × (length (waiting_at n'.node.sockets port) + 1 ≡ length (waiting_at n.node.sockets port))
one_here index port n n' p p' after counts o free =
    goes_on_here index port n n' p p' o.before o.moved o.here (ap (λ (q : PlaceState). is_some q.standing) o.after_is ∙ free)

pub one_next : {P : Type 0} (index port : ℕ) (n n' : LockedState P) (p p' : PassState) (after : PlaceState) (counts : List ℕ) → OneMoved index port n n' p p' after counts
    → is_some after.standing ≡ true → IsClearedAt n' index
one_next index port n n' p p' after counts o stands =
    goes_on_next index n n' p p' o.moved (ap (λ (q : PlaceState). is_some q.standing) o.after_is ∙ stands)

pub one_advances : {P : Type 0} (index port : ℕ) (n n' : LockedState P) (p p' : PassState) (after : PlaceState) (counts : List ℕ) → OneMoved index port n n' p p' after counts
    → Advances index 1 n n' p p'
one_advances index port n n' p p' after counts o = advances_moved index n n' p p' o.before o.moved

-- the same of a node and a pass that are those
pub advances_of_same : {P : Type 0} {index stamps : ℕ} {n m n' : LockedState P} {p q p' : PassState} → n ≡ m → p ≡ q → Advances index stamps n n' p p'
    → Advances index stamps m n' q p'
advances_of_same {P} {index} {stamps} {n} {m} {n'} {p} {q} {p'} node pass moved =
    subst (λ (x : LockedState P). Advances index stamps x n' q p') node (subst (λ (x : PassState). Advances index stamps n n' x p') pass moved)

-- a receive that found no memory left all but the pass as it was
pub runs_short : {P : Type 0} (index : ℕ) (n : LockedState P) (node : NodeState) (chooser : Choosing P) (out : Out) (p p' : PassState) (seat : SeatState) (stamp : ℕ)
    → node ≡ n.node → chooser ≡ n.chooser → out ≡ n.out → seat ≡ drew p.seat stamp → IsNextStamp stamp p.seat → p' ≡ marked_short (record p { seat = seat })
    → Advances index 1 n (record n { node = node; chooser = chooser; out = out }) p p'
runs_short index n node chooser out p p' seat stamp same turn box drawn next is =
    subst (λ (m : LockedState _). Advances index 1 n m p p') (λ i. record n { node = sym same i; chooser = sym turn i; out = sym box i })
    (advances_short index n p p' (stamp, next, is ∙ ap (λ (s : SeatState). marked_short (record p { seat = s })) drawn))

-- whether something stands by, as a look tells it
pub looked_free : (stands free : Bool) → free ≡ not stands → free ≡ true → stands ≡ false
looked_free true free is yes_free = absurd cc
looked_free false free is yes_free = refl

pub looked_held : (stands free : Bool) → free ≡ not stands → free ≡ false → stands ≡ true
looked_held true free is none_free = refl
looked_held false free is none_free = absurd cc

-- the place of a number, as it was read
pub read_place : (places : List PlaceState) (index : ℕ) (x : PlaceState) → index < length places → x ≡ slice_index_or places index x → slice_get places index ≡ Some x
read_place places index x within is = slice_get-get_or places index x within ∙ ap (λ (p : PlaceState). Some p) (sym is)

-- what was said of a place at which what stands by was offered again, behind the lock of this node
pub cleared_trying_in : {P : Type 0} {n m : LockedState P} → n ≡ m → (index : ℕ) (p p' : PlaceState) → slice_get n.places index ≡ Some p
    → MatchOption p.standing (p' ≡ p) (λ m. Offers (record p { standing = None }) m p') → is_some p'.standing ≡ true
    → IsClearedAt (record n { places = slice_set n.places index p' }) index
cleared_trying_in {P} {n} {m} same index p p' at told stands = cleared_trying index n p p' at told stands

pub open_trying_in : {P : Type 0} {n m : LockedState P} → n ≡ m → (index : ℕ) (p p' : PlaceState) → slice_get n.places index ≡ Some p → is_some p'.standing ≡ false
    → IsOpenAt index p'.port (record n { places = slice_set n.places index p' })
open_trying_in {P} {n} {m} same index p p' at free = open_trying index n p p' at free
