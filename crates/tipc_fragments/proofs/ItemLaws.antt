-- Messages in packets of their own, and fragments of longer ones between them.
use Rattle.std.proofs.Common.{◌≡◌, ℕ, ◌+◌, ◌-◌, ◌<◌, ◌≤◌, List, [], ◌∷◌, ◌++◌, length, take, drop, map, Result, Ok, IsOk, refl, sym, ap, subst, ◌∙◌, arith, append_assoc, inl, inr}
use Rattle.std.specs.Prelude.{All, replicate}
use Rattle.std.specs.List.{flat_map}
use Rattle.std.proofs.lemmas.Bool.{cases_lt, le-leb}
use Rattle.std.proofs.lemmas.List.{append-nil, length-append, length-map, length-take-le, map-append, take-append-drop}
use Rattle.std.proofs.lemmas.List.Elements.{All-append, All-cons, All-head, All-nil, All-replicate, All-same, All-tail, filter_map-append}
use Rattle.tipc_types.specs.Prefixes.{IsPrefixOf}
use Rattle.tipc_fragments.specs.declared.joining.Joined.{Joined}
use Rattle.tipc_fragments.specs.declared.joining.Joined.TheVariants.{More, Whole}
use Rattle.tipc_fragments.specs.declared.joining.JoinFault.{JoinFault}
use Rattle.tipc_fragments.specs.Cutting.{count_of, Piece, pieces_of}
use Rattle.tipc_fragments.specs.Joining.{fresh, Joining}
use Rattle.tipc_fragments.specs.Laws.{after_all, answers, arrivals_in, Arrived, arrived, arrived_in, Came, IsLong, pieces_in}
use Rattle.tipc_fragments.specs.Streams.{CameItem, GivesFront, IsMessage, Item, item_after, item_after_all, item_answer, item_answers, item_arrivals_in, items_in, items_of, Part, Single}
use Rattle.tipc_fragments.proofs.CutLaws.{length-pieces_of}
use Rattle.tipc_fragments.proofs.Fronts.{first_came, front_of_first, others_came, whole_front}
use Rattle.tipc_fragments.proofs.RunLaws.{one_front, one_whole}
use Rattle.tipc_fragments.proofs.StreamLaws.{all_ok, le-false, none_arrived, one_arrived}

-- ---- two runs, one behind the other

item_answers-append : (s : Joining) (xs ys : List CameItem) → item_answers s (xs ++ ys) ≡ item_answers s xs ++ item_answers (item_after_all s xs) ys
item_answers-append s [] ys = refl
item_answers-append s (c ∷ xs) ys = ap (λ (rs : List (Result Joined JoinFault)). item_answer s c.0 c.1 ∷ rs) (item_answers-append (item_after s c.0 c.1) xs ys)

item_after_all-append : (s : Joining) (xs ys : List CameItem) → item_after_all s (xs ++ ys) ≡ item_after_all (item_after_all s xs) ys
item_after_all-append s [] ys = refl
item_after_all-append s (c ∷ xs) ys = item_after_all-append (item_after s c.0 c.1) xs ys

-- ---- fragments alone

-- a fragment that came, as an item that came
abbrev pub part_of : Came → CameItem
part_of c = (Part c.0, c.1)

item_answers-parts : (s : Joining) (came : List Came) → item_answers s (map part_of came) ≡ answers s came
item_answers-parts s [] = refl
item_answers-parts s (c ∷ came) = ap (λ (rs : List (Result Joined JoinFault)). item_answer s (Part c.0) c.1 ∷ rs) (item_answers-parts (item_after s (Part c.0) c.1) came)

item_after_all-parts : (s : Joining) (came : List Came) → item_after_all s (map part_of came) ≡ after_all s came
item_after_all-parts s [] = refl
item_after_all-parts s (c ∷ came) = item_after_all-parts (item_after s (Part c.0) c.1) came

arrivals-parts : (came : List Came) → item_arrivals_in (map part_of came) ≡ arrivals_in came
arrivals-parts [] = refl
arrivals-parts (c ∷ came) = ap (λ (bys : List ℕ). c.1 ∷ bys) (arrivals-parts came)

-- Items that are a front of fragments are fragments that came.
record ArePieces (pieces : List Piece) (came : List CameItem) : Type 0 where
  fragments : List Came
  same : came ≡ map part_of fragments
  front : IsPrefixOf (pieces_in fragments) pieces

first_piece : (p : Piece) (pieces : List Piece) (c : CameItem) (came : List CameItem) (rest : List Item)
    → map Part (p ∷ pieces) ≡ items_in (c ∷ came) ++ rest → Part p ≡ c.0
first_piece p pieces c came rest same = cc

later_pieces : (p : Piece) (pieces : List Piece) (c : CameItem) (came : List CameItem) (rest : List Item)
    → map Part (p ∷ pieces) ≡ items_in (c ∷ came) ++ rest → map Part pieces ≡ items_in came ++ rest
later_pieces p pieces c came rest same = cc

one_more : (p : Piece) (c : CameItem) (came : List CameItem) (fragments : List Came)
    → Part p ≡ c.0 → came ≡ map part_of fragments → c ∷ came ≡ map part_of ((p, c.1) ∷ fragments)
one_more p c came fragments first later =
    ap (λ (i : Item). (i, c.1) ∷ came) (sym first) ∙ ap (λ (cs : List CameItem). (Part p, c.1) ∷ cs) later

are_pieces : (pieces : List Piece) (came : List CameItem) (rest : List Item)
    → map Part pieces ≡ items_in came ++ rest → ArePieces pieces came
are_pieces pieces [] rest same = record { fragments = []; same = refl; front = (pieces, refl) }
are_pieces [] (c ∷ came) rest same = absurd cc
are_pieces (p ∷ pieces) (c ∷ came) rest same =
    let later = are_pieces pieces came rest (later_pieces p pieces c came rest same) in
    record {
      fragments = (p, c.1) ∷ later.fragments;
      same = one_more p c came later.fragments (first_piece p pieces c came rest same) later.same;
      front = (later.front.0, ap (λ (ps : List Piece). p ∷ ps) later.front.1);
    }

-- ---- one message

-- not all of it came
record IsPart (came : List CameItem) : Type 0 where
  sound : All IsOk (item_answers fresh came)
  none : arrived (item_answers fresh came) ≡ []
  begun : (item_after_all fresh came).arrivals ≡ item_arrivals_in came

-- all of it came
record IsGiven (m : List ℕ) (came : List CameItem) : Type 0 where
  sound : All IsOk (item_answers fresh came)
  one : arrived (item_answers fresh came) ≡ (m, item_arrivals_in came) ∷ []
  left : item_after_all fresh came ≡ fresh

nothing_came : (came : List CameItem) → length came < 1 → IsPart came
nothing_came [] none = record { sound = All-nil IsOk; none = refl; begun = refl }
nothing_came (c ∷ came) none = absurd (omega arith)

single_came : (m : List ℕ) (came : List CameItem) → items_in came ≡ Single m ∷ [] → IsGiven m came
single_came m [] same = absurd cc
single_came m (c ∷ []) same =
    let is : c.0 ≡ Single m = cc in
    let answered : item_answers fresh (c ∷ []) ≡ Ok (Whole m (c.1 ∷ [])) ∷ [] = ap (λ (i : Item). item_answer fresh i c.1 ∷ []) is in
    record {
      sound = All-same IsOk _ _ answered (All-cons IsOk _ [] refl (All-nil IsOk));
      one = ap arrived answered;
      left = ap (λ (i : Item). item_after fresh i c.1) is;
    }
single_came m (c ∷ (d ∷ came)) same = absurd cc

fragments_part : (m : List ℕ) (came : List CameItem) → IsLong m → ArePieces (pieces_of m) came
    → length came < count_of m → IsPart came
fragments_part m came is pieces short =
    let fs = pieces.fragments in
    let many : length came ≡ length fs = ap length pieces.same ∙ length-map fs part_of in
    let run = one_front m fs is pieces.front (omega arith) in
    let answered : item_answers fresh came ≡ replicate (length fs) (Ok More) = ap (item_answers fresh) pieces.same ∙ item_answers-parts fresh fs ∙ run.answered in
    record {
      sound = All-same IsOk _ _ answered (All-replicate IsOk (length fs) (Ok More) refl);
      none = ap arrived answered ∙ none_arrived (length fs);
      begun = ap (λ (s : Joining). s.arrivals) (ap (item_after_all fresh) pieces.same ∙ item_after_all-parts fresh fs ∙ run.left)
          ∙ sym (ap item_arrivals_in pieces.same ∙ arrivals-parts fs);
    }

fragments_given : (m : List ℕ) (came : List CameItem) → IsLong m → ArePieces (pieces_of m) came
    → length came ≡ count_of m → IsGiven m came
fragments_given m came is pieces all =
    let fs = pieces.fragments in
    let many : length came ≡ length fs = ap length pieces.same ∙ length-map fs part_of in
    let long : length (pieces_in fs) ≡ length fs = length-map fs (λ (c : Came). c.0) in
    let count = length-pieces_of m in
    let run = one_whole m fs is (whole_front (pieces_in fs) (pieces_of m) pieces.front (omega arith)) in
    let answered : item_answers fresh came ≡ replicate (count_of m - 1) (Ok More) ++ Ok (Whole m (arrivals_in fs)) ∷ [] =
    ap (item_answers fresh) pieces.same ∙ item_answers-parts fresh fs ∙ run.answered in
    record {
      sound = All-same IsOk _ _ answered (all_ok (count_of m - 1) m (arrivals_in fs));
      one = ap arrived answered ∙ one_arrived (count_of m - 1) m (arrivals_in fs)
          ∙ ap (λ (bys : List ℕ). (m, bys) ∷ []) (sym (ap item_arrivals_in pieces.same ∙ arrivals-parts fs));
      left = ap (item_after_all fresh) pieces.same ∙ item_after_all-parts fresh fs ∙ run.left;
    }

-- ---- what is sent of a message

items_of-single : (m : List ℕ) → length m ≤ 1452 → items_of m ≡ Single m ∷ []
items_of-single m short = rw (le-leb (length m) 1452 short) refl

items_of-long : (m : List ℕ) → 1452 < length m → items_of m ≡ map Part (pieces_of m)
items_of-long m long = rw (le-false (length m) 1452 long) refl

is_long : (m : List ℕ) → IsMessage m → 1452 < length m → IsLong m
is_long m is long = record { long = omega arith; within = is.within; packet = is.packet }

length-items_of-long : (m : List ℕ) → 1452 < length m → length (items_of m) ≡ count_of m
length-items_of-long m long = ap length (items_of-long m long) ∙ length-map (pieces_of m) Part ∙ length-pieces_of m

item_part : (m : List ℕ) (came : List CameItem) → IsMessage m → IsPrefixOf (items_in came) (items_of m)
    → length came < length (items_of m) → IsPart came
item_part m came is front short =
    elim (cases_lt 1452 (length m)) [
      | inl long ↦ (
          let count = length-items_of-long m long in
          fragments_part m came (is_long m is long) (are_pieces (pieces_of m) came front.0 (sym (items_of-long m long) ∙ front.1)) (omega arith)
          )
      | inr small ↦ (
          let one : length (items_of m) ≡ 1 = ap length (items_of-single m small) in
          nothing_came came (omega arith)
          )
    ]

item_given : (m : List ℕ) (came : List CameItem) → IsMessage m → items_in came ≡ items_of m → IsGiven m came
item_given m came is same =
    elim (cases_lt 1452 (length m)) [
      | inl long ↦ (
          let all : length came ≡ count_of m = sym (length-map came (λ (c : CameItem). c.0)) ∙ ap length same ∙ length-items_of-long m long in
          let parts : map Part (pieces_of m) ≡ items_in came ++ [] = sym (items_of-long m long) ∙ sym same ∙ sym (append-nil _) in
          fragments_given m came (is_long m is long) (are_pieces (pieces_of m) came [] parts) all
          )
      | inr small ↦ single_came m came (same ∙ items_of-single m small)
    ]

-- ---- what is sent of several messages

gives_none : (rest : List Item) (came : List CameItem) → [] ≡ items_in came ++ rest → GivesFront [] came
gives_none rest [] same = record {
  sound = All-nil IsOk;
  front = ([], refl);
  counts = All-nil (λ (a : Arrived). length a.1 ≡ length (items_of a.0));
  arrivals = refl;
  every = λ all. (refl, refl);
}
gives_none rest (c ∷ came) same = absurd cc

length-sent : (m : List ℕ) (messages : List (List ℕ)) → length (flat_map items_of (m ∷ messages)) ≡ length (items_of m) + length (flat_map items_of messages)
length-sent m messages = length-append (items_of m) (flat_map items_of messages)

-- not all of the first message came
gives_part : (m : List ℕ) (messages : List (List ℕ)) (came : List CameItem) → length came < length (items_of m)
    → IsPart came → GivesFront (m ∷ messages) came
gives_part m messages came short is = record {
  sound = is.sound;
  front = (m ∷ messages, rw is.none refl);
  counts = rw is.none (All-nil (λ (a : Arrived). length a.1 ≡ length (items_of a.0)));
  arrivals = rw is.none is.begun;
  every = λ all. absurd (omega (arith, length-sent m messages));
}

-- all of it came, and then others
gives_more : (m : List ℕ) (messages : List (List ℕ)) (first back : List CameItem) → length first ≡ length (items_of m)
    → IsGiven m first → GivesFront messages back → GivesFront (m ∷ messages) (first ++ back)
gives_more m messages first back count is others =
    let answered : item_answers fresh (first ++ back) ≡ item_answers fresh first ++ item_answers fresh back =
    item_answers-append fresh first back ∙ ap (λ (s : Joining). item_answers fresh first ++ item_answers s back) is.left in
    let left : item_after_all fresh (first ++ back) ≡ item_after_all fresh back =
    item_after_all-append fresh first back ∙ ap (λ (s : Joining). item_after_all s back) is.left in
    let given : arrived (item_answers fresh (first ++ back)) ≡ (m, item_arrivals_in first) ∷ arrived (item_answers fresh back) =
    ap arrived answered ∙ filter_map-append arrived_in (item_answers fresh first) (item_answers fresh back)
    ∙ ap (λ (ms : List Arrived). ms ++ arrived (item_answers fresh back)) is.one in
    let numbers : length (item_arrivals_in first) ≡ length (items_of m) = length-map first (λ (c : CameItem). c.1) ∙ count in
    record {
      sound = All-same IsOk _ _ answered (All-append IsOk (item_answers fresh first) (item_answers fresh back) is.sound others.sound);
      front = (others.front.0, rw given (ap (λ (ms : List (List ℕ)). m ∷ ms) others.front.1));
      counts = rw given (All-cons (λ (a : Arrived). length a.1 ≡ length (items_of a.0)) _ _ numbers others.counts);
      arrivals = rw (given, left, append_assoc, others.arrivals) (sym (map-append (λ (c : CameItem). c.1) first back));
      every = λ all. (
          let rest = others.every (omega (arith, length-sent m messages, length-append first back)) in
          (ap (map (λ (a : Arrived). a.0)) given ∙ ap (λ (ms : List (List ℕ)). m ∷ ms) rest.0, left ∙ rest.1)
          );
    }

gives : (messages : List (List ℕ)) (rest : List Item) (came : List CameItem) → All IsMessage messages
    → flat_map items_of messages ≡ items_in came ++ rest → GivesFront messages came
gives [] rest came are same = gives_none rest came same
gives (m ∷ messages) rest came are same =
    let is = All-head IsMessage m messages are in
    let item : CameItem → Item = λ c. c.0 in
    let others = flat_map items_of messages in
    let n = length (items_of m) in
    elim (cases_lt (length came) n) [
      | inl short ↦ gives_part m messages came short (item_part m came is (front_of_first item (items_of m) others rest came same (omega arith)) short)
      | inr all ↦ subst (GivesFront (m ∷ messages)) (take-append-drop n came) (
          gives_more m messages (take n came) (drop n came) (length-take-le n came all)
          (item_given m (take n came) is (first_came item (items_of m) others rest came n same refl all))
          (gives messages rest (drop n came) (All-tail IsMessage m messages are) (others_came item (items_of m) others rest came n same refl all))
          )
    ]

pub gives_front : (messages : List (List ℕ)) (came : List CameItem) → All IsMessage messages
    → IsPrefixOf (items_in came) (flat_map items_of messages) → GivesFront messages came
gives_front messages came are front = gives messages front.0 came are front.1
