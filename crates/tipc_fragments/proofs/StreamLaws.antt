-- The fragments of several messages that come one message after the other.
use Rattle.std.proofs.Common.{◌≡◌, ℕ, zero, suc, ◌+◌, ◌-◌, ◌<◌, ◌≤◌, true, false, List, [], ◌∷◌, ◌++◌, length, take, drop, map, Result, Ok, IsOk, refl, sym, ap, ◌∙◌, arith, append_assoc, inl, inr}
use Rattle.std.specs.Prelude.{All, nat_le, replicate, if◌then◌else◌}
use Rattle.std.specs.List.{flat_map}
use Rattle.std.proofs.lemmas.Bool.{cases_lt, le-leb}
use Rattle.std.proofs.lemmas.Bool.Decides.{nat_tests}
use Rattle.std.proofs.lemmas.List.{drop-map, length-append, length-drop, length-map, length-take-le, take-append-drop, take-map}
use Rattle.std.proofs.lemmas.List.Elements.{All-append, All-cons, All-head, All-nil, All-replicate, All-same, All-tail, filter_map-append}
use Rattle.tipc_types.specs.Prefixes.{IsPrefixOf}
use Rattle.tipc_fragments.specs.declared.joining.Joined.{Joined}
use Rattle.tipc_fragments.specs.declared.joining.Joined.TheVariants.{More, Whole}
use Rattle.tipc_fragments.specs.declared.joining.JoinFault.{JoinFault}
use Rattle.tipc_fragments.specs.Cutting.{count_of, Piece, pieces_of}
use Rattle.tipc_fragments.specs.Joining.{after, answer_of, fresh, Joining}
use Rattle.tipc_fragments.specs.Laws.{after_all, answers, arrivals_in, Arrived, arrived, arrived_in, Came, IsBegun, IsLong, IsWhole, joined_of, JoinsFront, left_of, pieces_in}
use Rattle.tipc_fragments.proofs.CutLaws.{length-pieces_of}
use Rattle.tipc_fragments.proofs.Fronts.{first_came, front_of_first, others_came}
use Rattle.tipc_fragments.proofs.RunLaws.{one_front, one_whole}

-- ---- two runs, one behind the other

answers-append : (s : Joining) (xs ys : List Came) → answers s (xs ++ ys) ≡ answers s xs ++ answers (after_all s xs) ys
answers-append s [] ys = refl
answers-append s (c ∷ xs) ys = ap (λ (rs : List (Result Joined JoinFault)). answer_of s c.0 c.1 ∷ rs) (answers-append (after s c.0 c.1) xs ys)

after_all-append : (s : Joining) (xs ys : List Came) → after_all s (xs ++ ys) ≡ after_all (after_all s xs) ys
after_all-append s [] ys = refl
after_all-append s (c ∷ xs) ys = after_all-append (after s c.0 c.1) xs ys

pub le-false : (a b : ℕ) → b < a → nat_le a b ≡ false
le-false a b h = grind (arith, nat_tests)

pub none_arrived : (n : ℕ) → arrived (replicate n (Ok More)) ≡ []
none_arrived zero = refl
none_arrived (suc n) = none_arrived n

-- ---- what the answers to one message give

pub all_ok : (n : ℕ) (m bys : List ℕ) → All (IsOk {T = Joined} {E = JoinFault}) (replicate n (Ok More) ++ Ok (Whole m bys) ∷ [])
all_ok n m bys =
    All-append IsOk (replicate n (Ok More)) (Ok (Whole m bys) ∷ [])
    (All-replicate IsOk n (Ok More) refl) (All-cons IsOk (Ok (Whole m bys)) [] refl (All-nil IsOk))

pub one_arrived : (n : ℕ) (m bys : List ℕ) → arrived (replicate n (Ok More) ++ Ok (Whole m bys) ∷ []) ≡ (m, bys) ∷ []
one_arrived n m bys =
    filter_map-append arrived_in (replicate n (Ok More)) (Ok (Whole m bys) ∷ [])
    ∙ ap (λ (ms : List Arrived). ms ++ (m, bys) ∷ []) (none_arrived n)

-- ---- a message behind which others come

-- what a joiner makes of these, exactly
record IsExact (messages : List (List ℕ)) (came : List Came) : Type 0 where
  sound : All IsOk (answers fresh came)
  joined : arrived (answers fresh came) ≡ joined_of messages (arrivals_in came)
  left : after_all fresh came ≡ left_of messages (arrivals_in came)

exact_none : (rest : List Piece) (came : List Came) → [] ≡ pieces_in came ++ rest → IsExact [] came
exact_none rest [] same = record { sound = All-nil IsOk; joined = refl; left = refl }
exact_none rest (c ∷ came) same = absurd cc

-- not all of the message came
exact_front : (m : List ℕ) (messages : List (List ℕ)) (came : List Came) → length came < count_of m
    → IsBegun m came → IsExact (m ∷ messages) came
exact_front m messages came short is =
    let few : nat_le (count_of m) (length (arrivals_in came)) ≡ false = rw length-map (le-false (count_of m) (length came) short) in
    record {
      sound = All-same IsOk _ _ is.answered (All-replicate IsOk (length came) (Ok More) refl);
      joined = rw (is.answered, few) (none_arrived (length came));
      left = rw few is.left;
    }

-- all of it came, and then others
exact_whole : (m : List ℕ) (messages : List (List ℕ)) (came : List Came) → count_of m ≤ length came
    → IsWhole m (take (count_of m) came) → IsExact messages (drop (count_of m) came)
    → IsExact (m ∷ messages) came
exact_whole m messages came all is others =
    let n = count_of m in
    let enough : nat_le n (length (arrivals_in came)) ≡ true = rw length-map (le-leb n (length came) all) in
    let parts : came ≡ take n came ++ drop n came = sym (take-append-drop n came) in
    let mine : arrivals_in (take n came) ≡ take n (arrivals_in came) = sym (take-map (λ (c : Came). c.1) n came) in
    let theirs : arrivals_in (drop n came) ≡ drop n (arrivals_in came) = sym (drop-map (λ (c : Came). c.1) n came) in
    let first = replicate (n - 1) (Ok More) ++ Ok (Whole m (arrivals_in (take n came))) ∷ [] in
    let answered : answers fresh came ≡ first ++ answers fresh (drop n came) =
    ap (answers fresh) parts ∙ answers-append fresh (take n came) (drop n came)
    ∙ ap (λ (rs : List (Result Joined JoinFault)). rs ++ answers (after_all fresh (take n came)) (drop n came)) is.answered
    ∙ ap (λ (s : Joining). first ++ answers s (drop n came)) is.left in
    let left : after_all fresh came ≡ after_all fresh (drop n came) =
    ap (after_all fresh) parts ∙ after_all-append fresh (take n came) (drop n came)
    ∙ ap (λ (s : Joining). after_all s (drop n came)) is.left in
    record {
      sound = All-same IsOk _ _ answered (All-append IsOk first (answers fresh (drop n came)) (all_ok (n - 1) m (arrivals_in (take n came))) others.sound);
      joined = ap arrived answered ∙ filter_map-append arrived_in first (answers fresh (drop n came))
          ∙ rw (one_arrived (n - 1) m (arrivals_in (take n came)), others.joined, enough, mine, theirs) refl;
      left = left ∙ others.left ∙ rw (enough, theirs) refl;
    }

-- fragments of messages that came are joined
exact : (messages : List (List ℕ)) (rest : List Piece) (came : List Came) → All IsLong messages
    → flat_map pieces_of messages ≡ pieces_in came ++ rest → IsExact messages came
exact [] rest came long same = exact_none rest came same
exact (m ∷ messages) rest came long same =
    let is = All-head IsLong m messages long in
    let others = flat_map pieces_of messages in
    let piece : Came → Piece = λ c. c.0 in
    let count = length-pieces_of m in
    elim (cases_lt (length came) (count_of m)) [
      | inl short ↦ exact_front m messages came short (one_front m came is (front_of_first piece (pieces_of m) others rest came same (omega arith)) short)
      | inr all ↦ exact_whole m messages came all
          (one_whole m (take (count_of m) came) is (first_came piece (pieces_of m) others rest came (count_of m) same count all))
          (exact messages rest (drop (count_of m) came) (All-tail IsLong m messages long) (others_came piece (pieces_of m) others rest came (count_of m) same count all))
    ]

-- ---- what the joined messages are

-- They are a front of the messages.
front_joined : (messages : List (List ℕ)) (arrivals : List ℕ) → IsPrefixOf (map (λ (a : Arrived). a.0) (joined_of messages arrivals)) messages
front_joined [] arrivals = ([], refl)
front_joined (m ∷ messages) arrivals =
    let later = front_joined messages (drop (count_of m) arrivals) in
    let one : Arrived = (m, take (count_of m) arrivals) in
    elim (nat_le (count_of m) (length arrivals)) as (λ b. IsPrefixOf (map (λ (a : Arrived). a.0) (if b then one ∷ joined_of messages (drop (count_of m) arrivals) else [])) (m ∷ messages)) [
      | true ↦ (later.0, ap (λ (ms : List (List ℕ)). m ∷ ms) later.1)
      | false ↦ (m ∷ messages, refl)
    ]

-- Each has as many arrivals as fragments.
counts_joined : (messages : List (List ℕ)) (arrivals : List ℕ) → All (λ (a : Arrived). length a.1 ≡ count_of a.0) (joined_of messages arrivals)
counts_joined [] arrivals = All-nil (λ (a : Arrived). length a.1 ≡ count_of a.0)
counts_joined (m ∷ messages) arrivals =
    let P : Arrived → Type 0 = λ a. length a.1 ≡ count_of a.0 in
    elim (cases_lt (length arrivals) (count_of m)) [
      | inl short ↦ rw (le-false (count_of m) (length arrivals) short) (All-nil P)
      | inr all ↦ rw (le-leb (count_of m) (length arrivals) all)
          (All-cons P _ _ (length-take-le (count_of m) arrivals all) (counts_joined messages (drop (count_of m) arrivals)))
    ]

length-fragments : (m : List ℕ) (messages : List (List ℕ)) → length (flat_map pieces_of (m ∷ messages)) ≡ count_of m + length (flat_map pieces_of messages)
length-fragments m messages = length-append (pieces_of m) (flat_map pieces_of messages) ∙ ap (λ (n : ℕ). n + length (flat_map pieces_of messages)) (length-pieces_of m)

-- No arrival is lost.
arrivals_joined : (messages : List (List ℕ)) (arrivals : List ℕ) → length arrivals ≤ length (flat_map pieces_of messages)
    → flat_map (λ (a : Arrived). a.1) (joined_of messages arrivals) ++ (left_of messages arrivals).arrivals ≡ arrivals
arrivals_joined [] [] within = refl
arrivals_joined [] (by ∷ arrivals) within = absurd (omega arith)
arrivals_joined (m ∷ messages) arrivals within =
    elim (cases_lt (length arrivals) (count_of m)) [
      | inl short ↦ rw (le-false (count_of m) (length arrivals) short) refl
      | inr all ↦ (
          let count = length-fragments m messages in
          let left : length (drop (count_of m) arrivals) ≡ length arrivals - count_of m = length-drop (count_of m) arrivals in
          let later = arrivals_joined messages (drop (count_of m) arrivals) (omega arith) in
          rw (le-leb (count_of m) (length arrivals) all, append_assoc, later) (take-append-drop (count_of m) arrivals)
          )
    ]

-- Where all came, all are joined, and nothing is left.
record IsEvery (messages : List (List ℕ)) (arrivals : List ℕ) : Type 0 where
  joined : map (λ (a : Arrived). a.0) (joined_of messages arrivals) ≡ messages
  left : left_of messages arrivals ≡ fresh

every_joined : (messages : List (List ℕ)) (arrivals : List ℕ) → length arrivals ≡ length (flat_map pieces_of messages) → IsEvery messages arrivals
every_joined [] arrivals all = record { joined = refl; left = refl }
every_joined (m ∷ messages) arrivals all =
    let count = length-fragments m messages in
    let left : length (drop (count_of m) arrivals) ≡ length arrivals - count_of m = length-drop (count_of m) arrivals in
    let later = every_joined messages (drop (count_of m) arrivals) (omega arith) in
    let enough = le-leb (count_of m) (length arrivals) (omega arith) in
    record {
      joined = rw (enough, later.joined) refl;
      left = rw (enough, later.left) refl;
    }

-- ---- the law

pub joins_front : (messages : List (List ℕ)) (came : List Came) → All IsLong messages
    → IsPrefixOf (pieces_in came) (flat_map pieces_of messages) → JoinsFront messages came
joins_front messages came long front =
    let is = exact messages front.0 came long front.1 in
    let arrivals = arrivals_in came in
    let as_many : length arrivals ≡ length came = length-map came (λ (c : Came). c.1) in
    let fragments : length (flat_map pieces_of messages) ≡ length came + length front.0 =
    ap length front.1 ∙ length-append (pieces_in came) front.0 ∙ ap (λ (n : ℕ). n + length front.0) (length-map came (λ (c : Came). c.0)) in
    record {
      sound = is.sound;
      joined = is.joined;
      left = is.left;
      front = rw is.joined (front_joined messages arrivals);
      counts = rw is.joined (counts_joined messages arrivals);
      arrivals = rw (is.joined, is.left) (arrivals_joined messages arrivals (omega arith));
      every = λ all. (
          let every = every_joined messages arrivals (omega arith) in
          (ap (map (λ (a : Arrived). a.0)) is.joined ∙ every.joined, is.left ∙ every.left)
          );
    }
