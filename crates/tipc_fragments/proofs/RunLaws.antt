-- The fragments of one message that come one after the other.
use Rattle.std.proofs.Common.{◌≡◌, ℕ, zero, suc, ◌+◌, ◌-◌, ◌*◌, ◌<◌, ◌≤◌, Bool, true, false, List, [], ◌∷◌, ◌++◌, length, take, drop, Ok, refl, sym, ap, ◌∙◌, arith, append_assoc}
use Rattle.std.specs.Prelude.{nat_lt, ◌==◌, if◌then◌else◌, replicate}
use Rattle.std.proofs.Math.Seq.{take-add}
use Rattle.std.proofs.lemmas.Bool.{eq-eqb, le-leb}
use Rattle.std.proofs.lemmas.Bool.Decides.{nat_tests}
use Rattle.std.proofs.lemmas.List.{append-nil, length-map, length-take, length_push, take_all, take_at}
use Rattle.std.proofs.lemmas.List.FromFn.{take-map-range_with_len}
use Rattle.tipc_types.specs.Prefixes.{IsPrefixOf}
use Rattle.tipc_header.specs.declared.packet.FragmentType.TheVariants.{Middle, Last}
use Rattle.tipc_fragments.specs.declared.joining.Joined.TheVariants.{More, Whole}
use Rattle.tipc_fragments.specs.Cutting.{count_of, is_last, kind_of, may_follow, Piece, piece_after, pieces_of}
use Rattle.tipc_fragments.specs.Joining.{after, answer_of, fresh, grown, has_room, is_more, is_next, Joining, whole_of, with_fault}
use Rattle.tipc_fragments.specs.Laws.{after_all, answers, arrivals_in, begun, Came, IsBegun, IsLong, IsWhole, pieces_in}
use Rattle.tipc_fragments.proofs.CutLaws.{length-piece, length-pieces_of, pieces_from}
use Rattle.tipc_fragments.proofs.JoinLaws.{after-else, after-more, answer_of-last, answer_of-more}

-- ---- one fragment

abbrev joining : List ℕ → List ℕ → Joining
joining bytes arrivals = record { bytes = bytes; arrivals = arrivals }

lt-true : (a b : ℕ) → a < b → nat_lt a b ≡ true
lt-true a b h = grind (arith, nat_tests)

eq-false : (a b : ℕ) → a < b → (b == a) ≡ false
eq-false a b h = grind (arith, nat_tests)

later_follows : (b : Bool) (before : ℕ) → 0 < before → may_follow (if b then Last else Middle) before ≡ true
later_follows true before some = lt-true 0 before some
later_follows false before some = lt-true 0 before some

-- each fragment of a message may follow those before
follows : (count before : ℕ) → may_follow (kind_of count before) before ≡ true
follows count zero = refl
follows count (suc n) =
    let later : (suc n == 0) ≡ false = eq-false 0 (suc n) (omega arith) in
    rw later (later_follows (suc n + 1 == count) (suc n) (omega arith))

-- only the last fragment ends the message
not_last : (count before : ℕ) → before + 1 < count → is_last (kind_of count before) ≡ false
not_last count zero more = refl
not_last count (suc n) more =
    let later : (suc n == 0) ≡ false = eq-false 0 (suc n) (omega arith) in
    let middle : (suc n + 1 == count) ≡ false = grind (arith, nat_tests) in
    rw (later, middle) refl

last : (count before : ℕ) → before + 1 ≡ count → 0 < before → is_last (kind_of count before) ≡ true
last count before end some =
    let later : (before == 0) ≡ false = eq-false 0 before some in
    let ends : (before + 1 == count) ≡ true = eq-eqb (before + 1) count end in
    rw (later, ends) refl

-- the next fragment of a begun message is the next one
next : (m bys : List ℕ) → is_next (begun m bys) (kind_of (count_of m) (length bys)) (length bys + 1) ≡ true
next m bys = rw (follows (count_of m) (length bys), eq-eqb (length bys + 1) (length bys + 1) refl) refl

room : (m bys : List ℕ) → length m ≤ 66044 → has_room (begun m bys) (piece_after m (length bys)).bytes ≡ true
room m bys within =
    let before = length-take (1412 * length bys) m in
    let more = length-piece m (length bys) in
    le-leb (length (begun m bys).bytes + length (piece_after m (length bys)).bytes) 66044 (omega arith)

-- with one fragment more
grown-begun : (m bys : List ℕ) (by : ℕ) → grown (begun m bys) (piece_after m (length bys)).bytes by ≡ begun m (bys ++ by ∷ [])
grown-begun m bys by =
    let place : 1412 * length (bys ++ by ∷ []) ≡ 1412 * length bys + 1412 = omega (arith, length_push bys by) in
    let bytes : take (1412 * length bys) m ++ take 1412 (drop (1412 * length bys) m) ≡ take (1412 * length (bys ++ by ∷ [])) m =
    sym (take-add (1412 * length bys) 1412 m) ∙ ap (λ (n : ℕ). take n m) (sym place) in
    ap (λ (bs : List ℕ). joining bs (bys ++ by ∷ [])) bytes

-- ---- one more fragment of a begun message

-- more is to come
pub more : (m bys : List ℕ) (by : ℕ) → IsLong m → length bys + 1 < count_of m
    → answer_of (begun m bys) (piece_after m (length bys)) by ≡ Ok More
more m bys by is short =
    answer_of-more (begun m bys) (piece_after m (length bys)) by
    (next m bys) (room m bys is.within) (not_last (count_of m) (length bys) short)

pub after-begun : (m bys : List ℕ) (by : ℕ) → IsLong m → length bys + 1 < count_of m
    → after (begun m bys) (piece_after m (length bys)) by ≡ begun m (bys ++ by ∷ [])
after-begun m bys by is short =
    after-more (begun m bys) (piece_after m (length bys)) by (more m bys by is short) ∙ grown-begun m bys by

-- a message that is whole
whole-begun : (m bys : List ℕ) → IsLong m → length bys ≡ count_of m → whole_of (begun m bys) ≡ Ok (Whole m bys)
whole-begun m bys is all =
    let bytes : take (1412 * length bys) m ≡ m = take_all (1412 * length bys) m (omega arith) in
    ap (λ (bs : List ℕ). whole_of (joining bs bys)) bytes ∙ ap (with_fault (joining m bys)) is.packet

-- it was the last
pub whole : (m bys : List ℕ) (by : ℕ) → IsLong m → length bys + 1 ≡ count_of m
    → answer_of (begun m bys) (piece_after m (length bys)) by ≡ Ok (Whole m (bys ++ by ∷ []))
whole m bys by is end =
    let long = is.long in
    answer_of-last (begun m bys) (piece_after m (length bys)) by
    (next m bys) (room m bys is.within) (last (count_of m) (length bys) end (omega arith))
    ∙ ap whole_of (grown-begun m bys by)
    ∙ whole-begun m (bys ++ by ∷ []) is (length_push bys by ∙ end)

pub after-whole : (m bys : List ℕ) (by : ℕ) → IsLong m → length bys + 1 ≡ count_of m
    → after (begun m bys) (piece_after m (length bys)) by ≡ fresh
after-whole m bys by is end =
    after-else (begun m bys) (piece_after m (length bys)) by (ap is_more (whole m bys by is end))

-- ---- fragments of a begun message that come one after the other

-- the first one of them
head_is : (c : Came) (came : List Came) (p : Piece) (ps : List Piece) → pieces_in (c ∷ came) ≡ p ∷ ps → c.0 ≡ p
head_is c came p ps h = cc

tail_is : (c : Came) (came : List Came) (p : Piece) (ps : List Piece) → pieces_in (c ∷ came) ≡ p ∷ ps → pieces_in came ≡ ps
tail_is c came p ps h = cc

-- some, and not the last
pub record GoesOn (m bys : List ℕ) (came : List Came) : Type 0 where
  pub answered : answers (begun m bys) came ≡ replicate (length came) (Ok More)
  pub left : after_all (begun m bys) came ≡ begun m (bys ++ arrivals_in came)

pub run_more : (m bys : List ℕ) (came : List Came) → IsLong m → length bys + length came < count_of m
    → pieces_in came ≡ pieces_from m (length bys) (length came) → GoesOn m bys came
run_more m bys [] is short same = record { answered = refl; left = ap (begun m) (sym (append-nil bys)) }
run_more m bys (c ∷ came) is short same =
    let first = head_is c came _ _ same in
    let bys' = bys ++ c.1 ∷ [] in
    let grows : length bys' ≡ length bys + 1 = length_push bys c.1 in
    let answer : answer_of (begun m bys) c.0 c.1 ≡ Ok More = ap (λ (p : Piece). answer_of (begun m bys) p c.1) first ∙ more m bys c.1 is (omega arith) in
    let after_it : after (begun m bys) c.0 c.1 ≡ begun m bys' = ap (λ (p : Piece). after (begun m bys) p c.1) first ∙ after-begun m bys c.1 is (omega arith) in
    let rest : pieces_in came ≡ pieces_from m (length bys') (length came) = tail_is c came _ _ same ∙ ap (λ (n : ℕ). pieces_from m n (length came)) (sym grows) in
    let others = run_more m bys' came is (omega arith) rest in
    record {
      answered = rw (answer, after_it, others.answered) refl;
      left = rw (after_it, others.left, append_assoc) refl;
    }

-- all that are left
pub record Ends (m bys : List ℕ) (came : List Came) : Type 0 where
  pub answered : answers (begun m bys) came ≡ replicate (length came - 1) (Ok More) ++ Ok (Whole m (bys ++ arrivals_in came)) ∷ []
  pub left : after_all (begun m bys) came ≡ fresh

pub run_whole : (m bys : List ℕ) (came : List Came) → IsLong m → length bys + length came ≡ count_of m → 0 < length came
    → pieces_in came ≡ pieces_from m (length bys) (length came) → Ends m bys came
run_whole m bys [] is all some same = absurd (omega arith)
run_whole m bys (c ∷ []) is all some same =
    let first = head_is c [] _ _ same in
    let answer : answer_of (begun m bys) c.0 c.1 ≡ Ok (Whole m (bys ++ c.1 ∷ [])) = ap (λ (p : Piece). answer_of (begun m bys) p c.1) first ∙ whole m bys c.1 is (omega arith) in
    let after_it : after (begun m bys) c.0 c.1 ≡ fresh = ap (λ (p : Piece). after (begun m bys) p c.1) first ∙ after-whole m bys c.1 is (omega arith) in
    record {
      answered = rw answer refl;
      left = after_it;
    }
run_whole m bys (c ∷ (d ∷ came)) is all some same =
    let first = head_is c (d ∷ came) _ _ same in
    let bys' = bys ++ c.1 ∷ [] in
    let grows : length bys' ≡ length bys + 1 = length_push bys c.1 in
    let answer : answer_of (begun m bys) c.0 c.1 ≡ Ok More = ap (λ (p : Piece). answer_of (begun m bys) p c.1) first ∙ more m bys c.1 is (omega arith) in
    let after_it : after (begun m bys) c.0 c.1 ≡ begun m bys' = ap (λ (p : Piece). after (begun m bys) p c.1) first ∙ after-begun m bys c.1 is (omega arith) in
    let rest : pieces_in (d ∷ came) ≡ pieces_from m (length bys') (length (d ∷ came)) = tail_is c (d ∷ came) _ _ same ∙ ap (λ (n : ℕ). pieces_from m n (length (d ∷ came))) (sym grows) in
    let others = run_whole m bys' (d ∷ came) is (omega arith) (omega arith) rest in
    let count : suc (suc (length came)) - 1 ≡ suc (suc (length came) - 1) = omega arith in
    record {
      answered = rw (answer, after_it, others.answered, append_assoc, count) refl;
      left = rw (after_it, others.left) refl;
    }

-- ---- fragments of one message, from the first on

pub one_front : (m : List ℕ) (came : List Came) → IsLong m → IsPrefixOf (pieces_in came) (pieces_of m) → length came < count_of m
    → IsBegun m came
one_front m came is front short =
    let mine : pieces_in came ≡ pieces_from m 0 (length came) =
    sym (take_at (pieces_in came) front.0 (length came) (length-map came (λ (c : Came). c.0)))
    ∙ ap (take (length came)) (sym front.1)
    ∙ take-map-range_with_len (piece_after m) 0 (count_of m) (length came) (omega arith) in
    let run = run_more m [] came is (omega arith) mine in
    record { answered = run.answered; left = run.left }

pub one_whole : (m : List ℕ) (came : List Came) → IsLong m → pieces_in came ≡ pieces_of m → IsWhole m came
one_whole m came is same =
    let all : length came ≡ count_of m = sym (length-map came (λ (c : Came). c.0)) ∙ ap length same ∙ length-pieces_of m in
    let long = is.long in
    let run = run_whole m [] came is (omega arith) (omega arith) (same ∙ ap (pieces_from m 0) (sym all)) in
    record {
      answered = run.answered ∙ ap (λ (n : ℕ). replicate (n - 1) (Ok More) ++ Ok (Whole m (arrivals_in came)) ∷ []) all;
      left = run.left;
    }
