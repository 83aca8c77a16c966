-- Where the arrivals of whole packets, and of the begun message, come from.
use Rattle.std.proofs.Common.{◌≡◌, ℕ, zero, suc, ◌+◌, ◌-◌, Bool, true, false, List, [], ◌∷◌, ◌++◌, length, map, Result, Ok, Err, refl, sym, ap, subst, ◌∙◌, arith}
use Rattle.std.specs.Prelude.{All, ◌==◌, replicate, if◌then◌else◌}
use Rattle.std.specs.List.{Contains, range_with_len}
use Rattle.std.proofs.lemmas.Bool.{eqb-true, ltb-true}
use Rattle.std.proofs.lemmas.List.{append-nil, length_push, map-append}
use Rattle.std.proofs.lemmas.List.Concat.{flat_map-append}
use Rattle.std.proofs.lemmas.List.Elements.{All-append, All-cons, All-contains_itself, All-head, All-map, All-nil, All-tail, All-weaker, Contains-append_left, Contains-append_right}
use Rattle.std.proofs.lemmas.Slice.Zip.{AllZip-long}
use Rattle.tipc_types.specs.declared.packet_lists.Taken.{Taken}
use Rattle.tipc_header.specs.declared.packet.FragmentType.{FragmentType}
use Rattle.tipc_header.specs.declared.packet.FragmentType.TheVariants.{First, Middle, Last}
use Rattle.tipc_header.proofs.Sound.{both}
use Rattle.tipc_fragments.specs.declared.joining.Joined.{Joined}
use Rattle.tipc_fragments.specs.declared.joining.Joined.TheVariants as answer
use Rattle.tipc_fragments.specs.declared.joining.JoinFault.{JoinFault}
use Rattle.tipc_fragments.specs.Cutting.{is_last, may_follow, Piece}
use Rattle.tipc_fragments.specs.Joining.{after, answer_of, fresh, grown, is_more, is_next, Joining}
use Rattle.tipc_fragments.proofs.JoinLaws.{after-else, after-more}
use Rattle.tipc_reassembly.specs.declared.opening.Opened.{Opened}
use Rattle.tipc_reassembly.specs.declared.opening.Opened.TheVariants.{Whole, Passed}
use Rattle.tipc_reassembly.specs.Opening.{bad_bundle, Brings, BringsAll, brought_by, bundle, fragment, go_on, joined_members, message, none, other}
use Rattle.tipc_reassembly.specs.Tracing.{alone, AreNumbered, begun_kinds, BringPieces, BringsPiece, bytes_of, inside, IsAmong, IsBegunBy, IsOpenedBy, IsTraced, joined}
use Rattle.tipc_reassembly.proofs.AnswerLaws.{Adds, answer_more, answer_whole, Ends}

-- ---- more packets are said to have come

pieces_weaker : (P Q : ℕ → List ℕ → Type 0) → ((by : ℕ) (bytes : List ℕ) → P by bytes → Q by bytes)
    → (pieces : List Piece) (arrivals : List ℕ) → BringPieces P pieces arrivals → BringPieces Q pieces arrivals
pieces_weaker P Q more [] [] h = tt
pieces_weaker P Q more [] (by ∷ arrivals) h = absurd h
pieces_weaker P Q more (piece ∷ pieces) [] h = absurd h
pieces_weaker P Q more (piece ∷ pieces) (by ∷ arrivals) h =
    (record { bytes = h.0.bytes; brought = more by h.0.bytes h.0.brought; fragment = h.0.fragment }, pieces_weaker P Q more pieces arrivals h.1)

pub traced_weaker : (P Q : ℕ → List ℕ → Type 0) → ((by : ℕ) (bytes : List ℕ) → P by bytes → Q by bytes)
    → (packet arrivals : List ℕ) → IsTraced P packet arrivals → IsTraced Q packet arrivals
traced_weaker P Q more packet arrivals (alone {by = by} came) = alone (more by packet came)
traced_weaker P Q more packet arrivals (inside {by = by} {bundle = bytes} came is stand within) = inside (more by bytes came) is stand within
traced_weaker P Q more packet arrivals (joined {pieces = pieces} came all bytes) = joined (pieces_weaker P Q more pieces arrivals came) all bytes

pub begun_weaker : (P Q : ℕ → List ℕ → Type 0) → ((by : ℕ) (bytes : List ℕ) → P by bytes → Q by bytes) → (s : Joining) → IsBegunBy P s → IsBegunBy Q s
begun_weaker P Q more s is = record {
  pieces = is.pieces;
  brought = pieces_weaker P Q more is.pieces s.arrivals is.brought;
  kinds = is.kinds;
  numbers = is.numbers;
  bytes = is.bytes;
}

-- ---- one fragment more

pieces_push : (P : ℕ → List ℕ → Type 0) (pieces : List Piece) (arrivals : List ℕ) (piece : Piece) (by : ℕ)
    → BringPieces P pieces arrivals → BringsPiece P piece by → BringPieces P (pieces ++ piece ∷ []) (arrivals ++ by ∷ [])
pieces_push P [] [] piece by h is = (is, tt)
pieces_push P [] (a ∷ arrivals) piece by h is = absurd h
pieces_push P (q ∷ pieces) [] piece by h is = absurd h
pieces_push P (q ∷ pieces) (a ∷ arrivals) piece by h is = (h.0, pieces_push P pieces arrivals piece by h.1 is)

replicate_push : {A : Type 0} (n : ℕ) (x : A) → replicate n x ++ x ∷ [] ≡ x ∷ replicate n x
replicate_push zero x = refl
replicate_push {A} (suc n) x = ap (λ (xs : List A). x ∷ xs) (replicate_push n x)

-- a fragment that may follow others of a message, and doesn't end it
kind_goes_on : (kind : FragmentType) (n : ℕ) → may_follow kind n ≡ true → is_last kind ≡ false → begun_kinds n ++ kind ∷ [] ≡ begun_kinds (suc n)
kind_goes_on First zero follows more = refl
kind_goes_on First (suc n) follows more = absurd (omega (arith, eqb-true (suc n) 0 follows))
kind_goes_on Middle zero follows more = absurd (omega (arith, ltb-true 0 0 follows))
kind_goes_on Middle (suc n) follows more = ap (λ (ks : List FragmentType). First ∷ ks) (replicate_push n Middle)
kind_goes_on Last n follows more = absurd cc

-- one that ends it
kind_ends : (kind : FragmentType) (n : ℕ) → may_follow kind n ≡ true → is_last kind ≡ true → begun_kinds n ++ kind ∷ [] ≡ First ∷ (replicate (n - 1) Middle ++ Last ∷ [])
kind_ends First n follows last = absurd cc
kind_ends Middle n follows last = absurd cc
kind_ends Last zero follows last = absurd (omega (arith, ltb-true 0 0 follows))
kind_ends Last (suc n) follows last =
    let middle : suc n - 1 ≡ n = omega arith in
    ap (λ (k : ℕ). First ∷ (replicate k Middle ++ Last ∷ [])) (sym middle)

numbers_push : (a n : ℕ) → range_with_len a n ++ (a + n) ∷ [] ≡ range_with_len a (suc n)
numbers_push a zero = ap (λ (k : ℕ). k ∷ []) (omega arith)
numbers_push a (suc n) =
    let same : a + suc n ≡ a + 1 + n = omega arith in
    ap (λ (ks : List ℕ). a ∷ ks) (ap (λ (k : ℕ). range_with_len (a + 1) n ++ k ∷ []) same ∙ numbers_push (a + 1) n)

-- The next fragment stands behind those that are begun.
record Follows (P : ℕ → List ℕ → Type 0) (s : Joining) (is : IsBegunBy P s) (p : Piece) : Type 0 where
  kind : may_follow p.kind (length is.pieces) ≡ true
  numbers : AreNumbered (is.pieces ++ p ∷ [])
  kinds : map (λ q. q.kind) (is.pieces ++ p ∷ []) ≡ begun_kinds (length is.pieces) ++ p.kind ∷ []
  count : length (is.pieces ++ p ∷ []) ≡ suc (length is.pieces)
  bytes : s.bytes ++ p.bytes ≡ bytes_of (is.pieces ++ p ∷ [])

follows : (P : ℕ → List ℕ → Type 0) (s : Joining) (is : IsBegunBy P s) (p : Piece) → is_next s p.kind p.number ≡ true → Follows P s is p
follows P s is p next =
    let tests = both (may_follow p.kind (length s.arrivals)) (p.number == length s.arrivals + 1) next in
    let many : length s.arrivals ≡ length is.pieces = AllZip-long (BringsPiece P) is.pieces s.arrivals is.brought in
    let number : p.number ≡ 1 + length is.pieces = eqb-true _ _ tests.1 ∙ omega (arith, many) in
    let count : length (is.pieces ++ p ∷ []) ≡ suc (length is.pieces) = length_push is.pieces p ∙ omega arith in
    record {
      kind = subst (λ (n : ℕ). may_follow p.kind n ≡ true) many tests.0;
      numbers = map-append (λ (q : Piece). q.number) is.pieces (p ∷ [])
          ∙ ap (λ (ns : List ℕ). ns ++ p.number ∷ []) is.numbers
          ∙ ap (λ (n : ℕ). range_with_len 1 (length is.pieces) ++ n ∷ []) number
          ∙ numbers_push 1 (length is.pieces)
          ∙ ap (range_with_len 1) (sym count);
      kinds = map-append (λ (q : Piece). q.kind) is.pieces (p ∷ []) ∙ ap (λ (ks : List FragmentType). ks ++ p.kind ∷ []) is.kinds;
      count = count;
      bytes = ap (λ (bs : List ℕ). bs ++ p.bytes) is.bytes
          ∙ ap (λ (bs : List ℕ). bytes_of is.pieces ++ bs) (sym (append-nil p.bytes))
          ∙ sym (flat_map-append (λ (q : Piece). q.bytes) is.pieces (p ∷ []));
    }

-- Nothing is begun at first.
pub begun_none : (P : ℕ → List ℕ → Type 0) → IsBegunBy P fresh
begun_none P = record { pieces = []; brought = tt; kinds = refl; numbers = refl; bytes = refl }

goes_on : (P : ℕ → List ℕ → Type 0) (s : Joining) (p : Piece) (by : ℕ) → IsBegunBy P s → Adds s p → BringsPiece P p by → IsBegunBy P (grown s p.bytes by)
goes_on P s p by is adds brought =
    let next = follows P s is p adds.next in
    record {
      pieces = is.pieces ++ p ∷ [];
      brought = pieces_push P is.pieces s.arrivals p by is.brought brought;
      kinds = next.kinds ∙ kind_goes_on p.kind (length is.pieces) next.kind adds.last ∙ ap begun_kinds (sym next.count);
      numbers = next.numbers;
      bytes = next.bytes;
    }

ends : (P : ℕ → List ℕ → Type 0) (s : Joining) (p : Piece) (by : ℕ) (m bys : List ℕ) → IsBegunBy P s → Ends s p by m bys → BringsPiece P p by → IsTraced P m bys
ends P s p by m bys is end brought =
    let next = follows P s is p end.next in
    subst (λ (x : List ℕ). IsTraced P m x) (sym end.arrivals) (
    joined {pieces = is.pieces ++ p ∷ []} (pieces_push P is.pieces s.arrivals p by is.brought brought) (record {
      middle = length is.pieces - 1;
      kinds = next.kinds ∙ kind_ends p.kind (length is.pieces) next.kind end.last;
      numbers = next.numbers;
    }) (end.bytes ∙ next.bytes)
    )

-- ---- one packet

-- what is begun, and what was opened
record Traces (P : ℕ → List ℕ → Type 0) (opened : List Opened) (s : Joining) : Type 0 where
  begun : IsBegunBy P s
  opened_by : All (IsOpenedBy P) opened

passed : (P : ℕ → List ℕ → Type 0) (place : ℕ) → All (IsOpenedBy P) (Passed place ∷ [])
passed P place = All-cons (IsOpenedBy P) (Passed place) [] tt (All-nil (IsOpenedBy P))

given : (P : ℕ → List ℕ → Type 0) (m bys : List ℕ) → IsTraced P m bys → All (IsOpenedBy P) (Whole m bys ∷ [])
given P m bys is = All-cons (IsOpenedBy P) (Whole m bys) [] is (All-nil (IsOpenedBy P))

given_or_passed : (P : ℕ → List ℕ → Type 0) (test : Bool) (m bys : List ℕ) → IsTraced P m bys → All (IsOpenedBy P) (if test then Whole m bys ∷ [] else Passed 0 ∷ [])
given_or_passed P true m bys is = given P m bys is
given_or_passed P false m bys is = passed P 0

fragment_traces : (P : ℕ → List ℕ → Type 0) (s : Joining) (p : Piece) (by : ℕ) (result : Result Joined JoinFault) → answer_of s p by ≡ result
    → IsBegunBy P s → BringsPiece P p by → Traces P (joined_members result) (after s p by)
fragment_traces P s p by (Ok answer.More) e is brought = record {
  begun = subst (IsBegunBy P) (sym (after-more s p by e)) (goes_on P s p by is (answer_more s p by e) brought);
  opened_by = All-nil (IsOpenedBy P);
}
fragment_traces P s p by (Ok (answer.Whole m bys)) e is brought = record {
  begun = subst (IsBegunBy P) (sym (after-else s p by (ap is_more e))) (begun_none P);
  opened_by = given_or_passed P _ m bys (ends P s p by m bys is (answer_whole s p by m bys e) brought);
}
fragment_traces P s p by (Err fault) e is brought = record {
  begun = subst (IsBegunBy P) (sym (after-else s p by (ap is_more e))) (begun_none P);
  opened_by = passed P 0;
}

packet_traces : (P : ℕ → List ℕ → Type 0) (s : Joining) (bytes : List ℕ) (by : ℕ) (opened : List Opened) (last : Joining)
    → Brings s bytes by opened last → IsBegunBy P s → P by bytes → Traces P opened last
packet_traces P s bytes by opened last (message inner) is came = record { begun = is; opened_by = given P bytes (by ∷ []) (alone came) }
packet_traces P s bytes by opened last (bundle {packets = packets} bundled stand) is came = record {
  begun = is;
  opened_by = All-map (IsOpenedBy P) (brought_by by) packets (
      All-weaker (Contains packets) (λ p. IsTraced P p (by ∷ [])) (λ p within. inside came bundled stand within) packets (All-contains_itself packets)
      );
}
packet_traces P s bytes by opened last (bad_bundle {place = place} bundled bad) is came = record { begun = is; opened_by = passed P place }
packet_traces P s bytes by opened last (fragment {piece = piece} cut) is came =
    fragment_traces P s piece by (answer_of s piece by) refl is (record { bytes = bytes; brought = came; fragment = cut })
packet_traces P s bytes by opened last (other inner bundled cut) is came = record { begun = is; opened_by = passed P 0 }

-- ---- packets one after the other

all_trace : (P : ℕ → List ℕ → Type 0) (s : Joining) (taken : List Taken) (opened : List Opened) (last : Joining)
    → BringsAll s taken opened last → IsBegunBy P s → All (λ t. P t.by t.packet) taken → Traces P opened last
all_trace P s taken opened last none is came = record { begun = is; opened_by = All-nil (IsOpenedBy P) }
all_trace P s taken opened last (go_on {between = between} {packet = packet} {packets = packets} {opened = first} {more = more} one rest) is came =
    let here = packet_traces P s packet.packet packet.by first between one is (All-head (λ t. P t.by t.packet) packet packets came) in
    let others = all_trace P between packets more last rest here.begun (All-tail (λ t. P t.by t.packet) packet packets came) in
    record { begun = others.begun; opened_by = All-append (IsOpenedBy P) first more here.opened_by others.opened_by }

-- ---- the laws

-- Packets are taken of which each came by its arrival: what is begun then came so,
pub begun_more : (P : ℕ → List ℕ → Type 0) (s : Joining) (taken : List Taken) (opened : List Opened) (last : Joining)
    → BringsAll s taken opened last → IsBegunBy P s → All (λ t. P t.by t.packet) taken → IsBegunBy P last
begun_more P s taken opened last is begun came = (all_trace P s taken opened last is begun came).begun

-- and so did each whole packet.
pub opened_traced : (P : ℕ → List ℕ → Type 0) (s : Joining) (taken : List Taken) (opened : List Opened) (last : Joining)
    → BringsAll s taken opened last → IsBegunBy P s → All (λ t. P t.by t.packet) taken → All (IsOpenedBy P) opened
opened_traced P s taken opened last is begun came = (all_trace P s taken opened last is begun came).opened_by

-- ---- the packets that were taken before, and those that are taken now

earlier : (before taken : List Taken) (by : ℕ) (bytes : List ℕ) → IsAmong before by bytes → IsAmong (before ++ taken) by bytes
earlier before taken by bytes is = record {
  packet = is.packet;
  among = Contains-append_left before taken is.packet is.among;
  by_is = is.by_is;
  bytes_is = is.bytes_is;
}

now_taken : (before taken : List Taken) → All (λ t. IsAmong (before ++ taken) t.by t.packet) taken
now_taken before taken =
    All-weaker (Contains taken) (λ t. IsAmong (before ++ taken) t.by t.packet)
    (λ t within. record { packet = t; among = Contains-append_right before taken t within; by_is = refl; bytes_is = refl })
    taken (All-contains_itself taken)

pub begun_then : (before taken : List Taken) (s : Joining) (opened : List Opened) (last : Joining)
    → IsBegunBy (IsAmong before) s → BringsAll s taken opened last → IsBegunBy (IsAmong (before ++ taken)) last
begun_then before taken s opened last begun is =
    begun_more (IsAmong (before ++ taken)) s taken opened last is
    (begun_weaker (IsAmong before) (IsAmong (before ++ taken)) (earlier before taken) s begun) (now_taken before taken)

pub opened_then : (before taken : List Taken) (s : Joining) (opened : List Opened) (last : Joining)
    → IsBegunBy (IsAmong before) s → BringsAll s taken opened last → All (IsOpenedBy (IsAmong (before ++ taken))) opened
opened_then before taken s opened last begun is =
    opened_traced (IsAmong (before ++ taken)) s taken opened last is
    (begun_weaker (IsAmong before) (IsAmong (before ++ taken)) (earlier before taken) s begun) (now_taken before taken)
