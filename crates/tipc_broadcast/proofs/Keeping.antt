-- What every broadcast link keeps, after each change.
use Rattle.std.proofs.Common.{◌≡◌, ℕ, ◌+◌, ◌-◌, ◌<◌, ◌≤◌, true, false, not, if◌then◌else◌, List, [], ◌∷◌, ◌++◌, Option, Some, None, Result, Ok, Err, length, take, drop, min, map, get_or, refl, sym, ap, ◌∙◌, subst, length-append, length-drop, arith}
use Rattle.std.proofs.lemmas.Bool.Decides.{nat_tests}
use Rattle.std.proofs.lemmas.List.{length-map, length-take-le}
use Rattle.std.proofs.lemmas.List.Elements.{All-append, All-cons, All-drop, All-filter, All-get_or, All-head, All-map, All-nil, All-set, All-tail, All-weaker}
use Rattle.std.specs.Prelude.{All, nat_le, slice_set, OnErr, OnOk}
use Rattle.tipc_types.specs.Position.{distance_of, number_of}
use Rattle.tipc_header.specs.Frames.{envelope, stamped}
use Rattle.tipc_header.specs.Spelling.{from_bit, words}
use Rattle.tipc_header.proofs.FrameWords.{length-envelope}
use Rattle.tipc_header.proofs.Words.{length-words}
use Rattle.tipc_send_window.specs.Sending.{acked_of, acknowledged, IsSending, offered, released, Sending}
use Rattle.tipc_send_window.proofs.WindowLaws.{acknowledged-position}
use Rattle.tipc_broadcast.specs.declared.contacts.Contact.{Contact}
use Rattle.tipc_types.specs.Address.{IsNodeWord}
use Rattle.tipc_broadcast.specs.Contacts.{acked_by_all, acknowledged_to, acknowledging, heard, is_in_step, is_with, IsContact, IsFree, noted_in, stepped, taken_in, told, without}
use Rattle.tipc_recv_window.specs.Receiving.{Receiving, fresh, with_packet}
use Rattle.tipc_recv_window.proofs.Runs.{run_leaves}
use Rattle.tipc_types.specs.declared.link_words.Why.{Why}
use Rattle.tipc_types.specs.declared.packet_lists.Taken.{Taken}
use Rattle.tipc_broadcast.specs.Frames.{accepted_frame}
use Rattle.tipc_broadcast.specs.Casting.{accepted, IsCasting}

All-with : {X : Type 0} (P Q R : X → Type 0) → ((x : X) → P x → Q x → R x) → (xs : List X) → All P xs → All Q xs → All R xs
All-with P Q R both [] p q = All-nil R
All-with P Q R both (x ∷ xs) p q = All-cons R x xs (both x (All-head P x xs p) (All-head Q x xs q)) (All-with P Q R both xs (All-tail P x xs p) (All-tail Q x xs q))

-- ---- what all peers in contact acknowledged

pub acked_by_all-below : (n : ℕ) (cs : List Contact) → acked_by_all n cs ≤ n
acked_by_all-below n [] = omega arith
acked_by_all-below n (c ∷ cs) = omega (arith, acked_by_all-below (min n c.acked) cs)

pub acked_by_all-each : (n : ℕ) (cs : List Contact) → All (λ c. acked_by_all n cs ≤ c.acked) cs
acked_by_all-each n [] = All-nil (λ c. n ≤ c.acked)
acked_by_all-each n (c ∷ cs) =
    All-cons (λ d. acked_by_all (min n c.acked) cs ≤ d.acked) c cs (omega (arith, acked_by_all-below (min n c.acked) cs)) (acked_by_all-each (min n c.acked) cs)

pub acked_by_all-above : (k n : ℕ) (cs : List Contact) → k ≤ n → All (λ c. k ≤ c.acked) cs → k ≤ acked_by_all n cs
acked_by_all-above k n [] below each = below
acked_by_all-above k n (c ∷ cs) below each =
    let here : k ≤ c.acked = All-head (λ d. k ≤ d.acked) c cs each in
    acked_by_all-above k (min n c.acked) cs (omega arith) (All-tail (λ d. k ≤ d.acked) c cs each)

-- ---- release

abbrev pub to_release : Sending → List Contact → ℕ
to_release s cs = acked_by_all s.numbered cs - acked_of s

from_acked : (own : ℕ) (s : Sending) (cs : List Contact) → IsSending s → IsCasting own s cs → acked_of s ≤ acked_by_all s.numbered cs
from_acked own s cs window h =
    acked_by_all-above (acked_of s) s.numbered cs (omega arith) (All-weaker (IsContact (acked_of s) (accepted s)) (λ c. acked_of s ≤ c.acked) (λ c is. is.after_release) cs h.contacts)

-- what the code releases, by the number of a position
pub release_is : (own : ℕ) (s after : Sending) (cs xs : List Contact) (n p number : ℕ) → IsSending s → IsCasting own s cs → n ≡ s.numbered → xs ≡ cs → p ≡ acked_by_all n xs → number ≡ number_of p → after ≡ acknowledged s number
    → after ≡ released s (to_release s cs)
release_is own s after cs xs n p number window h counted same least is acks =
    let low = from_acked own s cs window h in
    let high = acked_by_all-below s.numbered cs in
    let fifty = window.window in
    let begun = window.numbered in
    let p_is : p ≡ acked_by_all s.numbered cs = least ∙ ap (λ m. acked_by_all m xs) counted ∙ ap (acked_by_all s.numbered) same in
    acks ∙ ap (acknowledged s) (is ∙ ap number_of p_is) ∙ acknowledged-position s (acked_by_all s.numbered cs) window high (omega arith)

pub release-keeps : (own : ℕ) (s : Sending) (cs : List Contact) → IsSending s → IsCasting own s cs → IsCasting own (released s (to_release s cs)) cs
release-keeps own s cs window h =
    let low = from_acked own s cs window h in
    let high = acked_by_all-below s.numbered cs in
    let begun = window.numbered in
    let left = length-drop (to_release s cs) s.unacked in
    let now : acked_of (released s (to_release s cs)) ≤ acked_by_all s.numbered cs = omega arith in
    record {
      node = h.node;
      few = h.few;
      unacked = All-drop (λ frame. 32 ≤ length frame) (to_release s cs) s.unacked h.unacked;
      waiting = h.waiting;
      short_unacked = All-drop (λ frame. length frame ≤ 1516) (to_release s cs) s.unacked h.short_unacked;
      short_waiting = h.short_waiting;
      contacts = All-with (IsContact (acked_of s) (accepted s)) (λ c. acked_by_all s.numbered cs ≤ c.acked) (IsContact (acked_of (released s (to_release s cs))) (accepted s))
          (λ c is behind. record { node = is.node; after_release = omega (arith, now, behind); before_accepted = is.before_accepted; begun = is.begun; free = is.free }) cs h.contacts (acked_by_all-each s.numbered cs);
    }

-- ---- an acknowledgement

pub acknowledged_to-bounds : (numbered acked number : ℕ) → (acked ≤ acknowledged_to numbered acked number) × (acknowledged_to numbered acked number ≤ acked + (numbered - acked))
unfolding acknowledged_to
acknowledged_to-bounds numbered acked number =
    let past = distance_of (number_of acked) number in
    elim (nat_le past (numbered - acked)) as (λ b. nat_le past (numbered - acked) ≡ b → (acked ≤ (if b then acked + past else acked)) × ((if b then acked + past else acked) ≤ acked + (numbered - acked))) [
      | true ↦ λ test. let near : past ≤ numbered - acked = grind (arith, nat_tests) in (omega arith, omega arith)
      | false ↦ λ test. (omega arith, omega arith)
    ] refl

pub acknowledging-keeps : (s : Sending) (released number : ℕ) (c : Contact) → IsContact released (accepted s) c → IsContact released (accepted s) (acknowledging s.numbered number c)
acknowledging-keeps s released number c is =
    let bounds = acknowledged_to-bounds s.numbered c.acked number in
    let low = bounds.0 in
    let high = bounds.1 in
    let after = is.after_release in
    let before = is.before_accepted in
    let begun = is.begun in
    record { node = is.node; after_release = omega arith; before_accepted = omega arith; begun = omega arith; free = is.free }

pub credit-keeps : (own : ℕ) (s : Sending) (cs : List Contact) (place numbered number : ℕ) (old new : Contact) → IsCasting own s cs → place < length cs → old ≡ get_or cs place old → numbered ≡ s.numbered → new ≡ acknowledging numbered number old
    → IsCasting own s (slice_set cs place new)
credit-keeps own s cs place numbered number old new h within value counted after =
    let P = IsContact (acked_of s) (accepted s) in
    let was : P old = subst P (sym value) (All-get_or P cs place old within h.contacts) in
    let is : P new = subst P (sym (after ∙ ap (λ n. acknowledging n number old) counted)) (acknowledging-keeps s (acked_of s) number old was) in
    record { node = h.node; few = h.few; unacked = h.unacked; waiting = h.waiting; short_unacked = h.short_unacked; short_waiting = h.short_waiting; contacts = All-set P cs place new is h.contacts }

-- ---- what a peer tells of its own broadcast

-- it leaves what this caster keeps of the peer
pub record IsSame (c d : Contact) : Type 0 where
  pub peer : d.peer ≡ c.peer
  pub start : d.start ≡ c.start
  pub acked : d.acked ≡ c.acked

stepped-same : (start : ℕ) (c : Contact) → IsSame c (stepped start c)
stepped-same start c = elim (is_in_step c) as (λ b. IsSame c (if b then c else record c { window = Some (fresh start); shown = start })) [
  | true ↦ record { peer = refl; start = refl; acked = refl }
  | false ↦ record { peer = refl; start = refl; acked = refl }
]

noted-same : (next : ℕ) (c : Contact) (window : Option Receiving) → IsSame c (noted_in next c window)
noted-same next c None = record { peer = refl; start = refl; acked = refl }
noted-same next c (Some r) = record { peer = refl; start = refl; acked = refl }

pub told-same : (start next : ℕ) (c : Contact) → IsSame c (told start next c)
told-same start next c =
    let one = stepped-same start c in
    let two = noted-same next (stepped start c) (stepped start c).window in
    record { peer = two.peer ∙ one.peer; start = two.start ∙ one.start; acked = two.acked ∙ one.acked }

-- the wanted packet isn't held, in a new window neither
stepped-free : (start : ℕ) (c : Contact) → IsFree c.window → IsFree (stepped start c).window
stepped-free start c free = elim (is_in_step c) as (λ b. IsFree (if b then c else record c { window = Some (fresh start); shown = start }).window) [
  | true ↦ free
  | false ↦ refl
]

noted-free : (next : ℕ) (c : Contact) (window : Option Receiving) → IsFree c.window → IsFree (noted_in next c window).window
noted-free next c None free = free
noted-free next c (Some r) free = free

pub told-keeps : (start next low high : ℕ) (c : Contact) → IsContact low high c → IsContact low high (told start next c)
told-keeps start next low high c is =
    let same = told-same start next c in
    record {
      node = subst (λ a. IsNodeWord a.word) (sym same.peer) is.node;
      after_release = subst (λ n. low ≤ n) (sym same.acked) is.after_release;
      before_accepted = subst (λ n. n ≤ high) (sym same.acked) is.before_accepted;
      begun = subst (λ n. n ≤ (told start next c).acked + 1) (sym same.start) (subst (λ n. c.start ≤ n + 1) (sym same.acked) is.begun);
      free = noted-free next (stepped start c) (stepped start c).window (stepped-free start c is.free);
    }

pub tell-keeps : (own : ℕ) (s : Sending) (cs : List Contact) (place start next : ℕ) (old new : Contact) → IsCasting own s cs → place < length cs → old ≡ get_or cs place old → new ≡ told start next old
    → IsCasting own s (slice_set cs place new)
tell-keeps own s cs place start next old new h within value is =
    let P = IsContact (acked_of s) (accepted s) in
    let was : P old = subst P (sym value) (All-get_or P cs place old within h.contacts) in
    let now : P new = subst P (sym is) (told-keeps start next (acked_of s) (accepted s) old was) in
    record { node = h.node; few = h.few; unacked = h.unacked; waiting = h.waiting; short_unacked = h.short_unacked; short_waiting = h.short_waiting; contacts = All-set P cs place new now h.contacts }

-- ---- a message

-- the envelope has 16 bytes
length-accepted : (own boot members : ℕ) (packet : List ℕ) → 16 ≤ length packet → length (accepted_frame own boot members packet) ≡ length packet + 16
unfolding stamped
length-accepted own boot members packet long =
    let two = words ((from_bit 16 0 + 0) ∷ own ∷ []) in
    omega (
      arith,
      long,
      length-append (envelope boot members) (take 8 packet ++ (two ++ drop 16 packet)),
      length-envelope boot members,
      length-append (take 8 packet) (two ++ drop 16 packet),
      length-take-le 8 packet (omega (arith, long)),
      length-append two (drop 16 packet),
      length-words ((from_bit 16 0 + 0) ∷ own ∷ []),
      length-drop 16 packet,
    )

pub offer-keeps : (own boot members : ℕ) (s : Sending) (cs : List Contact) (pieces : List (List ℕ)) → All (λ piece. 16 ≤ length piece) pieces → All (λ piece. length piece ≤ 1452) pieces
    → length s.waiting < 200 → length pieces ≤ 47 → IsCasting own s cs → IsCasting own (offered s (map (accepted_frame own boot members) pieces)) cs
offer-keeps own boot members s cs pieces long short few most h =
    let frames = map (accepted_frame own boot members) pieces in
    let P : List ℕ → Type 0 = λ frame. 32 ≤ length frame in
    let Q : List ℕ → Type 0 = λ frame. length frame ≤ 1516 in
    let more : accepted s ≤ accepted (offered s frames) = omega (arith, length-append s.waiting frames) in
    record {
      node = h.node;
      few = omega (arith, length-append s.waiting frames, length-map pieces (accepted_frame own boot members), few, most);
      unacked = h.unacked;
      waiting = All-append P s.waiting frames h.waiting
          (All-map P (accepted_frame own boot members) pieces (All-weaker (λ piece. 16 ≤ length piece) (λ piece. P (accepted_frame own boot members piece)) (λ piece l. omega (arith, l, length-accepted own boot members piece l)) pieces long));
      short_unacked = h.short_unacked;
      short_waiting = All-append Q s.waiting frames h.short_waiting
          (All-map Q (accepted_frame own boot members) pieces
          (All-with (λ piece. 16 ≤ length piece) (λ piece. length piece ≤ 1452) (λ piece. Q (accepted_frame own boot members piece)) (λ piece l m. omega (arith, l, m, length-accepted own boot members piece l)) pieces long short));
      contacts = All-weaker (IsContact (acked_of s) (accepted s)) (IsContact (acked_of s) (accepted (offered s frames)))
          (λ c is. record { node = is.node; after_release = is.after_release; before_accepted = omega (arith, more, is.before_accepted); begun = is.begun; free = is.free }) cs h.contacts;
    }

-- ---- a departure

pub leave-keeps : (own : ℕ) (s : Sending) (cs : List Contact) (peer : ℕ) → IsCasting own s cs → IsCasting own s (without peer cs)
leave-keeps own s cs peer h = record { node = h.node; few = h.few; unacked = h.unacked; waiting = h.waiting; short_unacked = h.short_unacked; short_waiting = h.short_waiting; contacts = All-filter (λ c. not (is_with peer c)) (IsContact (acked_of s) (accepted s)) cs h.contacts }

-- a message was accepted, or not
pub offered_or_not : {F : Type 0} (r : Result (Unit {0}) F) (own boot members limit : ℕ) (s after : Sending) (cs : List Contact) (pieces frames : List (List ℕ)) → All (λ piece. 16 ≤ length piece) pieces
    → All (λ piece. length piece ≤ 1452) pieces → limit ≤ 200 → length pieces ≤ 47 → frames ≡ map (accepted_frame own boot members) pieces
    → OnOk r ((length s.waiting < limit) × (after ≡ offered s frames)) → OnErr r (after ≡ s) → IsCasting own s cs → IsCasting own after cs
offered_or_not (Ok done) own boot members limit s after cs pieces frames long short low most is ok err h =
    let less = ok.0 in
    subst (λ t. IsCasting own t cs) (sym (ok.1 ∙ ap (offered s) is)) (offer-keeps own boot members s cs pieces long short (omega arith) most h)
offered_or_not (Err fault) own boot members limit s after cs pieces frames long short low most is ok err h = subst (λ t. IsCasting own t cs) (sym err) h

-- ---- an arrival

-- what is taken leaves the window: the wanted packet isn't held then
taken_in-keeps : (low high : ℕ) (t : Taken) (c : Contact) (o : Option Receiving) → IsContact low high c → IsContact low high (taken_in c t o)
taken_in-keeps low high t c None h = h
taken_in-keeps low high t c (Some r) h =
    record { node = h.node; after_release = h.after_release; before_accepted = h.before_accepted; begun = h.begun; free = run_leaves (with_packet r t).held }

pub heard-keeps : (low high : ℕ) (t : Taken) (c : Contact) (o : Option Why) → IsContact low high c → IsContact low high (heard t c o)
heard-keeps low high t c (Some why) h = h
heard-keeps low high t c None h = taken_in-keeps low high t c c.window h

pub arrival-keeps : (own : ℕ) (s : Sending) (cs : List Contact) (place : ℕ) (t : Taken) (old new : Contact) (o : Option Why) → IsCasting own s cs → place < length cs → old ≡ get_or cs place old → new ≡ heard t old o
    → IsCasting own s (slice_set cs place new)
arrival-keeps own s cs place t old new o h within value is =
    let P = IsContact (acked_of s) (accepted s) in
    let was : P old = subst P (sym value) (All-get_or P cs place old within h.contacts) in
    let now : P new = subst P (sym is) (heard-keeps (acked_of s) (accepted s) t old o was) in
    record { node = h.node; few = h.few; unacked = h.unacked; waiting = h.waiting; short_unacked = h.short_unacked; short_waiting = h.short_waiting; contacts = All-set P cs place new now h.contacts }

-- what the code finds of a contact in the list
pub free_at : (own : ℕ) (s : Sending) (cs : List Contact) (place : ℕ) (c : Contact) → IsCasting own s cs → place < length cs → c ≡ get_or cs place c → IsFree c.window
free_at own s cs place c h within value =
    let P = IsContact (acked_of s) (accepted s) in
    let is : P c = subst P (sym value) (All-get_or P cs place c within h.contacts) in
    is.free
