-- Unacknowledged packets that are sent again, one after another.
use Rattle.std.proofs.Common.{◌≡◌, ℕ, ◌+◌, ◌<◌, ◌≤◌, Bool, true, false, if◌then◌else◌, List, [], ◌∷◌, ◌++◌, length, take, filter, map, suc, refl, sym, ap, ◌∙◌, subst, append-nil, get_or}
use Rattle.std.proofs.lemmas.List.{map_push, take_more, take_all}
use Rattle.std.proofs.lemmas.List.Elements.{All-cons, All-head, All-nil, All-tail, filter-append}
use Rattle.std.specs.Prelude.{All, cond, count_by}
use Rattle.std.proofs.lemmas.List.Sums.{sum_by-cons}
use Rattle.tipc_types.specs.Position.{number_of}
use Rattle.tipc_types.specs.declared.packet_lists.Kept.{Kept}
use Rattle.tipc_outside.specs.Frames.{AddsFirst, Out}
use Rattle.tipc_outside.specs.declared.outgoing.Outgoing.{Outgoing}
use Rattle.tipc_outside.proofs.Adding.{first_more, gains_none}
use Rattle.tipc_send_window.specs.Sending.{kept_after, kept_of}
use Rattle.tipc_link.specs.Records.{is_tunnel}
use Rattle.tipc_link.specs.Sessions.{SessionEnd, all_answered, is_behind, packet_frame, repeat_frames, repeated, spoke}

abbrev frame_again : SessionEnd → Kept → Outgoing
frame_again e k = packet_frame e k.number k.packet

-- those among the first i unacknowledged packets
unfoldable pub first_repeated : SessionEnd → ℕ → ℕ → ℕ → List Kept
first_repeated e acknowledgement gap i = filter (is_behind acknowledgement gap) (take i (kept_of e.sending))

-- the first i unacknowledged packets were looked at
pub record IsRepeating (e : SessionEnd) (acknowledgement gap : ℕ) (box_before box : Out) (any : Bool) (i : ℕ) : Type 0 where
  pub spoken : (if any then record e { unanswered = all_answered } else e) ≡ spoke e (first_repeated e acknowledgement gap i)
  pub frames : AddsFirst box_before box (map (frame_again e) (first_repeated e acknowledgement gap i))

spoke-push : (e : SessionEnd) (ks : List Kept) (k : Kept) → record e { unanswered = all_answered } ≡ spoke e (ks ++ k ∷ [])
spoke-push e [] k = refl
spoke-push e (x ∷ ks) k = refl

pub repeating-start : (e : SessionEnd) (acknowledgement gap : ℕ) (box : Out) → IsRepeating e acknowledgement gap box box false 0
unfolding first_repeated
repeating-start e acknowledgement gap box = record { spoken = refl; frames = gains_none box }

first_repeated-more : (e : SessionEnd) (acknowledgement gap i : ℕ) (k : Kept) → i < length (kept_of e.sending) → get_or (kept_of e.sending) i k ≡ k
    → first_repeated e acknowledgement gap (i + 1) ≡ first_repeated e acknowledgement gap i ++ (if is_behind acknowledgement gap k then k ∷ [] else [])
unfolding first_repeated
first_repeated-more e acknowledgement gap i k within is =
    let p = is_behind acknowledgement gap in
    ap (λ ks. filter p ks) (take_more (kept_of e.sending) i k within)
    ∙ filter-append p (take i (kept_of e.sending)) (get_or (kept_of e.sending) i k ∷ [])
    ∙ ap (λ x. filter p (take i (kept_of e.sending)) ++ filter p (x ∷ [])) is

-- one that isn't missing is passed over
pub repeating-pass : (e : SessionEnd) (acknowledgement gap : ℕ) (box_before box : Out) (any : Bool) (i : ℕ) (k : Kept) (items : List Kept) → items ≡ kept_of e.sending → i < length items → k ≡ get_or items i k → is_behind acknowledgement gap k ≡ false
    → IsRepeating e acknowledgement gap box_before box any i → IsRepeating e acknowledgement gap box_before box any (i + 1)
repeating-pass e acknowledgement gap box_before box any i k items all before item other h =
    let within : i < length (kept_of e.sending) = subst (λ ks. i < length ks) all before in
    let is : get_or (kept_of e.sending) i k ≡ k = sym (item ∙ ap (λ ks. get_or ks i k) all) in
    let more = first_repeated-more e acknowledgement gap i k within is in
    let same : first_repeated e acknowledgement gap (i + 1) ≡ first_repeated e acknowledgement gap i =
    more ∙ ap (λ t. first_repeated e acknowledgement gap i ++ (if t then k ∷ [] else [])) other ∙ append-nil (first_repeated e acknowledgement gap i) in
    record { spoken = rw same h.spoken; frames = rw same h.frames }

-- and one that is missing is sent again
pub repeating-send : (e : SessionEnd) (acknowledgement gap : ℕ) (box_before box box' : Out) (any : Bool) (i : ℕ) (k : Kept) (items : List Kept) → items ≡ kept_of e.sending → i < length items → k ≡ get_or items i k → is_behind acknowledgement gap k ≡ true → AddsFirst box box' (packet_frame e k.number k.packet ∷ [])
    → IsRepeating e acknowledgement gap box_before box any i → IsRepeating e acknowledgement gap box_before box' true (i + 1)
repeating-send e acknowledgement gap box_before box box' any i k items all before item missing sent h =
    let within : i < length (kept_of e.sending) = subst (λ ks. i < length ks) all before in
    let is : get_or (kept_of e.sending) i k ≡ k = sym (item ∙ ap (λ ks. get_or ks i k) all) in
    let ks = first_repeated e acknowledgement gap i in
    let more : first_repeated e acknowledgement gap (i + 1) ≡ ks ++ k ∷ [] = first_repeated-more e acknowledgement gap i k within is ∙ ap (λ t. ks ++ (if t then k ∷ [] else [])) missing in
    record {
      spoken = rw more (spoke-push e ks k);
      frames = rw (more, map_push (frame_again e) ks k) (first_more box_before box box' (map (frame_again e) ks) (frame_again e k ∷ []) h.frames sent);
    }

pub repeating-done : (e : SessionEnd) (acknowledgement gap : ℕ) (box_before box : Out) (any : Bool) (i : ℕ) (items : List Kept) → items ≡ kept_of e.sending → length items ≤ i → IsRepeating e acknowledgement gap box_before box any i
    → ((if any then record e { unanswered = all_answered } else e) ≡ spoke e (repeated e acknowledgement gap)) × AddsFirst box_before box (repeat_frames e acknowledgement gap)
unfolding first_repeated repeated repeat_frames
repeating-done e acknowledgement gap box_before box any i items all end h =
    let all : take i (kept_of e.sending) ≡ kept_of e.sending = take_all i (kept_of e.sending) (subst (λ ks. length ks ≤ i) all end) in
    let P : List Kept → Type 0 = λ ks. ((if any then record e { unanswered = all_answered } else e) ≡ spoke e (filter (is_behind acknowledgement gap) ks)) × AddsFirst box_before box (map (frame_again e) (filter (is_behind acknowledgement gap) ks)) in
    subst P all (h.spoken, h.frames)

-- what is true of packets is true of them beside their numbers
pub kept_all : (P : List ℕ → Type 0) (before : ℕ) (packets : List (List ℕ)) → All P packets → All (λ (k : Kept). P k.packet) (kept_after before packets)
kept_all P before [] h = All-nil (λ (k : Kept). P k.packet)
kept_all P before (packet ∷ packets) h =
    All-cons (λ (k : Kept). P k.packet) _ _ (All-head P packet packets h) (kept_all P (before + 1) packets (All-tail P packet packets h))

pub kept_count : (before : ℕ) (packets : List (List ℕ)) → length (kept_after before packets) ≡ length packets
kept_count before [] = refl
kept_count before (packet ∷ packets) = ap suc (kept_count (before + 1) packets)

-- the tunnel packets among them are those among the packets
pub kept_tunnels : (before : ℕ) (packets : List (List ℕ)) → count_by (λ (k : Kept). is_tunnel k.packet) (kept_after before packets) ≡ count_by is_tunnel packets
kept_tunnels before [] = refl
kept_tunnels before (packet ∷ packets) =
    let first : Kept = record { number = number_of (before + 1); packet = packet } in
    sum_by-cons (λ (k : Kept). cond (is_tunnel k.packet) 1 0) first (kept_after (before + 1) packets)
    ∙ ap (λ n. cond (is_tunnel packet) 1 0 + n) (kept_tunnels (before + 1) packets)
    ∙ sym (sum_by-cons (λ (q : List ℕ). cond (is_tunnel q) 1 0) packet packets)
