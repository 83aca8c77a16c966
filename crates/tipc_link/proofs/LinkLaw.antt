-- Two ends of a session stay joined, whatever happens at one of them.
use Rattle.std.proofs.Common.{◌≡◌, ℕ, zero, suc, ◌+◌, ◌-◌, ◌<◌, ◌≤◌, Bool, true, false, if◌then◌else◌, List, [], ◌∷◌, ◌++◌, Some, length, map, take, drop, slice_get, inl, inr, refl, sym, ap, ◌∙◌, subst, append-nil, length-append, take-append-drop, get_or, arith}
use Rattle.std.proofs.lemmas.Bool.{cases_lt}
use Rattle.std.proofs.lemmas.List.{get_or-append-add, length-take-le, take-append-le}
use Rattle.std.proofs.lemmas.Option.{get_or_from_slice_get, slice_get-get_or, slice_get_within}
use Rattle.std.proofs.Math.ListN.{get_or-append}
use Rattle.std.proofs.Math.Seq.{take-add}
use Rattle.tipc_types.specs.declared.packet_lists.Kept.{Kept}
use Rattle.tipc_types.specs.declared.packet_lists.Taken.{Taken}
use Rattle.tipc_send_window.specs.Sending.{Sending, acknowledged, fresh, kept_of, room}
use Rattle.tipc_link.specs.Sessions.{SessionEnd, Unanswered, all_answered, Content, Shows, Carries, Nothing, IsPut, arrival_moving, arrived, brought, due_with, flushed, gap, is_due, joins, moving, noted, after_acknowledgement, repeated, spoke, took, waits}
use Rattle.tipc_link.specs.Direction.{IsDirection, Flight, IsFresh, IsFlight, packet_flight, state_flight}
use Rattle.tipc_link.specs.Laws.{Side, AreJoined, arrival_flights, flush_flights, kept_flight, packet_flights, taken_from, AnswersStayJoined, ArrivalsStayJoined, BeginJoined, JoinedGivePrefix, PutsStayJoined, StatesStayJoined, TurnJoined}
use Rattle.tipc_link.proofs.Directions.{arrives, holds_none, moves_up, offers, releases, swaps, repeated_from, slice_get-from_take, Extends-append, Extends-same, IsCarried-kept-later, IsCarried-stays, IsFlight-carried, IsFlight-packet, IsFlight-state, IsFlight-stays, IsReceiver-stays, IsTaken}

-- each element has P
abbrev pub Each : {A : Type 0} → (A → Type 0) → List A → Type 0
Each {A} P xs = (k : ℕ) (x : A) → slice_get xs k ≡ Some x → P x

pub Each-append : {A : Type 0} (P : A → Type 0) (xs ys : List A) → Each P xs → Each P ys → Each P (xs ++ ys)
Each-append P xs ys hx hy k x e =
    let within : k < length (xs ++ ys) = slice_get_within (xs ++ ys) k x e in
    let value : get_or (xs ++ ys) k x ≡ x = get_or_from_slice_get (xs ++ ys) k x x e in
    elim (cases_lt k (length xs)) [
      | inl lt ↦ hx k x (slice_get-get_or xs k x lt ∙ ap Some (sym (get_or-append xs ys x k lt) ∙ value))
      | inr le ↦
          let place : length xs + (k - length xs) ≡ k = omega arith in
          let there : k - length xs < length ys = omega (arith, length-append xs ys) in
          hy (k - length xs) x (slice_get-get_or ys (k - length xs) x there ∙ ap Some (sym (get_or-append-add xs ys (k - length xs) x) ∙ ap (λ i. get_or (xs ++ ys) i x) place ∙ value))
    ]

pub Each-none : {A : Type 0} (P : A → Type 0) → Each P []
Each-none P k x e = absurd (let none : ⊥ = cc in none)

pub Each-one : {A : Type 0} (P : A → Type 0) (x : A) → P x → Each P (x ∷ [])
Each-one P x h zero y e = let same : x ≡ y = cc in subst P same h
Each-one P x h (suc k) y e = absurd (let none : ⊥ = cc in none)

-- what is true of a function of each element
pub Each-map : {A B : Type 0} (P : B → Type 0) (f : A → B) (xs : List A) → Each (λ x. P (f x)) xs → Each P (map f xs)
Each-map P f [] h k y e = absurd (let none : ⊥ = cc in none)
Each-map P f (x ∷ xs) h zero y e = let same : f x ≡ y = cc in subst P same (h 0 x refl)
Each-map P f (x ∷ xs) h (suc k) y e = Each-map P f xs (λ i z is. h (suc i) z is) k y e

-- what the k-th of these frames brings
pub packet_flights-at : (t n p before : ℕ) (qs : List (List ℕ)) (k : ℕ) (f : Flight) → slice_get (packet_flights t n p before qs) k ≡ Some f → (q : List ℕ) × (slice_get qs k ≡ Some q) × (f ≡ packet_flight t n p (before + k + 1) q)
packet_flights-at t n p before [] k f e = absurd (let x : ⊥ = cc in x)
packet_flights-at t n p before (x ∷ qs) zero f e =
    let is : packet_flight t n p (before + 1) x ≡ f = cc in
    (x, refl, sym is ∙ ap (λ i. packet_flight t n p i x) (omega arith))
packet_flights-at t n p before (x ∷ qs) (suc k) f e =
    let h = packet_flights-at t n p (before + 1) qs k f e in
    (h.0, h.1, h.2 ∙ ap (λ i. packet_flight t n p i h.0) (omega arith))

-- the frames of the packets that move up
pub flush_flights-fly : (e : SessionEnd) (peer : Sending) (peer_taken : ℕ) (line peer_line : List (List ℕ)) → IsDirection e.sending peer_taken line → IsDirection peer e.taken peer_line
    → Each (λ f. IsFlight (e.sending.numbered + room e.sending) e.taken peer.numbered (line ++ moving e) f) (flush_flights e peer.numbered)
flush_flights-fly e peer peer_taken line peer_line d back k f is =
    let s = e.sending in
    let n = room s in
    let h = packet_flights-at e.taken (s.numbered + n) peer.numbered s.numbered (moving e) k f is in
    let long : length (take n s.waiting) ≡ n = length-take-le n s.waiting (omega arith) in
    let before : k < n = omega (arith, long, slice_get_within (take n s.waiting) k h.0 h.1) in
    let there : slice_get s.waiting k ≡ Some h.0 = slice_get-from_take n s.waiting k h.0 h.1 in
    subst (λ g. IsFlight (s.numbered + n) e.taken peer.numbered (line ++ moving e) g) (sym h.2) (IsFlight-packet s peer e.taken peer_taken n k line peer_line h.0 d back (omega arith) before there)

-- the frames of packets that are sent again, beside those of n packets that move up
kept_flights-fly : (s peer : Sending) (taken peer_taken n : ℕ) (line more peer_line : List (List ℕ)) (ks : List Kept) → IsDirection s peer_taken line → IsDirection peer taken peer_line → length s.unacked + n ≤ 50
    → Each (λ k. (i : ℕ) × (slice_get (kept_of s) i ≡ Some k)) ks
    → Each (λ f. IsFlight (s.numbered + n) taken peer.numbered (line ++ more) f) (map (kept_flight taken (s.numbered + n) peer.numbered) ks)
kept_flights-fly s peer taken peer_taken n line more peer_line ks d back fits from =
    Each-map (λ f. IsFlight (s.numbered + n) taken peer.numbered (line ++ more) f) (kept_flight taken (s.numbered + n) peer.numbered) ks (λ j k is.
    let found = from j k is in
    let below = d.below in
    let c = IsCarried-stays line (line ++ more) (s.numbered + n) k.number k.packet (Extends-append line more) (IsCarried-kept-later s peer_taken (s.numbered + n) found.0 line k d (omega arith) (omega arith) found.1) in
    IsFlight-carried peer taken (s.numbered + n) k.number (line ++ more) peer_line k.packet back c)

-- ---- steps

pub turned : TurnJoined
turned a b h = record { there = h.back; back = h.there }

pub begins : BeginJoined
begins own peer bearer epoch peer_epoch =
    let still : IsDirection fresh 0 [] = record { window = omega arith; below = omega arith; count = refl; kept = refl; acked_taken = omega arith; taken_numbered = omega arith } in
    record {
      there = record { direction = still; receiver = holds_none []; took = refl; flights = Each-none _ };
      back = record { direction = still; receiver = holds_none []; took = refl; flights = Each-none _ };
    }

-- waiting packets move up at a side, with these frames
flush_joined : (a b : Side) (fs : List Flight) → AreJoined a b → Each (λ f. IsFlight (a.end.sending.numbered + room a.end.sending) a.end.taken b.end.sending.numbered (a.line ++ moving a.end) f) fs
    → AreJoined (record { end = flushed a.end; line = a.line ++ moving a.end; took = a.took; sent = a.sent ++ fs }) b
unfolding flushed
flush_joined a b fs h new =
    let s = a.end.sending in
    let more : s.numbered ≤ s.numbered + room s = omega arith in
    let longer = Extends-append a.line (moving a.end) in
    let direction = moves_up s b.end.taken a.line h.there.direction in
    record {
      there = record {
        direction = direction;
        receiver = IsReceiver-stays b.end.held b.end.taken a.line (a.line ++ moving a.end) longer h.there.receiver;
        took = h.there.took ∙ sym (take-append-le b.end.taken a.line (moving a.end) (omega (arith, h.there.direction.count, h.there.direction.taken_numbered)));
        flights = Each-append _ a.sent fs (λ k f is. IsFlight-stays _ _ _ _ _ _ a.line (a.line ++ moving a.end) f more (omega arith) (omega arith) longer (h.there.flights k f is)) new;
      };
      back = record {
        direction = h.back.direction;
        receiver = h.back.receiver;
        took = h.back.took;
        flights = λ k f is. IsFlight-stays _ _ _ _ _ _ b.line b.line f (omega arith) (omega arith) more (Extends-same b.line) (h.back.flights k f is);
      };
    }

put_joined : (a b : Side) (pieces : List (List ℕ)) (put : SessionEnd) → IsPut a.end pieces put → AreJoined a b → AreJoined (record { end = put; line = a.line; took = a.took; sent = a.sent }) b
put_joined a b _ _ (joins packets packet may) h = record {
  there = record { direction = swaps a.end.sending b.end.taken a.line _ h.there.direction; receiver = h.there.receiver; took = h.there.took; flights = h.there.flights };
  back = record { direction = h.back.direction; receiver = h.back.receiver; took = h.back.took; flights = h.back.flights };
}
put_joined a b pieces _ (waits others alone) h = record {
  there = record { direction = offers a.end.sending b.end.taken a.line pieces h.there.direction; receiver = h.there.receiver; took = h.there.took; flights = h.there.flights };
  back = record { direction = h.back.direction; receiver = h.back.receiver; took = h.back.took; flights = h.back.flights };
}

pub puts_join : PutsStayJoined
puts_join a b pieces put h is =
    let now : Side = record { end = put; line = a.line; took = a.took; sent = a.sent } in
    let joined = put_joined a b pieces put is h in
    flush_joined now b (flush_flights put b.end.sending.numbered) joined (flush_flights-fly put b.end.sending b.end.taken a.line b.line joined.there.direction joined.back.direction)

-- an end that differs in its counts and in what is due alone
tell_joined : (a b : Side) (shown : ℕ) (unanswered : Unanswered) (owes : Bool) (fs : List Flight) → AreJoined a b → Each (λ f. IsFlight a.end.sending.numbered a.end.taken b.end.sending.numbered a.line f) fs
    → AreJoined (record { end = record a.end { shown = shown; unanswered = unanswered; owes = owes }; line = a.line; took = a.took; sent = a.sent ++ fs }) b
tell_joined a b shown unanswered owes fs h new = record {
  there = record { direction = h.there.direction; receiver = h.there.receiver; took = h.there.took; flights = Each-append _ a.sent fs h.there.flights new };
  back = record { direction = h.back.direction; receiver = h.back.receiver; took = h.back.took; flights = h.back.flights };
}

pub tells_join : StatesStayJoined
tells_join a b probe h =
    tell_joined a b a.end.shown all_answered a.end.owes _ h (Each-one _ _ (IsFlight-state a.end.sending b.end.sending a.end.taken (gap a.end) probe a.line b.line h.back.direction))

pub answers_join : AnswersStayJoined
answers_join a b h =
    elim (is_due a.end) as (λ due. AreJoined (record {
      end = record a.end { unanswered = if due then all_answered else a.end.unanswered; owes = false };
      line = a.line;
      took = a.took;
      sent = a.sent ++ (if due then state_flight a.end.taken a.end.sending.numbered b.end.sending.numbered (gap a.end) false ∷ [] else []);
    }) b) [
      | true ↦ tell_joined a b a.end.shown all_answered false _ h (Each-one _ _ (IsFlight-state a.end.sending b.end.sending a.end.taken (gap a.end) false a.line b.line h.back.direction))
      | false ↦ tell_joined a b a.end.shown a.end.unanswered false [] h (Each-none _)
    ]

still_joined : (a b : Side) (shown : ℕ) (unanswered : Unanswered) (owes : Bool) → AreJoined a b → AreJoined (record { end = record a.end { shown = shown; unanswered = unanswered; owes = owes }; line = a.line; took = a.took; sent = a.sent }) b
still_joined a b shown unanswered owes h = record {
  there = record { direction = h.there.direction; receiver = h.there.receiver; took = h.there.took; flights = h.there.flights };
  back = record { direction = h.back.direction; receiver = h.back.receiver; took = h.back.took; flights = h.back.flights };
}

-- ---- an arrival

-- an acknowledgement is read
released_joined : (a b : Side) (f : Flight) → AreJoined a b → IsFlight b.end.sending.numbered b.end.taken a.end.sending.numbered b.line f → IsFresh b.end.sending.numbered a.end.sending.numbered f
    → AreJoined (record { end = after_acknowledgement a.end f.acknowledgement; line = a.line; took = a.took; sent = a.sent }) b
released_joined a b f h flies new =
    let told_recent = flies.told_recent in
    let recent = new.peer in
    let direction : IsDirection (acknowledged a.end.sending f.acknowledgement) b.end.taken a.line =
    subst (λ m. IsDirection (acknowledged a.end.sending m) b.end.taken a.line) (sym flies.told_is) (releases a.end.sending b.end.taken a.line flies.told h.there.direction flies.told_taken (omega arith)) in
    record {
      there = record { direction = direction; receiver = h.there.receiver; took = h.there.took; flights = h.there.flights };
      back = record { direction = h.back.direction; receiver = h.back.receiver; took = h.back.took; flights = h.back.flights };
    }

-- missing packets are sent again, a next number is noted, and waiting packets move up
shows_joined : (a b : Side) (ks : List Kept) (next : ℕ) (probe : Bool) → AreJoined a b → Each (λ k. (i : ℕ) × (slice_get (kept_of a.end.sending) i ≡ Some k)) ks
    → let e = noted (spoke a.end ks) next probe in
    AreJoined (record {
      end = flushed e;
      line = a.line ++ moving e;
      took = a.took;
      sent = a.sent ++ (map (kept_flight a.end.taken (flushed e).sending.numbered b.end.sending.numbered) ks ++ flush_flights e b.end.sending.numbered);
    }) b
unfolding flushed
shows_joined a b [] next probe h from =
    let e = noted a.end next probe in
    let now : Side = record { end = e; line = a.line; took = a.took; sent = a.sent } in
    let joined : AreJoined now b = still_joined a b e.shown e.unanswered e.owes h in
    flush_joined now b _ joined (flush_flights-fly e b.end.sending b.end.taken a.line b.line joined.there.direction joined.back.direction)
shows_joined a b (first ∷ others) next probe h from =
    let e = noted (record a.end { unanswered = all_answered }) next probe in
    let now : Side = record { end = e; line = a.line; took = a.took; sent = a.sent } in
    let joined : AreJoined now b = still_joined a b e.shown e.unanswered e.owes h in
    let window = h.there.direction.window in
    let fits : length a.end.sending.unacked + room a.end.sending ≤ 50 = omega arith in
    let again = map (kept_flight a.end.taken (a.end.sending.numbered + room a.end.sending) b.end.sending.numbered) (first ∷ others) in
    flush_joined now b _ joined (Each-append _ again _
    (kept_flights-fly a.end.sending b.end.sending a.end.taken b.end.taken (room a.end.sending) a.line (moving e) b.line (first ∷ others) h.there.direction h.back.direction fits from)
    (flush_flights-fly e b.end.sending b.end.taken a.line b.line joined.there.direction joined.back.direction))

-- what a packet brings doesn't depend on what is acknowledged
due_with-released : (e : SessionEnd) (acknowledgement : ℕ) (t : Taken) → due_with (after_acknowledgement e acknowledgement) t ≡ due_with e t
unfolding due_with
due_with-released e acknowledgement t = refl

-- a numbered packet is taken, held or passed over
took_joined : (a b : Side) (f : Flight) (t : Taken) → AreJoined a b → IsFlight b.end.sending.numbered b.end.taken a.end.sending.numbered b.line f → IsFresh b.end.sending.numbered a.end.sending.numbered f
    → f.content ≡ Carries t.number t.packet
    → AreJoined (record { end = took a.end t; line = a.line; took = a.took ++ map (λ (d : Taken). d.packet) (due_with a.end t); sent = a.sent }) b
took_joined a b f t h flies new is =
    let taken : IsTaken b.end.sending a.end b.line t = arrives b.end.sending a.end.sending.numbered a.end b.line f t h.back.direction h.back.receiver new flies.so_far (flies.carried t.number t.packet is) in
    let n = length (due_with a.end t) in
    record {
      there = record {
        direction = h.there.direction;
        receiver = h.there.receiver;
        took = h.there.took;
        flights = λ k g at. IsFlight-stays _ _ _ _ _ _ a.line a.line g (omega arith) (omega arith) (omega arith) (Extends-same a.line) (h.there.flights k g at);
      };
      back = record {
        direction = taken.direction;
        receiver = taken.receiver;
        took = ap (λ xs. xs ++ map (λ (d : Taken). d.packet) (due_with a.end t)) h.back.took ∙ ap (λ xs. take a.end.taken b.line ++ xs) (sym taken.next) ∙ sym (take-add a.end.taken n b.line);
        flights = h.back.flights;
      };
    }

content_joined : (a b : Side) (by : ℕ) (f : Flight) (c : Content) → f.content ≡ c → AreJoined a b → IsFlight b.end.sending.numbered b.end.taken a.end.sending.numbered b.line f → IsFresh b.end.sending.numbered a.end.sending.numbered f
    → AreJoined (record {
      end = arrived a.end by f.acknowledgement c;
      line = a.line ++ arrival_moving a.end by f.acknowledgement c;
      took = a.took ++ taken_from a.end by c;
      sent = a.sent ++ arrival_flights a.end b.end.sending.numbered by f.acknowledgement c;
    }) b
content_joined a b by f Nothing is h flies new = rw (append-nil a.line, append-nil a.took, append-nil a.sent) h
content_joined a b by f (Shows next gap probe) is h flies new =
    let joined = released_joined a b f h flies new in
    let from : Each (λ k. (i : ℕ) × (slice_get (kept_of (after_acknowledgement a.end f.acknowledgement).sending) i ≡ Some k)) (repeated (after_acknowledgement a.end f.acknowledgement) f.acknowledgement gap) =
    λ k kept there. repeated_from (after_acknowledgement a.end f.acknowledgement) f.acknowledgement gap k kept there in
    rw (append-nil a.took) (shows_joined _ b (repeated (after_acknowledgement a.end f.acknowledgement) f.acknowledgement gap) next probe joined from)
content_joined a b by f (Carries number packet) is h flies new =
    let t = brought number packet by in
    let joined = released_joined a b f h flies new in
    let e = took (after_acknowledgement a.end f.acknowledgement) t in
    let now : Side = record { end = e; line = a.line; took = a.took ++ map (λ (d : Taken). d.packet) (due_with (after_acknowledgement a.end f.acknowledgement) t); sent = a.sent } in
    let all : AreJoined now b = took_joined _ b f t joined flies new is in
    subst (λ ds. AreJoined (record {
      end = flushed e;
      line = a.line ++ moving e;
      took = a.took ++ map (λ (d : Taken). d.packet) ds;
      sent = a.sent ++ flush_flights e b.end.sending.numbered;
    }) b) (due_with-released a.end f.acknowledgement t)
    (flush_joined now b _ all (flush_flights-fly e b.end.sending b.end.taken a.line b.line all.there.direction all.back.direction))

pub hears_join : ArrivalsStayJoined
hears_join a b k by f h there new = content_joined a b by f f.content refl h (h.back.flights k f there) new

pub prefix : JoinedGivePrefix
prefix a b h = (drop b.end.taken a.line, sym (take-append-drop b.end.taken a.line) ∙ ap (λ xs. xs ++ drop b.end.taken a.line) (sym h.there.took))
