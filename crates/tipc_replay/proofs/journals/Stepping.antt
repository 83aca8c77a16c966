-- A lawful journal stays lawful while the air and the arrivals grow, and with one more lawful step.
use Rattle.std.specs.List.{filter}
use Rattle.std.proofs.Common.{◌≡◌, ◌≤◌, ◌<◌, ◌+◌, ℕ, zero, suc, Bool, true, false, if◌then◌else◌, List, [], ◌∷◌, ◌++◌, Option, Some, None, length, take, drop, slice_get, refl, sym, ap, ◌∙◌, subst, inl, inr, arith}
use Rattle.std.specs.Prelude.{◌⊎◌, ◌==◌, option_and_then}
use Rattle.std.proofs.lemmas.List.{drop-append-le, take-append-le}
use Rattle.std.proofs.lemmas.List.Sums.{sum_by-append}
use Rattle.std.proofs.Math.Seq.{take-append_seam}
use Rattle.tipc_types.specs.declared.message_forms.Flow.{Flow}
use Rattle.tipc_types.specs.Prefixes.{IsPrefixOf}
use Rattle.tipc_types.specs.declared.identity.Addr.{Addr}
use Rattle.tipc_types.specs.declared.link_words.Cause.{Cause}
use Rattle.tipc_types.specs.declared.link_words.Cause.TheVariants as cause
use Rattle.tipc_types.specs.declared.message_forms.Message.{Message}
use Rattle.tipc_types.specs.declared.node_calls.EventNote.TheVariants as event
use Rattle.tipc_reassembly.proofs.TraceLaws.{traced_weaker}
use Rattle.tipc_journal.specs.declared.entries.Entry.{Entry}
use Rattle.tipc_journal.specs.declared.entries.Entry.TheVariants as entry
use Rattle.tipc_journal.specs.Steps.{steps, step_entries, IsInside, NodeStep, PlacedStep}
use Rattle.tipc_journal.proofs.StepLaws.{IsWhole_more, steps_more}
use Rattle.tipc_replay.specs.declared.air.Arrived.{Arrived}
use Rattle.tipc_replay.specs.declared.air.Sent.{Sent}
use Rattle.tipc_replay.specs.Causes.{arrived_frame, frame_in, tick_of, ticks, BringsUp, HasTicked, IsArrivalOf, IsCaused, IsNumberOf, IsResetOf, IsTakenFrom, IsTunnelOf, Seen}
use Rattle.tipc_replay.specs.Skies.{air_on}
use Rattle.tipc_pair.specs.Facing.{other}
use Rattle.tipc_replay.specs.Lawful.{IsLawful, IsLawfulEntry, IsLawfulStep}
use Rattle.tipc_node.specs.Messages.{bytes_of}
use Rattle.tipc_replay.specs.Spelled.{HasBrought, IsBy, IsSpelled}
use Rattle.tipc_replay.proofs.streams.Within.{within_more}
use Rattle.tipc_link.proofs.Directions.{slice_get-append as get_longer}

-- ---- lists

-- an element of a list and one more is of the list, or is the one
pub one_more : {A : Type 0} (xs : List A) (y x : A) (k : ℕ) (P : Type 0) → slice_get (xs ++ y ∷ []) k ≡ Some x → (slice_get xs k ≡ Some x → k < length xs → P) → (k ≡ length xs → y ≡ x → P) → P
one_more [] y x zero P e old last = last refl cc
one_more [] y x (suc k) P e old last = absurd cc
one_more (z ∷ zs) y x zero P e old last = old e (omega arith)
one_more (z ∷ zs) y x (suc k) P e old last = one_more zs y x k P e (λ there below. old there (omega (arith, below))) (λ at same. last (ap suc at) same)

-- an element that passes a test is among those that do, and one among those is of the list
pub passes : {A : Type 0} (p : A → Bool) (xs : List A) (k : ℕ) (x : A) → slice_get xs k ≡ Some x → p x ≡ true → (j : ℕ) × (slice_get (filter p xs) j ≡ Some x)
passes p [] k x there is = absurd cc
passes p (y ∷ ys) zero x there is = (0, (let same : y ≡ x = cc in rw (ap p same ∙ is) there))
passes {A} p (y ∷ ys) (suc k) x there is = case (passes p ys k x there is) (p y)
  where
    case : (j : ℕ) × (slice_get (filter p ys) j ≡ Some x) → (b : Bool) → (j : ℕ) × (slice_get (if b then y ∷ filter p ys else filter p ys) j ≡ Some x)
    case later true = (suc later.0, later.1)
    case later false = later

pub passed : {A : Type 0} (p : A → Bool) (xs : List A) (j : ℕ) (x : A) → slice_get (filter p xs) j ≡ Some x → (k : ℕ) × (slice_get xs k ≡ Some x)
passed p [] j x there = absurd cc
passed {A} p (y ∷ ys) j x there = case (λ i at. passed p ys i x at) (p y) j there
  where
    case : ((i : ℕ) → slice_get (filter p ys) i ≡ Some x → (k : ℕ) × (slice_get ys k ≡ Some x)) → (b : Bool) (j : ℕ) → slice_get (if b then y ∷ filter p ys else filter p ys) j ≡ Some x → (k : ℕ) × (slice_get (y ∷ ys) k ≡ Some x)
    case rest true zero at = (zero, at)
    case rest true (suc i) at = let found = rest i at in (suc found.0, found.1)
    case rest false j at = let found = rest j at in (suc found.0, found.1)

-- what is in front is of the list
pub get_taken : {A : Type 0} (xs : List A) (n k : ℕ) (x : A) → slice_get (take n xs) k ≡ Some x → slice_get xs k ≡ Some x
get_taken xs zero k x e = absurd cc
get_taken [] (suc n) k x e = absurd cc
get_taken (z ∷ zs) (suc n) zero x e = e
get_taken (z ∷ zs) (suc n) (suc k) x e = get_taken zs n k x e

-- ---- the air and the arrivals grow

pub record Widens (old new : Seen) : Type 0 where
  pub air : (bearer : ℕ) → IsPrefixOf (air_on bearer old.air) (air_on bearer new.air)
  pub arrivals : IsPrefixOf old.arrivals new.arrivals

pub get_prefix : {A : Type 0} (xs ys : List A) (k : ℕ) (x : A) → IsPrefixOf xs ys → slice_get xs k ≡ Some x → slice_get ys k ≡ Some x
get_prefix xs ys k x h e = subst (λ zs. slice_get zs k ≡ Some x) (sym h.1) (get_longer xs h.0 k x e)

pub arrived_longer : (old new : Seen) (bearer number : ℕ) (f : Sent) → Widens old new → arrived_frame old bearer number ≡ Some f → arrived_frame new bearer number ≡ Some f
unfolding arrived_frame
arrived_longer old new bearer number f w e = case (slice_get old.arrivals number) refl e
  where
    on : (x : Arrived) (t : Bool) → (if t then slice_get (air_on bearer old.air) x.frame else None) ≡ Some f → (if t then slice_get (air_on bearer new.air) x.frame else None) ≡ Some f
    on x true is = get_prefix (air_on bearer old.air) (air_on bearer new.air) x.frame f (w.air bearer) is
    on x false is = absurd cc

    case : (o : Option Arrived) → slice_get old.arrivals number ≡ o → option_and_then (frame_in old.air bearer) o ≡ Some f → option_and_then (frame_in new.air bearer) (slice_get new.arrivals number) ≡ Some f
    case None is e = absurd cc
    case (Some x) is e = ap (option_and_then (frame_in new.air bearer)) (get_prefix old.arrivals new.arrivals number x w.arrivals is) ∙ on x (x.bearer == bearer) e

-- each arrival of a step is of a frame in the air of its bearer
abbrev pub Arrives : Seen → NodeStep → Type 0
Arrives seen s = (bearer number : ℕ) → s.event ≡ event.Arrive bearer number → (f : Sent) × (bearer ≤ 1) × (arrived_frame seen bearer number ≡ Some f)

abbrev pub AllArrive : Seen → List PlacedStep → Type 0
AllArrive seen made = (k : ℕ) (s : PlacedStep) → slice_get made k ≡ Some s → Arrives seen s.step

arrival_wider : (old new : Seen) (s : NodeStep) (bearer : ℕ) (f : Sent) (peer : Addr) → Widens old new → IsArrivalOf old s bearer f peer → IsArrivalOf new s bearer f peer
arrival_wider old new s bearer f peer w a = record { number = a.number; event_is = a.event_is; frame_is = arrived_longer old new bearer a.number f w a.frame_is; from = a.from }

-- an arrival of a frame that was in the air
arrival_back : (old new : Seen) (s : NodeStep) (bearer : ℕ) (f : Sent) (peer : Addr) → Widens old new → Arrives old s → IsArrivalOf new s bearer f peer → IsArrivalOf old s bearer f peer
arrival_back old new s bearer f peer w found a =
    let g = found bearer a.number a.event_is in
    let later = arrived_longer old new bearer a.number g.0 w g.2 in
    let same : g.0 ≡ f = (let e : Some g.0 ≡ Some f = sym later ∙ a.frame_is in cc) in
    record { number = a.number; event_is = a.event_is; frame_is = g.2 ∙ ap Some same; from = a.from }

ticked_wider : (old new : Seen) (made : List PlacedStep) (peer : Addr) (bearer least : ℕ) → Widens old new → AllArrive old made → HasTicked old made peer bearer least → HasTicked new made peer bearer least
ticked_wider old new made peer bearer least w found h k s there (inl up) = h k s there (inl up)
ticked_wider old new made peer bearer least w found h k s there (inr taken) =
    h k s there (inr (record { frame = taken.frame; arrives = arrival_back old new s.step bearer taken.frame peer w (found k s there) taken.arrives; link = taken.link; answered = taken.answered; answer_is = taken.answer_is; taken = taken.taken }))

number_wider : (old new : Seen) (s : NodeStep) (peer : Addr) (number : ℕ) → Widens old new → IsNumberOf old s peer number → IsNumberOf new s peer number
number_wider old new s peer number w n = record {
  bearer = n.bearer;
  frame = n.frame;
  arrives = arrival_wider old new s n.bearer n.frame peer w n.arrives;
  packet = n.packet;
  epoch = n.epoch;
  other_epoch = n.other_epoch;
  fits = n.fits;
  bytes = n.bytes;
  shows = n.shows;
}

reset_wider : (old new : Seen) (s : NodeStep) (peer : Addr) (bearer epoch : ℕ) → Widens old new → IsResetOf old s peer bearer epoch → IsResetOf new s peer bearer epoch
reset_wider old new s peer bearer epoch w r = record {
  frame = r.frame;
  arrives = arrival_wider old new s bearer r.frame peer w r.arrives;
  packet = r.packet;
  other_epoch = r.other_epoch;
  epoch_fits = r.epoch_fits;
  fits = r.fits;
  bytes = r.bytes;
  reset = r.reset;
}

tunnel_wider : (old new : Seen) (s : NodeStep) (peer : Addr) (bearer epoch : ℕ) → Widens old new → IsTunnelOf old s peer bearer epoch → IsTunnelOf new s peer bearer epoch
tunnel_wider old new s peer bearer epoch w t = record {
  frame = t.frame;
  arrives = arrival_wider old new s (other bearer) t.frame peer w t.arrives;
  messages = t.messages;
  answer_is = t.answer_is;
  packet = t.packet;
  first_epoch = t.first_epoch;
  second_epoch = t.second_epoch;
  fits = t.fits;
  bytes = t.bytes;
  tunnel = t.tunnel;
  header_is = t.header_is;
  original = t.original;
  bearer_is = t.bearer_is;
  epoch_is = t.epoch_is;
}

caused_wider : (old new : Seen) (earlier : List PlacedStep) (s : PlacedStep) (peer : Addr) (bearer theirs : ℕ) (because : Cause) (shown : ℕ) → Widens old new → AllArrive old earlier
    → IsCaused old earlier s peer bearer theirs because shown → IsCaused new earlier s peer bearer theirs because shown
caused_wider old new earlier s peer bearer theirs cause.Cut shown w found h = h
caused_wider old new earlier s peer bearer theirs cause.Silent shown w found h = (h.0, ticked_wider old new earlier peer bearer 4 w found h.1)
caused_wider old new earlier s peer bearer theirs cause.PeerReset shown w found h = (reset_wider old new s.step peer bearer shown w h.0, h.1)
caused_wider old new earlier s peer bearer theirs cause.PeerTunnel shown w found h = (tunnel_wider old new s.step peer bearer shown w h.0, h.1)
caused_wider old new earlier s peer bearer theirs cause.ContactEnded shown w found h = (h.0, h.1, h.2, h.3, h.4, number_wider old new s.step peer h.3 w h.5, h.6)

pub brought_wider : (old new : Seen) (flow : Flow) (peer : Addr) (by : ℕ) (bytes : List ℕ) → Widens old new → HasBrought old flow peer by bytes → HasBrought new flow peer by bytes
brought_wider old new flow peer by bytes w b = record {
  bearer = b.bearer;
  frame = b.frame;
  arrived = arrived_longer old new b.bearer by b.frame w b.arrived;
  from = b.from;
  sent = b.sent;
  es = b.es;
  er = b.er;
  packet = b.packet;
  fits = b.fits;
  frame_is = b.frame_is;
  brings = b.brings;
}

spelled_wider : (old new : Seen) (s : NodeStep) (flow : Flow) (peer : Addr) (message : Message) (by : List ℕ) → Widens old new → IsSpelled old s flow peer message by → IsSpelled new s flow peer message by
spelled_wider old new s flow peer message by w h =
    traced_weaker (λ n b. HasBrought old flow peer n b × IsBy s n) (λ n b. HasBrought new flow peer n b × IsBy s n) (λ n b both. (brought_wider old new flow peer n b w both.0, both.1)) (bytes_of peer.word message) by h

entry_wider : (old new : Seen) (earlier : List PlacedStep) (s : PlacedStep) (e : Entry) → Widens old new → AllArrive old earlier → IsLawfulEntry old earlier s e → IsLawfulEntry new earlier s e
entry_wider old new earlier s (entry.LinkUp peer bearer own theirs) w found h = h
entry_wider old new earlier s (entry.LinkDown peer bearer because shown) w found h = (h.0, (h.1.0, h.1.1, h.1.2, caused_wider old new earlier s peer bearer h.1.1 because shown w found h.1.3))
entry_wider old new earlier s (entry.ContactDown peer numbers states number) w found h = (h.0, h.1, by h.2)
  where
    by : (number ≡ 0) ⊎ (IsNumberOf old s.step peer number × (numbers.1 < number)) → (number ≡ 0) ⊎ (IsNumberOf new s.step peer number × (numbers.1 < number))
    by (inl none) = inl none
    by (inr n) = inr (number_wider old new s.step peer number w n.0, n.1)
entry_wider old new earlier s (entry.Accepted peer numbers flow message) w found h = h
entry_wider old new earlier s (entry.Delivered peer numbers flow message by) w found h = (h.0, spelled_wider old new s.step flow peer message by w h.1)
entry_wider old new earlier s other w found h = tt

pub step_wider : (old new : Seen) (earlier : List PlacedStep) (s : PlacedStep) → Widens old new → AllArrive old earlier → IsLawfulStep old earlier s → IsLawfulStep new earlier s
step_wider old new earlier s w found h = record {
  arrives = λ bearer number is. (let f = h.arrives bearer number is in (f.0, f.1, arrived_longer old new bearer number f.0 w f.2));
  entries = λ place e there. entry_wider old new earlier s e w found (h.entries place e there);
  parted = h.parted;
  contacts = h.contacts;
}

pub all_arrive : (seen : Seen) (journal : List Entry) → IsLawful seen journal → AllArrive seen (steps journal)
all_arrive seen journal h k s there = (h.steps_are k s there).arrives

pub lawful_wider : (old new : Seen) (journal : List Entry) → Widens old new → IsLawful old journal → IsLawful new journal
lawful_wider old new journal w h = record {
  whole = h.whole;
  within = h.within;
  steps_are = λ k s there. step_wider old new (take k (steps journal)) s w (λ i t at. all_arrive old journal h i t (get_taken (steps journal) k i t at)) (h.steps_are k s there);
}

pub journal_ticked : (old new : Seen) (journal : List Entry) (peer : Addr) (bearer least : ℕ) → Widens old new → IsLawful old journal → HasTicked old (steps journal) peer bearer least → HasTicked new (steps journal) peer bearer least
journal_ticked old new journal peer bearer least w h t = ticked_wider old new (steps journal) peer bearer least w (all_arrive old journal h) t

-- ---- one more step

pub lawful_more : (seen : Seen) (journal : List Entry) (s : NodeStep) → IsLawful seen journal → IsInside s.inside → IsLawfulStep seen (steps journal) (record { before = journal; step = s }) → IsLawful seen (journal ++ step_entries s)
lawful_more seen journal s h inside new =
    let last : PlacedStep = record { before = journal; step = s } in
    let all = steps_more journal s h.whole inside in record {
      whole = IsWhole_more journal s h.whole inside;
      within = within_more seen (steps journal) journal s h.within new;
      steps_are = λ k t there.
          subst (λ made. IsLawfulStep seen (take k made) t) (sym all)
          (one_more (steps journal) last t k (IsLawfulStep seen (take k (steps journal ++ last ∷ [])) t) (subst (λ made. slice_get made k ≡ Some t) all there)
          (λ old below. subst (λ made. IsLawfulStep seen made t) (sym (take-append-le k (steps journal) (last ∷ []) (omega (arith, below)))) (h.steps_are k t old))
          (λ at same. subst (λ n. IsLawfulStep seen (take n (steps journal ++ last ∷ [])) t) (sym at)
          (subst (λ made. IsLawfulStep seen made t) (sym (take-append_seam (steps journal) (last ∷ []))) (subst (IsLawfulStep seen (steps journal)) same new))));
    }

pub ticked_more : (seen : Seen) (made : List PlacedStep) (x : PlacedStep) (peer : Addr) (bearer least least' : ℕ) → HasTicked seen made peer bearer least → (BringsUp x.step peer bearer ⊎ IsTakenFrom seen x.step peer bearer → least' ≡ 0)
    → least' ≤ least + tick_of x.step.event → HasTicked seen (made ++ x ∷ []) peer bearer least'
unfolding ticks
ticked_more seen made x peer bearer least least' h new most k s there heard =
    one_more made x s k (least' ≤ ticks (drop (k + 1) (made ++ x ∷ []))) there
    (λ old below.
    let tick : PlacedStep → ℕ = λ (t : PlacedStep). tick_of t.step.event in
    let before = h k s old heard in
    let tail : ticks (drop (k + 1) (made ++ x ∷ [])) ≡ ticks (drop (k + 1) made) + ticks (x ∷ []) = ap ticks (drop-append-le (k + 1) made (x ∷ []) (omega (arith, below))) ∙ sum_by-append tick (drop (k + 1) made) (x ∷ []) in
    let one : ticks (x ∷ []) ≡ tick_of x.step.event = omega arith in
    omega (arith, before, tail, one, most))
    (λ at same. let none = new (subst (λ (t : PlacedStep). BringsUp t.step peer bearer ⊎ IsTakenFrom seen t.step peer bearer) (sym same) heard) in omega (arith, none))
