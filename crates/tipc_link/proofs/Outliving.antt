-- A receiving record outlives the session of its sender.
use Rattle.std.proofs.Common.{◌≡◌, ℕ, ◌+◌, ◌-◌, ◌<◌, ◌≤◌, ◌&&◌, ◌==◌, if◌then◌else◌, Bool, true, false, nat_lt, List, ◌∷◌, Option, Some, None, length, map, take, drop, slice_get, suc, refl, sym, ap, ◌∙◌, subst, arith, length-drop, length-take}
use Rattle.std.specs.Prelude.{slice_index_or}
use Rattle.std.proofs.lemmas.Bool.{eqb-true}
use Rattle.std.proofs.lemmas.Bool.Decides.{nat_tests}
use Rattle.std.proofs.lemmas.List.{drop-drop, drop_more, length-map}
use Rattle.std.proofs.lemmas.Option.{get_or_from_slice_get, slice_get_within}
use Rattle.tipc_types.specs.Position.{number_of}
use Rattle.tipc_types.specs.declared.link_words.Why.TheVariants as why
use Rattle.tipc_types.specs.declared.packet_lists.Taken.{Taken}
use Rattle.tipc_types.proofs.PositionLaws.{same_position}
use Rattle.tipc_recv_window.specs.declared.outcomes.LinkOutcome.{LinkOutcome}
use Rattle.tipc_recv_window.specs.Receiving.{run_of}
use Rattle.tipc_recv_window.proofs.Runs.{run_leaves}
use Rattle.tipc_link.specs.Records.{Received, advanced_by, freed, is_next, tunnelled, tunnelled_outcome, unheard}
use Rattle.tipc_link.specs.Sessions.{brought, took}
use Rattle.tipc_link.specs.Direction.{IsReceiver}
use Rattle.tipc_link.specs.Outliving.{FramesStayOf, IsLate, IsOf, JoinedAreOf, NamesNeverLower, OwnEpochKeeps, TunnelsStayOf, TunnelsTakeNext}
use Rattle.tipc_link.proofs.Directions.{Holds, holds_drained, run_is, takes_near}
use Rattle.tipc_link.proofs.Takings.{named_below}

pub joined_of : JoinedAreOf
joined_of a b h =
    let d = h.there.direction in
    let window = d.window in
    let count = d.count in
    let below = d.below in
    let acked = d.acked_taken in
    record { receiver = h.there.receiver; within = omega (arith, d.taken_numbered); near = omega arith }

-- ---- a packet through the other link

-- the wanted packet is taken, with those behind it that are held
pub record IsFreed (r : Received) (line : List (List ℕ)) (t : Taken) : Type 0 where
  pub receiver : IsReceiver (advanced_by r t).held (advanced_by r t).taken line
  pub within : (advanced_by r t).taken ≤ length line
  -- behind it stand those that were held
  pub behind : take (length (run_of (drop 1 r.held))) (drop (r.taken + 1) line) ≡ map (λ (u : Taken). u.packet) (run_of (drop 1 r.held))

pub frees : (r : Received) (line : List (List ℕ)) (t : Taken) → IsReceiver r.held r.taken line → r.taken < length line → IsFreed r line t
unfolding Holds
frees r line t h more =
    let rest = drop 1 r.held in
    let n = length (run_of rest) in
    let later : Holds rest (r.taken + 1) line = holds_drained r.held 1 r.taken line h.holds in
    let next : take n (drop (r.taken + 1) line) ≡ map (λ (u : Taken). u.packet) (run_of rest) = run_is rest (r.taken + 1) line later in
    let long : length (take n (drop (r.taken + 1) line)) ≡ n = ap length next ∙ length-map (run_of rest) (λ (u : Taken). u.packet) in
    let within : r.taken + suc n ≤ length line = omega (arith, long, length-take n (drop (r.taken + 1) line), length-drop (r.taken + 1) line, more) in
    let left : drop n rest ≡ drop (suc n) r.held = drop-drop n 1 r.held ∙ ap (λ k. drop k r.held) (let same : 1 + n ≡ suc n = omega arith in same) in
    record {
      receiver = record {
        window = omega (arith, length-drop (suc n) r.held, h.window);
        wants = ap (λ (xs : List (Option Taken)). slice_index_or xs 0 None) (sym left) ∙ run_leaves rest;
        holds = holds_drained r.held (suc n) r.taken line h.holds;
      };
      within = within;
      behind = next;
    }

-- of this epoch, and of the wanted position
next_at : (r : Received) (line : List (List ℕ)) (epoch : ℕ) (t : Taken) → IsOf r line → (l : IsLate line t) → is_next r epoch t ≡ true → l.position ≡ r.taken + 1
unfolding is_next
next_at r line epoch t h l next =
    let number : (t.number == number_of (r.taken + 1)) ≡ true = and_second (epoch == r.epoch) (t.number == number_of (r.taken + 1)) next in
    let same : number_of l.position ≡ number_of (r.taken + 1) = sym l.number_is ∙ eqb-true t.number (number_of (r.taken + 1)) number in
    let near = h.near in
    let within = h.within in
    let sent = l.sent in
    let recent = l.recent in
    same_position l.position (r.taken + 1) (omega arith) (omega arith) same
  where
    and_second : (b c : Bool) → (b && c) ≡ true → c ≡ true
    and_second true c is = is
    and_second false c is = absurd (let no : ⊥ = cc in no)

tunnels_of : (r : Received) (line : List (List ℕ)) (epoch : ℕ) (t : Taken) → IsOf r line → IsLate line t → IsOf (tunnelled r epoch t) line
tunnels_of r line epoch t h l = elim (is_next r epoch t) as (λ b. is_next r epoch t ≡ b → IsOf (if b then advanced_by r t else r) line) [
  | true ↦ λ next.
      let at = next_at r line epoch t h l next in
      let sent = l.sent in
      let near = h.near in
      let now = frees r line t h.receiver (omega arith) in
      record { receiver = now.receiver; within = now.within; near = omega arith }
  | false ↦ λ other. h
] refl

pub tunnels_stay : TunnelsStayOf
tunnels_stay r line epoch t h low l = subst (λ (x : Received). IsOf (tunnelled x epoch t) line) (sym (named_below r epoch low)) (tunnels_of r line epoch t h l)

next_packets : (r : Received) (line : List (List ℕ)) (epoch : ℕ) (t : Taken) (due : List Taken) → IsOf r line → (l : IsLate line t) → slice_get line (l.position - 1) ≡ Some t.packet → tunnelled_outcome r epoch t ≡ LinkOutcome.Took due
    → take (length due) (drop r.taken line) ≡ map (λ (u : Taken). u.packet) due
next_packets r line epoch t due h l there = elim (is_next r epoch t) as (λ b. is_next r epoch t ≡ b → (if b then LinkOutcome.Took (freed r t) else LinkOutcome.Ignored why.Old) ≡ LinkOutcome.Took due → take (length due) (drop r.taken line) ≡ map (λ (u : Taken). u.packet) due) [
  | true ↦ λ next is.
      let same : freed r t ≡ due = cc in
      let at = next_at r line epoch t h l next in
      let place : l.position - 1 ≡ r.taken = omega arith in
      let first : slice_get line r.taken ≡ Some t.packet = subst (λ i. slice_get line i ≡ Some t.packet) place there in
      let within : r.taken < length line = slice_get_within line r.taken t.packet first in
      let split : drop r.taken line ≡ t.packet ∷ drop (r.taken + 1) line = drop_more line r.taken t.packet within ∙ ap (λ p. p ∷ drop (r.taken + 1) line) (get_or_from_slice_get line r.taken t.packet t.packet first) in
      let n = length (run_of (drop 1 r.held)) in
      let now = frees r line t h.receiver within in
      let all : take (length (freed r t)) (drop r.taken line) ≡ map (λ (u : Taken). u.packet) (freed r t) = ap (λ xs. take (suc n) xs) split ∙ ap (λ xs. t.packet ∷ xs) now.behind in
      subst (λ (us : List Taken). take (length us) (drop r.taken line) ≡ map (λ (u : Taken). u.packet) us) same all
  | false ↦ λ other is. absurd (let no : ⊥ = cc in no)
] refl

pub tunnels_take : TunnelsTakeNext
tunnels_take r line epoch t due h low l there is =
    next_packets r line epoch t due h l there (ap (λ (x : Received). tunnelled_outcome x epoch t) (sym (named_below r epoch low)) ∙ is)

-- ---- a frame of the session itself

pub frames_stay : FramesStayOf
frames_stay e line numbered number by packet h so_far fresh c =
    let near = h.near in
    let within = h.within in
    let recent = c.recent in
    let sent = c.sent in
    let now = takes_near e line (brought number packet by) h.within h.receiver (record { position = c.position; positive = c.positive; number_is = c.number_is; near = omega arith; recent = omega arith; packet_is = c.packet_is }) in
    let more : e.taken ≤ (took e (brought number packet by)).taken = omega arith in
    record { receiver = now.receiver; within = now.within; near = omega arith }

-- ---- the record's epoch

pub own_keeps : OwnEpochKeeps
own_keeps r =
    let same : (r.epoch == r.epoch) ≡ true = grind (arith, nat_tests) in
    rw same refl

pub names_rise : NamesNeverLower
names_rise r epoch = elim (nat_lt r.epoch epoch) as (λ b. nat_lt r.epoch epoch ≡ b → r.epoch ≤ (if b then unheard epoch else r).epoch) [
  | true ↦ λ above. let higher : r.epoch < epoch = grind (arith, nat_tests) in omega arith
  | false ↦ λ below. omega arith
] refl
