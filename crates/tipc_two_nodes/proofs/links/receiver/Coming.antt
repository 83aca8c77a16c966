-- What a packet that came directly makes of the record of its session, and which packets can be taken then.
use Rattle.std.proofs.Common.{◌≡◌, ◌⊎◌, ℕ, zero, suc, ◌+◌, ◌≤◌, ◌&&◌, Bool, true, false, if◌then◌else◌, nat_lt, List, Option, Some, None, length, drop, refl, sym, ap, ◌∙◌, subst, inl, inr, arith}
use Rattle.std.specs.Prelude.{slice_index_or}
use Rattle.std.specs.List.{slice_get}
use Rattle.std.proofs.lemmas.Bool.{cases_Bool, cases_eq}
use Rattle.std.proofs.lemmas.Bool.Decides.{nat_tests}
use Rattle.tipc_types.specs.declared.packet_lists.Taken.{Taken}
use Rattle.tipc_recv_window.specs.Receiving.{Receiving, arrived_at, filled, is_new, past_wanted, run_of}
use Rattle.tipc_recv_window.proofs.Holding.{filled-other, filled-same}
use Rattle.tipc_link.specs.Records.{is_early_tunnel, is_tunnel}
use Rattle.tipc_link.specs.Sessions.{SessionEnd, brought, due_with, receiving, receiving_record, took, window_with}
use Rattle.tipc_link.specs.Outliving.{IsOf}
use Rattle.tipc_link.proofs.Directions.{IsTook, takes_near}
use Rattle.tipc_link.proofs.Standing.{arrived_early, standing_early, standing_plain}
use Rattle.tipc_changeover.specs.Links.{Receiver}
use Rattle.tipc_two_nodes.specs.links.Arriving.{Came, IsFramed}
use Rattle.tipc_two_nodes.specs.links.Receiving.{AreNext, IsSessionRecord}
use Rattle.tipc_two_nodes.specs.links.Traffic.{Lines}
use Rattle.tipc_two_nodes.proofs.links.receiver.Tunnelling.{drop_index, run_held, map_get as map_gets}
use Rattle.tipc_recv_window.proofs.Runs.{run_leaves as run_stops}

-- ---- what a window holds then

-- what it held before, or the packet, which is none that came too early
IsHeldThen : (r : Receiving) (t : Taken) (d : ℕ) (u : Taken) → Type 0
IsHeldThen r t d u = (slice_index_or r.held d None ≡ Some u) ⊎ ((u ≡ t) × (is_early_tunnel r t ≡ false) × (d ≡ past_wanted r t.number))

held_filled : (r : Receiving) (t : Taken) (d : ℕ) (u : Taken) → is_early_tunnel r t ≡ false → slice_index_or (filled r.held (past_wanted r t.number) t) d None ≡ Some u → IsHeldThen r t d u
unfolding IsHeldThen
held_filled r t d u plain there = elim (cases_eq d (past_wanted r t.number)) [
  | inl same ↦
      let at : slice_index_or (filled r.held (past_wanted r t.number) t) d None ≡ Some t = ap (λ k. slice_index_or (filled r.held (past_wanted r t.number) t) k None) same ∙ filled-same r.held (past_wanted r t.number) t in
      inr (let is : u ≡ t = cc in is, plain, same)
  | inr apart ↦ inl (sym (filled-other r.held (past_wanted r t.number) d t apart) ∙ there)
]

held_placed : (r : Receiving) (t : Taken) (d : ℕ) (u : Taken) → is_early_tunnel r t ≡ false → slice_index_or (arrived_at r (past_wanted r t.number) t).held d None ≡ Some u → IsHeldThen r t d u
unfolding IsHeldThen
held_placed r t d u plain = elim (is_new r (past_wanted r t.number)) as (λ b. slice_index_or (if b then record { wanted = r.wanted; held = filled r.held (past_wanted r t.number) t } else r).held d None ≡ Some u → IsHeldThen r t d u) [
  | true ↦ held_filled r t d u plain
  | false ↦ λ there. inl there
]

held_with : (s : SessionEnd) (t : Taken) (d : ℕ) (u : Taken) → slice_index_or (window_with s t).held d None ≡ Some u → IsHeldThen (receiving s) t d u
unfolding IsHeldThen
held_with s t d u there = elim (cases_Bool (is_early_tunnel (receiving s) t)) [
  | inl early ↦ inl (ap (λ (w : Receiving). slice_index_or w.held d None) (sym (arrived_early (receiving s) t (standing_early (receiving s) t early))) ∙ there)
  | inr plain ↦ held_placed (receiving s) t d u plain (ap (λ k. slice_index_or (arrived_at (receiving s) k t).held d None) (sym (standing_plain (receiving s) t plain)) ∙ there)
]

-- ---- which of it is plain

first_false : (b c : Bool) → (b && c) ≡ false → c ≡ true → b ≡ false
first_false true c both is = cc
first_false false c both is = refl

-- a packet behind the wanted place that came none too early is no tunnel packet
plain_behind : (r : Receiving) (t : Taken) (d : ℕ) → is_early_tunnel r t ≡ false → d ≡ past_wanted r t.number → 1 ≤ d → is_tunnel t.packet ≡ false
unfolding is_early_tunnel
plain_behind r t d plain at behind =
    let past : nat_lt 0 (past_wanted r t.number) ≡ true = grind (arith, nat_tests) in
    first_false (is_tunnel t.packet) (nat_lt 0 (past_wanted r t.number)) plain past

held_plain : (l : Lines) (s : SessionEnd) (r : Receiver) (t : Taken) (d : ℕ) (u : Taken) → IsSessionRecord l (receiving_record s) r → 1 ≤ length t.packet → IsHeldThen (receiving s) t d u → (1 ≤ d → is_tunnel u.packet ≡ false) × (1 ≤ length u.packet)
unfolding IsHeldThen
held_plain l s r t d u h long (inl before) = (let was = h.plain d u before in (λ behind. was.0, was.1))
held_plain l s r t d u h long (inr now) =
    (λ behind. ap (λ (w : Taken). is_tunnel w.packet) now.0 ∙ plain_behind (receiving s) t d now.1 now.2 behind, subst (λ (w : Taken). 1 ≤ length w.packet) (sym now.0) long)

-- ---- the packets that are due

due_held : (s : SessionEnd) (t : Taken) (k : ℕ) (u : Taken) → slice_get (due_with s t) k ≡ Some u → IsHeldThen (receiving s) t k u
unfolding due_with
due_held s t k u there = held_with s t k u (run_held (window_with s t).held k u there)

due_next : (l : Lines) (s : SessionEnd) (r : Receiver) (t : Taken) → IsSessionRecord l (receiving_record s) r → 1 ≤ length t.packet → IsTook s (l.line r.session) t → AreNext (l.line r.session) r.taken (due_with s t)
due_next l s r t h long now = record {
  stand = λ k packet there.
      (let u = map_gets (due_with s t) k packet there in
      let place : r.taken + k ≡ s.taken + k = ap (λ n. n + k) h.taken in
      ap (λ i. slice_get (l.line r.session) i) place ∙ (now.each k u.0 u.1 ∙ ap Some u.2));
  bytes = λ k u there plain. (held_plain l s r t k u h long (due_held s t k u there)).1;
  plain = λ k u there behind. (held_plain l s r t k u h long (due_held s t k u there)).0 behind;
}

-- ---- the record

-- what is left stands behind the wanted place
left_behind : (held : List (Option Taken)) (d : ℕ) (u : Taken) → slice_index_or (drop (length (run_of held)) held) d None ≡ Some u → 1 ≤ d
left_behind held zero u there = absurd (let none = run_stops held in let wrong : ⊥ = cc in wrong)
left_behind held (suc d) u there = omega arith

left_plain : (l : Lines) (s : SessionEnd) (r : Receiver) (t : Taken) (d : ℕ) (u : Taken) → IsSessionRecord l (receiving_record s) r → 1 ≤ length t.packet → slice_index_or (took s t).held d None ≡ Some u → (is_tunnel u.packet ≡ false) × (1 ≤ length u.packet)
unfolding due_with
left_plain l s r t d u h long there =
    let w = (window_with s t).held in
    let behind = left_behind w d u there in
    let place : slice_index_or w (length (run_of w) + d) None ≡ Some u = sym (drop_index (length (run_of w)) w d) ∙ there in
    let so = held_plain l s r t (length (run_of w) + d) u h long (held_with s t (length (run_of w) + d) u place) in
    (so.0 (omega arith), so.1)

pub comes : (l : Lines) (s : SessionEnd) (r : Receiver) (number by : ℕ) (packet : List ℕ) → IsSessionRecord l (receiving_record s) r → IsOf (receiving_record s) (l.line r.session) → IsFramed (l.line r.session) number packet
    → Came l s r (brought number packet by)
comes l s r number by packet h of f =
    let t = brought number packet by in
    let c = f.carried in
    let near = of.near in
    let within = of.within in
    let so_far = f.so_far in
    let fresh = f.fresh in
    let recent = c.recent in
    let sent = c.sent in
    let now = takes_near s (l.line r.session) t of.within of.receiver (record { position = c.position; positive = c.positive; number_is = c.number_is; near = omega arith; recent = omega arith; packet_is = c.packet_is }) in
    let more : s.taken ≤ (took s t).taken = omega arith in
    record {
      next = due_next l s r t h f.bytes now;
      record_is = record {
        begun = h.begun;
        epoch = h.epoch;
        taken = ap (λ n. n + length (due_with s t)) h.taken;
        holds = now.receiver;
        plain = λ d u there. left_plain l s r t d u h f.bytes there;
      };
      line = record { receiver = now.receiver; within = now.within; near = omega arith };
    }
