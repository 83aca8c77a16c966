-- What a packet makes of a window in which the wanted one isn't held.
use Rattle.std.proofs.Common.{◌≡◌, ◌≢◌, ℕ, ◌+◌, ◌-◌, ◌<◌, ◌≤◌, ◌^◌, ◌==◌, if◌then◌else◌, Bool, true, false, List, [], ◌∷◌, ◌++◌, length, drop, Option, Some, None, refl, sym, ap, ◌∙◌, arith, append-nil}
use Rattle.std.specs.Prelude.{replicate, slice_index_or, slice_set}
use Rattle.std.proofs.lemmas.Bool.{eqb-true}
use Rattle.std.proofs.lemmas.Bool.Decides.{nat_tests}
use Rattle.std.proofs.lemmas.List.{drop-drop, get_or-drop, length-drop}
use Rattle.tipc_types.specs.Position.{number_of}
use Rattle.tipc_types.specs.declared.packet_lists.Taken.{Taken}
use Rattle.tipc_recv_window.specs.declared.outcomes.Place.{Place}
use Rattle.tipc_recv_window.specs.declared.outcomes.Place.TheVariants.{InOrder, Deferred, Old}
use Rattle.tipc_types.proofs.PositionLaws.{distance_of-reaches}
use Rattle.tipc_recv_window.specs.Receiving.{Coming, arrived_at, coming, deferred_at, drained, filled, is_new, IsReceiving, next_of, past_wanted, place_at, Receiving, run_of, with_packet}
use Rattle.tipc_recv_window.proofs.Holding.{IsReceiving-filled, filled-other, filled-same, length-filled}
use Rattle.tipc_recv_window.proofs.Runs.{run_first, run_none}

-- the first place of a list is another one
others_stay : (held : List (Option Taken)) (packet : Option Taken) → drop 1 (slice_set held 0 packet) ≡ drop 1 held
others_stay [] packet = refl
others_stay (first ∷ held) packet = refl

-- no place is made where there is one
no_more : (held : List (Option Taken)) → drop 1 (held ++ replicate (0 + 1 - length held) None) ≡ drop 1 held
no_more [] = refl
no_more (first ∷ held) =
    let none : 0 + 1 - length (first ∷ held) ≡ 0 = omega arith in
    ap (λ n. held ++ replicate n None) none ∙ append-nil held

-- where the wanted packet is held, the others stay
pub drop-filled : (held : List (Option Taken)) (packet : Taken) → drop 1 (filled held 0 packet) ≡ drop 1 held
drop-filled held packet = others_stay (held ++ replicate (0 + 1 - length held) None) (Some packet) ∙ no_more held

run_filled : (held : List (Option Taken)) (packet : Taken) → run_of (filled held 0 packet) ≡ packet ∷ run_of (drop 1 held)
run_filled held packet = run_first (filled held 0 packet) packet (filled-same held 0 packet) ∙ ap (λ xs. packet ∷ run_of xs) (drop-filled held packet)

-- a run isn't longer than the list
pub run_within : (held : List (Option Taken)) → length (run_of held) ≤ length held
run_within [] = omega arith
run_within (None ∷ held) = omega arith
run_within (Some packet ∷ held) = let more = run_within held in omega arith

pub due_by : (new first : Bool) (r : Receiving) (d : ℕ) (packet : Taken) → new ≡ is_new r d → first ≡ (d == 0) → next_of r ≡ None
    → (if new then (if first then InOrder else Deferred) else Old) ≡ InOrder → run_of (if new then record { wanted = r.wanted; held = filled r.held d packet } else r).held ≡ packet ∷ run_of (drop 1 r.held)
due_by true true r d packet new first free is =
    let zero : d ≡ 0 = eqb-true d 0 (sym first) in
    ap (λ n. run_of (filled r.held n packet)) zero ∙ run_filled r.held packet
due_by true false r d packet new first free is = absurd (let none : ⊥ = cc in none)
due_by false first r d packet new at free is = absurd (let none : ⊥ = cc in none)

-- the wanted packet is due, and what is held behind it
pub due_in_order : (r : Receiving) (d : ℕ) (packet : Taken) → next_of r ≡ None → place_at r d ≡ InOrder → run_of (arrived_at r d packet).held ≡ packet ∷ run_of (drop 1 r.held)
due_in_order r d packet free is = due_by (is_new r d) (d == 0) r d packet refl refl free is

none_by : (new first : Bool) (r : Receiving) (d : ℕ) (packet : Taken) → new ≡ is_new r d → first ≡ (d == 0) → next_of r ≡ None
    → ((if new then (if first then InOrder else Deferred) else Old) ≡ InOrder → ⊥) → run_of (if new then record { wanted = r.wanted; held = filled r.held d packet } else r).held ≡ []
none_by true true r d packet new first free other = absurd (other refl)
none_by true false r d packet new first free other =
    let apart : 0 ≢ d = grind (arith, nat_tests) in
    run_none (filled r.held d packet) (filled-other r.held d 0 packet apart ∙ free)
none_by false first r d packet new at free other = run_none r.held free

-- nothing else is due
pub due_none : (r : Receiving) (d : ℕ) (packet : Taken) → next_of r ≡ None → (place_at r d ≡ InOrder → ⊥) → run_of (arrived_at r d packet).held ≡ []
due_none r d packet free other = none_by (is_new r d) (d == 0) r d packet refl refl free other

passes_by : (new first : Bool) (r : Receiving) (d : ℕ) (packet : Taken) → new ≡ is_new r d → first ≡ (d == 0) → next_of r ≡ None
    → deferred_at (if new then (if first then InOrder else Deferred) else Old) packet ≡ None
    → (let after : Receiving = if new then record { wanted = r.wanted; held = filled r.held d packet } else r in record { wanted = r.wanted + length (run_of after.held); held = drop (length (run_of after.held)) r.held } ≡ drained after)
passes_by true true r d packet new first free none =
    let zero : d ≡ 0 = eqb-true d 0 (sym first) in
    let run : run_of (filled r.held d packet) ≡ packet ∷ run_of (drop 1 r.held) = ap (λ n. run_of (filled r.held n packet)) zero ∙ run_filled r.held packet in
    let long : length (run_of (filled r.held d packet)) ≡ length (run_of (drop 1 r.held)) + 1 = ap length run ∙ omega arith in
    let others : drop 1 (filled r.held d packet) ≡ drop 1 r.held = ap (λ n. drop 1 (filled r.held n packet)) zero ∙ drop-filled r.held packet in
    let n : ℕ = length (run_of (drop 1 r.held)) in
    let same : drop (length (run_of (filled r.held d packet))) r.held ≡ drop (length (run_of (filled r.held d packet))) (filled r.held d packet) =
    ap (λ k. drop k r.held) (long ∙ omega arith) ∙ sym (drop-drop n 1 r.held) ∙ ap (drop n) (sym others) ∙ drop-drop n 1 (filled r.held d packet) ∙ ap (λ k. drop k (filled r.held d packet)) (sym (long ∙ omega arith)) in
    ap (λ xs. record { wanted = r.wanted + length (run_of (filled r.held d packet)); held = xs }) same
passes_by true false r d packet new first free none = absurd (let no : ⊥ = cc in no)
passes_by false first r d packet new at free none = refl

-- where nothing is deferred, what is due leaves the window
pub passes : (r : Receiving) (d : ℕ) (packet : Taken) → next_of r ≡ None → deferred_at (place_at r d) packet ≡ None
    → record { wanted = r.wanted + length (run_of (arrived_at r d packet).held); held = drop (length (run_of (arrived_at r d packet).held)) r.held } ≡ drained (arrived_at r d packet)
passes r d packet free none = passes_by (is_new r d) (d == 0) r d packet refl refl free none

pub record IsHeld (r : Receiving) (d : ℕ) (packet held : Taken) (after : Receiving) : Type 0 where
  pub same : held ≡ packet
  pub near : d < 50
  pub after_is : record { wanted = r.wanted; held = filled r.held d packet } ≡ drained after

holds_by : (new first : Bool) (r : Receiving) (d : ℕ) (packet held : Taken) → new ≡ is_new r d → first ≡ (d == 0) → next_of r ≡ None
    → deferred_at (if new then (if first then InOrder else Deferred) else Old) packet ≡ Some held
    → IsHeld r d packet held (if new then record { wanted = r.wanted; held = filled r.held d packet } else r)
holds_by true true r d packet held new first free is = absurd (let none : ⊥ = cc in none)
holds_by true false r d packet held new first free is =
    let none : run_of (filled r.held d packet) ≡ [] = none_by true false r d packet new first free (λ e. let no : ⊥ = cc in no) in
    let same : held ≡ packet = cc in
    let near : d < 50 = grind (arith, nat_tests) in
    let wanted : r.wanted ≡ r.wanted + length (run_of (filled r.held d packet)) = omega (arith, ap length none) in
    record {
      same = same;
      near = near;
      after_is = ap (λ n. record { wanted = n; held = filled r.held d packet }) wanted ∙ ap (λ xs. record { wanted = r.wanted + length (run_of (filled r.held d packet)); held = drop (length xs) (filled r.held d packet) }) (sym none);
    }
holds_by false first r d packet held new at free is = absurd (let none : ⊥ = cc in none)

-- a deferred packet is held, and nothing leaves the window
pub holds : (r : Receiving) (d : ℕ) (packet held : Taken) → next_of r ≡ None → deferred_at (place_at r d) packet ≡ Some held → IsHeld r d packet held (arrived_at r d packet)
holds r d packet held free is = holds_by (is_new r d) (d == 0) r d packet held refl refl free is

most_by : (new first : Bool) (r : Receiving) (d : ℕ) (packet : Taken) → new ≡ is_new r d → first ≡ (d == 0) → IsReceiving r
    → length (run_of (if new then record { wanted = r.wanted; held = filled r.held d packet } else r).held) ≤ 50
most_by true first r d packet new at h =
    let near : d < 50 = grind (arith, nat_tests) in
    let window = h.window in
    omega (arith, run_within (filled r.held d packet), length-filled r.held d packet)
most_by false first r d packet new at h = let window = h.window in omega (arith, run_within r.held)

-- at most a window's packets are due
pub due_most : (r : Receiving) (d : ℕ) (packet : Taken) → IsReceiving r → length (run_of (arrived_at r d packet).held) ≤ 50
due_most r d packet h = most_by (is_new r d) (d == 0) r d packet refl refl h

-- a window keeps its facts where its first packets were taken
pub IsReceiving-passed : (r : Receiving) (count : ℕ) (held : List (Option Taken)) → held ≡ drop count r.held → count ≤ 50 → r.wanted + 50 ≤ 2 ^ 62
    → IsReceiving r → IsReceiving (record { wanted = r.wanted + count; held = held })
IsReceiving-passed r count held is few counted h =
    let window = h.window in
    let low = h.counted in
    let long : length held ≡ length r.held - count = ap length is ∙ length-drop count r.held in
    record {
      window = omega arith;
      counted = omega arith;
      numbers = λ d packet at.
          let there : slice_index_or r.held (count + d) None ≡ Some packet = sym (ap (λ (xs : List (Option Taken)). slice_index_or xs d None) is ∙ get_or-drop count r.held d None) ∙ at in
          h.numbers (count + d) packet there ∙ ap number_of (let sum : r.wanted + (count + d) ≡ r.wanted + count + d = omega arith in sum);
    }

-- a window keeps its facts where a packet is held at its distance
pub IsReceiving-held : (r : Receiving) (d : ℕ) (packet : Taken) (held : List (Option Taken)) → held ≡ filled r.held d packet → d ≡ past_wanted r packet.number → packet.number < 2 ^ 16
    → d < 50 → r.wanted + 50 ≤ 2 ^ 62 → IsReceiving r → IsReceiving (record { wanted = r.wanted; held = held })
IsReceiving-held r d packet held is past fits near counted h =
    let number : packet.number ≡ number_of (r.wanted + d) = sym (ap (λ n. number_of (r.wanted + n)) past ∙ distance_of-reaches r.wanted packet.number fits) in
    rw is (IsReceiving-filled r d packet near counted number h)

-- what a deferred packet will make of a window
pub coming_deferred : (r : Receiving) (d : ℕ) (packet : Taken) → next_of r ≡ None → d ≡ past_wanted r packet.number → Deferred ≡ place_at r d
    → record { wanted = r.wanted; place = Deferred; held = Some packet; count = 0 } ≡ coming r packet
coming_deferred r d packet free past place =
    let at : Deferred ≡ place_at r (past_wanted r packet.number) = place ∙ ap (place_at r) past in
    let none : run_of (with_packet r packet).held ≡ [] = due_none r (past_wanted r packet.number) packet free (λ e. let first : Deferred ≡ InOrder = at ∙ e in let no : ⊥ = cc in no) in
    ap (λ (p : Place). let c : Coming = record { wanted = r.wanted; place = p; held = deferred_at p packet; count = 0 } in c) at
    ∙ ap (λ (n : ℕ). let c : Coming = record { wanted = r.wanted; place = place_at r (past_wanted r packet.number); held = deferred_at (place_at r (past_wanted r packet.number)) packet; count = n } in c) (sym (ap length none))

-- and nothing is due then
pub due_deferred : (r : Receiving) (d : ℕ) (packet : Taken) → next_of r ≡ None → d ≡ past_wanted r packet.number → Deferred ≡ place_at r d → [] ≡ run_of (with_packet r packet).held
due_deferred r d packet free past place =
    let at : Deferred ≡ place_at r (past_wanted r packet.number) = place ∙ ap (place_at r) past in
    sym (due_none r (past_wanted r packet.number) packet free (λ e. let first : Deferred ≡ InOrder = at ∙ e in let no : ⊥ = cc in no))

-- a packet that is told to be held is
pub held_commits : (r : Receiving) (packet held : Taken) (a : Coming) (after : Receiving) → next_of r ≡ None → a ≡ coming r packet → a.held ≡ Some held
    → after ≡ record { wanted = r.wanted; held = filled r.held (past_wanted r held.number) held } → after ≡ drained (with_packet r packet)
held_commits r packet held a after free is some made =
    let told : deferred_at (place_at r (past_wanted r packet.number)) packet ≡ Some held = sym (ap (λ (x : Coming). x.held) is) ∙ some in
    let h = holds r (past_wanted r packet.number) packet held free told in
    made ∙ ap (λ (p : Taken). let s : Receiving = record { wanted = r.wanted; held = filled r.held (past_wanted r p.number) p } in s) h.same ∙ h.after_is

-- and it is near
pub held_near : (r : Receiving) (packet held : Taken) (a : Coming) → next_of r ≡ None → a ≡ coming r packet → a.held ≡ Some held → past_wanted r held.number < 50
held_near r packet held a free is some =
    let told : deferred_at (place_at r (past_wanted r packet.number)) packet ≡ Some held = sym (ap (λ (x : Coming). x.held) is) ∙ some in
    let h = holds r (past_wanted r packet.number) packet held free told in
    rw (h.same) (h.near)

-- so the packets that are due with the wanted one are few
pub due_few : (r : Receiving) (d : ℕ) (packet : Taken) → next_of r ≡ None → InOrder ≡ place_at r d → IsReceiving r → length (packet ∷ run_of (drop 1 r.held)) ≤ 50
due_few r d packet free place h = omega (arith, ap length (due_in_order r d packet free (sym place)), due_most r d packet h)

-- where no packet is to be held, those that can be taken leave the window
pub none_commits : (r : Receiving) (packet : Taken) (a : Coming) (after : Receiving) → next_of r ≡ None → a ≡ coming r packet → a.held ≡ None
    → after ≡ record { wanted = r.wanted + a.count; held = drop a.count r.held } → after ≡ drained (with_packet r packet)
none_commits r packet a after free is none made =
    let told : deferred_at (place_at r (past_wanted r packet.number)) packet ≡ None = sym (ap (λ (x : Coming). x.held) is) ∙ none in
    made ∙ (ap (λ (x : Coming). let s : Receiving = record { wanted = r.wanted + x.count; held = drop x.count r.held } in s) is ∙ passes r (past_wanted r packet.number) packet free told)

-- a packet that stands first in a list
pub some_stands : (held : List (Option Taken)) (packet : Taken) → slice_index_or held 0 None ≡ Some packet → 0 < length held
some_stands [] packet is = absurd (let none : ⊥ = cc in none)
some_stands (first ∷ held) packet is = omega arith
