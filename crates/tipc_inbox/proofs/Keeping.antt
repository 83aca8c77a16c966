-- The steps at the queue of an inbox keep its rule.
use Rattle.std.proofs.Common.{◌≡◌, ◌≢◌, ℕ, zero, suc, ◌+◌, ◌≤◌, true, false, true≢false, List, [], ◌∷◌, ◌++◌, length, set, ◌⊎◌, inl, inr, sym, refl, ap, subst, ◌∙◌, ⊎_elim, append_assoc, arith}
use Rattle.std.proofs.lemmas.List.{length-append}
use mathlib.Core.Option.{some, some-injective, some-ne-none}
use lib.ListN.{get_elem?}
use Rattle.crossbeam_queue.specs.Fifo.{Forks, Learns, Merges, Pops, Pushes}
use Rattle.crossbeam_queue.proofs.Lists.{at_set}
use Rattle.tipc_types.specs.declared.message_forms.Message.{Message}
use Rattle.tipc_inbox.specs.declared.rule.Log.{Log}
use Rattle.tipc_inbox.specs.Turns.{idle, log, GivesInTurn, InTurn, TakesInTurn}

-- ---- facts of each end, when the view of one changes or one comes

abbrev Each : (ℕ → Log → Type 0) → List Log → Type 0
Each F views = (end : ℕ) (v : Log) → get_elem? views end ≡ some v → F end v

each_set : (F : ℕ → Log → Type 0) (views : List Log) (i : ℕ) (w : Log) → F i w → ((j : ℕ) (u : Log) → j ≢ i → get_elem? views j ≡ some u → F j u) → Each F (set views i w)
each_set F views i w mine others j u at =
    ⊎_elim (λ (e : (j ≡ i) × (w ≡ u)). subst (λ (y : ℕ × Log). F y.0 y.1) (λ k. (sym e.0 k, e.1 k)) mine) (λ e. others j u e.0 e.1) (at_set views i j w u at)

at_end : (views : List Log) (w : Log) (j : ℕ) (u : Log) → get_elem? (views ++ w ∷ []) j ≡ some u → (get_elem? views j ≡ some u) ⊎ ((j ≡ length views) × (w ≡ u))
at_end [] w zero u at = inr (refl, some-injective w u at)
at_end [] w (suc j) u at = absurd (some-ne-none u (sym at))
at_end (v ∷ views) w zero u at = inl at
at_end (v ∷ views) w (suc j) u at = ⊎_elim inl (λ e. inr (ap suc e.0, e.1)) (at_end views w j u at)

each_more : (F : ℕ → Log → Type 0) (views : List Log) (w : Log) → Each F views → F (length views) w → Each F (views ++ w ∷ [])
each_more F views w all last j u at =
    ⊎_elim (all j u) (λ (e : (j ≡ length views) × (w ≡ u)). subst (λ (y : ℕ × Log). F y.0 y.1) (λ k. (sym e.0 k, e.1 k)) last) (at_end views w j u at)

-- what neither gives nor takes fits any state
no_gives : (v : Log) → v.gives ≡ false → (giver : ℕ) (offered taken : List Message) (end : ℕ) → GivesInTurn giver offered taken end v
no_gives v not giver offered taken end gives = absurd (true≢false (sym gives ∙ not))

no_takes : (v : Log) → v.takes ≡ false → (taker : ℕ) (offered taken : List Message) (end : ℕ) → TakesInTurn taker offered taken end v
no_takes v not taker offered taken end takes = absurd (true≢false (sym takes ∙ not))

-- ---- the steps

pub begins : InTurn [] (log true true [] [] 0 0 ∷ [])
begins = record {
  giver = 0;
  taker = 0;
  offered = [];
  taken = [];
  turn = refl;
  few = omega arith;
  gives = each_more (GivesInTurn 0 [] []) [] (log true true [] [] 0 0) (λ _ v at. absurd (some-ne-none v (sym at))) (λ _. (refl, refl, omega arith));
  takes = each_more (TakesInTurn 0 [] []) [] (log true true [] [] 0 0) (λ _ v at. absurd (some-ne-none v (sym at))) (λ _. (refl, refl, omega arith));
}

pub offers : (most i : ℕ) (v : Log) (m : Message) → most ≡ 128 → v.gives ≡ true
    → Pushes InTurn most i v m (λ w. w ≡ log v.gives v.takes (v.offered ++ m ∷ []) v.taken v.takings v.offers)
offers most i v m is may held views room h at =
    let w : Log = log v.gives v.takes (v.offered ++ m ∷ []) v.taken v.takings v.offers in
    let mine = h.gives i v at may in
    let offered = h.offered ++ m ∷ [] in
    let longer = length-append h.offered (m ∷ []) in (
      w,
      record {
        giver = h.giver;
        taker = h.taker;
        offered = offered;
        taken = h.taken;
        turn = ap (λ (xs : List Message). xs ++ m ∷ []) h.turn ∙ append_assoc h.taken held (m ∷ []);
        few = let longer = length-append held (m ∷ []) in omega (arith, longer, room, is);
        gives = each_set (GivesInTurn h.giver offered h.taken) views i w (λ _. (mine.0, ap (λ (xs : List Message). xs ++ m ∷ []) mine.1, mine.2))
            (λ j u other e gives. absurd (other ((h.gives j u e gives).0 ∙ sym mine.0)));
        takes = each_set (TakesInTurn h.taker offered h.taken) views i w (λ takes. let t = h.takes i v at takes in (t.0, t.1, let low = t.2 in omega (arith, low, longer)))
            (λ j u other e takes. let t = h.takes j u e takes in (t.0, t.1, let low = t.2 in omega (arith, low, longer)));
      },
      refl,
    )

pub takes : (i : ℕ) (v : Log) → v.takes ≡ true → Pops InTurn i v (λ m w. w ≡ log v.gives v.takes v.offered (v.taken ++ m ∷ []) v.takings v.offers)
takes i v may m held views h at =
    let w : Log = log v.gives v.takes v.offered (v.taken ++ m ∷ []) v.takings v.offers in
    let mine = h.takes i v at may in
    let taken = h.taken ++ m ∷ [] in
    let longer = length-append h.taken (m ∷ []) in (
      w,
      record {
        giver = h.giver;
        taker = h.taker;
        offered = h.offered;
        taken = taken;
        turn = h.turn ∙ sym (append_assoc h.taken (m ∷ []) held);
        few = let few = h.few in omega (arith, few);
        gives = each_set (GivesInTurn h.giver h.offered taken) views i w (λ gives. let g = h.gives i v at gives in (g.0, g.1, let low = g.2 in omega (arith, low, longer)))
            (λ j u other e gives. let g = h.gives j u e gives in (g.0, g.1, let low = g.2 in omega (arith, low, longer)));
        takes = each_set (TakesInTurn h.taker h.offered taken) views i w (λ _. (mine.0, ap (λ (xs : List Message). xs ++ m ∷ []) mine.1, mine.2))
            (λ j u other e takes. absurd (other ((h.takes j u e takes).0 ∙ sym mine.0)));
      },
      refl,
    )

-- the ends part, and each hears how much the other did
pub parts : (i : ℕ) (v : Log) → v.gives ≡ true → v.takes ≡ true
    → Forks InTurn i v (log true false v.offered [] (length v.taken) 0) (log false true [] v.taken 0 (length v.offered))
parts i v may may' held views h at =
    let l : Log = log true false v.offered [] (length v.taken) 0 in
    let r : Log = log false true [] v.taken 0 (length v.offered) in
    let g = h.gives i v at may in
    let t = h.takes i v at may' in
    let left = set views i l in record {
      giver = h.giver;
      taker = length left;
      offered = h.offered;
      taken = h.taken;
      turn = h.turn;
      few = h.few;
      gives = each_more (GivesInTurn h.giver h.offered h.taken) left r
          (each_set (GivesInTurn h.giver h.offered h.taken) views i l (λ _. (g.0, g.1, let all = ap (λ (xs : List Message). length xs) t.1 in omega (arith, all))) (λ j u other e. h.gives j u e))
          (no_gives r refl h.giver h.offered h.taken (length left));
      takes = each_more (TakesInTurn (length left) h.offered h.taken) left r
          (each_set (TakesInTurn (length left) h.offered h.taken) views i l (no_takes l refl (length left) h.offered h.taken i) (λ j u other e takes. absurd (other ((h.takes j u e takes).0 ∙ sym t.0))))
          (λ _. (refl, t.1, let all = ap (λ (xs : List Message). length xs) g.1 in omega (arith, all)));
    }

-- an end comes that may do nothing
pub spares : (i : ℕ) (v : Log) → Forks InTurn i v v idle
spares i v held views h at =
    record {
      giver = h.giver;
      taker = h.taker;
      offered = h.offered;
      taken = h.taken;
      turn = h.turn;
      few = h.few;
      gives = each_more (GivesInTurn h.giver h.offered h.taken) (set views i v) idle
          (each_set (GivesInTurn h.giver h.offered h.taken) views i v (h.gives i v at) (λ j u other e. h.gives j u e)) (no_gives idle refl h.giver h.offered h.taken _);
      takes = each_more (TakesInTurn h.taker h.offered h.taken) (set views i v) idle
          (each_set (TakesInTurn h.taker h.offered h.taken) views i v (h.takes i v at) (λ j u other e. h.takes j u e)) (no_takes idle refl h.taker h.offered h.taken _);
    }

-- the taker's end goes over to the giver's
pub unites : (i : ℕ) (v : Log) (j : ℕ) (u : Log) → v.gives ≡ true → u.takes ≡ true
    → Merges InTurn i v j u (log true true v.offered u.taken v.takings u.offers) idle
unites i v j u may may' held views h at apart at' =
    let both : Log = log true true v.offered u.taken v.takings u.offers in
    let was : get_elem? views j ≡ some u = ⊎_elim (λ e. absurd (apart e.0)) (λ e. e.1) (at_set views i j both u at') in
    let g = h.gives i v at may in
    let t = h.takes j u was may' in record {
      giver = h.giver;
      taker = i;
      offered = h.offered;
      taken = h.taken;
      turn = h.turn;
      few = h.few;
      gives = each_set (GivesInTurn h.giver h.offered h.taken) (set views i both) j idle (no_gives idle refl h.giver h.offered h.taken j)
          (λ k x _ e. each_set (GivesInTurn h.giver h.offered h.taken) views i both (λ _. g) (λ k x _ e. h.gives k x e) k x e);
      takes = each_set (TakesInTurn i h.offered h.taken) (set views i both) j idle (no_takes idle refl i h.offered h.taken j)
          (λ k x other e. each_set (λ k x. k ≢ j → TakesInTurn i h.offered h.taken k x) views i both (λ _ _. (refl, t.1, t.2))
          (λ k x _ e other takes. absurd (other ((h.takes k x e takes).0 ∙ sym t.0))) k x e other);
    }

-- ---- what the ends learn

pub fills : (i : ℕ) (v : Log) → v.gives ≡ true → Learns InTurn i v (λ held. v.takings + length held ≤ length v.offered)
fills i v may held views h at =
    let g = h.gives i v at may in
    let low = g.2 in
    let mine = ap (λ (xs : List Message). length xs) (g.1 ∙ h.turn) in
    let all = length-append h.taken held in
    omega (arith, low, mine, all)

pub empties : (i : ℕ) (v : Log) → v.takes ≡ true → Learns InTurn i v (λ held. v.offers ≤ length v.taken + length held)
empties i v may held views h at =
    let t = h.takes i v at may in
    let low = t.2 in
    let mine = ap (λ (xs : List Message). length xs) t.1 in
    let offered = ap (λ (xs : List Message). length xs) h.turn in
    let all = length-append h.taken held in
    omega (arith, low, mine, offered, all)
