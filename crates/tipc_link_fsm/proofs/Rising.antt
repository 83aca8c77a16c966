use Rattle.std.proofs.Common.{◌≡◌, ℕ, zero, suc, ◌+◌, ◌<◌, ◌≤◌, arith, true, false, List, [], ◌∷◌, ◌++◌, length, cond, slice_index, ◌⊎◌, inl, inr, refl, sym, ◌∙◌, ap, subst, add-one}
use Rattle.std.proofs.lemmas.Bool.{true≢false}
use Rattle.std.specs.List.Sorted.{IsStrictlyIncreasing}
use Rattle.tipc_types.specs.LinkStates.{is_up}
use Rattle.tipc_link_fsm.specs.declared.changes.Change.{Change}
use Rattle.tipc_link_fsm.specs.declared.changes.Change.TheVariants.{Up}
use Rattle.tipc_link_fsm.specs.Ends.{IsSound}
use Rattle.tipc_link_fsm.specs.Table.{Fsm, is_last, next_epoch}
use Rattle.tipc_link_fsm.specs.Runs.{Call, outcome, GoesUp, epoch_up, epochs_up}
use Rattle.tipc_link_fsm.proofs.Moves.{stays, rises, falls, moves, is_going_up, is_up_in_reset}

-- the next epoch is no lower
next_epoch_le : (own : ℕ) → own ≤ next_epoch own
next_epoch_le own = elim (is_last own) as (λ b. own ≤ cond b own (own + 1)) [ true ↦ omega arith | false ↦ omega arith ]

-- no call lowers the own epoch
pub own_rises : (s : Fsm) (c : Call) → s.own ≤ (outcome s c).after.own
own_rises s c =
    elim (moves s c) as (λ _. s.own ≤ (outcome s c).after.own) [
      | stays own up change ↦ omega (arith, own)
      | rises es own rest up last shown peer going ↦ omega (arith, own)
      | falls own up change ↦ omega (arith, own, next_epoch_le s.own)
    ]

-- a call that takes a link up takes the epoch that its frame shows
pub goes_up : (s : Fsm) (c : Call) → (outcome s c).change ≡ Up → (es : ℕ) × GoesUp s c es
goes_up s c is =
    let going : is_going_up (outcome s c).change ≡ true = ap is_going_up is in
    elim (moves s c) as (λ _. (es : ℕ) × GoesUp s c es) [
      | stays own up change ↦ absurd (true≢false (sym going ∙ change))
      | rises es own rest up last shown peer change ↦
          (es, record { was_in_reset = rest; own_stays = own; goes_on = last; told = shown; taken = peer })
      | falls own up change ↦ absurd (true≢false (sym going ∙ change))
    ]

-- numbers of which the first is at least low, and each is above the one before it
RisesFrom : ℕ → List ℕ → Type 0
RisesFrom low [] = Unit {0}
RisesFrom low (x ∷ xs) = (low ≤ x) × RisesFrom (x + 1) xs

-- they rise place by place
RisesFrom_at : (x : ℕ) (xs : List ℕ) → RisesFrom (x + 1) xs → (k : ℕ) → k < length xs → slice_index (x ∷ xs) k < slice_index xs k
unfolding RisesFrom
RisesFrom_at x [] rising k inside = absurd (omega (arith, inside))
RisesFrom_at x (y ∷ ys) rising zero inside = omega (arith, rising.0)
RisesFrom_at x (y ∷ ys) rising (suc k) inside = RisesFrom_at y ys rising.1 k (omega (arith, inside))

-- so each is below the next
RisesFrom_increasing : (low : ℕ) (xs : List ℕ) → RisesFrom low xs → IsStrictlyIncreasing xs
unfolding RisesFrom
RisesFrom_increasing low [] rising = λ k inside. absurd (omega (arith, inside))
RisesFrom_increasing low (x ∷ xs) rising =
    λ k inside. rw (add-one k) (RisesFrom_at x xs rising.1 k (omega (arith, inside)))

-- a change that isn't Up shows no epoch
epoch_up_other : (change : Change) (own : ℕ) → is_going_up change ≡ false → epoch_up change own ≡ []
epoch_up_other Up own other = cc
epoch_up_other _ own other = refl

-- a change that is Up shows the own epoch
epoch_up_up : (change : Change) (own : ℕ) → is_going_up change ≡ true → epoch_up change own ≡ own ∷ []
epoch_up_up Up own going = refl
epoch_up_up _ own going = cc

-- an epoch that isn't the last is below the next
next_epoch_lt : (own : ℕ) → is_last own ≡ false → own < next_epoch own
next_epoch_lt own last = rw last (omega arith)

-- no later epoch at which an end goes up is below this number
IsPassed : Fsm → ℕ → Type 0
IsPassed s low = (low ≤ s.own) ⊎ ((is_up s.state ≡ true) × (low ≤ s.own + 1))

-- the epochs at which an end goes up rise, from each number that is passed
epochs_up_rise : (cs : List Call) (s : Fsm) (low : ℕ)
    → (is_up s.state ≡ true → is_last s.own ≡ false) → IsPassed s low → RisesFrom low (epochs_up s cs)
unfolding RisesFrom IsPassed
epochs_up_rise [] s low going_on passed = tt
epochs_up_rise (c ∷ cs) s low going_on passed =
    let next = (outcome s c).after in
    let change = (outcome s c).change in
    let G : List ℕ → Type 0 = λ front. RisesFrom low (front ++ epochs_up next cs) in
    elim (moves s c) as (λ _. G (epoch_up change next.own)) [
      | stays own up other ↦
          subst G (sym (epoch_up_other change next.own other))
          (epochs_up_rise cs next low
          (λ is. ap is_last own ∙ going_on (sym up ∙ is))
          (elim passed as (λ _. IsPassed next low) [ inl below ↦ inl (omega (arith, own, below)) | inr at ↦ inr (up ∙ at.0, omega (arith, own, at.1)) ]))
      | rises es own rest up last shown peer going ↦
          subst G (sym (epoch_up_up change next.own going)) (
            elim passed as (λ _. low ≤ next.own) [ inl below ↦ omega (arith, own, below) | inr at ↦ absurd (true≢false (sym at.0 ∙ is_up_in_reset s.state rest)) ],
            epochs_up_rise cs next (next.own + 1) (λ is. ap is_last own ∙ last) (inr (up, omega arith)),
          )
      | falls own down other ↦
          subst G (sym (epoch_up_other change next.own other))
          (epochs_up_rise cs next low
          (λ is. absurd (true≢false (sym is ∙ down)))
          (inl (elim passed as (λ _. low ≤ next.own) [
            | inl below ↦ omega (arith, own, below, next_epoch_le s.own)
            | inr at ↦ omega (arith, own, at.1, next_epoch_lt s.own (going_on at.0))
          ])))
    ]

-- each own epoch is up at most once
pub epochs_up_once : (s : Fsm) (cs : List Call) → IsSound s → IsStrictlyIncreasing (epochs_up s cs)
unfolding IsPassed
epochs_up_once s cs sound =
    RisesFrom_increasing 0 (epochs_up s cs) (epochs_up_rise cs s 0 sound.going_on (inl (omega arith)))
