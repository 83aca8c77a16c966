-- Fates behind one more entry, and behind one more whole step.
use Rattle.std.specs.List.{All}
use Rattle.std.proofs.Common.{◌≡◌, ℕ, Bool, true, false, List, [], ◌∷◌, ◌++◌, refl, sym, ◌∙◌, ap, subst, append_assoc, arith, true≢false}
use Rattle.std.proofs.lemmas.List.{append-nil}
use Rattle.std.proofs.lemmas.List.Elements.{All-push}
use Rattle.tipc_types.specs.declared.identity.Addr.{Addr}
use Rattle.tipc_types.specs.declared.message_forms.Flow.{Flow}
use Rattle.tipc_types.specs.declared.message_forms.Message.{Message}
use Rattle.tipc_types.specs.declared.message_forms.Message.TheVariants.{Payload, Items}
use Rattle.tipc_journal.specs.declared.entries.Entry.{Entry}
use Rattle.tipc_journal.specs.declared.entries.Entry.TheVariants.{Delivered, Queued, Returned, ReturnDropped}
use Rattle.tipc_journal.specs.Dues.{Due, NothingDue, FateDue, ReturnDue, due_behind, due_of_delivered, first_due}
use Rattle.tipc_journal.specs.Fates.{AllHaveFates, AllMayStand, HasFates, IsFate, IsPassedOn, MayStand, Scene, is_fate, scene_at}
use Rattle.tipc_journal.specs.Prefixes.{AllBehind}
use Rattle.tipc_journal.specs.Steps.{IsInside, IsWhole, NodeStep, PlacedStep, step_entries, steps}
use Rattle.tipc_journal.specs.Streams.{is_items}
use Rattle.tipc_journal.proofs.DueLaws.{due_behind_more}
use Rattle.tipc_journal.proofs.StepLaws.{steps_more, steps_nil}

-- one more element that is as it has to be behind all before it
pub AllBehind_more : {A : Type 0} (P : List A → A → Type 0) (before xs : List A) (x : A)
    → AllBehind P before xs → P (before ++ xs) x → AllBehind P before (xs ++ x ∷ [])
AllBehind_more P before [] x all one = (subst (λ w. P w x) (append-nil before) one, tt)
AllBehind_more {A} P before (y ∷ ys) x all one =
    (all.0, AllBehind_more P (before ++ y ∷ []) ys x all.1 (subst (λ (w : List A). P w x) (sym (append_assoc before (y ∷ []) ys)) one))

-- at the beginning of a step all may stand
pub AllMayStand_nil : (own : Addr) (J : List Entry) (d : Due) → AllMayStand own J d []
AllMayStand_nil own J d = tt

-- one more entry that may stand behind those of the step so far
pub AllMayStand_more : (own : Addr) (J : List Entry) (d : Due) (front : List Entry) (e : Entry)
    → AllMayStand own J d front → MayStand (scene_at own J d front) (due_behind own d front) e
    → AllMayStand own J d (front ++ e ∷ [])
AllMayStand_more own J d front e all one =
    AllBehind_more (λ so_far x. MayStand (scene_at own J d so_far) (due_behind own d so_far) x) [] front e all one

-- in an empty journal each message has its fate
pub AllHaveFates_nil : (own : Addr) → AllHaveFates own []
AllHaveFates_nil own = subst (λ (w : List PlacedStep). All (HasFates own) w) (sym steps_nil) (λ i d within. absurd (omega (arith, within)))

-- one more whole step in which each message has its fate
pub AllHaveFates_step : (own : Addr) (J : List Entry) (s : NodeStep) → IsWhole J → IsInside s.inside
    → AllHaveFates own J → HasFates own (record { before = J; step = s }) → AllHaveFates own (J ++ step_entries s)
AllHaveFates_step own J s whole clean all one =
    subst (λ (w : List PlacedStep). All (HasFates own) w) (sym (steps_more J s whole clean)) (All-push (HasFates own) (steps J) (record { before = J; step = s }) all one)

-- ---- what is due stands next

-- behind a front of elements that are as they have to be, the others are so too
AllBehind_rest : {A : Type 0} (P : List A → A → Type 0) (before xs ys : List A) → AllBehind P before (xs ++ ys) → AllBehind P (before ++ xs) ys
AllBehind_rest {A} P before [] ys all = subst (λ (w : List A). AllBehind P w ys) (sym (append-nil before)) all
AllBehind_rest {A} P before (x ∷ xs) ys all =
    subst (λ (w : List A). AllBehind P w ys) (append_assoc before (x ∷ []) xs) (AllBehind_rest P (before ++ x ∷ []) xs ys all.1)

-- in a step in which each message has its fate, each entry may stand where it stands
pub stands_there : (own : Addr) (p : PlacedStep) (front : List Entry) (e : Entry) (rest : List Entry) → HasFates own p
    → p.step.inside ≡ front ++ e ∷ rest
    → MayStand (scene_at own p.before (first_due own p.step.event p.step.answer) front) (due_behind own (first_due own p.step.event p.step.answer) front) e
stands_there own p front e rest fates is =
    let d : Due = first_due own p.step.event p.step.answer in
    let P : List Entry → Entry → Type 0 = λ so_far x. MayStand (scene_at own p.before d so_far) (due_behind own d so_far) x in
    (AllBehind_rest P [] front (e ∷ rest) (subst (λ (w : List Entry). AllBehind P [] w) is fates.each)).0

-- what is due behind entries of such a step stands next
pub due_next : (own : Addr) (p : PlacedStep) (front rest : List Entry) → HasFates own p
    → p.step.inside ≡ front ++ rest
    → (due_behind own (first_due own p.step.event p.step.answer) front ≡ NothingDue → ⊥)
    → (e : Entry) × (more : List Entry) × (rest ≡ e ∷ more)
    × MayStand (scene_at own p.before (first_due own p.step.event p.step.answer) front) (due_behind own (first_due own p.step.event p.step.answer) front) e
due_next own p front [] fates is due =
    absurd (due (ap (due_behind own (first_due own p.step.event p.step.answer)) (sym (append-nil front)) ∙ ap (due_behind own (first_due own p.step.event p.step.answer)) (sym is) ∙ fates.none_left))
due_next own p front (e ∷ more) fates is due = (e, more, refl, stands_there own p front e more fates is)

-- a message that was delivered has its fate next
delivered_due : (m : Message) → is_items m ≡ false → due_of_delivered m ≡ FateDue m true
delivered_due (Payload importance form from to kind lower upper code droppable body) h = refl
delivered_due (Items withdrawal items) h = absurd (true≢false h)

pub delivered_next : (own : Addr) (p : PlacedStep) (front : List Entry) (peer : Addr) (numbers : ℕ × ℕ) (flow : Flow) (m : Message) (by : List ℕ) (rest : List Entry)
    → HasFates own p → is_items m ≡ false
    → p.step.inside ≡ front ++ Delivered peer numbers flow m by ∷ rest
    → (e : Entry) × (more : List Entry) × (rest ≡ e ∷ more)
    × IsFate (scene_at own p.before (first_due own p.step.event p.step.answer) (front ++ Delivered peer numbers flow m by ∷ [])) m true e
delivered_next own p front peer numbers flow m by rest fates payload is =
    let d : Due = first_due own p.step.event p.step.answer in
    let one : List Entry = Delivered peer numbers flow m by ∷ [] in
    let due : due_behind own d (front ++ one) ≡ FateDue m true = due_behind_more own d front (Delivered peer numbers flow m by) ∙ delivered_due m payload in
    let next = due_next own p (front ++ one) rest fates (is ∙ sym (append_assoc front one rest)) (λ none. fate_is_due m true (sym due ∙ none)) in
    (next.0, next.1, next.2, subst (λ w. MayStand (scene_at own p.before d (front ++ one)) w next.0) due next.3)
  where
    fate_is_due : (m : Message) (arrived : Bool) → FateDue m arrived ≡ NothingDue → ⊥
    fate_is_due m arrived e = cc

-- a fate stands only where a message has it
pub fate_due : (own : Addr) (p : PlacedStep) (front : List Entry) (e : Entry) (rest : List Entry) → HasFates own p
    → is_fate e ≡ true → p.step.inside ≡ front ++ e ∷ rest
    → (m : Message) × (arrived : Bool) × (due_behind own (first_due own p.step.event p.step.answer) front ≡ FateDue m arrived)
    × IsFate (scene_at own p.before (first_due own p.step.event p.step.answer) front) m arrived e
fate_due own p front e rest fates kind is =
    by (due_behind own (first_due own p.step.event p.step.answer) front) refl e kind (stands_there own p front e rest fates is)
  where
    s : Scene
    s = scene_at own p.before (first_due own p.step.event p.step.answer) front

    no_return : (m : Message) (x : Entry) → is_fate x ≡ true → IsPassedOn s m x → ⊥
    no_return (Payload importance form from to name lower upper code droppable body) x fate passed = true≢false (sym fate ∙ ap is_fate passed.2)
    no_return (Items withdrawal items) x fate passed = passed

    by : (d : Due) → due_behind own (first_due own p.step.event p.step.answer) front ≡ d → (x : Entry) → is_fate x ≡ true → MayStand s d x
        → (m : Message) × (arrived : Bool) × (due_behind own (first_due own p.step.event p.step.answer) front ≡ FateDue m arrived) × IsFate s m arrived x
    by NothingDue due (Queued ports) fate h = absurd h
    by NothingDue due (Returned code) fate h = absurd h
    by NothingDue due (ReturnDropped waiting) fate h = absurd h
    by NothingDue due x fate h = absurd (true≢false (sym fate))
    by (FateDue m arrived) due x fate h = (m, arrived, due, h)
    by (ReturnDue m) due x fate h = absurd (no_return m x fate h)
