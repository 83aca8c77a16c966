-- What the two jobs of a crew gave.
use Rattle.std.proofs.Common.{◌≡◌, ℕ, arith, Vec, Global, List, [], ◌∷◌, ◌++◌, refl, subst, ◌∙◌, ap}
use Rattle.tipc_node_lock.specs.Locks.{LockState}
use Rattle.tipc_node_lock.specs.Passes.{PassState}
use Rattle.tipc_work.specs.declared.crews.Done.{Done}
use Rattle.tipc_work.specs.declared.crews.Done.TheVariants.{Called, Carried}
use Rattle.tipc_work.specs.declared.crews.Job.{Job}
use Rattle.tipc_work.specs.declared.crews.Job.TheVariants.{Call, Carry}
use Rattle.tipc_work.specs.declared.movers.Moved.{Moved}
use Rattle.tipc_work.specs.declared.plans.LivePlan.{LivePlan}
use Rattle.tipc_work.specs.Jobs.{HasDone, HaveDone}

-- two that stand one behind the other
in_order : {X : Type 0} (none one both : List X) (x y : X) → none ≡ [] → one ≡ none ++ x ∷ [] → both ≡ one ++ y ∷ [] → both ≡ x ∷ y ∷ []
in_order none one both x y starts calls carries = carries ∙ ap (λ xs. xs ++ y ∷ []) (calls ∙ ap (λ xs. xs ++ x ∷ []) starts)

module _ {B C : Type 0} (tried given faults : B → ℕ) (plan : LivePlan) (node : ℕ) (l : LockState) (passes : Vec PassState Global)
    (pass : PassState) (first second : B) (clock : C) where
  abbrev Both : List (Job B C)
  Both = Call passes ∷ Carry pass first second clock ∷ []

  abbrev Did : Job B C → Done B → Type 0
  Did = HasDone tried given faults plan node l

  -- each of the two gave its own
  both_there : (done : List (Done B)) → HaveDone tried given faults plan node l Both done
      → (called : Vec PassState Global) × (carried : Moved B) × (done ≡ Called called ∷ Carried carried ∷ [])
  both_there [] h = absurd (let n = h.len in omega (arith, n))
  both_there (d ∷ []) h = absurd (let n = h.len in omega (arith, n))
  both_there (d ∷ e ∷ f ∷ others) h = absurd (let n = h.len in omega (arith, n))
  both_there (d ∷ e ∷ []) h = of d e (h.each 0 (Call passes) d (omega arith)) (h.each 1 (Call passes) d (omega arith))
    where
      of : (d e : Done B) → Did (Call passes) d → Did (Carry pass first second clock) e
          → (called : Vec PassState Global) × (carried : Moved B) × (d ∷ e ∷ [] ≡ Called called ∷ Carried carried ∷ [])
      of (Called a) (Carried m) one two = (a, m, refl)
      of (Carried m) e one two = absurd one
      of (Called a) (Called b) one two = absurd two

  pub jobs_there : (none one jobs : List (Job B C)) (done : List (Done B)) → none ≡ [] → one ≡ none ++ Call passes ∷ []
      → jobs ≡ one ++ Carry pass first second clock ∷ [] → HaveDone tried given faults plan node l jobs done
      → (called : Vec PassState Global) × (carried : Moved B) × (done ≡ Called called ∷ Carried carried ∷ [])
  jobs_there none one jobs done starts calls carries h =
      both_there done (subst (λ js. HaveDone tried given faults plan node l js done) (in_order none one jobs _ _ starts calls carries) h)

  -- what the first gave is the callers', and what the second gave the mover's
  pub jobs_gave : (none one jobs : List (Job B C)) (done : List (Done B)) (called : Vec PassState Global) (carried : Moved B) → none ≡ []
      → one ≡ none ++ Call passes ∷ [] → jobs ≡ one ++ Carry pass first second clock ∷ [] → HaveDone tried given faults plan node l jobs done
      → done ≡ Called called ∷ Carried carried ∷ [] → Did (Call passes) (Called called) × Did (Carry pass first second clock) (Carried carried)
  jobs_gave none one jobs done called carried starts calls carries h is =
      by (subst (λ (t : List (Job B C) × List (Done B)). HaveDone tried given faults plan node l t.0 t.1)
      (λ j. (in_order none one jobs _ _ starts calls carries j, is j)) h)
    where
      by : HaveDone tried given faults plan node l Both (Called called ∷ Carried carried ∷ [])
          → Did (Call passes) (Called called) × Did (Carry pass first second clock) (Carried carried)
      by h = (h.each 0 (Call passes) (Called called) (omega arith), h.each 1 (Call passes) (Called called) (omega arith))
