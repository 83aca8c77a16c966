-- Stories that are told in full.
use Rattle.std.proofs.Common.{◌≡◌, true, false, List, [], ◌∷◌, refl, arith}
use Rattle.tipc_changeover.specs.Slots.{at, or_marker, plains, tunnelled, Plain, Tunnel}
use Rattle.tipc_changeover.specs.Links.{slots, First, Held, Second, State, Up}
use Rattle.tipc_changeover.specs.Events.{extended, happened, session_told}
use Rattle.tipc_changeover.specs.Reached.{after, begun, IsReached}
use Rattle.tipc_changeover.specs.Stories.{failover_story, told_from, MayTell, Step}

pub reach : (s : State) (steps : List Step) → IsReached s → MayTell s steps → IsReached (told_from s steps)
reach s [] reached may = reached
reach s (step ∷ steps) reached may = reach (happened step.bearer s step.event) steps (after step.bearer s step.event reached may.0) may.1

pub failover_may : MayTell begun failover_story
unfolding at extended session_told tunnelled or_marker plains
failover_may = (
  (refl, λ (e : Second ≡ First). absurd (let wrong : ⊥ = cc in wrong)),
  (
    refl,
    (
      (refl, refl, omega arith),
      (
        refl,
        (
          (refl, refl, omega arith),
          (
            (refl, refl, refl),
            (
              (refl, refl, omega arith),
              (
                (refl, refl, omega arith),
                (
                  refl,
                  (
                    (refl, refl, omega arith),
                    (
                      (refl, refl),
                      (
                        (refl, refl, omega arith),
                        (
                          (refl, refl, omega arith),
                          (
                            (refl, refl, omega arith),
                            ((omega arith, omega arith, λ (e : Up ≡ Held). absurd (let wrong : ⊥ = cc in wrong)), (refl, (refl, ((refl, (omega arith, refl, refl)), ((refl, (omega arith, refl, refl)), ((refl, (omega arith, refl, refl, refl)), tt)))))),
                          ),
                        ),
                      ),
                    ),
                  ),
                ),
              ),
            ),
          ),
        ),
      ),
    ),
  ),
)

pub failover_delivered : (told_from begun failover_story).delivered ≡ 1 ∷ 2 ∷ 3 ∷ []
unfolding at extended session_told tunnelled or_marker plains
failover_delivered = refl

pub failover_slots : slots (told_from begun failover_story).far ≡ Plain 1 ∷ Plain 2 ∷ Tunnel 1 1 false ∷ Tunnel 1 2 false ∷ Tunnel 1 3 true ∷ []
unfolding at extended session_told tunnelled or_marker plains
failover_slots = refl
