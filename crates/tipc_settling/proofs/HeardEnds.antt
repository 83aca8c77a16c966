-- An end that heard a reset of its peer answers, where the peer had no contact and its contact number was seen.
use Rattle.std.specs.Prelude.{◌==◌, IfSome, if◌then◌else◌}
use Rattle.std.proofs.Common.{◌≡◌, ◌∙◌, ℕ, true, false, Some, refl, ap, subst}
use Rattle.tipc_pair.specs.Facing.{PairEnds, facing, turned}
use Rattle.tipc_pair.specs.LinkReadings.{AreAbreast, IsAbreast}
use Rattle.tipc_pair.proofs.turns.PairKept.{facing_bearer}
use Rattle.tipc_settling.specs.Rises.{HeardEndsAnswer}
use Rattle.tipc_settling.proofs.Pairs.{near_still, still_facing}

abreast_at : (bearer : ℕ) (x : PairEnds) → AreAbreast x → IfSome (facing bearer x).near IsAbreast
unfolding facing
abreast_at bearer x h = elim (x.bearer == bearer) as (λ b. IfSome (if b then x else turned x).near IsAbreast) [ true ↦ h.near | false ↦ h.far ]

seen_at : (bearer : ℕ) (x : PairEnds) → (facing bearer x).seen ≡ x.seen
unfolding facing
seen_at bearer x = elim (x.bearer == bearer) as (λ b. (if b then x else turned x).seen ≡ x.seen) [ true ↦ refl | false ↦ refl ]

pub heard_ends_answer : HeardEndsAnswer
heard_ends_answer own peer x bearer e one h abreast alone sees near heard =
    let z = facing bearer x in
    let on : z.bearer ≡ bearer = facing_bearer bearer x one h.two in
    let k = near_still own peer z e near (still_facing own peer bearer x h) in
    let a : IsAbreast e = subst (λ o. IfSome o IsAbreast) near (abreast_at bearer x abreast) in
    let knows : e.fsm.peer ≡ Some e.fsm.highest = a.peer_is heard in
    let same : e.fsm.highest ≡ peer.epoch z.bearer = k.present alone (seen_at bearer x ∙ sees) e.fsm.highest knows in
    record { knows = knows ∙ ap (λ n. Some n) (same ∙ ap (λ b. peer.epoch b) on); heard = heard }
