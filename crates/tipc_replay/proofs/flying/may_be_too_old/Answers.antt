use Rattle.std.proofs.Common.{◌≡◌, ◌≤◌, ◌<◌, ◌⊎◌, ◌∙◌, ℕ, ap, length, max, refl, subst, arith}
use Rattle.std.proofs.lemmas.Bool.Decides.{nat_tests}
use Rattle.tipc_header.specs.Frames.{first_of}
use Rattle.tipc_header.specs.Reading.{long_at}
use Rattle.tipc_paired.specs.Views.{er_of, es_of}
use Rattle.tipc_replay.specs.Due.{cast_age, state_age}
use Rattle.tipc_replay.proofs.frames.Ages.{age_within, unsized_age}
use Rattle.tipc_replay.proofs.flying.may_be_too_old.Goals as goal

pub returns-in_default : goal.returns-in_default
returns-in_default c = λ no.
    let size = subst (λ b. (length b < 16) ⊎ (1516 < length b)) c.as_slice.ensures (c.in_default.ensures.none.0 refl) in
    let age = unsized_age c.args.members.now c.args.sent.now c.args.n c.args.bearer size in
    omega (arith, age)

-- neither count is too large
both_within : (age state cast : ℕ) → age ≤ max state cast → state ≤ 30000 → cast ≤ 30000 → age ≤ 30000
both_within age state cast within low high = grind (arith, within, low, high)

pub returns-else-state_age-gt-OLDEST : goal.returns-else-state_age-gt-OLDEST
returns-else-state_age-gt-OLDEST c = λ no.
    let members = c.args.members.now in
    let sent = c.args.sent.now in
    let places = c.in-Some.ensures.places in
    let first : c.in-Some.opened.first ≡ first_of sent.frame = places.0 ∙ ap first_of c.as_slice.ensures in
    let second : c.in-Some.opened.second ≡ er_of sent.frame = places.1 ∙ ap (long_at 2) c.as_slice.ensures in
    let state : c.state_age.result ≡ state_age members sent c.args.n c.args.bearer (es_of sent.frame) (er_of sent.frame) =
    c.state_age.ensures ∙ ap (λ e. state_age members sent c.args.n c.args.bearer e c.in-Some.opened.second) first ∙ ap (state_age members sent c.args.n c.args.bearer (es_of sent.frame)) second in
    let cast : c.cast_age.result ≡ cast_age members sent (first_of sent.frame) = c.cast_age.ensures ∙ ap (cast_age members sent) first in
    let high : c.cast_age.result ≤ 30000 = grind (arith, nat_tests, no) in
    both_within _ _ _ (age_within members sent c.args.n c.args.bearer) (subst (λ k. k ≤ 30000) state c.if-state_age-gt-OLDEST.false) (subst (λ k. k ≤ 30000) cast high)
