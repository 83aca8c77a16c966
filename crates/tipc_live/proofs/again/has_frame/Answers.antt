use Rattle.std.specs.Cmp.Lexicographic.{other_text, same_text}
use Rattle.std.specs.Option.{option_copied}
use Rattle.std.specs.Prelude.{Some, slice_get}
use Rattle.std.proofs.Common.{◌≡◌, ◌∙◌, ap, sym}
use Rattle.std.proofs.lemmas.Bool.{false≢true}
use Rattle.std.proofs.lemmas.Option.{none-some}
use Rattle.tipc_replay.specs.Skies.{air_on}
use Rattle.tipc_live.proofs.Latest.{frame_has, has_bytes, is_for_it, stands_in_air}
use Rattle.tipc_live.proofs.again.has_frame.Goals as goal

pub returns-then-eq : goal.returns-then-eq
returns-then-eq c =
    let there : slice_get (air_on c.args.bearer c.args.replay.now.air) c.args.place ≡ Some c.in-Some.sent.now = sym c.frame.ensures ∙ ap (λ o. option_copied o) c.in-Some.is in
    let same = sym c.as_slice.ensures ∙ same_text c.as_slice.result.now c.args.bytes.now c.if-eq.ensures in (
      λ yes. frame_has c.args.replay.now.air c.args.n c.args.bearer c.args.place c.args.bytes.now c.in-Some.sent.now there same (sym c.is_for.ensures ∙ yes),
      λ h. c.is_for.ensures ∙ is_for_it c.args.replay.now.air c.args.n c.args.bearer c.args.place c.args.bytes.now h,
    )

pub returns-else-eq : goal.returns-else-eq
returns-else-eq c =
    let there : slice_get (air_on c.args.bearer c.args.replay.now.air) c.args.place ≡ Some c.in-Some.sent.now = sym c.frame.ensures ∙ ap (λ o. option_copied o) c.in-Some.is in (
      λ yes. absurd (false≢true (sym c.if-eq.false ∙ yes)),
      λ h. absurd (other_text c.as_slice.result.now c.args.bytes.now c.if-eq.ensures
          (c.as_slice.ensures ∙ has_bytes c.args.replay.now.air c.args.n c.args.bearer c.args.place c.args.bytes.now c.in-Some.sent.now there h)),
    )

pub returns-in-None : goal.returns-in-None
returns-in-None c = (
  λ yes. absurd (false≢true yes),
  λ h. absurd (none-some h.frame (sym (ap (λ o. option_copied o) c.in-None.is) ∙ c.frame.ensures ∙ stands_in_air c.args.replay.now.air c.args.n c.args.bearer c.args.place c.args.bytes.now h)),
)
