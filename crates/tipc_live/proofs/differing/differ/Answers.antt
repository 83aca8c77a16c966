use Rattle.std.specs.Prelude.{Some}
use Rattle.std.proofs.Common.{◌+◌, sym, ◌∙◌, ap}
use Rattle.std.proofs.lemmas.Option.{slice_get-get_or}
use Rattle.tipc_live.specs.declared.answers.Audit.TheVariants.{Differ}
use Rattle.tipc_live.proofs.differing.differ.Goals as goal

pub returns : goal.returns
returns c =
    let there = slice_get-get_or c.args.kept.now c.args.place c.index-kept-place.result c.requires in (
      c.index-kept-place.result,
      there ∙ ap Some (sym c.index-kept-place.is),
      λ i. Differ c.args.n (c.args.place + 1) (c.in_ok-copy_of.ensures i) (c.in_ok-copy_of_any.ensures i),
    )
