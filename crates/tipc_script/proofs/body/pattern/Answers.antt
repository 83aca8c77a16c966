use Rattle.std.proofs.Common.{◌%◌, ◌++◌, ◌∷◌, [], ◌∙◌, ap, sym, arith}
use Rattle.std.proofs.lemmas.List.FromFn.{map-range_with_len_more}
use Rattle.tipc_script.specs.Kinds.{pattern}
use Rattle.tipc_script.proofs.body.pattern.Goals as goal

pub loop-place-init : goal.loop-place-init
unfolding pattern
loop-place-init c = c.new-bytes.ensures

pub loop-place-preserved : goal.loop-place-preserved
unfolding pattern
loop-place-preserved c =
    let place = c.loop-place.place in
    c.in_ok-push.ensures.ok ∙ ap (λ bytes. bytes ++ place % 251 ∷ []) c.loop-place.invariant ∙ sym (map-range_with_len_more (λ i. i % 251) 0 place place (omega arith))
