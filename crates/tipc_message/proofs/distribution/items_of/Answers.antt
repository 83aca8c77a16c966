use Rattle.std.proofs.Common.{List, ◌∙◌, ◌++◌, ℕ, ◌∷◌, [], ap, map, sym, arith}
use Rattle.std.specs.List.{range_with_len}
use Rattle.std.proofs.lemmas.List.FromFn.{map-range_with_len_more}
use Rattle.tipc_types.specs.declared.message_forms.Item.{Item}
use Rattle.tipc_message.specs.ItemWords.{item_at}
use Rattle.tipc_message.proofs.distribution.items_of.Goals as goal

pub loop-index-preserved : goal.loop-index-preserved
loop-index-preserved c =
    let at = λ (index : ℕ). item_at index c.args.bytes.now in
    let k = c.loop-index.index in
    c.in_ok-push.ensures.ok ∙ ap (λ (those : List Item). those ++ c.item_at.result ∷ []) c.loop-index.invariant ∙ ap (λ (item : Item). map at (range_with_len 0 k) ++ item ∷ []) c.item_at.ensures
    ∙ sym (map-range_with_len_more at 0 k k (omega arith))
