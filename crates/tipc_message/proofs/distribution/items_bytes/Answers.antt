use Rattle.std.proofs.Common.{◌∙◌}
use Rattle.std.proofs.lemmas.List.Elements.{All-more}
use Rattle.tipc_message.specs.ItemWords.{IsInWords}
use Rattle.tipc_message.proofs.ItemLaws.{bytes_more, some_item}
use Rattle.tipc_message.proofs.distribution.items_bytes.Goals as goal

pub loop-item-preserved : goal.loop-item-preserved
loop-item-preserved c = record {
  bytes = c.in_ok-put_item.ensures.bytes ∙ bytes_more c.args.items.now c.loop-item.item-index _ c.loop-item.invariant.bytes c.loop-item-test.true;
  words = All-more IsInWords c.args.items.now c.loop-item.item-index some_item c.loop-item-test.true c.loop-item.invariant.words c.in_ok-put_item.ensures.words;
}
