use Rattle.run_text.proofs.ShownLemmas.{topic-at}
use Rattle.run_text.proofs.broker_text.records_of_items.Goals as goal

pub records_of-requires : goal.records_of-requires
records_of-requires c = topic-at c.args.broker.now c.args.items.now c.loop-item.item-index c.item-item.result c.requires c.loop-item-test.true c.item-item.is
