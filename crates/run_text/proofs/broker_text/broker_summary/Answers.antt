use Rattle.std.proofs.Common.{List, subst, sym}
use Rattle.std.specs.Prelude.{All}
use Rattle.ksql_program.specs.Program.{relations}
use Rattle.ksql_program.specs.declared.program.Item.{Item}
use Rattle.run_text.specs.Shown.{HasTopicOf}
use Rattle.run_text.proofs.ShownLemmas.{topic-at}
use Rattle.run_text.proofs.broker_text.broker_summary.Goals as goal

pub push_item_summary-requires : goal.push_item_summary-requires
push_item_summary-requires c =
    let b = c.args.broker.now in
    let topics = subst (λ (items : List Item). All (HasTopicOf b) (relations items)) (sym c.items-item-items.ensures) c.requires.topics in
    topic-at b c.items-item-items.result.now c.loop-item.item-index c.item-item.result topics c.loop-item-test.true c.item-item.is
