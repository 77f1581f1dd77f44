use Rattle.key_planner.proofs.Columns.{columns-as-many}
use Rattle.key_planner.proofs.keys.are_columns.Goals as goal

pub returns-then-keys-count : goal.returns-then-keys-count
returns-then-keys-count c = columns-as-many 0 c.args.count c.args.keys.now c.if-keys-count.true
