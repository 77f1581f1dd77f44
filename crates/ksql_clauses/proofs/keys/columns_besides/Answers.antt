use Rattle.std.proofs.Common.{sym}
use Rattle.ksql_clauses.proofs.KeyColumns.{besides-from}
use Rattle.ksql_clauses.proofs.keys.columns_besides.Goals as goal

pub loop-number-init : goal.loop-number-init
loop-number-init c = rw c.new-found.ensures.items (sym (besides-from c.args.places.now c.args.columns.now))
