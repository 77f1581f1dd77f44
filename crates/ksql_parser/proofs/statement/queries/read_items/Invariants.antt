use Rattle.std.proofs.Common.{length}
use Rattle.ksql_parser.proofs.Items.{FrontSpelled, FrontOnly}
use Rattle.ksql_parser.proofs.statement.queries.read_items.Given as goal

-- what was read so far, followed by what is spelled from here on
abbrev pub invariant-loop-items : goal.invariant-loop-items
invariant-loop-items l = record {
  spelled : FrontSpelled l.items.items l.rest l.symbols;
  only : FrontOnly l.items.items l.rest l.symbols;
}

abbrev pub decreases-loop-items : goal.decreases-loop-items
decreases-loop-items l = length l.rest
