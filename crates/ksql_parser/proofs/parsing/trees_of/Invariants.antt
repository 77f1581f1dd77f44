use Rattle.std.proofs.Common.{◌≤◌, ◌+◌, length}
use Rattle.ksql_lexer.specs.Script.{kinds}
use Rattle.ksql_parser.specs.Script.{statements}
use Rattle.ksql_parser.specs.Words.{AreWritten}
use Rattle.ksql_parser.proofs.Settling.{Reached}
use Rattle.ksql_parser.proofs.parsing.trees_of.Given as goal

abbrev pub invariant-loop-rest : goal.invariant-loop-rest
invariant-loop-rest l = record {
  written : AreWritten (kinds l.rest);
  few : l.number + length l.rest ≤ length l.tokens;
  reached : Reached (statements (kinds l.tokens)) (statements (kinds l.rest)) l.trees.items l.number;
}

abbrev pub decreases-loop-rest : goal.decreases-loop-rest
decreases-loop-rest l = length l.rest
