use Rattle.std.proofs.Common.{sym}
use Rattle.ksql_parser.specs.Grammar.{unit_words}
use Rattle.expression_trees.proofs.Words.{beside_none}
use Rattle.ksql_parser.proofs.statement.windows.unit_named.Goals as goal

pub returns-in_default : goal.returns-in_default
returns-in_default c =
    let other = c.in_default in
    sym (beside_none unit_words c.args.word.now (other.not-DAY, (other.not-DAYS, (other.not-HOUR, (other.not-HOURS, (other.not-MINUTE, (other.not-MINUTES, (other.not-SECOND, (other.not-SECONDS, (other.not-MILLISECOND, (other.not-MILLISECONDS, tt)))))))))))
