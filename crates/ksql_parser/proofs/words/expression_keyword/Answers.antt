use Rattle.std.proofs.Common.{sym}
use Rattle.expression_trees.proofs.Words.{beside_none}
use Rattle.ksql_parser.specs.Words.{expression_words}
use Rattle.ksql_parser.proofs.words.expression_keyword.Goals as goal

pub returns-in_default : goal.returns-in_default
returns-in_default c =
    let other = c.in_default in
    sym (beside_none expression_words c.args.word.now (other.not-AND, (other.not-OR, (other.not-NOT, (other.not-NULL, (other.not-IS, (other.not-IN, (other.not-LIKE, (other.not-BETWEEN, (other.not-CASE, (other.not-WHEN, tt)))))))))))
