use Rattle.std.proofs.Common.{sym}
use Rattle.expression_trees.proofs.Words.{beside_none}
use Rattle.ksql_parser.specs.Words.{clause_words}
use Rattle.ksql_parser.proofs.words.clause_keyword.Goals as goal

pub returns-in_default : goal.returns-in_default
returns-in_default c =
    let other = c.in_default in
    sym (beside_none clause_words c.args.word.now (other.not-PARTITION, (other.not-WINDOW, (other.not-JOIN, (other.not-INNER, (other.not-LEFT, (other.not-RIGHT, (other.not-FULL, (other.not-OUTER, (other.not-ON, (other.not-WITH, tt)))))))))))
