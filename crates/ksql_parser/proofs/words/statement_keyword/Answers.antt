use Rattle.std.proofs.Common.{sym}
use Rattle.expression_trees.proofs.Words.{beside_none}
use Rattle.ksql_parser.specs.Words.{statement_words}
use Rattle.ksql_parser.proofs.words.statement_keyword.Goals as goal

pub returns-in_default : goal.returns-in_default
returns-in_default c =
    let other = c.in_default in
    sym (beside_none statement_words c.args.word.now (other.not-CREATE, (other.not-STREAM, (other.not-TABLE, (other.not-AS, (other.not-SELECT, (other.not-FROM, (other.not-WHERE, (other.not-GROUP, (other.not-BY, (other.not-HAVING, tt)))))))))))
