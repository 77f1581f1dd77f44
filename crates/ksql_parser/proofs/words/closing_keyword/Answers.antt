use Rattle.std.proofs.Common.{sym}
use Rattle.expression_trees.proofs.Words.{beside_none}
use Rattle.ksql_parser.specs.Words.{closing_words}
use Rattle.ksql_parser.proofs.words.closing_keyword.Goals as goal

pub returns-in_default : goal.returns-in_default
returns-in_default c =
    let other = c.in_default in
    sym (beside_none closing_words c.args.word.now (other.not-THEN, (other.not-ELSE, (other.not-END, (other.not-CAST, (other.not-TRUE, (other.not-FALSE, (other.not-EMIT, (other.not-LIMIT, (other.not-WITHIN, tt))))))))))
