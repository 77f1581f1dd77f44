use Rattle.std.proofs.Common.{sym}
use Rattle.ksql_grammar.specs.Symbols.{type_words}
use Rattle.expression_trees.proofs.Words.{beside_none}
use Rattle.ksql_grammar.proofs.word.type_of.Goals as goal

pub returns-in_default : goal.returns-in_default
returns-in_default c =
    let other = c.in_default in
    sym (beside_none type_words c.args.word.now (other.not-INT, (other.not-INTEGER, (other.not-BIGINT, (other.not-VARCHAR, (other.not-STRING, (other.not-BOOLEAN, tt)))))))
