-- No list of tokens is a spelling of two statements.
use Rattle.std.proofs.Common.{◌≡◌, ◌+◌, List, [], sym, ◌∙◌, arith}
use Rattle.std.proofs.lemmas.Option.{some_pair_parts}
use Rattle.ksql_lexer.specs.declared.token.TokenKind.{TokenKind}
use Rattle.statement_trees.specs.declared.tree.Statement.{Statement}
use Rattle.ksql_parser.specs.Grammar.{IsSpelledBy}
use Rattle.ksql_parser.proofs.UniqueStatements.{longest, statement_read}

pub one_tree : (ts : List TokenKind) (a b : Statement) → IsSpelledBy a ts → IsSpelledBy b ts → a ≡ b
one_tree ts a b p q =
    let n = longest a + longest b in
    (some_pair_parts a b [] [] (sym (statement_read p tt n (omega arith)) ∙ statement_read q tt n (omega arith))).0
