use Rattle.std.proofs.Common.{◌+◌, length, ap, ◌∙◌, subst, add-one}
use Rattle.ksql_grammar.specs.Grammar.{expr}
use Rattle.ksql_grammar.specs.Reading.{Gives, with_rest}
use Rattle.ksql_grammar.specs.Expressions.{within}
use Rattle.ksql_grammar.proofs.Found.{Reads, within_found}
use Rattle.ksql_grammar.proofs.Whole.{expression_only}
use Rattle.ksql_grammar.proofs.Errors.{if_gives}
use Rattle.ksql_grammar.proofs.expression.read_expression.Goals as goal

pub returns-clause-found : goal.returns-clause-found
returns-clause-found c =
    let ts = c.args.symbols.now in
    if_gives c.expression.result with_rest (within (length ts + 1) ts) (Reads expr ts) c.expression.ensures (within_found (length ts + 1) ts)

pub returns-clause-only : goal.returns-clause-only
returns-clause-only c = λ e rest d ends.
    let ts = c.args.symbols.now in
    subst (Gives with_rest c.expression.result) (ap (λ n. within n ts) (add-one (length ts)) ∙ expression_only e ts rest d ends) c.expression.ensures
