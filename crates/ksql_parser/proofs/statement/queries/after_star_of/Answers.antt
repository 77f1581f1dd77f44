use Rattle.std.proofs.Common.{ℕ, List, Option, refl, sym, ap}
use Rattle.ksql_lexer.specs.declared.token.Mark.TheVariants as mark
use Rattle.ksql_grammar.specs.declared.symbol.Symbol.{Symbol}
use Rattle.ksql_grammar.specs.Expressions.{after_sign}
use Rattle.expression_trees.specs.Options.{◌>>=◌}
use Rattle.ksql_parser.specs.Statements as r
use Rattle.ksql_parser.proofs.Steps.{bind_is}
use Rattle.ksql_parser.proofs.Only.{both}
use Rattle.ksql_parser.proofs.statement.queries.after_star_of.Goals as goal

-- what is read after the dot, and after the name
abbrev after_dot : List ℕ → List Symbol → Option (List ℕ × List Symbol)
after_dot name us = after_sign mark.Star us >>= λ vs. both name vs

abbrev after_name : List ℕ × List Symbol → Option (List ℕ × List Symbol)
after_name n = after_sign mark.Dot n.1 >>= λ us. after_dot n.0 us

pub returns-in_err-name : goal.returns-in_err-name
unfolding r.star_of
returns-in_err-name c = rw c.from_residual.ensures (ap (λ o. o >>= after_name) c.in_err-name.ensures)

pub returns-in_err-rest : goal.returns-in_err-rest
unfolding r.star_of
returns-in_err-rest c =
    rw c.from_residual-in_err-rest.ensures (sym (bind_is after_name (sym c.in_ok-name.ensures) (ap (λ o. o >>= after_dot c.in_ok-name.name.now) (sym c.in_err-rest.ensures))))

pub returns-in_err-rest-2 : goal.returns-in_err-rest-2
unfolding r.star_of
returns-in_err-rest-2 c =
    let name = c.in_ok-name.name.now in
    rw c.from_residual-in_err-rest-2.ensures (sym (bind_is after_name (sym c.in_ok-name.ensures)
    (bind_is (after_dot name) (sym c.in_ok-rest.ensures) (ap (λ o. o >>= λ vs. both name vs) (sym c.in_err-rest-2.ensures)))))

pub returns : goal.returns
unfolding r.star_of
returns c =
    let name = c.in_ok-name.name.now in
    sym (bind_is after_name (sym c.in_ok-name.ensures)
    (bind_is (after_dot name) (sym c.in_ok-rest.ensures) (bind_is (λ vs. both name vs) (sym c.in_ok-rest-2.ensures) refl)))
