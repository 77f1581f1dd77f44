use Rattle.std.proofs.Common.{◌≡◌, List, [], ◌∷◌, Option, Some, sym, ap, ◌∙◌, subst}
use Rattle.std.specs.Borrow.{Bor}
use Rattle.std.proofs.lemmas.Result.{err_from_is_err_and}
use Rattle.ksql_grammar.specs.declared.symbol.Keyword.TheVariants as key
use Rattle.ksql_grammar.specs.declared.symbol.Symbol.{Symbol}
use Rattle.ksql_grammar.specs.declared.symbol.Symbol.TheVariants.{Key}
use Rattle.expression_trees.specs.declared.tree.Expr.{Expr}
use Rattle.statement_trees.specs.declared.tree.JoinText.{JoinText}
use Rattle.statement_trees.specs.declared.tree.JoinWord.{JoinWord}
use Rattle.statement_trees.specs.declared.tree.Source.{Source}
use Rattle.ksql_parser.specs.Grammar as g
use Rattle.ksql_parser.specs.Grammar.{Spells, no_join, a_join}
use Rattle.ksql_grammar.specs.Reading.{with_rest}
use Rattle.ksql_grammar.specs.Expressions.{after_key}
use Rattle.ksql_parser.specs.Statements as r
use Rattle.ksql_grammar.proofs.Found.{behind}
use Rattle.ksql_parser.proofs.Steps.{along, failed, same_read}
use Rattle.ksql_grammar.proofs.Steps.{if_some, key_found}
use Rattle.ksql_parser.proofs.Found.{join_words_found, source_found}
use Rattle.ksql_parser.proofs.Only.{both}
use Rattle.ksql_parser.proofs.Calls.{failed_at, same_at}
use Rattle.ksql_parser.proofs.Joins.{join_absent, join_there, join_read}
use Rattle.ksql_parser.proofs.Selects.{key_is, same_key}
use Rattle.ksql_parser.proofs.statement.clauses.read_join.Goals as goal

-- the words of a join that were read
words : (ts us : List Symbol) (k : JoinWord) → Some (k, us) ≡ r.join_words ts → Spells (g.join_words k) ts us
words ts us k h = if_some (r.join_words ts) (λ x. Spells (g.join_words x.0) ts x.1) (k, us) (join_words_found ts) (sym h)

pub returns-in_default-clause-found : goal.returns-in_default-clause-found
returns-in_default-clause-found c = no_join

pub returns-in_default-clause-only : goal.returns-in_default-clause-only
returns-in_default-clause-only c = λ j rest d b. join_absent j c.args.symbols.now rest (sym c.in_default.ensures) d

pub returns-in_err-source-clause-only : goal.returns-in_err-source-clause-only
returns-in_err-source-clause-only c = λ j rest d b.
    let ts = c.args.symbols.now in
    let us = c.in-Some.rest.now in
    let h = join_there j ts rest c.in-Some.kind us (words ts us c.in-Some.kind c.in-Some.ensures) b d in
    let p = err_from_is_err_and c.from_residual.result c.from_residual.ensures.1 in
    rw (p.1, p.2) (failed_at (with_rest {A = Source}) (with_rest {A = Option JoinText}) c.in_err-source.field-0.0 (r.source us) (h.0, Key key.On ∷ h.2) (j, rest) h.4 c.in_err-source.ensures)

pub returns-in_err-rest-clause-only : goal.returns-in_err-rest-clause-only
returns-in_err-rest-clause-only c = λ j rest d b.
    let ts = c.args.symbols.now in
    let us = c.in-Some.rest.now in
    let vs = c.in_ok-source.rest.now in
    let h = join_there j ts rest c.in-Some.kind us (words ts us c.in-Some.kind c.in-Some.ensures) b d in
    let s = same_at (r.source us) (c.in_ok-source.source, c.in_ok-source.rest) h.0 (Key key.On ∷ h.2) h.4 c.in_ok-source.ensures in
    let p = err_from_is_err_and c.from_residual-in_err-rest.result c.from_residual-in_err-rest.ensures.1 in
    rw (p.1, p.2) (failed_at (λ (x : Bor (List Symbol)). x.now) (with_rest {A = Option JoinText}) c.in_err-rest.field-0.0 (after_key key.On vs) h.2 (j, rest) (key_is key.On vs h.2 (sym s.1)) c.in_err-rest.ensures)

pub returns-in_err-on-clause-only : goal.returns-in_err-on-clause-only
returns-in_err-on-clause-only c = λ j rest d b.
    let ts = c.args.symbols.now in
    let us = c.in-Some.rest.now in
    let vs = c.in_ok-source.rest.now in
    let h = join_there j ts rest c.in-Some.kind us (words ts us c.in-Some.kind c.in-Some.ensures) b d in
    let s = same_at (r.source us) (c.in_ok-source.source, c.in_ok-source.rest) h.0 (Key key.On ∷ h.2) h.4 c.in_ok-source.ensures in
    let k = same_key key.On vs h.2 c.in_ok-rest.rest.now (sym s.1) c.in_ok-rest.ensures in
    let p = err_from_is_err_and c.from_residual-in_err-on.result c.from_residual-in_err-on.ensures.1 in
    rw (p.1, p.2) (failed (with_rest {A = Expr}) (with_rest {A = Option JoinText}) c.in_err-on.field-0.0 (h.1, rest) (j, rest) (c.in_err-on.ensures.only h.1 rest (behind (sym k) h.5) h.6))

pub returns-clause-found : goal.returns-clause-found
returns-clause-found c =
    let ts = c.args.symbols.now in
    let us = c.in-Some.rest.now in
    let vs = c.in_ok-source.rest.now in
    subst (λ j. Spells (g.joined (Some j)) ts c.in_ok-on.rest.now) (sym c.in_ok-join.ensures)
    (a_join (words ts us c.in-Some.kind c.in-Some.ensures)
    (along (if_some (r.source us) (λ x. Spells (g.source x.0) us x.1) (c.in_ok-source.source, vs) (source_found us) c.in_ok-source.ensures)
    (if_some (after_key key.On vs) (λ ws. vs ≡ Key key.On ∷ ws) c.in_ok-rest.rest.now (key_found key.On vs) c.in_ok-rest.ensures))
    c.in_ok-on.ensures.found)

pub returns-clause-only : goal.returns-clause-only
returns-clause-only c = λ j rest d b.
    let ts = c.args.symbols.now in
    let us = c.in-Some.rest.now in
    let vs = c.in_ok-source.rest.now in
    let h = join_there j ts rest c.in-Some.kind us (words ts us c.in-Some.kind c.in-Some.ensures) b d in
    let s = same_at (r.source us) (c.in_ok-source.source, c.in_ok-source.rest) h.0 (Key key.On ∷ h.2) h.4 c.in_ok-source.ensures in
    let k = same_key key.On vs h.2 c.in_ok-rest.rest.now (sym s.1) c.in_ok-rest.ensures in
    let x = same_read (c.in_ok-on.on, c.in_ok-on.rest) h.1 rest (c.in_ok-on.ensures.only h.1 rest (behind (sym k) h.5) h.6) in
    join_read j c.in-Some.kind h.0 c.in_ok-source.source h.1 c.in_ok-on.on rest c.in_ok-on.rest.now h.3 s.0 x.0 x.1
    ∙ ap (λ j. both (Some j) c.in_ok-on.rest.now) (sym c.in_ok-join.ensures)
