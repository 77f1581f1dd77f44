use Rattle.std.proofs.Common.{[], ◌∷◌, ◌++◌, sym, ◌∙◌}
use Rattle.ksql_grammar.specs.Symbols.{symbol_of}
use Rattle.ksql_parser.proofs.Runs.{written_at, fits_at, map_kinds_more}
use Rattle.ksql_parser.proofs.symbols.symbols_of.Goals as goal

pub symbol_of-requires-clause-written : goal.symbol_of-requires-clause-written
symbol_of-requires-clause-written c = written_at c.args.tokens.now c.loop-token.token-index c.token-item.result c.requires.written c.loop-token-test.true c.token-item.is

pub symbol_of-requires-clause-fits : goal.symbol_of-requires-clause-fits
symbol_of-requires-clause-fits c = fits_at c.args.tokens.now c.loop-token.token-index c.token-item.result c.requires.fit c.loop-token-test.true c.token-item.is

pub loop-token-preserved : goal.loop-token-preserved
loop-token-preserved c =
    c.in_ok-push.ensures.items
    ∙ (λ i. c.loop-token.invariant i ++ c.in_ok-symbol_of.ensures i ∷ [])
    ∙ sym (map_kinds_more symbol_of c.args.tokens.now c.loop-token.token-index c.token-item.result c.loop-token-test.true c.token-item.is)
