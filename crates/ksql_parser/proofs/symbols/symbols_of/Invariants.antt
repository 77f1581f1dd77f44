use Rattle.std.proofs.Common.{◌≡◌, take, map}
use Rattle.ksql_lexer.specs.Script.{kinds}
use Rattle.ksql_grammar.specs.Symbols.{symbol_of}
use Rattle.ksql_parser.proofs.symbols.symbols_of.Given as goal

abbrev pub invariant-loop-token : goal.invariant-loop-token
invariant-loop-token l = l.symbols.items ≡ map symbol_of (take l.token-index (kinds l.tokens))
