-- The two halves of a query, and JOIN.
use Rattle.std.specs.Prelude.{◌≡◌, List, ◌∷◌, Option}
use Rattle.ksql_grammar.specs.declared.symbol.Keyword.{Keyword}
use Rattle.ksql_grammar.specs.declared.symbol.Keyword.TheVariants as key
use Rattle.ksql_grammar.specs.declared.symbol.Symbol.{Symbol}
use Rattle.ksql_grammar.specs.declared.symbol.Symbol.TheVariants.{Key}
use Rattle.statement_trees.specs.declared.tree.Select.{Select}
use Rattle.ksql_parser.specs.Grammar.{Spells, items, source, joined, windowed, filter, group, partition, having}
use Rattle.ksql_grammar.specs.Expressions.{after_key}
use Rattle.ksql_parser.specs.Statements.{after_or_here}
use Rattle.ksql_parser.specs.declared.statement.queries.Front.{Front}
use Rattle.ksql_parser.specs.declared.statement.queries.Clauses.{Clauses}

-- SELECT items FROM source [join] [WINDOW window]
abbrev pub SpellsFront : Front → List Symbol → List Symbol → Type 0
SpellsFront f ts us = (s0 s1 s2 s3 : List Symbol) × (ts ≡ Key key.Select ∷ s0) × Spells (items f.items) s0 (Key key.From ∷ s1)
    × Spells (source f.source) s1 s2 × Spells (joined f.join) s2 s3 × Spells (windowed f.window) s3 us

-- [WHERE expr] [GROUP BY expr {"," expr}] [PARTITION BY expr] [HAVING expr]
abbrev pub SpellsClauses : Clauses → List Symbol → List Symbol → Type 0
SpellsClauses c ts us = (s0 s1 s2 : List Symbol) × Spells (filter c.filter) ts s0 × Spells (group c.group) s0 s1
    × Spells (partition c.partition) s1 s2 × Spells (having c.having) s2 us

-- the query of its two halves
abbrev pub select_of : Front → Clauses → Select
select_of f c = record { items = f.items; source = f.source; join = f.join; window = f.window; filter = c.filter; group = c.group; partition = c.partition; having = c.having }

-- after JOIN, which this word may precede
unfoldable pub after_join : Keyword → List Symbol → Option (List Symbol)
after_join k ts = after_key key.Join (after_or_here ts (after_key k ts))
