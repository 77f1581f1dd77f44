-- The tables of words in parts, and the value of digits that may be too large.
use Rattle.std.specs.Prelude.{ℕ, ◌^◌, ◌-◌, min, Bool, true, ◌&&◌, nat_lt, IsTrue, List, [], ◌∷◌, length, codes}
use Rattle.std.specs.List.{list_all}
use Rattle.std.specs.Char.{is_ascii_digit}
use Rattle.std.specs.Str.Parse.{digits_value}
use Rattle.ksql_lexer.specs.declared.token.TokenKind.{TokenKind}
use Rattle.ksql_lexer.specs.declared.token.TokenKind.TheVariants as kind
use Rattle.ksql_grammar.specs.declared.symbol.Keyword.{Keyword}
use Rattle.ksql_grammar.specs.declared.symbol.Keyword.TheVariants as key

-- the reserved words of statements
abbrev pub statement_words : List (List ℕ × Keyword)
statement_words =
    (codes "CREATE", key.Create) ∷ (codes "STREAM", key.Stream) ∷ (codes "TABLE", key.Table) ∷ (codes "AS", key.As)
    ∷ (codes "SELECT", key.Select) ∷ (codes "FROM", key.From) ∷ (codes "WHERE", key.Where) ∷ (codes "GROUP", key.Group)
    ∷ (codes "BY", key.By) ∷ (codes "HAVING", key.Having) ∷ []

-- those of joins and of other clauses
abbrev pub clause_words : List (List ℕ × Keyword)
clause_words =
    (codes "PARTITION", key.Partition) ∷ (codes "WINDOW", key.Window) ∷ (codes "JOIN", key.Join)
    ∷ (codes "INNER", key.Inner) ∷ (codes "LEFT", key.Left) ∷ (codes "RIGHT", key.Right) ∷ (codes "FULL", key.Full)
    ∷ (codes "OUTER", key.Outer) ∷ (codes "ON", key.On) ∷ (codes "WITH", key.With) ∷ []

-- those of expressions
abbrev pub expression_words : List (List ℕ × Keyword)
expression_words =
    (codes "AND", key.And) ∷ (codes "OR", key.Or) ∷ (codes "NOT", key.Not) ∷ (codes "NULL", key.Null)
    ∷ (codes "IS", key.Is) ∷ (codes "IN", key.In) ∷ (codes "LIKE", key.Like) ∷ (codes "BETWEEN", key.Between)
    ∷ (codes "CASE", key.Case) ∷ (codes "WHEN", key.When) ∷ []

-- and the others
abbrev pub closing_words : List (List ℕ × Keyword)
closing_words =
    (codes "THEN", key.Then) ∷ (codes "ELSE", key.Else) ∷ (codes "END", key.End) ∷ (codes "CAST", key.Cast)
    ∷ (codes "TRUE", key.True) ∷ (codes "FALSE", key.False) ∷ (codes "EMIT", key.Emit) ∷ (codes "LIMIT", key.Limit)
    ∷ (codes "WITHIN", key.Within) ∷ []

-- words of commands that aren't supported
abbrev pub command_words : List (List ℕ)
command_words =
    codes "INSERT" ∷ codes "DROP" ∷ codes "TERMINATE" ∷ codes "PAUSE" ∷ codes "RESUME" ∷ codes "EXPLAIN" ∷ codes "SHOW"
    ∷ codes "LIST" ∷ codes "DESCRIBE" ∷ []

-- words of settings and of changes
abbrev pub setting_words : List (List ℕ)
setting_words =
    codes "PRINT" ∷ codes "SET" ∷ codes "UNSET" ∷ codes "DEFINE" ∷ codes "UNDEFINE" ∷ codes "ALTER" ∷ codes "ASSERT"
    ∷ codes "REPLACE" ∷ codes "IF" ∷ []

-- words of types
abbrev pub kind_words : List (List ℕ)
kind_words =
    codes "CONNECTOR" ∷ codes "DOUBLE" ∷ codes "DECIMAL" ∷ codes "TIMESTAMP" ∷ codes "DATE" ∷ codes "TIME"
    ∷ codes "BYTES" ∷ codes "ARRAY" ∷ codes "MAP" ∷ []

-- words of other forms
abbrev pub form_words : List (List ℕ)
form_words =
    codes "STRUCT" ∷ codes "RIGHT" ∷ codes "WITHIN" ∷ codes "SESSION" ∷ codes "FINAL" ∷ codes "LIMIT" ∷ codes "HEADER"
    ∷ codes "HEADERS" ∷ codes "ESCAPE" ∷ []

-- one or more decimal digits
abbrev pub are_digits : List ℕ → Bool
are_digits ds = nat_lt 0 (length ds) && list_all is_ascii_digit ds

-- whether a token of digits has at least one digit
abbrev pub is_written : TokenKind → Bool
is_written (kind.Digits digits) = are_digits digits
is_written _ = true

-- each of the tokens is
abbrev pub AreWritten : List TokenKind → Type 0
AreWritten ts = IsTrue (list_all is_written ts)

-- the number that digits spell, or the largest of 64 bits if it is larger
abbrev pub capped_value : List ℕ → ℕ
capped_value digits = min (digits_value 10 digits) (2 ^ 64 - 1)
