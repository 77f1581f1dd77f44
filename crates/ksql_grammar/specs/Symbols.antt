-- How the grammar sees a token: which words are reserved, and what is a name or a type.
use Rattle.std.specs.Prelude.{◌≡◌, ℕ, List, [], ◌∷◌, Option, Some, None, option_map, if◌then◌else◌, bytes_eq, codes, map}
use Rattle.std.specs.Str.Parse.{digits_value}
use Rattle.expression_trees.specs.Words.{beside}
use Rattle.ksql_types.specs.declared.value.SqlType.{SqlType}
use Rattle.ksql_types.specs.declared.value.SqlType.TheVariants as sql
use Rattle.ksql_types.specs.declared.operator.BinaryOp.{BinaryOp}
use Rattle.ksql_types.specs.declared.operator.BinaryOp.TheVariants as op
use Rattle.ksql_lexer.specs.declared.token.Mark.TheVariants as mark
use Rattle.ksql_lexer.specs.declared.token.TokenKind.{TokenKind}
use Rattle.ksql_lexer.specs.declared.token.TokenKind.TheVariants as kind
use Rattle.ksql_grammar.specs.declared.symbol.Keyword.{Keyword}
use Rattle.ksql_grammar.specs.declared.symbol.Keyword.TheVariants as key
use Rattle.ksql_grammar.specs.declared.symbol.Symbol.{Symbol}
use Rattle.ksql_grammar.specs.declared.symbol.Symbol.TheVariants as sym

-- the reserved words
abbrev pub reserved_words : List (List ℕ × Keyword)
reserved_words =
    (codes "CREATE", key.Create) ∷ (codes "STREAM", key.Stream) ∷ (codes "TABLE", key.Table) ∷ (codes "AS", key.As)
    ∷ (codes "SELECT", key.Select) ∷ (codes "FROM", key.From) ∷ (codes "WHERE", key.Where) ∷ (codes "GROUP", key.Group)
    ∷ (codes "BY", key.By) ∷ (codes "HAVING", key.Having) ∷ (codes "PARTITION", key.Partition) ∷ (codes "WINDOW", key.Window)
    ∷ (codes "JOIN", key.Join) ∷ (codes "INNER", key.Inner) ∷ (codes "LEFT", key.Left) ∷ (codes "RIGHT", key.Right)
    ∷ (codes "FULL", key.Full) ∷ (codes "OUTER", key.Outer) ∷ (codes "ON", key.On) ∷ (codes "WITH", key.With)
    ∷ (codes "AND", key.And) ∷ (codes "OR", key.Or) ∷ (codes "NOT", key.Not) ∷ (codes "NULL", key.Null)
    ∷ (codes "IS", key.Is) ∷ (codes "IN", key.In) ∷ (codes "LIKE", key.Like) ∷ (codes "BETWEEN", key.Between)
    ∷ (codes "CASE", key.Case) ∷ (codes "WHEN", key.When) ∷ (codes "THEN", key.Then) ∷ (codes "ELSE", key.Else)
    ∷ (codes "END", key.End) ∷ (codes "CAST", key.Cast) ∷ (codes "TRUE", key.True) ∷ (codes "FALSE", key.False)
    ∷ (codes "EMIT", key.Emit) ∷ (codes "LIMIT", key.Limit) ∷ (codes "WITHIN", key.Within) ∷ []

-- the reserved word that a word spells, if any
unfoldable pub keyword_of : List ℕ → Option Keyword
keyword_of word = beside reserved_words word

-- a word as the grammar sees it: reserved, or not
abbrev pub word_symbol : Option Keyword → List ℕ → Symbol
word_symbol (Some k) word = sym.Key k
word_symbol None word = sym.Word word

-- a token as the grammar sees it
abbrev pub symbol_of : TokenKind → Symbol
symbol_of (kind.Word word) = word_symbol (keyword_of word) word
symbol_of (kind.Quoted name) = sym.Quoted name
symbol_of (kind.Text content) = sym.Text content
symbol_of (kind.Digits digits) = sym.Number (digits_value 10 digits)
symbol_of (kind.Mark m) = sym.Sign m

-- the name that a symbol spells: a word that isn't reserved, or a backquoted name
abbrev pub name_of : Symbol → Option (List ℕ)
name_of (sym.Word word) = Some word
name_of (sym.Quoted name) = Some name
name_of _ = None

-- the types
abbrev pub type_words : List (List ℕ × SqlType)
type_words =
    (codes "INT", sql.Int) ∷ (codes "INTEGER", sql.Int) ∷ (codes "BIGINT", sql.Big) ∷ (codes "VARCHAR", sql.Text)
    ∷ (codes "STRING", sql.Text) ∷ (codes "BOOLEAN", sql.Bool) ∷ []

-- the type that a symbol names
abbrev pub type_of : Symbol → Option SqlType
type_of (sym.Word word) = beside type_words word
type_of _ = None

-- the operators of each level
abbrev pub or_of : Symbol → Option BinaryOp
or_of (sym.Key key.Or) = Some op.Or
or_of _ = None

abbrev pub and_of : Symbol → Option BinaryOp
and_of (sym.Key key.And) = Some op.And
and_of _ = None

abbrev pub comparison_of : Symbol → Option BinaryOp
comparison_of (sym.Sign mark.Equal) = Some op.Eq
comparison_of (sym.Sign mark.NotEqual) = Some op.Ne
comparison_of (sym.Sign mark.Less) = Some op.Lt
comparison_of (sym.Sign mark.LessEqual) = Some op.Le
comparison_of (sym.Sign mark.Greater) = Some op.Gt
comparison_of (sym.Sign mark.GreaterEqual) = Some op.Ge
comparison_of _ = None

abbrev pub sum_of : Symbol → Option BinaryOp
sum_of (sym.Sign mark.Plus) = Some op.Add
sum_of (sym.Sign mark.Minus) = Some op.Sub
sum_of (sym.Sign mark.Concat) = Some op.Concat
sum_of _ = None

abbrev pub product_of : Symbol → Option BinaryOp
product_of (sym.Sign mark.Star) = Some op.Mul
product_of (sym.Sign mark.Slash) = Some op.Div
product_of (sym.Sign mark.Percent) = Some op.Rem
product_of _ = None
