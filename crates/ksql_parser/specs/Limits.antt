-- The rules that refuse a statement, in order.
use Rattle.std.specs.Prelude.{◌≡◌, ℕ, ◌+◌, ◌<◌, Bool, true, false, ◌||◌, nat_lt, IsTrue, ◌⊎◌, List, [], ◌∷◌, length, take, count_by, bytes_eq, codes}
use Rattle.std.specs.List.{list_any}
use Rattle.std.specs.Str.Parse.{digits_value}
use Rattle.ksql_lexer.specs.declared.token.Mark.TheVariants as mark
use Rattle.ksql_lexer.specs.declared.token.TokenKind.{TokenKind}
use Rattle.ksql_lexer.specs.declared.token.TokenKind.TheVariants as kind
use Rattle.ksql_types.specs.declared.code.Code.{Code}
use Rattle.ksql_types.specs.declared.code.Code.TheVariants.{Syntax, TooLarge, Unsupported}
use Rattle.statement_trees.specs.declared.tree.Statement.{Statement}
use Rattle.ksql_parser.specs.Grammar.{IsSpelledBy}

-- whether a token is this word, in any case
abbrev pub is_word : List ℕ → TokenKind → Bool
is_word wanted (kind.Word word) = bytes_eq word wanted
is_word wanted _ = false

-- more than 2,000 tokens
abbrev pub HasTooMany : List TokenKind → Type 0
HasTooMany ts = 2000 < length ts

-- `(` and CASE
abbrev pub is_opening : TokenKind → Bool
is_opening (kind.Mark mark.Open) = true
is_opening t = is_word (codes "CASE") t

-- `)` and END
abbrev pub is_closing : TokenKind → Bool
is_closing (kind.Mark mark.Close) = true
is_closing t = is_word (codes "END") t

-- in some prefix, the number of `(` and CASE exceeds that of `)` and END by more than 64
abbrev pub IsTooDeep : List TokenKind → Type 0
IsTooDeep ts = (n : ℕ) × (count_by is_closing (take n ts) + 64 < count_by is_opening (take n ts))

-- whether a name has more than 128 bytes, a text more than 65,536, or digits are more than 9223372036854775807
abbrev pub is_too_large : TokenKind → Bool
is_too_large (kind.Word word) = nat_lt 128 (length word)
is_too_large (kind.Quoted name) = nat_lt 128 (length name)
is_too_large (kind.Text content) = nat_lt 65536 (length content)
is_too_large (kind.Digits digits) = nat_lt 9223372036854775807 (digits_value 10 digits)
is_too_large (kind.Mark m) = false

-- a token exceeds its limit
abbrev pub HasTooLarge : List TokenKind → Type 0
HasTooLarge ts = IsTrue (list_any is_too_large ts)

-- the tokens spell a statement
abbrev pub IsSpelled : List TokenKind → Type 0
IsSpelled ts = (s : Statement) × IsSpelledBy s ts

-- it begins with SELECT
abbrev pub begins_with_select : List TokenKind → Bool
begins_with_select [] = false
begins_with_select (t ∷ ts) = is_word (codes "SELECT") t

-- it has the word JOIN twice
abbrev pub joins_twice : List TokenKind → Bool
joins_twice ts = nat_lt 1 (count_by (is_word (codes "JOIN")) ts)

-- the words of unsupported parts of ksqlDB
abbrev pub unsupported_words : List (List ℕ)
unsupported_words =
    codes "INSERT" ∷ codes "DROP" ∷ codes "TERMINATE" ∷ codes "PAUSE" ∷ codes "RESUME" ∷ codes "EXPLAIN" ∷ codes "SHOW"
    ∷ codes "LIST" ∷ codes "DESCRIBE" ∷ codes "PRINT" ∷ codes "SET" ∷ codes "UNSET" ∷ codes "DEFINE" ∷ codes "UNDEFINE"
    ∷ codes "ALTER" ∷ codes "ASSERT" ∷ codes "REPLACE" ∷ codes "IF" ∷ codes "CONNECTOR" ∷ codes "DOUBLE"
    ∷ codes "DECIMAL" ∷ codes "TIMESTAMP" ∷ codes "DATE" ∷ codes "TIME" ∷ codes "BYTES" ∷ codes "ARRAY" ∷ codes "MAP"
    ∷ codes "STRUCT" ∷ codes "RIGHT" ∷ codes "WITHIN" ∷ codes "SESSION" ∷ codes "FINAL" ∷ codes "LIMIT"
    ∷ codes "HEADER" ∷ codes "HEADERS" ∷ codes "ESCAPE" ∷ []

-- whether a token is one of these words
abbrev pub is_unsupported : TokenKind → Bool
is_unsupported t = list_any (λ word. is_word word t) unsupported_words

-- it has a form that isn't supported
abbrev pub HasUnsupported : List TokenKind → Type 0
HasUnsupported ts = IsTrue (begins_with_select ts || joins_twice ts || list_any is_unsupported ts)

-- the rules
pub data Rule : Type 0 where
  too_many too_deep too_large unsupported unspelled : Rule

-- the rules, in order
abbrev pub rules : List Rule
rules = too_many ∷ too_deep ∷ too_large ∷ unsupported ∷ unspelled ∷ []

-- what each rule refuses
abbrev pub Refuses : Rule → List TokenKind → Type 0
Refuses too_many ts = HasTooMany ts
Refuses too_deep ts = IsTooDeep ts
Refuses too_large ts = HasTooLarge ts
Refuses unsupported ts = ¬ IsSpelled ts × HasUnsupported ts
Refuses unspelled ts = ¬ IsSpelled ts

-- the code of each rule
abbrev pub code_of : Rule → Code
code_of too_many = TooLarge
code_of too_deep = TooLarge
code_of too_large = TooLarge
code_of unsupported = Unsupported
code_of unspelled = Syntax

-- the first of these rules that refuses a statement has this code
abbrev pub RefusesFirst : List Rule → List TokenKind → Code → Type 0
RefusesFirst [] ts code = ⊥
RefusesFirst (r ∷ rs) ts code = (Refuses r ts × (code ≡ code_of r)) ⊎ (¬ Refuses r ts × RefusesFirst rs ts code)

-- none of these rules refuses it
abbrev pub NoneRefuses : List Rule → List TokenKind → Type 0
NoneRefuses [] ts = Unit {0}
NoneRefuses (r ∷ rs) ts = ¬ Refuses r ts × NoneRefuses rs ts
